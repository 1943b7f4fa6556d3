-- What an Adaptive target permits, part by part.
use Rattle.std.proofs.Common.{◌≡◌, ℕ, Bool, true, ◌&&◌, Some}
use Rattle.std.proofs.lemmas.Bool.{and_parts}
use Rattle.std.specs.List.{list_all}
use Rattle.std.specs.Prelude.{◌||◌, nat_lt, slice_get}
use Rattle.ir_values.specs.declared.int.Width.{Width}
use Rattle.ir_values.specs.Values.{is_bit}
use Rattle.kept_items.specs.declared.item.Item.{Item}
use Rattle.kept_items.specs.declared.target.Caps.{Caps}
use Rattle.kept_items.specs.declared.target.Target.TheVariants.{Adaptive}
use Rattle.kept_items.specs.declared.val.Dyn.{Dyn}
use Rattle.residue.specs.declared.parts.Part.{Part}
use Rattle.residue.specs.declared.parts.Residue.{Residue}
use Rattle.residue.specs.Functions.{all_items}
use Rattle.residue.specs.Valid.{Valid, all_tails, caps_permit, caps_permit_params, caps_permit_tail, count_returns}
use Rattle.printed_residue.proofs.Declared.{Among}
use Rattle.printed_residue.proofs.Facts.{passes-here}

module _ (r : Residue) (caps : Caps) (ok : Valid r (Adaptive caps)) where
  abbrev few_returns : Bool
  few_returns = caps.returns || nat_lt (count_returns r.parts) 2

  behind_items : (all_tails (caps_permit_tail caps) r && (list_all (caps_permit_params caps) r.parts && few_returns)) ≡ true
  behind_items = (and_parts (list_all (caps_permit caps) (all_items r)) (all_tails (caps_permit_tail caps) r && (list_all (caps_permit_params caps) r.parts && few_returns)) ok.permits).1

  behind_tails : (list_all (caps_permit_params caps) r.parts && few_returns) ≡ true
  behind_tails = (and_parts (all_tails (caps_permit_tail caps) r) (list_all (caps_permit_params caps) r.parts && few_returns) behind_items).1

  pub item-permitted : (x : Item) → Among (all_items r) x → caps_permit caps x ≡ true
  item-permitted x a = passes-here (caps_permit caps) (all_items r) a.0 x (and_parts (list_all (caps_permit caps) (all_items r)) (all_tails (caps_permit_tail caps) r && (list_all (caps_permit_params caps) r.parts && few_returns)) ok.permits).0 a.1

  pub tail-permitted : (n : ℕ) (p : Part) → slice_get r.parts n ≡ Some p → caps_permit_tail caps p.tail ≡ true
  tail-permitted n p s = passes-here (λ p. caps_permit_tail caps p.tail) r.parts n p (and_parts (all_tails (caps_permit_tail caps) r) (list_all (caps_permit_params caps) r.parts && few_returns) behind_items).0 s

  pub parameter-permitted : (n : ℕ) (p : Part) → slice_get r.parts n ≡ Some p → (k : ℕ) (x : Dyn × Width) → slice_get p.params k ≡ Some x → (caps.ints || is_bit x.1) ≡ true
  parameter-permitted n p s k x g =
      passes-here (λ (x : Dyn × Width). caps.ints || is_bit x.1) p.params k x
      (passes-here (caps_permit_params caps) r.parts n p (and_parts (list_all (caps_permit_params caps) r.parts) few_returns behind_tails).0 s) g

  pub returns-permitted : (caps.returns || nat_lt (count_returns r.parts) 2) ≡ true
  returns-permitted = (and_parts (list_all (caps_permit_params caps) r.parts) few_returns behind_tails).1
