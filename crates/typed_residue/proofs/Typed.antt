-- The module breaks no rule of admission.
use Rattle.std.proofs.Common.{◌≡◌, ℕ, true, false, sym, ◌∙◌}
use Rattle.ir_module.specs.declared.places.Spot.{Spot}
use Rattle.kept_items.specs.declared.target.Target.{Target}
use Rattle.residue.specs.declared.parts.Residue.{Residue}
use Rattle.residue.specs.Printed.{printed}
use Rattle.residue.specs.Valid.{Valid}
use Rattle.type_check.specs.declared.code.TypeCode.{TypeCode}
use Rattle.type_check.specs.declared.code.TypeCode.TheVariants as code
use Rattle.type_check.specs.Faults.{Fault, Typed, keeps_rule}
use Rattle.typed_residue.specs.Laws.{FitsLimit}
use Rattle.typed_residue.proofs.FirstBlocks.{first-blocks}
use Rattle.typed_residue.proofs.Numbers.{stated-plain, stays-below}
use Rattle.typed_residue.proofs.PhiEntries.{phi-entries}
use Rattle.typed_residue.proofs.Rules.{cases, entry, knows, names, signature, types}

clash : true ≡ false → ⊥
clash e = cc

module _ (r : Residue) (t : Target) (ok : Valid r t) (limit : ℕ) (fits : FitsLimit r limit) where
  kept : (s : Spot) (c : TypeCode) → keeps_rule (printed r t) limit s c ≡ true
  kept s code.Types = types r t ok limit s
  kept s code.PhiEntries = phi-entries r t ok limit s
  kept s code.EntryBlock = first-blocks r t ok limit s
  kept s code.SwitchCase = cases r t ok limit s
  kept s code.NoEntry = entry r t ok limit s
  kept s code.BadNumberAttr = stated-plain r t ok limit fits s
  kept s code.IdRange = stays-below r t ok limit fits s
  kept s code.UnknownDecl = knows r t ok limit s
  kept s code.EntrySignature = signature r t ok limit s
  kept s code.ReservedName = names r t ok limit s

  no-fault : (s : Spot) (c : TypeCode) → Fault (printed r t) limit s c → ⊥
  no-fault s code.IdRange e = clash (sym (kept s code.IdRange) ∙ e.1)
  no-fault s code.Types e = clash (sym (kept s code.Types) ∙ e)
  no-fault s code.PhiEntries e = clash (sym (kept s code.PhiEntries) ∙ e)
  no-fault s code.EntryBlock e = clash (sym (kept s code.EntryBlock) ∙ e)
  no-fault s code.SwitchCase e = clash (sym (kept s code.SwitchCase) ∙ e)
  no-fault s code.NoEntry e = clash (sym (kept s code.NoEntry) ∙ e)
  no-fault s code.BadNumberAttr e = clash (sym (kept s code.BadNumberAttr) ∙ e)
  no-fault s code.UnknownDecl e = clash (sym (kept s code.UnknownDecl) ∙ e)
  no-fault s code.EntrySignature e = clash (sym (kept s code.EntrySignature) ∙ e)
  no-fault s code.ReservedName e = clash (sym (kept s code.ReservedName) ∙ e)

  pub typed : Typed (printed r t) limit
  typed s c = no-fault s c
