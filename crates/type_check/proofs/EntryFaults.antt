-- The search for faults against the rules on the entry goes along the functions.
use Rattle.std.proofs.Common.{◌≡◌, ℕ, zero, suc, ◌+◌, Bool, true, false, ◌||◌, not, cond, eqb, Option, None, Some, find, List, [], ◌∷◌, ◌++◌, length, append_assoc, slice_get, refl, sym, ap, ◌∙◌, arith, option_map, option_and_then}
use Rattle.ir_module.specs.declared.places.Point.{Point}
use Rattle.ir_module.specs.declared.places.Spot.{Spot}
use Rattle.ir_module.specs.declared.places.Spot.TheVariants as spot
use Rattle.ir_module.specs.declared.tree.Block.{Block}
use Rattle.ir_module.specs.declared.tree.Function.{Function}
use Rattle.ir_module.specs.declared.tree.Module.{Module}
use Rattle.ir_module.specs.Entry.{Entry, attribute_of, is_entry, entry_of, entry_from}
use Rattle.ir_module.specs.Spots.{points_from, block_spots, blocks_spots, functions_spots}
use Rattle.ir_module.specs.Tree.{blocks_of}
use Rattle.type_check.specs.declared.code.TypeCode.{TypeCode}
use Rattle.type_check.specs.declared.code.TypeCode.TheVariants as code
use Rattle.type_check.specs.code.Entries.{entry_breaks, entries_fault}
use Rattle.type_check.specs.code.Search.{broken, first_at, first_in, entry_rules, entry_fault}
use Rattle.type_check.specs.Faults.{keeps_rule}
use Rattle.type_check.specs.Required.{numbers_are_plain, stated_by, stated}
use Rattle.type_check.specs.Rules.{is_entry_type}

-- the entry is the first function that is one
entry-found : (n : ℕ) (fs : List Function) → find is_entry fs ≡ option_map (λ e. e.function) (entry_from n fs)
entry-found n [] = refl
entry-found n (f ∷ fs) = by (is_entry f) (entry-found (suc n) fs)
  where
    by : (b : Bool) → find is_entry fs ≡ option_map (λ e. e.function) (entry_from (suc n) fs) → cond b (Some f) (find is_entry fs) ≡ option_map (λ (e : Entry). e.function) (cond b (Some (record { number = n; function = f })) (entry_from (suc n) fs))
    by true h = refl
    by false h = h

pub entry_is : (m : Module) → find is_entry m.funcs ≡ option_map (λ e. e.function) (entry_of m)
unfolding entry_of
entry_is m = entry-found 0 m.funcs

pub stated_is : (key : List ℕ) (limit : ℕ) (e : Option Entry) → option_and_then (stated_by limit) (option_and_then (λ f. attribute_of key f.attrs) (option_map (λ e. e.function) e)) ≡ stated key limit e
stated_is key limit None = refl
stated_is key limit (Some e) = refl

module _ (m : Module) (limit : ℕ) where
  -- no rule on the entry is looked at on points
  at-point : (p : Point) → broken m limit entry_rules (spot.At p) ≡ None
  unfolding keeps_rule
  at-point p = refl

  points-none : (f b i n : ℕ) (rest : List Spot) → first_in m limit entry_rules (points_from f b i n ++ rest) ≡ first_in m limit entry_rules rest
  points-none f b i zero rest = refl
  points-none f b i (suc n) rest = ap (λ o. first_at (spot.At (record { func = record { 0 = f }; block = record { 0 = b }; index = i })) o (first_in m limit entry_rules (points_from f b (suc i) n ++ rest))) (at-point (record { func = record { 0 = f }; block = record { 0 = b }; index = i })) ∙ points-none f b (suc i) n rest

  blocks-none : (f b : ℕ) (bs : List Block) (rest : List Spot) → first_in m limit entry_rules (blocks_spots f b bs ++ rest) ≡ first_in m limit entry_rules rest
  blocks-none f b [] rest = refl
  blocks-none f b (c ∷ bs) rest =
      ap (first_in m limit entry_rules) (append_assoc (block_spots f b c) (blocks_spots f (suc b) bs) rest)
      ∙ points-none f b 0 (suc (length c.phis + length c.insts)) (blocks_spots f (suc b) bs ++ rest)
      ∙ blocks-none f (suc b) bs rest

  module _ (e : Entry) (is : entry_of m ≡ Some e) where
    -- the rules at one function
    at-function : (g : ℕ) (f : Function) → slice_get m.funcs g ≡ Some f → broken m limit entry_rules (spot.Func (record { 0 = g })) ≡ entry_breaks limit e.number g f
    unfolding keeps_rule
    at-function g f at = rw (at, is) (by (eqb g e.number) (is_entry f) (numbers_are_plain limit f) (is_entry_type f))
      where
        by : (q i n t : Bool)
            → cond (not (q || not i)) (Some code.NoEntry) (cond (not (not q || n)) (Some code.BadNumberAttr) (cond (not (not q || t)) (Some code.EntrySignature) None))
            ≡ cond q (cond n (cond t None (Some code.EntrySignature)) (Some code.BadNumberAttr)) (cond i (Some code.NoEntry) None)
        by true i true true = refl
        by true i true false = refl
        by true i false t = refl
        by false true n t = refl
        by false false n t = refl

    functions : (g : ℕ) (fs : List Function) → ((j : ℕ) (f : Function) → slice_get fs j ≡ Some f → slice_get m.funcs (g + j) ≡ Some f) → first_in m limit entry_rules (functions_spots g fs) ≡ entries_fault limit e.number g fs
    functions g [] h = refl
    functions g (f ∷ fs) h =
        let z : g ≡ g + 0 = omega arith in
        let here : slice_get m.funcs g ≡ Some f = ap (slice_get m.funcs) z ∙ h 0 f refl in
        let next : suc g ≡ g + 1 = omega arith in
        let rest = functions (suc g) fs (λ j d q. let y : suc g + j ≡ g + suc j = omega arith in ap (slice_get m.funcs) y ∙ h (suc j) d q) in
        ap (λ o. first_at (spot.Func (record { 0 = g })) o (first_in m limit entry_rules (blocks_spots g 0 (blocks_of f) ++ functions_spots (suc g) fs))) (at-function g f here)
        ∙ ap (first_at (spot.Func (record { 0 = g })) (entry_breaks limit e.number g f)) (blocks-none g 0 (blocks_of f) (functions_spots (suc g) fs) ∙ rest ∙ ap (λ n. entries_fault limit e.number n fs) next)

    pub with-entry : entry_fault m limit ≡ entries_fault limit e.number 0 m.funcs
    unfolding keeps_rule
    with-entry = at-module ∙ functions 0 m.funcs (λ j f h. let z : 0 + j ≡ j = omega arith in ap (slice_get m.funcs) z ∙ h)
      where
        at-module : entry_fault m limit ≡ first_in m limit entry_rules (functions_spots 0 m.funcs)
        at-module = rw is refl

  pub without-entry : entry_of m ≡ None → entry_fault m limit ≡ Some (spot.Module, code.NoEntry)
  unfolding keeps_rule
  without-entry is = rw is refl

  abbrev pub told : Option ℕ → Option (Spot × TypeCode)
  told None = Some (spot.Module, code.NoEntry)
  told (Some e) = entries_fault limit e 0 m.funcs

  pub entry_fault_is : told (option_map (λ e. e.number) (entry_of m)) ≡ entry_fault m limit
  entry_fault_is = by (entry_of m) refl
    where
      by : (o : Option Entry) → entry_of m ≡ o → told (option_map (λ e. e.number) o) ≡ entry_fault m limit
      by None is = sym (without-entry is)
      by (Some e) is = sym (with-entry e is)
