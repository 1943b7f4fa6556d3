-- The names of the entry and of the constants.
use Rattle.std.proofs.Common.{◌≡◌, ℕ, Bool, true, false, is_some, Some, List, [], ◌∷◌, ◌++◌, map, slice_get, refl, sym, ap, ◌∙◌, subst}
use Rattle.std.proofs.lemmas.Bool.{and_from, and_parts, eqb-false, ne_eqb, or_from, or_parts, true≢false}
use Rattle.std.specs.Cmp.{unsigned_Decides}
use Rattle.std.specs.Cmp.Lexicographic.{pointwise_decides}
use Rattle.std.specs.List.{list_all, list_any}
use Rattle.std.specs.Prelude.{◌&&◌, codes, not}
use Rattle.ir_module.specs.declared.places.Spot.TheVariants as spot
use Rattle.ir_module.specs.declared.tree.Constant.{Constant}
use Rattle.ir_module.specs.declared.tree.Function.{Function}
use Rattle.ir_module.specs.declared.tree.Module.{Module}
use Rattle.ir_module.specs.Entry.{Entry, entry_of, has_attribute}
use Rattle.ir_module.specs.Numbered.{Numbered, are_distinct, are_few, global_names, local_names, same_name}
use Rattle.ir_module.specs.Tree.{blocks_of}
use Rattle.ir_values.specs.declared.ids.FuncId.{FuncId}
use Rattle.ir_values.specs.declared.name.Name.{Name}
use Rattle.ir_values.specs.declared.name.Name.TheVariants as name
use Rattle.ir_values.specs.Calls.{same_text}
use Rattle.residue.specs.Valid.{is_own_name}
use Rattle.type_check.specs.declared.code.TypeCode.TheVariants as code
use Rattle.type_check.specs.Faults.{Typed, keeps_rule, on_function}
use Rattle.type_check.specs.Rules.{body_has_own_name, constants_have_own_names, is_reserved}
use Rattle.type_check.proofs.Facts.{keeps}
use Rattle.typed_runs.proofs.Wholes.{entry-is}
use Rattle.valid_residue.proofs.Lists.{get-map, none-apart, none-at, not-true}

-- ---- names that differ

text-turned : (a b : List ℕ) → same_text a b ≡ false → same_text b a ≡ false
text-turned a b h = by (same_text b a) refl
  where
    by : (s : Bool) → same_text b a ≡ s → s ≡ false
    by false e = refl
    by true e =
        let same : b ≡ a = (pointwise_decides unsigned_Decides b a).0 e in
        absurd (true≢false (sym ((pointwise_decides unsigned_Decides a b).1 (sym same)) ∙ h))

pub name-turned : (a b : Name) → same_name a b ≡ false → same_name b a ≡ false
name-turned (name.Text a) (name.Text b) h = text-turned a b h
name-turned (name.Text a) (name.Number n) h = refl
name-turned (name.Number n) (name.Text b) h = refl
name-turned (name.Number m) (name.Number n) h = ne_eqb n m (λ e. eqb-false m n h (sym e))

-- of names that are distinct none of the first list is the one that stands in the second
not-before : (xs ys : List Name) (i : ℕ) (n : Name) → are_distinct (xs ++ ys) ≡ true → slice_get ys i ≡ Some n → (are_distinct xs ≡ true) × (list_any (same_name n) xs ≡ false)
not-before [] ys i n h e = (refl, refl)
not-before (x ∷ xs) ys i n h e =
    let p = and_parts (not (list_any (same_name x) (xs ++ ys))) (are_distinct (xs ++ ys)) h in
    let a = none-apart (same_name x) xs ys (not-true (list_any (same_name x) (xs ++ ys)) p.0) in
    let ih = not-before xs ys i n p.1 e in (
      and_from (not (list_any (same_name x) xs)) (are_distinct xs) (ap not a.0) ih.0,
      or_from (same_name n x) (list_any (same_name n) xs) (name-turned x n (none-at (same_name x) ys i n a.1 e)) ih.1,
    )

-- ---- names of one's own

own-constants : (cs : List Constant) → not (list_any (λ (c : Constant). is_reserved c.name) cs) ≡ true → list_all is_own_name (map (λ (c : Constant). c.name) cs) ≡ true
own-constants cs h = each cs (not-true (list_any (λ (c : Constant). is_reserved c.name) cs) h)
  where
    each : (cs : List Constant) → list_any (λ (c : Constant). is_reserved c.name) cs ≡ false → list_all is_own_name (map (λ (c : Constant). c.name) cs) ≡ true
    each [] h = refl
    each (c ∷ cs) h =
        let p = or_parts (is_reserved c.name) (list_any (λ (c : Constant). is_reserved c.name) cs) h in
        and_from (is_own_name c.name) (list_all is_own_name (map (λ (c : Constant). c.name) cs)) (ap not p.0) (each cs p.1)

own-body : (some reserved : Bool) → not (some && reserved) ≡ true → some ≡ true → not reserved ≡ true
own-body true reserved h e = h
own-body false reserved h e = cc

module _ (m : Module) (limit : ℕ) (typed : Typed m limit) where
  constants-own : list_all is_own_name (map (λ (c : Constant). c.name) m.globals) ≡ true
  unfolding keeps_rule
  constants-own = own-constants m.globals (and_parts (constants_have_own_names m) true (keeps m limit typed spot.Module code.ReservedName)).0

  body-own : (g : FuncId) (f : Function) → slice_get m.funcs g.0 ≡ Some f → body_has_own_name f ≡ true
  unfolding keeps_rule
  body-own g f at = subst (λ o. on_function o (λ h. body_has_own_name h) ≡ true) at (keeps m limit typed (spot.Func g) code.ReservedName)

  module _ (e : Entry) (is : entry_of m ≡ Some e) (distinct : are_distinct (global_names m) ≡ true) where
    abbrev constants : List Name
    constants = map (λ (c : Constant). c.name) m.globals

    pub entry-differs : (are_distinct (e.function.name ∷ constants) && list_all is_own_name (e.function.name ∷ constants)) ≡ true
    entry-differs =
        let there = entry-is m e is in
        let apart = not-before constants (map (λ (f : Function). f.name) m.funcs) e.number e.function.name distinct (get-map (λ (f : Function). f.name) m.funcs e.number e.function there.0) in
        let body = (and_parts (is_some e.function.blocks) (has_attribute (codes "entry_point") e.function.attrs) there.1).0 in
        and_from (are_distinct (e.function.name ∷ constants)) (list_all is_own_name (e.function.name ∷ constants))
        (and_from (not (list_any (same_name e.function.name) constants)) (are_distinct constants) (ap not apart.1) apart.0)
        (and_from (is_own_name e.function.name) (list_all is_own_name constants)
        (own-body (is_some e.function.blocks) (is_reserved e.function.name) (body-own (record { 0 = e.number }) e.function there.0) body) constants-own)

-- constants are few
pub few-constants : (m : Module) → Numbered m → are_few m.globals ≡ true
few-constants m h = (and_parts (are_few m.globals) (are_few m.funcs && list_all (λ (f : Function). are_few (blocks_of f)) m.funcs) h.few).0

pub distinct-names : (m : Module) → Numbered m → are_distinct (global_names m) ≡ true
distinct-names m h = (and_parts (are_distinct (global_names m)) (list_all (λ (f : Function). are_distinct (local_names f)) m.funcs) h.distinct).0
