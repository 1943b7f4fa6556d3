-- The entry of a module without faults.
use Rattle.std.proofs.Common.{◌≡◌, ℕ, suc, ◌+◌, Bool, true, false, cond, is_some, IsSome, IsSomeAnd, Option, None, Some, List, [], ◌∷◌, slice_get, codes, refl, sym, ap, ◌∙◌, subst, arith, option_map}
use Rattle.std.proofs.lemmas.Bool.{and_parts}
use Rattle.ir_values.specs.declared.ids.FuncId.{FuncId}
use Rattle.ir_module.specs.declared.places.Spot.TheVariants as spot
use Rattle.ir_module.specs.declared.tree.Function.{Function}
use Rattle.ir_module.specs.declared.tree.Module.{Module}
use Rattle.ir_module.specs.Entry.{Entry, entry_from, entry_of, has_attribute, is_entry}
use Rattle.name_flow.specs.Tables.{HasBody}
use Rattle.type_check.specs.declared.code.TypeCode.TheVariants as code
use Rattle.type_check.specs.Faults.{keeps_rule}
use Rattle.type_check.proofs.Facts.{keeps}
use Rattle.admission.specs.Admitted.{IsAdmitted, IsEntryOf, greatest_required}

entry-at : (n : ℕ) (f : Function) (fs : List Function) (e : Entry) (b : Bool) → is_entry f ≡ b → (entry_from (suc n) fs ≡ Some e → (i : ℕ) × (e.number ≡ suc n + i) × (slice_get fs i ≡ Some e.function) × (is_entry e.function ≡ true)) → cond b (Some (record { number = n; function = f })) (entry_from (suc n) fs) ≡ Some e → (i : ℕ) × (e.number ≡ n + i) × (slice_get (f ∷ fs) i ≡ Some e.function) × (is_entry e.function ≡ true)
entry-at n f fs e true t rest h =
    let q : ◌≡◌ {A = Entry} (record { number = n; function = f }) e = cc in
    let z : n ≡ e.number = ap (λ (x : Entry). x.number) q in
    let g : f ≡ e.function = ap (λ (x : Entry). x.function) q in
    (0, omega (arith, z), ap Some g, subst (λ x. is_entry x ≡ true) g t)
entry-at n f fs e false t rest h = let q = rest h in (suc q.0, omega (arith, q.1), q.2, q.3)

entry-from : (n : ℕ) (fs : List Function) (e : Entry) → entry_from n fs ≡ Some e → (i : ℕ) × (e.number ≡ n + i) × (slice_get fs i ≡ Some e.function) × (is_entry e.function ≡ true)
entry-from n [] e h = cc
entry-from n (f ∷ fs) e h = entry-at n f fs e (is_entry f) refl (entry-from (suc n) fs e) h

-- a function of its number is the entry
pub entry_at : (m : Module) (e : Entry) → entry_of m ≡ Some e → (slice_get m.funcs e.number ≡ Some e.function) × (is_entry e.function ≡ true)
unfolding entry_of
entry_at m e h = let q = entry-from 0 m.funcs e h in let z : e.number ≡ q.0 = omega (arith, q.1) in (ap (slice_get m.funcs) z ∙ q.2, q.3)

-- a module without faults has one
pub has_entry : (m : Module) → IsAdmitted m → is_some (entry_of m) ≡ true
unfolding keeps_rule
has_entry m h = (and_parts (is_some (entry_of m)) true (keeps m greatest_required h.typed spot.Module code.NoEntry)).0

-- the function of its number is its function
pub entry_is : (m : Module) (g : FuncId) → option_map (λ (e : Entry). e.number) (entry_of m) ≡ Some g.0 → IsEntryOf m g
entry_is m g h = record { number = h; function = by (entry_of m) refl h }
  where
    by : (o : Option Entry) → entry_of m ≡ o → option_map (λ (e : Entry). e.number) o ≡ Some g.0 → slice_get m.funcs g.0 ≡ option_map (λ (e : Entry). e.function) (entry_of m)
    by None is e = cc
    by (Some e) is k = let z : g.0 ≡ e.number = cc in ap (slice_get m.funcs) z ∙ (entry_at m e is).0 ∙ sym (ap (option_map (λ (e : Entry). e.function)) is)

pub entry_body : (m : Module) (g : FuncId) → option_map (λ (e : Entry). e.number) (entry_of m) ≡ Some g.0 → HasBody m g
entry_body m g h = by (entry_of m) refl h
  where
    by : (o : Option Entry) → entry_of m ≡ o → option_map (λ (e : Entry). e.number) o ≡ Some g.0 → HasBody m g
    by None is k = cc
    by (Some e) is k =
        let z : g.0 ≡ e.number = cc in
        let at = entry_at m e is in
        let body = and_parts (is_some e.function.blocks) (has_attribute (codes "entry_point") e.function.attrs) at.1 in
        subst (λ (o : Option Function). IsSomeAnd o (λ f. IsSome f.blocks)) (sym (ap (slice_get m.funcs) z ∙ at.0)) body.0

-- so the search for it finds one
pub none_is : (m : Module) → IsAdmitted m → (r : Option FuncId) → r ≡ None → option_map (λ (g : FuncId). g.0) r ≡ option_map (λ (e : Entry). e.number) (entry_of m) → ⊥
none_is m h None e k = by (entry_of m) (has_entry m h) k
  where
    by : (o : Option Entry) → is_some o ≡ true → ◌≡◌ {A = Option ℕ} None (option_map (λ (e : Entry). e.number) o) → ⊥
    by None t k = cc
    by (Some x) t k = cc
none_is m h (Some g) e k = cc
