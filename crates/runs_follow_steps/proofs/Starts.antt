-- The start of constant evaluation describes the start of a run.
use Rattle.std.proofs.Common.{◌≡◌, ℕ, ◌+◌, ◌-◌, ◌≤◌, suc, Bool, true, false, None, Some, List, [], ◌∷◌, length, refl, sym, ap, ◌∙◌, subst, arith}
use Rattle.std.proofs.lemmas.List.{length-replicate}
use Rattle.std.specs.Prelude.{if◌then◌else◌, Option, slice_get}
use Rattle.backend_api.specs.declared.operation.Answer.{Answer}
use Rattle.ir_module.specs.declared.places.Point.{Point}
use Rattle.ir_module.specs.declared.tree.Function.{Function}
use Rattle.ir_module.specs.declared.tree.Module.{Module}
use Rattle.ir_module.specs.Entry.{Entry, entry_from, entry_of, is_entry}
use Rattle.ir_values.specs.declared.ids.LocalId.{LocalId}
use Rattle.ir_values.specs.declared.value.Value.{Value}
use Rattle.qir_meaning.specs.code.Steps.{whole_start}
use Rattle.qir_meaning.specs.State.{frame}
use Rattle.static_steps.specs.Steps.{start_of}
use Rattle.runs_follow_steps.specs.Describes.{Describes, locals_in_some}
use Rattle.runs_follow_steps.proofs.Frames.{no-value}

-- the entry is the function of its number
entry-at : (fs : List Function) (n : ℕ) (e : Entry) → entry_from n fs ≡ Some e → (j : ℕ) × (e.number ≡ n + j) × (slice_get fs j ≡ Some e.function)
entry-at [] n e h = cc
entry-at (f ∷ fs) n e h = by-test (is_entry f) (entry-at fs (suc n) e) h
  where
    by-test : (b : Bool) → (entry_from (suc n) fs ≡ Some e → (j : ℕ) × (e.number ≡ suc n + j) × (slice_get fs j ≡ Some e.function))
        → (if b then Some (record { number = n; function = f }) else entry_from (suc n) fs) ≡ Some e
        → (j : ℕ) × (e.number ≡ n + j) × (slice_get (f ∷ fs) j ≡ Some e.function)
    by-test true ih h =
        let here : (record { number = n; function = f }) ≡ e = cc in
        (0, (let same : n ≡ e.number = ap (λ (x : Entry). x.number) here in omega (arith, same)), ap (λ (x : Entry). Some x.function) here)
    by-test false ih h = let r = ih h in let q = r.1 in (suc r.0, omega (arith, q), r.2)

in-module : (m : Module) (e : Entry) → entry_of m ≡ Some e → slice_get m.funcs e.number ≡ Some e.function
unfolding entry_of
in-module m e h =
    let r = entry-at m.funcs 0 e h in
    let same : e.number ≡ r.0 = (let q = r.1 in omega (arith, q)) in
    ap (λ n. slice_get m.funcs n) same ∙ r.2

pub describes-start : (m : Module) (live : Point → LocalId → Bool) (e : Entry) (answers : List Answer) → entry_of m ≡ Some e
    → Describes m live [] (start_of (record { 0 = e.number })) (whole_start e answers)
describes-start m live e answers h = record {
  at = refl;
  fits = record {
    top = record {
      names = λ x l. no-value (length e.function.locals - 0) x.0;
      long = subst (λ n. n ≤ length (frame e.function [])) (sym (ap locals_in_some (in-module m e h))) long-enough;
    };
    below = tt;
    allocated = refl;
    held = refl;
    returned = refl;
  };
  count = refl;
}
  where
    long-enough : length e.function.locals ≤ length (frame e.function [])
    long-enough =
        let z : Option Value = None in
        let c = length-replicate (length e.function.locals - 0) z in
        omega (arith, c)
