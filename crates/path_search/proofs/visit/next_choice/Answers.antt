use Rattle.std.proofs.Common.{◌≡◌, ◌-◌, ◌++◌, ◌∷◌, [], Some, List, suc, length, refl, sym, ap, ◌∙◌, arith, subst, set}
use Rattle.std.specs.Prelude.{slice_get}
use Rattle.std.proofs.lemmas.Option.{same_Some}
use Rattle.path_search.specs.declared.visit.Frame.{Frame}
use Rattle.path_search.specs.code.Visit.{next_frame}
use Rattle.path_search.proofs.Lists.{length_push, get_last}
use Rattle.path_search.proofs.Visits.{last_frame, set_last}
use Rattle.path_search.proofs.visit.next_choice.Goals as goal

-- the frame that is read is the last
is_last : (stack lower : List Frame) (top x : Frame) (n : _) → stack ≡ lower ++ top ∷ [] → n ≡ length stack - 1 → slice_get stack n ≡ Some x → x ≡ top
is_last stack lower top x n e d r =
    same_Some x top (sym r ∙ ap (λ s. slice_get s n) e ∙ ap (slice_get (lower ++ top ∷ [])) (omega (arith, d, ap length e, length_push lower top)) ∙ get_last lower [] top)

pub overflow_add-top : goal.overflow_add-top
overflow_add-top c =
    let t = last_frame c.args.stack.now c.requires.inside in
    let e : c.at-top.result.now ≡ t.1 = is_last c.args.stack.now t.0 t.1 c.at-top.result.now (c.len-last.result - 1) t.2 (ap (λ n. n - 1) c.len-last.ensures) c.at-top.ensures in
    omega (arith, ap (λ (f : Frame). f.choice) e, c.requires.room t.0 t.1 t.2)

pub returns : goal.returns
returns c = record {
  next = λ lower top e.
      let n : c.len-last.result - 1 ≡ length lower = omega (arith, c.len-last.ensures, ap length e, length_push lower top) in
      let same : c.at-top.result.now ≡ top = is_last c.args.stack.now lower top c.at-top.result.now (c.len-last.result - 1) e (ap (λ n. n - 1) c.len-last.ensures) c.at-top.ensures in
      c.set.ensures ∙ ap (λ f. set c.args.stack.now (c.len-last.result - 1) (next_frame f)) same ∙ ap (λ k. set c.args.stack.now k (next_frame top)) n ∙ ap (λ s. set s (length lower) (next_frame top)) e ∙ set_last lower top (next_frame top);
}
