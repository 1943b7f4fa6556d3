-- A step's working state and the configuration that it is packed into say the same.
use Rattle.std.proofs.Common.{◌≡◌, ℕ, zero, suc, ◌+◌, ◌<◌, Bool, true, false, Option, Some, List, [], ◌∷◌, ◌++◌, length, map, refl, sym, ap, ◌∙◌, subst, arith, append_assoc, append-nil, length-append}
use Rattle.std.proofs.lemmas.List.{map-append, length-map}
use Rattle.std.specs.Prelude.{◌==◌, if◌then◌else◌, slice_get}
use Rattle.ir_module.specs.declared.places.Point.{Point}
use Rattle.ir_module.specs.declared.tree.Module.{Module}
use Rattle.ir_values.specs.declared.value.Value.{Value}
use Rattle.ir_values.specs.declared.value.Value.TheVariants as value
use Rattle.ir_values.specs.Int.{IntValue}
use Rattle.qir_meaning.specs.State.{Env, State, value_at}
use Rattle.qir_meaning.specs.code.Steps.{Waiting}
use Rattle.ir_values.specs.declared.ids.LocalId.{LocalId}
use Rattle.kept_items.specs.declared.val.Dyn.{Dyn}
use Rattle.kept_items.specs.declared.val.Val.{Val}
use Rattle.kept_items.specs.declared.val.Val.TheVariants.{Known, Dynamic}
use Rattle.kept_items.specs.Items.{dynamic}
use Rattle.static_steps.specs.declared.work.Work.{Work}
use Rattle.static_steps.specs.declared.work.WorkFrame.{WorkFrame}
use Rattle.static_steps.specs.Settings.{move_to, settled}
use Rattle.static_steps.specs.Values.{Names, look, with_number, without_number, number_of, numbers, shape, numbered, dynamics, is_dynamic}
use Rattle.static_steps.specs.Works.{dynamics_of, opened, opened_frames, frame_dynamics, frame_numbers, shaped_frames, packed}
use Rattle.runs_follow_steps.specs.Describes.{Fit, AllWait, Fits}

abbrev at : List IntValue → ℕ → IntValue
at ds n = dynamic ds (record { 0 = n })

at-seam : (pre : List IntValue) (y : IntValue) (rest : List IntValue) (n : ℕ) → n ≡ length pre → at (pre ++ y ∷ rest) n ≡ y
at-seam [] y rest n e = ap (at (y ∷ rest)) e
at-seam (z ∷ pre) y rest zero e = absurd (omega arith)
at-seam (z ∷ pre) y rest (suc n) e = at-seam pre y rest n (omega arith)

seam-length : (pre : List IntValue) (y : IntValue) (rest : List IntValue) → length pre < length (pre ++ y ∷ rest)
seam-length pre y rest = let h = length-append pre (y ∷ rest) in omega (arith, h)

module _ (ds : List IntValue) where
  abbrev pub all_at : List Dyn → List IntValue
  all_at is = map (dynamic ds) is

  fit-head : (pre post : List IntValue) (rest : List Dyn) (n : ℕ) (a : Val) (o : Option Value) → n ≡ length pre → Fit ds (Some a) o → Fit (pre ++ (all_at (number_of a ++ rest) ++ post)) (Some (with_number n (without_number a))) o
  fit-head pre post rest n (Known v) o e h = h
  fit-head pre post rest n (Dynamic i) o e h =
      (subst (λ k. k < length (pre ++ (dynamic ds i ∷ (all_at rest ++ post)))) (sym e) (seam-length pre (dynamic ds i) (all_at rest ++ post)), h.1 ∙ ap (λ d. Some (value.Int d)) (sym (at-seam pre (dynamic ds i) (all_at rest ++ post) n e)))

  -- a name's value is found under its new number
  pub fit-packed : (pre post : List IntValue) (ns : Names Val) (n : ℕ) (x : LocalId) (o : Option Value) → n ≡ length pre → Fit ds (look x ns) o → Fit (pre ++ (all_at (numbers ns) ++ post)) (look x (numbered n (shape ns))) o
  fit-packed pre post [] n x o e h = h
  fit-packed pre post (c ∷ cs) n x o e h = fit-cell (λ pre' n' e' h'. fit-packed pre' post cs n' x o e' h') c.1 (c.0.0 == x.0) h
    where
      fit-cell : ((pre' : List IntValue) (n' : ℕ) → n' ≡ length pre' → Fit ds (look x cs) o → Fit (pre' ++ (all_at (numbers cs) ++ post)) (look x (numbered n' (shape cs))) o)
          → (a : Val) (b : Bool) → Fit ds (if b then Some a else look x cs) o
          → Fit (pre ++ (all_at (number_of a ++ numbers cs) ++ post)) (if b then Some (with_number n (without_number a)) else look x (numbered (n + is_dynamic (without_number a)) (shape cs))) o
      fit-cell ih a true h = fit-head pre post (numbers cs) n a o e h
      fit-cell ih (Known v) false h = ih pre (n + 0) (omega (arith, e)) h
      fit-cell ih (Dynamic i) false h =
          let l = length-append pre (dynamic ds i ∷ []) in
          subst (λ D. Fit D (look x (numbered (n + 1) (shape cs))) o) (append_assoc pre (dynamic ds i ∷ []) (all_at (numbers cs) ++ post)) (ih (pre ++ (dynamic ds i ∷ [])) (n + 1) (omega (arith, e, l)) h)

counted-cells : (ns : Names Val) → dynamics (shape ns) ≡ length (numbers ns)
counted-cells [] = refl
counted-cells (c ∷ cs) = counted-cell (counted-cells cs) c.1
  where
    counted-cell : dynamics (shape cs) ≡ length (numbers cs) → (a : Val) → is_dynamic (without_number a) + dynamics (shape cs) ≡ length (number_of a ++ numbers cs)
    counted-cell h (Known v) = omega (arith, h)
    counted-cell h (Dynamic i) = omega (arith, h)

counted-frames : (fs : List (WorkFrame)) → frame_dynamics (shaped_frames fs) ≡ length (frame_numbers fs)
counted-frames [] = refl
counted-frames (f ∷ fs) =
    let h = counted-frames fs in
    let k = counted-cells f.names in
    let l = length-append (frame_numbers fs) (numbers f.names) in
    omega (arith, h, k, l)

module _ (m : Module) (live : Point → LocalId → Bool) (ds : List IntValue) where
  -- the frames below have the first numbers
  wait-packed : (fs : List (WorkFrame)) (post : List IntValue) (us : List Waiting) → AllWait m live ds fs us → AllWait m live (all_at ds (frame_numbers fs) ++ post) (opened_frames (shaped_frames fs)) us
  wait-packed [] post [] h = h
  wait-packed [] post (u ∷ us) h = absurd h
  wait-packed (f ∷ fs) post [] h = absurd h
  wait-packed (f ∷ fs) post (u ∷ us) h = (
    record {
      at = h.0.at;
      result = h.0.result;
      range = h.0.range;
      names = λ x l n. subst (λ D. Fit D (look x (numbered (frame_dynamics (shaped_frames fs)) (shape f.names))) (value_at (slice_get u.env x.0))) (sym split) (fit-packed ds lower post f.names (frame_dynamics (shaped_frames fs)) x (value_at (slice_get u.env x.0)) count (h.0.names x l n));
      long = h.0.long;
    },
    subst (λ D. AllWait m live D (opened_frames (shaped_frames fs)) us) (sym split) (wait-packed fs (all_at ds (numbers f.names) ++ post) us h.1),
  )
    where
      lower : List IntValue
      lower = all_at ds (frame_numbers fs)

      split : all_at ds (frame_numbers fs ++ numbers f.names) ++ post ≡ lower ++ (all_at ds (numbers f.names) ++ post)
      split = ap (λ l. l ++ post) (map-append (dynamic ds) (frame_numbers fs) (numbers f.names)) ∙ append_assoc lower (all_at ds (numbers f.names)) post

      count : frame_dynamics (shaped_frames fs) ≡ length lower
      count = counted-frames fs ∙ sym (length-map (frame_numbers fs) (dynamic ds))

  pub fits-packed : (w : Work) (env : Env) (us : List Waiting) (st : State) → Fits m live ds w env us st → Fits m live (map (dynamic ds) (packed w).args) (opened (packed w).to) env us st
  fits-packed w env us st h = record {
    top = record {
      names = λ x l. subst (λ D. Fit D (look x (numbered (frame_dynamics (shaped_frames w.below)) (shape w.top.names))) (value_at (slice_get env x.0))) (sym split) (subst (λ D. Fit D (look x (numbered (frame_dynamics (shaped_frames w.below)) (shape w.top.names))) (value_at (slice_get env x.0))) (ap (λ l. lower ++ l) (append-nil upper)) (fit-packed ds lower [] w.top.names (frame_dynamics (shaped_frames w.below)) x (value_at (slice_get env x.0)) count (h.top.names x l)));
      long = h.top.long;
    };
    below = subst (λ D. AllWait m live D (opened_frames (shaped_frames w.below)) us) (sym split) (wait-packed w.below upper us h.below);
    allocated = h.allocated;
    held = h.held;
    returned = h.returned;
  }
    where
      lower : List IntValue
      lower = all_at ds (frame_numbers w.below)

      upper : List IntValue
      upper = all_at ds (numbers w.top.names)

      split : all_at ds (frame_numbers w.below ++ numbers w.top.names) ≡ lower ++ upper
      split = map-append (dynamic ds) (frame_numbers w.below) (numbers w.top.names)

      count : frame_dynamics (shaped_frames w.below) ≡ length lower
      count = counted-frames w.below ∙ sym (length-map (frame_numbers w.below) (dynamic ds))

-- a move has a number for each Dynamic name
pub packed-number : (w : Work) → dynamics_of (packed w).to ≡ length (packed w).args
packed-number w =
    let h = counted-frames w.below in
    let k = counted-cells w.top.names in
    let l = length-append (frame_numbers w.below) (numbers w.top.names) in
    omega (arith, h, k, l)

pub move-number : (live : Point → LocalId → Bool) (ds : List IntValue) (u : Work) → dynamics_of (move_to live u).to ≡ length (map (dynamic ds) (move_to live u).args)
move-number live ds u = packed-number (settled live u) ∙ sym (length-map (move_to live u).args (dynamic ds))
