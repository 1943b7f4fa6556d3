-- Frames whose Dynamic names are numbered, without their numbers.
use Rattle.std.proofs.Common.{◌≡◌, ℕ, zero, suc, ◌+◌, ◌-◌, ◌<◌, Option, None, Some, List, [], ◌∷◌, ◌++◌, refl, sym, ◌∙◌, ap, arith, append_assoc, append-nil}
use Rattle.ir_values.specs.declared.value.Value.{Value}
use Rattle.kept_items.specs.declared.val.Dyn.{Dyn}
use Rattle.static_steps.specs.declared.config.Frame.{Frame}
use Rattle.static_steps.specs.declared.work.WorkFrame.{WorkFrame}
use Rattle.static_steps.specs.Values.{Names, dynamics, is_dynamic, numbered, number_of, numbers, shape, with_number, without_number}
use Rattle.static_steps.specs.Works.{frame_dynamics, frame_numbers, opened_frames, shaped_frames}
use Rattle.step_parts.specs.code.Frames.{counted, over, waiting_numbers}

back : (n : ℕ) (o : Option Value) → without_number (with_number n o) ≡ o
back n None = refl
back n (Some v) = refl

shape-back : (n : ℕ) (ns : Names (Option Value)) → shape (numbered n ns) ≡ ns
shape-back n [] = refl
shape-back n (e ∷ es) = rw (back n e.1, shape-back (n + is_dynamic e.1) es) refl

counted-append : (n a b : ℕ) → counted n (a + b) ≡ counted n a ++ counted (n + a) b
counted-append n zero b =
    let e : 0 + b ≡ b = omega arith in
    let f : n + 0 ≡ n = omega arith in
    rw (e, f) refl
counted-append n (suc a) b =
    let e : suc a + b ≡ suc (a + b) = omega arith in
    let f : suc n + a ≡ n + suc a = omega arith in
    rw e (ap (λ ds. (record { 0 = n }) ∷ ds) (counted-append (suc n) a b ∙ ap (λ k. counted (suc n) a ++ counted k b) f))

one-name : (n : ℕ) (es : Names (Option Value)) → ((k : ℕ) → numbers (numbered k es) ≡ counted k (dynamics es)) → (o : Option Value)
    → number_of (with_number n o) ++ numbers (numbered (n + is_dynamic o) es) ≡ counted n (is_dynamic o + dynamics es)
one-name n es ih None =
    let e : 1 + dynamics es ≡ suc (dynamics es) = omega arith in
    let f : n + 1 ≡ suc n = omega arith in
    rw e (ap (λ ds. (record { 0 = n }) ∷ ds) (ih (n + 1) ∙ ap (λ k. counted k (dynamics es)) f))
one-name n es ih (Some v) =
    let e : 0 + dynamics es ≡ dynamics es = omega arith in
    let f : n + 0 ≡ n = omega arith in
    ih (n + 0) ∙ (ap (λ k. counted k (dynamics es)) f ∙ ap (counted n) (sym e))

numbers-counted : (n : ℕ) (ns : Names (Option Value)) → numbers (numbered n ns) ≡ counted n (dynamics ns)
numbers-counted n [] = refl
numbers-counted n (e ∷ es) = one-name n es (λ k. numbers-counted k es) e.1

from-first : (n k : ℕ) (out : List Dyn) → out ++ counted n (k + 1) ≡ (out ++ (record { 0 = n }) ∷ []) ++ counted (n + 1) k
from-first n k out =
    let e : k + 1 ≡ suc k = omega arith in
    let f : n + 1 ≡ suc n = omega arith in
    rw (e, f) (sym (append_assoc out ((record { 0 = n }) ∷ []) (counted (suc n) k)))

pub counted_on : (start out new : List Dyn) (n count : ℕ) → n < count → start ≡ out ++ counted n (count - n) → new ≡ out ++ (record { 0 = n }) ∷ []
    → start ≡ new ++ counted (n + 1) (count - (n + 1))
counted_on start out new n count h before pushed =
    let e : count - n ≡ count - (n + 1) + 1 = omega (arith, h) in
    before ∙ (ap (λ k. out ++ counted n k) e ∙ (from-first n (count - (n + 1)) out ∙ ap (λ ds. ds ++ counted (n + 1) (count - (n + 1))) (sym pushed)))

pub below_numbers : (fs : List Frame) → frame_numbers (opened_frames fs) ≡ counted 0 (frame_dynamics fs)
below_numbers [] = refl
below_numbers (f ∷ fs) =
    let e : 0 + frame_dynamics fs ≡ frame_dynamics fs = omega arith in
    rw (below_numbers fs, numbers-counted (frame_dynamics fs) f.names)
    (sym (counted-append 0 (frame_dynamics fs) (dynamics f.names) ∙ ap (λ k. counted 0 (frame_dynamics fs) ++ counted k (dynamics f.names)) e))

pub frames_back : (fs : List Frame) → shaped_frames (opened_frames fs) ≡ fs
frames_back [] = refl
frames_back (f ∷ fs) = rw (shape-back (frame_dynamics fs) f.names, frames_back fs) refl

pub over_numbers : (w : Option WorkFrame) (fs : List WorkFrame) → frame_numbers (over w fs) ≡ frame_numbers fs ++ waiting_numbers w
over_numbers None fs = sym (append-nil (frame_numbers fs))
over_numbers (Some f) fs = refl

pub below_all : (w : Option WorkFrame) (fs : List Frame) (start mid end : List Dyn) (n : ℕ) → n ≡ frame_dynamics fs
    → mid ≡ start ++ counted 0 n → end ≡ mid ++ waiting_numbers w → end ≡ start ++ frame_numbers (over w (opened_frames fs))
below_all w fs start mid end n e before after =
    let numbers : frame_numbers (over w (opened_frames fs)) ≡ counted 0 n ++ waiting_numbers w =
    over_numbers w (opened_frames fs) ∙ ap (λ ds. ds ++ waiting_numbers w) (below_numbers fs ∙ ap (counted 0) (sym e)) in
    after ∙ (ap (λ ds. ds ++ waiting_numbers w) before ∙ (append_assoc start (counted 0 n) (waiting_numbers w) ∙ ap (λ ds. start ++ ds) (sym numbers)))

pub over_shaped : (w : Option WorkFrame) (fs : List WorkFrame) → shaped_frames (over w fs) ≡ shaped_frames (over w []) ++ shaped_frames fs
over_shaped None fs = refl
over_shaped (Some f) fs = refl
