-- Widths of frames from the bottom up.
use Rattle.std.proofs.Common.{◌≡◌, ℕ, zero, suc, ◌-◌, ◌<◌, Some, List, [], ◌∷◌, ◌++◌, take, refl, sym, ap, ◌∙◌, arith, append_assoc}
use Rattle.std.specs.Prelude.{slice_get}
use Rattle.ir_module.specs.declared.tree.Module.{Module}
use Rattle.ir_values.specs.declared.int.Width.{Width}
use Rattle.static_steps.specs.declared.config.Frame.{Frame}
use Rattle.fused_parts.specs.Nodes.{frame_widths, frames_widths}

-- one frame more
take-more : (m : Module) (fs : List Frame) (n : ℕ) (f : Frame) → slice_get fs n ≡ Some f → frames_widths m (take (suc n) fs) ≡ frame_widths m f ++ frames_widths m (take n fs)
take-more m [] n f h = cc
take-more m (g ∷ fs) zero f h = let s : g ≡ f = cc in first fs ∙ ap (λ z. frame_widths m z ++ []) s
  where
    first : (fs : List Frame) → frames_widths m (take 0 fs) ++ frame_widths m g ≡ frame_widths m g ++ []
    first [] = sym (nil (frame_widths m g))
      where
        nil : (ws : List Width) → ws ++ [] ≡ ws
        nil [] = refl
        nil (w ∷ ws) = ap (λ z. w ∷ z) (nil ws)
    first (x ∷ xs) = sym (nil (frame_widths m g))
      where
        nil : (ws : List Width) → ws ++ [] ≡ ws
        nil [] = refl
        nil (w ∷ ws) = ap (λ z. w ∷ z) (nil ws)
take-more m (g ∷ fs) (suc n) f h =
    ap (λ z. z ++ frame_widths m g) (take-more m fs n f h) ∙ append_assoc (frame_widths m f) (frames_widths m (take n fs)) (frame_widths m g)

pub one-frame : (m : Module) (fs : List Frame) (left : ℕ) (f : Frame) (whole out new : List Width) → 0 < left → slice_get fs (left - 1) ≡ Some f
    → whole ≡ out ++ frames_widths m (take left fs) → new ≡ out ++ frame_widths m f → whole ≡ new ++ frames_widths m (take (left - 1) fs)
one-frame m fs zero f whole out new lt h w n = absurd (omega (arith, lt))
one-frame m fs (suc left) f whole out new lt h w n =
    let e : suc left - 1 ≡ left = omega arith in
    w ∙ ap (λ z. out ++ z) (take-more m fs left f (ap (slice_get fs) (sym e) ∙ h)) ∙ sym (append_assoc out (frame_widths m f) (frames_widths m (take left fs)))
    ∙ ap (λ z. z ++ frames_widths m (take left fs)) (sym n) ∙ ap (λ k. new ++ frames_widths m (take k fs)) (sym e)
