-- How many widths there are, and which one stands at a number.
use Rattle.std.proofs.Common.{◌≡◌, ℕ, ◌+◌, ◌-◌, ◌<◌, ◌≤◌, Option, None, Some, List, [], ◌∷◌, ◌++◌, append_assoc, arith, length, length-append, refl, ap, ◌∙◌, take}
use Rattle.std.specs.Prelude.{slice_get}
use Rattle.graph_cycles.proofs.Lists.{get-left, get-right}
use Rattle.ir_module.specs.declared.tree.Function.{Function}
use Rattle.ir_module.specs.declared.tree.Module.{Module}
use Rattle.ir_values.specs.declared.int.Width.{Width}
use Rattle.ir_values.specs.declared.value.Value.{Value}
use Rattle.static_steps.specs.declared.config.Config.{Config}
use Rattle.static_steps.specs.declared.config.Frame.{Frame}
use Rattle.static_steps.specs.Values.{Names, dynamics, is_dynamic}
use Rattle.static_steps.specs.Works.{dynamics_of, frame_dynamics}
use Rattle.fused_parts.specs.Nodes.{frame_widths, frames_widths, name_widths, one_width, widths_of}
use Rattle.fused_parts.proofs.BottomUp.{one-frame}

-- ---- as many widths as Dynamic names

pub many-names : (f : Option Function) (names : Names (Option Value)) → length (name_widths f names) ≡ dynamics names
many-names f [] = refl
many-names f (e ∷ names) = by e.1 (many-names f names)
  where
    by : (o : Option Value) → length (name_widths f names) ≡ dynamics names → length (one_width f e.0 o ++ name_widths f names) ≡ is_dynamic o + dynamics names
    by None h = omega (arith, h)
    by (Some v) h = omega (arith, h)

pub many-frames : (m : Module) (fs : List Frame) → length (frames_widths m fs) ≡ frame_dynamics fs
many-frames m [] = refl
many-frames m (f ∷ fs) =
    let a = length-append (frames_widths m fs) (frame_widths m f) in
    let b = many-frames m fs in
    let c = many-names (slice_get m.funcs f.at.func.0) f.names in omega (arith, a, b, c)

-- ---- of a list in three parts

module _ (whole front rest top : List Width) (is : whole ≡ front ++ rest) where
  three : whole ++ top ≡ front ++ (rest ++ top)
  three = ap (λ w. w ++ top) is ∙ append_assoc front rest top

  pub in-front : (i : ℕ) → i < length front → slice_get (whole ++ top) i ≡ slice_get front i
  in-front i lt = ap (λ w. slice_get w i) three ∙ get-left front (rest ++ top) i lt

  pub behind : (i : ℕ) → length front ≤ i → slice_get (whole ++ top) i ≡ slice_get (rest ++ top) (i - length front)
  behind i le =
      let e : i ≡ length front + (i - length front) = omega (arith, le) in
      ap (λ w. slice_get w i) three ∙ ap (slice_get (front ++ (rest ++ top))) e ∙ get-right front (rest ++ top) (i - length front)

  pub shorter : (i : ℕ) → length front ≤ i → i < length (whole ++ top) → i - length front < length (rest ++ top)
  shorter i le lt = let e = ap length three in let a = length-append front (rest ++ top) in omega (arith, le, lt, e, a)

-- the widths of the frames that are left begin with those of the lowest
pub lowest : (m : Module) (fs : List Frame) (n : ℕ) (f : Frame) → 0 < n → slice_get fs (n - 1) ≡ Some f
    → frames_widths m (take n fs) ≡ frame_widths m f ++ frames_widths m (take (n - 1) fs)
lowest m fs n f lt at = one-frame m fs n f (frames_widths m (take n fs)) [] (frame_widths m f) lt at refl refl

pub none-left : (fs : List Frame) → length fs < 1 → frame_dynamics fs ≡ 0
none-left [] lt = refl
none-left (f ∷ fs) lt = absurd (omega (arith, lt))

pub take-all : (fs : List Frame) → take (length fs) fs ≡ fs
take-all [] = refl
take-all (f ∷ fs) = ap (λ z. f ∷ z) (take-all fs)

-- before the first frame all widths are left
pub at-first : (m : Module) (g : Config) (n k : ℕ) → n ≡ length g.below → k < dynamics_of g
    → (k < length (frames_widths m (take n g.below) ++ frame_widths m g.top))
    × (slice_get (frames_widths m (take n g.below) ++ frame_widths m g.top) k ≡ slice_get (widths_of m g) k)
at-first m g n k e lt =
    let all : take n g.below ≡ g.below = ap (λ i. take i g.below) e ∙ take-all g.below in
    let same : frames_widths m (take n g.below) ++ frame_widths m g.top ≡ widths_of m g = ap (λ fs. frames_widths m fs ++ frame_widths m g.top) all in
    let a = length-append (frames_widths m g.below) (frame_widths m g.top) in
    let b = many-frames m g.below in
    let c = many-names (slice_get m.funcs g.top.at.func.0) g.top.names in
    let d = ap length same in (omega (arith, lt, a, b, c, d), ap (λ ws. slice_get ws k) same)

-- behind the last frame that waits those of the top frame are left
pub at-top : (m : Module) (fs : List Frame) (top : Frame) (n : ℕ) → n ≤ 0 → frames_widths m (take n fs) ++ frame_widths m top ≡ frame_widths m top
at-top m fs top n le = let z : n ≡ 0 = omega (arith, le) in ap (λ i. frames_widths m (take i fs) ++ frame_widths m top) z ∙ by fs
  where
    by : (fs : List Frame) → frames_widths m (take 0 fs) ++ frame_widths m top ≡ frame_widths m top
    by [] = refl
    by (f ∷ fs) = refl
