-- Numbers where no value more gets one, and widths of as many names as are Dynamic.
use Rattle.std.proofs.Common.{◌≡◌, ℕ, ◌+◌, List, [], ◌∷◌, ◌++◌, None, Some, length, refl, sym, ap, ◌∙◌, arith, append-nil, length-append}
use Rattle.std.specs.Prelude.{Option}
use Rattle.ir_module.specs.declared.tree.Function.{Function}
use Rattle.ir_module.specs.declared.tree.Module.{Module}
use Rattle.ir_values.specs.declared.int.Width.{Width}
use Rattle.ir_values.specs.declared.value.Value.{Value}
use Rattle.kept_items.specs.declared.val.Dyn.{Dyn}
use Rattle.residue.specs.declared.parts.Line.{Line}
use Rattle.residue.specs.declared.parts.Part.{Part}
use Rattle.static_steps.specs.declared.config.Config.{Config}
use Rattle.static_steps.specs.declared.config.Frame.{Frame}
use Rattle.static_steps.specs.Values.{Names, dynamics}
use Rattle.static_steps.specs.Works.{dynamics_of, frame_dynamics}
use Rattle.fused_parts.specs.declared.numbers.Numbers.{Numbers}
use Rattle.fused_parts.specs.declared.parts.Making.{Making}
use Rattle.fused_parts.specs.Nodes.{frame_widths, frames_widths, name_widths, widths_of}
use Rattle.fused_parts.specs.Parts.{in_row, with_widths}

-- where nothing is given, the numbers stay
pub none_more : (n : Numbers) → n ≡ record { free = n.free + 0; mine = n.mine ++ in_row n.free 0 }
none_more n =
    ap (λ k. record { free = k; mine = n.mine }) free-stays
    ∙ ap (λ (ds : List Dyn). record { free = n.free + 0; mine = ds }) (sym (append-nil n.mine))
  where
    free-stays : n.free ≡ n.free + 0
    free-stays = omega arith

-- each Dynamic name has a width
names-length : (f : Option Function) (names : Names (Option Value)) → length (name_widths f names) ≡ dynamics names
names-length f [] = refl
names-length f (e ∷ names) = by-value e.1 (names-length f names)
  where
    by-value : (v : Option Value) → length (name_widths f names) ≡ dynamics names
        → length (name_widths f ((e.0, v) ∷ names)) ≡ dynamics ((e.0, v) ∷ names)
    by-value None h = omega (arith, h)
    by-value (Some v) h = omega (arith, h)

frames-length : (m : Module) (fs : List Frame) → length (frames_widths m fs) ≡ frame_dynamics fs
frames-length m [] = refl
frames-length m (f ∷ fs) =
    length-append (frames_widths m fs) (frame_widths m f)
    ∙ ap (λ k. k + length (frame_widths m f)) (frames-length m fs)
    ∙ ap (λ k. frame_dynamics fs + k) (names-length _ f.names)

pub widths-length : (m : Module) (g : Config) → length (widths_of m g) ≡ dynamics_of g
widths-length m g =
    length-append (frames_widths m g.below) (frame_widths m g.top)
    ∙ ap (λ k. k + length (frame_widths m g.top)) (frames-length m g.below)
    ∙ ap (λ k. frame_dynamics g.below + k) (names-length _ g.top.names)

abbrev the-making : List Part → List (Dyn × Width) → List Line → Numbers → Making
the-making parts params lines numbers = record { parts = parts; params = params; lines = lines; numbers = numbers }

-- a part that begins has as many parameters as its first configuration has Dynamic names
pub begins-as : (m : Module) (g : Config) (parts : List Part) (first : ℕ) (ws : List Width) (lines : List Line) (numbers : Numbers) (params : List (Dyn × Width))
    → ws ≡ widths_of m g
    → numbers ≡ record { free = first + length ws; mine = in_row first (length ws) }
    → params ≡ with_widths (in_row first (length ws)) ws
    → lines ≡ []
    → the-making parts params lines numbers
    ≡ the-making parts (with_widths (in_row first (dynamics_of g)) (widths_of m g)) [] (record { free = first + dynamics_of g; mine = in_row first (dynamics_of g) })
begins-as m g parts first ws lines numbers params w n p l =
    let many : length ws ≡ dynamics_of g = ap length w ∙ widths-length m g in
    ap (λ x. the-making parts params x numbers) l
    ∙ ap (λ x. the-making parts params [] x) (n ∙ ap (λ k. record { free = first + k; mine = in_row first k }) many)
    ∙ ap (λ x. the-making parts x [] (record { free = first + dynamics_of g; mine = in_row first (dynamics_of g) }))
    (p ∙ ap (λ k. with_widths (in_row first k) ws) many ∙ ap (with_widths (in_row first (dynamics_of g))) w)
