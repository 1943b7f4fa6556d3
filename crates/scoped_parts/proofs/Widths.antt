-- The Dynamic names of a configuration are integers of the widths that its parameters get.
use Rattle.std.proofs.Common.{◌≡◌, ℕ, Bool, Option, None, Some, List, [], ◌∷◌, ◌++◌, length, map, refl, sym, ap, ◌∙◌}
use Rattle.std.proofs.lemmas.List.{length-map, map-append}
use Rattle.std.specs.Prelude.{slice_get}
use Rattle.ir_module.specs.declared.places.Point.{Point}
use Rattle.ir_module.specs.declared.tree.Function.{Function}
use Rattle.ir_module.specs.declared.tree.Module.{Module}
use Rattle.ir_values.specs.declared.ids.FuncId.{FuncId}
use Rattle.ir_values.specs.declared.ids.LocalId.{LocalId}
use Rattle.ir_values.specs.declared.ty.Ty.{Ty}
use Rattle.ir_values.specs.declared.ty.Ty.TheVariants as ty
use Rattle.ir_values.specs.declared.value.Value.{Value}
use Rattle.kept_items.specs.declared.target.Target.{Target}
use Rattle.kept_items.specs.declared.target.Target.TheVariants.{Base, Adaptive}
use Rattle.static_steps.specs.declared.config.Config.{Config}
use Rattle.static_steps.specs.declared.config.Frame.{Frame}
use Rattle.static_steps.specs.Configurations.{AreFrames, Bounds, Each, IsConfiguration, IsFrame, IsName, MayVary, bounds, type_of_local}
use Rattle.static_steps.specs.Values.{Names}
use Rattle.static_steps.specs.Works.{dynamics_of}
use Rattle.fused_parts.specs.Nodes.{frame_widths, frames_widths, name_widths, one_width, width_of, widths_of}
use Rattle.valid_steps.specs.Types.{dynamic_types, type_if_dynamic, types_of_frames, types_of_names}
use Rattle.valid_steps.proofs.Opened.{count-types}
use Rattle.scoped_parts.proofs.Fits.{int_type}

-- what may vary is an integer
integer : (t : Target) (u : Ty) → MayVary t u → Some u ≡ int_type (width_of (Some u))
integer Base u h = absurd h
integer (Adaptive caps) (ty.Int w) h = refl
integer (Adaptive caps) u h = absurd h

module _ (m : Module) (t : Target) (live : Point → LocalId → Bool) (b : Bounds) where
  names-typed : (f : Function) (p : Point) (es : Names (Option Value)) → Each (IsName m t live b f p) es
      → types_of_names (Some f) es ≡ map int_type (name_widths (Some f) es)
  names-typed f p [] h = refl
  names-typed f p (e ∷ es) h = by-cell e.1 h.0 (names-typed f p es h.1)
    where
      by-cell : (o : Option Value) → IsName m t live b f p e.0 o → types_of_names (Some f) es ≡ map int_type (name_widths (Some f) es)
          → type_if_dynamic (type_of_local f e.0) o ++ types_of_names (Some f) es ≡ map int_type (one_width (Some f) e.0 o ++ name_widths (Some f) es)
      by-cell (Some v) n ih = ih
      by-cell None n ih =
          ap (λ l. type_of_local f e.0 ∷ l) ih
          ∙ ap (λ o. o ∷ map int_type (name_widths (Some f) es)) (n.is ∙ integer t n.type n.typed ∙ ap (λ o. int_type (width_of o)) (sym n.is))

  frame-typed : (f : Function) (g : Frame) → IsFrame m t live b f g → types_of_names (slice_get m.funcs g.at.func.0) g.names ≡ map int_type (frame_widths m g)
  frame-typed f g h =
      ap (λ o. types_of_names o g.names) h.in_function ∙ names-typed f g.at g.names h.names ∙ ap (λ o. map int_type (name_widths o g.names)) (sym h.in_function)

  first-typed : (entry : FuncId) (g : Frame) (hs : List Frame) → AreFrames m t live b entry g hs
      → types_of_names (slice_get m.funcs g.at.func.0) g.names ≡ map int_type (frame_widths m g)
  first-typed entry g [] h = frame-typed h.0 g h.1
  first-typed entry g (x ∷ xs) h = frame-typed h.0 g h.1

  frames-typed : (entry : FuncId) (g : Frame) (hs : List Frame) → AreFrames m t live b entry g hs → types_of_frames m hs ≡ map int_type (frames_widths m hs)
  frames-typed entry g [] h = refl
  frames-typed entry g (x ∷ xs) h =
      ap (λ l. l ++ types_of_names (slice_get m.funcs x.at.func.0) x.names) (frames-typed entry x xs h.3)
      ∙ ap (λ l. map int_type (frames_widths m xs) ++ l) (first-typed entry x xs h.3)
      ∙ sym (map-append int_type (frames_widths m xs) (frame_widths m x))

pub typed-widths : (m : Module) (t : Target) (live : Point → LocalId → Bool) (entry : FuncId) (qubits results : ℕ) (g : Config)
    → IsConfiguration m t live entry qubits results g → dynamic_types m g ≡ map int_type (widths_of m g)
typed-widths m t live entry qubits results g h =
    let b : Bounds = bounds qubits results g in
    ap (λ l. l ++ types_of_names (slice_get m.funcs g.top.at.func.0) g.top.names) (frames-typed m t live b entry g.top g.below h.frames)
    ∙ ap (λ l. map int_type (frames_widths m g.below) ++ l) (first-typed m t live b entry g.top g.below h.frames)
    ∙ sym (map-append int_type (frames_widths m g.below) (frame_widths m g.top))

-- there are as many of them
pub as-many-widths : (m : Module) (g : Config) → dynamic_types m g ≡ map int_type (widths_of m g) → dynamics_of g ≡ length (widths_of m g)
as-many-widths m g e = sym (count-types m g) ∙ ap length e ∙ length-map (widths_of m g) int_type
