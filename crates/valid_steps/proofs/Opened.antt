-- A configuration of a module, opened: its Dynamic names have numbers, and at those numbers their types.
use Rattle.std.proofs.Common.{◌≡◌, ℕ, ◌+◌, Bool, true, Option, None, Some, List, [], ◌∷◌, ◌++◌, length, slice_get, refl, sym, ap, ◌∙◌, subst, arith, append_assoc, append-nil, length-append}
use Rattle.ir_module.specs.declared.places.Point.{Point}
use Rattle.ir_module.specs.declared.tree.Function.{Function}
use Rattle.ir_module.specs.declared.tree.Module.{Module}
use Rattle.ir_values.specs.declared.ids.FuncId.{FuncId}
use Rattle.ir_values.specs.declared.ids.LocalId.{LocalId}
use Rattle.ir_values.specs.declared.ty.Ty.{Ty}
use Rattle.ir_values.specs.declared.value.Value.{Value}
use Rattle.kept_items.specs.declared.target.Target.{Target}
use Rattle.static_steps.specs.declared.config.Config.{Config}
use Rattle.static_steps.specs.declared.config.Frame.{Frame}
use Rattle.static_steps.specs.Configurations.{AreFrames, Bounds, Each, IsConfiguration, IsFrame, IsName, IsOther, Rises, RisesFrom, Waits, bounds, type_of_local}
use Rattle.static_steps.specs.Values.{Names, dynamics, is_dynamic, numbered, with_number}
use Rattle.static_steps.specs.Works.{dynamics_of, frame_dynamics, opened, opened_frames}
use Rattle.valid_steps.specs.Types.{dynamic_types, type_if_dynamic, type_in, types_of_frames, types_of_names}
use Rattle.valid_steps.proofs.Works.{AreBelow, IsTop, IsValName, IsWork, seam}

-- ---- names have their numbers and types in one order

pub count-names : (f : Option Function) (ns : Names (Option Value)) → length (types_of_names f ns) ≡ dynamics ns
count-names f [] = refl
count-names f (e ∷ es) = count-cell (count-names f es) e.1
  where
    count-cell : length (types_of_names f es) ≡ dynamics es → (o : Option Value) → length (type_if_dynamic (type_in f e.0) o ++ types_of_names f es) ≡ is_dynamic o + dynamics es
    count-cell ih None = omega (arith, ih)
    count-cell ih (Some v) = omega (arith, ih)

pub count-frames : (m : Module) (gs : List Frame) → length (types_of_frames m gs) ≡ frame_dynamics gs
count-frames m [] = refl
count-frames m (g ∷ gs) =
    let rest = count-frames m gs in
    let here = count-names (slice_get m.funcs g.at.func.0) g.names in
    let both = length-append (types_of_frames m gs) (types_of_names (slice_get m.funcs g.at.func.0) g.names) in
    omega (arith, rest, here, both)

pub count-types : (m : Module) (g : Config) → length (dynamic_types m g) ≡ dynamics_of g
count-types m g =
    let rest = count-frames m g.below in
    let here = count-names (slice_get m.funcs g.top.at.func.0) g.top.names in
    let both = length-append (types_of_frames m g.below) (types_of_names (slice_get m.funcs g.top.at.func.0) g.top.names) in
    omega (arith, rest, here, both)

-- ---- the order and the names are kept

numbered-from : (n i : ℕ) (ns : Names (Option Value)) → RisesFrom n ns → RisesFrom n (numbered i ns)
numbered-from n i [] h = tt
numbered-from n i (e ∷ es) h = (h.0, numbered-from e.0.0 (i + is_dynamic e.1) es h.1)

numbered-rises : (i : ℕ) (ns : Names (Option Value)) → Rises ns → Rises (numbered i ns)
numbered-rises i [] h = tt
numbered-rises i (e ∷ es) h = numbered-from e.0.0 (i + is_dynamic e.1) es h

-- a fact of names alone
numbered-each : (P : LocalId → Type 0) (i : ℕ) (ns : Names (Option Value)) → Each (λ x o. P x) ns → Each (λ x a. P x) (numbered i ns)
numbered-each P i [] h = tt
numbered-each P i (e ∷ es) h = (h.0, numbered-each P (i + is_dynamic e.1) es h.1)

module _ (m : Module) (t : Target) (live : Point → LocalId → Bool) (b : Bounds) where
  live-names : (f : Function) (p : Point) (ns : Names (Option Value)) → Each (IsName m t live b f p) ns → Each (λ x o. live p x ≡ true) ns
  live-names f p [] h = tt
  live-names f p (e ∷ es) h = (h.0.live_here, live-names f p es h.1)

  open-names : (f : Function) (p : Point) (pre post : List (Option Ty)) (i : ℕ) (ns : Names (Option Value)) → i ≡ length pre → Each (IsName m t live b f p) ns
      → Each (IsValName m t b (pre ++ (types_of_names (Some f) ns ++ post)) f) (numbered i ns)
  open-names f p pre post i [] e h = tt
  open-names f p pre post i (c ∷ cs) e h = open-cell (λ pre' i' e'. open-names f p pre' post i' cs e' h.1) c.1 h.0
    where
      open-cell : ((pre' : List (Option Ty)) (i' : ℕ) → i' ≡ length pre' → Each (IsValName m t b (pre' ++ (types_of_names (Some f) cs ++ post)) f) (numbered i' cs))
          → (o : Option Value) → IsName m t live b f p c.0 o
          → Each (IsValName m t b (pre ++ ((type_if_dynamic (type_of_local f c.0) o ++ types_of_names (Some f) cs) ++ post)) f) ((c.0, with_number i o) ∷ numbered (i + is_dynamic o) cs)
      open-cell ih (Some v) h =
          (record { type = h.type; is = h.is; typed = h.typed }, ih pre (i + 0) (omega (arith, e)))
      open-cell ih None h =
          let more : List (Option Ty) = types_of_names (Some f) cs ++ post in
          let l = length-append pre (type_of_local f c.0 ∷ []) in (
            record { type = h.type; is = h.is; typed = (h.typed, seam pre (type_of_local f c.0) more i e ∙ ap Some h.is) },
            subst (λ ts. Each (IsValName m t b ts f) (numbered (i + 1) cs)) (append_assoc pre (type_of_local f c.0 ∷ []) more) (ih (pre ++ (type_of_local f c.0 ∷ [])) (i + 1) (omega (arith, e, l))),
          )

  -- ---- frames

  abbrev Behind : FuncId → FuncId → Function → List Frame → Type 0
  Behind entry func f [] = func ≡ entry
  Behind entry func f (h ∷ hs) = Waits m t live b f h × AreFrames m t live b entry h hs

  first-frame : (entry : FuncId) (g : Frame) (hs : List Frame) → AreFrames m t live b entry g hs → (f : Function) × IsFrame m t live b f g × Behind entry g.at.func f hs
  first-frame entry g [] h = (h.0, h.1, h.2)
  first-frame entry g (x ∷ xs) h = (h.0, h.1, (h.2, h.3))

  open-frame : (pre post : List (Option Ty)) (i : ℕ) → i ≡ length pre → (f : Function) (g : Frame) → IsFrame m t live b f g
      → IsTop m t b (pre ++ (types_of_names (slice_get m.funcs g.at.func.0) g.names ++ post)) f (record { at = g.at; names = numbered i g.names })
  open-frame pre post i e f g h = record {
    in_function = h.in_function;
    stands = h.stands;
    rises = numbered-rises i g.names h.rises;
    names = subst (λ o. Each (IsValName m t b (pre ++ (types_of_names o g.names ++ post)) f) (numbered i g.names)) (sym h.in_function) (open-names f g.at pre post i g.names e h.names);
  }

  open-below : (entry : FuncId) (post : List (Option Ty)) (func : FuncId) (f : Function) (hs : List Frame) → Behind entry func f hs
      → AreBelow m t live entry b (types_of_frames m hs ++ post) func f (opened_frames hs)
  open-below entry post func f [] h = h
  open-below entry post func f (x ∷ xs) h =
      let q = first-frame entry x xs h.1 in
      let here : List (Option Ty) = types_of_names (slice_get m.funcs x.at.func.0) x.names in
      let split = append_assoc (types_of_frames m xs) here post in (
        q.0,
        subst (λ ts. IsTop m t b ts q.0 (record { at = x.at; names = numbered (frame_dynamics xs) x.names })) (sym split) (open-frame (types_of_frames m xs) post (frame_dynamics xs) (sym (count-frames m xs)) q.0 x q.1),
        numbered-each (λ y. live x.at y ≡ true) (frame_dynamics xs) x.names (live-names q.0 x.at x.names q.1.names),
        record {
          call = h.0.call;
          follows = h.0.follows;
          instruction = h.0.instruction;
          is = h.0.is;
          calls = h.0.calls;
          without_result = numbered-each (λ y. IsOther h.0.instruction.result y) (frame_dynamics xs) x.names h.0.without_result;
        },
        subst (λ ts. AreBelow m t live entry b ts x.at.func q.0 (opened_frames xs)) (sym split) (open-below entry (here ++ post) x.at.func q.0 xs q.2),
      )

pub opens : (m : Module) (t : Target) (live : Point → LocalId → Bool) (entry : FuncId) (k r : ℕ) (g : Config) → IsConfiguration m t live entry k r g
    → IsWork m t live entry k r (dynamic_types m g) (opened g)
opens m t live entry k r g h =
    let b : Bounds = bounds k r g in
    let q = first-frame m t live b entry g.top g.below h.frames in
    let here : List (Option Ty) = types_of_names (slice_get m.funcs g.top.at.func.0) g.top.names in
    record {
      function = q.0;
      top = subst (λ ts. IsTop m t b (types_of_frames m g.below ++ ts) q.0 (record { at = g.top.at; names = numbered (frame_dynamics g.below) g.top.names })) (append-nil here) (open-frame m t live b (types_of_frames m g.below) [] (frame_dynamics g.below) (sym (count-frames m g.below)) q.0 g.top q.1);
      below = open-below m t live b entry here g.top.at.func q.0 g.below q.2;
      held = h.held;
      ordered = h.ordered;
      phase = h.in_phase;
    }
