-- A state that is packed into a configuration: it is one of the module, and the numbers that its Dynamic names had are of their types.
use Rattle.std.proofs.Common.{◌≡◌, ℕ, suc, Bool, true, Option, Some, List, [], ◌∷◌, ◌++◌, length, slice_get, refl, sym, ap, ◌∙◌, subst}
use Rattle.ir_module.specs.declared.places.Point.{Point}
use Rattle.ir_module.specs.declared.tree.Function.{Function}
use Rattle.ir_module.specs.declared.tree.Module.{Module}
use Rattle.ir_values.specs.declared.ids.FuncId.{FuncId}
use Rattle.ir_values.specs.declared.ids.LocalId.{LocalId}
use Rattle.ir_values.specs.declared.ty.Ty.{Ty}
use Rattle.kept_items.specs.declared.target.Target.{Target}
use Rattle.kept_items.specs.declared.val.Dyn.{Dyn}
use Rattle.kept_items.specs.declared.val.Val.{Val}
use Rattle.kept_items.specs.declared.val.Val.TheVariants.{Known, Dynamic}
use Rattle.static_steps.specs.declared.work.Work.{Work}
use Rattle.static_steps.specs.declared.work.WorkFrame.{WorkFrame}
use Rattle.static_steps.specs.Configurations.{AreFrames, Bounds, Each, IsConfiguration, IsFrame, IsName, IsOther, IsTyped, Rises, RisesFrom, type_of_local}
use Rattle.static_steps.specs.Settings.{move_to}
use Rattle.static_steps.specs.Values.{Names, keep, number_of, numbers, shape, without_number}
use Rattle.static_steps.specs.Works.{dynamics_of, frame_numbers, shaped, shaped_frames}
use Rattle.valid_steps.specs.Items.{IsOperand}
use Rattle.valid_steps.specs.Types.{Fill, dynamic_types, type_if_dynamic, types_of_frames, types_of_names}
use Rattle.valid_steps.proofs.Names.{each-map, filter-rises, kept-each}
use Rattle.valid_steps.proofs.Opened.{count-types}
use Rattle.valid_steps.proofs.Works.{AreBelow, IsLiveName, IsTop, IsValName, IsWork, bounds_of}

fill-append : (ts : List (Option Ty)) (ds es : List Dyn) (us ws : List (Option Ty)) → Fill ts ds us → Fill ts es ws → Fill ts (ds ++ es) (us ++ ws)
fill-append ts [] es [] ws h k = k
fill-append ts [] es (u ∷ us) ws h k = absurd h
fill-append ts (d ∷ ds) es [] ws h k = absurd h
fill-append ts (d ∷ ds) es (u ∷ us) ws h k = (h.0, fill-append ts ds es us ws h.1 k)

pub fill-length : (ts : List (Option Ty)) (ds : List Dyn) (us : List (Option Ty)) → Fill ts ds us → length ds ≡ length us
fill-length ts [] [] h = refl
fill-length ts [] (u ∷ us) h = absurd h
fill-length ts (d ∷ ds) [] h = absurd h
fill-length ts (d ∷ ds) (u ∷ us) h = ap suc (fill-length ts ds us h.1)

shape-from : (n : ℕ) (ns : Names Val) → RisesFrom n ns → RisesFrom n (shape ns)
shape-from n [] h = tt
shape-from n (e ∷ es) h = (h.0, shape-from e.0.0 es h.1)

shape-rises : (ns : Names Val) → Rises ns → Rises (shape ns)
shape-rises [] h = tt
shape-rises (e ∷ es) h = shape-from e.0.0 es h

-- a fact of names alone
shape-each : (P : LocalId → Type 0) (ns : Names Val) → Each (λ x a. P x) ns → Each (λ x o. P x) (shape ns)
shape-each P [] h = tt
shape-each P (e ∷ es) h = (h.0, shape-each P es h.1)

module _ (m : Module) (t : Target) (live : Point → LocalId → Bool) (b : Bounds) (ts : List (Option Ty)) where
  without-number : (u : Ty) (a : Val) → IsOperand m t b ts u a → IsTyped m t b u (without_number a)
  without-number u (Known v) h = h
  without-number u (Dynamic d) h = h.0

  pack-names : (f : Function) (p : Point) (ns : Names Val) → Each (IsValName m t b ts f) ns → Each (λ x a. live p x ≡ true) ns → Each (IsName m t live b f p) (shape ns)
  pack-names f p [] h l = tt
  pack-names f p (e ∷ es) h l = (record { type = h.0.type; is = h.0.is; typed = without-number h.0.type e.1 h.0.typed; live_here = l.0 }, pack-names f p es h.1 l.1)

  fill-names : (f : Function) (ns : Names Val) → Each (IsValName m t b ts f) ns → Fill ts (numbers ns) (types_of_names (Some f) (shape ns))
  fill-names f [] h = tt
  fill-names f (e ∷ es) h = fill-cell (fill-names f es h.1) e.1 h.0
    where
      fill-cell : Fill ts (numbers es) (types_of_names (Some f) (shape es)) → (a : Val) → IsValName m t b ts f e.0 a
          → Fill ts (number_of a ++ numbers es) (type_if_dynamic (type_of_local f e.0) (without_number a) ++ types_of_names (Some f) (shape es))
      fill-cell ih (Known v) h = ih
      fill-cell ih (Dynamic d) h = (h.typed.1 ∙ ap Some (sym h.is), ih)

  pack-frame : (f : Function) (g : WorkFrame) → IsTop m t b ts f g → IsLiveName live g → IsFrame m t live b f (shaped g)
  pack-frame f g h l = record { in_function = h.in_function; stands = h.stands; rises = shape-rises g.names h.rises; names = pack-names f g.at g.names h.names l }

  fill-frame : (f : Function) (g : WorkFrame) → IsTop m t b ts f g → Fill ts (numbers g.names) (types_of_names (slice_get m.funcs g.at.func.0) (shape g.names))
  fill-frame f g h = subst (λ o. Fill ts (numbers g.names) (types_of_names o (shape g.names))) (sym h.in_function) (fill-names f g.names h.names)

  pack-frames : (entry : FuncId) (f : Function) (g : WorkFrame) → IsTop m t b ts f g → IsLiveName live g → (hs : List WorkFrame) → AreBelow m t live entry b ts g.at.func f hs
      → AreFrames m t live b entry (shaped g) (shaped_frames hs)
  pack-frames entry f g h l [] k = (f, pack-frame f g h l, k)
  pack-frames entry f g h l (x ∷ xs) k = (
    f,
    pack-frame f g h l,
    record {
      call = k.3.call;
      follows = k.3.follows;
      instruction = k.3.instruction;
      is = k.3.is;
      calls = k.3.calls;
      without_result = shape-each (λ y. IsOther k.3.instruction.result y) x.names k.3.without_result;
    },
    pack-frames entry k.0 x k.1 k.2 xs k.4,
  )

  fill-frames : (entry : FuncId) (func : FuncId) (f : Function) (hs : List WorkFrame) → AreBelow m t live entry b ts func f hs
      → Fill ts (frame_numbers hs) (types_of_frames m (shaped_frames hs))
  fill-frames entry func f [] h = tt
  fill-frames entry func f (x ∷ xs) h =
      fill-append ts (frame_numbers xs) (numbers x.names) (types_of_frames m (shaped_frames xs)) (types_of_names (slice_get m.funcs x.at.func.0) (shape x.names))
      (fill-frames entry x.at.func h.0 xs h.4) (fill-frame h.0 x h.1)

module _ (m : Module) (t : Target) (live : Point → LocalId → Bool) (entry : FuncId) (k r : ℕ) (ts : List (Option Ty)) (u : Work) (h : IsWork m t live entry k r ts u) where
  abbrev b : Bounds
  b = bounds_of m t live entry k r u

  abbrev settled-top : WorkFrame
  settled-top = record { at = u.top.at; names = keep (live u.top.at) u.top.names }

  both : Each (λ x a. IsValName m t b ts h.function x a × (live u.top.at x ≡ true)) settled-top.names
  both = kept-each (IsValName m t b ts h.function) (live u.top.at) u.top.names h.top.names

  top : IsTop m t b ts h.function settled-top
  top = record {
    in_function = h.top.in_function;
    stands = h.top.stands;
    rises = filter-rises (λ e. live u.top.at e.0) u.top.names h.top.rises;
    names = each-map (λ x a. IsValName m t b ts h.function x a × (live u.top.at x ≡ true)) (IsValName m t b ts h.function) (λ x a q. q.0) settled-top.names both;
  }

  lives : IsLiveName live settled-top
  lives = each-map (λ x a. IsValName m t b ts h.function x a × (live u.top.at x ≡ true)) (λ x a. live u.top.at x ≡ true) (λ x a q. q.1) settled-top.names both

  pub is-configuration : IsConfiguration m t live entry k r (move_to live u).to
  is-configuration = record { frames = pack-frames m t live b ts entry h.function settled-top top lives u.below h.below; held = h.held; ordered = h.ordered; in_phase = h.phase }

  pub fills : Fill ts (move_to live u).args (dynamic_types m (move_to live u).to)
  fills =
      fill-append ts (frame_numbers u.below) (numbers settled-top.names) (types_of_frames m (shaped_frames u.below)) (types_of_names (slice_get m.funcs u.top.at.func.0) (shape settled-top.names))
      (fill-frames m t live b ts entry u.top.at.func h.function u.below h.below) (fill-frame m t live b ts h.function settled-top top)

  pub counts : length (move_to live u).args ≡ dynamics_of (move_to live u).to
  counts = fill-length ts (move_to live u).args (dynamic_types m (move_to live u).to) fills ∙ count-types m (move_to live u).to
