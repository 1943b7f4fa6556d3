-- Returns.
use Rattle.std.proofs.Common.{◌≡◌, true, Option, None, Some, List, [], ◌∷◌, refl}
use Rattle.std.proofs.lemmas.Bool.{and_from, and_parts}
use Rattle.std.specs.List.{list_all}
use Rattle.std.specs.Prelude.{◌==◌, ◌||◌}
use Rattle.ir_values.specs.declared.ids.LocalId.{LocalId}
use Rattle.ir_values.specs.declared.value.Value.{Value}
use Rattle.ir_values.specs.declared.value.Value.TheVariants as value
use Rattle.ir_values.specs.Int.{signed}
use Rattle.kept_items.specs.declared.item.Code.TheVariants as code
use Rattle.kept_items.specs.declared.target.Kind.TheVariants as kind
use Rattle.kept_items.specs.declared.val.Val.{Val}
use Rattle.kept_items.specs.declared.val.Val.TheVariants.{Known, Dynamic}
use Rattle.kept_items.specs.Targets.{has_returns}
use Rattle.static_steps.specs.declared.turn.Turn.TheVariants.{Exits, Bad}
use Rattle.static_steps.specs.declared.work.WorkFrame.{WorkFrame}
use Rattle.static_steps.specs.Returns.{back_turn, call_result, exits, exits_known, resumes}
use Rattle.static_steps.specs.Settings.{Setting}
use Rattle.static_steps.specs.Values.{put_result}
use Rattle.printable_values.specs.Values.{val_prints}
use Rattle.printable_steps.specs.Turns.{turn_prints}
use Rattle.printable_steps.proofs.Names.{names_print, put-result-passes, some_prints, work_frame_prints, work_prints}
use Rattle.printable_steps.proofs.Turns.{below-prints, either-prints, goes-prints}

module _ (s : Setting) where
  -- the entry returns: a code is a number
  exits-known : (v : Value) → turn_prints (exits_known s v) ≡ true
  exits-known (value.Int i) = either-prints (has_returns s.t || (i.bits == 0)) (Exits (code.Known (signed i))) (Bad kind.Capability) refl refl
  exits-known v = refl

  exits-prints : (a : Option Val) → turn_prints (exits s a) ≡ true
  exits-prints None = refl
  exits-prints (Some (Known v)) = exits-known v
  exits-prints (Some (Dynamic d)) = either-prints (has_returns s.t) (Exits (code.Dynamic d)) (Bad kind.Capability) refl refl

  -- to the frame that waits
  resumes-prints : (f : WorkFrame) (fs : List WorkFrame) → work_frame_prints f ≡ true → list_all work_frame_prints fs ≡ true → (x : Option (Option LocalId)) (a : Option Val) → some_prints a ≡ true → turn_prints (resumes s f fs x a) ≡ true
  resumes-prints f fs h g None a k = refl
  resumes-prints f fs h g (Some None) None k = goes-prints s (record s.w { top = f; below = fs }) (and_from (work_frame_prints f) (list_all work_frame_prints fs) h g)
  resumes-prints f fs h g (Some (Some x)) None k = refl
  resumes-prints f fs h g (Some x) (Some a) k =
      goes-prints s (record s.w { top = record { at = f.at; names = put_result x a f.names }; below = fs })
      (and_from (names_print (put_result x a f.names)) (list_all work_frame_prints fs) (put-result-passes val_prints x a f.names k h) g)

  pub back-turn : work_prints s.w ≡ true → (a : Option Val) → some_prints a ≡ true → turn_prints (back_turn s s.w.below a) ≡ true
  back-turn now a k = by s.w.below (below-prints s now)
    where
      by : (fs : List WorkFrame) → list_all work_frame_prints fs ≡ true → turn_prints (back_turn s fs a) ≡ true
      by [] h = exits-prints a
      by (f ∷ fs) h = let p = and_parts (work_frame_prints f) (list_all work_frame_prints fs) h in resumes-prints f fs p.0 p.1 (call_result s.m f.at) a k
