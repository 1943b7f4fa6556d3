-- Calls of declared functions, by their classes, and of functions with a body.
use Rattle.std.proofs.Common.{◌≡◌, ℕ, suc, true, false, Option, None, Some, List, [], ◌∷◌, refl, slice_get}
use Rattle.std.proofs.lemmas.Bool.{and_from, and_parts}
use Rattle.std.specs.List.{list_all}
use Rattle.ir_module.specs.declared.tree.Block.{Block}
use Rattle.ir_module.specs.declared.tree.Function.{Function}
use Rattle.ir_module.specs.Classes.{class_of_function}
use Rattle.ir_module.specs.Printable.{IsPrintable, are_bytes}
use Rattle.ir_values.specs.declared.class.Class.{Class}
use Rattle.ir_values.specs.declared.class.Class.TheVariants as class
use Rattle.ir_values.specs.declared.ids.FuncId.{FuncId}
use Rattle.ir_values.specs.declared.ids.LocalId.{LocalId}
use Rattle.ir_values.specs.declared.ty.Ty.{Ty}
use Rattle.ir_values.specs.declared.value.Value.TheVariants as value
use Rattle.ir_values.specs.Names.{name_text}
use Rattle.qir_meaning.specs.Moves.{first_point}
use Rattle.kept_items.specs.declared.val.Val.{Val}
use Rattle.static_steps.specs.declared.turn.Turn.{Turn}
use Rattle.static_steps.specs.declared.work.Work.{Work}
use Rattle.static_steps.specs.Calls.{body_turn, calls_turn, class_turn, declared_turn, enters, parameters, silent_turn}
use Rattle.static_steps.specs.Operations.{is_irreversible, typed_args}
use Rattle.static_steps.specs.Settings.{Setting, next_here, passed, silent}
use Rattle.static_steps.specs.Values.{drop_result, keep}
use Rattle.printable_values.specs.Values.{val_prints}
use Rattle.printable_steps.specs.Turns.{turn_prints}
use Rattle.printable_steps.proofs.Names.{drop-result-passes, keep-passes, names_print, work_frame_prints, work_prints}
use Rattle.printable_steps.proofs.Operations.{count-prints, int-prints, operates-print, result-prints, returning-prints, typed-print, value-prints}
use Rattle.printable_steps.proofs.Results.{alloc-turn, equal-turn, read-turn, release-turn}
use Rattle.printable_steps.proofs.Sources.{name-prints}
use Rattle.printable_steps.proofs.Turns.{below-prints, goes-prints, known-prints, top-prints}

silent-prints : (x : Option LocalId) (go : Turn) → turn_prints go ≡ true → turn_prints (silent x go) ≡ true
silent-prints None go h = h
silent-prints (Some y) go h = refl

parameters-print : (n : ℕ) (vs : List Val) → list_all val_prints vs ≡ true → names_print (parameters n vs) ≡ true
parameters-print n [] h = refl
parameters-print n (v ∷ vs) h =
    let p = and_parts (val_prints v) (list_all val_prints vs) h in
    and_from (val_prints v) (names_print (parameters (suc n) vs)) p.0 (parameters-print (suc n) vs p.1)

module _ (s : Setting) (printable : IsPrintable s.m) (now : work_prints s.w ≡ true) where
  module _ (f : Function) (name : List ℕ) (named : are_bytes name ≡ true) (us : List Ty) (vs : List Val) (h : list_all val_prints vs ≡ true) where
    silent-turn : (c : Class) → turn_prints (silent_turn s f name c us vs) ≡ true
    silent-turn class.Release = release-turn s now vs
    silent-turn class.Gate = operates-print s now name named false (is_irreversible f class.Gate) (typed_args us vs) (typed-print us vs h)
    silent-turn class.Measure = operates-print s now name named true true (typed_args us vs) (typed-print us vs h)
    silent-turn class.Tuple = count-prints s now class.Tuple us vs h
    silent-turn class.Array = count-prints s now class.Array us vs h
    silent-turn class.ResRecord = result-prints s now us vs h
    silent-turn class.BoolRecord = value-prints s now class.BoolRecord us vs h
    silent-turn class.IntRecord = int-prints s now us vs h
    silent-turn class.DoubleRecord = value-prints s now class.DoubleRecord us vs h
    silent-turn c = goes-prints s (passed s) now

    class-turn : (x : Option LocalId) (c : Class) → turn_prints (class_turn s x f name c us vs) ≡ true
    class-turn x class.Alloc = alloc-turn s now x
    class-turn x class.One = known-prints s now x value.One refl
    class-turn x class.Zero = known-prints s now x value.Zero refl
    class-turn x class.Read = read-turn s now x vs h
    class-turn x class.Equal = equal-turn s now x vs h
    class-turn x class.Returning = returning-prints s now x (typed_args us vs) (typed-print us vs h)
    class-turn x c = silent-prints x (silent_turn s f name c us vs) (silent-turn c)

  module _ (x : Option LocalId) where
    declared-turn : (f : Function) → are_bytes (name_text f.name) ≡ true → (o : Option Class) (us : List Ty) (vs : List Val) → list_all val_prints vs ≡ true → turn_prints (declared_turn s x f o us vs) ≡ true
    declared-turn f named None us vs h = refl
    declared-turn f named (Some c) us vs h = class-turn f (name_text f.name) named us vs h x c

    enters-prints : (g : FuncId) (vs : List Val) → list_all val_prints vs ≡ true → turn_prints (enters s x g vs) ≡ true
    enters-prints g vs h =
        let u : Work = record s.w {
          top = record { at = first_point g; names = parameters 0 vs };
          below = (record {
            at = next_here s;
            names = keep (s.live (next_here s)) (drop_result x s.w.top.names);
          }) ∷ s.w.below;
        } in
        goes-prints s u
        (and_from (names_print (parameters 0 vs)) (list_all work_frame_prints u.below) (parameters-print 0 vs h)
        (and_from (names_print (keep (s.live (next_here s)) (drop_result x s.w.top.names))) (list_all work_frame_prints s.w.below)
        (keep-passes val_prints (s.live (next_here s)) (drop_result x s.w.top.names) (drop-result-passes val_prints x s.w.top.names (top-prints s now))) (below-prints s now)))

    body-turn : (g : FuncId) (f : Function) → are_bytes (name_text f.name) ≡ true → (o : Option (List Block)) (us : List Ty) (vs : List Val) → list_all val_prints vs ≡ true → turn_prints (body_turn s x g f o us vs) ≡ true
    body-turn g f named None us vs h = declared-turn f named (class_of_function f) us vs h
    body-turn g f named (Some blocks) us vs h = enters-prints g vs h

    pub calls-turn : (g : FuncId) (us : List Ty) (vs : List Val) → list_all val_prints vs ≡ true → turn_prints (calls_turn s x g (slice_get s.m.funcs g.0) us vs) ≡ true
    calls-turn g us vs h = by (slice_get s.m.funcs g.0) refl
      where
        by : (o : Option Function) → slice_get s.m.funcs g.0 ≡ o → turn_prints (calls_turn s x g o us vs) ≡ true
        by None e = refl
        by (Some f) e = body-turn g f (name-prints s.m printable g.0 f e) f.blocks us vs h
