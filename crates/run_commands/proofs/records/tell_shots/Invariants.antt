use Rattle.std.proofs.Common.{◌≡◌, ◌≤◌, length}
use Rattle.std.specs.Prelude.{Some, slice_get}
use Rattle.ir_module.specs.declared.tree.Function.{Function}
use Rattle.run_commands.specs.Shots.{told_shot}
use Rattle.run_commands.proofs.Told.{Sofar}
use Rattle.run_commands.proofs.records.tell_shots.Given as goal

abbrev pub invariant-loop-backends : goal.invariant-loop-backends
invariant-loop-backends g l = record {
  later : g.K.Sink.faults l.fn.out ≤ g.K.Sink.faults l.out;
  told : (f : Function) → slice_get l.m.funcs l.entry.0 ≡ Some f
      → Sofar l.m l.steps (told_shot l.schema l.m f) l.fn.backends l.backends (g.K.Sink.taken l.fn.out) (g.K.Sink.taken l.out) (g.K.Sink.faults l.fn.out) (g.K.Sink.faults l.out) l.all;
}

abbrev pub decreases-loop-backends : goal.decreases-loop-backends
decreases-loop-backends g l = length l.backends
