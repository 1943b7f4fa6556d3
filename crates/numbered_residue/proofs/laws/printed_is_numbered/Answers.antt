use Rattle.numbered_residue.proofs.Distinct.{distinct}
use Rattle.numbered_residue.proofs.Listed.{bodies, few, parameters-not-void, types-whole}
use Rattle.numbered_residue.proofs.Ranges.{ranges}
use Rattle.numbered_residue.proofs.Shared.{both}
use Rattle.numbered_residue.proofs.Results.{results}
use Rattle.numbered_residue.proofs.Shapes.{flags, integers, named, steps-not-void, steps-whole, written}
use Rattle.numbered_residue.proofs.laws.printed_is_numbered.Goals as goal

pub returns : goal.returns
returns c r t ok = record {
  in_range = ranges r t ok;
  distinct = distinct r t ok;
  written = written r t ok;
  results = results r t ok;
  bodies = bodies r t ok;
  flags = flags r t ok;
  integers = integers r t ok;
  named = named r t ok;
  values = both _ _ (parameters-not-void r t ok) (steps-not-void r t ok);
  few = few r t ok;
  whole = both _ _ (types-whole r t ok) (steps-whole r t ok);
}
