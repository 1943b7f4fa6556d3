use Rattle.std.proofs.Common.{◌≡◌, [], ◌++◌, length, map}
use Rattle.residue_module.proofs.rows.Rows.new.Given as goal

abbrev pub invariant-loop-parts : goal.invariant-loop-parts
invariant-loop-parts l = l.rows.items ++ map (λ p. map (λ x. []) p.params) l.parts ≡ map (λ p. map (λ x. []) p.params) l.fn.parts

abbrev pub decreases-loop-parts : goal.decreases-loop-parts
decreases-loop-parts l = length l.parts
