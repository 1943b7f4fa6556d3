use Rattle.std.proofs.Common.{◌≡◌, ◌<◌, ℕ, Some}
use Rattle.std.specs.Prelude.{slice_get}
use Rattle.path_search.specs.declared.visit.Link.{Link}
use Rattle.path_search.specs.declared.visit.Mark.TheVariants.{Open}
use Rattle.path_search.proofs.visit.leads_back.Given as goal

abbrev pub invariant-loop-link : goal.invariant-loop-link
invariant-loop-link g l = (j : ℕ) (x : Link g.row.E.Denot) → j < l.link-index → slice_get l.links j ≡ Some x → ((n : ℕ) × (slice_get l.marks x.to ≡ Some (Open n))) → ⊥
