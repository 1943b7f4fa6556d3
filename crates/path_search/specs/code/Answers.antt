-- What the answers of a visit say.
use Rattle.path_search.specs.declared.visit.Move.{Move}
use Rattle.path_search.specs.declared.visit.Move.TheVariants.{On, New, Done}
use Rattle.path_search.specs.declared.node.Stop.{Stop}
use Rattle.path_search.specs.declared.node.Stop.TheVariants.{Refused, Memory}
use Rattle.path_search.specs.declared.reason.Reason.{Reason}
use Rattle.std.specs.Prelude.{ℕ}

abbrev pub IfOn : Move → Type 0 → Type 0
IfOn On P = P
IfOn (New i) P = Unit {0}
IfOn Done P = Unit {0}

abbrev pub IfNew : Move → (ℕ → Type 0) → Type 0
IfNew On P = Unit {0}
IfNew (New i) P = P i
IfNew Done P = Unit {0}

abbrev pub IfDone : Move → Type 0 → Type 0
IfDone On P = Unit {0}
IfDone (New i) P = Unit {0}
IfDone Done P = P

abbrev pub IfRefused : {N K : Type 0} → Stop N K → (N → Reason K → Type 0) → Type 0
IfRefused (Refused at reason) P = P at reason
IfRefused Memory P = Unit {0}
