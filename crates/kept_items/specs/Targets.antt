-- What a target permits (QIR specification, 'Base Profile' and 'Adaptive Profile').
use Rattle.std.specs.Prelude.{Bool, true, false}
use Rattle.kept_items.specs.declared.target.Target.{Target}
use Rattle.kept_items.specs.declared.target.Target.TheVariants.{Base, Adaptive}

abbrev pub is_base : Target → Bool
is_base Base = true
is_base (Adaptive caps) = false

-- integer computations
abbrev pub has_ints : Target → Bool
has_ints Base = false
has_ints (Adaptive caps) = caps.ints

-- terminators with more than two targets
abbrev pub has_switch : Target → Bool
has_switch Base = false
has_switch (Adaptive caps) = caps.switch

-- a return of another code than the known 0; a base program returns whatever code is known
abbrev pub has_returns : Target → Bool
has_returns Base = true
has_returns (Adaptive caps) = caps.returns

-- branches that lead back
abbrev pub has_loops : Target → Bool
has_loops Base = false
has_loops (Adaptive caps) = caps.loops
