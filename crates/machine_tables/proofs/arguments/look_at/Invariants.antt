use Rattle.std.proofs.Common.{◌≡◌, ◌++◌, List, length, map}
use Rattle.backend_api.specs.declared.operation.Arg.{Arg}
use Rattle.qir_meaning.specs.Effects as effects
use Rattle.qir_meaning.specs.State.{State, Move}
use Rattle.machine_tables.proofs.arguments.look_at.Given as goal

-- the arguments that were looked at stand before those to come
abbrev pub invariant-loop-typed : goal.invariant-loop-typed
invariant-loop-typed l =
    (st : State) (go : List Arg → Move) → st.held ≡ l.allocations.held
    → effects.arguments st (map (λ a. a.0) l.fn.types) l.fn.values go ≡ effects.arguments st (map (λ a. a.0) l.types) l.values (λ more. go (l.args ++ more))

abbrev pub decreases-loop-typed : goal.decreases-loop-typed
decreases-loop-typed l = length l.types
