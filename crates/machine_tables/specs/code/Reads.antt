-- What the code makes of results that are read and of arguments, and how a run goes on with it.
use Rattle.std.specs.Prelude.{◌≡◌, Bool, true, false, if◌then◌else◌, Option, Some, List}
use Rattle.std.specs.declared.hash.BuildHasherDefault.{BuildHasherDefault}
use Rattle.std.specs.declared.hash.FoldHasher.{FoldHasher}
use Rattle.backend_api.specs.declared.operation.Arg.{Arg}
use Rattle.backend_api.specs.declared.operation.ResultRef.{ResultRef}
use Rattle.backend_api.specs.Operations.{same_result}
use Rattle.indexmap.specs.IndexMap.{IndexMap, get}
use Rattle.ir_values.specs.declared.cause.Cause.TheVariants as cause
use Rattle.machine_tables.specs.declared.arguments.Argument.{Argument}
use Rattle.machine_tables.specs.declared.arguments.Argument.TheVariants as one
use Rattle.machine_tables.specs.declared.arguments.Arguments.{Arguments}
use Rattle.machine_tables.specs.declared.arguments.Arguments.TheVariants as all
use Rattle.machine_tables.specs.declared.results.Reading.{Reading}
use Rattle.machine_tables.specs.declared.results.Reading.TheVariants as reading
use Rattle.qir_meaning.specs.State.{State, Move, Trap, Halt, Stuck, bit_in}

abbrev pub Table : Type 0
Table = IndexMap ResultRef Bool (BuildHasherDefault FoldHasher)

abbrev pub bit_at : Table → ResultRef → Option Bool
bit_at t r = get same_result t r

-- the table has the bits of a run
abbrev pub Shows : Table → List (ResultRef × Bool) → Type 0
Shows t bits = (r : ResultRef) → bit_at t r ≡ bit_in bits r

-- the bit of one result was written
abbrev pub Sets : ResultRef → Bool → Table → Table → Type 0
Sets r b old new = (q : ResultRef) → bit_at new q ≡ (if same_result r q then Some b else bit_at old q)

abbrev pub read_as : Reading → State → (Bool → Move) → Move
read_as (reading.Bit b) st go = go b
read_as reading.Unset st go = Halt (Trap cause.ReadUnset) st
read_as reading.Lost st go = Stuck

abbrev pub argued_one : Argument → State → (Arg → Move) → Move
argued_one (one.Is a) st go = go a
argued_one one.Released st go = Halt (Trap cause.Released) st
argued_one one.Constant st go = Halt (Trap cause.ConstResult) st
argued_one one.Lost st go = Stuck

abbrev pub argued : Arguments → State → (List Arg → Move) → Move
argued (all.Are args) st go = go args
argued all.Released st go = Halt (Trap cause.Released) st
argued all.Constant st go = Halt (Trap cause.ConstResult) st
argued all.Lost st go = Stuck
