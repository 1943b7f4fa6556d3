-- What a function of a hand-written reader says: it answers what the grammar's own reader answers.
use Rattle.std.specs.Prelude.{◌≡◌, Result, Ok, Err}
use Rattle.grammar.specs.declared.cursor.Cursor.{Cursor}
use Rattle.grammar.specs.declared.cursor.Halt.{Halt}
use Rattle.grammar.specs.declared.cursor.Halt.TheVariants.{Memory, At}
use Rattle.grammar.specs.Grammar.{Alphabet, Grammar}
use Rattle.grammar.specs.code.Reading.{Out, Got, Stop, read}

-- a function gave up with what stops the reading, unless memory ran out
abbrev pub Fails : {L : Alphabet} {A : Type 0} → Halt L.Token L.Rule → Out L A → Type 0
Fails Memory o = Unit
Fails (At f rest) o = o ≡ Stop f rest.now

-- From the place c to the place d, a function read as the production g is read.
abbrev pub Gives : {L : Alphabet} {A : Type 0} → Grammar L A → Cursor L.Token → Cursor L.Token → Result A (Halt L.Token L.Rule) → Type 0
Gives g c d (Ok x) = read g c.marked c.rest.now ≡ Got x d.marked d.rest.now
Gives g c d (Err e) = Fails e (read g c.marked c.rest.now)
