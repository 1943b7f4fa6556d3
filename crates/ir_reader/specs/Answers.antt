-- What the reader may answer. Want of memory says nothing of a text.
use Rattle.std.specs.Prelude.{◌≡◌, ℕ, Result, Ok, Err, List}
use Rattle.ir_module.specs.declared.places.Place.{Place}
use Rattle.ir_module.specs.declared.tree.Module.{Module}
use Rattle.ir_reader.specs.declared.parsed.Parsed.{Parsed}
use Rattle.ir_reader.specs.declared.parsed.ReadCode.{ReadCode}
use Rattle.ir_reader.specs.declared.parsed.ReadStop.{ReadStop}
use Rattle.ir_reader.specs.declared.parsed.ReadStop.TheVariants.{Refused, Memory}
use Rattle.ir_reader.specs.Misreading.{Misread}

-- it stops with the first fault of the text
abbrev pub MayStopWith : List ℕ → ReadStop → Type 0
MayStopWith text (Refused code place) = Misread text code place
MayStopWith text Memory = Unit {0}

-- it gives this module, unless memory ran out
abbrev pub GivesModule : Module → Result Parsed ReadStop → Type 0
GivesModule m (Ok parsed) = parsed.module ≡ m
GivesModule m (Err (Refused code place)) = ⊥
GivesModule m (Err Memory) = Unit {0}

-- it refuses for this, at this place, unless memory ran out
abbrev pub Refuses : ReadCode → Place → Result Parsed ReadStop → Type 0
Refuses code place (Ok parsed) = ⊥
Refuses code place (Err (Refused c p)) = (c ≡ code) × (p ≡ place)
Refuses code place (Err Memory) = Unit {0}
