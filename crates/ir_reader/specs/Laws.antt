-- What is said of a text, and that it is one thing.
use Rattle.std.specs.Prelude.{◌≡◌, ℕ, Result, Ok, Err, List, map}
use Rattle.ir_module.specs.declared.places.Place.{Place}
use Rattle.ir_module.specs.Spots.{spots}
use Rattle.ir_reader.specs.declared.parsed.Parsed.{Parsed}
use Rattle.ir_reader.specs.declared.parsed.ReadCode.{ReadCode}
use Rattle.ir_reader.specs.Misreading.{Misread}
use Rattle.ir_reader.specs.Spelling.{Spells, HasPlaces}

-- the module that it spells, with the places of its spots; or why it is refused, and where
abbrev pub Reads : List ℕ → Result Parsed (ReadCode × Place) → Type 0
Reads text (Ok parsed) = Spells parsed.module text × HasPlaces text parsed.places
Reads text (Err why) = Misread text why.0 why.1

-- Every text spells one module with its places, or is refused for one reason at one place, and never both.
abbrev pub OneAnswer : Type 0
OneAnswer = (text : List ℕ) → (r : Result Parsed (ReadCode × Place)) × Reads text r
    × ((q : Result Parsed (ReadCode × Place)) → Reads text q → q ≡ r)

-- The places of a text are those of the spots of its module, in order.
abbrev pub PlacesAreOfSpots : Type 0
PlacesAreOfSpots = (text : List ℕ) (parsed : Parsed) → Reads text (Ok parsed) → map (λ p. p.0) parsed.places ≡ spots parsed.module
