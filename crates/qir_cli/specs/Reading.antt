-- What the reader says of a text: all that the commands know of the language.
use Rattle.std.specs.Prelude.{◌≡◌, ℕ, List, Result, Ok, Err}
use Rattle.ir_reader.specs.declared.parsed.Parsed.{Parsed}
use Rattle.ir_reader.specs.declared.parsed.ReadCode.{ReadCode}
use Rattle.ir_reader.specs.Misreading.{Misread}
use Rattle.ir_reader.specs.Spelling.{Spells, HasPlaces}
use Rattle.qir_cli.specs.declared.refusal.Fault.TheVariants.{Read}
use Rattle.qir_cli.specs.declared.refusal.Refusal.{Refusal}

-- the bytes spell this module, and these are the places of its spots
pub record ReadsAs (bytes : List ℕ) (parsed : Parsed) : Type 0 where
  pub spells : Spells parsed.module bytes
  pub places : HasPlaces bytes parsed.places

-- they are refused for this fault of the text
pub record Misreads (bytes : List ℕ) (why : Refusal) : Type 0 where
  pub code : ReadCode
  pub misread : Misread bytes code why.place
  pub fault : why.fault ≡ Read code

abbrev pub Reads : List ℕ → Result Parsed Refusal → Type 0
Reads bytes (Ok parsed) = ReadsAs bytes parsed
Reads bytes (Err why) = Misreads bytes why
