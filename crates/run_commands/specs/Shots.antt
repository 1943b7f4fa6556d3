-- What `run` and `trace` write.
use Rattle.std.specs.Prelude.{◌≡◌, ◌⊎◌, ℕ, Bool, true, false, Option, Some, Result, IfOk, List, [], ◌∷◌, ◌++◌}
use Rattle.std.specs.List.{flat_map, list_all}
use Rattle.ir_module.specs.declared.tree.Function.{Function}
use Rattle.ir_module.specs.declared.tree.Module.{Module}
use Rattle.ir_module.specs.Entry.{Entry, entry_of}
use Rattle.ir_values.specs.Bytes.{line_feed}
use Rattle.output_lines.specs.declared.last.Last.{Last}
use Rattle.output_lines.specs.declared.last.Last.TheVariants.{Code, Stop}
use Rattle.output_lines.specs.declared.last.Schema.{Schema}
use Rattle.output_lines.specs.declared.line.ShotStop.{ShotStop}
use Rattle.output_lines.specs.RecordLines.{head_lines, shot_lines}
use Rattle.output_lines.specs.TraceLines.{trace_lines}
use Rattle.output_lines.specs.Writing.{Writes, text_of}
use Rattle.shots.specs.declared.backend.Backend.{Backend}
use Rattle.shots.specs.Shots.{IsShot, Shot}

-- a shot with each of these backends, of at most n steps
abbrev pub AreShots : List Backend → Module → ℕ → List Shot → Type 0
AreShots [] m n [] = Unit {0}
AreShots [] m n (s ∷ ss) = ⊥
AreShots (b ∷ bs) m n [] = ⊥
AreShots (b ∷ bs) m n (s ∷ ss) = IsShot b m n s × AreShots bs m n ss

-- the entry returned
abbrev pub returned : Last → Bool
returned (Code code) = true
returned (Stop why) = false

abbrev pub all_returned : List Shot → Bool
all_returned shots = list_all (λ s. returned s.last) shots

-- the records of a shot, and its events
abbrev pub told_shot : Schema → Module → Function → Shot → List (List ℕ)
told_shot schema m entry s = shot_lines schema m entry s.records s.last

abbrev pub told_trace : Shot → List (List ℕ)
told_trace s = trace_lines s.events s.last

-- the lines of `run`
abbrev pub run_lines : Schema → Module → Function → List Shot → List (List ℕ)
run_lines schema m entry shots = head_lines schema ++ flat_map (told_shot schema m entry) shots

-- the lines of shots were written, as far as it went, and the answer says whether all returned
pub record TellsShots (bs : List Backend) (m : Module) (n : ℕ) (lines : List Shot → List (List ℕ))
    (before now : Option (List ℕ)) (faults faults' : ℕ) (result : Result Bool ShotStop) : Type 0 where
  pub shots : List Shot
  pub are : AreShots bs m n shots
  pub written : Writes (lines shots) before now faults faults' result
  pub answer : IfOk result (λ all. all ≡ all_returned shots)

-- the lines are those of `run`
pub record TellsRecords (schema : Schema) (bs : List Backend) (m : Module) (n : ℕ) (before now : Option (List ℕ)) (faults faults' : ℕ)
    (result : Result Bool ShotStop) : Type 0 where
  pub entry : Entry
  pub is_entry : entry_of m ≡ Some entry
  pub tells : TellsShots bs m n (run_lines schema m entry.function) before now faults faults' result

-- whole lines: nothing, or a text that ends in a line feed
abbrev pub AreWholeLines : List ℕ → Type 0
AreWholeLines text = (text ≡ []) ⊎ ((front : List ℕ) × (text ≡ front ++ line_feed ∷ []))

-- what `run` comes to: the text of its lines, and whether all returned
pub record IsRun (schema : Schema) (bs : List Backend) (m : Module) (n : ℕ) (text : List ℕ) (all : Bool) : Type 0 where
  pub entry : Entry
  pub is_entry : entry_of m ≡ Some entry
  pub shots : List Shot
  pub are : AreShots bs m n shots
  pub text_is : text ≡ text_of (run_lines schema m entry.function shots)
  pub all_is : all ≡ all_returned shots

-- what `trace` comes to
pub record IsTrace (b : Backend) (m : Module) (n : ℕ) (text : List ℕ) (all : Bool) : Type 0 where
  pub shots : List Shot
  pub are : AreShots (b ∷ []) m n shots
  pub text_is : text ≡ text_of (flat_map told_trace shots)
  pub all_is : all ≡ all_returned shots
