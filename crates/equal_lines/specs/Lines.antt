-- What `run` writes of two modules of which one does what the other does.
use Rattle.std.specs.Prelude.{◌≡◌, ℕ, ◌+◌, ◌*◌, ⊤, Bool, not, nat_eq, List, [], ◌∷◌, filter, codes}
use Rattle.std.specs.List.{starts_with}
use Rattle.equal_shots.specs.Shots.{IsOver}
use Rattle.ir_module.specs.declared.tree.Function.{Function}
use Rattle.ir_module.specs.declared.tree.Module.{Module}
use Rattle.output_lines.specs.declared.last.Schema.{Schema}
use Rattle.run_commands.specs.Shots.{IsRun, run_lines}
use Rattle.shots.specs.declared.backend.Backend.{Backend}
use Rattle.shots.specs.Shots.{Shot}

-- a line that tells an attribute of the entry
abbrev pub is_metadata : List ℕ → Bool
is_metadata line = starts_with nat_eq line (codes "METADATA\t")

abbrev pub without_metadata : List (List ℕ) → List (List ℕ)
without_metadata lines = filter (λ line. not (is_metadata line)) lines

-- no shot was cut
abbrev pub AreOver : List Shot → Type 0
AreOver [] = ⊤
AreOver (x ∷ xs) = IsOver x × AreOver xs

-- what `run` writes, but for the attributes of the entry
abbrev pub plain_run : Schema → Module → Function → List Shot → List (List ℕ)
plain_run schema m entry shots = without_metadata (run_lines schema m entry shots)

-- `run` of m and of l, with the same backends, each at a bound of its own
pub record EqualRuns (m l : Module) (W : ℕ) : Type 0 where
  -- whatever the two bounds, where no shot is cut, the lines are the same, and so is whether all returned
  pub equal : (schema : Schema) (bs : List Backend) (n k : ℕ) (text text' : List ℕ) (all all' : Bool)
      (x : IsRun schema bs m n text all) (y : IsRun schema bs l k text' all')
      → AreOver x.shots → AreOver y.shots
      → (plain_run schema m x.entry.function x.shots ≡ plain_run schema l y.entry.function y.shots) × (all ≡ all')
  -- where no shot of one is cut, none of the other is, at a bound that is known
  pub forth : (schema : Schema) (bs : List Backend) (n : ℕ) (text text' : List ℕ) (all all' : Bool)
      (x : IsRun schema bs m n text all) (y : IsRun schema bs l (4 * n + 16) text' all')
      → AreOver x.shots → AreOver y.shots
  pub back : (schema : Schema) (bs : List Backend) (n : ℕ) (text text' : List ℕ) (all all' : Bool)
      (x : IsRun schema bs m ((n + 1) * W) text all) (y : IsRun schema bs l n text' all')
      → AreOver y.shots → AreOver x.shots
