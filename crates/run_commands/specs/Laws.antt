-- What `run` and `trace` come to is one text.
use Rattle.std.specs.Prelude.{◌≡◌, ℕ, List, Bool}
use Rattle.ir_module.specs.declared.tree.Module.{Module}
use Rattle.ir_module.specs.Numbered.{Numbered}
use Rattle.output_lines.specs.declared.last.Schema.{Schema}
use Rattle.type_check.specs.Faults.{Typed}
use Rattle.run_commands.specs.Shots.{IsRun, IsTrace}
use Rattle.shots.specs.declared.backend.Backend.{Backend}

-- of a module without faults there is at most one, with one answer
unfoldable pub RunsAreOne : Type 0
RunsAreOne =
    (m : Module) (limit : ℕ) → Numbered m → Typed m limit
    → (schema : Schema) (bs : List Backend) (n : ℕ) (x y : List ℕ) (a b : Bool)
    → IsRun schema bs m n x a → IsRun schema bs m n y b → (x ≡ y) × (a ≡ b)

unfoldable pub TracesAreOne : Type 0
TracesAreOne =
    (m : Module) (limit : ℕ) → Numbered m → Typed m limit
    → (by : Backend) (n : ℕ) (x y : List ℕ) (a b : Bool)
    → IsTrace by m n x a → IsTrace by m n y b → (x ≡ y) × (a ≡ b)

-- there is one
unfoldable pub RunsExist : Type 0
RunsExist =
    (m : Module) (limit : ℕ) → Numbered m → Typed m limit
    → (schema : Schema) (bs : List Backend) (n : ℕ) → (x : List ℕ) × (a : Bool) × IsRun schema bs m n x a

unfoldable pub TracesExist : Type 0
TracesExist =
    (m : Module) (limit : ℕ) → Numbered m → Typed m limit
    → (by : Backend) (n : ℕ) → (x : List ℕ) × (a : Bool) × IsTrace by m n x a
