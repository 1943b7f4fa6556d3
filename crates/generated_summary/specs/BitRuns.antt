-- Runs over classical bits, and when two of them are the same.
use Rattle.std.specs.Prelude.{◌≡◌, ◌≢◌, ℕ, ◌<◌, ◌≤◌, List}
use Rattle.backend_api.specs.declared.operation.Event.{Event}
use Rattle.backend_api.specs.Naming.{Naming, named_events}
use Rattle.ir_module.specs.declared.tree.Module.{Module}
use Rattle.output_records.specs.declared.record.Record.{Record}
use Rattle.qir_machine.specs.Runs.{IsCutAt}
use Rattle.qir_meaning.specs.Naming.{named_end}
use Rattle.qir_meaning.specs.Runs.{RunEnd, Cut, Runs}
use Rattle.shots.specs.declared.backend.Backend.TheVariants.{Bits}
use Rattle.shots.specs.Shots.{IsShot, Shot, answers_of}

-- The shot of the module over classical bits with at most n steps, and how many steps it takes: with fewer it is cut, and with these it
-- ends as it does; one that is cut takes all n.
pub record BitRun (m : Module) (n : ℕ) : Type 0 where
  pub shot : Shot
  pub is_shot : IsShot Bits m n shot
  pub steps : ℕ
  pub within : steps ≤ n
  pub cut_before : (k : ℕ) → k < steps → IsCutAt m shot.events k
  pub all_where_cut : is_shot.end ≡ Cut → steps ≡ n
  pub enough : is_shot.end ≢ Cut → Runs m (answers_of shot.events) steps shot.events shot.records is_shot.end

-- the events and the ends of the first, under the naming, are those of the second, and the records are equal
abbrev pub AreSame : Naming → (es es' : List Event) (rs rs' : List Record) (e e' : RunEnd) → Type 0
AreSame N es es' rs rs' e e' = (named_events N es ≡ es') × (rs ≡ rs') × (named_end N e ≡ e')

abbrev pub DoTheSame : {m l : Module} {n k : ℕ} → Naming → BitRun m n → BitRun l k → Type 0
DoTheSame N x y = AreSame N x.shot.events y.shot.events x.shot.records y.shot.records x.is_shot.end y.is_shot.end
