-- Two modules do the same.
use Rattle.std.specs.Prelude.{◌≡◌, ◌≢◌, ℕ, ◌+◌, ◌*◌, List, ◌++◌}
use Rattle.backend_api.specs.declared.operation.Answer.{Answer}
use Rattle.backend_api.specs.declared.operation.Event.{Event}
use Rattle.ir_module.specs.declared.tree.Module.{Module}
use Rattle.output_records.specs.declared.record.Record.{Record}
use Rattle.backend_api.specs.Naming.{Naming, named_events}
use Rattle.qir_meaning.specs.Naming.{named_end}
use Rattle.qir_meaning.specs.Runs.{RunEnd, Cut, Runs}

-- xs is the beginning of ys, or all of it
abbrev pub Prefix : {A : Type 0} → List A → List A → Type 0
Prefix {A} xs ys = (rest : List A) × (ys ≡ xs ++ rest)

-- For every list of answers and every bound of steps, l does what m does under the naming. A run of one that isn't cut gives the
-- same run of the other at a wider bound, and one that is cut has done a prefix of what the other has done there.
pub record SameBehaviour (m l : Module) (N : Naming) (W : ℕ) : Type 0 where
  pub forth : (a : List Answer) (n : ℕ) (es : List Event) (rs : List Record) (e : RunEnd) → Runs m a n es rs e → e ≢ Cut
      → Runs l a (4 * n + 16) (named_events N es) rs (named_end N e)
  pub back : (a : List Answer) (n : ℕ) (es' : List Event) (rs : List Record) (e' : RunEnd) → Runs l a n es' rs e' → e' ≢ Cut
      → (es : List Event) × (e : RunEnd) × (named_events N es ≡ es') × (named_end N e ≡ e') × Runs m a ((n + 1) * W) es rs e
  pub cut_forth : (a : List Answer) (n : ℕ) (es es' : List Event) (rs rs' : List Record) (e' : RunEnd) → Runs m a n es rs Cut
      → Runs l a (4 * n + 16) es' rs' e' → Prefix (named_events N es) es' × Prefix rs rs'
  pub cut_back : (a : List Answer) (n : ℕ) (es es' : List Event) (rs rs' : List Record) (e : RunEnd) → Runs l a n es' rs' Cut
      → Runs m a ((n + 1) * W) es rs e → Prefix es' (named_events N es) × Prefix rs' rs
