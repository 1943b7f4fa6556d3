-- A program has one verdict.
use Rattle.std.proofs.Common.{◌≡◌, ◌∙◌, List, sym}
use mathlib.Core.Logic.{inl, inr}
use Rattle.kept_items.specs.declared.target.Kind.{Kind}
use Rattle.kept_items.specs.declared.val.Dyn.{Dyn}
use Rattle.path_search.specs.Paths.{Search}
use Rattle.search_verdicts.specs.Laws as search
use Rattle.search_verdicts.proofs.Listed.{explored-one}
use Rattle.static_steps.specs.declared.config.Config.{Config}
use Rattle.static_steps.specs.declared.turn.Turn.{Turn}
use Rattle.static_steps.specs.declared.turn.Turn.TheVariants.{Goes, Exits, Bad, Lost}
use Rattle.unroller.specs.declared.node.Outcome.{Outcome}
use Rattle.unroller.specs.Programs.{Carries, IsOutcome, search_of, step_of}
use Rattle.program_verdicts.specs.Laws.{HasVerdict, IsListedOnce}
use Rattle.program_verdicts.proofs.Visits.{permitted}

pub has-verdict : ((s : Search Config Kind) → search.HasVerdict s) → HasVerdict
has-verdict verdicts p budget keeps = elim (verdicts (search_of p budget)) [
  | inl a ↦ inl (permitted p budget keeps a.accepts a.nodes a.lists a.every)
  | inr r ↦ inr (record { at = r.at; reason = r.reason; refuses = r.refuses })
]

-- a step has one outcome
one-outcome : (t : Turn) (x y : Outcome) (ls ks : List (List Dyn)) → IsOutcome t x ls → IsOutcome t y ks → (x ≡ y) × (ls ≡ ks)
one-outcome (Goes moves item choice) x y ls ks a b = (a.0 ∙ sym b.0, a.1 ∙ sym b.1)
one-outcome (Exits code) x y ls ks a b = (a.0 ∙ sym b.0, a.1 ∙ sym b.1)
one-outcome (Bad kind) x y ls ks a b = absurd a
one-outcome Lost x y ls ks a b = absurd a

pub is-listed-once : IsListedOnce
is-listed-once p budget xs ys a b =
    explored-one (search_of p budget) (Carries p) (λ g x y ls ks c d. one-outcome (step_of p g) x y ls ks c.outcome d.outcome) xs ys a b
