-- A run that comes to no configuration again ends within as many steps as there are configurations.
use Rattle.std.proofs.Common.{◌≡◌, ◌∙◌, ℕ, zero, suc, ◌+◌, ◌<◌, ◌≤◌, ◌||◌, Bool, true, false, List, [], ◌∷◌, length, refl, sym, ap, subst, arith, eqb, eqb-true, ne_eqb, Contains}
use Rattle.std.specs.Prelude.{⊤}
use Rattle.std.specs.List.{AllByRecursion, IsDistinct, list_any}
use Rattle.std.proofs.lemmas.Map.Keys.{IsDistinct-cons}
use Rattle.std.proofs.lemmas.Map.Steps.{length-le_from_distinct_below}
use Rattle.backend_api.specs.declared.operation.Answer.{Answer}
use Rattle.backend_api.specs.declared.operation.Event.{Event}
use Rattle.graph_cycles.specs.Cycles.{Graph, IsOnCycle, LeadsTo, successors}
use Rattle.graph_cycles.proofs.Lists.{get-within}
use Rattle.graph_cycles.proofs.Walks.{reaches-of, stays, then-edge}
use Rattle.ir_module.specs.declared.tree.Module.{Module}
use Rattle.ir_module.specs.Numbered.{Numbered}
use Rattle.kept_items.specs.declared.target.Target.{Target}
use Rattle.lowered_runs.proofs.First.{first-visited}
use Rattle.output_records.specs.declared.record.Record.{Record}
use Rattle.qir_meaning.specs.Runs.{RunEnd, Cut, Runs}
use Rattle.qir_meaning.specs.State.{State}
use Rattle.qir_meaning.specs.code.Steps.{Ended, Whole, Tick, On, Off, goes, run, tick, whole_start}
use Rattle.qir_meaning.proofs.Bounds.{run-from}
use Rattle.qir_meaning.proofs.Grow.{off-over, run-suc}
use Rattle.runs_follow_steps.specs.Describes.{Describes}
use Rattle.runs_follow_steps.specs.Laws.{RunsFollowSteps, StartsDescribeRuns}
use Rattle.search_verdicts.specs.Laws.{graph_of}
use Rattle.sound_lowering.specs.Programs.{IsLowered, number_of_entry, program_by}
use Rattle.static_steps.specs.Steps.{start_of}
use Rattle.unroller.specs.Programs.{Carries, Program, search_of, step_of}
use Rattle.unrolled_runs.proofs.Onward.{IsAt, Onward, leads, over, turn-onward}

-- ---- a row of nodes of a graph, of which each leads to the last

module _ (g : Graph) (count : ℕ) where
  abbrev pub Behind : ℕ → List ℕ → Type 0
  Behind i [] = ⊤
  Behind i (v ∷ vs) = (v < count) × LeadsTo g v i × Behind i vs

  behind-next : (i j : ℕ) (vs : List ℕ) → Contains (successors g i) j → Behind i vs → Behind j vs
  behind-next i j [] edge b = tt
  behind-next i j (v ∷ vs) edge b = (b.0, then-edge g v i j (reaches-of g v i b.1) edge, behind-next i j vs edge b.2)

  pub behind-more : (i j : ℕ) (vs : List ℕ) → i < count → Contains (successors g i) j → Behind i vs → Behind j (i ∷ vs)
  behind-more i j vs lt edge b = (lt, then-edge g i i j (stays g i i refl) edge, behind-next i j vs edge b)

  pub apart : ((n : ℕ) → IsOnCycle g n → ⊥) → (i : ℕ) (vs : List ℕ) → Behind i vs → AllByRecursion (λ v. eqb i v ≡ false) vs
  apart none i [] b = tt
  apart none i (v ∷ vs) b = (ne_eqb i v (λ e. none i (subst (λ z. LeadsTo g z i) (sym e) b.1)), apart none i vs b.2)

  met : (q v : ℕ) → v < count → (among : Bool) → (among ≡ true → q < count) → (same : Bool) → eqb q v ≡ same → (same || among) ≡ true → q < count
  met q v lt among more true is e = subst (λ z. z < count) (sym (eqb-true q v is)) lt
  met q v lt among more false is e = more e

  below : (i : ℕ) (vs : List ℕ) → Behind i vs → (q : ℕ) → list_any (eqb q) vs ≡ true → q < count
  below i [] b q e = cc
  below i (v ∷ vs) b q e = met q v b.0 (list_any (eqb q) vs) (below i vs b.2 q) (eqb q v) refl e

  pub few : (i : ℕ) (vs : List ℕ) → i < count → Behind i vs → IsDistinct eqb (i ∷ vs) → length (i ∷ vs) ≤ count
  few i vs lt b distinct =
      length-le_from_distinct_below (i ∷ vs) count distinct (λ q. met q i lt (list_any (eqb q) vs) (below i vs b q) (eqb q i) refl)

-- ---- a run along the configurations of a program

module _ (follow : RunsFollowSteps) (m : Module) (t : Target) (budget : ℕ) (l : Module) (lowered : IsLowered m t budget l) (numbered : Numbered m)
    (none : (n : ℕ) → IsOnCycle (graph_of lowered.nodes) n → ⊥) where
  abbrev p : Program
  p = program_by m t lowered.live

  abbrev g : Graph
  g = graph_of lowered.nodes

  abbrev count : ℕ
  count = length lowered.nodes

  onward : (i : ℕ) (w : Whole) → IsAt m lowered.live lowered.nodes i w → Onward m lowered.live lowered.nodes i (tick m w)
  onward i w at =
      turn-onward m lowered.live lowered.nodes i at.node at.is (tick m w) at.values w.state (step_of p at.node.node)
      (lowered.explored.links i at.node at.is) (lowered.explored.carries i at.node at.is).outcome
      (follow m t lowered.live at.node.node at.values w numbered.in_range lowered.is_test.tells at.describes)

  -- A run of n steps from configuration i is not cut, where so many configurations are behind it that with one for each step there are
  -- more than all.
  abbrev Ends : ℕ → Type 0
  Ends n = (vs : List ℕ) (i : ℕ) (w : Whole) (st : State) → IsAt m lowered.live lowered.nodes i w → Behind g count i vs → IsDistinct eqb vs
      → count ≤ length vs + n → run m n w ≡ Ended Cut st → ⊥

  ends-tick : (n : ℕ) → Ends n → (vs : List ℕ) (i : ℕ) (w : Whole) (st : State) → i < count → Behind g count i vs → IsDistinct eqb (i ∷ vs)
      → count ≤ length vs + suc n → (tk : Tick) → tick m w ≡ tk → Onward m lowered.live lowered.nodes i tk → goes (run m n) tk ≡ Ended Cut st → ⊥
  ends-tick n more vs i w st lt behind distinct enough (On w') is (leads w'' j edge at) cut =
      more (i ∷ vs) j w' st at (behind-more g count i j vs lt edge behind) distinct (omega (arith, enough)) cut
  ends-tick n more vs i w st lt behind distinct enough (Off o) is (over o') cut = off-over m w Cut st (is ∙ ap Off cut)

  ends : (n : ℕ) → Ends n
  unfolding run
  ends zero vs i w st at behind distinct enough cut =
      let lt = get-within lowered.nodes i at.node at.is in
      let f = few g count i vs lt behind (IsDistinct-cons eqb i vs (apart g count none i vs behind) distinct) in
      omega (arith, enough, f)
  ends (suc n) vs i w st at behind distinct enough cut =
      let lt = get-within lowered.nodes i at.node at.is in
      ends-tick n (ends n) vs i w st lt behind (IsDistinct-cons eqb i vs (apart g count none i vs behind) distinct) enough (tick m w) refl (onward i w at)
      (sym (run-suc m n w) ∙ cut)

  -- from the start
  pub never-cut : StartsDescribeRuns → (answers : List Answer) (n : ℕ) (es : List Event) (rs : List Record) (e : RunEnd) → count ≤ n → Runs m answers n es rs e → e ≡ Cut → ⊥
  unfolding IsDistinct
  never-cut starts answers n es rs e enough r is =
      let so = run-from m lowered.entry lowered.is_entry answers n es rs e r in
      let first = first-visited (search_of p budget) (Carries p) lowered.nodes lowered.explored in
      let same : first.0.node ≡ start_of (record { 0 = lowered.entry.number }) = first.2 ∙ ap (λ o. start_of (number_of_entry o)) lowered.is_entry in
      let at : IsAt m lowered.live lowered.nodes 0 (whole_start lowered.entry answers) = record {
        node = first.0;
        is = first.1;
        values = [];
        describes = subst (λ c. Describes m lowered.live [] c (whole_start lowered.entry answers)) (sym same) (starts m lowered.live lowered.entry answers lowered.is_entry);
      } in
      ends n [] 0 (whole_start lowered.entry answers) so.0 at tt tt (omega (arith, enough)) (so.1 ∙ ap (λ e. Ended e so.0) is)
