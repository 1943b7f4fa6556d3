-- What a backend answers under other names for qubits and results.
use Rattle.std.proofs.Common.{◌≡◌, ℕ, ◌+◌, cond, List, [], ◌∷◌, ◌++◌, map, count_by, refl, sym, ap, ◌∙◌}
use Rattle.std.proofs.lemmas.List.Sums.{sum_by-cons}
use Rattle.std.proofs.lemmas.List.Elements.{Contains-append_left, Contains-append_right}
use Rattle.backend_api.specs.declared.operation.Answer.{Answer}
use Rattle.backend_api.specs.declared.operation.Arg.{Arg}
use Rattle.backend_api.specs.declared.operation.Arg.TheVariants as arg
use Rattle.backend_api.specs.declared.operation.Event.{Event}
use Rattle.backend_api.specs.declared.operation.Op.{Op}
use Rattle.backend_api.specs.Naming.{IsInjectiveOn, Naming, named_arg, named_events, named_op}
use Rattle.backend_api.specs.Operations.{bits_in, bits_of_answer, is_result, qubits_in, qubits_of}
use Rattle.bit_backend.specs.Actions.{can}
use Rattle.bit_backend.specs.Bits.{fits}
use Rattle.bit_backend.specs.Laws.{RenamingKeepsFits, RenamingKeepsOperations}
use Rattle.ir_module.specs.declared.tree.Module.{Module}
use Rattle.output_lines.specs.declared.last.Last.{Last}
use Rattle.output_lines.specs.declared.last.StopName.{StopName}
use Rattle.output_records.specs.declared.record.Record.{Record}
use Rattle.qir_meaning.specs.Apart.{KeepsApart, of_end}
use Rattle.qir_meaning.specs.Naming.{named_end}
use Rattle.qir_meaning.specs.Runs.{RunEnd, Returned, Trapped, Asks, Cut, Runs}
use Rattle.shots.specs.declared.backend.Backend.{Backend}
use Rattle.shots.specs.declared.backend.Backend.TheVariants.{Script, Bits}
use Rattle.shots.specs.Shots.{Gives, Lacks, TellsEnd, answers_of}

-- ---- names change no answer

pub answers-named : (N : Naming) (es : List Event) → answers_of (named_events N es) ≡ answers_of es
answers-named N [] = refl
answers-named N (e ∷ es) = ap (λ l. e.answer ∷ l) (answers-named N es)

bits-named : (N : Naming) (es : List Event) → bits_in (named_events N es) ≡ bits_in es
bits-named N [] = refl
bits-named N (e ∷ es) = ap (λ l. bits_of_answer e.answer ++ l) (bits-named N es)

result-named : (N : Naming) (a : Arg) → is_result (named_arg N a) ≡ is_result a
result-named N (arg.Qubit q) = refl
result-named N (arg.Res r) = refl
result-named N (arg.Double t) = refl
result-named N (arg.Int i) = refl

results-named : (N : Naming) (args : List Arg) → count_by is_result (map (named_arg N) args) ≡ count_by is_result args
results-named N [] = refl
results-named N (a ∷ args) =
    let f : Arg → ℕ = λ (y : Arg). cond (is_result y) 1 0 in
    sum_by-cons f (named_arg N a) (map (named_arg N) args) ∙ (λ i. cond (result-named N a i) 1 0 + results-named N args i) ∙ sym (sum_by-cons f a args)

-- ---- what a backend answers, and what it lacks, where bits and names agree

gives-by : (b : Backend) (es es' : List Event) → bits_in es' ≡ bits_in es → fits es' ≡ fits es → Gives b es → Gives b es'
gives-by (Script bits) es es' same fit g = (g.0, g.1 ∙ ap (λ l. l ++ g.0) (sym same))
gives-by Bits es es' same fit g = fit ∙ g

lacks-by : (b : Backend) (es es' : List Event) (op op' : Op) (why : StopName) → bits_in es' ≡ bits_in es → count_by is_result op'.args ≡ count_by is_result op.args → can op' ≡ can op
    → Lacks b es op why → Lacks b es' op' why
lacks-by (Script bits) es es' op op' why same sized able l = (sized ∙ l.0, same ∙ l.1, l.2)
lacks-by Bits es es' op op' why same sized able l = (able ∙ l.0, l.1)

-- ---- a run of a module whose handles a naming keeps apart

module _ (operations : RenamingKeepsOperations) (keeps_fits : RenamingKeepsFits) (m : Module) (N : Naming) (apart : KeepsApart N m) where
  module _ (a : List Answer) (n : ℕ) (es : List Event) (rs : List Record) where
    apart-events : (e : RunEnd) → Runs m a n es rs e → IsInjectiveOn N (qubits_in es)
    apart-events e run p q hp hq =
        apart.qubits p q
        (record { answers = a; steps = n; events = es; records = rs; ending = e; run = run; named = Contains-append_left (qubits_in es) (of_end qubits_of e) p hp })
        (record { answers = a; steps = n; events = es; records = rs; ending = e; run = run; named = Contains-append_left (qubits_in es) (of_end qubits_of e) q hq })

    apart-asked : (op : Op) → Runs m a n es rs (Asks op) → IsInjectiveOn N (qubits_of op)
    apart-asked op run p q hp hq =
        apart.qubits p q
        (record { answers = a; steps = n; events = es; records = rs; ending = Asks op; run = run; named = Contains-append_right (qubits_in es) (qubits_of op) p hp })
        (record { answers = a; steps = n; events = es; records = rs; ending = Asks op; run = run; named = Contains-append_right (qubits_in es) (qubits_of op) q hq })

    same-fits : (e : RunEnd) → Runs m a n es rs e → fits (named_events N es) ≡ fits es
    same-fits e run = keeps_fits N es (apart-events e run)

    same-able : (op : Op) → Runs m a n es rs (Asks op) → can (named_op N op) ≡ can op
    same-able op run = operations N op (apart-asked op run)

    -- a backend answers its events under either name
    pub gives-named : (b : Backend) (e : RunEnd) → Runs m a n es rs e → Gives b es → Gives b (named_events N es)
    gives-named b e run g = gives-by b es (named_events N es) (bits-named N es) (same-fits e run) g

    pub gives-plain : (b : Backend) (e : RunEnd) → Runs m a n es rs e → Gives b (named_events N es) → Gives b es
    gives-plain b e run g = gives-by b (named_events N es) es (sym (bits-named N es)) (sym (same-fits e run)) g

    -- and the end is told alike
    pub tells-named : (b : Backend) (e : RunEnd) (last : Last) → Runs m a n es rs e → TellsEnd b es e last → TellsEnd b (named_events N es) (named_end N e) last
    tells-named b (Returned code) last run t = t
    tells-named b (Trapped why) last run t = t
    tells-named b (Asks op) last run t =
        (t.0, lacks-by b es (named_events N es) op (named_op N op) t.0 (bits-named N es) (results-named N op.args) (same-able op run) t.1, t.2)
    tells-named b Cut last run t = t

    pub tells-plain : (b : Backend) (e : RunEnd) (last : Last) → Runs m a n es rs e → TellsEnd b (named_events N es) (named_end N e) last → TellsEnd b es e last
    tells-plain b (Returned code) last run t = t
    tells-plain b (Trapped why) last run t = t
    tells-plain b (Asks op) last run t =
        (t.0, lacks-by b (named_events N es) es (named_op N op) op t.0 (sym (bits-named N es)) (sym (results-named N op.args)) (sym (same-able op run)) t.1, t.2)
    tells-plain b Cut last run t = t
