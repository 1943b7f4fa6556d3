-- The replies of `run` and `trace`: there is one, just one, it has a status of replies, and it is told line by line.
use Rattle.std.proofs.Common.{◌≡◌, ◌∙◌, ℕ, Bool, true, false, List, [], ◌∷◌, length, take, flat_map, refl, ap, sym, subst}
use Rattle.std.specs.Prelude.{Option, Result, Ok, Err, IfOk}
use Rattle.admission.specs.Admitted.{greatest_required}
use Rattle.ir_module.specs.Numbered.{Numbered}
use Rattle.ir_reader.specs.declared.parsed.Parsed.{Parsed}
use Rattle.output_lines.specs.declared.last.Schema.{Schema}
use Rattle.output_lines.specs.declared.line.ShotStop.{ShotStop}
use Rattle.output_lines.specs.declared.line.ShotStop.TheVariants as shot
use Rattle.output_lines.specs.Writing.{Writes, text_of}
use Rattle.qir_ports.specs.Known.{Takes}
use Rattle.run_commands.specs.Laws.{RunsAreOne, RunsExist, TracesAreOne, TracesExist}
use Rattle.run_commands.specs.Shots.{AreWholeLines, TellsRecords, TellsShots, all_returned, run_lines, told_trace}
use Rattle.run_commands.proofs.Ended.{AllEnd, first-bytes, first-whole, runs-end, traces-end}
use Rattle.shots.specs.declared.backend.Backend.{Backend}
use Rattle.type_check.specs.Faults.{Typed}
use Rattle.qir_cli.specs.code.Stops.{Becomes, whole, in_part, in_lines, DoesWell, told_status}
use Rattle.qir_cli.specs.declared.command.Command.TheVariants.{Run, Trace}
use Rattle.qir_cli.specs.declared.refusal.Refusal.{Refusal}
use Rattle.qir_cli.specs.declared.reply.Reply.{Reply}
use Rattle.qir_cli.specs.Outcomes.{IsAnswered}
use Rattle.qir_cli.specs.Replies.{reply_of}
use Rattle.qir_cli.specs.Running.{RunsShots, TracesShot, ended}
use Rattle.qir_cli.specs.Stages.{AtMostOne, AtLeastOne}

module _ (parsed : Parsed) (numbered : Numbered parsed.module) (typed : Typed parsed.module greatest_required) where
  pub runs-one : RunsAreOne → (schema : Schema) (steps : ℕ) (backends : List Backend) → AtMostOne (RunsShots schema steps backends parsed)
  unfolding RunsAreOne
  runs-one one schema steps backends (Ok r) (Ok s) a b =
      let e = one parsed.module greatest_required numbered typed schema backends steps r.text s.text a.all b.all a.is_run b.is_run in
      ap (λ status. Ok (record { status = status; text = r.text })) (a.status ∙ ap ended e.1 ∙ sym b.status) ∙ ap (λ text. Ok (record { status = s.status; text = text })) e.0
  runs-one one schema steps backends (Ok r) (Err w) a b = absurd b
  runs-one one schema steps backends (Err v) s a b = absurd a

  pub traces-one : TracesAreOne → (steps : ℕ) (backend : Backend) → AtMostOne (TracesShot steps backend parsed)
  unfolding TracesAreOne
  traces-one one steps backend (Ok r) (Ok s) a b =
      let e = one parsed.module greatest_required numbered typed backend steps r.text s.text a.all b.all a.is_trace b.is_trace in
      ap (λ status. Ok (record { status = status; text = r.text })) (a.status ∙ ap ended e.1 ∙ sym b.status) ∙ ap (λ text. Ok (record { status = s.status; text = text })) e.0
  traces-one one steps backend (Ok r) (Err w) a b = absurd b
  traces-one one steps backend (Err v) s a b = absurd a

  pub runs-some : RunsExist → (schema : Schema) (steps : ℕ) (backends : List Backend) → AtLeastOne (RunsShots schema steps backends parsed)
  unfolding RunsExist
  runs-some exist schema steps backends =
      let x = exist parsed.module greatest_required numbered typed schema backends steps in
      (Ok (record { status = ended x.1; text = x.0 }), record { all = x.1; is_run = x.2; status = refl })

  pub traces-some : TracesExist → (steps : ℕ) (backend : Backend) → AtLeastOne (TracesShot steps backend parsed)
  unfolding TracesExist
  traces-some exist steps backend =
      let x = exist parsed.module greatest_required numbered typed backend steps in
      (Ok (record { status = ended x.1; text = x.0 }), record { all = x.1; is_trace = x.2; status = refl })

ended-answered : (all : Bool) → IsAnswered (ended all)
ended-answered true = tt
ended-answered false = tt

pub runs-answered : (schema : Schema) (steps : ℕ) (backends : List Backend) (parsed : Parsed) (end : Result Reply Refusal) → RunsShots schema steps backends parsed end → IsAnswered (reply_of end).status
runs-answered schema steps backends parsed (Ok reply) r = subst IsAnswered (sym r.status) (ended-answered r.all)
runs-answered schema steps backends parsed (Err why) r = absurd r

pub traces-answered : (steps : ℕ) (backend : Backend) (parsed : Parsed) (end : Result Reply Refusal) → TracesShot steps backend parsed end → IsAnswered (reply_of end).status
traces-answered steps backend parsed (Ok reply) r = subst IsAnswered (sym r.status) (ended-answered r.all)
traces-answered steps backend parsed (Err why) r = absurd r

-- ---- the code

abbrev told_reply : Bool → List ℕ → Reply
told_reply all text = record { status = ended all; text = text }

module _ {K : Type 0} (taken : K → Option (List ℕ)) (faults : K → ℕ) (k k' : K) where
  -- lines that end in line feeds are told
  lines-become : (L : Type 0) (P : Reply → Type 0) → L → (lines : List (List ℕ)) → AllEnd lines → (all : Bool) → P (told_reply all (text_of lines)) → (r : Result Bool ShotStop)
      → Writes lines (taken k) (taken k') (faults k) (faults k') r → IfOk r (λ a. a ≡ all) → Becomes L P taken faults k k' (told_status r)
  lines-become L P by lines ends all p (Ok a) w e = subst (λ b. Becomes L P taken faults k k' (ended b)) (sym e) (whole (told_reply all (text_of lines)) p w)
  lines-become L P by lines ends all p (Err shot.Write) w e = in_part (told_reply all (text_of lines)) p w.0.count w.0.not_all w.0.written w.1
  lines-become L P by lines ends all p (Err shot.Memory) w e =
      let same = first-bytes lines w.count in
      in_lines by (told_reply all (text_of lines)) p (length (text_of (take w.count lines))) (subst AreWholeLines (sym same) (first-whole lines w.count ends))
      (subst (λ t. Takes (taken k) t (taken k')) (sym same) w.written)

  pub run-becomes : (schema : Schema) (steps : ℕ) (backends : List Backend) (parsed : Parsed) (r : Result Bool ShotStop) → TellsRecords schema backends parsed.module steps (taken k) (taken k') (faults k) (faults k') r
      → Becomes (⊥ → ⊥) (DoesWell (Run schema steps backends) parsed) taken faults k k' (told_status r)
  run-becomes schema steps backends parsed r t =
      let s = t.tells in
      let lines = run_lines schema parsed.module t.entry.function s.shots in
      let all = all_returned s.shots in
      lines-become (⊥ → ⊥) (DoesWell (Run schema steps backends) parsed) (λ x. x) lines (runs-end schema parsed.module t.entry.function s.shots) all (
        (Ok (told_reply all (text_of lines)), record { all = all; is_run = record { entry = t.entry; is_entry = t.is_entry; shots = s.shots; are = s.are; text_is = refl; all_is = refl }; status = refl }, refl),
        λ bytes spells e. tt,
      )
      r s.written s.answer

  pub trace-becomes : (steps : ℕ) (backend : Backend) (parsed : Parsed) (r : Result Bool ShotStop) → TellsShots (backend ∷ []) parsed.module steps (flat_map told_trace) (taken k) (taken k') (faults k) (faults k') r
      → Becomes (⊥ → ⊥) (DoesWell (Trace steps backend) parsed) taken faults k k' (told_status r)
  trace-becomes steps backend parsed r s =
      let lines = flat_map told_trace s.shots in
      let all = all_returned s.shots in
      lines-become (⊥ → ⊥) (DoesWell (Trace steps backend) parsed) (λ x. x) lines (traces-end s.shots) all
      ((Ok (told_reply all (text_of lines)), record { all = all; is_trace = record { shots = s.shots; are = s.are; text_is = refl; all_is = refl }; status = refl }, refl), λ bytes spells e. tt)
      r s.written s.answer
