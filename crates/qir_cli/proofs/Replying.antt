-- The reply of a command from what its stages said.
use Rattle.std.proofs.Common.{◌≡◌, ◌∙◌, ℕ, ◌<◌, ◌≤◌, Bool, true, false, List, length, refl, ap, sym, subst, arith, if◌then◌else◌}
use Rattle.std.specs.Prelude.{nat_le, IfOk, Result, Ok, Err}
use Rattle.ir_grammar.specs.declared.tree.ItemSyntax.{ItemSyntax}
use Rattle.ir_module.specs.declared.tree.Module.{Module}
use Rattle.ir_module.specs.Numbered.{Numbered}
use Rattle.ir_module.specs.Printable.{are_bytes, IsPrintable}
use Rattle.ir_names.specs.Module.{module_of}
use Rattle.ir_reader.specs.declared.parsed.Parsed.{Parsed}
use Rattle.ir_reader.specs.declared.parsed.ReadStop.{ReadStop}
use Rattle.ir_reader.specs.declared.parsed.ReadStop.TheVariants as read
use Rattle.ir_reader.specs.Answers.{MayStopWith}
use Rattle.ir_reader.specs.Laws.{OneAnswer}
use Rattle.ir_reader.proofs.InOrder.{reads-printable}
use Rattle.ir_tokens.specs.declared.token.Token.{Token}
use Rattle.ir_reader.specs.Spelling.{Spells}
use Rattle.generated_summary.specs.Laws.{SummariesAreOne, SummariesExist}
use Rattle.run_commands.specs.Laws.{RunsAreOne, RunsExist, TracesAreOne, TracesExist}
use Rattle.admission.specs.Admitted.{greatest_required}
use Rattle.check_command.specs.Laws.{ReportsAreOne, ReportsExist}
use Rattle.lowering_verdicts.specs.Laws.{LoweringHasAnAnswer, LoweringHasOneAnswer}
use Rattle.read_modules.specs.Read.{IsRead}
use Rattle.type_check.specs.Faults.{Typed}
use Rattle.type_check.specs.Laws.{HasOneFirstFault, TypedOrFaulty}
use Rattle.qir_cli.specs.Admission.{Admits}
use Rattle.qir_cli.specs.code.AdmittedCode.{AdmitsText}
use Rattle.qir_cli.specs.code.Stops.{DoesWell, IsReplyOf, KeepsWell, Meets, RepliesWell, stop_of}
use Rattle.qir_cli.specs.declared.command.Command.{Command}
use Rattle.qir_cli.specs.declared.command.Command.TheVariants.{Print, Check, Lower, Run, Trace, Gen}
use Rattle.qir_cli.specs.declared.refusal.Fault.TheVariants.{TooLong}
use Rattle.qir_cli.specs.declared.refusal.Refusal.{Refusal}
use Rattle.qir_cli.specs.declared.refusal.Stop.{Stop}
use Rattle.qir_cli.specs.declared.refusal.Stop.TheVariants as stop
use Rattle.qir_cli.specs.declared.reply.Reply.{Reply}
use Rattle.qir_cli.specs.declared.status.Status.TheVariants.{Done, Refused}
use Rattle.qir_cli.specs.Headline.{KeepsBy}
use Rattle.qir_cli.specs.Laws.{HasOneText, RepliesAreOne, RepliesExist}
use Rattle.qir_cli.specs.Reading.{Reads}
use Rattle.qir_cli.specs.Refusals.{at_start}
use Rattle.qir_cli.specs.Replies.{ComesFrom, Does, DoesAdmitted, DoesText, limit, refused, reply_of, text_for, within_limit}
use Rattle.qir_cli.specs.Stages.{Is, Then, refuses, leads_on, AtMostOne, AtLeastOne}
use Rattle.qir_cli.proofs.Admitting.{admits-one, admits-some}
use Rattle.qir_cli.proofs.Checked.{checks-one, checks-some}
use Rattle.qir_cli.proofs.Generated.{generated-bytes, summarizes-one, summarizes-some}
use Rattle.qir_cli.proofs.Lowers.{lowers-one, lowers-some}
use Rattle.qir_cli.proofs.Reading.{reads-one, reads-some, refused-misreads}
use Rattle.qir_cli.proofs.Running.{runs-one, runs-some, traces-one, traces-some}
use Rattle.qir_cli.proofs.Stages.{is-one, is-some, never-both, same-given, then-one, then-onward, then-some}

-- what is within the limit
within-given : (bytes text : List ℕ) → Ok text ≡ within_limit bytes → (text ≡ bytes) × (length bytes ≤ limit)
within-given bytes text e = by (nat_le (length bytes) limit) refl e
  where
    by : (short : Bool) → nat_le (length bytes) limit ≡ short → Ok text ≡ (if short then Ok bytes else Err (at_start TooLong)) → (text ≡ bytes) × (length bytes ≤ limit)
    by true short e = (same-given text bytes e, grind (arith, short))
    by false long e = never-both text (at_start TooLong) e

-- a module that is read is in order
abbrev pub ReadInOrder : Type 0
ReadInOrder = (text : List ℕ) (tokens : List Token) (items : List ItemSyntax) → IsRead text tokens items → IsPrintable (module_of text items)

-- of a module that was read and admitted these are known
module _ (in-order : ReadInOrder) (text : List ℕ) (bytes : are_bytes text ≡ true) (short : length text ≤ limit) where
  read-numbered : (parsed : Parsed) → Reads text (Ok parsed) → Numbered parsed.module
  read-numbered parsed reads = (reads-printable in-order text bytes (omega (arith, short)) (Ok parsed) reads.spells).numbered

  admitted-numbered : (parsed given : Parsed) → Reads text (Ok parsed) → Admits parsed (Ok given) → Numbered given.module
  admitted-numbered parsed given reads a = subst (λ (p : Parsed). Numbered p.module) (sym a.same) (read-numbered parsed reads)

admitted-typed : (parsed given : Parsed) → Admits parsed (Ok given) → Typed given.module greatest_required
admitted-typed parsed given a = subst (λ (p : Parsed). Typed p.module greatest_required) (sym a.same) a.typed

-- ---- the text that a command looks at

text-bytes : (command : Command) (bytes : List ℕ) → are_bytes bytes ≡ true → are_bytes (text_for command bytes) ≡ true
text-bytes Print bytes h = h
text-bytes (Check profile) bytes h = h
text-bytes (Lower t budget) bytes h = h
text-bytes (Run schema steps backends) bytes h = h
text-bytes (Trace steps backend) bytes h = h
text-bytes (Gen turns) bytes h = generated-bytes turns

-- what a text is that has one reply
abbrev HasOneFrom : Command → List ℕ → Type 0
HasOneFrom Print text = Unit {0}
HasOneFrom (Check profile) text = Unit {0}
HasOneFrom (Lower t budget) text = Unit {0}
HasOneFrom (Run schema steps backends) text = are_bytes text ≡ true
HasOneFrom (Trace steps backend) text = are_bytes text ≡ true
HasOneFrom (Gen turns) text = are_bytes text ≡ true

one-from : (command : Command) (bytes : List ℕ) → HasOneText command bytes → HasOneFrom command (text_for command bytes)
one-from Print bytes h = tt
one-from (Check profile) bytes h = tt
one-from (Lower t budget) bytes h = tt
one-from (Run schema steps backends) bytes h = h
one-from (Trace steps backend) bytes h = h
one-from (Gen turns) bytes h = generated-bytes turns

-- ---- one reply

-- what is known of a module for a command that has one text
abbrev Known : Command → Module → Type 0
Known Print m = Unit {0}
Known (Check profile) m = Unit {0}
Known (Lower t budget) m = Unit {0}
Known (Run schema steps backends) m = Numbered m × Typed m greatest_required
Known (Trace steps backend) m = Numbered m × Typed m greatest_required
Known (Gen turns) m = Numbered m × Typed m greatest_required

known : ReadInOrder → (command : Command) (text : List ℕ) → HasOneFrom command text → length text ≤ limit → (parsed given : Parsed) → Reads text (Ok parsed) → Admits parsed (Ok given)
    → Known command given.module
known in-order Print text has short parsed given reads a = tt
known in-order (Check profile) text has short parsed given reads a = tt
known in-order (Lower t budget) text has short parsed given reads a = tt
known in-order (Run schema steps backends) text has short parsed given reads a = (admitted-numbered in-order text has short parsed given reads a, admitted-typed parsed given a)
known in-order (Trace steps backend) text has short parsed given reads a = (admitted-numbered in-order text has short parsed given reads a, admitted-typed parsed given a)
known in-order (Gen turns) text has short parsed given reads a = (admitted-numbered in-order text has short parsed given reads a, admitted-typed parsed given a)

module _ (one : OneAnswer) (single : HasOneFirstFault) (reports : ReportsAreOne) (lowering : LoweringHasOneAnswer) (in-order : ReadInOrder) (runs : RunsAreOne) (traces : TracesAreOne)
    (summaries : SummariesAreOne) where
  does-one : (command : Command) (parsed : Parsed) → Known command parsed.module → AtMostOne (DoesAdmitted command parsed)
  does-one Print parsed _ = is-one _
  does-one (Check profile) parsed _ = checks-one reports profile parsed
  does-one (Lower t budget) parsed _ = lowers-one lowering t budget parsed
  does-one (Run schema steps backends) parsed k = runs-one parsed k.0 k.1 runs schema steps backends
  does-one (Trace steps backend) parsed k = traces-one parsed k.0 k.1 traces steps backend
  does-one (Gen turns) parsed k = summarizes-one turns parsed k.0 k.1 summaries lowering

  text-one : (command : Command) (text : List ℕ) → HasOneFrom command text → length text ≤ limit → AtMostOne (DoesText command text)
  text-one command text has short =
      then-one (Reads text) (Does command) (reads-one one text)
      (λ parsed reads. then-one (Admits parsed) (DoesAdmitted command) (admits-one single parsed)
      (λ given admits. does-one command given (known in-order command text has short parsed given reads admits)))

  comes-one : (command : Command) (looked : List ℕ) → HasOneFrom command looked → AtMostOne (ComesFrom command looked)
  comes-one command looked has =
      then-one (Is (within_limit looked)) (DoesText command) (is-one _)
      (λ text within. let w = within-given looked text within in
      text-one command text (subst (HasOneFrom command) (sym w.0) has) (subst (λ t. length t ≤ limit) (sym w.0) w.1))

  pub replies-one : RepliesAreOne
  replies-one command bytes has r s a b = a.2 ∙ ap reply_of (comes-one command (text_for command bytes) (one-from command bytes has) a.0 b.0 a.1 b.1) ∙ sym b.2

-- ---- some reply

module _ (one : OneAnswer) (judged : TypedOrFaulty) (reports : ReportsExist) (lowering : LoweringHasAnAnswer) (in-order : ReadInOrder) (runs : RunsExist) (traces : TracesExist)
    (summaries : SummariesExist) where
  does-some : (command : Command) (parsed : Parsed) → Numbered parsed.module → Typed parsed.module greatest_required → AtLeastOne (DoesAdmitted command parsed)
  does-some Print parsed numbered typed = is-some _
  does-some (Check profile) parsed numbered typed = checks-some reports profile parsed
  does-some (Lower t budget) parsed numbered typed = lowers-some lowering t budget parsed numbered typed
  does-some (Run schema steps backends) parsed numbered typed = runs-some parsed numbered typed runs schema steps backends
  does-some (Trace steps backend) parsed numbered typed = traces-some parsed numbered typed traces steps backend
  does-some (Gen turns) parsed numbered typed = summarizes-some turns parsed numbered typed summaries lowering

  text-some : (command : Command) (text : List ℕ) → are_bytes text ≡ true → length text ≤ limit → AtLeastOne (DoesText command text)
  text-some command text bytes short =
      then-some (Reads text) (Does command) (reads-some one text)
      (λ parsed reads. then-some (Admits parsed) (DoesAdmitted command) (admits-some judged parsed)
      (λ given admits. does-some command given (admitted-numbered in-order text bytes short parsed given reads admits) (admitted-typed parsed given admits)))

  comes-some : (command : Command) (looked : List ℕ) → are_bytes looked ≡ true → AtLeastOne (ComesFrom command looked)
  comes-some command looked h =
      then-some (Is (within_limit looked)) (DoesText command) (is-some _)
      (λ text within. let w = within-given looked text within in text-some command text (subst (λ t. are_bytes t ≡ true) (sym w.0) h) (subst (λ t. length t ≤ limit) (sym w.0) w.1))

  pub replies-some : RepliesExist
  replies-some command bytes h = let c = comes-some command (text_for command bytes) (text-bytes command bytes h) in (reply_of c.0, (c.0, c.1, refl))

-- a text within the limit goes on to the next stage
pub within-limit-is : (bytes : List ℕ) → length bytes ≤ limit → Is (within_limit bytes) (Ok bytes)
within-limit-is bytes short = by (nat_le (length bytes) limit) refl
  where
    by : (b : Bool) → nat_le (length bytes) limit ≡ b → Ok bytes ≡ (if b then Ok bytes else Err (at_start TooLong))
    by true h = refl
    by false h = absurd (grind (arith, h))

pub too-long-is : (bytes : List ℕ) → limit < length bytes → Is (within_limit bytes) (Err (at_start TooLong))
too-long-is bytes long = by (nat_le (length bytes) limit) refl
  where
    by : (b : Bool) → nat_le (length bytes) limit ≡ b → Err (at_start TooLong) ≡ (if b then Ok bytes else Err (at_start TooLong))
    by true h = absurd (grind (arith, h))
    by false h = refl

-- ---- the code

-- what the first stage stops at
pub meets-first : {A B : Type 0} (first : Result A Refusal → Type 0) (second : A → Result B Refusal → Type 0) (s : Stop) → Meets first (Err s) → Meets (Then first second) (Err s)
meets-first first second (stop.Refused why) m = refuses why m
meets-first first second stop.Memory m = m

pub meets-then : {A B : Type 0} (first : Result A Refusal → Type 0) (second : A → Result B Refusal → Type 0) (x : A) → first (Ok x) → (r : Result B Stop) → Meets (second x) r → Meets (Then first second) r
meets-then first second x f (Ok y) m = leads_on x (Ok y) f m
meets-then first second x f (Err (stop.Refused why)) m = leads_on x (Err why) f m
meets-then first second x f (Err stop.Memory) m = m

pub stopped-reads : (text : List ℕ) (e : ReadStop) → MayStopWith text e → Meets (Reads text) (Err (stop_of e))
stopped-reads text (read.Refused code at) may = refused-misreads text code at may
stopped-reads text read.Memory may = tt

-- a refusal isn't done
not-done : (command : Command) (bytes : List ℕ) (why : Refusal) (reply : Reply) → reply ≡ refused why → KeepsWell command bytes reply
not-done command bytes why reply is = λ e. let f : Refused ≡ Done = sym (ap (λ (r : Reply). r.status) is) ∙ e in cc

-- the reply of what a command did with a module that was admitted
pub reply-does : (command : Command) (parsed : Parsed) (r : Result Reply Stop) → Meets (DoesAdmitted command parsed) r
    → IfOk r (λ reply. (bytes : List ℕ) → Spells parsed.module bytes → KeepsBy command bytes reply.text) → (reply : Reply) → IsReplyOf r reply → DoesWell command parsed reply
reply-does command parsed (Ok x) m keeps reply is = subst (DoesWell command parsed) (sym is) ((Ok x, m, refl), λ bytes spells e. keeps bytes spells)
reply-does command parsed (Err (stop.Refused why)) m keeps reply is = ((Err why, m, is), λ bytes spells. not-done command bytes why reply is)
reply-does command parsed (Err stop.Memory) m keeps reply is = absurd is

admits-spells : (text : List ℕ) (r : Result Parsed Refusal) → AdmitsText text r → IfOk r (λ given. Spells given.module text)
admits-spells text r (refuses why f) = tt
admits-spells text r (leads_on parsed (Ok given) f g) = subst (λ (p : Parsed). Spells p.module text) (sym g.same) f.spells
admits-spells text r (leads_on parsed (Err why) f g) = tt

-- it is the reply to the text
pub does-replies : (command : Command) (text : List ℕ) → length text ≤ limit → (given : Parsed) → AdmitsText text (Ok given) → (reply : Reply) → DoesWell command given reply
    → RepliesWell command text reply
does-replies command text short given a reply d = (
  (d.0.0, leads_on text d.0.0 (within-limit-is text short) (then-onward (Reads text) Admits (DoesAdmitted command) (Ok given) a d.0.0 d.0.1), d.0.2),
  d.1 text (admits-spells text (Ok given) a),
)

-- the reply to a text that is refused
pub stopped-replies : (command : Command) (text : List ℕ) → length text ≤ limit → (s : Stop) → Meets (AdmitsText text) (Err s) → (reply : Reply) → IsReplyOf (Err s) reply → RepliesWell command text reply
stopped-replies command text short (stop.Refused why) m reply is = (
  (Err why, leads_on text (Err why) (within-limit-is text short) (then-onward (Reads text) Admits (DoesAdmitted command) (Err why) m), is),
  not-done command text why reply is,
)
stopped-replies command text short stop.Memory m reply is = absurd is

-- the reply to one that is too long
pub too-long-replies : (command : Command) (bytes : List ℕ) → limit < length bytes → (reply : Reply) → reply ≡ refused (at_start TooLong) → RepliesWell command bytes reply
too-long-replies command bytes long reply is =
    ((Err (at_start TooLong), refuses (at_start TooLong) (too-long-is bytes long), is), not-done command bytes (at_start TooLong) reply is)
