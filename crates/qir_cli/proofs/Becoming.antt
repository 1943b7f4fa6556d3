-- What was read and written, and what becomes of a reply.
use Rattle.std.proofs.Common.{◌≡◌, ℕ, List, [], refl, ap, sym, subst, inl, inr, append-nil}
use Rattle.std.specs.Prelude.{⊤, Option, None, Some, Result, Ok, Err, IfOk}
use Rattle.ir_module.specs.declared.tree.Module.{Module}
use Rattle.ir_reader.specs.declared.parsed.Parsed.{Parsed}
use Rattle.ir_reader.specs.Spelling.{Spells}
use Rattle.ir_values.specs.Counts.{Rose}
use Rattle.qir_ports.specs.Known.{Takes}
use Rattle.qir_cli.specs.code.Stops.{Becomes, whole, in_part, in_lines, nothing, ByLines, DoesWell, IsReplyOf, LooksAt, Meets, RepliesWell, Serves, replies, not_read, no_room}
use Rattle.qir_cli.specs.Headline.{KeepsBy, WritesKept}
use Rattle.qir_cli.specs.Commands.{command_of}
use Rattle.qir_cli.specs.declared.command.Command.{Command}
use Rattle.qir_cli.specs.declared.command.Command.TheVariants.{Print, Check, Lower, Run, Trace, Gen}
use Rattle.qir_cli.specs.declared.refusal.Refusal.{Refusal}
use Rattle.qir_cli.specs.declared.refusal.Stop.{Stop}
use Rattle.qir_cli.specs.declared.reply.Reply.{Reply}
use Rattle.qir_cli.specs.declared.status.Status.{Status}
use Rattle.qir_cli.specs.declared.status.Status.TheVariants.{Done, Refused, BadWords, Stopped, ReadFault, WriteFault, Memory}
use Rattle.qir_cli.specs.Outcomes.{Answered, HasReply, IsAnswered, IsUnwritten, PartlyAnswered, WritesAtOnce, WritesLines}
use Rattle.qir_cli.specs.Replies.{ComesFrom, DoesAdmitted, IsReplyTo, reply_of}
use Rattle.qir_cli.specs.Stages.{refuses, leads_on}
use Rattle.qir_cli.proofs.Checked.{checks-answered}
use Rattle.qir_cli.proofs.Generated.{summarizes-answered}
use Rattle.qir_cli.proofs.Lowers.{lowers-answered}
use Rattle.qir_cli.proofs.Replying.{reply-does}
use Rattle.qir_cli.proofs.Running.{runs-answered, traces-answered}

-- what a command comes to has one of the statuses of replies
does-answered : (command : Command) (parsed : Parsed) (end : Result Reply Refusal) → DoesAdmitted command parsed end → IsAnswered (reply_of end).status
does-answered Print parsed end d = subst (λ end. IsAnswered (reply_of end).status) (sym d) tt
does-answered (Check profile) parsed end d = checks-answered profile parsed end d
does-answered (Lower target budget) parsed end d = lowers-answered target budget parsed end d
does-answered (Run schema steps backends) parsed end d = runs-answered schema steps backends parsed end d
does-answered (Trace steps backend) parsed end d = traces-answered steps backend parsed end d
does-answered (Gen turns) parsed end d = summarizes-answered turns parsed end d

comes-answered : (command : Command) (looked : List ℕ) (end : Result Reply Refusal) → ComesFrom command looked end → IsAnswered (reply_of end).status
comes-answered command looked end (refuses why f) = tt
comes-answered command looked end (leads_on text end' f (refuses why g)) = tt
comes-answered command looked end (leads_on text end' f (leads_on parsed end'' g (refuses why a))) = tt
comes-answered command looked end (leads_on text end' f (leads_on parsed end'' g (leads_on given end''' a does))) = does-answered command given end''' does

pub replies-answered : (command : Command) (looked : List ℕ) (reply : Reply) → IsReplyTo (ComesFrom command looked) reply → IsAnswered reply.status
replies-answered command looked reply r = subst (λ r. IsAnswered r.status) (sym r.2) (comes-answered command looked r.0 r.1)

pub not_both : (words : List (List ℕ)) (s : Status) → IsAnswered s → IsUnwritten words s → ⊥
not_both words Done a u = u
not_both words Refused a u = u
not_both words BadWords a u = a
not_both words Stopped a u = u
not_both words ReadFault a u = a
not_both words WriteFault a u = a
not_both words Memory a u = a

pub not_fault : (s : Status) → IsAnswered s → s ≡ WriteFault → ⊥
not_fault s a e = subst IsAnswered e a

pub not_bad : (s : Status) → IsAnswered s → s ≡ BadWords → ⊥
not_bad s a e = subst IsAnswered e a

pub not_read_fault : (s : Status) → IsAnswered s → s ≡ ReadFault → ⊥
not_read_fault s a e = subst IsAnswered e a

pub not_memory : (s : Status) → IsAnswered s → s ≡ Memory → ⊥
not_memory s a e = subst IsAnswered e a

-- ---- what becomes of a reply

takes-nothing : (before : Option (List ℕ)) → Takes before [] before
takes-nothing None = refl
takes-nothing (Some all) = ap Some (sym (append-nil all))

-- what holds of a sink that stayed as it was
pub nothing-taken : {K : Type 0} (taken : K → Option (List ℕ)) (k k' : K) → k' ≡ k → Takes (taken k) [] (taken k')
nothing-taken taken k k' e = subst (λ z. Takes (taken k) [] (taken z)) (sym e) (takes-nothing (taken k))

pub becomes-map : {K : Type 0} (L M : Type 0) (P Q : Reply → Type 0) (taken : K → Option (List ℕ)) (faults : K → ℕ) (k k' : K) (s : Status) → (L → M) → ((r : Reply) → P r → Q r)
    → Becomes L P taken faults k k' s → Becomes M Q taken faults k k' s
becomes-map L M P Q taken faults k k' s f g (whole r p t) = whole r (g r p) t
becomes-map L M P Q taken faults k k' s f g (in_part r p count few t rose) = in_part r (g r p) count few t rose
becomes-map L M P Q taken faults k k' s f g (in_lines l r p count lines t) = in_lines (f l) r (g r p) count lines t
becomes-map L M P Q taken faults k k' s f g (nothing e) = nothing e

-- what becomes of the reply of what a command did with a module that was admitted
pub send-does : {K : Type 0} (command : Command) (parsed : Parsed) (taken : K → Option (List ℕ)) (faults : K → ℕ) (k k' : K) (r : Result Reply Stop) (s : Status)
    → Meets (DoesAdmitted command parsed) r → IfOk r (λ reply. (bytes : List ℕ) → Spells parsed.module bytes → KeepsBy command bytes reply.text)
    → Becomes ⊥ (IsReplyOf r) taken faults k k' s → Becomes (ByLines command) (DoesWell command parsed) taken faults k k' s
send-does command parsed taken faults k k' r s meets keeps sends =
    becomes-map ⊥ (ByLines command) (IsReplyOf r) (DoesWell command parsed) taken faults k k' s (λ l. absurd l) (reply-does command parsed r meets keeps) sends

-- of some commands nothing more is said
pub no-promise : (m : Module) (r : Result Reply Stop) → IfOk r (λ reply. (bytes : List ℕ) → Spells m bytes → ⊤)
no-promise m (Ok reply) = λ bytes spells. tt
no-promise m (Err e) = tt

-- what a status says then
pub record Sent {K : Type 0} (words : List (List ℕ)) (left : Option (List ℕ)) (Failed : Type 0) (taken : K → Option (List ℕ)) (faults : K → ℕ) (k k' : K) (s : Status) : Type 0 where
  pub no_bad_words : s ≡ BadWords → ⊥
  pub failed : s ≡ ReadFault → Failed
  pub counted : s ≡ WriteFault → Rose (faults k) (faults k')
  pub unwritten : IsUnwritten words s → k' ≡ k
  pub answered : IsAnswered s → Answered words left (taken k) (taken k') s
  pub partly : s ≡ WriteFault → PartlyAnswered words left (taken k) (taken k')
  pub lines : s ≡ Memory → WritesLines words left (taken k) (taken k')
  pub kept : s ≡ Done → WritesKept words left (taken k) (taken k')

module _ {K : Type 0} (words : List (List ℕ)) (command : Command) (is_command : command_of words ≡ Some command) (left : Option (List ℕ)) (Failed : Type 0)
    (taken : K → Option (List ℕ)) (faults : K → ℕ) (k k' : K) where
  without-memory : k' ≡ k → Sent words left Failed taken faults k k' Memory
  without-memory same = record {
    no_bad_words = λ e. cc;
    failed = λ e. cc;
    counted = λ e. cc;
    unwritten = λ u. same;
    answered = λ a. absurd a;
    partly = λ e. cc;
    lines = λ e. inl (nothing-taken taken k k' same);
    kept = λ e. cc;
  }

  without-input : Failed → k' ≡ k → Sent words left Failed taken faults k k' ReadFault
  without-input failed same = record {
    no_bad_words = λ e. cc;
    failed = λ e. failed;
    counted = λ e. cc;
    unwritten = λ u. same;
    answered = λ a. absurd a;
    partly = λ e. cc;
    lines = λ e. cc;
    kept = λ e. cc;
  }

  module _ (looked : List ℕ) (looks : LooksAt command left looked) where
    abbrev has-reply : (r : Reply) → IsReplyTo (ComesFrom command looked) r → HasReply words left
    has-reply r it =
        record { command = command; is_command = is_command; bytes = looks.bytes; input = looks.input; reply = r; replies = subst (λ z. IsReplyTo (ComesFrom command z) r) looks.is it }

    pub sent : (s : Status) → Becomes (ByLines command) (RepliesWell command looked) taken faults k k' s → Sent words left Failed taken faults k k' s
    sent s (whole r p t) =
        let a = replies-answered command looked r p.0 in
        record {
          no_bad_words = not_bad r.status a;
          failed = λ e. absurd (not_read_fault r.status a e);
          counted = λ e. absurd (not_fault r.status a e);
          unwritten = λ u. absurd (not_both words r.status a u);
          answered = λ _. record { has = has-reply r p.0; is_status = refl; written = t };
          partly = λ e. absurd (not_fault r.status a e);
          lines = λ e. absurd (not_memory r.status a e);
          kept = λ e. record {
            command = command;
            is_command = is_command;
            bytes = looks.bytes;
            input = looks.input;
            text = r.text;
            written = t;
            keeps = subst (λ z. KeepsBy command z r.text) looks.is (p.1 e);
          };
        }
    sent s (in_part r p count few t rose) = record {
      no_bad_words = λ e. cc;
      failed = λ e. cc;
      counted = λ e. rose;
      unwritten = λ u. absurd u;
      answered = λ a. absurd a;
      partly = λ e. record { has = has-reply r p.0; count = count; not_all = few; written = t };
      lines = λ e. cc;
      kept = λ e. cc;
    }
    sent s (in_lines l r p count lines t) = record {
      no_bad_words = λ e. cc;
      failed = λ e. cc;
      counted = λ e. cc;
      unwritten = λ u. absurd (l (subst WritesAtOnce is_command u));
      answered = λ a. absurd a;
      partly = λ e. cc;
      lines = λ e. inr (record { has = has-reply r p.0; count = count; whole = lines; written = t });
      kept = λ e. cc;
    }
    sent s (nothing same) = without-memory same

  pub served : (s : Status) → Serves command left Failed taken faults k k' s → Sent words left Failed taken faults k k' s
  served s (replies looked status looks becomes) = sent looked looks status becomes
  served s (not_read failed same) = without-input failed same
  served s (no_room same) = without-memory same
