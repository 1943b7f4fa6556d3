-- The reply of `gen`: there is one, just one, and it has a status of replies; and the text of a generated program is one of bytes.
use Rattle.std.proofs.Common.{◌≡◌, ◌∙◌, ℕ, zero, suc, ◌+◌, ◌++◌, ◌/◌, ◌%◌, ◌<◌, Bool, true, false, List, [], ◌∷◌, refl, ap, sym, subst, arith, if◌then◌else◌}
use Rattle.std.proofs.lemmas.Bool.{and_from}
use Rattle.std.proofs.lemmas.List.Folds.{list_all-append}
use Rattle.std.specs.Fmt.{digit_glyph, digits, digits_onto}
use Rattle.std.specs.Prelude.{◌==◌, decimal, nat_lt, Result, Ok, Err}
use mathlib.Core.Logic.{inl, inr}
use Rattle.generated_summary.specs.Laws.{SummariesAreOne, SummariesExist}
use Rattle.generated_summary.specs.Lines.{summary_text}
use Rattle.generated_summary.specs.Summaries.{most_configurations, most_steps, plain_adaptive}
use Rattle.generated_text.specs.Text.{after_turns, before_turns, declarations, generated}
use Rattle.ir_module.specs.Numbered.{Numbered}
use Rattle.ir_module.specs.Printable.{are_bytes}
use Rattle.ir_reader.specs.declared.parsed.Parsed.{Parsed}
use Rattle.lowering_verdicts.specs.Laws.{LoweringHasAnAnswer, LoweringHasOneAnswer}
use Rattle.sound_lowering.specs.Programs.{source_limit}
use Rattle.type_check.specs.Faults.{Typed}
use Rattle.qir_cli.specs.declared.refusal.Refusal.{Refusal}
use Rattle.qir_cli.specs.declared.reply.Reply.{Reply}
use Rattle.qir_cli.specs.declared.status.Status.TheVariants.{Done}
use Rattle.qir_cli.specs.Generating.{Summarizes}
use Rattle.qir_cli.specs.Outcomes.{IsAnswered}
use Rattle.qir_cli.specs.Replies.{reply_of}
use Rattle.qir_cli.specs.Stages.{AtMostOne, AtLeastOne}
use Rattle.qir_cli.proofs.Lowers.{tells, tells-one}

module _ (turns : ℕ) (parsed : Parsed) (numbered : Numbered parsed.module) (typed : Typed parsed.module source_limit) where
  pub summarizes-one : SummariesAreOne → LoweringHasOneAnswer → AtMostOne (Summarizes turns parsed)
  summarizes-one one verdict (Ok r) (Ok s) a b =
      let e = one parsed.module source_limit plain_adaptive most_configurations most_steps a.tells.summary b.tells.summary numbered typed a.tells.is_summary b.tells.is_summary in
      ap (λ status. Ok (record { status = status; text = r.text })) (a.status ∙ sym b.status)
      ∙ ap (λ text. Ok (record { status = s.status; text = text })) (a.tells.text_is ∙ ap (summary_text turns) e ∙ sym b.tells.text_is)
  summarizes-one one verdict (Ok r) (Err w) a b =
      absurd ((verdict parsed.module plain_adaptive most_configurations).not_both a.tells.is_summary.lowered b.at b.kind a.tells.is_summary.is_lowered b.decides)
  summarizes-one one verdict (Err v) (Ok s) a b =
      absurd ((verdict parsed.module plain_adaptive most_configurations).not_both b.tells.is_summary.lowered a.at a.kind b.tells.is_summary.is_lowered a.decides)
  summarizes-one one verdict (Err v) (Err w) a b = tells-one verdict plain_adaptive most_configurations parsed v w a b

  pub summarizes-some : SummariesExist → LoweringHasAnAnswer → AtLeastOne (Summarizes turns parsed)
  summarizes-some exist verdict = elim (verdict parsed.module plain_adaptive most_configurations numbered typed) [
    | inl l ↦
        let s = exist parsed.module source_limit plain_adaptive most_configurations most_steps l.0 numbered typed l.1 in (
          Ok (record { status = Done; text = summary_text turns s.0 }),
          record { status = refl; tells = record { summary = s.0; is_summary = s.1; text_is = refl } },
        )
    | inr r ↦ (Err (tells parsed r.0 r.1), record { at = r.0; kind = r.1; decides = r.2; told = refl })
  ]

pub summarizes-answered : (turns : ℕ) (parsed : Parsed) (end : Result Reply Refusal) → Summarizes turns parsed end → IsAnswered (reply_of end).status
summarizes-answered turns parsed (Ok reply) s = subst IsAnswered (sym s.status) tt
summarizes-answered turns parsed (Err why) s = tt

-- ---- the bytes of a generated text

both-bytes : (a b : List ℕ) → are_bytes a ≡ true → are_bytes b ≡ true → are_bytes (a ++ b) ≡ true
both-bytes a b h g = list_all-append (λ c. nat_lt c 256) a b ∙ and_from (are_bytes a) (are_bytes b) h g

digit-byte : (d : ℕ) → d < 10 → nat_lt (digit_glyph false d) 256 ≡ true
digit-byte d lt = by (nat_lt d 10) refl
  where
    by : (b : Bool) → nat_lt d 10 ≡ b → nat_lt (if b then 48 + d else (if false then 55 + d else 87 + d)) 256 ≡ true
    by true e = grind arith
    by false e = grind arith

digits_step : (b : Bool) (acc rest : List ℕ) → are_bytes acc ≡ true → are_bytes rest ≡ true → are_bytes (if b then acc else rest) ≡ true
digits_step true acc rest h g = h
digits_step false acc rest h g = g

digits-bytes : (k n : ℕ) (acc : List ℕ) → are_bytes acc ≡ true → are_bytes (digits_onto k 10 false n acc) ≡ true
digits-bytes zero n acc h = h
digits-bytes (suc k) n acc h =
    let last : List ℕ = digit_glyph false (n % 10) ∷ acc in
    let more : are_bytes last ≡ true = and_from (nat_lt (digit_glyph false (n % 10)) 256) (are_bytes acc) (digit-byte (n % 10) (grind arith)) h in
    digits_step (n / 10 == 0) last (digits_onto k 10 false (n / 10) last) more (digits-bytes k (n / 10) last more)

decimal-bytes : (n : ℕ) → are_bytes (decimal n) ≡ true
unfolding digits
decimal-bytes n = digits-bytes 64 n [] refl

fixed-bytes : (are_bytes before_turns ≡ true) × (are_bytes (after_turns ++ declarations) ≡ true)
unfolding before_turns after_turns declarations
fixed-bytes = (refl, refl)

pub generated-bytes : (turns : ℕ) → are_bytes (generated turns) ≡ true
unfolding generated
generated-bytes turns =
    both-bytes (before_turns ++ decimal turns) (after_turns ++ declarations) (both-bytes before_turns (decimal turns) fixed-bytes.0 (decimal-bytes turns)) fixed-bytes.1
