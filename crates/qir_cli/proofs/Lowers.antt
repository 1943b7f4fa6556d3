-- The reply of `lower`: there is one, just one, it has a status of replies, and what is written keeps what the source does.
use Rattle.std.proofs.Common.{◌≡◌, ◌∙◌, ℕ, List, refl, ap, sym, subst}
use Rattle.std.specs.Prelude.{Result, Ok, Err}
use mathlib.Core.Logic.{inl, inr}
use Rattle.ir_module.specs.declared.places.Point.{Point}
use Rattle.ir_module.specs.declared.places.Spot.TheVariants.{At}
use Rattle.ir_module.specs.declared.tree.Module.{Module}
use Rattle.ir_module.specs.Numbered.{Numbered}
use Rattle.ir_module.specs.Printable.{IsPrintable}
use Rattle.ir_printer.specs.Canonical.{canonical}
use Rattle.ir_reader.specs.declared.parsed.Parsed.{Parsed}
use Rattle.ir_reader.specs.Spelling.{Spells}
use Rattle.kept_items.specs.declared.target.Kind.{Kind}
use Rattle.kept_items.specs.declared.target.Target.{Target}
use Rattle.lowering_verdicts.specs.Laws.{LoweringHasAnAnswer, LoweringHasOneAnswer}
use Rattle.qubit_lowering.specs.Kept.{IsKept}
use Rattle.sound_lowering.specs.Programs.{source_limit}
use Rattle.type_check.specs.Faults.{Typed}
use Rattle.qir_cli.specs.Admission.{place_at}
use Rattle.qir_cli.specs.declared.refusal.Fault.TheVariants.{Lower}
use Rattle.qir_cli.specs.declared.refusal.Refusal.{Refusal}
use Rattle.qir_cli.specs.declared.reply.Reply.{Reply}
use Rattle.qir_cli.specs.declared.status.Status.TheVariants.{Done}
use Rattle.qir_cli.specs.Headline.{KeepsSource}
use Rattle.qir_cli.specs.Lowering.{Lowers, RepliesLowered, TellsInstruction}
use Rattle.qir_cli.specs.Outcomes.{IsAnswered}
use Rattle.qir_cli.specs.Replies.{reply_of}
use Rattle.qir_cli.specs.Stages.{AtMostOne, AtLeastOne}

abbrev pub tells : Parsed → Point → Kind → Refusal
tells parsed at kind = record { fault = Lower kind; place = place_at parsed (At at) }

-- one instruction decides against it
pub tells-one : LoweringHasOneAnswer → (t : Target) (budget : ℕ) (parsed : Parsed) (v w : Refusal) → TellsInstruction t budget parsed v → TellsInstruction t budget parsed w
    → ◌≡◌ {A = Result Reply Refusal} (Err v) (Err w)
tells-one one t budget parsed v w a b =
    let e = (one parsed.module t budget).refusal a.at b.at a.kind b.kind a.decides b.decides in
    ap Err (a.told ∙ ap (λ at. tells parsed at a.kind) e.0 ∙ ap (tells parsed b.at) e.1 ∙ sym b.told)

pub lowers-one : LoweringHasOneAnswer → (t : Target) (budget : ℕ) (parsed : Parsed) → AtMostOne (Lowers t budget parsed)
lowers-one one t budget parsed (Ok r) (Ok s) a b =
    let l = (one parsed.module t budget).module_ a.lowered b.lowered a.is_lowered b.is_lowered in
    ap (λ status. Ok (record { status = status; text = r.text })) (a.status ∙ sym b.status)
    ∙ ap (λ text. Ok (record { status = s.status; text = text })) (a.text ∙ ap canonical l ∙ sym b.text)
lowers-one one t budget parsed (Ok r) (Err w) a b = absurd ((one parsed.module t budget).not_both a.lowered b.at b.kind a.is_lowered b.decides)
lowers-one one t budget parsed (Err v) (Ok s) a b = absurd ((one parsed.module t budget).not_both b.lowered a.at a.kind b.is_lowered a.decides)
lowers-one one t budget parsed (Err v) (Err w) a b = tells-one one t budget parsed v w a b

pub lowers-some : LoweringHasAnAnswer → (t : Target) (budget : ℕ) (parsed : Parsed) → Numbered parsed.module → Typed parsed.module source_limit → AtLeastOne (Lowers t budget parsed)
lowers-some some t budget parsed numbered typed = elim (some parsed.module t budget numbered typed) [
  | inl a ↦ (Ok (record { status = Done; text = canonical a.0 }), record { lowered = a.0; is_lowered = a.1; status = refl; text = refl })
  | inr r ↦ (Err (tells parsed r.0 r.1), record { at = r.0; kind = r.1; decides = r.2; told = refl })
]

pub lowers-answered : (t : Target) (budget : ℕ) (parsed : Parsed) (end : Result Reply Refusal) → Lowers t budget parsed end → IsAnswered (reply_of end).status
lowers-answered t budget parsed (Ok reply) l = subst IsAnswered (sym l.status) tt
lowers-answered t budget parsed (Err why) l = tt

-- ---- the code

pub kept-replies : (t : Target) (budget : ℕ) (m l : Module) (reply : Reply) → IsKept m t budget l → reply.status ≡ Done → reply.text ≡ canonical l → RepliesLowered t budget m reply
kept-replies t budget m l reply kept status text = record { lowered = l; is_lowered = kept.lowered; status = status; text = text }

pub kept-source : ((m : Module) → IsPrintable m → Spells m (canonical m)) → (t : Target) (budget : ℕ) (m l : Module) (bytes text : List ℕ)
    → IsPrintable m → Spells m bytes → IsKept m t budget l → text ≡ canonical l → KeepsSource t budget bytes text
kept-source law t budget m l bytes text printable read kept is = record {
  source = m;
  lowered = l;
  read = read;
  spells = subst (Spells l) (sym is) (law l (kept.sound.printable printable));
  is_canonical = is;
  made = kept.lowered;
  sound = kept.sound;
}
