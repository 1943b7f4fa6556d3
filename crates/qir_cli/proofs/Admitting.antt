-- Admission says one thing of each module that was read, and the spot of each fault has its place.
use Rattle.std.proofs.Common.{◌≡◌, ◌∙◌, ⊎_elim, map, refl, ap, sym, subst}
use Rattle.std.specs.Prelude.{Result, Ok, Err}
use Rattle.admission.specs.declared.stop.AdmitStop.{AdmitStop}
use Rattle.admission.specs.declared.stop.AdmitStop.TheVariants as admit
use Rattle.admission.specs.Admitted.{greatest_required}
use Rattle.admission.specs.Stops.{StopsAt}
use Rattle.ir_module.specs.declared.places.Spot.{Spot}
use Rattle.ir_module.specs.declared.tree.Module.{Module}
use Rattle.ir_module.specs.Spots.{spots}
use Rattle.ir_reader.specs.declared.parsed.Parsed.{Parsed}
use Rattle.type_check.specs.declared.code.TypeCode.{TypeCode}
use Rattle.type_check.specs.Faults.{Typed, IsFirstFault}
use Rattle.type_check.specs.Laws.{HasOneFirstFault, TypedOrFaulty}
use Rattle.qir_cli.specs.Admission.{Admits, place_at}
use Rattle.qir_cli.specs.code.AdmittedCode.{IsPlaced, admit_stop, parsed_as}
use Rattle.qir_cli.specs.code.Stops.{Meets}
use Rattle.qir_cli.specs.declared.refusal.Fault.TheVariants as fault
use Rattle.qir_cli.specs.declared.refusal.Refusal.{Refusal}
use Rattle.qir_cli.specs.declared.refusal.Stop.{Stop}
use Rattle.qir_cli.specs.declared.refusal.Stop.TheVariants as stop
use Rattle.qir_cli.specs.Stages.{AtMostOne, AtLeastOne}

abbrev refusal_at : Parsed → Spot → TypeCode → Refusal
refusal_at parsed s c = record { fault = fault.Rule c; place = place_at parsed s }

pub admits-one : HasOneFirstFault → (parsed : Parsed) → AtMostOne (Admits parsed)
admits-one single parsed (Ok x) (Ok y) a b = ap Ok (a.same ∙ sym b.same)
admits-one single parsed (Ok x) (Err w) a b = absurd (a.typed b.spot b.code b.first.fault)
admits-one single parsed (Err v) (Ok y) a b = absurd (b.typed a.spot a.code a.first.fault)
admits-one single parsed (Err v) (Err w) a b =
    let e = single parsed.module greatest_required a.spot b.spot a.code b.code a.first b.first in
    ap Err (a.told ∙ ap (λ s. refusal_at parsed s a.code) e.0 ∙ ap (refusal_at parsed b.spot) e.1 ∙ sym b.told)

pub admits-some : TypedOrFaulty → (parsed : Parsed) → AtLeastOne (Admits parsed)
admits-some judged parsed =
    ⊎_elim
    (λ (t : Typed parsed.module greatest_required). let end : Result Parsed Refusal = Ok parsed in (end, record { same = refl; typed = t }))
    (λ (f : (s : Spot) × (c : TypeCode) × IsFirstFault parsed.module greatest_required s c).
    let end : Result Parsed Refusal = Err (refusal_at parsed f.0 f.1) in
    (end, record { spot = f.0; code = f.1; first = f.2; told = refl }))
    (judged parsed.module greatest_required)

-- ---- the code

pub fault-placed : (parsed : Parsed) → map (λ p. p.0) parsed.places ≡ spots parsed.module → (why : AdmitStop) → StopsAt parsed.module why → IsPlaced parsed.places why
fault-placed parsed all (admit.Refused code spot back) h = h.1.placed parsed.places all
fault-placed parsed all (admit.Memory back) h = tt

pub stopped-admits : (parsed : Parsed) (why : AdmitStop) → StopsAt parsed.module why → (s : Stop) → s ≡ admit_stop parsed.places why → Meets (Admits parsed) (Err s)
stopped-admits parsed (admit.Refused code spot back) h s e =
    let m : Meets (Admits parsed) (Err (stop.Refused (refusal_at parsed spot code))) = record { spot = spot; code = code; first = h.1.first; told = refl } in
    subst (λ s. Meets (Admits parsed) (Err s)) (sym e) m
stopped-admits parsed (admit.Memory back) h s e = subst (λ s. Meets (Admits parsed) (Err s)) (sym e) tt

pub kept-admits : (parsed : Parsed) (m : Module) → m ≡ parsed.module → Typed parsed.module greatest_required → Admits parsed (Ok (parsed_as m parsed.places))
kept-admits parsed m e typed = record { same = ap (λ t. parsed_as t parsed.places) e; typed = typed }
