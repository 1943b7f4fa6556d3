-- What is known of texts: the only file of proofs that knows what the reader says.
use Rattle.std.proofs.Common.{◌≡◌, ◌∙◌, ℕ, List, refl, ap, sym}
use Rattle.std.specs.Prelude.{Result, Ok, Err}
use Rattle.ir_module.specs.declared.places.Place.{Place}
use Rattle.ir_reader.specs.declared.parsed.Parsed.{Parsed}
use Rattle.ir_reader.specs.declared.parsed.ReadCode.{ReadCode}
use Rattle.ir_reader.specs.declared.parsed.ReadStop.TheVariants as stop
use Rattle.ir_reader.specs.Answers.{MayStopWith}
use Rattle.ir_reader.specs.Laws.{OneAnswer, Reads as Told}
use Rattle.qir_cli.specs.declared.refusal.Fault.TheVariants.{Read}
use Rattle.qir_cli.specs.declared.refusal.Refusal.{Refusal}
use Rattle.qir_cli.specs.Reading.{Misreads, Reads}
use Rattle.qir_cli.specs.Stages.{AtMostOne, AtLeastOne}

abbrev Answer : Type 0
Answer = Result Parsed (ReadCode × Place)

abbrev refusal : ReadCode × Place → Refusal
refusal why = record { fault = Read why.0; place = why.1 }

-- what the reader says, as the commands say it
abbrev told : Answer → Result Parsed Refusal
told (Ok parsed) = Ok parsed
told (Err why) = Err (refusal why)

from-told : (bytes : List ℕ) (r : Answer) → Told bytes r → Reads bytes (told r)
from-told bytes (Ok parsed) h = record { spells = h.0; places = h.1 }
from-told bytes (Err why) h = record { code = why.0; misread = h; fault = refl }

to-told : (bytes : List ℕ) (r : Result Parsed Refusal) → Reads bytes r → (q : Answer) × Told bytes q × (r ≡ told q)
to-told bytes (Ok parsed) h = (Ok parsed, (h.spells, h.places), refl)
to-told bytes (Err why) h = (Err (h.code, why.place), h.misread, ap (λ f. let w : Refusal = record { fault = f; place = why.place } in Err w) h.fault)

module _ (one : OneAnswer) (bytes : List ℕ) where
  pub reads-one : AtMostOne (Reads bytes)
  reads-one r s a b =
      let p = to-told bytes r a in
      let q = to-told bytes s b in
      let o = one bytes in
      p.2 ∙ (ap told (o.2 p.0 p.1 ∙ sym (o.2 q.0 q.1)) ∙ sym q.2)

  pub reads-some : AtLeastOne (Reads bytes)
  reads-some = let o = one bytes in (told o.0, from-told bytes o.0 o.1)

pub refused-misreads : (bytes : List ℕ) (code : ReadCode) (at : Place) → MayStopWith bytes (stop.Refused code at) → Misreads bytes (record { fault = Read code; place = at })
refused-misreads bytes code at is = record { code = code; misread = is; fault = refl }
