-- Rows of answered calls, one behind the other.
use Rattle.std.proofs.Common.{◌≡◌, ◌∙◌, ℕ, ◌+◌, ◌≤◌, Bool, true, List, [], ◌∷◌, ◌++◌, length, map, refl, sym, ap, subst, arith, append_assoc, append-nil, length-append}
use Rattle.std.specs.Prelude.{Option, None, Some, ⊤}
use Rattle.std.specs.List.{All}
use Rattle.std.specs.Option.{option_map}
use Rattle.std.proofs.lemmas.Grind.{flat_map-append}
use Rattle.std.proofs.lemmas.List.Elements.{All-append, All-cons, All-nil}
use Rattle.backend_api.specs.declared.operation.Answer.{Answer}
use Rattle.backend_api.specs.declared.operation.Answer.TheVariants as answer
use Rattle.backend_api.specs.declared.operation.Event.{Event}
use Rattle.backend_api.specs.declared.operation.Op.{Op}
use Rattle.backend_api.specs.declared.backend.Stop.{Stop}
use Rattle.backend_api.specs.declared.backend.Stop.TheVariants as stop
use Rattle.backend_api.specs.declared.backend.Turned.{Turned}
use Rattle.backend_api.specs.Backend.{Answered, BackendState, Keeps, Refused, outcomes_before}
use Rattle.backend_api.specs.Operations.{bits_in, bits_of_answer}
use Rattle.ir_values.specs.Counts.{Rose}
use Rattle.qir_machine.specs.Heard.{answers_of, Caused, Heard}
use Rattle.qir_machine.specs.code.Machines.{asked}
use Rattle.qir_meaning.specs.declared.end.Ask.TheVariants as ask
use Rattle.qir_meaning.specs.declared.end.End.{End}
use Rattle.qir_meaning.specs.declared.end.End.TheVariants as end

pub answers-append : (es fs : List Event) → answers_of (es ++ fs) ≡ answers_of es ++ answers_of fs
answers-append [] fs = refl
answers-append (e ∷ es) fs = ap (λ l. e.answer ∷ l) (answers-append es fs)

told-none : (before : Option (List Event)) → before ≡ option_map (λ (b : List Event). b ++ []) before
told-none None = refl
told-none (Some b) = ap Some (sym (append-nil b))

more-none : (left : Option ℕ) → left ≡ option_map (λ (n : ℕ). n + 0) left
more-none None = refl
more-none (Some n) = ap Some (omega arith)

pub heard-none : (b : BackendState) → Heard b b []
heard-none b = record {
  told = told-none b.events;
  able = All-nil (λ (e : Event). b.can e.op ≡ true);
  outcomes = more-none b.outcomes;
  can = refl;
  fits = refl;
  faults = omega arith;
}

told-more : (a b c : Option (List Event)) (es fs : List Event) → b ≡ option_map (λ (x : List Event). x ++ es) a → c ≡ option_map (λ (x : List Event). x ++ fs) b → c ≡ option_map (λ (x : List Event). x ++ (es ++ fs)) a
told-more None b c es fs h k = k ∙ ap (option_map (λ (x : List Event). x ++ fs)) h
told-more (Some x) b c es fs h k = k ∙ ap (option_map (λ (x : List Event). x ++ fs)) h ∙ ap Some (append_assoc x es fs)

bits-append : (es fs : List Event) → length (bits_in (es ++ fs)) ≡ length (bits_in es) + length (bits_in fs)
bits-append es fs = ap length (flat_map-append (λ (e : Event). bits_of_answer e.answer) es fs) ∙ length-append (bits_in es) (bits_in fs)

left-more : (a b c : Option ℕ) (i j n : ℕ) → n ≡ i + j → a ≡ option_map (λ (x : ℕ). x + i) b → b ≡ option_map (λ (x : ℕ). x + j) c → a ≡ option_map (λ (x : ℕ). x + n) c
left-more a b None i j n e h k = h ∙ ap (option_map (λ (x : ℕ). x + i)) k
left-more a b (Some x) i j n e h k = h ∙ ap (option_map (λ (x : ℕ). x + i)) k ∙ ap Some (omega arith)

pub heard-more : (a b c : BackendState) (es fs : List Event) → Heard a b es → Heard b c fs → Heard a c (es ++ fs)
heard-more a b c es fs h k = record {
  told = told-more a.events b.events c.events es fs h.told k.told;
  able = All-append (λ (e : Event). a.can e.op ≡ true) es fs h.able (subst (λ (can : Op → Bool). All (λ (e : Event). can e.op ≡ true) fs) h.can k.able);
  outcomes = left-more a.outcomes b.outcomes c.outcomes (length (bits_in es)) (length (bits_in fs)) (length (bits_in (es ++ fs))) (bits-append es fs) h.outcomes k.outcomes;
  can = k.can ∙ h.can;
  fits = k.fits ∙ h.fits;
  faults = let l = h.faults in let n = k.faults in omega arith;
}

outcomes-is : (a : Answer) (left : Option ℕ) → outcomes_before a left ≡ option_map (λ (n : ℕ). n + length (bits_of_answer a ++ [])) left
outcomes-is answer.Done None = refl
outcomes-is answer.Done (Some n) = ap Some (omega arith)
outcomes-is (answer.Bit b) None = refl
outcomes-is (answer.Bit b) (Some n) = refl

-- one call that was answered
pub heard-one : (op : Op) (a : Answer) (old now : BackendState) → Answered op a old now → Keeps old now → Heard old now ((record { op = op; answer = a }) ∷ [])
heard-one op a old now h k = record {
  told = h.events;
  able = All-cons (λ (e : Event). old.can e.op ≡ true) (record { op = op; answer = a }) [] h.able (All-nil (λ (e : Event). old.can e.op ≡ true));
  outcomes = h.outcomes ∙ outcomes-is a now.outcomes;
  can = k.can;
  fits = k.fits;
  faults = k.faults;
}

-- one call that was refused
pub heard-refused : (op : Op) (turned : Turned) (old now : BackendState) → Refused op turned old now → Keeps old now → Heard old now []
heard-refused op turned old now h k = record {
  told = h.events ∙ told-none old.events;
  able = All-nil (λ (e : Event). old.can e.op ≡ true);
  outcomes = sym h.outcomes ∙ more-none now.outcomes;
  can = k.can;
  fits = k.fits;
  faults = k.faults;
}

rose-more : (f g h : ℕ) → f ≤ g → Rose g h → Rose f h
rose-more f g h le rose = omega arith

-- a cause stays one where calls were answered before
pub caused-more : (e : End) (a b c : BackendState) → b.can ≡ a.can → a.faults ≤ b.faults → Caused e b c → Caused e a c
caused-more (end.Returned code) a b c h le k = tt
caused-more (end.Trapped why) a b c h le k = tt
caused-more end.Cut a b c h le k = tt
caused-more (end.Asks op ask.Unsupported) a b c h le k = ap (λ (f : Op → Bool). f op) (sym h) ∙ k
caused-more (end.Asks op ask.Empty) a b c h le k = (ap (λ (f : Op → Bool). f op) (sym h) ∙ k.0, k.1, k.2)
caused-more (end.Asks op ask.Failed) a b c h le k = rose-more a.faults b.faults c.faults le k

refused-caused : (why : Stop) (op : Op) (turned : Turned) (old now : BackendState) → turned.why ≡ why → (why ≡ stop.Memory → ⊥) → Refused op turned old now → Caused (end.Asks op (asked why)) old now
refused-caused stop.Unsupported op turned old now e n r = r.unsupported.0 e
refused-caused stop.Empty op turned old now e n r = let h = r.empty.0 e in (h.0, h.1, r.outcomes ∙ h.2)
refused-caused stop.Failed op turned old now e n r = r.failed e
refused-caused stop.Memory op turned old now e n r = absurd (n refl)

pub caused-by : (op : Op) (turned : Turned) (old now : BackendState) → (turned.why ≡ stop.Memory → ⊥) → Refused op turned old now → Caused (end.Asks turned.op (asked turned.why)) old now
caused-by op turned old now n r = subst (λ o. Caused (end.Asks o (asked turned.why)) old now) (sym r.back) (refused-caused turned.why op turned old now refl n r)
