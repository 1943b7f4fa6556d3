-- What the machine ran with a fresh backend is a shot.
use Rattle.std.proofs.Common.{◌≡◌, ◌∙◌, ℕ, ◌+◌, Bool, true, Some, List, [], ◌∷◌, ◌++◌, length, drop, refl, sym, ap, subst, arith, append-nil, length-append, true≢false}
use Rattle.std.specs.Bool.{beq}
use Rattle.std.specs.Cmp.{booleans_Decides}
use Rattle.std.specs.Option.{option_map}
use Rattle.std.proofs.lemmas.Option.{none-some, same_Some}
use Rattle.std.proofs.lemmas.Slice.Eq.{starts_is}
use Rattle.backend_api.specs.declared.operation.Event.{Event}
use Rattle.backend_api.specs.Operations.{bits_in}
use Rattle.bit_backend.specs.Bits.{History, fits, state_of}
use Rattle.ir_module.specs.declared.tree.Module.{Module}
use Rattle.machine_frames.specs.Frames.{meant}
use Rattle.output_lines.specs.declared.last.Last.{Last}
use Rattle.output_lines.specs.declared.last.StopName.TheVariants as stop
use Rattle.output_records.specs.declared.record.Record.{Record}
use Rattle.qir_machine.specs.declared.run.Ended.{Ended}
use Rattle.qir_machine.specs.Heard.{Caused}
use Rattle.qir_machine.specs.Runs.{Ran}
use Rattle.qir_meaning.specs.declared.end.Ask.TheVariants as ask
use Rattle.qir_meaning.specs.declared.end.End.{End}
use Rattle.qir_meaning.specs.declared.end.End.TheVariants as end
use Rattle.scripted_backend.specs.Script.{ScriptState, given, seen, told_fits}
use Rattle.run_commands.specs.code.Ran.{events_of, last_of, shot_of}
use Rattle.run_commands.specs.declared.shot.Machine.{Machine}
use Rattle.run_commands.specs.declared.shot.Ran.{Ran as OneRan}
use Rattle.shots.specs.declared.backend.Backend.{Backend}
use Rattle.shots.specs.declared.backend.Backend.TheVariants.{Script, Bits}
use Rattle.shots.specs.Shots.{Gives, IsShot, Shot, TellsEnd}

abbrev shot_with : List Record → Last → List Event → Shot
shot_with rs last es = record { events = es; records = rs; last = last }

-- the part that is left of a list as long as its beginning is nothing
nothing-left : (xs ys zs : List Bool) → xs ≡ ys ++ zs → length xs ≡ length ys → ys ≡ xs
nothing-left xs ys [] e l = sym (e ∙ append-nil ys)
nothing-left xs ys (z ∷ zs) e l = let n = length-append ys (z ∷ zs) in let k : length xs ≡ length (ys ++ z ∷ zs) = ap length e in absurd (omega (arith, l, n, k))

module _ (bits : List Bool) (old now : ScriptState) (none : old.events ≡ []) (all : old.left ≡ bits) (m : Module) (steps : ℕ) (ended : Ended) (r : Ran m steps ended (seen old) (seen now)) where
  abbrev new : List Event
  new = r.new

  events : now.events ≡ new
  events = same_Some now.events (old.events ++ new) r.heard.told ∙ ap (λ es. es ++ new) none

  all-given : given old ≡ bits
  all-given = ap (λ es. bits_in es ++ old.left) none ∙ all

  begins : Gives (Script bits) new
  begins =
      let fit : (seen old).fits new ≡ true = ap (λ f. f new) (sym r.heard.fits) ∙ told_fits now new (ap Some events) in
      let e = (starts_is {E = beq} booleans_Decides (given old) (bits_in new) _ refl).0 fit in
      (drop (length (bits_in new)) (given old), sym all-given ∙ e)

  used-up : (seen now).outcomes ≡ Some 0 → bits_in new ≡ bits
  used-up e =
      let o : Some (length old.left) ≡ Some (0 + length (bits_in new)) = r.heard.outcomes ∙ ap (option_map (λ left. left + length (bits_in new))) e in
      let k : length bits ≡ length old.left = ap length (sym all) in
      let l : length bits ≡ length (bits_in new) = omega (arith, k, same_Some (length old.left) (0 + length (bits_in new)) o) in
      nothing-left bits (bits_in new) begins.0 begins.1 l

  script-told : (e : End) → Caused e (seen old) (seen now) → TellsEnd (Script bits) new (meant e) (last_of e)
  script-told (end.Returned code) c = refl
  script-told (end.Trapped why) c = refl
  script-told (end.Asks op ask.Unsupported) c = absurd (true≢false c)
  script-told (end.Asks op ask.Empty) c = (stop.Empty, (c.1, used-up c.2, refl), refl)
  script-told (end.Asks op ask.Failed) c = absurd (omega (arith, c))
  script-told end.Cut c = refl

  pub script-shot : IsShot (Script bits) m steps (shot_with ended.records (last_of ended.end) now.events)
  script-shot =
      subst (λ es. IsShot (Script bits) m steps (shot_with ended.records (last_of ended.end) es)) (sym events)
      (record { given = begins; end = meant ended.end; runs = r.runs; told = script-told ended.end r.caused })

module _ (old now : History) (none : old.events ≡ []) (m : Module) (steps : ℕ) (ended : Ended) (r : Ran m steps ended (state_of old) (state_of now)) where
  bit-events : now.events ≡ r.new
  bit-events = same_Some now.events (old.events ++ r.new) r.heard.told ∙ ap (λ es. es ++ r.new) none

  bits-told : (e : End) → Caused e (state_of old) (state_of now) → TellsEnd Bits r.new (meant e) (last_of e)
  bits-told (end.Returned code) c = refl
  bits-told (end.Trapped why) c = refl
  bits-told (end.Asks op ask.Unsupported) c = (stop.Unsupported, (c, refl), refl)
  bits-told (end.Asks op ask.Empty) c = absurd (none-some 0 c.2)
  bits-told (end.Asks op ask.Failed) c = absurd (omega (arith, c))
  bits-told end.Cut c = refl

  pub bits-shot : IsShot Bits m steps (shot_with ended.records (last_of ended.end) now.events)
  bits-shot =
      subst (λ es. IsShot Bits m steps (shot_with ended.records (last_of ended.end) es)) (sym bit-events)
      (record { given = subst (λ es. fits es ≡ true) bit-events now.fitting; end = meant ended.end; runs = r.runs; told = bits-told ended.end r.caused })

-- it is the shot of what the code has of it
pub shot-is : (b : Backend) (m : Module) (steps : ℕ) (x : OneRan) (machine : Machine) (ended : Ended) → x.machine ≡ machine → x.records ≡ ended.records → x.last ≡ last_of ended.end
    → IsShot b m steps (shot_with ended.records (last_of ended.end) (events_of machine)) → IsShot b m steps (shot_of x)
shot-is b m steps x machine ended e f g h =
    subst (λ w. IsShot b m steps (shot_with x.records x.last (events_of w))) (sym e)
    (subst (λ l. IsShot b m steps (shot_with x.records l (events_of machine))) (sym g) (subst (λ rs. IsShot b m steps (shot_with rs (last_of ended.end) (events_of machine))) (sym f) h))
