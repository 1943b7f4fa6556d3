-- Shots of two modules that have the same behaviour.
use Rattle.std.proofs.Common.{◌≡◌, ◌∙◌, ℕ, ◌+◌, ◌*◌, ◌≤◌, List, refl, sym, ap, subst, arith}
use Rattle.std.specs.Prelude.{◌≢◌}
use Rattle.backend_api.specs.declared.operation.Event.{Event}
use Rattle.backend_api.specs.declared.operation.Op.{Op}
use Rattle.backend_api.specs.Naming.{Naming, named_events}
use Rattle.bit_backend.specs.Laws.{RenamingKeepsFits, RenamingKeepsOperations}
use Rattle.ir_module.specs.declared.tree.Module.{Module}
use Rattle.output_lines.specs.declared.last.Last.{Last}
use Rattle.output_lines.specs.declared.last.Last.TheVariants.{Stop}
use Rattle.output_lines.specs.declared.last.StopName.{StopName}
use Rattle.output_lines.specs.declared.last.StopName.TheVariants as stop
use Rattle.output_records.specs.declared.record.Record.{Record}
use Rattle.qir_meaning.specs.Laws.{EndedRunsStay}
use Rattle.qir_meaning.specs.Naming.{named_end}
use Rattle.qir_meaning.specs.Runs.{RunEnd, Returned, Trapped, Asks, Cut, Runs}
use Rattle.shots.specs.declared.backend.Backend.{Backend}
use Rattle.shots.specs.declared.backend.Backend.TheVariants.{Script, Bits}
use Rattle.shots.specs.Laws.{ShotsAreOne}
use Rattle.shots.specs.Shots.{Gives, IsShot, Lacks, Shot, TellsEnd, answers_of}
use Rattle.lasting_runs.proofs.Lasting.{IsCutOrOver, cut-or-not, is_cut, is_over}
use Rattle.equal_shots.specs.Laws.{AreAlike}
use Rattle.equal_shots.specs.Shots.{DoesSame, IsCut, IsOver}
use Rattle.equal_shots.proofs.Named.{answers-named, gives-named, gives-plain, tells-named, tells-plain}

-- the laws that all rests on
pub record AreProved : Type 0 where
  pub stays : EndedRunsStay
  pub one_shot : ShotsAreOne
  pub operations : RenamingKeepsOperations
  pub fits : RenamingKeepsFits

abbrev pub shot_of : List Event → List Record → Last → Shot
shot_of es rs last = record { events = es; records = rs; last = last }

-- a run that is cut is told as cut
tells-cut : (b : Backend) (es : List Event) (e : RunEnd) (last : Last) → e ≡ Cut → TellsEnd b es e last → last ≡ Stop stop.Cut
tells-cut b es e last q t = subst (λ z. TellsEnd b es z last) q t

-- and one that isn't cut is told otherwise
lack-cut : (b : Backend) (es : List Event) (op : Op) (why : StopName) → Lacks b es op why → why ≡ stop.Cut → ⊥
lack-cut (Script bits) es op why l q = let e : why ≡ stop.Empty = l.2 in cc
lack-cut Bits es op why l q = let e : why ≡ stop.Unsupported = l.1 in cc

pub over-last : (b : Backend) (es : List Event) (e : RunEnd) (last : Last) → e ≢ Cut → TellsEnd b es e last → last ≢ Stop stop.Cut
over-last b es (Returned code) last not t q = cc
over-last b es (Trapped why) last not t q = cc
over-last b es (Asks op) last not t q = let e : Stop t.0 ≡ Stop stop.Cut = sym t.2 ∙ q in lack-cut b es op t.0 t.1 (cc)
over-last b es Cut last not t q = not refl

over-end : (b : Backend) (m : Module) (n : ℕ) (x : Shot) (s : IsShot b m n x) → IsOver x → s.end ≢ Cut
over-end b m n x s over q = over (tells-cut b x.events s.end x.last q s.told)

-- one that is over is the same at every greater bound
shot-stays : EndedRunsStay → (b : Backend) (m : Module) (n k : ℕ) (x : Shot) → n ≤ k → IsOver x → IsShot b m n x → IsShot b m k x
shot-stays stays b m n k x le over s =
    record { given = s.given; end = s.end; runs = stays m (answers_of x.events) n k x.events x.records s.end le (over-end b m n x s over) s.runs; told = s.told }

same-shots : (N : Naming) (es : List Event) (rs : List Record) (last : Last) (y : Shot) → shot_of (named_events N es) rs last ≡ y → DoesSame N (shot_of es rs last) y
same-shots N es rs last y q = record { events = ap (λ (s : Shot). s.events) (sym q); records = ap (λ (s : Shot). s.records) (sym q); last = ap (λ (s : Shot). s.last) (sym q) }

module _ (laws : AreProved) (m l : Module) (N : Naming) (W limit limit' : ℕ) (alike : AreAlike m l N W limit limit') (b : Backend) where
  one-source : (n : ℕ) (x y : Shot) → IsShot b m n x → IsShot b m n y → x ≡ y
  unfolding ShotsAreOne
  one-source n x y p q = laws.one_shot m limit alike.numbered alike.typed b n x y p q

  one-lowered : (n : ℕ) (x y : Shot) → IsShot b l n x → IsShot b l n y → x ≡ y
  unfolding ShotsAreOne
  one-lowered n x y p q = laws.one_shot l limit' alike.lowered_numbered alike.lowered_typed b n x y p q

  -- ---- a shot under other names

  named-shot : (n : ℕ) (x : Shot) → IsShot b m n x → IsOver x → IsShot b l (4 * n + 16) (shot_of (named_events N x.events) x.records x.last)
  named-shot n x s over =
      let a = answers_of x.events in
      record {
        given = gives-named laws.operations laws.fits m N alike.apart a n x.events x.records b s.end s.runs s.given;
        end = named_end N s.end;
        runs = subst (λ z. Runs l z (4 * n + 16) (named_events N x.events) x.records (named_end N s.end)) (sym (answers-named N x.events)) (alike.same.forth a n x.events x.records s.end s.runs (over-end b m n x s over));
        told = tells-named laws.operations laws.fits m N alike.apart a n x.events x.records b s.end x.last s.runs s.told;
      }

  -- a run of the source with the answers of a shot of the lowered module, whose events those are under other names
  plain-shot : (n : ℕ) (y : Shot) (end : RunEnd) → Gives b y.events → TellsEnd b y.events end y.last → (es : List Event) (e : RunEnd) → named_events N es ≡ y.events → named_end N e ≡ end → Runs m (answers_of y.events) n es y.records e
      → IsShot b m n (shot_of es y.records y.last)
  plain-shot n y end given told es e same ends run =
      let a = answers_of y.events in
      record {
        given = gives-plain laws.operations laws.fits m N alike.apart a n es y.records b e run (subst (Gives b) (sym same) given);
        end = e;
        runs = subst (λ z. Runs m z n es y.records e) (ap answers_of (sym same) ∙ answers-named N es) run;
        told = tells-plain laws.operations laws.fits m N alike.apart a n es y.records b e y.last run
            (subst (λ z. TellsEnd b (named_events N es) z y.last) (sym ends) (subst (λ z. TellsEnd b z end y.last) (sym same) told));
      }

  -- ---- where one is over, so is the other

  pub forth : (n : ℕ) (x : Shot) → IsShot b m n x → IsOver x → (y : Shot) × IsShot b l (4 * n + 16) y × DoesSame N x y
  forth n x s over = (shot_of (named_events N x.events) x.records x.last, named-shot n x s over, record { events = refl; records = refl; last = refl })

  pub back : (n : ℕ) (y : Shot) → IsShot b l n y → IsOver y → (x : Shot) × IsShot b m ((n + 1) * W) x × DoesSame N x y
  back n y s over =
      let r = alike.same.back (answers_of y.events) n y.events y.records s.end s.runs (over-end b l n y s over) in
      (shot_of r.0 y.records y.last, plain-shot ((n + 1) * W) y s.end s.given s.told r.0 r.1 r.2 r.3 r.4, record { events = sym r.2; records = refl; last = refl })

  pub equal : (n k : ℕ) (x y : Shot) → IsShot b m n x → IsShot b l k y → IsOver x → IsOver y → DoesSame N x y
  equal n k x y p q over over' =
      let z = shot_of (named_events N x.events) x.records x.last in
      let at = 4 * n + 16 + k in
      let e = one-lowered at z y (shot-stays laws.stays b l (4 * n + 16) at z (omega arith) over (named-shot n x p over)) (shot-stays laws.stays b l k at y (omega arith) over' q) in
      same-shots N x.events x.records x.last y e

  -- ---- where one is cut, so is the other

  pub cut-forth : (n : ℕ) (x y : Shot) → IsShot b m ((n + 1) * W) x → IsShot b l n y → IsCut x → IsCut y
  cut-forth n x y p q cut = by (cut-or-not q.end)
    where
      by : IsCutOrOver q.end → IsCut y
      by (is_cut e) = tells-cut b y.events q.end y.last e q.told
      by (is_over not) =
          let r = alike.same.back (answers_of y.events) n y.events y.records q.end q.runs not in
          let e = one-source ((n + 1) * W) x (shot_of r.0 y.records y.last) p (plain-shot ((n + 1) * W) y q.end q.given q.told r.0 r.1 r.2 r.3 r.4) in
          sym (ap (λ (s : Shot). s.last) e) ∙ cut

  pub cut-back : (n : ℕ) (x y : Shot) → IsShot b l (4 * n + 16) y → IsShot b m n x → IsCut y → IsCut x
  cut-back n x y q p cut = by (cut-or-not p.end)
    where
      by : IsCutOrOver p.end → IsCut x
      by (is_cut e) = tells-cut b x.events p.end x.last e p.told
      by (is_over not) =
          let over : IsOver x = λ c. over-last b x.events p.end x.last not p.told c in
          let e = one-lowered (4 * n + 16) (shot_of (named_events N x.events) x.records x.last) y (named-shot n x p over) q in
          ap (λ (s : Shot). s.last) e ∙ cut
