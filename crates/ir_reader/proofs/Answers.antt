-- What the code answers is right, and nothing else is.
use Rattle.std.proofs.Common.{◌≡◌, ◌∙◌, ℕ, List, map, Result, Ok, Err, refl, sym, ap, subst}
use Rattle.std.specs.Prelude.{IfOk, IfErr}
use Rattle.ir_grammar.specs.declared.tree.ItemSyntax.{ItemSyntax}
use Rattle.ir_module.specs.declared.places.Place.{Place}
use Rattle.ir_module.specs.declared.tree.Module.{Module}
use Rattle.ir_module.specs.Spots.{spots}
use Rattle.ir_names.specs.code.Answers.{Fails}
use Rattle.ir_names.specs.declared.fault.Stop.{Stop}
use Rattle.ir_names.specs.declared.fault.Stop.TheVariants as names
use Rattle.ir_names.specs.Module.{Names, faults_of}
use Rattle.ir_names.specs.Places.{places_of}
use Rattle.ir_syntax.specs.declared.fault.SyntaxStop.{SyntaxStop}
use Rattle.ir_syntax.specs.declared.fault.SyntaxStop.TheVariants as syntax
use Rattle.ir_syntax.specs.Texts.{HasTree, Reads as ReadsSyntax}
use Rattle.ir_reader.specs.declared.parsed.Parsed.{Parsed}
use Rattle.ir_reader.specs.declared.parsed.ReadCode.{ReadCode}
use Rattle.ir_reader.specs.declared.parsed.ReadStop.{ReadStop}
use Rattle.ir_reader.specs.declared.parsed.ReadStop.TheVariants.{Refused, Memory}
use Rattle.ir_reader.specs.Answers.{MayStopWith, GivesModule, Refuses}
use Rattle.ir_reader.specs.code.Stops.{syntax_stop, names_stop}
use Rattle.ir_reader.specs.Laws.{OneAnswer, PlacesAreOfSpots, Reads}
use Rattle.ir_reader.specs.Misreading.{Misread, in_syntax, in_names}
use Rattle.ir_reader.specs.Spelling.{Spells, HasPlaces}
use Rattle.ir_reader.proofs.OneAnswer.{Answer, module-or, never-both, why-or}

-- from the passes below

pub syntax-stops : (text : List ℕ) (stop : SyntaxStop) → ReadsSyntax text (Err stop) → MayStopWith text (syntax_stop text stop)
syntax-stops text (syntax.Refused fault) h = in_syntax fault h
syntax-stops text syntax.Memory h = tt

pub names-stop : (text : List ℕ) (items : List ItemSyntax) (stop : Stop) → HasTree text items → Fails (faults_of text items) stop → MayStopWith text (names_stop text stop)
names-stop text items (names.At fault) tree h = in_names items fault tree h
names-stop text items names.Memory tree h = tt

module _ (text : List ℕ) (items : List ItemSyntax) (tree : HasTree text items) where
  pub spells-from : (r : Result Parsed ReadStop) → IfOk r (λ p. Names text items p.module) → IfOk r (λ p. Spells p.module text)
  spells-from (Ok p) h = (items, tree, h)
  spells-from (Err e) h = h

  pub placed-from : (r : Result Parsed ReadStop) → IfOk r (λ p. p.places ≡ places_of text items) → IfOk r (λ p. HasPlaces text p.places)
  placed-from (Ok p) h = (items, tree, h)
  placed-from (Err e) h = h

  pub stops-from : (r : Result Parsed ReadStop) → IfErr r (λ e. (s : Stop) × Fails (faults_of text items) s × (e ≡ names_stop text s)) → IfErr r (λ e. MayStopWith text e)
  stops-from (Ok p) h = h
  stops-from (Err e) h = subst (MayStopWith text) (sym h.2) (names-stop text items h.0 tree h.1)

-- by the laws

module _ (text : List ℕ) where
  -- the text spells a module, so it is read with places
  placed : (m : Module) → Spells m text → (p : Parsed) × Reads text (Ok p) × (p.module ≡ m)
  placed m h = let p : Parsed = record { «module» = m; places = places_of text h.0 } in (p, (h, (h.0, h.1, refl)), refl)

  pub gives : OneAnswer → (m : Module) → Spells m text → (r : Result Parsed ReadStop) → IfOk r (λ p. Spells p.module text) → IfOk r (λ p. HasPlaces text p.places)
      → IfErr r (λ e. MayStopWith text e) → GivesModule m r
  gives one m h (Ok p) s ps e =
      let q = placed m h in
      ap (module-or m) ((one text).2 (Ok p) (s, ps) ∙ sym ((one text).2 (Ok q.0) q.1)) ∙ q.2
  gives one m h (Err (Refused code place)) s ps e =
      let q = placed m h in
      never-both q.0 (code, place) ((one text).2 (Ok q.0) q.1 ∙ sym ((one text).2 (Err (code, place)) e))
  gives one m h (Err Memory) s ps e = tt

  pub refuses : OneAnswer → (code : ReadCode) (place : Place) → Misread text code place → (r : Result Parsed ReadStop) → IfOk r (λ p. Spells p.module text)
      → IfOk r (λ p. HasPlaces text p.places) → IfErr r (λ e. MayStopWith text e) → Refuses code place r
  refuses one code place h (Ok p) s ps e = never-both p (code, place) ((one text).2 (Ok p) (s, ps) ∙ sym ((one text).2 (Err (code, place)) h))
  refuses one code place h (Err (Refused c p)) s ps e =
      let same = (one text).2 (Err (c, p)) e ∙ sym ((one text).2 (Err (code, place)) h) in
      (ap (λ r. (why-or (code, place) r).0) same, ap (λ r. (why-or (code, place) r).1) same)
  refuses one code place h (Err Memory) s ps e = tt

  pub spots-are : PlacesAreOfSpots → (r : Result Parsed ReadStop) → IfOk r (λ p. Spells p.module text) → IfOk r (λ p. HasPlaces text p.places)
      → IfOk r (λ p. map (λ x. x.0) p.places ≡ spots p.module)
  spots-are law (Ok p) s ps = law text p (s, ps)
  spots-are law (Err e) s ps = s
