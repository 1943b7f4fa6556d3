-- A text that has one tree, or one first fault of its syntax, reads in one way.
use Rattle.std.proofs.Common.{◌≡◌, ℕ, Bool, true, false, List, [], ◌∷◌, map, Result, Ok, Err, refl, sym, ap, subst, ◌∙◌, true≢false}
use Rattle.ir_grammar.specs.declared.tree.ItemSyntax.{ItemSyntax}
use Rattle.ir_module.specs.declared.places.Place.{Place}
use Rattle.ir_module.specs.declared.places.Spot.{Spot}
use Rattle.ir_module.specs.declared.tree.Module.{Module}
use Rattle.ir_module.specs.Spots.{spots}
use Rattle.ir_names.specs.declared.fault.Fault.{Fault}
use Rattle.ir_names.specs.Faults.{IsFirst}
use Rattle.ir_names.specs.Module.{Names, faults_of, module_of}
use Rattle.ir_names.specs.Places.{place_at, places_of}
use Rattle.ir_syntax.specs.declared.fault.SyntaxFault.{SyntaxFault}
use Rattle.ir_syntax.specs.Texts.{HasTree, HasFault, IsAnswer, HasOneAnswer}
use Rattle.ir_reader.specs.declared.parsed.Parsed.{Parsed}
use Rattle.ir_reader.specs.declared.parsed.ReadCode.{ReadCode}
use Rattle.ir_reader.specs.Codes.{of_syntax, of_names}
use Rattle.ir_reader.specs.Laws.{Reads}
use Rattle.ir_reader.specs.Misreading.{Misread, in_syntax, in_names, place_of_byte}
use Rattle.ir_reader.specs.Spelling.{Spells, HasPlaces}

abbrev Tree : Type 0
Tree = Result (List ItemSyntax) SyntaxFault

abbrev is_tree : Tree → Bool
is_tree (Ok items) = true
is_tree (Err fault) = false

abbrev items_or : List ItemSyntax → Tree → List ItemSyntax
items_or other (Ok items) = items
items_or other (Err fault) = other

abbrev fault_or : SyntaxFault → Tree → SyntaxFault
fault_or other (Ok items) = other
fault_or other (Err fault) = fault

abbrev pub Answer : Type 0
Answer = Result Parsed (ReadCode × Place)

abbrev Why : Type 0
Why = ReadCode × Place

abbrev SameWhy : Why → Why → Type 0
SameWhy v w = v ≡ w

abbrev pub Same : Answer → Answer → Type 0
Same r s = r ≡ s

abbrev pub module-or : Module → Answer → Module
module-or other (Ok parsed) = parsed.module
module-or other (Err why) = other

abbrev pub why-or : ReadCode × Place → Answer → ReadCode × Place
why-or other (Ok parsed) = other
why-or other (Err why) = why

abbrev is_module : Answer → Bool
is_module (Ok parsed) = true
is_module (Err why) = false

-- an answer is no module and a refusal at once
pub never-both : {B : Type 0} (parsed : Parsed) (why : ReadCode × Place) → Same (Ok parsed) (Err why) → B
never-both parsed why e = absurd (true≢false (ap is_module e))

same-first : (fs : List Fault) (f g : Fault) → IsFirst fs f → IsFirst fs g → f ≡ g
same-first [] f g a b = absurd a
same-first (h ∷ fs) f g a b = sym a ∙ b

module _ (text : List ℕ) (one : HasOneAnswer text) where
  same-answer : (p q : Tree) → IsAnswer text p → IsAnswer text q → p ≡ q
  same-answer p q a b = one.2 p a ∙ sym (one.2 q b)

  pub same-tree : (xs ys : List ItemSyntax) → HasTree text xs → HasTree text ys → xs ≡ ys
  same-tree xs ys a b = ap (items_or xs) (same-answer (Ok xs) (Ok ys) a b)

  never-tree : {B : Type 0} (items : List ItemSyntax) (fault : SyntaxFault) → HasTree text items → HasFault text fault → B
  never-tree items fault a b = absurd (true≢false (ap is_tree (same-answer (Ok items) (Err fault) a b)))

  same-fault : (f g : SyntaxFault) → HasFault text f → HasFault text g → f ≡ g
  same-fault f g a b = ap (fault_or f) (same-answer (Err f) (Err g) a b)

  same-names : (xs ys : List ItemSyntax) (f g : Fault) → HasTree text xs → HasTree text ys → IsFirst (faults_of text xs) f → IsFirst (faults_of text ys) g → f ≡ g
  same-names xs ys f g a b p q = same-first (faults_of text ys) f g (subst (λ items. IsFirst (faults_of text items) f) (same-tree xs ys a b) p) q

  -- a text that spells a module isn't misread
  never-misread : {B : Type 0} (m : Module) (code : ReadCode) (place : Place) → Spells m text → Misread text code place → B
  never-misread m code place s (in_syntax fault f) = never-tree s.0 fault s.1 f
  never-misread m code place s (in_names items fault tree first) =
      let clean : faults_of text items ≡ [] = subst (λ xs. faults_of text xs ≡ []) (same-tree s.0 items s.1 tree) s.2.0 in
      absurd (subst (λ fs. IsFirst fs fault) clean first)

  misread-once : (code code' : ReadCode) (place place' : Place) → Misread text code place → Misread text code' place' → SameWhy (code, place) (code', place')
  misread-once code code' place place' (in_syntax f a) (in_syntax g b) = ap (λ f. (of_syntax f.code, place_of_byte text f.place)) (same-fault f g a b)
  misread-once code code' place place' (in_syntax f a) (in_names items g tree first) = never-tree items f tree a
  misread-once code code' place place' (in_names items f tree first) (in_syntax g b) = never-tree items g tree b
  misread-once code code' place place' (in_names xs f a p) (in_names ys g b q) = ap (λ f. (of_names f.code, place_at text f.at)) (same-names xs ys f g a b p q)

  pub spells-once : (m n : Module) → Spells m text → Spells n text → m ≡ n
  spells-once m n a b = a.2.1 ∙ (ap (module_of text) (same-tree a.0 b.0 a.1 b.1) ∙ sym b.2.1)

  places-once : (ps qs : List (Spot × Place)) → HasPlaces text ps → HasPlaces text qs → ps ≡ qs
  places-once ps qs a b = a.2 ∙ (ap (places_of text) (same-tree a.0 b.0 a.1 b.1) ∙ sym b.2)

  pub reads-once : (p q : Answer) → Reads text p → Reads text q → p ≡ q
  reads-once (Ok p) (Ok q) a b =
      ap (λ m. let x : Parsed = record { «module» = m; places = p.places } in Ok x) (spells-once p.module q.module a.0 b.0)
      ∙ ap (λ ps. let x : Parsed = record { «module» = q.module; places = ps } in Ok x) (places-once p.places q.places a.1 b.1)
  reads-once (Ok p) (Err w) a b = never-misread p.module w.0 w.1 a.0 b
  reads-once (Err v) (Ok q) a b = never-misread q.module v.0 v.1 b.0 a
  reads-once (Err v) (Err w) a b = ap Err (misread-once v.0 w.0 v.1 w.1 a b)

  by_faults : (items : List ItemSyntax) → HasTree text items → (fs : List Fault) → faults_of text items ≡ fs → (r : Answer) × Reads text r
  by_faults items tree [] e =
      let x : Parsed = record { «module» = module_of text items; places = places_of text items } in
      (Ok x, ((items, tree, (e, refl)), (items, tree, refl)))
  by_faults items tree (f ∷ fs) e = (Err (of_names f.code, place_at text f.at), in_names items f tree (subst (λ l. IsFirst l f) (sym e) refl))

  by_tree : (r : Tree) → IsAnswer text r → (q : Answer) × Reads text q
  by_tree (Ok items) tree = by_faults items tree (faults_of text items) refl
  by_tree (Err f) fault = (Err (of_syntax f.code, place_of_byte text f.place), in_syntax f fault)

  pub reads-some : (r : Answer) × Reads text r
  reads-some = by_tree one.0 one.1

  pub one-answer : (r : Answer) × Reads text r × ((q : Answer) → Reads text q → q ≡ r)
  one-answer = (reads-some.0, reads-some.1, λ q h. reads-once q reads-some.0 h reads-some.1)

  pub spots-once : ((xs : List ItemSyntax) → map (λ p. p.0) (places_of text xs) ≡ spots (module_of text xs)) → (p : Parsed) → Reads text (Ok p)
      → map (λ x. x.0) p.places ≡ spots p.module
  spots-once law p h =
      let tree : h.1.0 ≡ h.0.0 = same-tree h.1.0 h.0.0 h.1.1 h.0.1 in
      ap (map (λ x. x.0)) (h.1.2 ∙ ap (places_of text) tree) ∙ (law h.0.0 ∙ ap spots (sym h.0.2.1))
