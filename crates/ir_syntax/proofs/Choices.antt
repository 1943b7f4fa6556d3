-- A choice between two productions, of which one is read by hand.
use Rattle.std.specs.Prelude.{Result}
use Rattle.std.proofs.Common.{◌≡◌, Bool, true, false, List, refl, sym, ◌∙◌}
use Rattle.grammar.specs.declared.cursor.Cursor.{Cursor}
use Rattle.grammar.specs.declared.cursor.Halt.{Halt}
use Rattle.grammar.specs.Grammar.{Alphabet, Grammar, alt, as_tree, begins_with}
use Rattle.grammar.specs.LookAhead.{firsts, marks, Starts}
use Rattle.grammar.specs.code.Reading.{read}
use Rattle.grammar.specs.code.Gives.{Gives}
use Rattle.grammar.proofs.Forms.{begun, gives_same}
use Rattle.grammar.proofs.Loop.{or_false_right}

module _ {L : Alphabet} {A : Type 0} (a b : Grammar L A) where
  first_read : (m : Bool) (ts : List L.Token) → begins_with L (firsts a) ts ≡ true → read (alt a b) m ts ≡ read a m ts
  first_read m ts e = rw e refl

  second_read : (m : Bool) (ts : List L.Token) → begins_with L (firsts a) ts ≡ false → marks a ≡ false → read (alt a b) m ts ≡ read b m ts
  second_read m ts e n = rw (e, n, or_false_right m) refl

  -- the first begins here, as a test tells, and is read
  pub gives_first : {kinds : List L.Kind} {mark : Bool} → Starts a kinds mark → (c d : Cursor L.Token) (r : Result A (Halt L.Token L.Rule)) (test : Bool)
      → test ≡ begins_with L kinds c.rest.now → test ≡ true → Gives a c d r → Gives (alt a b) c d r
  gives_first s c d r test e h g = gives_same (alt a b) a c c d r (first_read c.marked c.rest.now (begun s c.rest.now ∙ (sym e ∙ h))) g

  -- the first, which begins with no marked part, doesn't begin here, and the other is read
  pub gives_second : {kinds : List L.Kind} → Starts a kinds false → (c d : Cursor L.Token) (r : Result A (Halt L.Token L.Rule)) (test : Bool)
      → test ≡ begins_with L kinds c.rest.now → test ≡ false → Gives b c d r → Gives (alt a b) c d r
  gives_second s c d r test e h g = gives_same (alt a b) b c c d r (second_read c.marked c.rest.now (begun s c.rest.now ∙ (sym e ∙ h)) s.marked) g

-- what a production begins with, it begins with under other trees
pub tree_starts : {L : Alphabet} {A B : Type 0} (f : A → B) {g : Grammar L A} {kinds : List L.Kind} {mark : Bool} → Starts g kinds mark → Starts (as_tree f g) kinds mark
tree_starts f s = record { decided = s.decided; some = s.some; begins = s.begins; marked = s.marked }
