-- An order of grammars: one is within another if its sentences, with their trees, and its viable prefixes are those of the
-- other too. Each form of a production keeps the order, and `alt` is the least grammar above two.
use Rattle.std.specs.Prelude.{Result, Ok, Err}
use Rattle.std.proofs.Common.{ℕ, Option, Some, None, List, [], ◌∷◌, ◌++◌, ◌⊎◌, inl, inr}
use Rattle.grammar.specs.declared.fault.Fault.{Fault}
use Rattle.grammar.specs.declared.fault.Fault.TheVariants.{Unexpected, Broken}
use Rattle.grammar.specs.Grammar.{Alphabet, Grammar, seq, alt, opt, rep, as_tree, dep, grow, marked}
use Rattle.grammar.specs.Language.{Sentence, many, steps, Derives, Ending, Fine, Marked, Breaks, Front, IsFault, Holds}
use Rattle.grammar.specs.Laws.{HoldsOnce, PrefixClosed}
use Rattle.published_grammar.specs.SameLanguage.{SameSentences, SamePrefixes, SameAnswers}

pub record Within {L : Alphabet} {A : Type 0} (g h : Grammar L A) : Type 0 where
  pub sentences : (ts : List L.Token) (x : A) → Derives g ts x → Derives h ts x
  pub fronts : (m : Ending L) (ts : List L.Token) → Front g m ts → Front h m ts

pub record Same {L : Alphabet} {A : Type 0} (g h : Grammar L A) : Type 0 where
  pub there : Within g h
  pub back : Within h g

-- the order

pub within_itself : {L : Alphabet} {A : Type 0} (g : Grammar L A) → Within g g
within_itself g = record { sentences = λ ts x w. w; fronts = λ m ts w. w }

pub within_through : {L : Alphabet} {A : Type 0} {g h k : Grammar L A} → Within g h → Within h k → Within g k
within_through p q = record { sentences = λ ts x w. q.sentences ts x (p.sentences ts x w); fronts = λ m ts w. q.fronts m ts (p.fronts m ts w) }

pub same_itself : {L : Alphabet} {A : Type 0} (g : Grammar L A) → Same g g
same_itself g = record { there = within_itself g; back = within_itself g }

pub same_through : {L : Alphabet} {A : Type 0} {g h k : Grammar L A} → Same g h → Same h k → Same g k
same_through p q = record { there = within_through p.there q.there; back = within_through q.back p.back }

pub turned : {L : Alphabet} {A : Type 0} {g h : Grammar L A} → Same g h → Same h g
turned p = record { there = p.back; back = p.there }

-- choices

pub either : {L : Alphabet} {A : Type 0} {a b h : Grammar L A} → Within a h → Within b h → Within (alt a b) h
either {L} {A} {a} {b} {h} p q = record { sentences = sentence; fronts = front }
  where
    sentence : (ts : List L.Token) (x : A) → Derives a ts x ⊎ Derives b ts x → Derives h ts x
    sentence ts x (inl w) = p.sentences ts x w
    sentence ts x (inr w) = q.sentences ts x w

    front : (m : Ending L) (ts : List L.Token) → Front a m ts ⊎ Front b m ts → Front h m ts
    front m ts (inl w) = p.fronts m ts w
    front m ts (inr w) = q.fronts m ts w

pub on_left : {L : Alphabet} {A : Type 0} {g a b : Grammar L A} → Within g a → Within g (alt a b)
on_left p = record { sentences = λ ts x w. inl (p.sentences ts x w); fronts = λ m ts w. inl (p.fronts m ts w) }

pub on_right : {L : Alphabet} {A : Type 0} {g a b : Grammar L A} → Within g b → Within g (alt a b)
on_right p = record { sentences = λ ts x w. inr (p.sentences ts x w); fronts = λ m ts w. inr (p.fronts m ts w) }

-- the forms keep the order

pub within_alt : {L : Alphabet} {A : Type 0} {a b c d : Grammar L A} → Within a c → Within b d → Within (alt a b) (alt c d)
within_alt p q = either (on_left p) (on_right q)

pub within_as_tree : {L : Alphabet} {A B : Type 0} {a b : Grammar L A} (f : A → B) → Within a b → Within (as_tree f a) (as_tree f b)
within_as_tree f p = record { sentences = λ ts y w. (w.0, p.sentences ts w.0 w.1, w.2); fronts = p.fronts }

pub within_marked : {L : Alphabet} {A : Type 0} {a b : Grammar L A} → Within a b → Within (marked a) (marked b)
within_marked {L} {A} {a} {b} p = record { sentences = p.sentences; fronts = front }
  where
    front : (m : Ending L) (ts : List L.Token) → Front (marked a) m ts → Front (marked b) m ts
    front m ts (inl w) = inl w
    front m ts (inr w) = inr (p.fronts m ts w)

pub within_opt : {L : Alphabet} {A : Type 0} {a b : Grammar L A} → Within a b → Within (opt a) (opt b)
within_opt {L} {A} {a} {b} p = record { sentences = sentence; fronts = p.fronts }
  where
    sentence : (ts : List L.Token) (x : Option A) → Derives (opt a) ts x → Derives (opt b) ts x
    sentence ts None w = w
    sentence ts (Some x) w = p.sentences ts x w

pub many_within : {T A : Type 0} (wa wb : Sentence T A) → ((ts : List T) (x : A) → wa ts x → wb ts x) → (ts : List T) (xs : List A) → many wa ts xs → many wb ts xs
many_within wa wb h ts [] w = w
many_within wa wb h ts (x ∷ xs) w = (w.0, w.1, w.2, h w.0 x w.3, many_within wa wb h w.1 xs w.4)

pub within_rep : {L : Alphabet} {A : Type 0} {a b : Grammar L A} → Within a b → Within (rep a) (rep b)
within_rep {L} {A} {a} {b} p = record {
  sentences = many_within (Derives a) (Derives b) p.sentences;
  fronts = λ m ts w. (w.0, w.1, w.2, w.3, many_within (Derives a) (Derives b) p.sentences w.1 w.0 w.4, p.fronts m w.2 w.5);
}

-- What each tree of a sentence asks for is within what it asks for there.
pub within_asked : {L : Alphabet} {A B : Type 0} (s z : List L.Kind) {a b : Grammar L A} {f g : A → Grammar L B} → Within a b → ((us : List L.Token) (x : A) → Derives a us x → Within (f x) (g x)) → Within (dep a s f) (dep b z g)
within_asked {L} {A} {B} s z {a} {b} {f} {g} p q = record { sentences = λ ts x w. (w.0, w.1, w.2, p.sentences w.0 x.0 w.3, (q w.0 x.0 w.3).sentences w.1 x.1 w.4); fronts = front }
  where
    front : (m : Ending L) (ts : List L.Token) → Front (dep a s f) m ts → Front (dep b z g) m ts
    front m ts (inl w) = inl (p.fronts m ts w)
    front m ts (inr w) = inr (w.0, w.1, w.2, w.3, p.sentences w.1 w.0 w.4, (q w.1 w.0 w.4).fronts m w.2 w.5)

pub within_dep : {L : Alphabet} {A B : Type 0} {a b : Grammar L A} (s z : List L.Kind) {f g : A → Grammar L B} → Within a b → ((x : A) → Within (f x) (g x)) → Within (dep a s f) (dep b z g)
within_dep s z p q = within_asked s z p (λ us x w. q x)

pub within_seq : {L : Alphabet} {A B : Type 0} {a b : Grammar L A} {c d : Grammar L B} → Within a b → Within c d → Within (seq a c) (seq b d)
within_seq {L} {A} {B} {a} {b} {c} {d} p q = let w : Within (dep a [] (λ x. c)) (dep b [] (λ x. d)) = within_dep [] [] p (λ x. q) in record { sentences = w.sentences; fronts = w.fronts }

pub steps_within : {T A : Type 0} (wa wb : A → Sentence T A) → ((z : A) (ts : List T) (x : A) → wa z ts x → wb z ts x) → (z : A) (xs : List A) (ts : List T) → steps wa z xs ts → steps wb z xs ts
steps_within wa wb h z [] ts w = w
steps_within wa wb h z (x ∷ xs) ts w = (w.0, w.1, w.2, h z w.0 x w.3, steps_within wa wb h x xs w.1 w.4)

pub within_grow : {L : Alphabet} {A : Type 0} (x : A) (s z : List L.Kind) {f g : A → Grammar L A} → ((y : A) → Within (f y) (g y)) → Within (grow x s f) (grow x z g)
within_grow {L} {A} x s z {f} {g} p = record {
  sentences = λ ts y w. (w.0, w.1, kept w.0 ts w.2);
  fronts = λ m ts w. (w.0, w.1, w.2, w.3, kept w.0 w.1 w.4, (p _).fronts m w.2 w.5);
}
  where
    kept : (ys : List A) (ts : List L.Token) → steps (λ y. Derives (f y)) x ys ts → steps (λ y. Derives (g y)) x ys ts
    kept = steps_within (λ y. Derives (f y)) (λ y. Derives (g y)) (λ y. (p y).sentences) x

-- the same, both ways

pub same_alt : {L : Alphabet} {A : Type 0} {a b c d : Grammar L A} → Same a c → Same b d → Same (alt a b) (alt c d)
same_alt p q = record { there = within_alt p.there q.there; back = within_alt p.back q.back }

pub same_as_tree : {L : Alphabet} {A B : Type 0} {a b : Grammar L A} (f : A → B) → Same a b → Same (as_tree f a) (as_tree f b)
same_as_tree f p = record { there = within_as_tree f p.there; back = within_as_tree f p.back }

pub same_marked : {L : Alphabet} {A : Type 0} {a b : Grammar L A} → Same a b → Same (marked a) (marked b)
same_marked p = record { there = within_marked p.there; back = within_marked p.back }

pub same_opt : {L : Alphabet} {A : Type 0} {a b : Grammar L A} → Same a b → Same (opt a) (opt b)
same_opt p = record { there = within_opt p.there; back = within_opt p.back }

pub same_rep : {L : Alphabet} {A : Type 0} {a b : Grammar L A} → Same a b → Same (rep a) (rep b)
same_rep p = record { there = within_rep p.there; back = within_rep p.back }

pub same_seq : {L : Alphabet} {A B : Type 0} {a b : Grammar L A} {c d : Grammar L B} → Same a b → Same c d → Same (seq a c) (seq b d)
same_seq p q = record { there = within_seq p.there q.there; back = within_seq p.back q.back }

pub same_dep : {L : Alphabet} {A B : Type 0} {a b : Grammar L A} (s z : List L.Kind) {f g : A → Grammar L B} → Same a b → ((x : A) → Same (f x) (g x)) → Same (dep a s f) (dep b z g)
same_dep s z p q = record { there = within_dep s z p.there (λ x. (q x).there); back = within_dep z s p.back (λ x. (q x).back) }

pub same_asked : {L : Alphabet} {A B : Type 0} (s z : List L.Kind) (a : Grammar L A) {f g : A → Grammar L B} → ((us : List L.Token) (x : A) → Derives a us x → Same (f x) (g x)) → Same (dep a s f) (dep a z g)
same_asked s z a h = record { there = within_asked s z (within_itself a) (λ us x w. (h us x w).there); back = within_asked z s (within_itself a) (λ us x w. (h us x w).back) }

pub same_grow : {L : Alphabet} {A : Type 0} (x : A) (s z : List L.Kind) {f g : A → Grammar L A} → ((y : A) → Same (f y) (g y)) → Same (grow x s f) (grow x z g)
same_grow x s z p = record { there = within_grow x s z (λ y. (p y).there); back = within_grow x z s (λ y. (p y).back) }

-- what the order says of the two languages

module _ {L : Alphabet} {A : Type 0} (g h : Grammar L A) (p : Same g h) where
  pub same_sentences : SameSentences g h
  same_sentences ts x = (p.there.sentences ts x, p.back.sentences ts x)

  pub same_prefixes : SamePrefixes g h
  same_prefixes m ts = (p.there.fronts m ts, p.back.fronts m ts)

module _ {L : Alphabet} {A : Type 0} (g h : Grammar L A) (p : Within g h) (q : Within h g) where
  fault_kept : (f : Fault L.Rule) (us rest : List L.Token) → IsFault g us rest f → IsFault h us rest f
  fault_kept (Unexpected d) us [] n = (λ x w. n.0 x (q.sentences us x w), λ i. p.fronts Marked us (n.1 i), λ k. n.2 (q.fronts Marked us k))
  fault_kept (Unexpected d) us (t ∷ v) n = ((λ k. n.0.0 (q.fronts Fine (us ++ t ∷ []) k), λ r k. n.0.1 r (q.fronts (Breaks r) (us ++ t ∷ []) k)), λ i. p.fronts Marked us (n.1 i), λ k. n.2 (q.fronts Marked us k))
  fault_kept (Broken r) us [] n = n
  fault_kept (Broken r) us (t ∷ v) n = (p.fronts (Breaks r) (us ++ t ∷ []) n.0, λ k. n.1 (q.fronts Fine (us ++ t ∷ []) k))

  pub answer_kept : (ts : List L.Token) (r : Result A (Fault L.Rule × ℕ)) → Holds g ts r → Holds h ts r
  answer_kept ts (Ok x) w = p.sentences ts x w
  answer_kept ts (Err e) w = (w.0, w.1, w.2, w.3, p.fronts Fine w.0 w.4, fault_kept e.0 w.0 w.1 w.5)

pub same_answers : {L : Alphabet} {A : Type 0} (g h : Grammar L A) → Same g h → SameAnswers g h
same_answers g h p ts r = (answer_kept g h p.there p.back ts r, answer_kept h g p.back p.there ts r)

-- where exactly one answer holds of one grammar, it does so of the other
pub once_kept : {L : Alphabet} {A : Type 0} (g h : Grammar L A) → Same g h → HoldsOnce h → HoldsOnce g
once_kept g h p once ts = let o = once ts in (o.0, answer_kept h g p.back p.there ts o.0 o.1, λ q w. o.2 q (answer_kept g h p.there p.back ts q w))

-- where sentences, and the beginnings of viable prefixes, are viable prefixes of one grammar, they are of the other
pub closed_kept : {L : Alphabet} {A : Type 0} (g h : Grammar L A) → Same g h → PrefixClosed h → PrefixClosed g
closed_kept g h p c = (λ ts x w. p.back.fronts Fine ts (c.0 ts x (p.there.sentences ts x w)), λ us vs w. p.back.fronts Fine us (c.1 us vs (p.there.fronts Fine (us ++ vs) w)))
