-- Forms of productions that keep the order of grammars, and laws of forms.
use Rattle.std.proofs.Common.{List, [], inl, inr, refl, ap, ◌∙◌, subst}
use Rattle.grammar.specs.Grammar.{Alphabet, Grammar, seq, alt, as_tree, dep, marked, listed, preceded, second}
use Rattle.grammar.specs.Language.{Derives, Ending, Front}
use Rattle.ir_tokens.specs.declared.kind.Kind.{Kind}
use Rattle.ir_tokens.specs.Tokens.{tokens}
use Rattle.ir_grammar.specs.Forms.{one, first, commas, ◌▸◌, ◌◂◌, ◌or◌}
use Rattle.published_grammar.proofs.Algebra.{Within, Same, same_itself, same_through, turned, same_as_tree, same_seq, same_opt, same_rep, same_alt}
use Rattle.published_grammar.proofs.Factoring.{trees_joined, trees_apart, tree_second, tree_asked, choice_first, choice_asked, asked_always}

-- the forms of the language

pub same_behind : {A : Type 0} (k : Kind) {a b : Grammar tokens A} → Same a b → Same (k ▸ a) (k ▸ b)
same_behind k p = same_as_tree second (same_seq (same_itself (one k)) p)

pub same_before : {A : Type 0} (k : Kind) {a b : Grammar tokens A} → Same a b → Same (a ◂ k) (b ◂ k)
same_before k p = same_as_tree first (same_seq p (same_itself (one k)))

pub same_commas : {A : Type 0} {a b : Grammar tokens A} → Same a b → Same (commas a) (commas b)
unfolding listed preceded
same_commas p = same_as_tree _ (same_opt (same_as_tree _ (same_seq p (same_rep (same_as_tree second (same_seq (same_itself _) p))))))

-- choices in sequences

pub choice_last : {L : Alphabet} {A B : Type 0} (a : Grammar L A) (b c : Grammar L B) → Same (seq a (alt b c)) (alt (seq a b) (seq a c))
choice_last a b c = same_through (turned (asked_always [] a (alt b c))) (same_through (choice_asked [] a (λ x. b) (λ x. c)) (same_alt (asked_always [] a b) (asked_always [] a c)))

pub choice_before : {L : Alphabet} {A B : Type 0} (a b : Grammar L A) (c : Grammar L B) → Same (seq (alt a b) c) (alt (seq a c) (seq b c))
choice_before a b c = same_through (turned (asked_always [] (alt a b) c)) (same_through (choice_first [] a b (λ x. c)) (same_alt (asked_always [] a c) (asked_always [] b c)))

pub tree_choice_last : {L : Alphabet} {A B C : Type 0} (h : A × B → C) (a : Grammar L A) (b c : Grammar L B) → Same (as_tree h (seq a (alt b c))) (alt (as_tree h (seq a b)) (as_tree h (seq a c)))
tree_choice_last h a b c = same_through (same_as_tree h (choice_last a b c)) (trees_apart h (seq a b) (seq a c))

pub choice_behind : {A : Type 0} (k : Kind) (a b : Grammar tokens A) → Same (k ▸ (a or b)) ((k ▸ a) or (k ▸ b))
choice_behind k a b = tree_choice_last second (one k) a b

pub tree_behind : {A B : Type 0} (k : Kind) (f : A → B) (a : Grammar tokens A) → Same (k ▸ as_tree f a) (as_tree f (k ▸ a))
tree_behind k f a = same_through (tree_second second f (one k) a) (turned (trees_joined f second (seq (one k) a)))

-- what a name that stands first asks for
pub named_part : {L : Alphabet} {A B C : Type 0} (s : List L.Kind) (h : A → B → C) (a : Grammar L A) (b : Grammar L B) → Same (as_tree second (dep a s (λ x. as_tree (h x) b))) (as_tree (λ p. h p.0 p.1) (seq a b))
named_part s h a b =
    same_through (same_as_tree second (tree_asked s h a (λ x. b)))
    (same_through (trees_joined second (λ p. (p.0, h p.0 p.1)) (dep a s (λ x. b))) (same_as_tree (λ p. h p.0 p.1) (asked_always s a b)))

-- the tree of the second part alone
pub tree_inside : {L : Alphabet} {A B C : Type 0} (f : B → C) (a : Grammar L A) (b : Grammar L B) → Same (seq a (as_tree f b)) (as_tree (λ p. (p.0, f p.1)) (seq a b))
tree_inside f a b =
    same_through (turned (asked_always [] a (as_tree f b))) (same_through (tree_asked [] (λ x. f) a (λ x. b)) (same_as_tree (λ p. (p.0, f p.1)) (asked_always [] a b)))

-- of a mark at the place of another
pub mark_out : {L : Alphabet} {A : Type 0} (a b : Grammar L A) → Within (marked (alt (marked a) b)) (alt (marked a) b)
mark_out {L} {A} a b = record { sentences = λ ts x w. w; fronts = front }
  where
    front : (m : Ending L) (ts : List L.Token) → Front (marked (alt (marked a) b)) m ts → Front (alt (marked a) b) m ts
    front m ts (inl w) = inl (inl w)
    front m ts (inr w) = w

-- the tree of a part that asks for another
pub tree_asks : {L : Alphabet} {A B C D : Type 0} (s : List L.Kind) (h : B × C → D) (g : A → B) (a : Grammar L A) (f : B → Grammar L C) → Same (as_tree h (dep (as_tree g a) s f)) (as_tree (λ p. h (g p.0, p.1)) (dep a s (λ x. f (g x))))
tree_asks {L} {A} {B} {C} {D} s h g a f = record { there = record { sentences = there; fronts = fronts_there }; back = record { sentences = back; fronts = fronts_back } }
  where
    there : (ts : List L.Token) (y : D) → Derives (as_tree h (dep (as_tree g a) s f)) ts y → Derives (as_tree (λ p. h (g p.0, p.1)) (dep a s (λ x. f (g x)))) ts y
    there ts y (x, (us, vs, e, (z, w, i), v), j) = ((z, x.1), (us, vs, e, w, subst (λ k. Derives (f k) vs x.1) i v), j ∙ ap (λ k. h (k, x.1)) i)

    back : (ts : List L.Token) (y : D) → Derives (as_tree (λ p. h (g p.0, p.1)) (dep a s (λ x. f (g x)))) ts y → Derives (as_tree h (dep (as_tree g a) s f)) ts y
    back ts y (x, (us, vs, e, w, v), j) = ((g x.0, x.1), (us, vs, e, (x.0, w, refl), v), j)

    fronts_there : (m : Ending L) (ts : List L.Token) → Front (dep (as_tree g a) s f) m ts → Front (dep a s (λ x. f (g x))) m ts
    fronts_there m ts (inl w) = inl w
    fronts_there m ts (inr (x, us, vs, e, (z, w, i), v)) = inr (z, us, vs, e, w, subst (λ k. Front (f k) m vs) i v)

    fronts_back : (m : Ending L) (ts : List L.Token) → Front (dep a s (λ x. f (g x))) m ts → Front (dep (as_tree g a) s f) m ts
    fronts_back m ts (inl w) = inl w
    fronts_back m ts (inr (x, us, vs, e, w, v)) = inr (g x, us, vs, e, (x, w, refl), v)
