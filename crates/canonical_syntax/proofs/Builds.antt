-- What is printed of a production is a sentence of it: one lemma a form of grammars.
use Rattle.std.specs.Prelude.{nat_eq}
use Rattle.std.specs.List.{flat_map}
use Rattle.std.proofs.Common.{◌≡◌, ℕ, true, false, Option, None, Some, List, [], ◌∷◌, ◌++◌, map, refl, sym, ap, subst, ◌∙◌, inl, inr, append-nil, append_assoc}
use Rattle.std.proofs.lemmas.Bool.{or_left, eq-eqb}
use Rattle.grammar.specs.Grammar.{Grammar, nothing, tok, seq, alt, opt, rep, as_tree, dep, grow, grown, marked, any, has, cons, or_none, listed, preceded}
use Rattle.grammar.specs.Language.{Derives, steps, last_of}
use Rattle.ir_text.specs.declared.tok.Tok.{Tok}
use Rattle.ir_text.specs.declared.tok.Tok.TheVariants.{Sign}
use Rattle.ir_tokens.specs.Classified.{kind_of}
use Rattle.ir_tokens.specs.Tokens.{tokens}
use Rattle.ir_tokens.specs.code.Kinds.{code}
use Rattle.ir_tokens.specs.declared.kind.Kind.{Kind}
use Rattle.ir_tokens.specs.declared.kind.Kind.TheVariants as kind
use Rattle.ir_tokens.specs.declared.rule.Rule.{Rule}
use Rattle.ir_tokens.specs.declared.token.Token.{Token}
use Rattle.ir_grammar.specs.Forms.{one, ◌▸◌, ◌◂◌, commas}
use Rattle.ir_parts.specs.Parts.{Part, gap, token}
use Rattle.ir_printer.specs.Pieces.{comma, further, listed as listed_parts}
use Rattle.read_modules.proofs.Each.{Each}
use Rattle.canonical_syntax.specs.Builds.{IsSpelled, Reads, Builds}

-- tokens of parts in two pieces
pub reads_append : (spelling : Token → List ℕ) (xs ys : List Part) (ts : List Token) → Reads spelling (xs ++ ys) ts → (us vs : List Token) × (ts ≡ us ++ vs) × Reads spelling xs us × Reads spelling ys vs
reads_append spelling [] ys ts h = ([], ts, refl, refl, h)
reads_append spelling (gap s ∷ xs) ys ts h = reads_append spelling xs ys ts h
reads_append spelling (token k s ∷ xs) ys [] h = absurd h
reads_append spelling (token k s ∷ xs) ys (t ∷ ts) h =
    let w = reads_append spelling xs ys ts h.1 in
    (t ∷ w.0, w.1, ap (λ x. t ∷ x) w.2, (h.0, w.3), w.4)

pub has_itself : (k : Kind) → has tokens (k ∷ []) k ≡ true
has_itself k = or_left (nat_eq (code k) (code k)) false (eq-eqb (code k) (code k) refl)

-- trees that stand for these items, one for each
abbrev pub Stand : {A X : Type 0} → (X → A → Type 0) → List X → List A → Type 0
Stand R [] [] = Unit {0}
Stand R [] (y ∷ ys) = ⊥
Stand R (x ∷ xs) [] = ⊥
Stand R (x ∷ xs) (y ∷ ys) = R x y × Stand R xs ys

abbrev pub IsSomeOf : {A : Type 0} → (A → Type 0) → Option A → Type 0
IsSomeOf P None = ⊥
IsSomeOf P (Some x) = P x

-- steps, and one more
last_more : {A : Type 0} (x y : A) (zs : List A) → last_of x (zs ++ y ∷ []) ≡ y
last_more x y [] = refl
last_more x y (z ∷ zs) = last_more z y zs

steps_more : {A : Type 0} (f : A → Grammar tokens A) (x y : A) (zs : List A) (us vs : List Token) → steps (λ z. Derives (f z)) x zs us → Derives (f (last_of x zs)) vs y → steps (λ z. Derives (f z)) x (zs ++ y ∷ []) (us ++ vs)
steps_more f x y [] us vs w d = (vs, [], ap (λ l. l ++ vs) w ∙ sym (append-nil vs), d, refl)
steps_more f x y (z ∷ zs) us vs (bs, cs, e, d, w) v = (bs, cs ++ vs, ap (λ l. l ++ vs) e ∙ append_assoc bs cs vs, d, steps_more f z y zs cs vs w v)

-- each behind a comma
further_is : {X : Type 0} (f : X → List Part) (xs : List X) → flat_map (λ x. comma ++ f x) xs ≡ further (map f xs)
further_is f [] = refl
further_is f (x ∷ xs) = ap (λ l. comma ++ (f x ++ l)) (further_is f xs)

-- parts that growth goes over, from the tree x on
pub record Grows {A : Type 0} (spelling : Token → List ℕ) (f : A → Grammar tokens A) (x : A) (ps : List Part) (P : A → Type 0) : Type 0 where
  pub grows : (ts : List Token) → Reads spelling ps ts → (ys : List A) × steps (λ y. Derives (f y)) x ys ts × P (last_of x ys)

module _ {spelling : Token → List ℕ} where
  -- tokens

  pub builds_tok : {P : Token → Type 0} {r : Token → Option Rule} (ks : List Kind) (sort : Tok) (s : List ℕ)
      → ((t : Token) → IsSpelled spelling sort s t → (has tokens ks t.kind ≡ true) × (r t ≡ None) × P t) → Builds spelling (tok ks r) (token sort s ∷ []) P
  builds_tok {P = P} {r = r} ks sort s h = record { built = go }
    where
      go : (ts : List Token) → Reads spelling (token sort s ∷ []) ts → (x : Token) × Derives {L = tokens} (tok ks r) ts x × P x
      go [] w = absurd w
      go (t ∷ ts) w = let f = h t w.0 in (t, (ap (λ l. t ∷ l) w.1, f.0, f.1), f.2)

  -- a token of one of these kinds
  pub builds_any : (ks : List Kind) (k : Kind) (sort : Tok) (s : List ℕ) → kind_of sort s ≡ k → has tokens ks k ≡ true → Builds spelling (tok ks any) (token sort s ∷ []) (λ t. (t.kind ≡ k) × IsSpelled spelling sort s t)
  builds_any ks k sort s e h = builds_tok ks sort s (λ t w. (subst (λ j. has tokens ks j ≡ true) (sym (w.kind ∙ e)) h, refl, (w.kind ∙ e, w)))

  pub builds_one : (k : Kind) (sort : Tok) (s : List ℕ) → kind_of sort s ≡ k → Builds spelling (one k) (token sort s ∷ []) (λ t. (t.kind ≡ k) × IsSpelled spelling sort s t)
  builds_one k sort s e = builds_any (k ∷ []) k sort s e (has_itself k)

  -- one after the other

  pub builds_gap : {A : Type 0} {g : Grammar tokens A} {ps : List Part} {P : A → Type 0} (s : List ℕ) → Builds spelling g ps P → Builds spelling g (gap s ∷ ps) P
  builds_gap s f = record { built = f.built }

  -- blanks behind a sentence
  pub builds_trail : {A : Type 0} {g : Grammar tokens A} {ps : List Part} {P : A → Type 0} (s : List ℕ) → Builds spelling g ps P → Builds spelling g (ps ++ gap s ∷ []) P
  builds_trail {A = A} {g = g} {ps = ps} {P = P} s f = record {
    built = λ ts r.
        let w = reads_append spelling ps (gap s ∷ []) ts r in
        let e : w.0 ≡ ts = sym (w.2 ∙ (ap (λ l. w.0 ++ l) w.4 ∙ append-nil w.0)) in
        let x = f.built w.0 w.3 in
        (x.0, subst (λ l. Derives g l x.0) e x.1, x.2);
  }

  pub builds_nothing : {A : Type 0} {P : A → Type 0} (x : A) → P x → Builds spelling (nothing x) [] P
  builds_nothing x p = record { built = λ ts r. (x, (r, refl), p) }

  pub builds_dep : {A B : Type 0} {a : Grammar tokens A} {ks : List Kind} {b : A → Grammar tokens B} {P : A → Type 0} {Q : A → B → Type 0} {xs ys : List Part} → Builds spelling a xs P → ((x : A) → P x → Builds spelling (b x) ys (Q x)) → Builds spelling (dep a ks b) (xs ++ ys) (λ p. P p.0 × Q p.0 p.1)
  builds_dep {xs = xs} {ys = ys} f g = record {
    built = λ ts r.
        let w = reads_append spelling xs ys ts r in
        let x = f.built w.0 w.3 in
        let y = (g x.0 x.2).built w.1 w.4 in
        ((x.0, y.0), (w.0, w.1, w.2, x.1, y.1), (x.2, y.2));
  }

  pub builds_seq : {A B : Type 0} {a : Grammar tokens A} {b : Grammar tokens B} {P : A → Type 0} {Q : B → Type 0} {xs ys : List Part} → Builds spelling a xs P → Builds spelling b ys Q → Builds spelling (seq a b) (xs ++ ys) (λ p. P p.0 × Q p.1)
  builds_seq {xs = xs} {ys = ys} f g = record {
    built = λ ts r.
        let w = reads_append spelling xs ys ts r in
        let x = f.built w.0 w.3 in
        let y = g.built w.1 w.4 in
        ((x.0, y.0), (w.0, w.1, w.2, x.1, y.1), (x.2, y.2));
  }

  -- where nothing is printed of the second
  pub builds_alone : {A B : Type 0} {a : Grammar tokens A} {b : Grammar tokens B} {P : A → Type 0} {Q : B → Type 0} {ps : List Part} → Builds spelling a ps P → Builds spelling b [] Q → Builds spelling (seq a b) ps (λ p. P p.0 × Q p.1)
  builds_alone f g = record {
    built = λ ts r.
        let x = f.built ts r in
        let y = g.built [] refl in
        ((x.0, y.0), (ts, [], sym (append-nil ts), x.1, y.1), (x.2, y.2));
  }

  pub builds_as : {A B : Type 0} {h : A → B} {a : Grammar tokens A} {P : A → Type 0} {Q : B → Type 0} {ps : List Part} → Builds spelling a ps P → ((x : A) → P x → Q (h x)) → Builds spelling (as_tree h a) ps Q
  builds_as {h = h} f k = record { built = λ ts r. let x = f.built ts r in (h x.0, (x.0, x.1, refl), k x.0 x.2) }

  pub builds_weaker : {A : Type 0} {a : Grammar tokens A} {P Q : A → Type 0} {ps : List Part} → Builds spelling a ps P → ((x : A) → P x → Q x) → Builds spelling a ps Q
  builds_weaker f k = record { built = λ ts r. let x = f.built ts r in (x.0, x.1, k x.0 x.2) }

  -- the same parts, grouped otherwise
  pub builds_same : {A : Type 0} {a : Grammar tokens A} {P : A → Type 0} {ps qs : List Part} → ps ≡ qs → Builds spelling a ps P → Builds spelling a qs P
  builds_same {a = a} {P = P} e f = subst (λ l. Builds spelling a l P) e f

  -- a token without a part in the tree, and then a sentence
  pub behind : {A : Type 0} {a : Grammar tokens A} {P : A → Type 0} {ps : List Part} (k : Kind) (sort : Tok) (s : List ℕ) → kind_of sort s ≡ k → Builds spelling a ps P → Builds spelling (k ▸ a) (token sort s ∷ ps) P
  behind k sort s e f = builds_as (builds_seq (builds_one k sort s e) f) (λ p w. w.1)

  -- a sentence, and then a token without a part in the tree
  pub before : {A : Type 0} {a : Grammar tokens A} {P : A → Type 0} {ps : List Part} (k : Kind) (sort : Tok) (s : List ℕ) → kind_of sort s ≡ k → Builds spelling a ps P → Builds spelling (a ◂ k) (ps ++ token sort s ∷ []) P
  before k sort s e f = builds_as (builds_seq f (builds_one k sort s e)) (λ p w. w.0)

  -- two such tokens
  pub before_both : {A : Type 0} {a : Grammar tokens A} {P : A → Type 0} {ps : List Part} (k l : Kind) (sort sort' : Tok) (s s' : List ℕ) → kind_of sort s ≡ k → kind_of sort' s' ≡ l → Builds spelling a ps P → Builds spelling (a ◂ k ◂ l) (ps ++ token sort s ∷ token sort' s' ∷ []) P
  before_both {ps = ps} k l sort sort' s s' e e' f = builds_same (append_assoc ps (token sort s ∷ []) (token sort' s' ∷ [])) (before l sort' s' e' (before k sort s e f))

  -- a sentence, such a token, and a sentence
  pub between : {A B : Type 0} {a : Grammar tokens A} {b : Grammar tokens B} {P : A → Type 0} {Q : B → Type 0} {xs ys : List Part} (k : Kind) (sort : Tok) (s : List ℕ) → kind_of sort s ≡ k → Builds spelling a xs P → Builds spelling b ys Q → Builds spelling (seq (a ◂ k) b) (xs ++ token sort s ∷ ys) (λ p. P p.0 × Q p.1)
  between {xs = xs} {ys = ys} k sort s e f g = builds_same (append_assoc xs (token sort s ∷ []) ys) (builds_seq (before k sort s e f) g)

  -- choices

  pub builds_left : {A : Type 0} {a b : Grammar tokens A} {P : A → Type 0} {ps : List Part} → Builds spelling a ps P → Builds spelling (alt a b) ps P
  builds_left f = record { built = λ ts r. let x = f.built ts r in (x.0, inl x.1, x.2) }

  pub builds_right : {A : Type 0} {a b : Grammar tokens A} {P : A → Type 0} {ps : List Part} → Builds spelling b ps P → Builds spelling (alt a b) ps P
  builds_right f = record { built = λ ts r. let x = f.built ts r in (x.0, inr x.1, x.2) }

  pub builds_marked : {A : Type 0} {a : Grammar tokens A} {P : A → Type 0} {ps : List Part} → Builds spelling a ps P → Builds spelling (marked a) ps P
  builds_marked f = record { built = f.built }

  pub builds_none : {A : Type 0} {a : Grammar tokens A} → Builds spelling (opt a) [] (λ o. o ≡ None)
  builds_none = record { built = λ ts r. (None, r, refl) }

  pub builds_some : {A : Type 0} {a : Grammar tokens A} {P : A → Type 0} {ps : List Part} → Builds spelling a ps P → Builds spelling (opt a) ps (IsSomeOf P)
  builds_some f = record { built = λ ts r. let x = f.built ts r in (Some x.0, x.1, x.2) }

  -- repetitions

  pub builds_rep : {A X : Type 0} {a : Grammar tokens A} (f : X → List Part) (R : X → A → Type 0) (xs : List X) → Each (λ x. Builds spelling a (f x) (R x)) xs → Builds spelling (rep a) (flat_map f xs) (Stand R xs)
  builds_rep f R [] h = record { built = λ ts r. ([], r, tt) }
  builds_rep f R (x ∷ xs) h = record {
    built = λ ts r.
        let w = reads_append spelling (f x) (flat_map f xs) ts r in
        let y = h.0.built w.0 w.3 in
        let ys = (builds_rep f R xs h.1).built w.1 w.4 in
        (y.0 ∷ ys.0, (w.0, w.1, w.2, y.1, ys.1), (y.2, ys.2));
  }

  -- none of a repetition
  pub builds_never : {A : Type 0} {a : Grammar tokens A} → Builds spelling (rep a) [] (λ xs. xs ≡ [])
  builds_never = record { built = λ ts r. ([], r, refl) }

  -- [ a { "," a } ]
  pub builds_commas : {A X : Type 0} (a : Grammar tokens A) (f : X → List Part) (R : X → A → Type 0) (xs : List X) → Each (λ x. Builds spelling a (f x) (R x)) xs → Builds spelling (commas a) (listed_parts (map f xs)) (Stand R xs)
  unfolding listed preceded
  builds_commas a f R [] h = record { built = λ ts r. ([], (None, r, refl), tt) }
  builds_commas a f R (x ∷ xs) h =
      builds_as {Q = Stand R (x ∷ xs)} (builds_some (builds_as {Q = Stand R (x ∷ xs)} (builds_seq h.0 (builds_same (further_is f xs) (builds_rep (λ x. comma ++ f x) R xs (each xs h.1)))) (λ p w. w)))
      (λ o. elim o as (λ o. IsSomeOf (Stand R (x ∷ xs)) o → Stand R (x ∷ xs) (or_none o)) [ None ↦ λ w. absurd w | Some ys ↦ λ w. w ])
    where
      each : (ys : List _) → Each (λ x. Builds spelling a (f x) (R x)) ys → Each (λ x. Builds spelling (preceded (kind.Comma ∷ []) a) (comma ++ f x) (R x)) ys
      each [] h = tt
      each (y ∷ ys) h = (builds_as (builds_seq (builds_any (kind.Comma ∷ []) kind.Comma Sign (44 ∷ []) refl refl) (builds_gap (32 ∷ []) h.0)) (λ p w. w.1), each ys h.1)

  -- a { "," a }
  pub builds_list : {A X : Type 0} (a : Grammar tokens A) (f : X → List Part) (R : X → A → Type 0) (x : X) (xs : List X) → Each (λ x. Builds spelling a (f x) (R x)) (x ∷ xs) → Builds spelling (as_tree cons (seq a (rep (kind.Comma ▸ a)))) (listed_parts (map f (x ∷ xs))) (Stand R (x ∷ xs))
  builds_list a f R x xs h = builds_as (builds_seq h.0 (builds_same (further_is f xs) (builds_rep (λ x. comma ++ f x) R xs (each xs h.1)))) (λ p w. w)
    where
      each : (ys : List _) → Each (λ x. Builds spelling a (f x) (R x)) ys → Each (λ x. Builds spelling (kind.Comma ▸ a) (comma ++ f x) (R x)) ys
      each [] h = tt
      each (y ∷ ys) h = (behind kind.Comma Sign (44 ∷ []) refl (builds_gap (32 ∷ []) h.0), each ys h.1)

  -- growth

  pub grows_none : {A : Type 0} {f : A → Grammar tokens A} {x : A} {P : A → Type 0} → P x → Grows spelling f x [] P
  grows_none p = record { grows = λ ts r. ([], r, p) }

  pub grows_more : {A : Type 0} {f : A → Grammar tokens A} {x : A} {P Q : A → Type 0} {xs ys : List Part} → Builds spelling (f x) xs P → ((y : A) → P y → Grows spelling f y ys Q) → Grows spelling f x (xs ++ ys) Q
  grows_more {xs = xs} {ys = ys} h k = record {
    grows = λ ts r.
        let w = reads_append spelling xs ys ts r in
        let y = h.built w.0 w.3 in
        let z = (k y.0 y.2).grows w.1 w.4 in
        (y.0 ∷ z.0, (w.0, w.1, w.2, y.1, z.1), z.2);
  }

  pub grows_weaker : {A : Type 0} {f : A → Grammar tokens A} {x : A} {P Q : A → Type 0} {ps : List Part} → Grows spelling f x ps P → ((y : A) → P y → Q y) → Grows spelling f x ps Q
  grows_weaker h k = record { grows = λ ts r. let w = h.grows ts r in (w.0, w.1, k _ w.2) }

  pub grows_same : {A : Type 0} {f : A → Grammar tokens A} {x : A} {P : A → Type 0} {ps qs : List Part} → ps ≡ qs → Grows spelling f x ps P → Grows spelling f x qs P
  grows_same {f = f} {x = x} {P = P} e h = subst (λ l. Grows spelling f x l P) e h

  pub builds_grow : {A : Type 0} {f : A → Grammar tokens A} {x : A} {ks : List Kind} {P : A → Type 0} {ps : List Part} → Grows spelling f x ps P → Builds spelling (grow x ks f) ps P
  builds_grow {x = x} h = record { built = λ ts r. let w = h.grows ts r in (last_of x w.0, (w.0, refl, w.1), w.2) }

  -- a sentence on which nothing grows, and one on which one part more grows
  pub grown_first : {A : Type 0} {a : Grammar tokens A} {ks : List Kind} {f : A → Grammar tokens A} {P : A → Type 0} {ps : List Part} → Builds spelling a ps P → Builds spelling (grown a ks f) ps P
  grown_first h = record { built = λ ts r. let x = h.built ts r in (x.0, ((x.0, x.0), (ts, [], sym (append-nil ts), x.1, ([], refl, refl)), refl), x.2) }

  pub grown_more : {A : Type 0} {a : Grammar tokens A} {ks : List Kind} {f : A → Grammar tokens A} {P Q : A → Type 0} {xs ys : List Part} → Builds spelling (grown a ks f) xs P → ((x : A) → P x → Builds spelling (f x) ys Q) → Builds spelling (grown a ks f) (xs ++ ys) Q
  grown_more {A = A} {a = a} {ks = ks} {f = f} {P = P} {Q = Q} {xs = xs} {ys = ys} h k = record {
    built = λ ts r.
        let w = reads_append spelling xs ys ts r in
        let x = h.built w.0 w.3 in
        let y = (k x.0 x.2).built w.1 w.4 in
        (y.0, more ts w.0 w.1 x.0 y.0 w.2 x.1 y.1, y.2);
  }
    where
      more : (ts us vs : List Token) (x y : A) → ts ≡ us ++ vs → Derives (grown a ks f) us x → Derives (f x) vs y → Derives (grown a ks f) ts y
      more ts us vs x y e (p, (bs, cs, i, d, (zs, l, w)), j) v =
          let at : last_of p.0 zs ≡ x = sym l ∙ sym j in
          ((p.0, y), (bs, cs ++ vs, e ∙ ap (λ l. l ++ vs) i ∙ append_assoc bs cs vs, d, (zs ++ y ∷ [], sym (last_more p.0 y zs), steps_more f p.0 y zs cs vs w (subst (λ z. Derives (f z) vs y) (sym at) v))), refl)
