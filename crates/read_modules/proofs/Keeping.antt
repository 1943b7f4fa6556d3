-- What the trees of a grammar keep, where its tokens have a property: a rule for each form of grammars.
use Rattle.std.proofs.Common.{◌≡◌, true, Option, None, Some, List, [], ◌∷◌, ◌++◌, sym, subst, inl, inr}
use Rattle.grammar.specs.Grammar.{Alphabet, Grammar, nothing, tok, seq, alt, opt, rep, as_tree, dep, grow, marked, is_in, preceded, listed, any, cons, or_none, second}
use Rattle.grammar.specs.Language.{Derives, steps, last_of}
use Rattle.read_modules.proofs.Each.{Each, Any, Each-left, Each-right}

-- where each token has P, the trees have Q
pub record Keeps {L : Alphabet} {A : Type 0} (P : L.Token → Type 0) (g : Grammar L A) (Q : A → Type 0) : Type 0 where
  pub kept : (ts : List L.Token) (x : A) → Each P ts → Derives g ts x → Q x

-- both halves
split : {A : Type 0} (P : A → Type 0) (ts us vs : List A) → ts ≡ us ++ vs → Each P ts → Each P us × Each P vs
split P ts us vs e h = let k = subst (λ l. Each P l) e h in (Each-left P us vs k, Each-right P us vs k)

pub keeps_nothing : {L : Alphabet} {A : Type 0} {P : L.Token → Type 0} {Q : A → Type 0} (a : A) → Q a → Keeps {L = L} P (nothing a) Q
keeps_nothing {Q = Q} a q = record { kept = λ ts x h d. subst Q (sym d.1) q }

pub keeps_tok : {L : Alphabet} {P Q : L.Token → Type 0} (s : List L.Kind) (p : L.Token → Option L.Rule) → ((t : L.Token) → P t → is_in L t s ≡ true → p t ≡ None → Q t) → Keeps {L = L} P (tok s p) Q
keeps_tok {P = P} s p f = record { kept = λ ts t h d. f t (subst (λ l. Each P l) d.0 h).0 d.1 d.2 }

pub keeps_seq : {L : Alphabet} {A B : Type 0} {P : L.Token → Type 0} {Q : A → Type 0} {R : B → Type 0} (a : Grammar L A) (b : Grammar L B) → Keeps P a Q → Keeps P b R → Keeps P (seq a b) (λ p. Q p.0 × R p.1)
keeps_seq {P = P} a b h k = record { kept = λ ts x all (us, vs, e, l, r). let p = split P ts us vs e all in (h.kept us x.0 p.0 l, k.kept vs x.1 p.1 r) }

pub keeps_alt : {L : Alphabet} {A : Type 0} {P : L.Token → Type 0} {Q : A → Type 0} (a b : Grammar L A) → Keeps P a Q → Keeps P b Q → Keeps P (alt a b) Q
keeps_alt {Q = Q} a b h k = record { kept = λ ts x all d. elim d as (λ _. Q x) [ inl l ↦ h.kept ts x all l | inr r ↦ k.kept ts x all r ] }

opt_kept : {L : Alphabet} {A : Type 0} {P : L.Token → Type 0} {Q : A → Type 0} (a : Grammar L A) → Keeps P a Q → (ts : List L.Token) (x : Option A) → Each P ts → Derives (opt a) ts x → Any Q x
opt_kept a h ts None all d = tt
opt_kept a h ts (Some x) all d = h.kept ts x all d

pub keeps_opt : {L : Alphabet} {A : Type 0} {P : L.Token → Type 0} {Q : A → Type 0} (a : Grammar L A) → Keeps P a Q → Keeps P (opt a) (Any Q)
keeps_opt a h = record { kept = opt_kept a h }

rep_kept : {L : Alphabet} {A : Type 0} {P : L.Token → Type 0} {Q : A → Type 0} (a : Grammar L A) → Keeps P a Q → (ts : List L.Token) (xs : List A) → Each P ts → Derives (rep a) ts xs → Each Q xs
rep_kept a h ts [] all d = tt
rep_kept {P = P} a h ts (x ∷ xs) all (us, vs, e, l, r) = let p = split P ts us vs e all in (h.kept us x p.0 l, rep_kept a h vs xs p.1 r)

pub keeps_rep : {L : Alphabet} {A : Type 0} {P : L.Token → Type 0} {Q : A → Type 0} (a : Grammar L A) → Keeps P a Q → Keeps P (rep a) (Each Q)
keeps_rep a h = record { kept = rep_kept a h }

pub keeps_tree : {L : Alphabet} {A B : Type 0} {P : L.Token → Type 0} {Q : A → Type 0} {R : B → Type 0} (f : A → B) (a : Grammar L A) → Keeps P a Q → ((x : A) → Q x → R (f x)) → Keeps P (as_tree f a) R
keeps_tree {R = R} f a h g = record { kept = λ ts y all (x, d, e). subst R (sym e) (g x (h.kept ts x all d)) }

pub keeps_dep : {L : Alphabet} {A B : Type 0} {P : L.Token → Type 0} {Q : A → Type 0} {R : A → B → Type 0} (a : Grammar L A) (s : List L.Kind) (f : A → Grammar L B) → Keeps P a Q → ((x : A) → Q x → Keeps P (f x) (R x)) → Keeps P (dep a s f) (λ p. Q p.0 × R p.0 p.1)
keeps_dep {P = P} a s f h k = record { kept = λ ts x all (us, vs, e, l, r). let p = split P ts us vs e all in let q = h.kept us x.0 p.0 l in (q, (k x.0 q).kept vs x.1 p.1 r) }

steps_kept : {L : Alphabet} {A : Type 0} {P : L.Token → Type 0} {Q : A → Type 0} (f : A → Grammar L A) → ((x : A) → Q x → Keeps P (f x) Q) → (ts : List L.Token) (x : A) (ys : List A) → Each P ts → Q x → steps (λ y. Derives (f y)) x ys ts → Q (last_of x ys)
steps_kept f h ts x [] all q d = q
steps_kept {P = P} f h ts x (y ∷ ys) all q (us, vs, e, l, r) = let p = split P ts us vs e all in steps_kept f h vs y ys p.1 ((h x q).kept us y p.0 l) r

pub keeps_grow : {L : Alphabet} {A : Type 0} {P : L.Token → Type 0} {Q : A → Type 0} (x : A) (s : List L.Kind) (f : A → Grammar L A) → Q x → ((y : A) → Q y → Keeps P (f y) Q) → Keeps P (grow x s f) Q
keeps_grow {Q = Q} x s f q h = record { kept = λ ts y all (ys, e, d). subst Q (sym e) (steps_kept f h ts x ys all q d) }

pub keeps_marked : {L : Alphabet} {A : Type 0} {P : L.Token → Type 0} {Q : A → Type 0} (a : Grammar L A) → Keeps P a Q → Keeps P (marked a) Q
keeps_marked a h = record { kept = h.kept }

pub keeps_weaker : {L : Alphabet} {A : Type 0} {P : L.Token → Type 0} {Q R : A → Type 0} (a : Grammar L A) → Keeps P a Q → ((x : A) → Q x → R x) → Keeps P a R
keeps_weaker a h f = record { kept = λ ts x all d. f x (h.kept ts x all d) }

-- of any grammar: nothing is said
pub keeps_any : {L : Alphabet} {A : Type 0} {P : L.Token → Type 0} (a : Grammar L A) → Keeps P a (λ _. Unit {0})
keeps_any a = record { kept = λ ts x all d. tt }

-- [ a { s a } ]
pub keeps_listed : {L : Alphabet} {A : Type 0} {P : L.Token → Type 0} {Q : A → Type 0} (s : List L.Kind) (a : Grammar L A) → Keeps P a Q → Keeps P (listed s a) (Each Q)
unfolding listed preceded
keeps_listed {Q = Q} s a h =
    keeps_tree or_none _ (keeps_opt _ (keeps_tree {R = Each Q} cons _ (keeps_seq a (rep (preceded s a)) h (keeps_rep _ (keeps_tree {R = Q} second _ (keeps_seq (tok s any) a (keeps_any _) h) (λ x q. q.1)))) (λ x q. q)))
    (λ x. elim x as (λ o. Any (Each Q) o → Each Q (or_none o)) [ None ↦ λ q. tt | Some xs ↦ λ q. q ])
