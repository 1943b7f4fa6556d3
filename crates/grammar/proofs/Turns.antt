-- What a loop of a hand-written reader has to show, turn by turn: one lemma for each goal.
use Rattle.std.proofs.Common.{◌≡◌, ◌<◌, Bool, true, false, ◌||◌, List, [], ◌∷◌, ◌++◌, length, refl, sym, ap, ◌∙◌, subst, append_assoc}
use Rattle.std.proofs.lemmas.List.{append-nil}
use Rattle.grammar.specs.declared.cursor.Halt.{Halt}
use Rattle.grammar.specs.declared.cursor.Halt.TheVariants.{Memory, At}
use Rattle.grammar.specs.Grammar.{Alphabet, Grammar, tok, any, ignored, rep, grow, as_tree, preceded, listed, begins_with}
use Rattle.grammar.specs.LookAhead.{nullable, firsts, marks, LL1}
use Rattle.grammar.specs.code.Reading.{Out, Got, Stop, then_do, read}
use Rattle.grammar.specs.code.Gives.{Fails}
use Rattle.grammar.proofs.Steps.{shorter, growth_turn, no_growth, stopped_growth}
use Rattle.grammar.proofs.Forms.{preceded_begins, preceded_marks, preceded_decided, listed_first, listed_fails}
use Rattle.grammar.proofs.Loop.{goes_on, ends, fails, or_false_right}

-- a repetition

module _ {L : Alphabet} {A : Type 0} (g : Grammar L A) (p : LL1 g) (c : Bool) (ts : List L.Token) where
  pub repeat_smaller : (x : A) (d : Bool) (us : List L.Token) → begins_with L (firsts g) ts ≡ true → read g c ts ≡ Got x d us → length us < length ts
  repeat_smaller x d us b e = shorter L g p c ts x d us b e

  pub repeat_kept : (vs ws : List A) (v : A) (d : Bool) (us : List L.Token) (all : Out L (List A)) → begins_with L (firsts g) ts ≡ true → read g c ts ≡ Got v d us → ws ≡ vs ++ v ∷ [] → read (as_tree (λ xs. vs ++ xs) (rep g)) c ts ≡ all → read (as_tree (λ xs. ws ++ xs) (rep g)) d us ≡ all
  repeat_kept vs ws v d us all b e n i =
      let one : (xs : List A) → vs ++ v ∷ xs ≡ ws ++ xs = λ xs. sym (append_assoc vs (v ∷ []) xs) ∙ ap (λ z. z ++ xs) (sym n) in
      sym (goes_on L g p (λ xs. vs ++ xs) (λ xs. ws ++ xs) v c ts d us one b e) ∙ i

  pub repeat_ends : (vs : List A) (all : Out L (List A)) → begins_with L (firsts g) ts ≡ false → read (as_tree (λ xs. vs ++ xs) (rep g)) c ts ≡ all → all ≡ Got vs (c || marks g) ts
  repeat_ends vs all b i = sym i ∙ (ends L g p (λ xs. vs ++ xs) c ts b ∙ ap (λ z. Got z (c || marks g) ts) (append-nil vs))

  pub repeat_fails : (vs : List A) (all : Out L (List A)) (e : Halt L.Token L.Rule) → begins_with L (firsts g) ts ≡ true → Fails e (read g c ts) → read (as_tree (λ xs. vs ++ xs) (rep g)) c ts ≡ all → Fails e all
  repeat_fails vs all e b f i = fails L g p (λ xs. vs ++ xs) all c ts e b f i

-- the items of a list that follow the first; r is the test for the separator s

module _ {L : Alphabet} {A : Type 0} (s : L.Kind) (g : Grammar L A) (p : LL1 g) (c : Bool) (ts : List L.Token) (r : Bool) (test : r ≡ begins_with L (s ∷ []) ts) where
  pub more_smaller : (x : A) (d : Bool) (us : List L.Token) → r ≡ true → read (preceded (s ∷ []) g) c ts ≡ Got x d us → length us < length ts
  more_smaller x d us b e = shorter L (preceded (s ∷ []) g) (preceded_decided s g p) c ts x d us (preceded_begins s g ts r true test b) e

  pub more_kept : (vs ws : List A) (v : A) (d : Bool) (us : List L.Token) (all : Out L (List A)) → r ≡ true → read (preceded (s ∷ []) g) c ts ≡ Got v d us → ws ≡ vs ++ v ∷ [] → read (as_tree (λ xs. vs ++ xs) (rep (preceded (s ∷ []) g))) c ts ≡ all → read (as_tree (λ xs. ws ++ xs) (rep (preceded (s ∷ []) g))) d us ≡ all
  more_kept vs ws v d us all b e n i = repeat_kept (preceded (s ∷ []) g) (preceded_decided s g p) c ts vs ws v d us all (preceded_begins s g ts r true test b) e n i

  pub more_ends : (vs : List A) (all : Out L (List A)) → r ≡ false → read (as_tree (λ xs. vs ++ xs) (rep (preceded (s ∷ []) g))) c ts ≡ all → all ≡ Got vs c ts
  more_ends vs all b i =
      repeat_ends (preceded (s ∷ []) g) (preceded_decided s g p) c ts vs all (preceded_begins s g ts r false test b) i
      ∙ ap (λ z. Got vs z ts) (ap (λ z. c || z) (preceded_marks s g) ∙ or_false_right c)

  pub more_fails : (vs : List A) (all : Out L (List A)) (e : Halt L.Token L.Rule) → r ≡ true → Fails e (read (preceded (s ∷ []) g) c ts) → read (as_tree (λ xs. vs ++ xs) (rep (preceded (s ∷ []) g))) c ts ≡ all → Fails e all
  more_fails vs all e b f i = repeat_fails (preceded (s ∷ []) g) (preceded_decided s g p) c ts vs all e (preceded_begins s g ts r true test b) f i

-- a list: its first item x is read up to us, and the items ws follow from the one item v

module _ {L : Alphabet} {A : Type 0} (s : L.Kind) (g : Grammar L A) (some : nullable g ≡ false) (c : Bool) (ts : List L.Token) (x : A) (d : Bool) (us : List L.Token) (b : begins_with L (firsts g) ts ≡ true) (e : read g c ts ≡ Got x d us) (vs : List A) (first : vs ≡ x ∷ []) where
  pub list_read : (all : Out L (List A)) → read (as_tree (λ xs. vs ++ xs) (rep (preceded (s ∷ []) g))) d us ≡ all → read (listed (s ∷ []) g) c ts ≡ all
  list_read all i = listed_first s g some c ts x d us b e ∙ (ap (λ z. read (as_tree (λ xs. z ++ xs) (rep (preceded (s ∷ []) g))) d us) (sym first) ∙ i)

  pub list_fails : (h : Halt L.Token L.Rule) → Fails h (read (as_tree (λ xs. vs ++ xs) (rep (preceded (s ∷ []) g))) d us) → Fails h (read (listed (s ∷ []) g) c ts)
  list_fails h f = listed_fails s g some c ts x d us h b e (subst (λ z. Fails h (read (as_tree (λ xs. z ++ xs) (rep (preceded (s ∷ []) g))) d us)) first f)

-- parts that grow on what was read; z is the tree so far

module _ {L : Alphabet} {A : Type 0} (s : List L.Kind) (f : A → Grammar L A) (p : (z : A) → LL1 (f z)) (z : A) (c : Bool) (ts : List L.Token) where
  pub grow_smaller : (x : A) (d : Bool) (us : List L.Token) → begins_with L (firsts (f z)) ts ≡ true → read (f z) c ts ≡ Got x d us → length us < length ts
  grow_smaller x d us b e = shorter L (f z) (p z) c ts x d us b e

  pub grow_kept : (x : A) (d : Bool) (us : List L.Token) (all : Out L A) → begins_with L (firsts (f z)) ts ≡ true → read (f z) c ts ≡ Got x d us → read (grow z s f) c ts ≡ all → read (grow x s f) d us ≡ all
  grow_kept x d us all b e i = sym (growth_turn L s f p z c ts x d us b e) ∙ i

  pub grow_ends : (all : Out L A) → begins_with L (firsts (f z)) ts ≡ false → read (grow z s f) c ts ≡ all → all ≡ Got z (c || marks (f z)) ts
  grow_ends all b i = sym i ∙ no_growth L s f p z c ts b

  pub grow_fails : (all : Out L A) (e : Halt L.Token L.Rule) → begins_with L (firsts (f z)) ts ≡ true → Fails e (read (f z) c ts) → read (grow z s f) c ts ≡ all → Fails e all
  grow_fails all Memory b h i = tt
  grow_fails all (At w rest) b h i = sym i ∙ stopped_growth L s f p z c ts w rest.now b h

-- a repetition that goes on after nothing

nothing_before : {L : Alphabet} {A : Type 0} (o : Out L (List A)) → then_do o (λ xs d us. Got ([] ++ xs) d us) ≡ o
nothing_before (Got xs d us) = refl
nothing_before (Stop w us) = refl

pub repeat_all : {L : Alphabet} {A : Type 0} (g : Grammar L A) (c : Bool) (ts : List L.Token) → read (as_tree (λ more. [] ++ more) (rep g)) c ts ≡ read (rep g) c ts
repeat_all g c ts = nothing_before (read (rep g) c ts)

-- tokens that are ignored

module _ {L : Alphabet} (s : List L.Kind) (c : Bool) (ts : List L.Token) where
  pub ignore_smaller : (x : L.Token) (d : Bool) (us : List L.Token) → begins_with L s ts ≡ true → read {L = L} (tok s any) c ts ≡ Got x d us → length us < length ts
  ignore_smaller x d us b e = shorter L (tok s any) tt c ts x d us b e

  pub ignore_kept : (x : L.Token) (d : Bool) (us : List L.Token) (all : Out L (Unit {0})) → begins_with L s ts ≡ true → read {L = L} (tok s any) c ts ≡ Got x d us → read {L = L} (ignored s) c ts ≡ all → read {L = L} (ignored s) d us ≡ all
  unfolding ignored
  ignore_kept x d us all b e i = sym (goes_on L (tok s any) tt (λ _. tt) (λ _. tt) x c ts d us (λ xs. refl) b e) ∙ i

  pub ignore_ends : (all : Out L (Unit {0})) → begins_with L s ts ≡ false → read {L = L} (ignored s) c ts ≡ all → all ≡ Got tt c ts
  unfolding ignored
  ignore_ends all b i = sym i ∙ (ends L (tok s any) tt (λ _. tt) c ts b ∙ ap (λ z. Got tt z ts) (or_false_right c))

  pub ignore_fails : (all : Out L (Unit {0})) (e : Halt L.Token L.Rule) → begins_with L s ts ≡ true → Fails {L = L} e (read {L = L} (tok s any) c ts) → read {L = L} (ignored s) c ts ≡ all → Fails {L = L} e all
  unfolding ignored
  ignore_fails all e b f i = fails L (tok s any) tt (λ _. tt) all c ts e b f i
