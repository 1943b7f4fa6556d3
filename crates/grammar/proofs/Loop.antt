-- The turns of a loop that reads a repetition.
use Rattle.std.proofs.Common.{◌≡◌, Bool, true, false, ◌||◌, List, [], ◌∷◌, refl, sym, ap, ◌∙◌}
use Rattle.grammar.specs.Grammar.{Alphabet, Grammar, rep, as_tree, begins_with}
use Rattle.grammar.specs.LookAhead.{firsts, marks, LL1}
use Rattle.grammar.specs.code.Reading.{Out, Got, Stop, then_do, read}
use Rattle.grammar.specs.declared.cursor.Halt.{Halt}
use Rattle.grammar.specs.declared.cursor.Halt.TheVariants.{Memory, At}
use Rattle.grammar.specs.code.Gives.{Fails}
use Rattle.grammar.proofs.Steps.{turn, no_turn, stopped_turn}

pub or_false_right : (c : Bool) → (c || false) ≡ c
or_false_right true = refl
or_false_right false = refl

module _ (L : Alphabet) where
  regrouped : {A B : Type 0} (o : Out L (List A)) (x : A) (f k : List A → B) → ((xs : List A) → f (x ∷ xs) ≡ k xs) → then_do (then_do o (λ xs e vs. Got (x ∷ xs) e vs)) (λ xs d us. Got (f xs) d us) ≡ then_do o (λ xs d us. Got (k xs) d us)
  regrouped (Got xs d us) x f k h = ap (λ z. Got z d us) (h xs)
  regrouped (Stop w us) x f k h = refl

  module _ {A B : Type 0} (g : Grammar L A) (p : LL1 g) where
    pub goes_on : (f k : List A → B) (x : A) (c : Bool) (ts : List L.Token) (d : Bool) (us : List L.Token) → ((xs : List A) → f (x ∷ xs) ≡ k xs) → begins_with L (firsts g) ts ≡ true → read g c ts ≡ Got x d us → read (as_tree f (rep g)) c ts ≡ read (as_tree k (rep g)) d us
    goes_on f k x c ts d us h b e = ap (λ o. then_do o (λ xs d us. Got (f xs) d us)) (turn L g p c ts x d us b e) ∙ regrouped (read (rep g) d us) x f k h

    pub ends : (f : List A → B) (c : Bool) (ts : List L.Token) → begins_with L (firsts g) ts ≡ false → read (as_tree f (rep g)) c ts ≡ Got (f []) (c || marks g) ts
    ends f c ts b = ap (λ o. then_do o (λ xs d us. Got (f xs) d us)) (no_turn L g c ts b)

    pub fails : (f : List A → B) (all : Out L B) (c : Bool) (ts : List L.Token) (e : Halt L.Token L.Rule) → begins_with L (firsts g) ts ≡ true → Fails e (read g c ts) → read (as_tree f (rep g)) c ts ≡ all → Fails e all
    fails f all c ts Memory b i j = tt
    fails f all c ts (At w rest) b i j = sym j ∙ ap (λ o. then_do o (λ xs d us. Got (f xs) d us)) (stopped_turn L g c ts w rest.now b i)
