-- What reading all of the tokens answers.
use Rattle.std.specs.Prelude.{Ok, Err, nat_eq}
use Rattle.std.proofs.Common.{◌≡◌, ◌-◌, ◌≤◌, Bool, true, false, List, [], ◌∷◌, length, refl, ap, ◌∙◌, subst, arith}
use Rattle.std.proofs.lemmas.Bool.Decides.{nat_tests}
use Rattle.grammar.specs.declared.fault.Fault.{Fault}
use Rattle.grammar.specs.declared.fault.Fault.TheVariants.{Unexpected}
use Rattle.grammar.specs.Grammar.{Alphabet, Grammar}
use Rattle.grammar.specs.LookAhead.{LL1}
use Rattle.grammar.specs.Language.{Holds}
use Rattle.grammar.specs.code.Reading.{Got, Stop, read, answered}
use Rattle.grammar.proofs.Going.{Shrunk, shrinks}
use Rattle.grammar.proofs.Answer.{answer_holds}

module _ {L : Alphabet} {A : Type 0} (g : Grammar L A) (p : LL1 g) (ts : List L.Token) where
  pub stop_holds : (w : Fault L.Rule) (us : List L.Token) → read g false ts ≡ Stop w us → Holds g ts (Err (w, length ts - length us))
  stop_holds w us e = subst (Holds g ts) (ap (answered ts) e) (answer_holds L g p ts)

  pub all_holds : (x : A) (d : Bool) (us : List L.Token) → read g false ts ≡ Got x d us → us ≡ [] → Holds g ts (Ok x)
  all_holds x d us e n = subst (Holds g ts) (ap (answered ts) (e ∙ ap (λ z. Got x d z) n)) (answer_holds L g p ts)

  pub more_holds : (x : A) (d : Bool) (us : List L.Token) → read g false ts ≡ Got x d us → (us ≡ [] → ⊥) → Holds g ts (Err (Unexpected d, length ts - length us))
  more_holds x d [] e n = absurd (n refl)
  more_holds x d (t ∷ us) e n = subst (Holds g ts) (ap (answered ts) e) (answer_holds L g p ts)

  pub stop_short : (w : Fault L.Rule) (us : List L.Token) → read g false ts ≡ Stop w us → length us ≤ length ts
  stop_short w us e = subst (Shrunk L ts) e (shrinks L g false ts)

  pub got_short : (x : A) (d : Bool) (us : List L.Token) → read g false ts ≡ Got x d us → length us ≤ length ts
  got_short x d us e = subst (Shrunk L ts) e (shrinks L g false ts)

pub no_length : {T : Type 0} (us : List T) → nat_eq (length us) 0 ≡ true → us ≡ []
no_length [] e = refl
no_length (t ∷ us) e = absurd (grind (arith, nat_tests))

pub some_length : {T : Type 0} (us : List T) → nat_eq (length us) 0 ≡ false → us ≡ [] → ⊥
some_length [] e h = cc
some_length (t ∷ us) e h = cc
