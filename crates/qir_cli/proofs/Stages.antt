-- A row of stages comes to one thing where each stage does.
use Rattle.std.proofs.Common.{◌≡◌, Bool, true, false, refl, sym, ap, ◌∙◌, subst, true≢false}
use Rattle.std.specs.Prelude.{Result, Ok, Err}
use Rattle.qir_cli.specs.declared.refusal.Refusal.{Refusal}
use Rattle.qir_cli.specs.Stages.{Then, refuses, leads_on, Is, AtMostOne, AtLeastOne}

module _ {A : Type 0} where
  abbrev succeeds : Result A Refusal → Bool
  succeeds (Ok x) = true
  succeeds (Err why) = false

  abbrev given_or : A → Result A Refusal → A
  given_or d (Ok x) = x
  given_or d (Err why) = d

  abbrev why_or : Refusal → Result A Refusal → Refusal
  why_or d (Ok x) = d
  why_or d (Err why) = why

  abbrev Same : Result A Refusal → Result A Refusal → Type 0
  Same r s = r ≡ s

  pub never-both : {B : Type 0} (x : A) (why : Refusal) → Same (Ok x) (Err why) → B
  never-both x why e = absurd (true≢false (ap succeeds e))

  pub same-given : (x y : A) → Same (Ok x) (Ok y) → x ≡ y
  same-given x y e = ap (given_or x) e

  pub same-why : (v w : Refusal) → Same (Err v) (Err w) → v ≡ w
  same-why v w e = ap (why_or v) e

  pub is-one : (what : Result A Refusal) → AtMostOne (Is what)
  is-one what x y ex ey = ex ∙ sym ey

  pub is-some : (what : Result A Refusal) → AtLeastOne (Is what)
  is-some what = (what, refl)

module _ {A B : Type 0} (first : Result A Refusal → Type 0) (second : A → Result B Refusal → Type 0) where
  pub then-one : AtMostOne first → ((x : A) → first (Ok x) → AtMostOne (second x)) → AtMostOne (Then first second)
  then-one one ones r s (refuses why f) (refuses why' f') = ap Err (same-why why why' (one (Err why) (Err why') f f'))
  then-one one ones r s (refuses why f) (leads_on x end f' g) = never-both x why (one (Ok x) (Err why) f' f)
  then-one one ones r s (leads_on x end f g) (refuses why f') = never-both x why (one (Ok x) (Err why) f f')
  then-one one ones r s (leads_on x end f g) (leads_on y end' f' g') =
      ones x f end end' g (subst (λ z. second z end') (sym (same-given x y (one (Ok x) (Ok y) f f'))) g')

  pub then-some : AtLeastOne first → ((x : A) → first (Ok x) → AtLeastOne (second x)) → AtLeastOne (Then first second)
  then-some some somes = by (some.0) (some.1)
    where
      by : (r : Result A Refusal) → first r → AtLeastOne (Then first second)
      by (Err why) f = (Err why, refuses why f)
      by (Ok x) f = ((somes x f).0, leads_on x (somes x f).0 f (somes x f).1)

-- three stages: the first two may be taken as one
module _ {A B C : Type 0} (first : Result A Refusal → Type 0) (second : A → Result B Refusal → Type 0) (third : B → Result C Refusal → Type 0) where
  abbrev pub Onward : Result B Refusal → Type 0
  Onward (Ok y) = (end : Result C Refusal) → third y end → Then first (λ x. Then (second x) third) end
  Onward (Err why) = Then first (λ x. Then (second x) third) (Err why)

  pub then-onward : (r : Result B Refusal) → Then first second r → Onward r
  then-onward r (refuses why f) = refuses why f
  then-onward r (leads_on x (Ok y) f g) = λ end t. leads_on x end f (leads_on y end g t)
  then-onward r (leads_on x (Err why) f g) = leads_on x (Err why) f (refuses why g)
