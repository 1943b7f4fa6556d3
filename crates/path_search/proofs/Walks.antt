-- Where paths lead, their prefixes, and simple paths.
use Rattle.std.proofs.Common.{◌≡◌, ℕ, List, [], ◌∷◌, ◌++◌, Option, Some, None, refl, sym, ap, ◌∙◌, subst, append_assoc}
use Rattle.std.specs.Prelude.{slice_get}
use Rattle.std.specs.Option.{option_and_then}
use Rattle.std.proofs.lemmas.Option.{none-some, same_Some}
use mathlib.Core.Logic.{◌⊎◌, inl, inr}
use Rattle.path_search.specs.Paths.{Search, successors, end_from, IsEnd, IsBefore, IsPrefix, IsSimple, LiesOn}
use Rattle.path_search.proofs.Order.{trans, before_more}

pub app_nil : {A : Type 0} (xs : List A) → xs ++ [] ≡ xs
app_nil [] = refl
app_nil (x ∷ xs) = ap (λ ys. x ∷ ys) (app_nil xs)

then_then : {A B C : Type 0} (f : A → Option B) (g : B → Option C) (o : Option A) → option_and_then (λ a. option_and_then g (f a)) o ≡ option_and_then g (option_and_then f o)
then_then f g None = refl
then_then f g (Some x) = refl

then_some : {A : Type 0} (o : Option A) → option_and_then (λ x. Some x) o ≡ o
then_some None = refl
then_some (Some x) = refl

then_same : {A B : Type 0} (f g : A → Option B) (o : Option A) → ((x : A) → f x ≡ g x) → option_and_then f o ≡ option_and_then g o
then_same f g None h = refl
then_same f g (Some x) h = h x

pub record Through {A B : Type 0} (f : A → Option B) (o : Option A) (y : B) : Type 0 where
  pub by : A
  pub is : o ≡ Some by
  pub gives : f by ≡ Some y

pub through : {A B : Type 0} (f : A → Option B) (o : Option A) (y : B) → option_and_then f o ≡ Some y → Through f o y
through f None y e = absurd (none-some y e)
through f (Some x) y e = record { by = x; is = refl; gives = e }

module _ {N K : Type 0} (s : Search N K) where
  pub end_append : (a : N) (p q : List ℕ) → end_from s a (p ++ q) ≡ option_and_then (λ b. end_from s b q) (end_from s a p)
  unfolding end_from
  end_append a [] q = refl
  end_append a (i ∷ p) q =
      then_same (λ b. end_from s b (p ++ q)) (λ b. option_and_then (λ c. end_from s c q) (end_from s b p)) (slice_get (successors s a) i) (λ b. end_append b p q)
      ∙ then_then (λ b. end_from s b p) (λ c. end_from s c q) (slice_get (successors s a) i)

  pub end_on : (a b : N) (p q : List ℕ) → end_from s a p ≡ Some b → end_from s a (p ++ q) ≡ end_from s b q
  end_on a b p q e = end_append a p q ∙ ap (option_and_then (λ c. end_from s c q)) e

  pub end_front : (a c : N) (p q : List ℕ) → end_from s a (p ++ q) ≡ Some c → Through (λ b. end_from s b q) (end_from s a p) c
  end_front a c p q e = through (λ b. end_from s b q) (end_from s a p) c (sym (end_append a p q) ∙ e)

  pub end_none : (a : N) → end_from s a [] ≡ Some a
  unfolding end_from
  end_none a = refl

  pub end_one : (a : N) (i : ℕ) → end_from s a (i ∷ []) ≡ slice_get (successors s a) i
  unfolding end_from
  end_one a i = then_some (slice_get (successors s a) i)

  pub end_cons : (a c : N) (i : ℕ) (p : List ℕ) → end_from s a (i ∷ p) ≡ Some c → Through (λ b. end_from s b p) (slice_get (successors s a) i) c
  unfolding end_from
  end_cons a c i p e = through (λ b. end_from s b p) (slice_get (successors s a) i) c e

  pub end_put : (a b : N) (i : ℕ) (p : List ℕ) → slice_get (successors s a) i ≡ Some b → end_from s a (i ∷ p) ≡ end_from s b p
  unfolding end_from
  end_put a b i p e = ap (option_and_then (λ c. end_from s c p)) e

  pub one_end : (a b c : N) (p : List ℕ) → end_from s a p ≡ Some b → end_from s a p ≡ Some c → b ≡ c
  one_end a b c p e f = same_Some b c (sym e ∙ f)

  pub end_push : (p : List ℕ) (a b : N) (i : ℕ) → IsEnd s p a → slice_get (successors s a) i ≡ Some b → IsEnd s (p ++ i ∷ []) b
  end_push p a b i e f = end_on s.start a p (i ∷ []) e ∙ end_one a i ∙ f

pub prefix_self : (p : List ℕ) → IsPrefix p p
prefix_self p = record { rest = []; whole = sym (app_nil p) }

pub prefix_more : (p r : List ℕ) → IsPrefix p (p ++ r)
prefix_more p r = record { rest = r; whole = refl }

pub prefix_trans : (a b c : List ℕ) → IsPrefix a b → IsPrefix b c → IsPrefix a c
prefix_trans a b c h k = record { rest = h.rest ++ k.rest; whole = k.whole ∙ ap (λ x. x ++ k.rest) h.whole ∙ append_assoc a h.rest k.rest }

pub prefix_none : (a : List ℕ) → IsPrefix a [] → a ≡ []
prefix_none [] h = refl
prefix_none (x ∷ a) h = let e = h.whole in cc

pub data Heads (i : ℕ) (p : List ℕ) : List ℕ → Type 0 where
  nothing : Heads i p []
  along : {x : List ℕ} → IsPrefix x p → Heads i p (i ∷ x)

pub prefix_cons : (i : ℕ) (p a : List ℕ) → IsPrefix a (i ∷ p) → Heads i p a
prefix_cons i p [] h = nothing
prefix_cons i p (j ∷ a) h = let e : i ≡ j = cc (h.whole) in subst (λ k. Heads i p (k ∷ a)) e (along (record { rest = h.rest; whole = cc (h.whole) }))

pub prefix_put : (i : ℕ) (p a : List ℕ) → IsPrefix a p → IsPrefix (i ∷ a) (i ∷ p)
prefix_put i p a h = record { rest = h.rest; whole = ap (λ x. i ∷ x) h.whole }

pub prefix_push : (a p : List ℕ) (i : ℕ) → IsPrefix a (p ++ i ∷ []) → IsPrefix a p ⊎ (a ≡ p ++ i ∷ [])
prefix_push [] p i h = inl (record { rest = p; whole = refl })
prefix_push (x ∷ a) [] i h = let e : x ≡ i = cc (h.whole) in let t : IsPrefix a [] = record { rest = h.rest; whole = cc (h.whole) } in inr (cc (prefix_none a t))
prefix_push (x ∷ a) (y ∷ p) i h =
    let e : x ≡ y = cc (h.whole) in let t : IsPrefix a (p ++ i ∷ []) = record { rest = h.rest; whole = cc (h.whole) } in
    elim (prefix_push a p i t) [ inl b ↦ inl (record { rest = b.rest; whole = cc (b.whole) }) | inr b ↦ inr cc ]

pub prefix_up : (a p : List ℕ) → IsPrefix a p → (a ≡ p) ⊎ IsBefore a p
prefix_up a p h = go h.rest h.whole
  where
    go : (r : List ℕ) → p ≡ a ++ r → (a ≡ p) ⊎ IsBefore a p
    go [] e = inl (sym (e ∙ app_nil a))
    go (k ∷ r) e = inr (subst (IsBefore a) (sym e) (before_more a k r))

pub prefix_before : (a p q : List ℕ) → IsPrefix a p → IsBefore p q → IsBefore a q
prefix_before a p q h k = elim (prefix_up a p h) [ inl e ↦ subst (λ x. IsBefore x q) (sym e) k | inr b ↦ trans a p q b k ]

pub prefix_rest : (a t c : List ℕ) → IsPrefix t c → IsPrefix (a ++ t) (a ++ c)
prefix_rest a t c h = record { rest = h.rest; whole = ap (λ x. a ++ x) h.whole ∙ sym (append_assoc a t h.rest) }

module _ {N K : Type 0} (s : Search N K) where
  pub simple_prefix : (a p : List ℕ) (g h : N) → IsPrefix a p → IsSimple s p g → IsEnd s a h → IsSimple s a h
  simple_prefix a p g h k e f = record { ends = f; once = λ x y m i j. e.once x y m (prefix_trans x a p i k) (prefix_trans y a p j k) }

  pub simple_none : IsSimple s [] s.start
  simple_none = record { ends = end_none s s.start; once = λ a b h i j e f. prefix_none a i ∙ sym (prefix_none b j) }

  pub simple_push : (p : List ℕ) (a b : N) (i : ℕ) → IsSimple s p a → slice_get (successors s a) i ≡ Some b → (LiesOn s p b → ⊥) → IsSimple s (p ++ i ∷ []) b
  simple_push p a b i h e n = record { ends = whole; once = λ x y m j k f g. two x y m f g (prefix_push x p i j) (prefix_push y p i k) }
    where
      whole : IsEnd s (p ++ i ∷ []) b
      whole = end_push s p a b i h.ends e

      is_b : (y : List ℕ) (m : N) → IsEnd s y m → y ≡ p ++ i ∷ [] → m ≡ b
      is_b y m f w = one_end s s.start m b (p ++ i ∷ []) (subst (λ z. IsEnd s z m) w f) whole

      two : (x y : List ℕ) (m : N) → IsEnd s x m → IsEnd s y m → IsPrefix x p ⊎ (x ≡ p ++ i ∷ []) → IsPrefix y p ⊎ (y ≡ p ++ i ∷ []) → x ≡ y
      two x y m f g (inl j) (inl k) = h.once x y m j k f g
      two x y m f g (inl j) (inr k) = absurd (n (record { path = x; prefix = j; ends = subst (λ c. IsEnd s x c) (is_b y m g k) f }))
      two x y m f g (inr j) (inl k) = absurd (n (record { path = y; prefix = k; ends = subst (λ c. IsEnd s y c) (is_b x m f j) g }))
      two x y m f g (inr j) (inr k) = j ∙ sym k

  -- h lies on the path p from a
  pub record OnFrom (a : N) (p : List ℕ) (h : N) : Type 0 where
    pub path : List ℕ
    pub prefix : IsPrefix path p
    pub ends : end_from s a path ≡ Some h

  on_first : (a h : N) (p : List ℕ) → a ≡ h → OnFrom a p h
  on_first a h p e = record { path = []; prefix = record { rest = p; whole = refl }; ends = end_none s a ∙ ap Some e }

  module _ (same : (a b : N) → (a ≡ b) ⊎ (a ≡ b → ⊥)) where
    decide_from : (p : List ℕ) (a h : N) → OnFrom a p h ⊎ (OnFrom a p h → ⊥)
    decide_from [] a h = elim (same a h) [ inl e ↦ inl (on_first a h [] e) | inr n ↦ inr (λ o. n (one_end s a a h [] (end_none s a) (subst (λ x. end_from s a x ≡ Some h) (prefix_none o.path o.prefix) o.ends))) ]
    decide_from (i ∷ p) a h = elim (same a h) [ inl e ↦ inl (on_first a h (i ∷ p) e) | inr n ↦ next n (slice_get (successors s a) i) refl (λ b. decide_from p b h) ]
      where
        none_at : (n : a ≡ h → ⊥) (x : List ℕ) → Heads i p x → end_from s a x ≡ Some h → ((y : List ℕ) → IsPrefix y p → end_from s a (i ∷ y) ≡ Some h → ⊥) → ⊥
        none_at n [] w e k = n (one_end s a a h [] (end_none s a) e)
        none_at n (j ∷ y) (along t) e k = k y t e

        next : (a ≡ h → ⊥) → (o : Option N) → slice_get (successors s a) i ≡ o → ((b : N) → OnFrom b p h ⊎ (OnFrom b p h → ⊥)) → OnFrom a (i ∷ p) h ⊎ (OnFrom a (i ∷ p) h → ⊥)
        next n None e go = inr (λ o. none_at n o.path (prefix_cons i p o.path o.prefix) o.ends (λ y t f. none-some (end_cons s a h i y f).by (sym e ∙ (end_cons s a h i y f).is)))
        next n (Some b) e go = elim (go b) [
          | inl o ↦ inl (record { path = i ∷ o.path; prefix = prefix_put i p o.path o.prefix; ends = end_put s a b i o.path e ∙ o.ends })
          | inr m ↦ inr (λ o. none_at n o.path (prefix_cons i p o.path o.prefix) o.ends (λ y t f. m (record { path = y; prefix = t; ends = sym (end_put s a b i y e) ∙ f })))
        ]

    pub decide_on : (p : List ℕ) (h : N) → LiesOn s p h ⊎ (LiesOn s p h → ⊥)
    decide_on p h = elim (decide_from p s.start h) [
      | inl o ↦ inl (record { path = o.path; prefix = o.prefix; ends = o.ends })
      | inr n ↦ inr (λ o. n (record { path = o.path; prefix = o.prefix; ends = o.ends }))
    ]
