-- Openings don't depend on the budget, and the beginning of one is one.
use Rattle.std.proofs.Common.{◌≡◌, ◌∙◌, ℕ, zero, suc, ◌<◌, Bool, Some, List, [], ◌∷◌, ◌++◌, length, refl, sym, ap, subst, arith}
use Rattle.std.proofs.lemmas.List.Elements.{Contains-append_left}
use Rattle.std.proofs.lemmas.Option.{same_Some}
use Rattle.std.specs.Option.{option_and_then}
use Rattle.std.specs.Prelude.{Contains, slice_get}
use mathlib.Core.Logic.{◌⊎◌, inl, inr}
use Rattle.path_search.specs.Openings.{IsFound, IsLast, ListsAll, Opening}
use Rattle.path_search.specs.Paths.{IsBefore, IsEnd, IsSimple, Search, Turn, end_from, successors}
use Rattle.path_search.specs.Verdict.{IsBack}
use Rattle.path_search.proofs.Frontier.{get_some, get_within, listed, place}
use Rattle.path_search.proofs.Lists.{get_last, get_left, length_push}
use Rattle.path_search.proofs.Order.{Numbers, equal, less, more, numbers, trans}

-- ---- one graph with two budgets

module _ {N K : Type 0} (start : N) (turn : N → Turn N K) (loops : Bool) where
  abbrev pub within : ℕ → Search N K
  within budget = record { start = start; turn = turn; budget = budget; loops = loops }

  module _ (a b : ℕ) where
    end-same : (p : List ℕ) (g : N) → end_from (within a) g p ≡ end_from (within b) g p
    unfolding end_from
    end-same [] g = refl
    end-same (i ∷ p) g = ap (λ f. option_and_then f (slice_get (successors (within a) g) i)) (λ j h. end-same p h j)

    ends : (p : List ℕ) (g : N) → IsEnd (within a) p g → IsEnd (within b) p g
    ends p g e = sym (end-same p start) ∙ e

  module _ (a b : ℕ) where
    pub simple : (p : List ℕ) (g : N) → IsSimple (within a) p g → IsSimple (within b) p g
    simple p g h = record { ends = ends a b p g h.ends; once = λ q r k x y e f. h.once q r k x y (ends b a q k e) (ends b a r k f) }

    found : (ps : List (List ℕ)) (q : List ℕ) (g : N) → IsFound (within a) ps q g → IsFound (within b) ps q g
    found ps q g f = record { path = f.path; listed = f.listed; ends = ends a b f.path g f.ends; upto = f.upto }

    pub leads-back : (p : List ℕ) (g : N) → IsBack (within a) p g → IsBack (within b) p g
    leads-back p g h = record {
      closed = h.closed;
      to = h.to;
      edge = h.edge;
      on = record { path = h.on.path; prefix = h.on.prefix; ends = ends a b h.on.path h.to h.on.ends };
    }

  module _ (a b : ℕ) where
    pub opening : (ps : List (List ℕ)) → Opening (within a) ps → Opening (within b) ps
    opening ps o = record {
      simple = λ p c. let t = o.simple p c in (t.0, simple a b p t.0 t.1);
      ordered = o.ordered;
      distinct = λ p q g c d e f. o.distinct p q g c d (ends b a p g e) (ends b a q g f);
      covers = λ last q g l h not. found a b ps q g (o.covers last q g l (simple b a q g h) not);
    }

  module _ (a b : ℕ) where
    pub lists-all : (nodes : List N) → ListsAll (within a) nodes → ListsAll (within b) nodes
    lists-all nodes h = record {
      paths = h.paths;
      opening = opening a b h.paths h.opening;
      number = h.number;
      ends = λ i p g c d. ends a b p g (h.ends i p g c d);
      longest = λ qs o. h.longest qs (opening b a qs o);
    }

-- ---- beginnings

-- a list is cut behind its element n
pub record Cut {A : Type 0} (xs : List A) (n : ℕ) : Type 0 where
  pub front : List A
  pub at : A
  pub rest : List A
  pub whole : (front ++ at ∷ []) ++ rest ≡ xs
  pub number : length front ≡ n

pub cut : {A : Type 0} (xs : List A) (n : ℕ) → n < length xs → Cut xs n
cut [] n h = absurd (omega (arith, h))
cut (x ∷ xs) zero h = record { front = []; at = x; rest = xs; whole = refl; number = refl }
cut (x ∷ xs) (suc n) h =
    let c = cut xs n (omega (arith, h)) in
    record { front = x ∷ c.front; at = c.at; rest = c.rest; whole = ap (λ l. x ∷ l) c.whole; number = ap suc c.number }

last-of : {A : Type 0} (xs : List A) (i : ℕ) → i < length xs → (front : List A) × (x : A) × (xs ≡ front ++ x ∷ [])
last-of [] i h = absurd (omega (arith, h))
last-of (x ∷ []) i h = ([], x, refl)
last-of (x ∷ y ∷ xs) i h = let t = last-of (y ∷ xs) 0 (omega arith) in (x ∷ t.0, t.1, ap (λ z. x ∷ z) t.2)

module _ {N K : Type 0} (s : Search N K) (ps qs : List (List ℕ)) (o : Opening s (ps ++ qs)) where
  more-listed : (p : List ℕ) → Contains ps p → Contains (ps ++ qs) p
  more-listed p c = Contains-append_left ps qs p c

  covers : (last q : List ℕ) (g : N) → IsLast ps last → IsSimple s q g → (IsBefore last q → ⊥) → IsFound s ps q g
  covers last q g l h not = begins (o.covers end.1 q g (end.0, end.2) h (not-after (numbers (length l.0) (length end.0))))
    where
      at : slice_get ps (length l.0) ≡ Some last
      at = subst (λ x. slice_get x (length l.0) ≡ Some last) (sym l.1) (get_last l.0 [] last)

      at-whole : slice_get (ps ++ qs) (length l.0) ≡ Some last
      at-whole = get_left ps qs (length l.0) last at

      end : (front : List (List ℕ)) × (x : List ℕ) × (ps ++ qs ≡ front ++ x ∷ [])
      end = last-of (ps ++ qs) (length l.0) (get_within (ps ++ qs) (length l.0) last at-whole)

      at-end : slice_get (ps ++ qs) (length end.0) ≡ Some end.1
      at-end = subst (λ x. slice_get x (length end.0) ≡ Some end.1) (sym end.2) (get_last end.0 [] end.1)

      not-after : Numbers (length l.0) (length end.0) → IsBefore end.1 q → ⊥
      not-after (less k) b = not (trans last end.1 q (o.ordered (length l.0) (length end.0) last end.1 k at-whole at-end) b)
      not-after (equal k) b = not (subst (λ x. IsBefore x q) (same_Some end.1 last (sym at-end ∙ ap (slice_get (ps ++ qs)) (sym k) ∙ at-whole)) b)
      not-after (more k) b = absurd (omega (arith, k, get_within (ps ++ qs) (length l.0) last at-whole, ap length end.2, length_push end.0 end.1))

      begins : IsFound s (ps ++ qs) q g → IsFound s ps q g
      begins f = record { path = f.path; listed = among (place (ps ++ qs) f.path f.listed); ends = f.ends; upto = f.upto }
        where
          early : (i : ℕ) → slice_get (ps ++ qs) i ≡ Some f.path → i < length ps → Contains ps f.path
          early i e h =
              let y = get_some ps i h in
              listed ps i f.path (y.1 ∙ sym (get_left ps qs i y.0 y.1) ∙ e)

          upto-before : (f.path ≡ q) ⊎ IsBefore f.path q → IsBefore last f.path → IsBefore last q
          upto-before (inl e) b = subst (IsBefore last) e b
          upto-before (inr c) b = trans last f.path q b c

          among : (i : ℕ) × (slice_get (ps ++ qs) i ≡ Some f.path) → Contains ps f.path
          among t = by (numbers (length l.0) t.0)
            where
              by : Numbers (length l.0) t.0 → Contains ps f.path
              by (less k) = absurd (not (upto-before f.upto (o.ordered (length l.0) t.0 last f.path k at-whole t.1)))
              by (equal k) = early t.0 t.1 (omega (arith, k, get_within ps (length l.0) last at))
              by (more k) = early t.0 t.1 (omega (arith, k, get_within ps (length l.0) last at))

  pub front-opens : Opening s ps
  front-opens = record {
    simple = λ p c. o.simple p (more-listed p c);
    ordered = λ i j p q l a b. o.ordered i j p q l (get_left ps qs i p a) (get_left ps qs j q b);
    distinct = λ p q g a b e f. o.distinct p q g (more-listed p a) (more-listed q b) e f;
    covers = covers;
  }
