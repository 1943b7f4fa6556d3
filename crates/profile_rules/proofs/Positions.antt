-- The steps of a block in a row.
use Rattle.std.proofs.Common.{◌≡◌, ◌⊎◌, inl, inr, ⊎_elim, ℕ, zero, suc, ◌+◌, ◌-◌, ◌<◌, ◌≤◌, Option, None, Some, List, [], ◌∷◌, ◌++◌, length, map, slice_get, refl, sym, ap, ◌∙◌, arith, Contains}
use Rattle.std.proofs.lemmas.Bool.{cases_lt}
use Rattle.std.proofs.lemmas.Option.{slice_get_past, slice_get_cases}
use Rattle.ir_module.specs.declared.places.Point.{Point}
use Rattle.ir_module.specs.declared.tree.Block.{Block}
use Rattle.ir_module.specs.declared.tree.Function.{Function}
use Rattle.ir_module.specs.Steps.{Step, PhiAt, InstAt, TermAt, NoStep, step_at, step_of_point}
use Rattle.ir_module.specs.Tree.{block_at, blocks_or_none, blocks_of}
use Rattle.ir_module.specs.Steps.{steps_of_block}

pub here : {A : Type 0} (y : A) (ys : List A) → Contains (y ∷ ys) y
here y ys = (zero, omega arith, refl)

pub there : {A : Type 0} (y x : A) (ys : List A) → Contains ys x → Contains (y ∷ ys) x
there y x ys h = (suc h.0, omega (arith, h.1), h.2)

pub cases : {A : Type 0} (y x : A) (ys : List A) → Contains (y ∷ ys) x → (y ≡ x) ⊎ Contains ys x
cases y x ys (zero, l, e) = inl e
cases y x ys (suc k, l, e) = inr (k, omega arith, e)

pub none : {A : Type 0} (x : A) → Contains [] x → ⊥
none x h = absurd (omega (arith, h.1))

pub get-left : {A : Type 0} (xs ys : List A) (i : ℕ) (x : A) → slice_get xs i ≡ Some x → slice_get (xs ++ ys) i ≡ Some x
get-left [] ys i x e = cc
get-left (y ∷ xs) ys zero x e = e
get-left (y ∷ xs) ys (suc i) x e = get-left xs ys i x e

get-right : {A : Type 0} (xs ys : List A) (i : ℕ) → length xs ≤ i → slice_get (xs ++ ys) i ≡ slice_get ys (i - length xs)
get-right [] ys i le = let e : i ≡ i - 0 = omega arith in ap (slice_get ys) e
get-right (y ∷ xs) ys zero le = absurd (omega (arith, le))
get-right (y ∷ xs) ys (suc i) le = let e : i - length xs ≡ suc i - length (y ∷ xs) = omega arith in get-right xs ys i (omega (arith, le)) ∙ ap (slice_get ys) e

get-map : {A B : Type 0} (f : A → B) (xs : List A) (i : ℕ) (x : A) → slice_get xs i ≡ Some x → slice_get (map f xs) i ≡ Some (f x)
get-map f [] i x e = cc
get-map f (y ∷ xs) zero x e = let q : y ≡ x = cc in ap (λ z. Some (f z)) q
get-map f (y ∷ xs) (suc i) x e = get-map f xs i x e

length-of-map : {A B : Type 0} (f : A → B) (xs : List A) → length (map f xs) ≡ length xs
length-of-map f [] = refl
length-of-map f (x ∷ xs) = ap suc (length-of-map f xs)

length-both : {A : Type 0} (xs ys : List A) → length (xs ++ ys) ≡ length xs + length ys
length-both [] ys = omega arith
length-both (x ∷ xs) ys = let h = length-both xs ys in omega (arith, h)

pub get-within : {A : Type 0} (xs : List A) (k : ℕ) (x : A) → slice_get xs k ≡ Some x → k < length xs
get-within [] k x e = cc
get-within (y ∷ ys) zero x e = omega arith
get-within (y ∷ ys) (suc k) x e = let h = get-within ys k x e in omega (arith, h)

phi-at : (b : Block) (i : ℕ) (phi : _) → slice_get b.phis i ≡ Some phi → step_at b i ≡ PhiAt phi
phi-at b i phi e = rw e refl

module _ (b : Block) (i : ℕ) (from : length b.phis ≤ i) where
  inst-at : (x : _) → slice_get b.insts (i - length b.phis) ≡ Some x → step_at b i ≡ InstAt x
  inst-at x e = rw (slice_get_past b.phis i from, e) refl

  term-at : i ≡ length b.phis + length b.insts → step_at b i ≡ TermAt b.term
  term-at e =
      let past : slice_get b.insts (i - length b.phis) ≡ None = slice_get_past b.insts (i - length b.phis) (omega (arith, e)) in
      let z : i - (length b.phis + length b.insts) ≡ 0 = omega (arith, e) in
      rw (slice_get_past b.phis i from, past, z) refl

module _ (c : Block) where
  pub steps-length : length (steps_of_block c) ≡ suc (length c.phis + length c.insts)
  steps-length =
      let a = length-both (map PhiAt c.phis) (map InstAt c.insts ++ TermAt c.term ∷ []) in
      let b = length-both (map InstAt c.insts) (TermAt c.term ∷ []) in
      let p = length-of-map PhiAt c.phis in
      let i = length-of-map InstAt c.insts in
      omega (arith, a, b, p, i)

  behind-phis : (i : ℕ) → length c.phis ≤ i → slice_get (steps_of_block c) i ≡ slice_get (map InstAt c.insts ++ TermAt c.term ∷ []) (i - length c.phis)
  behind-phis i le =
      let p = length-of-map PhiAt c.phis in
      get-right (map PhiAt c.phis) (map InstAt c.insts ++ TermAt c.term ∷ []) i (omega (arith, le, p)) ∙ ap (λ n. slice_get (map InstAt c.insts ++ TermAt c.term ∷ []) (i - n)) p

  at-term : (i : ℕ) → i ≡ length c.phis + length c.insts → slice_get (steps_of_block c) i ≡ Some (step_at c i)
  at-term i e =
      let l = length-of-map InstAt c.insts in
      let z : i - length c.phis - length (map InstAt c.insts) ≡ 0 = omega (arith, e, l) in
      behind-phis i (omega (arith, e))
      ∙ get-right (map InstAt c.insts) (TermAt c.term ∷ []) (i - length c.phis) (omega (arith, e, l))
      ∙ ap (slice_get (TermAt c.term ∷ [])) z
      ∙ ap Some (sym (term-at c i (omega (arith, e)) e))

  pub step-is : (i : ℕ) → i ≤ length c.phis + length c.insts → slice_get (steps_of_block c) i ≡ Some (step_at c i)
  step-is i le =
      ⊎_elim
      (λ q. get-left (map PhiAt c.phis) (map InstAt c.insts ++ TermAt c.term ∷ []) i (PhiAt q.0) (get-map PhiAt c.phis i q.0 q.2) ∙ ap Some (sym (phi-at c i q.0 q.2)))
      (λ q.
      ⊎_elim
      (λ x.
      behind-phis i q.0
      ∙ get-left (map InstAt c.insts) (TermAt c.term ∷ []) (i - length c.phis) (InstAt x.0) (get-map InstAt c.insts (i - length c.phis) x.0 x.2)
      ∙ ap Some (sym (inst-at c i q.0 x.0 x.2)))
      (λ x. at-term i (omega (arith, q.0, x.0, le)))
      (slice_get_cases c.insts (i - length c.phis)).1)
      (slice_get_cases c.phis i).1

  -- a step that stands in the row is the step at its index
  pub step-among : (i : ℕ) (s : Step) → slice_get (steps_of_block c) i ≡ Some s → step_at c i ≡ s
  step-among i s e =
      let w = get-within (steps_of_block c) i s e in
      let l = steps-length in
      let h = step-is i (omega (arith, w, l)) in
      let q : Some (step_at c i) ≡ Some s = sym h ∙ e in
      cc

past-end : (c : Block) (i : ℕ) → length c.phis + length c.insts < i → step_at c i ≡ NoStep
past-end c i h =
    let phis : slice_get c.phis i ≡ None = slice_get_past c.phis i (omega (arith, h)) in
    let insts : slice_get c.insts (i - length c.phis) ≡ None = slice_get_past c.insts (i - length c.phis) (omega (arith, h)) in
    let z : i - (length c.phis + length c.insts) ≡ suc (i - suc (length c.phis + length c.insts)) = omega (arith, h) in
    rw (phis, insts, z) refl

pub record Stands (f : Function) (p : Point) : Type 0 where
  pub block : Block
  pub at : slice_get (blocks_of f) p.block.0 ≡ Some block
  pub within : p.index ≤ length block.phis + length block.insts

block-of : (o : Option (List Block)) (n : ℕ) (f : Function) (p : Point) → f.blocks ≡ o → p.block.0 ≡ n → block_at f p.block ≡ slice_get (blocks_or_none o) n
block-of None n f p e q = rw e refl
block-of (Some bs) n f p e q = let h : block_at f p.block ≡ slice_get bs p.block.0 = rw e refl in h ∙ ap (slice_get bs) q

pub block-is : (f : Function) (p : Point) → block_at f p.block ≡ slice_get (blocks_of f) p.block.0
block-is f p = block-of f.blocks p.block.0 f p refl refl

no-block : (f : Function) (p : Point) → block_at f p.block ≡ None → step_of_point f p ≡ NoStep
no-block f p e = rw e refl

pub step-here : (f : Function) (p : Point) (c : Block) → block_at f p.block ≡ Some c → step_of_point f p ≡ step_at c p.index
step-here f p c e = rw e refl

pub stands : (f : Function) (p : Point) → (step_of_point f p ≡ NoStep) ⊎ Stands f p
stands f p =
    ⊎_elim
    (λ q.
    ⊎_elim (λ (lt : length q.0.phis + length q.0.insts < p.index). inl (step-here f p q.0 (block-is f p ∙ q.2) ∙ past-end q.0 p.index lt)) (λ (le : p.index ≤ length q.0.phis + length q.0.insts). inr (record { block = q.0; at = q.2; within = le }))
    (cases_lt (length q.0.phis + length q.0.insts) p.index))
    (λ q. inl (no-block f p (block-is f p ∙ q.1)))
    (slice_get_cases (blocks_of f) p.block.0).1
