-- The blocks that lie on cycles.
use Rattle.std.proofs.Common.{◌≡◌, ◌↔◌, ⊎_elim, ℕ, zero, suc, ◌+◌, ◌<◌, ◌≤◌, Bool, true, false, List, [], ◌∷◌, ◌++◌, Option, None, Some, length, slice_get, Contains, refl, sym, ap, ◌∙◌, subst, arith}
use Rattle.std.proofs.lemmas.Bool.{cases_lt}
use Rattle.ir_module.specs.declared.places.Point.{Point}
use Rattle.ir_module.specs.declared.tree.Function.{Function}
use Rattle.graph_cycles.specs.Cycles.{Graph, list_or_none, IsOnCycle, TellsCycles}
use Rattle.profile_rules.specs.Adaptive.{block_graph}
use Rattle.profile_rules.specs.Calls.{passes}
use Rattle.adaptive_profile.specs.code.Graphs.{TellLoops, row_at, is_cyclic}

get-left : {A : Type 0} (xs ys : List A) (i : ℕ) → i < length xs → slice_get (xs ++ ys) i ≡ slice_get xs i
get-left [] ys i l = absurd (omega (arith, l))
get-left (x ∷ xs) ys zero l = refl
get-left (x ∷ xs) ys (suc i) l = get-left xs ys i (omega (arith, l))

get-last : {A : Type 0} (xs : List A) (y : A) (i : ℕ) → i ≡ length xs → slice_get (xs ++ y ∷ []) i ≡ Some y
get-last [] y zero e = refl
get-last [] y (suc i) e = absurd (omega (arith, e))
get-last (x ∷ xs) y zero e = absurd (omega (arith, e))
get-last (x ∷ xs) y (suc i) e = get-last xs y i (omega (arith, e))

get-past : {A : Type 0} (xs : List A) (i : ℕ) → length xs ≤ i → slice_get xs i ≡ None
get-past [] i l = refl
get-past (x ∷ xs) zero l = absurd (omega (arith, l))
get-past (x ∷ xs) (suc i) l = get-past xs i (omega (arith, l))

get-within : {A : Type 0} (xs : List A) (i : ℕ) (x : A) → slice_get xs i ≡ Some x → i < length xs
get-within [] i x e = cc
get-within (y ∷ ys) zero x e = omega arith
get-within (y ∷ ys) (suc i) x e = let h = get-within ys i x e in omega (arith, h)

get-some : {A : Type 0} (xs : List A) (i : ℕ) → i < length xs → (x : A) × (slice_get xs i ≡ Some x)
get-some [] i l = absurd (omega (arith, l))
get-some (x ∷ xs) zero l = (x, refl)
get-some (x ∷ xs) (suc i) l = get-some xs i (omega (arith, l))

length-last : {A : Type 0} (xs : List A) (y : A) → length (xs ++ y ∷ []) ≡ length xs + 1
length-last [] y = refl
length-last (x ∷ xs) y = let h = length-last xs y in omega (arith, h)

-- the first functions were looked at
pub record IsLooked (funcs : List Function) (n : ℕ) (rows : List (List Bool)) : Type 0 where
  pub sized : length rows ≡ n
  pub row : (g : ℕ) (f : Function) (on : List Bool) → slice_get funcs g ≡ Some f → slice_get rows g ≡ Some on → TellsCycles (block_graph f) on

pub none-looked : (funcs : List Function) → IsLooked funcs 0 []
none-looked funcs = record { sized = refl; row = λ g f on e q. absurd (let l = get-within [] g on q in omega (arith, l)) }

pub one-looked : (funcs : List Function) (n : ℕ) (rows rows' : List (List Bool)) (f : Function) (on : List Bool)
    → IsLooked funcs n rows → slice_get funcs n ≡ Some f → TellsCycles (block_graph f) on → rows' ≡ rows ++ on ∷ [] → IsLooked funcs (n + 1) rows'
one-looked funcs n rows rows' f on h e t q =
    let s = h.sized in
    let longer : length rows' ≡ n + 1 = ap length q ∙ length-last rows on ∙ ap (λ k. k + 1) s in
    record {
      sized = longer;
      row = λ g k os a b. ⊎_elim
          (λ (l : g < n). h.row g k os a (sym (get-left rows (on ∷ []) g (omega (arith, l, s))) ∙ ap (λ xs. slice_get xs g) (sym q) ∙ b))
          (λ (l : n ≤ g).
          let w = get-within rows' g os b in
          let same : g ≡ n = omega (arith, l, w, longer) in
          let x : Some os ≡ Some on = sym b ∙ ap (λ xs. slice_get xs g) q ∙ get-last rows on g (omega (arith, same, s)) in
          let y : Some k ≡ Some f = sym a ∙ ap (slice_get funcs) same ∙ e in
          let x' : os ≡ on = cc in
          let y' : k ≡ f = cc in
          subst (λ z. TellsCycles (block_graph z) os) (sym y') (subst (λ z. TellsCycles (block_graph f) z) (sym x') t))
          (cases_lt g n);
    }

pub all-looked : (funcs : List Function) (n : ℕ) (rows : List (List Bool)) → n ≡ length funcs → IsLooked funcs n rows → TellLoops funcs rows
all-looked funcs n rows e h = record { sized = h.sized ∙ e; row = h.row }

no-edge : (g : Graph) (b : ℕ) → length g ≤ b → IsOnCycle g b → ⊥
no-edge g b l c = let d = subst (λ xs. Contains xs c.first) (ap list_or_none (get-past g b l)) c.edge in let k = d.1 in omega (arith, k)

at-row : (g : Graph) (on : List Bool) (b : ℕ) → TellsCycles g on → (passes (slice_get on b) (λ c. c) ≡ true) ↔ IsOnCycle g b
at-row g on b t = ⊎_elim
    (λ (l : b < length g). let e = t.exact b l in ((λ q. e.0 (some (slice_get on b) q)), (λ q. ap (λ o. passes o (λ c. c)) (e.1 q))))
    (λ (l : length g ≤ b).
    let s = t.sized in
    let e = get-past on b (omega (arith, l, s)) in
    ((λ q. absurd (let z : false ≡ true = sym (ap (λ o. passes o (λ c. c)) e) ∙ q in no z)), (λ q. absurd (no-edge g b l q))))
    (cases_lt b (length g))
  where
    no : false ≡ true → ⊥
    no z = cc

    some : (o : Option Bool) → passes o (λ c. c) ≡ true → o ≡ Some true
    some None q = cc
    some (Some true) q = refl
    some (Some false) q = cc

pub loops : (funcs : List Function) (rows : List (List Bool)) → TellLoops funcs rows → (p : Point) (f : Function) → slice_get funcs p.func.0 ≡ Some f
    → (is_cyclic rows p ≡ true) ↔ IsOnCycle (block_graph f) p.block.0
loops funcs rows t p f e =
    let l = get-within funcs p.func.0 f e in
    let s = t.sized in
    let r = get-some rows p.func.0 (omega (arith, l, s)) in
    subst (λ o. (row_at o p.block.0 ≡ true) ↔ IsOnCycle (block_graph f) p.block.0) (sym r.1) (at-row (block_graph f) r.0 p.block.0 (t.row p.func.0 f r.0 e r.1))
