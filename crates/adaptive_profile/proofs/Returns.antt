-- Blocks behind the first one that ends in a return.
use Rattle.std.proofs.Common.{◌≡◌, ⊎_elim, ℕ, zero, suc, ◌<◌, ◌≤◌, ltb, Bool, true, false, ◌||◌, if◌then◌else◌, List, [], ◌∷◌, Some, length, map, take, slice_get, refl, sym, ap, ◌∙◌, arith}
use Rattle.std.specs.List.{list_any}
use Rattle.std.specs.Prelude.{unwrap_or}
use Rattle.std.proofs.lemmas.Bool.{cases_lt}
use Rattle.std.proofs.lemmas.Bool.Decides.{nat_tests}
use Rattle.ir_module.specs.declared.tree.Block.{Block}
use Rattle.ir_module.specs.declared.tree.Function.{Function}
use Rattle.ir_module.specs.Tree.{blocks_of}
use Rattle.profile_rules.specs.Walk.{is_return}
use Rattle.adaptive_profile.specs.code.Returns.{first_return}

none-below : (n : ℕ) → ltb n 0 ≡ false
none-below n = grind (arith, nat_tests)

lt-true : (i k : ℕ) → i < k → ltb i k ≡ true
lt-true i k l = grind (arith, nat_tests)

lt-false : (i k : ℕ) → k ≤ i → ltb i k ≡ false
lt-false i k l = grind (arith, nat_tests)

shift : (n k : ℕ) → ltb (suc n) (suc k) ≡ ltb n k
shift n k = ⊎_elim
    (λ (l : n < k). lt-true (suc n) (suc k) (omega (arith, l)) ∙ sym (lt-true n k l))
    (λ (l : k ≤ n). lt-false (suc n) (suc k) (omega (arith, l)) ∙ sym (lt-false n k l))
    (cases_lt n k)

first-below : (k : ℕ) → ltb 0 (suc k) ≡ true
first-below k = lt-true 0 (suc k) (omega arith)

pub behind : (blocks : List Block) (b : ℕ) → b ≤ length blocks → list_any (λ c. is_return c.term) (take b blocks) ≡ ltb (first_return blocks) b
behind [] zero l = refl
behind [] (suc b) l = absurd (omega (arith, l))
behind (c ∷ cs) zero l = sym (none-below (first_return (c ∷ cs)))
behind (c ∷ cs) (suc b) l = at (is_return c.term) (behind cs b (omega (arith, l)))
  where
    at : (r : Bool) → list_any (λ c. is_return c.term) (take b cs) ≡ ltb (first_return cs) b
        → (r || list_any (λ c. is_return c.term) (take b cs)) ≡ ltb (if r then 0 else suc (first_return cs)) (suc b)
    at true h = sym (first-below b)
    at false h = h ∙ sym (shift (first_return cs) b)

get-map : {A B : Type 0} (f : A → B) (xs : List A) (i : ℕ) (x : A) → slice_get xs i ≡ Some x → slice_get (map f xs) i ≡ Some (f x)
get-map f [] i x e = cc
get-map f (y ∷ xs) zero x e = let q : y ≡ x = cc in ap (λ z. Some (f z)) q
get-map f (y ∷ xs) (suc i) x e = get-map f xs i x e

pub later : (funcs : List Function) (firsts : List ℕ) (g b : ℕ) (f : Function) → firsts ≡ map (λ (f : Function). first_return (blocks_of f)) funcs
    → slice_get funcs g ≡ Some f → b < length (blocks_of f)
    → ltb (unwrap_or (slice_get firsts g) b) b ≡ list_any (λ (c : Block). is_return c.term) (take b (blocks_of f))
later funcs firsts g b f q e l =
    ap (λ o. ltb (unwrap_or o b) b) (ap (λ xs. slice_get xs g) q ∙ get-map (λ (f : Function). first_return (blocks_of f)) funcs g f e)
    ∙ sym (behind (blocks_of f) b (omega (arith, l)))
