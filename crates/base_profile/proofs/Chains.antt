-- Whether the blocks of the entry are one chain.
use Rattle.std.proofs.Common.{◌≡◌, ℕ, suc, ◌+◌, ◌-◌, ◌<◌, ◌==◌, ◌&&◌, not, Bool, false, List, [], ◌∷◌, Option, None, Some, length, slice_get, refl, ap, ◌∙◌, arith}
use Rattle.std.specs.Prelude.{is_some}
use Rattle.std.specs.List.{list_all}
use Rattle.std.proofs.lemmas.Bool.Decides.{nat_tests}
use Rattle.ir_module.specs.declared.tree.Block.{Block}
use Rattle.profile_rules.specs.Calls.{passes}
use Rattle.profile_rules.specs.Walk.{block_after, branches_to, numbers_from, numbers_below, position_after, returns_at, is_chain}
use Rattle.base_profile.specs.code.Walked.{IsWalked, ArePositions}

is-met : (o : Option ℕ) → not (position_after o == 0) ≡ is_some o
is-met None = refl
is-met (Some n) = let e : (suc n == 0) ≡ false = grind (arith, nat_tests) in ap not e

positions-met : (h : ℕ → Option ℕ) (n : ℕ) (ps : List ℕ) → ((b : ℕ) → b < length ps → slice_get ps b ≡ Some (position_after (h (n + b))))
    → list_all (λ p. not (p == 0)) ps ≡ list_all (λ b. is_some (h b)) (numbers_from n (length ps))
positions-met h n [] at = refl
positions-met h n (p ∷ ps) at =
    let z : n + 0 ≡ n = omega arith in
    let q : Some p ≡ Some (position_after (h n)) = at 0 (omega arith) ∙ ap (λ k. Some (position_after (h k))) z in
    let e : p ≡ position_after (h n) = cc in
    ap (λ x. not (x == 0) && list_all (λ p. not (p == 0)) ps) e
    ∙ ap (λ t. t && list_all (λ p. not (p == 0)) ps) (is-met (h n))
    ∙ ap (λ t. is_some (h n) && t) (positions-met h (suc n) ps (λ b l. at (suc b) (omega (arith, l)) ∙ (let s : n + suc b ≡ suc n + b = omega arith in ap (λ k. Some (position_after (h k))) s)))

-- every block is met where no position is 0
met : (blocks : List Block) (ps : List ℕ) → ArePositions blocks ps
    → list_all (λ p. not (p == 0)) ps ≡ list_all (λ b. is_some (branches_to blocks b)) (numbers_below (length blocks))
met blocks ps h =
    positions-met (branches_to blocks) 0 ps
    (λ b l. (let s = h.sized in h.exact b (omega (arith, l, s))) ∙ (let z : b ≡ 0 + b = omega arith in ap (λ k. Some (position_after (branches_to blocks k))) z))
    ∙ ap (λ n. list_all (λ b. is_some (branches_to blocks b)) (numbers_from 0 n)) h.sized

pub chain : (blocks : List Block) (ps : List ℕ) (all last result : Bool) → ArePositions blocks ps
    → all ≡ list_all (λ p. not (p == 0)) ps
    → last ≡ passes (block_after blocks (length blocks - 1)) (returns_at blocks)
    → result ≡ (all && last)
    → result ≡ is_chain blocks
chain blocks ps all last result h a l r = r ∙ ap (λ t. t && last) (a ∙ met blocks ps h) ∙ ap (λ t. list_all (λ b. is_some (branches_to blocks b)) (numbers_below (length blocks)) && t) l

-- no block ends an empty body
pub empty : (blocks : List Block) → length blocks ≡ 0 → false ≡ passes (block_after blocks (length blocks - 1)) (returns_at blocks)
empty [] e = refl
empty (b ∷ bs) e = absurd (omega (arith, e))

pub last : (blocks : List Block) (walk : List ℕ) (n : ℕ) → IsWalked blocks walk → n + 1 ≡ length blocks
    → passes (slice_get walk n) (returns_at blocks) ≡ passes (block_after blocks (length blocks - 1)) (returns_at blocks)
last blocks walk n w e =
    let q : n ≡ length blocks - 1 = omega (arith, e) in
    ap (λ o. passes o (returns_at blocks)) (w.at n (omega (arith, e)) ∙ ap (block_after blocks) q)
