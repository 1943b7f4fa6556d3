-- What the loops write, and what is to come.
use Rattle.std.proofs.Common.{◌≡◌, ℕ, suc, ◌+◌, ◌-◌, ◌<◌, ◌≤◌, Bool, List, [], ◌∷◌, ◌++◌, length, sym, ap, ◌∙◌, append_assoc, append-nil, arith}
use Rattle.graph_cycles.specs.Cycles.{Graph, successors}
use Rattle.returning_edges.specs.code.Split.{numbers_from, all_targets, edge_lists, chosen, chosen_from}

length-both : {A : Type 0} (xs ys : List A) → length (xs ++ ys) ≡ length xs + length ys
length-both [] ys = omega arith
length-both (x ∷ xs) ys = let h = length-both xs ys in omega (arith, h)

-- one edge more
pub node-more : (n : ℕ) (nodes nodes' targets targets' rest whole : List ℕ) (x : ℕ)
    → nodes ++ numbers_from (n + length targets) (length (x ∷ rest)) ≡ whole
    → nodes' ≡ nodes ++ (n + length targets) ∷ [] → targets' ≡ targets ++ x ∷ []
    → nodes' ++ numbers_from (n + length targets') (length rest) ≡ whole
node-more n nodes nodes' targets targets' rest whole x h e t =
    let k : n + length targets' ≡ suc (n + length targets) = (let l = ap length t ∙ length-both targets (x ∷ []) in omega (arith, l)) in
    ap (λ i. nodes' ++ numbers_from i (length rest)) k
    ∙ ap (λ ns. ns ++ numbers_from (suc (n + length targets)) (length rest)) e
    ∙ append_assoc nodes ((n + length targets) ∷ []) (numbers_from (suc (n + length targets)) (length rest))
    ∙ h

pub target-more : (targets targets' rest whole : List ℕ) (x : ℕ) → targets ++ (x ∷ rest) ≡ whole → targets' ≡ targets ++ x ∷ [] → targets' ++ rest ≡ whole
target-more targets targets' rest whole x h t = ap (λ ts. ts ++ rest) t ∙ append_assoc targets (x ∷ []) rest ∙ h

-- one node more
pub list-more : (n : ℕ) (lists lists' rest whole : Graph) (targets targets' nodes edges : List ℕ)
    → lists ++ edge_lists (n + length targets) (edges ∷ rest) ≡ whole
    → nodes ≡ numbers_from (n + length targets) (length edges)
    → lists' ≡ lists ++ nodes ∷ [] → targets' ≡ targets ++ edges
    → lists' ++ edge_lists (n + length targets') rest ≡ whole
list-more n lists lists' rest whole targets targets' nodes edges h e l t =
    let k : n + length targets' ≡ (n + length targets) + length edges = (let q = ap length t ∙ length-both targets edges in omega (arith, q)) in
    ap (λ i. lists' ++ edge_lists i rest) k
    ∙ ap (λ ls. ls ++ edge_lists ((n + length targets) + length edges) rest) (l ∙ ap (λ ns. lists ++ ns ∷ []) e)
    ∙ append_assoc lists (numbers_from (n + length targets) (length edges) ∷ []) (edge_lists ((n + length targets) + length edges) rest)
    ∙ h

pub targets-more : (targets targets' edges : List ℕ) (rest : Graph) (whole : List ℕ) → targets ++ all_targets (edges ∷ rest) ≡ whole → targets' ≡ targets ++ edges → targets' ++ all_targets rest ≡ whole
targets-more targets targets' edges rest whole h t = ap (λ ts. ts ++ all_targets rest) t ∙ append_assoc targets edges (all_targets rest) ∙ h

pub source-more : (on : List Bool) (h : Graph) (u k : ℕ) (found found' whole : List (ℕ × ℕ))
    → u < k → found ++ chosen_from on h u (k - u) ≡ whole → found' ≡ found ++ chosen on h u (successors h u)
    → found' ++ chosen_from on h (u + 1) (k - (u + 1)) ≡ whole
source-more on h u k found found' whole l q e =
    let s : u + 1 ≡ suc u = omega arith in
    let z : k - u ≡ suc (k - suc u) = omega (arith, l) in
    ap (λ i. found' ++ chosen_from on h i (k - i)) s
    ∙ ap (λ xs. xs ++ chosen_from on h (suc u) (k - suc u)) e
    ∙ append_assoc found (chosen on h u (successors h u)) (chosen_from on h (suc u) (k - suc u))
    ∙ sym (ap (λ j. found ++ chosen_from on h u j) z)
    ∙ q

pub sources-end : (on : List Bool) (h : Graph) (u k : ℕ) (found whole : List (ℕ × ℕ)) → k ≤ u → found ++ chosen_from on h u (k - u) ≡ whole → found ≡ whole
sources-end on h u k found whole l q = let z : k - u ≡ 0 = omega (arith, l) in sym (append-nil found) ∙ sym (ap (λ j. found ++ chosen_from on h u j) z) ∙ q
