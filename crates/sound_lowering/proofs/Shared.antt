-- The part that exits share stands behind all others.
use Rattle.std.proofs.Common.{◌≡◌, ℕ, zero, suc, ◌+◌, ◌<◌, Bool, true, false, Some, None, List, [], ◌∷◌, length, refl, sym, ap, ◌∙◌, arith}
use Rattle.std.specs.Prelude.{◌==◌, ◌&&◌, ◌||◌, Option, if◌then◌else◌, nat_lt, slice_get}
use Rattle.std.specs.Cmp.{unsigned_Decides}
use Rattle.std.proofs.lemmas.Bool.Decides.{nat_tests}
use Rattle.std.proofs.lemmas.Option.{slice_get_within}
use Rattle.ir_module.specs.declared.tree.Function.{Function}
use Rattle.ir_module.specs.declared.tree.Module.{Module}
use Rattle.kept_items.specs.declared.val.Dyn.{Dyn}
use Rattle.kept_items.specs.Targets.{has_returns}
use Rattle.path_search.specs.declared.visit.Link.{Link}
use Rattle.path_search.specs.Explored.{Explored}
use Rattle.unroller.specs.Programs.{Carries, Program, search_of}
use Rattle.fused_parts.specs.declared.flags.Entered.TheVariants.{Never}
use Rattle.fused_parts.specs.declared.numbers.Numbers.{Numbers}
use Rattle.fused_parts.specs.Nodes.{Links, Node, entered, is_once, joins, joins_from, leads_only}
use Rattle.fused_parts.specs.Parts.{no_numbers, rest_from, whole}
use Rattle.fused_parts.specs.Ranks.{part_number}
use Rattle.lowered_program.specs.Residues.{count_exits, residue_of, shared_exit}
use Rattle.lowered_runs.specs.Made.{IsMade, own_parts}

-- ---- how many parts there are

module _ (m : Module) (nodes : List Node) (part_of : ℕ → ℕ) (shared : Option ℕ) where
  -- behind the first, one for each configuration that ends a part and isn't the last
  parts-behind : (x : Node) (xs : List Node) (bs : List Bool) (n : Numbers) → length xs < length bs
      → length (rest_from m nodes part_of shared (x ∷ xs) bs n).parts ≡ part_number bs (length xs)
  parts-behind x [] bs n lt = refl
  parts-behind x (y ∷ xs) [] n lt = absurd (omega (arith, lt))
  parts-behind x (y ∷ xs) (true ∷ bs) n lt = parts-behind y xs bs _ (omega (arith, lt))
  parts-behind x (y ∷ xs) (false ∷ bs) n lt = ap suc (parts-behind y xs bs _ (omega (arith, lt)))

-- ---- the last configuration ends its part

number-behind : (bs : List Bool) (i : ℕ) → slice_get bs i ≡ Some false → part_number bs (suc i) ≡ suc (part_number bs i)
number-behind [] i e = cc
number-behind (true ∷ bs) zero e = cc
number-behind (false ∷ bs) zero e = refl
number-behind (true ∷ bs) (suc i) e = number-behind bs i e
number-behind (false ∷ bs) (suc i) e = ap suc (number-behind bs i e)

flags-length : (all : List Node) (n : ℕ) (xs : List Node) → length (joins_from all n xs) ≡ length xs
flags-length all n [] = refl
flags-length all n (x ∷ xs) = ap suc (flags-length all (suc n) xs)

flag-at : (all : List Node) (n : ℕ) (xs : List Node) (i k : ℕ) (x : Node) → k ≡ suc (n + i) → slice_get xs i ≡ Some x
    → slice_get (joins_from all n xs) i ≡ Some (leads_only k x.links && is_once (entered k all Never))
flag-at all n [] i k x e g = cc
flag-at all n (y ∷ xs) zero k x e g =
    let s : y ≡ x = cc in
    let t : suc n ≡ k = omega (arith, e) in
    ap (λ z. Some (leads_only (suc n) z.links && is_once (entered (suc n) all Never))) s
    ∙ ap (λ z. Some (leads_only z x.links && is_once (entered z all Never))) t
flag-at all n (y ∷ xs) (suc i) k x e g = flag-at all (suc n) xs i k x (omega (arith, e)) g

-- a link to no configuration behind the last
leads-nowhere : (k : ℕ) (links : Links) → ((j : ℕ) (l : Link (List Dyn)) → slice_get links j ≡ Some l → l.to < k) → leads_only k links ≡ false
leads-nowhere k [] h = refl
leads-nowhere k (l ∷ []) h = by-test (l.to == k) refl
  where
    by-test : (b : Bool) → (l.to == k) ≡ b → b ≡ false
    by-test false e = refl
    by-test true e = let s = (unsigned_Decides l.to k).0 e in let lt = h 0 l refl in absurd (omega (arith, s, lt))
leads-nowhere k (l ∷ other ∷ links) h = refl

last-there : (xs : List Node) (k : ℕ) → length xs ≡ suc k → (x : Node) × (slice_get xs k ≡ Some x)
last-there [] k e = absurd (omega (arith, e))
last-there (x ∷ []) zero e = (x, refl)
last-there (x ∷ []) (suc k) e = absurd (omega (arith, e))
last-there (x ∷ y ∷ xs) zero e = absurd (omega (arith, e))
last-there (x ∷ y ∷ xs) (suc k) e = last-there (y ∷ xs) k (omega (arith, e))

module _ (p : Program) (budget : ℕ) (nodes : List Node) (explored : Explored (search_of p budget) (Carries p) nodes) where
  last-ends : (k : ℕ) → length nodes ≡ suc k → slice_get (joins nodes) k ≡ Some false
  last-ends k e =
      let l = last-there nodes k e in
      flag-at nodes 0 nodes k (suc k) l.0 (omega arith) l.1
      ∙ ap (λ b. Some (b && is_once (entered (suc k) nodes Never))) (leads-nowhere (suc k) l.0.links (λ j link g. within j link l g))
    where
      within : (j : ℕ) (link : Link (List Dyn)) (l : (x : Node) × (slice_get nodes k ≡ Some x)) → slice_get l.0.links j ≡ Some link → link.to < suc k
      within j link l g =
          let w = (explored.links k l.0 l.1).to j link g in
          let lt = slice_get_within nodes link.to w.0 w.1 in
          omega (arith, lt, e)

  -- as many as configurations end one
  parts-number : (shared : Option ℕ) → 0 < length nodes → part_number (joins nodes) (length nodes) ≡ length (own_parts p nodes shared)
  parts-number shared some = by-nodes nodes refl
    where
      by-nodes : (xs : List Node) → xs ≡ nodes → part_number (joins nodes) (length nodes) ≡ length (own_parts p nodes shared)
      by-nodes [] e = absurd (let n = ap length e in omega (arith, n, some))
      by-nodes (x ∷ xs) e =
          let n : length nodes ≡ suc (length xs) = sym (ap length e) in
          let f = flags-length nodes 0 nodes in
          ap (part_number (joins nodes)) n
          ∙ number-behind (joins nodes) (length xs) (last-ends (length xs) n)
          ∙ ap suc (sym (parts-behind p.m nodes (part_number (joins nodes)) shared x xs (joins nodes) no_numbers (omega (arith, n, f))))
          ∙ ap (λ z. length (whole (rest_from p.m nodes (part_number (joins nodes)) shared z (joins nodes) no_numbers))) e

  some-exits : (xs : List Node) → 0 < count_exits xs → 0 < length xs
  some-exits [] lt = absurd (omega (arith, lt))
  some-exits (x ∷ xs) lt = omega arith

  shared-last : (n : ℕ) → shared_exit p.target nodes ≡ Some n
      → (n ≡ length (own_parts p nodes (shared_exit p.target nodes))) × (has_returns p.target ≡ false)
  shared-last n e = by-tests (has_returns p.target) (nat_lt (count_exits nodes) 2) refl refl e
    where
      by-tests : (a b : Bool) → has_returns p.target ≡ a → nat_lt (count_exits nodes) 2 ≡ b
          → (if a || b then None else Some (part_number (joins nodes) (length nodes))) ≡ Some n
          → (n ≡ length (own_parts p nodes (shared_exit p.target nodes))) × (has_returns p.target ≡ false)
      by-tests true b q r e = cc
      by-tests false true q r e = cc
      by-tests false false q r e =
          let s : part_number (joins nodes) (length nodes) ≡ n = cc in
          (sym s ∙ parts-number (shared_exit p.target nodes) (some-exits nodes (grind (arith, nat_tests, r))), q)

  -- the lowered program is made of the configurations
  pub is-made : (entry : Function) → IsMade p nodes (shared_exit p.target nodes) (residue_of p entry nodes)
  is-made entry = record {
    parts = refl;
    qubits = refl;
    results = refl;
    shared_last = shared-last;
  }
