-- Configurations in a row make one part.
use Rattle.std.proofs.Common.{◌≡◌, ℕ, suc, ◌+◌, ◌<◌, ◌≤◌, Bool, true, false, Option, Some, List, [], ◌∷◌, length, slice_get, refl, sym, ap, ◌∙◌, subst, arith}
use Rattle.std.proofs.lemmas.Bool.{and_from, eq-eqb, eqb-false, eqb-true, ne_eqb}
use Rattle.std.specs.Prelude.{⊤, ◌==◌, ◌&&◌, if◌then◌else◌}
use Rattle.ir_module.specs.declared.tree.Module.{Module}
use Rattle.kept_items.specs.declared.val.Dyn.{Dyn}
use Rattle.path_search.specs.declared.visit.Link.{Link}
use Rattle.path_search.proofs.Order.{equal, less, more as greater, numbers}
use Rattle.residue.specs.declared.parts.Tail.{Tail}
use Rattle.fused_parts.specs.declared.flags.Entered.{Entered}
use Rattle.fused_parts.specs.declared.flags.Entered.TheVariants.{Never, Once}
use Rattle.fused_parts.specs.declared.numbers.Numbers.{Numbers}
use Rattle.fused_parts.specs.Nodes.{Links, Node, entered, entered_by, is_once, joins, joins_from, leads_only, more, widths_of}
use Rattle.fused_parts.specs.Parts.{joined, lines_of, next_numbers, rest_from, tail_of, with_widths}

-- ---- edges that lead to the configuration of a number

-- no edge of these leads there
untouched-by : (k : ℕ) (links : Links) (e : Entered) → ((q : ℕ) (l : Link (List Dyn)) → slice_get links q ≡ Some l → l.to ≡ k → ⊥) → entered_by k links e ≡ e
untouched-by k [] e h = refl
untouched-by k (l ∷ links) e h =
    ap (λ b. entered_by k links (if b then more e else e)) (ne_eqb l.to k (h 0 l refl)) ∙ untouched-by k links e (λ q m z. h (suc q) m z)

-- these stand from number n on, and each leads to the next alone
abbrev pub LeadOn : ℕ → List Node → Type 0
LeadOn n xs = (j : ℕ) (x : Node) → slice_get xs j ≡ Some x → (q : ℕ) (l : Link (List Dyn)) → slice_get x.links q ≡ Some l → l.to ≡ suc (n + j)

lead-behind : (n : ℕ) (x : Node) (xs : List Node) → LeadOn n (x ∷ xs) → LeadOn (suc n) xs
lead-behind n x xs h j y e q l f = let z = h (suc j) y e q l f in omega (arith, z)

untouched : (k n : ℕ) (xs : List Node) (e : Entered) → LeadOn n xs → k ≤ n → entered k xs e ≡ e
untouched k n [] e h le = refl
untouched k n (x ∷ xs) e h le =
    ap (entered k xs) (untouched-by k x.links e (λ q l f z. let w = h 0 x refl q l f in omega (arith, w, z, le))) ∙ untouched k (suc n) xs e (lead-behind n x xs h) (omega (arith, le))

-- the only one leads there
touched : (k : ℕ) (l : Link (List Dyn)) (links : Links) → links ≡ l ∷ [] → l.to ≡ k → entered_by k links Never ≡ Once
touched k l links e z = ap (λ ls. entered_by k ls Never) e ∙ ap (λ b. if b then more Never else Never) (eq-eqb l.to k z)

abbrev Single : ℕ → ℕ → List Node → Type 0
Single k n xs = (j : ℕ) (x : Node) → slice_get xs j ≡ Some x → suc (n + j) ≡ k → (l : Link (List Dyn)) × (x.links ≡ l ∷ [])

entered-once : (k n : ℕ) (xs : List Node) → LeadOn n xs → Single k n xs → n < k → k ≤ n + length xs → entered k xs Never ≡ Once
entered-once k n [] h one lt le = absurd (omega (arith, lt, le))
entered-once k n (x ∷ xs) h one lt le =
    by-test (λ far. entered-once k (suc n) xs (lead-behind n x xs h) (λ j y e z. one (suc j) y e (omega (arith, z))) far (omega (arith, le))) (suc n == k) refl
  where
    here : suc n ≡ k → entered k (x ∷ xs) Never ≡ Once
    here z =
        let l = one 0 x refl (omega (arith, z)) in
        let to = h 0 x refl 0 l.0 (ap (λ ls. slice_get ls 0) l.1) in
        ap (entered k xs) (touched k l.0 x.links l.1 (omega (arith, to, z))) ∙ untouched k (suc n) xs Once (lead-behind n x xs h) (omega (arith, z))

    later : (suc n ≡ k → ⊥) → entered k xs Never ≡ Once → entered k (x ∷ xs) Never ≡ Once
    later off rest = ap (entered k xs) (untouched-by k x.links Never (λ q l f z. let w = h 0 x refl q l f in off (omega (arith, w, z)))) ∙ rest

    by-test : (suc n < k → entered k xs Never ≡ Once) → (b : Bool) → (suc n == k) ≡ b → entered k (x ∷ xs) Never ≡ Once
    by-test rest true z = here (eqb-true (suc n) k z)
    by-test rest false z =
        let off = eqb-false (suc n) k z in
        elim (numbers (suc n) k) [ less far ↦ later off (rest far) | equal e ↦ absurd (off e) | greater near ↦ absurd (omega (arith, near, lt)) ]

-- ---- the flags

-- all but the last go on in the part
abbrev pub Joined : List Node → List Bool → Type 0
Joined [] bs = ⊤
Joined (x ∷ []) bs = ⊤
Joined (x ∷ y ∷ xs) [] = ⊥
Joined (x ∷ y ∷ xs) (b ∷ bs) = (b ≡ true) × Joined (y ∷ xs) bs

leads-to : (k : ℕ) (l : Link (List Dyn)) (links : Links) → links ≡ l ∷ [] → l.to ≡ k → leads_only k links ≡ true
leads-to k l links e z = ap (leads_only k) e ∙ eq-eqb l.to k z

module _ (nodes : List Node) (leads : LeadOn 0 nodes) (single : (i : ℕ) (x : Node) → slice_get nodes i ≡ Some x → suc i < length nodes → (l : Link (List Dyn)) × (x.links ≡ l ∷ [])) where
  goes-on : (i : ℕ) (x : Node) → slice_get nodes i ≡ Some x → suc i < length nodes → (leads_only (suc i) x.links && is_once (entered (suc i) nodes Never)) ≡ true
  goes-on i x e lt =
      let l = single i x e lt in
      let to = leads i x e 0 l.0 (ap (λ ls. slice_get ls 0) l.1) in
      let once =
      entered-once (suc i) 0 nodes leads
      (λ j y f z. single j y f (omega (arith, z, lt)))
      (omega arith) (omega (arith, lt))
      in
      and_from (leads_only (suc i) x.links) (is_once (entered (suc i) nodes Never)) (leads-to (suc i) l.0 x.links l.1 (omega (arith, to))) (ap is_once once)

  joined-from : (n : ℕ) (xs : List Node) → ((j : ℕ) (x : Node) → slice_get xs j ≡ Some x → slice_get nodes (n + j) ≡ Some x) → n + length xs ≡ length nodes → Joined xs (joins_from nodes n xs)
  joined-from n [] h many = tt
  joined-from n (x ∷ []) h many = tt
  joined-from n (x ∷ y ∷ xs) h many = (
    goes-on n x (let z : n ≡ n + 0 = omega arith in ap (slice_get nodes) z ∙ h 0 x refl) (omega (arith, many)),
    joined-from (suc n) (y ∷ xs) (λ j z e. let w : suc n + j ≡ n + suc j = omega arith in ap (slice_get nodes) w ∙ h (suc j) z e) (omega (arith, many)),
  )

  pub all-joined : Joined nodes (joins nodes)
  all-joined = joined-from 0 nodes (λ j x e. let w : 0 + j ≡ j = omega arith in ap (slice_get nodes) w ∙ e) (omega arith)

-- ---- the one part

module _ (m : Module) (nodes : List Node) (part_of : ℕ → ℕ) (shared : Option ℕ) where
  -- there are no further parts
  pub no-parts : (xs : List Node) (bs : List Bool) (n : Numbers) → Joined xs bs → (rest_from m nodes part_of shared xs bs n).parts ≡ []
  no-parts [] bs n h = refl
  no-parts (x ∷ []) bs n h = refl
  no-parts (x ∷ y ∷ xs) [] n h = absurd h
  no-parts (x ∷ y ∷ xs) (b ∷ bs) n h =
      subst
      (λ q. (joined q (lines_of nodes x n) (tail_of part_of shared x n) (with_widths (next_numbers x q y n).mine (widths_of m y.node)) (rest_from m nodes part_of shared (y ∷ xs) bs (next_numbers x q y n))).parts ≡ [])
      (sym h.0) (no-parts (y ∷ xs) bs (next_numbers x true y n) h.1)

  -- it ends as the last configuration does
  pub last-tail : (test : Tail → Bool) (x : Node) (xs : List Node) (bs : List Bool) (n : Numbers) → Joined (x ∷ xs) bs
      → ((j : ℕ) (z : Node) → slice_get (x ∷ xs) j ≡ Some z → suc j ≡ length (x ∷ xs) → (k : Numbers) → test (tail_of part_of shared z k) ≡ true)
      → test (rest_from m nodes part_of shared (x ∷ xs) bs n).tail ≡ true
  last-tail test x [] bs n h ends = ends 0 x refl refl n
  last-tail test x (y ∷ xs) [] n h ends = absurd h
  last-tail test x (y ∷ xs) (b ∷ bs) n h ends =
      subst
      (λ q. test (joined q (lines_of nodes x n) (tail_of part_of shared x n) (with_widths (next_numbers x q y n).mine (widths_of m y.node)) (rest_from m nodes part_of shared (y ∷ xs) bs (next_numbers x q y n))).tail ≡ true)
      (sym h.0) (last-tail test y xs bs (next_numbers x true y n) h.1 (λ j z e w k. ends (suc j) z e (ap suc w) k))
