-- The number of steps that are left.
use Rattle.std.proofs.Common.{◌≡◌, ℕ, zero, suc, ◌+◌, ◌<◌, nat_le, Bool, true, false, if◌then◌else◌, List, [], ◌∷◌, length, refl, sym, ap, ◌∙◌, arith, slice_get, slice_set, Some, None, Option}
use Rattle.graph_cycles.specs.declared.search.Mark.{Mark}
use Rattle.graph_cycles.specs.declared.search.Mark.TheVariants as mark
use Rattle.graph_cycles.specs.Cycles.{Graph, successors}
use Rattle.graph_cycles.specs.code.Search.{is_unseen, work, closed_from}

-- a node that was not met is opened
pub work-open : (g : Graph) (marks : List Mark) (v p : ℕ) → v < length g → slice_get marks v ≡ Some mark.Unseen → work g marks ≡ (length (successors g v) + 2) + work g (slice_set marks v (mark.Open p))
work-open [] marks v p l e = absurd (omega (arith, l))
work-open (vs ∷ g) [] v p l e = cc
work-open (vs ∷ g) (m ∷ marks) zero p l e =
    let h : is_unseen (Some m) ≡ true = ap is_unseen e in
    let z : 0 + work g marks ≡ work g marks = omega arith in
    ap (λ b. (if b then length vs + 2 else 0) + work g marks) h ∙ ap (λ n. (length vs + 2) + n) (sym z)
work-open (vs ∷ g) (m ∷ marks) (suc v) p l e =
    let h = work-open g marks v p (omega (arith, l)) e in
    omega (arith, h)

-- what was met or not stays so
pub work-same : (g : Graph) (xs ys : List Mark) → length xs ≡ length ys → ((v : ℕ) → is_unseen (slice_get xs v) ≡ is_unseen (slice_get ys v)) → work g xs ≡ work g ys
work-same [] xs ys l h = refl
work-same (vs ∷ g) [] [] l h = refl
work-same (vs ∷ g) [] (y ∷ ys) l h = absurd (omega (arith, l))
work-same (vs ∷ g) (x ∷ xs) [] l h = absurd (omega (arith, l))
work-same (vs ∷ g) (x ∷ xs) (y ∷ ys) l h =
    ap (λ b. (if b then length vs + 2 else 0) + work g xs) (h zero)
    ∙ ap (λ n. (if is_unseen (Some y) then length vs + 2 else 0) + n) (work-same g xs ys (omega (arith, l)) (λ v. h (suc v)))

at-test : (c : Bool) (p : ℕ) (b : Bool) → is_unseen (if b then Some (mark.Closed c) else Some (mark.Open p)) ≡ false
at-test c p true = refl
at-test c p false = refl

pub unseen-after : (n : ℕ) (c : Bool) (o : Option Mark) → is_unseen (closed_from n c o) ≡ is_unseen o
unseen-after n c None = refl
unseen-after n c (Some mark.Unseen) = refl
unseen-after n c (Some (mark.Open p)) = at-test c p (nat_le n p)
unseen-after n c (Some (mark.Closed b)) = refl
