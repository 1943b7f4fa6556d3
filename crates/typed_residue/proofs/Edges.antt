-- The entries of phis, which are those of the jumps that lead there.
use Rattle.std.proofs.Common.{◌≡◌, ℕ, ◌+◌, Bool, true, false, ◌&&◌, not, Some, List, [], ◌∷◌, refl, ap, ◌∙◌, arith}
use Rattle.std.proofs.lemmas.Bool.{and_parts}
use Rattle.std.specs.List.{list_all}
use Rattle.std.specs.Prelude.{◌||◌, ◌==◌, if◌then◌else◌, filter, slice_get}
use Rattle.ir_module.specs.declared.tree.Operand.{Operand}
use Rattle.ir_values.specs.declared.ids.BlockId.{BlockId}
use Rattle.residue.specs.declared.parts.Jump.{Jump}
use Rattle.residue.specs.declared.parts.Part.{Part}
use Rattle.residue.specs.declared.parts.Residue.{Residue}
use Rattle.residue.specs.Instructions.{Words, operand_of}
use Rattle.residue.specs.Printed.{argument, edges_of, edges_to, entries}
use Rattle.residue.specs.Scopes.{jumps}
use Rattle.printed_residue.proofs.Declared.{Among}
use Rattle.printed_residue.proofs.Looks.{same-numbers}
use Rattle.numbered_residue.proofs.Forms.{edges-pass}
use Rattle.numbered_residue.proofs.Passing.{all-map}

-- a test of those that another test lets through
pub filtered-pass : {A : Type 0} (test f : A → Bool) (xs : List A) → list_all (λ x. not (f x) || test x) xs ≡ true → list_all test (filter f xs) ≡ true
filtered-pass test f [] h = refl
filtered-pass test f (x ∷ xs) h =
    let p = and_parts (not (f x) || test x) (list_all (λ x. not (f x) || test x) xs) h in by (f x) p.0 (filtered-pass test f xs p.1)
  where
    by : (b : Bool) → (not b || test x) ≡ true → list_all test (filter f xs) ≡ true → list_all test (if b then x ∷ filter f xs else filter f xs) ≡ true
    by true h ih = ap (λ b. b && list_all test (filter f xs)) h ∙ ih
    by false h ih = ih

pub entries-there-pass : (test : Operand × BlockId → Bool) (ws : Words) (r : Residue) (k to : ℕ)
    → ((n : ℕ) (p : Part) (j : Jump) → slice_get r.parts n ≡ Some p → Among (jumps p.tail) j → j.to ≡ to → test (operand_of ws (argument k j), record { 0 = n }) ≡ true)
    → list_all test (entries ws k (edges_to to r.parts)) ≡ true
entries-there-pass test ws r k to h =
    all-map test (λ e. (operand_of ws (argument k e.1), record { 0 = e.0 })) (edges_to to r.parts)
    (filtered-pass (λ e. test (operand_of ws (argument k e.1), record { 0 = e.0 })) (λ e. e.1.to == to) (edges_of 0 r.parts)
    (edges-pass (λ e. not (e.1.to == to) || test (operand_of ws (argument k e.1), record { 0 = e.0 })) 0 r.parts (λ n p s j a.
    by {x = test (operand_of ws (argument k j), record { 0 = 0 + n })} {y = test (operand_of ws (argument k j), record { 0 = n })} (j.to == to) (λ z. h n p j s a (same-numbers j.to to z)) (ap (λ m. test (operand_of ws (argument k j), record { 0 = m })) (let z : 0 + n ≡ n = omega arith in z)))))
  where
    by : {x y : Bool} (b : Bool) → (b ≡ true → y ≡ true) → x ≡ y → (not b || x) ≡ true
    by true f e = e ∙ f refl
    by false f e = refl
