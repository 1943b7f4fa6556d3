-- Bytes of names and of numbers.
use Rattle.std.proofs.Common.{◌≡◌, ℕ, suc, ◌+◌, ◌%◌, ◌^◌, ◌<◌, ◌≤◌, Bool, true, false, ◌&&◌, Option, List, [], ◌∷◌, ◌++◌, length, refl, ap, ◌∙◌, arith}
use Rattle.std.proofs.lemmas.Bool.{and_from}
use Rattle.std.proofs.lemmas.Fmt.{decimal_by_steps}
use Rattle.std.proofs.lemmas.List.Folds.{list_all-append}
use Rattle.std.specs.List.{list_all}
use Rattle.std.specs.Prelude.{◌==◌, codes, decimal, if◌then◌else◌, nat_lt}
use Rattle.ir_values.specs.declared.ty.Ty.{Ty}
use Rattle.ir_module.specs.Printable.{are_bytes, name_fits}
use Rattle.residue.specs.declared.parts.Part.{Part}
use Rattle.residue.specs.declared.parts.Residue.{Residue}
use Rattle.residue.specs.Printed.{base_blocks, block_name, locals_from, names_of_part, print_parts}

pub bytes-both : (a b : List ℕ) → are_bytes a ≡ true → are_bytes b ≡ true → are_bytes (a ++ b) ≡ true
bytes-both a b h g = list_all-append (λ c. nat_lt c 256) a b ∙ and_from (are_bytes a) (are_bytes b) h g

digit-small : (n : ℕ) → n < 10 → nat_lt (48 + n) 256 ≡ true
digit-small n h = grind arith

-- what `decimal` writes
pub decimal-bytes : (n : ℕ) → n < 2 ^ 64 → are_bytes (decimal n) ≡ true
decimal-bytes n lt = decimal_by_steps (λ n ds. are_bytes ds ≡ true) (λ n l. ap (λ b. b && true) (digit-small n l)) (λ n ds l h. bytes-both ds ((48 + n % 10) ∷ []) h (ap (λ b. b && true) (digit-small (n % 10) (small n)))) n lt
  where
    small : (n : ℕ) → n % 10 < 10
    small n = grind arith

-- ---- the names of locals and blocks

pub locals-named : (n : ℕ) (names : List (Option ℕ × Ty)) → n + length names ≤ 2 ^ 64 → list_all (λ l. name_fits l.0) (locals_from n names) ≡ true
locals-named n [] le = refl
locals-named n (x ∷ names) le =
    and_from (are_bytes (codes "v" ++ decimal n)) (list_all (λ l. name_fits l.0) (locals_from (suc n) names))
    (bytes-both (codes "v") (decimal n) refl (decimal-bytes n (omega (arith, le)))) (locals-named (suc n) names (omega (arith, le)))

block-bytes : (n : ℕ) → n < 2 ^ 64 → are_bytes (block_name n) ≡ true
block-bytes n lt = by (n == 0)
  where
    by : (b : Bool) → are_bytes (if b then codes "entry" else codes "b" ++ decimal n) ≡ true
    by true = refl
    by false = bytes-both (codes "b") (decimal n) refl (decimal-bytes n lt)

pub blocks-named : (r : Residue) (n free : ℕ) (parts : List Part) → n + length parts ≤ 2 ^ 64 → list_all (λ b. name_fits b.name) (print_parts r n free parts) ≡ true
blocks-named r n free [] le = refl
blocks-named r n free (p ∷ parts) le =
    and_from (are_bytes (block_name n)) (list_all (λ b. name_fits b.name) (print_parts r (suc n) (free + length (names_of_part p)) parts))
    (block-bytes n (omega (arith, le))) (blocks-named r (suc n) (free + length (names_of_part p)) parts (omega (arith, le)))

pub base-named : (r : Residue) (parts : List Part) → list_all (λ b. name_fits b.name) (base_blocks r parts) ≡ true
base-named r [] = refl
base-named r (p ∷ parts) = refl
