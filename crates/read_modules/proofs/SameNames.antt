-- Both tests of names tell whether they are equal.
use Rattle.std.proofs.Common.{◌≡◌, ℕ, true, List, ap, rules}
use Rattle.std.specs.Bool.{Decides}
use Rattle.std.specs.Cmp.{unsigned_Decides}
use Rattle.std.specs.Cmp.Lexicographic.{pointwise_decides}
use Rattle.ir_values.specs.declared.name.Name.{Name}
use Rattle.ir_values.specs.declared.name.Name.TheVariants as name
use Rattle.ir_values.specs.Calls.{same_text}
use Rattle.ir_values.specs.Equal.{equal_decides}
use Rattle.ir_module.specs.Numbered.{same_name}
use Rattle.ir_names.specs.code.Names.{same_name as equal_names}

text_decides : (a b : List ℕ) → Decides (same_text a b) (a ≡ b)
text_decides a b = pointwise_decides unsigned_Decides a b

pub same_decides : (a b : Name) → Decides (same_name a b) (a ≡ b)
same_decides (name.Text a) (name.Text b) = let d = text_decides a b in (λ e. ap name.Text (d.0 e), λ e. d.1 (cc))
same_decides (name.Text a) (name.Number n) = (λ e. absurd (cc), λ e. absurd (cc))
same_decides (name.Number n) (name.Text b) = (λ e. absurd (cc), λ e. absurd (cc))
same_decides (name.Number m) (name.Number n) = let d = unsigned_Decides m n in (λ e. ap name.Number (d.0 e), λ e. d.1 (cc))

pub equal_is : (a b : Name) → equal_names a b ≡ true → a ≡ b
equal_is a b e = search (rules, equal_decides)

pub equal_self : (a b : Name) → a ≡ b → equal_names a b ≡ true
equal_self a b e = search (rules, equal_decides)
