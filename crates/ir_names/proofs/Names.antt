-- Names of a list that grows.
use Rattle.std.proofs.Common.{◌≡◌, List, [], ◌∷◌, ◌++◌, map, refl, ap}
use Rattle.ir_values.specs.declared.ty.Ty.{Ty}
use Rattle.ir_values.specs.declared.name.Name.{Name}
use Rattle.ir_names.specs.code.Tables.{Numbers}
use Rattle.ir_names.specs.declared.numbers.Numbers.{Numbers as Table}
use Rattle.ir_names.specs.code.Names.{same_name}

names_append : (ls : List (Name × Ty)) (n : Name) (t : Ty) → map (λ x. x.0) (ls ++ (n, t) ∷ []) ≡ map (λ x. x.0) ls ++ n ∷ []
names_append [] n t = refl
names_append (l ∷ ls) n t = ap (λ more. l.0 ∷ more) (names_append ls n t)

pub one_more_name : (table : Table Name) (ls : List (Name × Ty)) (n : Name) (t : Ty) → Numbers same_name table (map (λ x. x.0) ls ++ n ∷ []) → Numbers same_name table (map (λ x. x.0) (ls ++ (n, t) ∷ []))
one_more_name table ls n t h = rw (names_append ls n t) h
