-- The table of local names, name by name.
use Rattle.std.proofs.Common.{◌≡◌, ℕ, suc, ◌+◌, Bool, true, false, Option, None, Some, List, [], ◌∷◌, ◌++◌, length, refl, sym, ap, ◌∙◌, subst, arith, append-nil, append_assoc}
use Rattle.std.specs.Option.{option_or}
use Rattle.std.specs.Prelude.{if◌then◌else◌, codes, decimal, nat_eq}
use Rattle.indexmap.specs.IndexMap.{get}
use Rattle.ir_values.specs.declared.name.Name.{Name}
use Rattle.ir_values.specs.declared.name.Name.TheVariants as name
use Rattle.ir_values.specs.declared.int.Width.{Width}
use Rattle.ir_values.specs.declared.ty.Ty.{Ty}
use Rattle.ir_values.specs.declared.ty.Ty.TheVariants as ty
use Rattle.kept_items.specs.declared.val.Dyn.{Dyn}
use Rattle.residue.specs.declared.parts.Line.{Line}
use Rattle.residue.specs.declared.parts.Line.TheVariants as line
use Rattle.residue.specs.declared.parts.Part.{Part}
use Rattle.residue.specs.Printed.{is_of, locals_from, name_in, names_of, names_of_items, names_of_params, names_of_part}
use Rattle.residue.specs.Scopes.{items_of}
use Rattle.numbered_residue.proofs.Shared.{locals-long}
use Rattle.residue_module.specs.declared.names.LocalNames.{LocalNames}
use Rattle.residue_module.specs.code.Lines.{line_item, line_names}
use Rattle.residue_module.specs.code.Names.{Adds, AddsTo, Holds, Names, first_from, number_of, or_number}

-- ---- lists of names

-- the local with one name more
local-more : (y : Option ℕ × Ty) (n : ℕ) (names : Names) → locals_from n (names ++ y ∷ []) ≡ locals_from n names ++ (name.Text (codes "v" ++ decimal (n + length names)), y.1) ∷ []
local-more y n [] = ap (λ k. (name.Text (codes "v" ++ decimal k), y.1) ∷ []) (let z : n ≡ n + 0 = omega arith in z)
local-more y n (x ∷ names) =
    let z : suc n + length names ≡ n + suc (length names) = omega arith in
    ap (λ l. (name.Text (codes "v" ++ decimal n), x.1) ∷ l) (local-more y (suc n) names ∙ ap (λ k. locals_from (suc n) names ++ (name.Text (codes "v" ++ decimal k), y.1) ∷ []) z)

-- the first name that has a value, with one name more
first-more : (y : Option ℕ × Ty) (d n : ℕ) (names : Names) → first_from n (names ++ y ∷ []) d ≡ option_or (first_from n names d) (if is_of d y.0 then Some (n + length names) else None)
first-more y d n [] = ap (λ k. if is_of d y.0 then Some k else None) (let z : n ≡ n + 0 = omega arith in z)
first-more y d n (x ∷ names) = by (is_of d x.0) (first-more y d (suc n) names)
  where
    by : (b : Bool) → first_from (suc n) (names ++ y ∷ []) d ≡ option_or (first_from (suc n) names d) (if is_of d y.0 then Some (suc n + length names) else None)
        → (if b then Some n else first_from (suc n) (names ++ y ∷ []) d) ≡ option_or (if b then Some n else first_from (suc n) names d) (if is_of d y.0 then Some (n + suc (length names)) else None)
    by true ih = refl
    by false ih = ih ∙ ap (λ k. option_or (first_from (suc n) names d) (if is_of d y.0 then Some k else None)) (let z : suc n + length names ≡ n + suc (length names) = omega arith in z)

-- the number of the first, or of the name behind the last
pub number-is : (d n : ℕ) (names : Names) → or_number (first_from n names d) (n + length names) ≡ n + name_in names d
number-is d n [] = refl
number-is d n (x ∷ names) = by (is_of d x.0) (number-is d (suc n) names)
  where
    by : (b : Bool) → or_number (first_from (suc n) names d) (suc n + length names) ≡ suc n + name_in names d
        → or_number (if b then Some n else first_from (suc n) names d) (n + suc (length names)) ≡ n + (if b then 0 else suc (name_in names d))
    by true ih = let z : n ≡ n + 0 = omega arith in z
    by false ih =
        ap (or_number (first_from (suc n) names d)) (let z : n + suc (length names) ≡ suc n + length names = omega arith in z)
        ∙ ih ∙ (let z : suc n + name_in names d ≡ n + suc (name_in names d) = omega arith in z)

-- what a table of names answers
pub number-held : (names : Names) (t : LocalNames) (d : ℕ) → Holds names t → number_of t d ≡ name_in names d
number-held names t d h =
    ap (λ o. or_number o (length t.locals)) (h.firsts d)
    ∙ ap (or_number (first_from 0 names d)) (ap length h.locals ∙ locals-long 0 names ∙ (let z : length names ≡ 0 + length names = omega arith in z))
    ∙ number-is d 0 names ∙ (let z : 0 + name_in names d ≡ name_in names d = omega arith in z)

-- ---- one name more

none-more : (o : Option ℕ) → o ≡ option_or o None
none-more None = refl
none-more (Some n) = refl

module _ (old new : LocalNames) (y : Option ℕ × Ty) (n : Name) (number : ℕ) (c : number ≡ length old.locals) (e : n ≡ name.Text (codes "v" ++ decimal number)) (l : new.locals ≡ old.locals ++ (n, y.1) ∷ []) where
  added : ((d : ℕ) → get nat_eq new.firsts d ≡ option_or (get nat_eq old.firsts d) (if is_of d y.0 then Some number else None)) → Adds (y ∷ []) old new
  added f names h =
      let k : number ≡ 0 + length names = c ∙ ap length h.locals ∙ locals-long 0 names ∙ (let z : length names ≡ 0 + length names = omega arith in z) in
      record {
        locals = l ∙ ap (λ m. old.locals ++ (m, y.1) ∷ []) (e ∙ ap (λ k. name.Text (codes "v" ++ decimal k)) k) ∙ ap (λ ls. ls ++ (name.Text (codes "v" ++ decimal (0 + length names)), y.1) ∷ []) h.locals ∙ sym (local-more y 0 names);
        firsts = λ d. f d ∙ ap (λ o. option_or o (if is_of d y.0 then Some number else None)) (h.firsts d) ∙ ap (λ k. option_or (first_from 0 names d) (if is_of d y.0 then Some k else None)) k ∙ sym (first-more y d 0 names);
      }

-- a name that has a Dynamic value
pub value-added : (old new : LocalNames) (value : ℕ) (u : Ty) (n : Name) (number : ℕ) → number ≡ length old.locals → n ≡ name.Text (codes "v" ++ decimal number) → new.locals ≡ old.locals ++ (n, u) ∷ []
    → ((d : ℕ) → get nat_eq new.firsts d ≡ option_or (get nat_eq old.firsts d) (if is_of d (Some value) then Some number else None)) → Adds ((Some value, u) ∷ []) old new
value-added old new value u n number c e l f = added old new (Some value, u) n number c e l f

-- a name that has none
pub bit-added : (old new : LocalNames) (u : Ty) (n : Name) (number : ℕ) → number ≡ length old.locals → n ≡ name.Text (codes "v" ++ decimal number) → new.locals ≡ old.locals ++ (n, u) ∷ []
    → new.firsts ≡ old.firsts → Adds ((None, u) ∷ []) old new
bit-added old new u n number c e l f = added old new (None, u) n number c e l (λ d. ap (λ m. get nat_eq m d) f ∙ none-more (get nat_eq old.firsts d))

-- ---- names one after the other

pub adds-none : (t : LocalNames) → Adds [] t t
adds-none t names h = subst (λ ns. Holds ns t) (sym (append-nil names)) h

pub adds-two : (a b : Names) (t u v : LocalNames) → Adds a t u → Adds b u v → Adds (a ++ b) t v
adds-two a b t u v f g names h = subst (λ ns. Holds ns v) (append_assoc names a b) (g (names ++ a) (f names h))

pub adds-three : (a b c : Names) (t u v w : LocalNames) → Adds a t u → Adds b u v → Adds c v w → Adds (a ++ (b ++ c)) t w
adds-three a b c t u v w f g h = adds-two a (b ++ c) t u w f (adds-two b c u v w g h)

pub adds-on : (whole more left : Names) (old now next : LocalNames) → Adds more now next → AddsTo whole (more ++ left) old now → AddsTo whole left old next
adds-on whole more left old now next a g new f = g new (adds-two more left now next new a f)

-- nothing is left
pub params-done : (whole : Names) (params : List (Dyn × Width)) (old now : LocalNames) → length params ≡ 0 → AddsTo whole (names_of_params params) old now → Adds whole old now
params-done whole [] old now e g = g now (adds-none now)
params-done whole (x ∷ params) old now e g = absurd (omega (arith, e))

pub lines-done : (whole : Names) (lines : List Line) (old now : LocalNames) → length lines ≡ 0 → AddsTo whole (names_of_items (items_of lines)) old now → Adds whole old now
lines-done whole [] old now e g = g now (adds-none now)
lines-done whole (x ∷ lines) old now e g = absurd (omega (arith, e))

pub parts-done : (parts : List Part) (now : LocalNames) → length parts ≡ 0 → Adds (names_of parts) now now
parts-done [] now e = adds-none now
parts-done (x ∷ parts) now e = absurd (omega (arith, e))

pub param-adds : (whole : Names) (all rest : List (Dyn × Width)) (x : Dyn × Width) (old now next : LocalNames) → all ≡ x ∷ rest → Adds ((Some x.0.0, ty.Int x.1) ∷ []) now next
    → AddsTo whole (names_of_params all) old now → AddsTo whole (names_of_params rest) old next
param-adds whole all rest x old now next e a g = adds-on whole ((Some x.0.0, ty.Int x.1) ∷ []) (names_of_params rest) old now next a (subst (λ ns. AddsTo whole ns old now) (ap names_of_params e) g)

pub part-adds : (all rest : List Part) (p : Part) (now next new : LocalNames) → all ≡ p ∷ rest → Adds (names_of_part p) now next → Adds (names_of rest) next new → Adds (names_of all) now new
part-adds all rest p now next new e a b = subst (λ ps. Adds (names_of ps) now new) (sym e) (adds-two (names_of_part p) (names_of rest) now next new a b)

line-names : (l : Line) (rest : List Line) → names_of_items (items_of (l ∷ rest)) ≡ line_names (line_item l) ++ names_of_items (items_of rest)
line-names (line.Item x) rest = refl
line-names (line.Made j) rest = refl
line-names (line.Freed j) rest = refl

pub line-adds : (whole : Names) (all rest : List Line) (l : Line) (old now next : LocalNames) → all ≡ l ∷ rest → Adds (line_names (line_item l)) now next
    → AddsTo whole (names_of_items (items_of all)) old now → AddsTo whole (names_of_items (items_of rest)) old next
line-adds whole all rest l old now next e a g =
    adds-on whole (line_names (line_item l)) (names_of_items (items_of rest)) old now next a
    (subst (λ ns. AddsTo whole ns old now) (ap (λ ls. names_of_items (items_of ls)) e ∙ line-names l rest) g)
