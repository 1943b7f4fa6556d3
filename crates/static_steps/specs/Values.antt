-- Values that constant evaluation knows or doesn't, and the names of a frame that have one.
use Rattle.std.specs.Prelude.{ℕ, ◌+◌, ◌==◌, ◌&&◌, Bool, true, false, nat_lt, not, if◌then◌else◌, Option, None, Some, List, [], ◌∷◌, ◌++◌, filter}
use Rattle.ir_module.specs.declared.tree.Operand.{Operand}
use Rattle.ir_module.specs.declared.tree.Operand.TheVariants as operand
use Rattle.ir_values.specs.declared.ids.LocalId.{LocalId}
use Rattle.ir_values.specs.declared.int.Width.{Width}
use Rattle.ir_values.specs.declared.value.Value.{Value}
use Rattle.ir_values.specs.declared.value.Value.TheVariants as value
use Rattle.ir_values.specs.Values.{same_value}
use Rattle.kept_items.specs.declared.val.Dyn.{Dyn}
use Rattle.kept_items.specs.declared.val.Val.{Val}
use Rattle.kept_items.specs.declared.val.Val.TheVariants.{Known, Dynamic}

-- ---- equal values

-- both are known, and they are equal
abbrev pub same_known : Val → Val → Bool
same_known (Known v) (Known u) = same_value v u
same_known a b = false

-- ---- names with what is said of them, by rising number

abbrev pub Names : Type 0 → Type 0
Names A = List (LocalId × A)

abbrev pub look : {A : Type 0} → LocalId → Names A → Option A
look x [] = None
look x (e ∷ es) = if e.0.0 == x.0 then Some e.1 else look x es

-- the name gets this
abbrev pub put : {A : Type 0} → LocalId → A → Names A → Names A
put x a [] = (x, a) ∷ []
put x a (e ∷ es) = if e.0.0 == x.0 then (x, a) ∷ es else (if nat_lt x.0 e.0.0 then (x, a) ∷ e ∷ es else e ∷ put x a es)

abbrev pub drop_name : {A : Type 0} → LocalId → Names A → Names A
drop_name x ns = filter (λ e. not (e.0.0 == x.0)) ns

abbrev pub keep : {A : Type 0} → (LocalId → Bool) → Names A → Names A
keep live ns = filter (λ e. live e.0) ns

abbrev pub put_some : {A : Type 0} → LocalId → Option A → Names A → Names A
put_some x None ns = drop_name x ns
put_some x (Some a) ns = put x a ns

abbrev pub put_result : {A : Type 0} → Option LocalId → A → Names A → Names A
put_result None a ns = ns
put_result (Some x) a ns = put x a ns

abbrev pub drop_result : {A : Type 0} → Option LocalId → Names A → Names A
drop_result None ns = ns
drop_result (Some x) ns = drop_name x ns

-- ---- operands

abbrev pub val_of : Names Val → Operand → Option Val
val_of ns (operand.Const v) = Some (Known v)
val_of ns (operand.Local x) = look x ns

abbrev pub one_val : Option Val → Option (List Val) → Option (List Val)
one_val None o = None
one_val (Some a) None = None
one_val (Some a) (Some as_) = Some (a ∷ as_)

-- the values of operands, where each has one
abbrev pub vals_of : Names Val → List Operand → Option (List Val)
vals_of ns [] = Some []
vals_of ns (a ∷ rest) = one_val (val_of ns a) (vals_of ns rest)

-- ---- between steps a Dynamic name has no number: None

abbrev pub is_dynamic : Option Value → ℕ
is_dynamic None = 1
is_dynamic (Some v) = 0

abbrev pub with_number : ℕ → Option Value → Val
with_number n None = Dynamic (record { 0 = n })
with_number n (Some v) = Known v

-- how many names are Dynamic
abbrev pub dynamics : Names (Option Value) → ℕ
dynamics [] = 0
dynamics (e ∷ es) = is_dynamic e.1 + dynamics es

-- the Dynamic names are numbered from n on, in order
abbrev pub numbered : ℕ → Names (Option Value) → Names Val
numbered n [] = []
numbered n (e ∷ es) = (e.0, with_number n e.1) ∷ numbered (n + is_dynamic e.1) es

abbrev pub without_number : Val → Option Value
without_number (Known v) = Some v
without_number (Dynamic i) = None

abbrev pub number_of : Val → List Dyn
number_of (Known v) = []
number_of (Dynamic i) = i ∷ []

abbrev pub shape : Names Val → Names (Option Value)
shape [] = []
shape (e ∷ es) = (e.0, without_number e.1) ∷ shape es

-- the numbers that the Dynamic names have
abbrev pub numbers : Names Val → List Dyn
numbers [] = []
numbers (e ∷ es) = number_of e.1 ++ numbers es
