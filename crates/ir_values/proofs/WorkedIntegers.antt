-- Integer operations at the edges of every width, 0, 1, -1, and the least and the greatest signed value, computed.
-- A table has a row for each first operand, and in it an entry for each second one; in a row of marks `x` marks an entry.
use Rattle.std.specs.Prelude.{ℕ, ◌-◌, ◌+◌, ◌^◌, ◌≡◌, refl, ◌==◌, Bool, true, false, if◌then◌else◌, Result, Ok, Err, List, [], ◌∷◌, map, codes}
use Rattle.ir_values.specs.Arithmetic.{binary_of, compare_of, convert_of}
use Rattle.ir_values.specs.Int.{IntValue}
use Rattle.ir_values.specs.Width.{bits_of}
use Rattle.ir_values.specs.declared.cause.Cause.{Cause}
use Rattle.ir_values.specs.declared.cause.Cause.TheVariants as cause
use Rattle.ir_values.specs.declared.int.BinOp.{BinOp}
use Rattle.ir_values.specs.declared.int.BinOp.TheVariants as op
use Rattle.ir_values.specs.declared.int.Conv.{Conv}
use Rattle.ir_values.specs.declared.int.Conv.TheVariants as conv
use Rattle.ir_values.specs.declared.int.Flags.{Flags}
use Rattle.ir_values.specs.declared.int.Pred.{Pred}
use Rattle.ir_values.specs.declared.int.Pred.TheVariants as pred
use Rattle.ir_values.specs.declared.int.Width.{Width}
use Rattle.ir_values.specs.declared.int.Width.TheVariants.{W1, W8, W16, W32, W64}

-- the bits of a value of a width, or a cause
abbrev Entry : Type 0
Entry = Width → Result ℕ Cause

abbrev Table : Type 0
Table = List (List Entry)

abbrev Marks : Type 0
Marks = List (List ℕ)

abbrev zero : Entry
zero w = Ok 0

abbrev one : Entry
one w = Ok 1

abbrev two : Entry
two w = Ok 2

abbrev minus_one : Entry
minus_one w = Ok (2 ^ bits_of w - 1)

abbrev minus_two : Entry
minus_two w = Ok (2 ^ bits_of w - 2)

abbrev least : Entry
least w = Ok (2 ^ (bits_of w - 1))

abbrev least_plus_one : Entry
least_plus_one w = Ok (2 ^ (bits_of w - 1) + 1)

abbrev least_plus_two : Entry
least_plus_two w = Ok (2 ^ (bits_of w - 1) + 2)

abbrev greatest : Entry
greatest w = Ok (2 ^ (bits_of w - 1) - 1)

abbrev greatest_minus_one : Entry
greatest_minus_one w = Ok (2 ^ (bits_of w - 1) - 2)

-- 2 to the power of the width less 2
abbrev quarter : Entry
quarter w = Ok (2 ^ (bits_of w - 2))

abbrev quarter_minus_one : Entry
quarter_minus_one w = Ok (2 ^ (bits_of w - 2) - 1)

abbrev minus_quarter : Entry
minus_quarter w = Ok (2 ^ bits_of w - 2 ^ (bits_of w - 2))

abbrev width_minus_one : Entry
width_minus_one w = Ok (bits_of w - 1)

abbrev whole_width : Entry
whole_width w = Ok (bits_of w)

abbrev by_zero : Entry
by_zero w = Err cause.DivZero

abbrev overflow : Entry
overflow w = Err cause.Overflow

abbrev poison : Entry
poison w = Err cause.Poison

-- the operands of a table's rows and columns, and the widths at which it holds
record Grid : Type 0 where
  widths : List Width
  rows : List Entry
  columns : List Entry

abbrev edges : List Entry
edges = zero ∷ one ∷ minus_one ∷ least ∷ greatest ∷ []

abbrev wide : Grid
wide = record { widths = W8 ∷ W16 ∷ W32 ∷ W64 ∷ []; rows = edges; columns = edges }

-- shifts by the width less 1 and by the width
abbrev far : Grid
far = record wide { columns = width_minus_one ∷ whole_width ∷ [] }

-- at width 1 the numbers 1 and -1 and the least value are one, and the greatest is 0
abbrev narrow : Grid
narrow = record { widths = W1 ∷ []; rows = zero ∷ one ∷ []; columns = zero ∷ one ∷ [] }

abbrev integer : Width → ℕ → IntValue
integer w n = record { width = w; bits = n }

abbrev in_width : Width → Result ℕ Cause → Result IntValue Cause
in_width w (Ok n) = Ok (integer w n)
in_width w (Err e) = Err e

abbrev operand : Width → Result ℕ Cause → IntValue
operand w (Ok n) = integer w n
operand w (Err e) = integer w 0

abbrev Outcomes : Type 0
Outcomes = List (List (List (Result IntValue Cause)))

-- what an instruction gives of each two operands, at each width
abbrev given : (IntValue → IntValue → Result IntValue Cause) → Grid → Outcomes
given f g = map (λ w. map (λ a. map (λ b. f (operand w (a w)) (operand w (b w))) g.columns) g.rows) g.widths

-- what the table says
abbrev told : Grid → Table → Outcomes
told g table = map (λ w. map (map (λ e. in_width w (e w))) table) g.widths

-- a row with the entry at each mark
abbrev mark_row : Entry → List Entry → List ℕ → List Entry
mark_row entry (old ∷ row) (mark ∷ marks) = (if mark == 120 then entry else old) ∷ mark_row entry row marks
mark_row entry row marks = row

abbrev mark : Entry → Table → Marks → Table
mark entry (row ∷ table) (r ∷ marks) = mark_row entry row r ∷ mark entry table marks
mark entry table marks = table

abbrev flags : Bool → Bool → Bool → Flags
flags nuw nsw exact = record { nuw = nuw; nsw = nsw; exact = exact }

-- the table of an operation on which no flag may stand
abbrev IsPlain : BinOp → Grid → Table → Type 0
IsPlain o g table = given (binary_of o (flags false false false)) g ≡ told g table

-- the table of an operation without `exact`, and with it, when it is broken at its marks alone
abbrev IsExact : BinOp → Grid → Table → Marks → Type 0
IsExact o g table exact =
    (given (binary_of o (flags false false false)) g ≡ told g table)
    × (given (binary_of o (flags false false true)) g ≡ told g (mark poison table exact))

-- the table of an operation without a flag, and with `nuw`, `nsw` and both, when each is broken at its marks alone
abbrev Wraps : BinOp → Grid → Table → Marks → Marks → Type 0
Wraps o g table nuw nsw =
    (given (binary_of o (flags false false false)) g ≡ told g table)
    × (given (binary_of o (flags true false false)) g ≡ told g (mark poison table nuw))
    × (given (binary_of o (flags false true false)) g ≡ told g (mark poison table nsw))
    × (given (binary_of o (flags true true false)) g ≡ told g (mark poison (mark poison table nuw) nsw))

-- which predicates hold at their marks alone
abbrev held : Pred → IntValue → IntValue → Result IntValue Cause
held p a b = Ok (integer a.width (if compare_of p a b then 1 else 0))

abbrev none : Grid → Table
none g = map (λ a. map (λ b. zero) g.columns) g.rows

abbrev Holds : Grid → List (Pred × Marks) → Type 0
Holds g rows = map (λ r. given (held r.0) g) rows ≡ map (λ r. told g (mark one (none g) r.1)) rows

-- what a conversion gives of the edges of a width
abbrev Converts : Conv → List (Width × (Width × List ℕ)) → Type 0
Converts c rows =
    map (λ r. map (λ e. convert_of c (operand r.0 (e r.0)) r.1.0) edges) rows ≡ map (λ r. map (integer r.1.0) r.1.1) rows

sums : Wraps op.Add wide (
    (zero ∷ one ∷ minus_one ∷ least ∷ greatest ∷ [])
    ∷ (one ∷ two ∷ zero ∷ least_plus_one ∷ least ∷ [])
    ∷ (minus_one ∷ zero ∷ minus_two ∷ greatest ∷ greatest_minus_one ∷ [])
    ∷ (least ∷ least_plus_one ∷ greatest ∷ zero ∷ minus_one ∷ [])
    ∷ (greatest ∷ least ∷ greatest_minus_one ∷ minus_one ∷ minus_two ∷ [])
    ∷ [])
    (codes "....." ∷ codes "..x.." ∷ codes ".xxxx" ∷ codes "..xx." ∷ codes "..x.." ∷ [])
    (codes "....." ∷ codes "....x" ∷ codes "...x." ∷ codes "..xx." ∷ codes ".x..x" ∷ [])
unfolding binary_of
sums = (refl, refl, refl, refl)

sums_narrow : Wraps op.Add narrow (
    (zero ∷ one ∷ [])
    ∷ (one ∷ zero ∷ [])
    ∷ [])
    (codes ".." ∷ codes ".x" ∷ [])
    (codes ".." ∷ codes ".x" ∷ [])
unfolding binary_of
sums_narrow = (refl, refl, refl, refl)

differences : Wraps op.Sub wide (
    (zero ∷ minus_one ∷ one ∷ least ∷ least_plus_one ∷ [])
    ∷ (one ∷ zero ∷ two ∷ least_plus_one ∷ least_plus_two ∷ [])
    ∷ (minus_one ∷ minus_two ∷ zero ∷ greatest ∷ least ∷ [])
    ∷ (least ∷ greatest ∷ least_plus_one ∷ zero ∷ one ∷ [])
    ∷ (greatest ∷ greatest_minus_one ∷ least ∷ minus_one ∷ zero ∷ [])
    ∷ [])
    (codes ".xxxx" ∷ codes "..xxx" ∷ codes "....." ∷ codes "..x.." ∷ codes "..xx." ∷ [])
    (codes "...x." ∷ codes "...x." ∷ codes "....." ∷ codes ".x..x" ∷ codes "..xx." ∷ [])
unfolding binary_of
differences = (refl, refl, refl, refl)

differences_narrow : Wraps op.Sub narrow (
    (zero ∷ one ∷ [])
    ∷ (one ∷ zero ∷ [])
    ∷ [])
    (codes ".x" ∷ codes ".." ∷ [])
    (codes ".x" ∷ codes ".." ∷ [])
unfolding binary_of
differences_narrow = (refl, refl, refl, refl)

products : Wraps op.Mul wide (
    (zero ∷ zero ∷ zero ∷ zero ∷ zero ∷ [])
    ∷ (zero ∷ one ∷ minus_one ∷ least ∷ greatest ∷ [])
    ∷ (zero ∷ minus_one ∷ one ∷ least ∷ least_plus_one ∷ [])
    ∷ (zero ∷ least ∷ least ∷ zero ∷ least ∷ [])
    ∷ (zero ∷ greatest ∷ least_plus_one ∷ least ∷ one ∷ [])
    ∷ [])
    (codes "....." ∷ codes "....." ∷ codes "..xxx" ∷ codes "..xxx" ∷ codes "..xxx" ∷ [])
    (codes "....." ∷ codes "....." ∷ codes "...x." ∷ codes "..xxx" ∷ codes "...xx" ∷ [])
unfolding binary_of
products = (refl, refl, refl, refl)

products_narrow : Wraps op.Mul narrow (
    (zero ∷ zero ∷ [])
    ∷ (zero ∷ one ∷ [])
    ∷ [])
    (codes ".." ∷ codes ".." ∷ [])
    (codes ".." ∷ codes ".x" ∷ [])
unfolding binary_of
products_narrow = (refl, refl, refl, refl)

unsigned_quotients : IsExact op.UDiv wide (
    (by_zero ∷ zero ∷ zero ∷ zero ∷ zero ∷ [])
    ∷ (by_zero ∷ one ∷ zero ∷ zero ∷ zero ∷ [])
    ∷ (by_zero ∷ minus_one ∷ one ∷ one ∷ two ∷ [])
    ∷ (by_zero ∷ least ∷ zero ∷ one ∷ one ∷ [])
    ∷ (by_zero ∷ greatest ∷ zero ∷ zero ∷ one ∷ [])
    ∷ [])
    (codes "....." ∷ codes "..xxx" ∷ codes "...xx" ∷ codes "..x.x" ∷ codes "..xx." ∷ [])
unfolding binary_of
unsigned_quotients = (refl, refl)

unsigned_quotients_narrow : IsExact op.UDiv narrow (
    (by_zero ∷ zero ∷ [])
    ∷ (by_zero ∷ one ∷ [])
    ∷ [])
    (codes ".." ∷ codes ".." ∷ [])
unfolding binary_of
unsigned_quotients_narrow = (refl, refl)

signed_quotients : IsExact op.SDiv wide (
    (by_zero ∷ zero ∷ zero ∷ zero ∷ zero ∷ [])
    ∷ (by_zero ∷ one ∷ minus_one ∷ zero ∷ zero ∷ [])
    ∷ (by_zero ∷ minus_one ∷ one ∷ zero ∷ zero ∷ [])
    ∷ (by_zero ∷ least ∷ overflow ∷ one ∷ minus_one ∷ [])
    ∷ (by_zero ∷ greatest ∷ least_plus_one ∷ zero ∷ one ∷ [])
    ∷ [])
    (codes "....." ∷ codes "...xx" ∷ codes "...xx" ∷ codes "....x" ∷ codes "...x." ∷ [])
unfolding binary_of
signed_quotients = (refl, refl)

signed_quotients_narrow : IsExact op.SDiv narrow (
    (by_zero ∷ zero ∷ [])
    ∷ (by_zero ∷ overflow ∷ [])
    ∷ [])
    (codes ".." ∷ codes ".." ∷ [])
unfolding binary_of
signed_quotients_narrow = (refl, refl)

unsigned_remainders : IsPlain op.URem wide (
    (by_zero ∷ zero ∷ zero ∷ zero ∷ zero ∷ [])
    ∷ (by_zero ∷ zero ∷ one ∷ one ∷ one ∷ [])
    ∷ (by_zero ∷ zero ∷ zero ∷ greatest ∷ one ∷ [])
    ∷ (by_zero ∷ zero ∷ least ∷ zero ∷ one ∷ [])
    ∷ (by_zero ∷ zero ∷ greatest ∷ greatest ∷ zero ∷ [])
    ∷ [])
unfolding binary_of
unsigned_remainders = refl

unsigned_remainders_narrow : IsPlain op.URem narrow (
    (by_zero ∷ zero ∷ [])
    ∷ (by_zero ∷ zero ∷ [])
    ∷ [])
unfolding binary_of
unsigned_remainders_narrow = refl

signed_remainders : IsPlain op.SRem wide (
    (by_zero ∷ zero ∷ zero ∷ zero ∷ zero ∷ [])
    ∷ (by_zero ∷ zero ∷ zero ∷ one ∷ one ∷ [])
    ∷ (by_zero ∷ zero ∷ zero ∷ minus_one ∷ minus_one ∷ [])
    ∷ (by_zero ∷ zero ∷ overflow ∷ zero ∷ minus_one ∷ [])
    ∷ (by_zero ∷ zero ∷ zero ∷ greatest ∷ zero ∷ [])
    ∷ [])
unfolding binary_of
signed_remainders = refl

signed_remainders_narrow : IsPlain op.SRem narrow (
    (by_zero ∷ zero ∷ [])
    ∷ (by_zero ∷ overflow ∷ [])
    ∷ [])
unfolding binary_of
signed_remainders_narrow = refl

shifts_to_the_left : Wraps op.Shl wide (
    (zero ∷ zero ∷ poison ∷ poison ∷ poison ∷ [])
    ∷ (one ∷ two ∷ poison ∷ poison ∷ poison ∷ [])
    ∷ (minus_one ∷ minus_two ∷ poison ∷ poison ∷ poison ∷ [])
    ∷ (least ∷ zero ∷ poison ∷ poison ∷ poison ∷ [])
    ∷ (greatest ∷ minus_two ∷ poison ∷ poison ∷ poison ∷ [])
    ∷ [])
    (codes "....." ∷ codes "....." ∷ codes ".x..." ∷ codes ".x..." ∷ codes "....." ∷ [])
    (codes "....." ∷ codes "....." ∷ codes "....." ∷ codes ".x..." ∷ codes ".x..." ∷ [])
unfolding binary_of
shifts_to_the_left = (refl, refl, refl, refl)

shifts_to_the_left_far : Wraps op.Shl far (
    (zero ∷ poison ∷ [])
    ∷ (least ∷ poison ∷ [])
    ∷ (least ∷ poison ∷ [])
    ∷ (zero ∷ poison ∷ [])
    ∷ (least ∷ poison ∷ [])
    ∷ [])
    (codes ".." ∷ codes ".." ∷ codes "x." ∷ codes "x." ∷ codes "x." ∷ [])
    (codes ".." ∷ codes "x." ∷ codes ".." ∷ codes "x." ∷ codes "x." ∷ [])
unfolding binary_of
shifts_to_the_left_far = (refl, refl, refl, refl)

shifts_to_the_left_narrow : Wraps op.Shl narrow (
    (zero ∷ poison ∷ [])
    ∷ (one ∷ poison ∷ [])
    ∷ [])
    (codes ".." ∷ codes ".." ∷ [])
    (codes ".." ∷ codes ".." ∷ [])
unfolding binary_of
shifts_to_the_left_narrow = (refl, refl, refl, refl)

logical_shifts_to_the_right : IsExact op.LShr wide (
    (zero ∷ zero ∷ poison ∷ poison ∷ poison ∷ [])
    ∷ (one ∷ zero ∷ poison ∷ poison ∷ poison ∷ [])
    ∷ (minus_one ∷ greatest ∷ poison ∷ poison ∷ poison ∷ [])
    ∷ (least ∷ quarter ∷ poison ∷ poison ∷ poison ∷ [])
    ∷ (greatest ∷ quarter_minus_one ∷ poison ∷ poison ∷ poison ∷ [])
    ∷ [])
    (codes "....." ∷ codes ".x..." ∷ codes ".x..." ∷ codes "....." ∷ codes ".x..." ∷ [])
unfolding binary_of
logical_shifts_to_the_right = (refl, refl)

logical_shifts_to_the_right_far : IsExact op.LShr far (
    (zero ∷ poison ∷ [])
    ∷ (zero ∷ poison ∷ [])
    ∷ (one ∷ poison ∷ [])
    ∷ (one ∷ poison ∷ [])
    ∷ (zero ∷ poison ∷ [])
    ∷ [])
    (codes ".." ∷ codes "x." ∷ codes "x." ∷ codes ".." ∷ codes "x." ∷ [])
unfolding binary_of
logical_shifts_to_the_right_far = (refl, refl)

logical_shifts_to_the_right_narrow : IsExact op.LShr narrow (
    (zero ∷ poison ∷ [])
    ∷ (one ∷ poison ∷ [])
    ∷ [])
    (codes ".." ∷ codes ".." ∷ [])
unfolding binary_of
logical_shifts_to_the_right_narrow = (refl, refl)

arithmetic_shifts_to_the_right : IsExact op.AShr wide (
    (zero ∷ zero ∷ poison ∷ poison ∷ poison ∷ [])
    ∷ (one ∷ zero ∷ poison ∷ poison ∷ poison ∷ [])
    ∷ (minus_one ∷ minus_one ∷ poison ∷ poison ∷ poison ∷ [])
    ∷ (least ∷ minus_quarter ∷ poison ∷ poison ∷ poison ∷ [])
    ∷ (greatest ∷ quarter_minus_one ∷ poison ∷ poison ∷ poison ∷ [])
    ∷ [])
    (codes "....." ∷ codes ".x..." ∷ codes ".x..." ∷ codes "....." ∷ codes ".x..." ∷ [])
unfolding binary_of
arithmetic_shifts_to_the_right = (refl, refl)

arithmetic_shifts_to_the_right_far : IsExact op.AShr far (
    (zero ∷ poison ∷ [])
    ∷ (zero ∷ poison ∷ [])
    ∷ (minus_one ∷ poison ∷ [])
    ∷ (minus_one ∷ poison ∷ [])
    ∷ (zero ∷ poison ∷ [])
    ∷ [])
    (codes ".." ∷ codes "x." ∷ codes "x." ∷ codes ".." ∷ codes "x." ∷ [])
unfolding binary_of
arithmetic_shifts_to_the_right_far = (refl, refl)

arithmetic_shifts_to_the_right_narrow : IsExact op.AShr narrow (
    (zero ∷ poison ∷ [])
    ∷ (one ∷ poison ∷ [])
    ∷ [])
    (codes ".." ∷ codes ".." ∷ [])
unfolding binary_of
arithmetic_shifts_to_the_right_narrow = (refl, refl)

conjunctions : IsPlain op.And wide (
    (zero ∷ zero ∷ zero ∷ zero ∷ zero ∷ [])
    ∷ (zero ∷ one ∷ one ∷ zero ∷ one ∷ [])
    ∷ (zero ∷ one ∷ minus_one ∷ least ∷ greatest ∷ [])
    ∷ (zero ∷ zero ∷ least ∷ least ∷ zero ∷ [])
    ∷ (zero ∷ one ∷ greatest ∷ zero ∷ greatest ∷ [])
    ∷ [])
unfolding binary_of
conjunctions = refl

conjunctions_narrow : IsPlain op.And narrow (
    (zero ∷ zero ∷ [])
    ∷ (zero ∷ one ∷ [])
    ∷ [])
unfolding binary_of
conjunctions_narrow = refl

disjunctions : IsPlain op.Or wide (
    (zero ∷ one ∷ minus_one ∷ least ∷ greatest ∷ [])
    ∷ (one ∷ one ∷ minus_one ∷ least_plus_one ∷ greatest ∷ [])
    ∷ (minus_one ∷ minus_one ∷ minus_one ∷ minus_one ∷ minus_one ∷ [])
    ∷ (least ∷ least_plus_one ∷ minus_one ∷ least ∷ minus_one ∷ [])
    ∷ (greatest ∷ greatest ∷ minus_one ∷ minus_one ∷ greatest ∷ [])
    ∷ [])
unfolding binary_of
disjunctions = refl

disjunctions_narrow : IsPlain op.Or narrow (
    (zero ∷ one ∷ [])
    ∷ (one ∷ one ∷ [])
    ∷ [])
unfolding binary_of
disjunctions_narrow = refl

exclusive_disjunctions : IsPlain op.Xor wide (
    (zero ∷ one ∷ minus_one ∷ least ∷ greatest ∷ [])
    ∷ (one ∷ zero ∷ minus_two ∷ least_plus_one ∷ greatest_minus_one ∷ [])
    ∷ (minus_one ∷ minus_two ∷ zero ∷ greatest ∷ least ∷ [])
    ∷ (least ∷ least_plus_one ∷ greatest ∷ zero ∷ minus_one ∷ [])
    ∷ (greatest ∷ greatest_minus_one ∷ least ∷ minus_one ∷ zero ∷ [])
    ∷ [])
unfolding binary_of
exclusive_disjunctions = refl

exclusive_disjunctions_narrow : IsPlain op.Xor narrow (
    (zero ∷ one ∷ [])
    ∷ (one ∷ zero ∷ [])
    ∷ [])
unfolding binary_of
exclusive_disjunctions_narrow = refl

predicates_wide : Holds wide
    ((pred.Eq, (codes "x...." ∷ codes ".x..." ∷ codes "..x.." ∷ codes "...x." ∷ codes "....x" ∷ []))
    ∷ (pred.Ne, (codes ".xxxx" ∷ codes "x.xxx" ∷ codes "xx.xx" ∷ codes "xxx.x" ∷ codes "xxxx." ∷ []))
    ∷ (pred.Ugt, (codes "....." ∷ codes "x...." ∷ codes "xx.xx" ∷ codes "xx..x" ∷ codes "xx..." ∷ []))
    ∷ (pred.Uge, (codes "x...." ∷ codes "xx..." ∷ codes "xxxxx" ∷ codes "xx.xx" ∷ codes "xx..x" ∷ []))
    ∷ (pred.Ult, (codes ".xxxx" ∷ codes "..xxx" ∷ codes "....." ∷ codes "..x.." ∷ codes "..xx." ∷ []))
    ∷ (pred.Ule, (codes "xxxxx" ∷ codes ".xxxx" ∷ codes "..x.." ∷ codes "..xx." ∷ codes "..xxx" ∷ []))
    ∷ (pred.Sgt, (codes "..xx." ∷ codes "x.xx." ∷ codes "...x." ∷ codes "....." ∷ codes "xxxx." ∷ []))
    ∷ (pred.Sge, (codes "x.xx." ∷ codes "xxxx." ∷ codes "..xx." ∷ codes "...x." ∷ codes "xxxxx" ∷ []))
    ∷ (pred.Slt, (codes ".x..x" ∷ codes "....x" ∷ codes "xx..x" ∷ codes "xxx.x" ∷ codes "....." ∷ []))
    ∷ (pred.Sle, (codes "xx..x" ∷ codes ".x..x" ∷ codes "xxx.x" ∷ codes "xxxxx" ∷ codes "....x" ∷ []))
    ∷ [])
unfolding compare_of
predicates_wide = refl

predicates_narrow : Holds narrow
    ((pred.Eq, (codes "x." ∷ codes ".x" ∷ []))
    ∷ (pred.Ne, (codes ".x" ∷ codes "x." ∷ []))
    ∷ (pred.Ugt, (codes ".." ∷ codes "x." ∷ []))
    ∷ (pred.Slt, (codes ".." ∷ codes "x." ∷ []))
    ∷ (pred.Uge, (codes "x." ∷ codes "xx" ∷ []))
    ∷ (pred.Sle, (codes "x." ∷ codes "xx" ∷ []))
    ∷ (pred.Ult, (codes ".x" ∷ codes ".." ∷ []))
    ∷ (pred.Sgt, (codes ".x" ∷ codes ".." ∷ []))
    ∷ (pred.Ule, (codes "xx" ∷ codes ".x" ∷ []))
    ∷ (pred.Sge, (codes "xx" ∷ codes ".x" ∷ []))
    ∷ [])
unfolding compare_of
predicates_narrow = refl

zero_extensions : Converts conv.ZExt
    ((W1, (W8, 0 ∷ 1 ∷ 1 ∷ 1 ∷ 0 ∷ []))
    ∷ (W1, (W16, 0 ∷ 1 ∷ 1 ∷ 1 ∷ 0 ∷ []))
    ∷ (W1, (W32, 0 ∷ 1 ∷ 1 ∷ 1 ∷ 0 ∷ []))
    ∷ (W1, (W64, 0 ∷ 1 ∷ 1 ∷ 1 ∷ 0 ∷ []))
    ∷ (W8, (W16, 0 ∷ 1 ∷ 255 ∷ 128 ∷ 127 ∷ []))
    ∷ (W8, (W32, 0 ∷ 1 ∷ 255 ∷ 128 ∷ 127 ∷ []))
    ∷ (W8, (W64, 0 ∷ 1 ∷ 255 ∷ 128 ∷ 127 ∷ []))
    ∷ (W16, (W32, 0 ∷ 1 ∷ 65535 ∷ 32768 ∷ 32767 ∷ []))
    ∷ (W16, (W64, 0 ∷ 1 ∷ 65535 ∷ 32768 ∷ 32767 ∷ []))
    ∷ (W32, (W64, 0 ∷ 1 ∷ 4294967295 ∷ 2147483648 ∷ 2147483647 ∷ []))
    ∷ [])
unfolding convert_of
zero_extensions = refl

sign_extensions : Converts conv.SExt
    ((W1, (W8, 0 ∷ 255 ∷ 255 ∷ 255 ∷ 0 ∷ []))
    ∷ (W1, (W16, 0 ∷ 65535 ∷ 65535 ∷ 65535 ∷ 0 ∷ []))
    ∷ (W1, (W32, 0 ∷ 4294967295 ∷ 4294967295 ∷ 4294967295 ∷ 0 ∷ []))
    ∷ (W1, (W64, 0 ∷ 18446744073709551615 ∷ 18446744073709551615 ∷ 18446744073709551615 ∷ 0 ∷ []))
    ∷ (W8, (W16, 0 ∷ 1 ∷ 65535 ∷ 65408 ∷ 127 ∷ []))
    ∷ (W8, (W32, 0 ∷ 1 ∷ 4294967295 ∷ 4294967168 ∷ 127 ∷ []))
    ∷ (W8, (W64, 0 ∷ 1 ∷ 18446744073709551615 ∷ 18446744073709551488 ∷ 127 ∷ []))
    ∷ (W16, (W32, 0 ∷ 1 ∷ 4294967295 ∷ 4294934528 ∷ 32767 ∷ []))
    ∷ (W16, (W64, 0 ∷ 1 ∷ 18446744073709551615 ∷ 18446744073709518848 ∷ 32767 ∷ []))
    ∷ (W32, (W64, 0 ∷ 1 ∷ 18446744073709551615 ∷ 18446744071562067968 ∷ 2147483647 ∷ []))
    ∷ [])
unfolding convert_of
sign_extensions = refl

truncations : Converts conv.Trunc
    ((W8, (W1, 0 ∷ 1 ∷ 1 ∷ 0 ∷ 1 ∷ []))
    ∷ (W16, (W1, 0 ∷ 1 ∷ 1 ∷ 0 ∷ 1 ∷ []))
    ∷ (W32, (W1, 0 ∷ 1 ∷ 1 ∷ 0 ∷ 1 ∷ []))
    ∷ (W64, (W1, 0 ∷ 1 ∷ 1 ∷ 0 ∷ 1 ∷ []))
    ∷ (W16, (W8, 0 ∷ 1 ∷ 255 ∷ 0 ∷ 255 ∷ []))
    ∷ (W32, (W8, 0 ∷ 1 ∷ 255 ∷ 0 ∷ 255 ∷ []))
    ∷ (W64, (W8, 0 ∷ 1 ∷ 255 ∷ 0 ∷ 255 ∷ []))
    ∷ (W32, (W16, 0 ∷ 1 ∷ 65535 ∷ 0 ∷ 65535 ∷ []))
    ∷ (W64, (W16, 0 ∷ 1 ∷ 65535 ∷ 0 ∷ 65535 ∷ []))
    ∷ (W64, (W32, 0 ∷ 1 ∷ 4294967295 ∷ 0 ∷ 4294967295 ∷ []))
    ∷ [])
unfolding convert_of
truncations = refl
