-- The required numbers of qubits and results of a module (QIR specification, 'Attributes').
use Rattle.std.specs.Prelude.{ℕ, suc, ◌&&◌, nat_le, not, min, max, ◌==◌, if◌then◌else◌, Bool, true, false, is_some, Option, None, Some, List, [], ◌∷◌, flat_map, option_and_then, unwrap_or, codes}
use Rattle.std.specs.Char.{is_ascii_digit}
use Rattle.std.specs.List.{list_all}
use Rattle.std.specs.Str.Parse.{digits_value}
use Rattle.ir_values.specs.declared.ty.Ty.{Ty}
use Rattle.ir_values.specs.declared.ty.Ty.TheVariants as ty
use Rattle.ir_values.specs.declared.value.Value.TheVariants as value
use Rattle.ir_values.specs.Bytes.{digit_zero}
use Rattle.ir_module.specs.declared.tree.Attr.{Attr}
use Rattle.ir_module.specs.declared.tree.Function.{Function}
use Rattle.ir_module.specs.declared.tree.Module.{Module}
use Rattle.ir_module.specs.declared.tree.Operand.{Operand}
use Rattle.ir_module.specs.declared.tree.Operand.TheVariants as operand
use Rattle.ir_module.specs.Entry.{Entry, attribute_of, entry_of}
use Rattle.ir_module.specs.Steps.{steps_of}
use Rattle.type_check.specs.Typing.{wants}

abbrev pub qubits_key : List ℕ
qubits_key = codes "required_num_qubits"

abbrev pub results_key : List ℕ
results_key = codes "required_num_results"

-- ---- numbers that are stated

-- plain decimal digits, one or more, with no leading zero before another digit
abbrev pub is_plain : List ℕ → Bool
is_plain [] = false
is_plain (c ∷ []) = is_ascii_digit c
is_plain (c ∷ d ∷ cs) = not (c == digit_zero) && list_all is_ascii_digit (c ∷ d ∷ cs)

-- the number of at most the limit that a text writes so
abbrev pub plain_number : ℕ → List ℕ → Option ℕ
plain_number limit text =
    let n = digits_value 10 text in if is_plain text && nat_le n limit then Some n else None

-- the number that an attribute states; one without a value states none
abbrev pub stated_by : ℕ → Attr → Option ℕ
stated_by limit a = option_and_then (plain_number limit) a.value

-- where the attribute is there it states a number
abbrev pub states_number : ℕ → Option Attr → Bool
states_number limit None = true
states_number limit (Some a) = is_some (stated_by limit a)

-- both required numbers of a function are numbers or missing
abbrev pub numbers_are_plain : ℕ → Function → Bool
numbers_are_plain limit f =
    states_number limit (attribute_of qubits_key f.attrs) && states_number limit (attribute_of results_key f.attrs)

-- ---- numbers that are written

abbrev pub qubit_numbers : Ty × Operand → List ℕ
qubit_numbers (ty.Qubit, operand.Const (value.Id n)) = n ∷ []
qubit_numbers w = []

abbrev pub result_numbers : Ty × Operand → List ℕ
result_numbers (ty.Res, operand.Const (value.Id n)) = n ∷ []
result_numbers w = []

-- the numbers of one kind of handle that a module writes as operands, in unreached code too
abbrev pub written : (Ty × Operand → List ℕ) → Module → List ℕ
written numbers m = flat_map (λ f. flat_map (λ s. flat_map numbers (wants f s)) (steps_of f)) m.funcs

-- one more than the greatest, or 0
abbrev pub one_above : List ℕ → ℕ
one_above [] = 0
one_above (n ∷ ns) = max (suc n) (one_above ns)

-- ---- required numbers

-- what the entry states by the first attribute of this key
abbrev pub stated : List ℕ → ℕ → Option Entry → Option ℕ
stated key limit e = option_and_then (stated_by limit) (option_and_then (λ (e : Entry). attribute_of key e.function.attrs) e)

-- the required number of qubits: the stated one; where it is missing, one above the greatest that is written, at most the limit
unfoldable pub required_qubits : Module → ℕ → ℕ
required_qubits m limit = unwrap_or (stated qubits_key limit (entry_of m)) (min limit (one_above (written qubit_numbers m)))

-- the required number of results
unfoldable pub required_results : Module → ℕ → ℕ
required_results m limit = unwrap_or (stated results_key limit (entry_of m)) (min limit (one_above (written result_numbers m)))
