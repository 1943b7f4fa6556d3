-- What a declared function does, by its name and its types (QIR specification, 'Runtime Functions' and 'Quantum Instruction Set').
use Rattle.std.specs.Prelude.{ℕ, ◌==◌, Bool, true, false, ◌&&◌, not, nat_eq, if◌then◌else◌, Option, None, Some, List, [], ◌∷◌, ◌++◌, length, codes}
use Rattle.std.specs.List.{find, list_all, list_any, starts_with}
use Rattle.std.specs.Prelude.{count_by}
use Rattle.std.specs.Option.{option_map}
use Rattle.std.specs.Cmp.Lexicographic.{pointwise}
use Rattle.ir_values.specs.declared.int.Width.TheVariants.{W1, W32, W64}
use Rattle.ir_values.specs.declared.sig.TyWord.{TyWord}
use Rattle.ir_values.specs.declared.sig.TyWord.TheVariants as word
use Rattle.ir_values.specs.declared.class.Class.{Class}
use Rattle.ir_values.specs.declared.class.Class.TheVariants as class
use Rattle.ir_values.specs.Names.{runtime_prefix, instruction_prefix}
use Rattle.ir_values.specs.Width.{bits_of}

-- a function of this name with these types has this class
pub record Row : Type 0 where
  pub name : List ℕ
  pub words : List TyWord
  pub class : Class

-- the runtime function of this name
abbrev pub rt : List ℕ → List ℕ
rt name = runtime_prefix ++ name

-- the quantum instruction of this name
abbrev pub qis : List ℕ → List ℕ
qis name = instruction_prefix ++ name

-- the words of the type of functions that give `ret` and take `params`, each of one word
abbrev pub gives : TyWord → List TyWord → List TyWord
gives ret params = word.Func (length params) ∷ ret ∷ params

abbrev pub row : List ℕ → List TyWord → Class → Row
row name words class = record { name = name; words = words; class = class }

-- the functions that are known by their names
abbrev pub rows : List Row
rows =
    row (rt (codes "initialize")) (gives word.Void (word.Text ∷ [])) class.Init
    ∷ row (rt (codes "qubit_allocate")) (gives word.Qubit []) class.Alloc
    ∷ row (rt (codes "qubit_release")) (gives word.Void (word.Qubit ∷ [])) class.Release
    ∷ row (rt (codes "result_get_one")) (gives word.Res []) class.One
    ∷ row (rt (codes "result_get_zero")) (gives word.Res []) class.Zero
    ∷ row (rt (codes "result_equal")) (gives (word.Int W1) (word.Res ∷ word.Res ∷ [])) class.Equal
    ∷ row (rt (codes "result_update_reference_count")) (gives word.Void (word.Res ∷ word.Int W32 ∷ [])) class.Count
    ∷ row (rt (codes "read_result")) (gives (word.Int W1) (word.Res ∷ [])) class.Read
    ∷ row (qis (codes "read_result__body")) (gives (word.Int W1) (word.Res ∷ [])) class.Read
    ∷ row (rt (codes "tuple_record_output")) (gives word.Void (word.Int W64 ∷ word.Text ∷ [])) class.Tuple
    ∷ row (rt (codes "array_record_output")) (gives word.Void (word.Int W64 ∷ word.Text ∷ [])) class.Array
    ∷ row (rt (codes "result_record_output")) (gives word.Void (word.Res ∷ word.Text ∷ [])) class.ResRecord
    ∷ row (rt (codes "bool_record_output")) (gives word.Void (word.Int W1 ∷ word.Text ∷ [])) class.BoolRecord
    ∷ row (rt (codes "int_record_output")) (gives word.Void (word.Int W64 ∷ word.Text ∷ [])) class.IntRecord
    ∷ row (rt (codes "double_record_output")) (gives word.Void (word.Double ∷ word.Text ∷ [])) class.DoubleRecord
    ∷ row (qis (codes "m__body")) (gives word.Res (word.Qubit ∷ [])) class.Returning
    ∷ row (qis (codes "m__body")) (gives word.Void (word.Qubit ∷ word.Res ∷ [])) class.Measure
    ∷ row (qis (codes "mz__body")) (gives word.Void (word.Qubit ∷ word.Res ∷ [])) class.Measure
    ∷ row (qis (codes "mresetz__body")) (gives word.Void (word.Qubit ∷ word.Res ∷ [])) class.Measure
    ∷ []

abbrev pub same_text : List ℕ → List ℕ → Bool
same_text = pointwise nat_eq

-- a word as two numbers
abbrev pub word_code : TyWord → ℕ × ℕ
word_code word.Void = (0, 0)
word_code (word.Int w) = (1, bits_of w)
word_code word.Double = (2, 0)
word_code word.Qubit = (3, 0)
word_code word.Res = (4, 0)
word_code word.Text = (5, 0)
word_code (word.Func n) = (6, n)

abbrev pub same_word : TyWord → TyWord → Bool
same_word a b = ((word_code a).0 == (word_code b).0) && ((word_code a).1 == (word_code b).1)

abbrev pub same_words : List TyWord → List TyWord → Bool
same_words = pointwise same_word

abbrev pub is_result : TyWord → Bool
is_result a = same_word a word.Res

-- what a parameter of a quantum instruction may be
abbrev pub is_operand : TyWord → Bool
is_operand word.Void = false
is_operand (word.Int w) = true
is_operand word.Double = true
is_operand word.Qubit = true
is_operand word.Res = true
is_operand word.Text = false
is_operand (word.Func n) = false

-- a quantum instruction that isn't known by its name: a measurement where it takes one result, a gate where it takes none
abbrev pub class_of_params : List TyWord → Option Class
class_of_params params =
    if not (list_all is_operand params) then None
    else if count_by is_result params == 0 then Some class.Gate
    else if count_by is_result params == 1 then Some class.Measure
    else None

abbrev pub class_of_words : List TyWord → Option Class
class_of_words (word.Func n ∷ word.Void ∷ params) = class_of_params params
class_of_words words = None

abbrev pub class_of_unknown : List ℕ → List TyWord → Option Class
class_of_unknown name words = if starts_with nat_eq name instruction_prefix then class_of_words words else None

-- the class of a declared function, by its name and the words of its type
unfoldable pub class_of : List ℕ → List TyWord → Option Class
class_of name words =
    if list_any (λ r. same_text name r.name) rows
    then option_map (λ r. r.class) (find (λ r. same_text name r.name && same_words words r.words) rows)
    else class_of_unknown name words
