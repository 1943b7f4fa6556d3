-- The classes of declared functions by their names and types, computed. Types are written by letters, the return type first: void, qubit, result,
-- text, double, a function, and the last digit of an integer's width.
use Rattle.std.specs.Prelude.{ℕ, ◌≡◌, refl, ◌==◌, if◌then◌else◌, Option, None, Some, List, [], ◌∷◌, ◌++◌, length, map, codes}
use Rattle.std.specs.List.{flat_map}
use Rattle.ir_values.specs.Calls.{class_of}
use Rattle.ir_values.specs.declared.class.Class.{Class}
use Rattle.ir_values.specs.declared.class.Class.TheVariants as class
use Rattle.ir_values.specs.declared.int.Width.TheVariants.{W1, W8, W16, W32, W64}
use Rattle.ir_values.specs.declared.sig.TyWord.{TyWord}
use Rattle.ir_values.specs.declared.sig.TyWord.TheVariants as word

abbrev letters : List ℕ
letters = codes "vqrtdf18624"

-- the types of the letters, each by its words
abbrev types : List (List TyWord)
types =
    (word.Void ∷ [])
    ∷ (word.Qubit ∷ [])
    ∷ (word.Res ∷ [])
    ∷ (word.Text ∷ [])
    ∷ (word.Double ∷ [])
    ∷ (word.Func 0 ∷ word.Void ∷ [])
    ∷ (word.Int W1 ∷ [])
    ∷ (word.Int W8 ∷ [])
    ∷ (word.Int W16 ∷ [])
    ∷ (word.Int W32 ∷ [])
    ∷ (word.Int W64 ∷ [])
    ∷ []

abbrev type_among : List ℕ → List (List TyWord) → ℕ → List TyWord
type_among (c ∷ cs) (t ∷ ts) letter = if c == letter then t else type_among cs ts letter
type_among cs ts letter = []

abbrev type_of : ℕ → List TyWord
type_of = type_among letters types

-- the words of the type of a function
abbrev words_of : List ℕ → List TyWord
words_of [] = []
words_of (ret ∷ params) = word.Func (length params) ∷ (type_of ret ++ flat_map type_of params)

abbrev typed : List ℕ → List ℕ → Option Class
typed name letters' = class_of name (words_of letters')

-- what the names have with each of the types
abbrev classes : List (List ℕ) → List (List ℕ) → List (List (Option Class))
classes names list = map (λ name. map (typed name) list) names

-- each has the same
abbrev all_are : Option Class → List (List ℕ) → List (List ℕ) → List (List (Option Class))
all_are c names list = map (λ name. map (λ t. c) list) names

record Known : Type 0 where
  name : List ℕ
  letters : List ℕ
  class : Class

abbrev known : List ℕ → List ℕ → Class → Known
known name letters' c = record { name = name; letters = letters'; class = c }

-- the functions that are known by their names
abbrev known_functions : List Known
known_functions =
    known (codes "__quantum__rt__initialize") (codes "vt") class.Init
    ∷ known (codes "__quantum__rt__qubit_allocate") (codes "q") class.Alloc
    ∷ known (codes "__quantum__rt__qubit_release") (codes "vq") class.Release
    ∷ known (codes "__quantum__rt__result_get_one") (codes "r") class.One
    ∷ known (codes "__quantum__rt__result_get_zero") (codes "r") class.Zero
    ∷ known (codes "__quantum__rt__result_equal") (codes "1rr") class.Equal
    ∷ known (codes "__quantum__rt__result_update_reference_count") (codes "vr2") class.Count
    ∷ known (codes "__quantum__rt__read_result") (codes "1r") class.Read
    ∷ known (codes "__quantum__qis__read_result__body") (codes "1r") class.Read
    ∷ known (codes "__quantum__rt__tuple_record_output") (codes "v4t") class.Tuple
    ∷ known (codes "__quantum__rt__array_record_output") (codes "v4t") class.Array
    ∷ known (codes "__quantum__rt__result_record_output") (codes "vrt") class.ResRecord
    ∷ known (codes "__quantum__rt__bool_record_output") (codes "v1t") class.BoolRecord
    ∷ known (codes "__quantum__rt__int_record_output") (codes "v4t") class.IntRecord
    ∷ known (codes "__quantum__rt__double_record_output") (codes "vdt") class.DoubleRecord
    ∷ known (codes "__quantum__qis__m__body") (codes "rq") class.Returning
    ∷ known (codes "__quantum__qis__m__body") (codes "vqr") class.Measure
    ∷ known (codes "__quantum__qis__mz__body") (codes "vqr") class.Measure
    ∷ known (codes "__quantum__qis__mresetz__body") (codes "vqr") class.Measure
    ∷ []

known_functions_have_the_class_of_their_row : map (λ r. typed r.name r.letters) known_functions ≡ map (λ r. Some r.class) known_functions
unfolding class_of
known_functions_have_the_class_of_their_row = refl

-- each list with one letter replaced by each letter, and with one more behind it
abbrev changes : List ℕ → List (List (List ℕ))
changes [] = map (λ c. c ∷ []) letters ∷ []
changes (t ∷ ts) = map (λ c. c ∷ ts) letters ∷ map (map (λ us. t ∷ us)) (changes ts)

-- the class where the letter is replaced by itself, and else none
abbrev expected : Class → List ℕ → List (List (Option Class))
expected c [] = map (λ d. None) letters ∷ []
expected c (t ∷ ts) = map (λ d. if d == t then Some c else None) letters ∷ expected c ts

known_names_have_no_class_with_another_type :
    map (λ r. map (map (typed r.name)) (changes r.letters)) known_functions ≡ map (λ r. expected r.class r.letters) known_functions
unfolding class_of
known_names_have_no_class_with_another_type = refl

abbrev all_but_last : List ℕ → List ℕ
all_but_last [] = []
all_but_last (t ∷ []) = []
all_but_last (t ∷ u ∷ ts) = t ∷ all_but_last (u ∷ ts)

known_names_have_no_class_with_a_type_fewer :
    map (λ r. typed r.name (all_but_last r.letters)) known_functions ≡ map (λ r. None) known_functions
unfolding class_of
known_names_have_no_class_with_a_type_fewer = refl

abbrev gates : List (List ℕ)
gates =
    codes "v" ∷ codes "vq" ∷ codes "vd" ∷ codes "v1" ∷ codes "v8" ∷ codes "v6" ∷ codes "v2" ∷ codes "v4" ∷ codes "vqq" ∷
    codes "vdq" ∷ codes "vqd4q1" ∷ []

-- other types than those of `mz`
abbrev measurements : List (List ℕ)
measurements = codes "vr" ∷ codes "vrq" ∷ codes "vqqr" ∷ codes "vdqr1" ∷ []

-- two results or more, a parameter that is no operand, or something that is returned
abbrev neither : List (List ℕ)
neither =
    codes "vrr" ∷ codes "vqrr" ∷ codes "vrqr" ∷ codes "vrrr" ∷ codes "vv" ∷ codes "vt" ∷ codes "vf" ∷ codes "vqv" ∷
    codes "vqt" ∷ codes "vfq" ∷ codes "vrv" ∷ codes "vtr" ∷ codes "vrf" ∷ codes "q" ∷ codes "rq" ∷ codes "tq" ∷ codes "dq" ∷
    codes "fq" ∷ codes "1r" ∷ codes "8q" ∷ codes "6r" ∷ codes "2q" ∷ codes "4r" ∷ codes "1qr" ∷ []

abbrev known_quantum_names : List (List ℕ)
known_quantum_names =
    codes "__quantum__qis__m__body"
    ∷ codes "__quantum__qis__mz__body"
    ∷ codes "__quantum__qis__mresetz__body"
    ∷ codes "__quantum__qis__read_result__body"
    ∷ []

known_quantum_names_have_no_class_by_types_alone :
    classes known_quantum_names (gates ++ measurements) ≡ all_are None known_quantum_names (gates ++ measurements)
unfolding class_of
known_quantum_names_have_no_class_by_types_alone = refl

abbrev other_quantum_names : List (List ℕ)
other_quantum_names =
    codes "__quantum__qis__"
    ∷ codes "__quantum__qis__h__body"
    ∷ codes "__quantum__qis__m"
    ∷ codes "__quantum__qis__m__bod"
    ∷ codes "__quantum__qis__m__body_"
    ∷ codes "__quantum__qis__MZ__body"
    ∷ codes "__quantum__qis__read_result"
    ∷ codes "__quantum__qis__qubit_release"
    ∷ []

other_quantum_names_have_the_class_of_their_types :
    (classes other_quantum_names gates ≡ all_are (Some class.Gate) other_quantum_names gates)
    × (classes other_quantum_names (codes "vqr" ∷ measurements) ≡ all_are (Some class.Measure) other_quantum_names (codes "vqr" ∷ measurements))
    × (classes other_quantum_names neither ≡ all_are None other_quantum_names neither)
unfolding class_of
other_quantum_names_have_the_class_of_their_types = (refl, refl, refl)

abbrev names_that_are_nearly_so : List (List ℕ)
names_that_are_nearly_so =
    codes ""
    ∷ codes "main"
    ∷ codes "h__body"
    ∷ codes "__quantum__"
    ∷ codes "__quantum__qi"
    ∷ codes "__quantum__qis_"
    ∷ codes "_quantum__qis__h"
    ∷ codes "___quantum__qis__h"
    ∷ codes "__Quantum__qis__h"
    ∷ codes "__quantum__rt__"
    ∷ codes "__quantum__rt__unknown"
    ∷ codes "__quantum__rt__mz__body"
    ∷ codes "__quantum__rt__initialize_"
    ∷ []

abbrev some_types : List (List ℕ)
some_types = codes "v" ∷ codes "vt" ∷ codes "q" ∷ codes "vq" ∷ codes "vqr" ∷ codes "r" ∷ codes "1r" ∷ []

names_that_are_nearly_so_have_no_class : classes names_that_are_nearly_so some_types ≡ all_are None names_that_are_nearly_so some_types
unfolding class_of
names_that_are_nearly_so_have_no_class = refl
