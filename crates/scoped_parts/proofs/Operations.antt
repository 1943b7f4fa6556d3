-- Gates and measurements take no functions.
use Rattle.std.proofs.Common.{◌≡◌, ℕ, Bool, true, false, cond, None, Some, List, [], ◌∷◌, find, option_map, flat_map, refl, ap, ◌∙◌}
use Rattle.std.proofs.lemmas.Bool.{and_parts}
use Rattle.std.specs.List.{list_all, list_any, starts_with}
use Rattle.std.specs.Prelude.{◌==◌, ◌&&◌, ◌||◌, if◌then◌else◌, count_by, nat_eq, not}
use Rattle.ir_values.specs.declared.class.Class.{Class}
use Rattle.ir_values.specs.declared.class.Class.TheVariants as class
use Rattle.ir_values.specs.declared.sig.TyWord.{TyWord}
use Rattle.ir_values.specs.declared.sig.TyWord.TheVariants as word
use Rattle.ir_values.specs.declared.ty.Ty.{Ty}
use Rattle.ir_values.specs.declared.ty.Ty.TheVariants as ty
use Rattle.ir_values.specs.Calls.{Row, class_of, class_of_unknown, class_of_words, is_operand, is_result, rows, same_text, same_words}
use Rattle.ir_values.specs.Names.{instruction_prefix}
use Rattle.ir_values.specs.Types.{signature, words_of}
use Rattle.type_check.proofs.Equal.{same_words-is}
use Rattle.residue.specs.Valid.{is_operation}

-- the parameters are what an instruction may take
abbrev takes_operands : List TyWord → Bool
takes_operands (word.Func n ∷ word.Void ∷ params) = list_all is_operand params
takes_operands words = false

abbrev row_takes : Row → Bool
row_takes r = not (is_operation (Some r.class)) || takes_operands r.words

-- each row of the table of known functions is so
table : list_all row_takes rows ≡ true
table = refl

if-so : (a b : Bool) → a ≡ true → (not a || b) ≡ true → b ≡ true
if-so true b e h = h
if-so false b e h = cc

module _ (name : List ℕ) (words : List TyWord) where
  abbrev is_row : Row → Bool
  is_row r = same_text name r.name && same_words words r.words

  found-at : (r : Row) (rs : List Row) (c : Class) (b : Bool) → is_row r ≡ b → row_takes r ≡ true → is_operation (Some c) ≡ true
      → (option_map (λ (r : Row). r.class) (find is_row rs) ≡ Some c → takes_operands words ≡ true)
      → option_map (λ (r : Row). r.class) (cond b (Some r) (find is_row rs)) ≡ Some c → takes_operands words ≡ true
  found-at r rs c true t h o more e =
      let same = same_words-is words r.words (and_parts (same_text name r.name) (same_words words r.words) t).1 in
      let k : r.class ≡ c = cc in
      ap takes_operands same ∙ if-so (is_operation (Some r.class)) (takes_operands r.words) (ap (λ c. is_operation (Some c)) k ∙ o) h
  found-at r rs c false t h o more e = more e

  found : (rs : List Row) (c : Class) → list_all row_takes rs ≡ true → is_operation (Some c) ≡ true → option_map (λ (r : Row). r.class) (find is_row rs) ≡ Some c
      → takes_operands words ≡ true
  found [] c h o e = cc
  found (r ∷ rs) c h o e = let p = and_parts (row_takes r) (list_all row_takes rs) h in found-at r rs c (is_row r) refl p.0 o (found rs c p.1 o) e

  of-params : (params : List TyWord) (b : Bool) (c : Class) → list_all is_operand params ≡ b
      → (if not b then None else if count_by is_result params == 0 then Some class.Gate else if count_by is_result params == 1 then Some class.Measure else None) ≡ Some c
      → list_all is_operand params ≡ true
  of-params params true c t e = t
  of-params params false c t e = cc

  of-words : (ws : List TyWord) (c : Class) → class_of_words ws ≡ Some c → takes_operands ws ≡ true
  of-words (word.Func n ∷ word.Void ∷ params) c e = of-params params (list_all is_operand params) c refl e
  of-words ws c e = cc

  unknown : (b : Bool) (c : Class) → cond b (class_of_words words) None ≡ Some c → takes_operands words ≡ true
  unknown true c e = of-words words c e
  unknown false c e = cc

  takes-at : (c : Class) (b : Bool) → is_operation (Some c) ≡ true
      → cond b (option_map (λ (r : Row). r.class) (find is_row rows)) (class_of_unknown name words) ≡ Some c → takes_operands words ≡ true
  takes-at c true o e = found rows c table o e
  takes-at c false o e = unknown (starts_with nat_eq name instruction_prefix) c e

  operation-takes : (c : Class) → is_operation (Some c) ≡ true → class_of name words ≡ Some c → takes_operands words ≡ true
  unfolding class_of
  operation-takes c o e = takes-at c (list_any (λ (r : Row). same_text name r.name) rows) o e

-- the types that a gate or a measurement takes
pub operation-operands : (name : List ℕ) (us : List Ty) (c : Class) → is_operation (Some c) ≡ true → class_of name (signature ty.Void us) ≡ Some c
    → list_all is_operand (flat_map words_of us) ≡ true
operation-operands name us c o e = operation-takes name (signature ty.Void us) c o e
