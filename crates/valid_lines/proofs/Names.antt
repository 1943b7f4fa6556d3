-- The names of gates and measurements begin as those of quantum instructions do.
use Rattle.std.proofs.Common.{◌≡◌, ℕ, Bool, true, false, cond, None, Some, List, [], ◌∷◌, find, option_map, refl, sym, ap, ◌∙◌, subst}
use Rattle.std.proofs.lemmas.Bool.{and_parts}
use Rattle.std.specs.Cmp.{unsigned_Decides}
use Rattle.std.specs.Cmp.Lexicographic.{pointwise_decides}
use Rattle.std.specs.List.{list_all, list_any, starts_with}
use Rattle.std.specs.Prelude.{◌&&◌, ◌||◌, nat_eq, not}
use Rattle.ir_values.specs.declared.class.Class.{Class}
use Rattle.ir_values.specs.declared.sig.TyWord.{TyWord}
use Rattle.ir_values.specs.Calls.{Row, class_of, class_of_unknown, class_of_words, rows, same_text, same_words}
use Rattle.ir_values.specs.Names.{instruction_prefix}
use Rattle.residue.specs.Valid.{is_operation}

abbrev is_instruction_name : List ℕ → Bool
is_instruction_name name = starts_with nat_eq name instruction_prefix

abbrev row_named : Row → Bool
row_named r = not (is_operation (Some r.class)) || is_instruction_name r.name

-- each row of the table of known functions is so
table : list_all row_named rows ≡ true
table = refl

named-so : (a b : Bool) → a ≡ true → (not a || b) ≡ true → b ≡ true
named-so true b e h = h
named-so false b e h = cc

module _ (name : List ℕ) (words : List TyWord) where
  abbrev is_row : Row → Bool
  is_row r = same_text name r.name && same_words words r.words

  found-at : (r : Row) (rs : List Row) (c : Class) (b : Bool) → is_row r ≡ b → row_named r ≡ true → is_operation (Some c) ≡ true
      → (option_map (λ (r : Row). r.class) (find is_row rs) ≡ Some c → is_instruction_name name ≡ true)
      → option_map (λ (r : Row). r.class) (cond b (Some r) (find is_row rs)) ≡ Some c → is_instruction_name name ≡ true
  found-at r rs c true t h o more e =
      let same = (pointwise_decides unsigned_Decides name r.name).0 (and_parts (same_text name r.name) (same_words words r.words) t).0 in
      let k : r.class ≡ c = cc in
      subst (λ n. is_instruction_name n ≡ true) (sym same) (named-so (is_operation (Some r.class)) (is_instruction_name r.name) (ap (λ c. is_operation (Some c)) k ∙ o) h)
  found-at r rs c false t h o more e = more e

  found : (rs : List Row) (c : Class) → list_all row_named rs ≡ true → is_operation (Some c) ≡ true → option_map (λ (r : Row). r.class) (find is_row rs) ≡ Some c → is_instruction_name name ≡ true
  found [] c h o e = cc
  found (r ∷ rs) c h o e = let p = and_parts (row_named r) (list_all row_named rs) h in found-at r rs c (is_row r) refl p.0 o (found rs c p.1 o) e

  unknown : (b : Bool) (c : Class) → cond b (class_of_words words) None ≡ Some c → b ≡ true
  unknown true c e = refl
  unknown false c e = cc

  named-at : (c : Class) (b : Bool) → is_operation (Some c) ≡ true → cond b (option_map (λ (r : Row). r.class) (find is_row rows)) (class_of_unknown name words) ≡ Some c → is_instruction_name name ≡ true
  named-at c true o e = found rows c table o e
  named-at c false o e = unknown (is_instruction_name name) c e

  pub operation-named : (c : Class) → is_operation (Some c) ≡ true → class_of name words ≡ Some c → starts_with nat_eq name instruction_prefix ≡ true
  unfolding class_of
  operation-named c o e = named-at c (list_any (λ (r : Row). same_text name r.name) rows) o e
