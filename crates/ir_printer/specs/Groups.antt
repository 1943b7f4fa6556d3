-- Attribute groups in canonical text (LLVM Language Reference, 'Attribute Groups').
use Rattle.std.specs.Prelude.{ℕ, ◌+◌, Bool, true, false, ◌&&◌, if◌then◌else◌, Option, None, Some}
use Rattle.std.specs.Prelude.{List, [], ◌∷◌, ◌++◌, codes, decimal}
use Rattle.std.specs.Cmp.Lexicographic.{pointwise}
use Rattle.ir_text.specs.declared.tok.Tok.TheVariants.{Str, Group}
use Rattle.ir_values.specs.Bytes.{hash}
use Rattle.ir_values.specs.Calls.{same_text}
use Rattle.ir_module.specs.declared.tree.Attr.{Attr}
use Rattle.ir_module.specs.declared.tree.Function.{Function}
use Rattle.ir_module.specs.declared.tree.Module.{Module}
use Rattle.ir_parts.specs.Parts.{Part, token}
use Rattle.ir_printer.specs.Pieces.{blank, sign, word, equals, line_end}
use Rattle.ir_printer.specs.Spellings.{quoted}

-- ---- the groups of a module: its distinct attribute lists that aren't empty, in order of first use

abbrev pub same_value : Option (List ℕ) → Option (List ℕ) → Bool
same_value None None = true
same_value None (Some v) = false
same_value (Some u) None = false
same_value (Some u) (Some v) = same_text u v

abbrev pub same_attr : Attr → Attr → Bool
same_attr a b = same_text a.key b.key && same_value a.value b.value

abbrev pub same_attrs : List Attr → List Attr → Bool
same_attrs = pointwise same_attr

-- the number of a list among these, counted from n
abbrev pub number_from : ℕ → List Attr → List (List Attr) → Option ℕ
number_from n attrs [] = None
number_from n attrs (g ∷ gs) = if same_attrs g attrs then Some n else number_from (n + 1) attrs gs

-- the groups and a list, which is added last where it isn't empty and has no number yet
abbrev pub with_list : List (List Attr) → List Attr → Option ℕ → List (List Attr)
with_list gs attrs (Some n) = gs
with_list gs [] None = gs
with_list gs attrs None = gs ++ attrs ∷ []

abbrev pub groups_from : List (List Attr) → List Function → List (List Attr)
groups_from gs [] = gs
groups_from gs (f ∷ fs) = groups_from (with_list gs f.attrs (number_from 0 f.attrs gs)) fs

abbrev pub groups_of : Module → List (List Attr)
groups_of m = groups_from [] m.funcs

-- ---- their text

abbrev pub group_token : ℕ → Part
group_token n = token Group (hash ∷ decimal n)

-- ' #0', where there is a group
abbrev pub group_use : Option ℕ → List Part
group_use None = []
group_use (Some n) = blank ∷ group_token n ∷ []

abbrev pub attr_value : Option (List ℕ) → List Part
attr_value None = []
attr_value (Some v) = sign (codes "=") ∷ token Str (quoted v) ∷ []

-- '"key"' or '"key"="value"'
abbrev pub attr_parts : Attr → List Part
attr_parts a = token Str (quoted a.key) ∷ attr_value a.value

-- each behind a blank
abbrev pub attrs_parts : List Attr → List Part
attrs_parts [] = []
attrs_parts (a ∷ attrs) = blank ∷ (attr_parts a ++ attrs_parts attrs)

-- 'attributes #0 = {'
unfoldable pub group_begin : ℕ → List Part
group_begin n = word (codes "attributes") ∷ blank ∷ group_token n ∷ (equals ++ sign (codes "{") ∷ [])

-- 'attributes #0 = { "key" "key"="value" }'
abbrev pub group_line : ℕ → List Attr → List Part
group_line n attrs = group_begin n ++ (attrs_parts attrs ++ blank ∷ sign (codes "}") ∷ line_end ∷ [])

-- the lines of groups that are numbered from n on
abbrev pub group_lines : ℕ → List (List Attr) → List Part
group_lines n [] = []
group_lines n (g ∷ gs) = group_line n g ++ group_lines (n + 1) gs
