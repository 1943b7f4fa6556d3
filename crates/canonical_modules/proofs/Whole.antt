-- The parts of a printable module are items of the grammar, with trees of what they print.
use Rattle.std.specs.Prelude.{◌&&◌, nat_lt, nat_le, codes}
use Rattle.std.specs.List.{list_all, flat_map}
use Rattle.std.proofs.Common.{◌≡◌, ℕ, ◌+◌, ◌*◌, ◌^◌, ◌<◌, ◌≤◌, true, List, [], ◌∷◌, ◌++◌, length, map, refl, sym, ap, ◌∙◌, subst, arith, append_assoc, append-nil}
use Rattle.std.proofs.lemmas.Bool.{and_parts, and_from, lt-ltb, leb-true}
use Rattle.std.proofs.lemmas.List.{length-append}
use Rattle.grammar.specs.Grammar.{Grammar, rep}
use Rattle.grammar.specs.Language.{Derives, many}
use Rattle.ir_module.specs.Printable.{are_bytes, attr_fits, constant_text_fits, part_fits, flag_value_fits, flag_fits}
use Rattle.ir_module.specs.declared.tree.Attr.{Attr}
use Rattle.ir_module.specs.declared.tree.Constant.{Constant}
use Rattle.ir_module.specs.declared.tree.Flag.{Flag}
use Rattle.ir_module.specs.declared.tree.FlagPart.{FlagPart}
use Rattle.ir_module.specs.declared.tree.FlagPart.TheVariants as part_is
use Rattle.ir_module.specs.declared.tree.FlagValue.{FlagValue}
use Rattle.ir_module.specs.declared.tree.FlagValue.TheVariants as value_is
use Rattle.ir_module.specs.declared.tree.Function.{Function}
use Rattle.ir_module.specs.declared.tree.Module.{Module}
use Rattle.ir_tokens.specs.Tokens.{tokens}
use Rattle.ir_tokens.specs.declared.token.Token.{Token}
use Rattle.ir_grammar.specs.Module.{function, metadata, item}
use Rattle.ir_grammar.specs.declared.tree.ItemSyntax.{ItemSyntax}
use Rattle.ir_grammar.specs.declared.tree.ItemSyntax.TheVariants as item_syntax
use Rattle.ir_parts.specs.Parts.{Part}
use Rattle.ir_printer.specs.Canonical.{type_line, type_lines, constant_line, constant_lines, section, module_parts}
use Rattle.ir_printer.specs.Functions.{function_section}
use Rattle.ir_printer.specs.Groups.{groups_of, group_lines}
use Rattle.ir_printer.specs.Metadata.{node_token, node_begin, node_open, node_close, flag_part_parts, flag_names, flags_begin, flags_line, value_parts, behind_value, key_parts, flag_node, flag_lines, list_node, list_line, list_lines, nodes_lines, flags_sections}
use Rattle.ir_printer.specs.Pieces.{comma, listed as listed_parts}
use Rattle.read_modules.proofs.Each.{Each}
use Rattle.canonical_syntax.specs.Builds.{Builds}
use Rattle.canonical_syntax.proofs.Builds.{Stand, reads_append, builds_gap, builds_as, builds_weaker, builds_same, builds_left, builds_right, builds_rep}
use Rattle.canonical_names.specs.Functions.{MeansFunction}
use Rattle.canonical_names.proofs.FunctionParts.{FitFunction, function_builds}
use Rattle.canonical_names.proofs.Printed.{all_append}
use Rattle.canonical_modules.proofs.Items.{IsConstantItem, IsGroupItem, Cell, part_cell, node_cell, cell_parts, cell_fits, IsNodeItem, IsListItem, qubit_line, result_line, constant_builds, group_line_builds, node_line_builds, list_line_builds}

-- ---- repetitions one after another

many_append : (a : Grammar tokens ItemSyntax) (us vs : List Token) (xs ys : List ItemSyntax) → many (Derives a) us xs → many (Derives a) vs ys → many (Derives a) (us ++ vs) (xs ++ ys)
many_append a us vs [] ys h k = subst (λ l. many (Derives a) (l ++ vs) ys) (sym h) k
many_append a us vs (x ∷ xs) ys (ps, qs, e, d, w) k = (ps, qs ++ vs, ap (λ l. l ++ vs) e ∙ append_assoc ps qs vs, d, many_append a qs vs xs ys w k)

-- items in two pieces
abbrev pub Both : (List ItemSyntax → Type 0) → (List ItemSyntax → Type 0) → List ItemSyntax → Type 0
Both P Q zs = (xs ys : List ItemSyntax) × (zs ≡ xs ++ ys) × P xs × Q ys

module _ {spelling : Token → List ℕ} where
  items_append : {P Q : List ItemSyntax → Type 0} {xs ys : List Part} → Builds spelling (rep item) xs P → Builds spelling (rep item) ys Q → Builds spelling (rep item) (xs ++ ys) (Both P Q)
  items_append {xs = xs} {ys = ys} f g = record {
    built = λ ts r.
        let w = reads_append spelling xs ys ts r in
        let x = f.built w.0 w.3 in
        let y = g.built w.1 w.4 in
        (x.0 ++ y.0, subst (λ l. many (Derives item) l (x.0 ++ y.0)) (sym w.2) (many_append item w.0 w.1 x.0 y.0 x.1 y.1), (x.0, y.0, refl, x.2, y.2));
  }

  no_items : Builds spelling (rep item) [] (λ zs. zs ≡ [])
  no_items = record { built = λ ts r. ([], r, refl) }

  one_item : {P : ItemSyntax → Type 0} {ps : List Part} → Builds spelling item ps P → Builds spelling (rep item) ps (λ zs. (z : ItemSyntax) × (zs ≡ z ∷ []) × P z)
  one_item f = record { built = λ ts r. let x = f.built ts r in (x.0 ∷ [], (ts, [], sym (append-nil ts), x.1, refl), (x.0, refl, x.2)) }

  -- ---- type lines, constants and functions

  types_build : Builds spelling (rep item) type_lines (λ zs. zs ≡ item_syntax.Aside ∷ item_syntax.Aside ∷ [])
  unfolding type_lines item
  types_build = builds_weaker (builds_rep {a = item} (λ ps. ps) (λ ps i. i ≡ item_syntax.Aside) (type_line (codes "%Qubit") ∷ type_line (codes "%Result") ∷ []) (builds_left (qubit_line spelling), (builds_left (result_line spelling), tt))) two
    where
      two : (zs : List ItemSyntax) → Stand (λ ps i. i ≡ item_syntax.Aside) (type_line (codes "%Qubit") ∷ type_line (codes "%Result") ∷ []) zs → zs ≡ item_syntax.Aside ∷ item_syntax.Aside ∷ []
      two [] h = absurd h
      two (x ∷ []) h = absurd h.1
      two (x ∷ y ∷ []) h = ap (λ z. z ∷ y ∷ []) h.0 ∙ ap (λ z. item_syntax.Aside ∷ z ∷ []) h.1.0
      two (x ∷ y ∷ z ∷ zs) h = absurd h.1.1

module _ (spelling : Token → List ℕ) where
  each_constant : (cs : List Constant) → list_all constant_text_fits cs ≡ true → Each (λ c. Builds spelling item (constant_line c) (IsConstantItem spelling c)) cs
  unfolding item
  each_constant [] h = tt
  each_constant (c ∷ cs) h = let p = and_parts (constant_text_fits c) (list_all constant_text_fits cs) h in (builds_right (builds_left (constant_builds spelling c p.0)), each_constant cs p.1)

  constants_build : (cs : List Constant) → list_all constant_text_fits cs ≡ true → Builds spelling (rep item) (section constant_lines cs) (Stand (IsConstantItem spelling) cs)
  constants_build [] h = builds_weaker no_items (λ zs e. subst (Stand (IsConstantItem spelling) []) (sym e) tt)
  constants_build (c ∷ cs) h = builds_gap (codes "\n") (builds_rep constant_line (IsConstantItem spelling) (c ∷ cs) (each_constant (c ∷ cs) h))

abbrev pub IsFunctionItem : (Token → List ℕ) → Module → Function → ItemSyntax → Type 0
IsFunctionItem spelling m f (item_syntax.Function x) = MeansFunction spelling m f x
IsFunctionItem spelling m f i = ⊥

module _ (spelling : Token → List ℕ) (m : Module) where
  each_function : (fs : List Function) → Each (FitFunction m) fs → Each (λ f. Builds spelling item (function_section m f) (IsFunctionItem spelling m f)) fs
  unfolding item function
  each_function [] h = tt
  each_function (f ∷ fs) h = (builds_gap (codes "\n") (builds_right (builds_right (builds_left (builds_as (function_builds spelling m f h.0) (λ x w. w))))), each_function fs h.1)

  functions_build : (fs : List Function) → Each (FitFunction m) fs → Builds spelling (rep item) (flat_map (function_section m) fs) (Stand (IsFunctionItem spelling m) fs)
  functions_build fs h = builds_rep (function_section m) (IsFunctionItem spelling m) fs (each_function fs h)

-- ---- groups, numbered from n on

abbrev pub AreGroups : (Token → List ℕ) → ℕ → List (List Attr) → List ItemSyntax → Type 0
AreGroups spelling n [] zs = zs ≡ []
AreGroups spelling n (g ∷ gs) [] = ⊥
AreGroups spelling n (g ∷ gs) (z ∷ zs) = IsGroupItem spelling n g z × AreGroups spelling (n + 1) gs zs

module _ {spelling : Token → List ℕ} where
  groups_from_build : (n : ℕ) (gs : List (List Attr)) → n + length gs ≤ 2 ^ 32 → list_all (λ g. list_all attr_fits g) gs ≡ true → Builds spelling (rep item) (group_lines n gs) (AreGroups spelling n gs)
  unfolding item metadata
  groups_from_build n [] l h = no_items
  groups_from_build n (g ∷ gs) l h =
      let p = and_parts (list_all attr_fits g) (list_all (λ g. list_all attr_fits g) gs) h in
      builds_weaker (items_append (one_item (builds_right (builds_right (builds_right (builds_left (group_line_builds spelling n g (omega arith) p.0)))))) (groups_from_build (n + 1) gs (omega arith) p.1)) joined
    where
      joined : (zs : List ItemSyntax) → Both (λ xs. (z : ItemSyntax) × (xs ≡ z ∷ []) × IsGroupItem spelling n g z) (AreGroups spelling (n + 1) gs) zs → AreGroups spelling n (g ∷ gs) zs
      joined zs (xs, ys, e, (z, i, w), v) = subst (AreGroups spelling n (g ∷ gs)) (sym (e ∙ ap (λ l. l ++ ys) i)) (w, v)

  groups_build : (gs : List (List Attr)) → length gs ≤ 2 ^ 32 → list_all (λ g. list_all attr_fits g) gs ≡ true → Builds spelling (rep item) (section (group_lines 0) gs) (AreGroups spelling 0 gs)
  groups_build [] l h = no_items
  groups_build (g ∷ gs) l h = builds_gap (codes "\n") (groups_from_build 0 (g ∷ gs) (omega arith) h)

-- ---- nodes, numbered from n on

abbrev pub AreNodes : (Token → List ℕ) → ℕ → List (List Cell) → List ItemSyntax → Type 0
AreNodes spelling n [] zs = zs ≡ []
AreNodes spelling n (c ∷ cs) [] = ⊥
AreNodes spelling n (c ∷ cs) (z ∷ zs) = IsNodeItem spelling n c z × AreNodes spelling (n + 1) cs zs

abbrev node_parts : ℕ → List Cell → List Part
node_parts n cs = node_begin n ++ (node_open ++ (listed_parts (map cell_parts cs) ++ node_close))

abbrev nodes_parts : ℕ → List (List Cell) → List Part
nodes_parts n [] = []
nodes_parts n (c ∷ cs) = node_parts n c ++ nodes_parts (n + 1) cs

module _ {spelling : Token → List ℕ} where
  nodes_build : (n : ℕ) (cs : List (List Cell)) → n + length cs ≤ 2 ^ 32 → list_all (λ c. list_all cell_fits c) cs ≡ true → Builds spelling (rep item) (nodes_parts n cs) (AreNodes spelling n cs)
  unfolding item metadata
  nodes_build n [] l h = no_items
  nodes_build n (c ∷ cs) l h =
      let p = and_parts (list_all cell_fits c) (list_all (λ c. list_all cell_fits c) cs) h in
      builds_weaker (items_append (one_item (builds_right (builds_right (builds_right (builds_right (builds_right (node_line_builds spelling n c (omega arith) p.0))))))) (nodes_build (n + 1) cs (omega arith) p.1)) joined
    where
      joined : (zs : List ItemSyntax) → Both (λ xs. (z : ItemSyntax) × (xs ≡ z ∷ []) × IsNodeItem spelling n c z) (AreNodes spelling (n + 1) cs) zs → AreNodes spelling n (c ∷ cs) zs
      joined zs (xs, ys, e, (z, i, w), v) = subst (AreNodes spelling n (c ∷ cs)) (sym (e ∙ ap (λ l. l ++ ys) i)) (w, v)

-- ---- the nodes of flags, and of their lists

abbrev pub value_cell : ℕ → FlagValue → Cell
value_cell node (value_is.One p) = part_cell p
value_cell node (value_is.List ps) = node_cell node

-- an integer of 32 bits, a string and a value
abbrev pub flag_cells : ℕ → Flag → List Cell
flag_cells node flag = part_cell (part_is.Int 32 flag.behaviour) ∷ part_cell (part_is.Text flag.key) ∷ value_cell node flag.value ∷ []

-- the flags, whose lists are in the nodes from number `node` on
abbrev pub flags_cells : ℕ → List Flag → List (List Cell)
flags_cells node [] = []
flags_cells node (x ∷ xs) = flag_cells node x ∷ flags_cells (behind_value node x.value) xs

abbrev pub list_cells : FlagValue → List (List Cell)
list_cells (value_is.One p) = []
list_cells (value_is.List ps) = map part_cell ps ∷ []

abbrev pub lists_cells : List Flag → List (List Cell)
lists_cells xs = flat_map (λ x. list_cells x.value) xs

abbrev pub all_cells : List Flag → List (List Cell)
all_cells xs = flags_cells (length xs) xs ++ lists_cells xs

value_is_cell : (node : ℕ) (v : FlagValue) → cell_parts (value_cell node v) ≡ value_parts node v
value_is_cell node (value_is.One p) = refl
value_is_cell node (value_is.List ps) = refl

flag_node_is : (node : ℕ) (x : Flag) → node_open ++ (listed_parts (map cell_parts (flag_cells node x)) ++ node_close) ≡ flag_node node x
unfolding flag_node
flag_node_is node x =
    let v = cell_parts (value_cell node x.value) in
    ap (λ l. node_open ++ (key_parts x ++ (comma ++ (l ++ node_close)))) (append-nil v ∙ value_is_cell node x.value)

parts_are_cells : (ps : List FlagPart) → map cell_parts (map part_cell ps) ≡ map flag_part_parts ps
parts_are_cells [] = refl
parts_are_cells (p ∷ ps) = ap (λ l. flag_part_parts p ∷ l) (parts_are_cells ps)

flags_are : (n node : ℕ) (xs : List Flag) → nodes_parts n (flags_cells node xs) ≡ flag_lines n node xs
flags_are n node [] = refl
flags_are n node (x ∷ xs) =
    append_assoc (node_begin n) (node_open ++ (listed_parts (map cell_parts (flag_cells node x)) ++ node_close)) (nodes_parts (n + 1) (flags_cells (behind_value node x.value) xs))
    ∙ (ap (λ l. node_begin n ++ (l ++ nodes_parts (n + 1) (flags_cells (behind_value node x.value) xs))) (flag_node_is node x)
    ∙ ap (λ l. node_begin n ++ (flag_node node x ++ l)) (flags_are (n + 1) (behind_value node x.value) xs))

list_is : (node : ℕ) (v : FlagValue) (rest : List (List Cell)) (ps : List Part) → nodes_parts (behind_value node v) rest ≡ ps → nodes_parts node (list_cells v ++ rest) ≡ list_line node v ++ ps
unfolding list_node
list_is node (value_is.One p) rest ps e = e
list_is node (value_is.List qs) rest ps e =
    ap (λ l. (node_begin node ++ (node_open ++ (listed_parts l ++ node_close))) ++ nodes_parts (node + 1) rest) (parts_are_cells qs) ∙ ap (λ l. (node_begin node ++ list_node qs) ++ l) e

lists_are : (node : ℕ) (xs : List Flag) → nodes_parts node (lists_cells xs) ≡ list_lines node xs
lists_are node [] = refl
lists_are node (x ∷ xs) = list_is node x.value (lists_cells xs) (list_lines (behind_value node x.value) xs) (lists_are (behind_value node x.value) xs)

nodes_append : (n : ℕ) (cs ds : List (List Cell)) (k : ℕ) → k ≡ n + length cs → nodes_parts n (cs ++ ds) ≡ nodes_parts n cs ++ nodes_parts k ds
nodes_append n [] ds k e = let i : n ≡ k = omega arith in ap (λ j. nodes_parts j ds) i
nodes_append n (c ∷ cs) ds k e = ap (λ l. node_parts n c ++ l) (nodes_append (n + 1) cs ds k (omega arith)) ∙ sym (append_assoc (node_parts n c) (nodes_parts (n + 1) cs) (nodes_parts k ds))

pub flags_count : (node : ℕ) (xs : List Flag) → length (flags_cells node xs) ≡ length xs
flags_count node [] = refl
flags_count node (x ∷ xs) = let e = flags_count (behind_value node x.value) xs in omega arith

all_are : (xs : List Flag) → nodes_parts 0 (all_cells xs) ≡ nodes_lines xs
unfolding nodes_lines
all_are xs =
    let c = flags_count (length xs) xs in
    nodes_append 0 (flags_cells (length xs) xs) (lists_cells xs) (length xs) (omega arith)
    ∙ (ap (λ l. l ++ nodes_parts (length xs) (lists_cells xs)) (flags_are 0 (length xs) xs) ∙ ap (λ l. flag_lines 0 (length xs) xs ++ l) (lists_are (length xs) xs))

-- numbers from n on, one for each flag
abbrev pub count_from : ℕ → List Flag → List ℕ
count_from n [] = []
count_from n (x ∷ xs) = n ∷ count_from (n + 1) xs

names_are : (n : ℕ) (xs : List Flag) → map (λ k. node_token k ∷ []) (count_from n xs) ≡ flag_names n xs
names_are n [] = refl
names_are n (x ∷ xs) = ap (λ l. (node_token n ∷ []) ∷ l) (names_are (n + 1) xs)

few_counted : (n : ℕ) (xs : List Flag) → n + length xs ≤ 2 ^ 32 → list_all (λ k. nat_lt k (2 ^ 32)) (count_from n xs) ≡ true
few_counted n [] l = refl
few_counted n (x ∷ xs) l = and_from (nat_lt n (2 ^ 32)) (list_all (λ k. nat_lt k (2 ^ 32)) (count_from (n + 1) xs)) (lt-ltb n (2 ^ 32) (omega arith)) (few_counted (n + 1) xs (omega arith))

more_bound : (node : ℕ) (v : FlagValue) → (node ≤ behind_value node v) × (behind_value node v ≤ node + 1)
more_bound node (value_is.One p) = (omega arith, omega arith)
more_bound node (value_is.List ps) = (omega arith, omega arith)

value_cell_fits : (node : ℕ) (v : FlagValue) → node < 2 ^ 32 → flag_value_fits v ≡ true → cell_fits (value_cell node v) ≡ true
value_cell_fits node (value_is.One p) l h = h
value_cell_fits node (value_is.List ps) l h = lt-ltb node (2 ^ 32) l

flags_cells_fit : (node : ℕ) (xs : List Flag) → node + length xs ≤ 2 ^ 32 → list_all flag_fits xs ≡ true → list_all (λ c. list_all cell_fits c) (flags_cells node xs) ≡ true
flags_cells_fit node [] l h = refl
flags_cells_fit node (x ∷ xs) l h =
    let p = and_parts (flag_fits x) (list_all flag_fits xs) h in
    let q = and_parts (nat_lt x.behaviour (2 ^ 32)) (are_bytes x.key && flag_value_fits x.value) p.0 in
    let r = and_parts (are_bytes x.key) (flag_value_fits x.value) q.1 in
    let b = more_bound node x.value in
    let value = and_from (cell_fits (value_cell node x.value)) true (value_cell_fits node x.value (omega arith) r.1) refl in
    and_from (list_all cell_fits (flag_cells node x)) (list_all (λ c. list_all cell_fits c) (flags_cells (behind_value node x.value) xs))
    (and_from (nat_lt x.behaviour (2 ^ 32)) (are_bytes x.key && (cell_fits (value_cell node x.value) && true)) q.0 (and_from (are_bytes x.key) (cell_fits (value_cell node x.value) && true) r.0 value))
    (flags_cells_fit (behind_value node x.value) xs (let c = b.1 in omega arith) p.1)

part_cells_fit : (ps : List FlagPart) → list_all part_fits ps ≡ true → list_all cell_fits (map part_cell ps) ≡ true
part_cells_fit [] h = refl
part_cells_fit (p ∷ ps) h = let q = and_parts (part_fits p) (list_all part_fits ps) h in and_from (part_fits p) (list_all cell_fits (map part_cell ps)) q.0 (part_cells_fit ps q.1)

lists_cells_fit : (xs : List Flag) → list_all flag_fits xs ≡ true → list_all (λ c. list_all cell_fits c) (lists_cells xs) ≡ true
lists_cells_fit [] h = refl
lists_cells_fit (x ∷ xs) h =
    let p = and_parts (flag_fits x) (list_all flag_fits xs) h in
    let q = and_parts (nat_lt x.behaviour (2 ^ 32)) (are_bytes x.key && flag_value_fits x.value) p.0 in
    let r = and_parts (are_bytes x.key) (flag_value_fits x.value) q.1 in
    list_fits x.value r.1 (lists_cells_fit xs p.1)
  where
    list_fits : (v : FlagValue) → flag_value_fits v ≡ true → list_all (λ c. list_all cell_fits c) (lists_cells xs) ≡ true → list_all (λ c. list_all cell_fits c) (list_cells v ++ lists_cells xs) ≡ true
    list_fits (value_is.One p) h k = k
    list_fits (value_is.List ps) h k = and_from (list_all cell_fits (map part_cell ps)) (list_all (λ c. list_all cell_fits c) (lists_cells xs)) (part_cells_fit ps h) k

lists_few : (xs : List Flag) → length (lists_cells xs) ≤ length xs
lists_few [] = omega arith
lists_few (x ∷ xs) = own x.value (lists_few xs)
  where
    own : (v : FlagValue) → length (lists_cells xs) ≤ length xs → length (list_cells v ++ lists_cells xs) ≤ length (x ∷ xs)
    own (value_is.One p) h = omega arith
    own (value_is.List ps) h = omega arith

-- no items, or the list of the flags and their nodes
abbrev pub AreFlags : (Token → List ℕ) → List Flag → List ItemSyntax → Type 0
AreFlags spelling [] zs = zs ≡ []
AreFlags spelling (x ∷ xs) [] = ⊥
AreFlags spelling (x ∷ xs) (z ∷ zs) = IsListItem spelling (count_from 0 (x ∷ xs)) z × AreNodes spelling 0 (all_cells (x ∷ xs)) zs

module _ {spelling : Token → List ℕ} where
  flags_line_builds : (xs : List Flag) → length xs ≤ 2 ^ 32 → Builds spelling item (flags_line xs) (IsListItem spelling (count_from 0 xs))
  unfolding item metadata flags_line
  flags_line_builds xs l = builds_right (builds_right (builds_right (builds_right (builds_left
      (builds_same (ap (λ l. flags_begin ++ (listed_parts l ++ node_close)) (names_are 0 xs)) (list_line_builds spelling (count_from 0 xs) (few_counted 0 xs (omega arith))))))))

  flags_build : (xs : List Flag) → nat_le (2 * length xs) (2 ^ 32) ≡ true → list_all flag_fits xs ≡ true → Builds spelling (rep item) (section flags_sections xs) (AreFlags spelling xs)
  flags_build [] l h = no_items
  flags_build (x ∷ xs) l h =
      let few = leb-true (2 * length (x ∷ xs)) (2 ^ 32) l in
      let lists = lists_few (x ∷ xs) in
      let flags = flags_count (length (x ∷ xs)) (x ∷ xs) in
      let count = length-append (flags_cells (length (x ∷ xs)) (x ∷ xs)) (lists_cells (x ∷ xs)) in
      let fit = all_append (λ c. list_all cell_fits c) (flags_cells (length (x ∷ xs)) (x ∷ xs)) (lists_cells (x ∷ xs)) (flags_cells_fit (length (x ∷ xs)) (x ∷ xs) (omega arith) h) (lists_cells_fit (x ∷ xs) h) in
      builds_gap (codes "\n") (builds_weaker (items_append (one_item (flags_line_builds (x ∷ xs) (omega arith)))
      (builds_gap (codes "\n") (builds_same (all_are (x ∷ xs)) (nodes_build 0 (all_cells (x ∷ xs)) (omega arith) fit)))) joined)
    where
      joined : (zs : List ItemSyntax) → Both (λ ys. (z : ItemSyntax) × (ys ≡ z ∷ []) × IsListItem spelling (count_from 0 (x ∷ xs)) z) (AreNodes spelling 0 (all_cells (x ∷ xs))) zs → AreFlags spelling (x ∷ xs) zs
      joined zs (ys, us, e, (z, i, w), v) = subst (AreFlags spelling (x ∷ xs)) (sym (e ∙ ap (λ l. l ++ us) i)) (w, v)

-- ---- the items of a module

pub record AreItems (spelling : Token → List ℕ) (m : Module) (zs : List ItemSyntax) : Type 0 where
  pub constants : List ItemSyntax
  pub functions : List ItemSyntax
  pub groups : List ItemSyntax
  pub flags : List ItemSyntax
  pub items_are : zs ≡ item_syntax.Aside ∷ item_syntax.Aside ∷ (constants ++ (functions ++ (groups ++ flags)))
  pub are_constants : Stand (IsConstantItem spelling) m.globals constants
  pub are_functions : Stand (IsFunctionItem spelling m) m.funcs functions
  pub are_groups : AreGroups spelling 0 (groups_of m) groups
  pub are_flags : AreFlags spelling m.flags flags

-- what is known of a module
pub record FitModule (m : Module) : Type 0 where
  pub constants : list_all constant_text_fits m.globals ≡ true
  pub functions : Each (FitFunction m) m.funcs
  pub groups : list_all (λ g. list_all attr_fits g) (groups_of m) ≡ true
  pub few : length (groups_of m) ≤ 2 ^ 32
  pub flags : list_all flag_fits m.flags ≡ true
  pub nodes : nat_le (2 * length m.flags) (2 ^ 32) ≡ true

pub items_build : (spelling : Token → List ℕ) (m : Module) → FitModule m → Builds spelling (rep item) (module_parts m) (AreItems spelling m)
items_build spelling m h = builds_weaker (items_append types_build (items_append (constants_build spelling m.globals h.constants) (items_append (functions_build spelling m m.funcs h.functions)
    (items_append (groups_build (groups_of m) h.few h.groups) (flags_build m.flags h.nodes h.flags)))))
    (λ zs (us, bs, e, i, (cs, ds, j, w, (fs, es, k, v, (gs, ns, l, u, x)))). record {
      constants = cs;
      functions = fs;
      groups = gs;
      flags = ns;
      items_are = e ∙ (ap (λ a. a ++ bs) i ∙ ap (λ b. item_syntax.Aside ∷ item_syntax.Aside ∷ b) (j ∙ ap (λ d. cs ++ d) (k ∙ ap (λ d. fs ++ d) l)));
      are_constants = w;
      are_functions = v;
      are_groups = u;
      are_flags = x;
    })
