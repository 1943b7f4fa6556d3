-- What the items of a canonical text stand for.
use Rattle.std.specs.Prelude.{◌&&◌, not, is_some, codes, slice_get}
use Rattle.std.specs.List.{flat_map, filter_map, cons_option}
use Rattle.std.specs.Option.{option_map, option_and_then}
use Rattle.std.proofs.Common.{◌≡◌, ℕ, zero, suc, ◌+◌, ◌≤◌, Bool, true, false, cond, Option, None, Some, List, [], ◌∷◌, ◌++◌, length, map, refl, sym, ap, ◌∙◌, subst, arith, append_assoc, append-nil}
use Rattle.std.proofs.lemmas.Bool.{and_right, or_from, le-ltb}
use Rattle.std.proofs.lemmas.List.{length-append}
use Rattle.std.proofs.lemmas.List.Concat.{flat_map-append}
use Rattle.ir_values.specs.Calls.{same_text}
use Rattle.ir_values.specs.declared.name.Name.{Name}
use Rattle.ir_module.specs.Numbered.{are_distinct, global_names}
use Rattle.ir_module.specs.declared.tree.Attr.{Attr}
use Rattle.ir_module.specs.declared.tree.Constant.{Constant}
use Rattle.ir_module.specs.declared.tree.Flag.{Flag}
use Rattle.ir_module.specs.declared.tree.FlagPart.{FlagPart}
use Rattle.ir_module.specs.declared.tree.FlagPart.TheVariants as part_is
use Rattle.ir_module.specs.declared.tree.FlagValue.{FlagValue}
use Rattle.ir_module.specs.declared.tree.FlagValue.TheVariants as value_is
use Rattle.ir_module.specs.declared.tree.Function.{Function}
use Rattle.ir_module.specs.declared.tree.Module.{Module}
use Rattle.ir_tokens.specs.Spelled.{name_at, spelling_at, string_at}
use Rattle.ir_tokens.specs.declared.token.Token.{Token}
use Rattle.ir_grammar.specs.SideRules.{number, bits_of_sign}
use Rattle.ir_grammar.specs.declared.tree.AttrSyntax.{AttrSyntax}
use Rattle.ir_grammar.specs.declared.tree.AttrSyntax.TheVariants as attr_syntax
use Rattle.ir_grammar.specs.declared.tree.ElemSyntax.{ElemSyntax}
use Rattle.ir_grammar.specs.declared.tree.ElemSyntax.TheVariants as elem_syntax
use Rattle.ir_grammar.specs.declared.tree.ItemSyntax.{ItemSyntax}
use Rattle.ir_grammar.specs.declared.tree.ItemSyntax.TheVariants as item_syntax
use Rattle.ir_grammar.specs.declared.tree.PartSyntax.{PartSyntax}
use Rattle.ir_grammar.specs.declared.tree.PartSyntax.TheVariants as part_syntax
use Rattle.ir_names.specs.Faults.{fault, fault_if, unknown}
use Rattle.ir_names.specs.Functions.{attr_of, attrs_in}
use Rattle.ir_names.specs.Items.{item_faults, behind, items_faults, constant_in, function_in, function_name_in}
use Rattle.ir_names.specs.Metadata.{flag_nodes, listed, elems_in, node_of, part_of, parts_in, value_of, flag_with, flag_of, listed_flag, node_use_faults, elem_faults, own_faults}
use Rattle.ir_names.specs.Module.{written, nothing_written, group_in, node_in, constants_of, size_of, told, start, faults_of, module_of}
use Rattle.ir_names.specs.Sense.{Sense, number_of, is_before, item_at}
use Rattle.ir_names.specs.code.Names.{same_name as equal_names, same_written}
use Rattle.ir_names.specs.declared.before.Before.{Before}
use Rattle.ir_names.specs.declared.fault.NameCode.TheVariants.{Duplicate, BadFlag}
use Rattle.ir_printer.specs.Groups.{groups_of}
use Rattle.ir_printer.specs.Metadata.{behind_value}
use Rattle.read_modules.proofs.Each.{Each, Each-weaker, Each-append}
use Rattle.canonical_syntax.specs.Tells.{name_by, string_by}
use Rattle.canonical_syntax.proofs.Builds.{Stand}
use Rattle.canonical_syntax.proofs.Instructions.{none_both}
use Rattle.canonical_names.specs.Functions.{TellsModule}
use Rattle.canonical_names.proofs.Printed.{placed_below}
use Rattle.canonical_names.proofs.Places.{From, From-parts, from_itself, mapped_get, placed, distinct_left, distinct_right, apart_right, same_some}
use Rattle.canonical_modules.proofs.Items.{IsConstantItem, IsAttr, IsValue, IsGroupItem, IsPart, Cell, part_cell, IsCell, IsNodeItem, IsListItem}
use Rattle.canonical_modules.proofs.Marks.{mark, Marks, none_marked, resolved, filter_append, filter_none, flat_none}
use Rattle.canonical_modules.proofs.Whole.{IsFunctionItem, AreGroups, AreNodes, AreFlags, AreItems, value_cell, flag_cells, flags_cells, list_cells, lists_cells, all_cells, count_from, flags_count}

-- ---- sorts of items

abbrev pub sort_of : ItemSyntax → ℕ
sort_of item_syntax.Aside = 0
sort_of (item_syntax.Constant t b) = 1
sort_of (item_syntax.Function x) = 2
sort_of (item_syntax.Group t xs) = 3
sort_of (item_syntax.List t ts) = 4
sort_of (item_syntax.Node t es) = 5

abbrev Sort : ℕ → ItemSyntax → Type 0
Sort n i = sort_of i ≡ n

abbrev Not : ℕ → ItemSyntax → Type 0
Not n i = sort_of i ≡ n → ⊥

other_sort : (k n : ℕ) → (k ≡ n → ⊥) → (xs : List ItemSyntax) → Each (Sort k) xs → Each (Not n) xs
other_sort k n h xs e = Each-weaker (Sort k) (Not n) (λ i s t. h (sym s ∙ t)) xs e

no_constant : (name : Token → Name) (string : Token → List ℕ) (i : ItemSyntax) → Not 1 i → constant_in name string i ≡ None
no_constant name string item_syntax.Aside h = refl
no_constant name string (item_syntax.Constant t b) h = absurd (h refl)
no_constant name string (item_syntax.Function x) h = refl
no_constant name string (item_syntax.Group t xs) h = refl
no_constant name string (item_syntax.List t ts) h = refl
no_constant name string (item_syntax.Node t es) h = refl

no_function : (g : Sense) (i : ItemSyntax) → Not 2 i → function_in g i ≡ None
no_function g item_syntax.Aside h = refl
no_function g (item_syntax.Constant t b) h = refl
no_function g (item_syntax.Function x) h = absurd (h refl)
no_function g (item_syntax.Group t xs) h = refl
no_function g (item_syntax.List t ts) h = refl
no_function g (item_syntax.Node t es) h = refl

no_function_name : (name : Token → Name) (i : ItemSyntax) → Not 2 i → function_name_in name i ≡ None
no_function_name name item_syntax.Aside h = refl
no_function_name name (item_syntax.Constant t b) h = refl
no_function_name name (item_syntax.Function x) h = absurd (h refl)
no_function_name name (item_syntax.Group t xs) h = refl
no_function_name name (item_syntax.List t ts) h = refl
no_function_name name (item_syntax.Node t es) h = refl

no_group : (i : ItemSyntax) → Not 3 i → group_in i ≡ nothing_written
no_group item_syntax.Aside h = refl
no_group (item_syntax.Constant t b) h = refl
no_group (item_syntax.Function x) h = refl
no_group (item_syntax.Group t xs) h = absurd (h refl)
no_group (item_syntax.List t ts) h = refl
no_group (item_syntax.Node t es) h = refl

no_node : (i : ItemSyntax) → Not 5 i → node_in i ≡ nothing_written
no_node item_syntax.Aside h = refl
no_node (item_syntax.Constant t b) h = refl
no_node (item_syntax.Function x) h = refl
no_node (item_syntax.Group t xs) h = refl
no_node (item_syntax.List t ts) h = refl
no_node (item_syntax.Node t es) h = absurd (h refl)

no_list : (spelling : Token → List ℕ) (i : ItemSyntax) → Not 4 i → flag_nodes spelling i ≡ []
no_list spelling item_syntax.Aside h = refl
no_list spelling (item_syntax.Constant t b) h = refl
no_list spelling (item_syntax.Function x) h = refl
no_list spelling (item_syntax.Group t xs) h = refl
no_list spelling (item_syntax.List t ts) h = absurd (h refl)
no_list spelling (item_syntax.Node t es) h = refl

constant_sort : (spelling : Token → List ℕ) (c : Constant) (i : ItemSyntax) → IsConstantItem spelling c i → Sort 1 i
constant_sort spelling c (item_syntax.Constant t b) h = refl
constant_sort spelling c i h = absurd h

function_sort : (spelling : Token → List ℕ) (m : Module) (f : Function) (i : ItemSyntax) → IsFunctionItem spelling m f i → Sort 2 i
function_sort spelling m f (item_syntax.Function x) h = refl
function_sort spelling m f i h = absurd h

group_sort : (spelling : Token → List ℕ) (n : ℕ) (attrs : List Attr) (i : ItemSyntax) → IsGroupItem spelling n attrs i → Sort 3 i
group_sort spelling n attrs (item_syntax.Group t xs) h = refl
group_sort spelling n attrs i h = absurd h

list_sort : (spelling : Token → List ℕ) (ns : List ℕ) (i : ItemSyntax) → IsListItem spelling ns i → Sort 4 i
list_sort spelling ns (item_syntax.List t ts) h = refl
list_sort spelling ns i h = absurd h

node_sort : (spelling : Token → List ℕ) (n : ℕ) (cs : List Cell) (i : ItemSyntax) → IsNodeItem spelling n cs i → Sort 5 i
node_sort spelling n cs (item_syntax.Node t es) h = refl
node_sort spelling n cs i h = absurd h

stand_sort : {X : Type 0} (R : X → ItemSyntax → Type 0) (n : ℕ) → ((x : X) (i : ItemSyntax) → R x i → Sort n i) → (xs : List X) (is : List ItemSyntax) → Stand R xs is → Each (Sort n) is
stand_sort R n f [] [] h = tt
stand_sort R n f [] (i ∷ is) h = absurd h
stand_sort R n f (x ∷ xs) [] h = absurd h
stand_sort R n f (x ∷ xs) (i ∷ is) h = (f x i h.0, stand_sort R n f xs is h.1)

groups_sort : (spelling : Token → List ℕ) (n : ℕ) (gs : List (List Attr)) (is : List ItemSyntax) → AreGroups spelling n gs is → Each (Sort 3) is
groups_sort spelling n [] is h = subst (Each (Sort 3)) (sym h) tt
groups_sort spelling n (g ∷ gs) [] h = absurd h
groups_sort spelling n (g ∷ gs) (i ∷ is) h = (group_sort spelling n g i h.0, groups_sort spelling (n + 1) gs is h.1)

nodes_sort : (spelling : Token → List ℕ) (n : ℕ) (cs : List (List Cell)) (is : List ItemSyntax) → AreNodes spelling n cs is → Each (Sort 5) is
nodes_sort spelling n [] is h = subst (Each (Sort 5)) (sym h) tt
nodes_sort spelling n (c ∷ cs) [] h = absurd h
nodes_sort spelling n (c ∷ cs) (i ∷ is) h = (node_sort spelling n c i h.0, nodes_sort spelling (n + 1) cs is h.1)

-- lists and nodes are no items of the other sorts
flags_not : (spelling : Token → List ℕ) (n : ℕ) → (4 ≡ n → ⊥) → (5 ≡ n → ⊥) → (xs : List Flag) (is : List ItemSyntax) → AreFlags spelling xs is → Each (Not n) is
flags_not spelling n a b [] is h = subst (Each (Not n)) (sym h) tt
flags_not spelling n a b (x ∷ xs) [] h = absurd h
flags_not spelling n a b (x ∷ xs) (i ∷ is) h = (λ e. a (sym (list_sort spelling (count_from 0 (x ∷ xs)) i h.0) ∙ e), other_sort 5 n b is (nodes_sort spelling 0 (all_cells (x ∷ xs)) is h.1))

-- ---- what items are kept as

constant_kept : (spelling : Token → List ℕ) (c : Constant) (i : ItemSyntax) → IsConstantItem spelling c i → constant_in (name_by spelling) (string_by spelling) i ≡ Some c
constant_kept spelling c (item_syntax.Constant t b) h = same h.0 h.1
  where
    same : {n n' : Name} {s s' : List ℕ} → n ≡ n' → s ≡ s' → ◌≡◌ {A = Option Constant} (Some (record { name = n; bytes = s })) (Some (record { name = n'; bytes = s' }))
    same e d = cc
constant_kept spelling c i h = absurd h

function_kept : (spelling : Token → List ℕ) (m : Module) (g : Sense) → TellsModule spelling m g → (f : Function) (i : ItemSyntax) → IsFunctionItem spelling m f i → function_in g i ≡ Some f
function_kept spelling m g r f (item_syntax.Function x) h = ap Some (h.means g r).1
function_kept spelling m g r f i h = absurd h

function_named : (spelling : Token → List ℕ) (m : Module) (f : Function) (i : ItemSyntax) → IsFunctionItem spelling m f i → function_name_in (name_by spelling) i ≡ Some f.name
function_named spelling m f (item_syntax.Function x) h = ap Some h.name
function_named spelling m f i h = absurd h

stand_kept : {X Y : Type 0} (R : X → ItemSyntax → Type 0) (kept : ItemSyntax → Option Y) (of : X → Y) → ((x : X) (i : ItemSyntax) → R x i → kept i ≡ Some (of x)) → (xs : List X) (is : List ItemSyntax) → Stand R xs is → filter_map kept is ≡ map of xs
stand_kept R kept of f [] [] h = refl
stand_kept R kept of f [] (i ∷ is) h = absurd h
stand_kept R kept of f (x ∷ xs) [] h = absurd h
stand_kept R kept of f (x ∷ xs) (i ∷ is) h = ap (λ o. cons_option o (filter_map kept is)) (f x i h.0) ∙ ap (λ l. of x ∷ l) (stand_kept R kept of f xs is h.1)

map_itself : {X : Type 0} (xs : List X) → map (λ x. x) xs ≡ xs
map_itself [] = refl
map_itself (x ∷ xs) = ap (λ l. x ∷ l) (map_itself xs)

-- ---- the strings of attributes

value_kept : (spelling : Token → List ℕ) (o : Option (List ℕ)) (v : Option Token) → IsValue spelling o v → option_map (string_by spelling) v ≡ o
value_kept spelling None None h = refl
value_kept spelling None (Some t) h = absurd h
value_kept spelling (Some v) None h = absurd h
value_kept spelling (Some v) (Some t) h = ap Some h

attr_kept : (spelling : Token → List ℕ) (g : Sense) → g.string ≡ string_by spelling → (a : Attr) (x : AttrSyntax) → IsAttr spelling a x → attr_of g x ≡ Some a
attr_kept spelling g e a (attr_syntax.Text key value) h =
    ap (λ s. Some (record { key = s key; value = option_map s value })) e ∙ same h.0 (value_kept spelling a.value value h.1)
  where
    same : {k k' : List ℕ} {v v' : Option (List ℕ)} → k ≡ k' → v ≡ v' → ◌≡◌ {A = Option Attr} (Some (record { key = k; value = v })) (Some (record { key = k'; value = v' }))
    same i j = cc
attr_kept spelling g e a attr_syntax.Word h = absurd h

attrs_kept : (spelling : Token → List ℕ) (g : Sense) → g.string ≡ string_by spelling → (attrs : List Attr) (xs : List AttrSyntax) → Stand (IsAttr spelling) attrs xs → filter_map (attr_of g) xs ≡ attrs
attrs_kept spelling g e [] [] h = refl
attrs_kept spelling g e [] (x ∷ xs) h = absurd h
attrs_kept spelling g e (a ∷ attrs) [] h = absurd h
attrs_kept spelling g e (a ∷ attrs) (x ∷ xs) h = ap (λ o. cons_option o (filter_map (attr_of g) xs)) (attr_kept spelling g e a x h.0) ∙ ap (λ l. a ∷ l) (attrs_kept spelling g e attrs xs h.1)

-- ---- numbers of groups and nodes

groups_marked : (spelling : Token → List ℕ) (n : ℕ) (gs : List (List Attr)) (is : List ItemSyntax) → AreGroups spelling n gs is → Marks n (map group_in is) × (length is ≡ length gs)
groups_marked spelling n [] is h = subst (λ is. Marks n (map group_in is) × (length is ≡ 0)) (sym h) (tt, refl)
groups_marked spelling n (g ∷ gs) [] h = absurd h
groups_marked spelling n (g ∷ gs) (i ∷ is) h = let w = groups_marked spelling (n + 1) gs is h.1 in ((own i h.0, w.0), let e = w.1 in omega arith)
  where
    own : (i : ItemSyntax) → IsGroupItem spelling n g i → group_in i ≡ mark n
    own (item_syntax.Group t xs) h = ap mark h.0
    own i h = absurd h

nodes_marked : (spelling : Token → List ℕ) (n : ℕ) (cs : List (List Cell)) (is : List ItemSyntax) → AreNodes spelling n cs is → Marks n (map node_in is) × (length is ≡ length cs)
nodes_marked spelling n [] is h = subst (λ is. Marks n (map node_in is) × (length is ≡ 0)) (sym h) (tt, refl)
nodes_marked spelling n (c ∷ cs) [] h = absurd h
nodes_marked spelling n (c ∷ cs) (i ∷ is) h = let w = nodes_marked spelling (n + 1) cs is h.1 in ((own i h.0, w.0), let e = w.1 in omega arith)
  where
    own : (i : ItemSyntax) → IsNodeItem spelling n c i → node_in i ≡ mark n
    own (item_syntax.Node t es) h = ap mark h.0
    own i h = absurd h

-- the item of a number
group_at : (spelling : Token → List ℕ) (n : ℕ) (gs : List (List Attr)) (is : List ItemSyntax) (j : ℕ) (attrs : List Attr) → AreGroups spelling n gs is → slice_get gs j ≡ Some attrs → (i : ItemSyntax) × (slice_get is j ≡ Some i) × IsGroupItem spelling (n + j) attrs i
group_at spelling n [] is j attrs h e = absurd (cc)
group_at spelling n (g ∷ gs) [] j attrs h e = absurd h
group_at spelling n (g ∷ gs) (i ∷ is) zero attrs h e =
    let z : n ≡ n + 0 = omega arith in
    (i, refl, subst (λ k. IsGroupItem spelling k attrs i) z (subst (λ a. IsGroupItem spelling n a i) (same_some e) h.0))
group_at spelling n (g ∷ gs) (i ∷ is) (suc j) attrs h e =
    let w = group_at spelling (n + 1) gs is j attrs h.1 e in
    let z : n + 1 + j ≡ n + suc j = omega arith in
    (w.0, w.1, subst (λ k. IsGroupItem spelling k attrs w.0) z w.2)

node_at : (spelling : Token → List ℕ) (n : ℕ) (cs : List (List Cell)) (is : List ItemSyntax) (j : ℕ) (c : List Cell) → AreNodes spelling n cs is → slice_get cs j ≡ Some c → (i : ItemSyntax) × (slice_get is j ≡ Some i) × IsNodeItem spelling (n + j) c i
node_at spelling n [] is j c h e = absurd (cc)
node_at spelling n (d ∷ cs) [] j c h e = absurd h
node_at spelling n (d ∷ cs) (i ∷ is) zero c h e =
    let z : n ≡ n + 0 = omega arith in
    (i, refl, subst (λ k. IsNodeItem spelling k c i) z (subst (λ a. IsNodeItem spelling n a i) (same_some e) h.0))
node_at spelling n (d ∷ cs) (i ∷ is) (suc j) c h e =
    let w = node_at spelling (n + 1) cs is j c h.1 e in
    let z : n + 1 + j ≡ n + suc j = omega arith in
    (w.0, w.1, subst (λ k. IsNodeItem spelling k c w.0) z w.2)

both_empty : {A : Type 0} {xs ys : List A} → xs ≡ [] → ys ≡ [] → xs ++ ys ≡ []
both_empty {ys = ys} e d = ap (λ l. l ++ ys) e ∙ d

abbrev aside : ItemSyntax
aside = item_syntax.Aside

-- how the bytes that spell a token are found again
abbrev pub spelled_in : List ℕ → Token → List ℕ
spelled_in text t = spelling_at text t.place

abbrev counts : ℕ → ℕ → ℕ → Before
counts c f i = record { constants = c; functions = f; items = i }

module _ (text : List ℕ) (m : Module) (distinct : are_distinct (global_names m) ≡ true) (zs : List ItemSyntax) (it : AreItems (spelled_in text) m zs) where
  abbrev g : Sense
  g = told text zs

  abbrev sp : Token → List ℕ
  sp = spelled_in text

  not_of : (n : ℕ) (k : ℕ) → (k ≡ n → ⊥) → (xs : List ItemSyntax) → Each (Sort k) xs → Each (Not n) xs
  not_of n k h xs e = other_sort k n h xs e

  constants_sort : Each (Sort 1) it.constants
  constants_sort = stand_sort (IsConstantItem sp) 1 (constant_sort sp) m.globals it.constants it.are_constants

  functions_sort : Each (Sort 2) it.functions
  functions_sort = stand_sort (IsFunctionItem sp m) 2 (function_sort sp m) m.funcs it.functions it.are_functions

  own_groups_sort : Each (Sort 3) it.groups
  own_groups_sort = groups_sort sp 0 (groups_of m) it.groups it.are_groups

  parted : {B : Type 0} (f : ItemSyntax → Option B) → filter_map f (it.constants ++ (it.functions ++ (it.groups ++ it.flags))) ≡ filter_map f it.constants ++ (filter_map f it.functions ++ (filter_map f it.groups ++ filter_map f it.flags))
  parted f = filter_append f it.constants (it.functions ++ (it.groups ++ it.flags))
      ∙ ap (λ l. filter_map f it.constants ++ l) (filter_append f it.functions (it.groups ++ it.flags) ∙ ap (λ l. filter_map f it.functions ++ l) (filter_append f it.groups it.flags))

  constants_kept : filter_map (constant_in (name_by sp) (string_by sp)) zs ≡ m.globals
  constants_kept =
      let f = constant_in (name_by sp) (string_by sp) in
      let none = no_constant (name_by sp) (string_by sp) in
      let a = filter_none f it.functions (Each-weaker (Not 1) (λ i. f i ≡ None) none it.functions (not_of 1 2 (λ e. absurd (omega arith)) it.functions functions_sort)) in
      let b = filter_none f it.groups (Each-weaker (Not 1) (λ i. f i ≡ None) none it.groups (not_of 1 3 (λ e. absurd (omega arith)) it.groups own_groups_sort)) in
      let c = filter_none f it.flags (Each-weaker (Not 1) (λ i. f i ≡ None) none it.flags (flags_not sp 1 (λ e. absurd (omega arith)) (λ e. absurd (omega arith)) m.flags it.flags it.are_flags)) in
      ap (filter_map f) it.items_are ∙ (parted f ∙ (ap (λ l. filter_map f it.constants ++ l) (both_empty a (both_empty b c)) ∙ (append-nil (filter_map f it.constants)
      ∙ (stand_kept (IsConstantItem sp) f (λ c. c) (constant_kept sp) m.globals it.constants it.are_constants ∙ map_itself m.globals))))

  constants_are : constants_of text zs ≡ m.globals
  unfolding name_at string_at
  constants_are = constants_kept

  only_functions : {B : Type 0} (f : ItemSyntax → Option B) → ((i : ItemSyntax) → Not 2 i → f i ≡ None) → f aside ≡ None → filter_map f zs ≡ filter_map f it.functions
  only_functions f none z =
      let a = filter_none f it.constants (Each-weaker (Not 2) (λ i. f i ≡ None) none it.constants (not_of 2 1 (λ e. absurd (omega arith)) it.constants constants_sort)) in
      let b = filter_none f it.groups (Each-weaker (Not 2) (λ i. f i ≡ None) none it.groups (not_of 2 3 (λ e. absurd (omega arith)) it.groups own_groups_sort)) in
      let c = filter_none f it.flags (Each-weaker (Not 2) (λ i. f i ≡ None) none it.flags (flags_not sp 2 (λ e. absurd (omega arith)) (λ e. absurd (omega arith)) m.flags it.flags it.are_flags)) in
      let rest = it.constants ++ (it.functions ++ (it.groups ++ it.flags)) in
      ap (filter_map f) it.items_are ∙ (ap (λ o. cons_option o (cons_option o (filter_map f rest))) z
      ∙ (parted f ∙ (ap (λ l. l ++ (filter_map f it.functions ++ (filter_map f it.groups ++ filter_map f it.flags))) a
      ∙ (ap (λ l. filter_map f it.functions ++ l) (both_empty b c) ∙ append-nil (filter_map f it.functions)))))

  names_kept : filter_map (function_name_in (name_by sp)) zs ≡ map (λ f. f.name) m.funcs
  names_kept = only_functions (function_name_in (name_by sp)) (no_function_name (name_by sp)) refl ∙ stand_kept (IsFunctionItem sp m) (function_name_in (name_by sp)) (λ f. f.name) (function_named sp m) m.funcs it.functions it.are_functions

  names_are : filter_map (function_name_in (name_at text)) zs ≡ map (λ f. f.name) m.funcs
  unfolding name_at
  names_are = names_kept

  named_alike : g.name ≡ name_by sp
  unfolding name_at
  named_alike = refl

  string_alike : g.string ≡ string_by sp
  unfolding string_at
  string_alike = refl

  -- ---- groups

  abbrev before_groups : List ItemSyntax
  before_groups = aside ∷ aside ∷ (it.constants ++ it.functions)

  at_groups : zs ≡ before_groups ++ (it.groups ++ it.flags)
  at_groups = it.items_are ∙ ap (λ l. aside ∷ aside ∷ l) (sym (append_assoc it.constants it.functions (it.groups ++ it.flags)))

  no_groups_before : Each (λ i. group_in i ≡ nothing_written) before_groups
  no_groups_before = (
    refl,
    (
      refl,
      Each-append (λ i. group_in i ≡ nothing_written) it.constants it.functions
          (Each-weaker (Not 3) (λ i. group_in i ≡ nothing_written) no_group it.constants (not_of 3 1 (λ e. absurd (omega arith)) it.constants constants_sort))
          (Each-weaker (Not 3) (λ i. group_in i ≡ nothing_written) no_group it.functions (not_of 3 2 (λ e. absurd (omega arith)) it.functions functions_sort)),
    ),
  )

  group_found : (t : Token) (n : ℕ) (attrs : List Attr) → number t ≡ n → slice_get (groups_of m) n ≡ Some attrs → (g.group t ≡ Some (length before_groups + n)) × ((i : ItemSyntax) × (slice_get zs (length before_groups + n) ≡ Some i) × IsGroupItem sp n attrs i)
  group_found t n attrs e h =
      let k = groups_marked sp 0 (groups_of m) it.groups it.are_groups in
      let c = k.1 in
      let b = placed_below (groups_of m) n attrs h in
      let w = resolved group_in before_groups it.groups it.flags n no_groups_before k.0 (omega arith) in
      let i = group_at sp 0 (groups_of m) it.groups n attrs it.are_groups h in
      let z : 0 + n ≡ n = omega arith in (
        ap (λ k. number_of same_written (map group_in zs) (mark k)) e ∙ (ap (λ l. number_of same_written (map group_in l) (mark n)) at_groups ∙ w.0),
        (i.0, ap (λ l. slice_get l (length before_groups + n)) at_groups ∙ (w.1 ∙ i.1), subst (λ k. IsGroupItem sp k attrs i.0) z i.2),
      )

  attrs_found : (i : ItemSyntax) (n : ℕ) (attrs : List Attr) → IsGroupItem sp n attrs i → attrs_in g (Some i) ≡ attrs
  attrs_found (item_syntax.Group t xs) n attrs h = attrs_kept sp g string_alike attrs xs h.1
  attrs_found i n attrs h = absurd h

  -- what names stand for outside of functions
  tells : TellsModule sp m g
  tells = record {
    name = named_alike;
    spelled = λ t. refl;
    constants = λ k c e. (
      ap (λ cs. number_of equal_names (map (λ c. c.name) cs) c.name) constants_are
          ∙ placed (map (λ c. c.name) m.globals) k c.name (distinct_left (map (λ c. c.name) m.globals) (map (λ f. f.name) m.funcs) distinct) (mapped_get (λ c. c.name) m.globals k c e),
      ap (λ cs. option_map size_of (slice_get cs k)) constants_are ∙ ap (option_map size_of) e,
    );
    functions = λ k f e. ap (λ ns. number_of equal_names ns f.name) names_are
        ∙ placed (map (λ f. f.name) m.funcs) k f.name (distinct_right (map (λ c. c.name) m.globals) (map (λ f. f.name) m.funcs) distinct) (mapped_get (λ f. f.name) m.funcs k f e);
    groups = λ t n attrs e h. let w = group_found t n attrs e h in (
      ap (unknown t) w.0,
      ap (λ o. attrs_in g (item_at g o)) w.0 ∙ (ap (attrs_in g) w.1.1 ∙ attrs_found w.1.0 n attrs w.1.2),
    );
  }

  functions_are : filter_map (function_in g) zs ≡ m.funcs
  functions_are = only_functions (function_in g) (no_function g) refl ∙ (stand_kept (IsFunctionItem sp m) (function_in g) (λ f. f) (function_kept sp m g tells) m.funcs it.functions it.are_functions ∙ map_itself m.funcs)

  -- ---- faults, item after item

  before_first : (o : Option ℕ) → is_before o 0 ≡ false
  before_first None = refl
  before_first (Some k) = le-ltb k 0 (omega arith)

  constants_pass : (cs : List Constant) (xs : List ItemSyntax) (k i : ℕ) (rest : List ItemSyntax) → From m.globals k cs → Stand (IsConstantItem sp) cs xs
      → items_faults g (counts (k + length xs) 0 (i + length xs)) rest ≡ [] → items_faults g (counts k 0 i) (xs ++ rest) ≡ []
  constants_pass [] [] k i rest h w n =
      let a : k + 0 ≡ k = omega arith in
      let b : i + 0 ≡ i = omega arith in
      subst (λ k. items_faults g (counts k 0 i) rest ≡ []) a (subst (λ i. items_faults g (counts (k + 0) 0 i) rest ≡ []) b n)
  constants_pass [] (x ∷ xs) k i rest h w n = absurd w
  constants_pass (c ∷ cs) [] k i rest h w n = absurd w
  constants_pass (c ∷ cs) (x ∷ xs) k i rest h w n =
      let a : k + length (x ∷ xs) ≡ k + 1 + length xs = omega arith in
      let b : i + length (x ∷ xs) ≡ i + 1 + length xs = omega arith in
      own x w.0 (constants_pass cs xs (k + 1) (i + 1) rest h.1 w.1 (subst (λ i. items_faults g (counts (k + 1 + length xs) 0 i) rest ≡ []) b (subst (λ k. items_faults g (counts k 0 (i + length (x ∷ xs))) rest ≡ []) a n)))
    where
      own : (x : ItemSyntax) → IsConstantItem sp c x → items_faults g (counts (k + 1) 0 (i + 1)) (xs ++ rest) ≡ [] → items_faults g (counts k 0 i) (x ∷ (xs ++ rest)) ≡ []
      own (item_syntax.Constant t b) v more =
          let name : g.name t ≡ c.name = ap (λ n. n t) named_alike ∙ v.0 in
          let first : is_before (g.constant (g.name t)) k ≡ false = ap (λ o. is_before o k) (ap g.constant name ∙ (tells.constants k c h.0).0) ∙ le-ltb k k (omega arith) in
          none_both (ap (λ b. fault_if b Duplicate t) (or_from (is_before (g.constant (g.name t)) k) (is_before (g.function (g.name t)) 0) first (before_first (g.function (g.name t))))) more
      own x v more = absurd v

  functions_pass : (c : ℕ) (fs : List Function) (xs : List ItemSyntax) (k i : ℕ) (rest : List ItemSyntax) → From m.funcs k fs → Stand (IsFunctionItem sp m) fs xs
      → items_faults g (counts c (k + length xs) (i + length xs)) rest ≡ [] → items_faults g (counts c k i) (xs ++ rest) ≡ []
  functions_pass c [] [] k i rest h w n =
      let a : k + 0 ≡ k = omega arith in
      let b : i + 0 ≡ i = omega arith in
      subst (λ k. items_faults g (counts c k i) rest ≡ []) a (subst (λ i. items_faults g (counts c (k + 0) i) rest ≡ []) b n)
  functions_pass c [] (x ∷ xs) k i rest h w n = absurd w
  functions_pass c (f ∷ fs) [] k i rest h w n = absurd w
  functions_pass c (f ∷ fs) (x ∷ xs) k i rest h w n =
      let a : k + length (x ∷ xs) ≡ k + 1 + length xs = omega arith in
      let b : i + length (x ∷ xs) ≡ i + 1 + length xs = omega arith in
      own x w.0 (functions_pass c fs xs (k + 1) (i + 1) rest h.1 w.1 (subst (λ i. items_faults g (counts c (k + 1 + length xs) i) rest ≡ []) b (subst (λ k. items_faults g (counts c k (i + length (x ∷ xs))) rest ≡ []) a n)))
    where
      own : (x : ItemSyntax) → IsFunctionItem sp m f x → items_faults g (counts c (k + 1) (i + 1)) (xs ++ rest) ≡ [] → items_faults g (counts c k i) (x ∷ (xs ++ rest)) ≡ []
      own (item_syntax.Function y) v more =
          let name : g.name y.name ≡ f.name = ap (λ n. n y.name) named_alike ∙ v.name in
          let apart : g.constant f.name ≡ None = ap (λ cs. number_of equal_names (map (λ c. c.name) cs) f.name) constants_are
          ∙ apart_right (map (λ c. c.name) m.globals) (map (λ f. f.name) m.funcs) k f.name distinct (mapped_get (λ f. f.name) m.funcs k f h.0) in
          let first : is_before (g.constant (g.name y.name)) c ≡ false = ap (λ o. is_before o c) (ap g.constant name ∙ apart) in
          let second : is_before (g.function (g.name y.name)) k ≡ false = ap (λ o. is_before o k) (ap g.function name ∙ tells.functions k f h.0) ∙ le-ltb k k (omega arith) in
          none_both (none_both (ap (λ b. fault_if b Duplicate y.name) (or_from (is_before (g.constant (g.name y.name)) c) (is_before (g.function (g.name y.name)) k) first second)) (v.means g tells).0) more
      own x v more = absurd v

  groups_pass : (a b : ℕ) (gs : List (List Attr)) (xs : List ItemSyntax) (n i : ℕ) (rest : List ItemSyntax) → i ≡ length before_groups + n → From (groups_of m) n gs → AreGroups sp n gs xs
      → items_faults g (counts a b (i + length xs)) rest ≡ [] → items_faults g (counts a b i) (xs ++ rest) ≡ []
  groups_pass a b [] xs n i rest l h w k =
      let z : i + 0 ≡ i = omega arith in
      subst (λ ys. items_faults g (counts a b i) (ys ++ rest) ≡ []) (sym w) (subst (λ i. items_faults g (counts a b i) rest ≡ []) z (subst (λ ys. items_faults g (counts a b (i + length ys)) rest ≡ []) w k))
  groups_pass a b (d ∷ gs) [] n i rest l h w k = absurd w
  groups_pass a b (d ∷ gs) (x ∷ xs) n i rest l h w k =
      let z : i + length (x ∷ xs) ≡ i + 1 + length xs = omega arith in
      own x w.0 (groups_pass a b gs xs (n + 1) (i + 1) rest (omega arith) h.1 w.1 (subst (λ i. items_faults g (counts a b i) rest ≡ []) z k))
    where
      own : (x : ItemSyntax) → IsGroupItem sp n d x → items_faults g (counts a b (i + 1)) (xs ++ rest) ≡ [] → items_faults g (counts a b i) (x ∷ (xs ++ rest)) ≡ []
      own (item_syntax.Group t ys) v more =
          let p = group_found t n d v.0 h.0 in
          let first : is_before (g.group t) i ≡ false = ap (λ o. is_before o i) p.0 ∙ le-ltb (length before_groups + n) i (omega arith) in
          none_both (ap (λ b. fault_if b Duplicate t) first) more
      own x v more = absurd v

  -- ---- flags: the list and the nodes

  listed_in : listed sp zs ≡ flat_map (flag_nodes sp) it.flags
  listed_in =
      let f = flag_nodes sp in
      let a = flat_none f it.constants (Each-weaker (Not 4) (λ i. f i ≡ []) (no_list sp) it.constants (not_of 4 1 (λ e. absurd (omega arith)) it.constants constants_sort)) in
      let b = flat_none f it.functions (Each-weaker (Not 4) (λ i. f i ≡ []) (no_list sp) it.functions (not_of 4 2 (λ e. absurd (omega arith)) it.functions functions_sort)) in
      let c = flat_none f it.groups (Each-weaker (Not 4) (λ i. f i ≡ []) (no_list sp) it.groups (not_of 4 3 (λ e. absurd (omega arith)) it.groups own_groups_sort)) in
      ap (flat_map f) it.items_are
      ∙ (flat_map-append f it.constants (it.functions ++ (it.groups ++ it.flags)) ∙ (ap (λ l. l ++ flat_map f (it.functions ++ (it.groups ++ it.flags))) a
      ∙ (flat_map-append f it.functions (it.groups ++ it.flags) ∙ (ap (λ l. l ++ flat_map f (it.groups ++ it.flags)) b
      ∙ (flat_map-append f it.groups it.flags ∙ ap (λ l. l ++ flat_map f it.flags) c)))))

  abbrev list_place : ℕ
  list_place = length (aside ∷ aside ∷ (it.constants ++ (it.functions ++ it.groups)))

  module _ (list : ItemSyntax) (nodes : List ItemSyntax) (x : Flag) (xs : List Flag) (flags : m.flags ≡ x ∷ xs) (items : it.flags ≡ list ∷ nodes)
      (is_list : IsListItem sp (count_from 0 (x ∷ xs)) list) (are_nodes : AreNodes sp 0 (all_cells (x ∷ xs)) nodes) where
    abbrev all : List (List Cell)
    all = all_cells (x ∷ xs)

    abbrev before_nodes : List ItemSyntax
    before_nodes = aside ∷ aside ∷ (it.constants ++ (it.functions ++ (it.groups ++ list ∷ [])))

    at_nodes : zs ≡ before_nodes ++ (nodes ++ [])
    at_nodes =
        let a = append_assoc it.groups (list ∷ []) (nodes ++ []) in
        let b = append_assoc it.functions (it.groups ++ list ∷ []) (nodes ++ []) in
        let c = append_assoc it.constants (it.functions ++ (it.groups ++ list ∷ [])) (nodes ++ []) in
        let d : (it.constants ++ (it.functions ++ (it.groups ++ list ∷ []))) ++ (nodes ++ []) ≡ it.constants ++ (it.functions ++ (it.groups ++ (list ∷ (nodes ++ [])))) = c ∙ ap (λ l. it.constants ++ l) (b ∙ ap (λ l. it.functions ++ l) a) in
        it.items_are ∙ ap (λ l. aside ∷ aside ∷ l) (ap (λ l. it.constants ++ (it.functions ++ (it.groups ++ l))) (items ∙ ap (λ l. list ∷ l) (sym (append-nil nodes))) ∙ sym d)

    not_nodes : Each (λ i. node_in i ≡ nothing_written) before_nodes
    not_nodes =
        let P : ItemSyntax → Type 0 = λ i. node_in i ≡ nothing_written in
        let a = Each-weaker (Not 5) P no_node it.constants (not_of 5 1 (λ e. absurd (omega arith)) it.constants constants_sort) in
        let b = Each-weaker (Not 5) P no_node it.functions (not_of 5 2 (λ e. absurd (omega arith)) it.functions functions_sort) in
        let c = Each-weaker (Not 5) P no_node it.groups (not_of 5 3 (λ e. absurd (omega arith)) it.groups own_groups_sort) in
        let l = list_sort sp (count_from 0 (x ∷ xs)) list is_list in
        (refl, (refl, Each-append P it.constants (it.functions ++ (it.groups ++ list ∷ [])) a (Each-append P it.functions (it.groups ++ list ∷ []) b (Each-append P it.groups (list ∷ []) c (no_node list (λ e. absurd (omega arith)), tt)))))

    node_found : (t : Token) (n : ℕ) (c : List Cell) → number t ≡ n → slice_get all n ≡ Some c → (g.node t ≡ Some (length before_nodes + n)) × ((es : List ElemSyntax) × (node_of g t ≡ Some es) × Stand (IsCell sp) c es)
    node_found t n c e h =
        let k = nodes_marked sp 0 all nodes are_nodes in
        let d = k.1 in
        let b = placed_below all n c h in
        let w = resolved node_in before_nodes nodes [] n not_nodes k.0 (omega arith) in
        let i = node_at sp 0 all nodes n c are_nodes h in
        let z : 0 + n ≡ n = omega arith in
        let at : g.node t ≡ Some (length before_nodes + n) = ap (λ k. number_of same_written (map node_in zs) (mark k)) e ∙ (ap (λ l. number_of same_written (map node_in l) (mark n)) at_nodes ∙ w.0) in
        let place : slice_get zs (length before_nodes + n) ≡ Some i.0 = ap (λ l. slice_get l (length before_nodes + n)) at_nodes ∙ (w.1 ∙ i.1) in
        let own = elems i.0 i.2 in
        (at, (own.0, ap (λ o. elems_in (item_at g o)) at ∙ (ap elems_in place ∙ own.1), own.2))
      where
        elems : (i : ItemSyntax) → IsNodeItem sp (0 + n) c i → (es : List ElemSyntax) × (elems_in (Some i) ≡ Some es) × Stand (IsCell sp) c es
        elems (item_syntax.Node t es) h = (es, refl, h.1)
        elems i h = absurd h

    -- ---- what nodes hold

    part_kept : (p : FlagPart) (q : PartSyntax) → IsPart sp p q → part_of g q ≡ p
    part_kept (part_is.Int w bits) (part_syntax.Integer v negative n) h = ap (λ b. part_is.Int v b) h.1 ∙ ap (λ v. part_is.Int v bits) h.0
    part_kept (part_is.Int w bits) (part_syntax.Text t) h = absurd h
    part_kept (part_is.Text bytes) (part_syntax.Integer v negative n) h = absurd h
    part_kept (part_is.Text bytes) (part_syntax.Text t) h = ap (λ s. part_is.Text (s t)) string_alike ∙ ap part_is.Text h

    parts_kept : (ps : List FlagPart) (es : List ElemSyntax) → Stand (IsCell sp) (map part_cell ps) es → parts_in g es ≡ Some ps
    parts_kept [] [] h = refl
    parts_kept [] (e ∷ es) h = absurd h
    parts_kept (p ∷ ps) [] h = absurd h
    parts_kept (p ∷ ps) (e ∷ es) h = own e h.0 (parts_kept ps es h.1)
      where
        own : (e : ElemSyntax) → IsCell sp (part_cell p) e → parts_in g es ≡ Some ps → parts_in g (e ∷ es) ≡ Some (p ∷ ps)
        own (elem_syntax.Part q) v more = ap (option_map (λ l. part_of g q ∷ l)) more ∙ ap (λ a. Some (a ∷ ps)) (part_kept p q v)
        own e v more = absurd v

    part_faultless : (ps : List FlagPart) (es : List ElemSyntax) → Stand (IsCell sp) (map part_cell ps) es → flat_map (elem_faults g) es ≡ []
    part_faultless [] [] h = refl
    part_faultless [] (e ∷ es) h = absurd h
    part_faultless (p ∷ ps) [] h = absurd h
    part_faultless (p ∷ ps) (e ∷ es) h = own e h.0 (part_faultless ps es h.1)
      where
        own : (e : ElemSyntax) → IsCell sp (part_cell p) e → flat_map (elem_faults g) es ≡ [] → flat_map (elem_faults g) (e ∷ es) ≡ []
        own (elem_syntax.Part q) v more = more
        own e v more = absurd v

    value_kept_at : (node : ℕ) (v : FlagValue) (e : ElemSyntax) → From all node (list_cells v) → IsCell sp (value_cell node v) e → (value_of g e ≡ Some v) × (elem_faults g e ≡ [])
    value_kept_at node (value_is.One p) (elem_syntax.Part q) h w = (ap (λ p. Some (value_is.One p)) (part_kept p q w), refl)
    value_kept_at node (value_is.One p) e h w = absurd w
    value_kept_at node (value_is.List ps) (elem_syntax.Node t) h w =
        let n = node_found t node (map part_cell ps) w h.0 in (
          ap (λ o. option_map value_is.List (option_and_then (parts_in g) o)) n.1.1 ∙ ap (option_map value_is.List) (parts_kept ps n.1.0 n.1.2),
          ap (unknown t) n.0,
        )
    value_kept_at node (value_is.List ps) e h w = absurd w

    three : (R : Cell → ElemSyntax → Type 0) (a b c : Cell) (es : List ElemSyntax) → Stand R (a ∷ b ∷ c ∷ []) es → (e f h : ElemSyntax) × (es ≡ e ∷ f ∷ h ∷ []) × R a e × R b f × R c h
    three R a b c [] h = absurd h
    three R a b c (e ∷ []) h = absurd h.1
    three R a b c (e ∷ f ∷ []) h = absurd h.1.1
    three R a b c (e ∷ f ∷ i ∷ []) h = (e, f, i, refl, h.0, h.1.0, h.1.1.0)
    three R a b c (e ∷ f ∷ i ∷ j ∷ es) h = absurd h.1.1.1

    integer_cell : (w bits : ℕ) (e : ElemSyntax) → IsCell sp (part_cell (part_is.Int w bits)) e → (v : ℕ) × (negative : Bool) × (n : ℕ) × (e ≡ elem_syntax.Part (part_syntax.Integer v negative n)) × (v ≡ w) × (bits_of_sign v negative n ≡ bits)
    integer_cell w bits (elem_syntax.Part (part_syntax.Integer v negative n)) h = (v, negative, n, refl, h.0, h.1)
    integer_cell w bits (elem_syntax.Part (part_syntax.Text t)) h = absurd h
    integer_cell w bits e h = absurd h

    text_cell : (bytes : List ℕ) (e : ElemSyntax) → IsCell sp (part_cell (part_is.Text bytes)) e → (t : Token) × (e ≡ elem_syntax.Part (part_syntax.Text t)) × (string_by sp t ≡ bytes)
    text_cell bytes (elem_syntax.Part (part_syntax.Text t)) h = (t, refl, h)
    text_cell bytes (elem_syntax.Part (part_syntax.Integer v negative n)) h = absurd h
    text_cell bytes e h = absurd h

    -- the node of a flag is that flag, and has no fault
    flag_kept : (node : ℕ) (y : Flag) (es : List ElemSyntax) → From all node (list_cells y.value) → Stand (IsCell sp) (flag_cells node y) es → (flag_of g es ≡ Some y) × (flat_map (elem_faults g) es ≡ [])
    flag_kept node y es h w =
        let s = three (IsCell sp) (part_cell (part_is.Int 32 y.behaviour)) (part_cell (part_is.Text y.key)) (value_cell node y.value) es w in
        let i = integer_cell 32 y.behaviour s.0 s.4 in
        let t = text_cell y.key s.1 s.5 in
        let v = value_kept_at node y.value s.2 h s.6 in
        let whole : es ≡ elem_syntax.Part (part_syntax.Integer 32 i.1 i.2) ∷ elem_syntax.Part (part_syntax.Text t.0) ∷ s.2 ∷ [] =
        s.3 ∙ (ap (λ e. e ∷ s.1 ∷ s.2 ∷ []) (i.3 ∙ ap (λ w. elem_syntax.Part (part_syntax.Integer w i.1 i.2)) i.4) ∙ ap (λ e. elem_syntax.Part (part_syntax.Integer 32 i.1 i.2) ∷ e ∷ s.2 ∷ []) t.1) in
        let bits : bits_of_sign 32 i.1 i.2 ≡ y.behaviour = ap (λ w. bits_of_sign w i.1 i.2) (sym i.4) ∙ i.5 in
        let key : g.string t.0 ≡ y.key = ap (λ s. s t.0) string_alike ∙ t.2 in (
          ap (flag_of g) whole ∙ (ap (option_map (flag_with (bits_of_sign 32 i.1 i.2) (g.string t.0))) v.0 ∙ same bits key),
          ap (flat_map (elem_faults g)) whole ∙ none_both v.1 refl,
        )
      where
        same : {b b' : ℕ} {k k' : List ℕ} → b ≡ b' → k ≡ k' → ◌≡◌ {A = Option Flag} (Some (record { behaviour = b; key = k; value = y.value })) (Some (record { behaviour = b'; key = k'; value = y.value }))
        same e d = cc

    -- ---- the listed nodes are the flags

    listed_tokens : (list : ItemSyntax) → IsListItem sp (count_from 0 (x ∷ xs)) list → (ts : List Token) × (flag_nodes sp list ≡ ts) × Stand (λ n t. number t ≡ n) (count_from 0 (x ∷ xs)) ts
    listed_tokens (item_syntax.List t ts) h = (ts, ap (λ s. cond (same_text s (codes "!llvm.module.flags")) ts []) h.0, h.1)
    listed_tokens i h = absurd h

    abbrev ts : List Token
    ts = (listed_tokens list is_list).0

    listed_are : listed sp zs ≡ ts
    listed_are =
        let f = flag_nodes sp in
        let d = flat_none f nodes (Each-weaker (Not 4) (λ i. f i ≡ []) (no_list sp) nodes (not_of 4 5 (λ e. absurd (omega arith)) nodes (nodes_sort sp 0 all nodes are_nodes))) in
        listed_in ∙ (ap (flat_map f) items ∙ (ap (λ l. f list ++ l) d ∙ (append-nil (f list) ∙ (listed_tokens list is_list).1)))

    -- the lists of the first flag, and of the others
    own_lists : (v : FlagValue) (node : ℕ) (rest : List (List Cell)) → From all node (list_cells v ++ rest) → From all node (list_cells v) × From all (behind_value node v) rest
    own_lists (value_is.One p) node rest h = (tt, h)
    own_lists (value_is.List ps) node rest h = ((h.0, tt), h.1)

    flags_meant : (ys : List Flag) (node n : ℕ) (us : List Token) → From all n (flags_cells node ys) → From all node (lists_cells ys) → Stand (λ n t. number t ≡ n) (count_from n ys) us → filter_map (listed_flag g) us ≡ ys
    flags_meant [] node n [] h k w = refl
    flags_meant [] node n (u ∷ us) h k w = absurd w
    flags_meant (y ∷ ys) node n [] h k w = absurd w
    flags_meant (y ∷ ys) node n (u ∷ us) h k w =
        let f = node_found u n (flag_cells node y) w.0 h.0 in
        let p = own_lists y.value node (lists_cells ys) k in
        let v = flag_kept node y f.1.0 p.0 f.1.2 in
        ap (λ o. cons_option (option_and_then (flag_of g) o) (filter_map (listed_flag g) us)) f.1.1
        ∙ (ap (λ o. cons_option o (filter_map (listed_flag g) us)) v.0 ∙ ap (λ l. y ∷ l) (flags_meant ys (behind_value node y.value) (n + 1) us h.1 p.1 w.1))

    places : From all 0 (flags_cells (length (x ∷ xs)) (x ∷ xs)) × From all (0 + length (flags_cells (length (x ∷ xs)) (x ∷ xs))) (lists_cells (x ∷ xs))
    places = From-parts all 0 (flags_cells (length (x ∷ xs)) (x ∷ xs)) (lists_cells (x ∷ xs)) (from_itself all)

    lists_placed : From all (length (x ∷ xs)) (lists_cells (x ∷ xs))
    lists_placed =
        let c = flags_count (length (x ∷ xs)) (x ∷ xs) in
        let e : 0 + length (flags_cells (length (x ∷ xs)) (x ∷ xs)) ≡ length (x ∷ xs) = omega arith in
        subst (λ n. From all n (lists_cells (x ∷ xs))) e places.1

    flags_kept : filter_map (listed_flag g) (listed sp zs) ≡ x ∷ xs
    flags_kept = ap (filter_map (listed_flag g)) listed_are ∙ flags_meant (x ∷ xs) (length (x ∷ xs)) 0 ts places.0 lists_placed (listed_tokens list is_list).2

    -- ---- no fault stands at the list or at a node

    uses_known : (ys : List Flag) (node n : ℕ) (us : List Token) → From all n (flags_cells node ys) → Stand (λ n t. number t ≡ n) (count_from n ys) us → flat_map (node_use_faults g) us ≡ []
    uses_known [] node n [] h w = refl
    uses_known [] node n (u ∷ us) h w = absurd w
    uses_known (y ∷ ys) node n [] h w = absurd w
    uses_known (y ∷ ys) node n (u ∷ us) h w = none_both (ap (unknown u) (node_found u n (flag_cells node y) w.0 h.0).0) (uses_known ys (behind_value node y.value) (n + 1) us h.1 w.1)

    abbrev Fine : ℕ → List Cell → Type 0
    Fine n c = (t : Token) (es : List ElemSyntax) → number t ≡ n → Stand (IsCell sp) c es → (fault_if (is_some (g.listed t) && not (is_some (flag_of g es))) BadFlag t ≡ []) × (flat_map (elem_faults g) es ≡ [])

    abbrev AllFine : ℕ → List (List Cell) → Type 0
    AllFine n [] = Unit {0}
    AllFine n (c ∷ cs) = Fine n c × AllFine (n + 1) cs

    fine_append : (cs ds : List (List Cell)) (n k : ℕ) → k ≡ n + length cs → AllFine n cs → AllFine k ds → AllFine n (cs ++ ds)
    fine_append [] ds n k e h w = let d : k ≡ n = omega arith in subst (λ n. AllFine n ds) d w
    fine_append (c ∷ cs) ds n k e h w = (h.0, fine_append cs ds (n + 1) k (omega arith) h.1 w)

    fine_flags : (ys : List Flag) (node n : ℕ) → From all node (lists_cells ys) → AllFine n (flags_cells node ys)
    fine_flags [] node n h = tt
    fine_flags (y ∷ ys) node n h =
        let p = own_lists y.value node (lists_cells ys) h in (
          λ t es e w. let v = flag_kept node y es p.0 w in (
            ap (λ o. fault_if (is_some (g.listed t) && not (is_some o)) BadFlag t) v.0 ∙ ap (λ b. fault_if b BadFlag t) (and_right (is_some (g.listed t)) false refl),
            v.1,
          ),
          fine_flags ys (behind_value node y.value) (n + 1) p.1,
        )

    tokens_marked : (ys : List Flag) (n : ℕ) (us : List Token) → Stand (λ n t. number t ≡ n) (count_from n ys) us → Marks n (map written us) × (length (map written us) ≡ length ys)
    tokens_marked [] n [] w = (tt, refl)
    tokens_marked [] n (u ∷ us) w = absurd w
    tokens_marked (y ∷ ys) n [] w = absurd w
    tokens_marked (y ∷ ys) n (u ∷ us) w = let v = tokens_marked ys (n + 1) us w.1 in ((ap mark w.0, v.0), let e = v.1 in omega arith)

    not_listed : (t : Token) (n : ℕ) → number t ≡ n → length (x ∷ xs) ≤ n → g.listed t ≡ None
    not_listed t n e l =
        let w = tokens_marked (x ∷ xs) 0 ts (listed_tokens list is_list).2 in
        let c = w.1 in
        ap (λ us. number_of same_written (map written us) (written t)) listed_are
        ∙ (ap (λ k. number_of same_written (map written ts) (mark k)) e ∙ none_marked (map written ts) n 0 0 w.0 (omega arith))

    fine_lists : (ys : List Flag) (n : ℕ) → length (x ∷ xs) ≤ n → AllFine n (lists_cells ys)
    fine_lists [] n l = tt
    fine_lists (y ∷ ys) n l = own y.value (fine_lists ys n l) (fine_lists ys (n + 1) (omega arith))
      where
        own : (v : FlagValue) → AllFine n (lists_cells ys) → AllFine (n + 1) (lists_cells ys) → AllFine n (list_cells v ++ lists_cells ys)
        own (value_is.One p) here there = here
        own (value_is.List ps) here there = (
          λ t es e w. (ap (λ o. fault_if (is_some o && not (is_some (flag_of g es))) BadFlag t) (not_listed t n e l), part_faultless ps es w),
          there,
        )

    all_fine : AllFine 0 all
    all_fine =
        let c = flags_count (length (x ∷ xs)) (x ∷ xs) in
        fine_append (flags_cells (length (x ∷ xs)) (x ∷ xs)) (lists_cells (x ∷ xs)) 0 (length (x ∷ xs)) (omega arith) (fine_flags (x ∷ xs) (length (x ∷ xs)) 0 lists_placed) (fine_lists (x ∷ xs) (length (x ∷ xs)) (omega arith))

    nodes_pass : (a b : ℕ) (cs : List (List Cell)) (is : List ItemSyntax) (n i : ℕ) → i ≡ length before_nodes + n → From all n cs → AreNodes sp n cs is → AllFine n cs → items_faults g (counts a b i) is ≡ []
    nodes_pass a b [] is n i l h w k = ap (items_faults g (counts a b i)) w
    nodes_pass a b (c ∷ cs) [] n i l h w k = absurd w
    nodes_pass a b (c ∷ cs) (z ∷ is) n i l h w k = own z w.0 (nodes_pass a b cs is (n + 1) (i + 1) (omega arith) h.1 w.1 k.1)
      where
        own : (z : ItemSyntax) → IsNodeItem sp n c z → items_faults g (counts a b (i + 1)) is ≡ [] → items_faults g (counts a b i) (z ∷ is) ≡ []
        own (item_syntax.Node t es) v more =
            let p = node_found t n c v.0 h.0 in
            let q = k.0 t es v.0 v.1 in
            let first : is_before (g.node t) i ≡ false = ap (λ o. is_before o i) p.0 ∙ le-ltb (length before_nodes + n) i (omega arith) in
            let mine : own_faults g i t es ≡ [] = ap (λ b. cond b (fault Duplicate t) (fault_if (is_some (g.listed t) && not (is_some (flag_of g es))) BadFlag t)) first ∙ q.0 in
            none_both (none_both mine q.1) more
        own z v more = absurd v

    list_faultless : (a b i : ℕ) (list : ItemSyntax) → IsListItem sp (count_from 0 (x ∷ xs)) list → item_faults g (counts a b i) list ≡ []
    list_faultless a b i (item_syntax.List t us) h = uses_known (x ∷ xs) (length (x ∷ xs)) 0 us places.0 h.1
    list_faultless a b i z h = absurd h

    list_behind : (a b i : ℕ) (list : ItemSyntax) → IsListItem sp (count_from 0 (x ∷ xs)) list → behind (counts a b i) list ≡ counts a b (i + 1)
    list_behind a b i (item_syntax.List t us) h = refl
    list_behind a b i z h = absurd h

    flags_pass : (a b i : ℕ) → i ≡ list_place → items_faults g (counts a b i) (list ∷ nodes) ≡ []
    flags_pass a b i e =
        let c = length-append it.constants (it.functions ++ (it.groups ++ list ∷ [])) in
        let d = length-append it.functions (it.groups ++ list ∷ []) in
        let f = length-append it.groups (list ∷ []) in
        let h = length-append it.constants (it.functions ++ it.groups) in
        let j = length-append it.functions it.groups in
        let at : i + 1 ≡ length before_nodes + 0 = omega arith in
        none_both (list_faultless a b i list is_list)
        (subst (λ b'. items_faults g b' nodes ≡ []) (sym (list_behind a b i list is_list)) (nodes_pass a b all nodes 0 (i + 1) at (from_itself all) are_nodes all_fine))

  -- ---- the whole module

  flags_by : (fs : List Flag) (is : List ItemSyntax) → m.flags ≡ fs → it.flags ≡ is → AreFlags sp fs is → (filter_map (listed_flag g) (listed sp zs) ≡ fs) × ((a b i : ℕ) → i ≡ list_place → items_faults g (counts a b i) is ≡ [])
  flags_by [] is e d h = (
    ap (filter_map (listed_flag g)) (listed_in ∙ (ap (flat_map (flag_nodes sp)) (d ∙ h))),
    λ a b i k. ap (items_faults g (counts a b i)) h,
  )
  flags_by (x ∷ xs) [] e d h = absurd h
  flags_by (x ∷ xs) (list ∷ nodes) e d h = (flags_kept list nodes x xs e d h.0 h.1, flags_pass list nodes x xs e d h.0 h.1)

  pub faultless : faults_of text zs ≡ []
  faultless =
      let c = length-append it.constants (it.functions ++ it.groups) in
      let d = length-append it.functions it.groups in
      let b = length-append it.constants it.functions in
      let flags = (flags_by m.flags it.flags refl refl it.are_flags).1 (0 + length it.constants) (0 + length it.functions) (2 + length it.constants + length it.functions + length it.groups) (omega arith) in
      let groups = groups_pass (0 + length it.constants) (0 + length it.functions) (groups_of m) it.groups 0 (2 + length it.constants + length it.functions) it.flags (omega arith) (from_itself (groups_of m)) it.are_groups flags in
      let functions = functions_pass (0 + length it.constants) m.funcs it.functions 0 (2 + length it.constants) (it.groups ++ it.flags) (from_itself m.funcs) it.are_functions groups in
      ap (items_faults g start) it.items_are ∙ constants_pass m.globals it.constants 0 2 (it.functions ++ (it.groups ++ it.flags)) (from_itself m.globals) it.are_constants functions

  pub module_is : m ≡ module_of text zs
  module_is = same_module (sym constants_are) (sym functions_are) (sym (flags_by m.flags it.flags refl refl it.are_flags).0)
    where
      same_module : {c c' : List Constant} {f f' : List Function} {n n' : List Flag} → c ≡ c' → f ≡ f' → n ≡ n' → ◌≡◌ {A = Module} (record { globals = c; funcs = f; flags = n }) (record { globals = c'; funcs = f'; flags = n' })
      same_module e d h = cc
