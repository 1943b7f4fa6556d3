-- The parts of attribute groups, constants and flags stand apart.
use Rattle.std.proofs.Common.{◌≡◌, ℕ, ◌+◌, ◌*◌, ◌^◌, ◌<◌, ◌≤◌, Bool, true, false, Option, None, Some, List, [], ◌∷◌, ◌++◌, length, refl, ap, ◌∙◌, arith}
use Rattle.std.specs.Prelude.{◌&&◌, ◌==◌, nat_lt, nat_le, codes, map, decimal}
use Rattle.std.specs.List.{list_all}
use Rattle.std.proofs.lemmas.Bool.{and_parts, cond_both, ltb-true, leb-true}
use Rattle.ir_text.specs.declared.tok.Tok.TheVariants.{Word, Integer, Str, ByteStr, Group, Metadata}
use Rattle.ir_module.specs.Numbered.{are_few}
use Rattle.ir_module.specs.Printable.{name_fits, are_bytes, constant_text_fits, part_fits, flag_value_fits, flag_fits}
use Rattle.ir_module.specs.declared.tree.Attr.{Attr}
use Rattle.ir_module.specs.declared.tree.Constant.{Constant}
use Rattle.ir_module.specs.declared.tree.Flag.{Flag}
use Rattle.ir_module.specs.declared.tree.FlagPart.{FlagPart}
use Rattle.ir_module.specs.declared.tree.FlagPart.TheVariants as part
use Rattle.ir_module.specs.declared.tree.FlagValue.{FlagValue}
use Rattle.ir_module.specs.declared.tree.FlagValue.TheVariants as flagvalue
use Rattle.ir_parts.specs.Parts.{Part, token}
use Rattle.ir_printer.specs.Canonical.{constant_begin, constant_value, constant_line, constant_lines}
use Rattle.ir_printer.specs.Groups.{attr_value, attr_parts, attrs_parts, group_begin, group_line, group_lines}
use Rattle.ir_printer.specs.Metadata.{node_token, node_begin, node_open, node_close, text_parts, wide_int_part, int_parts, flag_part_parts, flag_names, flags_begin, flags_line, value_parts, behind_value, key_parts, flag_node, flag_lines, list_node, list_line, list_lines, nodes_lines, flags_sections}
use Rattle.ir_printer.specs.Operands.{bit_part, array_parts}
use Rattle.ir_printer.specs.Pieces.{blank, line_end, sign, word, comma, equals, listed}
use Rattle.ir_printer.specs.Spellings.{quoted, signed_spelling}
use Rattle.canonical_text.proofs.Join.{Good, Safe, AllGood, loosen, join, then_token, with_comma, listed_good, all_good, ends_open, ends_behind, ends_append, line_ends, line_join, lines_good}
use Rattle.canonical_text.proofs.OperandsGood.{global_token_good, bit_good, array_safe, few_bytes}
use Rattle.canonical_text.proofs.Written.{group_written, node_written, string_written, bytes_written, width_written, spelling_written}

-- ---- attribute groups

value_after : (o : Option (List ℕ)) → Safe (attr_value o)
value_after None = refl
value_after (Some v) = then_token Str (quoted v) [] (string_written v) refl

attr_good : (a : Attr) → Good (attr_parts a)
attr_good a = then_token Str (quoted a.key) (attr_value a.value) (string_written a.key) (value_after a.value)

attrs_safe : (attrs : List Attr) → Safe (attrs_parts attrs)
attrs_safe [] = refl
attrs_safe (a ∷ attrs) = join false (attr_parts a) (attrs_parts attrs) (attr_good a) (attrs_safe attrs)

begin_good : (n : ℕ) → n < 2 ^ 128 → Good (group_begin n)
unfolding group_begin
begin_good n h = then_token Group (35 ∷ decimal n) (equals ++ sign (codes "{") ∷ []) (group_written n h) refl

group_good : (n : ℕ) (attrs : List Attr) → n < 2 ^ 128 → Good (group_line n attrs)
group_good n attrs h =
    let close = blank ∷ sign (codes "}") ∷ line_end ∷ [] in
    join false (group_begin n) (attrs_parts attrs ++ close) (begin_good n h) (join true (attrs_parts attrs) close (attrs_safe attrs) refl)

group_ends : (n : ℕ) (attrs : List Attr) → ends_open false (group_line n attrs) ≡ false
group_ends n attrs =
    let close = blank ∷ sign (codes "}") ∷ line_end ∷ [] in
    ends_behind false (group_begin n) (attrs_parts attrs ++ close) (λ c. ends_behind c (attrs_parts attrs) close (λ d. refl))

pub groups_good : (n : ℕ) (gs : List (List Attr)) → n + length gs ≤ 2 ^ 33 → Good (group_lines n gs)
groups_good n [] h = refl
groups_good n (g ∷ gs) h =
    line_join false (group_line n g) (group_lines (n + 1) gs) (group_good n g (omega arith)) (group_ends n g) (groups_good (n + 1) gs (omega arith))

-- ---- constants

constant_good : (c : Constant) → constant_text_fits c ≡ true → Good (constant_line c)
unfolding constant_begin constant_value
constant_good c h =
    let p = and_parts (name_fits c.name) (are_bytes c.bytes && are_few c.bytes) h in
    let few = few_bytes c.bytes (and_parts (are_bytes c.bytes) (are_few c.bytes) p.1).1 in
    let array = array_parts (length c.bytes) in
    let bytes : Good (token ByteStr (99 ∷ quoted c.bytes) ∷ []) = then_token ByteStr (99 ∷ quoted c.bytes) [] (bytes_written c.bytes) refl in
    let value : Safe (constant_value c.bytes) = join true array (blank ∷ token ByteStr (99 ∷ quoted c.bytes) ∷ []) (array_safe (length c.bytes) few) bytes in
    let begin : Good (constant_begin c.name) = global_token_good c.name (equals ++ word (codes "internal") ∷ blank ∷ word (codes "constant") ∷ blank ∷ []) p.0 refl in
    join false (constant_begin c.name) (constant_value c.bytes ++ line_end ∷ []) begin (join true (constant_value c.bytes) (line_end ∷ []) value refl)

constant_ends : (c : Constant) → ends_open false (constant_line c) ≡ false
constant_ends c =
    ends_behind false (constant_begin c.name) (constant_value c.bytes ++ line_end ∷ []) (λ b. ends_behind b (constant_value c.bytes) (line_end ∷ []) line_ends)

pub constants_good : (cs : List Constant) → list_all constant_text_fits cs ≡ true → Good (constant_lines cs)
constants_good cs h = lines_good constant_line constant_text_fits cs constant_good constant_ends h

-- ---- flags

node_good : (n : ℕ) (ps : List Part) → n < 2 ^ 128 → Safe ps → Good (node_token n ∷ ps)
node_good n ps h k = then_token Metadata (33 ∷ decimal n) ps (node_written n h) k

text_safe : (bytes : List ℕ) → Safe (text_parts bytes)
text_safe bytes = then_token Str (quoted bytes) [] (string_written bytes) refl

wide_good : (width bits : ℕ) → width ≤ 128 → bits < 2 ^ width → Good (wide_int_part width bits ∷ [])
wide_good width bits m h =
    cond_both (width == 1) (bit_part bits) (token Integer (signed_spelling width bits)) (λ p. Good (p ∷ [])) (λ _. bit_good bits [] refl)
    (λ _. then_token Integer (signed_spelling width bits) [] (spelling_written width bits m h) refl)

int_good : (width bits : ℕ) → width ≤ 128 → bits < 2 ^ width → Good (int_parts width bits)
int_good width bits m h = then_token Word (105 ∷ decimal width) (blank ∷ wide_int_part width bits ∷ []) (width_written width (omega arith)) (wide_good width bits m h)

part_good : (p : FlagPart) → part_fits p ≡ true → Good (flag_part_parts p)
part_good (part.Int width bits) h =
    let p = and_parts (nat_lt 0 width) (nat_le width 128 && nat_lt bits (2 ^ width)) h in
    let q = and_parts (nat_le width 128) (nat_lt bits (2 ^ width)) p.1 in
    int_good width bits (leb-true width 128 q.0) (ltb-true bits (2 ^ width) q.1)
part_good (part.Text bytes) h = loosen (text_parts bytes) (text_safe bytes)

flag_value_good : (node : ℕ) (v : FlagValue) → node < 2 ^ 128 → flag_value_fits v ≡ true → Good (value_parts node v)
flag_value_good node (flagvalue.One p) n h = part_good p h
flag_value_good node (flagvalue.List ps) n h = node_good node [] n refl

names_good : (n : ℕ) (xs : List Flag) → n + length xs ≤ 2 ^ 33 → AllGood (flag_names n xs)
names_good n [] h = tt
names_good n (x ∷ xs) h = (node_good n [] (omega arith) refl, names_good (n + 1) xs (omega arith))

flags_line_good : (xs : List Flag) → length xs ≤ 2 ^ 33 → Good (flags_line xs)
unfolding flags_begin flags_line
flags_line_good xs h =
    let all = listed (flag_names 0 xs) in
    let inside : Good (all ++ node_close) = join false all node_close (listed_good (flag_names 0 xs) (names_good 0 xs (omega arith))) refl in
    inside

more_bound : (node : ℕ) (v : FlagValue) → behind_value node v ≤ node + 1
more_bound node (flagvalue.One p) = omega arith
more_bound node (flagvalue.List ps) = omega arith

begin_node_good : (n : ℕ) → n < 2 ^ 128 → Good (node_begin n)
begin_node_good n h = node_good n equals h refl

key_good : (flag : Flag) → nat_lt flag.behaviour (2 ^ 32) ≡ true → Good (key_parts flag)
key_good flag h =
    let below : flag.behaviour < 2 ^ 32 = ltb-true flag.behaviour (2 ^ 32) h in
    with_comma (int_parts 32 flag.behaviour) (text_parts flag.key) (int_good 32 flag.behaviour (omega arith) below) (loosen (text_parts flag.key) (text_safe flag.key))

flag_node_safe : (node : ℕ) (flag : Flag) → node < 2 ^ 128 → flag_fits flag ≡ true → Safe (flag_node node flag)
unfolding flag_node
flag_node_safe node flag n h =
    let p = and_parts (nat_lt flag.behaviour (2 ^ 32)) (are_bytes flag.key && flag_value_fits flag.value) h in
    let q = and_parts (are_bytes flag.key) (flag_value_fits flag.value) p.1 in
    let value : Good (value_parts node flag.value ++ node_close) = join false (value_parts node flag.value) node_close (flag_value_good node flag.value n q.1) refl in
    let inside : Good (key_parts flag ++ (comma ++ (value_parts node flag.value ++ node_close))) = with_comma (key_parts flag) (value_parts node flag.value ++ node_close) (key_good flag p.0) value in
    inside

flag_node_ends : (b : Bool) (node : ℕ) (flag : Flag) → ends_open b (flag_node node flag) ≡ false
unfolding flag_node
flag_node_ends b node flag =
    ends_behind b node_open (key_parts flag ++ (comma ++ (value_parts node flag.value ++ node_close)))
    (λ b. ends_behind b (key_parts flag) (comma ++ (value_parts node flag.value ++ node_close))
    (λ c. ends_behind c comma (value_parts node flag.value ++ node_close) (λ d. ends_behind d (value_parts node flag.value) node_close (λ e. refl))))

flag_lines_good : (n node : ℕ) (xs : List Flag) → n + length xs ≤ 2 ^ 33 → node + length xs ≤ 2 ^ 33 → list_all flag_fits xs ≡ true → Good (flag_lines n node xs)
flag_lines_good n node [] a b h = refl
flag_lines_good n node (x ∷ xs) a b h =
    let p = and_parts (flag_fits x) (list_all flag_fits xs) h in
    let rest = flag_lines (n + 1) (behind_value node x.value) xs in
    let behind : Good rest = flag_lines_good (n + 1) (behind_value node x.value) xs (omega arith) (omega (arith, more_bound node x.value)) p.1 in
    join false (node_begin n) (flag_node node x ++ rest) (begin_node_good n (omega arith))
    (line_join true (flag_node node x) rest (flag_node_safe node x (omega arith) p.0) (flag_node_ends true node x) behind)

list_node_safe : (ps : List FlagPart) → list_all part_fits ps ≡ true → Safe (list_node ps)
unfolding list_node
list_node_safe ps h =
    let all = listed (map flag_part_parts ps) in
    let inside : Good (all ++ node_close) = join false all node_close (listed_good (map flag_part_parts ps) (all_good flag_part_parts part_fits ps part_good h)) refl in
    inside

list_node_ends : (b : Bool) (ps : List FlagPart) → ends_open b (list_node ps) ≡ false
unfolding list_node
list_node_ends b ps =
    let all = listed (map flag_part_parts ps) in
    ends_behind b node_open (all ++ node_close) (λ b. ends_behind b all node_close (λ c. refl))

list_line_good : (node : ℕ) (v : FlagValue) (rest : List Part) → node < 2 ^ 128 → flag_value_fits v ≡ true → Good rest → Good (list_line node v ++ rest)
list_line_good node (flagvalue.One p) rest n h k = k
list_line_good node (flagvalue.List ps) rest n h k =
    line_join false (list_line node (flagvalue.List ps)) rest
    (join false (node_begin node) (list_node ps) (begin_node_good node n) (list_node_safe ps h))
    (ends_behind false (node_begin node) (list_node ps) (λ b. list_node_ends b ps)) k

list_lines_good : (node : ℕ) (xs : List Flag) → node + length xs ≤ 2 ^ 33 → list_all flag_fits xs ≡ true → Good (list_lines node xs)
list_lines_good node [] b h = refl
list_lines_good node (x ∷ xs) b h =
    let p = and_parts (flag_fits x) (list_all flag_fits xs) h in
    let q = and_parts (nat_lt x.behaviour (2 ^ 32)) (are_bytes x.key && flag_value_fits x.value) p.0 in
    let r = and_parts (are_bytes x.key) (flag_value_fits x.value) q.1 in
    list_line_good node x.value (list_lines (behind_value node x.value) xs) (omega arith) r.1
    (list_lines_good (behind_value node x.value) xs (omega (arith, more_bound node x.value)) p.1)

flag_lines_end : (n node : ℕ) (xs : List Flag) → ends_open false (flag_lines n node xs) ≡ false
flag_lines_end n node [] = refl
flag_lines_end n node (x ∷ xs) =
    let rest = flag_lines (n + 1) (behind_value node x.value) xs in
    ends_append false (node_begin n) (flag_node node x ++ rest)
    ∙ (ends_append (ends_open false (node_begin n)) (flag_node node x) rest
    ∙ (ap (λ c. ends_open c rest) (flag_node_ends (ends_open false (node_begin n)) node x) ∙ flag_lines_end (n + 1) (behind_value node x.value) xs))

nodes_good : (xs : List Flag) → nat_le (2 * length xs) (2 ^ 32) ≡ true → list_all flag_fits xs ≡ true → Good (nodes_lines xs)
unfolding nodes_lines
nodes_good xs n h =
    let k = length xs in
    let few : 2 * k ≤ 2 ^ 32 = leb-true (2 * k) (2 ^ 32) n in
    line_join false (flag_lines 0 k xs) (list_lines k xs) (flag_lines_good 0 k xs (omega arith) (omega arith) h) (flag_lines_end 0 k xs) (list_lines_good k xs (omega arith) h)

flags_line_ends : (xs : List Flag) → ends_open false (flags_line xs) ≡ false
unfolding flags_line
flags_line_ends xs =
    let all = listed (flag_names 0 xs) in
    ends_behind false flags_begin (all ++ node_close) (λ b. ends_behind b all node_close (λ c. refl))

pub flags_good : (xs : List Flag) → nat_le (2 * length xs) (2 ^ 32) ≡ true → list_all flag_fits xs ≡ true → Good (flags_sections xs)
flags_good xs n h =
    let few : 2 * length xs ≤ 2 ^ 32 = leb-true (2 * length xs) (2 ^ 32) n in
    let nodes : Good (line_end ∷ nodes_lines xs) = nodes_good xs n h in
    line_join false (flags_line xs) (line_end ∷ nodes_lines xs) (flags_line_good xs (omega arith)) (flags_line_ends xs) nodes
