-- The parts of operands stand apart.
use Rattle.std.proofs.Common.{◌≡◌, ℕ, ◌^◌, ◌<◌, ◌≤◌, true, false, Option, None, Some, List, [], ◌∷◌, ◌++◌, length, refl, sym, subst, arith}
use Rattle.std.specs.Prelude.{◌&&◌, ◌==◌, nat_lt, codes, decimal, slice_get}
use Rattle.std.specs.Fmt.{signed_decimal}
use Rattle.std.specs.List.{list_all}
use Rattle.std.proofs.lemmas.Bool.{and_parts, cond_both, eqb-true, ltb-true, false≢true}
use Rattle.ir_values.specs.Int.{IntValue}
use Rattle.ir_values.specs.Width.{bits_of}
use Rattle.ir_values.specs.declared.ids.BlockId.{BlockId}
use Rattle.ir_values.specs.declared.ids.FuncId.{FuncId}
use Rattle.ir_values.specs.declared.ids.LocalId.{LocalId}
use Rattle.ir_values.specs.declared.int.Width.{Width}
use Rattle.ir_values.specs.declared.int.Width.TheVariants.{W1, W8, W16, W32, W64}
use Rattle.ir_values.specs.declared.name.Name.{Name}
use Rattle.ir_values.specs.declared.ty.Ty.{Ty}
use Rattle.ir_values.specs.declared.ty.Ty.TheVariants as ty
use Rattle.ir_values.specs.declared.value.Value.{Value}
use Rattle.ir_values.specs.declared.value.Value.TheVariants as value
use Rattle.ir_text.specs.declared.tok.Tok.TheVariants.{Local, Global, Integer, Double}
use Rattle.ir_module.specs.Printable.{name_fits, int_fits, constant_fits, operand_fits, constant_text_fits, are_bytes}
use Rattle.ir_module.specs.Numbered.{are_few}
use Rattle.ir_module.specs.Tree.{block_at, blocks_at, blocks_of, blocks_or_none}
use Rattle.ir_module.specs.declared.tree.Block.{Block}
use Rattle.ir_module.specs.declared.tree.Constant.{Constant}
use Rattle.ir_module.specs.declared.tree.Function.{Function}
use Rattle.ir_module.specs.declared.tree.Module.{Module}
use Rattle.ir_module.specs.declared.tree.Operand.{Operand}
use Rattle.ir_module.specs.declared.tree.Operand.TheVariants as operand
use Rattle.ir_parts.specs.Parts.{Part, token}
use Rattle.ir_printer.specs.Pieces.{blank, sign, word, comma}
use Rattle.ir_printer.specs.Spellings.{name_spelling}
use Rattle.ir_printer.specs.Types.{type_parts}
use Rattle.ir_printer.specs.Operands.{local_token, global_token, name_of_local, name_of_function, name_of_block, local_part, function_part, block_part, bit_part, int_of_width, int_part, address_parts, handle_parts, array_parts, index_parts, address_head, label_parts, label_of, value_parts, operand_parts, typed_parts}
use Rattle.canonical_text.proofs.Facts.{At, all_at}
use Rattle.canonical_text.proofs.Join.{Good, Safe, join, then_token}
use Rattle.canonical_text.proofs.TypesGood.{type_good}
use Rattle.canonical_text.proofs.Written.{local_written, global_written, natural_written, signed_written, signed_value, double_written}

-- what is known of the names and constants that operands are printed with
pub record Known (m : Module) (f : Function) : Type 0 where
  pub constants : list_all constant_text_fits m.globals ≡ true
  pub functions : list_all (λ g. name_fits g.name) m.funcs ≡ true
  pub locals : list_all (λ l. name_fits l.0) f.locals ≡ true
  pub blocks : list_all (λ b. name_fits b.name) (blocks_of f) ≡ true

-- ---- names

local_named : (o : Option (Name × Ty)) → At (λ l. name_fits l.0) o → name_fits (name_of_local o) ≡ true
local_named None h = refl
local_named (Some l) h = h

function_named : (o : Option Function) → At (λ g. name_fits g.name) o → name_fits (name_of_function o) ≡ true
function_named None h = refl
function_named (Some g) h = h

block_named : (o : Option Block) → At (λ b. name_fits b.name) o → name_fits (name_of_block o) ≡ true
block_named None h = refl
block_named (Some b) h = h

block_found : (o : Option (List Block)) (b : BlockId) → list_all (λ b. name_fits b.name) (blocks_or_none o) ≡ true → At (λ b. name_fits b.name) (blocks_at o b)
block_found None b h = tt
block_found (Some bs) b h = all_at (λ b. name_fits b.name) bs b.0 h

pub local_token_good : (n : Name) (ps : List Part) → name_fits n ≡ true → Safe ps → Good (local_token n ∷ ps)
local_token_good n ps h k = then_token Local (37 ∷ name_spelling n) ps (local_written n h) k

pub global_token_good : (n : Name) (ps : List Part) → name_fits n ≡ true → Safe ps → Good (global_token n ∷ ps)
global_token_good n ps h k = then_token Global (64 ∷ name_spelling n) ps (global_written n h) k

pub local_good : (m : Module) (f : Function) (x : LocalId) (ps : List Part) → Known m f → Safe ps → Good (local_part f x ∷ ps)
local_good m f x ps k s =
    local_token_good (name_of_local (slice_get f.locals x.0)) ps (local_named (slice_get f.locals x.0) (all_at (λ l. name_fits l.0) f.locals x.0 k.locals)) s

pub function_good : (m : Module) (f : Function) (g : FuncId) (ps : List Part) → Known m f → Safe ps → Good (function_part m g ∷ ps)
function_good m f g ps k s =
    global_token_good (name_of_function (slice_get m.funcs g.0)) ps (function_named (slice_get m.funcs g.0) (all_at (λ g. name_fits g.name) m.funcs g.0 k.functions)) s

pub block_good : (m : Module) (f : Function) (b : BlockId) (ps : List Part) → Known m f → Safe ps → Good (block_part f b ∷ ps)
block_good m f b ps k s = local_token_good (name_of_block (block_at f b)) ps (block_named (block_at f b) (block_found f.blocks b k.blocks)) s

-- ---- integers and handles

pub bit_good : (n : ℕ) (ps : List Part) → Safe ps → Good (bit_part n ∷ ps)
bit_good n ps k = cond_both (n == 0) (word (codes "false")) (word (codes "true")) (λ p. Good (p ∷ ps)) (λ _. k) (λ _. k)

number_good : (w b : ℕ) (ps : List Part) → 0 < w → w ≤ 128 → b < 2 ^ w → Safe ps → Good (token Integer (signed_decimal (signed_value w b)) ∷ ps)
number_good w b ps n m h k = then_token Integer (signed_decimal (signed_value w b)) ps (signed_written w b n m h) k

width_good : (w : Width) (b : ℕ) (ps : List Part) → b < 2 ^ bits_of w → Safe ps → Good (int_of_width w (record { width = w; bits = b }) ∷ ps)
width_good W1 b ps h k = bit_good b ps k
width_good W8 b ps h k = number_good 8 b ps (omega arith) (omega arith) h k
width_good W16 b ps h k = number_good 16 b ps (omega arith) (omega arith) h k
width_good W32 b ps h k = number_good 32 b ps (omega arith) (omega arith) h k
width_good W64 b ps h k = number_good 64 b ps (omega arith) (omega arith) h k

pub int_good : (w : Width) (i : IntValue) (ps : List Part) → int_fits w i ≡ true → Safe ps → Good (int_part i ∷ ps)
int_good w i ps h k =
    let p = and_parts (bits_of i.width == bits_of w) (nat_lt i.bits (2 ^ bits_of w)) h in
    let same : bits_of i.width ≡ bits_of w = eqb-true (bits_of i.width) (bits_of w) p.0 in
    let below : i.bits < 2 ^ bits_of w = ltb-true i.bits (2 ^ bits_of w) p.1 in
    width_good i.width i.bits ps (subst (λ n. i.bits < 2 ^ n) (sym same) below) k

address_good : (t : Ty) (n : ℕ) → n < 2 ^ 64 → Good (address_parts t n)
address_good t n h =
    let close = sign (codes ")") ∷ [] in
    let typed : Good (type_parts t ++ close) = join false (type_parts t) close (type_good t) refl in
    number_good 64 n (blank ∷ word (codes "to") ∷ blank ∷ (type_parts t ++ close)) (omega arith) (omega arith) h typed

handle_good : (t : Ty) (n : ℕ) → nat_lt n (2 ^ 64) ≡ true → Good (handle_parts t n)
handle_good t n h = cond_both (n == 0) (word (codes "null") ∷ []) (address_parts t n) Good (λ _. refl) (λ _. address_good t n (ltb-true n (2 ^ 64) h))

-- ---- labels

pub array_safe : (n : ℕ) → n < 2 ^ 128 → Safe (array_parts n)
array_safe n h = then_token Integer (decimal n) (blank ∷ word (codes "x") ∷ blank ∷ word (codes "i8") ∷ sign (codes "]") ∷ []) (natural_written n h) refl

head_good : (n : ℕ) → n < 2 ^ 128 → Good (address_head n)
head_good n h = join false (array_parts n) (comma ++ array_parts n) (array_safe n h) (array_safe n h)

pub few_bytes : (bytes : List ℕ) → are_few bytes ≡ true → length bytes < 2 ^ 128
few_bytes bytes h = let below : length bytes < 2 ^ 32 = ltb-true (length bytes) (2 ^ 32) h in omega arith

label_good : (c : Constant) → constant_text_fits c ≡ true → Good (label_parts c)
label_good c h =
    let p = and_parts (name_fits c.name) (are_bytes c.bytes && are_few c.bytes) h in
    let few = few_bytes c.bytes (and_parts (are_bytes c.bytes) (are_few c.bytes) p.1).1 in
    let tail = index_parts ++ (index_parts ++ sign (codes ")") ∷ []) in
    join false (address_head (length c.bytes)) (sign (codes "*") ∷ blank ∷ global_token c.name ∷ tail) (head_good (length c.bytes) few) (global_token_good c.name tail p.0 refl)

label_of_good : (o : Option Constant) → At constant_text_fits o → Good (label_of o)
label_of_good None h = refl
label_of_good (Some c) h = label_good c h

-- ---- operands

value_good : (m : Module) (f : Function) (t : Ty) (v : Value) → Known m f → constant_fits t v ≡ true → Good (value_parts m t v)
value_good m f (ty.Int w) (value.Int i) k h = int_good w i [] h refl
value_good m f ty.Double (value.Double s) k h = then_token Double s [] (double_written s h) refl
value_good m f ty.Qubit (value.Id n) k h = handle_good ty.Qubit n h
value_good m f ty.Res (value.Id n) k h = handle_good ty.Res n h
value_good m f ty.Text (value.Label g) k h = label_of_good (slice_get m.globals g.0) (all_at constant_text_fits m.globals g.0 k.constants)
value_good m f ty.Text value.NoLabel k h = refl
value_good m f (ty.Func ws) (value.Func g) k h = function_good m f g [] k refl
value_good m f t v k h = absurd (false≢true h)

pub operand_good : (m : Module) (f : Function) (t : Ty) (o : Operand) → Known m f → operand_fits t o ≡ true → Good (operand_parts m f t o)
operand_good m f t (operand.Const v) k h = value_good m f t v k h
operand_good m f t (operand.Local x) k h = local_good m f x [] k refl

pub typed_good : (m : Module) (f : Function) (t : Ty) (o : Operand) → Known m f → operand_fits t o ≡ true → Good (typed_parts m f t o)
typed_good m f t o k h = join false (type_parts t) (blank ∷ operand_parts m f t o) (type_good t) (operand_good m f t o k h)
