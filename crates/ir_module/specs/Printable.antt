-- Modules that canonical text can hold and that every text spells: their numbers and names are in order, types fit what they
-- stand at, results are numbered in text order, and counts, bytes and literals are in their ranges.
use Rattle.std.specs.Prelude.{◌≡◌, ℕ, zero, suc, ◌+◌, ◌*◌, ◌^◌, max, nat_lt, nat_le, Bool, true, false, not, ◌&&◌, ◌||◌, ◌==◌, is_none, Option, None, Some, List, [], ◌∷◌, length}
use Rattle.std.specs.List.{list_all}
use Rattle.ir_values.specs.declared.ids.BlockId.{BlockId}
use Rattle.ir_values.specs.declared.ids.LocalId.{LocalId}
use Rattle.ir_values.specs.declared.int.Width.{Width}
use Rattle.ir_values.specs.declared.int.Width.TheVariants.{W1}
use Rattle.ir_values.specs.declared.name.Name.{Name}
use Rattle.ir_values.specs.declared.name.Name.TheVariants as name
use Rattle.ir_values.specs.declared.sig.TyWord.{TyWord}
use Rattle.ir_values.specs.declared.sig.TyWord.TheVariants as word
use Rattle.ir_values.specs.declared.ty.Ty.{Ty}
use Rattle.ir_values.specs.declared.ty.Ty.TheVariants as ty
use Rattle.ir_values.specs.declared.value.Value.{Value}
use Rattle.ir_values.specs.declared.value.Value.TheVariants as value
use Rattle.ir_values.specs.Calls.{same_words}
use Rattle.ir_values.specs.Double.{is_double}
use Rattle.ir_values.specs.Int.{IntValue}
use Rattle.ir_values.specs.Types.{is_ty, words_of}
use Rattle.ir_values.specs.Width.{bits_of}
use Rattle.ir_module.specs.declared.tree.Attr.{Attr}
use Rattle.ir_module.specs.declared.tree.Constant.{Constant}
use Rattle.ir_module.specs.declared.tree.Flag.{Flag}
use Rattle.ir_module.specs.declared.tree.FlagPart.{FlagPart}
use Rattle.ir_module.specs.declared.tree.FlagPart.TheVariants as part
use Rattle.ir_module.specs.declared.tree.FlagValue.{FlagValue}
use Rattle.ir_module.specs.declared.tree.FlagValue.TheVariants as flagvalue
use Rattle.ir_module.specs.declared.tree.Function.{Function}
use Rattle.ir_module.specs.declared.tree.InstKind.{InstKind}
use Rattle.ir_module.specs.declared.tree.InstKind.TheVariants as kind
use Rattle.ir_module.specs.declared.tree.Module.{Module}
use Rattle.ir_module.specs.declared.tree.Operand.{Operand}
use Rattle.ir_module.specs.declared.tree.Operand.TheVariants as operand
use Rattle.ir_module.specs.declared.tree.Term.{Term}
use Rattle.ir_module.specs.declared.tree.Term.TheVariants as term
use Rattle.ir_module.specs.Numbered.{Numbered, all_steps, are_few, is_void, local_type_passes, results_of, same_name}
use Rattle.ir_module.specs.Steps.{Step, PhiAt, InstAt, TermAt, NoStep}
use Rattle.ir_module.specs.Tree.{blocks_of}

-- ---- bytes and numbers of names

abbrev pub are_bytes : List ℕ → Bool
are_bytes bytes = list_all (λ c. nat_lt c 256) bytes

abbrev pub name_fits : Name → Bool
name_fits (name.Text bytes) = are_bytes bytes
name_fits (name.Number n) = nat_lt n (2 ^ 32)

-- ---- types

-- how many types of each function pointer type that stands open follow the one at hand; one that ends may end others
abbrev pub behind_type : List ℕ → List ℕ
behind_type [] = []
behind_type (zero ∷ open_types) = behind_type open_types
behind_type (suc n ∷ open_types) = n ∷ open_types

abbrev pub behind_word : List ℕ → TyWord → List ℕ
behind_word open_types (word.Func n) = n ∷ open_types
behind_word open_types w = behind_type open_types

-- the most function pointer types that stand open at a word
abbrev pub deepest : List ℕ → List TyWord → ℕ
deepest open_types [] = 0
deepest open_types (w ∷ ws) = max (length (behind_word open_types w)) (deepest (behind_word open_types w) ws)

-- the word `void` stands alone, or for what a function pointer type returns: directly behind the word of that type
abbrev pub voids_return : Bool → List TyWord → Bool
voids_return returned [] = true
voids_return returned (word.Func n ∷ ws) = voids_return true ws
voids_return returned (word.Void ∷ ws) = returned && voids_return false ws
voids_return returned (w ∷ ws) = voids_return false ws

-- a whole type whose function pointer types nest 64 deep at most and have no parameter of type `void`
abbrev pub type_fits : Ty → Bool
type_fits t = is_ty t && (nat_le (deepest [] (words_of t)) 64 && voids_return true (words_of t))

abbrev pub value_type_fits : Ty → Bool
value_type_fits t = not (is_void t) && type_fits t

abbrev pub same_type : Ty → Ty → Bool
same_type t u = same_words (words_of t) (words_of u)

-- ---- operands: a constant is of the form that its type takes

abbrev pub int_fits : Width → IntValue → Bool
int_fits w i = (bits_of i.width == bits_of w) && nat_lt i.bits (2 ^ bits_of w)

abbrev pub constant_fits : Ty → Value → Bool
constant_fits (ty.Int w) (value.Int i) = int_fits w i
constant_fits ty.Double (value.Double spelling) = is_double spelling
constant_fits ty.Qubit (value.Id n) = nat_lt n (2 ^ 64)
constant_fits ty.Res (value.Id n) = nat_lt n (2 ^ 64)
constant_fits ty.Text (value.Label g) = true
constant_fits ty.Text value.NoLabel = true
constant_fits (ty.Func ws) (value.Func f) = true
constant_fits t v = false

abbrev pub operand_fits : Ty → Operand → Bool
operand_fits t (operand.Const v) = constant_fits t v
operand_fits t (operand.Local x) = true

-- an operand that its type is written with
abbrev pub typed_fits : Ty × Operand → Bool
typed_fits a = value_type_fits a.0 && operand_fits a.0 a.1

abbrev pub boolean : Ty
boolean = ty.Int W1

abbrev pub kind_fits : InstKind → Bool
kind_fits (kind.Binary op flags t a b) = typed_fits (t, a) && operand_fits t b
kind_fits (kind.Icmp p t a b) = typed_fits (t, a) && operand_fits t b
kind_fits (kind.Convert c t a to) = typed_fits (t, a) && value_type_fits to
kind_fits (kind.Select c t a u b) = operand_fits boolean c && (typed_fits (t, a) && typed_fits (u, b))
kind_fits (kind.Call ret f args) = type_fits ret && list_all typed_fits args

abbrev pub term_fits : Term → Bool
term_fits term.RetVoid = true
term_fits (term.Ret t a) = typed_fits (t, a)
term_fits (term.Br b) = true
term_fits (term.CondBr c on_true on_false) = operand_fits boolean c
-- a case is written with an integer type of its own
term_fits (term.Switch (ty.Int w) a default cases) = operand_fits (ty.Int w) a && list_all (λ c. int_fits c.0.width c.0) cases
term_fits (term.Switch t a default cases) = false

-- the type of what an instruction defines
abbrev pub result_type : InstKind → Ty
result_type (kind.Binary op flags t a b) = t
result_type (kind.Icmp p t a b) = boolean
result_type (kind.Convert c t a to) = to
result_type (kind.Select c t a u b) = t
result_type (kind.Call ret f args) = ret

abbrev pub result_fits : Function → InstKind → Option LocalId → Bool
result_fits f what None = true
result_fits f what (Some x) = local_type_passes (same_type (result_type what)) f x

abbrev pub has_entry : List (Operand × BlockId) → Bool
has_entry [] = false
has_entry (e ∷ es) = true

-- a phi has an entry at least, and all are of the type of its result
abbrev pub step_fits : Function → Step → Bool
step_fits f (PhiAt phi) =
    has_entry phi.entries
    && local_type_passes (λ t. value_type_fits t && list_all (λ e. operand_fits t e.0) phi.entries) f phi.result
step_fits f (InstAt i) = kind_fits i.what && result_fits f i.what i.result
step_fits f (TermAt t) = term_fits t
step_fits f NoStep = true

-- ---- functions

-- the locals are numbered from n on
abbrev pub ascend_from : ℕ → List LocalId → Bool
ascend_from n [] = true
ascend_from n (x ∷ xs) = (x.0 == n) && ascend_from (n + 1) xs

-- the results are numbered in text order behind the parameters
abbrev pub in_text_order : Function → Bool
in_text_order f = ascend_from f.params (results_of f)

-- the locals have their numbers for names
abbrev pub are_numbered : ℕ → List (Name × Ty) → Bool
are_numbered n [] = true
are_numbered n (l ∷ ls) = same_name l.0 (name.Number n) && are_numbered (n + 1) ls

-- a declaration has its parameters alone, under their numbers
abbrev pub declaration_fits : Function → Bool
declaration_fits f = (f.params == length f.locals) && are_numbered 0 f.locals

abbrev pub value_fits : Option (List ℕ) → Bool
value_fits None = true
value_fits (Some bytes) = are_bytes bytes

abbrev pub attr_fits : Attr → Bool
attr_fits a = are_bytes a.key && value_fits a.value

abbrev pub names_fit : Function → Bool
names_fit f = name_fits f.name && (list_all (λ l. name_fits l.0) f.locals && list_all (λ b. name_fits b.name) (blocks_of f))

abbrev pub types_fit : Function → Bool
types_fit f = type_fits f.ret && list_all (λ l. type_fits l.1) f.locals

-- ---- constants and flags

abbrev pub constant_text_fits : Constant → Bool
constant_text_fits c = name_fits c.name && (are_bytes c.bytes && are_few c.bytes)

abbrev pub part_fits : FlagPart → Bool
part_fits (part.Int width bits) = nat_lt 0 width && (nat_le width 128 && nat_lt bits (2 ^ width))
part_fits (part.Text bytes) = are_bytes bytes

abbrev pub flag_value_fits : FlagValue → Bool
flag_value_fits (flagvalue.One p) = part_fits p
flag_value_fits (flagvalue.List ps) = list_all part_fits ps

abbrev pub flag_fits : Flag → Bool
flag_fits flag = nat_lt flag.behaviour (2 ^ 32) && (are_bytes flag.key && flag_value_fits flag.value)

-- a module that canonical text can hold
pub record IsPrintable (m : Module) : Type 0 where
  pub numbered : Numbered m
  -- each step fits the types that it is written with, and a local has the type of the instruction that defines it
  pub steps : all_steps step_fits m ≡ true
  -- the results of a body are numbered in text order behind its parameters
  pub results : list_all in_text_order m.funcs ≡ true
  -- a declaration has its parameters alone, named by their numbers
  pub declarations : list_all (λ f. not (is_none f.blocks) || declaration_fits f) m.funcs ≡ true
  -- types are whole, and function pointer types nest 64 deep at most
  pub types : list_all types_fit m.funcs ≡ true
  -- bytes are below 256, numbers of names and of parameters below 2 to the 32
  pub names : list_all (λ f. names_fit f && nat_lt f.params (2 ^ 32)) m.funcs ≡ true
  pub attributes : list_all (λ f. list_all attr_fits f.attrs) m.funcs ≡ true
  pub constants : list_all constant_text_fits m.globals ≡ true
  pub flags : list_all flag_fits m.flags ≡ true
  -- a flag takes two nodes at most, and nodes are numbered below 2 to the 32
  pub nodes : nat_le (2 * length m.flags) (2 ^ 32) ≡ true
