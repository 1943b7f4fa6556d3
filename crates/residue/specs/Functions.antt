-- The functions of the printed module: the entry, the declaration of initialize, and the others in the order of first use
-- (QIR specification, 'Runtime Functions' and 'Quantum Instruction Set').
use Rattle.std.specs.Prelude.{ℕ, suc, Bool, true, false, if◌then◌else◌, Option, None, List, [], ◌∷◌, ◌++◌, length, map, flat_map, codes}
use Rattle.std.specs.List.{list_any}
use Rattle.ir_module.specs.declared.tree.Attr.{Attr}
use Rattle.ir_module.specs.declared.tree.Function.{Function}
use Rattle.ir_values.specs.declared.class.Class.{Class}
use Rattle.ir_values.specs.declared.class.Class.TheVariants as class
use Rattle.ir_values.specs.declared.ids.FuncId.{FuncId}
use Rattle.ir_values.specs.declared.int.Width.TheVariants.{W1}
use Rattle.ir_values.specs.declared.name.Name.{Name}
use Rattle.ir_values.specs.declared.name.Name.TheVariants as name
use Rattle.ir_values.specs.declared.ty.Ty.{Ty}
use Rattle.ir_values.specs.declared.ty.Ty.TheVariants as ty
use Rattle.ir_values.specs.declared.value.Value.{Value}
use Rattle.ir_values.specs.declared.value.Value.TheVariants as value
use Rattle.ir_values.specs.Calls.{rt, same_text}
use Rattle.kept_items.specs.declared.item.Item.{Item}
use Rattle.kept_items.specs.declared.item.Item.TheVariants as item
use Rattle.kept_items.specs.declared.val.Val.{Val}
use Rattle.residue.specs.declared.parts.Residue.{Residue}
use Rattle.residue.specs.Scopes.{items_of}

-- a function that is called: its name, what it returns, and the types of its parameters
pub record Called : Type 0 where
  pub name : List ℕ
  pub ret : Ty
  pub params : List Ty

abbrev pub called : List ℕ → Ty → List Ty → Called
called name ret params = record { name = name; ret = ret; params = params }

abbrev pub initialize : Called
initialize = called (rt (codes "initialize")) ty.Void (ty.Text ∷ [])

abbrev pub read_name : List ℕ
read_name = rt (codes "read_result")

abbrev pub read_result : Called
read_result = called read_name (ty.Int W1) (ty.Res ∷ [])

-- the function that writes the records of a class
abbrev pub record_name : Class → List ℕ
record_name class.Tuple = rt (codes "tuple_record_output")
record_name class.Array = rt (codes "array_record_output")
record_name class.ResRecord = rt (codes "result_record_output")
record_name class.BoolRecord = rt (codes "bool_record_output")
record_name class.IntRecord = rt (codes "int_record_output")
record_name class.DoubleRecord = rt (codes "double_record_output")
record_name c = []

-- ---- what is called

-- one and zero have their bits from the start, and are never read
abbrev pub is_constant : Value → Bool
is_constant value.One = true
is_constant value.Zero = true
is_constant v = false

abbrev pub reading : Value → List Called
reading v = if is_constant v then [] else (read_result ∷ [])

abbrev pub types_of : List (Ty × Val) → List Ty
types_of args = map (λ a. a.0) args

-- the functions that an item calls, in order
abbrev pub calls_of : Item → List Called
calls_of (item.Read d v) = read_result ∷ []
calls_of (item.Equal d v u) = reading v ++ reading u
calls_of (item.Operation name args) = called name ty.Void (types_of args) ∷ []
calls_of (item.Output c args) = called (record_name c) ty.Void (types_of args) ∷ []
calls_of x = []

abbrev pub all_items : Residue → List Item
all_items r = flat_map (λ p. items_of p.lines) r.parts

abbrev pub calls_of_residue : Residue → List Called
calls_of_residue r = flat_map calls_of (all_items r)

abbrev pub is_among : List Called → List ℕ → Bool
is_among cs n = list_any (λ c. same_text n c.name) cs

-- those that are there, and then the first of each further name
abbrev pub first_uses : List Called → List Called → List Called
first_uses there [] = there
first_uses there (c ∷ cs) = first_uses (if is_among there c.name then there else there ++ c ∷ []) cs

-- what is declared, in order
abbrev pub declared_of : Residue → List Called
declared_of r = first_uses (initialize ∷ []) (calls_of_residue r)

-- ---- the number of a function: the entry has number 0

abbrev pub place_among : List Called → List ℕ → ℕ
place_among [] n = 0
place_among (c ∷ cs) n = if same_text n c.name then 0 else suc (place_among cs n)

abbrev pub function_of : List Called → List ℕ → FuncId
function_of cs n = record { 0 = suc (place_among cs n) }

-- ---- declarations

abbrev pub attr : List ℕ → Option (List ℕ) → Attr
attr key v = record { key = key; value = v }

abbrev pub is_named : List (List ℕ) → List ℕ → Bool
is_named names n = list_any (λ m. same_text n m) names

-- parameters have numbers in place of names
abbrev pub parameters : ℕ → List Ty → List (Name × Ty)
parameters n [] = []
parameters n (t ∷ ts) = (name.Number n, t) ∷ parameters (suc n) ts

-- irreversible operations are marked, and nothing else is
abbrev pub irreversible_attrs : Bool → List Attr
irreversible_attrs true = attr (codes "irreversible") None ∷ []
irreversible_attrs false = []

abbrev pub declaration : List (List ℕ) → Called → Function
declaration irreversible c = record {
  name = name.Text c.name;
  ret = c.ret;
  params = length c.params;
  locals = parameters 0 c.params;
  attrs = irreversible_attrs (is_named irreversible c.name);
  blocks = None;
}
