-- Functions in canonical text, and what their names stand for.
use Rattle.std.specs.Prelude.{◌≡◌, ℕ, Some, List, [], length, slice_get}
use Rattle.ir_tokens.specs.declared.token.Token.{Token}
use Rattle.ir_grammar.specs.SideRules.{number}
use Rattle.ir_grammar.specs.declared.tree.FunctionSyntax.{FunctionSyntax}
use Rattle.ir_module.specs.declared.tree.Attr.{Attr}
use Rattle.ir_module.specs.declared.tree.Constant.{Constant}
use Rattle.ir_module.specs.declared.tree.Function.{Function}
use Rattle.ir_module.specs.declared.tree.Module.{Module}
use Rattle.ir_names.specs.Functions.{group_attrs, function_faults, function_of}
use Rattle.ir_names.specs.Instructions.{group_faults}
use Rattle.ir_names.specs.Sense.{Sense}
use Rattle.ir_printer.specs.Groups.{groups_of}
use Rattle.canonical_syntax.specs.Tells.{name_by}

-- Outside of functions each name stands for what has it in the module, and each number of a group for the attributes that it has.
pub record TellsModule (spelling : Token → List ℕ) (m : Module) (s : Sense) : Type 0 where
  pub name : s.name ≡ name_by spelling
  pub spelled : (t : Token) → s.spelling t ≡ spelling t
  pub constants : (k : ℕ) (c : Constant) → slice_get m.globals k ≡ Some c
      → (s.constant c.name ≡ Some k) × (s.size k ≡ Some (length c.bytes))
  pub functions : (k : ℕ) (g : Function) → slice_get m.funcs k ≡ Some g → s.function g.name ≡ Some k
  pub groups : (t : Token) (n : ℕ) (attrs : List Attr) → number t ≡ n → slice_get (groups_of m) n ≡ Some attrs
      → (group_faults s t ≡ []) × (group_attrs s t ≡ attrs)

-- The syntax is that of the function: it has its name, and wherever names stand for what has them, it has no fault and is the
-- function.
pub record MeansFunction (spelling : Token → List ℕ) (m : Module) (f : Function) (x : FunctionSyntax) : Type 0 where
  pub name : name_by spelling x.name ≡ f.name
  pub means : (s : Sense) → TellsModule spelling m s → (function_faults s x ≡ []) × (function_of s x ≡ f)
