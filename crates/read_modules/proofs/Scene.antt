-- What names stand for in a function of a module, and what is right of its parts.
use Rattle.std.specs.Prelude.{nat_lt, unwrap_or}
use Rattle.std.proofs.Common.{◌≡◌, ℕ, ◌<◌, ◌≤◌, true, Option, None, Some, List, [], ◌∷◌, length, refl}
use Rattle.std.specs.List.{list_all}
use Rattle.std.proofs.lemmas.Bool.{lt-ltb}
use Rattle.ir_values.specs.Double.{is_double}
use Rattle.ir_values.specs.declared.name.Name.{Name}
use Rattle.ir_values.specs.declared.ty.Ty.{Ty}
use Rattle.ir_module.specs.declared.tree.Function.{Function}
use Rattle.ir_module.specs.declared.tree.InstKind.{InstKind}
use Rattle.ir_module.specs.declared.tree.Module.{Module}
use Rattle.ir_module.specs.declared.tree.Operand.{Operand}
use Rattle.ir_module.specs.Numbered.{operand_in_range, is_written, kind_allows, kind_on_integers, kind_not_void, call_types_whole}
use Rattle.ir_module.specs.Operands.{operands_of}
use Rattle.ir_module.specs.Printable.{operand_fits, kind_fits}
use Rattle.ir_module.specs.Tree.{blocks_of}
use Rattle.ir_names.specs.Faults.{unknown}
use Rattle.ir_names.specs.Sense.{Sense}
use Rattle.ir_tokens.specs.declared.kind.Kind.TheVariants as kind
use Rattle.ir_tokens.specs.declared.token.Token.{Token}
use Rattle.ir_tokens.specs.Tokens.{tokens}
use Rattle.grammar.specs.Grammar.{is_in}
use Rattle.ir_grammar.specs.Metadata.{width_kinds}
use Rattle.ir_grammar.specs.SideRules.{number}

-- what the spellings of tokens say, beside their kinds: doubles are spelled so, and widths are from 1 to 128
pub record Told (spelling : Token → List ℕ) (t : Token) : Type 0 where
  pub double : is_in tokens t (kind.DoubleLiteral ∷ []) ≡ true → is_double (spelling t) ≡ true
  pub width : is_in tokens t width_kinds ≡ true → (1 ≤ number t) × (number t ≤ 128)

-- names stand for parts of the module and the function that there are
pub record Fair (spelling : Token → List ℕ) (m : Module) (f : Function) (s : Sense) : Type 0 where
  pub spelled : (t : Token) → s.spelling t ≡ spelling t
  pub constants : (n : Name) (k : ℕ) → s.constant n ≡ Some k → k < length m.globals
  pub functions : (n : Name) (k : ℕ) → s.function n ≡ Some k → k < length m.funcs
  pub values : (n : Name) (k : ℕ) → s.value n ≡ Some k → k < length f.locals
  pub labels : (n : Name) (k : ℕ) → s.label n ≡ Some k → k < length (blocks_of f)

-- a name that is no fault has a number, which is below n
pub known_below : (t : Token) (o : Option ℕ) (n : ℕ) → ((k : ℕ) → o ≡ Some k → k < n) → unknown t o ≡ [] → nat_lt (unwrap_or o 0) n ≡ true
known_below t None n h e = absurd (cc)
known_below t (Some k) n h e = lt-ltb k n (h k refl)

-- an operand of the type t
pub record Right (m : Module) (f : Function) (t : Ty) (o : Operand) : Type 0 where
  pub fits : operand_fits t o ≡ true
  pub written : is_written o ≡ true
  pub in_range : operand_in_range m f o ≡ true

-- what an instruction does
pub record RightKind (m : Module) (f : Function) (what : InstKind) : Type 0 where
  pub fits : kind_fits what ≡ true
  pub flags : kind_allows what ≡ true
  pub integers : kind_on_integers what ≡ true
  pub solid : kind_not_void what ≡ true
  pub whole : call_types_whole what ≡ true
  pub in_range : list_all (operand_in_range m f) (operands_of what) ≡ true
  pub written : list_all is_written (operands_of what) ≡ true
