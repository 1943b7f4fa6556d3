-- What the names in a canonical text stand for.
use Rattle.std.specs.Prelude.{◌≡◌, ℕ, Some, None, List, [], length, slice_get}
use Rattle.ir_tokens.specs.Decoded.{between, decoded}
use Rattle.ir_tokens.specs.Spelled.{name_of, name_part, string_part}
use Rattle.ir_tokens.specs.declared.token.Token.{Token}
use Rattle.ir_grammar.specs.declared.tree.InstSyntax.{InstSyntax}
use Rattle.ir_grammar.specs.declared.tree.OperandSyntax.{OperandSyntax}
use Rattle.ir_grammar.specs.declared.tree.TermSyntax.{TermSyntax}
use Rattle.ir_module.specs.Tree.{blocks_of}
use Rattle.ir_module.specs.declared.tree.Block.{Block}
use Rattle.ir_module.specs.declared.tree.Constant.{Constant}
use Rattle.ir_module.specs.declared.tree.Function.{Function}
use Rattle.ir_module.specs.declared.tree.InstKind.{InstKind}
use Rattle.ir_module.specs.declared.tree.Module.{Module}
use Rattle.ir_module.specs.declared.tree.Operand.{Operand}
use Rattle.ir_module.specs.declared.tree.Term.{Term}
use Rattle.ir_names.specs.Blocks.{term_faults, term_of}
use Rattle.ir_names.specs.Instructions.{what_faults, what_of}
use Rattle.ir_names.specs.Operands.{operand_faults, operand_of}
use Rattle.ir_names.specs.Sense.{Sense}
use Rattle.ir_values.specs.declared.name.Name.{Name}
use Rattle.ir_values.specs.declared.ty.Ty.{Ty}

-- the name that a token writes, by its spelling
abbrev pub name_by : (Token → List ℕ) → Token → Name
name_by spelling t = name_of (name_part t.kind (spelling t))

-- the bytes that a string stands for, by its spelling
abbrev pub string_by : (Token → List ℕ) → Token → List ℕ
string_by spelling t = decoded 0 (between (string_part t.kind (spelling t)))

-- Each name of the module and of the function stands for what has it there, and for nothing else.
pub record Tells (spelling : Token → List ℕ) (m : Module) (f : Function) (s : Sense) : Type 0 where
  pub name : s.name ≡ name_by spelling
  pub spelled : (t : Token) → s.spelling t ≡ spelling t
  pub constants : (k : ℕ) (c : Constant) → slice_get m.globals k ≡ Some c
      → (s.constant c.name ≡ Some k) × (s.size k ≡ Some (length c.bytes))
  pub functions : (k : ℕ) (g : Function) → slice_get m.funcs k ≡ Some g → s.function g.name ≡ Some k
  pub values : (k : ℕ) (l : Name × Ty) → slice_get f.locals k ≡ Some l → (s.value l.0 ≡ Some k) × (s.label l.0 ≡ None)
  pub labels : (k : ℕ) (b : Block) → slice_get (blocks_of f) k ≡ Some b → (s.label b.name ≡ Some k) × (s.value b.name ≡ None)

-- The syntax of an operand, an instruction or a terminator stands for it wherever names stand for what has them.

abbrev pub MeansOperand : (Token → List ℕ) → Module → Function → Operand → OperandSyntax → Type 0
MeansOperand spelling m f a x = (s : Sense) → Tells spelling m f s → (operand_faults s x ≡ []) × (operand_of s x ≡ a)

abbrev pub MeansKind : (Token → List ℕ) → Module → Function → InstKind → InstSyntax → Type 0
MeansKind spelling m f i x = (s : Sense) → Tells spelling m f s → (what_faults s x ≡ []) × (what_of s x ≡ i)

abbrev pub MeansTerm : (Token → List ℕ) → Module → Function → Term → TermSyntax → Type 0
MeansTerm spelling m f i x = (s : Sense) → Tells spelling m f s → (term_faults s x ≡ []) × (term_of s x ≡ i)
