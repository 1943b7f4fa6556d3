-- Types (LLVM Language Reference, 'Type System'; QIR specification, 'Data Types'):
--
--   ity   = "i1" | "i8" | "i16" | "i32" | "i64"
--   type  = ity | "double" | "%Qubit" "*" | "%Result" "*" | "i8" "*" | rtype "(" [type {"," type}] ")" "*"
--   rtype = type | "void"
--
-- Where ity stands by itself it is `integer_type` of the factored grammar. The kinds that `dep` has for a reader by one token
-- say nothing of sentences and viable prefixes; here they are left out.
use Rattle.std.specs.Prelude.{ℕ, zero, suc, []}
use Rattle.grammar.specs.Grammar.{Grammar, as_tree, dep, marked, second}
use Rattle.ir_values.specs.declared.ty.Ty.TheVariants as ty
use Rattle.ir_tokens.specs.declared.kind.Kind.TheVariants as kind
use Rattle.ir_grammar.specs.declared.tree.TypeSyntax.{TypeSyntax}
use Rattle.ir_tokens.specs.Tokens.{tokens}
use Rattle.ir_grammar.specs.Forms.{one, one_of, ◌◂◌, ◌or◌}
use Rattle.ir_grammar.specs.Types.{width_of, integer_types, typed, qubit_type, result_type, void_type, suffix_of, no_suffix}

-- ity
unfoldable pub integer : Grammar tokens TypeSyntax
integer = as_tree (λ t. typed (ty.Int (width_of t.kind)) t) (marked (one_of integer_types))

unfoldable pub double : Grammar tokens TypeSyntax
double = as_tree (typed ty.Double) (one kind.DoubleType)

-- "i8" "*"
unfoldable pub text : Grammar tokens TypeSyntax
text = as_tree (typed ty.Text) (one kind.I8 ◂ kind.Star)

-- ity | "double" | "%Qubit" "*" | "%Result" "*" | "i8" "*"
unfoldable pub simple_type : Grammar tokens TypeSyntax
simple_type = integer or double or qubit_type or result_type or text

-- type | "void"
abbrev pub or_void : Grammar tokens TypeSyntax → Grammar tokens TypeSyntax
or_void type = marked (type or void_type)

-- ity | .. | "i8" "*" | rtype "(" [type {"," type}] ")" "*", by the production rtype and what stands behind it
abbrev pub type_by : Grammar tokens TypeSyntax → (TypeSyntax → Grammar tokens TypeSyntax) → Grammar tokens TypeSyntax
type_by rtype behind = marked (simple_type or as_tree second (dep rtype [] behind))

-- The production type contains itself, and a grammar is finite. It goes by how many function pointer types stand one in front
-- of the other, each the return type of the next, and by how many "(" may still be open.

-- at most so many, each with this behind its return type
unfoldable pub type_of : (TypeSyntax → Grammar tokens TypeSyntax) → ℕ → Grammar tokens TypeSyntax
type_of behind zero = marked simple_type
type_of behind (suc n) = type_by (or_void (type_of behind n)) behind

-- "(" [type {"," type}] ")" "*" behind the return type x, where at most so many "(" may be open, this one too. The side rule
-- at "(" tells that the type gets too deep.
unfoldable pub parameters : ℕ → TypeSyntax → Grammar tokens TypeSyntax
parameters zero x = no_suffix x
parameters (suc left) x = suffix_of (type_of (parameters left) (suc left)) (suc left) x

-- type, where at most so many "(" may be open. No more than so many function pointer types stand one in front of the other,
-- since at the "(" of one more the type gets too deep.
unfoldable pub type_at : ℕ → Grammar tokens TypeSyntax
type_at left = type_of (parameters left) (suc left)

-- type
abbrev pub type : Grammar tokens TypeSyntax
type = type_at 64

-- rtype
unfoldable pub return_type : Grammar tokens TypeSyntax
return_type = or_void type
