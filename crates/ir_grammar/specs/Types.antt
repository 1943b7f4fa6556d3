-- Types (LLVM Language Reference, 'Type System'; QIR specification, 'Data Types').
use Rattle.std.specs.Prelude.{ℕ, zero, suc, ◌+◌, if◌then◌else◌, nat_lt, Option, Some, None, List, [], ◌∷◌, map}
use Rattle.grammar.specs.Grammar.{Grammar, tok, opt, as_tree, dep, grown, marked, second}
use Rattle.ir_values.specs.declared.int.Width.{Width}
use Rattle.ir_values.specs.declared.int.Width.TheVariants as width
use Rattle.ir_values.specs.declared.ty.Ty.{Ty}
use Rattle.ir_values.specs.declared.ty.Ty.TheVariants as ty
use Rattle.ir_values.specs.Types.{signature}
use Rattle.ir_tokens.specs.declared.kind.Kind.{Kind}
use Rattle.ir_tokens.specs.declared.kind.Kind.TheVariants as kind
use Rattle.ir_tokens.specs.declared.rule.Rule.{Rule}
use Rattle.ir_tokens.specs.declared.rule.Rule.TheVariants.{TooDeep}
use Rattle.ir_tokens.specs.declared.token.Token.{Token}
use Rattle.ir_grammar.specs.declared.tree.TypeSyntax.{TypeSyntax}
use Rattle.ir_tokens.specs.Tokens.{tokens}
use Rattle.ir_grammar.specs.Forms.{one, one_of, commas, ◌◂◌, ◌&◌, ◌or◌}
use Rattle.ir_grammar.specs.SideRules.{unless}

-- Integer types.

-- the width of the integer type of this word
abbrev pub width_of : Kind → Width
width_of kind.I1 = width.W1
width_of kind.I8 = width.W8
width_of kind.I16 = width.W16
width_of kind.I32 = width.W32
width_of k = width.W64

abbrev pub integer_types : List Kind
integer_types = kind.I1 ∷ kind.I8 ∷ kind.I16 ∷ kind.I32 ∷ kind.I64 ∷ []

-- ity = "i1" | "i8" | "i16" | "i32" | "i64"
unfoldable pub integer_type : Grammar tokens Width
integer_type = as_tree (λ t. width_of t.kind) (marked (one_of integer_types))

-- Types other than function pointers. `i8` and `i8 *` begin alike, so they are one production.

-- a type with its first token
abbrev pub typed : Ty → Token → TypeSyntax
typed x t = record { first = t; ty = x; nesting = 0 }

-- the type that is this word
abbrev pub word_type : Kind → Ty
word_type kind.DoubleType = ty.Double
word_type k = ty.Int (width_of k)

-- "i1" | "i16" | "i32" | "i64" | "double"
unfoldable pub plain_type : Grammar tokens TypeSyntax
plain_type = as_tree (λ t. typed (word_type t.kind) t) (one_of (kind.I1 ∷ kind.I16 ∷ kind.I32 ∷ kind.I64 ∷ kind.DoubleType ∷ []))

abbrev pub byte_or_text : Option Token → Ty
byte_or_text None = ty.Int width.W8
byte_or_text (Some star) = ty.Text

-- "i8" | "i8" "*"
unfoldable pub byte_type : Grammar tokens TypeSyntax
byte_type = as_tree (λ (t, star). typed (byte_or_text star) t) (one kind.I8 & opt (one kind.Star))

-- "%Qubit" "*"
unfoldable pub qubit_type : Grammar tokens TypeSyntax
qubit_type = as_tree (typed ty.Qubit) (one kind.QubitName ◂ kind.Star)

-- "%Result" "*"
unfoldable pub result_type : Grammar tokens TypeSyntax
result_type = as_tree (typed ty.Res) (one kind.ResultName ◂ kind.Star)

unfoldable pub void_type : Grammar tokens TypeSyntax
void_type = as_tree (typed ty.Void) (one kind.Void)

-- a type that is no function pointer, and not "void"
unfoldable pub base_type : Grammar tokens TypeSyntax
base_type = plain_type or byte_type or qubit_type or result_type

-- Function pointer types. Such a type contains types, so it goes by how many of their "(" may still be open: 64 at first.

-- "(" behind a type of this nesting, where so many may still be open
abbrev pub shallow : ℕ → ℕ → Token → Option Rule
shallow left nesting t = unless (nat_lt nesting left) TooDeep

-- the greatest nesting
abbrev pub deepest : ℕ → List TypeSyntax → ℕ
deepest n [] = n
deepest n (x ∷ xs) = deepest (if nat_lt n x.nesting then x.nesting else n) xs

-- the type of the pointers to functions that give x and take these
abbrev pub function_pointer : TypeSyntax → List TypeSyntax → TypeSyntax
function_pointer x params =
    record { first = x.first; ty = ty.Func (signature x.ty (map (λ p. p.ty) params)); nesting = deepest x.nesting params + 1 }

-- "(" [ type { "," type } ] ")" "*" behind the type x
abbrev pub suffix_of : Grammar tokens TypeSyntax → ℕ → TypeSyntax → Grammar tokens TypeSyntax
suffix_of type left x = as_tree (λ (t, params). function_pointer x params)
    (tok (kind.Open ∷ []) (shallow left x.nesting) & commas type ◂ kind.Close ◂ kind.Star)

-- the kinds by which a type may go on
abbrev pub type_kinds : List Kind
type_kinds = kind.Open ∷ kind.Star ∷ []

-- rtype = (base | "void") { "(" [ type { "," type } ] ")" "*" }
abbrev pub return_type_of : (TypeSyntax → Grammar tokens TypeSyntax) → Grammar tokens TypeSyntax
return_type_of suffix = marked (grown (base_type or void_type) type_kinds suffix)

-- type: the same, but not "void" alone
abbrev pub value_type_of : (TypeSyntax → Grammar tokens TypeSyntax) → Grammar tokens TypeSyntax
value_type_of suffix = marked (grown (base_type or as_tree second (dep void_type [] suffix)) type_kinds suffix)

-- where no "(" may be open any more
abbrev pub no_suffix : TypeSyntax → Grammar tokens TypeSyntax
no_suffix x = as_tree (λ t. x) (tok (kind.Open ∷ []) (λ t. Some TooDeep))

-- what a function pointer type has behind the type that it gives, where so many "(" may still be open
unfoldable pub suffix_at : ℕ → TypeSyntax → Grammar tokens TypeSyntax
suffix_at zero x = no_suffix x
suffix_at (suc left) x = suffix_of (value_type_of (suffix_at left)) (suc left) x

unfoldable pub value_type_at : ℕ → Grammar tokens TypeSyntax
value_type_at left = value_type_of (suffix_at left)

abbrev pub value_type : Grammar tokens TypeSyntax
value_type = value_type_at 64

unfoldable pub return_type : Grammar tokens TypeSyntax
return_type = return_type_of (suffix_at 64)
