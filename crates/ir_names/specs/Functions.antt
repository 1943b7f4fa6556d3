-- Functions. Parameters, results and labels of one function have one space of names.
use Rattle.std.specs.Prelude.{ℕ, ◌+◌, Option, None, Some, List, [], ◌∷◌, ◌++◌, map, length}
use Rattle.std.specs.List.{flat_map, filter_map}
use Rattle.std.specs.Option.{option_map}
use Rattle.ir_tokens.specs.declared.token.Token.{Token}
use Rattle.ir_grammar.specs.declared.tree.AttrSyntax.{AttrSyntax}
use Rattle.ir_grammar.specs.declared.tree.AttrSyntax.TheVariants as syntax_attr
use Rattle.ir_grammar.specs.declared.tree.BlockSyntax.{BlockSyntax}
use Rattle.ir_grammar.specs.declared.tree.FunctionSyntax.{FunctionSyntax}
use Rattle.ir_grammar.specs.declared.tree.InstSyntax.{InstSyntax}
use Rattle.ir_grammar.specs.declared.tree.InstSyntax.TheVariants as syntax
use Rattle.ir_grammar.specs.declared.tree.ItemSyntax.{ItemSyntax}
use Rattle.ir_grammar.specs.declared.tree.ItemSyntax.TheVariants.{Group}
use Rattle.ir_grammar.specs.declared.tree.LineSyntax.{LineSyntax}
use Rattle.ir_grammar.specs.declared.tree.ParamSyntax.{ParamSyntax}
use Rattle.ir_grammar.specs.declared.tree.PhiSyntax.{PhiSyntax}
use Rattle.ir_module.specs.declared.tree.Attr.{Attr}
use Rattle.ir_module.specs.declared.tree.Block.{Block}
use Rattle.ir_module.specs.declared.tree.Function.{Function}
use Rattle.ir_values.specs.declared.int.Width.TheVariants.{W1}
use Rattle.ir_values.specs.declared.ty.Ty.{Ty}
use Rattle.ir_values.specs.declared.ty.Ty.TheVariants as ty
use Rattle.ir_values.specs.declared.name.Name.{Name}
use Rattle.ir_names.specs.declared.fault.Fault.{Fault}
use Rattle.ir_names.specs.Blocks.{name_or, blocks_faults, blocks_of}
use Rattle.ir_names.specs.Instructions.{duplicate, group_faults}
use Rattle.ir_names.specs.code.Names.{same_name}
use Rattle.ir_names.specs.Sense.{Sense, number_of, item_at}

-- Values with their types: parameters, and then results in text order.

abbrev pub behind_param : ℕ → Option Token → ℕ
behind_param unnamed None = unnamed + 1
behind_param unnamed (Some t) = unnamed

abbrev pub params_locals : (Token → Name) → ℕ → List ParamSyntax → List (Name × Ty)
params_locals name unnamed [] = []
params_locals name unnamed (p ∷ ps) = (name_or name unnamed p.name, p.ty) ∷ params_locals name (behind_param unnamed p.name) ps

-- how many parameters have no name
abbrev pub behind_params : ℕ → List ParamSyntax → ℕ
behind_params unnamed [] = unnamed
behind_params unnamed (p ∷ ps) = behind_params (behind_param unnamed p.name) ps

-- the type of what an instruction gives
abbrev pub type_of : InstSyntax → Ty
type_of (syntax.Binary o flags t a b) = t
type_of (syntax.Icmp p t a b) = ty.Int W1
type_of (syntax.Convert c t a to) = to
type_of (syntax.Select c t a u b) = t
type_of (syntax.Call t name args groups) = t

abbrev pub result_locals : (Token → Name) → InstSyntax → Option Token → List (Name × Ty)
result_locals name what None = []
result_locals name what (Some t) = (name t, type_of what) ∷ []

abbrev pub line_locals : (Token → Name) → LineSyntax → List (Name × Ty)
line_locals name l = result_locals name l.what l.result

abbrev pub phi_local : (Token → Name) → PhiSyntax → Name × Ty
phi_local name p = (name p.result, p.ty)

abbrev pub block_locals : (Token → Name) → BlockSyntax → List (Name × Ty)
block_locals name k = map (phi_local name) k.lines.phis ++ flat_map (line_locals name) k.lines.insts

abbrev pub body_locals : (Token → Name) → Option (List BlockSyntax) → List (Name × Ty)
body_locals name None = []
body_locals name (Some ks) = flat_map (block_locals name) ks

abbrev pub locals_of : (Token → Name) → FunctionSyntax → List (Name × Ty)
locals_of name f = params_locals name 0 f.params ++ body_locals name f.blocks

abbrev pub label_name : (Token → Name) → ℕ → BlockSyntax → Name
label_name name unnamed k = name_or name unnamed k.label

abbrev pub body_labels : (Token → Name) → ℕ → Option (List BlockSyntax) → List Name
body_labels name unnamed None = []
body_labels name unnamed (Some ks) = map (label_name name unnamed) ks

-- what names stand for where these are the values and the labels
abbrev pub within : Sense → List (Name × Ty) → List Name → Sense
within g locals labels = record g { value = number_of same_name (map (λ x. x.0) locals); label = number_of same_name labels }

-- what names stand for within a function
abbrev pub inside : Sense → FunctionSyntax → Sense
inside g f = within g (locals_of g.name f) (body_labels g.name (behind_params 0 f.params) f.blocks)

-- Attributes: the strings of a function's groups, in order. Bare words are dropped.

abbrev pub attr_of : Sense → AttrSyntax → Option Attr
attr_of s (syntax_attr.Text key value) = Some (record { key = s.string key; value = option_map s.string value })
attr_of s syntax_attr.Word = None

abbrev pub attrs_in : Sense → Option ItemSyntax → List Attr
attrs_in s (Some (Group t attrs)) = filter_map (attr_of s) attrs
attrs_in s other = []

abbrev pub group_attrs : Sense → Token → List Attr
group_attrs s t = attrs_in s (item_at s (s.group t))

-- Whole functions.

-- a parameter without a name is told at its first token
abbrev pub param_token : Token → Option Token → Token
param_token first None = first
param_token first (Some t) = t

abbrev pub params_faults : Sense → ℕ → ℕ → List ParamSyntax → List Fault
params_faults s unnamed v [] = []
params_faults s unnamed v (p ∷ ps) =
    duplicate s (param_token p.first p.name) (name_or s.name unnamed p.name) v 0
    ++ params_faults s (behind_param unnamed p.name) (v + 1) ps

abbrev pub body_faults : Sense → ℕ → ℕ → Option (List BlockSyntax) → List Fault
body_faults s unnamed v None = []
body_faults s unnamed v (Some ks) = blocks_faults s unnamed v 0 ks

abbrev pub body_of : Sense → ℕ → ℕ → Option (List BlockSyntax) → Option (List Block)
body_of s unnamed v None = None
body_of s unnamed v (Some ks) = Some (blocks_of s unnamed v ks)

-- the faults behind the name of a function
abbrev pub inner_faults : Sense → FunctionSyntax → List Fault
inner_faults s f =
    params_faults s 0 0 f.params
    ++ (flat_map (group_faults s) f.groups
    ++ body_faults s (behind_params 0 f.params) (length f.params) f.blocks)

abbrev pub inner_of : Sense → List (Name × Ty) → FunctionSyntax → Function
inner_of s locals f = record {
  name = s.name f.name;
  ret = f.ret;
  params = length f.params;
  locals = locals;
  attrs = flat_map (group_attrs s) f.groups;
  blocks = body_of s (behind_params 0 f.params) (length f.params) f.blocks;
}

abbrev pub function_faults : Sense → FunctionSyntax → List Fault
function_faults g f = inner_faults (inside g f) f

abbrev pub function_of : Sense → FunctionSyntax → Function
function_of g f = inner_of (inside g f) (locals_of g.name f) f
