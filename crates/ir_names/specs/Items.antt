-- Items of a text. Constants and functions have one space of names, groups have one, and nodes have one.
use Rattle.std.specs.Prelude.{ℕ, ◌+◌, ◌||◌, map, length, Option, None, Some, List, [], ◌∷◌, ◌++◌, slice_get}
use Rattle.std.specs.List.{flat_map, filter_map}
use Rattle.std.specs.Option.{option_map}
use Rattle.ir_tokens.specs.declared.token.Token.{Token}
use Rattle.ir_grammar.specs.declared.tree.FunctionSyntax.{FunctionSyntax}
use Rattle.ir_grammar.specs.declared.tree.ItemSyntax.{ItemSyntax}
use Rattle.ir_grammar.specs.declared.tree.ItemSyntax.TheVariants as syntax
use Rattle.ir_module.specs.declared.tree.Constant.{Constant}
use Rattle.ir_module.specs.declared.tree.Function.{Function}
use Rattle.ir_values.specs.declared.name.Name.{Name}
use Rattle.ir_names.specs.declared.before.Before.{Before}
use Rattle.ir_names.specs.declared.fault.Fault.{Fault}
use Rattle.ir_names.specs.declared.fault.NameCode.TheVariants.{Duplicate}
use Rattle.ir_names.specs.Faults.{fault_if}
use Rattle.ir_names.specs.Functions.{function_faults, function_of}
use Rattle.ir_names.specs.Metadata.{node_use_faults, node_faults}
use Rattle.ir_names.specs.Sense.{Sense, is_before}

-- a constant or function whose name has a definition before
abbrev pub global_duplicate : Sense → Before → Token → List Fault
global_duplicate g b t =
    fault_if (is_before (g.constant (g.name t)) b.constants || is_before (g.function (g.name t)) b.functions) Duplicate t

abbrev pub group_duplicate : Sense → Before → Token → List Fault
group_duplicate g b t = fault_if (is_before (g.group t) b.items) Duplicate t

abbrev pub named_faults : Sense → Before → FunctionSyntax → List Fault
named_faults g b f = global_duplicate g b f.name ++ function_faults g f

abbrev pub item_faults : Sense → Before → ItemSyntax → List Fault
item_faults g b syntax.Aside = []
item_faults g b (syntax.Constant t bytes) = global_duplicate g b t
item_faults g b (syntax.Function f) = named_faults g b f
item_faults g b (syntax.Group t attrs) = group_duplicate g b t
item_faults g b (syntax.List t nodes) = flat_map (node_use_faults g) nodes
item_faults g b (syntax.Node t elems) = node_faults g b.items t elems

-- what is defined behind an item
abbrev pub behind : Before → ItemSyntax → Before
behind b syntax.Aside = record b { items = b.items + 1 }
behind b (syntax.Constant t bytes) = record b { constants = b.constants + 1; items = b.items + 1 }
behind b (syntax.Function f) = record b { functions = b.functions + 1; items = b.items + 1 }
behind b (syntax.Group t attrs) = record b { items = b.items + 1 }
behind b (syntax.List t nodes) = record b { items = b.items + 1 }
behind b (syntax.Node t elems) = record b { items = b.items + 1 }

abbrev pub items_faults : Sense → Before → List ItemSyntax → List Fault
items_faults g b [] = []
items_faults g b (i ∷ is) = item_faults g b i ++ items_faults g (behind b i) is

-- What the items define.

abbrev pub constant_in : (Token → Name) → (Token → List ℕ) → ItemSyntax → Option Constant
constant_in name string (syntax.Constant t bytes) = Some (record { name = name t; bytes = string bytes })
constant_in name string other = None

abbrev pub function_in : Sense → ItemSyntax → Option Function
function_in g (syntax.Function f) = Some (function_of g f)
function_in g other = None

abbrev pub function_name_in : (Token → Name) → ItemSyntax → Option Name
function_name_in name (syntax.Function f) = Some (name f.name)
function_name_in name other = None
