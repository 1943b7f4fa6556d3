-- The module that a tree spells, and its first fault.
use Rattle.std.specs.Prelude.{◌≡◌, ℕ, map, length, Option, None, Some, List, [], ◌∷◌, slice_get}
use Rattle.std.specs.List.{filter_map}
use Rattle.std.specs.Option.{option_map}
use Rattle.ir_grammar.specs.declared.tree.ItemSyntax.{ItemSyntax}
use Rattle.ir_grammar.specs.declared.tree.ItemSyntax.TheVariants as syntax
use Rattle.ir_tokens.specs.Numbers.{value_of}
use Rattle.ir_tokens.specs.declared.token.Token.{Token}
use Rattle.ir_module.specs.declared.tree.Constant.{Constant}
use Rattle.ir_module.specs.declared.tree.Module.{Module}
use Rattle.ir_names.specs.declared.before.Before.{Before}
use Rattle.ir_names.specs.declared.fault.Fault.{Fault}
use Rattle.ir_names.specs.declared.numbers.Written.{Written}
use Rattle.ir_names.specs.code.Names.{same_name, same_written}
use Rattle.ir_names.specs.Faults.{IsFirst}
use Rattle.ir_names.specs.Items.{items_faults, constant_in, function_in, function_name_in}
use Rattle.ir_names.specs.Metadata.{listed, flags_of}
use Rattle.ir_names.specs.Sense.{Sense, number_of}
use Rattle.ir_tokens.specs.Spelled.{name_at, spelling_at, string_at}

-- the number of a token, and that of the group or the node that an item is
abbrev pub written : Token → Written
written t = record { 0 = Some (value_of t.number) }

abbrev pub nothing_written : Written
nothing_written = record { 0 = None }

abbrev pub group_in : ItemSyntax → Written
group_in (syntax.Group t attrs) = written t
group_in other = nothing_written

abbrev pub node_in : ItemSyntax → Written
node_in (syntax.Node t elems) = written t
node_in other = nothing_written

abbrev pub constants_of : List ℕ → List ItemSyntax → List Constant
constants_of text items = filter_map (constant_in (name_at text) (string_at text)) items

abbrev pub size_of : Constant → ℕ
size_of c = length c.bytes

-- what the tokens of a text stand for outside of functions
abbrev pub told : List ℕ → List ItemSyntax → Sense
told text items = let constants = constants_of text items in record {
  name = name_at text;
  string = string_at text;
  spelling = λ t. spelling_at text t.place;
  items = items;
  constant = number_of same_name (map (λ c. c.name) constants);
  size = λ k. option_map size_of (slice_get constants k);
  function = number_of same_name (filter_map (function_name_in (name_at text)) items);
  value = λ n. None;
  label = λ n. None;
  group = λ t. number_of same_written (map group_in items) (written t);
  node = λ t. number_of same_written (map node_in items) (written t);
  listed = λ t. number_of same_written (map written (listed (λ t. spelling_at text t.place) items)) (written t);
}

abbrev pub start : Before
start = record { constants = 0; functions = 0; items = 0 }

-- all faults of names, in text order
abbrev pub faults_of : List ℕ → List ItemSyntax → List Fault
faults_of text items = items_faults (told text items) start items

abbrev pub module_of : List ℕ → List ItemSyntax → Module
module_of text items = record {
  globals = constants_of text items;
  funcs = filter_map (function_in (told text items)) items;
  flags = flags_of (told text items);
}

-- the tree spells the module
abbrev pub Names : List ℕ → List ItemSyntax → Module → Type 0
Names text items m = (faults_of text items ≡ []) × (m ≡ module_of text items)

-- it is the first fault of the tree in text order
abbrev pub NameFault : List ℕ → List ItemSyntax → Fault → Type 0
NameFault text items f = IsFirst (faults_of text items) f
