-- What the tables say.
use Rattle.std.specs.Prelude.{ℕ, Option, None, List, slice_get}
use Rattle.std.specs.Option.{option_map}
use Rattle.ir_grammar.specs.declared.tree.ItemSyntax.{ItemSyntax}
use Rattle.ir_names.specs.declared.globals.Globals.{Globals}
use Rattle.ir_names.specs.declared.outer.Outer.{Outer}
use Rattle.ir_names.specs.declared.scope.Scope.{Scope}
use Rattle.ir_names.specs.Module.{written, size_of}
use Rattle.ir_names.specs.Sense.{Sense}
use Rattle.ir_tokens.specs.Spelled.{name_at, spelling_at, string_at}
use Rattle.ir_names.specs.code.Names.{same_name, same_written}
use Rattle.ir_names.specs.code.Tables.{number_in}

-- outside of functions
abbrev pub outside_of : List ℕ → List ItemSyntax → Globals → Sense
outside_of text items g = record {
  name = name_at text;
  string = string_at text;
  spelling = λ t. spelling_at text t.place;
  items = items;
  constant = number_in same_name g.constants.table;
  size = λ k. option_map size_of (slice_get g.constants.list k);
  function = number_in same_name g.functions;
  value = λ n. None;
  label = λ n. None;
  group = λ t. number_in same_written g.groups (written t);
  node = λ t. number_in same_written g.nodes (written t);
  listed = λ t. number_in same_written g.listed.table (written t);
}

abbrev pub outside : Outer → Sense
outside o = outside_of o.text.now o.items.now o.globals.now

-- within a function
abbrev pub seen : Scope → Sense
seen s = record (outside s.outer) { value = number_in same_name s.locals.now.values; label = number_in same_name s.locals.now.labels }
