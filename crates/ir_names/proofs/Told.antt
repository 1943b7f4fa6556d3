-- What the tables of a text say is what its items say.
use Rattle.std.proofs.Common.{◌≡◌, ℕ, List, None, Result, map, slice_get, subst}
use Rattle.std.specs.List.{filter_map}
use Rattle.std.specs.Option.{option_map}
use Rattle.ir_module.specs.declared.tree.Constant.{Constant}
use Rattle.ir_names.specs.Items.{items_faults, function_in, function_name_in}
use Rattle.ir_names.specs.Metadata.{listed, flags_of}
use Rattle.ir_names.specs.Module.{told, start, faults_of, module_of, constants_of, size_of, written, group_in, node_in}
use Rattle.ir_tokens.specs.declared.token.Token.{Token}
use Rattle.ir_tokens.specs.Spelled.{name_at, spelling_at, string_at}
use Rattle.ir_names.specs.Sense.{Sense}
use Rattle.ir_names.specs.code.Answers.{Gives}
use Rattle.ir_names.specs.code.Held.{HoldsConstants, HoldsNodes}
use Rattle.ir_names.specs.code.Names.{same_name, same_written}
use Rattle.ir_names.specs.code.Seen.{outside_of}
use Rattle.ir_names.specs.code.Tables.{Numbers}
use Rattle.ir_grammar.specs.declared.tree.ItemSyntax.{ItemSyntax}
use Rattle.ir_module.specs.declared.tree.Module.{Module}
use Rattle.ir_names.specs.declared.fault.Stop.{Stop}
use Rattle.ir_names.specs.declared.globals.Globals.{Globals}

pub same_told : (text : List ℕ) (items : List ItemSyntax) (g : Globals) → HoldsConstants g.constants → g.constants.list ≡ constants_of text items
    → Numbers same_name g.functions (filter_map (function_name_in (name_at text)) items)
    → Numbers same_written g.groups (map group_in items) → Numbers same_written g.nodes (map node_in items)
    → HoldsNodes g.listed → g.listed.list ≡ listed (λ t. spelling_at text t.place) items
    → outside_of text items g ≡ told text items
same_told text items g c cs f r n l ls =
    let spelling : Token → List ℕ = λ t. spelling_at text t.place in
    let constants : Numbers same_name g.constants.table (map (λ c. c.name) (constants_of text items)) =
    subst (λ (list : List Constant). Numbers same_name g.constants.table (map (λ c. c.name) list)) cs c in
    let nodes : Numbers same_written g.listed.table (map written (listed spelling items)) =
    subst (λ (list : List Token). Numbers same_written g.listed.table (map written list)) ls l in
    λ j. record {
      name = name_at text;
      string = string_at text;
      spelling = spelling;
      items = items;
      constant = λ name. constants.1 name j;
      size = λ k. option_map size_of (slice_get (cs j) k);
      function = λ name. f.1 name j;
      value = λ name. None;
      label = λ name. None;
      group = λ t. r.1 (written t) j;
      node = λ t. n.1 (written t) j;
      listed = λ t. nodes.1 (written t) j;
    }

pub whole : (text : List ℕ) (items : List ItemSyntax) (s : Sense) (constants : List Constant) (result : Result Module Stop)
    → s ≡ told text items → constants ≡ constants_of text items
    → Gives (items_faults s start items) (record { globals = constants; funcs = filter_map (function_in s) items; flags = flags_of s }) result
    → Gives (faults_of text items) (module_of text items) result
whole text items s constants result e c h =
    let one = subst (λ (t : Sense). Gives (items_faults t start items) (record { globals = constants; funcs = filter_map (function_in t) items; flags = flags_of t }) result) e h in
    subst (λ (cs : List Constant). Gives (faults_of text items) (record { globals = cs; funcs = filter_map (function_in (told text items)) items; flags = flags_of (told text items) }) result) c one
