-- Whole module texts (LLVM Language Reference, 'High Level Structure'). `[ ]` means at most once and `{ }` any number of times;
-- op(t) is an operand of type t, and nat an integer without a sign:
--
--   module = {item} End
--   item   = "source_filename" "=" string
--          | "target" ("triple" | "datalayout") "=" string
--          | local "=" "type" "opaque"
--          | global "=" ["private" | "internal"] ["unnamed_addr" | "local_unnamed_addr"] "constant"
--            "[" nat "x" "i8" "]" bytestring ["," "align" nat]
--          | "declare" {fword} rtype global "(" [dpar {"," dpar}] ")" {aword} {group}
--          | "define" {fword} rtype global "(" [par {"," par}] ")" {aword} {group} "{" block {block} "}"
--          | "attributes" group "=" "{" {string ["=" string] | word} "}"
--          | "!name" "=" "!" "{" ["!nat" {"," "!nat"}] "}"
--          | "!nat" "=" "!" "{" [elem {"," elem}] "}"
--
-- Items other than functions and nodes are as in the factored grammar.
use Rattle.std.specs.Prelude.{List}
use Rattle.grammar.specs.Grammar.{Grammar, rep, as_tree}
use Rattle.ir_tokens.specs.declared.kind.Kind.TheVariants as kind
use Rattle.ir_grammar.specs.declared.tree.ItemSyntax.{ItemSyntax}
use Rattle.ir_grammar.specs.declared.tree.ItemSyntax.TheVariants as item_tree
use Rattle.ir_tokens.specs.Tokens.{tokens}
use Rattle.ir_grammar.specs.Forms.{◌◂◌, ◌or◌}
use Rattle.ir_grammar.specs.Metadata.{list_line}
use Rattle.ir_grammar.specs.Module.{source_name, target_line, type_line, constant_line, attribute_group}
use Rattle.published_grammar.specs.Functions.{declaration, definition}
use Rattle.published_grammar.specs.Metadata.{node_line}

-- item. Of headers and type lines the tree keeps nothing.
unfoldable pub item : Grammar tokens ItemSyntax
item = as_tree (λ t. item_tree.Aside) source_name or as_tree (λ t. item_tree.Aside) target_line
    or as_tree (λ t. item_tree.Aside) type_line or constant_line or as_tree item_tree.Function declaration
    or as_tree item_tree.Function definition or attribute_group or list_line or node_line

-- module
unfoldable pub module_text : Grammar tokens (List ItemSyntax)
module_text = rep item ◂ kind.End
