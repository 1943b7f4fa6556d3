-- Functions, items and whole module texts are those of the factored grammar.
use Rattle.grammar.specs.Grammar.{Grammar, opt, as_tree}
use Rattle.ir_tokens.specs.Tokens.{tokens}
use Rattle.ir_grammar.specs.declared.tree.ParamSyntax.{ParamSyntax}
use Rattle.ir_grammar.specs.declared.tree.ItemSyntax.TheVariants as item_tree
use Rattle.ir_grammar.specs.Forms.{◌or◌}
use Rattle.ir_grammar.specs.Words.{global, local}
use Rattle.ir_grammar.specs.Functions as factored_functions
use Rattle.ir_grammar.specs.Functions.{params_of}
use Rattle.ir_grammar.specs.Metadata.{list_line}
use Rattle.ir_grammar.specs.Module as factored
use Rattle.ir_grammar.specs.Module.{source_name, target_line, type_line, constant_line, attribute_group}
use Rattle.published_grammar.specs.Functions as published_functions
use Rattle.published_grammar.specs.Module as published
use Rattle.published_grammar.proofs.Algebra.{Same, within_itself, within_through, same_itself, same_through, turned, either, on_left, on_right, same_as_tree, same_seq, same_alt, same_rep}
use Rattle.published_grammar.proofs.Factoring.{trees_apart}
use Rattle.published_grammar.proofs.Forms.{same_behind, same_before, same_commas}
use Rattle.published_grammar.proofs.Types.{return_same}
use Rattle.published_grammar.proofs.Instructions.{worded_type_same}
use Rattle.published_grammar.proofs.Blocks.{blocks_same}
use Rattle.published_grammar.proofs.Metadata.{node_line_same}

-- Functions.

head_same : Same published_functions.head factored_functions.head
unfolding published_functions.head factored_functions.head
head_same = same_as_tree _ (same_seq (same_itself _) (same_seq return_same (same_itself global)))

declared_param_same : Same published_functions.declared_param factored_functions.declared_param
unfolding published_functions.declared_param factored_functions.declared_param
declared_param_same = same_as_tree _ worded_type_same

param_same : Same published_functions.param factored_functions.param
unfolding published_functions.param factored_functions.param
param_same = same_as_tree _ (same_seq worded_type_same (same_itself (opt local)))

params_same : (a b : Grammar tokens ParamSyntax) → Same a b → Same (params_of a) (params_of b)
unfolding params_of
params_same a b p = same_behind _ (same_before _ (same_commas p))

declaration_same : Same published_functions.declaration factored_functions.declaration
unfolding published_functions.declaration factored_functions.declaration
declaration_same = same_as_tree _ (same_behind _ (same_seq head_same (same_seq (params_same _ _ declared_param_same) (same_itself _))))

definition_same : Same published_functions.definition factored_functions.definition
unfolding published_functions.definition factored_functions.definition
definition_same = same_as_tree _ (same_behind _ (same_seq head_same (same_seq (params_same _ _ param_same) (same_seq (same_itself _) blocks_same))))

-- Items.

header_apart : Same factored.header (as_tree (λ t. item_tree.Aside) source_name or as_tree (λ t. item_tree.Aside) target_line or as_tree (λ t. item_tree.Aside) type_line)
unfolding factored.header
header_apart = same_through (trees_apart (λ t. item_tree.Aside) source_name (target_line or type_line)) (same_alt (same_itself _) (trees_apart (λ t. item_tree.Aside) target_line type_line))

function_apart : Same factored.function (as_tree item_tree.Function published_functions.declaration or as_tree item_tree.Function published_functions.definition)
unfolding factored.function
function_apart =
    same_through (trees_apart item_tree.Function factored_functions.declaration factored_functions.definition)
    (same_alt (same_as_tree item_tree.Function (turned declaration_same)) (same_as_tree item_tree.Function (turned definition_same)))

item_same : Same published.item factored.item
unfolding published.item factored.item factored.metadata
item_same =
    let h = header_apart in
    let f = function_apart in
    record {
      there = either (on_left (within_through (on_left (within_itself _)) h.back)) (either (on_left (within_through (on_right (on_left (within_itself _))) h.back)) (either (on_left (within_through (on_right (on_right (within_itself _))) h.back))
          (either (on_right (on_left (within_itself constant_line))) (either (on_right (on_right (on_left (within_through (on_left (within_itself _)) f.back)))) (either (on_right (on_right (on_left (within_through (on_right (within_itself _)) f.back))))
          (either (on_right (on_right (on_right (on_left (within_itself attribute_group))))) (either (on_right (on_right (on_right (on_right (on_left (within_itself list_line)))))) (on_right (on_right (on_right (on_right (on_right node_line_same.there))))))))))));
      back = either (within_through h.there (either (on_left (within_itself _)) (either (on_right (on_left (within_itself _))) (on_right (on_right (on_left (within_itself _)))))))
          (either (on_right (on_right (on_right (on_left (within_itself constant_line)))))
          (either (within_through f.there (either (on_right (on_right (on_right (on_right (on_left (within_itself _)))))) (on_right (on_right (on_right (on_right (on_right (on_left (within_itself _)))))))))
          (either (on_right (on_right (on_right (on_right (on_right (on_right (on_left (within_itself attribute_group))))))))
          (either (on_right (on_right (on_right (on_right (on_right (on_right (on_right (on_left (within_itself list_line))))))))) (on_right (on_right (on_right (on_right (on_right (on_right (on_right (on_right node_line_same.back))))))))))));
    }

pub module_same : Same published.module_text factored.module_text
unfolding published.module_text factored.module_text
module_same = same_before _ (same_rep item_same)
