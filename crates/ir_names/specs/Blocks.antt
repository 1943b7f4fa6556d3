-- Terminators and blocks. At each place v values and b labels of the function are defined before.
use Rattle.std.specs.Prelude.{ℕ, ◌+◌, map, Option, None, Some, List, [], ◌∷◌, ◌++◌}
use Rattle.std.specs.List.{flat_map}
use Rattle.ir_tokens.specs.declared.token.Token.{Token}
use Rattle.ir_grammar.specs.declared.tree.BlockSyntax.{BlockSyntax}
use Rattle.ir_grammar.specs.declared.tree.CaseSyntax.{CaseSyntax}
use Rattle.ir_grammar.specs.declared.tree.LineSyntax.{LineSyntax}
use Rattle.ir_grammar.specs.declared.tree.PhiSyntax.{PhiSyntax}
use Rattle.ir_grammar.specs.declared.tree.TermSyntax.{TermSyntax}
use Rattle.ir_grammar.specs.declared.tree.TermSyntax.TheVariants as syntax
use Rattle.ir_module.specs.declared.tree.Block.{Block}
use Rattle.ir_module.specs.declared.tree.Term.{Term}
use Rattle.ir_module.specs.declared.tree.Term.TheVariants as term
use Rattle.ir_values.specs.Int.{IntValue}
use Rattle.ir_values.specs.declared.ids.BlockId.{BlockId}
use Rattle.ir_values.specs.declared.name.Name.{Name}
use Rattle.ir_values.specs.declared.name.Name.TheVariants.{Number}
use Rattle.ir_names.specs.declared.fault.Fault.{Fault}
use Rattle.ir_names.specs.Faults.{unknown}
use Rattle.ir_names.specs.Instructions.{duplicate, lines_faults, insts_of, behind_lines, phis_faults, phis_of, behind_phis}
use Rattle.ir_names.specs.Operands.{operand_faults, operand_of}
use Rattle.ir_names.specs.Sense.{Sense, block_id}

-- Terminators.

abbrev pub target_faults : Sense → Token → List Fault
target_faults s t = unknown t (s.label (s.name t))

abbrev pub target_of : Sense → Token → BlockId
target_of s t = block_id (s.label (s.name t))

abbrev pub case_faults : Sense → CaseSyntax → List Fault
case_faults s c = target_faults s c.target

abbrev pub case_of : Sense → CaseSyntax → IntValue × BlockId
case_of s c = (c.value, target_of s c.target)

abbrev pub term_faults : Sense → TermSyntax → List Fault
term_faults s syntax.RetVoid = []
term_faults s (syntax.Ret t a) = operand_faults s a
term_faults s (syntax.Br to) = target_faults s to
term_faults s (syntax.CondBr c x y) = operand_faults s c ++ (target_faults s x ++ target_faults s y)
term_faults s (syntax.Switch t a to cases) = operand_faults s a ++ (target_faults s to ++ flat_map (case_faults s) cases)

abbrev pub term_of : Sense → TermSyntax → Term
term_of s syntax.RetVoid = term.RetVoid
term_of s (syntax.Ret t a) = term.Ret t (operand_of s a)
term_of s (syntax.Br to) = term.Br (target_of s to)
term_of s (syntax.CondBr c x y) = term.CondBr (operand_of s c) (target_of s x) (target_of s y)
term_of s (syntax.Switch t a to cases) = term.Switch t (operand_of s a) (target_of s to) (map (case_of s) cases)

-- Blocks.

-- The name of a parameter or a block. One without is numbered: a parameter by how many such stand before it, a first block by
-- how many such parameters there are.
abbrev pub name_or : (Token → Name) → ℕ → Option Token → Name
name_or name unnamed None = Number unnamed
name_or name unnamed (Some t) = name t

abbrev pub first_of_lines : List LineSyntax → Token → Token
first_of_lines [] last = last
first_of_lines (l ∷ ls) last = l.first

abbrev pub first_of_phis : List PhiSyntax → List LineSyntax → Token → Token
first_of_phis [] ls last = first_of_lines ls last
first_of_phis (p ∷ ps) ls last = p.result

-- the first token of a block
abbrev pub first_token : Option Token → List PhiSyntax → List LineSyntax → Token → Token
first_token None ps ls last = first_of_phis ps ls last
first_token (Some t) ps ls last = t

abbrev pub block_faults : Sense → ℕ → ℕ → ℕ → BlockSyntax → List Fault
block_faults s unnamed v b k =
    duplicate s (first_token k.label k.lines.phis k.lines.insts k.last) (name_or s.name unnamed k.label) v b
    ++ (phis_faults s v (b + 1) k.lines.phis
    ++ (lines_faults s (behind_phis v k.lines.phis) (b + 1) k.lines.insts
    ++ term_faults s k.term))

abbrev pub block_of : Sense → ℕ → ℕ → BlockSyntax → Block
block_of s unnamed v k = record {
  name = name_or s.name unnamed k.label;
  phis = phis_of s v k.lines.phis;
  insts = insts_of s (behind_phis v k.lines.phis) k.lines.insts;
  term = term_of s k.term;
}

abbrev pub behind_block : ℕ → BlockSyntax → ℕ
behind_block v k = behind_lines (behind_phis v k.lines.phis) k.lines.insts

abbrev pub blocks_faults : Sense → ℕ → ℕ → ℕ → List BlockSyntax → List Fault
blocks_faults s unnamed v b [] = []
blocks_faults s unnamed v b (k ∷ ks) = block_faults s unnamed v b k ++ blocks_faults s unnamed (behind_block v k) (b + 1) ks

abbrev pub blocks_of : Sense → ℕ → ℕ → List BlockSyntax → List Block
blocks_of s unnamed v [] = []
blocks_of s unnamed v (k ∷ ks) = block_of s unnamed v k ∷ blocks_of s unnamed (behind_block v k) ks
