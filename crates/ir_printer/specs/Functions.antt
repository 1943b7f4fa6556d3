-- Functions in canonical text (LLVM Language Reference, 'Functions').
use Rattle.std.specs.Prelude.{Option, None, Some, List, [], ◌∷◌, ◌++◌, flat_map, map, take, codes}
use Rattle.ir_text.specs.declared.tok.Tok.TheVariants.{Label}
use Rattle.ir_values.specs.declared.name.Name.{Name}
use Rattle.ir_values.specs.declared.ty.Ty.{Ty}
use Rattle.ir_module.specs.declared.tree.Block.{Block}
use Rattle.ir_module.specs.declared.tree.Function.{Function}
use Rattle.ir_module.specs.declared.tree.Inst.{Inst}
use Rattle.ir_module.specs.declared.tree.Module.{Module}
use Rattle.ir_module.specs.declared.tree.Phi.{Phi}
use Rattle.ir_parts.specs.Parts.{Part, token}
use Rattle.ir_printer.specs.Groups.{groups_of, number_from, group_use}
use Rattle.ir_printer.specs.Instructions.{phi_parts, inst_parts, term_parts}
use Rattle.ir_printer.specs.Operands.{local_token, global_token}
use Rattle.ir_printer.specs.Pieces.{blank, indent, line_end, sign, word, listed}
use Rattle.ir_printer.specs.Spellings.{label_spelling}
use Rattle.ir_printer.specs.Types.{type_parts}

-- ---- blocks: a line with the label, and a line that begins with two blanks for each step

abbrev pub indented : List Part → List Part
indented ps = indent ∷ (ps ++ line_end ∷ [])

abbrev pub phi_line : Module → Function → Phi → List Part
phi_line m f phi = indented (phi_parts m f phi)

abbrev pub inst_line : Module → Function → Inst → List Part
inst_line m f i = indented (inst_parts m f i)

abbrev pub steps_parts : Module → Function → Block → List Part
steps_parts m f b = flat_map (inst_line m f) b.insts ++ indented (term_parts m f b.term)

abbrev pub block_parts : Module → Function → Block → List Part
block_parts m f b =
    token Label (label_spelling b.name) ∷ line_end ∷ (flat_map (phi_line m f) b.phis ++ steps_parts m f b)

-- a block behind an empty line
abbrev pub further_block : Module → Function → Block → List Part
further_block m f b = line_end ∷ block_parts m f b

abbrev pub blocks_parts : Module → Function → List Block → List Part
blocks_parts m f [] = []
blocks_parts m f (b ∷ bs) = block_parts m f b ++ flat_map (further_block m f) bs

-- ---- functions

-- 'T %x'
abbrev pub named_param : Name × Ty → List Part
named_param l = type_parts l.1 ++ blank ∷ local_token l.0 ∷ []

-- a parameter of a declaration has no name in the text
abbrev pub nameless_param : Name × Ty → List Part
nameless_param l = type_parts l.1

-- '(T, T)', with each parameter as this writes it
abbrev pub params_parts : (Name × Ty → List Part) → List (Name × Ty) → List Part
params_parts param ls = sign (codes "(") ∷ (listed (map param ls) ++ sign (codes ")") ∷ [])

-- 'RET @name'
abbrev pub name_parts : Function → List Part
name_parts f = type_parts f.ret ++ blank ∷ global_token f.name ∷ []

-- 'RET @name(T, T) #0'
abbrev pub head_parts : Module → Function → (Name × Ty → List Part) → List Part
head_parts m f param =
    name_parts f ++ (params_parts param (take f.params f.locals) ++ group_use (number_from 0 f.attrs (groups_of m)))

abbrev pub declaration_parts : Module → Function → List Part
declaration_parts m f = word (codes "declare") ∷ blank ∷ (head_parts m f nameless_param ++ line_end ∷ [])

abbrev pub definition_head : Module → Function → List Part
definition_head m f = word (codes "define") ∷ blank ∷ head_parts m f named_param

abbrev pub definition_parts : Module → Function → List Block → List Part
definition_parts m f blocks =
    definition_head m f ++ blank ∷ sign (codes "{") ∷ line_end ∷ (blocks_parts m f blocks ++ sign (codes "}") ∷ line_end ∷ [])

abbrev pub body_parts : Module → Function → Option (List Block) → List Part
body_parts m f None = declaration_parts m f
body_parts m f (Some blocks) = definition_parts m f blocks

abbrev pub function_parts : Module → Function → List Part
function_parts m f = body_parts m f f.blocks

-- a function behind an empty line
abbrev pub function_section : Module → Function → List Part
function_section m f = line_end ∷ function_parts m f
