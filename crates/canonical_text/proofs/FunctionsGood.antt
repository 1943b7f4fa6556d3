-- The parts of blocks and functions stand apart.
use Rattle.std.proofs.Common.{◌≡◌, ℕ, ◌+◌, ◌^◌, ◌<◌, ◌≤◌, Bool, true, false, Option, None, Some, List, [], ◌∷◌, ◌++◌, length, refl, subst, arith}
use Rattle.std.specs.Prelude.{◌&&◌, nat_lt, codes, map, flat_map, take, decimal}
use Rattle.std.specs.List.{list_all}
use Rattle.std.proofs.lemmas.Bool.{and_parts, cond_both}
use Rattle.std.proofs.lemmas.List.{length-append}
use Rattle.ir_values.specs.declared.name.Name.{Name}
use Rattle.ir_values.specs.declared.ty.Ty.{Ty}
use Rattle.ir_text.specs.declared.tok.Tok.TheVariants.{Label, Group}
use Rattle.ir_module.specs.Numbered.{operand_in_range, local_in_range, step_in_range}
use Rattle.ir_module.specs.Operands.{step_operands, step_defines, step_blocks}
use Rattle.ir_module.specs.Printable.{name_fits, step_fits}
use Rattle.ir_module.specs.Steps.{Step, PhiAt, InstAt, TermAt, steps_of_block}
use Rattle.ir_module.specs.Tree.{blocks_of, blocks_or_none}
use Rattle.ir_module.specs.declared.tree.Attr.{Attr}
use Rattle.ir_module.specs.declared.tree.Block.{Block}
use Rattle.ir_module.specs.declared.tree.Function.{Function}
use Rattle.ir_module.specs.declared.tree.Inst.{Inst}
use Rattle.ir_module.specs.declared.tree.Module.{Module}
use Rattle.ir_module.specs.declared.tree.Phi.{Phi}
use Rattle.ir_parts.specs.Parts.{Part}
use Rattle.ir_printer.specs.Functions.{indented, phi_line, inst_line, steps_parts, block_parts, further_block, blocks_parts, named_param, nameless_param, params_parts, name_parts, head_parts, definition_head, body_parts, function_section}
use Rattle.ir_printer.specs.Groups.{same_attrs, number_from, with_list, groups_from, groups_of, group_use}
use Rattle.ir_printer.specs.Instructions.{phi_parts, inst_parts, term_parts}
use Rattle.ir_printer.specs.Operands.{local_token, global_token}
use Rattle.ir_printer.specs.Pieces.{blank, line_end, sign, listed}
use Rattle.ir_printer.specs.Spellings.{label_spelling}
use Rattle.ir_printer.specs.Types.{type_parts}
use Rattle.canonical_text.proofs.Facts.{first_all, second_all, all_mapped, all_taken}
use Rattle.canonical_text.proofs.InstructionsGood.{phi_good, inst_good, term_good}
use Rattle.canonical_text.proofs.Join.{Good, Safe, loosen, join, then_token, listed_good, all_good, lines_safe}
use Rattle.canonical_text.proofs.OperandsGood.{Known, local_token_good, global_token_good}
use Rattle.canonical_text.proofs.TypesGood.{type_good}
use Rattle.canonical_text.proofs.Written.{label_written, group_written}

-- ---- blocks

indented_safe : (ps : List Part) → Good ps → Safe (indented ps)
indented_safe ps h = join false ps (line_end ∷ []) h refl

-- what is known of each step
abbrev pub fits : Module → Function → Step → Bool
fits m f s = step_fits f s && step_in_range m f s

phi_safe : (m : Module) (f : Function) → Known m f → (phi : Phi) → fits m f (PhiAt phi) ≡ true → Safe (phi_line m f phi)
phi_safe m f k phi h =
    let s = PhiAt phi in
    let p = and_parts (step_fits f s) (step_in_range m f s) h in
    let rest = list_all (local_in_range f) (step_defines s) && list_all (λ b. nat_lt b.0 (length (blocks_of f))) (step_blocks s) in
    let q = and_parts (list_all (operand_in_range m f) (step_operands s)) rest p.1 in
    let r = and_parts (list_all (local_in_range f) (step_defines s)) (list_all (λ b. nat_lt b.0 (length (blocks_of f))) (step_blocks s)) q.1 in
    let here = and_parts (local_in_range f phi.result) true r.0 in
    indented_safe (phi_parts m f phi) (phi_good m f phi k here.0 p.0)

inst_safe : (m : Module) (f : Function) → Known m f → (i : Inst) → fits m f (InstAt i) ≡ true → Safe (inst_line m f i)
inst_safe m f k i h = indented_safe (inst_parts m f i) (inst_good m f i k (and_parts (step_fits f (InstAt i)) (step_in_range m f (InstAt i)) h).0)

abbrev pub block_fits : Module → Function → Block → Bool
block_fits m f b = name_fits b.name && list_all (fits m f) (steps_of_block b)

block_good : (m : Module) (f : Function) → Known m f → (b : Block) → block_fits m f b ≡ true → Good (block_parts m f b)
block_good m f k b h =
    let p = and_parts (name_fits b.name) (list_all (fits m f) (steps_of_block b)) h in
    let behind_phis = map InstAt b.insts ++ (TermAt b.term ∷ []) in
    let phis = all_mapped (fits m f) PhiAt b.phis (first_all (fits m f) (map PhiAt b.phis) behind_phis p.1) in
    let others = second_all (fits m f) (map PhiAt b.phis) behind_phis p.1 in
    let insts = all_mapped (fits m f) InstAt b.insts (first_all (fits m f) (map InstAt b.insts) (TermAt b.term ∷ []) others) in
    let last = and_parts (fits m f (TermAt b.term)) true (second_all (fits m f) (map InstAt b.insts) (TermAt b.term ∷ []) others) in
    let end : Safe (indented (term_parts m f b.term)) = indented_safe (term_parts m f b.term) (term_good m f b.term k (and_parts (step_fits f (TermAt b.term)) (step_in_range m f (TermAt b.term)) last.0).0) in
    let steps : Safe (steps_parts m f b) = join true (flat_map (inst_line m f) b.insts) (indented (term_parts m f b.term)) (lines_safe (inst_line m f) (λ i. fits m f (InstAt i)) b.insts (inst_safe m f k) insts) end in
    let body : Safe (flat_map (phi_line m f) b.phis ++ steps_parts m f b) = join true (flat_map (phi_line m f) b.phis) (steps_parts m f b) (lines_safe (phi_line m f) (λ p. fits m f (PhiAt p)) b.phis (phi_safe m f k) phis) steps in
    then_token Label (label_spelling b.name) (line_end ∷ (flat_map (phi_line m f) b.phis ++ steps_parts m f b)) (label_written b.name p.0) (loosen (flat_map (phi_line m f) b.phis ++ steps_parts m f b) body)

blocks_good : (m : Module) (f : Function) (bs : List Block) → Known m f → list_all (block_fits m f) bs ≡ true → Good (blocks_parts m f bs)
blocks_good m f [] k h = refl
blocks_good m f (b ∷ bs) k h =
    let p = and_parts (block_fits m f b) (list_all (block_fits m f) bs) h in
    join false (block_parts m f b) (flat_map (further_block m f) bs) (block_good m f k b p.0)
    (lines_safe (further_block m f) (block_fits m f) bs (block_good m f k) p.1)

-- ---- groups

abbrev Below : ℕ → Option ℕ → Type 0
Below n None = Unit {0}
Below n (Some k) = k < n

below_more : (m n : ℕ) (o : Option ℕ) → m ≤ n → Below m o → Below n o
below_more m n None e h = tt
below_more m n (Some k) e h = omega arith

number_bound : (n : ℕ) (attrs : List Attr) (gs : List (List Attr)) → Below (n + length gs) (number_from n attrs gs)
number_bound n attrs [] = tt
number_bound n attrs (g ∷ gs) =
    cond_both (same_attrs g attrs) (Some n) (number_from (n + 1) attrs gs) (Below (n + length (g ∷ gs))) (λ _. omega arith)
    (λ _. below_more (n + 1 + length gs) (n + length (g ∷ gs)) (number_from (n + 1) attrs gs) (omega arith) (number_bound (n + 1) attrs gs))

one_longer : (gs : List (List Attr)) (attrs : List Attr) (o : Option ℕ) → length (with_list gs attrs o) ≤ length gs + 1
one_longer gs attrs (Some n) = omega arith
one_longer gs [] None = omega arith
one_longer gs (a ∷ attrs) None = omega (arith, length-append gs ((a ∷ attrs) ∷ []))

few_from : (gs : List (List Attr)) (fs : List Function) → length (groups_from gs fs) ≤ length gs + length fs
few_from gs [] = omega arith
few_from gs (f ∷ fs) = omega (arith, few_from (with_list gs f.attrs (number_from 0 f.attrs gs)) fs, one_longer gs f.attrs (number_from 0 f.attrs gs))

pub few_groups : (m : Module) → length m.funcs < 2 ^ 32 → length (groups_of m) < 2 ^ 32
few_groups m h = omega (arith, few_from [] m.funcs)

group_use_safe : (o : Option ℕ) → Below (2 ^ 128) o → Safe (group_use o)
group_use_safe None h = refl
group_use_safe (Some n) h = then_token Group (35 ∷ decimal n) [] (group_written n h) refl

-- ---- functions

named_good : (l : Name × Ty) → name_fits l.0 ≡ true → Good (named_param l)
named_good l h = join false (type_parts l.1) (blank ∷ local_token l.0 ∷ []) (type_good l.1) (local_token_good l.0 [] h refl)

params_safe : (param : Name × Ty → List Part) (ls : List (Name × Ty)) → ((l : Name × Ty) → name_fits l.0 ≡ true → Good (param l)) → list_all (λ l. name_fits l.0) ls ≡ true → Safe (params_parts param ls)
params_safe param ls g h =
    let close = sign (codes ")") ∷ [] in
    let all = listed (map param ls) in
    let inside : Good (all ++ close) = join false all close (listed_good (map param ls) (all_good param (λ l. name_fits l.0) ls g h)) refl in
    inside

-- what is known of a function
pub record FunctionFits (m : Module) (f : Function) : Type 0 where
  pub known : Known m f
  pub name : name_fits f.name ≡ true
  pub steps : list_all (block_fits m f) (blocks_of f) ≡ true
  pub few : length m.funcs < 2 ^ 32

head_good : (m : Module) (f : Function) (param : Name × Ty → List Part) → FunctionFits m f → ((l : Name × Ty) → name_fits l.0 ≡ true → Good (param l)) → Good (head_parts m f param)
head_good m f param w g =
    let ls = take f.params f.locals in
    let number = number_from 0 f.attrs (groups_of m) in
    let used : Safe (group_use number) = group_use_safe number (below_more (0 + length (groups_of m)) (2 ^ 128) number (omega (arith, few_groups m w.few)) (number_bound 0 f.attrs (groups_of m))) in
    let params : Safe (params_parts param ls) = params_safe param ls g (all_taken (λ l. name_fits l.0) f.params f.locals w.known.locals) in
    let named : Good (name_parts f) = join false (type_parts f.ret) (blank ∷ global_token f.name ∷ []) (type_good f.ret) (global_token_good f.name [] w.name refl) in
    join false (name_parts f) (params_parts param ls ++ group_use number) named (join true (params_parts param ls) (group_use number) params used)

body_good : (m : Module) (f : Function) (o : Option (List Block)) → f.blocks ≡ o → FunctionFits m f → Good (body_parts m f o)
body_good m f None e w =
    join false (head_parts m f nameless_param) (line_end ∷ []) (head_good m f nameless_param w (λ l h. type_good l.1)) refl
body_good m f (Some bs) e w =
    let close = sign (codes "}") ∷ line_end ∷ [] in
    let all : list_all (block_fits m f) bs ≡ true = subst (λ o. list_all (block_fits m f) (blocks_or_none o) ≡ true) e w.steps in
    let inside : Good (blocks_parts m f bs ++ close) = join false (blocks_parts m f bs) close (blocks_good m f bs w.known all) refl in
    join false (definition_head m f) (blank ∷ sign (codes "{") ∷ line_end ∷ (blocks_parts m f bs ++ close)) (head_good m f named_param w named_good) inside

pub function_safe : (m : Module) (f : Function) → FunctionFits m f → Safe (function_section m f)
function_safe m f w = body_good m f f.blocks refl w
