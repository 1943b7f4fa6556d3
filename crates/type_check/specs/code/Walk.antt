-- The first fault of a module, looked for along its tree.
use Rattle.std.specs.Prelude.{ℕ, ◌+◌, nat_lt, if◌then◌else◌, ◌&&◌, Bool, true, false, Option, None, Some, List, [], ◌∷◌}
use Rattle.ir_module.specs.declared.places.Spot.{Spot}
use Rattle.ir_module.specs.declared.places.Spot.TheVariants as spot
use Rattle.ir_module.specs.declared.tree.Block.{Block}
use Rattle.ir_module.specs.declared.tree.Function.{Function}
use Rattle.ir_module.specs.declared.tree.Module.{Module}
use Rattle.ir_module.specs.Spots.{point_at}
use Rattle.ir_module.specs.Steps.{Step, steps_of_block}
use Rattle.ir_module.specs.Tree.{blocks_of}
use Rattle.type_check.specs.declared.required.Required.{Required}
use Rattle.type_check.specs.declared.breaks.Walk.{Walk}
use Rattle.type_check.specs.declared.code.TypeCode.{TypeCode}
use Rattle.type_check.specs.declared.code.TypeCode.TheVariants as code
use Rattle.type_check.specs.declared.kept.Kept.{Kept}
use Rattle.type_check.specs.declared.seen.Seen.{Seen}
use Rattle.type_check.specs.Required.{required_qubits, required_results}
use Rattle.type_check.specs.Rules.{types_agree, entries_fit, keeps_first, cases_differ, numbers_below, functions_known, body_has_own_name, constants_have_own_names}
use Rattle.type_check.specs.code.Search.{first_at, or_else}

-- ---- what one step breaks

-- the rules that look at more than operands
unfoldable pub kept_at : Module → Function → ℕ → Step → Kept
kept_at m f b s = record {
  types = types_agree m f s;
  entries = entries_fit f (record { 0 = b }) s;
  first = keeps_first (record { 0 = b }) s;
  cases = cases_differ s;
}

-- the greatest number is below the bound
abbrev pub is_below : ℕ → Option ℕ → Bool
is_below bound None = true
is_below bound (Some n) = nat_lt n bound

-- without bounds the rule on numbers is not looked at
abbrev pub is_bounded : Option Required → Seen → Bool
is_bounded None s = true
is_bounded (Some k) s = is_below k.qubits s.qubit && is_below k.results s.result

abbrev pub operands_broken : Option Required → Seen → Option TypeCode
operands_broken k s = if is_bounded k s then (if s.known then None else Some code.UnknownDecl) else Some code.IdRange

-- the first rule that is broken, by those that are kept and what is seen of the operands
unfoldable pub broken_by : Option Required → Kept → Seen → Option TypeCode
broken_by k r s =
    if r.types
    then (if r.entries
    then (if r.first
    then (if r.cases then operands_broken k s else Some code.SwitchCase)
    else Some code.EntryBlock)
    else Some code.PhiEntries)
    else Some code.Types

abbrev pub numbers_kept : Option Required → Function → Step → Bool
numbers_kept None f s = true
numbers_kept (Some k) f s = numbers_below k.qubits k.results f s

-- the same by the rules of the definition
unfoldable pub step_breaks : Module → Option Required → Function → ℕ → Step → Option TypeCode
step_breaks m k f b s =
    if types_agree m f s
    then (if entries_fit f (record { 0 = b }) s
    then (if keeps_first (record { 0 = b }) s
    then (if cases_differ s then (if numbers_kept k f s then (if functions_known m f s then None else Some code.UnknownDecl) else Some code.IdRange) else Some code.SwitchCase)
    else Some code.EntryBlock)
    else Some code.PhiEntries)
    else Some code.Types

abbrev pub breaks : Walk → ℕ → Step → Option TypeCode
breaks w b s = step_breaks w.scene.tree.now w.required w.scene.function.now b s

-- ---- along the tree

-- the first fault of some steps of block b of function g, from index i on
abbrev pub steps_fault : Module → Option Required → ℕ → Function → ℕ → ℕ → List Step → Option (Spot × TypeCode)
steps_fault m k g f b i [] = None
steps_fault m k g f b i (s ∷ ss) = first_at (spot.At (point_at g b i)) (step_breaks m k f b s) (steps_fault m k g f b (i + 1) ss)

-- of the blocks from number b on
abbrev pub blocks_fault : Module → Option Required → ℕ → Function → ℕ → List Block → Option (Spot × TypeCode)
blocks_fault m k g f b [] = None
blocks_fault m k g f b (block ∷ blocks) = or_else (steps_fault m k g f b 0 (steps_of_block block)) (blocks_fault m k g f (b + 1) blocks)

-- of a function and what is in it
abbrev pub function_breaks : Function → Option TypeCode
function_breaks f = if body_has_own_name f then None else Some code.ReservedName

abbrev pub function_fault : Module → Option Required → ℕ → Function → Option (Spot × TypeCode)
function_fault m k g f = first_at (spot.Func (record { 0 = g })) (function_breaks f) (blocks_fault m k g f 0 (blocks_of f))

-- of the functions from number g on
abbrev pub functions_fault : Module → Option Required → ℕ → List Function → Option (Spot × TypeCode)
functions_fault m k g [] = None
functions_fault m k g (f ∷ fs) = or_else (function_fault m k g f) (functions_fault m k (g + 1) fs)

-- of a module, but for the rules on the entry
abbrev pub module_fault : Module → Option Required → Option (Spot × TypeCode)
module_fault m k = first_at spot.Module (if constants_have_own_names m then None else Some code.ReservedName) (functions_fault m k 0 m.funcs)

-- the same by what the code has at hand
abbrev pub steps_of_walk : Walk → ℕ → ℕ → List Step → Option (Spot × TypeCode)
steps_of_walk w b i ss = steps_fault w.scene.tree.now w.required w.number.0 w.scene.function.now b i ss

abbrev pub blocks_of_walk : Walk → ℕ → List Block → Option (Spot × TypeCode)
blocks_of_walk w b blocks = blocks_fault w.scene.tree.now w.required w.number.0 w.scene.function.now b blocks

-- the numbers of the module, where the entry is right
abbrev pub required_of : Module → ℕ → Bool → Option Required
required_of m limit false = None
required_of m limit true = Some (record { qubits = required_qubits m limit; results = required_results m limit })
