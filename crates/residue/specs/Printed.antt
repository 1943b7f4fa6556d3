-- The module that a residue is for a target (QIR specification, 'Base Profile', 'Adaptive Profile', 'Attributes' and
-- 'Module Flags Metadata').
use Rattle.std.specs.Prelude.{ℕ, suc, ◌+◌, ◌==◌, Bool, true, false, not, if◌then◌else◌, Option, None, Some, List, [], ◌∷◌, ◌++◌, length, map, filter, flat_map, slice_index_or, option_and_then, codes, decimal}
use Rattle.ir_module.specs.declared.tree.Attr.{Attr}
use Rattle.ir_module.specs.declared.tree.Block.{Block}
use Rattle.ir_module.specs.declared.tree.Callee.TheVariants as callee
use Rattle.ir_module.specs.declared.tree.Flag.{Flag}
use Rattle.ir_module.specs.declared.tree.FlagPart.TheVariants as part
use Rattle.ir_module.specs.declared.tree.FlagValue.TheVariants as flag
use Rattle.ir_module.specs.declared.tree.Function.{Function}
use Rattle.ir_module.specs.declared.tree.Inst.{Inst}
use Rattle.ir_module.specs.declared.tree.InstKind.TheVariants as kind
use Rattle.ir_module.specs.declared.tree.Module.{Module}
use Rattle.ir_module.specs.declared.tree.Operand.{Operand}
use Rattle.ir_module.specs.declared.tree.Operand.TheVariants as operand
use Rattle.ir_module.specs.declared.tree.Phi.{Phi}
use Rattle.ir_module.specs.declared.tree.Term.{Term}
use Rattle.ir_module.specs.declared.tree.Term.TheVariants as term
use Rattle.ir_module.specs.Entry.{attribute_of}
use Rattle.ir_values.specs.declared.ids.BlockId.{BlockId}
use Rattle.ir_values.specs.declared.int.Width.{Width}
use Rattle.ir_values.specs.declared.int.Width.TheVariants.{W64}
use Rattle.ir_values.specs.declared.name.Name.{Name}
use Rattle.ir_values.specs.declared.name.Name.TheVariants as name
use Rattle.ir_values.specs.declared.ty.Ty.{Ty}
use Rattle.ir_values.specs.declared.ty.Ty.TheVariants as ty
use Rattle.ir_values.specs.declared.value.Value.TheVariants as value
use Rattle.kept_items.specs.declared.item.Item.{Item}
use Rattle.kept_items.specs.declared.target.Target.{Target}
use Rattle.kept_items.specs.declared.target.Target.TheVariants as target
use Rattle.kept_items.specs.declared.val.Dyn.{Dyn}
use Rattle.kept_items.specs.declared.val.Val.{Val}
use Rattle.kept_items.specs.declared.val.Val.TheVariants.{Known}
use Rattle.residue.specs.declared.parts.Jump.{Jump}
use Rattle.residue.specs.declared.parts.Part.{Part}
use Rattle.residue.specs.declared.parts.Residue.{Residue}
use Rattle.residue.specs.Functions.{attr, declaration, declared_of, function_of, is_named}
use Rattle.residue.specs.Instructions.{Words, block_number, local, names_of_item, operand_of, print_items, print_tail}
use Rattle.residue.specs.Phases.{in_phase}
use Rattle.residue.specs.Scopes.{items_of, jumps}

-- ---- local names, in the order of their place in the text: the parameters of a part, then what its items define

abbrev pub names_of_items : List Item → List (Option ℕ × Ty)
names_of_items xs = flat_map names_of_item xs

abbrev pub names_of_params : List (Dyn × Width) → List (Option ℕ × Ty)
names_of_params params = map (λ x. (Some x.0.0, ty.Int x.1)) params

abbrev pub names_of_part : Part → List (Option ℕ × Ty)
names_of_part p = names_of_params p.params ++ names_of_items (items_of p.lines)

abbrev pub names_of : List Part → List (Option ℕ × Ty)
names_of parts = flat_map names_of_part parts

abbrev pub is_of : ℕ → Option ℕ → Bool
is_of d None = false
is_of d (Some e) = e == d

-- the number of the name that has a Dynamic value
abbrev pub name_in : List (Option ℕ × Ty) → ℕ → ℕ
name_in [] d = 0
name_in (x ∷ names) d = if is_of d x.0 then 0 else suc (name_in names d)

-- v0, v1 and so on
abbrev pub locals_from : ℕ → List (Option ℕ × Ty) → List (Name × Ty)
locals_from n [] = []
locals_from n (x ∷ names) = (name.Text (codes "v" ++ decimal n), x.1) ∷ locals_from (suc n) names

abbrev pub words : Residue → Words
words r = record {
  qubits = r.own_qubits;
  results = r.own_results;
  name_of = name_in (names_of r.parts);
  function = function_of (declared_of r);
}

-- ---- blocks

abbrev pub block : List ℕ → List Phi → List Inst → Term → Block
block n phis insts t = record { name = name.Text n; phis = phis; insts = insts; term = t }

-- the first instruction of the entry
abbrev pub initialize_call : Inst
initialize_call = record {
  result = None;
  what = kind.Call ty.Void (callee.Func (record { 0 = 1 })) ((ty.Text, operand.Const value.NoLabel) ∷ []);
}

-- Base: the items of the one part stand in three blocks, and they define no names
abbrev pub print_phase : Residue → ℕ → List Item → List Inst
print_phase r n xs = print_items (words r) 0 (in_phase r.irreversible n xs)

abbrev pub base_blocks : Residue → List Part → List Block
base_blocks r [] = []
base_blocks r (p ∷ parts) =
    block (codes "entry") [] (initialize_call ∷ []) (term.Br (block_number 1))
    ∷ block (codes "body") [] (print_phase r 1 (items_of p.lines)) (term.Br (block_number 2))
    ∷ block (codes "measurements") [] (print_phase r 2 (items_of p.lines)) (term.Br (block_number 3))
    ∷ block (codes "output") [] (print_phase r 3 (items_of p.lines)) (print_tail (words r) p.tail)
    ∷ []

-- Adaptive: a block for each part. The jumps of parts from number n on, each with the number of its part, in the text order of
-- the labels
abbrev pub edges_of : ℕ → List Part → List (ℕ × Jump)
edges_of n [] = []
edges_of n (p ∷ parts) = map (λ j. (n, j)) (jumps p.tail) ++ edges_of (suc n) parts

-- those that lead to a part
abbrev pub edges_to : ℕ → List Part → List (ℕ × Jump)
edges_to to parts = filter (λ e. e.1.to == to) (edges_of 0 parts)

-- the argument for parameter i; a jump has one for each
abbrev pub argument : ℕ → Jump → Val
argument i j = slice_index_or j.args i (Known value.NoLabel)

abbrev pub entries : Words → ℕ → List (ℕ × Jump) → List (Operand × BlockId)
entries ws i edges = map (λ e. (operand_of ws (argument i e.1), block_number e.0)) edges

-- the phis of parameters from number i on, whose names begin with n
abbrev pub print_phis : Words → List (ℕ × Jump) → ℕ → ℕ → List (Dyn × Width) → List Phi
print_phis ws edges n i [] = []
print_phis ws edges n i (x ∷ params) =
    (record { result = local n; entries = entries ws i edges }) ∷ print_phis ws edges (suc n) (suc i) params

abbrev pub block_name : ℕ → List ℕ
block_name n = if n == 0 then codes "entry" else codes "b" ++ decimal n

abbrev pub beginning : ℕ → List Inst
beginning n = if n == 0 then (initialize_call ∷ []) else []

-- part n, whose names begin with the number `free`
abbrev pub print_part : Residue → ℕ → ℕ → Part → Block
print_part r n free p =
    block (block_name n) (print_phis (words r) (edges_to n r.parts) free 0 p.params)
    (beginning n ++ print_items (words r) (free + length p.params) (items_of p.lines)) (print_tail (words r) p.tail)

abbrev pub print_parts : Residue → ℕ → ℕ → List Part → List Block
print_parts r n free [] = []
print_parts r n free (p ∷ parts) = print_part r n free p ∷ print_parts r (suc n) (free + length (names_of_part p)) parts

abbrev pub print_blocks : Residue → Target → List Block
print_blocks r target.Base = base_blocks r r.parts
print_blocks r (target.Adaptive caps) = print_parts r 0 0 r.parts

-- ---- attributes of the entry: five of its own, and the source's others

abbrev pub schema_key : List ℕ
schema_key = codes "output_labeling_schema"

abbrev pub own_keys : List (List ℕ)
own_keys =
    codes "entry_point"
    ∷ codes "qir_profiles"
    ∷ schema_key
    ∷ codes "required_num_qubits"
    ∷ codes "required_num_results"
    ∷ []

abbrev pub profile_of : Target → List ℕ
profile_of target.Base = codes "base_profile"
profile_of (target.Adaptive caps) = codes "adaptive_profile"

abbrev pub entry_attrs : Residue → Target → List Attr
entry_attrs r t =
    attr (codes "entry_point") None
    ∷ attr (codes "qir_profiles") (Some (profile_of t))
    ∷ attr schema_key (option_and_then (λ (a : Attr). a.value) (attribute_of schema_key r.attrs))
    ∷ attr (codes "required_num_qubits") (Some (decimal r.all_qubits))
    ∷ attr (codes "required_num_results") (Some (decimal r.all_results))
    ∷ filter (λ a. not (is_named own_keys a.key)) r.attrs

-- ---- flags: four that each module has, and one for each capability

abbrev pub flag_of : ℕ → List ℕ → ℕ → ℕ → Flag
flag_of behaviour key width bits = record { behaviour = behaviour; key = key; value = flag.One (part.Int width bits) }

abbrev pub own_flags : List Flag
own_flags =
    flag_of 1 (codes "qir_major_version") 32 1
    ∷ flag_of 7 (codes "qir_minor_version") 32 0
    ∷ flag_of 1 (codes "dynamic_qubit_management") 1 0
    ∷ flag_of 1 (codes "dynamic_result_management") 1 0
    ∷ []

abbrev pub flag_on : Bool → List ℕ → List Flag
flag_on true key = flag_of 1 key 1 1 ∷ []
flag_on false key = []

abbrev pub flags_of : Target → List Flag
flags_of target.Base = []
flags_of (target.Adaptive caps) =
    flag_on caps.ints (codes "int_computations")
    ++ (flag_on caps.switch (codes "multiple_target_branching")
    ++ (flag_on caps.returns (codes "multiple_return_points")
    ++ flag_on caps.loops (codes "backwards_branching")))

-- ---- the module

abbrev pub printed_entry : Residue → Target → Function
printed_entry r t = record {
  name = r.entry;
  ret = ty.Int W64;
  params = 0;
  locals = locals_from 0 (names_of r.parts);
  attrs = entry_attrs r t;
  blocks = Some (print_blocks r t);
}

abbrev pub printed : Residue → Target → Module
printed r t = record {
  globals = r.globals;
  funcs = printed_entry r t ∷ map (declaration r.irreversible) (declared_of r);
  flags = own_flags ++ flags_of t;
}
