-- Two worked residues with the modules that are printed for them.
use Rattle.std.specs.Prelude.{ℕ, ◌≡◌, refl, true, false, None, Some, List, [], ◌∷◌, ◌++◌, map, codes}
use Rattle.std.specs.Fmt.{digits}
use Rattle.ir_module.specs.declared.tree.Attr.{Attr}
use Rattle.ir_module.specs.declared.tree.Block.{Block}
use Rattle.ir_module.specs.declared.tree.Callee.TheVariants as callee
use Rattle.ir_module.specs.declared.tree.Constant.{Constant}
use Rattle.ir_module.specs.declared.tree.Flag.{Flag}
use Rattle.ir_module.specs.declared.tree.Function.{Function}
use Rattle.ir_module.specs.declared.tree.Inst.{Inst}
use Rattle.ir_module.specs.declared.tree.InstKind.TheVariants as kind
use Rattle.ir_module.specs.declared.tree.Module.{Module}
use Rattle.ir_module.specs.declared.tree.Operand.{Operand}
use Rattle.ir_module.specs.declared.tree.Operand.TheVariants as operand
use Rattle.ir_module.specs.declared.tree.Phi.{Phi}
use Rattle.ir_module.specs.declared.tree.Term.{Term}
use Rattle.ir_module.specs.declared.tree.Term.TheVariants as term
use Rattle.ir_values.specs.declared.int.Conv.TheVariants as conv
use Rattle.ir_values.specs.declared.int.Pred.TheVariants as pred
use Rattle.ir_values.specs.declared.int.Width.{Width}
use Rattle.ir_values.specs.declared.int.Width.TheVariants.{W1, W64}
use Rattle.ir_values.specs.declared.ty.Ty.{Ty}
use Rattle.ir_values.specs.declared.ty.Ty.TheVariants as ty
use Rattle.ir_values.specs.declared.ids.BlockId.{BlockId}
use Rattle.ir_values.specs.declared.class.Class.TheVariants as class
use Rattle.ir_values.specs.declared.name.Name.TheVariants as name
use Rattle.ir_values.specs.declared.value.Value.{Value}
use Rattle.ir_values.specs.declared.value.Value.TheVariants as value
use Rattle.ir_values.specs.Calls.{class_of}
use Rattle.kept_items.specs.declared.item.Item.{Item}
use Rattle.kept_items.specs.declared.item.Item.TheVariants as item
use Rattle.residue.specs.declared.parts.Jump.{Jump}
use Rattle.residue.specs.declared.parts.Line.{Line}
use Rattle.residue.specs.declared.parts.Line.TheVariants as line
use Rattle.residue.specs.declared.parts.Part.{Part}
use Rattle.residue.specs.declared.parts.Residue.{Residue}
use Rattle.residue.specs.declared.parts.Tail.TheVariants as tail
use Rattle.kept_items.specs.declared.target.Target.{Target}
use Rattle.kept_items.specs.declared.target.Target.TheVariants as target
use Rattle.kept_items.specs.declared.val.Dyn.{Dyn}
use Rattle.kept_items.specs.declared.val.Val.{Val}
use Rattle.kept_items.specs.declared.val.Val.TheVariants.{Known, Dynamic}
use Rattle.residue.specs.Functions.{attr, parameters}
use Rattle.residue.specs.Printed.{flag_of, printed}
use Rattle.residue.specs.Valid.{Valid}

abbrev dyn : ℕ → Dyn
dyn n = record { 0 = n }

abbrev dynamic : ℕ → Val
dynamic n = Dynamic (dyn n)

abbrev int : Width → ℕ → Value
int w n = value.Int (record { width = w; bits = n })

abbrev alloc : ℕ → Ty × Val
alloc j = (ty.Qubit, Known (value.Alloc j))

abbrev measured : ℕ → Ty × Val
measured j = (ty.Res, Known (value.Measured j))

abbrev no_label : Ty × Val
no_label = (ty.Text, Known value.NoLabel)

abbrev label : ℕ → Ty × Val
label n = (ty.Text, Known (value.Label (record { 0 = n })))

abbrev to : ℕ → List Val → Jump
to n args = record { to = n; args = args }

abbrev items : List Item → List Line
items xs = map line.Item xs

-- what is printed
abbrev const : Ty → Value → Ty × Operand
const t v = (t, operand.Const v)

abbrev local : ℕ → Operand
local n = operand.Local (record { 0 = n })

abbrev call : Ty → ℕ → List (Ty × Operand) → Inst
call ret f args = record { result = None; what = kind.Call ret (callee.Func (record { 0 = f })) args }

abbrev named : ℕ → Inst → Inst
named n i = record { result = Some (record { 0 = n }); what = i.what }

abbrev to_block : ℕ → BlockId
to_block n = record { 0 = n }

abbrev code_block : List ℕ → List Phi → List Inst → Term → Block
code_block n phis insts t = record { name = name.Text n; phis = phis; insts = insts; term = t }

abbrev declares : List ℕ → Ty → ℕ → List Ty → List Attr → Function
declares f ret n params attrs = record { name = name.Text f; ret = ret; params = n; locals = parameters 0 params; attrs = attrs; blocks = None }

abbrev first_flags : List Flag
first_flags = flag_of 1 (codes "qir_major_version") 32 1 ∷ flag_of 7 (codes "qir_minor_version") 32 0 ∷ flag_of 1 (codes "dynamic_qubit_management") 1 0 ∷ flag_of 1 (codes "dynamic_result_management") 1 0 ∷ []

abbrev zero_code : Operand
zero_code = operand.Const (int W64 0)

abbrev returns_zero : Term
returns_zero = term.Ret (ty.Int W64) zero_code

abbrev label_r : Constant
label_r = record { name = name.Number 0; bytes = codes "r" }

-- Base: one own qubit; an allocation is measured between two gates, of which one is irreversible
abbrev base_part : Part
base_part = record {
  params = [];
  lines = line.Made 0 ∷ items (
      item.Operation (codes "__quantum__qis__h__body") (alloc 0 ∷ [])
      ∷ item.Operation (codes "__quantum__qis__mz__body") (alloc 0 ∷ measured 0 ∷ [])
      ∷ item.Output class.ResRecord (measured 0 ∷ label 0 ∷ [])
      ∷ []);
  tail = tail.Return (Known (int W64 0));
}

abbrev base_residue : Residue
base_residue = record {
  globals = label_r ∷ [];
  entry = name.Text (codes "main");
  attrs = attr (codes "required_num_qubits") (Some (codes "1")) ∷ attr (codes "output_labeling_schema") (Some (codes "labeled")) ∷ attr (codes "entry_point") None ∷ attr (codes "extra") None ∷ [];
  irreversible = codes "__quantum__qis__mz__body" ∷ [];
  own_qubits = 1;
  own_results = 0;
  all_qubits = 2;
  all_results = 1;
  parts = base_part ∷ [];
}

abbrev base_module : Module
base_module = record {
  globals = label_r ∷ [];
  funcs =
      record {
        name = name.Text (codes "main");
        ret = ty.Int W64;
        params = 0;
        locals = [];
        attrs = attr (codes "entry_point") None ∷ attr (codes "qir_profiles") (Some (codes "base_profile")) ∷ attr (codes "output_labeling_schema") (Some (codes "labeled")) ∷ attr (codes "required_num_qubits") (Some (codes "2")) ∷ attr (codes "required_num_results") (Some (codes "1")) ∷ attr (codes "extra") None ∷ [];
        blocks = Some (
            code_block (codes "entry") [] (call ty.Void 1 (const ty.Text value.NoLabel ∷ []) ∷ []) (term.Br (to_block 1))
            ∷ code_block (codes "body") [] (call ty.Void 2 (const ty.Qubit (value.Id 1) ∷ []) ∷ []) (term.Br (to_block 2))
            ∷ code_block (codes "measurements") [] (call ty.Void 3 (const ty.Qubit (value.Id 1) ∷ const ty.Res (value.Id 0) ∷ []) ∷ []) (term.Br (to_block 3))
            ∷ code_block (codes "output") [] (call ty.Void 4 (const ty.Res (value.Id 0) ∷ const ty.Text (value.Label (record { 0 = 0 })) ∷ []) ∷ []) returns_zero
            ∷ []);
      }
      ∷ declares (codes "__quantum__rt__initialize") ty.Void 1 (ty.Text ∷ []) []
      ∷ declares (codes "__quantum__qis__h__body") ty.Void 1 (ty.Qubit ∷ []) []
      ∷ declares (codes "__quantum__qis__mz__body") ty.Void 2 (ty.Qubit ∷ ty.Res ∷ []) (attr (codes "irreversible") None ∷ [])
      ∷ declares (codes "__quantum__rt__result_record_output") ty.Void 2 (ty.Res ∷ ty.Text ∷ []) []
      ∷ [];
  flags = first_flags;
}

base_prints : printed base_residue target.Base ≡ base_module
unfolding digits
base_prints = refl

base_valid : Valid base_residue target.Base
unfolding class_of
base_valid = record { start = refl; jumps = refl; cases = refl; scopes = refl; allowed = refl; types = refl; operations = refl; outputs = refl; constants = refl; names = refl; calls = refl; labels = refl; numbers = refl; permits = refl; phases = refl }

-- Adaptive: a result is compared with one, a branch on it, and a phi where the two ways meet; both exits share a part
abbrev on_ints : Target
on_ints = target.Adaptive (record { ints = true; switch = false; returns = false; loops = false })

abbrev first_part : Part
first_part = record {
  params = [];
  lines = items (item.Operation (codes "__quantum__qis__mz__body") (alloc 0 ∷ measured 0 ∷ []) ∷ item.Equal (dyn 7) (value.Measured 0) value.One ∷ []) ++ line.Freed 0 ∷ [];
  tail = tail.Branch (dynamic 7) (to 1 []) (to 2 (Known (int W64 5) ∷ []));
}

abbrev second_part : Part
second_part = record {
  params = [];
  lines = items (item.Read (dyn 4) (value.Id 0) ∷ item.Convert (dyn 3) conv.ZExt W1 (dynamic 4) W64 ∷ []);
  tail = tail.Jump (to 2 (dynamic 3 ∷ []));
}

abbrev third_part : Part
third_part = record {
  params = (dyn 9, W64) ∷ [];
  lines = items (item.Output class.IntRecord ((ty.Int W64, dynamic 9) ∷ no_label ∷ []) ∷ []);
  tail = tail.Return (Known (int W64 0));
}

abbrev adaptive_residue : Residue
adaptive_residue = record {
  globals = [];
  entry = name.Text (codes "main");
  attrs = attr (codes "entry_point") None ∷ [];
  irreversible = codes "__quantum__qis__mz__body" ∷ [];
  own_qubits = 0;
  own_results = 1;
  all_qubits = 1;
  all_results = 2;
  parts = first_part ∷ second_part ∷ third_part ∷ [];
}

abbrev adaptive_module : Module
adaptive_module = record {
  globals = [];
  funcs =
      record {
        name = name.Text (codes "main");
        ret = ty.Int W64;
        params = 0;
        locals =
            (name.Text (codes "v0"), ty.Int W1)
            ∷ (name.Text (codes "v1"), ty.Int W1)
            ∷ (name.Text (codes "v2"), ty.Int W1)
            ∷ (name.Text (codes "v3"), ty.Int W64)
            ∷ (name.Text (codes "v4"), ty.Int W64)
            ∷ [];
        attrs = attr (codes "entry_point") None ∷ attr (codes "qir_profiles") (Some (codes "adaptive_profile")) ∷ attr (codes "output_labeling_schema") None ∷ attr (codes "required_num_qubits") (Some (codes "1")) ∷ attr (codes "required_num_results") (Some (codes "2")) ∷ [];
        blocks = Some (
            code_block (codes "entry") [] (
            call ty.Void 1 (const ty.Text value.NoLabel ∷ [])
            ∷ call ty.Void 2 (const ty.Qubit (value.Id 0) ∷ const ty.Res (value.Id 1) ∷ [])
            ∷ named 0 (call (ty.Int W1) 3 (const ty.Res (value.Id 1) ∷ []))
            ∷ record { result = Some (record { 0 = 1 }); what = kind.Icmp pred.Eq (ty.Int W1) (local 0) (operand.Const (int W1 1)) }
            ∷ []) (term.CondBr (local 1) (to_block 1) (to_block 2))
            ∷ code_block (codes "b1") [] (
            named 2 (call (ty.Int W1) 3 (const ty.Res (value.Id 0) ∷ []))
            ∷ record { result = Some (record { 0 = 3 }); what = kind.Convert conv.ZExt (ty.Int W1) (local 2) (ty.Int W64) }
            ∷ []) (term.Br (to_block 2))
            ∷ code_block (codes "b2") (record { result = record { 0 = 4 }; entries = (operand.Const (int W64 5), to_block 0) ∷ (local 3, to_block 1) ∷ [] } ∷ []) (
            call ty.Void 4 ((ty.Int W64, local 4) ∷ const ty.Text value.NoLabel ∷ [])
            ∷ []) returns_zero
            ∷ []);
      }
      ∷ declares (codes "__quantum__rt__initialize") ty.Void 1 (ty.Text ∷ []) []
      ∷ declares (codes "__quantum__qis__mz__body") ty.Void 2 (ty.Qubit ∷ ty.Res ∷ []) (attr (codes "irreversible") None ∷ [])
      ∷ declares (codes "__quantum__rt__read_result") (ty.Int W1) 1 (ty.Res ∷ []) []
      ∷ declares (codes "__quantum__rt__int_record_output") ty.Void 2 (ty.Int W64 ∷ ty.Text ∷ []) []
      ∷ [];
  flags = first_flags ++ flag_of 1 (codes "int_computations") 1 1 ∷ [];
}

adaptive_prints : printed adaptive_residue on_ints ≡ adaptive_module
unfolding digits
adaptive_prints = refl

adaptive_valid : Valid adaptive_residue on_ints
unfolding class_of
adaptive_valid = record { start = refl; jumps = refl; cases = refl; scopes = refl; allowed = refl; types = refl; operations = refl; outputs = refl; constants = refl; names = refl; calls = refl; labels = refl; numbers = refl; permits = refl; phases = refl }
