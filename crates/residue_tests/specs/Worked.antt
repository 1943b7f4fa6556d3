-- Worked residues: one for Base, one for the Adaptive Profile with integers, and one without capabilities and for each other one.
use Rattle.std.specs.Prelude.{ℕ, Option, None, Some, List, [], ◌∷◌, codes}
use Rattle.ir_module.specs.declared.tree.Constant.{Constant}
use Rattle.ir_values.specs.declared.class.Class.TheVariants as class
use Rattle.ir_values.specs.declared.int.Conv.TheVariants as conv
use Rattle.ir_values.specs.declared.int.Pred.TheVariants as pred
use Rattle.ir_values.specs.declared.int.Width.TheVariants.{W1, W64}
use Rattle.ir_values.specs.declared.name.Name.TheVariants as name
use Rattle.ir_values.specs.declared.ty.Ty.{Ty}
use Rattle.ir_values.specs.declared.ty.Ty.TheVariants as ty
use Rattle.ir_values.specs.declared.value.Value.TheVariants as value
use Rattle.ir_values.specs.Int.{IntValue}
use Rattle.kept_items.specs.declared.item.Item.TheVariants as item
use Rattle.kept_items.specs.declared.val.Dyn.{Dyn}
use Rattle.kept_items.specs.declared.val.Val.{Val}
use Rattle.kept_items.specs.declared.val.Val.TheVariants.{Known, Dynamic}
use Rattle.residue.specs.declared.parts.Jump.{Jump}
use Rattle.residue.specs.declared.parts.Line.{Line}
use Rattle.residue.specs.declared.parts.Line.TheVariants as line
use Rattle.residue.specs.declared.parts.Part.{Part}
use Rattle.residue.specs.declared.parts.Residue.{Residue}
use Rattle.residue.specs.declared.parts.Tail.{Tail}
use Rattle.residue.specs.declared.parts.Tail.TheVariants as tail
use Rattle.residue.specs.Functions.{attr}

abbrev pub dyn : ℕ → Dyn
dyn n = record { 0 = n }

abbrev pub int : ℕ → Val
int n = Known (value.Int (record { width = W64; bits = n }))

abbrev pub bit : IntValue
bit = record { width = W1; bits = 1 }

abbrev pub one : Val
one = Known (value.Int bit)

abbrev pub qubit : ℕ → Ty × Val
qubit j = (ty.Qubit, Known (value.Alloc j))

abbrev pub measured : ℕ → Ty × Val
measured j = (ty.Res, Known (value.Measured j))

abbrev pub jump : ℕ → List Val → Jump
jump n args = record { to = n; args = args }

abbrev pub operation : List ℕ → List (Ty × Val) → Line
operation f args = line.Item (item.Operation f args)

abbrev pub measurement : List ℕ
measurement = codes "__quantum__qis__mz__body"

-- ---- Base: one own qubit; an allocation is measured behind a gate

abbrev pub label : Constant
label = record { name = name.Number 0; bytes = 114 ∷ 0 ∷ [] }

abbrev pub base_lines : List Line
base_lines =
    line.Made 0
    ∷ operation (codes "__quantum__qis__h__body") (qubit 0 ∷ [])
    ∷ operation measurement (qubit 0 ∷ measured 0 ∷ [])
    ∷ line.Item (item.Output class.ResRecord (measured 0 ∷ (ty.Text, Known (value.Label (record { 0 = 0 }))) ∷ []))
    ∷ []

abbrev pub base : Residue
base = record {
  globals = label ∷ [];
  entry = name.Text (codes "main");
  attrs = attr (codes "output_labeling_schema") (Some (codes "labeled")) ∷ attr (codes "entry_point") None ∷ attr (codes "extra") None ∷ [];
  irreversible = measurement ∷ [];
  own_qubits = 1;
  own_results = 0;
  all_qubits = 2;
  all_results = 1;
  parts = (record { params = []; lines = base_lines; tail = tail.Return (int 0) }) ∷ [];
}

-- ---- Adaptive: a result is compared with one, a branch on it, and a phi where the two ways meet

abbrev pub first : Part
first = record {
  params = [];
  lines = operation measurement (qubit 0 ∷ measured 0 ∷ [])
      ∷ line.Item (item.Equal (dyn 7) (value.Measured 0) value.One) ∷ line.Freed 0 ∷ [];
  tail = tail.Branch (Dynamic (dyn 7)) (jump 1 []) (jump 2 (int 5 ∷ []));
}

abbrev pub second : Part
second = record {
  params = [];
  lines = line.Item (item.Read (dyn 4) (value.Id 0)) ∷ line.Item (item.Convert (dyn 3) conv.ZExt W1 (Dynamic (dyn 4)) W64) ∷ [];
  tail = tail.Jump (jump 2 (Dynamic (dyn 3) ∷ []));
}

abbrev pub third : Part
third = record {
  params = (dyn 9, W64) ∷ [];
  lines = line.Item (item.Output class.IntRecord ((ty.Int W64, Dynamic (dyn 9)) ∷ (ty.Text, Known value.NoLabel) ∷ [])) ∷ [];
  tail = tail.Return (int 0);
}

abbrev pub adaptive : Residue
adaptive = record {
  globals = [];
  entry = name.Text (codes "main");
  attrs = attr (codes "entry_point") None ∷ [];
  irreversible = measurement ∷ [];
  own_qubits = 0;
  own_results = 1;
  all_qubits = 1;
  all_results = 2;
  parts = first ∷ second ∷ third ∷ [];
}

-- ---- Adaptive without capabilities, and with each but that of integers: a bit of a result tells where to go

abbrev pub in_list : Option Line → List Line
in_list None = []
in_list (Some l) = l ∷ []

abbrev pub reading : List Line → Tail → Part
reading lines t = record { params = []; lines = line.Item (item.Read (dyn 0) (value.Id 0)) ∷ lines; tail = t }

abbrev pub ending : ℕ → Part
ending code = record { params = []; lines = []; tail = tail.Return (int code) }

abbrev pub flipping : List Val → Part
flipping args = record {
  params = [];
  lines = operation (codes "__quantum__qis__x__body") ((ty.Qubit, Known (value.Id 0)) ∷ []) ∷ [];
  tail = tail.Jump (jump 2 args);
}

abbrev pub recording : Part
recording = record {
  params = (dyn 2, W1) ∷ [];
  lines = line.Item (item.Output class.BoolRecord ((ty.Int W1, Dynamic (dyn 2)) ∷ (ty.Text, Known value.NoLabel) ∷ [])) ∷ [];
  tail = tail.Return (int 0);
}

abbrev pub branching : Part
branching = reading [] (tail.Branch (Dynamic (dyn 0)) (jump 1 []) (jump 2 []))

abbrev pub made_of : List Part → Residue
made_of parts = record {
  globals = [];
  entry = name.Text (codes "main");
  attrs = [];
  irreversible = [];
  own_qubits = 1;
  own_results = 1;
  all_qubits = 1;
  all_results = 1;
  parts = parts;
}

-- a computation on bits, a branch, and a phi of a bit where the two ways meet
abbrev pub plain : Residue
plain = made_of
    (reading (line.Item (item.Icmp (dyn 1) pred.Ne W1 (Dynamic (dyn 0)) one) ∷ [])
    (tail.Branch (Dynamic (dyn 1)) (jump 1 []) (jump 2 (Dynamic (dyn 0) ∷ [])))
    ∷ flipping (one ∷ [])
    ∷ recording
    ∷ [])

-- a switch by a bit
abbrev pub switching : Residue
switching = made_of
    (reading [] (tail.Switch W1 (Dynamic (dyn 0)) (jump 2 []) ((bit, jump 1 []) ∷ []))
    ∷ flipping []
    ∷ ending 0
    ∷ [])

-- two codes
abbrev pub returning : Residue
returning = made_of (branching ∷ ending 3 ∷ ending 0 ∷ [])

-- a part that leads back to itself
abbrev pub looping : Residue
looping = made_of
    ((record { params = []; lines = []; tail = tail.Jump (jump 1 []) })
    ∷ branching
    ∷ ending 0
    ∷ [])
