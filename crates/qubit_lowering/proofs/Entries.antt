-- The entry of a module that was checked.
use Rattle.std.proofs.Common.{◌≡◌, ℕ, ◌<◌, Some, None, List, length, refl, sym, ap, ◌∙◌}
use Rattle.std.specs.Prelude.{Option, slice_get}
use Rattle.std.specs.Option.{option_map}
use Rattle.std.proofs.lemmas.Option.{slice_get_within}
use Rattle.admission.specs.Admitted.{CheckedModule, IsEntryOf, greatest_required}
use Rattle.fused_parts.specs.Nodes.{Node}
use Rattle.ir_module.specs.declared.tree.Function.{Function}
use Rattle.ir_module.specs.declared.tree.Module.{Module}
use Rattle.ir_module.specs.Entry.{Entry, entry_of}
use Rattle.ir_values.specs.declared.ids.FuncId.{FuncId}
use Rattle.kept_items.specs.declared.target.Target.{Target}
use Rattle.lowered_program.specs.code.Made.{made_of}
use Rattle.qubit_lowering.specs.Sources.{IsResidueOf}
use Rattle.residue.specs.declared.parts.Residue.{Residue}
use Rattle.type_check.specs.Required.{required_qubits, required_results}

-- there is one, the function of its number
record IsThere (m : Module) (g : FuncId) : Type 0 where
  entry : Entry
  is : entry_of m ≡ Some entry
  function : slice_get m.funcs g.0 ≡ Some entry.function

entry-there : (m : Module) (g : FuncId) → IsEntryOf m g → IsThere m g
entry-there m g h = by-entry (entry_of m) refl h.number h.function
  where
    by-entry : (o : Option Entry) → entry_of m ≡ o → option_map (λ e. e.number) o ≡ Some g.0 → slice_get m.funcs g.0 ≡ option_map (λ e. e.function) o
        → IsThere m g
    by-entry None e n f = absurd (none-some n)
      where
        none-some : {A : Type 0} {x : A} → None ≡ Some x → ⊥
        none-some q = cc
    by-entry (Some x) e n f = record { entry = x; is = e; function = f }

pub entry_within : (m : Module) (g : FuncId) → IsEntryOf m g → g.0 < length m.funcs
entry_within m g h = let t = entry-there m g h in slice_get_within m.funcs g.0 t.entry.function t.function

-- what is made of the module and its entry is the lowered program
pub residue_is : (c : CheckedModule) (t : Target) (nodes : List Node) (m : Module) (g : FuncId) (f : Function) (qubits results : ℕ) (r : Residue)
    → IsEntryOf c.tree g → m ≡ c.tree → slice_get m.funcs g.0 ≡ Some f
    → qubits ≡ required_qubits c.tree greatest_required → results ≡ required_results c.tree greatest_required
    → r ≡ made_of m t qubits results f nodes
    → IsResidueOf c t nodes r
residue_is c t nodes m g f qubits results r h tree at q k made =
    let e = entry-there c.tree g h in
    let same : f ≡ e.entry.function = same-some f e.entry.function (sym at ∙ ap (λ z. slice_get z.funcs g.0) tree ∙ e.function) in
    record {
      entry = e.entry;
      is_entry = e.is;
      residue = made ∙ ap (λ z. made_of z t qubits results f nodes) tree ∙ ap (λ z. made_of c.tree t z results f nodes) q
          ∙ ap (λ z. made_of c.tree t (required_qubits c.tree greatest_required) z f nodes) k
          ∙ ap (λ z. made_of c.tree t (required_qubits c.tree greatest_required) (required_results c.tree greatest_required) z nodes) same;
    }
  where
    same-some : (a b : Function) → Some a ≡ Some b → a ≡ b
    same-some a b e = cc
