-- The entry, and where evaluation starts.
use Rattle.std.proofs.Common.{◌≡◌, ℕ, Bool, Some, [], slice_get, refl, sym, ◌∙◌, subst}
use Rattle.ir_module.specs.declared.places.Point.{Point}
use Rattle.ir_module.specs.declared.tree.Function.{Function}
use Rattle.ir_module.specs.declared.tree.Module.{Module}
use Rattle.ir_module.specs.Entry.{Entry, entry_of}
use Rattle.ir_values.specs.declared.ids.LocalId.{LocalId}
use Rattle.kept_items.specs.declared.target.Target.{Target}
use Rattle.kept_items.specs.declared.target.Target.TheVariants.{Base, Adaptive}
use Rattle.qir_meaning.specs.Moves.{first_point}
use Rattle.static_steps.specs.declared.phase.Phase.TheVariants as phase
use Rattle.static_steps.specs.Configurations.{IsConfiguration, IsPhaseOf}
use Rattle.static_steps.specs.Steps.{start_of}
use Rattle.type_check.specs.Required.{required_qubits, required_results}
use Rattle.typed_runs.specs.Fits.{FitsAlways, IsCode}
use Rattle.valid_steps.specs.Laws.{entry_id}
use Rattle.valid_steps.proofs.Places.{stands-at}

module _ (m : Module) (limit : ℕ) (e : Entry) (is : entry_of m ≡ Some e) (always : FitsAlways m (required_qubits m limit) (required_results m limit)) where
  one : (f g : Function) → slice_get m.funcs e.number ≡ Some f → slice_get m.funcs e.number ≡ Some g → f ≡ g
  one f g h k = let z : Some f ≡ Some g = sym h ∙ k in cc

  -- the entry returns an integer of 64 bits, or nothing
  pub code-type : (f : Function) → slice_get m.funcs e.number ≡ Some f → IsCode f.ret
  code-type f at = let w = always.starts e [] is in subst (λ (g : Function). IsCode g.ret) (one w.frame.func f w.frame.is at) (subst IsCode (sym w.frame.returns) w.waits)

  begins : (t : Target) → IsPhaseOf t phase.Begin
  begins Base = tt
  begins (Adaptive caps) = refl

  pub starts-at : (t : Target) (live : Point → LocalId → Bool) → IsConfiguration m t live (entry_id e) (required_qubits m limit) (required_results m limit) (start_of (entry_id e))
  starts-at t live =
      let w = always.starts e [] is in
      record {
        frames = (
          w.frame.func,
          record {
            in_function = w.frame.is;
            stands = stands-at m (first_point (entry_id e)) w.frame.func w.frame.is (record { block = w.frame.block; is = w.frame.here; from = w.frame.from; to = w.frame.to });
            rises = tt;
            names = tt;
          },
          refl,
        );
        held = tt;
        ordered = tt;
        in_phase = begins t;
      }

pub starts : (m : Module) (limit : ℕ) (t : Target) (live : Point → LocalId → Bool) (e : Entry) → entry_of m ≡ Some e → FitsAlways m (required_qubits m limit) (required_results m limit)
    → IsConfiguration m t live (entry_id e) (required_qubits m limit) (required_results m limit) (start_of (entry_id e))
starts m limit t live e is always = starts-at m limit e is always t live
