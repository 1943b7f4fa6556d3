-- Which operations a static step issues, and the phase behind it (QIR specification, 'Base Profile', 'Quantum Instruction Set').
use Rattle.std.specs.Prelude.{◌≡◌, ℕ, ⊤, if◌then◌else◌, Bool, Option, None, Some, List, [], ◌∷◌, codes, slice_get}
use Rattle.ir_module.specs.declared.tree.Function.{Function}
use Rattle.ir_module.specs.declared.tree.Module.{Module}
use Rattle.ir_module.specs.Classes.{class_of_function, type_words}
use Rattle.ir_values.specs.declared.class.Class.{Class}
use Rattle.ir_values.specs.declared.class.Class.TheVariants as class
use Rattle.ir_values.specs.declared.ty.Ty.{Ty}
use Rattle.ir_values.specs.declared.ty.Ty.TheVariants as ty
use Rattle.ir_values.specs.Calls.{qis}
use Rattle.ir_values.specs.Names.{name_text}
use Rattle.ir_values.specs.Types.{signature}
use Rattle.kept_items.specs.declared.item.Item.{Item}
use Rattle.kept_items.specs.declared.item.Item.TheVariants as item
use Rattle.kept_items.specs.declared.target.Target.{Target}
use Rattle.kept_items.specs.Targets.{is_base}
use Rattle.static_steps.specs.declared.phase.Phase.{Phase}
use Rattle.static_steps.specs.declared.phase.Phase.TheVariants as phase
use Rattle.static_steps.specs.declared.turn.Move.{Move}
use Rattle.static_steps.specs.declared.turn.Turn.{Turn}
use Rattle.static_steps.specs.declared.turn.Turn.TheVariants.{Goes, Exits, Bad, Lost}
use Rattle.static_steps.specs.Operations.{after_irreversible, after_reversible, is_irreversible}
use Rattle.valid_steps.specs.Items.{types_of}

-- What calls of a function of a class issue, by name and types: a gate and a measurement themselves, and a measurement that returns its
-- result is issued as `mz` into one. Calls of other functions issue nothing.
abbrev pub Issues : Function → Class → List ℕ → List Ty → Type 0
Issues f class.Gate name us = (name ≡ name_text f.name) × (type_words f ≡ signature ty.Void us)
Issues f class.Measure name us = (name ≡ name_text f.name) × (type_words f ≡ signature ty.Void us)
Issues f class.Returning name us = (name ≡ qis (codes "mz__body")) × (us ≡ ty.Qubit ∷ ty.Res ∷ [])
Issues f c name us = ⊥

-- a function of the module issues the operation, which can be undone or not
pub record IsIssued (m : Module) (name : List ℕ) (types : List Ty) (irreversible : Bool) : Type 0 where
  pub number : ℕ
  pub function : Function
  pub there : slice_get m.funcs number ≡ Some function
  pub class : Class
  pub classed : class_of_function function ≡ Some class
  pub issues : Issues function class name types
  pub undone : irreversible ≡ is_irreversible function class

-- only the Base Profile has an order
abbrev pub phase_behind : Target → Phase → Bool → Option Phase
phase_behind t before irreversible =
    if is_base t then (if irreversible then after_irreversible before else after_reversible before) else Some before

-- an item, or none, between these phases
abbrev pub IsBetween : Module → Target → Phase → Option Item → Phase → Type 0
IsBetween m t before None after = after ≡ before
IsBetween m t before (Some (item.Operation name args)) after =
    (irreversible : Bool) × IsIssued m name (types_of args) irreversible × (phase_behind t before irreversible ≡ Some after)
IsBetween m t before (Some (item.Output c args)) after = after ≡ (if is_base t then phase.Output else before)
IsBetween m t before (Some other) after = after ≡ before

-- what is left of a step that goes on from this phase
abbrev pub IsInOrder : Module → Target → Phase → Turn → Type 0
IsInOrder m t before (Goes moves item choice) = (i : ℕ) (mv : Move) → slice_get moves i ≡ Some mv → IsBetween m t before item mv.to.phase
IsInOrder m t before (Exits code) = ⊤
IsInOrder m t before (Bad why) = ⊤
IsInOrder m t before Lost = ⊤
