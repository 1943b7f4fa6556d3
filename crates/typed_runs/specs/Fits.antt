-- The invariant of runs of an admitted module: what holds of a whole state at the start and after each instruction.
use Rattle.std.specs.Prelude.{◌≡◌, ◌⊎◌, ℕ, ◌+◌, ◌<◌, ◌≤◌, ⊤, true, Option, None, Some, List, [], ◌∷◌, length, slice_get, IsSome}
use Rattle.std.specs.List.{All}
use Rattle.backend_api.specs.declared.operation.Answer.{Answer}
use Rattle.backend_api.specs.Operations.{qubits_in, qubits_of, results_in, results_of}
use Rattle.ir_values.specs.declared.ids.GlobalId.{GlobalId}
use Rattle.ir_values.specs.declared.int.Width.TheVariants.{W64}
use Rattle.ir_values.specs.declared.ty.Ty.{Ty}
use Rattle.ir_values.specs.declared.ty.Ty.TheVariants as ty
use Rattle.ir_module.specs.declared.places.Point.{Point}
use Rattle.ir_module.specs.declared.tree.Block.{Block}
use Rattle.ir_module.specs.declared.tree.Function.{Function}
use Rattle.ir_module.specs.declared.tree.Module.{Module}
use Rattle.ir_module.specs.Entry.{Entry, entry_of}
use Rattle.ir_module.specs.Tree.{block_at}
use Rattle.output_records.specs.declared.record.Record.{Record}
use Rattle.qir_meaning.specs.Apart.{QubitBelow, ResultBelow, of_end}
use Rattle.qir_meaning.specs.Runs.{RunEnd}
use Rattle.qir_meaning.specs.State.{Env, State}
use Rattle.qir_meaning.specs.code.Steps.{Waiting, Ended, Jam, Whole, Tick, On, Off, tick, whole_start}
use Rattle.type_check.specs.Rules.{result_agrees}
use Rattle.typed_runs.specs.Values.{Bounds, bounds_at, EnvOf}

-- the label of a record is a constant of the module
abbrev pub LabelIn : Module → Option GlobalId → Type 0
LabelIn m None = ⊤
LabelIn m (Some g) = g.0 < length m.globals

abbrev pub LabelsIn : Module → List Record → Type 0
LabelsIn m rs = All (λ (x : Record). LabelIn m x.label) rs

-- what the entry returns
abbrev pub IsCode : Ty → Type 0
IsCode t = (t ≡ ty.Int W64) ⊎ (t ≡ ty.Void)

module _ (m : Module) (b : Bounds) where
  -- a frame at an instruction or a terminator of a function that returns the type, with values of their types
  pub record FrameFits (p : Point) (env : Env) (t : Ty) : Type 0 where
    pub func : Function
    pub is : slice_get m.funcs p.func.0 ≡ Some func
    pub block : Block
    pub here : block_at func p.block ≡ Some block
    pub from : length block.phis ≤ p.index
    pub to : p.index ≤ length block.phis + length block.insts
    pub values : EnvOf m b func.locals env
    pub returns : func.ret ≡ t

  -- a frame of a function that returns t waits for a call that returns u: the name that takes the call's value has that type
  pub record WaitFits (u : Ty) (w : Waiting) (t : Ty) : Type 0 where
    pub fits : FrameFits w.at w.env t
    pub named : result_agrees fits.func w.result u ≡ true

  -- each frame of the stack waits for what the one above it returns, and the lowest is that of the entry
  abbrev pub WaitsFit : Ty → List Waiting → Type 0
  WaitsFit u [] = IsCode u
  WaitsFit u (w ∷ ws) = (t : Ty) × WaitFits u w t × WaitsFit t ws

module _ (m : Module) (k r : ℕ) where
  -- what was done names fixed numbers below the required ones alone, and constants of the module, and what is held was allocated
  pub record StateFits (st : State) : Type 0 where
    pub qubits : All (QubitBelow k) (qubits_in st.events)
    pub results : All (ResultBelow r) (results_in st.events)
    pub labels : LabelsIn m st.records
    pub held : All (λ (j : ℕ). j < st.allocated) st.held

  -- all that a run has between two instructions
  pub record WholeFits (w : Whole) : Type 0 where
    pub returns : Ty
    pub frame : FrameFits m (bounds_at k r w.state) w.at w.env returns
    pub waits : WaitsFit m (bounds_at k r w.state) returns w.waits
    pub state : StateFits w.state

  -- what a run asked for in vain, if it did, names fixed numbers below the required ones alone
  pub record EndFits (e : RunEnd) : Type 0 where
    pub qubits : All (QubitBelow k) (of_end qubits_of e)
    pub results : All (ResultBelow r) (of_end results_of e)

  -- what an instruction leads to: a state that fits, or an end of the run that does; it has a meaning
  abbrev pub TickFits : Tick → Type 0
  TickFits (On w) = WholeFits w
  TickFits (Off (Ended e st)) = StateFits st × EndFits e
  TickFits (Off Jam) = ⊥

  -- whole states fit at the start, and after each instruction
  pub record FitsAlways : Type 0 where
    pub entry : IsSome (entry_of m)
    pub starts : (e : Entry) (answers : List Answer) → entry_of m ≡ Some e → WholeFits (whole_start e answers)
    pub kept : (w : Whole) → WholeFits w → TickFits (tick m w)
