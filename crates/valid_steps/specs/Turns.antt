-- What a static step gives that goes by the types of the module.
use Rattle.std.specs.Prelude.{◌≡◌, ℕ, ◌+◌, ◌≤◌, ⊤, Bool, Option, Some, List, ◌++◌, length, slice_get}
use Rattle.std.specs.List.{All}
use Rattle.ir_module.specs.declared.places.Point.{Point}
use Rattle.ir_module.specs.declared.tree.Module.{Module}
use Rattle.ir_values.specs.declared.ids.FuncId.{FuncId}
use Rattle.ir_values.specs.declared.ids.LocalId.{LocalId}
use Rattle.ir_values.specs.declared.ty.Ty.{Ty}
use Rattle.kept_items.specs.declared.item.Choice.{Choice}
use Rattle.kept_items.specs.declared.item.Item.{Item}
use Rattle.kept_items.specs.declared.target.Target.{Target}
use Rattle.static_steps.specs.declared.turn.Move.{Move}
use Rattle.static_steps.specs.declared.turn.Turn.{Turn}
use Rattle.static_steps.specs.declared.turn.Turn.TheVariants.{Goes, Exits, Bad, Lost}
use Rattle.static_steps.specs.Configurations.{IsConfiguration, bounds}
use Rattle.static_steps.specs.Steps.{start_of}
use Rattle.static_steps.specs.Works.{dynamics_of}
use Rattle.valid_steps.specs.Items.{IsChoice, IsCode, IsSomeItem, gives_some}
use Rattle.valid_steps.specs.Types.{Fill, dynamic_types}

-- two moves to one configuration bring the same Dynamic values
abbrev pub AgreeOnArguments : List Move → Type 0
AgreeOnArguments moves =
    (i j : ℕ) (a b : Move) → slice_get moves i ≡ Some a → slice_get moves j ≡ Some b → a.to ≡ b.to → a.args ≡ b.args

-- Of a module for a target, by the names that are live, the number of the entry and the required numbers of qubits and results. The
-- Dynamic names of the configuration have these types, and so many qubits were allocated and results returned.
module _ (m : Module) (t : Target) (live : Point → LocalId → Bool) (entry : FuncId) (qubits results : ℕ) (ts : List (Option Ty))
    (allocated returned : ℕ) where
  pub record IsMove (item : Option Item) (mv : Move) : Type 0 where
    -- it leads to a configuration of the module, which isn't the start
    pub configuration : IsConfiguration m t live entry qubits results mv.to
    pub no_start : ¬ (mv.to ≡ start_of entry)
    -- with at most one allocation and one returned result more
    pub allocated_more : mv.to.allocated ≤ allocated + 1
    pub returned_more : mv.to.returned ≤ returned + 1
    -- it brings a value of its type for each Dynamic name there: one of before, or the item's own
    pub arguments : Fill (ts ++ gives_some item) mv.args (dynamic_types m mv.to)
    pub number : length mv.args ≡ dynamics_of mv.to
    -- the item names handles of the configuration after it
    pub item_fits : IsSomeItem m t (bounds qubits results mv.to) ts mv.to.held item

  pub record GoesOn (moves : List Move) (item : Option Item) (choice : Choice) : Type 0 where
    pub moves_fit : All (IsMove item) moves
    pub choice_fits : IsChoice t ts (length moves) choice
    pub agree : AgreeOnArguments moves

  -- it is never Lost
  abbrev pub IsTurn : Turn → Type 0
  IsTurn (Goes moves item choice) = GoesOn moves item choice
  IsTurn (Exits c) = IsCode t ts c
  IsTurn (Bad why) = ⊤
  IsTurn Lost = ⊥
