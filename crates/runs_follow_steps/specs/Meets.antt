-- What a run does where this is the static step.
use Rattle.std.specs.Prelude.{◌≡◌, ⊤, Bool, Some, List, [], ◌++◌, map, slice_get}
use Rattle.ir_module.specs.declared.places.Point.{Point}
use Rattle.ir_module.specs.declared.tree.Module.{Module}
use Rattle.ir_values.specs.declared.cause.Cause.{Cause}
use Rattle.ir_values.specs.declared.ids.LocalId.{LocalId}
use Rattle.ir_values.specs.Int.{IntValue}
use Rattle.qir_meaning.specs.Runs.{Returned, Trapped, end_of}
use Rattle.qir_meaning.specs.State.{State}
use Rattle.qir_meaning.specs.code.Steps.{Ended, Jam, Whole, Tick, On, Off}
use Rattle.kept_items.specs.declared.item.Choice.{Choice}
use Rattle.kept_items.specs.declared.target.Kind.{Kind}
use Rattle.kept_items.specs.declared.target.Kind.TheVariants as kind
use Rattle.kept_items.specs.Items.{Did, Gave, Stopped, Senseless, chosen, coded, did_some, dynamic}
use Rattle.static_steps.specs.declared.turn.Move.{Move}
use Rattle.static_steps.specs.declared.turn.Turn.{Turn}
use Rattle.static_steps.specs.declared.turn.Turn.TheVariants.{Goes, Exits, Bad, Lost}
use Rattle.runs_follow_steps.specs.Describes.{Describes}

-- without the counters, which a configuration holds: the answers left, the bits of results, the events and the records
abbrev pub shared : State → State
shared st = record st { allocated = 0; held = []; measured = 0 }

-- the run traps so, or it has no meaning: a value of another type, which no run of an admitted module has
pub data TrapsOrJams (tick : Tick) (why : Cause) (st : State) : Type 0 where
  traps : tick ≡ Off (Ended (Trapped why) st) → TrapsOrJams tick why st
  jams : tick ≡ Off Jam → TrapsOrJams tick why st

-- a refusal that names a cause tells what the run does; the others tell what the target doesn't permit
abbrev pub KindMeets : Tick → State → Kind → Type 0
KindMeets tick st (kind.Traps why) = TrapsOrJams tick why st
KindMeets tick st other = ⊤

module _ (m : Module) (live : Point → LocalId → Bool) where
  -- the run goes on to a state that the move's configuration describes, where its Dynamic names take the values that the move says
  pub record Reached (ds : List IntValue) (mv : Move) (tick : Tick) (st : State) : Type 0 where
    pub whole : Whole
    pub goes : tick ≡ On whole
    pub describes : Describes m live (map (dynamic ds) mv.args) mv.to whole
    pub same : shared whole.state ≡ shared st

  -- the item did this: the move that is chosen by the values then is the one that the run takes, or the run ends so
  abbrev pub DidMeets : Tick → List Move → Choice → List IntValue → Did → Type 0
  DidMeets tick moves choice ds (Gave new st) =
      (mv : Move) × (slice_get moves (chosen choice (ds ++ new)) ≡ Some mv) × Reached (ds ++ new) mv tick st
  DidMeets tick moves choice ds (Stopped stop st) =
      (st' : State) × (tick ≡ Off (Ended (end_of stop) st')) × (shared st' ≡ shared st)
  DidMeets tick moves choice ds Senseless = tick ≡ Off Jam

  -- what the run does by the static step, where ds are the values of the Dynamic names
  abbrev pub TurnMeets : Tick → List IntValue → State → Turn → Type 0
  TurnMeets tick ds st (Goes moves item choice) = DidMeets tick moves choice ds (did_some ds st item)
  TurnMeets tick ds st (Exits c) = tick ≡ Off (Ended (Returned (coded ds c)) st)
  TurnMeets tick ds st (Bad why) = KindMeets tick st why
  TurnMeets tick ds st Lost = ⊤
