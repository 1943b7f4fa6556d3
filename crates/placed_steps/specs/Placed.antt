-- Where the configurations of a module stand in another module, as far as its behaviour goes by it.
use Rattle.std.specs.Prelude.{◌≡◌, ℕ, ◌+◌, ◌*◌, ◌<◌, ◌≤◌, ⊤, Bool, Some, List, [], ◌++◌, length, map, slice_get}
use Rattle.backend_api.specs.declared.operation.Answer.{Answer}
use Rattle.backend_api.specs.Naming.{Naming}
use Rattle.ir_module.specs.declared.places.Point.{Point}
use Rattle.ir_module.specs.declared.tree.Module.{Module}
use Rattle.ir_module.specs.Entry.{Entry}
use Rattle.ir_values.specs.declared.ids.LocalId.{LocalId}
use Rattle.ir_values.specs.Int.{IntValue}
use Rattle.qir_meaning.specs.code.Steps.{Whole, whole_start}
use Rattle.qir_meaning.specs.Runs.{RunEnd, Returned, end_of, start}
use Rattle.qir_meaning.specs.State.{State}
use Rattle.qir_meaning.specs.code.Simulation.{Alike, EndsBy, GoesBy}
use Rattle.kept_items.specs.declared.item.Choice.{Choice}
use Rattle.kept_items.specs.declared.target.Target.{Target}
use Rattle.kept_items.specs.Items.{Did, Gave, Stopped, Senseless, chosen, coded, did_some, dynamic}
use Rattle.static_steps.specs.declared.config.Config.{Config}
use Rattle.static_steps.specs.declared.turn.Move.{Move}
use Rattle.static_steps.specs.declared.turn.Turn.{Turn}
use Rattle.static_steps.specs.declared.turn.Turn.TheVariants.{Goes, Exits, Bad, Lost}
use Rattle.static_steps.specs.Steps.{start_of, static_step}
use Rattle.static_steps.specs.Works.{dynamics_of}
use Rattle.runs_follow_steps.specs.Meets.{shared}

-- Names are given by N, and l stands still for fewer than W steps of its source. The configurations go by number, each with a rank.
-- `Stands i ds st v`: where the Dynamic names of configuration i have the values ds and the source's run the state st, the run of l
-- is in v at the place of that configuration.
module _ (N : Naming) (l : Module) (W : ℕ) (count : ℕ) (config : ℕ → Config) (rank : ℕ → ℕ)
    (Stands : ℕ → List IntValue → State → Whole → Type 0) where
  -- l goes on to where the move's configuration stands; where it makes no step for that, the rank falls
  pub record GoesTo (i : ℕ) (v : Whole) (mv : Move) (ds : List IntValue) (st : State) : Type 0 where
    pub to : ℕ
    pub inside : to < count
    pub is_to : mv.to ≡ config to
    pub steps : ℕ
    pub few : steps ≤ 4
    pub after : Whole
    pub goes : GoesBy l steps v after
    pub falls : rank to < rank i + steps * W
    pub stands : Stands to (map (dynamic ds) mv.args) st after

  -- the run of l ends so, with the state that the source ends in
  pub record EndsSoon (v : Whole) (e : RunEnd) (st : State) : Type 0 where
    pub steps : ℕ
    pub few : steps < 4
    pub ends : EndsBy N l steps v e st

  -- l does what the item does and goes to the successor that the choice takes, or ends as the item ends the run; the items of an
  -- admitted module's runs have a meaning
  abbrev pub DidPlaced : ℕ → Whole → List Move → Choice → List IntValue → Did → Type 0
  DidPlaced i v moves choice ds (Gave new st) =
      (mv : Move) → slice_get moves (chosen choice (ds ++ new)) ≡ Some mv → GoesTo i v mv (ds ++ new) st
  DidPlaced i v moves choice ds (Stopped stop st) = EndsSoon v (end_of stop) st
  DidPlaced i v moves choice ds Senseless = ⊤

  -- l does from v what this step says of configuration i
  abbrev pub TurnPlaced : ℕ → List IntValue → State → Whole → Turn → Type 0
  TurnPlaced i ds st v (Goes moves item choice) = DidPlaced i v moves choice ds (did_some ds st item)
  TurnPlaced i ds st v (Exits c) = EndsSoon v (Returned (coded ds c)) st
  TurnPlaced i ds st v (Bad why) = ⊥
  TurnPlaced i ds st v Lost = ⊥

  -- from its start l comes to the place of the first configuration
  pub record Comes (e : Entry) (answers : List Answer) : Type 0 where
    pub steps : ℕ
    pub few : steps ≤ 16
    pub after : Whole
    pub goes : GoesBy l steps (whole_start e answers) after
    pub stands : Stands 0 [] (start answers) after

  -- The configurations of m for this target, by the names that are live, all have their places in l: the start is the first one, and
  -- at each place l does what the static step says.
  pub record ArePlaced (m : Module) (t : Target) (live : Point → LocalId → Bool) (e e' : Entry) : Type 0 where
    pub some : 0 < count
    pub first : config 0 ≡ start_of (record { 0 = e.number })
    pub comes : (answers : List Answer) → Comes e' answers
    pub ranks : (i : ℕ) → i < count → rank i < W
    -- at a place both have done the same, and the counters of the source are no matter
    pub alike : (i : ℕ) (ds : List IntValue) (st : State) (v : Whole) → Stands i ds st v → Alike N st v.state
    pub shares : (i : ℕ) (ds : List IntValue) (st st' : State) (v : Whole) → shared st ≡ shared st' → Stands i ds st v → Stands i ds st' v
    pub turns : (i : ℕ) (ds : List IntValue) (st : State) (v : Whole) → i < count → dynamics_of (config i) ≡ length ds
        → Stands i ds st v → TurnPlaced i ds st v (static_step m t live (config i))
