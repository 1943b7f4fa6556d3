-- A module in which the configurations of another have their places behaves as that one does.
use Rattle.std.proofs.Common.{◌≡◌, ℕ, ◌<◌, Bool, true, Some, List, [], ◌++◌, map, refl, sym, ap, ◌∙◌, subst}
use Rattle.backend_api.specs.declared.operation.Answer.{Answer}
use Rattle.backend_api.specs.Naming.{Naming, named_events}
use Rattle.ir_module.specs.declared.places.Point.{Point}
use Rattle.ir_module.specs.declared.tree.Module.{Module}
use Rattle.ir_module.specs.Entry.{Entry, entry_of}
use Rattle.ir_module.specs.Numbered.{numbers_in_range}
use Rattle.ir_values.specs.declared.ids.LocalId.{LocalId}
use Rattle.ir_values.specs.Int.{IntValue}
use Rattle.qir_meaning.specs.Runs.{RunEnd, Returned, end_of}
use Rattle.qir_meaning.specs.Same.{SameBehaviour}
use Rattle.qir_meaning.specs.State.{State}
use Rattle.qir_meaning.specs.code.Simulation.{Alike, EndsBy, Meets, Simulation}
use Rattle.qir_meaning.specs.code.Steps.{Ended, Off, Tick, Whole, tick, whole_start}
use Rattle.qir_meaning.proofs.Bridge.{Enters, IsInvariant, IsKept, Leads, relation-keeps-behaviour, relation-simulates}
use Rattle.kept_items.specs.declared.item.Choice.{Choice}
use Rattle.kept_items.specs.declared.target.Target.{Target}
use Rattle.kept_items.specs.Items.{Did, Gave, Stopped, Senseless, coded, did_some, dynamic}
use Rattle.static_steps.specs.declared.config.Config.{Config}
use Rattle.static_steps.specs.declared.turn.Move.{Move}
use Rattle.static_steps.specs.declared.turn.Turn.{Turn}
use Rattle.static_steps.specs.declared.turn.Turn.TheVariants.{Goes, Exits, Bad, Lost}
use Rattle.static_steps.specs.Steps.{static_step}
use Rattle.runs_follow_steps.specs.Describes.{Describes, TellsLive}
use Rattle.runs_follow_steps.specs.Meets.{DidMeets, Reached, TurnMeets, shared}
use Rattle.runs_follow_steps.proofs.Live.{flows}
use Rattle.runs_follow_steps.proofs.Ranges.{phis-in, results-in}
use Rattle.runs_follow_steps.proofs.Starts.{describes-start}
use Rattle.runs_follow_steps.proofs.Steps.{follows}
use Rattle.placed_steps.specs.Placed.{ArePlaced, DidPlaced, EndsSoon, GoesTo, TurnPlaced}

module _ (m l : Module) (t : Target) (live : Point → LocalId → Bool) (ranged : numbers_in_range m ≡ true) (tells : TellsLive m live)
    (N : Naming) (W : ℕ) (count : ℕ) (config : ℕ → Config) (rank : ℕ → ℕ) (Stands : ℕ → List IntValue → State → Whole → Type 0)
    (e e' : Entry) (is_entry : entry_of m ≡ Some e) (is_lowered : entry_of l ≡ Some e')
    (Holds : Whole → Type 0) (Ends : RunEnd → State → Type 0) (invariant : IsInvariant m Holds Ends)
    (placed : ArePlaced N l W count config rank Stands m t live e e') where
  -- the source is where a configuration describes its state, and l at the place of that configuration
  record Pair (r : ℕ) (w v : Whole) : Type 0 where
    number : ℕ
    inside : number < count
    values : List IntValue
    describes : Describes m live values (config number) w
    stands : Stands number values w.state v
    ranked : rank number ≡ r
    holds : Holds w

  alike-shared : (st st' : State) (v : Whole) → shared st ≡ shared st' → Alike N st v.state → Alike N st' v.state
  alike-shared st st' v h a = record {
    events = subst (λ es. named_events N es ≡ v.state.events) (ap (λ s. s.events) h) a.events;
    records = sym (ap (λ s. s.records) h) ∙ a.records;
  }

  ends-shared : (j : ℕ) (v : Whole) (end : RunEnd) (st st' : State) → shared st ≡ shared st' → EndsBy N l j v end st → EndsBy N l j v end st'
  ends-shared j v end st st' h b = record {
    before = b.before;
    goes = b.goes;
    state = b.state;
    ends = b.ends;
    alike = record {
      events = subst (λ es. named_events N es ≡ b.state.events) (ap (λ s. s.events) h) b.alike.events;
      records = sym (ap (λ s. s.records) h) ∙ b.alike.records;
    };
  }

  module _ (i : ℕ) (ds : List IntValue) (v : Whole) where
    -- both go on
    went : (tk : Tick) (mv : Move) (D : List IntValue) (st : State) → Leads Holds Ends tk → Reached m live D mv tk st → GoesTo N l W count config rank Stands i v mv D st
        → Meets N l W Pair (rank i) v tk
    went tk mv D st leads reached goes =
        subst (Meets N l W Pair (rank i) v) (sym reached.goes) (record {
          steps = goes.steps;
          few = goes.few;
          after = goes.after;
          goes = goes.goes;
          rank = rank goes.to;
          falls = goes.falls;
          follows = record {
            number = goes.to;
            inside = goes.inside;
            values = map (dynamic D) mv.args;
            describes = subst (λ g. Describes m live (map (dynamic D) mv.args) g reached.whole) goes.is_to reached.describes;
            stands = placed.shares goes.to (map (dynamic D) mv.args) st reached.whole.state goes.after (sym reached.same) goes.stands;
            ranked = refl;
            holds = subst (Leads Holds Ends) reached.goes leads;
          };
        })

    -- both end
    ended : (tk : Tick) (end : RunEnd) (st st' : State) → tk ≡ Off (Ended end st') → shared st' ≡ shared st → EndsSoon N l W count config rank Stands v end st
        → Meets N l W Pair (rank i) v tk
    ended tk end st st' off same soon =
        subst (Meets N l W Pair (rank i) v) (sym off) (soon.steps, soon.few, ends-shared soon.steps v end st st' (sym same) soon.ends)

    did-meets : (tk : Tick) (moves : List Move) (choice : Choice) (d : Did) → Leads Holds Ends tk → DidMeets m live tk moves choice ds d
        → DidPlaced N l W count config rank Stands i v moves choice ds d → Meets N l W Pair (rank i) v tk
    did-meets tk moves choice (Gave new st) leads (mv, at, reached) goes = went tk mv (ds ++ new) st leads reached (goes mv at)
    did-meets tk moves choice (Stopped stop st) leads (st', off, same) soon = ended tk (end_of stop) st st' off same soon
    did-meets tk moves choice Senseless leads off placed = absurd (subst (Leads Holds Ends) off leads)

    turn-meets : (tk : Tick) (st : State) (turn : Turn) → Leads Holds Ends tk → TurnMeets m live tk ds st turn → TurnPlaced N l W count config rank Stands i ds st v turn
        → Meets N l W Pair (rank i) v tk
    turn-meets tk st (Goes moves item choice) leads h p = did-meets tk moves choice (did_some ds st item) leads h p
    turn-meets tk st (Exits c) leads h p = ended tk (Returned (coded ds c)) st st h refl p
    turn-meets tk st (Bad why) leads h p = absurd p
    turn-meets tk st Lost leads h p = absurd p

  kept : IsKept N m l W Pair
  kept = record {
    alike = λ r w v p. placed.alike p.number p.values w.state v p.stands;
    rank = λ r w v p. subst (λ n. n < W) p.ranked (placed.ranks p.number p.inside);
    meets = λ r w v p.
        subst (λ n. Meets N l W Pair n v (tick m w)) p.ranked
        (turn-meets p.number p.values v (tick m w) w.state (static_step m t live (config p.number))
        (invariant.kept w p.holds)
        (follows m t live (flows m live tells (results-in m ranged) (phis-in m ranged)) (config p.number) p.values w p.describes)
        (placed.turns p.number p.values w.state v p.inside p.describes.count p.stands));
  }

  -- both are one entry
  starts : (answers : List Answer) → Holds (whole_start e answers)
  starts answers = subst (λ x. Holds (whole_start x answers)) (same-entry invariant.entry e (sym invariant.is_entry ∙ is_entry)) (invariant.starts answers)
    where
      same-entry : (x y : Entry) → Some x ≡ Some y → x ≡ y
      same-entry x y h = cc

  enters : (answers : List Answer) → Enters l Pair (whole_start e answers) (whole_start e' answers)
  enters answers =
      let c = placed.comes answers in record {
        steps = c.steps;
        few = c.few;
        after = c.after;
        goes = c.goes;
        rank = rank 0;
        holds = record {
          number = 0;
          inside = placed.some;
          values = [];
          describes = subst (λ g. Describes m live [] g (whole_start e answers)) (sym placed.first) (describes-start m live e answers is_entry);
          stands = c.stands;
          ranked = refl;
          holds = starts answers;
        };
      }

  pub placed-simulates : Simulation m l N W
  placed-simulates = relation-simulates N m l W Pair kept e e' is_entry is_lowered enters

  pub placed-keeps-behaviour : SameBehaviour m l N W
  placed-keeps-behaviour = relation-keeps-behaviour N m l W Pair kept e e' is_entry is_lowered enters
