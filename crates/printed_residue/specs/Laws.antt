-- What a run of the printed module does, for every residue that is valid and whose handles are below the required numbers.
use Rattle.std.specs.Prelude.{◌≡◌, ◌⊎◌, ℕ, suc, ◌<◌, ◌≤◌, ⊤, true, Some, List, [], ◌∷◌, length, slice_get}
use Rattle.backend_api.specs.declared.operation.Answer.{Answer}
use Rattle.ir_module.specs.declared.tree.Module.{Module}
use Rattle.ir_module.specs.Entry.{Entry, entry_of}
use Rattle.ir_values.specs.declared.int.Width.{Width}
use Rattle.ir_values.specs.declared.value.Value.TheVariants as value
use Rattle.ir_values.specs.Int.{IntValue}
use Rattle.qir_meaning.specs.Naming.{named_end}
use Rattle.qir_meaning.specs.Runs.{end_of, start}
use Rattle.qir_meaning.specs.State.{State}
use Rattle.qir_meaning.specs.code.Simulation.{GoesBy}
use Rattle.qir_meaning.specs.code.Steps.{Ended, returned, Off, On, Whole, tick, whole_start}
use Rattle.kept_items.specs.declared.item.Item.{Item}
use Rattle.kept_items.specs.declared.target.Caps.{Caps}
use Rattle.kept_items.specs.declared.target.Target.{Target}
use Rattle.kept_items.specs.declared.target.Target.TheVariants.{Adaptive, Base}
use Rattle.kept_items.specs.declared.val.Dyn.{Dyn}
use Rattle.kept_items.specs.declared.val.Val.{Val}
use Rattle.kept_items.specs.Items.{Did, Gave, Senseless, Stopped, did, valued}
use Rattle.residue.specs.declared.parts.Jump.{Jump}
use Rattle.residue.specs.declared.parts.Line.TheVariants as line
use Rattle.residue.specs.declared.parts.Part.{Part}
use Rattle.residue.specs.declared.parts.Residue.{Residue}
use Rattle.residue.specs.declared.parts.Tail.TheVariants as tail
use Rattle.residue.specs.Instructions.{named_value}
use Rattle.residue.specs.Printed.{argument, printed, words}
use Rattle.residue.specs.Scopes.{item_gives}
use Rattle.residue.specs.Valid.{Valid, handles_below}
use Rattle.printed_residue.specs.Places.{AtBase, AtLine, Keeps, Takes, lowered_state, naming, scope_at, taken, ticks, value_of_number}

-- a residue as these laws speak of it
pub record IsGood (r : Residue) (t : Target) : Type 0 where
  pub valid : Valid r t
  pub below : handles_below r ≡ true

module _ (r : Residue) (l : Module) where
  -- the run is over
  abbrev pub EndsAfter : ℕ → Whole → Did → Type 0
  EndsAfter n v (Stopped stop st) =
      (i : ℕ)
      × (i < n)
      × (before : Whole)
      × GoesBy l i v before
      × (tick l before ≡ Off (Ended (named_end (naming r) (end_of stop)) (lowered_state (naming r) st)))
  EndsAfter n v d = ⊤

  -- what a run does at a line that holds an item, by what the item does on the values ds: it stands at the next line, whatever list
  -- keeps the values in scope and has the one that is given; or the run ends so
  abbrev pub ItemDoes : ℕ → Part → ℕ → Item → List IntValue → Whole → Did → Type 0
  ItemDoes n p q x ds v (Gave new st) =
      (ds' : List IntValue)
      → Keeps (scope_at p q) ds ds'
      → Takes (item_gives x) new ds'
      → (v' : Whole) × GoesBy l (ticks x) v v' × AtLine r n p (suc q) ds' st v'
  ItemDoes n p q x ds v (Stopped stop st) = EndsAfter (ticks x) v (Stopped stop st)
  ItemDoes n p q x ds v Senseless = ⊤

-- ---- Adaptive

-- a run at an item does what the item does
abbrev pub ItemsRun : Type 0
ItemsRun =
    (r : Residue) (caps : Caps) (n : ℕ) (p : Part) (q : ℕ) (x : Item) (ds : List IntValue) (st : State) (v : Whole)
    → IsGood r (Adaptive caps)
    → slice_get r.parts n ≡ Some p
    → slice_get p.lines q ≡ Some (line.Item x)
    → AtLine r n p q ds st v
    → ItemDoes r (printed r (Adaptive caps)) n p q x ds v (did ds st x)

-- at a mark it stands at the next line, too
abbrev pub MarksPass : Type 0
MarksPass =
    (r : Residue) (n : ℕ) (p : Part) (q j : ℕ) (ds : List IntValue) (st : State) (v : Whole)
    → (slice_get p.lines q ≡ Some (line.Made j)) ⊎ (slice_get p.lines q ≡ Some (line.Freed j))
    → AtLine r n p q ds st v
    → AtLine r n p (suc q) ds st v

-- the parameters of the part have the values of the jump's arguments
abbrev pub Carries : Jump → Part → List IntValue → List IntValue → Type 0
Carries j p ds ds' =
    (i : ℕ) (d : Dyn × Width) → slice_get p.params i ≡ Some d → valued ds (argument i j) ≡ value.Int (value_of_number ds' d.0.0)

-- at a tail one tick leads along the jump that is taken to the first line of its part
abbrev pub TailsRun : Type 0
TailsRun =
    (r : Residue) (caps : Caps) (n : ℕ) (p : Part) (j : Jump) (ds ds' : List IntValue) (st : State) (v : Whole)
    → IsGood r (Adaptive caps)
    → slice_get r.parts n ≡ Some p
    → AtLine r n p (length p.lines) ds st v
    → taken ds p.tail ≡ Some j
    → (to : Part)
    × (slice_get r.parts j.to ≡ Some to)
    × (Carries j to ds ds' → (v' : Whole) × (tick (printed r (Adaptive caps)) v ≡ On v') × AtLine r j.to to 0 ds' st v')

-- or the run returns the value
abbrev pub ReturnsRun : Type 0
ReturnsRun =
    (r : Residue) (caps : Caps) (n : ℕ) (p : Part) (a : Val) (ds : List IntValue) (st : State) (v : Whole)
    → IsGood r (Adaptive caps)
    → slice_get r.parts n ≡ Some p
    → p.tail ≡ tail.Return a
    → AtLine r n p (length p.lines) ds st v
    → tick (printed r (Adaptive caps)) v
    ≡ Off (returned (Some (named_value (words r) (valued ds a))) (lowered_state (naming r) st))

-- a run begins with one tick, and then stands at the first line of part 0
abbrev pub StartsRun : Type 0
StartsRun =
    (r : Residue) (caps : Caps) (answers : List Answer)
    → IsGood r (Adaptive caps)
    → (e : Entry)
    × (p : Part)
    × (entry_of (printed r (Adaptive caps)) ≡ Some e)
    × (slice_get r.parts 0 ≡ Some p)
    × ((ds : List IntValue)
    → (v : Whole) × (tick (printed r (Adaptive caps)) (whole_start e answers) ≡ On v) × AtLine r 0 p 0 ds (start answers) v)

-- ---- Base: the items of the one part stand in three blocks, so a run may first pass the ends of blocks

module _ (r : Residue) (l : Module) where
  abbrev pub BaseItemDoes : Part → ℕ → Whole → Did → Type 0
  BaseItemDoes p q v (Gave new st) =
      (k : ℕ) × (1 ≤ k) × (k ≤ 4) × (v' : Whole) × GoesBy l k v v' × AtBase r p (suc q) st v'
  BaseItemDoes p q v (Stopped stop st) = EndsAfter r l 4 v (Stopped stop st)
  BaseItemDoes p q v Senseless = ⊤

abbrev pub BaseItemsRun : Type 0
BaseItemsRun =
    (r : Residue) (p : Part) (q : ℕ) (x : Item) (ds : List IntValue) (st : State) (v : Whole)
    → IsGood r Base
    → r.parts ≡ p ∷ []
    → slice_get p.lines q ≡ Some (line.Item x)
    → AtBase r p q st v
    → BaseItemDoes r (printed r Base) p q v (did ds st x)

abbrev pub BaseMarksPass : Type 0
BaseMarksPass =
    (r : Residue) (p : Part) (q j : ℕ) (st : State) (v : Whole)
    → (slice_get p.lines q ≡ Some (line.Made j)) ⊎ (slice_get p.lines q ≡ Some (line.Freed j))
    → AtBase r p q st v
    → AtBase r p (suc q) st v

abbrev pub BaseReturnsRun : Type 0
BaseReturnsRun =
    (r : Residue) (p : Part) (a : Val) (ds : List IntValue) (st : State) (v : Whole)
    → IsGood r Base
    → r.parts ≡ p ∷ []
    → p.tail ≡ tail.Return a
    → AtBase r p (length p.lines) st v
    → (i : ℕ)
    × (i ≤ 3)
    × (before : Whole)
    × GoesBy (printed r Base) i v before
    × (tick (printed r Base) before ≡ Off (returned (Some (named_value (words r) (valued ds a))) (lowered_state (naming r) st)))

abbrev pub BaseStartsRun : Type 0
BaseStartsRun =
    (r : Residue) (answers : List Answer)
    → IsGood r Base
    → (e : Entry)
    × (p : Part)
    × (entry_of (printed r Base) ≡ Some e)
    × (r.parts ≡ p ∷ [])
    × (v : Whole)
    × (tick (printed r Base) (whole_start e answers) ≡ On v)
    × AtBase r p 0 (start answers) v
