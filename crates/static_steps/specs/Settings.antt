-- What a step looks at, and where it leads.
use Rattle.std.specs.Prelude.{Bool, if◌then◌else◌, Option, None, Some, [], ◌∷◌}
use Rattle.ir_module.specs.declared.places.Point.{Point}
use Rattle.ir_module.specs.declared.tree.Module.{Module}
use Rattle.ir_values.specs.declared.ids.LocalId.{LocalId}
use Rattle.ir_values.specs.declared.value.Value.{Value}
use Rattle.qir_meaning.specs.State.{next}
use Rattle.kept_items.specs.declared.item.Choice.TheVariants.{One}
use Rattle.kept_items.specs.declared.item.Item.{Item}
use Rattle.kept_items.specs.declared.target.Kind.TheVariants as kind
use Rattle.kept_items.specs.declared.target.Target.{Target}
use Rattle.kept_items.specs.declared.val.Dyn.{Dyn}
use Rattle.kept_items.specs.declared.val.Val.{Val}
use Rattle.kept_items.specs.declared.val.Val.TheVariants.{Known, Dynamic}
use Rattle.static_steps.specs.declared.turn.Move.{Move}
use Rattle.static_steps.specs.declared.turn.Turn.{Turn}
use Rattle.static_steps.specs.declared.turn.Turn.TheVariants.{Goes, Bad, Lost}
use Rattle.static_steps.specs.declared.work.Work.{Work}
use Rattle.static_steps.specs.Values.{Names, keep, put_result}
use Rattle.static_steps.specs.Works.{packed}

-- the module, the target, the live names of each point, the configuration with its Dynamic names numbered, and the number of the
-- value that the step gives
pub record Setting : Type 0 where
  pub m : Module
  pub t : Target
  pub live : Point → LocalId → Bool
  pub w : Work
  pub fresh : Dyn

-- the top frame keeps the names that are live at its point
abbrev pub settled : (Point → LocalId → Bool) → Work → Work
settled live u = record u { top = record { at = u.top.at; names = keep (live u.top.at) u.top.names } }

abbrev pub move_to : (Point → LocalId → Bool) → Work → Move
move_to live u = packed (settled live u)

-- a call that gives nothing has no name
abbrev pub silent : Option LocalId → Turn → Turn
silent None go = go
silent (Some y) go = Lost

module _ (s : Setting) where
  abbrev pub here : Point
  here = s.w.top.at

  abbrev pub next_here : Point
  next_here = next s.w.top.at

  -- on to one configuration
  abbrev pub goes : Work → Turn
  goes u = Goes (move_to s.live u ∷ []) None One

  -- on to one configuration, leaving an item
  abbrev pub kept : Item → Work → Turn
  kept item u = Goes (move_to s.live u ∷ []) (Some item) One

  abbrev pub at_point : Point → Names Val → Work
  at_point p ns = record s.w { top = record { at = p; names = ns } }

  -- at the next point
  abbrev pub passed : Work
  passed = at_point (next s.w.top.at) s.w.top.names

  -- at the next point, with a result
  abbrev pub bound : Option LocalId → Val → Work
  bound x a = at_point (next s.w.top.at) (put_result x a s.w.top.names)

  -- the result is known
  abbrev pub gives_known : Option LocalId → Value → Turn
  gives_known x v = goes (bound x (Known v))

  -- the instruction is kept, and its result is Dynamic
  abbrev pub gives_dynamic : Option LocalId → Item → Turn
  gives_dynamic x item = kept item (bound x (Dynamic s.fresh))

  -- it is so where the target has the capability
  abbrev pub kept_if : Option LocalId → Bool → Item → Turn
  kept_if x permitted item = if permitted then gives_dynamic x item else Bad kind.Capability
