-- Branches and switches, and the phis on their edges (LLVM Language Reference, 'br Instruction', 'switch Instruction', 'phi
-- Instruction').
use Rattle.std.specs.Prelude.{◌&&◌, ◌||◌, if◌then◌else◌, Option, None, Some, List, [], ◌∷◌, length}
use Rattle.ir_module.specs.declared.tree.Block.{Block}
use Rattle.ir_module.specs.declared.tree.Phi.{Phi}
use Rattle.ir_values.specs.declared.ids.BlockId.{BlockId}
use Rattle.ir_values.specs.declared.int.Width.{Width}
use Rattle.ir_values.specs.declared.value.Value.{Value}
use Rattle.ir_values.specs.declared.value.Value.TheVariants as value
use Rattle.ir_values.specs.Int.{IntValue}
use Rattle.qir_meaning.specs.Effects.{is_one}
use Rattle.qir_meaning.specs.Moves.{block_in, entry_for, given, target_of}
use Rattle.kept_items.specs.declared.item.Choice.{Choice}
use Rattle.kept_items.specs.declared.item.Choice.TheVariants.{One, Branch, Switch}
use Rattle.kept_items.specs.declared.target.Kind.TheVariants as kind
use Rattle.kept_items.specs.declared.val.Dyn.{Dyn}
use Rattle.kept_items.specs.declared.val.Val.{Val}
use Rattle.kept_items.specs.declared.val.Val.TheVariants.{Known, Dynamic}
use Rattle.kept_items.specs.Targets.{has_ints, has_switch}
use Rattle.static_steps.specs.declared.turn.Move.{Move}
use Rattle.static_steps.specs.declared.turn.Turn.{Turn}
use Rattle.static_steps.specs.declared.turn.Turn.TheVariants.{Goes, Bad, Lost}
use Rattle.ir_values.specs.Values.{is_bit}
use Rattle.static_steps.specs.Settings.{Setting, at_point, here, move_to}
use Rattle.static_steps.specs.Values.{Names, put_some, val_of}

-- the phis take their values together, from those before the edge; an operand without a value leaves none
abbrev pub phis_bring : List Phi → BlockId → Names Val → Names Val → Option (Names Val)
phis_bring [] from old new = Some new
phis_bring (phi ∷ phis) from old new =
    given (entry_for phi.entries from) (λ a. phis_bring phis from old (put_some phi.result (val_of old a) new))

-- the blocks of a switch in the order of its edges, and the integers of its cases
abbrev pub targets : List (IntValue × BlockId) → BlockId → List BlockId
targets [] b = b ∷ []
targets (c ∷ cs) b = c.1 ∷ targets cs b

abbrev pub case_values : List (IntValue × BlockId) → List IntValue
case_values [] = []
case_values (c ∷ cs) = c.0 ∷ case_values cs

module _ (s : Setting) where
  -- along the edge to a block
  abbrev pub arrived : BlockId → Block → Option (Names Val) → Option Move
  arrived b to None = None
  arrived b to (Some ns) =
      Some (move_to s.live (at_point s (record { func = (here s).func; block = b; index = length to.phis }) ns))

  abbrev pub along_to : BlockId → Option Block → Option Move
  along_to b None = None
  along_to b (Some to) = arrived b to (phis_bring to.phis (here s).block s.w.top.names s.w.top.names)

  abbrev pub along : BlockId → Option Move
  along b = along_to b (block_in s.m (here s).func b)

  abbrev pub all_along : List BlockId → Option (List Move)
  all_along [] = Some []
  all_along (b ∷ bs) = given (along b) (λ mv. given (all_along bs) (λ mvs. Some (mv ∷ mvs)))

  abbrev pub edges_turn : Option (List Move) → Choice → Turn
  edges_turn None c = Lost
  edges_turn (Some mvs) c = Goes mvs None c

  -- to these blocks
  abbrev pub edges_to : List BlockId → Choice → Turn
  edges_to bs c = edges_turn (all_along bs) c

  abbrev pub branch_known : Value → BlockId → BlockId → Turn
  branch_known (value.Int i) b c = edges_to ((if is_one i then b else c) ∷ []) One
  branch_known v b c = Lost

  abbrev pub branch_turn : Val → BlockId → BlockId → Turn
  branch_turn (Known v) b c = branch_known v b c
  branch_turn (Dynamic d) b c = edges_to (b ∷ c ∷ []) (Branch d)

  abbrev pub switch_known : Value → BlockId → List (IntValue × BlockId) → Turn
  switch_known (value.Int i) b cases = edges_to (target_of i cases b ∷ []) One
  switch_known v b cases = Lost

  -- a switch on more than a bit also computes with integers
  abbrev pub switch_dynamic : Width → Dyn → BlockId → List (IntValue × BlockId) → Turn
  switch_dynamic wd d b cases =
      if has_switch s.t && (is_bit wd || has_ints s.t)
      then edges_to (targets cases b) (Switch d wd (case_values cases))
      else Bad kind.Capability

  abbrev pub switch_turn : Width → Val → BlockId → List (IntValue × BlockId) → Turn
  switch_turn wd (Known v) b cases = switch_known v b cases
  switch_turn wd (Dynamic d) b cases = switch_dynamic wd d b cases
