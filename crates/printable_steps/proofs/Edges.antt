-- Branches and switches, and the phis on their edges.
use Rattle.std.proofs.Common.{◌≡◌, Bool, true, false, ◌&&◌, Option, None, Some, List, [], ◌∷◌, length, refl}
use Rattle.std.proofs.lemmas.Bool.{and_from, and_parts}
use Rattle.std.specs.List.{list_all}
use Rattle.std.specs.Prelude.{◌==◌, ◌||◌, if◌then◌else◌}
use Rattle.ir_module.specs.declared.tree.Block.{Block}
use Rattle.ir_module.specs.declared.tree.Operand.{Operand}
use Rattle.ir_module.specs.declared.tree.Phi.{Phi}
use Rattle.ir_module.specs.Printable.{IsPrintable}
use Rattle.ir_values.specs.declared.ids.BlockId.{BlockId}
use Rattle.ir_values.specs.declared.int.Width.{Width}
use Rattle.ir_values.specs.declared.value.Value.{Value}
use Rattle.ir_values.specs.declared.value.Value.TheVariants as value
use Rattle.ir_values.specs.Int.{IntValue}
use Rattle.ir_values.specs.Values.{is_bit}
use Rattle.qir_meaning.specs.Effects.{is_one}
use Rattle.qir_meaning.specs.Moves.{block_in, entry_for, given, target_of}
use Rattle.kept_items.specs.declared.item.Choice.{Choice}
use Rattle.kept_items.specs.declared.item.Choice.TheVariants.{One, Branch, Switch}
use Rattle.kept_items.specs.declared.target.Kind.TheVariants as kind
use Rattle.kept_items.specs.declared.val.Val.{Val}
use Rattle.kept_items.specs.declared.val.Val.TheVariants.{Known, Dynamic}
use Rattle.kept_items.specs.Targets.{has_ints, has_switch}
use Rattle.static_steps.specs.declared.turn.Move.{Move}
use Rattle.static_steps.specs.declared.turn.Turn.TheVariants.{Bad}
use Rattle.static_steps.specs.Edges.{all_along, along, along_to, arrived, branch_known, branch_turn, case_values, edges_to, edges_turn, phis_bring, switch_known, switch_turn, targets}
use Rattle.static_steps.specs.Settings.{Setting, at_point, here}
use Rattle.static_steps.specs.Values.{Names, put_some, val_of}
use Rattle.printable_steps.specs.Turns.{choice_prints, config_prints, turn_prints}
use Rattle.printable_steps.proofs.Names.{move-prints, names_print, operand_prints, put-some-passes, val-prints, work_prints}
use Rattle.printable_steps.proofs.Sources.{block-prints, cases_print, phi_prints, some_block_prints}
use Rattle.printable_steps.proofs.Turns.{at-prints, either-prints, top-prints}
use Rattle.printable_values.specs.Values.{val_prints}

-- ---- phis

abbrev some_operand_prints : Option Operand → Bool
some_operand_prints None = true
some_operand_prints (Some a) = operand_prints a

entry-prints : (es : List (Operand × BlockId)) (b : BlockId) → list_all (λ (e : Operand × BlockId). operand_prints e.0) es ≡ true → some_operand_prints (entry_for es b) ≡ true
entry-prints [] b h = refl
entry-prints (e ∷ es) b h =
    let p = and_parts (operand_prints e.0) (list_all (λ (e : Operand × BlockId). operand_prints e.0) es) h in by (e.1.0 == b.0) p.0 (entry-prints es b p.1)
  where
    by : (c : Bool) → operand_prints e.0 ≡ true → some_operand_prints (entry_for es b) ≡ true → some_operand_prints (if c then Some e.0 else entry_for es b) ≡ true
    by true i k = i
    by false i k = k

abbrev some_names_print : Option (Names Val) → Bool
some_names_print None = true
some_names_print (Some ns) = names_print ns

-- a chain of optional answers, each of which goes on with what can be printed
given-prints : (o : Option Operand) (go : Operand → Option (Names Val)) → some_operand_prints o ≡ true → ((a : Operand) → operand_prints a ≡ true → some_names_print (go a) ≡ true) → some_names_print (given o go) ≡ true
given-prints None go h more = refl
given-prints (Some a) go h more = more a h

phis-print : (phis : List Phi) (from : BlockId) (old new : Names Val) → list_all phi_prints phis ≡ true → names_print old ≡ true → names_print new ≡ true → some_names_print (phis_bring phis from old new) ≡ true
phis-print [] from old new h o n = n
phis-print (phi ∷ phis) from old new h o n =
    let p = and_parts (phi_prints phi) (list_all phi_prints phis) h in
    given-prints (entry_for phi.entries from) (λ a. phis_bring phis from old (put_some phi.result (val_of old a) new)) (entry-prints phi.entries from p.0) (λ a q.
    phis-print phis from old (put_some phi.result (val_of old a) new) p.1 o (put-some-passes val_prints phi.result (val_of old a) new (val-prints old a o q) n))

-- ---- edges

abbrev some_move_prints : Option Move → Bool
some_move_prints None = true
some_move_prints (Some mv) = config_prints mv.to

abbrev moves_print : List Move → Bool
moves_print mvs = list_all (λ (mv : Move). config_prints mv.to) mvs

abbrev some_moves_print : Option (List Move) → Bool
some_moves_print None = true
some_moves_print (Some mvs) = moves_print mvs

module _ (s : Setting) (printable : IsPrintable s.m) (now : work_prints s.w ≡ true) where
  arrived-prints : (b : BlockId) (to : Block) (o : Option (Names Val)) → some_names_print o ≡ true → some_move_prints (arrived s b to o) ≡ true
  arrived-prints b to None h = refl
  arrived-prints b to (Some ns) h =
      move-prints s.live (at_point s (record { func = (here s).func; block = b; index = length to.phis }) ns) (at-prints s now (record { func = (here s).func; block = b; index = length to.phis }) ns h)

  along-to : (b : BlockId) (o : Option Block) → some_block_prints s.m printable o ≡ true → some_move_prints (along_to s b o) ≡ true
  along-to b None h = refl
  along-to b (Some to) h = arrived-prints b to (phis_bring to.phis (here s).block s.w.top.names s.w.top.names) (phis-print to.phis (here s).block s.w.top.names s.w.top.names h (top-prints s now) (top-prints s now))

  along-prints : (b : BlockId) → some_move_prints (along s b) ≡ true
  along-prints b = along-to b (block_in s.m (here s).func b) (block-prints s.m printable (here s).func b)

  all-along : (bs : List BlockId) → some_moves_print (all_along s bs) ≡ true
  all-along [] = refl
  all-along (b ∷ bs) = by (along s b) (all_along s bs) (along-prints b) (all-along bs)
    where
      by : (o : Option Move) (q : Option (List Move)) → some_move_prints o ≡ true → some_moves_print q ≡ true → some_moves_print (given o (λ mv. given q (λ mvs. Some (mv ∷ mvs)))) ≡ true
      by None q h g = refl
      by (Some mv) None h g = refl
      by (Some mv) (Some mvs) h g = and_from (config_prints mv.to) (moves_print mvs) h g

  pub edges-print : (bs : List BlockId) (c : Choice) → choice_prints c ≡ true → turn_prints (edges_to s bs c) ≡ true
  edges-print bs c h = by (all_along s bs) (all-along bs)
    where
      by : (o : Option (List Move)) → some_moves_print o ≡ true → turn_prints (edges_turn s o c) ≡ true
      by None g = refl
      by (Some mvs) g = and_from (moves_print mvs) (choice_prints c) g h

  branch-known : (v : Value) (b c : BlockId) → turn_prints (branch_known s v b c) ≡ true
  branch-known (value.Int i) b c = edges-print ((if is_one i then b else c) ∷ []) One refl
  branch-known v b c = refl

  pub branch-turn : (v : Val) (b c : BlockId) → turn_prints (branch_turn s v b c) ≡ true
  branch-turn (Known v) b c = branch-known v b c
  branch-turn (Dynamic d) b c = edges-print (b ∷ c ∷ []) (Branch d) refl

  switch-known : (v : Value) (b : BlockId) (cases : List (IntValue × BlockId)) → turn_prints (switch_known s v b cases) ≡ true
  switch-known (value.Int i) b cases = edges-print (target_of i cases b ∷ []) One refl
  switch-known v b cases = refl

  pub switch-turn : (w : Width) (v : Val) (b : BlockId) (cases : List (IntValue × BlockId)) → cases_print cases ≡ true → turn_prints (switch_turn s w v b cases) ≡ true
  switch-turn w (Known v) b cases h = switch-known v b cases
  switch-turn w (Dynamic d) b cases h =
      either-prints (has_switch s.t && (is_bit w || has_ints s.t)) (edges_to s (targets cases b) (Switch d w (case_values cases))) (Bad kind.Capability)
      (edges-print (targets cases b) (Switch d w (case_values cases)) h) refl
