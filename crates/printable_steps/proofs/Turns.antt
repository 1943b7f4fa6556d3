-- What a step leads to and leaves, from a state whose known values can be printed.
use Rattle.std.proofs.Common.{◌≡◌, Bool, true, false, ◌&&◌, Option, refl, ap}
use Rattle.std.proofs.lemmas.Bool.{and_from, and_parts}
use Rattle.std.specs.List.{list_all}
use Rattle.std.specs.Prelude.{if◌then◌else◌}
use Rattle.ir_module.specs.declared.places.Point.{Point}
use Rattle.ir_values.specs.declared.ids.LocalId.{LocalId}
use Rattle.ir_values.specs.declared.value.Value.{Value}
use Rattle.kept_items.specs.declared.item.Item.{Item}
use Rattle.kept_items.specs.declared.val.Val.{Val}
use Rattle.kept_items.specs.declared.val.Val.TheVariants.{Known, Dynamic}
use Rattle.static_steps.specs.declared.turn.Turn.{Turn}
use Rattle.static_steps.specs.declared.work.Work.{Work}
use Rattle.static_steps.specs.Settings.{Setting, at_point, bound, gives_dynamic, gives_known, goes, kept, kept_if, move_to}
use Rattle.static_steps.specs.Values.{Names, put_result}
use Rattle.printable_values.specs.Values.{val_prints, value_prints}
use Rattle.printable_steps.specs.Turns.{config_prints, item_prints, turn_prints}
use Rattle.printable_steps.proofs.Names.{move-prints, names_print, put-result-passes, work_frame_prints, work_prints}

pub either-prints : (b : Bool) (x y : Turn) → turn_prints x ≡ true → turn_prints y ≡ true → turn_prints (if b then x else y) ≡ true
either-prints true x y h g = h
either-prints false x y h g = g

module _ (s : Setting) where
  pub goes-prints : (u : Work) → work_prints u ≡ true → turn_prints (goes s u) ≡ true
  goes-prints u h = ap (λ b. (b && true) && true) (move-prints s.live u h)

  pub kept-prints : (i : Item) (u : Work) → item_prints i ≡ true → work_prints u ≡ true → turn_prints (kept s i u) ≡ true
  kept-prints i u g h = and_from (config_prints (move_to s.live u).to && true) (item_prints i && true) (ap (λ b. b && true) (move-prints s.live u h)) (ap (λ b. b && true) g)

  module _ (now : work_prints s.w ≡ true) where
    pub top-prints : names_print s.w.top.names ≡ true
    top-prints = (and_parts (names_print s.w.top.names) (list_all work_frame_prints s.w.below) now).0

    pub below-prints : list_all work_frame_prints s.w.below ≡ true
    below-prints = (and_parts (names_print s.w.top.names) (list_all work_frame_prints s.w.below) now).1

    pub at-prints : (p : Point) (ns : Names Val) → names_print ns ≡ true → work_prints (at_point s p ns) ≡ true
    at-prints p ns h = and_from (names_print ns) (list_all work_frame_prints s.w.below) h below-prints

    pub bound-prints : (x : Option LocalId) (a : Val) → val_prints a ≡ true → work_prints (bound s x a) ≡ true
    bound-prints x a h = and_from (names_print (put_result x a s.w.top.names)) (list_all work_frame_prints s.w.below) (put-result-passes val_prints x a s.w.top.names h top-prints) below-prints

    pub binds-prints : (x : Option LocalId) (a : Val) → val_prints a ≡ true → turn_prints (goes s (bound s x a)) ≡ true
    binds-prints x a h = goes-prints (bound s x a) (bound-prints x a h)

    pub known-prints : (x : Option LocalId) (v : Value) → value_prints v ≡ true → turn_prints (gives_known s x v) ≡ true
    known-prints x v h = binds-prints x (Known v) h

    pub dynamic-prints : (x : Option LocalId) (i : Item) → item_prints i ≡ true → turn_prints (gives_dynamic s x i) ≡ true
    dynamic-prints x i h = kept-prints i (bound s x (Dynamic s.fresh)) h (bound-prints x (Dynamic s.fresh) refl)

    pub kept-if-prints : (x : Option LocalId) (b : Bool) (i : Item) → item_prints i ≡ true → turn_prints (kept_if s x b i) ≡ true
    kept-if-prints x true i h = dynamic-prints x i h
    kept-if-prints x false i h = refl
