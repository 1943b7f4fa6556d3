-- Allocations, releases, and results that are read or compared.
use Rattle.std.proofs.Common.{◌≡◌, ◌+◌, Bool, true, Option, None, Some, List, [], ◌∷◌, ◌++◌, refl}
use Rattle.std.specs.List.{list_all}
use Rattle.ir_values.specs.declared.cause.Cause.TheVariants as cause
use Rattle.ir_values.specs.declared.ids.LocalId.{LocalId}
use Rattle.ir_values.specs.declared.value.Value.{Value}
use Rattle.ir_values.specs.declared.value.Value.TheVariants as value
use Rattle.kept_items.specs.declared.item.Item.{Item}
use Rattle.kept_items.specs.declared.item.Item.TheVariants as item
use Rattle.kept_items.specs.declared.target.Kind.TheVariants as kind
use Rattle.kept_items.specs.declared.val.Val.{Val}
use Rattle.kept_items.specs.declared.val.Val.TheVariants.{Known, Dynamic}
use Rattle.kept_items.specs.Items.{bit_int}
use Rattle.kept_items.specs.Targets.{is_base}
use Rattle.static_steps.specs.declared.turn.Turn.TheVariants.{Bad}
use Rattle.static_steps.specs.Results.{alloc_turn, both_bits, by_const, const_bit, equal_turn, held_in, read_turn, release_turn, releases_known, without}
use Rattle.static_steps.specs.Settings.{Setting, bound, gives_dynamic, goes, passed}
use Rattle.printable_values.specs.Values.{val_prints}
use Rattle.printable_steps.specs.Turns.{item_prints, turn_prints}
use Rattle.printable_steps.proofs.Integers.{bit-prints}
use Rattle.printable_steps.proofs.Names.{work_prints}
use Rattle.printable_steps.proofs.Turns.{bound-prints, dynamic-prints, either-prints, goes-prints, known-prints}

module _ (s : Setting) (now : work_prints s.w ≡ true) where
  releases-known : (v : Value) → turn_prints (releases_known s v) ≡ true
  releases-known (value.Alloc j) =
      either-prints (held_in s.w.held j) (goes s (record (passed s) { held = without s.w.held j })) (Bad (kind.Traps cause.Released))
      (goes-prints s (record (passed s) { held = without s.w.held j }) now) refl
  releases-known v = refl

  pub release-turn : (vs : List Val) → turn_prints (release_turn s vs) ≡ true
  release-turn [] = refl
  release-turn (Known v ∷ []) = releases-known v
  release-turn (Dynamic d ∷ []) = refl
  release-turn (a ∷ b ∷ vs) = refl

  module _ (x : Option LocalId) where
    pub alloc-turn : turn_prints (alloc_turn s x) ≡ true
    alloc-turn = goes-prints s (record (bound s x (Known (value.Alloc s.w.allocated))) { allocated = s.w.allocated + 1; held = s.w.held ++ s.w.allocated ∷ [] }) (bound-prints s now x (Known (value.Alloc s.w.allocated)) refl)

    const-prints : (o : Option Bool) (i : Item) → item_prints i ≡ true → turn_prints (by_const s x o i) ≡ true
    const-prints (Some b) i h = known-prints s now x (value.Int (bit_int b)) (bit-prints b)
    const-prints None i h = either-prints (is_base s.t) (Bad kind.Forbidden) (gives_dynamic s x i) refl (dynamic-prints s now x i h)

    pub read-turn : (vs : List Val) → list_all val_prints vs ≡ true → turn_prints (read_turn s x vs) ≡ true
    read-turn [] h = refl
    read-turn (Known v ∷ []) h = const-prints (const_bit v) (item.Read s.fresh v) h
    read-turn (Dynamic d ∷ []) h = refl
    read-turn (a ∷ b ∷ vs) h = refl

    pub equal-turn : (vs : List Val) → list_all val_prints vs ≡ true → turn_prints (equal_turn s x vs) ≡ true
    equal-turn [] h = refl
    equal-turn (a ∷ []) h = refl
    equal-turn (Known v ∷ Known u ∷ []) h = const-prints (both_bits (const_bit v) (const_bit u)) (item.Equal s.fresh v u) h
    equal-turn (Known v ∷ Dynamic d ∷ []) h = refl
    equal-turn (Dynamic d ∷ Known u ∷ []) h = refl
    equal-turn (Dynamic d ∷ Dynamic e ∷ []) h = refl
    equal-turn (a ∷ b ∷ c ∷ vs) h = refl
