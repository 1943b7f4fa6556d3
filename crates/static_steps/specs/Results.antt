-- Allocations, results that are constants or are read, and their comparison (QIR specification, 'Runtime Functions').
use Rattle.std.specs.Prelude.{ℕ, ◌+◌, ◌==◌, not, Bool, true, false, if◌then◌else◌, Option, None, Some, List, [], ◌∷◌, ◌++◌, filter}
use Rattle.std.specs.List.{list_any}
use Rattle.ir_values.specs.declared.cause.Cause.TheVariants as cause
use Rattle.ir_values.specs.declared.ids.LocalId.{LocalId}
use Rattle.ir_values.specs.declared.value.Value.{Value}
use Rattle.ir_values.specs.declared.value.Value.TheVariants as value
use Rattle.qir_meaning.specs.Effects.{same_bit}
use Rattle.kept_items.specs.declared.item.Item.{Item}
use Rattle.kept_items.specs.declared.item.Item.TheVariants.{Read, Equal}
use Rattle.kept_items.specs.declared.target.Kind.TheVariants as kind
use Rattle.kept_items.specs.declared.val.Val.{Val}
use Rattle.kept_items.specs.declared.val.Val.TheVariants.{Known, Dynamic}
use Rattle.kept_items.specs.Items.{bit_int}
use Rattle.kept_items.specs.Targets.{is_base}
use Rattle.static_steps.specs.declared.turn.Turn.{Turn}
use Rattle.static_steps.specs.declared.turn.Turn.TheVariants.{Bad, Lost}
use Rattle.static_steps.specs.Settings.{Setting, bound, gives_dynamic, gives_known, goes, passed}

abbrev pub held_in : List ℕ → ℕ → Bool
held_in held j = list_any (λ i. i == j) held

abbrev pub without : List ℕ → ℕ → List ℕ
without held j = filter (λ i. not (i == j)) held

-- the bit of a constant result
abbrev pub const_bit : Value → Option Bool
const_bit value.One = Some true
const_bit value.Zero = Some false
const_bit other = None

-- whether two constant results are equal
abbrev pub both_bits : Option Bool → Option Bool → Option Bool
both_bits (Some a) (Some b) = Some (same_bit a b)
both_bits a b = None

module _ (s : Setting) where
  -- a release: only an allocation can be released, and only while it is held
  abbrev pub releases_known : Value → Turn
  releases_known (value.Id i) = Bad (kind.Traps cause.BadRelease)
  releases_known (value.Alloc j) =
      if held_in s.w.held j then goes s (record (passed s) { held = without s.w.held j }) else Bad (kind.Traps cause.Released)
  releases_known v = Lost

  abbrev pub releases : Val → Turn
  releases (Known v) = releases_known v
  releases (Dynamic d) = Lost

  abbrev pub release_turn : List Val → Turn
  release_turn (a ∷ []) = releases a
  release_turn vs = Lost

  module _ (x : Option LocalId) where
    -- the next allocation, which is held
    abbrev pub alloc_turn : Turn
    alloc_turn =
        goes s (record (bound s x (Known (value.Alloc s.w.allocated))) {
          allocated = s.w.allocated + 1;
          held = s.w.held ++ s.w.allocated ∷ [];
        })

    -- the bits of constant results are known; others are read, which the Base Profile forbids
    abbrev pub by_const : Option Bool → Item → Turn
    by_const (Some b) item = gives_known s x (value.Int (bit_int b))
    by_const None item = if is_base s.t then Bad kind.Forbidden else gives_dynamic s x item

    abbrev pub reads : Val → Turn
    reads (Known v) = by_const (const_bit v) (Read s.fresh v)
    reads (Dynamic d) = Lost

    abbrev pub read_turn : List Val → Turn
    read_turn (a ∷ []) = reads a
    read_turn vs = Lost

    abbrev pub equals : Val → Val → Turn
    equals (Known v) (Known u) = by_const (both_bits (const_bit v) (const_bit u)) (Equal s.fresh v u)
    equals a b = Lost

    abbrev pub equal_turn : List Val → Turn
    equal_turn (a ∷ b ∷ []) = equals a b
    equal_turn vs = Lost
