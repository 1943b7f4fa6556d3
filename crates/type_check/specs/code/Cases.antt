-- The cases of a switch one after another, each compared with those before it.
use Rattle.std.specs.Prelude.{ℕ, ◌&&◌, nat_eq, not, Bool, true, List, [], ◌∷◌, ◌++◌}
use Rattle.std.specs.List.{list_any}
use Rattle.ir_values.specs.declared.ids.BlockId.{BlockId}
use Rattle.ir_values.specs.Int.{IntValue}
use Rattle.ir_values.specs.Width.{bits_of}

abbrev pub key : IntValue → ℕ × ℕ
key i = (bits_of i.width, i.bits)

abbrev pub same_key : ℕ × ℕ → ℕ × ℕ → Bool
same_key k j = nat_eq k.0 j.0 && nat_eq k.1 j.1

abbrev pub differ_from : List (ℕ × ℕ) → List (IntValue × BlockId) → Bool
differ_from keys [] = true
differ_from keys (c ∷ cs) = not (list_any (same_key (key c.0)) keys) && differ_from (keys ++ key c.0 ∷ []) cs
