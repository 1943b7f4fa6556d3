-- The place of a name among names.
use Rattle.std.specs.Prelude.{ℕ, suc, nat_le, ◌==◌, Bool, false, if◌then◌else◌, Option, None, Some, [], ◌∷◌}
use Rattle.ir_values.specs.declared.ids.LocalId.{LocalId}
use Rattle.kept_items.specs.declared.val.Val.{Val}
use Rattle.static_steps.specs.Values.{Names}

-- how many names stand before the first whose number is not below that of x
abbrev pub place : LocalId → Names Val → ℕ
place x [] = 0
place x (e ∷ es) = if nat_le x.0 e.0.0 then 0 else suc (place x es)

abbrev pub stands_at : Option (LocalId × Val) → LocalId → Bool
stands_at None x = false
stands_at (Some e) x = e.0.0 == x.0
