-- Which calls a block takes, by the class of what is called.
use Rattle.std.specs.Prelude.{ℕ, zero, suc, Bool, true, not, ◌&&◌, ◌||◌, Option}
use Rattle.ir_values.specs.declared.class.Class.{Class}
use Rattle.profile_rules.specs.Calls.{passes, is_init, is_gate, is_measure, is_record}

abbrev pub fits_class : ℕ → Option Class → Bool → Bool
fits_class zero class irreversible = true
fits_class (suc zero) class irreversible = passes class is_init
fits_class (suc (suc zero)) class irreversible = passes class is_gate && not irreversible
fits_class (suc (suc (suc zero))) class irreversible = (passes class is_gate && irreversible) || passes class is_measure
fits_class (suc (suc (suc (suc n)))) class irreversible = passes class is_record
