-- Some functions of each kind, by their names and types.
use Rattle.std.proofs.Common.{◌≡◌, refl, [], ◌∷◌}
use Rattle.std.specs.Prelude.{None, Some, codes}
use Rattle.ir_values.specs.declared.int.Width.TheVariants.{W64}
use Rattle.ir_values.specs.declared.sig.TyWord.TheVariants as word
use Rattle.ir_values.specs.declared.class.Class.TheVariants as class
use Rattle.ir_values.specs.Calls.{class_of, gives, rt, qis}

initialize : class_of (rt (codes "initialize")) (gives word.Void (word.Text ∷ [])) ≡ Some class.Init
unfolding class_of
initialize = refl

h : class_of (codes "__quantum__qis__h__body") (gives word.Void (word.Qubit ∷ [])) ≡ Some class.Gate
unfolding class_of
h = refl

phase : class_of (codes "__quantum__qis__phase__body") (gives word.Void (word.Int W64 ∷ word.Qubit ∷ [])) ≡ Some class.Gate
unfolding class_of
phase = refl

other_measurement : class_of (codes "__quantum__qis__mx__body") (gives word.Void (word.Res ∷ word.Qubit ∷ [])) ≡ Some class.Measure
unfolding class_of
other_measurement = refl

known_name_with_other_types : class_of (qis (codes "mz__body")) (gives word.Void (word.Qubit ∷ [])) ≡ None
unfolding class_of
known_name_with_other_types = refl

two_results : class_of (qis (codes "mzz__body")) (gives word.Void (word.Res ∷ word.Res ∷ [])) ≡ None
unfolding class_of
two_results = refl

no_parameters : class_of (qis []) (gives word.Void []) ≡ Some class.Gate
unfolding class_of
no_parameters = refl

other_runtime_name : class_of (rt (codes "fail")) (gives word.Void (word.Text ∷ [])) ≡ None
unfolding class_of
other_runtime_name = refl
