use Rattle.ir_names.proofs.SpotsOf.{all_in_order}
use Rattle.ir_names.proofs.laws.places_are_of_spots.Goals as goal

pub returns : goal.returns
returns c = all_in_order
