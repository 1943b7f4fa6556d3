-- A spot that is told has a place: every list of places of a module's spots has one of it.
use Rattle.std.specs.Prelude.{◌≡◌, List, IsSome, map}
use Rattle.ir_module.specs.declared.places.Place.{Place}
use Rattle.ir_module.specs.declared.places.Spot.{Spot}
use Rattle.ir_module.specs.declared.tree.Module.{Module}
use Rattle.ir_module.specs.Places.{place_of}
use Rattle.ir_module.specs.Spots.{spots}

abbrev pub HasPlace : Module → Spot → Type 0
HasPlace m s = (places : List (Spot × Place)) → map (λ p. p.0) places ≡ spots m → IsSome (place_of places s)
