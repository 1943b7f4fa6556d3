-- Lists that grow.
use Rattle.std.proofs.Common.{◌≡◌, List, [], ◌∷◌, ◌++◌, Option, None, Some, refl, sym, append_assoc}
use Rattle.std.specs.List.{filter_map, cons_option}

grown : {X : Type 0} (out xs : List X) (o : Option X) → out ++ cons_option o xs ≡ (out ++ cons_option o []) ++ xs
grown out xs None = simp append_assoc
grown out xs (Some y) = simp append_assoc

pub one_more : {X Y : Type 0} (h : X → Option Y) (out : List Y) (x : X) (xs : List X) → out ++ filter_map h (x ∷ xs) ≡ (out ++ cons_option (h x) []) ++ filter_map h xs
one_more h out x xs = grown out (filter_map h xs) (h x)
