-- A name is put at its place.
use Rattle.std.proofs.Common.{◌≡◌, ℕ, ◌==◌, ◌<◌, Bool, true, false, if◌then◌else◌, nat_le, nat_lt, [], ◌∷◌, suc, zero, refl, ap, arith, length, slice_get}
use Rattle.std.specs.Prelude.{slice_set}
use Rattle.std.specs.List.{insert}
use Rattle.std.proofs.lemmas.Bool.Decides.{nat_tests}
use Rattle.ir_values.specs.declared.ids.LocalId.{LocalId}
use Rattle.kept_items.specs.declared.val.Val.{Val}
use Rattle.static_steps.specs.Values.{Names, put}
use Rattle.step_parts.specs.code.Places.{place, stands_at}

module _ (x : LocalId) (a : Val) (e : LocalId × Val) (es : Names Val) where
  found-by-order : (b : Bool) → nat_le x.0 e.0.0 ≡ b
      → (stands_at (slice_get es (place x es)) x ≡ true → slice_set es (place x es) (x, a) ≡ put x a es)
      → stands_at (slice_get (e ∷ es) (if b then 0 else suc (place x es))) x ≡ true
      → slice_set (e ∷ es) (if b then 0 else suc (place x es)) (x, a) ≡ put x a (e ∷ es)
  found-by-order true o ih s = rw s refl
  found-by-order false o ih s =
      let n : (e.0.0 == x.0) ≡ false = grind (arith, nat_tests) in
      let l : nat_lt x.0 e.0.0 ≡ false = grind (arith, nat_tests) in
      rw (n, l) (ap (λ ns. e ∷ ns) (ih s))

  other-by-order : (b : Bool) → nat_le x.0 e.0.0 ≡ b
      → (stands_at (slice_get es (place x es)) x ≡ false → insert es (place x es) (x, a) ≡ put x a es)
      → stands_at (slice_get (e ∷ es) (if b then 0 else suc (place x es))) x ≡ false
      → insert (e ∷ es) (if b then 0 else suc (place x es)) (x, a) ≡ put x a (e ∷ es)
  other-by-order true o ih s =
      let l : nat_lt x.0 e.0.0 ≡ true = grind (arith, nat_tests) in
      rw (s, l) refl
  other-by-order false o ih s =
      let n : (e.0.0 == x.0) ≡ false = grind (arith, nat_tests) in
      let l : nat_lt x.0 e.0.0 ≡ false = grind (arith, nat_tests) in
      rw (n, l) (ap (λ ns. e ∷ ns) (ih s))

pub put_found : (x : LocalId) (a : Val) (ns : Names Val) → stands_at (slice_get ns (place x ns)) x ≡ true → slice_set ns (place x ns) (x, a) ≡ put x a ns
put_found x a [] h = cc
put_found x a (e ∷ es) h = found-by-order x a e es (nat_le x.0 e.0.0) refl (λ s. put_found x a es s) h

pub put_other : (x : LocalId) (a : Val) (ns : Names Val) → stands_at (slice_get ns (place x ns)) x ≡ false → insert ns (place x ns) (x, a) ≡ put x a ns
put_other x a [] h = refl
put_other x a (e ∷ es) h = other-by-order x a e es (nat_le x.0 e.0.0) refl (λ s. put_other x a es s) h

pub stands_within : (x : LocalId) (ns : Names Val) (i : ℕ) → stands_at (slice_get ns i) x ≡ true → i < length ns
stands_within x [] i h = cc
stands_within x (e ∷ es) zero h = omega arith
stands_within x (e ∷ es) (suc i) h = omega (arith, stands_within x es i h)
