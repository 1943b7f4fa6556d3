-- The last link of a configuration.
use Rattle.std.proofs.Common.{◌≡◌, ℕ, zero, suc, ◌-◌, Some, List, [], ◌∷◌, length, ap, arith}
use Rattle.std.specs.Prelude.{slice_get}
use Rattle.std.proofs.lemmas.Option.{slice_get_within}
use Rattle.kept_items.specs.declared.val.Dyn.{Dyn}
use Rattle.path_search.specs.declared.visit.Link.{Link}
use Rattle.fused_parts.specs.Nodes.{Links}
use Rattle.fused_parts.specs.Parts.{jump_to, last_jump}

module _ (part_of : ℕ → ℕ) (mine : List Dyn) where
  by-place : (links : Links) (k : ℕ) (l : Link (List Dyn)) → suc k ≡ length links → slice_get links k ≡ Some l
      → jump_to part_of mine l ≡ last_jump part_of mine links
  by-place [] k l n e = cc
  by-place (x ∷ []) zero l n e = let s : l ≡ x = cc in ap (jump_to part_of mine) s
  by-place (x ∷ []) (suc k) l n e = cc
  by-place (x ∷ y ∷ links) zero l n e = absurd (omega (arith, n))
  by-place (x ∷ y ∷ links) (suc k) l n e = by-place (y ∷ links) k l (omega (arith, n)) e

  -- the jump along it is that of no case
  pub along-last : (links : Links) (n : ℕ) (l : Link (List Dyn)) → n ≡ length links → slice_get links (n - 1) ≡ Some l
      → jump_to part_of mine l ≡ last_jump part_of mine links
  along-last links n l is e = by-place links (n - 1) l (let lt = slice_get_within links (n - 1) l e in omega (arith, is, lt)) e
