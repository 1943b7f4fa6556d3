-- What it is that the parts of a lowered program are as long as they can be.
use Rattle.std.specs.Prelude.{◌≡◌, ℕ, Some, List, [], ◌∷◌, length, slice_get}
use Rattle.kept_items.specs.declared.val.Dyn.{Dyn}
use Rattle.path_search.specs.declared.visit.Link.{Link}
use Rattle.residue.specs.declared.parts.Jump.{Jump}
use Rattle.residue.specs.declared.parts.Part.{Part}
use Rattle.residue.specs.declared.parts.Tail.TheVariants as tail
use Rattle.residue.specs.Printed.{edges_to}
use Rattle.fused_parts.specs.Nodes.{Node}

-- A part that a single edge leads to isn't jumped to: it would go on in the part before. An edge is one target of one tail, so a branch
-- with two equal targets has two.
abbrev pub AreFused : List Part → Type 0
AreFused parts =
    (n i : ℕ) (p : Part) (j : Jump)
    → length (edges_to n parts) ≡ 1
    → slice_get parts i ≡ Some p
    → p.tail ≡ tail.Jump j
    → j.to ≡ n
    → ⊥

-- the only edge of configuration i is this one, and no other configuration has an edge to where it leads
pub record IsOnlyWay (nodes : List Node) (i : ℕ) (l : Link (List Dyn)) : Type 0 where
  pub node : Node
  pub is : slice_get nodes i ≡ Some node
  pub only : node.links ≡ l ∷ []
  pub alone : (j q : ℕ) (x : Node) (k : Link (List Dyn)) → slice_get nodes j ≡ Some x → slice_get x.links q ≡ Some k → k.to ≡ l.to
      → j ≡ i
