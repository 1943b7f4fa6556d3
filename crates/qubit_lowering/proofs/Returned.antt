-- One configuration more whose code fits.
use Rattle.std.proofs.Common.{◌≡◌, zero, suc, ◌-◌, ◌≤◌, List, ◌∷◌, length, get_or, take, drop, sym, ap, ◌∙◌, subst}
use Rattle.fused_parts.proofs.Counting.{behind}
use Rattle.fused_parts.specs.Nodes.{Node}
use Rattle.lowered_runs.specs.Made.{CodesFit}
use Rattle.qubit_lowering.specs.Codes.{ReturnsWord}

one-more : (y : Node) (ys : List Node) → ReturnsWord y.item → CodesFit ys → CodesFit (y ∷ ys)
one-more y ys h all zero x z e o = let s : y ≡ x = cc in h z (ap (λ n. n.item) s ∙ o)
one-more y ys h all (suc i) x z e o = all i x z e o

-- the first of those that are left
pub next-fits : (nodes rest : List Node) (y : Node) → 1 ≤ length rest → y ≡ get_or rest 0 y → ReturnsWord y.item
    → (CodesFit rest → CodesFit nodes) → CodesFit (take (length rest - 1) (drop 1 rest)) → CodesFit nodes
next-fits nodes rest y le first h whole all =
    whole (subst CodesFit (sym (behind y rest le first)) (one-more y (take (length rest - 1) (drop 1 rest)) h all))
