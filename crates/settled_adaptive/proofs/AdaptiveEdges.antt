-- Along the edges of a printed Adaptive residue, to blocks whose phis take Dynamic values.
use Rattle.std.proofs.Common.{◌≡◌, ℕ, suc, ◌+◌, ◌<◌, ◌≤◌, Bool, true, false, None, Some, List, [], ◌∷◌, length, refl, sym, ap, ◌∙◌, arith}
use Rattle.std.specs.Prelude.{◌||◌, ◌==◌}
use Rattle.ir_module.specs.declared.tree.Phi.{Phi}
use Rattle.ir_values.specs.declared.ids.BlockId.{BlockId}
use Rattle.ir_values.specs.declared.ids.LocalId.{LocalId}
use Rattle.ir_values.specs.declared.int.Width.{Width}
use Rattle.kept_items.specs.declared.val.Dyn.{Dyn}
use Rattle.kept_items.specs.declared.val.Val.{Val}
use Rattle.kept_items.specs.declared.val.Val.TheVariants.{Dynamic}
use Rattle.qir_meaning.specs.Moves.{entry_for, given}
use Rattle.residue.specs.declared.parts.Jump.{Jump}
use Rattle.residue.specs.Instructions.{Words, local, operand_of}
use Rattle.residue.specs.Printed.{argument, entries, print_phis}
use Rattle.static_steps.specs.Edges.{phis_bring}
use Rattle.static_steps.specs.Values.{Names, put, put_some, shape, val_of}
use Rattle.runs_follow_steps.proofs.Flows.{IsNone}
use Rattle.printed_residue.proofs.Looks.{same-itself, same-numbers}
use Rattle.settled_adaptive.proofs.Names.{kept_names, put-kept, shape-put}

module _ (ws : Words) (edges : List (ℕ × Jump)) (c : BlockId) (j : Jump) (old : Names Val) (N : ℕ)
    (entry : (i : ℕ) → entry_for (entries ws i edges) c ≡ Some (operand_of ws (argument i j))) where
  -- what the phis bring: these are Dynamic, and what was so before
  pub record Brought (phis : List Phi) (f : LocalId → Bool) (new : Names Val) : Type 0 where
    pub names : Names Val
    pub kept : LocalId → Bool
    pub is : phis_bring phis c old new ≡ Some names
    pub shape_is : shape names ≡ kept_names kept 0 N
    pub covers : (y : LocalId) → (IsNone phis y → f y ≡ true) → kept y ≡ true

  pub phis-bring : (params : List (Dyn × Width)) (n i : ℕ) (f : LocalId → Bool) (new : Names Val) → shape new ≡ kept_names f 0 N → n + length params ≤ N
      → ((k : ℕ) → k < length params → (e : Dyn) × (val_of old (operand_of ws (argument (i + k) j)) ≡ Some (Dynamic e))) → Brought (print_phis ws edges n i params) f new
  phis-bring [] n i f new h le v = record { names = new; kept = f; is = refl; shape_is = h; covers = λ y k. k tt }
  phis-bring (x ∷ params) n i f new h le v =
      let here = v 0 (omega arith) in
      let i-is : i + 0 ≡ i = omega arith in
      let is-here : val_of old (operand_of ws (argument i j)) ≡ Some (Dynamic here.0) = ap (λ m. val_of old (operand_of ws (argument m j))) (sym i-is) ∙ here.1 in
      let f1 : LocalId → Bool = λ y. f y || (y.0 == n) in
      let new1 : Names Val = put_some (local n) (Some (Dynamic here.0)) new in
      let h1 : shape new1 ≡ kept_names f1 0 N = shape-put (local n) (Dynamic here.0) new ∙ ap (put (local n) None) h ∙ put-kept f n 0 N (omega arith) (omega (arith, le)) in
      let ih = phis-bring params (suc n) (suc i) f1 new1 h1 (omega (arith, le)) (λ k lt. let g = v (suc k) (omega (arith, lt)) in (g.0, ap (λ m. val_of old (operand_of ws (argument m j))) (let z : suc i + k ≡ i + suc k = omega arith in z) ∙ g.1)) in record {
        names = ih.names;
        kept = ih.kept;
        is =
            ap (λ o. given o (λ a. phis_bring (print_phis ws edges (suc n) (suc i) params) c old (put_some (local n) (val_of old a) new))) (entry i)
            ∙ ap (λ o. phis_bring (print_phis ws edges (suc n) (suc i) params) c old (put_some (local n) o new)) is-here
            ∙ ih.is;
        shape_is = ih.shape_is;
        covers = λ y k. ih.covers y (λ none. by y (n == y.0) refl (λ e. k (e, none)));
      }
    where
      or-true : (b : Bool) → (b || true) ≡ true
      or-true true = refl
      or-true false = refl

      by : (y : LocalId) (b : Bool) → (n == y.0) ≡ b → ((n == y.0) ≡ false → f y ≡ true) → (f y || (y.0 == n)) ≡ true
      by y true e k = ap (λ z. f y || z) (ap (λ m. m == n) (sym (same-numbers n y.0 e)) ∙ same-itself n) ∙ or-true (f y)
      by y false e k = ap (λ z. z || (y.0 == n)) (k e)
