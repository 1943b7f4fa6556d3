-- The tables tell which blocks and calls lead back.
use Rattle.std.proofs.Common.{◌≡◌, ◌↔◌, inl, inr, ℕ, zero, suc, Bool, true, false, List, [], ◌∷◌, ◌++◌, Some, map, flat_map, slice_get, Contains, refl, sym, ap, ◌∙◌, subst, arith}
use Rattle.std.proofs.lemmas.Grind.{flat_map-append}
use Rattle.std.proofs.lemmas.List.Elements.{Contains-append_left, Contains-append_right}
use Rattle.ir_module.specs.declared.places.Point.{Point}
use Rattle.ir_module.specs.declared.tree.Block.{Block}
use Rattle.ir_module.specs.declared.tree.Function.{Function}
use Rattle.ir_module.specs.declared.tree.Module.{Module}
use Rattle.ir_module.specs.Steps.{Step, step_at, step_of_point, steps_of_block, steps_of}
use Rattle.ir_module.specs.Tree.{blocks_of}
use Rattle.graph_cycles.specs.Cycles.{list_or_none, successors}
use Rattle.profile_rules.specs.Adaptive.{ReturnsFrom, call_graph, number_called}
use Rattle.profile_rules.specs.code.Tables.{AreTables}
use Rattle.profile_rules.proofs.Positions.{stands, step-is, step-here, block-is}
use Rattle.returning_edges.specs.Returns.{AreReturning}
use Rattle.adaptive_profile.specs.code.Graphs.{TellLoops, AreReturningCalls, is_cyclic}
use Rattle.adaptive_profile.specs.code.Pairs.{holds, returns_by}
use Rattle.adaptive_profile.proofs.Loops.{loops}
use Rattle.adaptive_profile.proofs.PairSets.{holds-contains, contains-holds}

-- the set of the edges that lead back
pub of-edges : (m : Module) (edges pairs : List (ℕ × ℕ)) → AreReturning (call_graph m) edges → ((q : ℕ × ℕ) → holds pairs q ≡ holds edges q) → AreReturningCalls m pairs
of-edges m edges pairs r h u g =
    ((λ e. (r u g).0 (holds-contains edges (u, g) (sym (h (u, g)) ∙ e))), (λ c. h (u, g) ∙ contains-holds edges (u, g) ((r u g).1 c)))

-- a step of a function is among its steps
in-steps : (ss : List Step) (i : ℕ) (s : Step) (v : ℕ) → slice_get ss i ≡ Some s → Contains (number_called s) v → Contains (flat_map number_called ss) v
in-steps [] i s v e c = cc
in-steps (t ∷ ss) zero s v e c = let q : t ≡ s = cc in Contains-append_left (number_called t) (flat_map number_called ss) v (subst (λ z. Contains (number_called z) v) (sym q) c)
in-steps (t ∷ ss) (suc i) s v e c = Contains-append_right (number_called t) (flat_map number_called ss) v (in-steps ss i s v e c)

flat-both : (xs ys : List Step) → flat_map number_called (xs ++ ys) ≡ flat_map number_called xs ++ flat_map number_called ys
flat-both xs ys = flat_map-append number_called xs ys

in-blocks : (cs : List Block) (b : ℕ) (c : Block) (v : ℕ) → slice_get cs b ≡ Some c → Contains (flat_map number_called (steps_of_block c)) v → Contains (flat_map number_called (flat_map steps_of_block cs)) v
in-blocks [] b c v e h = cc
in-blocks (d ∷ cs) zero c v e h =
    let q : d ≡ c = cc in
    subst (λ xs. Contains xs v) (sym (flat-both (steps_of_block d) (flat_map steps_of_block cs)))
    (Contains-append_left (flat_map number_called (steps_of_block d)) (flat_map number_called (flat_map steps_of_block cs)) v (subst (λ z. Contains (flat_map number_called (steps_of_block z)) v) (sym q) h))
in-blocks (d ∷ cs) (suc b) c v e h =
    subst (λ xs. Contains xs v) (sym (flat-both (steps_of_block d) (flat_map steps_of_block cs)))
    (Contains-append_right (flat_map number_called (steps_of_block d)) (flat_map number_called (flat_map steps_of_block cs)) v (in-blocks cs b c v e h))

called-there : (f : Function) (p : Point) (v : ℕ) → Contains (number_called (step_of_point f p)) v → Contains (flat_map number_called (steps_of f)) v
called-there f p v c = elim (stands f p) [ inl n ↦ absurd (let k = subst (λ s. Contains (number_called s) v) n c in let l = k.1 in omega (arith, l)) | inr s ↦ in-blocks (blocks_of f) p.block.0 s.block v s.at (in-steps (steps_of_block s.block) p.index (step_at s.block p.index) v (step-is s.block p.index s.within) (subst (λ t. Contains (number_called t) v) (step-here f p s.block (block-is f p ∙ s.at)) c)) ]

at-graph : (fs : List Function) (u : ℕ) (f : Function) → slice_get fs u ≡ Some f → list_or_none (slice_get (map (λ f. flat_map number_called (steps_of f)) fs) u) ≡ flat_map number_called (steps_of f)
at-graph [] u f e = cc
at-graph (g ∷ fs) zero f e = let q : g ≡ f = cc in ap (λ h. flat_map number_called (steps_of h)) q
at-graph (g ∷ fs) (suc u) f e = at-graph fs u f e

module _ (m : Module) (pairs : List (ℕ × ℕ)) (told : AreReturningCalls m pairs) where
  calls : (p : Point) (f : Function) → slice_get m.funcs p.func.0 ≡ Some f
      → (returns_by pairs p.func.0 (number_called (step_of_point f p)) ≡ true) ↔ ReturnsFrom m p.func.0 (number_called (step_of_point f p))
  calls p f e = at (number_called (step_of_point f p)) (λ v c. called-there f p v c)
    where
      no : false ≡ true → ⊥
      no z = cc

      at : (gs : List ℕ) → ((v : ℕ) → Contains gs v → Contains (flat_map number_called (steps_of f)) v) → (returns_by pairs p.func.0 gs ≡ true) ↔ ReturnsFrom m p.func.0 gs
      at [] h = ((λ z. absurd (no z)), (λ z. absurd z))
      at (g ∷ gs) h =
          let edge : Contains (successors (call_graph m) p.func.0) g = subst (λ xs. Contains xs g) (sym (at-graph m.funcs p.func.0 f e)) (h g (zero, omega arith, refl)) in
          ((λ q. ((told p.func.0 g).0 q).1), (λ r. (told p.func.0 g).1 (edge, r)))

  pub are-tables : (rows : List (List Bool)) → TellLoops m.funcs rows → AreTables m (λ p. is_cyclic rows p) (λ p s. returns_by pairs p.func.0 (number_called s))
  are-tables rows t = record { loops = λ p f e. loops m.funcs rows t p f e; calls = λ p f e. calls p f e }
