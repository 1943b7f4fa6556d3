-- The two rules on walks: no block leads back to itself where no part does, and no call leads back to the entry.
use Rattle.std.proofs.Common.{◌≡◌, ⊎_elim, ℕ, zero, suc, ◌<◌, Bool, true, false, not, Option, None, Some, List, [], ◌∷◌, ◌++◌, map, refl, sym, ap, ◌∙◌, subst, arith, option_map, Contains}
use Rattle.std.proofs.lemmas.List.Elements.{Contains-append_cases}
use Rattle.std.proofs.lemmas.Option.{slice_get-map}
use Rattle.std.specs.Prelude.{◌||◌, flat_map, nat_lt, slice_get}
use Rattle.graph_cycles.specs.Cycles.{Graph, IsOnCycle, IsWalk, Reaches, list_or_none, successors}
use Rattle.ir_module.specs.declared.places.Point.{Point}
use Rattle.ir_module.specs.declared.places.Spot.{Spot}
use Rattle.ir_module.specs.declared.places.Spot.TheVariants as spot
use Rattle.ir_module.specs.declared.tree.Block.{Block}
use Rattle.ir_module.specs.declared.tree.Callee.{Callee}
use Rattle.ir_module.specs.declared.tree.Callee.TheVariants as callee
use Rattle.ir_module.specs.declared.tree.Function.{Function}
use Rattle.ir_module.specs.declared.tree.Module.{Module}
use Rattle.ir_module.specs.Edges.{edges}
use Rattle.ir_module.specs.Steps.{step_in, steps_of}
use Rattle.ir_values.specs.declared.ids.BlockId.{BlockId}
use Rattle.ir_values.specs.Int.{IntValue}
use Rattle.kept_items.specs.declared.target.Caps.{Caps}
use Rattle.kept_items.specs.declared.target.Target.TheVariants.{Adaptive}
use Rattle.profile_rules.specs.Adaptive.{CallsAt, CallsBack, LoopsAt, LoopsBack, ReturnsFrom, backwards_key, block_graph, call_graph, is_on, number_called, number_called_by}
use Rattle.profile_rules.specs.Calls.{Call, call_of, passes}
use Rattle.profile_rules.proofs.Positions.{here, none, there}
use Rattle.residue.specs.declared.parts.Jump.{Jump}
use Rattle.residue.specs.declared.parts.Part.{Part}
use Rattle.residue.specs.declared.parts.Residue.{Residue}
use Rattle.residue.specs.declared.parts.Tail.{Tail}
use Rattle.residue.specs.declared.parts.Tail.TheVariants as tail
use Rattle.residue.specs.Functions.{Called, declaration, declared_of}
use Rattle.residue.specs.Instructions.{Words, block_number, print_tail}
use Rattle.residue.specs.Printed.{print_blocks, print_parts, printed, printed_entry, words}
use Rattle.residue.specs.Scopes.{jumps}
use Rattle.residue.specs.Valid.{Valid}
use Rattle.numbered_residue.proofs.Shared.{less}
use Rattle.profiled_residue.specs.Premises.{FitsProfile, jump_graph}
use Rattle.profiled_residue.proofs.AdaptiveCalls.{calls_entry, entry-not-called}
use Rattle.profiled_residue.proofs.Flags.{backwards-on}
use Rattle.profiled_residue.proofs.Located.{block-of-part, no-block}

-- ---- a graph whose edges are among those of another

module _ (g h : Graph) (among : (u w : ℕ) → Contains (successors g u) w → Contains (successors h u) w) where
  walk-follows : (u : ℕ) (ws : List ℕ) (v : ℕ) → IsWalk g u ws v → IsWalk h u ws v
  walk-follows u [] v e = e
  walk-follows u (w ∷ ws) v p = (among u w p.0, walk-follows w ws v p.1)

  cycle-follows : (u : ℕ) → IsOnCycle g u → IsOnCycle h u
  cycle-follows u c = record {
    first = c.first;
    edge = among u c.first c.edge;
    rest = record { walk = c.rest.walk; is = walk-follows c.first c.rest.walk u c.rest.is };
  }

-- ---- edges of blocks are jumps of parts

abbrev numbers_to : List Jump → List ℕ
numbers_to js = map (λ j. j.to) js

abbrev printed_cases : List (IntValue × Jump) → List (IntValue × BlockId)
printed_cases cases = map (λ c. (c.0, block_number c.1.to)) cases

-- the default of a switch stands last among its edges, and first among its jumps
switch-edges : (cases : List (IntValue × Jump)) (j : Jump) → map (λ (b : BlockId). b.0) (map (λ (c : IntValue × BlockId). c.1) (printed_cases cases) ++ block_number j.to ∷ []) ≡ numbers_to (map (λ (c : IntValue × Jump). c.1) cases) ++ j.to ∷ []
switch-edges [] j = refl
switch-edges (c ∷ cases) j = ap (λ l. c.1.to ∷ l) (switch-edges cases j)

last-first : (x w : ℕ) (xs : List ℕ) → Contains (xs ++ x ∷ []) w → Contains (x ∷ xs) w
last-first x w xs h =
    ⊎_elim (λ k. there x w xs k) (λ k. subst (λ y. Contains (x ∷ xs) y) (only k) (here x xs)) (Contains-append_cases xs (x ∷ []) w h)
  where
    only : Contains (x ∷ []) w → x ≡ w
    only (zero, l, e) = e
    only (suc i, l, e) = absurd (omega (arith, l))

tail-edges : (ws : Words) (x : Tail) (w : ℕ) → Contains (map (λ (b : BlockId). b.0) (edges (print_tail ws x))) w → Contains (numbers_to (jumps x)) w
tail-edges ws (tail.Jump j) w h = h
tail-edges ws (tail.Branch a j i) w h = h
tail-edges ws (tail.Switch width a j cases) w h = last-first j.to w (numbers_to (map (λ (c : IntValue × Jump). c.1) cases)) (subst (λ l. Contains l w) (switch-edges cases j) h)
tail-edges ws (tail.Return a) w h = h

module _ (r : Residue) (caps : Caps) where
  abbrev m : Module
  m = printed r (Adaptive caps)

  abbrev f : Function
  f = printed_entry r (Adaptive caps)

  abbrev targets : Block → List ℕ
  targets c = map (λ (b : BlockId). b.0) (edges c.term)

  block-edges : (u w : ℕ) → Contains (successors (block_graph f) u) w → Contains (successors (jump_graph r) u) w
  block-edges u w h = by (slice_get r.parts u) refl
    where
      by : (o : Option Part) → slice_get r.parts u ≡ o → Contains (successors (jump_graph r) u) w
      by None e =
          absurd (none w (subst (λ l. Contains l w) (ap list_or_none (slice_get-map targets (print_parts r 0 0 r.parts) u ∙ ap (option_map targets) (no-block r u e))) h))
      by (Some p) e =
          subst (λ l. Contains l w) (sym (ap list_or_none (slice_get-map (λ (p : Part). numbers_to (jumps p.tail)) r.parts u ∙ ap (option_map (λ (p : Part). numbers_to (jumps p.tail))) e)))
          (tail-edges (words r) p.tail w
          (subst (λ l. Contains l w) (ap list_or_none (slice_get-map targets (print_parts r 0 0 r.parts) u ∙ ap (option_map targets) (block-of-part r u p e))) h))

  -- ---- no block leads back without the capability

  module _ (fits : FitsProfile r (Adaptive caps)) (off : is_on backwards_key m ≡ false) where
    no-cycle : (n : ℕ) → IsOnCycle (block_graph f) n → ⊥
    no-cycle n c = fits.onward (sym (backwards-on r caps) ∙ off) n (cycle-follows (block_graph f) (jump_graph r) block-edges n c)

    loops-in-none : (g : ℕ) (p : Point) → LoopsAt (slice_get m.funcs g) p → ⊥
    loops-in-none zero p h = no-cycle p.block.0 h.1
    loops-in-none (suc n) p h = by (slice_get (declared_of r) n) (subst (λ o. LoopsAt o p) (slice_get-map (declaration r.irreversible) (declared_of r) n) h)
      where
        by : (o : Option Called) → LoopsAt (option_map (declaration r.irreversible) o) p → ⊥
        by None k = k
        by (Some c) k = clash k.0
          where
            clash : false ≡ true → ⊥
            clash e = cc

    pub loops-back-none : (s : Spot) → LoopsBack m s → ⊥
    loops-back-none spot.Module h = h
    loops-back-none (spot.Func g) h = h
    loops-back-none (spot.At p) h = loops-in-none p.func.0 p h

  -- ---- no call leads back

  -- a declaration calls nothing
  quiet : (cs : List Called) (n : ℕ) → list_or_none (slice_get (map (λ f. flat_map number_called (steps_of f)) (map (declaration r.irreversible) cs)) n) ≡ []
  quiet [] n = refl
  quiet (c ∷ cs) zero = refl
  quiet (c ∷ cs) (suc n) = quiet cs n

  never-back : (n : ℕ) (ws : List ℕ) → IsWalk (call_graph m) (suc n) ws 0 → ⊥
  never-back n [] e = absurd (omega (arith, e))
  never-back n (w ∷ ws) p = none w (subst (λ l. Contains l w) (quiet (declared_of r) n) p.0)

  from-later : (g : ℕ) → 0 < g → Reaches (call_graph m) g 0 → ⊥
  from-later zero lt h = absurd (omega (arith, lt))
  from-later (suc n) lt h = never-back n h.walk h.is

  -- a call of another function than the entry
  call-returns-none : (o : Option Call) → not (passes o calls_entry) ≡ true → ReturnsFrom m 0 (number_called_by o) → ⊥
  call-returns-none None e h = h
  call-returns-none (Some c) e h = by c.callee e h
    where
      later : (g : ℕ) (b : Bool) → nat_lt 0 g ≡ b → not (not b || false) ≡ true → 0 < g
      later g true k e = less 0 g k
      later g false k e = cc

      by : (d : Callee) → not (calls_entry (record { callee = d; args = c.args })) ≡ true → ReturnsFrom m 0 (number_called_by (Some (record { callee = d; args = c.args }))) → ⊥
      by (callee.Func g) e h = from-later g.0 (later g.0 (nat_lt 0 g.0) refl e) h
      by (callee.Local x) e h = h

  module _ (ok : Valid r (Adaptive caps)) where
    calls-in-none : (g n i : ℕ) (p : Point) → p ≡ (record { func = record { 0 = g }; block = record { 0 = n }; index = i }) → CallsAt m (slice_get m.funcs g) p → ⊥
    calls-in-none zero n i p e h =
        call-returns-none (call_of (step_in (slice_get (print_blocks r (Adaptive caps)) n) i)) (entry-not-called r caps ok n i) (subst (λ q. CallsAt m (Some f) q) e h)
    calls-in-none (suc g) n i p e h = by (slice_get (declared_of r) g) (subst (λ o. CallsAt m o p) (slice_get-map (declaration r.irreversible) (declared_of r) g) h)
      where
        by : (o : Option Called) → CallsAt m (option_map (declaration r.irreversible) o) p → ⊥
        by None k = k
        by (Some c) k = k

    pub calls-back-none : (s : Spot) → CallsBack m s → ⊥
    calls-back-none spot.Module h = h
    calls-back-none (spot.Func g) h = h
    calls-back-none (spot.At p) h = calls-in-none p.func.0 p.block.0 p.index p refl h
