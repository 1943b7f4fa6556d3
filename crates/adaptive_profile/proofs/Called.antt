-- What functions call by name.
use Rattle.std.proofs.Common.{◌≡◌, inl, inr, ℕ, zero, suc, ◌<◌, leb, ltb, Bool, true, false, ◌&&◌, List, [], ◌∷◌, ◌++◌, length, map, flat_map, slice_get, Contains, refl, sym, ap, ◌∙◌, subst, arith, append-nil}
use Rattle.std.specs.List.{list_all}
use Rattle.std.proofs.lemmas.Bool.Decides.{nat_tests}
use Rattle.std.proofs.lemmas.Grind.{flat_map-append}
use Rattle.std.proofs.lemmas.List.Elements.{Contains-append_cases}
use Rattle.ir_module.specs.declared.tree.Block.{Block}
use Rattle.ir_module.specs.declared.tree.Callee.{Callee}
use Rattle.ir_module.specs.declared.tree.Callee.TheVariants as callee
use Rattle.ir_module.specs.declared.tree.Function.{Function}
use Rattle.ir_module.specs.declared.tree.Inst.{Inst}
use Rattle.ir_module.specs.declared.tree.InstKind.{InstKind}
use Rattle.ir_module.specs.declared.tree.InstKind.TheVariants as kind
use Rattle.ir_module.specs.declared.tree.Module.{Module}
use Rattle.ir_module.specs.declared.tree.Phi.{Phi}
use Rattle.ir_module.specs.Numbered.{Numbered, all_steps, operand_in_range, local_in_range, step_in_range}
use Rattle.ir_module.specs.Operands.{callee_operand, operands_of, step_defines, step_blocks}
use Rattle.ir_module.specs.Steps.{Step, PhiAt, InstAt, TermAt, NoStep, steps_of_block, steps_of}
use Rattle.ir_module.specs.Tree.{blocks_of}
use Rattle.graph_cycles.specs.Cycles.{list_or_none}
use Rattle.profile_rules.specs.Adaptive.{callee_number, number_called, number_called_by, call_graph}
use Rattle.profile_rules.specs.Calls.{call_of_kind}
use Rattle.returning_edges.specs.Returns.{IsClosed}
use Rattle.adaptive_profile.specs.code.Graphs.{called_by, called_in}

no-phis : (ps : List Phi) → flat_map number_called (map PhiAt ps) ≡ []
no-phis [] = refl
no-phis (p ∷ ps) = no-phis ps

by-insts : (is : List Inst) → flat_map number_called (map InstAt is) ≡ called_by is
by-insts [] = refl
by-insts (i ∷ is) = ap (λ xs. number_called_by (call_of_kind i.what) ++ xs) (by-insts is)

by-block : (c : Block) → flat_map number_called (steps_of_block c) ≡ called_by c.insts
by-block c =
    flat_map-append number_called (map PhiAt c.phis) (map InstAt c.insts ++ TermAt c.term ∷ [])
    ∙ ap (λ xs. xs ++ flat_map number_called (map InstAt c.insts ++ TermAt c.term ∷ [])) (no-phis c.phis)
    ∙ flat_map-append number_called (map InstAt c.insts) (TermAt c.term ∷ [])
    ∙ append-nil (flat_map number_called (map InstAt c.insts))
    ∙ by-insts c.insts

in-blocks : (cs : List Block) → called_in cs ≡ flat_map number_called (flat_map steps_of_block cs)
in-blocks [] = refl
in-blocks (c ∷ cs) =
    ap (λ xs. xs ++ called_in cs) (sym (by-block c)) ∙ ap (λ xs. flat_map number_called (steps_of_block c) ++ xs) (in-blocks cs)
    ∙ sym (flat_map-append number_called (steps_of_block c) (flat_map steps_of_block cs))

pub called : (f : Function) → called_in (blocks_of f) ≡ flat_map number_called (steps_of f)
called f = in-blocks (blocks_of f)

-- ---- what is called is in range

and-left : (a b : Bool) → (a && b) ≡ true → a ≡ true
and-left true b e = refl
and-left false b e = cc

and-right : (a b : Bool) → (a && b) ≡ true → b ≡ true
and-right true b e = e
and-right false b e = cc

below : (a b : ℕ) → ltb a b ≡ true → a < b
below a b e = grind (arith, nat_tests)

module _ (m : Module) (f : Function) where
  by-callee : (g : Callee) (v : ℕ) (rest : _) → list_all (operand_in_range m f) (callee_operand g ∷ rest) ≡ true → Contains (callee_number g) v → v < length m.funcs
  by-callee (callee.Local x) v rest e c = absurd (let l = c.1 in omega (arith, l))
  by-callee (callee.Func g) v rest e (zero, l, q) = subst (λ z. z < length m.funcs) q (below g.0 (length m.funcs) (and-left (ltb g.0 (length m.funcs)) (list_all (operand_in_range m f) rest) e))
  by-callee (callee.Func g) v rest e (suc k, l, q) = absurd (omega (arith, l))

  by-kind : (k : InstKind) (v : ℕ) → list_all (operand_in_range m f) (operands_of k) ≡ true → Contains (number_called_by (call_of_kind k)) v → v < length m.funcs
  by-kind (kind.Binary o flags t a b) v e c = absurd (let l = c.1 in omega (arith, l))
  by-kind (kind.Icmp p t a b) v e c = absurd (let l = c.1 in omega (arith, l))
  by-kind (kind.Convert o t a to) v e c = absurd (let l = c.1 in omega (arith, l))
  by-kind (kind.Select d t a u b) v e c = absurd (let l = c.1 in omega (arith, l))
  by-kind (kind.Call ret g args) v e c = by-callee g v (map (λ a. a.1) args) e c

  by-step : (s : Step) (v : ℕ) → step_in_range m f s ≡ true → Contains (number_called s) v → v < length m.funcs
  by-step (PhiAt p) v e c = absurd (let l = c.1 in omega (arith, l))
  by-step (TermAt t) v e c = absurd (let l = c.1 in omega (arith, l))
  by-step NoStep v e c = absurd (let l = c.1 in omega (arith, l))
  by-step (InstAt i) v e c = by-kind i.what v (and-left (list_all (operand_in_range m f) (operands_of i.what)) (list_all (local_in_range f) (step_defines (InstAt i)) && list_all (λ b. ltb b.0 (length (blocks_of f))) (step_blocks (InstAt i))) e) c

  by-steps : (ss : List Step) (v : ℕ) → list_all (step_in_range m f) ss ≡ true → Contains (flat_map number_called ss) v → v < length m.funcs
  by-steps [] v e c = absurd (let l = c.1 in omega (arith, l))
  by-steps (s ∷ ss) v e c = elim (Contains-append_cases (number_called s) (flat_map number_called ss) v c) [ inl k ↦ by-step s v (and-left (step_in_range m f s) (list_all (step_in_range m f) ss) e) k | inr k ↦ by-steps ss v (and-right (step_in_range m f s) (list_all (step_in_range m f) ss) e) k ]

-- each call leads to a function
by-functions : (m : Module) (fs : List Function) (u v : ℕ) → list_all (λ f. list_all (step_in_range m f) (steps_of f)) fs ≡ true
    → Contains (list_or_none (slice_get (map (λ f. flat_map number_called (steps_of f)) fs) u)) v → v < length m.funcs
by-functions m [] u v e c = absurd (let l = c.1 in omega (arith, l))
by-functions m (f ∷ fs) zero v e c = by-steps m f (steps_of f) v (and-left (list_all (step_in_range m f) (steps_of f)) (list_all (λ f. list_all (step_in_range m f) (steps_of f)) fs) e) c
by-functions m (f ∷ fs) (suc u) v e c = by-functions m fs u v (and-right (list_all (step_in_range m f) (steps_of f)) (list_all (λ f. list_all (step_in_range m f) (steps_of f)) fs) e) c

map-length : {A B : Type 0} (f : A → B) (xs : List A) → length (map f xs) ≡ length xs
map-length f [] = refl
map-length f (x ∷ xs) = ap suc (map-length f xs)

pub closed : (m : Module) → Numbered m → IsClosed (call_graph m)
closed m n u v c =
    subst (λ k. v < k) (sym (map-length (λ (f : Function). flat_map number_called (steps_of f)) m.funcs))
    (by-functions m m.funcs u v (and-right (list_all (λ (f : Function). leb f.params (length f.locals)) m.funcs) (all_steps (step_in_range m) m) n.in_range) c)
