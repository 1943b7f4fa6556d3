-- What stands at a point of a function, and what the rules say of it.
use Rattle.std.proofs.Common.{◌≡◌, ⊎_elim, ℕ, ◌+◌, ◌-◌, ◌<◌, ◌≤◌, Bool, true, false, None, Some, length, slice_get, refl, subst, arith}
use Rattle.std.proofs.lemmas.Bool.{and_parts}
use Rattle.std.proofs.lemmas.Option.{slice_get_past, slice_get_cases}
use Rattle.std.specs.List.{list_all}
use Rattle.ir_module.specs.declared.places.Point.{Point}
use Rattle.ir_module.specs.declared.places.Spot.{Spot}
use Rattle.ir_module.specs.declared.places.Spot.TheVariants as spot
use Rattle.ir_module.specs.declared.tree.Block.{Block}
use Rattle.ir_module.specs.declared.tree.Function.{Function}
use Rattle.ir_module.specs.declared.tree.Inst.{Inst}
use Rattle.ir_module.specs.declared.tree.Module.{Module}
use Rattle.ir_module.specs.declared.tree.Operand.{Operand}
use Rattle.ir_module.specs.declared.tree.Phi.{Phi}
use Rattle.ir_module.specs.Steps.{Step, PhiAt, InstAt, TermAt, step_at, step_in_module, step_of_point}
use Rattle.ir_module.specs.Tree.{block_at}
use Rattle.ir_values.specs.declared.ty.Ty.{Ty}
use Rattle.type_check.specs.declared.code.TypeCode.{TypeCode}
use Rattle.type_check.specs.declared.code.TypeCode.TheVariants as code
use Rattle.type_check.specs.Faults.{on_function, at_step, keeps_rule, EntryIsRight, Typed}
use Rattle.type_check.specs.Required.{required_qubits, required_results}
use Rattle.type_check.specs.Rules.{types_agree, shape_agrees, entries_fit, keeps_first, number_below, numbers_below, operand_known, functions_known}
use Rattle.type_check.specs.Typing.{operand_has, wants}

-- ---- what stands at a point

pub step-here : (f : Function) (p : Point) (b : Block) → block_at f p.block ≡ Some b → step_of_point f p ≡ step_at b p.index
step-here f p b e = rw e refl

pub step-in : (m : Module) (p : Point) (f : Function) → slice_get m.funcs p.func.0 ≡ Some f → step_in_module m p ≡ step_of_point f p
step-in m p f e = rw e refl

pub phi-at : (b : Block) (i : ℕ) (phi : Phi) → slice_get b.phis i ≡ Some phi → step_at b i ≡ PhiAt phi
phi-at b i phi e = rw e refl

-- behind the phis
module _ (b : Block) (i : ℕ) (from : length b.phis ≤ i) where
  pub inst-at : (x : Inst) → slice_get b.insts (i - length b.phis) ≡ Some x → step_at b i ≡ InstAt x
  inst-at x e = rw (slice_get_past b.phis i from, e) refl

  pub term-at : i ≡ length b.phis + length b.insts → step_at b i ≡ TermAt b.term
  term-at e =
      let past : slice_get b.insts (i - length b.phis) ≡ None = slice_get_past b.insts (i - length b.phis) (omega (arith, e)) in
      let z : i - (length b.phis + length b.insts) ≡ 0 = omega (arith, e) in
      rw (slice_get_past b.phis i from, past, z) refl

  -- an instruction, or the terminator
  pub by-step : i ≤ length b.phis + length b.insts → (P : Type 0) → ((x : Inst) → slice_get b.insts (i - length b.phis) ≡ Some x → step_at b i ≡ InstAt x → i < length b.phis + length b.insts → P) → (step_at b i ≡ TermAt b.term → P) → P
  by-step to P inst term =
      ⊎_elim
      (λ q. inst q.0 q.2 (inst-at q.0 q.2) (omega (arith, q.1, from)))
      (λ q. term (term-at (omega (arith, q.0, from, to))))
      (slice_get_cases b.insts (i - length b.phis)).1

-- ---- what the rules say of it

true-of : (b : Bool) → ¬ (b ≡ false) → b ≡ true
true-of true h = refl
true-of false h = absurd (h refl)

-- what the rules say of a step of a function at a point
pub record StepKeeps (m : Module) (k r : ℕ) (f : Function) (p : Point) (s : Step) : Type 0 where
  pub has : list_all (λ (w : Ty × Operand). operand_has m f w.1 w.0) (wants f s) ≡ true
  pub below : list_all (number_below k r) (wants f s) ≡ true
  pub known : list_all (λ (w : Ty × Operand). operand_known m w.1) (wants f s) ≡ true
  pub shape : shape_agrees f s ≡ true
  pub entries : entries_fit f p.block s ≡ true
  pub first : keeps_first p.block s ≡ true

module _ (m : Module) (limit : ℕ) (typed : Typed m limit) where
  keeps-entry : EntryIsRight m limit
  unfolding keeps_rule
  keeps-entry s code.NoEntry = true-of (keeps_rule m limit s code.NoEntry) (typed s code.NoEntry)
  keeps-entry s code.BadNumberAttr = true-of (keeps_rule m limit s code.BadNumberAttr) (typed s code.BadNumberAttr)
  keeps-entry s code.EntrySignature = true-of (keeps_rule m limit s code.EntrySignature) (typed s code.EntrySignature)
  keeps-entry s c = refl

  -- a module without faults keeps each rule at every spot
  pub keeps : (s : Spot) (c : TypeCode) → keeps_rule m limit s c ≡ true
  keeps s code.Types = true-of (keeps_rule m limit s code.Types) (typed s code.Types)
  keeps s code.PhiEntries = true-of (keeps_rule m limit s code.PhiEntries) (typed s code.PhiEntries)
  keeps s code.EntryBlock = true-of (keeps_rule m limit s code.EntryBlock) (typed s code.EntryBlock)
  keeps s code.SwitchCase = true-of (keeps_rule m limit s code.SwitchCase) (typed s code.SwitchCase)
  keeps s code.NoEntry = true-of (keeps_rule m limit s code.NoEntry) (typed s code.NoEntry)
  keeps s code.BadNumberAttr = true-of (keeps_rule m limit s code.BadNumberAttr) (typed s code.BadNumberAttr)
  keeps s code.IdRange = true-of (keeps_rule m limit s code.IdRange) (λ e. typed s code.IdRange (keeps-entry, e))
  keeps s code.UnknownDecl = true-of (keeps_rule m limit s code.UnknownDecl) (typed s code.UnknownDecl)
  keeps s code.EntrySignature = true-of (keeps_rule m limit s code.EntrySignature) (typed s code.EntrySignature)
  keeps s code.ReservedName = true-of (keeps_rule m limit s code.ReservedName) (typed s code.ReservedName)

  module _ (p : Point) (f : Function) (is : slice_get m.funcs p.func.0 ≡ Some f) where
    fact : (test : Function → Point → Step → Bool) → at_step m (spot.At p) test ≡ true → test f p (step_of_point f p) ≡ true
    fact test h = subst (λ o. on_function o (λ g. test g p (step_of_point g p)) ≡ true) is h

    here-keeps : StepKeeps m (required_qubits m limit) (required_results m limit) f p (step_of_point f p)
    unfolding keeps_rule types_agree numbers_below functions_known
    here-keeps =
        let t = and_parts (list_all (λ (w : Ty × Operand). operand_has m f w.1 w.0) (wants f (step_of_point f p))) (shape_agrees f (step_of_point f p)) (fact (λ f p step. types_agree m f step) (keeps (spot.At p) code.Types)) in
        record {
          has = t.0;
          below = fact (λ f p step. numbers_below (required_qubits m limit) (required_results m limit) f step) (keeps (spot.At p) code.IdRange);
          known = fact (λ f p step. functions_known m f step) (keeps (spot.At p) code.UnknownDecl);
          shape = t.1;
          entries = fact (λ f p step. entries_fit f p.block step) (keeps (spot.At p) code.PhiEntries);
          first = fact (λ f p step. keeps_first p.block step) (keeps (spot.At p) code.EntryBlock);
        }

    pub step-keeps : (s : Step) → step_of_point f p ≡ s → StepKeeps m (required_qubits m limit) (required_results m limit) f p s
    step-keeps s e = subst (StepKeeps m (required_qubits m limit) (required_results m limit) f p) e here-keeps
