-- Flows beside the functions that they are of.
use Rattle.std.proofs.Common.{◌≡◌, ◌↔◌, ⊎_elim, ℕ, zero, suc, ◌+◌, ◌<◌, true, false, Option, None, Some, List, [], ◌∷◌, ◌++◌, length, map, take, slice_get, refl, sym, ap, ◌∙◌, subst, IsSome, IsSomeAnd, IfSome, arith}
use Rattle.std.proofs.Math.Seq.{take-length}
use Rattle.std.proofs.lemmas.Option.{slice_get_cases}
use Rattle.ir_values.specs.declared.class.Class.{Class}
use Rattle.ir_values.specs.declared.ids.FuncId.{FuncId}
use Rattle.ir_values.specs.declared.ids.LocalId.{LocalId}
use Rattle.ir_module.specs.declared.places.Point.{Point}
use Rattle.ir_module.specs.declared.tree.Block.{Block}
use Rattle.ir_module.specs.declared.tree.Function.{Function}
use Rattle.ir_module.specs.declared.tree.Module.{Module}
use Rattle.ir_module.specs.Steps.{NoStep, step_of_point, step_in}
use Rattle.ir_module.specs.Tree.{blocks_at}
use Rattle.ir_module.specs.Classes.{class_of_function}
use Rattle.name_flow.specs.declared.flow.Flow.{Flow}
use Rattle.name_flow.specs.Tables.{IsFlowOf, HasBody}
use Rattle.name_flow.specs.Uses.{step_reads}
use Rattle.name_flow.specs.Walks.{IsLive, IsWalk, ReadsFirst, successors}
use Rattle.std.specs.List.{Contains}
use Rattle.told_liveness.specs.Tests.{IsLiveTest, TellsLive}
use Rattle.admission.specs.Live.{flow_answer, live_in}
use Rattle.admission.specs.code.Tables.{IsFlowOfBody, AreFlowsOf}

some-inj : {A : Type 0} (x y : A) → Some x ≡ Some y → x ≡ y
some-inj x y e = cc

-- ---- one more function

pub flows_more : (fs : List Function) (os : List (Option Flow)) (f : Function) (o : Option Flow) → AreFlowsOf fs os → IsFlowOfBody f o → AreFlowsOf (fs ++ f ∷ []) (os ++ o ∷ [])
flows_more [] [] f o h k = (k, tt)
flows_more [] (p ∷ os) f o h k = absurd h
flows_more (g ∷ fs) [] f o h k = absurd h
flows_more (g ∷ fs) (p ∷ os) f o h k = (h.0, flows_more fs os f o h.1 k)

pub take_next : {A : Type 0} (xs : List A) (i : ℕ) (x : A) → slice_get xs i ≡ Some x → take (suc i) xs ≡ take i xs ++ x ∷ []
take_next [] i x e = cc
take_next (y ∷ xs) zero x e = ap (λ z. z ∷ []) (some-inj y x e)
take_next (y ∷ xs) (suc i) x e = ap (λ l. y ∷ l) (take_next xs i x e)

-- the functions up to the one at i, and then that too
pub flows_next : (fs : List Function) (i : ℕ) (f : Function) (os : List (Option Flow)) (o : Option Flow) → slice_get fs i ≡ Some f → AreFlowsOf (take i fs) os → IsFlowOfBody f o → AreFlowsOf (take (suc i) fs) (os ++ o ∷ [])
flows_next fs i f os o e h k = subst (λ gs. AreFlowsOf gs (os ++ o ∷ [])) (sym (take_next fs i f e)) (flows_more (take i fs) os f o h k)

-- the same from what the code knows
pub flows_step : (fs : List Function) (i : ℕ) (os os' : List (Option Flow)) (o : Option Flow) → i < length fs → IfSome (slice_get fs i) (λ f. IsFlowOfBody f o) → os' ≡ os ++ o ∷ [] → AreFlowsOf (take i fs) os → AreFlowsOf (take (i + 1) fs) os'
flows_step fs i os os' o lt fits e h =
    ⊎_elim
    (λ q.
    let f : Function = q.0 in
    let k : IsFlowOfBody f o = subst (λ (x : Option Function). IfSome x (λ f. IsFlowOfBody f o)) q.2 fits in
    let next : suc i ≡ i + 1 = omega arith in
    subst (λ n. AreFlowsOf (take n fs) os') next (subst (AreFlowsOf (take (suc i) fs)) (sym e) (flows_next fs i f os o q.2 h k)))
    (λ q. absurd (omega (arith, q.0, lt)))
    (slice_get_cases fs i).1

pub flows_whole : (fs : List Function) (os : List (Option Flow)) (n : ℕ) → n ≡ length fs → AreFlowsOf (take n fs) os → AreFlowsOf fs os
flows_whole fs os n e h = subst (λ gs. AreFlowsOf gs os) (take-length fs) (subst (λ k. AreFlowsOf (take k fs) os) e h)

-- ---- the flow of one function

pub record FlowAt (os : List (Option Flow)) (i : ℕ) (f : Function) : Type 0 where
  pub flow : Option Flow
  pub is : slice_get os i ≡ Some flow
  pub fits : IsFlowOfBody f flow

pub flow_at : (fs : List Function) (os : List (Option Flow)) (i : ℕ) (f : Function) → AreFlowsOf fs os → slice_get fs i ≡ Some f → FlowAt os i f
flow_at [] os i f h e = cc
flow_at (g ∷ fs) [] i f h e = absurd h
flow_at (g ∷ fs) (o ∷ os) zero f h e = record { flow = o; is = refl; fits = subst (λ k. IsFlowOfBody k o) (some-inj g f e) h.0 }
flow_at (g ∷ fs) (o ∷ os) (suc i) f h e = let q = flow_at fs os i f h.1 e in record { flow = q.flow; is = q.is; fits = q.fits }

-- ---- names that are live

-- no name is live in a function without a body
no-walk : (f : Function) (p : Point) (x : LocalId) → step_of_point f p ≡ NoStep → IsLive f p x → ⊥
no-walk f p x e l = by l.walk l.follows l.reads
  where
    by : (w : List Point) → IsWalk f p w → ReadsFirst f x p w → ⊥
    by [] follows reads = let r = subst (λ s. Contains (step_reads f p.block s) x) e reads in absurd (omega (arith, r.1))
    by (q ∷ qs) follows reads = let r = subst (λ s. Contains (successors p s) q) e follows.0 in absurd (omega (arith, r.1))

no-step : (f : Function) (p : Point) → f.blocks ≡ None → step_of_point f p ≡ NoStep
no-step f p e = ap (λ bs. step_in (blocks_at bs p.block) p.index) e

tells_live : (m : Module) (os : List (Option Flow)) → AreFlowsOf m.funcs os → TellsLive m (live_in (record { tree = m; flows = os }))
unfolding live_in
tells_live m os h f p x e = let q = flow_at m.funcs os p.func.0 f h e in subst (λ (o : Option (Option Flow)). (flow_answer o p x ≡ true) ↔ IsLive f p x) (sym q.is) (by q.flow q.fits)
  where
    by : (o : Option Flow) → IsFlowOfBody f o → (flow_answer (Some o) p x ≡ true) ↔ IsLive f p x
    by None k = (λ b. cc, λ l. absurd (no-walk f p x (no-step f p k) l))
    by (Some flow) k = k p x

-- behind the functions stands no flow
none-behind : (fs : List Function) (os : List (Option Flow)) (i : ℕ) → AreFlowsOf fs os → slice_get fs i ≡ None → slice_get os i ≡ None
none-behind [] [] i h e = refl
none-behind [] (o ∷ os) i h e = absurd h
none-behind (f ∷ fs) [] i h e = absurd h
none-behind (f ∷ fs) (o ∷ os) zero h e = cc
none-behind (f ∷ fs) (o ∷ os) (suc i) h e = none-behind fs os i h.1 e

quiet_elsewhere : (m : Module) (os : List (Option Flow)) → AreFlowsOf m.funcs os → (p : Point) (x : LocalId) → slice_get m.funcs p.func.0 ≡ None → live_in (record { tree = m; flows = os }) p x ≡ false
unfolding live_in
quiet_elsewhere m os h p x e = ap (λ o. flow_answer o p x) (none-behind m.funcs os p.func.0 h e)

-- the flows tell the live names of the module
pub is_live_test : (m : Module) (os : List (Option Flow)) → AreFlowsOf m.funcs os → IsLiveTest m (live_in (record { tree = m; flows = os }))
is_live_test m os h = record { tells = tells_live m os h; quiet = quiet_elsewhere m os h }

-- the flow of a function with a body
pub record BodyFlow (m : Module) (os : List (Option Flow)) (g : FuncId) : Type 0 where
  pub flow : Flow
  pub is : slice_get os g.0 ≡ Some (Some flow)
  pub fits : IfSome (slice_get m.funcs g.0) (λ f. IsFlowOf f flow)

has-flow : (m : Module) (os : List (Option Flow)) (g : FuncId) (f : Function) (o : Option Flow) → slice_get m.funcs g.0 ≡ Some f → IsSome f.blocks → slice_get os g.0 ≡ Some o → IsFlowOfBody f o → BodyFlow m os g
has-flow m os g f None e body is k = let none : IsSome {T = List Block} None = subst (λ (bs : Option (List Block)). IsSome bs) k body in cc
has-flow m os g f (Some flow) e body is k = record { flow = flow; is = is; fits = subst (λ (o : Option Function). IfSome o (λ f. IsFlowOf f flow)) (sym e) k }

pub body_flow : (m : Module) (os : List (Option Flow)) (g : FuncId) → AreFlowsOf m.funcs os → HasBody m g → BodyFlow m os g
body_flow m os g h has =
    ⊎_elim
    (λ q.
    let f : Function = q.0 in
    let body : IsSome f.blocks = subst (λ (o : Option Function). IsSomeAnd o (λ h. IsSome h.blocks)) q.2 has in
    let a = flow_at m.funcs os g.0 f h q.2 in
    has-flow m os g f a.flow q.2 body a.is a.fits)
    (λ q. absurd (subst (λ (o : Option Function). IsSomeAnd o (λ h. IsSome h.blocks)) q.1 has))
    (slice_get_cases m.funcs g.0).1

-- ---- classes

class-at : (fs : List Function) (i : ℕ) (f : Function) (c : Option Class) → slice_get fs i ≡ Some f → slice_get (map class_of_function fs) i ≡ Some c → c ≡ class_of_function f
class-at [] i f c e h = cc
class-at (g ∷ fs) zero f c e h = sym (some-inj (class_of_function g) c h) ∙ ap class_of_function (some-inj g f e)
class-at (g ∷ fs) (suc i) f c e h = class-at fs i f c e h

pub class_at : (fs : List Function) (cs : List (Option Class)) (i : ℕ) (c : Option Class) → cs ≡ map class_of_function fs → slice_get cs i ≡ Some c → IfSome (slice_get fs i) (λ f. c ≡ class_of_function f)
class_at fs cs i c e h = by (slice_get fs i) refl
  where
    by : (o : Option Function) → slice_get fs i ≡ o → IfSome o (λ f. c ≡ class_of_function f)
    by None is = tt
    by (Some f) is = class-at fs i f c is (sym (ap (λ (l : List (Option Class)). slice_get l i) e) ∙ h)
