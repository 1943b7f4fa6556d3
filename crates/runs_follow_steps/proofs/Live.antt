-- Names that walks find live give what the proofs go by.
use Rattle.std.proofs.Common.{◌≡◌, ℕ, zero, suc, ◌+◌, ◌-◌, ◌<◌, ◌≤◌, Bool, true, false, Option, None, Some, List, [], ◌∷◌, ◌++◌, length, map, Contains, flat_map, refl, sym, ap, ◌∙◌, subst, arith}
use Rattle.std.proofs.lemmas.List.Elements.{Contains-append_left, Contains-append_right}
use Rattle.std.specs.Option.{option_to_list}
use Rattle.std.specs.Prelude.{◌==◌, ⊤, if◌then◌else◌, slice_get, slice_index_or}
use Rattle.ir_module.specs.declared.places.Point.{Point}
use Rattle.ir_module.specs.declared.tree.Block.{Block}
use Rattle.ir_module.specs.declared.tree.Function.{Function}
use Rattle.ir_module.specs.declared.tree.Inst.{Inst}
use Rattle.ir_module.specs.declared.tree.Module.{Module}
use Rattle.ir_module.specs.declared.tree.Operand.{Operand}
use Rattle.ir_module.specs.declared.tree.Operand.TheVariants as operand
use Rattle.ir_module.specs.declared.tree.Phi.{Phi}
use Rattle.ir_module.specs.declared.tree.Term.{Term}
use Rattle.ir_module.specs.Edges.{edges}
use Rattle.ir_module.specs.Operands.{operands_of, term_operands}
use Rattle.ir_module.specs.Steps.{Step, PhiAt, InstAt, TermAt, NoStep, step_at, step_of_point, step_in_module}
use Rattle.ir_module.specs.Tree.{block_at}
use Rattle.ir_values.specs.declared.ids.BlockId.{BlockId}
use Rattle.ir_values.specs.declared.ids.FuncId.{FuncId}
use Rattle.ir_values.specs.declared.ids.LocalId.{LocalId}
use Rattle.ir_module.specs.Operands.{step_defines}
use Rattle.name_flow.specs.Uses.{reads, step_reads, entries_read, phis_read}
use Rattle.name_flow.specs.Walks.{first_point, successors}
use Rattle.qir_meaning.specs.Moves.{given, block_in, entry_for}
use Rattle.qir_meaning.specs.State.{next}
use Rattle.runs_follow_steps.specs.Describes.{IsNot, ResultInRange, TellsLive}
use Rattle.runs_follow_steps.proofs.Flows.{Flows, EdgeFlows, IsNone, InRange, LiveOperand, LiveOperands, LiveEntry, LiveEntries}
use Rattle.runs_follow_steps.proofs.Looks.{other-numbers}

-- the function that a step stands in
abbrev pub in-function : Option Function → Point → Step
in-function None p = NoStep
in-function (Some f) p = step_of_point f p

-- a name that is read is one of the list
contains-here : {A : Type 0} (x : A) (xs : List A) → Contains (x ∷ xs) x
contains-here x xs = (0, omega arith, refl)

not-single : (x : LocalId) (y : LocalId) → (x.0 == y.0) ≡ false → ¬ Contains (x ∷ []) y
not-single x y n c = at-index c.0 c.1 c.2
  where
    at-index : (k : ℕ) → k < length (x ∷ []) → slice_index_or (x ∷ []) k y ≡ y → ⊥
    at-index zero lt e = other-numbers x.0 y.0 n (ap (λ z. z.0) e)
    at-index (suc k) lt e = absurd (omega arith)

pub some-at : {A : Type 0} (xs : List A) (n : ℕ) → n < length xs → (x : A) × (slice_get xs n ≡ Some x)
some-at [] n lt = absurd (omega arith)
some-at (x ∷ xs) zero lt = (x, refl)
some-at (x ∷ xs) (suc n) lt = some-at xs n (omega arith)

in-map : {A B : Type 0} (f : A → B) (xs : List A) (k : ℕ) (x : A) → slice_get xs k ≡ Some x → Contains (map f xs) (f x)
in-map f [] k x h = cc
in-map f (y ∷ xs) zero x h = let s : y ≡ x = cc in (0, omega arith, ap f s)
in-map f (y ∷ xs) (suc k) x h = Contains-append_right (f y ∷ []) (map f xs) (f x) (in-map f xs k x h)

in-flat : {A B : Type 0} (f : A → List B) (xs : List A) (k : ℕ) (x : A) (z : B) → slice_get xs k ≡ Some x → Contains (f x) z → Contains (flat_map f xs) z
in-flat f [] k x z h c = cc
in-flat f (y ∷ xs) zero x z h c = let s : y ≡ x = cc in Contains-append_left (f y) (flat_map f xs) z (subst (λ w. Contains (f w) z) (sym s) c)
in-flat f (y ∷ xs) (suc k) x z h c = Contains-append_right (f y) (flat_map f xs) z (in-flat f xs k x z h c)

abbrev pub or-else : {A : Type 0} → Option A → (A → Step) → Step → Step
or-else None f s = s
or-else (Some x) f s = f x

abbrev ending : Term → ℕ → Step
ending t zero = TermAt t
ending t (suc n) = NoStep

abbrev in-block : Option Block → ℕ → Step
in-block None i = NoStep
in-block (Some b) i = step_at b i

-- the step at a point of a block
pub step-is : (m : Module) (p : Point) (b : Block) → block_in m p.func p.block ≡ Some b → step_in_module m p ≡ step_at b p.index
step-is m p b h = by-function (slice_get m.funcs p.func.0) h
  where
    by-function : (o : Option Function) → given o (λ g. block_at g p.block) ≡ Some b → in-function o p ≡ step_at b p.index
    by-function None h = cc
    by-function (Some f) h = ap (λ o. in-block o p.index) h

-- and of one of its phis
pub phi-at : (b : Block) (n : ℕ) (phi : Phi) → slice_get b.phis n ≡ Some phi → step_at b n ≡ PhiAt phi
phi-at b n phi e = ap (λ o. or-else o PhiAt (or-else (slice_get b.insts (n - length b.phis)) InstAt (ending b.term (n - (length b.phis + length b.insts))))) e

module _ (m : Module) (live : Point → LocalId → Bool) (decides : TellsLive m live)
    (results : (p : Point) (i : Inst) → step_in_module m p ≡ InstAt i → ResultInRange m p.func i.result)
    (phis : (f : FuncId) (b : BlockId) (to : Block) → block_in m f b ≡ Some to → InRange m f to.phis) where
  record Stands (p : Point) (s : Step) : Type 0 where
    function : Function
    is : slice_get m.funcs p.func.0 ≡ Some function
    step : step_of_point function p ≡ s

  IsThere : Step → Type 0
  IsThere NoStep = ⊥
  IsThere (PhiAt phi) = ⊤
  IsThere (InstAt i) = ⊤
  IsThere (TermAt t) = ⊤

  stands : (p : Point) (s : Step) → IsThere s → step_in_module m p ≡ s → Stands p s
  unfolding IsThere
  stands p s t h = by-function (slice_get m.funcs p.func.0) refl h
    where
      by-function : (o : Option Function) → slice_get m.funcs p.func.0 ≡ o → in-function o p ≡ s → Stands p s
      by-function None e h = absurd (subst IsThere (sym h) t)
      by-function (Some g) e h = record { function = g; is = e; step = h }

  -- a name that the step reads is live
  live-read : (p : Point) (s : Step) (at : Stands p s) (y : LocalId) → ((g : Function) → slice_get m.funcs p.func.0 ≡ Some g → Contains (step_reads g p.block s) y) → live p y ≡ true
  live-read p s at y h = (decides at.function p y at.is).1 (record {
    walk = [];
    follows = tt;
    reads = subst (λ z. Contains (step_reads at.function p.block z) y) (sym at.step) (h at.function at.is);
  })

  -- and one that is live at a successor and isn't defined
  live-before : (p : Point) (s : Step) → Stands p s → (q : Point) → q.func ≡ p.func → Contains (successors p s) q → (y : LocalId) → ¬ Contains (step_defines s) y → live q y ≡ true → live p y ≡ true
  live-before p s at q e c y n l =
      let w = (decides at.function q y (ap (λ f. slice_get m.funcs f.0) e ∙ at.is)).0 l in
      (decides at.function p y at.is).1 (record {
        walk = q ∷ w.walk;
        follows = (subst (λ z. Contains (successors p z) q) (sym at.step) c, w.follows);
        reads = (subst (λ z. ¬ Contains (step_defines z) y) (sym at.step) n, w.reads);
      })

  all-live : (p : Point) (as_ : List Operand) → ((y : LocalId) → Contains (flat_map reads as_) y → live p y ≡ true) → LiveOperands live p as_
  all-live p [] h = tt
  all-live p (operand.Const v ∷ as_) h = (tt, all-live p as_ h)
  all-live p (operand.Local x ∷ as_) h = (h x (contains-here x (flat_map reads as_)), all-live p as_ (λ y c. h y (Contains-append_right (x ∷ []) (flat_map reads as_) y c)))

  inst-reads : (p : Point) (i : Inst) → step_in_module m p ≡ InstAt i → LiveOperands live p (operands_of i.what)
  unfolding IsThere
  inst-reads p i h = all-live p (operands_of i.what) (λ y c. live-read p (InstAt i) (stands p (InstAt i) tt h) y (λ g e. c))

  not-option : (r : Option LocalId) (y : LocalId) → IsNot r y → ¬ Contains (option_to_list r) y
  not-option None y n c = let lt = c.1 in absurd (omega (arith, lt))
  not-option (Some x) y n c = not-single x y n c

  inst-passes : (p : Point) (i : Inst) (y : LocalId) → step_in_module m p ≡ InstAt i → live (next p) y ≡ true → IsNot i.result y → live p y ≡ true
  unfolding IsThere
  inst-passes p i y h l n = live-before p (InstAt i) (stands p (InstAt i) tt h) (next p) refl (contains-here (next p) []) y (not-option i.result y n) l

  term-reads : (p : Point) (t : Term) → step_in_module m p ≡ TermAt t → LiveOperands live p (term_operands t)
  unfolding IsThere
  term-reads p t h =
      all-live p (term_operands t) (λ y c. live-read p (TermAt t) (stands p (TermAt t) tt h) y (λ g e. Contains-append_left (flat_map reads (term_operands t)) (flat_map (λ b. phis_read p.block (block_at g b)) (edges t)) y c))

  -- the operands of phis
  live-entry : (p : Point) (es : List (Operand × BlockId)) → ((y : LocalId) → Contains (entries_read p.block es) y → live p y ≡ true) → LiveEntry live p (entry_for es p.block)
  live-entry p [] h = tt
  live-entry p (e ∷ es) h = by-test (e.1.0 == p.block.0) (λ h'. live-entry p es h') h
    where
      live-one : (a : Operand) → ((y : LocalId) → Contains (reads a ++ entries_read p.block es) y → live p y ≡ true) → LiveOperand live p a
      live-one (operand.Const v) h = tt
      live-one (operand.Local x) h = h x (Contains-append_left (x ∷ []) (entries_read p.block es) x (contains-here x []))

      by-test : (b : Bool) → (((y : LocalId) → Contains (entries_read p.block es) y → live p y ≡ true) → LiveEntry live p (entry_for es p.block)) → ((y : LocalId) → Contains ((if b then reads e.0 else []) ++ entries_read p.block es) y → live p y ≡ true) → LiveEntry live p (if b then Some e.0 else entry_for es p.block)
      by-test true ih h = live-one e.0 h
      by-test false ih h = ih h

  live-entries : (p : Point) (ps : List Phi) → ((y : LocalId) → Contains (flat_map (λ phi. entries_read p.block phi.entries) ps) y → live p y ≡ true) → LiveEntries live p ps p.block
  live-entries p [] h = tt
  live-entries p (phi ∷ ps) h =
      let e : List LocalId = entries_read p.block phi.entries in
      let f : List LocalId = flat_map (λ phi. entries_read p.block phi.entries) ps in
      (live-entry p phi.entries (λ y c. h y (Contains-append_left e f y c)), live-entries p ps (λ y c. h y (Contains-append_right e f y c)))

  block-of : (f : FuncId) (b : BlockId) (to : Block) (g : Function) → slice_get m.funcs f.0 ≡ Some g → block_in m f b ≡ Some to → block_at g b ≡ Some to
  block-of f b to g e h = sym (ap (λ o. given o (λ g. block_at g b)) e) ∙ h

  -- back over the phis of a block
  over-phis : (f : FuncId) (b : BlockId) (to : Block) (y : LocalId) → block_in m f b ≡ Some to → ((j : ℕ) (phi : Phi) → slice_get to.phis j ≡ Some phi → (phi.result.0 == y.0) ≡ false) → (n : ℕ) → n ≤ length to.phis → live (record { func = f; block = b; index = n }) y ≡ true → live (record { func = f; block = b; index = 0 }) y ≡ true
  unfolding IsThere
  over-phis f b to y hb none zero le l = l
  over-phis f b to y hb none (suc n) le l =
      over-phis f b to y hb none n (omega arith) (
      let phi = some-at to.phis n (omega arith) in
      let q : Point = record { func = f; block = b; index = n } in
      let s : step_in_module m q ≡ PhiAt phi.0 = step-is m q to hb ∙ ap (λ o. or-else o PhiAt (or-else (slice_get to.insts (n - length to.phis)) InstAt (ending to.term (n - (length to.phis + length to.insts))))) phi.1 in
      live-before q (PhiAt phi.0) (stands q (PhiAt phi.0) tt s) (record q { index = q.index + 1 }) refl (contains-here (record q { index = q.index + 1 }) []) y (not-single phi.0.result y (none n phi.0 phi.1))
      (subst (λ k. live (record { func = f; block = b; index = k }) y ≡ true) (let z : suc n ≡ n + 1 = omega arith in z) l)
      )

  none-of : (ps : List Phi) (y : LocalId) → IsNone ps y → (j : ℕ) (phi : Phi) → slice_get ps j ≡ Some phi → (phi.result.0 == y.0) ≡ false
  none-of [] y n j phi h = cc
  none-of (x ∷ ps) y n zero phi h = let s : x ≡ phi = cc in ap (λ z. z.result.0 == y.0) (sym s) ∙ n.0
  none-of (x ∷ ps) y n (suc j) phi h = none-of ps y n.1 j phi h

  along : (p : Point) (t : Term) (k : ℕ) (b : BlockId) → step_in_module m p ≡ TermAt t → slice_get (edges t) k ≡ Some b → EdgeFlows m live p b
  unfolding IsThere
  along p t k b h g =
      let at = stands p (TermAt t) tt h in record {
        reads = λ to hb. live-entries p to.phis (λ y c. live-read p (TermAt t) at y (λ f e. there to g y c f e hb));
        range = λ to hb. phis p.func b to hb;
        passes = λ to y hb l n.
            live-before p (TermAt t) at (first_point p b) refl (in-map (first_point p) (edges t) k b g) y (λ c. let lt = c.1 in absurd (omega (arith, lt)))
            (over-phis p.func b to y hb (none-of to.phis y n) (length to.phis) (omega arith) l);
      }
    where
      there : (to : Block) → slice_get (edges t) k ≡ Some b → (y : LocalId) → Contains (flat_map (λ phi. entries_read p.block phi.entries) to.phis) y → (f : Function) → slice_get m.funcs p.func.0 ≡ Some f → block_in m p.func b ≡ Some to → Contains (step_reads f p.block (TermAt t)) y
      there to g y c f e hb =
          Contains-append_right (flat_map reads (term_operands t)) (flat_map (λ b. phis_read p.block (block_at f b)) (edges t)) y
          (in-flat (λ b. phis_read p.block (block_at f b)) (edges t) k b y g (subst (λ o. Contains (phis_read p.block o) y) (sym (block-of p.func b to f e hb)) c))

  pub flows : Flows m live
  flows = record { inst_reads = inst-reads; inst_passes = inst-passes; inst_result = results; term_reads = term-reads; along = along }
