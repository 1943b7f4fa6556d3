-- Returns.
use Rattle.std.proofs.Common.{◌≡◌, ◌⊎◌, inl, inr, ⊎_elim, ℕ, ◌+◌, ◌==◌, Bool, true, false, Option, None, Some, List, [], ◌∷◌, slice_get, refl, sym, ap, ◌∙◌, subst, arith}
use Rattle.std.proofs.lemmas.Bool.{and_parts, eqb-true}
use Rattle.std.specs.Prelude.{◌||◌, not, pos}
use Rattle.ir_module.specs.declared.places.Point.{Point}
use Rattle.ir_module.specs.declared.tree.Function.{Function}
use Rattle.ir_module.specs.declared.tree.InstKind.{InstKind}
use Rattle.ir_module.specs.declared.tree.InstKind.TheVariants as kinds
use Rattle.ir_module.specs.Numbered.{is_void}
use Rattle.ir_module.specs.Steps.{InstAt}
use Rattle.ir_values.specs.declared.ids.FuncId.{FuncId}
use Rattle.ir_values.specs.declared.ids.LocalId.{LocalId}
use Rattle.ir_values.specs.declared.int.Width.{Width}
use Rattle.ir_values.specs.declared.int.Width.TheVariants.{W1, W8, W16, W32, W64}
use Rattle.ir_values.specs.declared.ty.Ty.{Ty}
use Rattle.ir_values.specs.declared.ty.Ty.TheVariants as ty
use Rattle.ir_values.specs.Int.{IntValue, signed}
use Rattle.kept_items.specs.declared.item.Code.TheVariants as code
use Rattle.kept_items.specs.declared.target.Kind.TheVariants as kind
use Rattle.kept_items.specs.declared.val.Val.{Val}
use Rattle.kept_items.specs.declared.val.Val.TheVariants.{Known, Dynamic}
use Rattle.kept_items.specs.Targets.{has_returns}
use Rattle.static_steps.specs.declared.turn.Turn.TheVariants.{Bad, Exits}
use Rattle.static_steps.specs.declared.work.Work.{Work}
use Rattle.static_steps.specs.declared.work.WorkFrame.{WorkFrame}
use Rattle.static_steps.specs.Configurations.{Bounds, Calls}
use Rattle.static_steps.specs.Returns.{back_turn, call_result, exits, exits_int, resumes}
use Rattle.static_steps.specs.Settings.{Setting, goes}
use Rattle.static_steps.specs.Values.{put_result}
use Rattle.type_check.specs.Faults.{Typed}
use Rattle.type_check.specs.Required.{required_qubits, required_results}
use Rattle.type_check.specs.Rules.{kind_agrees, result_agrees}
use Rattle.type_check.specs.Typing.{is_of_type, local_type, result_type}
use Rattle.type_check.proofs.Facts.{step-in, step-keeps}
use Rattle.typed_runs.specs.Fits.{IsCode as IsCodeType}
use Rattle.valid_steps.specs.Items.{IsOperand}
use Rattle.valid_steps.proofs.Names.{put-result-each, put-result-rises}
use Rattle.valid_steps.proofs.Operands.{by-int, never-varies}
use Rattle.valid_steps.proofs.Places.{result-before}
use Rattle.valid_steps.proofs.Turns.{IsGood, follows-at, either-good, goes-good, named}
use Rattle.valid_steps.proofs.Works.{AreBelow, IsTop, IsValName, IsWork, WaitsFor, bounds_of}

zero-is : (w : Width) → signed (record { width = w; bits = 0 }) ≡ pos 0
zero-is W1 = refl
zero-is W8 = refl
zero-is W16 = refl
zero-is W32 = refl
zero-is W64 = refl

signed-zero : (i : IntValue) → i.bits ≡ 0 → signed i ≡ pos 0
signed-zero i e = ap (λ n. signed (record { width = i.width; bits = n })) e ∙ zero-is i.width

or-true : (a b : Bool) → (a || b) ≡ true → (a ≡ true) ⊎ (b ≡ true)
or-true true b e = inl refl
or-true false b e = inr e

-- the type of what a call gives
call-type : (what : InstKind) (u : Ty) → Calls u what → result_type what ≡ u
call-type (kinds.Call ret g args) u h = h
call-type what u h = absurd h

not-void : (u : Ty) → u ≡ ty.Void → not (is_void u) ≡ true → ⊥
not-void ty.Void e h = cc
not-void u e h = cc

module _ (s : Setting) (entry : FuncId) (limit : ℕ) (typed : Typed s.m limit) (ts : List (Option Ty)) where
  abbrev K : ℕ
  K = required_qubits s.m limit

  abbrev R : ℕ
  R = required_results s.m limit

  module _ (now : IsWork s.m s.t s.live entry K R ts s.w) where
    abbrev here : Bounds
    here = bounds_of s.m s.t s.live entry K R s.w

    -- what a function gives that returns the type
    abbrev pub Gives : Ty → Option Val → Type 0
    Gives u None = u ≡ ty.Void
    Gives u (Some a) = IsOperand s.m s.t here ts u a

    -- ---- from the entry

    no-void : (a : Val) → IsOperand s.m s.t here ts ty.Void a → ⊥
    no-void (Known v) h = h
    no-void (Dynamic d) h = never-varies s.t ty.Void refl h.0

    exits-int : (i : IntValue) → IsGood s entry K R ts (exits_int s i)
    exits-int i =
        either-good s entry K R ts (has_returns s.t || (i.bits == 0)) (Exits (code.Known (signed i))) (Bad kind.Capability)
        (λ e. ⊎_elim (λ h. inl h) (λ h. inr (signed-zero i (eqb-true i.bits 0 h))) (or-true (has_returns s.t) (i.bits == 0) e))
        (λ e. tt)

    exits-some : (a : Val) → IsOperand s.m s.t here ts (ty.Int W64) a → IsGood s entry K R ts (exits s (Some a))
    exits-some a h =
        by-int s.m s.t here ts (λ y. IsGood s entry K R ts (exits s (Some y))) W64 a h (λ i e. exits-int i)
        (λ d vary is. either-good s entry K R ts (has_returns s.t) (Exits (code.Dynamic d)) (Bad kind.Capability) (λ e. (e, is)) (λ e. tt))

    exits-good : (u : Ty) → IsCodeType u → (o : Option Val) → Gives u o → IsGood s entry K R ts (exits s o)
    exits-good u c None h = inr refl
    exits-good u (inl e) (Some a) h = exits-some a (subst (λ q. IsOperand s.m s.t here ts q a) e h)
    exits-good u (inr e) (Some a) h = absurd (no-void a (subst (λ q. IsOperand s.m s.t here ts q a) e h))

    -- ---- to the frame that waits

    module _ (h : WorkFrame) (hs : List WorkFrame) (j : Function) (top : IsTop s.m s.t here ts j h) (wait : WaitsFor s.m now.function h) (rest : AreBelow s.m s.t s.live entry here ts h.at.func j hs) where
      agrees : result_agrees j wait.instruction.result now.function.ret ≡ true
      agrees =
          let at = subst (λ (p : Point). slice_get s.m.funcs p.func.0 ≡ Some j) wait.follows top.in_function in
          let keeps = step-keeps s.m limit typed wait.call j at (InstAt wait.instruction) (sym (step-in s.m wait.call j at) ∙ wait.is) in
          let shape = and_parts (kind_agrees wait.instruction.what) (result_agrees j wait.instruction.result (result_type wait.instruction.what)) keeps.shape in
          subst (λ u. result_agrees j wait.instruction.result u ≡ true) (call-type wait.instruction.what now.function.ret wait.calls) shape.1

      index-later : h.at.index ≡ wait.call.index + 1
      index-later = ap (λ (p : Point). p.index) wait.follows

      with-value : (x : Option LocalId) (a : Val) → result_agrees j x now.function.ret ≡ true → IsOperand s.m s.t here ts now.function.ret a
          → IsGood s entry K R ts (goes s (record s.w { top = record { at = h.at; names = put_result x a h.names }; below = hs }))
      with-value x a ag g =
          let u : Work = record s.w { top = record { at = h.at; names = put_result x a h.names }; below = hs } in
          goes-good s entry K R ts u
          (record {
            function = j;
            top = record {
              in_function = top.in_function;
              stands = top.stands;
              rises = put-result-rises x a h.names top.rises;
              names = put-result-each (IsValName s.m s.t here ts j) x a h.names (λ y e. record { type = now.function.ret; is = named j x now.function.ret ag y e; typed = g }) top.names;
            };
            below = rest;
            held = now.held;
            ordered = now.ordered;
            phase = now.phase;
          })
          (follows-at s entry K R ts u wait.call.index index-later (omega arith) (omega arith))

      resumed : (x : Option LocalId) (o : Option Val) → result_agrees j x now.function.ret ≡ true → Gives now.function.ret o → IsGood s entry K R ts (resumes s h hs (Some x) o)
      resumed None (Some a) ag g = with-value None a ag g
      resumed (Some x) (Some a) ag g = with-value (Some x) a ag g
      resumed None None ag g =
          let u : Work = record s.w { top = h; below = hs } in
          goes-good s entry K R ts u (record { function = j; top = top; below = rest; held = now.held; ordered = now.ordered; phase = now.phase })
          (follows-at s entry K R ts u wait.call.index index-later (omega arith) (omega arith))
      resumed (Some x) None ag g = absurd (not-void now.function.ret g (and_parts (is_of_type (local_type j x) now.function.ret) (not (is_void now.function.ret)) ag).1)

      resumes-good : (o : Option Val) → Gives now.function.ret o → IsGood s entry K R ts (resumes s h hs (call_result s.m h.at) o)
      resumes-good o g =
          subst (λ q. IsGood s entry K R ts (resumes s h hs q o)) (sym (ap (call_result s.m) wait.follows ∙ result-before s.m wait.call wait.instruction wait.is))
          (resumed wait.instruction.result o agrees g)

    module _ (codes : (f : Function) → slice_get s.m.funcs entry.0 ≡ Some f → IsCodeType f.ret) where
      by-below : (hs : List WorkFrame) → AreBelow s.m s.t s.live entry here ts s.w.top.at.func now.function hs → (o : Option Val) → Gives now.function.ret o → IsGood s entry K R ts (back_turn s hs o)
      by-below [] b o g = exits-good now.function.ret (codes now.function (subst (λ (f : FuncId). slice_get s.m.funcs f.0 ≡ Some now.function) b now.top.in_function)) o g
      by-below (h ∷ hs) b o g = resumes-good h hs b.0 b.1 b.3 b.4 o g

      pub back-good : (o : Option Val) → Gives now.function.ret o → IsGood s entry K R ts (back_turn s s.w.below o)
      back-good o g = by-below s.w.below now.below o g
