use Rattle.std.proofs.Common.{◌≡◌, sym, ◌∙◌, subst, ap, map, Some, List, Option, Result, IfOk}
use Rattle.ir_module.specs.declared.tree.Callee.{Callee}
use Rattle.ir_module.specs.declared.tree.InstKind.TheVariants as kind
use Rattle.ir_module.specs.declared.tree.Operand.{Operand}
use Rattle.ir_module.specs.Operands.{callee_operand}
use Rattle.ir_values.specs.declared.ids.LocalId.{LocalId}
use Rattle.ir_values.specs.declared.memory.Memory.{Memory}
use Rattle.ir_values.specs.declared.ty.Ty.{Ty}
use Rattle.kept_items.specs.declared.val.Val.{Val}
use Rattle.static_steps.specs.declared.turn.Turn.{Turn}
use Rattle.static_steps.specs.Settings.{Setting}
use Rattle.static_steps.specs.Values.{val_of, vals_of}
use Rattle.step_parts.specs.code.Scenes.{at}
use Rattle.inliner.specs.code.Instructions.{call_of, inst_of}
use Rattle.inliner.proofs.Called.{call_is}
use Rattle.inliner.proofs.calls.call.Goals as goal

call-on : (s : Setting) (x : Option LocalId) (ret : Ty) (c : Callee) (args read told : List (Ty × Operand)) (f : Val) (vs given : List Val)
    (r : Result Turn Memory) → read ≡ args → told ≡ args → given ≡ vs
    → val_of s.w.top.names (callee_operand c) ≡ Some f → vals_of s.w.top.names (map (λ a. a.1) read) ≡ Some vs
    → IfOk r (λ turn. turn ≡ call_of s x f (map (λ a. a.0) told) given) → IfOk r (λ turn. turn ≡ inst_of s x (kind.Call ret c args))
call-on s x ret c args read told f vs given r a b d e h q =
    let all : vals_of s.w.top.names (map (λ a. a.1) args) ≡ Some vs = sym (ap (λ as'. vals_of s.w.top.names (map (λ a. a.1) as')) a) ∙ h in
    let is : call_of s x f (map (λ a. a.0) told) given ≡ inst_of s x (kind.Call ret c args) =
    ap (λ ts. call_of s x f (map (λ a. a.0) ts) given) b ∙ (ap (call_of s x f (map (λ a. a.0) args)) d ∙ sym (call_is s x ret c args f vs e all)) in
    let P : Turn → Type 0 = λ t. IfOk r (λ turn. turn ≡ t) in
    subst P is q

pub returns-in-Some-Some : goal.returns-in-Some-Some
returns-in-Some-Some c =
    call-on (at c.args.s.now) c.args.x c.args.ret.now c.args.callee.now c.args.args.now _ _ c.in-Some-Some.f c.in-Some-Some.vals _ c.call_value.result
    c.as_slice.ensures c.as_slice-in-Some-Some.ensures c.as_slice-in-Some-Some-2.ensures (sym c.in_ok-callee_of.ensures ∙ c.in-Some-Some.is-0)
    (sym c.in_ok-vals.ensures ∙ c.in-Some-Some.is-1) c.call_value.ensures
