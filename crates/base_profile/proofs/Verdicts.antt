-- What is told of each part of a module is what the rules say.
use Rattle.std.proofs.Common.{◌≡◌, ℕ, zero, suc, ◌<◌, ◌==◌, ◌&&◌, not, Bool, true, false, List, [], ◌∷◌, None, Some, refl, sym, ap, ◌∙◌, subst, slice_get, arith}
use Rattle.std.specs.Prelude.{codes}
use Rattle.std.specs.List.{list_any}
use Rattle.ir_module.specs.declared.places.Point.{Point}
use Rattle.ir_module.specs.declared.tree.Function.{Function}
use Rattle.ir_module.specs.declared.tree.Inst.{Inst}
use Rattle.ir_module.specs.declared.tree.InstKind.{InstKind}
use Rattle.ir_module.specs.declared.tree.InstKind.TheVariants as kind
use Rattle.ir_module.specs.declared.tree.Module.{Module}
use Rattle.ir_module.specs.Steps.{InstAt}
use Rattle.profile_rules.specs.declared.finding.Form.{Form}
use Rattle.profile_rules.specs.Base.{base_rules, fits_position, is_no_call, is_strict, is_base_class, has_other_blocks, returns_no_code, is_unmarked_measurement}
use Rattle.profile_rules.specs.Calls.{Call, call_of_kind, called_class, calls_irreversible, is_constant, is_init, passes}
use Rattle.profile_rules.specs.Findings.{broken, broken_by_step, broken_by_function}
use Rattle.profile_rules.specs.Shared.{is_first_of_entry, on_entry, names_other_profile, lacks_labeling_schema, lacks_required_number, has_other_body}
use Rattle.profile_rules.specs.Walk.{walk_position}
use Rattle.std.specs.Prelude.{unwrap_or, length}
use Rattle.std.proofs.lemmas.Bool.Decides.{nat_tests}
use Rattle.ir_module.specs.Tree.{blocks_of}
use Rattle.findings.specs.code.Within.{IsFunction, IsWithin}
use Rattle.base_profile.specs.code.Walked.{ArePositions}
use Rattle.base_profile.specs.code.Order.{fits_class}

pub fits : (m : Module) (n : ℕ) (c : Call) → fits_position m n c ≡ fits_class n (called_class m c.callee) (calls_irreversible m c)
fits m zero c = refl
fits m (suc zero) c = refl
fits m (suc (suc zero)) c = refl
fits m (suc (suc (suc zero))) c = refl
fits m (suc (suc (suc (suc n)))) c = refl

no-call : (k : InstKind) → call_of_kind k ≡ None → is_no_call k ≡ true
no-call (kind.Binary o flags t a b) e = refl
no-call (kind.Icmp p t a b) e = refl
no-call (kind.Convert o t a to) e = refl
no-call (kind.Select c t a u b) e = refl
no-call (kind.Call ret g args) e = cc

a-call : (k : InstKind) (c : Call) → call_of_kind k ≡ Some c → is_no_call k ≡ false
a-call (kind.Binary o flags t a b) c e = cc
a-call (kind.Icmp p t a b) c e = cc
a-call (kind.Convert o t a to) c e = cc
a-call (kind.Select d t a u b) c e = cc
a-call (kind.Call ret g args) c e = refl

-- the function of the entry's number is the entry
pub on-entry : (test : Function → Bool) (fs : List Function) (g e : ℕ) (f entry : Function) → slice_get fs g ≡ Some f → slice_get fs e ≡ Some entry
    → ((g == e) && test entry) ≡ ((g == e) && test f)
on-entry test fs g e f entry p q = at (g == e) refl
  where
    at : (b : Bool) → (g == e) ≡ b → (b && test entry) ≡ (b && test f)
    at false t = refl
    at true t =
        let s : g ≡ e = grind (arith, nat_tests) in
        let x : Some f ≡ Some entry = sym p ∙ ap (slice_get fs) s ∙ q in
        let y : entry ≡ f = cc in
        ap test y

and-false : (b : Bool) → (b && false) ≡ false
and-false true = refl
and-false false = refl

pub order : (m : Module) (e : ℕ) (entry f : Function) (p : Point) (c : Call) (strict : Bool) (positions : List ℕ)
    → IsFunction m e entry → IsWithin m f p → ArePositions (blocks_of entry) positions
    → (not (fits_class (unwrap_or (slice_get positions p.block.0) 0) (called_class m c.callee) (calls_irreversible m c)) && ((p.func.0 == e) && strict))
    ≡ (not (fits_position m (walk_position f p.block.0) c) && ((p.func.0 == e) && strict))
order m e entry f p c strict positions q w t = at (p.func.0 == e) refl
  where
    at : (b : Bool) → (p.func.0 == e) ≡ b
        → (not (fits_class (unwrap_or (slice_get positions p.block.0) 0) (called_class m c.callee) (calls_irreversible m c)) && (b && strict))
        ≡ (not (fits_position m (walk_position f p.block.0) c) && (b && strict))
    at false s = and-false (not (fits_class (unwrap_or (slice_get positions p.block.0) 0) (called_class m c.callee) (calls_irreversible m c))) ∙ sym (and-false (not (fits_position m (walk_position f p.block.0) c)))
    at true s =
        let same : p.func.0 ≡ e = grind (arith, nat_tests) in
        let x : Some f ≡ Some entry = sym w.function ∙ ap (slice_get m.funcs) same ∙ q in
        let y : f ≡ entry = cc in
        let l : p.block.0 < length (blocks_of entry) = subst (λ g. p.block.0 < length (blocks_of g)) y w.block in
        let n : unwrap_or (slice_get positions p.block.0) 0 ≡ walk_position f p.block.0 = ap (λ o. unwrap_or o 0) (t.exact p.block.0 l) ∙ ap (λ g. walk_position g p.block.0) (sym y) in
        ap (λ k. not (fits_class k (called_class m c.callee) (calls_irreversible m c)) && (true && strict)) n
        ∙ ap (λ b. not b && (true && strict)) (sym (fits m (walk_position f p.block.0) c))

module _ (shape : Form) (m : Module) (e : ℕ) (entry f : Function) (p : Point) where
  -- an instruction that is no call
  pub other : (i : Inst) (b : Bool) → call_of_kind i.what ≡ None → b ≡ (p.func.0 == e)
      → broken (λ (b : Bool). b) ((9, b) ∷ []) ≡ broken_by_step (base_rules shape m e entry) f p (InstAt i)
  other i b q k = rw (k, q, no-call i.what q) refl

  -- a call
  pub call : (i : Inst) (c : Call) (other computed order late : Bool) → call_of_kind i.what ≡ Some c
      → other ≡ not (passes (called_class m c.callee) is_base_class)
      → computed ≡ list_any (λ a. not (is_constant a.1)) c.args
      → order ≡ (not (fits_position m (walk_position f p.block.0) c) && ((p.func.0 == e) && is_strict shape))
      → late ≡ (passes (called_class m c.callee) is_init && not (is_first_of_entry e p))
      → broken (λ (b : Bool). b) ((10, other) ∷ (11, computed) ∷ (12, order) ∷ (14, late) ∷ []) ≡ broken_by_step (base_rules shape m e entry) f p (InstAt i)
  call i c other computed order late q o a k l = rw (o, a, k, l, q, a-call i.what c q) refl

module _ (shape : Form) (m : Module) (e : ℕ) (entry : Function) (g : ℕ) (f : Function) where
  pub function : (profile schema number body blocks code unmarked : Bool)
      → profile ≡ on_entry e (names_other_profile (codes "base_profile")) g f
      → schema ≡ on_entry e lacks_labeling_schema g f
      → number ≡ on_entry e lacks_required_number g f
      → body ≡ has_other_body e g f
      → blocks ≡ on_entry e (has_other_blocks shape) g f
      → code ≡ (is_strict shape && on_entry e returns_no_code g f)
      → unmarked ≡ (is_strict shape && is_unmarked_measurement entry g f)
      → broken (λ (b : Bool). b) ((1, profile) ∷ (2, schema) ∷ (3, number) ∷ (5, body) ∷ (7, blocks) ∷ (8, code) ∷ (13, unmarked) ∷ []) ≡ broken_by_function (base_rules shape m e entry) g (Some f)
  function profile schema number body blocks code unmarked p s n b k c u = rw (p, s, n, b, k, c, u) refl
