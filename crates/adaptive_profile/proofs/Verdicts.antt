-- What is told of each part of a module is what the rules say.
use Rattle.std.proofs.Common.{◌≡◌, ℕ, ◌==◌, ◌&&◌, ◌||◌, not, Bool, false, List, [], ◌∷◌, None, Some, refl}
use Rattle.std.specs.List.{list_any}
use Rattle.std.specs.Prelude.{codes}
use Rattle.ir_module.specs.declared.places.Point.{Point}
use Rattle.ir_module.specs.declared.tree.Function.{Function}
use Rattle.ir_module.specs.declared.tree.Inst.{Inst}
use Rattle.ir_module.specs.declared.tree.InstKind.{InstKind}
use Rattle.ir_module.specs.declared.tree.InstKind.TheVariants as kind
use Rattle.ir_module.specs.declared.tree.Module.{Module}
use Rattle.ir_module.specs.declared.tree.Phi.{Phi}
use Rattle.ir_module.specs.declared.tree.Term.{Term}
use Rattle.ir_module.specs.Numbered.{is_int}
use Rattle.ir_module.specs.Steps.{Step, PhiAt, InstAt, TermAt}
use Rattle.profile_rules.specs.Adaptive as spec
use Rattle.profile_rules.specs.Adaptive.{adaptive_rules_by, is_on, kind_computes, kind_selects_other}
use Rattle.profile_rules.specs.Calls.{Call, call_of_kind, called_class, calls_body, has_count, is_init, is_int_record, passes}
use Rattle.profile_rules.specs.Findings.{broken, broken_by_step, broken_by_function}
use Rattle.profile_rules.specs.Shared.{is_first_of_entry, names_other_profile, lacks_labeling_schema, lacks_required_number, has_other_body}
use Rattle.adaptive_profile.specs.code.Pairs.{returns_by}

a-call : (k : InstKind) (c : Call) → call_of_kind k ≡ Some c → kind_computes k ≡ false
a-call (kind.Binary o flags t a b) c e = cc
a-call (kind.Icmp p t a b) c e = cc
a-call (kind.Convert o t a to) c e = cc
a-call (kind.Select d t a u b) c e = cc
a-call (kind.Call ret g args) c e = refl

no-choice : (k : InstKind) (c : Call) → call_of_kind k ≡ Some c → kind_selects_other k ≡ false
no-choice (kind.Binary o flags t a b) c e = refl
no-choice (kind.Icmp p t a b) c e = refl
no-choice (kind.Convert o t a to) c e = refl
no-choice (kind.Select d t a u b) c e = cc
no-choice (kind.Call ret g args) c e = refl

module _ (cyclic : Point → Bool) (pairs : List (ℕ × ℕ)) (m : Module) (e : ℕ) (f : Function) (p : Point) where
  abbrev returning : Point → Step → Bool
  returning q s = returns_by pairs q.func.0 (spec.number_called s)

  -- an instruction that is no call
  pub other : (i : Inst) (integers computed choice : Bool) → call_of_kind i.what ≡ None
      → integers ≡ is_on spec.integers_key m
      → computed ≡ (kind_computes i.what && not integers)
      → choice ≡ kind_selects_other i.what
      → broken (λ (b : Bool). b) ((9, computed) ∷ (10, choice) ∷ []) ≡ broken_by_step (adaptive_rules_by cyclic returning m e) f p (InstAt i)
  other i integers computed choice q n k o = rw (k, o, n, q) refl

  -- a call
  pub call : (i : Inst) (c : Call) (integers known record_ handle label late back : Bool) → call_of_kind i.what ≡ Some c
      → integers ≡ is_on spec.integers_key m
      → known ≡ (calls_body m c || passes (called_class m c.callee) spec.is_adaptive_class)
      → record_ ≡ (passes (called_class m c.callee) is_int_record && not integers)
      → handle ≡ list_any (λ a. spec.is_function_type a.0 || (spec.is_handle a.0 && not (spec.is_fixed (p.func.0 == e) f a.1))) c.args
      → label ≡ (list_any (λ a. spec.is_label_or_double a.0 && not (spec.is_fixed (p.func.0 == e) f a.1)) c.args
      || (passes (called_class m c.callee) has_count && list_any (λ a. not (spec.is_fixed (p.func.0 == e) f a.1)) (spec.first_of c.args)))
      → late ≡ (passes (called_class m c.callee) is_init && not (is_first_of_entry e p))
      → back ≡ returns_by pairs p.func.0 (spec.callee_number c.callee)
      → broken (λ (b : Bool). b) ((11, not known) ∷ (12, record_) ∷ (13, handle) ∷ (14, label) ∷ (15, late) ∷ (16, back) ∷ []) ≡ broken_by_step (adaptive_rules_by cyclic returning m e) f p (InstAt i)
  call i c integers known record_ handle label late back q n k r h l t b = rw (k, r, h, l, t, b, n, q, a-call i.what c q, no-choice i.what c q) refl

  pub phi : (x : Phi) (integers wide choice : Bool)
      → integers ≡ is_on spec.integers_key m
      → wide ≡ (spec.type_of_local f x.result spec.is_wide && not integers)
      → choice ≡ spec.type_of_local f x.result (λ t. not (is_int t))
      → broken (λ (b : Bool). b) ((9, wide) ∷ (10, choice) ∷ []) ≡ broken_by_step (adaptive_rules_by cyclic returning m e) f p (PhiAt x)
  phi x integers wide choice n w o = rw (w, o, n) refl

  pub term : (t : Term) (backwards switches returns loop switch later : Bool)
      → backwards ≡ is_on spec.backwards_key m
      → switches ≡ is_on spec.switches_key m
      → returns ≡ is_on spec.returns_key m
      → loop ≡ (cyclic p && not backwards)
      → switch ≡ (spec.is_switch (TermAt t) && not switches)
      → later ≡ (spec.is_later_return f p (TermAt t) && not returns)
      → broken (λ (b : Bool). b) ((6, loop) ∷ (7, switch) ∷ (8, later) ∷ []) ≡ broken_by_step (adaptive_rules_by cyclic returning m e) f p (TermAt t)
  term t backwards switches returns loop switch later a b c l s r = rw (l, s, r, a, b, c) refl

module _ (cyclic : Point → Bool) (pairs : List (ℕ × ℕ)) (m : Module) (e : ℕ) (g : ℕ) (f : Function) where
  pub function : (functions profile schema number body : Bool)
      → functions ≡ is_on spec.functions_key m
      → profile ≡ ((g == e) && names_other_profile (codes "adaptive_profile") f)
      → schema ≡ ((g == e) && lacks_labeling_schema f)
      → number ≡ ((g == e) && lacks_required_number f)
      → body ≡ (has_other_body e g f && not functions)
      → broken (λ (b : Bool). b) ((1, profile) ∷ (2, schema) ∷ (3, number) ∷ (5, body) ∷ []) ≡ broken_by_function (adaptive_rules_by cyclic (λ q s. returns_by pairs q.func.0 (spec.number_called s)) m e) g (Some f)
  function functions profile schema number body n p s r b = rw (p, s, r, b, n) refl
