-- One token of look-ahead decides in types.
use Rattle.std.proofs.Common.{◌≡◌, ℕ, zero, suc, ◌+◌, Bool, false, true, List, [], ◌∷◌, refl, ap, ◌∙◌, arith, rules}
use Rattle.grammar.specs.Grammar.{Grammar, opt, grow, listed, preceded}
use Rattle.grammar.specs.LookAhead.{LL1, Starts, firsts, extensions, nullable, marks}
use Rattle.ir_tokens.specs.declared.kind.Kind.{Kind}
use Rattle.ir_tokens.specs.declared.kind.Kind.TheVariants as kind
use Rattle.ir_grammar.specs.declared.tree.TypeSyntax.{TypeSyntax}
use Rattle.ir_tokens.specs.Tokens.{tokens}
use Rattle.ir_grammar.specs.Types.{type_kinds, plain_type, byte_type, qubit_type, result_type, void_type, base_type, return_type_of, value_type_of, suffix_of, suffix_at, value_type_at, return_type}

-- the kinds by which types begin
abbrev pub type_firsts : List Kind
type_firsts = kind.I1 ∷ kind.I16 ∷ kind.I32 ∷ kind.I64 ∷ kind.DoubleType ∷ kind.I8 ∷ kind.QubitName ∷ kind.ResultName ∷ kind.Void ∷ []

module _ (suffix : TypeSyntax → Grammar tokens TypeSyntax) (p : (x : TypeSyntax) → LL1 (suffix x)) (f : (x : TypeSyntax) → firsts (suffix x) ≡ kind.Open ∷ []) (k : (x : TypeSyntax) → extensions (suffix x) ≡ []) (e : (x : TypeSyntax) → nullable (suffix x) ≡ false) where
  grown_decided : (x : TypeSyntax) → LL1 (grow x type_kinds suffix)
  grown_decided x = λ y. (p y, e y, rw (f y) refl, rw (k y) refl, λ z. rw (k y) refl)

  return_decided : LL1 (opt (return_type_of suffix))
  unfolding base_type plain_type byte_type qubit_type result_type void_type
  return_decided = (((search rules, search rules, refl, refl, refl), refl, λ x. (grown_decided x, rw (f x) refl, λ _. refl, refl)), refl)

  value_decided : LL1 (opt (value_type_of suffix))
  unfolding base_type plain_type byte_type qubit_type result_type void_type
  value_decided = (((search rules, (tt, refl, λ x. (p x, refl, λ _. refl, rw (k x) refl)), refl, refl, refl), refl, λ x. (grown_decided x, rw (f x) refl, λ _. refl, refl)), refl)

  members_decided : (n : ℕ) (x : TypeSyntax) → LL1 (suffix_of (value_type_of suffix) n x)
  unfolding base_type plain_type byte_type qubit_type result_type void_type listed preceded
  members_decided n x = let v = value_decided.0 in (tt, ((((v, ((tt, v, refl), refl, refl), refl), refl), tt, refl), tt, refl), refl)

suffix_firsts : (n : ℕ) (x : TypeSyntax) → firsts (suffix_at n x) ≡ kind.Open ∷ []
unfolding suffix_at
suffix_firsts zero x = refl
suffix_firsts (suc n) x = refl

suffix_extensions : (n : ℕ) (x : TypeSyntax) → extensions (suffix_at n x) ≡ []
unfolding suffix_at listed
suffix_extensions zero x = refl
suffix_extensions (suc n) x = refl

suffix_some : (n : ℕ) (x : TypeSyntax) → nullable (suffix_at n x) ≡ false
unfolding suffix_at
suffix_some zero x = refl
suffix_some (suc n) x = refl

suffix_marks : (n : ℕ) (x : TypeSyntax) → marks (suffix_at n x) ≡ false
unfolding suffix_at
suffix_marks zero x = refl
suffix_marks (suc n) x = refl

pub suffix_decided : (n : ℕ) (x : TypeSyntax) → LL1 (suffix_at n x)
unfolding suffix_at
suffix_decided zero x = tt
suffix_decided (suc n) x = members_decided (suffix_at n) (suffix_decided n) (suffix_firsts n) (suffix_extensions n) (suffix_some n) (suc n) x

pub suffix_starts : (n : ℕ) (x : TypeSyntax) → Starts (suffix_at n x) (kind.Open ∷ []) false
suffix_starts n x = record { decided = suffix_decided n x; some = suffix_some n x; begins = suffix_firsts n x; marked = suffix_marks n x }

pub suffix_within : (d e : ℕ) (x : TypeSyntax) → d ≡ e + 1 → suffix_at d x ≡ suffix_of (value_type_at e) (e + 1) x
unfolding suffix_at value_type_at
suffix_within zero e x h = absurd (omega arith)
suffix_within (suc d) e x h = let i : d ≡ e = omega arith in let j : suc d ≡ e + 1 = h in ap (λ y. suffix_of (value_type_of (suffix_at y)) (suc d) x) i ∙ ap (λ z. suffix_of (value_type_of (suffix_at e)) z x) j

pub type_starts : (n : ℕ) → Starts (value_type_at n) type_firsts true
unfolding value_type_at base_type plain_type byte_type qubit_type result_type void_type
type_starts n = record { decided = (value_decided (suffix_at n) (suffix_decided n) (suffix_firsts n) (suffix_extensions n) (suffix_some n)).0; some = refl; begins = refl; marked = refl }

pub type_extensions : (n : ℕ) → extensions (value_type_at n) ≡ type_kinds
unfolding value_type_at
type_extensions n = refl

pub return_starts : Starts return_type type_firsts true
unfolding return_type base_type plain_type byte_type qubit_type result_type void_type
return_starts = record { decided = (return_decided (suffix_at 64) (suffix_decided 64) (suffix_firsts 64) (suffix_extensions 64) (suffix_some 64)).0; some = refl; begins = refl; marked = refl }
