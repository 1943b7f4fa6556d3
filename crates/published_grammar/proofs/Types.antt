-- Types are those of the factored grammar.
use Rattle.std.specs.Prelude.{nat_lt, if◌then◌else◌}
use Rattle.std.proofs.Common.{◌≡◌, ℕ, zero, suc, ◌+◌, ◌<◌, ◌≤◌, Bool, true, false, Some, None, List, [], ◌∷◌, inl, inr, refl, sym, ap, ◌∙◌, arith}
use Rattle.std.proofs.lemmas.Bool.Decides.{nat_tests}
use Rattle.grammar.specs.Grammar.{Grammar, second, alt}
use Rattle.grammar.specs.Language.{Derives}
use Rattle.ir_values.specs.declared.ty.Ty.TheVariants as ty
use Rattle.ir_tokens.specs.declared.rule.Rule.{Rule}
use Rattle.ir_tokens.specs.declared.rule.Rule.TheVariants.{TooDeep}
use Rattle.ir_tokens.specs.declared.token.Token.{Token}
use Rattle.ir_tokens.specs.Tokens.{tokens}
use Rattle.ir_grammar.specs.declared.tree.TypeSyntax.{TypeSyntax}
use Rattle.ir_grammar.specs.SideRules.{unless}
use Rattle.ir_grammar.specs.Types as factored
use Rattle.ir_grammar.specs.Types.{type_kinds, base_type, void_type, qubit_type, result_type, deepest, function_pointer, suffix_of, suffix_at, value_type, value_type_at, value_type_of, return_type_of}
use Rattle.published_grammar.specs.Types.{integer, double, text, simple_type, or_void, type_by, type_of, parameters, type_at, type, return_type}
use Rattle.published_grammar.proofs.Algebra.{Same, within_through, same_itself, same_through, same_marked, same_as_tree, same_dep, same_alt, same_seq, same_grow}
use Rattle.published_grammar.proofs.Factoring.{within_mark}
use Rattle.published_grammar.proofs.Forms.{same_before, same_commas, mark_out}
use Rattle.published_grammar.proofs.TypesBothWays.{more, type_there, value_type_same, return_type_same}

suffix_same : (a b : Grammar tokens TypeSyntax) (n : ℕ) (x : TypeSyntax) → Same a b → Same (suffix_of a n x) (suffix_of b n x)
suffix_same a b n x p = same_as_tree _ (same_seq (same_itself _) (same_before _ (same_before _ (same_commas p))))

-- what stands behind a return type makes the type deeper

deepest_least : (n : ℕ) (xs : List TypeSyntax) → n ≤ deepest n xs
deepest_least n [] = omega arith
deepest_least n (x ∷ xs) = go (nat_lt n x.nesting) refl (deepest_least x.nesting xs) (deepest_least n xs)
  where
    go : (b : Bool) → nat_lt n x.nesting ≡ b → x.nesting ≤ deepest x.nesting xs → n ≤ deepest n xs → n ≤ deepest (if b then x.nesting else n) xs
    go true e h k = let i : n < x.nesting = grind (arith, nat_tests) in omega (arith, i, h)
    go false e h k = k

unless_kept : (b : Bool) (r : Rule) → unless b r ≡ None → b ≡ true
unless_kept true r e = refl
unless_kept false r e = absurd (cc)

pub deeper : (left : ℕ) (x : TypeSyntax) (ts : List Token) (y : TypeSyntax) → Derives (parameters left x) ts y → (x.nesting < left) × (x.nesting < y.nesting)
unfolding parameters
deeper zero x ts y (t, w, e) = absurd (let f : Some TooDeep ≡ None = w.2 in cc)
deeper (suc left) x ts y (p, (us, vs, e, w, v), i) =
    let f : nat_lt x.nesting (suc left) ≡ true = unless_kept (nat_lt x.nesting (suc left)) TooDeep w.2 in
    let j : y.nesting ≡ deepest x.nesting p.1 + 1 = ap (λ z. z.nesting) i in
    let k = deepest_least x.nesting p.1 in
    let m : x.nesting < suc left = grind (arith, nat_tests) in
    (m, omega (arith, j, k))

grown_same : (a b : TypeSyntax → Grammar tokens TypeSyntax) → ((x : TypeSyntax) → Same (a x) (b x)) → Same (value_type_of a) (value_type_of b)
grown_same a b h = same_marked (same_as_tree _ (same_dep type_kinds type_kinds (same_alt (same_itself base_type) (same_as_tree second (same_dep [] [] (same_itself void_type) h))) (λ x. same_grow x type_kinds type_kinds h)))

returned_same : (a b : TypeSyntax → Grammar tokens TypeSyntax) → ((x : TypeSyntax) → Same (a x) (b x)) → Same (return_type_of a) (return_type_of b)
returned_same a b h = same_marked (same_as_tree _ (same_dep type_kinds type_kinds (same_itself _) (λ x. same_grow x type_kinds type_kinds h)))

types_at : (left : ℕ) → ((x : TypeSyntax) → Same (parameters left x) (suffix_at left x)) → Same (type_of (parameters left) (suc left)) (value_type_of (suffix_at left))
types_at left h = same_through (value_type_same (parameters left) left (deeper left)) (grown_same (parameters left) (suffix_at left) h)

parameters_same : (left : ℕ) (x : TypeSyntax) → Same (parameters left x) (suffix_at left x)
unfolding parameters suffix_at
parameters_same zero x = same_itself _
parameters_same (suc left) x = suffix_same (type_of (parameters left) (suc left)) (value_type_of (suffix_at left)) (suc left) x (types_at left (parameters_same left))

pub type_same : Same type value_type
unfolding type_at value_type_at
type_same = types_at 64 (parameters_same 64)

pub return_same : Same return_type factored.return_type
unfolding type_at return_type factored.return_type
return_same = same_through (return_type_same (parameters 64) 64 (deeper 64)) (returned_same (parameters 64) (suffix_at 64) (parameters_same 64))

-- the production type holds of itself: one more function pointer type in front of the others changes nothing
pub type_holds : (left : ℕ) → Same (type_at left) (type_by (or_void (type_at left)) (parameters left))
unfolding type_at type_of
type_holds left =
    record { there = more (parameters left) (suc left); back = within_through (type_there (parameters left) (suc (suc left))) (value_type_same (parameters left) left (deeper left)).back }

-- a return type is a type or "void", also where the mark is left to the type
pub return_cases : Same return_type (alt type void_type)
unfolding type_at return_type type_of
return_cases = record { there = mark_out _ void_type; back = within_mark _ }

-- A type isn't "void".

simple_is_value : (ts : List Token) (x : TypeSyntax) → Derives simple_type ts x → x.ty ≡ ty.Void → ⊥
unfolding simple_type integer double text qubit_type result_type
simple_is_value ts x (inl (t, w, i)) e = let f = sym (ap (λ z. z.ty) i) ∙ e in cc
simple_is_value ts x (inr (inl (t, w, i))) e = let f = sym (ap (λ z. z.ty) i) ∙ e in cc
simple_is_value ts x (inr (inr (inl (t, w, i)))) e = let f = sym (ap (λ z. z.ty) i) ∙ e in cc
simple_is_value ts x (inr (inr (inr (inl (t, w, i))))) e = let f = sym (ap (λ z. z.ty) i) ∙ e in cc
simple_is_value ts x (inr (inr (inr (inr (t, w, i))))) e = let f = sym (ap (λ z. z.ty) i) ∙ e in cc

pointer_is_value : (left : ℕ) (x : TypeSyntax) (ts : List Token) (y : TypeSyntax) → Derives (parameters left x) ts y → y.ty ≡ ty.Void → ⊥
unfolding parameters
pointer_is_value zero x ts y (t, w, i) e = let f : Some TooDeep ≡ None = w.2 in cc
pointer_is_value (suc left) x ts y (p, w, i) e = let f = sym (ap (λ z. z.ty) i) ∙ e in cc

value_at : (left n : ℕ) (ts : List Token) (x : TypeSyntax) → Derives (type_of (parameters left) n) ts x → x.ty ≡ ty.Void → ⊥
unfolding type_of
value_at left zero ts x w e = simple_is_value ts x w e
value_at left (suc n) ts x (inl w) e = simple_is_value ts x w e
value_at left (suc n) ts x (inr (p, (us, vs, i, w, v), j)) e = pointer_is_value left p.0 vs p.1 v (sym (ap (λ z. z.ty) j) ∙ e)

pub type_is_value : (ts : List Token) (x : TypeSyntax) → Derives type ts x → x.ty ≡ ty.Void → ⊥
unfolding type_at
type_is_value ts x w = value_at 64 65 ts x w
