-- What is seen of operands one after another.
use Rattle.std.proofs.Common.{◌≡◌, ℕ, ◌-◌, ◌<◌, ◌≤◌, max, Bool, true, false, ◌&&◌, Option, None, Some, List, [], ◌∷◌, ◌++◌, length, get_or, take, drop, map, flat_map, refl, sym, ap, ◌∙◌, arith}
use Rattle.std.proofs.lemmas.Grind.{common_steps}
use Rattle.ir_module.specs.declared.tree.Block.{Block}
use Rattle.ir_module.specs.Steps.{Step, PhiAt, InstAt, TermAt, steps_of_block}
use Rattle.type_check.specs.declared.seen.Seen.{Seen}
use Rattle.type_check.specs.code.Operands.{greater, nothing, both, collected}

and-true : (b : Bool) → (b && true) ≡ b
and-true true = refl
and-true false = refl

and-and : (a b c : Bool) → ((a && b) && c) ≡ (a && (b && c))
and-and true b c = refl
and-and false b c = refl

greater-none : (a : Option ℕ) → greater a None ≡ a
greater-none None = refl
greater-none (Some m) = refl

greater-greater : (a b c : Option ℕ) → greater (greater a b) c ≡ greater a (greater b c)
greater-greater None b c = refl
greater-greater (Some m) None c = refl
greater-greater (Some m) (Some n) None = refl
greater-greater (Some m) (Some n) (Some k) = let e : max (max m n) k ≡ max m (max n k) = omega arith in ap Some e

pub both_nothing : (a : Seen) → both a nothing ≡ a
unfolding both nothing
both_nothing a = λ i. record { types = and-true a.types i; known = and-true a.known i; qubit = greater-none a.qubit i; result = greater-none a.result i }

pub both_assoc : (a b c : Seen) → both (both a b) c ≡ both a (both b c)
unfolding both
both_assoc a b c = λ i. record { types = and-and a.types b.types c.types i; known = and-and a.known b.known c.known i; qubit = greater-greater a.qubit b.qubit c.qubit i; result = greater-greater a.result b.result c.result i }

pub nothing_both : (a : Seen) → both nothing a ≡ a
unfolding both nothing
nothing_both a = refl

-- the first element, and then the rest
module _ {A : Type 0} (h : A → Seen) where
  rest-is : (w : A) (ws : List A) → take (length (w ∷ ws) - 1) (drop 1 (w ∷ ws)) ≡ ws
  rest-is w ws = grind (arith, common_steps)

  pub collected-more : (d : A) (ws : List A) (a s whole : Seen) → 1 ≤ length ws → s ≡ both a (h (get_or ws 0 d)) → both a (collected h ws) ≡ whole → both s (collected h (take (length ws - 1) (drop 1 ws))) ≡ whole
  collected-more d [] a s whole l e k = absurd (omega arith)
  collected-more d (w ∷ ws) a s whole l e k =
      ap (λ l. both s (collected h l)) (rest-is w ws) ∙ ap (λ s. both s (collected h ws)) e ∙ both_assoc a (h w) (collected h ws) ∙ k

  pub collected-end : (ws : List A) (a whole : Seen) → length ws < 1 → both a (collected h ws) ≡ whole → a ≡ whole
  collected-end [] a whole l k = sym (both_nothing a) ∙ k
  collected-end (w ∷ ws) a whole l k = absurd (omega arith)

  pub collected-append : (xs ys : List A) → collected h (xs ++ ys) ≡ both (collected h xs) (collected h ys)
  collected-append [] ys = sym (nothing_both (collected h ys))
  collected-append (x ∷ xs) ys = ap (both (h x)) (collected-append xs ys) ∙ sym (both_assoc (h x) (collected h xs) (collected h ys))

  pub collected-map : {B : Type 0} (g : B → A) (xs : List B) → collected h (map g xs) ≡ collected (λ x. h (g x)) xs
  collected-map g [] = refl
  collected-map g (x ∷ xs) = ap (both (h (g x))) (collected-map g xs)

  pub collected_flat : {B : Type 0} (g : B → List A) (xs : List B) → collected h (flat_map g xs) ≡ collected (λ x. collected h (g x)) xs
  collected_flat g [] = refl
  collected_flat g (x ∷ xs) = collected-append (g x) (flat_map g xs) ∙ ap (both (collected h (g x))) (collected_flat g xs)

pub block_collected : (h : Step → Seen) (b : Block) → both (collected (λ p. h (PhiAt p)) b.phis) (both (collected (λ i. h (InstAt i)) b.insts) (h (TermAt b.term))) ≡ collected h (steps_of_block b)
block_collected h b =
    ap (λ s. both (collected (λ p. h (PhiAt p)) b.phis) (both (collected (λ i. h (InstAt i)) b.insts) s)) (sym (both_nothing (h (TermAt b.term))))
    ∙ ap (λ s. both s (both (collected (λ i. h (InstAt i)) b.insts) (collected h (TermAt b.term ∷ [])))) (sym (collected-map h PhiAt b.phis))
    ∙ ap (λ s. both (collected h (map PhiAt b.phis)) (both s (collected h (TermAt b.term ∷ [])))) (sym (collected-map h InstAt b.insts))
    ∙ ap (both (collected h (map PhiAt b.phis))) (sym (collected-append h (map InstAt b.insts) (TermAt b.term ∷ [])))
    ∙ sym (collected-append h (map PhiAt b.phis) (map InstAt b.insts ++ (TermAt b.term ∷ [])))
