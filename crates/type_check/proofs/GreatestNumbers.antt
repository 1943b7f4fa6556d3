-- The greatest numbers that are seen give the required ones.
use Rattle.std.proofs.Common.{◌≡◌, ℕ, suc, ◌+◌, ◌<◌, ◌≤◌, max, min, Bool, true, false, ltb, Option, None, Some, List, [], ◌∷◌, ◌++◌, flat_map, refl, sym, ap, ◌∙◌, arith}
use Rattle.std.proofs.lemmas.Bool.Decides.{nat_tests}
use Rattle.std.specs.Prelude.{if◌then◌else◌}
use Rattle.ir_values.specs.declared.ty.Ty.{Ty}
use Rattle.ir_module.specs.declared.tree.Function.{Function}
use Rattle.ir_module.specs.declared.tree.Module.{Module}
use Rattle.ir_module.specs.declared.tree.Operand.{Operand}
use Rattle.ir_module.specs.Steps.{Step, steps_of}
use Rattle.type_check.specs.declared.seen.Seen.{Seen}
use Rattle.type_check.specs.code.Operands.{greater, greatest, nothing, both, seen_one, collected, seen_at, seen_in, seen_in_all, above}
use Rattle.type_check.specs.Required.{qubit_numbers, result_numbers, written, one_above}
use Rattle.type_check.specs.Typing.{wants}

greater-greater : (a b c : Option ℕ) → greater (greater a b) c ≡ greater a (greater b c)
greater-greater None b c = refl
greater-greater (Some m) None c = refl
greater-greater (Some m) (Some n) None = refl
greater-greater (Some m) (Some n) (Some k) = let e : max (max m n) k ≡ max m (max n k) = omega arith in ap Some e

greatest-append : (xs ys : List ℕ) → greatest (xs ++ ys) ≡ greater (greatest xs) (greatest ys)
greatest-append [] ys = refl
greatest-append (x ∷ xs) ys = ap (greater (Some x)) (greatest-append xs ys) ∙ sym (greater-greater (Some x) (greatest xs) (greatest ys))

-- the numbers that a list's elements write, seen one after another
module _ {A : Type 0} (h : A → Seen) (numbers : A → List ℕ) where
  qubits-collected : ((x : A) → (h x).qubit ≡ greatest (numbers x)) → (xs : List A) → (collected h xs).qubit ≡ greatest (flat_map numbers xs)
  unfolding both nothing
  qubits-collected e [] = refl
  qubits-collected e (x ∷ xs) = ap (greater (h x).qubit) (qubits-collected e xs) ∙ ap (λ q. greater q (greatest (flat_map numbers xs))) (e x) ∙ sym (greatest-append (numbers x) (flat_map numbers xs))

  results-collected : ((x : A) → (h x).result ≡ greatest (numbers x)) → (xs : List A) → (collected h xs).result ≡ greatest (flat_map numbers xs)
  unfolding both nothing
  results-collected e [] = refl
  results-collected e (x ∷ xs) = ap (greater (h x).result) (results-collected e xs) ∙ ap (λ q. greater q (greatest (flat_map numbers xs))) (e x) ∙ sym (greatest-append (numbers x) (flat_map numbers xs))

one-qubit : (m : Module) (f : Function) (w : Ty × Operand) → (seen_one m f w).qubit ≡ greatest (qubit_numbers w)
unfolding seen_one
one-qubit m f w = refl

one-result : (m : Module) (f : Function) (w : Ty × Operand) → (seen_one m f w).result ≡ greatest (result_numbers w)
unfolding seen_one
one-result m f w = refl

module _ (m : Module) where
  pub qubits-at : (f : Function) (s : Step) → (seen_at m f s).qubit ≡ greatest (flat_map qubit_numbers (wants f s))
  qubits-at f s = qubits-collected (seen_one m f) qubit_numbers (one-qubit m f) (wants f s)

  pub results-at : (f : Function) (s : Step) → (seen_at m f s).result ≡ greatest (flat_map result_numbers (wants f s))
  results-at f s = results-collected (seen_one m f) result_numbers (one-result m f) (wants f s)

  qubits-in : (f : Function) → (seen_in m f).qubit ≡ greatest (flat_map (λ s. flat_map qubit_numbers (wants f s)) (steps_of f))
  qubits-in f = qubits-collected (seen_at m f) (λ s. flat_map qubit_numbers (wants f s)) (qubits-at f) (steps_of f)

  results-in : (f : Function) → (seen_in m f).result ≡ greatest (flat_map (λ s. flat_map result_numbers (wants f s)) (steps_of f))
  results-in f = results-collected (seen_at m f) (λ s. flat_map result_numbers (wants f s)) (results-at f) (steps_of f)

  qubits-written : (seen_in_all m).qubit ≡ greatest (written qubit_numbers m)
  qubits-written = qubits-collected (seen_in m) (λ f. flat_map (λ s. flat_map qubit_numbers (wants f s)) (steps_of f)) qubits-in m.funcs

  results-written : (seen_in_all m).result ≡ greatest (written result_numbers m)
  results-written = results-collected (seen_in m) (λ f. flat_map (λ s. flat_map result_numbers (wants f s)) (steps_of f)) results-in m.funcs

abbrev next_of : Option ℕ → ℕ
next_of None = 0
next_of (Some n) = suc n

next-greater : (n : ℕ) (o : Option ℕ) → next_of (greater (Some n) o) ≡ max (suc n) (next_of o)
next-greater n None = let e : suc n ≡ max (suc n) 0 = omega arith in e
next-greater n (Some k) = let e : suc (max n k) ≡ max (suc n) (suc k) = omega arith in e

one_above-is : (ns : List ℕ) → next_of (greatest ns) ≡ one_above ns
one_above-is [] = refl
one_above-is (n ∷ ns) = next-greater n (greatest ns) ∙ ap (max (suc n)) (one_above-is ns)

above-is : (limit : ℕ) (o : Option ℕ) → above limit o ≡ min limit (next_of o)
above-is limit None = let e : 0 ≡ min limit 0 = omega arith in e
above-is limit (Some n) = by (ltb n limit) refl
  where
    by : (b : Bool) → ltb n limit ≡ b → (if b then n + 1 else limit) ≡ min limit (suc n)
    by true e = let l : n < limit = grind (arith, nat_tests) in omega arith
    by false e = let l : limit ≤ n = grind (arith, nat_tests) in omega arith

pub above_greatest : (limit : ℕ) (ns : List ℕ) → above limit (greatest ns) ≡ min limit (one_above ns)
above_greatest limit ns = above-is limit (greatest ns) ∙ ap (min limit) (one_above-is ns)

pub above_qubits : (m : Module) (limit : ℕ) → above limit (seen_in_all m).qubit ≡ min limit (one_above (written qubit_numbers m))
above_qubits m limit = ap (above limit) (qubits-written m) ∙ above_greatest limit (written qubit_numbers m)

pub above_results : (m : Module) (limit : ℕ) → above limit (seen_in_all m).result ≡ min limit (one_above (written result_numbers m))
above_results m limit = ap (above limit) (results-written m) ∙ above_greatest limit (written result_numbers m)
