-- Items whose phases don't fall are those of the first phase, of the second and of the third.
use Rattle.std.proofs.Common.{◌≡◌, ℕ, zero, suc, ◌≤◌, true, List, [], ◌∷◌, ◌++◌, refl, sym, ap, ◌∙◌, arith}
use Rattle.std.specs.Prelude.{◌==◌, if◌then◌else◌}
use Rattle.kept_items.specs.declared.item.Item.{Item}
use Rattle.residue.specs.Phases.{in_phase, phase_of, phases_rise}
use Rattle.printed_residue.proofs.Looks.{differ, same-itself}
use Rattle.printed_residue.proofs.Rising.{phase-few, rise-late, rises}

module _ (irr : List (List ℕ)) where
  abbrev phase : Item → ℕ
  phase x = phase_of irr x

  abbrev pub in_order : List Item → List Item
  in_order xs = in_phase irr 1 xs ++ (in_phase irr 2 xs ++ in_phase irr 3 xs)

  in-it : (m : ℕ) (x : Item) (xs : List Item) → phase x ≡ m → in_phase irr m (x ∷ xs) ≡ x ∷ in_phase irr m xs
  in-it m x xs e = ap (λ k. if k == m then x ∷ in_phase irr m xs else in_phase irr m xs) e ∙ ap (λ b. if b then x ∷ in_phase irr m xs else in_phase irr m xs) (same-itself m)

  not-in-it : (m k : ℕ) (x : Item) (xs : List Item) → phase x ≡ k → (k ≡ m → ⊥) → in_phase irr m (x ∷ xs) ≡ in_phase irr m xs
  not-in-it m k x xs e n = ap (λ k. if k == m then x ∷ in_phase irr m xs else in_phase irr m xs) e ∙ ap (λ b. if b then x ∷ in_phase irr m xs else in_phase irr m xs) (differ k m n)

  pub all-in-order : (n : ℕ) (xs : List Item) → phases_rise irr n xs ≡ true → in_order xs ≡ xs
  all-in-order n [] h = refl
  all-in-order n (x ∷ xs) h =
      let t = rises irr n x xs h in
      let f = phase-few irr x in
      by (phase x) refl f.0 f.1 t.1 (all-in-order (phase x) xs t.1)
    where
      none : (k m : ℕ) → phase x ≡ k → phases_rise irr (phase x) xs ≡ true → (m ≤ k → (k ≡ m → ⊥) → in_phase irr m xs ≡ [])
      none k m e g le n = rise-late irr (phase x) xs m g (let z : suc m ≤ phase x = omega (arith, e, le, below m k le n) in z)
        where
          below : (m k : ℕ) → m ≤ k → (k ≡ m → ⊥) → suc m ≤ k
          below m k le n = grind arith

      by : (k : ℕ) → phase x ≡ k → 1 ≤ k → k ≤ 3 → phases_rise irr (phase x) xs ≡ true → in_order xs ≡ xs → in_order (x ∷ xs) ≡ x ∷ xs
      by zero e lo hi g ih = absurd (omega (arith, lo))
      by (suc zero) e lo hi g ih =
          ap (λ a. a ++ (in_phase irr 2 (x ∷ xs) ++ in_phase irr 3 (x ∷ xs))) (in-it 1 x xs e)
          ∙ ap (λ a. (x ∷ in_phase irr 1 xs) ++ (a ++ in_phase irr 3 (x ∷ xs))) (not-in-it 2 1 x xs e (λ z. absurd (omega (arith, z))))
          ∙ ap (λ a. (x ∷ in_phase irr 1 xs) ++ (in_phase irr 2 xs ++ a)) (not-in-it 3 1 x xs e (λ z. absurd (omega (arith, z))))
          ∙ ap (λ l. x ∷ l) ih
      by (suc (suc zero)) e lo hi g ih =
          let one = none 2 1 e g (omega arith) (λ z. absurd (omega (arith, z))) in
          ap (λ a. a ++ (in_phase irr 2 (x ∷ xs) ++ in_phase irr 3 (x ∷ xs))) (not-in-it 1 2 x xs e (λ z. absurd (omega (arith, z))) ∙ one)
          ∙ ap (λ a. a ++ in_phase irr 3 (x ∷ xs)) (in-it 2 x xs e)
          ∙ ap (λ a. (x ∷ in_phase irr 2 xs) ++ a) (not-in-it 3 2 x xs e (λ z. absurd (omega (arith, z))))
          ∙ ap (λ a. x ∷ (a ++ (in_phase irr 2 xs ++ in_phase irr 3 xs))) (sym one)
          ∙ ap (λ l. x ∷ l) ih
      by (suc (suc (suc zero))) e lo hi g ih =
          let one = none 3 1 e g (omega arith) (λ z. absurd (omega (arith, z))) in
          let two = none 3 2 e g (omega arith) (λ z. absurd (omega (arith, z))) in
          ap (λ a. a ++ (in_phase irr 2 (x ∷ xs) ++ in_phase irr 3 (x ∷ xs))) (not-in-it 1 3 x xs e (λ z. absurd (omega (arith, z))) ∙ one)
          ∙ ap (λ a. a ++ in_phase irr 3 (x ∷ xs)) (not-in-it 2 3 x xs e (λ z. absurd (omega (arith, z))) ∙ two)
          ∙ in-it 3 x xs e
          ∙ ap (λ a. x ∷ (a ++ in_phase irr 3 xs)) (sym two)
          ∙ ap (λ a. x ∷ (a ++ (in_phase irr 2 xs ++ in_phase irr 3 xs))) (sym one)
          ∙ ap (λ l. x ∷ l) ih
      by (suc (suc (suc (suc k)))) e lo hi g ih = absurd (omega (arith, hi))
