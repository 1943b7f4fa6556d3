-- What one pass writes, and what is to come.
use Rattle.std.proofs.Common.{◌≡◌, ◌⊎◌, inl, inr, ℕ, zero, suc, ◌+◌, ◌-◌, ◌<◌, ◌≤◌, get_or, take, List, [], ◌∷◌, ◌++◌, Some, None, length, map, slice_get, refl, sym, ap, ◌∙◌, append_assoc, arith}
use Rattle.std.proofs.lemmas.List.{append-nil}
use Rattle.std.proofs.lemmas.Option.{slice_get_cases}
use Rattle.std.proofs.Math.ListN.{drop}
use Rattle.std.proofs.lemmas.Grind.{common_steps}
use Rattle.ir_module.specs.declared.places.Point.{Point}
use Rattle.ir_module.specs.declared.places.Spot.TheVariants as spot
use Rattle.ir_module.specs.declared.tree.Block.{Block}
use Rattle.ir_module.specs.declared.tree.Function.{Function}
use Rattle.ir_module.specs.Spots.{point_at}
use Rattle.ir_module.specs.Steps.{Step, PhiAt, InstAt, TermAt, steps_of_block}
use Rattle.profile_rules.specs.declared.finding.Finding.{Finding}
use Rattle.profile_rules.specs.code.Listed.{findings_at, step_findings, block_findings, function_findings}
use Rattle.profile_rules.specs.Findings.{Rules, broken_by_step}
use Rattle.findings.specs.code.Within.{part_at}

pub drop-at : {A : Type 0} (xs : List A) (i : ℕ) (x : A) → slice_get xs i ≡ Some x → drop i xs ≡ x ∷ drop (suc i) xs
drop-at [] i x e = cc
drop-at (y ∷ ys) zero x e = cc
drop-at (y ∷ ys) (suc i) x e = drop-at ys i x e

pub drop-all : {A : Type 0} (xs : List A) (n : ℕ) → length xs ≤ n → drop n xs ≡ []
drop-all [] zero l = refl
drop-all [] (suc n) l = refl
drop-all (y ∷ ys) zero l = absurd (omega (arith, l))
drop-all (y ∷ ys) (suc n) l = drop-all ys n (omega (arith, l))

length-of-map : {A B : Type 0} (f : A → B) (xs : List A) → length (map f xs) ≡ length xs
length-of-map f [] = refl
length-of-map f (x ∷ xs) = ap suc (length-of-map f xs)

module _ (rules : Rules) where
  module _ {A : Type 0} (step : A → Step) where
    rest-is : (w : A) (ws : List A) → take (length (w ∷ ws) - 1) (drop 1 (w ∷ ws)) ≡ ws
    rest-is w ws = grind (arith, common_steps)

    -- one step more
    pub step-more : (g : ℕ) (f : Function) (b i : ℕ) (d : A) (ws : List A) (p : Point) (before after whole : List Finding)
        → 1 ≤ length ws → p ≡ point_at g b i
        → after ≡ before ++ findings_at (spot.At p) (broken_by_step rules f p (step (get_or ws 0 d)))
        → before ++ step_findings rules g f b i (map step ws) ≡ whole
        → after ++ step_findings rules g f b (i + 1) (map step (take (length ws - 1) (drop 1 ws))) ≡ whole
    step-more g f b i d [] p before after whole l q e h = absurd (omega (arith, l))
    step-more g f b i d (w ∷ ws) p before after whole l q e h =
        let k : i + 1 ≡ suc i = omega arith in
        let here = findings_at (spot.At (point_at g b i)) (broken_by_step rules f (point_at g b i) (step w)) in
        ap (λ xs. after ++ step_findings rules g f b (i + 1) (map step xs)) (rest-is w ws)
        ∙ ap (λ n. after ++ step_findings rules g f b n (map step ws)) k
        ∙ ap (λ xs. xs ++ step_findings rules g f b (suc i) (map step ws)) (e ∙ ap (λ p. before ++ findings_at (spot.At p) (broken_by_step rules f p (step w))) q)
        ∙ append_assoc before here (step_findings rules g f b (suc i) (map step ws))
        ∙ h

    pub rest-fits : (i n : ℕ) (ws : List A) → 1 ≤ length ws → i + length ws < n → (i + 1) + length (take (length ws - 1) (drop 1 ws)) < n
    rest-fits i n [] l h = absurd (omega (arith, l))
    rest-fits i n (w ∷ ws) l h = let k = ap length (rest-is w ws) in omega (arith, h, k)

  pub steps-after : (g : ℕ) (f : Function) (b i : ℕ) (xs ys : List Step) → step_findings rules g f b i (xs ++ ys) ≡ step_findings rules g f b i xs ++ step_findings rules g f b (i + length xs) ys
  steps-after g f b i [] ys = let k : i ≡ i + 0 = omega arith in ap (λ n. step_findings rules g f b n ys) k
  steps-after g f b i (x ∷ xs) ys =
      let k : suc i + length xs ≡ i + suc (length xs) = omega arith in
      let here = findings_at (spot.At (point_at g b i)) (broken_by_step rules f (point_at g b i) x) in
      ap (λ l. here ++ l) (steps-after g f b (suc i) xs ys ∙ ap (λ n. step_findings rules g f b (suc i) xs ++ step_findings rules g f b n ys) k)
      ∙ sym (append_assoc here (step_findings rules g f b (suc i) xs) (step_findings rules g f b (i + suc (length xs)) ys))

  -- the steps of a whole block
  pub block-whole : (g : ℕ) (f : Function) (b : ℕ) (c : Block) (first : ℕ) (p : Point) (start one two three : List Finding)
      → first ≡ length c.phis → p ≡ point_at g b (length c.phis + length c.insts)
      → one ≡ start ++ step_findings rules g f b 0 (map PhiAt c.phis)
      → two ≡ one ++ step_findings rules g f b first (map InstAt c.insts)
      → three ≡ two ++ findings_at (spot.At p) (broken_by_step rules f p (TermAt c.term))
      → three ≡ start ++ step_findings rules g f b 0 (steps_of_block c)
  block-whole g f b c first p start one two three e q x y z =
      let phis = step_findings rules g f b 0 (map PhiAt c.phis) in
      let insts = step_findings rules g f b (length c.phis) (map InstAt c.insts) in
      let end = step_findings rules g f b (length c.phis + length c.insts) (TermAt c.term ∷ []) in
      let lp : 0 + length (map PhiAt c.phis) ≡ length c.phis = (let l = length-of-map PhiAt c.phis in omega (arith, l)) in
      let li : length c.phis + length (map InstAt c.insts) ≡ length c.phis + length c.insts = ap (λ n. length c.phis + n) (length-of-map InstAt c.insts) in
      let parts : step_findings rules g f b 0 (steps_of_block c) ≡ phis ++ (insts ++ end) =
      steps-after g f b 0 (map PhiAt c.phis) (map InstAt c.insts ++ TermAt c.term ∷ [])
      ∙ ap (λ n. phis ++ step_findings rules g f b n (map InstAt c.insts ++ TermAt c.term ∷ [])) lp
      ∙ ap (λ xs. phis ++ xs) (steps-after g f b (length c.phis) (map InstAt c.insts) (TermAt c.term ∷ []) ∙ ap (λ n. insts ++ step_findings rules g f b n (TermAt c.term ∷ [])) li) in
      let last : three ≡ two ++ end =
      z ∙ ap (λ p. two ++ findings_at (spot.At p) (broken_by_step rules f p (TermAt c.term))) q
      ∙ ap (λ xs. two ++ xs) (sym (append-nil (findings_at (spot.At (point_at g b (length c.phis + length c.insts))) (broken_by_step rules f (point_at g b (length c.phis + length c.insts)) (TermAt c.term))))) in
      last
      ∙ ap (λ xs. xs ++ end) (y ∙ ap (λ n. one ++ step_findings rules g f b n (map InstAt c.insts)) e ∙ ap (λ xs. xs ++ insts) x)
      ∙ append_assoc (start ++ phis) insts end
      ∙ append_assoc start phis (insts ++ end)
      ∙ sym (ap (λ xs. start ++ xs) parts)

  pub block-more : (g : ℕ) (f : Function) (b : ℕ) (bs : List Block) (c : Block) (before after whole : List Finding)
      → slice_get bs b ≡ Some c
      → after ≡ before ++ step_findings rules g f b 0 (steps_of_block c)
      → before ++ block_findings rules g f b (drop b bs) ≡ whole
      → after ++ block_findings rules g f (b + 1) (drop (b + 1) bs) ≡ whole
  block-more g f b bs c before after whole at e h =
      let k : b + 1 ≡ suc b = omega arith in
      ap (λ n. after ++ block_findings rules g f n (drop n bs)) k
      ∙ ap (λ xs. xs ++ block_findings rules g f (suc b) (drop (suc b) bs)) e
      ∙ append_assoc before (step_findings rules g f b 0 (steps_of_block c)) (block_findings rules g f (suc b) (drop (suc b) bs))
      ∙ sym (ap (λ xs. before ++ block_findings rules g f b xs) (drop-at bs b c at))
      ∙ h

  pub block-end : (g : ℕ) (f : Function) (b : ℕ) (bs : List Block) (found whole : List Finding)
      → length bs ≤ b → found ++ block_findings rules g f b (drop b bs) ≡ whole → found ≡ whole
  block-end g f b bs found whole l h = sym (append-nil found) ∙ sym (ap (λ xs. found ++ block_findings rules g f b xs) (drop-all bs b l)) ∙ h

  at-function : (fs : List Function) (n : ℕ) → n < length fs → function_findings rules n (drop n fs) ≡ part_at rules n (slice_get fs n) ++ function_findings rules (suc n) (drop (suc n) fs)
  at-function fs n l = at (slice_get_cases fs n).1
    where
      at : ((x : Function) × (n < length fs) × (slice_get fs n ≡ Some x) × (get_or fs n x ≡ x)) ⊎ ((length fs ≤ n) × (slice_get fs n ≡ None)) → function_findings rules n (drop n fs) ≡ part_at rules n (slice_get fs n) ++ function_findings rules (suc n) (drop (suc n) fs)
      at (inl q) = ap (function_findings rules n) (drop-at fs n q.0 q.2) ∙ sym (ap (λ o. part_at rules n o ++ function_findings rules (suc n) (drop (suc n) fs)) q.2)
      at (inr q) = absurd (let a = q.0 in omega (arith, a, l))

  pub function-more : (n : ℕ) (fs : List Function) (before after whole : List Finding)
      → n < length fs
      → after ≡ before ++ part_at rules n (slice_get fs n)
      → before ++ function_findings rules n (drop n fs) ≡ whole
      → after ++ function_findings rules (n + 1) (drop (n + 1) fs) ≡ whole
  function-more n fs before after whole l e h =
      let k : n + 1 ≡ suc n = omega arith in
      ap (λ i. after ++ function_findings rules i (drop i fs)) k
      ∙ ap (λ xs. xs ++ function_findings rules (suc n) (drop (suc n) fs)) e
      ∙ append_assoc before (part_at rules n (slice_get fs n)) (function_findings rules (suc n) (drop (suc n) fs))
      ∙ sym (ap (λ xs. before ++ xs) (at-function fs n l))
      ∙ h

  pub function-end : (n : ℕ) (fs : List Function) (found whole : List Finding)
      → length fs ≤ n → found ++ function_findings rules n (drop n fs) ≡ whole → found ≡ whole
  function-end n fs found whole l h = sym (append-nil found) ∙ sym (ap (λ xs. found ++ function_findings rules n xs) (drop-all fs n l)) ∙ h
