-- The list along the tree is in order and holds nothing twice.
use Rattle.std.proofs.Common.{◌≡◌, inl, inr, ℕ, suc, ◌+◌, ◌<◌, ◌≤◌, Bool, true, false, Some, List, [], ◌∷◌, ◌++◌, map, refl, sym, ◌∙◌, subst, arith, Contains, if◌then◌else◌}
use Rattle.std.proofs.lemmas.List.Elements.{Contains-append_cases}
use Rattle.ir_module.specs.declared.places.Point.{Point}
use Rattle.ir_module.specs.declared.places.Spot.{Spot}
use Rattle.ir_module.specs.declared.places.Spot.TheVariants as spot
use Rattle.ir_module.specs.declared.tree.Block.{Block}
use Rattle.ir_module.specs.declared.tree.Function.{Function}
use Rattle.ir_module.specs.declared.tree.Module.{Module}
use Rattle.ir_module.specs.Places.{IsBefore, rank}
use Rattle.ir_module.specs.Steps.{Step, PhiAt, InstAt, TermAt, NoStep}
use Rattle.ir_module.specs.Steps.{steps_of_block}
use Rattle.ir_module.specs.Tree.{blocks_of}
use Rattle.ir_module.specs.Spots.{point_at}
use Rattle.profile_rules.specs.declared.finding.Finding.{Finding}
use Rattle.profile_rules.specs.code.Listed.{Rise, AreNumbered, findings_at, step_findings, block_findings, function_part, function_findings, findings}
use Rattle.profile_rules.specs.Findings.{Rules, broken, broken_by_function, broken_by_step, Breaks, Precedes, AscendFrom, Ascend, AreFindings}
use Rattle.profile_rules.proofs.Positions.{here, there}
use Rattle.profile_rules.proofs.Listed.{finding, at-cases, InFunction, itself, inside, of-function, steps-cases, blocks-cases, functions-cases, listed-breaks, breaks-listed}

weaken : (n k : ℕ) (rs : List ℕ) → n ≤ k → Rise k rs → Rise n rs
weaken n k [] l h = tt
weaken n k (r ∷ rs) l h = let a = h.0 in (omega (arith, l, a), h.1)

broken-rise : {A : Type 0} (is : A → Bool) (n : ℕ) (rs : List (ℕ × A)) → Rise n (map (λ r. r.0) rs) → Rise n (broken is rs)
broken-rise is n [] h = tt
broken-rise is n (r ∷ rs) h = at (is r.1) (broken-rise is r.0 rs h.1)
  where
    at : (b : Bool) → Rise r.0 (broken is rs) → Rise n (if b then r.0 ∷ broken is rs else broken is rs)
    at true k = (h.0, k)
    at false k = let a = h.0 in weaken n r.0 (broken is rs) (omega (arith, a)) k

at-from : (s : Spot) (r : ℕ) (rs : List ℕ) → Rise r rs → AscendFrom (finding s r) (findings_at s rs)
at-from s r [] h = tt
at-from s r (n ∷ rs) h = (inr (refl, h.0), at-from s n rs h.1)

at-ascend : (s : Spot) (n : ℕ) (rs : List ℕ) → Rise n rs → Ascend (findings_at s rs)
at-ascend s n [] h = tt
at-ascend s n (r ∷ rs) h = at-from s r rs h.1

-- ---- lists one after another

start-from : (x : Finding) (ys : List Finding) → Ascend ys → ((y : Finding) → Contains ys y → Precedes x y) → AscendFrom x ys
start-from x [] h p = tt
start-from x (y ∷ ys) h p = (p y (here y ys), h)

both-from : (x : Finding) (xs ys : List Finding) → AscendFrom x xs → Ascend ys → ((z y : Finding) → Contains (x ∷ xs) z → Contains ys y → Precedes z y) → AscendFrom x (xs ++ ys)
both-from x [] ys h k p = start-from x ys k (λ y c. p x y (here x []) c)
both-from x (z ∷ xs) ys h k p = (h.0, both-from z xs ys h.1 k (λ a y c d. p a y (there x a (z ∷ xs) c) d))

both : (xs ys : List Finding) → Ascend xs → Ascend ys → ((x y : Finding) → Contains xs x → Contains ys y → Precedes x y) → Ascend (xs ++ ys)
both [] ys h k p = k
both (x ∷ xs) ys h k p = both-from x xs ys h k p

before : (a b : Spot) (x y : Finding) → x.spot ≡ a → y.spot ≡ b → IsBefore a b → Precedes x y
before a b x y e f h = inl (subst (λ s. IsBefore s y.spot) (sym e) (subst (λ s. IsBefore a s) (sym f) h))

later-function : (a b : Spot) → (rank a).0 ≡ 1 → (rank b).0 ≡ 1 → (rank a).1 < (rank b).1 → IsBefore a b
later-function a b p q l = inr (p ∙ sym q, inl l)

module _ (rules : Rules) (numbered : AreNumbered rules) where
  step-rise : (f : Function) (p : Point) (s : Step) → Rise 0 (broken_by_step rules f p s)
  step-rise f p NoStep = tt
  step-rise f p (PhiAt x) = broken-rise (λ t. t f p (PhiAt x)) 0 rules.on_step numbered.on_step
  step-rise f p (InstAt x) = broken-rise (λ t. t f p (InstAt x)) 0 rules.on_step numbered.on_step
  step-rise f p (TermAt x) = broken-rise (λ t. t f p (TermAt x)) 0 rules.on_step numbered.on_step

  steps-ascend : (g : ℕ) (f : Function) (b i : ℕ) (ss : List Step) → Ascend (step_findings rules g f b i ss)
  steps-ascend g f b i [] = tt
  steps-ascend g f b i (s ∷ ss) =
      both (findings_at (spot.At (point_at g b i)) (broken_by_step rules f (point_at g b i) s)) (step_findings rules g f b (suc i) ss) (at-ascend (spot.At (point_at g b i)) 0 (broken_by_step rules f (point_at g b i) s) (step-rise f (point_at g b i) s)) (steps-ascend g f b (suc i) ss)
      (λ x y c d.
      let k = steps-cases rules g f b (suc i) ss y d in
      before (spot.At (point_at g b i)) (spot.At (point_at g b (suc i + k.number))) x y (at-cases (spot.At (point_at g b i)) (broken_by_step rules f (point_at g b i) s) x c).0 k.spot_is (inr (refl, inr (refl, inr (refl, omega arith)))))

  blocks-ascend : (g : ℕ) (f : Function) (b : ℕ) (cs : List Block) → Ascend (block_findings rules g f b cs)
  blocks-ascend g f b [] = tt
  blocks-ascend g f b (c ∷ cs) =
      both (step_findings rules g f b 0 (steps_of_block c)) (block_findings rules g f (suc b) cs) (steps-ascend g f b 0 (steps_of_block c)) (blocks-ascend g f (suc b) cs)
      (λ x y q d.
      let j = steps-cases rules g f b 0 (steps_of_block c) x q in
      let k = blocks-cases rules g f (suc b) cs y d in
      before (spot.At (point_at g b (0 + j.number))) (spot.At (point_at g (suc b + k.number) (0 + k.within.number))) x y j.spot_is k.within.spot_is (inr (refl, inr (refl, inl (omega arith)))))

  -- the function of a finding
  pub record IsOf (g : ℕ) (x : Finding) : Type 0 where
    pub at : Spot
    pub is : x.spot ≡ at
    pub inside : (rank at).0 ≡ 1
    pub function : (rank at).1 ≡ g

  block-of : (g : ℕ) (f : Function) (x : Finding) → Contains (block_findings rules g f 0 (blocks_of f)) x → IsOf g x
  block-of g f x h = let k = blocks-cases rules g f 0 (blocks_of f) x h in record { at = spot.At (point_at g (0 + k.number) (0 + k.within.number)); is = k.within.spot_is; inside = refl; function = refl }

  function-of : (g : ℕ) (f : Function) (x : Finding) → InFunction rules g f x → IsOf g x
  function-of g f x (itself e h) = record { at = spot.Func (record { 0 = g }); is = e; inside = refl; function = refl }
  function-of g f x (inside k) = record { at = spot.At (point_at g (0 + k.number) (0 + k.within.number)); is = k.within.spot_is; inside = refl; function = refl }

  later : (g h : ℕ) (x y : Finding) → g < h → IsOf g x → IsOf h y → Precedes x y
  later g h x y l a b = before a.at b.at x y a.is b.is (later-function a.at b.at a.inside b.inside (let p = a.function in let q = b.function in omega (arith, p, q, l)))

  functions-ascend : (g : ℕ) (fs : List Function) → Ascend (function_findings rules g fs)
  functions-ascend g [] = tt
  functions-ascend g (f ∷ fs) =
      both (function_part rules g f) (function_findings rules (suc g) fs) part-ascends (functions-ascend (suc g) fs)
      (λ x y c d. elim (Contains-append_cases (of-function rules g f) (block_findings rules g f 0 (blocks_of f)) x c) [ inl k ↦ further x y (record { at = spot.Func (record { 0 = g }); is = itself-is x k; inside = refl; function = refl }) d | inr k ↦ further x y (block-of g f x k) d ])
    where
      itself-is : (x : Finding) → Contains (of-function rules g f) x → x.spot ≡ spot.Func (record { 0 = g })
      itself-is x c = (at-cases (spot.Func (record { 0 = g })) (broken_by_function rules g (Some f)) x c).0

      part-ascends : Ascend (function_part rules g f)
      part-ascends =
          both (of-function rules g f) (block_findings rules g f 0 (blocks_of f)) (at-ascend (spot.Func (record { 0 = g })) 0 (broken_by_function rules g (Some f)) (broken-rise (λ t. t g f) 0 rules.on_function numbered.on_function)) (blocks-ascend g f 0 (blocks_of f))
          (λ x y c d. let j = blocks-cases rules g f 0 (blocks_of f) y d in before (spot.Func (record { 0 = g })) (spot.At (point_at g (0 + j.number) (0 + j.within.number))) x y (itself-is x c) j.within.spot_is (inr (refl, inr (refl, inl (omega arith)))))

      further : (x y : Finding) → IsOf g x → Contains (function_findings rules (suc g) fs) y → Precedes x y
      further x y a d = let k = functions-cases rules (suc g) fs y d in later g (suc g + k.number) x y (omega arith) a (function-of (suc g + k.number) k.function y k.within)

  findings-ascend : (m : Module) → Ascend (findings rules m)
  findings-ascend m =
      both (findings_at spot.Module (broken (λ b. b) rules.on_module)) (function_findings rules 0 m.funcs) (at-ascend spot.Module 0 (broken (λ b. b) rules.on_module) (broken-rise (λ b. b) 0 rules.on_module numbered.on_module)) (functions-ascend 0 m.funcs)
      (λ x y c d.
      let k = functions-cases rules 0 m.funcs y d in
      let o = function-of (0 + k.number) k.function y k.within in
      before spot.Module o.at x y (at-cases spot.Module (broken (λ b. b) rules.on_module) x c).0 o.is (inl (let i = o.inside in omega (arith, i))))

  -- exactly what the module breaks, in order, each once
  pub list-exact : (m : Module) → AreFindings (Breaks rules m) (findings rules m)
  list-exact m = record {
    ordered = findings-ascend m;
    exact = λ s r. ((λ h. listed-breaks rules m (finding s r) h), (λ h. breaks-listed rules m s r h));
  }
