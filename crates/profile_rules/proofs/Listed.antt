-- The list along the tree has exactly what the module breaks.
use Rattle.std.proofs.Common.{◌≡◌, inl, inr, ℕ, zero, suc, ◌+◌, Option, None, Some, List, [], ◌∷◌, slice_get, refl, sym, ap, ◌∙◌, subst, arith, Contains}
use Rattle.std.proofs.lemmas.List.Elements.{Contains-append_left, Contains-append_right, Contains-append_cases}
use Rattle.ir_module.specs.declared.places.Point.{Point}
use Rattle.ir_module.specs.declared.places.Spot.{Spot}
use Rattle.ir_module.specs.declared.places.Spot.TheVariants as spot
use Rattle.ir_module.specs.declared.tree.Block.{Block}
use Rattle.ir_module.specs.declared.tree.Function.{Function}
use Rattle.ir_module.specs.declared.tree.Module.{Module}
use Rattle.ir_module.specs.Steps.{Step, step_at, step_of_point}
use Rattle.ir_module.specs.Steps.{steps_of_block}
use Rattle.ir_module.specs.Tree.{blocks_of}
use Rattle.ir_module.specs.Spots.{point_at}
use Rattle.profile_rules.specs.declared.finding.Finding.{Finding}
use Rattle.profile_rules.specs.code.Listed.{findings_at, step_findings, block_findings, function_part, function_findings, findings}
use Rattle.profile_rules.specs.Findings.{Rules, broken, broken_by_function, broken_by_step, broken_at_point, broken_at}
use Rattle.profile_rules.proofs.Positions.{here, there, cases, none, step-is, step-among, stands, step-here, block-is}

abbrev pub finding : Spot → ℕ → Finding
finding s r = record { spot = s; rule = r }

pub at-cases : (s : Spot) (rs : List ℕ) (x : Finding) → Contains (findings_at s rs) x → (x.spot ≡ s) × Contains rs x.rule
at-cases s [] x h = absurd (none x h)
at-cases s (r ∷ rs) x h = elim (cases (finding s r) x (findings_at s rs) h) [ inl e ↦ (sym (ap (λ (z : Finding). z.spot) e), subst (λ (z : Finding). Contains (r ∷ rs) z.rule) e (here r rs)) | inr m ↦ ((at-cases s rs x m).0, there r x.rule rs (at-cases s rs x m).1) ]

at-has : (s : Spot) (rs : List ℕ) (r : ℕ) → Contains rs r → Contains (findings_at s rs) (finding s r)
at-has s [] r h = absurd (none r h)
at-has s (n ∷ rs) r h = elim (cases n r rs h) [ inl e ↦ subst (λ z. Contains (findings_at s (n ∷ rs)) (finding s z)) e (here (finding s n) (findings_at s rs)) | inr m ↦ there (finding s n) (finding s r) (findings_at s rs) (at-has s rs r m) ]

module _ (rules : Rules) where
  -- ---- where a finding of the list stands

  pub record AtStep (g : ℕ) (f : Function) (b i : ℕ) (ss : List Step) (x : Finding) : Type 0 where
    pub number : ℕ
    pub step : Step
    pub at : slice_get ss number ≡ Some step
    pub spot_is : x.spot ≡ spot.At (point_at g b (i + number))
    pub breaks : Contains (broken_by_step rules f (point_at g b (i + number)) step) x.rule

  pub steps-cases : (g : ℕ) (f : Function) (b i : ℕ) (ss : List Step) (x : Finding) → Contains (step_findings rules g f b i ss) x → AtStep g f b i ss x
  steps-cases g f b i [] x h = absurd (none x h)
  steps-cases g f b i (s ∷ ss) x h = elim (Contains-append_cases (findings_at (spot.At (point_at g b i)) (broken_by_step rules f (point_at g b i) s)) (step_findings rules g f b (suc i) ss) x h) [ inl m ↦ first (at-cases (spot.At (point_at g b i)) (broken_by_step rules f (point_at g b i) s) x m) | inr m ↦ later (steps-cases g f b (suc i) ss x m) ]
    where
      first : (x.spot ≡ spot.At (point_at g b i)) × Contains (broken_by_step rules f (point_at g b i) s) x.rule → AtStep g f b i (s ∷ ss) x
      first k =
          let e : i ≡ i + 0 = omega arith in
          record { number = zero; step = s; at = refl; spot_is = k.0 ∙ ap (λ n. spot.At (point_at g b n)) e; breaks = subst (λ n. Contains (broken_by_step rules f (point_at g b n) s) x.rule) e k.1 }

      later : AtStep g f b (suc i) ss x → AtStep g f b i (s ∷ ss) x
      later k =
          let e : suc i + k.number ≡ i + suc k.number = omega arith in
          record { number = suc k.number; step = k.step; at = k.at; spot_is = k.spot_is ∙ ap (λ n. spot.At (point_at g b n)) e; breaks = subst (λ n. Contains (broken_by_step rules f (point_at g b n) k.step) x.rule) e k.breaks }

  steps-have : (g : ℕ) (f : Function) (b i n : ℕ) (ss : List Step) (k r : ℕ) (s : Step) → slice_get ss k ≡ Some s → n ≡ i + k → Contains (broken_by_step rules f (point_at g b n) s) r → Contains (step_findings rules g f b i ss) (finding (spot.At (point_at g b n)) r)
  steps-have g f b i n [] k r s e q h = cc
  steps-have g f b i n (t ∷ ss) zero r s e q h =
      let same : s ≡ t = cc in
      let q' : n ≡ i = omega (arith, q) in
      Contains-append_left (findings_at (spot.At (point_at g b i)) (broken_by_step rules f (point_at g b i) t)) (step_findings rules g f b (suc i) ss) (finding (spot.At (point_at g b n)) r)
      (subst (λ z. Contains (findings_at (spot.At (point_at g b z)) (broken_by_step rules f (point_at g b z) t)) (finding (spot.At (point_at g b n)) r)) q' (at-has (spot.At (point_at g b n)) (broken_by_step rules f (point_at g b n) t) r (subst (λ z. Contains (broken_by_step rules f (point_at g b n) z) r) same h)))
  steps-have g f b i n (t ∷ ss) (suc k) r s e q h = Contains-append_right (findings_at (spot.At (point_at g b i)) (broken_by_step rules f (point_at g b i) t)) (step_findings rules g f b (suc i) ss) (finding (spot.At (point_at g b n)) r) (steps-have g f b (suc i) n ss k r s e (omega (arith, q)) h)

  pub record AtBlock (g : ℕ) (f : Function) (b : ℕ) (cs : List Block) (x : Finding) : Type 0 where
    pub number : ℕ
    pub block : Block
    pub at : slice_get cs number ≡ Some block
    pub within : AtStep g f (b + number) 0 (steps_of_block block) x

  pub blocks-cases : (g : ℕ) (f : Function) (b : ℕ) (cs : List Block) (x : Finding) → Contains (block_findings rules g f b cs) x → AtBlock g f b cs x
  blocks-cases g f b [] x h = absurd (none x h)
  blocks-cases g f b (c ∷ cs) x h = elim (Contains-append_cases (step_findings rules g f b 0 (steps_of_block c)) (block_findings rules g f (suc b) cs) x h) [ inl m ↦ first (steps-cases g f b 0 (steps_of_block c) x m) | inr m ↦ later (blocks-cases g f (suc b) cs x m) ]
    where
      first : AtStep g f b 0 (steps_of_block c) x → AtBlock g f b (c ∷ cs) x
      first k = let e : b ≡ b + 0 = omega arith in record { number = zero; block = c; at = refl; within = subst (λ n. AtStep g f n 0 (steps_of_block c) x) e k }

      later : AtBlock g f (suc b) cs x → AtBlock g f b (c ∷ cs) x
      later k = let e : suc b + k.number ≡ b + suc k.number = omega arith in record { number = suc k.number; block = k.block; at = k.at; within = subst (λ n. AtStep g f n 0 (steps_of_block k.block) x) e k.within }

  blocks-have : (g : ℕ) (f : Function) (b n : ℕ) (cs : List Block) (k : ℕ) (c : Block) (x : Finding) → slice_get cs k ≡ Some c → n ≡ b + k → Contains (step_findings rules g f n 0 (steps_of_block c)) x → Contains (block_findings rules g f b cs) x
  blocks-have g f b n [] k c x e q h = cc
  blocks-have g f b n (d ∷ cs) zero c x e q h =
      let same : c ≡ d = cc in
      let q' : n ≡ b = omega (arith, q) in
      Contains-append_left (step_findings rules g f b 0 (steps_of_block d)) (block_findings rules g f (suc b) cs) x (subst (λ z. Contains (step_findings rules g f z 0 (steps_of_block d)) x) q' (subst (λ z. Contains (step_findings rules g f n 0 (steps_of_block z)) x) same h))
  blocks-have g f b n (d ∷ cs) (suc k) c x e q h = Contains-append_right (step_findings rules g f b 0 (steps_of_block d)) (block_findings rules g f (suc b) cs) x (blocks-have g f (suc b) n cs k c x e (omega (arith, q)) h)

  -- a function itself, or one of its steps
  pub data InFunction (g : ℕ) (f : Function) (x : Finding) : Type 0 where
    itself : x.spot ≡ spot.Func (record { 0 = g }) → Contains (broken_by_function rules g (Some f)) x.rule → InFunction g f x
    inside : AtBlock g f 0 (blocks_of f) x → InFunction g f x

  pub record AtFunction (g : ℕ) (fs : List Function) (x : Finding) : Type 0 where
    pub number : ℕ
    pub function : Function
    pub at : slice_get fs number ≡ Some function
    pub within : InFunction (g + number) function x

  abbrev pub of-function : ℕ → Function → List Finding
  of-function g f = findings_at (spot.Func (record { 0 = g })) (broken_by_function rules g (Some f))

  part-cases : (g : ℕ) (f : Function) (x : Finding) → Contains (function_part rules g f) x → InFunction g f x
  part-cases g f x m = elim (Contains-append_cases (of-function g f) (block_findings rules g f 0 (blocks_of f)) x m) [ inl k ↦ itself (at-cases (spot.Func (record { 0 = g })) (broken_by_function rules g (Some f)) x k).0 (at-cases (spot.Func (record { 0 = g })) (broken_by_function rules g (Some f)) x k).1 | inr k ↦ inside (blocks-cases g f 0 (blocks_of f) x k) ]

  pub functions-cases : (g : ℕ) (fs : List Function) (x : Finding) → Contains (function_findings rules g fs) x → AtFunction g fs x
  functions-cases g [] x h = absurd (none x h)
  functions-cases g (f ∷ fs) x h = elim (Contains-append_cases (function_part rules g f) (function_findings rules (suc g) fs) x h) [ inl m ↦ first (part-cases g f x m) | inr k ↦ later (functions-cases (suc g) fs x k) ]
    where
      first : InFunction g f x → AtFunction g (f ∷ fs) x
      first k = let e : g ≡ g + 0 = omega arith in record { number = zero; function = f; at = refl; within = subst (λ n. InFunction n f x) e k }

      later : AtFunction (suc g) fs x → AtFunction g (f ∷ fs) x
      later k = let e : suc g + k.number ≡ g + suc k.number = omega arith in record { number = suc k.number; function = k.function; at = k.at; within = subst (λ n. InFunction n k.function x) e k.within }

  functions-have : (g n : ℕ) (fs : List Function) (k : ℕ) (f : Function) (x : Finding) → slice_get fs k ≡ Some f → n ≡ g + k → Contains (function_part rules n f) x → Contains (function_findings rules g fs) x
  functions-have g n [] k f x e q h = cc
  functions-have g n (d ∷ fs) zero f x e q h =
      let same : f ≡ d = cc in
      let q' : n ≡ g = omega (arith, q) in
      Contains-append_left (function_part rules g d) (function_findings rules (suc g) fs) x (subst (λ z. Contains (function_part rules z d) x) q' (subst (λ z. Contains (function_part rules n z) x) same h))
  functions-have g n (d ∷ fs) (suc k) f x e q h = Contains-append_right (function_part rules g d) (function_findings rules (suc g) fs) x (functions-have (suc g) n fs k f x e (omega (arith, q)) h)

  -- ---- exactly what is broken

  module _ (m : Module) where
    at-point : (p : Point) (f : Function) (s : Step) → slice_get m.funcs p.func.0 ≡ Some f → step_of_point f p ≡ s → broken_at rules m (spot.At p) ≡ broken_by_step rules f p s
    at-point p f s e q = ap (λ o. broken_at_point rules o p) e ∙ ap (broken_by_step rules f p) q

    block-breaks : (g : ℕ) (f : Function) (x : Finding) → slice_get m.funcs g ≡ Some f → AtBlock g f 0 (blocks_of f) x → Contains (broken_at rules m x.spot) x.rule
    block-breaks g f x e k =
        let s = k.within in
        let p : Point = point_at g k.number s.number in
        let z : 0 + k.number ≡ k.number = omega arith in
        let y : 0 + s.number ≡ s.number = omega arith in
        let sp : x.spot ≡ spot.At p = s.spot_is ∙ (ap (λ n. spot.At (point_at g n (0 + s.number))) z ∙ ap (λ n. spot.At (point_at g k.number n)) y) in
        let br : Contains (broken_by_step rules f p s.step) x.rule = subst (λ n. Contains (broken_by_step rules f (point_at g k.number n) s.step) x.rule) y (subst (λ n. Contains (broken_by_step rules f (point_at g n (0 + s.number)) s.step) x.rule) z s.breaks) in
        let st : step_of_point f p ≡ s.step = step-here f p k.block (block-is f p ∙ k.at) ∙ step-among k.block s.number s.step s.at in
        subst (λ t. Contains (broken_at rules m t) x.rule) (sym sp) (subst (λ l. Contains l x.rule) (sym (at-point p f s.step e st)) br)

    in-breaks : (g : ℕ) (f : Function) (x : Finding) → slice_get m.funcs g ≡ Some f → InFunction g f x → Contains (broken_at rules m x.spot) x.rule
    in-breaks g f x e (itself sp h) = subst (λ t. Contains (broken_at rules m t) x.rule) (sym sp) (subst (λ o. Contains (broken_by_function rules g o) x.rule) (sym e) h)
    in-breaks g f x e (inside k) = block-breaks g f x e k

    function-breaks : (x : Finding) → AtFunction 0 m.funcs x → Contains (broken_at rules m x.spot) x.rule
    function-breaks x k = let z : 0 + k.number ≡ k.number = omega arith in in-breaks k.number k.function x k.at (subst (λ n. InFunction n k.function x) z k.within)

    pub listed-breaks : (x : Finding) → Contains (findings rules m) x → Contains (broken_at rules m x.spot) x.rule
    listed-breaks x h = elim (Contains-append_cases (findings_at spot.Module (broken (λ b. b) rules.on_module)) (function_findings rules 0 m.funcs) x h) [ inl k ↦ (let q = at-cases spot.Module (broken (λ b. b) rules.on_module) x k in subst (λ t. Contains (broken_at rules m t) x.rule) (sym q.0) q.1) | inr k ↦ function-breaks x (functions-cases 0 m.funcs x k) ]

    of-functions : (x : Finding) → Contains (function_findings rules 0 m.funcs) x → Contains (findings rules m) x
    of-functions x h = Contains-append_right (findings_at spot.Module (broken (λ b. b) rules.on_module)) (function_findings rules 0 m.funcs) x h

    func-listed : (g r : ℕ) (o : Option Function) → slice_get m.funcs g ≡ o → Contains (broken_by_function rules g o) r → Contains (findings rules m) (finding (spot.Func (record { 0 = g })) r)
    func-listed g r None e h = absurd (none r h)
    func-listed g r (Some f) e h = of-functions (finding (spot.Func (record { 0 = g })) r) (functions-have 0 g m.funcs g f (finding (spot.Func (record { 0 = g })) r) e (omega arith) (Contains-append_left (of-function g f) (block_findings rules g f 0 (blocks_of f)) (finding (spot.Func (record { 0 = g })) r) (at-has (spot.Func (record { 0 = g })) (broken_by_function rules g (Some f)) r h)))

    point-listed : (p : Point) (r : ℕ) (o : Option Function) → slice_get m.funcs p.func.0 ≡ o → Contains (broken_at_point rules o p) r → Contains (findings rules m) (finding (spot.At p) r)
    point-listed p r None e h = absurd (none r h)
    point-listed p r (Some f) e h = elim (stands f p) [ inl n ↦ absurd (none r (subst (λ s. Contains (broken_by_step rules f p s) r) n h)) | inr s ↦ of-functions (finding (spot.At p) r) (functions-have 0 p.func.0 m.funcs p.func.0 f (finding (spot.At p) r) e (omega arith) (Contains-append_right (of-function p.func.0 f) (block_findings rules p.func.0 f 0 (blocks_of f)) (finding (spot.At p) r) (blocks-have p.func.0 f 0 p.block.0 (blocks_of f) p.block.0 s.block (finding (spot.At p) r) s.at (omega arith) (steps-have p.func.0 f p.block.0 0 p.index (steps_of_block s.block) p.index r (step_at s.block p.index) (step-is s.block p.index s.within) (omega arith) (subst (λ t. Contains (broken_by_step rules f p t) r) (step-here f p s.block (block-is f p ∙ s.at)) h))))) ]

    pub breaks-listed : (s : Spot) (r : ℕ) → Contains (broken_at rules m s) r → Contains (findings rules m) (finding s r)
    breaks-listed spot.Module r h = Contains-append_left (findings_at spot.Module (broken (λ b. b) rules.on_module)) (function_findings rules 0 m.funcs) (finding spot.Module r) (at-has spot.Module (broken (λ b. b) rules.on_module) r h)
    breaks-listed (spot.Func g) r h = func-listed g.0 r (slice_get m.funcs g.0) refl h
    breaks-listed (spot.At p) r h = point-listed p r (slice_get m.funcs p.func.0) refl h
