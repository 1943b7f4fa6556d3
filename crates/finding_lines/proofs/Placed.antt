-- Each finding stands at a part of its module, so it has a place where every part has one.
use Rattle.std.proofs.Common.{◌≡◌, inl, inr, ℕ, zero, suc, ◌+◌, ◌<◌, ◌≤◌, Bool, true, false, if◌then◌else◌, ◌==◌, eq-eqb, true≢false, Option, None, Some, List, [], ◌∷◌, ◌++◌, length, map, slice_get, Contains, refl, sym, ap, ◌∙◌, subst, arith}
use Rattle.std.specs.Prelude.{IsSome}
use Rattle.ir_module.specs.declared.places.Place.{Place}
use Rattle.ir_module.specs.declared.places.Point.{Point}
use Rattle.ir_module.specs.declared.places.Spot.{Spot}
use Rattle.ir_module.specs.declared.places.Spot.TheVariants as spot
use Rattle.ir_module.specs.declared.tree.Block.{Block}
use Rattle.ir_module.specs.declared.tree.Function.{Function}
use Rattle.ir_module.specs.declared.tree.Module.{Module}
use Rattle.ir_module.specs.Places.{place_of, same_spot}
use Rattle.ir_module.specs.Spots.{spots, point_at, points_from, block_spots, blocks_spots, function_spots, functions_spots}
use Rattle.ir_module.specs.Tree.{blocks_of}
use Rattle.profile_rules.specs.declared.finding.Finding.{Finding}
use Rattle.profile_rules.specs.declared.finding.Form.{Form}
use Rattle.profile_rules.specs.Adaptive.{adaptive_rules, ViolatesAdaptive, LoopsAt, LoopsBack, CallsAt, CallsBack, ReturnsFrom, number_called, ends_block}
use Rattle.profile_rules.specs.Base.{base_rules, violates_base_of, ViolatesBase}
use Rattle.profile_rules.specs.Findings.{Rules, Breaks, broken_by_function, broken_by_step, broken_at_point, AreFindings}
use Rattle.profile_rules.proofs.Positions.{none, here, there, Stands, stands}
use Rattle.finding_lines.specs.Lines.{HavePlaces, ArePlaces}

-- the spot is among these
abbrev is_among : Spot → List Spot → Bool
is_among s [] = false
is_among s (x ∷ xs) = if same_spot x s then true else is_among s xs

among-left : (s : Spot) (xs ys : List Spot) → is_among s xs ≡ true → is_among s (xs ++ ys) ≡ true
among-left s [] ys h = absurd (true≢false (sym h))
among-left s (x ∷ xs) ys h = by (same_spot x s) (among-left s xs ys) h
  where
    by : (b : Bool) → (is_among s xs ≡ true → is_among s (xs ++ ys) ≡ true) → (if b then true else is_among s xs) ≡ true → (if b then true else is_among s (xs ++ ys)) ≡ true
    by true ih h = refl
    by false ih h = ih h

among-right : (s : Spot) (xs ys : List Spot) → is_among s ys ≡ true → is_among s (xs ++ ys) ≡ true
among-right s [] ys h = h
among-right s (x ∷ xs) ys h = later (same_spot x s) (among-right s xs ys h)
  where
    later : (b : Bool) → is_among s (xs ++ ys) ≡ true → (if b then true else is_among s (xs ++ ys)) ≡ true
    later true ih = refl
    later false ih = ih

among-rest : (s x : Spot) (xs : List Spot) → is_among s xs ≡ true → is_among s (x ∷ xs) ≡ true
among-rest s x xs h = at (same_spot x s)
  where
    at : (b : Bool) → (if b then true else is_among s xs) ≡ true
    at true = refl
    at false = h

found : (s : Spot) (ps : List (Spot × Place)) → is_among s (map (λ p. p.0) ps) ≡ true → IsSome (place_of ps s)
found s [] h = absurd (true≢false (sym h))
found s (p ∷ ps) h = by (same_spot p.0 s) (found s ps) h
  where
    by : (b : Bool) → (is_among s (map (λ p. p.0) ps) ≡ true → IsSome (place_of ps s)) → (if b then true else is_among s (map (λ p. p.0) ps)) ≡ true
        → IsSome (if b then Some p.1 else place_of ps s)
    by true ih h = refl
    by false ih h = ih h

not-yet : (j i : ℕ) → j ≤ i → (j == i) ≡ false → suc j ≤ i
not-yet j i low e = grind arith

-- the points of a block
among-points : (f b j n i : ℕ) → j ≤ i → i < j + n → is_among (spot.At (point_at f b i)) (points_from f b j n) ≡ true
among-points f b j zero i low high = absurd (omega arith)
among-points f b j (suc n) i low high = rw (eq-eqb f f refl, eq-eqb b b refl) (by (j == i) refl (among-points f b (suc j) n i))
  where
    by : (t : Bool) → (j == i) ≡ t → (suc j ≤ i → i < suc j + n → is_among (spot.At (point_at f b i)) (points_from f b (suc j) n) ≡ true)
        → (if t then true else is_among (spot.At (point_at f b i)) (points_from f b (suc j) n)) ≡ true
    by true e ih = refl
    by false e ih = ih (not-yet j i low e) (omega arith)

among-blocks : (f b : ℕ) (bs : List Block) (k n : ℕ) (c : Block) (i : ℕ) → slice_get bs k ≡ Some c → n ≡ b + k → i ≤ length c.phis + length c.insts
    → is_among (spot.At (point_at f n i)) (blocks_spots f b bs) ≡ true
among-blocks f b [] k n c i e q l = cc
among-blocks f b (d ∷ bs) zero n c i e q l =
    let same : d ≡ c = cc in
    let z : b ≡ n = omega (arith, q) in
    among-left (spot.At (point_at f n i)) (block_spots f b d) (blocks_spots f (suc b) bs)
    (subst (λ x. is_among (spot.At (point_at f n i)) (block_spots f x d) ≡ true) (sym z)
    (subst (λ x. is_among (spot.At (point_at f n i)) (block_spots f n x) ≡ true) (sym same)
    (among-points f n 0 (suc (length c.phis + length c.insts)) i (omega arith) (omega (arith, l)))))
among-blocks f b (d ∷ bs) (suc k) n c i e q l =
    among-right (spot.At (point_at f n i)) (block_spots f b d) (blocks_spots f (suc b) bs) (among-blocks f (suc b) bs k n c i e (omega (arith, q)) l)

among-functions : (s : Spot) (k : ℕ) (fs : List Function) (f n : ℕ) (g : Function) → slice_get fs f ≡ Some g → n ≡ k + f → is_among s (function_spots n g) ≡ true → is_among s (functions_spots k fs) ≡ true
among-functions s k [] f n g h e among = cc
among-functions s k (x ∷ fs) zero n g h e among =
    let same : x ≡ g = cc in
    let z : k ≡ n = omega (arith, e) in
    among-left s (function_spots k x) (functions_spots (suc k) fs)
    (subst (λ y. is_among s (function_spots y x) ≡ true) (sym z) (subst (λ y. is_among s (function_spots n y) ≡ true) (sym same) among))
among-functions s k (x ∷ fs) (suc f) n g h e among = among-right s (function_spots k x) (functions_spots (suc k) fs) (among-functions s (suc k) fs f n g h (omega (arith, e)) among)

module _ (m : Module) where
  at-function : (g : ℕ) (f : Function) → slice_get m.funcs g ≡ Some f → is_among (spot.Func (record { 0 = g })) (spots m) ≡ true
  at-function g f e = among-functions (spot.Func (record { 0 = g })) 0 m.funcs g g f e (omega arith) (rw (eq-eqb g g refl) refl)

  at-point : (p : Point) (f : Function) → slice_get m.funcs p.func.0 ≡ Some f → Stands f p → is_among (spot.At p) (spots m) ≡ true
  at-point p f e s =
      among-functions (spot.At p) 0 m.funcs p.func.0 p.func.0 f e (omega arith)
      (among-rest (spot.At p) (spot.Func (record { 0 = p.func.0 })) (blocks_spots p.func.0 0 (blocks_of f))
      (among-blocks p.func.0 0 (blocks_of f) p.block.0 p.block.0 s.block p.index s.at (omega arith) s.within))

  -- ---- where rules are broken

  by-function : (rules : Rules) (g r : ℕ) (o : Option Function) → slice_get m.funcs g ≡ o → Contains (broken_by_function rules g o) r → is_among (spot.Func (record { 0 = g })) (spots m) ≡ true
  by-function rules g r None e c = absurd (none r c)
  by-function rules g r (Some f) e c = at-function g f e

  by-point : (rules : Rules) (p : Point) (r : ℕ) (o : Option Function) → slice_get m.funcs p.func.0 ≡ o → Contains (broken_at_point rules o p) r → is_among (spot.At p) (spots m) ≡ true
  by-point rules p r None e c = absurd (none r c)
  by-point rules p r (Some f) e c = elim (stands f p) [ inl n ↦ absurd (none r (subst (λ s. Contains (broken_by_step rules f p s) r) n c)) | inr s ↦ at-point p f e s ]

  breaks : (rules : Rules) (s : Spot) (r : ℕ) → Breaks rules m s r → is_among s (spots m) ≡ true
  breaks rules spot.Module r c = refl
  breaks rules (spot.Func g) r c = by-function rules g.0 r (slice_get m.funcs g.0) refl c
  breaks rules (spot.At p) r c = by-point rules p r (slice_get m.funcs p.func.0) refl c

  loops-at : (p : Point) (o : Option Function) → slice_get m.funcs p.func.0 ≡ o → LoopsAt o p → is_among (spot.At p) (spots m) ≡ true
  loops-at p None e h = absurd h
  loops-at p (Some f) e h = elim (stands f p) [ inl n ↦ absurd (true≢false (sym h.0 ∙ ap ends_block n)) | inr s ↦ at-point p f e s ]

  loops : (s : Spot) → LoopsBack m s → is_among s (spots m) ≡ true
  loops spot.Module h = absurd h
  loops (spot.Func g) h = absurd h
  loops (spot.At p) h = loops-at p (slice_get m.funcs p.func.0) refl h

  calls-at : (p : Point) (o : Option Function) → slice_get m.funcs p.func.0 ≡ o → CallsAt m o p → is_among (spot.At p) (spots m) ≡ true
  calls-at p None e h = absurd h
  calls-at p (Some f) e h = elim (stands f p) [ inl n ↦ absurd (subst (λ s. ReturnsFrom m p.func.0 (number_called s)) n h) | inr s ↦ at-point p f e s ]

  calls : (s : Spot) → CallsBack m s → is_among s (spots m) ≡ true
  calls spot.Module h = absurd h
  calls (spot.Func g) h = absurd h
  calls (spot.At p) h = calls-at p (slice_get m.funcs p.func.0) refl h

  base : (shape : Form) (e : ℕ) (o : Option Function) (s : Spot) (r : ℕ) → violates_base_of o shape m e s r → is_among s (spots m) ≡ true
  base shape e None s r h = absurd h
  base shape e (Some f) s r h = breaks (base_rules shape m e f) s r h

  adaptive : (e : ℕ) (s : Spot) (r : ℕ) → ViolatesAdaptive m e s r → is_among s (spots m) ≡ true
  adaptive e s r (inl h) = breaks (adaptive_rules m e) s r h
  adaptive e s r (inr (inl h)) = loops s h.2
  adaptive e s r (inr (inr h)) = calls s h.1

placed : (places : List (Spot × Place)) (fs : List Finding) → ((f : Finding) → Contains fs f → IsSome (place_of places f.spot)) → HavePlaces places fs
placed places [] h = tt
placed places (f ∷ fs) h = (h f (here f fs), placed places fs (λ g c. h g (there f g fs c)))

pub base-placed : (shape : Form) (m : Module) (e : ℕ) (places : List (Spot × Place)) (fs : List Finding)
    → ArePlaces m places → AreFindings (ViolatesBase shape m e) fs → HavePlaces places fs
base-placed shape m e places fs all found_ = placed places fs
    (λ f c. found f.spot places (subst (λ (xs : List Spot). is_among f.spot xs ≡ true) (sym all) (base m shape e (slice_get m.funcs e) f.spot f.rule ((found_.exact f.spot f.rule).0 c))))

pub adaptive-placed : (m : Module) (e : ℕ) (places : List (Spot × Place)) (fs : List Finding)
    → ArePlaces m places → AreFindings (ViolatesAdaptive m e) fs → HavePlaces places fs
adaptive-placed m e places fs all found_ = placed places fs
    (λ f c. found f.spot places (subst (λ (xs : List Spot). is_among f.spot xs ≡ true) (sym all) (adaptive m e f.spot f.rule ((found_.exact f.spot f.rule).0 c))))
