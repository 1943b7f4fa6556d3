-- The instruction that decides against lowering has a place in the text.
use Rattle.std.proofs.Common.{◌≡◌, ◌∙◌, inl, inr, ℕ, zero, suc, ◌+◌, ◌-◌, ◌<◌, ◌≤◌, cond, Bool, true, false, Option, None, Some, List, [], ◌∷◌, length, map, refl, sym, ap, subst, arith}
use Rattle.std.specs.Cmp.{unsigned_Decides}
use Rattle.std.specs.Prelude.{◌==◌, IsSome, nat_lt, slice_get}
use Rattle.std.proofs.lemmas.Option.{none-some, same_Some, slice_get_past}
use Rattle.ir_module.specs.declared.places.Place.{Place}
use Rattle.ir_module.specs.declared.places.Point.{Point}
use Rattle.ir_module.specs.declared.places.Spot.{Spot}
use Rattle.ir_module.specs.declared.places.Spot.TheVariants as spot
use Rattle.ir_module.specs.declared.tree.Block.{Block}
use Rattle.ir_module.specs.declared.tree.Function.{Function}
use Rattle.ir_module.specs.declared.tree.Module.{Module}
use Rattle.ir_module.specs.Numbered.{Numbered}
use Rattle.ir_module.specs.Places.{place_of, same_spot}
use Rattle.ir_module.specs.Spots.{block_spots, blocks_spots, function_spots, functions_spots, point_at, points_from, spots}
use Rattle.ir_module.specs.Steps.{NoStep, Step, step_at, step_in_module}
use Rattle.ir_module.specs.Tree.{blocks_or_none}
use Rattle.ir_values.specs.declared.ids.FuncId.{FuncId}
use Rattle.ir_values.specs.declared.ids.LocalId.{LocalId}
use Rattle.kept_items.specs.declared.target.Kind.{Kind}
use Rattle.kept_items.specs.declared.target.Target.{Target}
use Rattle.program_verdicts.proofs.Visits.{reached-from}
use Rattle.static_steps.specs.declared.config.Frame.{Frame}
use Rattle.static_steps.specs.Configurations.{AreFrames, Bounds, Stands, bounds}
use Rattle.static_steps.specs.Steps.{start_of}
use Rattle.type_check.specs.Faults.{Typed}
use Rattle.type_check.specs.Told.{HasPlace}
use Rattle.type_check.proofs.Spots.{Among, among-left, among-right}
use Rattle.valid_steps.specs.Laws.{AdmittedModulesStart, StepsKeepConfigurations}
use Rattle.sound_lowering.specs.Programs.{IsNotLowered, program_by, source_limit}
use Rattle.sound_lowering.proofs.Keeping.{entry-there}
use Rattle.lowering_verdicts.proofs.Answers.{keeps}

-- ---- the points of a module are among its spots

points-have : (f b i n j : ℕ) → i ≤ j → j < i + n → Among (points_from f b i n) (spot.At (point_at f b j))
points-have f b i zero j le lt = absurd (omega (arith, le, lt))
points-have f b i (suc n) j le lt = by (nat_lt i j) refl (λ h. points-have f b (suc i) n j h (omega (arith, lt)))
  where
    by : (below : Bool) → nat_lt i j ≡ below → (suc i ≤ j → Among (points_from f b (suc i) n) (spot.At (point_at f b j))) → Among (points_from f b i (suc n)) (spot.At (point_at f b j))
    by true e go = inr (go (grind (arith, e)))
    by false e go = let same : j ≡ i = grind (arith, e, le) in inl (ap (λ k. spot.At (point_at f b k)) same)

blocks-have : (f b : ℕ) (bs : List Block) (k : ℕ) (c : Block) (j : ℕ) → slice_get bs k ≡ Some c → j ≤ length c.phis + length c.insts → Among (blocks_spots f b bs) (spot.At (point_at f (b + k) j))
blocks-have f b [] k c j e le = absurd (none-some c e)
blocks-have f b (d ∷ bs) zero c j e le =
    let same : b ≡ b + 0 = omega arith in
    among-left (block_spots f b d) (blocks_spots f (suc b) bs) (spot.At (point_at f (b + 0) j))
    (subst (λ n. Among (block_spots f b d) (spot.At (point_at f n j))) same
    (subst (λ x. Among (block_spots f b x) (spot.At (point_at f b j))) (sym (same_Some d c e)) (points-have f b 0 (suc (length c.phis + length c.insts)) j (omega arith) (omega (arith, le)))))
blocks-have f b (d ∷ bs) (suc k) c j e le =
    let same : suc b + k ≡ b + suc k = omega arith in
    among-right (block_spots f b d) (blocks_spots f (suc b) bs) (spot.At (point_at f (b + suc k) j))
    (subst (λ n. Among (blocks_spots f (suc b) bs) (spot.At (point_at f n j))) same (blocks-have f (suc b) bs k c j e le))

functions-have : (n : ℕ) (fs : List Function) (k : ℕ) (f : Function) (s : Spot) → slice_get fs k ≡ Some f → Among (function_spots (n + k) f) s → Among (functions_spots n fs) s
functions-have n [] k f s e h = absurd (none-some f e)
functions-have n (g ∷ fs) zero f s e h =
    let same : n + 0 ≡ n = omega arith in
    among-left (function_spots n g) (functions_spots (suc n) fs) s
    (subst (λ k. Among (function_spots k g) s) same (subst (λ x. Among (function_spots (n + 0) x) s) (sym (same_Some g f e)) h))
functions-have n (g ∷ fs) (suc k) f s e h =
    let same : n + suc k ≡ suc n + k = omega arith in
    among-right (function_spots n g) (functions_spots (suc n) fs) s
    (functions-have (suc n) fs k f s e (subst (λ i. Among (function_spots i f) s) same h))

-- a step stands nowhere behind a block's terminator
past-end : (c : Block) (i : ℕ) → length c.phis + length c.insts < i → step_at c i ≡ NoStep
past-end c i h =
    let phis : slice_get c.phis i ≡ None = slice_get_past c.phis i (omega (arith, h)) in
    let insts : slice_get c.insts (i - length c.phis) ≡ None = slice_get_past c.insts (i - length c.phis) (omega (arith, h)) in
    let z : i - (length c.phis + length c.insts) ≡ suc (i - suc (length c.phis + length c.insts)) = omega (arith, h) in
    rw (phis, insts, z) refl

module _ (m : Module) (p : Point) (stands : Stands (step_in_module m p)) where
  nothing : (s : Step) → step_in_module m p ≡ s → s ≡ NoStep → ⊥
  nothing s e n = subst Stands (e ∙ n) stands

  in-block : (f : Function) (bs : List Block) (c : Block) → slice_get m.funcs p.func.0 ≡ Some f → f.blocks ≡ Some bs → slice_get bs p.block.0 ≡ Some c → Among (spots m) (spot.At p)
  in-block f bs c is body at = by (nat_lt (length c.phis + length c.insts) p.index) refl
    where
      here : step_in_module m p ≡ step_at c p.index
      here = rw (is, body, at) refl

      by : (past : Bool) → nat_lt (length c.phis + length c.insts) p.index ≡ past → Among (spots m) (spot.At p)
      by true e = absurd (nothing (step_at c p.index) here (past-end c p.index (grind (arith, e))))
      by false e =
          let number : p.func.0 ≡ 0 + p.func.0 = omega arith in
          let block : 0 + p.block.0 ≡ p.block.0 = omega arith in
          let point : Among (blocks_spots p.func.0 0 bs) (spot.At p) =
          subst (λ n. Among (blocks_spots p.func.0 0 bs) (spot.At (point_at p.func.0 n p.index))) block (blocks-have p.func.0 0 bs p.block.0 c p.index at (grind (arith, e))) in
          let body-point : Among (blocks_spots p.func.0 0 (blocks_or_none f.blocks)) (spot.At p) =
          subst (λ o. Among (blocks_spots p.func.0 0 (blocks_or_none o)) (spot.At p)) (sym body) point in
          inr (functions-have 0 m.funcs p.func.0 f (spot.At p) is (subst (λ n. Among (function_spots n f) (spot.At p)) number (inr body-point)))

  pub is-spot : Among (spots m) (spot.At p)
  is-spot = by-function (slice_get m.funcs p.func.0) refl
    where
      by-block : (f : Function) (bs : List Block) → slice_get m.funcs p.func.0 ≡ Some f → f.blocks ≡ Some bs → (o : Option Block) → slice_get bs p.block.0 ≡ o → Among (spots m) (spot.At p)
      by-block f bs is body None e = absurd (nothing NoStep (rw (is, body, e) refl) refl)
      by-block f bs is body (Some c) e = in-block f bs c is body e

      by-body : (f : Function) → slice_get m.funcs p.func.0 ≡ Some f → (o : Option (List Block)) → f.blocks ≡ o → Among (spots m) (spot.At p)
      by-body f is None e = absurd (nothing NoStep (rw (is, e) refl) refl)
      by-body f is (Some bs) e = by-block f bs is e (slice_get bs p.block.0) refl

      by-function : (o : Option Function) → slice_get m.funcs p.func.0 ≡ o → Among (spots m) (spot.At p)
      by-function None e = absurd (nothing NoStep (rw e refl) refl)
      by-function (Some f) e = by-body f e f.blocks refl

-- ---- a spot has its place

itself : (n : ℕ) → (n == n) ≡ true
itself n = (unsigned_Decides n n).1 refl

same-itself : (s : Spot) → same_spot s s ≡ true
same-itself spot.Module = refl
same-itself (spot.Func g) = itself g.0
same-itself (spot.At p) = rw (itself p.func.0, itself p.block.0) (itself p.index)

found : (s : Spot) (ps : List (Spot × Place)) → Among (map (λ p. p.0) ps) s → IsSome (place_of ps s)
found s [] h = absurd h
found s (p ∷ ps) (inl e) = let q : same_spot p.0 s ≡ true = ap (λ x. same_spot x s) (sym e) ∙ same-itself s in rw q refl
found s (p ∷ ps) (inr h) = by (same_spot p.0 s) (found s ps h)
  where
    by : (b : Bool) → IsSome (place_of ps s) → IsSome (cond b (Some p.1) (place_of ps s))
    by true r = refl
    by false r = r

pub has-place : (m : Module) (p : Point) → Stands (step_in_module m p) → HasPlace m (spot.At p)
has-place m p stands ps e = found (spot.At p) ps (subst (λ ss. Among ss (spot.At p)) (sym e) (is-spot m p stands))

-- ---- the configuration that decides stands at an instruction of the module

top-stands : (m : Module) (t : Target) (live : Point → LocalId → Bool) (n : Bounds) (entry : FuncId) (top : Frame) (below : List Frame) → AreFrames m t live n entry top below
    → Stands (step_in_module m top.at)
top-stands m t live n entry top [] h = h.1.stands
top-stands m t live n entry top (next ∷ below) h = h.1.stands

pub refusal-placed : AdmittedModulesStart → StepsKeepConfigurations → (m : Module) (t : Target) (budget : ℕ) (at : Point) (kind : Kind) → Numbered m → Typed m source_limit
    → IsNotLowered m t budget at kind → HasPlace m (spot.At at)
refusal-placed starts steps m t budget at kind numbered typed h =
    let entry = entry-there m numbered typed in
    let p = program_by m t h.live in
    let k = keeps starts steps m t h.live numbered typed entry.0 entry.1 in
    let r = h.refused in
    let reached = reached-from p budget k r.refuses.path (start_of p.entry) r.config k.starts r.refuses.candidate.simple.ends in
    subst (λ (at : Point). HasPlace m (spot.At at)) r.stands
    (has-place m r.config.top.at (top-stands m t h.live (bounds p.qubits p.results r.config) p.entry r.config.top r.config.below reached.frames))
