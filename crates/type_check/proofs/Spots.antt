-- The spots of a module: all that may have a fault are among them, and they ascend.
use Rattle.std.proofs.Common.{◌≡◌, ◌⊎◌, inl, inr, ⊎_elim, ℕ, zero, suc, ◌+◌, ◌-◌, ◌<◌, ◌≤◌, Bool, true, false, Option, None, Some, List, [], ◌∷◌, ◌++◌, length, slice_get, refl, sym, ap, ◌∙◌, subst, arith}
use Rattle.std.proofs.lemmas.Bool.{cases_lt}
use Rattle.std.proofs.lemmas.Option.{slice_get_past, slice_get_cases}
use Rattle.std.specs.Prelude.{⊤}
use Rattle.ir_module.specs.declared.places.Point.{Point}
use Rattle.ir_module.specs.declared.places.Spot.{Spot}
use Rattle.ir_module.specs.declared.places.Spot.TheVariants as spot
use Rattle.ir_module.specs.declared.tree.Block.{Block}
use Rattle.ir_module.specs.declared.tree.Function.{Function}
use Rattle.ir_module.specs.declared.tree.Module.{Module}
use Rattle.ir_module.specs.Places.{IsBefore}
use Rattle.ir_module.specs.Steps.{Step, NoStep, step_at, step_of_point}
use Rattle.ir_module.specs.Tree.{block_at, blocks_or_none, blocks_of}
use Rattle.ir_values.specs.declared.ids.FuncId.{FuncId}
use Rattle.ir_module.specs.Entry.{entry_of}
use Rattle.type_check.specs.declared.code.TypeCode.{TypeCode}
use Rattle.type_check.specs.declared.code.TypeCode.TheVariants as code
use Rattle.type_check.specs.Faults.{on_function, at_step, is_no_second, where_entry, keeps_rule}
use Rattle.type_check.specs.Required.{numbers_are_plain, required_qubits, required_results}
use Rattle.type_check.specs.Rules.{types_agree, entries_fit, keeps_first, cases_differ, numbers_below, functions_known, body_has_own_name, is_entry_type}
use Rattle.ir_module.specs.Spots.{point_at, points_from, block_spots, blocks_spots, function_spots, functions_spots, spots}
use Rattle.type_check.proofs.Facts.{step-here}

abbrev pub Among : {A : Type 0} → List A → A → Type 0
Among [] x = ⊥
Among (y ∷ ys) x = (x ≡ y) ⊎ Among ys x

pub among-left : {A : Type 0} (xs ys : List A) (x : A) → Among xs x → Among (xs ++ ys) x
among-left [] ys x h = absurd h
among-left (y ∷ xs) ys x (inl e) = inl e
among-left (y ∷ xs) ys x (inr h) = inr (among-left xs ys x h)

pub among-right : {A : Type 0} (xs ys : List A) (x : A) → Among ys x → Among (xs ++ ys) x
among-right [] ys x h = h
among-right (y ∷ xs) ys x h = inr (among-right xs ys x h)

pub among-either : {A : Type 0} (xs ys : List A) (x : A) → Among (xs ++ ys) x → Among xs x ⊎ Among ys x
among-either [] ys x h = inr h
among-either (y ∷ xs) ys x (inl e) = inl (inl e)
among-either (y ∷ xs) ys x (inr h) = ⊎_elim (λ q. inl (inr q)) (λ q. inr q) (among-either xs ys x h)

abbrev at : ℕ → ℕ → ℕ → Spot
at f b i = spot.At (point_at f b i)

abbrev func : ℕ → Spot
func f = spot.Func (record { 0 = f })

-- ---- what is among them

points-have : (f b i n j : ℕ) → i ≤ j → j < i + n → Among (points_from f b i n) (at f b j)
points-have f b i zero j le lt = absurd (omega (arith, le, lt))
points-have f b i (suc n) j le lt =
    ⊎_elim (λ (h : i < j). inr (points-have f b (suc i) n j (omega (arith, h)) (omega (arith, lt)))) (λ (h : j ≤ i). let e : j ≡ i = omega (arith, h, le) in inl (ap (at f b) e)) (cases_lt i j)

blocks-have : (f b : ℕ) (bs : List Block) (k : ℕ) (c : Block) (j n : ℕ) → slice_get bs k ≡ Some c → j ≤ length c.phis + length c.insts → n ≡ b + k → Among (blocks_spots f b bs) (at f n j)
blocks-have f b [] k c j n s le e = cc
blocks-have f b (d ∷ bs) zero c j n s le e =
    let same : d ≡ c = cc in
    let e' : b ≡ n = omega (arith, e) in
    among-left (block_spots f b d) (blocks_spots f (suc b) bs) (at f n j)
    (subst (λ x. Among (block_spots f b d) (at f x j)) e' (subst (λ x. Among (block_spots f b x) (at f b j)) (sym same) (points-have f b 0 (suc (length c.phis + length c.insts)) j (omega arith) (omega (arith, le)))))
blocks-have f b (d ∷ bs) (suc k) c j n s le e = among-right (block_spots f b d) (blocks_spots f (suc b) bs) (at f n j) (blocks-have f (suc b) bs k c j n s le (omega (arith, e)))

functions-have : (n : ℕ) (fs : List Function) (k i : ℕ) (f : Function) (t : Spot) → slice_get fs k ≡ Some f → i ≡ n + k → Among (function_spots i f) t → Among (functions_spots n fs) t
functions-have n [] k i f t s e h = cc
functions-have n (g ∷ fs) zero i f t s e h =
    let same : f ≡ g = cc in
    let e' : i ≡ n = omega (arith, e) in
    among-left (function_spots n g) (functions_spots (suc n) fs) t (subst (λ x. Among (function_spots x g) t) e' (subst (λ x. Among (function_spots i x) t) same h))
functions-have n (g ∷ fs) (suc k) i f t s e h = among-right (function_spots n g) (functions_spots (suc n) fs) t (functions-have (suc n) fs k i f t s (omega (arith, e)) h)

-- ---- each spot with a fault

abbrev Stands : Function → Point → Type 0
Stands f p = (bs : List Block) × (c : Block) × (f.blocks ≡ Some bs) × (slice_get bs p.block.0 ≡ Some c) × (p.index ≤ length c.phis + length c.insts)

no-block : (f : Function) (p : Point) → block_at f p.block ≡ None → step_of_point f p ≡ NoStep
no-block f p e = rw e refl

past-end : (c : Block) (i : ℕ) → length c.phis + length c.insts < i → step_at c i ≡ NoStep
past-end c i h =
    let phis : slice_get c.phis i ≡ None = slice_get_past c.phis i (omega (arith, h)) in
    let insts : slice_get c.insts (i - length c.phis) ≡ None = slice_get_past c.insts (i - length c.phis) (omega (arith, h)) in
    let z : i - (length c.phis + length c.insts) ≡ suc (i - suc (length c.phis + length c.insts)) = omega (arith, h) in
    rw (phis, insts, z) refl

blocks-at : (f : Function) (p : Point) (o : Option (List Block)) → f.blocks ≡ o → (step_of_point f p ≡ NoStep) ⊎ Stands f p
blocks-at f p None e = let n : block_at f p.block ≡ None = rw e refl in inl (no-block f p n)
blocks-at f p (Some bs) e =
    let is : block_at f p.block ≡ slice_get bs p.block.0 = rw e refl in
    ⊎_elim
    (λ q.
    ⊎_elim (λ (lt : length q.0.phis + length q.0.insts < p.index). inl (step-here f p q.0 (is ∙ q.2) ∙ past-end q.0 p.index lt)) (λ (le : p.index ≤ length q.0.phis + length q.0.insts). inr (bs, q.0, e, q.2, le))
    (cases_lt (length q.0.phis + length q.0.insts) p.index))
    (λ q. inl (no-block f p (is ∙ q.1)))
    (slice_get_cases bs p.block.0).1

differ : (b : Bool) → b ≡ true → b ≡ false → ⊥
differ true e h = cc
differ false e h = cc

module _ (m : Module) (limit : ℕ) where
  function-covers : (g : FuncId) (o : Option Function) (test : Function → Bool) → slice_get m.funcs g.0 ≡ o → on_function o test ≡ false → Among (spots m) (spot.Func g)
  function-covers g None test e h = cc
  function-covers g (Some f) test e h = inr (functions-have 0 m.funcs g.0 g.0 f (spot.Func g) e (omega arith) (inl refl))

  stands-covers : (p : Point) (f : Function) → slice_get m.funcs p.func.0 ≡ Some f → Stands f p → Among (spots m) (spot.At p)
  stands-covers p f e s =
      inr (functions-have 0 m.funcs p.func.0 p.func.0 f (spot.At p) e (omega arith)
      (inr (subst (λ o. Among (blocks_spots p.func.0 0 (blocks_or_none o)) (spot.At p)) (sym s.2) (blocks-have p.func.0 0 s.0 p.block.0 s.1 p.index p.block.0 s.3 s.4 (omega arith)))))

  step-covers-at : (p : Point) (o : Option Function) (test : Function → Point → Step → Bool) → ((f : Function) → test f p NoStep ≡ true) → slice_get m.funcs p.func.0 ≡ o → on_function o (λ f. test f p (step_of_point f p)) ≡ false → Among (spots m) (spot.At p)
  step-covers-at p None test n e h = cc
  step-covers-at p (Some f) test n e h =
      ⊎_elim (λ q. absurd (differ (test f p NoStep) (n f) (subst (λ s. test f p s ≡ false) q h))) (λ q. stands-covers p f e q) (blocks-at f p f.blocks refl)

  step-covers : (p : Point) (test : Function → Point → Step → Bool) → ((f : Function) → test f p NoStep ≡ true) → at_step m (spot.At p) test ≡ false → Among (spots m) (spot.At p)
  step-covers p test n h = step-covers-at p (slice_get m.funcs p.func.0) test n refl h

  pub covers : (s : Spot) (c : TypeCode) → keeps_rule m limit s c ≡ false → Among (spots m) s
  unfolding keeps_rule types_agree entries_fit keeps_first cases_differ numbers_below functions_known
  covers spot.Module c h = inl refl
  covers (spot.Func g) code.NoEntry h = function-covers g (slice_get m.funcs g.0) (is_no_second (entry_of m) g.0) refl h
  covers (spot.Func g) code.BadNumberAttr h = function-covers g (slice_get m.funcs g.0) (where_entry (entry_of m) (numbers_are_plain limit) g.0) refl h
  covers (spot.Func g) code.EntrySignature h = function-covers g (slice_get m.funcs g.0) (where_entry (entry_of m) is_entry_type g.0) refl h
  covers (spot.Func g) code.ReservedName h = function-covers g (slice_get m.funcs g.0) body_has_own_name refl h
  covers (spot.Func g) c h = cc
  covers (spot.At p) code.Types h = step-covers p (λ f p step. types_agree m f step) (λ f. refl) h
  covers (spot.At p) code.PhiEntries h = step-covers p (λ f p step. entries_fit f p.block step) (λ f. refl) h
  covers (spot.At p) code.EntryBlock h = step-covers p (λ f p step. keeps_first p.block step) (λ f. refl) h
  covers (spot.At p) code.SwitchCase h = step-covers p (λ f p step. cases_differ step) (λ f. refl) h
  covers (spot.At p) code.IdRange h = step-covers p (λ f p step. numbers_below (required_qubits m limit) (required_results m limit) f step) (λ f. refl) h
  covers (spot.At p) code.UnknownDecl h = step-covers p (λ f p step. functions_known m f step) (λ f. refl) h
  covers (spot.At p) c h = cc

-- ---- their order

abbrev pub Ascends : List Spot → Type 0
Ascends [] = ⊤
Ascends (s ∷ ss) = ((t : Spot) → Among ss t → IsBefore s t) × Ascends ss

append-ascends : (xs ys : List Spot) → Ascends xs → Ascends ys → ((s t : Spot) → Among xs s → Among ys t → IsBefore s t) → Ascends (xs ++ ys)
append-ascends [] ys h i b = i
append-ascends (x ∷ xs) ys h i b = (λ t a. ⊎_elim (λ q. h.0 t q) (λ q. b x t (inl refl) q) (among-either xs ys t a), append-ascends xs ys h.1 i (λ s t a c. b s t (inr a) c))

points-are : (f b i n : ℕ) (t : Spot) → Among (points_from f b i n) t → (j : ℕ) × (t ≡ at f b j) × (i ≤ j)
points-are f b i zero t h = absurd h
points-are f b i (suc n) t (inl e) = (i, e, omega arith)
points-are f b i (suc n) t (inr h) = let q = points-are f b (suc i) n t h in (q.0, q.1, omega (arith, q.2))

blocks-are : (f b : ℕ) (bs : List Block) (t : Spot) → Among (blocks_spots f b bs) t → (c : ℕ) × (j : ℕ) × (t ≡ at f c j) × (b ≤ c)
blocks-are f b [] t h = absurd h
blocks-are f b (d ∷ bs) t h =
    ⊎_elim (λ a. let q = points-are f b 0 (suc (length d.phis + length d.insts)) t a in (b, q.0, q.1, omega arith)) (λ a. let q = blocks-are f (suc b) bs t a in (q.0, q.1, q.2, omega (arith, q.3))) (among-either (block_spots f b d) (blocks_spots f (suc b) bs) t h)

abbrev IsOf : ℕ → Spot → Type 0
IsOf f t = (t ≡ func f) ⊎ ((c : ℕ) × (j : ℕ) × (t ≡ at f c j))

function-is : (f : ℕ) (g : Function) (t : Spot) → Among (function_spots f g) t → IsOf f t
function-is f g t (inl e) = inl e
function-is f g t (inr h) = let q = blocks-are f 0 (blocks_of g) t h in inr (q.0, q.1, q.2)

functions-are : (n : ℕ) (fs : List Function) (t : Spot) → Among (functions_spots n fs) t → (f : ℕ) × (n ≤ f) × IsOf f t
functions-are n [] t h = absurd h
functions-are n (g ∷ fs) t h =
    ⊎_elim (λ a. (n, omega arith, function-is n g t a)) (λ a. let q = functions-are (suc n) fs t a in (q.0, omega (arith, q.1), q.2)) (among-either (function_spots n g) (functions_spots (suc n) fs) t h)

point-before : (f b i j : ℕ) → i < j → IsBefore (at f b i) (at f b j)
point-before f b i j h = inr (refl, inr (refl, inr (refl, h)))

block-before : (f b c i j : ℕ) → b < c → IsBefore (at f b i) (at f c j)
block-before f b c i j h = inr (refl, inr (refl, inl (omega (arith, h))))

function-before : (f g : ℕ) (s t : Spot) → f < g → IsOf f s → IsOf g t → IsBefore s t
function-before f g s t h (inl e) (inl d) = subst (λ x. IsBefore x t) (sym e) (subst (λ x. IsBefore (func f) x) (sym d) (inr (refl, inl h)))
function-before f g s t h (inl e) (inr d) = subst (λ x. IsBefore x t) (sym e) (subst (λ x. IsBefore (func f) x) (sym d.2) (inr (refl, inl h)))
function-before f g s t h (inr e) (inl d) = subst (λ x. IsBefore x t) (sym e.2) (subst (λ x. IsBefore (at f e.0 e.1) x) (sym d) (inr (refl, inl h)))
function-before f g s t h (inr e) (inr d) = subst (λ x. IsBefore x t) (sym e.2) (subst (λ x. IsBefore (at f e.0 e.1) x) (sym d.2) (inr (refl, inl h)))

points-ascend : (f b i n : ℕ) → Ascends (points_from f b i n)
points-ascend f b i zero = tt
points-ascend f b i (suc n) =
    (λ t a. let q = points-are f b (suc i) n t a in subst (λ x. IsBefore (at f b i) x) (sym q.1) (point-before f b i q.0 (omega (arith, q.2))), points-ascend f b (suc i) n)

blocks-ascend : (f b : ℕ) (bs : List Block) → Ascends (blocks_spots f b bs)
blocks-ascend f b [] = tt
blocks-ascend f b (d ∷ bs) =
    append-ascends (block_spots f b d) (blocks_spots f (suc b) bs) (points-ascend f b 0 (suc (length d.phis + length d.insts))) (blocks-ascend f (suc b) bs)
    (λ s t a c.
    let q = points-are f b 0 (suc (length d.phis + length d.insts)) s a in
    let r = blocks-are f (suc b) bs t c in
    subst (λ x. IsBefore x t) (sym q.1) (subst (λ x. IsBefore (at f b q.0) x) (sym r.2) (block-before f b r.0 q.0 r.1 (omega (arith, r.3)))))

function-ascends : (f : ℕ) (g : Function) → Ascends (function_spots f g)
function-ascends f g =
    (λ t a. let q = blocks-are f 0 (blocks_of g) t a in subst (λ x. IsBefore (func f) x) (sym q.2) (inr (refl, inr (refl, inl (omega arith)))), blocks-ascend f 0 (blocks_of g))

functions-ascend : (n : ℕ) (fs : List Function) → Ascends (functions_spots n fs)
functions-ascend n [] = tt
functions-ascend n (g ∷ fs) =
    append-ascends (function_spots n g) (functions_spots (suc n) fs) (function-ascends n g) (functions-ascend (suc n) fs)
    (λ s t a c. let q = functions-are (suc n) fs t c in function-before n q.0 s t (omega (arith, q.1)) (function-is n g s a) q.2)

module-before : (f : ℕ) (t : Spot) → IsOf f t → IsBefore spot.Module t
module-before f t (inl e) = subst (λ x. IsBefore spot.Module x) (sym e) (inl (omega arith))
module-before f t (inr e) = subst (λ x. IsBefore spot.Module x) (sym e.2) (inl (omega arith))

pub spots-ascend : (m : Module) → Ascends (spots m)
spots-ascend m = (λ t a. let q = functions-are 0 m.funcs t a in module-before q.0 t q.2, functions-ascend 0 m.funcs)
