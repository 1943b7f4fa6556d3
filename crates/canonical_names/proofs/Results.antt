-- Results are numbered in text order behind the parameters, up to the last local.
use Rattle.std.specs.Prelude.{◌==◌, nat_lt, if◌then◌else◌, count_by}
use Rattle.std.specs.List.{list_all, flat_map}
use Rattle.std.specs.Option.{option_to_list}
use Rattle.std.proofs.Common.{◌≡◌, ℕ, zero, suc, ◌+◌, ◌<◌, ◌≤◌, true, false, cond, List, [], ◌∷◌, ◌++◌, length, map, refl, ap, ◌∙◌, subst, arith, append-nil, inl, inr}
use Rattle.std.proofs.lemmas.Bool.{and_parts, eqb-true, ltb-true, le-ltb, ne_eqb, cases_order}
use Rattle.std.proofs.lemmas.List.Concat.{flat_map-append}
use Rattle.std.proofs.lemmas.List.Sums.{sum_by-cons}
use Rattle.ir_values.specs.declared.ids.LocalId.{LocalId}
use Rattle.ir_module.specs.Numbered.{defined_once, results_of}
use Rattle.ir_module.specs.Operands.{step_defines}
use Rattle.ir_module.specs.Printable.{ascend_from}
use Rattle.ir_module.specs.Steps.{PhiAt, InstAt, TermAt, steps_of_block}
use Rattle.ir_module.specs.declared.tree.Block.{Block}
use Rattle.ir_module.specs.declared.tree.Function.{Function}
use Rattle.ir_module.specs.declared.tree.Inst.{Inst}
use Rattle.ir_module.specs.declared.tree.Phi.{Phi}

-- the locals are numbered from v up to w
abbrev pub Ascends : ℕ → List LocalId → ℕ → Type 0
Ascends v [] w = v ≡ w
Ascends v (r ∷ rs) w = (r.0 ≡ v) × Ascends (v + 1) rs w

pub ascends : (v : ℕ) (rs : List LocalId) → ascend_from v rs ≡ true → Ascends v rs (v + length rs)
ascends v [] h = omega arith
ascends v (r ∷ rs) h =
    let p = and_parts (r.0 == v) (ascend_from (v + 1) rs) h in
    let e : v + 1 + length rs ≡ v + length (r ∷ rs) = omega arith in
    (eqb-true r.0 v p.0, subst (Ascends (v + 1) rs) e (ascends (v + 1) rs p.1))

-- in two pieces
pub Ascends-parts : (v : ℕ) (rs qs : List LocalId) (w : ℕ) → Ascends v (rs ++ qs) w → (u : ℕ) × Ascends v rs u × Ascends u qs w
Ascends-parts v [] qs w h = (v, refl, h)
Ascends-parts v (r ∷ rs) qs w h = let p = Ascends-parts (v + 1) rs qs w h.1 in (p.0, (h.0, p.1), p.2)

-- what a block defines
abbrev pub phi_results : List Phi → List LocalId
phi_results ps = map (λ p. p.result) ps

abbrev pub inst_results : List Inst → List LocalId
inst_results is = flat_map (λ i. option_to_list i.result) is

abbrev pub block_results : Block → List LocalId
block_results b = phi_results b.phis ++ inst_results b.insts

phis_define : (ps : List Phi) → flat_map step_defines (map PhiAt ps) ≡ phi_results ps
phis_define [] = refl
phis_define (p ∷ ps) = ap (λ l. p.result ∷ l) (phis_define ps)

insts_define : (is : List Inst) → flat_map step_defines (map InstAt is) ≡ inst_results is
insts_define [] = refl
insts_define (i ∷ is) = ap (λ l. option_to_list i.result ++ l) (insts_define is)

block_defines : (b : Block) → flat_map step_defines (steps_of_block b) ≡ block_results b
block_defines b =
    let last = TermAt b.term ∷ [] in
    flat_map-append step_defines (map PhiAt b.phis) (map InstAt b.insts ++ last)
    ∙ (ap (λ l. l ++ flat_map step_defines (map InstAt b.insts ++ last)) (phis_define b.phis)
    ∙ ap (λ l. phi_results b.phis ++ l) (flat_map-append step_defines (map InstAt b.insts) last ∙ (append-nil (flat_map step_defines (map InstAt b.insts)) ∙ insts_define b.insts)))

pub blocks_define : (bs : List Block) → flat_map step_defines (flat_map steps_of_block bs) ≡ flat_map block_results bs
blocks_define [] = refl
blocks_define (b ∷ bs) =
    flat_map-append step_defines (steps_of_block b) (flat_map steps_of_block bs)
    ∙ (ap (λ l. l ++ flat_map step_defines (flat_map steps_of_block bs)) (block_defines b) ∙ ap (λ l. block_results b ++ l) (blocks_define bs))

-- ---- the last result is the last local

rises : (v : ℕ) (rs : List LocalId) (w : ℕ) → Ascends v rs w → v ≤ w
rises v [] w h = omega arith
rises v (r ∷ rs) w h = let l = rises (v + 1) rs w h.1 in omega arith

-- results that are in range end below
ends_below : (n v : ℕ) (rs : List LocalId) (w : ℕ) → v ≤ n → list_all (λ r. nat_lt r.0 n) rs ≡ true → Ascends v rs w → w ≤ n
ends_below n v [] w l h a = omega arith
ends_below n v (r ∷ rs) w l h a =
    let p = and_parts (nat_lt r.0 n) (list_all (λ r. nat_lt r.0 n) rs) h in
    let b = ltb-true r.0 n p.0 in
    let e = a.0 in
    ends_below n (v + 1) rs w (omega arith) p.1 a.1

-- no result is one from the end on
not_counted : (j v : ℕ) (rs : List LocalId) (w : ℕ) → Ascends v rs w → w ≤ j → count_by (λ r. r.0 == j) rs ≡ 0
not_counted j v [] w a l = refl
not_counted j v (r ∷ rs) w a l =
    let u = rises (v + 1) rs w a.1 in
    let e = a.0 in
    let d : (r.0 == j) ≡ false = ne_eqb r.0 j (λ i. absurd (omega arith)) in
    let c = not_counted j (v + 1) rs w a.1 l in
    let own : count_by (λ r. r.0 == j) (r ∷ rs) ≡ 0 + count_by (λ r. r.0 == j) rs = sum_by-cons (λ r. cond (r.0 == j) 1 0) r rs ∙ ap (λ b. cond b 1 0 + count_by (λ r. r.0 == j) rs) d in
    omega arith

once_at : (f : Function) (x more j : ℕ) → defined_once f x more ≡ true → x ≤ j → j < x + more → count_by (λ r. r.0 == j) (results_of f) ≡ (if nat_lt j f.params then 0 else 1)
once_at f x zero j h l g = absurd (omega arith)
once_at f x (suc more) j h l g =
    let p = and_parts (count_by (λ r. r.0 == x) (results_of f) == (if nat_lt x f.params then 0 else 1)) (defined_once f (suc x) more) h in
    elim (cases_order x j) as (λ _. count_by (λ r. r.0 == j) (results_of f) ≡ (if nat_lt j f.params then 0 else 1)) [
      | inl e ↦ subst (λ j. count_by (λ r. r.0 == j) (results_of f) ≡ (if nat_lt j f.params then 0 else 1)) e (eqb-true _ _ p.0)
      | inr o ↦ elim o as (λ _. count_by (λ r. r.0 == j) (results_of f) ≡ (if nat_lt j f.params then 0 else 1)) [
        | inl k ↦ once_at f (suc x) more j p.1 (omega arith) (omega arith)
        | inr k ↦ absurd (omega arith)
      ]
    ]

-- The results of a body are all locals behind the parameters.
pub results_end : (f : Function) → f.params ≤ length f.locals → list_all (λ r. nat_lt r.0 (length f.locals)) (results_of f) ≡ true → ascend_from f.params (results_of f) ≡ true → defined_once f 0 (length f.locals) ≡ true → Ascends f.params (results_of f) (length f.locals)
results_end f l h a d =
    let w = f.params + length (results_of f) in
    let s = ascends f.params (results_of f) a in
    let b = ends_below (length f.locals) f.params (results_of f) w l h s in
    elim (cases_order w (length f.locals)) as (λ _. Ascends f.params (results_of f) (length f.locals)) [
      | inl e ↦ subst (Ascends f.params (results_of f)) e s
      | inr o ↦ elim o as (λ _. Ascends f.params (results_of f) (length f.locals)) [
        | inl k ↦
            let c = not_counted w f.params (results_of f) w s (omega arith) in
            let o = once_at f 0 (length f.locals) w d (omega arith) (omega arith) in
            let z : nat_lt w f.params ≡ false = le-ltb w f.params (omega arith) in
            let one : ◌≡◌ {A = ℕ} (if nat_lt w f.params then 0 else 1) 1 = ap (λ b. cond b 0 1) z in
            absurd (omega arith)
        | inr k ↦ absurd (omega arith)
      ]
    ]
