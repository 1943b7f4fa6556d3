-- Points of a body by numbers: one for each instruction that isn't a phi, and for each terminator.
use Rattle.std.proofs.Common.{◌≡◌, ℕ, zero, suc, ◌+◌, ◌-◌, ◌≤◌, Option, None, Some, List, [], ◌∷◌, ◌++◌, length, map, take, refl, ap, ◌∙◌, subst, arith}
use Rattle.std.proofs.lemmas.Option.{slice_get_past}
use Rattle.std.specs.Prelude.{slice_get}
use Rattle.ir_module.specs.declared.places.Point.{Point}
use Rattle.ir_module.specs.declared.tree.Block.{Block}
use Rattle.ir_module.specs.declared.tree.Inst.{Inst}
use Rattle.ir_module.specs.declared.tree.Term.{Term}
use Rattle.ir_module.specs.Steps.{Step, PhiAt, InstAt, TermAt, NoStep, step_at}
use Rattle.kept_items.specs.declared.target.Target.{Target}
use Rattle.lowered_sizes.specs.Sizes.{bodies, count_instructions, instructions}
use Rattle.path_search.proofs.Frontier.{get_some}
use Rattle.path_search.proofs.Order.{Numbers, equal, less, more, numbers}
use Rattle.residue.specs.declared.parts.Residue.{Residue}
use Rattle.residue.specs.Functions.{Called, declaration, declared_of}
use Rattle.residue.specs.Printed.{print_blocks, printed}
use Rattle.printed_residue.specs.Places.{in_entry}
use Rattle.printed_residue.proofs.Steps.{inst-behind, past}

-- how many instructions stand before block n
abbrev pub offset : List Block → ℕ → ℕ
offset bs n = count_instructions (take n bs)

abbrev pub phis_in : Option Block → ℕ
phis_in None = 0
phis_in (Some b) = length b.phis

-- the number of a point
abbrev pub number_of : List Block → Point → ℕ
number_of bs p = offset bs p.block.0 + (p.index - phis_in (slice_get bs p.block.0))

pub number-is : (bs : List Block) (n : ℕ) (b : Block) (j : ℕ) → slice_get bs n ≡ Some b → number_of bs (in_entry n (length b.phis + j)) ≡ offset bs n + j
number-is bs n b j e =
    ap (λ o. offset bs n + (length b.phis + j - phis_in o)) e
    ∙ (let z : offset bs n + (length b.phis + j - length b.phis) ≡ offset bs n + j = omega arith in z)

none-before : (bs : List Block) → count_instructions (take 0 bs) ≡ 0
none-before [] = refl
none-before (b ∷ bs) = refl

pub offset-first : (bs : List Block) → offset bs 0 ≡ 0
offset-first bs = none-before bs

pub offset-next : (bs : List Block) (n : ℕ) (b : Block) → slice_get bs n ≡ Some b → offset bs (suc n) ≡ offset bs n + suc (length b.insts)
offset-next [] n b e = cc
offset-next (c ∷ bs) zero b e =
    let s : c ≡ b = cc in
    let z = none-before bs in
    ap (λ (c : Block). suc (length c.insts) + count_instructions (take 0 bs)) s ∙ (let y : suc (length b.insts) + count_instructions (take 0 bs) ≡ 0 + suc (length b.insts) = omega (arith, z) in y)
offset-next (c ∷ bs) (suc n) b e =
    let h = offset-next bs n b e in
    let y : suc (length c.insts) + offset bs (suc n) ≡ suc (length c.insts) + offset bs n + suc (length b.insts) = omega (arith, h) in y

pub offset-within : (bs : List Block) (n : ℕ) (b : Block) → slice_get bs n ≡ Some b → offset bs n + suc (length b.insts) ≤ count_instructions bs
offset-within [] n b e = cc
offset-within (c ∷ bs) zero b e = let s : c ≡ b = cc in subst (λ (b : Block). 0 + suc (length b.insts) ≤ suc (length c.insts) + count_instructions bs) s (omega arith)
offset-within (c ∷ bs) (suc n) b e = let h = offset-within bs n b e in omega (arith, h)

-- the module has so many instructions as its entry
no-bodies : (irreversible : List (List ℕ)) (cs : List Called) → bodies (map (declaration irreversible) cs) ≡ []
no-bodies irreversible [] = refl
no-bodies irreversible (c ∷ cs) = no-bodies irreversible cs

none-behind : (bs : List Block) → bs ++ [] ≡ bs
none-behind [] = refl
none-behind (b ∷ bs) = ap (λ l. b ∷ l) (none-behind bs)

pub entry-instructions : (r : Residue) (t : Target) → instructions (printed r t) ≡ count_instructions (print_blocks r t)
entry-instructions r t = ap count_instructions (ap (λ l. print_blocks r t ++ l) (no-bodies r.irreversible (declared_of r)) ∙ none-behind (print_blocks r t))

-- ---- what stands at a point

-- an instruction, or the terminator behind the last
pub data Stands (b : Block) (j : ℕ) : Type 0 where
  is_inst : (x : Inst) → slice_get b.insts j ≡ Some x → step_at b (length b.phis + j) ≡ InstAt x → Stands b j
  is_term : j ≡ length b.insts → step_at b (length b.phis + j) ≡ TermAt b.term → Stands b j

abbrev or-else : {A : Type 0} → Option A → (A → Step) → Step → Step
or-else None f s = s
or-else (Some x) f s = f x

abbrev ending : Term → ℕ → Step
ending t zero = TermAt t
ending t (suc n) = NoStep

term-behind : (b : Block) → step_at b (length b.phis + length b.insts) ≡ TermAt b.term
term-behind b =
    let n : ℕ = length b.phis + length b.insts in
    let e : n - length b.phis ≡ length b.insts = omega arith in
    let z : n - n ≡ 0 = omega arith in
    ap (λ o. or-else o PhiAt (or-else (slice_get b.insts (n - length b.phis)) InstAt (ending b.term (n - n)))) (past b.phis (length b.insts))
    ∙ ap (λ o. or-else o InstAt (ending b.term (n - n))) (slice_get_past b.insts (n - length b.phis) (omega (arith, e)))
    ∙ ap (ending b.term) z

pub stands : (b : Block) (j : ℕ) → j ≤ length b.insts → Stands b j
stands b j le = by (numbers j (length b.insts))
  where
    by : Numbers j (length b.insts) → Stands b j
    by (less h) = let x = get_some b.insts j h in is_inst x.0 x.1 (inst-behind b j x.0 x.1)
    by (equal e) = is_term e (ap (λ k. step_at b (length b.phis + k)) e ∙ term-behind b)
    by (more h) = absurd (omega (arith, h, le))
