-- The entries of phis, and what phis take along an edge.
use Rattle.std.proofs.Common.{◌≡◌, ℕ, zero, suc, ◌+◌, ◌<◌, ◌≤◌, Bool, true, false, not, Option, Some, List, [], ◌∷◌, ◌++◌, length, map, refl, sym, ap, ◌∙◌, subst, arith}
use Rattle.std.proofs.lemmas.Bool.{and_parts}
use Rattle.std.specs.Cmp.{unsigned_Decides}
use Rattle.std.specs.Cmp.Lexicographic.{pointwise_decides}
use Rattle.std.specs.List.{list_all}
use Rattle.std.specs.Prelude.{◌||◌, ◌==◌, ⊤, if◌then◌else◌, filter, slice_get, slice_set}
use Rattle.ir_module.specs.declared.tree.Operand.{Operand}
use Rattle.ir_values.specs.declared.ids.BlockId.{BlockId}
use Rattle.ir_values.specs.declared.int.Width.{Width}
use Rattle.ir_values.specs.declared.int.Width.TheVariants.{W1, W8, W16, W32, W64}
use Rattle.ir_values.specs.declared.value.Value.{Value}
use Rattle.ir_values.specs.declared.value.Value.TheVariants as value
use Rattle.ir_values.specs.Int.{IntValue}
use Rattle.ir_values.specs.Values.{same_int, same_value, same_width}
use Rattle.qir_meaning.specs.Moves.{entry_for, given, phis_take}
use Rattle.qir_meaning.specs.State.{Env, value_at, value_of}
use Rattle.kept_items.specs.declared.val.Dyn.{Dyn}
use Rattle.kept_items.specs.declared.val.Val.{Val}
use Rattle.kept_items.specs.declared.val.Val.TheVariants.{Known, Dynamic}
use Rattle.residue.specs.declared.parts.Jump.{Jump}
use Rattle.residue.specs.declared.parts.Part.{Part}
use Rattle.residue.specs.Instructions.{Words, block_number, operand_of}
use Rattle.residue.specs.Printed.{argument, edges_of, edges_to, entries, print_phis}
use Rattle.residue.specs.Scopes.{jumps}
use Rattle.residue.specs.Valid.{agrees_with, all_agree, same_val, same_vals}
use Rattle.printed_residue.specs.Places.{at_name}
use Rattle.printed_residue.proofs.Facts.{passes-here}
use Rattle.printed_residue.proofs.Looks.{differ, same-itself, same-numbers, set-elsewhere, set-here, set-long}

-- ---- equal arguments are one

pub same-widths : (a b : Width) → same_width a b ≡ true → a ≡ b
same-widths W1 W1 e = refl
same-widths W8 W8 e = refl
same-widths W16 W16 e = refl
same-widths W32 W32 e = refl
same-widths W64 W64 e = refl
same-widths a b e = cc

same-ints : (i j : IntValue) → same_int i j ≡ true → i ≡ j
same-ints i j e =
    let p = and_parts (same_width i.width j.width) (i.bits == j.bits) e in
    let w = same-widths i.width j.width p.0 in
    let b = same-numbers i.bits j.bits p.1 in
    ap (λ w. record { width = w; bits = i.bits }) w ∙ ap (λ b. record { width = j.width; bits = b }) b

same-values : (v u : Value) → same_value v u ≡ true → v ≡ u
same-values (value.Int i) (value.Int j) e = ap value.Int (same-ints i j e)
same-values (value.Double a) (value.Double b) e = ap value.Double ((pointwise_decides unsigned_Decides a b).0 e)
same-values (value.Id i) (value.Id j) e = ap value.Id (same-numbers i j e)
same-values (value.Alloc i) (value.Alloc j) e = ap value.Alloc (same-numbers i j e)
same-values (value.Measured i) (value.Measured j) e = ap value.Measured (same-numbers i j e)
same-values value.One value.One e = refl
same-values value.Zero value.Zero e = refl
same-values (value.Label a) (value.Label b) e = ap (λ n. value.Label (record { 0 = n })) (same-numbers a.0 b.0 e)
same-values value.NoLabel value.NoLabel e = refl
same-values (value.Func f) (value.Func g) e = ap (λ n. value.Func (record { 0 = n })) (same-numbers f.0 g.0 e)
same-values v u e = cc

same-val : (a b : Val) → same_val a b ≡ true → a ≡ b
same-val (Known v) (Known u) e = ap Known (same-values v u e)
same-val (Dynamic d) (Dynamic e) h = ap (λ n. Dynamic (record { 0 = n })) (same-numbers d.0 e.0 h)
same-val (Known v) (Dynamic e) h = cc
same-val (Dynamic d) (Known u) h = cc

pub same-vals : (as_ bs : List Val) → same_vals as_ bs ≡ true → as_ ≡ bs
same-vals [] [] e = refl
same-vals (a ∷ as_) (b ∷ bs) e =
    let p = and_parts (same_val a b) (same_vals as_ bs) e in
    ap (λ z. z ∷ as_) (same-val a b p.0) ∙ ap (λ zs. b ∷ zs) (same-vals as_ bs p.1)
same-vals [] (b ∷ bs) e = cc
same-vals (a ∷ as_) [] e = cc

agreed : (j i : Jump) → agrees_with j i ≡ true → j.to ≡ i.to → j.args ≡ i.args
agreed j i h e = same-vals j.args i.args (by (j.to == i.to) (ap (λ n. j.to == n) (sym e) ∙ same-itself j.to) h)
  where
    by : (b : Bool) → b ≡ true → (not b || same_vals j.args i.args) ≡ true → same_vals j.args i.args ≡ true
    by true e h = h
    by false e h = cc

-- each jump there has these arguments
abbrev pub SameArgs : ℕ → List Val → List Jump → Type 0
SameArgs to args [] = ⊤
SameArgs to args (j ∷ js) = (j.to ≡ to → j.args ≡ args) × SameArgs to args js

pub same-args : (js : List Jump) (q : ℕ) (j : Jump) → all_agree js ≡ true → slice_get js q ≡ Some j → SameArgs j.to j.args js
same-args [] q j h g = tt
same-args (x ∷ js) zero j h g =
    let s : x ≡ j = cc in
    let p = and_parts (list_all (agrees_with x) js) (all_agree js) h in
    subst (λ y. SameArgs y.to y.args (x ∷ js)) s (λ e. refl, each js p.0)
  where
    each : (ys : List Jump) → list_all (agrees_with x) ys ≡ true → SameArgs x.to x.args ys
    each [] h = tt
    each (y ∷ ys) h = let p = and_parts (agrees_with x y) (list_all (agrees_with x) ys) h in (λ e. sym (agreed x y p.0 (sym e)), each ys p.1)
same-args (x ∷ js) (suc q) j h g =
    let p = and_parts (list_all (agrees_with x) js) (all_agree js) h in
    (λ e. agreed x j (passes-here (agrees_with x) js q j p.0 g) e, same-args js q j p.1 g)

-- ---- the entry of an edge

module _ (ws : Words) (i to : ℕ) where
  abbrev among : List (ℕ × Jump) → List (Operand × BlockId)
  among es = entries ws i (filter (λ e. e.1.to == to) es)

  passed-over : (n c : ℕ) → (n == c) ≡ false → (js : List Jump) (rest : List (ℕ × Jump)) → entry_for (among (map (λ j. (n, j)) js ++ rest)) (block_number c) ≡ entry_for (among rest) (block_number c)
  passed-over n c h [] rest = refl
  passed-over n c h (x ∷ js) rest = by (x.to == to) (passed-over n c h js rest)
    where
      by : (b : Bool) → entry_for (among (map (λ j. (n, j)) js ++ rest)) (block_number c) ≡ entry_for (among rest) (block_number c)
          → entry_for (entries ws i (if b then (n, x) ∷ filter (λ e. e.1.to == to) (map (λ j. (n, j)) js ++ rest) else filter (λ e. e.1.to == to) (map (λ j. (n, j)) js ++ rest))) (block_number c) ≡ entry_for (among rest) (block_number c)
      by false ih = ih
      by true ih = ap (λ b. if b then Some (operand_of ws (argument i x)) else entry_for (among (map (λ j. (n, j)) js ++ rest)) (block_number c)) h ∙ ih

  found-here : (n : ℕ) (js : List Jump) (rest : List (ℕ × Jump)) (q : ℕ) (j : Jump) → slice_get js q ≡ Some j → j.to ≡ to → SameArgs to j.args js → entry_for (among (map (λ j. (n, j)) js ++ rest)) (block_number n) ≡ Some (operand_of ws (argument i j))
  found-here n [] rest q j g e s = cc
  found-here n (x ∷ js) rest q j g e s = by (x.to == to) refl q g (λ q' g'. found-here n js rest q' j g' e s.1)
    where
      clash : true ≡ false → ⊥
      clash e = cc

      by : (b : Bool) → (x.to == to) ≡ b → (q : ℕ) → slice_get (x ∷ js) q ≡ Some j → ((q' : ℕ) → slice_get js q' ≡ Some j → entry_for (among (map (λ j. (n, j)) js ++ rest)) (block_number n) ≡ Some (operand_of ws (argument i j)))
          → entry_for (entries ws i (if b then (n, x) ∷ filter (λ e. e.1.to == to) (map (λ j. (n, j)) js ++ rest) else filter (λ e. e.1.to == to) (map (λ j. (n, j)) js ++ rest))) (block_number n) ≡ Some (operand_of ws (argument i j))
      by true t q g ih =
          ap (λ b. if b then Some (operand_of ws (argument i x)) else entry_for (among (map (λ j. (n, j)) js ++ rest)) (block_number n)) (same-itself n)
          ∙ ap (λ as_. Some (operand_of ws (argument i (record { to = x.to; args = as_ })))) (s.0 (same-numbers x.to to t))
      by false t zero g ih = let z : x ≡ j = cc in absurd (clash (sym (ap (λ y. y.to == to) z ∙ ap (λ m. m == to) e ∙ same-itself to) ∙ t))
      by false t (suc q) g ih = ih q g

  part-entry : (n : ℕ) (parts : List Part) (c : ℕ) (p : Part) (q : ℕ) (j : Jump) → slice_get parts c ≡ Some p → slice_get (jumps p.tail) q ≡ Some j → j.to ≡ to → SameArgs to j.args (jumps p.tail)
      → entry_for (among (edges_of n parts)) (block_number (n + c)) ≡ Some (operand_of ws (argument i j))
  part-entry n [] c p q j h g e s = cc
  part-entry n (x ∷ parts) zero p q j h g e s =
      let z : p ≡ x = cc in
      ap (λ m. entry_for (among (map (λ j. (n, j)) (jumps x.tail) ++ edges_of (suc n) parts)) (block_number m)) (let y : n + 0 ≡ n = omega arith in y)
      ∙ found-here n (jumps x.tail) (edges_of (suc n) parts) q j (subst (λ y. slice_get (jumps y.tail) q ≡ Some j) z g) e (subst (λ y. SameArgs to j.args (jumps y.tail)) z s)
  part-entry n (x ∷ parts) (suc c) p q j h g e s =
      passed-over n (n + suc c) (differ n (n + suc c) (λ z. absurd (omega (arith, z)))) (jumps x.tail) (edges_of (suc n) parts)
      ∙ ap (λ m. entry_for (among (edges_of (suc n) parts)) (block_number m)) (let y : n + suc c ≡ suc n + c = omega arith in y)
      ∙ part-entry (suc n) parts c p q j h g e s

-- on the edge from part c a phi takes what the jump gives
pub edge-entry : (ws : Words) (i : ℕ) (parts : List Part) (c : ℕ) (p : Part) (q : ℕ) (j : Jump) → slice_get parts c ≡ Some p → slice_get (jumps p.tail) q ≡ Some j → all_agree (jumps p.tail) ≡ true
    → entry_for (entries ws i (edges_to j.to parts)) (block_number c) ≡ Some (operand_of ws (argument i j))
edge-entry ws i parts c p q j h g a = ap (λ m. entry_for (entries ws i (edges_to j.to parts)) (block_number m)) (let z : c ≡ 0 + c = omega arith in z) ∙ part-entry ws i j.to 0 parts c p q j h g refl (same-args (jumps p.tail) q j a g)

-- ---- what the phis of a block take

module _ (ws : Words) (edges : List (ℕ × Jump)) (c : BlockId) (j : Jump) (env : Env) (entry : (i : ℕ) → entry_for (entries ws i edges) c ≡ Some (operand_of ws (argument i j))) where
  pub record Took (n i : ℕ) (params : List (Dyn × Width)) (env0 : Env) : Type 0 where
    pub env' : Env
    pub takes : phis_take (print_phis ws edges n i params) c env env0 ≡ Some env'
    pub has : (k : ℕ) → k < length params → at_name env' (n + k) ≡ value_of env (operand_of ws (argument (i + k) j))
    pub others : (y : ℕ) → y < n → at_name env' y ≡ at_name env0 y
    pub long : length env' ≡ length env0

  pub phis-run : (params : List (Dyn × Width)) (n i : ℕ) (env0 : Env) → n + length params ≤ length env0 → Took n i params env0
  phis-run [] n i env0 le = record { env' = env0; takes = refl; has = λ k lt. absurd (omega arith); others = λ y lt. refl; long = refl }
  phis-run (x ∷ params) n i env0 le =
      let o : Option Value = value_of env (operand_of ws (argument i j)) in
      let env1 : Env = slice_set env0 n o in
      let s = set-long env0 n o in
      let ih = phis-run params (suc n) (suc i) env1 (omega (arith, le, s)) in record {
        env' = ih.env';
        takes = ap (λ k. given k (λ w. phis_take (print_phis ws edges (suc n) (suc i) params) c env (slice_set env0 n (value_of env w)))) (entry i) ∙ ih.takes;
        has = λ k lt. by ih.env' ih.has (ih.others n (omega arith) ∙ ap value_at (set-here env0 n o (omega (arith, le)))) k lt;
        others = λ y lt. ih.others y (omega (arith, lt)) ∙ ap value_at (set-elsewhere env0 n y o (λ k. absurd (omega (arith, lt, k))));
        long = ih.long ∙ s;
      }
    where
      by : (e : Env) → ((k : ℕ) → k < length params → at_name e (suc n + k) ≡ value_of env (operand_of ws (argument (suc i + k) j))) → at_name e n ≡ value_of env (operand_of ws (argument i j)) → (k : ℕ) → k < length (x ∷ params) → at_name e (n + k) ≡ value_of env (operand_of ws (argument (i + k) j))
      by e h z zero lt = ap (at_name e) (let q : n + 0 ≡ n = omega arith in q) ∙ z ∙ ap (λ m. value_of env (operand_of ws (argument m j))) (let q : i ≡ i + 0 = omega arith in q)
      by e h z (suc k) lt = ap (at_name e) (let q : n + suc k ≡ suc n + k = omega arith in q) ∙ h k (omega arith) ∙ ap (λ m. value_of env (operand_of ws (argument m j))) (let q : suc i + k ≡ i + suc k = omega arith in q)

pub phis-length : (ws : Words) (edges : List (ℕ × Jump)) (n i : ℕ) (params : List (Dyn × Width)) → length (print_phis ws edges n i params) ≡ length params
phis-length ws edges n i [] = refl
phis-length ws edges n i (x ∷ params) = ap suc (phis-length ws edges (suc n) (suc i) params)
