-- The entries of phis, edge by edge.
use Rattle.std.proofs.Common.{◌≡◌, ℕ, zero, suc, ◌+◌, ◌<◌, ◌≤◌, Bool, true, Some, List, [], ◌∷◌, ◌++◌, length, map, take, drop, refl, sym, ap, ◌∙◌, subst, arith, append-nil, append_assoc}
use Rattle.std.proofs.lemmas.List.{map-append}
use Rattle.std.proofs.lemmas.Bool.{and_parts}
use Rattle.std.proofs.lemmas.List.Elements.{filter-append}
use Rattle.std.proofs.lemmas.List.Folds.{list_all-append}
use Rattle.std.specs.List.{list_all}
use Rattle.std.specs.Prelude.{◌==◌, if◌then◌else◌, flat_map, slice_get, slice_set}
use Rattle.ir_module.specs.declared.tree.Operand.{Operand}
use Rattle.ir_values.specs.declared.ids.BlockId.{BlockId}
use Rattle.ir_values.specs.declared.int.Width.{Width}
use Rattle.ir_values.specs.Int.{IntValue}
use Rattle.kept_items.specs.declared.val.Dyn.{Dyn}
use Rattle.kept_items.specs.declared.val.Val.{Val}
use Rattle.residue.specs.declared.parts.Jump.{Jump}
use Rattle.residue.specs.declared.parts.Part.{Part}
use Rattle.residue.specs.Instructions.{Words, block_number, operand_of}
use Rattle.residue.specs.Printed.{argument, edges_of, entries, print_phis}
use Rattle.residue.specs.Scopes.{jumps}
use Rattle.printed_residue.proofs.Looks.{differ, same-itself, set-long}
use Rattle.residue_module.specs.code.Edges.{Enters, EntersTo, Entries, Row, argument_at, entered, leading_to, phis_from, row_from, rows_from}

-- ---- one entry more for each parameter, where the loop has come to a parameter

get-within : {A : Type 0} (xs : List A) (k : ℕ) → k < length xs → (x : A) × (slice_get xs k ≡ Some x)
get-within [] k lt = absurd (omega (arith, lt))
get-within (x ∷ xs) zero lt = (x, refl)
get-within (x ∷ xs) (suc k) lt = get-within xs k (omega (arith, lt))

module _ (ws : Words) (from : BlockId) (args : List Val) where
  abbrev entry_at : ℕ → Operand × BlockId
  entry_at i = (operand_of ws (argument_at args i), from)

  set-enters : (row : Row) (k i : ℕ) (es : Entries) → slice_get row k ≡ Some es
      → take (suc k) (slice_set row k (es ++ entry_at i ∷ [])) ++ entered ws from args (suc i) (drop (suc k) (slice_set row k (es ++ entry_at i ∷ []))) ≡ take k row ++ entered ws from args i (drop k row)
  set-enters [] k i es e = cc
  set-enters (r ∷ row) zero i es e = let s : r ≡ es = cc in ap (λ z. (z ++ entry_at i ∷ []) ∷ entered ws from args (suc i) row) (sym s)
  set-enters (r ∷ row) (suc k) i es e = ap (λ l. r ∷ l) (set-enters row k i es e)

  -- an entry was added for parameter k
  pub enters-one : (whole row next : Row) (k m : ℕ) (o : Operand) → o ≡ operand_of ws (argument_at args k) → k < length row
      → ((es : Entries) → slice_get row k ≡ Some es → next ≡ slice_set row k (es ++ (o, from) ∷ [])) → m ≡ k + 1
      → take k row ++ entered ws from args k (drop k row) ≡ whole → take m next ++ entered ws from args m (drop m next) ≡ whole
  enters-one whole row next k m o e lt f n h =
      let g = get-within row k lt in
      let is : next ≡ slice_set row k (g.0 ++ entry_at k ∷ []) = f g.0 g.1 ∙ ap (λ o. slice_set row k (g.0 ++ (o, from) ∷ [])) e in
      let s : m ≡ suc k = omega (arith, n) in
      ap (λ m. take m next ++ entered ws from args m (drop m next)) s
      ∙ ap (λ l. take (suc k) l ++ entered ws from args (suc k) (drop (suc k) l)) is
      ∙ set-enters row k k g.0 g.1 ∙ h

  pub enters-long : (row next : Row) (k : ℕ) (o : Operand) → k < length row → ((es : Entries) → slice_get row k ≡ Some es → next ≡ slice_set row k (es ++ (o, from) ∷ [])) → length next ≡ length row
  enters-long row next k o lt f = let g = get-within row k lt in ap length (f g.0 g.1) ∙ set-long row k (g.0 ++ (o, from) ∷ [])

  all-taken : {A : Type 0} (xs : List A) (k : ℕ) → length xs ≤ k → take k xs ≡ xs
  all-taken [] zero le = refl
  all-taken [] (suc k) le = refl
  all-taken (x ∷ xs) zero le = absurd (omega (arith, le))
  all-taken (x ∷ xs) (suc k) le = ap (λ l. x ∷ l) (all-taken xs k (omega (arith, le)))

  none-left : {A : Type 0} (xs : List A) (k : ℕ) → length xs ≤ k → drop k xs ≡ []
  none-left [] zero le = refl
  none-left [] (suc k) le = refl
  none-left (x ∷ xs) zero le = absurd (omega (arith, le))
  none-left (x ∷ xs) (suc k) le = none-left xs k (omega (arith, le))

  -- the loop has come to the end
  pub enters-all : (whole row : Row) (k : ℕ) → length row ≤ k → take k row ++ entered ws from args k (drop k row) ≡ whole → row ≡ whole
  enters-all whole row k le h = sym (append-nil row) ∙ ap (λ l. l ++ []) (sym (all-taken row k le)) ∙ ap (λ l. take k row ++ entered ws from args k l) (sym (none-left row k le)) ∙ h

-- ---- no edges

row-of-none : (ws : Words) (i : ℕ) (params : List (Dyn × Width)) → map (λ x. []) params ≡ row_from ws [] i params
row-of-none ws i [] = refl
row-of-none ws i (x ∷ params) = ap (λ r. [] ∷ r) (row-of-none ws (suc i) params)

pub rows-of-none : (ws : Words) (n : ℕ) (parts : List Part) → map (λ p. map (λ x. []) p.params) parts ≡ rows_from ws [] n parts
rows-of-none ws n [] = refl
rows-of-none ws n (p ∷ parts) = ap (λ r. r ∷ map (λ p. map (λ x. []) p.params) parts) (row-of-none ws 0 p.params) ∙ ap (λ l. row_from ws [] 0 p.params ∷ l) (rows-of-none ws (suc n) parts)

-- ---- one edge more

module _ (ws : Words) (from : ℕ) (j : Jump) where
  abbrev edge : ℕ × Jump
  edge = (from, j)

  row-more : (edges : List (ℕ × Jump)) (i : ℕ) (params : List (Dyn × Width)) → entered ws (block_number from) j.args i (row_from ws edges i params) ≡ row_from ws (edges ++ edge ∷ []) i params
  row-more edges i [] = refl
  row-more edges i (x ∷ params) =
      ap (λ es. es ∷ entered ws (block_number from) j.args (suc i) (row_from ws edges (suc i) params)) (sym (map-append (λ e. (operand_of ws (argument i e.1), block_number e.0)) edges (edge ∷ [])))
      ∙ ap (λ r. entries ws i (edges ++ edge ∷ []) ∷ r) (row-more edges (suc i) params)

  -- it leads to part n
  row-hit : (edges : List (ℕ × Jump)) (n : ℕ) (params : List (Dyn × Width)) → j.to ≡ n → entered ws (block_number from) j.args 0 (row_from ws (leading_to n edges) 0 params) ≡ row_from ws (leading_to n (edges ++ edge ∷ [])) 0 params
  row-hit edges n params e =
      row-more (leading_to n edges) 0 params
      ∙ ap (λ es. row_from ws es 0 params) (ap (λ b. leading_to n edges ++ (if b then edge ∷ [] else [])) (sym (ap (λ k. j.to == k) (sym e) ∙ same-itself j.to)) ∙ sym (filter-append (λ e. e.1.to == n) edges (edge ∷ [])))

  -- it leads to another
  row-missed : (edges : List (ℕ × Jump)) (n : ℕ) (params : List (Dyn × Width)) → (j.to ≡ n → ⊥) → row_from ws (leading_to n edges) 0 params ≡ row_from ws (leading_to n (edges ++ edge ∷ [])) 0 params
  row-missed edges n params h = ap (λ es. row_from ws es 0 params) (sym (append-nil (leading_to n edges)) ∙ ap (λ b. leading_to n edges ++ (if b then edge ∷ [] else [])) (sym (differ j.to n h)) ∙ sym (filter-append (λ e. e.1.to == n) edges (edge ∷ [])))

  rows-missed : (edges : List (ℕ × Jump)) (n : ℕ) (parts : List Part) → ((k : ℕ) → k < length parts → j.to ≡ n + k → ⊥) → rows_from ws edges n parts ≡ rows_from ws (edges ++ edge ∷ []) n parts
  rows-missed edges n [] h = refl
  rows-missed edges n (p ∷ parts) h =
      ap (λ r. r ∷ rows_from ws edges (suc n) parts) (row-missed edges n p.params (λ e. h 0 (omega arith) (omega (arith, e))))
      ∙ ap (λ l. row_from ws (leading_to n (edges ++ edge ∷ [])) 0 p.params ∷ l) (rows-missed edges (suc n) parts (λ k lt e. h (suc k) (omega (arith, lt)) (omega (arith, e))))

  rows-hit : (edges : List (ℕ × Jump)) (n k : ℕ) (parts : List Part) (row : Row) → j.to ≡ n + k → slice_get (rows_from ws edges n parts) k ≡ Some row
      → slice_set (rows_from ws edges n parts) k (entered ws (block_number from) j.args 0 row) ≡ rows_from ws (edges ++ edge ∷ []) n parts
  rows-hit edges n k [] row e s = cc
  rows-hit edges n zero (p ∷ parts) row e s =
      let is : row_from ws (leading_to n edges) 0 p.params ≡ row = cc in
      ap (λ r. entered ws (block_number from) j.args 0 r ∷ rows_from ws edges (suc n) parts) (sym is)
      ∙ ap (λ r. r ∷ rows_from ws edges (suc n) parts) (row-hit edges n p.params (omega (arith, e)))
      ∙ ap (λ l. row_from ws (leading_to n (edges ++ edge ∷ [])) 0 p.params ∷ l) (rows-missed edges (suc n) parts (λ k lt f. absurd (omega (arith, e, f))))
  rows-hit edges n (suc k) (p ∷ parts) row e s =
      ap (λ r. r ∷ slice_set (rows_from ws edges (suc n) parts) k (entered ws (block_number from) j.args 0 row)) (row-missed edges n p.params (λ f. absurd (omega (arith, e, f))))
      ∙ ap (λ l. row_from ws (leading_to n (edges ++ edge ∷ [])) 0 p.params ∷ l) (rows-hit edges (suc n) k parts row (omega (arith, e)) s)

  rows-long : (edges : List (ℕ × Jump)) (n : ℕ) (parts : List Part) → length (rows_from ws edges n parts) ≡ length parts
  rows-long edges n [] = refl
  rows-long edges n (p ∷ parts) = ap suc (rows-long edges (suc n) parts)

  -- the part that it leads to has its entries
  pub jump-entered : (old new : List Row) (to : ℕ) → to ≡ j.to → ((row : Row) → slice_get old to ≡ Some row → new ≡ slice_set old to (entered ws (block_number from) j.args 0 row)) → to < length old → Enters ws (edge ∷ []) old new
  jump-entered old new to t f lt edges parts e =
      let g = get-within old to lt in
      let s : slice_get (rows_from ws edges 0 parts) to ≡ Some g.0 = ap (λ l. slice_get l to) (sym e) ∙ g.1 in
      f g.0 g.1 ∙ ap (λ l. slice_set l to (entered ws (block_number from) j.args 0 g.0)) e ∙ rows-hit edges 0 to parts g.0 (omega (arith, t)) s

  -- there is no such part
  pub jump-missed : (old : List Row) (to : ℕ) → to ≡ j.to → length old ≤ to → Enters ws (edge ∷ []) old old
  jump-missed old to t le edges parts e =
      let long = ap length e ∙ rows-long edges 0 parts in
      e ∙ rows-missed edges 0 parts (λ k lt f. absurd (omega (arith, t, le, long, lt, f)))

-- ---- edges one after the other

module _ (ws : Words) where
  pub enters-none : (t : List Row) → Enters ws [] t t
  enters-none t edges parts e = e ∙ ap (λ es. rows_from ws es 0 parts) (sym (append-nil edges))

  pub enters-two : (a b : List (ℕ × Jump)) (t u v : List Row) → Enters ws a t u → Enters ws b u v → Enters ws (a ++ b) t v
  enters-two a b t u v f g edges parts e = g (edges ++ a) parts (f edges parts e) ∙ ap (λ es. rows_from ws es 0 parts) (append_assoc edges a b)

  pub enters-on : (whole more left : List (ℕ × Jump)) (old now next : List Row) → Enters ws more now next → EntersTo ws whole (more ++ left) old now → EntersTo ws whole left old next
  enters-on whole more left old now next a g new f = g new (enters-two more left now next new a f)

  pub enters-done : (whole : List (ℕ × Jump)) (old now : List Row) → EntersTo ws whole [] old now → Enters ws whole old now
  enters-done whole old now g = g now (enters-none now)

  -- the entries are those of the printed phis
  pub phis-are : (edges : List (ℕ × Jump)) (n i : ℕ) (params : List (Dyn × Width)) → phis_from n (row_from ws edges i params) ≡ print_phis ws edges n i params
  phis-are edges n i [] = refl
  phis-are edges n i (x ∷ params) = ap (λ l. (record { result = record { 0 = n }; entries = entries ws i edges }) ∷ l) (phis-are edges (suc n) (suc i) params)

  pub row-long : (edges : List (ℕ × Jump)) (i : ℕ) (params : List (Dyn × Width)) → length (row_from ws edges i params) ≡ length params
  row-long edges i [] = refl
  row-long edges i (x ∷ params) = ap suc (row-long edges (suc i) params)

-- ---- parts and cases one after the other

module _ {A : Type 0} (test : Val → Bool) (args : A → List Val) (x : A) (xs : List A) (h : list_all test (flat_map args (x ∷ xs)) ≡ true) where
  pub first-args : list_all test (args x) ≡ true
  first-args = (and_parts (list_all test (args x)) (list_all test (flat_map args xs)) (sym (list_all-append test (args x) (flat_map args xs)) ∙ h)).0

  pub rest-args : list_all test (flat_map args xs) ≡ true
  rest-args = (and_parts (list_all test (args x)) (list_all test (flat_map args xs)) (sym (list_all-append test (args x) (flat_map args xs)) ∙ h)).1

module _ (ws : Words) (whole : List (ℕ × Jump)) (old now next : List Row) where
  abbrev jumps_of : ℕ → List (IntValue × Jump) → List (ℕ × Jump)
  jumps_of n cases = map (λ j. (n, j)) (map (λ c. c.1) cases)

  pub case-enters : (n : ℕ) (all rest : List (IntValue × Jump)) (c : IntValue × Jump) → all ≡ c ∷ rest → Enters ws ((n, c.1) ∷ []) now next → EntersTo ws whole (jumps_of n all) old now → EntersTo ws whole (jumps_of n rest) old next
  case-enters n all rest c e a g = enters-on ws whole ((n, c.1) ∷ []) (jumps_of n rest) old now next a (subst (λ cs. EntersTo ws whole (jumps_of n cs) old now) e g)

  pub part-enters : (n m : ℕ) (all rest : List Part) (p : Part) → all ≡ p ∷ rest → m ≡ n + 1 → Enters ws (map (λ j. (n, j)) (jumps p.tail)) now next → EntersTo ws whole (edges_of n all) old now → EntersTo ws whole (edges_of m rest) old next
  part-enters n m all rest p e k a g =
      let s : suc n ≡ m = omega (arith, k) in
      subst (λ m. EntersTo ws whole (edges_of m rest) old next) s
      (enters-on ws whole (map (λ j. (n, j)) (jumps p.tail)) (edges_of (suc n) rest) old now next a (subst (λ ps. EntersTo ws whole (edges_of n ps) old now) e g))

module _ (ws : Words) (whole : List (ℕ × Jump)) where
  pub cases-done : (n : ℕ) (cases : List (IntValue × Jump)) (old now : List Row) → length cases ≡ 0 → EntersTo ws whole (map (λ j. (n, j)) (map (λ c. c.1) cases)) old now → Enters ws whole old now
  cases-done n [] old now e g = g now (enters-none ws now)
  cases-done n (c ∷ cases) old now e g = absurd (omega (arith, e))

  -- the rows of all parts, which had no entry before
  pub parts-done : (n : ℕ) (left parts : List Part) (now : List Row) → length left ≡ 0 → EntersTo ws whole (edges_of n left) (map (λ p. map (λ x. []) p.params) parts) now → now ≡ rows_from ws whole 0 parts
  parts-done n [] parts now e g = g now (enters-none ws now) [] parts (rows-of-none ws 0 parts)
  parts-done n (p ∷ left) parts now e g = absurd (omega (arith, e))

  pub none-entered : (rows none : List Row) → rows ≡ none → EntersTo ws whole whole none rows
  none-entered rows none e = subst (λ r. EntersTo ws whole whole r rows) e (λ new a. a)

module _ (test : Val → Bool) (all rest : List (IntValue × Jump)) (c : IntValue × Jump) (e : all ≡ c ∷ rest) (h : list_all test (flat_map (λ j. j.args) (map (λ c. c.1) all)) ≡ true) where
  split : list_all test (flat_map (λ j. j.args) (map (λ c. c.1) (c ∷ rest))) ≡ true
  split = subst (λ cs. list_all test (flat_map (λ j. j.args) (map (λ c. c.1) cs)) ≡ true) e h

  pub cases-first : list_all test c.1.args ≡ true
  cases-first = first-args test (λ (j : Jump). j.args) c.1 (map (λ c. c.1) rest) split

  pub cases-rest : list_all test (flat_map (λ j. j.args) (map (λ c. c.1) rest)) ≡ true
  cases-rest = rest-args test (λ (j : Jump). j.args) c.1 (map (λ c. c.1) rest) split
