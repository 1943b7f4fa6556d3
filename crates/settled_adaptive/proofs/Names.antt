-- Frames in which every name that is live is Dynamic.
use Rattle.std.proofs.Common.{◌≡◌, ℕ, zero, suc, ◌+◌, ◌<◌, ◌≤◌, Bool, true, false, None, Some, [], ◌∷◌, refl, sym, ap, ◌∙◌, arith}
use Rattle.std.specs.Prelude.{◌||◌, ◌==◌, Option, if◌then◌else◌, nat_lt}
use Rattle.ir_values.specs.declared.ids.LocalId.{LocalId}
use Rattle.ir_values.specs.declared.value.Value.{Value}
use Rattle.kept_items.specs.declared.val.Dyn.{Dyn}
use Rattle.kept_items.specs.declared.val.Val.{Val}
use Rattle.kept_items.specs.declared.val.Val.TheVariants.{Dynamic}
use Rattle.residue.specs.Instructions.{local}
use Rattle.path_search.proofs.Order.{Numbers, equal, less, more, numbers}
use Rattle.printed_residue.proofs.Looks.{differ, same-itself}
use Rattle.static_steps.specs.Values.{Names, is_dynamic, keep, look, numbered, put, shape, with_number, without_number}

-- k names from number n on, each Dynamic
abbrev pub all_names : ℕ → ℕ → Names (Option Value)
all_names n zero = []
all_names n (suc k) = (local n, None) ∷ all_names (suc n) k

-- those of them that pass a test
abbrev pub kept_names : (LocalId → Bool) → ℕ → ℕ → Names (Option Value)
kept_names f n k = keep f (all_names n k)

abbrev if_kept : Bool → ℕ → Names (Option Value) → Names (Option Value)
if_kept b n rest = if b then (local n, None) ∷ rest else rest

pub kept-same : (f g : LocalId → Bool) (n k : ℕ) → ((y : ℕ) → n ≤ y → f (local y) ≡ g (local y)) → kept_names f n k ≡ kept_names g n k
kept-same f g n zero h = refl
kept-same f g n (suc k) h =
    ap (λ b. if_kept b n (kept_names f (suc n) k)) (h n (omega arith))
    ∙ ap (λ rest. if_kept (g (local n)) n rest) (kept-same f g (suc n) k (λ y le. h y (omega (arith, le))))

-- a name before all others is put first
put-first : (f : LocalId → Bool) (x n k : ℕ) → x < n → put (local x) None (kept_names f n k) ≡ (local x, None) ∷ kept_names f n k
put-first f x n zero lt = refl
put-first f x n (suc k) lt = by (f (local n)) (put-first f x (suc n) k (omega (arith, lt)))
  where
    below : (a b : ℕ) → a < b → nat_lt a b ≡ true
    below a b h = grind arith

    by : (b : Bool) → put (local x) None (kept_names f (suc n) k) ≡ (local x, None) ∷ kept_names f (suc n) k → put (local x) None (if_kept b n (kept_names f (suc n) k)) ≡ (local x, None) ∷ if_kept b n (kept_names f (suc n) k)
    by true ih =
        ap (λ b. if b then (local x, None) ∷ kept_names f (suc n) k else (if nat_lt x n then (local x, None) ∷ (local n, None) ∷ kept_names f (suc n) k else (local n, None) ∷ put (local x) None (kept_names f (suc n) k))) (differ n x (λ e. absurd (omega (arith, e, lt))))
        ∙ ap (λ b. if b then (local x, None) ∷ (local n, None) ∷ kept_names f (suc n) k else (local n, None) ∷ put (local x) None (kept_names f (suc n) k)) (below x n lt)
    by false ih = ih

-- a name that is put is kept too
pub put-kept : (f : LocalId → Bool) (x n k : ℕ) → n ≤ x → x < n + k → put (local x) None (kept_names f n k) ≡ kept_names (λ y. f y || (y.0 == x)) n k
put-kept f x n zero le lt = absurd (omega (arith, le, lt))
put-kept f x n (suc k) le lt = by (numbers n x) (λ l. put-kept f x (suc n) k l (omega (arith, lt)))
  where
    g : LocalId → Bool
    g y = f y || (y.0 == x)

    or-false : (b : Bool) → (b || false) ≡ b
    or-false true = refl
    or-false false = refl

    or-true : (b : Bool) → (b || true) ≡ true
    or-true true = refl
    or-true false = refl

    not-below : (a b : ℕ) → b ≤ a → nat_lt a b ≡ false
    not-below a b h = grind arith

    behind : (b : Bool) → n < x → put (local x) None (kept_names f (suc n) k) ≡ kept_names (λ y. f y || (y.0 == x)) (suc n) k → put (local x) None (if_kept b n (kept_names f (suc n) k)) ≡ if_kept b n (kept_names (λ y. f y || (y.0 == x)) (suc n) k)
    behind true l ih =
        ap (λ b. if b then (local x, None) ∷ kept_names f (suc n) k else (if nat_lt x n then (local x, None) ∷ (local n, None) ∷ kept_names f (suc n) k else (local n, None) ∷ put (local x) None (kept_names f (suc n) k))) (differ n x (λ e. absurd (omega (arith, e, l))))
        ∙ ap (λ b. if b then (local x, None) ∷ (local n, None) ∷ kept_names f (suc n) k else (local n, None) ∷ put (local x) None (kept_names f (suc n) k)) (not-below x n (omega (arith, l)))
        ∙ ap (λ rest. (local n, None) ∷ rest) ih
    behind false l ih = ih

    first : (b : Bool) → n ≡ x → put (local x) None (if_kept b n (kept_names f (suc n) k)) ≡ (local n, None) ∷ kept_names f (suc n) k
    first true e = ap (λ b. if b then (local x, None) ∷ kept_names f (suc n) k else (if nat_lt x n then (local x, None) ∷ (local n, None) ∷ kept_names f (suc n) k else (local n, None) ∷ put (local x) None (kept_names f (suc n) k))) (ap (λ m. n == m) (sym e) ∙ same-itself n) ∙ ap (λ m. (local m, None) ∷ kept_names f (suc n) k) (sym e)
    first false e = put-first f x (suc n) k (omega (arith, e)) ∙ ap (λ m. (local m, None) ∷ kept_names f (suc n) k) (sym e)

    by : Numbers n x → (suc n ≤ x → put (local x) None (kept_names f (suc n) k) ≡ kept_names (λ y. f y || (y.0 == x)) (suc n) k) → put (local x) None (if_kept (f (local n)) n (kept_names f (suc n) k)) ≡ if_kept (f (local n) || (n == x)) n (kept_names (λ y. f y || (y.0 == x)) (suc n) k)
    by (less l) ih =
        behind (f (local n)) l (ih (omega (arith, l)))
        ∙ ap (λ b. if_kept b n (kept_names (λ y. f y || (y.0 == x)) (suc n) k)) (sym (ap (λ b. f (local n) || b) (differ n x (λ e. absurd (omega (arith, e, l)))) ∙ or-false (f (local n))))
    by (equal e) ih =
        first (f (local n)) e
        ∙ ap (λ rest. (local n, None) ∷ rest) (kept-same f (λ y. f y || (y.0 == x)) (suc n) k (λ y l. sym (ap (λ b. f (local y) || b) (differ y x (λ z. absurd (omega (arith, z, l, e)))) ∙ or-false (f (local y)))))
        ∙ ap (λ b. if_kept b n (kept_names (λ y. f y || (y.0 == x)) (suc n) k)) (sym (ap (λ m. f (local n) || (n == m)) (sym e) ∙ ap (λ b. f (local n) || b) (same-itself n) ∙ or-true (f (local n))))
    by (more l) ih = absurd (omega (arith, l, le))

-- a stronger test keeps what it keeps of all
pub keep-kept : (f g : LocalId → Bool) (n k : ℕ) → ((y : ℕ) → g (local y) ≡ true → f (local y) ≡ true) → keep g (kept_names f n k) ≡ kept_names g n k
keep-kept f g n zero h = refl
keep-kept f g n (suc k) h = by (f (local n)) refl (g (local n)) refl (keep-kept f g (suc n) k h)
  where
    clash : true ≡ false → ⊥
    clash e = cc

    by : (b : Bool) → f (local n) ≡ b → (c : Bool) → g (local n) ≡ c → keep g (kept_names f (suc n) k) ≡ kept_names g (suc n) k → keep g (if_kept b n (kept_names f (suc n) k)) ≡ if_kept c n (kept_names g (suc n) k)
    by true e c d ih = ap (λ b. if_kept b n (keep g (kept_names f (suc n) k))) d ∙ ap (λ rest. if_kept c n rest) ih
    by false e true d ih = absurd (clash (sym (h n d) ∙ e))
    by false e false d ih = ih

-- what passes no test is not kept
pub none-kept : (f : LocalId → Bool) (n k : ℕ) → ((y : ℕ) → f (local y) ≡ false) → kept_names f n k ≡ []
none-kept f n zero h = refl
none-kept f n (suc k) h = ap (λ b. if_kept b n (kept_names f (suc n) k)) (h n) ∙ none-kept f (suc n) k h

-- a name that is kept is Dynamic
pub look-kept : (f : LocalId → Bool) (x d n k : ℕ) → n ≤ x → x < n + k → f (local x) ≡ true → (e : Dyn) × (look (local x) (numbered d (kept_names f n k)) ≡ Some (Dynamic e))
look-kept f x d n zero le lt h = absurd (omega (arith, le, lt))
look-kept f x d n (suc k) le lt h = by (f (local n)) refl (numbers n x) (λ c l. look-kept f x c (suc n) k l (omega (arith, lt)) h)
  where
    clash : true ≡ false → ⊥
    clash e = cc

    by : (b : Bool) → f (local n) ≡ b → Numbers n x → ((c : ℕ) → suc n ≤ x → (e : Dyn) × (look (local x) (numbered c (kept_names f (suc n) k)) ≡ Some (Dynamic e))) → (e : Dyn) × (look (local x) (numbered d (if_kept b n (kept_names f (suc n) k))) ≡ Some (Dynamic e))
    by true t (less l) ih =
        let r = ih (d + 1) (omega (arith, l)) in
        (r.0, ap (λ b. if b then Some (Dynamic (record { 0 = d })) else look (local x) (numbered (d + 1) (kept_names f (suc n) k))) (differ n x (λ e. absurd (omega (arith, e, l)))) ∙ r.1)
    by true t (equal e) ih =
        (record { 0 = d }, ap (λ b. if b then Some (Dynamic (record { 0 = d })) else look (local x) (numbered (d + 1) (kept_names f (suc n) k))) (ap (λ m. n == m) (sym e) ∙ same-itself n))
    by false t (less l) ih = ih d (omega (arith, l))
    by false t (equal e) ih = absurd (clash (sym h ∙ ap (λ m. f (local m)) (sym e) ∙ t))
    by b t (more l) ih = absurd (omega (arith, l, le))

-- ---- names lose their numbers

pub shape-numbered : (d : ℕ) (ns : Names (Option Value)) → shape (numbered d ns) ≡ ns
shape-numbered d [] = refl
shape-numbered d (e ∷ ns) = ap (λ v. (e.0, v) ∷ shape (numbered (d + is_dynamic e.1) ns)) (unnumbered e.1) ∙ ap (λ l. e ∷ l) (shape-numbered (d + is_dynamic e.1) ns)
  where
    unnumbered : (v : Option Value) → without_number (with_number d v) ≡ v
    unnumbered None = refl
    unnumbered (Some v) = refl

pub shape-put : (x : LocalId) (v : Val) (ns : Names Val) → shape (put x v ns) ≡ put x (without_number v) (shape ns)
shape-put x v [] = refl
shape-put x v (e ∷ ns) = by (e.0.0 == x.0) (nat_lt x.0 e.0.0) (shape-put x v ns)
  where
    by : (b c : Bool) → shape (put x v ns) ≡ put x (without_number v) (shape ns) → shape (if b then (x, v) ∷ ns else (if c then (x, v) ∷ e ∷ ns else e ∷ put x v ns)) ≡ (if b then (x, without_number v) ∷ shape ns else (if c then (x, without_number v) ∷ (e.0, without_number e.1) ∷ shape ns else (e.0, without_number e.1) ∷ put x (without_number v) (shape ns)))
    by true c ih = refl
    by false true ih = refl
    by false false ih = ap (λ l. (e.0, without_number e.1) ∷ l) ih

pub shape-keep : (f : LocalId → Bool) (ns : Names Val) → shape (keep f ns) ≡ keep f (shape ns)
shape-keep f [] = refl
shape-keep f (e ∷ ns) = by (f e.0) (shape-keep f ns)
  where
    by : (b : Bool) → shape (keep f ns) ≡ keep f (shape ns) → shape (if b then e ∷ keep f ns else keep f ns) ≡ (if b then (e.0, without_number e.1) ∷ keep f (shape ns) else keep f (shape ns))
    by true ih = ap (λ l. (e.0, without_number e.1) ∷ l) ih
    by false ih = ih
