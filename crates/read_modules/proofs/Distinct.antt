-- Where each definition is the first of its name, the names of a space are distinct.
use Rattle.std.specs.Prelude.{if◌then◌else◌}
use Rattle.std.proofs.Common.{◌≡◌, ℕ, ◌+◌, Bool, true, false, ◌||◌, Option, Some, List, [], ◌∷◌, ◌++◌, length, refl, sym, ap, ◌∙◌, subst, arith}
use Rattle.std.specs.List.{position_from, list_any}
use Rattle.std.proofs.lemmas.List.{append-nil, append_assoc, length-append}
use Rattle.std.proofs.lemmas.Bool.{or_parts, or_from, lt-ltb, and_from, not_from_false, false_from_ne_true}
use Rattle.ir_values.specs.declared.name.Name.{Name}
use Rattle.ir_module.specs.Numbered.{same_name, are_distinct}
use Rattle.ir_names.specs.code.Names.{same_name as equal_names}
use Rattle.ir_names.specs.Sense.{number_of, is_before}
use Rattle.read_modules.proofs.Each.{Each, Each-append, Each-left, Each-right}
use Rattle.read_modules.proofs.SameNames.{same_decides, equal_self}

-- Definitions in text order: those of the first sort, as values and constants, and the others, as labels and functions.

pub data Definition : Type 0 where
  One : Name → Definition
  Other : Name → Definition

abbrev pub name_in : Definition → Name
name_in (One n) = n
name_in (Other n) = n

abbrev pub ones : List Definition → List Name
ones [] = []
ones (One n ∷ ds) = n ∷ ones ds
ones (Other n ∷ ds) = ones ds

abbrev pub others : List Definition → List Name
others [] = []
others (One n ∷ ds) = others ds
others (Other n ∷ ds) = n ∷ others ds

-- no definition of the name is one of the first v and b
pub record IsNew (one other : Name → Option ℕ) (v b : ℕ) (n : Name) : Type 0 where
  pub new : (is_before (one n) v || is_before (other n) b) ≡ false

-- each is new, from v and b on up to w and c
abbrev pub AllNew : (Name → Option ℕ) → (Name → Option ℕ) → ℕ → ℕ → List Definition → ℕ → ℕ → Type 0
AllNew one other v b [] w c = (v ≡ w) × (b ≡ c)
AllNew one other v b (One n ∷ ds) w c = IsNew one other v b n × AllNew one other (v + 1) b ds w c
AllNew one other v b (Other n ∷ ds) w c = IsNew one other v b n × AllNew one other v (b + 1) ds w c

pub AllNew-append : (one other : Name → Option ℕ) (v b : ℕ) (ds : List Definition) (w c : ℕ) (es : List Definition) (x d : ℕ)
    → AllNew one other v b ds w c → AllNew one other w c es x d → AllNew one other v b (ds ++ es) x d
AllNew-append one other v b [] w c es x d h k = subst (λ n. AllNew one other n b es x d) (sym h.0) (subst (λ n. AllNew one other w n es x d) (sym h.1) k)
AllNew-append one other v b (One n ∷ ds) w c es x d h k = (h.0, AllNew-append one other (v + 1) b ds w c es x d h.1 k)
AllNew-append one other v b (Other n ∷ ds) w c es x d h k = (h.0, AllNew-append one other v (b + 1) ds w c es x d h.1 k)

pub ones-append : (ds es : List Definition) → ones (ds ++ es) ≡ ones ds ++ ones es
ones-append [] es = refl
ones-append (One n ∷ ds) es = ap (λ l. n ∷ l) (ones-append ds es)
ones-append (Other n ∷ ds) es = ones-append ds es

pub others-append : (ds es : List Definition) → others (ds ++ es) ≡ others ds ++ others es
others-append [] es = refl
others-append (One n ∷ ds) es = others-append ds es
others-append (Other n ∷ ds) es = ap (λ l. n ∷ l) (others-append ds es)

-- A name that is among the first stands before.

before_all : (p : Name → Bool) (k : ℕ) (xs ys : List Name) → list_any p xs ≡ true → is_before (position_from p k (xs ++ ys)) (k + length xs) ≡ true
before_all p k [] ys h = absurd (cc)
before_all p k (x ∷ xs) ys h = cases (p x) refl (before_all p (k + 1) xs ys)
  where
    cases : (b : Bool) → p x ≡ b → (list_any p xs ≡ true → is_before (position_from p (k + 1) (xs ++ ys)) (k + 1 + length xs) ≡ true) → is_before (if b then Some k else position_from p (k + 1) (xs ++ ys)) (k + length (x ∷ xs)) ≡ true
    cases true e ih = lt-ltb k (k + length (x ∷ xs)) (omega arith)
    cases false e ih =
        let rest : list_any p xs ≡ true = subst (λ b. (b || list_any p xs) ≡ true) e h in
        let n : k + 1 + length xs ≡ k + length (x ∷ xs) = omega arith in
        subst (λ m. is_before (position_from p (k + 1) (xs ++ ys)) m ≡ true) n (ih rest)

none_before : (n : Name) (xs ys all : List Name) → all ≡ xs ++ ys → is_before (number_of equal_names all n) (length xs) ≡ false → list_any (equal_names n) xs ≡ false
none_before n xs ys all e h = false_from_ne_true _ (λ t.
    let b = before_all (equal_names n) 0 xs ys t in
    let z : 0 + length xs ≡ length xs = omega arith in
    let c : is_before (number_of equal_names all n) (length xs) ≡ true =
    subst (λ m. is_before (number_of equal_names all n) m ≡ true) z (subst (λ l. is_before (number_of equal_names l n) (0 + length xs) ≡ true) (sym e) b) in
    cc)

-- Names that differ.

differ : (m n : Name) → equal_names n m ≡ false → same_name m n ≡ false
differ m n h = false_from_ne_true _ (λ t. let e = equal_self n m (sym ((same_decides m n).0 t)) in absurd (cc))

differ_back : (m n : Name) → same_name m n ≡ false → same_name n m ≡ false
differ_back m n h = false_from_ne_true _ (λ t. let e = (same_decides m n).1 (sym ((same_decides n m).0 t)) in absurd (cc))

-- each of the definitions differs from the name
apart : (ds : List Definition) (n : Name) → list_any (equal_names n) (ones ds) ≡ false → list_any (equal_names n) (others ds) ≡ false → Each (λ d. same_name (name_in d) n ≡ false) ds
apart [] n h k = tt
apart (One m ∷ ds) n h k = let p = or_parts (equal_names n m) _ h in (differ m n p.0, apart ds n p.1 k)
apart (Other m ∷ ds) n h k = let p = or_parts (equal_names n m) _ k in (differ m n p.0, apart ds n h p.1)

-- each differs from all behind it
abbrev AllApart : List Definition → Type 0
AllApart [] = Unit
AllApart (d ∷ ds) = Each (λ e. same_name (name_in d) (name_in e) ≡ false) ds × AllApart ds

apart_push : (ds : List Definition) (d : Definition) → AllApart ds → Each (λ e. same_name (name_in e) (name_in d) ≡ false) ds → AllApart (ds ++ d ∷ [])
apart_push [] d h k = (tt, tt)
apart_push (e ∷ ds) d h k = (Each-append _ ds (d ∷ []) h.0 (k.0, tt), apart_push ds d h.1 k.1)

new_apart : (all pre rest : List Definition) (n : Name) → all ≡ pre ++ rest → IsNew (number_of equal_names (ones all)) (number_of equal_names (others all)) (length (ones pre)) (length (others pre)) n → Each (λ d. same_name (name_in d) n ≡ false) pre
new_apart all pre rest n e h =
    let p = or_parts (is_before (number_of equal_names (ones all) n) (length (ones pre))) _ h.new in
    apart pre n
    (none_before n (ones pre) (ones rest) (ones all) (ap ones e ∙ ones-append pre rest) p.0)
    (none_before n (others pre) (others rest) (others all) (ap others e ∙ others-append pre rest) p.1)

all_apart : (all pre rest : List Definition) (w c : ℕ) → all ≡ pre ++ rest → AllNew (number_of equal_names (ones all)) (number_of equal_names (others all)) (length (ones pre)) (length (others pre)) rest w c → AllApart pre → AllApart all
all_apart all pre [] w c e h a = subst AllApart (sym (e ∙ append-nil pre)) a
all_apart all pre (One n ∷ rest) w c e h a =
    let f = e ∙ sym (append_assoc pre (One n ∷ []) rest) in
    let v : length (ones pre) + 1 ≡ length (ones (pre ++ One n ∷ [])) = sym (ap length (ones-append pre (One n ∷ [])) ∙ length-append (ones pre) (n ∷ [])) in
    let b : length (others pre) ≡ length (others (pre ++ One n ∷ [])) = sym (ap length (others-append pre (One n ∷ []) ∙ append-nil (others pre))) in
    let k = subst (λ i. AllNew (number_of equal_names (ones all)) (number_of equal_names (others all)) i (length (others (pre ++ One n ∷ []))) rest w c) v
    (subst (λ i. AllNew (number_of equal_names (ones all)) (number_of equal_names (others all)) (length (ones pre) + 1) i rest w c) b h.1) in
    all_apart all (pre ++ One n ∷ []) rest w c f k (apart_push pre (One n) a (new_apart all pre (One n ∷ rest) n e h.0))
all_apart all pre (Other n ∷ rest) w c e h a =
    let f = e ∙ sym (append_assoc pre (Other n ∷ []) rest) in
    let v : length (ones pre) ≡ length (ones (pre ++ Other n ∷ [])) = sym (ap length (ones-append pre (Other n ∷ []) ∙ append-nil (ones pre))) in
    let b : length (others pre) + 1 ≡ length (others (pre ++ Other n ∷ [])) = sym (ap length (others-append pre (Other n ∷ [])) ∙ length-append (others pre) (n ∷ [])) in
    let k = subst (λ i. AllNew (number_of equal_names (ones all)) (number_of equal_names (others all)) i (length (others (pre ++ Other n ∷ []))) rest w c) v
    (subst (λ i. AllNew (number_of equal_names (ones all)) (number_of equal_names (others all)) (length (ones pre)) i rest w c) b h.1) in
    all_apart all (pre ++ Other n ∷ []) rest w c f k (apart_push pre (Other n) a (new_apart all pre (Other n ∷ rest) n e h.0))

-- The names of one sort and then of the other.

abbrev Distinct : List Name → Type 0
Distinct [] = Unit
Distinct (n ∷ ns) = Each (λ m. same_name n m ≡ false) ns × Distinct ns

inserted : (n : Name) (xs ys : List Name) → Each (λ m. same_name n m ≡ false) xs → Each (λ m. same_name n m ≡ false) ys → Distinct (xs ++ ys) → Distinct (xs ++ n ∷ ys)
inserted n [] ys h k d = (k, d)
inserted n (x ∷ xs) ys h k d =
    (Each-append _ xs (n ∷ ys) (Each-left _ xs ys d.0) (differ_back n x h.0, Each-right _ xs ys d.0), inserted n xs ys h.1 k d.1)

each_one : (P : Name → Type 0) (ds : List Definition) → Each (λ d. P (name_in d)) ds → Each P (ones ds)
each_one P [] h = tt
each_one P (One n ∷ ds) h = (h.0, each_one P ds h.1)
each_one P (Other n ∷ ds) h = each_one P ds h.1

each_other : (P : Name → Type 0) (ds : List Definition) → Each (λ d. P (name_in d)) ds → Each P (others ds)
each_other P [] h = tt
each_other P (One n ∷ ds) h = each_other P ds h.1
each_other P (Other n ∷ ds) h = (h.0, each_other P ds h.1)

sorted_distinct : (ds : List Definition) → AllApart ds → Distinct (ones ds ++ others ds)
sorted_distinct [] h = tt
sorted_distinct (One n ∷ ds) h = (Each-append _ (ones ds) (others ds) (each_one _ ds h.0) (each_other _ ds h.0), sorted_distinct ds h.1)
sorted_distinct (Other n ∷ ds) h = inserted n (ones ds) (others ds) (each_one _ ds h.0) (each_other _ ds h.0) (sorted_distinct ds h.1)

none_same : (n : Name) (ns : List Name) → Each (λ m. same_name n m ≡ false) ns → list_any (same_name n) ns ≡ false
none_same n [] h = refl
none_same n (m ∷ ns) h = or_from _ _ h.0 (none_same n ns h.1)

tested : (ns : List Name) → Distinct ns → are_distinct ns ≡ true
tested [] h = refl
tested (n ∷ ns) h = and_from _ _ (not_from_false _ (none_same n ns h.0)) (tested ns h.1)

-- definitions that are each new have distinct names
pub distinct_names : (ds : List Definition) (w c : ℕ) → AllNew (number_of equal_names (ones ds)) (number_of equal_names (others ds)) 0 0 ds w c → are_distinct (ones ds ++ others ds) ≡ true
distinct_names ds w c h = tested (ones ds ++ others ds) (sorted_distinct ds (all_apart ds [] ds w c refl h tt))
