-- Equality of attribute lists as a test.
use Rattle.std.proofs.Common.{◌≡◌, ℕ, ◌+◌, Bool, true, false, cond, Option, None, Some, List, [], ◌∷◌, ◌++◌, refl, sym, ap, subst, ◌∙◌}
use Rattle.std.specs.Prelude.{◌||◌, nat_eq}
use Rattle.std.specs.Bool.{Decides}
use Rattle.std.specs.Cmp.{unsigned_Decides}
use Rattle.std.specs.Cmp.Lexicographic.{pointwise}
use Rattle.std.specs.List.{list_any, position_from}
use Rattle.std.proofs.lemmas.Bool.{and_parts, and_from, false≢true}
use Rattle.ir_values.specs.Calls.{same_text}
use Rattle.ir_values.specs.Equal.{same_test}
use Rattle.ir_module.specs.declared.tree.Attr.{Attr}
use Rattle.ir_printer.specs.Groups.{same_attr, same_value, same_attrs, number_from, with_list}

-- a test of items decides equality of lists
pointwise_decides : {A : Type 0} (p : A → A → Bool) → ((x y : A) → Decides (p x y) (x ≡ y)) → (xs ys : List A) → Decides (pointwise p xs ys) (xs ≡ ys)
pointwise_decides p d [] [] = (λ e. refl, λ e. refl)
pointwise_decides p d [] (y ∷ ys) = (λ e. absurd (false≢true e), λ e. cc)
pointwise_decides p d (x ∷ xs) [] = (λ e. absurd (false≢true e), λ e. cc)
pointwise_decides p d (x ∷ xs) (y ∷ ys) =
    let ih = pointwise_decides p d xs ys in
    (λ e. let w = and_parts (p x y) (pointwise p xs ys) e in let h = (d x y).0 w.0 in let t = ih.0 w.1 in cc, λ e. and_from (p x y) (pointwise p xs ys) ((d x y).1 (let h : x ≡ y = cc in h)) (ih.1 (let t : xs ≡ ys = cc in t)))

text_decides : (x y : List ℕ) → Decides (same_text x y) (x ≡ y)
text_decides x y = pointwise_decides nat_eq unsigned_Decides x y

value_decides : (x y : Option (List ℕ)) → Decides (same_value x y) (x ≡ y)
value_decides None None = (λ e. refl, λ e. refl)
value_decides None (Some v) = (λ e. absurd (false≢true e), λ e. cc)
value_decides (Some u) None = (λ e. absurd (false≢true e), λ e. cc)
value_decides (Some u) (Some v) = let d = text_decides u v in (λ e. ap Some (d.0 e), λ e. d.1 (let h : u ≡ v = cc in h))

attr_from : (a b : Attr) → a.key ≡ b.key → a.value ≡ b.value → a ≡ b
attr_from a b e f =
    let first : (List ℕ) → Attr = λ k. record { key = k; value = a.value } in
    let second : (Option (List ℕ)) → Attr = λ v. record { key = b.key; value = v } in
    ap first e ∙ ap second f

attr_decides : (a b : Attr) → Decides (same_attr a b) (a ≡ b)
attr_decides a b = (
  λ e. let w = and_parts (same_text a.key b.key) (same_value a.value b.value) e in attr_from a b ((text_decides a.key b.key).0 w.0) ((value_decides a.value b.value).0 w.1),
  λ e. and_from (same_text a.key b.key) (same_value a.value b.value) ((text_decides a.key b.key).1 (ap (λ x. x.key) e)) ((value_decides a.value b.value).1 (ap (λ x. x.value) e)),
)

pub attrs_decide : (x y : List Attr) → Decides (same_attrs x y) (x ≡ y)
attrs_decide x y = pointwise_decides same_attr attr_decides x y

turned : {b : Bool} {x y : List Attr} → Decides b (x ≡ y) → Decides b (y ≡ x)
turned d = (λ e. sym (d.0 e), λ e. d.1 (sym e))

-- whatever decides equality finds a list where it has a number
pub inserted : (eq : List Attr → List Attr → Bool) → ((x y : List Attr) → Decides (eq x y) (x ≡ y)) → (a : Attr) (rest : List Attr) (gs : List (List Attr)) → cond (list_any (eq (a ∷ rest)) gs) gs (gs ++ (a ∷ rest) ∷ []) ≡ with_list gs (a ∷ rest) (number_from 0 (a ∷ rest) gs)
inserted eq d a rest gs = go 0 gs gs
  where
    step : (b : Bool) (n : ℕ) (o : Option ℕ) (x : Bool) (all : List (List Attr)) → cond x all (all ++ (a ∷ rest) ∷ []) ≡ with_list all (a ∷ rest) o → cond (b || x) all (all ++ (a ∷ rest) ∷ []) ≡ with_list all (a ∷ rest) (cond b (Some n) o)
    step true n o x all h = refl
    step false n o x all h = h

    go : (n : ℕ) (gs all : List (List Attr)) → cond (list_any (eq (a ∷ rest)) gs) all (all ++ (a ∷ rest) ∷ []) ≡ with_list all (a ∷ rest) (number_from n (a ∷ rest) gs)
    go n [] all = refl
    go n (g ∷ gs) all =
        let same : same_attrs g (a ∷ rest) ≡ eq (a ∷ rest) g = same_test (same_attrs g (a ∷ rest)) (eq (a ∷ rest) g) (attrs_decide g (a ∷ rest)) (turned (d (a ∷ rest) g)) in
        subst (λ b. cond (eq (a ∷ rest) g || list_any (eq (a ∷ rest)) gs) all (all ++ (a ∷ rest) ∷ []) ≡ with_list all (a ∷ rest) (cond b (Some n) (number_from (n + 1) (a ∷ rest) gs))) (sym same) (step (eq (a ∷ rest) g) n (number_from (n + 1) (a ∷ rest) gs) (list_any (eq (a ∷ rest)) gs) all (go (n + 1) gs all))

pub inserted_some : (eq : List Attr → List Attr → Bool) → ((x y : List Attr) → Decides (eq x y) (x ≡ y)) → (attrs : List Attr) (gs : List (List Attr)) → (attrs ≡ [] → ⊥) → cond (list_any (eq attrs) gs) gs (gs ++ attrs ∷ []) ≡ with_list gs attrs (number_from 0 attrs gs)
inserted_some eq d [] gs h = absurd (h refl)
inserted_some eq d (a ∷ rest) gs h = inserted eq d a rest gs

-- whatever decides equality finds the number
pub numbered_from : (eq : List Attr → List Attr → Bool) → ((x y : List Attr) → Decides (eq x y) (x ≡ y)) → (n : ℕ) (attrs : List Attr) (gs : List (List Attr)) → position_from (eq attrs) n gs ≡ number_from n attrs gs
numbered_from eq d n attrs [] = refl
numbered_from eq d n attrs (g ∷ gs) =
    let same : eq attrs g ≡ same_attrs g attrs = same_test (eq attrs g) (same_attrs g attrs) (turned (d attrs g)) (attrs_decide g attrs) in
    ap (λ b. cond b (Some n) (position_from (eq attrs) (n + 1) gs)) same ∙ ap (λ o. cond (same_attrs g attrs) (Some n) o) (numbered_from eq d (n + 1) attrs gs)
