-- Spots in order.
use Rattle.std.proofs.Common.{◌≡◌, ◌⊎◌, inl, inr, ℕ, ◌+◌, ◌<◌, List, [], ◌∷◌, ◌++◌, refl, sym, subst, ap, ◌∙◌, arith, append_assoc}
use Rattle.std.proofs.lemmas.List.Elements.{All-append, All-cons, All-nil}
use Rattle.ir_module.specs.Places.{rank, IsBefore, ComesAfter}
use Rattle.ir_module.specs.declared.places.Place.{Place}
use Rattle.ir_module.specs.declared.places.Point.{Point}
use Rattle.ir_module.specs.declared.places.Spot.{Spot}
use Rattle.ir_module.specs.declared.places.Spot.TheVariants as spot
use Rattle.ir_tokens.specs.declared.token.Token.{Token}
use Rattle.ir_values.specs.declared.ids.BlockId.{BlockId}
use Rattle.ir_values.specs.declared.ids.FuncId.{FuncId}
use Rattle.ir_names.specs.Places.{points, place_at, next_block, next_function, first_point}
use Rattle.ir_names.specs.code.Marked.{next, behind}

one_level : {R S T : Type 0} (a b c : ℕ) → (R → S → T) → (a < b) ⊎ ((a ≡ b) × R) → (b < c) ⊎ ((b ≡ c) × S) → (a < c) ⊎ ((a ≡ c) × T)
one_level a b c f (inl x) (inl y) = inl (omega arith)
one_level a b c f (inl x) (inr y) = inl (omega arith)
one_level a b c f (inr x) (inl y) = inl (omega arith)
one_level a b c f (inr x) (inr y) = inr (omega arith, f x.1 y.1)

before_both : (r s t : Spot) → IsBefore r s → IsBefore s t → IsBefore r t
before_both r s t =
    let x = rank r in let y = rank s in let z = rank t in
    one_level x.0 y.0 z.0 (one_level x.1 y.1 z.1 (one_level x.2 y.2 z.2 (λ (p : x.3 < y.3) (q : y.3 < z.3). omega arith)))

pub later : (ps : List (Spot × Place)) (s t : Spot) → IsBefore s t → ComesAfter ps s → ComesAfter ps t
later ps s t b h = λ k d l. before_both _ s t (h k d l) b

pub pushed : (ps : List (Spot × Place)) (s t : Spot) (p : Place) → IsBefore s t → ComesAfter ps s → ComesAfter (ps ++ (s, p) ∷ []) t
pushed ps s t p b h = All-append (λ q. IsBefore q.0 t) ps ((s, p) ∷ []) (later ps s t b h) (All-cons (λ q. IsBefore q.0 t) (s, p) [] b (All-nil (λ q. IsBefore q.0 t)))

point_before_next : (p : Point) → IsBefore (spot.At p) (spot.At (next p))
point_before_next p = inr (refl, inr (refl, inr (refl, omega arith)))

pub behind_point : (ps : List (Spot × Place)) (p : Point) (at : Place) → ComesAfter ps (spot.At p) → ComesAfter (ps ++ (spot.At p, at) ∷ []) (spot.At (next p))
behind_point ps p at = pushed ps (spot.At p) (spot.At (next p)) at (point_before_next p)

same_block : (p : Point) (ts : List Token) → ((behind p ts).func ≡ p.func) × ((behind p ts).block ≡ p.block)
same_block p [] = (refl, refl)
same_block p (t ∷ ts) = same_block (next p) ts

-- from a point of a block to the first of the next block
pub behind_block : (ps : List (Spot × Place)) (p : Point) (ts : List Token) → ComesAfter ps (spot.At (behind p ts)) → ComesAfter ps (spot.At (next_block p))
behind_block ps p ts =
    let s = same_block p ts in
    let f : (behind p ts).func.0 ≡ p.func.0 = ap (λ (i : FuncId). i.0) s.0 in
    let b : (behind p ts).block.0 ≡ p.block.0 = ap (λ (i : BlockId). i.0) s.1 in
    later ps (spot.At (behind p ts)) (spot.At (next_block p)) (inr (refl, inr (f, inl (omega arith))))

pub behind_body : (ps : List (Spot × Place)) (p : Point) (f : FuncId) → p.func ≡ f → ComesAfter ps (spot.At p) → ComesAfter ps (spot.Func (next_function f))
behind_body ps p f e h = later ps (spot.At p) (spot.Func (next_function f)) (inr (refl, inl (let g : p.func.0 ≡ f.0 = ap (λ (i : FuncId). i.0) e in omega arith))) h

pub behind_name : (ps : List (Spot × Place)) (f : FuncId) (at : Place) → ComesAfter ps (spot.Func f) → ComesAfter (ps ++ (spot.Func f, at) ∷ []) (spot.At (first_point f))
behind_name ps f at = pushed ps (spot.Func f) (spot.At (first_point f)) at (inr (refl, inr (refl, inl (omega arith))))

pub without_body : (ps : List (Spot × Place)) (f : FuncId) → ComesAfter ps (spot.At (first_point f)) → ComesAfter ps (spot.Func (next_function f))
without_body ps f = later ps (spot.At (first_point f)) (spot.Func (next_function f)) (inr (refl, inl (omega arith)))

pub behind_module : (at : Place) → ComesAfter ((spot.Module, at) ∷ []) (spot.Func (record { 0 = 0 }))
behind_module at = pushed [] spot.Module (spot.Func (record { 0 = 0 })) at (inl (omega arith)) (All-nil (λ q. IsBefore q.0 spot.Module))

pub behind_append : (p : Point) (xs ys : List Token) → behind p (xs ++ ys) ≡ behind (behind p xs) ys
behind_append p [] ys = refl
behind_append p (x ∷ xs) ys = behind_append (next p) xs ys

pub points_append : (text : List ℕ) (p : Point) (xs ys : List Token) → points text p (xs ++ ys) ≡ points text p xs ++ points text (behind p xs) ys
points_append text p [] ys = refl
points_append text p (x ∷ xs) ys = ap (λ l. (spot.At p, place_at text x) ∷ l) (points_append text (next p) xs ys)

-- the places of the three parts of a block, one behind the other; the text stays the same
pub three_parts : (text u v : List ℕ) (p q r : Point) (xs ys : List Token) (t : Token) (a b c d : List (Spot × Place)) → u ≡ text → v ≡ u
    → q ≡ behind p xs → r ≡ behind q ys → b ≡ a ++ points text p xs → c ≡ b ++ points u q ys → d ≡ c ++ (spot.At r, place_at v t) ∷ []
    → d ≡ a ++ points text p (xs ++ (ys ++ t ∷ []))
three_parts text u v p q r xs ys t a b c d e f g h i j k =
    let l : points text p (xs ++ (ys ++ t ∷ [])) ≡ points text p xs ++ (points text (behind p xs) ys ++ (spot.At (behind (behind p xs) ys), place_at text t) ∷ []) =
    points_append text p xs (ys ++ t ∷ []) ∙ ap (λ (m : List (Spot × Place)). points text p xs ++ m) (points_append text (behind p xs) ys (t ∷ [])) in
    let n : d ≡ ((a ++ points text p xs) ++ points text (behind p xs) ys) ++ (spot.At (behind (behind p xs) ys), place_at text t) ∷ [] = cc in
    let g : ((a ++ points text p xs) ++ points text (behind p xs) ys) ++ (spot.At (behind (behind p xs) ys), place_at text t) ∷ []
    ≡ a ++ (points text p xs ++ (points text (behind p xs) ys ++ (spot.At (behind (behind p xs) ys), place_at text t) ∷ [])) = simp append_assoc in
    (n ∙ g) ∙ sym (ap (λ (m : List (Spot × Place)). a ++ m) l)
