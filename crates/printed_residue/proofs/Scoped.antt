-- Items among lines, and Dynamic values in scope.
use Rattle.std.proofs.Common.{◌≡◌, ℕ, suc, Bool, true, false, ◌&&◌, not, Some, List, [], ◌∷◌, ◌++◌, take, refl, sym, ap, ◌∙◌, subst, append_assoc, append-nil}
use Rattle.std.proofs.lemmas.Bool.{and_parts}
use Rattle.std.specs.List.{list_all, list_any}
use Rattle.std.specs.Prelude.{◌||◌, ◌==◌, ⊤, is_some, if◌then◌else◌, flat_map, slice_get}
use Rattle.ir_values.specs.declared.int.Width.{Width}
use Rattle.ir_values.specs.declared.ty.Ty.{Ty}
use Rattle.kept_items.specs.declared.item.Item.{Item}
use Rattle.kept_items.specs.declared.val.Val.{Val}
use Rattle.kept_items.specs.declared.val.Val.TheVariants.{Known, Dynamic}
use Rattle.residue.specs.declared.parts.Line.{Line}
use Rattle.residue.specs.declared.parts.Line.TheVariants as line
use Rattle.residue.specs.Scopes.{item_gives, item_uses, items_of, width_in}
use Rattle.residue.specs.Valid.{all_differ, is_within, items_within}
use Rattle.printed_residue.specs.Places.{is_in}
use Rattle.printed_residue.proofs.Facts.{cut, take-one-more}
use Rattle.printed_residue.proofs.Looks.{differ}

pub items-append : (a b : List Line) → items_of (a ++ b) ≡ items_of a ++ items_of b
items-append [] b = refl
items-append (line.Item x ∷ a) b = ap (λ xs. x ∷ xs) (items-append a b)
items-append (line.Made j ∷ a) b = items-append a b
items-append (line.Freed j ∷ a) b = items-append a b

-- the items before that of a line, and those behind it
pub cut-items : (lines : List Line) (q : ℕ) (x : Item) → slice_get lines q ≡ Some (line.Item x) → (rest : List Item) × (items_of lines ≡ items_of (take q lines) ++ (x ∷ rest))
cut-items lines q x h =
    let c = cut lines q (line.Item x) h in
    (items_of c.0, ap items_of c.1 ∙ items-append (take q lines) (line.Item x ∷ c.0))

pub items-next : (lines : List Line) (q : ℕ) (x : Item) → slice_get lines q ≡ Some (line.Item x) → items_of (take (suc q) lines) ≡ items_of (take q lines) ++ x ∷ []
items-next lines q x h = ap items_of (take-one-more lines q (line.Item x) h) ∙ items-append (take q lines) (line.Item x ∷ [])

abbrev pub is_mark : Line → Type 0
is_mark (line.Item x) = ⊥
is_mark (line.Made j) = ⊤
is_mark (line.Freed j) = ⊤

pub items-same : (lines : List Line) (q : ℕ) (m : Line) → is_mark m → slice_get lines q ≡ Some m → items_of (take (suc q) lines) ≡ items_of (take q lines)
items-same lines q m i h = ap items_of (take-one-more lines q m h) ∙ items-append (take q lines) (m ∷ []) ∙ ap (λ ys. items_of (take q lines) ++ ys) (none m i) ∙ append-nil (items_of (take q lines))
  where
    none : (m : Line) → is_mark m → items_of (m ∷ []) ≡ []
    none (line.Item x) i = absurd i
    none (line.Made j) i = refl
    none (line.Freed j) i = refl

-- ---- scopes

pub in-append : (a b : List (ℕ × Width)) (d : ℕ) → is_in (a ++ b) d ≡ (is_in a d || is_in b d)
in-append [] b d = refl
in-append (x ∷ a) b d = ap (λ t. (x.0 == d) || t) (in-append a b d) ∙ or-assoc (x.0 == d) (is_in a d) (is_in b d)
  where
    or-assoc : (a b c : Bool) → (a || (b || c)) ≡ ((a || b) || c)
    or-assoc true b c = refl
    or-assoc false b c = refl

pub in-front : (a b : List (ℕ × Width)) (d : ℕ) → is_in a d ≡ true → is_in (a ++ b) d ≡ true
in-front a b d h = in-append a b d ∙ ap (λ t. t || is_in b d) h

pub in-is : (scope : List (ℕ × Width)) (d : ℕ) → is_some (width_in scope d) ≡ is_in scope d
in-is [] d = refl
in-is (x ∷ scope) d = by-test (x.0 == d) (in-is scope d)
  where
    by-test : (b : Bool) → is_some (width_in scope d) ≡ is_in scope d → is_some (if b then Some x.1 else width_in scope d) ≡ (b || is_in scope d)
    by-test true h = refl
    by-test false h = h

-- each Dynamic value of these is in scope
abbrev pub ValIn : List (ℕ × Width) → Val → Type 0
ValIn scope (Known v) = ⊤
ValIn scope (Dynamic d) = is_in scope d.0 ≡ true

pub val-in : (scope : List (ℕ × Width)) (a : Val) → is_within scope a ≡ true → ValIn scope a
val-in scope (Known v) h = tt
val-in scope (Dynamic d) h = sym (in-is scope d.0) ∙ h

abbrev pub ArgsIn : List (ℕ × Width) → List (Ty × Val) → Type 0
ArgsIn scope [] = ⊤
ArgsIn scope (a ∷ args) = ValIn scope a.1 × ArgsIn scope args

pub args-in : (scope : List (ℕ × Width)) (args : List (Ty × Val)) → list_all (λ a. is_within scope a.1) args ≡ true → ArgsIn scope args
args-in scope [] h = tt
args-in scope (a ∷ args) h = let p = and_parts (is_within scope a.1) (list_all (λ a. is_within scope a.1) args) h in (val-in scope a.1 p.0, args-in scope args p.1)

-- what an item uses is in the scope behind the items before it
pub item-in : (scope : List (ℕ × Width)) (pre : List Item) (x : Item) (rest : List Item) → items_within scope (pre ++ (x ∷ rest)) ≡ true → ArgsIn (scope ++ flat_map item_gives pre) (item_uses x)
item-in scope [] x rest h =
    let p = and_parts (list_all (λ a. is_within scope a.1) (item_uses x)) (items_within (scope ++ item_gives x) rest) h in
    subst (λ s. ArgsIn s (item_uses x)) (sym (append-nil scope)) (args-in scope (item_uses x) p.0)
item-in scope (y ∷ pre) x rest h =
    let p = and_parts (list_all (λ a. is_within scope a.1) (item_uses y)) (items_within (scope ++ item_gives y) (pre ++ (x ∷ rest))) h in
    subst (λ s. ArgsIn s (item_uses x)) (append_assoc scope (item_gives y) (flat_map item_gives pre)) (item-in (scope ++ item_gives y) pre x rest p.1)

-- what is defined once isn't defined before: of two parts of a list of distinct ones

and-not : (s t : Bool) → (not s && t) ≡ true → (s ≡ false) × (t ≡ true)
and-not true t h = cc
and-not false t h = (refl, h)

any-in : (a : List (ℕ × Width)) (d : ℕ) → list_any (λ y. y.0 == d) a ≡ is_in a d
any-in [] d = refl
any-in (x ∷ a) d = ap (λ t. (x.0 == d) || t) (any-in a d)

pub apart : (a b : List (ℕ × Width)) (d : ℕ) → all_differ (λ x y. x.0 == y.0) (a ++ b) ≡ true → is_in b d ≡ true → is_in a d ≡ false
apart [] b d h i = refl
apart (x ∷ a) b d h i =
    let p = and-not (list_any (λ y. y.0 == x.0) (a ++ b)) (all_differ (λ x y. x.0 == y.0) (a ++ b)) h in
    ap (λ t. t || is_in a d) (differ x.0 d (λ e. clash (sym (ap (is_in b) e ∙ i) ∙ right (is_in a x.0) (is_in b x.0) (sym (in-append a b x.0) ∙ sym (any-in (a ++ b) x.0) ∙ p.0)))) ∙ apart a b d p.1 i
  where
    clash : true ≡ false → ⊥
    clash e = cc

    right : (s t : Bool) → (s || t) ≡ false → t ≡ false
    right true t h = cc
    right false t h = h
