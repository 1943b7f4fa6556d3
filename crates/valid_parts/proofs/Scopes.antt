-- What holds in the scope of a part holds among all values that are given, as these are in one row.
use Rattle.std.proofs.Common.{◌≡◌, ℕ, true, Option, None, Some, List, [], ◌∷◌, ◌++◌, flat_map, refl, sym, ap, ◌∙◌, subst, append_assoc}
use Rattle.std.proofs.lemmas.Bool.{and_from, and_parts}
use Rattle.std.specs.List.{list_all}
use Rattle.std.specs.Prelude.{⊤, is_some}
use Rattle.ir_values.specs.declared.int.Width.{Width}
use Rattle.ir_values.specs.declared.ty.Ty.{Ty}
use Rattle.ir_values.specs.declared.ty.Ty.TheVariants as ty
use Rattle.kept_items.specs.declared.item.Item.{Item}
use Rattle.kept_items.specs.declared.val.Dyn.{Dyn}
use Rattle.kept_items.specs.declared.val.Val.{Val}
use Rattle.kept_items.specs.declared.val.Val.TheVariants.{Known, Dynamic}
use Rattle.residue.specs.declared.parts.Part.{Part}
use Rattle.residue.specs.Scopes.{item_gives, item_uses, items_of, param_gives, part_gives, part_uses, tail_uses, width_in}
use Rattle.residue.specs.Valid.{args_fit, is_of_width, is_within, items_within, val_has}
use Rattle.valid_lines.proofs.Parts.{both-pass}
use Rattle.scoped_parts.proofs.Good.{ItemsGood, PartsGood, all_have, given}
use Rattle.scoped_parts.proofs.Rows.{IsRow, behind-others, in-front}

-- a width that is found in the one is found in the other
abbrev pub Includes : List (ℕ × Width) → List (ℕ × Width) → Type 0
Includes scope more = (d : ℕ) (w : Width) → width_in scope d ≡ Some w → width_in more d ≡ Some w

module _ (scope more : List (ℕ × Width)) (includes : Includes scope more) where
  width-kept : (w : Width) (d : Dyn) → is_of_width w (width_in scope d.0) ≡ true → is_of_width w (width_in more d.0) ≡ true
  width-kept w d h = by-width (width_in scope d.0) refl h
    where
      by-width : (o : Option Width) → width_in scope d.0 ≡ o → is_of_width w o ≡ true → is_of_width w (width_in more d.0) ≡ true
      by-width None e h = cc
      by-width (Some v) e h = ap (is_of_width w) (includes d.0 v e) ∙ h

  pub value-kept : (u : Ty) (a : Val) → val_has scope u a ≡ true → val_has more u a ≡ true
  value-kept u (Known v) h = h
  value-kept (ty.Int w) (Dynamic d) h = width-kept w d h
  value-kept u (Dynamic d) h = cc

  pub values-kept : (args : List (Ty × Val)) → all_have scope args ≡ true → all_have more args ≡ true
  values-kept [] h = refl
  values-kept (a ∷ args) h =
      let p = and_parts (val_has scope a.0 a.1) (all_have scope args) h in and_from (val_has more a.0 a.1) (all_have more args) (value-kept a.0 a.1 p.0) (values-kept args p.1)

  pub args-kept : (params : List (Dyn × Width)) (args : List Val) → args_fit scope params args ≡ true → args_fit more params args ≡ true
  args-kept [] [] h = refl
  args-kept [] (a ∷ args) h = cc
  args-kept (x ∷ params) [] h = cc
  args-kept (x ∷ params) (a ∷ args) h =
      let p = and_parts (val_has scope (ty.Int x.1) a) (args_fit scope params args) h in
      and_from (val_has more (ty.Int x.1) a) (args_fit more params args) (value-kept (ty.Int x.1) a p.0) (args-kept params args p.1)

-- ---- a part uses what is in its scope

pub is-within : (scope : List (ℕ × Width)) (u : Ty) (a : Val) → val_has scope u a ≡ true → is_within scope a ≡ true
is-within scope u (Known v) h = refl
is-within scope (ty.Int w) (Dynamic d) h = by-width (width_in scope d.0) h
  where
    by-width : (o : Option Width) → is_of_width w o ≡ true → is_some o ≡ true
    by-width None h = cc
    by-width (Some v) h = refl
is-within scope u (Dynamic d) h = cc

pub uses-within : (scope : List (ℕ × Width)) (args : List (Ty × Val)) → all_have scope args ≡ true → list_all (λ (a : Ty × Val). is_within scope a.1) args ≡ true
uses-within scope [] h = refl
uses-within scope (a ∷ args) h =
    let p = and_parts (val_has scope a.0 a.1) (all_have scope args) h in
    and_from (is_within scope a.1) (list_all (λ (a : Ty × Val). is_within scope a.1) args) (is-within scope a.0 a.1 p.0) (uses-within scope args p.1)

pub items-within : (scope : List (ℕ × Width)) (xs : List Item) → ItemsGood scope xs → items_within scope xs ≡ true
items-within scope [] h = refl
items-within scope (x ∷ xs) h =
    and_from (list_all (λ (a : Ty × Val). is_within scope a.1) (item_uses x)) (items_within (scope ++ item_gives x) xs) (uses-within scope (item_uses x) h.0) (items-within (scope ++ item_gives x) xs h.1)

-- ---- all parts

items-have : (more scope : List (ℕ × Width)) (xs : List Item) → ItemsGood scope xs → Includes (scope ++ given xs) more → all_have more (flat_map item_uses xs) ≡ true
items-have more scope [] h i = refl
items-have more scope (x ∷ xs) h i =
    both-pass (λ (a : Ty × Val). val_has more a.0 a.1) (item_uses x) (flat_map item_uses xs)
    (values-kept scope more (λ d w e. i d w (in-front scope (item_gives x ++ given xs) d w e)) (item_uses x) h.0)
    (items-have more (scope ++ item_gives x) xs h.1 (subst (λ s. Includes s more) (sym (append_assoc scope (item_gives x) (given xs))) i))

-- the scope of each part is among the values
abbrev pub AllIncluded : List (ℕ × Width) → List Part → Type 0
AllIncluded more [] = ⊤
AllIncluded more (p ∷ ps) = Includes (part_gives p) more × AllIncluded more ps

pub all-included : (n : ℕ) (before : List (ℕ × Width)) (ps : List Part) → IsRow n (before ++ flat_map part_gives ps) → AllIncluded (before ++ flat_map part_gives ps) ps
all-included n before [] row = tt
all-included n before (p ∷ ps) row =
    let split = append_assoc before (part_gives p) (flat_map part_gives ps) in (
      λ d w e. behind-others n before (part_gives p ++ flat_map part_gives ps) d w row (in-front (part_gives p) (flat_map part_gives ps) d w e),
      subst (λ s. AllIncluded s ps) split (all-included n (before ++ part_gives p) ps (subst (IsRow n) (sym split) row)),
    )

pub parts-have : (all : List Part) (more : List (ℕ × Width)) (ps : List Part) → PartsGood all ps → AllIncluded more ps → all_have more (flat_map part_uses ps) ≡ true
parts-have all more [] h i = refl
parts-have all more (p ∷ ps) h i =
    both-pass (λ (a : Ty × Val). val_has more a.0 a.1) (part_uses p) (flat_map part_uses ps)
    (both-pass (λ (a : Ty × Val). val_has more a.0 a.1) (flat_map item_uses (items_of p.lines)) (tail_uses p.tail)
    (items-have more (param_gives p) (items_of p.lines) h.0.0 i.0) (values-kept (part_gives p) more i.0 (tail_uses p.tail) h.0.1.uses))
    (parts-have all more ps h.1 i.1)
