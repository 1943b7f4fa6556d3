-- Parts whose items, tails and jumps have their types in the scope of the part.
use Rattle.std.proofs.Common.{◌≡◌, ℕ, ◌+◌, ◌<◌, Bool, true, false, Some, List, [], ◌∷◌, ◌++◌, flat_map, length, refl, sym, ap, ◌∙◌, subst, append-nil, append_assoc}
use Rattle.std.proofs.lemmas.Grind.{flat_map-append}
use Rattle.std.specs.List.{list_all}
use Rattle.std.specs.Prelude.{⊤, slice_get}
use Rattle.ir_values.specs.declared.int.Width.{Width}
use Rattle.ir_values.specs.declared.ty.Ty.{Ty}
use Rattle.kept_items.specs.declared.item.Item.{Item}
use Rattle.kept_items.specs.declared.val.Dyn.{Dyn}
use Rattle.kept_items.specs.declared.val.Val.{Val}
use Rattle.residue.specs.declared.parts.Jump.{Jump}
use Rattle.residue.specs.declared.parts.Line.{Line}
use Rattle.residue.specs.declared.parts.Line.TheVariants as line
use Rattle.residue.specs.declared.parts.Part.{Part}
use Rattle.residue.specs.declared.parts.Tail.{Tail}
use Rattle.residue.specs.Scopes.{item_gives, item_uses, items_of, jumps, param_gives, part_gives, tail_uses}
use Rattle.residue.specs.Valid.{all_agree, args_fit, val_has}
use Rattle.fused_parts.specs.Parts.{Rest, joined}
use Rattle.scoped_parts.proofs.Rows.{IsRow, row-append}

-- what items give
abbrev pub given : List Item → List (ℕ × Width)
given xs = flat_map item_gives xs

-- values with their types in the scope
abbrev pub all_have : List (ℕ × Width) → List (Ty × Val) → Bool
all_have scope args = list_all (λ a. val_has scope a.0 a.1) args

-- each item uses what the scope has before it
abbrev pub ItemsGood : List (ℕ × Width) → List Item → Type 0
ItemsGood scope [] = ⊤
ItemsGood scope (x ∷ xs) = (all_have scope (item_uses x) ≡ true) × ItemsGood (scope ++ item_gives x) xs

pub items-append : (scope : List (ℕ × Width)) (xs ys : List Item) → ItemsGood scope xs → ItemsGood (scope ++ given xs) ys → ItemsGood scope (xs ++ ys)
items-append scope [] ys h k = subst (λ s. ItemsGood s ys) (append-nil scope) k
items-append scope (x ∷ xs) ys h k =
    (h.0, items-append (scope ++ item_gives x) xs ys h.1 (subst (λ s. ItemsGood s ys) (sym (append_assoc scope (item_gives x) (given xs))) k))

pub items-of-append : (xs ys : List Line) → items_of (xs ++ ys) ≡ items_of xs ++ items_of ys
items-of-append [] ys = refl
items-of-append (line.Item x ∷ xs) ys = ap (λ l. x ∷ l) (items-of-append xs ys)
items-of-append (line.Made j ∷ xs) ys = items-of-append xs ys
items-of-append (line.Freed j ∷ xs) ys = items-of-append xs ys

module _ (all : List Part) where
  -- the jump leads to a part, which isn't part 0, and its arguments fit
  pub record JumpGood (scope : List (ℕ × Width)) (j : Jump) : Type 0 where
    pub to : Part
    pub is : slice_get all j.to ≡ Some to
    pub later : 0 < j.to
    pub fit : args_fit scope to.params j.args ≡ true

  abbrev pub JumpsGood : List (ℕ × Width) → List Jump → Type 0
  JumpsGood scope [] = ⊤
  JumpsGood scope (j ∷ js) = JumpGood scope j × JumpsGood scope js

  pub record TailGood (scope : List (ℕ × Width)) (t : Tail) : Type 0 where
    pub uses : all_have scope (tail_uses t) ≡ true
    pub leads : JumpsGood scope (jumps t)
    pub agree : all_agree (jumps t) ≡ true

  abbrev pub PartGood : Part → Type 0
  PartGood p = ItemsGood (param_gives p) (items_of p.lines) × TailGood (part_gives p) p.tail

  abbrev pub PartsGood : List Part → Type 0
  PartsGood [] = ⊤
  PartsGood (p ∷ ps) = PartGood p × PartsGood ps

  pub parts-append : (ps qs : List Part) → PartsGood ps → PartsGood qs → PartsGood (ps ++ qs)
  parts-append [] qs h k = k
  parts-append (p ∷ ps) qs h k = (h.0, parts-append ps qs h.1 k)

  -- the rest of a part that has given this scope, and the parts behind it; their values have the numbers from free on
  pub record RestGood (scope : List (ℕ × Width)) (free : ℕ) (r : Rest) : Type 0 where
    pub items : ItemsGood scope (items_of r.lines)
    pub tail : TailGood (scope ++ given (items_of r.lines)) r.tail
    pub parts : PartsGood r.parts
    pub row : IsRow free (given (items_of r.lines) ++ flat_map part_gives r.parts)

  -- lines before the rest of one part
  pub on-joined : (scope : List (ℕ × Width)) (free : ℕ) (ls : List Line) (t : Tail) (params : List (Dyn × Width)) (r : Rest)
      → ItemsGood scope (items_of ls) → IsRow free (given (items_of ls))
      → RestGood (scope ++ given (items_of ls)) (free + length (given (items_of ls))) r → RestGood scope free (joined true ls t params r)
  on-joined scope free ls t params r h row k =
      let split : items_of (ls ++ r.lines) ≡ items_of ls ++ items_of r.lines = items-of-append ls r.lines in
      let gives : given (items_of (ls ++ r.lines)) ≡ given (items_of ls) ++ given (items_of r.lines) = ap given split ∙ flat_map-append item_gives (items_of ls) (items_of r.lines) in
      record {
        items = subst (ItemsGood scope) (sym split) (items-append scope (items_of ls) (items_of r.lines) h k.items);
        tail =
            subst (λ s. TailGood (scope ++ s) r.tail) (sym gives)
            (subst (λ s. TailGood s r.tail) (append_assoc scope (given (items_of ls)) (given (items_of r.lines))) k.tail);
        parts = k.parts;
        row =
            subst (λ s. IsRow free (s ++ flat_map part_gives r.parts)) (sym gives)
            (subst (IsRow free) (sym (append_assoc (given (items_of ls)) (given (items_of r.lines)) (flat_map part_gives r.parts)))
            (row-append free (given (items_of ls)) (given (items_of r.lines) ++ flat_map part_gives r.parts) row k.row));
      }

  -- the lines that end a part, before a part with these parameters
  pub on-begun : (scope : List (ℕ × Width)) (free : ℕ) (ls : List Line) (t : Tail) (params : List (Dyn × Width)) (values : List (ℕ × Width)) (r : Rest)
      → ItemsGood scope (items_of ls) → IsRow free (given (items_of ls)) → TailGood (scope ++ given (items_of ls)) t
      → values ≡ param_gives (record { params = params; lines = r.lines; tail = r.tail }) → IsRow (free + length (given (items_of ls))) values
      → RestGood values (free + length (given (items_of ls)) + length values) r → RestGood scope free (joined false ls t params r)
  on-begun scope free ls t params values r h row good is row' k =
      let begun : Part = record { params = params; lines = r.lines; tail = r.tail } in
      let own : List (ℕ × Width) = given (items_of ls) in
      let ahead : List (ℕ × Width) = given (items_of r.lines) in
      let behind : List (ℕ × Width) = flat_map part_gives r.parts in
      record {
        items = h;
        tail = good;
        parts = ((subst (λ s. ItemsGood s (items_of r.lines)) is k.items, subst (λ s. TailGood (s ++ ahead) r.tail) is k.tail), k.parts);
        row =
            row-append free own ((param_gives begun ++ ahead) ++ behind) row
            (subst (λ s. IsRow (free + length own) ((s ++ ahead) ++ behind)) is
            (subst (IsRow (free + length own)) (sym (append_assoc values ahead behind))
            (row-append (free + length own) values (ahead ++ behind) row' k.row)));
      }
