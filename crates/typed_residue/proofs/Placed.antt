-- The types of local names by their places, and of the names that have Dynamic values.
use Rattle.std.proofs.Common.{◌≡◌, ℕ, zero, suc, ◌+◌, ◌<◌, Bool, true, false, Option, None, Some, List, [], ◌∷◌, ◌++◌, length, map, refl, sym, ap, ◌∙◌, arith, append_assoc, length-append, option_map}
use Rattle.std.specs.Prelude.{◌==◌, ⊤, if◌then◌else◌, flat_map, slice_get}
use Rattle.ir_values.specs.declared.int.Width.{Width}
use Rattle.ir_values.specs.declared.int.Width.TheVariants.{W1}
use Rattle.ir_values.specs.declared.name.Name.{Name}
use Rattle.ir_values.specs.declared.ty.Ty.{Ty}
use Rattle.ir_values.specs.declared.ty.Ty.TheVariants as ty
use Rattle.ir_values.specs.declared.value.Value.{Value}
use Rattle.kept_items.specs.declared.item.Item.{Item}
use Rattle.kept_items.specs.declared.item.Item.TheVariants as item
use Rattle.kept_items.specs.declared.val.Dyn.{Dyn}
use Rattle.residue.specs.declared.parts.Part.{Part}
use Rattle.residue.specs.Functions.{is_constant}
use Rattle.residue.specs.Instructions.{names_of_item, names_of_reading}
use Rattle.residue.specs.Printed.{is_of, locals_from, name_in, names_of, names_of_items, names_of_params, names_of_part}
use Rattle.residue.specs.Scopes.{item_gives, items_of, param_gives, part_gives, width_in}

abbrev pub Names : Type 0
Names = List (Option ℕ × Ty)

-- the type of the local of this number
abbrev pub type_at : List (Name × Ty) → ℕ → Option Ty
type_at ls i = option_map (λ l. l.1) (slice_get ls i)

-- ---- by place

at-place : (k : ℕ) (pre : Names) (y : Option ℕ × Ty) (post : Names) → type_at (locals_from k (pre ++ (y ∷ post))) (length pre) ≡ Some y.1
at-place k [] y post = refl
at-place k (x ∷ pre) y post = at-place (suc k) pre y post

pub placed : (names pre : Names) (y : Option ℕ × Ty) (post : Names) → names ≡ pre ++ (y ∷ post) → type_at (locals_from 0 names) (length pre) ≡ Some y.1
placed names pre y post e = ap (λ ns. type_at (locals_from 0 ns) (length pre)) e ∙ at-place 0 pre y post

-- all of these names have the type
abbrev pub AllAre : Ty → Names → Type 0
AllAre u [] = ⊤
AllAre u (y ∷ names) = (y.1 ≡ u) × AllAre u names

pub placed-among : (names pre mid post : Names) (u : Ty) (k : ℕ) → names ≡ pre ++ (mid ++ post) → AllAre u mid → k < length mid → type_at (locals_from 0 names) (length pre + k) ≡ Some u
placed-among names pre [] post u k e a lt = absurd (omega arith)
placed-among names pre (y ∷ mid) post u zero e a lt =
    ap (type_at (locals_from 0 names)) (let z : length pre + 0 ≡ length pre = omega arith in z) ∙ placed names pre y (mid ++ post) e ∙ ap Some a.0
placed-among names pre (y ∷ mid) post u (suc k) e a lt =
    let c = length-append pre (y ∷ []) in
    ap (type_at (locals_from 0 names)) (let z : length pre + suc k ≡ length (pre ++ y ∷ []) + k = omega (arith, c) in z)
    ∙ placed-among names (pre ++ y ∷ []) mid post u k (e ∙ sym (append_assoc pre (y ∷ []) (mid ++ post))) a.1 (omega arith)

reading-are : (v : Value) → AllAre (ty.Int W1) (names_of_reading v)
reading-are v = by (is_constant v)
  where
    by : (b : Bool) → AllAre (ty.Int W1) (if b then [] else ((None, ty.Int W1) ∷ []))
    by true = tt
    by false = (refl, tt)

are-append : (u : Ty) (a b : Names) → AllAre u a → AllAre u b → AllAre u (a ++ b)
are-append u [] b h g = g
are-append u (y ∷ a) b h g = (h.0, are-append u a b h.1 g)

-- the names of a comparison of two results are bits
pub equal-are : (d : Dyn) (v u : Value) → AllAre (ty.Int W1) (names_of_item (item.Equal d v u))
equal-are d v u = are-append (ty.Int W1) (names_of_reading v) (names_of_reading u ++ (Some d.0, ty.Int W1) ∷ []) (reading-are v) (are-append (ty.Int W1) (names_of_reading u) ((Some d.0, ty.Int W1) ∷ []) (reading-are u) (refl, tt))

-- ---- by Dynamic value

abbrev if_some : Option Ty → Option Ty → Option Ty
if_some None o = o
if_some (Some u) o = Some u

-- the type of the first name that has the Dynamic value
abbrev type_in : Names → ℕ → Option Ty
type_in [] d = None
type_in (y ∷ names) d = if is_of d y.0 then Some y.1 else type_in names d

named-at : (k : ℕ) (names : Names) (d : ℕ) (u : Ty) → type_in names d ≡ Some u → type_at (locals_from k names) (name_in names d) ≡ Some u
named-at k [] d u h = cc
named-at k (y ∷ names) d u h = by (is_of d y.0) h (λ g. named-at (suc k) names d u g)
  where
    by : (b : Bool) → (if b then Some y.1 else type_in names d) ≡ Some u → (type_in names d ≡ Some u → type_at (locals_from (suc k) names) (name_in names d) ≡ Some u) → type_at (locals_from k (y ∷ names)) (if b then 0 else suc (name_in names d)) ≡ Some u
    by true h ih = h
    by false h ih = ih h

abbrev wide : Option Width → Option Ty
wide o = option_map ty.Int o

module _ (d : ℕ) where
  -- two lists that tell the same of the value
  abbrev Tells : Names → List (ℕ × Width) → Type 0
  Tells names gives = type_in names d ≡ wide (width_in gives d)

  tells-append : (a b : Names) (g h : List (ℕ × Width)) → Tells a g → Tells b h → Tells (a ++ b) (g ++ h)
  tells-append a b g h e f = names-append a ∙ both (type_in a d) (width_in g d) e ∙ sym (gives-append g)
    where
      names-append : (a : Names) → type_in (a ++ b) d ≡ if_some (type_in a d) (type_in b d)
      names-append [] = refl
      names-append (y ∷ a) = by (is_of d y.0) (names-append a)
        where
          by : (t : Bool) → type_in (a ++ b) d ≡ if_some (type_in a d) (type_in b d) → (if t then Some y.1 else type_in (a ++ b) d) ≡ if_some (if t then Some y.1 else type_in a d) (type_in b d)
          by true ih = refl
          by false ih = ih

      gives-append : (g : List (ℕ × Width)) → wide (width_in (g ++ h) d) ≡ if_some (wide (width_in g d)) (wide (width_in h d))
      gives-append [] = refl
      gives-append (x ∷ g) = by (x.0 == d) (gives-append g)
        where
          by : (t : Bool) → wide (width_in (g ++ h) d) ≡ if_some (wide (width_in g d)) (wide (width_in h d)) → wide (if t then Some x.1 else width_in (g ++ h) d) ≡ if_some (wide (if t then Some x.1 else width_in g d)) (wide (width_in h d))
          by true ih = refl
          by false ih = ih

      both : (o : Option Ty) (w : Option Width) → o ≡ wide w → if_some o (type_in b d) ≡ if_some (wide w) (wide (width_in h d))
      both o w z = ap (λ x. if_some x (type_in b d)) z ∙ ap (if_some (wide w)) f

  tells-none : (v : Value) → type_in (names_of_reading v) d ≡ None
  tells-none v = by (is_constant v)
    where
      by : (b : Bool) → type_in (if b then [] else ((None, ty.Int W1) ∷ [])) d ≡ None
      by true = refl
      by false = refl

  tells-one : (e : ℕ) (w : Width) → Tells ((Some e, ty.Int w) ∷ []) ((e, w) ∷ [])
  tells-one e w = by (e == d)
    where
      by : (b : Bool) → (if b then Some (ty.Int w) else None) ≡ wide (if b then Some w else None)
      by true = refl
      by false = refl

  tells-item : (x : Item) → Tells (names_of_item x) (item_gives x)
  tells-item (item.Binary e o g w a b) = tells-one e.0 w
  tells-item (item.Icmp e o w a b) = tells-one e.0 W1
  tells-item (item.Convert e o w a to) = tells-one e.0 to
  tells-item (item.Select e w c a b) = tells-one e.0 w
  tells-item (item.Read e v) = tells-one e.0 W1
  tells-item (item.Equal e v u) = tells-append (names_of_reading v) (names_of_reading u ++ (Some e.0, ty.Int W1) ∷ []) [] ((e.0, W1) ∷ []) (tells-none v) (tells-append (names_of_reading u) ((Some e.0, ty.Int W1) ∷ []) [] ((e.0, W1) ∷ []) (tells-none u) (tells-one e.0 W1))
  tells-item (item.Operation name args) = refl
  tells-item (item.Output c args) = refl

  tells-items : (xs : List Item) → Tells (names_of_items xs) (flat_map item_gives xs)
  tells-items [] = refl
  tells-items (x ∷ xs) = tells-append (names_of_item x) (names_of_items xs) (item_gives x) (flat_map item_gives xs) (tells-item x) (tells-items xs)

  tells-params : (params : List (Dyn × Width)) → Tells (names_of_params params) (map (λ x. (x.0.0, x.1)) params)
  tells-params [] = refl
  tells-params (x ∷ params) = tells-append ((Some x.0.0, ty.Int x.1) ∷ []) (names_of_params params) ((x.0.0, x.1) ∷ []) (map (λ x. (x.0.0, x.1)) params) (tells-one x.0.0 x.1) (tells-params params)

  tells-parts : (parts : List Part) → Tells (names_of parts) (flat_map part_gives parts)
  tells-parts [] = refl
  tells-parts (p ∷ parts) = tells-append (names_of_part p) (names_of parts) (part_gives p) (flat_map part_gives parts) (tells-append (names_of_params p.params) (names_of_items (items_of p.lines)) (param_gives p) (flat_map item_gives (items_of p.lines)) (tells-params p.params) (tells-items (items_of p.lines))) (tells-parts parts)

-- the name of a Dynamic value has the value's width
pub dynamic-type : (parts : List Part) (d : ℕ) (w : Width) → width_in (flat_map part_gives parts) d ≡ Some w → type_at (locals_from 0 (names_of parts)) (name_in (names_of parts) d) ≡ Some (ty.Int w)
dynamic-type parts d w h = named-at 0 (names_of parts) d (ty.Int w) (tells-parts d parts ∙ ap wide h)
