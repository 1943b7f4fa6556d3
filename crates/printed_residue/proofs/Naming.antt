-- The local names of Dynamic values.
use Rattle.std.proofs.Common.{◌≡◌, ℕ, suc, ◌+◌, ◌<◌, ◌≤◌, Bool, true, false, Option, None, Some, List, [], ◌∷◌, ◌++◌, length, map, take, drop, refl, sym, ap, ◌∙◌, subst, arith, append_assoc, append-nil, length-append}
use Rattle.std.proofs.lemmas.Grind.{flat_map-append}
use Rattle.std.proofs.lemmas.List.{take-append-drop}
use Rattle.std.specs.Prelude.{◌||◌, ◌==◌, if◌then◌else◌, flat_map, slice_get}
use Rattle.ir_values.specs.declared.int.Width.{Width}
use Rattle.ir_values.specs.declared.int.Width.TheVariants.{W1}
use Rattle.ir_values.specs.declared.ty.Ty.{Ty}
use Rattle.ir_values.specs.declared.ty.Ty.TheVariants as ty
use Rattle.ir_values.specs.declared.value.Value.{Value}
use Rattle.kept_items.specs.declared.item.Item.{Item}
use Rattle.kept_items.specs.declared.item.Item.TheVariants as item
use Rattle.kept_items.specs.declared.val.Dyn.{Dyn}
use Rattle.residue.specs.declared.parts.Line.TheVariants as line
use Rattle.residue.specs.declared.parts.Part.{Part}
use Rattle.residue.specs.declared.parts.Residue.{Residue}
use Rattle.residue.specs.Functions.{is_constant}
use Rattle.residue.specs.Instructions.{names_of_item, names_of_reading, reads}
use Rattle.residue.specs.Printed.{is_of, name_in, names_of, names_of_items, names_of_params, names_of_part, words}
use Rattle.residue.specs.Scopes.{gives_of, item_gives, items_of, param_gives, part_gives}
use Rattle.residue.specs.Valid.{all_differ}
use Rattle.printed_residue.specs.Places.{is_in, names_before, scope_at}
use Rattle.printed_residue.proofs.Facts.{cut}
use Rattle.printed_residue.proofs.Looks.{same-itself, same-numbers}
use Rattle.printed_residue.proofs.Scoped.{apart, cut-items, in-append, in-front, items-append}

abbrev pub Names : Type 0
Names = List (Option ℕ × Ty)

-- some of these names has the Dynamic value
abbrev pub has : Names → ℕ → Bool
has [] d = false
has (x ∷ names) d = is_of d x.0 || has names d

pub has-append : (a b : Names) (d : ℕ) → has (a ++ b) d ≡ (has a d || has b d)
has-append [] b d = refl
has-append (x ∷ a) b d = ap (λ t. is_of d x.0 || t) (has-append a b d) ∙ or-assoc (is_of d x.0) (has a d) (has b d)
  where
    or-assoc : (a b c : Bool) → (a || (b || c)) ≡ ((a || b) || c)
    or-assoc true b c = refl
    or-assoc false b c = refl

-- names have what is given

has-params : (params : List (Dyn × Width)) (d : ℕ) → has (names_of_params params) d ≡ is_in (map (λ x. (x.0.0, x.1)) params) d
has-params [] d = refl
has-params (x ∷ params) d = ap (λ t. (x.0.0 == d) || t) (has-params params d)

none-reading : (v : Value) (d : ℕ) → has (names_of_reading v) d ≡ false
none-reading v d = by (is_constant v)
  where
    by : (b : Bool) → has (if b then [] else ((None, ty.Int W1) ∷ [])) d ≡ false
    by true = refl
    by false = refl

pub has-item : (x : Item) (d : ℕ) → has (names_of_item x) d ≡ is_in (item_gives x) d
has-item (item.Binary e op flags w a b) d = refl
has-item (item.Icmp e pred w a b) d = refl
has-item (item.Convert e conv w a to) d = refl
has-item (item.Select e w c a b) d = refl
has-item (item.Read e v) d = refl
has-item (item.Equal e v u) d =
    has-append (names_of_reading v) (names_of_reading u ++ (Some e.0, ty.Int W1) ∷ []) d
    ∙ ap (λ t. t || has (names_of_reading u ++ (Some e.0, ty.Int W1) ∷ []) d) (none-reading v d)
    ∙ has-append (names_of_reading u) ((Some e.0, ty.Int W1) ∷ []) d
    ∙ ap (λ t. t || ((e.0 == d) || false)) (none-reading u d)
has-item (item.Operation name args) d = refl
has-item (item.Output c args) d = refl

pub has-items : (xs : List Item) (d : ℕ) → has (names_of_items xs) d ≡ is_in (flat_map item_gives xs) d
has-items [] d = refl
has-items (x ∷ xs) d =
    has-append (names_of_item x) (names_of_items xs) d
    ∙ ap (λ t. t || has (names_of_items xs) d) (has-item x d)
    ∙ ap (λ t. is_in (item_gives x) d || t) (has-items xs d)
    ∙ sym (in-append (item_gives x) (flat_map item_gives xs) d)

pub has-part : (p : Part) (d : ℕ) → has (names_of_part p) d ≡ is_in (part_gives p) d
has-part p d =
    has-append (names_of_params p.params) (names_of_items (items_of p.lines)) d
    ∙ ap (λ t. t || has (names_of_items (items_of p.lines)) d) (has-params p.params d)
    ∙ ap (λ t. is_in (param_gives p) d || t) (has-items (items_of p.lines) d)
    ∙ sym (in-append (param_gives p) (flat_map item_gives (items_of p.lines)) d)

pub has-parts : (parts : List Part) (d : ℕ) → has (names_of parts) d ≡ is_in (flat_map part_gives parts) d
has-parts [] d = refl
has-parts (p ∷ parts) d =
    has-append (names_of_part p) (names_of parts) d
    ∙ ap (λ t. t || has (names_of parts) d) (has-part p d)
    ∙ ap (λ t. is_in (part_gives p) d || t) (has-parts parts d)
    ∙ sym (in-append (part_gives p) (flat_map part_gives parts) d)

-- where a name is found

pub name-first : (pre : Names) (y : Option ℕ × Ty) (suf : Names) (d : ℕ) → has pre d ≡ false → is_of d y.0 ≡ true → name_in (pre ++ (y ∷ suf)) d ≡ length pre
name-first [] y suf d h e = ap (λ b. if b then 0 else suc (name_in suf d)) e
name-first (x ∷ pre) y suf d h e = by (is_of d x.0) (λ g. name-first pre y suf d g e) h
  where
    by : (b : Bool) → (has pre d ≡ false → name_in (pre ++ (y ∷ suf)) d ≡ length pre) → (b || has pre d) ≡ false → (if b then 0 else suc (name_in (pre ++ (y ∷ suf)) d)) ≡ suc (length pre)
    by true ih h = cc
    by false ih h = ap suc (ih h)

pub name-early : (pre suf : Names) (d : ℕ) → has pre d ≡ true → name_in (pre ++ suf) d < length pre
name-early [] suf d h = cc
name-early (x ∷ pre) suf d h = by (is_of d x.0) (λ g. name-early pre suf d g) h
  where
    by : (b : Bool) → (has pre d ≡ true → name_in (pre ++ suf) d < length pre) → (b || has pre d) ≡ true → (if b then 0 else suc (name_in (pre ++ suf) d)) < suc (length pre)
    by true ih h = omega arith
    by false ih h = let g = ih h in omega (arith, g)

-- the name of what an item gives, where its names begin with this number
abbrev pub last_name : ℕ → Item → ℕ
last_name free (item.Equal d v u) = free + reads v + reads u
last_name free x = free

reading-length : (v : Value) → length (names_of_reading v) ≡ reads v
reading-length v = by (is_constant v)
  where
    by : (b : Bool) → length {A = Option ℕ × Ty} (if b then [] else ((None, ty.Int W1) ∷ [])) ≡ (if b then 0 else 1)
    by true = refl
    by false = refl

pub equal-names : (e : Dyn) (v u : Value) → length (names_of_item (item.Equal e v u)) ≡ reads v + reads u + 1
equal-names e v u =
    let a = length-append (names_of_reading v) (names_of_reading u ++ (Some e.0, ty.Int W1) ∷ []) in
    let b = length-append (names_of_reading u) ((Some e.0, ty.Int W1) ∷ []) in
    let c = reading-length v in
    let d = reading-length u in
    omega (arith, a, b, c, d)

one-name : (pre : Names) (e : ℕ) (t : Ty) (suf : Names) (w : Width) (g : ℕ × Width) → (e, w) ∷ [] ≡ g ∷ [] → has pre g.0 ≡ false → name_in (pre ++ ((Some e, t) ∷ suf)) g.0 ≡ length pre
one-name pre e t suf w g i h = let s : e ≡ g.0 = cc in name-first pre (Some e, t) suf g.0 h (ap (λ n. e == n) (sym s) ∙ same-itself e)

-- what an item gives has its last name
pub item-name : (pre : Names) (x : Item) (suf : Names) (g : ℕ × Width) → item_gives x ≡ g ∷ [] → has pre g.0 ≡ false → name_in (pre ++ (names_of_item x ++ suf)) g.0 ≡ last_name (length pre) x
item-name pre (item.Binary e op flags w a b) suf g i h = one-name pre e.0 (ty.Int w) suf w g i h
item-name pre (item.Icmp e pred w a b) suf g i h = one-name pre e.0 (ty.Int W1) suf W1 g i h
item-name pre (item.Convert e conv w a to) suf g i h = one-name pre e.0 (ty.Int to) suf to g i h
item-name pre (item.Select e w c a b) suf g i h = one-name pre e.0 (ty.Int w) suf w g i h
item-name pre (item.Read e v) suf g i h = one-name pre e.0 (ty.Int W1) suf W1 g i h
item-name pre (item.Equal e v u) suf g i h =
    let vs = names_of_reading v in
    let us = names_of_reading u in
    let none : has ((pre ++ vs) ++ us) g.0 ≡ false = has-append (pre ++ vs) us g.0 ∙ ap (λ t. t || has us g.0) (has-append pre vs g.0 ∙ ap (λ t. t || has vs g.0) h ∙ none-reading v g.0) ∙ none-reading u g.0 in
    let found = one-name ((pre ++ vs) ++ us) e.0 (ty.Int W1) suf W1 g i none in
    let a = length-append (pre ++ vs) us in
    let b = length-append pre vs in
    let c = reading-length v in
    let d = reading-length u in
    ap (λ l. name_in l g.0) (together vs us (Some e.0, ty.Int W1)) ∙ found ∙ (let z : length ((pre ++ vs) ++ us) ≡ length pre + reads v + reads u = omega (arith, a, b, c, d) in z)
  where
    together : (vs us : Names) (y : Option ℕ × Ty) → pre ++ ((vs ++ (us ++ y ∷ [])) ++ suf) ≡ ((pre ++ vs) ++ us) ++ (y ∷ suf)
    together vs us y =
        ap (λ l. pre ++ l) (append_assoc vs (us ++ y ∷ []) suf ∙ ap (λ l. vs ++ l) (append_assoc us (y ∷ []) suf))
        ∙ sym (append_assoc pre vs (us ++ (y ∷ suf)))
        ∙ sym (append_assoc (pre ++ vs) us (y ∷ suf))
item-name pre (item.Operation name args) suf g i h = cc
item-name pre (item.Output c args) suf g i h = cc

-- parameters have the names that follow those before their part
pub record Named (params : List (Dyn × Width)) (names : Names) (from d : ℕ) : Type 0 where
  pub index : ℕ
  pub param : Dyn × Width
  pub is : slice_get params index ≡ Some param
  pub number : param.0.0 ≡ d
  pub name : name_in names d ≡ from + index

pub params-named : (pre : Names) (params : List (Dyn × Width)) (suf : Names) (d : ℕ) → has pre d ≡ false → is_in (map (λ x. (x.0.0, x.1)) params) d ≡ true → Named params (pre ++ (names_of_params params ++ suf)) (length pre) d
params-named pre [] suf d h i = cc
params-named pre (x ∷ params) suf d h i = by (x.0.0 == d) refl i (λ k g. params-named (pre ++ (Some x.0.0, ty.Int x.1) ∷ []) params suf d k g)
  where
    names : Names
    names = pre ++ ((Some x.0.0, ty.Int x.1) ∷ (names_of_params params ++ suf))

    next : Names
    next = pre ++ (Some x.0.0, ty.Int x.1) ∷ []

    by : (b : Bool) → (x.0.0 == d) ≡ b → (b || is_in (map (λ x. (x.0.0, x.1)) params) d) ≡ true → (has next d ≡ false → is_in (map (λ x. (x.0.0, x.1)) params) d ≡ true → Named params (next ++ (names_of_params params ++ suf)) (length next) d) → Named (x ∷ params) names (length pre) d
    by true e i ih = record {
      index = 0;
      param = x;
      is = refl;
      number = same-numbers x.0.0 d e;
      name = name-first pre (Some x.0.0, ty.Int x.1) (names_of_params params ++ suf) d h e ∙ (let z : length pre ≡ length pre + 0 = omega arith in z);
    }
    by false e i ih =
        let n = ih (has-append pre ((Some x.0.0, ty.Int x.1) ∷ []) d ∙ ap (λ t. t || ((x.0.0 == d) || false)) h ∙ ap (λ t. t || false) e) i in
        let a = length-append pre ((Some x.0.0, ty.Int x.1) ∷ []) in record {
          index = suc n.index;
          param = n.param;
          is = n.is;
          number = n.number;
          name = ap (λ l. name_in l d) (sym (append_assoc pre ((Some x.0.0, ty.Int x.1) ∷ []) (names_of_params params ++ suf))) ∙ n.name ∙ (let z : length next + n.index ≡ length pre + suc n.index = omega (arith, a) in z);
        }

-- ---- the names of a residue, cut at a line

any-rest : {A : Type 0} (xs : List A) (q : ℕ) → (rest : List A) × (xs ≡ take q xs ++ rest)
any-rest xs q = (drop q xs, sym (take-append-drop q xs))

params-length : (params : List (Dyn × Width)) → length (names_of_params params) ≡ length params
params-length [] = refl
params-length (x ∷ params) = ap suc (params-length params)

cut-three : {A : Type 0} (t p i rest s : List A) → t ++ ((p ++ (i ++ rest)) ++ s) ≡ (t ++ (p ++ i)) ++ (rest ++ s)
cut-three t p i rest s =
    ap (λ l. t ++ l) (ap (λ l. l ++ s) (sym (append_assoc p i rest)) ∙ append_assoc (p ++ i) rest s)
    ∙ sym (append_assoc t (p ++ i) (rest ++ s))

module _ (r : Residue) (n : ℕ) (p : Part) (is_part : slice_get r.parts n ≡ Some p) where
  -- the names before line q of the part
  abbrev pub before : ℕ → Names
  before q = names_of (take n r.parts) ++ (names_of_params p.params ++ names_of_items (items_of (take q p.lines)))

  pub before-length : (q : ℕ) → length (before q) ≡ names_before r n + length p.params + length (names_of_items (items_of (take q p.lines)))
  before-length q =
      let a = length-append (names_of (take n r.parts)) (names_of_params p.params ++ names_of_items (items_of (take q p.lines))) in
      let b = length-append (names_of_params p.params) (names_of_items (items_of (take q p.lines))) in
      let c = params-length p.params in
      omega (arith, a, b, c)

  pub names-by : (pre rest : List Item) → items_of p.lines ≡ pre ++ rest → (after : Names) × (names_of r.parts ≡ (names_of (take n r.parts) ++ (names_of_params p.params ++ names_of_items pre)) ++ (names_of_items rest ++ after))
  names-by pre rest e =
      let c = cut r.parts n p is_part in (
        names_of c.0,
        ap names_of c.1
            ∙ flat_map-append names_of_part (take n r.parts) (p ∷ c.0)
            ∙ ap (λ l. names_of (take n r.parts) ++ ((names_of_params p.params ++ l) ++ names_of c.0)) (ap names_of_items e ∙ flat_map-append names_of_item pre rest)
            ∙ cut-three (names_of (take n r.parts)) (names_of_params p.params) (names_of_items pre) (names_of_items rest) (names_of c.0),
      )

  gives-by : (pre rest : List Item) → items_of p.lines ≡ pre ++ rest → (after : List (ℕ × Width)) × (gives_of r ≡ (flat_map part_gives (take n r.parts) ++ (param_gives p ++ flat_map item_gives pre)) ++ (flat_map item_gives rest ++ after))
  gives-by pre rest e =
      let c = cut r.parts n p is_part in (
        flat_map part_gives c.0,
        ap (flat_map part_gives) c.1
            ∙ flat_map-append part_gives (take n r.parts) (p ∷ c.0)
            ∙ ap (λ l. flat_map part_gives (take n r.parts) ++ ((param_gives p ++ l) ++ flat_map part_gives c.0)) (ap (flat_map item_gives) e ∙ flat_map-append item_gives pre rest)
            ∙ cut-three (flat_map part_gives (take n r.parts)) (param_gives p) (flat_map item_gives pre) (flat_map item_gives rest) (flat_map part_gives c.0),
      )

  abbrev gives_before : ℕ → List (ℕ × Width)
  gives_before q = flat_map part_gives (take n r.parts) ++ scope_at p q

  has-before : (q d : ℕ) → has (before q) d ≡ is_in (gives_before q) d
  has-before q d =
      has-append (names_of (take n r.parts)) (names_of_params p.params ++ names_of_items (items_of (take q p.lines))) d
      ∙ ap (λ t. t || has (names_of_params p.params ++ names_of_items (items_of (take q p.lines))) d) (has-parts (take n r.parts) d)
      ∙ ap (λ t. is_in (flat_map part_gives (take n r.parts)) d || t)
      (has-append (names_of_params p.params) (names_of_items (items_of (take q p.lines))) d
      ∙ ap (λ t. t || has (names_of_items (items_of (take q p.lines))) d) (has-params p.params d)
      ∙ ap (λ t. is_in (param_gives p) d || t) (has-items (items_of (take q p.lines)) d)
      ∙ sym (in-append (param_gives p) (flat_map item_gives (items_of (take q p.lines))) d))
      ∙ sym (in-append (flat_map part_gives (take n r.parts)) (scope_at p q) d)

  -- what is in scope at a line has a name before it
  pub scope-early : (q d : ℕ) → is_in (scope_at p q) d ≡ true → (words r).name_of d < length (before q)
  scope-early q d h =
      let lines = any-rest p.lines q in
      let c = names-by (items_of (take q p.lines)) (items_of lines.0) (ap items_of lines.1 ∙ items-append (take q p.lines) lines.0) in
      let k = has-before q d ∙ in-append (flat_map part_gives (take n r.parts)) (scope_at p q) d ∙ ap (λ t. is_in (flat_map part_gives (take n r.parts)) d || t) h ∙ or-true (is_in (flat_map part_gives (take n r.parts)) d) in
      subst (λ l. name_in l d < length (before q)) (sym c.1) (name-early (before q) (names_of_items (items_of lines.0) ++ c.0) d k)
    where
      or-true : (b : Bool) → (b || true) ≡ true
      or-true true = refl
      or-true false = refl

  -- there is a name for each that an item defines
  pub names-enough : (q : ℕ) (x : Item) → slice_get p.lines q ≡ Some (line.Item x) → length (before q) + length (names_of_item x) ≤ length (names_of r.parts)
  names-enough q x h =
      let xs = cut-items p.lines q x h in
      let c = names-by (items_of (take q p.lines)) (x ∷ xs.0) xs.1 in
      let a = ap length c.1 in
      let b = length-append (before q) ((names_of_item x ++ names_of_items xs.0) ++ c.0) in
      let d = length-append (names_of_item x ++ names_of_items xs.0) c.0 in
      let e = length-append (names_of_item x) (names_of_items xs.0) in
      omega (arith, a, b, d, e)

  -- and for each parameter
  pub params-enough : names_before r n + length p.params ≤ length (names_of r.parts)
  params-enough =
      let c = names-by [] (items_of p.lines) refl in
      let a = ap length c.1 in
      let b = length-append (names_of (take n r.parts) ++ (names_of_params p.params ++ [])) (names_of_items (items_of p.lines) ++ c.0) in
      let d = length-append (names_of (take n r.parts)) (names_of_params p.params ++ []) in
      let e = length-append (names_of_params p.params) [] in
      let g = params-length p.params in
      omega (arith, a, b, d, e, g)

  -- and for all that the part's items define
  pub part-enough : names_before r n + length p.params + length (names_of_items (items_of p.lines)) ≤ length (names_of r.parts)
  part-enough =
      let c = names-by (items_of p.lines) [] (sym (append-nil (items_of p.lines))) in
      let a = ap length c.1 in
      let b = length-append (names_of (take n r.parts) ++ (names_of_params p.params ++ names_of_items (items_of p.lines))) ([] ++ c.0) in
      let d = length-append (names_of (take n r.parts)) (names_of_params p.params ++ names_of_items (items_of p.lines)) in
      let e = length-append (names_of_params p.params) (names_of_items (items_of p.lines)) in
      let g = params-length p.params in
      omega (arith, a, b, d, e, g)

  module _ (distinct : all_differ (λ x y. x.0 == y.0) (gives_of r) ≡ true) where
    -- what an item gives is new, and has its last name
    pub item-named : (q : ℕ) (x : Item) (g : ℕ × Width) → slice_get p.lines q ≡ Some (line.Item x) → item_gives x ≡ g ∷ [] → (words r).name_of g.0 ≡ last_name (length (before q)) x
    item-named q x g h i =
        let xs = cut-items p.lines q x h in
        let c = names-by (items_of (take q p.lines)) (x ∷ xs.0) xs.1 in
        let e = gives-by (items_of (take q p.lines)) (x ∷ xs.0) xs.1 in
        let later = ap (λ l. is_in ((l ++ flat_map item_gives xs.0) ++ e.0) g.0) i ∙ ap (λ t. t || is_in ([] ++ flat_map item_gives xs.0 ++ e.0) g.0) (same-itself g.0) in
        let new = has-before q g.0 ∙ apart (gives_before q) ((item_gives x ++ flat_map item_gives xs.0) ++ e.0) g.0 (subst (λ l. all_differ (λ x y. x.0 == y.0) l ≡ true) e.1 distinct) later in
        ap (λ l. name_in l g.0) (c.1 ∙ ap (λ l. before q ++ l) (append_assoc (names_of_item x) (names_of_items xs.0) c.0))
        ∙ item-name (before q) x (names_of_items xs.0 ++ c.0) g i new

    -- the parameters of the part have the names that follow those of the parts before it
    pub part-params-named : (d : ℕ) → is_in (param_gives p) d ≡ true → Named p.params (names_of r.parts) (names_before r n) d
    part-params-named d h =
        let c = names-by [] (items_of p.lines) refl in
        let e = gives-by [] (items_of p.lines) refl in
        let front : is_in (param_gives p ++ (flat_map item_gives (items_of p.lines) ++ e.0)) d ≡ true = in-front (param_gives p) (flat_map item_gives (items_of p.lines) ++ e.0) d h in
        let again : gives_of r ≡ flat_map part_gives (take n r.parts) ++ (param_gives p ++ (flat_map item_gives (items_of p.lines) ++ e.0)) =
        e.1 ∙ append_assoc (flat_map part_gives (take n r.parts)) (param_gives p ++ []) (flat_map item_gives (items_of p.lines) ++ e.0) ∙ ap (λ l. flat_map part_gives (take n r.parts) ++ (l ++ (flat_map item_gives (items_of p.lines) ++ e.0))) (append-nil (param_gives p)) in
        let new = has-parts (take n r.parts) d ∙ apart (flat_map part_gives (take n r.parts)) (param_gives p ++ (flat_map item_gives (items_of p.lines) ++ e.0)) d (subst (λ l. all_differ (λ x y. x.0 == y.0) l ≡ true) again distinct) front in
        let names : names_of r.parts ≡ names_of (take n r.parts) ++ (names_of_params p.params ++ (names_of_items (items_of p.lines) ++ c.0)) =
        c.1 ∙ append_assoc (names_of (take n r.parts)) (names_of_params p.params ++ []) (names_of_items (items_of p.lines) ++ c.0) ∙ ap (λ l. names_of (take n r.parts) ++ (l ++ (names_of_items (items_of p.lines) ++ c.0))) (append-nil (names_of_params p.params)) in
        subst (λ l. Named p.params l (names_before r n) d) (sym names) (params-named (names_of (take n r.parts)) p.params (names_of_items (items_of p.lines) ++ c.0) d new h)
