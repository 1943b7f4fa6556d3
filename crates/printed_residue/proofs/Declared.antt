-- Each function that an item calls is declared in the printed module, with its class.
use Rattle.std.proofs.Common.{◌≡◌, ℕ, zero, suc, ◌+◌, Bool, true, false, not, Option, None, Some, List, [], ◌∷◌, ◌++◌, length, map, take, refl, sym, ap, ◌∙◌, subst, arith, option_map}
use Rattle.std.proofs.lemmas.Bool.{and_parts}
use Rattle.std.proofs.lemmas.Grind.{flat_map-append}
use Rattle.std.proofs.lemmas.List.Elements.{All-cons, All-nil}
use Rattle.std.proofs.lemmas.List.Sums.{sum_by-cons}
use Rattle.std.proofs.lemmas.Option.{slice_get-map}
use Rattle.std.specs.Cmp.{unsigned_Decides}
use Rattle.std.specs.Cmp.Lexicographic.{pointwise_decides}
use Rattle.std.specs.List.{All, list_all, starts_with}
use Rattle.std.specs.Prelude.{◌||◌, ⊤, count_by, if◌then◌else◌, flat_map, nat_eq, slice_get, cond}
use Rattle.ir_module.specs.Classes.{class_of_function}
use Rattle.ir_values.specs.declared.class.Class.{Class}
use Rattle.ir_values.specs.declared.class.Class.TheVariants as class
use Rattle.ir_values.specs.declared.int.Width.{Width}
use Rattle.ir_values.specs.declared.int.Width.TheVariants.{W1, W64}
use Rattle.ir_values.specs.declared.ty.Ty.{Ty}
use Rattle.ir_values.specs.declared.ty.Ty.TheVariants as ty
use Rattle.ir_values.specs.declared.value.Value.{Value}
use Rattle.ir_values.specs.declared.value.Value.TheVariants as value
use Rattle.ir_values.specs.Calls.{class_of, same_text}
use Rattle.ir_values.specs.ClassTypes.{HasTypes, is_result_type}
use Rattle.ir_values.specs.Names.{instruction_prefix}
use Rattle.ir_values.specs.Types.{IsTy, signature}
use Rattle.ir_values.proofs.ClassLemmas.{class-tells}
use Rattle.ir_values.proofs.TypeLemmas.{signature-tells}
use Rattle.ir_values.proofs.WordLemmas.{same_words_decides}
use Rattle.kept_items.specs.declared.item.Item.{Item}
use Rattle.kept_items.specs.declared.item.Item.TheVariants as item
use Rattle.kept_items.specs.declared.target.Target.{Target}
use Rattle.kept_items.specs.declared.val.Val.{Val}
use Rattle.kept_items.specs.declared.val.Val.TheVariants.{Known, Dynamic}
use Rattle.residue.specs.declared.parts.Residue.{Residue}
use Rattle.residue.specs.Functions.{Called, all_items, called, calls_of, calls_of_residue, declaration, declared_of, first_uses, initialize, is_among, is_constant, parameters, place_among, read_name, read_result, reading, record_name, types_of}
use Rattle.residue.specs.Printed.{printed, words}
use Rattle.residue.specs.Scopes.{gives_of, item_uses}
use Rattle.residue.specs.Valid.{all_alike, calls_alike, is_instruction, is_operation, operation_known, output_known, recorded_type, same_types, takes_types, val_has}
use Rattle.printed_residue.proofs.Calls.{Declares, measures, op_class}
use Rattle.printed_residue.proofs.Facts.{cut, passes-here}
use Rattle.printed_residue.proofs.Running.{ReadDeclared}

clash : true ≡ false → ⊥
clash e = cc

same-names : (a b : List ℕ) → same_text a b ≡ true → a ≡ b
same-names a b e = (pointwise_decides unsigned_Decides a b).0 e

itself : (a : List ℕ) → same_text a a ≡ true
itself a = (pointwise_decides unsigned_Decides a a).1 refl

turned : (a b : List ℕ) → same_text a b ≡ true → same_text b a ≡ true
turned a b e = ap (λ z. same_text z a) (sym (same-names a b e)) ∙ itself a

-- ---- what is called is regular: its name tells what it returns, and its types are whole

abbrev ret_of : List ℕ → Ty
ret_of name = if same_text name read_name then ty.Int W1 else ty.Void

pub record Regular (c : Called) : Type 0 where
  pub ret : c.ret ≡ ret_of c.name
  pub whole : All IsTy c.params

abbrev pub AllRegular : List Called → Type 0
AllRegular [] = ⊤
AllRegular (c ∷ cs) = Regular c × AllRegular cs

regular-append : (a b : List Called) → AllRegular a → AllRegular b → AllRegular (a ++ b)
regular-append [] b h k = k
regular-append (c ∷ a) b h k = (h.0, regular-append a b h.1 k)

regular-read : Regular read_result
regular-read = record { ret = refl; whole = All-cons IsTy ty.Res [] refl (All-nil IsTy) }

regular-reading : (v : Value) → AllRegular (reading v)
regular-reading v = by (is_constant v)
  where
    by : (b : Bool) → AllRegular (if b then [] else (read_result ∷ []))
    by true = tt
    by false = (regular-read, tt)

module _ (widths : List (ℕ × Width)) where
  abbrev pub fits : Ty × Val → Bool
  fits a = val_has widths a.0 a.1

  whole-type : (t : Ty) (a : Val) → val_has widths t a ≡ true → IsTy t
  whole-type ty.Void a h = refl
  whole-type (ty.Int w) a h = refl
  whole-type ty.Double a h = refl
  whole-type ty.Qubit a h = refl
  whole-type ty.Res a h = refl
  whole-type ty.Text a h = refl
  whole-type (ty.Func ws) (Known v) h = cc
  whole-type (ty.Func ws) (Dynamic d) h = cc

  pub whole-types : (args : List (Ty × Val)) → list_all fits args ≡ true → All IsTy (types_of args)
  whole-types [] h = All-nil IsTy
  whole-types (a ∷ args) h =
      let p = and_parts (fits a) (list_all fits args) h in
      All-cons IsTy a.0 (types_of args) (whole-type a.0 a.1 p.0) (whole-types args p.1)

  -- no quantum instruction has the name of the reading function
  not-reading : (name : List ℕ) → starts_with nat_eq name instruction_prefix ≡ true → same_text name read_name ≡ false
  not-reading name h = by (same_text name read_name) refl
    where
      by : (b : Bool) → same_text name read_name ≡ b → b ≡ false
      by false e = refl
      by true e = absurd (clash (sym h ∙ ap (λ n. starts_with nat_eq n instruction_prefix) (same-names name read_name e)))

  abbrev KnownRecord : Class → Type 0
  KnownRecord c = ret_of (record_name c) ≡ ty.Void

  record-void : (c : Class) (ts : List Ty) → takes_types (recorded_type c) ts ≡ true → KnownRecord c
  record-void class.Tuple ts h = refl
  record-void class.Array ts h = refl
  record-void class.ResRecord ts h = refl
  record-void class.BoolRecord ts h = refl
  record-void class.IntRecord ts h = refl
  record-void class.DoubleRecord ts h = refl
  record-void c ts h = cc

  pub regular-calls : (x : Item) → is_instruction x ≡ true → output_known x ≡ true → list_all fits (item_uses x) ≡ true → AllRegular (calls_of x)
  regular-calls (item.Binary d op flags w a b) i o t = tt
  regular-calls (item.Icmp d pred w a b) i o t = tt
  regular-calls (item.Convert d conv w a to) i o t = tt
  regular-calls (item.Select d w c a b) i o t = tt
  regular-calls (item.Read d v) i o t = (regular-read, tt)
  regular-calls (item.Equal d v u) i o t = regular-append (reading v) (reading u) (regular-reading v) (regular-reading u)
  regular-calls (item.Operation name args) i o t =
      (record { ret = sym (ap (λ b. if b then ty.Int W1 else ty.Void) (not-reading name i)); whole = whole-types args t }, tt)
  regular-calls (item.Output c args) i o t = (record { ret = sym (record-void c (types_of args) o); whole = whole-types args t }, tt)

  pub all-regular : (xs : List Item) → list_all is_instruction xs ≡ true → list_all output_known xs ≡ true → list_all (λ x. list_all fits (item_uses x)) xs ≡ true → AllRegular (flat_map calls_of xs)
  all-regular [] i o t = tt
  all-regular (x ∷ xs) i o t =
      let p = and_parts (is_instruction x) (list_all is_instruction xs) i in
      let q = and_parts (output_known x) (list_all output_known xs) o in
      let s = and_parts (list_all fits (item_uses x)) (list_all (λ x. list_all fits (item_uses x)) xs) t in
      regular-append (calls_of x) (flat_map calls_of xs) (regular-calls x p.0 q.0 s.0) (all-regular xs p.1 q.1 s.1)

-- ---- calls of one name are one

abbrev pub AllSame : Called → List Called → Type 0
AllSame c [] = ⊤
AllSame c (x ∷ xs) = (same_text c.name x.name ≡ true → x ≡ c) × AllSame c xs

one-call : (c d : Called) → Regular c → Regular d → calls_alike c d ≡ true → same_text c.name d.name ≡ true → c ≡ d
one-call c d rc rd h e =
    let n = same-names c.name d.name e in
    let ps = params-alike (same_text c.name d.name) e h in
    let p = signature-tells ty.Void ty.Void c.params d.params refl refl rc.whole rd.whole ((same_words_decides (signature ty.Void c.params) (signature ty.Void d.params)).0 ps) in
    ap (λ z. called z c.ret c.params) n
    ∙ ap (λ z. called d.name z c.params) (rc.ret ∙ ap ret_of n ∙ sym rd.ret)
    ∙ ap (λ z. called d.name d.ret z) p.1
  where
    params-alike : (b : Bool) → b ≡ true → (not b || same_types c.params d.params) ≡ true → same_types c.params d.params ≡ true
    params-alike true e h = h
    params-alike false e h = cc

pub all-same : (cs : List Called) (i : ℕ) (c : Called) → all_alike cs ≡ true → AllRegular cs → slice_get cs i ≡ Some c → AllSame c cs
all-same [] i c h g s = tt
all-same (x ∷ cs) zero c h g s =
    let z : x ≡ c = cc in
    let p = and_parts (list_all (calls_alike x) cs) (all_alike cs) h in
    subst (λ y. AllSame y (x ∷ cs)) z (λ e. refl, each cs p.0 g.1)
  where
    each : (ys : List Called) → list_all (calls_alike x) ys ≡ true → AllRegular ys → AllSame x ys
    each [] h k = tt
    each (y ∷ ys) h k =
        let p = and_parts (calls_alike x y) (list_all (calls_alike x) ys) h in
        (λ e. sym (one-call x y g.0 k.0 p.0 e), each ys p.1 k.1)
all-same (x ∷ cs) (suc i) c h g s =
    let p = and_parts (list_all (calls_alike x) cs) (all_alike cs) h in
    (λ e. one-call x c g.0 (at cs i g.1 s) (passes-here (calls_alike x) cs i c p.0 s) (turned c.name x.name e), all-same cs i c p.1 g.1 s)
  where
    at : (ys : List Called) (i : ℕ) → AllRegular ys → slice_get ys i ≡ Some c → Regular c
    at [] i k s = cc
    at (y ∷ ys) zero k s = let z : y ≡ c = cc in subst Regular z k.0
    at (y ∷ ys) (suc i) k s = at ys i k.1 s

same-append : (c : Called) (a b : List Called) → AllSame c a → AllSame c b → AllSame c (a ++ b)
same-append c [] b h k = k
same-append c (x ∷ a) b h k = (h.0, same-append c a b h.1 k)

-- ---- the first call of a name is found under its number

abbrev pub Finds : List Called → Called → Type 0
Finds cs c = slice_get cs (place_among cs c.name) ≡ Some c

finds-among : (cs : List Called) (c : Called) → AllSame c cs → is_among cs c.name ≡ true → Finds cs c
finds-among [] c h a = cc
finds-among (x ∷ cs) c h a = by (same_text c.name x.name) refl a (λ k. finds-among cs c h.1 k)
  where
    by : (b : Bool) → same_text c.name x.name ≡ b → (b || is_among cs c.name) ≡ true → (is_among cs c.name ≡ true → Finds cs c) → slice_get (x ∷ cs) (if b then 0 else suc (place_among cs c.name)) ≡ Some c
    by true e a ih = ap Some (h.0 e)
    by false e a ih = ih a

finds-front : (cs more : List Called) (c : Called) → Finds cs c → Finds (cs ++ more) c
finds-front [] more c h = cc
finds-front (x ∷ cs) more c h = by (same_text c.name x.name) (λ g. finds-front cs more c g) h
  where
    by : (b : Bool) → (Finds cs c → Finds (cs ++ more) c) → slice_get (x ∷ cs) (if b then 0 else suc (place_among cs c.name)) ≡ Some c → slice_get (x ∷ (cs ++ more)) (if b then 0 else suc (place_among (cs ++ more) c.name)) ≡ Some c
    by true ih h = h
    by false ih h = ih h

finds-last : (cs : List Called) (c : Called) → is_among cs c.name ≡ false → Finds (cs ++ c ∷ []) c
finds-last [] c h = ap (λ b. slice_get (c ∷ []) (if b then 0 else 1)) (itself c.name)
finds-last (x ∷ cs) c h = by (same_text c.name x.name) h (λ k. finds-last cs c k)
  where
    by : (b : Bool) → (b || is_among cs c.name) ≡ false → (is_among cs c.name ≡ false → Finds (cs ++ c ∷ []) c) → slice_get (x ∷ (cs ++ c ∷ [])) (if b then 0 else suc (place_among (cs ++ c ∷ []) c.name)) ≡ Some c
    by true h ih = cc
    by false h ih = ih h

abbrev more : List Called → Called → List Called
more there y = if is_among there y.name then there else there ++ y ∷ []

finds-more : (there : List Called) (y c : Called) → Finds there c → Finds (more there y) c
finds-more there y c h = by (is_among there y.name)
  where
    by : (b : Bool) → Finds (if b then there else there ++ y ∷ []) c
    by true = h
    by false = finds-front there (y ∷ []) c h

finds-later : (cs there : List Called) (c : Called) → Finds there c → Finds (first_uses there cs) c
finds-later [] there c h = h
finds-later (y ∷ cs) there c h = finds-later cs (more there y) c (finds-more there y c h)

pub finds-first : (cs there : List Called) (i : ℕ) (c : Called) → slice_get cs i ≡ Some c → AllSame c there → AllSame c cs → Finds (first_uses there cs) c
finds-first [] there i c s h k = cc
finds-first (y ∷ cs) there zero c s h k =
    let z : y ≡ c = cc in
    subst (λ w. Finds (first_uses (more there w) cs) c) (sym z) (finds-later cs (more there c) c (by (is_among there c.name) refl))
  where
    by : (b : Bool) → is_among there c.name ≡ b → Finds (if b then there else there ++ c ∷ []) c
    by true e = finds-among there c h e
    by false e = finds-last there c e
finds-first (y ∷ cs) there (suc i) c s h k = finds-first cs (more there y) i c s (by (is_among there y.name)) k.1
  where
    by : (b : Bool) → AllSame c (if b then there else there ++ y ∷ [])
    by true = h
    by false = same-append c there (y ∷ []) h (k.0, tt)

-- ---- membership in a list that is made from pieces

module _ {A : Type 0} where
  abbrev pub Among : List A → A → Type 0
  Among xs x = (i : ℕ) × (slice_get xs i ≡ Some x)

  pub among-front : (a b : List A) (x : A) → Among a x → Among (a ++ b) x
  among-front a b x h = (h.0, front a h.0 h.1)
    where
      front : (a : List A) (i : ℕ) → slice_get a i ≡ Some x → slice_get (a ++ b) i ≡ Some x
      front [] i s = cc
      front (y ∷ a) zero s = s
      front (y ∷ a) (suc i) s = front a i s

  pub among-back : (a b : List A) (x : A) → Among b x → Among (a ++ b) x
  among-back [] b x h = h
  among-back (y ∷ a) b x h = let r = among-back a b x h in (suc r.0, r.1)

  pub among-piece : {B : Type 0} (f : B → List A) (ys : List B) (i : ℕ) (y : B) (x : A) → slice_get ys i ≡ Some y → Among (f y) x → Among (flat_map f ys) x
  among-piece f ys i y x s h =
      let c = cut ys i y s in
      subst (λ l. Among l x) (sym (ap (flat_map f) c.1 ∙ flat_map-append f (take i ys) (y ∷ c.0)))
      (among-back (flat_map f (take i ys)) (f y ++ flat_map f c.0) x (among-front (f y) (flat_map f c.0) x h))

-- ---- the declaration of what is called

pub declared-types : (n : ℕ) (ts : List Ty) → map (λ l. l.1) (take (length ts) (parameters n ts)) ≡ ts
declared-types n [] = refl
declared-types n (t ∷ ts) = ap (λ l. t ∷ l) (declared-types (suc n) ts)

pub declared-class : (irreversible : List (List ℕ)) (c : Called) → class_of_function (declaration irreversible c) ≡ class_of c.name (signature c.ret c.params)
declared-class irreversible c = ap (λ ts. class_of c.name (signature c.ret ts)) (declared-types 0 c.params)

module _ (r : Residue) (t : Target) where
  declares : (c : Called) (cl : Class) → Finds (declared_of r) c → class_of c.name (signature c.ret c.params) ≡ Some cl → Declares (printed r t) ((words r).function c.name) c.name cl
  declares c cl h e = record {
    function = declaration r.irreversible c;
    is = slice_get-map (declaration r.irreversible) (declared_of r) (place_among (declared_of r) c.name) ∙ ap (option_map (declaration r.irreversible)) h;
    no_body = refl;
    named = refl;
    class = declared-class r.irreversible c ∙ e;
  }

  module _ (instructions : list_all is_instruction (all_items r) ≡ true) (alike : all_alike (calls_of_residue r) ≡ true) (outputs : list_all output_known (all_items r) ≡ true) (typed : list_all (λ x. list_all (fits (gives_of r)) (item_uses x)) (all_items r) ≡ true) where
    regular : AllRegular (calls_of_residue r)
    regular = all-regular (gives_of r) (all_items r) instructions outputs typed

    -- initialize is called by no item
    not-initialize : (x : Item) (c : Called) → is_instruction x ≡ true → output_known x ≡ true → Among (calls_of x) c → AllSame c (initialize ∷ [])
    not-initialize x c i o a = (λ e. absurd (clash (sym e ∙ other x i o a)), tt)
      where
        read-one : Among (read_result ∷ []) c → same_text c.name initialize.name ≡ false
        read-one (zero, s) = let z : read_result ≡ c = cc in ap (λ d. same_text d.name initialize.name) (sym z)
        read-one (suc n, s) = cc

        read-side : (v : Value) → Among (reading v) c → same_text c.name initialize.name ≡ false
        read-side v h = by (is_constant v) h
          where
            by : (b : Bool) → Among (if b then [] else (read_result ∷ [])) c → same_text c.name initialize.name ≡ false
            by true h = let s = h.1 in cc
            by false h = read-one h

        either : (a b : List Called) → Among (a ++ b) c → (Among a c → same_text c.name initialize.name ≡ false) → (Among b c → same_text c.name initialize.name ≡ false) → same_text c.name initialize.name ≡ false
        either [] b h f g = g h
        either (y ∷ a) b (zero, s) f g = f (zero, s)
        either (y ∷ a) b (suc n, s) f g = either a b (n, s) (λ k. f (suc k.0, k.1)) g

        operation-name : (name : List ℕ) → starts_with nat_eq name instruction_prefix ≡ true → same_text name initialize.name ≡ false
        operation-name name h = by (same_text name initialize.name) refl
          where
            by : (b : Bool) → same_text name initialize.name ≡ b → b ≡ false
            by false e = refl
            by true e = absurd (clash (sym h ∙ ap (λ n. starts_with nat_eq n instruction_prefix) (same-names name initialize.name e)))

        record-named : (k : Class) (ts : List Ty) → takes_types (recorded_type k) ts ≡ true → same_text (record_name k) initialize.name ≡ false
        record-named class.Tuple ts h = refl
        record-named class.Array ts h = refl
        record-named class.ResRecord ts h = refl
        record-named class.BoolRecord ts h = refl
        record-named class.IntRecord ts h = refl
        record-named class.DoubleRecord ts h = refl
        record-named k ts h = cc

        single : (d : Called) → Among (d ∷ []) c → same_text d.name initialize.name ≡ false → same_text c.name initialize.name ≡ false
        single d (zero, s) e = let z : d ≡ c = cc in ap (λ w. same_text w.name initialize.name) (sym z) ∙ e
        single d (suc n, s) e = cc

        other : (x : Item) → is_instruction x ≡ true → output_known x ≡ true → Among (calls_of x) c → same_text c.name initialize.name ≡ false
        other (item.Binary d op flags w a b) i o h = let s = h.1 in cc
        other (item.Icmp d pred w a b) i o h = let s = h.1 in cc
        other (item.Convert d conv w a to) i o h = let s = h.1 in cc
        other (item.Select d w k a b) i o h = let s = h.1 in cc
        other (item.Read d v) i o h = read-one h
        other (item.Equal d v u) i o h = either (reading v) (reading u) h (read-side v) (read-side u)
        other (item.Operation name args) i o h = single (called name ty.Void (types_of args)) h (operation-name name i)
        other (item.Output k args) i o h = single (called (record_name k) ty.Void (types_of args)) h (record-named k (types_of args) o)

    -- what item number i calls is found under its number, and so declared with its class
    pub call-finds : (i : ℕ) (x : Item) (c : Called) → slice_get (all_items r) i ≡ Some x → Among (calls_of x) c → Finds (declared_of r) c
    call-finds i x c s a =
        let m = among-piece calls_of (all_items r) i x c s a in
        finds-first (calls_of_residue r) (initialize ∷ []) m.0 c m.1 (not-initialize x c (passes-here is_instruction (all_items r) i x instructions s) (passes-here output_known (all_items r) i x outputs s) a) (all-same (calls_of_residue r) m.0 c alike regular m.1)

    call-declared : (i : ℕ) (x : Item) (c : Called) (cl : Class) → slice_get (all_items r) i ≡ Some x → Among (calls_of x) c → class_of c.name (signature c.ret c.params) ≡ Some cl → Declares (printed r t) ((words r).function c.name) c.name cl
    call-declared i x c cl s a e = declares c cl (call-finds i x c s a) e

    reads-bits : class_of read_name (signature (ty.Int W1) (ty.Res ∷ [])) ≡ Some class.Read
    unfolding class_of
    reads-bits = refl

    pub read-declared : (i : ℕ) (d : _) (v : Value) → slice_get (all_items r) i ≡ Some (item.Read d v) → Declares (printed r t) ((words r).function read_name) read_name class.Read
    read-declared i d v s = call-declared i (item.Read d v) read_result class.Read s (0, refl) reads-bits

    side-declared : (i : ℕ) (x : Item) (v : Value) → slice_get (all_items r) i ≡ Some x → (Among (reading v) read_result → Among (calls_of x) read_result) → ReadDeclared (printed r t) (words r) v
    side-declared i x value.One s f = tt
    side-declared i x value.Zero s f = tt
    side-declared i x (value.Int n) s f = call-declared i x read_result class.Read s (f (0, refl)) reads-bits
    side-declared i x (value.Double n) s f = call-declared i x read_result class.Read s (f (0, refl)) reads-bits
    side-declared i x (value.Id n) s f = call-declared i x read_result class.Read s (f (0, refl)) reads-bits
    side-declared i x (value.Alloc n) s f = call-declared i x read_result class.Read s (f (0, refl)) reads-bits
    side-declared i x (value.Measured n) s f = call-declared i x read_result class.Read s (f (0, refl)) reads-bits
    side-declared i x (value.Label n) s f = call-declared i x read_result class.Read s (f (0, refl)) reads-bits
    side-declared i x value.NoLabel s f = call-declared i x read_result class.Read s (f (0, refl)) reads-bits
    side-declared i x (value.Func n) s f = call-declared i x read_result class.Read s (f (0, refl)) reads-bits

    pub equal-declared : (i : ℕ) (d : _) (v u : Value) → slice_get (all_items r) i ≡ Some (item.Equal d v u) → ReadDeclared (printed r t) (words r) v × ReadDeclared (printed r t) (words r) u
    equal-declared i d v u s =
        (side-declared i (item.Equal d v u) v s (λ a. among-front (reading v) (reading u) read_result a), side-declared i (item.Equal d v u) u s (λ a. among-back (reading v) (reading u) read_result a))

    -- the class of an operation tells whether it has a result among its arguments
    none-measured : (args : List (Ty × Val)) → count_by is_result_type (types_of args) ≡ 0 → measures args ≡ false
    none-measured [] h = refl
    none-measured (a ∷ args) h =
        let e = sum_by-cons (λ t. cond (is_result_type t) 1 0) a.0 (types_of args) in by (is_result_type a.0) (λ g. none-measured args g) (sym e ∙ h)
      where
        by : (b : Bool) → (count_by is_result_type (types_of args) ≡ 0 → measures args ≡ false) → cond b 1 0 + count_by is_result_type (types_of args) ≡ 0 → (b || measures args) ≡ false
        by true ih h = absurd (omega (arith, h))
        by false ih h = ih (omega (arith, h))

    one-measured : (args : List (Ty × Val)) → count_by is_result_type (types_of args) ≡ 1 → measures args ≡ true
    one-measured [] h = let e : 0 ≡ 1 = h in absurd (omega (arith, e))
    one-measured (a ∷ args) h =
        let e = sum_by-cons (λ t. cond (is_result_type t) 1 0) a.0 (types_of args) in by (is_result_type a.0) (λ g. one-measured args g) (sym e ∙ h)
      where
        by : (b : Bool) → (count_by is_result_type (types_of args) ≡ 1 → measures args ≡ true) → cond b 1 0 + count_by is_result_type (types_of args) ≡ 1 → (b || measures args) ≡ true
        by true ih h = refl
        by false ih h = ih (omega (arith, h))

    class-measures : (args : List (Ty × Val)) (o : Option Class) → is_operation o ≡ true → ((cl : Class) → o ≡ Some cl → HasTypes cl ty.Void (types_of args)) → o ≡ Some (op_class (measures args))
    class-measures args None h f = cc
    class-measures args (Some class.Gate) h f = let g = f class.Gate refl in ap (λ b. Some (op_class b)) (sym (none-measured args g.2))
    class-measures args (Some class.Measure) h f = let g = f class.Measure refl in ap (λ b. Some (op_class b)) (sym (one-measured args g.2))
    class-measures args (Some cl) h f = cc

    pub operation-declared : (i : ℕ) (name : List ℕ) (args : List (Ty × Val)) → slice_get (all_items r) i ≡ Some (item.Operation name args) → list_all operation_known (all_items r) ≡ true → Declares (printed r t) ((words r).function name) name (op_class (measures args))
    operation-declared i name args s k =
        let whole = whole-types (gives_of r) args (passes-here (λ x. list_all (fits (gives_of r)) (item_uses x)) (all_items r) i (item.Operation name args) typed s) in
        call-declared i (item.Operation name args) (called name ty.Void (types_of args)) (op_class (measures args)) s (0, refl)
        (class-measures args (class_of name (signature ty.Void (types_of args))) (passes-here operation_known (all_items r) i (item.Operation name args) k s) (λ cl e. class-tells ty.Void (types_of args) refl whole name cl e))

    -- the types of a record are those of its class
    record-types : (args : List (Ty × Val)) (u : Ty) → IsTy u → All IsTy (types_of args) → same_types (types_of args) (u ∷ ty.Text ∷ []) ≡ true → types_of args ≡ u ∷ ty.Text ∷ []
    record-types args u i whole h =
        (signature-tells ty.Void ty.Void (types_of args) (u ∷ ty.Text ∷ []) refl refl whole (All-cons IsTy u (ty.Text ∷ []) i (All-cons IsTy ty.Text [] refl (All-nil IsTy))) ((same_words_decides (signature ty.Void (types_of args)) (signature ty.Void (u ∷ ty.Text ∷ []))).0 h)).1

    record-class : (k : Class) (ts : List Ty) → takes_types (recorded_type k) ts ≡ true → ((u : Ty) → IsTy u → same_types ts (u ∷ ty.Text ∷ []) ≡ true → ts ≡ u ∷ ty.Text ∷ []) → class_of (record_name k) (signature ty.Void ts) ≡ Some k
    unfolding class_of
    record-class class.Tuple ts h f = ap (λ l. class_of (record_name class.Tuple) (signature ty.Void l)) (f (ty.Int W64) refl h)
    record-class class.Array ts h f = ap (λ l. class_of (record_name class.Array) (signature ty.Void l)) (f (ty.Int W64) refl h)
    record-class class.ResRecord ts h f = ap (λ l. class_of (record_name class.ResRecord) (signature ty.Void l)) (f ty.Res refl h)
    record-class class.BoolRecord ts h f = ap (λ l. class_of (record_name class.BoolRecord) (signature ty.Void l)) (f (ty.Int W1) refl h)
    record-class class.IntRecord ts h f = ap (λ l. class_of (record_name class.IntRecord) (signature ty.Void l)) (f (ty.Int W64) refl h)
    record-class class.DoubleRecord ts h f = ap (λ l. class_of (record_name class.DoubleRecord) (signature ty.Void l)) (f ty.Double refl h)
    record-class k ts h f = cc

    pub output-declared : (i : ℕ) (k : Class) (args : List (Ty × Val)) → slice_get (all_items r) i ≡ Some (item.Output k args) → Declares (printed r t) ((words r).function (record_name k)) (record_name k) k
    output-declared i k args s =
        let whole = whole-types (gives_of r) args (passes-here (λ x. list_all (fits (gives_of r)) (item_uses x)) (all_items r) i (item.Output k args) typed s) in
        call-declared i (item.Output k args) (called (record_name k) ty.Void (types_of args)) k s (0, refl)
        (record-class k (types_of args) (passes-here output_known (all_items r) i (item.Output k args) outputs s) (λ u i h. record-types args u i whole h))

    -- a recorded result stands first
    pub output-types : (i : ℕ) (args : List (Ty × Val)) → slice_get (all_items r) i ≡ Some (item.Output class.ResRecord args) → types_of args ≡ ty.Res ∷ ty.Text ∷ []
    output-types i args s =
        let whole = whole-types (gives_of r) args (passes-here (λ x. list_all (fits (gives_of r)) (item_uses x)) (all_items r) i (item.Output class.ResRecord args) typed s) in
        record-types args ty.Res refl whole (passes-here output_known (all_items r) i (item.Output class.ResRecord args) outputs s)
