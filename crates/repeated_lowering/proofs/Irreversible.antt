-- The operations that can't be undone are those of the printed module again.
use Rattle.std.proofs.Common.{◌≡◌, ℕ, zero, suc, Bool, true, false, not, ◌&&◌, None, Some, List, [], ◌∷◌, ◌++◌, map, take, length, refl, sym, ap, ◌∙◌}
use Rattle.std.proofs.lemmas.Bool.{and_parts}
use Rattle.std.proofs.lemmas.List.Folds.{list_any-append}
use Rattle.std.specs.Cmp.{unsigned_Decides}
use Rattle.std.specs.Cmp.Lexicographic.{pointwise, pointwise_decides}
use Rattle.std.specs.List.{list_all, list_any, starts_with}
use Rattle.std.specs.Option.{option_map}
use Rattle.std.specs.Prelude.{⊤, ◌||◌, codes, find, flat_map, if◌then◌else◌, nat_eq, slice_get}
use Rattle.ir_module.specs.declared.tree.Function.{Function}
use Rattle.ir_module.specs.Classes.{class_of_function, type_words}
use Rattle.ir_module.specs.Numbered.{are_distinct}
use Rattle.ir_values.specs.declared.name.Name.TheVariants as name
use Rattle.ir_values.specs.declared.sig.TyWord.{TyWord}
use Rattle.ir_values.specs.declared.class.Class.{Class}
use Rattle.ir_values.specs.declared.class.Class.TheVariants as class
use Rattle.ir_values.specs.declared.ty.Ty.{Ty}
use Rattle.ir_values.specs.declared.ty.Ty.TheVariants as ty
use Rattle.ir_values.specs.Calls.{Row, class_of, class_of_unknown, class_of_words, rows, same_text, same_words}
use Rattle.ir_values.specs.Names.{instruction_prefix, name_text, quantum_prefix}
use Rattle.ir_values.specs.Types.{signature}
use Rattle.kept_items.specs.declared.item.Item.{Item}
use Rattle.kept_items.specs.declared.item.Item.TheVariants as item
use Rattle.kept_items.specs.declared.target.Target.TheVariants.{Base}
use Rattle.kept_items.specs.declared.val.Val.{Val}
use Rattle.lowered_program.specs.Residues.{irreversible_as, irreversible_of}
use Rattle.profile_rules.specs.Calls.{is_measure, passes}
use Rattle.residue.specs.declared.parts.Residue.{Residue}
use Rattle.residue.specs.Functions.{Called, all_items, called, calls_of, calls_of_residue, declaration, declared_of, first_uses, initialize, irreversible_attrs, is_among, is_named, parameters, record_name, types_of}
use Rattle.residue.specs.Printed.{printed, printed_entry}
use Rattle.residue.specs.Valid.{Valid, all_known, base_permits, is_base_record, is_own_name, own_names}
use Rattle.printed_residue.proofs.Calls.{measures, op_class}
use Rattle.printed_residue.proofs.Declared.{Among, declared-class}
use Rattle.printed_residue.proofs.Facts.{passes-here}
use Rattle.printed_residue.proofs.Lines.{item-declared}
use Rattle.numbered_residue.proofs.Shared.{both}
use Rattle.profiled_residue.specs.Premises.{FitsProfile, measurement_named}
use Rattle.profiled_residue.proofs.Called.{class-is, marked}
use Rattle.profiled_residue.proofs.CallRules.{base-permits}

-- ---- texts

pub same-names : (a b : List ℕ) → same_text a b ≡ true → a ≡ b
same-names a b e = (pointwise_decides unsigned_Decides a b).0 e

itself : (a : List ℕ) → same_text a a ≡ true
itself a = (pointwise_decides unsigned_Decides a a).1 refl

clash : true ≡ false → ⊥
clash e = cc

-- ---- names that don't begin as those of the runtime and of quantum instructions have no class

front-starts : (a b xs : List ℕ) → pointwise nat_eq (a ++ b) (take (length (a ++ b)) xs) ≡ true → pointwise nat_eq a (take (length a) xs) ≡ true
front-starts [] b [] h = refl
front-starts [] b (x ∷ xs) h = refl
front-starts (y ∷ a) b [] h = cc
front-starts (y ∷ a) b (x ∷ xs) h =
    let p = and_parts (nat_eq y x) (pointwise nat_eq (a ++ b) (take (length (a ++ b)) xs)) h in
    both (nat_eq y x) (pointwise nat_eq a (take (length a) xs)) p.0 (front-starts a b xs p.1)

instruction-quantum : (name : List ℕ) → starts_with nat_eq name instruction_prefix ≡ true → starts_with nat_eq name quantum_prefix ≡ true
instruction-quantum name h = front-starts quantum_prefix (codes "qis__") name h

rows-quantum : list_all (λ (r : Row). starts_with nat_eq r.name quantum_prefix) rows ≡ true
rows-quantum = refl

no-row : (name : List ℕ) → starts_with nat_eq name quantum_prefix ≡ false → (rs : List Row) → list_all (λ (r : Row). starts_with nat_eq r.name quantum_prefix) rs ≡ true → list_any (λ (r : Row). same_text name r.name) rs ≡ false
no-row name h [] g = refl
no-row name h (x ∷ rs) g =
    let p = and_parts (starts_with nat_eq x.name quantum_prefix) (list_all (λ (r : Row). starts_with nat_eq r.name quantum_prefix) rs) g in
    by (same_text name x.name) refl p.0 (no-row name h rs p.1)
  where
    by : (b : Bool) → same_text name x.name ≡ b → starts_with nat_eq x.name quantum_prefix ≡ true → list_any (λ (r : Row). same_text name r.name) rs ≡ false → (b || list_any (λ (r : Row). same_text name r.name) rs) ≡ false
    by true e q ih = absurd (clash (sym q ∙ ap (λ n. starts_with nat_eq n quantum_prefix) (sym (same-names name x.name e)) ∙ h))
    by false e q ih = ih

no-class : (name : List ℕ) (ws : List TyWord) → starts_with nat_eq name quantum_prefix ≡ false → class_of name ws ≡ None
unfolding class_of
no-class name ws h =
    ap (λ b. if b then option_map (λ (r : Row). r.class) (find (λ (r : Row). same_text name r.name && same_words ws r.words) rows) else class_of_unknown name ws) (no-row name h rows rows-quantum)
    ∙ by (starts_with nat_eq name instruction_prefix) refl
  where
    by : (b : Bool) → starts_with nat_eq name instruction_prefix ≡ b → (if b then class_of_words ws else None) ≡ None
    by true e = absurd (clash (sym (instruction-quantum name e) ∙ h))
    by false e = refl

initializes : class_of initialize.name (signature initialize.ret initialize.params) ≡ Some class.Init
unfolding class_of
initializes = refl

not-true : (b : Bool) → not b ≡ true → b ≡ false
not-true true h = cc
not-true false h = refl

-- ---- a list of names

-- names that don't begin as those of quantum instructions aren't among these
not-named : (names : List (List ℕ)) → list_all (λ n. starts_with nat_eq n instruction_prefix) names ≡ true → (n : List ℕ) → starts_with nat_eq n instruction_prefix ≡ false → is_named names n ≡ false
not-named [] h n g = refl
not-named (m ∷ names) h n g =
    let p = and_parts (starts_with nat_eq m instruction_prefix) (list_all (λ n. starts_with nat_eq n instruction_prefix) names) h in
    by (same_text n m) refl p.0 (not-named names p.1 n g)
  where
    by : (b : Bool) → same_text n m ≡ b → starts_with nat_eq m instruction_prefix ≡ true → is_named names n ≡ false → (b || is_named names n) ≡ false
    by true e q ih = absurd (clash (sym q ∙ ap (λ x. starts_with nat_eq x instruction_prefix) (sym (same-names n m e)) ∙ g))
    by false e q ih = ih

-- ---- what is said of all that is called is said of all that is declared

abbrev pub EachOf : (Called → Type 0) → List Called → Type 0
EachOf P [] = ⊤
EachOf P (c ∷ cs) = P c × EachOf P cs

each-both : (P : Called → Type 0) (xs ys : List Called) → EachOf P xs → EachOf P ys → EachOf P (xs ++ ys)
each-both P [] ys h g = g
each-both P (c ∷ xs) ys h g = (h.0, each-both P xs ys h.1 g)

each-used : (P : Called → Type 0) (cs there : List Called) → EachOf P there → EachOf P cs → EachOf P (first_uses there cs)
each-used P [] there h g = h
each-used P (c ∷ cs) there h g = each-used P cs (if is_among there c.name then there else there ++ c ∷ []) (by (is_among there c.name)) g.1
  where
    by : (b : Bool) → EachOf P (if b then there else there ++ c ∷ [])
    by true = h
    by false = each-both P there (c ∷ []) h (g.0, tt)

each-called : (P : Called → Type 0) (xs : List Item) → ((i : ℕ) (x : Item) → slice_get xs i ≡ Some x → EachOf P (calls_of x)) → EachOf P (flat_map calls_of xs)
each-called P [] h = tt
each-called P (x ∷ xs) h = each-both P (calls_of x) (flat_map calls_of xs) (h 0 x refl) (each-called P xs (λ i y e. h (suc i) y e))

-- ---- which are named again

-- the name of what is called, if it is named
abbrev if_named : List (List ℕ) → Called → List (List ℕ)
if_named names c = if is_named names c.name then (c.name ∷ []) else []

named-again : (names : List (List ℕ)) (cs : List Called) (n : List ℕ) → is_named (flat_map (if_named names) cs) n ≡ (is_named names n && is_among cs n)
named-again names [] n = by (is_named names n)
  where
    by : (b : Bool) → false ≡ (b && false)
    by true = refl
    by false = refl
named-again names (c ∷ cs) n =
    list_any-append (λ m. same_text n m) (if_named names c) (flat_map (if_named names) cs)
    ∙ ap (λ b. is_named (if_named names c) n || b) (named-again names cs n)
    ∙ by (is_named names c.name) refl (same_text n c.name) refl
  where
    alike : same_text n c.name ≡ true → is_named names n ≡ is_named names c.name
    alike e = ap (is_named names) (same-names n c.name e)

    by : (b : Bool) → is_named names c.name ≡ b → (d : Bool) → same_text n c.name ≡ d → (is_named (if b then (c.name ∷ []) else []) n || (is_named names n && is_among cs n)) ≡ (is_named names n && (d || is_among cs n))
    by true e true s = ap (λ b. (b || false) || (is_named names n && is_among cs n)) s ∙ ap (λ b. b && true) (sym (alike s ∙ e))
    by true e false s = ap (λ b. (b || false) || (is_named names n && is_among cs n)) s
    by false e true s = ap (λ b. b && is_among cs n) (alike s ∙ e) ∙ ap (λ b. b && true) (sym (alike s ∙ e))
    by false e false s = refl

pub among-there : (cs : List Called) (i : ℕ) (c : Called) → slice_get cs i ≡ Some c → is_among cs c.name ≡ true
among-there [] i c e = cc
among-there (x ∷ cs) zero c e = let s : x ≡ c = cc in ap (λ b. b || is_among cs c.name) (ap (λ (y : Called). same_text c.name y.name) s ∙ itself c.name)
among-there (x ∷ cs) (suc i) c e = ap (λ b. same_text c.name x.name || b) (among-there cs i c e) ∙ or-true (same_text c.name x.name)
  where
    or-true : (b : Bool) → (b || true) ≡ true
    or-true true = refl
    or-true false = refl

module _ (r : Residue) (ok : Valid r Base) (fits : FitsProfile r Base) (instructions : list_all (λ n. starts_with nat_eq n instruction_prefix) r.irreversible ≡ true) where
  abbrev decl : Called → Function
  decl c = declaration r.irreversible c

  abbrev Again : Called → Type 0
  Again c = irreversible_as (decl c) (class_of_function (decl c)) ≡ if_named r.irreversible c

  again-by : (c : Called) (k : Class) → class_of_function (decl c) ≡ Some k → irreversible_as (decl c) (Some k) ≡ if_named r.irreversible c → Again c
  again-by c k e h = ap (irreversible_as (decl c)) e ∙ h

  none-named : (c : Called) → starts_with nat_eq c.name instruction_prefix ≡ false → [] ≡ if_named r.irreversible c
  none-named c h = sym (ap (λ b. if b then (c.name ∷ []) else []) (not-named r.irreversible instructions c.name h))

  initialized : Again initialize
  initialized = again-by initialize class.Init (declared-class r.irreversible initialize ∙ initializes) (none-named initialize refl)

  operated : (name : List ℕ) (args : List (Ty × Val)) → Among (all_items r) (item.Operation name args) → Again (called name ty.Void (types_of args))
  operated name args a =
      let c : Called = called name ty.Void (types_of args) in
      let d = item-declared r Base ok (item.Operation name args) a in
      let k = class-is r Base ok (item.Operation name args) c (op_class (measures args)) a (0, refl) d in
      again-by c (op_class (measures args)) (declared-class r.irreversible c ∙ k) (by (measures args) k)
    where
      measured : (b : Bool) → (not true || b) ≡ true → b ≡ true
      measured b h = h

      by : (b : Bool) → class_of name (signature ty.Void (types_of args)) ≡ Some (op_class b) → irreversible_as (decl (called name ty.Void (types_of args))) (Some (op_class b)) ≡ if_named r.irreversible (called name ty.Void (types_of args))
      by true k =
          let named : is_named r.irreversible name ≡ true =
          measured (is_named r.irreversible name) (ap (λ o. not (passes o is_measure) || is_named r.irreversible name) (sym k) ∙ passes-here (measurement_named r.irreversible) (all_items r) a.0 (item.Operation name args) fits.measurements a.1) in
          sym (ap (λ b. if b then (name ∷ []) else []) named)
      by false k = ap (λ b. if b then (name ∷ []) else []) (marked r Base ok (called name ty.Void (types_of args)))

  recorded : (k : Class) (args : List (Ty × Val)) → Among (all_items r) (item.Output k args) → Again (called (record_name k) ty.Void (types_of args))
  recorded k args a =
      let c : Called = called (record_name k) ty.Void (types_of args) in
      let d = item-declared r Base ok (item.Output k args) a in
      let e = class-is r Base ok (item.Output k args) c k a (0, refl) d in
      again-by c k (declared-class r.irreversible c ∙ e) (by k (and_parts (is_base_record k) (all_known args) (base-permits r ok (item.Output k args) a)).0)
    where
      by : (k : Class) → is_base_record k ≡ true → irreversible_as (decl (called (record_name k) ty.Void (types_of args))) (Some k) ≡ if_named r.irreversible (called (record_name k) ty.Void (types_of args))
      by class.Tuple h = none-named (called (record_name class.Tuple) ty.Void (types_of args)) refl
      by class.Array h = none-named (called (record_name class.Array) ty.Void (types_of args)) refl
      by class.ResRecord h = none-named (called (record_name class.ResRecord) ty.Void (types_of args)) refl
      by k h = cc

  of-item : (x : Item) → Among (all_items r) x → base_permits x ≡ true → EachOf Again (calls_of x)
  of-item (item.Operation name args) a p = (operated name args a, tt)
  of-item (item.Output k args) a p = (recorded k args a, tt)
  of-item (item.Binary d o g w x y) a p = cc
  of-item (item.Icmp d o w x y) a p = cc
  of-item (item.Convert d o w x to) a p = cc
  of-item (item.Select d w c x y) a p = cc
  of-item (item.Read d v) a p = cc
  of-item (item.Equal d v u) a p = cc

  each-again : EachOf Again (declared_of r)
  each-again = each-used Again (calls_of_residue r) (initialize ∷ []) (initialized, tt) (each-called Again (all_items r) (λ i x e. of-item x (i, e) (base-permits r ok x (i, e))))

  of-declared : (cs : List Called) → EachOf Again cs → flat_map (λ f. irreversible_as f (class_of_function f)) (map decl cs) ≡ flat_map (if_named r.irreversible) cs
  of-declared [] h = refl
  of-declared (c ∷ cs) h =
      ap (λ l. l ++ flat_map (λ f. irreversible_as f (class_of_function f)) (map decl cs)) h.0
      ∙ ap (λ l. if_named r.irreversible c ++ l) (of-declared cs h.1)

  entry-none : irreversible_as (printed_entry r Base) (class_of_function (printed_entry r Base)) ≡ []
  entry-none =
      let own = and_parts (is_own_name r.entry) (list_all is_own_name (map (λ g. g.name) r.globals)) (and_parts (are_distinct (own_names r)) (list_all is_own_name (own_names r)) ok.names).1 in
      ap (irreversible_as (printed_entry r Base)) (no-class (name_text r.entry) (type_words (printed_entry r Base)) (not-true (starts_with nat_eq (name_text r.entry) quantum_prefix) own.0))

  all-again : irreversible_of (printed r Base) ≡ flat_map (if_named r.irreversible) (declared_of r)
  all-again =
      ap (λ l. l ++ flat_map (λ f. irreversible_as f (class_of_function f)) (map decl (declared_of r))) entry-none
      ∙ of-declared (declared_of r) each-again

  -- what is declared is named again where it is named
  pub named-again-is : (n : List ℕ) → is_among (declared_of r) n ≡ true → is_named (irreversible_of (printed r Base)) n ≡ is_named r.irreversible n
  named-again-is n h =
      ap (λ l. is_named l n) all-again ∙ named-again r.irreversible (declared_of r) n ∙ ap (λ b. is_named r.irreversible n && b) h ∙ and-true (is_named r.irreversible n)
    where
      and-true : (b : Bool) → (b && true) ≡ b
      and-true true = refl
      and-true false = refl

  pub declared-again : map (declaration (irreversible_of (printed r Base))) (declared_of r) ≡ map (declaration r.irreversible) (declared_of r)
  declared-again = by (declared_of r) (λ i c e. named-again-is c.name (among-there (declared_of r) i c e))
    where
      by : (cs : List Called) → ((i : ℕ) (c : Called) → slice_get cs i ≡ Some c → is_named (irreversible_of (printed r Base)) c.name ≡ is_named r.irreversible c.name) → map (declaration (irreversible_of (printed r Base))) cs ≡ map (declaration r.irreversible) cs
      by [] h = refl
      by (c ∷ cs) h =
          ap (λ b. (record { name = name.Text c.name; ret = c.ret; params = length c.params; locals = parameters 0 c.params; attrs = irreversible_attrs b; blocks = None }) ∷ map (declaration (irreversible_of (printed r Base))) cs) (h 0 c refl)
          ∙ ap (λ l. declaration r.irreversible c ∷ l) (by cs (λ i d e. h (suc i) d e))
