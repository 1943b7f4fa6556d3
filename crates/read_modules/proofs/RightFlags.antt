-- Flags: behaviours, keys and values are in their ranges, and there are fewer than half as many as tokens.
use Rattle.std.specs.Prelude.{◌==◌, slice_get, codes}
use Rattle.std.specs.Option.{option_map, option_and_then}
use Rattle.std.proofs.Common.{◌≡◌, ℕ, zero, suc, ◌+◌, ◌*◌, ◌^◌, ◌<◌, ◌≤◌, Bool, true, Option, None, Some, List, [], ◌∷◌, length, map, refl, subst, arith}
use Rattle.std.specs.List.{list_all, filter_map, cons_option, sum_by}
use Rattle.std.proofs.lemmas.Bool.{and_from, lt-ltb, le-leb, eqb-true, cond_both}
use Rattle.std.proofs.lemmas.List.{length-append}
use Rattle.std.proofs.lemmas.List.Sums.{sum_by-cons}
use Rattle.ir_values.specs.Calls.{same_text}
use Rattle.ir_tokens.specs.declared.token.Token.{Token}
use Rattle.ir_grammar.specs.declared.tree.ElemSyntax.{ElemSyntax}
use Rattle.ir_grammar.specs.declared.tree.ElemSyntax.TheVariants as elem
use Rattle.ir_grammar.specs.declared.tree.ItemSyntax.{ItemSyntax}
use Rattle.ir_grammar.specs.declared.tree.ItemSyntax.TheVariants as syntax
use Rattle.ir_grammar.specs.declared.tree.PartSyntax.{PartSyntax}
use Rattle.ir_grammar.specs.declared.tree.PartSyntax.TheVariants as part
use Rattle.ir_grammar.specs.SideRules.{bits_of_sign}
use Rattle.ir_module.specs.declared.tree.Flag.{Flag}
use Rattle.ir_module.specs.declared.tree.FlagPart.{FlagPart}
use Rattle.ir_module.specs.declared.tree.FlagValue.{FlagValue}
use Rattle.ir_module.specs.declared.tree.FlagValue.TheVariants as flag_value
use Rattle.ir_module.specs.Printable.{are_bytes, part_fits, flag_value_fits, flag_fits}
use Rattle.ir_names.specs.Metadata.{flag_nodes, listed, elems_in, node_of, part_of, with_part, parts_in, value_of, flag_with, flag_with_value, flag_of, listed_flag, flags_of}
use Rattle.ir_names.specs.Sense.{Sense, item_at}
use Rattle.read_modules.proofs.Each.{Each, Any, Each-map, Each-filter, Each-always, Each-weaker, list_all-each}
use Rattle.read_modules.proofs.KeptItems.{PartKept, ElemKept, ItemKept}
use Rattle.read_modules.proofs.Weights.{weight}

-- Options.

Any-map : {A B : Type 0} (P : B → Type 0) (f : A → B) (o : Option A) → Any (λ x. P (f x)) o → Any P (option_map f o)
Any-map P f None h = tt
Any-map P f (Some x) h = h

Any-then : {A B : Type 0} (P : A → Type 0) (Q : B → Type 0) (f : A → Option B) → ((x : A) → P x → Any Q (f x)) → (o : Option A) → Any P o → Any Q (option_and_then f o)
Any-then P Q f h None k = tt
Any-then P Q f h (Some x) k = h x k

Any-at : {A : Type 0} (P : A → Type 0) (xs : List A) (k : ℕ) → Each P xs → Any P (slice_get xs k)
Any-at P [] k h = tt
Any-at P (x ∷ xs) zero h = h.0
Any-at P (x ∷ xs) (suc k) h = Any-at P xs k h.1

Any-always : {A : Type 0} (P : A → Type 0) → ((x : A) → P x) → (o : Option A) → Any P o
Any-always P f None = tt
Any-always P f (Some x) = f x

-- The elements of a node.

elems_kept : (spelling : Token → List ℕ) (o : Option ItemSyntax) → Any (ItemKept spelling) o → Any (Each ElemKept) (elems_in o)
elems_kept spelling None h = tt
elems_kept spelling (Some (syntax.Node t es)) h = h
elems_kept spelling (Some syntax.Aside) h = tt
elems_kept spelling (Some (syntax.Constant t bytes)) h = tt
elems_kept spelling (Some (syntax.Function f)) h = tt
elems_kept spelling (Some (syntax.Group t attrs)) h = tt
elems_kept spelling (Some (syntax.List t ns)) h = tt

module _ (spelling : Token → List ℕ) (s : Sense) (kept : Each (ItemKept spelling) s.items) (bytes : (t : Token) → are_bytes (s.string t) ≡ true) where
  node_kept : (t : Token) → Any (Each ElemKept) (node_of s t)
  node_kept t = elems_kept spelling (item_at s (s.node t)) (Any-then (λ k. Unit {0}) (ItemKept spelling) (slice_get s.items) (λ k _. Any-at (ItemKept spelling) s.items k kept) (s.node t) (Any-always _ (λ k. tt) (s.node t)))

  part_right : (p : PartSyntax) → PartKept p → part_fits (part_of s p) ≡ true
  part_right (part.Integer w negative n) h = and_from _ _ (lt-ltb 0 w (let l = h.0 in omega arith)) (and_from _ _ (le-leb w 128 h.1) (lt-ltb _ _ h.2))
  part_right (part.Text t) h = bytes t

  abbrev PartsFit : List FlagPart → Type 0
  PartsFit ps = list_all part_fits ps ≡ true

  parts_right : (es : List ElemSyntax) → Each ElemKept es → Any PartsFit (parts_in s es)
  parts_right [] h = refl
  parts_right (elem.Part p ∷ es) h = more (parts_in s es) (parts_right es h.1)
    where
      more : (o : Option (List FlagPart)) → Any PartsFit o → Any PartsFit (option_map (with_part (part_of s p)) o)
      more None k = tt
      more (Some ps) k = and_from _ _ (part_right p h.0) k
  parts_right (elem.Node t ∷ es) h = tt
  parts_right (elem.Null ∷ es) h = tt
  parts_right (elem.Parts ps ∷ es) h = tt

  abbrev ValueFits : FlagValue → Type 0
  ValueFits v = flag_value_fits v ≡ true

  value_right : (e : ElemSyntax) → ElemKept e → Any ValueFits (value_of s e)
  value_right (elem.Part p) h = part_right p h
  value_right (elem.Node t) h = Any-map ValueFits flag_value.List (option_and_then (parts_in s) (node_of s t)) (Any-then (Each ElemKept) PartsFit (parts_in s) parts_right (node_of s t) (node_kept t))
  value_right elem.Null h = tt
  value_right (elem.Parts ps) h = list_all-each part_fits (map (part_of s) ps) (Each-map _ (part_of s) ps (Each-weaker PartKept _ part_right ps h))

  abbrev FlagFits : Flag → Type 0
  FlagFits flag = flag_fits flag ≡ true

  with_value_right : (w : ℕ) (negative : Bool) (n : ℕ) (key : Token) (o : Option FlagValue) → bits_of_sign w negative n < 2 ^ w → (w == 32) ≡ true → Any ValueFits o → Any FlagFits (flag_with_value s negative n key o)
  with_value_right w negative n key o l e h =
      let b : bits_of_sign 32 negative n < 2 ^ 32 = subst (λ k. bits_of_sign k negative n < 2 ^ k) (eqb-true w 32 e) l in
      Any-map FlagFits (flag_with (bits_of_sign 32 negative n) (s.string key)) o (each_value b o h)
    where
      each_value : bits_of_sign 32 negative n < 2 ^ 32 → (o : Option FlagValue) → Any ValueFits o → Any (λ v. FlagFits (flag_with (bits_of_sign 32 negative n) (s.string key) v)) o
      each_value b None k = tt
      each_value b (Some v) k = and_from _ _ (lt-ltb (bits_of_sign 32 negative n) (2 ^ 32) b) (and_from _ _ (bytes key) k)

  flag_right : (es : List ElemSyntax) → Each ElemKept es → Any FlagFits (flag_of s es)
  flag_right (elem.Part (part.Integer w negative n) ∷ elem.Part (part.Text key) ∷ v ∷ []) h =
      cond_both (w == 32) (flag_with_value s negative n key (value_of s v)) None (Any FlagFits) (λ e. with_value_right w negative n key (value_of s v) h.0.2 e (value_right v h.1.1.0)) (λ e. tt)
  flag_right es h = tt

  pub flags_right : Each (λ flag. flag_fits flag ≡ true) (flags_of s)
  flags_right = Each-filter FlagFits (listed_flag s) (listed s.spelling s.items) (Each-always _ (λ t. Any-then (Each ElemKept) FlagFits (flag_of s) flag_right (node_of s t) (node_kept t)) (listed s.spelling s.items))

-- Their number.

consed_length : {A : Type 0} (o : Option A) (xs : List A) → length (cons_option o xs) ≤ length xs + 1
consed_length None xs = omega arith
consed_length (Some x) xs = omega arith

pub filtered_length : {A B : Type 0} (f : A → Option B) (xs : List A) → length (filter_map f xs) ≤ length xs
filtered_length f [] = omega arith
filtered_length f (x ∷ xs) = let a = consed_length (f x) (filter_map f xs) in let b = filtered_length f xs in omega arith

listed_in : (spelling : Token → List ℕ) (i : ItemSyntax) → 2 * length (flag_nodes spelling i) ≤ weight i
listed_in spelling (syntax.List t ns) = cond_both (same_text (spelling t) (codes "!llvm.module.flags")) ns [] (λ l. 2 * length l ≤ 2 * length ns) (λ e. omega arith) (λ e. omega arith)
listed_in spelling syntax.Aside = omega arith
listed_in spelling (syntax.Constant t bytes) = omega arith
listed_in spelling (syntax.Function f) = omega arith
listed_in spelling (syntax.Group t attrs) = omega arith
listed_in spelling (syntax.Node t es) = omega arith

listed_few : (spelling : Token → List ℕ) (items : List ItemSyntax) → 2 * length (listed spelling items) ≤ sum_by weight items
listed_few spelling [] = omega arith
listed_few spelling (i ∷ is) =
    let a = listed_in spelling i in let b = listed_few spelling is in let c = sum_by-cons weight i is in
    let d = length-append (flag_nodes spelling i) (listed spelling is) in omega arith

pub flags_few : (s : Sense) → 2 * length (flags_of s) ≤ sum_by weight s.items
flags_few s = let a = filtered_length (listed_flag s) (listed s.spelling s.items) in let b = listed_few s.spelling s.items in omega arith
