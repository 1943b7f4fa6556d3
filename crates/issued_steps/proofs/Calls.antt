-- Calls of declared functions issue their operations.
use Rattle.std.proofs.Common.{◌≡◌, ℕ, ◌+◌, Bool, true, false, Option, None, Some, List, [], ◌∷◌, ◌++◌, slice_get, refl, sym, ap, ◌∙◌, subst}
use Rattle.std.proofs.lemmas.List.{map-append}
use Rattle.std.specs.Prelude.{if◌then◌else◌, codes}
use Rattle.ir_module.specs.declared.tree.Block.{Block}
use Rattle.ir_module.specs.declared.tree.Function.{Function}
use Rattle.ir_module.specs.Classes.{class_of_function, type_words}
use Rattle.ir_values.specs.declared.cause.Cause.{Cause}
use Rattle.ir_values.specs.declared.cause.Cause.TheVariants as cause
use Rattle.ir_values.specs.declared.class.Class.{Class}
use Rattle.ir_values.specs.declared.class.Class.TheVariants as class
use Rattle.ir_values.specs.declared.ids.FuncId.{FuncId}
use Rattle.ir_values.specs.declared.ids.LocalId.{LocalId}
use Rattle.ir_values.specs.declared.ty.Ty.{Ty}
use Rattle.ir_values.specs.declared.ty.Ty.TheVariants as ty
use Rattle.ir_values.specs.declared.value.Value.TheVariants as value
use Rattle.ir_values.specs.Calls.{qis}
use Rattle.ir_values.specs.ClassTypes.{HasTypes}
use Rattle.ir_values.specs.Names.{name_text}
use Rattle.ir_values.specs.Types.{signature}
use Rattle.kept_items.specs.declared.item.Item.{Item}
use Rattle.kept_items.specs.declared.item.Item.TheVariants as item
use Rattle.kept_items.specs.declared.target.Kind.TheVariants as kind
use Rattle.kept_items.specs.declared.val.Val.{Val}
use Rattle.kept_items.specs.declared.val.Val.TheVariants.{Known, Dynamic}
use Rattle.kept_items.specs.Items.{bit_int}
use Rattle.kept_items.specs.Targets.{has_ints, is_base}
use Rattle.qir_meaning.specs.Moves.{first_point}
use Rattle.static_steps.specs.declared.phase.Phase.{Phase}
use Rattle.static_steps.specs.declared.phase.Phase.TheVariants as phase
use Rattle.static_steps.specs.declared.turn.Turn.TheVariants.{Bad, Lost}
use Rattle.static_steps.specs.Calls.{body_turn, class_turn, declared_turn, parameters}
use Rattle.static_steps.specs.Operations.{is_irreversible, issues, issues_in, measures, one_more_arg, operates, operates_on, phase_after, returning_on, returning_turn, returns_in, same_truth, typed_args, wrong_args}
use Rattle.static_steps.specs.Records.{count_output, int_output, outputs, result_output, value_output}
use Rattle.static_steps.specs.Results.{both_bits, by_const, const_bit, equal_turn, equals, held_in, read_turn, reads, release_turn, releases, without}
use Rattle.static_steps.specs.Settings.{Setting, bound, gives_dynamic, goes, next_here, passed}
use Rattle.static_steps.specs.Values.{drop_result, keep}
use Rattle.valid_steps.specs.Items.{types_of}
use Rattle.issued_steps.specs.Issues.{IsIssued, Issues}
use Rattle.issued_steps.proofs.Instructions.{known-does}
use Rattle.issued_steps.proofs.Turns.{Does, either-does, goes-does, kept-does, silent-does}

-- typed arguments have the types
one-more-types : (u : Ty) (v : Val) (us : List Ty) (o : Option (List (Ty × Val))) (args : List (Ty × Val)) → ((rest : List (Ty × Val)) → o ≡ Some rest → types_of rest ≡ us) → one_more_arg u v o ≡ Some args → types_of args ≡ u ∷ us
one-more-types u v us None args h e = cc
one-more-types u v us (Some rest) args h e =
    let z : (u, v) ∷ rest ≡ args = cc in ap types_of (sym z) ∙ ap (λ l. u ∷ l) (h rest refl)

typed-types : (us : List Ty) (vs : List Val) (args : List (Ty × Val)) → typed_args us vs ≡ Some args → types_of args ≡ us
typed-types [] [] args e = let z : [] ≡ args = cc in ap types_of (sym z)
typed-types [] (v ∷ vs) args e = cc
typed-types (u ∷ us) [] args e = cc
typed-types (u ∷ us) (v ∷ vs) args e = one-more-types u v us (typed_args us vs) args (λ rest k. typed-types us vs rest k) e

module _ (s : Setting) where
  -- ---- releases and records

  releases-does : (a : Val) → Does s (releases s a)
  releases-does (Known (value.Id i)) = tt
  releases-does (Known (value.Alloc j)) =
      either-does s (held_in s.w.held j) (goes s (record (passed s) { held = without s.w.held j })) (Bad (kind.Traps cause.Released)) (goes-does s (record (passed s) { held = without s.w.held j }) refl) tt
  releases-does (Known v) = tt
  releases-does (Dynamic d) = tt

  release-does : (vs : List Val) → Does s (release_turn s vs)
  release-does [] = tt
  release-does (a ∷ []) = releases-does a
  release-does (a ∷ b ∷ vs) = tt

  outputs-does : (c : Class) (o : Option (List (Ty × Val))) → Does s (outputs s c o)
  outputs-does c None = tt
  outputs-does c (Some args) = kept-does s (item.Output c args) (record (passed s) { phase = if is_base s.t then phase.Output else s.w.phase }) refl

  count-does : (c : Class) (us : List Ty) (vs : List Val) → Does s (count_output s c us vs)
  count-does c us [] = outputs-does c (typed_args us [])
  count-does c us (Known v ∷ vs) = outputs-does c (typed_args us (Known v ∷ vs))
  count-does c us (Dynamic d ∷ vs) = tt

  result-does : (us : List Ty) (vs : List Val) → Does s (result_output s us vs)
  result-does us [] = outputs-does class.ResRecord (typed_args us [])
  result-does us (Dynamic d ∷ vs) = outputs-does class.ResRecord (typed_args us (Dynamic d ∷ vs))
  result-does us (Known value.One ∷ vs) = tt
  result-does us (Known value.Zero ∷ vs) = tt
  result-does us (Known v ∷ vs) = outputs-does class.ResRecord (typed_args us (Known v ∷ vs))

  value-does : (c : Class) (us : List Ty) (vs : List Val) → Does s (value_output s c us vs)
  value-does c us vs = either-does s (is_base s.t) (Bad kind.Forbidden) (outputs s c (typed_args us vs)) tt (outputs-does c (typed_args us vs))

  int-does : (us : List Ty) (vs : List Val) → Does s (int_output s us vs)
  int-does us vs =
      either-does s (is_base s.t) (Bad kind.Forbidden) (if has_ints s.t then outputs s class.IntRecord (typed_args us vs) else Bad kind.Capability) tt
      (either-does s (has_ints s.t) (outputs s class.IntRecord (typed_args us vs)) (Bad kind.Capability) (outputs-does class.IntRecord (typed_args us vs)) tt)

  -- ---- operations

  module _ (name : List ℕ) (irreversible : Bool) (args : List (Ty × Val)) (is : IsIssued s.m name (types_of args) irreversible) where
    in-phase : (o : Option Phase) → phase_after s irreversible ≡ o → Does s (issues_in s o name args)
    in-phase None e = tt
    in-phase (Some ph) e = kept-does s (item.Operation name args) (record (passed s) { phase = ph }) (irreversible, is, e)

    by-cause : (o : Option Cause) → Does s (issues s o irreversible name args)
    by-cause (Some why) = tt
    by-cause None = in-phase (phase_after s irreversible) refl

  operates-does : (name : List ℕ) (measurement irreversible : Bool) (us : List Ty) (vs : List Val) → ((args : List (Ty × Val)) → types_of args ≡ us → IsIssued s.m name (types_of args) irreversible)
      → Does s (operates s name measurement irreversible (typed_args us vs))
  operates-does name measurement irreversible us vs is = by-args (typed_args us vs) refl
    where
      by-args : (o : Option (List (Ty × Val))) → typed_args us vs ≡ o → Does s (operates s name measurement irreversible o)
      by-args None e = tt
      by-args (Some args) e =
          either-does s (same_truth measurement (measures args)) (operates_on s name irreversible args) Lost
          (by-cause name irreversible args (is args (typed-types us vs args e)) (wrong_args s.w.held args)) tt

  module _ (x : Option LocalId) where
    -- ---- results that are read, compared or returned

    by-const-does : (o : Option Bool) (i : Item) → Does s (gives_dynamic s x i) → Does s (by_const s x o i)
    by-const-does (Some b) i h = known-does s x (value.Int (bit_int b))
    by-const-does None i h = either-does s (is_base s.t) (Bad kind.Forbidden) (gives_dynamic s x i) tt h

    reads-does : (a : Val) → Does s (reads s x a)
    reads-does (Known v) = by-const-does (const_bit v) (item.Read s.fresh v) (kept-does s (item.Read s.fresh v) (bound s x (Dynamic s.fresh)) refl)
    reads-does (Dynamic d) = tt

    read-does : (vs : List Val) → Does s (read_turn s x vs)
    read-does [] = tt
    read-does (a ∷ []) = reads-does a
    read-does (a ∷ b ∷ vs) = tt

    equals-does : (a b : Val) → Does s (equals s x a b)
    equals-does (Known v) (Known u) =
        by-const-does (both_bits (const_bit v) (const_bit u)) (item.Equal s.fresh v u) (kept-does s (item.Equal s.fresh v u) (bound s x (Dynamic s.fresh)) refl)
    equals-does (Known v) (Dynamic d) = tt
    equals-does (Dynamic d) b = tt

    equal-does : (vs : List Val) → Does s (equal_turn s x vs)
    equal-does [] = tt
    equal-does (a ∷ []) = tt
    equal-does (a ∷ b ∷ []) = equals-does a b
    equal-does (a ∷ b ∷ c ∷ vs) = tt

    module _ (is : IsIssued s.m (qis (codes "mz__body")) (ty.Qubit ∷ ty.Res ∷ []) true) where
      abbrev result : Ty × Val
      result = (ty.Res, Known (value.Measured s.w.returned))

      with-result : (args : List (Ty × Val)) → types_of args ≡ ty.Qubit ∷ [] → types_of (args ++ result ∷ []) ≡ ty.Qubit ∷ ty.Res ∷ []
      with-result args e = map-append (λ (a : Ty × Val). a.0) args (result ∷ []) ∙ ap (λ l. l ++ ty.Res ∷ []) e

      returns-in : (args : List (Ty × Val)) → types_of args ≡ ty.Qubit ∷ [] → (o : Option Phase) → phase_after s true ≡ o → Does s (returns_in s x o args)
      returns-in args t None e = tt
      returns-in args t (Some ph) e =
          kept-does s (item.Operation (qis (codes "mz__body")) (args ++ result ∷ []))
          (record (bound s x (Known (value.Measured s.w.returned))) { returned = s.w.returned + 1; phase = ph })
          (true, subst (λ us. IsIssued s.m (qis (codes "mz__body")) us true) (sym (with-result args t)) is, e)

      returning-on : (args : List (Ty × Val)) → types_of args ≡ ty.Qubit ∷ [] → (o : Option Cause) → Does s (returning_on s x o args)
      returning-on args t (Some why) = tt
      returning-on args t None = returns-in args t (phase_after s true) refl

      returning-does : (vs : List Val) → Does s (returning_turn s x (typed_args (ty.Qubit ∷ []) vs))
      returning-does vs = by-args (typed_args (ty.Qubit ∷ []) vs) refl
        where
          by-args : (o : Option (List (Ty × Val))) → typed_args (ty.Qubit ∷ []) vs ≡ o → Does s (returning_turn s x o)
          by-args None e = tt
          by-args (Some args) e =
              either-does s (measures args) Lost (returning_on s x (wrong_args s.w.held args) args) tt (returning-on args (typed-types (ty.Qubit ∷ []) vs args e) (wrong_args s.w.held args))

    -- ---- a declared function of the module

    module _ (n : ℕ) (f : Function) (there : slice_get s.m.funcs n ≡ Some f) (ret : Ty) (us : List Ty) (words : type_words f ≡ signature ret us) where
      issued : (c : Class) (name : List ℕ) (ts : List Ty) → class_of_function f ≡ Some c → Issues f c name ts → IsIssued s.m name ts (is_irreversible f c)
      issued c name ts e h = record { number = n; function = f; there = there; class = c; classed = e; issues = h; undone = refl }

      own-words : (ts : List Ty) → ret ≡ ty.Void → ts ≡ us → type_words f ≡ signature ty.Void ts
      own-words ts v e = words ∙ ap (λ r. signature r us) v ∙ ap (λ l. signature ty.Void l) (sym e)

      class-does : (c : Class) → HasTypes c ret us → class_of_function f ≡ Some c → (vs : List Val) → Does s (class_turn s x f (name_text f.name) c us vs)
      class-does class.Init h d vs = silent-does s x (goes s (passed s)) (goes-does s (passed s) refl)
      class-does class.Count h d vs = silent-does s x (goes s (passed s)) (goes-does s (passed s) refl)
      class-does class.Alloc h d vs =
          goes-does s (record (bound s x (Known (value.Alloc s.w.allocated))) { allocated = s.w.allocated + 1; held = s.w.held ++ s.w.allocated ∷ [] }) refl
      class-does class.Release h d vs = silent-does s x (release_turn s vs) (release-does vs)
      class-does class.One h d vs = known-does s x value.One
      class-does class.Zero h d vs = known-does s x value.Zero
      class-does class.Equal h d vs = equal-does vs
      class-does class.Read h d vs = read-does vs
      class-does class.Tuple h d vs = silent-does s x (count_output s class.Tuple us vs) (count-does class.Tuple us vs)
      class-does class.Array h d vs = silent-does s x (count_output s class.Array us vs) (count-does class.Array us vs)
      class-does class.ResRecord h d vs = silent-does s x (result_output s us vs) (result-does us vs)
      class-does class.BoolRecord h d vs = silent-does s x (value_output s class.BoolRecord us vs) (value-does class.BoolRecord us vs)
      class-does class.IntRecord h d vs = silent-does s x (int_output s us vs) (int-does us vs)
      class-does class.DoubleRecord h d vs = silent-does s x (value_output s class.DoubleRecord us vs) (value-does class.DoubleRecord us vs)
      class-does class.Returning h d vs =
          subst (λ q. Does s (returning_turn s x (typed_args q vs))) (sym h.1) (returning-does (issued class.Returning (qis (codes "mz__body")) (ty.Qubit ∷ ty.Res ∷ []) d (refl, refl)) vs)
      class-does class.Measure h d vs =
          silent-does s x (operates s (name_text f.name) true true (typed_args us vs))
          (operates-does (name_text f.name) true true us vs (λ args e. issued class.Measure (name_text f.name) (types_of args) d (refl, own-words (types_of args) h.0 e)))
      class-does class.Gate h d vs =
          silent-does s x (operates s (name_text f.name) false (is_irreversible f class.Gate) (typed_args us vs))
          (operates-does (name_text f.name) false (is_irreversible f class.Gate) us vs (λ args e. issued class.Gate (name_text f.name) (types_of args) d (refl, own-words (types_of args) h.0 e)))

      module _ (types : (c : Class) → class_of_function f ≡ Some c → HasTypes c ret us) where
        declared-does : (o : Option Class) → class_of_function f ≡ o → (vs : List Val) → Does s (declared_turn s x f o us vs)
        declared-does None d vs = tt
        declared-does (Some c) d vs = class-does c (types c d) d vs

        pub body-does : (g : FuncId) (o : Option (List Block)) (vs : List Val) → Does s (body_turn s x g f o us vs)
        body-does g None vs = declared-does (class_of_function f) refl vs
        body-does g (Some blocks) vs =
            goes-does s
            (record s.w {
              top = record { at = first_point g; names = parameters 0 vs };
              below = (record { at = next_here s; names = keep (s.live (next_here s)) (drop_result x s.w.top.names) }) ∷ s.w.below;
            })
            refl
