-- Where a step leads: one move to a state that fits.
use Rattle.std.proofs.Common.{◌≡◌, ℕ, zero, suc, ◌+◌, Bool, true, false, Option, None, Some, List, [], ◌∷◌, ◌++◌, length, slice_get, refl, sym, ap, ◌∙◌, subst, arith, append-nil, ◌≤◌}
use Rattle.std.proofs.lemmas.Bool.{and_parts}
use Rattle.std.proofs.lemmas.List.Elements.{All-cons, All-nil}
use Rattle.std.specs.Prelude.{if◌then◌else◌, not, option_map}
use Rattle.ir_module.specs.declared.tree.Function.{Function}
use Rattle.ir_module.specs.Numbered.{is_void}
use Rattle.ir_module.specs.Steps.{step_in_module}
use Rattle.ir_values.specs.declared.ids.FuncId.{FuncId}
use Rattle.ir_values.specs.declared.ids.LocalId.{LocalId}
use Rattle.ir_values.specs.declared.name.Name.{Name}
use Rattle.ir_values.specs.declared.ty.Ty.{Ty}
use Rattle.ir_values.specs.declared.value.Value.{Value}
use Rattle.qir_meaning.specs.State.{next}
use Rattle.kept_items.specs.declared.item.Choice.TheVariants.{One}
use Rattle.kept_items.specs.declared.item.Item.{Item}
use Rattle.kept_items.specs.declared.val.Val.{Val}
use Rattle.kept_items.specs.declared.val.Val.TheVariants.{Known, Dynamic}
use Rattle.static_steps.specs.declared.config.Config.{Config}
use Rattle.static_steps.specs.declared.phase.Phase.{Phase}
use Rattle.static_steps.specs.declared.turn.Move.{Move}
use Rattle.static_steps.specs.declared.turn.Turn.{Turn}
use Rattle.static_steps.specs.declared.work.Work.{Work}
use Rattle.static_steps.specs.Configurations.{Bounds, Each, HoldsBelow, IsPhaseOf, IsValue, MayVary, NumbersRise, Rises, Stands, type_of_local, type_of_some}
use Rattle.static_steps.specs.Settings.{Setting, bound, gives_dynamic, gives_known, goes, kept, kept_if, move_to, passed}
use Rattle.static_steps.specs.Steps.{start_of}
use Rattle.static_steps.specs.Values.{Names, put_result}
use Rattle.type_check.specs.Rules.{result_agrees}
use Rattle.type_check.specs.Typing.{is_of_type, local_type}
use Rattle.type_check.proofs.Equal.{same_type-is}
use Rattle.valid_steps.specs.Items.{IsItem, IsOperand, IsSomeItem, gives, gives_some}
use Rattle.valid_steps.specs.Turns.{GoesOn, IsMove, IsTurn}
use Rattle.valid_steps.proofs.Names.{each-map, put-result-each, put-result-rises}
use Rattle.valid_steps.proofs.Packed.{counts, fills, is-configuration}
use Rattle.valid_steps.proofs.Works.{Grows, IsValName, IsWork, below-later, bounds_of, more-types, name-later, same-bounds, seam}

-- ---- the name of a result

pub same-type-of : (f : Function) (x : LocalId) → local_type f x ≡ type_of_local f x
same-type-of f x = by-local (slice_get f.locals x.0)
  where
    by-local : (o : Option (Name × Ty)) → option_map (λ (l : Name × Ty). l.1) o ≡ type_of_some o
    by-local None = refl
    by-local (Some l) = refl

pub has-type : (o : Option Ty) (u : Ty) → is_of_type o u ≡ true → o ≡ Some u
has-type None u h = cc
has-type (Some w) u h = ap Some (same_type-is w u h)

-- the name, if there is one, has this type
abbrev pub Named : Function → Option LocalId → Ty → Type 0
Named f x u = (y : LocalId) → x ≡ Some y → type_of_local f y ≡ Some u

pub named : (f : Function) (x : Option LocalId) (u : Ty) → result_agrees f x u ≡ true → Named f x u
named f None u h y e = cc
named f (Some z) u h y e =
    let q : z ≡ y = cc in
    subst (λ w. type_of_local f w ≡ Some u) q (sym (same-type-of f z) ∙ has-type (local_type f z) u (and_parts (is_of_type (local_type f z) u) (not (is_void u)) h).0)

-- ---- one move

only : (mv : Move) (i : ℕ) (a : Move) → slice_get (mv ∷ []) i ≡ Some a → mv ≡ a
only mv zero a h = cc
only mv (suc i) a h = cc

module _ (s : Setting) (entry : FuncId) (k r : ℕ) (ts : List (Option Ty)) where
  abbrev pub IsGood : Turn → Type 0
  IsGood = IsTurn s.m s.t s.live entry k r ts s.w.allocated s.w.returned

  -- it is not the start, and has at most one allocation and one returned result more
  pub record Follows (u : Work) : Type 0 where
    pub no_start : ¬ ((move_to s.live u).to ≡ start_of entry)
    pub allocated : u.allocated ≤ s.w.allocated + 1
    pub returned : u.returned ≤ s.w.returned + 1

  -- the start stands at the first point of a block
  pub follows-at : (u : Work) (n : ℕ) → u.top.at.index ≡ n + 1 → u.allocated ≤ s.w.allocated + 1 → u.returned ≤ s.w.returned + 1 → Follows u
  follows-at u n e a q = record { no_start = λ z. let i : u.top.at.index ≡ 0 = ap (λ (g : Config). g.top.at.index) z in omega (arith, e, i); allocated = a; returned = q }

  pub move-fits : (item : Option Item) (u : Work) → IsWork s.m s.t s.live entry k r (ts ++ gives_some item) u → Follows u
      → IsSomeItem s.m s.t (bounds_of s.m s.t s.live entry k r u) ts u.held item → IsMove s.m s.t s.live entry k r ts s.w.allocated s.w.returned item (move_to s.live u)
  move-fits item u h a i = record {
    configuration = is-configuration s.m s.t s.live entry k r (ts ++ gives_some item) u h;
    no_start = a.no_start;
    allocated_more = a.allocated;
    returned_more = a.returned;
    arguments = fills s.m s.t s.live entry k r (ts ++ gives_some item) u h;
    number = counts s.m s.t s.live entry k r (ts ++ gives_some item) u h;
    item_fits = i;
  }

  pub no-item : (u : Work) → IsWork s.m s.t s.live entry k r ts u → Follows u → IsMove s.m s.t s.live entry k r ts s.w.allocated s.w.returned None (move_to s.live u)
  no-item u h a = move-fits None u (subst (λ us. IsWork s.m s.t s.live entry k r us u) (sym (append-nil ts)) h) a tt

  one-move : (item : Option Item) (mv : Move) → IsMove s.m s.t s.live entry k r ts s.w.allocated s.w.returned item mv → GoesOn s.m s.t s.live entry k r ts s.w.allocated s.w.returned (mv ∷ []) item One
  one-move item mv h = record {
    moves_fit = All-cons (IsMove s.m s.t s.live entry k r ts s.w.allocated s.w.returned item) mv [] h (All-nil (IsMove s.m s.t s.live entry k r ts s.w.allocated s.w.returned item));
    choice_fits = refl;
    agree = λ i j a b ha hb e. ap (λ (mv : Move). mv.args) (sym (only mv i a ha) ∙ only mv j b hb);
  }

  pub goes-good : (u : Work) → IsWork s.m s.t s.live entry k r ts u → Follows u → IsGood (goes s u)
  goes-good u h a = one-move None (move_to s.live u) (no-item u h a)

  pub kept-good : (i : Item) (u : Work) → IsWork s.m s.t s.live entry k r (ts ++ gives i) u → Follows u
      → IsItem s.m s.t (bounds_of s.m s.t s.live entry k r u) ts u.held i → IsGood (kept s i u)
  kept-good i u h a q = one-move (Some i) (move_to s.live u) (move-fits (Some i) u h a q)

  pub either-good : (b : Bool) (x y : Turn) → (b ≡ true → IsGood x) → (b ≡ false → IsGood y) → IsGood (if b then x else y)
  either-good true x y h q = h refl
  either-good false x y h q = q refl

  -- ---- on to the next point

  module _ (now : IsWork s.m s.t s.live entry k r ts s.w) (stands : Stands (step_in_module s.m (next s.w.top.at))) where
    abbrev pub here : Bounds
    here = bounds_of s.m s.t s.live entry k r s.w

    abbrev pub counted : ℕ → ℕ → Bounds
    counted a q = record { qubits = k; results = r; allocated = a; returned = q }

    abbrev pub advance : Names Val → ℕ → ℕ → List ℕ → Phase → Work
    advance ns a q held ph = record { top = record { at = next s.w.top.at; names = ns }; below = s.w.below; allocated = a; held = held; returned = q; phase = ph }

    pub advanced : (us : List (Option Ty)) (ns : Names Val) (a q : ℕ) (held : List ℕ) (ph : Phase) → Grows here (counted a q) ts us
        → Rises ns → Each (IsValName s.m s.t (counted a q) us now.function) ns → HoldsBelow a held → NumbersRise held → IsPhaseOf s.t ph
        → IsWork s.m s.t s.live entry k r us (advance ns a q held ph)
    advanced us ns a q held ph g rises names below ordered phase = record {
      function = now.function;
      top = record { in_function = now.top.in_function; stands = stands; rises = rises; names = names };
      below = below-later s.m s.t here (counted a q) ts us g s.live entry s.w.top.at.func now.function s.w.below now.below;
      held = below;
      ordered = ordered;
      phase = phase;
    }

    pub names-later : (b : Bounds) (us : List (Option Ty)) → Grows here b ts us → Each (IsValName s.m s.t b us now.function) s.w.top.names
    names-later b us g = each-map (IsValName s.m s.t here ts now.function) (IsValName s.m s.t b us now.function) (name-later s.m s.t here b ts us g now.function) s.w.top.names now.top.names

    -- the names go on as they are
    pub passes : (ph : Phase) (us : List (Option Ty)) → Grows here here ts us → IsPhaseOf s.t ph → IsWork s.m s.t s.live entry k r us (record (passed s) { phase = ph })
    passes ph us g h = advanced us s.w.top.names s.w.allocated s.w.returned s.w.held ph g now.top.rises (names-later here us g) now.held now.ordered h

    pub passed-good : IsGood (goes s (passed s))
    passed-good = goes-good (passed s) (passes s.w.phase ts (same-bounds here ts) now.phase) (follows-at (passed s) s.w.top.at.index refl (omega arith) (omega arith))

    module _ (x : Option LocalId) (u : Ty) (name : Named now.function x u) where
      -- a result is bound
      pub bound-names : (b : Bounds) (us : List (Option Ty)) → Grows here b ts us → (a : Val) → IsOperand s.m s.t b us u a
          → Each (IsValName s.m s.t b us now.function) (put_result x a s.w.top.names)
      bound-names b us g a h = put-result-each (IsValName s.m s.t b us now.function) x a s.w.top.names (λ y e. record { type = u; is = name y e; typed = h }) (names-later b us g)

      pub bound-rises : (a : Val) → Rises (put_result x a s.w.top.names)
      bound-rises a = put-result-rises x a s.w.top.names now.top.rises

      binds : (us : List (Option Ty)) → Grows here here ts us → (a : Val) → IsOperand s.m s.t here us u a → IsWork s.m s.t s.live entry k r us (bound s x a)
      binds us g a h = advanced us (put_result x a s.w.top.names) s.w.allocated s.w.returned s.w.held s.w.phase g (bound-rises a) (bound-names here us g a h) now.held now.ordered now.phase

      pub bound-good : (a : Val) → IsOperand s.m s.t here ts u a → IsGood (goes s (bound s x a))
      bound-good a h = goes-good (bound s x a) (binds ts (same-bounds here ts) a h) (follows-at (bound s x a) s.w.top.at.index refl (omega arith) (omega arith))

      pub known-good : (v : Value) → IsValue s.m here u v → IsGood (gives_known s x v)
      known-good v h = bound-good (Known v) h

      module _ (fresh : s.fresh.0 ≡ length ts) (vary : MayVary s.t u) (i : Item) (e : gives i ≡ Some u ∷ []) where
        -- the result is that of an item
        pub dynamic-good : IsItem s.m s.t here ts s.w.held i → IsGood (gives_dynamic s x i)
        dynamic-good h =
            let w = binds (ts ++ (Some u ∷ [])) (more-types here ts (Some u ∷ [])) (Dynamic s.fresh) (vary, seam ts (Some u) [] s.fresh.0 fresh) in
            kept-good i (bound s x (Dynamic s.fresh)) (subst (λ us. IsWork s.m s.t s.live entry k r (ts ++ us) (bound s x (Dynamic s.fresh))) (sym e) w) (follows-at (bound s x (Dynamic s.fresh)) s.w.top.at.index refl (omega arith) (omega arith)) h

        pub kept-if-good : (ok : Bool) → (ok ≡ true → IsItem s.m s.t here ts s.w.held i) → IsGood (kept_if s x ok i)
        kept-if-good true h = dynamic-good (h refl)
        kept-if-good false h = tt
