-- Calls: of functions with a body, whose frame is new, and of declared ones.
use Rattle.std.proofs.Common.{◌≡◌, ℕ, zero, suc, ◌+◌, true, is_some, Option, None, Some, List, [], ◌∷◌, length, map, take, slice_get, refl, sym, ap, ◌∙◌, subst, arith}
use Rattle.std.proofs.lemmas.Bool.{true≢false}
use Rattle.std.specs.List.{All}
use Rattle.ir_module.specs.declared.tree.Block.{Block}
use Rattle.ir_module.specs.declared.tree.Function.{Function}
use Rattle.ir_module.specs.declared.tree.Inst.{Inst}
use Rattle.ir_module.specs.Classes.{class_of_function, parameter_types, type_words}
use Rattle.ir_module.specs.Numbered.{Numbered}
use Rattle.ir_module.specs.Steps.{InstAt, step_in_module}
use Rattle.ir_values.specs.declared.class.Class.{Class}
use Rattle.ir_values.specs.declared.ids.FuncId.{FuncId}
use Rattle.ir_values.specs.declared.name.Name.{Name}
use Rattle.ir_values.specs.declared.ty.Ty.{Ty}
use Rattle.ir_values.specs.declared.ty.Ty.TheVariants as ty
use Rattle.ir_values.specs.declared.value.Value.TheVariants as value
use Rattle.ir_values.specs.Calls.{class_of}
use Rattle.ir_values.specs.ClassTypes.{ClassTellsTypes, HasTypes, WordsTellTypes}
use Rattle.ir_values.specs.Names.{name_text}
use Rattle.ir_values.specs.Types.{IsTy, signature}
use Rattle.qir_meaning.specs.Moves.{first_point}
use Rattle.qir_meaning.specs.State.{next}
use Rattle.kept_items.specs.declared.val.Val.{Val}
use Rattle.static_steps.specs.declared.config.Config.{Config}
use Rattle.static_steps.specs.declared.work.Work.{Work}
use Rattle.static_steps.specs.declared.work.WorkFrame.{WorkFrame}
use Rattle.static_steps.specs.Calls.{body_turn, calls_turn, enters, parameters}
use Rattle.static_steps.specs.Configurations.{Bounds, Calls, CanBeCalled, by_body, by_class, Each, IsOther, IsValue, Rises, RisesFrom, Stands, type_of_some}
use Rattle.static_steps.specs.Settings.{Setting, move_to, next_here}
use Rattle.static_steps.specs.Steps.{start_of}
use Rattle.static_steps.specs.Values.{drop_result, keep}
use Rattle.static_steps.specs.Works.{shaped, shaped_frames}
use Rattle.type_check.specs.Faults.{Typed}
use Rattle.type_check.specs.Required.{required_qubits, required_results}
use Rattle.type_check.specs.Rules.{result_agrees}
use Rattle.typed_runs.proofs.Numbers.{function-facts, some-block}
use Rattle.typed_runs.proofs.Steps.{first-block}
use Rattle.valid_steps.proofs.Declared.{declared-good}
use Rattle.valid_steps.proofs.Names.{drop-result-each, drop-result-rises, dropped-each, each-map, filter-each, filter-rises, kept-each}
use Rattle.valid_steps.proofs.Operands.{AreVals}
use Rattle.valid_steps.proofs.Places.{first-stands}
use Rattle.valid_steps.proofs.Turns.{Follows, IsGood, goes-good}
use Rattle.valid_steps.proofs.Works.{IsTop, IsValName, IsWork, WaitsFor, bounds_of}

-- ---- the names of a new frame

parameters-from : (n : ℕ) (vs : List Val) → RisesFrom n (parameters (suc n) vs)
parameters-from n [] = tt
parameters-from n (v ∷ vs) = (omega arith, parameters-from (suc n) vs)

parameters-rise : (n : ℕ) (vs : List Val) → Rises (parameters n vs)
parameters-rise n [] = tt
parameters-rise n (v ∷ vs) = parameters-from n vs

called : (f : Function) → CanBeCalled f → f.blocks ≡ None → is_some (class_of_function f) ≡ true
called f (by_body h) e = absurd (true≢false (sym h ∙ ap is_some e))
called f (by_class h) e = h

module _ (s : Setting) (entry : FuncId) (limit : ℕ) (numbered : Numbered s.m) (typed : Typed s.m limit) (class_law : ClassTellsTypes) (word_law : WordsTellTypes)
    (ts : List (Option Ty)) where
  abbrev K : ℕ
  K = required_qubits s.m limit

  abbrev R : ℕ
  R = required_results s.m limit

  tells-class : (ret : Ty) (us : List Ty) → IsTy ret → All IsTy us → (name : List ℕ) (c : Class) → class_of name (signature ret us) ≡ Some c → HasTypes c ret us
  unfolding ClassTellsTypes
  tells-class ret us i is name c e = class_law name ret us c i is e

  tells-types : (t u : Ty) (qs us : List Ty) → IsTy t → IsTy u → All IsTy qs → All IsTy us → signature t qs ≡ signature u us → (t ≡ u) × (qs ≡ us)
  unfolding WordsTellTypes
  tells-types t u qs us i j is js e = word_law t u qs us i j is js e

  module _ (now : IsWork s.m s.t s.live entry K R ts s.w) (stands : Stands (step_in_module s.m (next s.w.top.at))) (fresh : s.fresh.0 ≡ length ts) where
    abbrev here : Bounds
    here = bounds_of s.m s.t s.live entry K R s.w

    abbrev Vals : List Ty → List Val → Type 0
    Vals us vs = AreVals s.m s.t here ts us vs

    -- parameters have the types of the first locals
    parameters-typed : (f : Function) (n count : ℕ) (ls : List (Name × Ty)) (vs : List Val)
        → ((i : ℕ) (l : Name × Ty) → slice_get ls i ≡ Some l → slice_get f.locals (n + i) ≡ Some l)
        → Vals (map (λ (l : Name × Ty). l.1) (take count ls)) vs → Each (IsValName s.m s.t here ts f) (parameters n vs)
    parameters-typed f n zero ls [] at h = tt
    parameters-typed f n zero ls (v ∷ vs) at h = absurd h
    parameters-typed f n (suc count) [] [] at h = tt
    parameters-typed f n (suc count) [] (v ∷ vs) at h = absurd h
    parameters-typed f n (suc count) (l ∷ ls) [] at h = absurd h
    parameters-typed f n (suc count) (l ∷ ls) (v ∷ vs) at h =
        let z : n + 0 ≡ n = omega arith in (
          record { type = l.1; is = ap type_of_some (ap (slice_get f.locals) (sym z) ∙ at 0 l refl); typed = h.0 },
          parameters-typed f (suc n) count ls vs (λ i q e. let c : suc n + i ≡ n + suc i = omega arith in ap (slice_get f.locals) c ∙ at (suc i) q e) h.1,
        )

    module _ (i : Inst) (is : step_in_module s.m s.w.top.at ≡ InstAt i) where
      abbrev waiting : WorkFrame
      waiting = record { at = next_here s; names = keep (s.live (next_here s)) (drop_result i.result s.w.top.names) }

      abbrev new : FuncId → List Val → Work
      new g vs = record s.w { top = record { at = first_point g; names = parameters 0 vs }; below = waiting ∷ s.w.below }

      dropped : Each (IsValName s.m s.t here ts now.function) (drop_result i.result s.w.top.names)
      dropped = drop-result-each (IsValName s.m s.t here ts now.function) i.result s.w.top.names now.top.names

      wait-names : Each (λ x a. IsValName s.m s.t here ts now.function x a × (s.live (next_here s) x ≡ true)) waiting.names
      wait-names = kept-each (IsValName s.m s.t here ts now.function) (s.live (next_here s)) (drop_result i.result s.w.top.names) dropped

      wait-top : IsTop s.m s.t here ts now.function waiting
      wait-top = record {
        in_function = now.top.in_function;
        stands = stands;
        rises = filter-rises (λ e. s.live (next_here s) e.0) (drop_result i.result s.w.top.names) (drop-result-rises i.result s.w.top.names now.top.rises);
        names = each-map (λ x a. IsValName s.m s.t here ts now.function x a × (s.live (next_here s) x ≡ true)) (IsValName s.m s.t here ts now.function) (λ x a h. h.0) waiting.names wait-names;
      }

      waits : (f : Function) → Calls f.ret i.what → WaitsFor s.m f waiting
      waits f c = record {
        call = s.w.top.at;
        follows = refl;
        instruction = i;
        is = is;
        calls = c;
        without_result = filter-each (λ y a. IsOther i.result y) (λ e. s.live (next_here s) e.0) (drop_result i.result s.w.top.names) (dropped-each i.result s.w.top.names);
      }

      no-frames : (g : FuncId) (vs : List Val) → ¬ ((move_to s.live (new g vs)).to ≡ start_of entry)
      no-frames g vs e = let z : (shaped waiting ∷ shaped_frames s.w.below) ≡ [] = ap (λ (c : Config). c.below) e in cc

      follows : (g : FuncId) (vs : List Val) → Follows s entry K R ts (new g vs)
      follows g vs = record { no_start = λ e. no-frames g vs e; allocated = omega arith; returned = omega arith }

      enters-good : (g : FuncId) (f : Function) (bs : List Block) (vs : List Val) → slice_get s.m.funcs g.0 ≡ Some f → f.blocks ≡ Some bs → Calls f.ret i.what → Vals (parameter_types f) vs
          → IsGood s entry K R ts (enters s i.result g vs)
      enters-good g f bs vs at e c h =
          let n = function-facts s.m numbered g.0 f at in
          let b = first-block s.m limit numbered typed class_law word_law g f bs at e (some-block f.blocks bs e n.bodies) in
          goes-good s entry K R ts (new g vs)
          (record {
            function = f;
            top = record {
              in_function = at;
              stands = first-stands s.m g f at b.0 b.1 b.2;
              rises = parameters-rise 0 vs;
              names = parameters-typed f 0 f.params f.locals vs (λ j l q. let z : 0 + j ≡ j = omega arith in ap (slice_get f.locals) z ∙ q) h;
            };
            below = (
              now.function,
              wait-top,
              each-map (λ x a. IsValName s.m s.t here ts now.function x a × (s.live (next_here s) x ≡ true)) (λ x a. s.live (next_here s) x ≡ true) (λ x a h. h.1) waiting.names wait-names,
              waits f c,
              now.below,
            );
            held = now.held;
            ordered = now.ordered;
            phase = now.phase;
          })
          (follows g vs)

      module _ (ret : Ty) (us : List Ty) (j : IsTy ret) (js : All IsTy us) (agrees : result_agrees now.function i.result ret ≡ true) (calls : (u : Ty) → ret ≡ u → Calls u i.what) where
        body-good : (g : FuncId) (f : Function) → slice_get s.m.funcs g.0 ≡ Some f → CanBeCalled f → type_words f ≡ signature ret us → (o : Option (List Block)) → f.blocks ≡ o → (vs : List Val) → Vals us vs
            → IsGood s entry K R ts (body_turn s i.result g f o us vs)
        body-good g f at can words None e vs h =
            declared-good s entry K R ts now stands fresh i.result ret agrees f us words (class_of_function f) refl (called f can e)
            (λ c d. tells-class ret us j js (name_text f.name) c (subst (λ ws. class_of (name_text f.name) ws ≡ Some c) words d)) vs h
        body-good g f at can words (Some bs) e vs h =
            let n = function-facts s.m numbered g.0 f at in
            let z = tells-types f.ret ret (parameter_types f) us n.ret j n.types js words in
            enters-good g f bs vs at e (calls f.ret (sym z.0)) (subst (λ q. Vals q vs) (sym z.1) h)

        pub calls-good : (g : FuncId) → IsValue s.m here (ty.Func (signature ret us)) (value.Func g) → (vs : List Val) → Vals us vs
            → IsGood s entry K R ts (calls_turn s i.result g (slice_get s.m.funcs g.0) us vs)
        calls-good g q vs h =
            subst (λ o. IsGood s entry K R ts (calls_turn s i.result g o us vs)) (sym q.1.there) (body-good g q.0 q.1.there q.1.called q.2 q.0.blocks refl vs h)
