-- Each instruction and each terminator of a module without faults.
use Rattle.std.proofs.Common.{◌≡◌, ℕ, suc, ◌+◌, ◌<◌, ◌==◌, Bool, true, false, ◌||◌, cond, is_some, Option, None, Some, List, [], ◌∷◌, length, map, slice_get, slice_set, refl, sym, ap, ◌∙◌, subst, arith}
use Rattle.std.proofs.lemmas.Bool.{and_parts}
use Rattle.std.proofs.lemmas.List.Folds.{list_all-map}
use Rattle.std.specs.List.{All, list_all}
use Rattle.std.specs.Prelude.{⊤, ◌≢◌, ◌&&◌, if◌then◌else◌}
use Rattle.ir_module.specs.declared.places.Point.{Point}
use Rattle.ir_module.specs.declared.tree.Block.{Block}
use Rattle.ir_module.specs.declared.tree.Function.{Function}
use Rattle.ir_module.specs.declared.tree.Inst.{Inst}
use Rattle.ir_module.specs.declared.tree.InstKind.{InstKind}
use Rattle.ir_module.specs.declared.tree.InstKind.TheVariants as kind
use Rattle.ir_module.specs.declared.tree.Module.{Module}
use Rattle.ir_module.specs.declared.tree.Operand.{Operand}
use Rattle.ir_module.specs.declared.tree.Phi.{Phi}
use Rattle.ir_module.specs.declared.tree.Term.{Term}
use Rattle.ir_module.specs.declared.tree.Term.TheVariants as term
use Rattle.ir_module.specs.Edges.{edges}
use Rattle.ir_module.specs.Operands.{operands_of, term_operands, step_operands}
use Rattle.ir_module.specs.Steps.{Step, PhiAt, InstAt, TermAt, step_at, step_in_module}
use Rattle.ir_module.specs.Tree.{block_at, blocks_of, blocks_or_none}
use Rattle.ir_values.specs.Arithmetic.{binary_of, compare_of, convert_of}
use Rattle.ir_values.specs.Calls.{class_of}
use Rattle.ir_values.specs.declared.int.Width.TheVariants.{W1}
use Rattle.ir_values.specs.declared.ty.Ty.{Ty}
use Rattle.ir_values.specs.declared.ty.Ty.TheVariants as ty
use Rattle.ir_values.specs.declared.ids.BlockId.{BlockId}
use Rattle.ir_values.specs.declared.class.Class.{Class}
use Rattle.ir_values.specs.declared.ids.FuncId.{FuncId}
use Rattle.ir_values.specs.declared.ids.LocalId.{LocalId}
use Rattle.ir_values.specs.declared.value.Value.{Value}
use Rattle.ir_values.specs.declared.value.Value.TheVariants as value
use Rattle.qir_meaning.specs.Effects.{bit_value, is_one}
use Rattle.ir_module.specs.Classes.{type_words, parameter_types, class_of_function}
use Rattle.ir_module.specs.Numbered.{Numbered, operand_in_range, is_written, step_in_range, call_types_whole, calls_whole}
use Rattle.ir_values.specs.ClassTypes.{HasTypes, ClassTellsTypes, WordsTellTypes}
use Rattle.ir_values.specs.Names.{name_text}
use Rattle.ir_values.specs.Types.{is_ty, IsTy, signature}
use Rattle.qir_meaning.specs.Moves.{first_point, given, declared, with_body, calls, performs, does, entry_for, phis_take, target_of, arrives, leads_to, jump, ends, step_move, move}
use Rattle.qir_meaning.specs.State.{Env, State, value_of, values_of}
use Rattle.type_check.specs.Faults.{Typed}
use Rattle.type_check.specs.Required.{required_qubits, required_results}
use Rattle.type_check.specs.Rules.{kind_agrees, result_agrees, sources, times, entry_blocks, entries_match, entries_agree, entries_fit, keeps_first, number_below, operand_known}
use Rattle.type_check.specs.Typing.{condition, callee_type, inst_wants, term_wants, phi_wants, wants, result_type, local_type, operand_has}
use Rattle.type_check.proofs.Equal.{same_type-is, is_void-is}
use Rattle.type_check.proofs.Facts.{StepKeeps, step-keeps, step-here, step-in, by-step}
use Rattle.typed_runs.specs.Fits.{FrameFits, StateFits}
use Rattle.typed_runs.specs.Values.{Bounds, bounds_at, IsOf, MayBe, EnvOf, AllOf}
use Rattle.typed_runs.proofs.Blocks.{among, leads, phi-step, block-in, block-of, body-of, edge-below, first-edge, later-edge, target-edge, in-sources, has-entry, times-cons}
use Rattle.typed_runs.proofs.Integers.{binary-width, convert-width}
use Rattle.typed_runs.proofs.Moves.{Good, on-value, on-values, on-int, then-waits, gives-good, on-computed, on-declared}
use Rattle.typed_runs.proofs.Numbers.{function-facts, some-block, all-types, range-at, whole-at, written-at, edges-in}
use Rattle.typed_runs.proofs.Values.{now, MayBeAll, WantsKeep, head-keeps, tail-keeps, env-set, wanted-of, operand-of, frame-of, by-int, by-two, by-one, by-three, by-more, by-func}

operands-wanted : (what : InstKind) → map (λ (w : Ty × Operand). w.1) (inst_wants what) ≡ operands_of what
operands-wanted (kind.Binary op flags t a b) = refl
operands-wanted (kind.Icmp p t a b) = refl
operands-wanted (kind.Convert c t a to) = refl
operands-wanted (kind.Select c t a u b) = refl
operands-wanted (kind.Call ret g args) = refl

terms-wanted : (t : Term) → map (λ (w : Ty × Operand). w.1) (term_wants t) ≡ term_operands t
terms-wanted term.RetVoid = refl
terms-wanted (term.Ret t a) = refl
terms-wanted (term.Br b) = refl
terms-wanted (term.CondBr c x y) = refl
terms-wanted (term.Switch t a default cases) = refl

entries-wanted : (t : Ty) (es : List (Operand × BlockId)) → map (λ (w : Ty × Operand). w.1) (map (λ (e : Operand × BlockId). (t, e.0)) es) ≡ map (λ (e : Operand × BlockId). e.0) es
entries-wanted t [] = refl
entries-wanted t (e ∷ es) = ap (λ l. e.0 ∷ l) (entries-wanted t es)

abbrev IsNoCall : InstKind → Type 0
IsNoCall (kind.Call ret g args) = ⊥
IsNoCall what = ⊤

-- what the rules and the numbers of a module say of the operands of a step
wants-keep : (m : Module) (bs : Bounds) (f : Function) (p : Point) (s : Step) (ws : List (Ty × Operand)) → StepKeeps m bs.qubits bs.results f p s → step_in_range m f s ≡ true → list_all is_written (step_operands s) ≡ true → wants f s ≡ ws → map (λ (w : Ty × Operand). w.1) ws ≡ step_operands s → WantsKeep m bs f ws
wants-keep m bs f p s ws keeps range written is same =
    let operands = and_parts _ _ range in
    record {
      has = subst (λ l. list_all (λ (w : Ty × Operand). operand_has m f w.1 w.0) l ≡ true) is keeps.has;
      below = subst (λ l. list_all (number_below bs.qubits bs.results) l ≡ true) is keeps.below;
      known = subst (λ l. list_all (λ (w : Ty × Operand). operand_known m w.1) l ≡ true) is keeps.known;
      range = sym (list_all-map (operand_in_range m f) (λ (w : Ty × Operand). w.1) ws) ∙ (ap (list_all (operand_in_range m f)) same ∙ operands.0);
      written = sym (list_all-map is_written (λ (w : Ty × Operand). w.1) ws) ∙ (ap (list_all is_written) same ∙ written);
    }

module _ (m : Module) (limit : ℕ) (numbered : Numbered m) (typed : Typed m limit) (class_law : ClassTellsTypes) (word_law : WordsTellTypes) where
  abbrev K : ℕ
  K = required_qubits m limit

  abbrev R : ℕ
  R = required_results m limit

  -- a function with a body begins at a block without phis
  no-phis : (g : FuncId) (f : Function) (c : Block) → slice_get m.funcs g.0 ≡ Some f → block_at f (record { 0 = 0 }) ≡ Some c → (phis : List Phi) → c.phis ≡ phis → length phis ≡ 0
  unfolding keeps_first
  no-phis g f c at e [] z = refl
  no-phis g f c at e (phi ∷ phis) z =
      let s : slice_get c.phis 0 ≡ Some phi = ap (λ l. slice_get l 0) z in
      let q = (step-keeps m limit typed (first_point g) f at (PhiAt phi) (phi-step f (first_point g) c e phi s)).first in
      cc

  pub first-block : (g : FuncId) (f : Function) (bs : List Block) → slice_get m.funcs g.0 ≡ Some f → f.blocks ≡ Some bs → 0 < length bs → (c : Block) × (block_at f (record { 0 = 0 }) ≡ Some c) × (length c.phis ≡ 0)
  first-block g f bs at e h = let c = block-of f bs e (record { 0 = 0 }) h in (c.0, c.1, no-phis g f c.0 at c.1 c.0.phis refl)

  module _ (p : Point) (env : Env) (t : Ty) (st : State) (b : StateFits m K R st) (fit : FrameFits m (bounds_at K R st) p env t) where
    abbrev here-bounds : Bounds
    here-bounds = bounds_at K R st

    module _ (more : p.index < length fit.block.phis + length fit.block.insts) where
      -- ---- instructions on integers, and select

      on-binary : (x : Option LocalId) (what : InstKind) → kind_agrees what ≡ true → result_agrees fit.func x (result_type what) ≡ true → IsNoCall what → (vs : List Value) → AllOf m here-bounds (map (λ (w : Ty × Operand). w.0) (inst_wants what)) vs → Good m K R p env t st (performs m p env st x what vs)
      on-binary x (kind.Binary op flags (ty.Int w) a c) ka ra nc vs h =
          by-two m here-bounds (λ us. Good m K R p env t st (performs m p env st x (kind.Binary op flags (ty.Int w) a c) us)) (ty.Int w) (ty.Int w) vs h (λ v u hv hu.
          by-int m here-bounds (λ y. Good m K R p env t st (performs m p env st x (kind.Binary op flags (ty.Int w) a c) (y ∷ u ∷ []))) w v hv (λ i ei.
          by-int m here-bounds (λ y. Good m K R p env t st (performs m p env st x (kind.Binary op flags (ty.Int w) a c) (value.Int i ∷ y ∷ []))) w u hu (λ j ej.
          on-computed m K R p env t st b fit more x (ty.Int w) ra i.width (ap ty.Int (sym ei)) (binary_of op flags i j) (binary-width op flags i j))))
      on-binary x (kind.Icmp pred (ty.Int w) a c) ka ra nc vs h =
          by-two m here-bounds (λ us. Good m K R p env t st (performs m p env st x (kind.Icmp pred (ty.Int w) a c) us)) (ty.Int w) (ty.Int w) vs h (λ v u hv hu.
          by-int m here-bounds (λ y. Good m K R p env t st (performs m p env st x (kind.Icmp pred (ty.Int w) a c) (y ∷ u ∷ []))) w v hv (λ i ei.
          by-int m here-bounds (λ y. Good m K R p env t st (performs m p env st x (kind.Icmp pred (ty.Int w) a c) (value.Int i ∷ y ∷ []))) w u hu (λ j ej.
          gives-good m K R p env t st b fit more x condition ra (bit_value (compare_of pred i j)) refl)))
      on-binary x (kind.Convert cv (ty.Int w) a (ty.Int u)) ka ra nc vs h =
          by-one m here-bounds (λ us. Good m K R p env t st (performs m p env st x (kind.Convert cv (ty.Int w) a (ty.Int u)) us)) (ty.Int w) vs h (λ v hv.
          by-int m here-bounds (λ y. Good m K R p env t st (performs m p env st x (kind.Convert cv (ty.Int w) a (ty.Int u)) (y ∷ []))) w v hv (λ i ei.
          gives-good m K R p env t st b fit more x (ty.Int u) ra (value.Int (convert_of cv i u)) (convert-width cv i u)))
      on-binary x (kind.Select c s a u d) ka ra nc vs h =
          by-three m here-bounds (λ us. Good m K R p env t st (performs m p env st x (kind.Select c s a u d) us)) condition s u vs h (λ v y z hv hy hz.
          by-int m here-bounds (λ q. Good m K R p env t st (performs m p env st x (kind.Select c s a u d) (q ∷ y ∷ z ∷ []))) W1 v hv (λ i ei.
          gives-good m K R p env t st b fit more x s ra (if is_one i then y else z) (chosen (is_one i) y z hy (subst (λ q. IsOf m here-bounds q z) (sym (same_type-is s u ka)) hz))))
        where
          chosen : (o : Bool) (y z : Value) → IsOf m here-bounds s y → IsOf m here-bounds s z → IsOf m here-bounds s (if o then y else z)
          chosen true y z hy hz = hy
          chosen false y z hy hz = hz
      on-binary x (kind.Call ret g args) ka ra nc vs h = absurd nc
      on-binary x what ka ra nc vs h = cc

      -- ---- calls

      tells-class : (ret : Ty) (us : List Ty) → IsTy ret → All IsTy us → (name : List ℕ) (c : Class) → class_of name (signature ret us) ≡ Some c → HasTypes c ret us
      unfolding ClassTellsTypes
      tells-class ret us i is name c e = class_law name ret us c i is e

      tells-types : (t u : Ty) (ts us : List Ty) → IsTy t → IsTy u → All IsTy ts → All IsTy us → signature t ts ≡ signature u us → (t ≡ u) × (ts ≡ us)
      unfolding WordsTellTypes
      tells-types t u ts us i j is js e = word_law t u ts us i j is js e

      on-class : (x : Option LocalId) (f : Function) (ret : Ty) (us : List Ty) → IsTy ret → All IsTy us → type_words f ≡ signature ret us → result_agrees fit.func x ret ≡ true → (c : Option Class) → class_of_function f ≡ c → is_some c ≡ true → (vs : List Value) → AllOf m here-bounds us vs → Good m K R p env t st (declared m p env st x f c us vs)
      on-class x f ret us i is w ra None e d vs h = cc
      on-class x f ret us i is w ra (Some c) e d vs h =
          on-declared m K R p env t st b fit more x ret ra (name_text f.name) us c vs (tells-class ret us i is (name_text f.name) c (subst (λ ws. class_of (name_text f.name) ws ≡ Some c) w e)) h

      on-body : (x : Option LocalId) (g : FuncId) (f : Function) (ret : Ty) (us : List Ty) → slice_get m.funcs g.0 ≡ Some f → IsTy ret → All IsTy us → type_words f ≡ signature ret us → result_agrees fit.func x ret ≡ true → (o : Option (List Block)) → f.blocks ≡ o → (is_some o || is_some (class_of_function f)) ≡ true → (vs : List Value) → AllOf m here-bounds us vs → Good m K R p env t st (with_body m p env st x g f o us vs)
      on-body x g f ret us at i is w ra None e d vs h = on-class x f ret us i is w ra (class_of_function f) refl d vs h
      on-body x g f ret us at i is w ra (Some bs) e d vs h =
          let n = function-facts m numbered g.0 f at in
          let s = tells-types f.ret ret (parameter_types f) us n.ret i n.types is w in
          let c = first-block g f bs at e (some-block f.blocks bs e n.bodies) in (
            now st,
            ret,
            record {
              func = f;
              is = at;
              block = c.0;
              here = c.1;
              from = omega (arith, c.2);
              to = omega arith;
              values = frame-of m here-bounds f.params f.locals vs n.params (subst (λ q. AllOf m here-bounds q vs) (sym s.1) h);
              returns = s.0;
            },
            then-waits m K R p env t st b fit more x ret ra,
            b,
          )

      on-call : (x : Option LocalId) (g : FuncId) (ret : Ty) (us : List Ty) → IsTy ret → All IsTy us → IsOf m here-bounds (ty.Func (signature ret us)) (value.Func g) → result_agrees fit.func x ret ≡ true → (vs : List Value) → AllOf m here-bounds us vs → Good m K R p env t st (calls m p env st x g (slice_get m.funcs g.0) us vs)
      on-call x g ret us i is q ra vs h =
          subst (λ o. Good m K R p env t st (calls m p env st x g o us vs)) (sym q.1) (on-body x g q.0 ret us q.1 i is q.2 ra q.0.blocks refl q.3 vs h)

      on-performs : (x : Option LocalId) (what : InstKind) → kind_agrees what ≡ true → result_agrees fit.func x (result_type what) ≡ true → call_types_whole what ≡ true → (vs : List Value) → AllOf m here-bounds (map (λ (w : Ty × Operand). w.0) (inst_wants what)) vs → Good m K R p env t st (performs m p env st x what vs)
      on-performs x (kind.Call ret g args) ka ra c vs h =
          by-more m here-bounds (λ us. Good m K R p env t st (performs m p env st x (kind.Call ret g args) us)) (callee_type ret args) (map (λ a. a.0) args) vs h (λ v us hv hus.
          by-func m here-bounds (λ y. Good m K R p env t st (performs m p env st x (kind.Call ret g args) (y ∷ us))) (signature ret (map (λ a. a.0) args)) v hv (λ d hd.
          let c' = and_parts (is_ty ret) (list_all (λ (a : Ty × Operand). is_ty a.0) args) c in on-call x d ret (map (λ a. a.0) args) c'.0 (all-types (λ (a : Ty × Operand). a.0) args c'.1) hd ra us hus))
      on-performs x (kind.Binary op flags s a d) ka ra c vs h = on-binary x (kind.Binary op flags s a d) ka ra tt vs h
      on-performs x (kind.Icmp pred s a d) ka ra c vs h = on-binary x (kind.Icmp pred s a d) ka ra tt vs h
      on-performs x (kind.Convert cv s a to) ka ra c vs h = on-binary x (kind.Convert cv s a to) ka ra tt vs h
      on-performs x (kind.Select c' s a u d) ka ra c vs h = on-binary x (kind.Select c' s a u d) ka ra tt vs h

      on-inst : (i : Inst) → StepKeeps m K R fit.func p (InstAt i) → step_in_range m fit.func (InstAt i) ≡ true → list_all is_written (operands_of i.what) ≡ true → call_types_whole i.what ≡ true → Good m K R p env t st (does m p env st i.result i.what)
      on-inst i keeps range written c =
          let shape = and_parts (kind_agrees i.what) (result_agrees fit.func i.result (result_type i.what)) keeps.shape in
          let o = wants-keep m here-bounds fit.func p (InstAt i) (inst_wants i.what) keeps range written refl (operands-wanted i.what) in
          on-values m K R p env t st b (values_of env (operands_of i.what)) (map (λ (w : Ty × Operand). w.0) (inst_wants i.what)) (performs m p env st i.result i.what)
          (subst (λ q. MayBeAll m here-bounds (map (λ (w : Ty × Operand). w.0) (inst_wants i.what)) (values_of env q)) (operands-wanted i.what) (wanted-of m here-bounds fit.func env (inst_wants i.what) fit.values o))
          (on-performs i.result i.what shape.0 shape.1 c)

    -- ---- edges

    -- a phi takes the operand of its entry, which has a value of its type or none
    abbrev Takes : Phi → Type 0
    Takes phi = (a : Operand) × (s : Ty) × (entry_for phi.entries p.block ≡ Some a) × (local_type fit.func phi.result ≡ Some s) × MayBe m here-bounds s (value_of env a)

    abbrev Found : Ty → Option Operand → Type 0
    Found s o = (a : Operand) × (o ≡ Some a) × MayBe m here-bounds s (value_of env a)

    abbrev pairs : Ty → List (Operand × BlockId) → List (Ty × Operand)
    pairs s es = map (λ (e : Operand × BlockId). (s, e.0)) es

    entry-at : (s : Ty) (e : Operand × BlockId) (es : List (Operand × BlockId)) (c : Bool) → MayBe m here-bounds s (value_of env e.0) → (times p.block.0 (entry_blocks es) ≢ 0 → Found s (entry_for es p.block)) → cond c 1 0 + times p.block.0 (entry_blocks es) ≢ 0 → Found s (cond c (Some e.0) (entry_for es p.block))
    entry-at s e es true h rest n = (e.0, refl, h)
    entry-at s e es false h rest n = rest (λ z. n (omega (arith, z)))

    entry-of : (s : Ty) (es : List (Operand × BlockId)) → WantsKeep m here-bounds fit.func (pairs s es) → times p.block.0 (entry_blocks es) ≢ 0 → Found s (entry_for es p.block)
    entry-of s [] h n = absurd (n refl)
    entry-of s (e ∷ es) h n =
        let c = times-cons p.block.0 e.1.0 (entry_blocks es) in
        entry-at s e es (e.1.0 == p.block.0) (operand-of m here-bounds fit.func env (s, e.0) fit.values (head-keeps m here-bounds fit.func (s, e.0) (pairs s es) h)) (entry-of s es (tail-keeps m here-bounds fit.func (s, e.0) (pairs s es) h)) (λ z. n (c ∙ z))

    typed-entry : (phi : Phi) (q : Point) (o : Option Ty) → local_type fit.func phi.result ≡ o → StepKeeps m K R fit.func q (PhiAt phi) → step_in_range m fit.func (PhiAt phi) ≡ true → list_all is_written (step_operands (PhiAt phi)) ≡ true → times p.block.0 (entry_blocks phi.entries) ≢ 0 → Takes phi
    typed-entry phi q None e keeps range written n = absurd (none-there (subst (λ o. is_some o ≡ true) e keeps.shape))
      where
        none-there : is_some {T = Ty} None ≡ true → ⊥
        none-there z = cc
    typed-entry phi q (Some s) e keeps range written n =
        let o = wants-keep m here-bounds fit.func q (PhiAt phi) (pairs s phi.entries) keeps range written (ap (λ o. phi_wants o phi) e) (entries-wanted s phi.entries) in
        let a = entry-of s phi.entries o n in
        (a.0, s, a.1, e, a.2)

    on-entry : (phi : Phi) (q : Point) (bs : List Block) → fit.func.blocks ≡ Some bs → among p.block.0 (sources q.block.0 0 bs) ≡ true → StepKeeps m K R fit.func q (PhiAt phi) → step_in_range m fit.func (PhiAt phi) ≡ true → list_all is_written (step_operands (PhiAt phi)) ≡ true → Takes phi
    unfolding entries_fit
    on-entry phi q bs e from keeps range written =
        let fits = subst (λ o. (entries_match (sources q.block.0 0 (blocks_or_none o)) phi.entries && entries_agree phi.entries) ≡ true) e keeps.entries in
        let counts = and_parts (entries_match (sources q.block.0 0 bs) phi.entries) (entries_agree phi.entries) fits in
        typed-entry phi q (local_type fit.func phi.result) refl keeps range written (has-entry (sources q.block.0 0 bs) (entry_blocks phi.entries) p.block.0 counts.0 from)

    on-phis : (to : BlockId) (c : Block) (phis : List Phi) (new : Env) → ((j : ℕ) (phi : Phi) → slice_get phis j ≡ Some phi → Takes phi) → EnvOf m here-bounds fit.func.locals new → ((e : Env) → EnvOf m here-bounds fit.func.locals e → Good m K R p env t st (arrives m p env st to c (Some e))) → Good m K R p env t st (arrives m p env st to c (phis_take phis p.block env new))
    on-phis to c [] new h hn more = more new hn
    on-phis to c (phi ∷ phis) new h hn more =
        let q = h 0 phi refl in
        subst (λ o. Good m K R p env t st (arrives m p env st to c (given o (λ a. phis_take phis p.block env (slice_set new phi.result.0 (value_of env a)))))) (sym q.2)
        (on-phis to c phis _ (λ j phi' e. h (suc j) phi' e) (env-set m here-bounds fit.func.locals new phi.result.0 q.1 (value_of env q.0) hn q.3 q.4) more)

    on-edge : (to : BlockId) → step_in_range m fit.func (TermAt fit.block.term) ≡ true → leads to (edges fit.block.term) ≡ true → Good m K R p env t st (jump m p env st to)
    on-edge to range e =
        let here = body-of fit.func p.block fit.block fit.here in
        let below = edge-below (length (blocks_of fit.func)) (edges fit.block.term) to (edges-in m fit.func fit.block.term range) e in
        let there = block-of fit.func here.0 here.1 to (subst (λ o. to.0 < length (blocks_or_none o)) here.1 below) in
        let from = in-sources to here.0 0 p.block.0 p.block.0 fit.block here.2 e (omega arith) in
        subst (λ o. Good m K R p env t st (leads_to m p env st to o)) (sym (block-in m p.func to fit.func fit.is ∙ there.1))
        (on-phis to there.0 there.0.phis env
        (λ j phi s.
        let q : Point = record { func = p.func; block = to; index = j } in
        let at = phi-step fit.func q there.0 there.1 phi s in
        on-entry phi q here.0 here.1 from (step-keeps m limit typed q fit.func fit.is (PhiAt phi) at) (subst (λ x. step_in_range m fit.func x ≡ true) at (range-at m numbered q fit.func fit.is)) (subst (λ x. list_all is_written (step_operands x) ≡ true) at (written-at m numbered q fit.func fit.is)))
        fit.values
        (λ new h. (
          now st,
          record {
            func = fit.func;
            is = fit.is;
            block = there.0;
            here = there.1;
            from = omega arith;
            to = omega arith;
            values = h;
            returns = fit.returns;
          },
          b,
        )))

    -- ---- terminators

    either : (c : Bool) (x y : BlockId) → Good m K R p env t st (jump m p env st x) → Good m K R p env t st (jump m p env st y) → Good m K R p env t st (jump m p env st (if c then x else y))
    either true x y h i = h
    either false x y h i = i

    along : (to : BlockId) (s : Term) → fit.block.term ≡ s → step_in_range m fit.func (TermAt s) ≡ true → leads to (edges s) ≡ true → Good m K R p env t st (jump m p env st to)
    along to s e range h = on-edge to (subst (λ x. step_in_range m fit.func (TermAt x) ≡ true) (sym e) range) (subst (λ x. leads to (edges x) ≡ true) (sym e) h)

    -- the operand that a terminator reads first
    first-of-term : (s : Term) (u : Ty) (a : Operand) (ws : List (Ty × Operand)) → term_wants s ≡ (u, a) ∷ ws → StepKeeps m K R fit.func p (TermAt s) → step_in_range m fit.func (TermAt s) ≡ true → list_all is_written (term_operands s) ≡ true → MayBe m here-bounds u (value_of env a)
    first-of-term s u a ws e keeps range written =
        let o = wants-keep m here-bounds fit.func p (TermAt s) ((u, a) ∷ ws) keeps range written e (ap (map (λ (w : Ty × Operand). w.1)) (sym e) ∙ terms-wanted s) in
        operand-of m here-bounds fit.func env (u, a) fit.values (head-keeps m here-bounds fit.func (u, a) ws o)

    on-term : (s : Term) → fit.block.term ≡ s → StepKeeps m K R fit.func p (TermAt s) → step_in_range m fit.func (TermAt s) ≡ true → list_all is_written (term_operands s) ≡ true → Good m K R p env t st (ends m p env st s)
    on-term term.RetVoid e keeps range written = sym fit.returns ∙ is_void-is fit.func.ret keeps.shape
    on-term (term.Ret u a) e keeps range written =
        on-value m K R p env t st b (value_of env a) u _ (first-of-term (term.Ret u a) u a [] refl keeps range written)
        (λ v hv. subst (λ q. IsOf m here-bounds q v) (same_type-is u fit.func.ret keeps.shape ∙ fit.returns) hv)
    on-term (term.Br to) e keeps range written = along to (term.Br to) e range (first-edge to [])
    on-term (term.CondBr a x y) e keeps range written =
        on-value m K R p env t st b (value_of env a) condition _ (first-of-term (term.CondBr a x y) condition a [] refl keeps range written) (λ v hv.
        on-int m K R p env t st b W1 v _ hv (λ i ei.
        either (is_one i) x y
        (along x (term.CondBr a x y) e range (first-edge x (y ∷ [])))
        (along y (term.CondBr a x y) e range (later-edge y x (y ∷ []) (first-edge y [])))))
    on-term (term.Switch (ty.Int w) a default cases) e keeps range written =
        on-value m K R p env t st b (value_of env a) (ty.Int w) _ (first-of-term (term.Switch (ty.Int w) a default cases) (ty.Int w) a [] refl keeps range written) (λ v hv.
        on-int m K R p env t st b w v _ hv (λ i ei.
        along (target_of i cases default) (term.Switch (ty.Int w) a default cases) e range (target-edge i cases default)))
    on-term (term.Switch u a default cases) e keeps range written = let q = keeps.shape in cc

    -- ---- one instruction

    pub move-good : Good m K R p env t st (move m p env st)
    unfolding move
    move-good =
        let here = step-here fit.func p fit.block fit.here in
        let line : step_in_module m p ≡ step_at fit.block p.index = step-in m p fit.func fit.is ∙ here in
        let range = range-at m numbered p fit.func fit.is in
        let whole = whole-at m numbered p fit.func fit.is in
        let written = written-at m numbered p fit.func fit.is in
        by-step fit.block p.index fit.from fit.to (Good m K R p env t st (step_move m p env st (step_in_module m p)))
        (λ i at s more.
        subst (λ q. Good m K R p env t st (step_move m p env st q)) (sym (line ∙ s))
        (on-inst more i (step-keeps m limit typed p fit.func fit.is (InstAt i) (here ∙ s)) (subst (λ x. step_in_range m fit.func x ≡ true) (here ∙ s) range) (subst (λ x. list_all is_written (step_operands x) ≡ true) (here ∙ s) written) (subst (λ x. calls_whole x ≡ true) (here ∙ s) whole)))
        (λ s.
        subst (λ q. Good m K R p env t st (step_move m p env st q)) (sym (line ∙ s))
        (on-term fit.block.term refl (step-keeps m limit typed p fit.func fit.is (TermAt fit.block.term) (here ∙ s)) (subst (λ x. step_in_range m fit.func x ≡ true) (here ∙ s) range) (subst (λ x. list_all is_written (step_operands x) ≡ true) (here ∙ s) written)))
