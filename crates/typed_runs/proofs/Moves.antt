-- What one instruction makes of a frame and a state that fit.
use Rattle.std.proofs.Common.{◌≡◌, ℕ, ◌+◌, ◌<◌, Bool, true, false, not, Option, None, Some, Result, Ok, Err, List, [], ◌∷◌, length, refl, sym, ◌∙◌, subst, arith}
use Rattle.std.proofs.lemmas.Bool.{and_parts}
use Rattle.std.specs.List.{list_all}
use Rattle.std.specs.Prelude.{if◌then◌else◌, count_by}
use Rattle.backend_api.specs.declared.operation.Answer.{Answer}
use Rattle.backend_api.specs.declared.operation.Answer.TheVariants as answer
use Rattle.backend_api.specs.declared.operation.Arg.{Arg}
use Rattle.backend_api.specs.declared.operation.Arg.TheVariants as arg
use Rattle.backend_api.specs.declared.operation.Op.{Op}
use Rattle.backend_api.specs.declared.operation.QubitRef.TheVariants as qubit
use Rattle.backend_api.specs.declared.operation.ResultRef.{ResultRef}
use Rattle.backend_api.specs.declared.operation.ResultRef.TheVariants as result
use Rattle.ir_module.specs.declared.places.Point.{Point}
use Rattle.ir_module.specs.declared.tree.Module.{Module}
use Rattle.ir_values.specs.declared.int.Width.{Width}
use Rattle.ir_values.specs.declared.int.Width.TheVariants.{W1, W64}
use Rattle.ir_values.specs.declared.ty.Ty.{Ty}
use Rattle.ir_values.specs.declared.ty.Ty.TheVariants as ty
use Rattle.ir_values.specs.declared.cause.Cause.{Cause}
use Rattle.ir_values.specs.declared.class.Class.{Class}
use Rattle.ir_values.specs.declared.class.Class.TheVariants as class
use Rattle.ir_values.specs.declared.ids.LocalId.{LocalId}
use Rattle.ir_values.specs.declared.value.Value.{Value}
use Rattle.ir_values.specs.declared.value.Value.TheVariants as value
use Rattle.ir_values.specs.declared.ids.GlobalId.{GlobalId}
use Rattle.ir_values.specs.Int.{IntValue}
use Rattle.output_records.specs.declared.record.Shown.{Shown}
use Rattle.qir_meaning.specs.Effects.{same_bit, bit_value, operation, first_result, argument, arguments, known_bit, reading, label_of, gives, releases, gate, measure, measure_into, recorded, declared_call, measure_returning}
use Rattle.qir_meaning.specs.Moves.{with_value, with_values, with_int, computes}
use Rattle.qir_meaning.specs.State.{Env, State, Move, Next, Enter, Back, Halt, Stuck, next, bind, is_held, bit_of, with_event, with_bit, with_allocation, without, with_record}
use Rattle.type_check.specs.Rules.{result_agrees}
use Rattle.type_check.specs.Typing.{local_type, is_of_type}
use Rattle.ir_module.specs.Numbered.{is_void}
use Rattle.ir_values.specs.ClassTypes.{HasTypes, is_operand_type, is_result_type}
use Rattle.typed_runs.specs.Fits.{LabelIn, FrameFits, WaitFits, StateFits}
use Rattle.typed_runs.specs.Values.{Bounds, bounds_at, IsOf, MayBe, EnvOf, AllOf, Gives}
use Rattle.typed_runs.proofs.Below.{OpBelow, StopBelow, args-below, and-result, ArgOf, ArgsOf, result-of, allocation-fits, event-fits, record-fits, release-fits, same-done}
use Rattle.typed_runs.proofs.Integers.{KeepsWidth}
use Rattle.typed_runs.proofs.Values.{Later, now, same-numbers, one-allocated, one-measured, MayBeAll, env-later, env-set, local-has, by-int, by-double, by-one, by-two}

no-result : (q : ResultRef) → ◌≡◌ {A = Option ResultRef} None (Some q) → ⊥
no-result q e = cc

module _ (m : Module) (k r : ℕ) where
  -- what a move leads to from a frame of a function that returns t, and a state
  abbrev pub Good : Point → Env → Ty → State → Move → Type 0
  Good p env t st (Next p' env' st') = Later st st' × FrameFits m (bounds_at k r st') p' env' t × StateFits m k r st'
  Good p env t st (Enter q env' x st') =
      Later st st' × (u : Ty) × FrameFits m (bounds_at k r st') q env' u × WaitFits m (bounds_at k r st') u (record { at = next p; env = env; result = x }) t × StateFits m k r st'
  Good p env t st (Back v) = Gives m (bounds_at k r st) t v
  Good p env t st (Halt stop st') = StateFits m k r st' × StopBelow k r stop
  Good p env t st Stuck = ⊥

  module _ (p : Point) (env : Env) (t : Ty) (st : State) (b : StateFits m k r st) where
    abbrev here : Bounds
    here = bounds_at k r st

    pub on-value : (o : Option Value) (u : Ty) (go : Value → Move) → MayBe m here u o → ((v : Value) → IsOf m here u v → Good p env t st (go v)) → Good p env t st (with_value o st go)
    on-value None u go h more = (b, tt)
    on-value (Some v) u go h more = more v h

    pub on-values : (o : Option (List Value)) (us : List Ty) (go : List Value → Move) → MayBeAll m here us o → ((vs : List Value) → AllOf m here us vs → Good p env t st (go vs)) → Good p env t st (with_values o st go)
    on-values None us go h more = (b, tt)
    on-values (Some vs) us go h more = more vs h

    pub on-int : (w : Width) (v : Value) (go : IntValue → Move) → IsOf m here (ty.Int w) v → ((i : IntValue) → i.width ≡ w → Good p env t st (go i)) → Good p env t st (with_int v go)
    on-int w v go h more = by-int m here (λ y. Good p env t st (with_int y go)) w v h more

    if-held : (c : Bool) (x y : Move) → Good p env t st x → Good p env t st y → Good p env t st (if c then x else y)
    if-held true x y h i = h
    if-held false x y h i = i

    on-argument : (u : Ty) (v : Value) (go : Arg → Move) → is_operand_type u ≡ true → IsOf m here u v → ((a : Arg) → ArgOf k r u a → Good p env t st (go a)) → Good p env t st (argument st u v go)
    on-argument ty.Qubit (value.Id i) go o h more = more (arg.Qubit (qubit.Id i)) h
    on-argument ty.Qubit (value.Alloc j) go o h more = if-held (is_held st j) _ _ (more (arg.Qubit (qubit.Alloc j)) tt) (b, tt)
    on-argument ty.Qubit v go o h more = absurd h
    on-argument ty.Res (value.Id i) go o h more = more (arg.Res (result.Id i)) h
    on-argument ty.Res (value.Measured i) go o h more = more (arg.Res (result.Measured i)) tt
    on-argument ty.Res value.One go o h more = (b, tt)
    on-argument ty.Res value.Zero go o h more = (b, tt)
    on-argument ty.Res v go o h more = absurd h
    on-argument ty.Double (value.Double d) go o h more = more (arg.Double d) tt
    on-argument ty.Double v go o h more = absurd h
    on-argument (ty.Int w) (value.Int i) go o h more = more (arg.Int i) tt
    on-argument (ty.Int w) v go o h more = absurd h
    on-argument u v go o h more = cc

    on-arguments : (us : List Ty) (vs : List Value) (go : List Arg → Move) → list_all is_operand_type us ≡ true → AllOf m here us vs → ((as' : List Arg) → ArgsOf k r us as' → Good p env t st (go as')) → Good p env t st (arguments st us vs go)
    on-arguments [] [] go o h more = more [] tt
    on-arguments [] (v ∷ vs) go o h more = absurd h
    on-arguments (u ∷ us) [] go o h more = absurd h
    on-arguments (u ∷ us) (v ∷ vs) go o h more = let o' = and_parts (is_operand_type u) (list_all is_operand_type us) o in on-argument u v _ o'.0 h.0 (λ a ha. on-arguments us vs _ o'.1 h.1 (λ as' has. more (a ∷ as') (ha, has)))

    on-bit : (o : Option Bool) (go : Bool → Move) → ((c : Bool) → Good p env t st (go c)) → Good p env t st (known_bit st o go)
    on-bit None go more = (b, tt)
    on-bit (Some c) go more = more c

    on-reading : (v : Value) (go : Bool → Move) → IsOf m here ty.Res v → ((c : Bool) → Good p env t st (go c)) → Good p env t st (reading st v go)
    on-reading value.One go h more = more true
    on-reading value.Zero go h more = more false
    on-reading (value.Id i) go h more = on-bit (bit_of st (result.Id i)) go more
    on-reading (value.Measured i) go h more = on-bit (bit_of st (result.Measured i)) go more
    on-reading v go h more = absurd h

    on-label : (v : Value) (go : Option GlobalId → Move) → IsOf m here ty.Text v → ((l : Option GlobalId) → LabelIn m l → Good p env t st (go l)) → Good p env t st (label_of v go)
    on-label (value.Label g) go h more = more (Some g) h
    on-label value.NoLabel go h more = more None tt
    on-label v go h more = absurd h

    module _ (fit : FrameFits m here p env t) (more : p.index < length fit.block.phis + length fit.block.insts) where
      -- the next instruction, with these values and in a later state
      then-fits : (st' : State) (env' : Env) → EnvOf m (bounds_at k r st') fit.func.locals env' → FrameFits m (bounds_at k r st') (next p) env' t
      then-fits st' env' h = record {
        func = fit.func;
        is = fit.is;
        block = fit.block;
        here = fit.here;
        from = omega (arith, fit.from);
        to = omega (arith, more);
        values = h;
        returns = fit.returns;
      }

      module _ (x : Option LocalId) (ret : Ty) (named : result_agrees fit.func x ret ≡ true) where
        bound : (y : Option LocalId) → result_agrees fit.func y ret ≡ true → (st' : State) → Later st st' → (v : Value) → IsOf m (bounds_at k r st') ret v → EnvOf m (bounds_at k r st') fit.func.locals (bind env y v)
        bound None e st' l v h = env-later m k r st st' l fit.func.locals env fit.values
        bound (Some y) e st' l v h = env-set m (bounds_at k r st') fit.func.locals env y.0 ret (Some v) (env-later m k r st st' l fit.func.locals env fit.values) (local-has m here (local_type fit.func y) ret (and_parts (is_of_type (local_type fit.func y) ret) (not (is_void ret)) e).0) h

        -- while a called function runs this frame waits for what it returns
        pub then-waits : WaitFits m here ret (record { at = next p; env = env; result = x }) t
        unfolding then-fits
        then-waits = record { fits = then-fits st env fit.values; named = named }

        gives-later : (st' : State) → Later st st' → (v : Value) → IsOf m (bounds_at k r st') ret v → StateFits m k r st' → Good p env t st (gives p env x st v st')
        gives-later st' l v h b' = (l, then-fits st' (bind env x v) (bound x named st' l v h), b')

        pub gives-good : (v : Value) → IsOf m here ret v → Good p env t st (gives p env x st v st)
        gives-good v h = gives-later st (now st) v h b

        stays : (st' : State) → Later st st' → StateFits m k r st' → Later st st' × FrameFits m (bounds_at k r st') (next p) env t × StateFits m k r st'
        stays st' l b' = (l, then-fits st' env (env-later m k r st st' l fit.func.locals env fit.values), b')

        -- ---- integers

        pub on-computed : (w : Width) → ret ≡ ty.Int w → (o : Result IntValue Cause) → KeepsWidth w o → Good p env t st (computes m p env st x o)
        on-computed w e (Ok i) h = gives-good (value.Int i) (subst (λ u. IsOf m here u (value.Int i)) (sym e) h)
        on-computed w e (Err why) h = (b, tt)

        -- ---- declared functions

        on-gate : (op : Op) → OpBelow k r op → (l : List Answer) → Good p env t st (gate p env x st op l)
        on-gate op o [] = (b, o)
        on-gate op o (answer.Done ∷ rest) = stays (with_event st op answer.Done rest) (same-numbers refl refl) (event-fits m k r st op answer.Done rest b o)
        on-gate op o (answer.Bit c ∷ rest) = (b, o)

        on-measure : (op : Op) → OpBelow k r op → (q : ResultRef) (l : List Answer) (go : State → Move) → ((st' : State) → Later st st' → StateFits m k r st' → Good p env t st (go st')) → Good p env t st (measure p env x st op q l go)
        on-measure op o q [] go more = (b, o)
        on-measure op o q (answer.Done ∷ rest) go more = (b, o)
        on-measure op o q (answer.Bit c ∷ rest) go more = more (with_bit (with_event st op (answer.Bit c) rest) q c) (same-numbers refl refl) (same-done m k r (event-fits m k r st op (answer.Bit c) rest b o) refl refl b.held)

        on-release : (v : Value) → IsOf m here ty.Qubit v → Good p env t st (releases p env x st v)
        on-release (value.Id i) h = (b, tt)
        on-release (value.Alloc j) h = if-held (is_held st j) _ _ (stays (without st j) (same-numbers refl refl) (release-fits m k r st j b)) (b, tt)
        on-release v h = absurd h

        on-record : (l : Value) → IsOf m here ty.Text l → (what : Shown) → Good p env t st (recorded p env x st l what)
        on-record l h what = on-label l _ h (λ g hg. stays (with_record st (record { shown = what; label = g })) (same-numbers refl refl) (record-fits m k r st what g b hg))

        on-into : (name : List ℕ) (us : List Ty) (as' : List Arg) → ArgsOf k r us as' → (o : Option ResultRef) → first_result as' ≡ o → count_by is_result_type us ≡ 1 → Good p env t st (measure_into p env x st name as' o)
        on-into name us as' h None e hr = let q = result-of k r us as' h hr in absurd (no-result q.0 (sym e ∙ q.1))
        on-into name us as' h (Some q) e hr = on-measure (operation name as') (args-below k r us as' h) q st.answers _ (λ st' l b'. stays st' l b')

        on-returning : (as' : List Arg) → ArgsOf k r (ty.Qubit ∷ []) as' → ret ≡ ty.Res → Good p env t st (measure_returning p env x st as')
        on-returning as' h e =
            let q : ResultRef = result.Measured st.measured in
            let o = args-below k r (ty.Qubit ∷ []) as' h in
            on-measure _ (and-result k r as' q o tt) q st.answers _ (λ st' l b'.
            let v : IsOf m (bounds_at k r (record st' { measured = st.measured + 1 })) ty.Res (value.Measured st.measured) = omega arith in
            gives-later (record st' { measured = st.measured + 1 }) (one-measured st st' l) (value.Measured st.measured) (subst (λ u. IsOf m (bounds_at k r (record st' { measured = st.measured + 1 })) u (value.Measured st.measured)) (sym e) v) (same-done m k r b' refl refl b'.held))

        -- the call of a declared function, whose types are those of its class
        pub on-declared : (name : List ℕ) (us : List Ty) (c : Class) (vs : List Value) → HasTypes c ret us → AllOf m here us vs → Good p env t st (declared_call p env x st name us c vs)
        on-declared name us class.Init vs h hv = stays st (now st) b
        on-declared name us class.Alloc vs h hv =
            let v : IsOf m (bounds_at k r (with_allocation st)) ty.Qubit (value.Alloc st.allocated) = omega arith in
            gives-later (with_allocation st) (one-allocated st) (value.Alloc st.allocated) (subst (λ u. IsOf m (bounds_at k r (with_allocation st)) u (value.Alloc st.allocated)) (sym h.0) v) (allocation-fits m k r st b)
        on-declared name us class.Release vs h hv =
            by-one m here (λ ws. Good p env t st (declared_call p env x st name us class.Release ws)) ty.Qubit vs (subst (λ q. AllOf m here q vs) h.1 hv) (λ v hv. on-release v hv)
        on-declared name us class.One vs h hv = gives-good value.One (subst (λ u. IsOf m here u value.One) (sym h.0) tt)
        on-declared name us class.Zero vs h hv = gives-good value.Zero (subst (λ u. IsOf m here u value.Zero) (sym h.0) tt)
        on-declared name us class.Equal vs h hv =
            by-two m here (λ ws. Good p env t st (declared_call p env x st name us class.Equal ws)) ty.Res ty.Res vs (subst (λ q. AllOf m here q vs) h.1 hv) (λ v w hv hw.
            on-reading v _ hv (λ c. on-reading w _ hw (λ d. gives-good (bit_value (same_bit c d)) (subst (λ u. IsOf m here u (bit_value (same_bit c d))) (sym h.0) refl))))
        on-declared name us class.Count vs h hv = stays st (now st) b
        on-declared name us class.Read vs h hv =
            by-one m here (λ ws. Good p env t st (declared_call p env x st name us class.Read ws)) ty.Res vs (subst (λ q. AllOf m here q vs) h.1 hv) (λ v hv.
            on-reading v _ hv (λ c. gives-good (bit_value c) (subst (λ u. IsOf m here u (bit_value c)) (sym h.0) refl)))
        on-declared name us class.Tuple vs h hv =
            by-two m here (λ ws. Good p env t st (declared_call p env x st name us class.Tuple ws)) (ty.Int W64) ty.Text vs (subst (λ q. AllOf m here q vs) h.1 hv) (λ v l hv hl.
            by-int m here (λ y. Good p env t st (declared_call p env x st name us class.Tuple (y ∷ l ∷ []))) W64 v hv (λ i e. on-record l hl _))
        on-declared name us class.Array vs h hv =
            by-two m here (λ ws. Good p env t st (declared_call p env x st name us class.Array ws)) (ty.Int W64) ty.Text vs (subst (λ q. AllOf m here q vs) h.1 hv) (λ v l hv hl.
            by-int m here (λ y. Good p env t st (declared_call p env x st name us class.Array (y ∷ l ∷ []))) W64 v hv (λ i e. on-record l hl _))
        on-declared name us class.ResRecord vs h hv =
            by-two m here (λ ws. Good p env t st (declared_call p env x st name us class.ResRecord ws)) ty.Res ty.Text vs (subst (λ q. AllOf m here q vs) h.1 hv) (λ v l hv hl.
            on-reading v _ hv (λ c. on-record l hl _))
        on-declared name us class.BoolRecord vs h hv =
            by-two m here (λ ws. Good p env t st (declared_call p env x st name us class.BoolRecord ws)) (ty.Int W1) ty.Text vs (subst (λ q. AllOf m here q vs) h.1 hv) (λ v l hv hl.
            by-int m here (λ y. Good p env t st (declared_call p env x st name us class.BoolRecord (y ∷ l ∷ []))) W1 v hv (λ i e. on-record l hl _))
        on-declared name us class.IntRecord vs h hv =
            by-two m here (λ ws. Good p env t st (declared_call p env x st name us class.IntRecord ws)) (ty.Int W64) ty.Text vs (subst (λ q. AllOf m here q vs) h.1 hv) (λ v l hv hl.
            by-int m here (λ y. Good p env t st (declared_call p env x st name us class.IntRecord (y ∷ l ∷ []))) W64 v hv (λ i e. on-record l hl _))
        on-declared name us class.DoubleRecord vs h hv =
            by-two m here (λ ws. Good p env t st (declared_call p env x st name us class.DoubleRecord ws)) ty.Double ty.Text vs (subst (λ q. AllOf m here q vs) h.1 hv) (λ v l hv hl.
            by-double m here (λ y. Good p env t st (declared_call p env x st name us class.DoubleRecord (y ∷ l ∷ []))) v hv (λ d. on-record l hl _))
        on-declared name us class.Returning vs h hv =
            on-arguments us vs _ (subst (λ q. list_all is_operand_type q ≡ true) (sym h.1) refl) hv (λ as' has. on-returning as' (subst (λ q. ArgsOf k r q as') h.1 has) h.0)
        on-declared name us class.Measure vs h hv = on-arguments us vs _ h.1 hv (λ as' has. on-into name us as' has (first_result as') refl h.2)
        on-declared name us class.Gate vs h hv = on-arguments us vs _ h.1 hv (λ as' has. on-gate (operation name as') (args-below k r us as' has) st.answers)
