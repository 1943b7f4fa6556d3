-- The values of a frame have the types of their names.
use Rattle.std.proofs.Common.{◌≡◌, ℕ, zero, suc, ◌-◌, ◌≤◌, true, Option, None, Some, List, [], ◌∷◌, ◌++◌, length, map, take, replicate, option_map, slice_get, slice_set, refl, sym, ap, subst, arith, ◌+◌}
use Rattle.std.proofs.lemmas.Bool.{and_parts, ltb-true}
use Rattle.std.specs.List.{list_all}
use Rattle.std.specs.Prelude.{⊤}
use Rattle.ir_module.specs.declared.tree.Function.{Function}
use Rattle.ir_module.specs.declared.tree.Module.{Module}
use Rattle.ir_module.specs.declared.tree.Operand.{Operand}
use Rattle.ir_module.specs.declared.tree.Operand.TheVariants as operand
use Rattle.ir_values.specs.declared.int.Width.{Width}
use Rattle.ir_values.specs.declared.sig.TyWord.{TyWord}
use Rattle.ir_values.specs.declared.ty.Ty.{Ty}
use Rattle.ir_values.specs.declared.ty.Ty.TheVariants as ty
use Rattle.ir_values.specs.declared.ids.FuncId.{FuncId}
use Rattle.ir_values.specs.declared.name.Name.{Name}
use Rattle.ir_values.specs.declared.value.Value.{Value}
use Rattle.ir_values.specs.declared.value.Value.TheVariants as value
use Rattle.ir_values.specs.Int.{IntValue}
use Rattle.ir_module.specs.Classes.{type_words}
use Rattle.ir_module.specs.Numbered.{constant_in_range, operand_in_range, is_written}
use Rattle.qir_meaning.specs.State.{Env, State, with_allocation, value_at, value_of, one_more, values_of}
use Rattle.type_check.specs.Rules.{number_below, operand_known, is_known}
use Rattle.type_check.specs.Typing.{local_type, is_of_type, has_words, constant_has, operand_has}
use Rattle.type_check.proofs.Equal.{same_width-is, same_words-is, same_type-is}
use Rattle.qir_meaning.specs.code.Steps.{Waiting}
use Rattle.ir_module.specs.declared.places.Point.{Point}
use Rattle.typed_runs.specs.Fits.{FrameFits, WaitFits, WaitsFit}
use Rattle.typed_runs.specs.Values.{Bounds, bounds_at, IsOf, MayBe, EnvOf, AllOf}

module _ (m : Module) (bs : Bounds) where
  abbrev pub MayBeAll : List Ty → Option (List Value) → Type 0
  MayBeAll ts None = ⊤
  MayBeAll ts (Some vs) = AllOf m bs ts vs

  -- ---- frames

  pub env-get : (ls : List (Name × Ty)) (env : Env) (x : ℕ) (t : Ty) → EnvOf m bs ls env → option_map (λ (l : Name × Ty). l.1) (slice_get ls x) ≡ Some t → MayBe m bs t (value_at (slice_get env x))
  env-get [] env x t h e = cc
  env-get (l ∷ ls) [] x t h e = absurd h
  env-get (l ∷ ls) (o ∷ env) zero t h e = let q : l.1 ≡ t = cc in subst (λ u. MayBe m bs u o) q h.0
  env-get (l ∷ ls) (o ∷ env) (suc x) t h e = env-get ls env x t h.1 e

  pub env-set : (ls : List (Name × Ty)) (env : Env) (x : ℕ) (t : Ty) (o : Option Value) → EnvOf m bs ls env → option_map (λ (l : Name × Ty). l.1) (slice_get ls x) ≡ Some t → MayBe m bs t o → EnvOf m bs ls (slice_set env x o)
  env-set [] env x t o h e v = cc
  env-set (l ∷ ls) [] x t o h e v = absurd h
  env-set (l ∷ ls) (w ∷ env) zero t o h e v = let q : t ≡ l.1 = cc in (subst (λ u. MayBe m bs u o) q v, h.1)
  env-set (l ∷ ls) (w ∷ env) (suc x) t o h e v = (h.0, env-set ls env x t o h.1 e v)

  no-values : (ls : List (Name × Ty)) → EnvOf m bs ls (replicate (length ls) None)
  no-values [] = tt
  no-values (l ∷ ls) = (tt, no-values ls)

  pub frame-of : (n : ℕ) (ls : List (Name × Ty)) (vs : List Value) → n ≤ length ls → AllOf m bs (map (λ (l : Name × Ty). l.1) (take n ls)) vs → EnvOf m bs ls (map Some vs ++ replicate (length ls - length vs) None)
  frame-of zero ls [] le h = let e : length ls - 0 ≡ length ls = omega arith in subst (λ n. EnvOf m bs ls (replicate n None)) (sym e) (no-values ls)
  frame-of zero ls (v ∷ vs) le h = absurd h
  frame-of (suc n) [] vs le h = absurd (omega arith)
  frame-of (suc n) (l ∷ ls) [] le h = absurd h
  frame-of (suc n) (l ∷ ls) (v ∷ vs) le h =
      let e : length (l ∷ ls) - length (v ∷ vs) ≡ length ls - length vs = omega arith in
      (h.0, subst (λ n. EnvOf m bs ls (map Some vs ++ replicate n None)) (sym e) (frame-of n ls vs (omega arith) h.1))

  -- ---- operands

  func-of : (g : FuncId) (ws : List TyWord) (o : Option Function) → slice_get m.funcs g.0 ≡ o → has_words o ws ≡ true → is_known o ≡ true → IsOf m bs (ty.Func ws) (value.Func g)
  func-of g ws None e h d = cc
  func-of g ws (Some f) e h d = (f, e, same_words-is (type_words f) ws h, d)

  -- what the rules say of one operand that is wanted with a type
  pub record OperandKeeps (f : Function) (w : Ty × Operand) : Type 0 where
    pub has : operand_has m f w.1 w.0 ≡ true
    pub below : number_below bs.qubits bs.results w ≡ true
    pub known : operand_known m w.1 ≡ true
    pub range : operand_in_range m f w.1 ≡ true
    pub written : is_written w.1 ≡ true

  -- and of several
  pub record WantsKeep (f : Function) (ws : List (Ty × Operand)) : Type 0 where
    pub has : list_all (λ (w : Ty × Operand). operand_has m f w.1 w.0) ws ≡ true
    pub below : list_all (number_below bs.qubits bs.results) ws ≡ true
    pub known : list_all (λ (w : Ty × Operand). operand_known m w.1) ws ≡ true
    pub range : list_all (λ (w : Ty × Operand). operand_in_range m f w.1) ws ≡ true
    pub written : list_all (λ (w : Ty × Operand). is_written w.1) ws ≡ true

  module _ (f : Function) (w : Ty × Operand) (ws : List (Ty × Operand)) (h : WantsKeep f (w ∷ ws)) where
    has-parts : (operand_has m f w.1 w.0 ≡ true) × (list_all (λ (w : Ty × Operand). operand_has m f w.1 w.0) ws ≡ true)
    has-parts = and_parts _ _ h.has

    below-parts : (number_below bs.qubits bs.results w ≡ true) × (list_all (number_below bs.qubits bs.results) ws ≡ true)
    below-parts = and_parts _ _ h.below

    known-parts : (operand_known m w.1 ≡ true) × (list_all (λ (w : Ty × Operand). operand_known m w.1) ws ≡ true)
    known-parts = and_parts _ _ h.known

    range-parts : (operand_in_range m f w.1 ≡ true) × (list_all (λ (w : Ty × Operand). operand_in_range m f w.1) ws ≡ true)
    range-parts = and_parts _ _ h.range

    written-parts : (is_written w.1 ≡ true) × (list_all (λ (w : Ty × Operand). is_written w.1) ws ≡ true)
    written-parts = and_parts _ _ h.written

    pub head-keeps : OperandKeeps f w
    head-keeps = record { has = has-parts.0; below = below-parts.0; known = known-parts.0; range = range-parts.0; written = written-parts.0 }

    pub tail-keeps : WantsKeep f ws
    tail-keeps = record { has = has-parts.1; below = below-parts.1; known = known-parts.1; range = range-parts.1; written = written-parts.1 }

  const-of : (v : Value) (t : Ty) → constant_has m v t ≡ true → number_below bs.qubits bs.results (t, operand.Const v) ≡ true → operand_known m (operand.Const v) ≡ true → constant_in_range m v ≡ true → is_written (operand.Const v) ≡ true → IsOf m bs t v
  const-of (value.Int i) (ty.Int w) h b d g y = same_width-is i.width w h
  const-of (value.Double x) ty.Double h b d g y = tt
  const-of (value.Id n) ty.Qubit h b d g y = ltb-true n bs.qubits b
  const-of (value.Id n) ty.Res h b d g y = ltb-true n bs.results b
  const-of value.One ty.Res h b d g y = tt
  const-of value.Zero ty.Res h b d g y = tt
  const-of (value.Label x) ty.Text h b d g y = ltb-true x.0 (length m.globals) g
  const-of value.NoLabel ty.Text h b d g y = tt
  const-of (value.Func x) (ty.Func ws) h b d g y = func-of x ws (slice_get m.funcs x.0) refl h d
  const-of v t h b d g y = cc

  pub local-has : (o : Option Ty) (t : Ty) → is_of_type o t ≡ true → o ≡ Some t
  local-has None t h = cc
  local-has (Some u) t h = ap Some (same_type-is u t h)

  by-operand : (f : Function) (env : Env) (a : Operand) (t : Ty) → EnvOf m bs f.locals env → OperandKeeps f (t, a) → MayBe m bs t (value_of env a)
  by-operand f env (operand.Const v) t h o = const-of v t o.has o.below o.known o.range o.written
  by-operand f env (operand.Local x) t h o = env-get f.locals env x.0 t h (local-has (local_type f x) t o.has)

  pub operand-of : (f : Function) (env : Env) (w : Ty × Operand) → EnvOf m bs f.locals env → OperandKeeps f w → MayBe m bs w.0 (value_of env w.1)
  operand-of f env w h o = by-operand f env w.1 w.0 h o

  more-of : (o : Option Value) (os : Option (List Value)) (t : Ty) (ts : List Ty) → MayBe m bs t o → MayBeAll ts os → MayBeAll (t ∷ ts) (one_more o os)
  more-of None os t ts h hs = tt
  more-of (Some v) None t ts h hs = tt
  more-of (Some v) (Some vs) t ts h hs = (h, hs)

  -- operands that have the types that are wanted give values of these
  pub wanted-of : (f : Function) (env : Env) (ws : List (Ty × Operand)) → EnvOf m bs f.locals env → WantsKeep f ws → MayBeAll (map (λ (w : Ty × Operand). w.0) ws) (values_of env (map (λ (w : Ty × Operand). w.1) ws))
  wanted-of f env [] h o = tt
  wanted-of f env (w ∷ ws) h o =
      more-of (value_of env w.1) (values_of env (map (λ (w : Ty × Operand). w.1) ws)) w.0 (map (λ (w : Ty × Operand). w.0) ws) (operand-of f env w h (head-keeps f w ws o)) (wanted-of f env ws h (tail-keeps f w ws o))

  -- ---- values of known types

  module _ (P : Value → Type 0) where
    pub by-int : (w : Width) (v : Value) → IsOf m bs (ty.Int w) v → ((i : IntValue) → i.width ≡ w → P (value.Int i)) → P v
    by-int w (value.Int i) h go = go i h
    by-int w v h go = absurd h

    pub by-double : (v : Value) → IsOf m bs ty.Double v → ((d : List ℕ) → P (value.Double d)) → P v
    by-double (value.Double d) h go = go d
    by-double v h go = absurd h

    pub by-func : (ws : List TyWord) (v : Value) → IsOf m bs (ty.Func ws) v → ((g : FuncId) → IsOf m bs (ty.Func ws) (value.Func g) → P (value.Func g)) → P v
    by-func ws (value.Func g) h go = go g h
    by-func ws v h go = absurd h

  module _ (P : List Value → Type 0) where
    pub by-one : (t : Ty) (vs : List Value) → AllOf m bs (t ∷ []) vs → ((v : Value) → IsOf m bs t v → P (v ∷ [])) → P vs
    by-one t [] h go = absurd h
    by-one t (v ∷ []) h go = go v h.0
    by-one t (v ∷ w ∷ vs) h go = absurd h.1

    pub by-two : (t u : Ty) (vs : List Value) → AllOf m bs (t ∷ u ∷ []) vs → ((v w : Value) → IsOf m bs t v → IsOf m bs u w → P (v ∷ w ∷ [])) → P vs
    by-two t u [] h go = absurd h
    by-two t u (v ∷ []) h go = absurd h.1
    by-two t u (v ∷ w ∷ []) h go = go v w h.0 h.1.0
    by-two t u (v ∷ w ∷ x ∷ vs) h go = absurd h.1.1

    pub by-three : (t u s : Ty) (vs : List Value) → AllOf m bs (t ∷ u ∷ s ∷ []) vs → ((v w x : Value) → IsOf m bs t v → IsOf m bs u w → IsOf m bs s x → P (v ∷ w ∷ x ∷ [])) → P vs
    by-three t u s [] h go = absurd h
    by-three t u s (v ∷ []) h go = absurd h.1
    by-three t u s (v ∷ w ∷ []) h go = absurd h.1.1
    by-three t u s (v ∷ w ∷ x ∷ []) h go = go v w x h.0 h.1.0 h.1.1.0
    by-three t u s (v ∷ w ∷ x ∷ y ∷ vs) h go = absurd h.1.1.1

    pub by-more : (t : Ty) (ts : List Ty) (vs : List Value) → AllOf m bs (t ∷ ts) vs → ((v : Value) (ws : List Value) → IsOf m bs t v → AllOf m bs ts ws → P (v ∷ ws)) → P vs
    by-more t ts [] h go = absurd h
    by-more t ts (v ∷ vs) h go = go v vs h.0 h.1

-- ---- later states

-- no number of handles is taken back
pub record Later (st st' : State) : Type 0 where
  pub allocated : st.allocated ≤ st'.allocated
  pub measured : st.measured ≤ st'.measured

pub now : (st : State) → Later st st
now st = record { allocated = omega arith; measured = omega arith }

pub same-numbers : {st st' : State} → st'.allocated ≡ st.allocated → st'.measured ≡ st.measured → Later st st'
same-numbers e f = record { allocated = omega (arith, e); measured = omega (arith, f) }

pub one-allocated : (st : State) → Later st (with_allocation st)
one-allocated st = record { allocated = omega arith; measured = omega arith }

pub one-measured : (st st' : State) → Later st st' → Later st (record st' { measured = st.measured + 1 })
one-measured st st' l = record { allocated = l.allocated; measured = omega arith }

module _ (m : Module) (k r : ℕ) (st st' : State) (l : Later st st') where
  abbrev before : Bounds
  before = bounds_at k r st

  abbrev after : Bounds
  after = bounds_at k r st'

  pub value-later : (t : Ty) (v : Value) → IsOf m before t v → IsOf m after t v
  value-later (ty.Int w) (value.Int i) h = h
  value-later ty.Double (value.Double d) h = h
  value-later ty.Qubit (value.Id n) h = h
  value-later ty.Qubit (value.Alloc n) h = omega (arith, h, l.allocated)
  value-later ty.Res (value.Id n) h = h
  value-later ty.Res (value.Measured n) h = omega (arith, h, l.measured)
  value-later ty.Res value.One h = h
  value-later ty.Res value.Zero h = h
  value-later ty.Text (value.Label g) h = h
  value-later ty.Text value.NoLabel h = h
  value-later (ty.Func ws) (value.Func g) h = h
  value-later t v h = absurd h

  maybe-later : (t : Ty) (o : Option Value) → MayBe m before t o → MayBe m after t o
  maybe-later t None h = h
  maybe-later t (Some v) h = value-later t v h

  pub env-later : (ls : List (Name × Ty)) (env : Env) → EnvOf m before ls env → EnvOf m after ls env
  env-later [] [] h = h
  env-later [] (o ∷ env) h = absurd h
  env-later (l ∷ ls) [] h = absurd h
  env-later (l ∷ ls) (o ∷ env) h = (maybe-later l.1 o h.0, env-later ls env h.1)

  pub frame-later : (p : Point) (env : Env) (t : Ty) → FrameFits m before p env t → FrameFits m after p env t
  frame-later p env t f = record { func = f.func; is = f.is; block = f.block; here = f.here; from = f.from; to = f.to; values = env-later f.func.locals env f.values; returns = f.returns }

  wait-later : (u : Ty) (w : Waiting) (t : Ty) → WaitFits m before u w t → WaitFits m after u w t
  unfolding frame-later
  wait-later u w t h = record { fits = frame-later w.at w.env t h.fits; named = h.named }

  pub waits-later : (u : Ty) (ws : List Waiting) → WaitsFit m before u ws → WaitsFit m after u ws
  waits-later u [] h = h
  waits-later u (w ∷ ws) h = (h.0, wait-later u w h.0 h.1, waits-later h.0 ws h.2)
