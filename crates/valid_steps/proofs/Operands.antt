-- Operands of a module without faults have values of the types that are wanted.
use Rattle.std.proofs.Common.{◌≡◌, ◌⊎◌, inl, inr, ⊎_elim, ◌-◌, Bool, true, false, ◌||◌, Option, None, Some, List, [], ◌∷◌, ◌++◌, length, map, replicate, refl, sym, ap, ◌∙◌, subst, arith}
use Rattle.std.proofs.lemmas.Bool.{and_parts}
use Rattle.std.proofs.lemmas.List.Folds.{list_all-map}
use Rattle.std.specs.List.{list_all}
use Rattle.std.specs.Prelude.{⊤, is_some}
use Rattle.ir_module.specs.declared.places.Point.{Point}
use Rattle.ir_module.specs.declared.tree.Function.{Function}
use Rattle.ir_module.specs.declared.tree.InstKind.{InstKind}
use Rattle.ir_module.specs.declared.tree.InstKind.TheVariants as kind
use Rattle.ir_module.specs.declared.tree.Module.{Module}
use Rattle.ir_module.specs.declared.tree.Operand.{Operand}
use Rattle.ir_module.specs.declared.tree.Operand.TheVariants as operand
use Rattle.ir_module.specs.declared.tree.Term.{Term}
use Rattle.ir_module.specs.declared.tree.Term.TheVariants as term
use Rattle.ir_module.specs.Classes.{class_of_function}
use Rattle.ir_module.specs.Numbered.{is_int, is_written, operand_in_range, step_in_range}
use Rattle.ir_module.specs.Operands.{operands_of, step_operands, term_operands}
use Rattle.ir_module.specs.Steps.{Step}
use Rattle.ir_values.specs.declared.ids.FuncId.{FuncId}
use Rattle.ir_values.specs.declared.ids.LocalId.{LocalId}
use Rattle.ir_values.specs.declared.int.Width.{Width}
use Rattle.ir_values.specs.declared.sig.TyWord.{TyWord}
use Rattle.ir_values.specs.declared.ty.Ty.{Ty}
use Rattle.ir_values.specs.declared.ty.Ty.TheVariants as ty
use Rattle.ir_values.specs.declared.value.Value.{Value}
use Rattle.ir_values.specs.declared.value.Value.TheVariants as value
use Rattle.ir_values.specs.Int.{IntValue}
use Rattle.kept_items.specs.declared.target.Target.{Target}
use Rattle.kept_items.specs.declared.target.Target.TheVariants.{Base, Adaptive}
use Rattle.kept_items.specs.declared.val.Dyn.{Dyn}
use Rattle.kept_items.specs.declared.val.Val.{Val}
use Rattle.kept_items.specs.declared.val.Val.TheVariants.{Known, Dynamic}
use Rattle.kept_items.specs.Targets.{is_base}
use Rattle.static_steps.specs.Configurations.{Bounds, CanBeCalled, by_body, by_class, Each, IsValue, MayVary}
use Rattle.static_steps.specs.Values.{Names, look, one_val, val_of, vals_of}
use Rattle.type_check.specs.Rules.{is_known, number_below, operand_known}
use Rattle.type_check.specs.Typing.{inst_wants, is_of_type, local_type, operand_has, term_wants, wants}
use Rattle.type_check.proofs.Facts.{StepKeeps}
use Rattle.typed_runs.specs.Values.{IsOf, Bounds as RunBounds}
use Rattle.typed_runs.proofs.Values.{OperandKeeps, WantsKeep, frame-of, head-keeps, operand-of, tail-keeps}
use Rattle.valid_steps.specs.Items.{IsOperand}
use Rattle.valid_steps.specs.Types.{IsDynamic}
use Rattle.valid_steps.proofs.Names.{look-each}
use Rattle.valid_steps.proofs.Turns.{has-type, same-type-of}
use Rattle.valid_steps.proofs.Works.{IsValName}

-- ---- only integers are Dynamic, of every width

pub never-varies : (t : Target) (u : Ty) → is_int u ≡ false → MayVary t u → ⊥
never-varies Base u e h = h
never-varies (Adaptive caps) (ty.Int w) e h = cc
never-varies (Adaptive caps) u e h = h

pub adaptive : (t : Target) (w : Width) → MayVary t (ty.Int w) → is_base t ≡ false
adaptive Base w h = absurd h
adaptive (Adaptive caps) w h = refl

pub varies : (t : Target) (w v : Width) → MayVary t (ty.Int w) → MayVary t (ty.Int v)
varies Base w v h = h
varies (Adaptive caps) w v h = h

-- ---- what the rules and the numbers of a module say of the operands of a step

pub operands-wanted : (what : InstKind) → map (λ (w : Ty × Operand). w.1) (inst_wants what) ≡ operands_of what
operands-wanted (kind.Binary op flags t a b) = refl
operands-wanted (kind.Icmp p t a b) = refl
operands-wanted (kind.Convert c t a to) = refl
operands-wanted (kind.Select c t a u b) = refl
operands-wanted (kind.Call ret g args) = refl

pub terms-wanted : (t : Term) → map (λ (w : Ty × Operand). w.1) (term_wants t) ≡ term_operands t
terms-wanted term.RetVoid = refl
terms-wanted (term.Ret t a) = refl
terms-wanted (term.Br b) = refl
terms-wanted (term.CondBr c x y) = refl
terms-wanted (term.Switch t a default cases) = refl

abbrev pub run_bounds : Bounds → RunBounds
run_bounds b = record { qubits = b.qubits; results = b.results; allocated = b.allocated; measured = b.returned }

pub wants-keep : (m : Module) (b : Bounds) (f : Function) (p : Point) (s : Step) (ws : List (Ty × Operand)) → StepKeeps m b.qubits b.results f p s → step_in_range m f s ≡ true → list_all is_written (step_operands s) ≡ true → wants f s ≡ ws → map (λ (w : Ty × Operand). w.1) ws ≡ step_operands s → WantsKeep m (run_bounds b) f ws
wants-keep m b f p s ws keeps range written is same =
    let operands = and_parts _ _ range in
    record {
      has = subst (λ l. list_all (λ (w : Ty × Operand). operand_has m f w.1 w.0) l ≡ true) is keeps.has;
      below = subst (λ l. list_all (number_below b.qubits b.results) l ≡ true) is keeps.below;
      known = subst (λ l. list_all (λ (w : Ty × Operand). operand_known m w.1) l ≡ true) is keeps.known;
      range = sym (list_all-map (operand_in_range m f) (λ (w : Ty × Operand). w.1) ws) ∙ (ap (list_all (operand_in_range m f)) same ∙ operands.0);
      written = sym (list_all-map is_written (λ (w : Ty × Operand). w.1) ws) ∙ (ap (list_all is_written) same ∙ written);
    }

-- ---- values

known-called : (f : Function) → is_known (Some f) ≡ true → CanBeCalled f
known-called f h = ⊎_elim (λ e. by_body e) (λ e. by_class e) (or-true (is_some f.blocks) (is_some (class_of_function f)) h)
  where
    or-true : (a b : Bool) → (a || b) ≡ true → (a ≡ true) ⊎ (b ≡ true)
    or-true true b e = inl refl
    or-true false b e = inr e

module _ (m : Module) (b : Bounds) where
  same-value : (u : Ty) (v : Value) → IsOf m (run_bounds b) u v → IsValue m b u v
  same-value (ty.Int w) (value.Int i) h = h
  same-value ty.Double (value.Double d) h = h
  same-value ty.Qubit (value.Id n) h = h
  same-value ty.Qubit (value.Alloc n) h = h
  same-value ty.Res (value.Id n) h = h
  same-value ty.Res (value.Measured n) h = h
  same-value ty.Res value.One h = h
  same-value ty.Res value.Zero h = h
  same-value ty.Text (value.Label g) h = h
  same-value ty.Text value.NoLabel h = h
  same-value (ty.Func ws) (value.Func g) h = (h.0, record { there = h.1; called = known-called h.0 h.3 }, h.2)
  same-value u v h = absurd h

  constant-of : (f : Function) (u : Ty) (v : Value) → OperandKeeps m (run_bounds b) f (u, operand.Const v) → IsValue m b u v
  constant-of f u v o = same-value u v (operand-of m (run_bounds b) f (map Some [] ++ replicate (length f.locals - 0) None) (u, operand.Const v) (frame-of m (run_bounds b) 0 f.locals [] (omega arith) tt) o)

module _ (m : Module) (t : Target) (b : Bounds) (ts : List (Option Ty)) where
  -- no value, or one of the type
  abbrev pub Fits : Ty → Option Val → Type 0
  Fits u None = ⊤
  Fits u (Some a) = IsOperand m t b ts u a

  -- values of these types
  abbrev pub AreVals : List Ty → List Val → Type 0
  AreVals [] [] = ⊤
  AreVals [] (v ∷ vs) = ⊥
  AreVals (u ∷ us) [] = ⊥
  AreVals (u ∷ us) (v ∷ vs) = IsOperand m t b ts u v × AreVals us vs

  abbrev pub FitAll : List Ty → Option (List Val) → Type 0
  FitAll us None = ⊤
  FitAll us (Some vs) = AreVals us vs

  local-fits : (f : Function) (ns : Names Val) (x : LocalId) (u : Ty) → is_of_type (local_type f x) u ≡ true → Each (IsValName m t b ts f) ns → Fits u (look x ns)
  local-fits f ns x u has names = by-look (look x ns) refl
    where
      by-look : (o : Option Val) → look x ns ≡ o → Fits u o
      by-look None e = tt
      by-look (Some a) e =
          let n = look-each (IsValName m t b ts f) x ns a names e in
          let same : Some n.type ≡ Some u = sym n.is ∙ (sym (same-type-of f x) ∙ has-type (local_type f x) u has) in
          let is : n.type ≡ u = cc in
          subst (λ w. IsOperand m t b ts w a) is n.typed

  pub operand-fits : (f : Function) (ns : Names Val) (u : Ty) (a : Operand) → OperandKeeps m (run_bounds b) f (u, a) → Each (IsValName m t b ts f) ns → Fits u (val_of ns a)
  operand-fits f ns u (operand.Const v) o names = constant-of m b f u v o
  operand-fits f ns u (operand.Local x) o names = local-fits f ns x u o.has names

  one-fits : (o : Option Val) (os : Option (List Val)) (u : Ty) (us : List Ty) → Fits u o → FitAll us os → FitAll (u ∷ us) (one_val o os)
  one-fits None os u us h hs = tt
  one-fits (Some a) None u us h hs = tt
  one-fits (Some a) (Some as_) u us h hs = (h, hs)

  -- operands that have the types that are wanted give values of these
  pub operands-fit : (f : Function) (ns : Names Val) (ws : List (Ty × Operand)) → WantsKeep m (run_bounds b) f ws → Each (IsValName m t b ts f) ns
      → FitAll (map (λ (w : Ty × Operand). w.0) ws) (vals_of ns (map (λ (w : Ty × Operand). w.1) ws))
  operands-fit f ns [] o names = tt
  operands-fit f ns (w ∷ ws) o names =
      one-fits (val_of ns w.1) (vals_of ns (map (λ (w : Ty × Operand). w.1) ws)) w.0 (map (λ (w : Ty × Operand). w.0) ws)
      (operand-fits f ns w.0 w.1 (head-keeps m (run_bounds b) f w ws o) names) (operands-fit f ns ws (tail-keeps m (run_bounds b) f w ws o) names)

  -- ---- values of known types

  module _ (P : Val → Type 0) where
    pub by-int : (w : Width) (a : Val) → IsOperand m t b ts (ty.Int w) a → ((i : IntValue) → i.width ≡ w → P (Known (value.Int i)))
        → ((d : Dyn) → MayVary t (ty.Int w) → IsDynamic ts (ty.Int w) d → P (Dynamic d)) → P a
    by-int w (Known (value.Int i)) h known dynamic = known i h
    by-int w (Known v) h known dynamic = absurd h
    by-int w (Dynamic d) h known dynamic = dynamic d h.0 h.1

    -- of a type that is no integer's
    pub by-known : (u : Ty) → is_int u ≡ false → (a : Val) → IsOperand m t b ts u a → ((v : Value) → IsValue m b u v → P (Known v)) → P a
    by-known u e (Known v) h known = known v h
    by-known u e (Dynamic d) h known = absurd (never-varies t u e h.0)

    pub by-func : (ws : List TyWord) (a : Val) → IsOperand m t b ts (ty.Func ws) a → ((g : FuncId) → IsValue m b (ty.Func ws) (value.Func g) → P (Known (value.Func g))) → P a
    by-func ws (Known (value.Func g)) h known = known g h
    by-func ws (Known v) h known = absurd h
    by-func ws (Dynamic d) h known = absurd (never-varies t (ty.Func ws) refl h.0)

  module _ (P : List Val → Type 0) where
    pub by-one : (u : Ty) (vs : List Val) → AreVals (u ∷ []) vs → ((v : Val) → IsOperand m t b ts u v → P (v ∷ [])) → P vs
    by-one u [] h go = absurd h
    by-one u (v ∷ []) h go = go v h.0
    by-one u (v ∷ w ∷ vs) h go = absurd h.1

    pub by-two : (u q : Ty) (vs : List Val) → AreVals (u ∷ q ∷ []) vs → ((v w : Val) → IsOperand m t b ts u v → IsOperand m t b ts q w → P (v ∷ w ∷ [])) → P vs
    by-two u q [] h go = absurd h
    by-two u q (v ∷ []) h go = absurd h.1
    by-two u q (v ∷ w ∷ []) h go = go v w h.0 h.1.0
    by-two u q (v ∷ w ∷ x ∷ vs) h go = absurd h.1.1

    pub by-three : (u q o : Ty) (vs : List Val) → AreVals (u ∷ q ∷ o ∷ []) vs → ((v w x : Val) → IsOperand m t b ts u v → IsOperand m t b ts q w → IsOperand m t b ts o x → P (v ∷ w ∷ x ∷ [])) → P vs
    by-three u q o [] h go = absurd h
    by-three u q o (v ∷ []) h go = absurd h.1
    by-three u q o (v ∷ w ∷ []) h go = absurd h.1.1
    by-three u q o (v ∷ w ∷ x ∷ []) h go = go v w x h.0 h.1.0 h.1.1.0
    by-three u q o (v ∷ w ∷ x ∷ y ∷ vs) h go = absurd h.1.1.1

    pub by-more : (u : Ty) (us : List Ty) (vs : List Val) → AreVals (u ∷ us) vs → ((v : Val) (ws : List Val) → IsOperand m t b ts u v → AreVals us ws → P (v ∷ ws)) → P vs
    by-more u us [] h go = absurd h
    by-more u us (v ∷ vs) h go = go v vs h.0 h.1
