-- Frames of a configuration beside frames of a run.
use Rattle.std.proofs.Common.{◌≡◌, ℕ, zero, suc, ◌+◌, ◌<◌, Bool, true, false, Option, None, Some, List, [], ◌∷◌, ◌++◌, length, map, replicate, refl, sym, ap, ◌∙◌, subst, arith, length-append}
use Rattle.std.specs.Prelude.{◌==◌, ⊤, if◌then◌else◌, slice_get}
use Rattle.ir_module.specs.declared.places.Point.{Point}
use Rattle.ir_module.specs.declared.tree.Module.{Module}
use Rattle.ir_module.specs.declared.tree.Operand.{Operand}
use Rattle.ir_module.specs.declared.tree.Operand.TheVariants as operand
use Rattle.ir_values.specs.declared.ids.LocalId.{LocalId}
use Rattle.ir_values.specs.declared.value.Value.{Value}
use Rattle.ir_values.specs.declared.value.Value.TheVariants as value
use Rattle.ir_values.specs.Int.{IntValue}
use Rattle.qir_meaning.specs.State.{Env, bind, value_at, value_of, values_of, one_more}
use Rattle.kept_items.specs.declared.val.Dyn.{Dyn}
use Rattle.kept_items.specs.declared.val.Val.{Val}
use Rattle.kept_items.specs.declared.val.Val.TheVariants.{Known, Dynamic}
use Rattle.kept_items.specs.Items.{dynamic, valued}
use Rattle.static_steps.specs.declared.work.WorkFrame.{WorkFrame}
use Rattle.static_steps.specs.Calls.{parameters}
use Rattle.static_steps.specs.Values.{Names, look, keep, put, put_result, val_of, vals_of, one_val}
use Rattle.runs_follow_steps.specs.Describes.{Fit, FrameFits, IsNot, at_name}
use Rattle.runs_follow_steps.proofs.Flows.{LiveOperand, LiveOperands}
use Rattle.runs_follow_steps.proofs.Looks.{same-numbers, other-numbers, same-itself, differ, look-put, look-put-other, look-keep, set-here, set-elsewhere}

abbrev at : List IntValue → ℕ → IntValue
at ds n = dynamic ds (record { 0 = n })

pub at-front : (ds new : List IntValue) (i : ℕ) → i < length ds → at (ds ++ new) i ≡ at ds i
at-front [] new i lt = absurd (omega arith)
at-front (d ∷ ds) new zero lt = refl
at-front (d ∷ ds) new (suc i) lt = at-front ds new i (omega arith)

abbrev pub numbered : ℕ → Dyn
numbered n = record { 0 = n }

-- further values change nothing
pub fit-more : (ds new : List IntValue) (a : Option Val) (o : Option Value) → Fit ds a o → Fit (ds ++ new) a o
fit-more ds new None o h = h
fit-more ds new (Some (Known v)) o h = h
fit-more ds new (Some (Dynamic i)) o h = (let l = length-append ds new in omega (arith, l, h.0), h.1 ∙ ap (λ d. Some (value.Int d)) (sym (at-front ds new i.0 h.0)))

-- the value of the step itself
pub fit-fresh : (ds : List IntValue) (i : IntValue) (n : ℕ) → n ≡ length ds → Fit (ds ++ i ∷ []) (Some (Dynamic (numbered n))) (Some (value.Int i))
fit-fresh ds i n e = (let l = length-append ds (i ∷ []) in omega (arith, l, e), ap (λ d. Some (value.Int d)) (sym (seam ds n e)))
  where
    seam : (ds : List IntValue) (n : ℕ) → n ≡ length ds → at (ds ++ i ∷ []) n ≡ i
    seam [] n e = ap (at (i ∷ [])) e
    seam (d ∷ ds) zero e = absurd (omega arith)
    seam (d ∷ ds) (suc n) e = seam ds n (omega arith)

-- a value's number is one of the list
abbrev pub In : List IntValue → Val → Type 0
In ds (Known v) = ⊤
In ds (Dynamic i) = i.0 < length ds

abbrev pub AllIn : List IntValue → List Val → Type 0
AllIn ds [] = ⊤
AllIn ds (a ∷ rest) = In ds a × AllIn ds rest

pub fit-value : (ds : List IntValue) (a : Val) → In ds a → Fit ds (Some a) (Some (valued ds a))
fit-value ds (Known v) h = refl
fit-value ds (Dynamic i) h = (h, refl)

-- operands

abbrev pub ValsFit : List IntValue → Option (List Val) → Option (List Value) → Type 0
ValsFit ds None p = p ≡ None
ValsFit ds (Some vs) p = (p ≡ Some (map (valued ds) vs)) × AllIn ds vs

abbrev pub ValFits : List IntValue → Option Val → Option Value → Type 0
ValFits ds None p = p ≡ None
ValFits ds (Some a) p = (p ≡ Some (valued ds a)) × In ds a

pub fit-known : (ds : List IntValue) (a : Option Val) (o : Option Value) → Fit ds a o → ValFits ds a o
fit-known ds None o h = h
fit-known ds (Some (Known v)) o h = (h, tt)
fit-known ds (Some (Dynamic i)) o h = (h.1, h.0)

module _ (live : Point → LocalId → Bool) (m : Module) (ds : List IntValue) (f : WorkFrame) (env : Env) (fits : FrameFits m live ds f env) where
  pub operand-fits : (a : Operand) → LiveOperand live f.at a → Fit ds (val_of f.names a) (value_of env a)
  operand-fits (operand.Const v) l = refl
  operand-fits (operand.Local x) l = fits.names x l

  pub operands-fit : (as_ : List Operand) → LiveOperands live f.at as_ → ValsFit ds (vals_of f.names as_) (values_of env as_)
  operands-fit [] l = (refl, tt)
  operands-fit (a ∷ rest) l = join (val_of f.names a) (value_of env a) (vals_of f.names rest) (values_of env rest) (fit-known ds (val_of f.names a) (value_of env a) (operand-fits a l.0)) (operands-fit rest l.1)
    where
      join : (a : Option Val) (o : Option Value) (as_ : Option (List Val)) (os : Option (List Value)) → ValFits ds a o → ValsFit ds as_ os → ValsFit ds (one_val a as_) (one_more o os)
      join None o as_ os h k = ap (λ o. one_more o os) h
      join (Some a) o None os h k = ap (λ o. one_more o os) h.0 ∙ ap (one_more (Some (valued ds a))) k
      join (Some a) o (Some as_) os h k = (ap (λ o. one_more o os) h.0 ∙ ap (one_more (Some (valued ds a))) k.0, (h.1, k.1))

-- a name that gets a value

abbrev pub Within : ℕ → Option LocalId → Type 0
Within n None = ⊤
Within n (Some x) = x.0 < n

module _ (ds : List IntValue) (a : Val) (u : Value) (ns : Names Val) (env : Env) (live : LocalId → Bool) where
  pub put-fits : (r : Option LocalId) → Within (length env) r → Fit ds (Some a) (Some u)
      → ((y : LocalId) → live y ≡ true → IsNot r y → Fit ds (look y ns) (at_name env y))
      → (y : LocalId) → live y ≡ true → Fit ds (look y (keep live (put_result r a ns))) (at_name (bind env r u) y)
  put-fits None lt h all y l = subst (λ o. Fit ds o (at_name env y)) (sym (look-keep live y l ns)) (all y l tt)
  put-fits (Some x) lt h all y l =
      subst (λ o. Fit ds o (at_name (bind env (Some x) u) y)) (sym (look-keep live y l (put x a ns))) (by-name (x.0 == y.0) refl)
    where
      by-name : (b : Bool) → (x.0 == y.0) ≡ b → Fit ds (look y (put x a ns)) (at_name (bind env (Some x) u) y)
      by-name true e =
          let q : x.0 ≡ y.0 = same-numbers x.0 y.0 e in
          subst (λ k. Fit ds (look (record { 0 = k }) (put x a ns)) (at_name (bind env (Some x) u) (record { 0 = k }))) q
          (subst (λ o. Fit ds o (at_name (bind env (Some x) u) x)) (sym (look-put x a ns))
          (subst (λ o. Fit ds (Some a) (value_at o)) (sym (set-here env x.0 (Some u) lt)) h))
      by-name false e =
          subst (λ o. Fit ds o (at_name (bind env (Some x) u) y)) (sym (look-put-other x y a ns e))
          (subst (λ o. Fit ds (look y ns) (value_at o)) (sym (set-elsewhere env x.0 y.0 (Some u) (other-numbers x.0 y.0 e))) (all y l e))

-- the frame of a call

pub no-value : (k j : ℕ) → value_at (slice_get (replicate k None) j) ≡ None
no-value zero j = refl
no-value (suc k) zero = refl
no-value (suc k) (suc j) = no-value k j

pub parameters-fit : (ds : List IntValue) (vs : List Val) (n j : ℕ) (x : LocalId) (k : ℕ) → x.0 ≡ n + j → AllIn ds vs
    → Fit ds (look x (parameters n vs)) (value_at (slice_get (map Some (map (valued ds) vs) ++ replicate k None) j))
parameters-fit ds [] n j x k e h = no-value k j
parameters-fit ds (v ∷ vs) n zero x k e h =
    let q : (n == x.0) ≡ true = ap (λ y. n == y) (let e' : x.0 ≡ n = omega (arith, e) in e') ∙ same-itself n in
    subst (λ b. Fit ds (if b then Some v else look x (parameters (suc n) vs)) (Some (valued ds v))) (sym q) (fit-value ds v h.0)
parameters-fit ds (v ∷ vs) n (suc j) x k e h =
    let q : (n == x.0) ≡ false = differ n x.0 (λ c. absurd (omega (arith, e, c))) in
    subst
    (λ b. Fit ds (if b then Some v else look x (parameters (suc n) vs)) (value_at (slice_get (map Some (map (valued ds) vs) ++ replicate k None) j)))
    (sym q)
    (parameters-fit ds vs (suc n) j x k (omega (arith, e)) h.1)
