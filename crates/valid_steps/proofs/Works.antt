-- The state within a step: names with known values of their types, or with the numbers of Dynamic values of their types.
use Rattle.std.proofs.Common.{◌≡◌, ℕ, ◌<◌, ◌≤◌, Bool, true, Option, Some, List, [], ◌∷◌, ◌++◌, length, slice_get, refl, sym, ap, subst, arith, suc, zero}
use Rattle.ir_module.specs.declared.places.Point.{Point}
use Rattle.ir_module.specs.declared.tree.Function.{Function}
use Rattle.ir_module.specs.declared.tree.Inst.{Inst}
use Rattle.ir_module.specs.declared.tree.Module.{Module}
use Rattle.ir_module.specs.Steps.{InstAt, step_in_module}
use Rattle.ir_values.specs.declared.ids.FuncId.{FuncId}
use Rattle.ir_values.specs.declared.ids.LocalId.{LocalId}
use Rattle.ir_values.specs.declared.ty.Ty.{Ty}
use Rattle.ir_values.specs.declared.ty.Ty.TheVariants as ty
use Rattle.ir_values.specs.declared.value.Value.{Value}
use Rattle.ir_values.specs.declared.value.Value.TheVariants as value
use Rattle.qir_meaning.specs.State.{next}
use Rattle.kept_items.specs.declared.target.Target.{Target}
use Rattle.kept_items.specs.declared.val.Val.{Val}
use Rattle.kept_items.specs.declared.val.Val.TheVariants.{Known, Dynamic}
use Rattle.static_steps.specs.declared.work.Work.{Work}
use Rattle.static_steps.specs.declared.work.WorkFrame.{WorkFrame}
use Rattle.static_steps.specs.Configurations.{Bounds, Calls, Each, HoldsBelow, IsOther, IsPhaseOf, IsValue, NumbersRise, Rises, Stands, type_of_local}
use Rattle.valid_steps.specs.Items.{IsOperand}
use Rattle.valid_steps.proofs.Names.{each-map}

-- the number behind others
pub seam : {A : Type 0} (pre : List A) (x : A) (more : List A) (i : ℕ) → i ≡ length pre → slice_get (pre ++ (x ∷ more)) i ≡ Some x
seam [] x more i e = ap (slice_get (x ∷ more)) e
seam (z ∷ pre) x more zero e = absurd (omega arith)
seam (z ∷ pre) x more (suc i) e = seam pre x more i (omega arith)

-- and further ones change nothing
pub front : {A : Type 0} (xs more : List A) (i : ℕ) (x : A) → slice_get xs i ≡ Some x → slice_get (xs ++ more) i ≡ Some x
front [] more i x e = cc
front (z ∷ xs) more zero x e = e
front (z ∷ xs) more (suc i) x e = front xs more i x e

module _ (m : Module) (t : Target) where
  module _ (b : Bounds) (ts : List (Option Ty)) where
    -- a name of the function has a value of its type
    pub record IsValName (f : Function) (x : LocalId) (a : Val) : Type 0 where
      pub type : Ty
      pub is : type_of_local f x ≡ Some type
      pub typed : IsOperand m t b ts type a

    pub record IsTop (f : Function) (g : WorkFrame) : Type 0 where
      pub in_function : slice_get m.funcs g.at.func.0 ≡ Some f
      pub stands : Stands (step_in_module m g.at)
      pub rises : Rises g.names
      pub names : Each (IsValName f) g.names

-- a frame that waits for one of this function
pub record WaitsFor (m : Module) (above : Function) (g : WorkFrame) : Type 0 where
  pub call : Point
  pub follows : g.at ≡ next call
  pub instruction : Inst
  pub is : step_in_module m call ≡ InstAt instruction
  pub calls : Calls above.ret instruction.what
  pub without_result : Each (λ y a. IsOther instruction.result y) g.names

abbrev pub IsLiveName : (Point → LocalId → Bool) → WorkFrame → Type 0
IsLiveName live g = Each (λ x a. live g.at x ≡ true) g.names

module _ (m : Module) (t : Target) (live : Point → LocalId → Bool) (entry : FuncId) where
  -- the frames below one of this function
  abbrev pub AreBelow : Bounds → List (Option Ty) → FuncId → Function → List WorkFrame → Type 0
  AreBelow b ts func f [] = func ≡ entry
  AreBelow b ts func f (h ∷ hs) = (j : Function) × IsTop m t b ts j h × IsLiveName live h × WaitsFor m f h × AreBelow b ts h.at.func j hs

module _ (m : Module) (t : Target) (live : Point → LocalId → Bool) (entry : FuncId) (k r : ℕ) where
  abbrev pub bounds_of : Work → Bounds
  bounds_of u = record { qubits = k; results = r; allocated = u.allocated; returned = u.returned }

  pub record IsWork (ts : List (Option Ty)) (u : Work) : Type 0 where
    pub function : Function
    pub top : IsTop m t (bounds_of u) ts function u.top
    pub below : AreBelow m t live entry (bounds_of u) ts u.top.at.func function u.below
    pub held : HoldsBelow u.allocated u.held
    pub ordered : NumbersRise u.held
    pub phase : IsPhaseOf t u.phase

-- ---- more handles and more Dynamic values

pub record Grows (b b' : Bounds) (ts ts' : List (Option Ty)) : Type 0 where
  pub qubits : b'.qubits ≡ b.qubits
  pub results : b'.results ≡ b.results
  pub allocated : b.allocated ≤ b'.allocated
  pub returned : b.returned ≤ b'.returned
  pub types : (i : ℕ) (o : Option Ty) → slice_get ts i ≡ Some o → slice_get ts' i ≡ Some o

pub same-bounds : (b : Bounds) (ts : List (Option Ty)) → Grows b b ts ts
same-bounds b ts = record { qubits = refl; results = refl; allocated = omega arith; returned = omega arith; types = λ i o e. e }

pub more-types : (b : Bounds) (ts more : List (Option Ty)) → Grows b b ts (ts ++ more)
more-types b ts more = record { qubits = refl; results = refl; allocated = omega arith; returned = omega arith; types = λ i o e. front ts more i o e }

module _ (m : Module) (t : Target) (b b' : Bounds) (ts ts' : List (Option Ty)) (grows : Grows b b' ts ts') where
  pub value-later : (u : Ty) (v : Value) → IsValue m b u v → IsValue m b' u v
  value-later (ty.Int w) (value.Int i) h = h
  value-later ty.Double (value.Double d) h = h
  value-later ty.Qubit (value.Id n) h = subst (λ k. n < k) (sym grows.qubits) h
  value-later ty.Qubit (value.Alloc n) h = let le = grows.allocated in omega (arith, h, le)
  value-later ty.Res (value.Id n) h = subst (λ k. n < k) (sym grows.results) h
  value-later ty.Res (value.Measured n) h = let le = grows.returned in omega (arith, h, le)
  value-later ty.Res value.One h = h
  value-later ty.Res value.Zero h = h
  value-later ty.Text (value.Label g) h = h
  value-later ty.Text value.NoLabel h = h
  value-later (ty.Func ws) (value.Func g) h = h
  value-later u v h = absurd h

  pub operand-later : (u : Ty) (a : Val) → IsOperand m t b ts u a → IsOperand m t b' ts' u a
  operand-later u (Known v) h = value-later u v h
  operand-later u (Dynamic d) h = (h.0, grows.types d.0 (Some u) h.1)

  pub name-later : (f : Function) (x : LocalId) (a : Val) → IsValName m t b ts f x a → IsValName m t b' ts' f x a
  name-later f x a h = record { type = h.type; is = h.is; typed = operand-later h.type a h.typed }

  pub top-later : (f : Function) (g : WorkFrame) → IsTop m t b ts f g → IsTop m t b' ts' f g
  top-later f g h = record { in_function = h.in_function; stands = h.stands; rises = h.rises; names = each-map (IsValName m t b ts f) (IsValName m t b' ts' f) (name-later f) g.names h.names }

  pub below-later : (live : Point → LocalId → Bool) (entry : FuncId) (func : FuncId) (f : Function) (hs : List WorkFrame) → AreBelow m t live entry b ts func f hs → AreBelow m t live entry b' ts' func f hs
  below-later live entry func f [] h = h
  below-later live entry func f (x ∷ xs) h = (h.0, top-later h.0 x h.1, h.2, h.3, below-later live entry x.at.func h.0 xs h.4)
