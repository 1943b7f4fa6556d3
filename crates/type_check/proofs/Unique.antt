-- A module has at most one first fault, since of two faults one precedes the other.
use Rattle.std.proofs.Common.{◌≡◌, ◌⊎◌, inl, inr, ⊎_elim, ℕ, ◌<◌, refl, ap, ◌∙◌, arith}
use Rattle.std.proofs.lemmas.Bool.{cases_lt}
use Rattle.ir_module.specs.declared.places.Point.{Point}
use Rattle.ir_module.specs.declared.places.Spot.{Spot}
use Rattle.ir_module.specs.declared.places.Spot.TheVariants as spot
use Rattle.ir_module.specs.declared.tree.Module.{Module}
use Rattle.ir_module.specs.Places.{IsBefore}
use Rattle.ir_values.specs.declared.ids.BlockId.{BlockId}
use Rattle.ir_values.specs.declared.ids.FuncId.{FuncId}
use Rattle.type_check.specs.declared.code.TypeCode.{TypeCode}
use Rattle.type_check.specs.declared.code.TypeCode.TheVariants as code
use Rattle.type_check.specs.Faults.{group, number, Precedes, IsFirstFault}

-- one of three holds of two numbers
abbrev Compared : ℕ → ℕ → Type 0
Compared a b = (a < b) ⊎ ((a ≡ b) ⊎ (b < a))

compared : (a b : ℕ) → Compared a b
compared a b =
    ⊎_elim (λ (h : a < b). inl h) (λ h. ⊎_elim (λ (g : b < a). inr (inr g)) (λ g. let e : a ≡ b = omega (arith, h, g) in inr (inl e)) (cases_lt b a)) (cases_lt a b)

abbrev Ordered : Spot → Spot → Type 0
Ordered s t = IsBefore s t ⊎ ((s ≡ t) ⊎ IsBefore t s)

module _ (p q : Point) where
  same-point : p.func ≡ q.func → p.block ≡ q.block → p.index ≡ q.index → p ≡ q
  same-point f b e =
      ap (λ x. let y : Point = record { func = x; block = p.block; index = p.index } in y) f
      ∙ (ap (λ x. let y : Point = record { func = q.func; block = x; index = p.index } in y) b ∙ ap (λ x. let y : Point = record { func = q.func; block = q.block; index = x } in y) e)

  by-index : p.func.0 ≡ q.func.0 → p.block.0 ≡ q.block.0 → Compared p.index q.index → Ordered (spot.At p) (spot.At q)
  by-index f b (inl h) = inl (inr (refl, inr (f, inr (omega (arith, b), h))))
  by-index f b (inr (inl e)) =
      let func : p.func ≡ q.func = ap (λ n. let x : FuncId = record { 0 = n } in x) f in
      let block : p.block ≡ q.block = ap (λ n. let x : BlockId = record { 0 = n } in x) b in
      inr (inl (ap spot.At (same-point func block e)))
  by-index f b (inr (inr h)) = inr (inr (inr (refl, inr (omega (arith, f), inr (omega (arith, b), h)))))

  by-block : p.func.0 ≡ q.func.0 → Compared p.block.0 q.block.0 → Ordered (spot.At p) (spot.At q)
  by-block f (inl h) = inl (inr (refl, inr (f, inl (omega (arith, h)))))
  by-block f (inr (inl e)) = by-index f e (compared p.index q.index)
  by-block f (inr (inr h)) = inr (inr (inr (refl, inr (omega (arith, f), inl (omega (arith, h))))))

  by-func : Compared p.func.0 q.func.0 → Ordered (spot.At p) (spot.At q)
  by-func (inl h) = inl (inr (refl, inl h))
  by-func (inr (inl e)) = by-block e (compared p.block.0 q.block.0)
  by-func (inr (inr h)) = inr (inr (inr (refl, inl h)))

by-number : (f g : FuncId) → Compared f.0 g.0 → Ordered (spot.Func f) (spot.Func g)
by-number f g (inl h) = inl (inr (refl, inl h))
by-number f g (inr (inl e)) = let z : f ≡ g = ap (λ n. let x : FuncId = record { 0 = n } in x) e in inr (inl (ap spot.Func z))
by-number f g (inr (inr h)) = inr (inr (inr (refl, inl h)))

-- a function and a point: those of the same function are in this order
before-point : (f : FuncId) (q : Point) → Compared f.0 q.func.0 → Ordered (spot.Func f) (spot.At q)
before-point f q (inl h) = inl (inr (refl, inl h))
before-point f q (inr (inl e)) = inl (inr (refl, inr (e, inl (omega arith))))
before-point f q (inr (inr h)) = inr (inr (inr (refl, inl h)))

after-function : (p : Point) (g : FuncId) → Compared p.func.0 g.0 → Ordered (spot.At p) (spot.Func g)
after-function p g (inl h) = inl (inr (refl, inl h))
after-function p g (inr (inl e)) = inr (inr (inr (refl, inr (omega (arith, e), inl (omega arith)))))
after-function p g (inr (inr h)) = inr (inr (inr (refl, inl h)))

ordered : (s t : Spot) → Ordered s t
ordered spot.Module spot.Module = inr (inl refl)
ordered spot.Module (spot.Func g) = inl (inl (omega arith))
ordered spot.Module (spot.At q) = inl (inl (omega arith))
ordered (spot.Func f) spot.Module = inr (inr (inl (omega arith)))
ordered (spot.Func f) (spot.Func g) = by-number f g (compared f.0 g.0)
ordered (spot.Func f) (spot.At q) = before-point f q (compared f.0 q.func.0)
ordered (spot.At p) spot.Module = inr (inr (inl (omega arith)))
ordered (spot.At p) (spot.Func g) = after-function p g (compared p.func.0 g.0)
ordered (spot.At p) (spot.At q) = by-func p q (compared p.func.0 q.func.0)

-- ---- rules are told by their numbers

numbers-tell : (c d : TypeCode) → number c ≡ number d → c ≡ d
numbers-tell code.Types code.Types e = refl
numbers-tell code.PhiEntries code.PhiEntries e = refl
numbers-tell code.EntryBlock code.EntryBlock e = refl
numbers-tell code.SwitchCase code.SwitchCase e = refl
numbers-tell code.NoEntry code.NoEntry e = refl
numbers-tell code.BadNumberAttr code.BadNumberAttr e = refl
numbers-tell code.IdRange code.IdRange e = refl
numbers-tell code.UnknownDecl code.UnknownDecl e = refl
numbers-tell code.EntrySignature code.EntrySignature e = refl
numbers-tell code.ReservedName code.ReservedName e = refl
numbers-tell c d e = absurd (omega (arith, e))

module _ (s t : Spot) (c d : TypeCode) (no : ¬ Precedes (s, c) (t, d)) (on : ¬ Precedes (t, d) (s, c)) where
  same-rule : group c ≡ group d → s ≡ t → Compared (number c) (number d) → c ≡ d
  same-rule g z (inl h) = absurd (no (inr (g, inr (z, h))))
  same-rule g z (inr (inl e)) = numbers-tell c d e
  same-rule g z (inr (inr h)) = let z' : t ≡ s = cc in absurd (on (inr (omega (arith, g), inr (z', h))))

  same-spot : group c ≡ group d → Ordered s t → (s ≡ t) × (c ≡ d)
  same-spot g (inl h) = absurd (no (inr (g, inl h)))
  same-spot g (inr (inl z)) = (z, same-rule g z (compared (number c) (number d)))
  same-spot g (inr (inr h)) = absurd (on (inr (omega (arith, g), inl h)))

  same-group : Compared (group c) (group d) → (s ≡ t) × (c ≡ d)
  same-group (inl h) = absurd (no (inl h))
  same-group (inr (inl g)) = same-spot g (ordered s t)
  same-group (inr (inr h)) = absurd (on (inl h))

pub one-first : (m : Module) (limit : ℕ) (s t : Spot) (c d : TypeCode) → IsFirstFault m limit s c → IsFirstFault m limit t d → (s ≡ t) × (c ≡ d)
one-first m limit s t c d h i = same-group s t c d (λ p. i.first s c h.fault p) (λ p. h.first t d i.fault p) (compared (group c) (group d))
