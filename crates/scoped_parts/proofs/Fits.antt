-- The numbers of Dynamic values, and their widths in what a part has given so far.
use Rattle.std.proofs.Common.{◌≡◌, ℕ, zero, suc, Option, Some, List, [], ◌∷◌, ◌++◌, length, map, refl, sym, ap, ◌∙◌, subst, arith}
use Rattle.std.proofs.lemmas.Bool.{and_from}
use Rattle.std.specs.Prelude.{⊤, if◌then◌else◌, slice_get, slice_index_or, true}
use Rattle.ir_values.specs.declared.int.Width.{Width}
use Rattle.ir_values.specs.declared.ty.Ty.{Ty}
use Rattle.ir_values.specs.declared.ty.Ty.TheVariants as ty
use Rattle.ir_values.specs.Values.{same_width}
use Rattle.ir_values.specs.Width.{bits_of}
use Rattle.kept_items.specs.declared.val.Dyn.{Dyn}
use Rattle.kept_items.specs.declared.val.Val.TheVariants.{Dynamic}
use Rattle.residue.specs.Scopes.{width_in}
use Rattle.residue.specs.Valid.{args_fit, is_of_width, val_has}
use Rattle.fused_parts.specs.Parts.{dyn, in_row, number_at, with_widths}
use Rattle.valid_steps.specs.Types.{Fill}
use Rattle.scoped_parts.proofs.Rows.{IsRow, behind-others, in-front, row_of, row-of-is, same-number}

-- the type of a Dynamic value of a width
abbrev pub int_type : Width → Option Ty
int_type w = Some (ty.Int w)

-- the values of these numbers have these widths in the scope, one for one
abbrev pub Fit : List (ℕ × Width) → List Dyn → List Width → Type 0
Fit scope [] [] = ⊤
Fit scope [] (w ∷ ws) = ⊥
Fit scope (d ∷ ds) [] = ⊥
Fit scope (d ∷ ds) (w ∷ ws) = (width_in scope d.0 ≡ Some w) × Fit scope ds ws

pub fit-length : (scope : List (ℕ × Width)) (ds : List Dyn) (ws : List Width) → Fit scope ds ws → length ds ≡ length ws
fit-length scope [] [] h = refl
fit-length scope [] (w ∷ ws) h = absurd h
fit-length scope (d ∷ ds) [] h = absurd h
fit-length scope (d ∷ ds) (w ∷ ws) h = ap suc (fit-length scope ds ws h.1)

-- in a scope with more behind
pub fit-more : (scope more : List (ℕ × Width)) (ds : List Dyn) (ws : List Width) → Fit scope ds ws → Fit (scope ++ more) ds ws
fit-more scope more [] [] h = tt
fit-more scope more [] (w ∷ ws) h = absurd h
fit-more scope more (d ∷ ds) [] h = absurd h
fit-more scope more (d ∷ ds) (w ∷ ws) h = (in-front scope more d.0 w h.0, fit-more scope more ds ws h.1)

-- in a scope with more before, in one row
pub fit-behind : (n : ℕ) (before scope : List (ℕ × Width)) (ds : List Dyn) (ws : List Width) → IsRow n (before ++ scope) → Fit scope ds ws
    → Fit (before ++ scope) ds ws
fit-behind n before scope [] [] r h = tt
fit-behind n before scope [] (w ∷ ws) r h = absurd h
fit-behind n before scope (d ∷ ds) [] r h = absurd h
fit-behind n before scope (d ∷ ds) (w ∷ ws) r h = (behind-others n before scope d.0 w r h.0, fit-behind n before scope ds ws r h.1)

pub fit-append : (scope : List (ℕ × Width)) (ds es : List Dyn) (ws us : List Width) → Fit scope ds ws → Fit scope es us → Fit scope (ds ++ es) (ws ++ us)
fit-append scope [] es [] us h k = k
fit-append scope [] es (w ∷ ws) us h k = absurd h
fit-append scope (d ∷ ds) es [] us h k = absurd h
fit-append scope (d ∷ ds) es (w ∷ ws) us h k = (h.0, fit-append scope ds es ws us h.1 k)

-- new values in a row have their widths
pub fit-new : (n : ℕ) (ws : List Width) → Fit (row_of n ws) (in_row n (length ws)) ws
fit-new n [] = tt
fit-new n (w ∷ ws) = (
  ap (λ b. if b then Some w else width_in (row_of (suc n) ws) n) (same-number n),
  fit-behind n ((n, w) ∷ []) (row_of (suc n) ws) (in_row (suc n) (length ws)) ws (refl, row-of-is (suc n) ws) (fit-new (suc n) ws),
)

pub fit-at : (scope : List (ℕ × Width)) (ds : List Dyn) (ws : List Width) (i : ℕ) (w : Width) → Fit scope ds ws → slice_get ws i ≡ Some w
    → width_in scope (slice_index_or ds i (dyn 0)).0 ≡ Some w
fit-at scope [] [] i w h e = cc
fit-at scope [] (v ∷ ws) i w h e = absurd h
fit-at scope (d ∷ ds) [] i w h e = absurd h
fit-at scope (d ∷ ds) (v ∷ ws) zero w h e = let s : v ≡ w = cc in h.0 ∙ ap Some s
fit-at scope (d ∷ ds) (v ∷ ws) (suc i) w h e = fit-at scope ds ws i w h.1 e

-- ---- types of Dynamic values

pub same-width : (w : Width) → same_width w w ≡ true
same-width w = same-number (bits_of w)

pub type-at : (ws : List Width) (i : ℕ) (u : Ty) → slice_get (map int_type ws) i ≡ Some (Some u) → (w : Width) × (slice_get ws i ≡ Some w) × (u ≡ ty.Int w)
type-at [] i u e = cc
type-at (w ∷ ws) zero u e = let s : u ≡ ty.Int w = cc in (w, refl, s)
type-at (w ∷ ws) (suc i) u e = type-at ws i u e

pub width-at : (ws : List Width) (i : ℕ) (w : Width) → slice_get (map int_type ws) i ≡ Some (int_type w) → slice_get ws i ≡ Some w
width-at [] i w e = cc
width-at (v ∷ ws) zero w e = let s : v ≡ w = cc in ap Some s
width-at (v ∷ ws) (suc i) w e = width-at ws i w e

-- a Dynamic value has its type in the scope
pub dynamic-has : (scope : List (ℕ × Width)) (mine : List Dyn) (ws : List Width) (u : Ty) (d : Dyn) → Fit scope mine ws → slice_get (map int_type ws) d.0 ≡ Some (Some u)
    → val_has scope u (Dynamic (number_at mine d)) ≡ true
dynamic-has scope mine ws u d h e =
    let t = type-at ws d.0 u e in
    subst (λ v. val_has scope v (Dynamic (number_at mine d)) ≡ true) (sym t.2) (ap (is_of_width t.0) (fit-at scope mine ws d.0 t.0 h t.1) ∙ same-width t.0)

-- values that fill Dynamic names have the widths of these
pub fit-filled : (scope : List (ℕ × Width)) (mine : List Dyn) (ws : List Width) → Fit scope mine ws → (args : List Dyn) (us : List Width)
    → Fill (map int_type ws) args (map int_type us) → Fit scope (map (number_at mine) args) us
fit-filled scope mine ws h [] [] f = tt
fit-filled scope mine ws h [] (u ∷ us) f = absurd f
fit-filled scope mine ws h (d ∷ args) [] f = absurd f
fit-filled scope mine ws h (d ∷ args) (u ∷ us) f =
    (fit-at scope mine ws d.0 u h (width-at ws d.0 u f.0), fit-filled scope mine ws h args us f.1)

-- and so they fit the parameters that stand for these
pub args-fit : (scope : List (ℕ × Width)) (mine params : List Dyn) (ws : List Width) → Fit scope mine ws → (args : List Dyn) (us : List Width) → length params ≡ length us
    → Fill (map int_type ws) args (map int_type us) → args_fit scope (with_widths params us) (map (λ d. Dynamic (number_at mine d)) args) ≡ true
args-fit scope mine params ws h args us e f = by-fit params args us e (fit-filled scope mine ws h args us f)
  where
    by-fit : (params args : List Dyn) (us : List Width) → length params ≡ length us → Fit scope (map (number_at mine) args) us
        → args_fit scope (with_widths params us) (map (λ d. Dynamic (number_at mine d)) args) ≡ true
    by-fit [] [] [] e f = refl
    by-fit [] [] (u ∷ us) e f = absurd f
    by-fit [] (d ∷ args) [] e f = absurd f
    by-fit [] (d ∷ args) (u ∷ us) e f = absurd (omega (arith, e))
    by-fit (x ∷ params) args [] e f = absurd (omega (arith, e))
    by-fit (x ∷ params) [] (u ∷ us) e f = absurd f
    by-fit (x ∷ params) (d ∷ args) (u ∷ us) e f =
        and_from (val_has scope (ty.Int u) (Dynamic (number_at mine d))) (args_fit scope (with_widths params us) (map (λ d. Dynamic (number_at mine d)) args))
        (ap (is_of_width u) f.0 ∙ same-width u) (by-fit params args us (omega (arith, e)) f.1)
