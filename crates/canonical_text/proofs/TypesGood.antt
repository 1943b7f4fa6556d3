-- The parts of types stand apart.
use Rattle.std.proofs.Common.{ℕ, zero, suc, false, List, [], ◌∷◌, ◌++◌, take, drop, refl}
use Rattle.std.specs.Prelude.{codes}
use Rattle.ir_values.specs.Types.{words_of}
use Rattle.ir_values.specs.declared.int.Width.{Width}
use Rattle.ir_values.specs.declared.int.Width.TheVariants.{W1, W8, W16, W32, W64}
use Rattle.ir_values.specs.declared.sig.TyWord.{TyWord}
use Rattle.ir_values.specs.declared.sig.TyWord.TheVariants as tyword
use Rattle.ir_values.specs.declared.ty.Ty.{Ty}
use Rattle.ir_parts.specs.Parts.{Part}
use Rattle.ir_printer.specs.Pieces.{blank, sign, listed}
use Rattle.ir_printer.specs.Types.{width_part, pointer_parts, with_pointer, types_parts, first_type, type_parts}
use Rattle.canonical_text.proofs.Join.{Good, AllGood, join, listed_good}

width_good : (w : Width) → Good (width_part w ∷ [])
width_good W1 = refl
width_good W8 = refl
width_good W16 = refl
width_good W32 = refl
width_good W64 = refl

all_taken : (n : ℕ) (ts : List (List Part)) → AllGood ts → AllGood (take n ts)
all_taken zero ts h = tt
all_taken (suc n) [] h = tt
all_taken (suc n) (t ∷ ts) h = (h.0, all_taken n ts h.1)

all_dropped : (n : ℕ) (ts : List (List Part)) → AllGood ts → AllGood (drop n ts)
all_dropped zero ts h = h
all_dropped (suc n) [] h = tt
all_dropped (suc n) (t ∷ ts) h = all_dropped n ts h.1

pointer_good : (ret : List Part) (params : List (List Part)) → Good ret → AllGood params → Good (pointer_parts ret params)
pointer_good ret params h k =
    let ends = sign (codes ")") ∷ sign (codes "*") ∷ [] in
    let inside : Good (listed params ++ ends) = join false (listed params) ends (listed_good params k) refl in
    join false ret (blank ∷ sign (codes "(") ∷ (listed params ++ ends)) h inside

with_pointer_good : (n : ℕ) (ts : List (List Part)) → AllGood ts → AllGood (with_pointer n ts)
with_pointer_good n [] h = tt
with_pointer_good n (ret ∷ ts) h = (pointer_good ret (take n ts) h.0 (all_taken n ts h.1), all_dropped n ts h.1)

types_good : (ws : List TyWord) → AllGood (types_parts ws)
types_good [] = tt
types_good (tyword.Func n ∷ ws) = with_pointer_good n (types_parts ws) (types_good ws)
types_good (tyword.Int w ∷ ws) = (width_good w, types_good ws)
types_good (tyword.Void ∷ ws) = (refl, types_good ws)
types_good (tyword.Double ∷ ws) = (refl, types_good ws)
types_good (tyword.Qubit ∷ ws) = (refl, types_good ws)
types_good (tyword.Res ∷ ws) = (refl, types_good ws)
types_good (tyword.Text ∷ ws) = (refl, types_good ws)

first_good : (ts : List (List Part)) → AllGood ts → Good (first_type ts)
first_good [] h = refl
first_good (t ∷ ts) h = h.0

pub type_good : (t : Ty) → Good (type_parts t)
type_good t = first_good (types_parts (words_of t)) (types_good (words_of t))
