-- Types in canonical text (LLVM Language Reference, 'Type System').
use Rattle.std.specs.Prelude.{ℕ, List, [], ◌∷◌, ◌++◌, take, drop, codes}
use Rattle.ir_text.specs.declared.tok.Tok.TheVariants.{Local}
use Rattle.ir_values.specs.Types.{words_of}
use Rattle.ir_values.specs.declared.int.Width.{Width}
use Rattle.ir_values.specs.declared.int.Width.TheVariants.{W1, W8, W16, W32, W64}
use Rattle.ir_values.specs.declared.sig.TyWord.{TyWord}
use Rattle.ir_values.specs.declared.sig.TyWord.TheVariants as tyword
use Rattle.ir_values.specs.declared.ty.Ty.{Ty}
use Rattle.ir_parts.specs.Parts.{Part, token}
use Rattle.ir_printer.specs.Pieces.{blank, sign, word, listed}

abbrev pub width_part : Width → Part
width_part W1 = word (codes "i1")
width_part W8 = word (codes "i8")
width_part W16 = word (codes "i16")
width_part W32 = word (codes "i32")
width_part W64 = word (codes "i64")

-- a type that is one word
abbrev pub word_parts : TyWord → List Part
word_parts tyword.Void = word (codes "void") ∷ []
word_parts (tyword.Int w) = width_part w ∷ []
word_parts tyword.Double = word (codes "double") ∷ []
word_parts tyword.Qubit = token Local (codes "%Qubit") ∷ sign (codes "*") ∷ []
word_parts tyword.Res = token Local (codes "%Result") ∷ sign (codes "*") ∷ []
word_parts tyword.Text = word (codes "i8") ∷ sign (codes "*") ∷ []
word_parts (tyword.Func n) = []

-- 'RET (T, T)*'
abbrev pub pointer_parts : List Part → List (List Part) → List Part
pointer_parts ret params = ret ++ blank ∷ sign (codes "(") ∷ (listed params ++ sign (codes ")") ∷ sign (codes "*") ∷ [])

-- the function pointer type that n parameters make with the types behind it, of which the first is its return type
abbrev pub with_pointer : ℕ → List (List Part) → List (List Part)
with_pointer n [] = []
with_pointer n (ret ∷ ts) = pointer_parts ret (take n ts) ∷ drop n ts

abbrev pub with_word : TyWord → List (List Part) → List (List Part)
with_word (tyword.Func n) ts = with_pointer n ts
with_word w ts = word_parts w ∷ ts

-- the types that words spell, one after another
abbrev pub types_parts : List TyWord → List (List Part)
types_parts [] = []
types_parts (w ∷ ws) = with_word w (types_parts ws)

abbrev pub first_type : List (List Part) → List Part
first_type [] = []
first_type (t ∷ ts) = t

abbrev pub type_parts : Ty → List Part
type_parts t = first_type (types_parts (words_of t))
