-- The words of types one after another, with the function pointer types that are open.
use Rattle.std.specs.Prelude.{zero, suc, List, [], ◌∷◌, ◌++◌, codes}
use Rattle.ir_values.specs.declared.sig.TyWord.{TyWord}
use Rattle.ir_values.specs.declared.sig.TyWord.TheVariants as tyword
use Rattle.ir_parts.specs.Parts.{Part}
use Rattle.ir_printer.specs.Pieces.{blank, sign, comma}
use Rattle.ir_printer.specs.Types.{word_parts}
use Rattle.ir_printer.specs.declared.open.Open.{Open}
use Rattle.ir_printer.specs.declared.open.Open.TheVariants.{Returning, Listing}

-- what stands behind a type that is whole, and the types that are open then
pub record Behind : Type 0 where
  pub parts : List Part
  pub open_types : List Open

abbrev pub put : List Part → Behind → Behind
put ps b = record { parts = ps ++ b.parts; open_types = b.open_types }

-- of the function pointer types that are open, the innermost first, behind a type that is whole
abbrev pub behind : List Open → Behind
behind [] = record { parts = []; open_types = [] }
behind (Returning zero ∷ os) = put (blank ∷ sign (codes "(") ∷ sign (codes ")") ∷ sign (codes "*") ∷ []) (behind os)
behind (Returning (suc n) ∷ os) = record { parts = blank ∷ sign (codes "(") ∷ []; open_types = Listing n ∷ os }
behind (Listing zero ∷ os) = put (sign (codes ")") ∷ sign (codes "*") ∷ []) (behind os)
behind (Listing (suc n) ∷ os) = record { parts = comma; open_types = Listing n ∷ os }

-- one word within the types that are open, and what stands behind it
abbrev pub next : List Open → TyWord → Behind
next os (tyword.Func n) = record { parts = []; open_types = Returning n ∷ os }
next os w = put (word_parts w) (behind os)

-- words within the types that are open
abbrev pub words_parts : List Open → List TyWord → List Part
words_parts os [] = []
words_parts os (w ∷ ws) = (next os w).parts ++ words_parts (next os w).open_types ws
