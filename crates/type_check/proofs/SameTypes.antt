-- A test of equality of types or of words is that of the definitions.
use Rattle.std.proofs.Common.{◌≡◌, Bool, List, sym}
use Rattle.std.specs.Bool.{Decides}
use Rattle.ir_values.specs.declared.sig.TyWord.{TyWord}
use Rattle.ir_values.specs.declared.ty.Ty.{Ty}
use Rattle.ir_values.specs.Calls.{same_word, same_words}
use Rattle.ir_values.specs.Equal.{same_test}
use Rattle.ir_values.proofs.WordLemmas.{same_word_decides, same_words_decides}
use Rattle.type_check.specs.Typing.{same_type}
use Rattle.type_check.proofs.Equal.{same_type-decides}

-- a test of equality is that of types
pub type-test : (b : Bool) (t u : Ty) → Decides b (t ≡ u) → b ≡ same_type t u
type-test b t u d = same_test b (same_type t u) d (same_type-decides t u)

pub word-test : (b : Bool) (t u : TyWord) → Decides b (t ≡ u) → b ≡ same_word t u
word-test b t u d = same_test b (same_word t u) d (same_word_decides t u)

pub words-test : (b : Bool) (us vs : List TyWord) → Decides b (us ≡ vs) → b ≡ same_words us vs
words-test b us vs d = same_test b (same_words us vs) d (same_words_decides us vs)

pub same_words-turned : (us vs : List TyWord) → same_words us vs ≡ same_words vs us
same_words-turned us vs = let d = same_words_decides vs us in same_test (same_words us vs) (same_words vs us) (same_words_decides us vs) ((λ h. sym (d.0 h)), (λ h. d.1 (sym h)))
