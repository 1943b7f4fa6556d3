-- Names that are read one by one.
use Rattle.std.proofs.Common.{◌≡◌, ◌∙◌, ℕ, zero, suc, ◌<◌, false, Option, None, Some, List, [], ◌∷◌, ◌++◌, length, take, get_or, refl, ap, arith, if◌then◌else◌}
use Rattle.std.specs.Prelude.{codes}
use Rattle.std.specs.Option.{option_and_then}
use Rattle.ir_values.specs.Calls.{same_text}
use Rattle.kept_items.specs.declared.target.Caps.{Caps}
use Rattle.capability_words.specs.Words.{all_caps, caps_of, names_of, no_caps, with_cap}

-- with the names of two lists: with those of the first, and then with those of the second
all_caps-append : (names more : List (List ℕ)) (caps : Caps) → all_caps (names ++ more) caps ≡ option_and_then (all_caps more) (all_caps names caps)
all_caps-append [] more caps = refl
all_caps-append (name ∷ names) more caps = by (with_cap name caps) (all_caps-append names more)
  where
    by : (o : Option Caps) → ((next : Caps) → all_caps (names ++ more) next ≡ option_and_then (all_caps more) (all_caps names next))
        → option_and_then (all_caps (names ++ more)) o ≡ option_and_then (all_caps more) (option_and_then (all_caps names) o)
    by None same = refl
    by (Some next) same = same next

-- with one name more
pub one-more : (names : List (List ℕ)) (name : List ℕ) (start caps next : Caps) → all_caps names start ≡ Some caps → with_cap name caps ≡ Some next → all_caps (names ++ name ∷ []) start ≡ Some next
one-more names name start caps next so_far e =
    all_caps-append names (name ∷ []) start ∙ ap (option_and_then (all_caps (name ∷ []))) so_far ∙ ap (option_and_then (all_caps [])) e

-- a name that can't come behind those before it
pub wrong-name : (names : List (List ℕ)) (n : ℕ) (d : List ℕ) (start caps : Caps) → n < length names → all_caps (take n names) start ≡ Some caps → with_cap (get_or names n d) caps ≡ None
    → all_caps names start ≡ None
wrong-name [] n d start caps l so_far e = absurd (omega (arith, l))
wrong-name (name ∷ names) zero d start caps l so_far e = let same : start ≡ caps = cc in ap (λ c. option_and_then (all_caps names) (with_cap name c)) same ∙ ap (option_and_then (all_caps names)) e
wrong-name (name ∷ names) (suc n) d start caps l so_far e = by (with_cap name start) so_far (λ next h. wrong-name names n d next caps (omega (arith, l)) h e)
  where
    by : (o : Option Caps) → option_and_then (all_caps (take n names)) o ≡ Some caps → ((next : Caps) → all_caps (take n names) next ≡ Some caps → all_caps names next ≡ None)
        → option_and_then (all_caps names) o ≡ None
    by None h later = refl
    by (Some next) h later = later next h

-- a word that isn't `-` names what stands between its commas
pub names-told : (word : List ℕ) → same_text word (codes "-") ≡ false → caps_of word ≡ all_caps (names_of word) no_caps
names-told word e = ap (λ b. if b then Some no_caps else all_caps (names_of word) no_caps) e
