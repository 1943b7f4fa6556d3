-- Lists to which two and three pieces were added one after the other.
use Rattle.std.proofs.Common.{◌≡◌, ◌++◌, List, ap, ◌∙◌, append_assoc}

module _ {A : Type 0} where
  pub two-pieces : (old mid new a b : List A) → mid ≡ old ++ a → new ≡ mid ++ b → new ≡ old ++ (a ++ b)
  two-pieces old mid new a b e f = f ∙ ap (λ l. l ++ b) e ∙ append_assoc old a b

  pub three-pieces : (old mid next new a b c : List A) → mid ≡ old ++ a → next ≡ mid ++ b → new ≡ next ++ c → new ≡ old ++ (a ++ (b ++ c))
  three-pieces old mid next new a b c e f g = two-pieces old mid new a (b ++ c) e (two-pieces mid next new b c f g)

  pub four-pieces : (old mid next last new a b c d : List A) → mid ≡ old ++ a → next ≡ mid ++ b → last ≡ next ++ c → new ≡ last ++ d → new ≡ old ++ (a ++ (b ++ (c ++ d)))
  four-pieces old mid next last new a b c d e f g h = two-pieces old mid new a (b ++ (c ++ d)) e (three-pieces mid next last new b c d f g h)
