-- Texts that grow by pieces.
use Rattle.std.proofs.Common.{◌≡◌, ℕ, List, ◌++◌, sym, ap, ◌∙◌, append_assoc}
use Rattle.std.proofs.lemmas.List.Concat.{flat_map-append}
use Rattle.ir_parts.specs.Parts.{Part, bytes_of, text_of}

pub two : (s t u a b : List ℕ) → t ≡ s ++ a → u ≡ t ++ b → u ≡ s ++ (a ++ b)
two s t u a b e f = f ∙ (ap (λ x. x ++ b) e ∙ append_assoc s a b)

pub three : (s t u v a b c : List ℕ) → t ≡ s ++ a → u ≡ t ++ b → v ≡ u ++ c → v ≡ s ++ (a ++ (b ++ c))
three s t u v a b c e f g = two s t v a (b ++ c) e (two t u v b c f g)

pub four : (s t u v w a b c d : List ℕ) → t ≡ s ++ a → u ≡ t ++ b → v ≡ u ++ c → w ≡ v ++ d → w ≡ s ++ (a ++ (b ++ (c ++ d)))
four s t u v w a b c d e f g h = two s t w a (b ++ (c ++ d)) e (three t u v w b c d f g h)

pub text_of-append : (ps qs : List Part) → text_of (ps ++ qs) ≡ text_of ps ++ text_of qs
text_of-append ps qs = flat_map-append bytes_of ps qs

-- the text of parts, and of parts behind them
pub pair : (s t u : List ℕ) (ps qs : List Part) → t ≡ s ++ text_of ps → u ≡ t ++ text_of qs → u ≡ s ++ text_of (ps ++ qs)
pair s t u ps qs e f = two s t u (text_of ps) (text_of qs) e f ∙ ap (λ x. s ++ x) (sym (text_of-append ps qs))

-- some of what is to come is written
pub step : (s t whole : List ℕ) (ps qs : List Part) → t ≡ s ++ text_of ps → s ++ text_of (ps ++ qs) ≡ whole → t ++ text_of qs ≡ whole
step s t whole ps qs e f =
    ap (λ x. x ++ text_of qs) e ∙ (append_assoc s (text_of ps) (text_of qs) ∙ (ap (λ x. s ++ x) (sym (text_of-append ps qs)) ∙ f))
