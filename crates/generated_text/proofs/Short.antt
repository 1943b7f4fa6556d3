-- The text is short.
use Rattle.std.proofs.Common.{◌≡◌, ℕ, ◌<◌, ◌≤◌, ◌++◌, ◌^◌, length, refl, arith, length-append}
use Rattle.std.proofs.lemmas.Fmt.{length-decimal-le}
use Rattle.std.specs.Prelude.{decimal}
use Rattle.generated_text.specs.Text.{after_turns, before_turns, declarations, generated}

before : length before_turns ≡ 177
unfolding before_turns
before = refl

after : length after_turns ≡ 683
unfolding after_turns
after = refl

declared : length declarations ≡ 392
unfolding declarations
declared = refl

pub short : (n : ℕ) → n < 2 ^ 32 → length (generated n) < 2000
unfolding generated
short n lt =
    let digits : length (decimal n) ≤ 10 = length-decimal-le 10 n (omega arith) (omega arith) (omega arith) in
    let all = length-append (before_turns ++ decimal n) (after_turns ++ declarations) in
    let head = length-append before_turns (decimal n) in
    let tail = length-append after_turns declarations in
    omega (arith, all, head, tail, digits, before, after, declared)
