-- The text that a command looks at.
use Rattle.std.proofs.Common.{◌≡◌, ◌∙◌, ℕ, ◌+◌, ◌<◌, ◌≤◌, List, [], ◌++◌, length, take, refl, ap, sym, subst, arith, replicate, append-nil, Result, Ok, Err}
use Rattle.std.specs.Prelude.{Option, None, Some, IfSome}
use Rattle.std.specs.Option.{option_map}
use Rattle.std.specs.Result.{IfOk}
use Rattle.std.proofs.lemmas.List.{take-append-drop, length-replicate, length-take}
use Rattle.generated_text.specs.Text.{generated}
use Rattle.qir_cli.specs.code.Stops.{LooksAt}
use Rattle.qir_cli.specs.Commands.{turns_of}
use Rattle.qir_cli.specs.declared.command.Command.{Command}
use Rattle.qir_cli.specs.Replies.{generated_or, limit}
use Rattle.qir_ports.specs.declared.transfer.ReadError.{ReadError}
use Rattle.qir_ports.specs.declared.transfer.ReadError.TheVariants as error
use Rattle.qir_ports.specs.Known.{GivesAll, GivesTooMany, GivesUpTo}

-- a command that generates no text looks at the input
pub looks-at-input : (command : Command) (left : Option (List ℕ)) (text : List ℕ) → turns_of command ≡ None → IfSome left (λ all. all ≡ text) → LooksAt command left text
looks-at-input command left text none input = record { bytes = text; input = input; is = ap (generated_or text) (sym none) }

some-input : (left : Option (List ℕ)) → (bytes : List ℕ) × IfSome left (λ all. all ≡ bytes)
some-input None = ([], tt)
some-input (Some all) = (all, refl)

-- and one that generates a text looks at that, whatever the input
pub looks-at-generated : (command : Command) (left : Option (List ℕ)) (turns : ℕ) (text : List ℕ) → turns_of command ≡ Some turns → text ≡ generated turns → LooksAt command left text
looks-at-generated command left turns text some is =
    let b = some-input left in
    record { bytes = b.0; input = b.1; is = is ∙ ap (generated_or b.0) (sym some) }

long_bytes : (n : ℕ) → (bytes : List ℕ) × (n < length bytes)
long_bytes n = (replicate (n + 1) 0, subst (λ k. n < k) (sym (length-replicate (n + 1) 0)) (omega arith))

-- some bytes that are too long, which are those that were left where they are told
long_input : (left : Option (List ℕ)) → IfSome left (λ all. limit < length all) → (bytes : List ℕ) × (limit < length bytes) × IfSome left (λ all. all ≡ bytes)
long_input None long = let some = long_bytes limit in (some.0, some.1, tt)
long_input (Some all) long = (all, long, refl)

pub GivesUpTo-too_many : (most : ℕ) (before now : Option (List ℕ)) → GivesTooMany most before now → GivesUpTo (most + 1) before now
GivesUpTo-too_many most None now gives = ([], omega arith, ap (option_map (λ rest. [] ++ rest)) (sym gives.rest))
GivesUpTo-too_many most (Some all) now gives =
    (take (most + 1) all, omega (arith, length-take (most + 1) all), ap Some (sym (take-append-drop (most + 1) all)) ∙ sym (ap (option_map (λ rest. take (most + 1) all ++ rest)) gives.rest))

pub looks-at-long : (command : Command) (left : Option (List ℕ)) → turns_of command ≡ None → IfSome left (λ all. limit < length all)
    → (text : List ℕ) × LooksAt command left text × (limit < length text)
looks-at-long command left none long = let b = long_input left long in (b.0, looks-at-input command left b.0 none b.2, b.1)

-- nothing is read
pub gives-nothing : (most : ℕ) (left : Option (List ℕ)) → GivesUpTo most left left
gives-nothing most None = ([], omega arith, refl)
gives-nothing most (Some all) = ([], omega arith, refl)

-- ---- what reading a whole input comes to

pub looks-at-read : (command : Command) (left now : Option (List ℕ)) (r : Result (List ℕ) ReadError) → turns_of command ≡ None
    → IfOk r (λ text. GivesAll left text now) → IfOk r (LooksAt command left)
looks-at-read command left now (Ok text) none h = looks-at-input command left text none h.all
looks-at-read command left now (Err e) none h = tt

gives-all : (left now : Option (List ℕ)) (text : List ℕ) → GivesAll left text now → length text ≤ limit → GivesUpTo (limit + 1) left now
gives-all None now text h few = ([], omega arith, sym (ap (option_map (λ rest. [] ++ rest)) h.none_left))
gives-all (Some all) now text h few =
    (text, omega (arith, few), ap Some (h.all ∙ sym (append-nil text)) ∙ sym (ap (option_map (λ rest. text ++ rest)) h.none_left))

wider : (left now : Option (List ℕ)) → GivesUpTo limit left now → GivesUpTo (limit + 1) left now
wider left now h = (h.0, omega (arith, h.1), h.2)

pub gives-read : (left now : Option (List ℕ)) (r : Result (List ℕ) ReadError) → IfOk r (λ text. GivesAll left text now) → IfOk r (λ text. length text ≤ limit)
    → (r ≡ Err error.TooLong → GivesTooMany limit left now) → (r ≡ Err error.Failed → GivesUpTo limit left now)
    → (r ≡ Err error.Memory → GivesUpTo (limit + 1) left now) → GivesUpTo (limit + 1) left now
gives-read left now (Ok text) all few long failed memory = gives-all left now text all few
gives-read left now (Err error.TooLong) all few long failed memory = GivesUpTo-too_many limit left now (long refl)
gives-read left now (Err error.Failed) all few long failed memory = wider left now (failed refl)
gives-read left now (Err error.Memory) all few long failed memory = memory refl
