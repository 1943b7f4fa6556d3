-- A module that a text spells can be printed.
use Rattle.std.proofs.Common.{◌≡◌, ℕ, ◌<◌, ◌-◌, ◌^◌, true, List, length, subst, sym}
use Rattle.std.specs.Prelude.{Result, Ok, Err, IfOk}
use Rattle.ir_grammar.specs.declared.tree.ItemSyntax.{ItemSyntax}
use Rattle.ir_module.specs.declared.tree.Module.{Module}
use Rattle.ir_module.specs.Printable.{are_bytes, IsPrintable}
use Rattle.ir_names.specs.Module.{module_of}
use Rattle.ir_tokens.specs.declared.token.Token.{Token}
use Rattle.read_modules.specs.Read.{IsRead}
use Rattle.ir_reader.specs.declared.parsed.Parsed.{Parsed}
use Rattle.ir_reader.specs.declared.parsed.ReadStop.{ReadStop}
use Rattle.ir_reader.specs.Spelling.{Spells}

module _ (law : (text : List ℕ) (tokens : List Token) (items : List ItemSyntax) → IsRead text tokens items → IsPrintable (module_of text items))
    (text : List ℕ) (bytes : are_bytes text ≡ true) (short : length text < 2 ^ 32 - 1) where
  is-printable : (m : Module) → Spells m text → IsPrintable m
  is-printable m (items, (tokens, whole, derived), (faultless, is)) =
      subst IsPrintable (sym is) (law text tokens items (record { bytes = bytes; short = short; whole = whole; derived = derived; faultless = faultless }))

  pub reads-printable : (r : Result Parsed ReadStop) → IfOk r (λ p. Spells p.module text) → IfOk r (λ p. IsPrintable p.module)
  reads-printable (Ok p) s = is-printable p.module s
  reads-printable (Err e) s = s
