-- Canonical text can hold the printed module.
use Rattle.std.proofs.Common.{◌≡◌, ◌^◌, Bool, true, ◌&&◌, not, map, refl}
use Rattle.std.proofs.lemmas.Bool.{and_from}
use Rattle.std.specs.List.{list_all}
use Rattle.std.specs.Prelude.{◌||◌, is_none, nat_lt}
use Rattle.ir_module.specs.declared.tree.Function.{Function}
use Rattle.ir_module.specs.Numbered.{Numbered}
use Rattle.ir_module.specs.Printable.{IsPrintable, attr_fits, declaration_fits, in_text_order, names_fit, types_fit}
use Rattle.kept_items.specs.declared.target.Target.{Target}
use Rattle.residue.specs.declared.parts.Residue.{Residue}
use Rattle.residue.specs.Functions.{declaration, declared_of}
use Rattle.residue.specs.Printed.{printed, printed_entry}
use Rattle.residue.specs.Valid.{Valid}
use Rattle.printable_residue.proofs.Declared.{declarations-fit, declarations-marked, declarations-named, declarations-ordered, declarations-typed}
use Rattle.printable_residue.proofs.Entry.{entry-named, entry-typed}
use Rattle.printable_residue.proofs.Flags.{entry-attrs, flags-few, flags-fit}
use Rattle.printable_residue.proofs.Order.{entry-ordered}
use Rattle.printable_residue.proofs.Steps.{steps-fit}
use Rattle.printable_residue.specs.Pieces.{HasPrintablePieces}

module _ (r : Residue) (t : Target) (ok : Valid r t) (pieces : HasPrintablePieces r) where
  -- a test that the entry and all declarations pass
  functions-pass : (test : Function → Bool) → test (printed_entry r t) ≡ true → list_all test (map (declaration r.irreversible) (declared_of r)) ≡ true → list_all test (printed r t).funcs ≡ true
  functions-pass test h g = and_from (test (printed_entry r t)) (list_all test (map (declaration r.irreversible) (declared_of r))) h g

  pub printable : Numbered (printed r t) → IsPrintable (printed r t)
  printable numbered = record {
    numbered = numbered;
    steps = steps-fit r t ok pieces;
    results = functions-pass in_text_order (entry-ordered r t ok) (declarations-ordered r t ok pieces);
    declarations = functions-pass (λ f. not (is_none f.blocks) || declaration_fits f) refl (declarations-fit r t ok pieces);
    types = functions-pass types_fit (entry-typed r t ok pieces) (declarations-typed r t ok pieces);
    names = functions-pass (λ f. names_fit f && nat_lt f.params (2 ^ 32)) (entry-named r t ok pieces) (declarations-named r t ok pieces);
    attributes = functions-pass (λ f. list_all attr_fits f.attrs) (entry-attrs r t pieces) (declarations-marked r t ok pieces);
    constants = pieces.constants;
    flags = flags-fit t;
    nodes = flags-few t;
  }
