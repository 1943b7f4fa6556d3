-- The entry of the printed module: its names and its types.
use Rattle.std.proofs.Common.{◌≡◌, ◌^◌, true, ◌&&◌, refl, arith}
use Rattle.std.proofs.lemmas.Bool.{and_from}
use Rattle.std.specs.List.{list_all}
use Rattle.std.specs.Prelude.{nat_lt}
use Rattle.ir_module.specs.Printable.{name_fits, names_fit, type_fits, types_fit}
use Rattle.ir_module.specs.Tree.{blocks_of}
use Rattle.kept_items.specs.declared.target.Target.{Target}
use Rattle.kept_items.specs.declared.target.Target.TheVariants.{Base, Adaptive}
use Rattle.residue.specs.declared.parts.Residue.{Residue}
use Rattle.residue.specs.Printed.{locals_from, names_of, print_blocks, printed_entry}
use Rattle.residue.specs.Valid.{Valid}
use Rattle.numbered_residue.proofs.Listed.{names-few, parts-few}
use Rattle.numbered_residue.proofs.Shapes.{all-locals-pass}
use Rattle.printable_residue.proofs.Bytes.{base-named, blocks-named, locals-named}
use Rattle.printable_residue.specs.Pieces.{HasPrintablePieces}

module _ (r : Residue) (t : Target) (ok : Valid r t) (pieces : HasPrintablePieces r) where
  all-blocks-named : (u : Target) → list_all (λ b. name_fits b.name) (print_blocks r u) ≡ true
  all-blocks-named Base = base-named r r.parts
  all-blocks-named (Adaptive caps) = blocks-named r 0 0 r.parts (let h = parts-few r t ok in omega (arith, h))

  pub entry-named : (names_fit (printed_entry r t) && nat_lt (printed_entry r t).params (2 ^ 32)) ≡ true
  entry-named =
      and_from (names_fit (printed_entry r t)) true
      (and_from (name_fits r.entry) (list_all (λ l. name_fits l.0) (locals_from 0 (names_of r.parts)) && list_all (λ b. name_fits b.name) (blocks_of (printed_entry r t))) pieces.entry
      (and_from (list_all (λ l. name_fits l.0) (locals_from 0 (names_of r.parts))) (list_all (λ b. name_fits b.name) (blocks_of (printed_entry r t)))
      (locals-named 0 (names_of r.parts) (let h = names-few r t ok in omega (arith, h))) (all-blocks-named t))) refl

  pub entry-typed : types_fit (printed_entry r t) ≡ true
  entry-typed = all-locals-pass r t ok type_fits (λ w. refl)
