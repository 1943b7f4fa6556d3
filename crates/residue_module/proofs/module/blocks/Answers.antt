use Rattle.std.proofs.Common.{◌≡◌, ◌∙◌}
use Rattle.std.proofs.lemmas.Result.{IfOk-weaker}
use Rattle.residue.specs.Printed.{edges_of, print_blocks}
use Rattle.residue_module.specs.code.Blocks.{part_blocks, phase_blocks}
use Rattle.residue_module.specs.code.Scenes.{at}
use Rattle.residue_module.proofs.Whole.{adaptive-whole, base-whole, printer_of, ready}
use Rattle.residue_module.proofs.module.blocks.Goals as goal

pub base_blocks-requires-clause-few : goal.base_blocks-requires-clause-few
base_blocks-requires-clause-few c = (ready c.args.residue.now c.args.target c.requires.valid c.args.names c.args.functions c.requires.names c.requires.functions c.as_slice-in-Base.result.now c.as_slice-in-Base.ensures).few

pub base_blocks-requires-clause-room : goal.base_blocks-requires-clause-room
base_blocks-requires-clause-room c = (ready c.args.residue.now c.args.target c.requires.valid c.args.names c.args.functions c.requires.names c.requires.functions c.as_slice-in-Base.result.now c.as_slice-in-Base.ensures).room

pub base_blocks-requires-clause-items : goal.base_blocks-requires-clause-items
base_blocks-requires-clause-items c = (ready c.args.residue.now c.args.target c.requires.valid c.args.names c.args.functions c.requires.names c.requires.functions c.as_slice-in-Base.result.now c.as_slice-in-Base.ensures).items

pub base_blocks-requires-clause-tails : goal.base_blocks-requires-clause-tails
base_blocks-requires-clause-tails c = (ready c.args.residue.now c.args.target c.requires.valid c.args.names c.args.functions c.requires.names c.requires.functions c.as_slice-in-Base.result.now c.as_slice-in-Base.ensures).tails

pub adaptive_blocks-requires-clause-few : goal.adaptive_blocks-requires-clause-few
adaptive_blocks-requires-clause-few c = (ready c.args.residue.now c.args.target c.requires.valid c.args.names c.args.functions c.requires.names c.requires.functions c.as_slice-in-Adaptive.result.now c.as_slice-in-Adaptive.ensures).few

pub adaptive_blocks-requires-clause-count : goal.adaptive_blocks-requires-clause-count
adaptive_blocks-requires-clause-count c = (ready c.args.residue.now c.args.target c.requires.valid c.args.names c.args.functions c.requires.names c.requires.functions c.as_slice-in-Adaptive.result.now c.as_slice-in-Adaptive.ensures).count

pub adaptive_blocks-requires-clause-room : goal.adaptive_blocks-requires-clause-room
adaptive_blocks-requires-clause-room c = (ready c.args.residue.now c.args.target c.requires.valid c.args.names c.args.functions c.requires.names c.requires.functions c.as_slice-in-Adaptive.result.now c.as_slice-in-Adaptive.ensures).room

pub adaptive_blocks-requires-clause-items : goal.adaptive_blocks-requires-clause-items
adaptive_blocks-requires-clause-items c = (ready c.args.residue.now c.args.target c.requires.valid c.args.names c.args.functions c.requires.names c.requires.functions c.as_slice-in-Adaptive.result.now c.as_slice-in-Adaptive.ensures).items

pub adaptive_blocks-requires-clause-tails : goal.adaptive_blocks-requires-clause-tails
adaptive_blocks-requires-clause-tails c = (ready c.args.residue.now c.args.target c.requires.valid c.args.names c.args.functions c.requires.names c.requires.functions c.as_slice-in-Adaptive.result.now c.as_slice-in-Adaptive.ensures).tails

pub adaptive_blocks-requires-clause-args : goal.adaptive_blocks-requires-clause-args
adaptive_blocks-requires-clause-args c = (ready c.args.residue.now c.args.target c.requires.valid c.args.names c.args.functions c.requires.names c.requires.functions c.as_slice-in-Adaptive.result.now c.as_slice-in-Adaptive.ensures).args

pub returns-in_ok-irreversible-in-Base : goal.returns-in_ok-irreversible-in-Base
returns-in_ok-irreversible-in-Base c =
    let p = printer_of c.args.names c.args.functions c.args.residue.now in
    let parts = c.as_slice-in-Base.result.now in
    IfOk-weaker c.base_blocks.result (λ l. l ≡ phase_blocks (at p) c.in_ok-irreversible-in-Base.irreversible.keys parts) (λ l. l ≡ print_blocks c.args.residue.now c.args.target)
    (λ l e. e ∙ base-whole c.args.residue.now p parts c.args.target c.in_ok-irreversible-in-Base.irreversible.keys c.as_slice.result.now (ready c.args.residue.now c.args.target c.requires.valid c.args.names c.args.functions c.requires.names c.requires.functions c.as_slice-in-Base.result.now c.as_slice-in-Base.ensures)
    c.in-Base.is c.as_slice.ensures c.in_ok-irreversible-in-Base.ensures) c.base_blocks.ensures

pub returns-in-Adaptive : goal.returns-in-Adaptive
returns-in-Adaptive c =
    let p = printer_of c.args.names c.args.functions c.args.residue.now in
    let parts = c.as_slice-in-Adaptive.result.now in
    IfOk-weaker c.adaptive_blocks.result (λ l. l ≡ part_blocks (at p) (edges_of 0 parts) 0 0 parts) (λ l. l ≡ print_blocks c.args.residue.now c.args.target)
    (λ l e. e ∙ adaptive-whole c.args.residue.now p parts c.args.target c.in-Adaptive.field-0 (ready c.args.residue.now c.args.target c.requires.valid c.args.names c.args.functions c.requires.names c.requires.functions c.as_slice-in-Adaptive.result.now c.as_slice-in-Adaptive.ensures) c.in-Adaptive.is) c.adaptive_blocks.ensures
