use Rattle.std.proofs.Common.{◌&&◌, not, nat_eq, refl, ap, ◌∙◌}
use Rattle.ir_module.specs.Tree.{blocks_of}
use Rattle.type_check.specs.Rules.{sources, entries_match, entries_agree}
use Rattle.type_check.proofs.StepBreaks.{phi_keeps}
use Rattle.type_check.proofs.scene.Scene.phi_kept.Goals as goal

pub returns : goal.returns
returns c =
    let f = c.args.self.now.function.now in
    let fit = c.in_ok-entries.ensures (blocks_of f) c.args.b c.requires.into ∙ ap (λ es. entries_match (sources c.args.b 0 (blocks_of f)) es && entries_agree es) c.as_slice.ensures in
    phi_keeps c.args.self.now.tree.now f c.args.b c.args.phi.now c.phi_types-types.result c.in_ok-entries.entries (not (nat_eq c.args.b 0)) c.phi_types-types.ensures fit refl
