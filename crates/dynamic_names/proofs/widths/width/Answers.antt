use Rattle.std.proofs.Common.{◌≡◌, ◌-◌, ◌<◌, ◌≤◌, ◌++◌, ◌∙◌, ap, arith, length, subst, sym, take}
use Rattle.std.specs.Prelude.{slice_get}
use Rattle.fused_parts.specs.Nodes.{frame_widths, frames_widths}
use Rattle.static_steps.specs.Values.{dynamics}
use Rattle.dynamic_names.proofs.Numbers.{at-first, at-top, behind, in-front, lowest, many-names, shorter}
use Rattle.dynamic_names.proofs.widths.width.Goals as goal

pub loop-at-init : goal.loop-at-init
loop-at-init c =
    let f = at-first c.args.m.now c.args.config.now c.len-at.result c.args.name.0 c.len-at.ensures c.requires in
    record { inside = (let e = c.len-at.ensures in omega (arith, e)); few = f.0; same = f.1 }

pub at-frame-requires : goal.at-frame-requires
at-frame-requires c = let i = c.loop-at.invariant.inside in let t = c.loop-at-test.true in omega (arith, i, t)

pub returns-then-left-own : goal.returns-then-left-own
returns-then-left-own c =
    let m = c.args.m.now in
    let fs = c.args.config.now.below in
    let f = c.at-frame.result.now in
    let own : c.count-own.result ≡ length (frame_widths m f) =
    c.count-own.ensures ∙ ap dynamics c.as_slice.ensures ∙ sym (many-names (slice_get m.funcs f.at.func.0) f.names) in
    sym c.loop-at.invariant.same
    ∙ in-front (frames_widths m (take c.loop-at.at fs)) (frame_widths m f) (frames_widths m (take (c.loop-at.at - 1) fs)) (frame_widths m c.args.config.now.top)
    (lowest m fs c.loop-at.at f c.loop-at-test.true c.at-frame.ensures) c.loop-at.left (let t = c.if-left-own.true in omega (arith, t, own))
    ∙ c.frame_width.ensures

pub loop-at-preserved : goal.loop-at-preserved
loop-at-preserved c =
    let m = c.args.m.now in
    let fs = c.args.config.now.below in
    let f = c.at-frame.result.now in
    let own : c.count-own.result ≡ length (frame_widths m f) =
    c.count-own.ensures ∙ ap dynamics c.as_slice.ensures ∙ sym (many-names (slice_get m.funcs f.at.func.0) f.names) in
    let whole = frames_widths m (take c.loop-at.at fs) in
    let rest = frames_widths m (take (c.loop-at.at - 1) fs) in
    let top = frame_widths m c.args.config.now.top in
    let is = lowest m fs c.loop-at.at f c.loop-at-test.true c.at-frame.ensures in
    let le : length (frame_widths m f) ≤ c.loop-at.left = (let t = c.if-left-own.false in omega (arith, t, own)) in
    record {
      inside = (let i = c.loop-at.invariant.inside in omega (arith, i));
      few =
          (let s = shorter whole (frame_widths m f) rest top is c.loop-at.left le c.loop-at.invariant.few in
          subst (λ n. c.loop-at.left - n < length (rest ++ top)) (sym own) s);
      same =
          ap (λ n. slice_get (rest ++ top) (c.loop-at.left - n)) own ∙ sym (behind whole (frame_widths m f) rest top is c.loop-at.left le) ∙ c.loop-at.invariant.same;
    }

pub frame_width-requires-2 : goal.frame_width-requires-2
frame_width-requires-2 c =
    let m = c.args.m.now in
    let top = c.args.config.now.top in
    let all = ap length (at-top m c.args.config.now.below top c.loop-at.at c.loop-at-test.false) in
    let many = many-names (slice_get m.funcs top.at.func.0) top.names in
    let few = c.loop-at.invariant.few in omega (arith, all, many, few)

pub returns : goal.returns
returns c =
    let m = c.args.m.now in
    let top = c.args.config.now.top in
    sym c.loop-at.invariant.same ∙ ap (λ ws. slice_get ws c.loop-at.left) (at-top m c.args.config.now.below top c.loop-at.at c.loop-at-test.false) ∙ c.frame_width-2.ensures
