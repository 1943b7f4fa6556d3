use Rattle.std.proofs.Common.{◌≡◌, ◌++◌, ◌∷◌, [], ◌+◌, ◌-◌, true, Some, length, refl, sym, ap, ◌∙◌, arith, slice_set, subst}
use Rattle.graph_cycles.specs.declared.search.Start.{Start}
use Rattle.graph_cycles.specs.code.Search.{IsLast}
use Rattle.graph_cycles.proofs.Lists.{popped, length-push, set-end}
use Rattle.graph_cycles.proofs.Merged.{Merging, Merging-start, Merging-less, Merging-none, MergesAt-end}
use Rattle.graph_cycles.proofs.search.Search.merge.Goals as goal

pub loop-last-preserved : goal.loop-last-preserved
loop-last-preserved c =
    let i = c.loop-last.invariant in
    let h : IsLast c.loop-last.self.starts (Some c.in-Some.last) = c.in-Some.ensures in
    let e = popped c.pop-later.result c.loop-last.self.starts c.pop-later.new.self h.0 c.in-Some.last c.pop-later.ensures h.1 in
    let l : length c.loop-last.self.starts ≡ length h.0 + 1 = ap length h.1 ∙ length-push h.0 c.in-Some.last in
    let k : length c.pop-later.new.self ≡ length h.0 = ap length e in
    let f = i.fewer in
    record {
      marks = i.marks;
      opens = i.opens;
      targets = i.targets;
      fewer = omega (arith, f, l, k);
      merging = λ g ts n a. subst (λ z. Merging g c.args.self.now.marks c.args.self.now.opens ts n c.args.p z) (sym e) (Merging-less g c.args.self.now.marks c.args.self.now.opens ts n c.args.p h.0 c.in-Some.last (omega arith) (subst (λ z. Merging g c.args.self.now.marks c.args.self.now.opens ts n c.args.p z) h.1 (i.merging g ts n a)));
    }

pub returns-then-last-p : goal.returns-then-last-p
returns-then-last-p c =
    let i = c.loop-last.invariant in
    let h : IsLast c.loop-last.self.starts (Some c.in-Some.last) = c.in-Some.ensures in
    let merged : Start = record { members = c.in-Some.last.members; targets = c.in-Some.last.targets; cyclic = true } in
    let l : length c.loop-last.self.starts ≡ length h.0 + 1 = ap length h.1 ∙ length-push h.0 c.in-Some.last in
    let n : c.len.result - 1 ≡ length h.0 = let z = c.len.ensures in omega (arith, z, l) in
    let e : c.set.new.self ≡ h.0 ++ merged ∷ [] = c.set.ensures ∙ (ap (λ k. slice_set c.loop-last.self.starts k merged) n ∙ (ap (λ s. slice_set s (length h.0) merged) h.1 ∙ set-end h.0 c.in-Some.last merged)) in
    let m : length c.set.new.self ≡ length h.0 + 1 = ap length e ∙ length-push h.0 merged in
    let f = i.fewer in
    let g = MergesAt-end in
    record {
      marks = i.marks;
      opens = i.opens;
      targets = i.targets;
      fewer = omega (arith, f, l, m);
      merged = λ g ts k a. MergesAt-end g c.args.self.now (record { marks = c.loop-last.self.marks; opens = c.loop-last.self.opens; targets = c.loop-last.self.targets; starts = c.set.new.self }) ts k c.args.p h.0 c.in-Some.last (omega arith) e (subst (λ z. Merging g c.args.self.now.marks c.args.self.now.opens ts k c.args.p z) h.1 (i.merging g ts k a));
    }

pub returns-in_default : goal.returns-in_default
returns-in_default c =
    let i = c.loop-last.invariant in
    record {
      marks = i.marks;
      opens = i.opens;
      targets = i.targets;
      fewer = i.fewer;
      merged = λ g ts k a. absurd (Merging-none g c.args.self.now.marks c.args.self.now.opens ts k c.args.p (subst (λ z. Merging g c.args.self.now.marks c.args.self.now.opens ts k c.args.p z) (c.in_default.ensures {u = tt}) (i.merging g ts k a)));
    }

pub loop-last-init : goal.loop-last-init
loop-last-init c = record {
  marks = refl;
  opens = refl;
  targets = refl;
  fewer = omega arith;
  merging = λ g ts k a. Merging-start g c.args.self.now.marks c.args.self.now.opens ts k c.args.p c.args.self.now.starts c.requires.within c.requires.first a;
}
