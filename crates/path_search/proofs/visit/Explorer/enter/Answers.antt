use Rattle.std.proofs.Common.{◌≡◌, ℕ, suc, ◌<◌, ◌≤◌, ◌+◌, ◌++◌, ◌∷◌, [], Some, List, length, set, refl, sym, ap, ◌∙◌, arith, subst}
use Rattle.std.specs.Prelude.{slice_get, map, Contains, true, false}
use Rattle.std.proofs.lemmas.Option.{same_Some}
use mathlib.Core.Logic.{◌⊎◌, inl, inr}
use Rattle.path_search.specs.Paths.{Turn, Next, Bad, Search, onward, successors}
use Rattle.path_search.specs.Verdict.{IsBack}
use Rattle.path_search.specs.code.Steps.{search, meant, target, label, IfNext, AllAt}
use Rattle.path_search.specs.code.Visit.{IsVisit, LeadTo, LeadsToOpen, Keeps, position}
use Rattle.path_search.specs.declared.visit.Frame.{Frame}
use Rattle.path_search.specs.declared.visit.Found.{Found}
use Rattle.path_search.specs.declared.visit.Link.{Link}
use Rattle.path_search.specs.declared.visit.Mark.{Mark}
use Rattle.path_search.specs.declared.visit.Mark.TheVariants.{Open}
use Rattle.path_search.proofs.Decide.{decided_by}
use Rattle.path_search.proofs.Frontier.{get_within, get_push, place}
use Rattle.path_search.proofs.Lists.{length_push}
use Rattle.path_search.proofs.Visits.{keeps_more, over_budget, is_bad, is_back, back_from, back_to, enters}
use Rattle.path_search.proofs.visit.Explorer.enter.Goals.{else-not-self-via-then-not-self+else-leads_back, else-not-self-via-else-not-self}
use Rattle.path_search.proofs.visit.Explorer.enter.Goals as goal

differ : (b : _) → b ≡ true → b ≡ false → ⊥
differ b e f = cc

open_links : {E : Type 0} (m m' : List Mark) (l l' : List (Link E)) → m ≡ m' → l ≡ l' → LeadsToOpen m l → LeadsToOpen m' l'
open_links m m' l l' a b o = subst (LeadsToOpen m') b (subst (λ x. LeadsToOpen x l) a o)

pub returns-then-len-self-clause-refused : goal.returns-then-len-self-clause-refused
returns-then-len-self-clause-refused g c =
    let s : Search g.row.G-Node.Denot g.row.G-Kind.Denot = search (g.G.Graph.start c.args.self.now.graph.now) (g.G.Graph.turn c.args.self.now.graph.now) c.args.self.now.limits in
    let table = c.args.visit.now.table in let marks = c.args.visit.now.marks in let found = c.args.visit.now.found in let stack = c.args.visit.now.stack in
    let v = c.requires.visit in let r = c.requires.reaches in
    (r.at, r.here, over_budget s table marks found stack v c.args.index r (decided_by g.G.Node.PartialEq.eq g.met.G.Node.Eq.laws g.met.G.Node.Exact.exact) (sym c.len.ensures ∙ c.if-len-self.true))

pub at-requires : goal.at-requires
at-requires g c = get_within c.args.visit.now.table c.args.index c.requires.reaches.at c.requires.reaches.here

pub returns-in-Bad-clause-refused : goal.returns-in-Bad-clause-refused
returns-in-Bad-clause-refused g c =
    let s : Search g.row.G-Node.Denot g.row.G-Kind.Denot = search (g.G.Graph.start c.args.self.now.graph.now) (g.G.Graph.turn c.args.self.now.graph.now) c.args.self.now.limits in
    let table = c.args.visit.now.table in let marks = c.args.visit.now.marks in let found = c.args.visit.now.found in let stack = c.args.visit.now.stack in
    let v = c.requires.visit in let r = c.requires.reaches in
    let same : r.at ≡ c.at.result.now = same_Some r.at c.at.result.now (sym r.here ∙ c.at.ensures) in
    let turn : s.turn r.at ≡ Bad c.in-Bad.kind = ap s.turn same ∙ sym c.in_ok-data.ensures.turn ∙ ap meant c.in-Bad.is in
    (r.at, r.here, is_bad s table marks found stack v c.args.index r (decided_by g.G.Node.PartialEq.eq g.met.G.Node.Eq.laws g.met.G.Node.Exact.exact) (λ e. c.if-len-self.false (c.len.ensures ∙ e)) c.in-Bad.kind turn)

pub set-requires : goal.set-requires
set-requires g c =
    let grown = c.in_ok-links.ensures.grows in
    omega (arith, grown.size, get_within c.linked.new.table c.args.index c.requires.reaches.at (grown.kept c.args.index c.requires.reaches.at c.requires.reaches.here))

pub leads_back-requires : goal.leads_back-requires
leads_back-requires g c j l e =
    let grown = c.in_ok-links.ensures.grows in
    let t = c.in_ok-links.ensures.links.leads.to j l (ap (λ x. slice_get x j) (sym c.as_slice.ensures) ∙ e) in
    omega (arith, ap length c.set.ensures, Rattle.std.proofs.Math.ListN.length-set c.linked.new.marks c.args.index (Open c.len-number.result), grown.size, get_within c.linked.new.table l.to t.0 t.2)

pub returns-then-leads_back-clause-refused : goal.returns-then-leads_back-clause-refused
returns-then-leads_back-clause-refused g c =
    let s : Search g.row.G-Node.Denot g.row.G-Kind.Denot = search (g.G.Graph.start c.args.self.now.graph.now) (g.G.Graph.turn c.args.self.now.graph.now) c.args.self.now.limits in
    let table = c.args.visit.now.table in let marks = c.args.visit.now.marks in let found = c.args.visit.now.found in let stack = c.args.visit.now.stack in
    let v = c.requires.visit in let r = c.requires.reaches in
    let edges = c.in-Next.edges in let links = c.in_ok-links.links in let grown = c.in_ok-links.ensures.grows in
    let same : r.at ≡ c.at.result.now = same_Some r.at c.at.result.now (sym r.here ∙ c.at.ensures) in
    let turn : s.turn r.at ≡ Next (map target edges) = ap s.turn same ∙ sym c.in_ok-data.ensures.turn ∙ ap meant c.in-Next.is in
    let leads : LeadTo c.linked.new.table links (successors s r.at) = subst (LeadTo c.linked.new.table links) (sym (ap onward turn)) c.in_ok-links.ensures.links.leads in
    let marked : c.set.new.self ≡ set c.linked.new.marks c.args.index (Open (length found)) = c.set.ensures ∙ ap (λ n. set c.linked.new.marks c.args.index (Open n)) c.len-number.ensures in
    let o : LeadsToOpen (set c.linked.new.marks c.args.index (Open (length found))) links = open_links c.set.new.self (set c.linked.new.marks c.args.index (Open (length found))) c.as_slice.result.now links marked c.as_slice.ensures (c.leads_back.ensures.back c.if-leads_back.true) in
    let b : IsBack s (position stack) r.at = back_from s table marks found stack v c.args.index r c.linked.new.table c.linked.new.marks grown links leads c.if-not-self.true o.0 o.1 o.2 o.3 o.4 in
    (r.at, grown.kept c.args.index r.at r.here, is_back s table marks found stack v c.args.index r c.linked.new.table c.linked.new.marks grown links leads (decided_by g.G.Node.PartialEq.eq g.met.G.Node.Eq.laws g.met.G.Node.Exact.exact) (λ e. c.if-len-self.false (c.len.ensures ∙ e)) b)

pub returns-clause-entered : goal.returns-clause-entered
returns-clause-entered g c =
    let s : Search g.row.G-Node.Denot g.row.G-Kind.Denot = search (g.G.Graph.start c.args.self.now.graph.now) (g.G.Graph.turn c.args.self.now.graph.now) c.args.self.now.limits in
    let table = c.args.visit.now.table in let marks = c.args.visit.now.marks in let found = c.args.visit.now.found in let stack = c.args.visit.now.stack in
    let v = c.requires.visit in let r = c.requires.reaches in
    let edges = c.in-Next.edges in let links = c.in_ok-links.links in let grown = c.in_ok-links.ensures.grows in
    let same : r.at ≡ c.at.result.now = same_Some r.at c.at.result.now (sym r.here ∙ c.at.ensures) in
    let turn : s.turn r.at ≡ Next (map target edges) = ap s.turn same ∙ sym c.in_ok-data.ensures.turn ∙ ap meant c.in-Next.is in
    let leads : LeadTo c.linked.new.table links (successors s r.at) = subst (LeadTo c.linked.new.table links) (sym (ap onward turn)) c.in_ok-links.ensures.links.leads in
    let marked : c.set.new.self ≡ set c.linked.new.marks c.args.index (Open (length found)) = c.set.ensures ∙ ap (λ n. set c.linked.new.marks c.args.index (Open n)) c.len-number.ensures in
    let straight : IsBack s (position stack) r.at → ⊥ = elim c.else-not-self.branch [
      | else-not-self-via-then-not-self+else-leads_back w ↦ (λ b.
          let o = back_to s table marks found stack v c.args.index r c.linked.new.table c.linked.new.marks grown links leads b in
          w.leads_back.ensures.clear w.if-leads_back.false (open_links (set c.linked.new.marks c.args.index (Open (length found))) c.set.new.self links w.as_slice.result.now (sym marked) (sym w.as_slice.ensures) o))
      | else-not-self-via-else-not-self w ↦ (λ b. differ c.args.self.now.limits.loops w.if-not-self.false b.closed)
    ] in
    let f : Found g.row.G-Data.Denot g.row.G-Label.Denot = record { index = c.args.index; item = c.in-Next.data; links = links } in
    let frame : Frame = record { number = c.len-number.result; choice = 0 } in
    let w : IsVisit s c.linked.new.table (set c.linked.new.marks c.args.index (Open (length found))) (found ++ f ∷ []) (stack ++ frame ∷ []) =
    enters s table marks found stack v c.args.index r c.linked.new.table c.linked.new.marks grown links leads f frame (λ e. c.if-len-self.false (c.len.ensures ∙ e))
    (λ k e. let x : Next (map target edges) ≡ Bad k = sym turn ∙ e in cc) straight refl refl c.in_ok-links.ensures.small c.len-number.ensures refl in
    subst (λ x. IsVisit s c.linked.new.table x c.push.new.self c.push-2.new.self) (sym marked)
    (subst (λ x. IsVisit s c.linked.new.table (set c.linked.new.marks c.args.index (Open (length found))) x c.push-2.new.self) (sym c.in_ok-push.ensures.ok)
    (subst (λ x. IsVisit s c.linked.new.table (set c.linked.new.marks c.args.index (Open (length found))) (found ++ f ∷ []) x) (sym c.in_ok-push-2.ensures.ok) w))

pub returns-clause-keeps : goal.returns-clause-keeps
returns-clause-keeps g c =
    let s : Search g.row.G-Node.Denot g.row.G-Kind.Denot = search (g.G.Graph.start c.args.self.now.graph.now) (g.G.Graph.turn c.args.self.now.graph.now) c.args.self.now.limits in
    let table = c.args.visit.now.table in let marks = c.args.visit.now.marks in let found = c.args.visit.now.found in let stack = c.args.visit.now.stack in
    let v = c.requires.visit in let r = c.requires.reaches in
    let edges = c.in-Next.edges in let links = c.in_ok-links.links in let grown = c.in_ok-links.ensures.grows in
    let same : r.at ≡ c.at.result.now = same_Some r.at c.at.result.now (sym r.here ∙ c.at.ensures) in
    let turn : s.turn r.at ≡ Next (map target edges) = ap s.turn same ∙ sym c.in_ok-data.ensures.turn ∙ ap meant c.in-Next.is in
    let leads : LeadTo c.linked.new.table links (successors s r.at) = subst (LeadTo c.linked.new.table links) (sym (ap onward turn)) c.in_ok-links.ensures.links.leads in
    let Valid = g.G.Graph.IsValid c.args.self.now.graph.now in let Carries = g.G.Graph.Carries c.args.self.now.graph.now in
    let f : Found g.row.G-Data.Denot g.row.G-Label.Denot = record { index = c.args.index; item = c.in-Next.data; links = links } in
    let own : Carries r.at c.in-Next.data (map (λ (l : Link g.row.G-Label.Denot). l.label) links) =
    subst (Carries r.at c.in-Next.data) (sym c.in_ok-links.ensures.links.labels) (subst (λ x. Carries x c.in-Next.data (map label edges)) (sym same)
    (subst (λ st. IfNext st (λ d es. Carries c.at.result.now d (map label es))) c.in-Next.is c.in_ok-data.ensures.carries)) in
    let next : (depth : ℕ) → Valid depth c.at.result.now → AllAt (Valid (depth + 1)) (map target edges) =
    subst (λ st. IfNext st (λ d es. (depth : ℕ) → Valid depth c.at.result.now → AllAt (Valid (depth + 1)) (map target es))) c.in-Next.is c.in_ok-data.ensures.valid in
    subst (Keeps Valid Carries c.linked.new.table) (sym c.in_ok-push.ensures.ok)
    (keeps_more Valid Carries table c.linked.new.table found f r.at c.requires.keeps grown.kept (grown.kept c.args.index r.at r.here) own (map target edges) c.in_ok-links.ensures.links.among
    (let d = c.requires.keeps.valid c.args.index r.at r.here in (d.0, d.1, next d.0 (subst (Valid d.0) same d.2))))
