-- The parts that are made of all configurations are as long as they can be.
use Rattle.std.proofs.Common.{◌≡◌, ◌⊎◌, inl, inr, ⊎_elim, ℕ, zero, suc, ◌+◌, ◌<◌, ◌≤◌, Bool, true, false, Option, None, Some, List, [], ◌∷◌, length, map, refl, sym, ap, ◌∙◌, subst, arith}
use Rattle.std.proofs.lemmas.Bool.{cases_order}
use Rattle.std.proofs.lemmas.Bool.Decides.{nat_tests}
use Rattle.std.specs.Cmp.{unsigned_Decides}
use Rattle.std.specs.Prelude.{◌||◌, ◌&&◌, nat_lt, if◌then◌else◌, slice_get}
use Rattle.kept_items.specs.declared.item.Choice.{Choice}
use Rattle.kept_items.specs.declared.item.Choice.TheVariants as choice
use Rattle.ir_values.specs.declared.ty.Ty.{Ty}
use Rattle.kept_items.specs.declared.item.Code.{Code}
use Rattle.kept_items.specs.declared.target.Target.{Target}
use Rattle.kept_items.specs.declared.val.Dyn.{Dyn}
use Rattle.kept_items.specs.Targets.{has_returns}
use Rattle.path_search.specs.declared.visit.Link.{Link}
use Rattle.path_search.specs.Explored.{Explored, node}
use Rattle.path_search.specs.Paths.{successors}
use Rattle.residue.specs.declared.parts.Part.{Part}
use Rattle.residue.specs.declared.parts.Tail.{Tail}
use Rattle.residue.specs.declared.parts.Tail.TheVariants as tail
use Rattle.residue.specs.Scopes.{jumps}
use Rattle.fused_parts.specs.declared.flags.Entered.TheVariants.{Never, Once}
use Rattle.fused_parts.specs.Nodes.{Links, Node, entered, is_once, joins, joins_from, leads_only}
use Rattle.fused_parts.specs.Parts.{after, choice_tail, exit_tail, first_spot, nowhere, outcome_tail, parts_of}
use Rattle.fused_parts.specs.Ranks.{goes_on, part_number}
use Rattle.fused_parts.proofs.Ranks.{spot-there}
use Rattle.fused_parts.proofs.Standing.{all-stand}
use Rattle.lowered_program.specs.Residues.{count_exits, exits, shared_exit}
use Rattle.lowered_runs.proofs.Lookups.{get-map, is-there, length-map, map-get, same-some, within}
use Rattle.lowered_runs.proofs.Onward.{AsMany}
use Rattle.lowered_runs.proofs.Spots.{spot-part}
use Rattle.graph_cycles.proofs.Lists.{same-or}
use Rattle.search_verdicts.proofs.Listed.{listed-once}
use Rattle.search_verdicts.proofs.Parents.{parent-of}
use Rattle.static_steps.specs.declared.config.Config.{Config}
use Rattle.static_steps.specs.declared.turn.Move.{Move}
use Rattle.unroller.specs.declared.node.Outcome.{Outcome}
use Rattle.unroller.specs.declared.node.Outcome.TheVariants as outcome
use Rattle.unroller.specs.Programs.{Carries, Program, search_of}
use Rattle.valid_lines.specs.Laws.{IsStepOf}
use Rattle.valid_steps.specs.Items.{IsChoice}
use Rattle.valid_steps.specs.Types.{dynamic_types}
use Rattle.acyclic_parts.proofs.Lasts.{number-next, number-rises, number-stays, own-part}
use Rattle.reached_parts.proofs.Tails.{link-leads}
use Rattle.valid_parts.proofs.Begins.{enough, fuses}
use Rattle.valid_parts.proofs.Steps.{Stepped, stepped}
use Rattle.valid_parts.proofs.Steps as step
use Rattle.fused_form.proofs.Edges.{IsEdge, one-source}
use Rattle.fused_form.proofs.Entered.{others-tell}
use Rattle.fused_form.proofs.Nearby.{first-near}
use Rattle.fused_form.specs.Fused.{AreFused, IsOnlyWay}

-- ---- exits

record IsExit (xs : List Node) : Type 0 where
  at : ℕ
  node : Node
  is : slice_get xs at ≡ Some node
  code : Code
  exit : node.item ≡ outcome.Exits code

some-exit : (xs : List Node) → 0 < count_exits xs → IsExit xs
some-exit [] lt = absurd (omega (arith, lt))
some-exit (x ∷ xs) lt = by x.item refl (some-exit xs)
  where
    by : (o : Outcome) → x.item ≡ o → (0 < count_exits xs → IsExit xs) → IsExit (x ∷ xs)
    by (outcome.Exits c) e behind = record { at = 0; node = x; is = refl; code = c; exit = e }
    by (outcome.Goes i c) e behind =
        let less : exits x.item ≡ 0 = ap exits e in
        let h = behind (omega (arith, lt, less)) in record { at = suc h.at; node = h.node; is = h.is; code = h.code; exit = h.exit }

-- another one exits
record IsOtherExit (xs : List Node) (i : ℕ) : Type 0 where
  exit : IsExit xs
  other : exit.at ≡ i → ⊥

other-exit : (xs : List Node) (i : ℕ) (x : Node) (c : Code) → slice_get xs i ≡ Some x → x.item ≡ outcome.Exits c → 2 ≤ count_exits xs → IsOtherExit xs i
other-exit [] i x c at e le = cc
other-exit (y ∷ xs) zero x c at e le =
    let same : y ≡ x = cc in
    let one : exits y.item ≡ 1 = ap (λ (z : Node). exits z.item) same ∙ ap exits e in
    let h = some-exit xs (omega (arith, le, one)) in
    record { exit = record { at = suc h.at; node = h.node; is = h.is; code = h.code; exit = h.exit }; other = λ z. omega (arith, z) }
other-exit (y ∷ xs) (suc i) x c at e le = by y.item refl (other-exit xs i x c at e)
  where
    by : (o : Outcome) → y.item ≡ o → (2 ≤ count_exits xs → IsOtherExit xs i) → IsOtherExit (y ∷ xs) (suc i)
    by (outcome.Exits d) is rest = record { exit = record { at = 0; node = y; is = refl; code = d; exit = is }; other = λ z. omega (arith, z) }
    by (outcome.Goes k d) is rest =
        let less : exits y.item ≡ 0 = ap exits is in
        let h = rest (omega (arith, le, less)) in
        record {
          exit = record { at = suc h.exit.at; node = h.exit.node; is = h.exit.is; code = h.exit.code; exit = h.exit.exit };
          other = λ z. h.other (omega (arith, z));
        }

-- exits share a part where there are two
many-exits : (t : Target) (nodes : List Node) (n : ℕ) → shared_exit t nodes ≡ Some n → 2 ≤ count_exits nodes
many-exits t nodes n e = by (has_returns t) (nat_lt (count_exits nodes) 2) refl e
  where
    by : (returns less : Bool) → nat_lt (count_exits nodes) 2 ≡ less → (if returns || less then None else Some (part_number (joins nodes) (length nodes))) ≡ Some n → 2 ≤ count_exits nodes
    by true less f e = cc
    by false true f e = cc
    by false false f e = grind (arith, nat_tests)

-- where a plain jump leads
abbrev target : Tail → ℕ
target (tail.Jump j) = j.to
target other = 0

as-many : (t : Target) (ts : List (Option Ty)) (n : ℕ) (c : Choice) → IsChoice t ts n c → AsMany c n
as-many t ts n choice.One h = h
as-many t ts n (choice.Branch d) h = h.0
as-many t ts n (choice.Switch d w is) h = h.0

-- ---- flags

-- a flag says whether the only edge of a configuration is the only one to the next
flag-is : (all : List Node) (n : ℕ) (xs : List Node) (i k : ℕ) (x : Node) → k ≡ suc (n + i) → slice_get xs i ≡ Some x → suc i < length xs
    → goes_on xs (joins_from all n xs) i ≡ (leads_only k x.links && is_once (entered k all Never))
flag-is all n [] i k x e at lt = cc
flag-is all n (y ∷ []) i k x e at lt = absurd (omega (arith, lt))
flag-is all n (y ∷ z ∷ xs) zero k x e at lt =
    let same : y ≡ x = cc in
    let number : suc n ≡ k = omega (arith, e) in
    ap (λ (w : Node). leads_only (suc n) w.links && is_once (entered (suc n) all Never)) same
    ∙ ap (λ m. leads_only m x.links && is_once (entered m all Never)) number
flag-is all n (y ∷ z ∷ xs) (suc i) k x e at lt = flag-is all (suc n) (z ∷ xs) i k x (omega (arith, e)) at (omega (arith, lt))

module _ (p : Program) (budget : ℕ) (nodes : List Node) (explored : Explored (search_of p budget) (Carries p) nodes)
    (steps : (i : ℕ) (x : Node) → slice_get nodes i ≡ Some x → IsStepOf p x) where
  abbrev flags : List Bool
  flags = joins nodes

  abbrev part_of : ℕ → ℕ
  part_of = part_number (joins nodes)

  abbrev shared : Option ℕ
  shared = shared_exit p.target nodes

  abbrev parts : List Part
  parts = parts_of p.m (part_number (joins nodes)) (shared_exit p.target nodes) nodes (joins nodes)

  has-step : (i : ℕ) (x : Node) → slice_get nodes i ≡ Some x → Stepped p nodes x
  has-step i x at = stepped p nodes x (steps i x at) (explored.links i x at)

  long : length nodes ≤ suc (length (joins nodes))
  long = enough p budget nodes (shared_exit p.target nodes) explored has-step

  -- ---- edges of parts

  -- a configuration that ends its part, with its tail
  record IsEnd (a : ℕ) (x : Node) : Type 0 where
    part : Part
    is : slice_get (parts_of p.m (part_number (joins nodes)) (shared_exit p.target nodes) nodes (joins nodes)) (part_number (joins nodes) a) ≡ Some part
    mine : List Dyn
    tail : part.tail ≡ outcome_tail (part_number (joins nodes)) (shared_exit p.target nodes) mine x.item x.links

  ends : (a : ℕ) (x : Node) → slice_get nodes a ≡ Some x → goes_on nodes (joins nodes) a ≡ false → IsEnd a x
  ends a x at off =
      let s = spot-there nodes nodes (joins nodes) first_spot a x long at in
      let h = all-stand p.m nodes (part_number (joins nodes)) (shared_exit p.target nodes) (joins nodes) a x s.0 at s.1 in
      let number : s.0.part ≡ part_number (joins nodes) a = spot-part nodes nodes (joins nodes) first_spot a s.0 long s.1 ∙ omega arith in
      record { part = h.part; is = ap (slice_get parts) (sym number) ∙ h.is; mine = (after x s.0.numbers).mine; tail = (h.ends off).1 }

  link-edge : (a : ℕ) (x : Node) (q : ℕ) (l : Link (List Dyn)) → slice_get nodes a ≡ Some x → goes_on nodes (joins nodes) a ≡ false → slice_get x.links q ≡ Some l
      → IsEdge parts (part_number (joins nodes) l.to) (part_number (joins nodes) a)
  link-edge a x q l at off link =
      let e = ends a x at off in
      let j = link-leads p x (steps a x at) (part_number (joins nodes)) (shared_exit p.target nodes) e.mine q l link in
      record { part = e.part; is = e.is; place = j.place; jump = j.jump; stands = ap (λ t. slice_get (jumps t) j.place) e.tail ∙ j.stands; leads = j.leads }

  -- an exit has no edge, so it ends its part
  exit-ends : (a : ℕ) (x : Node) (c : Code) → slice_get nodes a ≡ Some x → x.item ≡ outcome.Exits c → (b : Bool) → goes_on nodes (joins nodes) a ≡ b → b ≡ false
  exit-ends a x c at e false f = refl
  exit-ends a x c at e true f =
      let o = (fuses p budget nodes (shared_exit p.target nodes) explored has-step).onward a x at f in
      absurd (by (has-step a x at) o.0 o.1)
    where
      by : Stepped p nodes x → (args : List Dyn) → x.links ≡ (record { to = suc a; label = args }) ∷ [] → ⊥
      by (step.goes moves i d is b leads fits) args one = (let clash : outcome.Goes i d ≡ outcome.Exits c = sym is ∙ e in cc)
      by (step.exits d is none fits) args one = (let clash : ◌≡◌ {A = Links} [] ((record { to = suc a; label = args }) ∷ []) = sym none ∙ one in cc)

  exit-edge : (a : ℕ) (x : Node) (c : Code) (n : ℕ) → slice_get nodes a ≡ Some x → x.item ≡ outcome.Exits c → shared_exit p.target nodes ≡ Some n
      → IsEdge parts n (part_number (joins nodes) a)
  exit-edge a x c n at e sharing =
      let h = ends a x at (exit-ends a x c at e (goes_on nodes (joins nodes) a) refl) in
      record {
        part = h.part;
        is = h.is;
        place = 0;
        jump = record { to = n; args = [] };
        stands =
            ap (λ t. slice_get (jumps t) 0)
            (h.tail ∙ ap (λ o. outcome_tail (part_number (joins nodes)) (shared_exit p.target nodes) h.mine o x.links) e ∙ ap (λ o. exit_tail o h.mine c) sharing);
        leads = refl;
      }

  -- two configurations that end one part are one
  one-end : (a b : ℕ) (x y : Node) → slice_get nodes a ≡ Some x → slice_get nodes b ≡ Some y → goes_on nodes (joins nodes) a ≡ false → goes_on nodes (joins nodes) b ≡ false
      → part_number (joins nodes) a ≡ part_number (joins nodes) b → a ≡ b
  one-end a b x y at at' off off' same = ⊎_elim (λ e. e) (λ o. ⊎_elim (λ lt. absurd (apart a b y at' off lt same)) (λ lt. absurd (apart b a x at off' lt (sym same))) o) (cases_order a b)
    where
      apart : (a b : ℕ) (y : Node) → slice_get nodes b ≡ Some y → goes_on nodes (joins nodes) a ≡ false → a < b → part_number (joins nodes) a ≡ part_number (joins nodes) b → ⊥
      apart a b y at off lt same =
          let inside = within nodes b y at in
          let next = number-next nodes (joins nodes) a long (omega (arith, lt, inside)) off in
          let up = number-rises (joins nodes) (suc a) b (omega (arith, lt)) in
          omega (arith, next, up, same)

  -- ---- the second edge

  -- another configuration that ends its part has an edge there
  record IsSecond (a k : ℕ) : Type 0 where
    from : ℕ
    other : from ≡ a → ⊥
    node : Node
    is : slice_get nodes from ≡ Some node
    place : ℕ
    link : Link (List Dyn)
    stands : slice_get node.links place ≡ Some link
    leads : link.to ≡ k

  -- the only edge of a configuration leads to the next one, or another configuration has an edge to where it leads
  next-or : (a : ℕ) (x : Node) (l : Link (List Dyn)) (k : ℕ) → slice_get nodes a ≡ Some x → x.links ≡ l ∷ [] → l.to ≡ suc k → (k ≡ a) ⊎ IsSecond a (suc k)
  next-or a x l k at one to =
      let t = (explored.links a x at).to 0 l (ap (λ ls. slice_get ls 0) one) in
      let named = map-get node nodes (suc k) t.0 (ap (slice_get nodes) (sym to) ∙ t.1) in
      let parent = parent-of (search_of p budget) (map node nodes) explored.lists k t.0.node named in
      let near = first-near (search_of p budget) (map node nodes) explored.lists a (suc k) x.node t.0.node (map-get node nodes a x at) t.2 named in
      ⊎_elim (λ e. inl e) (λ differ. inr (second t.0.node named parent.at parent.parent parent.is parent.choice parent.leads differ))
      (by parent.at parent.before near (same-or parent.at a))
    where
      by : (b : ℕ) → b ≤ k → suc k ≤ suc a → (b ≡ a) ⊎ (b ≡ a → ⊥) → (k ≡ a) ⊎ (b ≡ a → ⊥)
      by b below near (inl e) = inl (omega (arith, below, near, e))
      by b below near (inr n) = inr n

      second : (g : Config) → slice_get (map node nodes) (suc k) ≡ Some g → (b : ℕ) (h : Config) → slice_get (map node nodes) b ≡ Some h
          → (c : ℕ) → slice_get (successors (search_of p budget) h) c ≡ Some g → (b ≡ a → ⊥) → IsSecond a (suc k)
      second g named b h parent c leads other =
          let y = get-map node nodes b h parent in
          let links = explored.links b y.0 y.1 in
          let many : c < length (successors (search_of p budget) y.0.node) = within (successors (search_of p budget) y.0.node) c g (ap (λ z. slice_get (successors (search_of p budget) z) c) y.2 ∙ leads) in
          let link = is-there y.0.links c (let e = links.number in omega (arith, many, e)) in
          let w = links.to c link.0 link.1 in
          let same : w.0.node ≡ g = same-some w.0.node g (sym w.2 ∙ ap (λ z. slice_get (successors (search_of p budget) z) c) y.2 ∙ leads) in
          let number = listed-once (search_of p budget) (map node nodes) explored.lists link.0.to (suc k) g (map-get node nodes link.0.to w.0 w.1 ∙ ap Some same) named in
          record { from = b; other = other; node = y.0; is = y.1; place = c; link = link.0; stands = link.1; leads = number }

  -- a configuration that ends its part by its only edge has company there
  second : (a : ℕ) (x : Node) (l : Link (List Dyn)) (k : ℕ) → slice_get nodes a ≡ Some x → x.links ≡ l ∷ [] → l.to ≡ suc k → goes_on nodes (joins nodes) a ≡ false → IsSecond a (suc k)
  second a x l k at one to off = ⊎_elim next (λ h. h) (next-or a x l k at one to)
    where
      next : k ≡ a → IsSecond a (suc k)
      next e = ⊎_elim
          (λ o. record {
            from = o.entry.from;
            other = o.other;
            node = o.entry.node;
            is = o.entry.is;
            place = o.entry.linked.place;
            link = o.entry.linked.link;
            stands = o.entry.linked.stands;
            leads = o.entry.linked.leads;
          })
          (λ h. absurd (alone (h Never))) (others-tell (suc k) nodes a x l at one to)
        where
          alone : entered (suc k) nodes Never ≡ Once → ⊥
          alone h =
              let t = (explored.links a x at).to 0 l (ap (λ ls. slice_get ls 0) one) in
              let inside = within nodes l.to t.0 t.1 in
              let flag = flag-is nodes 0 nodes a (suc k) x (omega (arith, e)) at (omega (arith, inside, to, e)) in
              let on : (leads_only (suc k) x.links && is_once (entered (suc k) nodes Never)) ≡ true =
              ap (λ ls. leads_only (suc k) ls && is_once (entered (suc k) nodes Never)) one
              ∙ ap (λ b. b && is_once (entered (suc k) nodes Never)) ((unsigned_Decides l.to (suc k)).1 to)
              ∙ ap is_once h in
              let clash : true ≡ false = sym on ∙ sym flag ∙ off in cc

  -- it ends its own part too
  second-ends : (a k : ℕ) (h : IsSecond a (suc k)) → goes_on nodes (joins nodes) k ≡ false → goes_on nodes (joins nodes) h.from ≡ false
  second-ends a k h off = by (goes_on nodes (joins nodes) h.from) refl
    where
      by : (b : Bool) → goes_on nodes (joins nodes) h.from ≡ b → b ≡ false
      by false e = refl
      by true e =
          let o = (fuses p budget nodes (shared_exit p.target nodes) explored has-step).onward h.from h.node h.is e in
          let to = only (record { to = suc h.from; label = o.0 }) h.place (ap (λ ls. slice_get ls h.place) (sym o.1) ∙ h.stands) in
          let same : h.from ≡ k = (let f = h.leads in omega (arith, to, f)) in
          (let clash : true ≡ false = sym e ∙ ap (goes_on nodes (joins nodes)) same ∙ off in cc)
        where
          only : (l : Link (List Dyn)) (q : ℕ) → slice_get (l ∷ []) q ≡ Some h.link → h.link.to ≡ l.to
          only l zero g = let z : l ≡ h.link = cc in ap (λ (w : Link (List Dyn)). w.to) (sym z)
          only l (suc q) g = cc

  -- ---- no jump follows a single edge

  pub fused : AreFused (parts_of p.m (part_number (joins nodes)) (shared_exit p.target nodes) nodes (joins nodes))
  fused n i part j one at is-jump to = ⊎_elim nothing (λ own. jumps-on own.ends.number own.ends.node own.ends.is own.ends.off own.ends.part own.ends.mine own.ends.tail)
      (own-part p.m nodes (part_number (joins nodes)) (shared_exit p.target nodes) (joins nodes) i part at)
    where
      nothing : part.tail ≡ nowhere → ⊥
      nothing e = (let clash : tail.Jump j ≡ nowhere = sym is-jump ∙ e in cc)

      jumps-on : (a : ℕ) (x : Node) → slice_get nodes a ≡ Some x → goes_on nodes (joins nodes) a ≡ false → part_number (joins nodes) a ≡ i → (mine : List Dyn)
          → part.tail ≡ outcome_tail (part_number (joins nodes)) (shared_exit p.target nodes) mine x.item x.links → ⊥
      jumps-on a x is off number mine says = by-outcome (has-step a x is)
        where
          -- two edges, of a and of another configuration that ends its part
          not-two : (b : ℕ) (y : Node) → slice_get nodes b ≡ Some y → goes_on nodes (joins nodes) b ≡ false → (b ≡ a → ⊥)
              → IsEdge parts n (part_number (joins nodes) a) → IsEdge parts n (part_number (joins nodes) b) → ⊥
          not-two b y is' off' other e f = other (sym (one-end a b x y is is' off off' (one-source parts n (part_number (joins nodes) a) (part_number (joins nodes) b) e f one)))

          exit-jumps : (c : Code) → x.item ≡ outcome.Exits c → (o : Option ℕ) → shared_exit p.target nodes ≡ o → exit_tail o mine c ≡ tail.Jump j → ⊥
          exit-jumps c e None sharing f = cc
          exit-jumps c e (Some m) sharing f =
              let there : m ≡ n = ap (λ (t : Tail). target t) f ∙ to in
              let o = other-exit nodes a x c is e (many-exits p.target nodes m sharing) in
              not-two o.exit.at o.exit.node o.exit.is (exit-ends o.exit.at o.exit.node o.exit.code o.exit.is o.exit.exit (goes_on nodes (joins nodes) o.exit.at) refl) o.other
              (exit-edge a x c n is e (sharing ∙ ap Some there)) (exit-edge o.exit.at o.exit.node o.exit.code n o.exit.is o.exit.exit (sharing ∙ ap Some there))

          link-jumps : (l : Link (List Dyn)) → x.links ≡ l ∷ [] → part_number (joins nodes) l.to ≡ n → ⊥
          link-jumps l e there =
              let b = (fuses p budget nodes (shared_exit p.target nodes) explored has-step).begins a x 0 l is off (ap (λ ls. slice_get ls 0) e) in
              let h = second a x l b.0 is e b.1 off in
              not-two h.from h.node h.is (second-ends a b.0 h b.2) h.other
              (subst (λ m. IsEdge parts m (part_number (joins nodes) a)) there (link-edge a x 0 l is off (ap (λ ls. slice_get ls 0) e)))
              (subst (λ m. IsEdge parts m (part_number (joins nodes) h.from)) (ap (part_number (joins nodes)) (h.leads ∙ sym b.1) ∙ there)
              (link-edge h.from h.node h.place h.link h.is (second-ends a b.0 h b.2) h.stands))

          by-choice : (c : Choice) (links : Links) → x.links ≡ links → AsMany c (length links) → choice_tail (part_number (joins nodes)) mine c links ≡ tail.Jump j → ⊥
          by-choice choice.One [] e many f = cc
          by-choice choice.One (l ∷ []) e many f = link-jumps l e (ap target f ∙ to)
          by-choice choice.One (l ∷ k ∷ links) e many f = absurd (omega (arith, many))
          by-choice (choice.Branch d) [] e many f = cc
          by-choice (choice.Branch d) (l ∷ []) e many f = cc
          by-choice (choice.Branch d) (l ∷ k ∷ links) e many f = cc
          by-choice (choice.Switch d w is) links e many f = cc

          by-outcome : Stepped p nodes x → ⊥
          by-outcome (step.goes moves o c e args leads fits) =
              let many : length moves ≡ length x.links = sym (leads.number ∙ length-map (λ (mv : Move). mv.to) moves) in
              by-choice c x.links refl (subst (AsMany c) many (as-many p.target (dynamic_types p.m x.node) (length moves) c fits.choice_fits))
              (sym (ap (λ z. outcome_tail (part_number (joins nodes)) (shared_exit p.target nodes) mine z x.links) e) ∙ sym says ∙ is-jump)
          by-outcome (step.exits c e none fits) =
              exit-jumps c e (shared_exit p.target nodes) refl
              (sym (ap (λ z. outcome_tail (part_number (joins nodes)) (shared_exit p.target nodes) mine z x.links) e) ∙ sym says ∙ is-jump)

  -- ---- the only way from one configuration to another stays in its part

  pub chained : (i : ℕ) (l : Link (List Dyn)) → IsOnlyWay nodes i l → part_number (joins nodes) l.to ≡ part_number (joins nodes) i
  chained i l h = by (goes_on nodes (joins nodes) i) refl
    where
      by : (b : Bool) → goes_on nodes (joins nodes) i ≡ b → part_number (joins nodes) l.to ≡ part_number (joins nodes) i
      by true e =
          let o = (fuses p budget nodes (shared_exit p.target nodes) explored has-step).onward i h.node h.is e in
          let same : l ≡ record { to = suc i; label = o.0 } = same-some l (record { to = suc i; label = o.0 }) (ap (λ ls. slice_get ls 0) (sym h.only ∙ o.1)) in
          ap (λ (k : Link (List Dyn)). part_number (joins nodes) k.to) same ∙ number-stays nodes (joins nodes) i e
      by false e =
          let b = (fuses p budget nodes (shared_exit p.target nodes) explored has-step).begins i h.node 0 l h.is e (ap (λ ls. slice_get ls 0) h.only) in
          let s = second i h.node l b.0 h.is h.only b.1 e in
          absurd (s.other (h.alone s.from s.place s.node s.link s.is s.stands (s.leads ∙ sym b.1)))
