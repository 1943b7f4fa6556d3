-- The moves of a visit keep what it stands for.
use Rattle.std.proofs.Common.{◌≡◌, ℕ, zero, suc, ◌+◌, ◌-◌, ◌<◌, ◌≤◌, ◌^◌, List, [], ◌∷◌, ◌++◌, length, set, Option, Some, None, refl, sym, ap, ◌∙◌, subst, arith, append_assoc}
use Rattle.std.specs.Prelude.{slice_get, map, Contains, false}
use Rattle.std.proofs.lemmas.Option.{none-some, same_Some}
use Rattle.std.proofs.lemmas.List.Elements.{Contains-push, Contains-push_cases, Contains-append_left}
use mathlib.Core.Logic.{◌⊎◌, inl, inr}
use Rattle.path_search.specs.Paths.{Search, Bad, successors, IsEnd, IsSimple, LiesOn}
use Rattle.path_search.specs.Verdict.{IsBack, Refuses}
use Rattle.path_search.specs.code.Frontier.{Frontier, Checked}
use Rattle.path_search.specs.code.Visit.{IsWith, IsOnce, position, LeadTo, IsEntered, HasIndex, IsOnStack, Says, IsVisit, Reaches, Grows, AreLinks, Keeps, IsDone, IsNumbered, number_of, links_of, work, next_frame}
use Rattle.path_search.specs.code.Steps.{target, label, AllAt}
use Rattle.path_search.specs.declared.graph.Edge.{Edge}
use Rattle.path_search.specs.declared.visit.Link.{Link}
use Rattle.path_search.specs.declared.visit.Found.{Found}
use Rattle.path_search.specs.declared.visit.Frame.{Frame}
use Rattle.path_search.specs.declared.visit.Mark.{Mark}
use Rattle.path_search.specs.declared.visit.Mark.TheVariants.{Seen, Open, Left}
use Rattle.path_search.specs.declared.reason.Reason.TheVariants.{OverBudget, BadNode, LeadsBack}
use Rattle.path_search.proofs.Order.{Numbers, less, equal, more, numbers, irrefl}
use Rattle.path_search.proofs.Walks.{one_end, end_front, end_one, end_none, prefix_self, simple_none, decide_on, simple_push, simple_prefix}
use Rattle.path_search.proofs.Frontier.{get_push, get_within, get_some, listed, place, begins, finds, arrives, passes, leaves_off, simple_at, ends_all, opens}
use Rattle.path_search.proofs.Verdict.{checks_none, checks_more, refuses_over, refuses_bad, refuses_back, accepts, longest}
use Rattle.path_search.proofs.Lists.{length_push, get_last, get_left, cut_at, Where, last, before, whereabouts, set_get, map_push, Part, map_prefix}

position_push : (fs : List Frame) (f : Frame) (k : ℕ) → f.choice ≡ k → position (fs ++ f ∷ []) ≡ position fs ++ k ∷ []
position_push fs f k e = map_push (λ (x : Frame). x.choice) fs (f ∷ []) ∙ ap (λ n. position fs ++ n ∷ []) e

position_length : (fs : List Frame) → length (position fs) ≡ length fs
position_length [] = refl
position_length (f ∷ fs) = ap suc (position_length fs)

length_append : {A : Type 0} (xs ys : List A) → length (xs ++ ys) ≡ length xs + length ys
length_append [] ys = omega arith
length_append (x ∷ xs) ys = omega (arith, length_append xs ys)

-- a frame of a stack whose last frame changes its choice
same_number : (fs : List Frame) (f f' : Frame) (n : ℕ) → f.number ≡ f'.number → IsOnStack (fs ++ f ∷ []) n → IsOnStack (fs ++ f' ∷ []) n
same_number fs f f' n e t = go (Contains-push_cases fs f t.0 t.1)
  where
    go : Contains fs t.0 ⊎ (f ≡ t.0) → IsOnStack (fs ++ f' ∷ []) n
    go (inl c) = (t.0, Contains-append_left fs (f' ∷ []) t.0 c, t.2)
    go (inr d) = (f', Contains-push fs f', sym e ∙ ap (λ (x : Frame). x.number) d ∙ t.2)

-- what a mark says does not change with the choices on the path
says_same : {D E : Type 0} (found : List (Found D E)) (fs : List Frame) (f f' : Frame) (i : ℕ) (m : Mark) → f.number ≡ f'.number → Says found (fs ++ f ∷ []) i m → Says found (fs ++ f' ∷ []) i m
says_same found fs f f' i Seen e h = h
says_same found fs f f' i (Open n) e h = (h.0, same_number fs f f' n e h.1)
says_same found fs f f' i (Left n) e h = (h.0, λ t. h.1 (same_number fs f' f n (sym e) t))

pub leads_grow : {N E : Type 0} (table table' : List N) (links : List (Link E)) (hs : List N) → ((i : ℕ) (h : N) → slice_get table i ≡ Some h → slice_get table' i ≡ Some h) → LeadTo table links hs → LeadTo table' links hs
leads_grow table table' links hs k l = record { number = l.number; to = λ j x e. let t = l.to j x e in (t.0, t.1, k x.to t.0 t.2) }

pub reaches_start : {N K : Type 0} (s : Search N K) → Reaches s (s.start ∷ []) (Seen ∷ []) [] 0
reaches_start s = record { at = s.start; here = refl; simple = simple_none s; new = refl }

module _ {N K D E : Type 0} (s : Search N K) where
  entered_grow : (table table' : List N) (p : List ℕ) (f : Found D E) → ((i : ℕ) (h : N) → slice_get table i ≡ Some h → slice_get table' i ≡ Some h) → IsEntered s table p f → IsEntered s table' p f
  entered_grow table table' p f k e = record { at = e.at; ends = e.ends; here = k f.index e.at e.here; links = leads_grow table table' f.links (successors s e.at) k e.links; small = e.small }

  -- the start is the one node that was seen
  pub starts : IsVisit {D = D} {E = E} s (s.start ∷ []) (Seen ∷ []) [] []
  starts = record {
    paths = [];
    frontier = begins s;
    checked = checks_none s;
    once = once;
    number = refl;
    entered = λ n p f e g. absurd (none-some p e);
    stands = λ lower upper f e. absurd (nothing lower upper f e);
    size = refl;
    marked = marked;
  }
    where
      nothing : (lower upper : List Frame) (f : Frame) → [] ≡ lower ++ f ∷ upper → ⊥
      nothing [] upper f e = cc
      nothing (x ∷ lower) upper f e = cc

      once : (i j : ℕ) (x : N) → slice_get (s.start ∷ []) i ≡ Some x → slice_get (s.start ∷ []) j ≡ Some x → i ≡ j
      once zero zero x e f = refl
      once zero (suc j) x e f = absurd (none-some x f)
      once (suc i) j x e f = absurd (none-some x e)

      marked : (i : ℕ) (m : Mark) → slice_get (Seen ∷ []) i ≡ Some m → Says {D = D} {E = E} [] [] i m
      marked zero m e = subst (Says {D = D} {E = E} [] [] 0) (same_Some Seen m e) (λ n f g h. none-some f g)
      marked (suc i) m e = absurd (none-some m e)

  module _ (table : List N) (marks : List Mark) (found : List (Found D E)) (stack : List Frame) (v : IsVisit s table marks found stack) where
    -- the path of a number, and the node at its end
    path_of : (n : ℕ) (f : Found D E) → slice_get found n ≡ Some f → (p : List ℕ) × (slice_get v.paths n ≡ Some p) × IsEntered s table p f
    path_of n f e = let p = get_some v.paths n (omega (arith, get_within found n f e, v.number)) in (p.0, p.1, v.entered n p.0 f p.1 e)

    pub found_of : (n : ℕ) (p : List ℕ) → slice_get v.paths n ≡ Some p → (f : Found D E) × (slice_get found n ≡ Some f) × IsEntered s table p f
    found_of n p e = let f = get_some found n (omega (arith, get_within v.paths n p e, v.number)) in (f.0, f.1, v.entered n p f.0 e f.1)

    -- a node with an index that was entered is found
    pub has_path : (n i : ℕ) (h : N) → HasIndex found n i → slice_get table i ≡ Some h → (p : List ℕ) × (slice_get v.paths n ≡ Some p) × IsEnd s p h
    has_path n i h t e =
        let p = path_of n t.0 t.1 in
        (p.0, p.1, p.2.ends ∙ ap Some (same_Some p.2.at h (sym p.2.here ∙ ap (slice_get table) t.2 ∙ e)))

    -- no path leads to a node that was only seen
    pub new_path : (i : ℕ) (h : N) → slice_get table i ≡ Some h → slice_get marks i ≡ Some Seen → (p : List ℕ) → Contains v.paths p → IsEnd s p h → ⊥
    new_path i h here new p c e =
        let n = place v.paths p c in
        let f = found_of n.0 p n.1 in
        let same : f.2.at ≡ h = one_end s s.start f.2.at h p f.2.ends e in
        v.marked i Seen new n.0 f.0 f.1 (v.once f.0.index i h (f.2.here ∙ ap Some same) here)

    -- one path, one number
    one_number : (m n : ℕ) (p : List ℕ) → slice_get v.paths m ≡ Some p → slice_get v.paths n ≡ Some p → m ≡ n
    one_number m n p a b = elim (numbers m n) [
      | less l ↦ absurd (irrefl p (v.frontier.ordered m n p p l a b))
      | equal e ↦ e
      | more l ↦ absurd (irrefl p (v.frontier.ordered n m p p l b a))
    ]

    -- one node, one number
    pub apart : (m n i : ℕ) → HasIndex found m i → HasIndex found n i → m ≡ n
    apart m n i a b =
        let p = path_of m a.0 a.1 in let q = path_of n b.0 b.1 in
        let same : p.2.at ≡ q.2.at = same_Some p.2.at q.2.at (sym p.2.here ∙ ap (slice_get table) (a.2 ∙ sym b.2) ∙ q.2.here) in
        let one : p.0 ≡ q.0 = v.frontier.distinct p.0 q.0 q.2.at (listed v.paths m p.0 p.1) (listed v.paths n q.0 q.1) (p.2.ends ∙ ap Some same) q.2.ends in
        one_number m n q.0 (p.1 ∙ ap Some one) q.1

    -- the node of a frame lies on the path
    stands_at : (n : ℕ) → IsOnStack stack n → (p : List ℕ) × (slice_get v.paths n ≡ Some p) × Rattle.path_search.specs.Paths.IsPrefix p (position stack)
    stands_at n t =
        let i = place stack t.0 t.1 in let k = cut_at stack i.0 t.0 i.1 in
        (position k.lower, ap (slice_get v.paths) (sym t.2) ∙ v.stands k.lower k.upper t.0 k.whole, record { rest = position (t.0 ∷ k.upper); whole = ap position k.whole ∙ map_push (λ (x : Frame). x.choice) k.lower (t.0 ∷ k.upper) })

    -- the node that is entered, and those on its path, are those that are open
    module _ (index : ℕ) (r : Reaches s table marks stack index) where
      pub over_budget : ((a b : N) → (a ≡ b) ⊎ (a ≡ b → ⊥)) → length found ≡ s.budget → Refuses s r.at OverBudget
      over_budget decide e = refuses_over s decide (position stack) v.paths r.at v.frontier v.checked r.simple (new_path index r.at r.here r.new) (sym v.number ∙ e)

      within : (length found ≡ s.budget → ⊥) → length v.paths < s.budget
      within n = elim (numbers (length found) s.budget) [ less a ↦ omega (arith, v.number, a) | equal e ↦ absurd (n e) | more a ↦ absurd (omega (arith, v.number, a, v.checked.budget)) ]

      pub is_bad : ((a b : N) → (a ≡ b) ⊎ (a ≡ b → ⊥)) → (length found ≡ s.budget → ⊥) → (k : K) → s.turn r.at ≡ Bad k → Refuses s r.at (BadNode k)
      is_bad decide n k e = refuses_bad s decide (position stack) v.paths r.at v.frontier v.checked r.simple (new_path index r.at r.here r.new) k (within n) e

      module _ (table' : List N) (marks' : List Mark) (g : Grows table table' marks marks') (links : List (Link E)) (leads : LeadTo table' links (successors s r.at)) where
        -- a mark after the node is marked as open
        IsOpen : ℕ → Type 0
        IsOpen to = (n : ℕ) × (slice_get (set marks' index (Open (length found))) to ≡ Some (Open n))

        pub back_from : s.loops ≡ false → (j : ℕ) (l : Link E) (n : ℕ) → slice_get links j ≡ Some l → slice_get (set marks' index (Open (length found))) l.to ≡ Some (Open n) → IsBack s (position stack) r.at
        back_from c j l n e o = record { closed = c; to = t.0; edge = listed (successors s r.at) j t.0 t.1; on = on (set_get marks' index (Open (length found)) (Open n) l.to o) }
          where
            t : (h : N) × (slice_get (successors s r.at) j ≡ Some h) × (slice_get table' l.to ≡ Some h)
            t = leads.to j l e

            old : slice_get marks l.to ≡ Some (Open n) ⊎ ((slice_get marks l.to ≡ None) × (Open n ≡ Seen)) → LiesOn s (position stack) t.0
            old (inr d) = absurd (let x : Open n ≡ Seen = d.1 in cc)
            old (inl d) =
                let says = v.marked l.to (Open n) d in
                let p = stands_at n says.1 in
                let h = get_some table l.to (omega (arith, get_within marks l.to (Open n) d, v.size)) in
                let same : h.0 ≡ t.0 = same_Some h.0 t.0 (sym (g.kept l.to h.0 h.1) ∙ t.2) in
                let q = has_path n l.to t.0 says.0 (h.1 ∙ ap Some same) in
                record { path = p.0; prefix = p.2; ends = subst (λ x. IsEnd s x t.0) (same_Some q.0 p.0 (sym q.1 ∙ p.1)) q.2 }

            on : ((l.to ≡ index) × (Open (length found) ≡ Open n)) ⊎ ((l.to ≡ index → ⊥) × (slice_get marks' l.to ≡ Some (Open n))) → LiesOn s (position stack) t.0
            on (inl d) =
                let same : r.at ≡ t.0 = same_Some r.at t.0 (sym (g.kept index r.at r.here) ∙ ap (slice_get table') (sym d.0) ∙ t.2) in
                record { path = position stack; prefix = prefix_self (position stack); ends = r.simple.ends ∙ ap Some same }
            on (inr d) = old (g.seen l.to (Open n) d.1)

        pub back_to : IsBack s (position stack) r.at → (j : ℕ) × (l : Link E) × (n : ℕ) × (slice_get links j ≡ Some l) × (slice_get (set marks' index (Open (length found))) l.to ≡ Some (Open n))
        back_to b = go (place (successors s r.at) b.to b.edge)
          where
            go : (j : ℕ) × (slice_get (successors s r.at) j ≡ Some b.to) → (j : ℕ) × (l : Link E) × (n : ℕ) × (slice_get links j ≡ Some l) × (slice_get (set marks' index (Open (length found))) l.to ≡ Some (Open n))
            go j = (j.0, l.0, (mark).0, l.1, mark.1)
              where
                l : (l : Link E) × (slice_get links j.0 ≡ Some l)
                l = get_some links j.0 (omega (arith, leads.number, get_within (successors s r.at) j.0 b.to j.1))

                to : slice_get table' l.0.to ≡ Some b.to
                to = let t = leads.to j.0 l.0 l.1 in t.2 ∙ ap Some (same_Some t.0 b.to (sym t.1 ∙ j.1))

                inside : index < length marks'
                inside = omega (arith, g.size, get_within table' index r.at (g.kept index r.at r.here))

                open_old : (n : ℕ) → (slice_get marks l.0.to ≡ Some (Open n)) → (l.0.to ≡ index → ⊥) → (n : ℕ) × (slice_get (set marks' index (Open (length found))) l.0.to ≡ Some (Open n))
                open_old n e ne = (n, Rattle.path_search.proofs.Lists.get_set_other marks' index (Open (length found)) l.0.to ne ∙ g.marks_kept l.0.to (Open n) e)

                at_frame : (f : Frame) (lower upper : List Frame) → stack ≡ lower ++ f ∷ upper → b.on.path ≡ position lower → (n : ℕ) × (slice_get (set marks' index (Open (length found))) l.0.to ≡ Some (Open n))
                at_frame f lower upper w is =
                    let at_path = v.stands lower upper f w in
                    let e = found_of f.number (position lower) at_path in
                    let same : e.2.at ≡ b.to = one_end s s.start e.2.at b.to (position lower) e.2.ends (subst (λ x. IsEnd s x b.to) is b.on.ends) in
                    let here : slice_get table e.0.index ≡ Some b.to = e.2.here ∙ ap Some same in
                    let i : e.0.index ≡ l.0.to = g.once e.0.index l.0.to b.to (g.kept e.0.index b.to here) to in
                    let has : HasIndex found f.number l.0.to = (e.0, e.1, i) in
                    let on : IsOnStack stack f.number = (f, subst (λ x. Contains x f) (sym w) (listed (lower ++ f ∷ upper) (length lower) f (get_last lower upper f)), refl) in
                    let m = get_some marks l.0.to (omega (arith, v.size, get_within table l.0.to b.to (ap (slice_get table) (sym i) ∙ here))) in
                    by_mark m.0 m.1 has on
                  where
                    by_mark : (m : Mark) → slice_get marks l.0.to ≡ Some m → HasIndex found f.number l.0.to → IsOnStack stack f.number → (n : ℕ) × (slice_get (set marks' index (Open (length found))) l.0.to ≡ Some (Open n))
                    by_mark Seen e has on = absurd (v.marked l.0.to Seen e f.number has.0 has.1 has.2)
                    by_mark (Open n) e has on = open_old n e (λ q. let x : Some Seen ≡ Some (Open n) = sym r.new ∙ ap (slice_get marks) (sym q) ∙ e in cc)
                    by_mark (Left n) e has on = let says = v.marked l.0.to (Left n) e in absurd (says.1 (subst (IsOnStack stack) (apart f.number n l.0.to has says.0) on))

                by_path : (b.on.path ≡ position stack) ⊎ Part (λ (x : Frame). x.choice) stack b.on.path → (n : ℕ) × (slice_get (set marks' index (Open (length found))) l.0.to ≡ Some (Open n))
                by_path (inl w) =
                    let same : b.to ≡ r.at = one_end s s.start b.to r.at (position stack) (subst (λ x. IsEnd s x b.to) w b.on.ends) r.simple.ends in
                    let i : l.0.to ≡ index = g.once l.0.to index r.at (to ∙ ap Some same) (g.kept index r.at r.here) in
                    (length found, ap (slice_get (set marks' index (Open (length found)))) i ∙ Rattle.path_search.proofs.Lists.get_set_same marks' index (Open (length found)) inside)
                by_path (inr t) = at_frame t.at t.lower t.upper t.whole t.is

                mark : (n : ℕ) × (slice_get (set marks' index (Open (length found))) l.0.to ≡ Some (Open n))
                mark = by_path (map_prefix (λ (x : Frame). x.choice) stack b.on.path b.on.prefix)

        pub is_back : ((a b : N) → (a ≡ b) ⊎ (a ≡ b → ⊥)) → (length found ≡ s.budget → ⊥) → IsBack s (position stack) r.at → Refuses s r.at LeadsBack
        is_back decide n b = refuses_back s decide (position stack) v.paths r.at v.frontier v.checked r.simple (new_path index r.at r.here r.new) (within n) b

        -- a permitted node is entered
        pub enters : (f : Found D E) (frame : Frame) → (length found ≡ s.budget → ⊥) → ((k : K) → s.turn r.at ≡ Bad k → ⊥) → (IsBack s (position stack) r.at → ⊥)
            → f.index ≡ index → f.links ≡ links → length links < 2 ^ 64 → frame.number ≡ length found → frame.choice ≡ 0
            → IsVisit s table' (set marks' index (Open (length found))) (found ++ f ∷ []) (stack ++ frame ∷ [])
        enters f frame over good straight fi fl small fn fc = record {
          paths = v.paths ++ position stack ∷ [];
          frontier = subst (λ p. Frontier s p (v.paths ++ position stack ∷ [])) (sym (position_push stack frame zero fc)) (finds s (position stack) v.paths r.at v.frontier r.simple (new_path index r.at r.here r.new));
          checked = checks_more s v.paths (position stack) r.at v.checked r.simple.ends (within over) good straight;
          once = g.once;
          number = length_push found f ∙ ap suc v.number ∙ sym (length_push v.paths (position stack));
          entered = λ n p x a b. entered n p x (get_push v.paths (position stack) p n a) (get_push found f x n b);
          stands = λ lower upper x w. stands lower upper x (whereabouts stack frame lower upper x w);
          size = Rattle.std.proofs.Math.ListN.length-set marks' index (Open (length found)) ∙ g.size;
          marked = λ i m e. marked i m (set_get marks' index (Open (length found)) m i e);
        }
          where
            entered : (n : ℕ) (p : List ℕ) (x : Found D E) → slice_get v.paths n ≡ Some p ⊎ ((n ≡ length v.paths) × (position stack ≡ p)) → slice_get found n ≡ Some x ⊎ ((n ≡ length found) × (f ≡ x)) → IsEntered s table' p x
            entered n p x (inl a) (inl b) = entered_grow table table' p x g.kept (v.entered n p x a b)
            entered n p x (inl a) (inr b) = absurd (omega (arith, get_within v.paths n p a, b.0, v.number))
            entered n p x (inr a) (inl b) = absurd (omega (arith, get_within found n x b, a.0, v.number))
            entered n p x (inr a) (inr b) = subst (IsEntered s table' p) b.1 (record {
              at = r.at;
              ends = subst (λ y. IsEnd s y r.at) a.1 r.simple.ends;
              here = ap (slice_get table') fi ∙ g.kept index r.at r.here;
              links = subst (λ y. LeadTo table' y (successors s r.at)) (sym fl) leads;
              small = omega (arith, ap length fl, small);
            })

            stands : (lower upper : List Frame) (x : Frame) → Where stack frame lower upper x → slice_get (v.paths ++ position stack ∷ []) x.number ≡ Some (position lower)
            stands lower upper x (last a b _) =
                ap (slice_get (v.paths ++ position stack ∷ [])) (ap (λ (y : Frame). y.number) (sym b) ∙ fn ∙ v.number) ∙ get_last v.paths [] (position stack) ∙ ap (λ y. Some (position y)) a
            stands lower upper x (before u a _) = get_left v.paths (position stack ∷ []) x.number (position lower) (v.stands lower u x a)

            has_more : (n i : ℕ) → HasIndex found n i → HasIndex (found ++ f ∷ []) n i
            has_more n i t = (t.0, get_left found (f ∷ []) n t.0 t.1, t.2)

            on_more : (n : ℕ) → IsOnStack stack n → IsOnStack (stack ++ frame ∷ []) n
            on_more n t = (t.0, Contains-append_left stack (frame ∷ []) t.0 t.1, t.2)

            on_less : (n : ℕ) → n < length found → IsOnStack (stack ++ frame ∷ []) n → IsOnStack stack n
            on_less n l t = elim (Contains-push_cases stack frame t.0 t.1) [ inl c ↦ (t.0, c, t.2) | inr e ↦ absurd (omega (arith, l, ap (λ (y : Frame). y.number) e, t.2, fn)) ]

            not_here : (i : ℕ) → (i ≡ index → ⊥) → (n : ℕ) (x : Found D E) → slice_get found n ≡ Some x ⊎ ((n ≡ length found) × (f ≡ x)) → x.index ≡ i → ((n : ℕ) (x : Found D E) → slice_get found n ≡ Some x → x.index ≡ i → ⊥) → ⊥
            not_here i ne n x (inl a) e k = k n x a e
            not_here i ne n x (inr a) e k = ne (sym (ap (λ (y : Found D E). y.index) a.1 ∙ e) ∙ fi)

            old_mark : (i : ℕ) (m : Mark) → (i ≡ index → ⊥) → Says found stack i m → Says (found ++ f ∷ []) (stack ++ frame ∷ []) i m
            old_mark i Seen ne h = λ n x a e. not_here i ne n x (get_push found f x n a) e h
            old_mark i (Open n) ne h = (has_more n i h.0, on_more n h.1)
            old_mark i (Left n) ne h = (has_more n i h.0, λ t. h.1 (on_less n (get_within found n h.0.0 h.0.1) t))

            unseen : (i : ℕ) → slice_get marks i ≡ None → (n : ℕ) (x : Found D E) → slice_get found n ≡ Some x → x.index ≡ i → ⊥
            unseen i e n x a d =
                let p = path_of n x a in
                let m = get_some marks i (omega (arith, v.size, d, get_within table x.index p.2.at p.2.here)) in
                none-some m.0 (sym e ∙ m.1)

            fresh : (i : ℕ) (m : Mark) → (i ≡ index → ⊥) → slice_get marks i ≡ Some m ⊎ ((slice_get marks i ≡ None) × (m ≡ Seen)) → Says (found ++ f ∷ []) (stack ++ frame ∷ []) i m
            fresh i m ne (inl e) = old_mark i m ne (v.marked i m e)
            fresh i m ne (inr e) = subst (Says (found ++ f ∷ []) (stack ++ frame ∷ []) i) (sym e.1) (old_mark i Seen ne (unseen i e.0))

            marked : (i : ℕ) (m : Mark) → ((i ≡ index) × (Open (length found) ≡ m)) ⊎ ((i ≡ index → ⊥) × (slice_get marks' i ≡ Some m)) → Says (found ++ f ∷ []) (stack ++ frame ∷ []) i m
            marked i m (inl e) = subst (Says (found ++ f ∷ []) (stack ++ frame ∷ []) i) e.1 ((f, get_last found [] f, fi ∙ sym e.0), (frame, Contains-push stack frame, fn))
            marked i m (inr e) = fresh i m e.0 (g.seen i m e.1)

  -- what is entered has an index
  has_index : (found : List (Found D E)) (stack : List Frame) (i : ℕ) (m : Mark) → (m ≡ Seen → ⊥) → Says found stack i m → (n : ℕ) × HasIndex found n i
  has_index found stack i Seen ne h = absurd (ne refl)
  has_index found stack i (Open n) ne h = (n, h.0)
  has_index found stack i (Left n) ne h = (n, h.0)

  module _ (decide : (a b : N) → (a ≡ b) ⊎ (a ≡ b → ⊥)) where
    module _ (table : List N) (marks : List Mark) (found : List (Found D E)) (fs : List Frame) (top : Frame) (v : IsVisit s table marks found (fs ++ top ∷ [])) (f : Found D E) (at_top : slice_get found top.number ≡ Some f) where
      top_path : slice_get v.paths top.number ≡ Some (position fs)
      top_path = v.stands fs [] top refl

      pub here : IsEntered s table (position fs) f
      here =
          let t = found_of table marks found (fs ++ top ∷ []) v top.number (position fs) top_path in
          subst (IsEntered s table (position fs)) (same_Some t.0 f (sym t.1 ∙ at_top)) t.2

      pos : Frontier s (position fs ++ top.choice ∷ []) v.paths
      pos = subst (λ p. Frontier s p v.paths) (position_push fs top top.choice refl) v.frontier

      simple : IsSimple s (position fs) here.at
      simple = simple_at s (position fs ++ top.choice ∷ []) v.paths pos (position fs) here.at (listed v.paths top.number (position fs) top_path) here.ends

      pub below_top : (lower u : List Frame) (x : Frame) → fs ≡ lower ++ x ∷ u → slice_get v.paths x.number ≡ Some (position lower)
      below_top lower u x a = v.stands lower (u ++ top ∷ []) x (ap (λ y. y ++ top ∷ []) a ∙ append_assoc lower (x ∷ u) (top ∷ []))

      -- over an edge to a node that was entered before
      pub goes_over : (top' : Frame) (l : Link E) (m : Mark) → slice_get f.links top.choice ≡ Some l → slice_get marks l.to ≡ Some m → (m ≡ Seen → ⊥)
          → top'.number ≡ top.number → top'.choice ≡ suc top.choice → IsVisit s table marks found (fs ++ top' ∷ [])
      goes_over top' l m e d ne tn tc = record {
        paths = v.paths;
        frontier = subst (λ p. Frontier s p v.paths) (sym (position_push fs top' (suc top.choice) tc)) moved;
        checked = v.checked;
        once = v.once;
        number = v.number;
        entered = v.entered;
        stands = λ lower upper x w. stands lower upper x (whereabouts fs top' lower upper x w);
        size = v.size;
        marked = λ i k g. says_same found fs top top' i k (sym tn) (v.marked i k g);
      }
        where
          to : (h : N) × (slice_get (successors s here.at) top.choice ≡ Some h) × (slice_get table l.to ≡ Some h)
          to = here.links.to top.choice l e

          moved : Frontier s (position fs ++ suc top.choice ∷ []) v.paths
          moved =
              let i = has_index found (fs ++ top ∷ []) l.to m ne (v.marked l.to m d) in
              let p = has_path table marks found (fs ++ top ∷ []) v i.0 l.to to.0 i.1 to.2 in
              passes s decide (position fs) top.choice here.at to.0 v.paths pos simple to.1 p.0 (listed v.paths i.0 p.0 p.1) p.2

          stands : (lower upper : List Frame) (x : Frame) → Where fs top' lower upper x → slice_get v.paths x.number ≡ Some (position lower)
          stands lower upper x (last a b _) = ap (slice_get v.paths) (ap (λ (y : Frame). y.number) (sym b) ∙ tn) ∙ top_path ∙ ap (λ y. Some (position y)) a
          stands lower upper x (before u a _) = below_top lower u x a

      -- to a node that was only seen
      pub comes_to : (l : Link E) → slice_get f.links top.choice ≡ Some l → slice_get marks l.to ≡ Some Seen → Reaches s table marks (fs ++ top ∷ []) l.to
      comes_to l e d =
          let to = here.links.to top.choice l e in
          record {
            at = to.0;
            here = to.2;
            simple = subst (λ p. IsSimple s p to.0) (sym (position_push fs top top.choice refl))
                (arrives s (position fs) top.choice here.at to.0 v.paths pos simple to.1 (new_path table marks found (fs ++ top ∷ []) v l.to to.0 to.2 d));
            new = d;
          }

      no_edge : length f.links ≤ top.choice → length (successors s here.at) ≤ top.choice
      no_edge l = omega (arith, l, here.links.number)

      -- no other node of the path has the number of the last
      alone : (lower u : List Frame) (x : Frame) → fs ≡ lower ++ x ∷ u → x.number ≡ top.number → ⊥
      alone lower u x a e =
          let same : position lower ≡ position fs = same_Some (position lower) (position fs) (sym (below_top lower u x a) ∙ ap (slice_get v.paths) e ∙ top_path) in
          omega (arith, ap length same, position_length lower, position_length fs, ap length a, length_append lower (x ∷ u))

      not_on : IsOnStack fs top.number → ⊥
      not_on t = let i = place fs t.0 t.1 in let k = cut_at fs i.0 t.0 i.1 in alone k.lower k.upper t.0 k.whole t.2

      -- what marks say once the last node is left
      says_left : (i : ℕ) (m : Mark) → ((i ≡ f.index) × (Left top.number ≡ m)) ⊎ ((i ≡ f.index → ⊥) × (slice_get marks i ≡ Some m)) → Says found fs i m
      says_left i m (inl e) = subst (Says found fs i) e.1 ((f, at_top, sym e.0), not_on)
      says_left i m (inr e) = old m (v.marked i m e.1)
        where
          still : (n : ℕ) → HasIndex found n i → IsOnStack (fs ++ top ∷ []) n → IsOnStack fs n
          still n h t = elim (Contains-push_cases fs top t.0 t.1) [
            | inl c ↦ (t.0, c, t.2)
            | inr q ↦ absurd (e.0 (sym h.2 ∙ ap (λ (y : Found D E). y.index) (same_Some h.0 f (sym h.1 ∙ ap (slice_get found) (sym t.2 ∙ ap (λ (y : Frame). y.number) (sym q)) ∙ at_top))))
          ]

          old : (m : Mark) → Says found (fs ++ top ∷ []) i m → Says found fs i m
          old Seen h = h
          old (Open n) h = (h.0, still n h.0 h.1)
          old (Left n) h = (h.0, λ t. h.1 (t.0, Contains-append_left fs (top ∷ []) t.0 t.1, t.2))

      -- the choice at the node below is an edge
      pub taken : (lower : List Frame) (below : Frame) → fs ≡ lower ++ below ∷ [] → below.choice + 1 < 2 ^ 64
      taken lower below w =
          let b = found_of table marks found (fs ++ top ∷ []) v below.number (position lower) (below_top lower [] below w) in
          let low : position fs ≡ position lower ++ below.choice ∷ [] = ap position w ∙ position_push lower below below.choice refl in
          let t = end_front s s.start here.at (position lower) (below.choice ∷ []) (subst (λ q. IsEnd s q here.at) low here.ends) in
          let n : t.by ≡ b.2.at = one_end s s.start t.by b.2.at (position lower) t.is b.2.ends in
          let edge : slice_get (successors s b.2.at) below.choice ≡ Some here.at = ap (λ x. slice_get (successors s x) below.choice) (sym n) ∙ sym (end_one s t.by below.choice) ∙ t.gives in
          omega (arith, get_within (successors s b.2.at) below.choice here.at edge, b.2.links.number, b.2.small)

      -- the first node has no more edges
      pub finishes : fs ≡ [] → length f.links ≤ top.choice → IsDone s table (set marks f.index (Left top.number)) found
      finishes first l = record {
        accepts = accepts s decide top.choice v.paths end v.checked no_more;
        paths = v.paths;
        opening = opens s (top.choice ∷ []) v.paths end;
        longest = longest s top.choice v.paths end no_more;
        number = v.number;
        entered = v.entered;
        apart = λ m n a b e g h. apart table marks found (fs ++ top ∷ []) v m n b.index (a, e, h) (b, g, refl);
        numbered = λ n a k e c. numbered n a k e c;
      }
        where
          end : Frontier s (top.choice ∷ []) v.paths
          end = subst (λ p. Frontier s (position p ++ top.choice ∷ []) v.paths) first pos

          no_more : length (successors s s.start) ≤ top.choice
          no_more =
              let n : here.at ≡ s.start = one_end s s.start here.at s.start [] (subst (λ p. IsEnd s (position p) here.at) first here.ends) (end_none s s.start) in
              subst (λ x. length (successors s x) ≤ top.choice) n (no_edge l)

          -- a successor of a node that is found is found
          closed : (p : List ℕ) (g : N) (j : ℕ) (h : N) → Contains v.paths p → IsEnd s p g → slice_get (successors s g) j ≡ Some h → (q : List ℕ) × Contains v.paths q × IsEnd s q h
          closed p g j h c e d = go (decide_on s decide p h)
            where
              hp : IsSimple s p g
              hp = simple_at s (top.choice ∷ []) v.paths end p g c e

              go : LiesOn s p h ⊎ (LiesOn s p h → ⊥) → (q : List ℕ) × Contains v.paths q × IsEnd s q h
              go (inl o) =
                  let q : IsSimple s o.path h = simple_prefix s o.path p g h o.prefix hp o.ends in
                  let t = end.covers o.path h q (ends_all s top.choice no_more o.path h q) in (t.path, t.listed, t.ends)
              go (inr n) =
                  let q : IsSimple s (p ++ j ∷ []) h = simple_push s p g h j hp d n in
                  let t = end.covers (p ++ j ∷ []) h q (ends_all s top.choice no_more (p ++ j ∷ []) h q) in (t.path, t.listed, t.ends)

          numbered : (n : ℕ) (a : Found D E) (k : Link E) → slice_get found n ≡ Some a → Contains a.links k → IsNumbered (set marks f.index (Left top.number)) found k.to
          numbered n a k e c = by_mark mark.0 mark.1
            where
              p : (p : List ℕ) × (slice_get v.paths n ≡ Some p) × IsEntered s table p a
              p = path_of table marks found (fs ++ top ∷ []) v n a e

              j : (j : ℕ) × (slice_get a.links j ≡ Some k)
              j = place a.links k c

              to : (h : N) × (slice_get (successors s p.2.at) j.0 ≡ Some h) × (slice_get table k.to ≡ Some h)
              to = p.2.links.to j.0 k j.1

              index : (n : ℕ) × HasIndex found n k.to
              index =
                  let q = closed p.0 p.2.at j.0 to.0 (listed v.paths n p.0 p.1) p.2.ends to.1 in
                  let i = place v.paths q.0 q.1 in
                  let b = found_of table marks found (fs ++ top ∷ []) v i.0 q.0 i.1 in
                  let same : b.2.at ≡ to.0 = one_end s s.start b.2.at to.0 q.0 b.2.ends q.2 in
                  (i.0, (b.0, b.1, v.once b.0.index k.to to.0 (b.2.here ∙ ap Some same) to.2))

              mark : (m : Mark) × (slice_get (set marks f.index (Left top.number)) k.to ≡ Some m)
              mark = get_some (set marks f.index (Left top.number)) k.to (omega (arith, Rattle.std.proofs.Math.ListN.length-set marks f.index (Left top.number), v.size, get_within table k.to to.0 to.2))

              by_mark : (m : Mark) → slice_get (set marks f.index (Left top.number)) k.to ≡ Some m → IsNumbered (set marks f.index (Left top.number)) found k.to
              by_mark m g = says m g (says_left k.to m (set_get marks f.index (Left top.number) m k.to g))
                where
                  says : (m : Mark) → slice_get (set marks f.index (Left top.number)) k.to ≡ Some m → Says found fs k.to m → IsNumbered (set marks f.index (Left top.number)) found k.to
                  says Seen g h = absurd (h index.0 index.1.0 index.1.1 index.1.2)
                  says (Open n) g h = record { mark = Open n; marked = g; number = n; is = refl; index = h.0 }
                  says (Left n) g h = record { mark = Left n; marked = g; number = n; is = refl; index = h.0 }

    -- from a node that has no more edges
    pub goes_back : (table : List N) (marks : List Mark) (found : List (Found D E)) (fs : List Frame) (below top below' : Frame) (f : Found D E) → IsVisit s table marks found ((fs ++ below ∷ []) ++ top ∷ [])
        → slice_get found top.number ≡ Some f → length f.links ≤ top.choice → below'.number ≡ below.number → below'.choice ≡ suc below.choice
        → IsVisit s table (set marks f.index (Left top.number)) found (fs ++ below' ∷ [])
    goes_back table marks found fs below top below' f v at_top l bn bc = record {
      paths = v.paths;
      frontier = subst (λ p. Frontier s p v.paths) (sym (position_push fs below' (suc below.choice) bc))
          (leaves_off s (position fs) below.choice top.choice t.at v.paths (subst (λ q. Frontier s (q ++ top.choice ∷ []) v.paths) low (pos table marks found (fs ++ below ∷ []) top v f at_top))
          (subst (λ q. IsEnd s q t.at) low t.ends) (no_edge table marks found (fs ++ below ∷ []) top v f at_top l));
      checked = v.checked;
      once = v.once;
      number = v.number;
      entered = v.entered;
      stands = λ lower upper x w. stands lower upper x (whereabouts fs below' lower upper x w);
      size = Rattle.std.proofs.Math.ListN.length-set marks f.index (Left top.number) ∙ v.size;
      marked = λ i m e. says_same found fs below below' i m (sym bn) (says_left table marks found (fs ++ below ∷ []) top v f at_top i m (set_get marks f.index (Left top.number) m i e));
    }
      where
        t : IsEntered s table (position (fs ++ below ∷ [])) f
        t = here table marks found (fs ++ below ∷ []) top v f at_top

        low : position (fs ++ below ∷ []) ≡ position fs ++ below.choice ∷ []
        low = position_push fs below below.choice refl

        stands : (lower upper : List Frame) (x : Frame) → Where fs below' lower upper x → slice_get v.paths x.number ≡ Some (position lower)
        stands lower upper x (last a c _) =
            ap (slice_get v.paths) (ap (λ (y : Frame). y.number) (sym c) ∙ bn) ∙ below_top table marks found (fs ++ below ∷ []) top v f at_top fs [] below refl ∙ ap (λ y. Some (position y)) a
        stands lower upper x (before u a _) = below_top table marks found (fs ++ below ∷ []) top v f at_top lower (u ++ below ∷ []) x (ap (λ y. y ++ below ∷ []) a ∙ append_assoc lower (x ∷ u) (below ∷ []))

-- the work that is left
pub work_push : {D E : Type 0} (found : List (Found D E)) (fs : List Frame) (f : Frame) → work found (fs ++ f ∷ []) ≡ work found fs + suc (links_of (slice_get found f.number) - f.choice)
unfolding work
work_push found [] f = omega arith
work_push found (g ∷ fs) f = omega (arith, work_push found fs f)

pub less_over : {D E : Type 0} (found : List (Found D E)) (fs : List Frame) (top : Frame) (f : Found D E) → slice_get found top.number ≡ Some f → top.choice < length f.links → work found (fs ++ next_frame top ∷ []) < work found (fs ++ top ∷ [])
less_over found fs top f e l = omega (arith, work_push found fs top, work_push found fs (next_frame top), ap links_of e, l)

pub less_back : {D E : Type 0} (found : List (Found D E)) (fs : List Frame) (below top : Frame) → work found (fs ++ next_frame below ∷ []) < work found ((fs ++ below ∷ []) ++ top ∷ [])
less_back found fs below top = omega (arith, work_push found fs below, work_push found fs (next_frame below), work_push found (fs ++ below ∷ []) top)

-- links, one by one
pub grows_none : {N : Type 0} (table : List N) (marks : List Mark) → IsOnce table → length marks ≡ length table → Grows table table marks marks
grows_none table marks o n = record { kept = λ i h e. e; once = o; size = n; marks_kept = λ i m e. e; seen = λ i m e. inl e }

pub grows_more : {N : Type 0} (a b c : List N) (k l m : List Mark) → Grows a b k l → Grows b c l m → Grows a c k m
grows_more a b c k l m g h = record {
  kept = λ i x e. h.kept i x (g.kept i x e);
  once = h.once;
  size = h.size;
  marks_kept = λ i x e. h.marks_kept i x (g.marks_kept i x e);
  seen = λ i x e. seen i x (h.seen i x e);
}
  where
    none : (i : ℕ) (o : Option Mark) → slice_get k i ≡ o → slice_get l i ≡ None → slice_get k i ≡ None
    none i None e d = e
    none i (Some x) e d = absurd (none-some x (sym d ∙ g.marks_kept i x e))

    seen : (i : ℕ) (x : Mark) → slice_get l i ≡ Some x ⊎ ((slice_get l i ≡ None) × (x ≡ Seen)) → slice_get k i ≡ Some x ⊎ ((slice_get k i ≡ None) × (x ≡ Seen))
    seen i x (inl e) = g.seen i x e
    seen i x (inr e) = inr (none i (slice_get k i) refl e.0, e.1)

pub links_none : {N E : Type 0} (table : List N) → AreLinks {N = N} {E = E} table table [] []
links_none table = record { among = λ i h e. inl e; leads = record { number = refl; to = λ j l e. absurd (none-some l e) }; labels = refl }

pub links_more : {N E : Type 0} (table table' table'' : List N) (edges : List (Edge N E)) (links : List (Link E)) (e : Edge N E) (l : Link E)
    → ((i : ℕ) (h : N) → slice_get table' i ≡ Some h → slice_get table'' i ≡ Some h)
    → ((i : ℕ) (h : N) → slice_get table'' i ≡ Some h → slice_get table' i ≡ Some h ⊎ (h ≡ e.to))
    → slice_get table'' l.to ≡ Some e.to → l.label ≡ e.label
    → AreLinks table table' edges links → AreLinks table table'' (edges ++ e ∷ []) (links ++ l ∷ [])
links_more table table' table'' edges links e l kept new at same a = record {
  among = λ i h d. among i h (new i h d);
  leads = record { number = length_push links l ∙ ap suc a.leads.number ∙ sym (ap length (map_push target edges (e ∷ [])) ∙ length_push (map target edges) e.to); to = λ j x d. to j x (get_push links l x j d) };
  labels = map_push (λ (x : Link _). x.label) links (l ∷ []) ∙ ap (λ y. y ++ l.label ∷ []) a.labels ∙ ap (λ y. map label edges ++ y ∷ []) same ∙ sym (map_push label edges (e ∷ []));
}
  where
    put : (h : _) → Contains (map target edges) h → Contains (map target (edges ++ e ∷ [])) h
    put h c = subst (λ y. Contains y h) (sym (map_push target edges (e ∷ []))) (Contains-append_left (map target edges) (e.to ∷ []) h c)

    among : (i : ℕ) (h : _) → slice_get table' i ≡ Some h ⊎ (h ≡ e.to) → slice_get table i ≡ Some h ⊎ Contains (map target (edges ++ e ∷ [])) h
    among i h (inl d) = elim (a.among i h d) [ inl f ↦ inl f | inr c ↦ inr (put h c) ]
    among i h (inr d) = inr (subst (λ y. Contains y h) (sym (map_push target edges (e ∷ []))) (subst (Contains (map target edges ++ e.to ∷ [])) (sym d) (Contains-push (map target edges) e.to)))

    to : (j : ℕ) (x : Link _) → slice_get links j ≡ Some x ⊎ ((j ≡ length links) × (l ≡ x)) → (h : _) × (slice_get (map target (edges ++ e ∷ [])) j ≡ Some h) × (slice_get table'' x.to ≡ Some h)
    to j x (inl d) =
        let t = a.leads.to j x d in
        (t.0, ap (λ y. slice_get y j) (map_push target edges (e ∷ [])) ∙ get_left (map target edges) (e.to ∷ []) j t.0 t.1, kept x.to t.0 t.2)
    to j x (inr d) = (
      e.to,
      ap (λ y. slice_get y j) (map_push target edges (e ∷ [])) ∙ ap (slice_get (map target edges ++ e.to ∷ [])) (d.0 ∙ a.leads.number) ∙ get_last (map target edges) [] e.to,
      ap (λ (y : Link _). slice_get table'' y.to) (sym d.1) ∙ at,
    )

-- a stack that is not empty has a last frame
pub last_frame : (stack : List Frame) → 0 < length stack → (lower : List Frame) × (top : Frame) × (stack ≡ lower ++ top ∷ [])
last_frame [] h = absurd (omega arith)
last_frame (f ∷ []) h = ([], f, refl)
last_frame (f ∷ g ∷ fs) h = let t = last_frame (g ∷ fs) (omega arith) in (f ∷ t.0, t.1, ap (λ y. f ∷ y) t.2)

pub set_last : {A : Type 0} (xs : List A) (x y : A) → set (xs ++ x ∷ []) (length xs) y ≡ xs ++ y ∷ []
set_last [] x y = refl
set_last (z ∷ xs) x y = ap (λ t. z ∷ t) (set_last xs x y)

-- the frame that is read last
pub at_last : (stack : List Frame) (x : Frame) (n : ℕ) → 0 < length stack → n ≡ length stack - 1 → slice_get stack n ≡ Some x → (lower : List Frame) × (stack ≡ lower ++ x ∷ [])
at_last stack x n h e r =
    let t = last_frame stack h in
    let same : t.1 ≡ x = same_Some t.1 x (sym (get_last t.0 [] t.1) ∙ ap (slice_get (t.0 ++ t.1 ∷ [])) (omega (arith, e, ap length t.2, length_push t.0 t.1)) ∙ ap (λ s. slice_get s n) (sym t.2) ∙ r) in
    (t.0, t.2 ∙ ap (λ y. t.0 ++ y ∷ []) same)

pub one_last : (stack a b : List Frame) (x y : Frame) → stack ≡ a ++ x ∷ [] → stack ≡ b ++ y ∷ [] → (a ≡ b) × (x ≡ y)
one_last stack a b x y d e = go a b (sym d ∙ e)
  where
    go : (a b : List Frame) → a ++ x ∷ [] ≡ b ++ y ∷ [] → (a ≡ b) × (x ≡ y)
    go [] [] e = (refl, cc)
    go [] (z ∷ []) e = absurd (cc)
    go [] (z ∷ w ∷ b) e = absurd (cc)
    go (z ∷ []) [] e = absurd (cc)
    go (z ∷ w ∷ a) [] e = absurd (cc)
    go (z ∷ a) (w ∷ b) e = let h : z ≡ w = cc in let t : a ++ x ∷ [] ≡ b ++ y ∷ [] = cc in let r = go a b t in (cc (h, r.0), r.1)

-- what is kept of the graph's own, with one more node entered
pub keeps_more : {N D E : Type 0} (Valid : ℕ → N → Type 0) (Carries : N → D → List E → Type 0) (table table' : List N) (found : List (Found D E)) (f : Found D E) (at : N) → Keeps Valid Carries table found
    → ((i : ℕ) (h : N) → slice_get table i ≡ Some h → slice_get table' i ≡ Some h) → slice_get table' f.index ≡ Some at → Carries at f.item (map (λ (l : Link E). l.label) f.links)
    → (hs : List N) → ((i : ℕ) (h : N) → slice_get table' i ≡ Some h → slice_get table i ≡ Some h ⊎ Contains hs h) → (depth : ℕ) × (depth ≤ length found) × AllAt (Valid (depth + 1)) hs
    → Keeps Valid Carries table' (found ++ f ∷ [])
keeps_more Valid Carries table table' found f at k kept here own hs among next = record { valid = λ i h e. valid i h (among i h e); carries = λ n x e. carries n x (get_push found f x n e) }
  where
    valid : (i : ℕ) (h : _) → slice_get table i ≡ Some h ⊎ Contains hs h → (depth : ℕ) × (depth ≤ length (found ++ f ∷ [])) × Valid depth h
    valid i h (inl e) = let t = k.valid i h e in (t.0, omega (arith, t.1, length_push found f), t.2)
    valid i h (inr c) = let j = place hs h c in (next.0 + 1, omega (arith, next.1, length_push found f), next.2 j.0 h j.1)

    carries : (n : ℕ) (x : Found _ _) → slice_get found n ≡ Some x ⊎ ((n ≡ length found) × (f ≡ x)) → (h : _) × (slice_get table' x.index ≡ Some h) × Carries h x.item (map (λ (l : Link _). l.label) x.links)
    carries n x (inl e) = let t = k.carries n x e in (t.0, kept x.index t.0 t.1, t.2)
    carries n x (inr e) = (at, ap (λ (y : Found _ _). slice_get table' y.index) (sym e.1) ∙ here, subst (λ (y : Found _ _). Carries at y.item (map (λ (l : Link _). l.label) y.links)) e.1 own)

-- the first node of a table
pub first_node : {N : Type 0} (old new : List N) (h : N) → old ≡ [] → IsWith old h new → new ≡ h ∷ []
first_node old new h e (inl w) = absurd (omega (arith, ap length e, w.0.1))
first_node old new h e (inr w) = w.1 ∙ ap (λ x. x ++ h ∷ []) e

pub keeps_start : {N D E : Type 0} (Valid : ℕ → N → Type 0) (Carries : N → D → List E → Type 0) (h : N) → Valid 0 h → Keeps {D = D} {E = E} Valid Carries (h ∷ []) []
keeps_start {N} {D} {E} Valid Carries h k = record { valid = valid; carries = λ n f e. absurd (none-some f e) }
  where
    valid : (i : ℕ) (x : N) → slice_get (h ∷ []) i ≡ Some x → (depth : ℕ) × (depth ≤ length {A = Found D E} []) × Valid depth x
    valid zero x e = (0, omega arith, subst (Valid 0) (same_Some h x e) k)
    valid (suc i) x e = absurd (none-some x e)
