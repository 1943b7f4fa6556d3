-- A search from its start to its verdict: each edge leads to a node that is known, or to a new one, which is entered.
use Rattle.std.proofs.Common.{◌≡◌, ◌∙◌, ℕ, zero, suc, ◌+◌, ◌<◌, ◌≤◌, Bool, true, false, List, [], ◌∷◌, ◌++◌, length, Some, refl, sym, ap, subst, arith}
use Rattle.std.specs.Prelude.{nat_le, slice_get, Contains}
use Rattle.std.proofs.lemmas.Option.{none-some, same_Some}
use mathlib.Core.Logic.{◌⊎◌, inl, inr}
use Rattle.path_search.specs.Paths.{Bad, Next, Search, Turn, successors, IsEnd, IsSimple}
use Rattle.path_search.specs.Verdict.{IsBack, Refuses}
use Rattle.path_search.specs.declared.reason.Reason.{Reason}
use Rattle.path_search.specs.declared.reason.Reason.TheVariants.{OverBudget, BadNode, LeadsBack}
use Rattle.path_search.specs.code.Frontier.{Frontier, Checked}
use Rattle.path_search.proofs.Frontier.{arrives, begins, ends_all, finds, get_some, get_within, leaves_off, listed, opens, passes, place}
use Rattle.path_search.proofs.Verdict.{accepts, checks_more, checks_none, longest, refuses_back, refuses_bad, refuses_over}
use Rattle.path_search.proofs.Walks.{end_push, one_end, simple_none}
use Rattle.search_verdicts.proofs.Returning.{simple-behind}
use Rattle.search_verdicts.specs.Laws.{IsAccepted, IsRefused}
use Rattle.search_verdicts.proofs.Telling.{tell-back, tell-leads}

pub length-push : {A : Type 0} (xs : List A) (x : A) → length (xs ++ x ∷ []) ≡ suc (length xs)
length-push [] x = refl
length-push (y ∷ xs) x = ap suc (length-push xs x)

module _ {N K : Type 0} (s : Search N K) (same : (a b : N) → (a ≡ b) ⊎ (a ≡ b → ⊥)) where
  -- where a search comes to from a node x, to which `cur` leads, when at least these paths were found
  data Comes (cur : List ℕ) (x : N) (ps : List (List ℕ)) : Type 0 where
    refused : (g : N) (r : Reason K) → Refuses s g r → Comes cur x ps
    left : (k : ℕ) (qs : List (List ℕ)) → Frontier s (cur ++ k ∷ []) qs → Checked s qs → length (successors s x) ≤ k → length ps ≤ length qs → Comes cur x ps

  fewer : (cur : List ℕ) (x : N) (ps qs : List (List ℕ)) → length ps ≤ length qs → Comes cur x qs → Comes cur x ps
  fewer cur x ps qs h (refused g r t) = refused g r t
  fewer cur x ps qs h (left k rs f c l m) = left k rs f c l (omega (arith, h, m))

  abbrev IsNew : List (List ℕ) → N → Type 0
  IsNew ps h = (p : List ℕ) → Contains ps p → IsEnd s p h → ⊥

  -- at most so many more nodes are entered
  abbrev Enters : ℕ → Type 0
  Enters fuel =
      (w : List ℕ) (h : N) (ps : List (List ℕ))
      → IsSimple s w h
      → Frontier s w ps
      → Checked s ps
      → IsNew ps h
      → s.budget ≤ length ps + fuel
      → Comes w h ps

  -- An edge of x leads to a node that is known, or to a new one, which is entered. Then the further edges are followed.
  follow : (fuel : ℕ) → Enters fuel → (cur : List ℕ) (x : N) (k : ℕ) (ps : List (List ℕ)) → IsSimple s cur x → Frontier s (cur ++ k ∷ []) ps → Checked s ps → s.budget ≤ length ps + fuel
      → ((qs : List (List ℕ)) → Frontier s (cur ++ suc k ∷ []) qs → Checked s qs → s.budget ≤ length qs + fuel → Comes cur x qs)
      → Comes cur x ps
  follow fuel enter cur x k ps hx f c b further = by (nat_le (length (successors s x)) k) refl
    where
      next : (qs : List (List ℕ)) → Frontier s (cur ++ suc k ∷ []) qs → Checked s qs → length ps ≤ length qs → Comes cur x ps
      next qs g d m = fewer cur x ps qs m (further qs g d (omega (arith, b, m)))

      behind : (h : N) → IsEnd s (cur ++ k ∷ []) h → Comes (cur ++ k ∷ []) h ps → Comes cur x ps
      behind h e (refused g r t) = refused g r t
      behind h e (left j qs g d m n) = next qs (leaves_off s cur k j h qs g e m) d n

      edge : (h : N) → slice_get (successors s x) k ≡ Some h → Comes cur x ps
      edge h e = elim (tell-leads s same ps h) [
        | inl t ↦ next ps (passes s same cur k x h ps f hx e t.path t.listed t.ends) c (omega arith)
        | inr new ↦ behind h (end_push s cur x h k hx.ends e) (enter (cur ++ k ∷ []) h ps (arrives s cur k x h ps f hx e new) f c new b)
      ]

      by : (all : Bool) → nat_le (length (successors s x)) k ≡ all → Comes cur x ps
      by true e = left k ps f c (grind (arith, e)) (omega arith)
      by false e = let t = get_some (successors s x) k (grind (arith, e)) in edge t.0 t.1

  -- the edges of x from number k on
  along : (fuel : ℕ) → Enters fuel → (edges : ℕ) (cur : List ℕ) (x : N) (k : ℕ) (ps : List (List ℕ)) → IsSimple s cur x → Frontier s (cur ++ k ∷ []) ps → Checked s ps
      → s.budget ≤ length ps + fuel → length (successors s x) ≤ k + edges → Comes cur x ps
  along fuel enter zero cur x k ps hx f c b l = left k ps f c (omega (arith, l)) (omega arith)
  along fuel enter (suc edges) cur x k ps hx f c b l =
      follow fuel enter cur x k ps hx f c b (λ qs g d m. along fuel enter edges cur x (suc k) qs hx g d m (omega (arith, l)))

  -- a new node is refused, or its edges are followed
  opened : (fuel : ℕ) → Enters fuel → Enters (suc fuel)
  opened fuel enter w h ps hw f c new b = within (nat_le s.budget (length ps)) refl
    where
      onward-from : length ps < s.budget → ((k : K) → s.turn h ≡ Bad k → ⊥) → (IsBack s w h → ⊥) → Comes w h ps
      onward-from l good straight =
          fewer w h ps (ps ++ w ∷ []) (omega (arith, length-push ps w))
          (along fuel enter (length (successors s h)) w h 0 (ps ++ w ∷ []) hw (finds s w ps h f hw new)
          (checks_more s ps w h c hw.ends l good straight) (omega (arith, b, length-push ps w)) (omega arith))

      turn : length ps < s.budget → (t : Turn N K) → s.turn h ≡ t → Comes w h ps
      turn l (Bad k) e = refused h (BadNode k) (refuses_bad s same w ps h f c hw new k l e)
      turn l (Next ns) e = elim (tell-back s same w h) [
        | inl back ↦ refused h LeadsBack (refuses_back s same w ps h f c hw new l back)
        | inr straight ↦ onward-from l (λ k g. let t : Next ns ≡ Bad k = sym e ∙ g in cc) straight
      ]

      within : (over : Bool) → nat_le s.budget (length ps) ≡ over → Comes w h ps
      within true e = refused h OverBudget (refuses_over s same w ps h f c hw new (grind (arith, e, c.budget)))
      within false e = turn (grind (arith, e)) (s.turn h) refl

  enter : (fuel : ℕ) → Enters fuel
  enter zero w h ps hw f c new b = refused h OverBudget (refuses_over s same w ps h f c hw new (omega (arith, b, c.budget)))
  enter (suc fuel) w h ps hw f c new b = opened fuel (enter fuel) w h ps hw f c new b

  -- the ends of paths
  record Ends (ps : List (List ℕ)) : Type 0 where
    nodes : List N
    number : length nodes ≡ length ps
    ends : (i : ℕ) (p : List ℕ) (g : N) → slice_get ps i ≡ Some p → slice_get nodes i ≡ Some g → IsEnd s p g

  ends-of : (ps : List (List ℕ)) → ((i : ℕ) (p : List ℕ) → slice_get ps i ≡ Some p → (g : N) × IsEnd s p g) → Ends ps
  ends-of [] all = record { nodes = []; number = refl; ends = λ i p g e f. absurd (none-some p e) }
  ends-of (q ∷ ps) all = more (all 0 q refl) (ends-of ps (λ i p e. all (suc i) p e))
    where
      more : (g : N) × IsEnd s q g → Ends ps → Ends (q ∷ ps)
      more first rest = record { nodes = first.0 ∷ rest.nodes; number = ap suc rest.number; ends = ends }
        where
          ends : (i : ℕ) (p : List ℕ) (g : N) → slice_get (q ∷ ps) i ≡ Some p → slice_get (first.0 ∷ rest.nodes) i ≡ Some g → IsEnd s p g
          ends zero p g e f = subst (λ p. IsEnd s p g) (same_Some q p e) (subst (IsEnd s q) (same_Some first.0 g f) first.1)
          ends (suc i) p g e f = rest.ends i p g e f

  judged : Comes [] s.start [] → IsAccepted s ⊎ IsRefused s
  judged (refused g r t) = inr (record { at = g; reason = r; refuses = t })
  judged (left k qs f c l m) =
      inl (record {
        accepts = accepts s same k qs f c l;
        nodes = t.nodes;
        lists = record { paths = qs; opening = opens s (k ∷ []) qs f; number = t.number; ends = t.ends; longest = longest s k qs f l };
        every = every;
      })
    where
      t : Ends qs
      t = ends-of qs (λ i p e. let simple = f.simple p (listed qs i p e) in (simple.0, simple.1.ends))

      every : (p : List ℕ) (g : N) → IsEnd s p g → (i : ℕ) × (slice_get t.nodes i ≡ Some g)
      every p g e =
          let simple = simple-behind s same p [] s.start g (simple_none s) e in
          let found = f.covers simple.path g simple.simple (ends_all s k l simple.path g simple.simple) in
          let at = place qs found.path found.listed in
          let node = get_some t.nodes at.0 (omega (arith, t.number, get_within qs at.0 found.path at.1)) in
          let one = one_end s s.start node.0 g found.path (t.ends at.0 found.path node.0 at.1 node.1) found.ends in
          (at.0, node.1 ∙ ap Some one)

  pub verdict : IsAccepted s ⊎ IsRefused s
  verdict = judged (enter s.budget [] s.start [] (simple_none s) (begins s) (checks_none s) (λ p c e. omega (arith, c.1)) (omega arith))
