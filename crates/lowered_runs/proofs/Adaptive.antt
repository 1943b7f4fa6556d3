-- What an Adaptive run does from the place of a configuration.
use Rattle.std.proofs.Common.{◌≡◌, ◌⊎◌, inl, inr, ℕ, zero, suc, ◌+◌, ◌<◌, ◌≤◌, ⊎_elim, true, Some, List, [], ◌∷◌, ◌++◌, length, refl, sym, ap, ◌∙◌, subst, arith, append-nil}
use Rattle.std.specs.Prelude.{⊤, slice_get}
use Rattle.ir_module.specs.declared.tree.Module.{Module}
use Rattle.ir_values.specs.declared.int.Width.{Width}
use Rattle.ir_values.specs.Int.{IntValue}
use Rattle.qir_meaning.specs.code.Steps.{Whole}
use Rattle.qir_meaning.specs.State.{State}
use Rattle.qir_meaning.specs.code.Simulation.{GoesBy}
use Rattle.kept_items.specs.declared.item.Item.{Item}
use Rattle.kept_items.specs.declared.item.Item.TheVariants as item
use Rattle.kept_items.specs.declared.target.Caps.{Caps}
use Rattle.kept_items.specs.declared.target.Target.TheVariants.{Adaptive}
use Rattle.kept_items.specs.declared.val.Dyn.{Dyn}
use Rattle.kept_items.specs.Items.{Did, Gave, Stopped, Senseless, did, dynamic}
use Rattle.residue.specs.declared.parts.Line.{Line}
use Rattle.residue.specs.declared.parts.Line.TheVariants as line
use Rattle.residue.specs.declared.parts.Part.{Part}
use Rattle.residue.specs.declared.parts.Residue.{Residue}
use Rattle.residue.specs.Printed.{printed, words}
use Rattle.residue.specs.Scopes.{item_gives}
use Rattle.printed_residue.specs.Laws.{EndsAfter, IsGood, ItemDoes, ItemsRun, MarksPass}
use Rattle.printed_residue.specs.Places.{AtLine, Keeps, Takes, is_in, scope_at, ticks}
use Rattle.printed_residue.proofs.Lines.{distinct}
use Rattle.printed_residue.proofs.Naming.{before, item-named, last_name, scope-early}
use Rattle.fused_parts.specs.declared.numbers.Numbers.{Numbers}
use Rattle.fused_parts.specs.Nodes.{gives}
use Rattle.fused_parts.specs.Parts.{dyn, in_row, number_at, renamed_item}
use Rattle.lowered_runs.proofs.Lookups.{length-end, look-end, look-front, nothing, put-elsewhere, put-here, put_at}
use Rattle.lowered_runs.proofs.Renaming.{GivesMany, ItemBelow, OneOrNone, Same, did-same, few-ticks, gives-many, none, one, one-or-none, some-ticks}

last-up : (free : ℕ) (x : Item) → free ≤ last_name free x
last-up free (item.Equal d v u) = omega arith
last-up free (item.Binary d o flags w a b) = omega arith
last-up free (item.Icmp d p w a b) = omega arith
last-up free (item.Convert d c w a to) = omega arith
last-up free (item.Select d w c a b) = omega arith
last-up free (item.Read d v) = omega arith
last-up free (item.Operation name args) = omega arith
last-up free (item.Output c args) = omega arith

-- behind an item that gives so many values
abbrev pub behind : ℕ → Numbers → Numbers
behind k n = record { free = n.free + k; mine = n.mine ++ in_row n.free k }

-- a line that is passed without a step
pub data IsMark : Line → Type 0 where
  made : (j : ℕ) → IsMark (line.Made j)
  freed : (j : ℕ) → IsMark (line.Freed j)

abbrev pub StandFrom : List Line → ℕ → List Line → Type 0
StandFrom lines q [] = ⊤
StandFrom lines q (y ∷ ys) = (slice_get lines q ≡ Some y) × StandFrom lines (suc q) ys

abbrev pub AllMarks : List Line → Type 0
AllMarks [] = ⊤
AllMarks (y ∷ ys) = IsMark y × AllMarks ys

module _ (r : Residue) (caps : Caps) (good : IsGood r (Adaptive caps)) (items : ItemsRun) (marks : MarksPass) where
  abbrev pub l : Module
  l = printed r (Adaptive caps)

  -- the run stands at this line; the Dynamic values ds have these numbers
  pub record At (m : ℕ) (p : Part) (q : ℕ) (n : Numbers) (ds : List IntValue) (st : State) (v : Whole) : Type 0 where
    pub values : List IntValue
    pub at : AtLine r m p q values st v
    pub many : length n.mine ≡ length ds
    pub same : Same n.mine values ds (length ds)
    pub below : (k : ℕ) → k < length ds → (number_at n.mine (dyn k)).0 < n.free

  module _ (m : ℕ) (p : Part) (is_part : slice_get r.parts m ≡ Some p) (q : ℕ) (n : Numbers) (ds : List IntValue) (st : State) (v : Whole) (h : At m p q n ds st v) where
    abbrev mine : List Dyn
    mine = n.mine

    -- what the run does at an item
    abbrev pub Does : Item → Did → Type 0
    Does i (Gave new st') = (v' : Whole) × (steps : ℕ) × (1 ≤ steps) × (steps ≤ 3) × GoesBy l steps v v' × At m p (suc q) (behind (gives (Some i)) n) (ds ++ new) st' v'
    Does i (Stopped stop st') = EndsAfter r l 3 v (Stopped stop st')
    Does i Senseless = ⊤

    module _ (i : Item) (is_line : slice_get p.lines q ≡ Some (line.Item (renamed_item mine n.free i))) where
      abbrev x : Item
      x = renamed_item mine n.free i

      -- the number that is given is new
      fresh : (w : Width) → item_gives x ≡ (n.free, w) ∷ [] → (d : ℕ) → is_in (scope_at p q) d ≡ true → d ≡ n.free → ⊥
      fresh w g d s e =
          let a = scope-early r m p is_part q d s in
          let b = item-named r m p is_part (distinct r (Adaptive caps) good.valid) q x (n.free, w) is_line g in
          let c = last-up (length (before r m p is_part q)) x in
          let f = ap (words r).name_of e in
          absurd (omega (arith, a, b, c, f))

      no-more : (new : List IntValue) (st' : State) → length new ≡ 0 → item_gives x ≡ [] → ItemDoes r l m p q x h.values v (Gave new st')
          → (v' : Whole) × GoesBy l (ticks x) v v' × At m p (suc q) (behind 0 n) (ds ++ new) st' v'
      no-more [] st' e g does =
          let go = does h.values (λ d s. refl) (subst (λ gs. Takes gs [] h.values) (sym g) tt) in (
            go.0,
            go.1,
            record {
              values = h.values;
              at = go.2;
              many = ap length (append-nil mine) ∙ h.many ∙ sym (ap length (append-nil ds));
              same = subst (λ ms. Same ms h.values (ds ++ []) (length (ds ++ []))) (sym (append-nil mine)) (subst (λ es. Same mine h.values es (length es)) (sym (append-nil ds)) h.same);
              below = λ k lt. subst (λ ms. (number_at ms (dyn k)).0 < n.free + 0) (sym (append-nil mine)) (let b = h.below k (subst (λ es. k < length es) (append-nil ds) lt) in omega (arith, b));
            },
          )
      no-more (w ∷ new) st' e g does = absurd (omega (arith, e))

      one-more : (new : List IntValue) (st' : State) → length new ≡ 1 → (w : Width) → item_gives x ≡ (n.free, w) ∷ [] → ItemDoes r l m p q x h.values v (Gave new st')
          → (v' : Whole) × GoesBy l (ticks x) v v' × At m p (suc q) (behind 1 n) (ds ++ new) st' v'
      one-more [] st' e w g does = absurd (omega (arith, e))
      one-more (i' ∷ i'' ∷ new) st' e w g does = absurd (omega (arith, e))
      one-more (i' ∷ []) st' e w g does =
          let rs' : List IntValue = put_at n.free i' h.values in
          let keeps : Keeps (scope_at p q) h.values rs' = λ d s. put-elsewhere n.free i' h.values d (fresh w g d s) in
          let go = does rs' keeps (subst (λ gs. Takes gs (i' ∷ []) rs') (sym g) (put-here n.free i' h.values, tt)) in (
            go.0,
            go.1,
            record {
              values = rs';
              at = go.2;
              many = (let a = length-end mine (dyn n.free) in let b = length-end ds i' in let c = h.many in omega (arith, a, b, c));
              same = λ k lt. by-last k (omega-split k (length ds) (subst (λ z. k < z) (length-end ds i') lt));
              below = λ k lt. below-last k (omega-split k (length ds) (subst (λ z. k < z) (length-end ds i') lt));
            },
          )
        where
          omega-split : (k z : ℕ) → k < suc z → (k < z) ⊎ (k ≡ z)
          omega-split zero zero lt = inr refl
          omega-split zero (suc z) lt = inl (omega arith)
          omega-split (suc k) zero lt = absurd (omega (arith, lt))
          omega-split (suc k) (suc z) lt = ⊎_elim (λ a. inl (omega (arith, a))) (λ e. inr (ap suc e)) (omega-split k z (omega (arith, lt)))

          by-last : (k : ℕ) → (k < length ds) ⊎ (k ≡ length ds) → dynamic (put_at n.free i' h.values) (number_at (mine ++ dyn n.free ∷ []) (dyn k)) ≡ dynamic (ds ++ i' ∷ []) (dyn k)
          by-last k (inl lt) =
              ap (dynamic (put_at n.free i' h.values)) (look-front mine (dyn n.free ∷ []) k (dyn 0) (let c = h.many in omega (arith, lt, c)))
              ∙ put-elsewhere n.free i' h.values (number_at mine (dyn k)).0 (λ e. let b = h.below k lt in absurd (omega (arith, b, e)))
              ∙ h.same k lt ∙ sym (look-front ds (i' ∷ []) k nothing lt)
          by-last k (inr e) =
              ap (dynamic (put_at n.free i' h.values)) (look-end mine (dyn n.free) k (dyn 0) (let c = h.many in omega (arith, e, c)))
              ∙ put-here n.free i' h.values ∙ sym (look-end ds i' k nothing e)

          below-last : (k : ℕ) → (k < length ds) ⊎ (k ≡ length ds) → (number_at (mine ++ dyn n.free ∷ []) (dyn k)).0 < n.free + 1
          below-last k (inl lt) =
              let e = ap (λ (d : Dyn). d.0) (look-front mine (dyn n.free ∷ []) k (dyn 0) (let c = h.many in omega (arith, lt, c))) in
              let b = h.below k lt in
              omega (arith, e, b)
          below-last k (inr s) =
              let e = ap (λ (d : Dyn). d.0) (look-end mine (dyn n.free) k (dyn 0) (let c = h.many in omega (arith, s, c))) in
              omega (arith, e)

      by-did : (o : Did) → GivesMany (gives (Some i)) o → ItemDoes r l m p q x h.values v o → Does i o
      by-did (Gave new st') many does = by-number (one-or-none mine n.free i)
        where
          by-number : OneOrNone mine n.free i → Does i (Gave new st')
          by-number (none z g) =
              let go = no-more new st' (many ∙ z) g does in
              (go.0, ticks x, some-ticks x, few-ticks x, go.1, subst (λ k. At m p (suc q) (behind k n) (ds ++ new) st' go.0) (sym z) go.2)
          by-number (one z w g) =
              let go = one-more new st' (many ∙ z) w g does in
              (go.0, ticks x, some-ticks x, few-ticks x, go.1, subst (λ k. At m p (suc q) (behind k n) (ds ++ new) st' go.0) (sym z) go.2)
      by-did (Stopped stop st') many (j, lt, before, goes, ends) = (j, (let f = few-ticks x in omega (arith, lt, f)), before, goes, ends)
      by-did Senseless many does = tt

      pub item-done : ItemBelow (length ds) i → Does i (did ds st i)
      item-done below =
          by-did (did ds st i) (gives-many ds st i)
          (subst (ItemDoes r l m p q x h.values v) (did-same mine h.values ds (length ds) h.same st n.free i below)
          (items r caps m p q x h.values st v good is_part is_line h.at))

  -- where nothing is left nothing happens
  pub nothing-done : (m : ℕ) (p : Part) (q : ℕ) (n : Numbers) (ds : List IntValue) (st : State) (v : Whole) → At m p q n ds st v → At m p q (behind 0 n) (ds ++ []) st v
  nothing-done m p q n ds st v h = record {
    values = h.values;
    at = h.at;
    many = ap length (append-nil n.mine) ∙ h.many ∙ sym (ap length (append-nil ds));
    same = subst (λ ms. Same ms h.values (ds ++ []) (length (ds ++ []))) (sym (append-nil n.mine)) (subst (λ es. Same n.mine h.values es (length es)) (sym (append-nil ds)) h.same);
    below = λ k lt. subst (λ ms. (number_at ms (dyn k)).0 < n.free + 0) (sym (append-nil n.mine)) (let b = h.below k (subst (λ es. k < length es) (append-nil ds) lt) in omega (arith, b));
  }

  -- marks are passed without a step
  pub marks-passed : (m : ℕ) (p : Part) (q : ℕ) (n : Numbers) (ds : List IntValue) (st : State) (v : Whole) (ys : List Line)
      → AllMarks ys → StandFrom p.lines q ys → At m p q n ds st v → At m p (q + length ys) n ds st v
  marks-passed m p q n ds st v [] all stand h = subst (λ z. At m p z n ds st v) (let z : q ≡ q + 0 = omega arith in z) h
  marks-passed m p q n ds st v (y ∷ ys) all stand h =
      subst (λ z. At m p z n ds st v) (let z : suc q + length ys ≡ q + suc (length ys) = omega arith in z)
      (marks-passed m p (suc q) n ds st v ys all.1 stand.1 (record {
        values = h.values;
        at = by-mark y all.0 stand.0;
        many = h.many;
        same = h.same;
        below = h.below;
      }))
    where
      by-mark : (y : Line) → IsMark y → slice_get p.lines q ≡ Some y → AtLine r m p (suc q) h.values st v
      by-mark y (made j) e = marks r m p q j h.values st v (inl e) h.at
      by-mark y (freed j) e = marks r m p q j h.values st v (inr e) h.at
