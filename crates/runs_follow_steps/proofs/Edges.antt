-- Along an edge the phis take their values on both sides.
use Rattle.std.proofs.Common.{◌≡◌, ℕ, zero, suc, ◌<◌, ◌≤◌, Bool, true, false, Option, None, Some, List, [], ◌∷◌, ◌++◌, length, map, refl, sym, ap, ◌∙◌, subst, arith, append-nil}
use Rattle.std.specs.Prelude.{◌==◌, ⊤, if◌then◌else◌, ◌||◌, ◌&&◌, slice_get, slice_set}
use Rattle.ir_module.specs.declared.places.Point.{Point}
use Rattle.ir_module.specs.declared.tree.Block.{Block}
use Rattle.ir_module.specs.declared.tree.Operand.{Operand}
use Rattle.ir_module.specs.declared.tree.Phi.{Phi}
use Rattle.ir_values.specs.declared.ids.BlockId.{BlockId}
use Rattle.ir_values.specs.declared.ids.LocalId.{LocalId}
use Rattle.ir_values.specs.declared.int.Width.{Width}
use Rattle.ir_values.specs.declared.value.Value.{Value}
use Rattle.ir_values.specs.declared.value.Value.TheVariants as value
use Rattle.ir_values.specs.Int.{IntValue}
use Rattle.qir_meaning.specs.Effects.{is_one}
use Rattle.qir_meaning.specs.Moves.{given, entry_for, phis_take, block_in, arrives, leads_to, jump, with_int, target_of}
use Rattle.qir_meaning.specs.State.{Env, State, value_at, value_of}
use Rattle.qir_meaning.specs.code.Steps.{Waiting, Whole, Tick, tick_of}
use Rattle.kept_items.specs.declared.item.Choice.{Choice}
use Rattle.kept_items.specs.declared.item.Choice.TheVariants.{One, Branch, Switch}
use Rattle.kept_items.specs.declared.target.Kind.TheVariants as kind
use Rattle.kept_items.specs.declared.val.Val.{Val}
use Rattle.kept_items.specs.declared.val.Val.TheVariants.{Known, Dynamic}
use Rattle.kept_items.specs.Items.{case_of, chosen, dynamic, valued}
use Rattle.kept_items.specs.Targets.{has_ints, has_switch}
use Rattle.static_steps.specs.declared.turn.Move.{Move}
use Rattle.static_steps.specs.declared.turn.Turn.TheVariants.{Bad}
use Rattle.static_steps.specs.Edges.{all_along, along, along_to, arrived, branch_turn, case_values, edges_to, edges_turn, phis_bring, switch_turn, targets}
use Rattle.ir_values.specs.Values.{is_bit}
use Rattle.static_steps.specs.Settings.{Setting, at_point}
use Rattle.static_steps.specs.Values.{Names, look, put_some, val_of}
use Rattle.runs_follow_steps.specs.Describes.{Fit, Fits, at_name, locals_in}
use Rattle.runs_follow_steps.specs.Meets.{Reached, TurnMeets}
use Rattle.runs_follow_steps.proofs.Bound.{all-wait-more, reached, whole}
use Rattle.runs_follow_steps.proofs.Flows.{EdgeFlows, InRange, IsNone, LiveEntries, LiveEntry}
use Rattle.runs_follow_steps.proofs.Frames.{fit-more, operand-fits}
use Rattle.runs_follow_steps.proofs.Looks.{same-numbers, other-numbers, look-put, look-put-other, look-dropped, look-drop-other, look-keep, set-here, set-elsewhere, set-long}

put-some-here : (ds : List IntValue) (r : LocalId) (o : Option Val) (u : Option Value) (ns : Names Val) → Fit ds o u → Fit ds (look r (put_some r o ns)) u
put-some-here ds r None u ns h = subst (λ a. Fit ds a u) (sym (look-dropped r ns)) h
put-some-here ds r (Some a) u ns h = subst (λ a. Fit ds a u) (sym (look-put r a ns)) h

put-some-other : (r y : LocalId) (o : Option Val) (ns : Names Val) → (r.0 == y.0) ≡ false → look y (put_some r o ns) ≡ look y ns
put-some-other r y None ns h = look-drop-other r y ns h
put-some-other r y (Some a) ns h = look-put-other r y a ns h

module _ (s : Setting) (ds : List IntValue) (env : Env) (us : List Waiting) (st : State) (fits : Fits s.m s.live ds s.w env us st) (counted : s.fresh.0 ≡ length ds) where
  abbrev here : Point
  here = s.w.top.at

  abbrev v : Whole
  v = whole s.w env us st

  -- what the phis bring is what they take
  abbrev Brings : Point → Option (Names Val) → Option Env → Type 0
  Brings q None o = ⊤
  Brings q (Some ns) o = (e : Env) × (o ≡ Some e) × ((y : LocalId) → s.live q y ≡ true → Fit ds (look y ns) (at_name e y)) × (locals_in s.m here.func ≤ length e)

  phis-bring : (q : Point) (phis : List Phi) (ns : Names Val) (e : Env) → LiveEntries s.live here phis here.block → InRange s.m here.func phis → ((y : LocalId) → s.live q y ≡ true → IsNone phis y → Fit ds (look y ns) (at_name e y)) → locals_in s.m here.func ≤ length e
      → Brings q (phis_bring phis here.block s.w.top.names ns) (phis_take phis here.block env e)
  phis-bring q [] ns e l r h le = (e, refl, λ y a. h y a tt, le)
  phis-bring q (phi ∷ phis) ns e l r h le = by-entry (λ ns' e' h' le'. phis-bring q phis ns' e' l.1 r.1 h' le') (entry_for phi.entries here.block) l.0
    where
      x : LocalId
      x = phi.result

      by-entry : ((ns' : Names Val) (e' : Env) → ((y : LocalId) → s.live q y ≡ true → IsNone phis y → Fit ds (look y ns') (at_name e' y)) → locals_in s.m here.func ≤ length e' → Brings q (phis_bring phis here.block s.w.top.names ns') (phis_take phis here.block env e')) → (o : Option Operand) → LiveEntry s.live here o → Brings q (given o (λ a. phis_bring phis here.block s.w.top.names (put_some x (val_of s.w.top.names a) ns))) (given o (λ a. phis_take phis here.block env (slice_set e x.0 (value_of env a))))
      by-entry ih None k = tt
      by-entry ih (Some a) k = ih (put_some x (val_of s.w.top.names a) ns) (slice_set e x.0 (value_of env a)) (λ y b n. by-name y b n (x.0 == y.0) refl) (let l = set-long e x.0 (value_of env a) in omega (arith, l, le))
        where
          by-name : (y : LocalId) → s.live q y ≡ true → IsNone phis y → (c : Bool) → (x.0 == y.0) ≡ c → Fit ds (look y (put_some x (val_of s.w.top.names a) ns)) (at_name (slice_set e x.0 (value_of env a)) y)
          by-name y b n true c =
              let lt : x.0 < length e = (let z = r.0 in omega (arith, z, le)) in
              subst (λ k. Fit ds (look (record { 0 = k }) (put_some x (val_of s.w.top.names a) ns)) (at_name (slice_set e x.0 (value_of env a)) (record { 0 = k }))) (same-numbers x.0 y.0 c)
              (subst (λ o. Fit ds (look x (put_some x (val_of s.w.top.names a) ns)) (value_at o)) (sym (set-here e x.0 (value_of env a) lt)) (put-some-here ds x (val_of s.w.top.names a) (value_of env a) ns (operand-fits s.live s.m ds s.w.top env fits.top a k)))
          by-name y b n false c =
              subst (λ o. Fit ds o (at_name (slice_set e x.0 (value_of env a)) y)) (sym (put-some-other x y (val_of s.w.top.names a) ns c)) (subst (λ o. Fit ds (look y ns) (value_at o)) (sym (set-elsewhere e x.0 y.0 (value_of env a) (other-numbers x.0 y.0 c))) (h y b (c, n)))

  abbrev ds' : List IntValue
  ds' = ds ++ []

  -- where the edge leads
  abbrev EdgeMeets : Tick → Option Move → Type 0
  EdgeMeets tk None = ⊤
  EdgeMeets tk (Some mv) = Reached s.m s.live ds' mv tk st

  edge-arrives : (b : BlockId) (to : Block) (o : Option (Names Val)) (p : Option Env) → Brings (record { func = here.func; block = b; index = length to.phis }) o p → EdgeMeets (tick_of v (arrives s.m here env st b to p)) (arrived s b to o)
  edge-arrives b to None p h = tt
  edge-arrives b to (Some ns) p h =
      let q : Point = record { func = here.func; block = b; index = length to.phis } in
      reached s ds env us st fits counted ds' (at_point s q ns) h.0 us st st _
      (ap (λ o. tick_of v (arrives s.m here env st b to o)) h.1)
      (record {
        top = record { names = λ y l. subst (λ o. Fit ds' o (at_name h.0 y)) (sym (look-keep (s.live q) y l ns)) (fit-more ds [] (look y ns) (at_name h.0 y) (h.2 y l)); long = h.3 };
        below = all-wait-more s ds env us st fits counted [] s.w.below us fits.below;
        allocated = fits.allocated;
        held = fits.held;
        returned = fits.returned;
      })
      refl

  edge-meets : (b : BlockId) → EdgeFlows s.m s.live here b → EdgeMeets (tick_of v (jump s.m here env st b)) (along s b)
  edge-meets b f = by-block (block_in s.m here.func b) refl
    where
      by-block : (o : Option Block) → block_in s.m here.func b ≡ o → EdgeMeets (tick_of v (leads_to s.m here env st b o)) (along_to s b o)
      by-block None e = tt
      by-block (Some to) e =
          edge-arrives b to (phis_bring to.phis here.block s.w.top.names s.w.top.names) (phis_take to.phis here.block env env)
          (phis-bring (record { func = here.func; block = b; index = length to.phis }) to.phis s.w.top.names env (f.reads to e) (f.range to e) (λ y l n. fits.top.names y (f.passes to y e l n)) fits.top.long)

  -- of several edges the one with this number
  abbrev Alongs : List BlockId → Option (List Move) → Type 0
  Alongs bs None = ⊤
  Alongs bs (Some mvs) = (k : ℕ) (b : BlockId) → slice_get bs k ≡ Some b → (mv : Move) × (slice_get mvs k ≡ Some mv) × (along s b ≡ Some mv)

  all-alongs : (bs : List BlockId) → Alongs bs (all_along s bs)
  all-alongs [] = λ k b h. absurd (none k b h)
    where
      none : (k : ℕ) (b : BlockId) → None ≡ Some b → ⊥
      none k b h = cc
  all-alongs (b ∷ bs) = first (along s b) refl (all_along s bs) (all-alongs bs)
    where
      first : (o : Option Move) → along s b ≡ o → (p : Option (List Move)) → Alongs bs p → Alongs (b ∷ bs) (given o (λ mv. given p (λ mvs. Some (mv ∷ mvs))))
      first None e p h = tt
      first (Some mv) e None h = tt
      first (Some mv) e (Some mvs) h = at-number
        where
          at-number : (k : ℕ) (c : BlockId) → slice_get (b ∷ bs) k ≡ Some c → (mv' : Move) × (slice_get (mv ∷ mvs) k ≡ Some mv') × (along s c ≡ Some mv')
          at-number zero c g = let q : b ≡ c = cc in (mv, refl, ap (along s) (sym q) ∙ e)
          at-number (suc k) c g = h k c g

  pub edges-meet : (bs : List BlockId) (c : Choice) (b : BlockId) → slice_get bs (chosen c ds') ≡ Some b → EdgeFlows s.m s.live here b → TurnMeets s.m s.live (tick_of v (jump s.m here env st b)) ds st (edges_to s bs c)
  edges-meet bs c b h f = by-moves (all_along s bs) (all-alongs bs)
    where
      by-moves : (o : Option (List Move)) → Alongs bs o → TurnMeets s.m s.live (tick_of v (jump s.m here env st b)) ds st (edges_turn s o c)
      by-moves None k = tt
      by-moves (Some mvs) k =
          let a = k (chosen c ds') b h in
          (a.0, a.1, subst (EdgeMeets (tick_of v (jump s.m here env st b))) a.2 (edge-meets b f))

  if-same : (i : IntValue) → (b c : BlockId) → slice_get (b ∷ c ∷ []) (if is_one i then 0 else 1) ≡ Some (if is_one i then b else c)
  if-same i b c = by-bit (is_one i)
    where
      by-bit : (x : Bool) → slice_get (b ∷ c ∷ []) (if x then 0 else 1) ≡ Some (if x then b else c)
      by-bit true = refl
      by-bit false = refl

  one-of : (b c : BlockId) → EdgeFlows s.m s.live here b → EdgeFlows s.m s.live here c → (x : Bool) → EdgeFlows s.m s.live here (if x then b else c)
  one-of b c f g true = f
  one-of b c f g false = g

  pub branch-meets : (a : Val) (b c : BlockId) → EdgeFlows s.m s.live here b → EdgeFlows s.m s.live here c
      → TurnMeets s.m s.live (tick_of v (with_int (valued ds a) (λ i. jump s.m here env st (if is_one i then b else c)))) ds st (branch_turn s a b c)
  branch-meets (Known (value.Int i)) b c f g = edges-meet ((if is_one i then b else c) ∷ []) One (if is_one i then b else c) refl (one-of b c f g (is_one i))
  branch-meets (Known p) b c f g = tt
  branch-meets (Dynamic d) b c f g =
      edges-meet (b ∷ c ∷ []) (Branch d) (if is_one (dynamic ds d) then b else c)
      (subst (λ D. slice_get (b ∷ c ∷ []) (if is_one (dynamic D d) then 0 else 1) ≡ Some (if is_one (dynamic ds d) then b else c)) (sym (append-nil ds)) (if-same (dynamic ds d) b c))
      (one-of b c f g (is_one (dynamic ds d)))

  pub targets-are : (cases : List (IntValue × BlockId)) (b : BlockId) → targets cases b ≡ map (λ c. c.1) cases ++ b ∷ []
  targets-are [] b = refl
  targets-are (c ∷ cases) b = ap (λ bs. c.1 ∷ bs) (targets-are cases b)

  target-at : (i : IntValue) (cases : List (IntValue × BlockId)) (b : BlockId) → slice_get (targets cases b) (case_of i (case_values cases)) ≡ Some (target_of i cases b)
  target-at i [] b = refl
  target-at i (c ∷ cases) b = by-bits (target-at i cases b) (c.0.bits == i.bits)
    where
      by-bits : slice_get (targets cases b) (case_of i (case_values cases)) ≡ Some (target_of i cases b) → (x : Bool)
          → slice_get (c.1 ∷ targets cases b) (if x then 0 else suc (case_of i (case_values cases))) ≡ Some (if x then c.1 else target_of i cases b)
      by-bits ih true = refl
      by-bits ih false = ih

  pub switch-meets : (wd : Width) (a : Val) (b : BlockId) (cases : List (IntValue × BlockId))
      → ((k : ℕ) (c : BlockId) → slice_get (targets cases b) k ≡ Some c → EdgeFlows s.m s.live here c)
      → TurnMeets s.m s.live (tick_of v (with_int (valued ds a) (λ i. jump s.m here env st (target_of i cases b)))) ds st (switch_turn s wd a b cases)
  switch-meets wd (Known (value.Int i)) b cases f =
      edges-meet (target_of i cases b ∷ []) One (target_of i cases b) refl (f (case_of i (case_values cases)) (target_of i cases b) (target-at i cases b))
  switch-meets wd (Known p) b cases f = tt
  switch-meets wd (Dynamic d) b cases f = permitted (has_switch s.t && (is_bit wd || has_ints s.t))
    where
      i : IntValue
      i = dynamic ds d

      at-target : slice_get (targets cases b) (chosen (Switch d wd (case_values cases)) ds') ≡ Some (target_of i cases b)
      at-target = subst (λ D. slice_get (targets cases b) (case_of (dynamic D d) (case_values cases)) ≡ Some (target_of i cases b)) (sym (append-nil ds)) (target-at i cases b)

      permitted : (x : Bool) → TurnMeets s.m s.live (tick_of v (jump s.m here env st (target_of i cases b))) ds st (if x then edges_to s (targets cases b) (Switch d wd (case_values cases)) else Bad kind.Capability)
      permitted true =
          edges-meet (targets cases b) (Switch d wd (case_values cases)) (target_of i cases b) at-target
          (f (case_of i (case_values cases)) (target_of i cases b) (target-at i cases b))
      permitted false = tt
