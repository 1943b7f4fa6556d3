-- What constant evaluation does at the tail of a part.
use Rattle.std.proofs.Common.{◌≡◌, ℕ, zero, suc, ◌<◌, length, Bool, true, false, ◌&&◌, None, Some, List, [], ◌∷◌, ◌++◌, map, refl, ap, ◌∙◌}
use Rattle.std.proofs.lemmas.Bool.{and_parts}
use Rattle.std.specs.List.{list_all}
use Rattle.std.specs.Prelude.{◌||◌, ◌==◌, if◌then◌else◌, slice_get}
use Rattle.ir_module.specs.declared.places.Point.{Point}
use Rattle.ir_module.specs.Edges.{edges}
use Rattle.ir_module.specs.Operands.{term_operands}
use Rattle.ir_module.specs.Steps.{TermAt, step_in_module}
use Rattle.ir_values.specs.declared.ids.BlockId.{BlockId}
use Rattle.ir_values.specs.declared.ids.LocalId.{LocalId}
use Rattle.ir_values.specs.declared.int.Width.{Width}
use Rattle.ir_values.specs.declared.ty.Ty.TheVariants as ty
use Rattle.ir_values.specs.declared.value.Value.{Value}
use Rattle.ir_values.specs.declared.value.Value.TheVariants as value
use Rattle.ir_values.specs.Int.{IntValue, signed}
use Rattle.ir_values.specs.Values.{is_bit}
use Rattle.kept_items.specs.declared.item.Choice.{Choice}
use Rattle.kept_items.specs.declared.item.Choice.TheVariants as choice
use Rattle.kept_items.specs.declared.item.Code.{Code}
use Rattle.kept_items.specs.declared.item.Code.TheVariants as code
use Rattle.kept_items.specs.declared.target.Caps.{Caps}
use Rattle.kept_items.specs.declared.target.Kind.TheVariants as reason
use Rattle.kept_items.specs.declared.target.Target.TheVariants.{Adaptive}
use Rattle.kept_items.specs.declared.val.Val.{Val}
use Rattle.kept_items.specs.declared.val.Val.TheVariants.{Known, Dynamic}
use Rattle.qir_meaning.specs.Effects.{is_one}
use Rattle.qir_meaning.specs.Moves.{target_of}
use Rattle.residue.specs.declared.parts.Jump.{Jump}
use Rattle.residue.specs.declared.parts.Part.{Part}
use Rattle.residue.specs.declared.parts.Residue.{Residue}
use Rattle.residue.specs.declared.parts.Tail.{Tail}
use Rattle.residue.specs.declared.parts.Tail.TheVariants as tail
use Rattle.residue.specs.Instructions.{Words, block_number, print_tail}
use Rattle.residue.specs.Printed.{names_of, printed, words}
use Rattle.residue.specs.Scopes.{gives_of, jumps, tail_uses}
use Rattle.residue.specs.Valid.{Valid, caps_permit_tail, val_has}
use Rattle.static_steps.specs.declared.turn.Move.{Move}
use Rattle.static_steps.specs.declared.turn.Turn.{Turn}
use Rattle.static_steps.specs.declared.turn.Turn.TheVariants.{Bad, Exits, Goes}
use Rattle.static_steps.specs.Edges.{branch_turn, case_values, edges_to, switch_turn, targets}
use Rattle.static_steps.specs.Returns.{back_turn}
use Rattle.static_steps.specs.Settings.{Setting}
use Rattle.static_steps.specs.Steps.{step_turn, with_val}
use Rattle.runs_follow_steps.specs.Describes.{TellsLive}
use Rattle.printed_residue.specs.Places.{in_entry}
use Rattle.numbered_residue.proofs.Forms.{first-passes, tail-uses-pass}
use Rattle.profiled_residue.proofs.Permitted.{tail-permitted}
use Rattle.settled_adaptive.specs.Undecided.{all_undecided}
use Rattle.settled_adaptive.proofs.AdaptiveMoves.{AreArrived, AreTargets, IsTarget, flow, fresh, goes-to, items-undecided, here, m, operands-have, w}
use Rattle.settled_adaptive.proofs.AdaptiveTurns.{AllHave}

clash : false ≡ true → ⊥
clash e = cc

or-only : (a : Bool) → (a || false) ≡ true → a ≡ true
or-only true h = refl
or-only false h = h

or-turned : (a b : Bool) → (a || b) ≡ true → (b || a) ≡ true
or-turned true true h = refl
or-turned true false h = refl
or-turned false true h = refl
or-turned false false h = h

both-hold : (a b : Bool) → a ≡ true → b ≡ true → (a && b) ≡ true
both-hold true b e f = f
both-hold false b e f = absurd (clash e)

module _ (r : Residue) (caps : Caps) (ok : Valid r (Adaptive caps)) (undecided : all_undecided r ≡ true) (live : Point → LocalId → Bool)
    (tells : TellsLive (printed r (Adaptive caps)) live) (bounded : (n i : ℕ) (y : LocalId) → live (in_entry n i) y ≡ true → y.0 < length (names_of r.parts)) (n j : ℕ) where
  abbrev ws : Words
  ws = words r

  abbrev s : Setting
  s = here r caps ok undecided live tells bounded n j

  module _ (p : Part) (is_part : slice_get r.parts n ≡ Some p) (ends : step_in_module (m r caps ok undecided live tells bounded) (in_entry n j) ≡ TermAt (print_tail ws p.tail)) where
    abbrev Target : BlockId → Type 0
    Target = IsTarget r caps ok undecided live tells bounded n j p is_part ends

    abbrev Arrived : List Move → Type 0
    Arrived = AreArrived r caps ok undecided live tells bounded n j p is_part ends

    -- it leads to blocks of the tail's jumps, or the entry returns
    pub data Ends (turn : Turn) : Type 0 where
      leads_on : (mvs : List Move) (c : Choice) → turn ≡ Goes mvs None c → Arrived mvs → Ends turn
      returns : (c : Code) → turn ≡ Exits c → Ends turn

    by-edges : (turn : Turn) (bs : List BlockId) (c : Choice) → turn ≡ edges_to s bs c → AreTargets r caps ok undecided live tells bounded n j p is_part ends bs → Ends turn
    by-edges turn bs c e h = let g = goes-to r caps ok undecided live tells bounded n j p is_part ends bs c h in leads_on g.0 c (e ∙ g.1) g.2

    operands : AllHave r caps ok (items-undecided r caps ok undecided live tells bounded) live (w r caps ok undecided live tells bounded n j) (fresh r caps ok undecided live tells bounded n j) (term_operands (print_tail ws p.tail))
    operands = operands-have r caps ok undecided live tells bounded n j (term_operands (print_tail ws p.tail)) ((flow r caps ok undecided live tells bounded).term_reads (in_entry n j) (print_tail ws p.tail) ends)

    uses : list_all (λ a. val_has (gives_of r) a.0 a.1) (tail_uses p.tail) ≡ true
    uses = tail-uses-pass (λ a. val_has (gives_of r) a.0 a.1) r n p ok.types is_part

    permitted : caps_permit_tail caps p.tail ≡ true
    permitted = tail-permitted r caps ok n p is_part

    -- jump number q of the tail leads to the block at this place of its edges
    target : (x : Tail) → p.tail ≡ x → (q k : ℕ) (jump : Jump) → slice_get (jumps x) q ≡ Some jump → slice_get (edges (print_tail ws x)) k ≡ Some (block_number jump.to) → Target (block_number jump.to)
    target x e q k jump g h = record {
      edge = k;
      among = ap (λ x. slice_get (edges (print_tail ws x)) k) e ∙ h;
      number = q;
      jump = jump;
      is = ap (λ x. slice_get (jumps x) q) e ∙ g;
      to = refl;
    }

    -- ---- the cases of a switch

    abbrev printed_cases : List (IntValue × Jump) → List (IntValue × BlockId)
    printed_cases cases = map (λ c. (c.0, block_number c.1.to)) cases

    case-edge : (cases : List (IntValue × Jump)) (d : BlockId) (k : ℕ) (c : IntValue × Jump) → slice_get cases k ≡ Some c → slice_get (map (λ (c : IntValue × BlockId). c.1) (printed_cases cases) ++ d ∷ []) k ≡ Some (block_number c.1.to)
    case-edge [] d k c e = cc
    case-edge (x ∷ cases) d zero c e = let z : x ≡ c = cc in ap (λ (x : IntValue × Jump). Some (block_number x.1.to)) z
    case-edge (x ∷ cases) d (suc k) c e = case-edge cases d k c e

    default-edge : (cases : List (IntValue × Jump)) (d : BlockId) → (k : ℕ) × (slice_get (map (λ (c : IntValue × BlockId). c.1) (printed_cases cases) ++ d ∷ []) k ≡ Some d)
    default-edge [] d = (0, refl)
    default-edge (x ∷ cases) d = let r = default-edge cases d in (suc r.0, r.1)

    case-jump : (cases : List (IntValue × Jump)) (k : ℕ) (c : IntValue × Jump) → slice_get cases k ≡ Some c → slice_get (map (λ (c : IntValue × Jump). c.1) cases) k ≡ Some c.1
    case-jump [] k c e = cc
    case-jump (x ∷ cases) zero c e = let z : x ≡ c = cc in ap (λ (x : IntValue × Jump). Some x.1) z
    case-jump (x ∷ cases) (suc k) c e = case-jump cases k c e

    abbrev EachCase : List (IntValue × Jump) → Type 0
    EachCase cases = (k : ℕ) (c : IntValue × Jump) → slice_get cases k ≡ Some c → Target (block_number c.1.to)

    all-targets : (cases : List (IntValue × Jump)) (d : BlockId) → EachCase cases → Target d → AreTargets r caps ok undecided live tells bounded n j p is_part ends (targets (printed_cases cases) d)
    all-targets [] d h t = (t, tt)
    all-targets (c ∷ cases) d h t = (h 0 c refl, all-targets cases d (λ k x e. h (suc k) x e) t)

    one-target : (v : IntValue) (cases : List (IntValue × Jump)) (d : BlockId) → EachCase cases → Target d → Target (target_of v (printed_cases cases) d)
    one-target v [] d h t = t
    one-target v (c ∷ cases) d h t = by (c.0.bits == v.bits) (one-target v cases d (λ k x e. h (suc k) x e) t)
      where
        by : (b : Bool) → Target (target_of v (printed_cases cases) d) → Target (if b then block_number c.1.to else target_of v (printed_cases cases) d)
        by true ih = h 0 c refl
        by false ih = ih

    -- ---- the tail

    abbrev Has : Tail → Type 0
    Has x = AllHave r caps ok (items-undecided r caps ok undecided live tells bounded) live (w r caps ok undecided live tells bounded n j) (fresh r caps ok undecided live tells bounded n j) (term_operands (print_tail ws x))

    tail-ends : (x : Tail) → p.tail ≡ x → list_all (λ a. val_has (gives_of r) a.0 a.1) (tail_uses x) ≡ true → caps_permit_tail caps x ≡ true → Has x → Ends (step_turn s (TermAt (print_tail ws x)))
    tail-ends (tail.Jump i) e u c h = by-edges _ (block_number i.to ∷ []) choice.One refl (target (tail.Jump i) e 0 0 i refl refl, tt)
    tail-ends (tail.Branch (Known (value.Int v)) i k) e u c h = by (is_one v)
      where
        by : (b : Bool) → Ends (edges_to s ((if b then block_number i.to else block_number k.to) ∷ []) choice.One)
        by true = by-edges _ (block_number i.to ∷ []) choice.One refl (target (tail.Branch (Known (value.Int v)) i k) e 0 0 i refl refl, tt)
        by false = by-edges _ (block_number k.to ∷ []) choice.One refl (target (tail.Branch (Known (value.Int v)) i k) e 1 1 k refl refl, tt)
    tail-ends (tail.Branch (Dynamic d) i k) e u c h =
        by-edges _ (block_number i.to ∷ block_number k.to ∷ []) (choice.Branch h.0.0) (ap (λ o. with_val o (λ v. branch_turn s v (block_number i.to) (block_number k.to))) h.0.1)
        (target (tail.Branch (Dynamic d) i k) e 0 0 i refl refl, (target (tail.Branch (Dynamic d) i k) e 1 1 k refl refl, tt))
    tail-ends (tail.Branch (Known v) i k) e u c h = cc
    tail-ends (tail.Switch wd (Known (value.Int v)) i cases) e u c h =
        by-edges _ (target_of v (printed_cases cases) (block_number i.to) ∷ []) choice.One refl
        (one-target v cases (block_number i.to) (each-case wd (Known (value.Int v)) i cases e) (default-case wd (Known (value.Int v)) i cases e), tt)
      where
        each-case : (wd : Width) (a : Val) (i : Jump) (cases : List (IntValue × Jump)) → p.tail ≡ tail.Switch wd a i cases → EachCase cases
        each-case wd a i cases e k c g = target (tail.Switch wd a i cases) e (suc k) k c.1 (case-jump cases k c g) (case-edge cases (block_number i.to) k c g)

        default-case : (wd : Width) (a : Val) (i : Jump) (cases : List (IntValue × Jump)) → p.tail ≡ tail.Switch wd a i cases → Target (block_number i.to)
        default-case wd a i cases e = let d = default-edge cases (block_number i.to) in target (tail.Switch wd a i cases) e 0 d.0 i refl d.1
    tail-ends (tail.Switch wd (Dynamic d) i cases) e u c h =
        by-edges _ (targets (printed_cases cases) (block_number i.to)) (choice.Switch h.0.0 wd (case_values (printed_cases cases)))
        (ap (λ o. with_val o (λ v. switch_turn s wd v (block_number i.to) (printed_cases cases))) h.0.1
        ∙ ap (λ b. if b then edges_to s (targets (printed_cases cases) (block_number i.to)) (choice.Switch h.0.0 wd (case_values (printed_cases cases))) else Bad reason.Capability) allowed)
        (all-targets cases (block_number i.to) (λ k c g. target (tail.Switch wd (Dynamic d) i cases) e (suc k) k c.1 (case-jump cases k c g) (case-edge cases (block_number i.to) k c g)) (let d' = default-edge cases (block_number i.to) in target (tail.Switch wd (Dynamic d) i cases) e 0 d'.0 i refl d'.1))
      where
        allowed : (caps.switch && (is_bit wd || caps.ints)) ≡ true
        allowed = let q = and_parts caps.switch (caps.ints || is_bit wd) c in both-hold caps.switch (is_bit wd || caps.ints) q.0 (or-turned caps.ints (is_bit wd) q.1)
    tail-ends (tail.Switch wd (Known v) i cases) e u c h = absurd (no-int v (first-passes (λ a. val_has (gives_of r) a.0 a.1) (ty.Int wd, Known v) (map (λ c. (ty.Int wd, Known (value.Int c.0))) cases) u))
      where
        no-int : (v : Value) → val_has (gives_of r) (ty.Int wd) (Known v) ≡ true → ⊥
        no-int v h = cc
    tail-ends (tail.Return (Known (value.Int v))) e u c h = by (caps.returns || (v.bits == 0)) c
      where
        by : (b : Bool) → b ≡ true → Ends (if b then Exits (code.Known (signed v)) else Bad reason.Capability)
        by true q = returns (code.Known (signed v)) refl
        by false q = absurd (clash q)
    tail-ends (tail.Return (Dynamic d)) e u c h =
        returns (code.Dynamic h.0.0)
        (ap (λ o. with_val o (λ v. back_turn s [] (Some v))) h.0.1
        ∙ ap (λ b. if b then Exits (code.Dynamic h.0.0) else Bad reason.Capability) (or-only caps.returns c))
    tail-ends (tail.Return (Known v)) e u c h = cc

    pub ends-so : Ends (step_turn s (TermAt (print_tail ws p.tail)))
    ends-so = tail-ends p.tail refl uses permitted operands
