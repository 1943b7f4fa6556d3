-- What constant evaluation does at each instruction of a printed Base residue.
use Rattle.std.proofs.Common.{option_map, ◌≡◌, ℕ, suc, ◌≤◌, Bool, true, false, not, Option, None, Some, List, [], ◌∷◌, map, refl, sym, ap, ◌∙◌, subst, arith}
use Rattle.std.proofs.lemmas.Bool.{and_parts}
use Rattle.std.specs.List.{list_all, list_any}
use Rattle.std.specs.Prelude.{◌||◌, if◌then◌else◌, slice_get}
use Rattle.ir_module.specs.declared.places.Point.{Point}
use Rattle.ir_module.specs.declared.tree.Block.{Block}
use Rattle.ir_module.specs.declared.tree.Operand.TheVariants as operand
use Rattle.ir_module.specs.declared.tree.Term.TheVariants as term
use Rattle.ir_module.specs.Steps.{InstAt, TermAt}
use Rattle.ir_values.specs.declared.class.Class.{Class}
use Rattle.ir_values.specs.declared.class.Class.TheVariants as class
use Rattle.ir_values.specs.declared.ids.LocalId.{LocalId}
use Rattle.ir_values.specs.declared.int.Width.TheVariants.{W64}
use Rattle.ir_values.specs.declared.ty.Ty.{Ty}
use Rattle.ir_values.specs.declared.ty.Ty.TheVariants as ty
use Rattle.ir_values.specs.declared.value.Value.{Value}
use Rattle.ir_values.specs.declared.value.Value.TheVariants as value
use Rattle.ir_values.specs.Int.{IntValue, signed}
use Rattle.kept_items.specs.declared.item.Choice.TheVariants.{One}
use Rattle.kept_items.specs.declared.item.Code.{Code}
use Rattle.kept_items.specs.declared.item.Code.TheVariants as code
use Rattle.kept_items.specs.declared.item.Item.{Item}
use Rattle.kept_items.specs.declared.item.Item.TheVariants as item
use Rattle.kept_items.specs.declared.target.Target.TheVariants.{Base}
use Rattle.kept_items.specs.declared.val.Val.{Val}
use Rattle.kept_items.specs.declared.val.Val.TheVariants.{Known, Dynamic}
use Rattle.profile_rules.specs.Calls.{is_measure, passes}
use Rattle.residue.specs.declared.parts.Residue.{Residue}
use Rattle.residue.specs.declared.parts.Tail.{Tail}
use Rattle.residue.specs.declared.parts.Tail.TheVariants as tail
use Rattle.residue.specs.Functions.{all_items, called, initialize, is_named, record_name, types_of}
use Rattle.residue.specs.Instructions.{Words, block_number, call_void, print_tail, typed_operand}
use Rattle.residue.specs.Phases.{phase_of}
use Rattle.residue.specs.Printed.{initialize_call, print_blocks, printed, words}
use Rattle.residue.specs.Scopes.{gives_of, tail_uses}
use Rattle.residue.specs.Valid.{Valid, all_known, all_tails, base_permits_tail, is_base_record, is_constant_result, item_compares, tail_compares, val_has}
use Rattle.static_steps.specs.declared.phase.Phase.{Phase}
use Rattle.static_steps.specs.declared.phase.Phase.TheVariants as phase
use Rattle.static_steps.specs.declared.turn.Turn.{Turn}
use Rattle.static_steps.specs.declared.turn.Turn.TheVariants.{Exits, Goes}
use Rattle.static_steps.specs.declared.work.Work.{Work}
use Rattle.static_steps.specs.code.Phases.{rank}
use Rattle.static_steps.specs.Calls.{class_turn}
use Rattle.static_steps.specs.Edges.{along_to, edges_turn}
use Rattle.static_steps.specs.Operations.{after_irreversible, after_reversible, is_irreversible, issues_in, typed_args}
use Rattle.static_steps.specs.Records.{outputs}
use Rattle.static_steps.specs.Returns.{back_turn}
use Rattle.static_steps.specs.Settings.{Setting, at_point, move_to, passed}
use Rattle.static_steps.specs.Steps.{step_turn}
use Rattle.static_steps.specs.Values.{Names}
use Rattle.qir_meaning.specs.Moves.{block_in, given}
use Rattle.printed_residue.specs.Places.{in_entry}
use Rattle.printed_residue.proofs.Calls.{Declares, measures, op_class}
use Rattle.printed_residue.proofs.Declared.{Among}
use Rattle.printed_residue.proofs.Ends.{initialize-declared}
use Rattle.printed_residue.proofs.Facts.{passes-here}
use Rattle.printed_residue.proofs.Lines.{item-declared}
use Rattle.numbered_residue.proofs.Forms.{first-passes}
use Rattle.numbered_residue.proofs.Shared.{some-same}
use Rattle.profiled_residue.specs.Premises.{FitsProfile, measurement_named}
use Rattle.profiled_residue.proofs.Called.{class-is, declaration-called, marked}
use Rattle.profiled_residue.proofs.CallRules.{base-permits}
use Rattle.settled_lowering.proofs.BaseBlocks.{StandsIn, initializes, operates, records}
use Rattle.settled_lowering.proofs.Turns.{all-known-plain, all-known-read, args-typed, called-turn, operation-turn, read, reads_of, vals-read}

-- an item of printed values
abbrev pub settled : Words → Names Val → Item → Item
settled ws names (item.Operation name args) = item.Operation name (reads_of ws names args)
settled ws names (item.Output c args) = item.Output c (reads_of ws names args)
settled ws names x = x

module _ (r : Residue) (ok : Valid r Base) (fits : FitsProfile r Base) where
  -- ---- which operations are irreversible

  irreversible-is : (name : List ℕ) (args : List (Ty × Val)) (a : Among (all_items r) (item.Operation name args)) (d : Declares (printed r Base) ((words r).function name) name (op_class (measures args)))
      → is_irreversible d.function (op_class (measures args)) ≡ is_named r.irreversible name
  irreversible-is name args a d = by (measures args) refl d
    where
      named : is_measure (op_class (measures args)) ≡ true → is_named r.irreversible name ≡ true
      named m = both (is_named r.irreversible name)
          (ap (λ o. not (passes o is_measure) || is_named r.irreversible name) (sym (class-is r Base ok (item.Operation name args) (called name ty.Void (types_of args)) (op_class (measures args)) a (0, refl) d))
          ∙ passes-here (measurement_named r.irreversible) (all_items r) a.0 (item.Operation name args) fits.measurements a.1)
        where
          both : (b : Bool) → (not (is_measure (op_class (measures args))) || b) ≡ true → b ≡ true
          both b h = by (is_measure (op_class (measures args))) m h
            where
              by : (c : Bool) → c ≡ true → (not c || b) ≡ true → b ≡ true
              by true e h = h
              by false e h = cc

      by : (b : Bool) → measures args ≡ b → (d : Declares (printed r Base) ((words r).function name) name (op_class b)) → is_irreversible d.function (op_class b) ≡ is_named r.irreversible name
      by true e d = sym (named (ap (λ b. is_measure (op_class b)) e))
      by false e d =
          ap (λ f. is_irreversible f class.Gate) (some-same (sym d.is ∙ declaration-called r Base ok (item.Operation name args) (called name ty.Void (types_of args)) a (0, refl)))
          ∙ marked r Base ok (called name ty.Void (types_of args))

  plain-args : (x : Item) → Among (all_items r) x → item_compares x ≡ true
  plain-args x a = passes-here item_compares (all_items r) a.0 x (and_parts (list_all item_compares (all_items r)) (all_tails tail_compares r) ok.constants).0 a.1

  module _ (live : Point → LocalId → Bool) (n : ℕ) (w : Work) (early : rank w.phase ≤ n) where
    abbrev pub s : Setting
    s = record { m = printed r Base; t = Base; live = live; w = w; fresh = record { 0 = 0 } }

    -- an item as it is left again
    abbrev pub settle : Item → Item
    settle x = settled (words r) w.top.names x

    -- on to the next point, in a phase that this block may have, leaving this item
    pub record Passes (left : Option Item) (turn : Turn) : Type 0 where
      pub to : Phase
      pub ranked : rank to ≤ n
      pub is : turn ≡ Goes (move_to live (record (passed s) { phase = to }) ∷ []) left One

    -- ---- instructions

    initialized : Passes None (step_turn s (InstAt initialize_call))
    initialized = record {
      to = w.phase;
      ranked = early;
      is = called-turn s None ty.Void (record { 0 = 1 }) ((ty.Text, operand.Const value.NoLabel) ∷ []) initialize.name class.Init (initialize-declared r Base) (Known value.NoLabel ∷ []) refl;
    }

    abbrev issued : Bool → List ℕ → List (Ty × Val) → Turn
    issued b name args = issues_in s (if b then after_irreversible w.phase else after_reversible w.phase) name args

    -- an operation stands in the block of its phase
    issued-in : (b : Bool) (name : List ℕ) (args : List (Ty × Val)) → (if b then 2 else 1) ≡ n → Passes (Some (item.Operation name args)) (issued b name args)
    issued-in true name args e = by w.phase refl early
      where
        by : (ph : Phase) → w.phase ≡ ph → rank w.phase ≤ n → Passes (Some (item.Operation name args)) (issued true name args)
        by phase.Begin q h = record { to = phase.Irreversible; ranked = omega (arith, e); is = ap (λ ph. issues_in s (after_irreversible ph) name args) q }
        by phase.Reversible q h = record { to = phase.Irreversible; ranked = omega (arith, e); is = ap (λ ph. issues_in s (after_irreversible ph) name args) q }
        by phase.Irreversible q h = record { to = phase.Irreversible; ranked = omega (arith, e); is = ap (λ ph. issues_in s (after_irreversible ph) name args) q }
        by phase.Output q h = let k = ap rank q in absurd (omega (arith, e, h, k))
    issued-in false name args e = by w.phase refl early
      where
        by : (ph : Phase) → w.phase ≡ ph → rank w.phase ≤ n → Passes (Some (item.Operation name args)) (issued false name args)
        by phase.Begin q h = record { to = phase.Reversible; ranked = omega (arith, e); is = ap (λ ph. issues_in s (after_reversible ph) name args) q }
        by phase.Reversible q h = record { to = phase.Reversible; ranked = omega (arith, e); is = ap (λ ph. issues_in s (after_reversible ph) name args) q }
        by phase.Irreversible q h = let k = ap rank q in absurd (omega (arith, e, h, k))
        by phase.Output q h = let k = ap rank q in absurd (omega (arith, e, h, k))

    operated : (name : List ℕ) (args : List (Ty × Val)) → Among (all_items r) (item.Operation name args) → phase_of r.irreversible (item.Operation name args) ≡ n → Passes (Some (settle (item.Operation name args))) (step_turn s (InstAt (call_void (words r) name args)))
    operated name args a e =
        let d = item-declared r Base ok (item.Operation name args) a in
        let k : all_known args ≡ true = base-permits r ok (item.Operation name args) a in
        let t = operation-turn s (words r) name args ((words r).function name) d (all-known-read (words r) w.top.names args k) (all-known-plain (words r) w.top.names args k (plain-args (item.Operation name args) a)) in
        let q = issued-in (is_named r.irreversible name) name (reads_of (words r) w.top.names args) e in record {
          to = q.to;
          ranked = q.ranked;
          is = t ∙ ap (λ b. issued b name (reads_of (words r) w.top.names args)) (irreversible-is name args a d) ∙ q.is;
        }

    -- a record of a class that Base has
    record-turn : (c : Class) (args : List (Ty × Val)) → is_base_record c ≡ true → all_known args ≡ true → not (list_any (λ a. is_constant_result a.1) args) ≡ true → (f : _) (name : List ℕ) (ts : List Ty)
        → class_turn s None f name c ts (map (λ a. read (words r) w.top.names a.1) args) ≡ outputs s c (typed_args ts (map (λ a. read (words r) w.top.names a.1) args))
    record-turn class.Tuple [] b k h f name ts = refl
    record-turn class.Tuple ((t, Known v) ∷ args) b k h f name ts = refl
    record-turn class.Tuple ((t, Dynamic d) ∷ args) b k h f name ts = cc
    record-turn class.Array [] b k h f name ts = refl
    record-turn class.Array ((t, Known v) ∷ args) b k h f name ts = refl
    record-turn class.Array ((t, Dynamic d) ∷ args) b k h f name ts = cc
    record-turn class.ResRecord [] b k h f name ts = refl
    record-turn class.ResRecord ((t, Dynamic d) ∷ args) b k h f name ts = cc
    record-turn class.ResRecord ((t, Known value.One) ∷ args) b k h f name ts = cc
    record-turn class.ResRecord ((t, Known value.Zero) ∷ args) b k h f name ts = cc
    record-turn class.ResRecord ((t, Known (value.Int i)) ∷ args) b k h f name ts = refl
    record-turn class.ResRecord ((t, Known (value.Double i)) ∷ args) b k h f name ts = refl
    record-turn class.ResRecord ((t, Known (value.Id i)) ∷ args) b k h f name ts = refl
    record-turn class.ResRecord ((t, Known (value.Alloc i)) ∷ args) b k h f name ts = refl
    record-turn class.ResRecord ((t, Known (value.Measured i)) ∷ args) b k h f name ts = refl
    record-turn class.ResRecord ((t, Known (value.Label i)) ∷ args) b k h f name ts = refl
    record-turn class.ResRecord ((t, Known value.NoLabel) ∷ args) b k h f name ts = refl
    record-turn class.ResRecord ((t, Known (value.Func i)) ∷ args) b k h f name ts = refl
    record-turn c args b k h f name ts = cc

    recorded : (c : Class) (args : List (Ty × Val)) → Among (all_items r) (item.Output c args) → n ≡ 3 → Passes (Some (settle (item.Output c args))) (step_turn s (InstAt (call_void (words r) (record_name c) args)))
    recorded c args a e =
        let d = item-declared r Base ok (item.Output c args) a in
        let k = and_parts (is_base_record c) (all_known args) (base-permits r ok (item.Output c args) a) in record {
          to = phase.Output;
          ranked = omega (arith, e);
          is =
              called-turn s None ty.Void ((words r).function (record_name c)) (map (typed_operand (words r)) args) (record_name c) c d (map (λ a. read (words r) w.top.names a.1) args) (vals-read (words r) w.top.names args (all-known-read (words r) w.top.names args k.1))
              ∙ record-turn c args k.0 k.1 (plain-args (item.Output c args) a) d.function (record_name c) (map (λ a. a.0) (map (typed_operand (words r)) args))
              ∙ ap (outputs s c) (args-typed (words r) w.top.names args);
        }

    pub inst-passes : (xs : List Item) (j : ℕ) (i : _) → StandsIn r xs n j i → Passes (option_map settle (slice_get xs j)) (step_turn s (InstAt i))
    inst-passes xs j i (initializes z e) =
        subst (λ i. Passes (option_map settle (slice_get xs j)) (step_turn s (InstAt i))) e
        (subst (λ l. Passes (option_map settle (slice_get l j)) (step_turn s (InstAt initialize_call))) (sym z) initialized)
    inst-passes xs j i (operates name args g a p e) =
        subst (λ i. Passes (option_map settle (slice_get xs j)) (step_turn s (InstAt i))) e
        (subst (λ o. Passes (option_map settle o) (step_turn s (InstAt (call_void (words r) name args)))) (sym g) (operated name args a p))
    inst-passes xs j i (records c args g a p e) =
        subst (λ i. Passes (option_map settle (slice_get xs j)) (step_turn s (InstAt i))) e
        (subst (λ o. Passes (option_map settle o) (step_turn s (InstAt (call_void (words r) (record_name c) args)))) (sym g) (recorded c args a p))

    -- ---- terminators

    -- to the next block, which has no phis
    pub leads-on : (j : ℕ) (to : Block) → w.top.at ≡ in_entry n j → slice_get (print_blocks r Base) (suc n) ≡ Some to → to.phis ≡ []
        → step_turn s (TermAt (term.Br (block_number (suc n)))) ≡ Goes (move_to live (at_point s (in_entry (suc n) 0) w.top.names) ∷ []) None One
    leads-on j to at h e =
        ap (λ f. edges_turn s (given (along_to s (block_number (suc n)) (block_in (printed r Base) f (block_number (suc n)))) (λ mv. Some (mv ∷ []))) One) (ap (λ (p : Point). p.func) at)
        ∙ ap (λ o. edges_turn s (given (along_to s (block_number (suc n)) o) (λ mv. Some (mv ∷ []))) One) h
        ∙ arrives to.phis e
        ∙ ap (λ f. Goes (move_to live (at_point s (record { func = f; block = block_number (suc n); index = 0 }) w.top.names) ∷ []) None One) (ap (λ (p : Point). p.func) at)
      where
        arrives : (phis : _) → phis ≡ [] → edges_turn s (given (along_to s (block_number (suc n)) (Some (record to { phis = phis }))) (λ mv. Some (mv ∷ []))) One ≡ Goes (move_to live (at_point s (record { func = w.top.at.func; block = block_number (suc n); index = 0 }) w.top.names) ∷ []) None One
        arrives [] e = refl
        arrives (x ∷ phis) e = cc

    -- the entry returns the value of its tail
    pub tail-exits : (t : Tail) → w.below ≡ [] → base_permits_tail t ≡ true → list_all (λ a. val_has (gives_of r) a.0 a.1) (tail_uses t) ≡ true → (i : IntValue) × (t ≡ tail.Return (Known (value.Int i))) × (step_turn s (TermAt (print_tail (words r) t)) ≡ Exits (code.Known (signed i)))
    tail-exits (tail.Return (Known v)) e b h = by v (first-passes (λ a. val_has (gives_of r) a.0 a.1) (ty.Int W64, Known v) [] h)
      where
        by : (v : Value) → val_has (gives_of r) (ty.Int W64) (Known v) ≡ true → (i : IntValue) × (tail.Return (Known v) ≡ tail.Return (Known (value.Int i))) × (step_turn s (TermAt (print_tail (words r) (tail.Return (Known v)))) ≡ Exits (code.Known (signed i)))
        by (value.Int i) h = (i, refl, ap (λ fs. back_turn s fs (Some (Known (value.Int i)))) e)
        by v h = cc
    tail-exits (tail.Return (Dynamic d)) e b h = cc
    tail-exits (tail.Jump j) e b h = cc
    tail-exits (tail.Branch a j i) e b h = cc
    tail-exits (tail.Switch w a j cases) e b h = cc
