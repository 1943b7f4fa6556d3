-- An item does the same by its own numbers and by those of the lowered program.
use Rattle.std.proofs.Common.{◌≡◌, ℕ, ◌<◌, ◌≤◌, Bool, true, false, Option, None, Some, List, [], ◌∷◌, length, map, refl, ap, ◌∙◌, arith}
use Rattle.std.specs.Prelude.{⊤, if◌then◌else◌, Result, Ok, Err}
use Rattle.backend_api.specs.declared.operation.Answer.{Answer}
use Rattle.backend_api.specs.declared.operation.Answer.TheVariants as answer
use Rattle.backend_api.specs.declared.operation.Arg.{Arg}
use Rattle.backend_api.specs.declared.operation.Op.{Op}
use Rattle.backend_api.specs.declared.operation.ResultRef.{ResultRef}
use Rattle.ir_values.specs.declared.cause.Cause.{Cause}
use Rattle.ir_values.specs.declared.class.Class.{Class}
use Rattle.ir_values.specs.declared.class.Class.TheVariants as class
use Rattle.ir_values.specs.declared.int.BinOp.{BinOp}
use Rattle.ir_values.specs.declared.int.Conv.{Conv}
use Rattle.ir_values.specs.declared.int.Flags.{Flags}
use Rattle.ir_values.specs.declared.int.Pred.{Pred}
use Rattle.ir_values.specs.declared.int.Width.{Width}
use Rattle.ir_values.specs.declared.ty.Ty.{Ty}
use Rattle.ir_values.specs.declared.value.Value.{Value}
use Rattle.ir_values.specs.declared.value.Value.TheVariants as value
use Rattle.ir_values.specs.Arithmetic.{binary_of}
use Rattle.ir_values.specs.Int.{IntValue}
use Rattle.output_records.specs.declared.record.Shown.{Shown}
use Rattle.qir_meaning.specs.Effects.{first_result, operation}
use Rattle.qir_meaning.specs.State.{State}
use Rattle.kept_items.specs.declared.item.Item.{Item}
use Rattle.kept_items.specs.declared.item.Item.TheVariants as item
use Rattle.kept_items.specs.declared.val.Dyn.{Dyn}
use Rattle.kept_items.specs.declared.val.Val.{Val}
use Rattle.kept_items.specs.declared.val.Val.TheVariants.{Known, Dynamic}
use Rattle.kept_items.specs.Items.{Did, Gave, Stopped, Senseless, Got, Bit, Unset, NoResult, arg_of, args_of, binary_did, bit_read, computed, convert_did, did, dynamic, gate_did, icmp_did, issued, measure_did, one_arg, operation_did, output_did, read_did, recorded_did, select_did, valued}
use Rattle.residue.specs.Instructions.{reads}
use Rattle.residue.specs.Functions.{is_constant}
use Rattle.residue.specs.Scopes.{item_gives}
use Rattle.printed_residue.specs.Places.{ticks}
use Rattle.fused_parts.specs.Nodes.{gives}
use Rattle.fused_parts.specs.Parts.{dyn, number_at, renamed, renamed_arg, renamed_item}

-- the Dynamic values below n have the same values by these numbers
abbrev pub Same : List Dyn → List IntValue → List IntValue → ℕ → Type 0
Same mine rs ds n = (k : ℕ) → k < n → dynamic rs (number_at mine (dyn k)) ≡ dynamic ds (dyn k)

-- its Dynamic values are below n
abbrev pub ValBelow : ℕ → Val → Type 0
ValBelow n (Known v) = ⊤
ValBelow n (Dynamic d) = d.0 < n

abbrev pub ArgsBelow : ℕ → List (Ty × Val) → Type 0
ArgsBelow n [] = ⊤
ArgsBelow n (a ∷ args) = ValBelow n a.1 × ArgsBelow n args

abbrev pub ItemBelow : ℕ → Item → Type 0
ItemBelow n (item.Binary d o flags w a b) = ValBelow n a × ValBelow n b
ItemBelow n (item.Icmp d p w a b) = ValBelow n a × ValBelow n b
ItemBelow n (item.Convert d c w a to) = ValBelow n a
ItemBelow n (item.Select d w c a b) = ValBelow n c × ValBelow n a × ValBelow n b
ItemBelow n (item.Read d v) = ⊤
ItemBelow n (item.Equal d v u) = ⊤
ItemBelow n (item.Operation name args) = ArgsBelow n args
ItemBelow n (item.Output c args) = ArgsBelow n args

module _ (mine : List Dyn) (rs ds : List IntValue) (n : ℕ) (same : Same mine rs ds n) where
  pub value-same : (a : Val) → ValBelow n a → valued rs (renamed mine a) ≡ valued ds a
  value-same (Known v) b = refl
  value-same (Dynamic d) b = ap value.Int (same d.0 b)

  args-same : (st : State) (args : List (Ty × Val)) → ArgsBelow n args → args_of rs st (map (renamed_arg mine) args) ≡ args_of ds st args
  args-same st [] b = refl
  args-same st (a ∷ args) b =
      ap (λ v. one_arg (arg_of a.0 v) (args_of rs st (map (renamed_arg mine) args))) (value-same a.1 b.0)
      ∙ ap (one_arg (arg_of a.0 (valued ds a.1))) (args-same st args b.1)

  values-same : (args : List (Ty × Val)) → ArgsBelow n args → map (λ a. valued rs a.1) (map (renamed_arg mine) args) ≡ map (λ a. valued ds a.1) args
  values-same [] b = refl
  values-same (a ∷ args) b =
      ap (λ v. v ∷ map (λ a. valued rs a.1) (map (renamed_arg mine) args)) (value-same a.1 b.0)
      ∙ ap (λ vs. valued ds a.1 ∷ vs) (values-same args b.1)

  pub did-same : (st : State) (free : ℕ) (i : Item) → ItemBelow n i → did rs st (renamed_item mine free i) ≡ did ds st i
  did-same st free (item.Binary d o flags w a b) h =
      ap (λ v. binary_did rs st o flags v (valued rs (renamed mine b))) (value-same a h.0) ∙ ap (binary_did ds st o flags (valued ds a)) (value-same b h.1)
  did-same st free (item.Icmp d p w a b) h =
      ap (λ v. icmp_did rs st p v (valued rs (renamed mine b))) (value-same a h.0) ∙ ap (icmp_did ds st p (valued ds a)) (value-same b h.1)
  did-same st free (item.Convert d c w a to) h = ap (convert_did ds st c to) (value-same a h)
  did-same st free (item.Select d w c a b) h =
      ap (λ v. select_did rs st v (valued rs (renamed mine a)) (valued rs (renamed mine b))) (value-same c h.0)
      ∙ ap (λ v. select_did rs st (valued ds c) v (valued rs (renamed mine b))) (value-same a h.1)
      ∙ ap (select_did ds st (valued ds c) (valued ds a)) (value-same b h.2)
  did-same st free (item.Read d v) h = refl
  did-same st free (item.Equal d v u) h = refl
  did-same st free (item.Operation name args) h = ap (issued ds st name) (args-same st args h)
  did-same st free (item.Output c args) h = ap (output_did ds st c) (values-same args h)

-- ---- an item gives as many values as it says

abbrev pub GivesMany : ℕ → Did → Type 0
GivesMany n (Gave new st) = length new ≡ n
GivesMany n (Stopped stop st) = ⊤
GivesMany n Senseless = ⊤

module _ (ds : List IntValue) (st : State) where
  of-computed : (r : Result IntValue Cause) → GivesMany 1 (computed ds st r)
  of-computed (Ok i) = refl
  of-computed (Err why) = tt

  of-binary : (o : BinOp) (flags : Flags) (v u : Value) → GivesMany 1 (binary_did ds st o flags v u)
  of-binary o flags (value.Int i) (value.Int j) = of-computed (binary_of o flags i j)
  of-binary o flags v u = tt

  of-icmp : (p : Pred) (v u : Value) → GivesMany 1 (icmp_did ds st p v u)
  of-icmp p (value.Int i) (value.Int j) = refl
  of-icmp p v u = tt

  of-convert : (c : Conv) (w : Width) (v : Value) → GivesMany 1 (convert_did ds st c w v)
  of-convert c w (value.Int i) = refl
  of-convert c w v = tt

  of-select : (v u w : Value) → GivesMany 1 (select_did ds st v u w)
  of-select (value.Int c) (value.Int i) (value.Int j) = refl
  of-select v u w = tt

  of-read : (n : ℕ) (g : Got) (go : Bool → Did) → ((b : Bool) → GivesMany n (go b)) → GivesMany n (read_did ds st g go)
  of-read n (Bit b) go h = h b
  of-read n Unset go h = tt
  of-read n NoResult go h = tt

  of-gate : (o : Op) (as_ : List Answer) → GivesMany 0 (gate_did ds st o as_)
  of-gate o [] = tt
  of-gate o (answer.Done ∷ rest) = refl
  of-gate o (answer.Bit b ∷ rest) = tt

  of-measure : (o : Op) (r : ResultRef) (as_ : List Answer) → GivesMany 0 (measure_did ds st o r as_)
  of-measure o r [] = tt
  of-measure o r (answer.Done ∷ rest) = tt
  of-measure o r (answer.Bit b ∷ rest) = refl

  of-operation : (o : Op) (r : Option ResultRef) → GivesMany 0 (operation_did ds st o r)
  of-operation o None = of-gate o st.answers
  of-operation o (Some r) = of-measure o r st.answers

  of-issued : (name : List ℕ) (args : Option (List Arg)) → GivesMany 0 (issued ds st name args)
  of-issued name None = tt
  of-issued name (Some args) = of-operation (operation name args) (first_result args)

  of-recorded : (v : Value) (what : Shown) → GivesMany 0 (recorded_did ds st v what)
  of-recorded (value.Label g) what = refl
  of-recorded value.NoLabel what = refl
  of-recorded v what = tt

  of-output : (c : Class) (vs : List Value) → GivesMany 0 (output_did ds st c vs)
  of-output class.Tuple (value.Int i ∷ l ∷ []) = of-recorded l _
  of-output class.Array (value.Int i ∷ l ∷ []) = of-recorded l _
  of-output class.ResRecord (v ∷ l ∷ []) = of-read 0 (bit_read st v) _ (λ b. of-recorded l _)
  of-output class.BoolRecord (value.Int i ∷ l ∷ []) = of-recorded l _
  of-output class.IntRecord (value.Int i ∷ l ∷ []) = of-recorded l _
  of-output class.DoubleRecord (value.Double t ∷ l ∷ []) = of-recorded l _
  of-output c vs = tt

  pub gives-many : (i : Item) → GivesMany (gives (Some i)) (did ds st i)
  gives-many (item.Binary d o flags w a b) = of-binary o flags (valued ds a) (valued ds b)
  gives-many (item.Icmp d p w a b) = of-icmp p (valued ds a) (valued ds b)
  gives-many (item.Convert d c w a to) = of-convert c to (valued ds a)
  gives-many (item.Select d w c a b) = of-select (valued ds c) (valued ds a) (valued ds b)
  gives-many (item.Read d v) = of-read 1 (bit_read st v) _ (λ b. refl)
  gives-many (item.Equal d v u) = of-read 1 (bit_read st v) _ (λ a. of-read 1 (bit_read st u) _ (λ b. refl))
  gives-many (item.Operation name args) = of-issued name (args_of ds st args)
  gives-many (item.Output c args) = of-output c (map (λ a. valued ds a.1) args)

-- ---- the number that is given, and the ticks

pub data OneOrNone (mine : List Dyn) (free : ℕ) (i : Item) : Type 0 where
  none : gives (Some i) ≡ 0 → item_gives (renamed_item mine free i) ≡ [] → OneOrNone mine free i
  one : gives (Some i) ≡ 1 → (w : Width) → item_gives (renamed_item mine free i) ≡ (free, w) ∷ [] → OneOrNone mine free i

pub one-or-none : (mine : List Dyn) (free : ℕ) (i : Item) → OneOrNone mine free i
one-or-none mine free (item.Binary d o flags w a b) = one refl _ refl
one-or-none mine free (item.Icmp d p w a b) = one refl _ refl
one-or-none mine free (item.Convert d c w a to) = one refl _ refl
one-or-none mine free (item.Select d w c a b) = one refl _ refl
one-or-none mine free (item.Read d v) = one refl _ refl
one-or-none mine free (item.Equal d v u) = one refl _ refl
one-or-none mine free (item.Operation name args) = none refl refl
one-or-none mine free (item.Output c args) = none refl refl

few-reads : (v : Value) → reads v ≤ 1
few-reads v = by-test (is_constant v)
  where
    by-test : (b : Bool) → (if b then 0 else 1) ≤ 1
    by-test true = omega arith
    by-test false = omega arith

pub few-ticks : (i : Item) → ticks i ≤ 3
few-ticks (item.Equal d v u) = let a = few-reads v in let b = few-reads u in omega (arith, a, b)
few-ticks (item.Binary d o flags w a b) = omega arith
few-ticks (item.Icmp d p w a b) = omega arith
few-ticks (item.Convert d c w a to) = omega arith
few-ticks (item.Select d w c a b) = omega arith
few-ticks (item.Read d v) = omega arith
few-ticks (item.Operation name args) = omega arith
few-ticks (item.Output c args) = omega arith

pub some-ticks : (i : Item) → 1 ≤ ticks i
some-ticks (item.Equal d v u) = omega arith
some-ticks (item.Binary d o flags w a b) = omega arith
some-ticks (item.Icmp d p w a b) = omega arith
some-ticks (item.Convert d c w a to) = omega arith
some-ticks (item.Select d w c a b) = omega arith
some-ticks (item.Read d v) = omega arith
some-ticks (item.Operation name args) = omega arith
some-ticks (item.Output c args) = omega arith
