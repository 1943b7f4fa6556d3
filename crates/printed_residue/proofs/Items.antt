-- What the printed instructions of any item do, and that results stay below.
use Rattle.std.proofs.Common.{◌≡◌, ℕ, ◌+◌, ◌<◌, ◌≤◌, Bool, true, Some, List, [], ◌∷◌, length, map, Result, Ok, Err, subst, arith}
use Rattle.std.proofs.lemmas.Bool.{and_parts}
use Rattle.std.specs.List.{list_all}
use Rattle.std.specs.Prelude.{⊤, nat_lt}
use Rattle.ir_module.specs.declared.tree.Block.{Block}
use Rattle.ir_module.specs.declared.tree.Module.{Module}
use Rattle.ir_values.specs.declared.cause.Cause.{Cause}
use Rattle.ir_values.specs.declared.class.Class.{Class}
use Rattle.ir_values.specs.declared.class.Class.TheVariants as class
use Rattle.ir_values.specs.declared.ids.BlockId.{BlockId}
use Rattle.ir_values.specs.declared.ids.FuncId.{FuncId}
use Rattle.ir_values.specs.declared.int.BinOp.{BinOp}
use Rattle.ir_values.specs.declared.int.Flags.{Flags}
use Rattle.ir_values.specs.declared.int.Pred.{Pred}
use Rattle.ir_values.specs.declared.int.Conv.{Conv}
use Rattle.ir_values.specs.declared.int.Width.{Width}
use Rattle.ir_values.specs.declared.ty.Ty.{Ty}
use Rattle.ir_values.specs.declared.ty.Ty.TheVariants as ty
use Rattle.ir_values.specs.declared.value.Value.{Value}
use Rattle.ir_values.specs.declared.value.Value.TheVariants as value
use Rattle.ir_values.specs.Arithmetic.{binary_of}
use Rattle.ir_values.specs.Int.{IntValue}
use Rattle.output_records.specs.declared.record.Shown.{Shown}
use Rattle.qir_meaning.specs.Moves.{block_in}
use Rattle.qir_meaning.specs.State.{Env, State}
use Rattle.kept_items.specs.declared.item.Item.{Item}
use Rattle.kept_items.specs.declared.item.Item.TheVariants as item
use Rattle.kept_items.specs.declared.val.Val.{Val}
use Rattle.kept_items.specs.declared.val.Val.TheVariants.{Known, Dynamic}
use Rattle.kept_items.specs.Items.{Did, Got, Bit, Unset, NoResult, binary_did, bit_read, computed, convert_did, did, icmp_did, output_did, read_did, recorded_did, select_did, valued}
use Rattle.residue.specs.declared.parts.Residue.{Residue}
use Rattle.residue.specs.Functions.{read_name, record_name, types_of}
use Rattle.residue.specs.Instructions.{Words, instructions, names_of_item}
use Rattle.residue.specs.Scopes.{item_uses}
use Rattle.residue.specs.Valid.{handle_below}
use Rattle.printed_residue.specs.Places.{BitsBelow, ticks}
use Rattle.printed_residue.proofs.Bits.{GaveBelow, operation-below}
use Rattle.printed_residue.proofs.Calls.{Declares, ResultBelow, ResultsBelow, ValueBelow, measures, op_class}
use Rattle.printed_residue.proofs.Naming.{equal-names, last_name}
use Rattle.printed_residue.proofs.Running.{ReadDeclared, RecordBelow, Runs, binary-item, icmp-item, convert-item, select-item, read-item, equal-item, operation-item, output-item}
use Rattle.printed_residue.proofs.Standing.{StandAt}
use Rattle.printed_residue.proofs.Steps.{AllHave}

-- the functions that an item calls are declared
abbrev pub ItemDeclared : Module → Words → Item → Type 0
ItemDeclared l ws (item.Read d v) = Declares l (ws.function read_name) read_name class.Read
ItemDeclared l ws (item.Equal d v u) = ReadDeclared l ws v × ReadDeclared l ws u
ItemDeclared l ws (item.Operation name args) = Declares l (ws.function name) name (op_class (measures args))
ItemDeclared l ws (item.Output c args) = Declares l (ws.function (record_name c)) (record_name c) c
ItemDeclared l ws x = ⊤

-- a recorded result stands first
abbrev pub RecordFirst : Item → Type 0
RecordFirst (item.Output class.ResRecord args) = types_of args ≡ ty.Res ∷ ty.Text ∷ []
RecordFirst x = ⊤

module _ (l : Module) (f : FuncId) (ws : Words) (c : BlockId) (b : Block) (here : block_in l f c ≡ Some b) (j free : ℕ) (ds : List IntValue) (env : Env) (st : State) (bits : BitsBelow ws.results st.bits) where
  record-below : (k : Class) (args : List (Ty × Val)) → RecordFirst (item.Output k args) → ResultsBelow ws.results args → RecordBelow ws.results k (map (λ a. valued ds a.1) args)
  record-below class.ResRecord [] t h = tt
  record-below class.ResRecord (a ∷ args) t h = by a.0 a.1 (let e : a.0 ≡ ty.Res = cc in e) h.0
    where
      by : (u : Ty) (v : Val) → u ≡ ty.Res → ResultBelow ws.results u v → ValueBelow ws.results (valued ds v)
      by u (Dynamic d) e h = tt
      by u (Known v) e h = subst (λ u. ResultBelow ws.results u (Known v)) e h
  record-below class.Tuple args t h = tt
  record-below class.Array args t h = tt
  record-below class.BoolRecord args t h = tt
  record-below class.IntRecord args t h = tt
  record-below class.DoubleRecord args t h = tt
  record-below class.Init args t h = tt
  record-below class.Alloc args t h = tt
  record-below class.Release args t h = tt
  record-below class.One args t h = tt
  record-below class.Zero args t h = tt
  record-below class.Equal args t h = tt
  record-below class.Count args t h = tt
  record-below class.Read args t h = tt
  record-below class.Returning args t h = tt
  record-below class.Measure args t h = tt
  record-below class.Gate args t h = tt

  abbrev Does : Item → Type 0
  Does x = Runs l f ws c b here j free ds env st (ticks x) (last_name free x) (did ds st x)

  pub item-runs : (x : Item) → free + length (names_of_item x) ≤ length env → AllHave ws ds env (item_uses x) → ResultsBelow ws.results (item_uses x) → ItemDeclared l ws x → RecordFirst x → StandAt b.insts j (instructions ws free x) → Does x
  item-runs (item.Binary d o g w p q) room a h e t s = binary-item l f ws c b here j free ds env st (omega (arith, room)) d o g w p q a.0 a.1.0 s
  item-runs (item.Icmp d o w p q) room a h e t s = icmp-item l f ws c b here j free ds env st (omega (arith, room)) d o w p q a.0 a.1.0 s
  item-runs (item.Convert d o w p to) room a h e t s = convert-item l f ws c b here j free ds env st (omega (arith, room)) d o w to p a.0 s
  item-runs (item.Select d w p q u) room a h e t s = select-item l f ws c b here j free ds env st (omega (arith, room)) d w p q u a.0 a.1.0 a.1.1.0 s
  item-runs (item.Read d v) room a h e t s = read-item l f ws c b here j free ds env st (omega (arith, room)) bits d v h.0 e s
  item-runs (item.Equal d v u) room a h e t s =
      let n = equal-names d v u in equal-item l f ws c b here j free ds env st d v u (omega (arith, n, room)) bits h.0 h.1.0 e.0 e.1 s
  item-runs (item.Operation name args) room a h e t s = operation-item l f ws c b here j free ds env st name args a e s
  item-runs (item.Output k args) room a h e t s = output-item l f ws c b here j free ds env st bits k args a (record-below k args t h) e s

-- ---- what is left is below

module _ (r : ℕ) (ds : List IntValue) (st : State) (below : BitsBelow r st.bits) where
  computed-below : (o : Result IntValue Cause) → GaveBelow r (computed ds st o)
  computed-below (Ok i) = below
  computed-below (Err why) = tt

  binary-below : (o : BinOp) (g : Flags) (v u : Value) → GaveBelow r (binary_did ds st o g v u)
  binary-below o g (value.Int i) (value.Int j) = computed-below (binary_of o g i j)
  binary-below o g v u = tt

  icmp-below : (o : Pred) (v u : Value) → GaveBelow r (icmp_did ds st o v u)
  icmp-below o (value.Int i) (value.Int j) = below
  icmp-below o v u = tt

  convert-below : (o : Conv) (w : Width) (v : Value) → GaveBelow r (convert_did ds st o w v)
  convert-below o w (value.Int i) = below
  convert-below o w v = tt

  select-below : (v u w : Value) → GaveBelow r (select_did ds st v u w)
  select-below (value.Int c) (value.Int i) (value.Int j) = below
  select-below v u w = tt

  read-below : (g : Got) (go : Bool → Did) → ((b : Bool) → GaveBelow r (go b)) → GaveBelow r (read_did ds st g go)
  read-below (Bit b) go h = h b
  read-below Unset go h = tt
  read-below NoResult go h = tt

  recorded-below : (v : Value) (what : Shown) → GaveBelow r (recorded_did ds st v what)
  recorded-below (value.Label g) what = below
  recorded-below value.NoLabel what = below
  recorded-below v what = tt

  output-below : (c : Class) (vs : List Value) → GaveBelow r (output_did ds st c vs)
  output-below class.Tuple (value.Int i ∷ a ∷ []) = recorded-below a _
  output-below class.Array (value.Int i ∷ a ∷ []) = recorded-below a _
  output-below class.ResRecord (v ∷ a ∷ []) = read-below (bit_read st v) _ (λ b. recorded-below a _)
  output-below class.BoolRecord (value.Int i ∷ a ∷ []) = recorded-below a _
  output-below class.IntRecord (value.Int i ∷ a ∷ []) = recorded-below a _
  output-below class.DoubleRecord (value.Double d ∷ a ∷ []) = recorded-below a _
  output-below c vs = tt

  pub item-below : (x : Item) → ResultsBelow r (item_uses x) → GaveBelow r (did ds st x)
  item-below (item.Binary d o g w p q) h = binary-below o g (valued ds p) (valued ds q)
  item-below (item.Icmp d o w p q) h = icmp-below o (valued ds p) (valued ds q)
  item-below (item.Convert d o w p to) h = convert-below o to (valued ds p)
  item-below (item.Select d w p q u) h = select-below (valued ds p) (valued ds q) (valued ds u)
  item-below (item.Read d v) h = read-below (bit_read st v) _ (λ b. below)
  item-below (item.Equal d v u) h = read-below (bit_read st v) _ (λ a. read-below (bit_read st u) _ (λ b. below))
  item-below (item.Operation name args) h = operation-below r ds st below name args h
  item-below (item.Output k args) h = output-below k (map (λ a. valued ds a.1) args)

-- ---- results below from handles below

module _ (r : Residue) where
  less : (a b : ℕ) → nat_lt a b ≡ true → a < b
  less a b e = grind arith

  one-below : (t : Ty) (v : Val) → handle_below r (t, v) ≡ true → ResultBelow r.own_results t v
  one-below ty.Res (Known (value.Id i)) h = less i r.own_results h
  one-below ty.Res (Known (value.Int i)) h = tt
  one-below ty.Res (Known (value.Double i)) h = tt
  one-below ty.Res (Known (value.Alloc i)) h = tt
  one-below ty.Res (Known (value.Measured i)) h = tt
  one-below ty.Res (Known value.One) h = tt
  one-below ty.Res (Known value.Zero) h = tt
  one-below ty.Res (Known (value.Label i)) h = tt
  one-below ty.Res (Known value.NoLabel) h = tt
  one-below ty.Res (Known (value.Func i)) h = tt
  one-below ty.Res (Dynamic d) h = tt
  one-below ty.Void v h = tt
  one-below (ty.Int w) v h = tt
  one-below ty.Double v h = tt
  one-below ty.Qubit v h = tt
  one-below ty.Text v h = tt
  one-below (ty.Func ws) v h = tt

  pub results-below : (args : List (Ty × Val)) → list_all (handle_below r) args ≡ true → ResultsBelow r.own_results args
  results-below [] h = tt
  results-below (a ∷ args) h = let p = and_parts (handle_below r a) (list_all (handle_below r) args) h in (one-below a.0 a.1 p.0, results-below args p.1)
