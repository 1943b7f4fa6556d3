-- What constant evaluation does at each instruction of a printed Adaptive residue, where every name that is read is Dynamic.
use Rattle.std.proofs.Common.{◌≡◌, ℕ, zero, suc, ◌+◌, Bool, true, false, not, ◌&&◌, Option, None, Some, List, [], ◌∷◌, ◌++◌, map, refl, sym, ap, ◌∙◌, subst}
use mathlib.Core.Logic.{◌⊎◌, inl, inr}
use Rattle.std.proofs.lemmas.Bool.{and_parts}
use Rattle.std.specs.List.{list_all, list_any}
use Rattle.std.specs.Prelude.{⊤, ◌||◌, if◌then◌else◌}
use Rattle.ir_module.specs.declared.places.Point.{Point}
use Rattle.ir_module.specs.declared.tree.Inst.{Inst}
use Rattle.ir_module.specs.declared.tree.InstKind.{InstKind}
use Rattle.ir_module.specs.declared.tree.InstKind.TheVariants as kind
use Rattle.kept_items.specs.declared.target.Kind.TheVariants as reason
use Rattle.ir_module.specs.declared.tree.Operand.{Operand}
use Rattle.ir_module.specs.declared.tree.Operand.TheVariants as operand
use Rattle.ir_module.specs.Operands.{operands_of}
use Rattle.ir_module.specs.Steps.{InstAt}
use Rattle.ir_values.specs.declared.class.Class.{Class}
use Rattle.ir_values.specs.declared.class.Class.TheVariants as class
use Rattle.ir_values.specs.declared.ids.LocalId.{LocalId}
use Rattle.ir_values.specs.declared.int.BinOp.{BinOp}
use Rattle.ir_values.specs.declared.int.Conv.{Conv}
use Rattle.ir_values.specs.declared.int.Flags.{Flags}
use Rattle.ir_values.specs.declared.int.Pred.{Pred}
use Rattle.ir_values.specs.declared.int.Width.{Width}
use Rattle.ir_values.specs.declared.int.Width.TheVariants.{W1}
use Rattle.ir_values.specs.declared.ty.Ty.{Ty}
use Rattle.ir_values.specs.declared.ty.Ty.TheVariants as ty
use Rattle.ir_values.specs.declared.value.Value.{Value}
use Rattle.ir_values.specs.declared.value.Value.TheVariants as value
use Rattle.kept_items.specs.declared.item.Choice.TheVariants.{One}
use Rattle.kept_items.specs.declared.item.Item.{Item}
use Rattle.kept_items.specs.declared.item.Item.TheVariants as item
use Rattle.kept_items.specs.declared.target.Caps.{Caps}
use Rattle.kept_items.specs.declared.target.Target.{Target}
use Rattle.kept_items.specs.declared.target.Target.TheVariants.{Adaptive}
use Rattle.kept_items.specs.declared.val.Dyn.{Dyn}
use Rattle.kept_items.specs.declared.val.Val.{Val}
use Rattle.kept_items.specs.declared.val.Val.TheVariants.{Known, Dynamic}
use Rattle.residue.specs.declared.parts.Residue.{Residue}
use Rattle.residue.specs.Functions.{all_items, initialize, is_constant, read_name, record_name, types_of}
use Rattle.residue.specs.Instructions.{Words, call_void, defining, equal_test, instructions, local, named_value, operand_of, read_into, reads, side_operand, side_reads, typed_operand}
use Rattle.residue.specs.Printed.{initialize_call, printed, words}
use Rattle.residue.specs.Scopes.{gives_of, item_uses}
use Rattle.residue.specs.Valid.{Valid, all_tails, caps_permit, first_known, has_count, is_constant_result, is_int_record, item_compares, output_known, recorded_type, tail_compares, takes_types, val_has}
use Rattle.ir_values.specs.Values.{is_bit, is_bitwise}
use Rattle.static_steps.specs.declared.turn.Turn.{Turn}
use Rattle.static_steps.specs.declared.turn.Turn.TheVariants.{Bad, Goes, Lost}
use Rattle.static_steps.specs.declared.work.Work.{Work}
use Rattle.static_steps.specs.Calls.{class_turn}
use Rattle.static_steps.specs.Integers.{is_number, select_kept}
use Rattle.static_steps.specs.Operations.{typed_args}
use Rattle.static_steps.specs.Records.{outputs, result_output}
use Rattle.static_steps.specs.Results.{by_const, const_bit}
use Rattle.static_steps.specs.Settings.{Setting, bound, goes, kept_if, move_to}
use Rattle.static_steps.specs.Steps.{inst_turn, step_turn, with_vals}
use Rattle.static_steps.specs.Values.{Names, look, one_val, same_known, val_of}
use Rattle.printed_residue.proofs.Calls.{Declares}
use Rattle.printed_residue.proofs.Declared.{Among, fits}
use Rattle.printed_residue.proofs.Ends.{initialize-declared}
use Rattle.printed_residue.proofs.Facts.{passes-here}
use Rattle.printed_residue.proofs.Lines.{item-declared}
use Rattle.printed_residue.proofs.Running.{ReadDeclared}
use Rattle.numbered_residue.proofs.Forms.{item-uses-pass, second-passes, third-passes}
use Rattle.profiled_residue.proofs.Permitted.{item-permitted}
use Rattle.settled_lowering.proofs.Turns.{AllPlain, AreRead, IsPlain, IsRead, args-typed, called-turn, known-plain, operation-turn, or_none, read, reads_of, vals-read}
use Rattle.settled_adaptive.specs.Undecided.{is_undecided, varies}

clash : false ≡ true → ⊥
clash e = cc

abbrev is_local : Operand → Bool
is_local (operand.Const v) = false
is_local (operand.Local x) = true

operand-local : (ws : Words) (a : Val) → is_local (operand_of ws a) ≡ varies a
operand-local ws (Known v) = refl
operand-local ws (Dynamic d) = refl

side-local : (n : ℕ) (v : Value) → is_local (side_operand n v) ≡ not (is_constant v)
side-local n value.One = refl
side-local n value.Zero = refl
side-local n (value.Int i) = refl
side-local n (value.Double i) = refl
side-local n (value.Id i) = refl
side-local n (value.Alloc i) = refl
side-local n (value.Measured i) = refl
side-local n (value.Label i) = refl
side-local n value.NoLabel = refl
side-local n (value.Func i) = refl

not-both : (a b : Bool) → not (a && b) ≡ true → (not a || not b) ≡ true
not-both true true h = h
not-both true false h = refl
not-both false b h = refl

not-true : (b : Bool) → not b ≡ true → b ≡ false
not-true true h = cc
not-true false h = refl

or-swapped : (a b c : Bool) → (a || (b && c)) ≡ true → (a || (c && b)) ≡ true
or-swapped true b c h = refl
or-swapped false true true h = refl
or-swapped false true false h = h
or-swapped false false c h = cc

or-only : (a : Bool) → (a || false) ≡ true → a ≡ true
or-only true h = refl
or-only false h = h

module _ (r : Residue) (caps : Caps) (ok : Valid r (Adaptive caps)) (undecided : list_all is_undecided (all_items r) ≡ true) (live : Point → LocalId → Bool) (w : Work) (fresh : Dyn) where
  abbrev t : Target
  t = Adaptive caps

  abbrev ws : Words
  ws = words r

  abbrev ns : Names Val
  ns = w.top.names

  abbrev pub s : Setting
  s = record { m = printed r t; t = t; live = live; w = w; fresh = fresh }

  -- a name that is read is Dynamic
  abbrev pub OperandHas : Operand → Type 0
  OperandHas (operand.Const v) = ⊤
  OperandHas (operand.Local x) = (e : Dyn) × (look x ns ≡ Some (Dynamic e))

  abbrev pub AllHave : List Operand → Type 0
  AllHave [] = ⊤
  AllHave (a ∷ rest) = OperandHas a × AllHave rest

  -- on to the next point, with a Dynamic result if it has one
  pub record Passes (x : Option LocalId) (turn : Turn) : Type 0 where
    pub given : Dyn
    pub left : Option Item
    pub is : turn ≡ Goes (move_to live (bound s x (Dynamic given)) ∷ []) left One

  passes-by : (x : Option LocalId) (a b : Turn) → a ≡ b → Passes x b → Passes x a
  passes-by x a b e p = record { given = p.given; left = p.left; is = e ∙ p.is }

  permitted-passes : (x : Option LocalId) (b : Bool) (i : Item) → b ≡ true → Passes x (kept_if s x b i)
  permitted-passes x true i e = record { given = fresh; left = Some i; is = refl }
  permitted-passes x false i e = absurd (clash e)

  -- ---- integers

  binary-passes : (n : ℕ) (o : BinOp) (g : Flags) (wd : Width) (a b : Operand) → OperandHas a → OperandHas b → (is_local a || is_local b) ≡ true → (caps.ints || (is_bit wd && is_bitwise o)) ≡ true
      → Passes (Some (local n)) (step_turn s (InstAt (defining n (kind.Binary o g (ty.Int wd) a b))))
  binary-passes n o g wd (operand.Const v) (operand.Const u) h k l p = absurd (clash l)
  binary-passes n o g wd (operand.Const v) (operand.Local y) h k l p =
      passes-by (Some (local n)) _ _ (ap (λ z. with_vals (one_val (Some (Known v)) (one_val z (Some []))) (inst_turn s (Some (local n)) (kind.Binary o g (ty.Int wd) (operand.Const v) (operand.Local y)))) k.1)
      (permitted-passes (Some (local n)) (caps.ints || (is_bit wd && is_bitwise o)) _ p)
  binary-passes n o g wd (operand.Local x) (operand.Const u) h k l p =
      passes-by (Some (local n)) _ _ (ap (λ z. with_vals (one_val z (one_val (Some (Known u)) (Some []))) (inst_turn s (Some (local n)) (kind.Binary o g (ty.Int wd) (operand.Local x) (operand.Const u)))) h.1)
      (permitted-passes (Some (local n)) (caps.ints || (is_bit wd && is_bitwise o)) _ p)
  binary-passes n o g wd (operand.Local x) (operand.Local y) h k l p =
      passes-by (Some (local n)) _ _
      (ap (λ z. with_vals (one_val z (one_val (look y ns) (Some []))) (inst_turn s (Some (local n)) (kind.Binary o g (ty.Int wd) (operand.Local x) (operand.Local y)))) h.1
      ∙ ap (λ z. with_vals (one_val (Some (Dynamic h.0)) (one_val z (Some []))) (inst_turn s (Some (local n)) (kind.Binary o g (ty.Int wd) (operand.Local x) (operand.Local y)))) k.1)
      (permitted-passes (Some (local n)) (caps.ints || (is_bit wd && is_bitwise o)) _ p)

  icmp-passes : (n : ℕ) (o : Pred) (wd : Width) (a b : Operand) → OperandHas a → OperandHas b → (is_local a || is_local b) ≡ true → (caps.ints || is_bit wd) ≡ true
      → Passes (Some (local n)) (step_turn s (InstAt (defining n (kind.Icmp o (ty.Int wd) a b))))
  icmp-passes n o wd (operand.Const v) (operand.Const u) h k l p = absurd (clash l)
  icmp-passes n o wd (operand.Const v) (operand.Local y) h k l p =
      passes-by (Some (local n)) _ _ (ap (λ z. with_vals (one_val (Some (Known v)) (one_val z (Some []))) (inst_turn s (Some (local n)) (kind.Icmp o (ty.Int wd) (operand.Const v) (operand.Local y)))) k.1)
      (permitted-passes (Some (local n)) (caps.ints || is_bit wd) _ p)
  icmp-passes n o wd (operand.Local x) (operand.Const u) h k l p =
      passes-by (Some (local n)) _ _ (ap (λ z. with_vals (one_val z (one_val (Some (Known u)) (Some []))) (inst_turn s (Some (local n)) (kind.Icmp o (ty.Int wd) (operand.Local x) (operand.Const u)))) h.1)
      (permitted-passes (Some (local n)) (caps.ints || is_bit wd) _ p)
  icmp-passes n o wd (operand.Local x) (operand.Local y) h k l p =
      passes-by (Some (local n)) _ _
      (ap (λ z. with_vals (one_val z (one_val (look y ns) (Some []))) (inst_turn s (Some (local n)) (kind.Icmp o (ty.Int wd) (operand.Local x) (operand.Local y)))) h.1
      ∙ ap (λ z. with_vals (one_val (Some (Dynamic h.0)) (one_val z (Some []))) (inst_turn s (Some (local n)) (kind.Icmp o (ty.Int wd) (operand.Local x) (operand.Local y)))) k.1)
      (permitted-passes (Some (local n)) (caps.ints || is_bit wd) _ p)

  convert-passes : (n : ℕ) (o : Conv) (wd to : Width) (a : Operand) → OperandHas a → is_local a ≡ true → caps.ints ≡ true → Passes (Some (local n)) (step_turn s (InstAt (defining n (kind.Convert o (ty.Int wd) a (ty.Int to)))))
  convert-passes n o wd to (operand.Const v) h l p = absurd (clash l)
  convert-passes n o wd to (operand.Local x) h l p =
      passes-by (Some (local n)) _ _ (ap (λ z. with_vals (one_val z (Some [])) (inst_turn s (Some (local n)) (kind.Convert o (ty.Int wd) (operand.Local x) (ty.Int to)))) h.1)
      (permitted-passes (Some (local n)) caps.ints _ p)

  -- the value of an integer operand, known or Dynamic
  record NumberIs (a : Val) : Type 0 where
    val : Val
    is : val_of ns (operand_of ws a) ≡ Some val
    number : is_number val ≡ true
    same : (val ≡ a) ⊎ ((e : Dyn) × (val ≡ Dynamic e))

  number-is : (wd : Width) (a : Val) → val_has (gives_of r) (ty.Int wd) a ≡ true → OperandHas (operand_of ws a) → NumberIs a
  number-is wd (Dynamic d) h k = record { val = Dynamic k.0; is = k.1; number = refl; same = inr (k.0, refl) }
  number-is wd (Known (value.Int i)) h k = record { val = Known (value.Int i); is = refl; number = refl; same = inl refl }
  number-is wd (Known value.One) h k = cc
  number-is wd (Known value.Zero) h k = cc
  number-is wd (Known (value.Double i)) h k = cc
  number-is wd (Known (value.Id i)) h k = cc
  number-is wd (Known (value.Alloc i)) h k = cc
  number-is wd (Known (value.Measured i)) h k = cc
  number-is wd (Known (value.Label i)) h k = cc
  number-is wd (Known value.NoLabel) h k = cc
  number-is wd (Known (value.Func i)) h k = cc

  differ-still : (a b : Val) (p : NumberIs a) (q : NumberIs b) → same_known a b ≡ false → same_known p.val q.val ≡ false
  differ-still a b p q h = by p.same q.same
    where
      dynamic-last : (u : Val) (e : Dyn) → same_known u (Dynamic e) ≡ false
      dynamic-last (Known v) e = refl
      dynamic-last (Dynamic d) e = refl

      by : (p.val ≡ a) ⊎ ((e : Dyn) × (p.val ≡ Dynamic e)) → (q.val ≡ b) ⊎ ((e : Dyn) × (q.val ≡ Dynamic e)) → same_known p.val q.val ≡ false
      by (inl x) (inl y) = ap (λ u. same_known u q.val) x ∙ ap (same_known a) y ∙ h
      by (inr x) y = ap (λ u. same_known u q.val) x.1
      by (inl x) (inr y) = ap (same_known p.val) y.1 ∙ dynamic-last p.val y.0

  select-passes : (n : ℕ) (wd : Width) (d : Dyn) (a b : Val) → OperandHas (operand.Local (local (ws.name_of d.0))) → NumberIs a → NumberIs b → same_known a b ≡ false → (caps.ints || is_bit wd) ≡ true
      → Passes (Some (local n)) (step_turn s (InstAt (defining n (kind.Select (operand_of ws (Dynamic d)) (ty.Int wd) (operand_of ws a) (ty.Int wd) (operand_of ws b)))))
  select-passes n wd d a b h p q same permit =
      passes-by (Some (local n)) _ _
      (ap (λ z. with_vals (one_val z (one_val (val_of ns (operand_of ws a)) (one_val (val_of ns (operand_of ws b)) (Some [])))) (inst_turn s (Some (local n)) what)) h.1
      ∙ ap (λ z. with_vals (one_val (Some (Dynamic h.0)) (one_val z (one_val (val_of ns (operand_of ws b)) (Some [])))) (inst_turn s (Some (local n)) what)) p.is
      ∙ ap (λ z. with_vals (one_val (Some (Dynamic h.0)) (one_val (Some p.val) (one_val z (Some [])))) (inst_turn s (Some (local n)) what)) q.is
      ∙ ap (λ z. if z then goes s (bound s (Some (local n)) p.val) else select_kept s (Some (local n)) (ty.Int wd) h.0 p.val q.val) (differ-still a b p q same)
      ∙ ap (λ z. if z && is_number q.val then kept_if s (Some (local n)) (caps.ints || is_bit wd) (item.Select fresh wd (Dynamic h.0) p.val q.val) else Lost) p.number
      ∙ ap (λ z. if z then kept_if s (Some (local n)) (caps.ints || is_bit wd) (item.Select fresh wd (Dynamic h.0) p.val q.val) else Lost) q.number)
      (permitted-passes (Some (local n)) (caps.ints || is_bit wd) (item.Select fresh wd (Dynamic h.0) p.val q.val) permit)
    where
      what : InstKind
      what = kind.Select (operand_of ws (Dynamic d)) (ty.Int wd) (operand_of ws a) (ty.Int wd) (operand_of ws b)

  -- ---- calls

  initialized : Passes None (step_turn s (InstAt initialize_call))
  initialized = record {
    given = fresh;
    left = None;
    is = called-turn s None ty.Void (record { 0 = 1 }) ((ty.Text, operand.Const value.NoLabel) ∷ []) initialize.name class.Init (initialize-declared r t) (Known value.NoLabel ∷ []) refl;
  }

  const-none : (v : Value) → is_constant v ≡ false → const_bit (named_value ws v) ≡ None
  const-none value.One h = cc
  const-none value.Zero h = cc
  const-none (value.Int i) h = refl
  const-none (value.Double i) h = refl
  const-none (value.Id i) h = refl
  const-none (value.Alloc i) h = refl
  const-none (value.Measured i) h = refl
  const-none (value.Label i) h = refl
  const-none value.NoLabel h = refl
  const-none (value.Func i) h = refl

  read-passes : (n : ℕ) (v : Value) → Declares (printed r t) (ws.function read_name) read_name class.Read → is_constant v ≡ false → Passes (Some (local n)) (step_turn s (InstAt (read_into ws n v)))
  read-passes n v d h = record {
    given = fresh;
    left = Some (item.Read fresh (named_value ws v));
    is =
        called-turn s (Some (local n)) (ty.Int W1) (ws.function read_name) ((ty.Res, operand.Const (named_value ws v)) ∷ []) read_name class.Read d (Known (named_value ws v) ∷ []) refl
        ∙ ap (λ o. by_const s (Some (local n)) o (item.Read fresh (named_value ws v))) (const-none v h);
  }

  args-have : (args : List (Ty × Val)) → AllHave (map (λ a. a.1) (map (typed_operand ws) args)) → AreRead ws ns args
  args-have [] h = tt
  args-have (a ∷ args) h = (one a.1 h.0, args-have args h.1)
    where
      one : (a : Val) → OperandHas (operand_of ws a) → IsRead ws ns a
      one (Known v) h = refl
      one (Dynamic d) h = h.1 ∙ ap Some (sym (ap or_none h.1))

  args-plain : (args : List (Ty × Val)) → AllHave (map (λ a. a.1) (map (typed_operand ws) args)) → not (list_any (λ a. is_constant_result a.1) args) ≡ true → AllPlain ws ns args
  args-plain [] h k = tt
  args-plain (a ∷ args) h k = let q = none-of (is_constant_result a.1) (list_any (λ a. is_constant_result a.1) args) k in (one a.1 h.0 q.0, args-plain args h.1 q.1)
    where
      none-of : (a b : Bool) → not (a || b) ≡ true → (a ≡ false) × (not b ≡ true)
      none-of true b h = cc
      none-of false b h = (refl, h)

      one : (a : Val) → OperandHas (operand_of ws a) → is_constant_result a ≡ false → IsPlain ws ns (read ws ns a)
      one (Known v) h k = known-plain ws ns (Known v) refl k
      one (Dynamic d) h k = subst (IsPlain ws ns) (sym (ap or_none h.1)) tt

  plain-item : (x : Item) → Among (all_items r) x → item_compares x ≡ true
  plain-item x a = passes-here item_compares (all_items r) a.0 x (and_parts (list_all item_compares (all_items r)) (all_tails tail_compares r) ok.constants).0 a.1

  operation-passes : (name : List ℕ) (args : List (Ty × Val)) → Among (all_items r) (item.Operation name args) → AllHave (map (λ a. a.1) (map (typed_operand ws) args)) → Passes None (step_turn s (InstAt (call_void ws name args)))
  operation-passes name args a h = record {
    given = fresh;
    left = Some (item.Operation name (reads_of ws ns args));
    is = operation-turn s ws name args (ws.function name) (item-declared r t ok (item.Operation name args) a) (args-have args h) (args-plain args h (plain-item (item.Operation name args) a));
  }

  abbrev values : List (Ty × Val) → List Val
  values args = map (λ a. read ws ns a.1) args

  int-recorded : (args : List (Ty × Val)) (ts : List Ty) (b : Bool) → b ≡ true → (if b then outputs s class.IntRecord (typed_args ts (values args)) else Bad reason.Capability) ≡ outputs s class.IntRecord (typed_args ts (values args))
  int-recorded args ts true e = refl
  int-recorded args ts false e = absurd (clash e)

  record-turn : (c : Class) (args : List (Ty × Val)) → takes_types (recorded_type c) (types_of args) ≡ true → caps_permit caps (item.Output c args) ≡ true → AllHave (map (λ a. a.1) (map (typed_operand ws) args)) → not (list_any (λ a. is_constant_result a.1) args) ≡ true
      → (f : _) (name : List ℕ) (ts : List Ty) → class_turn s None f name c ts (values args) ≡ outputs s c (typed_args ts (values args))
  record-turn class.Tuple [] k p h n f name ts = refl
  record-turn class.Tuple ((u, Known v) ∷ args) k p h n f name ts = refl
  record-turn class.Tuple ((u, Dynamic d) ∷ args) k p h n f name ts = cc
  record-turn class.Array [] k p h n f name ts = refl
  record-turn class.Array ((u, Known v) ∷ args) k p h n f name ts = refl
  record-turn class.Array ((u, Dynamic d) ∷ args) k p h n f name ts = cc
  record-turn class.ResRecord [] k p h n f name ts = refl
  record-turn class.ResRecord ((u, Dynamic d) ∷ args) k p h n f name ts =
      ap (λ o. result_output s ts (or_none o ∷ values args)) h.0.1 ∙ ap (λ o. outputs s class.ResRecord (typed_args ts (or_none o ∷ values args))) (sym h.0.1)
  record-turn class.ResRecord ((u, Known value.One) ∷ args) k p h n f name ts = cc
  record-turn class.ResRecord ((u, Known value.Zero) ∷ args) k p h n f name ts = cc
  record-turn class.ResRecord ((u, Known (value.Int i)) ∷ args) k p h n f name ts = refl
  record-turn class.ResRecord ((u, Known (value.Double i)) ∷ args) k p h n f name ts = refl
  record-turn class.ResRecord ((u, Known (value.Id i)) ∷ args) k p h n f name ts = refl
  record-turn class.ResRecord ((u, Known (value.Alloc i)) ∷ args) k p h n f name ts = refl
  record-turn class.ResRecord ((u, Known (value.Measured i)) ∷ args) k p h n f name ts = refl
  record-turn class.ResRecord ((u, Known (value.Label i)) ∷ args) k p h n f name ts = refl
  record-turn class.ResRecord ((u, Known value.NoLabel) ∷ args) k p h n f name ts = refl
  record-turn class.ResRecord ((u, Known (value.Func i)) ∷ args) k p h n f name ts = refl
  record-turn class.BoolRecord args k p h n f name ts = refl
  record-turn class.DoubleRecord args k p h n f name ts = refl
  record-turn class.IntRecord args k p h n f name ts = int-recorded args ts caps.ints (or-only caps.ints (and_parts (not (has_count class.IntRecord) || first_known args) (caps.ints || not (is_int_record class.IntRecord)) p).1)
  record-turn c args k p h n f name ts = cc

  output-passes : (c : Class) (args : List (Ty × Val)) → Among (all_items r) (item.Output c args) → AllHave (map (λ a. a.1) (map (typed_operand ws) args)) → Passes None (step_turn s (InstAt (call_void ws (record_name c) args)))
  output-passes c args a h =
      let d = item-declared r t ok (item.Output c args) a in record {
        given = fresh;
        left = Some (item.Output c (reads_of ws ns args));
        is =
            called-turn s None ty.Void (ws.function (record_name c)) (map (typed_operand ws) args) (record_name c) c d (values args) (vals-read ws ns args (args-have args h))
            ∙ record-turn c args (passes-here output_known (all_items r) a.0 (item.Output c args) ok.outputs a.1) (item-permitted r caps ok (item.Output c args) a) h (plain-item (item.Output c args) a) d.function (record_name c) (map (λ a. a.0) (map (typed_operand ws) args))
            ∙ ap (outputs s c) (args-typed ws ns args);
      }

  -- ---- the instructions of an item

  single : (c i : Inst) → Among (c ∷ []) i → c ≡ i
  single c i (zero, e) = let z : c ≡ i = cc in z
  single c i (suc n, e) = cc

  side-declared : (v : Value) → is_constant v ≡ false → ReadDeclared (printed r t) ws v → Declares (printed r t) (ws.function read_name) read_name class.Read
  side-declared value.One e d = cc
  side-declared value.Zero e d = cc
  side-declared (value.Int i) e d = d
  side-declared (value.Double i) e d = d
  side-declared (value.Id i) e d = d
  side-declared (value.Alloc i) e d = d
  side-declared (value.Measured i) e d = d
  side-declared (value.Label i) e d = d
  side-declared value.NoLabel e d = d
  side-declared (value.Func i) e d = d

  abbrev Turns : Inst → Type 0
  Turns i = AllHave (operands_of i.what) → Passes i.result (step_turn s (InstAt i))

  side-turns : (n : ℕ) (v : Value) (i : Inst) → ReadDeclared (printed r t) ws v → Among (side_reads ws n v) i → Turns i
  side-turns n v i d a = by (is_constant v) refl a
    where
      by : (b : Bool) → is_constant v ≡ b → Among (if b then [] else (read_into ws n v ∷ [])) i → Turns i
      by true e a = let z = a.1 in cc
      by false e a = subst Turns (single (read_into ws n v) i a) (λ h. read-passes n v (side-declared v e d) e)

  either : (xs ys : List Inst) (i : Inst) → Among (xs ++ ys) i → Among xs i ⊎ Among ys i
  either [] ys i a = inr a
  either (x ∷ xs) ys i (zero, e) = inl (zero, e)
  either (x ∷ xs) ys i (suc n, e) = by (either xs ys i (n, e))
    where
      by : Among xs i ⊎ Among ys i → Among (x ∷ xs) i ⊎ Among ys i
      by (inl a) = inl (suc a.0, a.1)
      by (inr a) = inr a

  undecided-item : (x : Item) → Among (all_items r) x → is_undecided x ≡ true
  undecided-item x a = passes-here is_undecided (all_items r) a.0 x undecided a.1

  one-local : (a b : Val) → (varies a || varies b) ≡ true → (is_local (operand_of ws a) || is_local (operand_of ws b)) ≡ true
  one-local a b h = ap (λ z. z || is_local (operand_of ws b)) (operand-local ws a) ∙ ap (λ z. varies a || z) (operand-local ws b) ∙ h

  pub item-turns : (x : Item) → Among (all_items r) x → (n : ℕ) (i : Inst) → Among (instructions ws n x) i → Turns i
  item-turns (item.Binary d o g wd p q) a n i m = subst Turns (single _ i m) (λ h. binary-passes n o g wd (operand_of ws p) (operand_of ws q) h.0 h.1.0 (one-local p q (undecided-item (item.Binary d o g wd p q) a)) (or-swapped caps.ints (is_bitwise o) (is_bit wd) (item-permitted r caps ok (item.Binary d o g wd p q) a)))
  item-turns (item.Icmp d o wd p q) a n i m = subst Turns (single _ i m) (λ h. icmp-passes n o wd (operand_of ws p) (operand_of ws q) h.0 h.1.0 (one-local p q (undecided-item (item.Icmp d o wd p q) a)) (item-permitted r caps ok (item.Icmp d o wd p q) a))
  item-turns (item.Convert d o wd p to) a n i m = subst Turns (single _ i m) (λ h. convert-passes n o wd to (operand_of ws p) h.0 (operand-local ws p ∙ undecided-item (item.Convert d o wd p to) a) (or-only caps.ints (item-permitted r caps ok (item.Convert d o wd p to) a)))
  item-turns (item.Select d wd c p q) a n i m = subst Turns (single _ i m) (by c refl)
    where
      uses : list_all (fits (gives_of r)) (item_uses (item.Select d wd c p q)) ≡ true
      uses = item-uses-pass (fits (gives_of r)) r (item.Select d wd c p q) ok.types a

      test : (varies c ≡ true) × (not (same_known p q) ≡ true)
      test = and_parts (varies c) (not (same_known p q)) (undecided-item (item.Select d wd c p q) a)

      by : (c' : Val) → c ≡ c' → Turns (defining n (kind.Select (operand_of ws c) (ty.Int wd) (operand_of ws p) (ty.Int wd) (operand_of ws q)))
      by (Known v) e = absurd (clash (sym (ap varies e) ∙ test.0))
      by (Dynamic k) e =
          subst (λ c. Turns (defining n (kind.Select (operand_of ws c) (ty.Int wd) (operand_of ws p) (ty.Int wd) (operand_of ws q)))) (sym e)
          (λ h. select-passes n wd k p q h.0
          (number-is wd p (second-passes (fits (gives_of r)) (ty.Int W1, c) (ty.Int wd, p) ((ty.Int wd, q) ∷ []) uses) h.1.0)
          (number-is wd q (third-passes (fits (gives_of r)) (ty.Int W1, c) (ty.Int wd, p) (ty.Int wd, q) [] uses) h.1.1.0)
          (not-true (same_known p q) test.1) (item-permitted r caps ok (item.Select d wd c p q) a))
  item-turns (item.Read d v) a n i m = subst Turns (single _ i m) (λ h. read-passes n v (item-declared r t ok (item.Read d v) a) (not-true (is_constant v) (undecided-item (item.Read d v) a)))
  item-turns (item.Equal d v u) a n i m =
      let k = item-declared r t ok (item.Equal d v u) a in
      by k.0 k.1 (either (side_reads ws n v) (side_reads ws (n + reads v) u ++ equal_test n v u ∷ []) i m)
    where
      tested : Turns (equal_test n v u)
      tested h =
          icmp-passes (n + reads v + reads u) _ W1 (side_operand n v) (side_operand (n + reads v) u) h.0 h.1.0
          (ap (λ z. z || is_local (side_operand (n + reads v) u)) (side-local n v) ∙ ap (λ z. not (is_constant v) || z) (side-local (n + reads v) u) ∙ not-both (is_constant v) (is_constant u) (undecided-item (item.Equal d v u) a))
          (or-true caps.ints)
        where
          or-true : (b : Bool) → (b || true) ≡ true
          or-true true = refl
          or-true false = refl

      last : ReadDeclared (printed r t) ws u → Among (side_reads ws (n + reads v) u) i ⊎ Among (equal_test n v u ∷ []) i → Turns i
      last e (inl b) = side-turns (n + reads v) u i e b
      last e (inr b) = subst Turns (single (equal_test n v u) i b) tested

      by : ReadDeclared (printed r t) ws v → ReadDeclared (printed r t) ws u → Among (side_reads ws n v) i ⊎ Among (side_reads ws (n + reads v) u ++ equal_test n v u ∷ []) i → Turns i
      by e f (inl b) = side-turns n v i e b
      by e f (inr b) = last f (either (side_reads ws (n + reads v) u) (equal_test n v u ∷ []) i b)
  item-turns (item.Operation name args) a n i m = subst Turns (single _ i m) (λ h. operation-passes name args a h.1)
  item-turns (item.Output c args) a n i m = subst Turns (single _ i m) (λ h. output-passes c args a h.1)

  pub initial-turns : Turns initialize_call
  initial-turns h = initialized
