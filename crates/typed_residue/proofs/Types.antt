-- The types in the printed module agree.
use Rattle.std.proofs.Common.{◌≡◌, ℕ, zero, suc, ◌+◌, ◌<◌, Bool, true, false, ◌&&◌, Option, None, Some, List, [], ◌∷◌, ◌++◌, length, map, take, refl, sym, ap, ◌∙◌, subst, arith, append_assoc, length-append, option_map}
use Rattle.std.proofs.lemmas.Bool.{and_parts}
use Rattle.std.proofs.lemmas.Option.{slice_get-map}
use Rattle.std.specs.List.{list_all}
use Rattle.std.specs.Prelude.{if◌then◌else◌, is_some, slice_get, slice_index_or}
use Rattle.ir_module.specs.declared.tree.Function.{Function}
use Rattle.ir_module.specs.declared.tree.InstKind.TheVariants as kind
use Rattle.ir_module.specs.declared.tree.Module.{Module}
use Rattle.ir_module.specs.declared.tree.Operand.{Operand}
use Rattle.ir_module.specs.declared.tree.Operand.TheVariants as operand
use Rattle.ir_module.specs.Classes.{type_words}
use Rattle.ir_module.specs.Numbered.{all_steps}
use Rattle.ir_module.specs.Steps.{Step, PhiAt, InstAt, TermAt}
use Rattle.ir_values.specs.declared.ids.BlockId.{BlockId}
use Rattle.ir_values.specs.declared.int.Width.{Width}
use Rattle.ir_values.specs.declared.int.Width.TheVariants.{W1, W64}
use Rattle.ir_values.specs.declared.ty.Ty.{Ty}
use Rattle.ir_values.specs.declared.ty.Ty.TheVariants as ty
use Rattle.ir_values.specs.declared.value.Value.{Value}
use Rattle.ir_values.specs.declared.value.Value.TheVariants as value
use Rattle.ir_values.specs.Calls.{same_words}
use Rattle.ir_values.specs.Int.{IntValue}
use Rattle.ir_values.specs.Types.{signature}
use Rattle.ir_values.specs.Values.{same_width}
use Rattle.ir_values.proofs.WordLemmas.{same_words_decides}
use Rattle.kept_items.specs.declared.item.Item.{Item}
use Rattle.kept_items.specs.declared.item.Item.TheVariants as item
use Rattle.kept_items.specs.declared.target.Target.{Target}
use Rattle.kept_items.specs.declared.val.Dyn.{Dyn}
use Rattle.kept_items.specs.declared.val.Val.{Val}
use Rattle.kept_items.specs.declared.val.Val.TheVariants.{Known, Dynamic}
use Rattle.residue.specs.declared.parts.Jump.{Jump}
use Rattle.residue.specs.declared.parts.Part.{Part}
use Rattle.residue.specs.declared.parts.Residue.{Residue}
use Rattle.residue.specs.declared.parts.Tail.{Tail}
use Rattle.residue.specs.declared.parts.Tail.TheVariants as tail
use Rattle.residue.specs.Functions.{Called, all_items, called, calls_of, calls_of_residue, declaration, declared_of, first_uses, initialize, is_among, is_constant, place_among, read_result, reading, record_name, types_of}
use Rattle.residue.specs.Instructions.{Words, block_number, call_void, instructions, local, names_of_item, named_value, operand_of, print_tail, read_into, reads, side_operand, typed_operand}
use Rattle.residue.specs.Printed.{argument, edges_to, entries, initialize_call, names_of, names_of_items, names_of_params, printed, printed_entry, words}
use Rattle.residue.specs.Scopes.{gives_of, item_uses, items_of, jumps, tail_uses, width_in}
use Rattle.residue.specs.Valid.{Valid, all_alike, all_agree, all_tails, args_fit, fits_part, is_instruction, is_of_width, item_allowed, val_has, value_has}
use Rattle.type_check.specs.Rules.{kind_agrees, result_agrees, shape_agrees}
use Rattle.type_check.specs.Typing.{all_have, condition, constant_has, has_words, is_of_type, operand_has, phi_wants, same_type, wants}
use Rattle.printed_residue.specs.Places.{names_before}
use Rattle.printed_residue.proofs.Declared.{Among, Finds, among-back, among-front, call-finds, declared-types, fits}
use Rattle.printed_residue.proofs.Facts.{cut, passes-here}
use Rattle.printed_residue.proofs.Lines.{all-typed}
use Rattle.printed_residue.proofs.Naming.{equal-names, names-by}
use Rattle.numbered_residue.proofs.Forms.{equal-passes, first-passes, item-uses-pass, second-passes, tail-uses-pass, third-passes}
use Rattle.numbered_residue.proofs.Passing.{all-map, all-steps, entry-passes}
use Rattle.typed_residue.proofs.Edges.{entries-there-pass}
use Rattle.typed_residue.proofs.Placed.{Names, dynamic-type, equal-are, placed, placed-among, type_at}
use Rattle.numbered_residue.proofs.Shared.{both, three, two, width-itself}

-- the first of what is there stays the first
first-stays : (cs : List Called) (c : Called) (there : List Called) → slice_get (first_uses (c ∷ there) cs) 0 ≡ Some c
first-stays [] c there = refl
first-stays (y ∷ cs) c there = by (is_among (c ∷ there) y.name) (first-stays cs c there) (first-stays cs c (there ++ y ∷ []))
  where
    by : (b : Bool) → slice_get (first_uses (c ∷ there) cs) 0 ≡ Some c → slice_get (first_uses (c ∷ (there ++ y ∷ [])) cs) 0 ≡ Some c → slice_get (first_uses (if b then c ∷ there else c ∷ (there ++ y ∷ [])) cs) 0 ≡ Some c
    by true h g = h
    by false h g = g

-- two integer types of one width are one
ints-alike : (v w : Width) → same_width v w ≡ true → same_type (ty.Int v) (ty.Int w) ≡ true
unfolding same_type
ints-alike v w h = h

module _ (r : Residue) (t : Target) (ok : Valid r t) where
  abbrev m : Module
  m = printed r t

  abbrev f : Function
  f = printed_entry r t

  abbrev ws : Words
  ws = words r

  -- ---- operands

  value-typed : (u : Ty) (v : Value) → value_has u v ≡ true → constant_has m (named_value ws v) u ≡ true
  value-typed (ty.Int w) (value.Int i) h = h
  value-typed ty.Double (value.Double s) h = refl
  value-typed ty.Qubit (value.Id n) h = refl
  value-typed ty.Qubit (value.Alloc n) h = refl
  value-typed ty.Res (value.Id n) h = refl
  value-typed ty.Res (value.Measured n) h = refl
  value-typed ty.Res value.One h = refl
  value-typed ty.Res value.Zero h = refl
  value-typed ty.Text (value.Label g) h = refl
  value-typed ty.Text value.NoLabel h = refl
  value-typed u v h = cc

  of-type : (o : Option Ty) (v w : Width) → o ≡ Some (ty.Int v) → same_width v w ≡ true → is_of_type o (ty.Int w) ≡ true
  of-type o v w e h = ap (λ x. is_of_type x (ty.Int w)) e ∙ ints-alike v w h

  dynamic-typed : (d : ℕ) (w : Width) (o : Option Width) → width_in (gives_of r) d ≡ o → is_of_width w o ≡ true → is_of_type (type_at f.locals (ws.name_of d)) (ty.Int w) ≡ true
  dynamic-typed d w None e h = cc
  dynamic-typed d w (Some v) e h = of-type (type_at f.locals (ws.name_of d)) v w (dynamic-type r.parts d v e) h

  operand-typed : (u : Ty) (a : Val) → val_has (gives_of r) u a ≡ true → operand_has m f (operand_of ws a) u ≡ true
  operand-typed u (Known v) h = of-known u h
    where
      of-known : (u : Ty) → val_has (gives_of r) u (Known v) ≡ true → constant_has m (named_value ws v) u ≡ true
      of-known ty.Void h = value-typed ty.Void v h
      of-known (ty.Int w) h = value-typed (ty.Int w) v h
      of-known ty.Double h = value-typed ty.Double v h
      of-known ty.Qubit h = value-typed ty.Qubit v h
      of-known ty.Res h = value-typed ty.Res v h
      of-known ty.Text h = value-typed ty.Text v h
      of-known (ty.Func us) h = value-typed (ty.Func us) v h
  operand-typed (ty.Int w) (Dynamic d) h = dynamic-typed d.0 w (width_in (gives_of r) d.0) refl h
  operand-typed ty.Void (Dynamic d) h = cc
  operand-typed ty.Double (Dynamic d) h = cc
  operand-typed ty.Qubit (Dynamic d) h = cc
  operand-typed ty.Res (Dynamic d) h = cc
  operand-typed ty.Text (Dynamic d) h = cc
  operand-typed (ty.Func us) (Dynamic d) h = cc

  abbrev fit : Ty × Val → Bool
  fit a = fits (gives_of r) a

  typed : (u : Ty) (a : Val) → fit (u, a) ≡ true → operand_has m f (operand_of ws a) u ≡ true
  typed u a h = operand-typed u a h

  args-typed : (args : List (Ty × Val)) → list_all fit args ≡ true → all_have m f (map (typed_operand ws) args) ≡ true
  args-typed [] h = refl
  args-typed (a ∷ args) h =
      let p = and_parts (fit a) (list_all fit args) h in
      both (operand_has m f (operand_of ws a.1) a.0) (all_have m f (map (typed_operand ws) args)) (typed a.0 a.1 p.0) (args-typed args p.1)

  -- ---- what is called

  all-items-typed : list_all (λ x. list_all fit (item_uses x)) (all_items r) ≡ true
  all-items-typed = all-typed fit r.parts ok.types

  finds : (x : Item) (c : Called) → (a : Among (all_items r) x) → Among (calls_of x) c → Finds (declared_of r) c
  finds x c a b =
      let i = and_parts (list_all is_instruction (all_items r)) (all_alike (calls_of_residue r)) ok.calls in
      call-finds r t i.0 i.1 ok.outputs all-items-typed a.0 x c a.1 b

  declared-words : (irr : List (List ℕ)) (c : Called) → same_words (type_words (declaration irr c)) (signature c.ret c.params) ≡ true
  declared-words irr c = ap (λ ts. same_words (signature c.ret ts) (signature c.ret c.params)) (declared-types 0 c.params) ∙ (same_words_decides (signature c.ret c.params) (signature c.ret c.params)).1 refl

  callee-typed : (c : Called) → Finds (declared_of r) c → (ts : List Ty) → ts ≡ c.params → operand_has m f (operand.Const (value.Func (ws.function c.name))) (ty.Func (signature c.ret ts)) ≡ true
  callee-typed c h ts e =
      ap (λ us. has_words (slice_get m.funcs (ws.function c.name).0) (signature c.ret us)) e
      ∙ ap (λ o. has_words o (signature c.ret c.params)) (slice_get-map (declaration r.irreversible) (declared_of r) (place_among (declared_of r) c.name) ∙ ap (option_map (declaration r.irreversible)) h)
      ∙ declared-words r.irreversible c

  types-are : (args : List (Ty × Val)) → map (λ a. a.0) (map (typed_operand ws) args) ≡ types_of args
  types-are [] = refl
  types-are (a ∷ args) = ap (λ l. a.0 ∷ l) (types-are args)

  -- ---- results

  abbrev agrees : Step → Bool
  agrees s = all_have m f (wants f s) && shape_agrees f s

  result-typed : (i : ℕ) (w : Width) → type_at f.locals i ≡ Some (ty.Int w) → result_agrees f (Some (local i)) (ty.Int w) ≡ true
  result-typed i w e = ap (λ b. b && true) (of-type (type_at f.locals i) w w e (width-itself w))

  -- the one name of an item
  own-typed : (pre : Names) (d : Option ℕ) (w : Width) (post : Names) → names_of r.parts ≡ pre ++ ((d, ty.Int w) ∷ post) → result_agrees f (Some (local (length pre))) (ty.Int w) ≡ true
  own-typed pre d w post e = result-typed (length pre) w (placed (names_of r.parts) pre (d, ty.Int w) post e)

  -- ---- instructions

  call-agrees : (c : Called) (args : List (Ty × Val)) → Finds (declared_of r) c → types_of args ≡ c.params → list_all fit args ≡ true
      → all_have m f ((ty.Func (signature c.ret (map (λ a. a.0) (map (typed_operand ws) args))), operand.Const (value.Func (ws.function c.name))) ∷ map (typed_operand ws) args) ≡ true
  call-agrees c args h e g =
      both (operand_has m f (operand.Const (value.Func (ws.function c.name))) (ty.Func (signature c.ret (map (λ a. a.0) (map (typed_operand ws) args))))) (all_have m f (map (typed_operand ws) args))
      (callee-typed c h (map (λ a. a.0) (map (typed_operand ws) args)) (types-are args ∙ e)) (args-typed args g)

  void-agrees : (name : List ℕ) (args : List (Ty × Val)) → Finds (declared_of r) (called name ty.Void (types_of args)) → list_all fit args ≡ true → agrees (InstAt (call_void ws name args)) ≡ true
  void-agrees name args h g = ap (λ b. b && (true && true)) (call-agrees (called name ty.Void (types_of args)) args h refl g)

  read-agrees : (i : ℕ) (v : Value) → Finds (declared_of r) read_result → fit (ty.Res, Known v) ≡ true → type_at f.locals i ≡ Some (ty.Int W1) → agrees (InstAt (read_into ws i v)) ≡ true
  read-agrees i v h g e =
      both (all_have m f (wants f (InstAt (read_into ws i v)))) (true && result_agrees f (Some (local i)) (ty.Int W1))
      (call-agrees read_result ((ty.Res, Known v) ∷ []) h refl (ap (λ s. s && true) g)) (result-typed i W1 e)

  side-typed : (i : ℕ) (v : Value) → type_at f.locals i ≡ Some (ty.Int W1) → operand_has m f (side_operand i v) (ty.Int W1) ≡ true
  side-typed i value.One e = refl
  side-typed i value.Zero e = refl
  side-typed i (value.Int n) e = of-type (type_at f.locals i) W1 W1 e refl
  side-typed i (value.Double n) e = of-type (type_at f.locals i) W1 W1 e refl
  side-typed i (value.Id n) e = of-type (type_at f.locals i) W1 W1 e refl
  side-typed i (value.Alloc n) e = of-type (type_at f.locals i) W1 W1 e refl
  side-typed i (value.Measured n) e = of-type (type_at f.locals i) W1 W1 e refl
  side-typed i (value.Label n) e = of-type (type_at f.locals i) W1 W1 e refl
  side-typed i value.NoLabel e = of-type (type_at f.locals i) W1 W1 e refl
  side-typed i (value.Func n) e = of-type (type_at f.locals i) W1 W1 e refl

  reading-among : (v : Value) → is_constant v ≡ false → Among (reading v) read_result
  reading-among v h = ap-among (is_constant v) h
    where
      ap-among : (b : Bool) → b ≡ false → Among (if b then [] else (read_result ∷ [])) read_result
      ap-among true h = absurd (clash h)
        where
          clash : true ≡ false → ⊥
          clash e = cc
      ap-among false h = (0, refl)

  item-agrees : (x : Item) → Among (all_items r) x → list_all fit (item_uses x) ≡ true → item_allowed x ≡ true → (pre post : Names) → names_of r.parts ≡ pre ++ (names_of_item x ++ post) → list_all (λ i. agrees (InstAt i)) (instructions ws (length pre) x) ≡ true
  item-agrees (item.Binary d o g w a b) k h al pre post e =
      ap (λ s. s && true) (both (all_have m f ((ty.Int w, operand_of ws a) ∷ (ty.Int w, operand_of ws b) ∷ [])) (true && result_agrees f (Some (local (length pre))) (ty.Int w))
      (two (operand_has m f (operand_of ws a) (ty.Int w)) (operand_has m f (operand_of ws b) (ty.Int w)) (typed (ty.Int w) a (first-passes fit (ty.Int w, a) ((ty.Int w, b) ∷ []) h)) (typed (ty.Int w) b (second-passes fit (ty.Int w, a) (ty.Int w, b) [] h)))
      (own-typed pre (Some d.0) w post e))
  item-agrees (item.Icmp d o w a b) k h al pre post e =
      ap (λ s. s && true) (both (all_have m f ((ty.Int w, operand_of ws a) ∷ (ty.Int w, operand_of ws b) ∷ [])) (true && result_agrees f (Some (local (length pre))) (ty.Int W1))
      (two (operand_has m f (operand_of ws a) (ty.Int w)) (operand_has m f (operand_of ws b) (ty.Int w)) (typed (ty.Int w) a (first-passes fit (ty.Int w, a) ((ty.Int w, b) ∷ []) h)) (typed (ty.Int w) b (second-passes fit (ty.Int w, a) (ty.Int w, b) [] h)))
      (own-typed pre (Some d.0) W1 post e))
  item-agrees (item.Convert d o w a to) k h al pre post e =
      ap (λ s. s && true) (both (all_have m f ((ty.Int w, operand_of ws a) ∷ [])) (kind_agrees (kind.Convert o (ty.Int w) (operand_of ws a) (ty.Int to)) && result_agrees f (Some (local (length pre))) (ty.Int to))
      (ap (λ s. s && true) (typed (ty.Int w) a (first-passes fit (ty.Int w, a) [] h)))
      (both (kind_agrees (kind.Convert o (ty.Int w) (operand_of ws a) (ty.Int to))) (result_agrees f (Some (local (length pre))) (ty.Int to)) al (own-typed pre (Some d.0) to post e)))
  item-agrees (item.Select d w c a b) k h al pre post e =
      ap (λ s. s && true) (both (all_have m f ((condition, operand_of ws c) ∷ (ty.Int w, operand_of ws a) ∷ (ty.Int w, operand_of ws b) ∷ [])) (same_type (ty.Int w) (ty.Int w) && result_agrees f (Some (local (length pre))) (ty.Int w))
      (three (operand_has m f (operand_of ws c) condition) (operand_has m f (operand_of ws a) (ty.Int w)) (operand_has m f (operand_of ws b) (ty.Int w))
      (typed (ty.Int W1) c (first-passes fit (ty.Int W1, c) ((ty.Int w, a) ∷ (ty.Int w, b) ∷ []) h)) (typed (ty.Int w) a (second-passes fit (ty.Int W1, c) (ty.Int w, a) ((ty.Int w, b) ∷ []) h)) (typed (ty.Int w) b (third-passes fit (ty.Int W1, c) (ty.Int w, a) (ty.Int w, b) [] h)))
      (both (same_type (ty.Int w) (ty.Int w)) (result_agrees f (Some (local (length pre))) (ty.Int w)) (ints-alike w w (width-itself w)) (own-typed pre (Some d.0) w post e)))
  item-agrees (item.Read d v) k h al pre post e =
      ap (λ s. s && true) (read-agrees (length pre) v (finds (item.Read d v) read_result k (0, refl)) (first-passes fit (ty.Res, Known v) [] h) (placed (names_of r.parts) pre (Some d.0, ty.Int W1) post e))
  item-agrees (item.Equal d v u) k h al pre post e =
      equal-passes (λ i. agrees (InstAt i)) ws (length pre) d v u
      (λ z. read-agrees (length pre) v (finds (item.Equal d v u) read_result k (among-front (reading v) (reading u) read_result (reading-among v z))) (first-passes fit (ty.Res, Known v) ((ty.Res, Known u) ∷ []) h) first)
      (λ z. read-agrees (length pre + reads v) u (finds (item.Equal d v u) read_result k (among-back (reading v) (reading u) read_result (reading-among u z))) (second-passes fit (ty.Res, Known v) (ty.Res, Known u) [] h) second)
      (both (all_have m f ((ty.Int W1, side_operand (length pre) v) ∷ (ty.Int W1, side_operand (length pre + reads v) u) ∷ [])) (true && result_agrees f (Some (local (length pre + reads v + reads u))) (ty.Int W1))
      (two (operand_has m f (side_operand (length pre) v) (ty.Int W1)) (operand_has m f (side_operand (length pre + reads v) u) (ty.Int W1)) (side-typed (length pre) v first) (side-typed (length pre + reads v) u second))
      (result-typed (length pre + reads v + reads u) W1 third))
    where
      at : (i : ℕ) → i < length (names_of_item (item.Equal d v u)) → type_at f.locals (length pre + i) ≡ Some (ty.Int W1)
      at i lt = placed-among (names_of r.parts) pre (names_of_item (item.Equal d v u)) post (ty.Int W1) i e (equal-are d v u) lt

      first : type_at f.locals (length pre) ≡ Some (ty.Int W1)
      first = ap (type_at f.locals) (let z : length pre ≡ length pre + 0 = omega arith in z) ∙ at 0 (let n = equal-names d v u in omega (arith, n))

      second : type_at f.locals (length pre + reads v) ≡ Some (ty.Int W1)
      second = at (reads v) (let n = equal-names d v u in omega (arith, n))

      third : type_at f.locals (length pre + reads v + reads u) ≡ Some (ty.Int W1)
      third = ap (type_at f.locals) (let z : length pre + reads v + reads u ≡ length pre + (reads v + reads u) = omega arith in z) ∙ at (reads v + reads u) (let n = equal-names d v u in omega (arith, n))
  item-agrees (item.Operation name args) k h al pre post e = ap (λ s. s && true) (void-agrees name args (finds (item.Operation name args) (called name ty.Void (types_of args)) k (0, refl)) h)
  item-agrees (item.Output c args) k h al pre post e = ap (λ s. s && true) (void-agrees (record_name c) args (finds (item.Output c args) (called (record_name c) ty.Void (types_of args)) k (0, refl)) h)

  -- ---- terminators

  cases-agree : (w : Width) (cases : List (IntValue × Jump)) → list_all fit (map (λ (c : IntValue × Jump). (ty.Int w, Known (value.Int c.0))) cases) ≡ true → list_all (λ (c : IntValue × BlockId). same_type (ty.Int c.0.width) (ty.Int w)) (map (λ (c : IntValue × Jump). (c.0, block_number c.1.to)) cases) ≡ true
  cases-agree w [] h = refl
  cases-agree w (c ∷ cases) h =
      let p = and_parts (fit (ty.Int w, Known (value.Int c.0))) (list_all fit (map (λ (c : IntValue × Jump). (ty.Int w, Known (value.Int c.0))) cases)) h in
      both (same_type (ty.Int c.0.width) (ty.Int w)) (list_all (λ (c : IntValue × BlockId). same_type (ty.Int c.0.width) (ty.Int w)) (map (λ (c : IntValue × Jump). (c.0, block_number c.1.to)) cases)) (ints-alike c.0.width w p.0) (cases-agree w cases p.1)

  tail-agrees : (x : Tail) → list_all fit (tail_uses x) ≡ true → agrees (TermAt (print_tail ws x)) ≡ true
  tail-agrees (tail.Jump j) h = refl
  tail-agrees (tail.Branch a j i) h = ap (λ s. (s && true) && true) (typed (ty.Int W1) a (first-passes fit (ty.Int W1, a) [] h))
  tail-agrees (tail.Switch w a j cases) h =
      let p = and_parts (fit (ty.Int w, a)) (list_all fit (map (λ (c : IntValue × Jump). (ty.Int w, Known (value.Int c.0))) cases)) h in
      both (operand_has m f (operand_of ws a) (ty.Int w) && true) (true && list_all (λ (c : IntValue × BlockId). same_type (ty.Int c.0.width) (ty.Int w)) (map (λ (c : IntValue × Jump). (c.0, block_number c.1.to)) cases))
      (ap (λ s. s && true) (typed (ty.Int w) a p.0)) (cases-agree w cases p.1)
  tail-agrees (tail.Return a) h =
      both (operand_has m f (operand_of ws a) (ty.Int W64) && true) (same_type (ty.Int W64) (ty.Int W64)) (ap (λ s. s && true) (typed (ty.Int W64) a (first-passes fit (ty.Int W64, a) [] h))) (ints-alike W64 W64 refl)

  -- ---- phis

  pub param-type : (n : ℕ) (p : Part) → slice_get r.parts n ≡ Some p → (k : ℕ) (x : Dyn × Width) → slice_get p.params k ≡ Some x → type_at f.locals (names_before r n + k) ≡ Some (ty.Int x.1)
  param-type n p s k x g =
      let c = names-by r n p s [] (items_of p.lines) refl in
      let q = cut p.params k x g in
      let T : Names = names_of (take n r.parts) in
      let A : Names = names_of_params (take k p.params) in
      let rest : Names = (names_of_params q.0 ++ []) ++ (names_of_items (items_of p.lines) ++ c.0) in
      let split : names_of_params p.params ++ [] ≡ A ++ ((Some x.0.0, ty.Int x.1) ∷ (names_of_params q.0 ++ [])) = ap (λ ps. names_of_params ps ++ []) q.1 ∙ params-split (take k p.params) x q.0 in
      let e : names_of r.parts ≡ (T ++ A) ++ ((Some x.0.0, ty.Int x.1) ∷ rest) =
      c.1 ∙ ap (λ l. (T ++ l) ++ (names_of_items (items_of p.lines) ++ c.0)) split ∙ regroup T A (Some x.0.0, ty.Int x.1) (names_of_params q.0 ++ []) (names_of_items (items_of p.lines) ++ c.0) in
      let a = length-append T A in
      let b = params-long (take k p.params) in
      let d = taken-long p.params k x g in
      ap (type_at f.locals) (let z : names_before r n + k ≡ length (T ++ A) = omega (arith, a, b, d) in z) ∙ placed (names_of r.parts) (T ++ A) (Some x.0.0, ty.Int x.1) rest e
    where
      params-split : (as_ : List (Dyn × Width)) (x : Dyn × Width) (bs : List (Dyn × Width)) → names_of_params (as_ ++ (x ∷ bs)) ++ [] ≡ names_of_params as_ ++ ((Some x.0.0, ty.Int x.1) ∷ (names_of_params bs ++ []))
      params-split [] x bs = refl
      params-split (y ∷ as_) x bs = ap (λ l. (Some y.0.0, ty.Int y.1) ∷ l) (params-split as_ x bs)

      params-long : (ps : List (Dyn × Width)) → length (names_of_params ps) ≡ length ps
      params-long [] = refl
      params-long (y ∷ ps) = ap suc (params-long ps)

      taken-long : {A : Type 0} (xs : List A) (i : ℕ) (y : A) → slice_get xs i ≡ Some y → length (take i xs) ≡ i
      taken-long [] i y h = cc
      taken-long (z ∷ xs) zero y h = refl
      taken-long (z ∷ xs) (suc i) y h = ap suc (taken-long xs i y h)

      regroup : (t a : Names) (y : Option ℕ × Ty) (b c : Names) → (t ++ (a ++ (y ∷ b))) ++ c ≡ (t ++ a) ++ (y ∷ (b ++ c))
      regroup t a y b c = ap (λ l. l ++ c) (sym (append_assoc t a (y ∷ b))) ∙ append_assoc (t ++ a) (y ∷ b) c

  pub arg-typed : (params : List (Dyn × Width)) (args : List Val) (k : ℕ) (x : Dyn × Width) → args_fit (gives_of r) params args ≡ true → slice_get params k ≡ Some x → val_has (gives_of r) (ty.Int x.1) (slice_index_or args k (Known value.NoLabel)) ≡ true
  arg-typed [] args k x h g = cc
  arg-typed (y ∷ params) [] k x h g = cc
  arg-typed (y ∷ params) (a ∷ args) zero x h g = let z : y ≡ x = cc in subst (λ y. val_has (gives_of r) (ty.Int y.1) a ≡ true) z (and_parts (val_has (gives_of r) (ty.Int y.1) a) (args_fit (gives_of r) params args) h).0
  arg-typed (y ∷ params) (a ∷ args) (suc k) x h g = arg-typed params args k x (and_parts (val_has (gives_of r) (ty.Int y.1) a) (args_fit (gives_of r) params args) h).1 g

  jump-fits : (n : ℕ) (p : Part) → slice_get r.parts n ≡ Some p → (j : Jump) → Among (jumps p.tail) j → fits_part (gives_of r) (slice_get r.parts j.to) j.args ≡ true
  jump-fits n p s j a =
      passes-here (λ j. fits_part (gives_of r) (slice_get r.parts j.to) j.args) (jumps p.tail) a.0 j
      (passes-here (λ p. list_all (λ j. fits_part (gives_of r) (slice_get r.parts j.to) j.args) (jumps p.tail)) r.parts n p (and_parts (all_tails (λ t. list_all (λ j. fits_part (gives_of r) (slice_get r.parts j.to) j.args) (jumps t)) r) (all_tails (λ t. all_agree (jumps t)) r) ok.jumps).0 s) a.1

  pub fits-there : (n : ℕ) (p : Part) → slice_get r.parts n ≡ Some p → (q : ℕ) (i : Part) (j : Jump) → slice_get r.parts q ≡ Some i → Among (jumps i.tail) j → j.to ≡ n → args_fit (gives_of r) p.params j.args ≡ true
  fits-there n p s q i j u a z = subst (λ o. fits_part (gives_of r) o j.args ≡ true) (ap (slice_get r.parts) z ∙ s) (jump-fits q i u j a)

  phi-agrees : (n : ℕ) (p : Part) → slice_get r.parts n ≡ Some p → (k : ℕ) (x : Dyn × Width) → slice_get p.params k ≡ Some x → agrees (PhiAt (record { result = local (names_before r n + k); entries = entries ws k (edges_to n r.parts) })) ≡ true
  phi-agrees n p s k x g =
      let e = param-type n p s k x g in
      both (all_have m f (phi_wants (type_at f.locals (names_before r n + k)) (record { result = local (names_before r n + k); entries = entries ws k (edges_to n r.parts) }))) (is_some (type_at f.locals (names_before r n + k)))
      (ap (λ o. all_have m f (phi_wants o (record { result = local (names_before r n + k); entries = entries ws k (edges_to n r.parts) }))) e
      ∙ all-map (λ (w : Ty × Operand). operand_has m f w.1 w.0) (λ (e : Operand × BlockId). (ty.Int x.1, e.0)) (entries ws k (edges_to n r.parts)) (entries-there-pass (λ e. operand_has m f e.0 (ty.Int x.1)) ws r k n (λ q i j u a z.
      operand-typed (ty.Int x.1) (argument k j) (arg-typed p.params j.args k x (fits-there n p s q i j u a z) g))))
      (ap is_some e)

  -- ---- all

  -- initialize is declared first
  initialize-at : slice_get m.funcs 1 ≡ Some (declaration r.irreversible initialize)
  initialize-at = slice_get-map (declaration r.irreversible) (declared_of r) 0 ∙ ap (option_map (declaration r.irreversible)) (first-stays (calls_of_residue r) initialize [])

  start-agrees : agrees (InstAt initialize_call) ≡ true
  start-agrees =
      ap (λ b. (b && (true && true)) && (true && true))
      (ap (λ o. has_words o (signature ty.Void (ty.Text ∷ []))) initialize-at ∙ declared-words r.irreversible initialize)

  pub all-agree-in : all_steps (λ f s. all_have m f (wants f s) && shape_agrees f s) m ≡ true
  all-agree-in = all-steps (λ f s. all_have m f (wants f s) && shape_agrees f s) r t (entry-passes r t agrees ok (record {
    start = start-agrees;
    item = λ x a pre post e. item-agrees x a (item-uses-pass fit r x ok.types a) (passes-here item_allowed (all_items r) a.0 x ok.allowed a.1) pre post e;
    tail = λ n p s. tail-agrees p.tail (tail-uses-pass fit r n p ok.types s);
    phi = λ z n p s k x g. phi-agrees n p s k x g;
    leads = λ e n lt. refl;
  }))
