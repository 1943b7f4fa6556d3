-- The numbers of the printed module are in range.
use Rattle.std.proofs.Common.{◌≡◌, ℕ, zero, suc, ◌+◌, ◌<◌, ◌≤◌, Bool, true, false, ◌&&◌, Option, None, Some, List, [], ◌∷◌, ◌++◌, length, map, refl, sym, ap, ◌∙◌, subst, arith, append-nil, length-append}
use Rattle.std.proofs.lemmas.Bool.{and_parts}
use Rattle.std.proofs.lemmas.Option.{slice_get_within}
use Rattle.std.specs.List.{list_all}
use Rattle.std.specs.Prelude.{◌||◌, ⊤, flat_map, is_some, nat_le, nat_lt, slice_get}
use Rattle.ir_module.specs.declared.tree.Function.{Function}
use Rattle.ir_module.specs.declared.tree.Module.{Module}
use Rattle.ir_module.specs.declared.tree.Operand.{Operand}
use Rattle.ir_module.specs.declared.tree.Operand.TheVariants as operand
use Rattle.ir_module.specs.declared.tree.Term.TheVariants as term
use Rattle.ir_module.specs.Edges.{edges}
use Rattle.ir_module.specs.Numbered.{all_steps, are_few, local_in_range, numbers_in_range, operand_in_range, step_in_range}
use Rattle.ir_module.specs.Operands.{term_operands}
use Rattle.ir_module.specs.Steps.{Step, PhiAt, InstAt, TermAt}
use Rattle.ir_module.specs.Tree.{blocks_of}
use Rattle.ir_values.specs.declared.class.Class.{Class}
use Rattle.ir_values.specs.declared.class.Class.TheVariants as class
use Rattle.ir_values.specs.declared.ids.BlockId.{BlockId}
use Rattle.ir_values.specs.declared.ids.FuncId.{FuncId}
use Rattle.ir_values.specs.declared.int.Width.{Width}
use Rattle.ir_values.specs.declared.int.Width.TheVariants.{W1, W64}
use Rattle.ir_values.specs.declared.ty.Ty.{Ty}
use Rattle.ir_values.specs.declared.ty.Ty.TheVariants as ty
use Rattle.ir_values.specs.declared.value.Value.{Value}
use Rattle.ir_values.specs.declared.value.Value.TheVariants as value
use Rattle.ir_values.specs.Int.{IntValue}
use Rattle.kept_items.specs.declared.item.Item.{Item}
use Rattle.kept_items.specs.declared.item.Item.TheVariants as item
use Rattle.kept_items.specs.declared.target.Target.{Target}
use Rattle.kept_items.specs.declared.target.Target.TheVariants.{Base, Adaptive}
use Rattle.kept_items.specs.declared.val.Dyn.{Dyn}
use Rattle.kept_items.specs.declared.val.Val.{Val}
use Rattle.kept_items.specs.declared.val.Val.TheVariants.{Known, Dynamic}
use Rattle.kept_items.specs.Targets.{is_base}
use Rattle.residue.specs.declared.parts.Jump.{Jump}
use Rattle.residue.specs.declared.parts.Part.{Part}
use Rattle.residue.specs.declared.parts.Residue.{Residue}
use Rattle.residue.specs.declared.parts.Tail.{Tail}
use Rattle.residue.specs.declared.parts.Tail.TheVariants as tail
use Rattle.residue.specs.Functions.{all_items, initialize, is_constant, read_name, record_name}
use Rattle.residue.specs.Instructions.{Words, block_number, instructions, local, names_of_item, named_value, operand_of, print_tail, read_into, reads, side_operand, typed_operand}
use Rattle.residue.specs.Printed.{argument, base_blocks, edges_to, entries, initialize_call, name_in, names_of, print_blocks, printed, printed_entry, words}
use Rattle.residue.specs.Scopes.{gives_of, item_uses, jump_args, jumps, part_gives, tail_uses, uses_of, width_in}
use Rattle.residue.specs.Scopes as scope
use Rattle.residue.specs.Valid.{Valid, all_agree, all_tails, args_fit, base_permits, base_permits_tail, begins, fits_part, is_of_width, is_within, label_below, leads_on, target_permits, val_has}
use Rattle.printed_residue.specs.Places.{is_in, names_before}
use Rattle.printed_residue.proofs.Calls.{Declares, measures, op_class}
use Rattle.printed_residue.proofs.Declared.{Among}
use Rattle.printed_residue.proofs.Ends.{initialize-declared}
use Rattle.printed_residue.proofs.Facts.{passes-here, passes-piece}
use Rattle.printed_residue.proofs.Items.{ItemDeclared}
use Rattle.printed_residue.proofs.Lines.{item-declared, scoped}
use Rattle.printed_residue.proofs.Naming.{equal-names, has-parts, name-early, params-enough}
use Rattle.printed_residue.proofs.Running.{ReadDeclared}
use Rattle.printed_residue.proofs.Scoped.{in-append, in-front, in-is}
use Rattle.numbered_residue.proofs.Forms.{args-of-written, entries-pass, equal-passes, first-passes, index-passes, item-uses-pass, jump-args-pass, second-passes, tail-uses-pass, third-passes, uses-of-written}
use Rattle.numbered_residue.proofs.Listed.{parameters-local}
use Rattle.numbered_residue.proofs.Passing.{all-both, all-map, all-steps, entry-passes}
use Rattle.numbered_residue.proofs.Shared.{below, both, less, locals-long, parts-long, three, two}

module _ (r : Residue) (t : Target) (ok : Valid r t) where
  abbrev l : Module
  l = printed r t

  abbrev f : Function
  f = printed_entry r t

  abbrev ws : Words
  ws = words r

  -- ---- values

  -- a Dynamic value that a part gives has a name
  name-below : (d : ℕ) → is_in (gives_of r) d ≡ true → ws.name_of d < length (names_of r.parts)
  name-below d h = subst (λ ns. name_in ns d < length (names_of r.parts)) (append-nil (names_of r.parts)) (name-early (names_of r.parts) [] d (has-parts r.parts d ∙ h))

  dynamic-below : (d : ℕ) → is_in (gives_of r) d ≡ true → nat_lt (ws.name_of d) (length f.locals) ≡ true
  dynamic-below d h = below (ws.name_of d) (length f.locals) (let a = name-below d h in let e = locals-long 0 (names_of r.parts) in omega (arith, a, e))

  -- what a value has to be so that its operand is in range
  abbrev IsFine : Val → Type 0
  IsFine (Known (value.Func g)) = ⊥
  IsFine (Known v) = ⊤
  IsFine (Dynamic d) = is_in (gives_of r) d.0 ≡ true

  operand-fine : (a : Val) → IsFine a → label_below (length r.globals) a ≡ true → operand_in_range l f (operand_of ws a) ≡ true
  operand-fine (Dynamic d) i h = dynamic-below d.0 i
  operand-fine (Known (value.Int n)) i h = refl
  operand-fine (Known (value.Double n)) i h = refl
  operand-fine (Known (value.Id n)) i h = refl
  operand-fine (Known (value.Alloc n)) i h = refl
  operand-fine (Known (value.Measured n)) i h = refl
  operand-fine (Known value.One) i h = refl
  operand-fine (Known value.Zero) i h = refl
  operand-fine (Known (value.Label g)) i h = h
  operand-fine (Known value.NoLabel) i h = refl
  operand-fine (Known (value.Func g)) i h = absurd i

  is-in : (d : ℕ) → is_some (width_in (gives_of r) d) ≡ true → is_in (gives_of r) d ≡ true
  is-in d h = sym (in-is (gives_of r) d) ∙ h

  of-width : (w : Width) (o : Option Width) → is_of_width w o ≡ true → is_some o ≡ true
  of-width w None h = cc
  of-width w (Some v) h = refl

  typed-fine : (u : Ty) (a : Val) → val_has (gives_of r) u a ≡ true → IsFine a
  typed-fine (ty.Int w) (Dynamic d) h = is-in d.0 (of-width w (width_in (gives_of r) d.0) h)
  typed-fine ty.Void (Dynamic d) h = cc
  typed-fine ty.Double (Dynamic d) h = cc
  typed-fine ty.Qubit (Dynamic d) h = cc
  typed-fine ty.Res (Dynamic d) h = cc
  typed-fine ty.Text (Dynamic d) h = cc
  typed-fine (ty.Func us) (Dynamic d) h = cc
  typed-fine u (Known v) h = by u v h
    where
      by : (u : Ty) (v : Value) → val_has (gives_of r) u (Known v) ≡ true → IsFine (Known v)
      by ty.Void (value.Func g) h = cc
      by (ty.Int w) (value.Func g) h = cc
      by ty.Double (value.Func g) h = cc
      by ty.Qubit (value.Func g) h = cc
      by ty.Res (value.Func g) h = cc
      by ty.Text (value.Func g) h = cc
      by (ty.Func us) (value.Func g) h = cc
      by u (value.Int n) h = tt
      by u (value.Double n) h = tt
      by u (value.Id n) h = tt
      by u (value.Alloc n) h = tt
      by u (value.Measured n) h = tt
      by u value.One h = tt
      by u value.Zero h = tt
      by u (value.Label g) h = tt
      by u value.NoLabel h = tt

  labels : list_all (label_below (length r.globals)) (scope.written r) ≡ true
  labels = (and_parts (are_few r.globals) (list_all (label_below (length r.globals)) (scope.written r)) ok.labels).1

  -- the test of a value with its type: it fits and its label is in range
  abbrev good : Ty × Val → Bool
  good a = val_has (gives_of r) a.0 a.1 && label_below (length r.globals) a.1

  all-good : list_all good (uses_of r) ≡ true
  all-good = join (uses_of r) ok.types (uses-of-written (label_below (length r.globals)) r labels)
    where
      join : (xs : List (Ty × Val)) → list_all (λ a. val_has (gives_of r) a.0 a.1) xs ≡ true → list_all (λ a. label_below (length r.globals) a.1) xs ≡ true → list_all good xs ≡ true
      join [] h g = refl
      join (x ∷ xs) h g =
          let p = and_parts (val_has (gives_of r) x.0 x.1) (list_all (λ a. val_has (gives_of r) a.0 a.1) xs) h in
          let q = and_parts (label_below (length r.globals) x.1) (list_all (λ a. label_below (length r.globals) a.1) xs) g in
          both (good x) (list_all good xs) (both (val_has (gives_of r) x.0 x.1) (label_below (length r.globals) x.1) p.0 q.0) (join xs p.1 q.1)

  ranged : (u : Ty) (a : Val) → good (u, a) ≡ true → operand_in_range l f (operand_of ws a) ≡ true
  ranged u a h = let p = and_parts (val_has (gives_of r) u a) (label_below (length r.globals) a) h in operand-fine a (typed-fine u a p.0) p.1

  args-ranged : (args : List (Ty × Val)) → list_all good args ≡ true → list_all (operand_in_range l f) (map (λ a. a.1) (map (typed_operand ws) args)) ≡ true
  args-ranged [] h = refl
  args-ranged (a ∷ args) h = let p = and_parts (good a) (list_all good args) h in both (operand_in_range l f (operand_of ws a.1)) (list_all (operand_in_range l f) (map (λ a. a.1) (map (typed_operand ws) args))) (ranged a.0 a.1 p.0) (args-ranged args p.1)

  -- ---- instructions

  abbrev in_range : Step → Bool
  in_range s = step_in_range l f s

  local-below : (m : ℕ) → m < length (names_of r.parts) → local_in_range f (local m) ≡ true
  local-below m h = below m (length f.locals) (let e = locals-long 0 (names_of r.parts) in omega (arith, e, h))

  -- an instruction that defines a name and reads these operands
  step-ranged : (ops : List Operand) (m : ℕ) → list_all (operand_in_range l f) ops ≡ true → m < length (names_of r.parts) → (list_all (operand_in_range l f) ops && ((local_in_range f (local m) && true) && true)) ≡ true
  step-ranged ops m h lt = both (list_all (operand_in_range l f) ops) ((local_in_range f (local m) && true) && true) h (ap (λ s. (s && true) && true) (local-below m lt))

  function-below : (g : FuncId) (name : List ℕ) (c : Class) → Declares l g name c → nat_lt g.0 (length l.funcs) ≡ true
  function-below g name c d = below g.0 (length l.funcs) (slice_get_within l.funcs g.0 d.function d.is)

  read-ranged : (m : ℕ) (v : Value) → Declares l (ws.function read_name) read_name class.Read → good (ty.Res, Known v) ≡ true → m < length (names_of r.parts) → in_range (InstAt (read_into ws m v)) ≡ true
  read-ranged m v d g lt = step-ranged (operand.Const (value.Func (ws.function read_name)) ∷ operand.Const (named_value ws v) ∷ []) m (two (nat_lt (ws.function read_name).0 (length l.funcs)) (operand_in_range l f (operand_of ws (Known v))) (function-below (ws.function read_name) read_name class.Read d) (ranged ty.Res (Known v) g)) lt

  side-declared : (v : Value) → is_constant v ≡ false → ReadDeclared l ws v → Declares l (ws.function read_name) read_name class.Read
  side-declared value.One e d = cc
  side-declared value.Zero e d = cc
  side-declared (value.Int i) e d = d
  side-declared (value.Double i) e d = d
  side-declared (value.Id i) e d = d
  side-declared (value.Alloc i) e d = d
  side-declared (value.Measured i) e d = d
  side-declared (value.Label i) e d = d
  side-declared value.NoLabel e d = d
  side-declared (value.Func i) e d = d

  side-ranged : (m : ℕ) (v : Value) → m < length (names_of r.parts) → operand_in_range l f (side_operand m v) ≡ true
  side-ranged m value.One lt = refl
  side-ranged m value.Zero lt = refl
  side-ranged m (value.Int i) lt = local-below m lt
  side-ranged m (value.Double i) lt = local-below m lt
  side-ranged m (value.Id i) lt = local-below m lt
  side-ranged m (value.Alloc i) lt = local-below m lt
  side-ranged m (value.Measured i) lt = local-below m lt
  side-ranged m (value.Label i) lt = local-below m lt
  side-ranged m value.NoLabel lt = local-below m lt
  side-ranged m (value.Func i) lt = local-below m lt

  call-ranged : (name : List ℕ) (c : Class) (args : List (Ty × Val)) → Declares l (ws.function name) name c → list_all good args ≡ true → ((nat_lt (ws.function name).0 (length l.funcs) && list_all (operand_in_range l f) (map (λ a. a.1) (map (typed_operand ws) args))) && true) ≡ true
  call-ranged name c args d g = ap (λ s. s && true) (both (nat_lt (ws.function name).0 (length l.funcs)) (list_all (operand_in_range l f) (map (λ a. a.1) (map (typed_operand ws) args))) (function-below (ws.function name) name c d) (args-ranged args g))

  item-ranged : (x : Item) → list_all good (item_uses x) ≡ true → ItemDeclared l ws x → (m : ℕ) → m + length (names_of_item x) ≤ length (names_of r.parts) → list_all (λ i. in_range (InstAt i)) (instructions ws m x) ≡ true
  item-ranged (item.Binary d o g w a b) h e m le = ap (λ s. s && true) (step-ranged (operand_of ws a ∷ operand_of ws b ∷ []) m (two (operand_in_range l f (operand_of ws a)) (operand_in_range l f (operand_of ws b)) (ranged (ty.Int w) a (first-passes good (ty.Int w, a) ((ty.Int w, b) ∷ []) h)) (ranged (ty.Int w) b (second-passes good (ty.Int w, a) (ty.Int w, b) [] h))) (omega (arith, le)))
  item-ranged (item.Icmp d o w a b) h e m le = ap (λ s. s && true) (step-ranged (operand_of ws a ∷ operand_of ws b ∷ []) m (two (operand_in_range l f (operand_of ws a)) (operand_in_range l f (operand_of ws b)) (ranged (ty.Int w) a (first-passes good (ty.Int w, a) ((ty.Int w, b) ∷ []) h)) (ranged (ty.Int w) b (second-passes good (ty.Int w, a) (ty.Int w, b) [] h))) (omega (arith, le)))
  item-ranged (item.Convert d o w a to) h e m le = ap (λ s. s && true) (step-ranged (operand_of ws a ∷ []) m (ap (λ s. s && true) (ranged (ty.Int w) a (first-passes good (ty.Int w, a) [] h))) (omega (arith, le)))
  item-ranged (item.Select d w c a b) h e m le = ap (λ s. s && true) (step-ranged (operand_of ws c ∷ operand_of ws a ∷ operand_of ws b ∷ []) m (three (operand_in_range l f (operand_of ws c)) (operand_in_range l f (operand_of ws a)) (operand_in_range l f (operand_of ws b)) (ranged (ty.Int W1) c (first-passes good (ty.Int W1, c) ((ty.Int w, a) ∷ (ty.Int w, b) ∷ []) h)) (ranged (ty.Int w) a (second-passes good (ty.Int W1, c) (ty.Int w, a) ((ty.Int w, b) ∷ []) h)) (ranged (ty.Int w) b (third-passes good (ty.Int W1, c) (ty.Int w, a) (ty.Int w, b) [] h))) (omega (arith, le)))
  item-ranged (item.Read d v) h e m le = ap (λ s. s && true) (read-ranged m v e (first-passes good (ty.Res, Known v) [] h) (omega (arith, le)))
  item-ranged (item.Equal d v u) h e m le =
      let n = equal-names d v u in
      equal-passes (λ i. in_range (InstAt i)) ws m d v u
      (λ k. read-ranged m v (side-declared v k e.0) (first-passes good (ty.Res, Known v) ((ty.Res, Known u) ∷ []) h) (omega (arith, le, n)))
      (λ k. read-ranged (m + reads v) u (side-declared u k e.1) (second-passes good (ty.Res, Known v) (ty.Res, Known u) [] h) (omega (arith, le, n)))
      (step-ranged (side_operand m v ∷ side_operand (m + reads v) u ∷ []) (m + reads v + reads u) (two (operand_in_range l f (side_operand m v)) (operand_in_range l f (side_operand (m + reads v) u)) (side-ranged m v (omega (arith, le, n))) (side-ranged (m + reads v) u (omega (arith, le, n)))) (omega (arith, le, n)))
  item-ranged (item.Operation name args) h e m le = ap (λ s. s && true) (call-ranged name (op_class (measures args)) args e h)
  item-ranged (item.Output c args) h e m le = ap (λ s. s && true) (call-ranged (record_name c) c args e h)

  -- ---- terminators

  abbrev blocks-long : ℕ
  blocks-long = length (blocks_of f)

  many-blocks : is_base t ≡ false → blocks-long ≡ length r.parts
  many-blocks h = by t h
    where
      by : (t : Target) → is_base t ≡ false → length (print_blocks r t) ≡ length r.parts
      by Base h = cc
      by (Adaptive caps) h = parts-long r 0 0 r.parts

  leads-below : (n : ℕ) (p : Part) → slice_get r.parts n ≡ Some p → list_all (leads_on (length r.parts)) (jumps p.tail) ≡ true
  leads-below n p s = passes-here (λ p. list_all (leads_on (length r.parts)) (jumps p.tail)) r.parts n p (and_parts (begins r.parts) (all_tails (λ t. list_all (leads_on (length r.parts)) (jumps t)) r) ok.start).1 s

  abbrev block-below : BlockId → Bool
  block-below b = nat_lt b.0 blocks-long

  to-below : is_base t ≡ false → (j : Jump) → leads_on (length r.parts) j ≡ true → block-below (block_number j.to) ≡ true
  to-below h j g = below j.to blocks-long (let a = less j.to (length r.parts) (and_parts (nat_lt 0 j.to) (nat_lt j.to (length r.parts)) g).1 in let e = many-blocks h in omega (arith, a, e))

  cases-below : is_base t ≡ false → (cases : List (IntValue × Jump)) → list_all (leads_on (length r.parts)) (map (λ c. c.1) cases) ≡ true → list_all block-below (map (λ (c : IntValue × BlockId). c.1) (map (λ (c : IntValue × Jump). (c.0, block_number c.1.to)) cases)) ≡ true
  cases-below h [] g = refl
  cases-below h (c ∷ cases) g =
      let p = and_parts (leads_on (length r.parts) c.1) (list_all (leads_on (length r.parts)) (map (λ c. c.1) cases)) g in
      both (block-below (block_number c.1.to)) (list_all block-below (map (λ (c : IntValue × BlockId). c.1) (map (λ (c : IntValue × Jump). (c.0, block_number c.1.to)) cases))) (to-below h c.1 p.0) (cases-below h cases p.1)

  edges-below : is_base t ≡ false → (x : Tail) → list_all (leads_on (length r.parts)) (jumps x) ≡ true → list_all block-below (edges (print_tail ws x)) ≡ true
  edges-below h (tail.Jump j) g = ap (λ s. s && true) (to-below h j (and_parts (leads_on (length r.parts) j) true g).0)
  edges-below h (tail.Branch a j i) g =
      let p = and_parts (leads_on (length r.parts) j) (leads_on (length r.parts) i && true) g in
      two (block-below (block_number j.to)) (block-below (block_number i.to)) (to-below h j p.0) (to-below h i (and_parts (leads_on (length r.parts) i) true p.1).0)
  edges-below h (tail.Switch w a j cases) g =
      let p = and_parts (leads_on (length r.parts) j) (list_all (leads_on (length r.parts)) (map (λ c. c.1) cases)) g in
      all-both block-below (map (λ (c : IntValue × BlockId). c.1) (map (λ (c : IntValue × Jump). (c.0, block_number c.1.to)) cases)) (block_number j.to ∷ []) (cases-below h cases p.1) (ap (λ s. s && true) (to-below h j p.0))
  edges-below h (tail.Return a) g = refl

  base-edges : (x : Tail) → base_permits_tail x ≡ true → list_all block-below (edges (print_tail ws x)) ≡ true
  base-edges (tail.Return a) h = refl
  base-edges (tail.Jump j) h = cc
  base-edges (tail.Branch a j i) h = cc
  base-edges (tail.Switch w a j cases) h = cc

  tail-edges : (n : ℕ) (p : Part) → slice_get r.parts n ≡ Some p → list_all block-below (edges (print_tail ws p.tail)) ≡ true
  tail-edges n p s = by t refl
    where
      by : (u : Target) → t ≡ u → list_all block-below (edges (print_tail ws p.tail)) ≡ true
      by Base e = base-edges p.tail (passes-here (λ p. base_permits_tail p.tail) r.parts n p (and_parts (list_all base_permits (all_items r)) (all_tails base_permits_tail r) (subst (λ u. target_permits r u ≡ true) e ok.permits)).1 s)
      by (Adaptive caps) e = edges-below (ap is_base e) p.tail (leads-below n p s)

  tail-operands : (x : Tail) → list_all good (tail_uses x) ≡ true → list_all (operand_in_range l f) (term_operands (print_tail ws x)) ≡ true
  tail-operands (tail.Jump j) h = refl
  tail-operands (tail.Branch a j i) h = ap (λ s. s && true) (ranged (ty.Int W1) a (first-passes good (ty.Int W1, a) [] h))
  tail-operands (tail.Switch w a j cases) h = ap (λ s. s && true) (ranged (ty.Int w) a (first-passes good (ty.Int w, a) (map (λ c. (ty.Int w, Known (value.Int c.0))) cases) h))
  tail-operands (tail.Return a) h = ap (λ s. s && true) (ranged (ty.Int W64) a (first-passes good (ty.Int W64, a) [] h))

  -- ---- phis

  -- no value of a jump is a function, since it fits a parameter
  abbrev not-function : Val → Bool
  not-function (Known (value.Func g)) = false
  not-function a = true

  piece-in : (f : Part → List (ℕ × Width)) (parts : List Part) (n : ℕ) (p : Part) → slice_get parts n ≡ Some p → (d : ℕ) → is_in (f p) d ≡ true → is_in (flat_map f parts) d ≡ true
  piece-in f [] n p s d h = cc
  piece-in f (q ∷ parts) zero p s d h = let z : q ≡ p = cc in in-front (f q) (flat_map f parts) d (ap (λ y. is_in (f y) d) z ∙ h)
  piece-in f (q ∷ parts) (suc n) p s d h = in-append (f q) (flat_map f parts) d ∙ ap (λ b. is_in (f q) d || b) (piece-in f parts n p s d h) ∙ or-true (is_in (f q) d)
    where
      or-true : (b : Bool) → (b || true) ≡ true
      or-true true = refl
      or-true false = refl

  args-no-function : (params : List (Dyn × Width)) (args : List Val) → args_fit (gives_of r) params args ≡ true → list_all not-function args ≡ true
  args-no-function [] [] h = refl
  args-no-function [] (a ∷ args) h = cc
  args-no-function (x ∷ params) [] h = cc
  args-no-function (x ∷ params) (a ∷ args) h =
      let p = and_parts (val_has (gives_of r) (ty.Int x.1) a) (args_fit (gives_of r) params args) h in
      both (not-function a) (list_all not-function args) (by a p.0) (args-no-function params args p.1)
    where
      by : (a : Val) → val_has (gives_of r) (ty.Int x.1) a ≡ true → not-function a ≡ true
      by (Known (value.Func g)) h = cc
      by (Known (value.Int i)) h = refl
      by (Known (value.Double i)) h = refl
      by (Known (value.Id i)) h = refl
      by (Known (value.Alloc i)) h = refl
      by (Known (value.Measured i)) h = refl
      by (Known value.One) h = refl
      by (Known value.Zero) h = refl
      by (Known (value.Label g)) h = refl
      by (Known value.NoLabel) h = refl
      by (Dynamic d) h = refl

  fits-no-function : (o : Option Part) (args : List Val) → fits_part (gives_of r) o args ≡ true → list_all not-function args ≡ true
  fits-no-function None args h = cc
  fits-no-function (Some p) args h = args-no-function p.params args h

  jump-no-function : (n : ℕ) (p : Part) → slice_get r.parts n ≡ Some p → (j : Jump) → Among (jumps p.tail) j → list_all not-function j.args ≡ true
  jump-no-function n p s j a =
      fits-no-function (slice_get r.parts j.to) j.args (passes-here (λ j. fits_part (gives_of r) (slice_get r.parts j.to) j.args) (jumps p.tail) a.0 j
      (passes-here (λ p. list_all (λ j. fits_part (gives_of r) (slice_get r.parts j.to) j.args) (jumps p.tail)) r.parts n p (and_parts (all_tails (λ t. list_all (λ j. fits_part (gives_of r) (slice_get r.parts j.to) j.args) (jumps t)) r) (all_tails (λ t. all_agree (jumps t)) r) ok.jumps).0 s) a.1)

  -- the arguments of a jump are in scope, so they are in range
  arg-fine : (n : ℕ) (p : Part) → slice_get r.parts n ≡ Some p → (a : Val) → not-function a ≡ true → is_within (part_gives p) a ≡ true → IsFine a
  arg-fine n p s (Known (value.Func g)) k h = cc
  arg-fine n p s (Known (value.Int i)) k h = tt
  arg-fine n p s (Known (value.Double i)) k h = tt
  arg-fine n p s (Known (value.Id i)) k h = tt
  arg-fine n p s (Known (value.Alloc i)) k h = tt
  arg-fine n p s (Known (value.Measured i)) k h = tt
  arg-fine n p s (Known value.One) k h = tt
  arg-fine n p s (Known value.Zero) k h = tt
  arg-fine n p s (Known (value.Label g)) k h = tt
  arg-fine n p s (Known value.NoLabel) k h = tt
  arg-fine n p s (Dynamic d) k h = piece-in part_gives r.parts n p s d.0 (sym (in-is (part_gives p) d.0) ∙ h)

  arg-ranged : (n : ℕ) (p : Part) → slice_get r.parts n ≡ Some p → (j : Jump) → Among (jumps p.tail) j → (k : ℕ) → operand_in_range l f (operand_of ws (argument k j)) ≡ true
  arg-ranged n p s j a k =
      let within = (and_parts (list_all (λ a. is_within (part_gives p) a.1) (tail_uses p.tail)) (list_all (is_within (part_gives p)) (jump_args p.tail)) (scoped r t ok n p s).1).1 in
      let all-labels = passes-piece (label_below (length r.globals)) (λ p. jump_args p.tail) r.parts n p (args-of-written (label_below (length r.globals)) r labels) s in
      operand-fine (argument k j)
      (arg-fine n p s (argument k j) (index-passes not-function j.args k (jump-no-function n p s j a) refl) (index-passes (is_within (part_gives p)) j.args k (jump-args-pass (is_within (part_gives p)) p.tail j within a) refl))
      (index-passes (label_below (length r.globals)) j.args k (jump-args-pass (label_below (length r.globals)) p.tail j all-labels a) refl)

  phi-ranged : is_base t ≡ false → (n : ℕ) (p : Part) → slice_get r.parts n ≡ Some p → (k : ℕ) (x : Dyn × Width) → slice_get p.params k ≡ Some x → in_range (PhiAt (record { result = local (names_before r n + k); entries = entries ws k (edges_to n r.parts) })) ≡ true
  phi-ranged z n p s k x g =
      let e = params-enough r n p s in
      let lt = slice_get_within p.params k x g in
      both (list_all (operand_in_range l f) (map (λ e. e.0) (entries ws k (edges_to n r.parts)))) ((local_in_range f (local (names_before r n + k)) && true) && list_all block-below (map (λ e. e.1) (entries ws k (edges_to n r.parts))))
      (all-map (operand_in_range l f) (λ e. e.0) (entries ws k (edges_to n r.parts)) (entries-pass (λ e. operand_in_range l f e.0) ws r k n (λ m q i j a. arg-ranged m q i j a k)))
      (both (local_in_range f (local (names_before r n + k)) && true) (list_all block-below (map (λ e. e.1) (entries ws k (edges_to n r.parts))))
      (ap (λ s. s && true) (local-below (names_before r n + k) (omega (arith, e, lt))))
      (all-map block-below (λ e. e.1) (entries ws k (edges_to n r.parts)) (entries-pass (λ e. block-below e.1) ws r k n (λ m q i j a. below m blocks-long (let c = many-blocks z in let d = slice_get_within r.parts m q i in omega (arith, c, d))))))

  -- ---- all

  start-ranged : in_range (InstAt initialize_call) ≡ true
  start-ranged = ap (λ s. (s && true) && true) (function-below (record { 0 = 1 }) initialize.name class.Init (initialize-declared r t))

  leads-ranged : t ≡ Base → (n : ℕ) → n < 4 → in_range (TermAt (term.Br (block_number n))) ≡ true
  leads-ranged e n lt = ap (λ s. s && true) (below n blocks-long (subst (λ u. n < length (print_blocks r u)) (sym e) (four r.parts (and_parts (begins r.parts) (all_tails (λ t. list_all (leads_on (length r.parts)) (jumps t)) r) ok.start).0)))
    where
      four : (parts : List Part) → begins parts ≡ true → n < length (base_blocks r parts)
      four [] h = cc
      four (p ∷ parts) h = omega (arith, lt)

  steps-ranged : all_steps (step_in_range l) l ≡ true
  steps-ranged = all-steps (step_in_range l) r t (entry-passes r t in_range ok (record {
    start = start-ranged;
    item = λ x a pre post e. item-ranged x (item-uses-pass good r x all-good a) (item-declared r t ok x a) (length pre) (let c = ap length e in let d = length-append pre (names_of_item x ++ post) in let g = length-append (names_of_item x) post in omega (arith, c, d, g));
    tail = λ n p s. both (list_all (operand_in_range l f) (term_operands (print_tail ws p.tail))) (true && list_all block-below (edges (print_tail ws p.tail))) (tail-operands p.tail (tail-uses-pass good r n p all-good s)) (tail-edges n p s);
    phi = phi-ranged;
    leads = leads-ranged;
  }))

  pub ranges : numbers_in_range l ≡ true
  ranges = both (list_all (λ f. nat_le f.params (length f.locals)) l.funcs) (all_steps (step_in_range l) l) (parameters-local r t ok) steps-ranged
