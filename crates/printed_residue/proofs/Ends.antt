-- Where a run begins, the marks that it passes, and what it does at the tail of an Adaptive part.
use Rattle.std.proofs.Common.{◌≡◌, ℕ, zero, suc, ◌+◌, ◌-◌, ◌<◌, Bool, true, false, Option, None, Some, List, [], ◌∷◌, ◌++◌, length, map, take, refl, sym, ap, ◌∙◌, subst, arith, length-append, append-nil}
use Rattle.std.proofs.lemmas.Bool.{and_parts}
use Rattle.std.proofs.lemmas.Option.{slice_get-map}
use Rattle.std.specs.List.{list_all}
use Rattle.std.specs.Prelude.{◌==◌, if◌then◌else◌, flat_map, nat_lt, slice_get, slice_index_or, option_map, replicate}
use Rattle.backend_api.specs.declared.operation.Answer.{Answer}
use Rattle.ir_module.specs.declared.tree.Block.{Block}
use Rattle.ir_module.specs.declared.tree.Operand.TheVariants as operand
use Rattle.ir_module.specs.declared.tree.Module.{Module}
use Rattle.ir_module.specs.Entry.{Entry, entry_of}
use Rattle.ir_values.specs.declared.class.Class.TheVariants as class
use Rattle.ir_values.specs.declared.ids.FuncId.{FuncId}
use Rattle.ir_values.specs.declared.int.Width.{Width}
use Rattle.ir_values.specs.declared.ty.Ty.{Ty}
use Rattle.ir_values.specs.declared.ty.Ty.TheVariants as ty
use Rattle.ir_values.specs.declared.value.Value.{Value}
use Rattle.ir_values.specs.declared.value.Value.TheVariants as value
use Rattle.ir_values.specs.Calls.{class_of}
use Rattle.ir_values.specs.Int.{IntValue}
use Rattle.ir_values.specs.Types.{signature}
use Rattle.qir_meaning.specs.Effects.{is_one}
use Rattle.qir_meaning.specs.Moves.{entry_for}
use Rattle.qir_meaning.specs.Runs.{start}
use Rattle.qir_meaning.specs.State.{Env, State, value_of}
use Rattle.qir_meaning.specs.code.Steps.{returned, Off, On, Whole, tick, tick_of, whole_start}
use Rattle.kept_items.specs.declared.target.Caps.{Caps}
use Rattle.kept_items.specs.declared.target.Target.{Target}
use Rattle.kept_items.specs.declared.target.Target.TheVariants.{Adaptive}
use Rattle.kept_items.specs.declared.val.Val.{Val}
use Rattle.kept_items.specs.declared.val.Val.TheVariants.{Known}
use Rattle.kept_items.specs.Items.{valued}
use Rattle.residue.specs.declared.parts.Jump.{Jump}
use Rattle.residue.specs.declared.parts.Part.{Part}
use Rattle.residue.specs.declared.parts.Residue.{Residue}
use Rattle.residue.specs.declared.parts.Tail.{Tail}
use Rattle.residue.specs.declared.parts.Tail.TheVariants as tail
use Rattle.residue.specs.Functions.{Called, calls_of_residue, declaration, declared_of, first_uses, initialize, is_among}
use Rattle.residue.specs.Instructions.{block_number, named_value, operand_of, print_items, print_tail}
use Rattle.residue.specs.Printed.{argument, beginning, edges_to, entries, initialize_call, locals_from, names_of, print_part, printed, printed_entry, words}
use Rattle.residue.specs.Scopes.{gives_of, item_gives, items_of, jump_args, jumps, param_gives, part_gives, tail_uses}
use Rattle.residue.specs.Valid.{Valid, all_agree, begins, fits_part, is_within, leads_on}
use Rattle.printed_residue.specs.Laws.{Carries, IsGood}
use Rattle.printed_residue.specs.Places.{AtLine, HaveValues, at_name, by_int, case_jump, in_entry, is_in, line_index, lowered_state, naming, names_before, scope_at, taken, value_of_number}
use Rattle.printed_residue.proofs.Calls.{Declares}
use Rattle.printed_residue.proofs.Declared.{Among, declared-class}
use Rattle.printed_residue.proofs.Edges.{Took, edge-entry, phis-run}
use Rattle.printed_residue.proofs.Facts.{passes-here, passes-piece, take-all}
use Rattle.printed_residue.proofs.Lines.{first, here, phis, scoped, stands, val-has, distinct}
use Rattle.printed_residue.proofs.Looks.{differ, same-numbers}
use Rattle.printed_residue.proofs.Naming.{params-enough, part-params-named}
use Rattle.printed_residue.proofs.Scoped.{val-in}
use Rattle.printed_residue.proofs.Steps.{Has, declared-does, inst-tick, operand-has}
use Rattle.printed_residue.proofs.Tails.{TailHas, edge-goes, tail-goes, tail-returns}

clash : false ≡ true → ⊥
clash e = cc

-- ---- marks

pub mark-passes : (r : Residue) (n : ℕ) (p : Part) (q : ℕ) (ds : List IntValue) (st : State) (v : Whole) → items_of (take (suc q) p.lines) ≡ items_of (take q p.lines) → AtLine r n p q ds st v → AtLine r n p (suc q) ds st v
mark-passes r n p q ds st v e a = record {
  at = a.at ∙ ap (λ ys. in_entry n (length p.params + (length (beginning n) + length (print_items (words r) (names_before r n + length p.params) ys)))) (sym e);
  no_waits = a.no_waits;
  state = a.state;
  values = λ d h. a.values d (ap (λ ys. is_in (param_gives p ++ flat_map item_gives ys) d) (sym e) ∙ h);
  long = a.long;
  bits = a.bits;
}

-- ---- the jump that is taken

pub taken-among : (ds : List IntValue) (t : Tail) (j : Jump) → taken ds t ≡ Some j → Among (jumps t) j
taken-among ds (tail.Jump j') j h = (0, h)
taken-among ds (tail.Branch a j' i') j h = by-value (valued ds a) h
  where
    by-bit : (b : Bool) → Some (if b then j' else i') ≡ Some j → Among (j' ∷ i' ∷ []) j
    by-bit true h = (0, h)
    by-bit false h = (1, h)

    by-value : (u : Value) → by_int u (λ n. if is_one n then j' else i') ≡ Some j → Among (j' ∷ i' ∷ []) j
    by-value (value.Int n) h = by-bit (is_one n) h
    by-value u h = cc
taken-among ds (tail.Switch w a j' cases) j h = by-value (valued ds a) h
  where
    by-case : (n : IntValue) (cases : List (IntValue × Jump)) → Some (case_jump n cases j') ≡ Some j → Among (j' ∷ map (λ c. c.1) cases) j
    by-case n [] h = (0, h)
    by-case n (c ∷ cases) h = by (c.0.bits == n.bits) (λ g. by-case n cases g) h
      where
        later : Among (j' ∷ map (λ c. c.1) cases) j → Among (j' ∷ (c.1 ∷ map (λ c. c.1) cases)) j
        later (zero, s) = (0, s)
        later (suc i, s) = (suc (suc i), s)

        by : (b : Bool) → (Some (case_jump n cases j') ≡ Some j → Among (j' ∷ map (λ c. c.1) cases) j) → Some (if b then c.1 else case_jump n cases j') ≡ Some j → Among (j' ∷ (c.1 ∷ map (λ c. c.1) cases)) j
        by true ih h = (1, h)
        by false ih h = later (ih h)

    by-value : (u : Value) → by_int u (λ n. case_jump n cases j') ≡ Some j → Among (j' ∷ map (λ c. c.1) cases) j
    by-value (value.Int n) h = by-case n cases h
    by-value u h = cc
taken-among ds (tail.Return a) j h = cc

-- the value that a tail chooses by is in scope
tail-has : (r : Residue) (scope : List (ℕ × Width)) (ds : List IntValue) (env : Env) → HaveValues r scope ds env → (t : Tail) → list_all (λ a. is_within scope a.1) (tail_uses t) ≡ true → TailHas (words r) ds env t
tail-has r scope ds env h (tail.Jump j) u = tt
tail-has r scope ds env h (tail.Branch a j i) u = val-has r scope ds env h a (val-in scope a (and_parts (is_within scope a) true u).0)
tail-has r scope ds env h (tail.Switch w a j cases) u = val-has r scope ds env h a (val-in scope a (and_parts (is_within scope a) (list_all (λ a. is_within scope a.1) (map (λ c. (ty.Int w, Known (value.Int c.0))) cases)) u).0)
tail-has r scope ds env h (tail.Return a) u = val-has r scope ds env h a (val-in scope a (and_parts (is_within scope a) true u).0)

pub get-within : {A : Type 0} (xs : List A) (i : ℕ) → i < length xs → (x : A) × (slice_get xs i ≡ Some x)
get-within [] i lt = absurd (omega arith)
get-within (x ∷ xs) zero lt = (x, refl)
get-within (x ∷ xs) (suc i) lt = get-within xs i (omega arith)

index-passes : (test : Val → Bool) (args : List Val) (i : ℕ) → list_all test args ≡ true → test (Known value.NoLabel) ≡ true → test (slice_index_or args i (Known value.NoLabel)) ≡ true
index-passes test [] i h d = d
index-passes test (a ∷ args) zero h d = (and_parts (test a) (list_all test args) h).0
index-passes test (a ∷ args) (suc i) h d = index-passes test args i (and_parts (test a) (list_all test args) h).1 d

less : (a b : ℕ) → nat_lt a b ≡ true → a < b
less a b e = grind arith

none-taken : {A : Type 0} (xs : List A) → take 0 xs ≡ []
none-taken [] = refl
none-taken (x ∷ xs) = refl

-- the first line of a part stands behind its phis
first-line : (r : Residue) (m : ℕ) (p : Part) → line_index r m p 0 ≡ length p.params + length (beginning m)
first-line r m p =
    ap (λ ls. length p.params + (length (beginning m) + length (print_items (words r) (names_before r m + length p.params) (items_of ls)))) (none-taken p.lines)
    ∙ (let z : length p.params + (length (beginning m) + 0) ≡ length p.params + length (beginning m) = omega arith in z)

not-first : (m : ℕ) → 0 < m → length (beginning m) ≡ 0
not-first m lt = ap (λ b. length (if b then (initialize_call ∷ []) else [])) (differ m 0 (λ e. absurd (omega (arith, lt, e))))

module _ (r : Residue) (caps : Caps) (good : IsGood r (Adaptive caps)) (n : ℕ) (p : Part) (is_part : slice_get r.parts n ≡ Some p) where
  abbrev l : Module
  l = printed r (Adaptive caps)

  abbrev f : FuncId
  f = record { 0 = 0 }

  abbrev b : Block
  b = print_part r n (names_before r n) p

  ok : Valid r (Adaptive caps)
  ok = good.valid

  module _ (ds : List IntValue) (st : State) (v : Whole) (at : AtLine r n p (length p.lines) ds st v) where
    abbrev env : Env
    env = v.env

    scope-all : scope_at p (length p.lines) ≡ part_gives p
    scope-all = ap (λ ls. param_gives p ++ flat_map item_gives (items_of ls)) (take-all p.lines)

    all-values : HaveValues r (part_gives p) ds env
    all-values = subst (λ s. HaveValues r s ds env) scope-all at.values

    end-index : length b.phis + (length (beginning n) + length (print_items (words r) (first r caps good n p is_part) (items_of (take (length p.lines) p.lines)))) ≡ length b.phis + length b.insts
    end-index =
        let a = ap (λ ls. length (print_items (words r) (first r caps good n p is_part) (items_of ls))) (take-all p.lines) in
        let e = length-append (beginning n) (print_items (words r) (first r caps good n p is_part) (items_of p.lines)) in
        omega (arith, a, e)

    abbrev standing : Whole
    standing = record { at = in_entry n (length b.phis + length b.insts); env = env; waits = []; state = lowered_state (naming r) st }

    stood : v ≡ standing
    stood = stands r caps good n p is_part (length p.lines) ds st v at ∙ ap (λ i. record { at = in_entry n i; env = env; waits = []; state = lowered_state (naming r) st }) end-index

    within : list_all (λ a. is_within (part_gives p) a.1) (tail_uses p.tail) ≡ true
    within = (and_parts (list_all (λ a. is_within (part_gives p) a.1) (tail_uses p.tail)) (list_all (is_within (part_gives p)) (jump_args p.tail)) (scoped r (Adaptive caps) good.valid n p is_part).1).0

    args-within : list_all (is_within (part_gives p)) (jump_args p.tail) ≡ true
    args-within = (and_parts (list_all (λ a. is_within (part_gives p) a.1) (tail_uses p.tail)) (list_all (is_within (part_gives p)) (jump_args p.tail)) (scoped r (Adaptive caps) good.valid n p is_part).1).1

    has : TailHas (words r) ds env p.tail
    has = tail-has r (part_gives p) ds env all-values p.tail within

    pub returns-run : (a : Val) → p.tail ≡ tail.Return a → tick l v ≡ Off (returned (Some (named_value (words r) (valued ds a))) (lowered_state (naming r) st))
    returns-run a e = ap (tick l) stood ∙ tail-returns l f (words r) (block_number n) b (here r caps good n p is_part) ds env st a (subst (λ t. TailHas (words r) ds env t) e has) (ap (print_tail (words r)) e)

    module _ (j : Jump) (h : taken ds p.tail ≡ Some j) where
      among : Among (jumps p.tail) j
      among = taken-among ds p.tail j h

      pub leads : (0 < j.to) × (j.to < length r.parts)
      leads =
          let s = passes-here (λ p. list_all (leads_on (length r.parts)) (jumps p.tail)) r.parts n p (and_parts (begins r.parts) (list_all (λ p. list_all (leads_on (length r.parts)) (jumps p.tail)) r.parts) ok.start).1 is_part in
          let g = and_parts (nat_lt 0 j.to) (nat_lt j.to (length r.parts)) (passes-here (leads_on (length r.parts)) (jumps p.tail) among.0 j s among.1) in
          (less 0 j.to g.0, less j.to (length r.parts) g.1)

      abbrev pub to : Part
      to = (get-within r.parts j.to leads.1).0

      pub to-is : slice_get r.parts j.to ≡ Some to
      to-is = (get-within r.parts j.to leads.1).1

      agree : all_agree (jumps p.tail) ≡ true
      agree = passes-here (λ p. all_agree (jumps p.tail)) r.parts n p (and_parts (list_all (λ p. list_all (λ j. fits_part (gives_of r) (slice_get r.parts j.to) j.args) (jumps p.tail)) r.parts) (list_all (λ p. all_agree (jumps p.tail)) r.parts) ok.jumps).1 is_part

      entry : (i : ℕ) → entry_for (entries (words r) i (edges_to j.to r.parts)) (block_number n) ≡ Some (operand_of (words r) (argument i j))
      entry i = edge-entry (words r) i r.parts n p among.0 j is_part among.1 agree

      took : Took (words r) (edges_to j.to r.parts) (block_number n) j env entry (names_before r j.to) 0 to.params env
      took = phis-run (words r) (edges_to j.to r.parts) (block_number n) j env entry to.params (names_before r j.to) 0 env (let a = params-enough r j.to to to-is in let g = at.long in omega (arith, a, g))

      args-in : list_all (is_within (part_gives p)) j.args ≡ true
      args-in = passes-piece (is_within (part_gives p)) (λ j. j.args) (jumps p.tail) among.0 j args-within among.1

      arg-has : (i : ℕ) → Has (words r) ds env (argument i j)
      arg-has i = val-has r (part_gives p) ds env all-values (argument i j) (val-in (part_gives p) (argument i j) (index-passes (is_within (part_gives p)) j.args i args-in refl))

      next-values : (ds' : List IntValue) → Carries j to ds ds' → HaveValues r (scope_at to 0) ds' took.env'
      next-values ds' c d i =
          let k = part-params-named r j.to to to-is (distinct r (Adaptive caps) good.valid) d (ap (λ s. is_in s d) (sym (append-nil (param_gives to))) ∙ ap (λ ls. is_in (param_gives to ++ flat_map item_gives (items_of ls)) d) (sym (none-taken to.lines)) ∙ i) in
          ap (at_name took.env') k.name
          ∙ took.has k.index (within-length to.params k.index k.param k.is)
          ∙ ap (λ m. value_of env (operand_of (words r) (argument m j))) (let z : 0 + k.index ≡ k.index = omega arith in z)
          ∙ operand-has (words r) ds env (argument k.index j) (arg-has k.index)
          ∙ ap (λ u. Some (named_value (words r) u)) (c k.index k.param k.is)
          ∙ ap (λ m. Some (value.Int (value_of_number ds' m))) k.number
        where
          within-length : {A : Type 0} (xs : List A) (i : ℕ) (x : A) → slice_get xs i ≡ Some x → i < length xs
          within-length [] i x h = cc
          within-length (y ∷ xs) zero x h = omega arith
          within-length (y ∷ xs) (suc i) x h = let g = within-length xs i x h in omega (arith, g)

      abbrev after : Whole
      after = record { at = in_entry j.to (length (print_part r j.to (names_before r j.to) to).phis + 0); env = took.env'; waits = []; state = lowered_state (naming r) st }

      goes : tick l v ≡ On after
      goes =
          ap (tick l) stood
          ∙ tail-goes l f (words r) (block_number n) b (here r caps good n p is_part) ds env st p.tail j has h refl
          ∙ edge-goes l f (words r) (block_number n) b (here r caps good n p is_part) (length b.phis + length b.insts) env took.env' st standing (block_number j.to) (print_part r j.to (names_before r j.to) to) refl (here r caps good j.to to to-is) took.takes

      pub tails-run : (ds' : List IntValue) → Carries j to ds ds' → (v' : Whole) × (tick l v ≡ On v') × AtLine r j.to to 0 ds' st v'
      tails-run ds' c = (
        after,
        goes,
        record {
          at = ap (in_entry j.to) (let a = phis r caps good j.to to to-is in let e = first-line r j.to to in let g = not-first j.to leads.0 in omega (arith, a, e, g));
          no_waits = refl;
          state = refl;
          values = next-values ds' c;
          long = took.long ∙ at.long;
          bits = at.bits;
        },
      )

-- ---- the start

locals-long : (n : ℕ) (names : List (Option ℕ × Ty)) → length (locals_from n names) ≡ length names
locals-long n [] = refl
locals-long n (x ∷ names) = ap suc (locals-long (suc n) names)

replicate-long : {A : Type 0} (n : ℕ) (x : A) → length (replicate n x) ≡ n
replicate-long zero x = refl
replicate-long (suc n) x = ap suc (replicate-long n x)

first-stays : (cs : List Called) (c : Called) (there : List Called) → slice_get (first_uses (c ∷ there) cs) 0 ≡ Some c
first-stays [] c there = refl
first-stays (y ∷ cs) c there = by (is_among (c ∷ there) y.name) (first-stays cs c there) (first-stays cs c (there ++ y ∷ []))
  where
    by : (b : Bool) → slice_get (first_uses (c ∷ there) cs) 0 ≡ Some c → slice_get (first_uses (c ∷ (there ++ y ∷ [])) cs) 0 ≡ Some c → slice_get (first_uses (if b then c ∷ there else c ∷ (there ++ y ∷ [])) cs) 0 ≡ Some c
    by true h g = h
    by false h g = g

initializes : class_of initialize.name (signature initialize.ret initialize.params) ≡ Some class.Init
unfolding class_of
initializes = refl

pub initialize-declared : (r : Residue) (t : Target) → Declares (printed r t) (record { 0 = 1 }) initialize.name class.Init
initialize-declared r t = record {
  function = declaration r.irreversible initialize;
  is = slice_get-map (declaration r.irreversible) (declared_of r) 0 ∙ ap (option_map (declaration r.irreversible)) (first-stays (calls_of_residue r) initialize []);
  no_body = refl;
  named = refl;
  class = declared-class r.irreversible initialize ∙ initializes;
}

pub entry-is : (r : Residue) (t : Target) → entry_of (printed r t) ≡ Some (record { number = 0; function = printed_entry r t })
unfolding entry_of
entry-is r t = refl

first-part : (parts : List Part) → begins parts ≡ true → (p : Part) × (slice_get parts 0 ≡ Some p) × (length p.params ≡ 0)
first-part [] h = cc
first-part (p ∷ parts) h = (p, refl, zero-is (length p.params) h)
  where
    zero-is : (n : ℕ) → (n == 0) ≡ true → n ≡ 0
    zero-is n h = same-numbers n 0 h

no-params : {A : Type 0} (xs : List A) → length xs ≡ 0 → xs ≡ []
no-params [] h = refl
no-params (x ∷ xs) h = absurd (omega (arith, h))

module _ (r : Residue) (caps : Caps) (good : IsGood r (Adaptive caps)) (answers : List Answer) where
  pub begun : (p : Part) × (slice_get r.parts 0 ≡ Some p) × (length p.params ≡ 0)
  begun = first-part r.parts (and_parts (begins r.parts) (list_all (λ p. list_all (leads_on (length r.parts)) (jumps p.tail)) r.parts) good.valid.start).0

  abbrev pub part : Part
  part = begun.0

  pub part-is : slice_get r.parts 0 ≡ Some part
  part-is = begun.1

  abbrev pub entry_is : Entry
  entry_is = record { number = 0; function = printed_entry r (Adaptive caps) }

  abbrev before : Whole
  before = whole_start entry_is answers

  abbrev initialized : Whole
  initialized = record { at = in_entry 0 1; env = before.env; waits = []; state = before.state }

  no-phis : length (print_part r 0 (names_before r 0) part).phis ≡ 0
  no-phis = phis r caps good 0 part part-is ∙ begun.2

  begins-run : tick (printed r (Adaptive caps)) before ≡ On initialized
  begins-run =
      inst-tick (printed r (Adaptive caps)) (record { 0 = 0 }) (block_number 0) (print_part r 0 (names_before r 0) part) 0 initialize_call before (here r caps good 0 part part-is) refl (ap (in_entry 0) (let z = no-phis in omega (arith, z)))
      ∙ ap (tick_of before) (declared-does (printed r (Adaptive caps)) before.at before.env before.state None ty.Void (record { 0 = 1 }) ((ty.Text, operand.Const value.NoLabel) ∷ []) initialize.name class.Init (value.NoLabel ∷ []) (initialize-declared r (Adaptive caps)) refl)

  pub starts-run : (ds : List IntValue) → (v : Whole) × (tick (printed r (Adaptive caps)) before ≡ On v) × AtLine r 0 part 0 ds (start answers) v
  starts-run ds = (
    initialized,
    begins-run,
    record {
      at = ap (in_entry 0) (let z = first-line r 0 part in let k = begun.2 in omega (arith, z, k));
      no_waits = refl;
      state = refl;
      values = λ d h. absurd (clash (ap (λ ps. is_in (map (λ x. (x.0.0, x.1)) ps ++ []) d) (sym (no-params part.params begun.2)) ∙ ap (λ ls. is_in (param_gives part ++ flat_map item_gives (items_of ls)) d) (sym (none-taken part.lines)) ∙ h));
      long = replicate-long (length (locals_from 0 (names_of r.parts)) - 0) None ∙ (let z = locals-long 0 (names_of r.parts) in omega (arith, z));
      bits = tt;
    },
  )
