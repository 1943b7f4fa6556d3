-- The rules of the Adaptive Profile on other steps than calls: switches, returns, integers and choices.
use Rattle.std.proofs.Common.{◌≡◌, ℕ, zero, suc, ◌+◌, ◌<◌, ◌≤◌, Bool, true, false, not, ◌&&◌, Option, None, Some, List, [], ◌∷◌, take, refl, sym, ap, ◌∙◌, arith, option_map}
use Rattle.std.proofs.lemmas.Bool.{and_parts}
use Rattle.std.specs.List.{list_all, list_any}
use Rattle.std.specs.Prelude.{◌||◌, length, nat_lt, slice_get}
use Rattle.ir_module.specs.declared.tree.Block.{Block}
use Rattle.ir_module.specs.declared.tree.Function.{Function}
use Rattle.ir_module.specs.declared.tree.Module.{Module}
use Rattle.ir_module.specs.declared.tree.Operand.{Operand}
use Rattle.ir_module.specs.Numbered.{is_int}
use Rattle.ir_module.specs.Steps.{Step, PhiAt, InstAt, TermAt, step_in}
use Rattle.ir_values.specs.declared.ids.BlockId.{BlockId}
use Rattle.ir_values.specs.declared.int.Width.{Width}
use Rattle.ir_values.specs.declared.int.Width.TheVariants.{W1, W8, W16, W32, W64}
use Rattle.ir_values.specs.declared.name.Name.{Name}
use Rattle.ir_values.specs.declared.ty.Ty.{Ty}
use Rattle.ir_values.specs.declared.ty.Ty.TheVariants as ty
use Rattle.ir_values.specs.Values.{is_bit, is_bitwise}
use Rattle.kept_items.specs.declared.item.Item.{Item}
use Rattle.kept_items.specs.declared.item.Item.TheVariants as item
use Rattle.kept_items.specs.declared.target.Caps.{Caps}
use Rattle.kept_items.specs.declared.target.Target.TheVariants.{Adaptive}
use Rattle.kept_items.specs.declared.val.Dyn.{Dyn}
use Rattle.profile_rules.specs.Adaptive.{computes_integers, integers_key, is_boolean, is_later_return, is_on, is_switch, is_wide, returns_key, selects_no_integers, switches_key}
use Rattle.profile_rules.specs.Calls.{passes}
use Rattle.profile_rules.specs.Walk.{is_return}
use Rattle.residue.specs.declared.parts.Part.{Part}
use Rattle.residue.specs.declared.parts.Residue.{Residue}
use Rattle.residue.specs.declared.parts.Tail.{Tail}
use Rattle.residue.specs.declared.parts.Tail.TheVariants as tail
use Rattle.residue.specs.Instructions.{Words, instructions, local, print_tail}
use Rattle.residue.specs.Printed.{names_of_part, print_blocks, print_parts, printed, printed_entry, words}
use Rattle.residue.specs.Valid.{Valid, caps_permit, caps_permit_tail, count_returns, returns}
use Rattle.printed_residue.specs.Places.{in_entry, names_before}
use Rattle.numbered_residue.proofs.Forms.{equal-passes}
use Rattle.numbered_residue.proofs.Shared.{every, less}
use Rattle.typed_residue.proofs.Types.{param-type}
use Rattle.profiled_residue.proofs.Flags.{integers-on, returns-on, switches-on}
use Rattle.profiled_residue.proofs.Functions.{not-both}
use Rattle.profiled_residue.proofs.Located.{steps-pass}
use Rattle.profiled_residue.proofs.Permitted.{item-permitted, parameter-permitted, returns-permitted, tail-permitted}

-- what a capability permits breaks no rule, where a flag tells the capability
permitted : (broken has on : Bool) → on ≡ has → (has || not broken) ≡ true → not (broken && not on) ≡ true
permitted true true on e h = ap (λ b. not (not b)) e
permitted true false on e h = cc
permitted false has on e h = refl

-- ---- free instructions

binary-free : (b : Bool) (w : Width) → (b && is_bit w) ≡ not (not (is_boolean (ty.Int w) && b))
binary-free true W1 = refl
binary-free true W8 = refl
binary-free true W16 = refl
binary-free true W32 = refl
binary-free true W64 = refl
binary-free false W1 = refl
binary-free false W8 = refl
binary-free false W16 = refl
binary-free false W32 = refl
binary-free false W64 = refl

bit-free : (w : Width) → is_bit w ≡ not (not (is_boolean (ty.Int w)))
bit-free W1 = refl
bit-free W8 = refl
bit-free W16 = refl
bit-free W32 = refl
bit-free W64 = refl

bit-narrow : (w : Width) → is_bit w ≡ not (is_wide (ty.Int w))
bit-narrow W1 = refl
bit-narrow W8 = refl
bit-narrow W16 = refl
bit-narrow W32 = refl
bit-narrow W64 = refl

-- ---- returns

-- a part that returns counts
counted : (parts : List Part) (n : ℕ) (p : Part) → slice_get parts n ≡ Some p → returns p.tail ≤ count_returns parts
counted [] n p s = cc
counted (q ∷ parts) zero p s = let z : q ≡ p = cc in let e = ap (λ (q : Part). returns q.tail) z in omega (arith, e)
counted (q ∷ parts) (suc n) p s = let h = counted parts n p s in omega (arith, h)

no-return : (ws : Words) (x : Tail) → returns x ≡ 0 → is_return (print_tail ws x) ≡ false
no-return ws (tail.Return a) h = absurd (omega (arith, h))
no-return ws (tail.Jump j) h = refl
no-return ws (tail.Branch a j i) h = refl
no-return ws (tail.Switch w a j cases) h = refl

-- where at most one part returns, no block before its block does
first-return : (r : Residue) (parts : List Part) (k free n : ℕ) (p : Part) → slice_get parts n ≡ Some p → 1 ≤ returns p.tail → count_returns parts < 2 → list_any (λ (c : Block). is_return c.term) (take n (print_parts r k free parts)) ≡ false
first-return r [] k free n p s h lt = cc
first-return r (q ∷ parts) k free zero p s h lt = refl
first-return r (q ∷ parts) k free (suc n) p s h lt =
    let c = counted parts n p s in
    ap (λ b. b || list_any (λ (c : Block). is_return c.term) (take n (print_parts r (suc k) (free + length (names_of_part q)) parts))) (no-return (words r) q.tail (omega (arith, c, h, lt)))
    ∙ first-return r parts (suc k) (free + length (names_of_part q)) n p s h (omega (arith, lt))

-- a test of the type of a local name
passes-type : (test : Ty → Bool) (o : Option (Name × Ty)) (u : Ty) → option_map (λ l. l.1) o ≡ Some u → passes o (λ l. test l.1) ≡ test u
passes-type test None u e = cc
passes-type test (Some l) u e = let z : l.1 ≡ u = cc in ap test z

module _ (r : Residue) (caps : Caps) (ok : Valid r (Adaptive caps)) where
  abbrev m : Module
  m = printed r (Adaptive caps)

  abbrev f : Function
  f = printed_entry r (Adaptive caps)

  abbrev ws : Words
  ws = words r

  abbrev at : ℕ → ℕ → Step
  at n i = step_in (slice_get (print_blocks r (Adaptive caps)) n) i

  -- ---- switches

  switch-permitted : (x : Tail) → caps_permit_tail caps x ≡ true → not (is_switch (TermAt (print_tail ws x)) && not (is_on switches_key m)) ≡ true
  switch-permitted (tail.Switch w a j cases) h = ap (λ b. not (not b)) (switches-on r caps ∙ (and_parts caps.switch (caps.ints || is_bit w) h).0)
  switch-permitted (tail.Jump j) h = refl
  switch-permitted (tail.Branch a j i) h = refl
  switch-permitted (tail.Return a) h = refl

  pub switches-permitted : (n i : ℕ) → not (is_switch (at n i) && not (is_on switches_key m)) ≡ true
  switches-permitted = steps-pass r (Adaptive caps) (λ n i s. not (is_switch s && not (is_on switches_key m))) ok (record {
    none = λ n i. refl;
    start = refl;
    item = λ n i x a s k. every (λ c. not (is_switch (InstAt c) && not (is_on switches_key m))) (instructions ws k x) (λ c. refl);
    tail = λ n i q p s e. switch-permitted p.tail (tail-permitted r caps ok q p s);
    phi = λ z n i p s k x g es. refl;
    leads = λ e n i lt. refl;
  })

  -- ---- returns

  abbrev returned_before : ℕ → Bool
  returned_before n = list_any (λ (c : Block). is_return c.term) (take n (print_parts r 0 0 r.parts))

  -- a second return needs the capability
  return-permitted : (n : ℕ) (p : Part) → slice_get r.parts n ≡ Some p → 1 ≤ returns p.tail → not (returned_before n && not (is_on returns_key m)) ≡ true
  return-permitted n p s h = by caps.returns (returns-on r caps) (returns-permitted r caps ok)
    where
      by : (b : Bool) → is_on returns_key m ≡ b → (b || nat_lt (count_returns r.parts) 2) ≡ true → not (returned_before n && not (is_on returns_key m)) ≡ true
      by true e g = ap (λ b. not (returned_before n && not b)) e ∙ not-both (returned_before n)
      by false e g = ap (λ b. not (b && not (is_on returns_key m))) (first-return r r.parts 0 0 n p s h (less (count_returns r.parts) 2 g))

  tail-returns : (n : ℕ) (p : Part) → slice_get r.parts n ≡ Some p → (x : Tail) → p.tail ≡ x → not ((is_return (print_tail ws x) && returned_before n) && not (is_on returns_key m)) ≡ true
  tail-returns n p s (tail.Return a) e = return-permitted n p s (let z = ap returns e in omega (arith, z))
  tail-returns n p s (tail.Jump j) e = refl
  tail-returns n p s (tail.Branch a j i) e = refl
  tail-returns n p s (tail.Switch w a j cases) e = refl

  pub returns-once : (n i : ℕ) → not (is_later_return f (in_entry n i) (at n i) && not (is_on returns_key m)) ≡ true
  returns-once = steps-pass r (Adaptive caps) (λ n i s. not (is_later_return f (in_entry n i) s && not (is_on returns_key m))) ok (record {
    none = λ n i. refl;
    start = refl;
    item = λ n i x a s k. every (λ c. not (is_later_return f (in_entry n i) (InstAt c) && not (is_on returns_key m))) (instructions ws k x) (λ c. refl);
    tail = λ n i q p s e. tail-returns n p (ap (slice_get r.parts) e ∙ s) p.tail refl;
    phi = λ z n i p s k x g es. refl;
    leads = λ e n i lt. refl;
  })

  -- ---- integers

  abbrev on : Bool
  on = is_on integers_key m

  abbrev free : Step → Bool
  free s = not (computes_integers f s && not on)

  one : (broken : Bool) → (caps.ints || not broken) ≡ true → (not (broken && not on) && true) ≡ true
  one broken h = ap (λ b. b && true) (permitted broken caps.ints on (integers-on r caps) h)

  item-free : (x : Item) → caps_permit caps x ≡ true → (k : ℕ) → list_all (λ c. free (InstAt c)) (instructions ws k x) ≡ true
  item-free (item.Binary d o g w a b) h k = one (not (is_boolean (ty.Int w) && is_bitwise o)) (ap (λ b. caps.ints || b) (sym (binary-free (is_bitwise o) w)) ∙ h)
  item-free (item.Icmp d o w a b) h k = one (not (is_boolean (ty.Int w))) (ap (λ b. caps.ints || b) (sym (bit-free w)) ∙ h)
  item-free (item.Convert d o w a to) h k = one true h
  item-free (item.Select d w c a b) h k = one (is_wide (ty.Int w)) (ap (λ b. caps.ints || b) (sym (bit-narrow w)) ∙ h)
  item-free (item.Read d v) h k = refl
  item-free (item.Equal d v u) h k = equal-passes (λ c. free (InstAt c)) ws k d v u (λ e. refl) (λ e. refl) refl
  item-free (item.Operation name args) h k = refl
  item-free (item.Output c args) h k = refl

  phi-free : (n : ℕ) (p : Part) → slice_get r.parts n ≡ Some p → (k : ℕ) (x : Dyn × Width) → slice_get p.params k ≡ Some x → (es : List (Operand × BlockId)) → free (PhiAt (record { result = local (names_before r n + k); entries = es })) ≡ true
  phi-free n p s k x g es =
      ap (λ b. not (b && not on)) (passes-type is_wide (slice_get f.locals (names_before r n + k)) (ty.Int x.1) (param-type r (Adaptive caps) ok n p s k x g))
      ∙ permitted (is_wide (ty.Int x.1)) caps.ints on (integers-on r caps) (ap (λ b. caps.ints || b) (sym (bit-narrow x.1)) ∙ parameter-permitted r caps ok n p s k x g)

  pub integers-permitted : (n i : ℕ) → free (at n i) ≡ true
  integers-permitted = steps-pass r (Adaptive caps) (λ n i s. free s) ok (record {
    none = λ n i. refl;
    start = refl;
    item = λ n i x a s k. item-free x (item-permitted r caps ok x a) k;
    tail = λ n i q p s e. refl;
    phi = λ z n i p s k x g es. phi-free n p s k x g es;
    leads = λ e n i lt. refl;
  })

  -- ---- choices are between integers

  abbrev chooses : Step → Bool
  chooses s = not (selects_no_integers f s)

  item-chooses : (x : Item) (k : ℕ) → list_all (λ c. chooses (InstAt c)) (instructions ws k x) ≡ true
  item-chooses (item.Binary d o g w a b) k = refl
  item-chooses (item.Icmp d o w a b) k = refl
  item-chooses (item.Convert d o w a to) k = refl
  item-chooses (item.Select d w c a b) k = refl
  item-chooses (item.Read d v) k = refl
  item-chooses (item.Equal d v u) k = equal-passes (λ c. chooses (InstAt c)) ws k d v u (λ e. refl) (λ e. refl) refl
  item-chooses (item.Operation name args) k = refl
  item-chooses (item.Output c args) k = refl

  pub choices-of-integers : (n i : ℕ) → chooses (at n i) ≡ true
  choices-of-integers = steps-pass r (Adaptive caps) (λ n i s. chooses s) ok (record {
    none = λ n i. refl;
    start = refl;
    item = λ n i x a s k. item-chooses x k;
    tail = λ n i q p s e. refl;
    phi = λ z n i p s k x g es. ap not (passes-type (λ u. not (is_int u)) (slice_get f.locals (names_before r n + k)) (ty.Int x.1) (param-type r (Adaptive caps) ok n p s k x g));
    leads = λ e n i lt. refl;
  })
