-- The parts of order that the list of functions shows: their types, their number, and their names.
use Rattle.std.proofs.Common.{◌≡◌, ℕ, suc, ◌+◌, ◌*◌, ◌^◌, ◌<◌, ◌≤◌, Bool, true, false, ◌&&◌, not, Some, List, [], ◌∷◌, ◌++◌, length, map, take, refl, ap, ◌∙◌, arith, length-append}
use Rattle.std.proofs.lemmas.Bool.{and_parts}
use Rattle.std.specs.List.{list_all}
use Rattle.std.specs.Prelude.{if◌then◌else◌, flat_map, nat_le, nat_lt}
use Rattle.ir_module.specs.Classes.{parameter_types}
use Rattle.ir_module.specs.Numbered.{are_few, has_block, is_void}
use Rattle.ir_module.specs.Tree.{blocks_of}
use Rattle.ir_values.specs.declared.ty.Ty.{Ty}
use Rattle.ir_values.specs.declared.ty.Ty.TheVariants as ty
use Rattle.ir_values.specs.declared.value.Value.{Value}
use Rattle.ir_values.specs.Types.{is_ty}
use Rattle.kept_items.specs.declared.item.Item.{Item}
use Rattle.kept_items.specs.declared.item.Item.TheVariants as item
use Rattle.kept_items.specs.declared.target.Target.{Target}
use Rattle.kept_items.specs.declared.target.Target.TheVariants.{Base, Adaptive}
use Rattle.kept_items.specs.declared.val.Val.{Val}
use Rattle.residue.specs.declared.parts.Line.{Line}
use Rattle.residue.specs.declared.parts.Line.TheVariants as line
use Rattle.residue.specs.declared.parts.Part.{Part}
use Rattle.residue.specs.declared.parts.Residue.{Residue}
use Rattle.residue.specs.Functions.{Called, all_items, called, calls_of, calls_of_residue, declaration, declared_of, first_uses, initialize, is_among, is_constant, parameters, read_result, reading, record_name, types_of}
use Rattle.residue.specs.Printed.{base_blocks, names_of, print_blocks, print_parts, printed, printed_entry}
use Rattle.residue.specs.Scopes.{gives_of, item_uses, items_of, jumps}
use Rattle.residue.specs.Valid.{Valid, all_tails, begins, label_below, leads_on, number_small, parts_and_lines, val_has}
use Rattle.residue.specs.Scopes as scope
use Rattle.printed_residue.proofs.Declared.{fits}
use Rattle.numbered_residue.proofs.Forms.{item-uses-pass}
use Rattle.numbered_residue.proofs.Passing.{all-both, all-each, all-flat, all-map}
use Rattle.numbered_residue.proofs.Shapes.{all-locals-pass, type-not-void, type-whole}
use Rattle.numbered_residue.proofs.Shared.{below, less, parameters-long, parts-long}

take-none : {A : Type 0} (xs : List A) → take 0 xs ≡ []
take-none [] = refl
take-none (x ∷ xs) = refl

-- ---- what is declared passes what each call passes

pub uses-pass : (test : Called → Bool) (cs there : List Called) → list_all test there ≡ true → list_all test cs ≡ true → list_all test (first_uses there cs) ≡ true
uses-pass test [] there h g = h
uses-pass test (c ∷ cs) there h g =
    let p = and_parts (test c) (list_all test cs) g in
    uses-pass test cs (if is_among there c.name then there else there ++ c ∷ []) (by (is_among there c.name) p.0) p.1
  where
    by : (b : Bool) → test c ≡ true → list_all test (if b then there else there ++ c ∷ []) ≡ true
    by true e = h
    by false e = all-both test there (c ∷ []) h (ap (λ s. s && true) e)

pub uses-long : (cs there : List Called) → length (first_uses there cs) ≤ length there + length cs
uses-long [] there = omega arith
uses-long (c ∷ cs) there = by (is_among there c.name) (uses-long cs there) (uses-long cs (there ++ c ∷ []))
  where
    by : (b : Bool) → length (first_uses there cs) ≤ length there + length cs → length (first_uses (there ++ c ∷ []) cs) ≤ length (there ++ c ∷ []) + length cs → length (first_uses (if b then there else there ++ c ∷ []) cs) ≤ length there + length (c ∷ cs)
    by true h g = omega (arith, h)
    by false h g = let a = length-append there (c ∷ []) in omega (arith, g, a)

types-of-parameters : (n : ℕ) (ts : List Ty) → map (λ l. l.1) (take (length ts) (parameters n ts)) ≡ ts
types-of-parameters n [] = refl
types-of-parameters n (t ∷ ts) = ap (λ l. t ∷ l) (types-of-parameters (suc n) ts)

parameters-pass : (test : Ty → Bool) (n : ℕ) (ts : List Ty) → list_all test ts ≡ true → list_all (λ l. test l.1) (parameters n ts) ≡ true
parameters-pass test n [] h = refl
parameters-pass test n (t ∷ ts) h = let p = and_parts (test t) (list_all test ts) h in ap (λ b. b && list_all (λ l. test l.1) (parameters (suc n) ts)) p.0 ∙ parameters-pass test (suc n) ts p.1

at-most : (a b : ℕ) → a ≤ b → nat_le a b ≡ true
at-most a b h = grind arith

module _ (r : Residue) (t : Target) (ok : Valid r t) where
  -- a test of types that all types of values pass, and that a result passes
  abbrev params-pass : (Ty → Bool) → Called → Bool
  params-pass test c = list_all test c.params

  types-pass : (test : Ty → Bool) → ((u : Ty) (a : Val) → val_has (gives_of r) u a ≡ true → test u ≡ true) → (args : List (Ty × Val)) → list_all (fits (gives_of r)) args ≡ true → list_all test (types_of args) ≡ true
  types-pass test h [] g = refl
  types-pass test h (a ∷ args) g =
      let p = and_parts (fits (gives_of r) a) (list_all (fits (gives_of r)) args) g in
      ap (λ b. b && list_all test (types_of args)) (h a.0 a.1 p.0) ∙ types-pass test h args p.1

  reading-pass : (test : Called → Bool) → test read_result ≡ true → (v : Value) → list_all test (reading v) ≡ true
  reading-pass test h v = by (is_constant v)
    where
      by : (b : Bool) → list_all test (if b then [] else (read_result ∷ [])) ≡ true
      by true = refl
      by false = ap (λ s. s && true) h

  -- a test that the reading function and each call without a value passes
  calls-pass : (test : Called → Bool) → test read_result ≡ true → ((name : List ℕ) (args : List (Ty × Val)) → list_all (fits (gives_of r)) args ≡ true → test (called name ty.Void (types_of args)) ≡ true) → list_all test (calls_of_residue r) ≡ true
  calls-pass test h g = all-flat test calls_of (all_items r) (all-each (λ x. list_all test (calls_of x)) (all_items r) (λ i x s. of-item x (item-uses-pass (fits (gives_of r)) r x ok.types (i, s))))
    where
      of-item : (x : Item) → list_all (fits (gives_of r)) (item_uses x) ≡ true → list_all test (calls_of x) ≡ true
      of-item (item.Binary d o f w a b) u = refl
      of-item (item.Icmp d o w a b) u = refl
      of-item (item.Convert d o w a to) u = refl
      of-item (item.Select d w c a b) u = refl
      of-item (item.Read d v) u = ap (λ s. s && true) h
      of-item (item.Equal d v w) u = all-both test (reading v) (reading w) (reading-pass test h v) (reading-pass test h w)
      of-item (item.Operation name args) u = ap (λ s. s && true) (g name args u)
      of-item (item.Output c args) u = ap (λ s. s && true) (g (record_name c) args u)

  declared-pass : (test : Called → Bool) → test initialize ≡ true → test read_result ≡ true → ((name : List ℕ) (args : List (Ty × Val)) → list_all (fits (gives_of r)) args ≡ true → test (called name ty.Void (types_of args)) ≡ true) → list_all test (declared_of r) ≡ true
  declared-pass test i h g = uses-pass test (calls_of_residue r) (initialize ∷ []) (ap (λ s. s && true) i) (calls-pass test h g)

  -- no parameter is void
  pub parameters-not-void : list_all (λ f. list_all (λ u. not (is_void u)) (parameter_types f)) (printed r t).funcs ≡ true
  parameters-not-void =
      ap (λ ls. list_all (λ u. not (is_void u)) (map (λ l. l.1) ls) && list_all (λ f. list_all (λ u. not (is_void u)) (parameter_types f)) (map (declaration r.irreversible) (declared_of r))) (take-none (printed_entry r t).locals)
      ∙ all-map (λ f. list_all (λ u. not (is_void u)) (parameter_types f)) (declaration r.irreversible) (declared_of r)
      (each (declared_of r) (declared-pass (params-pass (λ u. not (is_void u))) refl refl (λ name args h. types-pass (λ u. not (is_void u)) (type-not-void r t ok) args h)))
    where
      each : (cs : List Called) → list_all (params-pass (λ u. not (is_void u))) cs ≡ true → list_all (λ c. list_all (λ u. not (is_void u)) (parameter_types (declaration r.irreversible c))) cs ≡ true
      each [] h = refl
      each (c ∷ cs) h =
          let p = and_parts (params-pass (λ u. not (is_void u)) c) (list_all (params-pass (λ u. not (is_void u))) cs) h in
          ap (λ b. b && list_all (λ c. list_all (λ u. not (is_void u)) (parameter_types (declaration r.irreversible c))) cs) (ap (list_all (λ u. not (is_void u))) (types-of-parameters 0 c.params) ∙ p.0) ∙ each cs p.1

  -- types are whole
  abbrev is_whole : Called → Bool
  is_whole c = is_ty c.ret && list_all is_ty c.params

  pub types-whole : list_all (λ f. is_ty f.ret && list_all (λ l. is_ty l.1) f.locals) (printed r t).funcs ≡ true
  types-whole =
      ap (λ b. b && list_all (λ f. is_ty f.ret && list_all (λ l. is_ty l.1) f.locals) (map (declaration r.irreversible) (declared_of r))) (all-locals-pass r t ok is_ty (λ w. refl))
      ∙ all-map (λ f. is_ty f.ret && list_all (λ l. is_ty l.1) f.locals) (declaration r.irreversible) (declared_of r) (each (declared_of r) (declared-pass is_whole refl refl (λ name args h. types-pass is_ty (type-whole r t ok) args h)))
    where
      each : (cs : List Called) → list_all is_whole cs ≡ true → list_all (λ c. is_ty c.ret && list_all (λ l. is_ty l.1) (parameters 0 c.params)) cs ≡ true
      each [] h = refl
      each (c ∷ cs) h =
          let p = and_parts (is_whole c) (list_all is_whole cs) h in
          let q = and_parts (is_ty c.ret) (list_all is_ty c.params) p.0 in
          ap (λ b. b && list_all (λ c. is_ty c.ret && list_all (λ l. is_ty l.1) (parameters 0 c.params)) cs) (ap (λ b. b && list_all (λ l. is_ty l.1) (parameters 0 c.params)) q.0 ∙ parameters-pass is_ty 0 c.params q.1) ∙ each cs p.1

  -- parameters are locals
  pub parameters-local : list_all (λ f. nat_le f.params (length f.locals)) (printed r t).funcs ≡ true
  parameters-local =
      ap (λ b. b && list_all (λ f. nat_le f.params (length f.locals)) (map (declaration r.irreversible) (declared_of r))) (at-most 0 (length (printed_entry r t).locals) (omega arith))
      ∙ all-map (λ f. nat_le f.params (length f.locals)) (declaration r.irreversible) (declared_of r) (all-each (λ c. nat_le (length c.params) (length (parameters 0 c.params))) (declared_of r) (λ i c s. at-most (length c.params) (length (parameters 0 c.params)) (let e = parameters-long 0 c.params in omega (arith, e))))

  -- ---- bodies

  pub bodies : list_all (λ f. has_block f.blocks) (printed r t).funcs ≡ true
  bodies =
      ap (λ b. b && list_all (λ f. has_block f.blocks) (map (declaration r.irreversible) (declared_of r))) (by t)
      ∙ all-map (λ f. has_block f.blocks) (declaration r.irreversible) (declared_of r) (all-each (λ c. true) (declared_of r) (λ i c s. refl))
    where
      begun : begins r.parts ≡ true
      begun = (and_parts (begins r.parts) (all_tails (λ t. list_all (leads_on (length r.parts)) (jumps t)) r) ok.start).0

      of-base : (parts : List Part) → begins parts ≡ true → has_block (Some (base_blocks r parts)) ≡ true
      of-base [] h = cc
      of-base (p ∷ parts) h = refl

      of-adaptive : (parts : List Part) → begins parts ≡ true → has_block (Some (print_parts r 0 0 parts)) ≡ true
      of-adaptive [] h = cc
      of-adaptive (p ∷ parts) h = refl

      by : (u : Target) → has_block (Some (print_blocks r u)) ≡ true
      by Base = of-base r.parts begun
      by (Adaptive caps) = of-adaptive r.parts begun

  -- ---- numbers

  calls-few : (xs : List Item) → length (flat_map calls_of xs) ≤ 2 * length xs
  calls-few [] = omega arith
  calls-few (x ∷ xs) =
      let a = length-append (calls_of x) (flat_map calls_of xs) in
      let h = calls-few xs in
      let e = one x in
      omega (arith, a, h, e)
    where
      side : (v : Value) → length (reading v) ≤ 1
      side v = by (is_constant v)
        where
          by : (b : Bool) → length (if b then [] else (read_result ∷ [])) ≤ 1
          by true = omega arith
          by false = omega arith

      one : (x : Item) → length (calls_of x) ≤ 2
      one (item.Binary d o f w a b) = omega arith
      one (item.Icmp d o w a b) = omega arith
      one (item.Convert d o w a to) = omega arith
      one (item.Select d w c a b) = omega arith
      one (item.Read d v) = omega arith
      one (item.Equal d v u) = let a = length-append (reading v) (reading u) in let b = side v in let c = side u in omega (arith, a, b, c)
      one (item.Operation name args) = omega arith
      one (item.Output c args) = omega arith

  items-few : (lines : List Line) → length (items_of lines) ≤ length lines
  items-few [] = omega arith
  items-few (line.Item x ∷ lines) = let h = items-few lines in omega (arith, h)
  items-few (line.Made j ∷ lines) = let h = items-few lines in omega (arith, h)
  items-few (line.Freed j ∷ lines) = let h = items-few lines in omega (arith, h)

  all-few : (parts : List Part) → length (flat_map (λ p. items_of p.lines) parts) + length parts ≤ parts_and_lines parts
  all-few [] = omega arith
  all-few (p ∷ parts) =
      let a = length-append (items_of p.lines) (flat_map (λ p. items_of p.lines) parts) in
      let h = all-few parts in
      let e = items-few p.lines in
      omega (arith, a, h, e)

  counts : (length (names_of r.parts) < 2 ^ 64) × (parts_and_lines r.parts < 2 ^ 31)
  counts =
      let n = and_parts (list_all (number_small r.own_qubits r.own_results) (scope.written r)) (nat_lt (length (names_of r.parts)) (2 ^ 64) && (nat_lt (parts_and_lines r.parts) (2 ^ 31) && list_all (λ x. are_few (item_uses x)) (all_items r))) ok.numbers in
      let p = and_parts (nat_lt (length (names_of r.parts)) (2 ^ 64)) (nat_lt (parts_and_lines r.parts) (2 ^ 31) && list_all (λ x. are_few (item_uses x)) (all_items r)) n.1 in
      let q = and_parts (nat_lt (parts_and_lines r.parts) (2 ^ 31)) (list_all (λ x. are_few (item_uses x)) (all_items r)) p.1 in
      (less (length (names_of r.parts)) (2 ^ 64) p.0, less (parts_and_lines r.parts) (2 ^ 31) q.0)

  small : parts_and_lines r.parts < 2 ^ 31
  small = counts.1

  pub names-few : length (names_of r.parts) < 2 ^ 64
  names-few = counts.0

  some-part : (parts : List Part) → begins parts ≡ true → 1 ≤ length parts
  some-part [] h = cc
  some-part (p ∷ parts) h = omega arith

  map-long : {A B : Type 0} (f : A → B) (xs : List A) → length (map f xs) ≡ length xs
  map-long f [] = refl
  map-long f (x ∷ xs) = ap suc (map-long f xs)

  functions-few : length (printed r t).funcs < 2 ^ 32
  functions-few =
      let a = map-long (declaration r.irreversible) (declared_of r) in
      let b = uses-long (calls_of_residue r) (initialize ∷ []) in
      let c = calls-few (all_items r) in
      let d = all-few r.parts in
      let e = small in
      let f = some-part r.parts (and_parts (begins r.parts) (all_tails (λ t. list_all (leads_on (length r.parts)) (jumps t)) r) ok.start).0 in
      omega (arith, a, b, c, d, e, f)

  blocks-few : length (print_blocks r t) < 2 ^ 32
  blocks-few = by t
    where
      four : (parts : List Part) → length (base_blocks r parts) ≤ 4
      four [] = omega arith
      four (p ∷ parts) = omega arith

      by : (t : Target) → length (print_blocks r t) < 2 ^ 32
      by Base = let h = four r.parts in omega (arith, h)
      by (Adaptive caps) = let a = parts-long r 0 0 r.parts in let d = all-few r.parts in let e = small in omega (arith, a, d, e)

  pub parts-few : length r.parts < 2 ^ 32
  parts-few = let d = all-few r.parts in let e = small in omega (arith, d, e)

  pub few : (are_few (printed r t).globals && (are_few (printed r t).funcs && list_all (λ f. are_few (blocks_of f)) (printed r t).funcs)) ≡ true
  few =
      ap (λ b. b && (are_few (printed r t).funcs && list_all (λ f. are_few (blocks_of f)) (printed r t).funcs)) (and_parts (are_few r.globals) (list_all (label_below (length r.globals)) (scope.written r)) ok.labels).0
      ∙ ap (λ b. b && list_all (λ f. are_few (blocks_of f)) (printed r t).funcs) (below (length (printed r t).funcs) (2 ^ 32) functions-few)
      ∙ ap (λ b. b && list_all (λ f. are_few (blocks_of f)) (map (declaration r.irreversible) (declared_of r))) (below (length (print_blocks r t)) (2 ^ 32) blocks-few)
      ∙ all-map (λ f. are_few (blocks_of f)) (declaration r.irreversible) (declared_of r) (all-each (λ c. true) (declared_of r) (λ i c s. refl))
