-- The names of each space of the printed module are distinct.
use Rattle.std.proofs.Common.{◌≡◌, ℕ, suc, ◌+◌, ◌^◌, ◌<◌, ◌≤◌, Bool, true, false, ◌&&◌, not, Option, List, [], ◌∷◌, ◌++◌, length, map, take, refl, sym, ap, ◌∙◌, arith, append-nil}
use Rattle.std.proofs.lemmas.Bool.{and_parts}
use Rattle.std.specs.Cmp.{unsigned_Decides}
use Rattle.std.specs.Cmp.Lexicographic.{pointwise, pointwise_decides}
use Rattle.std.specs.List.{list_all, list_any, starts_with}
use Rattle.std.specs.Prelude.{◌||◌, ◌==◌, ⊤, if◌then◌else◌, nat_eq, codes, decimal}
use Rattle.ir_module.specs.Numbered.{are_distinct, local_names, names_are_distinct, same_name}
use Rattle.ir_values.specs.declared.class.Class.{Class}
use Rattle.ir_values.specs.declared.class.Class.TheVariants as class
use Rattle.ir_values.specs.declared.name.Name.{Name}
use Rattle.ir_values.specs.declared.name.Name.TheVariants as name
use Rattle.ir_values.specs.declared.ty.Ty.{Ty}
use Rattle.ir_values.specs.declared.value.Value.{Value}
use Rattle.ir_values.specs.Calls.{same_text}
use Rattle.ir_values.specs.Names.{instruction_prefix, quantum_prefix}
use Rattle.ir_values.proofs.DecimalLemmas.{decimal_value-digits}
use Rattle.kept_items.specs.declared.item.Item.{Item}
use Rattle.kept_items.specs.declared.item.Item.TheVariants as item
use Rattle.kept_items.specs.declared.target.Target.{Target}
use Rattle.kept_items.specs.declared.target.Target.TheVariants.{Base, Adaptive}
use Rattle.residue.specs.declared.parts.Part.{Part}
use Rattle.residue.specs.declared.parts.Residue.{Residue}
use Rattle.residue.specs.Functions.{Called, all_items, calls_of, calls_of_residue, declaration, declared_of, first_uses, initialize, is_among, is_constant, parameters, read_result, reading, record_name, types_of}
use Rattle.residue.specs.Printed.{base_blocks, block_name, locals_from, names_of, names_of_part, print_blocks, print_parts, printed, printed_entry}
use Rattle.residue.specs.Valid.{Valid, all_alike, is_instruction, is_own_name, output_known, own_names, recorded_type, takes_types}
use Rattle.printed_residue.proofs.Looks.{differ, other-numbers}
use Rattle.numbered_residue.proofs.Listed.{names-few, parts-few}
use Rattle.numbered_residue.proofs.Passing.{all-both, all-each, all-flat, all-map}
use Rattle.numbered_residue.proofs.Shared.{both, not-false, some-same}

clash : true ≡ false → ⊥
clash e = cc

neither : (a b : Bool) → a ≡ false → b ≡ false → not (a || b) ≡ true
neither a b h g = ap (λ x. not (x || b)) h ∙ ap (λ x. not (false || x)) g

false-not : (b : Bool) → b ≡ false → not b ≡ true
false-not b h = ap not h

same-names : (a b : List ℕ) → same_text a b ≡ true → a ≡ b
same-names a b e = (pointwise_decides unsigned_Decides a b).0 e

itself : (a : List ℕ) → same_text a a ≡ true
itself a = (pointwise_decides unsigned_Decides a a).1 refl

-- texts that aren't equal
apart : (a b : List ℕ) → (a ≡ b → ⊥) → same_text a b ≡ false
apart a b h = by (same_text a b) refl
  where
    by : (s : Bool) → same_text a b ≡ s → s ≡ false
    by false e = refl
    by true e = absurd (h (same-names a b e))

turned : (a b : List ℕ) → same_text a b ≡ false → same_text b a ≡ false
turned a b h = apart b a (λ e. clash (sym (ap (λ z. same_text z b) (sym e) ∙ itself b) ∙ h))

-- ---- lists of names

none-both : (n : Name) (xs ys : List Name) → list_any (same_name n) xs ≡ false → list_any (same_name n) ys ≡ false → list_any (same_name n) (xs ++ ys) ≡ false
none-both n [] ys h g = g
none-both n (x ∷ xs) ys h g = by (same_name n x) h (λ k. none-both n xs ys k g)
  where
    by : (b : Bool) → (b || list_any (same_name n) xs) ≡ false → (list_any (same_name n) xs ≡ false → list_any (same_name n) (xs ++ ys) ≡ false) → (b || list_any (same_name n) (xs ++ ys)) ≡ false
    by true h ih = cc
    by false h ih = ih h

-- names of one list that aren't among those of another
abbrev Apart : List Name → List Name → Type 0
Apart [] ys = ⊤
Apart (x ∷ xs) ys = (list_any (same_name x) ys ≡ false) × Apart xs ys

distinct-both : (xs ys : List Name) → are_distinct xs ≡ true → are_distinct ys ≡ true → Apart xs ys → are_distinct (xs ++ ys) ≡ true
distinct-both [] ys h g a = g
distinct-both (x ∷ xs) ys h g a =
    let p = and_parts (not (list_any (same_name x) xs)) (are_distinct xs) h in
    both (not (list_any (same_name x) (xs ++ ys))) (are_distinct (xs ++ ys)) (false-not (list_any (same_name x) (xs ++ ys)) (none-both x xs ys (not-false (list_any (same_name x) xs) p.0) a.0)) (distinct-both xs ys p.1 g a.1)

-- ---- the names of declared functions

abbrev called_name : Called → Name
called_name c = name.Text c.name

names-of-declared : (irr : List (List ℕ)) (cs : List Called) → map (λ f. f.name) (map (declaration irr) cs) ≡ map called_name cs
names-of-declared irr [] = refl
names-of-declared irr (c ∷ cs) = ap (λ l. called_name c ∷ l) (names-of-declared irr cs)

apart-from : (there : List Called) (c : Called) → is_among there c.name ≡ false → Apart (map called_name there) (called_name c ∷ [])
apart-from [] c h = tt
apart-from (x ∷ there) c h = by (same_text c.name x.name) refl h (λ k. apart-from there c k)
  where
    by : (b : Bool) → same_text c.name x.name ≡ b → (b || is_among there c.name) ≡ false → (is_among there c.name ≡ false → Apart (map called_name there) (called_name c ∷ [])) → (list_any (same_name (called_name x)) (called_name c ∷ []) ≡ false) × Apart (map called_name there) (called_name c ∷ [])
    by true e h ih = absurd (clash h)
    by false e h ih = (ap (λ b. b || false) (turned c.name x.name e), ih h)

map-append-one : (there : List Called) (c : Called) → map called_name (there ++ c ∷ []) ≡ map called_name there ++ called_name c ∷ []
map-append-one [] c = refl
map-append-one (x ∷ there) c = ap (λ l. called_name x ∷ l) (map-append-one there c)

uses-distinct : (cs there : List Called) → are_distinct (map called_name there) ≡ true → are_distinct (map called_name (first_uses there cs)) ≡ true
uses-distinct [] there h = h
uses-distinct (c ∷ cs) there h = uses-distinct cs (if is_among there c.name then there else there ++ c ∷ []) (by (is_among there c.name) refl)
  where
    by : (b : Bool) → is_among there c.name ≡ b → are_distinct (map called_name (if b then there else there ++ c ∷ [])) ≡ true
    by true e = h
    by false e = ap are_distinct (map-append-one there c) ∙ distinct-both (map called_name there) (called_name c ∷ []) h refl (apart-from there c e)

-- ---- declared names begin as those of the runtime and the quantum instructions do

front-starts : (a b xs : List ℕ) → pointwise nat_eq (a ++ b) (take (length (a ++ b)) xs) ≡ true → pointwise nat_eq a (take (length a) xs) ≡ true
front-starts [] b [] h = refl
front-starts [] b (x ∷ xs) h = refl
front-starts (y ∷ a) b [] h = cc
front-starts (y ∷ a) b (x ∷ xs) h =
    let p = and_parts (nat_eq y x) (pointwise nat_eq (a ++ b) (take (length (a ++ b)) xs)) h in
    both (nat_eq y x) (pointwise nat_eq a (take (length a) xs)) p.0 (front-starts a b xs p.1)

abbrev is_quantum : Called → Bool
is_quantum c = starts_with nat_eq c.name quantum_prefix

instruction-quantum : (name : List ℕ) → starts_with nat_eq name instruction_prefix ≡ true → starts_with nat_eq name quantum_prefix ≡ true
instruction-quantum name h = front-starts quantum_prefix (codes "qis__") name h

module _ (r : Residue) (t : Target) (ok : Valid r t) where
  calls-quantum : list_all is_quantum (calls_of_residue r) ≡ true
  calls-quantum = all-flat is_quantum calls_of (all_items r) (each (all_items r) (and_parts (list_all is_instruction (all_items r)) (all_alike (calls_of_residue r)) ok.calls).0 ok.outputs)
    where
      side : (v : Value) → list_all is_quantum (reading v) ≡ true
      side v = by (is_constant v)
        where
          by : (b : Bool) → list_all is_quantum (if b then [] else (read_result ∷ [])) ≡ true
          by true = refl
          by false = refl

      records : (c : Class) (ts : List Ty) → takes_types (recorded_type c) ts ≡ true → starts_with nat_eq (record_name c) quantum_prefix ≡ true
      records class.Tuple ts h = refl
      records class.Array ts h = refl
      records class.ResRecord ts h = refl
      records class.BoolRecord ts h = refl
      records class.IntRecord ts h = refl
      records class.DoubleRecord ts h = refl
      records c ts h = cc

      of-item : (x : Item) → is_instruction x ≡ true → output_known x ≡ true → list_all is_quantum (calls_of x) ≡ true
      of-item (item.Binary d o g w a b) i k = refl
      of-item (item.Icmp d o w a b) i k = refl
      of-item (item.Convert d o w a to) i k = refl
      of-item (item.Select d w c a b) i k = refl
      of-item (item.Read d v) i k = refl
      of-item (item.Equal d v u) i k = all-both is_quantum (reading v) (reading u) (side v) (side u)
      of-item (item.Operation name args) i k = ap (λ s. s && true) (instruction-quantum name i)
      of-item (item.Output c args) i k = ap (λ s. s && true) (records c (types_of args) k)

      each : (xs : List Item) → list_all is_instruction xs ≡ true → list_all output_known xs ≡ true → list_all (λ x. list_all is_quantum (calls_of x)) xs ≡ true
      each [] i k = refl
      each (x ∷ xs) i k =
          let p = and_parts (is_instruction x) (list_all is_instruction xs) i in
          let q = and_parts (output_known x) (list_all output_known xs) k in
          both (list_all is_quantum (calls_of x)) (list_all (λ x. list_all is_quantum (calls_of x)) xs) (of-item x p.0 q.0) (each xs p.1 q.1)

  -- an own name is none of theirs
  own-apart : (n : Name) → is_own_name n ≡ true → (cs : List Called) → list_all is_quantum cs ≡ true → list_any (same_name n) (map called_name cs) ≡ false
  own-apart n h [] g = refl
  own-apart n h (c ∷ cs) g =
      let p = and_parts (is_quantum c) (list_all is_quantum cs) g in
      ap (λ b. b || list_any (same_name n) (map called_name cs)) (one n h p.0) ∙ own-apart n h cs p.1
    where
      one : (n : Name) → is_own_name n ≡ true → is_quantum c ≡ true → same_name n (called_name c) ≡ false
      one (name.Number k) h q = refl
      one (name.Text a) h q = apart a c.name (λ e. clash (sym (ap (λ z. starts_with nat_eq z quantum_prefix) e ∙ q) ∙ not-false (starts_with nat_eq a quantum_prefix) h))

  abbrev declared : List Name
  declared = map called_name (declared_of r)

  declared-quantum : list_all is_quantum (declared_of r) ≡ true
  declared-quantum = pass (calls_of_residue r) (initialize ∷ []) refl calls-quantum
    where
      pass : (cs there : List Called) → list_all is_quantum there ≡ true → list_all is_quantum cs ≡ true → list_all is_quantum (first_uses there cs) ≡ true
      pass [] there h g = h
      pass (c ∷ cs) there h g =
          let p = and_parts (is_quantum c) (list_all is_quantum cs) g in
          pass cs (if is_among there c.name then there else there ++ c ∷ []) (by (is_among there c.name) p.0) p.1
        where
          by : (b : Bool) → is_quantum c ≡ true → list_all is_quantum (if b then there else there ++ c ∷ []) ≡ true
          by true e = h
          by false e = all-both is_quantum there (c ∷ []) h (ap (λ s. s && true) e)

  own : list_all is_own_name (own_names r) ≡ true
  own = (and_parts (are_distinct (own_names r)) (list_all is_own_name (own_names r)) ok.names).1

  abbrev globals : List Name
  globals = map (λ g. g.name) r.globals

  entry-parts : (list_any (same_name r.entry) globals ≡ false) × (are_distinct globals ≡ true)
  entry-parts =
      let p = and_parts (not (list_any (same_name r.entry) globals)) (are_distinct globals) (and_parts (are_distinct (own_names r)) (list_all is_own_name (own_names r)) ok.names).0 in
      (not-false (list_any (same_name r.entry) globals) p.0, p.1)

  same-turned : (a b : Name) → same_name a b ≡ false → same_name b a ≡ false
  same-turned (name.Text a) (name.Text b) h = turned a b h
  same-turned (name.Text a) (name.Number n) h = refl
  same-turned (name.Number n) (name.Text b) h = refl
  same-turned (name.Number m) (name.Number n) h = differ n m (λ e. other-numbers m n h (sym e))

  globals-apart : (gs : List Name) → list_any (same_name r.entry) gs ≡ false → list_all is_own_name gs ≡ true → Apart gs (r.entry ∷ declared)
  globals-apart [] h g = tt
  globals-apart (x ∷ gs) h g =
      let p = and_parts (is_own_name x) (list_all is_own_name gs) g in
      let q = or-parts (same_name r.entry x) (list_any (same_name r.entry) gs) h in
      (ap (λ b. b || list_any (same_name x) declared) (same-turned r.entry x q.0) ∙ own-apart x p.0 (declared_of r) declared-quantum, globals-apart gs q.1 p.1)
    where
      or-parts : (a b : Bool) → (a || b) ≡ false → (a ≡ false) × (b ≡ false)
      or-parts true b h = absurd (clash h)
      or-parts false b h = (refl, h)

  global-distinct : are_distinct (globals ++ (r.entry ∷ map (λ f. f.name) (map (declaration r.irreversible) (declared_of r)))) ≡ true
  global-distinct =
      ap (λ l. are_distinct (globals ++ (r.entry ∷ l))) (names-of-declared r.irreversible (declared_of r))
      ∙ distinct-both globals (r.entry ∷ declared) entry-parts.1
      (both (not (list_any (same_name r.entry) declared)) (are_distinct declared) (false-not (list_any (same_name r.entry) declared) (own-apart r.entry (and_parts (is_own_name r.entry) (list_all is_own_name globals) own).0 (declared_of r) declared-quantum)) (uses-distinct (calls_of_residue r) (initialize ∷ []) refl))
      (globals-apart globals entry-parts.0 (and_parts (is_own_name r.entry) (list_all is_own_name globals) own).1)

  -- ---- local names

  decimals-apart : (m n : ℕ) → m < 2 ^ 64 → n < 2 ^ 64 → (m ≡ n → ⊥) → decimal m ≡ decimal n → ⊥
  decimals-apart m n lm ln h e = h (some-same (decimal_value-digits m (decimal m) lm refl ∙ sym (decimal_value-digits n (decimal m) ln e)))

  tail-same : (x : ℕ) (a b : List ℕ) → x ∷ a ≡ x ∷ b → a ≡ b
  tail-same x a b e = cc

  abbrev value_name : ℕ → List ℕ
  value_name n = codes "v" ++ decimal n

  values-apart : (m n : ℕ) → m < 2 ^ 64 → n < 2 ^ 64 → (m ≡ n → ⊥) → same_text (value_name m) (value_name n) ≡ false
  values-apart m n lm ln h = apart (value_name m) (value_name n) (λ e. decimals-apart m n lm ln h (tail-same 118 (decimal m) (decimal n) e))

  abbrev locals : ℕ → List (Option ℕ × Ty) → List Name
  locals n names = map (λ l. l.0) (locals_from n names)

  values-later : (m n : ℕ) (names : List (Option ℕ × Ty)) → m < n → n + length names ≤ 2 ^ 64 → list_any (same_name (name.Text (value_name m))) (locals n names) ≡ false
  values-later m n [] lt le = refl
  values-later m n (x ∷ names) lt le =
      ap (λ b. b || list_any (same_name (name.Text (value_name m))) (locals (suc n) names)) (values-apart m n (omega (arith, lt, le)) (omega (arith, le)) (λ e. absurd (omega (arith, e, lt))))
      ∙ values-later m (suc n) names (omega (arith, lt)) (omega (arith, le))

  locals-distinct : (n : ℕ) (names : List (Option ℕ × Ty)) → n + length names ≤ 2 ^ 64 → are_distinct (locals n names) ≡ true
  locals-distinct n [] le = refl
  locals-distinct n (x ∷ names) le =
      both (not (list_any (same_name (name.Text (value_name n))) (locals (suc n) names))) (are_distinct (locals (suc n) names))
      (false-not (list_any (same_name (name.Text (value_name n))) (locals (suc n) names)) (values-later n (suc n) names (omega arith) (omega (arith, le))))
      (locals-distinct (suc n) names (omega (arith, le)))

  -- what no value's name is
  locals-apart : (ys : List Name) → ((n : ℕ) → list_any (same_name (name.Text (value_name n))) ys ≡ false) → (n : ℕ) (names : List (Option ℕ × Ty)) → Apart (locals n names) ys
  locals-apart ys h n [] = tt
  locals-apart ys h n (x ∷ names) = (h n, locals-apart ys h (suc n) names)

  -- ---- blocks

  abbrev numbered_name : Bool → ℕ → List ℕ
  numbered_name b n = if b then codes "entry" else codes "b" ++ decimal n

  blocks-apart : (m n : ℕ) → m < n → n < 2 ^ 64 → same_text (block_name m) (block_name n) ≡ false
  blocks-apart m n lt ln = by (m == 0) refl (n == 0) (differ n 0 (λ e. absurd (omega (arith, e, lt))))
    where
      by : (a : Bool) → (m == 0) ≡ a → (b : Bool) → b ≡ false → same_text (numbered_name a m) (numbered_name b n) ≡ false
      by true e false g = refl
      by true e true g = cc
      by false e true g = cc
      by false e false g = apart (codes "b" ++ decimal m) (codes "b" ++ decimal n) (λ k. decimals-apart m n (omega (arith, lt, ln)) ln (λ z. absurd (omega (arith, z, lt))) (tail-same 98 (decimal m) (decimal n) k))

  value-block-apart : (m n : ℕ) → same_text (value_name m) (block_name n) ≡ false
  value-block-apart m n = by (n == 0)
    where
      by : (b : Bool) → same_text (value_name m) (numbered_name b n) ≡ false
      by true = refl
      by false = refl

  abbrev part_names : ℕ → ℕ → List Part → List Name
  part_names n free parts = map (λ b. b.name) (print_parts r n free parts)

  blocks-later : (m n free : ℕ) (parts : List Part) → m < n → n + length parts ≤ 2 ^ 64 → list_any (same_name (name.Text (block_name m))) (part_names n free parts) ≡ false
  blocks-later m n free [] lt le = refl
  blocks-later m n free (p ∷ parts) lt le =
      ap (λ b. b || list_any (same_name (name.Text (block_name m))) (part_names (suc n) (free + length (names_of_part p)) parts)) (blocks-apart m n lt (omega (arith, le)))
      ∙ blocks-later m (suc n) (free + length (names_of_part p)) parts (omega (arith, lt)) (omega (arith, le))

  blocks-distinct : (n free : ℕ) (parts : List Part) → n + length parts ≤ 2 ^ 64 → are_distinct (part_names n free parts) ≡ true
  blocks-distinct n free [] le = refl
  blocks-distinct n free (p ∷ parts) le =
      both (not (list_any (same_name (name.Text (block_name n))) (part_names (suc n) (free + length (names_of_part p)) parts))) (are_distinct (part_names (suc n) (free + length (names_of_part p)) parts))
      (false-not (list_any (same_name (name.Text (block_name n))) (part_names (suc n) (free + length (names_of_part p)) parts)) (blocks-later n (suc n) (free + length (names_of_part p)) parts (omega arith) (omega (arith, le))))
      (blocks-distinct (suc n) (free + length (names_of_part p)) parts (omega (arith, le)))

  value-no-block : (m n free : ℕ) (parts : List Part) → list_any (same_name (name.Text (value_name m))) (part_names n free parts) ≡ false
  value-no-block m n free [] = refl
  value-no-block m n free (p ∷ parts) = ap (λ b. b || list_any (same_name (name.Text (value_name m))) (part_names (suc n) (free + length (names_of_part p)) parts)) (value-block-apart m n) ∙ value-no-block m (suc n) (free + length (names_of_part p)) parts

  base-distinct : (parts : List Part) → are_distinct (map (λ b. b.name) (base_blocks r parts)) ≡ true
  base-distinct [] = refl
  base-distinct (p ∷ parts) = refl

  value-no-base : (m : ℕ) (parts : List Part) → list_any (same_name (name.Text (value_name m))) (map (λ b. b.name) (base_blocks r parts)) ≡ false
  value-no-base m [] = refl
  value-no-base m (p ∷ parts) = refl

  entry-distinct : are_distinct (local_names (printed_entry r t)) ≡ true
  entry-distinct = by t
    where
      few : 0 + length (names_of r.parts) ≤ 2 ^ 64
      few = let h = names-few r t ok in omega (arith, h)

      by : (u : Target) → are_distinct (locals 0 (names_of r.parts) ++ map (λ b. b.name) (print_blocks r u)) ≡ true
      by Base = distinct-both (locals 0 (names_of r.parts)) (map (λ b. b.name) (base_blocks r r.parts)) (locals-distinct 0 (names_of r.parts) few) (base-distinct r.parts) (locals-apart (map (λ b. b.name) (base_blocks r r.parts)) (λ n. value-no-base n r.parts) 0 (names_of r.parts))
      by (Adaptive caps) = distinct-both (locals 0 (names_of r.parts)) (part_names 0 0 r.parts) (locals-distinct 0 (names_of r.parts) few) (blocks-distinct 0 0 r.parts (let h = parts-few r t ok in omega (arith, h))) (locals-apart (part_names 0 0 r.parts) (λ n. value-no-block n 0 0 r.parts) 0 (names_of r.parts))

  -- ---- parameters of declarations

  abbrev numbers : ℕ → List Ty → List Name
  numbers n ts = map (λ l. l.0) (parameters n ts)

  numbers-later : (m n : ℕ) (ts : List Ty) → m < n → list_any (same_name (name.Number m)) (numbers n ts) ≡ false
  numbers-later m n [] lt = refl
  numbers-later m n (u ∷ ts) lt = ap (λ b. b || list_any (same_name (name.Number m)) (numbers (suc n) ts)) (differ m n (λ e. absurd (omega (arith, e, lt)))) ∙ numbers-later m (suc n) ts (omega (arith, lt))

  numbers-distinct : (n : ℕ) (ts : List Ty) → are_distinct (numbers n ts) ≡ true
  numbers-distinct n [] = refl
  numbers-distinct n (u ∷ ts) =
      both (not (list_any (same_name (name.Number n)) (numbers (suc n) ts))) (are_distinct (numbers (suc n) ts)) (false-not (list_any (same_name (name.Number n)) (numbers (suc n) ts)) (numbers-later n (suc n) ts (omega arith))) (numbers-distinct (suc n) ts)

  pub distinct : names_are_distinct (printed r t) ≡ true
  distinct =
      both (are_distinct (globals ++ (r.entry ∷ map (λ f. f.name) (map (declaration r.irreversible) (declared_of r))))) (list_all (λ f. are_distinct (local_names f)) (printed r t).funcs) global-distinct
      (both (are_distinct (local_names (printed_entry r t))) (list_all (λ f. are_distinct (local_names f)) (map (declaration r.irreversible) (declared_of r))) entry-distinct
      (all-map (λ f. are_distinct (local_names f)) (declaration r.irreversible) (declared_of r) (all-each (λ c. are_distinct (numbers 0 c.params ++ [])) (declared_of r) (λ i c s. ap are_distinct (append-nil (numbers 0 c.params)) ∙ numbers-distinct 0 c.params))))
