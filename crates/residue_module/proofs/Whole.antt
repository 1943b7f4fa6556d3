-- What a printer of a valid residue knows, and what it prints.
use Rattle.std.proofs.Common.{Bor, ◌≡◌, ℕ, suc, ◌+◌, ◌<◌, ◌^◌, Bool, true, ◌&&◌, List, [], ◌∷◌, length, map, refl, sym, ap, ◌∙◌, subst, arith}
use mathlib.Core.Path.{fun_ext}
use Rattle.std.proofs.lemmas.Bool.{and_parts}
use Rattle.std.proofs.lemmas.List.Folds.{list_all-append}
use Rattle.std.specs.List.{list_all}
use Rattle.std.specs.Prelude.{◌==◌, if◌then◌else◌, codes, flat_map, nat_lt}
use Rattle.called_functions.specs.declared.table.Table.{Table}
use Rattle.called_functions.specs.code.Tables.{Lists, Marks, called_names, place_named}
use Rattle.ir_module.specs.declared.tree.Block.{Block}
use Rattle.ir_module.specs.declared.tree.Term.TheVariants as term
use Rattle.ir_module.specs.Numbered.{are_few}
use Rattle.ir_module.specs.Tree.{blocks_of}
use Rattle.ir_values.specs.Calls.{same_text}
use Rattle.kept_items.specs.declared.item.Item.{Item}
use Rattle.kept_items.specs.declared.item.Item.TheVariants as item
use Rattle.kept_items.specs.declared.target.Caps.{Caps}
use Rattle.kept_items.specs.declared.target.Target.{Target}
use Rattle.kept_items.specs.declared.target.Target.TheVariants.{Base, Adaptive}
use Rattle.residue.specs.declared.parts.Part.{Part}
use Rattle.residue.specs.declared.parts.Residue.{Residue}
use Rattle.residue.specs.Functions.{Called, all_items, declaration, declared_of, place_among}
use Rattle.residue.specs.Instructions.{Words, block_number, print_items, print_tail}
use Rattle.residue.specs.Phases.{in_phase, phase_of}
use Rattle.residue.specs.Printed.{base_blocks, block, edges_of, edges_to, initialize_call, name_in, names_of, names_of_part, print_blocks, print_parts, print_phis, printed, words}
use Rattle.residue.specs.Scopes.{item_uses, items_of, jump_args, part_uses, tail_uses, written}
use Rattle.residue.specs.Valid.{Valid, number_small, parts_and_lines}
use Rattle.numbered_residue.proofs.Forms.{args-of-written, uses-of-written}
use Rattle.numbered_residue.proofs.Listed.{few, names-few, parts-few}
use Rattle.numbered_residue.proofs.Shared.{less}
use Rattle.residue_module.specs.declared.names.LocalNames.{LocalNames}
use Rattle.residue_module.specs.declared.printer.Printer.{Printer}
use Rattle.residue_module.specs.code.Blocks.{part_block, part_blocks, phase_blocks}
use Rattle.residue_module.specs.code.Edges.{leading_to}
use Rattle.residue_module.specs.code.Names.{Holds, number_of}
use Rattle.residue_module.specs.code.Scenes.{HasFew, are_small, args_small, at, is_small, items_small, tail_small}
use Rattle.residue_module.proofs.Named.{number-held}
use Rattle.residue_module.proofs.Entering.{phis-are}

-- ---- words

place-same : (cs : List Called) (n : List ℕ) → place_named (called_names cs) n ≡ place_among cs n
place-same [] n = refl
place-same (c ∷ cs) n = ap (λ k. if same_text n c.name then 0 else suc k) (place-same cs n)

-- a printer with the names and the functions of a residue has its words
pub words-known : (r : Residue) (p : Printer) → p.qubits ≡ r.own_qubits → p.results ≡ r.own_results → Holds (names_of r.parts) p.names.now → Lists r.irreversible (declared_of r) p.functions.now → at p ≡ words r
words-known r p q s h l =
    ap (λ n. record { qubits = n; results = p.results; name_of = number_of p.names.now; function = (at p).function }) q
    ∙ ap (λ n. record { qubits = r.own_qubits; results = n; name_of = number_of p.names.now; function = (at p).function }) s
    ∙ ap (λ f. record { qubits = r.own_qubits; results = r.own_results; name_of = f; function = (at p).function }) (fun_ext (λ d. number-held (names_of r.parts) p.names.now d h))
    ∙ ap (λ f. record { qubits = r.own_qubits; results = r.own_results; name_of = name_in (names_of r.parts); function = f }) (fun_ext (λ n. number-of n))
  where
    number-of : (n : List ℕ) → (at p).function n ≡ (words r).function n
    number-of n = ap (λ k. record { 0 = suc k }) (ap (λ ks. place_named ks n) l.names ∙ place-same (declared_of r) n)

-- ---- blocks

-- for the Adaptive Profile
pub parts-printed : (r : Residue) (n free : ℕ) (parts : List Part) → part_blocks (words r) (edges_of 0 r.parts) n free parts ≡ print_parts r n free parts
parts-printed r n free [] = refl
parts-printed r n free (p ∷ parts) =
    ap (λ phis. part_block (words r) n free phis p ∷ part_blocks (words r) (edges_of 0 r.parts) (suc n) (free + length (names_of_part p)) parts) (phis-are (words r) (leading_to n (edges_of 0 r.parts)) free 0 p.params)
    ∙ ap (λ bs. part_block (words r) n free (print_phis (words r) (edges_to n r.parts) free 0 p.params) p ∷ bs) (parts-printed r (suc n) (free + length (names_of_part p)) parts)

-- names that are marked alike give one phase
phase-same : (a b : List (List ℕ)) → Marks a b → (x : Item) → phase_of b x ≡ phase_of a x
phase-same a b m (item.Operation n args) = ap (λ t. if t then 2 else 1) (m n)
phase-same a b m (item.Output c args) = refl
phase-same a b m (item.Binary d op flags w x y) = refl
phase-same a b m (item.Icmp d pred w x y) = refl
phase-same a b m (item.Convert d conv w x to) = refl
phase-same a b m (item.Select d w c x y) = refl
phase-same a b m (item.Read d v) = refl
phase-same a b m (item.Equal d v u) = refl

in-phase-same : (a b : List (List ℕ)) (k : ℕ) → Marks a b → (xs : List Item) → in_phase b k xs ≡ in_phase a k xs
in-phase-same a b k m [] = refl
in-phase-same a b k m (x ∷ xs) = ap (λ t. if t == k then x ∷ in_phase b k xs else in_phase b k xs) (phase-same a b m x) ∙ ap (λ l. if phase_of a x == k then x ∷ l else l) (in-phase-same a b k m xs)

-- for the Base Profile
pub base-printed : (r : Residue) (keys : List (List ℕ)) (parts : List Part) → Marks r.irreversible keys → phase_blocks (words r) keys parts ≡ base_blocks r parts
base-printed r keys [] m = refl
base-printed r keys (p ∷ parts) m = ap (λ (f : ℕ → List Item). blocks f) (fun_ext (λ k. in-phase-same r.irreversible keys k m (items_of p.lines)))
  where
    blocks : (ℕ → List Item) → List Block
    blocks f =
        block (codes "entry") [] (initialize_call ∷ []) (term.Br (block_number 1))
        ∷ block (codes "body") [] (print_items (words r) 0 (f 1)) (term.Br (block_number 2))
        ∷ block (codes "measurements") [] (print_items (words r) 0 (f 2)) (term.Br (block_number 3))
        ∷ block (codes "output") [] (print_items (words r) 0 (f 3)) (print_tail (words r) p.tail)
        ∷ []

-- ---- numbers

module _ {A : Type 0} where
  -- those of each piece, where those of all are
  pieces : (test : A → Bool) {B : Type 0} (f : B → List A) (xs : List B) → list_all test (flat_map f xs) ≡ true → list_all (λ x. list_all test (f x)) xs ≡ true
  pieces test f [] h = refl
  pieces test f (x ∷ xs) h =
      let p = and_parts (list_all test (f x)) (list_all test (flat_map f xs)) (sym (list_all-append test (f x) (flat_map f xs)) ∙ h) in
      ap (λ b. b && list_all (λ x. list_all test (f x)) xs) p.0 ∙ pieces test f xs p.1

  -- where one test passes another does
  weaker : (t u : A → Bool) → ((x : A) → t x ≡ true → u x ≡ true) → (xs : List A) → list_all t xs ≡ true → list_all u xs ≡ true
  weaker t u f [] h = refl
  weaker t u f (x ∷ xs) h = let p = and_parts (t x) (list_all t xs) h in ap (λ b. b && list_all u xs) (f x p.0) ∙ weaker t u f xs p.1

module _ (r : Residue) (t : Target) (ok : Valid r t) where
  abbrev ws : Words
  ws = words r

  uses-small : list_all (λ p. are_small ws (part_uses p)) r.parts ≡ true
  uses-small = pieces (λ a. is_small ws a.1) part_uses r.parts (uses-of-written (is_small ws) r (written-small))
    where
      written-small : list_all (is_small ws) (written r) ≡ true
      written-small = (and_parts (list_all (number_small r.own_qubits r.own_results) (written r)) (nat_lt (length (names_of r.parts)) (2 ^ 64) && (nat_lt (parts_and_lines r.parts) (2 ^ 31) && list_all (λ x. are_few (item_uses x)) (all_items r))) ok.numbers).0

  part-small : (p : Part) → are_small ws (part_uses p) ≡ true → (items_small ws p ≡ true) × (tail_small ws p ≡ true)
  part-small p h =
      let q = and_parts (are_small ws (flat_map item_uses (items_of p.lines))) (are_small ws (tail_uses p.tail)) (sym (list_all-append (λ a. is_small ws a.1) (flat_map item_uses (items_of p.lines)) (tail_uses p.tail)) ∙ h) in
      (pieces (λ a. is_small ws a.1) item_uses (items_of p.lines) q.0, q.1)

  pub all-items-small : list_all (items_small ws) r.parts ≡ true
  all-items-small = weaker (λ p. are_small ws (part_uses p)) (items_small ws) (λ p h. (part-small p h).0) r.parts uses-small

  pub all-tails-small : list_all (tail_small ws) r.parts ≡ true
  all-tails-small = weaker (λ p. are_small ws (part_uses p)) (tail_small ws) (λ p h. (part-small p h).1) r.parts uses-small

  pub all-args-small : list_all (args_small ws) r.parts ≡ true
  all-args-small = pieces (is_small ws) (λ p. jump_args p.tail) r.parts (args-of-written (is_small ws) r (and_parts (list_all (number_small r.own_qubits r.own_results) (written r)) (nat_lt (length (names_of r.parts)) (2 ^ 64) && (nat_lt (parts_and_lines r.parts) (2 ^ 31) && list_all (λ x. are_few (item_uses x)) (all_items r))) ok.numbers).0)

  pub items-few : list_all (λ x. are_few (item_uses x)) (all_items r) ≡ true
  items-few =
      let a = and_parts (list_all (number_small r.own_qubits r.own_results) (written r)) (nat_lt (length (names_of r.parts)) (2 ^ 64) && (nat_lt (parts_and_lines r.parts) (2 ^ 31) && list_all (λ x. are_few (item_uses x)) (all_items r))) ok.numbers in
      let b = and_parts (nat_lt (length (names_of r.parts)) (2 ^ 64)) (nat_lt (parts_and_lines r.parts) (2 ^ 31) && list_all (λ x. are_few (item_uses x)) (all_items r)) a.1 in
      (and_parts (nat_lt (parts_and_lines r.parts) (2 ^ 31)) (list_all (λ x. are_few (item_uses x)) (all_items r)) b.1).1

  -- the entry and the declared functions are few
  pub functions-few : (p : Printer) → Lists r.irreversible (declared_of r) p.functions.now → HasFew p
  functions-few p l =
      let a = and_parts (are_few (printed r t).globals) (are_few (printed r t).funcs && list_all (λ f. are_few (blocks_of f)) (printed r t).funcs) (few r t ok) in
      let b = less (length (printed r t).funcs) (2 ^ 32) (and_parts (are_few (printed r t).funcs) (list_all (λ f. are_few (blocks_of f)) (printed r t).funcs) a.1).0 in
      let c = ap length l.names ∙ map-long (λ (c : Called). c.name) (declared_of r) in
      let d = map-long (declaration r.irreversible) (declared_of r) in
      omega (arith, b, c, d)
    where
      map-long : {A B : Type 0} (f : A → B) (xs : List A) → length (map f xs) ≡ length xs
      map-long f [] = refl
      map-long f (x ∷ xs) = ap suc (map-long f xs)

-- what a printer of a residue's parts needs and knows
pub record Ready (p : Printer) (r : Residue) (parts : List Part) : Type 0 where
  pub few : HasFew p
  pub count : length parts < 2 ^ 32
  pub room : length (names_of parts) < 2 ^ 64
  pub items : list_all (items_small (at p)) parts ≡ true
  pub tails : list_all (tail_small (at p)) parts ≡ true
  pub args : list_all (args_small (at p)) parts ≡ true
  pub known : at p ≡ words r
  pub whole : parts ≡ r.parts

abbrev pub printer_of : Bor LocalNames → Bor Table → Residue → Printer
printer_of names functions r = record { names = names; functions = functions; qubits = r.own_qubits; results = r.own_results }

pub ready : (r : Residue) (t : Target) → Valid r t → (names : Bor LocalNames) (functions : Bor Table) → Holds (names_of r.parts) names.now → Lists r.irreversible (declared_of r) functions.now
    → (parts : List Part) → parts ≡ r.parts → Ready (printer_of names functions r) r parts
ready r t ok names functions h l parts e =
    let p = printer_of names functions r in
    let k = words-known r p refl refl h l in
    subst (Ready p r) (sym e) (record {
      few = functions-few r t ok p l;
      count = parts-few r t ok;
      room = names-few r t ok;
      items = ap (λ ws. list_all (items_small ws) r.parts) k ∙ all-items-small r t ok;
      tails = ap (λ ws. list_all (tail_small ws) r.parts) k ∙ all-tails-small r t ok;
      args = ap (λ ws. list_all (args_small ws) r.parts) k ∙ all-args-small r t ok;
      known = k;
      whole = refl;
    })

pub base-whole : (r : Residue) (p : Printer) (parts : List Part) (t : Target) (keys names : List (List ℕ)) → Ready p r parts → t ≡ Base → names ≡ r.irreversible → Marks names keys → phase_blocks (at p) keys parts ≡ print_blocks r t
base-whole r p parts t keys names h e n m =
    ap (λ ws. phase_blocks ws keys parts) h.known ∙ ap (phase_blocks (words r) keys) h.whole ∙ base-printed r keys r.parts (subst (λ ns. Marks ns keys) n m) ∙ ap (print_blocks r) (sym e)

pub adaptive-whole : (r : Residue) (p : Printer) (parts : List Part) (t : Target) (caps : Caps) → Ready p r parts → t ≡ Adaptive caps → part_blocks (at p) (edges_of 0 parts) 0 0 parts ≡ print_blocks r t
adaptive-whole r p parts t caps h e =
    ap (λ ws. part_blocks ws (edges_of 0 parts) 0 0 parts) h.known ∙ ap (λ ps. part_blocks (words r) (edges_of 0 ps) 0 0 ps) h.whole ∙ parts-printed r 0 0 r.parts ∙ ap (print_blocks r) (sym e)
