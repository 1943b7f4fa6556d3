-- A lowered Base program is lowered to itself.
use Rattle.std.proofs.Common.{◌≡◌, ℕ, suc, ◌+◌, Bool, true, false, not, None, Some, List, [], ◌∷◌, ◌++◌, length, map, refl, sym, ap, ◌∙◌, subst, arith, append-nil}
use Rattle.std.proofs.lemmas.Bool.{and_parts}
use Rattle.std.specs.List.{list_all}
use Rattle.std.specs.Prelude.{◌==◌, codes, decimal, filter, flat_map, if◌then◌else◌, min, option_and_then, slice_get, unwrap_or}
use Rattle.ir_module.specs.declared.places.Point.{Point}
use Rattle.ir_module.specs.declared.tree.Attr.{Attr}
use Rattle.ir_module.specs.declared.tree.Module.{Module}
use Rattle.ir_module.specs.Entry.{attribute_of}
use Rattle.ir_values.specs.declared.ids.LocalId.{LocalId}
use Rattle.ir_values.specs.declared.ty.Ty.{Ty}
use Rattle.ir_values.specs.declared.ty.Ty.TheVariants as ty
use Rattle.ir_values.specs.declared.value.Value.TheVariants as value
use Rattle.kept_items.specs.declared.item.Item.{Item}
use Rattle.kept_items.specs.declared.item.Item.TheVariants as item
use Rattle.kept_items.specs.declared.target.Target.TheVariants.{Base}
use Rattle.kept_items.specs.declared.val.Val.{Val}
use Rattle.kept_items.specs.declared.val.Val.TheVariants.{Known}
use Rattle.lowered_program.specs.Residues.{greater, greatest, residue_of}
use Rattle.path_search.specs.Explored.{Explored}
use Rattle.residue.specs.declared.parts.Part.{Part}
use Rattle.residue.specs.declared.parts.Residue.{Residue}
use Rattle.residue.specs.declared.parts.Tail.TheVariants as tail
use Rattle.residue.specs.Functions.{all_items, attr, called, calls_of, calls_of_residue, declaration, declared_of, first_uses, function_of, initialize, is_among, is_named, place_among, types_of}
use Rattle.residue.specs.Instructions.{print_tail}
use Rattle.residue.specs.Phases.{phase_of, phases_rise}
use Rattle.residue.specs.Printed.{base_blocks, entry_attrs, flags_of, locals_from, names_of, names_of_items, names_of_params, own_flags, own_keys, printed, printed_entry, profile_of, schema_key, words}
use Rattle.residue.specs.Scopes.{gives_of, items_of, jumps}
use Rattle.residue.specs.Valid.{Valid, all_alike, all_tails, base_permits, begins as first_begins, is_instruction, leads_on}
use Rattle.static_steps.specs.declared.config.Config.{Config}
use Rattle.type_check.specs.Required.{one_above, qubit_numbers, qubits_key, required_qubits, required_results, result_numbers, results_key, stated, written}
use Rattle.typed_residue.specs.Laws.{FitsLimit}
use Rattle.typed_residue.proofs.Numbers.{stated-number}
use Rattle.unroller.specs.Programs.{Carries, Program, search_of}
use Rattle.fused_parts.specs.Nodes.{Node, joins}
use Rattle.fused_parts.specs.Ranks.{part_number}
use Rattle.printed_residue.proofs.Declared.{call-finds, fits as fits-type}
use Rattle.printed_residue.proofs.Ends.{entry-is}
use Rattle.printed_residue.proofs.Lines.{all-typed}
use Rattle.printed_residue.proofs.Looks.{same-numbers}
use Rattle.printed_residue.proofs.Rising.{all-none-named}
use Rattle.profiled_residue.proofs.CallRules.{base-permits}
use Rattle.numbered_residue.proofs.Passing.{all-each}
use Rattle.settled_lowering.specs.Laws.{IsPrinted}
use Rattle.settled_lowering.proofs.BaseBlocks.{only, part, part-is}
use Rattle.settled_lowering.proofs.BaseSettles.{program}
use Rattle.settled_lowering.proofs.BaseTurns.{settled}
use Rattle.repeated_lowering.specs.Laws.{IsRepeatable}
use Rattle.repeated_lowering.proofs.Chain.{allocates-none, first-is, rest, starting-rest, returns-none, row}
use Rattle.repeated_lowering.proofs.Irreversible.{among-there, declared-again, named-again-is}
use Rattle.repeated_lowering.proofs.Made.{IsOnePart, one-part-made}
use Rattle.repeated_lowering.proofs.Phases.{all-in-order, in_order}
use Rattle.repeated_lowering.proofs.Printing.{all-calls-again, blocks-again, names-again}

-- ---- numbers

-- the greatest of numbers that are all 0
none-greater : (count : Config → ℕ) (nodes : List Node) → ((i : ℕ) (x : Node) → slice_get nodes i ≡ Some x → count x.node ≡ 0) → greatest count nodes ≡ 0
none-greater count [] h = refl
none-greater count (x ∷ xs) h =
    ap (λ a. greater a (greatest count xs)) (h 0 x refl)
    ∙ ap (greater 0) (none-greater count xs (λ i y e. h (suc i) y e))

module _ (r : Residue) (limit : ℕ) (fits : FitsLimit r limit) where
  abbrev l : Module
  l = printed r Base

  qubits-are : required_qubits l limit ≡ r.all_qubits
  unfolding required_qubits
  qubits-are =
      ap (λ o. unwrap_or o (min limit (one_above (written qubit_numbers l))))
      (ap (stated qubits_key limit) (entry-is r Base) ∙ stated-number limit r.all_qubits fits.small_qubits fits.qubits)

  results-are : required_results l limit ≡ r.all_results
  unfolding required_results
  results-are =
      ap (λ o. unwrap_or o (min limit (one_above (written result_numbers l))))
      (ap (stated results_key limit) (entry-is r Base) ∙ stated-number limit r.all_results fits.small_results fits.results)

-- ---- attributes

filter-again : {A : Type 0} (f : A → Bool) (xs : List A) → filter f (filter f xs) ≡ filter f xs
filter-again f [] = refl
filter-again f (x ∷ xs) = by (f x) refl (filter-again f xs)
  where
    by : (b : Bool) → f x ≡ b → filter f (filter f xs) ≡ filter f xs → filter f (if b then x ∷ filter f xs else filter f xs) ≡ (if b then x ∷ filter f xs else filter f xs)
    by true e h = ap (λ b. if b then x ∷ filter f (filter f xs) else filter f (filter f xs)) e ∙ ap (λ l. x ∷ l) h
    by false e h = h

abbrev others : List Attr → List Attr
others attrs = filter (λ (a : Attr). not (is_named own_keys a.key)) attrs

-- the attributes of a module that was printed are printed again
attrs-again : (r r' : Residue) → r'.attrs ≡ entry_attrs r Base → r'.all_qubits ≡ r.all_qubits → r'.all_results ≡ r.all_results → entry_attrs r' Base ≡ entry_attrs r Base
attrs-again r r' e q s =
    ap (λ as_. attr (codes "entry_point") None ∷ attr (codes "qir_profiles") (Some (profile_of Base)) ∷ attr schema_key (option_and_then (λ (a : Attr). a.value) (attribute_of schema_key as_)) ∷ attr (codes "required_num_qubits") (Some (decimal r'.all_qubits)) ∷ attr (codes "required_num_results") (Some (decimal r'.all_results)) ∷ others as_) e
    ∙ ap (λ n. attr (codes "entry_point") None ∷ attr (codes "qir_profiles") (Some (profile_of Base)) ∷ attr schema_key (option_and_then (λ (a : Attr). a.value) (attribute_of schema_key r.attrs)) ∷ attr (codes "required_num_qubits") (Some (decimal n)) ∷ attr (codes "required_num_results") (Some (decimal r'.all_results)) ∷ others (others r.attrs)) q
    ∙ ap (λ n. attr (codes "entry_point") None ∷ attr (codes "qir_profiles") (Some (profile_of Base)) ∷ attr schema_key (option_and_then (λ (a : Attr). a.value) (attribute_of schema_key r.attrs)) ∷ attr (codes "required_num_qubits") (Some (decimal r.all_qubits)) ∷ attr (codes "required_num_results") (Some (decimal n)) ∷ others (others r.attrs)) s
    ∙ ap (λ l. attr (codes "entry_point") None ∷ attr (codes "qir_profiles") (Some (profile_of Base)) ∷ attr schema_key (option_and_then (λ (a : Attr). a.value) (attribute_of schema_key r.attrs)) ∷ attr (codes "required_num_qubits") (Some (decimal r.all_qubits)) ∷ attr (codes "required_num_results") (Some (decimal r.all_results)) ∷ l) (filter-again (λ (a : Attr). not (is_named own_keys a.key)) r.attrs)

-- ---- the module

module _ (r : Residue) (limit : ℕ) (is : IsRepeatable r limit) (live : Point → LocalId → Bool) (budget : ℕ) where
  abbrev ok : Valid r Base
  ok = is.valid

  abbrev p : Program
  p = program r ok is.profile live r.all_qubits r.all_results

  abbrev the_items : List Item
  the_items = items_of (part r ok).lines

  items-are : all_items r ≡ the_items
  items-are = ap (flat_map (λ p. items_of p.lines)) (only r ok) ∙ append-nil the_items

  permitted : list_all base_permits the_items ≡ true
  permitted = subst (λ xs. list_all base_permits xs ≡ true) items-are (all-each base_permits (all_items r) (λ i x e. base-permits r ok x (i, e)))

  ordered : in_order r.irreversible the_items ≡ the_items
  ordered = all-in-order r.irreversible 0 the_items (subst (λ xs. phases_rise r.irreversible 0 xs ≡ true) items-are (and_parts (length r.parts == 1) (phases_rise r.irreversible 0 (all_items r)) ok.phases).1)

  module _ (nodes : List Node) (explored : Explored (search_of p budget) (Carries p) nodes) where
    abbrev again : Residue
    again = residue_of p (printed_entry r Base) nodes

    starts-with : (x : Node) → slice_get nodes 0 ≡ Some x → rest r ok is.profile live r.all_qubits r.all_results budget x.node ≡ the_items
    starts-with x e =
        ap (rest r ok is.profile live r.all_qubits r.all_results budget) (first-is r ok is.profile live r.all_qubits r.all_results budget nodes explored x e)
        ∙ starting-rest r ok is.profile live r.all_qubits r.all_results budget
        ∙ ordered

    one : IsOnePart r ok is.profile live r.all_qubits r.all_results budget (printed r Base) (part_number (joins nodes)) nodes (row r ok is.profile live r.all_qubits r.all_results budget nodes explored) the_items
    one = one-part-made r ok is.profile live r.all_qubits r.all_results budget (printed r Base) (part_number (joins nodes)) nodes (row r ok is.profile live r.all_qubits r.all_results budget nodes explored) the_items permitted starts-with

    abbrev q : Part
    q = one.again

    parts-are : again.parts ≡ q ∷ []
    parts-are = one.parts

    -- ---- what is called

    again-items : all_items again ≡ map (settled (words r) []) (all_items r)
    again-items =
        ap (flat_map (λ p. items_of p.lines)) parts-are
        ∙ append-nil (items_of q.lines)
        ∙ one.items
        ∙ ap (map (settled (words r) [])) (sym items-are)

    declared-same : declared_of again ≡ declared_of r
    declared-same = ap (first_uses (initialize ∷ [])) (ap (flat_map calls_of) again-items ∙ all-calls-again (words r) (all_items r))

    functions-same : (name : List ℕ) → (words again).function name ≡ (words r).function name
    functions-same name = ap (λ cs. function_of cs name) declared-same

    declared-name : (i : ℕ) (name : List ℕ) (args : List (Ty × Val)) → slice_get (all_items r) i ≡ Some (item.Operation name args) → is_among (declared_of r) name ≡ true
    declared-name i name args e =
        let k = and_parts (list_all is_instruction (all_items r)) (all_alike (calls_of_residue r)) ok.calls in
        among-there (declared_of r) (place_among (declared_of r) name) (called name ty.Void (types_of args))
        (call-finds r Base k.0 k.1 ok.outputs (all-typed (fits-type (gives_of r)) r.parts ok.types) i (item.Operation name args) (called name ty.Void (types_of args)) e (0, refl))

    phases-same : (i : ℕ) (x : Item) → slice_get the_items i ≡ Some x → phase_of again.irreversible (settled (words r) [] x) ≡ phase_of r.irreversible x
    phases-same i x e = by x (ap (λ xs. slice_get xs i) items-are ∙ e)
      where
        by : (x : Item) → slice_get (all_items r) i ≡ Some x → phase_of again.irreversible (settled (words r) [] x) ≡ phase_of r.irreversible x
        by (item.Operation name args) e = ap (λ b. if b then 2 else 1) (named-again-is r ok is.profile is.named name (declared-name i name args e))
        by (item.Output c args) e = refl
        by (item.Binary d o g w a b) e = refl
        by (item.Icmp d o w a b) e = refl
        by (item.Convert d o w a to) e = refl
        by (item.Select d w c a b) e = refl
        by (item.Read d v) e = refl
        by (item.Equal d v u) e = refl

    -- ---- the parts of the module

    tails-same : print_tail (words again) q.tail ≡ print_tail (words r) (part r ok).tail
    tails-same =
        ap (print_tail (words again)) one.tail_again
        ∙ ap (λ i. print_tail (words again) (tail.Return (Known (value.Int i)))) (is.code (part r ok) one.returned (part-is r ok) one.ends)
        ∙ ap (print_tail (words r)) (sym one.ends)

    blocks-same : base_blocks again again.parts ≡ base_blocks r r.parts
    blocks-same =
        ap (base_blocks again) parts-are
        ∙ blocks-again r again (part r ok) q one.items permitted functions-same phases-same tails-same
        ∙ ap (base_blocks r) (sym (only r ok))

    no-params : (part r ok).params ≡ []
    no-params = none (part r ok).params (ap first_begins (sym (only r ok)) ∙ (and_parts (first_begins r.parts) (all_tails (λ t. list_all (leads_on (length r.parts)) (jumps t)) r) ok.start).0)
      where
        none : {A : Type 0} (xs : List A) → (length xs == 0) ≡ true → xs ≡ []
        none [] h = refl
        none (x ∷ xs) h = let z = same-numbers (length (x ∷ xs)) 0 h in absurd (omega (arith, z))

    names-of-again : names_of again.parts ≡ []
    names-of-again =
        ap names_of parts-are
        ∙ ap (λ ps. (names_of_params ps ++ names_of_items (items_of q.lines)) ++ []) one.params
        ∙ append-nil (names_of_items (items_of q.lines))
        ∙ ap names_of_items one.items
        ∙ names-again (words r) the_items permitted

    names-of-first : names_of r.parts ≡ []
    names-of-first =
        ap names_of (only r ok)
        ∙ ap (λ ps. (names_of_params ps ++ names_of_items the_items) ++ []) no-params
        ∙ append-nil (names_of_items the_items)
        ∙ all-none-named the_items permitted

    qubits-same : again.all_qubits ≡ r.all_qubits
    qubits-same =
        ap (λ n. r.all_qubits + n) (none-greater (λ g. g.allocated) nodes (allocates-none r ok is.profile live r.all_qubits r.all_results budget nodes explored))
        ∙ (let z : r.all_qubits + 0 ≡ r.all_qubits = omega arith in z)

    results-same : again.all_results ≡ r.all_results
    results-same =
        ap (λ n. r.all_results + n) (none-greater (λ g. g.returned) nodes (returns-none r ok is.profile live r.all_qubits r.all_results budget nodes explored))
        ∙ (let z : r.all_results + 0 ≡ r.all_results = omega arith in z)

    entries-same : printed_entry again Base ≡ printed_entry r Base
    entries-same =
        ap (λ ns. record (printed_entry again Base) { locals = locals_from 0 ns }) (names-of-again ∙ sym names-of-first)
        ∙ ap (λ as_. record (printed_entry again Base) { locals = locals_from 0 (names_of r.parts); attrs = as_ }) (attrs-again r again refl qubits-same results-same)
        ∙ ap (λ bs. record (printed_entry again Base) { locals = locals_from 0 (names_of r.parts); attrs = entry_attrs r Base; blocks = Some bs }) blocks-same

    declarations-same : map (declaration again.irreversible) (declared_of again) ≡ map (declaration r.irreversible) (declared_of r)
    declarations-same = ap (map (declaration again.irreversible)) declared-same ∙ declared-again r ok is.profile is.named

    pub printed-again : printed again Base ≡ printed r Base
    printed-again =
        ap (λ f. record { globals = r.globals; funcs = f ∷ map (declaration again.irreversible) (declared_of again); flags = own_flags ++ flags_of Base }) entries-same
        ∙ ap (λ fs. record { globals = r.globals; funcs = printed_entry r Base ∷ fs; flags = own_flags ++ flags_of Base }) declarations-same

-- of any program that is the printed module
pub repeats : (r : Residue) (p : Program) (limit budget : ℕ) (nodes : List Node) → IsRepeatable r limit → IsPrinted r Base p → p.qubits ≡ required_qubits p.m limit → p.results ≡ required_results p.m limit
    → Explored (search_of p budget) (Carries p) nodes → printed (residue_of p (printed_entry r Base) nodes) Base ≡ printed r Base
repeats r p limit budget nodes is at qs rs explored =
    ap (λ p. printed (residue_of p (printed_entry r Base) nodes) Base) same
    ∙ printed-again r limit is p.live budget nodes (subst (λ p. Explored (search_of p budget) (Carries p) nodes) same explored)
  where
    same : p ≡ program r is.valid is.profile p.live r.all_qubits r.all_results
    same =
        ap (λ m. record p { m = m }) at.module_is
        ∙ ap (λ t. record p { m = printed r Base; target = t }) at.target
        ∙ ap (λ e. record p { m = printed r Base; target = Base; entry = e }) at.entry
        ∙ ap (λ n. record p { m = printed r Base; target = Base; entry = record { 0 = 0 }; qubits = n }) (qs ∙ ap (λ m. required_qubits m limit) at.module_is ∙ qubits-are r limit is.limited)
        ∙ ap (λ n. record p { m = printed r Base; target = Base; entry = record { 0 = 0 }; qubits = r.all_qubits; results = n }) (rs ∙ ap (λ m. required_results m limit) at.module_is ∙ results-are r limit is.limited)
