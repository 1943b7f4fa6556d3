-- The pieces of the lowered program can be printed.
use Rattle.std.proofs.Common.{◌≡◌, ℕ, ◌^◌, true, ◌&&◌, None, Some, List, [], ◌∷◌, map, slice_get, flat_map, refl, sym, ap, ◌∙◌}
use Rattle.std.proofs.lemmas.Bool.{and_parts}
use Rattle.std.proofs.lemmas.List.Folds.{list_all-map}
use Rattle.std.specs.List.{list_all}
use Rattle.std.specs.Prelude.{nat_lt}
use Rattle.ir_module.specs.declared.tree.Function.{Function}
use Rattle.ir_module.specs.Printable.{IsPrintable, attr_fits, name_fits, names_fit}
use Rattle.ir_module.proofs.StepLemmas.{passes-at}
use Rattle.ir_values.specs.declared.ty.Ty.{Ty}
use Rattle.kept_items.specs.declared.item.Item.{Item}
use Rattle.kept_items.specs.declared.val.Val.{Val}
use Rattle.path_search.specs.Explored.{Explored}
use Rattle.residue.specs.declared.parts.Part.{Part}
use Rattle.residue.specs.declared.parts.Residue.{Residue}
use Rattle.residue.specs.Functions.{all_items}
use Rattle.residue.specs.Scopes.{item_uses, jump_args, uses_of, written}
use Rattle.numbered_residue.proofs.Passing.{all-both}
use Rattle.fused_parts.specs.Nodes.{Node, item_of, joins}
use Rattle.fused_parts.specs.Parts.{after}
use Rattle.fused_parts.specs.Ranks.{part_number}
use Rattle.lowered_program.specs.Residues.{residue_of, shared_exit}
use Rattle.unroller.specs.declared.node.Outcome.{Outcome}
use Rattle.unroller.specs.declared.node.Outcome.TheVariants as outcome
use Rattle.unroller.specs.Programs.{Carries, Program, search_of}
use Rattle.valid_lines.proofs.Parts.{parts-pass}
use Rattle.valid_lines.proofs.Tails.{tails-pass}
use Rattle.printable_values.specs.Values.{name_prints, val_prints}
use Rattle.printable_steps.specs.Laws.{StepsKeepPrintable}
use Rattle.printable_steps.specs.Turns.{choice_prints, item_prints}
use Rattle.printable_residue.specs.Pieces.{HasPrintablePieces, PartsAreReached}
use Rattle.printable_program.specs.Laws.{AreSmall}
use Rattle.printable_program.proofs.Nodes.{outcome-prints, outcome_prints}
use Rattle.printable_program.proofs.Parts.{arguments-print, item-prints, outcome-tail-prints, tail_prints, uses-print}

-- the item of an outcome
own-item : (o : Outcome) (i : Item) → outcome_prints o ≡ true → item_of o ≡ Some i → item_prints i ≡ true
own-item (outcome.Goes None c) i h e = cc
own-item (outcome.Goes (Some j) c) i h e = let z : j ≡ i = cc in ap item_prints (sym z) ∙ (and_parts (item_prints j) (choice_prints c) h).0
own-item (outcome.Exits c) i h e = cc

names-print : (xs : List Item) → list_all item_prints xs ≡ true → list_all name_prints xs ≡ true
names-print [] h = refl
names-print (x ∷ xs) h =
    let a = and_parts (item_prints x) (list_all item_prints xs) h in
    ap (λ b. b && list_all name_prints xs) (and_parts (name_prints x) (list_all (λ (a : Ty × Val). val_prints a.1) (item_uses x)) a.0).0 ∙ names-print xs a.1

module _ (p : Program) (budget : ℕ) (nodes : List Node) (explored : Explored (search_of p budget) (Carries p) nodes) (printable : IsPrintable p.m) (law : StepsKeepPrintable) where
  outcomes : (i : ℕ) (x : Node) → slice_get nodes i ≡ Some x → outcome_prints x.item ≡ true
  outcomes i x e = outcome-prints p budget nodes explored printable law i x e

  module _ (entry : Function) (is : slice_get p.m.funcs p.entry.0 ≡ Some entry) where
    abbrev r : Residue
    r = residue_of p entry nodes

    items : list_all item_prints (all_items r) ≡ true
    items = parts-pass item_prints p.m nodes (part_number (joins nodes)) (shared_exit p.target nodes) (joins nodes) (λ j x e i q mine n. item-prints mine i n (own-item x.item i (outcomes j x e) q))

    tails : list_all (λ (q : Part). tail_prints q.tail) r.parts ≡ true
    tails = tails-pass tail_prints refl p.m nodes (part_number (joins nodes)) (shared_exit p.target nodes) (joins nodes) (λ i x e n.
        outcome-tail-prints (part_number (joins nodes)) (after x n).mine (shared_exit p.target nodes) x.item x.links (outcomes i x e))

    values : list_all val_prints (written r) ≡ true
    values =
        all-both val_prints (map (λ (a : Ty × Val). a.1) (uses_of r)) (flat_map (λ (q : Part). jump_args q.tail) r.parts)
        (list_all-map val_prints (λ (a : Ty × Val). a.1) (uses_of r) ∙ uses-print r.parts items tails) (arguments-print r.parts tails)

    pub has-pieces : AreSmall r → PartsAreReached r.parts → HasPrintablePieces r
    has-pieces small reached = record {
      entry = (and_parts (name_fits entry.name) _ (and_parts (names_fit entry) (nat_lt entry.params (2 ^ 32)) (passes-at (λ (f : Function). names_fit f && nat_lt f.params (2 ^ 32)) p.m.funcs p.entry.0 entry printable.names is)).0).0;
      attributes = passes-at (λ (f : Function). list_all attr_fits f.attrs) p.m.funcs p.entry.0 entry printable.attributes is;
      constants = printable.constants;
      operations = names-print (all_items r) items;
      values = values;
      qubits = small.qubits;
      results = small.results;
      reached = reached;
    }
