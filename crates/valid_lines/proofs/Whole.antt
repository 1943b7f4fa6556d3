-- The items of the parts keep the rules.
use Rattle.std.proofs.Common.{◌≡◌, ℕ, Bool, true, Option, Some, List, length, flat_map, slice_get, refl, ap, ◌∙◌, subst}
use Rattle.std.specs.List.{list_all}
use Rattle.ir_values.specs.declared.ty.Ty.{Ty}
use Rattle.kept_items.specs.declared.item.Item.{Item}
use Rattle.kept_items.specs.declared.target.Target.{Target}
use Rattle.kept_items.specs.declared.target.Target.TheVariants.{Base, Adaptive}
use Rattle.kept_items.specs.declared.val.Dyn.{Dyn}
use Rattle.kept_items.specs.declared.val.Val.{Val}
use Rattle.residue.specs.declared.parts.Part.{Part}
use Rattle.residue.specs.declared.parts.Residue.{Residue}
use Rattle.residue.specs.Functions.{all_items}
use Rattle.residue.specs.Scopes.{item_uses, items_of}
use Rattle.residue.specs.Valid.{base_permits, caps_permit, caps_permit_tail, is_instruction, item_allowed, item_compares, label_below, operation_known, output_known}
use Rattle.fused_parts.specs.Nodes.{Node}
use Rattle.fused_parts.specs.Parts.{parts_of, renamed_item}
use Rattle.unroller.specs.Programs.{Program}
use Rattle.valid_steps.specs.Items.{IsItem}
use Rattle.valid_lines.specs.Laws.{AreValid, IsStepOf, items_permitted, tails_permitted}
use Rattle.valid_lines.proofs.Items.{allowed, base-permitted, caps-permitted, compared, item-labels, known-operation, known-output, named}
use Rattle.valid_lines.proofs.Parts.{AllPass, parts-pass}
use Rattle.valid_lines.proofs.Tails.{tails-permitted}
use Rattle.valid_lines.proofs.Steps.{ItemFits, item-fits}

module _ (p : Program) (nodes : List Node) (flags : List Bool) (part_of : ℕ → ℕ) (shared : Option ℕ) (r : Residue) (steps : (i : ℕ) (x : Node) → slice_get nodes i ≡ Some x → IsStepOf p x)
    (parts : r.parts ≡ parts_of p.m part_of shared nodes flags) where
  -- a test that items that fit pass by whatever numbers
  by-test : (test : Item → Bool) → ((i : Item) → ItemFits p i → (mine : List Dyn) (n : ℕ) → test (renamed_item mine n i) ≡ true) → list_all test (all_items r) ≡ true
  by-test test h =
      let pass : AllPass test nodes = λ j x e i q mine n. h i (item-fits p x i (steps j x e) q) mine n in
      ap (λ ps. list_all test (flat_map (λ (x : Part). items_of x.lines) ps)) parts ∙ parts-pass test p.m nodes part_of shared flags pass

  permitted : (t : Target) → p.target ≡ t → items_permitted r t ≡ true
  permitted Base e = by-test base_permits (λ i f mine n. base-permitted mine p.m f.below f.types f.held i n (subst (λ t. IsItem p.m t f.below f.types f.held i) e f.fits))
  permitted (Adaptive caps) e = by-test (caps_permit caps) (λ i f mine n. caps-permitted mine p.m f.below f.types f.held caps i n (subst (λ t. IsItem p.m t f.below f.types f.held i) e f.fits))

  tails : (t : Target) → p.target ≡ t → tails_permitted r t
  tails Base e = tt
  tails (Adaptive caps) e = ap (list_all (λ (y : Part). caps_permit_tail caps y.tail)) parts ∙ tails-permitted p caps nodes flags part_of shared e steps

  pub items-are-valid : AreValid r p.target (length p.m.globals)
  items-are-valid = record {
    allowed = by-test item_allowed (λ i f mine n. allowed mine p.m p.target f.below f.types f.held i n f.fits);
    operations = by-test operation_known (λ i f mine n. known-operation mine p.m p.target f.below f.types f.held i n f.fits);
    outputs = by-test output_known (λ i f mine n. known-output mine p.m p.target f.below f.types f.held i n f.fits);
    compared = by-test item_compares (λ i f mine n. compared mine p.m p.target f.below f.types f.held i n f.fits);
    labels_fit =
        by-test (λ x. list_all (λ (a : Ty × Val). label_below (length p.m.globals) a.1) (item_uses x)) (λ i f mine n. item-labels mine p.m p.target f.below f.types f.held i n f.fits);
    named = by-test is_instruction (λ i f mine n. named mine p.m p.target f.below f.types f.held i n f.fits);
    permitted = permitted p.target refl;
    tails = tails p.target refl;
  }
