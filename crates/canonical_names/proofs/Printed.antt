-- What is known of the functions of a printable module.
use Rattle.std.specs.Prelude.{◌&&◌, ◌||◌, not, is_none, nat_lt, nat_le, slice_get}
use Rattle.std.specs.List.{list_all, flat_map}
use Rattle.std.proofs.Common.{◌≡◌, ℕ, zero, suc, ◌^◌, ◌<◌, Bool, true, Option, None, Some, List, [], ◌∷◌, ◌++◌, length, refl, arith}
use Rattle.std.proofs.lemmas.Bool.{and_parts, and_from, leb-true, ltb-true}
use Rattle.ir_module.specs.Classes.{parameter_types}
use Rattle.ir_module.specs.Numbered.{all_steps, are_distinct, are_few, defined_once, global_names, has_block, is_void, local_in_range, local_names, not_void, operand_in_range, step_in_range}
use Rattle.ir_module.specs.Operands.{step_defines, step_blocks, step_operands}
use Rattle.ir_module.specs.Printable.{IsPrintable, declaration_fits, in_text_order, name_fits, type_fits, types_fit}
use Rattle.ir_module.specs.Steps.{Step, steps_of, steps_of_block}
use Rattle.ir_module.specs.Tree.{blocks_of}
use Rattle.ir_module.specs.declared.tree.Attr.{Attr}
use Rattle.ir_module.specs.declared.tree.Block.{Block}
use Rattle.ir_module.specs.declared.tree.Function.{Function}
use Rattle.ir_module.specs.declared.tree.Module.{Module}
use Rattle.ir_printer.specs.Groups.{groups_of, number_from}
use Rattle.canonical_text.proofs.FunctionsGood.{few_groups}
use Rattle.read_modules.proofs.Each.{Each, Each-left, Each-right}
use Rattle.canonical_syntax.proofs.Operands.{found_all}
use Rattle.canonical_syntax.proofs.Printed.{names_of, known, steps_fit}
use Rattle.canonical_syntax.proofs.Steps.{FitStep}
use Rattle.canonical_names.proofs.Bodies.{FitBlock}
use Rattle.canonical_names.proofs.FunctionParts.{Below, FitFunction}
use Rattle.canonical_names.proofs.Groups.{IsGroup, group_is}

pub all_append : {A : Type 0} (p : A → Bool) (xs ys : List A) → list_all p xs ≡ true → list_all p ys ≡ true → list_all p (xs ++ ys) ≡ true
all_append p [] ys h k = k
all_append p (x ∷ xs) ys h k = let w = and_parts (p x) (list_all p xs) h in and_from (p x) (list_all p (xs ++ ys)) w.0 (all_append p xs ys w.1 k)

-- what steps in range define is in range
defines_in_range : (m : Module) (f : Function) (ss : List Step) → Each (FitStep m f) ss → list_all (local_in_range f) (flat_map step_defines ss) ≡ true
defines_in_range m f [] h = refl
defines_in_range m f (s ∷ ss) h =
    let p = and_parts (list_all (operand_in_range m f) (step_operands s)) (list_all (local_in_range f) (step_defines s) && list_all (λ b. nat_lt b.0 (length (blocks_of f))) (step_blocks s)) h.0.in_range in
    let q = and_parts (list_all (local_in_range f) (step_defines s)) (list_all (λ b. nat_lt b.0 (length (blocks_of f))) (step_blocks s)) p.1 in
    all_append (local_in_range f) (step_defines s) (flat_map step_defines ss) q.0 (defines_in_range m f ss h.1)

blocks_fit : (m : Module) (f : Function) (bs : List Block) → Each (FitStep m f) (flat_map steps_of_block bs) → list_all (λ b. name_fits b.name) bs ≡ true → Each (FitBlock m f) bs
blocks_fit m f [] h n = tt
blocks_fit m f (b ∷ bs) h n =
    let p = and_parts (name_fits b.name) (list_all (λ b. name_fits b.name) bs) n in
    (record { name = p.0; steps = Each-left (FitStep m f) (steps_of_block b) (flat_map steps_of_block bs) h }, blocks_fit m f bs (Each-right (FitStep m f) (steps_of_block b) (flat_map steps_of_block bs) h) p.1)

pub placed_below : {A : Type 0} (xs : List A) (j : ℕ) (x : A) → slice_get xs j ≡ Some x → j < length xs
placed_below [] j x e = absurd (cc)
placed_below (y ∷ xs) zero x e = omega arith
placed_below (y ∷ xs) (suc j) x e = let l = placed_below xs j x e in omega arith

few_group : (gs : List (List Attr)) (attrs : List Attr) (o : Option ℕ) → length gs < 2 ^ 32 → IsGroup gs attrs o → Below o
few_group gs attrs None l h = tt
few_group gs attrs (Some n) l h = let b = placed_below gs n attrs h in omega arith

module _ (m : Module) (p : IsPrintable m) where
  -- fewer groups than numbers
  pub groups_few : length (groups_of m) < 2 ^ 32
  groups_few =
      let few = and_parts (are_few m.globals) (are_few m.funcs && list_all (λ f. are_few (blocks_of f)) m.funcs) p.numbered.few in
      let functions = ltb-true (length m.funcs) (2 ^ 32) (and_parts (are_few m.funcs) (list_all (λ f. are_few (blocks_of f)) m.funcs) few.1).0 in
      omega (arith, few_groups m functions)

  pub fit_function : (k : ℕ) (f : Function) → slice_get m.funcs k ≡ Some f → FitFunction m f
  fit_function k f e =
      let ranges = and_parts (list_all (λ f. nat_le f.params (length f.locals)) m.funcs) (all_steps (step_in_range m) m) p.numbered.in_range in
      let apart = and_parts (are_distinct (global_names m)) (list_all (λ f. are_distinct (local_names f)) m.funcs) p.numbered.distinct in
      let values = and_parts (list_all (λ f. list_all (λ t. not (is_void t)) (parameter_types f)) m.funcs) (all_steps not_void m) p.numbered.values in
      let types = and_parts (type_fits f.ret) (list_all (λ l. type_fits l.1) f.locals) (found_all types_fit m.funcs k f p.types e) in
      let names = names_of m p k f e in
      let steps = steps_fit m p k f e in
      record {
        known = known m p k f e;
        name = names.name;
        ret = types.0;
        locals = types.1;
        values = found_all (λ f. list_all (λ t. not (is_void t)) (parameter_types f)) m.funcs k f values.0 e;
        params = leb-true f.params (length f.locals) (found_all (λ f. nat_le f.params (length f.locals)) m.funcs k f ranges.0 e);
        distinct = found_all (λ f. are_distinct (local_names f)) m.funcs k f apart.1 e;
        in_range = defines_in_range m f (steps_of f) steps;
        in_order = found_all in_text_order m.funcs k f p.results e;
        once = found_all (λ f. defined_once f 0 (length f.locals)) m.funcs k f p.numbered.results e;
        body = found_all (λ f. has_block f.blocks) m.funcs k f p.numbered.bodies e;
        declared = found_all (λ f. not (is_none f.blocks) || declaration_fits f) m.funcs k f p.declarations e;
        blocks = blocks_fit m f (blocks_of f) steps names.blocks;
        group = group_is m k f e;
        few = few_group (groups_of m) f.attrs (number_from 0 f.attrs (groups_of m)) groups_few (group_is m k f e);
      }
