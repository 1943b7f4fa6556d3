-- The parts of a printable module stand apart.
use Rattle.std.proofs.Common.{◌≡◌, ◌^◌, ◌<◌, Bool, true, false, List, [], ◌∷◌, ◌++◌, length, refl, arith}
use Rattle.std.specs.Prelude.{◌&&◌, nat_lt, nat_le, flat_map}
use Rattle.std.specs.List.{list_all}
use Rattle.std.proofs.lemmas.Bool.{and_parts, ltb-true}
use Rattle.ir_module.specs.Numbered.{all_steps, are_few, step_in_range}
use Rattle.ir_module.specs.Printable.{IsPrintable, name_fits, names_fit, step_fits}
use Rattle.ir_module.specs.Steps.{steps_of_block, steps_of}
use Rattle.ir_module.specs.Tree.{blocks_of}
use Rattle.ir_module.specs.declared.tree.Function.{Function}
use Rattle.ir_module.specs.declared.tree.Module.{Module}
use Rattle.ir_parts.specs.Parts.{Part}
use Rattle.ir_printer.specs.Canonical.{type_lines, constant_lines, section, tail_parts, module_parts}
use Rattle.ir_printer.specs.Functions.{function_section}
use Rattle.ir_printer.specs.Groups.{groups_of, group_lines}
use Rattle.ir_printer.specs.Metadata.{flags_sections}
use Rattle.canonical_text.proofs.Facts.{all_each, all_both, all_weaker}
use Rattle.canonical_text.proofs.FunctionsGood.{FunctionFits, fits, few_groups, function_safe}
use Rattle.canonical_text.proofs.Join.{Good, Safe, join}
use Rattle.canonical_text.proofs.MetadataGood.{groups_good, constants_good, flags_good}

section_safe : {A : Type 0} (lines : List A → List Part) (xs : List A) → Good (lines xs) → Safe (section lines xs)
section_safe lines [] h = refl
section_safe lines (x ∷ xs) h = h

-- what is asked of each function
abbrev names : Function → Bool
names f = names_fit f && nat_lt f.params (2 ^ 32)

abbrev all_fits : Module → Function → Bool
all_fits m f = names f && (list_all (step_fits f) (steps_of f) && list_all (step_in_range m f) (steps_of f))

names_named : (f : Function) → names f ≡ true → name_fits f.name ≡ true
names_named f h =
    let p = and_parts (names_fit f) (nat_lt f.params (2 ^ 32)) h in
    (and_parts (name_fits f.name) (list_all (λ l. name_fits l.0) f.locals && list_all (λ b. name_fits b.name) (blocks_of f)) p.0).0

function_fits : (m : Module) (p : IsPrintable m) (f : Function) → all_fits m f ≡ true → FunctionFits m f
function_fits m p f h =
    let v = and_parts (names f) (list_all (step_fits f) (steps_of f) && list_all (step_in_range m f) (steps_of f)) h in
    let n = and_parts (names_fit f) (nat_lt f.params (2 ^ 32)) v.0 in
    let o = and_parts (name_fits f.name) (list_all (λ l. name_fits l.0) f.locals && list_all (λ b. name_fits b.name) (blocks_of f)) n.0 in
    let q = and_parts (list_all (λ l. name_fits l.0) f.locals) (list_all (λ b. name_fits b.name) (blocks_of f)) o.1 in
    let s = and_parts (list_all (step_fits f) (steps_of f)) (list_all (step_in_range m f) (steps_of f)) v.1 in
    let steps : list_all (fits m f) (steps_of f) ≡ true = all_both (step_fits f) (step_in_range m f) (steps_of f) s.0 s.1 in
    let few = and_parts (are_few m.globals) (are_few m.funcs && list_all (λ f. are_few (blocks_of f)) m.funcs) p.numbered.few in
    let few_functions = and_parts (are_few m.funcs) (list_all (λ f. are_few (blocks_of f)) m.funcs) few.1 in
    record {
      known = record {
        constants = p.constants;
        functions = all_weaker names (λ g. name_fits g.name) m.funcs names_named p.names;
        locals = q.0;
        blocks = q.1;
      };
      name = o.0;
      steps = all_both (λ b. name_fits b.name) (λ b. list_all (fits m f) (steps_of_block b)) (blocks_of f) q.1 (all_each (fits m f) steps_of_block (blocks_of f) steps);
      few = ltb-true (length m.funcs) (2 ^ 32) few_functions.0;
    }

functions_safe : (m : Module) (p : IsPrintable m) (fs : List Function) → list_all (all_fits m) fs ≡ true → Safe (flat_map (function_section m) fs)
functions_safe m p [] h = refl
functions_safe m p (f ∷ fs) h =
    let v = and_parts (all_fits m f) (list_all (all_fits m) fs) h in
    join true (function_section m f) (flat_map (function_section m) fs) (function_safe m f (function_fits m p f v.0)) (functions_safe m p fs v.1)

types_good : Good type_lines
unfolding type_lines
types_good = refl

-- The parts of a printable module stand apart.
pub module_good : (m : Module) → IsPrintable m → Good (module_parts m)
module_good m p =
    let in_range = and_parts (list_all (λ f. nat_le f.params (length f.locals)) m.funcs) (all_steps (step_in_range m) m) p.numbered.in_range in
    let few = and_parts (are_few m.globals) (are_few m.funcs && list_all (λ f. are_few (blocks_of f)) m.funcs) p.numbered.few in
    let few_functions = and_parts (are_few m.funcs) (list_all (λ f. are_few (blocks_of f)) m.funcs) few.1 in
    let count : length m.funcs < 2 ^ 32 = ltb-true (length m.funcs) (2 ^ 32) few_functions.0 in
    let steps = all_both (λ f. list_all (step_fits f) (steps_of f)) (λ f. list_all (step_in_range m f) (steps_of f)) m.funcs p.steps in_range.1 in
    let all : list_all (all_fits m) m.funcs ≡ true = all_both names (λ f. list_all (step_fits f) (steps_of f) && list_all (step_in_range m f) (steps_of f)) m.funcs p.names steps in
    let constants : Safe (section constant_lines m.globals) = section_safe constant_lines m.globals (constants_good m.globals p.constants) in
    let functions : Safe (flat_map (function_section m) m.funcs) = functions_safe m p m.funcs all in
    let groups : Safe (section (group_lines 0) (groups_of m)) = section_safe (group_lines 0) (groups_of m) (groups_good 0 (groups_of m) (omega (arith, few_groups m count))) in
    let flags : Safe (section flags_sections m.flags) = section_safe flags_sections m.flags (flags_good m.flags p.nodes p.flags) in
    let tail : Safe (tail_parts m) = join true (section (group_lines 0) (groups_of m)) (section flags_sections m.flags) groups flags in
    let behind_constants : Safe (flat_map (function_section m) m.funcs ++ tail_parts m) = join true (flat_map (function_section m) m.funcs) (tail_parts m) functions tail in
    join false type_lines (section constant_lines m.globals ++ (flat_map (function_section m) m.funcs ++ tail_parts m)) types_good
    (join true (section constant_lines m.globals) (flat_map (function_section m) m.funcs ++ tail_parts m) constants behind_constants)
