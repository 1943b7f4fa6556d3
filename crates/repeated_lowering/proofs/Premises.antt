-- What a residue that is made of explored configurations keeps, so that it is lowered to itself.
use Rattle.std.proofs.Common.{◌≡◌, ℕ, suc, Bool, true, false, not, ◌&&◌, Option, None, Some, List, [], ◌∷◌, refl, sym, ap, ◌∙◌, subst}
use Rattle.std.proofs.lemmas.Bool.{and_parts}
use Rattle.std.specs.List.{list_all, list_any, starts_with}
use Rattle.std.specs.Prelude.{◌||◌, codes, find, flat_map, if◌then◌else◌, nat_eq, option_map, slice_get}
use Rattle.ir_module.specs.declared.tree.Function.{Function}
use Rattle.ir_module.specs.declared.tree.Module.{Module}
use Rattle.ir_module.specs.Classes.{class_of_function, type_words}
use Rattle.ir_module.specs.Entry.{has_attribute}
use Rattle.ir_values.specs.declared.class.Class.{Class}
use Rattle.ir_values.specs.declared.class.Class.TheVariants as class
use Rattle.ir_values.specs.declared.int.Width.TheVariants.{W64}
use Rattle.ir_values.specs.declared.sig.TyWord.{TyWord}
use Rattle.ir_values.specs.declared.value.Value.TheVariants as value
use Rattle.ir_values.specs.Arithmetic.{modulo}
use Rattle.ir_values.specs.Calls.{Row, class_of, class_of_unknown, class_of_words, rows, same_text, same_words}
use Rattle.ir_values.specs.Int.{IntValue, signed}
use Rattle.ir_values.specs.Names.{instruction_prefix, name_text}
use Rattle.kept_items.specs.declared.item.Choice.{Choice}
use Rattle.kept_items.specs.declared.item.Choice.TheVariants as choice
use Rattle.kept_items.specs.declared.item.Code.TheVariants as code
use Rattle.kept_items.specs.declared.target.Target.TheVariants.{Base}
use Rattle.kept_items.specs.declared.val.Dyn.{Dyn}
use Rattle.kept_items.specs.declared.val.Val.TheVariants.{Known}
use Rattle.lowered_program.specs.Residues.{irreversible_as, residue_of, shared_exit}
use Rattle.lowered_runs.specs.Made.{CodesFit}
use Rattle.residue.specs.declared.parts.Part.{Part}
use Rattle.residue.specs.declared.parts.Tail.TheVariants as tail
use Rattle.residue.specs.Valid.{Valid}
use Rattle.typed_residue.specs.Laws.{FitsLimit}
use Rattle.unroller.specs.declared.node.Outcome.{Outcome}
use Rattle.unroller.specs.declared.node.Outcome.TheVariants as outcome
use Rattle.unroller.specs.Programs.{Program}
use Rattle.fused_parts.specs.declared.numbers.Numbers.{Numbers}
use Rattle.fused_parts.specs.Nodes.{Links, Node, joins}
use Rattle.fused_parts.specs.Parts.{after, choice_tail, next_numbers, no_numbers, nowhere, outcome_tail, parts_of, rest_from}
use Rattle.fused_parts.specs.Ranks.{part_number}
use Rattle.numbered_residue.proofs.Passing.{all-both}
use Rattle.numbered_residue.proofs.Shared.{some-same}
use Rattle.profiled_residue.specs.Premises.{FitsProfile}
use Rattle.repeated_lowering.specs.Laws.{IsRepeatable}
use Rattle.repeated_lowering.proofs.Irreversible.{same-names}

-- ---- gates and measurements are quantum instructions

abbrev is_operation : Class → Bool
is_operation class.Gate = true
is_operation class.Measure = true
is_operation k = false

abbrev begins : List ℕ → Bool
begins name = starts_with nat_eq name instruction_prefix

abbrev row_begins : Row → Bool
row_begins r = not (is_operation r.class) || begins r.name

rows-begin : list_all row_begins rows ≡ true
rows-begin = refl

both-true : (a b : Bool) → (a && b) ≡ true → (a ≡ true) × (b ≡ true)
both-true true true h = (refl, refl)
both-true true false h = cc
both-true false b h = cc

module _ (name : List ℕ) (ws : List TyWord) (k : Class) (is : is_operation k ≡ true) where
  abbrev is_row : Row → Bool
  is_row r = same_text name r.name && same_words ws r.words

  found-begins : (rs : List Row) → list_all row_begins rs ≡ true → option_map (λ (r : Row). r.class) (find is_row rs) ≡ Some k → begins name ≡ true
  found-begins [] h e = cc
  found-begins (x ∷ rs) h e =
      let p = and_parts (row_begins x) (list_all row_begins rs) h in by (is_row x) refl p.0 e (λ g. found-begins rs p.1 g)
    where
      of-row : x.class ≡ k → row_begins x ≡ true → begins x.name ≡ true
      of-row c h = by (is_operation x.class) (ap is_operation c ∙ is) h
        where
          by : (b : Bool) → b ≡ true → (not b || begins x.name) ≡ true → begins x.name ≡ true
          by true e h = h
          by false e h = cc

      by : (b : Bool) → is_row x ≡ b → row_begins x ≡ true → option_map (λ (r : Row). r.class) (if b then Some x else find is_row rs) ≡ Some k → (option_map (λ (r : Row). r.class) (find is_row rs) ≡ Some k → begins name ≡ true) → begins name ≡ true
      by true t h e ih = ap begins (same-names name x.name (both-true (same_text name x.name) (same_words ws x.words) t).0) ∙ of-row (some-same e) h
      by false t h e ih = ih e

  operation-begins : class_of name ws ≡ Some k → begins name ≡ true
  unfolding class_of
  operation-begins e = by (list_any (λ (r : Row). same_text name r.name) rows) e
    where
      unknown : (b : Bool) → (if b then class_of_words ws else None) ≡ Some k → b ≡ true
      unknown true e = refl
      unknown false e = cc

      by : (b : Bool) → (if b then option_map (λ (r : Row). r.class) (find is_row rows) else class_of_unknown name ws) ≡ Some k → begins name ≡ true
      by true e = found-begins rows rows-begin e
      by false e = unknown (begins name) e

-- so only they are named among the operations that can't be undone
as-begins : (f : Function) (o : Option Class) → class_of_function f ≡ o → list_all begins (irreversible_as f o) ≡ true
as-begins f None e = refl
as-begins f (Some class.Measure) e = ap (λ b. b && true) (operation-begins (name_text f.name) (type_words f) class.Measure refl e)
as-begins f (Some class.Returning) e = refl
as-begins f (Some class.Gate) e = by (has_attribute (codes "irreversible") f.attrs)
  where
    by : (b : Bool) → list_all begins (if b then (name_text f.name ∷ []) else []) ≡ true
    by true = ap (λ b. b && true) (operation-begins (name_text f.name) (type_words f) class.Gate refl e)
    by false = refl
as-begins f (Some k) e = refl

all-begin : (fs : List Function) → list_all begins (flat_map (λ f. irreversible_as f (class_of_function f)) fs) ≡ true
all-begin [] = refl
all-begin (f ∷ fs) = all-both begins (irreversible_as f (class_of_function f)) (flat_map (λ f. irreversible_as f (class_of_function f)) fs) (as-begins f (class_of_function f) refl) (all-begin fs)

-- ---- the code that is returned

abbrev Fits : IntValue → Type 0
Fits i = modulo W64 (signed i) ≡ i

nothing-fits : (i : IntValue) → nowhere ≡ tail.Return (Known (value.Int i)) → Fits i
nothing-fits i e = let s : record { width = W64; bits = 0 } ≡ i = cc in subst Fits s refl

module _ (part_of : ℕ → ℕ) (mine : List Dyn) (i : IntValue) where
  choice-fits : (c : Choice) (links : Links) → choice_tail part_of mine c links ≡ tail.Return (Known (value.Int i)) → Fits i
  choice-fits choice.One [] e = nothing-fits i e
  choice-fits choice.One (l ∷ links) e = cc
  choice-fits (choice.Branch d) [] e = nothing-fits i e
  choice-fits (choice.Branch d) (l ∷ []) e = nothing-fits i e
  choice-fits (choice.Branch d) (l ∷ k ∷ links) e = cc
  choice-fits (choice.Switch d w is) links e = cc

  outcome-fits : (o : Outcome) (links : Links) → ((z : _) → o ≡ outcome.Exits (code.Known z) → signed (modulo W64 z) ≡ z) → outcome_tail part_of None mine o links ≡ tail.Return (Known (value.Int i)) → Fits i
  outcome-fits (outcome.Goes x c) links h e = choice-fits c links e
  outcome-fits (outcome.Exits (code.Known z)) links h e = let s : modulo W64 z ≡ i = cc in subst Fits s (ap (modulo W64) (h z refl))
  outcome-fits (outcome.Exits (code.Dynamic d)) links h e = cc

module _ (m : Module) (nodes : List Node) (part_of : ℕ → ℕ) (i : IntValue) where
  rest-fits : (xs : List Node) (bs : List Bool) (n : Numbers) → CodesFit xs → (rest_from m nodes part_of None xs bs n).tail ≡ tail.Return (Known (value.Int i)) → Fits i
  rest-fits [] bs n h e = nothing-fits i e
  rest-fits (x ∷ []) bs n h e = outcome-fits part_of (after x n).mine i x.item x.links (λ z g. h 0 x z refl g) e
  rest-fits (x ∷ y ∷ xs) [] n h e = outcome-fits part_of (after x n).mine i x.item x.links (λ z g. h 0 x z refl g) e
  rest-fits (x ∷ y ∷ xs) (true ∷ bs) n h e = rest-fits (y ∷ xs) bs (next_numbers x true y n) (λ j w z s g. h (suc j) w z s g) e
  rest-fits (x ∷ y ∷ xs) (false ∷ bs) n h e = outcome-fits part_of (after x n).mine i x.item x.links (λ z g. h 0 x z refl g) e

-- ---- a made residue is lowered to itself

pub made-repeatable : (p : Program) (f : Function) (nodes : List Node) (limit : ℕ) → p.target ≡ Base → CodesFit nodes → Valid (residue_of p f nodes) Base → FitsProfile (residue_of p f nodes) Base → FitsLimit (residue_of p f nodes) limit → IsRepeatable (residue_of p f nodes) limit
made-repeatable p f nodes limit base fit ok profile limited = record {
  valid = ok;
  profile = profile;
  limited = limited;
  named = all-begin p.m.funcs;
  code = λ q i s e. first-fits q i (ap (λ t. slice_get (parts_of p.m (part_number (joins nodes)) (shared_exit t nodes) nodes (joins nodes)) 0) (sym base) ∙ s) e;
}
  where
    first-fits : (q : Part) (i : IntValue) → slice_get (parts_of p.m (part_number (joins nodes)) None nodes (joins nodes)) 0 ≡ Some q → q.tail ≡ tail.Return (Known (value.Int i)) → Fits i
    first-fits q i s e =
        let same = some-same s in
        rest-fits p.m nodes (part_number (joins nodes)) i nodes (joins nodes) no_numbers fit (ap (λ (q : Part). q.tail) same ∙ e)
