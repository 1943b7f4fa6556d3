-- The rules of the Base Profile, each as a test that is true where it is broken (QIR specification, 'Base Profile'). The
-- strict form has blocks for kinds of calls; the chain form has any number of blocks.
use Rattle.std.specs.Prelude.{ℕ, zero, suc, ◌==◌, ◌&&◌, ◌||◌, not, Bool, true, false, Option, None, Some, [], ◌∷◌, length, slice_get, codes}
use Rattle.std.specs.List.{list_any}
use Rattle.ir_values.specs.declared.class.Class.{Class}
use Rattle.ir_values.specs.declared.class.Class.TheVariants as class
use Rattle.ir_values.specs.declared.int.Width.TheVariants.{W64}
use Rattle.ir_values.specs.declared.ty.Ty.{Ty}
use Rattle.ir_values.specs.declared.ty.Ty.TheVariants as ty
use Rattle.ir_module.specs.declared.places.Point.{Point}
use Rattle.ir_module.specs.declared.places.Spot.{Spot}
use Rattle.ir_module.specs.declared.tree.Callee.{Callee}
use Rattle.ir_module.specs.declared.tree.Callee.TheVariants as callee
use Rattle.ir_module.specs.declared.tree.Function.{Function}
use Rattle.ir_module.specs.declared.tree.InstKind.{InstKind}
use Rattle.ir_module.specs.declared.tree.InstKind.TheVariants as kind
use Rattle.ir_module.specs.declared.tree.Module.{Module}
use Rattle.ir_module.specs.declared.tree.Term.TheVariants as term
use Rattle.ir_module.specs.Steps.{Step, PhiAt, InstAt, TermAt, NoStep, steps_of}
use Rattle.ir_module.specs.Tree.{blocks_of}
use Rattle.profile_rules.specs.declared.finding.Form.{Form}
use Rattle.profile_rules.specs.declared.finding.Form.TheVariants as form
use Rattle.profile_rules.specs.Calls.{Call, passes, at_call, calls_class, calls_irreversible, declared_class, is_constant, is_gate, is_init, is_irreversible, is_measure, is_record}
use Rattle.profile_rules.specs.Findings.{Rules, Breaks}
use Rattle.profile_rules.specs.Shared.{names_other_profile, lacks_labeling_schema, lacks_required_number, lacks_required_flag, has_other_body, initializes_late, on_entry, in_entry}
use Rattle.profile_rules.specs.Walk.{walk_position, is_chain}

abbrev pub is_strict : Form → Bool
is_strict form.Strict = true
is_strict form.Chain = false

-- ---- the entry as a whole

-- its blocks aren't one chain that ends in a return, of four blocks in the strict form
abbrev pub has_other_blocks : Form → Function → Bool
has_other_blocks form.Strict f = not ((length (blocks_of f) == 4) && is_chain (blocks_of f))
has_other_blocks form.Chain f = not (is_chain (blocks_of f))

abbrev pub is_code : Ty → Bool
is_code (ty.Int W64) = true
is_code t = false

-- it doesn't return a code of 64 bits
abbrev pub returns_no_code : Function → Bool
returns_no_code f = not (is_code f.ret)

-- ---- the steps of the entry

-- a block that ends neither in an unconditional branch nor in a return
abbrev pub branches_on_value : Step → Bool
branches_on_value (TermAt (term.CondBr c on_true on_false)) = true
branches_on_value (TermAt (term.Switch t a default cases)) = true
branches_on_value s = false

abbrev pub is_no_call : InstKind → Bool
is_no_call (kind.Call ret g args) = false
is_no_call k = true

-- a phi, or an instruction that is neither a call nor a terminator
abbrev pub computes : Step → Bool
computes (PhiAt phi) = true
computes (InstAt i) = is_no_call i.what
computes (TermAt t) = false
computes NoStep = false

-- ---- calls

abbrev pub is_base_class : Class → Bool
is_base_class class.Init = true
is_base_class class.Gate = true
is_base_class class.Measure = true
is_base_class class.Tuple = true
is_base_class class.Array = true
is_base_class class.ResRecord = true
is_base_class c = false

-- a call of anything but a declared function of the profile
abbrev pub calls_other_function : Module → Step → Bool
calls_other_function m s = at_call s (λ c. not (calls_class m is_base_class c))

-- a call with an argument that is no constant
abbrev pub passes_computed_argument : Step → Bool
passes_computed_argument s = at_call s (λ c. list_any (λ a. not (is_constant a.1)) c.args)

-- ---- the order of calls

-- what a call in the block at a position of the walk may be: in the first an initialisation, in the second a gate that
-- can be undone, in the third a measurement or a gate that can't, in all later ones a record
abbrev pub fits_position : Module → ℕ → Call → Bool
fits_position m zero c = true
fits_position m (suc zero) c = calls_class m is_init c
fits_position m (suc (suc zero)) c = calls_class m is_gate c && not (calls_irreversible m c)
fits_position m (suc (suc (suc zero))) c = (calls_class m is_gate c && calls_irreversible m c) || calls_class m is_measure c
fits_position m (suc (suc (suc (suc n)))) c = calls_class m is_record c

-- a call in a block of the entry's walk that is for other calls
abbrev pub calls_out_of_order : Module → Function → Point → Step → Bool
calls_out_of_order m f p s = at_call s (λ c. not (fits_position m (walk_position f p.block.0) c))

-- ---- declarations

abbrev pub calls_number : ℕ → Callee → Bool
calls_number g (callee.Func h) = h.0 == g
calls_number g (callee.Local x) = false

-- a function calls the function of this number by its name
abbrev pub calls_function : Function → ℕ → Bool
calls_function f g = list_any (λ s. at_call s (λ c. calls_number g c.callee)) (steps_of f)

-- a measurement that the entry calls, and that isn't declared irreversible
abbrev pub is_unmarked_measurement : Function → ℕ → Function → Bool
is_unmarked_measurement entry g f =
    (passes (declared_class f) is_measure && not (is_irreversible f)) && calls_function entry g

-- ---- all rules

-- the rules of a module whose entry has the number e and is this function
abbrev pub base_rules : Form → Module → ℕ → Function → Rules
base_rules shape m e entry = record {
  on_module = (4, lacks_required_flag m.flags) ∷ [];
  on_function =
      (1, on_entry e (names_other_profile (codes "base_profile")))
      ∷ (2, on_entry e lacks_labeling_schema)
      ∷ (3, on_entry e lacks_required_number)
      ∷ (5, has_other_body e)
      ∷ (7, on_entry e (has_other_blocks shape))
      ∷ (8, λ g f. is_strict shape && on_entry e returns_no_code g f)
      ∷ (13, λ g f. is_strict shape && is_unmarked_measurement entry g f)
      ∷ [];
  on_step =
      (6, in_entry e branches_on_value)
      ∷ (9, in_entry e computes)
      ∷ (10, λ f p s. calls_other_function m s)
      ∷ (11, λ f p s. passes_computed_argument s)
      ∷ (12, λ f p s. calls_out_of_order m f p s && ((p.func.0 == e) && is_strict shape))
      ∷ (14, λ f p s. initializes_late m e p s)
      ∷ [];
}

abbrev pub violates_base_of : Option Function → Form → Module → ℕ → Spot → ℕ → Type 0
violates_base_of None shape m e s r = ⊥
violates_base_of (Some entry) shape m e s r = Breaks (base_rules shape m e entry) m s r

-- the module, whose entry has the number e, breaks the rule of this number at the spot
abbrev pub ViolatesBase : Form → Module → ℕ → Spot → ℕ → Type 0
ViolatesBase shape m e s r = violates_base_of (slice_get m.funcs e) shape m e s r
