-- The rules that both profiles have, each as a test that is true where it is broken (QIR specification, 'Attributes' and
-- 'Module Flags Metadata').
use Rattle.std.specs.Prelude.{ℕ, ◌==◌, ◌&&◌, not, Bool, false, is_some, Option, List, option_and_then, codes}
use Rattle.std.specs.List.{find}
use Rattle.ir_values.specs.Calls.{same_text}
use Rattle.ir_module.specs.declared.places.Point.{Point}
use Rattle.ir_module.specs.declared.tree.Attr.{Attr}
use Rattle.ir_module.specs.declared.tree.Flag.{Flag}
use Rattle.ir_module.specs.declared.tree.FlagPart.TheVariants as part
use Rattle.ir_module.specs.declared.tree.FlagValue.{FlagValue}
use Rattle.ir_module.specs.declared.tree.FlagValue.TheVariants as flag
use Rattle.ir_module.specs.declared.tree.Function.{Function}
use Rattle.ir_module.specs.declared.tree.Module.{Module}
use Rattle.ir_module.specs.Entry.{attribute_of, has_attribute}
use Rattle.ir_module.specs.Steps.{Step}
use Rattle.profile_rules.specs.Calls.{passes, at_call, calls_class, is_init}

-- ---- attributes of the entry

-- the first attribute of the key has this text as its value
abbrev pub attribute_is : List ℕ → List ℕ → Function → Bool
attribute_is key text f = passes (option_and_then (λ (a : Attr). a.value) (attribute_of key f.attrs)) (λ t. same_text t text)

-- it doesn't name the profile
abbrev pub names_other_profile : List ℕ → Function → Bool
names_other_profile profile f = not (attribute_is (codes "qir_profiles") profile f)

-- it doesn't say how output is labelled
abbrev pub lacks_labeling_schema : Function → Bool
lacks_labeling_schema f = not (has_attribute (codes "output_labeling_schema") f.attrs)

-- it doesn't say how many qubits and results it needs
abbrev pub lacks_required_number : Function → Bool
lacks_required_number f =
    not (has_attribute (codes "required_num_qubits") f.attrs && has_attribute (codes "required_num_results") f.attrs)

-- ---- flags of the module

-- the first flag of a key
abbrev pub flag_of : List ℕ → List Flag → Option Flag
flag_of key flags = find (λ a. same_text a.key key) flags

abbrev pub value_is : ℕ → ℕ → FlagValue → Bool
value_is width bits (flag.One (part.Int w b)) = (w == width) && (b == bits)
value_is width bits (flag.One (part.Text t)) = false
value_is width bits (flag.List ps) = false

-- the first flag of the key has this behaviour and this integer of this width as its value
abbrev pub flag_is : List ℕ → ℕ → ℕ → ℕ → List Flag → Bool
flag_is key behaviour width bits flags = passes (flag_of key flags) (λ a. (a.behaviour == behaviour) && value_is width bits a.value)

-- one of the four flags of every profile is missing or differs: version 1.0, no dynamic qubits, no dynamic results
abbrev pub lacks_required_flag : List Flag → Bool
lacks_required_flag flags =
    not (flag_is (codes "qir_major_version") 1 32 1 flags
    && (flag_is (codes "qir_minor_version") 7 32 0 flags
    && (flag_is (codes "dynamic_qubit_management") 1 1 0 flags && flag_is (codes "dynamic_result_management") 1 1 0 flags)))

-- ---- functions and calls

-- another function than the entry, which has the number e, has a body
abbrev pub has_other_body : ℕ → ℕ → Function → Bool
has_other_body e g f = not (g == e) && is_some f.blocks

-- the first instruction of the entry stands here
abbrev pub is_first_of_entry : ℕ → Point → Bool
is_first_of_entry e p = (p.func.0 == e) && ((p.block.0 == 0) && (p.index == 0))

-- a call that initialises the runtime, and isn't the first instruction of the entry
abbrev pub initializes_late : Module → ℕ → Point → Step → Bool
initializes_late m e p s = at_call s (calls_class m is_init) && not (is_first_of_entry e p)

-- ---- where rules are looked at

-- a rule on functions that is for the entry alone
abbrev pub on_entry : ℕ → (Function → Bool) → ℕ → Function → Bool
on_entry e test g f = (g == e) && test f

-- a rule on steps that is for those of the entry alone
abbrev pub in_entry : ℕ → (Step → Bool) → Function → Point → Step → Bool
in_entry e test f p s = test s && (p.func.0 == e)
