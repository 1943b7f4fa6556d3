-- The words of commands.
use Rattle.std.specs.Prelude.{ℕ, ◌≤◌, ◌&&◌, nat_le, if◌then◌else◌, Option, None, Some, List, [], ◌∷◌, map, codes, ⊤}
use Rattle.std.specs.declared.string.String.{String}
use Rattle.std.specs.String.{string_bytes}
use Rattle.std.specs.Option.{option_map}
use Rattle.capability_words.specs.Words.{caps_of}
use Rattle.check_command.specs.declared.profile.Profile.TheVariants as profile
use Rattle.ir_values.specs.Calls.{same_text}
use Rattle.ir_values.specs.Decimals.{decimal_value}
use Rattle.kept_items.specs.declared.target.Caps.{Caps}
use Rattle.kept_items.specs.declared.target.Target.TheVariants as target
use Rattle.profile_rules.specs.declared.finding.Form.{Form}
use Rattle.output_lines.specs.declared.last.Schema.{Schema}
use Rattle.profile_rules.specs.declared.finding.Form.TheVariants.{Strict, Chain}
use Rattle.qir_cli.specs.declared.command.Command.{Command}
use Rattle.qir_cli.specs.declared.command.Command.TheVariants.{Print, Check, Lower, Run, Trace, Gen}
use Rattle.run_commands.specs.Words.{schema_word, script_word, scripts_word}
use Rattle.shots.specs.declared.backend.Backend.{Backend}
use Rattle.shots.specs.declared.backend.Backend.TheVariants.{Bits}

-- the bytes of the words
abbrev pub texts_of : {Z : Type 0} → List (String Z) → List (List ℕ)
texts_of words = map string_bytes words

abbrev pub in_limits : ℕ → ℕ → Option ℕ → Option ℕ
in_limits least most None = None
in_limits least most (Some n) = if nat_le least n && nat_le n most then Some n else None

-- a number in these limits, in plain decimal digits
abbrev pub number_word : ℕ → ℕ → List ℕ → Option ℕ
number_word least most word = in_limits least most (decimal_value word)

-- a form of the Base Profile
abbrev pub form_word : List ℕ → Option Form
form_word word =
    if same_text word (codes "strict") then Some Strict else (if same_text word (codes "chain") then Some Chain else None)

-- the most configurations of a lowering
abbrev pub greatest_budget : ℕ
greatest_budget = 1000000

abbrev pub budget_word : List ℕ → Option ℕ
budget_word word = number_word 1 greatest_budget word

-- the commands, from the words behind the first
abbrev pub print_of : List (List ℕ) → Option Command
print_of [] = Some Print
print_of (word ∷ words) = None

abbrev pub check_of : List (List ℕ) → Option Command
check_of [] = None
check_of (name ∷ []) = if same_text name (codes "adaptive") then Some (Check profile.Adaptive) else None
check_of (name ∷ form ∷ []) =
    if same_text name (codes "base") then option_map (λ f. Check (profile.Base f)) (form_word form) else None
check_of (name ∷ form ∷ word ∷ words) = None

abbrev pub lower_adaptive : List ℕ → Option Caps → Option Command
lower_adaptive budget None = None
lower_adaptive budget (Some caps) = option_map (Lower (target.Adaptive caps)) (budget_word budget)

abbrev pub lower_of : List (List ℕ) → Option Command
lower_of [] = None
lower_of (name ∷ []) = None
lower_of (name ∷ budget ∷ []) = if same_text name (codes "base") then option_map (Lower target.Base) (budget_word budget) else None
lower_of (name ∷ budget ∷ caps ∷ []) = if same_text name (codes "adaptive") then lower_adaptive budget (caps_of caps) else None
lower_of (name ∷ budget ∷ caps ∷ word ∷ words) = None

-- the most steps of a shot
abbrev pub greatest_steps : ℕ
greatest_steps = 1000000

abbrev pub steps_word : List ℕ → Option ℕ
steps_word word = number_word 1 greatest_steps word

abbrev pub run_with : Option Schema → Option ℕ → Option (List Backend) → Option Command
run_with None steps backends = None
run_with (Some schema) None backends = None
run_with (Some schema) (Some steps) backends = option_map (Run schema steps) backends

abbrev pub run_of : List (List ℕ) → Option Command
run_of [] = None
run_of (name ∷ []) = None
run_of (name ∷ schema ∷ []) = None
run_of (name ∷ schema ∷ steps ∷ []) =
    if same_text name (codes "bits") then run_with (schema_word schema) (steps_word steps) (Some (Bits ∷ [])) else None
run_of (name ∷ schema ∷ steps ∷ outcomes ∷ []) =
    if same_text name (codes "script") then run_with (schema_word schema) (steps_word steps) (scripts_word outcomes) else None
run_of (name ∷ schema ∷ steps ∷ outcomes ∷ word ∷ words) = None

abbrev pub trace_with : Option ℕ → Option Backend → Option Command
trace_with None backend = None
trace_with (Some steps) backend = option_map (Trace steps) backend

abbrev pub trace_of : List (List ℕ) → Option Command
trace_of [] = None
trace_of (name ∷ []) = None
trace_of (name ∷ steps ∷ []) = if same_text name (codes "bits") then trace_with (steps_word steps) (Some Bits) else None
trace_of (name ∷ steps ∷ outcome ∷ []) =
    if same_text name (codes "script") then trace_with (steps_word steps) (script_word outcome) else None
trace_of (name ∷ steps ∷ outcome ∷ word ∷ words) = None

-- the most turns of a generated program
abbrev pub greatest_turns : ℕ
greatest_turns = 10000

abbrev pub turns_word : List ℕ → Option ℕ
turns_word word = number_word 0 greatest_turns word

abbrev pub gen_of : List (List ℕ) → Option Command
gen_of [] = None
gen_of (turns ∷ []) = option_map Gen (turns_word turns)
gen_of (turns ∷ word ∷ words) = None

-- the command that words are, compared exactly
abbrev pub command_of : List (List ℕ) → Option Command
command_of [] = None
command_of (name ∷ words) =
    if same_text name (codes "print") then print_of words
    else (if same_text name (codes "check") then check_of words
    else (if same_text name (codes "lower") then lower_of words
    else (if same_text name (codes "run") then run_of words
    else (if same_text name (codes "trace") then trace_of words
    else (if same_text name (codes "gen") then gen_of words else None)))))

-- the turns of the program that a command generates; every other command reads its input
abbrev pub turns_of : Command → Option ℕ
turns_of Print = None
turns_of (Check profile) = None
turns_of (Lower target budget) = None
turns_of (Run schema steps backends) = None
turns_of (Trace steps backend) = None
turns_of (Gen turns) = Some turns

-- the budget of a command is within its limit, as that of words is
abbrev pub IsLimited : Command → Type 0
IsLimited Print = ⊤
IsLimited (Check profile) = ⊤
IsLimited (Lower target budget) = budget ≤ greatest_budget
IsLimited (Run schema steps backends) = ⊤
IsLimited (Trace steps backend) = ⊤
IsLimited (Gen turns) = ⊤
