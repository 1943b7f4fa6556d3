-- The line of a refusal: the stage that refuses, the code of the fault, its line and column, and its name.
use Rattle.std.specs.Prelude.{ℕ, List, ◌++◌, codes, decimal}
use Rattle.ir_module.specs.declared.places.Place.{Place}
use Rattle.ir_reader.specs.Codes as read
use Rattle.kept_items.specs.declared.target.Kind.{Kind}
use Rattle.kept_items.specs.declared.target.Kind.TheVariants as kind
use Rattle.output_lines.specs.RecordLines.{cause_name}
use Rattle.type_check.specs.Codes as rule
use Rattle.type_check.specs.Faults.{number}
use Rattle.qir_cli.specs.declared.refusal.Fault.{Fault}
use Rattle.qir_cli.specs.declared.refusal.Fault.TheVariants.{TooLong, Read, Rule, Lower}
use Rattle.qir_cli.specs.declared.refusal.Refusal.{Refusal}

abbrev pub stage_of : Fault → List ℕ
stage_of TooLong = codes "input"
stage_of (Read code) = codes "read"
stage_of (Rule code) = codes "type"
stage_of (Lower kind) = codes "lower"

-- the codes and the names of the reasons against lowering
abbrev pub kind_code : Kind → List ℕ
kind_code kind.Handle = codes "U1"
kind_code kind.Target = codes "U2"
kind_code kind.Loop = codes "U3"
kind_code kind.Budget = codes "U4"
kind_code kind.Token = codes "U5"
kind_code kind.Forbidden = codes "F1"
kind_code kind.Phase = codes "F2"
kind_code kind.Capability = codes "F3"
kind_code (kind.Traps cause) = codes "F4"

abbrev pub kind_name : Kind → List ℕ
kind_name kind.Handle = codes "Handle"
kind_name kind.Target = codes "Target"
kind_name kind.Loop = codes "Loop"
kind_name kind.Budget = codes "Budget"
kind_name kind.Token = codes "Token"
kind_name kind.Forbidden = codes "Forbidden"
kind_name kind.Phase = codes "Phase"
kind_name kind.Capability = codes "Capability"
kind_name (kind.Traps cause) = cause_name cause

abbrev pub code_of : Fault → List ℕ
code_of TooLong = codes "1"
code_of (Read code) = decimal (read.number_of code)
code_of (Rule code) = decimal (number code)
code_of (Lower kind) = kind_code kind

abbrev pub name_of : Fault → List ℕ
name_of TooLong = codes "TooLong"
name_of (Read code) = read.name_of code
name_of (Rule code) = rule.name_of code
name_of (Lower kind) = kind_name kind

-- the parts stand with a tab between, and a line feed ends the line
abbrev pub refusal_line : Refusal → List ℕ
refusal_line why =
    codes "REFUSED\t" ++ stage_of why.fault
    ++ codes "\t" ++ code_of why.fault
    ++ codes "\t" ++ decimal why.place.line
    ++ codes "\t" ++ decimal why.place.column
    ++ codes "\t" ++ name_of why.fault
    ++ codes "\n"

-- the place of a fault of the text as a whole
abbrev pub start : Place
start = record { line = 1; column = 1 }

abbrev pub at_start : Fault → Refusal
at_start fault = record { fault = fault; place = start }
