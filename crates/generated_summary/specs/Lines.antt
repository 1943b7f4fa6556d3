-- The lines of a summary.
use Rattle.std.specs.Prelude.{◌≡◌, ℕ, Bool, List, ◌++◌, codes, decimal}
use Rattle.output_lines.specs.Fields.{word}
use Rattle.generated_summary.specs.declared.summary.Summary.{Summary}
use Rattle.generated_summary.specs.Summaries.{IsSummary}
use Rattle.ir_module.specs.declared.tree.Module.{Module}

-- a line with a number in its one field
abbrev pub number_line : List ℕ → ℕ → List ℕ
number_line name n = name ++ decimal n ++ codes "\n"

abbrev pub same_line : Bool → List ℕ
same_line same = codes "SAME\t" ++ word same ++ codes "\n"

-- the lines of the summary of the program that makes so many turns
unfoldable pub summary_text : ℕ → Summary → List ℕ
summary_text turns s =
    number_line (codes "GEN\t") turns
    ++ number_line (codes "CONFIGURATIONS\t") s.configurations
    ++ number_line (codes "STEPS\t") s.steps
    ++ number_line (codes "EVENTS\t") s.events
    ++ number_line (codes "RECORDS\t") s.records
    ++ number_line (codes "BYTES\t") s.bytes
    ++ same_line s.same

-- the text has the lines of the module's summary
pub record TellsSummary (turns : ℕ) (m : Module) (text : List ℕ) : Type 0 where
  pub summary : Summary
  pub is_summary : IsSummary m summary
  pub text_is : text ≡ summary_text turns summary
