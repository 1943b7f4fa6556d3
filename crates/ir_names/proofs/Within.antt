-- What the tables of a function say is what its tree says.
use Rattle.std.proofs.Common.{◌≡◌, ℕ, List, map, subst, Result}
use Rattle.ir_grammar.specs.declared.tree.FunctionSyntax.{FunctionSyntax}
use Rattle.ir_module.specs.declared.tree.Function.{Function}
use Rattle.ir_values.specs.declared.ty.Ty.{Ty}
use Rattle.ir_values.specs.declared.name.Name.{Name}
use Rattle.ir_names.specs.Functions.{behind_params, within, locals_of, body_labels, inner_faults, inner_of, function_faults, function_of}
use Rattle.ir_names.specs.Sense.{Sense}
use Rattle.ir_names.specs.code.Answers.{Gives}
use Rattle.ir_names.specs.code.Names.{same_name}
use Rattle.ir_names.specs.code.Tables.{Numbers, number_in}
use Rattle.ir_names.specs.declared.fault.Stop.{Stop}
use Rattle.ir_names.specs.declared.numbers.Numbers.{Numbers as Table}

-- tables that hold the names
abbrev told : Sense → Table Name → Table Name → Sense
told g values labels = record g { value = number_in same_name values; label = number_in same_name labels }

pub same_sense : (g : Sense) (values labels : Table Name) (locals : List (Name × Ty)) (names : List Name) → Numbers same_name values (map (λ x. x.0) locals) → Numbers same_name labels names
    → told g values labels ≡ within g locals names
same_sense g values labels locals names h k = λ j. record g { value = λ n. h.1 n j; label = λ n. k.1 n j }

pub whole : (s g : Sense) (f : FunctionSyntax) (locals : List (Name × Ty)) (unnamed : ℕ) (result : Result Function Stop)
    → locals ≡ locals_of g.name f → unnamed ≡ behind_params 0 f.params → s ≡ within g locals (body_labels g.name unnamed f.blocks)
    → Gives (inner_faults s f) (inner_of s locals f) result → Gives (function_faults g f) (function_of g f) result
whole s g f locals unnamed result a b e h =
    let one = subst (λ t. Gives (inner_faults t f) (inner_of t locals f) result) e h in
    let two = subst (λ u. let t = within g locals (body_labels g.name u f.blocks) in Gives (inner_faults t f) (inner_of t locals f) result) b one in
    subst (λ ls. let t = within g ls (body_labels g.name (behind_params 0 f.params) f.blocks) in Gives (inner_faults t f) (inner_of t ls f) result) a two
