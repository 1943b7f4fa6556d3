use Rattle.std.proofs.Common.{◌==◌, ◌∙◌, cond, sym, ap}
use Rattle.std.specs.List.{list_any}
use Rattle.backend_api.specs.declared.operation.Arg.TheVariants as arg
use Rattle.backend_api.specs.declared.operation.QubitRef.TheVariants as qubit
use Rattle.ir_values.specs.declared.cause.Cause.TheVariants as cause
use Rattle.ir_values.specs.declared.ty.Ty.TheVariants as ty
use Rattle.machine_tables.proofs.arguments.qubit.Goals as goal
use Rattle.qir_meaning.specs.Effects.{argument}
use Rattle.qir_meaning.specs.State.{Halt, Trap}

pub returns-then-is_held : goal.returns-then-is_held
returns-then-is_held c st go h =
    ap (λ v. argument st ty.Qubit v go) c.in-Alloc.is
    ∙ ap (λ b. cond b (go (arg.Qubit (qubit.Alloc c.in-Alloc.n))) (Halt (Trap cause.Released) st)) (ap (list_any (λ i. i == c.in-Alloc.n)) h ∙ sym c.is_held.ensures ∙ c.if-is_held.true)

pub returns-else-is_held : goal.returns-else-is_held
returns-else-is_held c st go h =
    ap (λ v. argument st ty.Qubit v go) c.in-Alloc.is
    ∙ ap (λ b. cond b (go (arg.Qubit (qubit.Alloc c.in-Alloc.n))) (Halt (Trap cause.Released) st)) (ap (list_any (λ i. i == c.in-Alloc.n)) h ∙ sym c.is_held.ensures ∙ c.if-is_held.false)
