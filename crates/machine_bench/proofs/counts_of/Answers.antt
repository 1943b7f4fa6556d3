use Rattle.std.proofs.Common.{sym, subst}
use Rattle.admission.specs.Admitted.{greatest_required}
use Rattle.qir_machine.specs.Runs.{HasMeaning}
use Rattle.machine_bench.proofs.counts_of.Goals as goal

pub run_on-requires : goal.run_on-requires
run_on-requires c =
    let h = c.module.ensures.admitted in
    subst HasMeaning (sym c.module.ensures.module) (record { numbered = h.numbered; limit = greatest_required; typed = h.typed })
