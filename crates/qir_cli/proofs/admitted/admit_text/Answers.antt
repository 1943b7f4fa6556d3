use Rattle.std.proofs.Common.{sym, subst}
use Rattle.std.specs.Prelude.{Err}
use Rattle.std.proofs.lemmas.Result.{err_from_is_err_and}
use Rattle.qir_cli.specs.Admission.{Admits}
use Rattle.qir_cli.specs.code.AdmittedCode.{AdmitsText, given_of}
use Rattle.qir_cli.specs.code.Stops.{Meets, stop_of}
use Rattle.qir_cli.specs.Reading.{Reads, ReadsAs}
use Rattle.qir_cli.proofs.Replying.{meets-first, meets-then, stopped-reads}
use Rattle.qir_cli.proofs.admitted.admit_text.Goals as goal

pub returns-in_err-parsed-clause-meets : goal.returns-in_err-parsed-clause-meets
returns-in_err-parsed-clause-meets c =
    let text = c.args.text.now in
    let e = c.in_err-parsed.field-0.0 in
    let p = err_from_is_err_and c.from_residual.result c.from_residual.ensures.1 in
    subst (λ r. Meets (AdmitsText text) (given_of r)) (sym p.1)
    (subst (λ s. Meets (AdmitsText text) (Err s)) (sym p.2) (meets-first (Reads text) Admits (stop_of e) (stopped-reads text e c.in_err-parsed.ensures.refused)))

pub returns-clause-meets : goal.returns-clause-meets
returns-clause-meets c =
    let text = c.args.text.now in
    let parsed = c.in_ok-parsed.parsed in
    let reads : ReadsAs text parsed = record { spells = c.in_ok-parsed.ensures.module; places = c.in_ok-parsed.ensures.places } in
    meets-then (Reads text) Admits parsed reads (given_of c.admit_module.result) c.admit_module.ensures
