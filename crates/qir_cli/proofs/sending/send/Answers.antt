use Rattle.std.proofs.Common.{refl, subst, take, ◌<◌, length}
use Rattle.qir_ports.specs.Known.{Takes}
use Rattle.qir_cli.specs.code.Stops.{whole, in_part, nothing}
use Rattle.qir_cli.proofs.sending.send.Goals as goal

pub returns-in-Ok-write_all : goal.returns-in-Ok-write_all
returns-in-Ok-write_all g c =
    let before = g.K.Sink.taken c.args.out.now in
    let after = g.K.Sink.taken c.write_all.new.k in
    whole c.in-Ok.reply c.in-Ok.ensures (subst (λ t. Takes before t after) c.as_slice.ensures c.in-Ok-write_all.ensures.ok)

pub returns-in-Ok : goal.returns-in-Ok
returns-in-Ok g c =
    let before = g.K.Sink.taken c.args.out.now in
    let after = g.K.Sink.taken c.write_all.new.k in
    let stop = c.in-Err-write_all.field-0 in
    in_part c.in-Ok.reply c.in-Ok.ensures stop.written (subst (λ t. stop.written < length t) c.as_slice.ensures c.in-Err-write_all.ensures.not_all)
    (subst (λ t. Takes before (take stop.written t) after) c.as_slice.ensures c.in-Err-write_all.ensures.written) c.in-Err-write_all.ensures.failed

pub returns : goal.returns
returns g c = nothing refl
