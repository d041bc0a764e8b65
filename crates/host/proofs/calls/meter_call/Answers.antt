-- A list of four numbers is that of a single call.
use Rattle.std.proofs.Common.{◌∙◌, ℕ, arith}
use Rattle.runs.specs.Served.{host_lent}
use Rattle.host.proofs.HostLaws.{no_single}
use Rattle.host.proofs.calls.meter_call.Goals as goal

pub returns : goal.returns
returns c =
    let a = c.args in
    let first = host_lent a.numbers.now a.serials.now a.parents.now a.crowns.now a.amounts.now a.log.now a.answer.now in
    no_single first a.call.now c.code.result (omega arith) (λ (n : ℕ). c.code.ensures ∙ c.no_call.ensures n)
