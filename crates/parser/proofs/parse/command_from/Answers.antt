-- A number more, or what stands in its place. Assumes nothing.
use Rattle.kit.specs.Names.{refl, sym, ◌∙◌, length-set, arith}
use Rattle.parser.proofs.CommandLaws.{done, no_number, none_read, one_more, too_few, too_many}
use Rattle.parser.proofs.parse.command_from.Goals as goal

pub loop-count-init : goal.loop-count-init
loop-count-init c = record { shorts = refl; longs = refl; reading = none_read _ _ _ refl }

pub returns-in_err-next : goal.returns-in_err-next
returns-in_err-next c =
    let within = rw c.widths-width-items.ensures.value at c.loop-count-test.true in
    rw c.from_residual.ensures (too_few c.args.form c.loop-count.invariant.reading within c.in_err-next.ensures.steps.0)

pub returns-in_err-value : goal.returns-in_err-value
returns-in_err-value c =
    let within = rw c.widths-width-items.ensures.value at c.loop-count-test.true in
    let most = rw c.widths-width-items.ensures.value at c.limit.ensures.value in
    rw c.from_residual-in_err-value.ensures
    (no_number c.args.form c.loop-count.invariant.reading within c.in_ok-next.ensures.steps most (sym c.in_err-value.was ∙ c.read.ensures))

pub loop-count-preserved : goal.loop-count-preserved
loop-count-preserved c =
    let within = rw c.widths-width-items.ensures.value at c.loop-count-test.true in
    let most = rw c.widths-width-items.ensures.value at c.limit.ensures.value in
    let now = c.loop-count.invariant in
    record {
      shorts = simp length-set now.shorts;
      longs = simp length-set now.longs;
      reading = one_more c.args.form now.reading within c.in_ok-next.ensures.steps most (sym c.in_ok-value.was ∙ c.read.ensures) (omega arith) (omega arith);
    }

pub returns-in-Some : goal.returns-in-Some
returns-in-Some c =
    let past = rw c.widths-width-items.ensures.value at c.loop-count-test.false in
    too_many c.args.form c.loop-count.invariant.reading past c.in-Some.ensures.steps

pub returns-in-None : goal.returns-in-None
returns-in-None c =
    let past = rw c.widths-width-items.ensures.value at c.loop-count-test.false in
    c.make.ensures ∙ done c.args.form c.loop-count.invariant.reading past c.in-None.ensures.steps.0
