-- One number more stands there. Assumes nothing.
use Rattle.std.proofs.Common.{refl}
use Rattle.kit.specs.Names.{arith}
use Rattle.digits.proofs.PrintLaws.{listed_more, nothing_printed, saying, then}
use Rattle.digits.proofs.put.put_list.Goals as goal

pub loop-n-init : goal.loop-n-init
loop-n-init c = record {
  same_page = (refl, refl);
  onward = omega arith;
  enough = omega arith;
  printed = nothing_printed c.args.page.now.bytes.now c.args.page.now.at (omega arith);
}

pub loop-n-preserved : goal.loop-n-preserved
loop-n-preserved c =
    let more = listed_more c.args.numbers.now c.loop-n.n-index (omega arith) in
    record {
      same_page = (cc, cc);
      onward = omega arith;
      enough = omega arith;
      printed = saying more (then c.loop-n.invariant.printed c.put_next.ensures.printed);
    }
