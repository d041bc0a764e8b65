-- What stands so far is the numbers so far.
use Rattle.std.specs.Prelude.{◌+◌, ◌*◌, ◌≤◌}
use Rattle.kit.specs.Names.{take}
use Rattle.digits.specs.Printed.{listed}
use Rattle.digits.specs.Page.{SamePage, Prints}
use Rattle.digits.proofs.put.put_list.Given as goal

abbrev pub invariant-loop-n : goal.invariant-loop-n
invariant-loop-n l =
    record {
      same_page : SamePage l.fn.page l.page;
      onward : l.fn.page.at ≤ l.page.at;
      enough : l.page.at ≤ l.fn.page.at + 21 * l.n-index;
      printed : Prints l.fn.page l.page (listed (take l.n-index l.numbers));
    }
