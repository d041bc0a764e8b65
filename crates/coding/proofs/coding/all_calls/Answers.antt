use Rattle.std.proofs.Common.{◌∙◌, arith}
use Rattle.coding.proofs.CodingLaws.{all_listed}
use Rattle.coding.proofs.coding.all_calls.Goals as goal

pub returns-then-comes_out_even : goal.returns-then-comes_out_even
returns-then-comes_out_even c =
    c.are_calls.ensures
    ∙ all_listed c.args.calls.now _ c.as_chunks.ensures.front
    (grind (arith, c.as_chunks.ensures.back_len, c.comes_out_even.ensures, c.if-comes_out_even.true))
