-- All of a valid journal is left at its beginning.
use Rattle.entry_read.proofs.LeftLaws.{all_left, few_left}
use Rattle.entry_read.proofs.walk.Entries.new.Goals as goal

pub returns-clause-left : goal.returns-clause-left
returns-clause-left c = (all_left c.args.bytes.now c.requires).left

pub returns-clause-all : goal.returns-clause-all
returns-clause-all c = (all_left c.args.bytes.now c.requires).same

pub returns-clause-few : goal.returns-clause-few
returns-clause-few c = few_left c.args.bytes.now 0 (all_left c.args.bytes.now c.requires).left
