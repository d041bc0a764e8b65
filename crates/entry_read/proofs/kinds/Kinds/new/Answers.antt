-- All of a valid journal is left at its beginning.
use Rattle.kit.specs.Names.{ap, map}
use Rattle.entry_read.specs.Left.{entry_kind}
use Rattle.entry_read.proofs.LeftLaws.{all_left}
use Rattle.entry_read.proofs.kinds.Kinds.new.Goals as goal

pub returns-clause-left : goal.returns-clause-left
returns-clause-left c = (all_left c.args.bytes.now c.requires).left

pub returns-clause-all : goal.returns-clause-all
returns-clause-all c = ap (map entry_kind) (all_left c.args.bytes.now c.requires).same
