-- Entries follow the answer of `actions`, and no other. Assumes nothing.
use Rattle.std.proofs.Common.{refl}
use Rattle.show.proofs.PieceLaws.{nothing, saying}
use Rattle.replies.proofs.ReplyLaws.{entries_follow, none_follow}
use Rattle.replies.proofs.written.put_onward.Goals as goal

pub returns-in_default : goal.returns-in_default
returns-in_default c = record {
  same_page = (refl, refl);
  said = saying (none_follow c.args.log.now c.args.call c.args.answer c.in_default.not-Actions) nothing;
}

pub returns-in-Actions-clause-said : goal.returns-in-Actions-clause-said
returns-in-Actions-clause-said c =
    saying (entries_follow c.args.log.now c.args.call c.args.answer c.in-Actions.field-0 c.in-Actions.is) c.entries_since.ensures.said
