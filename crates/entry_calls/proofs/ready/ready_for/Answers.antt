-- Entry by entry. All but a rollback and a commit are about no mark.
use Rattle.std.specs.Prelude.{◌≡◌, None}
use Rattle.kit.specs.Names.{refl, ap}
use Rattle.rules.specs.Rules.{Call, State}
use Rattle.rules.specs.declared.call.Call.TheVariants.{New, Len, Join, Post, Snapshot}
use Rattle.undo_log.specs.Settled.{mark_of, mark_for}
use Rattle.layout.specs.Lent.{state_under}
use Rattle.layout.proofs.LayoutLaws.{no_mark}
use Rattle.entry_calls.specs.Ready.{ready}
use Rattle.entry_calls.proofs.ready.ready_for.Goals as goal

without_mark : (s : State) (c : Call) → None ≡ mark_of s c → ready c None ≡ ready c (mark_for s c)
without_mark s c q = ap (ready c) (no_mark s c q)

pub returns-in-EntryNew : goal.returns-in-EntryNew
returns-in-EntryNew c =
    let s = state_under c.args.head c.args.state.now in
    rw (c.markless.ensures, c.in-EntryNew.is) (without_mark s (New c.in-EntryNew.owner c.in-EntryNew.amount) refl)

pub returns-in-EntryPost : goal.returns-in-EntryPost
returns-in-EntryPost c =
    let s = state_under c.args.head c.args.state.now in
    rw (c.markless-in-EntryPost.ensures, c.in-EntryPost.is)
    (without_mark s (Post c.in-EntryPost.key c.in-EntryPost.owner c.in-EntryPost.amount) refl)

pub returns-in-EntryJoin : goal.returns-in-EntryJoin
returns-in-EntryJoin c =
    let s = state_under c.args.head c.args.state.now in
    rw (c.markless-in-EntryJoin.ensures, c.in-EntryJoin.is) (without_mark s (Join c.in-EntryJoin.a c.in-EntryJoin.b) refl)

pub returns-in-EntrySnapshot : goal.returns-in-EntrySnapshot
returns-in-EntrySnapshot c =
    let s = state_under c.args.head c.args.state.now in
    rw (c.markless-in-EntrySnapshot.ensures, c.in-EntrySnapshot.is) (without_mark s Snapshot refl)

pub returns-in-NoEntry : goal.returns-in-NoEntry
returns-in-NoEntry c =
    let s = state_under c.args.head c.args.state.now in
    rw (c.markless-in-NoEntry.ensures, c.in-NoEntry.is) (without_mark s Len refl)
