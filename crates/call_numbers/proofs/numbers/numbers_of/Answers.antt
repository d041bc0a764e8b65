-- Each call's numbers are within its code's limits.
use Rattle.std.proofs.Common.{arith, refl}
use Rattle.coding.specs.Coding.{SHORT, LONG}
use Rattle.call_numbers.proofs.ToldLaws.{tells}
use Rattle.call_numbers.proofs.numbers.numbers_of.Goals as goal

pub returns-in-New : goal.returns-in-New
returns-in-New c = tells 0 _ _ _ (SHORT, LONG, 0) _ (omega arith) refl _ c.in-New.is (omega arith) (omega arith) (omega arith)

pub returns-in-Len : goal.returns-in-Len
returns-in-Len c = tells 1 0 0 0 (0, 0, 0) _ (omega arith) refl _ c.in-Len.is (omega arith) (omega arith) (omega arith)

pub returns-in-Find : goal.returns-in-Find
returns-in-Find c = tells 2 _ _ _ (SHORT, 0, 0) _ (omega arith) refl _ c.in-Find.is (omega arith) (omega arith) (omega arith)

pub returns-in-Unioned : goal.returns-in-Unioned
returns-in-Unioned c = tells 3 _ _ _ (SHORT, SHORT, 0) _ (omega arith) refl _ c.in-Unioned.is (omega arith) (omega arith) (omega arith)

pub returns-in-Join : goal.returns-in-Join
returns-in-Join c = tells 4 _ _ _ (SHORT, SHORT, 0) _ (omega arith) refl _ c.in-Join.is (omega arith) (omega arith) (omega arith)

pub returns-in-Post : goal.returns-in-Post
returns-in-Post c = tells 5 _ _ _ (SHORT, SHORT, LONG) _ (omega arith) refl _ c.in-Post.is (omega arith) (omega arith) (omega arith)

pub returns-in-Probe : goal.returns-in-Probe
returns-in-Probe c = tells 6 _ _ _ (SHORT, 0, 0) _ (omega arith) refl _ c.in-Probe.is (omega arith) (omega arith) (omega arith)

pub returns-in-ProbeKey : goal.returns-in-ProbeKey
returns-in-ProbeKey c = tells 7 _ _ _ (SHORT, 0, 0) _ (omega arith) refl _ c.in-ProbeKey.is (omega arith) (omega arith) (omega arith)

pub returns-in-TryProbe : goal.returns-in-TryProbe
returns-in-TryProbe c = tells 8 _ _ _ (SHORT, 0, 0) _ (omega arith) refl _ c.in-TryProbe.is (omega arith) (omega arith) (omega arith)

pub returns-in-Snapshot : goal.returns-in-Snapshot
returns-in-Snapshot c = tells 9 0 0 0 (0, 0, 0) _ (omega arith) refl _ c.in-Snapshot.is (omega arith) (omega arith) (omega arith)

pub returns-in-Rollback : goal.returns-in-Rollback
returns-in-Rollback c = tells 10 _ _ _ (LONG, 0, 0) _ (omega arith) refl _ c.in-Rollback.is (omega arith) (omega arith) (omega arith)

pub returns-in-Commit : goal.returns-in-Commit
returns-in-Commit c = tells 11 _ _ _ (LONG, 0, 0) _ (omega arith) refl _ c.in-Commit.is (omega arith) (omega arith) (omega arith)

pub returns-in-Keys : goal.returns-in-Keys
returns-in-Keys c = tells 12 _ _ _ (LONG, 0, 0) _ (omega arith) refl _ c.in-Keys.is (omega arith) (omega arith) (omega arith)

pub returns-in-Actions : goal.returns-in-Actions
returns-in-Actions c = tells 13 _ _ _ (LONG, 0, 0) _ (omega arith) refl _ c.in-Actions.is (omega arith) (omega arith) (omega arith)

pub returns-in-Changes : goal.returns-in-Changes
returns-in-Changes c = tells 14 _ _ _ (LONG, 0, 0) _ (omega arith) refl _ c.in-Changes.is (omega arith) (omega arith) (omega arith)
