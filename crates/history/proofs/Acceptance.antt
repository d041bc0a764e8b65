-- Beside `groups_after`: what a table answers DONE, too, depends on the surviving creations, joins and posts alone, where there is room.
use Rattle.std.specs.Prelude.{◌≡◌, ◌↔◌}
use Rattle.rules.specs.Rules.{Call, DONE, Table, step}
use Rattle.groups.specs.Groups.{Deed, replay, Accepts}
use Rattle.groups.specs.Track.{History}
use Rattle.groups.specs.Stands.{Stands}
use Rattle.groups.specs.Acceptance.{Asks, LogRoom, RowRoom}
use Rattle.groups.proofs.Acceptance.{accepted_done, done_accepted}
use Rattle.history.specs.Survival.{surviving}
use Rattle.history.proofs.SurvivalLaws.{surviving_is}

pub acceptance : (t : Table) (h : History) → Stands t h → {c : Call} {d : Deed} → Asks t.state.count c d → RowRoom t d → LogRoom t
    → ((step t c).answer.no ≡ DONE) ↔ Accepts (replay (surviving h)) d
acceptance t h S asks row log =
    rw (surviving_is h S.1.orderly) (done_accepted S.1 asks, λ ok. accepted_done S.1 asks ok row log)
