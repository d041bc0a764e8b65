-- The outcome of an exported replay, over all the lists that the host lends.
use Rattle.kit.specs.Names.{not, length, eqb}
use Rattle.layout.specs.State.{state_numbers, state_serials}
use Rattle.journal.specs.Entry.{Bytes}
use Rattle.journal.specs.Replay.{replay_bytes}
use Rattle.admit.specs.Admit.{CARRIED-OUT, NO-STATE, NO-ANSWERS}
use Rattle.results.specs.Results.{RESULT, result_numbers}
use Rattle.runs.specs.Served.{Host, host, table_of}
use Rattle.host.specs.Host.{Hosted, hosted, refuse_host, stateless}

-- A journal replayed: what it leaves of the table, its number, and the place of the entry at which it stopped or how many there were.
abbrev pub replay_served : Host → Bytes → Host
replay_served h bs =
    let r = replay_bytes bs (table_of h) in
    let s = r.table.state in
    host (state_numbers s) (state_serials s) r.table.rows r.table.log (result_numbers r.no r.entry)

-- "Tested in this order": a state's numbers, room for the result.
unfoldable pub serve_replay : Host → Bytes → Hosted
serve_replay h bs =
    refuse_host (stateless h) NO-STATE h
    (refuse_host (not (eqb (length h.answers) RESULT)) NO-ANSWERS h (hosted CARRIED-OUT (replay_served h bs)))
