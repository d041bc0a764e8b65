-- What is left of the calls leads to the same end.
use Rattle.std.proofs.Common.{◌*◌}
use Rattle.numbered.specs.Going.{SameGoing}
use Rattle.journal.specs.Record.{book_in, SameBook}
use Rattle.runs.specs.Served.{host_in}
use Rattle.record_list.proofs.ListLaws.{Writing}
use Rattle.record_list.proofs.list.record_on.Given as goal

abbrev pub invariant-loop-i : goal.invariant-loop-i
invariant-loop-i l =
    record {
      same_going : SameGoing l.initial.going l.going;
      same_book : SameBook l.initial.book l.book;
      writing : Writing (host_in l.initial.going.state.now l.initial.going.lent.now l.initial.answers) (book_in l.initial.book) l.going.head
          (host_in l.going.state.now l.going.lent.now l.answers) (book_in l.book)
          l.calls (4 * l.i) (l.i * 9);
    }
