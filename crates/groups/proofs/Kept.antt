-- What it is that a call keeps; and what every call does that moves nothing but rows and log.
use Rattle.std.specs.Prelude.{◌≡◌, ◌∷◌, ◌++◌, ◌≤◌}
use Rattle.kit.specs.Names.{refl, false, List, ℕ, length, eqb}
use Rattle.rules.specs.Rules.{Call, Answer, DONE, BROKEN-TABLE, BAD-STATE, MAX-OPEN, Rows, Log, Table, table, mark_at, head, with_head, WideRows, refusal, Outcome}
use Rattle.rules.specs.Rules.{outcome, refused}
use Rattle.groups.specs.Groups.{Deed}
use Rattle.groups.specs.Track.{Calm, Event, event, History, Act, idle, moves, takes, undoes, closes, act, deed_of, Saved, Track, noted, track, newer, last_token, Follows, Orderly}
use Rattle.groups.specs.Stands.{Made, over_after, StandsOver}
use Rattle.groups.proofs.Undoing.{Logged}
use Rattle.groups.proofs.Plans.{calm, Quiet}

pub record Keeps (over : ℕ → Rows) (t : Table) (h : History) (c : Call) (o : Outcome) : Type 0 where
  pub stands : StandsOver (over_after over t (act (event c o.answer))) o.table (event c o.answer ∷ h)
  pub peace : Calm o.answer.no

-- ---- acts that take, undo and close nothing

by_quiet : (P : Act → Type 0) → P idle → ((d : Deed) → P (moves d)) → (a : Act) → Quiet a → P a
by_quiet P p f idle q = p
by_quiet P p f (moves d) q = f d
by_quiet P p f (takes token) q = absurd q
by_quiet P p f (undoes token) q = absurd q
by_quiet P p f (closes token) q = absurd q

pub quiet_noted : (a : Act) (g : Track) → Quiet a → noted g a ≡ record { now = deed_of a ++ g.now; saved = g.saved }
quiet_noted a g = by_quiet (λ a. noted g a ≡ record { now = deed_of a ++ g.now; saved = g.saved }) refl (λ d. refl) a

module _ {over : ℕ → Rows} {t : Table} {h : History} (S : StandsOver over t h) where
  -- The table with other rows, log and head, after a call that takes no snapshot.
  pub stands_with : (e : Event) (now : List Deed) (xs : List Saved) (rs : Rows) (l : Log) (count used opened : ℕ)
      → noted (track h) (act e) ≡ record { now = now; saved = xs } → over_after over t (act e) ≡ over
      → Follows (last_token h) (track h).saved (act e) → newer (last_token h) (act e) ≡ last_token h → opened ≡ length xs
      → length xs ≤ MAX-OPEN → WideRows rs S.room → count ≤ S.room
      → Logged S.room (mark_at t.state) over S.log_room l used count rs xs → Made rs count now
      → StandsOver (over_after over t (act e)) (table rs l (with_head t.state (head count used opened))) (e ∷ h)
  unfolding track last_token Orderly
  stands_with e now xs rs l count used opened n o f last q fits w c L M = record {
    room = S.room;
    log_room = S.log_room;
    lends = record { row_parts = w; log_parts = L.wide; row_limit = S.lends.row_limit; log_limit = S.lends.log_limit };
    fits = c;
    log_fits = L.fits;
    marks_kept = S.marks_kept;
    open_fits = rw n fits;
    opened = rw n q;
    made = rw n M;
    back = rw (n, o) L.back;
    orderly = (f, S.orderly);
    serials = rw last S.serials;
  }

  -- And leaves the open ones.
  pub stands_on : (e : Event) (rs : Rows) (l : Log) (count used : ℕ) → Quiet (act e) → WideRows rs S.room → count ≤ S.room
      → Logged S.room (mark_at t.state) over S.log_room l used count rs (track h).saved
      → Made rs count (deed_of (act e) ++ (track h).now)
      → StandsOver (over_after over t (act e)) (table rs l (with_head t.state (head count used t.state.«open»))) (e ∷ h)
  stands_on e rs l count used q =
      stands_with e (deed_of (act e) ++ (track h).now) (track h).saved rs l count used t.state.«open» (quiet_noted (act e) (track h) q)
      (by_quiet (λ a. over_after over t a ≡ over) refl (λ d. refl) (act e) q)
      (by_quiet (Follows (last_token h) (track h).saved) tt (λ d. tt) (act e) q)
      (by_quiet (λ a. newer (last_token h) a ≡ last_token h) refl (λ d. refl) (act e) q) S.opened S.open_fits

  pub as_logged : Logged S.room (mark_at t.state) over S.log_room t.log t.state.used t.state.count t.rows (track h).saved
  as_logged = record { wide = S.lends.log_parts; fits = S.log_fits; back = S.back }

  -- An answer that moves nothing.
  pub keeps_idle : (c : Call) (a : Answer) → act (event c a) ≡ idle → Calm a.no → Keeps over t h c (outcome a t)
  keeps_idle c a e z = record {
    stands =
        stands_on (event c a) t.rows t.log t.state.count t.state.used (rw e tt) S.lends.row_parts S.fits as_logged
        (rw e S.made);
    peace = z;
  }

  pub keeps_refused : (c : Call) (n : ℕ) → eqb n DONE ≡ false → eqb n BROKEN-TABLE ≡ false → eqb n BAD-STATE ≡ false
      → Keeps over t h c (refused n t)
  keeps_refused c n e f g = keeps_idle c (refusal n) (rw e) (calm n f g)
