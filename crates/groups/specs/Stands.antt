-- When a table stands for a history: its rows show the groups after the deeds that survive, and its log leads back from snapshot to
-- snapshot to rows that show the groups as each was taken.
use Rattle.std.specs.Prelude.{◌≡◌, ◌∷◌, ◌≢◌, ◌-◌, ◌≤◌, ◌<◌}
use Rattle.kit.specs.Names.{true, List, [], ℕ, length}
use Rattle.rules.specs.Rules.{UndoLog, Mark, MAX-ROWS, MAX-ENTRIES, MAX-OPEN, Rows, Log, Table, value_of, row_at, mark_at, WideRows, WideLog, newest_first, undoable}
use Rattle.rules.specs.Rules.{undo}
use Rattle.groups.specs.Groups.{Groups, Deed, at, replay, Accepted}
use Rattle.groups.specs.Track.{History, Act, idle, moves, takes, undoes, closes, Saved, track, last_token, Orderly}

-- ---- rows that show groups

abbrev pub up : Rows → ℕ → ℕ
up rs i = (row_at rs i).parent

abbrev pub high : Rows → ℕ → ℕ
high rs i = (row_at rs i).rank

-- Following parents from a key leads to this root.
pub data LeadsTo (p : ℕ → ℕ) : ℕ → ℕ → Type 0 where
  here : {i r : ℕ} → p i ≡ i → i ≡ r → LeadsTo p i r
  along : {i r : ℕ} → LeadsTo p (p i) r → LeadsTo p i r

-- A redirect leads below the count, to a row of greater rank; each key leads to its root; a root's row has its rank and value.
pub record Shows (rs : Rows) (g : Groups) : Type 0 where
  pub inside : (i : ℕ) → i < g.count → up rs i < g.count
  pub rises : (i : ℕ) → i < g.count → up rs i ≢ i → high rs i < high rs (up rs i)
  pub leads : (i : ℕ) → i < g.count → LeadsTo (up rs) i (g.root i)
  pub ranks : (r : ℕ) → r < g.count → up rs r ≡ r → high rs r ≡ g.rank r
  pub values : (r : ℕ) → r < g.count → up rs r ≡ r → value_of (row_at rs r) ≡ g.value r

-- The same, of the groups that accepted deeds make, over `count` rows.
pub record Made (rs : Rows) (count : ℕ) (ds : List Deed) : Type 0 where
  pub accepted : Accepted ds
  pub counted : (replay ds).count ≡ count
  pub shows : Shows rs (replay ds)

-- ---- what is lent

-- "lent parts of unequal length" and "rows or log above the limits" are BAD_STATE: there is room for so many rows and entries.
pub record Lends (rs : Rows) (l : Log) (rows entries : ℕ) : Type 0 where
  pub row_parts : WideRows rs rows
  pub log_parts : WideLog l entries
  pub row_limit : rows ≤ MAX-ROWS
  pub log_limit : entries ≤ MAX-ENTRIES

-- ---- a log that leads back

-- The same rows below a count. "Rows past the count .. keep whatever the last write left."
abbrev pub Alike : ℕ → Rows → Rows → Type 0
Alike n rs rs' = (i : ℕ) → i < n → row_at rs i ≡ row_at rs' i

-- The entries logged since a mark, "newest first".
abbrev pub since_mark : Log → Mark → ℕ → List UndoLog
since_mark l m used = newest_first l m.log_len (used - m.log_len)

-- Back to the mark m of the snapshot x, from the rows `rs`, by undoing the entries `es` logged since.
pub record Returns (room : ℕ) (m : Mark) (x : Saved) (taken : Rows) (used count : ℕ) (es : List UndoLog) (rs : Rows)
    (Outwards : Type 0) : Type 0 where
  -- the mark is the snapshot's
  pub token : m.serial ≡ x.token
  -- it was set before those entries
  pub past : m.log_len ≤ used
  -- they can be undone, from `count` keys down to the mark's
  pub able : undoable m.keys count es ≡ true
  -- which gives back the very rows below the count that it was taken over
  pub very : Alike m.keys (undo rs es) taken
  -- and those show what had survived then
  pub wide : WideRows taken room
  pub made : Made taken m.keys x.deeds
  -- and so on from there, to the marks before it
  pub outwards : Outwards

-- From the innermost mark outwards, over the rows that each open snapshot was taken over. With none open nothing is logged.
abbrev pub LeadsBack : ℕ → Log → (ℕ → Mark) → (ℕ → Rows) → ℕ → ℕ → Rows → List Saved → Type 0
LeadsBack room l marks over used count rs [] = used ≡ 0
LeadsBack room l marks over used count rs (x ∷ xs) =
    let m = marks (length xs) in
    let taken = over (length xs) in
    Returns room m x taken used count (since_mark l m used) rs (LeadsBack room l marks over m.log_len m.keys taken xs)

-- The rows that open snapshots are taken over, by their number from the outermost, after a call on a table.
abbrev pub over_after : (ℕ → Rows) → Table → Act → ℕ → Rows
over_after over t idle = over
over_after over t (moves d) = over
over_after over t (takes token) = at t.state.«open» t.rows over
over_after over t (undoes token) = over
over_after over t (closes token) = over

-- ---- the two together

pub record StandsOver (over : ℕ → Rows) (t : Table) (h : History) : Type 0 where
  -- what is lent has room for so many rows and entries, and the state is within it
  pub room : ℕ
  pub log_room : ℕ
  pub lends : Lends t.rows t.log room log_room
  pub fits : t.state.count ≤ room
  pub log_fits : t.state.used ≤ log_room
  pub marks_kept : length t.state.marks ≡ MAX-OPEN
  -- the snapshots open are those of the history
  pub opened : t.state.«open» ≡ length (track h).saved
  pub open_fits : length (track h).saved ≤ MAX-OPEN
  -- the rows show the groups of the deeds that survive
  pub made : Made t.rows t.state.count (track h).now
  -- and lead back to those of each open snapshot
  pub back : LeadsBack room t.log (mark_at t.state) over t.state.used t.state.count t.rows (track h).saved
  -- the history follows the tokens' rules, and no token of it is above the last serial
  pub orderly : Orderly h
  pub serials : last_token h ≤ t.state.last

-- Whatever its open snapshots were taken over.
abbrev pub Stands : Table → History → Type 0
Stands t h = (over : ℕ → Rows) × StandsOver over t h
