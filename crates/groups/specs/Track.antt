-- A history, and what of it survives, kept as a stack: what has survived now, and what had survived as each open snapshot was taken.
-- Crate `history` has survival in document 01's own words, and the proof that the two are equal.
use Rattle.std.specs.Prelude.{◌≡◌, ◌∷◌, ◌≢◌, ◌<◌}
use Rattle.kit.specs.Names.{Bool, cond, List, [], ℕ, eqb}
use Rattle.rules.specs.Rules.{Call, Answer, DONE, BROKEN-TABLE, BAD-STATE, value, owner_of}
use Rattle.rules.specs.declared.call.Call.TheVariants.{New, Len, Find, Unioned, Join, Post, Probe, ProbeKey, TryProbe, Snapshot, Rollback, Commit, Keys, Actions, Changes}
use Rattle.groups.specs.Groups.{Deed, created, joined, posted}

-- ---- a history: the calls and their answers, the newest first

pub record Event : Type 0 where
  pub call : Call
  pub answer : Answer

abbrev pub event : Call → Answer → Event
event c a = record { call = c; answer = a }

abbrev pub History : Type 0
History = List Event

abbrev pub is_done : Event → Bool
is_done e = eqb e.answer.no DONE

-- Neither BROKEN_TABLE nor BAD_STATE.
abbrev pub Calm : ℕ → Type 0
Calm n = (n ≢ BROKEN-TABLE) × (n ≢ BAD-STATE)

-- What a call answered DONE is to the others: it moves the groups, or it takes a snapshot of this token, rolls it back, commits it.
pub data Act : Type 0 where
  idle : Act
  moves : Deed → Act
  takes : ℕ → Act
  undoes : ℕ → Act
  closes : ℕ → Act

abbrev pub act_of : Call → Answer → Act
act_of (New owner amount) a = moves (created a.key (value (owner_of owner) amount))
act_of Len a = idle
act_of (Find key) a = idle
act_of (Unioned x y) a = idle
act_of (Join x y) a = moves (joined x y)
act_of (Post key owner amount) a = moves (posted key (value (owner_of owner) amount))
act_of (Probe key) a = idle
act_of (ProbeKey key) a = idle
act_of (TryProbe key) a = idle
act_of Snapshot a = takes a.token
act_of (Rollback token) a = undoes token
act_of (Commit token) a = closes token
act_of (Keys token) a = idle
act_of (Actions token) a = idle
act_of (Changes token) a = idle

-- "a refused call never does" survive, and opens and closes nothing.
abbrev pub act : Event → Act
act e = cond (is_done e) (act_of e.call e.answer) idle

-- The deed of an act, if it is one.
abbrev pub deed_of : Act → List Deed
deed_of idle = []
deed_of (moves d) = d ∷ []
deed_of (takes token) = []
deed_of (undoes token) = []
deed_of (closes token) = []

-- ---- the stack of survivors

-- An open snapshot: its token, and the deeds that had survived as it was taken, the newest first.
pub record Saved : Type 0 where
  pub token : ℕ
  pub deeds : List Deed

-- The deeds that survive, the newest first, and the open snapshots, the innermost first.
pub record Track : Type 0 where
  pub now : List Deed
  pub saved : List Saved

abbrev pub dropped : List Saved → List Saved
dropped [] = []
dropped (x ∷ xs) = xs

abbrev pub restored : List Deed → List Saved → List Deed
restored now [] = now
restored now (x ∷ xs) = x.deeds

abbrev pub noted : Track → Act → Track
noted g idle = g
noted g (moves d) = record { now = d ∷ g.now; saved = g.saved }
noted g (takes token) = record { now = g.now; saved = record { token = token; deeds = g.now } ∷ g.saved }
noted g (undoes token) = record { now = restored g.now g.saved; saved = dropped g.saved }
noted g (closes token) = record { now = g.now; saved = dropped g.saved }

unfoldable pub track : History → Track
track [] = record { now = []; saved = [] }
track (e ∷ h) = noted (track h) (act e)

-- ---- the tokens' rules

-- The token of the last snapshot taken, 0 before the first.
abbrev pub newer : ℕ → Act → ℕ
newer t idle = t
newer t (moves d) = t
newer t (takes token) = token
newer t (undoes token) = t
newer t (closes token) = t

unfoldable pub last_token : History → ℕ
last_token [] = 0
last_token (e ∷ h) = newer (last_token h) (act e)

-- A token is above every one before it, and the innermost one is rolled back or committed.
abbrev pub Innermost : ℕ → List Saved → Type 0
Innermost token [] = ⊥
Innermost token (x ∷ xs) = x.token ≡ token

abbrev pub Follows : ℕ → List Saved → Act → Type 0
Follows t xs idle = Unit {0}
Follows t xs (moves d) = Unit {0}
Follows t xs (takes token) = t < token
Follows t xs (undoes token) = Innermost token xs
Follows t xs (closes token) = Innermost token xs

unfoldable pub Orderly : History → Type 0
Orderly [] = Unit {0}
Orderly (e ∷ h) = Follows (last_token h) (track h).saved (act e) × Orderly h
