-- Document 01, "Rules of the log and the tokens": "A call is rolled back when a snapshot that was open at the time of the call is later
-- rolled back with DONE. Otherwise, if answered DONE, it survives; a refused call never does."
use Rattle.std.specs.Prelude.{◌&&◌, ◌||◌, ◌∷◌, ◌++◌}
use Rattle.kit.specs.Names.{Bool, false, cond, not, List, [], ℕ, eqb}
use Rattle.groups.specs.Groups.{Deed}
use Rattle.groups.specs.Track.{Event, History, is_done, Act, idle, moves, takes, undoes, closes, act, deed_of}

-- ---- "a snapshot that was open at the time of the call"

abbrev pub without : ℕ → List ℕ → List ℕ
without token [] = []
without token (t ∷ ts) = cond (eqb t token) (without token ts) (t ∷ without token ts)

abbrev pub opening : Act → List ℕ → List ℕ
opening idle ts = ts
opening (moves d) ts = ts
opening (takes token) ts = token ∷ ts
opening (undoes token) ts = without token ts
opening (closes token) ts = without token ts

-- The tokens of the snapshots that are open after these calls.
unfoldable pub open_after : History → List ℕ
open_after [] = []
open_after (e ∷ before) = opening (act e) (open_after before)

-- ---- "is later rolled back with DONE"

abbrev pub undoes_it : ℕ → Act → Bool
undoes_it token idle = false
undoes_it token (moves d) = false
undoes_it token (takes t) = false
undoes_it token (undoes t) = eqb token t
undoes_it token (closes t) = false

unfoldable pub undone_in : History → ℕ → Bool
undone_in [] token = false
undone_in (e ∷ later) token = undoes_it token (act e) || undone_in later token

abbrev pub any_of : (ℕ → Bool) → List ℕ → Bool
any_of test [] = false
any_of test (t ∷ ts) = test t || any_of test ts

-- ---- the rule

-- A call made after `before` and before `later`.
abbrev pub is_rolled_back : History → History → Bool
is_rolled_back before later = any_of (undone_in later) (open_after before)

abbrev pub survives : History → Event → History → Bool
survives before e later = is_done e && not (is_rolled_back before later)

-- The calls of a history that survive it and what comes later, the newest first.
unfoldable pub survivors : History → History → History
survivors later [] = []
survivors later (e ∷ before) =
    cond (survives before e later) (e ∷ survivors (e ∷ later) before) (survivors (e ∷ later) before)

-- Their creations, joins and posts.
abbrev pub deeds : History → List Deed
deeds [] = []
deeds (e ∷ h) = deed_of (act e) ++ deeds h

abbrev pub surviving : History → List Deed
surviving h = deeds (survivors [] h)
