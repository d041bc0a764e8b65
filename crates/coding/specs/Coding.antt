-- A call as four numbers: its code, then a, b and c.
use Rattle.std.specs.Prelude.{◌≡◌, ◌&&◌, ◌∷◌, ◌+◌}
use Rattle.kit.specs.Names.{Bool, true, false, cond, List, [], ℕ, length, get_or, eqb, leb, ltb}
use Rattle.coding.specs.declared.coding.Form.{Form}
use Rattle.coding.specs.declared.coding.Limits.{Limits}
use Rattle.rules.specs.Rules.{Call}
use Rattle.rules.specs.declared.call.Call.TheVariants.{New, Len, Find, Unioned, Join, Post, Probe, ProbeKey, TryProbe, Snapshot, Rollback, Commit, Keys, Actions, Changes}

-- How large a number may be: it is not used; it is a key or an owner; it is an amount or a token.
abbrev pub UNUSED : ℕ
UNUSED = 0

abbrev pub SHORT : ℕ
SHORT = 4294967295

abbrev pub LONG : ℕ
LONG = 18446744073709551615

-- What a code stands for: how large its three numbers may be, and the call that is made of them. The codes from 0 on, in the order
-- of CALLS.md.
abbrev pub call_forms : ℕ → ℕ → ℕ → List Form
call_forms a b c =
    ((SHORT, LONG, UNUSED), New a b)
    ∷ ((UNUSED, UNUSED, UNUSED), Len)
    ∷ ((SHORT, UNUSED, UNUSED), Find a)
    ∷ ((SHORT, SHORT, UNUSED), Unioned a b)
    ∷ ((SHORT, SHORT, UNUSED), Join a b)
    ∷ ((SHORT, SHORT, LONG), Post a b c)
    ∷ ((SHORT, UNUSED, UNUSED), Probe a)
    ∷ ((SHORT, UNUSED, UNUSED), ProbeKey a)
    ∷ ((SHORT, UNUSED, UNUSED), TryProbe a)
    ∷ ((UNUSED, UNUSED, UNUSED), Snapshot)
    ∷ ((LONG, UNUSED, UNUSED), Rollback a)
    ∷ ((LONG, UNUSED, UNUSED), Commit a)
    ∷ ((LONG, UNUSED, UNUSED), Keys a)
    ∷ ((LONG, UNUSED, UNUSED), Actions a)
    ∷ ((LONG, UNUSED, UNUSED), Changes a)
    ∷ []

abbrev pub CODES : ℕ
CODES = 15

abbrev pub form_of : ℕ → ℕ → ℕ → ℕ → Form
form_of code a b c = get_or (call_forms a b c) code ((UNUSED, UNUSED, UNUSED), Len)

abbrev pub fits : Limits → ℕ → ℕ → ℕ → Bool
fits m a b c = leb a m.0 && leb b m.1 && leb c m.2

-- A form as it should be: its limits, and its call where the numbers fit.
pub record Formed (f : Form) (a b c : ℕ) (r : Form) : Type 0 where
  pub most : r.0 ≡ f.0
  pub call : fits f.0 a b c ≡ true → r.1 ≡ f.1

-- Of four numbers at a place of a list.
abbrev pub FormedAt : List ℕ → ℕ → Form → Type 0
FormedAt ns at r =
    let a = get_or ns (at + 1) 0 in
    let b = get_or ns (at + 2) 0 in
    let c = get_or ns (at + 3) 0 in
    Formed (form_of (get_or ns at 0) a b c) a b c r

-- What four numbers ask for: a call, or nothing that there is.
pub data Asked : Type 0 where
  nothing : Asked
  asked : Call → Asked

unfoldable pub asked_of : ℕ → ℕ → ℕ → ℕ → Asked
asked_of code a b c = let f = form_of code a b c in cond (ltb code CODES && fits f.0 a b c) (asked f.1) nothing

-- ---- a list of calls

-- The calls of a list; or none at all, where its length is no multiple of 4 or a part of it is no call.
pub data Listed : Type 0 where
  unlisted : Listed
  calls : List Call → Listed

abbrev pub then : Asked → Listed → Listed
then nothing l = unlisted
then (asked c) unlisted = unlisted
then (asked c) (calls cs) = calls (c ∷ cs)

unfoldable pub call_list : List ℕ → Listed
call_list [] = calls []
call_list (code ∷ []) = unlisted
call_list (code ∷ a ∷ []) = unlisted
call_list (code ∷ a ∷ b ∷ []) = unlisted
call_list (code ∷ a ∷ b ∷ c ∷ ns) = then (asked_of code a b c) (call_list ns)

-- The list of a single call.
abbrev pub single : List ℕ → Listed
single ns = cond (eqb (length ns) 4) (call_list ns) unlisted

abbrev pub is_listed : Listed → Bool
is_listed unlisted = false
is_listed (calls cs) = true

abbrev pub calls_in : Listed → List Call
calls_in unlisted = []
calls_in (calls cs) = cs

abbrev pub is_asked : Asked → Bool
is_asked nothing = false
is_asked (asked c) = true

-- The call at a place. Where there is none it reads as one that changes nothing.
abbrev pub call_in : Asked → Call
call_in nothing = Len
call_in (asked c) = c

abbrev pub asked_at : List ℕ → ℕ → Asked
asked_at ns at = asked_of (get_or ns at 0) (get_or ns (at + 1) 0) (get_or ns (at + 2) 0) (get_or ns (at + 3) 0)

abbrev pub call_at : List ℕ → ℕ → Call
call_at ns at = call_in (asked_at ns at)
