-- What the exported functions return, by the lengths of what is lent and the calls.
use Rattle.std.specs.Prelude.{◌&&◌, ◌*◌, Result, Ok, Err}
use Rattle.kit.specs.Names.{cond, not, ℕ, length, eqb, ltb}
use Rattle.layout.specs.State.{NUMBERS, SERIALS}
use Rattle.coding.specs.Coding.{Listed, unlisted, calls}
use Rattle.admit.specs.declared.tests.Unserved.{Unserved}
use Rattle.admit.specs.declared.tests.Unserved.TheVariants.{NoState, NoCall, NoAnswers}

-- What is returned.
abbrev pub CARRIED-OUT : ℕ
CARRIED-OUT = 0

abbrev pub NO-STATE : ℕ
NO-STATE = 1

abbrev pub NO-CALL : ℕ
NO-CALL = 2

abbrev pub NO-ANSWERS : ℕ
NO-ANSWERS = 3

-- What is returned of a test.
abbrev pub unserved_code : Unserved → ℕ
unserved_code NoState = NO-STATE
unserved_code NoCall = NO-CALL
unserved_code NoAnswers = NO-ANSWERS

abbrev pub code_in : Result (Unit {0}) Unserved → ℕ
code_in (Ok x) = CARRIED-OUT
code_in (Err why) = unserved_code why

-- By a state's numbers alone.
abbrev pub state_admission : ℕ → ℕ → ℕ
state_admission numbers serials = cond (not (eqb numbers NUMBERS && eqb serials SERIALS)) NO-STATE CARRIED-OUT

abbrev pub hearing : Listed → ℕ → ℕ
hearing unlisted answers = NO-CALL
hearing (calls cs) answers = cond (ltb answers (9 * length cs)) NO-ANSWERS CARRIED-OUT

-- "Tested in this order": a state's numbers, the calls, room for the answers.
unfoldable pub admission : ℕ → ℕ → Listed → ℕ → ℕ
admission numbers serials l answers = cond (not (eqb numbers NUMBERS && eqb serials SERIALS)) NO-STATE (hearing l answers)
