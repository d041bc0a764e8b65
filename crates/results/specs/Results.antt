-- A result: a number of refusal, and the length or the place that goes with it.
use Rattle.std.specs.Prelude.{◌&&◌, ◌∷◌}
use Rattle.kit.specs.Names.{cond, not, List, [], ℕ, eqb}
use Rattle.layout.specs.State.{NUMBERS, SERIALS}
use Rattle.admit.specs.Admit.{CARRIED-OUT, NO-STATE, NO-ANSWERS}

abbrev pub RESULT : ℕ
RESULT = 2

abbrev pub result_numbers : ℕ → ℕ → List ℕ
result_numbers n m = n ∷ m ∷ []

-- "Tested in this order": a state's numbers, room for the result.
unfoldable pub result_admission : ℕ → ℕ → ℕ → ℕ
result_admission numbers serials result =
    cond (not (eqb numbers NUMBERS && eqb serials SERIALS)) NO-STATE (cond (eqb result RESULT) CARRIED-OUT NO-ANSWERS)

-- Room for the result alone.
abbrev pub room_admission : ℕ → ℕ
room_admission result = cond (eqb result RESULT) CARRIED-OUT NO-ANSWERS
