-- How a function's contract speaks of a state that is lent: over what its two arrays hold, at entry or at exit.
use Rattle.std.specs.Prelude.{◌≡◌, length}
use Rattle.rules.specs.Rules.{Head, State}
use Rattle.layout.specs.declared.state.LentState.{LentState}
use Rattle.layout.specs.State.{head_in, state_by, state_of}

-- The head; the state; and the state of a head that is at hand, with the last serial and the marks that stand in the numbers.
abbrev pub head_lent : LentState → Head
head_lent s = head_in s.numbers.now

abbrev pub state_in : LentState → State
state_in s = state_of s.numbers.now s.serials.now

abbrev pub state_under : Head → LentState → State
state_under h s = state_by h s.numbers.now s.serials.now

-- The two references are the same ones still, and behind them are as many numbers: by this a caller knows that what is left behind
-- them is left in its own arrays.
abbrev pub SameState : LentState → LentState → Type 0
SameState s s' =
    (s.numbers.ghost_name ≡ s'.numbers.ghost_name)
    × (s.serials.ghost_name ≡ s'.serials.ghost_name)
    × (length s'.numbers.now ≡ length s.numbers.now)
    × (length s'.serials.now ≡ length s.serials.now)
