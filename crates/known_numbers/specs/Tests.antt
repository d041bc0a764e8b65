-- What the journal's exported functions return, by what is lent.
use Rattle.kit.specs.Names.{cond, List, ℕ, eqb}
use Rattle.coding.specs.Coding.{Listed}
use Rattle.admit.specs.Admit.{NO-STATE, admission}
use Rattle.results.specs.Results.{room_admission}
use Rattle.known_numbers.specs.Known.{KNOWN, is_known}

-- "Tested in this order": what is known and a state's numbers, the calls, room for the answers.
abbrev pub record_admission : ℕ → ℕ → Listed → ℕ → List ℕ → ℕ
record_admission numbers serials l answers ks = cond (is_known ks) (admission numbers serials l answers) NO-STATE

-- What is known, room for the result.
abbrev pub flush_admission : List ℕ → ℕ → ℕ
flush_admission ks result = cond (is_known ks) (room_admission result) NO-STATE

-- Room for what is known, room for the result.
abbrev pub known_admission : ℕ → ℕ → ℕ
known_admission known result = cond (eqb known KNOWN) (room_admission result) NO-STATE
