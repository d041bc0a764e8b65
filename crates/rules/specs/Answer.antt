-- Document 01, what a call answers: a refusal's answer, what stands in its place on DONE, and the state that is handed back.
use Rattle.std.specs.Prelude.{◌∷◌}
use Rattle.kit.specs.Names.{Bool, true, false, cond, List, [], ℕ}
use Rattle.rules.specs.declared.call.Answer.{Answer}
use Rattle.rules.specs.declared.call.Answered.{Answered}
use Rattle.rules.specs.declared.table.State.{State}
use Rattle.rules.specs.declared.table.Value.{Value}
use Rattle.rules.specs.Numbers.{DONE}
use Rattle.rules.specs.Lent.{number_of, none}

-- An answer's fields: number, key, token, owner and amount, steps, yes, from, to.
abbrev pub answer : ℕ → ℕ → ℕ → Value → ℕ → Bool → ℕ → ℕ → Answer
answer n k t v s y f e =
    record { no = n; key = k; token = t; owner = v.owner; amount = v.amount; steps = s; yes = y; from = f; to = e }

-- "A refusal answers key 0, token 0, no owner, amount 0, steps 0, no where a yes or no is asked, nothing for
-- `try_probe_value`, the range 0 to 0 or an empty view".
abbrev pub refusal : ℕ → Answer
refusal n = answer n 0 0 none 0 false 0 0

-- DONE, 4 and 5 report steps: "the walks' rewrites and their entries stay, as in the Rust, and steps are reported."
abbrev pub stepped : ℕ → ℕ → Answer
stepped n s = answer n 0 0 none s false 0 0

-- "On DONE a call answers what its Rust namesake returns .. and the steps of its walks; the rest is as in a refusal."
abbrev pub found : ℕ → ℕ → Answer
found root s = answer DONE root 0 none s false 0 0

abbrev pub probed : ℕ → Value → ℕ → Answer
probed root v s = answer DONE root 0 v s false 0 0

-- A value told apart from nothing: "an answer told apart from every value" is `said false 0`.
abbrev pub held : Value → Answer
held v = answer DONE 0 0 v 0 true 0 0

abbrev pub said : Bool → ℕ → Answer
said y s = answer DONE 0 0 none s y 0 0

abbrev pub range : ℕ → ℕ → Answer
range f e = answer DONE 0 0 none 0 false f e

abbrev pub opened : ℕ → Answer
opened token = answer DONE 0 token none 0 false 0 0

-- ---- an answer as numbers

abbrev pub bit : Bool → ℕ
bit b = cond b 1 0

-- Its fields in their order, which is that of the text and of what the library writes.
abbrev pub answer_numbers : Answer → List ℕ
answer_numbers a =
    a.no ∷ a.key ∷ a.token ∷ number_of a.owner ∷ a.amount ∷ a.steps ∷ bit a.yes ∷ a.from ∷ a.to ∷ []

-- ---- an answer and the state that goes with it

abbrev pub answered : Answer → State → Answered
answered a s = record { answer = a; state = s }

-- A refusal leaves the state untouched.
abbrev pub refuse_state : Bool → ℕ → State → Answered → Answered
refuse_state test n s rest = cond test (answered (refusal n) s) rest
