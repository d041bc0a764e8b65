-- Each end of the tests, and what is known of calls that pass them. Assumes nothing.
use Rattle.std.specs.Prelude.{◌≡◌, ◌&&◌, ◌*◌, ◌≤◌, ◌<◌}
use Rattle.kit.specs.Names.{refl, sym, ap, ◌∙◌, Bool, true, false, cond, not, ℕ, length, eqb, arith, dec_lt, lt-ltb, le-ltb, eq-eqb, ne_eqb}
use Rattle.layout.specs.State.{NUMBERS, SERIALS}
use Rattle.coding.specs.Coding.{Listed, unlisted, calls, is_listed, calls_in}
use Rattle.admit.specs.declared.tests.Unserved.{Unserved}
use Rattle.admit.specs.declared.tests.Unserved.TheVariants.{NoState, NoCall, NoAnswers}
use Rattle.admit.specs.Admit.{CARRIED-OUT, NO-STATE, NO-CALL, NO-ANSWERS, unserved_code, state_admission, hearing, admission}

unlisted_is : (l : Listed) → is_listed l ≡ false → l ≡ unlisted
unlisted_is unlisted e = refl
unlisted_is (calls cs) e = absurd (let z : ◌≡◌ {A = ℕ} 0 1 = cc in omega arith)

calls_are : (l : Listed) → is_listed l ≡ true → l ≡ calls (calls_in l)
calls_are unlisted e = absurd (let z : ◌≡◌ {A = ℕ} 0 1 = cc in omega arith)
calls_are (calls cs) e = refl

-- No reason is the number of what is carried out.
pub unserved : (u : Unserved) → unserved_code u ≡ CARRIED-OUT → ⊥
unserved NoState e = omega arith
unserved NoCall e = omega arith
unserved NoAnswers e = omega arith

-- Whether the state's numbers are there decides first.
module _ (l : Listed) (answers : ℕ) where
  refused_first : (b : Bool) (u : Unserved) → unserved_code u ≡ cond b NO-STATE CARRIED-OUT → unserved_code u ≡ cond b NO-STATE (hearing l answers)
  refused_first true u e = e
  refused_first false u e = absurd (unserved u e)

  heard_then : (b : Bool) → CARRIED-OUT ≡ cond b NO-STATE CARRIED-OUT → hearing l answers ≡ cond b NO-STATE (hearing l answers)
  heard_then true e = absurd (omega arith)
  heard_then false e = refl

-- Whether a state's numbers are not there.
abbrev missing : ℕ → ℕ → Bool
missing n s = not (eqb n NUMBERS && eqb s SERIALS)

module _ (numbers serials : ℕ) (l : Listed) (answers : ℕ) where
  pub no_state : (u : Unserved) → unserved_code u ≡ state_admission numbers serials → unserved_code u ≡ admission numbers serials l answers
  unfolding admission
  no_state u e = refused_first l answers (missing numbers serials) u e

  -- By the lengths that the arrays have.
  pub numbers_missing : (numbers ≡ NUMBERS → ⊥) → NO-STATE ≡ admission numbers serials l answers
  unfolding admission
  numbers_missing d = rw (ne_eqb numbers NUMBERS d)

  module _ (fit : numbers ≡ NUMBERS) where
    pub serials_missing : (serials ≡ SERIALS → ⊥) → NO-STATE ≡ admission numbers serials l answers
    unfolding admission
    serials_missing d = rw (eq-eqb numbers NUMBERS fit, ne_eqb serials SERIALS d)

    pub state_there : serials ≡ SERIALS → hearing l answers ≡ admission numbers serials l answers
    unfolding admission
    state_there e = rw (eq-eqb numbers NUMBERS fit, eq-eqb serials SERIALS e)

pub none_listed : (numbers serials answers : ℕ) → CARRIED-OUT ≡ state_admission numbers serials → NO-CALL ≡ admission numbers serials unlisted answers
unfolding admission
none_listed numbers serials answers e = heard_then unlisted answers (missing numbers serials) e

-- The calls, and room for the answers.
module _ (l : Listed) (answers : ℕ) where
  pub no_calls : is_listed l ≡ false → NO-CALL ≡ hearing l answers
  no_calls e = sym (ap (λ (x : Listed). hearing x answers) (unlisted_is l e))

  module _ (e : is_listed l ≡ true) where
    heard : hearing (calls (calls_in l)) answers ≡ hearing l answers
    heard = sym (ap (λ (x : Listed). hearing x answers) (calls_are l e))

    pub no_answers : answers < 9 * length (calls_in l) → NO-ANSWERS ≡ hearing l answers
    no_answers k = sym (rw (lt-ltb answers (9 * length (calls_in l)) k)) ∙ heard

    pub with_room : 9 * length (calls_in l) ≤ answers → CARRIED-OUT ≡ hearing l answers
    with_room k = sym (rw (le-ltb answers (9 * length (calls_in l)) k)) ∙ heard

-- What is known of calls that pass the test.
pub heard_out : (l : Listed) (a : ℕ) → hearing l a ≡ CARRIED-OUT → (is_listed l ≡ true) × (9 * length (calls_in l) ≤ a)
heard_out unlisted a e = absurd (omega arith)
heard_out (calls cs) a e = elim (dec_lt a (9 * length cs)) [
  | yes k ↦ absurd (let f : NO-ANSWERS ≡ CARRIED-OUT = sym (rw (lt-ltb a (9 * length cs) k)) ∙ e in omega arith)
  | no n ↦ (refl, omega arith)
]

-- What is no list of calls is never carried out.
passed : (b : Bool) (m : ℕ) → cond b NO-STATE m ≡ CARRIED-OUT → m ≡ CARRIED-OUT
passed true m e = absurd (omega arith)
passed false m e = e

pub never_out : (n s a : ℕ) → admission n s unlisted a ≡ CARRIED-OUT → ⊥
unfolding admission
never_out n s a e = let c = passed (missing n s) (hearing unlisted a) e in omega (arith, c)
