-- The numbers of a state: what stands where, what a call writes, and that numbers and state are each other's. Assumes nothing.
use Rattle.std.specs.Prelude.{◌≡◌, ◌∷◌, ◌+◌, ◌≤◌, ◌<◌}
use Rattle.kit.specs.Names.{refl, sym, ap, List, [], map, ℕ, zero, suc, length, get_or, set, drop, ltb}
use Rattle.kit.specs.Names.{length-set, set_out, arith, add-one, lt-ltb, le-ltb}
use Rattle.rules.specs.Rules.{Call, Head, Mark, State, MAX-OPEN, mark, mark_at}
use Rattle.rules.specs.declared.call.Call.TheVariants.{Rollback, Commit, Keys, Actions, Changes}
use Rattle.rules.proofs.TestLaws.{either_way}
use Rattle.std.specs.Prelude.{None}
use Rattle.undo_log.specs.declared.tokens.Settled.{Settled}
use Rattle.undo_log.specs.Settled.{state_after, mark_of, mark_for}
use Rattle.layout.specs.State.{NUMBERS, SERIALS, Sized, marks_of, state_by, state_of, headed, pairs_of, state_numbers, state_serials}

-- ---- marks as numbers: log length and keys two by two, and the serials

few_marks : (ns ss : List ℕ) → length (marks_of ns ss) ≤ length ss
unfolding marks_of
few_marks [] ss = omega arith
few_marks (l ∷ []) ss = omega arith
few_marks (l ∷ k ∷ ns) [] = omega arith
few_marks (l ∷ k ∷ ns) (s ∷ ss) = omega (arith, few_marks ns ss)

twice : (i : ℕ) → suc i + suc i ≡ suc (suc (i + i))
twice i = omega arith

twice_more : (i : ℕ) → suc (suc (i + i)) + 1 ≡ suc (suc (i + i + 1))
twice_more i = omega arith

marks_at : (ns ss : List ℕ) (i : ℕ) → length ns ≡ length ss + length ss → i < length ss
    → mark (get_or ss i 0) (get_or ns (i + i) 0) (get_or ns (i + i + 1) 0) ≡ get_or (marks_of ns ss) i (mark 0 0 0)
unfolding marks_of
marks_at [] ss i e h = absurd (omega arith)
marks_at (l ∷ []) ss i e h = absurd (omega arith)
marks_at (l ∷ k ∷ ns) [] i e h = absurd (omega arith)
marks_at (l ∷ k ∷ ns) (s ∷ ss) zero e h = refl
marks_at (l ∷ k ∷ ns) (s ∷ ss) (suc i) e h = rw (twice i, twice_more i) (marks_at ns ss i (omega arith) (omega arith))

marks_set : (ns ss : List ℕ) (i x y z : ℕ) → marks_of (set (set ns (i + i) x) (i + i + 1) y) (set ss i z) ≡ set (marks_of ns ss) i (mark z x y)
unfolding marks_of
marks_set [] ss i x y z = refl
marks_set (l ∷ []) ss zero x y z = refl
marks_set (l ∷ []) ss (suc i) x y z = rw (twice i, twice_more i)
marks_set (l ∷ k ∷ ns) [] zero x y z = refl
marks_set (l ∷ k ∷ ns) [] (suc i) x y z = rw (twice i, twice_more i)
marks_set (l ∷ k ∷ ns) (s ∷ ss) zero x y z = refl
marks_set (l ∷ k ∷ ns) (s ∷ ss) (suc i) x y z = rw (twice i, twice_more i) (ap (λ (r : List Mark). mark s l k ∷ r) (marks_set ns ss i x y z))

-- ---- the numbers of a state

-- Numbers that begin with a head, and both lists taken apart.
data Begun : List ℕ → Type 0 where
  begun : (c u o : ℕ) (ns : List ℕ) → length ns ≡ 64 → Begun (c ∷ u ∷ o ∷ ns)

begins : (ns : List ℕ) → length ns ≡ NUMBERS → Begun ns
begins [] e = absurd (omega arith)
begins (c ∷ []) e = absurd (omega arith)
begins (c ∷ u ∷ []) e = absurd (omega arith)
begins (c ∷ u ∷ o ∷ ns) e = begun c u o ns (omega arith)

data Shaped : List ℕ → List ℕ → Type 0 where
  shaped : (c u o l : ℕ) (ns ss : List ℕ) → length ns ≡ 64 → length ss ≡ 32 → Shaped (c ∷ u ∷ o ∷ ns) (l ∷ ss)

shape_begun : {ns : List ℕ} (ss : List ℕ) → length ss ≡ SERIALS → Begun ns → Shaped ns ss
shape_begun [] e b = absurd (omega arith)
shape_begun (l ∷ ss) e (begun c u o ns n) = shaped c u o l ns ss n (omega arith)

shape : (ns ss : List ℕ) → Sized ns ss → Shaped ns ss
shape ns ss z = shape_begun ss z.serials (begins ns z.numbers)

-- Where the numbers of mark i stand.
past : (i : ℕ) → i + i + 3 ≡ suc (suc (suc (i + i)))
past i = omega arith

past_one : (i : ℕ) → i + i + 3 + 1 ≡ suc (suc (suc (i + i + 1)))
past_one i = omega arith

abbrev mark_in : List ℕ → List ℕ → ℕ → Mark
mark_in ns ss i = mark (get_or ss (i + 1) 0) (get_or ns (i + i + 3) 0) (get_or ns (i + i + 3 + 1) 0)

mark_there : {ns ss : List ℕ} (i : ℕ) → i < MAX-OPEN → Shaped ns ss → mark_in ns ss i ≡ mark_at (state_of ns ss) i
mark_there i h (shaped c u o l ns ss n s) = rw (past_one i, past i, add-one i) (marks_at ns ss i (omega arith) (omega arith))

pub mark_read : (ns ss : List ℕ) (i : ℕ) → i < MAX-OPEN → Sized ns ss → mark_in ns ss i ≡ mark_at (state_of ns ss) i
mark_read ns ss i h z = mark_there i h (shape ns ss z)

-- ---- another head

module _ (h : Head) where
  headed_begun : {ns : List ℕ} (ss : List ℕ) → Begun ns → state_of (headed ns h) ss ≡ state_by h ns ss
  headed_begun ss (begun c u o ns n) = refl

pub headed_state : (ns ss : List ℕ) (h : Head) → length ns ≡ NUMBERS → state_of (headed ns h) ss ≡ state_by h ns ss
headed_state ns ss h z = headed_begun h ss (begins ns z)

pub headed_length : (ns : List ℕ) (h : Head) → length (headed ns h) ≡ length ns
headed_length ns h = simp length-set

-- ---- what a call writes

abbrev opened : List ℕ → Head → List ℕ
opened ns b = let i = b.«open» in set (set ns (i + i + 3) b.used) (i + i + 3 + 1) b.count

module _ (b : Head) (r : Settled) where
  -- No snapshot was opened.
  pub after_level : (ns ss : List ℕ) → r.head.«open» ≤ b.«open» → state_by r.head ns ss ≡ state_after (state_by b ns ss) r
  unfolding state_after
  after_level ns ss h = rw (le-ltb b.«open» r.head.«open» h)

  module _ (h : b.«open» < r.head.«open») where
    -- One was, and its mark has no place: there are no more marks than serials for them.
    pub after_beyond : (ns ss : List ℕ) → length ss ≡ SERIALS → MAX-OPEN ≤ b.«open»
        → state_by r.head ns (set ss 0 r.answer.token) ≡ state_after (state_by b ns ss) r
    unfolding state_after
    after_beyond ns [] z k = absurd (omega arith)
    after_beyond ns (l ∷ ss) z k =
        let out : length (marks_of (drop 3 ns) ss) ≤ b.«open» = omega (arith, few_marks (drop 3 ns) ss) in
        rw (lt-ltb b.«open» r.head.«open» h, set_out (marks_of (drop 3 ns) ss) b.«open» (mark r.answer.token b.used b.count) out)

    -- One was, and its mark is written.
    opened_there : {ns ss : List ℕ} → Shaped ns ss
        → state_by r.head (opened ns b) (set (set ss 0 r.answer.token) (b.«open» + 1) r.answer.token) ≡ state_after (state_by b ns ss) r
    unfolding state_after
    opened_there (shaped c u o l ns ss n s) =
        let i = b.«open» in
        rw (lt-ltb i r.head.«open» h, past_one i, past i, add-one i, marks_set ns ss i b.used b.count r.answer.token)

    module _ (ns ss : List ℕ) (z : Sized ns ss) where
      pub after_opened
          : state_by r.head (opened ns b) (set (set ss 0 r.answer.token) (b.«open» + 1) r.answer.token) ≡ state_after (state_by b ns ss) r
      after_opened = opened_there (shape ns ss z)

-- ---- each is the other's

back : (ms : List Mark) → marks_of (pairs_of ms) (map (λ (m : Mark). m.serial) ms) ≡ ms
unfolding marks_of pairs_of
back [] = refl
back (m ∷ ms) = ap (λ (r : List Mark). m ∷ r) (back ms)

pub state_numbers_lem : (s : State) → state_of (state_numbers s) (state_serials s) ≡ s
state_numbers_lem s = rw (back s.marks)

pairs : (ns ss : List ℕ) → length ns ≡ length ss + length ss → pairs_of (marks_of ns ss) ≡ ns
unfolding marks_of pairs_of
pairs [] ss e = refl
pairs (l ∷ []) ss e = absurd (omega arith)
pairs (l ∷ k ∷ ns) [] e = absurd (omega arith)
pairs (l ∷ k ∷ ns) (s ∷ ss) e = ap (λ (r : List ℕ). l ∷ k ∷ r) (pairs ns ss (omega arith))

firsts : (ns ss : List ℕ) → length ns ≡ length ss + length ss → map (λ (m : Mark). m.serial) (marks_of ns ss) ≡ ss
unfolding marks_of
firsts [] [] e = refl
firsts [] (s ∷ ss) e = absurd (omega arith)
firsts (l ∷ []) ss e = absurd (omega arith)
firsts (l ∷ k ∷ ns) [] e = absurd (omega arith)
firsts (l ∷ k ∷ ns) (s ∷ ss) e = ap (λ (r : List ℕ). s ∷ r) (firsts ns ss (omega arith))

both_back : {ns ss : List ℕ} → Shaped ns ss → (state_numbers (state_of ns ss) ≡ ns) × (state_serials (state_of ns ss) ≡ ss)
both_back (shaped c u o l ns ss n s) = (rw (pairs ns ss (omega arith)), rw (firsts ns ss (omega arith)))

pub numbers_state : (ns ss : List ℕ) → Sized ns ss → (state_numbers (state_of ns ss) ≡ ns) × (state_serials (state_of ns ss) ≡ ss)
numbers_state ns ss z = both_back (shape ns ss z)

-- ---- the mark that a call is about

-- A call that names no token is about no mark, whatever is open.
pub no_mark : (s : State) (c : Call) → None ≡ mark_of s c → None ≡ mark_for s c
unfolding mark_for
no_mark s c q = rw (← q) (sym (either_way (ltb MAX-OPEN s.«open») None))

-- A commit is about the mark that a rollback is about, and all questions are about the same one.
pub commit_mark : (s : State) (token : ℕ) → mark_for s (Rollback token) ≡ mark_for s (Commit token)
unfolding mark_for
commit_mark s token = refl

pub actions_mark : (s : State) (token : ℕ) → mark_for s (Keys token) ≡ mark_for s (Actions token)
unfolding mark_for
actions_mark s token = refl

pub changes_mark : (s : State) (token : ℕ) → mark_for s (Keys token) ≡ mark_for s (Changes token)
unfolding mark_for
changes_mark s token = refl
