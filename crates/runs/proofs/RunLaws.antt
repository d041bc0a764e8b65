-- A list of calls on lent numbers is a run of the rules' step. Assumes nothing.
use Rattle.std.specs.Prelude.{◌≡◌, ◌&&◌, ◌++◌, ◌+◌, ◌-◌, ◌*◌, ◌/◌, ◌≤◌, ◌<◌}
use Rattle.kit.specs.Names.{refl, sym, ap, ◌∙◌, subst, Bool, true, false, cond, List, [], ℕ, zero, suc, length, get_or, drop, sets, ltb, drop-length, arith}
use Rattle.rules.specs.Rules.{Answer, Call, Head, Sought, State, Table, table, answer_numbers, Outcome, outcome, step}
use Rattle.rules.specs.declared.call.Call.TheVariants.{Rollback, Keys}
use Rattle.std.specs.Prelude.{None}
use Rattle.layout.specs.State.{Sized, state_by, headed}
use Rattle.layout.proofs.LayoutLaws.{no_mark, commit_mark, actions_mark, changes_mark, numbers_state, headed_state, headed_length}
use Rattle.undo_log.specs.Settled.{mark_of, mark_for}
use Rattle.coding.specs.Coding.{nothing, asked, CODES, form_of, fits, is_asked, asked_of, asked_at, call_in, call_list, is_listed, calls_in, call_at}
use Rattle.coding.specs.Answers.{answers_numbers}
use Rattle.coding.proofs.CodingLaws.{known, made, Next, next_call, asked_chunk}
use Rattle.std.specs.Simd.{first_chunks}
use Rattle.runs.specs.Run.{run}
use Rattle.runs.specs.Served.{Host, host, table_of, served}

-- All that is lent, from its lists.
abbrev pub host_of : List ℕ → List ℕ → List ℕ → List ℕ → List ℕ → List ℕ → List ℕ → Host
host_of ns ss p c a l answers = host ns ss record { parents = p; crowns = c; amounts = a } l answers

-- The lent state and the room for answers keep their lengths.
pub record Kept (h₀ h : Host) : Type 0 where
  pub numbers : length h.numbers ≡ length h₀.numbers
  pub serials : length h.serials ≡ length h₀.serials
  pub answers : length h.answers ≡ length h₀.answers

-- What is left to be done of the calls, from `at` on, leads to the same end.
pub record Going (h₀ h : Host) (l : List ℕ) (at to : ℕ) : Type 0 where
  pub kept : Kept h₀ h
  pub sized : Sized h.numbers h.serials
  pub calls : is_listed (call_list (drop at l)) ≡ true
  pub within : at ≤ length l
  pub pace : 4 * to ≡ 9 * at
  pub room : 9 * length l ≤ 4 * length h.answers
  pub table : (run (table_of h) (calls_in (call_list (drop at l)))).table ≡ (run (table_of h₀) (calls_in (call_list l))).table
  pub answers : sets h.answers to (answers_numbers (run (table_of h) (calls_in (call_list (drop at l)))).answers)
      ≡ sets h₀.answers 0 (answers_numbers (run (table_of h₀) (calls_in (call_list l))).answers)

pub nine_on : (l : List ℕ) (to : ℕ) (a : Answer) (ns : List ℕ) → sets (sets l to (answer_numbers a)) (to + 9) ns ≡ sets l to (answer_numbers a ++ ns)
nine_on l to a ns = let e : to + 9 ≡ suc (suc (suc (suc (suc (suc (suc (suc (suc to)))))))) = omega arith in rw e

module _ (h₀ h : Host) (l : List ℕ) (at to : ℕ) (g : Going h₀ h l at to) where
  module _ (k : at < length l) where
    pub next_of : Next l at
    next_of = next_call l at k g.calls

    pub room_of : to + 9 ≤ length h.answers
    room_of = omega (arith, next_of.room, g.room, g.pace)

    pub going_on : (h' : Host) (a : Answer) (c : Call) → c ≡ call_at l at → outcome a (table_of h') ≡ step (table_of h) c
        → h'.answers ≡ sets h.answers to (answer_numbers a) → Kept h h' → Going h₀ h' l (at + 4) (to + 9)
    unfolding run answers_numbers
    going_on h' a c q e w m =
        let n = next_of in
        let rest = calls_in (call_list (drop (at + 4) l)) in
        let o : outcome a (table_of h') ≡ step (table_of h) (call_at l at) = e ∙ ap (step (table_of h)) q in
        let t : table_of h' ≡ (step (table_of h) (call_at l at)).table = ap (λ (x : Outcome). x.table) o in
        let b : a ≡ (step (table_of h) (call_at l at)).answer = ap (λ (x : Outcome). x.answer) o in
        record {
          kept = omega (arith, m, g.kept);
          sized = omega (arith, m, g.sized);
          calls = n.goes_on;
          within = n.room;
          pace = omega (arith, g.pace);
          room = omega (arith, g.room, m.answers);
          table = ap (λ (x : Table). (run x rest).table) t ∙ ap (λ (cs : List Call). (run (table_of h) cs).table) (sym n.calls) ∙ g.table;
          answers = ap (λ (x : List ℕ). sets x (to + 9) (answers_numbers (run (table_of h') rest).answers)) w
              ∙ nine_on h.answers to a (answers_numbers (run (table_of h') rest).answers)
              ∙ ap (λ (x : Table). sets h.answers to (answer_numbers a ++ answers_numbers (run x rest).answers)) t
              ∙ ap (λ (x : Answer). sets h.answers to (answer_numbers x ++ answers_numbers (run (step (table_of h) (call_at l at)).table rest).answers)) b
              ∙ ap (λ (cs : List Call). sets h.answers to (answers_numbers (run (table_of h) cs).answers)) (sym n.calls)
              ∙ g.answers;
        }

  pub going_ends : length l ≤ at → h ≡ served h₀ (calls_in (call_list l))
  unfolding run answers_numbers served call_list
  going_ends k =
      let all : at ≡ length l = omega (arith, g.within) in
      let none : drop at l ≡ [] = ap (λ (n : ℕ). drop n l) all ∙ drop-length l in
      let t : table_of h ≡ (run (table_of h₀) (calls_in (call_list l))).table =
      ap (λ (x : List ℕ). (run (table_of h) (calls_in (call_list x))).table) (sym none) ∙ g.table in
      let a : h.answers ≡ sets h₀.answers 0 (answers_numbers (run (table_of h₀) (calls_in (call_list l))).answers) =
      ap (λ (x : List ℕ). sets h.answers to (answers_numbers (run (table_of h) (calls_in (call_list x))).answers)) (sym none) ∙ g.answers in
      let b = numbers_state h.numbers h.serials g.sized in
      rw (← t, ← a, b.0, b.1)

-- ---- with the head by value

-- All that is lent, with the head that is at hand written.
abbrev pub written_host : Head → Host → Host
written_host hd h = host (headed h.numbers hd) h.serials h.rows h.log h.answers

-- The calls go on as they would if it were.
pub record Keeping (h₀ : Host) (hd : Head) (h : Host) (l : List ℕ) (at to : ℕ) : Type 0 where
  pub going : Going h₀ (written_host hd h) l at to
  pub sized : Sized h.numbers h.serials

-- The table of a head at hand.
abbrev pub table_by : Head → Host → Table
table_by hd h = table h.rows h.log (state_by hd h.numbers h.serials)

written : (h : Host) (hd : Head) → Sized h.numbers h.serials
    → table_of (written_host hd h) ≡ table_by hd h
written h hd z = ap {B = Table} (table h.rows h.log) (headed_state h.numbers h.serials hd z.numbers)

module _ (h₀ : Host) (hd : Head) (h : Host) (l : List ℕ) (at to : ℕ) (k : Keeping h₀ hd h l at to) where
  pub keeping_on : at < length l → (h' : Host) (a : Answer) (hd' : Head) → outcome a (table_by hd' h') ≡ step (table_by hd h) (call_at l at)
      → h'.answers ≡ sets h.answers to (answer_numbers a) → Kept h h' → Keeping h₀ hd' h' l (at + 4) (to + 9)
  keeping_on i h' a hd' e w m =
      let z : Sized h'.numbers h'.serials = omega (arith, m, k.sized) in
      let o = ap {B = Outcome} (outcome a) (written h' hd' z) ∙ e ∙ ap {B = Outcome} (λ (x : Table). step x (call_at l at)) (sym (written h hd k.sized)) in
      record {
        going = going_on h₀ (written_host hd h) l at to k.going i (written_host hd' h') a (call_at l at) refl o w
            (omega (arith, m, headed_length h.numbers hd, headed_length h'.numbers hd'));
        sized = z;
      }

  -- At the same places, said otherwise.
  pub keeping_at : (at' to' : ℕ) → at ≡ at' → to ≡ to' → Keeping h₀ hd h l at' to'
  keeping_at at' to' p q = subst (λ (x : ℕ). Keeping h₀ hd h l x to') p (subst (λ (y : ℕ). Keeping h₀ hd h l at y) q k)

-- Each four of a list are what stands at four times their place.
pub four_of : (fours : List (List ℕ)) (l : List ℕ) (i : ℕ) → fours ≡ first_chunks 4 (length l / 4) l → i < length l / 4
    → asked_at (get_or fours i []) 0 ≡ asked_at l (4 * i)
four_of fours l i q h = ap (λ (f : List (List ℕ)). asked_at (get_or f i []) 0) q ∙ asked_chunk (length l / 4) i l h

-- ---- codes that name no token

module _ (s : State) (a b c : ℕ) where
  form_names_none : (code : ℕ) → code < 10 → None ≡ mark_of s (form_of code a b c).1
  form_names_none zero h = refl
  form_names_none (suc zero) h = refl
  form_names_none (suc (suc zero)) h = refl
  form_names_none (suc (suc (suc zero))) h = refl
  form_names_none (suc (suc (suc (suc zero)))) h = refl
  form_names_none (suc (suc (suc (suc (suc zero))))) h = refl
  form_names_none (suc (suc (suc (suc (suc (suc zero)))))) h = refl
  form_names_none (suc (suc (suc (suc (suc (suc (suc zero))))))) h = refl
  form_names_none (suc (suc (suc (suc (suc (suc (suc (suc zero)))))))) h = refl
  form_names_none (suc (suc (suc (suc (suc (suc (suc (suc (suc zero))))))))) h = refl
  form_names_none (suc (suc (suc (suc (suc (suc (suc (suc (suc (suc n)))))))))) h = absurd (omega arith)

  -- What is no call reads as one that names none either.
  asked_none : (x : Call) (fine : Bool) → None ≡ mark_of s x → None ≡ mark_of s (call_in (cond fine (asked x) nothing))
  asked_none x true e = e
  asked_none x false e = refl

  pub code_names_none : (code : ℕ) → code < 10 → None ≡ mark_for s (call_in (asked_of code a b c))
  unfolding asked_of
  code_names_none code h =
      no_mark s (call_in (asked_of code a b c))
      (asked_none (form_of code a b c).1 (ltb code CODES && fits (form_of code a b c).0 a b c) (form_names_none code h))

-- ---- codes that name one

module _ (s : State) (code a b c : ℕ) (e : is_asked (asked_of code a b c) ≡ true) where
  asked_form : (form_of code a b c).1 ≡ call_in (asked_of code a b c)
  asked_form = made code a b c e (record { most = refl; call = λ q. refl })

  closes : (k : ℕ) → code ≡ 10 + k → k < 2 → mark_for s (Rollback a) ≡ mark_for s (form_of code a b c).1
  closes zero q h = rw q
  closes (suc zero) q h = rw q (commit_mark s a)
  closes (suc (suc k)) q h = absurd (omega arith)

  asks : (k : ℕ) → code ≡ 12 + k → k < 3 → mark_for s (Keys a) ≡ mark_for s (form_of code a b c).1
  asks zero q h = rw q
  asks (suc zero) q h = rw q (actions_mark s a)
  asks (suc (suc zero)) q h = rw q (changes_mark s a)
  asks (suc (suc (suc k))) q h = absurd (omega arith)

  pub code_closes : 10 ≤ code → code < 12 → mark_for s (Rollback a) ≡ mark_for s (call_in (asked_of code a b c))
  code_closes g h = closes (code - 10) (omega arith) (omega arith) ∙ ap {B = Sought} (mark_for s) asked_form

  pub code_asks : 12 ≤ code → mark_for s (Keys a) ≡ mark_for s (call_in (asked_of code a b c))
  code_asks g = let k = known code a b c e in asks (code - 12) (omega arith) (omega arith) ∙ ap {B = Sought} (mark_for s) asked_form
