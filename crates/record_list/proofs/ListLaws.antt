-- A list of calls that are written is a run of the rule's step. Assumes nothing.
use Rattle.std.specs.Prelude.{◌≡◌, ◌∷◌, ◌+◌, ◌*◌, ◌/◌, ◌≤◌, ◌<◌}
use Rattle.kit.specs.Names.{refl, sym, ap, ◌∙◌, true, List, [], ℕ, length, drop, sets}
use Rattle.kit.specs.Names.{drop-length, dec_lt, arith}
use Rattle.rules.specs.Rules.{Answer, Call, Head, State, answer_numbers}
use Rattle.layout.specs.State.{Sized, head_in, state_of, state_numbers, state_serials, headed}
use Rattle.layout.proofs.LayoutLaws.{numbers_state, headed_state, headed_length}
use Rattle.coding.specs.Coding.{call_list, is_listed, calls_in, call_at}
use Rattle.coding.specs.Answers.{answers_numbers}
use Rattle.coding.proofs.CodingLaws.{Next, next_call}
use Rattle.journal.specs.Record.{Book, Recorded, recorded, RecordedAll, record_step, record_all}
use Rattle.runs.specs.Served.{Host, host}
use Rattle.std.proofs.Math.Seq.{length-sets}
use Rattle.runs.proofs.RunLaws.{nine_on, written_host, table_by}
use Rattle.record_list.specs.Lent.{Lent, lent, recorded_from}

-- ---- one call more

-- What a run of calls leaves, with answers that are there already.
abbrev leaves : List ℕ → ℕ → RecordedAll → Lent
leaves answers to r = lent (host (state_numbers r.table.state) (state_serials r.table.state) r.table.rows r.table.log
    (sets answers to (answers_numbers r.answers))) r.journal

-- What calls leave of a table with this head at hand.
unfoldable pub under : ℕ → Head → Host → Book → List Call → Lent
under to hd h j cs = leaves h.answers to (record_all j (table_by hd h) cs)

module _ (to : ℕ) (hd hd' : Head) (h h' : Host) (j j' : Book) (a : Answer) (c : Call) (cs : List Call)
    (e : recorded a (table_by hd' h') j' ≡ record_step j.bytes j.known (table_by hd h) c) (w : h'.answers ≡ sets h.answers to (answer_numbers a)) where
  one_call_lem : under (to + 9) hd' h' j' cs ≡ under to hd h j (c ∷ cs)
  unfolding under record_all answers_numbers
  one_call_lem =
      rw (w, nine_on h.answers to a (answers_numbers (record_all j' (table_by hd' h') cs).answers))
      (ap {B = Lent}
      (λ (x : Recorded).
      let r = record_all x.journal x.table cs in
      leaves h.answers to (record { answers = x.answer ∷ r.answers; table = r.table; journal = r.journal }))
      e)

no_calls : (to : ℕ) (hd : Head) (h : Host) (j : Book) → Sized h.numbers h.serials → lent (written_host hd h) j ≡ under to hd h j []
unfolding under record_all answers_numbers
no_calls to hd h j z =
    let b = numbers_state (headed h.numbers hd) h.serials (omega (arith, z, headed_length h.numbers hd)) in
    let s = headed_state h.numbers h.serials hd z.numbers in
    ap {B = Lent} (λ (ns : List ℕ). lent (host ns h.serials h.rows h.log h.answers) j) (sym b.0)
    ∙ ap {B = Lent} (λ (ss : List ℕ). lent (host (state_numbers (state_of (headed h.numbers hd) h.serials)) ss h.rows h.log h.answers) j) (sym b.1)
    ∙ ap {B = Lent} (λ (x : State). lent (host (state_numbers x) (state_serials x) h.rows h.log h.answers) j) s

-- ---- what is left of a list

-- The calls from `at` on lead to the same end, with the head that is at hand.
pub record Writing (h₀ : Host) (j₀ : Book) (hd : Head) (h : Host) (j : Book) (l : List ℕ) (at to : ℕ) : Type 0 where
  pub calls : is_listed (call_list (drop at l)) ≡ true
  pub within : at ≤ length l
  pub pace : 4 * to ≡ 9 * at
  pub room : 9 * length l ≤ 4 * length h.answers
  pub same : under to hd h j (calls_in (call_list (drop at l))) ≡ recorded_from 0 h₀ j₀ (calls_in (call_list l))

pub writing_starts : (h : Host) (j : Book) (l : List ℕ) → is_listed (call_list l) ≡ true
    → 9 * length l ≤ 4 * length h.answers → (hd : Head) → hd ≡ head_in h.numbers
    → Writing h j hd h j l 0 0
unfolding under recorded_from
writing_starts h j l c r hd e =
    record {
      calls = c;
      within = omega arith;
      pace = refl;
      room = r;
      same = ap {B = Lent} (λ (x : Head). leaves h.answers 0 (record_all j (table_by x h) (calls_in (call_list l)))) e;
    }

module _ (h₀ : Host) (j₀ : Book) (hd : Head) (h : Host) (j : Book) (l : List ℕ) (at to : ℕ) (g : Writing h₀ j₀ hd h j l at to) where
  module _ (k : at < length l) where
    pub next_of : Next l at
    next_of = next_call l at k g.calls

    pub room_of : to + 9 ≤ length h.answers
    room_of = omega (arith, next_of.room, g.room, g.pace)

    pub writing_on : (h' : Host) (j' : Book) (a : Answer) (hd' : Head)
        → recorded a (table_by hd' h') j' ≡ record_step j.bytes j.known (table_by hd h) (call_at l at)
        → h'.answers ≡ sets h.answers to (answer_numbers a)
        → Writing h₀ j₀ hd' h' j' l (at + 4) (to + 9)
    writing_on h' j' a hd' e w =
        let n = next_of in
        let rest = calls_in (call_list (drop (at + 4) l)) in
        record {
          calls = n.goes_on;
          within = n.room;
          pace = omega (arith, g.pace);
          room = omega (arith, g.room, ap length w, length-sets h.answers to (answer_numbers a));
          same = one_call_lem to hd hd' h h' j j' a (call_at l at) rest e w ∙ ap {B = Lent} (under to hd h j) (sym n.calls) ∙ g.same;
        }

  pub writing_ends : length l / 4 * 4 ≤ at → Sized h.numbers h.serials → lent (written_host hd h) j ≡ recorded_from 0 h₀ j₀ (calls_in (call_list l))
  unfolding call_list
  writing_ends i z =
      let k : length l ≤ at =
      elim (dec_lt at (length l)) [
        | yes x ↦ absurd (omega (arith, (next_of x).room))
        | no x ↦ omega arith
      ] in
      let all : at ≡ length l = omega (arith, g.within) in
      let none : drop at l ≡ [] = ap (λ (n : ℕ). drop n l) all ∙ drop-length l in
      no_calls to hd h j z
      ∙ ap {B = Lent} (λ (x : List ℕ). under to hd h j (calls_in (call_list x))) (sym none)
      ∙ g.same
