-- Laws of reading a journal from its end: each trailer says what the part before it must be. Assumes nothing.
use Rattle.std.specs.Prelude.{◌≡◌, ◌&&◌, ◌++◌, ◌+◌, ◌-◌, ◌≤◌, ◌<◌}
use Rattle.kit.specs.Names.{refl, sym, ap, ◌∙◌, Bool, true, false, cond, List, [], ℕ, suc}
use Rattle.kit.specs.Names.{length, eqb, leb, arith, ℕ_discrete, dec_lt, le-ltb, lt-ltb, eq-eqb, ne_eqb, le-leb, lt-leb, eqb-true}
use Rattle.std.proofs.lemmas.Bool.{and_parts}
use mathlib.Core.Bool.{and-false, and_assoc}
use native.Mathlib.Nat.{zero-add}
use Rattle.rules.specs.Rules.{MAX-OPEN}
use Rattle.journal.specs.declared.entry.Entry.{Entry}
use Rattle.journal.specs.Numbers.{TRAILER-BYTES}
use Rattle.journal.specs.Entry.{Bytes, little_at, entries_at}
use Rattle.journal.specs.Journal.{trailer_at, points, Journal, no_journal, journal, followed, read_to, orderly, open_in, tested, is_journal, journal_of}
use Rattle.journal.specs.Journal.{valid}
use Rattle.journal.proofs.ReadLaws.{tested_orderly, orderly_more, open_more, read_nothing, read_short, read_trailer}
use Rattle.valid.specs.declared.place.Place.{Place}
use Rattle.valid.specs.declared.window.Window.{Window}
use Rattle.valid.specs.Window.{admits, narrowed}
use Rattle.valid.specs.Place.{ends_in, between, back, judged, Placed, Nearer, segments_told, followed_by}
use Rattle.valid.proofs.WindowLaws.{open_in_lem, narrowed_admits}

-- ---- nothing before the first segment

module _ (segments : ℕ) (w : Window) where
  pub segments_left : (segments ≡ 0 → ⊥) → false ≡ ends_in segments w (journal 0 [])
  segments_left n = rw (ne_eqb 0 segments (λ e. n (sym e)))

  pub some_open : (w.least ≡ 0 → ⊥) → false ≡ ends_in segments w (journal 0 [])
  unfolding orderly open_in
  some_open h = rw (lt-leb w.least 0 (omega arith), and-false (eqb 0 segments))

  pub none_open : segments ≡ 0 → w.least ≡ 0 → leb w.rise MAX-OPEN ≡ ends_in segments w (journal 0 [])
  unfolding orderly open_in
  none_open e h = rw (eq-eqb 0 segments (sym e), le-leb w.least 0 (omega arith), zero-add w.rise)

-- ---- a segment after what comes before

module _ (w : Window) (segments number : ℕ) (last : List Entry) where
  no_number : (j : Journal) → (number + 1 ≡ segments → ⊥) → ends_in segments w (followed j number last) ≡ false
  no_number no_journal n = refl
  no_number (journal k es) n =
      elim (ℕ_discrete number k) [
        | yes e ↦ rw (eq-eqb number k e, ne_eqb (suc k) segments (λ s. n (omega (arith, e, s))))
        | no d ↦ rw (ne_eqb number k d)
      ]

  the_rest : (j : Journal) → number + 1 ≡ segments → ends_in segments w (followed j number last) ≡ ends_in number (narrowed last w) j
  the_rest no_journal e = refl
  the_rest (journal k es) e =
      elim (ℕ_discrete number k) [
        | yes s ↦
            let same : suc k ≡ segments = omega (arith, e, s) in
            rw (eq-eqb number k s, eq-eqb (suc k) segments same, eq-eqb k number (sym s), orderly_more 0 es last, open_more 0 es last)
            (and_assoc (orderly 0 es) (orderly (open_in 0 es) last) (admits w (open_in (open_in 0 es) last))
            ∙ go (orderly 0 es) (λ o. sym (narrowed_admits last w (open_in 0 es) (open_in_lem es 0 (omega arith) o))))
        | no d ↦ rw (ne_eqb number k d, ne_eqb k number (λ s. d (sym s)))
      ]
    where
      go : (b : Bool) → (b ≡ true → orderly (open_in 0 es) last && admits w (open_in (open_in 0 es) last) ≡ admits (narrowed last w) (open_in 0 es))
          → b && (orderly (open_in 0 es) last && admits w (open_in (open_in 0 es) last)) ≡ b && admits (narrowed last w) (open_in 0 es)
      go true f = f refl
      go false f = refl

-- ---- the bytes up to an end

module _ (bs : Bytes) (end segments : ℕ) (w : Window) where
  abbrev at : ℕ
  at = end - TRAILER-BYTES

  pub at_front : end ≡ 0 → ends_in segments w (journal 0 []) ≡ ends_in segments w (read_to end bs end)
  at_front e = rw e (ap (ends_in segments w) (sym (read_nothing bs)))

  pub no_trailer : (end ≡ 0 → ⊥) → end < TRAILER-BYTES → false ≡ ends_in segments w (read_to end bs end)
  no_trailer n h = ap (ends_in segments w) (sym (read_short bs end (omega arith) h))

  -- The trailer that ends there.
  module _ (distance count : ℕ) (long : TRAILER-BYTES ≤ end) (d : distance ≡ little_at 4 bs at) (c : count ≡ little_at 4 bs (at + 4)) where
    abbrev start : ℕ
    start = at - distance

    read : read_to end bs end
        ≡ cond (points (back distance count) at) (followed (read_to start bs start) (little_at 4 bs (at + 8)) (entries_at count bs start)) no_journal
    read = rw (d, c) (read_trailer bs end long)

    pub points_nowhere : points (back distance count) at ≡ false → false ≡ ends_in segments w (read_to end bs end)
    points_nowhere p = rw (read, p)

    module _ (p : points (back distance count) at ≡ true) (number : ℕ) (n : number ≡ little_at 4 bs (at + 8)) where
      read_on : read_to end bs end ≡ followed (read_to start bs start) number (entries_at count bs start)
      read_on =
          rw n (read ∙ ap (λ (b : Bool). cond b (followed (read_to start bs start) (little_at 4 bs (at + 8)) (entries_at count bs start)) no_journal) p)

      pub other_number : (number + 1 ≡ segments → ⊥) → false ≡ ends_in segments w (read_to end bs end)
      other_number m = sym (ap (ends_in segments w) read_on ∙ no_number w segments number (entries_at count bs start) (read_to start bs start) m)

      pub further_back : number + 1 ≡ segments
          → ends_in number (narrowed (entries_at count bs start) w) (read_to start bs start) ≡ ends_in segments w (read_to end bs end)
      further_back m =
          sym (ap (ends_in segments w) read_on ∙ the_rest w segments number (entries_at count bs start) (read_to start bs start) m)

-- ---- all bytes

-- A last segment of this number.
last_one : (w : Window) (j : Journal) (number : ℕ) (last : List Entry)
    → ends_in (number + 1) w (followed j number last) ≡ followed_by w (tested (followed j number last))
last_one w no_journal number last = refl
last_one w (journal k es) number last =
    elim (ℕ_discrete number k) [
      | yes e ↦ rw (eq-eqb number k e, eq-eqb (suc k) (number + 1) (omega (arith, e))) (go (orderly 0 (es ++ last)))
      | no d ↦ rw (ne_eqb number k d)
    ]
  where
    go : (b : Bool) → b && admits w (open_in 0 (es ++ last)) ≡ followed_by w (cond b (journal (suc k) (es ++ last)) no_journal)
    go true = refl
    go false = refl

module _ (bs : Bytes) (w : Window) where
  all_empty : length bs ≡ 0 → ends_in 0 w (read_to (length bs) bs (length bs)) ≡ followed_by w (journal_of bs)
  unfolding orderly
  all_empty e = rw (e, read_nothing bs)

  all_long : TRAILER-BYTES ≤ length bs
      → ends_in (little_at 4 bs (length bs - TRAILER-BYTES + 8) + 1) w (read_to (length bs) bs (length bs)) ≡ followed_by w (journal_of bs)
  all_long long =
      let end = length bs in
      let at = end - 12 in
      let t = trailer_at bs at in
      let start = at - t.distance in
      let j = followed (read_to start bs start) t.number (entries_at t.count bs start) in
      rw (read_trailer bs end long) (go (points t at) j (last_one w (read_to start bs start) t.number (entries_at t.count bs start)))
    where
      go : (b : Bool) (j : Journal)
          → ends_in (little_at 4 bs (length bs - 12 + 8) + 1) w j ≡ followed_by w (tested j)
          → ends_in (little_at 4 bs (length bs - 12 + 8) + 1) w (cond b j no_journal) ≡ followed_by w (tested (cond b j no_journal))
      go true j e = e
      go false j e = refl

  pub all_read : ends_in (segments_told bs) w (read_to (length bs) bs (length bs)) ≡ followed_by w (journal_of bs)
  all_read =
      elim (dec_lt (length bs) TRAILER-BYTES) [
        | yes h ↦
            rw (lt-ltb (length bs) 12 h)
            (elim (ℕ_discrete (length bs) 0) [
              | yes e ↦ all_empty e
              | no n ↦ rw (read_short bs (length bs) (omega arith) h)
            ])
        | no h ↦ rw (le-ltb (length bs) 12 (omega arith)) (all_long (omega arith))
      ]

-- Any number up to 32 may be open where nothing follows.
any_open : (n : ℕ) → n ≤ MAX-OPEN → admits (between 0 0) n ≡ true
any_open n h = rw (le-leb 0 n (omega arith), le-leb (n + 0) MAX-OPEN (omega arith))

nothing_follows : (j : Journal) → followed_by (between 0 0) (tested j) ≡ is_journal (tested j)
nothing_follows no_journal = refl
nothing_follows (journal n es) = go (orderly 0 es) (λ o. any_open (open_in 0 es) (open_in_lem es 0 (omega arith) o))
  where
    go : (b : Bool) → (b ≡ true → admits (between 0 0) (open_in 0 es) ≡ true)
        → followed_by (between 0 0) (cond b (journal n es) no_journal) ≡ is_journal (cond b (journal n es) no_journal)
    go true f = f refl
    go false f = refl

pub valid_alone : (bs : Bytes) → followed_by (between 0 0) (journal_of bs) ≡ valid bs
valid_alone bs = nothing_follows (read_to (length bs) bs (length bs))

-- ---- places

-- A run of so many segments.
pub record Running (bs : Bytes) (p now : Place) (many : ℕ) : Type 0 where
  pub placed : Placed bs now
  pub some : 0 < p.end
  pub onward : now.end ≤ p.end
  pub begun : 0 < many → now.end < p.end
  pub same : judged bs now ≡ judged bs p

module _ {bs : Bytes} {p : Place} where
  pub run_begins : Placed bs p → 0 < p.end → Running bs p p 0
  run_begins q h = record { placed = q; some = h; onward = omega arith; begun = λ k. absurd (omega arith); same = refl }

  module _ {now : Place} (many : ℕ) (g : Running bs p now many) where
    pub run_on : {next : Place} → Nearer bs now next → Running bs p next (many + 1)
    run_on r =
        record {
          placed = r.placed;
          some = g.some;
          onward = omega (arith, r.falls, g.onward);
          begun = λ k. omega (arith, r.falls, g.onward);
          same = r.same ∙ g.same;
        }

    pub run_fails : false ≡ judged bs now → false ≡ judged bs p
    run_fails e = e ∙ g.same

    pub run_ends : 0 < many → Nearer bs p now
    run_ends h = record { placed = g.placed; falls = g.begun h; same = g.same }

    pub run_stops : now.end ≡ 0 → Nearer bs p now
    run_stops e = record { placed = g.placed; falls = omega (arith, g.some, e); same = g.same }

-- ---- for an append: what is to be appended, and the journal before it

-- The last trailer of a journal says how many segments there are.
pub told_right : (bs : Bytes) (n : ℕ) (es : List Entry) → journal_of bs ≡ journal n es → segments_told bs ≡ n
told_right bs n es e =
    let w = between 0 0 in
    let end = length bs in
    let t = tested_orderly (read_to end bs end) n es e in
    let yes : ends_in (segments_told bs) w (journal n es) ≡ true =
    ap (ends_in (segments_told bs) w) (sym t.0)
    ∙ all_read bs w
    ∙ ap (followed_by w) e
    ∙ any_open (open_in 0 es) (open_in_lem es 0 (omega arith) t.1) in
    sym (eqb-true n (segments_told bs) (and_parts (eqb n (segments_told bs)) (orderly 0 es && admits w (open_in 0 es)) yes).0)

-- Q-1: "12 when the journal isn't valid or wouldn't be with it". Entries may follow a journal where the window before them admits what it
-- leaves open.
pub may_follow : (bs : Bytes) (n : ℕ) (es new : List Entry) → journal_of bs ≡ journal n es
    → followed_by (narrowed new (between 0 0)) (journal_of bs) ≡ orderly (open_in 0 es) new
may_follow bs n es new e =
    let end = length bs in
    let open-there = open_in_lem es 0 (omega arith) (tested_orderly (read_to end bs end) n es e).1 in
    ap (followed_by (narrowed new (between 0 0))) e
    ∙ narrowed_admits new (between 0 0) (open_in 0 es) open-there
    ∙ go (orderly (open_in 0 es) new) (λ o. any_open (open_in (open_in 0 es) new) (open_in_lem new (open_in 0 es) open-there o))
  where
    go : (b : Bool) → (b ≡ true → admits (between 0 0) (open_in (open_in 0 es) new) ≡ true) → b && admits (between 0 0) (open_in (open_in 0 es) new) ≡ b
    go true f = f refl
    go false f = refl
