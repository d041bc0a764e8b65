-- Laws of an append: when a journal is valid with one segment more, and what it then is. Assumes nothing.
use Rattle.std.specs.Prelude.{◌≡◌, ◌||◌, ◌&&◌, ◌++◌}
use Rattle.kit.specs.Names.{refl, sym, ap, ◌∙◌, Bool, true, false, cond, not, List, [], append_assoc, append-nil, ℕ}
use Rattle.std.specs.Prelude.{◌+◌, ◌*◌, ◌-◌, ◌/◌, ◌≤◌, ◌<◌}
use Rattle.kit.specs.Names.{suc}
use Rattle.kit.specs.Names.{length, take, drop, length-append, eqb, leb, ltb, arith, dec_lt, eq-eqb, ne_eqb, leb-true, eqb-true, ltb-false}
use Rattle.kit.specs.Names.{lt-ltb, le-ltb, le_refl}
use Rattle.kit.specs.Names.{length-take-le, length-drop}
use Rattle.std.proofs.lemmas.Bool.{and_parts}
use lib.ListN.{get_or-append}
use lib.Seq.{take_at, drop_at}
use native.Mathlib.Nat.{div-eq_of_eq-mul_right}
use Rattle.rules.specs.Rules.{DONE, WORD}
use Rattle.journal.specs.declared.entry.Entry.{Entry}
use Rattle.journal.specs.Numbers.{ENTRY-BYTES, TRAILER-BYTES, SEGMENT}
use Rattle.journal.specs.Entry.{Bytes, little_endian, little_at, entries_at, entries_bytes, AllProper}
use Rattle.journal.specs.Journal.{trailer_bytes, Journal, no_journal, journal, followed, read_to, orderly, open_in, journal_of, is_journal}
use Rattle.journal.specs.Journal.{valid}
use Rattle.journal.specs.Append.{Appended, segments_of, entries_of, fills, entries_in, segment, declined, append}
use Rattle.journal.specs.Kept.{Kept, Untouched}
use Rattle.journal.proofs.ByteLaws.{length_number, number_there, number_fits, entries_same, entries_after, entries_back, length_entries}
use Rattle.journal.proofs.ReadLaws.{one_round, read_same, read_enough, orderly_more, tested_orderly}

-- ---- the segment's bytes

pub length_segment : (n : ℕ) (entries : Bytes) → length (segment n entries) ≡ length entries + TRAILER-BYTES
length_segment n entries = simp (length-append, length_number)

-- What bytes say that fill a segment.
record Filling (entries : Bytes) (count : ℕ) : Type 0 where
  whole : length entries ≡ ENTRY-BYTES * count
  some : 1 ≤ count
  few : count ≤ SEGMENT

filling : (entries : Bytes) → fills entries ≡ true → Filling entries (length entries / ENTRY-BYTES)
filling entries e =
    let count = length entries / 24 in
    let few = and_parts (eqb (length entries) (24 * count) && leb 1 count) (leb count SEGMENT) e in
    let some = and_parts (eqb (length entries) (24 * count)) (leb 1 count) few.0 in
    record {
      whole = eqb-true (length entries) (24 * count) some.0;
      some = leb-true 1 count some.1;
      few = leb-true count SEGMENT few.1;
    }

-- ---- a journal and one segment after it

module _ (before entries : Bytes) (n : ℕ) (f : fills entries ≡ true) where
  abbrev count : ℕ
  count = length entries / ENTRY-BYTES

  abbrev bytes : Bytes
  bytes = before ++ segment n entries

  abbrev at : ℕ
  at = length before + ENTRY-BYTES * count

  end : length bytes ≡ at + TRAILER-BYTES
  end = rw (length-append before (segment n entries), length_segment n entries) (omega (arith, (filling entries f).whole))

  here : length (before ++ entries) ≡ at
  here = rw (length-append before entries) (omega (arith, (filling entries f).whole))

  -- The trailer's three numbers.
  back : little_at 4 bytes at ≡ ENTRY-BYTES * count
  back =
      let g = filling entries f in
      number_there 4 (length entries) bytes (before ++ entries) (little_endian 4 count ++ little_endian 4 n) at (omega (arith, g.whole, g.few))
      (simp append_assoc) here
      ∙ g.whole

  holds : little_at 4 bytes (at + 4) ≡ count
  holds =
      number_there 4 count bytes (before ++ entries ++ little_endian 4 (length entries)) (little_endian 4 n) (at + 4)
      (omega (arith, (filling entries f).few)) (simp append_assoc)
      (rw (length-append (before ++ entries) (little_endian 4 (length entries)), length_number 4 (length entries), here))

  abbrev ahead : Bytes
  ahead = before ++ entries ++ little_endian 4 (length entries) ++ little_endian 4 count

  split : bytes ≡ ahead ++ little_endian 4 n ++ []
  split = simp (append_assoc, append-nil)

  place : length ahead ≡ at + 8
  place = simp (length-append, length_number) (omega (arith, (filling entries f).whole))

  numbered : n < WORD → little_at 4 bytes (at + 8) ≡ n
  numbered h = number_there 4 n bytes ahead [] (at + 8) h split place

  misnumbered : WORD ≤ n → little_at 4 bytes (at + 8) ≡ n → ⊥
  misnumbered h e = omega (arith, number_fits 4 n bytes ahead [] (at + 8) split place, e)

  -- Its entries, and the journal before it, read where they now stand.
  entries_there : entries_at count bytes (length before) ≡ entries_in entries
  entries_there =
      let zero_more : length before + 0 ≡ length before = omega arith in
      let g = filling entries f in
      rw zero_more at (entries_after count before (segment n entries) 0)
      ∙ entries_same count (segment n entries) entries 0 0 (λ i h. get_or-append entries (trailer) 0 (0 + i) (omega (arith, g.whole)))
    where
      trailer : Bytes
      trailer = trailer_bytes (record { distance = length entries; count = count; number = n })

  before_there : (j : Journal) → read_to (length before) before (length before) ≡ j → read_to (length bytes) bytes (length before) ≡ j
  before_there j e =
      let long : length before ≤ length bytes = omega (arith, end) in
      read_same bytes before (length before) (length bytes) long (λ i h. get_or-append before (segment n entries) 0 i h)
      ∙ read_enough before (length before) (length bytes) (length before) long (le_refl (length before))
      ∙ e

  read_whole : (j : Journal) → read_to (length before) before (length before) ≡ j
      → read_to (length bytes) bytes (length bytes) ≡ followed j (little_at 4 bytes (at + 8)) (entries_in entries)
  read_whole j e =
      let g = filling entries f in
      let round = one_round bytes (length bytes) (length before) count j (before_there j e) g.some g.few back holds in
      read_enough bytes (length bytes) (length bytes) (suc (length bytes)) (le_refl (length bytes)) (omega arith)
      ∙ ap (read_to (suc (length bytes)) bytes) end
      ∙ round
      ∙ ap (followed j (little_at 4 bytes (at + 8))) entries_there

  -- "12 when the journal isn't valid or wouldn't be with it": a journal is valid with a segment if there is a number for that, and its
  -- entries may stand where those before them left off.
  pub one_more : (es : List Entry) → journal_of before ≡ journal n es
      → journal_of bytes ≡ cond (ltb n WORD && orderly (open_in 0 es) (entries_in entries)) (journal (suc n) (es ++ entries_in entries)) no_journal
  one_more es e =
      let t = tested_orderly (read_to (length before) before (length before)) n es e in
      let whole = read_whole (journal n es) t.0 in
      let more = orderly_more 0 es (entries_in entries) in
      elim (dec_lt n WORD) [
        | yes h ↦ rw (whole, eq-eqb (little_at 4 bytes (at + 8)) n (numbered h), more, t.1, lt-ltb n WORD h)
        | no h ↦ rw (whole, ne_eqb (little_at 4 bytes (at + 8)) n (misnumbered (omega arith)), le-ltb n WORD (omega arith))
      ]

-- The same as a test, for an append that looks at what it is to append.
pub valid_with : (before entries : Bytes) (n : ℕ) (es : List Entry) → journal_of before ≡ journal n es
    → fills entries && valid (before ++ segment n entries) ≡ fills entries && (ltb n WORD && orderly (open_in 0 es) (entries_in entries))
valid_with before entries n es e = go (fills entries) refl
  where
    told : (b : Bool) (m : ℕ) (fs : List Entry) → is_journal (cond b (journal m fs) no_journal) ≡ b
    told true m fs = refl
    told false m fs = refl

    go : (b : Bool) → fills entries ≡ b
        → b && valid (before ++ segment n entries) ≡ b && (ltb n WORD && orderly (open_in 0 es) (entries_in entries))
    go true f =
        ap is_journal (one_more before entries n f es e)
        ∙ told (ltb n WORD && orderly (open_in 0 es) (entries_in entries)) (suc n) (es ++ entries_in entries)
    go false f = refl

-- Where the bytes are those of a list of entries, they are read as that list.
pub entries_given : (es : List Entry) → AllProper es → entries_in (entries_bytes es) ≡ es
entries_given es p =
    let count : length (entries_bytes es) / 24 ≡ length es = div-eq_of_eq-mul_right {n = 24} (omega arith) (length_entries es) in
    rw count (rw append-nil at (entries_back [] [] es p))

-- ---- what an append answers

neither : (x y z : Bool) → x || not y || not z ≡ false → (x ≡ false) × (y ≡ true) × (z ≡ true)
neither false true true e = (refl, refl, refl)
neither false true false e = absurd (let z : ◌≡◌ {A = ℕ} 0 1 = cc in omega arith)
neither false false z e = absurd (let z : ◌≡◌ {A = ℕ} 0 1 = cc in omega arith)
neither true y z e = absurd (let z : ◌≡◌ {A = ℕ} 0 1 = cc in omega arith)

some_journal : (j : Journal) → is_journal j ≡ true → j ≡ journal (segments_of j) (entries_of j)
some_journal no_journal e = absurd (let z : ◌≡◌ {A = ℕ} 0 1 = cc in omega arith)
some_journal (journal n es) e = refl

module _ (buffer : Bytes) (used : ℕ) (entries : Bytes) where
  abbrev earlier : Bytes
  earlier = take used buffer

  abbrev next : ℕ
  next = segments_of (journal_of earlier)

  abbrev new : Bytes
  new = segment next entries

  abbrev bad : Bool
  bad = ltb (length buffer) used || not (valid earlier) || not (fills entries && valid (earlier ++ new))

  abbrev full : Bool
  full = ltb (length buffer - used) (length new)

  abbrev written : Appended
  written = record { no = DONE; used = used + length new; buffer = earlier ++ new ++ drop (used + length new) buffer }

  -- "or refuses, writing nothing"
  pub refused : ((append buffer used entries).no ≡ DONE → ⊥) → Untouched buffer used (append buffer used entries)
  refused = go bad full
    where
      go : (x y : Bool) → ((cond x (declined 12 buffer used) (cond y (declined 16 buffer used) written)).no ≡ DONE → ⊥)
          → Untouched buffer used (cond x (declined 12 buffer used) (cond y (declined 16 buffer used) written))
      go true y h = record { same = refl; as_long = refl }
      go false true h = record { same = refl; as_long = refl }
      go false false h = absurd (h refl)

  -- "12 .., then 16 NO_ROOM exactly when it is longer than the room left": what else was so.
  done : (append buffer used entries).no ≡ DONE → (bad ≡ false) × (full ≡ false) × (append buffer used entries ≡ written)
  done = go bad full
    where
      go : (x y : Bool) → (cond x (declined 12 buffer used) (cond y (declined 16 buffer used) written)).no ≡ DONE
          → (x ≡ false) × (y ≡ false) × (cond x (declined 12 buffer used) (cond y (declined 16 buffer used) written) ≡ written)
      go true y e = absurd (omega arith)
      go false true e = absurd (omega arith)
      go false false e = (refl, refl, refl)

  module _ (inside : used ≤ length buffer) (fits : length new ≤ length buffer - used) where
    front : length earlier ≡ used
    front = length-take-le used buffer inside

    till : length (earlier ++ new) ≡ used + length new
    till = rw (length-append earlier new, front)

    kept : valid (earlier ++ new) ≡ true
        → journal_of (earlier ++ new) ≡ journal (suc next) (entries_of (journal_of earlier) ++ entries_in entries) → Kept buffer used entries written
    kept v j =
        let all : take (used + length new) written.buffer ≡ earlier ++ new =
        take_at (earlier ++ new) (drop (used + length new) buffer) (used + length new) till in
        record {
          earlier =
              rw (append_assoc earlier new (drop (used + length new) buffer)) (take_at earlier (new ++ drop (used + length new) buffer) used front);
          later = drop_at (earlier ++ new) (drop (used + length new) buffer) (used + length new) till;
          room =
              rw (length-append (earlier ++ new) (drop (used + length new) buffer), till, length-drop (used + length new) buffer)
              (omega (arith, fits, inside));
          still = rw all v;
          one_more = rw all j;
        }

  -- "Add an append-only journal. .. One append writes one segment"
  pub appended : (append buffer used entries).no ≡ DONE → Kept buffer used entries (append buffer used entries)
  appended e =
      let d = done e in
      let n = neither (ltb (length buffer) used) (valid earlier) (fills entries && valid (earlier ++ new)) d.0 in
      let fv = and_parts (fills entries) (valid (earlier ++ new)) n.2 in
      let is = some_journal (journal_of earlier) n.1 in
      let more = one_more earlier entries next fv.0 (entries_of (journal_of earlier)) is in
      let may : ltb next WORD && orderly (open_in 0 (entries_of (journal_of earlier))) (entries_in entries) ≡ true =
      (and_parts (fills entries) (ltb next WORD && orderly (open_in 0 (entries_of (journal_of earlier))) (entries_in entries))
      (sym (valid_with earlier entries next (entries_of (journal_of earlier)) is) ∙ n.2)).1 in
      rw d.2 (kept (ltb-false (length buffer) used n.0) (ltb-false (length buffer - used) (length new) d.1) fv.1
      (more ∙ ap (λ (b : Bool). cond b (journal (suc next) (entries_of (journal_of earlier) ++ entries_in entries)) no_journal) may))
