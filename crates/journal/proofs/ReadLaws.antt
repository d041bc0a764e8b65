-- Laws of reading a journal by its trailers: what was read is a chain of segments, a chain is read whatever follows it, and one segment
-- more is read as its entries after the others. Assumes nothing.
use Rattle.std.specs.Prelude.{◌≡◌, ◌&&◌, ◌∷◌, ◌++◌, ◌+◌, ◌*◌, ◌-◌, ◌≤◌, ◌<◌}
use Rattle.kit.specs.Names.{refl, sym, ap, ◌∙◌, Bool, true, false, cond, List, [], ℕ, zero, suc}
use Rattle.kit.specs.Names.{length, get_or, eqb, leb, arith, ℕ_discrete, eq-eqb, ne_eqb, le-leb, lt-leb, leb-true, eqb-true, le_refl}
use Rattle.std.proofs.lemmas.Bool.{and_parts}
use Rattle.journal.specs.declared.entry.Entry.{Entry}
use Rattle.journal.specs.Numbers.{ENTRY-BYTES, TRAILER-BYTES, SEGMENT}
use Rattle.journal.specs.Entry.{Bytes, little_at, entries_at}
use Rattle.journal.specs.Journal.{Trailer, trailer_at, points, Journal, no_journal, journal, followed, read_to, open_then, may_stand, orderly}
use Rattle.journal.specs.Journal.{open_in, tested, journal_of}
use Rattle.journal.proofs.ByteLaws.{number_same, entries_same}

-- ---- Bool, and what a journal was made of

only : (b : Bool) (j : Journal) (n : ℕ) (es : List Entry) → cond b j no_journal ≡ journal n es → (b ≡ true) × (j ≡ journal n es)
only true j n es e = (refl, e)
only false j n es e = absurd (let z : ◌≡◌ {A = ℕ} 0 1 = cc in omega arith)

-- A journal that has a last segment, and the one before it.
record Before (j : Journal) (number : ℕ) (last : List Entry) (n : ℕ) (es : List Entry) : Type 0 where
  earlier : List Entry
  is : j ≡ journal number earlier
  one_more : n ≡ suc number
  all : es ≡ earlier ++ last

before : (j : Journal) (number : ℕ) (last : List Entry) (n : ℕ) (es : List Entry) → followed j number last ≡ journal n es → Before j number last n es
before no_journal number last n es e = absurd (let z : ◌≡◌ {A = ℕ} 0 1 = cc in omega arith)
before (journal segments earlier) number last n es e =
    let o = only (eqb number segments) (journal (suc segments) (earlier ++ last)) n es e in
    let same : number ≡ segments = eqb-true number segments o.0 in
    let made = o.1 in
    record { earlier = earlier; is = cc; one_more = cc; all = cc }

-- ---- a chain of segments

-- What the trailer says that stands after so many entries.
pub record Trailed (bs : Bytes) (at n count : ℕ) : Type 0 where
  pub back : little_at 4 bs at ≡ ENTRY-BYTES * count
  pub holds : little_at 4 bs (at + 4) ≡ count
  pub numbered : little_at 4 bs (at + 8) ≡ n

-- Segments up to an end: so many, with these entries.
pub data Chain (bs : Bytes) : ℕ → ℕ → List Entry → Type 0 where
  nothing : Chain bs 0 0 []
  more : {start n : ℕ} {es : List Entry} (count : ℕ) → Chain bs start n es → 1 ≤ count → count ≤ SEGMENT
      → Trailed bs (start + ENTRY-BYTES * count) n count
      → Chain bs (start + ENTRY-BYTES * count + TRAILER-BYTES) (suc n) (es ++ entries_at count bs start)

-- ---- what is read is a chain

-- What a trailer that points back says.
pub record Pointing (t : Trailer) (at : ℕ) : Type 0 where
  pub whole : t.distance ≡ ENTRY-BYTES * t.count
  pub some : 1 ≤ t.count
  pub few : t.count ≤ SEGMENT
  pub inside : t.distance ≤ at

pub pointing : (t : Trailer) (at : ℕ) → points t at ≡ true → Pointing t at
pointing t at e =
    let inside = and_parts (eqb t.distance (24 * t.count) && leb 1 t.count && leb t.count SEGMENT) (leb t.distance at) e in
    let few = and_parts (eqb t.distance (24 * t.count) && leb 1 t.count) (leb t.count SEGMENT) inside.0 in
    let some = and_parts (eqb t.distance (24 * t.count)) (leb 1 t.count) few.0 in
    record {
      whole = eqb-true t.distance (24 * t.count) some.0;
      some = leb-true 1 t.count some.1;
      few = leb-true t.count SEGMENT few.1;
      inside = leb-true t.distance at inside.1;
    }

module _ (bs : Bytes) where
  empty_chain : {n : ℕ} {es : List Entry} (end : ℕ) → end ≡ 0 → journal 0 [] ≡ journal n es → Chain bs end n es
  empty_chain {n} {es} end z e =
      let none : 0 ≡ n = cc in
      let empty : [] ≡ es = cc in
      rw (z, ← none, ← empty) nothing

  longer_chain : {n : ℕ} {es earlier : List Entry} (end : ℕ)
      → let at = end - TRAILER-BYTES in
      let t = trailer_at bs at in
      let start = at - t.distance in
      TRAILER-BYTES ≤ end → Pointing t at → Chain bs start t.number earlier → n ≡ suc t.number
      → es ≡ earlier ++ entries_at t.count bs start → Chain bs end n es
  longer_chain {n} {es} {earlier} end long p c one_more all =
      let at = end - 12 in
      let t = trailer_at bs at in
      let start = at - t.distance in
      let here : start + 24 * t.count ≡ at = omega (arith, p.whole, p.inside) in
      let there : start + 24 * t.count + 12 ≡ end = omega (arith, here) in
      let trailer : Trailed bs (start + 24 * t.count) t.number t.count = rw here (record { back = p.whole; holds = refl; numbered = refl }) in
      rw (one_more, all) (rw there at (more t.count c p.some p.few trailer))

  read_chain : (left end n : ℕ) (es : List Entry) → read_to left bs end ≡ journal n es → Chain bs end n es
  unfolding read_to
  read_chain zero end n es e =
      let o = only (eqb end 0) (journal 0 []) n es e in
      empty_chain end (eqb-true end 0 o.0) o.1
  read_chain (suc left) end n es e =
      elim (ℕ_discrete end 0) [
        | yes z ↦ empty_chain end z (rw (eq-eqb end 0 z) at e)
        | no z ↦
            let at = end - 12 in
            let t = trailer_at bs at in
            let start = at - t.distance in
            let o = only (leb 12 end && points t at) (followed (read_to left bs start) t.number (entries_at t.count bs start)) n es
            (rw (ne_eqb end 0 z) at e) in
            let p = and_parts (leb 12 end) (points t at) o.0 in
            let b = before (read_to left bs start) t.number (entries_at t.count bs start) n es o.1 in
            longer_chain end (leb-true 12 end p.0) (pointing t at p.1) (read_chain left start t.number b.earlier b.is)
            b.one_more b.all
      ]

  -- ---- a chain is read, by as many rounds as its end is or more

  -- One trailer, whatever number it has.
  pub one_round : (left start count : ℕ) (j : Journal) → read_to left bs start ≡ j → 1 ≤ count → count ≤ SEGMENT
      → little_at 4 bs (start + ENTRY-BYTES * count) ≡ ENTRY-BYTES * count → little_at 4 bs (start + ENTRY-BYTES * count + 4) ≡ count
      → read_to (suc left) bs (start + ENTRY-BYTES * count + TRAILER-BYTES)
      ≡ followed j (little_at 4 bs (start + ENTRY-BYTES * count + 8)) (entries_at count bs start)
  unfolding read_to
  one_round left start count j e some few back holds =
      let end = start + 24 * count + 12 in
      let at : end - 12 ≡ start + 24 * count = omega arith in
      let here : start + 24 * count - 24 * count ≡ start = omega arith in
      rw (
        ne_eqb end 0 (λ z. omega arith),
        le-leb 12 end (omega arith),
        at,
        back,
        holds,
        eq-eqb (24 * count) (24 * count) refl,
        le-leb 1 count some,
        le-leb count SEGMENT few,
        le-leb (24 * count) (start + 24 * count) (omega arith),
        here,
        e,
      )

  next_number : (n number : ℕ) (es fs : List Entry) → number ≡ n → followed (journal n es) number fs ≡ journal (suc n) (es ++ fs)
  next_number n number es fs e = rw (eq-eqb number n e)

  pub chain_read : {end n : ℕ} {es : List Entry} → Chain bs end n es → (left : ℕ) → end ≤ left → read_to left bs end ≡ journal n es
  unfolding read_to
  chain_read nothing zero h = refl
  chain_read nothing (suc left) h = refl
  chain_read (more count c some few t) zero h = absurd (omega arith)
  chain_read (more {start} {n} {es} count c some few t) (suc left) h =
      one_round left start count (journal n es) (chain_read c left (omega arith)) some few t.back t.holds
      ∙ next_number n (little_at 4 bs (start + 24 * count + 8)) es (entries_at count bs start) t.numbered

-- ---- what reading depends on

-- A chain is the bytes below its end.
pub chain_same : (bs cs : Bytes) {end n : ℕ} {es : List Entry} → ((i : ℕ) → i < end → get_or bs i 0 ≡ get_or cs i 0) → Chain bs end n es
    → Chain cs end n es
chain_same bs cs same nothing = nothing
chain_same bs cs same (more {start} {n} {es} count c some few t) =
    let at = start + 24 * count in
    let number : (from : ℕ) → from + 4 ≤ 12 → little_at 4 bs (at + from) ≡ little_at 4 cs (at + from) =
    λ from h. number_same 4 bs cs (at + from) (at + from) (λ i k. same (at + from + i) (omega arith)) in
    let first : little_at 4 bs at ≡ little_at 4 cs at = number_same 4 bs cs at at (λ i k. same (at + i) (omega arith)) in
    let entries = entries_same count bs cs start start (λ i k. same (start + i) (omega arith)) in
    let before = chain_same bs cs (λ i k. same i (omega arith)) c in
    let trailer : Trailed cs at n count =
    record { back = sym first ∙ t.back; holds = sym (number 4 (omega arith)) ∙ t.holds; numbered = sym (number 8 (omega arith)) ∙ t.numbered } in
    rw entries (more count before some few trailer)

-- Two answers that are journals together.
alike : (i j : Journal) → ((n : ℕ) (es : List Entry) → i ≡ journal n es → j ≡ journal n es)
    → ((n : ℕ) (es : List Entry) → j ≡ journal n es → i ≡ journal n es) → i ≡ j
alike no_journal no_journal to from = refl
alike no_journal (journal n es) to from = from n es refl
alike (journal n es) j to from = sym (to n es refl)

-- `left` is of no weight once it is the end or more.
pub read_enough : (bs : Bytes) (end left other : ℕ) → end ≤ left → end ≤ other → read_to left bs end ≡ read_to other bs end
read_enough bs end left other h k =
    alike (read_to left bs end) (read_to other bs end) (λ n es e. chain_read bs (read_chain bs left end n es e) other k)
    (λ n es e. chain_read bs (read_chain bs other end n es e) left h)

-- Bytes that agree below the end are read alike, whatever follows.
pub read_same : (bs cs : Bytes) (end left : ℕ) → end ≤ left → ((i : ℕ) → i < end → get_or bs i 0 ≡ get_or cs i 0)
    → read_to left bs end ≡ read_to left cs end
read_same bs cs end left h same =
    alike (read_to left bs end) (read_to left cs end) (λ n es e. chain_read cs (chain_same bs cs same (read_chain bs left end n es e)) left h)
    (λ n es e. chain_read bs (chain_same cs bs (λ i k. sym (same i k)) (read_chain cs left end n es e)) left h)

-- ---- snapshots that are open

and_assoc : (x y z : Bool) → x && (y && z) ≡ x && y && z
and_assoc true y z = refl
and_assoc false y z = refl

pub orderly_more : (n : ℕ) (es fs : List Entry) → orderly n (es ++ fs) ≡ orderly n es && orderly (open_in n es) fs
unfolding orderly open_in
orderly_more n [] fs = refl
orderly_more n (e ∷ es) fs =
    rw (orderly_more (open_then n e) es fs) (and_assoc (may_stand n e) (orderly (open_then n e) es) (orderly (open_in (open_then n e) es) fs))

pub open_more : (n : ℕ) (es fs : List Entry) → open_in n (es ++ fs) ≡ open_in (open_in n es) fs
unfolding open_in
open_more n [] fs = refl
open_more n (e ∷ es) fs = open_more (open_then n e) es fs

-- ---- journals

pub tested_orderly : (j : Journal) (n : ℕ) (es : List Entry) → tested j ≡ journal n es → (j ≡ journal n es) × (orderly 0 es ≡ true)
tested_orderly no_journal n es e = absurd (let z : ◌≡◌ {A = ℕ} 0 1 = cc in omega arith)
tested_orderly (journal m fs) n es e =
    let o = only (orderly 0 fs) (journal m fs) n es e in
    let same = o.1 in
    let entries : fs ≡ es = cc in
    (same, ap (orderly 0) (sym entries) ∙ o.0)

-- A journal is a chain of segments up to its end, with entries in order.
pub journal_chain : (bs : Bytes) (n : ℕ) (es : List Entry) → journal_of bs ≡ journal n es → Chain bs (length bs) n es × (orderly 0 es ≡ true)
journal_chain bs n es e =
    let t = tested_orderly (read_to (length bs) bs (length bs)) n es e in
    (read_chain bs (length bs) (length bs) n es t.0, t.1)

pub chain_journal : (bs : Bytes) (n : ℕ) (es : List Entry) → Chain bs (length bs) n es → orderly 0 es ≡ true → journal_of bs ≡ journal n es
chain_journal bs n es c o = rw (chain_read bs c (length bs) (le_refl (length bs)), o)

-- ---- one trailer at a time, for code that reads so

pub read_nothing : (bs : Bytes) → read_to 0 bs 0 ≡ journal 0 []
unfolding read_to
read_nothing bs = refl

module _ (bs : Bytes) (end : ℕ) where
  more_rounds : read_to end bs end ≡ read_to (suc end) bs end
  more_rounds = read_enough bs end end (suc end) (le_refl end) (omega arith)

  -- Too short for a trailer.
  pub read_short : 0 < end → end < TRAILER-BYTES → read_to end bs end ≡ no_journal
  unfolding read_to
  read_short h k = more_rounds ∙ rw (ne_eqb end 0 (λ z. omega arith), lt-leb 12 end k)

  pub read_trailer : TRAILER-BYTES ≤ end
      → let at = end - TRAILER-BYTES in
      let t = trailer_at bs at in
      let start = at - t.distance in
      read_to end bs end ≡ cond (points t at) (followed (read_to start bs start) t.number (entries_at t.count bs start)) no_journal
  unfolding read_to
  read_trailer h =
      let at = end - 12 in
      let t = trailer_at bs at in
      let start = at - t.distance in
      let before = read_enough bs start end start (omega arith) (le_refl start) in
      more_rounds ∙ rw (ne_eqb end 0 (λ z. omega arith), le-leb 12 end h, before)
