-- What is known of a journal stays so when an entry is put down and when the waiting ones are made a segment. Assumes nothing.
use Rattle.std.specs.Prelude.{◌≡◌, ◌∷◌, ◌++◌, ◌+◌, ◌*◌, ◌/◌, ◌≤◌, ◌<◌}
use Rattle.kit.specs.Names.{refl, sym, ap, ◌∙◌, true, List, [], append_assoc, append-nil, ℕ, suc}
use Rattle.kit.specs.Names.{length, get_or, set, take, drop, sets, length-append, length-drop, get_or-take, get_or-drop, length-take-le, take-set-le}
use Rattle.kit.specs.Names.{add-one, arith, le_refl, lt-ltb, le-leb, eq-eqb}
use Rattle.std.proofs.lemmas.Bool.{and_parts}
use lib.Seq.{sets-eq, length-sets, take_at, take-add, take-take}
use native.Mathlib.Nat.{div-eq_of_eq-mul_right}
use Rattle.rules.specs.Rules.{WORD}
use Rattle.journal.specs.declared.entry.Entry.{Entry}
use Rattle.journal.specs.declared.known.Known.{Known}
use Rattle.journal.specs.Numbers.{ENTRY-BYTES, TRAILER-BYTES, SEGMENT}
use Rattle.journal.specs.Entry.{Bytes, Proper, entry_bytes, read_entry, entries_at}
use Rattle.journal.specs.Journal.{trailer_bytes, trailer_of, journal, open_then, may_stand, orderly, open_in, read_to, journal_of}
use Rattle.journal.specs.Append.{fills, entries_in, segment}
use Rattle.journal.specs.Record.{known, next_place, Book, book, sealed}
use Rattle.journal.proofs.ByteLaws.{length_number, length_entry, entry_back, entries_same, entries_add}
use Rattle.journal.proofs.ReadLaws.{orderly_more, open_more}
use Rattle.journal.proofs.AppendLaws.{one_more}
use Rattle.records.specs.Knows.{Knows, Onto}

-- ---- bytes below a place

take_sets : (n : ℕ) (bs : Bytes) (i : ℕ) (xs : Bytes) → n ≤ i → take n (sets bs i xs) ≡ take n bs
take_sets n bs i [] h = refl
take_sets n bs i (x ∷ xs) h = take_sets n (set bs i x) (suc i) xs (omega arith) ∙ take-set-le n bs i x h

below : (n : ℕ) (bs cs : Bytes) → take n bs ≡ take n cs → (i : ℕ) → i < n → get_or bs i 0 ≡ get_or cs i 0
below n bs cs e i h = sym (get_or-take n bs i 0 h) ∙ ap (λ (x : Bytes). get_or x i 0) e ∙ get_or-take n cs i 0 h

-- Nothing below a place is written.
pub onto : (bs cs : Bytes) (k k' : Known) (at : ℕ) (xs : Bytes) → cs ≡ sets bs at xs → k.used ≤ at → k.used ≤ k'.used → Onto (book bs k)
    (book cs k')
onto bs cs k k' at xs e h g =
    record { earlier = rw e (take_sets k.used bs at xs h); grows = g; room = rw e (length-sets bs at xs) }

pub onto_same : (j : Book) → Onto j j
onto_same j = record { earlier = refl; grows = le_refl j.known.used; room = refl }

pub onto_then : {i j l : Book} → Onto i j → Onto j l → Onto i l
onto_then {i} {j} {l} p q =
    let n = i.known.used in
    let m = j.known.used in
    record {
      earlier = sym (take-take n m l.bytes p.grows) ∙ ap (take n) q.earlier ∙ take-take n m j.bytes p.grows ∙ p.earlier;
      grows = omega (arith, p.grows, q.grows);
      room = q.room ∙ p.room;
    }

-- ---- a recorder's beginnings

-- A whole journal that stands at the front of some bytes, behind which no entry waits: how a stored one is gone on with (docs/LIBRARY.md,
-- "A day").
pub knows_valid : (bs : Bytes) (used n : ℕ) (es : List Entry) → used ≤ length bs → journal_of (take used bs) ≡ journal n es → orderly 0 es ≡ true
    → Knows bs (known used n (open_in 0 es) 0) es []
unfolding entries_at
knows_valid bs used n es h e o =
    record {
      is = e;
      waits = refl;
      within = omega arith;
      few = omega arith;
      sealable = λ k. absurd (omega arith);
      opened = ap (open_in 0) (sym (append-nil es));
      ordered = rw (append-nil es) o;
    }

-- "An empty journal is valid."
pub knows_empty : (bs : Bytes) → Knows bs (known 0 0 0 0) [] []
unfolding read_to orderly open_in
knows_empty bs = knows_valid bs 0 0 [] (omega arith) refl refl

-- ---- a segment

module _ (bs : Bytes) (used n w : ℕ) (es ws : List Entry) (is : journal_of (take used bs) ≡ journal n es) (waits : entries_at w bs used ≡ ws)
    (some : 1 ≤ w) (few : w ≤ SEGMENT) (numbered : n < WORD) (room : used + ENTRY-BYTES * w + TRAILER-BYTES ≤ length bs)
    (ordered : orderly 0 (es ++ ws) ≡ true) where
  abbrev at : ℕ
  at = used + ENTRY-BYTES * w

  abbrev before : Bytes
  before = take used bs

  abbrev entries : Bytes
  entries = take (ENTRY-BYTES * w) (drop used bs)

  abbrev trailer : Bytes
  trailer = trailer_bytes (trailer_of n w)

  long : length entries ≡ ENTRY-BYTES * w
  long = length-take-le (24 * w) (drop used bs) (omega (arith, length-drop used bs))

  count : length entries / ENTRY-BYTES ≡ w
  count = div-eq_of_eq-mul_right {n = 24} (omega arith) long

  whole : take (at + TRAILER-BYTES) (sets bs at trailer) ≡ before ++ segment n entries
  whole =
      let size : length trailer ≡ 12 = simp (length-append, length_number) in
      let end : length (take at bs ++ trailer) ≡ at + 12 = rw (length-append (take at bs) trailer, length-take-le at bs (omega arith), size) in
      let there : sets bs at trailer ≡ take at bs ++ trailer ++ drop (at + length trailer) bs = sets-eq trailer bs at (omega (arith, size)) in
      let two : take at bs ≡ before ++ entries = take-add used (24 * w) bs in
      let same : trailer ≡ trailer_bytes (record { distance = length entries; count = length entries / 24; number = n }) = rw (count, long) in
      ap (take (at + 12)) there
      ∙ take_at (take at bs ++ trailer) (drop (at + length trailer) bs) (at + 12) end
      ∙ ap (λ (x : Bytes). x ++ trailer) two
      ∙ append_assoc before entries trailer
      ∙ ap (λ (x : Bytes). before ++ (entries ++ x)) same

  read : entries_in entries ≡ ws
  read =
      rw count
      (entries_same w entries bs 0 used (λ i h. rw (zero i) (get_or-take (24 * w) (drop used bs) i 0 h ∙ get_or-drop used bs i 0)) ∙ waits)
    where
      zero : (i : ℕ) → 0 + i ≡ i
      zero i = omega arith

  full : fills entries ≡ true
  full = rw (count, eq-eqb (length entries) (24 * w) long, le-leb 1 w some, le-leb w SEGMENT few)

  follows : orderly (open_in 0 es) ws ≡ true
  follows = (and_parts (orderly 0 es) (orderly (open_in 0 es) ws) (sym (orderly_more 0 es ws) ∙ ordered)).1

  pub segment_journal : journal_of (take (at + TRAILER-BYTES) (sets bs at trailer)) ≡ journal (suc n) (es ++ ws)
  segment_journal =
      ap journal_of whole ∙ one_more before entries n full es is ∙ rw (read, lt-ltb n WORD numbered, follows)

module _ {bs : Bytes} {k : Known} {es ws : List Entry} (K : Knows bs k es ws) (some : 1 ≤ k.waiting) where
  abbrev after : Book
  after = sealed bs k

  pub knows_sealed : Knows after.bytes after.known (es ++ ws) []
  unfolding entries_at
  knows_sealed =
      let s = K.sealable some in
      record {
        is = segment_journal bs k.used k.segments k.waiting es ws K.is K.waits some K.few s.1 s.0 K.ordered;
        waits = refl;
        within = rw (length-sets bs (next_place k) (trailer_bytes (trailer_of k.segments k.waiting))) (omega (arith, s.0));
        few = omega arith;
        sealable = λ h. absurd (omega arith);
        opened = K.opened ∙ ap (open_in 0) (sym (append-nil (es ++ ws)));
        ordered = rw (append-nil (es ++ ws)) K.ordered;
      }

  pub onto_sealed : Onto (book bs k) after
  onto_sealed =
      onto bs after.bytes k after.known (next_place k) (trailer_bytes (trailer_of k.segments k.waiting)) refl (omega arith) (omega arith)

-- ---- an entry

module _ {bs : Bytes} {k : Known} {es ws : List Entry} (K : Knows bs k es ws) (e : Entry) (p : Proper e)
    (room : next_place k + ENTRY-BYTES + TRAILER-BYTES ≤ length bs) (few : k.waiting < SEGMENT) (numbered : k.segments < WORD)
    (may : may_stand k.«open» e ≡ true) where
  abbrev put : Bytes
  put = sets bs (next_place k) (entry_bytes e)

  abbrev one : Known
  one = known k.used k.segments (open_then k.«open» e) (suc k.waiting)

  kept_below : (n : ℕ) → n ≤ next_place k → take n put ≡ take n bs
  kept_below n h = take_sets n bs (next_place k) (entry_bytes e) h

  there : read_entry put (next_place k) ≡ e
  there =
      let here : length (take (next_place k) bs) ≡ next_place k = length-take-le (next_place k) bs (omega arith) in
      let split = sets-eq (entry_bytes e) bs (next_place k) (omega (arith, length_entry e)) in
      rw split (rw here at (entry_back (take (next_place k) bs) (drop (next_place k + length (entry_bytes e)) bs) e p))

  all_read : entries_at (suc k.waiting) put k.used ≡ ws ++ (e ∷ [])
  unfolding entries_at
  all_read =
      let w = k.waiting in
      let earlier = entries_same w put bs k.used k.used
      (λ i h. below (next_place k) put bs (kept_below (next_place k) (le_refl (next_place k))) (k.used + i) (omega arith)) in
      ap (λ (x : ℕ). entries_at x put k.used) (sym (add-one w))
      ∙ entries_add w 1 put k.used
      ∙ ap (λ (x : List Entry). x ++ (read_entry put (next_place k) ∷ [])) (earlier ∙ K.waits)
      ∙ ap (λ (x : Entry). ws ++ (x ∷ [])) there

  open_then_lem : open_then k.«open» e ≡ open_in 0 (es ++ (ws ++ (e ∷ [])))
  unfolding open_in
  open_then_lem = ap (λ (n : ℕ). open_then n e) K.opened ∙ sym (open_more 0 (es ++ ws) (e ∷ [])) ∙ ap (open_in 0) (append_assoc es ws (e ∷ []))

  still_orderly : orderly 0 (es ++ (ws ++ (e ∷ []))) ≡ true
  unfolding orderly
  still_orderly =
      ap (orderly 0) (sym (append_assoc es ws (e ∷ []))) ∙ orderly_more 0 (es ++ ws) (e ∷ []) ∙ rw (K.ordered, ← K.opened, may)

  pub knows_put : Knows put one es (ws ++ (e ∷ []))
  knows_put =
      let size = length-sets bs (next_place k) (entry_bytes e) in
      record {
        is = ap journal_of (kept_below k.used (omega arith)) ∙ K.is;
        waits = all_read;
        within = omega (arith, size);
        few = few;
        sealable = λ h. (omega (arith, size), numbered);
        opened = open_then_lem;
        ordered = still_orderly;
      }
