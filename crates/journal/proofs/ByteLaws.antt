-- Laws of the journal's bytes: a number, an entry and a list of entries are read back from their bytes, wherever these stand, and
-- nothing else is looked at. Assumes nothing.
use Rattle.std.specs.Prelude.{◌≡◌, ◌∷◌, ◌++◌, ◌+◌, ◌*◌, ◌^◌, ◌/◌, ◌%◌, ◌≤◌, ◌<◌}
use Rattle.kit.specs.Names.{refl, ap, ◌∙◌, List, [], append_assoc, ℕ, zero, suc}
use Rattle.kit.specs.Names.{length, get_or, take, length-append, arith, mod-lt, div-lt_iff_lt-mul, get_or-take}
use lib.ListN.{get_or-append}
use lib.Seq.{get_or-append-add}
use native.Mathlib.Nat.{mod-add-div, zero-add, suc-add}
use Rattle.rules.specs.Rules.{WORD}
use Rattle.journal.specs.declared.entry.Entry.{Entry}
use Rattle.journal.specs.declared.entry.Entry.TheVariants.{EntryNew, EntryPost, EntryJoin, EntrySnapshot, EntryRollback, EntryCommit, NoEntry}
use Rattle.journal.specs.Numbers.{ENTRY-BYTES}
use Rattle.journal.specs.Entry.{Bytes, little_endian, little_at, fields, entry_bytes, entry_of, read_entry, entries_at, WIDE, Proper, AllProper}
use Rattle.journal.specs.Entry.{proper, entries_bytes}

-- ---- numbers

pub length_number : (w n : ℕ) → length (little_endian w n) ≡ w
unfolding little_endian
length_number zero n = refl
length_number (suc w) n = ap suc (length_number w (n / 256))

-- A number is its own bytes: lists that agree there have the same one.
pub number_same : (w : ℕ) (bs cs : Bytes) (at to : ℕ) → ((i : ℕ) → i < w → get_or bs (at + i) 0 ≡ get_or cs (to + i) 0)
    → little_at w bs at ≡ little_at w cs to
unfolding little_at
number_same zero bs cs at to same = refl
number_same (suc w) bs cs at to same =
    let first : get_or bs at 0 ≡ get_or cs to 0 = rw (omega·zero at, omega·zero to) at (same 0 (omega arith)) in
    let rest = number_same w bs cs (suc at) (suc to) (λ i h. rw (next at i, next to i) (same (suc i) (omega arith))) in
    rw (first, rest)
  where
    omega·zero : (a : ℕ) → a + 0 ≡ a
    omega·zero a = omega arith

    next : (a i : ℕ) → suc a + i ≡ a + suc i
    next a i = omega arith

-- A number's bytes are below 256, so it is below 256 for each.
pub number_below : (w : ℕ) (bs : Bytes) (at : ℕ) → ((i : ℕ) → get_or bs i 0 < 256) → little_at w bs at < 256 ^ w
unfolding little_at
number_below zero bs at bytes = omega arith
number_below (suc w) bs at bytes = omega (arith, bytes at, number_below w bs (suc at) bytes)

-- Of a list's beginning, and of what follows one.
pub number_in_take : (w : ℕ) (bs : Bytes) (at n : ℕ) → at + w ≤ n → little_at w (take n bs) at ≡ little_at w bs at
number_in_take w bs at n h = number_same w (take n bs) bs at at (λ i k. get_or-take n bs (at + i) 0 (omega arith))

pub number_before : (w : ℕ) (bs post : Bytes) (at : ℕ) → at + w ≤ length bs → little_at w (bs ++ post) at ≡ little_at w bs at
number_before w bs post at h = number_same w (bs ++ post) bs at at (λ i k. get_or-append bs post 0 (at + i) (omega arith))

pub number_after : (w : ℕ) (pre bs : Bytes) (at : ℕ) → little_at w (pre ++ bs) (length pre + at) ≡ little_at w bs at
number_after w pre bs at =
    number_same w (pre ++ bs) bs (length pre + at) at (λ i k. rw (assoc i) (get_or-append-add pre bs (at + i) 0))
  where
    assoc : (i : ℕ) → length pre + at + i ≡ length pre + (at + i)
    assoc i = omega arith

-- Read back where nothing stands before them.
number_first : (w : ℕ) (post : Bytes) (n : ℕ) → n < 256 ^ w → little_at w (little_endian w n ++ post) 0 ≡ n
unfolding little_endian little_at
number_first zero post n h = omega arith
number_first (suc w) post n h =
    let more : n / 256 < 256 ^ w = (div-lt_iff_lt-mul {k = 256} {x = n} {y = 256 ^ w} (omega arith)).1 (omega arith) in
    let rest = number_first w post (n / 256) more in
    let past = number_after w (n % 256 ∷ []) (little_endian w (n / 256) ++ post) 0 in
    omega (arith, rest, past, mod-add-div n 256)

-- What is read back has no more bits than its bytes, whatever was written.
first_fits : (w : ℕ) (post : Bytes) (n : ℕ) → little_at w (little_endian w n ++ post) 0 < 256 ^ w
unfolding little_endian little_at
first_fits zero post n = omega arith
first_fits (suc w) post n =
    let rest = first_fits w post (n / 256) in
    let past = number_after w (n % 256 ∷ []) (little_endian w (n / 256) ++ post) 0 in
    omega (arith, rest, past, mod-lt n {m = 256} (omega arith))

pub number_back : (w : ℕ) (pre post : Bytes) (n : ℕ) → n < 256 ^ w → little_at w (pre ++ little_endian w n ++ post) (length pre) ≡ n
number_back w pre post n h =
    let past = number_after w pre (little_endian w n ++ post) 0 in
    let front : length pre + 0 ≡ length pre = omega arith in
    rw (append_assoc pre (little_endian w n) post) (rw front at past ∙ number_first w post n h)

-- The same, of bytes that are taken apart so.
pub number_there : (w n : ℕ) (bs pre post : Bytes) (at : ℕ) → n < 256 ^ w → bs ≡ pre ++ little_endian w n ++ post → length pre ≡ at
    → little_at w bs at ≡ n
number_there w n bs pre post at h split long = rw (split, ← long) (number_back w pre post n h)

pub number_fits : (w n : ℕ) (bs pre post : Bytes) (at : ℕ) → bs ≡ pre ++ little_endian w n ++ post → length pre ≡ at → little_at w bs at < 256 ^ w
number_fits w n bs pre post at split long =
    let past = number_after w pre (little_endian w n ++ post) 0 in
    let front : length pre + 0 ≡ length pre = omega arith in
    rw (split, append_assoc pre (little_endian w n) post, ← long, ← front, past) (first_fits w post n)

-- ---- entries

pub length_fields : (kind a b owner amount : ℕ) → length (fields kind a b owner amount) ≡ ENTRY-BYTES
length_fields kind a b owner amount = simp (length-append, length_number)

pub length_entry : (e : Entry) → length (entry_bytes e) ≡ ENTRY-BYTES
length_entry (EntryNew owner amount) = length_fields 1 0 0 owner amount
length_entry (EntryPost a owner amount) = length_fields 2 a 0 owner amount
length_entry (EntryJoin a b) = length_fields 3 a b 0 0
length_entry EntrySnapshot = length_fields 4 0 0 0 0
length_entry EntryRollback = length_fields 5 0 0 0 0
length_entry EntryCommit = length_fields 6 0 0 0 0
length_entry NoEntry = length_fields 0 0 0 0 0

-- The five numbers are read back.
module _ (pre post : Bytes) (kind a b owner amount : ℕ) (k : kind < WORD) (x : a < WORD) (y : b < WORD) (o : owner < WORD) (m : amount < WIDE) where
  abbrev there : Bytes
  there = pre ++ fields kind a b owner amount ++ post

  fields_back : read_entry there (length pre) ≡ entry_of kind a b owner amount
  fields_back =
      let n0 = little_endian 4 kind in
      let n1 = little_endian 4 a in
      let n2 = little_endian 4 b in
      let n3 = little_endian 4 owner in
      let n4 = little_endian 8 amount in
      let b0 = number_there 4 kind there pre (n1 ++ n2 ++ n3 ++ n4 ++ post) (length pre) k (simp append_assoc) refl in
      let b1 = number_there 4 a there (pre ++ n0) (n2 ++ n3 ++ n4 ++ post) (length pre + 4) x (simp append_assoc)
      (simp (length-append, length_number)) in
      let b2 = number_there 4 b there (pre ++ n0 ++ n1) (n3 ++ n4 ++ post) (length pre + 8) y (simp append_assoc)
      (simp (length-append, length_number) (omega arith)) in
      let b3 = number_there 4 owner there (pre ++ n0 ++ n1 ++ n2) (n4 ++ post) (length pre + 12) o (simp append_assoc)
      (simp (length-append, length_number) (omega arith)) in
      let b4 = number_there 8 amount there (pre ++ n0 ++ n1 ++ n2 ++ n3) post (length pre + 16) m (simp append_assoc)
      (simp (length-append, length_number) (omega arith)) in
      rw (b0, b1, b2, b3, b4)

pub entry_back : (pre post : Bytes) (e : Entry) → Proper e → read_entry (pre ++ entry_bytes e ++ post) (length pre) ≡ e
entry_back pre post (EntryNew owner amount) p = fields_back pre post 1 0 0 owner amount (omega arith) (omega arith) (omega arith) p.0 p.1
entry_back pre post (EntryPost a owner amount) p = fields_back pre post 2 a 0 owner amount (omega arith) p.0 (omega arith) p.1 p.2
entry_back pre post (EntryJoin a b) p = fields_back pre post 3 a b 0 0 (omega arith) p.0 p.1 (omega arith) (omega arith)
entry_back pre post EntrySnapshot p = fields_back pre post 4 0 0 0 0 (omega arith) (omega arith) (omega arith) (omega arith) (omega arith)
entry_back pre post EntryRollback p = fields_back pre post 5 0 0 0 0 (omega arith) (omega arith) (omega arith) (omega arith) (omega arith)
entry_back pre post EntryCommit p = fields_back pre post 6 0 0 0 0 (omega arith) (omega arith) (omega arith) (omega arith) (omega arith)
entry_back pre post NoEntry p = absurd p

-- Lists that agree there have the same entries.
pub entry_same : (bs cs : Bytes) (at to : ℕ) → ((i : ℕ) → i < ENTRY-BYTES → get_or bs (at + i) 0 ≡ get_or cs (to + i) 0)
    → read_entry bs at ≡ read_entry cs to
entry_same bs cs at to same =
    let part : (w from : ℕ) → from + w ≤ ENTRY-BYTES → little_at w bs (at + from) ≡ little_at w cs (to + from) =
    λ w from h. number_same w bs cs (at + from) (to + from) (λ i k. rw (past at from i, past to from i) (same (from + i) (omega arith))) in
    let first : little_at 4 bs at ≡ little_at 4 cs to = number_same 4 bs cs at to (λ i k. same i (omega arith)) in
    rw (first, part 4 4 (omega arith), part 4 8 (omega arith), part 4 12 (omega arith), part 8 16 (omega arith))
  where
    past : (a b i : ℕ) → a + b + i ≡ a + (b + i)
    past a b i = omega arith

pub entries_same : (n : ℕ) (bs cs : Bytes) (at to : ℕ) → ((i : ℕ) → i < ENTRY-BYTES * n → get_or bs (at + i) 0 ≡ get_or cs (to + i) 0)
    → entries_at n bs at ≡ entries_at n cs to
unfolding entries_at
entries_same zero bs cs at to same = refl
entries_same (suc n) bs cs at to same =
    let first = entry_same bs cs at to (λ i h. same i (omega arith)) in
    let rest = entries_same n bs cs (at + 24) (to + 24) (λ i h. rw (past at i, past to i) (same (24 + i) (omega arith))) in
    rw (first, rest)
  where
    past : (a i : ℕ) → a + 24 + i ≡ a + (24 + i)
    past a i = omega arith

pub entries_after : (n : ℕ) (pre bs : Bytes) (at : ℕ) → entries_at n (pre ++ bs) (length pre + at) ≡ entries_at n bs at
entries_after n pre bs at =
    entries_same n (pre ++ bs) bs (length pre + at) at (λ i k. rw (assoc i) (get_or-append-add pre bs (at + i) 0))
  where
    assoc : (i : ℕ) → length pre + at + i ≡ length pre + (at + i)
    assoc i = omega arith

-- So many, and then so many.
pub entries_add : (n m : ℕ) (bs : Bytes) (at : ℕ) → entries_at (n + m) bs at ≡ entries_at n bs at ++ entries_at m bs (at + ENTRY-BYTES * n)
unfolding entries_at
entries_add zero m bs at = rw (zero-add m, here)
  where
    here : at + 24 * 0 ≡ at
    here = omega arith
entries_add (suc n) m bs at = rw (suc-add n m, entries_add n m bs (at + 24), next)
  where
    next : at + 24 * suc n ≡ at + 24 + 24 * n
    next = omega arith

pub count_entries : (n : ℕ) (bs : Bytes) (at : ℕ) → length (entries_at n bs at) ≡ n
unfolding entries_at
count_entries zero bs at = refl
count_entries (suc n) bs at = ap suc (count_entries n bs (at + 24))

-- ---- lists of entries

pub length_entries : (es : List Entry) → length (entries_bytes es) ≡ ENTRY-BYTES * length es
unfolding entries_bytes
length_entries [] = refl
length_entries (e ∷ es) = rw (length-append (entry_bytes e) (entries_bytes es), length_entry e, length_entries es) (omega arith)

pub entries_back : (pre post : Bytes) (es : List Entry) → AllProper es
    → entries_at (length es) (pre ++ entries_bytes es ++ post) (length pre) ≡ es
unfolding entries_at entries_bytes
entries_back pre post [] p = refl
entries_back pre post (e ∷ es) (proper p ps) =
    let whole : pre ++ (entry_bytes e ++ entries_bytes es) ++ post ≡ pre ++ entry_bytes e ++ (entries_bytes es ++ post) = simp append_assoc in
    let again : pre ++ entry_bytes e ++ (entries_bytes es ++ post) ≡ pre ++ entry_bytes e ++ entries_bytes es ++ post = simp append_assoc in
    let long : length pre + 24 ≡ length (pre ++ entry_bytes e) = simp (length-append, length_entry) in
    let rest = entries_back (pre ++ entry_bytes e) post es ps in
    rw (whole, entry_back pre (entries_bytes es ++ post) e p, again, long, rest)
