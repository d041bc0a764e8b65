-- A valid journal gone through from the front has the entries that reading it from the end gives. Assumes nothing.
use Rattle.std.specs.Prelude.{◌≡◌, ◌∷◌, ◌++◌, ◌+◌, ◌*◌, ◌≤◌, ◌<◌}
use Rattle.kit.specs.Names.{refl, sym, ap, ◌∙◌, true, List, [], append_assoc, append-nil, ℕ, zero, suc}
use Rattle.kit.specs.Names.{length, arith, dec_lt, ne_eqb, le-leb, lt-leb, lt-ltb, le-ltb, le_refl}
use Rattle.std.proofs.lemmas.Bool.{and_parts}
use Rattle.journal.specs.declared.entry.Entry.{Entry}
use Rattle.journal.specs.declared.entry.Entry.TheVariants.{NoEntry}
use Rattle.journal.specs.Numbers.{ENTRY-BYTES, TRAILER-BYTES}
use Rattle.journal.specs.Entry.{Bytes, little_at, read_entry, entries_at}
use Rattle.journal.specs.Journal.{journal, open_then, may_stand, orderly, open_in, journal_of}
use Rattle.journal.specs.Forward.{forward, Onward, finish, entry, trailer}
use Rattle.journal.proofs.ReadLaws.{Chain, nothing, more, orderly_more, journal_chain}

-- ---- an entry that may stand begins with a small number

no_kind : (bs : Bytes) (at : ℕ) → ENTRY-BYTES ≤ little_at 4 bs at → read_entry bs at ≡ NoEntry
no_kind bs at h =
    let k = little_at 4 bs at in
    rw (
      ne_eqb k 1 (λ e. omega arith),
      ne_eqb k 2 (λ e. omega arith),
      ne_eqb k 3 (λ e. omega arith),
      ne_eqb k 4 (λ e. omega arith),
      ne_eqb k 5 (λ e. omega arith),
      ne_eqb k 6 (λ e. omega arith),
    )

pub kind_small : (bs : Bytes) (at n : ℕ) → may_stand n (read_entry bs at) ≡ true → little_at 4 bs at < ENTRY-BYTES
kind_small bs at n e =
    elim (dec_lt (little_at 4 bs at) 24) [
      | yes h ↦ h
      | no h ↦ absurd (let m = ap (may_stand n) (no_kind bs at (omega arith)) in let z : ◌≡◌ {A = ℕ} 0 1 = cc in omega arith)
    ]

-- ---- segment after segment, from the last one to the first

module _ (bs : Bytes) (end : ℕ) where
  past_entries : (count at n : ℕ) (fs : List Entry) → at + ENTRY-BYTES * count ≤ end → orderly n (entries_at count bs at) ≡ true
      → Onward bs end (at + ENTRY-BYTES * count) fs → Onward bs end at (entries_at count bs at ++ fs)
  unfolding entries_at orderly
  past_entries zero at n fs h o w = let here : at + 24 * 0 ≡ at = omega arith in rw here at w
  past_entries (suc count) at n fs h o w =
      let next : at + 24 * suc count ≡ at + 24 + 24 * count = omega arith in
      let e = read_entry bs at in
      let b = and_parts (may_stand n e) (orderly (open_then n e) (entries_at count bs (at + 24))) o in
      entry {at = at} (omega arith) (kind_small bs at n b.0) (past_entries count (at + 24) (open_then n e) fs (omega arith) b.1 (rw next at w))

  past_chain : {at n : ℕ} {es : List Entry} (fs : List Entry) → Chain bs at n es → at ≤ end → orderly 0 es ≡ true → Onward bs end at fs
      → Onward bs end 0 (es ++ fs)
  past_chain fs nothing h o w = w
  past_chain fs (more {start} {n} {es} count c some few t) h o w =
      let last = entries_at count bs start in
      let b = and_parts (orderly 0 es) (orderly (open_in 0 es) last) (sym (orderly_more 0 es last) ∙ o) in
      let after : Onward bs end (start + 24 * count) fs = trailer h (omega (arith, t.back, some)) w in
      let here = past_entries count start (open_in 0 es) fs (omega arith) b.1 after in
      rw (append_assoc es last fs) (past_chain (last ++ fs) c (omega arith) b.0 here)

  pub onward_forward : {at : ℕ} {es : List Entry} → Onward bs end at es → (left : ℕ) → end ≤ at + left → forward left bs at end ≡ es
  unfolding forward
  onward_forward finish zero h = refl
  onward_forward finish (suc left) h = rw (le-leb end end (le_refl end))
  onward_forward (entry r k w) zero h = absurd (omega arith)
  onward_forward (entry {at} {es} r k w) (suc left) h =
      rw (lt-leb end at (omega arith), lt-ltb (little_at 4 bs at) 24 k, onward_forward w left (omega arith))
  onward_forward (trailer r k w) zero h = absurd (omega arith)
  onward_forward (trailer {at} {es} r k w) (suc left) h =
      rw (lt-leb end at (omega arith), le-ltb (little_at 4 bs at) 24 k) (onward_forward w left (omega arith))

-- ---- both ways give the same entries

pub journal_onward : (bs : Bytes) (n : ℕ) (es : List Entry) → journal_of bs ≡ journal n es → Onward bs (length bs) 0 es
journal_onward bs n es e =
    let c = journal_chain bs n es e in
    rw append-nil at (past_chain bs (length bs) [] c.0 (le_refl (length bs)) c.1 finish)

pub journal_forward : (bs : Bytes) (n : ℕ) (es : List Entry) → journal_of bs ≡ journal n es → forward (length bs) bs 0 (length bs) ≡ es
journal_forward bs n es e = onward_forward bs (length bs) (journal_onward bs n es e) (length bs) (omega arith)

-- ---- what a loop finds at a place

-- An entry, and the rest after it.
pub record NextEntry (bs : Bytes) (end at : ℕ) (es : List Entry) : Type 0 where
  pub rest : List Entry
  pub room : at + ENTRY-BYTES ≤ end
  pub first : es ≡ read_entry bs at ∷ rest
  pub onward : Onward bs end (at + ENTRY-BYTES) rest

pub at_entry : (bs : Bytes) {end at : ℕ} {es : List Entry} → Onward bs end at es → at < end → little_at 4 bs at < ENTRY-BYTES → NextEntry bs end at es
at_entry bs finish h k = absurd (omega arith)
at_entry bs (entry {at} {es} r j w) h k = record { rest = es; room = r; first = refl; onward = w }
at_entry bs (trailer r j w) h k = absurd (omega arith)

pub at_trailer : (bs : Bytes) {end at : ℕ} {es : List Entry} → Onward bs end at es → at < end → ENTRY-BYTES ≤ little_at 4 bs at
    → (at + TRAILER-BYTES ≤ end) × Onward bs end (at + TRAILER-BYTES) es
at_trailer bs finish h k = absurd (omega arith)
at_trailer bs (entry r j w) h k = absurd (omega arith)
at_trailer bs (trailer r j w) h k = (r, w)

pub at_end : (bs : Bytes) {end at : ℕ} {es : List Entry} → Onward bs end at es → end ≤ at → es ≡ []
at_end bs finish h = refl
at_end bs (entry r j w) h = absurd (omega arith)
at_end bs (trailer r j w) h = absurd (omega arith)

-- A place that is before the end has room for the number that says what begins there.
pub at_least_trailer : (bs : Bytes) {end at : ℕ} {es : List Entry} → Onward bs end at es → at < end → at + TRAILER-BYTES ≤ end
at_least_trailer bs finish h = absurd (omega arith)
at_least_trailer bs (entry r j w) h = omega arith
at_least_trailer bs (trailer r j w) h = r
