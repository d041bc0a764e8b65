-- A segment written behind a journal, and what an append answers. Assumes nothing.
use Rattle.std.specs.Prelude.{◌≡◌, ◌||◌, ◌&&◌, ◌++◌, ◌+◌, ◌*◌, ◌-◌, ◌/◌, ◌≤◌, ◌<◌}
use Rattle.kit.specs.Names.{refl, sym, ap, ◌∙◌, Bool, true, false, not, ℕ}
use Rattle.kit.specs.Names.{length, take, sets, ltb, arith, lt-ltb, le-ltb, not-true, not-false}
use lib.Seq.{sets-eq}
use Rattle.rules.specs.Rules.{DONE}
use Rattle.journal.specs.Numbers.{ENTRY-BYTES, TRAILER-BYTES}
use Rattle.journal.specs.Entry.{Bytes}
use Rattle.journal.specs.Journal.{trailer_bytes, trailer_of, journal_of, valid}
use Rattle.journal.specs.Append.{Appended, segments_of, fills, segment, declined, append}
use Rattle.journal.proofs.AppendLaws.{length_segment}
use Rattle.valid.specs.Place.{segments_told}
use Rattle.write_entry.proofs.ByteLaws.{then}
use Rattle.appending.specs.Takes.{takes, fills_by, with_segment}
use Rattle.appending.proofs.TakesLaws.{filling, taken}

-- The entries, and then the trailer.
pub segment_written : (bs cs ds entries : Bytes) (used number : ℕ) → cs ≡ sets bs used entries → fills_by (length entries) ≡ true
    → used + length entries + TRAILER-BYTES ≤ length bs
    → ds ≡ sets cs (used + length entries) (trailer_bytes (trailer_of number (length entries / ENTRY-BYTES)))
    → ds ≡ with_segment bs used (segment number entries)
segment_written bs cs ds entries used number c f room e =
    let trailer = trailer_bytes (trailer_of number (length entries / ENTRY-BYTES)) in
    let whole : 24 * (length entries / 24) ≡ length entries = sym (filling (length entries) f).whole in
    let end = used + length entries in
    let all = then bs entries trailer used end c refl e in
    let same : entries ++ trailer ≡ segment number entries = rw whole in
    all ∙ ap (sets bs used) same ∙ sets-eq (segment number entries) bs used (omega (arith, length_segment number entries))

-- ---- what is answered

module _ (buffer : Bytes) (used : ℕ) (entries : Bytes) where
  abbrev before : Bytes
  before = take used buffer

  abbrev new : Bytes
  new = segment (segments_of (journal_of before)) entries

  abbrev bad : Bool
  bad = ltb (length buffer) used || not (valid before) || not (fills entries && valid (before ++ new))

  pub not_taken : takes buffer used entries ≡ false → declined 12 buffer used ≡ append buffer used entries
  not_taken e = rw (not-false bad e)

  module _ (t : takes buffer used entries ≡ true) where
    size : length new ≡ length entries + TRAILER-BYTES
    size = length_segment (segments_of (journal_of before)) entries

    pub no_room : length buffer - used < length entries + TRAILER-BYTES → declined 16 buffer used ≡ append buffer used entries
    no_room h = rw (not-true bad t, lt-ltb (length buffer - used) (length new) (omega (arith, size)))

    pub appended : length entries + TRAILER-BYTES ≤ length buffer - used → {cs : Bytes} {after : ℕ} → after ≡ used + length entries + TRAILER-BYTES
        → cs ≡ with_segment buffer used (segment (segments_told before) entries)
        → ◌≡◌ {A = Appended} (record { no = DONE; used = after; buffer = cs }) (append buffer used entries)
    appended h {cs} {after} a w =
        let long : after ≡ used + length new = omega (arith, size) in
        let all : cs ≡ with_segment buffer used new = w ∙ ap (λ (n : ℕ). with_segment buffer used (segment n entries)) (taken buffer used entries t).as_many in
        rw (not-true bad t, le-ltb (length buffer - used) (length new) (omega (arith, size)), long, all)
