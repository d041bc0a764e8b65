-- When a call is not carried out for the journal's sake. Assumes nothing.
use Rattle.std.specs.Prelude.{◌≡◌, ◌||◌, ◌+◌, ◌*◌}
use Rattle.kit.specs.Names.{refl, Bool, true, false, cond, not, ℕ, eqb, leb, arith}
use Rattle.kit.specs.Names.{leb-false, ltb-false}
use Rattle.std.proofs.lemmas.Bool.{or_parts}
use Rattle.rules.specs.Rules.{WORD, DONE}
use Rattle.journal.specs.declared.known.Known.{Known}
use Rattle.journal.specs.Numbers.{ENTRY-BYTES, TRAILER-BYTES, SEGMENT}
use Rattle.journal.specs.Record.{next_place, mismatched, too_long}
use Rattle.recording.specs.Barred.{barred, RoomForOne}

-- ---- the number

module _ (k : Known) (opened long : ℕ) where
  tested : (x y : Bool) → cond x 12 (cond y 16 DONE) ≡ DONE → (x ≡ false) × (y ≡ false)
  tested false false e = (refl, refl)
  tested false true e = absurd (omega arith)
  tested true y e = absurd (omega arith)

  pub room_for_one : {b : Bool} → barred b k opened long ≡ DONE → b ≡ true → RoomForOne k long
  room_for_one {b} e mine =
      let t = tested (mismatched k opened) (too_long 1 long k) (rw mine at e) in
      let m = or_parts (not (eqb k.«open» opened) || leb SEGMENT k.waiting) (leb WORD k.segments) t.0 in
      let w = or_parts (not (eqb k.«open» opened)) (leb SEGMENT k.waiting) m.0 in
      let long-enough = ltb-false long (next_place k + ENTRY-BYTES * 1 + TRAILER-BYTES) t.1 in
      record { room = omega arith; few = leb-false SEGMENT k.waiting w.1; numbered = leb-false WORD k.segments m.1 }
