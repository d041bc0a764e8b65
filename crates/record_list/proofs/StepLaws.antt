-- A call that is written, from the number that bars it, what it comes to and what is put down. Assumes nothing.
use Rattle.std.specs.Prelude.{◌≡◌, ◌&&◌}
use Rattle.kit.specs.Names.{refl, sym, ap, ◌∙◌, Bool, true, false, cond, [], ℕ, length, eqb, arith}
use Rattle.rules.specs.declared.refusal.Refusal.{Refusal}
use Rattle.rules.specs.declared.refusal.Refusal.TheVariants.{NoKey, KeysFull, LogFull, OwnerClash, TooMuch, NotInnermost, TooDeep, BrokenTable, BadState, SerialsSpent, NotOpen, BadJournal, NoRoom}
use Rattle.rules.specs.Rules.{Answer, Call, Table, DONE, code_of, refusal, Outcome, outcome, step}
use Rattle.journal.specs.declared.known.Known.{Known}
use Rattle.journal.specs.Entry.{Bytes}
use Rattle.journal.specs.Written.{entry_for}
use Rattle.journal.specs.Record.{Book, book, mismatched, too_long, is_written, put_down, Recorded, recorded, written_down, record_step}
use Rattle.recording.specs.Barred.{barred, RoomForOne}
use Rattle.recording.proofs.BarredLaws.{room_for_one}

-- No refusal's number is DONE.
no_done : (w : Refusal) → code_of w ≡ DONE → ⊥
no_done NoKey e = absurd (omega arith)
no_done KeysFull e = absurd (omega arith)
no_done LogFull e = absurd (omega arith)
no_done OwnerClash e = absurd (omega arith)
no_done TooMuch e = absurd (omega arith)
no_done NotInnermost e = absurd (omega arith)
no_done TooDeep e = absurd (omega arith)
no_done BrokenTable e = absurd (omega arith)
no_done BadState e = absurd (omega arith)
no_done SerialsSpent e = absurd (omega arith)
no_done NotOpen e = absurd (omega arith)
no_done BadJournal e = absurd (omega arith)
no_done NoRoom e = absurd (omega arith)

module _ (bs : Bytes) (k : Known) (t : Table) (c : Call) where
  abbrev mine : Bool
  mine = is_written (entry_for c)

  abbrev opened : ℕ
  opened = t.state.«open»

  -- ---- the two refusals

  pub kept_off : (w : Refusal) → code_of w ≡ barred mine k opened (length bs) → recorded (refusal (code_of w)) t (book bs k) ≡ record_step bs k t c
  unfolding record_step
  kept_off w e = go (mine && mismatched k opened) (mine && too_long 1 (length bs) k) e
    where
      go : (x y : Bool) → code_of w ≡ cond x 12 (cond y 16 DONE)
          → recorded (refusal (code_of w)) t (book bs k) ≡ cond x (recorded (refusal 12) t (book bs k))
          (cond y (recorded (refusal 16) t (book bs k)) (written_down bs k t c))
      go true y e = rw e
      go false true e = rw e
      go false false e = absurd (no_done w e)

  let_through : barred mine k opened (length bs) ≡ DONE → written_down bs k t c ≡ record_step bs k t c
  unfolding record_step
  let_through e = go (mine && mismatched k opened) (mine && too_long 1 (length bs) k) e
    where
      go : (x y : Bool) → cond x 12 (cond y 16 DONE) ≡ DONE
          → written_down bs k t c ≡ cond x (recorded (refusal 12) t (book bs k)) (cond y (recorded (refusal 16) t (book bs k)) (written_down bs k t c))
      go true y e = absurd (omega arith)
      go false true e = absurd (omega arith)
      go false false e = refl

  -- ---- carried out

  module _ {n : ℕ} (q : n ≡ barred mine k opened (length bs)) (done : n ≡ DONE) where
    pub has_room : mine ≡ true → RoomForOne k (length bs)
    has_room w = room_for_one k opened (length bs) (sym q ∙ done) w

    pub carried : {a : Answer} {u : Table} → outcome a u ≡ step t c → {j : Book}
        → j ≡ put_down bs k (cond (eqb a.no DONE) (entry_for c) []) u.state.«open» → recorded a u j ≡ record_step bs k t c
    carried {a} {u} o {j} p =
        ap {B = Recorded} (recorded a u) p
        ∙ ap {B = Recorded} (λ (x : Outcome). recorded x.answer x.table
        (put_down bs k (cond (eqb x.answer.no DONE) (entry_for c) []) x.table.state.«open»)) o
        ∙ let_through (sym q ∙ done)
