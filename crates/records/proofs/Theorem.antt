-- Document 02, Q-1: "Exactly the DONE calls of these six kinds are written, in order." Assumes nothing.
use Rattle.std.specs.Prelude.{◌≡◌, ◌||◌, ◌&&◌, ◌∷◌, ◌++◌, ◌+◌, ◌*◌, ◌≤◌, ◌<◌}
use Rattle.kit.specs.Names.{refl, sym, ap, ◌∙◌, Bool, true, false, cond, not, List, [], append_assoc, append-nil, ℕ, suc}
use Rattle.kit.specs.Names.{length, sets, eqb, leb, arith, dec_lt, ℕ_discrete, eq-eqb, ne_eqb, lt-leb, le-ltb, lt-ltb, ltb-false, leb-false}
use Rattle.std.proofs.lemmas.Bool.{and_parts, or_parts}
use Rattle.rules.specs.Rules.{Call, WORD, DONE, BAD-JOURNAL, NO-ROOM, Table, step, refusal}
use Rattle.rules.specs.declared.call.Call.TheVariants.{New, Len, Find, Unioned, Join, Post, Probe, ProbeKey, TryProbe, Snapshot, Rollback, Commit}
use Rattle.rules.specs.declared.call.Call.TheVariants.{Keys, Actions, Changes}
use Rattle.journal.specs.declared.entry.Entry.{Entry}
use Rattle.journal.specs.declared.known.Known.{Known}
use Rattle.journal.specs.Numbers.{ENTRY-BYTES, TRAILER-BYTES, SEGMENT}
use Rattle.journal.specs.Entry.{Bytes, AllProper, proper, entry_bytes, entries_at}
use Rattle.journal.specs.Journal.{journal, orderly, open_in, open_then, may_stand}
use Rattle.journal.specs.Written.{entry_for, written}
use Rattle.journal.specs.Record.{known, next_place, mismatched, too_long, Book, book, put_down, is_written, recorded, written_down, record_step}
use Rattle.journal.specs.Record.{record_all, flush}
use Rattle.records.specs.Knows.{Knows, Onto}
use Rattle.records.specs.Records.{written_in, none, fit, Writes, ExactlyWritten, AllFlushed, Day}
use Rattle.records.proofs.OpenLaws.{counted}
use Rattle.records.proofs.BookLaws.{onto, onto_same, onto_then, knows_empty, knows_sealed, onto_sealed, knows_put}

-- ---- Bool

-- ---- at most one entry

data Few : List Entry → Type 0 where
  nothing : Few []
  single : (e : Entry) → Few (e ∷ [])

few_for : (c : Call) → Few (entry_for c)
few_for (New owner amount) = single _
few_for Len = nothing
few_for (Find key) = nothing
few_for (Unioned a b) = nothing
few_for (Join a b) = single _
few_for (Post key owner amount) = single _
few_for (Probe key) = nothing
few_for (ProbeKey key) = nothing
few_for (TryProbe key) = nothing
few_for Snapshot = single _
few_for (Rollback token) = single _
few_for (Commit token) = single _
few_for (Keys token) = nothing
few_for (Actions token) = nothing
few_for (Changes token) = nothing

-- ---- a call

-- The book after it, and that as many snapshots are open as in the table.
abbrev Done : Book → List Entry → List Entry → Book → ℕ → Type 0
Done j es new j' n = Writes j es new j' × (j'.known.«open» ≡ n)

module _ {bs : Bytes} {k : Known} {es ws : List Entry} (K : Knows bs k es ws) where
  no_entry : Writes (book bs k) (es ++ ws) [] (book bs k)
  no_entry = record { inside = es; waiting = ws; knows = K; exactly = sym (append-nil (es ++ ws)); onto = onto_same (book bs k) }

  -- What the two tests say of a call that is written.
  record Room : Type 0 where
    room : next_place k + ENTRY-BYTES + TRAILER-BYTES ≤ length bs
    few : k.waiting < SEGMENT
    numbered : k.segments < WORD

  room_of : (n : ℕ) → mismatched k n ≡ false → too_long 1 (length bs) k ≡ false → Room
  room_of n m l =
      let a = or_parts (not (eqb k.«open» n) || leb SEGMENT k.waiting) (leb WORD k.segments) m in
      let b = or_parts (not (eqb k.«open» n)) (leb SEGMENT k.waiting) a.0 in
      let h = ltb-false (length bs) (next_place k + ENTRY-BYTES * 1 + TRAILER-BYTES) l in
      record { room = omega arith; few = leb-false SEGMENT k.waiting b.1; numbered = leb-false WORD k.segments a.1 }

  one_entry : (e : Entry) → AllProper (e ∷ []) → Room → (opened : ℕ) → opened ≡ open_in k.«open» (e ∷ []) → orderly k.«open» (e ∷ []) ≡ true
      → Done (book bs k) (es ++ ws) (e ∷ []) (put_down bs k (e ∷ []) opened) opened
  unfolding open_in orderly
  one_entry e (proper p ps) R opened q o =
      let may = (and_parts (may_stand k.«open» e) true o).0 in
      let next = known k.used k.segments (open_then k.«open» e) (suc k.waiting) in
      let bytes = sets bs (next_place k) (entry_bytes e) in
      let K' = knows_put K e p R.room R.few R.numbered may in
      let there : Onto (book bs k) (book bytes next) = onto bs bytes k next (next_place k) (entry_bytes e) refl (omega arith) (omega arith) in
      rw q (elim (dec_lt (suc k.waiting) SEGMENT) [
        | yes h ↦ rw (lt-ltb (suc k.waiting) SEGMENT h)
            (record { inside = es; waiting = ws ++ (e ∷ []); knows = K'; exactly = sym (append_assoc es ws (e ∷ [])); onto = there }, refl)
        | no h ↦ rw (le-ltb (suc k.waiting) SEGMENT (omega arith)) (
          record {
            inside = es ++ (ws ++ (e ∷ []));
            waiting = [];
            knows = knows_sealed K' (omega arith);
            exactly = append-nil (es ++ (ws ++ (e ∷ []))) ∙ sym (append_assoc es ws (e ∷ []));
            onto = onto_then there (onto_sealed K' (omega arith));
          },
          refl,
        )
      ])

  put_down_lem : {fs : List Entry} → Few fs → AllProper fs → (n : ℕ) → is_written fs && mismatched k n ≡ false → is_written fs && too_long 1
      (length bs) k ≡ false
      → (b : Bool) (opened : ℕ) → opened ≡ open_in k.«open» (cond b fs []) → orderly k.«open» (cond b fs []) ≡ true
      → Done (book bs k) (es ++ ws) (cond b fs []) (put_down bs k (cond b fs []) opened) opened
  unfolding open_in
  put_down_lem f p n m l false opened q o = (no_entry, sym q)
  put_down_lem nothing p n m l true opened q o = (no_entry, sym q)
  put_down_lem (single e) p n m l true opened q o = one_entry e p (room_of n m l) opened q o

  record_step_lem : (t : Table) → k.«open» ≡ t.state.«open» → (c : Call) → AllProper (entry_for c)
      → let o = record_step bs k t c in Done (book bs k) (es ++ ws) (written c o.answer) o.journal o.table.state.«open»
  unfolding record_step
  record_step_lem t q c p = go (mine && mismatched k n) (mine && too_long 1 (length bs) k) refl refl
    where
      mine : Bool
      mine = is_written (entry_for c)

      n : ℕ
      n = t.state.«open»

      go : (x y : Bool) → mine && mismatched k n ≡ x → mine && too_long 1 (length bs) k ≡ y
          → let o = cond x (recorded (refusal BAD-JOURNAL) t (book bs k))
          (cond y (recorded (refusal NO-ROOM) t (book bs k)) (written_down bs k t c)) in
          Done (book bs k) (es ++ ws) (written c o.answer) o.journal o.table.state.«open»
      go true y m l = (no_entry, q)
      go false true m l = (no_entry, q)
      go false false m l =
          let C = counted t c in
          let o = step t c in
          let b = eqb o.answer.no DONE in
          put_down_lem (few_for c) p n m l b o.table.state.«open» (C.opened ∙ ap (λ (x : ℕ). open_in x (cond b (entry_for c) [])) (sym q))
          (ap (λ (x : ℕ). orderly x (cond b (entry_for c) [])) q ∙ C.ordered)

-- ---- calls one after the other

pub exactly_written : ExactlyWritten
unfolding record_all written_in
exactly_written j t es ws K q [] none = (no_entry K, q)
exactly_written j t es ws K q (c ∷ cs) (fit p ps) =
    let o = record_step j.bytes j.known t c in
    let (W, q') = record_step_lem K t q c p in
    let (U, q'') = exactly_written o.journal o.table W.inside W.waiting W.knows q' cs ps in
    let rest = written_in cs (record_all o.journal o.table cs).answers in (
      record {
        inside = U.inside;
        waiting = U.waiting;
        knows = U.knows;
        exactly = U.exactly ∙ ap (λ (x : List Entry). x ++ rest) W.exactly ∙ append_assoc (es ++ ws) (written c o.answer) rest;
        onto = onto_then W.onto U.onto;
      },
      q'',
    )

-- ---- a segment asked for

pub all_flushed : AllFlushed
unfolding entries_at
all_flushed j es ws K =
    let bs = j.bytes in
    let k = j.known in
    elim (ℕ_discrete k.waiting 0) [
      | yes z ↦
          let nobody : ws ≡ [] = sym K.waits ∙ ap (λ (n : ℕ). entries_at n bs k.used) z in
          rw (eq-eqb k.waiting 0 z)
          (record {
            done = refl;
            none_waits = z;
            is = K.is ∙ ap (journal k.segments) (sym (ap (λ (x : List Entry). es ++ x) nobody ∙ append-nil es));
            onto = onto_same j;
          })
      | no d ↦
          let some : 1 ≤ k.waiting = omega arith in
          let s = K.sealable some in
          rw (
            ne_eqb k.waiting 0 d,
            le-ltb SEGMENT k.waiting K.few,
            lt-leb WORD k.segments s.1,
            le-ltb (length bs) (next_place k + ENTRY-BYTES * 0 + TRAILER-BYTES) (omega (arith, s.0)),
          )
          (record { done = refl; none_waits = refl; is = (knows_sealed K some).is; onto = onto_sealed K some })
    ]

-- ---- from nothing

pub day : Day
day bs t z cs f =
    let j = (record_all (book bs (known 0 0 0 0)) t cs).journal in
    let (W, q) = exactly_written (book bs (known 0 0 0 0)) t [] [] (knows_empty bs) (sym z) cs f in
    let E = all_flushed j W.inside W.waiting W.knows in
    (E.done, E.is ∙ ap (journal (flush j.bytes j.known).journal.known.segments) W.exactly)
