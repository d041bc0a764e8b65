-- What the tests and the work come to is what the journal's exported functions leave. Assumes nothing.
use Rattle.std.specs.Prelude.{◌≡◌}
use Rattle.kit.specs.Names.{refl, ap, ◌∙◌, Bool, true, false, cond, List, ℕ, length, eq-eqb, ne_eqb}
use Rattle.rules.specs.Rules.{DONE, BAD-JOURNAL}
use Rattle.layout.specs.State.{NUMBERS, SERIALS}
use Rattle.coding.specs.Coding.{Listed, calls_in}
use Rattle.journal.specs.declared.known.Known.{Known}
use Rattle.journal.specs.Entry.{Bytes}
use Rattle.journal.specs.Journal.{valid}
use Rattle.journal.specs.Append.{Appended, append}
use Rattle.journal.specs.Record.{book, Flushed, flushed, flush}
use Rattle.admit.specs.Admit.{CARRIED-OUT, NO-STATE, NO-ANSWERS, hearing, admission}
use Rattle.admit.proofs.AdmitLaws.{numbers_missing, serials_missing, state_there}
use Rattle.results.specs.Results.{RESULT, result_numbers, room_admission}
use Rattle.known_numbers.specs.Known.{KNOWN, is_known, known_in, known_numbers}
use Rattle.known_numbers.specs.Tests.{record_admission, flush_admission, known_admission}
use Rattle.counting.specs.Counted.{known_of}
use Rattle.runs.specs.Served.{Host}
use Rattle.record_list.specs.Lent.{Lent, lent, recorded_from}
use Rattle.recorder.specs.Journals.{returned, decided, RecordLent, record_lent, record_served, serve_record, FlushLent, flush_lent, flush_served, serve_flush}
use Rattle.recorder.specs.Journals.{AppendLent, append_lent, append_served, serve_append, KnownLent, known_lent, known_served, serve_known}

-- ---- what is returned decides

module _ {A : Type 0} (n m : ℕ) (q : n ≡ m) (before after : A) where
  stays : (n ≡ CARRIED-OUT → ⊥) → returned n before ≡ decided m before after
  stays d = rw (← q, ne_eqb n CARRIED-OUT d)

  works : (x : A) → n ≡ CARRIED-OUT → x ≡ after → returned n x ≡ decided m before after
  works x e w = rw (w, ← q, eq-eqb n CARRIED-OUT e)

-- ---- a list of calls that are written

abbrev pub record_code : RecordLent → Listed → ℕ
record_code m l = let h = m.host in record_admission (length h.numbers) (length h.serials) l (length h.answers) m.known

module _ (m : RecordLent) (l : Listed) (n : ℕ) (q : n ≡ record_code m l) where
  pub record_away : (n ≡ CARRIED-OUT → ⊥) → returned n m ≡ serve_record m l
  unfolding serve_record
  record_away d = stays n (record_code m l) q m (record_served m l) d

  pub record_out : (x : RecordLent) → n ≡ CARRIED-OUT → x ≡ record_served m l → returned n x ≡ serve_record m l
  unfolding serve_record
  record_out x e w = works n (record_code m l) q m (record_served m l) x e w

-- A state's numbers, what is known, and then the calls.
without : (b : Bool) (x : ℕ) → NO-STATE ≡ x → NO-STATE ≡ cond b x NO-STATE
without true x e = e
without false x e = refl

module _ (m : RecordLent) (l : Listed) where
  pub record_numbers_missing : (length m.host.numbers ≡ NUMBERS → ⊥) → NO-STATE ≡ record_code m l
  record_numbers_missing d =
      let h = m.host in
      without (is_known m.known) (admission (length h.numbers) (length h.serials) l (length h.answers))
      (numbers_missing (length h.numbers) (length h.serials) l (length h.answers) d)

  pub record_unknown : (length m.known ≡ KNOWN → ⊥) → NO-STATE ≡ record_code m l
  record_unknown d = rw (ne_eqb (length m.known) KNOWN d)

  module _ (fit : length m.host.numbers ≡ NUMBERS) where
    pub record_serials_missing : (length m.host.serials ≡ SERIALS → ⊥) → NO-STATE ≡ record_code m l
    record_serials_missing d =
        let h = m.host in
        without (is_known m.known) (admission (length h.numbers) (length h.serials) l (length h.answers))
        (serials_missing (length h.numbers) (length h.serials) l (length h.answers) fit d)

    pub record_tested : length m.host.serials ≡ SERIALS → cond (is_known m.known) (hearing l (length m.host.answers)) NO-STATE ≡ record_code m l
    record_tested e =
        let h = m.host in
        ap (λ (n : ℕ). cond (is_known m.known) n NO-STATE) (state_there (length h.numbers) (length h.serials) l (length h.answers) fit e)

pub as_recorded : (m : RecordLent) (l : Listed) (k : Known) → k ≡ known_in m.known → (h : Host) (bs : Bytes) (k' : Known) (ks : List ℕ)
    → lent h (book bs k') ≡ recorded_from 0 m.host (book m.journal k) (calls_in l) → ks ≡ known_numbers k' → record_lent h bs ks ≡ record_served m l
as_recorded m l k q h bs k' ks e w =
    ap {B = RecordLent} (record_lent h bs) w
    ∙ ap {B = RecordLent} (λ (x : Lent). record_lent x.host x.journal.bytes (known_numbers x.journal.known))
    (e ∙ ap {B = Lent} (λ (x : Known). recorded_from 0 m.host (book m.journal x) (calls_in l)) q)

-- ---- waiting entries made a segment

abbrev pub flush_code : FlushLent → ℕ
flush_code m = flush_admission m.known (length m.result)

-- What is known, then room for the result.
module _ (m : FlushLent) where
  pub flush_unknown : is_known m.known ≡ false → NO-STATE ≡ flush_code m
  flush_unknown q = rw q

  module _ (q : is_known m.known ≡ true) where
    pub flush_roomless : (length m.result ≡ RESULT → ⊥) → NO-ANSWERS ≡ flush_code m
    flush_roomless d = rw (q, ne_eqb (length m.result) RESULT d)

    pub flush_roomy : length m.result ≡ RESULT → CARRIED-OUT ≡ flush_code m
    flush_roomy e = rw (q, eq-eqb (length m.result) RESULT e)

module _ (m : FlushLent) (n : ℕ) (q : n ≡ flush_code m) where
  pub flush_away : (n ≡ CARRIED-OUT → ⊥) → returned n m ≡ serve_flush m
  unfolding serve_flush
  flush_away d = stays n (flush_code m) q m (flush_served m) d

  pub flush_out : (x : FlushLent) → n ≡ CARRIED-OUT → x ≡ flush_served m → returned n x ≡ serve_flush m
  unfolding serve_flush
  flush_out x e w = works n (flush_code m) q m (flush_served m) x e w

pub as_flushed : (m : FlushLent) (k : Known) → k ≡ known_in m.known → (n : ℕ) (bs : Bytes) (k' : Known) (ks result : List ℕ)
    → flushed n (book bs k') ≡ flush m.journal k → ks ≡ known_numbers k' → result ≡ result_numbers n k'.used
    → flush_lent bs ks result ≡ flush_served m
as_flushed m k q n bs k' ks result e w r =
    ap {B = FlushLent} (λ (x : List ℕ). flush_lent bs x result) w
    ∙ ap {B = FlushLent} (flush_lent bs (known_numbers k')) r
    ∙ ap {B = FlushLent}
    (λ (x : Flushed). flush_lent x.journal.bytes (known_numbers x.journal.known) (result_numbers x.no x.journal.known.used))
    (e ∙ ap {B = Flushed} (flush m.journal) q)

-- ---- a segment appended

pub append_roomless : (m : AppendLent) → (length m.result ≡ RESULT → ⊥) → NO-ANSWERS ≡ room_admission (length m.result)
append_roomless m d = rw (ne_eqb (length m.result) RESULT d)

pub append_roomy : (m : AppendLent) → length m.result ≡ RESULT → CARRIED-OUT ≡ room_admission (length m.result)
append_roomy m e = rw (eq-eqb (length m.result) RESULT e)

module _ (m : AppendLent) (used : ℕ) (entries : Bytes) (n : ℕ) (q : n ≡ room_admission (length m.result)) where
  pub append_away : (n ≡ CARRIED-OUT → ⊥) → returned n m ≡ serve_append m used entries
  unfolding serve_append
  append_away d = stays n (room_admission (length m.result)) q m (append_served m used entries) d

  pub append_out : (x : AppendLent) → n ≡ CARRIED-OUT → x ≡ append_served m used entries → returned n x ≡ serve_append m used entries
  unfolding serve_append
  append_out x e w = works n (room_admission (length m.result)) q m (append_served m used entries) x e w

pub as_appended : (m : AppendLent) (used : ℕ) (entries : Bytes) (a : Appended) (result : List ℕ) → a ≡ append m.journal used entries
    → result ≡ result_numbers a.no a.used → append_lent a.buffer result ≡ append_served m used entries
as_appended m used entries a result e r =
    ap {B = AppendLent} (append_lent a.buffer) r
    ∙ ap {B = AppendLent} (λ (x : Appended). append_lent x.buffer (result_numbers x.no x.used)) e

-- ---- what is known of a journal

abbrev pub known_code : KnownLent → ℕ
known_code m = known_admission (length m.known) (length m.result)

-- Room for what is known, then for the result.
module _ (m : KnownLent) where
  pub known_short : (length m.known ≡ KNOWN → ⊥) → NO-STATE ≡ known_code m
  known_short d = rw (ne_eqb (length m.known) KNOWN d)

  module _ (q : length m.known ≡ KNOWN) where
    pub known_roomless : (length m.result ≡ RESULT → ⊥) → NO-ANSWERS ≡ known_code m
    known_roomless d = rw (eq-eqb (length m.known) KNOWN q, ne_eqb (length m.result) RESULT d)

    pub known_roomy : length m.result ≡ RESULT → CARRIED-OUT ≡ known_code m
    known_roomy e = rw (eq-eqb (length m.known) KNOWN q, eq-eqb (length m.result) RESULT e)

module _ (m : KnownLent) (bs : Bytes) (n : ℕ) (q : n ≡ known_code m) where
  pub known_away : (n ≡ CARRIED-OUT → ⊥) → returned n m ≡ serve_known m bs
  unfolding serve_known
  known_away d = stays n (known_code m) q m (known_served m bs) d

  pub known_out : (x : KnownLent) → n ≡ CARRIED-OUT → x ≡ known_served m bs → returned n x ≡ serve_known m bs
  unfolding serve_known
  known_out x e w = works n (known_code m) q m (known_served m bs) x e w

module _ (m : KnownLent) (bs : Bytes) where
  pub none_known : valid bs ≡ false → (result : List ℕ) → result ≡ result_numbers BAD-JOURNAL 0 → known_lent m.known result ≡ known_served m bs
  none_known v result r = rw v (ap {B = KnownLent} (known_lent m.known) r)

  pub as_known : valid bs ≡ true → (ks result : List ℕ) (k : Known) → k ≡ known_of bs → ks ≡ known_numbers k → result ≡ result_numbers DONE (length bs)
      → known_lent ks result ≡ known_served m bs
  as_known v ks result k q w r =
      rw v
      (ap {B = KnownLent} (λ (x : List ℕ). known_lent x result) (w ∙ ap known_numbers q)
      ∙ ap {B = KnownLent} (known_lent (known_numbers (known_of bs))) r)
