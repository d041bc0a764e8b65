-- No two outcomes meet the contract of an exported function that writes a journal or judges one. Assumes nothing.
use Rattle.std.specs.Prelude.{◌≡◌}
use Rattle.kit.specs.Names.{sym, ap, ◌∙◌, ℕ}
use Rattle.coding.specs.Coding.{Listed}
use Rattle.journal.specs.Entry.{Bytes}
use Rattle.recorder.specs.Journals.{Returned, returned, RecordLent, serve_record, FlushLent, serve_flush, AppendLent, serve_append, KnownLent, serve_known}

same_returned : {A : Type 0} {o : Returned A} (r r' : ℕ) (x y : A) → returned r x ≡ o → returned r' y ≡ o → (r ≡ r') × (x ≡ y)
same_returned {A} r r' x y e f = let q = e ∙ sym f in (ap (λ (o : Returned A). o.code) q, ap (λ (o : Returned A). o.lent) q)

pub only_one_record : (m : RecordLent) (l : Listed) (r r' : ℕ) (x y : RecordLent) → returned r x ≡ serve_record m l → returned r' y ≡ serve_record m l
    → (r ≡ r') × (x ≡ y)
only_one_record m l r r' x y e f = same_returned r r' x y e f

pub only_one_flush : (m : FlushLent) (r r' : ℕ) (x y : FlushLent) → returned r x ≡ serve_flush m → returned r' y ≡ serve_flush m → (r ≡ r') × (x ≡ y)
only_one_flush m r r' x y e f = same_returned r r' x y e f

pub only_one_append : (m : AppendLent) (used : ℕ) (entries : Bytes) (r r' : ℕ) (x y : AppendLent) → returned r x ≡ serve_append m used entries
    → returned r' y ≡ serve_append m used entries → (r ≡ r') × (x ≡ y)
only_one_append m used entries r r' x y e f = same_returned r r' x y e f

pub only_one_known : (m : KnownLent) (bs : Bytes) (r r' : ℕ) (x y : KnownLent) → returned r x ≡ serve_known m bs → returned r' y ≡ serve_known m bs
    → (r ≡ r') × (x ≡ y)
only_one_known m bs r r' x y e f = same_returned r r' x y e f
