-- A call between the head that is read and the head that is written. Assumes nothing.
use Rattle.std.specs.Prelude.{◌≡◌}
use Rattle.kit.specs.Names.{ap, ◌∙◌, List, ℕ, length}
use Rattle.rules.specs.Rules.{Answer, Call, Head, State, Table}
use Rattle.layout.specs.State.{NUMBERS, head_in, state_by, state_of, headed}
use Rattle.layout.proofs.LayoutLaws.{headed_state}
use Rattle.journal.specs.declared.known.Known.{Known}
use Rattle.journal.specs.Entry.{Bytes}
use Rattle.journal.specs.Record.{Book, Recorded, recorded, record_step}

module _ (ns ss ns' ss' : List ℕ) (hd hd' : Head) (t t' : State → Table) (a : Answer) (bs : Bytes) (k : Known) (j : Book) (x c : Call) where
  pub between : hd ≡ head_in ns → x ≡ c → length ns' ≡ NUMBERS → (ns'' : List ℕ) → ns'' ≡ headed ns' hd'
      → recorded a (t' (state_by hd' ns' ss')) j ≡ record_step bs k (t (state_by hd ns ss)) x
      → recorded a (t' (state_of ns'' ss')) j ≡ record_step bs k (t (state_of ns ss)) c
  between e q z ns'' w r =
      ap {B = Recorded} (λ (s : State). recorded a (t' s) j) (ap {B = State} (λ (n : List ℕ). state_of n ss') w ∙ headed_state ns' ss' hd' z)
      ∙ r
      ∙ ap {B = Recorded} (λ (h : Head). record_step bs k (t (state_by h ns ss)) x) e
      ∙ ap {B = Recorded} (record_step bs k (t (state_of ns ss))) q
