-- Which calls are written, told by their codes, and what is put down of one. Assumes nothing.
use Rattle.std.specs.Prelude.{◌≡◌, ◌∷◌, ◌<◌}
use Rattle.kit.specs.Names.{refl, ap, ◌∙◌, Bool, true, false, cond, List, [], ℕ, zero, suc, eqb, arith, eq-eqb, ne_eqb}
use Rattle.rules.specs.Rules.{DONE}
use Rattle.coding.specs.Coding.{form_of, is_asked, asked_of, call_in}
use Rattle.coding.proofs.CodingLaws as coding
use Rattle.journal.specs.declared.entry.Entry.{Entry}
use Rattle.journal.specs.declared.known.Known.{Known}
use Rattle.journal.specs.Entry.{Bytes}
use Rattle.journal.specs.Written.{entry_for}
use Rattle.journal.specs.Record.{Book, book, put_down, is_written}
use Rattle.record_list.specs.Mine.{mine_by}

module _ (a b c : ℕ) where
  form_mine : (code : ℕ) → code < 15 → mine_by code ≡ is_written (entry_for (form_of code a b c).1)
  form_mine zero h = refl
  form_mine (suc zero) h = refl
  form_mine (suc (suc zero)) h = refl
  form_mine (suc (suc (suc zero))) h = refl
  form_mine (suc (suc (suc (suc zero)))) h = refl
  form_mine (suc (suc (suc (suc (suc zero))))) h = refl
  form_mine (suc (suc (suc (suc (suc (suc zero)))))) h = refl
  form_mine (suc (suc (suc (suc (suc (suc (suc zero))))))) h = refl
  form_mine (suc (suc (suc (suc (suc (suc (suc (suc zero)))))))) h = refl
  form_mine (suc (suc (suc (suc (suc (suc (suc (suc (suc zero))))))))) h = refl
  form_mine (suc (suc (suc (suc (suc (suc (suc (suc (suc (suc zero)))))))))) h = refl
  form_mine (suc (suc (suc (suc (suc (suc (suc (suc (suc (suc (suc zero))))))))))) h = refl
  form_mine (suc (suc (suc (suc (suc (suc (suc (suc (suc (suc (suc (suc zero)))))))))))) h = refl
  form_mine (suc (suc (suc (suc (suc (suc (suc (suc (suc (suc (suc (suc (suc zero))))))))))))) h = refl
  form_mine (suc (suc (suc (suc (suc (suc (suc (suc (suc (suc (suc (suc (suc (suc zero)))))))))))))) h = refl
  form_mine (suc (suc (suc (suc (suc (suc (suc (suc (suc (suc (suc (suc (suc (suc (suc n))))))))))))))) h = absurd (omega arith)

  pub code_mine : (code : ℕ) → is_asked (asked_of code a b c) ≡ true → {r : Bool} → r ≡ mine_by code → r ≡ is_written
      (entry_for (call_in (asked_of code a b c)))
  code_mine code e q =
      q ∙ form_mine code (coding.known code a b c e)
      ∙ ap (λ x. is_written (entry_for x)) (coding.made code a b c e (record { most = refl; call = λ f. refl }))

-- ---- what is put down

none_written : (es : List Entry) → is_written es ≡ false → es ≡ []
none_written [] e = refl
none_written (x ∷ es) e = absurd (let z : ◌≡◌ {A = ℕ} 0 1 = cc in omega arith)

module _ (bs : Bytes) (k : Known) (es : List Entry) (n opened : ℕ) where
  pub not_mine : is_written es ≡ false → book bs k ≡ put_down bs k (cond (eqb n DONE) es []) opened
  not_mine e = rw (none_written es e) (go (eqb n DONE))
    where
      go : (b : Bool) → book bs k ≡ put_down bs k (cond b [] []) opened
      go true = refl
      go false = refl

  pub not_done : (n ≡ DONE → ⊥) → book bs k ≡ put_down bs k (cond (eqb n DONE) es []) opened
  not_done d = rw (ne_eqb n DONE d)

  pub put_down_lem : n ≡ DONE → {fs : List Entry} → fs ≡ es → {j : Book} → j ≡ put_down bs k fs opened → j ≡ put_down bs k (cond (eqb n DONE) es []) opened
  put_down_lem d e q = rw (eq-eqb n DONE d) (q ∙ ap {B = Book} (λ (x : List Entry). put_down bs k x opened) e)
