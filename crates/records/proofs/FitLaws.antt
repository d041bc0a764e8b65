-- The calls of a list of numbers have numbers of 32 and 64 bits, as the host's have. Assumes nothing.
use Rattle.std.specs.Prelude.{◌≡◌, ◌&&◌, ◌∷◌, ◌≤◌}
use Rattle.kit.specs.Names.{refl, Bool, true, false, cond, List, [], ℕ, zero, suc, leb, ltb, leb-true, arith}
use Rattle.std.proofs.lemmas.Bool.{and_parts}
use Rattle.rules.specs.Rules.{Call}
use Rattle.journal.specs.declared.entry.Entry.{Entry}
use Rattle.journal.specs.declared.entry.Entry.TheVariants.{EntryNew, EntryPost, EntryJoin, EntrySnapshot, EntryRollback, EntryCommit}
use Rattle.journal.specs.Entry as entry
use Rattle.journal.specs.Written.{entry_for}
use Rattle.coding.specs.Coding.{SHORT, LONG, UNUSED, CODES, form_of, fits, Asked, nothing, asked, asked_of, Listed, unlisted, calls, then, call_list}
use Rattle.coding.specs.Coding.{calls_in}
use Rattle.records.specs.Records.{AllFit, none, fit}

-- ---- one call

record Within (a b c x y z : ℕ) : Type 0 where
  first : a ≤ x
  second : b ≤ y
  third : c ≤ z

within : (a b c x y z : ℕ) → leb a x && leb b y && leb c z ≡ true → Within a b c x y z
within a b c x y z e =
    let p = and_parts (leb a x && leb b y) (leb c z) e in
    let q = and_parts (leb a x) (leb b y) p.0 in
    record { first = leb-true a x q.0; second = leb-true b y q.1; third = leb-true c z p.1 }

alone : (e : Entry) → entry.Proper e → entry.AllProper (e ∷ [])
alone e p = entry.proper p entry.none

module _ (a b c : ℕ) where
  form_fit : (code : ℕ) → fits (form_of code a b c).0 a b c ≡ true → entry.AllProper (entry_for (form_of code a b c).1)
  form_fit zero e = let w = within a b c SHORT LONG UNUSED e in alone (EntryNew a b) (omega arith, omega arith)
  form_fit (suc zero) e = entry.none
  form_fit (suc (suc zero)) e = entry.none
  form_fit (suc (suc (suc zero))) e = entry.none
  form_fit (suc (suc (suc (suc zero)))) e = let w = within a b c SHORT SHORT UNUSED e in alone (EntryJoin a b) (omega arith, omega arith)
  form_fit (suc (suc (suc (suc (suc zero))))) e =
      let w = within a b c SHORT SHORT LONG e in alone (EntryPost a b c) (omega arith, omega arith, omega arith)
  form_fit (suc (suc (suc (suc (suc (suc zero)))))) e = entry.none
  form_fit (suc (suc (suc (suc (suc (suc (suc zero))))))) e = entry.none
  form_fit (suc (suc (suc (suc (suc (suc (suc (suc zero)))))))) e = entry.none
  form_fit (suc (suc (suc (suc (suc (suc (suc (suc (suc zero))))))))) e = alone EntrySnapshot tt
  form_fit (suc (suc (suc (suc (suc (suc (suc (suc (suc (suc zero)))))))))) e = alone EntryRollback tt
  form_fit (suc (suc (suc (suc (suc (suc (suc (suc (suc (suc (suc zero))))))))))) e = alone EntryCommit tt
  form_fit (suc (suc (suc (suc (suc (suc (suc (suc (suc (suc (suc (suc zero)))))))))))) e = entry.none
  form_fit (suc (suc (suc (suc (suc (suc (suc (suc (suc (suc (suc (suc (suc zero))))))))))))) e = entry.none
  form_fit (suc (suc (suc (suc (suc (suc (suc (suc (suc (suc (suc (suc (suc (suc zero)))))))))))))) e = entry.none
  form_fit (suc (suc (suc (suc (suc (suc (suc (suc (suc (suc (suc (suc (suc (suc (suc code))))))))))))))) e = entry.none

-- ---- a list of calls

data Fitting : Asked → Type 0 where
  no_call : Fitting nothing
  a_call : {c : Call} → entry.AllProper (entry_for c) → Fitting (asked c)

asked_fit : (code a b c : ℕ) → Fitting (asked_of code a b c)
unfolding asked_of
asked_fit code a b c = go (ltb code CODES) (fits (form_of code a b c).0 a b c) (form_fit a b c code)
  where
    go : (x y : Bool) → (y ≡ true → entry.AllProper (entry_for (form_of code a b c).1)) → Fitting
        (cond (x && y) (asked (form_of code a b c).1) nothing)
    go true true f = a_call (f refl)
    go true false f = no_call
    go false y f = no_call

then_fit : {a : Asked} (l : Listed) → Fitting a → AllFit (calls_in l) → AllFit (calls_in (then a l))
then_fit l no_call f = none
then_fit unlisted (a_call p) f = none
then_fit (calls cs) (a_call p) f = fit p f

pub listed_fit : (ns : List ℕ) → AllFit (calls_in (call_list ns))
unfolding call_list
listed_fit [] = none
listed_fit (code ∷ []) = none
listed_fit (code ∷ a ∷ []) = none
listed_fit (code ∷ a ∷ b ∷ []) = none
listed_fit (code ∷ a ∷ b ∷ c ∷ ns) = then_fit (call_list ns) (asked_fit code a b c) (listed_fit ns)
