-- An entry by the limits of its numbers. Assumes nothing.
use Rattle.std.specs.Prelude.{◌≡◌, ◌&&◌}
use Rattle.kit.specs.Names.{refl, sym, ap, Bool, true, false, ℕ, eqb, arith, ℕ_discrete}
use Rattle.kit.specs.Names.{ne_eqb}
use Rattle.journal.specs.declared.entry.Entry.{Entry}
use Rattle.journal.specs.declared.entry.Entry.TheVariants.{EntryNew, EntryPost, EntryJoin, EntrySnapshot, EntryRollback, EntryCommit, NoEntry}
use Rattle.journal.specs.Entry.{provided, entry_of}
use Rattle.entries.specs.Most.{is_entry, made_of}

-- ---- each kind by itself

-- The six kinds, and all other numbers.
pub data Kind : ℕ → Type 0 where
  new : Kind 1
  post : Kind 2
  join : Kind 3
  snapshot : Kind 4
  rollback : Kind 5
  commit : Kind 6
  none : {k : ℕ} → (k ≡ 1 → ⊥) → (k ≡ 2 → ⊥) → (k ≡ 3 → ⊥) → (k ≡ 4 → ⊥) → (k ≡ 5 → ⊥) → (k ≡ 6 → ⊥) → Kind k

pub kind_of_lem : (k : ℕ) → Kind k
kind_of_lem k =
    elim (ℕ_discrete k 1) [
      | yes e ↦ rw e new
      | no a ↦
          elim (ℕ_discrete k 2) [
            | yes e ↦ rw e post
            | no b ↦
                elim (ℕ_discrete k 3) [
                  | yes e ↦ rw e join
                  | no c ↦
                      elim (ℕ_discrete k 4) [
                        | yes e ↦ rw e snapshot
                        | no d ↦
                            elim (ℕ_discrete k 5) [
                              | yes e ↦ rw e rollback
                              | no f ↦ elim (ℕ_discrete k 6) [ yes e ↦ rw e commit | no g ↦ none a b c d f g ]
                            ]
                      ]
                ]
          ]
    ]

pub no_entry : (k a b owner amount : ℕ) → (k ≡ 1 → ⊥) → (k ≡ 2 → ⊥) → (k ≡ 3 → ⊥) → (k ≡ 4 → ⊥) → (k ≡ 5 → ⊥) → (k ≡ 6 → ⊥)
    → entry_of k a b owner amount ≡ NoEntry
no_entry k a b owner amount n1 n2 n3 n4 n5 n6 = rw (ne_eqb k 1 n1, ne_eqb k 2 n2, ne_eqb k 3 n3, ne_eqb k 4 n4, ne_eqb k 5 n5, ne_eqb k 6 n6)

-- ---- the entry that five numbers are

provided_is : (b : Bool) (e : Entry) → is_entry (provided b e) ≡ true → provided b e ≡ e
provided_is true e h = refl
provided_is false e h = absurd (let z : ◌≡◌ {A = ℕ} 0 1 = cc in omega arith)

kind_made : {kind : ℕ} (a b owner amount : ℕ) → Kind kind → is_entry (entry_of kind a b owner amount) ≡ true
    → entry_of kind a b owner amount ≡ made_of kind a b owner amount
kind_made a b owner amount new h = provided_is (eqb a 0 && eqb b 0) (EntryNew owner amount) h
kind_made a b owner amount post h = provided_is (eqb b 0) (EntryPost a owner amount) h
kind_made a b owner amount join h = provided_is (eqb owner 0 && eqb amount 0) (EntryJoin a b) h
kind_made a b owner amount snapshot h = provided_is (eqb a 0 && eqb b 0 && (eqb owner 0 && eqb amount 0)) EntrySnapshot h
kind_made a b owner amount rollback h = provided_is (eqb a 0 && eqb b 0 && (eqb owner 0 && eqb amount 0)) EntryRollback h
kind_made a b owner amount commit h = provided_is (eqb a 0 && eqb b 0 && (eqb owner 0 && eqb amount 0)) EntryCommit h
kind_made a b owner amount (none {k} n1 n2 n3 n4 n5 n6) h =
    absurd (let no = ap is_entry (no_entry k a b owner amount n1 n2 n3 n4 n5 n6) in let z : ◌≡◌ {A = ℕ} 0 1 = cc in omega arith)

pub made : (kind a b owner amount : ℕ) → is_entry (entry_of kind a b owner amount) ≡ true → made_of kind a b owner amount ≡ entry_of kind a b owner amount
made kind a b owner amount h = sym (kind_made a b owner amount (kind_of_lem kind) h)
