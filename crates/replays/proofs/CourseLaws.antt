-- Laws of courses: entries in two parts, in order, and tables of one course.
use Rattle.std.specs.Prelude.{◌≡◌, ◌∷◌, ◌++◌, ◌-◌}
use Rattle.kit.specs.Names.{refl, sym, ap, ◌∙◌, true, List, [], ℕ, suc, length, arith, lt-ltb}
use Rattle.rules.specs.Rules.{MAX-OPEN, Rows, Table}
use Rattle.groups.specs.Groups.{Groups, Deed}
use Rattle.groups.specs.Shown.{groups_of, Same}
use Rattle.groups.specs.Track.{History, Saved, track}
use Rattle.groups.specs.Stands.{StandsOver, Stands}
use Rattle.groups.proofs.ShownLaws.{shown}
use Rattle.journal.specs.declared.entry.Entry.{Entry}
use Rattle.journal.specs.declared.entry.Entry.TheVariants.{EntryNew, EntryPost, EntryJoin, EntrySnapshot, EntryRollback, EntryCommit, NoEntry}
use Rattle.journal.specs.Journal.{open_then, may_stand, orderly}
use Rattle.replays.specs.Course.{Course, saved_deeds, course_of, outer, entered, Admits, course_after, AdmitsAll}

-- ---- entries in two parts

after_append : (k : Course) (es fs : List Entry) → course_after k (es ++ fs) ≡ course_after (course_after k es) fs
unfolding course_after
after_append k [] fs = refl
after_append k (e ∷ es) fs = after_append (entered k e) es fs

admits_append : (rows : ℕ) (k : Course) (es fs : List Entry) → AdmitsAll rows k es → AdmitsAll rows (course_after k es) fs
    → AdmitsAll rows k (es ++ fs)
unfolding course_after AdmitsAll
admits_append rows k [] fs p q = q
admits_append rows k (e ∷ es) fs p q = (p.0, admits_append rows (entered k e) es fs p.1 q)

-- The groups accept these entries, and they lead to this course.
abbrev pub LeadTo : ℕ → Course → List Entry → Course → Type 0
LeadTo rows k es k' = AdmitsAll rows k es × (k' ≡ course_after k es)

pub lead_append : (rows : ℕ) (k k' k'' : Course) (es fs : List Entry) → LeadTo rows k es k' → LeadTo rows k' fs k''
    → LeadTo rows k (es ++ fs) k''
lead_append rows k k' k'' es fs (p, q) (p', q') =
    (admits_append rows k es fs p (rw q at p'), q' ∙ ap (λ (z : Course). course_after z fs) q ∙ sym (after_append k es fs))

-- ---- entries that the groups accept are in order

outer_length : (xs : List (List Deed)) → length (outer xs) ≡ length xs - 1
outer_length [] = refl
outer_length (x ∷ xs) = omega arith

may_stand_lem : (rows : ℕ) (k : Course) (e : Entry) → Admits rows k e → may_stand (length k.saved) e ≡ true
may_stand_lem rows k (EntryNew owner amount) p = refl
may_stand_lem rows k (EntryPost a owner amount) p = refl
may_stand_lem rows k (EntryJoin a b) p = refl
may_stand_lem rows k EntrySnapshot p = lt-ltb (length k.saved) MAX-OPEN p
may_stand_lem rows k EntryRollback p = lt-ltb 0 (length k.saved) p
may_stand_lem rows k EntryCommit p = lt-ltb 0 (length k.saved) p
may_stand_lem rows k NoEntry p = absurd p

pub open_after_lem : (k : Course) (e : Entry) → length (entered k e).saved ≡ open_then (length k.saved) e
open_after_lem k (EntryNew owner amount) = refl
open_after_lem k (EntryPost a owner amount) = refl
open_after_lem k (EntryJoin a b) = refl
open_after_lem k EntrySnapshot = refl
open_after_lem k EntryRollback = outer_length k.saved
open_after_lem k EntryCommit = outer_length k.saved
open_after_lem k NoEntry = refl

pub admitted_orderly : (rows : ℕ) (k : Course) (es : List Entry) → AdmitsAll rows k es → orderly (length k.saved) es ≡ true
unfolding AdmitsAll orderly
admitted_orderly rows k [] p = refl
admitted_orderly rows k (e ∷ es) p =
    rw (may_stand_lem rows k e p.0, ← open_after_lem k e) (admitted_orderly rows (entered k e) es p.1)

-- ---- tables of one course

pub saved_length : (xs : List Saved) → length (saved_deeds xs) ≡ length xs
saved_length [] = refl
saved_length (x ∷ xs) = ap suc (saved_length xs)

-- Groups that are the same as a third's are the same.
same_both : {g' g o : Groups} → Same g' o → Same g o → Same g' g
same_both S T = record {
  count = S.count ∙ sym T.count;
  root = λ key h. let q = rw T.count at h in S.root key q ∙ sym (T.root key q);
  rank = λ r h e.
      let q = rw T.count at h in let z = sym (T.root r q) ∙ e in S.rank r q z ∙ sym (T.rank r q z);
  value = λ r h e.
      let q = rw T.count at h in let z = sym (T.root r q) ∙ e in S.value r q z ∙ sym (T.value r q z);
}

-- As many snapshots are open as the course has.
pub open_course : {over : ℕ → Rows} {t : Table} {h : History} → StandsOver over t h
    → t.state.«open» ≡ length (course_of (track h)).saved
open_course {over} {t} {h} S = S.opened ∙ sym (saved_length (track h).saved)

module _ {t t' : Table} {h h' : History} (S : Stands t h) (S' : Stands t' h') (e : course_of (track h') ≡ course_of (track h)) where
  pub course_same : Same (groups_of t') (groups_of t)
  course_same =
      same_both (rw (ap (λ (k : Course). k.now) e) at (shown t' h' S')) (shown t h S)

  pub course_open : t'.state.«open» ≡ t.state.«open»
  course_open = open_course S'.1 ∙ ap (λ (k : Course). length k.saved) e ∙ sym (open_course S.1)
