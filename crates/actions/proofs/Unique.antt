-- No two outcomes meet a contract of the view: of one log and one range there is one view, and what is read of it is fixed. Assumes
-- nothing.
use Rattle.std.specs.Prelude.{◌≡◌}
use Rattle.kit.specs.Names.{sym, ap, ◌∙◌, ℕ}
use Rattle.rules.specs.Rules.{UndoLog, Log, entry_at, viewed}
use Rattle.parts.specs.declared.entries.Numbers.{Numbers}
use Rattle.extract.specs.Numbers.{lent_at}
use Rattle.actions.specs.declared.view.Actions.{Actions}
use Rattle.actions.specs.View.{shown, count_of}

-- What `len`, `entry` and `lent_entry` may answer of two views.
pub record Same (v w : Actions) : Type 0 where
  pub logs : shown v ≡ shown w
  pub lengths : (m n : ℕ) → m ≡ count_of v → n ≡ count_of w → m ≡ n
  pub values : (i : ℕ) (x y : UndoLog) → x ≡ entry_at (shown v) i → y ≡ entry_at (shown w) i → x ≡ y
  pub numbers : (i : ℕ) (x y : Numbers) → x ≡ lent_at (shown v) i → y ≡ lent_at (shown w) i → x ≡ y

-- Two views that both meet the contract of `actions_between`.
pub only_one : (l : Log) (from to : ℕ) (v w : Actions) → shown v ≡ viewed l from to → shown w ≡ viewed l from to → Same v w
only_one l from to v w e f =
    let q : shown v ≡ shown w = e ∙ sym f in
    record {
      logs = q;
      lengths = λ m n a b. cc;
      values = λ i x y a b. a ∙ ap {B = UndoLog} (λ (z : Log). entry_at z i) q ∙ sym b;
      numbers = λ i x y a b. a ∙ ap {B = Numbers} (λ (z : Log). lent_at z i) q ∙ sym b;
    }

-- Two answers of `action_at`, or of `lent_action_at`, for one entry of one range.
pub one_value : (l : Log) (from to i : ℕ) (x y : UndoLog) → x ≡ entry_at (viewed l from to) i → y ≡ entry_at (viewed l from to) i → x ≡ y
one_value l from to i x y e f = e ∙ sym f

pub one_entry : (l : Log) (from to i : ℕ) (x y : Numbers) → x ≡ lent_at (viewed l from to) i → y ≡ lent_at (viewed l from to) i → x ≡ y
one_entry l from to i x y e f = e ∙ sym f
