-- What is known of what passes the tests. Assumes nothing.
use Rattle.std.specs.Prelude.{◌≡◌}
use Rattle.kit.specs.Names.{refl, Bool, true, false, cond, List, ℕ, arith}
use Rattle.coding.specs.Coding.{Listed}
use Rattle.admit.specs.Admit.{CARRIED-OUT, NO-STATE, hearing}
use Rattle.known_numbers.specs.Known.{is_known}

passed : (b : Bool) (n : ℕ) → cond b n NO-STATE ≡ CARRIED-OUT → (b ≡ true) × (n ≡ CARRIED-OUT)
passed true n e = (refl, e)
passed false n e = absurd (omega arith)

pub recordable : (l : Listed) (answers : ℕ) (ks : List ℕ) → cond (is_known ks) (hearing l answers) NO-STATE ≡ CARRIED-OUT
    → (is_known ks ≡ true) × (hearing l answers ≡ CARRIED-OUT)
recordable l answers ks e = passed (is_known ks) (hearing l answers) e
