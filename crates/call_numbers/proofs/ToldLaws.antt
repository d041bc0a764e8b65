-- Four numbers within a code's limits tell the call that its form makes. Assumes nothing.
use Rattle.std.specs.Prelude.{◌≡◌, ◌∷◌, ◌≤◌, ◌<◌}
use Rattle.kit.specs.Names.{sym, ap, ◌∙◌, true, [], ℕ, lt-ltb, le-leb}
use Rattle.rules.specs.Rules.{Call}
use Rattle.coding.specs.declared.coding.Form.{Form}
use Rattle.coding.specs.declared.coding.Limits.{Limits}
use Rattle.coding.specs.Coding.{CODES, form_of, fits, asked_of, asked, is_asked, call_in}
use Rattle.call_numbers.specs.Told.{Told}

all_fit : (m : Limits) (a b c : ℕ) → a ≤ m.0 → b ≤ m.1 → c ≤ m.2 → fits m a b c ≡ true
all_fit m a b c h k l = rw (le-leb a m.0 h, le-leb b m.1 k, le-leb c m.2 l)

module _ (code a b c : ℕ) (m : Limits) (x : Call) (k : code < CODES) (e : form_of code a b c ≡ (m, x)) where
  is_it : fits m a b c ≡ true → asked_of code a b c ≡ asked x
  unfolding asked_of
  is_it h = rw (lt-ltb code CODES k, ap (λ (f : Form). f.0) e, h, ap (λ (f : Form). f.1) e)

  pub tells : (y : Call) → y ≡ x → a ≤ m.0 → b ≤ m.1 → c ≤ m.2 → Told (code ∷ a ∷ b ∷ c ∷ []) y
  tells y q h i j =
      let s = is_it (all_fit m a b c h i j) in
      record { asked = ap is_asked s; call = ap {B = Call} call_in s ∙ sym q }
