-- The outcome of an exported function, over all the lists that the host lends.
use Rattle.std.specs.Prelude.{◌&&◌, ◌*◌}
use Rattle.kit.specs.Names.{Bool, cond, not, ℕ, length, eqb, ltb}
use Rattle.layout.specs.State.{NUMBERS, SERIALS}
use Rattle.coding.specs.Coding.{Listed, unlisted, calls}
use Rattle.admit.specs.Admit.{CARRIED-OUT, NO-STATE, NO-CALL, NO-ANSWERS}
use Rattle.runs.specs.Served.{Host, served}

-- A code, and all that is lent as it is left.
pub record Hosted : Type 0 where
  pub code : ℕ
  pub host : Host

abbrev pub hosted : ℕ → Host → Hosted
hosted n h = record { code = n; host = h }

-- Else nothing at all is written.
abbrev pub refuse_host : Bool → ℕ → Host → Hosted → Hosted
refuse_host test n h rest = cond test (hosted n h) rest

abbrev pub stateless : Host → Bool
stateless h = not (eqb (length h.numbers) NUMBERS && eqb (length h.serials) SERIALS)

abbrev pub heard : Host → Listed → Hosted
heard h unlisted = hosted NO-CALL h
heard h (calls cs) = refuse_host (ltb (length h.answers) (9 * length cs)) NO-ANSWERS h (hosted CARRIED-OUT (served h cs))

-- "Tested in this order": a state's numbers, the calls, room for the answers.
unfoldable pub serve : Host → Listed → Hosted
serve h l = refuse_host (stateless h) NO-STATE h (heard h l)
