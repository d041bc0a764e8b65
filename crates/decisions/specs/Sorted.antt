-- The calls sorted by what they touch, as the code's own enums.
use Rattle.std.specs.Prelude.{ℕ, ◌<◌}
use Rattle.rules.specs.Rules.{Call}
use Rattle.rules.specs.declared.call.Call.TheVariants as call
use Rattle.plans.specs.declared.verdict.OneCall.{OneCall}
use Rattle.plans.specs.declared.verdict.OneCall.TheVariants.{Find, Probe, ProbeKey, Post}
use Rattle.plans.specs.declared.verdict.TwoCall.{TwoCall}
use Rattle.plans.specs.declared.verdict.TwoCall.TheVariants.{Unioned, Join}
use Rattle.undo_log.specs.HeadCalls.{head_call}
use Rattle.decisions.specs.declared.sorted.WalkCall.{WalkCall}
use Rattle.decisions.specs.declared.sorted.WalkCall.TheVariants.{One, Two}
use Rattle.decisions.specs.declared.sorted.Sorted.{Sorted}
use Rattle.decisions.specs.declared.sorted.Sorted.TheVariants.{Walk, New, TryProbe, Rollback, Rest}

abbrev pub one_call : ℕ → OneCall → Call
one_call key Find = call.Find key
one_call key Probe = call.Probe key
one_call key ProbeKey = call.ProbeKey key
one_call key (Post owner amount) = call.Post key owner amount

abbrev pub two_call : ℕ → ℕ → TwoCall → Call
two_call a b Unioned = call.Unioned a b
two_call a b Join = call.Join a b

abbrev pub walk_call : WalkCall → Call
walk_call (One key c) = one_call key c
walk_call (Two a c b) = two_call a b c

abbrev pub sorted_call : Sorted → Call
sorted_call (Walk c) = walk_call c
sorted_call (New owner amount) = call.New owner amount
sorted_call (TryProbe key) = call.TryProbe key
sorted_call (Rollback token) = call.Rollback token
sorted_call (Rest c) = head_call c

-- The keys that a call walks from are below the count.
abbrev pub LiveKeys : ℕ → WalkCall → Type 0
LiveKeys count (One key c) = key < count
LiveKeys count (Two a c b) = (a < count) × (b < count)
