-- What is gathered from here on is what was to be gathered.
use Rattle.std.specs.Prelude.{◌≡◌, ◌+◌}
use Rattle.kit.specs.Names.{take, drop}
use Rattle.lines.specs.Lines.{line, gathering}
use Rattle.lines.proofs.gather.gather.Given as goal

abbrev pub invariant-loop-i : goal.invariant-loop-i
invariant-loop-i l =
    gathering (l.from + l.i) (line l.line l.kept.n l.kept.overlong) (drop (l.from + l.i) (take l.count l.input))
    ≡ gathering l.from (line l.fn.line l.fn.kept.n l.fn.kept.overlong) (drop l.from (take l.count l.input))
