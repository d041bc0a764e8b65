-- One byte more is gathered, or the line ends. Assumes nothing.
use Rattle.std.specs.Prelude.{◌≡◌, ◌+◌}
use Rattle.kit.specs.Names.{ap, sym, ◌∙◌, take, drop, arith}
use Rattle.lines.specs.Lines.{Line, Reached, line, gathering, keeping}
use Rattle.lines.proofs.LineLaws.{all_read, at_place, fed, inside, one_byte, size}
use Rattle.lines.proofs.gather.gather.Goals as goal

pub returns-then-byte-eq10 : goal.returns-then-byte-eq10
returns-then-byte-eq10 c =
    let a = c.args in
    let l = c.loop-i in
    let within = inside a.count a.input.now a.from {end = c.min-end.result} {start = c.min.result} (omega arith) (omega arith) l.i c.loop-i-test.true in
    let byte = at_place a.count a.input.now a.from {end = c.min-end.result} {start = c.min.result} (omega arith) (omega arith) l.i c.loop-i-test.true in
    fed a.count a.input.now (a.from + l.i) l.line l.kept.n l.kept.overlong within.0 within.1 (sym byte ∙ c.if-byte-eq10.true)
    ∙ l.invariant

pub loop-i-preserved : goal.loop-i-preserved
loop-i-preserved c =
    let a = c.args in
    let l = c.loop-i in
    let within = inside a.count a.input.now a.from {end = c.min-end.result} {start = c.min.result} (omega arith) (omega arith) l.i c.loop-i-test.true in
    let byte = at_place a.count a.input.now a.from {end = c.min-end.result} {start = c.min.result} (omega arith) (omega arith) l.i c.loop-i-test.true in
    let kept = c.gather_byte-kept.ensures ∙ ap (λ b. keeping (line l.line l.kept.n l.kept.overlong) b) byte in
    let next : a.from + (l.i + 1) ≡ a.from + l.i + 1 = omega arith in
    rw next
    (ap {B = Reached} (λ (k : Line). gathering (a.from + l.i + 1) k (drop (a.from + l.i + 1) (take a.count a.input.now))) kept
    ∙ one_byte a.count a.input.now (a.from + l.i) l.line l.kept.n l.kept.overlong within.0 within.1 (λ q. c.if-byte-eq10.false (byte ∙ q))
    ∙ l.invariant)

pub returns : goal.returns
returns c =
    let a = c.args in
    let l = c.loop-i in
    let all = size a.count a.input.now a.from {end = c.min-end.result} {start = c.min.result} (omega arith) (omega arith) in
    let e : c.max.result ≡ a.from + l.i = omega (arith, all, c.loop-i-test.false, l.auto.i-end) in
    rw e (all_read a.count a.input.now (a.from + l.i) l.line l.kept.n l.kept.overlong (omega (arith, all, c.loop-i-test.false)) ∙ l.invariant)
