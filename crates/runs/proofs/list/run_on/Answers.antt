use Rattle.std.proofs.Common.{rules, ap, ◌∙◌, ◌+◌, ◌*◌, ◌/◌, ◌<◌, ◌≤◌, length, arith}
use Rattle.rules.specs.Rules.{Outcome, step}
use Rattle.coding.specs.Coding.{Asked, is_asked, call_in}
use Rattle.coding.proofs.CodingLaws.{four_each}
use Rattle.runs.specs.Served.{host_in}
use Rattle.runs.proofs.RunLaws.{written_host, table_by, next_of, keeping_on, keeping_at, going_ends, four_of}
use Rattle.runs.proofs.list.run_on.Goals as goal

pub invariant_of-asked : goal.invariant_of-asked
invariant_of-asked c =
    let l = c.loop-i in
    let calls = c.args.calls.now in
    let here : l.i < length calls / 4 = omega (arith, c.as_chunks.ensures.front_len, c.loop-i-test.true) in
    record {
      asked = ap is_asked (four_of c.as_chunks.result.0.now calls l.i c.as_chunks.ensures.front here)
          ∙ (next_of _ _ calls (4 * l.i) (l.i * 9) l.invariant.keeping.going (omega arith)).asked_there;
    }

pub loop-i-preserved : goal.loop-i-preserved
loop-i-preserved c =
    let l = c.loop-i in
    let calls = c.args.calls.now in
    let here : l.i < length calls / 4 = omega (arith, c.as_chunks.ensures.front_len, c.loop-i-test.true) in
    let lent_now = host_in l.going.state.now l.going.lent.now l.answers in
    let after_call = c.next-answer.new.going in
    let after = host_in after_call.state.now after_call.lent.now c.put.new.answers in
    let asked = four_of c.as_chunks.result.0.now calls l.i c.as_chunks.ensures.front here in
    let done = c.next-answer.ensures.value ∙ ap {B = Outcome} (λ (x : Asked). step (table_by l.going.head lent_now) (call_in x)) asked in
    let same = c.next-answer.ensures.same_going.2 in
    let on = keeping_on _ l.going.head lent_now calls (4 * l.i) (l.i * 9) l.invariant.keeping (omega arith) after c.next-answer.result
    after_call.head done c.put.ensures (record { numbers = same.2; serials = same.3; answers = c.put.auto.answers }) in
    record {
      same_going = search rules;
      keeping = keeping_at _ _ _ _ _ _ on (4 * (l.i + 1)) ((l.i + 1) * 9) (omega arith) (omega arith);
    }

pub returns-clause-value : goal.returns-clause-value
returns-clause-value c =
    let l = c.loop-i in
    let calls = c.args.calls.now in
    let over : length calls ≤ 4 * l.i =
    omega (arith, four_each calls c.requires.calls_value, c.as_chunks.ensures.front_len, c.loop-i-test.false) in
    rw (c.write_head.ensures.numbers, c.write_head.ensures.serials)
    (going_ends _ (written_host l.going.head (host_in l.going.state.now l.going.lent.now l.answers)) calls (4 * l.i) (l.i * 9) l.invariant.keeping.going over)
