use Rattle.kit.specs.Names.{ap, ◌∙◌, sets}
use Rattle.journal.specs.Entry.{Bytes}
use Rattle.write_entry.proofs.ByteLaws.{fields_written}
use Rattle.write_entry.proofs.entry.put_entry.Goals as goal

pub returns : goal.returns
returns c =
    let f = c.from-fields.result in
    fields_written c.args.bytes.now c.args.at f.kind f.a f.b f.owner f.amount c.put.ensures c.to_le_bytes.ensures c.put-2.ensures
    c.to_le_bytes-2.ensures c.put-3.ensures c.to_le_bytes-3.ensures c.put-4.ensures c.to_le_bytes-4.ensures c.put-5.ensures
    c.to_le_bytes-5.ensures
    ∙ ap (λ (b : Bytes). sets c.args.bytes.now c.args.at b) c.from-fields.ensures
