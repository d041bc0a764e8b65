use Rattle.write_entry.proofs.ByteLaws.{trailer_written}
use Rattle.write_entry.proofs.entry.put_trailer.Goals as goal

pub returns : goal.returns
returns c =
    trailer_written c.args.bytes.now c.args.at c.args.number c.args.count c.put.ensures c.to_le_bytes.ensures c.put-2.ensures
    c.to_le_bytes-2.ensures c.put-3.ensures c.to_le_bytes-3.ensures
