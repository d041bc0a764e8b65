use Rattle.appending.proofs.SegmentLaws.{segment_written}
use Rattle.appending.proofs.append.write_segment.Goals as goal

pub returns : goal.returns
returns c =
    segment_written c.args.buffer.now c.put_bytes.new.bytes c.put_trailer.new.bytes c.args.entries.now c.args.used c.args.number
    c.put_bytes.ensures c.requires.filling c.requires.room c.put_trailer.ensures
