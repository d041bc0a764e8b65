-- An entry's five numbers as bytes.
use Rattle.journal.specs.Entry.{Bytes, fields}
use Rattle.write_entry.specs.declared.entry.Fields.{Fields}

abbrev pub field_bytes : Fields → Bytes
field_bytes f = fields f.kind f.a f.b f.owner f.amount
