use Rattle.coding.proofs.CodingLaws.{made}
use Rattle.coding.proofs.coding.make_call.Goals as goal

pub returns : goal.returns
returns c = made _ _ _ _ c.requires c.form_of.ensures
