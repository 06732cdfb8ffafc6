-- `rulereader::forms::read_one` meets its contract. Assumes nothing.
use Rattle.rulereader.proofs.FormLaws.{only-form}
use Rattle.rulereader.proofs.forms.read_one.Goals as goal

pub returns : goal.returns
returns c = only-form c.args.s.now c.args.at c.args.depth _ c.read_forms.ensures
