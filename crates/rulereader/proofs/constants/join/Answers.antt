-- `rulereader::constants::join` meets its contract. Assumes nothing.
use mathlib.Core.Path.{sym}
use Rattle.rulereader.proofs.ConstantLaws.{join-too-large}
use Rattle.rulereader.proofs.constants.join.Goals as goal

pub returns-then-rest-ge-TOO_LARGE : goal.returns-then-rest-ge-TOO_LARGE
returns-then-rest-ge-TOO_LARGE c = sym (join-too-large c.args.start c.args.rest c.args.g c.if-rest-ge-TOO_LARGE.true)
