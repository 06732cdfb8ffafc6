-- `words::field::reverse` meets its contract. Assumes nothing.
use Rattle.words.proofs.ReverseLaws.{reversed-field}
use Rattle.words.proofs.field.reverse.Goals as goal

pub returns : goal.returns
returns c =
    let a = c.before in
    reversed-field a.args.v c.reverse_word.result a.args.size a.requires.0 a.requires.1 c.reverse_word.type_inv c.reverse_word.ensures
