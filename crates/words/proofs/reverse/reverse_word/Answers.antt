-- `words::reverse::reverse_word` meets its contract. Assumes nothing.
use Rattle.words.proofs.ReverseLaws.{testbit-reversed}
use Rattle.words.proofs.reverse.reverse_word.Goals as goal

pub returns : goal.returns
returns c =
    let e = c.before in
    let b = e.before.before.before in
    testbit-reversed _ b.swap-a.ensures b.swap-b.ensures e.swap-c.ensures e.swap-d.ensures e.swap-e.ensures c.swap.ensures
