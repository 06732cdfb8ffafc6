-- `widewords::double::subtract` meets its contract. Assumes nothing.
use Rattle.std.proofs.Common.{◌≡◌, ℕ, ◌+◌, ◌-◌, ◌%◌, ◌^◌, ◌<◌, arith}
use Rattle.widewords.specs.Double.{double_word}
use Rattle.widewords.proofs.DoubleLaws.{difference-words}
use Rattle.widewords.proofs.double.subtract.Goals as goal

-- a difference of words that wraps, and what is taken away
wrapped : (a b : ℕ) → a < 2 ^ 64 → b < 2 ^ 64 → ((a + (2 ^ 64 - b)) % 2 ^ 64 + b) % 2 ^ 64 ≡ a
wrapped a b h k = omega arith

pub returns : goal.returns
unfolding double_word
returns c =
    let a = c.args in
    difference-words a.s.high a.s.low a.t.high a.t.low _ _ _ (omega arith) (omega arith) (omega arith) (omega arith) (omega arith)
    (wrapped a.s.low a.t.low (omega arith) (omega arith)) (wrapped a.s.high a.t.high (omega arith) (omega arith))
    (rw (← c.from.ensures) (wrapped _ c.from.result (omega arith) (omega arith)))
