-- An exact result of two words, where the high one is 0 and where it is not. Assumes nothing.
use mathlib.Core.Path.{◌≡◌, refl, sym}
use mathlib.Core.Bool.{true}
use Prim.Native.Nat.{ℕ, ◌<◌}
use native.Mathlib.Omega.{arith}
use lib.IntN.{pos}
use Rattle.widewords.specs.declared.wide.Wide.{Wide}
use Rattle.widewords.specs.Wide.{wide_value}
use Rattle.widewords.proofs.WideLaws.{one_word, two-words-large}
use Rattle.words.specs.Sign.{with_sign}
use Rattle.outcomes.specs.Outcome.{refused}
use Rattle.fxtable.specs.Calls.{answer, checked}
use Rattle.fxtable.specs.Domains.{is_width}
use Rattle.fxtable.proofs.CallLaws.{width-bounds, checked-cong, checked-large}

-- no fixnum: the call is refused
pub two_words : (k w : ℕ) (s : Wide) → is_width w ≡ true → 0 < k → (s.high ≡ 0 → ⊥) → answer (refused k 0) ≡ answer (checked k w (wide_value s, pos 0))
two_words k w s r p h = let b = width-bounds w r in sym (checked-large k w (wide_value s) (pos 0) p (two-words-large w s (omega arith) h))

-- the low word with the sign is the result
pub one_word_checked : (k w : ℕ) (s : Wide) → s.high ≡ 0 → answer (checked k w (with_sign s.negative s.low, pos 0)) ≡ answer (checked k w (wide_value s, pos 0))
one_word_checked k w s h = checked-cong k w (one_word s h) refl
