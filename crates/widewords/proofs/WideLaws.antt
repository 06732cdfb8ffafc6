-- Integers of two words with a sign: those of one word, and those that are no fixnum. Assumes nothing.
use Rattle.std.proofs.Common.{◌≡◌, ℕ, ◌+◌, ◌-◌, ◌*◌, ◌^◌, ◌<◌, ◌≤◌, false, ℤ, pos, negsuc, nat_abs, sym, ap, subst, lt_of_le_of_lt, arith, pow_mono, le-ltb}
use Rattle.bits.specs.Testbit.{fits}
use Rattle.words.specs.Sign.{with_sign}
use Rattle.widewords.specs.declared.wide.Wide.{Wide}
use Rattle.widewords.specs.Wide.{wide_value}
use Rattle.words.proofs.SignedLaws.{nat_abs-with_sign}

wide-absolute : (s : Wide) → nat_abs (wide_value s) ≡ s.high * 2 ^ 64 + s.low
unfolding wide_value
wide-absolute s = nat_abs-with_sign s.negative (s.high * 2 ^ 64 + s.low)

-- an integer of one word
pub one_word : (s : Wide) → s.high ≡ 0 → with_sign s.negative s.low ≡ wide_value s
unfolding wide_value
one_word s e = let d : s.low ≡ s.high * 2 ^ 64 + s.low = omega arith in ap (with_sign s.negative) d

-- ---- an integer with a high word that is not 0 is no fixnum

absolute-large : (w : ℕ) (x : ℤ) → 2 ^ (w - 1) < nat_abs x → fits w x ≡ false
unfolding fits
absolute-large w (pos n) h = le-ltb n (2 ^ (w - 1)) (omega arith)
absolute-large w (negsuc n) h = le-ltb n (2 ^ (w - 1)) (omega arith)

pub two-words-large : (w : ℕ) (s : Wide) → w ≤ 64 → (s.high ≡ 0 → ⊥) → fits w (wide_value s) ≡ false
two-words-large w s h k =
    absolute-large w (wide_value s) (lt_of_le_of_lt (pow_mono {j = 63} (omega arith)) (subst (λ (n : ℕ). 2 ^ 63 < n) (sym (wide-absolute s)) (omega arith)))
