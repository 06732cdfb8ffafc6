-- `words::sign::power` meets its contract: a power of two below 2^64 does not wrap. Assumes nothing.
use mathlib.Core.Path.{ap, ◌∙◌}
use Prim.Native.Nat.{ℕ, ◌%◌, ◌^◌}
use native.Mathlib.Nat.{one-mul, mod-eq_of_lt}
use lib.Pow.{pow-lt}
use Rattle.words.proofs.sign.power.Goals as goal

pub returns : goal.returns
returns c = ap (λ (n : ℕ). n % 2 ^ 64) (one-mul (2 ^ c.args.k)) ∙ mod-eq_of_lt (pow-lt c.requires)
