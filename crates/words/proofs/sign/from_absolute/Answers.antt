-- `words::sign::from_absolute` meets its contract. Assumes nothing.
use mathlib.Core.Path.{◌≡◌, sym, subst, ◌∙◌}
use mathlib.Core.Bool.{true, false}
use Prim.Native.Nat.{ℕ, ◌<◌, ◌^◌}
use lib.IntN.{ℤ}
use Rattle.bits.specs.Testbit.{fits}
use Rattle.words.proofs.WordLaws.{back, sign_zero, sign-negative, sign-nonnegative, fits-mag, mag-of_magnitude}
use Rattle.words.proofs.sign.from_absolute.Goals as goal

pub from_magnitude-requires : goal.from_magnitude-requires
from_magnitude-requires c =
    subst (λ (m : ℕ). m < 2 ^ 63) (mag-of_magnitude true _) (fits-mag 64 _ (subst (λ (x : ℤ). fits 64 x ≡ true) (sym (sign-negative _ c.if-negative.true c.if-n-eq0.false)) c.requires))

pub from_magnitude-requires-else-negative : goal.from_magnitude-requires-else-negative
from_magnitude-requires-else-negative c =
    subst (λ (m : ℕ). m < 2 ^ 63) (mag-of_magnitude false _) (fits-mag 64 _ (subst (λ (x : ℤ). fits 64 x ≡ true) (sym (sign-nonnegative _ c.if-negative.false)) c.requires))

pub returns-then-n-eq0 : goal.returns-then-n-eq0
returns-then-n-eq0 c = sign_zero c.args.negative c.if-n-eq0.true

pub returns-else-n-eq0 : goal.returns-else-n-eq0
returns-else-n-eq0 c =
    back (record { sfits = c.from_magnitude.type_inv })
    ∙ c.from_magnitude.ensures
    ∙ sign-negative _ c.if-negative.true c.if-n-eq0.false

pub returns-else-negative : goal.returns-else-negative
returns-else-negative c =
    back (record { sfits = c.from_magnitude-else-negative.type_inv }) ∙ c.from_magnitude-else-negative.ensures ∙ sign-nonnegative _ c.if-negative.false
