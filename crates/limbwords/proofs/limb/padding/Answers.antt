-- `limbwords::limb::padding` meets its contract. Assumes nothing.
use Prim.Native.Nat.{ℕ, ◌*◌, ◌-◌, ◌^◌, ◌<◌}
use native.Mathlib.Nat.{le_of_lt}
use mathlib.Core.Path.{◌≡◌, sym, ap, ◌∙◌}
use mathlib.Core.Bool.{Bool, cond, not}
use mathlib.Core.List.{List}
use lib.Dec.{ltb}
use lib.ListN.{length, get_or}
use borrow.Author.Tests.{lt-ltb, le-ltb}
use Rattle.limbwords.specs.Value.{value}
use Rattle.limbwords.specs.Results.{bits_from}
use Rattle.limbwords.proofs.ValueLaws.{value-length}
use Rattle.limbwords.proofs.LimbLaws.{bits_from-above, sign-last}
use Rattle.limbwords.proofs.limb.padding.Goals as goal

-- by the top bit of the last limb
padded : (xs : List ℕ) → ((i : ℕ) → get_or xs i 0 < 2 ^ 32) → 0 < length xs → (b : Bool) → ltb (get_or xs (length xs - 1) 0) 0x80000000 ≡ b
    → cond (not b) 0xFFFFFFFF 0 ≡ bits_from (value xs) (32 * length xs)
padded xs f h b e =
    sym (bits_from-above (value xs) (32 * length xs) (le_of_lt (value-length xs h))
    ∙ ap (λ (s : Bool). cond s 0xFFFFFFFF 0) (sign-last xs f h ∙ ap not e))

pub returns-then-x-lt2147483648 : goal.returns-then-x-lt2147483648
returns-then-x-lt2147483648 c = padded _ (λ i. (c.type_inv.x i).fits) c.requires _ (lt-ltb _ _ c.if-x-lt2147483648.true)

pub returns-else-x-lt2147483648 : goal.returns-else-x-lt2147483648
returns-else-x-lt2147483648 c = padded _ (λ i. (c.type_inv.x i).fits) c.requires _ (le-ltb _ _ c.if-x-lt2147483648.false)
