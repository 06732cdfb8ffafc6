-- `limbwords::limb::window` meets its contract. Assumes nothing.
use Prim.Native.Nat.{ℕ, ◌+◌, ◌*◌, ◌/◌, ◌%◌, ◌^◌}
use native.Mathlib.Nat.{mod-lt}
use native.Mathlib.Omega.{arith}
use mathlib.Core.Path.{◌≡◌, ap, ◌∙◌}
use lib.Dec.{lit<}
use Rattle.limbwords.specs.Value.{value}
use Rattle.limbwords.specs.Results.{bits_from}
use Rattle.limbwords.proofs.LimbLaws.{bits_from-join}
use Rattle.limbwords.proofs.limb.window.Goals as goal

pub returns : goal.returns
returns c =
    let a = c.before.before.before.before in
    let z = value a.args.x.now in
    let k = a.args.at % 32 in
    let at : 32 * (a.args.at / 32) + k ≡ a.args.at = omega arith in
    c.join.ensures
    ∙ ap (λ (n : ℕ). (n * 2 ^ 32 + c.limb.result) / 2 ^ k % 2 ^ 32) c.limb-2.ensures
    ∙ ap (λ (n : ℕ). (bits_from z (32 * (a.args.at / 32 + 1)) * 2 ^ 32 + n) / 2 ^ k % 2 ^ 32) c.limb.ensures
    ∙ bits_from-join z (a.args.at / 32) k (mod-lt a.args.at (lit< tt))
    ∙ ap (bits_from z) at
