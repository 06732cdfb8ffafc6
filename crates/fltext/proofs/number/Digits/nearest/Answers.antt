-- `fltext::number::Digits::nearest` meets its contract. Assumes nothing.
use Prim.Native.Nat.{ℕ, ◌≤◌}
use native.Mathlib.Omega.{arith}
use mathlib.Core.Path.{◌≡◌, sym, ap, subst, ◌∙◌}
use mathlib.Core.Bool.{not}
use lib.Dec.{T}
use lib.ListN.{length, take}
use lib.Seq.{length-take-le}
use lib.Ieee.{binary64, of_bits, nan_bits}
use Rattle.fltext.specs.Packing.{quotient_bits}
use Rattle.fltext.proofs.RoundLaws.{nearest_bits-number}
use Rattle.fltext.proofs.NumberLaws.{flonum-bits, cleared-part}
use Rattle.fltext.proofs.number.Digits.nearest.Goals as goal
use Rattle.fltext.proofs.number.Digits.nearest.Goals.{After-space-1}

-- the part of the limbs that is used
part : (c : After-space-1) → let n = c.limb_count-n.result in length (take n c.limb_space-space.result) ≡ n
part c = length-take-le _ _ (let n = c.limb_count-n.ensures.1 in let s = c.limb_space-space.ensures.result_len in omega arith)

pub slice_bounds-nearest_within-end : goal.slice_bounds-nearest_within-end
slice_bounds-nearest_within-end c = sym (part c)

pub nearest_within-bits-requires : goal.nearest_within-bits-requires
nearest_within-bits-requires c =
    let s = c.limb_space-space in
    record {
      cleared = cleared-part s.result (part c) c.limb_count-n.ensures.0 s.ensures.cleared.zeros;
      x_len_bound = subst (λ (k : ℕ). k ≤ 416) (sym (part c)) c.limb_count-n.ensures.1;
    }

pub float_from_bits-result : goal.float_from_bits-result
unfolding quotient_bits
float_from_bits-result c = subst (λ (n : ℕ). T (not (nan_bits binary64 n))) (sym c.nearest_within-bits.ensures) (nearest_bits-number _ _ _)

pub returns : goal.returns
returns c =
    ap (of_bits binary64) c.nearest_within-bits.ensures ∙ flonum-bits _ _ _ _ _ _ c.places.ensures.value c.saturating_sub-power.ensures c.saturating_sub.ensures
