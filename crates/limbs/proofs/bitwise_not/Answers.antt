-- `limbs::bitwise_not` meets its contract. Assumes nothing.
use native.Mathlib.Omega.{arith}
use Prim.Native.Nat.{ℕ, ◌+◌, ◌/◌}
use mathlib.Core.Path.{◌≡◌, sym, ap, ◌∙◌}
use mathlib.Core.Bool.{not}
use lib.IntN.{ℤ}
use Rattle.bits.specs.Logical.{bitwise}
use Rattle.bits.proofs.LengthLaws.{bit_length-not}
use Rattle.bits.proofs.LogicalLaws.{not-bitwise}
use Rattle.outcomes.specs.Outcome.{done}
use Rattle.limbwords.specs.Value.{limb_count}
use Rattle.limbwords.specs.Results.{logic_of, meaning, Proper}
use Rattle.limbstages.proofs.StageLaws.{operand-ok, operand-err, operand_lengths, operand-length, operand-count}
use Rattle.limbstages.proofs.WritesLaws.{writes_as, writes-exited}
use Rattle.limbs.specs.Operations.{not_outcome}
use Rattle.limbs.proofs.bitwise_not.Goals as goal

-- the complement, as a Boolean operation of its operand taken twice, has as many limbs
not-count : (z : ℤ) → limb_count z ≡ limb_count (bitwise (λ a b. not a) z z)
unfolding limb_count
not-count z = ap (λ (n : ℕ). n / 32 + 1) (sym (bit_length-not z)) ∙ ap limb_count (not-bitwise z)

pub returns-in_err-check_operand : goal.returns-in_err-check_operand
unfolding not_outcome
returns-in_err-check_operand c = writes-exited _ _ (operand-err _ _ _ c.in_err-check_operand.ensures) c.from_residual.ensures.1

pub invariant_of-d : goal.invariant_of-d
unfolding Proper
invariant_of-d c =
    let x = operand-length _ (operand-ok _ (done (tt {0})) _ c.in_ok-check_operand.ensures).0 in
    record { proper = ∣ tt ∣₁; x_nonzero = x; y_nonzero = x; z_nonzero = x }

pub store-requires : goal.store-requires
unfolding meaning logic_of
store-requires c =
    let l = (operand-ok _ (done (tt {0})) _ c.in_ok-check_operand.ensures).0 in
    let x = operand_lengths _ l in
    record { n_bound = omega (arith, x.1); n_value = operand-count _ l ∙ not-count _ }

pub returns : goal.returns
unfolding not_outcome meaning logic_of
returns c =
    writes_as ((operand-ok _ _ _ c.in_ok-check_operand.ensures).1 ∙ ap done (not-bitwise _)) c.store.ensures
