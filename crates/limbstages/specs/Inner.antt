-- What the stages promise the calls: a check's result as an outcome, with the unsigned numbers that a call goes on with. No public call's
-- contract cites these.
use Rattle.std.specs.Prelude.{ℕ, Result}
use Rattle.outcomes.specs.declared.refusal.Refusal.{Refusal}
use Rattle.outcomes.specs.Outcome.{Outcome, map_done}
use Rattle.outcomes.specs.Refusal.{outcome_of}
use Rattle.limbstages.specs.declared.numbers.Field.{Field}
use Rattle.limbstages.specs.declared.numbers.Rotation.{Rotation}
use Rattle.limbstages.specs.declared.numbers.NewBit.{NewBit}

unfoldable pub field_of : Result Field Refusal → Outcome (ℕ × ℕ)
field_of r = map_done (λ (f : Field). (f.start, f.end)) (outcome_of r)

unfoldable pub rotation_of : Result Rotation Refusal → Outcome (ℕ × (ℕ × ℕ))
rotation_of r = map_done (λ (n : Rotation). (n.field.start, (n.field.end, n.count))) (outcome_of r)

unfoldable pub new_bit_of : Result NewBit Refusal → Outcome (ℕ × ℕ)
new_bit_of r = map_done (λ (n : NewBit). (n.position, n.bit)) (outcome_of r)
