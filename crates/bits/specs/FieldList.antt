-- Lists of rotate and reverse calls on one field, as document 01's demand 3 compares them.
--   FieldCall                            ==  a rotate with its count, or a reverse
--   run_calls done start end calls x      ==  the number at the end of the list, from x: a call that is not done leaves its number
--   net_count done size calls             ==  01's net count, from 0 to size - 1
--   odd_reversals done calls              ==  whether the done reversals are odd in number
-- `done` says which calls are done. Each part of the library has its own rule, so it is a parameter.
use Rattle.std.specs.Prelude.{ℕ, Bool, true, false, cond, ◌&&◌, List, [], ◌∷◌, ℤ, pos, ◌+ℤ◌, ◌-ℤ◌}
use Rattle.std.specs.Bool.{xor}
use Rattle.bits.specs.Division.{«mod»}
use Rattle.bits.specs.Field.{rotate_bit_field, reverse_bit_field}

pub data FieldCall : Type 0 where
  rotate : ℤ → FieldCall
  reverse : FieldCall

-- one call that is done
unfoldable pub run_call : ℕ → ℕ → FieldCall → ℤ → ℤ
run_call start end (rotate c) x = rotate_bit_field x start end c
run_call start end reverse x = reverse_bit_field x start end

unfoldable pub run_calls : (FieldCall → Bool) → ℕ → ℕ → List FieldCall → ℤ → ℤ
run_calls done start end [] x = x
run_calls done start end (call ∷ calls) x = run_calls done start end calls (cond (done call) (run_call start end call x) x)

-- what one call that is done makes of the net count s
unfoldable pub count_call : ℕ → FieldCall → ℤ → ℤ
count_call size (rotate c) s = «mod» (s +ℤ c) (pos size)
count_call size reverse s = «mod» (pos size -ℤ s) (pos size)

unfoldable pub net_count_from : (FieldCall → Bool) → ℕ → List FieldCall → ℤ → ℤ
net_count_from done size [] s = s
net_count_from done size (call ∷ calls) s = net_count_from done size calls (cond (done call) (count_call size call s) s)

unfoldable pub net_count : (FieldCall → Bool) → ℕ → List FieldCall → ℤ
net_count done size calls = net_count_from done size calls (pos 0)

unfoldable pub is_reverse : FieldCall → Bool
is_reverse (rotate c) = false
is_reverse reverse = true

unfoldable pub odd_reversals : (FieldCall → Bool) → List FieldCall → Bool
odd_reversals done [] = false
odd_reversals done (call ∷ calls) = xor (done call && is_reverse call) (odd_reversals done calls)
