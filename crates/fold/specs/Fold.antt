-- The running fold of bytes into an accumulator, by the answers of fixnum calls. A record has the width, the start and the end of the field
-- that is rotated, the rotation's count, and the accumulator.
--   settings w start end count a    ==  the record with these fields
--   with_accumulator f a             ==  f with another accumulator
--   fields f                        ==  the accumulator, the start, the end and the count: the arguments of its rotation
--   rotation f                      ==  code 40's answer to them
--   is_open f                        ==  whether that call is done
--   xored w x y                     ==  code 28's result for two numbers
--   fold_byte f b                    ==  f with its accumulator rotated, and then xored with the byte b
--   fold_bytes f bs                  ==  the same for each byte of bs, from the left
--   AllBytes bs                     ==  each number of bs is below 256, as every element of a chunk is
use Rattle.std.specs.Prelude.{ℕ, ◌<◌, Bool, List, [], ◌∷◌, eqb, ℤ, pos}
use Rattle.fxtable.specs.declared.answer.Answer.{Answer}
use Rattle.fxtable.specs.Calls.{answer_of}
use Rattle.fold.specs.declared.Fold.{Fold}

unfoldable pub settings : ℕ → ℤ → ℤ → ℤ → ℤ → Fold
settings w start end count a = record { width = w; start = start; end = end; count = count; accumulator = a }

unfoldable pub with_accumulator : Fold → ℤ → Fold
with_accumulator f a = settings f.width f.start f.end f.count a

abbrev pub fields : Fold → List ℤ
fields f = f.accumulator ∷ f.start ∷ f.end ∷ f.count ∷ []

unfoldable pub rotation : Fold → Answer
rotation f = answer_of f.width 40 (fields f)

unfoldable pub is_open : Fold → Bool
is_open f = eqb (rotation f).refusal 0

unfoldable pub xored : ℕ → ℤ → ℤ → ℤ
xored w x y = (answer_of w 28 (x ∷ y ∷ [])).first

unfoldable pub fold_byte : Fold → ℕ → Fold
fold_byte f b = with_accumulator f (xored f.width (rotation f).first (pos b))

unfoldable pub fold_bytes : Fold → List ℕ → Fold
fold_bytes f [] = f
fold_bytes f (b ∷ bs) = fold_bytes (fold_byte f b) bs

unfoldable pub AllBytes : List ℕ → Type 0
AllBytes [] = Unit {0}
AllBytes (b ∷ bs) = (b < 256) × AllBytes bs
