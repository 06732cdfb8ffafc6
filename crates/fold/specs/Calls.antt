-- What the calls on the record answer, and the record afterwards.
--   zeros                              ==  the record of a refused opening
--   opened a                           ==  the refusal and the place of an answer
--   opening f                          ==  opening with the fields of f: refused as their rotation is, for the same place, and then the record is zeros
--   opened_as e                        ==  a refused opening's answer
--   opening_of r                       ==  what a result of opening tells C, and the record afterwards: zeros where it is refused
--   after k f                          ==  the refusal number k, and the record f
--   folding_of f r                     ==  what a result of a chunk or a piece tells C, and the record afterwards: f where it is refused
--   folding f bs                       ==  a chunk: refusal 9, and nothing changed, where opening with the record's own fields would be refused
--   read_outcome f                      ==  the accumulator, or refusal 9
--   identifier w start end count a bs  ==  what reading answers, after opening with these settings and one chunk
--   net_count f n                       ==  the count of one rotation that equals n of the record's: 0 where the field is empty
--   joined f piece n                   ==  code 28's answer to the accumulator, rotated by the net count, and the piece
--   joining f piece n                  ==  a piece of n bytes, folded from 0 by the same settings: refusal 9 as for a chunk, and 4 where it is no fixnum
use Rattle.std.specs.Prelude.{ℕ, ◌*◌, ◌-◌, ◌%◌, cond, List, [], ◌∷◌, eqb, ℤ, pos, nat_abs, Result, Ok, Err, unwrap_or}
use Rattle.outcomes.specs.declared.refusal.Refusal.{Refusal}
use Rattle.outcomes.specs.Outcome.{Outcome, done, guard}
use Rattle.outcomes.specs.Refusal.{code_of}
use Rattle.fxtable.specs.declared.answer.Answer.{Answer}
use Rattle.fxtable.specs.Calls.{answer_of}
use Rattle.fold.specs.declared.Fold.{Fold}
use Rattle.fold.specs.declared.Opened.{Opened}
use Rattle.fold.specs.declared.opening.Refused.{Refused}
use Rattle.fold.specs.Fold.{settings, with_accumulator, rotation, is_open, fold_bytes}

-- what opening answers, and the record afterwards
pub record Opening : Type 0 where
  pub opened : Opened
  pub fold : Fold

-- what a chunk or a piece answers, and the record afterwards
pub record Folding : Type 0 where
  pub refusal : ℕ
  pub fold : Fold

unfoldable pub zeros : Fold
zeros = settings 0 (pos 0) (pos 0) (pos 0) (pos 0)

unfoldable pub opened : Answer → Opened
opened a = record { refusal = a.refusal; place = a.place }

unfoldable pub opening : Fold → Opening
opening f = record { opened = opened (rotation f); fold = cond (is_open f) f zeros }

unfoldable pub opened_as : Refused → Opened
opened_as e = record { refusal = code_of e.refusal; place = unwrap_or e.place 0 }

unfoldable pub opening_of : Result Fold Refused → Opening
opening_of (Ok f) = record { opened = record { refusal = 0; place = 0 }; fold = f }
opening_of (Err e) = record { opened = opened_as e; fold = zeros }

unfoldable pub after : ℕ → Fold → Folding
after k f = record { refusal = k; fold = f }

unfoldable pub folding_of : Fold → Result Fold Refusal → Folding
folding_of f (Ok g) = after 0 g
folding_of f (Err r) = after (code_of r) f

unfoldable pub folding : Fold → List ℕ → Folding
folding f bs = cond (is_open f) (after 0 (fold_bytes f bs)) (after 9 f)

unfoldable pub read_outcome : Fold → Outcome ℤ
read_outcome f = guard (is_open f) 9 (done f.accumulator)

unfoldable pub identifier : ℕ → ℤ → ℤ → ℤ → ℤ → List ℕ → Outcome ℤ
identifier w start end count a bs = read_outcome (folding (opening (settings w start end count a)).fold bs).fold

unfoldable pub net_count : Fold → ℕ → ℕ
net_count f n = let size = nat_abs f.end - nat_abs f.start in cond (eqb size 0) 0 (nat_abs f.count * n % size)

unfoldable pub joined : Fold → ℤ → ℕ → Answer
joined f piece n =
    answer_of f.width 28 ((answer_of f.width 40 (f.accumulator ∷ f.start ∷ f.end ∷ pos (net_count f n) ∷ [])).first ∷ piece ∷ [])

unfoldable pub joining : Fold → ℤ → ℕ → Folding
joining f piece n =
    cond (is_open f)
    (cond (eqb (joined f piece n).refusal 0) (after 0 (with_accumulator f (joined f piece n).first)) (after (joined f piece n).refusal f))
    (after 9 f)
