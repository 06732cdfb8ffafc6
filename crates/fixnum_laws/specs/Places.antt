-- The place of an answer: the argument that the call is refused for. Arguments are counted from 1 here, as places are.
--   argument xs k                  ==  argument k of xs
--   is_fixnum w xs k                ==  whether it is a fixnum: the test of refusal 4
--   in_domain w code xs k           ==  whether it lies in its domain, given those before it: the test of refusal 5
--   FirstBreach test k             ==  argument k breaks the test, and none before it does
--   RefusedFor w code xs a k       ==  the answer a is a refusal for argument k
--   without_place a                 ==  the refusal number and the results of a
--   former_answer w code args n     ==  what the call answered before an answer had a place
--   PlaceStatement w code args n   ==  what the place of the call's answer says, and that nothing else has changed
use Rattle.std.specs.Prelude.{ℕ, suc, ◌-◌, ◌≤◌, ◌<◌, ◌≡◌, Bool, true, false, ◌&&◌, List, [], ◌∷◌, ◌⊎◌, ◌↔◌, ℤ, pos}
use Rattle.bits.specs.Testbit.{fits}
use Rattle.outcomes.specs.Outcome.{Outcome, refused, done, guard}
use Rattle.fxtable.specs.declared.answer.Answer.{Answer}
use Rattle.fxtable.specs.declared.domains.Domain.{Domain}
use Rattle.fxtable.specs.Domains.{is_width, arg, accepts, domain_at}
use Rattle.fxtable.specs.Table.{is_code, row_of}
use Rattle.fxtable.specs.Calls.{counted, is_count, outcome, fixnum_answer}

unfoldable pub argument : List ℤ → ℕ → ℤ
argument xs k = arg xs (k - 1)

unfoldable pub is_fixnum : ℕ → List ℤ → ℕ → Bool
is_fixnum w xs k = fits w (argument xs k)

unfoldable pub in_domain : ℕ → ℕ → List ℤ → ℕ → Bool
in_domain w code xs k = accepts (domain_at (row_of code).domains (k - 1)) w xs (argument xs k)

pub record FirstBreach (test : ℕ → Bool) (k : ℕ) : Type 0 where
  pub breaks : test k ≡ false
  pub before : (j : ℕ) → 1 ≤ j → j < k → test j ≡ true

unfoldable pub RefusedFor : ℕ → ℕ → List ℤ → Answer → ℕ → Type 0
RefusedFor w code xs a k =
    ((a.refusal ≡ 4) × FirstBreach (is_fixnum w xs) k) ⊎ ((a.refusal ≡ 5) × FirstBreach (in_domain w code xs) k)

-- ---- before there were places

abbrev pub without_place : Answer → ℕ × ℤ × ℤ
without_place a = (a.refusal, a.first, a.second)

unfoldable pub former_fixnums : ℕ → List ℤ → Bool
former_fixnums w [] = true
former_fixnums w (x ∷ xs) = fits w x && former_fixnums w xs

unfoldable pub former_domains_from : ℕ → List Domain → ℕ → List ℤ → Bool
former_domains_from i [] w xs = true
former_domains_from i (d ∷ ds) w xs = accepts d w xs (arg xs i) && former_domains_from (suc i) ds w xs

unfoldable pub formerly : Outcome (ℤ × ℤ) → ℕ × ℤ × ℤ
formerly (refused k detail) = (k, pos 0, pos 0)
formerly (done results) = (0, results.0, results.1)

unfoldable pub former_answer : ℕ → ℕ → List ℤ → ℕ → ℕ × ℤ × ℤ
former_answer w code args n =
    formerly
    (guard (is_width w) 1
    (guard (is_code code) 2
    (guard (is_count code n) 3
    (guard (former_fixnums w (counted args n)) 4
    (guard (former_domains_from 0 (row_of code).domains w (counted args n)) 5
    (outcome w code (counted args n)))))))

-- ---- the statement

pub record PlaceStatement (w code : ℕ) (args : List ℤ) (n : ℕ) : Type 0 where
  -- the place is k exactly where the call is refused for argument k
  pub exactly : (k : ℕ) → 1 ≤ k → ((fixnum_answer w code args n).place ≡ k) ↔ RefusedFor w code (counted args n) (fixnum_answer w code args n) k
  -- it is a counted argument, and there are four at most
  pub among : ((fixnum_answer w code args n).place ≤ n) × ((fixnum_answer w code args n).place ≤ 4)
  -- refusal 4 is for an argument, and so is 5, but for fx-: its 5 is for size
  pub of-4 : (fixnum_answer w code args n).refusal ≡ 4 → 1 ≤ (fixnum_answer w code args n).place
  pub of-5 : (fixnum_answer w code args n).refusal ≡ 5 → (code ≡ 15 → ⊥) → 1 ≤ (fixnum_answer w code args n).place
  pub of_size : (fixnum_answer w code args n).refusal ≡ 5 → code ≡ 15 → (fixnum_answer w code args n).place ≡ 0
  -- every other answer has place 0
  pub of_others : ((fixnum_answer w code args n).refusal ≡ 4 → ⊥) → ((fixnum_answer w code args n).refusal ≡ 5 → ⊥) → (fixnum_answer w code args n).place ≡ 0
  -- all but the place is as it was
  pub unmoved : without_place (fixnum_answer w code args n) ≡ former_answer w code args n
