-- The breaches of a form and of a rule, item by item: where what stands before the item is as it should be, it offends where it begins.
--   Continued s              ==  each byte of s says that more groups follow
--   deep_from f d             ==  the bytes of f from its first form that is nested more than d deep
--   NumberStatement G left k ==  where numbers offend that do not end
--   HeadStatement            ==  where the items of a form offend
--   DepthStatement w f       ==  where a rule offends that is nested too deep
use Rattle.std.specs.Prelude.{ℕ, zero, suc, ◌-◌, ◌≤◌, ◌<◌, ◌≡◌, true, false, cond, List, [], ◌∷◌, ◌++◌, leb, ℤ, length}
use Rattle.outcomes.specs.Outcome.{refused}
use Rattle.fxtable.specs.Calls.{is_count}
use Rattle.rules.specs.Tree.{Form, Forms, constant, input, call, none, more, depth}
use Rattle.rules.specs.Leb128.{offends, Groups, unsigned, signed, encode, decode, in_groups}
use Rattle.rules.specs.Limits.{number_groups, constant_groups, deepest, longest, is_stored_width, is_tag, is_input, is_constant, is_stored_code, within_limits}
use Rattle.rules.specs.Bytes.{number, bytes, all_bytes, encode_rule}
use Rattle.rules.specs.Parse.{read_head, rule, read_rule, parse}

unfoldable pub Continued : List ℕ → Type 0
Continued [] = Unit {0}
Continued (b ∷ s) = (128 ≤ b) × Continued s

unfoldable mutual
  pub deep_from : Form → ℕ → List ℕ
  deep_from (constant z) zero = bytes (constant z)
  deep_from (constant z) (suc d) = []
  deep_from (input i) zero = bytes (input i)
  deep_from (input i) (suc d) = []
  deep_from (call code args) zero = bytes (call code args)
  deep_from (call code args) (suc d) = all_deep_from args d

  pub all_deep_from : Forms → ℕ → List ℕ
  all_deep_from none d = []
  all_deep_from (more f fs) d = cond (leb (depth f) d) (all_deep_from fs d) (deep_from f d ++ all_bytes fs)

pub record NumberStatement {A : Type 0} (G : Groups A) (left k : ℕ) : Type 0 where
  -- the bytes end before the number does, and it has fewer groups than it may: they end early
  pub cut_off : (s : List ℕ) → Continued s → length s < k → decode G left k s ≡ offends 0
  -- as many groups as it may have, and more to come: it offends where it begins
  pub too_many : (s rest : List ℕ) → Continued s → length s ≡ k → decode G left k (s ++ rest) ≡ offends left

pub record HeadStatement : Type 0 where
  pub tag : (t : ℕ) (rest : List ℕ) → in_groups unsigned number_groups t ≡ true → is_tag t ≡ false
      → read_head (number t ++ rest) ≡ offends (length (number t ++ rest))
  pub of-constant : (z : ℤ) (rest : List ℕ) → in_groups signed constant_groups z ≡ true → is_constant z ≡ false
      → read_head (0 ∷ (encode signed constant_groups z ++ rest)) ≡ offends (length (encode signed constant_groups z ++ rest))
  pub of-input : (i : ℕ) (rest : List ℕ) → in_groups unsigned number_groups i ≡ true → is_input i ≡ false
      → read_head (1 ∷ (number i ++ rest)) ≡ offends (length (number i ++ rest))
  pub of_code : (code : ℕ) (rest : List ℕ) → in_groups unsigned number_groups code ≡ true → is_stored_code code ≡ false
      → read_head (2 ∷ (number code ++ rest)) ≡ offends (length (number code ++ rest))
  pub of-count : (code n : ℕ) (rest : List ℕ) → is_stored_code code ≡ true → in_groups unsigned number_groups n ≡ true → is_count code n ≡ false
      → read_head (2 ∷ (number code ++ (number n ++ rest))) ≡ offends (length (number n ++ rest))
  pub of_width : (w : ℕ) (rest : List ℕ) → in_groups unsigned number_groups w ≡ true → is_stored_width w ≡ false
      → read_rule (number w ++ rest) ≡ offends (length (number w ++ rest))

pub record DepthStatement (w : ℕ) (f : Form) : Type 0 where
  -- the first form that is too deep offends where its tag begins
  pub tag : is_stored_width w ≡ true → within_limits f ≡ true → deepest < depth f → length (encode_rule (rule w f)) ≤ longest
      → parse (encode_rule (rule w f)) ≡ refused 10 (length (encode_rule (rule w f)) - length (deep_from f deepest))
