-- A list that is written whole, in one part or in two. Assumes nothing.
use Rattle.std.proofs.Common.{rules, ◌≡◌, ◌∙◌, sym, ap, ℕ, ◌+◌, ◌-◌, ◌≤◌, ◌<◌, zero-le, List, length, get_or, arith}
use Rattle.std.proofs.lemmas.List.{places}
use borrow.Rule.Slice.PartMut.{put_mid}
use lib.ListN.{get_or-eq_default}
use Rattle.outcomes.specs.Puts.{Puts}
use Rattle.outcomes.proofs.PutsLaws.{puts-as, puts-join}

pub puts-whole : {f : ℕ → ℕ} (a ys : List ℕ) → length ys ≡ length a → ((j : ℕ) → j < length a → get_or ys j 0 ≡ f j) → Puts 0 f a ys 0 (length a)
puts-whole a ys size each = record {
  size = size;
  inside = λ j h k. each j k;
  below = λ j h. absurd (omega arith);
  above = λ j h. get_or-eq_default ys 0 (omega (arith, size)) ∙ sym (get_or-eq_default a 0 h);
}

-- a part of a list that is written whole
pub puts-part : {f : ℕ → ℕ} (a : List ℕ) {b ys : List ℕ} (from k to : ℕ) → Puts 0 (λ j. f (from + j)) b ys 0 (length b) → length b ≡ k → from + k ≡ to → to ≤ length a
    → Puts 0 f a (put_mid from k a ys) from to
puts-part {f} a {b} {ys} from k to w long end h = record {
  size = search (rules, places);
  inside = λ j l m.
      let at : from + (j - from) ≡ j = omega arith in
      let is : get_or (put_mid from k a ys) j 0 ≡ get_or ys (j - from) 0 = search (rules, places) in
      is ∙ w.inside (j - from) zero-le (omega arith) ∙ ap f at;
  below = λ j l. search (rules, places);
  above = λ j l. search (rules, places);
}
  where
    size : length ys ≡ k
    size = w.size ∙ long

-- the first k elements
pub puts-first : {f : ℕ → ℕ} (a : List ℕ) {b ys : List ℕ} (k : ℕ) → Puts 0 f b ys 0 (length b) → length b ≡ k → k ≤ length a → Puts 0 f a (put_mid 0 k a ys) 0 k
puts-first {f} a k v long h =
    puts-part a 0 k k
    (puts-as (λ j l m. let at : j ≡ 0 + j = omega arith in ap f at) v)
    long (omega arith) h

-- the first k elements and then the rest
pub puts-two : {f : ℕ → ℕ} (a : List ℕ) {b ys d zs : List ℕ} (k : ℕ) → Puts 0 f b ys 0 (length b) → length b ≡ k → k ≤ length a
    → Puts 0 (λ j. f (k + j)) d zs 0 (length d) → length d ≡ length a - k
    → let first = put_mid 0 k a ys in Puts 0 f a (put_mid k (length first - k) first zs) 0 (length a)
puts-two {f} a {b} {ys} k v long h w rest =
    let one = puts-first a k v long h in
    let size = one.size in
    let first = put_mid 0 k a ys in
    puts-join one (puts-part first k (length first - k) (length a) w (omega (arith, size)) (omega (arith, size)) (omega (arith, size))) zero-le h
