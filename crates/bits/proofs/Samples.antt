-- R6RS gives a sample computation with most of its bitwise procedures: each is equal to our definition. Assumes nothing.
-- A sample's transcription keeps its names (mask, field1, ..); positions and counts are natural numbers. 000 has the same
-- computations over fixnums: where they stay in range, these laws speak of them too.
use mathlib.Core.Path.{◌≡◌, refl, sym, ◌∙◌, ap, ap₂}
use mathlib.Core.Bool.{Bool, true, false, not, cond, ◌&&◌, ◌||◌, true≢false}
use Prim.Native.Nat.{ℕ, zero, suc, ◌+◌, ◌-◌, ◌/◌, ◌%◌, ◌^◌, ◌≤◌, ◌<◌}
use native.Mathlib.Nat.{le_refl, zero-add, add_comm, mod-lt, mod-eq_of_lt, add-mod_right}
use native.Mathlib.Omega.{arith}
use lib.Arith.{half_le}
use lib.Dec.{eqb, ltb, leb, eqb-suc-zero}
use lib.IntN.{ℤ, pos, negsuc, ◌-ℤ◌, ◌*ℤ◌}
use lib.Signed.{mag}
use borrow.Author.Tests.{eqb-true, eqb-false, eq-eqb, lt-ltb, le-ltb, le-leb, lt-leb}
use Rattle.bits.specs.Testbit.{odd, is_negative, testbit, halvings, bit_length, cons_bit, of_bits}
use Rattle.bits.specs.Logical.{bitwise_not, bitwise_and, bitwise_ior, bitwise_if}
use Rattle.bits.specs.Shift.{floor_div, shift_left, shift_right, arithmetic_shift}
use Rattle.bits.specs.Division.{mod_ℕ}
use Rattle.bits.specs.Field.{
  in_field,
  bit_field,
  set_field,
  copy_bit_field,
  copy_bit,
  permute_field,
  rotate_index,
  reverse_index,
  rotate_bit_field,
  reverse_bit_field,
}
use Rattle.bits.specs.Count.{bit_count, first_true, first_bit_set}
use Rattle.bits.proofs.Booleans.{all₁, and-swap, and-false, not-not}
use Rattle.bits.proofs.TestbitLaws.{
  by-lt,
  testbit-ext,
  testbit-zero,
  halvings-zero,
  halvings-suc,
  testbit-shift_right,
}
use Rattle.bits.proofs.Algebra as Algebra
use Rattle.bits.proofs.LogicalLaws.{testbit-not, testbit-and, testbit-ior, testbit-if}
use Rattle.bits.proofs.FieldLaws.{by_field, testbit-bit_field, testbit-copy_bit_field, testbit-copy_bit, testbit-rotate_bit_field}
use Rattle.bits.proofs.ShiftLaws.{
  shift_left-zero,
  shift_left-zero-l,
  shift_right-zero,
  testbit-shift_left,
  testbit-shift_left-ge,
  testbit-shift_left-one,
  testbit-shift_left-ones,
}
use Rattle.bits.proofs.RotateLaws.{rotate_index-nat, rotate-empty, rotate-full}
use Rattle.bits.proofs.FieldAlgebra.{bit_field-empty, copy_bit_field-bit_field}

abbrev is_zero : ℤ → Bool
is_zero (pos n) = eqb n 0
is_zero (negsuc n) = false

-- ---- bitwise-if: where x is 1 the bits of y, joined with those of z where x is 0
abbrev bitwise_if_sample : ℤ → ℤ → ℤ → ℤ
bitwise_if_sample x y z = bitwise_ior (bitwise_and x y) (bitwise_and (bitwise_not x) z)

pub sample-bitwise_if : (x y z : ℤ) → bitwise_if_sample x y z ≡ bitwise_if x y z
unfolding bitwise_if
sample-bitwise_if x y z = refl

-- ---- bitwise-bit-count: the complement of the count of the complement. R6RS states it for x < 0, and it holds for all x
abbrev bit_count_sample : ℤ → ℤ
bit_count_sample x = bitwise_not (bit_count (bitwise_not x))

pub sample-bit_count : (x : ℤ) → bit_count_sample x ≡ bit_count x
unfolding bitwise_not bit_count
sample-bit_count (pos n) = refl
sample-bit_count (negsuc n) = refl

-- ---- bitwise-length: a loop that shifts x, or not x where x < 0, to the right by 1 until it is 0, and counts the rounds
-- The first argument bounds the number of rounds: mag x rounds are enough.
abbrev length_loop : ℕ → ℕ → ℤ → ℕ
length_loop zero result bits = result
length_loop (suc bound) result bits = cond (is_zero bits) result (length_loop bound (result + 1) (arithmetic_shift bits (negsuc 0)))

abbrev bit_length_sample : ℕ → ℤ → ℕ
bit_length_sample bound x = length_loop bound 0 (cond (is_negative x) (bitwise_not x) x)

length-loop : (bound k result n : ℕ) → n ≤ bound → n ≤ k → length_loop bound result (pos n) ≡ result + halvings k n
unfolding arithmetic_shift shift_right floor_div
length-loop zero k result n h l = let z : n ≡ 0 = omega arith in rw z (omega (arith, halvings-zero k))
length-loop (suc bound) k result zero h l = omega (arith, halvings-zero k)
length-loop (suc bound) zero result (suc n) h l = absurd (omega arith)
length-loop (suc bound) (suc k) result (suc n) h l =
    ap (λ (b : Bool). cond b result (length_loop bound (result + 1) (pos (suc n / 2)))) (eqb-suc-zero n)
    ∙ length-loop bound k (result + 1) (suc n / 2) (half_le h) (half_le l)
    ∙ omega (arith, halvings-suc k (suc n) (omega arith))

not_negative : (x : ℤ) → cond (is_negative x) (bitwise_not x) x ≡ pos (mag x)
unfolding is_negative bitwise_not
not_negative (pos n) = refl
not_negative (negsuc n) = refl

pub sample-bit_length : (x : ℤ) (bound : ℕ) → mag x ≤ bound → bit_length_sample bound x ≡ bit_length x
unfolding bit_length
sample-bit_length x bound h =
    ap (length_loop bound 0) (not_negative x)
    ∙ length-loop bound (mag x) 0 (mag x) h (le_refl (mag x))
    ∙ zero-add (halvings (mag x) (mag x))

-- ---- bitwise-bit-set?: whether x and 1 shifted to k have a bit in common (000 has the two the other way round)
abbrev testbit_sample : ℤ → ℕ → Bool
testbit_sample x k = not (is_zero (bitwise_and (shift_left (pos 1) k) x))

by-eq : (P : Bool → Type 0) (i k : ℕ) → (i ≡ k → P true) → P false → P (eqb i k)
by-eq P i k f g = go (eqb i k) refl
  where
    go : (b : Bool) → eqb i k ≡ b → P b
    go true e = f (eqb-true i k e)
    go false e = g

is_zero-zero : (x : ℤ) → is_zero x ≡ true → x ≡ pos 0
is_zero-zero (pos n) e = ap pos (eqb-true n 0 e)
is_zero-zero (negsuc n) e = absurd (true≢false (sym e))

-- an integer with a bit that is 1 is not 0
is_zero-one : (x : ℤ) (i : ℕ) → testbit x i ≡ true → is_zero x ≡ false
is_zero-one x i e = go (is_zero x) refl
  where
    go : (b : Bool) → is_zero x ≡ b → b ≡ false
    go true z = absurd (true≢false (sym e ∙ ap (λ (y : ℤ). testbit y i) (is_zero-zero x z) ∙ testbit-zero i))
    go false z = refl

one_bit : (x : ℤ) (k i : ℕ) → testbit (bitwise_and (shift_left (pos 1) k) x) i ≡ eqb i k && testbit x k
one_bit x k i =
    testbit-and (shift_left (pos 1) k) x i
    ∙ ap (λ (b : Bool). b && testbit x i) (testbit-shift_left-one k i)
    ∙ by-eq (λ b. b && testbit x i ≡ b && testbit x k) i k (ap (testbit x)) refl

pub sample-testbit : (x : ℤ) (k : ℕ) → testbit_sample x k ≡ testbit x k
sample-testbit x k = go (testbit x k) refl
  where
    go : (b : Bool) → testbit x k ≡ b → testbit_sample x k ≡ b
    go true e = ap not (is_zero-one (bitwise_and (shift_left (pos 1) k) x) k (one_bit x k k ∙ ap₂ ◌&&◌ (eq-eqb k k refl) e))
    go false e = ap (λ (y : ℤ). not (is_zero y)) (testbit-ext (λ i. one_bit x k i
        ∙ ap (λ (b : Bool). eqb i k && b) e
        ∙ and-false (eqb i k)
        ∙ sym (testbit-zero i)))

pub sample-testbit-fx : (x : ℤ) (k : ℕ) → not (is_zero (bitwise_and x (shift_left (pos 1) k))) ≡ testbit x k
sample-testbit-fx x k = ap (λ (y : ℤ). not (is_zero y)) (Algebra.and_comm x (shift_left (pos 1) k)) ∙ sample-testbit x k

-- ---- bitwise-copy-bit: an if under a mask with a one at k. Of the new bit y only bit 0 matters
abbrev copy_bit_sample : ℤ → ℕ → ℤ → ℤ
copy_bit_sample x k y =
    let mask : ℤ = shift_left (pos 1) k in
    bitwise_if mask (shift_left y k) x

pub sample-copy_bit : (x : ℤ) (k : ℕ) (y : ℤ) → copy_bit_sample x k y ≡ copy_bit x k y
sample-copy_bit x k y = testbit-ext (λ i. testbit-if (shift_left (pos 1) k) (shift_left y k) x i
    ∙ ap (λ (b : Bool). cond b (testbit (shift_left y k) i) (testbit x i)) (testbit-shift_left-one k i)
    ∙ by-eq (λ b. cond b (testbit (shift_left y k) i) (testbit x i) ≡ cond b (testbit y 0) (testbit x i)) i k (at-k i) refl
    ∙ sym (testbit-copy_bit x k y i))
  where
    at-k : (i : ℕ) → i ≡ k → testbit (shift_left y k) i ≡ testbit y 0
    at-k i e = testbit-shift_left-ge y k i (omega arith) ∙ (let z : i - k ≡ 0 = omega arith in ap (testbit y) z)

-- ---- bitwise-bit-field: the bits below end, shifted to the right by start
abbrev bit_field_sample : ℤ → ℕ → ℕ → ℤ
bit_field_sample x start end =
    let mask : ℤ = bitwise_not (shift_left (negsuc 0) end) in
    shift_right (bitwise_and x mask) start

-- ones below k
testbit-not-ones : (k i : ℕ) → testbit (bitwise_not (shift_left (negsuc 0) k)) i ≡ ltb i k
testbit-not-ones k i = testbit-not (shift_left (negsuc 0) k) i ∙ ap not (testbit-shift_left-ones k i) ∙ not-not (ltb i k)

pub sample-bit_field : (x : ℤ) (start end : ℕ) → bit_field_sample x start end ≡ bit_field x start end
sample-bit_field x start end = testbit-ext (λ j. testbit-shift_right (bitwise_and x (bitwise_not (shift_left (negsuc 0) end))) start j
    ∙ testbit-and x (bitwise_not (shift_left (negsuc 0) end)) (start + j)
    ∙ ap (λ (b : Bool). testbit x (start + j) && b) (testbit-not-ones end (start + j) ∙ below j)
    ∙ and-swap (testbit x (start + j)) (ltb j (end - start))
    ∙ sym (testbit-bit_field x start end j))
  where
    below : (j : ℕ) → ltb (start + j) end ≡ ltb j (end - start)
    below j = by-lt (λ b. b ≡ ltb j (end - start)) (start + j) end (λ h. sym (lt-ltb j (end - start) (omega arith)))
        (λ h. sym (le-ltb j (end - start) (omega arith)))

-- ---- bitwise-copy-bit-field: an if under a mask with ones from start up to end
abbrev copy_bit_field_sample : ℤ → ℕ → ℕ → ℤ → ℤ
copy_bit_field_sample to start end from =
    let mask1 : ℤ = shift_left (negsuc 0) start in
    let mask2 : ℤ = bitwise_not (shift_left (negsuc 0) end) in
    let mask : ℤ = bitwise_and mask1 mask2 in
    bitwise_if mask (shift_left from start) to

-- ones in the field
testbit-field-ones : (start end i : ℕ)
    → testbit (bitwise_and (shift_left (negsuc 0) start) (bitwise_not (shift_left (negsuc 0) end))) i ≡ in_field start end i
unfolding in_field
testbit-field-ones start end i =
    testbit-and (shift_left (negsuc 0) start) (bitwise_not (shift_left (negsuc 0) end)) i
    ∙ ap₂ ◌&&◌ (testbit-shift_left-ones start i ∙ not-below) (testbit-not-ones end i)
  where
    not-below : not (ltb i start) ≡ leb start i
    not-below = by-lt (λ b. not b ≡ leb start i) i start (λ h. sym (lt-leb start i h)) (λ h. sym (le-leb start i h))

pub sample-copy_bit_field : (to : ℤ) (start end : ℕ) (from : ℤ) → copy_bit_field_sample to start end from ≡ copy_bit_field to start end from
sample-copy_bit_field to start end from = testbit-ext (λ i.
    testbit-if (bitwise_and (shift_left (negsuc 0) start) (bitwise_not (shift_left (negsuc 0) end))) (shift_left from start) to i
    ∙ ap (λ (b : Bool). cond b (testbit (shift_left from start) i) (testbit to i)) (testbit-field-ones start end i)
    ∙ by_field (λ b. cond b (testbit (shift_left from start) i) (testbit to i) ≡ cond b (testbit from (i - start)) (testbit to i))
    start end i (λ h l. testbit-shift_left-ge from start i h) (λ o. refl)
    ∙ sym (testbit-copy_bit_field to start end from i))

-- ---- bitwise-arithmetic-shift: the floor of x times 2^d
-- 2^d is a fraction, and floor_div x m is the floor of x / m (DivisionLaws).
-- What R6RS says of the left and the right shift is arithmetic_shift-left and arithmetic_shift-right (ShiftLaws).
abbrev expt_numerator : ℤ → ℕ
expt_numerator (pos k) = 2 ^ k
expt_numerator (negsuc k) = 1

abbrev expt_denominator : ℤ → ℕ
expt_denominator (pos k) = 1
expt_denominator (negsuc k) = 2 ^ suc k

abbrev arithmetic_shift_sample : ℤ → ℤ → ℤ
arithmetic_shift_sample x d = floor_div (x *ℤ pos (expt_numerator d)) (expt_denominator d)

pub sample-arithmetic_shift : (x d : ℤ) → arithmetic_shift_sample x d ≡ arithmetic_shift x d
unfolding arithmetic_shift shift_left shift_right
sample-arithmetic_shift x (pos k) = shift_right-zero (shift_left x k)
sample-arithmetic_shift x (negsuc k) = ap (λ (y : ℤ). floor_div y (2 ^ suc k)) (shift_left-zero x)

-- ---- bitwise-rotate-bit-field: the field shifted up by count mod width, joined with what that pushes out of it
abbrev rotate_bit_field_sample : ℤ → ℕ → ℕ → ℕ → ℤ
rotate_bit_field_sample n start end count =
    let width : ℕ = end - start in
    cond (ltb 0 width)
    (let count : ℕ = mod_ℕ (pos count) width in
    let field0 : ℤ = bit_field n start end in
    let field1 : ℤ = shift_left field0 count in
    let field2 : ℤ = shift_right field0 (width - count) in
    let field : ℤ = bitwise_ior field1 field2 in
    copy_bit_field n start end field)
    n

index-lt : (m c j : ℕ) → c < m → j < c → m - c + j ≡ (j + (m - c)) % m
index-lt m c j h k = add_comm (m - c) j ∙ sym (mod-eq_of_lt (omega arith))

index-ge : (m c j : ℕ) → c < m → j < m → c ≤ j → j - c ≡ (j + (m - c)) % m
index-ge m c j h l k =
    sym (mod-eq_of_lt (omega arith))
    ∙ sym (add-mod_right (j - c) m)
    ∙ (let e : j - c + m ≡ j + (m - c) = omega arith in ap (λ (n : ℕ). n % m) e)

-- an m-bit integer y moved up by c, with what leaves it at the top put in below
rotated : (f : ℕ → Bool) (y : ℤ) (m : ℕ) → ((i : ℕ) → testbit y i ≡ ltb i m && f i) → (c j : ℕ) → c < m → j < m
    → testbit (bitwise_ior (shift_left y c) (shift_right y (m - c))) j ≡ f ((j + (m - c)) % m)
rotated f y m bits c j h l =
    testbit-ior (shift_left y c) (shift_right y (m - c)) j
    ∙ ap₂ ◌||◌ (testbit-shift_left y c j) (testbit-shift_right y (m - c) j)
    ∙ by-lt (λ b. (not b && testbit y (j - c)) || testbit y (m - c + j) ≡ f ((j + (m - c)) % m)) j c
    (λ k. inside (m - c + j) (omega arith) ∙ ap f (index-lt m c j h k))
    (λ k. ap₂ ◌||◌ (inside (j - c) (omega arith)) (outside (m - c + j) (omega arith))
    ∙ or-false (f (j - c))
    ∙ ap f (index-ge m c j h l k))
  where
    inside : (i : ℕ) → i < m → testbit y i ≡ f i
    inside i k = bits i ∙ ap (λ (b : Bool). b && f i) (lt-ltb i m k)

    outside : (i : ℕ) → m ≤ i → testbit y i ≡ false
    outside i k = bits i ∙ ap (λ (b : Bool). b && f i) (le-ltb i m k)

    or-false : (b : Bool) → b || false ≡ b
    or-false = all₁ (λ b. b || false) (λ b. b) tt

-- a field whose bits are those of n's field moved up by count
rotated-field : (n : ℤ) (start end count : ℕ) (field : ℤ) → 0 < end - start
    → ((j : ℕ) → j < end - start → testbit field j ≡ testbit n (start + (j + (end - start - count % (end - start))) % (end - start)))
    → copy_bit_field n start end field ≡ rotate_bit_field n start end (pos count)
unfolding rotate_index
rotated-field n start end count field h bits = testbit-ext (λ i. testbit-copy_bit_field n start end field i
    ∙ by_field (λ b. cond b (testbit field (i - start)) (testbit n i) ≡ cond b (testbit n (source i)) (testbit n i)) start end i
    (λ l u. bits (i - start) (omega arith) ∙ ap (λ (k : ℕ). testbit n (start + k)) (sym (rotate_index-nat (end - start) h count (i - start))))
    (λ o. refl)
    ∙ sym (testbit-rotate_bit_field n start end (pos count) i))
  where
    source : ℕ → ℕ
    source i = start + mod_ℕ (pos (i - start) -ℤ pos count) (end - start)

pub sample-rotate_bit_field : (n : ℤ) (start end count : ℕ) → rotate_bit_field_sample n start end count ≡ rotate_bit_field n start end (pos count)
unfolding mod_ℕ
sample-rotate_bit_field n start end count =
    by-lt (λ b. cond b (copy_bit_field n start end field) n ≡ rotate_bit_field n start end (pos count)) 0 (end - start)
    (λ h. rotated-field n start end count field h (λ j l.
    rotated (λ k. testbit n (start + k)) (bit_field n start end) (end - start) (testbit-bit_field n start end)
    (count % (end - start)) j (mod-lt count h) l))
    (λ h. sym (rotate-empty start end n (pos count) (omega arith)))
  where
    field : ℤ
    field =
        bitwise_ior (shift_left (bit_field n start end) (count % (end - start)))
        (shift_right (bit_field n start end) (end - start - count % (end - start)))

-- ---- fxrotate-bit-field, as 003 computes it: the bits that the shift would push out are left out before, so that nothing overflows
abbrev fx_rotate_bit_field_sample : ℤ → ℕ → ℕ → ℕ → ℤ
fx_rotate_bit_field_sample n start end count =
    let width : ℕ = end - start in
    copy_bit_field n start end
    (bitwise_ior (shift_left (bit_field n start (end - count)) count) (shift_right (bit_field n start end) (width - count)))

-- shifted up by count, both fields have the same bits below the width
shorter-field : (n : ℤ) (start end count j : ℕ) → j < end - start
    → testbit (shift_left (bit_field n start (end - count)) count) j ≡ testbit (shift_left (bit_field n start end) count) j
shorter-field n start end count j l =
    testbit-shift_left (bit_field n start (end - count)) count j
    ∙ by-lt (λ b. not b && testbit (bit_field n start (end - count)) (j - count) ≡ not b && testbit (bit_field n start end) (j - count)) j count
    (λ h. refl)
    (λ h. in_field-bit (end - count) (omega arith) ∙ sym (in_field-bit end (omega arith)))
    ∙ sym (testbit-shift_left (bit_field n start end) count j)
  where
    in_field-bit : (e : ℕ) → j - count < e - start → testbit (bit_field n start e) (j - count) ≡ testbit n (start + (j - count))
    in_field-bit e h =
        testbit-bit_field n start e (j - count)
        ∙ ap (λ (b : Bool). b && testbit n (start + (j - count))) (lt-ltb (j - count) (e - start) h)

below-size : (n : ℤ) (start end count : ℕ) → count < end - start
    → fx_rotate_bit_field_sample n start end count ≡ rotate_bit_field n start end (pos count)
below-size n start end count h =
    rotated-field n start end count
    (bitwise_ior (shift_left (bit_field n start (end - count)) count) (shift_right (bit_field n start end) (end - start - count)))
    (omega arith)
    (λ j l. testbit-ior (shift_left (bit_field n start (end - count)) count) low j
    ∙ ap (λ (b : Bool). b || testbit low j) (shorter-field n start end count j l)
    ∙ sym (testbit-ior (shift_left (bit_field n start end) count) low j)
    ∙ rotated (λ k. testbit n (start + k)) (bit_field n start end) (end - start) (testbit-bit_field n start end) count j h l
    ∙ ap (λ (c : ℕ). testbit n (start + (j + (end - start - c)) % (end - start))) (sym (mod-eq_of_lt h)))
  where
    low : ℤ
    low = shift_right (bit_field n start end) (end - start - count)

-- by the size of the field nothing is shifted up, and the whole field comes down by 0
by_size : (n : ℤ) (start end : ℕ) → fx_rotate_bit_field_sample n start end (end - start) ≡ n
by_size n start end =
    let e : end - start - (end - start) ≡ 0 = omega arith in
    ap (copy_bit_field n start end)
    (ap₂ bitwise_ior
    (ap (λ (x : ℤ). shift_left x (end - start)) (bit_field-empty n start (end - (end - start)) (omega arith)) ∙ shift_left-zero-l (end - start))
    (ap (shift_right (bit_field n start end)) e ∙ shift_right-zero (bit_field n start end))
    ∙ Algebra.ior-zero-l (bit_field n start end))
    ∙ copy_bit_field-bit_field n start end

pub sample-fx_rotate_bit_field : (n : ℤ) (start end count : ℕ) → count ≤ end - start
    → fx_rotate_bit_field_sample n start end count ≡ rotate_bit_field n start end (pos count)
sample-fx_rotate_bit_field n start end count h = go (eqb count (end - start)) refl
  where
    go : (b : Bool) → eqb count (end - start) ≡ b → fx_rotate_bit_field_sample n start end count ≡ rotate_bit_field n start end (pos count)
    go true e =
        let k = eqb-true count (end - start) e in
        ap (fx_rotate_bit_field_sample n start end) k
        ∙ by_size n start end
        ∙ sym (ap (λ (c : ℕ). rotate_bit_field n start end (pos c)) k ∙ rotate-full start end n)
    go false e = below-size n start end count (omega (arith, eqb-false count (end - start) e))

-- ---- the examples
-- negsuc n is -(n + 1)
pub examples-R6RS : (first_bit_set (pos 0) ≡ negsuc 0)
    × (first_bit_set (pos 1) ≡ pos 0)
    × (first_bit_set (negsuc 3) ≡ pos 2)
    × (arithmetic_shift (negsuc 5) (negsuc 0) ≡ negsuc 2)
    × (arithmetic_shift (negsuc 4) (negsuc 0) ≡ negsuc 2)
    × (arithmetic_shift (negsuc 3) (negsuc 0) ≡ negsuc 1)
    × (arithmetic_shift (negsuc 2) (negsuc 0) ≡ negsuc 1)
    × (arithmetic_shift (negsuc 1) (negsuc 0) ≡ negsuc 0)
    × (arithmetic_shift (negsuc 0) (negsuc 0) ≡ negsuc 0)
    × (reverse_bit_field (pos 0b1010010) 1 4 ≡ pos 88)
unfolding odd testbit halvings bit_length cons_bit of_bits floor_div shift_right arithmetic_shift
    in_field set_field permute_field reverse_index reverse_bit_field first_true first_bit_set
examples-R6RS = (refl, refl, refl, refl, refl, refl, refl, refl, refl, refl)
