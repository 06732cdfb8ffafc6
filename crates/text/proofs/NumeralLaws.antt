-- Digits and the numbers that they are: the digit of each byte, digits one after another, and how large their number is. Assumes nothing.
use Prim.Native.Nat.{ℕ, zero, suc, ◌+◌, ◌*◌, ◌/◌, ◌%◌, ◌^◌, ◌≤◌, ◌<◌}
use native.Mathlib.Nat.{add-mul, mul_assoc, zero-mul, pow-zero, pow-suc, pow-succ', le-mul_of_pos_right, one-le-pow}
use native.Mathlib.Numerals.{add-one}
use native.Mathlib.Omega.{arith}
use mathlib.Core.Path.{◌≡◌, refl, sym, ap, ◌∙◌}
use mathlib.Core.Bool.{Bool, true, ◌&&◌, and_assoc}
use mathlib.Core.List.{List, [], ◌∷◌, ◌++◌}
use lib.Arith.{digits_lt, digits_div, digits_mod}
use lib.Dec.{ltb, lit<}
use lib.ListN.{length, get_or, take, drop, take-append-drop}
use lib.Pow.{pow-add}
use lib.Seq.{take-suc, drop-cons}
use borrow.Author.Tests.{ltb-true}
use Rattle.std.specs.List.{list_all}
use Rattle.bits.proofs.Booleans.{both_left, both_right}
use Rattle.text.specs.Numerals.{digit, are_digits, numeral_from, numeral}

-- ---- lists of digits

pub are_digits-all : (b : ℕ) (cs : List ℕ) → are_digits b cs ≡ list_all (λ (c : ℕ). ltb (digit c) b) cs
unfolding are_digits
are_digits-all b [] = refl
are_digits-all b (c ∷ cs) = ap (λ (t : Bool). ltb (digit c) b && t) (are_digits-all b cs)

pub are_digits-append : (b : ℕ) (xs ys : List ℕ) → are_digits b (xs ++ ys) ≡ are_digits b xs && are_digits b ys
unfolding are_digits
are_digits-append b [] ys = refl
are_digits-append b (c ∷ xs) ys =
    ap (λ (t : Bool). ltb (digit c) b && t) (are_digits-append b xs ys) ∙ sym (and_assoc (ltb (digit c) b) (are_digits b xs) (are_digits b ys))

-- from an index on: the digit there, and the others
are_digits-drop : (b : ℕ) (cs : List ℕ) (i : ℕ) → i < length cs → are_digits b (drop i cs) ≡ ltb (digit (get_or cs i 0)) b && are_digits b (drop (i + 1) cs)
unfolding are_digits
are_digits-drop b cs i h = rw (add-one, drop-cons cs i 0 h) refl

are_digits-left : (b : ℕ) (xs ys : List ℕ) → are_digits b (xs ++ ys) ≡ true → are_digits b xs ≡ true
are_digits-left b xs ys e = both_left (are_digits b xs) (are_digits b ys) (sym (are_digits-append b xs ys) ∙ e)

are_digits-right : (b : ℕ) (xs ys : List ℕ) → are_digits b (xs ++ ys) ≡ true → are_digits b ys ≡ true
are_digits-right b xs ys e = both_right (are_digits b xs) (are_digits b ys) (sym (are_digits-append b xs ys) ∙ e)

-- parts of digits are digits
pub are_digits-first : (b n : ℕ) (cs : List ℕ) → are_digits b cs ≡ true → are_digits b (take n cs) ≡ true
are_digits-first b n cs e = are_digits-left b (take n cs) (drop n cs) (ap (are_digits b) (take-append-drop n cs) ∙ e)

pub are_digits-rest : (b n : ℕ) (cs : List ℕ) → are_digits b cs ≡ true → are_digits b (drop n cs) ≡ true
are_digits-rest b n cs e = are_digits-right b (take n cs) (drop n cs) (ap (are_digits b) (take-append-drop n cs) ∙ e)

pub digit_at : (b : ℕ) (cs : List ℕ) (i : ℕ) → are_digits b cs ≡ true → i < length cs → digit (get_or cs i 0) < b
digit_at b cs i e h =
    ltb-true (digit (get_or cs i 0)) b
    (both_left (ltb (digit (get_or cs i 0)) b) (are_digits b (drop (i + 1) cs)) (sym (are_digits-drop b cs i h) ∙ are_digits-rest b i cs e))

-- ---- their number

pub numeral_from-append : (b n : ℕ) (xs ys : List ℕ) → numeral_from b n (xs ++ ys) ≡ numeral_from b (numeral_from b n xs) ys
unfolding numeral_from
numeral_from-append b n [] ys = refl
numeral_from-append b n (c ∷ xs) ys = numeral_from-append b (n * b + digit c) xs ys

numeral_from-shift : (b n : ℕ) (cs : List ℕ) → numeral_from b n cs ≡ n * b ^ length cs + numeral_from b 0 cs
unfolding numeral_from
numeral_from-shift b n [] = let e : n ≡ n * 1 + 0 = omega arith in e ∙ ap (λ (p : ℕ). n * p + 0) (sym (pow-zero b))
numeral_from-shift b n (c ∷ cs) =
    let p = b ^ length cs in
    omega (
      arith,
      numeral_from-shift b (n * b + digit c) cs,
      numeral_from-shift b (0 * b + digit c) cs,
      add-mul (n * b) (digit c) p,
      add-mul (0 * b) (digit c) p,
      mul_assoc n b p,
      zero-mul b,
      ap (λ (m : ℕ). m * p) (zero-mul b),
      zero-mul p,
      ap (λ (m : ℕ). n * m) (pow-succ' b (length cs)),
    )

-- digits one after another
pub numeral-append : (b : ℕ) (xs ys : List ℕ) → numeral b (xs ++ ys) ≡ numeral b xs * b ^ length ys + numeral b ys
unfolding numeral
numeral-append b xs ys = numeral_from-append b 0 xs ys ∙ numeral_from-shift b (numeral_from b 0 xs) ys

-- one digit more
pub numeral-more : (b : ℕ) (cs : List ℕ) (i : ℕ) → i < length cs → numeral b (take (i + 1) cs) ≡ numeral b (take i cs) * b + digit (get_or cs i 0)
unfolding numeral numeral_from
numeral-more b cs i h = rw (add-one, take-suc cs i 0 h) (numeral_from-append b 0 (take i cs) (get_or cs i 0 ∷ []))

-- the first digits are no more than all of them
pub numeral-first : (b n : ℕ) (cs : List ℕ) → 0 < b → numeral b (take n cs) ≤ numeral b cs
numeral-first b n cs h =
    omega (
      arith,
      ap (numeral b) (take-append-drop n cs),
      numeral-append b (take n cs) (drop n cs),
      le-mul_of_pos_right (numeral b (take n cs)) (one-le-pow (length (drop n cs)) b h),
    )

pub numeral-lt : (b : ℕ) (cs : List ℕ) → are_digits b cs ≡ true → numeral b cs < b ^ length cs
unfolding are_digits numeral numeral_from
numeral-lt b [] e = rw (pow-zero b) (lit< tt)
numeral-lt b (c ∷ cs) e =
    let d = ltb-true (digit c) b (both_left (ltb (digit c) b) (are_digits b cs) e) in
    let r = numeral-lt b cs (both_right (ltb (digit c) b) (are_digits b cs) e) in
    omega (
      arith,
      numeral_from-shift b (0 * b + digit c) cs,
      add-mul (0 * b) (digit c) (b ^ length cs),
      ap (λ (m : ℕ). m * b ^ length cs) (zero-mul b),
      zero-mul (b ^ length cs),
      digits_lt d r,
      pow-succ' b (length cs),
    )

-- places in hexadecimal
pub pow-hex : (k : ℕ) → 16 ^ k ≡ 2 ^ (4 * k)
pow-hex zero = refl
pow-hex (suc k) =
    let e : 4 * k + 4 ≡ 4 * suc k = omega arith in
    pow-suc 16 k ∙ ap (λ (p : ℕ). p * 16) (pow-hex k) ∙ sym (pow-add 2 (4 * k) 4) ∙ ap (λ (m : ℕ). 2 ^ m) e

-- digits taken apart: the first are the quotient, the others the remainder
module _ (b : ℕ) (xs ys : List ℕ) (e : are_digits b ys ≡ true) where
  pub numeral-quotient : numeral b (xs ++ ys) / b ^ length ys ≡ numeral b xs
  numeral-quotient = ap (λ (n : ℕ). n / b ^ length ys) (numeral-append b xs ys) ∙ digits_div (numeral b xs) (numeral-lt b ys e)

  pub numeral-remainder : numeral b (xs ++ ys) % b ^ length ys ≡ numeral b ys
  numeral-remainder = ap (λ (n : ℕ). n % b ^ length ys) (numeral-append b xs ys) ∙ digits_mod (numeral b xs) (numeral-lt b ys e)
