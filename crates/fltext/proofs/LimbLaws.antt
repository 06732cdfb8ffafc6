-- Natural numbers as limbs, limb by limb: a multiplication and an addition from the lowest limb up, a division from the highest down. Assumes nothing.
use Prim.Native.Nat.{ℕ, zero, suc, ◌+◌, ◌*◌, ◌/◌, ◌%◌, ◌^◌, ◌≤◌, ◌<◌, min}
use native.Mathlib.Nat.{add-mul, mul-add, mul_assoc, mul-zero, zero-mul, one-mul, mul-le-mul_left, mul-le-mul_right, le-mul_of_pos_right, le_refl, le_of_lt, div-add-mod', mod-lt, div-lt_iff_lt-mul, min-eq_left, min-eq_right}
use native.Mathlib.Numerals.{add-one}
use native.Mathlib.Omega.{arith}
use mathlib.Core.Path.{◌≡◌, refl, sym, ap, ap₂, subst, ◌∙◌}
use mathlib.Core.List.{List, [], ◌∷◌, ◌++◌}
use lib.Arith.{digits_lt, digits_div, digits_mod}
use lib.Dec.{lit<}
use lib.ListN.{length, take, drop, set, get_or, length-set, take-append-drop}
use lib.Pow.{pow-add, pow_pos}
use lib.Seq.{take_all, take-take, take-suc, take-suc-set, take-set-le, drop-set-lt, drop-cons, drop-drop, drop-length, get_or-drop, get_or-take, get_or-set_same, length-take-le}
use Rattle.text.specs.Naturals.{natural}
use Rattle.fltext.specs.Limbs.{Becomes}

natural-append : (xs ys : List ℕ) → natural (xs ++ ys) ≡ natural xs + 2 ^ (32 * length xs) * natural ys
unfolding natural
natural-append [] ys = omega arith
natural-append (x ∷ xs) ys =
    let l = length xs in
    let p = 2 ^ (32 * l) in
    let e : 32 * suc l ≡ 32 + 32 * l = omega arith in
    let q : 2 ^ (32 * suc l) ≡ 2 ^ 32 * p = ap (λ (k : ℕ). 2 ^ k) e ∙ pow-add 2 32 (32 * l) in
    omega (
      arith,
      natural-append xs ys,
      ap (λ (k : ℕ). k * natural ys) q,
      mul_assoc (2 ^ 32) p (natural ys),
    )

-- one limb more
natural-more : (xs : List ℕ) (j v : ℕ) → length xs ≡ j → natural (xs ++ (v ∷ [])) ≡ natural xs + 2 ^ (32 * j) * v
natural-more xs j v e =
    let one : natural (v ∷ []) ≡ v = unfold natural in omega arith in
    natural-append xs (v ∷ []) ∙ ap₂ (λ (l n : ℕ). natural xs + 2 ^ (32 * l) * n) e one

natural-take : (xs : List ℕ) (j : ℕ) → j < length xs → natural (take (suc j) xs) ≡ natural (take j xs) + 2 ^ (32 * j) * get_or xs j 0
natural-take xs j h = ap natural (take-suc xs j 0 h) ∙ natural-more (take j xs) j (get_or xs j 0) (length-take-le j xs (omega arith))

natural-drop : (xs : List ℕ) (j : ℕ) → j < length xs → natural (drop j xs) ≡ get_or xs j 0 + 2 ^ 32 * natural (drop (suc j) xs)
natural-drop xs j h = ap natural (drop-cons xs j 0 h) ∙ unfold natural in refl

-- ---- times b, and c more

pub record Scaled (first : List ℕ) (b c : ℕ) (xs : List ℕ) (carry j : ℕ) : Type 0 where
  pub within : j ≤ length first
  pub size : length xs ≡ length first
  pub rest : drop j xs ≡ drop j first
  pub sum : natural (take j xs) + 2 ^ (32 * j) * carry ≡ natural (take j first) * b + c
  pub small : carry < 2 ^ 32

pub scaled-none : (xs : List ℕ) (b c : ℕ) → c < 2 ^ 32 → Scaled xs b c xs c 0
unfolding natural
scaled-none xs b c h = record { within = omega arith; size = refl; rest = refl; sum = omega (arith, one-mul c); small = h }

-- what is still as it was
same_at : (xs ys : List ℕ) (j : ℕ) → drop j xs ≡ drop j ys → get_or xs j 0 ≡ get_or ys j 0
same_at xs ys j e =
    let at : j + 0 ≡ j = omega arith in
    rw at at (sym (get_or-drop j xs 0 0) ∙ ap (λ (l : List ℕ). get_or l 0 0) e ∙ get_or-drop j ys 0 0)

pub product_lt : {d b k : ℕ} → d < 2 ^ 32 → b < 2 ^ 32 → k < 2 ^ 32 → d * b + k < 2 ^ 32 * 2 ^ 32
product_lt {d} {b} {k} h g l = omega (arith, mul-le-mul_left d (le_of_lt g), digits_lt h l)

carried : (A B p d b c carry t low high : ℕ) → A + p * carry ≡ B * b + c → t ≡ d * b + carry → t ≡ low + 2 ^ 32 * high
    → A + p * low + p * 2 ^ 32 * high ≡ (B + p * d) * b + c
carried A B p d b c carry t low high e f g =
    omega (
      arith,
      mul-add p low (2 ^ 32 * high),
      ap (λ (n : ℕ). p * n) (sym g ∙ f),
      mul_assoc p (2 ^ 32) high,
      add-mul B (p * d) b,
      mul-add p (d * b) carry,
      mul_assoc p d b,
    )

pub scaled-more : {first xs : List ℕ} {b c carry j : ℕ} (t : ℕ) → Scaled first b c xs carry j → j < length first
    → t ≡ get_or xs j 0 * b + carry → get_or xs j 0 < 2 ^ 32 → b < 2 ^ 32
    → Scaled first b c (set xs j (t % 2 ^ 32)) (t / 2 ^ 32) (j + 1)
scaled-more {first} {xs} {b} {c} {carry} {j} t s h e d g = record {
  within = omega arith;
  size = length-set xs j (t % 2 ^ 32) ∙ s.size;
  rest = drop-set-lt (j + 1) xs j (t % 2 ^ 32) (omega arith) ∙ sym (drop-drop 1 j xs) ∙ ap (drop 1) s.rest ∙ drop-drop 1 j first;
  sum = rw (add-one j) total;
  small = (div-lt_iff_lt-mul (pow_pos 32)).1 (rw e (product_lt d g s.small));
}
  where
    total : natural (take (suc j) (set xs j (t % 2 ^ 32))) + 2 ^ (32 * suc j) * (t / 2 ^ 32) ≡ natural (take (suc j) first) * b + c
    total =
        let m : 32 * suc j ≡ 32 * j + 32 = omega arith in
        let front : natural (take (suc j) (set xs j (t % 2 ^ 32))) ≡ natural (take j xs) + 2 ^ (32 * j) * (t % 2 ^ 32) =
        ap natural (take-suc-set xs j (t % 2 ^ 32) (omega (arith, s.size)))
        ∙ natural-more (take j xs) j (t % 2 ^ 32) (length-take-le j xs (omega (arith, s.size))) in
        let power : 2 ^ (32 * suc j) * (t / 2 ^ 32) ≡ 2 ^ (32 * j) * 2 ^ 32 * (t / 2 ^ 32) =
        ap (λ (k : ℕ). k * (t / 2 ^ 32)) (ap (λ (k : ℕ). 2 ^ k) m ∙ pow-add 2 (32 * j) 32) in
        ap₂ ◌+◌ front power
        ∙ carried (natural (take j xs)) (natural (take j first)) (2 ^ (32 * j)) (get_or first j 0) b c carry t (t % 2 ^ 32) (t / 2 ^ 32) s.sum
        (e ∙ ap (λ (k : ℕ). k * b + carry) (same_at xs first j s.rest)) (omega arith)
        ∙ sym (ap (λ (k : ℕ). k * b + c) (natural-take first j h))

-- the whole number: the last carry is 0, where there is room
pub scaled-all : {first xs : List ℕ} {b c carry j : ℕ} → Scaled first b c xs carry j → length first ≤ j
    → natural first * b + c < 2 ^ (32 * length first) → Becomes (natural first * b + c) first xs
scaled-all {first} {xs} {b} {c} {carry} {j} s h room = record { number = go carry sum; size = s.size }
  where
    at : j ≡ length first
    at = omega (arith, s.within)

    sum : natural xs + 2 ^ (32 * length first) * carry ≡ natural first * b + c
    sum =
        ap₂ (λ (n k : ℕ). n + 2 ^ (32 * k) * carry) (sym (ap natural (take_all j xs (omega (arith, s.size))))) (sym at)
        ∙ s.sum
        ∙ ap (λ (l : List ℕ). natural l * b + c) (take_all j first h)

    go : (k : ℕ) → natural xs + 2 ^ (32 * length first) * k ≡ natural first * b + c → natural xs ≡ natural first * b + c
    go zero e = omega (arith, mul-zero (2 ^ (32 * length first)))
    go (suc k) e = absurd (omega (arith, le-mul_of_pos_right {m = suc k} (2 ^ (32 * length first)) (omega arith)))

-- ---- divided by b

pub record Divided (first : List ℕ) (b : ℕ) (xs : List ℕ) (r j : ℕ) : Type 0 where
  pub within : j ≤ length first
  pub size : length xs ≡ length first
  pub rest : take j xs ≡ take j first
  pub sum : natural (drop j xs) * b + r ≡ natural (drop j first)
  pub small : r < b

pub divided-none : (xs : List ℕ) (b : ℕ) → 0 < b → Divided xs b xs 0 (length xs)
unfolding natural
divided-none xs b h = record {
  within = omega arith;
  size = refl;
  rest = refl;
  sum = rw (drop-length xs) (omega (arith, zero-mul b));
  small = h;
}

pub partial_lt : {r b d : ℕ} → r < b → d < 2 ^ 32 → (r * 2 ^ 32 + d) / b < 2 ^ 32
partial_lt {r} {b} {d} h g = (div-lt_iff_lt-mul {k = b} (omega arith)).1 (omega (arith, digits_lt h g))

divided-sum : (H b r d t q s G : ℕ) → H * b + r ≡ G → t ≡ r * 2 ^ 32 + d → q * b + s ≡ t → (q + 2 ^ 32 * H) * b + s ≡ d + 2 ^ 32 * G
divided-sum H b r d t q s G e f g = omega (arith, add-mul q (2 ^ 32 * H) b, mul_assoc (2 ^ 32) H b)

pub divided-more : {first xs : List ℕ} {b r j : ℕ} (i t : ℕ) → Divided first b xs r j → j ≡ suc i → t ≡ r * 2 ^ 32 + get_or xs i 0
    → Divided first b (set xs i (t / b)) (t % b) i
divided-more {first} {xs} {b} {r} {j} i t s e f = record {
  within = omega (arith, s.within);
  size = length-set xs i (t / b) ∙ s.size;
  rest = take-set-le i xs i (t / b) (le_refl i) ∙ sym (take-take i j xs (omega arith)) ∙ ap (take i) s.rest ∙ take-take i j first (omega arith);
  sum = total;
  small = mod-lt t (omega (arith, s.small));
}
  where
    in-first : i < length first
    in-first = omega (arith, s.within)

    in-now : i < length xs
    in-now = omega (arith, in-first, s.size)

    same : get_or xs i 0 ≡ get_or first i 0
    same =
        sym (get_or-take j xs i 0 (omega arith)) ∙ ap (λ (l : List ℕ). get_or l i 0) s.rest ∙ get_or-take j first i 0 (omega arith)

    put : natural (drop i (set xs i (t / b))) ≡ t / b + 2 ^ 32 * natural (drop (suc i) xs)
    put =
        natural-drop (set xs i (t / b)) i (omega (arith, in-now, length-set xs i (t / b)))
        ∙ ap₂ (λ (n : ℕ) (l : List ℕ). n + 2 ^ 32 * natural l) (get_or-set_same xs i (t / b) 0 in-now) (drop-set-lt (suc i) xs i (t / b) (omega arith))

    total : natural (drop i (set xs i (t / b))) * b + t % b ≡ natural (drop i first)
    total =
        ap (λ (n : ℕ). n * b + t % b) put
        ∙ divided-sum (natural (drop (suc i) xs)) b r (get_or first i 0) t (t / b) (t % b) (natural (drop (suc i) first))
        (subst (λ (k : ℕ). natural (drop k xs) * b + r ≡ natural (drop k first)) e s.sum) (f ∙ ap (λ (n : ℕ). r * 2 ^ 32 + n) same) (div-add-mod' t b)
        ∙ sym (natural-drop first i in-first)

module _ {first xs : List ℕ} {b r j : ℕ} (s : Divided first b xs r j) (e : j ≡ 0) where
  divided-is : natural first ≡ natural xs * b + r
  divided-is = sym (subst (λ (k : ℕ). natural (drop k xs) * b + r ≡ natural (drop k first)) e s.sum)

  pub divided-quotient : Becomes (natural first / b) first xs
  divided-quotient = record { number = sym (ap (λ (n : ℕ). n / b) divided-is ∙ digits_div (natural xs) s.small); size = s.size }

  pub divided-remainder : r ≡ natural first % b
  divided-remainder = sym (ap (λ (n : ℕ). n % b) divided-is ∙ digits_mod (natural xs) s.small)

-- ---- the number, where it is below 2^53

pub record Summed (xs : List ℕ) (n j : ℕ) : Type 0 where
  pub within : j ≤ length xs
  pub sum : n ≡ natural (drop j xs)
  pub small : n < 2 ^ 53

pub summed-none : (xs : List ℕ) → Summed xs 0 (length xs)
unfolding natural
summed-none xs = record { within = omega arith; sum = sym (ap natural (drop-length xs)); small = lit< tt }

pub summed-more : {xs : List ℕ} {n j : ℕ} (i : ℕ) → Summed xs n j → j ≡ suc i → n < 2 ^ 21 → get_or xs i 0 < 2 ^ 32
    → Summed xs (n * 2 ^ 32 + get_or xs i 0) i
summed-more {xs} {n} {j} i s e h g = record {
  within = omega (arith, s.within);
  sum = omega (arith, natural-drop xs i (omega (arith, s.within)), s.sum, ap (λ (k : ℕ). natural (drop k xs)) e);
  small = omega arith;
}

pub summed-beyond : {xs : List ℕ} {n j : ℕ} (i : ℕ) → Summed xs n j → j ≡ suc i → 2 ^ 21 ≤ n → min (natural xs) (2 ^ 53) ≡ 2 ^ 53
summed-beyond {xs} {n} {j} i s e h = min-eq_right (above xs i n (omega (arith, s.within)) (s.sum ∙ ap (λ (k : ℕ). natural (drop k xs)) e) h)
  where
    above : (xs : List ℕ) (i n : ℕ) → i < length xs → n ≡ natural (drop (suc i) xs) → 2 ^ 21 ≤ n → 2 ^ 53 ≤ natural xs
    above xs i n l f g =
        omega (
          arith,
          ap natural (sym (take-append-drop i xs)),
          natural-append (take i xs) (drop i xs),
          natural-drop xs i l,
          mul-le-mul_right (natural (drop i xs)) (pow_pos (32 * length (take i xs))),
          one-mul (natural (drop i xs)),
        )

pub summed-all : {xs : List ℕ} {n j : ℕ} → Summed xs n j → j ≡ 0 → n ≡ min (natural xs) (2 ^ 53)
summed-all {xs} {n} {j} s e =
    let f : n ≡ natural xs = s.sum ∙ ap (λ (k : ℕ). natural (drop k xs)) e in
    f ∙ sym (min-eq_left (omega (arith, f, s.small)))
