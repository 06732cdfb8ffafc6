-- Laws of the counts: ones below a position and of an integer, which a permutation of bits keeps; the first bit set. Assumes nothing.
use mathlib.Core.Path.{◌≡◌, refl, sym, ◌∙◌, ap, ap₂}
use mathlib.Core.Logic.{◌≢◌, ◌↔◌}
use mathlib.Core.Bool.{Bool, true, false, cond, true≢false}
use Prim.Native.Nat.{ℕ, zero, suc, ◌+◌, ◌-◌, ◌≤◌, ◌<◌}
use native.Mathlib.Nat.{add-zero, add-suc}
use native.Mathlib.Omega.{arith}
use lib.Dec.{eqb}
use lib.IntN.{ℤ, pos, negsuc}
use borrow.Author.Tests.{eqb-true, eqb-false, ne_eqb}
use Rattle.bits.specs.Testbit.{is_negative, testbit, bit_length}
use Rattle.bits.specs.Logical.{bitwise_not}
use Rattle.bits.specs.Field.{permute_field}
use Rattle.bits.specs.Count.{ones_below, ones, bit_count, first_true, first_bit_set}
use Rattle.bits.proofs.TestbitLaws.{by-lt, cond-lt, testbit-ext, testbit-zero, testbit-above}
use Rattle.bits.proofs.FieldLaws.{in_field-lt, in_field-ge, testbit-permute_field-in, testbit-permute_field-out, is_negative-permute_field}
use Rattle.bits.proofs.FieldAlgebra.{permute_field-not}

-- ---- the ones below a position

pub ones_below-ext : (k : ℕ) (f g : ℕ → Bool) → ((i : ℕ) → i < k → f i ≡ g i) → ones_below k f ≡ ones_below k g
unfolding ones_below
ones_below-ext zero f g e = refl
ones_below-ext (suc k) f g e =
    ap₂ (λ (b : Bool) (n : ℕ). cond b 1 0 + n) (e k (omega arith)) (ones_below-ext k f g (λ i h. e i (omega arith)))

ones_below-none : (k : ℕ) → ones_below k (λ i. false) ≡ 0
unfolding ones_below
ones_below-none zero = refl
ones_below-none (suc k) = omega (arith, ones_below-none k)

pub ones_below-false : (k : ℕ) (f : ℕ → Bool) → ((i : ℕ) → i < k → f i ≡ false) → ones_below k f ≡ 0
ones_below-false k f e = ones_below-ext k f (λ i. false) e ∙ ones_below-none k

pub ones_below-split : (j k : ℕ) (f : ℕ → Bool) → ones_below (j + k) f ≡ ones_below j f + ones_below k (λ i. f (j + i))
unfolding ones_below
ones_below-split j zero f = rw (add-zero j) (omega arith)
ones_below-split j (suc k) f = rw add-suc (omega (arith, ones_below-split j k f))

pub ones_below-le : (k : ℕ) (f : ℕ → Bool) → ones_below k f ≤ k
unfolding ones_below
ones_below-le zero f = omega arith
ones_below-le (suc k) f = omega (arith, ones_below-le k f, cond-lt (f k) 1 0 (omega arith) (omega arith))

-- f without its one at a
without : (ℕ → Bool) → ℕ → ℕ → Bool
without f a i = cond (eqb i a) false (f i)

without_other : (f : ℕ → Bool) (a i : ℕ) → i ≢ a → f i ≡ without f a i
unfolding without
without_other f a i n = ap (λ (b : Bool). cond b false (f i)) (sym (ne_eqb i a n))

ones_below-without : (k : ℕ) (f : ℕ → Bool) (a : ℕ) → a < k → ones_below k f ≡ cond (f a) 1 0 + ones_below k (without f a)
unfolding ones_below without
ones_below-without zero f a h = absurd (omega arith)
ones_below-without (suc k) f a h = go (eqb k a) refl (ones_below-without k f a)
  where
    go : (b : Bool) → eqb k a ≡ b → (a < k → ones_below k f ≡ cond (f a) 1 0 + ones_below k (without f a))
        → cond (f k) 1 0 + ones_below k f ≡ cond (f a) 1 0 + (cond (cond b false (f k)) 1 0 + ones_below k (without f a))
    go true e rest =
        let z : k ≡ a = eqb-true k a e in
        omega (
          arith,
          ap (λ (i : ℕ). cond {A = ℕ} (f i) 1 0) z,
          ones_below-ext k f (without f a) (λ i l. without_other f a i (λ c. omega arith)),
        )
    go false e rest = let n : k ≢ a = eqb-false k a e in omega (arith, rest (omega arith))

-- a map with a left inverse meets no one twice
ones_below-inj : (k m : ℕ) (f : ℕ → Bool) (p q : ℕ → ℕ) → ((i : ℕ) → i < k → p i < m) → ((i : ℕ) → i < k → q (p i) ≡ i)
    → ones_below k (λ i. f (p i)) ≤ ones_below m f
unfolding ones_below
ones_below-inj zero m f p q s e = omega arith
ones_below-inj (suc k) m f p q s e =
    omega (
      arith,
      ones_below-without m f (p k) (s k (omega arith)),
      ones_below-ext k (λ i. f (p i)) (λ i. without f (p k) (p i)) (λ i h. without_other f (p k) (p i) (apart i h)),
      ones_below-inj k m (without f (p k)) p q (λ i h. s i (omega arith)) (λ i h. e i (omega arith)),
    )
  where
    apart : (i : ℕ) → i < k → p i ≡ p k → ⊥
    apart i h c = omega (arith, e i (omega arith), e k (omega arith), ap q c)

-- p and q permute the positions below k, and each undoes the other
pub record Permutes (k : ℕ) (p q : ℕ → ℕ) : Type 0 where
  pub stays : (i : ℕ) → i < k → p i < k
  pub stays-back : (i : ℕ) → i < k → q i < k
  pub there : (i : ℕ) → i < k → p (q i) ≡ i
  pub back : (i : ℕ) → i < k → q (p i) ≡ i

pub ones_below-permute : (f : ℕ → Bool) {k : ℕ} {p q : ℕ → ℕ} → Permutes k p q → ones_below k (λ i. f (p i)) ≡ ones_below k f
ones_below-permute f {k} {p} {q} c =
    omega (
      arith,
      ones_below-inj k k f p q c.stays c.back,
      ones_below-inj k k (λ i. f (p i)) q p c.stays-back c.there,
      ones_below-ext k (λ i. f (p (q i))) f (λ i h. ap f (c.there i h)),
    )

-- ---- the count of an integer

-- a count that goes beyond the length finds no more
pub ones-ones_below : (n k : ℕ) → bit_length (pos n) ≤ k → ones n ≡ ones_below k (λ i. testbit (pos n) i)
unfolding ones is_negative
ones-ones_below n k h =
    let e : k ≡ bit_length (pos n) + (k - bit_length (pos n)) = omega arith in
    sym (ap (λ (m : ℕ). ones_below m (λ i. testbit (pos n) i)) e
    ∙ ones_below-split (bit_length (pos n)) (k - bit_length (pos n)) (λ i. testbit (pos n) i)
    ∙ ap (λ (m : ℕ). ones n + m) (ones_below-false (k - bit_length (pos n)) (λ i. testbit (pos n) (bit_length (pos n) + i))
    (λ i l. testbit-above (pos n) (bit_length (pos n) + i) (omega arith)))
    ∙ add-zero (ones n))

pub bit_count-not : (x : ℤ) → bit_count (bitwise_not x) ≡ bitwise_not (bit_count x)
unfolding bit_count bitwise_not
bit_count-not (pos n) = refl
bit_count-not (negsuc n) = refl

pub bit_count-ones_below : (x : ℤ) (k : ℕ) → is_negative x ≡ false → bit_length x ≤ k → bit_count x ≡ pos (ones_below k (λ i. testbit x i))
unfolding bit_count is_negative
bit_count-ones_below (pos n) k e h = ap pos (ones-ones_below n k h)
bit_count-ones_below (negsuc n) k e h = absurd (true≢false e)

-- ---- a permutation of a field's bits keeps the count

ones_below-split-three : (a b c : ℕ) (f : ℕ → Bool)
    → ones_below (a + (b + c)) f ≡ ones_below a f + (ones_below b (λ i. f (a + i)) + ones_below c (λ i. f (a + (b + i))))
ones_below-split-three a b c f = ones_below-split a (b + c) f ∙ ap (λ (n : ℕ). ones_below a f + n) (ones_below-split b c (λ i. f (a + i)))

ones_below-permute_field : {p q : ℕ → ℕ} (x : ℤ) (start end k : ℕ) → Permutes (end - start) p q
    → ones_below (start + (end - start + k)) (λ i. testbit (permute_field p x start end) i)
    ≡ ones_below (start + (end - start + k)) (λ i. testbit x i)
ones_below-permute_field {p} x start end k c =
    ones_below-split-three start (end - start) k (λ i. testbit (permute_field p x start end) i)
    ∙ ap₂ (λ (a b : ℕ). a + b) (ones_below-ext start _ _ (λ i h. testbit-permute_field-out p x start end i (in_field-lt start end i h)))
    (ap₂ (λ (a b : ℕ). a + b)
    (ones_below-ext (end - start) _ _ (testbit-permute_field-in p x start end) ∙ ones_below-permute (λ i. testbit x (start + i)) c)
    (ones_below-ext k _ _ (λ i h. testbit-permute_field-out p x start end (start + (end - start + i)) (in_field-ge start end _ (omega arith)))))
    ∙ sym (ones_below-split-three start (end - start) k (λ i. testbit x i))

bit_count-permute_field-pos : {p q : ℕ → ℕ} (n start end : ℕ) → Permutes (end - start) p q
    → bit_count (permute_field p (pos n) start end) ≡ bit_count (pos n)
unfolding is_negative
bit_count-permute_field-pos {p} n start end c =
    bit_count-ones_below (permute_field p (pos n) start end) top (is_negative-permute_field p (pos n) start end) (omega arith)
    ∙ ap pos (ones_below-permute_field (pos n) start end k c)
    ∙ sym (bit_count-ones_below (pos n) top refl (omega arith))
  where
    k : ℕ
    k = bit_length (pos n) + bit_length (permute_field p (pos n) start end)

    top : ℕ
    top = start + (end - start + k)

pub bit_count-permute_field : {p q : ℕ → ℕ} (x : ℤ) (start end : ℕ) → Permutes (end - start) p q
    → bit_count (permute_field p x start end) ≡ bit_count x
unfolding bitwise_not
bit_count-permute_field (pos n) start end c = bit_count-permute_field-pos n start end c
bit_count-permute_field {p} (negsuc n) start end c =
    ap bit_count (permute_field-not p (pos n) start end)
    ∙ bit_count-not (permute_field p (pos n) start end)
    ∙ ap bitwise_not (bit_count-permute_field-pos n start end c)
    ∙ sym (bit_count-not (pos n))

-- ---- the first bit set

-- r is the first position of a one, or k if there is none below k
record First (k : ℕ) (f : ℕ → Bool) (r : ℕ) : Type 0 where
  within : r ≤ k
  below : (j : ℕ) → j < r → f j ≡ false
  found : r < k → f r ≡ true

first_true-first : (k : ℕ) (f : ℕ → Bool) → First k f (first_true k f)
unfolding first_true
first_true-first zero f = record { within = omega arith; below = λ j h. absurd (omega arith); found = λ h. absurd (omega arith) }
first_true-first (suc k) f = go (f zero) refl (first_true-first k (λ i. f (suc i)))
  where
    later : f zero ≡ false → (r : ℕ) → First k (λ i. f (suc i)) r → (j : ℕ) → j < suc r → f j ≡ false
    later e r c zero h = e
    later e r c (suc j) h = c.below j (omega arith)

    go : (b : Bool) → f zero ≡ b → First k (λ i. f (suc i)) (first_true k (λ i. f (suc i)))
        → First (suc k) f (elim b as (λ c. ℕ) [ true ↦ zero | false ↦ suc (first_true k (λ i. f (suc i))) ])
    go true e c = record { within = omega arith; below = λ j h. absurd (omega arith); found = λ h. e }
    go false e c = record {
      within = omega (arith, c.within);
      below = later e (first_true k (λ i. f (suc i))) c;
      found = λ h. c.found (omega arith);
    }

first_bit_set-nonzero : (x : ℤ) → x ≢ pos 0 → first_bit_set x ≡ pos (first_true (bit_length x) (λ i. testbit x i))
unfolding first_bit_set
first_bit_set-nonzero (pos zero) ne = absurd (ne refl)
first_bit_set-nonzero (pos (suc n)) ne = refl
first_bit_set-nonzero (negsuc n) ne = refl

-- where no bit below the length is 1, x is 0 or the bit at the length is 1
first_one : (x : ℤ) (r : ℕ) → x ≢ pos 0 → First (bit_length x) (λ i. testbit x i) r → testbit x r ≡ true
first_one x r n c = by-lt (λ b. testbit x r ≡ true) r (bit_length x) c.found (λ h. at_length h (is_negative x) refl)
  where
    no_one : is_negative x ≡ false → bit_length x ≤ r → (i : ℕ) → testbit x i ≡ testbit (pos 0) i
    no_one s h i =
        by-lt (λ b. testbit x i ≡ false) i (bit_length x) (λ l. c.below i (omega arith)) (λ l. testbit-above x i l ∙ s)
        ∙ sym (testbit-zero i)

    at_length : bit_length x ≤ r → (s : Bool) → is_negative x ≡ s → testbit x r ≡ true
    at_length h true s = testbit-above x r h ∙ s
    at_length h false s = absurd (n (testbit-ext (no_one s h)))

pub first_bit_set-zero : first_bit_set (pos 0) ≡ negsuc 0
unfolding first_bit_set
first_bit_set-zero = refl

pub first_bit_set-lowest : (x : ℤ) → x ≢ pos 0
    → (i : ℕ) × (first_bit_set x ≡ pos i) × (testbit x i ≡ true) × ((j : ℕ) → j < i → testbit x j ≡ false)
first_bit_set-lowest x n =
    let first = first_true-first (bit_length x) (λ i. testbit x i) in
    (first_true (bit_length x) (λ i. testbit x i), first_bit_set-nonzero x n, first_one x _ n first, first.below)

pub first_bit_set-unique : (x : ℤ) (i : ℕ) → testbit x i ≡ true → ((j : ℕ) → j < i → testbit x j ≡ false) → first_bit_set x ≡ pos i
first_bit_set-unique x i e none = go (first_bit_set-lowest x (λ z. true≢false (sym e ∙ ap (λ (y : ℤ). testbit y i) z ∙ testbit-zero i)))
  where
    go : (k : ℕ) × (first_bit_set x ≡ pos k) × (testbit x k ≡ true) × ((j : ℕ) → j < k → testbit x j ≡ false) → first_bit_set x ≡ pos i
    go (k, s, one, below) = s ∙ ap pos (omega (arith, before, after))
      where
        before : ¬ (i < k)
        before h = true≢false (sym e ∙ below i h)

        after : ¬ (k < i)
        after h = true≢false (sym one ∙ none k h)

zero-of-none : (x : ℤ) → first_bit_set x ≡ negsuc 0 → x ≡ pos 0
unfolding first_bit_set is_negative
zero-of-none (pos zero) e = refl
zero-of-none (pos (suc n)) e = absurd (true≢false (sym (ap is_negative e)))
zero-of-none (negsuc n) e = absurd (true≢false (sym (ap is_negative e)))

pub first_bit_set-none : (x : ℤ) → (first_bit_set x ≡ negsuc 0) ↔ (x ≡ pos 0)
first_bit_set-none x = (zero-of-none x, λ z. ap first_bit_set z ∙ first_bit_set-zero)
