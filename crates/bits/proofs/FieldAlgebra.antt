-- The algebra of fields: get and put, distribution over the logical operations, permutations of a field composed. Assumes nothing.
use mathlib.Core.Path.{◌≡◌, refl, sym, ◌∙◌, ap, ap₂}
use mathlib.Core.Bool.{Bool, true, false, not, cond, ◌&&◌}
use Prim.Native.Nat.{ℕ, suc, ◌+◌, ◌-◌, ◌≤◌, ◌<◌}
use native.Mathlib.Omega.{arith}
use lib.Dec.{ltb}
use lib.IntN.{ℤ, pos}
use borrow.Author.Tests.{lt-ltb}
use Rattle.bits.specs.Testbit.{testbit, of_bits}
use Rattle.bits.specs.Logical.{bitwise_not, bitwise}
use Rattle.bits.specs.Field.{in_field, bit_field, set_field, copy_bit_field, copy_bit, permute_field}
use Rattle.bits.proofs.Booleans.{and-distrib}
use Rattle.bits.proofs.TestbitLaws.{by-lt, testbit-ext}
use Rattle.bits.proofs.LogicalLaws.{testbit-bitwise, not-bitwise, distrib-not}
use Rattle.bits.proofs.FieldLaws.{by_field, testbit-set_field, testbit-set_field-in, testbit-set_field-out, testbit-bit_field}

-- ---- fields replaced: only the new bits inside the field count

-- two integers that agree outside the field, with equal new bits in it
pub set_field-ext : (x y : ℤ) (start end : ℕ) (g h : ℕ → Bool)
    → ((i : ℕ) → in_field start end i ≡ false → testbit x i ≡ testbit y i)
    → ((j : ℕ) → j < end - start → g j ≡ h j)
    → set_field x start end g ≡ set_field y start end h
set_field-ext x y start end g h out into = testbit-ext λ i.
    testbit-set_field x start end g i
    ∙ by_field (λ b. cond b (g (i - start)) (testbit x i) ≡ cond b (h (i - start)) (testbit y i)) start end i
    (λ l u. into (i - start) (omega arith)) (out i)
    ∙ sym (testbit-set_field y start end h i)

-- the bits that the field has already
pub set_field-same : (x : ℤ) (start end : ℕ) (g : ℕ → Bool) → ((j : ℕ) → j < end - start → g j ≡ testbit x (start + j))
    → set_field x start end g ≡ x
set_field-same x start end g into = testbit-ext λ i.
    testbit-set_field x start end g i
    ∙ by_field (λ b. cond b (g (i - start)) (testbit x i) ≡ testbit x i) start end i
    (λ l u. into (i - start) (omega arith) ∙ (let e : start + (i - start) ≡ i = omega arith in ap (λ (m : ℕ). testbit x m) e))
    (λ o. refl)

pub set_field-distrib-bitwise : (op : Bool → Bool → Bool) (x y : ℤ) (start end : ℕ) (g h : ℕ → Bool)
    → set_field (bitwise op x y) start end (λ j. op (g j) (h j)) ≡ bitwise op (set_field x start end g) (set_field y start end h)
set_field-distrib-bitwise op x y start end g h = testbit-ext λ i.
    testbit-set_field (bitwise op x y) start end (λ j. op (g j) (h j)) i
    ∙ ap (λ (b : Bool). cond (in_field start end i) (op (g (i - start)) (h (i - start))) b) (testbit-bitwise op x y i)
    ∙ pick (in_field start end i) (g (i - start)) (h (i - start)) (testbit x i) (testbit y i)
    ∙ sym (testbit-bitwise op (set_field x start end g) (set_field y start end h) i
    ∙ ap₂ op (testbit-set_field x start end g i) (testbit-set_field y start end h i))
  where
    pick : (c a b d e : Bool) → cond c (op a b) (op d e) ≡ op (cond c a d) (cond c b e)
    pick true a b d e = refl
    pick false a b d e = refl

-- an empty field has no bits to replace
pub set_field-empty : (x : ℤ) (start end : ℕ) (g : ℕ → Bool) → end ≤ start → set_field x start end g ≡ x
set_field-empty x start end g h = set_field-same x start end g (λ j l. absurd (omega arith))

pub bit_field-empty : (x : ℤ) (start end : ℕ) → end ≤ start → bit_field x start end ≡ pos 0
unfolding bit_field of_bits
bit_field-empty x start end h =
    let e : end - start ≡ 0 = omega arith in ap (λ (k : ℕ). of_bits k (λ j. testbit x (start + j)) (pos 0)) e

-- ---- get and put

-- what was put is what is got
pub bit_field-copy_bit_field : (x : ℤ) (start end : ℕ) (y : ℤ) → bit_field (copy_bit_field x start end y) start end ≡ bit_field y 0 (end - start)
unfolding copy_bit_field
bit_field-copy_bit_field x start end y = testbit-ext λ j.
    testbit-bit_field (set_field x start end (λ j. testbit y j)) start end j
    ∙ by-lt (λ b. b && testbit (set_field x start end (λ j. testbit y j)) (start + j) ≡ b && testbit y j) j (end - start)
    (testbit-set_field-in x start end (λ j. testbit y j) j) (λ h. refl)
    ∙ sym (testbit-bit_field y 0 (end - start) j
    ∙ (let e : end - start - 0 ≡ end - start = omega arith in ap (λ (m : ℕ). ltb j m && testbit y (0 + j)) e)
    ∙ (let e : 0 + j ≡ j = omega arith in ap (λ (m : ℕ). ltb j (end - start) && testbit y m) e))

-- putting back what was got changes nothing
pub copy_bit_field-bit_field : (x : ℤ) (start end : ℕ) → copy_bit_field x start end (bit_field x start end) ≡ x
unfolding copy_bit_field
copy_bit_field-bit_field x start end =
    set_field-same x start end (λ j. testbit (bit_field x start end) j)
    (λ j h. testbit-bit_field x start end j ∙ ap (λ (b : Bool). b && testbit x (start + j)) (lt-ltb j (end - start) h))

-- the later of two puts counts
pub copy_bit_field-copy_bit_field : (x : ℤ) (start end : ℕ) (y z : ℤ)
    → copy_bit_field (copy_bit_field x start end y) start end z ≡ copy_bit_field x start end z
unfolding copy_bit_field
copy_bit_field-copy_bit_field x start end y z =
    set_field-ext (set_field x start end (λ j. testbit y j)) x start end (λ j. testbit z j) (λ j. testbit z j)
    (testbit-set_field-out x start end (λ j. testbit y j))
    (λ j h. refl)

-- the same of one bit
pub copy_bit-bit_field : (x : ℤ) (k : ℕ) → copy_bit x k (bit_field x k (suc k)) ≡ x
unfolding copy_bit
copy_bit-bit_field x k = copy_bit_field-bit_field x k (suc k)

pub copy_bit-copy_bit : (x : ℤ) (k : ℕ) (y z : ℤ) → copy_bit (copy_bit x k y) k z ≡ copy_bit x k z
unfolding copy_bit
copy_bit-copy_bit x k = copy_bit_field-copy_bit_field x k (suc k)

-- ---- distribution over the logical operations

pub copy_bit_field-distrib-bitwise : (op : Bool → Bool → Bool) (x y : ℤ) (start end : ℕ) (u v : ℤ)
    → copy_bit_field (bitwise op x y) start end (bitwise op u v) ≡ bitwise op (copy_bit_field x start end u) (copy_bit_field y start end v)
unfolding copy_bit_field
copy_bit_field-distrib-bitwise op x y start end u v =
    set_field-ext (bitwise op x y) (bitwise op x y) start end (λ j. testbit (bitwise op u v) j) (λ j. op (testbit u j) (testbit v j))
    (λ i o. refl) (λ j h. testbit-bitwise op u v j)
    ∙ set_field-distrib-bitwise op x y start end (λ j. testbit u j) (λ j. testbit v j)

pub copy_bit_field-not : (x : ℤ) (start end : ℕ) (u : ℤ)
    → copy_bit_field (bitwise_not x) start end (bitwise_not u) ≡ bitwise_not (copy_bit_field x start end u)
copy_bit_field-not x start end u =
    ap₂ (λ (a b : ℤ). copy_bit_field a start end b) (not-bitwise x) (not-bitwise u)
    ∙ copy_bit_field-distrib-bitwise (λ a b. not a) x x start end u u
    ∙ sym (not-bitwise (copy_bit_field x start end u))

-- a field is 0 above its size, so the operation must keep 0 there
pub bit_field-distrib-bitwise : (op : Bool → Bool → Bool) → op false false ≡ false → (x y : ℤ) (start end : ℕ)
    → bit_field (bitwise op x y) start end ≡ bitwise op (bit_field x start end) (bit_field y start end)
bit_field-distrib-bitwise op keeps x y start end = testbit-ext λ j.
    testbit-bit_field (bitwise op x y) start end j
    ∙ ap (λ (b : Bool). ltb j (end - start) && b) (testbit-bitwise op x y (start + j))
    ∙ and-distrib op keeps (ltb j (end - start)) (testbit x (start + j)) (testbit y (start + j))
    ∙ sym (testbit-bitwise op (bit_field x start end) (bit_field y start end) j
    ∙ ap₂ op (testbit-bit_field x start end j) (testbit-bit_field y start end j))

-- ---- permutations of a field

pub permute_field-ext : (p q : ℕ → ℕ) (x : ℤ) (start end : ℕ) → ((j : ℕ) → j < end - start → p j ≡ q j)
    → permute_field p x start end ≡ permute_field q x start end
unfolding permute_field
permute_field-ext p q x start end e =
    set_field-ext x x start end (λ j. testbit x (start + p j)) (λ j. testbit x (start + q j)) (λ i o. refl)
    (λ j h. ap (λ (m : ℕ). testbit x (start + m)) (e j h))

pub permute_field-id : (p : ℕ → ℕ) (x : ℤ) (start end : ℕ) → ((j : ℕ) → j < end - start → p j ≡ j) → permute_field p x start end ≡ x
unfolding permute_field
permute_field-id p x start end e =
    set_field-same x start end (λ j. testbit x (start + p j)) (λ j h. ap (λ (m : ℕ). testbit x (start + m)) (e j h))

-- p first and then q: the result's bit j is bit q j of p's result, which is bit p (q j)
pub permute_field-compose : (p q : ℕ → ℕ) (x : ℤ) (start end : ℕ) → ((j : ℕ) → j < end - start → q j < end - start)
    → permute_field q (permute_field p x start end) start end ≡ permute_field (λ j. p (q j)) x start end
unfolding permute_field
permute_field-compose p q x start end into =
    set_field-ext (permute_field p x start end) x start end (λ j. testbit (permute_field p x start end) (start + q j))
    (λ j. testbit x (start + p (q j)))
    (testbit-set_field-out x start end (λ j. testbit x (start + p j)))
    (λ j h. testbit-set_field-in x start end (λ j. testbit x (start + p j)) (q j) (into j h))

pub permute_field-distrib-bitwise : (p : ℕ → ℕ) (op : Bool → Bool → Bool) (x y : ℤ) (start end : ℕ)
    → permute_field p (bitwise op x y) start end ≡ bitwise op (permute_field p x start end) (permute_field p y start end)
unfolding permute_field
permute_field-distrib-bitwise p op x y start end =
    set_field-ext (bitwise op x y) (bitwise op x y) start end (λ j. testbit (bitwise op x y) (start + p j))
    (λ j. op (testbit x (start + p j)) (testbit y (start + p j))) (λ i o. refl) (λ j h. testbit-bitwise op x y (start + p j))
    ∙ set_field-distrib-bitwise op x y start end (λ j. testbit x (start + p j)) (λ j. testbit y (start + p j))

pub permute_field-not : (p : ℕ → ℕ) (x : ℤ) (start end : ℕ) → permute_field p (bitwise_not x) start end ≡ bitwise_not (permute_field p x start end)
permute_field-not p x start end = distrib-not (λ y. permute_field p y start end) (λ op u v. permute_field-distrib-bitwise p op u v start end) x
