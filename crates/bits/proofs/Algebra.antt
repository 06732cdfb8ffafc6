-- The algebra of the logical operations. An identity of Boolean terms holds of the integers, because it holds of each bit: that is
-- proved once (`identity`), over terms of up to three integers, and each named law is an instance that antt checks by computing the
-- truth tables of its two sides. Assumes nothing.
use mathlib.Core.Path.{◌≡◌, refl, sym, ◌∙◌, ap, ap₂}
use mathlib.Core.Bool.{Bool, true, false, not, ◌&&◌, ◌||◌, xor}
use Prim.Native.Nat.{ℕ}
use lib.Dec.{T}
use lib.IntN.{ℤ, pos, negsuc}
use Rattle.bits.specs.Testbit.{testbit, fill}
use Rattle.bits.specs.Logical.{bitwise_not, bitwise, bitwise_and, bitwise_ior, bitwise_xor, bitwise_if}
use Rattle.bits.proofs.Booleans.{agree₃, all₃}
use Rattle.bits.proofs.TestbitLaws.{testbit-ext, testbit-fill}
use Rattle.bits.proofs.LogicalLaws.{testbit-not, testbit-bitwise}

-- ---- terms, and what they mean on integers and on bits

pub data Term : Type 0 where
  X Y Z : Term
  const : Bool → Term
  ~◌ : Term → Term
  bin : (Bool → Bool → Bool) → Term → Term → Term

infix 90 ~◌
infixl 80 ◌&◌
abbrev pub ◌&◌ : Term → Term → Term
s & t = bin ◌&&◌ s t

infixl 70 ◌⊕◌
abbrev pub ◌⊕◌ : Term → Term → Term
s ⊕ t = bin xor s t

infixl 60 ◌∣◌
abbrev pub ◌∣◌ : Term → Term → Term
s ∣ t = bin ◌||◌ s t

abbrev pub 𝟘 : Term
𝟘 = const false

abbrev pub 𝟙 : Term
𝟙 = const true

abbrev pub value : Term → ℤ → ℤ → ℤ → ℤ
value X x y z = x
value Y x y z = y
value Z x y z = z
value (const s) x y z = fill s
value (~ s) x y z = bitwise_not (value s x y z)
value (bin op s t) x y z = bitwise op (value s x y z) (value t x y z)

abbrev pub truth : Term → Bool → Bool → Bool → Bool
truth X a b c = a
truth Y a b c = b
truth Z a b c = c
truth (const s) a b c = s
truth (~ s) a b c = not (truth s a b c)
truth (bin op s t) a b c = op (truth s a b c) (truth t a b c)

pub testbit-value : (s : Term) (x y z : ℤ) (i : ℕ) → testbit (value s x y z) i ≡ truth s (testbit x i) (testbit y i) (testbit z i)
testbit-value X x y z i = refl
testbit-value Y x y z i = refl
testbit-value Z x y z i = refl
testbit-value (const s) x y z i = testbit-fill s i
testbit-value (~ s) x y z i = testbit-not (value s x y z) i ∙ ap not (testbit-value s x y z i)
testbit-value (bin op s t) x y z i =
    testbit-bitwise op (value s x y z) (value t x y z) i ∙ ap₂ op (testbit-value s x y z i) (testbit-value t x y z i)

pub identity : (s t : Term) → T (agree₃ (truth s) (truth t)) → (x y z : ℤ) → value s x y z ≡ value t x y z
identity s t h x y z =
    testbit-ext λ i.
    testbit-value s x y z i ∙ all₃ (truth s) (truth t) h (testbit x i) (testbit y i) (testbit z i) ∙ sym (testbit-value t x y z i)

-- the same, of two integers and of one
pub identity₂ : (s t : Term) → T (agree₃ (truth s) (truth t)) → (x y : ℤ) → value s x y x ≡ value t x y x
identity₂ s t h x y = identity s t h x y x

pub identity₁ : (s t : Term) → T (agree₃ (truth s) (truth t)) → (x : ℤ) → value s x x x ≡ value t x x x
identity₁ s t h x = identity s t h x x x

-- ---- not, and De Morgan

pub not_involutive : (x : ℤ) → bitwise_not (bitwise_not x) ≡ x
not_involutive = identity₁ (~ (~ X)) X tt

pub not-and : (x y : ℤ) → bitwise_not (bitwise_and x y) ≡ bitwise_ior (bitwise_not x) (bitwise_not y)
unfolding bitwise_and bitwise_ior
not-and = identity₂ (~ (X & Y)) (~ X ∣ ~ Y) tt

pub not-ior : (x y : ℤ) → bitwise_not (bitwise_ior x y) ≡ bitwise_and (bitwise_not x) (bitwise_not y)
unfolding bitwise_and bitwise_ior
not-ior = identity₂ (~ (X ∣ Y)) (~ X & ~ Y) tt

pub not-xor : (x y : ℤ) → bitwise_not (bitwise_xor x y) ≡ bitwise_xor (bitwise_not x) y
unfolding bitwise_xor xor
not-xor = identity₂ (~ (X ⊕ Y)) (~ X ⊕ Y) tt

-- ---- and

pub and_comm : (x y : ℤ) → bitwise_and x y ≡ bitwise_and y x
unfolding bitwise_and
and_comm = identity₂ (X & Y) (Y & X) tt

pub and_assoc : (x y z : ℤ) → bitwise_and (bitwise_and x y) z ≡ bitwise_and x (bitwise_and y z)
unfolding bitwise_and
and_assoc = identity ((X & Y) & Z) (X & (Y & Z)) tt

pub and_self : (x : ℤ) → bitwise_and x x ≡ x
unfolding bitwise_and
and_self = identity₁ (X & X) X tt

pub and-ones-l : (x : ℤ) → bitwise_and (negsuc 0) x ≡ x
unfolding bitwise_and fill
and-ones-l = identity₁ (𝟙 & X) X tt

pub and-ones-r : (x : ℤ) → bitwise_and x (negsuc 0) ≡ x
unfolding bitwise_and fill
and-ones-r = identity₁ (X & 𝟙) X tt

pub and_zero_l : (x : ℤ) → bitwise_and (pos 0) x ≡ pos 0
unfolding bitwise_and fill
and_zero_l = identity₁ (𝟘 & X) 𝟘 tt

pub and_zero_r : (x : ℤ) → bitwise_and x (pos 0) ≡ pos 0
unfolding bitwise_and fill
and_zero_r = identity₁ (X & 𝟘) 𝟘 tt

pub and-not : (x : ℤ) → bitwise_and x (bitwise_not x) ≡ pos 0
unfolding bitwise_and fill
and-not = identity₁ (X & ~ X) 𝟘 tt

-- ---- ior

pub ior-comm : (x y : ℤ) → bitwise_ior x y ≡ bitwise_ior y x
unfolding bitwise_ior
ior-comm = identity₂ (X ∣ Y) (Y ∣ X) tt

pub ior-assoc : (x y z : ℤ) → bitwise_ior (bitwise_ior x y) z ≡ bitwise_ior x (bitwise_ior y z)
unfolding bitwise_ior
ior-assoc = identity ((X ∣ Y) ∣ Z) (X ∣ (Y ∣ Z)) tt

pub ior-self : (x : ℤ) → bitwise_ior x x ≡ x
unfolding bitwise_ior
ior-self = identity₁ (X ∣ X) X tt

pub ior-zero-l : (x : ℤ) → bitwise_ior (pos 0) x ≡ x
unfolding bitwise_ior fill
ior-zero-l = identity₁ (𝟘 ∣ X) X tt

pub ior-zero-r : (x : ℤ) → bitwise_ior x (pos 0) ≡ x
unfolding bitwise_ior fill
ior-zero-r = identity₁ (X ∣ 𝟘) X tt

pub ior-ones-l : (x : ℤ) → bitwise_ior (negsuc 0) x ≡ negsuc 0
unfolding bitwise_ior fill
ior-ones-l = identity₁ (𝟙 ∣ X) 𝟙 tt

pub ior-ones-r : (x : ℤ) → bitwise_ior x (negsuc 0) ≡ negsuc 0
unfolding bitwise_ior fill
ior-ones-r = identity₁ (X ∣ 𝟙) 𝟙 tt

pub ior-not : (x : ℤ) → bitwise_ior x (bitwise_not x) ≡ negsuc 0
unfolding bitwise_ior fill
ior-not = identity₁ (X ∣ ~ X) 𝟙 tt

-- ---- xor

pub xor_comm : (x y : ℤ) → bitwise_xor x y ≡ bitwise_xor y x
unfolding bitwise_xor xor
xor_comm = identity₂ (X ⊕ Y) (Y ⊕ X) tt

pub xor_assoc : (x y z : ℤ) → bitwise_xor (bitwise_xor x y) z ≡ bitwise_xor x (bitwise_xor y z)
unfolding bitwise_xor xor
xor_assoc = identity ((X ⊕ Y) ⊕ Z) (X ⊕ (Y ⊕ Z)) tt

pub xor_self : (x : ℤ) → bitwise_xor x x ≡ pos 0
unfolding bitwise_xor xor fill
xor_self = identity₁ (X ⊕ X) 𝟘 tt

pub xor_zero_l : (x : ℤ) → bitwise_xor (pos 0) x ≡ x
unfolding bitwise_xor xor fill
xor_zero_l = identity₁ (𝟘 ⊕ X) X tt

pub xor_zero_r : (x : ℤ) → bitwise_xor x (pos 0) ≡ x
unfolding bitwise_xor xor fill
xor_zero_r = identity₁ (X ⊕ 𝟘) X tt

pub xor-ones-l : (x : ℤ) → bitwise_xor (negsuc 0) x ≡ bitwise_not x
unfolding bitwise_xor xor fill
xor-ones-l = identity₁ (𝟙 ⊕ X) (~ X) tt

pub xor-ones-r : (x : ℤ) → bitwise_xor x (negsuc 0) ≡ bitwise_not x
unfolding bitwise_xor xor fill
xor-ones-r = identity₁ (X ⊕ 𝟙) (~ X) tt

pub xor-cancel : (x y : ℤ) → bitwise_xor (bitwise_xor x y) y ≡ x
unfolding bitwise_xor xor
xor-cancel = identity₂ ((X ⊕ Y) ⊕ Y) X tt

xor-swap : (x y z : ℤ) → bitwise_xor (bitwise_xor x y) z ≡ bitwise_xor (bitwise_xor x z) y
unfolding bitwise_xor xor
xor-swap = identity ((X ⊕ Y) ⊕ Z) ((X ⊕ Z) ⊕ Y) tt

pub xor-interchange : (a b c d : ℤ) → bitwise_xor (bitwise_xor a b) (bitwise_xor c d) ≡ bitwise_xor (bitwise_xor a c) (bitwise_xor b d)
xor-interchange a b c d =
    sym (xor_assoc (bitwise_xor a b) c d) ∙ ap (λ (x : ℤ). bitwise_xor x d) (xor-swap a b c) ∙ xor_assoc (bitwise_xor a c) b d

pub xor-injective-l : (x y z : ℤ) → bitwise_xor x z ≡ bitwise_xor y z → x ≡ y
xor-injective-l x y z e = sym (xor-cancel x z) ∙ ap (λ (u : ℤ). bitwise_xor u z) e ∙ xor-cancel y z

pub xor-injective-r : (x y z : ℤ) → bitwise_xor x y ≡ bitwise_xor x z → y ≡ z
xor-injective-r x y z e = xor-injective-l y z x (xor_comm y x ∙ e ∙ xor_comm x z)

-- ---- distribution and absorption

pub and-distrib-ior : (x y z : ℤ) → bitwise_and x (bitwise_ior y z) ≡ bitwise_ior (bitwise_and x y) (bitwise_and x z)
unfolding bitwise_and bitwise_ior
and-distrib-ior = identity (X & (Y ∣ Z)) (X & Y ∣ X & Z) tt

pub ior-distrib-and : (x y z : ℤ) → bitwise_ior x (bitwise_and y z) ≡ bitwise_and (bitwise_ior x y) (bitwise_ior x z)
unfolding bitwise_and bitwise_ior
ior-distrib-and = identity (X ∣ Y & Z) ((X ∣ Y) & (X ∣ Z)) tt

pub and-distrib-xor : (x y z : ℤ) → bitwise_and x (bitwise_xor y z) ≡ bitwise_xor (bitwise_and x y) (bitwise_and x z)
unfolding bitwise_and bitwise_xor xor
and-distrib-xor = identity (X & (Y ⊕ Z)) (X & Y ⊕ X & Z) tt

pub and-ior-absorb : (x y : ℤ) → bitwise_and x (bitwise_ior x y) ≡ x
unfolding bitwise_and bitwise_ior
and-ior-absorb = identity₂ (X & (X ∣ Y)) X tt

pub ior-and-absorb : (x y : ℤ) → bitwise_ior x (bitwise_and x y) ≡ x
unfolding bitwise_and bitwise_ior
ior-and-absorb = identity₂ (X ∣ X & Y) X tt

pub xor-and-ior : (x y : ℤ) → bitwise_xor x y ≡ bitwise_and (bitwise_ior x y) (bitwise_not (bitwise_and x y))
unfolding bitwise_and bitwise_ior bitwise_xor xor
xor-and-ior = identity₂ (X ⊕ Y) ((X ∣ Y) & ~ (X & Y)) tt

-- ---- if

pub if-ones : (x y : ℤ) → bitwise_if (negsuc 0) x y ≡ x
unfolding bitwise_if bitwise_and bitwise_ior fill
if-ones = identity₂ (𝟙 & X ∣ ~ 𝟙 & Y) X tt

pub if-zero : (x y : ℤ) → bitwise_if (pos 0) x y ≡ y
unfolding bitwise_if bitwise_and bitwise_ior fill
if-zero = identity₂ (𝟘 & X ∣ ~ 𝟘 & Y) Y tt

pub if-self : (x y : ℤ) → bitwise_if x y y ≡ y
unfolding bitwise_if bitwise_and bitwise_ior
if-self = identity₂ (X & Y ∣ ~ X & Y) Y tt

pub if-not : (x y z : ℤ) → bitwise_if (bitwise_not x) y z ≡ bitwise_if x z y
unfolding bitwise_if bitwise_and bitwise_ior
if-not = identity (~ X & Y ∣ ~ (~ X) & Z) (X & Z ∣ ~ X & Y) tt

pub not-if : (x y z : ℤ) → bitwise_not (bitwise_if x y z) ≡ bitwise_if x (bitwise_not y) (bitwise_not z)
unfolding bitwise_if bitwise_and bitwise_ior
not-if = identity (~ (X & Y ∣ ~ X & Z)) (X & ~ Y ∣ ~ X & ~ Z) tt
