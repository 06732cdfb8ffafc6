-- And, ior and xor of any number of integers. Assumes nothing.
use mathlib.Core.Path.{◌≡◌, refl, sym, ◌∙◌, ap, ap₂}
use mathlib.Core.Bool.{Bool}
use mathlib.Core.List.{List, [], ◌∷◌, ◌++◌, map}
use Prim.Native.Nat.{ℕ}
use lib.IntN.{ℤ, pos, negsuc}
use Rattle.bits.specs.Testbit.{testbit, fill}
use Rattle.bits.specs.Logical.{bitwise, bitwise_from, bitwise_all, bitwise_ands, bitwise_iors, bitwise_xors}
use Rattle.bits.proofs.TestbitLaws.{testbit-ext, testbit-fill}
use Rattle.bits.proofs.LogicalLaws.{testbit-bitwise}

-- ---- bits: the Boolean operation from the left, over bit i of each argument

abbrev pub fold_bits : (Bool → Bool → Bool) → Bool → List ℤ → ℕ → Bool
fold_bits op b [] i = b
fold_bits op b (x ∷ xs) i = fold_bits op (op b (testbit x i)) xs i

testbit-from : (op : Bool → Bool → Bool) (xs : List ℤ) (x : ℤ) (i : ℕ) → testbit (bitwise_from op x xs) i ≡ fold_bits op (testbit x i) xs i
unfolding bitwise_from
testbit-from op [] x i = refl
testbit-from op (y ∷ ys) x i =
    testbit-from op ys (bitwise op x y) i ∙ ap (λ (b : Bool). fold_bits op b ys i) (testbit-bitwise op x y i)

pub testbit-all : (op : Bool → Bool → Bool) (e : Bool) (xs : List ℤ) (i : ℕ) → testbit (bitwise_all op e xs) i ≡ fold_bits op e xs i
unfolding bitwise_all
testbit-all op e xs i = testbit-from op xs (fill e) i ∙ ap (λ (b : Bool). fold_bits op b xs i) (testbit-fill e i)

-- ---- none, one, two and more arguments

pub ands-none : bitwise_ands [] ≡ negsuc 0
unfolding bitwise_ands bitwise_all bitwise_from fill
ands-none = refl

pub iors-none : bitwise_iors [] ≡ pos 0
unfolding bitwise_iors bitwise_all bitwise_from fill
iors-none = refl

pub xors-none : bitwise_xors [] ≡ pos 0
unfolding bitwise_xors bitwise_all bitwise_from fill
xors-none = refl

-- e is a left identity of op
module _ (op : Bool → Bool → Bool) (e : Bool) (identity : (a : Bool) → op e a ≡ a) where
  pub all_one : (x : ℤ) → bitwise_all op e (x ∷ []) ≡ x
  all_one x = testbit-ext λ i. testbit-all op e (x ∷ []) i ∙ identity (testbit x i)

  pub all_two : (x y : ℤ) → bitwise_all op e (x ∷ y ∷ []) ≡ bitwise op x y
  all_two x y =
      testbit-ext λ i.
      testbit-all op e (x ∷ y ∷ []) i ∙ ap (λ (b : Bool). op b (testbit y i)) (identity (testbit x i)) ∙ sym (testbit-bitwise op x y i)

-- an associative op with identity e: the arguments may be grouped at will
module _ (op : Bool → Bool → Bool) (e : Bool) (identity-r : (a : Bool) → op a e ≡ a)
    (assoc : (a b c : Bool) → op (op a b) c ≡ op a (op b c)) where
  fold-op : (xs : List ℤ) (a b : Bool) (i : ℕ) → fold_bits op (op a b) xs i ≡ op a (fold_bits op b xs i)
  fold-op [] a b i = refl
  fold-op (x ∷ xs) a b i = ap (λ (c : Bool). fold_bits op c xs i) (assoc a b (testbit x i)) ∙ fold-op xs a (op b (testbit x i)) i

  fold-append : (xs ys : List ℤ) (b : Bool) (i : ℕ) → fold_bits op b (xs ++ ys) i ≡ op (fold_bits op b xs i) (fold_bits op e ys i)
  fold-append [] ys b i = ap (λ (c : Bool). fold_bits op c ys i) (sym (identity-r b)) ∙ fold-op ys b e i
  fold-append (x ∷ xs) ys b i = fold-append xs ys (op b (testbit x i)) i

  pub all_append : (xs ys : List ℤ) → bitwise_all op e (xs ++ ys) ≡ bitwise op (bitwise_all op e xs) (bitwise_all op e ys)
  all_append xs ys =
      testbit-ext λ i.
      testbit-all op e (xs ++ ys) i
      ∙ fold-append xs ys e i
      ∙ sym (testbit-bitwise op (bitwise_all op e xs) (bitwise_all op e ys) i ∙ ap₂ op (testbit-all op e xs i) (testbit-all op e ys i))

-- ---- a map that commutes with the operation and its identity commutes with it over any number of arguments

pub all_map : (op : Bool → Bool → Bool) (e : Bool) (F : ℤ → ℤ)
    → F (fill e) ≡ fill e
    → ((x y : ℤ) → F (bitwise op x y) ≡ bitwise op (F x) (F y))
    → (xs : List ℤ) → F (bitwise_all op e xs) ≡ bitwise_all op e (map F xs)
unfolding bitwise_all bitwise_from
all_map op e F unit step xs = go xs (fill e) ∙ ap (λ (y : ℤ). bitwise_from op y (map F xs)) unit
  where
    go : (xs : List ℤ) (x : ℤ) → F (bitwise_from op x xs) ≡ bitwise_from op (F x) (map F xs)
    go [] x = refl
    go (y ∷ ys) x = go ys (bitwise op x y) ∙ ap (λ (z : ℤ). bitwise_from op z (map F ys)) (step x y)
