-- The logical operations of R6RS's (rnrs arithmetic bitwise), on all bits at once.
--   bitwise_not x             ==  each bit of x inverted
--   bitwise op x y           ==  bit i is op (bit i of x) (bit i of y), for any Boolean operation op
--   bitwise_and, Ior, Xor     ==  of two integers
--   bitwise_from op x ys      ==  x, and then each of ys, from the left
--   bitwise_all op e xs       ==  of any number of integers, from the left; e is op's identity
--   bitwise_ands, Iors, Xors  ==  of any number of integers; of none: -1, 0, 0
--   bitwise_if x y z          ==  bit i is bit i of y where bit i of x is 1, and of z where it is 0
use Rattle.std.specs.Prelude.{max, Bool, true, false, ◌&&◌, ◌||◌, List, [], ◌∷◌, ℤ, pos, negsuc}
use Rattle.std.specs.Bool.{xor}
use Rattle.bits.specs.Testbit.{is_negative, testbit, bit_length, fill, of_bits}

unfoldable pub bitwise_not : ℤ → ℤ
bitwise_not (pos n) = negsuc n
bitwise_not (negsuc n) = pos n

unfoldable pub bitwise : (Bool → Bool → Bool) → ℤ → ℤ → ℤ
bitwise op x y =
    of_bits (max (bit_length x) (bit_length y)) (λ i. op (testbit x i) (testbit y i)) (fill (op (is_negative x) (is_negative y)))

unfoldable pub bitwise_and : ℤ → ℤ → ℤ
bitwise_and = bitwise ◌&&◌

unfoldable pub bitwise_ior : ℤ → ℤ → ℤ
bitwise_ior = bitwise ◌||◌

unfoldable pub bitwise_xor : ℤ → ℤ → ℤ
bitwise_xor = bitwise xor

unfoldable pub bitwise_from : (Bool → Bool → Bool) → ℤ → List ℤ → ℤ
bitwise_from op x [] = x
bitwise_from op x (y ∷ ys) = bitwise_from op (bitwise op x y) ys

unfoldable pub bitwise_all : (Bool → Bool → Bool) → Bool → List ℤ → ℤ
bitwise_all op e xs = bitwise_from op (fill e) xs

unfoldable pub bitwise_ands : List ℤ → ℤ
bitwise_ands = bitwise_all ◌&&◌ true

unfoldable pub bitwise_iors : List ℤ → ℤ
bitwise_iors = bitwise_all ◌||◌ false

unfoldable pub bitwise_xors : List ℤ → ℤ
bitwise_xors = bitwise_all xor false

unfoldable pub bitwise_if : ℤ → ℤ → ℤ → ℤ
bitwise_if x y z = bitwise_ior (bitwise_and x y) (bitwise_and (bitwise_not x) z)
