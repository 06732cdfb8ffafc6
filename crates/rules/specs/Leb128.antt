-- Numbers in groups of seven bits, the least significant first, with 128 added to each group but the last: DWARF's LEB128.
--   Reading A           ==  what stands at the head of bytes, and the bytes after it; or an offence, told by how many bytes there are
--                           from the offending item to the end
--   Groups A            ==  how a number of the type A is cut into its lowest group and the rest, and put together again, and which numbers are one group
--   unsigned, signed    ==  the two kinds: of natural numbers, and of integers in two's complement
--   encode G k v        ==  the shortest groups of v, at most k
--   in_groups G k v      ==  whether k groups are enough
--   decode G left k s   ==  the number at the head of s. It offends at its first byte, from where `left` bytes are left, if it is not the
--                           shortest or has more than k groups, and at the end if s ends before its last group
use Rattle.std.specs.Prelude.{ℕ, zero, suc, ◌+◌, ◌-◌, ◌*◌, ◌/◌, ◌%◌, Bool, false, cond, ◌||◌, List, [], ◌∷◌, ltb, ℤ, pos, negsuc}

pub data Reading (A : Type 0) : Type 0 where
  got : A → List ℕ → Reading A
  offends : ℕ → Reading A

pub record Groups (A : Type 0) : Type 0 where
  pub low : A → ℕ
  pub high : A → A
  pub join : ℕ → A → A
  pub of_last : ℕ → A
  pub is_last : A → Bool

unfoldable pub unsigned : Groups ℕ
unsigned = record { low = λ n. n % 128; high = λ n. n / 128; join = λ g n. n * 128 + g; of_last = λ g. g; is_last = λ n. ltb n 128 }

unfoldable pub low_z : ℤ → ℕ
low_z (pos n) = n % 128
low_z (negsuc n) = 127 - n % 128

unfoldable pub high_z : ℤ → ℤ
high_z (pos n) = pos (n / 128)
high_z (negsuc n) = negsuc (n / 128)

unfoldable pub join_z : ℕ → ℤ → ℤ
join_z g (pos n) = pos (n * 128 + g)
join_z g (negsuc n) = negsuc (n * 128 + (127 - g))

unfoldable pub of_last_z : ℕ → ℤ
of_last_z g = cond (ltb g 64) (pos g) (negsuc (127 - g))

unfoldable pub is_last_z : ℤ → Bool
is_last_z (pos n) = ltb n 64
is_last_z (negsuc n) = ltb n 64

unfoldable pub signed : Groups ℤ
signed = record { low = low_z; high = high_z; join = join_z; of_last = of_last_z; is_last = is_last_z }

module _ {A : Type 0} (G : Groups A) where
  unfoldable pub encode : ℕ → A → List ℕ
  encode zero v = []
  encode (suc k) v = cond (G.is_last v) (G.low v ∷ []) ((G.low v + 128) ∷ encode k (G.high v))

  unfoldable pub in_groups : ℕ → A → Bool
  in_groups zero v = false
  in_groups (suc k) v = G.is_last v || in_groups k (G.high v)

  -- more groups than one, of a number that is one group, are not the shortest
  unfoldable pub shortest : ℕ → A → List ℕ → Reading A
  shortest left v rest = cond (G.is_last v) (offends left) (got v rest)

  unfoldable pub continued : ℕ → ℕ → Reading A → Reading A
  continued left g (got v rest) = shortest left (G.join g v) rest
  continued left g (offends l) = offends l

  unfoldable pub decode : ℕ → ℕ → List ℕ → Reading A
  decode left zero s = offends left
  decode left (suc k) [] = offends 0
  decode left (suc k) (b ∷ s) = cond (ltb b 128) (got (G.of_last b) s) (continued left (b - 128) (decode left k s))
