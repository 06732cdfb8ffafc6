-- A significand, shifted and times a power of ten, fits in the limbs. Assumes nothing.
use Rattle.std.proofs.Common.{◌≡◌, ℕ, ◌+◌, ◌*◌, ◌/◌, ◌%◌, ◌^◌, ◌<◌, ◌≤◌, List, length, refl, subst, le_trans, le_refl, lt_of_lt_of_le, lt_of_le_of_lt, mul-le-mul_left, mul-lt-mul_of_pos_right, le-mul_of_pos_right, arith, lit<, lit≤, pow_pos, pow_mono, pow-add, shl_lt}
use native.Mathlib.Nat.{one-le-pow}
use Rattle.text.specs.Naturals.{natural}
use Rattle.fltext.specs.Limbs.{Becomes}
use Rattle.fltext.specs.Inner.{room_for, Cleared}
use Rattle.fltext.proofs.ScaleLaws.{becomes-as, becomes-step, becomes-room}
use Rattle.fltext.proofs.NumberLaws.{power-bound}

module _ {m s u : ℕ} (hm : m < 2 ^ 53) (hs : s ≤ 2046) (hu : u ≤ 1500) {a : List ℕ} (c : Cleared 3000 a) where
  abbrev scaled : ℕ
  scaled = m * 2 ^ s * 10 ^ u

  shifted-lt : m * 2 ^ s < 2 ^ 2099
  shifted-lt = let e : 53 + s ≤ 2099 = omega arith in lt_of_lt_of_le (shl_lt 53 s hm) (pow_mono e)

  room : scaled < 2 ^ (32 * length a)
  unfolding room_for
  room =
      let ten : 10 ^ u ≤ 2 ^ 6000 = le_trans (power-bound 10 u (lit≤ tt)) (pow_mono (let e : 4 * u ≤ 6000 = omega arith in e)) in
      lt_of_lt_of_le (lt_of_le_of_lt (mul-le-mul_left (m * 2 ^ s) ten) (mul-lt-mul_of_pos_right shifted-lt (pow_pos 6000)))
      (subst (λ (n : ℕ). n ≤ 2 ^ (32 * length a)) (pow-add 2 2099 6000) (pow_mono (let e : 2099 + 6000 ≤ 32 * length a = omega (arith, c.room) in e)))

  shifted-le : m * 2 ^ s ≤ scaled
  shifted-le = le-mul_of_pos_right (m * 2 ^ s) (one-le-pow u 10 (lit< tt))

  whole_le : m ≤ scaled
  whole_le = le_trans (le-mul_of_pos_right m (pow_pos s)) shifted-le

  joined : m / 67108864 * 67108864 + m % 67108864 ≡ m
  joined = omega arith

  pub high-room : natural a * 1 + m / 67108864 < 2 ^ (32 * length a)
  high-room = lt_of_le_of_lt (omega (arith, c.zeros, whole_le)) room

  pub after-high : {x : List ℕ} → Becomes (natural a * 1 + m / 67108864) a x → Becomes (m / 67108864) a x
  after-high t = becomes-as t (omega (arith, c.zeros))

  pub low-room : {x : List ℕ} → Becomes (m / 67108864) a x → natural x * 67108864 + m % 67108864 < 2 ^ (32 * length x)
  low-room t = becomes-room (λ n. n * 67108864 + m % 67108864) scaled t (omega (arith, joined, whole_le)) room

  pub after-low : {x y : List ℕ} → Becomes (m / 67108864) a x → Becomes (natural x * 67108864 + m % 67108864) x y → Becomes m a y
  after-low t v = becomes-step (λ n. n * 67108864 + m % 67108864) t v joined

  pub shift-room : {x : List ℕ} → Becomes m a x → natural x * 2 ^ s < 2 ^ (32 * length x)
  shift-room t = becomes-room (λ n. n * 2 ^ s) scaled t shifted-le room

  pub after-shift : {x y : List ℕ} → Becomes m a x → Becomes (natural x * 2 ^ s) x y → Becomes (m * 2 ^ s) a y
  after-shift t v = becomes-step (λ n. n * 2 ^ s) t v refl

  pub power-room : {x : List ℕ} → Becomes (m * 2 ^ s) a x → natural x * 10 ^ u < 2 ^ (32 * length x)
  power-room t = becomes-room (λ n. n * 10 ^ u) scaled t (le_refl scaled) room
