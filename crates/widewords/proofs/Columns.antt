-- The product of two words by halves of 32 bits: no column exceeds a word, and the columns add up to the product. Assumes nothing.
use Rattle.std.proofs.Common.{◌≡◌, ℕ, ◌+◌, ◌*◌, ◌/◌, ◌%◌, ◌^◌, ◌<◌, ◌≤◌, ◌∙◌, mul-le-mul, arith}

-- a product of two halves is at most (2^32 - 1)^2
halves : (x y : ℕ) → x < 2 ^ 32 → y < 2 ^ 32 → x * y ≤ 18446744065119617025
halves x y h k = mul-le-mul {n₂ = 4294967295} {m₂ = 4294967295} (omega arith) (omega arith)

pub record Halves (a b : ℕ) : Type 0 where
  pub low-low : a % 2 ^ 32 * (b % 2 ^ 32) ≤ 18446744065119617025
  pub high-low : a / 2 ^ 32 * (b % 2 ^ 32) ≤ 18446744065119617025
  pub low-high : a % 2 ^ 32 * (b / 2 ^ 32) ≤ 18446744065119617025
  pub high-high : a / 2 ^ 32 * (b / 2 ^ 32) ≤ 18446744065119617025

pub word-halves : (a b : ℕ) → a < 2 ^ 64 → b < 2 ^ 64 → Halves a b
word-halves a b h k =
    record {
      low-low = halves (a % 2 ^ 32) (b % 2 ^ 32) (omega arith) (omega arith);
      high-low = halves (a / 2 ^ 32) (b % 2 ^ 32) (omega arith) (omega arith);
      low-high = halves (a % 2 ^ 32) (b / 2 ^ 32) (omega arith) (omega arith);
      high-high = halves (a / 2 ^ 32) (b / 2 ^ 32) (omega arith) (omega arith);
    }

-- the columns are those of the four products of halves
columns : (low-low low-high high-low high-high : ℕ)
    → (high-high + (high-low + low-low / 2 ^ 32) / 2 ^ 32 + (low-high + (high-low + low-low / 2 ^ 32) % 2 ^ 32) / 2 ^ 32) * 2 ^ 64
    + ((low-high + (high-low + low-low / 2 ^ 32) % 2 ^ 32) % 2 ^ 32 * 2 ^ 32 + low-low % 2 ^ 32)
    ≡ high-high * 2 ^ 64 + (high-low + low-high) * 2 ^ 32 + low-low
columns low-low low-high high-low high-high = omega arith

expand : (a₀ a₁ b₀ b₁ : ℕ) → a₁ * b₁ * 2 ^ 64 + (a₁ * b₀ + a₀ * b₁) * 2 ^ 32 + a₀ * b₀ ≡ (a₁ * 2 ^ 32 + a₀) * (b₁ * 2 ^ 32 + b₀)
expand a₀ a₁ b₀ b₁ = omega arith

pub columns-product : (a b : ℕ)
    → (a / 2 ^ 32 * (b / 2 ^ 32) + (a / 2 ^ 32 * (b % 2 ^ 32) + a % 2 ^ 32 * (b % 2 ^ 32) / 2 ^ 32) / 2 ^ 32 + (a % 2 ^ 32 * (b / 2 ^ 32) + (a / 2 ^ 32 * (b % 2 ^ 32) + a % 2 ^ 32 * (b % 2 ^ 32) / 2 ^ 32) % 2 ^ 32) / 2 ^ 32) * 2 ^ 64
    + ((a % 2 ^ 32 * (b / 2 ^ 32) + (a / 2 ^ 32 * (b % 2 ^ 32) + a % 2 ^ 32 * (b % 2 ^ 32) / 2 ^ 32) % 2 ^ 32) % 2 ^ 32 * 2 ^ 32 + a % 2 ^ 32 * (b % 2 ^ 32) % 2 ^ 32)
    ≡ a * b
columns-product a b =
    let p : a / 2 ^ 32 * 2 ^ 32 + a % 2 ^ 32 ≡ a = omega arith in
    let q : b / 2 ^ 32 * 2 ^ 32 + b % 2 ^ 32 ≡ b = omega arith in
    columns (a % 2 ^ 32 * (b % 2 ^ 32)) (a % 2 ^ 32 * (b / 2 ^ 32)) (a / 2 ^ 32 * (b % 2 ^ 32)) (a / 2 ^ 32 * (b / 2 ^ 32))
    ∙ expand (a % 2 ^ 32) (a / 2 ^ 32) (b % 2 ^ 32) (b / 2 ^ 32)
    ∙ cc
