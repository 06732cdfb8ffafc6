-- What users rely on of the fold's calls: however the bytes are cut, and whatever the pieces.
--   concatenated bss                 ==  the bytes of all chunks, one after the other
--   after_chunks f bss                ==  the record after a call for each chunk
--   xor_bytes xs ys                   ==  the bytewise xor of two strings
--   FoldStatement w start end count  ==  what holds of the identifiers under these settings
use Rattle.std.specs.Prelude.{ℕ, ◌≤◌, ◌<◌, ◌≡◌, true, List, [], ◌∷◌, ◌++◌, ℤ, pos, length}
use Rattle.std.specs.Int.Bits.{bit_xor}
use Rattle.outcomes.specs.Outcome.{done}
use Rattle.fxtable.specs.Domains.{is_width}
use Rattle.fxtable.specs.Calls.{answer, answer_of}
use Rattle.fold.specs.declared.Fold.{Fold}
use Rattle.fold.specs.Fold.{AllBytes, settings}
use Rattle.fold.specs.Calls.{folding, identifier, joining}

unfoldable pub concatenated : List (List ℕ) → List ℕ
concatenated [] = []
concatenated (bs ∷ bss) = bs ++ concatenated bss

unfoldable pub after_chunks : Fold → List (List ℕ) → Fold
after_chunks f [] = f
after_chunks f (bs ∷ bss) = after_chunks (folding f bs).fold bss

unfoldable pub xor_bytes : List ℕ → List ℕ → List ℕ
xor_bytes [] ys = []
xor_bytes (x ∷ xs) [] = []
xor_bytes (x ∷ xs) (y ∷ ys) = bit_xor x y ∷ xor_bytes xs ys

pub record FoldStatement (w : ℕ) (start end count : ℤ) : Type 0 where
  -- any cutting of the same bytes, empty chunks too, leaves the record of one uncut run
  pub cutting : (a : ℤ) (bss : List (List ℕ)) → AllBytes (concatenated bss)
      → after_chunks (settings w start end count a) bss ≡ (folding (settings w start end count a) (concatenated bss)).fold
  -- and a record that takes a chunk takes every one, before and after
  pub stays : (a : ℤ) (bss : List (List ℕ)) → AllBytes (concatenated bss) → (bs : List ℕ)
      → (folding (after_chunks (settings w start end count a) bss) bs).refusal ≡ (folding (settings w start end count a) []).refusal
  -- from 0, the identifier of the xor of two strings of one length is the xor of their identifiers
  pub linear : (xs ys : List ℕ) → AllBytes xs → AllBytes ys → length xs ≡ length ys → (i j : ℤ)
      → identifier w start end count (pos 0) xs ≡ done i → identifier w start end count (pos 0) ys ≡ done j
      → (k : ℤ) × (answer_of w 28 (i ∷ j ∷ []) ≡ answer (done (k, pos 0))) × (identifier w start end count (pos 0) (xor_bytes xs ys) ≡ done k)
  -- two accumulators that differ still differ after the same bytes
  pub accumulators-differ : (a b : ℤ) → (a ≡ b → ⊥) → (bs : List ℕ) → AllBytes bs → (i j : ℤ)
      → identifier w start end count a bs ≡ done i → identifier w start end count b bs ≡ done j → i ≡ j → ⊥
  -- two strings that differ in one byte never share an identifier
  pub one-byte-differs : (a : ℤ) (xs : List ℕ) (x y : ℕ) (ys : List ℕ) → AllBytes xs → x < 256 → y < 256 → AllBytes ys → (x ≡ y → ⊥) → (i j : ℤ)
      → identifier w start end count a (xs ++ (x ∷ ys)) ≡ done i → identifier w start end count a (xs ++ (y ∷ ys)) ≡ done j → i ≡ j → ⊥
  -- a piece folded by itself from 0 is joined as if its bytes had come
  pub joins : (a : ℤ) (xs ys : List ℕ) → AllBytes xs → AllBytes ys → (j : ℤ) → identifier w start end count (pos 0) ys ≡ done j
      → let f = (folding (settings w start end count a) xs).fold in joining f j (length ys) ≡ folding f ys
  -- a wider fixnum gives the same identifier
  pub wider : (v : ℕ) → w ≤ v → is_width v ≡ true → (a : ℤ) (bs : List ℕ) → AllBytes bs → (i : ℤ)
      → identifier w start end count a bs ≡ done i → identifier v start end count a bs ≡ done i
