-- What is known of the bytes of a form that has been read: its tag, and what follows. Assumes nothing.
use Prim.Native.Nat.{ℕ, zero, suc, ◌+◌, ◌-◌, ◌≤◌, ◌<◌}
use native.Mathlib.Omega.{arith}
use mathlib.Core.Path.{◌≡◌, refl, sym, ap, ◌∙◌}
use mathlib.Core.Bool.{Bool, true, false}
use mathlib.Core.List.{List, []}
use lib.Dec.{ltb}
use lib.IntN.{ℤ}
use lib.ListN.{length, drop, get_or, drop_of_length-le}
use borrow.Author.Tests.{ltb-true, ltb-false}
use Rattle.fxtable.specs.Calls.{is_count}
use Rattle.rules.specs.Tree.{Form, Forms, constant, input, call}
use Rattle.rules.specs.Leb128.{Reading, got, offends, decode}
use Rattle.rules.specs.Limits.{is_tag, is_input, is_stored_code}
use Rattle.rules.specs.Parse.{Head, leaf, opens, and_then, item, read_number, read_constant, after_tag, read_head, after_head, read_forms, read_form}
use Rattle.rules.proofs.Leb128Laws.{offends-got}
use Rattle.rules.proofs.EncodeParse.{parts}
use Rattle.rulereader.specs.Placed.{At, Offends, Small, cut_off}
use Rattle.rulereader.proofs.CutLaws.{ends-early, offends-here, passes, fails}
use Rattle.rulereader.proofs.HeadLaws.{small-tag, small-input, small-code, small_count}

-- nothing is read past the end
past_end : (test : ℕ → Bool) (s : List ℕ) (i : ℕ) → length s ≤ i → read_number test (drop i s) ≡ offends 0
unfolding item decode and_then
past_end test s i l = let empty : drop i s ≡ [] = drop_of_length-le s {i = i} l in rw empty refl

-- a number that was read is one byte
pub record Byte (test : ℕ → Bool) (s : List ℕ) (i v : ℕ) (rest : List ℕ) : Type 0 where
  pub inside : i < length s
  pub is : get_or s i 0 ≡ v
  pub passed : test v ≡ true
  pub after : rest ≡ drop (i + 1) s

module _ (test : ℕ → Bool) (small : Small test) (s : List ℕ) (i : ℕ) (v : ℕ) (rest : List ℕ) (e : read_number test (drop i s) ≡ got v rest) where
  pub is_byte : Byte test s i v rest
  is_byte = go (ltb i (length s)) refl
    where
      b : ℕ
      b = get_or s i 0

      one : i < length s → b < 128 → (t : Bool) → test b ≡ t → Byte test s i v rest
      one h l true q =
          let a : At s (read_number test (drop i s)) b (i + 1) = passes s i b (record { inside = h; group = refl; last = l }) test q in
          let same : got b (drop (i + 1) s) ≡ got v rest = sym a.value ∙ e in
          let v' : b ≡ v = cc in
          record { inside = h; is = v'; passed = rw (← v') q; after = cc }
      one h l false q =
          let a : Offends s (read_number test (drop i s)) i = fails s i b (record { inside = h; group = refl; last = l }) test q in
          offends-got (sym a.left ∙ e)

      several : i < length s → 128 ≤ b → (t : Bool) → t ≡ cut_off 8 (drop (i + 1) s) → Byte test s i v rest
      several h l true q = let a : Offends s (read_number test (drop i s)) (length s) = ends-early s i h l test small q in offends-got (sym a.left ∙ e)
      several h l false q = let a : Offends s (read_number test (drop i s)) i = offends-here s i h l test small q in offends-got (sym a.left ∙ e)

      byte : i < length s → (t : Bool) → ltb b 128 ≡ t → Byte test s i v rest
      byte h true q = one h (ltb-true b 128 q) (test b) refl
      byte h false q = several h (ltb-false b 128 q) (cut_off 8 (drop (i + 1) s)) refl

      go : (t : Bool) → ltb i (length s) ≡ t → Byte test s i v rest
      go true q = byte (ltb-true i (length s) q) (ltb b 128) refl
      go false q = offends-got (sym (past_end test s i (ltb-false i (length s) q)) ∙ e)

-- ---- a form

pub record ConstantAt (s : List ℕ) (i : ℕ) (f : Form) (rest : List ℕ) : Type 0 where
  pub value : ℤ
  pub is : f ≡ constant value
  pub reads : read_constant (drop (i + 1) s) ≡ got value rest

pub record InputAt (s : List ℕ) (i : ℕ) (f : Form) (rest : List ℕ) : Type 0 where
  pub is : f ≡ input (get_or s (i + 1) 0)
  pub small : get_or s (i + 1) 0 < 16
  pub inside : i + 1 < length s
  pub after : rest ≡ drop (i + 2) s

pub record CallAt (d : ℕ) (s : List ℕ) (i : ℕ) (f : Form) (rest : List ℕ) : Type 0 where
  pub args : Forms
  pub is : f ≡ call (get_or s (i + 1) 0) args
  pub stored : is_stored_code (get_or s (i + 1) 0) ≡ true
  pub counts : is_count (get_or s (i + 1) 0) (get_or s (i + 2) 0) ≡ true
  pub inside : i + 2 < length s
  pub reads : read_forms (read_form (d - 1)) (get_or s (i + 2) 0) (drop (i + 3) s) ≡ got args rest

-- a form by its tag
ByTag : ℕ → List ℕ → ℕ → ℕ → Form → List ℕ → Type 0
ByTag d s i zero f rest = ConstantAt s i f rest
ByTag d s i (suc zero) f rest = InputAt s i f rest
ByTag d s i (suc (suc t)) f rest = CallAt d s i f rest

pub record FormAt (d : ℕ) (s : List ℕ) (i : ℕ) (f : Form) (rest : List ℕ) : Type 0 where
  pub deep : d ≡ 0 → ⊥
  pub inside : i < length s
  by-tag : ByTag d s i (get_or s i 0) f rest

module _ (d : ℕ) (s : List ℕ) (i : ℕ) (f : Form) (rest : List ℕ) where
  abbrev next : Head → List ℕ → Reading Form
  next head m = after_head (read_form (d - 1)) head m

  a-constant : (head : Head) (m : List ℕ) → after_tag 0 (drop (i + 1) s) ≡ got head m → next head m ≡ got f rest → ConstantAt s i f rest
  unfolding after_tag after_head
  a-constant head m p q =
      parts (read_constant (drop (i + 1) s)) (λ z rest. got (leaf (constant z)) rest) head m p (λ z m' a b.
      let head' : head ≡ leaf (constant z) = cc in
      let m'' : m' ≡ m = cc in
      let g : next (leaf (constant z)) m ≡ got f rest = rw head' at q in
      let f' : f ≡ constant z = cc in
      let r' : m ≡ rest = cc in
      record { value = z; is = f'; reads = a ∙ ap (got z) (m'' ∙ r') })

  a-input : (head : Head) (m : List ℕ) → after_tag 1 (drop (i + 1) s) ≡ got head m → next head m ≡ got f rest → InputAt s i f rest
  unfolding after_tag after_head is_input
  a-input head m p q =
      parts (read_number is_input (drop (i + 1) s)) (λ j rest. got (leaf (input j)) rest) head m p (λ j m' a b.
      let y = is_byte is_input small-input s (i + 1) j m' a in
      let head' : head ≡ leaf (input j) = cc in
      let m'' : m' ≡ m = cc in
      let g : next (leaf (input j)) m ≡ got f rest = rw head' at q in
      let f' : f ≡ input j = cc in
      let r' : m ≡ rest = cc in
      let j' : get_or s (i + 1) 0 ≡ j = y.is in
      let two : i + 1 + 1 ≡ i + 2 = omega arith in
      record { is = rw j' f'; small = rw j' (ltb-true j 16 y.passed); inside = y.inside; after = sym (m'' ∙ r') ∙ y.after ∙ ap (λ (k : ℕ). drop k s) two })

  a_call : (t : ℕ) (head : Head) (m : List ℕ) → after_tag (suc (suc t)) (drop (i + 1) s) ≡ got head m → next head m ≡ got f rest → CallAt d s i f rest
  unfolding after_tag after_head
  a_call t head m p q =
      parts (read_number is_stored_code (drop (i + 1) s)) (λ code s₁. and_then (read_number (is_count code) s₁) (λ n rest. got (opens code n) rest)) head m p (λ code m₁ a b.
      let y = is_byte is_stored_code small-code s (i + 1) code m₁ a in
      let two : i + 1 + 1 ≡ i + 2 = omega arith in
      let m₁' : m₁ ≡ drop (i + 2) s = y.after ∙ ap (λ (k : ℕ). drop k s) two in
      parts (read_number (is_count code) m₁) (λ n rest. got (opens code n) rest) head m b (λ n m₂ a₂ b₂.
      let a₃ : read_number (is_count code) (drop (i + 2) s) ≡ got n m₂ = rw m₁' at a₂ in
      let z = is_byte (is_count code) (small_count code) s (i + 2) n m₂ a₃ in
      let three : i + 2 + 1 ≡ i + 3 = omega arith in
      let head' : head ≡ opens code n = cc in
      let m₂' : m₂ ≡ m = cc in
      let m₃ : m ≡ drop (i + 3) s = sym m₂' ∙ z.after ∙ ap (λ (k : ℕ). drop k s) three in
      let g : next (opens code n) m ≡ got f rest = rw head' at q in
      parts (read_forms (read_form (d - 1)) n m) (λ args rest. got (call code args) rest) f rest g (λ args r c₁ c₂.
      let r' : r ≡ rest = cc in
      let f' : f ≡ call code args = cc in
      record {
        args = args;
        is = rw y.is f';
        stored = rw y.is y.passed;
        counts = rw (y.is, z.is) z.passed;
        inside = z.inside;
        reads = rw (z.is, ← m₃, ← r') c₁;
      })))

  by_tags : (t : ℕ) (head : Head) (m : List ℕ) → after_tag t (drop (i + 1) s) ≡ got head m → next head m ≡ got f rest → ByTag d s i t f rest
  unfolding ByTag
  by_tags zero head m p q = a-constant head m p q
  by_tags (suc zero) head m p q = a-input head m p q
  by_tags (suc (suc t)) head m p q = a_call t head m p q

pub form-at : (d : ℕ) (s : List ℕ) (i : ℕ) (f : Form) (rest : List ℕ) → read_form d (drop i s) ≡ got f rest → FormAt d s i f rest
unfolding read_form read_head
form-at zero s i f rest e = offends-got e
form-at (suc d) s i f rest e =
    parts (read_head (drop i s)) (λ head m. after_head (read_form d) head m) f rest e (λ head m p q. tag head m p q)
  where
    same : suc d - 1 ≡ d
    same = omega arith

    tag : (head : Head) (m : List ℕ) → read_head (drop i s) ≡ got head m → after_head (read_form d) head m ≡ got f rest → FormAt (suc d) s i f rest
    tag head m p q =
        parts (read_number is_tag (drop i s)) (λ t s₁. after_tag t s₁) head m p (λ t s₁ a b.
        let y = is_byte is_tag small-tag s i t s₁ a in
        let b' : after_tag t (drop (i + 1) s) ≡ got head m = rw y.after at b in
        record {
          deep = λ z. absurd (omega arith);
          inside = y.inside;
          by-tag = rw y.is (by_tags (suc d) s i f rest t head m b' (rw same q));
        })

module _ {d : ℕ} {s : List ℕ} {i : ℕ} {f : Form} {rest : List ℕ} (a : FormAt d s i f rest) where
  pub constant-at : get_or s i 0 ≡ 0 → ConstantAt s i f rest
  unfolding ByTag
  constant-at e = rw e at a.by-tag

  pub input-at : get_or s i 0 ≡ 1 → InputAt s i f rest
  unfolding ByTag
  input-at e = rw e at a.by-tag

  pub call_at : (get_or s i 0 ≡ 0 → ⊥) → (get_or s i 0 ≡ 1 → ⊥) → CallAt d s i f rest
  unfolding ByTag
  call_at n₀ n₁ = go (get_or s i 0) n₀ n₁ a.by-tag
    where
      go : (t : ℕ) → (t ≡ 0 → ⊥) → (t ≡ 1 → ⊥) → ByTag d s i t f rest → CallAt d s i f rest
      go zero n₀ n₁ b = absurd (n₀ refl)
      go (suc zero) n₀ n₁ b = absurd (n₁ refl)
      go (suc (suc t)) n₀ n₁ b = b
