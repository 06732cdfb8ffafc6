-- Where a number of several groups offends, and that a number below 128 is its one group. Assumes nothing.
use Prim.Native.Nat.{ℕ, zero, suc, ◌+◌, ◌-◌, ◌*◌, ◌≤◌, ◌<◌}
use native.Mathlib.Omega.{arith}
use native.Mathlib.Numerals.{add-one}
use mathlib.Core.Path.{◌≡◌, refl, sym, ap, ◌∙◌}
use mathlib.Core.Bool.{Bool, true, false, cond, ◌&&◌, true≢false}
use mathlib.Core.List.{List, [], ◌∷◌}
use lib.Dec.{ltb, leb}
use lib.ListN.{length, drop, get_or, length-drop}
use lib.Seq.{drop-cons, drop-length}
use borrow.Author.Tests.{lt-ltb, le-ltb, ltb-true, ltb-false, lt-leb, le-leb}
use Rattle.std.specs.List.{list_all}
use Rattle.rules.specs.Leb128.{Reading, got, offends, Groups, unsigned, decode, continued, shortest}
use Rattle.rules.specs.Parse.{and_then, item, read_number}
use Rattle.rulereader.specs.Placed.{At, Offends, cut_off, OneGroup, Small}

-- the bytes from a position on
pub cons : (s : List ℕ) (i : ℕ) → i < length s → drop i s ≡ get_or s i 0 ∷ drop (i + 1) s
cons s i h = rw (add-one, drop-cons s i 0)

pub before : {k : ℕ} → (k ≡ 0 → ⊥) → k ≡ suc (k - 1)
before {k} h = omega arith

-- ---- whether a number is cut off

and-false : (t : Bool) → (t && false) ≡ false
and-false true = refl
and-false false = refl

-- bytes that are all continued, and fewer than k
pub cut_off_all : (k : ℕ) (s : List ℕ) → cut_off k s ≡ (ltb (length s) k && list_all (λ b. leb 128 b) s)
unfolding cut_off
cut_off_all zero s = rw (le-ltb (length s) 0 (omega arith)) refl
cut_off_all (suc k) [] = rw (lt-ltb 0 (suc k) (omega arith)) refl
cut_off_all (suc k) (b ∷ s) = go (ltb b 128) refl (cut_off_all k s)
  where
    same : ltb (suc (length s)) (suc k) ≡ ltb (length s) k
    same = grind arith

    go : (t : Bool) → ltb b 128 ≡ t → cut_off k s ≡ (ltb (length s) k && list_all (λ b. leb 128 b) s)
        → cond t false (cut_off k s) ≡ (ltb (suc (length s)) (suc k) && (leb 128 b && list_all (λ b. leb 128 b) s))
    go true e h = rw (lt-leb 128 b (ltb-true b 128 e)) (sym (and-false (ltb (suc (length s)) (suc k))))
    go false e h = rw (le-leb 128 b (ltb-false b 128 e), same) h

-- ---- what decoding makes of it

module _ {A : Type 0} (G : Groups A) (left : ℕ) where
  pub is_cut : (k : ℕ) (s : List ℕ) → cut_off k s ≡ true → decode G left k s ≡ offends 0
  unfolding cut_off decode continued
  is_cut zero s e = absurd (true≢false (sym e))
  is_cut (suc k) [] e = refl
  is_cut (suc k) (b ∷ s) e = go (ltb b 128) e (is_cut k s)
    where
      go : (t : Bool) → cond t false (cut_off k s) ≡ true → (cut_off k s ≡ true → decode G left k s ≡ offends 0)
          → cond t (got (G.of_last b) s) (continued G left (b - 128) (decode G left k s)) ≡ offends 0
      go true e ih = absurd (true≢false (sym e))
      go false e ih = rw (ih e) refl

  -- what is not cut off has a number, or offends where it begins
  pub not-cut : (P : Reading A → Type 0) → P (offends left) → ((v : A) (rest : List ℕ) → P (got v rest)) → (k : ℕ) (s : List ℕ) → cut_off k s ≡ false → P (decode G left k s)
  unfolding cut_off decode continued shortest
  not-cut P o g zero s e = o
  not-cut P o g (suc k) [] e = absurd (true≢false e)
  not-cut P o g (suc k) (b ∷ s) e = go (ltb b 128) e (λ Q p q c. not-cut Q p q k s c)
    where
      whole : (v : A) (rest : List ℕ) (t : Bool) → P (cond t (offends left) (got v rest))
      whole v rest true = o
      whole v rest false = g v rest

      go : (t : Bool) → cond t false (cut_off k s) ≡ false
          → ((Q : Reading A → Type 0) → Q (offends left) → ((v : A) (rest : List ℕ) → Q (got v rest)) → cut_off k s ≡ false → Q (decode G left k s))
          → P (cond t (got (G.of_last b) s) (continued G left (b - 128) (decode G left k s)))
      go true e ih = g (G.of_last b) s
      go false e ih =
          ih (λ r. P (continued G left (b - 128) r)) o (λ v rest. whole (G.join (b - 128) v) rest (G.is_last (G.join (b - 128) v))) e

-- ---- numbers that pass a test that none from 128 on does

module _ (test : ℕ → Bool) where
  abbrev asked : ℕ → ℕ → List ℕ → Reading ℕ
  asked left v rest = cond (test v) (got v rest) (offends left)

  one-group : (b : ℕ) (t : List ℕ) → b < 128 → read_number test (b ∷ t) ≡ asked (length (b ∷ t)) b t
  unfolding item and_then decode unsigned
  one-group b t l = rw (lt-ltb b 128 l) refl

  several : (b : ℕ) (t : List ℕ) → 128 ≤ b → read_number test (b ∷ t) ≡ and_then (continued unsigned (length (b ∷ t)) (b - 128) (decode unsigned (length (b ∷ t)) 8 t)) (asked (length (b ∷ t)))
  unfolding item decode
  several b t l = rw (le-ltb b 128 l) refl

  module _ (small : Small test) where
    -- a number of several groups is too large, or not the shortest
    too_large : (left g v : ℕ) (rest : List ℕ) → and_then (continued unsigned left g (got v rest)) (asked left) ≡ offends left
    unfolding continued shortest unsigned and_then
    too_large left g v rest = go (ltb (v * 128 + g) 128) refl
      where
        go : (t : Bool) → ltb (v * 128 + g) 128 ≡ t → and_then (cond t (offends left) (got (v * 128 + g) rest)) (asked left) ≡ offends left
        go true e = refl
        go false e = rw (small (v * 128 + g) (ltb-false (v * 128 + g) 128 e)) refl

    pub cut-number : (b : ℕ) (t : List ℕ) → 128 ≤ b → cut_off 8 t ≡ true → read_number test (b ∷ t) ≡ offends 0
    unfolding continued and_then
    cut-number b t l c = rw (several b t l, is_cut unsigned (length (b ∷ t)) 8 t c) refl

    pub long-number : (b : ℕ) (t : List ℕ) → 128 ≤ b → cut_off 8 t ≡ false → read_number test (b ∷ t) ≡ offends (length (b ∷ t))
    unfolding continued and_then
    long-number b t l c =
        several b t l ∙ not-cut unsigned (length (b ∷ t))
        (λ r. and_then (continued unsigned (length (b ∷ t)) (b - 128) r) (asked (length (b ∷ t))) ≡ offends (length (b ∷ t)))
        refl (λ v rest. too_large (length (b ∷ t)) (b - 128) v rest) 8 t c

-- ---- in positions

module _ (s : List ℕ) (i : ℕ) where
  pub nothing_left : i ≡ length s → (test : ℕ → Bool) → Offends s (read_number test (drop i s)) i
  unfolding item and_then decode
  nothing_left e test = record { left = rw (e, drop-length s) (ap offends (omega arith)); inside = omega arith }

  module _ (h : i < length s) (l : 128 ≤ get_or s i 0) (test : ℕ → Bool) (small : Small test) where
    pub ends-early : true ≡ cut_off 8 (drop (i + 1) s) → Offends s (read_number test (drop i s)) (length s)
    ends-early c = record { left = rw (cons s i h, cut-number test small (get_or s i 0) (drop (i + 1) s) l (sym c)) (ap offends (omega arith)); inside = omega arith }

    pub offends-here : false ≡ cut_off 8 (drop (i + 1) s) → Offends s (read_number test (drop i s)) i
    offends-here c = record {
      left = ap (read_number test) (cons s i h) ∙ long-number test small (get_or s i 0) (drop (i + 1) s) l (sym c) ∙ ap (λ (t : List ℕ). offends (length t)) (sym (cons s i h)) ∙ ap offends (length-drop i s);
      inside = omega arith;
    }

  module _ (v : ℕ) (o : OneGroup s i v) (test : ℕ → Bool) where
    by-group : read_number test (drop i s) ≡ cond (test v) (got v (drop (i + 1) s)) (offends (length (drop i s)))
    by-group =
        let h : i < length s = o.inside in
        rw (cons s i h) (rw o.group (one-group test v (drop (i + 1) s) o.last))

    pub passes : test v ≡ true → At s (read_number test (drop i s)) v (i + 1)
    passes e = let h : i < length s = o.inside in record { value = by-group ∙ rw e refl; inside = omega arith }

    pub fails : test v ≡ false → Offends s (read_number test (drop i s)) i
    fails e = let h : i < length s = o.inside in record { left = by-group ∙ rw e (ap offends (length-drop i s)); inside = omega arith }
