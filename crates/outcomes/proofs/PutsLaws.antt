-- Elements written one by one, from one index up to another. Assumes nothing.
use Prim.Native.Nat.{ℕ, ◌+◌, ◌-◌, ◌≤◌, ◌<◌}
use native.Mathlib.Nat.{le_refl, le_antisymm}
use native.Mathlib.Omega.{arith}
use mathlib.Core.Path.{◌≡◌, refl, sym, ap, ap₂, ◌∙◌, subst}
use mathlib.Core.List.{List, ◌++◌}
use mathlib.Core.Bool.{Bool, true, false}
use lib.Dec.{eqb, ltb}
use lib.ListN.{length, drop, set, get_or, length-set, length-drop, length-append, get_or-append}
use lib.Seq.{ext_get_or, get_or-set_same, get_or-set_other, get_or-append-add, get_or-drop}
use borrow.Author.Tests.{ltb-true, ltb-false, eqb-true, eqb-false}
use Rattle.outcomes.specs.Puts.{Puts}

module _ {A : Type 0} {d : A} where
  pub puts_none : (f : ℕ → A) (p : List A) (from : ℕ) → Puts d f p p from from
  puts_none f p from = record { size = refl; inside = λ j h k. absurd (omega arith); below = λ j h. refl; above = λ j h. refl }

  pub puts-more : {f : ℕ → A} {a b : List A} {from j : ℕ} (v : A) → Puts d f a b from j → v ≡ f j → from ≤ j → j < length a
      → Puts d f a (set b j v) from (j + 1)
  puts-more {f} {a} {b} {from} {j} v w e h k = record {
    size = length-set b j v ∙ w.size;
    inside = λ i l m. go i l m (eqb i j) refl;
    below = λ i l. get_or-set_other b j i v d (λ q. absurd (omega (arith, q))) ∙ w.below i l;
    above = λ i l. get_or-set_other b j i v d (λ q. absurd (omega (arith, q))) ∙ w.above i (omega arith);
  }
    where
      go : (i : ℕ) → from ≤ i → i < j + 1 → (c : Bool) → eqb i j ≡ c → get_or (set b j v) i d ≡ f i
      go i l m true q =
          let same = eqb-true i j q in
          ap (λ (n : ℕ). get_or (set b j v) n d) same ∙ get_or-set_same b j v d (omega (arith, w.size)) ∙ e ∙ ap f (sym same)
      go i l m false q =
          let other = eqb-false i j q in
          get_or-set_other b j i v d other ∙ w.inside i l (omega (arith, other))

  pub puts-join : {f : ℕ → A} {a b c : List A} {from mid to : ℕ} → Puts d f a b from mid → Puts d f b c mid to → from ≤ mid → mid ≤ to
      → Puts d f a c from to
  puts-join {f} {a} {b} {c} {from} {mid} {to} v w h k = record {
    size = w.size ∙ v.size;
    inside = λ j l m. go j l m (ltb j mid) refl;
    below = λ j l. w.below j (omega arith) ∙ v.below j l;
    above = λ j l. w.above j l ∙ v.above j (omega arith);
  }
    where
      go : (j : ℕ) → from ≤ j → j < to → (t : Bool) → ltb j mid ≡ t → get_or c j d ≡ f j
      go j l m true q = w.below j (ltb-true j mid q) ∙ v.inside j l (ltb-true j mid q)
      go j l m false q = w.inside j (ltb-false j mid q) m

  -- what the elements are, said otherwise
  pub puts-as : {f g : ℕ → A} {a b : List A} {from to : ℕ} → ((j : ℕ) → from ≤ j → j < to → f j ≡ g j) → Puts d f a b from to
      → Puts d g a b from to
  puts-as e w = record { size = w.size; inside = λ j h k. w.inside j h k ∙ e j h k; below = w.below; above = w.above }

  -- the elements of a list, from the first on
  pub puts-list : {f : ℕ → A} (xs : List A) {a b : List A} {n : ℕ} → length xs ≡ n → ((j : ℕ) → j < n → get_or xs j d ≡ f j)
      → Puts d f a b 0 n → n ≤ length a → b ≡ xs ++ drop n a
  puts-list {f} xs {a} {b} {n} long each w h =
      ext_get_or d b (xs ++ drop n a)
      (let l : n + (length a - n) ≡ length a = omega arith in
      w.size ∙ sym (length-append xs (drop n a) ∙ ap₂ ◌+◌ long (length-drop n a) ∙ l))
      (λ i l. go i (ltb i n) refl)
    where
      go : (i : ℕ) (c : Bool) → ltb i n ≡ c → get_or b i d ≡ get_or (xs ++ drop n a) i d
      go i true q =
          let l = ltb-true i n q in
          w.inside i (omega arith) l
          ∙ sym (get_or-append xs (drop n a) d i (omega arith) ∙ each i l)
      go i false q =
          let l = ltb-false i n q in
          let e : length xs + (i - n) ≡ i = omega arith in
          let k : n + (i - n) ≡ i = omega arith in
          w.above i l
          ∙ sym (ap (λ (m : ℕ). get_or (xs ++ drop n a) m d) (sym e)
          ∙ get_or-append-add xs (drop n a) (i - n) d
          ∙ get_or-drop n a (i - n) d
          ∙ ap (λ (m : ℕ). get_or a m d) k)

-- ---- a loop that writes, from one index to another: what is so after each turn

pub record Turn {A : Type 0} (d : A) (f : ℕ → A) (first part : List A) (from to j : ℕ) : Type 0 where
  pub low : from ≤ j
  pub high : j ≤ to
  pub so_far : Puts d f first part from j

module _ {A : Type 0} {d : A} where
  pub turn-none : (f : ℕ → A) (p : List A) (from to : ℕ) → from ≤ to → Turn d f p p from to from
  turn-none f p from to h = record { low = le_refl from; high = h; so_far = puts_none f p from }

  pub turn_more : {f : ℕ → A} {first part : List A} {from to j : ℕ} (v : A) → Turn d f first part from to j → v ≡ f j → j < to → to ≤ length first
      → Turn d f first (set part j v) from to (j + 1)
  turn_more {j} v t e h k = record {
    low = omega (arith, t.low);
    high = omega arith;
    so_far = puts-more v t.so_far e t.low (omega arith);
  }

  pub turn-all : {f : ℕ → A} {first part : List A} {from to j : ℕ} → Turn d f first part from to j → to ≤ j → Puts d f first part from to
  turn-all {f} {first} {part} {from} t h = subst (λ (k : ℕ). Puts d f first part from k) (le_antisymm t.high h) t.so_far
