-- Numbers in groups: what is written is read back, and nothing but the shortest groups is read. Once for both kinds. Assumes nothing.
use Prim.Native.Nat.{ℕ, zero, suc, ◌+◌, ◌-◌, ◌*◌, ◌/◌, ◌%◌, ◌^◌, ◌<◌, ◌≤◌}
use native.Mathlib.Nat.{lt_of_lt_of_le, pow-suc}
use native.Mathlib.Omega.{arith}
use mathlib.Core.Path.{◌≡◌, refl, ap}
use mathlib.Core.Bool.{Bool, true, false, cond, ◌||◌}
use mathlib.Core.List.{List, [], ◌∷◌, ◌++◌}
use lib.Dec.{ltb, lit≤}
use lib.IntN.{ℤ, pos, negsuc}
use lib.Signed.{mag}
use borrow.Author.Tests.{lt-ltb, le-ltb, ltb-true, ltb-false}
use Rattle.bits.specs.Testbit.{fits}
use Rattle.rules.specs.Leb128.{Reading, got, offends, Groups, unsigned, signed, encode, decode, in_groups, shortest, continued, low_z, high_z, join_z, of_last_z, is_last_z}
use Rattle.rules.specs.Limits.{number_groups, constant_groups, is_constant}
use Rattle.rules.specs.Bytes.{number, AllBytes}

-- what the laws below need of a kind of groups
pub record Lawful {A : Type 0} (G : Groups A) : Type 0 where
  pub low_small : (v : A) → G.low v < 128
  pub low-join : (g : ℕ) (v : A) → g < 128 → G.low (G.join g v) ≡ g
  pub high-join : (g : ℕ) (v : A) → g < 128 → G.high (G.join g v) ≡ v
  pub join-parts : (v : A) → G.join (G.low v) (G.high v) ≡ v
  pub last-low : (v : A) → G.is_last v ≡ true → G.of_last (G.low v) ≡ v
  pub low-last : (g : ℕ) → g < 128 → G.low (G.of_last g) ≡ g
  pub last-last : (g : ℕ) → g < 128 → G.is_last (G.of_last g) ≡ true

-- a reading that offends has got nothing
pub offends-got : {A P : Type 0} {left : ℕ} {v : A} {rest : List ℕ} → offends left ≡ got v rest → P
offends-got {A} e = let z : ◌≡◌ {A = ℕ} 0 1 = ap (λ (r : Reading A). elim r [ got u s ↦ 1 | offends l ↦ 0 ]) e in absurd (omega arith)

-- ---- the two kinds

pub unsigned-lawful : Lawful unsigned
unfolding unsigned
unsigned-lawful = record {
  low_small = λ v. omega arith;
  low-join = λ g v h. omega arith;
  high-join = λ g v h. omega arith;
  join-parts = λ v. omega arith;
  last-low = λ v h. omega (arith, ltb-true v 128 h);
  low-last = λ g h. omega arith;
  last-last = λ g h. lt-ltb g 128 h;
}

low-small_z : (v : ℤ) → low_z v < 128
unfolding low_z
low-small_z (pos n) = omega arith
low-small_z (negsuc n) = omega arith

low-join_z : (g : ℕ) (v : ℤ) → g < 128 → low_z (join_z g v) ≡ g
unfolding low_z join_z
low-join_z g (pos n) h = omega arith
low-join_z g (negsuc n) h = omega arith

high-join_z : (g : ℕ) (v : ℤ) → g < 128 → high_z (join_z g v) ≡ v
unfolding high_z join_z
high-join_z g (pos n) h = ap pos (omega arith)
high-join_z g (negsuc n) h = ap negsuc (omega arith)

join-parts_z : (v : ℤ) → join_z (low_z v) (high_z v) ≡ v
unfolding low_z high_z join_z
join-parts_z (pos n) = ap pos (omega arith)
join-parts_z (negsuc n) = ap negsuc (omega arith)

last-low_z : (v : ℤ) → is_last_z v ≡ true → of_last_z (low_z v) ≡ v
unfolding low_z is_last_z of_last_z
last-low_z (pos n) h = let l : n < 64 = ltb-true n 64 h in rw (lt-ltb (n % 128) 64 (omega arith)) (ap pos (omega arith))
last-low_z (negsuc n) h = let l : n < 64 = ltb-true n 64 h in rw (le-ltb (127 - n % 128) 64 (omega arith)) (ap negsuc (omega arith))

low-last_z : (g : ℕ) → g < 128 → low_z (of_last_z g) ≡ g
unfolding low_z of_last_z
low-last_z g h = go (ltb g 64) refl
  where
    go : (t : Bool) → ltb g 64 ≡ t → low_z (cond t (pos g) (negsuc (127 - g))) ≡ g
    go true e = omega arith
    go false e = omega arith

last-last_z : (g : ℕ) → g < 128 → is_last_z (of_last_z g) ≡ true
unfolding is_last_z of_last_z
last-last_z g h = go (ltb g 64) refl
  where
    go : (t : Bool) → ltb g 64 ≡ t → is_last_z (cond t (pos g) (negsuc (127 - g))) ≡ true
    go true e = e
    go false e = let l : 64 ≤ g = ltb-false g 64 e in lt-ltb (127 - g) 64 (omega arith)

pub signed-lawful : Lawful signed
unfolding signed
signed-lawful = record {
  low_small = low-small_z;
  low-join = low-join_z;
  high-join = high-join_z;
  join-parts = join-parts_z;
  last-low = last-low_z;
  low-last = low-last_z;
  last-last = last-last_z;
}

-- ---- reading and writing

module _ {A : Type 0} (G : Groups A) where
  -- the bytes s are the shortest groups of v, at most k, and then `rest`
  pub record Written (k : ℕ) (s : List ℕ) (v : A) (rest : List ℕ) : Type 0 where
    pub same : s ≡ encode G k v ++ rest
    pub inside : in_groups G k v ≡ true

module _ {A : Type 0} (G : Groups A) (L : Lawful G) where
  shortest-more : (left : ℕ) (v : A) (rest : List ℕ) → G.is_last v ≡ false → shortest G left v rest ≡ got v rest
  unfolding shortest
  shortest-more left v rest e = rw e refl

  -- what is written is read back
  pub decode-encode : (left k : ℕ) (v : A) (rest : List ℕ) → in_groups G k v ≡ true → decode G left k (encode G k v ++ rest) ≡ got v rest
  unfolding in_groups decode encode continued
  decode-encode left zero v rest h = let z : ◌≡◌ {A = ℕ} 0 1 = cc in absurd (omega arith)
  decode-encode left (suc k) v rest h = go (G.is_last v) refl h (decode-encode left k (G.high v) rest)
    where
      b : ℕ
      b = G.low v + 128

      go : (t : Bool) → G.is_last v ≡ t → (t || in_groups G k (G.high v)) ≡ true
          → (in_groups G k (G.high v) ≡ true → decode G left k (encode G k (G.high v) ++ rest) ≡ got (G.high v) rest)
          → decode G left (suc k) (cond t (G.low v ∷ []) (b ∷ encode G k (G.high v)) ++ rest) ≡ got v rest
      go true e i ih = rw (lt-ltb (G.low v) 128 (L.low_small v), L.last-low v e) refl
      go false e i ih =
          let back : b - 128 ≡ G.low v = omega arith in
          rw (le-ltb b 128 (omega arith), ih i, back, L.join-parts v) (shortest-more left v rest e)

  written_last : (k b : ℕ) (s : List ℕ) → b < 128 → Written G (suc k) (b ∷ s) (G.of_last b) s
  unfolding encode in_groups
  written_last k b s h = record { same = rw (L.last-last b h, L.low-last b h) refl; inside = rw (L.last-last b h) refl }

  written-more : (k g : ℕ) (s : List ℕ) (v : A) (rest : List ℕ) → g < 128 → G.is_last (G.join g v) ≡ false → Written G k s v rest
      → Written G (suc k) ((g + 128) ∷ s) (G.join g v) rest
  unfolding encode in_groups
  written-more k g s v rest h e w = record {
    same = rw (e, L.low-join g v h, L.high-join g v h) (ap (λ (l : List ℕ). (g + 128) ∷ l) w.same);
    inside = rw (e, L.high-join g v h) w.inside;
  }

  -- what is read is what would be written
  pub encode-decode : (left k : ℕ) (s : List ℕ) (v : A) (rest : List ℕ) → AllBytes s → decode G left k s ≡ got v rest → Written G k s v rest
  unfolding decode AllBytes continued shortest
  encode-decode left zero s v rest h e = offends-got e
  encode-decode left (suc k) [] v rest h e = offends-got e
  encode-decode left (suc k) (b ∷ s) v rest h e = go (λ u r d. encode-decode left k s u r h.1 d) (ltb b 128) refl e
    where
      g : ℕ
      g = b - 128

      Tail : Type 0
      Tail = (u : A) (r : List ℕ) → decode G left k s ≡ got u r → Written G k s u r

      joined : (t : Bool) (u : A) (r : List ℕ) → Written G k s u r → G.is_last (G.join g u) ≡ t
          → 128 ≤ b → cond t (offends left) (got (G.join g u) r) ≡ got v rest → Written G (suc k) (b ∷ s) v rest
      joined true u r w t l q = offends-got q
      joined false u r w t l q =
          let v' : G.join g u ≡ v = cc in
          let r' : r ≡ rest = cc in
          let b' : g + 128 ≡ b = omega arith in
          rw (← v', ← r') (rw b' at (written-more k g s u r (omega (arith, h.0)) t w))

      tail : Tail → (x : Reading A) → decode G left k s ≡ x → 128 ≤ b → continued G left g x ≡ got v rest → Written G (suc k) (b ∷ s) v rest
      tail ih (got u r) d l q = joined (G.is_last (G.join g u)) u r (ih u r d) refl l q
      tail ih (offends o) d l q = offends-got q

      go : Tail → (t : Bool) → ltb b 128 ≡ t → cond t (got (G.of_last b) s) (continued G left g (decode G left k s)) ≡ got v rest → Written G (suc k) (b ∷ s) v rest
      go ih true q r = let v' : G.of_last b ≡ v = cc in let s' : s ≡ rest = cc in rw (← v', ← s') (written_last k b s (ltb-true b 128 q))
      go ih false q r = tail ih (decode G left k s) refl (ltb-false b 128 q) r

-- ---- how many groups are enough

-- one group, and what it is
pub one-group : (n : ℕ) → n < 128 → in_groups unsigned number_groups n ≡ true
unfolding in_groups unsigned
one-group n h = rw (lt-ltb n 128 h) refl

pub one_byte : (n : ℕ) → n < 128 → number n ≡ n ∷ []
unfolding encode unsigned
one_byte n h = let e : n % 128 ≡ n = omega arith in rw (lt-ltb n 128 h, e) refl

-- the groups of an integer of at most 7 k + 6 bits without its sign
high-magnitude : (v : ℤ) → mag (high_z v) ≡ mag v / 128
unfolding high_z
high-magnitude (pos n) = refl
high-magnitude (negsuc n) = refl

last-magnitude : (v : ℤ) → mag v < 64 → is_last_z v ≡ true
unfolding is_last_z
last-magnitude (pos n) h = lt-ltb n 64 h
last-magnitude (negsuc n) h = lt-ltb n 64 h

pub or_right : (a b : Bool) → b ≡ true → a || b ≡ true
or_right true b h = refl
or_right false b h = h

groups-enough : (k : ℕ) (v : ℤ) → mag v < 64 * 128 ^ k → in_groups signed (suc k) v ≡ true
unfolding in_groups signed
groups-enough zero v h = rw (last-magnitude v (omega arith)) refl
groups-enough (suc k) v h =
    or_right (is_last_z v) (in_groups signed (suc k) (high_z v)) (groups-enough k (high_z v) (rw (high-magnitude v) (omega (arith, pow-suc 128 k))))

-- a constant may take as many groups as the largest and the smallest need
pub constant-groups : (v : ℤ) → is_constant v ≡ true → in_groups signed constant_groups v ≡ true
unfolding is_constant fits
constant-groups v h = groups-enough (constant_groups - 1) v (lt_of_lt_of_le (ltb-true (mag v) (2 ^ 63) h) (lit≤ tt))
