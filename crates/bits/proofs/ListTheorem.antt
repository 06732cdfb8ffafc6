-- Demand 3 on the integers: what every list of rotate and reverse calls on one field does, for any rule `done` that says which
-- calls are done. `list-theorem` is the one statement about whole lists; each part of the library applies it with its own rule.
-- Assumes nothing.
use mathlib.Core.Path.{◌≡◌, refl, sym, ◌∙◌, ap, ap₂}
use mathlib.Core.Logic.{◌≢◌}
use mathlib.Core.Bool.{Bool, true, false, cond, ◌&&◌, xor, true≢false}
use mathlib.Core.List.{List, [], ◌∷◌, map}
use Prim.Native.Nat.{ℕ, zero, suc, ◌+◌, ◌-◌, ◌^◌, ◌≤◌, ◌<◌}
use native.Mathlib.Nat.{le_trans}
use native.Mathlib.Omega.{arith}
use lib.Dec.{eqb, lt→ltb}
use lib.IntN.{ℤ, pos, neg_ℤ, nat_abs, ◌+ℤ◌, ◌-ℤ◌, +ℤ_invr, +ℤ_invl}
use lib.Signed.{◌≤ℤ◌, ◌<ℤ◌, le_z_yes, lt_z_yes}
use borrow.Author.Tests.{eq-eqb, ne_eqb}
use Rattle.bits.specs.Testbit.{is_negative, testbit, fits}
use Rattle.bits.specs.Logical.{bitwise_not, bitwise, bitwise_all}
use Rattle.bits.specs.Division.{mod_ℕ, «mod»}
use Rattle.bits.specs.Field.{in_field, permute_field, rotate_index, reverse_index, rotate_bit_field, reverse_bit_field}
use Rattle.bits.specs.Count.{bit_count}
use Rattle.bits.specs.FieldList.{
  FieldCall,
  rotate,
  reverse,
  run_call,
  run_calls,
  count_call,
  net_count_from,
  net_count,
  is_reverse,
  odd_reversals,
}
use Rattle.bits.proofs.Booleans.{all₁, all₃}
use Rattle.bits.proofs.LogicalLaws.{distrib-not, distrib-fill}
use Rattle.bits.proofs.ArgumentLaws.{all_map}
use Rattle.bits.proofs.ShiftLaws.{testbit-pow}
use Rattle.bits.proofs.ModLaws.{mod_ℕ-self, mod_ℕ-inj}
use Rattle.bits.proofs.DivisionLaws.{mod-bounds}
use Rattle.bits.proofs.FieldLaws.{in_field-ge, testbit-permute_field-out, testbit-rotate_bit_field-in, is_negative-permute_field}
use Rattle.bits.proofs.FitsLaws.{same-above-fits}
use Rattle.bits.proofs.FieldAlgebra.{permute_field-distrib-bitwise}
use Rattle.bits.proofs.RotateLaws.{
  rotate_index-lt,
  rotate_index-zero,
  rotate_index-compose,
  reverse_index-lt,
  reverse_index-involutive,
  rotate-zero,
  rotate-rotate,
  reverse-rotate-mod,
  reverse-rotate-reverse,
}
use Rattle.bits.proofs.CountLaws.{Permutes, bit_count-permute_field}

-- ---- the statement

pub record ListLaw (done : FieldCall → Bool) (start end : ℕ) : Type 0 where
  -- the end number: one reversal if the done reversals are odd in number, and then one rotation by the net count
  pub end-number : (calls : List FieldCall) (x : ℤ)
      → run_calls done start end calls x
      ≡ rotate_bit_field (cond (odd_reversals done calls) (reverse_bit_field x start end) x) start end (net_count done (end - start) calls)
  pub net-count : (calls : List FieldCall)
      → (pos 0 ≤ℤ net_count done (end - start) calls) × (net_count done (end - start) calls <ℤ pos (end - start))
  -- what every list keeps
  pub bit-count : (calls : List FieldCall) (x : ℤ) → bit_count (run_calls done start end calls x) ≡ bit_count x
  pub sign : (calls : List FieldCall) (x : ℤ) → is_negative (run_calls done start end calls x) ≡ is_negative x
  pub outside : (calls : List FieldCall) (x : ℤ) (i : ℕ)
      → in_field start end i ≡ false → testbit (run_calls done start end calls x) i ≡ testbit x i
  -- it commutes with not, and distributes over every Boolean operation: of two integers, and of any number of them
  pub commutes-not : (calls : List FieldCall) (x : ℤ)
      → run_calls done start end calls (bitwise_not x) ≡ bitwise_not (run_calls done start end calls x)
  pub distributes : (calls : List FieldCall) (op : Bool → Bool → Bool) (x y : ℤ)
      → run_calls done start end calls (bitwise op x y) ≡ bitwise op (run_calls done start end calls x) (run_calls done start end calls y)
  pub distributes-all : (calls : List FieldCall) (op : Bool → Bool → Bool) (e : Bool) (xs : List ℤ)
      → run_calls done start end calls (bitwise_all op e xs) ≡ bitwise_all op e (map (run_calls done start end calls) xs)
  -- different counts differ: at the number whose one bit is the field's first
  pub counts-differ : (c d : ℕ) → c < end - start → d < end - start → c ≢ d
      → rotate_bit_field (pos (2 ^ start)) start end (pos c) ≢ rotate_bit_field (pos (2 ^ start)) start end (pos d)

-- ---- a list keeps and commutes with what each of its calls does

-- a quantity that no call changes
keeps : (done : FieldCall → Bool) (start end : ℕ) {A : Type 0} (f : ℤ → A) → ((call : FieldCall) (x : ℤ) → f (run_call start end call x) ≡ f x)
    → (calls : List FieldCall) (x : ℤ) → f (run_calls done start end calls x) ≡ f x
unfolding run_calls
keeps done start end f each [] x = refl
keeps done start end f each (call ∷ calls) x =
    keeps done start end f each calls (cond (done call) (run_call start end call x) x) ∙ one (done call)
  where
    one : (b : Bool) → f (cond b (run_call start end call x) x) ≡ f x
    one true = each call x
    one false = refl

-- a Boolean operation, over which each call distributes
over : (done : FieldCall → Bool) (start end : ℕ) (op : Bool → Bool → Bool)
    → ((call : FieldCall) (x y : ℤ) → run_call start end call (bitwise op x y) ≡ bitwise op (run_call start end call x) (run_call start end call y))
    → (calls : List FieldCall) (x y : ℤ)
    → run_calls done start end calls (bitwise op x y) ≡ bitwise op (run_calls done start end calls x) (run_calls done start end calls y)
unfolding run_calls
over done start end op each [] x y = refl
over done start end op each (call ∷ calls) x y =
    ap (run_calls done start end calls) (one (done call))
    ∙ over done start end op each calls (cond (done call) (run_call start end call x) x) (cond (done call) (run_call start end call y) y)
  where
    one : (b : Bool) → cond b (run_call start end call (bitwise op x y)) (bitwise op x y)
        ≡ bitwise op (cond b (run_call start end call x) x) (cond b (run_call start end call y) y)
    one true = each call x y
    one false = refl

-- ---- each call permutes the field

index_map : ℕ → FieldCall → ℕ → ℕ
index_map size (rotate c) = rotate_index size c
index_map size reverse = reverse_index size

inverse_map : ℕ → FieldCall → ℕ → ℕ
inverse_map size (rotate c) = rotate_index size (neg_ℤ c)
inverse_map size reverse = reverse_index size

run_call-permutes : (start end : ℕ) (call : FieldCall) (x : ℤ) → run_call start end call x ≡ permute_field (index_map (end - start) call) x start end
unfolding run_call index_map rotate_bit_field reverse_bit_field
run_call-permutes start end (rotate c) x = refl
run_call-permutes start end reverse x = refl

-- a rotation and its opposite, which add up to none
undone : (size : ℕ) (c d : ℤ) → c +ℤ d ≡ pos 0 → (i : ℕ) → i < size → rotate_index size c (rotate_index size d i) ≡ i
undone size c d e i h =
    rotate_index-compose size (omega arith) c d i ∙ ap (λ (k : ℤ). rotate_index size k i) e ∙ rotate_index-zero size (omega arith) i h

permutes : (size : ℕ) (call : FieldCall) → Permutes size (index_map size call) (inverse_map size call)
unfolding index_map inverse_map
permutes size (rotate c) = record {
  stays = λ i h. rotate_index-lt size (omega arith) c i;
  stays-back = λ i h. rotate_index-lt size (omega arith) (neg_ℤ c) i;
  there = undone size c (neg_ℤ c) (+ℤ_invr c);
  back = undone size (neg_ℤ c) c (+ℤ_invl c);
}
permutes size reverse = record {
  stays = λ i h. reverse_index-lt size (omega arith) i;
  stays-back = λ i h. reverse_index-lt size (omega arith) i;
  there = λ i h. reverse_index-involutive size (omega arith) i h;
  back = λ i h. reverse_index-involutive size (omega arith) i h;
}

module _ (start end : ℕ) where
  call-bit_count : (call : FieldCall) (x : ℤ) → bit_count (run_call start end call x) ≡ bit_count x
  call-bit_count call x = ap bit_count (run_call-permutes start end call x) ∙ bit_count-permute_field x start end (permutes (end - start) call)

  call-sign : (call : FieldCall) (x : ℤ) → is_negative (run_call start end call x) ≡ is_negative x
  call-sign call x =
      ap is_negative (run_call-permutes start end call x) ∙ is_negative-permute_field (index_map (end - start) call) x start end

  call-outside : (i : ℕ) → in_field start end i ≡ false → (call : FieldCall) (x : ℤ) → testbit (run_call start end call x) i ≡ testbit x i
  call-outside i o call x =
      ap (λ (y : ℤ). testbit y i) (run_call-permutes start end call x)
      ∙ testbit-permute_field-out (index_map (end - start) call) x start end i o

  call-bitwise : (op : Bool → Bool → Bool) (call : FieldCall) (x y : ℤ)
      → run_call start end call (bitwise op x y) ≡ bitwise op (run_call start end call x) (run_call start end call y)
  call-bitwise op call x y =
      run_call-permutes start end call (bitwise op x y)
      ∙ permute_field-distrib-bitwise (index_map (end - start) call) op x y start end
      ∙ sym (ap₂ (bitwise op) (run_call-permutes start end call x) (run_call-permutes start end call y))

-- ---- the end number

-- x reversed if b says so, and then rotated by s
settled : ℕ → ℕ → Bool → ℤ → ℤ → ℤ
settled start end b s x = rotate_bit_field (cond b (reverse_bit_field x start end) x) start end s

xor-false : (b : Bool) → b ≡ xor false b
unfolding xor
xor-false = all₁ (λ b. b) (λ b. xor false b) tt

false-xor : (b : Bool) → xor b false ≡ b
unfolding xor
false-xor = all₁ (λ b. xor b false) (λ b. b) tt

xor-turn : (a b c : Bool) → xor a (xor b c) ≡ xor (xor b a) c
unfolding xor
xor-turn = all₃ (λ a b c. xor a (xor b c)) (λ a b c. xor (xor b a) c) tt

module _ (start end : ℕ) where
  -- one done call, from a settled form to a settled form
  call_settled : (call : FieldCall) (b : Bool) (s x : ℤ)
      → run_call start end call (settled start end b s x) ≡ settled start end (xor (is_reverse call) b) (count_call (end - start) call s) x
  unfolding run_call settled is_reverse count_call xor
  call_settled (rotate c) true s x = rotate-rotate start end (reverse_bit_field x start end) s c
  call_settled (rotate c) false s x = rotate-rotate start end x s c
  call_settled reverse true s x = reverse-rotate-reverse start end x s
  call_settled reverse false s x = reverse-rotate-mod start end x s

  -- one call, done or not
  step-settled : (t : Bool) (call : FieldCall) (b : Bool) (s x : ℤ)
      → cond t (run_call start end call (settled start end b s x)) (settled start end b s x)
      ≡ settled start end (xor (t && is_reverse call) b) (cond t (count_call (end - start) call s) s) x
  step-settled true call b s x = call_settled call b s x
  step-settled false call b s x = ap (λ (c : Bool). settled start end c s x) (xor-false b)

  -- a list
  calls-settled : (done : FieldCall → Bool) (calls : List FieldCall) (b : Bool) (s x : ℤ)
      → run_calls done start end calls (settled start end b s x)
      ≡ settled start end (xor (odd_reversals done calls) b) (net_count_from done (end - start) calls s) x
  unfolding run_calls odd_reversals net_count_from
  calls-settled done [] b s x = ap (λ (c : Bool). settled start end c s x) (xor-false b)
  calls-settled done (call ∷ calls) b s x =
      ap (run_calls done start end calls) (step-settled (done call) call b s x)
      ∙ calls-settled done calls (xor (done call && is_reverse call) b) (cond (done call) (count_call (end - start) call s) s) x
      ∙ ap (λ (c : Bool). settled start end c (net_count_from done (end - start) calls (cond (done call) (count_call (end - start) call s) s)) x)
      (xor-turn (odd_reversals done calls) (done call && is_reverse call) b)

  end_is : (done : FieldCall → Bool) (calls : List FieldCall) (x : ℤ)
      → run_calls done start end calls x ≡ settled start end (odd_reversals done calls) (net_count done (end - start) calls) x
  unfolding net_count settled
  end_is done calls x =
      ap (run_calls done start end calls) (sym (rotate-zero start end x))
      ∙ calls-settled done calls false (pos 0) x
      ∙ ap (λ (c : Bool). settled start end c (net_count_from done (end - start) calls (pos 0)) x) (false-xor (odd_reversals done calls))

-- ---- the net count stays below the size

Below : ℕ → ℤ → Type 0
Below size s = (pos 0 ≤ℤ s) × (s <ℤ pos size)

below-mod : (size : ℕ) → 0 < size → (x : ℤ) → Below size («mod» x (pos size))
unfolding Below
below-mod size h x = mod-bounds x (pos size) (λ e. omega (arith, ap nat_abs e))

below-zero : (size : ℕ) → 0 < size → Below size (pos 0)
unfolding Below
below-zero size h = (le_z_yes tt, lt_z_yes (lt→ltb 0 size h))

below-call : (size : ℕ) → 0 < size → (call : FieldCall) (s : ℤ) → Below size (count_call size call s)
unfolding count_call
below-call size h (rotate c) s = below-mod size h (s +ℤ c)
below-call size h reverse s = below-mod size h (pos size -ℤ s)

below-from : (done : FieldCall → Bool) (size : ℕ) → 0 < size → (calls : List FieldCall) (s : ℤ) → Below size s
    → Below size (net_count_from done size calls s)
unfolding net_count_from
below-from done size h [] s k = k
below-from done size h (call ∷ calls) s k =
    below-from done size h calls (cond (done call) (count_call size call s) s) (one (done call))
  where
    one : (b : Bool) → Below size (cond b (count_call size call s) s)
    one true = below-call size h call s
    one false = k

-- ---- different counts differ

-- bit start + c of 2^start rotated by c is 1, and rotated by d it is 0
differ : (start end c d : ℕ) → c < end - start → d < end - start → c ≢ d
    → rotate_bit_field (pos (2 ^ start)) start end (pos c) ≢ rotate_bit_field (pos (2 ^ start)) start end (pos d)
differ start end c d l k ne e = go (mod_ℕ (pos c -ℤ pos d) (end - start)) refl
  where
    bit : (b m : ℕ) → mod_ℕ (pos c -ℤ pos b) (end - start) ≡ m
        → testbit (rotate_bit_field (pos (2 ^ start)) start end (pos b)) (start + c) ≡ eqb (start + m) start
    bit b m z =
        testbit-rotate_bit_field-in (pos (2 ^ start)) start end (pos b) c l
        ∙ ap (λ (n : ℕ). testbit (pos (2 ^ start)) (start + n)) z
        ∙ testbit-pow start (start + m)

    go : (m : ℕ) → mod_ℕ (pos c -ℤ pos d) (end - start) ≡ m → ⊥
    go zero z = ne (mod_ℕ-inj c d (end - start) l k z)
    go (suc m) z =
        true≢false
        (sym (bit c 0 (mod_ℕ-self (pos c) (end - start)) ∙ eq-eqb (start + 0) start (omega arith))
        ∙ ap (λ (y : ℤ). testbit y (start + c)) e
        ∙ bit d (suc m) z
        ∙ ne_eqb (start + suc m) start (λ q. omega arith))

-- ---- the theorem

pub list-theorem : (done : FieldCall → Bool) (start end : ℕ) → start < end → ListLaw done start end
unfolding settled net_count Below
list-theorem done start end h = record {
  end-number = end_is start end done;
  net-count = λ calls. below-from done (end - start) (omega arith) calls (pos 0) (below-zero (end - start) (omega arith));
  bit-count = keeps done start end bit_count (call-bit_count start end);
  sign = keeps done start end is_negative (call-sign start end);
  outside = λ calls x i o. keeps done start end (λ (y : ℤ). testbit y i) (call-outside start end i o) calls x;
  commutes-not = λ calls. distrib-not (run_calls done start end calls) (distrib calls);
  distributes = distrib;
  distributes-all = λ calls op e.
      all_map op e (run_calls done start end calls) (distrib-fill (run_calls done start end calls) (distrib calls) e) (distrib calls op);
  counts-differ = differ start end;
}
  where
    distrib : (calls : List FieldCall) (op : Bool → Bool → Bool) (x y : ℤ)
        → run_calls done start end calls (bitwise op x y) ≡ bitwise op (run_calls done start end calls x) (run_calls done start end calls y)
    distrib calls op = over done start end op (call-bitwise start end op) calls

-- a list on a field that ends at or below w - 1 keeps what fits w
pub calls-fit : (done : FieldCall → Bool) (start end : ℕ) → start < end → (w : ℕ) → end ≤ w - 1 → (calls : List FieldCall) (x : ℤ) → fits w x ≡ true
    → fits w (run_calls done start end calls x) ≡ true
calls-fit done start end h w k calls x =
    let law = list-theorem done start end h in
    same-above-fits w (omega arith) x (run_calls done start end calls x) (λ i l. law.outside calls x i (in_field-ge start end i (le_trans k l)))
    (law.sign calls x)
