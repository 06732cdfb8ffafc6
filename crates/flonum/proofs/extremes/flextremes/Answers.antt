-- `flonum::extremes::flextremes` meets its contract. Assumes nothing.
use Rattle.std.proofs.Common.{◌≡◌, ℕ, [], ◌+◌, true, length, take, drop, sym, ap, ◌∙◌, arith}
use lib.Ieee.{Float, of_bits}
use Rattle.outcomes.specs.Refusal.{code_of}
use Rattle.flonum.specs.declared.extremes.Extremes.{Extremes}
use Rattle.flonum.specs.Extremes.{extend_all, extremes}
use Rattle.flonum.specs.Calls.{is_count}
use Rattle.flonum.proofs.CallLaws.{count-bounds, bad-count, good-count}
use Rattle.flonum.proofs.ExtremesLaws.{begins, goes_on, ends}
use Rattle.flonum.proofs.extremes.flextremes.Goals as goal
use Rattle.flonum.proofs.extremes.flextremes.Goals.{Start}

four : (c : Start) → length c.args.args ≡ 4
four c = omega arith

pub returns-then-not-is_count : goal.returns-then-not-is_count
unfolding extremes of_bits code_of
returns-then-not-is_count c =
    ap (λ (k : ℕ). record { refusal = k; values = extremes [] }) c.into.ensures ∙ bad-count c.args.args c.args.count (sym c.is_count.ensures ∙ c.if-not-is_count.true)

pub loop-i-init : goal.loop-i-init
loop-i-init c =
    let b = count-bounds c.args.count (sym c.is_count.ensures ∙ c.if-not-is_count.false) in
    ap (λ (x : Float). extend_all (record { smallest = x; largest = x }) (drop 1 (take c.args.count c.args.args))) c.one_nan-first.ensures
    ∙ begins c.args.args c.args.count (omega arith) b.1 b.0

pub offset_bounds-args-i : goal.offset_bounds-args-i
offset_bounds-args-i c = let b = count-bounds c.args.count (sym c.is_count.ensures ∙ c.if-not-is_count.false) in record { fits = omega (arith, b.1) }

pub bounds-args-i : goal.bounds-args-i
bounds-args-i c = let b = count-bounds c.args.count (sym c.is_count.ensures ∙ c.if-not-is_count.false) in omega (arith, b.1)

pub loop-i-preserved : goal.loop-i-preserved
loop-i-preserved c =
    let i = c.loop-i.i in
    let b = count-bounds c.args.count (sym c.is_count.ensures ∙ c.if-not-is_count.false) in
    ap (λ (e : Extremes). extend_all e (drop (i + 1) (take c.args.count c.args.args))) c.extend-e.ensures
    ∙ sym (goes_on c.args.args c.args.count (omega arith) b.1 c.loop-i.e i c.loop-i-test.true)
    ∙ c.loop-i.invariant

pub returns : goal.returns
returns c =
    let good : is_count c.args.count ≡ true = sym c.is_count.ensures ∙ c.if-not-is_count.false in
    let b = count-bounds c.args.count good in
    good-count c.args.args c.args.count c.loop-i.e good (sym (ends c.args.args c.args.count (omega arith) b.1 c.loop-i.e c.loop-i.i c.loop-i-test.false) ∙ c.loop-i.invariant)
