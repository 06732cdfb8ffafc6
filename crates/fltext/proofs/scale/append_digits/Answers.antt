-- `fltext::scale::append_digits` meets its contract, one digit at a time. Assumes nothing.
use Prim.Native.Nat.{◌+◌, ◌*◌, ◌<◌}
use native.Mathlib.Omega.{arith}
use mathlib.Core.Path.{◌≡◌, refl, ap, sym, ◌∙◌}
use lib.ListN.{take, get_or}
use Rattle.text.specs.Numerals.{numeral_from, digit}
use Rattle.text.proofs.NumeralLaws.{digit_at}
use Rattle.text.proofs.DigitValues.{digit-found, some-digit}
use Rattle.text.specs.Naturals.{natural}
use Rattle.fltext.proofs.ScaleLaws.{becomes-same, becomes-as, becomes-step, becomes-room, append-none, append-more, append-all, append-le}
use Rattle.fltext.proofs.scale.append_digits.Goals as goal
use Rattle.fltext.proofs.scale.append_digits.Goals.{After-unwrap}

pub loop-c-init : goal.loop-c-init
loop-c-init c = becomes-same _ (append-none _ _ c.args.digits.now)

pub unwrap-requires : goal.unwrap-requires
unwrap-requires c =
    let h = digit_at c.args.base c.args.digits.now c.loop-c.c-index c.requires.digits_value c.loop-c-test.true in
    rw (c.digit.ensures ∙ sym (some-digit _ (omega (arith, h, c.requires.base_nonzero.1)))) refl

-- the digit that was read
digit-is : (c : After-unwrap) → c.unwrap.result ≡ digit (get_or c.args.digits.now c.loop-c.c-index 0)
digit-is c = digit-found _ c.digit.ensures c.unwrap.ensures

digit_lt : (c : After-unwrap) → c.unwrap.result < c.args.base
digit_lt c = omega (arith, digit-is c, digit_at c.args.base c.args.digits.now c.loop-c.c-index c.requires.digits_value c.loop-c-test.true)

-- with it, one digit more
so_far : (c : After-unwrap) → let a = c.args in
    let l = c.loop-c in
    numeral_from a.base (natural a.x.now) (take l.c-index a.digits.now) * a.base + c.unwrap.result
    ≡ numeral_from a.base (natural a.x.now) (take (l.c-index + 1) a.digits.now)
so_far c =
    let a = c.args in
    let l = c.loop-c in
    ap (λ d. numeral_from a.base (natural a.x.now) (take l.c-index a.digits.now) * a.base + d) (digit-is c)
    ∙ append-more a.base (natural a.x.now) a.digits.now l.c-index c.loop-c-test.true

pub multiply_add-requires : goal.multiply_add-requires
multiply_add-requires c =
    let l = c.loop-c in
    let b = c.args.base in
    let n = natural c.args.x.now in record {
      b_bound = (omega (arith, c.requires.base_nonzero.1), omega (arith, digit_lt (goal.at.multiply_add-requires c).After-unwrap, c.requires.base_nonzero.1));
      c_bound = becomes-room (λ m. m * b + c.unwrap.result) (numeral_from b n c.args.digits.now) l.invariant (rw (so_far (goal.at.multiply_add-requires c).After-unwrap) (append-le b n (l.c-index + 1) c.args.digits.now c.requires.base_nonzero.0)) c.requires.digits_bound;
    }

pub loop-c-preserved : goal.loop-c-preserved
loop-c-preserved c =
    let l = c.loop-c in
    let b = c.args.base in
    becomes-step (λ m. m * b + c.unwrap.result) l.invariant c.multiply_add.ensures (so_far (goal.at.loop-c-preserved c).After-unwrap)

pub returns : goal.returns
returns c =
    let l = c.loop-c in
    let a = c.args in
    becomes-as l.invariant (append-all a.base (natural a.x.now) a.digits.now l.c-index c.loop-c-test.false)
