-- `text::long::read_limbs` meets its contract. Assumes nothing.
use Rattle.std.proofs.lemmas.Result.{err_from_is_err_and}
use Rattle.text.proofs.ReadingParts.{integer-is}
use Rattle.text.proofs.ReadingBuffer.{limbs-malformed, limbs-read, hexadecimal-fits, bounded-fits}
use Rattle.text.proofs.long.read_limbs.Goals as goal

pub returns-in_err-negative : goal.returns-in_err-negative
returns-in_err-negative c =
    let h = c.in_err-negative.ensures in
    let p = err_from_is_err_and c.from_residual.result c.from_residual.ensures.1 in
    let m = limbs-malformed c.args.text.now _ c.args.out.now h.1 in
    rw (p.1, p.2, h.0) (record { value = m.0; holds = m.1 })

pub returns-then-base-eq16 : goal.returns-then-base-eq16
returns-then-base-eq16 c =
    let w = c.in_ok-negative.ensures in
    let b = c.if-base-eq16.true in
    let m = limbs-read _ _ w.integral (integer-is _ w) (hexadecimal-fits _ _ w b) (rw b c.read_hexadecimal.ensures) in
    record { value = m.0; holds = m.1 }

pub returns-else-base-eq16 : goal.returns-else-base-eq16
returns-else-base-eq16 c =
    let w = c.in_ok-negative.ensures in
    let m = limbs-read _ _ w.integral (integer-is _ w) (bounded-fits _ _ w c.if-base-eq16.false) c.read_bounded.ensures in
    record { value = m.0; holds = m.1 }
