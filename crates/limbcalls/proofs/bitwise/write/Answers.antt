-- `bitwise::write`: each call has written limbs within the buffer. Assumes nothing.
use Rattle.limbcalls.proofs.Prefixes.{written}
use Rattle.limbcalls.proofs.bitwise.write.Goals as goal

pub returns-in-Not : goal.returns-in-Not
returns-in-Not c = written _ c.bitwise_not.ensures

pub returns-in-And : goal.returns-in-And
returns-in-And c = written _ c.bitwise_and.ensures

pub returns-in-Ior : goal.returns-in-Ior
returns-in-Ior c = written _ c.bitwise_ior.ensures

pub returns-in-Xor : goal.returns-in-Xor
returns-in-Xor c = written _ c.bitwise_xor.ensures

pub returns-in-If : goal.returns-in-If
returns-in-If c = written _ c.bitwise_if.ensures

pub returns-in-CopyBit : goal.returns-in-CopyBit
returns-in-CopyBit c = written _ c.bitwise_copy_bit.ensures

pub returns-in-BitField : goal.returns-in-BitField
returns-in-BitField c = written _ c.bitwise_bit_field.ensures

pub returns-in-CopyBitField : goal.returns-in-CopyBitField
returns-in-CopyBitField c = written _ c.bitwise_copy_bit_field.ensures

pub returns-in-ArithmeticShift : goal.returns-in-ArithmeticShift
returns-in-ArithmeticShift c = written _ c.bitwise_shift.ensures

pub returns-in-ArithmeticShiftLeft : goal.returns-in-ArithmeticShiftLeft
returns-in-ArithmeticShiftLeft c = written _ c.bitwise_shift_left.ensures

pub returns-in-ArithmeticShiftRight : goal.returns-in-ArithmeticShiftRight
returns-in-ArithmeticShiftRight c = written _ c.bitwise_shift_right.ensures

pub returns-in-RotateBitField : goal.returns-in-RotateBitField
returns-in-RotateBitField c = written _ c.bitwise_rotate.ensures

pub returns-in-ReverseBitField : goal.returns-in-ReverseBitField
returns-in-ReverseBitField c = written _ c.bitwise_reverse.ensures
