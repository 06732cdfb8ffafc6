-- Integers and their texts, from the definitions. Bytes: 45 is -, 48 is 0, 120 is x.
use mathlib.Core.Path.{◌≡◌, refl}
use mathlib.Core.List.{[], ◌∷◌}
use lib.IntN.{pos, negsuc}
use Rattle.bits.specs.Testbit.{halvings, bit_length, is_negative}
use Rattle.spelling.specs.Spellings.{glyph, digits, hex_length, spelled}

-- what is written of -0x100000000 and of 0
pub cases-spelled :
    (spelled (negsuc 4294967295) ≡ 45 ∷ 48 ∷ 120 ∷ 49 ∷ 48 ∷ 48 ∷ 48 ∷ 48 ∷ 48 ∷ 48 ∷ 48 ∷ 48 ∷ [])
    × (spelled (pos 0) ≡ 48 ∷ 120 ∷ 48 ∷ [])
unfolding glyph digits hex_length spelled is_negative bit_length halvings
cases-spelled = (refl, refl)
