-- The integer that a described result is.
use Rattle.std.specs.Prelude.{ℤ}
use Rattle.limbwords.specs.declared.described.Described.{Described}
use Rattle.limbwords.specs.Value.{value}
use Rattle.limbwords.specs.Results.{meaning}

abbrev pub described : Described → ℤ
described d = meaning d.operation (value d.x.now) (value d.y.now) (value d.z.now)
