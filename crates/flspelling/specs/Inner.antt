-- What the functions inside `flspelling` promise each other. No public call's contract cites this.
--   Prints text a b  ==  a text is put into a buffer with its text, before and after
use Rattle.std.specs.Prelude.{ℕ, List}
use Rattle.output.specs.declared.buffer.Output.{Output}
use Rattle.output.specs.Put.{Puts}

abbrev pub Prints : List ℕ → Output → Output → Type 0
Prints text a b = Puts text a.bytes.now a.filled b.filled b.bytes.now
