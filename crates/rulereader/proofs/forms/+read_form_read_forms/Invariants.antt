-- `rulereader::forms::read_form` and `rulereader::forms::read_forms`, which call each other, end: the depth falls, and at one depth the
-- forms that are left. Assumes nothing.
use Prim.Native.Nat.{◌+◌}
use Rattle.rulereader.proofs.FormLaws.{weight}
use Rattle.rulereader.proofs.forms.+read_form_read_forms.Given as goal

abbrev pub decreases-read_form : goal.decreases-read_form
decreases-read_form l = weight l.depth 0

abbrev pub decreases-read_forms : goal.decreases-read_forms
decreases-read_forms l = weight l.depth (l.n + 1)
