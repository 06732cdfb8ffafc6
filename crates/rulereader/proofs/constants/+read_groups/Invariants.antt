-- `rulereader::constants::read_groups` ends: the groups that are left get fewer. Assumes nothing.
use Rattle.rulereader.proofs.constants.+read_groups.Given as goal

abbrev pub decreases-read_groups : goal.decreases-read_groups
decreases-read_groups l = l.k
