-- Each turn may read one group less.
use Rattle.numbers.proofs.+read_groups.Given as goal

abbrev pub decreases-read-groups : goal.decreases-read-groups
decreases-read-groups l = l.most
