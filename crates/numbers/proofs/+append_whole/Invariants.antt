-- `append_whole`: a number's tens, then its last digit. The measure is the number.
use Rattle.numbers.proofs.+append_whole.Given as goal

abbrev pub decreases-append_whole : goal.decreases-append_whole
decreases-append_whole l = l.k
