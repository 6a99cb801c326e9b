-- `append_hex`: a number's sixteens, then its last digit. The measure is the number of digits.
use Rattle.exposurelines.proofs.+append_hex.Given as goal

abbrev pub decreases-append_hex : goal.decreases-append_hex
decreases-append_hex l = l.digits
