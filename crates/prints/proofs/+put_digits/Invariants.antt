-- The measure of `prints::put_digits` is the number.
use Rattle.prints.proofs.+put_digits.Given as goal

abbrev pub decreases-put_digits : goal.decreases-put_digits
decreases-put_digits l = l.n
