-- `listing::Cursor::decimal` ends: a tenth of a number above 9 is less. Assumes nothing.
use Rattle.listing.proofs.Cursor.+decimal.Given as goal

abbrev pub decreases-decimal : goal.decreases-decimal
decreases-decimal l = l.n
