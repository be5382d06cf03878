-- Lines, names and numbers that were looked at by hand, which the definitions compute.
use Rattle.std.proofs.Common.{◌≡◌, true, false, [], ◌∷◌, refl, Some, None}
use Rattle.std.specs.Prelude.{codes, pos, negsuc}
use Rattle.texts.specs.Lines.{behind_lines, lines_of, words_of}
use Rattle.texts.specs.Names.{is_name}
use Rattle.texts.specs.Numbers.{natural_in, price_in, whole_in}

pub two_hundred_and_forty : natural_in 4 (codes "240") ≡ Some 240
two_hundred_and_forty = refl

pub nought : natural_in 4 (codes "0") ≡ Some 0
nought = refl

-- a second spelling of 1
pub leading_zero : natural_in 4 (codes "01") ≡ None
leading_zero = refl

pub too_many_digits : natural_in 4 (codes "10000") ≡ None
too_many_digits = refl

pub a_name : is_name (codes "north_2") ≡ true
a_name = refl

pub a_digit_first : is_name (codes "2nd") ≡ false
a_digit_first = refl

pub minus_ten : whole_in (codes "-10") ≡ Some (negsuc 9)
minus_ten = refl

pub whole_nought : whole_in (codes "0") ≡ Some (pos 0)
whole_nought = refl

-- nought has no minus, and is no price
pub minus_nought : whole_in (codes "-0") ≡ None
minus_nought = refl

pub nought_is_no_price : price_in (codes "0") ≡ None
nought_is_no_price = refl

-- two lines, and bytes that lack their line feed
pub two_lines : lines_of (codes "a 1\nend\nx") ≡ codes "a 1" ∷ codes "end" ∷ []
unfolding lines_of
two_lines = refl

pub a_rest : behind_lines (codes "a 1\nend\nx") ≡ codes "x"
unfolding behind_lines
a_rest = refl

-- two spaces, and an empty word between them
pub two_spaces : words_of (codes "a  1") ≡ codes "a" ∷ [] ∷ codes "1" ∷ []
two_spaces = refl
