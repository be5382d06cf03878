-- The first words decide.
use Rattle.std.proofs.Common.{sym}
use Rattle.cert_format.proofs.SpareLaws.{long_row, long_value, other_price, other_row, pair_is}
use Rattle.cert_format.proofs.spare.beginning_of.Goals as goal

pub returns-then-words-gt-NUMBER_DIGITS : goal.returns-then-words-gt-NUMBER_DIGITS
returns-then-words-gt-NUMBER_DIGITS c = long_row c.args.words.now c.in_default.ensures c.if-words-gt-NUMBER_DIGITS.true

pub returns-in_default-natural : goal.returns-in_default-natural
returns-in_default-natural c = other_row c.args.words.now c.in-Some.row.now c.in-Some.behind.now c.in-Some.ensures (sym c.in_default-natural.ensures.value)

pub returns-then-behind-gt-PRICE_BYTES : goal.returns-then-behind-gt-PRICE_BYTES
returns-then-behind-gt-PRICE_BYTES c = long_value c.args.words.now c.in-Some.row.now c.in-Some.behind.now c.in-Some.ensures c.in_default-take_word.ensures c.if-behind-gt-PRICE_BYTES.true

pub returns-in-Some-price : goal.returns-in-Some-price
returns-in-Some-price c =
    pair_is c.args.words.now c.in-Some.row.now c.in-Some.behind.now c.in-Some-take_word.value.now c.in-Some-take_word.more.now c.in-Some-natural.field-0 c.in-Some-price.field-0
    c.in-Some.ensures c.in-Some-take_word.ensures (sym c.in-Some-natural.ensures.value) (sym c.in-Some-price.ensures.value)

pub returns-in-None : goal.returns-in-None
returns-in-None c =
    other_price c.args.words.now c.in-Some.row.now c.in-Some.behind.now c.in-Some-take_word.value.now c.in-Some-take_word.more.now c.in-Some.ensures c.in-Some-take_word.ensures (sym c.in-None.ensures.value)
