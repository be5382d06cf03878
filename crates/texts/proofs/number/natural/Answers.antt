-- Each digit keeps the value below what the type holds.
use Rattle.std.proofs.Common.{get_or, sym, ap, ◌∙◌, arith}
use Rattle.std.specs.List.{list_all}
use Rattle.std.specs.Str.Parse.{digits_value}
use Rattle.std.proofs.lemmas.List.{take_all}
use Rattle.texts.specs.Numbers.{is_digit}
use Rattle.texts.proofs.NumberLaws.{digit_in_range, digits_more, natural_small, starts, value_more, value_small}
use Rattle.texts.proofs.number.natural.Goals as goal

pub overflow_mul-value : goal.overflow_mul-value
overflow_mul-value c =
    let start = starts c.args.digits c.args.text.now (sym c.starts_natural.ensures ∙ c.if-not-starts_natural.false) in
    let few = start.few in
    let small = value_small c.args.text.now c.loop-byte.byte-index c.loop-byte.invariant.digits (omega arith) c.loop-byte-test.true in
    let value = c.loop-byte.invariant.value in
    omega arith

pub overflow_add-value : goal.overflow_add-value
overflow_add-value c =
    let start = starts c.args.digits c.args.text.now (sym c.starts_natural.ensures ∙ c.if-not-starts_natural.false) in
    let few = start.few in
    let small = value_small c.args.text.now c.loop-byte.byte-index c.loop-byte.invariant.digits (omega arith) c.loop-byte-test.true in
    let digit = digit_in_range (get_or c.args.text.now c.loop-byte.byte-index 0) (sym c.is_ascii_digit.ensures.value ∙ c.if-not-is_ascii_digit.false) in
    let value = c.loop-byte.invariant.value in
    omega arith

pub loop-byte-preserved : goal.loop-byte-preserved
loop-byte-preserved c =
    let is = sym c.is_ascii_digit.ensures.value ∙ c.if-not-is_ascii_digit.false in
    record {
      digits = digits_more c.args.text.now c.loop-byte.byte-index c.loop-byte.invariant.digits is c.loop-byte-test.true;
      value = (let more = value_more c.args.text.now c.loop-byte.byte-index is c.loop-byte-test.true in
          let value = c.loop-byte.invariant.value in let digit = c.from.ensures in omega arith);
    }

pub returns-clause-small : goal.returns-clause-small
returns-clause-small c =
    let all = take_all c.loop-byte.byte-index c.args.text.now (omega arith) in
    let small = natural_small c.args.digits c.args.text.now (ap (list_all is_digit) (sym all) ∙ c.loop-byte.invariant.digits) (sym c.starts_natural.ensures ∙ c.if-not-starts_natural.false) in
    let value = c.loop-byte.invariant.value ∙ ap (digits_value 10) all in
    omega arith
