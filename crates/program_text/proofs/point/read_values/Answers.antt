-- What is left of the text decides.
use Rattle.std.proofs.Common.{◌≡◌, ℕ, ◌+◌, Err, inl, ap, sym, ◌∙◌, arith, rules, length, FitsSigned, w64}
use Rattle.std.proofs.lemmas.Int.{to_z-of_z}
use Rattle.std.proofs.lemmas.List.{length_push}
use Rattle.std.proofs.lemmas.List.Elements.{All-push}
use Rattle.program_text.specs.PointText.{IsWhole, spelled_point}
use Rattle.program_text.specs.declared.fault.PointFault.TheVariants.{Form}
use Rattle.program_text.proofs.PointLaws.{end}
use Rattle.program_text.proofs.ReadLaws.{another_line_left, end_left, equal_texts, more_behind_the_end, no_bytes_by, no_line_left, other_texts, some_bytes_by, value_left}
use Rattle.program_text.proofs.point.read_values.Goals as goal

pub returns-then-is_empty-clause-value : goal.returns-then-is_empty-clause-value
returns-then-is_empty-clause-value c =
    let is = equal_texts c.in-Some.line.now end (sym c.if-eq.ensures) in
    let nothing = no_bytes_by c.in-Some.behind.now (sym c.if-is_empty.ensures) in
    inl (sym (ap spelled_point c.loop-line.invariant.text ∙ end_left c.loop-line.values c.loop-line.rest.now c.in-Some.line.now c.in-Some.behind.now c.loop-line.invariant.wholes c.in-Some.ensures is nothing))

pub returns-else-is_empty-clause-value : goal.returns-else-is_empty-clause-value
returns-else-is_empty-clause-value c =
    let is = equal_texts c.in-Some.line.now end (sym c.if-eq.ensures) in
    let some = some_bytes_by c.in-Some.behind.now (sym c.if-is_empty.ensures) in
    let number : length c.loop-line.values + 3 ≡ c.loop-line.number + 1 = (let number = c.loop-line.invariant.number in omega arith) in
    inl (sym (ap spelled_point c.loop-line.invariant.text
    ∙ more_behind_the_end c.loop-line.values c.loop-line.rest.now c.in-Some.line.now c.in-Some.behind.now c.loop-line.invariant.wholes c.in-Some.ensures is some
    ∙ ap (λ (n : ℕ). Err (Form n)) number))

pub returns-in-None-clause-value : goal.returns-in-None-clause-value
returns-in-None-clause-value c =
    let other = other_texts c.in-Some.line.now end (sym c.if-eq.ensures) in
    let none = sym c.whole.ensures.value ∙ c.in-None.is in
    inl (sym (ap spelled_point c.loop-line.invariant.text
    ∙ another_line_left c.loop-line.values c.loop-line.rest.now c.in-Some.line.now c.in-Some.behind.now c.loop-line.invariant.wholes c.in-Some.ensures other none
    ∙ ap (λ (n : ℕ). Err (Form n)) (sym c.loop-line.invariant.number)))

pub loop-line-preserved : goal.loop-line-preserved
loop-line-preserved c =
    let value = c.in-Some-whole.value in
    let is = sym c.whole.ensures.value ∙ c.in-Some-whole.is in
    let fits : FitsSigned w64 value = search rules in
    let more = simp to_z-of_z at c.in_ok-push-in-Some-whole.ensures.ok in
    let text = c.loop-line.invariant.text ∙ value_left c.loop-line.values value c.loop-line.rest.now c.in-Some.line.now c.in-Some.behind.now c.in-Some.ensures is in
    let shorter = c.in-Some.ensures.shorter in
    let count = c.loop-line.invariant.count in
    rw more (record {
      text = text;
      wholes = All-push IsWhole c.loop-line.values value c.loop-line.invariant.wholes c.in-Some-whole.ensures.small;
      number = (let number = c.loop-line.invariant.number in let long = length_push c.loop-line.values value in omega arith);
      count = omega arith;
    })

pub returns-clause-value : goal.returns-clause-value
returns-clause-value c =
    inl (sym (ap spelled_point c.loop-line.invariant.text
    ∙ no_line_left c.loop-line.values c.loop-line.rest.now c.loop-line.invariant.wholes c.in_default.ensures
    ∙ ap (λ (n : ℕ). Err (Form n)) (sym c.loop-line.invariant.number)))
