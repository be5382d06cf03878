-- A line is its words: the first, and what stands behind it.
use Rattle.std.proofs.Common.{sym, ◌∙◌}
use Rattle.plan_file.proofs.LineLaws.{line_of_cut, line_of_word}
use Rattle.plan_file.proofs.line.line_of.Goals as goal

pub returns-in-Some : goal.returns-in-Some
returns-in-Some c =
    c.two_words.ensures
    ∙ line_of_cut c.args.bytes.now c.in-Some.first.now c.in-Some.second.now (sym c.if-eq.ensures) c.in-Some.ensures

pub returns-in-None-2 : goal.returns-in-None-2
returns-in-None-2 c = line_of_word c.args.bytes.now (sym c.if-eq.ensures) (sym c.if-eq-2.ensures) c.in-None.ensures
