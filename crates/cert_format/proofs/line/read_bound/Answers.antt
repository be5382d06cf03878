-- The first word decides; a number that has a space in it is none.
use Rattle.std.proofs.Common.{sym, ◌∙◌, true, false}
use Rattle.cert_format.proofs.LineLaws.{bound_by, no_bound}
use Rattle.cert_format.proofs.line.read_bound.Goals as goal

pub returns-then-eq : goal.returns-then-eq
returns-then-eq c = c.whole.ensures.value ∙ sym (bound_by c.args.line.now c.in-Some.word.now c.in-Some.number.now true c.in-Some.ensures (sym c.if-eq.ensures))

pub returns-else-eq : goal.returns-else-eq
returns-else-eq c = sym (bound_by c.args.line.now c.in-Some.word.now c.in-Some.number.now false c.in-Some.ensures (sym c.if-eq.ensures))

pub returns-in-None : goal.returns-in-None
returns-in-None c = sym (no_bound c.args.line.now c.in-None.ensures)
