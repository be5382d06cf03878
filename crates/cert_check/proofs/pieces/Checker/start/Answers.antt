use Rattle.std.proofs.Common.{◌∙◌, refl}
use Rattle.cert_check.proofs.WalkedLaws.{none_walked}
use Rattle.cert_check.proofs.pieces.Checker.start.Goals as goal

pub returns-clause-stands : goal.returns-clause-stands
returns-clause-stands c = record {
  walked = none_walked c.args.net.now c.in_ok-lines.lines c.new.result c.in_ok-lines.ensures.of c.in_ok-lines.ensures.standing c.in_ok-lines.ensures.line
      c.new.ensures.bytes (c.new.ensures.most ∙ c.most_pairs-most.ensures);
  taken = refl;
  lasts = refl;
}
