use Rattle.std.proofs.Common.{◌≡◌, Err, rules}
use Rattle.cert_check.proofs.CheckerLaws.{refused_is_large}
use Rattle.cert_check.proofs.line_checker.LineChecker.start.Goals as goal

pub returns-in_err-program-clause-refused : goal.returns-in_err-program-clause-refused
returns-in_err-program-clause-refused c = λ count is.
    let handed_on : c.from_residual.result ≡ Err c.in_err-program.field-0.0 = search rules in
    refused_is_large c.args.net.now c.in_err-program.field-0.0 count c.in_err-program.ensures.value cc
