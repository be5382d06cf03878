use Rattle.cert_check.proofs.judging.fixed.fixed_reason.Goals as goal

pub returns-in-Err-clause-reason : goal.returns-in-Err-clause-reason
returns-in-Err-clause-reason c = let h = rw c.in-Err.is at c.in_ok-delay.ensures in h.found c.args.bound
