use Rattle.std.proofs.Common.{◌≡◌, take, filter}
use Rattle.std.specs.Prelude.{pos}
use Rattle.ct_base.specs.Access.{signal_of}
use Rattle.program_model.specs.RuleRows.{may_follow}
use Rattle.lo_program.specs.inner.Bits.{bit_terms}
use Rattle.lo_program.proofs.rules.letters.terms_of_followers.Given as goal

abbrev pub invariant-loop-next : goal.invariant-loop-next
invariant-loop-next l = l.terms ≡ bit_terms l.net l.t l.bits.signal (pos 1) (filter (may_follow (signal_of l.net.signals l.bits.signal) l.letter) (take l.next-index l.bits.letters))
