-- What the text of a certificate deserves for a network (docs/certificate.md, "What is accepted").
use Rattle.std.specs.Prelude.{◌≡◌, ℕ, List, [], ◌∷◌, Result, Ok, Err}
use Rattle.ct_base.specs.declared.net.Net.{Net}
use Rattle.lo_program.specs.Compiled.{size_faults}
use Rattle.lo_program.specs.declared.fault.CompileFault.{CompileFault}
use Rattle.lo_program.specs.declared.fault.CompileFault.TheVariants.{TooLarge, Memory}
use Rattle.certificate_model.specs.Verdicts.{IsVerdict}
use Rattle.certificate_model.specs.declared.verdict.Verdict.{Verdict}

-- the network's program is too large, or the text has this verdict; or memory was wanting, which says nothing
abbrev pub Deserves : Net → List ℕ → Result Verdict CompileFault → Type 0
Deserves net text (Ok verdict) = (size_faults net ≡ []) × IsVerdict net text verdict
Deserves net text (Err (TooLarge rows)) = size_faults net ≡ TooLarge rows ∷ []
Deserves net text (Err Memory) = Unit {0}
