use Rattle.std.proofs.Common.{rules, inl, ap, Ok, ◌∙◌}
use Rattle.network_file.specs.declared.raw.RawNet.{RawNet}
use Rattle.cell_build.specs.Built.{named_of}
use Rattle.cell_build.specs.Refusals.{faults_of}
use Rattle.refusals.proofs.Memory.{made_without_fault, refused_as_well}
use Rattle.cell_build.proofs.builder.judged_net.Goals as goal

pub returns-in_err-judge : goal.returns-in_err-judge
returns-in_err-judge c =
    refused_as_well _ c.in_err-judge.field-0.0 (faults_of c.args.raw.now) _ _ c.from_residual-in_err-judge.result (search rules) (rw c.in_ok-raw.ensures at c.in_err-judge.ensures)

pub returns : goal.returns
returns c =
    let made = made_without_fault _ (faults_of c.args.raw.now) _ c.in_ok-judge.field-0 (rw c.in_ok-raw.ensures at c.in_ok-judge.ensures) in
    inl (rw made.0 (ap Ok (c.in_ok-net_of.ensures ∙ ap (λ (raw : RawNet). (named_of raw).net) c.in_ok-raw.ensures)))
