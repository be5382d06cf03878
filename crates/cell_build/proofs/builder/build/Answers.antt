-- The network and the names are those of the file, which fit each other.
use Rattle.std.proofs.Common.{rules, ◌≡◌, inl, refl, subst, sym, ap, ◌∙◌, Ok}
use Rattle.ct_base.specs.declared.net.Net.{Net}
use Rattle.network_file.specs.declared.raw.RawNet.{RawNet}
use Rattle.cell_build.specs.Built.{built, named_of}
use Rattle.cell_build.specs.Refusals.{faults_of}
use Rattle.refusals.proofs.Memory.{made_without_fault, refused_as_well}
use Rattle.named_net.specs.Naming.{IsNamed, NameTable, Named}
use Rattle.cell_build.specs.Naming.{names_of}
use Rattle.cell_build.proofs.NamedLaws.{named_is_named}
use Rattle.cell_build.proofs.builder.build.Goals as goal

-- a network with names, where both are those of a file
same_named : (raw : RawNet) (net : Net) (names : NameTable) → net ≡ (named_of raw).net → names ≡ names_of raw → ◌≡◌ {A = Named} (record { net = net; names = names }) (named_of raw)
unfolding named_of
same_named raw net names same_net same_names = rw (same_net, same_names) refl

pub returns-in_err-net : goal.returns-in_err-net
unfolding built
returns-in_err-net c = refused_as_well _ c.in_err-net.field-0.0 (faults_of c.args.raw) _ _ c.from_residual.result (search rules) c.in_err-net.ensures

pub new-requires : goal.new-requires
new-requires c =
    let made = made_without_fault _ (faults_of c.args.raw) _ c.in_ok-net.net c.in_ok-net.ensures in
    subst IsNamed (sym (same_named c.args.raw c.in_ok-net.net c.in_ok-names.names made.1 c.in_ok-names.ensures)) (named_is_named c.args.raw c.requires made.0)

pub returns : goal.returns
unfolding built
returns c =
    let made = made_without_fault _ (faults_of c.args.raw) _ c.in_ok-net.net c.in_ok-net.ensures in
    inl (rw made.0 (ap Ok (same_named c.args.raw c.new.result.net c.new.result.names (c.new.ensures.net ∙ made.1) (c.new.ensures.names ∙ c.in_ok-names.ensures))))
