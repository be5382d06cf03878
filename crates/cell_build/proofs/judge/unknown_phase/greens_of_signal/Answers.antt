use Rattle.cell_build.proofs.judge.unknown_phase.greens_of_signal.Goals as goal

pub returns : goal.returns
returns c = rw (← c.as_str.ensures, ← c.phases_of.ensures) c.unknown_greens.ensures
