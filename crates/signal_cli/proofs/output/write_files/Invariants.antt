use Rattle.std.proofs.Common.{◌≡◌, take}
use Rattle.signal_cli.specs.Worlds.{with_files}
use Rattle.signal_cli.proofs.output.write_files.Given as goal

-- the files so far stand
abbrev pub invariant-loop-file : goal.invariant-loop-file
invariant-loop-file g l = g.F.Shelf.state l.shelf ≡ with_files (g.F.Shelf.state l.initial.shelf) (take l.file-index l.files)
