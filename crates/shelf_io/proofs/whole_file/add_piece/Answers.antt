use Rattle.std.proofs.Common.{arith}
use Rattle.shelf_io.proofs.Fronts.{told_front_more}
use Rattle.shelf_io.proofs.whole_file.add_piece.Goals as goal

pub returns-clause-front : goal.returns-clause-front
returns-clause-front g c =
    rw c.in_ok-extend_from_slice.ensures.items (told_front_more _ _ _ c.read.new.into c.len.result c.in_ok-count.count (omega (arith, c.len.ensures, c.args.read.now.ok.0)) c.requires.front c.in_ok-count.ensures.bytes c.in_ok-count.ensures.count)
