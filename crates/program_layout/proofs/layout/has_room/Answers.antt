use Rattle.program_layout.proofs.LayoutLaws.{rooms_kept}
use Rattle.program_layout.proofs.layout.has_room.Goals as goal

pub bounds-as_slice-i : goal.bounds-as_slice-i
bounds-as_slice-i c = (rooms_kept c.args.net.now c.args.layout.now c.as_slice.result.now c.args.i c.requires.layout c.as_slice.ensures c.requires.inside).0

pub returns : goal.returns
returns c = (rooms_kept c.args.net.now c.args.layout.now c.as_slice.result.now c.args.i c.requires.layout c.as_slice.ensures c.requires.inside).1
