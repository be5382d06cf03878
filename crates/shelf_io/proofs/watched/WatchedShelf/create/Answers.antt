use Rattle.std.proofs.Common.{refl, inr}
use Rattle.shelf_io.specs.declared.watched.Call.TheVariants.{Create}
use Rattle.shelf_io.proofs.Notes.{put_last}
use Rattle.shelf_io.proofs.watched.WatchedShelf.create.Goals as goal
use Rattle.shelf_io.proofs.watched.WatchedShelf.create.Goals.{in-Ok, in_default}

pub returns-clause-noted : goal.returns-clause-noted
returns-clause-noted g c = elim c.match-from_str.branch [
  | in-Ok w ↦ rw w.self-is (put_last _ _ c.args.name.now (λ text. Create text) w.in-Ok.text w.in-Ok.ensures.ok w.note.ensures)
  | in_default w ↦ rw w.self-is (inr refl)
]
