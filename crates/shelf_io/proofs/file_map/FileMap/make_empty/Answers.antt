use Rattle.std.proofs.Common.{sym}
use Rattle.shelf_io.proofs.NamedFiles.{files_of-set, files_of-push}
use Rattle.shelf_io.proofs.file_map.FileMap.make_empty.Goals as goal

pub returns-in-Some-clause-ok : goal.returns-in-Some-clause-ok
returns-in-Some-clause-ok c =
    rw (c.new.ensures, ← c.self.view_is) (files_of-set _ c.args.name.now c.in-Some.place c.index_mut.result.now _ (sym (rw c.as_slice.ensures.value at c.in-Some.ensures)) c.index_mut.ensures.value)

pub returns-in_ok-push-in-None-clause-ok : goal.returns-in_ok-push-in-None-clause-ok
returns-in_ok-push-in-None-clause-ok c =
    rw (c.in_ok-push-in-None.ensures.items, c.in_ok-from_str-in-None.ensures, c.new-in-None.ensures, ← c.self.view_is) (files_of-push _ _ (sym (rw c.as_slice.ensures.value at c.in-None.ensures)))
