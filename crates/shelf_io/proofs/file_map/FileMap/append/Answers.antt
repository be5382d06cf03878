use Rattle.std.proofs.Common.{◌∙◌, sym}
use Rattle.std.proofs.lemmas.Result.{on_ok_weaker}
use Rattle.shelf_io.proofs.NamedFiles.{is_found, files_of-append}
use Rattle.shelf_io.proofs.file_map.FileMap.append.Goals as goal

pub unwrap-place-requires : goal.unwrap-place-requires
unwrap-place-requires c =
    is_found c.self.inside.files.items c.args.name.now _ (rw c.as_slice.ensures.value at c.place_of.ensures) (rw (← c.self.view_is) at c.requires)

pub returns-clause-ok : goal.returns-clause-ok
returns-clause-ok c =
    let found = sym c.unwrap-place.ensures ∙ (rw c.as_slice.ensures.value at c.place_of.ensures) in
    on_ok_weaker c.extend.result
    (λ longer. rw (← c.self.view_is) (files_of-append _ c.args.name.now c.unwrap-place.result c.index_mut.result.now c.args.bytes.now _ (sym found) c.index_mut.ensures.value longer))
    c.extend.ensures.ok
