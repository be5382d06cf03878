use Rattle.std.proofs.Common.{ap, ◌∙◌, sym, Some}
use Rattle.shelf_io.proofs.NamedFiles.{get_none, get_found}
use Rattle.shelf_io.proofs.file_map.FileMap.get.Goals as goal

pub returns-in_err-place : goal.returns-in_err-place
returns-in_err-place c =
    rw c.from_residual.ensures (rw (← c.self.view_is) (get_none _ c.args.name.now (sym (rw c.as_slice.ensures.value at c.in_err-place.ensures))))

pub returns : goal.returns
returns c =
    rw (← c.self.view_is) (get_found _ c.args.name.now c.in_ok-place.place c.index.result.now (sym (rw c.as_slice.ensures.value at c.in_ok-place.ensures))
    ∙ ap (λ file. Some file.bytes) (sym c.index.ensures) ∙ ap Some (sym c.as_slice-2.ensures))
