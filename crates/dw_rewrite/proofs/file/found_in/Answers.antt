-- What is said of texts in the view is what the file says, where a map can be applied to it.
use Rattle.std.proofs.lemmas.Result.{err_from_is_err_and}
use Rattle.dw_rewrite.proofs.ExitLaws.{found_paths, refused_data, refused_map, slice_fields}
use Rattle.dw_rewrite.proofs.file.found_in.Goals as goal

pub returns-in_err-data-clause-refused : goal.returns-in_err-data-clause-refused
returns-in_err-data-clause-refused c =
    let p = err_from_is_err_and c.from_residual.result c.from_residual.ensures.1 in
    rw (p.1, p.2) (refused_data c.args.maps.now c.args.elf.now.bytes.now c.args.view.now _ c.requires.checked c.requires.view c.in_err-data.ensures.refused)

pub check_map-requires : goal.check_map-requires
check_map-requires c = record {
  found = slice_fields c.args.view.now _ _ _ c.as_slice.result.now c.as_slice.ensures.value c.in_ok-data.ensures.found;
}

pub returns-in_err-check_map-clause-refused : goal.returns-in_err-check_map-clause-refused
returns-in_err-check_map-clause-refused c =
    let p = err_from_is_err_and c.from_residual-in_err-check_map.result c.from_residual-in_err-check_map.ensures.1 in
    rw (p.1, p.2) (refused_map c.args.maps.now c.args.elf.now.bytes.now c.args.view.now _ c.requires.checked c.requires.view c.in_err-check_map.ensures.refused)

pub returns-clause-found : goal.returns-clause-found
returns-clause-found c =
    found_paths c.args.maps.now c.args.elf.now.bytes.now c.args.view.now _ _ c.as_slice.result.now c.requires.view c.as_slice.ensures.value c.in_ok-check_map.ensures.found

pub returns-clause-starts : goal.returns-clause-starts
returns-clause-starts c = c.in_ok-data.ensures.data.starts
