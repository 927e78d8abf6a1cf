-- There is one output, its meaning is kept, and what is loaded of it, and no text is left; a layout that is refused has a row.
use Rattle.std.proofs.Common.{subst}
use Rattle.std.proofs.lemmas.Result.{err_from_is_err_and}
use Rattle.dw_base.specs.Paths.{IsPathMap}
use Rattle.dw_rewrite.proofs.ExitLaws.{made_accepted, made_leavings, made_loaded, made_meaning, made_output, made_stand, one_output, refused_written}
use Rattle.dw_rewrite.proofs.file.rewrite_checked.Goals as goal

pub returns-in_err-tables-clause-refused : goal.returns-in_err-tables-clause-refused
returns-in_err-tables-clause-refused c =
    let p = err_from_is_err_and c.from_residual.result c.from_residual.ensures.1 in
    rw (p.1, p.2) c.in_err-tables.ensures.refused

pub emitted-requires-clause-stand : goal.emitted-requires-clause-stand
emitted-requires-clause-stand c = made_stand c.args.maps.now c.args.elf.now.bytes.now c.in_ok-tables.bodies.items c.in_ok-tables.ensures.made

pub returns-in_err-file-clause-refused : goal.returns-in_err-file-clause-refused
returns-in_err-file-clause-refused c =
    let p = err_from_is_err_and c.from_residual-in_err-file.result c.from_residual-in_err-file.ensures.1 in
    rw (p.1, p.2) (refused_written c.args.maps.now c.args.elf.now.bytes.now c.in_ok-tables.bodies.items c.in_err-file.field-0.0 (subst IsPathMap c.maps.view_is c.maps.invariant)
    c.requires.checked c.in_ok-tables.ensures.made c.in_err-file.ensures.refused)

pub returns-clause-accepted : goal.returns-clause-accepted
returns-clause-accepted c =
    made_accepted c.args.maps.now c.args.elf.now.bytes.now c.in_ok-tables.bodies.items (subst IsPathMap c.maps.view_is c.maps.invariant) c.requires.checked
    c.in_ok-tables.ensures.made c.in_ok-file.ensures.fits

pub returns-clause-output : goal.returns-clause-output
returns-clause-output c =
    made_output c.args.maps.now c.args.elf.now.bytes.now c.in_ok-tables.bodies.items c.in_ok-file.file (subst IsPathMap c.maps.view_is c.maps.invariant)
    c.requires.checked c.in_ok-tables.ensures.made c.in_ok-file.ensures.file

pub returns-clause-only : goal.returns-clause-only
returns-clause-only c =
    one_output _ _ _
    (made_output c.args.maps.now c.args.elf.now.bytes.now c.in_ok-tables.bodies.items c.in_ok-file.file (subst IsPathMap c.maps.view_is c.maps.invariant)
    c.requires.checked c.in_ok-tables.ensures.made c.in_ok-file.ensures.file)

pub returns-clause-meaning : goal.returns-clause-meaning
returns-clause-meaning c =
    made_meaning c.args.maps.now c.args.elf.now.bytes.now c.in_ok-tables.bodies.items c.in_ok-file.file (subst IsPathMap c.maps.view_is c.maps.invariant)
    c.requires.checked c.in_ok-tables.ensures.made c.in_ok-file.ensures.fits c.in_ok-file.ensures.file c.in_ok-file.ensures.back

pub returns-clause-loaded : goal.returns-clause-loaded
returns-clause-loaded c =
    made_loaded c.args.maps.now c.args.elf.now.bytes.now c.in_ok-tables.bodies.items c.in_ok-file.file (subst IsPathMap c.maps.view_is c.maps.invariant)
    c.requires.checked c.in_ok-tables.ensures.made c.in_ok-file.ensures.fits c.in_ok-file.ensures.back

pub returns-clause-leavings : goal.returns-clause-leavings
returns-clause-leavings c =
    made_leavings c.args.maps.now c.args.elf.now.bytes.now c.in_ok-tables.bodies.items c.in_ok-file.file (subst IsPathMap c.maps.view_is c.maps.invariant)
    c.requires.checked c.in_ok-tables.ensures.made c.in_ok-file.ensures.fits c.in_ok-file.ensures.file c.in_ok-file.ensures.back
