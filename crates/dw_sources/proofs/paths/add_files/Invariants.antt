use Rattle.dw_base.specs.DebugData.{line_source}
use Rattle.dw_base.specs.ViewData.{debug_data}
use Rattle.dw_sources.proofs.PathLaws.{FilesPass}
use Rattle.dw_sources.proofs.paths.add_files.Given as goal

abbrev pub invariant-loop-file : goal.invariant-loop-file
invariant-loop-file l =
    FilesPass (line_source (debug_data l.view)) l.fronts l.folder l.table l.files l.file-index l.fn.names l.names
