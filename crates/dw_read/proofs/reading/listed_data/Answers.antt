-- What was read, by slices of it.
use Rattle.std.proofs.Common.{◌∙◌}
use Rattle.dw_read.proofs.ReadDataLaws.{data-is, slice-found}
use Rattle.dw_read.proofs.reading.listed_data.Goals as goal

pub found_fields-requires-clause-starts : goal.found_fields-requires-clause-starts
found_fields-requires-clause-starts c = c.as_slice.ensures.value ∙ c.in_ok-starts.ensures

pub returns-clause-data : goal.returns-clause-data
returns-clause-data c =
    data-is c.args.view.now _ c.in_ok-fields.fields c.in_ok-fields.marks c.as_slice-tables.result.now c.as_slice-tables.ensures.value c.in_ok-fields.ensures.found c.requires.macros
    c.in_ok-contributions.ensures.read c.in_ok-starts.ensures

pub returns-clause-found : goal.returns-clause-found
returns-clause-found c =
    slice-found c.args.view.now c.in_ok-fields.fields c.in_ok-fields.marks c.args.lines.items c.as_slice-tables.result.now c.as_slice-tables.ensures.value c.in_ok-fields.ensures.found
