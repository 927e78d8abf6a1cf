-- The parts of a table that was read lie in its section, and its program is whole.
use Rattle.dw_rows.proofs.TableLaws.{counts-inside, end-inside, program-before, small-start, some-base, start-fits, start-is, start-whole, table-bytes}
use Rattle.dw_rows.proofs.rows.Rows.new.Goals as goal

pub counts_in-requires-clause-start : goal.counts_in-requires-clause-start
counts_in-requires-clause-start c =
    small-start c.args.view.now c.args.table.now c.bytes-bytes.result.now c.requires.table
    (table-bytes c.args.view.now c.args.table.now c.section_of-section.result c.bytes-bytes.result.now c.bytes-bytes.ensures.bytes c.section_of-section.ensures)
    c.bytes-bytes.ensures.small

pub counts_in-requires-clause-some : goal.counts_in-requires-clause-some
counts_in-requires-clause-some c = some-base c.args.view.now c.args.table.now c.requires.table

pub counts_in-requires-clause-inside : goal.counts_in-requires-clause-inside
counts_in-requires-clause-inside c =
    counts-inside c.args.view.now c.args.table.now c.bytes-bytes.result.now c.requires.table
    (table-bytes c.args.view.now c.args.table.now c.section_of-section.result c.bytes-bytes.result.now c.bytes-bytes.ensures.bytes c.section_of-section.ensures)

pub program_in-requires-clause-order : goal.program_in-requires-clause-order
program_in-requires-clause-order c = program-before c.args.view.now c.args.table.now c.requires.table

pub program_in-requires-clause-inside : goal.program_in-requires-clause-inside
program_in-requires-clause-inside c =
    end-inside c.args.view.now c.args.table.now c.bytes-bytes.result.now c.requires.table
    (table-bytes c.args.view.now c.args.table.now c.section_of-section.result c.bytes-bytes.result.now c.bytes-bytes.ensures.bytes c.section_of-section.ensures)

pub invariant_of-result : goal.invariant_of-result
invariant_of-result c =
    start-fits c.args.view.now c.args.table.now c.section_of-section.result c.program_place.result c.order.result c.params_of-params.result c.bytes-bytes.result.now
    c.counts_in.result.now c.program_in.result.now c.start_registers.result c.requires.table c.section_of-section.ensures c.bytes-bytes.ensures.small c.bytes-bytes.ensures.bytes
    c.program_place.ensures c.order.ensures.order c.params_of-params.ensures.params c.counts_in.ensures.counts c.program_in.ensures.program c.start_registers.ensures.index

pub returns-clause-start : goal.returns-clause-start
returns-clause-start c =
    start-is c.args.view.now c.args.table.now c.section_of-section.result c.program_place.result c.order.result c.params_of-params.result c.bytes-bytes.result.now
    c.counts_in.result.now c.program_in.result.now c.start_registers.result c.requires.table c.section_of-section.ensures c.bytes-bytes.ensures.bytes c.program_place.ensures
    c.order.ensures.order c.params_of-params.ensures.params c.counts_in.ensures.counts c.program_in.ensures.program c.start_registers.ensures.registers

pub returns-clause-whole : goal.returns-clause-whole
returns-clause-whole c =
    start-whole c.args.view.now c.args.table.now _ c.requires.table
    (start-is c.args.view.now c.args.table.now c.section_of-section.result c.program_place.result c.order.result c.params_of-params.result c.bytes-bytes.result.now
    c.counts_in.result.now c.program_in.result.now c.start_registers.result c.requires.table c.section_of-section.ensures c.bytes-bytes.ensures.bytes c.program_place.ensures
    c.order.ensures.order c.params_of-params.ensures.params c.counts_in.ensures.counts c.program_in.ensures.program c.start_registers.ensures.registers)
