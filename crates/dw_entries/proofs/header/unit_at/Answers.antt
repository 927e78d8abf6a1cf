-- The unit at a place, or why none can be read there.
use Rattle.dw_base.specs.declared.fault.Kind.TheVariants.{Unit as UnitKind}
use Rattle.dw_entries.specs.HeaderRows.{unread}
use Rattle.dw_entries.specs.ViewUnits.{unit_base, unit_section_at}
use Rattle.dw_entries.proofs.FrontLaws.{at-section, number-read}
use Rattle.dw_entries.proofs.HeaderLaws.{other_address, unit-offset, unit-read, unit-refused}
use Rattle.dw_entries.proofs.OffsetLaws.{rest-is, start-inside}
use Rattle.dw_entries.proofs.header.unit_at.Goals as goal

pub front_at-requires-clause-inside : goal.front_at-requires-clause-inside
front_at-requires-clause-inside c =
    start-inside c.args.view.now c.args.section c.args.start (unit_section_at c.args.view.now c.args.section) c.requires.of_view c.requires.inside

pub header_of-requires-clause-address : goal.header_of-requires-clause-address
header_of-requires-clause-address c =
    number-read c.args.view.now (unit_section_at c.args.view.now c.args.section) c.args.start c.in-Ok.front.places.address 1 c.number_in-address.result
    c.order.result c.bytes_behind-rest.result.now c.order.ensures.order
    (rest-is c.args.view.now c.args.section c.args.start (unit_section_at c.args.view.now c.args.section) c.bytes.result.now c.bytes_behind-rest.result.now
    c.requires.of_view c.bytes.ensures.bytes c.bytes_behind-rest.ensures.behind)
    c.number_in-address.ensures.value

pub returns-in-Err-clause-refused : goal.returns-in-Err-clause-refused
returns-in-Err-clause-refused c = unread c.in-Err.ensures.refused

pub returns-then-not-is_address_size-clause-refused : goal.returns-then-not-is_address_size-clause-refused
returns-then-not-is_address_size-clause-refused c =
    unread (other_address (unit_base c.args.view.now) (unit_section_at c.args.view.now c.args.section) c.args.start
    c.in-Ok.front.width c.in-Ok.front.extent c.in-Ok.front.version c.in-Ok.front.kind c.number_in-address.result _
    c.is_address_size.result c.at.result
    (at-section c.args.view.now c.args.section c.args.start (unit_section_at c.args.view.now c.args.section) UnitKind c.at.result c.requires.of_view c.at.ensures)
    c.in-Ok.ensures.front
    (number-read c.args.view.now (unit_section_at c.args.view.now c.args.section) c.args.start c.in-Ok.front.places.address 1 c.number_in-address.result
    c.order.result c.bytes_behind-rest.result.now c.order.ensures.order
    (rest-is c.args.view.now c.args.section c.args.start (unit_section_at c.args.view.now c.args.section) c.bytes.result.now c.bytes_behind-rest.result.now
    c.requires.of_view c.bytes.ensures.bytes c.bytes_behind-rest.ensures.behind)
    c.number_in-address.ensures.value)
    c.is_address_size.ensures c.if-not-is_address_size.true)

pub returns-in-Ok-header_of-clause-unit : goal.returns-in-Ok-header_of-clause-unit
returns-in-Ok-header_of-clause-unit c =
    unit-read (unit_base c.args.view.now) (unit_section_at c.args.view.now c.args.section) c.args.start
    c.in-Ok.front.width c.in-Ok.front.extent c.in-Ok.front.version c.in-Ok.front.kind c.number_in-address.result _
    c.is_address_size.result c.in-Ok-header_of.header c.in-Ok.ensures.front
    (start-inside c.args.view.now c.args.section c.args.start (unit_section_at c.args.view.now c.args.section) c.requires.of_view c.requires.inside)
    (number-read c.args.view.now (unit_section_at c.args.view.now c.args.section) c.args.start c.in-Ok.front.places.address 1 c.number_in-address.result
    c.order.result c.bytes_behind-rest.result.now c.order.ensures.order
    (rest-is c.args.view.now c.args.section c.args.start (unit_section_at c.args.view.now c.args.section) c.bytes.result.now c.bytes_behind-rest.result.now
    c.requires.of_view c.bytes.ensures.bytes c.bytes_behind-rest.ensures.behind)
    c.number_in-address.ensures.value)
    c.is_address_size.ensures c.if-not-is_address_size.false c.in-Ok-header_of.ensures.header

pub returns-in-Ok-header_of-clause-offset : goal.returns-in-Ok-header_of-clause-offset
returns-in-Ok-header_of-clause-offset c =
    unit-offset (unit_base c.args.view.now) (unit_section_at c.args.view.now c.args.section) c.args.start
    c.in-Ok.front.width c.in-Ok.front.extent c.in-Ok.front.version c.in-Ok.front.kind _ c.in-Ok.ensures.front c.in-Ok-header_of.ensures.read

pub returns-in-Err-header_of-clause-refused : goal.returns-in-Err-header_of-clause-refused
returns-in-Err-header_of-clause-refused c =
    unit-refused (unit_base c.args.view.now) (unit_section_at c.args.view.now c.args.section) c.args.start
    c.in-Ok.front.width c.in-Ok.front.extent c.in-Ok.front.version c.in-Ok.front.kind c.number_in-address.result _
    c.is_address_size.result c.in-Err-header_of.refusal c.in-Ok.ensures.front
    (start-inside c.args.view.now c.args.section c.args.start (unit_section_at c.args.view.now c.args.section) c.requires.of_view c.requires.inside)
    (number-read c.args.view.now (unit_section_at c.args.view.now c.args.section) c.args.start c.in-Ok.front.places.address 1 c.number_in-address.result
    c.order.result c.bytes_behind-rest.result.now c.order.ensures.order
    (rest-is c.args.view.now c.args.section c.args.start (unit_section_at c.args.view.now c.args.section) c.bytes.result.now c.bytes_behind-rest.result.now
    c.requires.of_view c.bytes.ensures.bytes c.bytes_behind-rest.ensures.behind)
    c.number_in-address.ensures.value)
    c.is_address_size.ensures c.if-not-is_address_size.false c.in-Err-header_of.ensures.refused
