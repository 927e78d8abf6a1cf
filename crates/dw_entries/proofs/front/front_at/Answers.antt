-- Why no unit can be read at a place: what was read there, in the words of the section.
use Rattle.dw_base.specs.declared.fault.Kind.TheVariants.{Unit as UnitKind, SplitDwarf}
use Rattle.dw_entries.specs.ViewUnits.{as_kind, unit_base, unit_section_at}
use Rattle.dw_entries.proofs.FrontLaws.{at-section, length-read, number-read, type-read, length-small, kind-known, few-left, enough-left, sum-of}
use Rattle.dw_entries.proofs.HeaderLaws.{no_length, cut, passes, other_version, other_type, is_split, too_short}
use Rattle.dw_entries.proofs.front.front_at.Goals as goal

pub returns-in_default-clause-refused : goal.returns-in_default-clause-refused
returns-in_default-clause-refused c =
    no_length (unit_base c.args.view.now) (unit_section_at c.args.view.now c.args.section) c.args.start c.at.result (at-section c.args.view.now c.args.section c.args.start (unit_section_at c.args.view.now c.args.section) UnitKind c.at.result c.requires.of_view c.at.ensures)
    (length-read c.args.view.now (unit_section_at c.args.view.now c.args.section) c.args.start c.order-order.result c.args.rest.now _ c.order-order.ensures.order c.requires.rest c.in_default.ensures.value)

pub returns-then-left-lt3-clause-refused : goal.returns-then-left-lt3-clause-refused
returns-then-left-lt3-clause-refused c =
    cut (unit_base c.args.view.now) (unit_section_at c.args.view.now c.args.section) c.args.start c.in-Some.width c.in-Some.size c.in-Some.at c.at-then-left-lt3.result (at-section c.args.view.now c.args.section c.args.start (unit_section_at c.args.view.now c.args.section) UnitKind c.at-then-left-lt3.result c.requires.of_view c.at-then-left-lt3.ensures)
    (length-read c.args.view.now (unit_section_at c.args.view.now c.args.section) c.args.start c.order-order.result c.args.rest.now _ c.order-order.ensures.order c.requires.rest c.in-Some.ensures.value)
    (few-left c.args.rest.now _ c.in-Some.at 3 c.requires.rest c.in-Some.ensures.inside c.if-left-lt3.true)

pub returns-then-left-size-clause-refused : goal.returns-then-left-size-clause-refused
returns-then-left-size-clause-refused c =
    passes (unit_base c.args.view.now) (unit_section_at c.args.view.now c.args.section) c.args.start c.in-Some.width c.in-Some.size c.in-Some.at c.at-then-left-size.result (at-section c.args.view.now c.args.section c.args.start (unit_section_at c.args.view.now c.args.section) UnitKind c.at-then-left-size.result c.requires.of_view c.at-then-left-size.ensures)
    (length-read c.args.view.now (unit_section_at c.args.view.now c.args.section) c.args.start c.order-order.result c.args.rest.now _ c.order-order.ensures.order c.requires.rest c.in-Some.ensures.value) c.requires.inside
    (few-left c.args.rest.now _ c.in-Some.at c.in-Some.size c.requires.rest c.in-Some.ensures.inside c.if-left-size.true)

pub returns-then-not-is_version-clause-refused : goal.returns-then-not-is_version-clause-refused
returns-then-not-is_version-clause-refused c =
    other_version (unit_base c.args.view.now) (unit_section_at c.args.view.now c.args.section) c.args.start c.in-Some.width c.in-Some.size c.in-Some.at c.number_in-version.result c.is_version.result c.at-then-not-is_version.result (at-section c.args.view.now c.args.section c.args.start (unit_section_at c.args.view.now c.args.section) UnitKind c.at-then-not-is_version.result c.requires.of_view c.at-then-not-is_version.ensures)
    (length-read c.args.view.now (unit_section_at c.args.view.now c.args.section) c.args.start c.order-order.result c.args.rest.now _ c.order-order.ensures.order c.requires.rest c.in-Some.ensures.value)
    (number-read c.args.view.now (unit_section_at c.args.view.now c.args.section) c.args.start c.in-Some.at 2 c.number_in-version.result c.order-order.result c.args.rest.now c.order-order.ensures.order c.requires.rest c.number_in-version.ensures.value)
    (kind-known (unit_section_at c.args.view.now c.args.section) (as_kind c.args.kind) c.number_in-version.result c.is_version.result c.requires.kind c.is_version.ensures)
    c.if-not-is_version.true

pub returns-then-not-is_unit_type-clause-refused : goal.returns-then-not-is_unit_type-clause-refused
returns-then-not-is_unit_type-clause-refused c =
    other_type (unit_base c.args.view.now) (unit_section_at c.args.view.now c.args.section) c.args.start c.in-Some.width c.in-Some.size c.in-Some.at c.number_in-version.result c.unit_type_at-unit_type.result c.is_unit_type.result c.at-then-not-is_unit_type.result (at-section c.args.view.now c.args.section c.args.start (unit_section_at c.args.view.now c.args.section) UnitKind c.at-then-not-is_unit_type.result c.requires.of_view c.at-then-not-is_unit_type.ensures)
    (length-read c.args.view.now (unit_section_at c.args.view.now c.args.section) c.args.start c.order-order.result c.args.rest.now _ c.order-order.ensures.order c.requires.rest c.in-Some.ensures.value)
    (number-read c.args.view.now (unit_section_at c.args.view.now c.args.section) c.args.start c.in-Some.at 2 c.number_in-version.result c.order-order.result c.args.rest.now c.order-order.ensures.order c.requires.rest c.number_in-version.ensures.value)
    (type-read c.args.view.now (unit_section_at c.args.view.now c.args.section) c.args.start c.number_in-version.result c.in-Some.at c.unit_type_at-unit_type.result c.order-order.result (as_kind c.args.kind) c.args.rest.now c.order-order.ensures.order c.requires.rest c.requires.kind c.unit_type_at-unit_type.ensures)
    c.is_unit_type.ensures c.if-not-is_unit_type.true

pub returns-then-is_split_type-clause-refused : goal.returns-then-is_split_type-clause-refused
returns-then-is_split_type-clause-refused c =
    is_split (unit_base c.args.view.now) (unit_section_at c.args.view.now c.args.section) c.args.start c.in-Some.width c.in-Some.size c.in-Some.at c.number_in-version.result c.unit_type_at-unit_type.result c.is_version.result c.is_split_type.result c.at-then-is_split_type.result (at-section c.args.view.now c.args.section c.args.start (unit_section_at c.args.view.now c.args.section) SplitDwarf c.at-then-is_split_type.result c.requires.of_view c.at-then-is_split_type.ensures)
    (length-read c.args.view.now (unit_section_at c.args.view.now c.args.section) c.args.start c.order-order.result c.args.rest.now _ c.order-order.ensures.order c.requires.rest c.in-Some.ensures.value)
    (enough-left c.args.rest.now _ c.in-Some.at 3 c.requires.rest c.in-Some.ensures.inside c.if-left-lt3.false)
    (number-read c.args.view.now (unit_section_at c.args.view.now c.args.section) c.args.start c.in-Some.at 2 c.number_in-version.result c.order-order.result c.args.rest.now c.order-order.ensures.order c.requires.rest c.number_in-version.ensures.value)
    (kind-known (unit_section_at c.args.view.now c.args.section) (as_kind c.args.kind) c.number_in-version.result c.is_version.result c.requires.kind c.is_version.ensures)
    c.if-not-is_version.false
    (type-read c.args.view.now (unit_section_at c.args.view.now c.args.section) c.args.start c.number_in-version.result c.in-Some.at c.unit_type_at-unit_type.result c.order-order.result (as_kind c.args.kind) c.args.rest.now c.order-order.ensures.order c.requires.rest c.requires.kind c.unit_type_at-unit_type.ensures)
    c.is_split_type.ensures c.if-is_split_type.true

pub returns-then-at-size-clause-refused : goal.returns-then-at-size-clause-refused
returns-then-at-size-clause-refused c =
    too_short (unit_base c.args.view.now) (unit_section_at c.args.view.now c.args.section) c.args.start c.in-Some.width c.in-Some.size c.in-Some.at c.number_in-version.result c.unit_type_at-unit_type.result _ c.at-then-at-size.result (at-section c.args.view.now c.args.section c.args.start (unit_section_at c.args.view.now c.args.section) UnitKind c.at-then-at-size.result c.requires.of_view c.at-then-at-size.ensures)
    (length-read c.args.view.now (unit_section_at c.args.view.now c.args.section) c.args.start c.order-order.result c.args.rest.now _ c.order-order.ensures.order c.requires.rest c.in-Some.ensures.value)
    (number-read c.args.view.now (unit_section_at c.args.view.now c.args.section) c.args.start c.in-Some.at 2 c.number_in-version.result c.order-order.result c.args.rest.now c.order-order.ensures.order c.requires.rest c.number_in-version.ensures.value)
    (type-read c.args.view.now (unit_section_at c.args.view.now c.args.section) c.args.start c.number_in-version.result c.in-Some.at c.unit_type_at-unit_type.result c.order-order.result (as_kind c.args.kind) c.args.rest.now c.order-order.ensures.order c.requires.rest c.requires.kind c.unit_type_at-unit_type.ensures)
    (sum-of c.places_of-places.ensures.behind c.further_size.ensures.size) c.if-at-size.true

pub places_of-places-requires : goal.places_of-places-requires
places_of-places-requires c =
    record { small = length-small c.order-order.result c.args.rest.now 0 _ c.in-Some.ensures.value }
