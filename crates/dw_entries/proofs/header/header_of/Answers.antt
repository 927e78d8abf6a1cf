-- The header that was built is the one of the fields that were read.
use Rattle.std.proofs.Common.{ℕ, ◌+◌, drop, refl, sym, ap, ◌∙◌}
use Rattle.dw_base.specs.Cells.{cells_at, field_of, is_elsewhere, said_offset}
use Rattle.dw_base.specs.UnitHeaders.{further_size}
use Rattle.dw_entries.specs.ViewUnits.{unit_base, unit_section_at}
use Rattle.dw_entries.proofs.FrontLaws.{base-order}
use Rattle.dw_entries.proofs.OffsetLaws.{header-built, type-field}
use Rattle.dw_entries.proofs.header.header_of.Goals as goal

pub returns-clause-header : goal.returns-clause-header
returns-clause-header c =
    let front = c.args.front.now in
    let places = c.args.front.now.places in
    header-built (unit_base c.args.view.now) (unit_section_at c.args.view.now c.args.section) c.args.start c.args.section c.args.front.now.extent _
    c.args.front.now.version c.args.front.now.kind c.args.address c.in-Ok.offset.0 c.type_fields-signature.result.0 c.type_fields-signature.result.1 _
    c.args.front.now.width c.order-order.result
    (record { address = c.args.front.now.places.address; abbrevs = c.args.front.now.places.abbrevs; behind = c.args.front.now.places.behind }) c.in-Ok.offset.1
    (sym c.requires.of_view.number) refl (base-order c.args.view.now c.order-order.result c.order-order.ensures.order) c.requires.address
    (c.in-Ok.ensures.offset
    ∙ ap (λ (n : ℕ). said_offset (field_of (unit_base c.args.view.now).order
    (cells_at (drop c.args.start (unit_section_at c.args.view.now c.args.section).contents) c.args.front.now.places.abbrevs n))) c.offset_size.ensures.size)
    (c.in-Ok.ensures.elsewhere
    ∙ ap (λ (n : ℕ). is_elsewhere (unit_base c.args.view.now).abbrevs (field_of (unit_base c.args.view.now).order
    (cells_at (drop c.args.start (unit_section_at c.args.view.now c.args.section).contents) c.args.front.now.places.abbrevs n))) c.offset_size.ensures.size)
    (type-field c.args.view.now (unit_section_at c.args.view.now c.args.section) c.args.start c.args.front.now.kind c.from-kind.result c.args.front.now.places.behind 8 _
    c.order-order.result c.args.rest.now c.order-order.ensures.order c.requires.rest c.from-kind.ensures c.type_fields-signature.ensures.signature)
    (type-field c.args.view.now (unit_section_at c.args.view.now c.args.section) c.args.start c.args.front.now.kind c.from-kind.result (c.args.front.now.places.behind + 8) _ _
    c.order-order.result c.args.rest.now c.order-order.ensures.order c.requires.rest c.from-kind.ensures c.type_fields-signature.ensures.type_offset)
    (ap (λ (n : ℕ). c.args.start + c.args.front.now.places.behind + n) (c.further_size.ensures.size ∙ ap (further_size c.args.front.now.width) c.from-kind.ensures))
