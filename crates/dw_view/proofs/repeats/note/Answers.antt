-- What was looked up under the section's number is said once for both outcomes.
use Rattle.std.proofs.Common.{get_or, refl}
use Rattle.dw_view.proofs.RepeatLaws.{LookedUp, looked_up, noted-further, noted-inactive, noted-repeated, noted-unlisted, refused_twice}
use Rattle.dw_view.proofs.repeats.note.Goals as goal

pub returns-then-firsts-number-ne0-clause-refused : goal.returns-then-firsts-number-ne0-clause-refused
returns-then-firsts-number-ne0-clause-refused c =
    let up : LookedUp c.args.elf.now.bytes.now c.args.index c.listed_number-number.result =
    looked_up c.args.elf.now.bytes.now c.name_front-front.result.now c.args.index c.listed_number-number.result c.section.result
    c.is_active.result c.may_repeat.result c.requires.there c.section.ensures c.is_active.ensures c.if-not-is_active.false
    c.name_front-front.ensures c.listed_number-number.ensures.number c.if-number-eq-LISTED_COUNT.false
    c.listed_number-number.ensures.few c.may_repeat.ensures c.if-may_repeat.false in
    refused_twice c.args.elf.now.bytes.now c.args.firsts.now c.args.index c.listed_number-number.result
    (get_or c.args.firsts.now c.listed_number-number.result 0) c.at.result c.requires.noted up refl
    c.if-firsts-number-ne0.true c.at.ensures

pub returns-clause-noted : goal.returns-clause-noted
returns-clause-noted c =
    let up : LookedUp c.args.elf.now.bytes.now c.args.index c.listed_number-number.result =
    looked_up c.args.elf.now.bytes.now c.name_front-front.result.now c.args.index c.listed_number-number.result c.section.result
    c.is_active.result c.may_repeat.result c.requires.there c.section.ensures c.is_active.ensures c.if-not-is_active.false
    c.name_front-front.ensures c.listed_number-number.ensures.number c.if-number-eq-LISTED_COUNT.false
    c.listed_number-number.ensures.few c.may_repeat.ensures c.if-may_repeat.false in
    noted-further c.args.elf.now.bytes.now c.args.firsts.now _ c.args.index c.listed_number-number.result
    (get_or c.args.firsts.now c.listed_number-number.result 0) c.requires.noted c.args.elf.now.is_elf.reads up c.requires.size refl
    c.if-firsts-number-ne0.false refl

-- A section that isn't looked up is passed.
pub returns-then-not-is_active-clause-noted : goal.returns-then-not-is_active-clause-noted
returns-then-not-is_active-clause-noted c =
    noted-inactive c.args.elf.now.bytes.now c.args.firsts.now c.args.index c.section.result c.is_active.result c.requires.noted c.section.ensures
    c.is_active.ensures c.if-not-is_active.true

pub returns-then-number-eq-LISTED_COUNT-clause-noted : goal.returns-then-number-eq-LISTED_COUNT-clause-noted
returns-then-number-eq-LISTED_COUNT-clause-noted c =
    noted-unlisted c.args.elf.now.bytes.now c.args.firsts.now c.name_front-front.result.now c.args.index c.listed_number-number.result c.requires.noted
    c.name_front-front.ensures c.listed_number-number.ensures.number c.if-number-eq-LISTED_COUNT.true

pub returns-then-may_repeat-clause-noted : goal.returns-then-may_repeat-clause-noted
returns-then-may_repeat-clause-noted c =
    noted-repeated c.args.elf.now.bytes.now c.args.firsts.now c.name_front-front.result.now c.args.index c.may_repeat.result c.requires.noted
    c.name_front-front.ensures c.may_repeat.ensures c.if-may_repeat.true
