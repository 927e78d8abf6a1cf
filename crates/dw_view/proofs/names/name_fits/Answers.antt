-- The tests of the first bytes, and the flag or the number, are what holds of the name; or one of them refuses it.
use Rattle.std.proofs.Common.{rules}
use Rattle.dw_base.specs.Elf.{nth_section, section_name}
use Rattle.dw_view.proofs.NameLaws.{fits_listed, fits_other, refused_compressed, refused_split, refused_supplementary, refused_unlisted, refused_zdebug}
use Rattle.dw_view.proofs.names.name_fits.Goals as goal

pub returns-then-not-is_debug_name-clause-reads : goal.returns-then-not-is_debug_name-clause-reads
returns-then-not-is_debug_name-clause-reads c =
    fits_other (section_name c.args.elf.now.bytes.now c.args.index) c.name_front-front.result.now
    (nth_section c.args.elf.now.bytes.now c.args.index) c.is_zdebug_name.result c.is_supplementary_name.result c.is_debug_name.result
    c.name_front-front.ensures c.is_zdebug_name.ensures c.if-is_zdebug_name.false c.is_supplementary_name.ensures
    c.if-is_supplementary_name.false c.is_debug_name.ensures c.if-not-is_debug_name.true

pub returns-then-listed_number-lt-LISTED_COUNT-clause-reads : goal.returns-then-listed_number-lt-LISTED_COUNT-clause-reads
returns-then-listed_number-lt-LISTED_COUNT-clause-reads c =
    fits_listed (section_name c.args.elf.now.bytes.now c.args.index) c.name_front-front.result.now
    (nth_section c.args.elf.now.bytes.now c.args.index) c.section.result c.listed_number.result c.is_zdebug_name.result
    c.is_supplementary_name.result c.is_compressed.result c.name_front-front.ensures c.is_zdebug_name.ensures
    c.if-is_zdebug_name.false c.is_supplementary_name.ensures c.if-is_supplementary_name.false c.section.ensures
    c.is_compressed.ensures c.if-is_compressed.false c.listed_number.ensures.number c.if-listed_number-lt-LISTED_COUNT.true

pub returns-then-is_zdebug_name-clause-refused : goal.returns-then-is_zdebug_name-clause-refused
returns-then-is_zdebug_name-clause-refused c =
    refused_zdebug _ c.name_front-front.result.now _ _ c.is_zdebug_name.result _ c.name_front-front.ensures c.is_zdebug_name.ensures
    c.if-is_zdebug_name.true (search rules)

pub returns-then-is_supplementary_name-clause-refused : goal.returns-then-is_supplementary_name-clause-refused
returns-then-is_supplementary_name-clause-refused c =
    refused_supplementary _ c.name_front-front.result.now _ _ c.is_supplementary_name.result _ c.name_front-front.ensures
    c.is_supplementary_name.ensures c.if-is_supplementary_name.true (search rules)

pub returns-then-is_compressed-clause-refused : goal.returns-then-is_compressed-clause-refused
returns-then-is_compressed-clause-refused c =
    refused_compressed _ c.name_front-front.result.now _ c.section.result _ c.is_debug_name.result c.is_compressed.result _ c.name_front-front.ensures
    c.is_debug_name.ensures c.if-not-is_debug_name.false c.section.ensures c.is_compressed.ensures c.if-is_compressed.true (search rules)

pub returns-then-is_split_name-clause-refused : goal.returns-then-is_split_name-clause-refused
returns-then-is_split_name-clause-refused c =
    refused_split _ c.section_name.result.now _ _ c.is_split_name.result _ c.section_name.ensures.name c.is_split_name.ensures c.if-is_split_name.true
    (search rules)

pub returns-clause-refused : goal.returns-clause-refused
returns-clause-refused c =
    refused_unlisted _ c.name_front-front.result.now c.section_name.result.now _ _ c.listed_number.result c.is_debug_name.result c.is_split_name.result _
    c.name_front-front.ensures c.is_debug_name.ensures c.if-not-is_debug_name.false c.listed_number.ensures.number
    c.if-listed_number-lt-LISTED_COUNT.false c.section_name.ensures.name c.is_split_name.ensures c.if-is_split_name.false (search rules)
