-- What reads of the relocations on debug data excludes each row, and where no relocation begins there is no row.
use Rattle.std.proofs.Common.{◌≡◌, ℕ, List, ◌∷◌, ◌++◌, drop, take, Some, sym, subst}
use Rattle.std.proofs.lemmas.List.{take-append-drop}
use Rattle.dw_base.specs.Cells.{Cell, CellSection, Relocation, cells_at}
use Rattle.dw_base.specs.DebugData.{DebugData, line_source}
use Rattle.dw_base.specs.Elf.{contents_of}
use Rattle.dw_base.specs.FileViews.{view_of}
use Rattle.dw_base.specs.LineFields.{line_fields, table_fields}
use Rattle.dw_base.specs.RelocationFields.{relocation_at}
use Rattle.dw_base.specs.RelocationRows.{FieldPlace, FieldsRead, OffsetFails, OffsetReads, macro_fields, moving_sections, name_fields, slot_fields, unit_fields}
use Rattle.dw_base.specs.RelocationRows.OffsetFails.{partly, no_place}
use Rattle.dw_base.specs.UnitHeaders.{UnitSection}
use Rattle.dw_base.specs.declared.fault.Refusal.{Refusal}
use Rattle.dw_base.specs.declared.shared.Order.{Order}
use Rattle.dw_base.proofs.PlainCellLaws.{IsPlain, plain-parts}
use Rattle.dw_base.proofs.RelocationFieldLaws.{relocation_at-plain}
use Rattle.dw_base.proofs.RelocationRowLaws.{fields_exclude, header_excludes, header_offsets_exclude, placed-plain}
use Rattle.dw_base.proofs.RelocationSectionLaws.{relocations_exclude as sections-exclude}
use Rattle.dw_base.specs.declared.debug_sections.DebugSection.TheVariants.{Info, StrOffsets, Line, Macro, Names}
use Rattle.dw_meaning.specs.FileMeanings.{file_data}
use Rattle.dw_meaning.specs.RelocationFails.{LeftRelocationsFail, LeftRelocationsRead, OffsetsFailIn, RelocationsFail, RelocationsRead, RelocationsReadIn, ValueRelocationFails, ValueRelocationsRead}
use Rattle.dw_meaning.specs.RelocationFails.LeftRelocationsFail.{units, slots, names, macros, lines, line_header}
use Rattle.dw_meaning.specs.RelocationFails.RelocationsFail.{sections, headers, values, offsets, left}
use Rattle.dw_meaning.specs.RelocationFails.ValueRelocationFails.{value}

pub left_exclude : (d : DebugData) (moving : List ℕ) (r : Refusal) → LeftRelocationsRead d moving → LeftRelocationsFail d moving r → ⊥
left_exclude d moving r h (units before behind z first xs among reads f) =
    fields_exclude d.base.order z.number z.contents moving (unit_fields d.base.order xs) r (h.units before behind z first xs among reads) f
left_exclude d moving r h (slots xs reads f) =
    fields_exclude d.base.order (d.found StrOffsets).number (d.found StrOffsets).contents moving (slot_fields xs) r (h.slots xs reads) f
left_exclude d moving r h (names xs reads f) =
    fields_exclude d.base.order (d.found Names).number (d.found Names).contents moving (name_fields xs) r (h.names xs reads) f
left_exclude d moving r h (macros before behind z xs among reads f) =
    fields_exclude d.base.order z.number z.contents moving (macro_fields xs) r (h.macros before behind z xs among reads) f
left_exclude d moving r h (lines ts reads f) =
    fields_exclude d.base.order (d.found Line).number (d.found Line).contents moving (line_fields (line_source d) ts) r (h.lines ts reads) f
left_exclude d moving r h (line_header before start t tables reads f) =
    header_excludes (d.found Line).number t.header.start t.behind (d.found Line).contents (table_fields (line_source d) t) r
    (h.line_headers before start t tables reads) f

pub value-excludes : (d : DebugData) (r : Refusal) → ValueRelocationsRead d → ValueRelocationFails d r → ⊥
value-excludes d r h (value z u list number a x place v f table has kind is fails) = by_row fails
  where
    reads : OffsetReads d.base.order z.contents f
    reads = h.all z u list number a x place v f table has kind is

    by_row : {r : Refusal} → OffsetFails d.base.order z.number z.contents f r → ⊥
    by_row (partly p lies) = reads.whole p lies
    by_row (no_place e) = let placed = reads.placed in absurd cc

pub relocations_exclude : (b : List ℕ) (r : Refusal) → RelocationsRead b → (OffsetsFailIn (view_of b) r → ⊥) → RelocationsFail b r → ⊥
relocations_exclude b r h none (sections f) = sections-exclude (contents_of b) b r h.sections f
relocations_exclude b r h none (headers before behind z split f) =
    header_offsets_exclude (file_data b).base z r (h.on_data.headers before behind z split) f
relocations_exclude b r h none (values f) = value-excludes (file_data b) r h.on_data.values f
relocations_exclude b r h none (offsets f) = none f
relocations_exclude b r h none (left f) = left_exclude (file_data b) (moving_sections (view_of b)) r h.on_data.left f

-- no relocation begins in the sections of units, of string offsets, line tables, macro units and name tables
pub record NoRelocations (d : DebugData) : Type 0 where
  pub units : (before behind : List UnitSection) (z : UnitSection) → d.found Info ≡ before ++ z ∷ behind → IsPlain z.contents
  pub macros : (before behind : List CellSection) (z : CellSection) → d.found Macro ≡ before ++ z ∷ behind → IsPlain z.contents
  pub offsets : IsPlain (d.found StrOffsets).contents
  pub lines : IsPlain (d.found Line).contents
  pub names : IsPlain (d.found Names).contents

-- so all reads that is asked of relocations
none-begins : (cells : List Cell) (p : ℕ) (r : Relocation) → IsPlain cells → relocation_at cells p ≡ Some r → ⊥
none-begins cells p r plain e = let none = relocation_at-plain cells p plain in absurd cc

part-plain : (cells : List Cell) (at n : ℕ) → IsPlain cells → IsPlain (cells_at cells at n)
part-plain cells at n h =
    let behind : IsPlain (drop at cells) = (plain-parts (take at cells) (drop at cells) (subst IsPlain (sym (take-append-drop at cells)) h)).1 in
    (plain-parts (take n (drop at cells)) (drop n (drop at cells)) (subst IsPlain (sym (take-append-drop n (drop at cells))) behind)).0

offset-reads : (order : Order) (cells : List Cell) (f : FieldPlace) → IsPlain cells → OffsetReads order cells f
offset-reads order cells f plain = record {
  whole = λ p lies. none-begins cells p lies.relocation plain lies.begins;
  placed = placed-plain order (cells_at cells f.place f.size) (part-plain cells f.place f.size plain);
}

fields-read : (order : Order) (cells : List Cell) (moving : List ℕ) (fs : List FieldPlace) → IsPlain cells → FieldsRead order cells moving fs
fields-read order cells moving fs plain = record {
  offsets = λ f is own. offset-reads order cells f plain;
  numbers = λ f p r is own begins before behind. none-begins cells p r plain begins;
  kept = λ p r begins lies. absurd (none-begins cells p r plain begins);
}

pub plain-reads : (d : DebugData) (moving : List ℕ) → NoRelocations d → RelocationsReadIn d moving
plain-reads d moving h = record {
  headers = λ before behind z split. record { all = λ list u start f units is there. offset-reads d.base.order z.contents f (h.units before behind z split) };
  values = record {
    all = λ z u list number a x place v f table has kind is. offset-reads d.base.order z.contents f (h.units table.unit.before table.unit.behind z table.unit.sections);
  };
  left = record {
    units = λ before behind z first xs split reads. fields-read d.base.order z.contents moving (unit_fields d.base.order xs) (h.units before behind z split);
    slots = λ xs reads. fields-read d.base.order (d.found StrOffsets).contents moving (slot_fields xs) h.offsets;
    names = λ xs reads. fields-read d.base.order (d.found Names).contents moving (name_fields xs) h.names;
    macros = λ before behind z xs split reads. fields-read d.base.order z.contents moving (macro_fields xs) (h.macros before behind z split);
    lines = λ ts tables. fields-read d.base.order (d.found Line).contents moving (line_fields (line_source d) ts) h.lines;
    line_headers = λ before start t tables reads. record {
      own = λ p r begins from below. absurd (none-begins (d.found Line).contents p r h.lines begins);
      apart = λ p r begins below. absurd (none-begins (d.found Line).contents p r h.lines begins);
    };
  };
}
