-- Laws of a macro unit: its operations, one after another, and what was read of it.
use Rattle.std.proofs.Common.{Bool, true, false, ◌≡◌, ℕ, List, Option, Some, None, refl, sym, ap, ◌∙◌, subst}
use Rattle.std.specs.Prelude.{Ok}
use Rattle.dw_base.specs.FileViews.{View, section_bytes, field_at}
use Rattle.dw_base.specs.Refusals.{at}
use Rattle.dw_base.specs.ViewData.{located}
use Rattle.dw_base.specs.declared.debug_sections.DebugSection.TheVariants.{Line}
use Rattle.dw_base.specs.declared.fault.Kind.TheVariants.{Macro, StringOffset, Supplementary}
use Rattle.dw_base.specs.declared.fault.Refusal.{Refusal}
use Rattle.dw_base.specs.declared.shared.Order.{Order}
use Rattle.dw_base.specs.declared.shared.Width.{Width}
use Rattle.dw_base.specs.MacroFails.{no_header, operation}
use Rattle.dw_base.specs.MacroHeaders.{macro_header}
use Rattle.dw_base.specs.MacroUnits.{IsMacroUnit, OperationsUpTo, no_operations, more_operations, is_end, line_of, names_text, offset_at, taken_if, unit_operation}
use Rattle.dw_base.specs.MacroOperations.{operation_at}
use Rattle.dw_base.specs.MacroOffsets.{FieldReads, FieldRefuses, OperationReads, LineReads, LineRefuses, OperationFails, none_taken, no_offset, ReadUpTo, none_read, more_read, IsReadUnit, of_line, of_operation, UnitRefuses, unit_fails, offset_fails}
use Rattle.dw_macros.specs.UnitEnds.{EndsAt, UnitBreaks}
use Rattle.dw_base.specs.declared.macro_units.MacroHeader.{MacroHeader}
use Rattle.dw_base.specs.declared.macro_units.MacroOperation.{MacroOperation}
use Rattle.dw_base.specs.declared.macro_units.MacroOperation.TheVariants.{End, Inline, Named, Enter, Leave, Bring, Foreign}
use Rattle.dw_base.specs.declared.macro_units.MacroUnit.{MacroUnit}
use Rattle.dw_base.specs.Cells.{is_placed}
use Rattle.dw_base.specs.Forms.{width_size}
use Rattle.dw_base.proofs.ViewOffsetLaws.{offset-is}

-- the operation at a place, by what was read there
read-operation : (v : View) (section start place : ℕ) (width : Width) (bytes : List ℕ) (x : Option (MacroOperation × ℕ)) → bytes ≡ section_bytes v section
    → x ≡ operation_at bytes width place → unit_operation v section start width place ≡ taken_if v section start width place x
unfolding unit_operation
read-operation v section start place width bytes x b e =
    ap (taken_if v section start width place) (sym (e ∙ ap (λ (bs : List ℕ). operation_at bs width place) b))

pub operation-none : (v : View) (section start place : ℕ) (width : Width) (bytes : List ℕ) (r : Refusal) → bytes ≡ section_bytes v section
    → None ≡ operation_at bytes width place → r ≡ at Macro section start → OperationFails v section start width place r
operation-none v section start place width bytes r b e is = none_taken (read-operation v section start place width bytes None b e ∙ rw is refl)

pub operation-foreign : (v : View) (section start place next : ℕ) (width : Width) (bytes : List ℕ) (o : MacroOperation) (r : Refusal) → bytes ≡ section_bytes v section
    → Some (o, next) ≡ operation_at bytes width place → o ≡ Foreign → r ≡ at Supplementary section place → OperationFails v section start width place r
operation-foreign v section start place next width bytes o r b e kind is =
    none_taken (read-operation v section start place width bytes (Some (o, next)) b e ∙ rw (kind, is) refl)

pub operation-unnamed : (v : View) (section start place next line field : ℕ) (width : Width) (bytes : List ℕ) (o : MacroOperation) (defines named : Bool) (r : Refusal)
    → bytes ≡ section_bytes v section → Some (o, next) ≡ operation_at bytes width place → o ≡ Named defines line field
    → FieldReads v section width field → named ≡ names_text v section width field → named ≡ false → r ≡ at StringOffset section field
    → OperationFails v section start width place r
operation-unnamed v section start place next line field width bytes o defines named r b e kind reads same none is =
    let placed : is_placed (field_at v section field (width_size width)) ≡ true =
    (offset-is v section field (width_size width) (field_at v section field (width_size width)) reads.is).placed in
    none_taken (read-operation v section start place width bytes (Some (o, next)) b e ∙ rw (kind, sym same ∙ none, placed, is) refl)

there-is : (v : View) (section place next : ℕ) (width : Width) (bytes : List ℕ) (o p : MacroOperation) → bytes ≡ section_bytes v section
    → Some (o, next) ≡ operation_at bytes width place → o ≡ p → operation_at (section_bytes v section) width place ≡ Some (p, next)
there-is v section place next width bytes o p b e kind =
    ap (λ (bs : List ℕ). operation_at bs width place) (sym b) ∙ sym e ∙ ap (λ (x : MacroOperation). Some (x, next)) kind

pub operation-unread : (v : View) (section start place next line field : ℕ) (width : Width) (bytes : List ℕ) (o : MacroOperation) (defines : Bool) (r : Refusal)
    → bytes ≡ section_bytes v section → Some (o, next) ≡ operation_at bytes width place → o ≡ Named defines line field
    → FieldRefuses v section width field r → OperationFails v section start width place r
operation-unread v section start place next line field width bytes o defines r b e kind f =
    no_offset (Named defines line field) next (there-is v section place next width bytes o (Named defines line field) b e kind) f

pub operation-unbrought : (v : View) (section start place next field : ℕ) (width : Width) (bytes : List ℕ) (o : MacroOperation) (r : Refusal)
    → bytes ≡ section_bytes v section → Some (o, next) ≡ operation_at bytes width place → o ≡ Bring field
    → FieldRefuses v section width field r → OperationFails v section start width place r
operation-unbrought v section start place next field width bytes o r b e kind f =
    no_offset (Bring field) next (there-is v section place next width bytes o (Bring field) b e kind) f

pub operation-named : (v : View) (section start place next line field : ℕ) (width : Width) (bytes : List ℕ) (o : MacroOperation) (defines named : Bool)
    → bytes ≡ section_bytes v section → Some (o, next) ≡ operation_at bytes width place → o ≡ Named defines line field
    → named ≡ names_text v section width field → named ≡ true → Ok (o, next) ≡ unit_operation v section start width place
operation-named v section start place next line field width bytes o defines named b e kind same some =
    sym (read-operation v section start place width bytes (Some (o, next)) b e ∙ rw (kind, sym same ∙ some) refl)

pub operation-brought : (v : View) (section start place next field : ℕ) (width : Width) (bytes : List ℕ) (o : MacroOperation)
    → bytes ≡ section_bytes v section → Some (o, next) ≡ operation_at bytes width place → o ≡ Bring field
    → Ok (o, next) ≡ unit_operation v section start width place
operation-brought v section start place next field width bytes o b e kind =
    sym (read-operation v section start place width bytes (Some (o, next)) b e ∙ rw kind refl)

pub operation-end : (v : View) (section start place next : ℕ) (width : Width) (bytes : List ℕ) (o : MacroOperation)
    → bytes ≡ section_bytes v section → Some (o, next) ≡ operation_at bytes width place → o ≡ End
    → Ok (o, next) ≡ unit_operation v section start width place
operation-end v section start place next width bytes o b e kind =
    sym (read-operation v section start place width bytes (Some (o, next)) b e ∙ rw kind refl)

pub operation-inline : (v : View) (section start place next line where_at len : ℕ) (width : Width) (bytes : List ℕ) (o : MacroOperation) (defines : Bool)
    → bytes ≡ section_bytes v section → Some (o, next) ≡ operation_at bytes width place → o ≡ Inline defines line where_at len
    → Ok (o, next) ≡ unit_operation v section start width place
operation-inline v section start place next line where_at len width bytes o defines b e kind =
    sym (read-operation v section start place width bytes (Some (o, next)) b e ∙ rw kind refl)

pub operation-enter : (v : View) (section start place next line file : ℕ) (width : Width) (bytes : List ℕ) (o : MacroOperation)
    → bytes ≡ section_bytes v section → Some (o, next) ≡ operation_at bytes width place → o ≡ Enter line file
    → Ok (o, next) ≡ unit_operation v section start width place
operation-enter v section start place next line file width bytes o b e kind =
    sym (read-operation v section start place width bytes (Some (o, next)) b e ∙ rw kind refl)

pub operation-leave : (v : View) (section start place next : ℕ) (width : Width) (bytes : List ℕ) (o : MacroOperation)
    → bytes ≡ section_bytes v section → Some (o, next) ≡ operation_at bytes width place → o ≡ Leave
    → Ok (o, next) ≡ unit_operation v section start width place
operation-leave v section start place next width bytes o b e kind =
    sym (read-operation v section start place width bytes (Some (o, next)) b e ∙ rw kind refl)

-- its offset
pub reads-named : (v : View) (section line field : ℕ) (width : Width) (o : MacroOperation) (defines : Bool) → o ≡ Named defines line field
    → FieldReads v section width field → OperationReads v section width o
reads-named v section line field width o defines kind f = subst (OperationReads v section width) (sym kind) f

pub reads-brought : (v : View) (section field : ℕ) (width : Width) (o : MacroOperation) → o ≡ Bring field → FieldReads v section width field
    → OperationReads v section width o
reads-brought v section field width o kind f = subst (OperationReads v section width) (sym kind) f

pub reads-end : (v : View) (section : ℕ) (width : Width) (o : MacroOperation) → o ≡ End → OperationReads v section width o
reads-end v section width o kind = subst (OperationReads v section width) (sym kind) tt

pub reads-inline : (v : View) (section line where_at len : ℕ) (width : Width) (o : MacroOperation) (defines : Bool) → o ≡ Inline defines line where_at len
    → OperationReads v section width o
reads-inline v section line where_at len width o defines kind = subst (OperationReads v section width) (sym kind) tt

pub reads-enter : (v : View) (section line file : ℕ) (width : Width) (o : MacroOperation) → o ≡ Enter line file → OperationReads v section width o
reads-enter v section line file width o kind = subst (OperationReads v section width) (sym kind) tt

pub reads-leave : (v : View) (section : ℕ) (width : Width) (o : MacroOperation) → o ≡ Leave → OperationReads v section width o
reads-leave v section width o kind = subst (OperationReads v section width) (sym kind) tt

pub ruleset operation_laws = (operation-none, operation-foreign, operation-unnamed, operation-unread, operation-unbrought, operation-named, operation-brought, operation-end, operation-inline, operation-enter, operation-leave, reads-named, reads-brought, reads-end, reads-inline, reads-enter, reads-leave)

-- operations, one after another
pub record OperationsTo (v : View) (section start : ℕ) (width : Width) (first place : ℕ) : Type 0 where
  pub operations : ReadUpTo v section start width first place

pub operations-start : (v : View) (section start : ℕ) (width : Width) (first : ℕ) → OperationsTo v section start width first first
operations-start v section start width first = record { operations = none_read }

pub operations-more : (v : View) (section start : ℕ) (width : Width) (first place next : ℕ) (o : MacroOperation) → OperationsTo v section start width first place
    → Ok (o, next) ≡ unit_operation v section start width place → OperationReads v section width o → false ≡ is_end o
    → OperationsTo v section start width first next
operations-more v section start width first place next o so e reads more = record {
  operations = more_read o place next so.operations (sym e) (sym more) reads;
}

false-true : false ≡ true → ⊥
false-true e = cc

end-is : (o : MacroOperation) → is_end o ≡ true → o ≡ End
end-is End e = refl
end-is (Inline d l a n) e = absurd (false-true e)
end-is (Named d l f) e = absurd (false-true e)
end-is (Enter l f) e = absurd (false-true e)
end-is Leave e = absurd (false-true e)
end-is (Bring f) e = absurd (false-true e)
end-is Foreign e = absurd (false-true e)

pub operations-end : (v : View) (section start : ℕ) (width : Width) (first place next : ℕ) (o : MacroOperation) → OperationsTo v section start width first place
    → Ok (o, next) ≡ unit_operation v section start width place → true ≡ is_end o → EndsAt v section start width first next
operations-end v section start width first place next o so e over = record {
  last = place;
  operations = so.operations;
  ends = sym e ∙ ap (λ (x : MacroOperation). Ok (x, next)) (end-is o (sym over));
}

pub operations-break : (v : View) (section start : ℕ) (width : Width) (first place : ℕ) (r : Refusal) → OperationsTo v section start width first place
    → OperationFails v section start width place r → UnitBreaks v section start width first r
operations-break v section start width first place r so f = record { place = place; operations = so.operations; refused = f }

pub ruleset end_laws = (operations-start, operations-more, operations-end, operations-break)

-- the line table
pub no-line : (v : View) (section : ℕ) (h : MacroHeader) → h.has_line ≡ false → None ≡ line_of v section h
no-line v section h e = rw e refl

pub some-line : (v : View) (section offset : ℕ) (h : MacroHeader) → h.has_line ≡ true → offset ≡ offset_at v (located v Line) section h.line_field h.width
    → Some offset ≡ line_of v section h
some-line v section offset h e is = rw (e, is) refl

pub no_line-reads : (v : View) (section : ℕ) (h : MacroHeader) → h.has_line ≡ false → LineReads v section h
no_line-reads v section h e some = absurd (false-true (sym e ∙ some))

pub line-reads : (v : View) (section : ℕ) (h : MacroHeader) → FieldReads v section h.width h.line_field → LineReads v section h
line-reads v section h f some = f

pub line-refused : (v : View) (section : ℕ) (h : MacroHeader) (r : Refusal) → h.has_line ≡ true → FieldRefuses v section h.width h.line_field r
    → LineRefuses v section h r
line-refused v section h r some f = record { has = some; refused = f }

pub ruleset line_laws = (no-line, some-line, no_line-reads, line-reads, line-refused)

-- what was read, and why nothing was
header-here : (v : View) (section start : ℕ) (order : Order) (bytes : List ℕ) (x : Option MacroHeader) → order ≡ v.order → bytes ≡ section_bytes v section
    → x ≡ macro_header order bytes start → macro_header v.order (section_bytes v section) start ≡ x
header-here v section start order bytes x o b e =
    sym (e ∙ ap (λ (y : Order). macro_header y bytes start) o ∙ ap (λ (bs : List ℕ). macro_header v.order bs start) b)

pub unit-none : (v : View) (section start : ℕ) (order : Order) (bytes : List ℕ) (r : Refusal) → order ≡ v.order → bytes ≡ section_bytes v section
    → None ≡ macro_header order bytes start → r ≡ at Macro section start → UnitRefuses v section start r
unit-none v section start order bytes r o b e is =
    subst (λ (x : Refusal). UnitRefuses v section start x) (sym is) (unit_fails (no_header (header-here v section start order bytes None o b e)))

pub unit-unlined : (v : View) (section start : ℕ) (order : Order) (bytes : List ℕ) (h : MacroHeader) (r : Refusal) → order ≡ v.order → bytes ≡ section_bytes v section
    → Some h ≡ macro_header order bytes start → LineRefuses v section h r → UnitRefuses v section start r
unit-unlined v section start order bytes h r o b e f = offset_fails (of_line h (header-here v section start order bytes (Some h) o b e) f)

-- operations whose offsets can be read are operations
pub read-operations : (v : View) (section start : ℕ) (width : Width) (first place : ℕ) → ReadUpTo v section start width first place
    → OperationsUpTo v section start width first place
read-operations v section start width first place none_read = no_operations
read-operations v section start width first place (more_read o before next so e more reads) =
    more_operations o before next (read-operations v section start width first before so) e more

break-by : (v : View) (section start : ℕ) (h : MacroHeader) (place : ℕ) (r : Refusal) → macro_header v.order (section_bytes v section) start ≡ Some h
    → ReadUpTo v section start h.width h.first place → OperationFails v section start h.width place r → UnitRefuses v section start r
break-by v section start h place r e so (none_taken f) =
    unit_fails (operation h place e (read-operations v section start h.width h.first place so) f)
break-by v section start h place r e so (no_offset o next is f) = offset_fails (of_operation h place next o e so is f)

pub unit-breaks : (v : View) (section start : ℕ) (order : Order) (bytes : List ℕ) (h : MacroHeader) (r : Refusal) → order ≡ v.order → bytes ≡ section_bytes v section
    → Some h ≡ macro_header order bytes start → UnitBreaks v section start h.width h.first r → UnitRefuses v section start r
unit-breaks v section start order bytes h r o b e f =
    break-by v section start h f.place r (header-here v section start order bytes (Some h) o b e) f.operations f.refused

pub unit-read : (v : View) (section start end : ℕ) (order : Order) (bytes : List ℕ) (h : MacroHeader) (l : Option ℕ) (u : MacroUnit) → order ≡ v.order → bytes ≡ section_bytes v section
    → Some h ≡ macro_header order bytes start → l ≡ line_of v section h → LineReads v section h → EndsAt v section start h.width h.first end
    → u ≡ record {
      section = section;
      start = start;
      end = end;
      version = h.version;
      width = h.width;
      line = l;
      line_field = h.line_field;
      first = h.first;
    } → IsReadUnit v section start u
unit-read v section start end order bytes h l u o b e same reads ends is = record {
  header = h;
  last = ends.last;
  end = end;
  header_is = header-here v section start order bytes (Some h) o b e;
  line_reads = reads;
  operations = ends.operations;
  ends = ends.ends;
  is = is ∙ rw same refl;
}

pub ruleset unit_laws = (unit-none, unit-unlined, unit-breaks, unit-read)

-- a unit that can be read with its offsets is a unit
pub read-unit : (v : View) (section start : ℕ) (u : MacroUnit) → IsReadUnit v section start u → IsMacroUnit v section start u
read-unit v section start u is = record {
  header = is.header;
  last = is.last;
  end = is.end;
  header_is = is.header_is;
  operations = read-operations v section start is.header.width is.header.first is.last is.operations;
  ends = is.ends;
  is = is.is;
}
