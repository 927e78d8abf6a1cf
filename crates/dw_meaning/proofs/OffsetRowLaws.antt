-- Debug data that can be read, and whose relocations are handled where they are read, have no offset in a name table or a macro unit that refuses it.
use Rattle.std.proofs.Common.{◌≡◌, ℕ, ◌<◌, List, [], ◌∷◌, ◌++◌, length, Option, None, Some, refl, sym, subst, arith}
use Rattle.dw_base.specs.Cells.{Cell, CellSection, bytes_of}
use Rattle.dw_base.specs.DebugData.{DataReadings}
use Rattle.dw_base.specs.DebugSections.{name_of}
use Rattle.dw_base.specs.FileViews.{View, section_named, view_cells}
use Rattle.dw_base.specs.MacroPieces.{MacroState, ReadsMacros}
use Rattle.dw_base.specs.MacroReadings.{MacroReading, ReadsAllMacros}
use Rattle.dw_base.specs.NameOffsets.{ReadUpTo}
use Rattle.dw_base.specs.NameTables.{IsNameTable, names_of}
use Rattle.dw_base.specs.Pieces.{Piece}
use Rattle.dw_base.specs.RelocationRows.{FieldsRead, macro_fields}
use Rattle.dw_base.specs.ViewData.{cells_located, debug_data, located, located_at, macro_sections}
use Rattle.dw_base.specs.declared.debug_sections.DebugSection.TheVariants.{Names}
use Rattle.dw_base.specs.declared.fault.Refusal.{Refusal}
use Rattle.dw_base.specs.declared.shared.Order.{Order}
use Rattle.dw_base.proofs.ViewCellLaws.{bytes-cells}
use Rattle.dw_meaning.specs.DataOutput.{DataReads}
use Rattle.dw_meaning.specs.RelocationFails.{LeftRelocationsRead, OffsetsFailIn}
use Rattle.dw_meaning.specs.RelocationFails.OffsetsFailIn.{names, macros}
use Rattle.dw_meaning.proofs.MacroFieldRowLaws.{unit-refused}
use Rattle.dw_meaning.proofs.MacroRowLaws.{cells-of}
use Rattle.dw_meaning.proofs.NameFieldRowLaws.{names-refused}

-- the section of name tables, where it has a byte
names-there : (v : View) (start : ℕ) → start < length (names_of v).bytes → ((debug_data v).found Names).contents ≡ view_cells v (names_of v).number
unfolding debug_data located
names-there v start some = by_found (section_named v (name_of Names)) some
  where
    by_found : (o : Option ℕ) → start < length (located_at v o).bytes → (cells_located v o).contents ≡ view_cells v (located_at v o).number
    by_found None some = absurd (omega (arith, some))
    by_found (Some i) some = refl

names-bytes : (v : View) → (names_of v).bytes ≡ bytes_of ((debug_data v).found Names).contents
unfolding debug_data located
names-bytes v = sym (bytes-cells v (section_named v (name_of Names)))

-- what was read of a section of macro units
record IsRead (order : Order) (z : CellSection) : Type 0 where
  pieces : List (Piece MacroState)
  reads : ReadsMacros order z.contents pieces

one-read : (order : Order) (before behind : List CellSection) (z : CellSection) (rs : List MacroReading) → ReadsAllMacros order (before ++ z ∷ behind) rs → IsRead order z
one-read order [] behind z [] reads = absurd reads
one-read order [] behind z (r ∷ rs) reads = record { pieces = r.pieces; reads = reads.1 }
one-read order (y ∷ ys) behind z [] reads = absurd reads
one-read order (y ∷ ys) behind z (r ∷ rs) reads = one-read order ys behind z rs reads.2

pub offsets-exclude : (v : View) (q : DataReadings) (moving : List ℕ) (r : Refusal) → DataReads (debug_data v) q → LeftRelocationsRead (debug_data v) moving → OffsetsFailIn v r → ⊥
unfolding debug_data macro_sections
offsets-exclude v q moving r reads left (names list start t before some is f) =
    names-refused v (names_of v).number ((debug_data v).found Names).contents moving q.names list start t r (names-there v start some) reads.names
    (left.names q.names reads.names)
    (subst (λ (bs : List ℕ). ReadUpTo v (names_of v).number bs list start) (names-bytes v) before)
    (subst (λ (bs : List ℕ). IsNameTable v.order bs start t) (names-bytes v) is) f
offsets-exclude v q moving r reads left (macros before behind z list start split units some f) =
    let own : z.contents ≡ view_cells v z.number = (cells-of v before behind z split).same in
    let m : IsRead v.order z =
    one-read v.order before behind z q.macros (subst (λ (zs : List CellSection). ReadsAllMacros v.order zs q.macros) split reads.macros) in
    unit-refused v z.number moving m.pieces list start r (subst (λ (p : List Cell). ReadsMacros v.order p m.pieces) own m.reads)
    (subst (λ (p : List Cell). FieldsRead v.order p moving (macro_fields m.pieces)) own (left.macros before behind z m.pieces split m.reads)) units f
