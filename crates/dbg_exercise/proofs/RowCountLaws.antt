-- The line tables that were read have as many rows as they mean.
use Rattle.std.proofs.Common.{◌≡◌, ℕ, suc, ◌+◌, ◌<◌, List, [], ◌∷◌, length, Option, Some, None, refl, sym, ap, ◌∙◌, subst, arith}
use Rattle.dw_base.specs.DebugData.{line_source}
use Rattle.dw_base.specs.DebugSections.{name_of}
use Rattle.dw_base.specs.FileViews.{View, section_bytes, section_named}
use Rattle.dw_base.specs.LineMeanings.{FileText, line_meaning, line_meanings, shown_rows}
use Rattle.dw_base.specs.LineReadings.{AreTables, LineReading, ReadsTable, TablesTo, table_read}
use Rattle.dw_base.specs.LineSources.{LineSource}
use Rattle.dw_base.specs.ViewData.{debug_data}
use Rattle.dw_base.specs.declared.debug_sections.DebugSection.TheVariants.{Line}
use Rattle.dw_base.specs.declared.line_rows.Row.{Row}
use Rattle.dw_lines.specs.ViewSources.{view_source}
use Rattle.dw_lines.specs.ViewTables.{tables_read}
use Rattle.dw_lines.proofs.ReadingLaws.{source-is}
use Rattle.dw_lines.proofs.ViewTableLaws.{source-none}
use Rattle.dw_meaning.proofs.LineOneLaws.{tables-one}
use Rattle.dw_rows.specs.TableRows.{table_rows}
use Rattle.dw_rows.proofs.TableLaws.{rows-meant}
use Rattle.dbg_show.proofs.ReadLaws.{own-table, section-within}
use Rattle.gen_laws.specs.Counts.{rows_in}
use Rattle.dbg_exercise.specs.ViewCounts.{rows_listed}

-- rows are shown one by one
shown-length : (version : ℕ) (dirs : List (List ℕ)) (files : List FileText) (rs : List Row) → length (shown_rows version dirs files rs) ≡ length rs
shown-length version dirs files [] = refl
shown-length version dirs files (r ∷ rs) = ap suc (shown-length version dirs files rs)

-- a table that was read
table-counted : (v : View) (section p : ℕ) (r : LineReading) → section < length v.sections → ReadsTable (view_source v section) p r
    → length (table_rows v (table_read (view_source v section) r)) ≡ length (line_meaning (view_source v section) r).rows
table-counted v section p r there reads =
    ap (λ (rs : List Row). length rs) (rows-meant v (table_read (view_source v section) r) (own-table v section p r there reads))
    ∙ sym (shown-length _ _ _ _)

tables-counted : (v : View) (section p e : ℕ) (rs : List LineReading) → section < length v.sections → TablesTo (view_source v section) p rs e
    → rows_listed v (tables_read (view_source v section) rs) ≡ rows_in (line_meanings (view_source v section) rs)
tables-counted v section p e [] there to = refl
tables-counted v section p e (r ∷ rs) there to = omega (arith, table-counted v section p r there to.0, tables-counted v section r.header.end e rs there to.1)

-- a view without a section of line tables has no table
no-tables : (v : View) (rs : List LineReading) → section_named v (name_of Line) ≡ None → AreTables (line_source (debug_data v)) rs
    → rows_listed v (tables_read (line_source (debug_data v)) rs) ≡ rows_in (line_meanings (line_source (debug_data v)) rs)
no-tables v rs none are =
    let empty : length (line_source (debug_data v)).bytes ≡ 0 = ap length (source-none v (sym none)) in
    let first : [] ≡ rs = tables-one (line_source (debug_data v)) 0 (length (line_source (debug_data v)).bytes) [] rs (sym empty) are in
    subst (λ (xs : List LineReading). rows_listed v (tables_read (line_source (debug_data v)) xs) ≡ rows_in (line_meanings (line_source (debug_data v)) xs)) first refl

pub rows-counted : (v : View) (rs : List LineReading) → AreTables (line_source (debug_data v)) rs
    → rows_listed v (tables_read (line_source (debug_data v)) rs) ≡ rows_in (line_meanings (line_source (debug_data v)) rs)
rows-counted v rs are = by_section (section_named v (name_of Line)) refl
  where
    by_section : (o : Option ℕ) → section_named v (name_of Line) ≡ o
        → rows_listed v (tables_read (line_source (debug_data v)) rs) ≡ rows_in (line_meanings (line_source (debug_data v)) rs)
    by_section None e = no-tables v rs e are
    by_section (Some section) e =
        let source : line_source (debug_data v) ≡ view_source v section = source-is v section (sym e) in
        subst (λ (g : LineSource). rows_listed v (tables_read g rs) ≡ rows_in (line_meanings g rs)) (sym source)
        (tables-counted v section 0 (length (section_bytes v section)) rs (section-within v section e)
        (subst (λ (g : LineSource). TablesTo g 0 rs (length g.bytes)) source are))
