-- The line tables of a view: the number of their section, where they start, and that each stands where it starts.
use Rattle.std.proofs.Common.{◌≡◌, ℕ, List, [], ◌∷◌, Option, Some, None, refl, sym, ap, subst}
use Rattle.dw_base.specs.DebugSections.{name_of}
use Rattle.dw_base.specs.FileViews.{View, section_named}
use Rattle.dw_base.specs.LineReadings.{LineReading, TablesTo, table_read}
use Rattle.dw_base.specs.LineSources.{LineSource}
use Rattle.dw_base.specs.LineTables.{IsLineTable, LineTable}
use Rattle.dw_base.specs.ViewData.{cells_located, debug_data}
use Rattle.dw_base.specs.declared.debug_sections.DebugSection.TheVariants.{Line}
use Rattle.dw_lines.specs.ViewTables.{TablesUpTo, tables_read}
use Rattle.dw_meaning.proofs.LineHeaderLaws.{header-is}
use Rattle.dw_meaning.proofs.LineTableLaws.{header-places}
use Rattle.dw_rewrite.specs.NewLines.{AllStandIn}

-- the number of their section
pub number-some : (v : View) (i : ℕ) → Some i ≡ section_named v (name_of Line) → i ≡ ((debug_data v).found Line).number
unfolding debug_data
number-some v i e = ap (λ (o : Option ℕ). (cells_located v o).number) e

pub number-none : (v : View) → None ≡ section_named v (name_of Line) → 0 ≡ ((debug_data v).found Line).number
unfolding debug_data
number-none v e = ap (λ (o : Option ℕ). (cells_located v o).number) e

pub ruleset number_rules = (number-some, number-none)

-- each table stands where it starts
tables-stand : (g : LineSource) (p e : ℕ) (rs : List LineReading) → TablesTo g p rs e → AllStandIn g (tables_read g rs)
tables-stand g p e [] are = tt
tables-stand g p e (r ∷ rs) are =
    let begins : r.header.start ≡ p = (header-places g p r.header (header-is g.order g.bytes p r.header are.0.header)).0 in (
      record {
        section = refl;
        is = subst (λ (n : ℕ). IsLineTable g n (table_read g r)) (sym begins) (record {
          header = r.header;
          dirs = r.dirs;
          files = r.files;
          defined = r.defined;
          behind = r.behind;
          is = refl;
          header_is = are.0.header;
          lists = are.0.lists;
          before = are.0.before;
          program = are.0.program;
        });
      },
      tables-stand g r.header.end e rs are.1,
    )

pub all-stand : (g : LineSource) (ts : List LineTable) (e : ℕ) → TablesUpTo g ts e → AllStandIn g ts
all-stand g ts e up = subst (AllStandIn g) (sym up.is) (tables-stand g 0 e up.readings up.reads)
