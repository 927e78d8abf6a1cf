-- The parts that are made are those of the generated file.
use Rattle.std.proofs.Common.{◌≡◌, ℕ, ◌≤◌, List, [], length, sym, ap, ◌∙◌, subst, arith}
use Rattle.dw_base.specs.Layout.{output_limit}
use Rattle.dw_base.specs.StringTables.{TextTable, table_bytes}
use Rattle.dw_base.specs.Texts.{laid_texts}
use Rattle.dbg_gen.specs.Asked.{AreFew, HasUnits}
use Rattle.dbg_gen.specs.GeneratedFiles.{file_of_counts, file_with, generated}
use Rattle.dbg_gen.specs.GeneratedLines.{lines_of}
use Rattle.dbg_gen.specs.GeneratedTexts.{texts_of}
use Rattle.dbg_gen.specs.GeneratedUnits.{units_of}
use Rattle.dbg_gen.specs.VariableCounts.{variable_counts}
use Rattle.dbg_gen.proofs.SizeLaws.{file-small}
use Rattle.dbg_gen.proofs.TextThereLaws.{texts-there}

-- the table of the texts has those that units name, and begins with none
pub table-there : (table : TextTable) (counts : List ℕ) (units : ℕ) → table ≡ record { kept = []; texts = texts_of counts units } → HasUnits table.texts counts units
table-there table counts units e = subst (λ (t : TextTable). HasUnits t.texts counts units) (sym e) (texts-there counts units)

pub table-bare : (table : TextTable) (counts : List ℕ) (units : ℕ) → table ≡ record { kept = []; texts = texts_of counts units } → table.kept ≡ []
table-bare table counts units e = ap (λ (t : TextTable). t.kept) e

-- the file of the parts
file-is : (table : TextTable) (counts : List ℕ) (units : ℕ) (info texts lines : List ℕ) → length counts ≡ units → table ≡ record { kept = []; texts = texts_of counts units }
    → info ≡ units_of table.texts counts units → texts ≡ table_bytes table → lines ≡ lines_of counts units → file_with info texts lines ≡ file_of_counts counts
unfolding file_of_counts
file-is table counts units info texts lines each made info_is texts_is lines_is =
    rw (info_is, texts_is, lines_is)
    (ap (λ (t : TextTable). file_with (units_of t.texts counts units) (table_bytes t) (lines_of counts units)) made
    ∙ ap (λ (n : ℕ). file_with (units_of (texts_of counts n) counts n) (laid_texts (texts_of counts n)) (lines_of counts n)) (sym each))

pub parts-small : (table : TextTable) (counts : List ℕ) (units : ℕ) (info texts lines : List ℕ) → length counts ≡ units → table ≡ record { kept = []; texts = texts_of counts units }
    → info ≡ units_of table.texts counts units → texts ≡ table_bytes table → lines ≡ lines_of counts units → AreFew counts → units ≤ 10000
    → length (file_with info texts lines) ≤ output_limit
parts-small table counts units info texts lines each made info_is texts_is lines_is few small =
    rw (file-is table counts units info texts lines each made info_is texts_is lines_is) (file-small counts (omega (arith, each, small)) few)

pub parts-generated : (seed : ℕ) (table : TextTable) (counts : List ℕ) (units : ℕ) (info texts lines : List ℕ) → counts ≡ variable_counts seed units → length counts ≡ units
    → table ≡ record { kept = []; texts = texts_of counts units } → info ≡ units_of table.texts counts units → texts ≡ table_bytes table → lines ≡ lines_of counts units
    → file_with info texts lines ≡ generated seed units
unfolding generated
parts-generated seed table counts units info texts lines counted each made info_is texts_is lines_is =
    file-is table counts units info texts lines each made info_is texts_is lines_is ∙ ap file_of_counts counted

pub ruleset generated_laws = (table-there, table-bare, parts-small, parts-generated)
