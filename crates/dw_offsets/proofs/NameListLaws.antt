-- Laws of the name tables of a section: all were read, or some can't be.
use Rattle.std.proofs.Common.{◌≡◌, ℕ, ◌<◌, ◌≤◌, List, length, subst, arith}
use Rattle.dw_base.specs.FileViews.{View}
use Rattle.dw_base.specs.declared.fault.Refusal.{Refusal}
use Rattle.dw_base.specs.NameTables.{TablesUpTo, no_tables, more_tables}
use Rattle.dw_base.specs.NameTableFails.{one}
use Rattle.dw_base.specs.declared.name_tables.NameTable.{NameTable}
use Rattle.dw_offsets.proofs.NameStringLaws.{none-fit, fits-more, tables-fit}
use Rattle.dw_base.specs.NameOffsets.{ReadUpTo, none_read, more_read, TableRefuses, table_fails, offset_fails, TablesRefuse, tables, offsets}

-- tables whose string offsets can be read are tables
pub read-tables : (v : View) (section : ℕ) (bytes : List ℕ) (list : List NameTable) (place : ℕ) → ReadUpTo v section bytes list place
    → TablesUpTo v section bytes list place
read-tables v section bytes list place none_read = no_tables
read-tables v section bytes list place (more_read before t start u is reads) = more_tables before t start (read-tables v section bytes before start u) is

-- some table can't be read
pub section-fails : (v : View) (section : ℕ) (bytes found : List ℕ) (start : ℕ) (list : List NameTable) (r : Refusal) → ReadUpTo v section bytes list start → found ≡ bytes
    → start < length found → TableRefuses v section bytes start r → TablesRefuse v section bytes r
section-fails v section bytes found start list r u same lt (table_fails f) =
    tables (one list start (read-tables v section bytes list start u) (subst (λ (bs : List ℕ). start < length bs) same lt) f)
section-fails v section bytes found start list r u same lt (offset_fails t is f) =
    offsets list start t u (subst (λ (bs : List ℕ). start < length bs) same lt) is f

-- all were read
pub tables-fill : (v : View) (section : ℕ) (bytes found : List ℕ) (start : ℕ) (list : List NameTable) → ReadUpTo v section bytes list start → found ≡ bytes → start ≤ length bytes
    → length found ≤ start → ReadUpTo v section bytes list (length bytes)
tables-fill v section bytes found start list u same within far =
    subst (λ (k : ℕ). ReadUpTo v section bytes list k) (omega (arith, within, subst (λ (bs : List ℕ). length bs ≤ start) same far)) u

pub ruleset list_laws = (none_read, more_read, section-fails, tables-fill, none-fit, fits-more, tables-fit)
