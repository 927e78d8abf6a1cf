-- Laws of the section of name tables of a view.
use Rattle.std.proofs.Common.{◌≡◌, ℕ, List, [], length, Option, Some, None, sym, ap}
use Rattle.dw_base.specs.DebugSections.{name_of}
use Rattle.dw_base.specs.FileViews.{View, section_bytes, section_named}
use Rattle.dw_base.specs.Refusals.{Blames}
use Rattle.dw_base.specs.ViewData.{located, located_at}
use Rattle.dw_base.specs.declared.debug_sections.DebugSection.TheVariants.{Names}
use Rattle.dw_base.specs.declared.fault.Fault.{Fault}
use Rattle.dw_base.specs.declared.fault.Fault.TheVariants.{NoMemory, Refused}
use Rattle.dw_base.specs.NameTables.{names_of, AreNameTables}
use Rattle.dw_base.specs.declared.name_tables.NameTable.{NameTable}
use Rattle.dw_base.specs.NameOffsets.{AreRead, NamesRefuse, none_read, ReadUpTo, TablesRefuse}
use Rattle.dw_offsets.proofs.NameListLaws.{read-tables}
use Rattle.dw_offsets.proofs.NameStringLaws.{none-fit}

here-is : (v : View) (o : Option ℕ) → o ≡ section_named v (name_of Names) → names_of v ≡ located_at v o
unfolding located
here-is v o is = ap (located_at v) (sym is)

pub none-offsets : (v : View) (list : List NameTable) → None ≡ section_named v (name_of Names) → list ≡ [] → AreRead v list
none-offsets v list none empty = rw (here-is v None none, empty) none_read

pub some-offsets : (v : View) (section : ℕ) (list : List NameTable) → Some section ≡ section_named v (name_of Names)
    → ReadUpTo v section (section_bytes v section) list (length (section_bytes v section)) → AreRead v list
some-offsets v section list some u = rw (here-is v (Some section) some) u

pub none-read : (v : View) (list : List NameTable) → None ≡ section_named v (name_of Names) → list ≡ [] → AreNameTables v list
none-read v list none empty = read-tables v (names_of v).number (names_of v).bytes list (length (names_of v).bytes) (none-offsets v list none empty)

pub some-read : (v : View) (section : ℕ) (list : List NameTable) → Some section ≡ section_named v (name_of Names)
    → ReadUpTo v section (section_bytes v section) list (length (section_bytes v section)) → AreNameTables v list
some-read v section list some u =
    read-tables v (names_of v).number (names_of v).bytes list (length (names_of v).bytes) (some-offsets v section list some u)

pub some-refused : (v : View) (section : ℕ) (x : Fault) → Some section ≡ section_named v (name_of Names)
    → Blames (TablesRefuse v section (section_bytes v section)) x → Blames (NamesRefuse v) x
some-refused v section NoMemory some f = tt
some-refused v section (Refused r) some f = rw (here-is v (Some section) some) f

pub ruleset section_laws = (none-offsets, some-offsets, none-read, some-read, none-fit)
