-- What becomes of the records of relocations when the cells of their section change (gABI ch. 4 "Relocation"): each moves with the byte at
-- which it begins, and has the addend that it has there. Symbols and types stay, and so does a record of no relocation.
use Rattle.std.specs.Prelude.{ℕ, ℤ, zero, suc, ◌*◌, ◌==◌, if◌then◌else◌, List, [], ◌∷◌, ◌++◌, length, Option, Some, None}
use Rattle.dw_base.specs.Cells.{Cell, Relocation}
use Rattle.dw_base.specs.RelocationFields.{relocation_at}
use Rattle.dw_base.specs.RelocChanges.{with_reloc}
use Rattle.dw_base.specs.Relocs.{reloc_in, reloc_size}
use Rattle.dw_base.specs.SectionRelocations.{RelocationSource, is_none_type, records_in}
use Rattle.dw_base.specs.declared.relocations.Reloc.{Reloc}

-- the places at which relocations begin, in cells from a place on
abbrev pub begun_at : Option Relocation → ℕ → List ℕ
begun_at None place = []
begun_at (Some r) place = place ∷ []

abbrev pub begin_places : ℕ → List Cell → List ℕ
begin_places place [] = []
begin_places place (c ∷ cs) = begun_at c.relocation place ++ begin_places (suc place) cs

-- the new place of a relocation that began at one: they keep their order
abbrev pub place_after : List ℕ → List ℕ → ℕ → ℕ
place_after [] news p = p
place_after (o ∷ os) [] p = p
place_after (o ∷ os) (n ∷ ns) p = if o == p then n else place_after os ns p

abbrev pub addend_there : Option Relocation → Option ℤ
addend_there None = None
addend_there (Some r) = r.addend

-- the table with the record of a number moved to a place of new cells
abbrev pub record_moved : RelocationSource → List Cell → ℕ → ℕ → List ℕ → List ℕ
record_moved g cells i place table = with_reloc g.class g.order g.rela table i place (addend_there (relocation_at cells place))

abbrev pub record_after : RelocationSource → List Cell → List Cell → ℕ → Reloc → List ℕ → List ℕ
record_after g old new i r table =
    if is_none_type g.machine r.kind then table
    else record_moved g new i (place_after (begin_places 0 old) (begin_places 0 new) r.offset) table

-- the table with the first so many records moved
abbrev pub records_after : RelocationSource → List Cell → List Cell → ℕ → List ℕ
records_after g old new zero = g.table
records_after g old new (suc n) =
    record_after g old new n (reloc_in g.class g.order g.rela g.table (n * reloc_size g.class g.rela)) (records_after g old new n)

-- the new bytes of a section that holds relocations
unfoldable pub relocation_body : RelocationSource → List Cell → List Cell → List ℕ
relocation_body g old new = records_after g old new (length (records_in g))
