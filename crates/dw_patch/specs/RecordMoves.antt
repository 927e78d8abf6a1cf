-- The records of a section's relocations when its bytes move, and some of its fields say other offsets (gABI ch. 4 "Relocation"): each moves with
-- the byte at which its relocation begins, and has the addend that makes the offset of its field.
use Rattle.std.specs.Prelude.{◌≡◌, ◌⊎◌, ℕ, ℤ, zero, suc, ◌*◌, ◌^◌, ◌<◌, ◌≤◌, ◌≢◌, ◌==◌, false, if◌then◌else◌, List, [], ◌∷◌, length, slice_index_or, Option, Some, None}
use Rattle.dw_base.specs.Elf.{word_size}
use Rattle.dw_base.specs.RelocChanges.{with_reloc}
use Rattle.dw_base.specs.Relocs.{reloc_at, reloc_in, reloc_size}
use Rattle.dw_base.specs.SectionRelocations.{RelocationSource, is_none_type, records_in, relocation_of}
use Rattle.dw_base.specs.declared.relocations.Reloc.{Reloc}
use Rattle.elf_relocs.specs.FieldOffsets.{offset_addend}
use Rattle.elf_layout.specs.declared.patch.Patch.{Patch}
use Rattle.elf_relocs.specs.Runs.{no_run, place_by, run_start}
use Rattle.elf_relocs.specs.declared.runs.Run.{Run}

-- where a field begins
abbrev pub field_start : Patch → ℕ
field_start f = f.at

abbrev pub no_field : Patch
no_field = record { at = 0; size = 0; value = 0 }

-- fields stand in the order in which they begin, no two at one place
pub record FieldsRise (list : List Patch) : Type 0 where
  pub rise : (i j : ℕ) → i < j → j < length list → field_start (slice_index_or list i no_field) < field_start (slice_index_or list j no_field)

-- the item of a number begins at a place, or none does: those before a number begin before it, and the others behind it
pub record HasKey {E : Type 0} (key : E → ℕ) (list : List E) (place i : ℕ) : Type 0 where
  pub inside : i < length list
  pub is : (d : E) → key (slice_index_or list i d) ≡ place

pub record IsGap {E : Type 0} (key : E → ℕ) (list : List E) (place i : ℕ) : Type 0 where
  pub inside : i ≤ length list
  pub before : (d : E) (k : ℕ) → k < i → key (slice_index_or list k d) < place
  pub behind : (d : E) (k : ℕ) → i ≤ k → k < length list → place < key (slice_index_or list k d)

-- so many runs begin at a place or before it
pub record SplitsRuns (list : List Run) (place count : ℕ) : Type 0 where
  pub inside : count ≤ length list
  pub before : (k : ℕ) → k < count → run_start (slice_index_or list k no_run) ≤ place
  pub behind : (k : ℕ) → count ≤ k → k < length list → place < run_start (slice_index_or list k no_run)

-- the field that begins at a place
abbrev pub patch_for : List Patch → ℕ → Option Patch
patch_for [] place = None
patch_for (f ∷ fs) place = if f.at == place then Some f else patch_for fs place

-- offsets have 4 or 8 bytes
pub record AllSized (list : List Patch) : Type 0 where
  pub sized : (i : ℕ) → i < length list → ((slice_index_or list i no_field).size ≡ 4) ⊎ ((slice_index_or list i no_field).size ≡ 8)

-- the addend of a record when the fields say their offsets
abbrev pub addend_if : RelocationSource → Reloc → Option Patch → Option ℤ
addend_if g r None = r.addend
addend_if g r (Some f) = offset_addend (relocation_of g r) f.size f.value

abbrev pub addend_after : RelocationSource → List Patch → Reloc → Option ℤ
addend_after g fields r = addend_if g r (patch_for fields r.offset)

-- the record of a number
abbrev pub nth_record : RelocationSource → ℕ → Reloc
nth_record g i = reloc_in g.class g.order g.rela g.table (i * reloc_size g.class g.rela)

-- the record of a number in a table
abbrev pub record_at : RelocationSource → List ℕ → ℕ → Option Reloc
record_at g table i = reloc_at g.class g.order g.rela table i

-- each record but that of one number reads as before
pub record OthersStay (g : RelocationSource) (index : ℕ) (old new : List ℕ) : Type 0 where
  pub same : (k : ℕ) → k ≢ index → record_at g new k ≡ record_at g old k

-- from a number on the records are those that are moved
pub record AreAhead (g : RelocationSource) (index : ℕ) (table : List ℕ) : Type 0 where
  pub same : (k : ℕ) → index ≤ k → record_at g table k ≡ record_at g g.table k

-- the new place of each relocation fits a word of the class
pub record PlacesFit (g : RelocationSource) (runs : List Run) : Type 0 where
  pub each : (i : ℕ) → i < length (records_in g) → is_none_type g.machine (nth_record g i).kind ≡ false
      → place_by runs (nth_record g i).offset < 256 ^ word_size g.class

-- the table with the record of a number put in
abbrev pub record_put : RelocationSource → List Run → List Patch → ℕ → Reloc → List ℕ → List ℕ
record_put g runs fields i r table = with_reloc g.class g.order g.rela table i (place_by runs r.offset) (addend_after g fields r)

abbrev pub record_step : RelocationSource → List Run → List Patch → ℕ → Reloc → List ℕ → List ℕ
record_step g runs fields i r table = if is_none_type g.machine r.kind then table else record_put g runs fields i r table

-- with the first so many, and with all of them
abbrev pub records_moved : RelocationSource → List Run → List Patch → ℕ → List ℕ
records_moved g runs fields zero = g.table
records_moved g runs fields (suc n) = record_step g runs fields n (nth_record g n) (records_moved g runs fields n)

unfoldable pub moved_table : RelocationSource → List Run → List Patch → List ℕ
moved_table g runs fields = records_moved g runs fields (length (records_in g))
