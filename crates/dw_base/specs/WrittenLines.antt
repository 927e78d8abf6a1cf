-- The line table that an edit makes of one (DWARF 5, 6.2.4): its paths are mapped where they stand in it, the offsets of the others
-- become those of their new texts, and both lengths are those of what follows them. All else is copied, the program too.
use Rattle.std.specs.Prelude.{ℕ, ◌+◌, ◌-◌, ◌==◌, if◌then◌else◌, List, [], ◌∷◌, ◌++◌, length, take, drop, Option, Some, None}
use Rattle.dw_base.specs.Cells.{Cell, bytes_of, cells_at}
use Rattle.dw_base.specs.LineSources.{LineSource}
use Rattle.dw_base.specs.Forms.{width_size}
use Rattle.dw_base.specs.NewOffsets.{with_offset}
use Rattle.dw_base.specs.Numbers.{number_bytes}
use Rattle.dw_base.specs.Paths.{PathMap, mapped_path}
use Rattle.dw_base.specs.declared.shared.Order.{Order}
use Rattle.dw_base.specs.declared.shared.Width.{Width}
use Rattle.dw_base.specs.declared.shared.Width.TheVariants.{W32, W64}
use Rattle.dw_base.specs.declared.line_tables.TextPlace.{TextPlace}
use Rattle.dw_base.specs.LineHeaders.{length_place}
use Rattle.dw_base.specs.LineTables.{LineTable}

-- the bytes from a place up to another
abbrev pub part : List ℕ → ℕ → ℕ → List ℕ
part bytes from end = take (end - from) (drop from bytes)

-- the cells from a place up to another
abbrev pub cells_part : List Cell → ℕ → ℕ → List Cell
cells_part cells from end = take (end - from) (drop from cells)

-- so many bytes at a place
abbrev pub bytes_at : List ℕ → ℕ → ℕ → List ℕ
bytes_at bytes at n = take n (drop at bytes)

-- bytes at a place become others
pub record Change : Type 0 where
  pub at : ℕ
  pub old : List ℕ
  pub new : List ℕ

-- the bytes from a place up to another, with changes in them in the order of their places
abbrev pub changed : List ℕ → ℕ → ℕ → List Change → List ℕ
changed bytes from end [] = part bytes from end
changed bytes from end (c ∷ cs) = part bytes from c.at ++ (c.new ++ changed bytes (c.at + length c.old) end cs)

-- the new places of texts by their old ones, in the section of texts of each; none where a text stays where it is
abbrev pub new_place : LineSource → (ℕ → Option ℕ) → (ℕ → Option ℕ) → TextPlace → Option ℕ
new_place g str line_str x = if x.section == g.str.number then str x.at else line_str x.at

-- a path that stands in the table is mapped
abbrev pub inline_change : PathMap → List ℕ → TextPlace → Change
inline_change m bytes x = record { at = x.at; old = bytes_at bytes x.at x.len; new = mapped_path m (bytes_at bytes x.at x.len) }

-- the offset of another becomes that of its new text, where it has one: its bytes, or the addend of its relocation
abbrev pub offset_changes : Order → Width → List ℕ → List Cell → ℕ → Option ℕ → List Change
offset_changes order width bytes cells field None = []
offset_changes order width bytes cells field (Some place) =
    record {
      at = field;
      old = bytes_at bytes field (width_size width);
      new = bytes_of (with_offset order (cells_at cells field (width_size width)) place);
    }
    ∷ []

-- what becomes of a path: it stands in the table where it is in the section of line tables
abbrev pub path_changes : LineSource → PathMap → (TextPlace → Option ℕ) → Width → TextPlace → List Change
path_changes g m places width x =
    if x.section == g.number then inline_change m g.bytes x ∷ []
    else offset_changes g.order width g.bytes g.cells x.field (places x)

abbrev pub all_changes : LineSource → PathMap → (TextPlace → Option ℕ) → Width → List TextPlace → List Change
all_changes g m places width [] = []
all_changes g m places width (x ∷ xs) = path_changes g m places width x ++ all_changes g m places width xs

-- where the version stands: behind the length, whose field has 4 or 12 bytes (DWARF 5, 7.4)
abbrev pub length_size : Width → ℕ
length_size W32 = 4
length_size W64 = 12

-- where the length of the header stands in a table of a version from a place on, and what follows it
abbrev pub header_length_place : ℕ → Width → ℕ → ℕ
header_length_place start width version = length_place version (start + length_size width)

abbrev pub behind_lengths : ℕ → Width → ℕ → ℕ
behind_lengths start width version = header_length_place start width version + width_size width

-- a header with its length in front, behind the version and, in version 5, the sizes of addresses and of segment selectors
abbrev pub with_header_length : LineSource → LineTable → List ℕ → List ℕ
with_header_length g t header =
    part g.bytes (t.start + length_size t.width) (header_length_place t.start t.width t.version)
    ++ (number_bytes g.order (width_size t.width) (length header) ++ header)

-- the same and the program: what stands behind the length of the table
abbrev pub with_program : LineSource → LineTable → List ℕ → List ℕ
with_program g t front = front ++ part g.bytes t.program t.end

-- the length in front of so many bytes (DWARF 5, 7.4)
abbrev pub length_bytes : Order → Width → ℕ → List ℕ
length_bytes order W32 n = number_bytes order 4 n
length_bytes order W64 n = number_bytes order 4 0xffff_ffff ++ number_bytes order 8 n
