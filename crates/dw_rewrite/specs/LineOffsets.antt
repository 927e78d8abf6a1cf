-- The section that holds the relocations of line tables when these are written anew (DWARF 5, 6.2.4; gABI ch. 4 "Relocation"): each record moves with
-- the byte at which its relocation begins, and has the addend that makes the offset of its field.
use Rattle.std.specs.Prelude.{Bool, ◌≡◌, ◌⊎◌, ℕ, suc, ◌+◌, ◌^◌, ◌<◌, ◌≤◌, List, [], ◌∷◌, ◌++◌, length, map, Option, None, Some, ⊤}
use Rattle.dw_base.specs.Cells.{Cell}
use Rattle.dw_base.specs.Elf.{contents_of}
use Rattle.dw_base.specs.Layout.{output_limit}
use Rattle.dw_base.specs.LineReadings.{all_lines, starts_from}
use Rattle.dw_base.specs.LineSources.{LineSource}
use Rattle.dw_base.specs.LineTables.{LineTable}
use Rattle.dw_base.specs.Paths.{PathMap}
use Rattle.dw_base.specs.Refusals.{at}
use Rattle.dw_base.specs.RelocationFields.{relocation_at}
use Rattle.dw_base.specs.SectionRelocations.{relocation_section, relocation_source}
use Rattle.dw_base.specs.declared.fault.Kind.TheVariants.{TooWide}
use Rattle.dw_base.specs.declared.fault.Refusal.{Refusal}
use Rattle.dw_meaning.specs.DataOutput.{Body}
use Rattle.dw_meaning.specs.LineStretches.{Stretch, stretches_end}
use Rattle.dw_meaning.specs.NewAddends.{Makes, Misses}
use Rattle.elf_relocs.specs.declared.runs.Run.{Run}
use Rattle.dw_patch.specs.RecordMoves.{PlacesFit, moved_table}
use Rattle.elf_layout.specs.declared.patch.Patch.{Patch}
use Rattle.dw_meaning.specs.TextLineCells.{table_stretches_by_texts}
use Rattle.dw_lines.specs.NewTexts.{text_known}
use Rattle.dw_lines.specs.TableMoves.{TextsInOrder, new_end, offsets_from, runs_from}
use Rattle.dw_lines.specs.declared.moves.NewFieldOffset.{NewFieldOffset}
use Rattle.dw_rewrite.specs.NewLines.{StandsIn, lines_known}

-- what tables one behind another become, stretch by stretch, from the new places that are known in each table of texts
abbrev pub stretches_known : PathMap → LineSource → (Bool → ℕ → Option ℕ) → (Bool → ℕ → Option ℕ) → List LineTable → List Stretch
stretches_known m g ks kl [] = []
stretches_known m g ks kl (t ∷ ts) = table_stretches_by_texts g m (text_known g ks kl) t ++ stretches_known m g ks kl ts

-- the runs of their bytes, and their fields that say other offsets
abbrev pub line_runs : PathMap → LineSource → (Bool → ℕ → Option ℕ) → (Bool → ℕ → Option ℕ) → List LineTable → List Run
line_runs m g ks kl ts = runs_from 0 0 (stretches_known m g ks kl ts)

abbrev pub line_offsets : PathMap → LineSource → (Bool → ℕ → Option ℕ) → (Bool → ℕ → Option ℕ) → List LineTable → List NewFieldOffset
line_offsets m g ks kl ts = offsets_from 0 (stretches_known m g ks kl ts)

-- the same for the records
abbrev pub said_field : NewFieldOffset → Patch
said_field f = record { at = f.at; size = f.size; value = f.offset }

abbrev pub said_fields : List NewFieldOffset → List Patch
said_fields fs = map said_field fs

-- a table starts at a place, its new bytes at another, below which all new bytes lie, and its texts stand in their order
pub record TableMoves (m : PathMap) (g : LineSource) (ks kl : Bool → ℕ → Option ℕ) (place new start : ℕ) (t : LineTable) : Type 0 where
  pub stands : StandsIn g t
  pub begins : t.start ≡ place
  pub start_is : start ≡ new
  pub order : TextsInOrder g m (text_known g ks kl) t
  pub fits : new_end new (table_stretches_by_texts g m (text_known g ks kl) t) < 2 ^ 63

-- tables do, one behind another, and start anew at these places
abbrev pub AllMove : PathMap → LineSource → (Bool → ℕ → Option ℕ) → (Bool → ℕ → Option ℕ) → ℕ → ℕ → List LineTable → List ℕ → Type 0
AllMove m g ks kl place new [] starts = ⊤
AllMove m g ks kl place new (t ∷ ts) [] = ⊥
AllMove m g ks kl place new (t ∷ ts) (n ∷ ns) =
    TableMoves m g ks kl place new n t
    × AllMove m g ks kl (stretches_end place (table_stretches_by_texts g m (text_known g ks kl) t)) (new_end new (table_stretches_by_texts g m (text_known g ks kl) t)) ts ns

-- the starts of new tables that are small enough to be written
pub record StartsKnown (m : PathMap) (g : LineSource) (ks kl : Bool → ℕ → Option ℕ) (ts : List LineTable) (ns : List ℕ) : Type 0 where
  pub starts : ns ≡ starts_from 0 (lines_known m g ks kl ts)
  pub small : length (all_lines (lines_known m g ks kl ts)) ≤ output_limit

-- fields lie in so many bytes, each has the size of an offset, and each begins behind the one before it
abbrev pub OffsetsInside : ℕ → List NewFieldOffset → Type 0
OffsetsInside n [] = ⊤
OffsetsInside n (f ∷ fs) = (f.at + f.size ≤ n) × OffsetsInside n fs

abbrev pub OffsetsSized : List NewFieldOffset → Type 0
OffsetsSized [] = ⊤
OffsetsSized (f ∷ fs) = ((f.size ≡ 4) ⊎ (f.size ≡ 8)) × OffsetsSized fs

abbrev pub OffsetsRise : ℕ → List NewFieldOffset → Type 0
OffsetsRise p [] = ⊤
OffsetsRise p (f ∷ fs) = (p ≤ f.at) × OffsetsRise (suc f.at) fs

-- the addend of the relocation that begins at each, where one does, makes its offset
abbrev pub OffsetsMake : List Cell → List NewFieldOffset → Type 0
OffsetsMake cells [] = ⊤
OffsetsMake cells (f ∷ fs) = Makes (relocation_at cells f.at) f.size f.offset × OffsetsMake cells fs

-- or that of one doesn't, in the section of a number
abbrev pub OffsetMisses : ℕ → List Cell → List NewFieldOffset → Refusal → Type 0
OffsetMisses number cells [] r = ⊥
OffsetMisses number cells (f ∷ fs) r =
    ((r ≡ at TooWide number f.at) × Misses (relocation_at cells f.at) f.size f.offset) ⊎ OffsetMisses number cells fs r

-- the new places of their relocations fit the words of the records that hold them
pub record LinesFit (b : List ℕ) (m : PathMap) (g : LineSource) (ks kl : Bool → ℕ → Option ℕ) (ts : List LineTable) (i : ℕ) : Type 0 where
  pub each : (k : ℕ) → relocation_section b i ≡ Some k → PlacesFit (relocation_source (contents_of b) b k) (line_runs m g ks kl ts)

-- the section of a number that holds the relocations of the tables, if there is one
abbrev pub held_lines : List ℕ → PathMap → LineSource → (Bool → ℕ → Option ℕ) → (Bool → ℕ → Option ℕ) → List LineTable → Option ℕ → List Body
held_lines b m g ks kl ts None = []
held_lines b m g ks kl ts (Some k) =
    record {
      number = k;
      bytes = moved_table (relocation_source (contents_of b) b k) (line_runs m g ks kl ts) (said_fields (line_offsets m g ks kl ts));
    }
    ∷ []

-- that of the section of line tables, where the file has one
abbrev pub line_record : List ℕ → PathMap → LineSource → (Bool → ℕ → Option ℕ) → (Bool → ℕ → Option ℕ) → List LineTable → Option ℕ → List Body
line_record b m g ks kl ts None = []
line_record b m g ks kl ts (Some i) = held_lines b m g ks kl ts (relocation_section b i)
