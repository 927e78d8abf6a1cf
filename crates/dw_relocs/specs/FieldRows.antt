-- Offsets that stand one after another: the slots of string offsets (DWARF 5, 7.26), and the string offsets of name tables (6.1.1.4.6).
use Rattle.std.specs.Prelude.{◌≡◌, ℕ, ◌+◌, ◌*◌, ◌≤◌, List, [], ◌∷◌, ◌++◌, Result}
use Rattle.dw_base.specs.Cells.{Cell}
use Rattle.dw_base.specs.Forms.{width_size}
use Rattle.dw_base.specs.Lists.{tabulate}
use Rattle.dw_base.specs.RelocationRows.{FieldPlace, field_place, offset_field}
use Rattle.dw_base.specs.Slots.{slot_total}
use Rattle.dw_base.specs.declared.fault.Refusal.{Refusal}
use Rattle.dw_base.specs.declared.name_tables.NameTable.{NameTable}
use Rattle.dw_base.specs.declared.shared.Width.{Width}
use Rattle.dw_base.specs.declared.string_offsets.Contribution.{Contribution}
use Rattle.dw_relocs.specs.FieldWalks.{StandsAt}
use Rattle.dw_relocs.specs.declared.marks.Marks.{Marks}

-- so many offsets of a width, from a place on
abbrev pub row_field : ℕ → Width → ℕ → FieldPlace
row_field start w i = field_place (start + i * width_size w) (width_size w) offset_field

abbrev pub row_fields : ℕ → Width → ℕ → List FieldPlace
row_fields start w n = tabulate (row_field start w) n

-- the slots of contributions
abbrev pub contributions_fields : List Contribution → List FieldPlace
contributions_fields [] = []
contributions_fields (c ∷ cs) = row_fields c.base c.width (slot_total c) ++ contributions_fields cs

-- the string offsets of name tables
abbrev pub tables_fields : List NameTable → List FieldPlace
tables_fields [] = []
tables_fields (t ∷ ts) = row_fields t.strings t.width t.names ++ tables_fields ts

-- contributions stand one after another from a place on, up to the end of a section of so many bytes
abbrev pub ContributionsFrom : ℕ → List Contribution → ℕ → ℕ → Type 0
ContributionsFrom size [] place end = place ≡ end
ContributionsFrom size (c ∷ cs) place end =
    (place ≤ c.base) × (c.base ≤ c.end) × (c.base + slot_total c * width_size c.width ≡ c.end) × (c.end ≤ size) × ContributionsFrom size cs c.end end

-- and so name tables
abbrev pub TablesFrom : ℕ → List NameTable → ℕ → ℕ → Type 0
TablesFrom size [] place end = place ≡ end
TablesFrom size (t ∷ ts) place end =
    (place ≤ t.strings) × (t.strings + t.names * width_size t.width ≤ t.end) × (t.end ≤ size) × TablesFrom size ts t.end end

-- a pass stands in front of a contribution, or of a name table
pub record ContributionNext (cells : List Cell) (size : ℕ) (c : Contribution) (p : Result Marks Refusal) : Type 0 where
  pub place : ℕ
  pub stands : StandsAt cells place p
  pub before : place ≤ c.base
  pub rise : c.base ≤ c.end
  pub whole : c.base + slot_total c * width_size c.width ≡ c.end
  pub within : c.end ≤ size

pub record TableNext (cells : List Cell) (size : ℕ) (t : NameTable) (p : Result Marks Refusal) : Type 0 where
  pub place : ℕ
  pub stands : StandsAt cells place p
  pub before : place ≤ t.strings
  pub room : t.strings + t.names * width_size t.width ≤ t.end
  pub within : t.end ≤ size
