-- Why the units of a section aren't given: one of them can't be read, or the offset of its abbreviations can't, for a relocation (DWARF 5,
-- 7.5.1; gABI ch. 4 "Relocation"). The header is judged first. And units one after another whose offsets can be read.
use Rattle.std.specs.Prelude.{◌≡◌, ℕ, List, [], ◌∷◌, ◌++◌, drop}
use Rattle.dw_base.specs.Lebs.{initial_length_at}
use Rattle.dw_base.specs.RelocationRows.{FieldPlace, HeaderOffsetFails, OffsetFails, OffsetReads, header_field}
use Rattle.dw_base.specs.UnitFails.{HeaderFails, UnitFails, bytes_from}
use Rattle.dw_base.specs.UnitHeaders.{IsUnit, UnitBase, UnitSection}
use Rattle.dw_base.specs.declared.fault.Refusal.{Refusal}
use Rattle.dw_base.specs.declared.units.UnitHeader.{UnitHeader}

-- a field is that of the offset of abbreviations, in the header at a place
abbrev pub IsOffsetOf : UnitBase → UnitSection → ℕ → FieldPlace → Type 0
IsOffsetOf base z start f = header_field base.order start (drop start z.contents) (initial_length_at base.order (bytes_from z start) 0) ≡ f ∷ []

-- no unit at a place is given
pub data UnitRefuses (base : UnitBase) (z : UnitSection) (start : ℕ) : Refusal → Type 0 where
  unread : {r : Refusal} → HeaderFails base z start r → UnitRefuses base z start r
  offset : (h : UnitHeader) (f : FieldPlace) {r : Refusal} → IsUnit base z start h → IsOffsetOf base z start f
      → OffsetFails base.order z.number z.contents f r → UnitRefuses base z start r

-- the units of a section aren't given
pub data HeadersRefuse (base : UnitBase) (z : UnitSection) : Refusal → Type 0 where
  units : {r : Refusal} → UnitFails base z r → HeadersRefuse base z r
  offsets : {r : Refusal} → HeaderOffsetFails base z r → HeadersRefuse base z r

-- the offset in the header at a place can be read
pub record OffsetRead (base : UnitBase) (z : UnitSection) (start : ℕ) : Type 0 where
  pub all : (f : FieldPlace) → IsOffsetOf base z start f → OffsetReads base.order z.contents f

-- units that can be read, with their offsets, stand one after another from the section's start up to a place
pub data ReadUpTo (base : UnitBase) (z : UnitSection) : List UnitHeader → ℕ → Type 0 where
  none_read : ReadUpTo base z [] 0
  more_read : (list : List UnitHeader) (h : UnitHeader) (start : ℕ) → ReadUpTo base z list start → IsUnit base z start h → OffsetRead base z start
      → ReadUpTo base z (list ++ h ∷ []) h.end
