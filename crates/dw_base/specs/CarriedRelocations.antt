-- The relocations of sections that are carried as they are, neither read nor loaded (gABI ch. 4 "Relocation", and "Sections" for `sh_flags` and
-- `sh_info`): one whose symbol lies in a table of texts gives an offset into it, which would be stale once the table is built anew. It refuses the
-- file, as Relocation at its place: this project's profile. What the sections hold is said beside the file.
use Rattle.std.specs.Prelude.{Bool, true, false, ◌≡◌, ℕ, ◌<◌, ◌==◌, ◌&&◌, not, nat_lt, List, Option, Some, None, is_some}
use Rattle.dw_base.specs.DebugSections.{debug_section}
use Rattle.dw_base.specs.Elf.{nth_section, section_count, section_name}
use Rattle.dw_base.specs.Layout.{is_alloc}
use Rattle.dw_base.specs.Refusals.{at}
use Rattle.dw_base.specs.RelocationSectionFails.{IsAmong, holds_texts}
use Rattle.dw_base.specs.SectionRelocations.{PlacedRelocation, relocates, relocation_source, relocations_in}
use Rattle.dw_base.specs.declared.fault.Kind.TheVariants.{Relocation as RelocationKind}
use Rattle.dw_base.specs.declared.fault.Refusal.{Refusal}

-- the section of a number is there, isn't read, and isn't in the image of the running program; section 0 is none
abbrev pub is_carried : List ℕ → ℕ → Bool
is_carried b i =
    not (i == 0) && nat_lt i (section_count b) && not (is_some (debug_section (section_name b i))) && not (is_alloc (nth_section b i))

-- a symbol lies in a table of texts
abbrev pub lies_in_texts : List ℕ → Option (ℕ × ℕ) → Bool
lies_in_texts b None = false
lies_in_texts b (Some t) = nat_lt t.0 (section_count b) && holds_texts (debug_section (section_name b t.0))

-- a relocation of a carried section, in whichever section of a number k holds it
pub record IsCarried (contents : ℕ → List ℕ) (b : List ℕ) (i k : ℕ) (r : PlacedRelocation) : Type 0 where
  pub carried : is_carried b i ≡ true
  pub below : k < section_count b
  pub holds : relocates b i k ≡ true
  pub among : IsAmong (relocations_in (relocation_source contents b k)) r

-- the row of one whose symbol lies in a table of texts
pub data CarriedFails (contents : ℕ → List ℕ) (b : List ℕ) : Refusal → Type 0 where
  into_texts : (i k : ℕ) (r : PlacedRelocation) → IsCarried contents b i k r → lies_in_texts b r.relocation.target ≡ true
      → CarriedFails contents b (at RelocationKind i r.place)

-- and what holds where there is none
pub record CarriedRead (contents : ℕ → List ℕ) (b : List ℕ) : Type 0 where
  pub apart : (i k : ℕ) (r : PlacedRelocation) → IsCarried contents b i k r → lies_in_texts b r.relocation.target ≡ false
