-- Where the sections of a file read by their names, none of the rows that refuse them holds.
use Rattle.std.proofs.Common.{◌≡◌, ◌≢◌, ℕ, Bool, true, false, ◌||◌, ◌==◌, List, arith}
use Rattle.dw_base.specs.DebugSectionFails.{NameFails, NameReads, DebugSectionsFail, DebugSectionsRead}
use Rattle.dw_base.specs.DebugSectionFails.NameFails.{compressed, zdebug, supplementary, split, unlisted}
use Rattle.dw_base.specs.DebugSectionFails.DebugSectionsFail.{file_type, named, twice, name_table}
use Rattle.dw_base.specs.Elf.{e_type, nth_section, section_name}
use Rattle.dw_base.specs.declared.elf_numbers.TheConstants.{ET_REL}
use Rattle.dw_base.specs.declared.fault.Refusal.{Refusal}
use Rattle.dw_base.specs.declared.records.Section.{Section}

name_excludes : (name : List ℕ) (s : Section) (i : ℕ) (r : Refusal) → NameReads name s → NameFails name s i r → ⊥
name_excludes name s i r ok (compressed debug flag) = flag (ok.plain debug)
name_excludes name s i r ok (zdebug h) = let is = ok.not_zdebug in cc
name_excludes name s i r ok (supplementary h) = let is = ok.not_supplementary in cc
name_excludes name s i r ok (split h) = let is = ok.not_split in cc
name_excludes name s i r ok (unlisted debug h whole) = let is = ok.listed debug in cc

either : (n m : ℕ) (t : Bool) → ((n == m) || t) ≡ true → n ≢ m → t ≡ false → ⊥
either n m true e other no_ = cc
either n m false e other no_ = grind arith

pub debug_sections_exclude : (b : List ℕ) (r : Refusal) → DebugSectionsRead b → DebugSectionsFail b r → ⊥
debug_sections_exclude b r ok (file_type other unloaded) = either (e_type b) ET_REL _ ok.file_type other unloaded
debug_sections_exclude b r ok (named i lt active fails) = name_excludes (section_name b i) (nth_section b i) i r (ok.named i lt active) fails
debug_sections_exclude b r ok (twice i j lt second) = ok.once i j lt second
debug_sections_exclude b r ok (name_table some listed) = let is = ok.apart some in cc
