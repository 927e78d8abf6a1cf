-- What the section of string offsets says of paths, as the code has it.
use Rattle.std.proofs.Common.{◌≡◌, ℕ, List, [], ◌∷◌, ◌++◌, Option, Some, None, sym, ap, ◌∙◌, append-nil}
use Rattle.dw_base.specs.DebugSections.{name_of}
use Rattle.dw_base.specs.FileViews.{View, section_named}
use Rattle.dw_base.specs.Slots.{slots_of}
use Rattle.dw_base.specs.declared.debug_sections.DebugSection.TheVariants.{Str, StrOffsets}
use Rattle.dw_base.specs.declared.string_offsets.Contribution.{Contribution}
use Rattle.dw_offsets.specs.declared.fields.OffsetField.{OffsetField}
use Rattle.dw_offsets.specs.PathSlots.{SlotsTaken, slots_in}
use Rattle.dw_read.specs.FoundPaths.{SlotsFound}
use Rattle.dw_read.specs.SlotPaths.{slots_with, slots_by}
use Rattle.dw_unit_fields.specs.SectionFields.{SectionFields, with_fields}
use Rattle.dw_unit_fields.specs.EntryTexts.{no_paths}

-- what the section says
pub with-fields : (n : ℕ) (fields : List OffsetField) (none u : SectionFields) → none ≡ no_paths n → u ≡ with_fields none Str fields → u ≡ slots_with n fields
with-fields n fields none u e is = is ∙ ap (λ (x : SectionFields). with_fields x Str fields) e

pub ruleset with_rules = (with-fields)

-- it stands behind what was found, where there is such a section
pub slots-pushed : (v : View) (list : List Contribution) (marks : List ℕ) (old new : List SectionFields) (n : ℕ) (fields : List OffsetField) (u : SectionFields)
    → Some n ≡ section_named v (name_of StrOffsets) → SlotsTaken (slots_in v) marks (slots_of list) [] fields → u ≡ slots_with n fields
    → new ≡ old ++ u ∷ [] → SlotsFound v list marks old new
slots-pushed v list marks old new n fields u found taken is e = record {
  fields = fields;
  taken = taken;
  is = e ∙ ap (λ (x : SectionFields). old ++ x ∷ []) is ∙ ap (λ (o : Option ℕ). old ++ slots_by o fields) found;
}

pub slots-none : (v : View) (list : List Contribution) (marks : List ℕ) (old new : List SectionFields) (fields : List OffsetField)
    → None ≡ section_named v (name_of StrOffsets) → SlotsTaken (slots_in v) marks (slots_of list) [] fields → new ≡ old → SlotsFound v list marks old new
slots-none v list marks old new fields none taken e = record {
  fields = fields;
  taken = taken;
  is = e ∙ sym (append-nil old) ∙ ap (λ (o : Option ℕ). old ++ slots_by o fields) none;
}

pub ruleset push_rules = (slots-pushed, slots-none)
