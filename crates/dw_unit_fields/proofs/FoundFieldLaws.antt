-- What was found of a section, by its lists of fields.
use Rattle.std.proofs.Common.{◌≡◌, ℕ, List, [], ◌∷◌, ◌++◌, Option, None, sym, ap, ◌∙◌}
use Rattle.dw_base.specs.declared.debug_sections.DebugSection.TheVariants.{Str, LineStr, Line, Macro}
use Rattle.dw_offsets.specs.declared.fields.OffsetField.{OffsetField}
use Rattle.dw_unit_fields.specs.EntryTexts.{no_paths}
use Rattle.dw_unit_fields.specs.SectionFields.{SectionFields, fields_into, found_with, with_field}
use Rattle.dw_unit_fields.specs.declared.fields.InlinePath.{InlinePath}

-- nothing yet
pub none-found : (u : SectionFields) (n : ℕ) (s l t m : List OffsetField) (i : List InlinePath) → found_with n s l t m i None ≡ u → s ≡ [] → l ≡ [] → t ≡ [] → m ≡ [] → i ≡ [] → u ≡ no_paths n
none-found u n s l t m i is str line_str lines macros inline =
    sym is ∙ ap (λ (x : List OffsetField). found_with n x l t m i None) str ∙ ap (λ (x : List OffsetField). found_with n [] x t m i None) line_str
    ∙ ap (λ (x : List OffsetField). found_with n [] [] x m i None) lines ∙ ap (λ (x : List OffsetField). found_with n [] [] [] x i None) macros
    ∙ ap (λ (x : List InlinePath). found_with n [] [] [] [] x None) inline

pub ruleset new_rules = (none-found)

-- the lists of starts
pub lines-into : (u : SectionFields) (n : ℕ) (s l t m fs : List OffsetField) (i : List InlinePath) (o : Option ℕ) → found_with n s l t m i o ≡ u → fs ≡ t → fs ≡ fields_into u Line
lines-into u n s l t m fs i o is same = same ∙ ap (λ (x : SectionFields). fields_into x Line) is

pub macros-into : (u : SectionFields) (n : ℕ) (s l t m fs : List OffsetField) (i : List InlinePath) (o : Option ℕ) → found_with n s l t m i o ≡ u → fs ≡ m → fs ≡ fields_into u Macro
macros-into u n s l t m fs i o is same = same ∙ ap (λ (x : SectionFields). fields_into x Macro) is

pub ruleset into_rules = (lines-into, macros-into)

-- one field more in a list
pub str-more : (u w : SectionFields) (n : ℕ) (s l t m more : List OffsetField) (i : List InlinePath) (o : Option ℕ) (f : OffsetField) → found_with n s l t m i o ≡ u
    → found_with n more l t m i o ≡ w → more ≡ s ++ f ∷ [] → w ≡ with_field u Str f
str-more u w n s l t m more i o f before after is =
    sym after ∙ ap (λ (x : List OffsetField). found_with n x l t m i o) is ∙ ap (λ (x : SectionFields). with_field x Str f) before

pub line_str-more : (u w : SectionFields) (n : ℕ) (s l t m more : List OffsetField) (i : List InlinePath) (o : Option ℕ) (f : OffsetField) → found_with n s l t m i o ≡ u
    → found_with n s more t m i o ≡ w → more ≡ l ++ f ∷ [] → w ≡ with_field u LineStr f
line_str-more u w n s l t m more i o f before after is =
    sym after ∙ ap (λ (x : List OffsetField). found_with n s x t m i o) is ∙ ap (λ (x : SectionFields). with_field x LineStr f) before

pub line-more : (u w : SectionFields) (n : ℕ) (s l t m more : List OffsetField) (i : List InlinePath) (o : Option ℕ) (f : OffsetField) → found_with n s l t m i o ≡ u
    → found_with n s l more m i o ≡ w → more ≡ t ++ f ∷ [] → w ≡ with_field u Line f
line-more u w n s l t m more i o f before after is =
    sym after ∙ ap (λ (x : List OffsetField). found_with n s l x m i o) is ∙ ap (λ (x : SectionFields). with_field x Line f) before

pub macro-more : (u w : SectionFields) (n : ℕ) (s l t m more : List OffsetField) (i : List InlinePath) (o : Option ℕ) (f : OffsetField) → found_with n s l t m i o ≡ u
    → found_with n s l t more i o ≡ w → more ≡ m ++ f ∷ [] → w ≡ with_field u Macro f
macro-more u w n s l t m more i o f before after is =
    sym after ∙ ap (λ (x : List OffsetField). found_with n s l t x i o) is ∙ ap (λ (x : SectionFields). with_field x Macro f) before

pub ruleset push_rules = (str-more, line_str-more, line-more, macro-more)

-- lists that are those that were found
pub lists-given : (u w : SectionFields) (n : ℕ) (s l t m a b c d : List OffsetField) (i j : List InlinePath) (o : Option ℕ) → found_with n s l t m i o ≡ u
    → w ≡ found_with n a b c d j o → a ≡ s → b ≡ l → c ≡ t → d ≡ m → j ≡ i → w ≡ u
lists-given u w n s l t m a b c d i j o before is str line_str lines macros inline =
    is ∙ ap (λ (x : List OffsetField). found_with n x b c d j o) str ∙ ap (λ (x : List OffsetField). found_with n s x c d j o) line_str
    ∙ ap (λ (x : List OffsetField). found_with n s l x d j o) lines ∙ ap (λ (x : List OffsetField). found_with n s l t x j o) macros
    ∙ ap (λ (x : List InlinePath). found_with n s l t m x o) inline ∙ before

pub ruleset given_rules = (lists-given)
