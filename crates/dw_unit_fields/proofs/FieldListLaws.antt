-- The lists of fields of a section, one for each section of debug data into which they hold offsets.
use Rattle.std.proofs.Common.{◌≡◌, ℕ, zero, suc, ◌<◌, List, [], ◌∷◌, ◌++◌, length, map, get_or, slice_set, Option, refl, ap, sym, ◌∙◌, arith, append_assoc, append-nil}
use Rattle.dw_base.specs.declared.debug_sections.DebugSection.{DebugSection}
use Rattle.dw_base.specs.declared.debug_sections.DebugSection.TheVariants.{Info, Types, Abbrev, Str, LineStr, StrOffsets, Line, Macro, Names}
use Rattle.dw_offsets.specs.declared.fields.OffsetField.{OffsetField}
use Rattle.dw_unit_fields.specs.SectionFields.{SectionFields, each_behind}
use Rattle.dw_unit_fields.specs.declared.fields.InlinePath.{InlinePath}

-- a list that is written among lists
pub map-set : {A B : Type 0} (f : A → B) (xs : List A) (i : ℕ) (x : A) → map f (slice_set xs i x) ≡ slice_set (map f xs) i (f x)
map-set f [] i x = refl
map-set f (y ∷ ys) zero x = refl
map-set f (y ∷ ys) (suc i) x = ap (λ zs. f y ∷ zs) (map-set f ys i x)

pub ruleset list_rules = (map-set)

-- two functions of the section are the same where they are for each section
pub each-section : (F G : DebugSection → List OffsetField) → F Info ≡ G Info → F Types ≡ G Types → F Abbrev ≡ G Abbrev → F Str ≡ G Str → F LineStr ≡ G LineStr
    → F StrOffsets ≡ G StrOffsets → F Line ≡ G Line → F Macro ≡ G Macro → F Names ≡ G Names → (s : DebugSection) → F s ≡ G s
each-section F G info types abbrevs str line_str offsets line macros names Info = info
each-section F G info types abbrevs str line_str offsets line macros names Types = types
each-section F G info types abbrevs str line_str offsets line macros names Abbrev = abbrevs
each-section F G info types abbrevs str line_str offsets line macros names Str = str
each-section F G info types abbrevs str line_str offsets line macros names LineStr = line_str
each-section F G info types abbrevs str line_str offsets line macros names StrOffsets = offsets
each-section F G info types abbrevs str line_str offsets line macros names Line = line
each-section F G info types abbrevs str line_str offsets line macros names Macro = macros
each-section F G info types abbrevs str line_str offsets line macros names Names = names

-- functions that are the same for each section give the same lists
pub lists-same : (F G : DebugSection → List OffsetField) (ss : List DebugSection) → ((s : DebugSection) → F s ≡ G s) → map F ss ≡ map G ss
lists-same F G [] e = refl
lists-same F G (s ∷ ss) e = ap (λ (x : List OffsetField). x ∷ map F ss) (e s) ∙ ap (λ (xs : List (List OffsetField)). G s ∷ xs) (lists-same F G ss e)

-- more behind each, and more again
pub behind-more : (ls : List (List OffsetField)) (F G : DebugSection → List OffsetField) (ss : List DebugSection)
    → each_behind (each_behind ls (map F ss)) (map G ss) ≡ each_behind ls (map (λ s. F s ++ G s) ss)
behind-more [] F G ss = refl
behind-more (l ∷ ls) F G [] = refl
behind-more (l ∷ ls) F G (s ∷ ss) =
    ap (λ (x : List OffsetField). x ∷ each_behind (each_behind ls (map F ss)) (map G ss)) (append_assoc l (F s) (G s))
    ∙ ap (λ (xs : List (List OffsetField)). (l ++ (F s ++ G s)) ∷ xs) (behind-more ls F G ss)

-- nothing behind any
pub behind-none : (ls : List (List OffsetField)) (F : DebugSection → List OffsetField) (ss : List DebugSection) → ((s : DebugSection) → F s ≡ []) → each_behind ls (map F ss) ≡ ls
behind-none [] F ss none = refl
behind-none (l ∷ ls) F [] none = refl
behind-none (l ∷ ls) F (s ∷ ss) none =
    ap (λ (x : List OffsetField). (l ++ x) ∷ each_behind ls (map F ss)) (none s) ∙ ap (λ (x : List OffsetField). x ∷ each_behind ls (map F ss)) (append-nil l)
    ∙ ap (λ (xs : List (List OffsetField)). l ∷ xs) (behind-none ls F ss none)

-- one field behind one of them
abbrev pub only_at : ℕ → OffsetField → List DebugSection → List (List OffsetField)
only_at n f [] = []
only_at zero f (s ∷ ss) = (f ∷ []) ∷ map (λ x. []) ss
only_at (suc n) f (s ∷ ss) = [] ∷ only_at n f ss

pub one-behind : (ls : List (List OffsetField)) (n : ℕ) (f : OffsetField) (ss : List DebugSection) → n < length ss
    → slice_set ls n (get_or ls n [] ++ f ∷ []) ≡ each_behind ls (only_at n f ss)
one-behind [] n f ss lt = refl
one-behind (l ∷ ls) n f [] lt = absurd (omega (arith, lt))
one-behind (l ∷ ls) zero f (s ∷ ss) lt = ap (λ (xs : List (List OffsetField)). (l ++ f ∷ []) ∷ xs) (sym (behind-none ls (λ x. []) ss (λ x. refl)))
one-behind (l ∷ ls) (suc n) f (s ∷ ss) lt =
    ap (λ (xs : List (List OffsetField)). l ∷ xs) (one-behind ls n f ss (omega (arith, lt))) ∙ ap (λ (x : List OffsetField). x ∷ each_behind ls (only_at n f ss)) (sym (append-nil l))

-- what sections say is the same where each of its parts is
abbrev paths_with : ℕ → List (List OffsetField) → List InlinePath → Option ℕ → SectionFields
paths_with number fields inline stray = record { number = number; fields = fields; inline = inline; stray = stray }

pub paths-same : (n : ℕ) (f g : List (List OffsetField)) (i j : List InlinePath) (o p : Option ℕ) → f ≡ g → i ≡ j → o ≡ p → paths_with n f i o ≡ paths_with n g j p
paths-same n f g i j o p fields inline stray =
    ap (λ (x : List (List OffsetField)). paths_with n x i o) fields ∙ ap (λ (x : List InlinePath). paths_with n g x o) inline ∙ ap (λ (x : Option ℕ). paths_with n g j x) stray
