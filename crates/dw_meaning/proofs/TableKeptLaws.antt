-- Where the tables of texts of a file lie, and what becomes of a file's sections in its output, by their numbers.
use Rattle.std.proofs.Common.{Bool, true, false, ◌≡◌, ℕ, suc, ◌<◌, ◌≤◌, List, [], ◌∷◌, ◌++◌, drop, IsTrue, Option, Some, None, sym, ap, ◌∙◌, refl, subst, arith, if◌then◌else◌}
use Rattle.std.proofs.lemmas.List.{append-nil}
use Rattle.std.proofs.lemmas.Bool.{and_parts}
use Rattle.dw_base.specs.Cells.{Cell, Located}
use Rattle.dw_meaning.specs.DataOutput.{table_change}
use Rattle.dw_base.specs.DebugData.{Around, DataReadings, path_slots, source_around, table_of}
use Rattle.dw_base.specs.TextLineChanges.{all_texts_mentions}
use Rattle.dw_base.specs.MacroReadings.{MacroReading, EachMacro}
use Rattle.dw_base.specs.Readings.{Readings, EachReading}
use Rattle.dw_base.specs.DebugSections.{name_of}
use Rattle.dw_base.specs.Elf.{section_count, section_name, contents_of}
use Rattle.dw_base.specs.FileViews.{ViewSection, view_section, view_of, is_filled, first_filled, section_named, section_after}
use Rattle.dw_base.specs.Paths.{PathMap}
use Rattle.dw_base.specs.Pieces.{Piece, EachPiece}
use Rattle.dw_base.specs.Roles.{Role, fixed, offset, inline_path, line_start, role_of}
use Rattle.dw_base.specs.SectionTexts.{slot_role, name_role, macro_role, mentions_with, macro_mentions, file_mentions, NameTexts}
use Rattle.dw_base.specs.StringTables.{Mention, new_texts}
use Rattle.dw_base.specs.TextChanges.{offset_in, mentions_by, mentions_of, all_mentions, NamesText, NamesTextBy}
use Rattle.dw_base.specs.Texts.{same_text, ends_in, laid_texts}
use Rattle.dw_base.specs.UnitStates.{UnitState}
use Rattle.dw_base.specs.ViewData.{located, located_at}
use Rattle.dw_base.specs.declared.debug_sections.DebugSection.{DebugSection}
use Rattle.dw_meaning.proofs.FileBackLaws.{AllAt, SectionBack, tabulate-at}
use Rattle.dw_base.proofs.FileViewLaws.{section_bytes-view_of}
use Rattle.dw_base.proofs.SectionRelocationLaws.{relocations_of-loaded}
use Rattle.dw_base.proofs.TextLaws.{same_text-true, ends_in-inside}
use Rattle.dw_base.specs.declared.texts.TextSection.{TextSection}
use Rattle.dw_base.specs.declared.texts.TextSection.TheVariants.{InStr, InLineStr}

-- a section that was found by its name has it
filled-name : (name : List ℕ) (s : ViewSection) → is_filled name s ≡ true → s.name ≡ name
filled-name name s e = same_text-true s.name name (and_parts s.has_bytes (same_text s.name name) e).1

pub record FoundAt (b name : List ℕ) (k i : ℕ) : Type 0 where
  pub from : k ≤ i
  pub within : i < section_count b
  pub named : section_name b i ≡ name

found-further : (b name : List ℕ) (k i : ℕ) → FoundAt b name (suc k) i → FoundAt b name k i
found-further b name k i f = let from = f.from in record { from = omega arith; within = f.within; named = f.named }

pub found-named : (b : List ℕ) (bodies : ℕ → List ℕ) (name : List ℕ) (k i : ℕ) (ss ts : List ViewSection) → AllAt (SectionBack b bodies) k ss ts
    → first_filled name k ss ≡ Some i → FoundAt b name k i
found-named b bodies name k i [] ts all e = absurd cc
found-named b bodies name k i (s ∷ ss) [] all e = absurd all
found-named b bodies name k i (s ∷ ss) (t ∷ ts) all e = by_filled (is_filled name s) refl (λ f. found-named b bodies name (suc k) i ss ts all.1 f) e
  where
    by_filled : (x : Bool) → is_filled name s ≡ x → (first_filled name (suc k) ss ≡ Some i → FoundAt b name (suc k) i)
        → (if x then Some k else first_filled name (suc k) ss) ≡ Some i → FoundAt b name k i
    by_filled true is rest e =
        let here : k ≡ i = cc in
        subst (λ (j : ℕ). FoundAt b name k j) here
        (record { from = omega arith; within = all.0.within; named = sym all.0.named ∙ filled-name name s is })
    by_filled false is rest e = found-further b name k i (rest e)

-- the same section is found in the output
filled-back : (b : List ℕ) (bodies : ℕ → List ℕ) (name : List ℕ) (i : ℕ) (s t : ViewSection) → SectionBack b bodies i s t → is_filled name t ≡ is_filled name s
filled-back b bodies name i s t h = rw (h.name, h.has_bytes) refl

pub found-back : (b : List ℕ) (bodies : ℕ → List ℕ) (name : List ℕ) (k : ℕ) (ss ts : List ViewSection) → AllAt (SectionBack b bodies) k ss ts
    → first_filled name k ts ≡ first_filled name k ss
found-back b bodies name k [] [] all = refl
found-back b bodies name k [] (t ∷ ts) all = absurd all
found-back b bodies name k (s ∷ ss) [] all = absurd all
found-back b bodies name k (s ∷ ss) (t ∷ ts) all =
    ap (λ (x : Bool). if x then Some k else first_filled name (suc k) ts) (filled-back b bodies name k s t all.0)
    ∙ ap (λ (o : Option ℕ). if is_filled name s then Some k else o) (found-back b bodies name (suc k) ss ts all.1)

pub drop-at : (P : ℕ → ViewSection → ViewSection → Type 0) (ss ts : List ViewSection) → AllAt P 0 ss ts → AllAt P 1 (drop 1 ss) (drop 1 ts)
drop-at P [] [] all = tt
drop-at P [] (t ∷ ts) all = absurd all
drop-at P (s ∷ ss) [] all = absurd all
drop-at P (s ∷ ss) (t ∷ ts) all = all.1

-- where a table lies: nowhere, or in a section of its name
pub data TablePlace (b : List ℕ) (name : List ℕ) (z : Located) : Type 0 where
  nowhere : z.number ≡ 0 → z.bytes ≡ [] → TablePlace b name z
  lies_at : 0 < z.number → z.number < section_count b → section_name b z.number ≡ name → z.bytes ≡ contents_of b z.number → TablePlace b name z

-- the sections of a view by their numbers
section-self : (b : List ℕ) (i : ℕ) → i < section_count b → SectionBack b (contents_of b) i (view_section b i) (view_section b i)
unfolding view_section
section-self b i lt = record {
  within = lt;
  named = refl;
  holder = refl;
  name = refl;
  alloc = refl;
  is_name_table = refl;
  has_bytes = refl;
  relocates_read = refl;
  bare = λ loaded. relocations_of-loaded (contents_of b) b i loaded;
  old = refl;
  new = refl;
}

pub sections-self : (b : List ℕ) → AllAt (SectionBack b (contents_of b)) 0 (view_of b).sections (view_of b).sections
unfolding view_of
sections-self b = tabulate-at (SectionBack b (contents_of b)) (view_section b) (view_section b) (section_count b) (λ i lt. section-self b i lt)

pub table-place : (b : List ℕ) (s : DebugSection) → TablePlace b (name_of s) (located (view_of b) s)
unfolding located section_named section_after
table-place b s = by_found (section_named (view_of b) (name_of s)) refl
  where
    by_found : (o : Option ℕ) → section_named (view_of b) (name_of s) ≡ o → TablePlace b (name_of s) (located_at (view_of b) o)
    by_found None e = nowhere refl refl
    by_found (Some i) e =
        let f : FoundAt b (name_of s) 1 i =
        found-named b (contents_of b) (name_of s) 1 i (drop 1 (view_of b).sections) (drop 1 (view_of b).sections)
        (drop-at (SectionBack b (contents_of b)) (view_of b).sections (view_of b).sections (sections-self b)) e in
        let from = f.from in
        lies_at (omega arith) f.within f.named (section_bytes-view_of b i f.within)

-- where there is no table there are no mentions, and no new texts
role-none : (r : Role) (u : TextSection) (around : Around) (p : List Cell) → (table_of around u).bytes ≡ [] → NamesTextBy r around p → mentions_by r u around p ≡ []
role-none r u around p none names = by_role r u none names
  where
    clash : (u : TextSection) → (table_of around u).bytes ≡ [] → IsTrue (ends_in (table_of around u).bytes (offset_in around u p)) → ⊥
    clash u empty text =
        let ends : ends_in [] (offset_in around u p) ≡ true = ap (λ (t : List ℕ). ends_in t (offset_in around u p)) (sym empty) ∙ text in
        omega (arith, ends_in-inside [] (offset_in around u p) ends)

    by_role : (r : Role) (u : TextSection) → (table_of around u).bytes ≡ [] → NamesTextBy r around p → mentions_by r u around p ≡ []
    by_role fixed u empty text = refl
    by_role inline_path u empty text = refl
    by_role line_start u empty text = refl
    by_role (offset InStr path) InStr empty text = absurd (clash InStr empty text)
    by_role (offset InStr path) InLineStr empty text = refl
    by_role (offset InLineStr path) InStr empty text = refl
    by_role (offset InLineStr path) InLineStr empty text = absurd (clash InLineStr empty text)

mentions-none : (table : TextSection) (around : Around) (xs : List (Piece UnitState)) → (table_of around table).bytes ≡ [] → EachPiece (NamesText around) xs
    → mentions_of table around xs ≡ []
unfolding role_of
mentions-none table around [] none names = refl
mentions-none table around (x ∷ xs) none names =
    ap (λ (ms : List Mention). mentions_by (role_of x) table around x.cells ++ ms) (mentions-none table around xs none names.1)
    ∙ append-nil (mentions_by (role_of x) table around x.cells) ∙ role-none (role_of x) table around x.cells none names.0

all-none : (table : TextSection) (around : Around) (rs : Readings) → (table_of around table).bytes ≡ [] → EachReading (NamesText around) rs
    → all_mentions table around rs ≡ []
all-none table around [] none names = refl
all-none table around (r ∷ rs) none names =
    ap (λ (ms : List Mention). ms ++ all_mentions table around rs) (mentions-none table around r.pieces none names.0) ∙ all-none table around rs none names.1

with-none : {S : Type 0} (role : S → Role) (table : TextSection) (around : Around) (xs : List (Piece S)) → (table_of around table).bytes ≡ [] → NameTexts role around xs
    → mentions_with role table around xs ≡ []
with-none role table around [] none names = refl
with-none role table around (x ∷ xs) none names =
    ap (λ (ms : List Mention). mentions_by (role x.state) table around x.cells ++ ms) (with-none role table around xs none names.1)
    ∙ append-nil (mentions_by (role x.state) table around x.cells) ∙ role-none (role x.state) table around x.cells none names.0

macros-none : (table : TextSection) (around : Around) (rs : List MacroReading) → (table_of around table).bytes ≡ [] → EachMacro (λ x. NamesTextBy (macro_role x.state) around x.cells) rs
    → macro_mentions table around rs ≡ []
macros-none table around [] none names = refl
macros-none table around (r ∷ rs) none names =
    ap (λ (ms : List Mention). ms ++ macro_mentions table around rs) (with-none macro_role table around r.pieces none names.0) ∙ macros-none table around rs none names.1

pub table-none : (m : PathMap) (table : TextSection) (around : Around) (r : DataReadings) → (table_of around table).bytes ≡ []
    → EachReading (NamesText around) r.units → NameTexts (slot_role (path_slots around)) around r.offsets → NameTexts name_role around r.names
    → EachMacro (λ x. NamesTextBy (macro_role x.state) around x.cells) r.macros → all_texts_mentions (source_around around) table r.lines ≡ []
    → laid_texts (table_change m table around r) ≡ []
unfolding table_change
table-none m table around r none texts slots names macros lines_none =
    let slots_none : mentions_with (slot_role (path_slots around)) table around r.offsets ≡ [] = with-none (slot_role (path_slots around)) table around r.offsets none slots in
    let names_none : mentions_with name_role table around r.names ≡ [] = with-none name_role table around r.names none names in
    let all : file_mentions table around r ≡ [] =
    ap (λ (ms : List Mention). ms ++ (mentions_with (slot_role (path_slots around)) table around r.offsets ++ (all_texts_mentions (source_around around) table r.lines ++ (macro_mentions table around r.macros ++ mentions_with name_role table around r.names))))
    (all-none table around r.units none texts)
    ∙ ap (λ (ms : List Mention). ms ++ (all_texts_mentions (source_around around) table r.lines ++ (macro_mentions table around r.macros ++ mentions_with name_role table around r.names))) slots_none
    ∙ ap (λ (ms : List Mention). ms ++ (macro_mentions table around r.macros ++ mentions_with name_role table around r.names)) lines_none
    ∙ ap (λ (ms : List Mention). ms ++ mentions_with name_role table around r.names) (macros-none table around r.macros none macros) ∙ names_none in
    ap (λ (ms : List Mention). laid_texts (new_texts m ms)) all
