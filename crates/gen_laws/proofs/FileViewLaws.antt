-- The names of the sections of a generated file can be read, and its view.
use Rattle.std.proofs.Common.{◌≡◌, ℕ, zero, suc, ◌<◌, ◌==◌, ◌||◌, Bool, true, false, not, List, [], ◌∷◌, get_or, refl, sym, ap, ◌∙◌, arith, subst}
use Rattle.std.specs.Prelude.{codes, bit_and, IsTrue}
use Rattle.std.proofs.lemmas.Bool.{true≢false}
use Rattle.dw_base.specs.DebugSectionFails.{DebugSectionsRead, IsSecond, NameReads, is_active, is_debug_name, is_split_name, is_supplementary_name, is_zdebug_name}
use Rattle.dw_base.specs.DebugSections.{is_listed}
use Rattle.dw_base.specs.Elf.{e_type, nth_section, name_index, section_name, contents_of, order_of}
use Rattle.dw_base.specs.FileViews.{ViewSection, view_of, view_section}
use Rattle.dw_base.specs.Layout.{is_loaded_kind}
use Rattle.dw_base.specs.Notes.{build_id_of}
use Rattle.dw_base.specs.Texts.{same_text}
use Rattle.dw_base.specs.declared.records.Section.{Section}
use Rattle.dw_base.specs.declared.shared.Order.TheVariants.{Little}
use Rattle.dw_base.specs.declared.elf_numbers.TheConstants.{ET_REL, SHF_COMPRESSED}
use Rattle.dw_base.proofs.SectionRelocationLaws.{relocations_of-loaded}
use Rattle.dw_base.proofs.TextLaws.{same_text-from}
use Rattle.dw_meaning.proofs.FileBackLaws.{other-holder}
use Rattle.dw_meaning.proofs.PlainTests.{all_below, below-true}
use Rattle.dbg_gen.specs.GeneratedFiles.{name_bytes}
use Rattle.dbg_gen.specs.GeneratedUnits.{abbreviations}
use Rattle.gen_laws.proofs.FileReadLaws.{HasSection, HasSections}

-- the names of the sections, by number
abbrev name_of_number : ℕ → List ℕ
name_of_number i = get_or ([] ∷ codes ".debug_info" ∷ codes ".debug_abbrev" ∷ codes ".debug_str" ∷ codes ".debug_line" ∷ codes ".shstrtab" ∷ []) i []

named-by : (units texts lines b : List ℕ) (i : ℕ) → HasSections units texts lines b → i < 6 → section_name b i ≡ name_of_number i
named-by units texts lines b zero g lt = g.null_name
named-by units texts lines b (suc zero) g lt = g.info.name_is
named-by units texts lines b (suc (suc zero)) g lt = g.abbrev_.name_is
named-by units texts lines b (suc (suc (suc zero))) g lt = g.str.name_is
named-by units texts lines b (suc (suc (suc (suc zero)))) g lt = g.line.name_is
named-by units texts lines b (suc (suc (suc (suc (suc zero))))) g lt = g.names.name_is
named-by units texts lines b (suc (suc (suc (suc (suc (suc i)))))) g lt = absurd (omega arith)

-- none stands twice
distinct : all_below (λ j. all_below (λ i. not (same_text (name_of_number i) (name_of_number j))) j) 6 ≡ true
distinct = refl

not-true_false : (t : Bool) → not t ≡ true → t ≡ false
not-true_false true e = absurd (true≢false (sym e))
not-true_false false e = refl

once : (units texts lines b : List ℕ) (i j : ℕ) → HasSections units texts lines b → j < 6 → IsSecond b i j → ⊥
once units texts lines b i j g lt second =
    let row = below-true (λ (n : ℕ). all_below (λ k. not (same_text (name_of_number k) (name_of_number n))) n) 6 j distinct lt in
    let cell = below-true (λ (k : ℕ). not (same_text (name_of_number k) (name_of_number j))) j i row second.before in
    let before = second.before in
    let same : name_of_number i ≡ name_of_number j = sym (named-by units texts lines b i g (omega arith)) ∙ second.same ∙ named-by units texts lines b j g lt in
    true≢false (sym (same_text-from (name_of_number i) (name_of_number j) same) ∙ not-true_false (same_text (name_of_number i) (name_of_number j)) cell)

-- a name and flags that are handled
reads-name : (name : List ℕ) (s : Section) → s.flags ≡ 0 → is_zdebug_name name ≡ false → is_supplementary_name name ≡ false → is_split_name name ≡ false
    → (IsTrue (is_debug_name name) → is_listed name ≡ true) → NameReads name s
reads-name name s flags z supplementary split listed = record {
  plain = λ debug. ap (λ (f : ℕ). bit_and f SHF_COMPRESSED) flags;
  not_zdebug = z;
  not_supplementary = supplementary;
  not_split = split;
  listed = listed;
}

names-read : (units texts lines b : List ℕ) (i : ℕ) → HasSections units texts lines b → i < 6 → IsTrue (is_active (nth_section b i)) → NameReads (section_name b i) (nth_section b i)
unfolding is_listed
names-read units texts lines b zero g lt active = absurd (true≢false (sym active ∙ ap (λ (k : ℕ). not (k == 0)) g.null))
names-read units texts lines b (suc zero) g lt active =
    subst (λ (n : List ℕ). NameReads n (nth_section b 1)) (sym g.info.name_is) (reads-name (codes ".debug_info") (nth_section b 1) g.info.flags_are refl refl refl (λ d. refl))
names-read units texts lines b (suc (suc zero)) g lt active =
    subst (λ (n : List ℕ). NameReads n (nth_section b 2)) (sym g.abbrev_.name_is) (reads-name (codes ".debug_abbrev") (nth_section b 2) g.abbrev_.flags_are refl refl refl (λ d. refl))
names-read units texts lines b (suc (suc (suc zero))) g lt active =
    subst (λ (n : List ℕ). NameReads n (nth_section b 3)) (sym g.str.name_is) (reads-name (codes ".debug_str") (nth_section b 3) g.str.flags_are refl refl refl (λ d. refl))
names-read units texts lines b (suc (suc (suc (suc zero)))) g lt active =
    subst (λ (n : List ℕ). NameReads n (nth_section b 4)) (sym g.line.name_is) (reads-name (codes ".debug_line") (nth_section b 4) g.line.flags_are refl refl refl (λ d. refl))
names-read units texts lines b (suc (suc (suc (suc (suc zero))))) g lt active =
    subst (λ (n : List ℕ). NameReads n (nth_section b 5)) (sym g.names.name_is) (reads-name (codes ".shstrtab") (nth_section b 5) g.names.flags_are refl refl refl (λ d. absurd (true≢false (sym d))))
names-read units texts lines b (suc (suc (suc (suc (suc (suc i)))))) g lt active = absurd (omega arith)

or-true : (t : Bool) → (t || true) ≡ true
or-true true = refl
or-true false = refl

pub file-names : (units texts lines b : List ℕ) → HasSections units texts lines b → is_loaded_kind b ≡ true → DebugSectionsRead b
unfolding is_listed
file-names units texts lines b g loaded = record {
  file_type = rw loaded (or-true (e_type b == ET_REL));
  named = λ i lt active. names-read units texts lines b i g (rw g.count at lt) active;
  once = λ i j lt second. once units texts lines b i j g (rw g.count at lt) second;
  apart = λ some. rw (g.named, g.names.name_is) refl;
}

-- a section of the view that isn't loaded and in which no relocation begins
abbrev pub plain_view : List ℕ → Bool → Bool → List ℕ → ViewSection
plain_view name is_names full body = record {
  name = name;
  alloc = false;
  is_name_table = is_names;
  has_bytes = full;
  contents = body;
  relocations = [];
  relocates_read = false;
}

view-by : (b name body : List ℕ) (i kind : ℕ) → HasSection b i name kind body → name_index b ≡ 5 → is_loaded_kind b ≡ true → (e_type b == ET_REL) ≡ false
    → view_section b i ≡ plain_view name (i == 5) (not (kind == 0 || kind == 8)) body
unfolding view_section
view-by b name body i kind s named loaded other =
    rw (s.name_is, s.flags_are, named, s.kind_is, s.contents_are, relocations_of-loaded (contents_of b) b i loaded, other-holder b i other) refl

-- section 0 of the view
abbrev pub null_view : ViewSection
null_view = plain_view [] false false []

view-null : (units texts lines b : List ℕ) → HasSections units texts lines b → is_loaded_kind b ≡ true → (e_type b == ET_REL) ≡ false → view_section b 0 ≡ null_view
unfolding view_section
view-null units texts lines b g loaded other =
    rw (g.null_name, g.null_flags, g.named, g.null, g.null_contents, relocations_of-loaded (contents_of b) b 0 loaded, other-holder b 0 other) refl

-- the sections of the view
abbrev pub generated_sections : List ℕ → List ℕ → List ℕ → List ViewSection
generated_sections units texts lines =
    null_view
    ∷ plain_view (codes ".debug_info") false true units
    ∷ plain_view (codes ".debug_abbrev") false true abbreviations
    ∷ plain_view (codes ".debug_str") false true texts
    ∷ plain_view (codes ".debug_line") false true lines
    ∷ plain_view (codes ".shstrtab") true true name_bytes
    ∷ []

pub file-view : (units texts lines b : List ℕ) → HasSections units texts lines b → order_of b ≡ Little → is_loaded_kind b ≡ true → (e_type b == ET_REL) ≡ false
    → view_of b ≡ record { order = Little; sections = generated_sections units texts lines; id = build_id_of b }
unfolding view_of
file-view units texts lines b g order loaded other =
    rw (
      order,
      g.count,
      view-null units texts lines b g loaded other,
      view-by b _ _ 1 1 g.info g.named loaded other,
      view-by b _ _ 2 1 g.abbrev_ g.named loaded other,
      view-by b _ _ 3 1 g.str g.named loaded other,
      view-by b _ _ 4 1 g.line g.named loaded other,
      view-by b _ _ 5 3 g.names g.named loaded other,
    ) refl
