-- A file with other bytes in the place of its build-id has the relocations that it had: the note holds none, no symbols and no section numbers of
-- these.
use Rattle.std.proofs.Common.{Bool, true, false, ◌≡◌, ◌≢◌, ◌⊎◌, inl, inr, ℕ, zero, suc, ◌<◌, ◌==◌, ◌&&◌, ◌||◌, nat_lt, List, [], if◌then◌else◌, length, Option, Some, None, is_some, sym, ap, ◌∙◌, refl, subst, arith}
use Rattle.std.proofs.lemmas.Bool.{cases_eq}
use Rattle.std.proofs.lemmas.Bool.Decides.{nat_tests}
use Rattle.dw_base.specs.DebugSections.{debug_section}
use Rattle.dw_base.specs.Elf.{class_of, contents_of, e_machine, e_type, nth_section, order_of, section_count, section_name}
use Rattle.dw_base.specs.Notes.{Descriptor, first_below, is_id_section, or_this}
use Rattle.dw_base.specs.RelocationSectionFails.{BeginTogether, IsAmong, RelocationSectionsRead, SectionReads, TableReads, holds_texts, is_own_kind, is_read_section, lies_in_moving, relocates_read}
use Rattle.dw_base.specs.SectionNames.{note_build_id}
use Rattle.dw_base.specs.SectionRelocations.{PlacedRelocation, RelocationSource, bytes_if, extended_section, extends, is_relocation_kind, is_symbol_table, relocates, relocation_section, relocation_source, relocations_by, relocations_in, relocations_of}
use Rattle.dw_base.specs.Texts.{same_text}
use Rattle.dw_base.specs.declared.elf_numbers.TheConstants.{ET_REL, SHT_NOTE, SHT_REL, SHT_RELA, SHT_SYMTAB, SHT_SYMTAB_SHNDX}
use Rattle.dw_base.specs.declared.records.Section.{Section}
use Rattle.dw_base.specs.declared.shared.Class.{Class}
use Rattle.dw_base.specs.declared.shared.Order.{Order}
use Rattle.dw_base.proofs.WrittenHeaders.{header_places}
use Rattle.dw_meaning.proofs.BuildIdLaws.{first_below-found}
use Rattle.build_ident.specs.IdFails.{id_section}
use Rattle.dbg_job.proofs.OtherIdLaws.{IdApart, OtherId, class-new, contents-new, count-new, half-new, name-new, order-new, own-differs, section-new, type-new}

-- ### What isn't the note

and-left : (p q : Bool) → (p && q) ≡ true → p ≡ true
and-left true q h = refl
and-left false q h = cc

and-right : (p q : Bool) → (p && q) ≡ true → q ≡ true
and-right true q h = h
and-right false q h = cc

eq-is : (m n : ℕ) → (m == n) ≡ true → m ≡ n
eq-is m n h = grind (arith, nat_tests)

lt-is : (m n : ℕ) → nat_lt m n ≡ true → m < n
lt-is m n h = grind (arith, nat_tests)

-- the section of the build-id is a note
id-kind : (b : List ℕ) (i : ℕ) (d : Descriptor) → IdApart b i d → (nth_section b i).kind ≡ SHT_NOTE
unfolding id_section is_id_section
id-kind b i d w =
    let found = first_below-found (is_id_section b) (section_count b) i w.is.section in
    eq-is (nth_section b i).kind SHT_NOTE (and-right (same_text (section_name b i) note_build_id) ((nth_section b i).kind == SHT_NOTE) found.1)

-- so a section of another type is another, and has the contents that it had
contents-kept : (b new : List ℕ) (i k : ℕ) (d : Descriptor) → IdApart b i d → OtherId b new i d → k < section_count b → (nth_section b k).kind ≢ SHT_NOTE
    → contents_of new k ≡ contents_of b k
contents-kept b new i k d w s lt other = contents-new b new i k d w s lt (λ e. other (ap (λ (j : ℕ). (nth_section b j).kind) e ∙ id-kind b i d w))

-- ### The sections that say something of relocations

pub first-same : (f g : ℕ → Bool) (n : ℕ) → ((i : ℕ) → i < n → f i ≡ g i) → first_below f n ≡ first_below g n
first-same f g zero same = refl
first-same f g (suc n) same =
    ap (λ (o : Option ℕ). or_this o n (f n)) (first-same f g n (λ i lt. same i (omega arith)))
    ∙ ap (or_this (first_below g n) n) (same n (omega arith))

machine-new : (b new : List ℕ) (i : ℕ) (d : Descriptor) → IdApart b i d → OtherId b new i d → e_machine new ≡ e_machine b
unfolding e_machine
machine-new b new i d w s = half-new b new i d 18 w s (omega (arith, (header_places (class_of b)).least))

relocates-new : (b new : List ℕ) (i t k : ℕ) (d : Descriptor) → IdApart b i d → OtherId b new i d → relocates new t k ≡ relocates b t k
unfolding relocates
relocates-new b new i t k d w s = rw (type-new b new i d w s, section-new b new i d k w s) refl

pub relocation_section-new : (b new : List ℕ) (i t : ℕ) (d : Descriptor) → IdApart b i d → OtherId b new i d → relocation_section new t ≡ relocation_section b t
unfolding relocation_section
relocation_section-new b new i t d w s =
    ap (first_below (relocates new t)) (count-new b new i d w s)
    ∙ first-same (relocates new t) (relocates b t) (section_count b) (λ k lt. relocates-new b new i t k d w s)

extends-new : (b new : List ℕ) (i t k : ℕ) (d : Descriptor) → IdApart b i d → OtherId b new i d → extends new t k ≡ extends b t k
unfolding extends
extends-new b new i t k d w s = rw (section-new b new i d k w s) refl

extended_section-new : (b new : List ℕ) (i t : ℕ) (d : Descriptor) → IdApart b i d → OtherId b new i d → extended_section new t ≡ extended_section b t
unfolding extended_section
extended_section-new b new i t d w s =
    ap (first_below (extends new t)) (count-new b new i d w s)
    ∙ first-same (extends new t) (extends b t) (section_count b) (λ k lt. extends-new b new i t k d w s)

is_symbol_table-new : (b new : List ℕ) (i k : ℕ) (d : Descriptor) → IdApart b i d → OtherId b new i d → is_symbol_table new k ≡ is_symbol_table b k
unfolding is_symbol_table
is_symbol_table-new b new i k d w s = rw (count-new b new i d w s, section-new b new i d k w s) refl

-- ### What relocations are read from

symtab-kept : (b new : List ℕ) (i k : ℕ) (d : Descriptor) → IdApart b i d → OtherId b new i d → is_symbol_table b k ≡ true → contents_of new k ≡ contents_of b k
unfolding is_symbol_table
symtab-kept b new i k d w s is =
    contents-kept b new i k d w s (lt-is k (section_count b) (and-left (nat_lt k (section_count b)) ((nth_section b k).kind == SHT_SYMTAB) is))
    (λ note.
    let symbols : (nth_section b k).kind ≡ SHT_SYMTAB = eq-is (nth_section b k).kind SHT_SYMTAB (and-right (nat_lt k (section_count b)) ((nth_section b k).kind == SHT_SYMTAB) is) in
    omega (arith, note, symbols))

extended-kept : (b new : List ℕ) (i t : ℕ) (d : Descriptor) → IdApart b i d → OtherId b new i d
    → bytes_if (contents_of new) (extended_section b t) ≡ bytes_if (contents_of b) (extended_section b t)
unfolding extended_section extends
extended-kept b new i t d w s = by_found (extended_section b t) refl
  where
    by_found : (o : Option ℕ) → first_below (extends b t) (section_count b) ≡ o → bytes_if (contents_of new) o ≡ bytes_if (contents_of b) o
    by_found None e = refl
    by_found (Some k) e =
        let found = first_below-found (extends b t) (section_count b) k e in
        contents-kept b new i k d w s found.0
        (λ note.
        let numbers : (nth_section b k).kind ≡ SHT_SYMTAB_SHNDX =
        eq-is (nth_section b k).kind SHT_SYMTAB_SHNDX (and-left ((nth_section b k).kind == SHT_SYMTAB_SHNDX) ((nth_section b k).link == t) found.1) in
        omega (arith, note, numbers))

holder-kept : (b new : List ℕ) (i t k : ℕ) (d : Descriptor) → IdApart b i d → OtherId b new i d → k < section_count b → relocates b t k ≡ true
    → contents_of new k ≡ contents_of b k
unfolding relocates
holder-kept b new i t k d w s lt is =
    contents-kept b new i k d w s lt
    (λ note. not_note (nth_section b k) note
    (and-right (e_type b == ET_REL) (is_relocation_kind (nth_section b k)) (and-left (e_type b == ET_REL && is_relocation_kind (nth_section b k)) ((nth_section b k).info == t) is)))
  where
    not_note : (x : Section) → x.kind ≡ SHT_NOTE → is_relocation_kind x ≡ true → ⊥
    not_note x note holds = let no : (SHT_NOTE == SHT_REL || SHT_NOTE == SHT_RELA) ≡ true = ap (λ (n : ℕ). n == SHT_REL || n == SHT_RELA) (sym note) ∙ holds in absurd cc

abbrev source_with : Class → Order → ℕ → Bool → List ℕ → List ℕ → List ℕ → RelocationSource
source_with class order machine rela table symbols extended =
    record { class = class; order = order; machine = machine; rela = rela; table = table; symbols = symbols; extended = extended }

pub source-new : (b new : List ℕ) (i t k : ℕ) (d : Descriptor) → IdApart b i d → OtherId b new i d → k < section_count b → relocates b t k ≡ true
    → relocation_source (contents_of new) new k ≡ relocation_source (contents_of b) b k
unfolding relocation_source
source-new b new i t k d w s lt is =
    let link = (nth_section b k).link in
    rw (class-new b new i d w s, order-new b new i d w s, machine-new b new i d w s, section-new b new i d k w s, is_symbol_table-new b new i link d w s, extended_section-new b new i link d w s, holder-kept b new i t k d w s lt is)
    (tables (is_symbol_table b link) refl)
  where
    tables : (x : Bool) → is_symbol_table b (nth_section b k).link ≡ x
        → source_with (class_of b) (order_of b) (e_machine b) ((nth_section b k).kind == SHT_RELA) (contents_of b k) (if is_symbol_table b (nth_section b k).link then contents_of new (nth_section b k).link else []) (if is_symbol_table b (nth_section b k).link then bytes_if (contents_of new) (extended_section b (nth_section b k).link) else [])
        ≡ source_with (class_of b) (order_of b) (e_machine b) ((nth_section b k).kind == SHT_RELA) (contents_of b k) (if is_symbol_table b (nth_section b k).link then contents_of b (nth_section b k).link else []) (if is_symbol_table b (nth_section b k).link then bytes_if (contents_of b) (extended_section b (nth_section b k).link) else [])
    tables true e = rw (e, symtab-kept b new i (nth_section b k).link d w s e, extended-kept b new i (nth_section b k).link d w s) refl
    tables false e = rw e refl

holder : (b : List ℕ) (t k : ℕ) → relocation_section b t ≡ Some k → (k < section_count b) × (relocates b t k ≡ true)
unfolding relocation_section
holder b t k e = first_below-found (relocates b t) (section_count b) k e

-- so they are the same
pub relocations-new : (b new : List ℕ) (i t : ℕ) (d : Descriptor) → IdApart b i d → OtherId b new i d
    → relocations_of (contents_of new) new t ≡ relocations_of (contents_of b) b t
unfolding relocations_of
relocations-new b new i t d w s =
    ap (relocations_by (contents_of new) new) (relocation_section-new b new i t d w s) ∙ by_found (relocation_section b t) refl
  where
    by_found : (o : Option ℕ) → relocation_section b t ≡ o → relocations_by (contents_of new) new o ≡ relocations_by (contents_of b) b o
    by_found None e = refl
    by_found (Some k) e = let at = holder b t k e in ap relocations_in (source-new b new i t k d w s at.0 at.1)

is_read-new : (b new : List ℕ) (i k : ℕ) (d : Descriptor) → IdApart b i d → OtherId b new i d → is_read_section new k ≡ is_read_section b k
is_read-new b new i k d w s = rw (count-new b new i d w s, name-new b new i d k w s) refl

pub relocates_read-new : (b new : List ℕ) (i k : ℕ) (d : Descriptor) → IdApart b i d → OtherId b new i d → relocates_read new k ≡ relocates_read b k
unfolding relocates_read
relocates_read-new b new i k d w s =
    let info = (nth_section b k).info in
    rw (section-new b new i d k w s, relocates-new b new i info k d w s, count-new b new i d w s, name-new b new i d info w s) refl

-- ### They can be read as they could

pub contents-long : (b new : List ℕ) (i k : ℕ) (d : Descriptor) → IdApart b i d → OtherId b new i d → k < section_count b
    → length (contents_of new k) ≡ length (contents_of b k)
contents-long b new i k d w s lt = by_number (cases_eq k i)
  where
    by_number : (k ≡ i) ⊎ (k ≡ i → ⊥) → length (contents_of new k) ≡ length (contents_of b k)
    by_number (inl same) = subst (λ (j : ℕ). length (contents_of new j) ≡ length (contents_of b j)) (sym same) (own-differs b new i d w s).long
    by_number (inr other) = ap (λ (bs : List ℕ). length bs) (contents-new b new i k d w s lt other)

lies-new : (b new : List ℕ) (i : ℕ) (d : Descriptor) (o : Option (ℕ × ℕ)) → IdApart b i d → OtherId b new i d → lies_in_moving new o ≡ lies_in_moving b o
lies-new b new i d None w s = refl
lies-new b new i d (Some t) w s = rw (count-new b new i d w s, name-new b new i d t.0 w s) refl

table-new : (b new : List ℕ) (i t k : ℕ) (d : Descriptor) → IdApart b i d → OtherId b new i d → t < section_count b → k < section_count b → relocates b t k ≡ true
    → TableReads (contents_of b) b t k → TableReads (contents_of new) new t k
table-new b new i t k d w s there lt is h =
    let source = source-new b new i t k d w s lt is in
    let list : relocations_in (relocation_source (contents_of new) new k) ≡ relocations_in (relocation_source (contents_of b) b k) = ap relocations_in source in
    let long = contents-long b new i t d w s there in
    let name : debug_section (section_name new t) ≡ debug_section (section_name b t) = ap debug_section (name-new b new i d t w s) in
    record {
      symbols = ap (λ (x : Section). is_symbol_table new x.link) (section-new b new i d k w s) ∙ is_symbol_table-new b new i (nth_section b k).link d w s ∙ h.symbols;
      within = λ r among. (let old = h.within r (subst (λ (rs : List PlacedRelocation). IsAmong rs r) list among) in omega (arith, old, long));
      apart = λ first second both. h.apart first second (subst (λ (rs : List PlacedRelocation). BeginTogether rs first second) list both);
      no_texts = λ r among. ap holds_texts name ∙ h.no_texts r (subst (λ (rs : List PlacedRelocation). IsAmong rs r) list among);
      abbrevs = λ r among called.
          lies-new b new i d r.relocation.target w s ∙ h.abbrevs r (subst (λ (rs : List PlacedRelocation). IsAmong rs r) list among) (sym name ∙ called);
    }

section-reads-new : (b new : List ℕ) (i t : ℕ) (d : Descriptor) → IdApart b i d → OtherId b new i d → t < section_count b → SectionReads (contents_of b) b t
    → SectionReads (contents_of new) new t
section-reads-new b new i t d w s there h = record {
  plain_kind = λ rel. ap is_own_kind (section-new b new i d t w s) ∙ h.plain_kind (sym (type-new b new i d w s) ∙ rel);
  single = λ j k below lt first other.
      h.single j k below (subst (λ (n : ℕ). k < n) (count-new b new i d w s) lt) (sym (relocates-new b new i t j d w s) ∙ first) (sym (relocates-new b new i t k d w s) ∙ other);
  tables = λ k first.
      let was : relocation_section b t ≡ Some k = sym (relocation_section-new b new i t d w s) ∙ first in
      let at = holder b t k was in
      table-new b new i t k d w s there at.0 at.1 (h.tables k was);
}

pub sections-read-new : (b new : List ℕ) (i : ℕ) (d : Descriptor) → IdApart b i d → OtherId b new i d → RelocationSectionsRead (contents_of b) b
    → RelocationSectionsRead (contents_of new) new
sections-read-new b new i d w s h = record {
  all = λ t read.
      let was : is_read_section b t ≡ true = sym (is_read-new b new i t d w s) ∙ read in
      section-reads-new b new i t d w s (lt-is t (section_count b) (and-left (nat_lt t (section_count b)) (is_some (debug_section (section_name b t))) was)) (h.all t was);
}
