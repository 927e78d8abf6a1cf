-- Laws of the search for the section of the build-id.
use Rattle.std.proofs.Common.{◌≡◌, ◌≢◌, ℕ, zero, suc, ◌+◌, ◌-◌, ◌<◌, ◌==◌, ◌&&◌, Bool, true, false, if◌then◌else◌, List, Option, Some, None, refl, sym, ap, ◌∙◌, arith, add-one}
use Rattle.std.proofs.lemmas.Bool.{ne_eqb}
use Rattle.dw_base.specs.Elf.{nth_section, section_count, section_name, name_index, name_table, contents_of}
use Rattle.dw_base.specs.ElfFails.{DebugReads}
use Rattle.dw_base.specs.Notes.{first_below, or_this, is_id_section}
use Rattle.dw_base.specs.SectionNames.{note_build_id}
use Rattle.dw_base.specs.Texts.{same_text, text_in}
use Rattle.dw_base.specs.declared.records.Section.{Section}
use Rattle.dw_base.specs.declared.elf_numbers.TheConstants.{SHT_NOTE}
use Rattle.elf_file.proofs.ElfFileLaws.{names-there, text_in-nil}
use Rattle.build_ident.specs.IdFails.{id_section}
use Rattle.build_ident.specs.Searches.{NoneBelow}

-- the search, from section to section
pub none-start : (b : List ℕ) → NoneBelow b 0
none-start b = record { none = refl }

first-suc : (f : ℕ → Bool) (i : ℕ) (t : Bool) → f i ≡ t → first_below f i ≡ None → first_below f (suc i) ≡ (if t then Some i else None)
first-suc f i t e none = rw (none, e) refl

pub none-more : (b : List ℕ) (i : ℕ) (t : Bool) → t ≡ is_id_section b i → t ≡ false → NoneBelow b i → NoneBelow b (i + 1)
none-more b i t t_is other before = record {
  none = ap (first_below (is_id_section b)) (add-one i) ∙ first-suc (is_id_section b) i false (sym t_is ∙ other) before.none;
}

first-later : (f : ℕ → Bool) (k m i : ℕ) → first_below f m ≡ Some i → first_below f (k + m) ≡ Some i
first-later f zero m i e = let same : 0 + m ≡ m = omega arith in ap (first_below f) same ∙ e
first-later f (suc k) m i e =
    let same : suc k + m ≡ suc (k + m) = omega arith in
    ap (first_below f) same ∙ ap (λ (o : Option ℕ). or_this o (k + m) (f (k + m))) (first-later f k m i e)

pub first-found : (b : List ℕ) (i : ℕ) (t : Bool) → t ≡ is_id_section b i → t ≡ true → i < section_count b → NoneBelow b i → id_section b ≡ Some i
unfolding id_section
first-found b i t t_is passes within before =
    let n : ℕ = section_count b in
    let size : n ≡ (n - suc i) + suc i = omega (arith, within) in
    let here : first_below (is_id_section b) (suc i) ≡ Some i = first-suc (is_id_section b) i true (sym t_is ∙ passes) before.none in
    ap (first_below (is_id_section b)) size ∙ first-later (is_id_section b) (n - suc i) (suc i) i here

pub none-end : (b : List ℕ) (n : ℕ) → n ≡ section_count b → NoneBelow b n → id_section b ≡ None
unfolding id_section
none-end b n e before = ap (first_below (is_id_section b)) (sym e) ∙ before.none

pub ruleset search_rules = (none-start, none-more, first-found, none-end)

-- one section
and-false : (a b : Bool) → b ≡ false → (a && b) ≡ false
and-false true b e = e
and-false false b e = refl

and-true : (a b : Bool) → b ≡ true → (a && b) ≡ a
and-true true b e = e
and-true false b e = refl

pub kind-other : (b : List ℕ) (i : ℕ) (s : Section) → s ≡ nth_section b i → s.kind ≢ SHT_NOTE → is_id_section b i ≡ false
unfolding is_id_section
kind-other b i s s_is other =
    and-false (same_text (section_name b i) note_build_id) ((nth_section b i).kind == SHT_NOTE) (ap (λ (x : Section). x.kind == SHT_NOTE) (sym s_is) ∙ ne_eqb s.kind SHT_NOTE other)

pub kind-note : (b : List ℕ) (i : ℕ) (s : Section) (t : Bool) → s ≡ nth_section b i → s.kind ≡ SHT_NOTE
    → t ≡ same_text (text_in (name_table b) s.name) note_build_id → t ≡ is_id_section b i
unfolding is_id_section section_name
kind-note b i s t s_is note t_is =
    let kind : ((nth_section b i).kind == SHT_NOTE) ≡ true = ap (λ (x : Section). x.kind == SHT_NOTE) (sym s_is) ∙ ap (λ (k : ℕ). k == SHT_NOTE) note in
    t_is ∙ ap (λ (x : Section). same_text (text_in (name_table b) x.name) note_build_id) s_is
    ∙ sym (and-true (same_text (text_in (name_table b) (nth_section b i).name) note_build_id) ((nth_section b i).kind == SHT_NOTE) kind)

pub ruleset kind_rules = (kind-other, kind-note)

-- the section name table
pub name-none : (b : List ℕ) (n place : ℕ) → n ≡ name_index b → n ≡ 0 → same_text (text_in (name_table b) place) note_build_id ≡ false
unfolding name_table
name-none b n place n_is none =
    let zero_is : name_index b ≡ 0 = sym n_is ∙ none in
    rw zero_is (ap (λ (t : List ℕ). same_text t note_build_id) (text_in-nil place))

pub name-some : (b : List ℕ) (n place : ℕ) (t : Bool) (table : List ℕ) → n ≡ name_index b → n ≢ 0 → table ≡ contents_of b n
    → t ≡ same_text (text_in table place) note_build_id → t ≡ same_text (text_in (name_table b) place) note_build_id
unfolding name_table
name-some b n place t table n_is some table_is t_is =
    let other : (name_index b == 0) ≡ false = ap (λ (k : ℕ). k == 0) (sym n_is) ∙ ne_eqb n 0 some in
    t_is ∙ ap (λ (xs : List ℕ). same_text (text_in xs place) note_build_id) (table_is ∙ ap (contents_of b) n_is ∙ sym (rw other refl))

pub name-there : (b : List ℕ) (n : ℕ) → DebugReads b → n ≡ name_index b → n ≢ 0 → n < section_count b
name-there b n reads n_is some = rw n_is (names-there b reads (rw n_is at some))

pub ruleset name_rules = (name-none, name-some, name-there)
