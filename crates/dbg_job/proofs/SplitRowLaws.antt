-- What keeps an edited file from being split keeps the file from it, and the other way round.
use Rattle.std.proofs.Common.{Bool, true, false, ◌≡◌, ◌≢◌, ◌⊎◌, inl, inr, ℕ, ◌+◌, ◌<◌, ◌≤◌, ◌&&◌, ◌||◌, nat_le, List, length, take, drop, sym, ap, ◌∙◌, refl, subst, arith}
use Rattle.std.proofs.lemmas.Bool.{cases_Bool, ne_eqb}
use Rattle.std.proofs.lemmas.Bool.Decides.{nat_tests}
use Rattle.std.proofs.lemmas.List.{length-take}
use Rattle.dw_base.specs.Elf.{class_of, contents_at, contents_of, ehdr_size, is_empty_kind, name_index, name_table, nth_section, section_count, shstrndx_place}
use Rattle.dw_base.specs.ElfFails.{ElfReads}
use Rattle.dw_base.specs.Layout.{fixed_end, is_alloc, is_fixed, is_loaded_kind}
use Rattle.dw_base.specs.LayoutFails.{LayoutFits}
use Rattle.dw_base.specs.Refusals.{at}
use Rattle.dw_base.specs.declared.fault.Kind.TheVariants.{Header, Fixed}
use Rattle.dw_base.specs.declared.fault.Refusal.{Refusal}
use Rattle.dw_base.specs.declared.records.Section.{Section}
use Rattle.dw_base.specs.declared.shared.Class.{Class}
use Rattle.dw_base.proofs.LayoutLaws.{fixed_end-header}
use Rattle.dw_base.proofs.TextLaws.{ends_in-inside}
use Rattle.dw_base.proofs.WrittenContents.{contents-empty, contents-full}
use Rattle.dbg_split.specs.SplitFails.{SectionBars, Unsplittable}
use Rattle.dbg_split.specs.SplitFails.SectionBars.{across, in_header, loaded, behind, linked}
use Rattle.dbg_split.specs.SplitFails.Unsplittable.{file_type, unnamed, names_stay, section}
use Rattle.dbg_job.specs.SameSections.{SameSections}
use Rattle.dbg_job.proofs.ShapeLaws.{alloc-same, behind-same, data-same, empty-same, link-same, loaded-same}

never : (t : Bool) → t ≡ true → t ≡ false → ⊥
never true e f = cc
never false e f = cc

-- ### The section name table

-- it has a byte, since the name of section 0 ends in it
table-is : (b : List ℕ) → name_index b ≢ 0 → name_table b ≡ contents_of b (name_index b)
unfolding name_table
table-is b some = rw (ne_eqb (name_index b) 0 some) refl

size-some : (b : List ℕ) (s : Section) → 0 < length (contents_at b s) → s.size ≢ 0
size-some b s some none = by_kind (cases_Bool (is_empty_kind s))
  where
    by_kind : (is_empty_kind s ≡ true) ⊎ (is_empty_kind s ≡ false) → ⊥
    by_kind (inl empty) =
        let long : length (contents_at b s) ≡ 0 = ap length (contents-empty b s empty) in
        omega (arith, some, long)
    by_kind (inr full) =
        let long : length (contents_at b s) ≡ length (take s.size (drop s.offset b)) = ap length (contents-full b s full) in
        omega (arith, some, long, none, length-take s.size (drop s.offset b))

table-some : (b : List ℕ) → ElfReads b → name_index b ≢ 0 → (nth_section b (name_index b)).size ≢ 0
unfolding contents_of
table-some b reads some =
    let there : name_index b < section_count b = reads.debug.index.there some in
    let first : 0 < section_count b = omega (arith, there) in
    let inside : (nth_section b 0).name < length (name_table b) = ends_in-inside (name_table b) (nth_section b 0).name ((reads.debug.sections.all 0 first).name some) in
    let long : length (name_table b) ≡ length (contents_at b (nth_section b (name_index b))) = ap length (table-is b some) in
    size-some b (nth_section b (name_index b)) (omega (arith, inside, long))

table-full : (b : List ℕ) → ElfReads b → name_index b ≢ 0 → is_empty_kind (nth_section b (name_index b)) ≡ false
table-full b reads some = let strings = reads.debug.index.strings some in rw strings refl

-- so it stays in both or in none
fixed-parts : (b : List ℕ) (s : Section) → is_loaded_kind b ≡ true → is_fixed b s ≡ true → is_alloc s ≡ false → s.offset + s.size ≤ fixed_end b
unfolding is_fixed
fixed-parts b s kind fixed free = le-is (s.offset + s.size) (fixed_end b) (by_tests (is_loaded_kind b) (is_alloc s) (nat_le (s.offset + s.size) (fixed_end b)) kind free fixed)
  where
    le-is : (m n : ℕ) → nat_le m n ≡ true → m ≤ n
    le-is m n h = grind (arith, nat_tests)

    by_tests : (l a t : Bool) → l ≡ true → a ≡ false → (l && (a || t)) ≡ true → t ≡ true
    by_tests true true t e f h = cc
    by_tests true false t e f h = h
    by_tests false a t e f h = cc

free-alloc : (b : List ℕ) (s : Section) → is_loaded_kind b ≡ true → is_fixed b s ≡ false → is_alloc s ≡ false
unfolding is_fixed
free-alloc b s kind free = by_tests (is_loaded_kind b) (is_alloc s) (nat_le (s.offset + s.size) (fixed_end b)) kind free
  where
    by_tests : (l a t : Bool) → l ≡ true → (l && (a || t)) ≡ false → a ≡ false
    by_tests true true t e h = let no : true ≡ false = h in cc
    by_tests true false t e h = refl
    by_tests false a t e h = cc

-- a section that moved and has bytes doesn't stay in the other file
moved-free : (b c : List ℕ) (i : ℕ) → SameSections b c → is_loaded_kind b ≡ true → i < section_count b → is_empty_kind (nth_section b i) ≡ false
    → is_fixed b (nth_section b i) ≡ false → (nth_section c i).size ≢ 0 → is_fixed c (nth_section c i) ≡ true → ⊥
moved-free b c i s kind lt full free some fixed =
    let plain : is_alloc (nth_section c i) ≡ false = alloc-same b c i s.shape lt ∙ free-alloc b (nth_section b i) kind free in
    let ends : (nth_section c i).offset + (nth_section c i).size ≤ fixed_end c = fixed-parts c (nth_section c i) (loaded-same b c s.shape ∙ kind) fixed plain in
    omega (arith, ends, some, s.fixed.end, s.fixed.behind i lt full free)

-- ### From the edited file to the file

section-back : (b c : List ℕ) (i : ℕ) (r : Refusal) → SameSections b c → is_loaded_kind b ≡ true → i < section_count b → SectionBars c i r → SectionBars b i r
section-back b c i r s kind lt (across h) = by_fixed (cases_Bool (is_fixed b (nth_section b i)))
  where
    by_fixed : (is_fixed b (nth_section b i) ≡ true) ⊎ (is_fixed b (nth_section b i) ≡ false) → SectionBars b i (at Fixed i 0)
    by_fixed (inl fixed) =
        let same : nth_section c i ≡ nth_section b i = s.fixed.stays i lt fixed in
        across (record {
          bytes = sym (empty-same b c i s.shape lt) ∙ h.bytes;
          alloc = sym (alloc-same b c i s.shape lt) ∙ h.alloc;
          begins = subst (λ (n : ℕ). (nth_section b i).offset < n) s.fixed.end (subst (λ (x : Section). x.offset < fixed_end c) same h.begins);
          ends = subst (λ (n : ℕ). n < (nth_section b i).offset + (nth_section b i).size) s.fixed.end (subst (λ (x : Section). fixed_end c < x.offset + x.size) same h.ends);
        })
    by_fixed (inr free) = absurd (omega (arith, h.begins, s.fixed.end, s.fixed.behind i lt (sym (empty-same b c i s.shape lt) ∙ h.bytes) free))
section-back b c i r s kind lt (in_header h) = by_fixed (cases_Bool (is_fixed b (nth_section b i)))
  where
    by_fixed : (is_fixed b (nth_section b i) ≡ true) ⊎ (is_fixed b (nth_section b i) ≡ false) → SectionBars b i (at Fixed i 0)
    by_fixed (inl fixed) =
        let same : nth_section c i ≡ nth_section b i = s.fixed.stays i lt fixed in
        in_header (record {
          loaded = kind;
          bytes = sym (empty-same b c i s.shape lt) ∙ h.bytes;
          some = subst (λ (x : Section). x.size ≢ 0) same h.some;
          begins = subst (λ (k : Class). (nth_section b i).offset < ehdr_size k) s.shape.class (subst (λ (x : Section). x.offset < ehdr_size (class_of c)) same h.begins);
        })
    by_fixed (inr free) =
        let begins : (nth_section c i).offset < ehdr_size (class_of b) = rw s.shape.class at h.begins in
        absurd (omega (arith, begins, fixed_end-header b, s.fixed.behind i lt (sym (empty-same b c i s.shape lt) ∙ h.bytes) free))
section-back b c i r s kind lt (loaded h) = loaded (sym (data-same b c i s.shape lt) ∙ h)
section-back b c i r s kind lt (behind h) = behind (sym (behind-same b c i s.shape lt) ∙ h)
section-back b c i r s kind lt (linked h) = linked (sym (link-same b c i s.shape lt) ∙ h)

names-back : (b c : List ℕ) → SameSections b c → is_loaded_kind b ≡ true → ElfReads b → ElfReads c → name_index c ≢ 0 → is_fixed c (nth_section c (name_index c)) ≡ true
    → is_fixed b (nth_section b (name_index b)) ≡ true
names-back b c s kind reads other some fixed = by_fixed (cases_Bool (is_fixed b (nth_section b (name_index b))))
  where
    by_fixed : (is_fixed b (nth_section b (name_index b)) ≡ true) ⊎ (is_fixed b (nth_section b (name_index b)) ≡ false) → is_fixed b (nth_section b (name_index b)) ≡ true
    by_fixed (inl is) = is
    by_fixed (inr free) =
        let there : name_index b ≢ 0 = λ none. some (s.shape.index ∙ none) in
        let bytes : (nth_section c (name_index b)).size ≢ 0 = subst (λ (n : ℕ). (nth_section c n).size ≢ 0) s.shape.index (table-some c other some) in
        let here : is_fixed c (nth_section c (name_index b)) ≡ true = subst (λ (n : ℕ). is_fixed c (nth_section c n) ≡ true) s.shape.index fixed in
        absurd (moved-free b c (name_index b) s kind (reads.debug.index.there there) (table-full b reads there) free bytes here)

pub rows-back : (b c : List ℕ) (r : Refusal) → SameSections b c → is_loaded_kind b ≡ true → ElfReads b → ElfReads c → Unsplittable c r → Unsplittable b r
rows-back b c r s kind reads other (file_type none) = absurd (never (is_loaded_kind c) (loaded-same b c s.shape ∙ kind) none)
rows-back b c r s kind reads other (unnamed none) =
    subst (λ (k : Class). Unsplittable b (at Header 0 (shstrndx_place k))) (sym s.shape.class) (unnamed (sym s.shape.index ∙ none))
rows-back b c r s kind reads other (names_stay some fixed) =
    subst (λ (n : ℕ). Unsplittable b (at Fixed n 0)) (sym s.shape.index)
    (names_stay (λ none. some (s.shape.index ∙ none)) (names-back b c s kind reads other some fixed))
rows-back b c r s kind reads other (section i lt bars) =
    let here : i < section_count b = rw s.shape.count at lt in
    section i here (section-back b c i r s kind here bars)

-- ### From the file to the edited file

section-on : (b c : List ℕ) (bodies : ℕ → List ℕ) (i : ℕ) (r : Refusal) → SameSections b c → LayoutFits b bodies → i < section_count b → SectionBars b i r → SectionBars c i r
section-on b c bodies i r s fits lt (across h) = absurd (fits.across i lt h)
section-on b c bodies i r s fits lt (in_header h) = absurd (fits.in_header i lt h)
section-on b c bodies i r s fits lt (loaded h) = loaded (data-same b c i s.shape lt ∙ h)
section-on b c bodies i r s fits lt (behind h) = behind (behind-same b c i s.shape lt ∙ h)
section-on b c bodies i r s fits lt (linked h) = linked (link-same b c i s.shape lt ∙ h)

fixed-on : (b c : List ℕ) (i : ℕ) → SameSections b c → i < section_count b → is_fixed b (nth_section b i) ≡ true → is_fixed c (nth_section c i) ≡ true
unfolding is_fixed
fixed-on b c i s lt fixed = rw (s.fixed.stays i lt fixed, s.fixed.end, loaded-same b c s.shape) fixed

pub rows-on : (b c : List ℕ) (bodies : ℕ → List ℕ) (r : Refusal) → SameSections b c → is_loaded_kind b ≡ true → ElfReads b → LayoutFits b bodies → Unsplittable b r → Unsplittable c r
rows-on b c bodies r s kind reads fits (file_type none) = absurd (never (is_loaded_kind b) kind none)
rows-on b c bodies r s kind reads fits (unnamed none) =
    subst (λ (k : Class). Unsplittable c (at Header 0 (shstrndx_place k))) s.shape.class (unnamed (s.shape.index ∙ none))
rows-on b c bodies r s kind reads fits (names_stay some fixed) =
    subst (λ (n : ℕ). Unsplittable c (at Fixed n 0)) s.shape.index
    (names_stay (λ none. some (sym s.shape.index ∙ none))
    (subst (λ (n : ℕ). is_fixed c (nth_section c n) ≡ true) (sym s.shape.index) (fixed-on b c (name_index b) s (reads.debug.index.there some) fixed)))
rows-on b c bodies r s kind reads fits (section i lt bars) =
    section i (rw s.shape.count lt) (section-on b c bodies i r s fits lt bars)
