-- A file that was written with new bodies, where each section keeps its bytes that isn't read and holds no relocations of one that is: its
-- records read, its sections have their names and kinds, its build-id stays, and what is meant by bytes alone is as it was.
use Rattle.std.proofs.Common.{◌+◌, Bool, true, false, ◌≡◌, ◌≢◌, ℕ, zero, suc, ◌<◌, ◌==◌, ◌||◌, ◌&&◌, not, List, [], ◌∷◌, ◌++◌, length, IsTrue, cond, if◌then◌else◌, sym, ap, ◌∙◌, refl, subst, arith}
use Rattle.std.specs.Bool.{⊤}
use Rattle.std.specs.Prelude.{bit_and, Option, Some, None, is_some, nat_lt}
use Rattle.std.proofs.lemmas.Bool.{and_parts, eqb-true, ltb-true, ne_eqb}
use Rattle.dw_base.specs.DebugSectionFails.{NameReads, DebugSectionsRead, is_active, repeats_by}
use Rattle.dw_base.specs.Cells.{plain_cells}
use Rattle.dw_base.specs.DebugSections.{debug_section, is_listed, name_of}
use Rattle.dw_base.specs.Elf.{e_type, nth_section, section_count, section_name, name_index, name_table, contents_of}
use Rattle.dw_base.specs.ElfFails.{ElfReads}
use Rattle.dw_base.specs.FileViews.{ViewSection, cells_of, view_section, view_of, bytes_in, plain_contents}
use Rattle.dw_base.specs.Layout.{is_loaded_kind}
use Rattle.dw_base.specs.LayoutReads.{ReadsBack, NamesEnd, is_known_kind}
use Rattle.dw_base.specs.Lists.{tabulate}
use Rattle.dw_base.specs.Notes.{BuildId, zeroed, is_id_section, or_this, first_below, build_id_in, build_id_of}
use Rattle.dw_base.specs.RelocationRows.{moving_from, moving_sections}
use Rattle.dw_base.specs.RelocationSectionFails.{is_read_section, moves, relocates_read}
use Rattle.dw_base.specs.SectionNames.{note_build_id, debug_link}
use Rattle.dw_base.specs.SectionRelocations.{PlacedRelocation, cells_from, is_relocation_kind, relocates}
use Rattle.dw_base.specs.Texts.{same_text, text_in, ends_in}
use Rattle.dw_base.specs.ViewData.{is_read, is_other, NamedBytes, other_sections, zeroed_at, without_id}
use Rattle.dw_base.specs.declared.elf_numbers.TheConstants.{ET_REL, SHT_REL, SHT_RELA}
use Rattle.dw_base.specs.declared.debug_sections.DebugSection.{DebugSection}
use Rattle.dw_base.specs.declared.debug_sections.DebugSection.TheVariants.{Info, Types, Abbrev, Str, LineStr, StrOffsets, Line, Macro, Names}
use Rattle.dw_meaning.proofs.BuildIdLaws.{first_below-found}
use Rattle.dw_base.proofs.DebugSectionLaws.{debug_section-named}
use Rattle.dw_base.proofs.ListLaws.{length-tabulate}
use Rattle.dw_base.proofs.SectionRelocationLaws.{cells_from-none, relocations_of-loaded}
use Rattle.dw_base.proofs.TextLaws.{same_text-true}

-- the name of a section is that of one that is read
abbrev pub is_read_name : List ℕ → Bool
is_read_name name = is_read (debug_section name)

-- a file that was written so
pub record Back (b : List ℕ) (bodies : ℕ → List ℕ) (out : List ℕ) : Type 0 where
  pub elf : ElfReads b
  pub names : DebugSectionsRead b
  pub back : ReadsBack b bodies out
  pub unread : (i : ℕ) → i < section_count b → is_read_name (section_name b i) ≡ false → relocates_read b i ≡ false → bodies i ≡ contents_of b i

pub known_kind : (b : List ℕ) → is_loaded_kind b ≡ true → is_known_kind b ≡ true
known_kind b loaded = rw loaded (or_true (e_type b == 1))
  where
    or_true : (p : Bool) → (p || true) ≡ true
    or_true true = refl
    or_true false = refl

-- only a section of a kind of its own holds relocations
pub plain-holder : (b : List ℕ) (i : ℕ) → is_relocation_kind (nth_section b i) ≡ false → relocates_read b i ≡ false
unfolding relocates_read relocates
plain-holder b i plain = rw plain (nothing (e_type b == ET_REL))
  where
    nothing : (t : Bool) → (t && false && (nth_section b i).info == (nth_section b i).info && is_read_section b (nth_section b i).info) ≡ false
    nothing true = refl
    nothing false = refl

pub other-holder : (b : List ℕ) (i : ℕ) → (e_type b == ET_REL) ≡ false → relocates_read b i ≡ false
unfolding relocates_read relocates
other-holder b i other = rw other refl

-- a name that is read is listed
listed-names : (s : DebugSection) → is_listed (name_of s) ≡ true
unfolding is_listed
listed-names Info = refl
listed-names Types = refl
listed-names Abbrev = refl
listed-names Str = refl
listed-names LineStr = refl
listed-names StrOffsets = refl
listed-names Line = refl
listed-names Macro = refl
listed-names Names = refl

pub unlisted-none : (name : List ℕ) → is_listed name ≡ false → debug_section name ≡ None
unlisted-none name e = by_found (debug_section name) refl
  where
    by_found : (o : Option DebugSection) → debug_section name ≡ o → o ≡ None
    by_found None is = refl
    by_found (Some s) is =
        let listed : is_listed name ≡ true = ap is_listed (debug_section-named name s is) ∙ listed-names s in
        absurd (clash listed)
      where
        clash : is_listed name ≡ true → ⊥
        clash f = cc

unlisted-unread : (name : List ℕ) → is_listed name ≡ false → is_read_name name ≡ false
unlisted-unread name e = ap is_read (unlisted-none name e)

-- the section name table keeps its bytes
names-kept : (b : List ℕ) (bodies : ℕ → List ℕ) (out : List ℕ) → Back b bodies out → name_index b ≢ 0 → bodies (name_index b) ≡ contents_of b (name_index b)
names-kept b bodies out w some =
    w.unread (name_index b) (w.elf.debug.index.there some) (unlisted-unread (section_name b (name_index b)) (w.names.apart some))
    (plain-holder b (name_index b) (ap (λ (k : ℕ). k == SHT_REL || k == SHT_RELA) (w.elf.debug.index.strings some)))

name_table-is : (b : List ℕ) → name_index b ≢ 0 → name_table b ≡ contents_of b (name_index b)
unfolding name_table
name_table-is b some = rw (ne_eqb (name_index b) 0 some) refl

names-end : (b : List ℕ) (bodies : ℕ → List ℕ) (out : List ℕ) → Back b bodies out → NamesEnd b bodies
names-end b bodies out w = record {
  ends = λ i lt some.
      ap (λ (t : List ℕ). ends_in t (nth_section b i).name) (names-kept b bodies out w some ∙ sym (name_table-is b some))
      ∙ (w.elf.debug.sections.all i lt).name some;
}

-- its records read
pub elf-back : (b : List ℕ) (bodies : ℕ → List ℕ) (out : List ℕ) → Back b bodies out → ElfReads out
elf-back b bodies out w = w.back.reads w.names.file_type (names-end b bodies out w)

pub loaded-back : (b : List ℕ) (bodies : ℕ → List ℕ) (out : List ℕ) → ReadsBack b bodies out → is_loaded_kind b ≡ true → is_loaded_kind out ≡ true
loaded-back b bodies out back loaded = rw back.kind loaded

-- its names are as they were
name_table-back : (b : List ℕ) (bodies : ℕ → List ℕ) (out : List ℕ) → Back b bodies out → name_table out ≡ name_table b
unfolding name_table
name_table-back b bodies out w = rw w.back.names (by_zero (name_index b == 0) refl)
  where
    by_zero : (z : Bool) → (name_index b == 0) ≡ z → cond z [] (contents_of out (name_index b)) ≡ cond z [] (contents_of b (name_index b))
    by_zero true is = refl
    by_zero false is =
        let some : name_index b ≢ 0 = λ (e : name_index b ≡ 0). let no : (name_index b == 0) ≡ true = rw e refl in cc in
        w.back.contents (name_index b) (w.elf.debug.index.there some) ∙ names-kept b bodies out w some

pub section_name-back : (b : List ℕ) (bodies : ℕ → List ℕ) (out : List ℕ) (i : ℕ) → Back b bodies out → i < section_count b → section_name out i ≡ section_name b i
unfolding section_name
section_name-back b bodies out i w lt =
    ap (λ (t : List ℕ). text_in t (nth_section out i).name) (name_table-back b bodies out w) ∙ ap (text_in (name_table b)) (w.back.heads i lt).name

-- and its sections hold relocations of those of which they held some
pub relocates-back : (b : List ℕ) (bodies : ℕ → List ℕ) (out : List ℕ) (target i : ℕ) → Back b bodies out → i < section_count b
    → relocates out target i ≡ relocates b target i
unfolding relocates
relocates-back b bodies out target i w lt =
    ap (λ (t : ℕ). t == ET_REL && is_relocation_kind (nth_section out i) && (nth_section out i).info == target) w.back.kind
    ∙ ap (λ (t : Bool). e_type b == ET_REL && t && (nth_section out i).info == target) (rw (w.back.heads i lt).kind refl)
    ∙ ap (λ (n : ℕ). e_type b == ET_REL && is_relocation_kind (nth_section b i) && n == target) (w.back.heads i lt).info

pub relocates_read-back : (b : List ℕ) (bodies : ℕ → List ℕ) (out : List ℕ) (i : ℕ) → Back b bodies out → i < section_count b
    → relocates_read out i ≡ relocates_read b i
unfolding relocates_read
relocates_read-back b bodies out i w lt =
    ap (λ (n : ℕ). relocates out n i && (nat_lt n (section_count out) && is_some (debug_section (section_name out n)))) (w.back.heads i lt).info
    ∙ ap (λ (t : Bool). t && (nat_lt (nth_section b i).info (section_count out) && is_some (debug_section (section_name out (nth_section b i).info))))
    (relocates-back b bodies out (nth_section b i).info i w lt)
    ∙ ap (λ (t : Bool). relocates b (nth_section b i).info i && t) (read-back (nth_section b i).info)
  where
    read-back : (n : ℕ) → (nat_lt n (section_count out) && is_some (debug_section (section_name out n)))
        ≡ (nat_lt n (section_count b) && is_some (debug_section (section_name b n)))
    read-back n =
        ap (λ (count : ℕ). nat_lt n count && is_some (debug_section (section_name out n))) w.back.count ∙ by_test (nat_lt n (section_count b)) refl
      where
        by_test : (t : Bool) → nat_lt n (section_count b) ≡ t
            → (t && is_some (debug_section (section_name out n))) ≡ (t && is_some (debug_section (section_name b n)))
        by_test false e = refl
        by_test true e = ap (λ (name : List ℕ). is_some (debug_section name)) (section_name-back b bodies out n w (ltb-true n (section_count b) e))

-- and its sections are such that can be read
pub names-back : (b : List ℕ) (bodies : ℕ → List ℕ) (out : List ℕ) → Back b bodies out → DebugSectionsRead out
names-back b bodies out w =
    let count : section_count out ≡ section_count b = w.back.count in
    let index : name_index out ≡ name_index b = w.back.names in
    record {
      file_type = rw w.back.kind w.names.file_type;
      named = λ i lt active.
          let here : i < section_count b = rw count at lt in
          let kind : (nth_section out i).kind ≡ (nth_section b i).kind = (w.back.heads i here).kind in
          let was : IsTrue (is_active (nth_section b i)) = ap (λ (k : ℕ). not (k == 0)) (sym kind) ∙ active in
          let old : NameReads (section_name b i) (nth_section b i) = w.names.named i here was in
          let name : section_name out i ≡ section_name b i = section_name-back b bodies out i w here in
          rw name (record {
            plain = λ is. ap (λ (n : ℕ). bit_and n 2048) (w.back.heads i here).flags ∙ old.plain is;
            not_zdebug = old.not_zdebug;
            not_supplementary = old.not_supplementary;
            not_split = old.not_split;
            listed = old.listed;
          });
      once = λ i j lt second.
          let j_here : j < section_count b = rw count at lt in
          let before : i < j = second.before in
          let i_here : i < section_count b = omega arith in
          let i_name : section_name out i ≡ section_name b i = section_name-back b bodies out i w i_here in
          let j_name : section_name out j ≡ section_name b j = section_name-back b bodies out j w j_here in
          w.names.once i j j_here (record {
            before = second.before;
            first_active = ap (λ (k : ℕ). not (k == 0)) (sym (w.back.heads i i_here).kind) ∙ second.first_active;
            active = ap (λ (k : ℕ). not (k == 0)) (sym (w.back.heads j j_here).kind) ∙ second.active;
            same = sym i_name ∙ second.same ∙ j_name;
            listed = ap is_listed (sym j_name) ∙ second.listed;
            single =
                ap (λ (t : ℕ). t == 1 && repeats_by (debug_section (section_name b j))) (sym w.back.kind)
                ∙ ap (λ (n : List ℕ). e_type out == 1 && repeats_by (debug_section n)) (sym j_name) ∙ second.single;
          });
      apart = λ some.
          let there : name_index b ≢ 0 = rw index at some in
          rw index (ap is_listed (section_name-back b bodies out (name_index b) w (w.elf.debug.index.there there)) ∙ w.names.apart there);
    }

-- the build-id stays where it is
first_below-ext : (f g : ℕ → Bool) (n : ℕ) → ((i : ℕ) → i < n → f i ≡ g i) → first_below f n ≡ first_below g n
first_below-ext f g zero same = refl
first_below-ext f g (suc n) same =
    ap (λ (o : Option ℕ). or_this o n (f n)) (first_below-ext f g n (λ i lt. same i (omega arith)))
    ∙ ap (or_this (first_below g n) n) (same n (omega arith))

id-unread : (b : List ℕ) (i : ℕ) → is_id_section b i ≡ true → is_read_name (section_name b i) ≡ false
unfolding is_id_section debug_section
id-unread b i is = ap is_read_name (same_text-true (section_name b i) note_build_id (and_left (same_text (section_name b i) note_build_id) ((nth_section b i).kind == 7) is))
  where
    and_left : (p q : Bool) → (p && q) ≡ true → p ≡ true
    and_left true q h = refl
    and_left false q h = cc

id-holder : (b : List ℕ) (i : ℕ) → is_id_section b i ≡ true → relocates_read b i ≡ false
unfolding is_id_section
id-holder b i is =
    plain-holder b i (ap (λ (k : ℕ). k == SHT_REL || k == SHT_RELA)
    (eqb-true (nth_section b i).kind 7 (and_parts (same_text (section_name b i) note_build_id) ((nth_section b i).kind == 7) is).1))

id-section_same : (b : List ℕ) (bodies : ℕ → List ℕ) (out : List ℕ) (i : ℕ) → Back b bodies out → i < section_count b → is_id_section out i ≡ is_id_section b i
unfolding is_id_section
id-section_same b bodies out i w lt = rw (section_name-back b bodies out i w lt, (w.back.heads i lt).kind) refl

pub build_id-back : (b : List ℕ) (bodies : ℕ → List ℕ) (out : List ℕ) → Back b bodies out → build_id_of out ≡ build_id_of b
unfolding build_id_of
build_id-back b bodies out w =
    ap (λ (n : ℕ). build_id_in out (first_below (is_id_section out) n)) w.back.count
    ∙ ap (build_id_in out) (first_below-ext (is_id_section out) (is_id_section b) (section_count b) (λ i lt. id-section_same b bodies out i w lt))
    ∙ by_found (first_below (is_id_section b) (section_count b)) refl
  where
    by_found : (o : Option ℕ) → first_below (is_id_section b) (section_count b) ≡ o → build_id_in out o ≡ build_id_in b o
    by_found None e = refl
    by_found (Some i) e =
        let found = first_below-found (is_id_section b) (section_count b) i e in
        let bytes : contents_of out i ≡ contents_of b i =
        w.back.contents i found.0 ∙ w.unread i found.0 (id-unread b i found.1) (id-holder b i found.1) in
        rw (w.back.order, bytes) refl

-- the sections of two views, number by number, each related at its number
abbrev pub AllAt : (ℕ → ViewSection → ViewSection → Type 0) → ℕ → List ViewSection → List ViewSection → Type 0
AllAt P k [] [] = ⊤
AllAt P k [] (t ∷ ts) = ⊥
AllAt P k (s ∷ ss) [] = ⊥
AllAt P k (s ∷ ss) (t ∷ ts) = P k s t × AllAt P (suc k) ss ts

at-push : (P : ℕ → ViewSection → ViewSection → Type 0) (k n : ℕ) (ss ts : List ViewSection) (s t : ViewSection) → length ss + k ≡ n → AllAt P k ss ts → P n s t
    → AllAt P k (ss ++ s ∷ []) (ts ++ t ∷ [])
at-push P k n [] [] s t size all one =
    let same : n ≡ k = omega (arith, size) in
    (subst (λ (i : ℕ). P i s t) same one, tt)
at-push P k n [] (y ∷ ts) s t size all one = absurd all
at-push P k n (x ∷ ss) [] s t size all one = absurd all
at-push P k n (x ∷ ss) (y ∷ ts) s t size all one = (all.0, at-push P (suc k) n ss ts s t (omega (arith, size)) all.1 one)

pub tabulate-at : (P : ℕ → ViewSection → ViewSection → Type 0) (f g : ℕ → ViewSection) (n : ℕ) → ((i : ℕ) → i < n → P i (f i) (g i))
    → AllAt P 0 (tabulate f n) (tabulate g n)
tabulate-at P f g zero each = tt
tabulate-at P f g (suc n) each =
    at-push P 0 n (tabulate f n) (tabulate g n) (f n) (g n) (omega (arith, length-tabulate f n)) (tabulate-at P f g n (λ i lt. each i (omega arith))) (each n (omega arith))

-- a section in which no relocation begins is its bytes
pub bare-cells : (t : ViewSection) → t.relocations ≡ [] → cells_of t ≡ plain_cells (bytes_in t.contents)
bare-cells t none = ap (λ (rs : List PlacedRelocation). cells_from rs 0 (bytes_in t.contents)) none ∙ cells_from-none 0 (bytes_in t.contents)

-- a section of the view is as it was, but for its bytes; of a file that isn't relocatable no relocation begins in it
pub record SectionBack (b : List ℕ) (bodies : ℕ → List ℕ) (i : ℕ) (s t : ViewSection) : Type 0 where
  pub within : i < section_count b
  pub named : s.name ≡ section_name b i
  pub holder : s.relocates_read ≡ relocates_read b i
  pub name : t.name ≡ s.name
  pub alloc : t.alloc ≡ s.alloc
  pub is_name_table : t.is_name_table ≡ s.is_name_table
  pub has_bytes : t.has_bytes ≡ s.has_bytes
  pub relocates_read : t.relocates_read ≡ s.relocates_read
  pub bare : is_loaded_kind b ≡ true → t.relocations ≡ []
  pub old : bytes_in s.contents ≡ contents_of b i
  pub new : bytes_in t.contents ≡ bodies i

section-back : (b : List ℕ) (bodies : ℕ → List ℕ) (out : List ℕ) (i : ℕ) → Back b bodies out → i < section_count b → SectionBack b bodies i (view_section b i) (view_section out i)
unfolding view_section
section-back b bodies out i w lt = record {
  within = lt;
  named = refl;
  holder = refl;
  name = section_name-back b bodies out i w lt;
  alloc = rw (w.back.heads i lt).flags refl;
  is_name_table = rw w.back.names refl;
  has_bytes = rw (w.back.heads i lt).kind refl;
  relocates_read = relocates_read-back b bodies out i w lt;
  bare = λ loaded. relocations_of-loaded (contents_of out) out i (loaded-back b bodies out w.back loaded);
  old = refl;
  new = w.back.contents i lt;
}

pub sections-back : (b : List ℕ) (bodies : ℕ → List ℕ) (out : List ℕ) → Back b bodies out → AllAt (SectionBack b bodies) 0 (view_of b).sections (view_of out).sections
unfolding view_of
sections-back b bodies out w =
    subst (λ (n : ℕ). AllAt (SectionBack b bodies) 0 (tabulate (view_section b) (section_count b)) (tabulate (view_section out) n)) (sym w.back.count)
    (tabulate-at (SectionBack b bodies) (view_section b) (view_section out) (section_count b) (λ i lt. section-back b bodies out i w lt))

-- two sections are the same, but for the bytes of one that is read, or that holds relocations of one that is
record Alike (s t : ViewSection) : Type 0 where
  name : t.name ≡ s.name
  alloc : t.alloc ≡ s.alloc
  is_name_table : t.is_name_table ≡ s.is_name_table
  relocates_read : t.relocates_read ≡ s.relocates_read
  contents : is_read_name s.name ≡ false → s.relocates_read ≡ false → bytes_in t.contents ≡ bytes_in s.contents

abbrev AllAlike : List ViewSection → List ViewSection → Type 0
AllAlike [] [] = ⊤
AllAlike [] (t ∷ ts) = ⊥
AllAlike (s ∷ ss) [] = ⊥
AllAlike (s ∷ ss) (t ∷ ts) = Alike s t × AllAlike ss ts

alike-back : (b : List ℕ) (bodies : ℕ → List ℕ) (out : List ℕ) (k : ℕ) (ss ts : List ViewSection) → Back b bodies out → AllAt (SectionBack b bodies) k ss ts → AllAlike ss ts
alike-back b bodies out k [] [] w all = tt
alike-back b bodies out k [] (t ∷ ts) w all = absurd all
alike-back b bodies out k (s ∷ ss) [] w all = absurd all
alike-back b bodies out k (s ∷ ss) (t ∷ ts) w all = (
  record {
    name = all.0.name;
    alloc = all.0.alloc;
    is_name_table = all.0.is_name_table;
    relocates_read = all.0.relocates_read;
    contents = λ unread plain.
        all.0.new ∙ w.unread k all.0.within (ap is_read_name (sym all.0.named) ∙ unread) (sym all.0.holder ∙ plain) ∙ sym all.0.old;
  },
  alike-back b bodies out (suc k) ss ts w all.1,
)

-- the bytes of the build-id as zeros
zeroed-alike : (id : BuildId) (s t : ViewSection) → Alike s t
    → Alike (record s { contents = plain_contents (zeroed id.descriptor (bytes_in s.contents)) }) (record t { contents = plain_contents (zeroed id.descriptor (bytes_in t.contents)) })
zeroed-alike id s t h = record {
  name = h.name;
  alloc = h.alloc;
  is_name_table = h.is_name_table;
  relocates_read = h.relocates_read;
  contents = λ unread plain. ap (zeroed id.descriptor) (h.contents unread plain);
}

zeroed_at-alike : (i : ℕ) (id : BuildId) (ss ts : List ViewSection) → AllAlike ss ts → AllAlike (zeroed_at i id ss) (zeroed_at i id ts)
zeroed_at-alike i id [] [] h = tt
zeroed_at-alike i id [] (t ∷ ts) h = absurd h
zeroed_at-alike i id (s ∷ ss) [] h = absurd h
zeroed_at-alike zero id (s ∷ ss) (t ∷ ts) h = (zeroed-alike id s t h.0, h.1)
zeroed_at-alike (suc i) id (s ∷ ss) (t ∷ ts) h = (h.0, zeroed_at-alike i id ss ts h.1)

without_id-alike : (id : Option BuildId) (ss ts : List ViewSection) → AllAlike ss ts → AllAlike (without_id id ss) (without_id id ts)
without_id-alike None ss ts h = h
without_id-alike (Some id) ss ts h = zeroed_at-alike id.section id ss ts h

-- the sections that are meant by their bytes are the same
other-alike : (s t : ViewSection) → Alike s t → is_other t ≡ is_other s
other-alike s t h = rw (h.name, h.alloc, h.is_name_table, h.relocates_read) refl

record IsUnread (s : ViewSection) : Type 0 where
  name : is_read_name s.name ≡ false
  holder : s.relocates_read ≡ false

other-unread : (s : ViewSection) → is_other s ≡ true → IsUnread s
other-unread s is =
    let both = by_tests s.alloc s.is_name_table (is_read_name s.name) (same_text s.name debug_link) s.relocates_read is in
    record { name = both.0; holder = both.1 }
  where
    by_tests : (a n r l h : Bool) → not (a || n || r || l || h) ≡ true → (r ≡ false) × (h ≡ false)
    by_tests true n r l h is = let no : false ≡ true = is in cc
    by_tests false true r l h is = let no : false ≡ true = is in cc
    by_tests false false true l h is = let no : false ≡ true = is in cc
    by_tests false false false true h is = let no : false ≡ true = is in cc
    by_tests false false false false true is = let no : false ≡ true = is in cc
    by_tests false false false false false is = (refl, refl)

abbrev named_bytes : ViewSection → NamedBytes
named_bytes s = record { name = s.name; bytes = bytes_in s.contents }

named-alike : (s t : ViewSection) (os : List NamedBytes) (x : Bool) → Alike s t → is_other s ≡ x
    → cond x (named_bytes t ∷ os) os ≡ cond x (named_bytes s ∷ os) os
named-alike s t os true h is =
    ap (λ (n : List ℕ). record { name = n; bytes = bytes_in t.contents } ∷ os) h.name
    ∙ ap (λ (p : List ℕ). record { name = s.name; bytes = p } ∷ os) (h.contents (other-unread s is).name (other-unread s is).holder)
named-alike s t os false h is = refl

other_sections-alike : (ss ts : List ViewSection) → AllAlike ss ts → other_sections ts ≡ other_sections ss
other_sections-alike [] [] h = refl
other_sections-alike [] (t ∷ ts) h = absurd h
other_sections-alike (s ∷ ss) [] h = absurd h
other_sections-alike (s ∷ ss) (t ∷ ts) h =
    ap (λ (x : Bool). cond x (named_bytes t ∷ other_sections ts) (other_sections ts)) (other-alike s t h.0)
    ∙ ap (λ (os : List NamedBytes). cond (is_other s) (named_bytes t ∷ os) os) (other_sections-alike ss ts h.1)
    ∙ named-alike s t (other_sections ss) (is_other s) h.0 refl

id-view : (b : List ℕ) → (view_of b).id ≡ build_id_of b
unfolding view_of
id-view b = refl

pub others-back : (b : List ℕ) (bodies : ℕ → List ℕ) (out : List ℕ) → Back b bodies out
    → other_sections (without_id (view_of out).id (view_of out).sections) ≡ other_sections (without_id (view_of b).id (view_of b).sections)
others-back b bodies out w =
    ap (λ (id : Option BuildId). other_sections (without_id id (view_of out).sections)) (id-view out ∙ build_id-back b bodies out w ∙ sym (id-view b))
    ∙ other_sections-alike (without_id (view_of b).id (view_of b).sections) (without_id (view_of b).id (view_of out).sections)
    (without_id-alike (view_of b).id (view_of b).sections (view_of out).sections (alike-back b bodies out 0 (view_of b).sections (view_of out).sections w (sections-back b bodies out w)))

-- the sections whose places change are those of before
moving-alike : (i : ℕ) (ss ts : List ViewSection) → AllAlike ss ts → moving_from i ts ≡ moving_from i ss
moving-alike i [] [] h = refl
moving-alike i [] (t ∷ ts) h = absurd h
moving-alike i (s ∷ ss) [] h = absurd h
moving-alike i (s ∷ ss) (t ∷ ts) h =
    ap (λ (n : List ℕ). if moves (debug_section n) then i ∷ moving_from (i + 1) ts else moving_from (i + 1) ts) h.0.name
    ∙ ap (λ (l : List ℕ). if moves (debug_section s.name) then i ∷ l else l) (moving-alike (i + 1) ss ts h.1)

pub moving-back : (b : List ℕ) (bodies : ℕ → List ℕ) (out : List ℕ) → Back b bodies out → moving_sections (view_of out) ≡ moving_sections (view_of b)
unfolding moving_sections
moving-back b bodies out w =
    moving-alike 0 (view_of b).sections (view_of out).sections (alike-back b bodies out 0 (view_of b).sections (view_of out).sections w (sections-back b bodies out w))
