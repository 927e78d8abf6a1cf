-- What is checked of a file, test by test, and what refuses it.
use Rattle.std.proofs.Common.{◌≡◌, ℕ, ◌+◌, ◌<◌, ◌≤◌, ◌==◌, Bool, true, false, ◌&&◌, not, List, length, Option, Some, None, sym, ap, ◌∙◌, refl, arith, inl, inr, subst}
use Rattle.std.specs.Prelude.{nat_lt, is_some, slice_index}
use Rattle.std.proofs.lemmas.Bool.{cases_lt, eqb-true, ltb-true, true≢false}
use Rattle.dw_base.specs.DebugSectionFails.{DebugSectionsRead}
use Rattle.dw_base.specs.DebugSections.{debug_section}
use Rattle.dw_base.specs.Elf.{contents_of, e_type, is_empty_kind, nth_section, section_count, section_name}
use Rattle.dw_base.specs.ElfFails.{ElfReads}
use Rattle.dw_base.specs.FileViews.{View, kind_at, view_of}
use Rattle.dw_base.specs.Layout.{is_alloc}
use Rattle.dw_base.specs.Refusals.{at}
use Rattle.dw_base.specs.RelocationSectionFails.{RelocationSectionsRead, is_read_section, relocates_read}
use Rattle.dw_base.specs.SectionRelocations.{is_relocation_kind, relocates, relocation_section}
use Rattle.dw_base.specs.ViewData.{is_read}
use Rattle.dw_base.specs.declared.debug_sections.DebugSection.{DebugSection}
use Rattle.dw_base.specs.declared.elf_numbers.TheConstants.{ET_REL}
use Rattle.dw_base.specs.declared.fault.Kind.TheVariants.{Fixed}
use Rattle.dw_base.specs.declared.fault.Refusal.{Refusal}
use Rattle.dw_base.specs.declared.records.Section.{Section}
use Rattle.dw_base.proofs.FileViewLaws.{length-view_of}
use Rattle.dw_base.proofs.RelocationFieldLaws.{first_below-other, first_below-passes}
use Rattle.dw_meaning.specs.FileFails.{FileFails, ReadIsLoaded}
use Rattle.dw_meaning.specs.FileFails.FileFails.{loaded, loaded_relocations}
use Rattle.dw_meaning.specs.RelocationFails.{RelocationsAreLoaded}
use Rattle.dw_meaning.proofs.FileKeptLaws.{read-some, read-section}
use Rattle.dw_view.proofs.ViewLaws.{kind_at-view_of}
use Rattle.dw_rewrite.specs.CheckedFiles.{AreUnloaded, IsHolderUnloaded, IsFilled, IsChecked, IsUnloaded}

and-true : (x y : Bool) → (x && y) ≡ true → (x ≡ true) × (y ≡ true)
and-true true y e = (refl, e)
and-true false y e = absurd cc

true-and : (x y : Bool) → x ≡ true → y ≡ true → (x && y) ≡ true
true-and true y e is = is
true-and false y e is = absurd cc

not-false : (x : Bool) → not x ≡ true → x ≡ false
not-false true e = absurd cc
not-false false e = refl

false-not : (x : Bool) → x ≡ false → not x ≡ true
false-not true e = absurd cc
false-not false e = refl

-- which section holds the relocations of another
holds-of : (b : List ℕ) (i k : ℕ) → relocation_section b i ≡ Some k → (k < section_count b) × (relocates b i k ≡ true)
unfolding relocation_section
holds-of b i k is = first_below-passes (relocates b i) (section_count b) k is

holds-none : (b : List ℕ) (i k : ℕ) → relocation_section b i ≡ None → k < section_count b → relocates b i k ≡ false
unfolding relocation_section
holds-none b i k none lt = first_below-other (relocates b i) (section_count b) k none lt

info-is : (b : List ℕ) (i k : ℕ) → relocates b i k ≡ true → (nth_section b k).info ≡ i
unfolding relocates
info-is b i k says =
    eqb-true (nth_section b k).info i
    (and-true (e_type b == ET_REL && is_relocation_kind (nth_section b k)) ((nth_section b k).info == i) says).1

-- one of a section that is read and has bytes, where it is loaded
relocates-read : (b : List ℕ) (i k : ℕ) → i < section_count b → IsFilled b i → relocates b i k ≡ true → relocates_read b k ≡ true
unfolding relocates_read
relocates-read b i k lt filled says =
    let info : (nth_section b k).info ≡ i = info-is b i k says in
    subst (λ (n : ℕ). (relocates b n k && is_read_section b n) ≡ true) (sym info)
    (true-and (relocates b i k) (is_read_section b i) says (read-section b i lt filled.read))

holder-loaded : (b : List ℕ) (i k : ℕ) → i < section_count b → IsFilled b i → relocation_section b i ≡ Some k → is_alloc (nth_section b k) ≡ true
    → RelocationsAreLoaded b k
holder-loaded b i k lt filled is alloc =
    let says : relocates b i k ≡ true = (holds-of b i k is).1 in
    record {
      relocates = relocates-read b i k lt filled says;
      bytes = ap (λ (n : ℕ). is_empty_kind (nth_section b n)) (info-is b i k says) ∙ filled.bytes;
      alloc = alloc;
    }

pub in-sources : (b s : List ℕ) (i : ℕ) → s ≡ b → i < section_count b → i < section_count s
in-sources b s i same lt = subst (λ (x : List ℕ). i < section_count x) (sym same) lt

pub holder-inside : (b s : List ℕ) (i k : ℕ) (o : Option ℕ) → s ≡ b → o ≡ relocation_section s i → o ≡ Some k → k < section_count b
holder-inside b s i k o same is some = (holds-of b i k (ap (λ (x : List ℕ). relocation_section x i) (sym same) ∙ sym is ∙ some)).0

pub holder-refused : (b s : List ℕ) (i k : ℕ) (o : Option ℕ) (x : Section) (t : Bool) (r : Refusal) → ElfReads b → s ≡ b → i < section_count b → IsFilled b i
    → o ≡ relocation_section s i → o ≡ Some k → x ≡ nth_section b k → t ≡ is_alloc x → t ≡ true → r ≡ at Fixed k 0 → FileFails b r
holder-refused b s i k o x t r reads same lt filled is some x_is t_is yes_ r_is =
    let held : relocation_section b i ≡ Some k = ap (λ (y : List ℕ). relocation_section y i) (sym same) ∙ sym is ∙ some in
    subst (FileFails b) (sym r_is)
    (loaded_relocations k reads (holds-of b i k held).0
    (holder-loaded b i k lt filled held (ap (λ (y : Section). is_alloc y) (sym x_is) ∙ sym t_is ∙ yes_)))

pub holder-none : (b s : List ℕ) (i : ℕ) (o : Option ℕ) → s ≡ b → o ≡ relocation_section s i → o ≡ None → IsHolderUnloaded b i
holder-none b s i o same is none = record {
  unloaded = λ k held. let clash : None ≡ Some k = sym none ∙ is ∙ ap (λ (y : List ℕ). relocation_section y i) same ∙ held in absurd cc;
}

pub holder-kept : (b s : List ℕ) (i k : ℕ) (o : Option ℕ) (x : Section) (t : Bool) → s ≡ b → o ≡ relocation_section s i → o ≡ Some k → x ≡ nth_section b k
    → t ≡ is_alloc x → t ≡ false → IsHolderUnloaded b i
holder-kept b s i k o x t same is some x_is t_is no_ = record {
  unloaded = λ j held.
      (let one : Some k ≡ Some j = sym some ∙ is ∙ ap (λ (y : List ℕ). relocation_section y i) same ∙ held in
      let here : k ≡ j = cc in
      ap (λ (n : ℕ). is_alloc (nth_section b n)) (sym here) ∙ ap (λ (y : Section). is_alloc y) (sym x_is) ∙ sym t_is ∙ no_);
}

pub ruleset holder_laws = (in-sources, holder-inside, holder-refused, holder-none, holder-kept)

-- what is read is what has a name of debug data
pub named-read : (o : Option DebugSection) (t : Bool) → t ≡ is_some o → t ≡ is_read o
named-read o t is = is ∙ sym (read-some o)

pub ruleset read_laws = (named-read)

-- which section a number is
kind_is : (b : List ℕ) (v : View) (i : ℕ) (o : Option DebugSection) → v ≡ view_of b → i < section_count b → o ≡ kind_at v i → o ≡ debug_section (section_name b i)
kind_is b v i o v_is lt is = is ∙ ap (λ (w : View). kind_at w i) v_is ∙ kind_at-view_of b i lt

-- it is read, and has bytes,
pub filled-is : (b : List ℕ) (v : View) (i : ℕ) (o : Option DebugSection) (s : Section) (t : Bool) → v ≡ view_of b → i < section_count b → o ≡ kind_at v i
    → s ≡ nth_section b i → t ≡ (is_read o && not (is_empty_kind s)) → t ≡ true → IsFilled b i
filled-is b v i o s t v_is lt o_is s_is t_is yes_ =
    let parts = and-true (is_read o) (not (is_empty_kind s)) (sym t_is ∙ yes_) in
    record {
      read = ap is_read (sym (kind_is b v i o v_is lt o_is)) ∙ parts.0;
      bytes = ap (λ (x : Section). is_empty_kind x) (sym s_is) ∙ not-false (is_empty_kind s) parts.1;
    }

-- and is loaded,
pub section-refused : (b : List ℕ) (v : View) (i : ℕ) (o : Option DebugSection) (s : Section) (t u : Bool) (r : Refusal) → ElfReads b → v ≡ view_of b
    → i < section_count b → o ≡ kind_at v i → s ≡ nth_section b i → t ≡ (is_read o && not (is_empty_kind s)) → t ≡ true → u ≡ is_alloc s → u ≡ true
    → r ≡ at Fixed i 0 → FileFails b r
section-refused b v i o s t u r reads v_is lt o_is s_is t_is yes_ u_is alloc r_is =
    let filled : IsFilled b i = filled-is b v i o s t v_is lt o_is s_is t_is yes_ in
    subst (FileFails b) (sym r_is) (loaded i reads lt (record {
      read = filled.read;
      bytes = filled.bytes;
      alloc = ap (λ (x : Section). is_alloc x) (sym s_is) ∙ sym u_is ∙ alloc;
    }))

-- or isn't; or it isn't read, or has none
pub section-kept : (b : List ℕ) (i : ℕ) (s : Section) (u : Bool) → s ≡ nth_section b i → u ≡ is_alloc s → u ≡ false → IsHolderUnloaded b i → IsUnloaded b i
section-kept b i s u s_is u_is no_ holder = record {
  unloaded = λ l. true≢false (sym l.alloc ∙ ap (λ (x : Section). is_alloc x) (sym s_is) ∙ sym u_is ∙ no_);
  holder = λ filled. holder;
}

pub section-unfilled : (b : List ℕ) (v : View) (i : ℕ) (o : Option DebugSection) (s : Section) (t : Bool) → v ≡ view_of b → i < section_count b → o ≡ kind_at v i
    → s ≡ nth_section b i → t ≡ (is_read o && not (is_empty_kind s)) → t ≡ false → IsUnloaded b i
section-unfilled b v i o s t v_is lt o_is s_is t_is no_ = record {
  unloaded = λ l. absurd (clash (record { read = l.read; bytes = l.bytes }));
  holder = λ filled. absurd (clash filled);
}
  where
    clash : IsFilled b i → ⊥
    clash f =
        true≢false (sym (true-and (is_read o) (not (is_empty_kind s)) (ap is_read (kind_is b v i o v_is lt o_is) ∙ f.read)
        (false-not (is_empty_kind s) (ap (λ (x : Section). is_empty_kind x) s_is ∙ f.bytes))) ∙ sym t_is ∙ no_)

pub within_view : (b : List ℕ) (v : View) (i : ℕ) → v ≡ view_of b → i < section_count b → i < length v.sections
within_view b v i v_is lt =
    let same : length v.sections ≡ section_count b = ap (λ (w : View). length w.sections) v_is ∙ length-view_of b in
    omega (arith, same)

pub ruleset section_laws = (within_view, filled-is)

-- the sections below a number are not loaded, where they are read
pub record UnloadedBelow (b : List ℕ) (n : ℕ) : Type 0 where
  pub each : (i : ℕ) → i < n → IsUnloaded b i

pub below_start : (b : List ℕ) → UnloadedBelow b 0
below_start b = record { each = λ i lt. absurd (omega arith) }

pub below_more : (b : List ℕ) (n : ℕ) → UnloadedBelow b n → IsUnloaded b n → UnloadedBelow b (n + 1)
below_more b n below here = record {
  each = λ i lt. elim (cases_lt i n) [
    | inl less ↦ below.each i less
    | inr past ↦
        let same : n ≡ i = omega arith in
        subst (IsUnloaded b) same here
  ];
}

pub below_end : (b : List ℕ) (n : ℕ) → section_count b ≤ n → UnloadedBelow b n → AreUnloaded b
below_end b n end below = record { each = λ i lt. below.each i (omega arith) }

-- no section of a file that was checked is loaded, where it is read
pub unloaded : (b : List ℕ) → IsChecked b → (i : ℕ) → i < section_count b → ReadIsLoaded b i → ⊥
unloaded b j i lt l = (j.fits.each i lt).unloaded l

-- or holds relocations of one that is: no two hold those of one section
read-there : (b : List ℕ) (i : ℕ) → is_read_section b i ≡ true → (i < section_count b) × (is_read (debug_section (section_name b i)) ≡ true)
read-there b i read =
    let parts = and-true (nat_lt i (section_count b)) (is_some (debug_section (section_name b i))) read in
    (ltb-true i (section_count b) parts.0, read-some (debug_section (section_name b i)) ∙ parts.1)

only-holder : (b : List ℕ) (i j k : ℕ) → RelocationSectionsRead (contents_of b) b → is_read_section b i ≡ true → j < section_count b → k < section_count b
    → relocates b i j ≡ true → relocates b i k ≡ true → j ≡ k
only-holder b i j k relocations read j_lt k_lt first second = elim (cases_lt j k) [
  | inl below ↦ absurd ((relocations.all i read).single j k below k_lt first second)
  | inr above ↦ elim (cases_lt k j) [
    | inl below ↦ absurd ((relocations.all i read).single k j below j_lt second first)
    | inr past ↦ omega arith
  ]
]

holder-of : (b : List ℕ) (i k : ℕ) → RelocationSectionsRead (contents_of b) b → is_read_section b i ≡ true → k < section_count b → relocates b i k ≡ true
    → relocation_section b i ≡ Some k
holder-of b i k relocations read lt says = by_found (relocation_section b i) refl
  where
    by_found : (o : Option ℕ) → relocation_section b i ≡ o → relocation_section b i ≡ Some k
    by_found None is = absurd (true≢false (sym says ∙ holds-none b i k is lt))
    by_found (Some j) is =
        let held = holds-of b i j is in
        is ∙ ap (λ (n : ℕ). Some n) (only-holder b i j k relocations read held.0 lt held.1 says)

pub relocations-unloaded : (b : List ℕ) → IsChecked b → (k : ℕ) → k < section_count b → RelocationsAreLoaded b k → ⊥
unfolding relocates_read
relocations-unloaded b j k lt l =
    let parts = and-true (relocates b (nth_section b k).info k) (is_read_section b (nth_section b k).info) l.relocates in
    let there = read-there b (nth_section b k).info parts.1 in
    let fits : IsUnloaded b (nth_section b k).info = j.fits.each (nth_section b k).info there.0 in
    true≢false (sym l.alloc ∙ (fits.holder (record { read = there.1; bytes = l.bytes })).unloaded k (holder-of b (nth_section b k).info k j.relocations parts.1 lt parts.0))

-- what was found part by part is all that is checked
pub checked_all : (b : List ℕ) → ElfReads b → ((n : ℕ) → slice_index b n < 256) → DebugSectionsRead b → RelocationSectionsRead (contents_of b) b → AreUnloaded b → IsChecked b
checked_all b elf bytes names relocations fits = record { elf = elf; bytes = bytes; names = names; relocations = relocations; fits = fits }
