-- Laws of a view that was made of a file.
use Rattle.std.proofs.Common.{◌≡◌, ℕ, zero, suc, ◌<◌, true, ◌==◌, ◌||◌, List, [], ◌∷◌, length, get_or, slice_get, take, IfSome, Option, Some, None, refl, sym, ap, ◌∙◌, arith}
use Rattle.dw_base.specs.DebugSections.{debug_section, name_of}
use Rattle.dw_base.specs.DebugSectionFails.{DebugSectionsFail, DebugSectionsRead}
use Rattle.dw_base.specs.Elf.{contents_of, e_type, section_count, section_name}
use Rattle.dw_base.specs.FileViews.{View, ViewSection, kind_at, name_in, section_after, section_named, sections_named, view_of, view_section}
use Rattle.dw_base.specs.Layout.{is_loaded_kind}
use Rattle.dw_base.specs.declared.elf_numbers.TheConstants.{ET_REL}
use Rattle.dw_base.specs.Refusals.{Blames}
use Rattle.dw_base.specs.RelocationSectionFails.{RelocationSectionsFail, RelocationSectionsRead}
use Rattle.dw_base.specs.ViewFails.{ViewFails}
use Rattle.dw_base.specs.ViewFails.ViewFails.{sections, relocations}
use Rattle.dw_base.specs.declared.fault.Fault.{Fault}
use Rattle.dw_base.specs.declared.fault.Fault.TheVariants.{NoMemory, Refused}
use Rattle.dw_base.specs.declared.fault.Refusal.{Refusal}
use Rattle.dw_base.specs.declared.debug_sections.DebugSection.{DebugSection}
use Rattle.dw_base.proofs.DebugSectionFailsLaws.{debug_sections_exclude}
use Rattle.dw_base.proofs.ViewFailsLaws.{view_excludes}
use Rattle.dw_base.proofs.DebugSectionLaws.{debug_section-named}
use Rattle.dw_base.proofs.FileViewLaws.{first-named, order-view_of, length-view_of, get_or-view_of, section_bytes-view_of, section_after-within}
use Rattle.dw_view.specs.NamesFit.{NamesApart, NamesFit, NamesOnce}
use Rattle.dw_view.specs.PairViews.{pair_view}
use Rattle.dw_view.specs.SectionParts.{no_section, section_at}
use Rattle.dw_view.proofs.NameLaws.{debug_section-take}
use Rattle.dw_view.proofs.PartLaws.{contents-small, length-pair, name-by, section_at-is}

-- what was found part by part is all that is asked
pub reads-all : (b : List ℕ) → (e_type b == ET_REL || is_loaded_kind b) ≡ true → NamesFit b → NamesOnce b → NamesApart b → DebugSectionsRead b
reads-all b kind fit once apart = record {
  file_type = kind;
  named = λ i lt active. (fit.all i lt).named active;
  once = once.once;
  apart = apart.apart;
}

pub ruleset one_laws = (reads-all, debug_sections_exclude)

-- the first section of one that is read
pub first-after : (v : View) (name : List ℕ) (after : ℕ) (s : DebugSection) (found : Option ℕ) → found ≡ section_named v (name_of s) → after ≡ 0
    → debug_section name ≡ Some s → found ≡ section_after v name after
unfolding section_named
first-after v name after s found is none called =
    is ∙ ap (λ (n : List ℕ). section_after v n 0) (sym (debug_section-named name s called)) ∙ ap (section_after v name) (sym none)

pub ruleset found_laws = (first-after)

-- what was found stands above the number, and in the file
pub above-some : (v : View) (name : List ℕ) (after : ℕ) (found : Option ℕ) → found ≡ section_after v name after → IfSome found (λ i. after < i)
above-some v name after None is = tt
above-some v name after (Some i) is = (section_after-within v name after i (sym is)).0

pub there-some : (v : View) (name : List ℕ) (after : ℕ) (found : Option ℕ) → found ≡ section_after v name after
    → IfSome found (λ i. i < length v.sections)
there-some v name after None is = tt
there-some v name after (Some i) is = (section_after-within v name after i (sym is)).1

pub ruleset section_laws = (above-some)

-- the head of the list of a name is the first of it
pub first-is : (v : View) (name : List ℕ) (list : List ℕ) (found : Option ℕ) → list ≡ sections_named v name → found ≡ slice_get list 0 → found ≡ section_named v name
first-is v name list found list_is found_is = found_is ∙ ap (λ (l : List ℕ). slice_get l 0) list_is ∙ first-named v name

pub there-first : (v : View) (s : DebugSection) (found : Option ℕ) → found ≡ section_named v (name_of s) → IfSome found (λ i. i < length v.sections)
unfolding section_named
there-first v s found is = there-some v (name_of s) 0 found is

-- the name of a section of the view is the file's
name_in-get_or : (ss : List ViewSection) (i : ℕ) (d : ViewSection) → i < length ss → name_in ss i ≡ (get_or ss i d).name
name_in-get_or [] i d lt = absurd (omega arith)
name_in-get_or (s ∷ ss) zero d lt = refl
name_in-get_or (s ∷ ss) (suc i) d lt = name_in-get_or ss i d (omega arith)

kind_at-is : (v : View) (i : ℕ) → i < length v.sections → kind_at v i ≡ debug_section (section_at v i).name
unfolding kind_at section_at
kind_at-is v i lt = ap debug_section (name_in-get_or v.sections i no_section lt)

-- and its first bytes tell which it is
pub kind-front : (v : View) (front : List ℕ) (i : ℕ) (s : Option DebugSection) → i < length v.sections → front ≡ take 20 (section_at v i).name
    → s ≡ debug_section front → s ≡ kind_at v i
kind-front v front i s lt front_is is =
    is ∙ ap debug_section front_is ∙ debug_section-take (section_at v i).name ∙ sym (kind_at-is v i lt)

pub ruleset kind_laws = (kind-front)

-- of a view of one file, or of a pair
pub kind_at-view_of : (b : List ℕ) (i : ℕ) → i < section_count b → kind_at (view_of b) i ≡ debug_section (section_name b i)
unfolding view_section
kind_at-view_of b i lt =
    let size = length-view_of b in
    kind_at-is (view_of b) i (omega arith)
    ∙ ap (λ (s : ViewSection). debug_section s.name) (section_at-is (view_of b) i ∙ get_or-view_of b i no_section lt)

pub kind_at-pair : (d s : List ℕ) (i : ℕ) → i < section_count d → kind_at (pair_view d s) i ≡ debug_section (section_name d i)
kind_at-pair d s i lt =
    let size = length-pair d s in
    kind_at-is (pair_view d s) i (omega (arith, lt, size)) ∙ ap debug_section (name-by d (Some s) i lt)

-- what was read of names and of relocations is all that is asked
pub sections-fail : (b : List ℕ) (r : Refusal) → DebugSectionsFail b r → ViewFails b r
sections-fail b r f = sections f

pub relocations-fail : (b : List ℕ) (r : Refusal) → RelocationSectionsFail (contents_of b) b r → ViewFails b r
relocations-fail b r f = relocations f

pub relocations-blame : (b : List ℕ) (f : Fault) → Blames (RelocationSectionsFail (contents_of b) b) f → Blames (ViewFails b) f
relocations-blame b NoMemory h = h
relocations-blame b (Refused r) h = relocations h

pub none-fails : (b : List ℕ) (r : Refusal) → DebugSectionsRead b → RelocationSectionsRead (contents_of b) b → ViewFails b r → ⊥
none-fails b r names read f = view_excludes b r (record { sections = names; relocations = read }) f

pub ruleset read_laws = (sections-fail, relocations-fail, relocations-blame, none-fails)

pub ruleset view_laws = (order-view_of, length-view_of, section_bytes-view_of, contents-small, length-pair)
