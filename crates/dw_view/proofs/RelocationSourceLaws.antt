-- Laws of the sections that hold relocations.
use Rattle.std.proofs.Common.{◌≡◌, ℕ, ◌<◌, ◌≤◌, ◌==◌, Bool, false, List, [], length, get_or, Option, Some, None, IfSome, sym, ap, ◌∙◌}
use Rattle.std.specs.Prelude.{option_map}
use Rattle.std.proofs.lemmas.List.{get_or_default, get_or_past}
use Rattle.dw_base.specs.Elf.{contents_of, e_type, section_count}
use Rattle.dw_base.specs.SectionRelocations.{RelocationSource, relocates, relocation_section, relocation_source}
use Rattle.dw_base.specs.declared.elf_numbers.TheConstants.{ET_REL}
use Rattle.dw_view.specs.Firsts.{AreFirsts, HoldersAre, held_source}
use Rattle.dw_view.proofs.RelocationLaws.{first_there, no-holder, rel-is}

pub holders-rel : (b : List ℕ) (holders : List (Option ℕ)) → AreFirsts (relocates b) (section_count b) (section_count b) holders → HoldersAre b holders
unfolding relocation_section
holders-rel b holders h = record { are = h.are }

pub holders-none : (b : List ℕ) (x : Bool) (holders : List (Option ℕ)) → x ≡ (e_type b == ET_REL) → x ≡ false → holders ≡ [] → HoldersAre b holders
holders-none b x holders x_is no_ none = record {
  are = λ t lt. ap (λ (l : List (Option ℕ)). get_or l t None) none ∙ sym (no-holder b t (sym x_is ∙ no_));
}

pub ruleset find_rules = (holders-rel, holders-none, rel-is)

pub holder-past : (b : List ℕ) (holders : List (Option ℕ)) (t : ℕ) → HoldersAre b holders → t < section_count b → length holders ≤ t
    → None ≡ relocation_section b t
holder-past b holders t h lt le = sym (get_or_past holders t None le) ∙ h.are t lt

pub holder-found : (b : List ℕ) (holders : List (Option ℕ)) (t : ℕ) (d o : Option ℕ) → HoldersAre b holders → t < section_count b → t < length holders
    → o ≡ get_or holders t d → o ≡ relocation_section b t
holder-found b holders t d o h lt inside is = is ∙ get_or_default holders t d None inside ∙ h.are t lt

pub inside-some : (b : List ℕ) (t : ℕ) (o : Option ℕ) → o ≡ relocation_section b t → IfSome o (λ k. k < section_count b)
inside-some b t None is = tt
inside-some b t (Some k) is = first_there b t k (sym is)

pub ruleset found_rules = (holder-past, holder-found)

pub source-some : (b : List ℕ) (t k : ℕ) (g : RelocationSource) → Some k ≡ relocation_section b t → g ≡ relocation_source (contents_of b) b k
    → ◌≡◌ {A = Option (ℕ × RelocationSource)} (Some (k, g)) (option_map (held_source b) (relocation_section b t))
source-some b t k g is g_is = by_source g g_is ∙ ap (option_map (held_source b)) is
  where
    by_source : (s : RelocationSource) → s ≡ relocation_source (contents_of b) b k → ◌≡◌ {A = Option (ℕ × RelocationSource)} (Some (k, s)) (Some (held_source b k))
    by_source s s_is = ap (λ (x : RelocationSource). let pair : ℕ × RelocationSource = (k, x) in Some pair) s_is

pub source-none : (b : List ℕ) (t : ℕ) → None ≡ relocation_section b t
    → ◌≡◌ {A = Option (ℕ × RelocationSource)} None (option_map (held_source b) (relocation_section b t))
source-none b t is = ap (option_map (held_source b)) is

pub ruleset source_rules = (source-some, source-none)
