-- Laws of the bytes of a build-id: whether they belong to something else.
use Rattle.std.proofs.Common.{◌≡◌, ◌≢◌, ℕ, ◌+◌, ◌*◌, ◌<◌, ◌≤◌, ◌==◌, true, false, not, List, length, sym, ap, ◌∙◌, arith, subst, inl, inr}
use Rattle.std.proofs.lemmas.Bool.{cases_lt, and_parts, not-true}
use Rattle.dw_base.specs.Elf.{class_of, ehdr_size, phdr_size, e_phoff, e_phnum, nth_section, section_count, is_empty_kind}
use Rattle.dw_base.specs.ElfFails.{DebugReads}
use Rattle.dw_base.specs.Notes.{Descriptor}
use Rattle.dw_base.specs.Refusals.{at}
use Rattle.dw_base.specs.declared.fault.Kind.TheVariants.{BuildId}
use Rattle.dw_base.specs.declared.fault.Refusal.{Refusal}
use Rattle.dw_base.specs.declared.records.Section.{Section}
use Rattle.dw_base.proofs.ElfLaws.{ehdr_size-least}
use Rattle.elf_file.proofs.ElfFileLaws.{section-lies}
use Rattle.elf_file.proofs.FixedLaws.{whole-header, segment_table-lies}
use Rattle.build_ident.specs.IdFails.{id_place, overlap, has_bytes, shares, IdFails, IsId, IsOwn, IsShared}
use Rattle.build_ident.specs.IdFails.IdFails.{header, segments, section}
use Rattle.build_ident.specs.Searches.{NoneShared}

pub ruleset header_rules = (whole-header, ehdr_size-least)

pub ruleset segment_rules = (segment_table-lies)

-- a section that has bytes lies in the file
zero-other : (n : ℕ) → not (n == 0) ≡ true → n ≢ 0
zero-other n e none = grind (arith, e, none)

pub bytes-lie : (b : List ℕ) (i : ℕ) (s : Section) → DebugReads b → i < section_count b → s ≡ nth_section b i → has_bytes s ≡ true → s.offset + s.size ≤ length b
bytes-lie b i s reads lt s_is has =
    let parts = and_parts (not (is_empty_kind s)) (not (s.size == 0)) has in
    let full : is_empty_kind (nth_section b i) ≡ false = ap (λ (x : Section). is_empty_kind x) (sym s_is) ∙ not-true (is_empty_kind s) parts.0 in
    let some : (nth_section b i).size ≢ 0 = subst (λ (x : Section). x.size ≢ 0) s_is (zero-other s.size parts.1) in
    subst (λ (x : Section). x.offset + x.size ≤ length b) (sym s_is) (section-lies b i reads lt full some)

pub ruleset lies_rules = (bytes-lie)

-- the sections, one after another
pub shared-start : (b : List ℕ) (i : ℕ) (d : Descriptor) → NoneShared b i d 0
shared-start b i d = record { none = λ j lt other. absurd (omega arith) }

pub shared-more : (b : List ℕ) (i : ℕ) (d : Descriptor) (n : ℕ) → (n ≢ i → shares b i d n ≡ false) → NoneShared b i d n → NoneShared b i d (n + 1)
shared-more b i d n here before = record {
  none = λ j lt other. elim (cases_lt j n) [
    | inl below ↦ before.none j below other
    | inr above ↦
        let same : n ≡ j = omega (arith, lt, above) in
        subst (λ (k : ℕ). shares b i d k ≡ false) same (here (λ e. other (sym same ∙ e)))
  ];
}

pub ruleset shared_rules = (shared-start, shared-more)

-- refusals
pub fails-header : (b : List ℕ) (i place : ℕ) (d : Descriptor) (r : Refusal) → IsId b i d → place ≡ id_place b i d → place < ehdr_size (class_of b)
    → r ≡ at BuildId i 0 → IdFails b r
fails-header b i place d r is place_is below r_is = subst (IdFails b) (sym r_is) (header i d is (rw place_is at below))

pub fails-segments : (b : List ℕ) (i place : ℕ) (d : Descriptor) (r : Refusal) → IsId b i d → place ≡ id_place b i d → e_phnum b ≢ 0
    → overlap place d.size (e_phoff b) (e_phnum b * phdr_size (class_of b)) ≡ true → r ≡ at BuildId i 0 → IdFails b r
fails-segments b i place d r is place_is some over r_is = subst (IdFails b) (sym r_is) (segments i d is some (rw place_is at over))

pub fails-section : (b : List ℕ) (i : ℕ) (d : Descriptor) (j : ℕ) (r : Refusal) → IsId b i d → IsShared b i d j → r ≡ at BuildId i 0 → IdFails b r
fails-section b i d j r is shared r_is = subst (IdFails b) (sym r_is) (section i d j is shared)

pub is-own : (b : List ℕ) (i place : ℕ) (d : Descriptor) → place ≡ id_place b i d → ehdr_size (class_of b) ≤ place
    → (e_phnum b ≢ 0 → overlap place d.size (e_phoff b) (e_phnum b * phdr_size (class_of b)) ≡ false) → NoneShared b i d (section_count b) → IsOwn b i d
is-own b i place d place_is above apart none = record {
  header = rw place_is at above;
  segments = rw place_is at apart;
  sections = none.none;
}

pub ruleset own_rules = (fails-header, fails-segments, fails-section, is-own)
