-- No section of a generated file is loaded.
use Rattle.std.proofs.Common.{◌≡◌, ℕ, zero, suc, ◌<◌, ◌==◌, false, not, List, sym, ap, ◌∙◌, arith}
use Rattle.std.specs.Prelude.{bit_and}
use Rattle.std.proofs.lemmas.Bool.{true≢false}
use Rattle.dw_base.specs.Elf.{nth_section, section_count}
use Rattle.dw_base.specs.Layout.{is_alloc}
use Rattle.dw_base.specs.declared.elf_numbers.TheConstants.{SHF_ALLOC}
use Rattle.dw_meaning.specs.FileFails.{ReadIsLoaded}
use Rattle.dw_meaning.specs.RelocationFails.{RelocationsAreLoaded}
use Rattle.gen_laws.proofs.FileReadLaws.{HasSections}

flags-none : (units texts lines b : List ℕ) (i : ℕ) → HasSections units texts lines b → i < 6 → (nth_section b i).flags ≡ 0
flags-none units texts lines b zero g lt = g.null_flags
flags-none units texts lines b (suc zero) g lt = g.info.flags_are
flags-none units texts lines b (suc (suc zero)) g lt = g.abbrev_.flags_are
flags-none units texts lines b (suc (suc (suc zero))) g lt = g.str.flags_are
flags-none units texts lines b (suc (suc (suc (suc zero)))) g lt = g.line.flags_are
flags-none units texts lines b (suc (suc (suc (suc (suc zero))))) g lt = g.names.flags_are
flags-none units texts lines b (suc (suc (suc (suc (suc (suc i)))))) g lt = absurd (omega arith)

pub not-alloc : (units texts lines b : List ℕ) (i : ℕ) → HasSections units texts lines b → i < section_count b → is_alloc (nth_section b i) ≡ false
not-alloc units texts lines b i g lt = ap (λ (f : ℕ). not (bit_and f SHF_ALLOC == 0)) (flags-none units texts lines b i g (rw g.count at lt))

pub none-loaded : (units texts lines b : List ℕ) (i : ℕ) → HasSections units texts lines b → i < section_count b → ReadIsLoaded b i → ⊥
none-loaded units texts lines b i g lt loaded = true≢false (sym loaded.alloc ∙ not-alloc units texts lines b i g lt)

pub none-relocations : (units texts lines b : List ℕ) (i : ℕ) → HasSections units texts lines b → i < section_count b → RelocationsAreLoaded b i → ⊥
none-relocations units texts lines b i g lt loaded = true≢false (sym loaded.alloc ∙ not-alloc units texts lines b i g lt)
