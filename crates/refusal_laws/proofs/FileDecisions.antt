-- The parts of a file can be read, each by itself, or a condition holds that refuses the file.
use Rattle.std.proofs.Common.{true, false, ◌≡◌, ◌⊎◌, inl, inr, ℕ, ◌<◌, List, [], ◌∷◌, ◌++◌, refl, sym, ◌∙◌, append_assoc}
use Rattle.std.proofs.lemmas.Bool.{cases_Bool}
use Rattle.dw_base.specs.Cells.{CellSection}
use Rattle.dw_base.specs.DebugSections.{debug_section}
use Rattle.dw_base.specs.Elf.{contents_of, is_empty_kind, nth_section, section_count, section_name}
use Rattle.dw_base.specs.ElfFails.{ElfReads}
use Rattle.dw_base.specs.FileViews.{View, view_of}
use Rattle.dw_base.specs.Layout.{is_alloc}
use Rattle.dw_base.specs.Refusals.{at}
use Rattle.dw_base.specs.RelocationSectionFails.{relocates_read}
use Rattle.dw_base.specs.ViewData.{is_read, string_offsets}
use Rattle.dw_base.specs.declared.debug_sections.DebugSection.TheVariants.{Macro}
use Rattle.dw_base.specs.declared.fault.Kind.TheVariants.{Fixed}
use Rattle.dw_meaning.specs.FileFails.{FileFails, ReadIsLoaded, elf, lines, loaded, loaded_relocations, macros, relocations, sections, string_tables, units}
use Rattle.dw_meaning.specs.FileMeanings.{file_data}
use Rattle.dw_meaning.specs.RelocationFails.{RelocationsAreLoaded}
use Rattle.dw_meaning.specs.RelocationFails.RelocationsFail.{sections as section_relocations}
use Rattle.refusal_laws.specs.Decided.{Decided, taken}
use Rattle.refusal_laws.specs.Readable.{HasMacroUnits, HasParts}
use Rattle.refusal_laws.proofs.ContributionDecisions.{contributions-decided}
use Rattle.refusal_laws.proofs.DataDecisions.{data-decided}
use Rattle.refusal_laws.proofs.Decisions.{clash, decided-against, decided-among, decided-both, decided-by}
use Rattle.refusal_laws.proofs.ElfDecisions.{elf-decided}
use Rattle.refusal_laws.proofs.LineDecisions.{lines-decided}
use Rattle.refusal_laws.proofs.ListDecisions.{Each, decided-all, decided-pair, each-among}
use Rattle.refusal_laws.proofs.MacroDecisions.{macros-decided}
use Rattle.refusal_laws.proofs.RelocationDecisions.{relocations-handled}
use Rattle.refusal_laws.proofs.SectionDecisions.{sections-handled}

-- ### What is loaded

read-known : (b : List ℕ) (i : ℕ) → ReadIsLoaded b i ⊎ (ReadIsLoaded b i → ⊥)
read-known b i = by (cases_Bool (is_read (debug_section (section_name b i)))) (cases_Bool (is_empty_kind (nth_section b i))) (cases_Bool (is_alloc (nth_section b i)))
  where
    by : (is_read (debug_section (section_name b i)) ≡ true) ⊎ (is_read (debug_section (section_name b i)) ≡ false)
        → (is_empty_kind (nth_section b i) ≡ true) ⊎ (is_empty_kind (nth_section b i) ≡ false)
        → (is_alloc (nth_section b i) ≡ true) ⊎ (is_alloc (nth_section b i) ≡ false) → ReadIsLoaded b i ⊎ (ReadIsLoaded b i → ⊥)
    by (inr other) e a = inr (λ (x : ReadIsLoaded b i). clash x.read other)
    by (inl read) (inl empty) a = inr (λ (x : ReadIsLoaded b i). clash empty x.bytes)
    by (inl read) (inr bytes) (inr off) = inr (λ (x : ReadIsLoaded b i). clash x.alloc off)
    by (inl read) (inr bytes) (inl on) = inl (record { read = read; bytes = bytes; alloc = on })

relocations-known : (b : List ℕ) (i : ℕ) → RelocationsAreLoaded b i ⊎ (RelocationsAreLoaded b i → ⊥)
relocations-known b i =
    by (cases_Bool (relocates_read b i)) (cases_Bool (is_empty_kind (nth_section b (nth_section b i).info))) (cases_Bool (is_alloc (nth_section b i)))
  where
    by : (relocates_read b i ≡ true) ⊎ (relocates_read b i ≡ false)
        → (is_empty_kind (nth_section b (nth_section b i).info) ≡ true) ⊎ (is_empty_kind (nth_section b (nth_section b i).info) ≡ false)
        → (is_alloc (nth_section b i) ≡ true) ⊎ (is_alloc (nth_section b i) ≡ false) → RelocationsAreLoaded b i ⊎ (RelocationsAreLoaded b i → ⊥)
    by (inr other) e a = inr (λ (x : RelocationsAreLoaded b i). clash x.relocates other)
    by (inl read) (inl empty) a = inr (λ (x : RelocationsAreLoaded b i). clash empty x.bytes)
    by (inl read) (inr bytes) (inr off) = inr (λ (x : RelocationsAreLoaded b i). clash x.alloc off)
    by (inl read) (inr bytes) (inl on) = inl (record { relocates = read; bytes = bytes; alloc = on })

unloaded-decided : (b : List ℕ) → ElfReads b → Decided ((i : ℕ) → i < section_count b → ReadIsLoaded b i → ⊥) (FileFails b)
unloaded-decided b reads =
    decided-all {P = λ (i : ℕ). ReadIsLoaded b i → ⊥} {F = FileFails b} (section_count b)
    (λ i lt. decided-against (read-known b i) (at Fixed i 0) (λ x. loaded i reads lt x))

relocations_unloaded-decided : (b : List ℕ) → ElfReads b → Decided ((i : ℕ) → i < section_count b → RelocationsAreLoaded b i → ⊥) (FileFails b)
relocations_unloaded-decided b reads =
    decided-all {P = λ (i : ℕ). RelocationsAreLoaded b i → ⊥} {F = FileFails b} (section_count b)
    (λ i lt. decided-against (relocations-known b i) (at Fixed i 0) (λ x. loaded_relocations i reads lt x))

-- ### Macro units of all sections

abbrev MacrosAt : View → CellSection → Type 0
MacrosAt v z = HasMacroUnits v z.number

macros-from : (b : List ℕ) (front zs : List CellSection) → ElfReads b → (file_data b).found Macro ≡ front ++ zs → Decided (Each (MacrosAt (view_of b)) zs) (FileFails b)
macros-from b front [] reads e = taken tt
macros-from b front (z ∷ zs) reads e =
    decided-pair (decided-among (λ r f. macros z front zs reads e f) (macros-decided (view_of b) z.number))
    (macros-from b (front ++ z ∷ []) zs reads (e ∙ sym (append_assoc front (z ∷ []) zs)))

-- ### All parts

pub parts-decided : (b : List ℕ) → Decided (HasParts b) (FileFails b)
parts-decided b =
    decided-by (λ p. record {
      elf = p.first;
      names = p.second.first;
      relocations = p.second.second.first;
      unloaded = p.second.second.second.first;
      relocations_unloaded = p.second.second.second.second.first;
      units = p.second.second.second.second.second.first;
      offsets = p.second.second.second.second.second.second.first;
      lines = p.second.second.second.second.second.second.second.first;
      macros = λ before behind z e. each-among (MacrosAt (view_of b)) ((file_data b).found Macro) z (record { before = before; behind = behind; is = e }) p.second.second.second.second.second.second.second.second;
    })
    (decided-both (decided-among (λ r f. elf f) (elf-decided b)) (λ reads.
    decided-both (decided-among (λ r f. sections reads f) (sections-handled b)) (λ s.
    decided-both (decided-among (λ r f. relocations reads (section_relocations f)) (relocations-handled (contents_of b) b)) (λ t.
    decided-both (unloaded-decided b reads) (λ u.
    decided-both (relocations_unloaded-decided b reads) (λ w.
    decided-both (decided-among (λ r f. units reads f) (data-decided (file_data b))) (λ d.
    decided-both (decided-among (λ r f. string_tables reads f) (contributions-decided (view_of b).order (string_offsets (view_of b)))) (λ o.
    decided-both (decided-among (λ r f. lines reads f) (lines-decided (file_data b))) (λ l.
    macros-from b [] ((file_data b).found Macro) reads refl)))))))))
