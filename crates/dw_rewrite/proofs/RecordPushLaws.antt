-- Sections of relocations that are appended, one by one.
use Rattle.std.proofs.Common.{Bool, ◌≡◌, ℕ, suc, ◌+◌, ◌<◌, ◌≤◌, List, [], ◌∷◌, ◌++◌, length, get_or, drop, Option, Some, None, refl, sym, ap, ◌∙◌, subst, arith, append_assoc, append-nil}
use Rattle.std.specs.Prelude.{option_map}
use Rattle.std.proofs.Math.Seq.{drop-cons}
use Rattle.std.proofs.lemmas.List.{drop_all}
use Rattle.dw_base.specs.Cells.{Relocation, plain_cells}
use Rattle.dw_base.specs.Elf.{contents_of, section_count}
use Rattle.dw_base.specs.FileViews.{View, view_cells, view_of}
use Rattle.dw_base.specs.Refusals.{Blames}
use Rattle.dw_base.specs.SectionRelocations.{RelocationSource, cells_from, relocation_section, relocation_source, relocations_by, relocations_of, section_cells}
use Rattle.dw_base.specs.declared.fault.Fault.{Fault}
use Rattle.dw_base.specs.declared.fault.Fault.TheVariants.{NoMemory, Refused}
use Rattle.dw_base.proofs.FileViewLaws.{length-view_of}
use Rattle.dw_base.proofs.PlainCellLaws.{IsPlain, plain_cells-plain}
use Rattle.dw_base.proofs.RelocationFieldLaws.{relocation_at-plain}
use Rattle.dw_base.proofs.SectionRelocationLaws.{cells_from-none}
use Rattle.dw_base.proofs.ViewCellLaws.{view_cells-view_of}
use Rattle.dw_base.specs.declared.debug_sections.DebugSection.TheVariants.{Str, LineStr, Line}
use Rattle.dw_offsets.specs.declared.fields.OffsetField.{OffsetField}
use Rattle.dw_base.specs.declared.texts.TextSection.TheVariants.{InStr, InLineStr}
use Rattle.dw_unit_fields.specs.SectionFields.{SectionFields, fields_into}
use Rattle.dw_unit_fields.specs.ViewFields.{HasPlaces}
use Rattle.dw_meaning.specs.DataOutput.{Body}
use Rattle.dw_meaning.specs.NewAddends.{Makes}
use Rattle.dw_patch.specs.RecordMoves.{PlacesFit, moved_table}
use Rattle.elf_layout.specs.declared.patch.Patch.{Patch}
use Rattle.dw_rewrite.specs.Changes.{FieldSource, offset_at}
use Rattle.dw_rewrite.specs.NewOffsets.{AllPlacesFit, offsets_in, record_body, records_known}
use Rattle.dw_rewrite.specs.NewTables.{source_in, starts_in}
use Rattle.dw_rewrite.specs.OffsetAddends.{AllMake, AllMiss, FieldMakes, FieldsMake, SectionMakes, SectionMisses}
use Rattle.dw_rewrite.specs.OffsetAddends.AllMiss.{one_section}
use Rattle.dw_view.specs.Firsts.{held_source}

-- a section is one of the file's
own-there : (b : List ℕ) (v : View) (u : SectionFields) → HasPlaces v u → v ≡ view_of b → u.number < section_count b
own-there b v u h v_is =
    let same : length v.sections ≡ section_count b = ap (λ (w : View). length w.sections) v_is ∙ length-view_of b in
    omega (arith, h.there, same)

pub section-there : (b : List ℕ) (v : View) (u : SectionFields) (n : ℕ) → n ≡ u.number → HasPlaces v u → v ≡ view_of b → n < section_count b
section-there b v u n is h v_is = let own : u.number < section_count b = own-there b v u h v_is in omega (arith, is, own)

-- none holds its relocations, or one does
abbrev number_or : Option (ℕ × RelocationSource) → ℕ
number_or None = 0
number_or (Some p) = p.0

abbrev source_or : RelocationSource → Option (ℕ × RelocationSource) → RelocationSource
source_or d None = d
source_or d (Some p) = p.1

pub held-by : (b : List ℕ) (o : Option ℕ) (k : ℕ) (g : RelocationSource) → ◌≡◌ {A = Option (ℕ × RelocationSource)} (Some (k, g)) (option_map (held_source b) o) → (o ≡ Some k) × (g ≡ relocation_source (contents_of b) b k)
held-by b None k g e = absurd cc
held-by b (Some n) k g e =
    let same : n ≡ k = sym (ap number_or e) in
    (ap (λ (i : ℕ). Some i) same, ap (source_or g) e ∙ ap (λ (i : ℕ). relocation_source (contents_of b) b i) same)

pub none-by : (b : List ℕ) (o : Option ℕ) → ◌≡◌ {A = Option (ℕ × RelocationSource)} None (option_map (held_source b) o) → o ≡ None
none-by b None e = refl
none-by b (Some n) e = absurd cc

-- its places fit
pub places-fit : (b : List ℕ) (n i k : ℕ) (g : RelocationSource) (o : Option (ℕ × RelocationSource)) → n ≡ i → n < section_count b → AllPlacesFit b → o ≡ option_map (held_source b) (relocation_section b n)
    → ◌≡◌ {A = Option (ℕ × RelocationSource)} o (Some (k, g)) → PlacesFit g []
places-fit b n i k g o is lt fit held some =
    let own = held-by b (relocation_section b n) k g (sym some ∙ held) in
    subst (λ (s : RelocationSource). PlacesFit s []) (sym own.1) (fit.each n k lt own.0)

-- it is appended
pub one-pushed : (b : List ℕ) (told : List Patch) (n i k : ℕ) (g : RelocationSource) (o : Option (ℕ × RelocationSource)) (old new : List Body) (body : Body) → n ≡ i
    → o ≡ option_map (held_source b) (relocation_section b n) → ◌≡◌ {A = Option (ℕ × RelocationSource)} o (Some (k, g)) → body ≡ record { number = k; bytes = moved_table g [] told } → new ≡ old ++ body ∷ []
    → new ≡ old ++ record_body b told (relocation_section b i)
one-pushed b told n i k g o old new body is held some made e =
    let own = held-by b (relocation_section b n) k g (sym some ∙ held) in
    e ∙ ap (λ (x : Body). old ++ x ∷ []) (made ∙ ap (λ (s : RelocationSource). record { number = k; bytes = moved_table s [] told }) own.1)
    ∙ ap (λ (x : Option ℕ). old ++ record_body b told x) (sym own.0 ∙ ap (relocation_section b) is)

pub none-pushed : (b : List ℕ) (told : List Patch) (n i : ℕ) (o : Option (ℕ × RelocationSource)) (old : List Body) → n ≡ i → o ≡ option_map (held_source b) (relocation_section b n)
    → o ≡ None → old ≡ old ++ record_body b told (relocation_section b i)
none-pushed b told n i o old is held none =
    sym (append-nil old) ∙ ap (λ (x : Option ℕ). old ++ record_body b told x) (sym (none-by b (relocation_section b n) (sym none ∙ held)) ∙ ap (relocation_section b) is)

-- where none holds its relocations no addend is asked
fields-plain : (s : FieldSource) (known : Bool → ℕ → Option ℕ) (fs : List OffsetField) → IsPlain s.cells → FieldsMake s known fs
fields-plain s known [] plain = tt
fields-plain s known (f ∷ fs) plain = (by (known f.path (offset_at s f)), fields-plain s known fs plain)
  where
    by : (o : Option ℕ) → FieldMakes s f o
    by None = tt
    by (Some new) = subst (λ (r : Option Relocation). Makes r f.size new) (sym (relocation_at-plain s.cells f.at plain)) tt

cells-plain : (b : List ℕ) (i : ℕ) → i < section_count b → relocation_section b i ≡ None → IsPlain (view_cells (view_of b) i)
unfolding section_cells relocations_of
cells-plain b i lt none =
    let cells : view_cells (view_of b) i ≡ plain_cells (contents_of b i) =
    view_cells-view_of b i lt ∙ ap (λ (o : Option ℕ). cells_from (relocations_by (contents_of b) b o) 0 (contents_of b i)) none ∙ cells_from-none 0 (contents_of b i) in
    subst IsPlain (sym cells) (plain_cells-plain (contents_of b i))

pub none-makes : (b : List ℕ) (v : View) (ks kl kt : Bool → ℕ → Option ℕ) (u : SectionFields) (n : ℕ) (o : Option (ℕ × RelocationSource)) → n ≡ u.number → HasPlaces v u → v ≡ view_of b
    → o ≡ option_map (held_source b) (relocation_section b n) → o ≡ None → SectionMakes v ks kl kt u
none-makes b v ks kl kt u n o is h v_is held none =
    let own : relocation_section b u.number ≡ None = ap (relocation_section b) (sym is) ∙ none-by b (relocation_section b n) (sym none ∙ held) in
    let plain : IsPlain (view_cells v u.number) =
    subst (λ (w : View). IsPlain (view_cells w u.number)) (sym v_is) (cells-plain b u.number (own-there b v u h v_is) own) in
    record {
      str = fields-plain (source_in v u.number InStr) ks (fields_into u Str) plain;
      line_str = fields-plain (source_in v u.number InLineStr) kl (fields_into u LineStr) plain;
      starts = fields-plain (starts_in v u.number) kt (fields_into u Line) plain;
    }

pub ruleset one_rules = (section-there, places-fit, one-pushed, none-pushed, none-makes)

-- the sections up to one are appended, and their addends make the offsets
pub record RecordPass (b : List ℕ) (v : View) (ks kl kt : Bool → ℕ → Option ℕ) (us : List SectionFields) (front bodies : List Body) (i : ℕ) : Type 0 where
  pub list : bodies ++ records_known b v ks kl kt (drop i us) ≡ front ++ records_known b v ks kl kt us
  pub made : AllMake v ks kl kt (drop i us) → AllMake v ks kl kt us

pub records-start : (b : List ℕ) (v : View) (ks kl kt : Bool → ℕ → Option ℕ) (us : List SectionFields) (front : List Body) → RecordPass b v ks kl kt us front front 0
records-start b v ks kl kt us front = record { list = refl; made = λ h. h }

-- one more
pub records-step : (b : List ℕ) (v : View) (ks kl kt : Bool → ℕ → Option ℕ) (us : List SectionFields) (i : ℕ) (u : SectionFields) (bodies new front : List Body) → i < length us → u ≡ get_or us i u
    → RecordPass b v ks kl kt us front bodies i → new ≡ bodies ++ record_body b (offsets_in v ks kl kt u) (relocation_section b u.number) → SectionMakes v ks kl kt u
    → RecordPass b v ks kl kt us front new (i + 1)
records-step b v ks kl kt us i u bodies new front lt is before same makes =
    let next : suc i ≡ i + 1 = omega arith in
    let cut : drop i us ≡ u ∷ drop (i + 1) us =
    drop-cons us i u lt ∙ ap (λ (n : ℕ). get_or us i u ∷ drop n us) next ∙ ap (λ (y : SectionFields). y ∷ drop (i + 1) us) (sym is) in
    record {
      list = ap (λ (bs : List Body). bs ++ records_known b v ks kl kt (drop (i + 1) us)) same
          ∙ append_assoc bodies (record_body b (offsets_in v ks kl kt u) (relocation_section b u.number)) (records_known b v ks kl kt (drop (i + 1) us))
          ∙ sym (ap (λ (xs : List SectionFields). bodies ++ records_known b v ks kl kt xs) cut) ∙ before.list;
      made = λ h. before.made (subst (AllMake v ks kl kt) (sym cut) (makes, h));
    }

pub records-end : (b : List ℕ) (v : View) (ks kl kt : Bool → ℕ → Option ℕ) (us : List SectionFields) (i : ℕ) (bodies front : List Body) → RecordPass b v ks kl kt us front bodies i → length us ≤ i
    → bodies ≡ front ++ records_known b v ks kl kt us
records-end b v ks kl kt us i bodies front p end =
    sym (append-nil bodies) ∙ sym (ap (λ (xs : List SectionFields). bodies ++ records_known b v ks kl kt xs) (drop_all i us end)) ∙ p.list

pub records-made : (b : List ℕ) (v : View) (ks kl kt : Bool → ℕ → Option ℕ) (us : List SectionFields) (i : ℕ) (bodies front : List Body) → RecordPass b v ks kl kt us front bodies i → length us ≤ i
    → AllMake v ks kl kt us
records-made b v ks kl kt us i bodies front p end = p.made (subst (AllMake v ks kl kt) (sym (drop_all i us end)) tt)

-- the fault of one of them
pub records-fault : (v : View) (ks kl kt : Bool → ℕ → Option ℕ) (us : List SectionFields) (i : ℕ) (u : SectionFields) (f : Fault) → i < length us → u ≡ get_or us i u
    → Blames (SectionMisses v ks kl kt u) f → Blames (AllMiss v ks kl kt us) f
records-fault v ks kl kt us i u NoMemory lt is b = tt
records-fault v ks kl kt us i u (Refused r) lt is b = one_section i u lt is b

pub ruleset all_rules = (records-start, records-end, records-made)
