-- A file with the sections of another that is loaded means what that means.
use Rattle.std.proofs.Common.{◌≡◌, ◌≢◌, ℕ, zero, suc, ◌<◌, ◌==◌, ◌&&◌, not, Bool, true, List, bit_and, refl, sym, ap, ◌∙◌, arith, subst}
use Rattle.std.specs.Prelude.{Option, Some, None}
use Rattle.dw_base.specs.DebugData.{DataReadings}
use Rattle.dw_base.specs.DebugSectionFails.{DebugSectionsRead, IsSecond, NameReads, is_active, repeats_by}
use Rattle.dw_base.specs.DebugSections.{debug_section, is_listed}
use Rattle.dw_base.specs.Elf.{contents_of, e_type, is_empty_kind, name_index, nth_section, order_of, section_count, section_name}
use Rattle.dw_base.specs.ElfFails.{ElfReads}
use Rattle.dw_base.specs.FileViews.{View, ViewSection, is_name_section, view_of, view_section}
use Rattle.dw_base.specs.Layout.{is_alloc, is_loaded_kind}
use Rattle.dw_base.specs.Lists.{tabulate}
use Rattle.dw_base.specs.Notes.{BuildId, build_id_at, build_id_in, build_id_of, first_below, id_in, is_id_section, or_this}
use Rattle.dw_base.specs.RelocationRows.{moving_sections}
use Rattle.dw_base.specs.RelocationSectionFails.{relocates_read}
use Rattle.dw_base.specs.SectionRelocations.{PlacedRelocation, relocations_of}
use Rattle.dw_base.specs.ViewData.{Meaning, debug_data, meaning_of}
use Rattle.dw_base.specs.declared.elf_numbers.TheConstants.{ET_REL, SHF_COMPRESSED, SHT_NULL}
use Rattle.dw_base.specs.declared.records.Section.{Section}
use Rattle.dw_base.specs.declared.shared.Order.{Order}
use Rattle.dw_base.proofs.ReadsBackLaws.{tabulate-ext}
use Rattle.dw_base.proofs.RelocationSectionLaws.{relocates_read-loaded, relocations_read-loaded}
use Rattle.dw_base.proofs.SectionRelocationLaws.{relocations_of-loaded}
use Rattle.dw_meaning.specs.DataOutput.{DataReads}
use Rattle.dw_meaning.specs.FileMeanings.{FileReads, Means}
use Rattle.dw_meaning.specs.RelocationFails.{RelocationsReadIn}
use Rattle.dw_meaning.proofs.BuildIdLaws.{first_below-found}
use Rattle.dw_meaning.proofs.DataOneLaws.{data-one}
use Rattle.dw_meaning.proofs.MeansLaws.{means-made}
use Rattle.dbg_split.proofs.SplitLoadedLaws.{build_id-is, kind-same}
use Rattle.dbg_unstrip.specs.Rejoined.{SameButOffset}

-- the file `out` has the sections of the file `b`
pub record SameSections (b out : List ℕ) : Type 0 where
  pub loaded : is_loaded_kind b ≡ true
  pub order_is : order_of out ≡ order_of b
  pub type_is : e_type out ≡ e_type b
  pub count : section_count out ≡ section_count b
  pub named : name_index out ≡ name_index b
  pub heads : (i : ℕ) → i < section_count b → SameButOffset (nth_section b i) (nth_section out i)
  pub names : (i : ℕ) → i < section_count b → section_name out i ≡ section_name b i
  pub contents : (i : ℕ) → i < section_count b → contents_of out i ≡ contents_of b i

loaded-out : (b out : List ℕ) → SameSections b out → is_loaded_kind out ≡ true
loaded-out b out w = kind-same out b w.type_is ∙ w.loaded

-- a section of the view
abbrev section_with : List ℕ → Bool → Bool → Bool → List ℕ → List PlacedRelocation → Bool → ViewSection
section_with name alloc table bytes contents relocations relocates = record {
  name = name;
  alloc = alloc;
  is_name_table = table;
  has_bytes = bytes;
  contents = contents;
  relocations = relocations;
  relocates_read = relocates;
}

section-is : (b : List ℕ) (i : ℕ) → view_section b i
    ≡ section_with (section_name b i) (is_alloc (nth_section b i)) (is_name_section b i) (not (is_empty_kind (nth_section b i))) (contents_of b i)
    (relocations_of (contents_of b) b i) (relocates_read b i)
unfolding view_section
section-is b i = refl

alloc-same : (s t : Section) → t.flags ≡ s.flags → is_alloc t ≡ is_alloc s
alloc-same s t e = rw e refl

empty-same : (s t : Section) → t.kind ≡ s.kind → is_empty_kind t ≡ is_empty_kind s
empty-same s t e = rw e refl

section-same : (b out : List ℕ) (i : ℕ) → SameSections b out → i < section_count b → view_section out i ≡ view_section b i
section-same b out i w lt =
    let head = w.heads i lt in
    let loaded = loaded-out b out w in
    let old = nth_section b i in
    let new = nth_section out i in
    section-is out i
    ∙ ap (λ (x : List ℕ). section_with x (is_alloc new) (is_name_section out i) (not (is_empty_kind new)) (contents_of out i) (relocations_of (contents_of out) out i) (relocates_read out i))
    (w.names i lt)
    ∙ ap (λ (x : Bool). section_with (section_name b i) x (is_name_section out i) (not (is_empty_kind new)) (contents_of out i) (relocations_of (contents_of out) out i) (relocates_read out i))
    (alloc-same old new head.flags)
    ∙ ap (λ (n : ℕ). section_with (section_name b i) (is_alloc old) (not (n == 0) && i == n) (not (is_empty_kind new)) (contents_of out i) (relocations_of (contents_of out) out i) (relocates_read out i))
    w.named
    ∙ ap (λ (x : Bool). section_with (section_name b i) (is_alloc old) (is_name_section b i) (not x) (contents_of out i) (relocations_of (contents_of out) out i) (relocates_read out i))
    (empty-same old new head.kind)
    ∙ ap (λ (x : List ℕ). section_with (section_name b i) (is_alloc old) (is_name_section b i) (not (is_empty_kind old)) x (relocations_of (contents_of out) out i) (relocates_read out i))
    (w.contents i lt)
    ∙ ap (λ (x : List PlacedRelocation). section_with (section_name b i) (is_alloc old) (is_name_section b i) (not (is_empty_kind old)) (contents_of b i) x (relocates_read out i))
    (relocations_of-loaded (contents_of out) out i loaded ∙ sym (relocations_of-loaded (contents_of b) b i w.loaded))
    ∙ ap (λ (x : Bool). section_with (section_name b i) (is_alloc old) (is_name_section b i) (not (is_empty_kind old)) (contents_of b i) (relocations_of (contents_of b) b i) x)
    (relocates_read-loaded out i loaded ∙ sym (relocates_read-loaded b i w.loaded))
    ∙ sym (section-is b i)

-- its build-id
first-same : (f g : ℕ → Bool) (n : ℕ) → ((i : ℕ) → i < n → f i ≡ g i) → first_below f n ≡ first_below g n
first-same f g zero same = refl
first-same f g (suc n) same =
    ap (λ (o : Option ℕ). or_this o n (f n)) (first-same f g n (λ i lt. same i (omega arith))) ∙ ap (λ (t : Bool). or_this (first_below g n) n t) (same n (omega arith))

id-section-same : (b out : List ℕ) (i : ℕ) → section_name out i ≡ section_name b i → (nth_section out i).kind ≡ (nth_section b i).kind → is_id_section out i ≡ is_id_section b i
unfolding is_id_section
id-section-same b out i name kind = rw (name, kind) refl

id-by : (b out : List ℕ) (o : Option ℕ) → SameSections b out → ((i : ℕ) → o ≡ Some i → i < section_count b) → build_id_in out o ≡ build_id_in b o
id-by b out None w there = refl
id-by b out (Some i) w there =
    ap (λ (q : Order). build_id_at i (id_in q (contents_of out i))) w.order_is
    ∙ ap (λ (xs : List ℕ). build_id_at i (id_in (order_of b) xs)) (w.contents i (there i refl))

pub id-same : (b out : List ℕ) → SameSections b out → build_id_of out ≡ build_id_of b
id-same b out w =
    let first : first_below (is_id_section out) (section_count out) ≡ first_below (is_id_section b) (section_count b) =
    ap (λ (n : ℕ). first_below (is_id_section out) n) w.count
    ∙ first-same (is_id_section out) (is_id_section b) (section_count b) (λ i lt. id-section-same b out i (w.names i lt) (w.heads i lt).kind) in
    build_id-is out
    ∙ ap (λ (o : Option ℕ). build_id_in out o) first
    ∙ id-by b out (first_below (is_id_section b) (section_count b)) w (λ i e. (first_below-found (is_id_section b) (section_count b) i e).0)
    ∙ sym (build_id-is b)

-- so it has its view
abbrev view_with : Order → List ViewSection → Option BuildId → View
view_with order sections id = record { order = order; sections = sections; id = id }

view-is : (b : List ℕ) → view_of b ≡ view_with (order_of b) (tabulate (view_section b) (section_count b)) (build_id_of b)
unfolding view_of
view-is b = refl

pub view-same : (b out : List ℕ) → SameSections b out → view_of out ≡ view_of b
view-same b out w =
    view-is out
    ∙ ap (λ (o : Order). view_with o (tabulate (view_section out) (section_count out)) (build_id_of out)) w.order_is
    ∙ ap (λ (n : ℕ). view_with (order_of b) (tabulate (view_section out) n) (build_id_of out)) w.count
    ∙ ap (λ (ss : List ViewSection). view_with (order_of b) ss (build_id_of out))
    (tabulate-ext (view_section out) (view_section b) (section_count b) (λ i lt. section-same b out i w lt))
    ∙ ap (λ (id : Option BuildId). view_with (order_of b) (tabulate (view_section b) (section_count b)) id) (id-same b out w)
    ∙ sym (view-is b)

-- its sections can be read where those can
name-reads : (b out : List ℕ) (i : ℕ) → section_name out i ≡ section_name b i → (nth_section out i).flags ≡ (nth_section b i).flags
    → NameReads (section_name b i) (nth_section b i) → NameReads (section_name out i) (nth_section out i)
name-reads b out i name flags r = subst (λ (n : List ℕ). NameReads n (nth_section out i)) (sym name) (record {
  plain = λ named. ap (λ (f : ℕ). bit_and f SHF_COMPRESSED) flags ∙ r.plain named;
  not_zdebug = r.not_zdebug;
  not_supplementary = r.not_supplementary;
  not_split = r.not_split;
  listed = r.listed;
})

active-same : (s t : Section) → t.kind ≡ s.kind → is_active t ≡ is_active s
active-same s t e = ap (λ (k : ℕ). not (k == SHT_NULL)) e

second-same : (b out : List ℕ) (i j : ℕ) → SameSections b out → i < section_count b → j < section_count b → IsSecond out i j → IsSecond b i j
second-same b out i j w i_lt j_lt second = record {
  before = second.before;
  first_active = sym (active-same (nth_section b i) (nth_section out i) (w.heads i i_lt).kind) ∙ second.first_active;
  active = sym (active-same (nth_section b j) (nth_section out j) (w.heads j j_lt).kind) ∙ second.active;
  same = sym (w.names i i_lt) ∙ second.same ∙ w.names j j_lt;
  listed = ap is_listed (sym (w.names j j_lt)) ∙ second.listed;
  single =
      ap (λ (t : ℕ). t == ET_REL && repeats_by (debug_section (section_name b j))) (sym w.type_is)
      ∙ ap (λ (x : List ℕ). e_type out == ET_REL && repeats_by (debug_section x)) (sym (w.names j j_lt)) ∙ second.single;
}

sections-read : (b out : List ℕ) → SameSections b out → name_index b ≢ 0 → name_index b < section_count b → DebugSectionsRead b → DebugSectionsRead out
sections-read b out w some there r = record {
  file_type = rw w.type_is r.file_type;
  named = λ i lt active.
      let here : i < section_count b = rw w.count at lt in
      name-reads b out i (w.names i here) (w.heads i here).flags
      (r.named i here (sym (active-same (nth_section b i) (nth_section out i) (w.heads i here).kind) ∙ active));
  once = λ i j lt second.
      let here : j < section_count b = rw w.count at lt in
      let before = second.before in
      r.once i j here (second-same b out i j w (omega arith) here second);
  apart = λ named. ap is_listed (ap (section_name out) w.named ∙ w.names (name_index b) there) ∙ r.apart some;
}

-- and it means what that means, and nothing else
pub means-same : (b out : List ℕ) (x : Meaning) → SameSections b out → ElfReads out → name_index b ≢ 0 → name_index b < section_count b → Means b x → Means out x
means-same b out x w elf some there m =
    let view = view-same b out w in
    let reads : FileReads out m.readings =
    record {
      elf = elf;
      names = sections-read b out w some there m.reads.names;
      relocations = record {
        sections = relocations_read-loaded (contents_of out) out (loaded-out b out w);
        on_data = subst (λ (v : View). RelocationsReadIn (debug_data v) (moving_sections v)) (sym view) m.reads.relocations.on_data;
      };
      data_reads = subst (λ (v : View). DataReads (debug_data v) m.readings) (sym view) m.reads.data_reads;
    } in
    means-made out m.readings x reads (ap (λ (v : View). meaning_of v m.readings) view ∙ m.says)

pub means-one : (b out : List ℕ) (x y : Meaning) → SameSections b out → Means b x → Means out y → y ≡ x
means-one b out x y w m found =
    let view = view-same b out w in
    let readings : found.readings ≡ m.readings =
    data-one (debug_data (view_of b)) found.readings m.readings (subst (λ (v : View). DataReads (debug_data v) found.readings) view found.reads.data_reads) m.reads.data_reads in
    sym found.says ∙ ap (λ (v : View). meaning_of v found.readings) view ∙ ap (λ (r : DataReadings). meaning_of (view_of b) r) readings ∙ m.says
