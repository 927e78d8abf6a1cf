-- A file that no row refuses is one that is split, and its two files read back.
use Rattle.std.proofs.Common.{◌≡◌, ◌≢◌, ℕ, ◌<◌, ◌≤◌, true, false, List, length, slice_index, sym, ap, ◌∙◌, inl, inr, subst}
use Rattle.std.proofs.lemmas.Bool.{cases_lt, cases_Bool}
use Rattle.dw_base.specs.Elf.{contents_of, e_type, name_index, nth_section}
use Rattle.dw_base.specs.ElfFails.{ElfReads}
use Rattle.dw_base.specs.Layout.{is_fixed, is_loaded_kind, output_limit}
use Rattle.dw_base.specs.LayoutFails.TooLong.{long}
use Rattle.dw_base.specs.declared.fault.Refusal.{Refusal}
use Rattle.dw_base.specs.Texts.{has_nul}
use Rattle.dw_base.proofs.RelocationSectionLaws.{relocations_read-loaded}
use Rattle.dbg_split.specs.DebugFile.{debug_file}
use Rattle.dbg_split.specs.DebugFileReads.{ReadsDebug}
use Rattle.dw_meaning.specs.Loaded.{LoadedKept}
use Rattle.dw_view.specs.Pairs.{IsPaired}
use Rattle.dbg_split.specs.KeptFront.{KeepsFront}
use Rattle.dbg_split.specs.PairMeanings.{MeansAsOne, ReadApart}
use Rattle.dbg_split.specs.PairViews.{JoinsTo}
use Rattle.dbg_split.specs.SplitFails.{SplitFails}
use Rattle.dbg_split.specs.SplitFails.SplitFails.{long_debug, long_stripped, shape}
use Rattle.dbg_split.specs.SplitFails.Unsplittable.{file_type, names_stay, section, unnamed}
use Rattle.dbg_split.specs.StrippedFile.{stripped_file}
use Rattle.dbg_split.specs.StrippedReads.{ReadsStripped}
use Rattle.dbg_split.proofs.DebugReadLaws.{debug-reads, debug-type}
use Rattle.dbg_split.proofs.JoinLaws.{IsPair, debug-loaded, pair-joins}
use Rattle.dbg_split.proofs.PairMeaningLaws.{means-as-one}
use Rattle.dbg_split.proofs.PairReadLaws.{debug-sections, is-paired, stripped-sections}
use Rattle.dbg_split.proofs.SplitLoadedLaws.{kind-same, loaded-kept, type-same}
use Rattle.dbg_split.proofs.StrippedFitLaws.{IsSplit}
use Rattle.dbg_split.proofs.StrippedReadLaws.{stripped-reads}

-- no row holds
abbrev pub NoneFails : List ℕ → List ℕ → Type 0
NoneFails b name = (r : Refusal) → SplitFails b name r → ⊥

named-some : (b name : List ℕ) → ElfReads b → NoneFails b name → name_index b ≢ 0
named-some b name reads none zero = none _ (shape reads (unnamed zero))

kind-loaded : (b name : List ℕ) → ElfReads b → NoneFails b name → is_loaded_kind b ≡ true
kind-loaded b name reads none = elim (cases_Bool (is_loaded_kind b)) [
  | inl loaded ↦ loaded
  | inr other ↦ absurd (none _ (shape reads (file_type other)))
]

names-move : (b name : List ℕ) → ElfReads b → NoneFails b name → is_fixed b (nth_section b (name_index b)) ≡ false
names-move b name reads none = elim (cases_Bool (is_fixed b (nth_section b (name_index b)))) [
  | inl fixed ↦ absurd (none _ (shape reads (names_stay (named-some b name reads none) fixed)))
  | inr free ↦ free
]

pub split-of : (b name : List ℕ) → length b ≤ output_limit → ElfReads b → ((k : ℕ) → slice_index b k < 256) → NoneFails b name → IsSplit b
split-of b name small reads bytes none = record {
  reads = reads;
  small = small;
  loaded = kind-loaded b name reads none;
  named = named-some b name reads none;
  moves = names-move b name reads none;
  free = λ i r lt bars. none r (shape reads (section i lt bars));
  bytes = bytes;
}

stripped-short : (b name : List ℕ) → ElfReads b → NoneFails b name → length (stripped_file b name) ≤ output_limit
stripped-short b name reads none = elim (cases_lt output_limit (length (stripped_file b name))) [
  | inl passes ↦ absurd (none _ (long_stripped reads (long passes)))
  | inr small ↦ small
]

pub stripped-back : (b name out : List ℕ) → length b ≤ output_limit → ElfReads b → ((k : ℕ) → slice_index b k < 256) → NoneFails b name
    → out ≡ stripped_file b name → ReadsStripped b name out
stripped-back b name out small reads bytes none is =
    subst (λ (f : List ℕ). ReadsStripped b name f) (sym is) (stripped-reads b name (split-of b name small reads bytes none) (stripped-short b name reads none))

debug-short : (b name : List ℕ) → ElfReads b → NoneFails b name → length (debug_file b) ≤ output_limit
debug-short b name reads none = elim (cases_lt output_limit (length (debug_file b))) [
  | inl passes ↦ absurd (none _ (long_debug reads (long passes)))
  | inr small ↦ small
]

pub debug-back : (b name out : List ℕ) → length b ≤ output_limit → ElfReads b → ((k : ℕ) → slice_index b k < 256) → NoneFails b name
    → out ≡ debug_file b → ReadsDebug b out
debug-back b name out small reads bytes none is =
    subst (λ (f : List ℕ). ReadsDebug b f) (sym is) (debug-reads b (split-of b name small reads bytes none) (debug-short b name reads none))

pub loaded-back : (b name out : List ℕ) → length b ≤ output_limit → ElfReads b → ((k : ℕ) → slice_index b k < 256) → NoneFails b name
    → KeepsFront b out → out ≡ stripped_file b name → LoadedKept b out
loaded-back b name out small reads bytes none front is =
    loaded-kept b name out (split-of b name small reads bytes none) (stripped-back b name out small reads bytes none is) front

pair-of : (b name d s : List ℕ) → length b ≤ output_limit → ElfReads b → ((k : ℕ) → slice_index b k < 256) → NoneFails b name
    → d ≡ debug_file b → s ≡ stripped_file b name → IsPair b name d s
pair-of b name d s small reads bytes none d_is s_is = record {
  split = split-of b name small reads bytes none;
  debug = debug-back b name d small reads bytes none d_is;
  debug_type = ap e_type d_is ∙ debug-type b (split-of b name small reads bytes none) (debug-short b name reads none);
  stripped = stripped-back b name s small reads bytes none s_is;
}

pub joins-back : (b name d s : List ℕ) → length b ≤ output_limit → ElfReads b → ((k : ℕ) → slice_index b k < 256) → NoneFails b name
    → d ≡ debug_file b → s ≡ stripped_file b name → JoinsTo b d s
joins-back b name d s small reads bytes none d_is s_is = pair-joins b name d s (pair-of b name d s small reads bytes none d_is s_is)

pub means-back : (b name d s : List ℕ) → length b ≤ output_limit → ElfReads b → ((k : ℕ) → slice_index b k < 256) → NoneFails b name
    → d ≡ debug_file b → s ≡ stripped_file b name → MeansAsOne b d s
means-back b name d s small reads bytes none d_is s_is = means-as-one b name d s (pair-of b name d s small reads bytes none d_is s_is)

pub paired-back : (b name d s : List ℕ) → length b ≤ output_limit → ElfReads b → ((k : ℕ) → slice_index b k < 256) → NoneFails b name
    → d ≡ debug_file b → s ≡ stripped_file b name → has_nul name ≡ false → IsPaired s d name
paired-back b name d s small reads bytes none d_is s_is plain = is-paired b name d s (pair-of b name d s small reads bytes none d_is s_is) d_is plain

pub reads-back : (b name d s : List ℕ) → length b ≤ output_limit → ElfReads b → ((k : ℕ) → slice_index b k < 256) → NoneFails b name
    → KeepsFront b s → d ≡ debug_file b → s ≡ stripped_file b name → ReadApart b d s
reads-back b name d s small reads bytes none front d_is s_is =
    let p = pair-of b name d s small reads bytes none d_is s_is in
    let type = type-same b name s p.stripped front in
    record {
      debug_reads = λ r. (record {
        sections = debug-sections b name d s p p.debug_type r.sections;
        relocations = relocations_read-loaded (contents_of d) d (debug-loaded b name d s p);
      });
      stripped_reads = λ r. (record {
        sections = stripped-sections b name d s p type r.sections;
        relocations = relocations_read-loaded (contents_of s) s (kind-same s b type ∙ p.split.loaded);
      });
    }
