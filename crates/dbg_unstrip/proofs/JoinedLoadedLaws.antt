-- What is loaded of the joined file of a split is what is loaded of the file.
use Rattle.std.proofs.Common.{◌≡◌, ◌≢◌, ℕ, ◌+◌, ◌<◌, ◌≤◌, ◌==◌, ◌||◌, Bool, true, false, List, length, slice_index, refl, sym, ap, ◌∙◌, arith, inl, inr}
use Rattle.std.proofs.lemmas.Bool.{cases_lt, cases_Bool}
use Rattle.std.specs.Prelude.{map, filter, Option, Some, None}
use Rattle.dw_base.specs.Elf.{class_of, order_of, contents_of, e_phnum, name_index, nth_section, nth_segment, section_count, segments_of}
use Rattle.dw_base.specs.Layout.{fixed_end, is_fixed, is_loaded_kind}
use Rattle.dw_base.specs.Notes.{BuildId, Descriptor, build_id_at, build_id_in, build_id_of, first_below, id_in, is_id_section}
use Rattle.dw_base.specs.declared.elf_numbers.TheConstants.{SHT_NOTE, SHT_NULL}
use Rattle.dw_base.specs.declared.records.Section.{Section}
use Rattle.dw_base.specs.declared.records.Segment.{Segment}
use Rattle.dw_base.proofs.ElfLaws.{e_shoff-some}
use Rattle.dw_base.proofs.FixedPartLaws.{segment-fixed}
use Rattle.dw_base.proofs.LayoutLaws.{laid_tabulate-longer}
use Rattle.dw_base.proofs.ReadsBackLaws.{tabulate-ext}
use Rattle.dw_base.proofs.WrittenContents.{new_head-moves}
use Rattle.dw_meaning.specs.Loaded.{LoadedKept, in_id_at, in_section_field, is_load, lies_within, loaded_byte, segment_image, unless_left_out}
use Rattle.dw_meaning.proofs.LoadedLaws.{EachSegment, before-none, images-same, loaded-is, segments-are, tabulate-each, unless-same}
use Rattle.dbg_split.specs.StrippedFile.{kept_before}
use Rattle.dbg_split.specs.StrippedReads.{IsKept}
use Rattle.dbg_split.proofs.LaidLaws.{before_of, nth-is}
use Rattle.dbg_split.proofs.SplitLoadedLaws.{at_section, build_id-is, fields-same, id-found, is-outside, kind-same, note-full, old-behind, or-both, strings-differ}
use Rattle.dbg_split.proofs.StrippedFitLaws.{names-there}
use Rattle.dbg_unstrip.specs.Joined.{joined_front, joined_part, partner_number, stays}
use Rattle.dbg_unstrip.specs.Matching.{is_kept}
use Rattle.dbg_unstrip.proofs.FixedAgainLaws.{fixed-kept, fixed_end-same}
use Rattle.dbg_unstrip.proofs.JoinedBackLaws.{same-front, segments-same, stay-of, type-same}
use Rattle.dbg_unstrip.proofs.JoinedLaws.{front-long}
use Rattle.dbg_unstrip.proofs.JoinedReadLaws.{AreJoined, laid-of, lt-debug, out_of, stays-is, within}
use Rattle.dbg_unstrip.proofs.JoinedViewLaws.{SameSections, id-same}
use Rattle.dbg_unstrip.proofs.KeptAgainLaws.{is-kept, partner-kept}

-- a section that stays in the file stays in the joined file
eq-false : (m n : ℕ) → m ≢ n → (m == n) ≡ false
eq-false m n h = grind arith

stays-true : (s d : List ℕ) (i j : ℕ) → is_kept d i ≡ true → i ≢ name_index d → partner_number s d i ≡ j → is_fixed s (nth_section s j) ≡ true → stays s d i ≡ true
unfolding stays
stays-true s d i j kept other partner fixed = rw (kept, eq-false i (name_index d) other, partner) fixed

-- one that moves stands behind what stays
moved-behind : (b name d s : List ℕ) (i : ℕ) → AreJoined b name d s → i < section_count b → (joined_part s d i).moves ≡ true → fixed_end s ≤ (nth_section (out_of s d) i).offset
moved-behind b name d s i j lt moves =
    let longer = laid_tabulate-longer (joined_front s d) (joined_part s d) 0 i (omega arith) in
    let front = front-long s d (within b name d s j) in
    let head = ap (λ (h : Section). h.offset)
    (nth-is (class_of s) (order_of s) (joined_front s d) (joined_part s d) (section_count d) i (laid-of b name d s j) (lt-debug b name d s i j lt)
    ∙ new_head-moves (length (before_of (joined_front s d) (joined_part s d) i)) (joined_part s d i) moves) in
    omega arith

-- the section of the build-id
record IsIdPlace (b name d s : List ℕ) (i : ℕ) : Type 0 where
  pub some : 0 < i
  pub kept : IsKept b i
  pub kind : (nth_section b i).kind ≡ SHT_NOTE
  pub other : i ≢ name_index b

id-place : (b name d s : List ℕ) (i : ℕ) → AreJoined b name d s → IsKept b i → (nth_section b i).kind ≡ SHT_NOTE → IsIdPlace b name d s i
id-place b name d s i j is kind =
    let w = j.of.pair.split in
    record {
      some =
          elim (cases_lt 0 i) [
            | inl later ↦ later
            | inr first ↦
                let e : i ≡ 0 = omega arith in
                let null : (nth_section b 0).kind ≡ SHT_NULL = w.reads.debug.index.null (e_shoff-some b (name_index b) (names-there b w)) in
                let no : SHT_NOTE ≡ SHT_NULL = sym kind ∙ ap (λ (n : ℕ). (nth_section b n).kind) e ∙ null in
                absurd (omega arith)
          ];
      kept = is;
      kind = kind;
      other = λ e. strings-differ (nth_section b (name_index b)) (w.reads.debug.index.strings w.named) (ap (λ (n : ℕ). (nth_section b n).kind) (sym e) ∙ kind);
    }

place-same : (b name d s : List ℕ) (i : ℕ) (e : Descriptor) (place : ℕ) → AreJoined b name d s → IsIdPlace b name d s i → place < fixed_end b
    → at_section (out_of s d) i e place ≡ at_section b i e place
place-same b name d s i e place j at lt =
    let full = note-full (nth_section b i) at.kind in
    let there = at.kept.there in
    let head = j.of.pair.stripped.heads i at.kept in
    elim (cases_Bool (is_fixed b (nth_section b i))) [
      | inl fixed ↦
          let stay = stays-true s d i (kept_before b i) (is-kept b name d s i j.of.pair at.some at.kept) (λ q. at.other (q ∙ j.of.pair.debug.named))
          (partner-kept b name d s i j.of.pair at.some at.kept) (fixed-kept b name d s i j.of at.some at.kept fixed) in
          let st = stays-is b name d s i j there stay in
          ap (λ (n : ℕ). lies_within (n + e.place) e.size place) (st.offset ∙ head.offset fixed)
      | inr free ↦
          let old = old-behind b i j.of.pair.split there free full in
          let end = fixed_end-same b name d s j.of in
          let new : fixed_end b ≤ (nth_section (out_of s d) i).offset =
          elim (cases_Bool (joined_part s d i).moves) [
            | inl moves ↦ omega (arith, end, moved-behind b name d s i j there moves)
            | inr still ↦
                let st = stay-of b name d s i j there full still in
                omega (arith, st.offset, head.behind free full)
          ] in
          before-none ((nth_section (out_of s d) i).offset + e.place) e.size place (omega arith)
          ∙ sym (before-none ((nth_section b i).offset + e.place) e.size place (omega arith))
    ]

id-by : (b name d s : List ℕ) (i : ℕ) (o : Option Descriptor) (place : ℕ) → AreJoined b name d s → IsIdPlace b name d s i → place < fixed_end b
    → in_id_at (out_of s d) (build_id_at i o) place ≡ in_id_at b (build_id_at i o) place
id-by b name d s i None place j at lt = refl
id-by b name d s i (Some e) place j at lt = place-same b name d s i e place j at lt

id-of : (b name d s : List ℕ) (o : Option ℕ) (place : ℕ) → AreJoined b name d s → ((i : ℕ) → o ≡ Some i → IsKept b i × ((nth_section b i).kind ≡ SHT_NOTE)) → place < fixed_end b
    → in_id_at (out_of s d) (build_id_in b o) place ≡ in_id_at b (build_id_in b o) place
id-of b name d s None place j found lt = refl
id-of b name d s (Some i) place j found lt =
    let is = found i refl in
    id-by b name d s i (id_in (order_of b) (contents_of b i)) place j (id-place b name d s i j is.0 is.1) lt

ids-same : (b name d s : List ℕ) (place : ℕ) → AreJoined b name d s → SameSections b (out_of s d) → place < fixed_end b
    → in_id_at (out_of s d) (build_id_of (out_of s d)) place ≡ in_id_at b (build_id_of b) place
ids-same b name d s place j w lt =
    ap (λ (id : Option BuildId). in_id_at (out_of s d) id place) (id-same b (out_of s d) w ∙ build_id-is b)
    ∙ id-of b name d s (first_below (is_id_section b) (section_count b)) place j (id-found b) lt
    ∙ ap (λ (id : Option BuildId). in_id_at b id place) (sym (build_id-is b))

-- a byte that isn't left out is as it was
byte-same : (b name d s : List ℕ) (place : ℕ) → AreJoined b name d s → SameSections b (out_of s d) → place < fixed_end b
    → loaded_byte (out_of s d) place ≡ loaded_byte b place
unfolding loaded_byte
byte-same b name d s place j w lt =
    let out = out_of s d in
    let front = same-front b name d s j in
    let left : Bool = in_section_field b place || in_id_at b (build_id_of b) place in
    ap (λ (t : Bool). unless_left_out (t || in_id_at out (build_id_of out) place) (slice_index out place)) (fields-same out b place front.class_is)
    ∙ ap (λ (t : Bool). unless_left_out (in_section_field b place || t) (slice_index out place)) (ids-same b name d s place j w lt)
    ∙ unless-same left (slice_index out place) (slice_index b place)
    (λ e. front.front.bytes place lt (is-outside b place (or-both (in_section_field b place) (in_id_at b (build_id_of b) place) e).0))

image-same : (b name d s : List ℕ) (i : ℕ) → AreJoined b name d s → SameSections b (out_of s d) → i < e_phnum b
    → segment_image (out_of s d) (nth_segment b i) ≡ segment_image b (nth_segment b i)
unfolding segment_image
image-same b name d s i j w lt =
    let g : Segment = nth_segment b i in
    tabulate-ext (λ n. loaded_byte (out_of s d) (g.offset + n)) (λ n. loaded_byte b (g.offset + n)) g.filesz
    (λ n below.
    let some : g.filesz ≢ 0 = λ e. omega arith in
    let ends : g.offset + g.filesz ≤ fixed_end b = segment-fixed b i w.loaded lt some in
    byte-same b name d s (g.offset + n) j w (omega arith))

pub loaded-same : (b name d s : List ℕ) → AreJoined b name d s → SameSections b (out_of s d) → LoadedKept b (out_of s d)
loaded-same b name d s j w =
    let out = out_of s d in
    let front = same-front b name d s j in
    let loaded : is_loaded_kind out ≡ true = kind-same out b (type-same b out front) ∙ w.loaded in
    let each : EachSegment (λ g. segment_image out g ≡ segment_image b g) (segments_of b) =
    rw (segments-are b)
    (tabulate-each (λ g. segment_image out g ≡ segment_image b g) (nth_segment b) (e_phnum b) (λ i lt. image-same b name d s i j w lt)) in
    record {
      same = loaded-is out loaded
          ∙ ap (λ (gs : List Segment). record { segments = gs; images = map (segment_image out) (filter is_load gs) }) (segments-same b out front j.of.pair.split)
          ∙ ap (λ (is : List (List (Option ℕ))). record { segments = segments_of b; images = is }) (images-same b out (segments_of b) each)
          ∙ sym (loaded-is b w.loaded);
    }
