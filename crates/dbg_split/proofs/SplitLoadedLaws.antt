-- What is loaded of a file is what is loaded of its stripped file.
use Rattle.std.proofs.Common.{◌≡◌, ◌≢◌, ℕ, zero, suc, ◌+◌, ◌*◌, ◌<◌, ◌≤◌, ◌⊎◌, ◌==◌, ◌&&◌, ◌||◌, Bool, true, false, List, slice_index, refl, sym, ap, ◌∙◌, arith, inl, inr}
use Rattle.std.proofs.lemmas.Bool.{cases_Bool}
use Rattle.std.proofs.lemmas.Bool.Decides.{nat_tests}
use Rattle.std.specs.Prelude.{map, filter, Option, Some, None}
use Rattle.dw_base.specs.Elf.{class_of, order_of, ehdr_size, phdr_size, word_size, phoff_place, phnum_place, shoff_place, shnum_place, shstrndx_place, e_type, e_phoff, e_phnum, is_empty_kind, nth_section, nth_segment, section_count, section_name, segments_of, name_index, contents_of}
use Rattle.dw_base.specs.Layout.{fixed_end, is_fixed, is_loaded_kind}
use Rattle.dw_base.specs.Lists.{tabulate}
use Rattle.dw_base.specs.Notes.{BuildId, Descriptor, build_id_at, build_id_in, build_id_of, first_below, id_in, is_id_section, or_this}
use Rattle.dw_base.specs.Numbers.{spelled}
use Rattle.dw_base.specs.SectionNames.{debug_link, note_build_id}
use Rattle.dw_base.specs.Texts.{same_text}
use Rattle.dw_base.specs.declared.elf_numbers.TheConstants.{SHT_NOTE, SHT_STRTAB}
use Rattle.dw_base.specs.declared.records.Section.{Section}
use Rattle.dw_base.specs.declared.records.Segment.{Segment}
use Rattle.dw_base.specs.declared.shared.Class.{Class}
use Rattle.dw_base.specs.declared.shared.Class.TheVariants.{C32, C64}
use Rattle.dw_base.specs.declared.shared.Order.{Order}
use Rattle.dw_base.proofs.ElfLaws.{e_shoff-some, record_place}
use Rattle.dw_base.proofs.FixedPartLaws.{segment-fixed}
use Rattle.dw_base.proofs.LayoutLaws.{fixed_end-header}
use Rattle.dw_base.proofs.NumberLaws.{spelled-ext}
use Rattle.dw_base.proofs.PartsLaws.{number_places}
use Rattle.dw_base.proofs.ReadsBackLaws.{segments-lie, tabulate-ext}
use Rattle.dw_base.proofs.RecordLaws.{segment_at-ext}
use Rattle.dw_base.proofs.TextLaws.{same_text-true}
use Rattle.dw_base.proofs.WrittenHeaders.{header_places}
use Rattle.dw_meaning.proofs.BuildIdLaws.{first_below-found}
use Rattle.dw_meaning.specs.Loaded.{LoadedKept, in_id_at, in_section_field, is_load, lies_within, loaded_byte, segment_image, unless_left_out}
use Rattle.dbg_split.specs.Droppable.{drops_along, drops_itself, is_droppable, may_drop, names_dropped, names_symbols}
use Rattle.dbg_split.specs.KeptFront.{IsOutside, KeepsFront}
use Rattle.dbg_split.specs.SplitFails.SectionBars.{across}
use Rattle.dbg_split.specs.StrippedFile.{kept_before}
use Rattle.dbg_split.specs.StrippedReads.{IsKept, ReadsStripped}
use Rattle.dbg_split.proofs.StrippedFitLaws.{IsSplit, names-there}
use Rattle.dw_meaning.proofs.LoadedLaws.{before-none, moved-behind, outside, unless-same, tabulate-each, images-same, loaded-is, segments-are, EachSegment}

-- the section of the build-id is kept: its name is none of debug data, and its type none of those that are dropped
no-self : (m s : Bool) → (m && ((false || false) || (false && s))) ≡ false
no-self true s = refl
no-self false s = refl

note-itself : (b : List ℕ) (i : ℕ) → section_name b i ≡ note_build_id → (nth_section b i).kind ≡ SHT_NOTE → drops_itself b i ≡ false
unfolding drops_itself
note-itself b i name kind = rw (name, kind) (no-self (may_drop b i) (names_symbols b i))

no-along : (m l n : Bool) → (m && (((false || false) && l) || (false && n))) ≡ false
no-along true l n = refl
no-along false l n = refl

note-along : (b : List ℕ) (i : ℕ) → (nth_section b i).kind ≡ SHT_NOTE → drops_along b i ≡ false
unfolding drops_along
note-along b i kind = rw kind (no-along (may_drop b i) (names_dropped b (nth_section b i).link) (names_dropped b (nth_section b i).info))

neither : (l x y : Bool) → x ≡ false → y ≡ false → (l && (x || y)) ≡ false
neither true x y e f = rw (e, f) refl
neither false x y e f = refl

note-kept : (b : List ℕ) (i : ℕ) → section_name b i ≡ note_build_id → (nth_section b i).kind ≡ SHT_NOTE → is_droppable b i ≡ false
unfolding is_droppable
note-kept b i name kind = neither (is_loaded_kind b) (drops_itself b i) (drops_along b i) (note-itself b i name kind) (note-along b i kind)

-- what is known of a section of the build-id
record IsNote (b : List ℕ) (i : ℕ) : Type 0 where
  pub name : section_name b i ≡ note_build_id
  pub kind : (nth_section b i).kind ≡ SHT_NOTE

and-true : (x y : Bool) → (x && y) ≡ true → (x ≡ true) × (y ≡ true)
and-true true true h = (refl, refl)
and-true true false h = let no : false ≡ true = h in cc
and-true false y h = let no : false ≡ true = h in cc

eq-is : (m n : ℕ) → (m == n) ≡ true → m ≡ n
eq-is m n h = grind (arith, nat_tests)

id-note : (b : List ℕ) (i : ℕ) → is_id_section b i ≡ true → IsNote b i
unfolding is_id_section
id-note b i is =
    let both = and-true (same_text (section_name b i) note_build_id) ((nth_section b i).kind == SHT_NOTE) is in
    record { name = same_text-true (section_name b i) note_build_id both.0; kind = eq-is (nth_section b i).kind SHT_NOTE both.1 }

-- so a dropped one isn't one
dropped-none : (b : List ℕ) (i : ℕ) → is_droppable b i ≡ true → is_id_section b i ≡ false
dropped-none b i dropped =
    elim (cases_Bool (is_id_section b i)) [
      | inl is ↦
          let note = id-note b i is in
          let kept = note-kept b i note.name note.kind in
          let no : true ≡ false = sym dropped ∙ kept in
          cc
      | inr none ↦ none
    ]

-- and a kept one is one by its new number
id-same : (out b : List ℕ) (j i : ℕ) → section_name out j ≡ section_name b i → (nth_section out j).kind ≡ (nth_section b i).kind
    → is_id_section out j ≡ is_id_section b i
unfolding is_id_section
id-same out b j i name kind = rw (name, kind) refl

link-none : (out : List ℕ) (j : ℕ) → section_name out j ≡ debug_link → is_id_section out j ≡ false
unfolding is_id_section
link-none out j name = rw name refl

-- a number by its new number
abbrev pub renumbered : List ℕ → Option ℕ → Option ℕ
renumbered b None = None
renumbered b (Some i) = Some (kept_before b i)

pub or-same : (b : List ℕ) (o : Option ℕ) (n : ℕ) (t : Bool) → or_this (renumbered b o) (kept_before b n) t ≡ renumbered b (or_this o n t)
or-same b None n true = refl
or-same b None n false = refl
or-same b (Some i) n t = refl

pub or-none : (o : Option ℕ) (n : ℕ) → or_this o n false ≡ o
or-none None n = refl
or-none (Some i) n = refl

pub next-number : (b : List ℕ) (n : ℕ) → is_droppable b n ≡ false → kept_before b (suc n) ≡ suc (kept_before b n)
next-number b n kept = rw kept (omega arith)

pub same-number : (b : List ℕ) (n : ℕ) → is_droppable b n ≡ true → kept_before b (suc n) ≡ kept_before b n
same-number b n dropped = rw dropped refl

below-same : (b name out : List ℕ) (m : ℕ) → ReadsStripped b name out → m ≤ section_count b
    → first_below (is_id_section out) (kept_before b m) ≡ renumbered b (first_below (is_id_section b) m)
below-same b name out zero r le = refl
below-same b name out (suc m) r le =
    let before = below-same b name out m r (omega arith) in
    elim (cases_Bool (is_droppable b m)) [
      | inl dropped ↦
          ap (λ (n : ℕ). first_below (is_id_section out) n) (same-number b m dropped)
          ∙ before
          ∙ ap (renumbered b)
          (sym (ap (λ (t : Bool). or_this (first_below (is_id_section b) m) m t) (dropped-none b m dropped) ∙ or-none (first_below (is_id_section b) m) m))
      | inr kept ↦
          let is : IsKept b m = record { there = omega arith; kept = kept } in
          let test : is_id_section out (kept_before b m) ≡ is_id_section b m = id-same out b (kept_before b m) m (r.names m is) (r.heads m is).kind in
          ap (λ (n : ℕ). first_below (is_id_section out) n) (next-number b m kept)
          ∙ ap (λ (o : Option ℕ). or_this o (kept_before b m) (is_id_section out (kept_before b m))) before
          ∙ ap (λ (t : Bool). or_this (renumbered b (first_below (is_id_section b) m)) (kept_before b m) t) test
          ∙ or-same b (first_below (is_id_section b) m) m (is_id_section b m)
    ]

pub all-same : (b name out : List ℕ) → ReadsStripped b name out
    → first_below (is_id_section out) (section_count out) ≡ renumbered b (first_below (is_id_section b) (section_count b))
all-same b name out r =
    let last = kept_before b (section_count b) in
    let count : section_count out ≡ suc last = r.count ∙ omega arith in
    ap (λ (n : ℕ). first_below (is_id_section out) n) count
    ∙ ap (λ (t : Bool). or_this (first_below (is_id_section out) last) last t) (link-none out last r.link_name)
    ∙ or-none (first_below (is_id_section out) last) last
    ∙ below-same b name out (section_count b) r (omega arith)

-- so the build-id lies where it lay, before the fixed end
pub note-full : (s : Section) → s.kind ≡ SHT_NOTE → is_empty_kind s ≡ false
note-full s is = rw is refl

pub old-behind : (b : List ℕ) (i : ℕ) → IsSplit b → i < section_count b → is_fixed b (nth_section b i) ≡ false → is_empty_kind (nth_section b i) ≡ false
    → fixed_end b ≤ (nth_section b i).offset
old-behind b i w lt free full = moved-behind b i w.loaded (λ j below lies. w.free j _ below (across lies)) lt full free

-- the descriptor of a section
abbrev pub at_section : List ℕ → ℕ → Descriptor → ℕ → Bool
at_section b i d place = lies_within ((nth_section b i).offset + d.place) d.size place

place-same : (b name out : List ℕ) (i : ℕ) (d : Descriptor) (place : ℕ) → IsSplit b → ReadsStripped b name out → IsKept b i → (nth_section b i).kind ≡ SHT_NOTE
    → place < fixed_end b → at_section out (kept_before b i) d place ≡ at_section b i d place
place-same b name out i d place w r is kind lt =
    let head = r.heads i is in
    let full = note-full (nth_section b i) kind in
    elim (cases_Bool (is_fixed b (nth_section b i))) [
      | inl fixed ↦ ap (λ (at : ℕ). lies_within (at + d.place) d.size place) (head.offset fixed)
      | inr free ↦
          let new = head.behind free full in
          let old = old-behind b i w is.there free full in
          before-none ((nth_section out (kept_before b i)).offset + d.place) d.size place (omega arith)
          ∙ sym (before-none ((nth_section b i).offset + d.place) d.size place (omega arith))
    ]

id-by : (b name out : List ℕ) (i : ℕ) (o : Option Descriptor) (place : ℕ) → IsSplit b → ReadsStripped b name out → IsKept b i → (nth_section b i).kind ≡ SHT_NOTE
    → place < fixed_end b → in_id_at out (build_id_at (kept_before b i) o) place ≡ in_id_at b (build_id_at i o) place
id-by b name out i None place w r is kind lt = refl
id-by b name out i (Some d) place w r is kind lt = place-same b name out i d place w r is kind lt

pub strings-differ : (s : Section) → s.kind ≡ SHT_STRTAB → s.kind ≢ SHT_NOTE
strings-differ s is e = let no : SHT_STRTAB ≡ SHT_NOTE = sym is ∙ e in omega arith

-- the contents of the section are as they were
pub id-contents : (b name out : List ℕ) (i : ℕ) → IsSplit b → ReadsStripped b name out → IsKept b i → (nth_section b i).kind ≡ SHT_NOTE
    → id_in (order_of out) (contents_of out (kept_before b i)) ≡ id_in (order_of b) (contents_of b i)
id-contents b name out i w r is kind =
    let other : i ≢ name_index b =
    λ e. strings-differ (nth_section b (name_index b)) (w.reads.debug.index.strings w.named) (ap (λ (n : ℕ). (nth_section b n).kind) (sym e) ∙ kind) in
    ap (λ (o : Order). id_in o (contents_of out (kept_before b i))) r.order_is
    ∙ ap (λ (xs : List ℕ). id_in (order_of b) xs) (r.contents i is other)

id-of : (b name out : List ℕ) (o : Option ℕ) (place : ℕ) → IsSplit b → ReadsStripped b name out
    → ((i : ℕ) → o ≡ Some i → IsKept b i × ((nth_section b i).kind ≡ SHT_NOTE)) → place < fixed_end b
    → in_id_at out (build_id_in out (renumbered b o)) place ≡ in_id_at b (build_id_in b o) place
id-of b name out None place w r found lt = refl
id-of b name out (Some i) place w r found lt =
    let is = found i refl in
    ap (λ (d : Option Descriptor). in_id_at out (build_id_at (kept_before b i) d) place) (id-contents b name out i w r is.0 is.1)
    ∙ id-by b name out i (id_in (order_of b) (contents_of b i)) place w r is.0 is.1 lt

pub id-found : (b : List ℕ) (i : ℕ) → first_below (is_id_section b) (section_count b) ≡ Some i → IsKept b i × ((nth_section b i).kind ≡ SHT_NOTE)
id-found b i e =
    let found = first_below-found (is_id_section b) (section_count b) i e in
    let note = id-note b i found.1 in
    (record { there = found.0; kept = note-kept b i note.name note.kind }, note.kind)

pub build_id-is : (b : List ℕ) → build_id_of b ≡ build_id_in b (first_below (is_id_section b) (section_count b))
unfolding build_id_of
build_id-is b = refl

ids-same : (b name out : List ℕ) (place : ℕ) → IsSplit b → ReadsStripped b name out → place < fixed_end b
    → in_id_at out (build_id_of out) place ≡ in_id_at b (build_id_of b) place
ids-same b name out place w r lt =
    let o = first_below (is_id_section b) (section_count b) in
    ap (λ (id : Option BuildId). in_id_at out id place)
    (build_id-is out ∙ ap (λ (x : Option ℕ). build_id_in out x) (all-same b name out r))
    ∙ id-of b name out o place w r (id-found b) lt
    ∙ ap (λ (id : Option BuildId). in_id_at b id place) (sym (build_id-is b))

pub or-both : (x y : Bool) → (x || y) ≡ false → (x ≡ false) × (y ≡ false)
or-both true y h = let no : true ≡ false = h in cc
or-both false y h = (refl, h)

numbers-outside : (c : Class) (place : ℕ) → (place < shnum_place c) ⊎ (shnum_place c + 2 ≤ place) → (place < shstrndx_place c) ⊎ (shstrndx_place c + 2 ≤ place)
    → (place < shnum_place c) ⊎ (ehdr_size c ≤ place)
numbers-outside c place (inl before) second = inl before
numbers-outside c place (inr past) (inl before) = let places = number_places c in absurd (omega arith)
numbers-outside c place (inr past) (inr behind) = let places = number_places c in inr (omega arith)

pub is-outside : (b : List ℕ) (place : ℕ) → in_section_field b place ≡ false → IsOutside b place
is-outside b place none =
    let c = class_of b in
    let first = or-both (lies_within (shoff_place c) (word_size c) place || lies_within (shnum_place c) 2 place) (lies_within (shstrndx_place c) 2 place) none in
    let second = or-both (lies_within (shoff_place c) (word_size c) place) (lies_within (shnum_place c) 2 place) first.0 in
    record {
      shoff = outside (shoff_place c) (word_size c) place second.0;
      numbers = numbers-outside c place (outside (shnum_place c) 2 place second.1) (outside (shstrndx_place c) 2 place first.1);
    }

pub fields-same : (out b : List ℕ) (place : ℕ) → class_of out ≡ class_of b → in_section_field out place ≡ in_section_field b place
fields-same out b place same = rw same refl

byte-same : (b name out : List ℕ) (place : ℕ) → IsSplit b → ReadsStripped b name out → KeepsFront b out → place < fixed_end b
    → loaded_byte out place ≡ loaded_byte b place
unfolding loaded_byte
byte-same b name out place w r k lt =
    let left : Bool = in_section_field b place || in_id_at b (build_id_of b) place in
    ap (λ (t : Bool). unless_left_out (t || in_id_at out (build_id_of out) place) (slice_index out place)) (fields-same out b place r.class_is)
    ∙ ap (λ (t : Bool). unless_left_out (in_section_field b place || t) (slice_index out place)) (ids-same b name out place w r lt)
    ∙ unless-same left (slice_index out place) (slice_index b place)
    (λ e. k.bytes place lt (is-outside b place (or-both (in_section_field b place) (in_id_at b (build_id_of b) place) e).0))

image-same : (b name out : List ℕ) (i : ℕ) → IsSplit b → ReadsStripped b name out → KeepsFront b out → i < e_phnum b
    → segment_image out (nth_segment b i) ≡ segment_image b (nth_segment b i)
unfolding segment_image
image-same b name out i w r k lt =
    let s : Segment = nth_segment b i in
    tabulate-ext (λ n. loaded_byte out (s.offset + n)) (λ n. loaded_byte b (s.offset + n)) s.filesz
    (λ n below.
    let some : s.filesz ≢ 0 = λ e. omega arith in
    let ends : s.offset + s.filesz ≤ fixed_end b = segment-fixed b i w.loaded lt some in
    byte-same b name out (s.offset + n) w r k (omega arith))

-- the file header and the program headers are as they were
kept-spelled : (b out : List ℕ) (q : Order) (at m : ℕ) → KeepsFront b out → at + m ≤ shnum_place (class_of b)
    → (at + m ≤ shoff_place (class_of b)) ⊎ (shoff_place (class_of b) + word_size (class_of b) ≤ at) → spelled q out at m ≡ spelled q b at m
kept-spelled b out q at m k inside (inl before) =
    let header = fixed_end-header b in
    let places = header_places (class_of b) in
    spelled-ext q out b at at m (λ n lt. k.bytes (at + n) (omega arith) (record { shoff = inl (omega arith); numbers = inl (omega arith) }))
kept-spelled b out q at m k inside (inr behind) =
    let header = fixed_end-header b in
    let places = header_places (class_of b) in
    spelled-ext q out b at at m (λ n lt. k.bytes (at + n) (omega arith) (record { shoff = inr (omega arith); numbers = inl (omega arith) }))

phnum-before : (c : Class) → phnum_place c + 2 ≤ shnum_place c
phnum-before C32 = omega arith
phnum-before C64 = omega arith

pub type-same : (b name out : List ℕ) → ReadsStripped b name out → KeepsFront b out → e_type out ≡ e_type b
unfolding e_type
type-same b name out r k =
    let places = header_places (class_of b) in
    rw r.order_is (kept-spelled b out (order_of b) 16 2 k (omega arith) (inl (omega arith)))

phnum-same : (b name out : List ℕ) → ReadsStripped b name out → KeepsFront b out → e_phnum out ≡ e_phnum b
unfolding e_phnum
phnum-same b name out r k =
    let places = header_places (class_of b) in
    rw (r.class_is, r.order_is) (kept-spelled b out (order_of b) (phnum_place (class_of b)) 2 k (phnum-before (class_of b)) (inr (omega arith)))

phoff-same : (b name out : List ℕ) → ReadsStripped b name out → KeepsFront b out → e_phoff out ≡ e_phoff b
unfolding e_phoff
phoff-same b name out r k =
    let places = header_places (class_of b) in
    rw (r.class_is, r.order_is) (kept-spelled b out (order_of b) (phoff_place (class_of b)) (word_size (class_of b)) k (omega arith) (inl (omega arith)))

segment-same : (b name out : List ℕ) (i : ℕ) → IsSplit b → ReadsStripped b name out → KeepsFront b out → i < e_phnum b
    → nth_segment out i ≡ nth_segment b i
unfolding nth_segment
segment-same b name out i w r k lt =
    let c = class_of b in
    let some : e_phnum b ≢ 0 = λ none. omega arith in
    let lie = record_place (e_phoff b) i (e_phnum b) (phdr_size c) (fixed_end b) lt (segments-lie b w.loaded some) in
    let header = w.reads.debug.shape.phoff (e_shoff-some b (name_index b) (names-there b w)) some in
    let places = header_places c in
    rw (r.class_is, r.order_is, phoff-same b name out r k)
    (segment_at-ext c (order_of b) out b (e_phoff b + i * phdr_size c) (e_phoff b + i * phdr_size c)
    (λ n inside. k.bytes (e_phoff b + i * phdr_size c + n) (omega arith) (record { shoff = inr (omega arith); numbers = inr (omega arith) })))

segments-same : (b name out : List ℕ) → IsSplit b → ReadsStripped b name out → KeepsFront b out → segments_of out ≡ segments_of b
unfolding segments_of
segments-same b name out w r k =
    ap (λ (n : ℕ). tabulate (nth_segment out) n) (phnum-same b name out r k)
    ∙ tabulate-ext (nth_segment out) (nth_segment b) (e_phnum b) (λ i lt. segment-same b name out i w r k lt)

pub kind-same : (out b : List ℕ) → e_type out ≡ e_type b → is_loaded_kind out ≡ is_loaded_kind b
kind-same out b same = rw same refl

pub loaded-kept : (b name out : List ℕ) → IsSplit b → ReadsStripped b name out → KeepsFront b out → LoadedKept b out
loaded-kept b name out w r k =
    let loaded : is_loaded_kind out ≡ true = kind-same out b (type-same b name out r k) ∙ w.loaded in
    let each : EachSegment (λ s. segment_image out s ≡ segment_image b s) (segments_of b) =
    rw (segments-are b)
    (tabulate-each (λ s. segment_image out s ≡ segment_image b s) (nth_segment b) (e_phnum b) (λ i lt. image-same b name out i w r k lt)) in
    record {
      same = loaded-is out loaded
          ∙ ap (λ (ss : List Segment). record { segments = ss; images = map (segment_image out) (filter is_load ss) }) (segments-same b name out w r k)
          ∙ ap (λ (is : List (List (Option ℕ))). record { segments = segments_of b; images = is }) (images-same b out (segments_of b) each)
          ∙ sym (loaded-is b w.loaded);
    }
