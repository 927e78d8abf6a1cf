-- What is loaded of a file is as it was in its output.
use Rattle.std.proofs.Common.{Bool, true, false, ◌≡◌, ◌≢◌, ℕ, zero, suc, ◌+◌, ◌<◌, ◌≤◌, ◌⊎◌, ◌||◌, ◌&&◌, ◌==◌, not, nat_le, List, [], ◌∷◌, length, take, slice_index, cond, sym, ap, ◌∙◌, refl, arith, inl, inr}
use Rattle.std.proofs.lemmas.Bool.{cases_lt, cases_Bool, le-leb, lt-ltb}
use Rattle.std.proofs.lemmas.Bool.Decides.{nat_tests}
use Rattle.std.proofs.lemmas.List.{get_or-take, length-take-le}
use Rattle.std.specs.Bool.{⊤}
use Rattle.std.specs.Prelude.{◌++◌, bit_and, map, filter, Option, Some, None}
use Rattle.dw_base.specs.Elf.{class_of, order_of, word_size, shoff_place, shnum_place, shstrndx_place, e_shoff, nth_section, nth_segment, section_count, segments_of, e_phnum, contents_of, contents_at, is_empty_kind}
use Rattle.dw_base.specs.Layout.{fixed_end, is_fixed, is_alloc, is_loaded_kind}
use Rattle.dw_base.specs.LayoutFails.{LiesAcross}
use Rattle.dw_base.specs.LayoutReads.{ReadsBack, is_known_kind}
use Rattle.dw_base.specs.Lists.{tabulate}
use Rattle.dw_meaning.specs.Loaded.{LoadedKept, lies_within, unless_left_out, in_section_field, in_id_at, is_alloc_number, loaded_byte, section_image, segment_image, is_load, loaded_bytes}
use Rattle.dw_base.specs.Notes.{BuildId, build_id_of, id_in}
use Rattle.dw_base.specs.declared.records.Section.{Section}
use Rattle.dw_base.specs.declared.elf_numbers.TheConstants.{SHF_ALLOC}
use Rattle.dw_base.specs.declared.records.Segment.{Segment}
use Rattle.dw_base.specs.ElfFails.{ElfReads}
use Rattle.dw_base.proofs.FixedPartLaws.{segment-fixed}
use Rattle.dw_base.proofs.LayoutLaws.{fixed_end-header, fixed_end-within}
use Rattle.dw_meaning.proofs.BuildIdLaws.{IdStands, build_id-stands}
use Rattle.dw_meaning.proofs.FileBackLaws.{known_kind}
use Rattle.dw_base.proofs.ReadsBackLaws.{tabulate-ext}
use Rattle.dw_base.proofs.WrittenLaws.{with_number-kept, shoff_place-within}

-- what is left out is left out of both, and the other bytes are the same
pub unless-same : (left : Bool) (x y : ℕ) → (left ≡ false → x ≡ y) → unless_left_out left x ≡ unless_left_out left y
unless-same true x y same = refl
unless-same false x y same = ap (λ (n : ℕ). Some n) (same refl)

or-left : (p q : Bool) → (p || q) ≡ false → p ≡ false
or-left true q h = let no : true ≡ false = h in cc
or-left false q h = refl

-- a place that isn't one of some lies before them or behind them
pub outside : (at n place : ℕ) → lies_within at n place ≡ false → (place < at) ⊎ (at + n ≤ place)
outside at n place none =
    elim (cases_lt place at) [
      | inl before ↦ inl before
      | inr past ↦
          elim (cases_lt place (at + n)) [
            | inl here ↦
                let inside : lies_within at n place ≡ true = rw (le-leb at place (omega arith), lt-ltb place (at + n) here) refl in
                let no : true ≡ false = sym inside ∙ none in
                cc
            | inr behind ↦ inr (omega arith)
          ]
    ]

pub before-none : (at n place : ℕ) → place < at → lies_within at n place ≡ false
before-none at n place lt = rw (lt-leb_false at place lt) refl
  where
    lt-leb_false : (at place : ℕ) → place < at → nat_le at place ≡ false
    lt-leb_false at place lt = grind (arith, nat_tests)

-- a byte before the fixed end, outside the place of the section headers
byte-kept : (b out : List ℕ) (bodies : ℕ → List ℕ) (place : ℕ) → ElfReads b → ReadsBack b bodies out → place < fixed_end b → in_section_field b place ≡ false
    → slice_index out place ≡ slice_index b place
byte-kept b out bodies place elf back lt none =
    let at : ℕ = shoff_place (class_of b) in
    let n : ℕ = word_size (class_of b) in
    let front : List ℕ = take (fixed_end b) b in
    let within = shoff_place-within (class_of b) in
    let header = fixed_end-header b in
    let long : length front ≡ fixed_end b = length-take-le (fixed_end b) b (fixed_end-within b elf.debug elf.segments) in
    let away : (place < at) ⊎ (at + n ≤ place) = outside at n place (or-left (lies_within at n place) (lies_within (shnum_place (class_of b)) 2 place)
    (or-left (lies_within at n place || lies_within (shnum_place (class_of b)) 2 place) (lies_within (shstrndx_place (class_of b)) 2 place) none)) in
    sym (get_or-take (fixed_end b) out place 0 lt)
    ∙ ap (λ (xs : List ℕ). slice_index xs place) back.front
    ∙ with_number-kept (order_of b) front at n (e_shoff out) place (omega arith) away
    ∙ get_or-take (fixed_end b) b place 0 lt

-- no section lies across the fixed end
abbrev pub NoneAcross : List ℕ → Type 0
NoneAcross b = (i : ℕ) → i < section_count b → LiesAcross b (nth_section b i) → ⊥

-- so one that moves began behind it
free-alloc : (l a t : Bool) → l ≡ true → (l && (a || t)) ≡ false → (a ≡ false) × (t ≡ false)
free-alloc true true t e h = let no : true ≡ false = h in cc
free-alloc true false t e h = (refl, h)
free-alloc false a t e h = let no : false ≡ true = e in cc

free-parts : (b : List ℕ) (s : Section) → is_loaded_kind b ≡ true → is_fixed b s ≡ false → (is_alloc s ≡ false) × (nat_le (s.offset + s.size) (fixed_end b) ≡ false)
unfolding is_fixed
free-parts b s kind free = free-alloc (is_loaded_kind b) (is_alloc s) (nat_le (s.offset + s.size) (fixed_end b)) kind free

past : (m n : ℕ) → nat_le m n ≡ false → n < m
past m n h = grind (arith, nat_tests)

pub moved-behind : (b : List ℕ) (i : ℕ) → is_loaded_kind b ≡ true → NoneAcross b → i < section_count b → is_empty_kind (nth_section b i) ≡ false
    → is_fixed b (nth_section b i) ≡ false → fixed_end b ≤ (nth_section b i).offset
moved-behind b i kind none lt full free =
    let s : Section = nth_section b i in
    let parts = free-parts b s kind free in
    let ends : fixed_end b < s.offset + s.size = past (s.offset + s.size) (fixed_end b) parts.1 in
    elim (cases_lt s.offset (fixed_end b)) [
      | inl begins ↦ absurd (none i lt (record { bytes = full; alloc = parts.0; begins = begins; ends = ends }))
      | inr behind ↦ omega arith
    ]

-- the build-id is left out at the same places
id_empty : (b : List ℕ) (i : ℕ) → is_empty_kind (nth_section b i) ≡ true → id_in (order_of b) (contents_of b i) ≡ None
unfolding contents_of contents_at id_in
id_empty b i empty = rw empty refl

id-full : (b : List ℕ) (id : BuildId) → IdStands b id → is_empty_kind (nth_section b id.section) ≡ false
id-full b id stands =
    elim (cases_Bool (is_empty_kind (nth_section b id.section))) [
      | inl empty ↦ let no : None ≡ Some id.descriptor = sym (id_empty b id.section empty) ∙ stands.found in cc
      | inr full ↦ full
    ]

id-places : (b out : List ℕ) (bodies : ℕ → List ℕ) (id : BuildId) (place : ℕ) → is_loaded_kind b ≡ true → NoneAcross b → ReadsBack b bodies out → IdStands b id
    → place < fixed_end b → in_id_at out (Some id) place ≡ in_id_at b (Some id) place
id-places b out bodies id place kind none back stands lt =
    let i : ℕ = id.section in
    let full : is_empty_kind (nth_section b i) ≡ false = id-full b id stands in
    elim (cases_Bool (is_fixed b (nth_section b i))) [
      | inl fixed ↦ ap (λ (s : Section). lies_within (s.offset + id.descriptor.place) id.descriptor.size place) (back.stays i stands.within fixed)
      | inr free ↦
          let new : fixed_end b ≤ (nth_section out i).offset = back.behind i stands.within full free in
          let old : fixed_end b ≤ (nth_section b i).offset = moved-behind b i kind none stands.within full free in
          before-none ((nth_section out i).offset + id.descriptor.place) id.descriptor.size place (omega arith)
          ∙ sym (before-none ((nth_section b i).offset + id.descriptor.place) id.descriptor.size place (omega arith))
    ]

ids-same : (b out : List ℕ) (bodies : ℕ → List ℕ) (place : ℕ) → is_loaded_kind b ≡ true → NoneAcross b → ReadsBack b bodies out → build_id_of out ≡ build_id_of b
    → place < fixed_end b → in_id_at out (build_id_of out) place ≡ in_id_at b (build_id_of b) place
ids-same b out bodies place kind none back same lt =
    ap (λ (id : Option BuildId). in_id_at out id place) same ∙ by_id (build_id_of b) refl
  where
    by_id : (o : Option BuildId) → build_id_of b ≡ o → in_id_at out o place ≡ in_id_at b o place
    by_id None e = refl
    by_id (Some id) e = id-places b out bodies id place kind none back (build_id-stands b id e) lt

-- so a loaded byte is as it was
loaded_byte-same : (b out : List ℕ) (bodies : ℕ → List ℕ) (place : ℕ) → ElfReads b → is_loaded_kind b ≡ true → NoneAcross b → ReadsBack b bodies out
    → build_id_of out ≡ build_id_of b → place < fixed_end b → loaded_byte out place ≡ loaded_byte b place
unfolding loaded_byte
loaded_byte-same b out bodies place elf kind none back same lt =
    let left : Bool = in_section_field b place || in_id_at b (build_id_of b) place in
    rw (back.class, ids-same b out bodies place kind none back same lt)
    (unless-same left (slice_index out place) (slice_index b place)
    (λ e. byte-kept b out bodies place elf back lt (or-left (in_section_field b place) (in_id_at b (build_id_of b) place) e)))

-- and so is the image of a segment
image-same : (b out : List ℕ) (bodies : ℕ → List ℕ) (i : ℕ) → ElfReads b → is_loaded_kind b ≡ true → NoneAcross b → ReadsBack b bodies out
    → build_id_of out ≡ build_id_of b → i < e_phnum b → segment_image out (nth_segment b i) ≡ segment_image b (nth_segment b i)
unfolding segment_image
image-same b out bodies i elf kind none back same lt =
    let s : Segment = nth_segment b i in
    tabulate-ext (λ k. loaded_byte out (s.offset + k)) (λ k. loaded_byte b (s.offset + k)) s.filesz
    (λ k below.
    let some : s.filesz ≢ 0 = λ e. omega arith in
    let ends : s.offset + s.filesz ≤ fixed_end b = segment-fixed b i kind lt some in
    loaded_byte-same b out bodies (s.offset + k) elf kind none back same (omega arith))

-- of each segment that is loaded
abbrev pub EachSegment : (Segment → Type 0) → List Segment → Type 0
EachSegment P [] = ⊤
EachSegment P (s ∷ ss) = P s × EachSegment P ss

each-push : (P : Segment → Type 0) (ss : List Segment) (s : Segment) → EachSegment P ss → P s → EachSegment P (ss ++ s ∷ [])
each-push P [] s all one = (one, tt)
each-push P (x ∷ ss) s all one = (all.0, each-push P ss s all.1 one)

pub tabulate-each : (P : Segment → Type 0) (f : ℕ → Segment) (n : ℕ) → ((i : ℕ) → i < n → P (f i)) → EachSegment P (tabulate f n)
tabulate-each P f zero each = tt
tabulate-each P f (suc n) each = each-push P (tabulate f n) (f n) (tabulate-each P f n (λ i lt. each i (omega arith))) (each n (omega arith))

pub images-same : (b out : List ℕ) (ss : List Segment) → EachSegment (λ s. segment_image out s ≡ segment_image b s) ss
    → map (segment_image out) (filter is_load ss) ≡ map (segment_image b) (filter is_load ss)
images-same b out [] each = refl
images-same b out (s ∷ ss) each = by_load (is_load s) each.0 (images-same b out ss each.1)
  where
    by_load : (t : Bool) → segment_image out s ≡ segment_image b s → map (segment_image out) (filter is_load ss) ≡ map (segment_image b) (filter is_load ss)
        → map (segment_image out) (cond t (s ∷ filter is_load ss) (filter is_load ss)) ≡ map (segment_image b) (cond t (s ∷ filter is_load ss) (filter is_load ss))
    by_load true one rest = rw (one, rest) refl
    by_load false one rest = rest

pub loaded-is : (b : List ℕ) → is_loaded_kind b ≡ true → loaded_bytes b ≡ record { segments = segments_of b; images = map (segment_image b) (filter is_load (segments_of b)) }
unfolding loaded_bytes
loaded-is b kind = rw kind refl

pub segments-are : (b : List ℕ) → segments_of b ≡ tabulate (nth_segment b) (e_phnum b)
unfolding segments_of
segments-are b = refl

-- what is loaded is kept, where the build-id stays
pub loaded-kept : (b out : List ℕ) (bodies : ℕ → List ℕ) → ElfReads b → is_loaded_kind b ≡ true → NoneAcross b → ReadsBack b bodies out
    → build_id_of out ≡ build_id_of b → LoadedKept b out
loaded-kept b out bodies elf is_loaded none back id =
    let kind : is_loaded_kind out ≡ true = rw back.kind is_loaded in
    let known : is_known_kind b ≡ true = known_kind b is_loaded in
    let each : EachSegment (λ s. segment_image out s ≡ segment_image b s) (segments_of b) =
    rw (segments-are b)
    (tabulate-each (λ s. segment_image out s ≡ segment_image b s) (nth_segment b) (e_phnum b)
    (λ i lt. image-same b out bodies i elf is_loaded none back id lt)) in
    record {
      same = loaded-is out kind
          ∙ ap (λ (ss : List Segment). record { segments = ss; images = map (segment_image out) (filter is_load ss) }) (back.segments known)
          ∙ ap (λ (is : List (List (Option ℕ))). record { segments = segments_of b; images = is }) (images-same b out (segments_of b) each)
          ∙ sym (loaded-is b is_loaded);
    }

-- what is loaded of a relocatable file: its ALLOC sections, where each has the bytes that it had
abbrev EachNumber : (ℕ → Type 0) → List ℕ → Type 0
EachNumber P [] = ⊤
EachNumber P (i ∷ is) = P i × EachNumber P is

number-push : (P : ℕ → Type 0) (is : List ℕ) (i : ℕ) → EachNumber P is → P i → EachNumber P (is ++ i ∷ [])
number-push P [] i all one = (one, tt)
number-push P (x ∷ is) i all one = (all.0, number-push P is i all.1 one)

numbers-each : (P : ℕ → Type 0) (n : ℕ) → ((i : ℕ) → i < n → P i) → EachNumber P (tabulate (λ i. i) n)
numbers-each P zero each = tt
numbers-each P (suc n) each = number-push P (tabulate (λ i. i) n) n (numbers-each P n (λ i lt. each i (omega arith))) (each n (omega arith))

record ImageStays (b out : List ℕ) (i : ℕ) : Type 0 where
  alloc : is_alloc_number out i ≡ is_alloc_number b i
  image : is_alloc_number b i ≡ true → section_image out i ≡ section_image b i

sections-same : (b out is : List ℕ) → EachNumber (ImageStays b out) is → map (section_image out) (filter (is_alloc_number out) is) ≡ map (section_image b) (filter (is_alloc_number b) is)
sections-same b out [] each = refl
sections-same b out (i ∷ is) each = by_alloc (is_alloc_number out i) (is_alloc_number b i) each.0.alloc each.0.image (sections-same b out is each.1)
  where
    by_alloc : (s t : Bool) → s ≡ t → (t ≡ true → section_image out i ≡ section_image b i)
        → map (section_image out) (filter (is_alloc_number out) is) ≡ map (section_image b) (filter (is_alloc_number b) is)
        → map (section_image out) (cond s (i ∷ filter (is_alloc_number out) is) (filter (is_alloc_number out) is))
        ≡ map (section_image b) (cond t (i ∷ filter (is_alloc_number b) is) (filter (is_alloc_number b) is))
    by_alloc true true e image rest = rw (image refl, rest) refl
    by_alloc true false e image rest = absurd cc
    by_alloc false true e image rest = absurd cc
    by_alloc false false e image rest = rest

image-stays : (b out : List ℕ) (i : ℕ) → contents_of out i ≡ contents_of b i → build_id_of out ≡ build_id_of b → section_image out i ≡ section_image b i
unfolding section_image
image-stays b out i same id = rw (same, id) refl

unloaded-is : (b : List ℕ) → is_loaded_kind b ≡ false
    → loaded_bytes b ≡ record { segments = []; images = map (section_image b) (filter (is_alloc_number b) (tabulate (λ i. i) (section_count b))) }
unfolding loaded_bytes
unloaded-is b kind = rw kind refl

pub relocatable-kept : (b out : List ℕ) (bodies : ℕ → List ℕ) → is_loaded_kind b ≡ false → ReadsBack b bodies out → build_id_of out ≡ build_id_of b
    → ((i : ℕ) → i < section_count b → is_alloc (nth_section b i) ≡ true → bodies i ≡ contents_of b i) → LoadedKept b out
relocatable-kept b out bodies unloaded back id stay =
    let kind : is_loaded_kind out ≡ false = rw back.kind unloaded in
    let each : EachNumber (ImageStays b out) (tabulate (λ i. i) (section_count b)) =
    numbers-each (ImageStays b out) (section_count b)
    (λ i lt. record {
      alloc = ap (λ (f : ℕ). not (bit_and f SHF_ALLOC == 0)) (back.heads i lt).flags;
      image = λ alloc. image-stays b out i (back.contents i lt ∙ stay i lt alloc) id;
    }) in
    record {
      same = unloaded-is out kind
          ∙ ap (λ (n : ℕ). record { segments = []; images = map (section_image out) (filter (is_alloc_number out) (tabulate (λ i. i) n)) }) back.count
          ∙ ap (λ (is : List (List (Option ℕ))). record { segments = []; images = is }) (sections-same b out (tabulate (λ i. i) (section_count b)) each)
          ∙ sym (unloaded-is b unloaded);
    }
