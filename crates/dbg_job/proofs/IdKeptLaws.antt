-- Where nothing is wrong with the build-id of a file, nothing is wrong with that of its output: the note is the same, and the output's
-- sections share no bytes that those of the file don't share.
use Rattle.std.proofs.Common.{Bool, true, false, ◌≡◌, ◌≢◌, ◌⊎◌, inl, inr, ℕ, zero, suc, ◌+◌, ◌*◌, ◌<◌, ◌≤◌, ◌==◌, ◌&&◌, ◌||◌, not, nat_lt, List, length, take, drop, Option, Some, sym, ap, ◌∙◌, refl, subst, arith}
use Rattle.std.proofs.lemmas.Bool.{cases_Bool, cases_lt, eqb-true}
use Rattle.std.proofs.lemmas.Bool.Decides.{nat_tests}
use Rattle.std.proofs.lemmas.List.{length-take}
use Rattle.dw_base.specs.DebugSectionFails.{DebugSectionsRead}
use Rattle.dw_base.specs.Elf.{class_of, contents_at, contents_of, e_phnum, e_phoff, e_type, ehdr_size, is_empty_kind, nth_section, order_of, phdr_size, section_count, section_name}
use Rattle.dw_base.specs.ElfFails.{ElfReads}
use Rattle.dw_base.specs.Layout.{fixed_end, is_fixed, is_loaded_kind, with_bodies}
use Rattle.dw_base.specs.Notes.{Descriptor, first_below, id_in, is_id_section, or_this}
use Rattle.dw_base.specs.Paths.{PathMap}
use Rattle.dw_base.specs.RelocationSectionFails.{relocates_read}
use Rattle.dw_base.specs.declared.elf_numbers.TheConstants.{ET_REL, SHT_NOTE, SHT_REL, SHT_RELA}
use Rattle.dw_base.specs.declared.fault.Refusal.{Refusal}
use Rattle.dw_base.specs.DebugSections.{debug_section}
use Rattle.dw_base.specs.SectionNames.{note_build_id}
use Rattle.dw_base.specs.Texts.{same_text}
use Rattle.dw_base.specs.declared.records.Section.{Section}
use Rattle.dw_base.specs.declared.shared.Class.{Class}
use Rattle.dw_base.specs.declared.shared.Order.{Order}
use Rattle.dw_base.proofs.TextLaws.{same_text-true}
use Rattle.dw_base.proofs.ReadsBackLaws.{segments-lie}
use Rattle.dw_base.proofs.WrittenContents.{contents-empty, contents-full, empty-same}
use Rattle.dw_base.proofs.WrittenHeaders.{e_phnum-same, e_phoff-same}
use Rattle.dw_base.proofs.WrittenLaws.{IsWritten}
use Rattle.dw_base.proofs.LayoutLaws.{fixed_end-header}
use Rattle.dw_meaning.proofs.BuildIdLaws.{first_below-found}
use Rattle.dw_meaning.proofs.FileBackLaws.{Back, is_read_name, plain-holder, section_name-back}
use Rattle.dw_meaning.proofs.LayoutRowLaws.{layout_excludes}
use Rattle.build_ident.specs.IdFails.{IdFails, IsId, has_bytes, id_place, id_section, overlap}
use Rattle.build_ident.specs.IdFails.IdFails.{unfit, header, segments, section}
use Rattle.dbg_job.specs.NewIds.{IdFits}
use Rattle.dbg_job.proofs.NoteKeptLaws.{id_in-inside}
use Rattle.dbg_job.specs.EditedFiles.{IsMapped}
use Rattle.dbg_job.proofs.OutputLaws.{bodies_of, output-back, output-fits, output-is, output-none}
use Rattle.dbg_job.proofs.PlaceLaws.{Moves, before-fixed, moves-to, one-behind, stays-at, stays-before}

-- ### The note is the same

and-left : (p q : Bool) → (p && q) ≡ true → p ≡ true
and-left true q h = refl
and-left false q h = cc

and-right : (p q : Bool) → (p && q) ≡ true → q ≡ true
and-right true q h = h
and-right false q h = cc

first-same : (f g : ℕ → Bool) (n : ℕ) → ((i : ℕ) → i < n → f i ≡ g i) → first_below f n ≡ first_below g n
first-same f g zero same = refl
first-same f g (suc n) same =
    ap (λ (o : Option ℕ). or_this o n (f n)) (first-same f g n (λ i lt. same i (omega arith)))
    ∙ ap (or_this (first_below g n) n) (same n (omega arith))

is_id-same : (b out : List ℕ) (bodies : ℕ → List ℕ) (i : ℕ) → Back b bodies out → i < section_count b → is_id_section out i ≡ is_id_section b i
unfolding is_id_section
is_id-same b out bodies i k lt = rw (section_name-back b bodies out i k lt, (k.back.heads i lt).kind) refl

pub section-same : (b out : List ℕ) (bodies : ℕ → List ℕ) → Back b bodies out → id_section out ≡ id_section b
unfolding id_section
section-same b out bodies k =
    ap (λ (n : ℕ). first_below (is_id_section out) n) k.back.count
    ∙ first-same (is_id_section out) (is_id_section b) (section_count b) (λ i lt. is_id-same b out bodies i k lt)

-- the section of the note is there, isn't read, and so keeps its contents
section-found : (b : List ℕ) (i : ℕ) → id_section b ≡ Some i → (i < section_count b) × (is_id_section b i ≡ true)
unfolding id_section
section-found b i e = first_below-found (is_id_section b) (section_count b) i e

id-unread : (b : List ℕ) (i : ℕ) → is_id_section b i ≡ true → is_read_name (section_name b i) ≡ false
unfolding is_id_section debug_section
id-unread b i is = ap is_read_name (same_text-true (section_name b i) note_build_id (and-left (same_text (section_name b i) note_build_id) ((nth_section b i).kind == 7) is))

-- nor does it hold relocations
id-holder : (b : List ℕ) (i : ℕ) → is_id_section b i ≡ true → relocates_read b i ≡ false
unfolding is_id_section
id-holder b i is =
    plain-holder b i (ap (λ (k : ℕ). k == SHT_REL || k == SHT_RELA)
    (eqb-true (nth_section b i).kind SHT_NOTE (and-right (same_text (section_name b i) note_build_id) ((nth_section b i).kind == SHT_NOTE) is)))

contents-same : (b out : List ℕ) (bodies : ℕ → List ℕ) (i : ℕ) → Back b bodies out → id_section b ≡ Some i → contents_of out i ≡ contents_of b i
contents-same b out bodies i k e =
    let found = section-found b i e in
    k.back.contents i found.0 ∙ k.unread i found.0 (id-unread b i found.1) (id-holder b i found.1)

pub note-same : (b out : List ℕ) (bodies : ℕ → List ℕ) (i : ℕ) → Back b bodies out → id_section b ≡ Some i
    → id_in (order_of out) (contents_of out i) ≡ id_in (order_of b) (contents_of b i)
note-same b out bodies i k e =
    ap (λ (o : Order). id_in o (contents_of out i)) k.back.order ∙ ap (id_in (order_of b)) (contents-same b out bodies i k e)

id-back : (b out : List ℕ) (bodies : ℕ → List ℕ) (i : ℕ) (d : Descriptor) → Back b bodies out → IsId out i d → IsId b i d
id-back b out bodies i d k is =
    let there : id_section b ≡ Some i = sym (section-same b out bodies k) ∙ is.section in
    record { section = there; descriptor = sym (note-same b out bodies i k there) ∙ is.descriptor }

pub id-forth : (b out : List ℕ) (bodies : ℕ → List ℕ) (i : ℕ) (d : Descriptor) → Back b bodies out → IsId b i d → IsId out i d
id-forth b out bodies i d k is = record { section = section-same b out bodies k ∙ is.section; descriptor = note-same b out bodies i k is.section ∙ is.descriptor }

-- so its section has bytes, and the id lies in them
pub record IdLies (b : List ℕ) (i : ℕ) (d : Descriptor) : Type 0 where
  pub within : i < section_count b
  pub full : is_empty_kind (nth_section b i) ≡ false
  pub ends : d.place + d.size ≤ (nth_section b i).size
  pub some : 2 ≤ d.size
  pub wide : d.size ≤ 20

full-contents : (b : List ℕ) (i n : ℕ) → 0 < n → n ≤ length (contents_of b i) → (is_empty_kind (nth_section b i) ≡ false) × (n ≤ (nth_section b i).size)
unfolding contents_of
full-contents b i n some le = by_kind (cases_Bool (is_empty_kind (nth_section b i)))
  where
    by_kind : (is_empty_kind (nth_section b i) ≡ true) ⊎ (is_empty_kind (nth_section b i) ≡ false) → (is_empty_kind (nth_section b i) ≡ false) × (n ≤ (nth_section b i).size)
    by_kind (inl empty) =
        let none : length (contents_at b (nth_section b i)) ≡ 0 = ap length (contents-empty b (nth_section b i) empty) in
        absurd (omega (arith, some, le, none))
    by_kind (inr full) =
        let long : length (contents_at b (nth_section b i)) ≡ length (take (nth_section b i).size (drop (nth_section b i).offset b)) =
        ap length (contents-full b (nth_section b i) full) in
        (full, omega (arith, le, long, length-take (nth_section b i).size (drop (nth_section b i).offset b)))

pub id-lies : (b : List ℕ) (i : ℕ) (d : Descriptor) → IsId b i d → IdLies b i d
id-lies b i d is =
    let inside = id_in-inside (order_of b) (contents_of b i) d is.descriptor in
    let some : 0 < d.place + d.size = omega (arith, inside.some) in
    let full = full-contents b i (d.place + d.size) some inside.inside in
    record {
      within = (section-found b i is.section).0;
      full = full.0;
      ends = full.1;
      some = inside.some;
      wide = inside.wide;
    }

-- ### Nothing else has its bytes

-- what is known of a file and its output where the file has sections
pub record IsLaid (m : PathMap) (b out : List ℕ) : Type 0 where
  pub bodies : ℕ → List ℕ
  pub written : IsWritten b bodies
  pub is : out ≡ with_bodies b bodies
  pub back : Back b bodies out

pub laid-is : (m : PathMap) (b out : List ℕ) → IsMapped m b out → section_count b ≢ 0 → IsLaid m b out
laid-is m b out w some = record {
  bodies = bodies_of m b out w;
  written = record {
    reads = w.accepted.reads.elf.debug;
    segments = w.accepted.reads.elf.segments;
    some = some;
    fit = λ r fails. layout_excludes b (bodies_of m b out w) r (output-fits m b out w) fails;
    none = output-none m b out w;
    bytes = w.bytes;
  };
  is = output-is m b out w;
  back = output-back m b out w;
}

-- overlaps
lt-is : (m n : ℕ) → nat_lt m n ≡ true → m < n
lt-is m n h = grind (arith, nat_tests)

overlap-is : (place n other k : ℕ) → overlap place n other k ≡ true → (place < other + k) × (other < place + n)
overlap-is place n other k h =
    (lt-is place (other + k) (and-left (nat_lt place (other + k)) (nat_lt other (place + n)) h), lt-is other (place + n) (and-right (nat_lt place (other + k)) (nat_lt other (place + n)) h))

not-true : (t : Bool) → not t ≡ true → t ≡ false
not-true true e = absurd cc
not-true false e = refl

some-is : (n : ℕ) → not (n == 0) ≡ true → n ≢ 0
some-is n h e = let zero : (n == 0) ≡ true = rw e refl in no (n == 0) zero h
  where
    no : (t : Bool) → t ≡ true → not t ≡ true → ⊥
    no true e f = cc
    no false e f = cc

-- a section of the output: it is as it was and ends before the fixed end, or it moved behind that
pub data StandsIn (b : List ℕ) (bodies : ℕ → List ℕ) (i : ℕ) (s : Section) : Type 0 where
  stays : s ≡ nth_section b i → (s.size ≢ 0 → s.offset + s.size ≤ fixed_end b) → StandsIn b bodies i s
  moves : Moves b bodies i s → fixed_end b ≤ s.offset → StandsIn b bodies i s

pub stands-in : (m : PathMap) (b out : List ℕ) (l : IsLaid m b out) (i : ℕ) → i < section_count b → is_empty_kind (nth_section b i) ≡ false
    → StandsIn b l.bodies i (nth_section out i)
stands-in m b out l i lt full =
    subst (λ (x : List ℕ). StandsIn b l.bodies i (nth_section x i)) (sym l.is) (by_fixed (cases_Bool (is_fixed b (nth_section b i))))
  where
    by_fixed : (is_fixed b (nth_section b i) ≡ true) ⊎ (is_fixed b (nth_section b i) ≡ false) → StandsIn b l.bodies i (nth_section (with_bodies b l.bodies) i)
    by_fixed (inl fixed) =
        let same : nth_section (with_bodies b l.bodies) i ≡ nth_section b i = stays-at b l.bodies i l.written lt fixed in
        stays same
        (subst (λ (s : Section). s.size ≢ 0 → s.offset + s.size ≤ fixed_end b) (sym same)
        (λ some. (stays-before b l.bodies i lt fixed full some).ends))
    by_fixed (inr free) =
        let there = moves-to b l.bodies i l.written lt full free in
        moves there (omega (arith, there.behind, before-fixed b l.bodies i l.written))

pub kind-same : (b out : List ℕ) (bodies : ℕ → List ℕ) (j : ℕ) → Back b bodies out → j < section_count b → is_empty_kind (nth_section out j) ≡ is_empty_kind (nth_section b j)
kind-same b out bodies j k lt = empty-same (nth_section b j) (nth_section out j) (k.back.heads j lt).kind

pub count-some : (b : List ℕ) (i : ℕ) → i < section_count b → section_count b ≢ 0
count-some b i lt none = omega (arith, lt, none)

-- the header's row
header-none : (m : PathMap) (b out : List ℕ) (l : IsLaid m b out) (i : ℕ) (d : Descriptor) → IdFits b → IsId b i d → StandsIn b l.bodies i (nth_section out i)
    → id_place out i d < ehdr_size (class_of out) → ⊥
header-none m b out l i d fits is (stays same ends) below =
    let place : id_place out i d ≡ id_place b i d = ap (λ (s : Section). s.offset + d.place) same in
    let here : id_place b i d < ehdr_size (class_of b) =
    subst (λ (n : ℕ). n < ehdr_size (class_of b)) place (rw l.back.back.class at below) in
    fits.none _ (header i d is here)
header-none m b out l i d fits is (moves there behind) below =
    let here : id_place out i d < ehdr_size (class_of b) = rw l.back.back.class at below in
    omega (arith, here, behind, fixed_end-header b)

-- a file that has program headers is loaded as it stands: a relocatable one has none
loaded-segments : (b : List ℕ) → ElfReads b → DebugSectionsRead b → e_phnum b ≢ 0 → is_loaded_kind b ≡ true
loaded-segments b elf names some = by_kind (is_loaded_kind b) refl
  where
    or-left : (p q : Bool) → (p || q) ≡ true → q ≡ false → p ≡ true
    or-left true q h e = refl
    or-left false q h e = let no : true ≡ false = sym h ∙ e in absurd cc

    is_rel : (n : ℕ) → (n == ET_REL) ≡ true → n ≡ ET_REL
    is_rel n h = grind (arith, nat_tests)

    by_kind : (t : Bool) → is_loaded_kind b ≡ t → is_loaded_kind b ≡ true
    by_kind true is = is
    by_kind false is = absurd (some (elf.debug.shape.rel (is_rel (e_type b) (or-left (e_type b == ET_REL) (is_loaded_kind b) names.file_type is))))

-- that of the program headers
segments-none : (m : PathMap) (b out : List ℕ) (l : IsLaid m b out) (i : ℕ) (d : Descriptor) → IdFits b → IsId b i d → StandsIn b l.bodies i (nth_section out i)
    → e_phnum b ≢ 0 → overlap (id_place out i d) d.size (e_phoff b) (e_phnum b * phdr_size (class_of b)) ≡ true → ⊥
segments-none m b out l i d fits is (stays same ends) some over =
    let place : id_place out i d ≡ id_place b i d = ap (λ (s : Section). s.offset + d.place) same in
    fits.none _ (segments i d is some (subst (λ (n : ℕ). overlap n d.size (e_phoff b) (e_phnum b * phdr_size (class_of b)) ≡ true) place over))
segments-none m b out l i d fits is (moves there behind) some over =
    let both = overlap-is (id_place out i d) d.size (e_phoff b) (e_phnum b * phdr_size (class_of b)) over in
    omega (arith, both.0, behind, segments-lie b (loaded-segments b l.back.elf l.back.names some) some)

pub phnum-same : (m : PathMap) (b out : List ℕ) (l : IsLaid m b out) → e_phnum out ≡ e_phnum b
phnum-same m b out l = ap e_phnum l.is ∙ e_phnum-same b l.bodies l.written

pub phoff-same : (m : PathMap) (b out : List ℕ) (l : IsLaid m b out) → e_phoff out ≡ e_phoff b
phoff-same m b out l = ap e_phoff l.is ∙ e_phoff-same b l.bodies l.written

over-same : (m : PathMap) (b out : List ℕ) (l : IsLaid m b out) (place n : ℕ) → overlap place n (e_phoff out) (e_phnum out * phdr_size (class_of out)) ≡ true
    → overlap place n (e_phoff b) (e_phnum b * phdr_size (class_of b)) ≡ true
over-same m b out l place n over =
    subst (λ (c : Class). overlap place n (e_phoff b) (e_phnum b * phdr_size c) ≡ true) l.back.back.class
    (subst (λ (k : ℕ). overlap place n (e_phoff b) (k * phdr_size (class_of out)) ≡ true) (phnum-same m b out l)
    (subst (λ (k : ℕ). overlap place n k (e_phnum out * phdr_size (class_of out)) ≡ true) (phoff-same m b out l) over))

-- and that of another section
section-none : (m : PathMap) (b out : List ℕ) (l : IsLaid m b out) (i j : ℕ) (d : Descriptor) → IdFits b → IsId b i d → IdLies out i d → j < section_count b → j ≢ i
    → StandsIn b l.bodies i (nth_section out i) → StandsIn b l.bodies j (nth_section out j) → has_bytes (nth_section out j) ≡ true
    → overlap (id_place out i d) d.size (nth_section out j).offset (nth_section out j).size ≡ true → ⊥
section-none m b out l i j d fits is lies lt other (stays here ends) (stays there past) bytes over =
    fits.none _ (section i d j is (record {
      within = lt;
      other = other;
      shares = subst (λ (s : Section). (has_bytes s && overlap (id_place b i d) d.size s.offset s.size) ≡ true) there
          (subst (λ (s : Section). (has_bytes (nth_section out j) && overlap (s.offset + d.place) d.size (nth_section out j).offset (nth_section out j).size) ≡ true) here
          (both (has_bytes (nth_section out j)) (overlap (id_place out i d) d.size (nth_section out j).offset (nth_section out j).size) bytes over));
    }))
  where
    both : (p q : Bool) → p ≡ true → q ≡ true → (p && q) ≡ true
    both p q e f = rw (e, f) refl
section-none m b out l i j d fits is lies lt other (stays here ends) (moves there behind) bytes over =
    let both = overlap-is (id_place out i d) d.size (nth_section out j).offset (nth_section out j).size over in
    let some : (nth_section out i).size ≢ 0 = λ none. omega (arith, none, lies.ends, lies.some) in
    omega (arith, both.1, behind, ends some, lies.ends)
section-none m b out l i j d fits is lies lt other (moves here behind) (stays there past) bytes over =
    let both = overlap-is (id_place out i d) d.size (nth_section out j).offset (nth_section out j).size over in
    let some : (nth_section out j).size ≢ 0 = some-is (nth_section out j).size (and-right (not (is_empty_kind (nth_section out j))) (not ((nth_section out j).size == 0)) bytes) in
    omega (arith, both.0, behind, past some)
section-none m b out l i j d fits is lies lt other (moves here behind) (moves there past) bytes over = by_order (cases_lt i j)
  where
    by_order : (i < j) ⊎ (j ≤ i) → ⊥
    by_order (inl before) =
        let apart = one-behind b l.bodies i j (nth_section out i) (nth_section out j) here there before in
        let two = overlap-is (id_place out i d) d.size (nth_section out j).offset (nth_section out j).size over in
        omega (arith, two.1, apart, lies.ends)
    by_order (inr after) =
        let less : j < i = omega (arith, after, other) in
        let apart = one-behind b l.bodies j i (nth_section out j) (nth_section out i) there here less in
        let two = overlap-is (id_place out i d) d.size (nth_section out j).offset (nth_section out j).size over in
        omega (arith, two.0, apart)

-- so where nothing is wrong with the file's, nothing is with the output's
pub output-id : (m : PathMap) (b out : List ℕ) → IsMapped m b out → IdFits b → IdFits out
output-id m b out w fits = record { none = by_row }
  where
    by_row : (r : Refusal) → IdFails out r → ⊥
    by_row r (unfit i there bad) =
        let here : id_section b ≡ Some i = sym (section-same b out (bodies_of m b out w) (output-back m b out w)) ∙ there in
        fits.none _ (unfit i here (sym (note-same b out (bodies_of m b out w) i (output-back m b out w) here) ∙ bad))
    by_row r (header i d is below) =
        let old = id-back b out (bodies_of m b out w) i d (output-back m b out w) is in
        let lies = id-lies b i d old in
        let l = laid-is m b out w (count-some b i lies.within) in
        header-none m b out l i d fits old (stands-in m b out l i lies.within lies.full) below
    by_row r (segments i d is some over) =
        let old = id-back b out (bodies_of m b out w) i d (output-back m b out w) is in
        let lies = id-lies b i d old in
        let l = laid-is m b out w (count-some b i lies.within) in
        segments-none m b out l i d fits old (stands-in m b out l i lies.within lies.full) (λ none. some (phnum-same m b out l ∙ none)) (over-same m b out l (id_place out i d) d.size over)
    by_row r (section i d j is shared) =
        let old = id-back b out (bodies_of m b out w) i d (output-back m b out w) is in
        let lies = id-lies b i d old in
        let l = laid-is m b out w (count-some b i lies.within) in
        let back = output-back m b out w in
        let lt : j < section_count b = rw back.back.count at shared.within in
        let bytes : has_bytes (nth_section out j) ≡ true =
        and-left (has_bytes (nth_section out j)) (overlap (id_place out i d) d.size (nth_section out j).offset (nth_section out j).size) shared.shares in
        let full : is_empty_kind (nth_section b j) ≡ false =
        sym (kind-same b out (bodies_of m b out w) j back lt)
        ∙ not-true (is_empty_kind (nth_section out j)) (and-left (not (is_empty_kind (nth_section out j))) (not ((nth_section out j).size == 0)) bytes) in
        section-none m b out l i j d fits old (id-lies out i d is) lt shared.other (stands-in m b out l i lies.within lies.full) (stands-in m b out l j lt full) bytes
        (and-right (has_bytes (nth_section out j)) (overlap (id_place out i d) d.size (nth_section out j).offset (nth_section out j).size) shared.shares)
