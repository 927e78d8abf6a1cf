-- A file with other bytes in the place of its build-id means what it meant, since these bytes count as zeros in what a file means.
use Rattle.std.proofs.Common.{Bool, true, false, ◌≡◌, ◌≢◌, ◌⊎◌, inl, inr, ℕ, zero, suc, ◌+◌, ◌<◌, ◌==◌, ◌&&◌, List, [], ◌∷◌, if◌then◌else◌, Option, Some, None, IsTrue, sym, ap, ◌∙◌, refl, subst, arith}
use Rattle.std.proofs.lemmas.Bool.{cases_eq}
use Rattle.dw_base.specs.DebugData.{DebugData, DataReadings}
use Rattle.dw_base.specs.DebugSectionFails.{DebugSectionsRead, is_active, repeats_by}
use Rattle.dw_base.specs.DebugSections.{debug_section, is_listed}
use Rattle.dw_base.specs.Elf.{contents_of, e_type, name_index, nth_section, order_of, section_count, section_name}
use Rattle.dw_base.specs.FileViews.{ViewSection, bytes_in, plain_contents, view_of, view_section}
use Rattle.dw_base.specs.Lists.{tabulate}
use Rattle.dw_base.specs.Notes.{BuildId, Descriptor, build_id_of, first_below, id_in, is_id_section, zeroed}
use Rattle.dw_base.specs.RelocationRows.{moving_from, moving_sections}
use Rattle.dw_base.specs.RelocationSectionFails.{moves}
use Rattle.dw_base.specs.SectionNames.{note_build_id}
use Rattle.dw_base.specs.Texts.{same_text}
use Rattle.dw_base.specs.ViewData.{Meaning, meaning_of, other_sections, without_id, zeroed_at}
use Rattle.dw_base.specs.declared.debug_sections.DebugSection.TheVariants.{Str}
use Rattle.dw_base.specs.declared.shared.Order.{Order}
use Rattle.dw_base.proofs.TextLaws.{same_text-true}
use Rattle.dw_meaning.specs.DataOutput.{DataReads}
use Rattle.dw_meaning.specs.FileMeanings.{FileReads, Means, file_data}
use Rattle.dw_meaning.specs.RelocationFails.{RelocationsRead, RelocationsReadIn}
use Rattle.dw_meaning.proofs.BuildIdLaws.{first_below-found}
use Rattle.dw_meaning.proofs.FileBackLaws.{AllAt, tabulate-at}
use Rattle.dw_meaning.proofs.ReadAlikeLaws.{AllReadAlike, ReadAlike, data-alike, located-alike, meaning-alike}
use Rattle.dw_meaning.proofs.ReadAlikeLaws.ReadAlike.{equal, unread}
use Rattle.dw_meaning.proofs.MeansLaws.{means-made}
use Rattle.build_ident.specs.IdFails.{IsId, id_section}
use Rattle.dbg_job.proofs.IdPlaceLaws.{id-is}
use Rattle.dbg_job.proofs.NoteKeptLaws.{id_in-kept}
use Rattle.dbg_job.proofs.OtherIdLaws.{IdApart, OtherId, before-same, contents-new, count-new, elf-new, index-new, name-new, order-new, own-differs, section-new, type-new, zeroed-same}
use Rattle.dbg_job.proofs.OtherIdRelocationLaws.{first-same, relocates_read-new, relocations-new, sections-read-new}

-- ### Its build-id is in the same place

is_id-new : (b new : List ℕ) (i : ℕ) (d : Descriptor) (j : ℕ) → IdApart b i d → OtherId b new i d → is_id_section new j ≡ is_id_section b j
unfolding is_id_section
is_id-new b new i d j w s = rw (name-new b new i d j w s, section-new b new i d j w s) refl

section-is : (b new : List ℕ) (i : ℕ) (d : Descriptor) → IdApart b i d → OtherId b new i d → id_section new ≡ id_section b
unfolding id_section
section-is b new i d w s =
    ap (λ (n : ℕ). first_below (is_id_section new) n) (count-new b new i d w s)
    ∙ first-same (is_id_section new) (is_id_section b) (section_count b) (λ j lt. is_id-new b new i d j w s)

pub id-new : (b new : List ℕ) (i : ℕ) (d : Descriptor) → IdApart b i d → OtherId b new i d → IsId new i d
id-new b new i d w s = record {
  section = section-is b new i d w s ∙ w.is.section;
  descriptor = ap (λ (o : Order). id_in o (contents_of new i)) (order-new b new i d w s)
      ∙ id_in-kept (order_of b) (contents_of b i) (contents_of new i) d w.is.descriptor (before-same d.place d.size (contents_of b i) (contents_of new i) (own-differs b new i d w s));
}

pub build_id-new : (b new : List ℕ) (i : ℕ) (d : Descriptor) → IdApart b i d → OtherId b new i d → build_id_of new ≡ build_id_of b
build_id-new b new i d w s = id-is new i d (id-new b new i d w s) ∙ sym (id-is b i d w.is)

-- ### Its sections

-- the section of the note isn't one of debug data
id-unlisted : (b : List ℕ) (i : ℕ) (d : Descriptor) → IdApart b i d → debug_section (section_name b i) ≡ None
unfolding id_section is_id_section debug_section
id-unlisted b i d w =
    let found = first_below-found (is_id_section b) (section_count b) i w.is.section in
    ap debug_section (same_text-true (section_name b i) note_build_id (and_left (same_text (section_name b i) note_build_id) ((nth_section b i).kind == 7) found.1))
  where
    and_left : (p q : Bool) → (p && q) ≡ true → p ≡ true
    and_left true q h = refl
    and_left false q h = cc

pub names-new : (b new : List ℕ) (i : ℕ) (d : Descriptor) → IdApart b i d → OtherId b new i d → DebugSectionsRead b → DebugSectionsRead new
names-new b new i d w s was =
    let count = count-new b new i d w s in
    let index = index-new b new i d w s in
    let kind = type-new b new i d w s in
    record {
      file_type = rw kind was.file_type;
      named = λ j lt active.
          let here : IsTrue (is_active (nth_section b j)) = rw (section-new b new i d j w s) at active in
          rw (name-new b new i d j w s, section-new b new i d j w s) (was.named j (rw count at lt) here);
      once = λ j k lt second.
          was.once j k (rw count at lt) (record {
            before = second.before;
            first_active = rw (section-new b new i d j w s) at second.first_active;
            active = rw (section-new b new i d k w s) at second.active;
            same = sym (name-new b new i d j w s) ∙ second.same ∙ name-new b new i d k w s;
            listed = rw (name-new b new i d k w s) at second.listed;
            single =
                ap (λ (t : ℕ). t == 1 && repeats_by (debug_section (section_name b k))) (sym kind)
                ∙ ap (λ (n : List ℕ). e_type new == 1 && repeats_by (debug_section n)) (sym (name-new b new i d k w s)) ∙ second.single;
          });
      apart = λ some.
          let there : name_index b ≢ 0 = λ e. some (index ∙ e) in
          ap (λ (k : ℕ). is_listed (section_name new k)) index ∙ ap is_listed (name-new b new i d (name_index b) w s) ∙ was.apart there;
    }

-- the parts of a file's view
view-name : (b : List ℕ) (i : ℕ) → (view_section b i).name ≡ section_name b i
unfolding view_section
view-name b i = refl

view-sections : (b : List ℕ) → (view_of b).sections ≡ tabulate (view_section b) (section_count b)
unfolding view_of
view-sections b = refl

view-order : (b : List ℕ) → (view_of b).order ≡ order_of b
unfolding view_of
view-order b = refl

view-id : (b : List ℕ) → (view_of b).id ≡ build_id_of b
unfolding view_of
view-id b = refl

view-section : (b new : List ℕ) (i j : ℕ) (d : Descriptor) → IdApart b i d → OtherId b new i d → j < section_count b → j ≢ i
    → view_section new j ≡ view_section b j
unfolding view_section
view-section b new i j d w s lt other =
    rw (name-new b new i d j w s, section-new b new i d j w s, index-new b new i d w s, contents-new b new i j d w s lt other, relocations-new b new i j d w s, relocates_read-new b new i j d w s) refl

section-alike : (b new : List ℕ) (i j : ℕ) (d : Descriptor) → IdApart b i d → OtherId b new i d → j < section_count b
    → ReadAlike (view_section new j) (view_section b j)
section-alike b new i j d w s lt = by_number (cases_eq j i)
  where
    by_number : (j ≡ i) ⊎ (j ≡ i → ⊥) → ReadAlike (view_section new j) (view_section b j)
    by_number (inl same) =
        subst (λ (k : ℕ). ReadAlike (view_section new k) (view_section b k)) (sym same)
        (unread (view-name new i ∙ name-new b new i d i w s ∙ sym (view-name b i)) (ap debug_section (view-name b i) ∙ id-unlisted b i d w))
    by_number (inr other) = equal (view-section b new i j d w s lt other)

all-sections : (P : ℕ → ViewSection → ViewSection → Type 0) (b new : List ℕ) → section_count new ≡ section_count b
    → ((j : ℕ) → j < section_count b → P j (view_section new j) (view_section b j)) → AllAt P 0 (view_of new).sections (view_of b).sections
all-sections P b new count each =
    subst (λ (ss : List ViewSection). AllAt P 0 ss (view_of b).sections)
    (sym (view-sections new ∙ ap (λ (n : ℕ). tabulate (view_section new) n) count))
    (subst (λ (ts : List ViewSection). AllAt P 0 (tabulate (view_section new) (section_count b)) ts) (sym (view-sections b))
    (tabulate-at P (view_section new) (view_section b) (section_count b) each))

sections-alike : (b new : List ℕ) (i : ℕ) (d : Descriptor) → IdApart b i d → OtherId b new i d
    → AllReadAlike 0 (view_of new).sections (view_of b).sections
sections-alike b new i d w s =
    all-sections (λ (k : ℕ) (x y : ViewSection). ReadAlike x y) b new (count-new b new i d w s) (λ j lt. section-alike b new i j d w s lt)

-- ### What is meant by bytes alone

-- with the bytes of the build-id as zeros each section is the same
abbrev without_at : Descriptor → ViewSection → ViewSection
without_at d s = record s { contents = plain_contents (zeroed d (bytes_in s.contents)) }

record SameButId (i : ℕ) (d : Descriptor) (k : ℕ) (s t : ViewSection) : Type 0 where
  other : k ≢ i → s ≡ t
  own : k ≡ i → without_at d s ≡ without_at d t

own-same : (b new : List ℕ) (i : ℕ) (d : Descriptor) → IdApart b i d → OtherId b new i d
    → without_at d (view_section new i) ≡ without_at d (view_section b i)
unfolding view_section
own-same b new i d w s =
    rw (name-new b new i d i w s, section-new b new i d i w s, index-new b new i d w s, zeroed-same d (contents_of b i) (contents_of new i) (own-differs b new i d w s), relocations-new b new i i d w s, relocates_read-new b new i i d w s) refl

same-but : (b new : List ℕ) (i : ℕ) (d : Descriptor) → IdApart b i d → OtherId b new i d
    → AllAt (SameButId i d) 0 (view_of new).sections (view_of b).sections
same-but b new i d w s =
    all-sections (SameButId i d) b new (count-new b new i d w s)
    (λ j lt. record {
      other = λ differ. view-section b new i j d w s lt differ;
      own = λ same. subst (λ (k : ℕ). without_at d (view_section new k) ≡ without_at d (view_section b k)) (sym same) (own-same b new i d w s);
    })

behind-same : (i k : ℕ) (d : Descriptor) (ss ts : List ViewSection) → i < k → AllAt (SameButId i d) k ss ts → ss ≡ ts
behind-same i k d [] [] lt all = refl
behind-same i k d [] (t ∷ ts) lt all = absurd all
behind-same i k d (s ∷ ss) [] lt all = absurd all
behind-same i k d (s ∷ ss) (t ∷ ts) lt all =
    ap (λ (x : ViewSection). x ∷ ss) (all.0.other (λ same. omega (arith, same, lt))) ∙ ap (λ (xs : List ViewSection). t ∷ xs) (behind-same i (suc k) d ss ts (omega (arith, lt)) all.1)

zeroed-all : (i n k : ℕ) (d : Descriptor) (id : BuildId) (ss ts : List ViewSection) → id.descriptor ≡ d → n + k ≡ i → AllAt (SameButId i d) k ss ts
    → zeroed_at n id ss ≡ zeroed_at n id ts
zeroed-all i n k d id [] [] is at all = refl
zeroed-all i n k d id [] (t ∷ ts) is at all = absurd all
zeroed-all i n k d id (s ∷ ss) [] is at all = absurd all
zeroed-all i zero k d id (s ∷ ss) (t ∷ ts) is at all =
    ap (λ (x : ViewSection). x ∷ ss) (subst (λ (e : Descriptor). without_at e s ≡ without_at e t) (sym is) (all.0.own (omega (arith, at))))
    ∙ ap (λ (xs : List ViewSection). record t { contents = plain_contents (zeroed id.descriptor (bytes_in t.contents)) } ∷ xs)
    (behind-same i (suc k) d ss ts (omega (arith, at)) all.1)
zeroed-all i (suc n) k d id (s ∷ ss) (t ∷ ts) is at all =
    ap (λ (x : ViewSection). x ∷ zeroed_at n id ss) (all.0.other (λ same. omega (arith, same, at)))
    ∙ ap (λ (xs : List ViewSection). t ∷ xs) (zeroed-all i n (suc k) d id ss ts is (omega (arith, at)) all.1)

others-same : (b new : List ℕ) (i : ℕ) (d : Descriptor) → IdApart b i d → OtherId b new i d
    → other_sections (without_id (view_of new).id (view_of new).sections) ≡ other_sections (without_id (view_of b).id (view_of b).sections)
others-same b new i d w s =
    let old : (view_of b).id ≡ Some (record { section = i; descriptor = d }) = view-id b ∙ id-is b i d w.is in
    let now : (view_of new).id ≡ Some (record { section = i; descriptor = d }) = view-id new ∙ id-is new i d (id-new b new i d w s) in
    ap (λ (o : Option BuildId). other_sections (without_id o (view_of new).sections)) now
    ∙ ap other_sections (zeroed-all i i 0 d (record { section = i; descriptor = d }) (view_of new).sections (view_of b).sections refl (omega arith) (same-but b new i d w s))
    ∙ sym (ap (λ (o : Option BuildId). other_sections (without_id o (view_of b).sections)) old)

-- ### So both mean the same

order-same : (b new : List ℕ) (i : ℕ) (d : Descriptor) → IdApart b i d → OtherId b new i d → (view_of new).order ≡ (view_of b).order
order-same b new i d w s = view-order new ∙ order-new b new i d w s ∙ sym (view-order b)

pub data-same : (b new : List ℕ) (i : ℕ) (d : Descriptor) → IdApart b i d → OtherId b new i d → file_data new ≡ file_data b
data-same b new i d w s = data-alike (view_of new) (view_of b) (order-same b new i d w s) (sections-alike b new i d w s)

-- ### Its relocations can be read as they could

moving-alike : (n k : ℕ) (ss ts : List ViewSection) → AllReadAlike k ss ts → moving_from n ss ≡ moving_from n ts
moving-alike n k [] [] all = refl
moving-alike n k [] (t ∷ ts) all = absurd all
moving-alike n k (s ∷ ss) [] all = absurd all
moving-alike n k (s ∷ ss) (t ∷ ts) all =
    ap (λ (x : List ℕ). if moves (debug_section x) then n ∷ moving_from (n + 1) ss else moving_from (n + 1) ss) (named s t all.0)
    ∙ ap (λ (l : List ℕ). if moves (debug_section t.name) then n ∷ l else l) (moving-alike (n + 1) (suc k) ss ts all.1)
  where
    named : (s t : ViewSection) → ReadAlike s t → s.name ≡ t.name
    named s t (equal e) = ap (λ (x : ViewSection). x.name) e
    named s t (unread same none) = same

moving-new : (b new : List ℕ) (i : ℕ) (d : Descriptor) → IdApart b i d → OtherId b new i d → moving_sections (view_of new) ≡ moving_sections (view_of b)
unfolding moving_sections
moving-new b new i d w s = moving-alike 0 0 (view_of new).sections (view_of b).sections (sections-alike b new i d w s)

pub relocations-read-new : (b new : List ℕ) (i : ℕ) (d : Descriptor) → IdApart b i d → OtherId b new i d → RelocationsRead b → RelocationsRead new
relocations-read-new b new i d w s h = record {
  sections = sections-read-new b new i d w s h.sections;
  on_data = subst (λ (g : DebugData). RelocationsReadIn g (moving_sections (view_of new))) (sym (data-same b new i d w s))
      (subst (RelocationsReadIn (file_data b)) (sym (moving-new b new i d w s)) h.on_data);
}

pub meaning-same : (b new : List ℕ) (i : ℕ) (d : Descriptor) (r : DataReadings) → IdApart b i d → OtherId b new i d
    → meaning_of (view_of new) r ≡ meaning_of (view_of b) r
meaning-same b new i d r w s =
    meaning-alike (view_of new) (view_of b) r (order-same b new i d w s) (data-same b new i d w s)
    (located-alike (view_of new) (view_of b) Str (sections-alike b new i d w s)) (others-same b new i d w s)

pub means-same : (b new : List ℕ) (i : ℕ) (d : Descriptor) (x : Meaning) → IdApart b i d → OtherId b new i d → Means b x → Means new x
means-same b new i d x w s is =
    let reads : FileReads new is.readings =
    record {
      elf = elf-new b new i d w s;
      names = names-new b new i d w s is.reads.names;
      relocations = relocations-read-new b new i d w s is.reads.relocations;
      data_reads = subst (λ (g : DebugData). DataReads g is.readings) (sym (data-same b new i d w s)) is.reads.data_reads;
    } in
    means-made new is.readings x reads (meaning-same b new i d is.readings w s ∙ is.says)
