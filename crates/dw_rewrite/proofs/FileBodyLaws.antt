-- The bodies that are given for a file's sections are those of the output; and those of sections that are loaded stay.
use Rattle.std.proofs.Common.{Bool, true, false, ◌≡◌, ◌≢◌, ◌⊎◌, inl, inr, ℕ, ◌<◌, ◌==◌, if◌then◌else◌, List, [], ◌∷◌, ◌++◌, Option, refl, sym, ap, ◌∙◌, arith}
use Rattle.std.proofs.lemmas.Bool.{cases_eq}
use Rattle.dw_base.specs.DebugData.{DataReadings}
use Rattle.dw_base.specs.Elf.{contents_of, e_shoff, is_empty_kind, nth_section, section_count, section_name}
use Rattle.dw_base.specs.ElfFails.{ElfReads}
use Rattle.dw_base.specs.Layout.{is_alloc}
use Rattle.dw_base.specs.Paths.{PathMap}
use Rattle.dw_base.specs.RelocationSectionFails.{RelocationSectionsRead, is_read_section, relocates_read}
use Rattle.dw_meaning.specs.DataOutput.{Body, body_in, new_bodies}
use Rattle.dw_meaning.specs.FileFails.{ReadIsLoaded}
use Rattle.dw_meaning.specs.FileMeanings.{file_body, file_data, new_body}
use Rattle.dw_meaning.specs.RelocatedBodies.{new_cells, new_contents, old_contents, relocated_body}
use Rattle.dw_meaning.specs.RelocationFails.{RelocationsAreLoaded}
use Rattle.dw_meaning.proofs.FileBackLaws.{is_read_name}
use Rattle.dw_meaning.proofs.FileKeptLaws.{CanMap, holder-body, plain-body, read-section, unread-kept}
use Rattle.dw_rewrite.specs.Bodies.{held_bodies}
use Rattle.dw_rewrite.specs.Rewritten.{body_with, bytes_or}
use Rattle.dw_rewrite.proofs.BodyLaws.{AllApart, apart-from, apart-in, bodies-read, body-first, given-first, given-in}
use Rattle.dw_rewrite.proofs.HeldBodyLaws.{AllRead, HoldsRead, first-holds, full-holder, held-found, held-lost, held-none, holder-stays, holds-read, is_among, unread-holder}

-- The sections whose relocations are written anew are read, and all others have the contents that they had.
pub record AreMoved (m : PathMap) (b : List ℕ) (r : DataReadings) (ns : List ℕ) : Type 0 where
  pub read : AllRead b ns
  pub full : (t : ℕ) → is_among t ns ≡ true → is_empty_kind (nth_section b t) ≡ false
  pub others : (t : ℕ) → is_read_section b t ≡ true → is_among t ns ≡ false → new_contents b (new_cells m (file_data b) r) t ≡ old_contents b t

-- bodies one after another
in-append : (xs ys : List Body) (old : ℕ → List ℕ) (i : ℕ) → body_in (xs ++ ys) old i ≡ body_in xs (body_in ys old) i
in-append [] ys old i = refl
in-append (x ∷ xs) ys old i = by_number (i == x.number) (in-append xs ys old i)
  where
    by_number : (t : Bool) → body_in (xs ++ ys) old i ≡ body_in xs (body_in ys old) i
        → (if t then x.bytes else body_in (xs ++ ys) old i) ≡ (if t then x.bytes else body_in xs (body_in ys old) i)
    by_number true rest = refl
    by_number false rest = rest

in-same : (xs : List Body) (f g : ℕ → List ℕ) (i : ℕ) → f i ≡ g i → body_in xs f i ≡ body_in xs g i
in-same [] f g i same = same
in-same (x ∷ xs) f g i same = by_number (i == x.number) (in-same xs f g i same)
  where
    by_number : (t : Bool) → body_in xs f i ≡ body_in xs g i → (if t then x.bytes else body_in xs f i) ≡ (if t then x.bytes else body_in xs g i)
    by_number true rest = refl
    by_number false rest = rest

-- A section that holds no relocations of one that is read has its new body,
new-open : (m : PathMap) (b : List ℕ) (r : DataReadings) (i : ℕ) → new_body m b r i ≡ body_in (new_bodies m (file_data b) r) (contents_of b) i
unfolding new_body
new-open m b r i = refl

plain-in : (m : PathMap) (b : List ℕ) (r : DataReadings) (ns : List ℕ) (i : ℕ) → AreMoved m b r ns → relocates_read b i ≡ false
    → body_in (new_bodies m (file_data b) r ++ held_bodies b (new_cells m (file_data b) r) ns) (contents_of b) i ≡ file_body m b r i
plain-in m b r ns i moved none =
    in-append (new_bodies m (file_data b) r) (held_bodies b (new_cells m (file_data b) r) ns) (contents_of b) i
    ∙ in-same (new_bodies m (file_data b) r) (body_in (held_bodies b (new_cells m (file_data b) r) ns) (contents_of b)) (contents_of b) i
    (held-none b (new_cells m (file_data b) r) ns (contents_of b) i moved.read none)
    ∙ sym (new-open m b r i) ∙ sym (plain-body m b r i none)

-- and one that does is none of the sections with new bodies,
read-is : (b : List ℕ) (i : ℕ) → i < section_count b → is_read_section b i ≡ false → is_read_name (section_name b i) ≡ true → ⊥
read-is b i lt unread read = let no : is_read_section b i ≡ true = read-section b i lt read in absurd cc

holder-apart : (m : PathMap) (b : List ℕ) (r : DataReadings) (i : ℕ) → CanMap m b r → i < section_count b → i ≢ 0 → relocates_read b i ≡ true
    → AllApart i (new_bodies m (file_data b) r)
holder-apart m b r i w lt some is =
    apart-from b i (new_bodies m (file_data b) r) (bodies-read m b r w.reads.data_reads) some
    (λ full read. read-is b i lt (unread-holder b i w.reads.relocations.sections lt is) read)

-- but has its records written anew, or stays as they do
pub held-in : (m : PathMap) (b : List ℕ) (r : DataReadings) (ns : List ℕ) (i : ℕ) → CanMap m b r → AreMoved m b r ns → HoldsRead b i
    → body_in (held_bodies b (new_cells m (file_data b) r) ns) (contents_of b) i ≡ relocated_body b (new_cells m (file_data b) r) i
held-in m b r ns i w moved held = by_among (is_among (nth_section b i).info ns) refl
  where
    by_among : (t : Bool) → is_among (nth_section b i).info ns ≡ t
        → body_in (held_bodies b (new_cells m (file_data b) r) ns) (contents_of b) i ≡ relocated_body b (new_cells m (file_data b) r) i
    by_among true e = held-found b (new_cells m (file_data b) r) ns (contents_of b) (nth_section b i).info i held.first e
    by_among false e =
        held-lost b (new_cells m (file_data b) r) ns (contents_of b) (nth_section b i).info i held.first e
        ∙ sym (holder-stays b (new_cells m (file_data b) r) i w.bytes w.reads.relocations.sections held (moved.others (nth_section b i).info held.read e))

holder-in : (m : PathMap) (b : List ℕ) (r : DataReadings) (ns : List ℕ) (i : ℕ) → CanMap m b r → AreMoved m b r ns → i < section_count b → i ≢ 0 → relocates_read b i ≡ true
    → body_in (new_bodies m (file_data b) r ++ held_bodies b (new_cells m (file_data b) r) ns) (contents_of b) i ≡ file_body m b r i
holder-in m b r ns i w moved lt some is =
    in-append (new_bodies m (file_data b) r) (held_bodies b (new_cells m (file_data b) r) ns) (contents_of b) i
    ∙ apart-in (new_bodies m (file_data b) r) (body_in (held_bodies b (new_cells m (file_data b) r) ns) (contents_of b)) i (holder-apart m b r i w lt some is)
    ∙ held-in m b r ns i w moved (holds-read b i w.reads.relocations.sections lt is) ∙ sym (holder-body m b r i is)

-- section 0 holds none
first-plain : (b : List ℕ) → RelocationSectionsRead (contents_of b) b → 0 < section_count b → is_empty_kind (nth_section b 0) ≡ true → relocates_read b 0 ≡ false
first-plain b reads some empty = by_holder (relocates_read b 0) refl
  where
    by_holder : (t : Bool) → relocates_read b 0 ≡ t → relocates_read b 0 ≡ false
    by_holder false e = e
    by_holder true e =
        let held = holds-read b 0 reads some e in
        let full : is_empty_kind (nth_section b 0) ≡ false = full-holder b (nth_section b 0).info 0 (first-holds b (nth_section b 0).info 0 held.first) in
        absurd cc

first-empty : (b : List ℕ) → ElfReads b → 0 < section_count b → is_empty_kind (nth_section b 0) ≡ true
unfolding section_count
first-empty b elf some = by_table (cases_eq (e_shoff b) 0)
  where
    by_table : (e_shoff b ≡ 0) ⊎ (e_shoff b ≡ 0 → ⊥) → is_empty_kind (nth_section b 0) ≡ true
    by_table (inl none) =
        let zero : section_count b ≡ 0 = rw none refl in
        absurd (omega (arith, zero, some))
    by_table (inr there) = rw (elf.debug.index.null there) refl

pub bodies-same : (m : PathMap) (b : List ℕ) (r : DataReadings) (ns : List ℕ) (bodies : List Body) → CanMap m b r → AreMoved m b r ns
    → bodies ≡ new_bodies m (file_data b) r ++ held_bodies b (new_cells m (file_data b) r) ns → (i : ℕ) → i < section_count b → body_with b bodies i ≡ file_body m b r i
bodies-same m b r ns bodies w moved is i lt = by_number (cases_eq i 0)
  where
    by_holder : i ≢ 0 → (t : Bool) → relocates_read b i ≡ t
        → body_in (new_bodies m (file_data b) r ++ held_bodies b (new_cells m (file_data b) r) ns) (contents_of b) i ≡ file_body m b r i
    by_holder some true e = holder-in m b r ns i w moved lt some e
    by_holder some false e = plain-in m b r ns i moved e

    by_number : (i ≡ 0) ⊎ (i ≡ 0 → ⊥) → body_with b bodies i ≡ file_body m b r i
    by_number (inl first) =
        let there : 0 < section_count b = omega (arith, lt, first) in
        ap (body_with b bodies) first ∙ ap (λ (o : Option (List ℕ)). bytes_or o (contents_of b 0)) (given-first bodies)
        ∙ sym (body-first m b r w there) ∙ sym (plain-body m b r 0 (first-plain b w.reads.relocations.sections there (first-empty b w.reads.elf there)))
        ∙ ap (file_body m b r) (sym first)
    by_number (inr some) =
        given-in bodies (contents_of b) i some ∙ ap (λ (xs : List Body). body_in xs (contents_of b) i) is ∙ by_holder some (relocates_read b i) refl

-- A section that is loaded has the bytes that it had: neither is one loaded that is read and has bytes, nor one that holds relocations of such a
-- section.
pub alloc-stays : (m : PathMap) (b : List ℕ) (r : DataReadings) (ns : List ℕ) (i : ℕ) → CanMap m b r → AreMoved m b r ns → (ReadIsLoaded b i → ⊥) → (RelocationsAreLoaded b i → ⊥)
    → i < section_count b → is_alloc (nth_section b i) ≡ true → file_body m b r i ≡ contents_of b i
alloc-stays m b r ns i w moved unloaded apart lt alloc = by_holder (relocates_read b i) refl
  where
    by_bytes : relocates_read b i ≡ true → HoldsRead b i → (t : Bool) → is_empty_kind (nth_section b (nth_section b i).info) ≡ t → file_body m b r i ≡ contents_of b i
    by_bytes is held false full = absurd (apart (record { relocates = is; bytes = full; alloc = alloc }))
    by_bytes is held true empty =
        let lost : is_among (nth_section b i).info ns ≡ false = none (is_among (nth_section b i).info ns) refl empty in
        holder-body m b r i is
        ∙ holder-stays b (new_cells m (file_data b) r) i w.bytes w.reads.relocations.sections held (moved.others (nth_section b i).info held.read lost)
      where
        none : (t : Bool) → is_among (nth_section b i).info ns ≡ t → is_empty_kind (nth_section b (nth_section b i).info) ≡ true → is_among (nth_section b i).info ns ≡ false
        none false e empty = e
        none true e empty = let full = moved.full (nth_section b i).info e in absurd cc

    by_read : relocates_read b i ≡ false → (t : Bool) → is_read_name (section_name b i) ≡ t → file_body m b r i ≡ contents_of b i
    by_read none false unread = unread-kept m b r i w lt unread none
    by_read none true read = plain-body m b r i none ∙ read-empty (is_empty_kind (nth_section b i)) refl
      where
        by_number : is_empty_kind (nth_section b i) ≡ true → (i ≡ 0) ⊎ (i ≡ 0 → ⊥) → new_body m b r i ≡ contents_of b i
        by_number empty (inl first) =
            ap (new_body m b r) first ∙ body-first m b r w (omega (arith, lt, first)) ∙ ap (contents_of b) (sym first)
        by_number empty (inr some) =
            new-open m b r i
            ∙ apart-in (new_bodies m (file_data b) r) (contents_of b) i
            (apart-from b i (new_bodies m (file_data b) r) (bodies-read m b r w.reads.data_reads) some (λ full name. full-empty full empty))
          where
            full-empty : is_empty_kind (nth_section b i) ≡ false → is_empty_kind (nth_section b i) ≡ true → ⊥
            full-empty full empty = absurd cc

        read-empty : (t : Bool) → is_empty_kind (nth_section b i) ≡ t → new_body m b r i ≡ contents_of b i
        read-empty true empty = by_number empty (cases_eq i 0)
        read-empty false full = absurd (unloaded (record { read = read; bytes = full; alloc = alloc }))

    by_holder : (t : Bool) → relocates_read b i ≡ t → file_body m b r i ≡ contents_of b i
    by_holder true e = by_bytes e (holds-read b i w.reads.relocations.sections lt e) (is_empty_kind (nth_section b (nth_section b i).info)) refl
    by_holder false e = by_read e (is_read_name (section_name b i)) refl
