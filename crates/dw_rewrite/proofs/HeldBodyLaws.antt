-- The sections that hold relocations of sections that an edit changes: which of them a number is, and what stays where none is written anew.
use Rattle.std.specs.Bool.{⊤}
use Rattle.std.proofs.Common.{Bool, true, false, ◌≡◌, ◌≢◌, ◌⊎◌, inl, inr, ℕ, ◌<◌, ◌==◌, ◌&&◌, ◌||◌, if◌then◌else◌, List, [], ◌∷◌, ◌++◌, slice_index, Option, Some, None, refl, sym, ap, ◌∙◌, arith}
use Rattle.std.proofs.lemmas.Bool.{and_parts, cases_eq, cases_lt, eq-eqb, eqb-true, ne_eqb}
use Rattle.dw_base.specs.Cells.{Cell}
use Rattle.dw_base.specs.Elf.{contents_of, e_type, is_empty_kind, nth_section, section_count}
use Rattle.dw_base.specs.Notes.{first_below}
use Rattle.dw_base.specs.RelocationBodies.{relocation_body}
use Rattle.dw_base.specs.RelocationSectionFails.{RelocationSectionsRead, TableReads, is_own_kind, is_read_section, relocates_read}
use Rattle.dw_base.specs.SectionRelocations.{RelocationSource, cells_from, is_relocation_kind, relocates, relocation_section, relocation_source, relocations_in}
use Rattle.dw_base.specs.declared.elf_numbers.TheConstants.{ET_REL, SHT_NOBITS, SHT_NULL, SHT_REL, SHT_RELA}
use Rattle.dw_base.proofs.RelocationFieldLaws.{first_below-other, first_below-passes}
use Rattle.elf_relocs.proofs.OffsetLaws.{same-self}
use Rattle.dw_meaning.specs.DataOutput.{Body, body_in}
use Rattle.dw_meaning.specs.RelocatedBodies.{CellBody, new_contents, old_contents, relocated_body}
use Rattle.dw_meaning.proofs.NewCellLaws.{contents-small}
use Rattle.dw_meaning.proofs.RecordMoveLaws.{RecordsApart}
use Rattle.dw_meaning.proofs.TableMoveLaws.{reads-apart, section-source}
use Rattle.dw_patch.proofs.SaidCellLaws.{said-kept}
use Rattle.dw_rewrite.specs.Bodies.{held_bodies, held_body}
use Rattle.dw_rewrite.specs.Rewritten.{AllStand}
use Rattle.dw_rewrite.proofs.RecordSayLaws.{stays-table}
use Rattle.dw_rewrite.proofs.SameRecordLaws.{table-same}

-- The section of a number that holds relocations of one that is read.
pub record Holds (b : List ℕ) (t k : ℕ) : Type 0 where
  pub there : k < section_count b
  pub info : (nth_section b k).info ≡ t
  pub kind : is_relocation_kind (nth_section b k) ≡ true
  pub rel : e_type b ≡ ET_REL

relocates-holds : (b : List ℕ) (t k : ℕ) → k < section_count b → relocates b t k ≡ true → Holds b t k
unfolding relocates
relocates-holds b t k lt is =
    let parts = and_parts (e_type b == ET_REL && is_relocation_kind (nth_section b k)) ((nth_section b k).info == t) is in
    let first = and_parts (e_type b == ET_REL) (is_relocation_kind (nth_section b k)) parts.0 in
    record { there = lt; info = eqb-true (nth_section b k).info t parts.1; kind = first.1; rel = eqb-true (e_type b) ET_REL first.0 }

pub first-holds : (b : List ℕ) (t k : ℕ) → relocation_section b t ≡ Some k → Holds b t k
unfolding relocation_section
first-holds b t k is =
    let found = first_below-passes (relocates b t) (section_count b) k is in
    relocates-holds b t k found.0 found.1

-- it does so of the one that its info names,
pub first-read : (b : List ℕ) (t k : ℕ) → is_read_section b t ≡ true → relocation_section b t ≡ Some k → relocates_read b k ≡ true
unfolding relocates_read relocation_section
first-read b t k read is =
    let found = first_below-passes (relocates b t) (section_count b) k is in
    let held : Holds b t k = first-holds b t k is in
    rw held.info (rw (found.1, read) refl)

-- and no second one does
pub record HoldsRead (b : List ℕ) (k : ℕ) : Type 0 where
  pub read : is_read_section b (nth_section b k).info ≡ true
  pub first : relocation_section b (nth_section b k).info ≡ Some k

only-first : (b : List ℕ) (t k : ℕ) → RelocationSectionsRead (contents_of b) b → is_read_section b t ≡ true → k < section_count b → relocates b t k ≡ true
    → relocation_section b t ≡ Some k
unfolding relocation_section
only-first b t k reads read lt is = by_first (first_below (relocates b t) (section_count b)) refl
  where
    by_first : (o : Option ℕ) → first_below (relocates b t) (section_count b) ≡ o → o ≡ Some k
    by_first None e = let no : relocates b t k ≡ false = first_below-other (relocates b t) (section_count b) k e lt in absurd cc
    by_first (Some j) e =
        let found = first_below-passes (relocates b t) (section_count b) j e in
        elim (cases_lt j k) [
          | inl before ↦ absurd ((reads.all t read).single j k before lt found.1 is)
          | inr past ↦ elim (cases_lt k j) [
            | inl behind ↦ absurd ((reads.all t read).single k j behind found.0 is found.1)
            | inr same ↦ let here : j ≡ k = omega (arith, past, same) in ap (λ (n : ℕ). Some n) here
          ]
        ]

pub holds-read : (b : List ℕ) (k : ℕ) → RelocationSectionsRead (contents_of b) b → k < section_count b → relocates_read b k ≡ true → HoldsRead b k
unfolding relocates_read
holds-read b k reads lt is =
    let parts = and_parts (relocates b (nth_section b k).info k) (is_read_section b (nth_section b k).info) is in
    record { read = parts.1; first = only-first b (nth_section b k).info k reads parts.1 lt parts.0 }

-- such a section isn't one that is read,
pub unread-holder : (b : List ℕ) (k : ℕ) → RelocationSectionsRead (contents_of b) b → k < section_count b → relocates_read b k ≡ true → is_read_section b k ≡ false
unread-holder b k reads lt is = by_read (is_read_section b k) refl
  where
    held : Holds b (nth_section b k).info k
    held = first-holds b (nth_section b k).info k (holds-read b k reads lt is).first

    own : (t u v : Bool) → t ≡ true → (t || u || v) ≡ true
    own true true v e = refl
    own true false v e = refl
    own false u v e = absurd cc

    by_read : (t : Bool) → is_read_section b k ≡ t → is_read_section b k ≡ false
    by_read false e = e
    by_read true e =
        let plain : is_own_kind (nth_section b k) ≡ false = (reads.all k e).plain_kind held.rel in
        let other : is_own_kind (nth_section b k) ≡ true = own (is_relocation_kind (nth_section b k)) _ _ held.kind in
        absurd cc

-- and has bytes in the file
full-kind : (n : ℕ) → (n == SHT_REL || n == SHT_RELA) ≡ true → (n == SHT_NULL || n == SHT_NOBITS) ≡ false
full-kind n is = by_rel (n == SHT_REL) refl is
  where
    at_kind : (n k : ℕ) → n ≡ k → (k == SHT_NULL || k == SHT_NOBITS) ≡ false → (n == SHT_NULL || n == SHT_NOBITS) ≡ false
    at_kind n k same other = ap (λ (j : ℕ). j == SHT_NULL || j == SHT_NOBITS) same ∙ other

    by_rel : (t : Bool) → (n == SHT_REL) ≡ t → (t || n == SHT_RELA) ≡ true → (n == SHT_NULL || n == SHT_NOBITS) ≡ false
    by_rel true e h = at_kind n SHT_REL (eqb-true n SHT_REL e) refl
    by_rel false e h = at_kind n SHT_RELA (eqb-true n SHT_RELA h) refl

pub full-holder : (b : List ℕ) (t k : ℕ) → Holds b t k → is_empty_kind (nth_section b k) ≡ false
full-holder b t k held = full-kind (nth_section b k).kind held.kind

-- A number among others.
abbrev pub is_among : ℕ → List ℕ → Bool
is_among i [] = false
is_among i (n ∷ ns) = n == i || is_among i ns

-- each of them is that of a section that is read and has bytes
abbrev pub AllRead : List ℕ → List ℕ → Type 0
AllRead b [] = ⊤
AllRead b (n ∷ ns) = (is_read_section b n ≡ true) × AllRead b ns

-- The bodies of those that hold relocations of sections of such numbers: that of another number is none of them,
pub held-none : (b : List ℕ) (cells : List CellBody) (ns : List ℕ) (old : ℕ → List ℕ) (i : ℕ) → AllRead b ns → relocates_read b i ≡ false
    → body_in (held_bodies b cells ns) old i ≡ old i
held-none b cells [] old i read none = refl
held-none b cells (n ∷ ns) old i read none = by_holder (relocation_section b n) refl (held-none b cells ns old i read.1 none)
  where
    by_holder : (o : Option ℕ) → relocation_section b n ≡ o → body_in (held_bodies b cells ns) old i ≡ old i
        → body_in (held_body b cells o ++ held_bodies b cells ns) old i ≡ old i
    by_holder None e rest = rest
    by_holder (Some k) e rest =
        let other : i ≢ k = λ same. (let no : relocates_read b i ≡ true = ap (relocates_read b) same ∙ first-read b n k read.0 e in absurd cc) in
        rw (ne_eqb i k other) rest

-- that which holds relocations of one of them is its own,
held-here : (b : List ℕ) (cells : List CellBody) (ns : List ℕ) (old : ℕ → List ℕ) (t i : ℕ) → relocation_section b t ≡ Some i
    → body_in (held_body b cells (relocation_section b t) ++ held_bodies b cells ns) old i ≡ relocated_body b cells i
held-here b cells ns old t i is =
    ap (λ (o : Option ℕ). body_in (held_body b cells o ++ held_bodies b cells ns) old i) is ∙ own
  where
    own : (if i == i then relocated_body b cells i else body_in (held_bodies b cells ns) old i) ≡ relocated_body b cells i
    own = rw (eq-eqb i i refl) refl

held-further : (b : List ℕ) (cells : List CellBody) (ns : List ℕ) (old : ℕ → List ℕ) (n t i : ℕ) → relocation_section b t ≡ Some i → n ≢ t
    → body_in (held_body b cells (relocation_section b n) ++ held_bodies b cells ns) old i ≡ body_in (held_bodies b cells ns) old i
held-further b cells ns old n t i is other = by_holder (relocation_section b n) refl
  where
    by_holder : (o : Option ℕ) → relocation_section b n ≡ o → body_in (held_body b cells o ++ held_bodies b cells ns) old i ≡ body_in (held_bodies b cells ns) old i
    by_holder None e = refl
    by_holder (Some k) e =
        let own = (first-holds b t i is).info in
        let theirs = (first-holds b n k e).info in
        let apart : i ≢ k = λ (same : i ≡ k). other (sym theirs ∙ ap (λ (j : ℕ). (nth_section b j).info) (sym same) ∙ own) in
        rw (ne_eqb i k apart) refl

pub held-found : (b : List ℕ) (cells : List CellBody) (ns : List ℕ) (old : ℕ → List ℕ) (t i : ℕ) → relocation_section b t ≡ Some i → is_among t ns ≡ true
    → body_in (held_bodies b cells ns) old i ≡ relocated_body b cells i
held-found b cells [] old t i is among = absurd cc
held-found b cells (n ∷ ns) old t i is among = by_number (cases_eq n t) (λ e. held-found b cells ns old t i is e)
  where
    by_number : (n ≡ t) ⊎ (n ≡ t → ⊥) → (is_among t ns ≡ true → body_in (held_bodies b cells ns) old i ≡ relocated_body b cells i)
        → body_in (held_bodies b cells (n ∷ ns)) old i ≡ relocated_body b cells i
    by_number (inl same) rest =
        ap (λ (j : ℕ). body_in (held_body b cells (relocation_section b j) ++ held_bodies b cells ns) old i) same ∙ held-here b cells ns old t i is
    by_number (inr other) rest =
        held-further b cells ns old n t i is other
        ∙ rest (sym (ap (λ (x : Bool). x || is_among t ns) (ne_eqb n t other)) ∙ among)

-- and that which holds relocations of none of them is none
pub held-lost : (b : List ℕ) (cells : List CellBody) (ns : List ℕ) (old : ℕ → List ℕ) (t i : ℕ) → relocation_section b t ≡ Some i → is_among t ns ≡ false
    → body_in (held_bodies b cells ns) old i ≡ old i
held-lost b cells [] old t i is among = refl
held-lost b cells (n ∷ ns) old t i is among = by_number (cases_eq n t) (λ e. held-lost b cells ns old t i is e)
  where
    by_number : (n ≡ t) ⊎ (n ≡ t → ⊥) → (is_among t ns ≡ false → body_in (held_bodies b cells ns) old i ≡ old i)
        → body_in (held_bodies b cells (n ∷ ns)) old i ≡ old i
    by_number (inl same) rest =
        let no : (true || is_among t ns) ≡ false = sym (ap (λ (x : Bool). x || is_among t ns) (eq-eqb n t same)) ∙ among in
        absurd cc
    by_number (inr other) rest =
        held-further b cells ns old n t i is other
        ∙ rest (sym (ap (λ (x : Bool). x || is_among t ns) (ne_eqb n t other)) ∙ among)

-- Each of them stands.
pub stand-append : (b : List ℕ) (xs ys : List Body) → AllStand b xs → AllStand b ys → AllStand b (xs ++ ys)
stand-append b [] ys first rest = rest
stand-append b (x ∷ xs) ys first rest = (first.0, stand-append b xs ys first.1 rest)

held-stands : (b : List ℕ) (cells : List CellBody) (n : ℕ) (o : Option ℕ) → relocation_section b n ≡ o → AllStand b (held_body b cells o)
held-stands b cells n None e = tt
held-stands b cells n (Some k) e =
    let held : Holds b n k = first-holds b n k e in
    (record { within = λ some. held.there; full = λ some. full-holder b n k held }, tt)

pub held-stand : (b : List ℕ) (cells : List CellBody) (ns : List ℕ) → AllStand b (held_bodies b cells ns)
held-stand b cells [] = tt
held-stand b cells (n ∷ ns) =
    stand-append b (held_body b cells (relocation_section b n)) (held_bodies b cells ns) (held-stands b cells n (relocation_section b n) refl) (held-stand b cells ns)

-- Where the contents of a section stay, the section that holds its relocations does.
same-table : (g : RelocationSource) (bytes : List ℕ) → RecordsApart g bytes → ((k : ℕ) → slice_index g.table k < 256)
    → relocation_body g (cells_from (relocations_in g) 0 bytes) (cells_from (relocations_in g) 0 bytes) ≡ g.table
same-table g bytes apart small =
    sym (stays-table g bytes (cells_from (relocations_in g) 0 bytes) [] apart
    (said-kept [] 0 (cells_from (relocations_in g) 0 bytes) (cells_from (relocations_in g) 0 bytes) (λ k lt. refl) (same-self (cells_from (relocations_in g) 0 bytes))))
    ∙ table-same g small

-- each place that a record of it holds fits its word
pub source-small : (b : List ℕ) (k : ℕ) → ((n : ℕ) → slice_index b n < 256) → (n : ℕ) → slice_index (relocation_source (contents_of b) b k).table n < 256
unfolding relocation_source
source-small b k small n = contents-small b k small n

source-table : (b : List ℕ) (k : ℕ) → (relocation_source (contents_of b) b k).table ≡ contents_of b k
unfolding relocation_source
source-table b k = refl

same-body : (b : List ℕ) (t k : ℕ) → ((n : ℕ) → slice_index b n < 256) → relocation_section b t ≡ Some k → TableReads (contents_of b) b t k
    → relocation_body (relocation_source (contents_of b) b k) (old_contents b t) (old_contents b t) ≡ contents_of b k
same-body b t k small is reads =
    ap (λ (p : List Cell). relocation_body (relocation_source (contents_of b) b k) p p) (section-source (contents_of b) b t k is)
    ∙ same-table (relocation_source (contents_of b) b k) (contents_of b t) (reads-apart (contents_of b) b t k reads) (source-small b k small) ∙ source-table b k

pub holder-stays : (b : List ℕ) (cells : List CellBody) (k : ℕ) → ((n : ℕ) → slice_index b n < 256) → RelocationSectionsRead (contents_of b) b → HoldsRead b k
    → new_contents b cells (nth_section b k).info ≡ old_contents b (nth_section b k).info → relocated_body b cells k ≡ contents_of b k
unfolding relocated_body
holder-stays b cells k small reads h stays =
    ap (relocation_body (relocation_source (contents_of b) b k) (old_contents b (nth_section b k).info)) stays
    ∙ same-body b (nth_section b k).info k small h.first ((reads.all (nth_section b k).info h.read).tables k h.first)
