-- Laws of the build-id of a file: where it lies, what is refused, and what is put.
use Rattle.std.proofs.Common.{◌≡◌, ◌≢◌, ℕ, ◌+◌, ◌*◌, ◌<◌, ◌≤◌, ◌==◌, ◌&&◌, Bool, true, false, not, min, replicate, List, [], ◌++◌, length, take, drop, Option, Some, None, refl, sym, ap, ◌∙◌, arith, subst}
use Rattle.std.proofs.lemmas.List.{length-take, length-drop}
use Rattle.dw_base.specs.Elf.{class_of, order_of, ehdr_size, phdr_size, e_phoff, e_phnum, nth_section, section_count, contents_of, contents_at, is_empty_kind}
use Rattle.dw_base.specs.ElfFails.{DebugReads}
use Rattle.dw_base.specs.Notes.{Descriptor, build_id_at, build_id_in, build_id_of, id_in}
use Rattle.dw_base.specs.Refusals.{at}
use Rattle.dw_base.specs.declared.fault.Kind.TheVariants.{BuildId}
use Rattle.dw_base.specs.declared.fault.Refusal.{Refusal}
use Rattle.dw_base.specs.declared.records.Section.{Section}
use Rattle.elf_file.proofs.ElfFileLaws.{section-lies}
use Rattle.build_ident.specs.IdFails.{id_section, id_place, overlap, IdFails, IsId, IsOwn, IsShared, IsIdPlace}
use Rattle.build_ident.specs.IdFails.IdFails.{unfit, header, segments, section}
use Rattle.build_ident.specs.IdFails.IsIdPlace.{id}

-- a section whose contents have bytes lies in the file
contents-cases : (b : List ℕ) (s : Section) (empty : Bool) (n : ℕ) → is_empty_kind s ≡ empty → 0 < n → n ≤ length (contents_at b s)
    → (is_empty_kind s ≡ false → s.size ≢ 0 → s.offset + s.size ≤ length b) → s.offset + n ≤ length b
unfolding contents_at
contents-cases b s true n e some fits lies = absurd (none (rw e at fits))
  where
    none : n ≤ 0 → ⊥
    none h = omega (arith, some, h)
contents-cases b s false n e some fits lies =
    let taken : n ≤ length (take s.size (drop s.offset b)) = rw e at fits in
    let size : n ≤ s.size = omega (arith, taken, length-take s.size (drop s.offset b)) in
    let inside : s.offset + s.size ≤ length b = lies e (positive size) in
    omega (arith, size, inside)
  where
    positive : n ≤ s.size → s.size ≢ 0
    positive h none = omega (arith, some, h, none)

pub id-lies : (b : List ℕ) (i n : ℕ) (xs : List ℕ) → DebugReads b → i < section_count b → xs ≡ contents_of b i → 0 < n → n ≤ length xs
    → (nth_section b i).offset + n ≤ length b
unfolding contents_of
id-lies b i n xs reads lt xs_is some fits =
    contents-cases b (nth_section b i) (is_empty_kind (nth_section b i)) n refl some (rw xs_is at fits) (section-lies b i reads lt)

pub ruleset field_rules = (id-lies)

-- a file without a section for the note isn't refused
no-section : (b : List ℕ) (i : ℕ) → id_section b ≡ None → id_section b ≡ Some i → ⊥
no-section b i none some = cc

pub absent-excludes : (b : List ℕ) → id_section b ≡ None → (r : Refusal) → IdFails b r → ⊥
absent-excludes b none r (unfit i is bad) = no-section b i none is
absent-excludes b none r (header i d is below) = no-section b i none is.section
absent-excludes b none r (segments i d is some over) = no-section b i none is.section
absent-excludes b none r (section i d j is shared) = no-section b i none is.section

-- the build-id of a file is the descriptor in that section
pub id-absent : (b : List ℕ) → id_section b ≡ None → build_id_of b ≡ None
unfolding id_section build_id_of
id-absent b none = ap (λ (o : Option ℕ). build_id_in b o) none

id-by : (b : List ℕ) (i : ℕ) → id_section b ≡ Some i → build_id_of b ≡ build_id_at i (id_in (order_of b) (contents_of b i))
unfolding id_section build_id_of
id-by b i there = ap (λ (o : Option ℕ). build_id_in b o) there

pub id-unfit : (b : List ℕ) (i : ℕ) → id_section b ≡ Some i → id_in (order_of b) (contents_of b i) ≡ None → build_id_of b ≡ None
id-unfit b i there bad = id-by b i there ∙ ap (λ (o : Option Descriptor). build_id_at i o) bad

pub id-found : (b : List ℕ) (i : ℕ) (d : Descriptor) → id_section b ≡ Some i → id_in (order_of b) (contents_of b i) ≡ Some d
    → build_id_of b ≡ Some (record { section = i; descriptor = d })
id-found b i d there is = id-by b i there ∙ ap (λ (o : Option Descriptor). build_id_at i o) is

-- neither is one whose id has its bytes alone
same-section : (b : List ℕ) (i j : ℕ) → id_section b ≡ Some i → id_section b ≡ Some j → i ≡ j
same-section b i j e f = cc

same-id : (b : List ℕ) (i j : ℕ) (d e : Descriptor) → IsId b i d → IsId b j e → (i ≡ j) × (d ≡ e)
same-id b i j d e p q =
    let here : i ≡ j = same-section b i j p.section q.section in
    (here, same_field _ p.descriptor (subst (λ (k : ℕ). id_in (order_of b) (contents_of b k) ≡ Some e) (sym here) q.descriptor))
  where
    same_field : (o : Option Descriptor) → o ≡ Some d → o ≡ Some e → d ≡ e
    same_field o x y = cc

moved : (P : ℕ → Descriptor → Type 0) (i j : ℕ) (d e : Descriptor) → (i ≡ j) × (d ≡ e) → P j e → P i d
moved P i j d e same h = subst (λ (x : Descriptor). P i x) (sym same.1) (subst (λ (k : ℕ). P k e) (sym same.0) h)

pub own-excludes : (b : List ℕ) (i : ℕ) (d : Descriptor) → IsId b i d → IsOwn b i d → (r : Refusal) → IdFails b r → ⊥
own-excludes b i d is own r (unfit j there bad) =
    let same : j ≡ i = same-section b j i there is.section in
    no_field _ is.descriptor (subst (λ (k : ℕ). id_in (order_of b) (contents_of b k) ≡ None) same bad)
  where
    no_field : (o : Option Descriptor) → o ≡ Some d → o ≡ None → ⊥
    no_field o x y = cc
own-excludes b i d is own r (header j e is_j below) =
    let here : id_place b i d < ehdr_size (class_of b) = moved (λ k x. id_place b k x < ehdr_size (class_of b)) i j d e (same-id b i j d e is is_j) below in
    omega (arith, here, own.header)
own-excludes b i d is own r (segments j e is_j some over) =
    let here : overlap (id_place b i d) d.size (e_phoff b) (e_phnum b * phdr_size (class_of b)) ≡ true =
    moved (λ k x. overlap (id_place b k x) x.size (e_phoff b) (e_phnum b * phdr_size (class_of b)) ≡ true) i j d e (same-id b i j d e is is_j) over in
    both _ here (own.segments some)
  where
    both : (t : Bool) → t ≡ true → t ≡ false → ⊥
    both t x y = cc
own-excludes b i d is own r (section j e k is_j shared) =
    let here : IsShared b i d k = moved (λ n x. IsShared b n x k) i j d e (same-id b i j d e is is_j) shared in
    both _ here.shares (own.sections k here.within here.other)
  where
    both : (t : Bool) → t ≡ true → t ≡ false → ⊥
    both t x y = cc

-- what was found
pub is-id : (b : List ℕ) (i : ℕ) (d : Descriptor) → id_section b ≡ Some i → id_in (order_of b) (contents_of b i) ≡ Some d → IsId b i d
is-id b i d there field = record { section = there; descriptor = field }

pub fails-unfit : (b : List ℕ) (i : ℕ) (r : Refusal) → id_section b ≡ Some i → id_in (order_of b) (contents_of b i) ≡ None → r ≡ at BuildId i 0 → IdFails b r
fails-unfit b i r there bad r_is = subst (IdFails b) (sym r_is) (unfit i there bad)

pub found-place : (b : List ℕ) (i place : ℕ) (d : Descriptor) → IsId b i d → IsOwn b i d → place ≡ id_place b i d → IsIdPlace b place d.size
found-place b i place d is own place_is = subst (λ (k : ℕ). IsIdPlace b k d.size) (sym place_is) (id i d is own)

pub ruleset find_rules = (absent-excludes)

pub ruleset found_rules = (own-excludes, is-id, fails-unfit, found-place)

pub ruleset section_rules = (id-absent, id-unfit, id-found)

pub ruleset id_rules = (length-take, length-drop)
