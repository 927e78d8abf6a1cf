-- What is left out of a file and of a section is what the holes of the code leave out.
use Rattle.std.proofs.Common.{Bool, true, false, ◌≡◌, ◌==◌, ◌&&◌, ◌||◌, ℕ, ◌+◌, ◌-◌, ◌<◌, ◌≤◌, List, length, slice_index, refl, ap, sym, subst, ◌∙◌, arith}
use Rattle.std.proofs.lemmas.Bool.Decides.{nat_tests}
use Rattle.std.specs.Prelude.{◌^◌, Option, Some, None, IfSome, MatchOption, get_or}
use Rattle.build_ident.specs.declared.place.SectionId.{SectionId}
use Rattle.dw_base.proofs.ListLaws.{get_or-tabulate, length-tabulate}
use Rattle.dw_base.proofs.ReadsBackLaws.{tabulate-ext}
use Rattle.dw_base.specs.Elf.{class_of, contents_of, nth_section, shnum_place, shoff_place, shstrndx_place, word_size}
use Rattle.dw_base.specs.Layout.{output_limit}
use Rattle.dw_base.specs.Notes.{BuildId, build_id_of}
use Rattle.dw_base.specs.declared.records.Segment.{Segment}
use Rattle.dw_meaning.specs.Loaded.{in_id_at, in_own_id, in_section_field, lies_within, loaded_byte, section_image, segment_image, unless_left_out}
use Rattle.dbg_check.specs.Images.{SameIn, byte_at, file_holes, hole_if, id_hole, image_of, is_in, is_left_out, lone_hole, no_hole, own_hole}
use Rattle.dbg_check.specs.Loads.{as_id}
use Rattle.dbg_check.specs.declared.holes.Hole.{Hole}
use Rattle.dbg_check.specs.declared.holes.Holes.{Holes}

-- ### Holes

none-in : (place : ℕ) → is_in no_hole place ≡ false
none-in place = none 0 0 place (omega arith)
  where
    none : (at n place : ℕ) → at + n ≤ place → lies_within at n place ≡ false
    none at n place le = grind (arith, nat_tests)

id-in : (b : List ℕ) (o : Option BuildId) (place : ℕ) → is_in (id_hole b o) place ≡ in_id_at b o place
id-in b None place = none-in place
id-in b (Some id) place = refl

own-in : (i : ℕ) (o : Option BuildId) (place : ℕ) → is_in (own_hole i o) place ≡ in_own_id i o place
own-in i None place = none-in place
own-in i (Some id) place = by (i == id.section)
  where
    by : (t : Bool) → is_in (hole_if t id.descriptor) place ≡ (t && lies_within id.descriptor.place id.descriptor.size place)
    by true = refl
    by false = none-in place

group : (a b c d : Bool) → (a || (b || (c || d))) ≡ (a || b || c || d)
group true b c d = refl
group false true c d = refl
group false false true d = refl
group false false false d = refl

-- what is left out of a file that is loaded as it stands
file-left : (b : List ℕ) (place : ℕ) → is_left_out (file_holes b) place ≡ (in_section_field b place || in_id_at b (build_id_of b) place)
file-left b place =
    group (lies_within (shoff_place (class_of b)) (word_size (class_of b)) place) (lies_within (shnum_place (class_of b)) 2 place)
    (lies_within (shstrndx_place (class_of b)) 2 place) (is_in (id_hole b (build_id_of b)) place)
    ∙ ap (λ (left : Bool). in_section_field b place || left) (id-in b (build_id_of b) place)

-- what is left out of a section
lone-left : (i : ℕ) (o : Option BuildId) (place : ℕ) → is_left_out (lone_hole (own_hole i o)) place ≡ in_own_id i o place
lone-left i o place = (λ j. none-in place j || (none-in place j || (none-in place j || is_in (own_hole i o) place))) ∙ own-in i o place

-- ### Images

pub file-image : (b : List ℕ) (s : Segment) → segment_image b s ≡ image_of b (file_holes b) s.offset s.filesz
unfolding segment_image loaded_byte
file-image b s =
    tabulate-ext (λ k. unless_left_out (in_section_field b (s.offset + k) || in_id_at b (build_id_of b) (s.offset + k)) (slice_index b (s.offset + k)))
    (λ k. byte_at b (file_holes b) (s.offset + k)) s.filesz
    (λ k lt. ap (λ (left : Bool). unless_left_out left (slice_index b (s.offset + k))) (sym (file-left b (s.offset + k))))

pub section-lone : (b : List ℕ) (i : ℕ) → section_image b i ≡ image_of (contents_of b i) (lone_hole (own_hole i (build_id_of b))) 0 (length (contents_of b i))
unfolding section_image
section-lone b i =
    tabulate-ext (λ k. unless_left_out (in_own_id i (build_id_of b) k) (slice_index (contents_of b i) k))
    (λ k. byte_at (contents_of b i) (lone_hole (own_hole i (build_id_of b))) (0 + k)) (length (contents_of b i)) by
  where
    by : (k : ℕ) → k < length (contents_of b i)
        → unless_left_out (in_own_id i (build_id_of b) k) (slice_index (contents_of b i) k) ≡ byte_at (contents_of b i) (lone_hole (own_hole i (build_id_of b))) (0 + k)
    by k lt =
        let same : 0 + k ≡ k = omega arith in
        ap (λ (left : Bool). unless_left_out left (slice_index (contents_of b i) k)) (sym (lone-left i (build_id_of b) k))
        ∙ ap (λ (p : ℕ). byte_at (contents_of b i) (lone_hole (own_hole i (build_id_of b))) p) (sym same)

-- images of as many bytes are the same exactly where the bytes are
pub image-same : (old new : List ℕ) (h k : Holes) (from n : ℕ) → SameIn old new h k from (from + n) → image_of old h from n ≡ image_of new k from n
image-same old new h k from n same =
    tabulate-ext (λ i. byte_at old h (from + i)) (λ i. byte_at new k (from + i)) n (λ i lt. same.same (from + i) (omega arith) (omega (arith, lt)))

pub same-image : (old new : List ℕ) (h k : Holes) (from n : ℕ) → image_of old h from n ≡ image_of new k from n → SameIn old new h k from (from + n)
same-image old new h k from n images = record { same = by }
  where
    by : (p : ℕ) → from ≤ p → p < from + n → byte_at old h p ≡ byte_at new k p
    by p past to =
        let within : p - from < n = omega (arith, past, to) in
        let place : from + (p - from) ≡ p = omega (arith, past) in
        let one : byte_at old h (from + (p - from)) ≡ byte_at new k (from + (p - from)) =
        sym (get_or-tabulate (λ i. byte_at old h (from + i)) n (p - from) None within)
        ∙ ap (λ (xs : List (Option ℕ)). get_or xs (p - from) None) images
        ∙ get_or-tabulate (λ i. byte_at new k (from + i)) n (p - from) None within in
        subst (λ (q : ℕ). byte_at old h q ≡ byte_at new k q) place one

pub image-length : (b : List ℕ) (h : Holes) (from n : ℕ) → length (image_of b h from n) ≡ n
image-length b h from n = length-tabulate (λ i. byte_at b h (from + i)) n

-- ### The build-id as the code has it

pub id-some : (b : List ℕ) (section place size : ℕ) → build_id_of b ≡ Some (record { section = section; descriptor = record { place = place; size = size } })
    → ◌≡◌ {A = Hole} (record { at = (nth_section b section).offset + place; len = size }) (id_hole b (build_id_of b))
id-some b section place size is = sym (ap (id_hole b) is)

pub id-none : (b : List ℕ) (h : Hole) → h ≡ no_hole → build_id_of b ≡ None → h ≡ id_hole b (build_id_of b)
id-none b h is none = is ∙ sym (ap (id_hole b) none)

pub id-is : (b : List ℕ) (o : Option SectionId)
    → MatchOption o (build_id_of b ≡ None) (λ f. build_id_of b ≡ Some (record { section = f.section; descriptor = record { place = f.place; size = f.size } }))
    → as_id o ≡ build_id_of b
id-is b None is = sym is
id-is b (Some f) is = sym is

pub id-small : (b : List ℕ) (o : Option SectionId) → length b ≤ output_limit → IfSome o (λ id. (nth_section b id.section).offset + (id.place + id.size) ≤ length b)
    → IfSome o (λ id. id.place + id.size < 2 ^ 64)
id-small b None small inside = inside
id-small b (Some id) small inside = omega (arith, small, inside)

pub ruleset id_laws = (id-some, id-none)

pub ruleset both_laws = (id-is, id-small)
