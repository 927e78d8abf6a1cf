-- Where the sections of a file stand that was written with new bodies: those that move one behind another, and all of them before the
-- section headers.
use Rattle.std.proofs.Common.{true, false, ◌≡◌, ◌≢◌, ◌⊎◌, inl, inr, ℕ, suc, ◌+◌, ◌<◌, ◌≤◌, List, [], ◌∷◌, length, ap, ◌∙◌, arith}
use Rattle.std.proofs.lemmas.Bool.{cases_Bool}
use Rattle.dw_base.specs.Elf.{e_shoff, is_empty_kind, nth_section, section_count}
use Rattle.dw_base.specs.Layout.{Part, extended, fixed_end, is_fixed, padding, part_of, with_bodies}
use Rattle.dw_base.specs.Lists.{tabulate}
use Rattle.dw_base.specs.declared.records.Section.{Section}
use Rattle.dw_base.proofs.FixedPartLaws.{fixed-ends}
use Rattle.dw_base.proofs.LayoutLaws.{laid-append, laid-longer, laid_tabulate-longer}
use Rattle.dw_base.proofs.WrittenContents.{fixed-stays, full-moves, head-stays, new_head-moves}
use Rattle.dw_base.proofs.WrittenHeaders.{e_shoff-is, lengths}
use Rattle.dw_base.proofs.WrittenLaws.{IsWritten, front_of, laid_of}
use Rattle.dw_base.proofs.WrittenSections.{before_of, moved-length, nth-is, part-moves}

-- a section of a number that moves: what is laid before it, and where it ends
pub record Moves (b : List ℕ) (bodies : ℕ → List ℕ) (i : ℕ) (s : Section) : Type 0 where
  pub behind : length (before_of b bodies i) ≤ s.offset
  pub ends : s.offset + s.size ≡ length (before_of b bodies (suc i))

before-more : (b : List ℕ) (bodies : ℕ → List ℕ) (i : ℕ) → before_of b bodies (suc i) ≡ extended (before_of b bodies i) (part_of b bodies i)
before-more b bodies i = laid-append (front_of b) (tabulate (part_of b bodies) i) (part_of b bodies i ∷ [])

pub moves-full : (b : List ℕ) (bodies : ℕ → List ℕ) (i : ℕ) → is_empty_kind (nth_section b i) ≡ false → is_fixed b (nth_section b i) ≡ false → (part_of b bodies i).moves ≡ true
moves-full b bodies i full free = part-moves b bodies i ∙ full-moves (is_empty_kind (nth_section b i)) (is_fixed b (nth_section b i)) full free

pub moves-to : (b : List ℕ) (bodies : ℕ → List ℕ) (i : ℕ) → IsWritten b bodies → i < section_count b → is_empty_kind (nth_section b i) ≡ false
    → is_fixed b (nth_section b i) ≡ false → Moves b bodies i (nth_section (with_bodies b bodies) i)
moves-to b bodies i w lt full free =
    let p : Part = part_of b bodies i in
    let before : List ℕ = before_of b bodies i in
    let moves : (part_of b bodies i).moves ≡ true = moves-full b bodies i full free in
    let head : nth_section (with_bodies b bodies) i ≡ record (part_of b bodies i).head { offset = length (before_of b bodies i) + padding (length (before_of b bodies i)) (part_of b bodies i).head.align; size = length (part_of b bodies i).body } =
    nth-is b bodies i w lt ∙ new_head-moves (length (before_of b bodies i)) (part_of b bodies i) moves in
    let offset : (nth_section (with_bodies b bodies) i).offset ≡ length (before_of b bodies i) + padding (length (before_of b bodies i)) (part_of b bodies i).head.align =
    ap (λ (s : Section). s.offset) head in
    let size : (nth_section (with_bodies b bodies) i).size ≡ length (part_of b bodies i).body = ap (λ (s : Section). s.size) head in
    let long : length (before_of b bodies (suc i)) ≡ length (before_of b bodies i) + padding (length (before_of b bodies i)) (part_of b bodies i).head.align + length (part_of b bodies i).body =
    ap length (before-more b bodies i) ∙ moved-length (before_of b bodies i) (part_of b bodies i) moves in
    record { behind = omega (arith, offset); ends = omega (arith, offset, size, long) }

-- one that stays is as it was
pub stays-at : (b : List ℕ) (bodies : ℕ → List ℕ) (i : ℕ) → IsWritten b bodies → i < section_count b → is_fixed b (nth_section b i) ≡ true
    → nth_section (with_bodies b bodies) i ≡ nth_section b i
stays-at b bodies i w lt fixed = head-stays b bodies i w lt (part-moves b bodies i ∙ fixed-stays (is_empty_kind (nth_section b i)) (is_fixed b (nth_section b i)) fixed)

-- where both stand: one that stays ends before the fixed end, and one that moves begins behind it
pub record StaysBefore (b : List ℕ) (s : Section) : Type 0 where
  pub ends : s.offset + s.size ≤ fixed_end b

pub stays-before : (b : List ℕ) (bodies : ℕ → List ℕ) (i : ℕ) → i < section_count b → is_fixed b (nth_section b i) ≡ true → is_empty_kind (nth_section b i) ≡ false
    → (nth_section b i).size ≢ 0 → StaysBefore b (nth_section b i)
stays-before b bodies i lt fixed full some = record { ends = fixed-ends b i lt fixed full some }

pub before-fixed : (b : List ℕ) (bodies : ℕ → List ℕ) (i : ℕ) → IsWritten b bodies → fixed_end b ≤ length (before_of b bodies i)
before-fixed b bodies i w =
    let size = lengths b bodies w in
    omega (arith, size.front, laid-longer (front_of b) (tabulate (part_of b bodies) i))

-- of two that move the first ends before the second
pub one-behind : (b : List ℕ) (bodies : ℕ → List ℕ) (i j : ℕ) (s t : Section) → Moves b bodies i s → Moves b bodies j t → i < j → s.offset + s.size ≤ t.offset
one-behind b bodies i j s t first second lt =
    omega (arith, first.ends, second.behind, laid_tabulate-longer (front_of b) (part_of b bodies) (suc i) j lt)

-- and all end before the section headers
pub before-headers : (b : List ℕ) (bodies : ℕ → List ℕ) (i : ℕ) → IsWritten b bodies → i < section_count b → is_empty_kind (nth_section b i) ≡ false
    → (nth_section (with_bodies b bodies) i).size ≢ 0
    → (nth_section (with_bodies b bodies) i).offset + (nth_section (with_bodies b bodies) i).size ≤ e_shoff (with_bodies b bodies)
before-headers b bodies i w lt full some = by_fixed (cases_Bool (is_fixed b (nth_section b i)))
  where
    by_fixed : (is_fixed b (nth_section b i) ≡ true) ⊎ (is_fixed b (nth_section b i) ≡ false)
        → (nth_section (with_bodies b bodies) i).offset + (nth_section (with_bodies b bodies) i).size ≤ e_shoff (with_bodies b bodies)
    by_fixed (inl fixed) =
        let same = stays-at b bodies i w lt fixed in
        let ends : (nth_section b i).offset + (nth_section b i).size ≤ fixed_end b =
        fixed-ends b i lt fixed full (λ none. some (ap (λ (s : Section). s.size) same ∙ none)) in
        let here : (nth_section (with_bodies b bodies) i).offset + (nth_section (with_bodies b bodies) i).size ≡ (nth_section b i).offset + (nth_section b i).size =
        ap (λ (s : Section). s.offset + s.size) same in
        omega (arith, ends, here, (lengths b bodies w).laid, (lengths b bodies w).table, e_shoff-is b bodies w)
    by_fixed (inr free) =
        let moves = moves-to b bodies i w lt full free in
        let with : length (before_of b bodies (suc i)) ≤ length (laid_of b bodies) = laid_tabulate-longer (front_of b) (part_of b bodies) (suc i) (section_count b) lt in
        omega (arith, moves.ends, with, (lengths b bodies w).table, e_shoff-is b bodies w)

pub ruleset place_rules = (before-headers)
