-- The build-id among the notes of a section: it lies in the section, behind all that is looked at to find it; so other bytes in its place
-- are the build-id as well.
use Rattle.std.proofs.Common.{Bool, true, false, ◌≡◌, ℕ, zero, suc, ◌+◌, ◌<◌, ◌≤◌, ◌==◌, ◌&&◌, nat_le, codes, List, length, take, drop, slice_index, cond, if◌then◌else◌, Some, None, sym, ap, ◌∙◌, refl, subst, arith}
use Rattle.std.proofs.lemmas.Bool.Decides.{nat_tests}
use Rattle.std.proofs.lemmas.List.{get_or-take, get_or-drop, get_or_default, length-take, length-drop, same_lists}
use Rattle.dw_base.specs.Layout.{padding}
use Rattle.dw_base.specs.Notes.{Descriptor, descriptor_at, id_among, id_in, if_id, is_id_note, next_note}
use Rattle.dw_base.specs.Numbers.{spelled}
use Rattle.dw_base.specs.Texts.{same_text}
use Rattle.dw_base.specs.declared.elf_numbers.TheConstants.{NT_GNU_BUILD_ID}
use Rattle.dw_base.specs.declared.shared.Order.{Order}
use Rattle.dw_base.proofs.NumberLaws.{spelled-ext}

and-left : (p q : Bool) → (p && q) ≡ true → p ≡ true
and-left true q h = refl
and-left false q h = cc

and-right : (p q : Bool) → (p && q) ≡ true → q ≡ true
and-right true q h = h
and-right false q h = cc

le-is : (m n : ℕ) → nat_le m n ≡ true → m ≤ n
le-is m n h = grind (arith, nat_tests)

eq-is : (m n : ℕ) → (m == n) ≡ true → m ≡ n
eq-is m n h = grind (arith, nat_tests)

-- ### What is found

-- the descriptor that is found has this place and size
record IsFound (xs : List ℕ) (at : ℕ) (d : Descriptor) : Type 0 where
  behind : at + 16 ≤ d.place
  inside : d.place + d.size ≤ length xs
  some : 2 ≤ d.size
  wide : d.size ≤ 20

if_id-is : (xs : List ℕ) (c d : Descriptor) → if_id xs c ≡ Some d → (c ≡ d) × ((nat_le (c.place + c.size) (length xs) && (nat_le 2 c.size && nat_le c.size 20)) ≡ true)
if_id-is xs c d e = by_test (nat_le (c.place + c.size) (length xs) && (nat_le 2 c.size && nat_le c.size 20)) refl e
  where
    by_test : (t : Bool) → (nat_le (c.place + c.size) (length xs) && (nat_le 2 c.size && nat_le c.size 20)) ≡ t → cond t (Some c) None ≡ Some d
        → (c ≡ d) × ((nat_le (c.place + c.size) (length xs) && (nat_le 2 c.size && nat_le c.size 20)) ≡ true)
    by_test true is f = let same : c ≡ d = cc in (same, is)
    by_test false is f = cc

note-size : (order : Order) (xs : List ℕ) (at : ℕ) → is_id_note order xs at ≡ true → spelled order xs at 4 ≡ 4
unfolding is_id_note
note-size order xs at note =
    eq-is (spelled order xs at 4) 4
    (and-left (spelled order xs at 4 == 4) (spelled order xs (at + 8) 4 == NT_GNU_BUILD_ID)
    (and-left (spelled order xs at 4 == 4 && spelled order xs (at + 8) 4 == NT_GNU_BUILD_ID) (same_text (take 4 (drop (at + 12) xs)) (codes "GNU\0")) note))

note-place : (order : Order) (xs : List ℕ) (at : ℕ) → is_id_note order xs at ≡ true → (descriptor_at order xs at).place ≡ at + 16
unfolding descriptor_at padding
note-place order xs at note = rw (note-size order xs at note) (omega arith)

place-behind : (order : Order) (xs : List ℕ) (at : ℕ) → at + 12 ≤ (descriptor_at order xs at).place
unfolding descriptor_at
place-behind order xs at = omega arith

found-here : (order : Order) (xs : List ℕ) (at : ℕ) (d : Descriptor) → is_id_note order xs at ≡ true → if_id xs (descriptor_at order xs at) ≡ Some d → IsFound xs at d
found-here order xs at d note e =
    let c : Descriptor = descriptor_at order xs at in
    let is = if_id-is xs (descriptor_at order xs at) d e in
    let place : d.place ≡ at + 16 = ap (λ (x : Descriptor). x.place) (sym is.0) ∙ note-place order xs at note in
    let tests : (nat_le (d.place + d.size) (length xs) && (nat_le 2 d.size && nat_le d.size 20)) ≡ true =
    subst (λ (x : Descriptor). (nat_le (x.place + x.size) (length xs) && (nat_le 2 x.size && nat_le x.size 20)) ≡ true) is.0 is.1 in
    let sizes = and-right (nat_le (d.place + d.size) (length xs)) (nat_le 2 d.size && nat_le d.size 20) tests in
    record {
      behind = omega (arith, place);
      inside = le-is (d.place + d.size) (length xs) (and-left (nat_le (d.place + d.size) (length xs)) (nat_le 2 d.size && nat_le d.size 20) tests);
      some = le-is 2 d.size (and-left (nat_le 2 d.size) (nat_le d.size 20) sizes);
      wide = le-is d.size 20 (and-right (nat_le 2 d.size) (nat_le d.size 20) sizes);
    }

among-found : (n : ℕ) (order : Order) (xs : List ℕ) (at : ℕ) (d : Descriptor) → id_among n order xs at ≡ Some d → IsFound xs at d
among-found zero order xs at d e = cc
among-found (suc n) order xs at d e =
    by_fits (nat_le (at + 12) (length xs)) (λ f. among-found n order xs (next_note (descriptor_at order xs at)) d f) e
  where
    by_note : (t : Bool) → is_id_note order xs at ≡ t
        → (id_among n order xs (next_note (descriptor_at order xs at)) ≡ Some d → IsFound xs (next_note (descriptor_at order xs at)) d)
        → cond t (if_id xs (descriptor_at order xs at)) (id_among n order xs (next_note (descriptor_at order xs at))) ≡ Some d → IsFound xs at d
    by_note true note rest f = found-here order xs at d note f
    by_note false note rest f =
        let found = rest f in
        let behind = place-behind order xs at in
        let later = found.behind in
        record { behind = omega (arith, behind, later); inside = found.inside; some = found.some; wide = found.wide }

    by_fits : (t : Bool) → (id_among n order xs (next_note (descriptor_at order xs at)) ≡ Some d → IsFound xs (next_note (descriptor_at order xs at)) d)
        → cond t (if is_id_note order xs at then if_id xs (descriptor_at order xs at) else id_among n order xs (next_note (descriptor_at order xs at))) None ≡ Some d
        → IsFound xs at d
    by_fits true rest f = by_note (is_id_note order xs at) refl rest f
    by_fits false rest f = cc

-- the build-id of a section lies in it and has 2 to 20 bytes
pub record IsDescriptor (xs : List ℕ) (d : Descriptor) : Type 0 where
  pub inside : d.place + d.size ≤ length xs
  pub some : 2 ≤ d.size
  pub wide : d.size ≤ 20

pub id_in-inside : (order : Order) (xs : List ℕ) (d : Descriptor) → id_in order xs ≡ Some d → IsDescriptor xs d
unfolding id_in
id_in-inside order xs d e =
    let found = among-found (length xs) order xs 0 d e in
    record { inside = found.inside; some = found.some; wide = found.wide }

-- ### Other bytes in its place

-- bytes of one length, that are the same before a place
pub record SameBefore (place : ℕ) (old new : List ℕ) : Type 0 where
  pub long : length new ≡ length old
  pub same : (k : ℕ) → k < place → slice_index new k ≡ slice_index old k

pub part-same : (old new : List ℕ) (p n : ℕ) → length new ≡ length old → ((k : ℕ) → k < n → slice_index new (p + k) ≡ slice_index old (p + k)) → take n (drop p new) ≡ take n (drop p old)
part-same old new p n long same =
    let size : length (take n (drop p new)) ≡ length (take n (drop p old)) = omega (arith, length-take n (drop p new), length-take n (drop p old), length-drop p new, length-drop p old, long) in
    same_lists (take n (drop p new)) (take n (drop p old)) size
    (λ k d lt.
    let below : k < n = omega (arith, lt, length-take n (drop p new)) in
    let there : k < length (take n (drop p old)) = omega (arith, lt, size) in
    get_or_default (take n (drop p new)) k d 0 lt
    ∙ get_or-take n (drop p new) k 0 below ∙ get_or-drop p new k 0 ∙ same k below
    ∙ sym (get_or-drop p old k 0) ∙ sym (get_or-take n (drop p old) k 0 below)
    ∙ sym (get_or_default (take n (drop p old)) k d 0 there))

number-same : (order : Order) (old new : List ℕ) (place p n : ℕ) → SameBefore place old new → p + n ≤ place → spelled order new p n ≡ spelled order old p n
number-same order old new place p n s le = spelled-ext order new old p p n (λ k lt. s.same (p + k) (omega (arith, lt, le)))

note-same : (order : Order) (old new : List ℕ) (place at : ℕ) → SameBefore place old new → at + 16 ≤ place → is_id_note order new at ≡ is_id_note order old at
unfolding is_id_note
note-same order old new place at s le =
    rw (
      number-same order old new place at 4 s (omega (arith, le)),
      number-same order old new place (at + 8) 4 s (omega (arith, le)),
      part-same old new (at + 12) 4 s.long (λ k lt. s.same (at + 12 + k) (omega (arith, lt, le))),
    ) refl

descriptor-same : (order : Order) (old new : List ℕ) (place at : ℕ) → SameBefore place old new → at + 16 ≤ place → descriptor_at order new at ≡ descriptor_at order old at
unfolding descriptor_at
descriptor-same order old new place at s le =
    rw (number-same order old new place at 4 s (omega (arith, le)), number-same order old new place (at + 4) 4 s (omega (arith, le))) refl

among-kept : (n : ℕ) (order : Order) (old new : List ℕ) (at : ℕ) (d : Descriptor) → id_among n order old at ≡ Some d → SameBefore d.place old new → id_among n order new at ≡ Some d
among-kept zero order old new at d e s = cc
among-kept (suc n) order old new at d e s =
    let found = among-found (suc n) order old at d e in
    let c : Descriptor = descriptor_at order old at in
    rw (s.long, note-same order old new d.place at s found.behind, descriptor-same order old new d.place at s found.behind)
    (by_fits (nat_le (at + 12) (length old)) (is_id_note order old at) (λ f. among-kept n order old new (next_note (descriptor_at order old at)) d f s) e)
  where
    by_fits : (t u : Bool) → (id_among n order old (next_note (descriptor_at order old at)) ≡ Some d → id_among n order new (next_note (descriptor_at order old at)) ≡ Some d)
        → cond t (cond u (if_id old (descriptor_at order old at)) (id_among n order old (next_note (descriptor_at order old at)))) None ≡ Some d
        → cond t (cond u (if_id old (descriptor_at order old at)) (id_among n order new (next_note (descriptor_at order old at)))) None ≡ Some d
    by_fits true true rest f = f
    by_fits true false rest f = rest f
    by_fits false u rest f = f

pub id_in-kept : (order : Order) (old new : List ℕ) (d : Descriptor) → id_in order old ≡ Some d → SameBefore d.place old new → id_in order new ≡ Some d
unfolding id_in
id_in-kept order old new d e s = ap (λ (n : ℕ). id_among n order new 0) s.long ∙ among-kept (length old) order old new 0 d e s
