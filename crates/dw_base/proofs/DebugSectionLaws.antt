-- Laws of the table of sections of debug data.
use Rattle.std.proofs.Common.{◌≡◌, ℕ, suc, ◌+◌, ◌<◌, ◌≤◌, Bool, true, false, if◌then◌else◌, List, [], ◌∷◌, ◌++◌, length, map, get_or, IsTrue, ◌↔◌, Option, Some, refl, sym, ap, ◌∙◌, arith}
use Rattle.dw_base.specs.DebugSections.{read_sections, carried_names, listed_names, listed_number, is_listed, debug_section, section_in, name_of}
use Rattle.dw_base.specs.SectionNames.{index_in}
use Rattle.dw_base.specs.Texts.{is_in, same_text}
use Rattle.dw_base.specs.declared.debug_sections.DebugSection.{DebugSection}
use Rattle.dw_base.specs.declared.debug_sections.DebugSection.TheVariants.{Info, Types, Abbrev, Str, LineStr, StrOffsets, Line, Macro, Names}
use Rattle.dw_base.proofs.TextLaws.{same_text-true}

some-same : (x s : DebugSection) → Some x ≡ Some s → x ≡ s
some-same x s e = cc

-- a text that stands in the first of two lists, or stands behind it
index_in-step : (t : Bool) (n : ℕ) (xs ys : List (List ℕ)) (name : List ℕ)
    → (index_in xs name < length xs → index_in (xs ++ ys) name ≡ index_in xs name) → (if t then 0 else suc (index_in xs name)) < suc (length xs)
    → (if t then 0 else suc (index_in (xs ++ ys) name)) ≡ (if t then 0 else suc (index_in xs name))
index_in-step true n xs ys name rest lt = refl
index_in-step false n xs ys name rest lt = ap suc (rest (omega arith))

pub index_in-front : (xs ys : List (List ℕ)) (name : List ℕ) → index_in xs name < length xs → index_in (xs ++ ys) name ≡ index_in xs name
index_in-front [] ys name lt = absurd (omega arith)
index_in-front (x ∷ xs) ys name lt = index_in-step (same_text x name) 0 xs ys name (index_in-front xs ys name) lt

index_in-past : (t : Bool) (xs ys : List (List ℕ)) (name : List ℕ)
    → (length xs ≤ index_in xs name → index_in (xs ++ ys) name ≡ length xs + index_in ys name) → suc (length xs) ≤ (if t then 0 else suc (index_in xs name))
    → (if t then 0 else suc (index_in (xs ++ ys) name)) ≡ suc (length xs) + index_in ys name
index_in-past true xs ys name rest le = absurd (omega arith)
index_in-past false xs ys name rest le = let e = rest (omega arith) in omega (arith, e)

pub index_in-behind : (xs ys : List (List ℕ)) (name : List ℕ) → length xs ≤ index_in xs name
    → index_in (xs ++ ys) name ≡ length xs + index_in ys name
index_in-behind [] ys name le = omega arith
index_in-behind (x ∷ xs) ys name le = index_in-past (same_text x name) xs ys name (index_in-behind xs ys name) le

-- a name's number, by its place among those that are read and those that are carried
pub listed_number-read : (name : List ℕ) (n : ℕ) → n ≡ index_in (map name_of read_sections) name → n < 9 → n ≡ listed_number name
unfolding listed_number
listed_number-read name n is lt = is ∙ sym (index_in-front (map name_of read_sections) carried_names name (omega (arith, is)))

pub listed_number-carried : (name : List ℕ) (n m : ℕ) → n ≡ index_in (map name_of read_sections) name → 9 ≤ n → m ≡ index_in carried_names name
    → 9 + m ≡ listed_number name
unfolding listed_number
listed_number-carried name n m is le carried =
    ap (λ (k : ℕ). 9 + k) carried ∙ sym (index_in-behind (map name_of read_sections) carried_names name (omega (arith, is)))

-- a text is in a list exactly where it has a place there
below-step : (t : Bool) (n len : ℕ) (rest : Bool) → (rest ≡ true → n < len) → (if t then true else rest) ≡ true → (if t then 0 else suc n) < suc len
below-step true n len rest below e = omega arith
below-step false n len rest below e = let lt = below e in omega arith

is_in-below : (ts : List (List ℕ)) (t : List ℕ) → is_in ts t ≡ true → index_in ts t < length ts
is_in-below [] t e = absurd cc
is_in-below (u ∷ us) t e = below-step (same_text u t) (index_in us t) (length us) (is_in us t) (is_in-below us t) e

in-step : (t : Bool) (n len : ℕ) (rest : Bool) → (n < len → rest ≡ true) → (if t then 0 else suc n) < suc len → (if t then true else rest) ≡ true
in-step true n len rest in_ lt = refl
in-step false n len rest in_ lt = in_ (omega arith)

below-is_in : (ts : List (List ℕ)) (t : List ℕ) → index_in ts t < length ts → is_in ts t ≡ true
below-is_in [] t lt = absurd (omega arith)
below-is_in (u ∷ us) t lt = in-step (same_text u t) (index_in us t) (length us) (is_in us t) (below-is_in us t) lt

-- so a name is listed exactly where its number is below the count of names
pub listed_number-listed : (name : List ℕ) (n : ℕ) → n ≡ listed_number name → IsTrue (is_listed name) ↔ (n < 22)
unfolding is_listed listed_number
listed_number-listed name n is = (
  λ yes_. (let lt = is_in-below listed_names name yes_ in omega (arith, is)),
  λ lt. below-is_in listed_names name (omega (arith, is)),
)

-- what stands at a text's place is the text
place-step : (u t : List ℕ) (same : Bool) (us : List (List ℕ)) → same_text u t ≡ same → (index_in us t < length us → get_or us (index_in us t) [] ≡ t)
    → (if same then 0 else suc (index_in us t)) < suc (length us) → get_or (u ∷ us) (if same then 0 else suc (index_in us t)) [] ≡ t
place-step u t true us e rest lt = same_text-true u t e
place-step u t false us e rest lt = rest (omega arith)

pub index_in-place : (ts : List (List ℕ)) (t : List ℕ) → index_in ts t < length ts → get_or ts (index_in ts t) [] ≡ t
index_in-place [] t lt = absurd (omega arith)
index_in-place (u ∷ us) t lt = place-step u t (same_text u t) us refl (index_in-place us t) lt

-- two listed names of one number are one name
pub listed_number-once : (n m : List ℕ) → listed_number n < 22 → listed_number n ≡ listed_number m → n ≡ m
unfolding listed_number
listed_number-once n m lt same =
    sym (index_in-place listed_names n lt) ∙ ap (λ (k : ℕ). get_or listed_names k []) same ∙ index_in-place listed_names m (omega (arith, same))

-- each section that is read is found by its name
pub debug_section-name : (s : DebugSection) → debug_section (name_of s) ≡ Some s
unfolding debug_section
debug_section-name Info = refl
debug_section-name Types = refl
debug_section-name Abbrev = refl
debug_section-name Str = refl
debug_section-name LineStr = refl
debug_section-name StrOffsets = refl
debug_section-name Line = refl
debug_section-name Macro = refl
debug_section-name Names = refl

-- and what is found by a name has it
named-step : (name : List ℕ) (x s : DebugSection) (same : Bool) (rest : Option DebugSection) → same_text name (name_of x) ≡ same
    → (rest ≡ Some s → name ≡ name_of s) → (if same then Some x else rest) ≡ Some s → name ≡ name_of s
named-step name x s true rest e next is = same_text-true name (name_of x) e ∙ ap (λ (y : DebugSection). name_of y) (some-same x s is)
named-step name x s false rest e next is = next is

section_in-named : (ss : List DebugSection) (name : List ℕ) (s : DebugSection) → section_in ss name ≡ Some s → name ≡ name_of s
section_in-named [] name s is = absurd cc
section_in-named (x ∷ xs) name s is = named-step name x s (same_text name (name_of x)) (section_in xs name) refl (section_in-named xs name s) is

pub debug_section-named : (name : List ℕ) (s : DebugSection) → debug_section name ≡ Some s → name ≡ name_of s
unfolding debug_section
debug_section-named name s is = section_in-named read_sections name s is
