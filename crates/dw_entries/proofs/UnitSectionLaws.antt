-- The unit section of a number is a section of the view: its name, its bytes, and where it is.
use Rattle.std.proofs.Common.{Bool, true, false, ◌≡◌, ℕ, zero, suc, ◌+◌, ◌≤◌, ◌<◌, ◌==◌, if◌then◌else◌, List, [], ◌∷◌, ◌++◌, length, drop, Option, Some, None, refl, sym, ap, ◌∙◌, arith}
use Rattle.std.specs.Prelude.{is_some}
use Rattle.std.proofs.lemmas.Bool.{eqb-true}
use Rattle.std.proofs.lemmas.List.{drop-drop}
use Rattle.dw_base.specs.DebugSections.{debug_section}
use Rattle.dw_base.specs.FileViews.{View, ViewSection, cells_of, kind_at}
use Rattle.dw_base.specs.UnitHeaders.{UnitSection, SectionKind, in_info, in_types}
use Rattle.dw_base.specs.ViewData.{unit_kind, unit_section, unit_sections_from, unit_sections}
use Rattle.dw_base.specs.declared.debug_sections.DebugSection.{DebugSection}
use Rattle.dw_base.specs.declared.debug_sections.DebugSection.TheVariants.{Info, Types, Abbrev, Str, LineStr, StrOffsets, Line, Macro, Names}
use Rattle.dw_base.proofs.ViewCellLaws.{view_cells-there}
use Rattle.dw_base.proofs.ViewOffsetLaws.{kind_at-there}
use Rattle.dw_entries.specs.Fronts.{IsOfView}
use Rattle.dw_entries.specs.ViewUnits.{numbered, unit_section_at, IsUnitSection}

-- a unit section of a list of sections, so many behind the first
record Placed (ss : List ViewSection) (k n : ℕ) (z : UnitSection) : Type 0 where
  section : ViewSection
  rest : List ViewSection
  there : drop k ss ≡ section ∷ rest
  has : section.has_bytes ≡ true
  kind : unit_kind (debug_section section.name) ≡ Some z.kind
  number : z.number ≡ n
  contents : z.contents ≡ cells_of section

-- and how many behind the first it is
record PlacedFrom (i : ℕ) (ss : List ViewSection) (n : ℕ) (z : UnitSection) : Type 0 where
  index : ℕ
  at : n ≡ i + index
  placed : Placed ss index n z

placed-further : (i : ℕ) (s : ViewSection) (ss : List ViewSection) (n : ℕ) (z : UnitSection) → PlacedFrom (suc i) ss n z → PlacedFrom i (s ∷ ss) n z
placed-further i s ss n z p =
    let at : n ≡ suc i + p.index = p.at in
    record {
      index = suc p.index;
      at = omega (arith, at);
      placed = record { section = p.placed.section; rest = p.placed.rest; there = p.placed.there; has = p.placed.has; kind = p.placed.kind; number = p.placed.number; contents = p.placed.contents };
    }

-- one section, in front of the others
one-placed : (i : ℕ) (s : ViewSection) (ss : List ViewSection) (n : ℕ) (z : UnitSection) (has : Bool) (kind : Option SectionKind)
    → s.has_bytes ≡ has → unit_kind (debug_section s.name) ≡ kind → (numbered (unit_sections_from (suc i) ss) n ≡ Some z → PlacedFrom i (s ∷ ss) n z)
    → numbered ((if has then unit_section i s kind else []) ++ unit_sections_from (suc i) ss) n ≡ Some z → PlacedFrom i (s ∷ ss) n z
one-placed i s ss n z false kind h k further e = further e
one-placed i s ss n z true None h k further e = further e
one-placed i s ss n z true (Some kind) h k further e = by_number (i == n) refl e
  where
    by_number : (b : Bool) → (i == n) ≡ b
        → (if b then Some (record { number = i; kind = kind; contents = cells_of s }) else numbered (unit_sections_from (suc i) ss) n) ≡ Some z
        → PlacedFrom i (s ∷ ss) n z
    by_number true same e =
        let z_is : record { number = i; kind = kind; contents = cells_of s } ≡ z = cc in
        let at : i ≡ n = eqb-true i n same in
        record {
          index = 0;
          at = omega (arith, at);
          placed = record {
            section = s;
            rest = ss;
            there = refl;
            has = h;
            kind = k ∙ ap (λ (y : UnitSection). Some y.kind) z_is;
            number = ap (λ (y : UnitSection). y.number) (sym z_is) ∙ at;
            contents = ap (λ (y : UnitSection). y.contents) (sym z_is);
          };
        }
    by_number false other e = further e

numbered-placed : (i : ℕ) (ss : List ViewSection) (n : ℕ) (z : UnitSection) → numbered (unit_sections_from i ss) n ≡ Some z → PlacedFrom i ss n z
numbered-placed i [] n z e = absurd cc
numbered-placed i (s ∷ ss) n z e =
    one-placed i s ss n z s.has_bytes (unit_kind (debug_section s.name)) refl refl
    (λ f. placed-further i s ss n z (numbered-placed (suc i) ss n z f)) e

pub numbered-above : (i : ℕ) (ss : List ViewSection) (n : ℕ) (z : UnitSection) → numbered (unit_sections_from i ss) n ≡ Some z → i ≤ n
numbered-above i ss n z e =
    let p = numbered-placed i ss n z e in
    let at : n ≡ i + p.index = p.at in
    omega (arith, at)

-- a section that stands at a place is one of the list
drop-below : (ss : List ViewSection) (n : ℕ) (s : ViewSection) (rest : List ViewSection) → drop n ss ≡ s ∷ rest → n < length ss
drop-below [] zero s rest e = absurd cc
drop-below [] (suc n) s rest e = absurd cc
drop-below (x ∷ xs) zero s rest e = omega arith
drop-below (x ∷ xs) (suc n) s rest e = let lt = drop-below xs n s rest e in omega arith

-- the unit section of a number, as a section of the view
pub record FoundSection (v : View) (n : ℕ) (z : UnitSection) : Type 0 where
  pub section : ViewSection
  pub rest : List ViewSection
  pub there : drop n v.sections ≡ section ∷ rest
  pub above : 1 ≤ n
  pub has : section.has_bytes ≡ true
  pub kind : unit_kind (debug_section section.name) ≡ Some z.kind
  pub number : z.number ≡ n
  pub contents : z.contents ≡ cells_of section

pub found-section : (v : View) (n : ℕ) (z : UnitSection) → numbered (unit_sections v) n ≡ Some z → FoundSection v n z
unfolding unit_sections
found-section v n z e =
    let p = numbered-placed 1 (drop 1 v.sections) n z e in
    let at : n ≡ 1 + p.index = p.at in
    record {
      section = p.placed.section;
      rest = p.placed.rest;
      there = ap (λ (k : ℕ). drop k v.sections) (omega (arith, at)) ∙ sym (drop-drop p.index 1 v.sections) ∙ p.placed.there;
      above = omega (arith, at);
      has = p.placed.has;
      kind = p.placed.kind;
      number = p.placed.number;
      contents = p.placed.contents;
    }

-- a section of units is read
kind-read : (o : Option DebugSection) (kind : SectionKind) → unit_kind o ≡ Some kind → is_some o ≡ true
kind-read None kind e = absurd cc
kind-read (Some s) kind e = refl

pub of-view : (v : View) (n : ℕ) (z : UnitSection) → numbered (unit_sections v) n ≡ Some z → IsOfView v n z
of-view v n z e =
    let f = found-section v n z e in
    record {
      there = drop-below v.sections n f.section f.rest f.there;
      number = f.number;
      contents = f.contents ∙ sym (view_cells-there v n f.section f.rest f.there);
      read = ap (λ (o : Option DebugSection). is_some o) (kind_at-there v n f.section f.rest f.there) ∙ kind-read (debug_section f.section.name) z.kind f.kind;
    }

pub is-of-view : (v : View) (n : ℕ) → IsUnitSection v n → IsOfView v n (unit_section_at v n)
is-of-view v n e = of-view v n (unit_section_at v n) e

types-only : (o : Option DebugSection) → unit_kind o ≡ Some in_types → o ≡ Some Types
types-only None e = absurd cc
types-only (Some Info) e = absurd (other (some-kind in_info in_types e))
  where
    some-kind : (a b : SectionKind) → Some a ≡ Some b → a ≡ b
    some-kind a b e = cc

    other : in_info ≡ in_types → ⊥
    other e = cc
types-only (Some Types) e = refl
types-only (Some Abbrev) e = absurd cc
types-only (Some Str) e = absurd cc
types-only (Some LineStr) e = absurd cc
types-only (Some StrOffsets) e = absurd cc
types-only (Some Line) e = absurd cc
types-only (Some Macro) e = absurd cc
types-only (Some Names) e = absurd cc

same-kind : (a b : SectionKind) (o : Option SectionKind) → o ≡ Some a → o ≡ Some b → a ≡ b
same-kind a b o e f = cc

-- which of the two kinds it is, by its name
kind-by : (v : View) (n : ℕ) → IsUnitSection v n → unit_kind (kind_at v n) ≡ Some (unit_section_at v n).kind
kind-by v n e =
    let f = found-section v n (unit_section_at v n) e in
    ap unit_kind (kind_at-there v n f.section f.rest f.there) ∙ f.kind

pub there-within : (v : View) (n : ℕ) → IsUnitSection v n → n < length v.sections
there-within v n e = (is-of-view v n e).there

pub named-types : (v : View) (n : ℕ) (o : Option DebugSection) → IsUnitSection v n → o ≡ kind_at v n → o ≡ Some Types → in_types ≡ (unit_section_at v n).kind
named-types v n o e o_is types =
    same-kind in_types (unit_section_at v n).kind (unit_kind (kind_at v n)) (ap unit_kind (sym o_is ∙ types)) (kind-by v n e)

pub named-other : (v : View) (n : ℕ) (o : Option DebugSection) → IsUnitSection v n → o ≡ kind_at v n → (o ≡ Some Types → ⊥) → in_info ≡ (unit_section_at v n).kind
named-other v n o e o_is other = by_kind (unit_section_at v n).kind refl
  where
    by_kind : (k : SectionKind) → (unit_section_at v n).kind ≡ k → in_info ≡ (unit_section_at v n).kind
    by_kind in_info is = sym is
    by_kind in_types is = absurd (other (o_is ∙ types-only (kind_at v n) (kind-by v n e ∙ ap Some is)))

pub ruleset kind_laws = (there-within, named-types, named-other)
