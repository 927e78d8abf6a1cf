-- Where no relocation begins in a section of line tables: in the columns of directories and files but for offsets, and in the formats and counts in
-- front of them. And where none reaches over.
use Rattle.std.proofs.Common.{◌≡◌, ◌≢◌, ℕ, zero, suc, ◌+◌, ◌<◌, ◌≤◌, ◌==◌, ◌||◌, List, [], ◌∷◌, ◌++◌, length, take, drop, Option, Some, None, refl, ap, arith, if◌then◌else◌, inl, inr, Bool, true, false, sym, subst, ◌∙◌, ◌-◌}
use Rattle.std.specs.Prelude.{⊤, Ok}
use Rattle.std.proofs.lemmas.Bool.{cases_lt}
use Rattle.std.proofs.lemmas.List.{drop-drop}
use Rattle.dw_base.specs.Cells.{Cell, Relocation, first_relocation}
use Rattle.dw_base.specs.Lebs.{uleb_at}
use Rattle.dw_base.specs.LineEntries.{column_at, entry_at, list_end}
use Rattle.dw_base.specs.LineFormats.{format_at}
use Rattle.dw_base.specs.LineSources.{LineSource}
use Rattle.dw_base.specs.RelocationFields.{reach_of, relocation_at}
use Rattle.dw_base.specs.declared.dwarf_numbers.TheConstants.{DW_FORM_line_strp, DW_FORM_strp}
use Rattle.dw_base.specs.declared.line_tables.Column.{Column}
use Rattle.dw_base.specs.declared.line_tables.FilePlace.{FilePlace}
use Rattle.dw_base.specs.declared.line_tables.LineHeader.{LineHeader}
use Rattle.dw_base.specs.declared.values.Spec.{Spec}

-- no relocation begins from a place up to another
pub record Clear (cells : List Cell) (a b : ℕ) : Type 0 where
  pub none : (p : ℕ) → a ≤ p → p < b → relocation_at cells p ≡ None

pub clear-part : (cells : List Cell) (a b c d : ℕ) → Clear cells a b → a ≤ c → d ≤ b → Clear cells c d
clear-part cells a b c d h front behind = record { none = λ p le lt. h.none p (omega (arith, front, le)) (omega (arith, lt, behind)) }

-- where a relocation may begin in a column no more: behind its start where it is an offset
abbrev pub clear_from : Spec → ℕ → ℕ
clear_from spec place = if spec.form == DW_FORM_strp || spec.form == DW_FORM_line_strp then suc place else place

-- the columns of an entry
abbrev pub ColumnsClear : LineSource → LineHeader → List ℕ → List Spec → ℕ → Type 0
ColumnsClear g h table [] place = ⊤
ColumnsClear g h table (spec ∷ specs) place =
    (c : Column) → column_at g h table spec place ≡ Ok c → Clear g.cells (clear_from spec place) c.next × ColumnsClear g h table specs c.next

-- entries by their count
abbrev pub EntriesClear : LineSource → LineHeader → List ℕ → List Spec → ℕ → ℕ → Type 0
EntriesClear g h table specs zero place = ⊤
EntriesClear g h table specs (suc n) place =
    ColumnsClear g h table specs place × ((f : FilePlace) (next : ℕ) → entry_at g h table specs place ≡ Ok (f, next) → EntriesClear g h table specs n next)

-- a list of entries: none begins in its format and its count
pub record ListClear (g : LineSource) (h : LineHeader) (table : List ℕ) (p : ℕ) : Type 0 where
  pub front : (format : List Spec × ℕ) (count : ℕ × ℕ) → format_at table p ≡ Some format → uleb_at table format.1 ≡ Some count → Clear g.cells p (format.1 + count.1)
  pub entries : (format : List Spec × ℕ) (count : ℕ × ℕ) → format_at table p ≡ Some format → uleb_at table format.1 ≡ Some count
      → EntriesClear g h table format.0 count.0 (format.1 + count.1)

-- the lists of a header: before version 5 none begins in them, and from there on each list is clear
pub record ListsClear (g : LineSource) (h : LineHeader) (table : List ℕ) (behind : ℕ) : Type 0 where
  pub old : h.version ≢ 5 → Clear g.cells h.lists behind
  pub dirs : h.version ≡ 5 → ListClear g h table h.lists
  pub files : h.version ≡ 5 → ListClear g h table (list_end g h table h.lists)

-- none begins before a place and reaches over it
pub record NoneOver (cells : List Cell) (q : ℕ) : Type 0 where
  pub ends : (x : ℕ) (r : Relocation) → relocation_at cells x ≡ Some r → x < q → x + reach_of r ≤ q

pub over-start : (cells : List Cell) → NoneOver cells 0
over-start cells = record { ends = λ x r e lt. absurd (omega (arith, lt)) }

pub over-further : (cells : List Cell) (a b : ℕ) → NoneOver cells a → a ≤ b
    → ((x : ℕ) (r : Relocation) → relocation_at cells x ≡ Some r → a ≤ x → x < b → x + reach_of r ≤ b) → NoneOver cells b
over-further cells a b h le more = record {
  ends = λ x r e lt. elim (cases_lt x a) [
    | inl below ↦ (let ends = h.ends x r e below in omega (arith, ends, le))
    | inr above ↦ more x r e above lt
  ];
}

-- relocations behind a place, and in the front of cells
pub relocation-behind : (cells : List Cell) (a p : ℕ) → relocation_at (drop a cells) p ≡ relocation_at cells (a + p)
relocation-behind cells a p = ap first_of_cells (drop-drop p a cells)
  where
    first_of_cells : List Cell → Option Relocation
    first_of_cells cs = first_relocation cs

pub relocation-front : (xs ys : List Cell) (i : ℕ) → i < length xs → relocation_at (xs ++ ys) i ≡ relocation_at xs i
relocation-front [] ys i lt = absurd (omega (arith, lt))
relocation-front (x ∷ xs) ys zero lt = refl
relocation-front (x ∷ xs) ys (suc i) lt = relocation-front xs ys i (omega (arith, lt))

pub relocation-taken : (xs : List Cell) (n i : ℕ) → i < n → relocation_at (take n xs) i ≡ relocation_at xs i
relocation-taken xs zero i lt = absurd (omega (arith, lt))
relocation-taken [] (suc n) zero lt = refl
relocation-taken [] (suc n) (suc i) lt = refl
relocation-taken (x ∷ xs) (suc n) zero lt = refl
relocation-taken (x ∷ xs) (suc n) (suc i) lt = relocation-taken xs n i (omega (arith, lt))

-- parts in which none begins, one behind another, and what is copied of one
pub clear-join : (cells : List Cell) (a b c : ℕ) → Clear cells a b → Clear cells b c → Clear cells a c
clear-join cells a b c h k = record {
  none = λ p le lt. elim (cases_lt p b) [
    | inl below ↦ h.none p le below
    | inr behind ↦ k.none p behind lt
  ];
}

-- cells that stand at a place
pub stands-clear : (new xs : List Cell) (q n o : ℕ) → take n (drop q new) ≡ xs → ((i : ℕ) → o ≤ i → i < n → relocation_at xs i ≡ None) → Clear new (q + o) (q + n)
stands-clear new xs q n o is h = record {
  none = λ y at lt.
      let place : q + (y - q) ≡ y = omega (arith, at) in
      let lies : y - q < n = omega (arith, at, lt) in
      ap (relocation_at new) (sym place) ∙ sym (relocation-behind new q (y - q)) ∙ sym (relocation-taken (drop q new) n (y - q) lies)
      ∙ ap (λ (cs : List Cell). relocation_at cs (y - q)) is ∙ h (y - q) (omega (arith, at)) lies;
}

pub copied-clear : (old new : List Cell) (p q b o : ℕ) → take (b - p) (drop q new) ≡ take (b - p) (drop p old) → Clear old (p + o) b → Clear new (q + o) (q + (b - p))
copied-clear old new p q b o same h =
    stands-clear new (take (b - p) (drop p old)) q (b - p) o same
    (λ i le lt. relocation-taken (drop p old) (b - p) i lt ∙ relocation-behind old p i ∙ h.none (p + i) (omega (arith, le)) (omega (arith, lt)))

zero-behind : (n : ℕ) → n + 0 ≡ n
zero-behind n = omega arith

one-behind : (n : ℕ) → n + 1 ≡ suc n
one-behind n = omega arith

pub whole-clear : (old new : List Cell) (p q b : ℕ) → take (b - p) (drop q new) ≡ take (b - p) (drop p old) → Clear old p b → Clear new q (q + (b - p))
whole-clear old new p q b same h =
    subst (λ (i : ℕ). Clear new i (q + (b - p))) (zero-behind q) (copied-clear old new p q b 0 same (subst (λ (i : ℕ). Clear old i b) (sym (zero-behind p)) h))

pub column-clear : (spec : Spec) (old new : List Cell) (p q b : ℕ) → take (b - p) (drop q new) ≡ take (b - p) (drop p old) → Clear old (clear_from spec p) b
    → Clear new (clear_from spec q) (q + (b - p))
column-clear spec old new p q b same h = by_form (spec.form == DW_FORM_strp || spec.form == DW_FORM_line_strp) h
  where
    by_form : (t : Bool) → Clear old (if t then suc p else p) b → Clear new (if t then suc q else q) (q + (b - p))
    by_form true k =
        subst (λ (i : ℕ). Clear new i (q + (b - p))) (one-behind q) (copied-clear old new p q b 1 same (subst (λ (i : ℕ). Clear old i b) (sym (one-behind p)) k))
    by_form false k = whole-clear old new p q b same k

pub tail-clear : (new xs : List Cell) (q n : ℕ) → take n (drop q new) ≡ xs → ((i : ℕ) → 0 < i → i < n → relocation_at xs i ≡ None) → Clear new (suc q) (q + n)
tail-clear new xs q n is h =
    subst (λ (i : ℕ). Clear new i (q + n)) (one-behind q) (stands-clear new xs q n 1 is (λ i le lt. h i (omega (arith, le)) lt))

pub front-clear : (new xs rest : List Cell) (q : ℕ) → drop q new ≡ xs ++ rest → ((i : ℕ) → i < length xs → relocation_at xs i ≡ None) → Clear new q (q + length xs)
front-clear new xs rest q is h = record {
  none = λ y at lt.
      let place : q + (y - q) ≡ y = omega (arith, at) in
      let lies : y - q < length xs = omega (arith, at, lt) in
      ap (relocation_at new) (sym place) ∙ sym (relocation-behind new q (y - q)) ∙ ap (λ (cs : List Cell). relocation_at cs (y - q)) is
      ∙ relocation-front xs rest (y - q) lies ∙ h (y - q) lies;
}
