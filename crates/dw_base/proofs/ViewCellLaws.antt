-- Laws of a view's sections as cells: their bytes are the sections', and fields read by the relocations that begin in them. A file that
-- isn't relocatable has none.
use Rattle.std.proofs.Common.{◌≡◌, ℕ, ◌+◌, ◌<◌, ◌≤◌, zero, suc, true, if◌then◌else◌, List, [], ◌∷◌, ◌++◌, length, get_or, take, drop, Option, None, Some, refl, sym, ap, ◌∙◌, arith, inl, inr}
use Rattle.std.specs.Prelude.{is_some}
use Rattle.std.proofs.lemmas.Bool.{cases_lt}
use Rattle.std.proofs.lemmas.List.{drop-drop}
use Rattle.dw_base.specs.Cells.{Cell, Located, address_by, bytes_of, cells_at, field_by, field_of, located_cells, offset_into, offset_of, plain_cells}
use Rattle.dw_base.specs.DebugSections.{name_of}
use Rattle.dw_base.specs.Elf.{contents_of, section_count}
use Rattle.dw_base.specs.FileViews.{View, ViewSection, address_at, cells_of, contents_in, field_at, field_read, kind_at, partly_in, relocations_there, section_bytes, section_named, view_cells, view_of, view_relocations, view_section}
use Rattle.dw_base.specs.Layout.{is_loaded_kind}
use Rattle.dw_base.specs.Numbers.{spelled}
use Rattle.dw_base.specs.RelocationFields.{field_unless, partly_at, relocation_at}
use Rattle.dw_base.specs.SectionRelocations.{PlacedRelocation, cells_from, relocations_of, section_cells}
use Rattle.dw_base.specs.ViewData.{cells_located, debug_data, located, located_at}
use Rattle.dw_base.specs.declared.debug_sections.DebugSection.TheVariants.{StrOffsets, Line}
use Rattle.dw_base.proofs.FileViewLaws.{get_or-view_of, length-view_of, section_bytes-view_of}
use Rattle.dw_base.proofs.RelocationFieldLaws.{field_of-cells_at}
use Rattle.dw_base.proofs.SectionRelocationLaws.{bytes_of-cells_from, cells_from-none, length-cells_from, relocations_of-loaded}

-- the bytes of a section
pub bytes_of-view_cells : (v : View) (i : ℕ) → bytes_of (view_cells v i) ≡ section_bytes v i
bytes_of-view_cells v i = bytes_of-cells_from (view_relocations v i) 0 (section_bytes v i)

pub length-view_cells : (v : View) (i : ℕ) → length (view_cells v i) ≡ length (section_bytes v i)
length-view_cells v i = length-cells_from (view_relocations v i) 0 (section_bytes v i)

-- the contents of the section of a number are those of the section that stands there
pub view_cells-there : (v : View) (i : ℕ) (s : ViewSection) (rest : List ViewSection) → drop i v.sections ≡ s ∷ rest → view_cells v i ≡ cells_of s
unfolding section_bytes view_relocations
view_cells-there v i s rest there = among v.sections i there
  where
    head : {x : ViewSection} {xs : List ViewSection} → x ∷ xs ≡ s ∷ rest → x ≡ s
    head e = cc

    among : (ss : List ViewSection) (k : ℕ) → drop k ss ≡ s ∷ rest → cells_from (relocations_there ss k) 0 (contents_in ss k) ≡ cells_of s
    among [] zero e = absurd cc
    among [] (suc k) e = absurd cc
    among (x ∷ xs) zero e = let same : x ≡ s = head e in ap cells_of same
    among (x ∷ xs) (suc k) e = among xs k e

-- a section that is read as pieces is one that offsets are of
pub located-cells : (v : View) (o : Option ℕ) → located_cells (cells_located v o) ≡ located_at v o
located-cells v None = refl
located-cells v (Some i) = ap (λ (bs : List ℕ). record { number = i; bytes = bs }) (bytes_of-view_cells v i)

pub number-cells : (v : View) (o : Option ℕ) → (cells_located v o).number ≡ (located_at v o).number
number-cells v o = ap (λ (z : Located). z.number) (located-cells v o)

pub bytes-cells : (v : View) (o : Option ℕ) → bytes_of (cells_located v o).contents ≡ (located_at v o).bytes
bytes-cells v o = ap (λ (z : Located). z.bytes) (located-cells v o)

pub offsets-located : (v : View) → located_cells ((debug_data v).found StrOffsets) ≡ located v StrOffsets
unfolding debug_data located
offsets-located v = located-cells v (section_named v (name_of StrOffsets))

pub lines-located : (v : View) → located_cells ((debug_data v).found Line) ≡ located v Line
unfolding debug_data located
lines-located v = located-cells v (section_named v (name_of Line))

-- a field by the relocation that begins at it,
pub field_at-by : (v : View) (i place n : ℕ)
    → field_at v i place n ≡ field_by (relocation_at (view_cells v i) place) n (spelled v.order (section_bytes v i) place n)
unfolding field_at
field_at-by v i place n = refl

-- and by its cells, in the section or in what is behind a place of it
pub field_at-cells : (v : View) (i place n : ℕ) → 0 < n → place + n ≤ length (section_bytes v i)
    → field_of v.order (cells_at (view_cells v i) place n) ≡ field_at v i place n
field_at-cells v i place n some inside =
    let size : length (view_cells v i) ≡ length (section_bytes v i) = length-view_cells v i in
    field_of-cells_at v.order (view_cells v i) place n some (omega (arith, inside, size))
    ∙ ap (λ (bs : List ℕ). field_by (relocation_at (view_cells v i) place) n (spelled v.order bs place n)) (bytes_of-view_cells v i)
    ∙ sym (field_at-by v i place n)

pub field_at-behind : (v : View) (i start place n : ℕ) → 0 < n → start + place + n ≤ length (section_bytes v i)
    → field_of v.order (cells_at (drop start (view_cells v i)) place n) ≡ field_at v i (start + place) n
field_at-behind v i start place n some inside =
    ap (λ (cs : List Cell). field_of v.order (cells_at cs 0 n)) (drop-drop place start (view_cells v i)) ∙ field_at-cells v i (start + place) n some inside

-- and by a piece that stands there
take-front : (p rest : List Cell) → take (length p) (p ++ rest) ≡ p
take-front [] rest = refl
take-front (c ∷ cs) rest = ap (λ (l : List Cell). c ∷ l) (take-front cs rest)

pub piece-cells : (cells p rest : List Cell) (place : ℕ) → drop place cells ≡ p ++ rest → cells_at cells place (length p) ≡ p
piece-cells cells p rest place is = ap (take (length p)) is ∙ take-front p rest

pub field_at-piece : (v : View) (i place : ℕ) (p : List Cell) → cells_at (view_cells v i) place (length p) ≡ p → 0 < length p
    → place + length p ≤ length (section_bytes v i) → field_of v.order p ≡ field_at v i place (length p)
field_at-piece v i place p is some inside = ap (field_of v.order) (sym is) ∙ field_at-cells v i place (length p) some inside

-- an offset
pub offset_at-piece : (v : View) (z : Located) (i place : ℕ) (p : List Cell) → cells_at (view_cells v i) place (length p) ≡ p → 0 < length p
    → place + length p ≤ length (section_bytes v i) → offset_of v.order z p ≡ offset_into z (field_at v i place (length p))
unfolding offset_of
offset_at-piece v z i place p is some inside = ap (offset_into z) (field_at-piece v i place p is some inside)

pub offset_at-cells : (v : View) (z : Located) (i place n : ℕ) → 0 < n → place + n ≤ length (section_bytes v i)
    → offset_of v.order z (cells_at (view_cells v i) place n) ≡ offset_into z (field_at v i place n)
unfolding offset_of
offset_at-cells v z i place n some inside = ap (offset_into z) (field_at-cells v i place n some inside)

-- a field that is read, and an address, by the cells
pub field_read-by : (v : View) (i place n : ℕ) → field_read v i place n
    ≡ field_unless (if is_some (kind_at v i) then partly_at (view_cells v i) place n else None) i
    (field_by (relocation_at (view_cells v i) place) n (spelled v.order (section_bytes v i) place n))
unfolding field_read partly_in
field_read-by v i place n =
    ap (field_unless (if is_some (kind_at v i) then partly_at (view_cells v i) place n else None) i) (field_at-by v i place n)

pub address_at-by : (v : View) (i place n : ℕ)
    → address_at v i place n ≡ address_by (relocation_at (view_cells v i) place) (spelled v.order (section_bytes v i) place n)
unfolding address_at
address_at-by v i place n = refl

-- Of one file the relocations are the file's.
relocations-get_or : (ss : List ViewSection) (i : ℕ) (d : ViewSection) → i < length ss → relocations_there ss i ≡ (get_or ss i d).relocations
relocations-get_or [] i d lt = absurd (omega (arith, lt))
relocations-get_or (s ∷ ss) zero d lt = refl
relocations-get_or (s ∷ ss) (suc i) d lt = relocations-get_or ss i d (omega (arith, lt))

pub relocations-view_of : (b : List ℕ) (i : ℕ) → i < section_count b → view_relocations (view_of b) i ≡ relocations_of (contents_of b) b i
unfolding view_relocations view_section
relocations-view_of b i lt =
    relocations-get_or (view_of b).sections i (view_section b i) (omega (arith, lt, length-view_of b))
    ∙ ap (λ (s : ViewSection). s.relocations) (get_or-view_of b i (view_section b i) lt)

pub view_cells-view_of : (b : List ℕ) (i : ℕ) → i < section_count b → view_cells (view_of b) i ≡ section_cells (contents_of b) b i
unfolding section_cells
view_cells-view_of b i lt =
    ap (λ (rs : List PlacedRelocation). cells_from rs 0 (section_bytes (view_of b) i)) (relocations-view_of b i lt)
    ∙ ap (cells_from (relocations_of (contents_of b) b i) 0) (section_bytes-view_of b i lt)

-- none begins in a file that isn't relocatable,
relocations-behind : (ss : List ViewSection) (i : ℕ) → length ss ≤ i → relocations_there ss i ≡ []
relocations-behind [] i le = refl
relocations-behind (s ∷ ss) zero le = absurd (omega (arith, le))
relocations-behind (s ∷ ss) (suc i) le = relocations-behind ss i (omega (arith, le))

none-behind : (b : List ℕ) (i : ℕ) → section_count b ≤ i → view_relocations (view_of b) i ≡ []
unfolding view_relocations
none-behind b i le = relocations-behind (view_of b).sections i (omega (arith, le, length-view_of b))

pub relocations-loaded : (b : List ℕ) (i : ℕ) → is_loaded_kind b ≡ true → view_relocations (view_of b) i ≡ []
relocations-loaded b i loaded = elim (cases_lt i (section_count b)) [
  | inl lt ↦ relocations-view_of b i lt ∙ relocations_of-loaded (contents_of b) b i loaded
  | inr le ↦ none-behind b i le
]

pub view_cells-loaded : (b : List ℕ) (i : ℕ) → is_loaded_kind b ≡ true → view_cells (view_of b) i ≡ plain_cells (section_bytes (view_of b) i)
view_cells-loaded b i loaded =
    ap (λ (rs : List PlacedRelocation). cells_from rs 0 (section_bytes (view_of b) i)) (relocations-loaded b i loaded)
    ∙ cells_from-none 0 (section_bytes (view_of b) i)
