-- The new bodies of a file whose paths become offsets: which section has which, and that no other section changes.
use Rattle.std.proofs.Common.{Bool, true, false, ◌≡◌, ◌≢◌, ℕ, suc, ◌+◌, ◌<◌, List, [], ◌∷◌, ◌++◌, length, drop, Option, Some, None, IfSome, refl, sym, ap, ◌∙◌, subst, arith, if◌then◌else◌}
use Rattle.std.specs.Prelude.{◌||◌}
use Rattle.std.proofs.lemmas.List.{length-drop}
use Rattle.dw_base.specs.AbbreviationTables.{Abbreviation, IsTable}
use Rattle.dw_base.specs.Cells.{bytes_of}
use Rattle.dw_base.specs.DebugData.{DataReadings, ReadsAll, units_in}
use Rattle.dw_base.specs.DebugSections.{debug_section, name_of}
use Rattle.dw_base.specs.Elf.{contents_of, section_count, section_name}
use Rattle.dw_base.specs.FileViews.{ViewSection, view_of}
use Rattle.dw_base.specs.Paths.{PathMap}
use Rattle.dw_base.specs.Pieces.{Chain, Piece, joined}
use Rattle.dw_base.specs.Readings.{Readings}
use Rattle.dw_base.specs.UnitHeaders.{SectionKind, UnitBase, UnitSection}
use Rattle.dw_base.specs.UnitPieces.{FitsMode, IsHeader, unit_grammar}
use Rattle.dw_base.specs.UnitStates.{Mode, UnitState, at_header, before_unit}
use Rattle.dw_base.specs.ViewData.{debug_data, is_read, unit_kind, unit_section, unit_sections, unit_sections_from}
use Rattle.dw_base.specs.declared.debug_sections.DebugSection.{DebugSection}
use Rattle.dw_base.specs.declared.debug_sections.DebugSection.TheVariants.{Info, Abbrev, Str}
use Rattle.dw_base.proofs.DebugSectionLaws.{debug_section-name}
use Rattle.dw_base.proofs.LebLaws.{uleb_at-size}
use Rattle.dw_base.specs.Lebs.{IsSized, uleb_at}
use Rattle.dw_meaning.proofs.FileBackLaws.{AllAt, SectionBack, is_read_name}
use Rattle.dw_meaning.proofs.FileKeptLaws.{all-read, differ, here-body, next-body}
use Rattle.dw_meaning.proofs.TableKeptLaws.{TablePlace, drop-at, lies_at, nowhere, sections-self, table-place}
use Rattle.dw_meaning.specs.DataOutput.{Body, body_in}
use Rattle.dw_meaning.specs.FileMeanings.{FileReads, file_data}
use Rattle.inline_lift.specs.GrowingPaths.{any_grows, some_path_grows}
use Rattle.inline_lift.specs.Lifted.{Lift, lift_of, lifted_abbrevs, lifted_pieces, lifted_str}
use Rattle.inline_lift.specs.LiftedFiles.{lifted_body, unit_bodies}

-- where a path grows there are abbreviations
empty-ends : (bytes : List ℕ) (at v n : ℕ) → bytes ≡ [] → uleb_at bytes at ≡ Some (v, n) → ⊥
unfolding uleb_at
empty-ends bytes at v n none e =
    let s : IsSized (length (drop at bytes)) (v, n) = subst (λ (o : Option (ℕ × ℕ)). IfSome o (IsSized (length (drop at bytes)))) e (uleb_at-size (drop at bytes)) in
    let some = s.some in
    let within = s.within in
    omega (arith, some, within, length-drop at bytes, ap length none)

table-some : (bytes : List ℕ) (start : ℕ) (list : List Abbreviation) → IsTable bytes start list → bytes ≡ [] → ⊥
table-some bytes start list t none = empty-ends bytes t.last 0 t.size none t.ends

header-some : (base : UnitBase) (s : UnitState) (x : Piece UnitState) (xs : List (Piece UnitState)) → s.mode ≡ at_header → Chain (unit_grammar base) s (x ∷ xs) → base.abbrevs.bytes ≡ [] → ⊥
header-some base s x xs mode c none =
    let f : IsHeader base x.state x.cells = subst (λ (k : Mode). FitsMode k base x.state x.cells) (ap (λ (u : UnitState). u.mode) c.0 ∙ mode) c.1 in
    table-some base.abbrevs.bytes f.header.abbrevs _ f.table.is none

pieces-some : (m : PathMap) (base : UnitBase) (s : UnitState) (xs : List (Piece UnitState)) → s.mode ≡ at_header → Chain (unit_grammar base) s xs → any_grows m xs ≡ true → base.abbrevs.bytes ≡ [] → ⊥
pieces-some m base s [] mode c e none = absurd cc
pieces-some m base s (x ∷ xs) mode c e none = header-some base s x xs mode c none

abbrevs-some : (m : PathMap) (base : UnitBase) (first : ℕ) (zs : List UnitSection) (rs : Readings) → ReadsAll base first zs rs → some_path_grows m rs ≡ true → base.abbrevs.bytes ≡ [] → ⊥
abbrevs-some m base first [] [] reads e none = absurd cc
abbrevs-some m base first [] (r ∷ rs) reads e none = absurd reads
abbrevs-some m base first (z ∷ zs) [] reads e none = absurd reads
abbrevs-some m base first (z ∷ zs) (r ∷ rs) reads e none =
    by_grows (any_grows m r.pieces) refl e (λ f. abbrevs-some m base (first + units_in r.pieces) zs rs reads.2 f none)
  where
    by_grows : (b : Bool) → any_grows m r.pieces ≡ b → (b || some_path_grows m rs) ≡ true → (some_path_grows m rs ≡ true → ⊥) → ⊥
    by_grows true is f rest = pieces-some m base (before_unit z.number z.kind (length z.contents) 0 first) r.pieces refl reads.1.chain is none
    by_grows false is f rest = rest f

-- a file whose paths that grow can be offsets: it can be read, a path grows, it has a .debug_str, and is loaded as it stands
pub record Grows (m : PathMap) (b : List ℕ) (r : DataReadings) : Type 0 where
  pub reads : FileReads b r
  pub grows : some_path_grows m r.units ≡ true
  pub texts : 0 < ((file_data b).found Str).number

abbrev pub file_lift : PathMap → List ℕ → DataReadings → Lift
file_lift m b r = lift_of m (file_data b) r

abbrev pub abbrevs_number : List ℕ → ℕ
abbrevs_number b = (file_data b).base.abbrevs.number

abbrev pub str_number : List ℕ → ℕ
str_number b = ((file_data b).found Str).number

abbrevs-place : (b : List ℕ) → TablePlace b (name_of Abbrev) (file_data b).base.abbrevs
unfolding debug_data
abbrevs-place b = table-place b Abbrev

str-place : (b : List ℕ) → TablePlace b (name_of Str) ((file_data b).found Str)
unfolding debug_data
str-place b = table-place b Str

-- where the two tables are
pub record IsAt (b : List ℕ) (i : ℕ) (s : DebugSection) : Type 0 where
  pub some : 0 < i
  pub within : i < section_count b
  pub named : section_name b i ≡ name_of s

pub abbrevs-at : (m : PathMap) (b : List ℕ) (r : DataReadings) → Grows m b r → IsAt b (abbrevs_number b) Abbrev
abbrevs-at m b r w = by_place (abbrevs-place b)
  where
    by_place : TablePlace b (name_of Abbrev) (file_data b).base.abbrevs → IsAt b (abbrevs_number b) Abbrev
    by_place (nowhere zero none) = absurd (abbrevs-some m (file_data b).base 0 ((file_data b).found Info) r.units w.reads.data_reads.units w.grows none)
    by_place (lies_at there within named bytes) = record { some = there; within = within; named = named }

pub str-at : (m : PathMap) (b : List ℕ) (r : DataReadings) → Grows m b r → IsAt b (str_number b) Str
str-at m b r w = by_place (str-place b)
  where
    by_place : TablePlace b (name_of Str) ((file_data b).found Str) → IsAt b (str_number b) Str
    by_place (nowhere zero none) = let some : 0 < str_number b = w.texts in absurd (omega (arith, some, zero))
    by_place (lies_at there within named bytes) = record { some = there; within = within; named = named }

-- a section of another name isn't one of the two
pub other-number : (b : List ℕ) (i j : ℕ) (s : DebugSection) → IsAt b j s → section_name b i ≢ name_of s → i ≢ j
other-number b i j s a other same = other (ap (section_name b) same ∙ a.named)

-- the bodies
abbrev abbrevs_new : PathMap → List ℕ → DataReadings → Body
abbrevs_new m b r = record { number = (file_data b).base.abbrevs.number; bytes = lifted_abbrevs (lift_of m (file_data b) r) }

abbrev str_new : PathMap → List ℕ → DataReadings → Body
str_new m b r = record { number = ((file_data b).found Str).number; bytes = lifted_str (lift_of m (file_data b) r) }

lifted-open : (m : PathMap) (b : List ℕ) (r : DataReadings) (i : ℕ)
    → lifted_body m b r i ≡ body_in (abbrevs_new m b r ∷ str_new m b r ∷ unit_bodies (file_lift m b r) r.units) (contents_of b) i
unfolding lifted_body
lifted-open m b r i = refl

pub body-abbrevs : (m : PathMap) (b : List ℕ) (r : DataReadings) → lifted_body m b r (abbrevs_number b) ≡ lifted_abbrevs (file_lift m b r)
body-abbrevs m b r =
    lifted-open m b r (abbrevs_number b) ∙ here-body (abbrevs_new m b r) (str_new m b r ∷ unit_bodies (file_lift m b r) r.units) (contents_of b) (abbrevs_number b) refl

pub body-str : (m : PathMap) (b : List ℕ) (r : DataReadings) → Grows m b r → lifted_body m b r (str_number b) ≡ lifted_str (file_lift m b r)
body-str m b r w =
    let other : str_number b ≢ abbrevs_number b =
    other-number b (str_number b) (abbrevs_number b) Abbrev (abbrevs-at m b r w) (λ e. clash (differ Str Abbrev (sym (str-at m b r w).named ∙ e))) in
    lifted-open m b r (str_number b)
    ∙ next-body (abbrevs_new m b r) (str_new m b r ∷ unit_bodies (file_lift m b r) r.units) (contents_of b) (str_number b) other
    ∙ here-body (str_new m b r) (unit_bodies (file_lift m b r) r.units) (contents_of b) (str_number b) refl
  where
    clash : Some Str ≡ Some Abbrev → ⊥
    clash e = cc

pub behind-tables : (m : PathMap) (b : List ℕ) (r : DataReadings) (i : ℕ) → i ≢ abbrevs_number b → i ≢ str_number b
    → lifted_body m b r i ≡ body_in (unit_bodies (file_lift m b r) r.units) (contents_of b) i
behind-tables m b r i abbrevs str =
    lifted-open m b r i
    ∙ next-body (abbrevs_new m b r) (str_new m b r ∷ unit_bodies (file_lift m b r) r.units) (contents_of b) i abbrevs
    ∙ next-body (str_new m b r) (unit_bodies (file_lift m b r) r.units) (contents_of b) i str

-- a section of units is named otherwise
unit-name : (b : List ℕ) (i : ℕ) (kind : SectionKind) (s : DebugSection) → unit_kind (Some s) ≡ None → unit_kind (debug_section (section_name b i)) ≡ Some kind → section_name b i ≢ name_of s
unit-name b i kind s none some same =
    let other : unit_kind (debug_section (section_name b i)) ≡ None =
    ap (λ (n : List ℕ). unit_kind (debug_section n)) same ∙ ap unit_kind (debug_section-name s) ∙ none in
    clash (sym some ∙ other)
  where
    clash : Some kind ≡ None → ⊥
    clash e = cc

pub body-unit : (m : PathMap) (b : List ℕ) (r : DataReadings) (i : ℕ) (kind : SectionKind) → Grows m b r → unit_kind (debug_section (section_name b i)) ≡ Some kind
    → lifted_body m b r i ≡ body_in (unit_bodies (file_lift m b r) r.units) (contents_of b) i
body-unit m b r i kind w is =
    behind-tables m b r i (other-number b i (abbrevs_number b) Abbrev (abbrevs-at m b r w) (unit-name b i kind Abbrev refl is))
    (other-number b i (str_number b) Str (str-at m b r w) (unit-name b i kind Str refl is))

-- one that holds no units isn't among those of units
units-skip : (l : Lift) (b : List ℕ) (bodies : ℕ → List ℕ) (base : UnitBase) (i : ℕ) → unit_kind (debug_section (section_name b i)) ≡ None
    → (first k : ℕ) (ss ts : List ViewSection) (rs : Readings) → AllAt (SectionBack b bodies) k ss ts → ReadsAll base first (unit_sections_from k ss) rs
    → body_in (unit_bodies l rs) (contents_of b) i ≡ contents_of b i
units-skip l b bodies base i none first k [] ts [] all reads = refl
units-skip l b bodies base i none first k [] ts (r ∷ rs) all reads = absurd reads
units-skip l b bodies base i none first k (s ∷ ss) [] rs all reads = absurd all
units-skip l b bodies base i none first k (s ∷ ss) (t ∷ ts) rs all reads =
    by_section s.has_bytes (unit_kind (debug_section s.name)) refl rs reads (λ n qs f. units-skip l b bodies base i none n (suc k) ss ts qs all.1 f)
  where
    by_section : (full : Bool) (o : Option SectionKind) → unit_kind (debug_section s.name) ≡ o → (qs : Readings)
        → ReadsAll base first ((if full then unit_section k s o else []) ++ unit_sections_from (suc k) ss) qs
        → ((n : ℕ) (ps : Readings) → ReadsAll base n (unit_sections_from (suc k) ss) ps → body_in (unit_bodies l ps) (contents_of b) i ≡ contents_of b i)
        → body_in (unit_bodies l qs) (contents_of b) i ≡ contents_of b i
    by_section false o is qs f rest = rest first qs f
    by_section true None is qs f rest = rest first qs f
    by_section true (Some kind) is [] f rest = absurd f
    by_section true (Some kind) is (q ∷ qs) f rest =
        let some : unit_kind (debug_section (section_name b k)) ≡ Some kind = ap (λ (n : List ℕ). unit_kind (debug_section n)) (sym all.0.named) ∙ is in
        let other : i ≢ q.number = λ (e : i ≡ q.number).
        clash kind (sym (ap (λ (j : ℕ). unit_kind (debug_section (section_name b j))) (e ∙ f.0) ∙ some) ∙ none) in
        next-body (record { number = q.number; bytes = bytes_of (joined (lifted_pieces l q.pieces)) }) (unit_bodies l qs) (contents_of b) i other ∙ rest (first + units_in q.pieces) qs f.2
      where
        clash : (kind : SectionKind) → Some kind ≡ None → ⊥
        clash kind e = cc

-- so every other section keeps its bytes
pub body-other : (m : PathMap) (b : List ℕ) (r : DataReadings) (i : ℕ) → Grows m b r → i ≢ abbrevs_number b → i ≢ str_number b → unit_kind (debug_section (section_name b i)) ≡ None
    → lifted_body m b r i ≡ contents_of b i
unfolding debug_data unit_sections
body-other m b r i w abbrevs str none =
    behind-tables m b r i abbrevs str
    ∙ units-skip (file_lift m b r) b (contents_of b) (file_data b).base i none 0 1 (drop 1 (view_of b).sections) (drop 1 (view_of b).sections) r.units
    (drop-at (SectionBack b (contents_of b)) (view_of b).sections (view_of b).sections (sections-self b)) w.reads.data_reads.units

-- one that isn't read is among them
unread-units : (o : Option DebugSection) → is_read o ≡ false → unit_kind o ≡ None
unread-units None e = refl
unread-units (Some s) e = let no : true ≡ false = sym (all-read s) ∙ e in absurd cc

unread-number : (b : List ℕ) (i j : ℕ) (s : DebugSection) → IsAt b j s → is_read_name (section_name b i) ≡ false → i ≢ j
unread-number b i j s a unread =
    other-number b i j s a
    (λ e. let no : true ≡ false = sym (ap (λ (n : List ℕ). is_read (debug_section n)) e ∙ ap is_read (debug_section-name s) ∙ all-read s) ∙ unread in cc)

pub body-unread : (m : PathMap) (b : List ℕ) (r : DataReadings) (i : ℕ) → Grows m b r → is_read_name (section_name b i) ≡ false → lifted_body m b r i ≡ contents_of b i
body-unread m b r i w unread =
    body-other m b r i w (unread-number b i (abbrevs_number b) Abbrev (abbrevs-at m b r w) unread) (unread-number b i (str_number b) Str (str-at m b r w) unread)
    (unread-units (debug_section (section_name b i)) unread)

-- and so is one of another name than the two, that holds no units
pub body-named : (m : PathMap) (b : List ℕ) (r : DataReadings) (i : ℕ) (s : DebugSection) → Grows m b r → section_name b i ≡ name_of s → unit_kind (Some s) ≡ None
    → (Some s ≡ Some Abbrev → ⊥) → (Some s ≡ Some Str → ⊥) → lifted_body m b r i ≡ contents_of b i
body-named m b r i s w named none abbrevs str =
    body-other m b r i w (other-number b i (abbrevs_number b) Abbrev (abbrevs-at m b r w) (λ e. abbrevs (differ s Abbrev (sym named ∙ e))))
    (other-number b i (str_number b) Str (str-at m b r w) (λ e. str (differ s Str (sym named ∙ e))))
    (ap (λ (n : List ℕ). unit_kind (debug_section n)) named ∙ ap unit_kind (debug_section-name s) ∙ none)
