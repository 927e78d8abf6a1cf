-- A file with lifted bodies: it can be read, its debug data are the lifted ones, and it means the filled meaning. What is loaded of it stays.
use Rattle.std.proofs.Common.{Bool, true, false, ◌≡◌, ◌≢◌, ℕ, zero, suc, ◌+◌, ◌^◌, ◌<◌, ◌≤◌, List, [], ◌∷◌, ◌++◌, length, drop, Option, Some, None, refl, sym, ap, ◌∙◌, subst, arith, if◌then◌else◌, append_assoc}
use Rattle.std.specs.Prelude.{◌&&◌, ⊤}
use Rattle.std.proofs.lemmas.List.{length-append}
use Rattle.dw_base.specs.Cells.{Cell, CellSection, Located, bytes_of, plain_cells}
use Rattle.dw_base.specs.DebugData.{DebugData, DataReadings, ReadsAll, around_of, line_source, units_in}
use Rattle.dw_base.specs.DebugSections.{debug_section, name_of}
use Rattle.dw_base.specs.Elf.{contents_of, section_count, section_name}
use Rattle.dw_base.specs.FileViews.{ViewSection, bytes_in, cells_of, section_after, section_named, view_of}
use Rattle.dw_base.specs.Layout.{is_loaded_kind, output_limit}
use Rattle.dw_base.specs.LayoutReads.{ReadsBack}
use Rattle.dw_base.specs.LineMeanings.{LineMeaning, line_meanings}
use Rattle.dw_base.specs.MacroMeanings.{MacroMeaning, macro_meanings}
use Rattle.dw_base.specs.Paths.{PathMap}
use Rattle.dw_base.specs.Pieces.{EachPiece, Piece, joined}
use Rattle.dw_base.specs.Readings.{EachReading, Reading, Readings}
use Rattle.dw_base.specs.SlotTexts.{NamePart, name_parts, slot_texts}
use Rattle.dw_base.specs.UnitHeaders.{SectionKind, UnitBase, UnitSection}
use Rattle.dw_base.specs.UnitMeanings.{UnitMeaning, units_of}
use Rattle.dw_base.specs.UnitStates.{UnitState, at_header, before_unit, piece_header}
use Rattle.dw_base.specs.ViewData.{NamedBytes, bytes_named, debug_data, is_macro, located, located_at, macro_section, macro_sections, macro_sections_from, Meaning, meaning_of, other_sections, unit_kind, unit_section, unit_sections, unit_sections_from, without_id}
use Rattle.dw_base.specs.declared.debug_sections.DebugSection.{DebugSection}
use Rattle.dw_base.specs.declared.debug_sections.DebugSection.TheVariants.{Info, Types, Abbrev, Str, LineStr, StrOffsets, Line, Macro, Names}
use Rattle.dw_base.specs.declared.shared.Order.{Order}
use Rattle.dw_base.specs.declared.units.UnitHeader.{UnitHeader}
use Rattle.dw_base.proofs.DebugSectionLaws.{debug_section-name}
use Rattle.dw_base.proofs.FileViewLaws.{order-view_of, section_bytes-view_of}
use Rattle.dw_base.proofs.PlainCellLaws.{IsPlain, plain-append, plain_cells-plain}
use Rattle.dw_base.proofs.SectionLaws.{length-contents}
use Rattle.dw_meaning.proofs.DataKeptLaws.{readings-plain}
use Rattle.dw_meaning.proofs.DataParts.{found_with}
use Rattle.dw_meaning.proofs.FileBackLaws.{AllAt, Back, SectionBack, bare-cells, elf-back, loaded-back, names-back, others-back, sections-back}
use Rattle.dw_meaning.proofs.FileKeptLaws.{here-body, next-body, texts-apart}
use Rattle.dw_meaning.proofs.PlainFileLaws.{file-plain, lines-are, names-are, offsets-are, plain_section, relocations-read}
use Rattle.dw_meaning.proofs.TableKeptLaws.{FoundAt, TablePlace, drop-at, found-back, found-named, lies_at, nowhere, sections-self, table-place}
use Rattle.dw_meaning.proofs.TextEditLaws.{PlainPiece}
use Rattle.dw_meaning.specs.DataOutput.{DataReads, body_in}
use Rattle.dw_meaning.specs.FileMeanings.{FileReads, file_data}
use Rattle.inline_lift.specs.Filled.{filled, filled_units}
use Rattle.inline_lift.specs.GrowingPaths.{grown, room_left}
use Rattle.inline_lift.specs.LiftFails.{UnitsLift}
use Rattle.inline_lift.specs.Lifted.{Lift, header_cells, lifted_abbrevs, lifted_data, lifted_pieces, lifted_readings, lifted_sections, lifted_state, lifted_str, lifted_value}
use Rattle.inline_lift.specs.LiftedFiles.{lifted_body, unit_bodies}
use Rattle.inline_lift.proofs.LiftedBodyLaws.{Grows, abbrevs-at, abbrevs_number, body-abbrevs, body-named, body-other, body-str, body-unit, body-unread, file_lift, other-number, str-at, str_number}
use Rattle.inline_lift.proofs.LiftedDataLaws.{DataLifts, data-lifted-reads, lines-data, macros-data, names-data, slots-data, units-data}
use Rattle.inline_lift.proofs.LiftedUnitLaws.{IsShort}
use Rattle.inline_lift.proofs.PieceLiftLaws.{in_mode, length-plain, value_state}
use Rattle.inline_lift.proofs.TurnedLaws.{AllTurned, Turned, all-turned, chosen, code, header, itself, more_turned, none_turned, path, value}

-- lifted pieces of plain cells are plain
header-plain : (order : Order) (table : ℕ) (p : List Cell) (o : Option UnitHeader) → IsPlain p → IsPlain (header_cells order table p o)
header-plain order table p None h = h
header-plain order table p (Some u) h = plain_cells-plain _

one-plain : (p : List Cell) → IsPlain p → IsPlain (p ++ [])
one-plain p h = plain-append p [] h (record { plain = refl })

turned-plain : (l : Lift) (Sure : Type 0) (x : Piece UnitState) (ys : List (Piece UnitState)) → Turned l Sure x ys → IsPlain x.cells → IsPlain (joined ys)
turned-plain l Sure x ys (itself y quiet) h = one-plain x.cells h
turned-plain l Sure x ys (header table s p is_header lifts) h = one-plain _ (header-plain l.base.order table p (piece_header l.base (in_mode s at_header) p) h)
turned-plain l Sure x ys (code table gs s p lifts) h = one-plain p h
turned-plain l Sure x ys (value table gs s number tag y rest p quiet) h = one-plain p h
turned-plain l Sure x ys (chosen table gs s number tag start y rest p quiet) h = one-plain p h
turned-plain l Sure x ys (path table gs s number tag y rest p grew kind is fits lifts) h = by_left (room_left s p)
  where
    by_left : (r : ℕ) → IsPlain (joined (lifted_value (grown r) l (lifted_state l table (grown r ∷ gs) (value_state s number tag y rest)) p))
    by_left zero = one-plain _ (plain_cells-plain _)
    by_left (suc n) = plain-append _ _ (plain_cells-plain _) (one-plain _ (plain_cells-plain _))

joined-append : (xs ys : List (Piece UnitState)) → joined (xs ++ ys) ≡ joined xs ++ joined ys
joined-append [] ys = refl
joined-append (x ∷ xs) ys = ap (λ (cs_ : List Cell). x.cells ++ cs_) (joined-append xs ys) ∙ sym (append_assoc x.cells (joined xs) (joined ys))

all-plain : (l : Lift) (Sure : Type 0) (xs ys : List (Piece UnitState)) → AllTurned l Sure xs ys → EachPiece PlainPiece xs → IsPlain (joined ys)
all-plain l Sure xs ys none_turned h = record { plain = refl }
all-plain l Sure xs ys (more_turned x front rest behind t all) h =
    subst IsPlain (sym (joined-append front behind))
    (plain-append (joined front) (joined behind) (turned-plain l Sure x front t h.0.plain) (all-plain l Sure rest behind all h.1))

-- The sections of units that are found in it
abbrev UnitsAt : List ℕ → (ℕ → List ℕ) → Lift → ℕ → Readings → Type 0
UnitsAt b bodies l k rs = (i : ℕ) (kind : SectionKind) → k ≤ i → unit_kind (debug_section (section_name b i)) ≡ Some kind → bodies i ≡ body_in (unit_bodies l rs) (contents_of b) i

abbrev section_of : ℕ → SectionKind → List Cell → UnitSection
section_of i kind p = record { number = i; kind = kind; contents = p }

units-found : (l : Lift) (b : List ℕ) (bodies : ℕ → List ℕ) (first k : ℕ) (ss ts : List ViewSection) (rs : Readings) → is_loaded_kind b ≡ true
    → AllAt (SectionBack b bodies) k ss ts → ReadsAll l.base first (unit_sections_from k ss) rs → EachReading PlainPiece rs → UnitsAt b bodies l k rs
    → unit_sections_from k ts ≡ lifted_sections l (unit_sections_from k ss) rs
units-found l b bodies first k [] [] [] loaded all reads plain at = refl
units-found l b bodies first k [] [] (r ∷ rs) loaded all reads plain at = absurd reads
units-found l b bodies first k [] (t ∷ ts) rs loaded all reads plain at = absurd all
units-found l b bodies first k (s ∷ ss) [] rs loaded all reads plain at = absurd all
units-found l b bodies first k (s ∷ ss) (t ∷ ts) rs loaded all reads plain at =
    ap (λ (full : Bool). (if full then unit_section k t (unit_kind (debug_section t.name)) else []) ++ unit_sections_from (suc k) ts) all.0.has_bytes
    ∙ ap (λ (n : List ℕ). (if s.has_bytes then unit_section k t (unit_kind (debug_section n)) else []) ++ unit_sections_from (suc k) ts) all.0.name
    ∙ by_section s.has_bytes (unit_kind (debug_section s.name)) refl rs reads plain at
    (λ n qs f p at_qs. units-found l b bodies n (suc k) ss ts qs loaded all.1 f p at_qs)
  where
    later : (qs : Readings) → UnitsAt b bodies l k qs → UnitsAt b bodies l (suc k) qs
    later qs here i kind above is = here i kind (omega (arith, above)) is

    behind : (q : Reading) (qs : Readings) → q.number ≡ k → UnitsAt b bodies l k (q ∷ qs) → UnitsAt b bodies l (suc k) qs
    behind q qs same here i kind above is =
        here i kind (omega (arith, above)) is
        ∙ next-body (record { number = q.number; bytes = bytes_of (joined (lifted_pieces l q.pieces)) }) (unit_bodies l qs) (contents_of b) i (λ e. omega (arith, e, above, same))

    by_section : (full : Bool) (o : Option SectionKind) → unit_kind (debug_section s.name) ≡ o → (qs : Readings)
        → ReadsAll l.base first ((if full then unit_section k s o else []) ++ unit_sections_from (suc k) ss) qs → EachReading PlainPiece qs → UnitsAt b bodies l k qs
        → ((n : ℕ) (ps : Readings) → ReadsAll l.base n (unit_sections_from (suc k) ss) ps → EachReading PlainPiece ps → UnitsAt b bodies l (suc k) ps
        → unit_sections_from (suc k) ts ≡ lifted_sections l (unit_sections_from (suc k) ss) ps)
        → (if full then unit_section k t o else []) ++ unit_sections_from (suc k) ts ≡ lifted_sections l ((if full then unit_section k s o else []) ++ unit_sections_from (suc k) ss) qs
    by_section false o is qs f p here rest = rest first qs f p (later qs here)
    by_section true None is qs f p here rest = rest first qs f p (later qs here)
    by_section true (Some kind) is [] f p here rest = absurd f
    by_section true (Some kind) is (q ∷ qs) f p here rest =
        let some : unit_kind (debug_section (section_name b k)) ≡ Some kind = ap (λ (n : List ℕ). unit_kind (debug_section n)) (sym all.0.named) ∙ is in
        let body : bodies k ≡ bytes_of (joined (lifted_pieces l q.pieces)) =
        here k kind (omega arith) some
        ∙ here-body (record { number = q.number; bytes = bytes_of (joined (lifted_pieces l q.pieces)) }) (unit_bodies l qs) (contents_of b) k (sym f.0) in
        let bare : IsPlain (joined (lifted_pieces l q.pieces)) =
        all-plain l ⊥ q.pieces (lifted_pieces l q.pieces) (all-turned l ⊥ (before_unit k kind (length (cells_of s)) 0 first) q.pieces f.1.chain (λ no. absurd no)) p.0 in
        let cells : cells_of t ≡ joined (lifted_pieces l q.pieces) = bare-cells t (all.0.bare loaded) ∙ ap plain_cells (all.0.new ∙ body) ∙ sym bare.plain in
        ap (λ (c : List Cell). section_of k kind c ∷ unit_sections_from (suc k) ts) cells
        ∙ ap (λ (zs : List UnitSection). section_of k kind (joined (lifted_pieces l q.pieces)) ∷ zs) (rest (first + units_in q.pieces) qs f.2 p.1 (behind q qs f.0 here))

-- The sections of macro units
macros-found : (b : List ℕ) (bodies : ℕ → List ℕ) (k : ℕ) (ss ts : List ViewSection) → is_loaded_kind b ≡ true → AllAt (SectionBack b bodies) k ss ts → AllAt (SectionBack b (contents_of b)) k ss ss
    → ((i : ℕ) → is_macro (debug_section (section_name b i)) ≡ true → bodies i ≡ contents_of b i) → macro_sections_from k ts ≡ macro_sections_from k ss
macros-found b bodies k [] [] loaded all own same = refl
macros-found b bodies k [] (t ∷ ts) loaded all own same = absurd all
macros-found b bodies k (s ∷ ss) [] loaded all own same = absurd all
macros-found b bodies k (s ∷ ss) (t ∷ ts) loaded all own same =
    ap (λ (full : Bool). macro_section k t (full && is_macro (debug_section t.name)) ++ macro_sections_from (suc k) ts) all.0.has_bytes
    ∙ ap (λ (n : List ℕ). macro_section k t (s.has_bytes && is_macro (debug_section n)) ++ macro_sections_from (suc k) ts) all.0.name
    ∙ ap (λ (zs : List CellSection). macro_section k t (s.has_bytes && is_macro (debug_section s.name)) ++ zs) (macros-found b bodies (suc k) ss ts loaded all.1 own.1 same)
    ∙ ap (λ (zs : List CellSection). zs ++ macro_sections_from (suc k) ss) (by_macro s.has_bytes (is_macro (debug_section s.name)) refl)
  where
    by_macro : (full is : Bool) → is_macro (debug_section s.name) ≡ is → macro_section k t (full && is) ≡ macro_section k s (full && is)
    by_macro false is e = refl
    by_macro true false e = refl
    by_macro true true e =
        let body : bodies k ≡ contents_of b k = same k (ap (λ (n : List ℕ). is_macro (debug_section n)) (sym all.0.named) ∙ e) in
        ap (λ (p : List Cell). record { number = k; contents = p } ∷ [])
        (bare-cells t (all.0.bare loaded) ∙ ap plain_cells (all.0.new ∙ body ∙ sym all.0.old) ∙ sym (bare-cells s (own.0.bare loaded)))

-- A section that is found by its name
located-as : (b : List ℕ) (bodies : ℕ → List ℕ) (out : List ℕ) (s : DebugSection) (new : List ℕ) → Back b bodies out → ((located (view_of b) s).number ≡ 0 → new ≡ [])
    → ((i : ℕ) → i ≡ (located (view_of b) s).number → 0 < i → i < section_count b → section_name b i ≡ name_of s → bodies i ≡ new)
    → located (view_of out) s ≡ record { number = (located (view_of b) s).number; bytes = new }
unfolding located section_named section_after
located-as b bodies out s new w none body =
    let all = drop-at (SectionBack b bodies) (view_of b).sections (view_of out).sections (sections-back b bodies out w) in
    by_found (section_named (view_of b) (name_of s)) refl (section_named (view_of out) (name_of s))
    (found-back b bodies (name_of s) 1 (drop 1 (view_of b).sections) (drop 1 (view_of out).sections) all) none body
  where
    found_at : (i : ℕ) → section_named (view_of b) (name_of s) ≡ Some i → FoundAt b (name_of s) 1 i
    found_at i e =
        found-named b (contents_of b) (name_of s) 1 i (drop 1 (view_of b).sections) (drop 1 (view_of b).sections)
        (drop-at (SectionBack b (contents_of b)) (view_of b).sections (view_of b).sections (sections-self b)) e

    by_found : (o : Option ℕ) → section_named (view_of b) (name_of s) ≡ o → (q : Option ℕ) → q ≡ o → ((located_at (view_of b) o).number ≡ 0 → new ≡ [])
        → ((i : ℕ) → i ≡ (located_at (view_of b) o).number → 0 < i → i < section_count b → section_name b i ≡ name_of s → bodies i ≡ new)
        → located_at (view_of out) q ≡ record { number = (located_at (view_of b) o).number; bytes = new }
    by_found None e q same gone own = ap (located_at (view_of out)) same ∙ ap (λ (bs : List ℕ). record { number = 0; bytes = bs }) (sym (gone refl))
    by_found (Some i) e q same gone own =
        let f : FoundAt b (name_of s) 1 i = found_at i e in
        let from = f.from in
        let lt : i < section_count out = rw w.back.count f.within in
        ap (located_at (view_of out)) same
        ∙ ap (λ (bs : List ℕ). record { number = i; bytes = bs }) (section_bytes-view_of out i lt ∙ w.back.contents i f.within ∙ own i refl (omega (arith, from)) f.within f.named)

-- one that keeps its bytes
located-same : (b : List ℕ) (bodies : ℕ → List ℕ) (out : List ℕ) (s : DebugSection) → Back b bodies out → ((i : ℕ) → section_name b i ≡ name_of s → bodies i ≡ contents_of b i)
    → located (view_of out) s ≡ located (view_of b) s
located-same b bodies out s w same = by_place (table-place b s)
  where
    by_place : TablePlace b (name_of s) (located (view_of b) s) → located (view_of out) s ≡ located (view_of b) s
    by_place (nowhere none_at empty) =
        located-as b bodies out s (located (view_of b) s).bytes w (λ e. empty) (λ i number some within named. absurd (omega (arith, number, some, none_at)))
    by_place (lies_at there within named bytes) =
        located-as b bodies out s (located (view_of b) s).bytes w (λ e. absurd (omega (arith, e, there)))
        (λ i number some i_within i_named. same i i_named ∙ ap (contents_of b) number ∙ sym bytes)

-- a file whose paths can be offsets; it is shorter than 4 bytes can say
pub record FileLifts (m : PathMap) (b : List ℕ) (r : DataReadings) : Type 0 where
  pub grows : Grows m b r
  pub can : UnitsLift m r
  pub loaded : is_loaded_kind b ≡ true
  pub bytes : length b < 2 ^ 32

pub back-lifted : (m : PathMap) (b : List ℕ) (r : DataReadings) (out : List ℕ) → FileLifts m b r → ReadsBack b (lifted_body m b r) out → Back b (lifted_body m b r) out
back-lifted m b r out w back = record {
  elf = w.grows.reads.elf;
  names = w.grows.reads.names;
  back = back;
  unread = λ i lt unread none. body-unread m b r i w.grows unread;
}

-- its debug data by their parts
abbrev data_with : Order → Located → List UnitSection → Located → Located → CellSection → CellSection → List CellSection → CellSection → DebugData
data_with order abbrevs units str line offsets lines macros names =
    record { base = record { order = order; abbrevs = abbrevs }; found = found_with units str line offsets lines macros names }

data-parts : (b : List ℕ) → file_data b ≡ data_with (view_of b).order (located (view_of b) Abbrev) ((file_data b).found Info) ((file_data b).found Str) ((file_data b).found LineStr)
    ((file_data b).found StrOffsets) ((file_data b).found Line) ((file_data b).found Macro) ((file_data b).found Names)
unfolding debug_data
data-parts b = refl

lifted-parts : (m : PathMap) (b : List ℕ) (r : DataReadings) → lifted_data (file_lift m b r) (file_data b) r
    ≡ data_with (view_of b).order (record { number = (located (view_of b) Abbrev).number; bytes = lifted_abbrevs (file_lift m b r) }) (lifted_sections (file_lift m b r) ((file_data b).found Info) r.units)
    (record { number = ((file_data b).found Str).number; bytes = lifted_str (file_lift m b r) }) ((file_data b).found LineStr)
    ((file_data b).found StrOffsets) ((file_data b).found Line) ((file_data b).found Macro) ((file_data b).found Names)
unfolding debug_data
lifted-parts m b r = refl

same-parts : (o p : Order) (a c : Located) (us vs : List UnitSection) (s t l k : Located) (x y i j : CellSection) (ms ks : List CellSection) (n q : CellSection) → o ≡ p → a ≡ c → us ≡ vs → s ≡ t → l ≡ k → x ≡ y → i ≡ j → ms ≡ ks → n ≡ q
    → data_with o a us s l x i ms n ≡ data_with p c vs t k y j ks q
same-parts o p a c us vs s t l k x y i j ms ks n q e1 e2 e3 e4 e5 e6 e7 e8 e9 =
    ap (λ (z : Order). data_with z a us s l x i ms n) e1 ∙ ap (λ (z : Located). data_with p z us s l x i ms n) e2 ∙ ap (λ (z : List UnitSection). data_with p c z s l x i ms n) e3
    ∙ ap (λ (z : Located). data_with p c vs z l x i ms n) e4 ∙ ap (λ (z : Located). data_with p c vs t z x i ms n) e5 ∙ ap (λ (z : CellSection). data_with p c vs t k z i ms n) e6
    ∙ ap (λ (z : CellSection). data_with p c vs t k y z ms n) e7 ∙ ap (λ (z : List CellSection). data_with p c vs t k y j z n) e8 ∙ ap (data_with p c vs t k y j ks) e9

order-back : (b : List ℕ) (bodies : ℕ → List ℕ) (out : List ℕ) → ReadsBack b bodies out → (view_of out).order ≡ (view_of b).order
order-back b bodies out back = order-view_of out ∙ back.order ∙ sym (order-view_of b)

abbrevs-back : (m : PathMap) (b : List ℕ) (r : DataReadings) (out : List ℕ) → FileLifts m b r → ReadsBack b (lifted_body m b r) out
    → located (view_of out) Abbrev ≡ record { number = (located (view_of b) Abbrev).number; bytes = lifted_abbrevs (file_lift m b r) }
unfolding debug_data
abbrevs-back m b r out w back =
    let some : 0 < abbrevs_number b = (abbrevs-at m b r w.grows).some in
    located-as b (lifted_body m b r) out Abbrev (lifted_abbrevs (file_lift m b r)) (back-lifted m b r out w back) (λ none. absurd (omega (arith, none, some)))
    (λ i number above within named. ap (lifted_body m b r) number ∙ body-abbrevs m b r)

str-back : (m : PathMap) (b : List ℕ) (r : DataReadings) (out : List ℕ) → FileLifts m b r → ReadsBack b (lifted_body m b r) out
    → located (view_of out) Str ≡ record { number = ((file_data b).found Str).number; bytes = lifted_str (file_lift m b r) }
unfolding debug_data
str-back m b r out w back =
    let some : 0 < str_number b = w.grows.texts in
    located-as b (lifted_body m b r) out Str (lifted_str (file_lift m b r)) (back-lifted m b r out w back) (λ none. absurd (omega (arith, none, some)))
    (λ i number above within named. ap (lifted_body m b r) number ∙ body-str m b r w.grows)

line-back : (m : PathMap) (b : List ℕ) (r : DataReadings) (out : List ℕ) → FileLifts m b r → ReadsBack b (lifted_body m b r) out → (file_data out).found LineStr ≡ (file_data b).found LineStr
unfolding debug_data
line-back m b r out w back =
    located-same b (lifted_body m b r) out LineStr (back-lifted m b r out w back) (λ i named. body-named m b r i LineStr w.grows named refl (λ e. cc) (λ e. cc))

offsets-back : (m : PathMap) (b : List ℕ) (r : DataReadings) (out : List ℕ) → FileLifts m b r → ReadsBack b (lifted_body m b r) out
    → (file_data out).found StrOffsets ≡ (file_data b).found StrOffsets
offsets-back m b r out w back =
    offsets-are out (loaded-back b (lifted_body m b r) out back w.loaded)
    ∙ ap plain_section (located-same b (lifted_body m b r) out StrOffsets (back-lifted m b r out w back) (λ i named. body-named m b r i StrOffsets w.grows named refl (λ e. cc) (λ e. cc)))
    ∙ sym (offsets-are b w.loaded)

lines-back : (m : PathMap) (b : List ℕ) (r : DataReadings) (out : List ℕ) → FileLifts m b r → ReadsBack b (lifted_body m b r) out → (file_data out).found Line ≡ (file_data b).found Line
lines-back m b r out w back =
    lines-are out (loaded-back b (lifted_body m b r) out back w.loaded)
    ∙ ap plain_section (located-same b (lifted_body m b r) out Line (back-lifted m b r out w back) (λ i named. body-named m b r i Line w.grows named refl (λ e. cc) (λ e. cc)))
    ∙ sym (lines-are b w.loaded)

names-found : (m : PathMap) (b : List ℕ) (r : DataReadings) (out : List ℕ) → FileLifts m b r → ReadsBack b (lifted_body m b r) out → (file_data out).found Names ≡ (file_data b).found Names
names-found m b r out w back =
    names-are out (loaded-back b (lifted_body m b r) out back w.loaded)
    ∙ ap plain_section (located-same b (lifted_body m b r) out Names (back-lifted m b r out w back) (λ i named. body-named m b r i Names w.grows named refl (λ e. cc) (λ e. cc)))
    ∙ sym (names-are b w.loaded)

units-back : (m : PathMap) (b : List ℕ) (r : DataReadings) (out : List ℕ) → FileLifts m b r → ReadsBack b (lifted_body m b r) out
    → (file_data out).found Info ≡ lifted_sections (file_lift m b r) ((file_data b).found Info) r.units
unfolding debug_data unit_sections
units-back m b r out w back =
    units-found (file_lift m b r) b (lifted_body m b r) 0 1 (drop 1 (view_of b).sections) (drop 1 (view_of out).sections) r.units w.loaded
    (drop-at (SectionBack b (lifted_body m b r)) (view_of b).sections (view_of out).sections (sections-back b (lifted_body m b r) out (back-lifted m b r out w back)))
    w.grows.reads.data_reads.units
    (readings-plain (file_data b).base 0 ((file_data b).found Info) r.units w.grows.reads.data_reads.units (file-plain b w.loaded))
    (λ i kind above is. body-unit m b r i kind w.grows is)

-- a section of macro units keeps its bytes
macro-units : (o : Option DebugSection) → is_macro o ≡ true → unit_kind o ≡ None
macro-units None e = absurd cc
macro-units (Some Info) e = absurd cc
macro-units (Some Types) e = absurd cc
macro-units (Some Abbrev) e = absurd cc
macro-units (Some Str) e = absurd cc
macro-units (Some LineStr) e = absurd cc
macro-units (Some StrOffsets) e = absurd cc
macro-units (Some Line) e = absurd cc
macro-units (Some Macro) e = refl
macro-units (Some Names) e = absurd cc

macro-name : (b : List ℕ) (i : ℕ) (s : DebugSection) → is_macro (Some s) ≡ false → is_macro (debug_section (section_name b i)) ≡ true → section_name b i ≢ name_of s
macro-name b i s none is same =
    let other : is_macro (debug_section (section_name b i)) ≡ false = ap (λ (n : List ℕ). is_macro (debug_section n)) same ∙ ap is_macro (debug_section-name s) ∙ none in
    let no : true ≡ false = sym is ∙ other in
    cc

macro-body : (m : PathMap) (b : List ℕ) (r : DataReadings) (i : ℕ) → Grows m b r → is_macro (debug_section (section_name b i)) ≡ true → lifted_body m b r i ≡ contents_of b i
macro-body m b r i w is =
    body-other m b r i w (other-number b i (abbrevs_number b) Abbrev (abbrevs-at m b r w) (macro-name b i Abbrev refl is))
    (other-number b i (str_number b) Str (str-at m b r w) (macro-name b i Str refl is)) (macro-units (debug_section (section_name b i)) is)

macros-back : (m : PathMap) (b : List ℕ) (r : DataReadings) (out : List ℕ) → FileLifts m b r → ReadsBack b (lifted_body m b r) out → (file_data out).found Macro ≡ (file_data b).found Macro
unfolding debug_data macro_sections
macros-back m b r out w back =
    macros-found b (lifted_body m b r) 1 (drop 1 (view_of b).sections) (drop 1 (view_of out).sections) w.loaded
    (drop-at (SectionBack b (lifted_body m b r)) (view_of b).sections (view_of out).sections (sections-back b (lifted_body m b r) out (back-lifted m b r out w back)))
    (drop-at (SectionBack b (contents_of b)) (view_of b).sections (view_of b).sections (sections-self b))
    (λ i is. macro-body m b r i w.grows is)

-- so they are the lifted ones
pub data-back : (m : PathMap) (b : List ℕ) (r : DataReadings) (out : List ℕ) → FileLifts m b r → ReadsBack b (lifted_body m b r) out → file_data out ≡ lifted_data (file_lift m b r) (file_data b) r
unfolding debug_data
data-back m b r out w back =
    data-parts out
    ∙ same-parts (view_of out).order (view_of b).order (located (view_of out) Abbrev) (record { number = (located (view_of b) Abbrev).number; bytes = lifted_abbrevs (file_lift m b r) })
    ((file_data out).found Info) (lifted_sections (file_lift m b r) ((file_data b).found Info) r.units)
    ((file_data out).found Str) (record { number = ((file_data b).found Str).number; bytes = lifted_str (file_lift m b r) }) ((file_data out).found LineStr) ((file_data b).found LineStr)
    ((file_data out).found StrOffsets) ((file_data b).found StrOffsets) ((file_data out).found Line) ((file_data b).found Line) ((file_data out).found Macro) ((file_data b).found Macro)
    ((file_data out).found Names) ((file_data b).found Names)
    (order-back b (lifted_body m b r) out back) (abbrevs-back m b r out w back) (units-back m b r out w back) (str-back m b r out w back) (line-back m b r out w back)
    (offsets-back m b r out w back) (lines-back m b r out w back) (macros-back m b r out w back) (names-found m b r out w back)
    ∙ sym (lifted-parts m b r)

-- each piece of a file is shorter than 4 bytes can say, as the file is
pieces-short : (xs : List (Piece UnitState)) → length (joined xs) < 2 ^ 32 → EachPiece IsShort xs
pieces-short [] h = tt
pieces-short (x ∷ xs) h = (omega (arith, h, length-append x.cells (joined xs)), pieces-short xs (omega (arith, h, length-append x.cells (joined xs))))

abbrev EachWithin : ℕ → List UnitSection → Type 0
EachWithin n [] = ⊤
EachWithin n (z ∷ zs) = (length z.contents ≤ n) × EachWithin n zs

units-within : (b : List ℕ) (k : ℕ) (ss : List ViewSection) → is_loaded_kind b ≡ true → AllAt (SectionBack b (contents_of b)) k ss ss → EachWithin (length b) (unit_sections_from k ss)
units-within b k [] loaded all = tt
units-within b k (s ∷ ss) loaded all = by_section s.has_bytes (unit_kind (debug_section s.name)) (units-within b (suc k) ss loaded all.1)
  where
    size : length (cells_of s) ≤ length b
    size =
        omega (arith, ap length (bare-cells s (all.0.bare loaded)), length-plain (bytes_in s.contents), ap length all.0.old, length-contents b k)

    by_section : (full : Bool) (o : Option SectionKind) → EachWithin (length b) (unit_sections_from (suc k) ss)
        → EachWithin (length b) ((if full then unit_section k s o else []) ++ unit_sections_from (suc k) ss)
    by_section false o rest = rest
    by_section true None rest = rest
    by_section true (Some kind) rest = (size, rest)

readings-short : (base : UnitBase) (n first : ℕ) (zs : List UnitSection) (rs : Readings) → n < 2 ^ 32 → ReadsAll base first zs rs → EachWithin n zs → EachReading IsShort rs
readings-short base n first [] [] small reads within = tt
readings-short base n first [] (r ∷ rs) small reads within = absurd reads
readings-short base n first (z ∷ zs) [] small reads within = absurd reads
readings-short base n first (z ∷ zs) (r ∷ rs) small reads within =
    let here = within.0 in (
      pieces-short r.pieces (omega (arith, here, small, ap length reads.1.cells)),
      readings-short base n (first + units_in r.pieces) zs rs small reads.2 within.1,
    )

file-short : (m : PathMap) (b : List ℕ) (r : DataReadings) → FileLifts m b r → EachReading IsShort r.units
unfolding debug_data unit_sections
file-short m b r w =
    readings-short (file_data b).base (length b) 0 ((file_data b).found Info) r.units w.bytes w.grows.reads.data_reads.units
    (units-within b 1 (drop 1 (view_of b).sections) w.loaded (drop-at (SectionBack b (contents_of b)) (view_of b).sections (view_of b).sections (sections-self b)))

-- what the laws of debug data ask for
pub data-lifts : (m : PathMap) (b : List ℕ) (r : DataReadings) (out : List ℕ) → FileLifts m b r → ReadsBack b (lifted_body m b r) out → length out ≤ output_limit → DataLifts m (file_data b) r
data-lifts m b r out w back small =
    let abbrevs : contents_of out (abbrevs_number b) ≡ lifted_abbrevs (file_lift m b r) = back.contents (abbrevs_number b) (abbrevs-at m b r w.grows).within ∙ body-abbrevs m b r in
    let str : contents_of out (str_number b) ≡ lifted_str (file_lift m b r) = back.contents (str_number b) (str-at m b r w.grows).within ∙ body-str m b r w.grows in
    record {
      reads = w.grows.reads.data_reads;
      can = w.can;
      short = file-short m b r w;
      abbrevs = omega (arith, ap length abbrevs, length-contents out (abbrevs_number b), small);
      str = omega (arith, ap length str, length-contents out (str_number b), small);
      apart = texts-apart b;
    }

-- it can be read
pub file-lifted-reads : (m : PathMap) (b : List ℕ) (r : DataReadings) (out : List ℕ) → FileLifts m b r → ReadsBack b (lifted_body m b r) out → length out ≤ output_limit
    → FileReads out (lifted_readings (file_lift m b r) r)
file-lifted-reads m b r out w back small = record {
  elf = elf-back b (lifted_body m b r) out (back-lifted m b r out w back);
  names = names-back b (lifted_body m b r) out (back-lifted m b r out w back);
  relocations = relocations-read out (loaded-back b (lifted_body m b r) out back w.loaded);
  data_reads = subst (λ (d : DebugData). DataReads d (lifted_readings (file_lift m b r) r)) (sym (data-back m b r out w back))
      (data-lifted-reads m (file_data b) r (data-lifts m b r out w back small));
}

-- and means the filled meaning
abbrev means_with : List UnitMeaning → List (List ℕ) → List LineMeaning → List MacroMeaning → List NamePart → List NamedBytes → Meaning
means_with units slots lines macros names others =
    record { units = units; slots = slots; lines = lines; macros = macros; names = names; others = bytes_named others }

same-meaning : (us vs : List UnitMeaning) (ss ts : List (List ℕ)) (ls ks : List LineMeaning) (as_ bs : List MacroMeaning) (ns ps : List NamePart) (os qs : List NamedBytes) → us ≡ vs → ss ≡ ts → ls ≡ ks → as_ ≡ bs → ns ≡ ps → os ≡ qs
    → means_with us ss ls as_ ns os ≡ means_with vs ts ks bs ps qs
same-meaning us vs ss ts ls ks as_ bs ns ps os qs e f l a g h =
    ap (λ (z : List UnitMeaning). means_with z ss ls as_ ns os) e ∙ ap (λ (z : List (List ℕ)). means_with vs z ls as_ ns os) f
    ∙ ap (λ (z : List LineMeaning). means_with vs ts z as_ ns os) l ∙ ap (λ (z : List MacroMeaning). means_with vs ts ks z ns os) a
    ∙ ap (λ (z : List NamePart). means_with vs ts ks bs z os) g ∙ ap (λ (z : List NamedBytes). means_with vs ts ks bs ps z) h

pub file-lifted-means : (m : PathMap) (b : List ℕ) (r : DataReadings) (out : List ℕ) → FileLifts m b r → ReadsBack b (lifted_body m b r) out → length out ≤ output_limit
    → meaning_of (view_of out) (lifted_readings (file_lift m b r) r) ≡ filled m (meaning_of (view_of b) r)
unfolding meaning_of debug_data
file-lifted-means m b r out w back small =
    same-meaning (units_of (file_data out) (lifted_readings (file_lift m b r) r)) (filled_units m (units_of (file_data b) r))
    (slot_texts (view_of out).order (located (view_of out) Str) r.offsets) (slot_texts (view_of b).order (located (view_of b) Str) r.offsets)
    (line_meanings (line_source (file_data out)) r.lines) (line_meanings (line_source (file_data b)) r.lines)
    (macro_meanings (around_of (file_data out) (lifted_readings (file_lift m b r) r)) r.macros) (macro_meanings (around_of (file_data b) r) r.macros)
    (name_parts (view_of out).order (located (view_of out) Str) r.names) (name_parts (view_of b).order (located (view_of b) Str) r.names)
    (other_sections (without_id (view_of out).id (view_of out).sections)) (other_sections (without_id (view_of b).id (view_of b).sections))
    (ap (λ (d : DebugData). units_of d (lifted_readings (file_lift m b r) r)) (data-back m b r out w back) ∙ units-data m (file_data b) r (data-lifts m b r out w back small))
    (ap (λ (o : Order). slot_texts o (located (view_of out) Str) r.offsets) (order-back b (lifted_body m b r) out back)
    ∙ ap (λ (z : Located). slot_texts (view_of b).order z r.offsets) (str-back m b r out w back) ∙ slots-data m (file_data b) r w.grows.reads.data_reads)
    (ap (λ (d : DebugData). line_meanings (line_source d) r.lines) (data-back m b r out w back) ∙ lines-data m (file_data b) r (data-lifts m b r out w back small))
    (ap (λ (d : DebugData). macro_meanings (around_of d (lifted_readings (file_lift m b r) r)) r.macros) (data-back m b r out w back) ∙ macros-data m (file_data b) r w.grows.reads.data_reads)
    (ap (λ (o : Order). name_parts o (located (view_of out) Str) r.names) (order-back b (lifted_body m b r) out back)
    ∙ ap (λ (z : Located). name_parts (view_of b).order z r.names) (str-back m b r out w back) ∙ names-data m (file_data b) r w.grows.reads.data_reads)
    (others-back b (lifted_body m b r) out (back-lifted m b r out w back))
