-- What the pieces of units say by index is what their places say, with the number of the unit.
use Rattle.std.proofs.Common.{Bool, true, false, ◌≡◌, ℕ, ◌+◌, ◌-◌, ◌==◌, ◌||◌, List, [], ◌∷◌, ◌++◌, length, cond, if◌then◌else◌, Option, Some, None, refl, sym, ap, ◌∙◌, arith, append_assoc, append-nil}
use Rattle.dw_base.specs.AbbreviationTables.{Abbreviation, abbreviation_of}
use Rattle.dw_base.specs.Cells.{Cell, Located, bytes_of, cells_at, field_of, is_placed, offset_of}
use Rattle.dw_base.specs.DebugData.{begins_by, units_in}
use Rattle.dw_base.specs.EntryScans.{depth_behind}
use Rattle.dw_base.specs.Forms.{ValueKind, number_of, leb_number, form_in_front, kind_in}
use Rattle.dw_base.specs.Numbers.{spelled}
use Rattle.dw_base.specs.Pieces.{Piece, EachPiece, Leads}
use Rattle.dw_base.specs.Roles.{Role, fixed, offset, inline_path, line_start, role_of, is_path, use_of}
use Rattle.dw_base.specs.TableStarts.{macro_value_by, start_form_by}
use Rattle.dw_base.specs.TextIndexes.{SaidBase, IndexUse, base_said, bases_by, bases_in, index_value, is_base, use_by, uses_by, uses_in}
use Rattle.dw_base.specs.UnitHeaders.{UnitBase}
use Rattle.dw_base.specs.UnitPieces.{unit_grammar}
use Rattle.dw_base.specs.UnitStates.{Mode, at_header, at_code, at_values, at_chosen, stuck, UnitState, before_unit, in_unit, between, inside, headed, after_header, after_entry, after_code, after_value, code_value, piece_header, past}
use Rattle.dw_base.specs.declared.shared.Order.{Order}
use Rattle.dw_base.specs.declared.units.UnitHeader.{UnitHeader}
use Rattle.dw_base.specs.declared.values.Spec.{Spec}
use Rattle.dw_base.specs.declared.values.ValueClass.{ValueClass}
use Rattle.dw_base.specs.declared.values.ValueClass.TheVariants.{Number, StrIndex, SecOffset}
use Rattle.dw_unit_fields.proofs.PlacedRunLaws.{OrderIs, IsNumbered}
use Rattle.dw_unit_fields.specs.TextPlaces.{TextPlace, BaseSource, said_base, place_of, indexed_kind, indexed_in, places_in, said_start, use_at, uses_among, base_at, bases_among, UnitSays, numbered_uses, numbered_bases}

-- lists, one behind another
pub uses-append : (order : Order) (xs ys : List (Piece UnitState)) → uses_in order (xs ++ ys) ≡ uses_in order xs ++ uses_in order ys
uses-append order [] ys = refl
uses-append order (x ∷ xs) ys =
    ap (λ (us : List IndexUse). uses_by x.state.mode order x.state x.cells ++ us) (uses-append order xs ys)
    ∙ sym (append_assoc (uses_by x.state.mode order x.state x.cells) (uses_in order xs) (uses_in order ys))

pub bases-append : (order : Order) (y : Located) (xs ys : List (Piece UnitState)) → bases_in order y (xs ++ ys) ≡ bases_in order y xs ++ bases_in order y ys
bases-append order y [] ys = refl
bases-append order y (x ∷ xs) ys =
    ap (λ (us : List SaidBase). bases_by x.state.mode order y x.state x.cells ++ us) (bases-append order y xs ys)
    ∙ sym (append_assoc (bases_by x.state.mode order y x.state x.cells) (bases_in order y xs) (bases_in order y ys))

pub uses_among-append : (section unit : ℕ) (ts us : List TextPlace) → uses_among section unit (ts ++ us) ≡ uses_among section unit ts ++ uses_among section unit us
uses_among-append section unit [] us = refl
uses_among-append section unit (t ∷ ts) us =
    ap (λ (xs : List IndexUse). use_at section unit t.at t.says ++ xs) (uses_among-append section unit ts us)
    ∙ sym (append_assoc (use_at section unit t.at t.says) (uses_among section unit ts) (uses_among section unit us))

pub bases_among-append : (g : BaseSource) (cells : List Cell) (unit : ℕ) (ts us : List TextPlace)
    → bases_among g cells unit (ts ++ us) ≡ bases_among g cells unit ts ++ bases_among g cells unit us
bases_among-append g cells unit [] us = refl
bases_among-append g cells unit (t ∷ ts) us =
    ap (λ (xs : List SaidBase). base_at g cells unit t.at t.len t.says ++ xs) (bases_among-append g cells unit ts us)
    ∙ sym (append_assoc (base_at g cells unit t.at t.len t.says) (bases_among g cells unit ts) (bases_among g cells unit us))

pub numbered_uses-more : (unit : ℕ) (us : List UnitSays) (u : UnitSays)
    → numbered_uses unit (us ++ u ∷ []) ≡ numbered_uses unit us ++ uses_among u.section (unit + length us) u.places
numbered_uses-more unit [] u = append-nil (uses_among u.section unit u.places) ∙ ap (λ (n : ℕ). uses_among u.section n u.places) (omega arith)
numbered_uses-more unit (x ∷ xs) u =
    ap (λ (ys : List IndexUse). uses_among x.section unit x.places ++ ys)
    (numbered_uses-more (unit + 1) xs u ∙ ap (λ (n : ℕ). numbered_uses (unit + 1) xs ++ uses_among u.section n u.places) (omega arith))
    ∙ sym (append_assoc (uses_among x.section unit x.places) (numbered_uses (unit + 1) xs) (uses_among u.section (unit + length (x ∷ xs)) u.places))

pub numbered_bases-more : (g : BaseSource) (unit : ℕ) (us : List UnitSays) (u : UnitSays)
    → numbered_bases g unit (us ++ u ∷ []) ≡ numbered_bases g unit us ++ bases_among g u.cells (unit + length us) u.places
numbered_bases-more g unit [] u = append-nil (bases_among g u.cells unit u.places) ∙ ap (λ (n : ℕ). bases_among g u.cells n u.places) (omega arith)
numbered_bases-more g unit (x ∷ xs) u =
    ap (λ (ys : List SaidBase). bases_among g x.cells unit x.places ++ ys)
    (numbered_bases-more g (unit + 1) xs u ∙ ap (λ (n : ℕ). numbered_bases g (unit + 1) xs ++ bases_among g u.cells n u.places) (omega arith))
    ∙ sym (append_assoc (bases_among g x.cells unit x.places) (numbered_bases g (unit + 1) xs) (bases_among g u.cells (unit + length (x ∷ xs)) u.places))

-- a text that an edit may change says nothing by index
place-uses : (r : Role) (section unit at len : ℕ) → uses_among section unit (place_of r at len) ≡ []
place-uses fixed section unit at len = refl
place-uses (offset t path) section unit at len = refl
place-uses inline_path section unit at len = refl
place-uses line_start section unit at len = refl

place-bases : (r : Role) (g : BaseSource) (cells : List Cell) (unit at len : ℕ) → bases_among g cells unit (place_of r at len) ≡ []
place-bases fixed g cells unit at len = refl
place-bases (offset t path) g cells unit at len = refl
place-bases inline_path g cells unit at len = refl
place-bases line_start g cells unit at len = refl

-- and neither does what a value says of starts
said-uses : (b macro : Bool) (section unit begin at len : ℕ) (ts : List TextPlace) → uses_among section unit (ts ++ said_start b macro begin at len) ≡ uses_among section unit ts
said-uses true true section unit begin at len ts = uses_among-append section unit ts (said_start true true begin at len) ∙ append-nil (uses_among section unit ts)
said-uses true false section unit begin at len ts = ap (uses_among section unit) (append-nil ts)
said-uses false macro section unit begin at len ts = uses_among-append section unit ts (said_start false macro begin at len) ∙ append-nil (uses_among section unit ts)

said-bases : (b macro : Bool) (g : BaseSource) (cells : List Cell) (unit begin at len : ℕ) (ts : List TextPlace)
    → bases_among g cells unit (ts ++ said_start b macro begin at len) ≡ bases_among g cells unit ts
said-bases true true g cells unit begin at len ts = bases_among-append g cells unit ts (said_start true true begin at len) ∙ append-nil (bases_among g cells unit ts)
said-bases true false g cells unit begin at len ts = ap (bases_among g cells unit) (append-nil ts)
said-bases false macro g cells unit begin at len ts = bases_among-append g cells unit ts (said_start false macro begin at len) ∙ append-nil (bases_among g cells unit ts)

-- a value that names a text by index
base-uses : (field : Bool) (section unit begin at len n : ℕ) → [] ≡ uses_among section unit (said_base field begin at len n)
base-uses true section unit begin at len n = refl
base-uses false section unit begin at len n = refl

kind-uses : (k : ValueKind) (path base : Bool) (order : Order) (s : UnitState) (begin at len : ℕ) (p : List Cell)
    → use_by s begin path (index_value order k p) ≡ uses_among s.section s.unit (indexed_kind k path base order begin at len p)
kind-uses (number_of class n) path base order s begin at len p = by_class class base
  where
    by_class : (c : ValueClass) (b : Bool)
        → use_by s begin path (index_value order (number_of c n) p) ≡ uses_among s.section s.unit (indexed_kind (number_of c n) path b order begin at len p)
    by_class StrIndex b = refl
    by_class Number true = base-uses (n == 4 || n == 8) s.section s.unit begin at len (spelled order (bytes_of p) 0 (length p))
    by_class Number false = refl
    by_class SecOffset true = base-uses true s.section s.unit begin at len (spelled order (bytes_of p) 0 (length p))
    by_class SecOffset false = refl
    by_class c b = refl
kind-uses (leb_number class) path base order s begin at len p = by_class class base
  where
    by_class : (c : ValueClass) (b : Bool)
        → use_by s begin path (index_value order (leb_number c) p) ≡ uses_among s.section s.unit (indexed_kind (leb_number c) path b order begin at len p)
    by_class StrIndex b = refl
    by_class Number true = refl
    by_class Number false = refl
    by_class c b = refl
kind-uses k path base order s begin at len p = refl

piece-uses : (m : Mode) (order : Order) (s : UnitState) (p : List Cell) → OrderIs m s.header.params.order order
    → uses_by m order s p ≡ uses_among s.section s.unit (indexed_in m s p)
piece-uses at_header order s p same = refl
piece-uses at_code order s p same = refl
piece-uses (at_values n tag []) order s p same = refl
piece-uses (at_values n tag (x ∷ xs)) order s p same =
    kind-uses (kind_in s.header.params x.form) (is_path n tag x.name) (is_base n x.name) order s s.place s.place (length p) p
    ∙ ap (λ (o : Order). uses_among s.section s.unit (indexed_kind (kind_in s.header.params x.form) (is_path n tag x.name) (is_base n x.name) o s.place s.place (length p) p)) (sym same)
    ∙ sym (said-uses (start_form_by (kind_in s.header.params x.form) (use_of n tag x.name)) (macro_value_by (kind_in s.header.params x.form) (use_of n tag x.name)) s.section s.unit s.place s.place (length p)
    (indexed_kind (kind_in s.header.params x.form) (is_path n tag x.name) (is_base n x.name) s.header.params.order s.place s.place (length p) p))
piece-uses (at_chosen n tag start x xs) order s p same =
    kind-uses (kind_in s.header.params x.form) (is_path n tag x.name) (is_base n x.name) order s start s.place (length p) p
    ∙ ap (λ (o : Order). uses_among s.section s.unit (indexed_kind (kind_in s.header.params x.form) (is_path n tag x.name) (is_base n x.name) o start s.place (length p) p)) (sym same)
    ∙ sym (said-uses (start_form_by (kind_in s.header.params x.form) (use_of n tag x.name)) (macro_value_by (kind_in s.header.params x.form) (use_of n tag x.name)) s.section s.unit start s.place (length p)
    (indexed_kind (kind_in s.header.params x.form) (is_path n tag x.name) (is_base n x.name) s.header.params.order start s.place (length p) p))
piece-uses stuck order s p same = refl

-- so do pieces of a unit
pub run-uses : (order : Order) (cells : List Cell) (section unit : ℕ) (xs : List (Piece UnitState)) → EachPiece (IsNumbered order cells section unit) xs
    → uses_in order xs ≡ uses_among section unit (places_in xs)
run-uses order cells section unit [] each = refl
run-uses order cells section unit (x ∷ xs) each =
    let text : List TextPlace = place_of (role_of x) x.state.place (length x.cells) in
    let said : List TextPlace = indexed_in x.state.mode x.state x.cells in
    let one = each.0 in
    let here : uses_by x.state.mode order x.state x.cells ≡ uses_among section unit said =
    piece-uses x.state.mode order x.state x.cells one.order_is
    ∙ ap (λ (n : ℕ). uses_among n x.state.unit (indexed_in x.state.mode x.state x.cells)) one.section_is
    ∙ ap (λ (n : ℕ). uses_among section n (indexed_in x.state.mode x.state x.cells)) one.unit_is in
    ap (λ (us : List IndexUse). us ++ uses_in order xs) here
    ∙ ap (λ (us : List IndexUse). uses_among section unit said ++ us) (run-uses order cells section unit xs each.1)
    ∙ sym (uses_among-append section unit said (places_in xs))
    ∙ ap (λ (us : List IndexUse). us ++ uses_among section unit (said ++ places_in xs)) (sym (place-uses (role_of x) section unit x.state.place (length x.cells)))
    ∙ sym (uses_among-append section unit text (said ++ places_in xs))

-- a value that says a base
base-says : (field : Bool) (g : BaseSource) (cells : List Cell) (unit begin at : ℕ) (p : List Cell) → cells_at cells at (length p) ≡ p
    → record { unit = unit; base = if field then offset_of g.order g.offsets p else spelled g.order (bytes_of p) 0 (length p); placed = if field then is_placed (field_of g.order p) else true } ∷ []
    ≡ bases_among g cells unit (said_base field begin at (length p) (spelled g.order (bytes_of p) 0 (length p)))
base-says true g cells unit begin at p stands =
    ap (λ (q : List Cell). record { unit = unit; base = offset_of g.order g.offsets q; placed = is_placed (field_of g.order q) } ∷ []) (sym stands)
base-says false g cells unit begin at p stands = refl

kind-bases : (k : ValueKind) (path base : Bool) (g : BaseSource) (cells : List Cell) (s : UnitState) (begin at : ℕ) (p : List Cell) → cells_at cells at (length p) ≡ p
    → (if base then base_said s.unit g.order g.offsets k p else []) ≡ bases_among g cells s.unit (indexed_kind k path base g.order begin at (length p) p)
kind-bases (number_of class n) path base g cells s begin at p stands = by_class class base
  where
    by_class : (c : ValueClass) (b : Bool)
        → (if b then base_said s.unit g.order g.offsets (number_of c n) p else [])
        ≡ bases_among g cells s.unit (indexed_kind (number_of c n) path b g.order begin at (length p) p)
    by_class StrIndex true = refl
    by_class StrIndex false = refl
    by_class Number true = base-says (n == 4 || n == 8) g cells s.unit begin at p stands
    by_class Number false = refl
    by_class SecOffset true = base-says true g cells s.unit begin at p stands
    by_class SecOffset false = refl
    by_class c true = refl
    by_class c false = refl
kind-bases (leb_number class) path base g cells s begin at p stands = by_class class base
  where
    by_class : (c : ValueClass) (b : Bool)
        → (if b then base_said s.unit g.order g.offsets (leb_number c) p else [])
        ≡ bases_among g cells s.unit (indexed_kind (leb_number c) path b g.order begin at (length p) p)
    by_class StrIndex true = refl
    by_class StrIndex false = refl
    by_class Number true = refl
    by_class Number false = refl
    by_class c true = refl
    by_class c false = refl
kind-bases k path true g cells s begin at p stands = refl
kind-bases k path false g cells s begin at p stands = refl

piece-bases : (m : Mode) (g : BaseSource) (cells : List Cell) (s : UnitState) (p : List Cell) → OrderIs m s.header.params.order g.order → cells_at cells s.place (length p) ≡ p
    → bases_by m g.order g.offsets s p ≡ bases_among g cells s.unit (indexed_in m s p)
piece-bases at_header g cells s p same stands = refl
piece-bases at_code g cells s p same stands = refl
piece-bases (at_values n tag []) g cells s p same stands = refl
piece-bases (at_values n tag (x ∷ xs)) g cells s p same stands =
    kind-bases (kind_in s.header.params x.form) (is_path n tag x.name) (is_base n x.name) g cells s s.place s.place p stands
    ∙ ap (λ (o : Order). bases_among g cells s.unit (indexed_kind (kind_in s.header.params x.form) (is_path n tag x.name) (is_base n x.name) o s.place s.place (length p) p)) (sym same)
    ∙ sym (said-bases (start_form_by (kind_in s.header.params x.form) (use_of n tag x.name)) (macro_value_by (kind_in s.header.params x.form) (use_of n tag x.name)) g cells s.unit s.place s.place (length p)
    (indexed_kind (kind_in s.header.params x.form) (is_path n tag x.name) (is_base n x.name) s.header.params.order s.place s.place (length p) p))
piece-bases (at_chosen n tag start x xs) g cells s p same stands =
    kind-bases (kind_in s.header.params x.form) (is_path n tag x.name) (is_base n x.name) g cells s start s.place p stands
    ∙ ap (λ (o : Order). bases_among g cells s.unit (indexed_kind (kind_in s.header.params x.form) (is_path n tag x.name) (is_base n x.name) o start s.place (length p) p)) (sym same)
    ∙ sym (said-bases (start_form_by (kind_in s.header.params x.form) (use_of n tag x.name)) (macro_value_by (kind_in s.header.params x.form) (use_of n tag x.name)) g cells s.unit start s.place (length p)
    (indexed_kind (kind_in s.header.params x.form) (is_path n tag x.name) (is_base n x.name) s.header.params.order start s.place (length p) p))
piece-bases stuck g cells s p same stands = refl

pub run-bases : (g : BaseSource) (cells : List Cell) (section unit : ℕ) (xs : List (Piece UnitState)) → EachPiece (IsNumbered g.order cells section unit) xs
    → bases_in g.order g.offsets xs ≡ bases_among g cells unit (places_in xs)
run-bases g cells section unit [] each = refl
run-bases g cells section unit (x ∷ xs) each =
    let text : List TextPlace = place_of (role_of x) x.state.place (length x.cells) in
    let said : List TextPlace = indexed_in x.state.mode x.state x.cells in
    let one = each.0 in
    let here : bases_by x.state.mode g.order g.offsets x.state x.cells ≡ bases_among g cells unit said =
    piece-bases x.state.mode g cells x.state x.cells one.order_is one.stands
    ∙ ap (λ (n : ℕ). bases_among g cells n (indexed_in x.state.mode x.state x.cells)) one.unit_is in
    ap (λ (us : List SaidBase). us ++ bases_in g.order g.offsets xs) here
    ∙ ap (λ (us : List SaidBase). bases_among g cells unit said ++ us) (run-bases g cells section unit xs each.1)
    ∙ sym (bases_among-append g cells unit said (places_in xs))
    ∙ ap (λ (us : List SaidBase). us ++ bases_among g cells unit (said ++ places_in xs)) (sym (place-bases (role_of x) g cells unit x.state.place (length x.cells)))
    ∙ sym (bases_among-append g cells unit text (said ++ places_in xs))

-- how many units have begun, with those before the first piece
abbrev begun_by : Mode → ℕ → ℕ
begun_by at_header unit = unit
begun_by m unit = unit + 1

abbrev begun : UnitState → ℕ
begun s = begun_by s.mode s.unit

begun-between : (s : UnitState) (place entry depth : ℕ) → begun (between s place entry depth) ≡ s.unit + 1
unfolding between
begun-between s place entry depth = by_end (place == s.header.end) (depth == 0)
  where
    by_end : (last top : Bool)
        → begun (cond last (cond top (before_unit s.section s.kind s.whole place (s.unit + 1)) (in_unit s place entry depth stuck)) (in_unit s place entry depth at_code)) ≡ s.unit + 1
    by_end true true = refl
    by_end true false = refl
    by_end false top = refl

begun-inside : (s : UnitState) (place entry depth number tag : ℕ) (specs : List Spec) → begun (inside s place entry depth number tag specs) ≡ s.unit + 1
begun-inside s place entry depth number tag [] = begun-between s place entry depth
begun-inside s place entry depth number tag (x ∷ xs) = refl

begun-header : (base : UnitBase) (s : UnitState) (place : ℕ) (h : Option UnitHeader) → begun (after_header base s place h) ≡ s.unit + 1
begun-header base s place None = refl
begun-header base s place (Some h) = begun-between (headed base s h) place 0 0

begun-entry : (s : UnitState) (place : ℕ) (a : Option Abbreviation) → begun (after_entry s place a) ≡ s.unit + 1
begun-entry s place None = refl
begun-entry s place (Some a) = begun-inside s place (s.entry + 1) (depth_behind a s.depth) s.entry a.tag a.specs

begun-code : (s : UnitState) (place n : ℕ) → begun (after_code s place n) ≡ s.unit + 1
unfolding after_code
begun-code s place n = by_null (n == 0)
  where
    by_null : (null : Bool) → begun (cond null (between s place s.entry (s.depth - 1)) (after_entry s place (abbreviation_of s.table n))) ≡ s.unit + 1
    by_null true = begun-between s place s.entry (s.depth - 1)
    by_null false = begun-entry s place (abbreviation_of s.table n)

begun-value : (k : ValueKind) (s : UnitState) (place form number tag : ℕ) (x : Spec) (xs : List Spec) → begun (after_value k s place form number tag x xs) ≡ s.unit + 1
begun-value form_in_front s place form number tag x xs = refl
begun-value k s place form number tag x xs = begun-inside s place s.entry s.depth number tag xs

begun-past : (m : Mode) (base : UnitBase) (s : UnitState) (p : List Cell) → s.mode ≡ m → begun (past m base s p) ≡ begun_by m s.unit + begins_by m
begun-past at_header base s p is = begun-header base s (s.place + length p) (piece_header base s p)
begun-past at_code base s p is = begun-code s (s.place + length p) (code_value p) ∙ omega arith
begun-past (at_values number tag []) base s p is = ap (λ (m : Mode). begun_by m s.unit) is ∙ omega arith
begun-past (at_values number tag (x ∷ xs)) base s p is =
    begun-value (kind_in s.header.params x.form) s (s.place + length p) (code_value p) number tag x xs ∙ omega arith
begun-past (at_chosen number tag start x xs) base s p is = begun-inside s (s.place + length p) s.entry s.depth number tag xs ∙ omega arith
begun-past stuck base s p is = ap (λ (m : Mode). begun_by m s.unit) is ∙ omega arith

-- pieces lead on by as many units as begin in them
pub run-begins : (base : UnitBase) (s t : UnitState) (xs : List (Piece UnitState)) → Leads (unit_grammar base) s xs t → begun t ≡ begun s + units_in xs
run-begins base s t [] l = ap begun (sym l) ∙ omega arith
run-begins base s t (x ∷ xs) l =
    let next : begun t ≡ begun (past x.state.mode base x.state x.cells) + units_in xs = run-begins base (past x.state.mode base x.state x.cells) t xs l.2 in
    let step : begun (past x.state.mode base x.state x.cells) ≡ begun x.state + begins_by x.state.mode = begun-past x.state.mode base x.state x.cells refl in
    let same : begun x.state ≡ begun s = ap begun l.0 in
    let all : units_in (x ∷ xs) ≡ begins_by x.state.mode + units_in xs = refl in
    omega (arith, next, step, same, all)
