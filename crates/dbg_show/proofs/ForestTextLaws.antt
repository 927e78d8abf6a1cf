-- The text of units is what their pieces say, one after another.
use Rattle.std.proofs.Common.{Bool, true, false, suc, ◌≡◌, ◌≢◌, ◌⊎◌, inl, inr, ℕ, ◌+◌, ◌-◌, List, [], ◌∷◌, ◌++◌, length, Option, Some, None, refl, sym, ap, ◌∙◌, subst, arith, if◌then◌else◌, append_assoc, append-nil}
use Rattle.std.specs.Bool.{⊤}
use Rattle.std.specs.Prelude.{◌==◌}
use Rattle.dw_base.specs.AbbreviationTables.{Abbreviation, abbreviation_of}
use Rattle.dw_base.specs.Cells.{Cell}
use Rattle.dw_base.specs.DebugData.{Around, ReadsAll, begins_by, units_in}
use Rattle.dw_base.specs.EntryScans.{depth_behind}
use Rattle.dw_base.specs.Forests.{AttributeMeaning, Forest, no_entries, entry, Mark, opens, attribute, null, all_entries, followed_by, with_entry}
use Rattle.dw_base.specs.Forms.{ValueKind, form_in_front, kind_in}
use Rattle.dw_base.specs.Pieces.{Piece, Chain}
use Rattle.dw_base.specs.Readings.{Readings}
use Rattle.dw_base.specs.Roles.{use_of}
use Rattle.dw_base.specs.UnitHeaders.{UnitBase, UnitSection}
use Rattle.dw_base.specs.UnitMeanings.{UnitMeaning, Following, head_meaning, head_mark, entry_mark, code_mark, value_mark, mark_by, mark_of, with_mark, following, unit_meanings, units_read}
use Rattle.dw_base.specs.UnitPieces.{FitsMode, ReadsUnits, unit_grammar}
use Rattle.dw_base.specs.UnitStates.{Mode, at_header, at_code, at_values, at_chosen, stuck, UnitState, before_unit, in_unit, between, inside, headed, after_header, after_entry, after_code, code_value, after_value, piece_header, past}
use Rattle.dw_base.specs.ValueMeanings.{meaning_of_value}
use Rattle.dw_base.specs.declared.units.UnitHeader.{UnitHeader}
use Rattle.dw_base.specs.declared.values.Spec.{Spec}
use Rattle.dw_meaning.proofs.ScanPieceLaws.{is_front, after-own}
use Rattle.dw_meaning.proofs.SpelledLaws.{stuck-none}
use Rattle.dbg_show.specs.PieceTexts.{mark_said, pieces_said, all_said}
use Rattle.dbg_show.specs.UnitTexts.{attribute_line, attributes_text, entry_count, entry_line, forest_text, head_line, section_name, unit_text, units_text, value_said}

-- a forest behind another
followed-text : (n d : ℕ) (f g : Forest) → forest_text n d (followed_by f g) ≡ forest_text n d f ++ forest_text (n + entry_count f) d g
followed-text n d no_entries g =
    let same : n ≡ n + 0 = omega arith in
    ap (λ (k : ℕ). forest_text k d g) same
followed-text n d (entry tag ats c s) g =
    let count : n + 1 + entry_count c + entry_count s ≡ n + suc (entry_count c + entry_count s) = omega arith in
    ap (λ (t : List ℕ). entry_line n d tag ++ (attributes_text ats ++ (forest_text (n + 1) (d + 1) c ++ t)))
    (followed-text (n + 1 + entry_count c) d s g
    ∙ ap (λ (m : ℕ). forest_text (n + 1 + entry_count c) d s ++ forest_text m d g) count)
    ∙ four (entry_line n d tag) (attributes_text ats) (forest_text (n + 1) (d + 1) c) (forest_text (n + 1 + entry_count c) d s) (forest_text (n + suc (entry_count c + entry_count s)) d g)
  where
    four : (a b c d e : List ℕ) → a ++ (b ++ (c ++ (d ++ e))) ≡ (a ++ (b ++ (c ++ d))) ++ e
    four a b c d e =
        ap (λ (t : List ℕ). a ++ (b ++ t)) (sym (append_assoc c d e)) ∙ ap (λ (t : List ℕ). a ++ t) (sym (append_assoc b (c ++ d) e)) ∙ sym (append_assoc a (b ++ (c ++ d)) e)

-- lists that are open, the innermost first
abbrev levels_text : ℕ → ℕ → List Forest → List ℕ
levels_text n d [] = []
levels_text n d (f ∷ fs) = forest_text n d f ++ levels_text (n + entry_count f) (d - 1) fs

top-text : (n : ℕ) (fs : List Forest) → forest_text n 0 (all_entries fs) ≡ levels_text n 0 fs
top-text n [] = refl
top-text n (f ∷ fs) = followed-text n 0 f (all_entries fs) ∙ ap (λ (t : List ℕ). forest_text n 0 f ++ t) (top-text (n + entry_count f) fs)

-- an entry in front
five-parts : (a b c d e : List ℕ) → (a ++ (b ++ (c ++ d))) ++ e ≡ a ++ (b ++ (c ++ (d ++ e)))
five-parts a b c d e =
    append_assoc a (b ++ (c ++ d)) e ∙ ap (λ (t : List ℕ). a ++ t) (append_assoc b (c ++ d) e)
    ∙ ap (λ (t : List ℕ). a ++ (b ++ t)) (append_assoc c d e)

lone-text : (n d tag : ℕ) (ats : List AttributeMeaning) (fs : List Forest)
    → levels_text n d (with_entry tag false ats fs) ≡ entry_line n d tag ++ (attributes_text ats ++ levels_text (n + 1) d fs)
lone-text n d tag ats [] =
    append-nil (entry_line n d tag ++ (attributes_text ats ++ []))
lone-text n d tag ats (f ∷ fs) =
    let first : n + 1 + 0 ≡ n + 1 = omega arith in
    let count : n + suc (0 + entry_count f) ≡ n + 1 + entry_count f = omega arith in
    ap (λ (k : ℕ). (entry_line n d tag ++ (attributes_text ats ++ forest_text k d f)) ++ levels_text (n + suc (0 + entry_count f)) (d - 1) fs) first
    ∙ ap (λ (k : ℕ). (entry_line n d tag ++ (attributes_text ats ++ forest_text (n + 1) d f)) ++ levels_text k (d - 1) fs) count
    ∙ append_assoc (entry_line n d tag) (attributes_text ats ++ forest_text (n + 1) d f) (levels_text (n + 1 + entry_count f) (d - 1) fs)
    ∙ ap (λ (t : List ℕ). entry_line n d tag ++ t) (append_assoc (attributes_text ats) (forest_text (n + 1) d f) (levels_text (n + 1 + entry_count f) (d - 1) fs))

parent-text : (n d tag : ℕ) (ats : List AttributeMeaning) (fs : List Forest)
    → levels_text n d (with_entry tag true ats fs) ≡ entry_line n d tag ++ (attributes_text ats ++ levels_text (n + 1) (d + 1) fs)
parent-text n d tag ats [] =
    append-nil (entry_line n d tag ++ (attributes_text ats ++ []))
parent-text n d tag ats (f ∷ []) =
    append-nil (entry_line n d tag ++ (attributes_text ats ++ (forest_text (n + 1) (d + 1) f ++ [])))
parent-text n d tag ats (f ∷ g ∷ fs) =
    let count : n + suc (entry_count f + entry_count g) ≡ n + 1 + entry_count f + entry_count g = omega arith in
    let depth : d ≡ d + 1 - 1 = omega arith in
    ap (λ (k : ℕ). (entry_line n d tag ++ (attributes_text ats ++ (forest_text (n + 1) (d + 1) f ++ forest_text (n + 1 + entry_count f) d g))) ++ levels_text k (d - 1) fs) count
    ∙ five-parts (entry_line n d tag) (attributes_text ats) (forest_text (n + 1) (d + 1) f) (forest_text (n + 1 + entry_count f) d g) (levels_text (n + 1 + entry_count f + entry_count g) (d - 1) fs)
    ∙ ap (λ (k : ℕ). entry_line n d tag ++ (attributes_text ats ++ (forest_text (n + 1) (d + 1) f
    ++ (forest_text (n + 1 + entry_count f) k g ++ levels_text (n + 1 + entry_count f + entry_count g) (k - 1) fs)))) depth

-- what follows a place, as it is printed; `unit` is the number of the next unit
abbrev following_said : List UnitSection → ℕ → ℕ → ℕ → Following → List ℕ
following_said zs entries depth unit r = attributes_text r.attributes ++ (levels_text entries depth r.levels ++ units_text zs unit r.units)

-- the number of the next unit
abbrev next_unit : Mode → ℕ → ℕ
next_unit at_header unit = unit
next_unit m unit = unit + 1

abbrev said_at : List UnitSection → UnitState → Following → List ℕ
said_at zs s r = following_said zs s.entry s.depth (next_unit s.mode s.unit) r

-- no attributes follow a place between entries, and no entries one between units
abbrev IsFresh : Mode → Following → Type 0
IsFresh at_header r = (r.attributes ≡ []) × (r.levels ≡ [])
IsFresh at_code r = r.attributes ≡ []
IsFresh m r = ⊤

begun-fresh : (section : ℕ) (around : Around) (o : Option UnitHeader) (h : UnitHeader) (r : Following) → o ≡ Some h → IsFresh at_header (with_mark section (head_mark around.lasting o) r)
begun-fresh section around None h r e = absurd cc
begun-fresh section around (Some x) h r e = (refl, refl)

code-fresh : (section : ℕ) (table : List Abbreviation) (n : ℕ) (r : Following) → (with_mark section (code_mark table n) r).attributes ≡ []
code-fresh section table n r = by_null (n == 0)
  where
    by_entry : (o : Option Abbreviation) → (with_mark section (entry_mark o) r).attributes ≡ []
    by_entry None = refl
    by_entry (Some a) = refl

    by_null : (b : Bool) → (with_mark section (if b then null else entry_mark (abbreviation_of table n)) r).attributes ≡ []
    by_null true = refl
    by_null false = by_entry (abbreviation_of table n)

mark-fresh : (m : Mode) (base : UnitBase) (section : ℕ) (around : Around) (s : UnitState) (p : List Cell) (r : Following) → around.lasting.base ≡ base → FitsMode m base s p
    → IsFresh m (with_mark section (mark_by m around s p) r)
mark-fresh at_header base section around s p r e fits =
    begun-fresh section around (piece_header around.lasting.base s p) fits.header r (ap (λ (b : UnitBase). piece_header b s p) e ∙ fits.is)
mark-fresh at_code base section around s p r e fits = code-fresh section s.table (code_value p) r
mark-fresh (at_values n tag xs) base section around s p r e fits = tt
mark-fresh (at_chosen n tag start x xs) base section around s p r e fits = tt
mark-fresh stuck base section around s p r e fits = tt

chain-fresh : (base : UnitBase) (section : ℕ) (around : Around) (s : UnitState) (xs : List (Piece UnitState)) → around.lasting.base ≡ base → Chain (unit_grammar base) s xs
    → IsFresh s.mode (following section around xs)
chain-fresh base section around s [] e c = none s.mode
  where
    none : (m : Mode) → IsFresh m (record { attributes = []; levels = []; units = [] })
    none at_header = (refl, refl)
    none at_code = refl
    none (at_values n tag xs) = tt
    none (at_chosen n tag start x xs) = tt
    none stuck = tt
chain-fresh base section around s (x ∷ xs) e c =
    subst (λ (m : Mode). IsFresh m (with_mark section (mark_of around x) (following section around xs))) (ap (λ (t : UnitState). t.mode) c.0)
    (mark-fresh x.state.mode base section around x.state x.cells (following section around xs) e c.1)

-- between entries
bare : (zs : List UnitSection) (n d u : ℕ) (r : Following) → r.attributes ≡ [] → following_said zs n d u r ≡ levels_text n d r.levels ++ units_text zs u r.units
bare zs n d u r e = ap (λ (ats : List AttributeMeaning). attributes_text ats ++ (levels_text n d r.levels ++ units_text zs u r.units)) e

between-said : (base : UnitBase) (section : ℕ) (around : Around) (zs : List UnitSection) (s : UnitState) (place n d : ℕ) (xs : List (Piece UnitState)) → around.lasting.base ≡ base
    → Chain (unit_grammar base) (between s place n d) xs
    → said_at zs (between s place n d) (following section around xs)
    ≡ levels_text n d (following section around xs).levels ++ units_text zs (s.unit + 1) (following section around xs).units
unfolding between
between-said base section around zs s place n d xs e c = by_end (place == s.header.end) c
  where
    by_depth : (t : Bool) → Chain (unit_grammar base) (if t then before_unit s.section s.kind s.whole place (s.unit + 1) else in_unit s place n d stuck) xs
        → said_at zs (if t then before_unit s.section s.kind s.whole place (s.unit + 1) else in_unit s place n d stuck) (following section around xs)
        ≡ levels_text n d (following section around xs).levels ++ units_text zs (s.unit + 1) (following section around xs).units
    by_depth true c =
        let fresh = chain-fresh base section around (before_unit s.section s.kind s.whole place (s.unit + 1)) xs e c in
        bare zs 0 0 (s.unit + 1) (following section around xs) fresh.0
        ∙ ap (λ (fs : List Forest). levels_text 0 0 fs ++ units_text zs (s.unit + 1) (following section around xs).units) fresh.1
        ∙ sym (ap (λ (fs : List Forest). levels_text n d fs ++ units_text zs (s.unit + 1) (following section around xs).units) fresh.1)
    by_depth false c = absurd (stuck-none base (in_unit s place n d stuck) xs refl c)

    by_end : (t : Bool)
        → Chain (unit_grammar base) (if t then (if d == 0 then before_unit s.section s.kind s.whole place (s.unit + 1) else in_unit s place n d stuck) else in_unit s place n d at_code) xs
        → said_at zs (if t then (if d == 0 then before_unit s.section s.kind s.whole place (s.unit + 1) else in_unit s place n d stuck) else in_unit s place n d at_code) (following section around xs)
        ≡ levels_text n d (following section around xs).levels ++ units_text zs (s.unit + 1) (following section around xs).units
    by_end true c = by_depth (d == 0) c
    by_end false c = bare zs n d (s.unit + 1) (following section around xs) (chain-fresh base section around (in_unit s place n d at_code) xs e c)

-- in an entry
inside-said : (base : UnitBase) (section : ℕ) (around : Around) (zs : List UnitSection) (s : UnitState) (place n d number tag : ℕ) (specs : List Spec) (xs : List (Piece UnitState))
    → around.lasting.base ≡ base → Chain (unit_grammar base) (inside s place n d number tag specs) xs
    → said_at zs (inside s place n d number tag specs) (following section around xs) ≡ following_said zs n d (s.unit + 1) (following section around xs)
unfolding between
inside-said base section around zs s place n d number tag [] xs e c =
    let fresh : (following section around xs).attributes ≡ [] = no-attributes xs c in
    between-said base section around zs s place n d xs e c ∙ sym (bare zs n d (s.unit + 1) (following section around xs) fresh)
  where
    by_end : (t u : Bool) (xs : List (Piece UnitState))
        → Chain (unit_grammar base) (if t then (if u then before_unit s.section s.kind s.whole place (s.unit + 1) else in_unit s place n d stuck) else in_unit s place n d at_code) xs
        → (following section around xs).attributes ≡ []
    by_end true true xs c = (chain-fresh base section around (before_unit s.section s.kind s.whole place (s.unit + 1)) xs e c).0
    by_end true false xs c = absurd (stuck-none base (in_unit s place n d stuck) xs refl c)
    by_end false u xs c = chain-fresh base section around (in_unit s place n d at_code) xs e c

    no-attributes : (xs : List (Piece UnitState)) → Chain (unit_grammar base) (between s place n d) xs → (following section around xs).attributes ≡ []
    no-attributes xs c = by_end (place == s.header.end) (d == 0) xs c
inside-said base section around zs s place n d number tag (y ∷ ys) xs e c = refl

-- behind a header: the unit's entries
header-said : (base : UnitBase) (section : ℕ) (around : Around) (zs : List UnitSection) (s : UnitState) (place : ℕ) (o : Option UnitHeader) (h : UnitHeader) (xs : List (Piece UnitState))
    → around.lasting.base ≡ base → o ≡ Some h → Chain (unit_grammar base) (after_header base s place o) xs
    → mark_said zs section s (head_mark around.lasting o) ++ said_at zs (after_header base s place o) (following section around xs)
    ≡ following_said zs s.entry s.depth s.unit (with_mark section (head_mark around.lasting o) (following section around xs))
header-said base section around zs s place None h xs e is c = absurd cc
header-said base section around zs s place (Some x) h xs e is c =
    ap (λ (t : List ℕ). head_line s.unit (section_name zs section) (head_meaning around.lasting x) ++ t)
    (between-said base section around zs (headed base s x) place 0 0 xs e c
    ∙ ap (λ (t : List ℕ). t ++ units_text zs (s.unit + 1) (following section around xs).units) (sym (top-text 0 (following section around xs).levels)))
    ∙ sym (append_assoc (head_line s.unit (section_name zs section) (head_meaning around.lasting x)) (forest_text 0 0 (all_entries (following section around xs).levels))
    (units_text zs (s.unit + 1) (following section around xs).units))

-- behind a code
entry-said : (base : UnitBase) (section : ℕ) (around : Around) (zs : List UnitSection) (s : UnitState) (place : ℕ) (a : Abbreviation) (xs : List (Piece UnitState))
    → around.lasting.base ≡ base → Chain (unit_grammar base) (inside s place (s.entry + 1) (depth_behind a s.depth) s.entry a.tag a.specs) xs
    → mark_said zs section s (opens a.tag a.children) ++ said_at zs (inside s place (s.entry + 1) (depth_behind a s.depth) s.entry a.tag a.specs) (following section around xs)
    ≡ following_said zs s.entry s.depth (s.unit + 1) (with_mark section (opens a.tag a.children) (following section around xs))
entry-said base section around zs s place a xs e c =
    ap (λ (t : List ℕ). entry_line s.entry s.depth a.tag ++ t)
    (inside-said base section around zs s place (s.entry + 1) (depth_behind a s.depth) s.entry a.tag a.specs xs e c)
    ∙ by_children a.children
  where
    parts : (a b c d : List ℕ) → a ++ (b ++ (c ++ d)) ≡ (a ++ (b ++ c)) ++ d
    parts a b c d = ap (λ (t : List ℕ). a ++ t) (sym (append_assoc b c d)) ∙ sym (append_assoc a (b ++ c) d)

    by_children : (b : Bool)
        → entry_line s.entry s.depth a.tag ++ following_said zs (s.entry + 1) (if b then s.depth + 1 else s.depth) (s.unit + 1) (following section around xs)
        ≡ following_said zs s.entry s.depth (s.unit + 1) (with_mark section (opens a.tag b) (following section around xs))
    by_children true =
        parts (entry_line s.entry s.depth a.tag) (attributes_text (following section around xs).attributes)
        (levels_text (s.entry + 1) (s.depth + 1) (following section around xs).levels) (units_text zs (s.unit + 1) (following section around xs).units)
        ∙ ap (λ (t : List ℕ). t ++ units_text zs (s.unit + 1) (following section around xs).units)
        (sym (parent-text s.entry s.depth a.tag (following section around xs).attributes (following section around xs).levels))
    by_children false =
        parts (entry_line s.entry s.depth a.tag) (attributes_text (following section around xs).attributes)
        (levels_text (s.entry + 1) s.depth (following section around xs).levels) (units_text zs (s.unit + 1) (following section around xs).units)
        ∙ ap (λ (t : List ℕ). t ++ units_text zs (s.unit + 1) (following section around xs).units)
        (sym (lone-text s.entry s.depth a.tag (following section around xs).attributes (following section around xs).levels))

code-said : (base : UnitBase) (section : ℕ) (around : Around) (zs : List UnitSection) (s : UnitState) (place v : ℕ) (xs : List (Piece UnitState)) → around.lasting.base ≡ base
    → Chain (unit_grammar base) (after_code s place v) xs
    → mark_said zs section s (code_mark s.table v) ++ said_at zs (after_code s place v) (following section around xs)
    ≡ following_said zs s.entry s.depth (s.unit + 1) (with_mark section (code_mark s.table v) (following section around xs))
unfolding after_code
code-said base section around zs s place v xs e c = by_null (v == 0) c
  where
    by_entry : (o : Option Abbreviation) → Chain (unit_grammar base) (after_entry s place o) xs
        → mark_said zs section s (entry_mark o) ++ said_at zs (after_entry s place o) (following section around xs)
        ≡ following_said zs s.entry s.depth (s.unit + 1) (with_mark section (entry_mark o) (following section around xs))
    by_entry None c = absurd (stuck-none base (in_unit s place s.entry s.depth stuck) xs refl c)
    by_entry (Some a) c = entry-said base section around zs s place a xs e c

    by_null : (b : Bool) → Chain (unit_grammar base) (if b then between s place s.entry (s.depth - 1) else after_entry s place (abbreviation_of s.table v)) xs
        → mark_said zs section s (if b then null else entry_mark (abbreviation_of s.table v))
        ++ said_at zs (if b then between s place s.entry (s.depth - 1) else after_entry s place (abbreviation_of s.table v)) (following section around xs)
        ≡ following_said zs s.entry s.depth (s.unit + 1) (with_mark section (if b then null else entry_mark (abbreviation_of s.table v)) (following section around xs))
    by_null true c =
        let same : s.entry ≡ s.entry + 0 = omega arith in
        between-said base section around zs s place s.entry (s.depth - 1) xs e c
        ∙ ap (λ (k : ℕ). levels_text k (s.depth - 1) (following section around xs).levels ++ units_text zs (s.unit + 1) (following section around xs).units) same
    by_null false c = by_entry (abbreviation_of s.table v) c

-- a value
value-said : (base : UnitBase) (section : ℕ) (around : Around) (zs : List UnitSection) (s : UnitState) (place number tag : ℕ) (k : ValueKind) (x : Spec) (specs : List Spec) (p : List Cell)
    (xs : List (Piece UnitState)) → around.lasting.base ≡ base → k ≢ form_in_front → Chain (unit_grammar base) (inside s place s.entry s.depth number tag specs) xs
    → mark_said zs section s (value_mark k around s number tag x p) ++ said_at zs (inside s place s.entry s.depth number tag specs) (following section around xs)
    ≡ following_said zs s.entry s.depth (s.unit + 1) (with_mark section (value_mark k around s number tag x p) (following section around xs))
value-said base section around zs s place number tag k x specs p xs e other c =
    let mark : value_mark k around s number tag x p ≡ attribute (record { name = x.name; value = meaning_of_value around s (use_of number tag x.name) x k p }) =
    own-mark k other in
    ap (λ (t : List ℕ). mark_said zs section s (value_mark k around s number tag x p) ++ t)
    (inside-said base section around zs s place s.entry s.depth number tag specs xs e c)
    ∙ ap (λ (m : Mark). mark_said zs section s m ++ following_said zs s.entry s.depth (s.unit + 1) (following section around xs)) mark
    ∙ sym (append_assoc (attribute_line x.name (value_said (meaning_of_value around s (use_of number tag x.name) x k p))) (attributes_text (following section around xs).attributes)
    (levels_text s.entry s.depth (following section around xs).levels ++ units_text zs (s.unit + 1) (following section around xs).units))
    ∙ sym (ap (λ (m : Mark). following_said zs s.entry s.depth (s.unit + 1) (with_mark section m (following section around xs))) mark)
  where
    own-mark : (k : ValueKind) → k ≢ form_in_front
        → value_mark k around s number tag x p ≡ attribute (record { name = x.name; value = meaning_of_value around s (use_of number tag x.name) x k p })
    own-mark form_in_front other = absurd (other refl)
    own-mark k other = refl

-- a piece in front
mark-said : (m : Mode) (base : UnitBase) (section : ℕ) (around : Around) (zs : List UnitSection) (s : UnitState) (p : List Cell) (xs : List (Piece UnitState)) → around.lasting.base ≡ base
    → s.mode ≡ m → FitsMode m base s p → Chain (unit_grammar base) (past m base s p) xs
    → mark_said zs section s (mark_by m around s p) ++ said_at zs (past m base s p) (following section around xs)
    ≡ following_said zs s.entry s.depth (next_unit m s.unit) (with_mark section (mark_by m around s p) (following section around xs))
mark-said at_header base section around zs s p xs e is fits c =
    let same : piece_header around.lasting.base s p ≡ piece_header base s p = ap (λ (b : UnitBase). piece_header b s p) e in
    ap (λ (o : Option UnitHeader). mark_said zs section s (head_mark around.lasting o) ++ said_at zs (past at_header base s p) (following section around xs)) same
    ∙ header-said base section around zs s (s.place + length p) (piece_header base s p) fits.header xs e fits.is c
    ∙ sym (ap (λ (o : Option UnitHeader). following_said zs s.entry s.depth s.unit (with_mark section (head_mark around.lasting o) (following section around xs))) same)
mark-said at_code base section around zs s p xs e is fits c = code-said base section around zs s (s.place + length p) (code_value p) xs e c
mark-said (at_values n tag []) base section around zs s p xs e is fits c = absurd fits
mark-said (at_values n tag (x ∷ specs)) base section around zs s p xs e is fits c = by_front (is_front (kind_in s.header.params x.form))
  where
    by_front : (kind_in s.header.params x.form ≡ form_in_front) ⊎ (kind_in s.header.params x.form ≡ form_in_front → ⊥)
        → mark_said zs section s (value_mark (kind_in s.header.params x.form) around s n tag x p)
        ++ said_at zs (after_value (kind_in s.header.params x.form) s (s.place + length p) (code_value p) n tag x specs) (following section around xs)
        ≡ following_said zs s.entry s.depth (s.unit + 1) (with_mark section (value_mark (kind_in s.header.params x.form) around s n tag x p) (following section around xs))
    by_front (inl front) = rw front refl
    by_front (inr other) =
        let next : after_value (kind_in s.header.params x.form) s (s.place + length p) (code_value p) n tag x specs ≡ inside s (s.place + length p) s.entry s.depth n tag specs =
        after-own (kind_in s.header.params x.form) s (s.place + length p) (code_value p) n tag x specs other in
        ap (λ (t : UnitState). mark_said zs section s (value_mark (kind_in s.header.params x.form) around s n tag x p) ++ said_at zs t (following section around xs)) next
        ∙ value-said base section around zs s (s.place + length p) n tag (kind_in s.header.params x.form) x specs p xs e other
        (subst (λ (t : UnitState). Chain (unit_grammar base) t xs) next c)
mark-said (at_chosen n tag start x specs) base section around zs s p xs e is fits c = by_front (is_front (kind_in s.header.params x.form))
  where
    by_front : (kind_in s.header.params x.form ≡ form_in_front) ⊎ (kind_in s.header.params x.form ≡ form_in_front → ⊥)
        → mark_said zs section s (value_mark (kind_in s.header.params x.form) around s n tag x p)
        ++ said_at zs (inside s (s.place + length p) s.entry s.depth n tag specs) (following section around xs)
        ≡ following_said zs s.entry s.depth (s.unit + 1) (with_mark section (value_mark (kind_in s.header.params x.form) around s n tag x p) (following section around xs))
    by_front (inl front) =
        ap (λ (k : ValueKind). mark_said zs section s (value_mark k around s n tag x p) ++ said_at zs (inside s (s.place + length p) s.entry s.depth n tag specs) (following section around xs)) front
        ∙ inside-said base section around zs s (s.place + length p) s.entry s.depth n tag specs xs e c
        ∙ sym (ap (λ (k : ValueKind). following_said zs s.entry s.depth (s.unit + 1) (with_mark section (value_mark k around s n tag x p) (following section around xs))) front)
    by_front (inr other) = value-said base section around zs s (s.place + length p) n tag (kind_in s.header.params x.form) x specs p xs e other c
mark-said stuck base section around zs s p xs e is fits c = absurd fits

-- pieces
chain-said : (base : UnitBase) (section : ℕ) (around : Around) (zs : List UnitSection) (s : UnitState) (xs : List (Piece UnitState)) → around.lasting.base ≡ base
    → Chain (unit_grammar base) s xs → pieces_said zs section around xs ≡ said_at zs s (following section around xs)
chain-said base section around zs s [] e c = refl
chain-said base section around zs s (x ∷ xs) e c =
    ap (λ (t : List ℕ). mark_said zs section x.state (mark_of around x) ++ t) (chain-said base section around zs (past x.state.mode base x.state x.cells) xs e c.2)
    ∙ mark-said x.state.mode base section around zs x.state x.cells xs e refl c.1 c.2
    ∙ ap (λ (t : UnitState). said_at zs t (with_mark section (mark_of around x) (following section around xs))) c.0

section-said : (base : UnitBase) (section first : ℕ) (around : Around) (zs : List UnitSection) (z : UnitSection) (xs : List (Piece UnitState)) → around.lasting.base ≡ base
    → ReadsUnits base z first xs → pieces_said zs section around xs ≡ units_text zs first (unit_meanings section around xs)
section-said base section first around zs z xs e reads =
    let fresh = chain-fresh base section around (before_unit z.number z.kind (length z.contents) 0 first) xs e reads.chain in
    chain-said base section around zs (before_unit z.number z.kind (length z.contents) 0 first) xs e reads.chain
    ∙ bare zs 0 0 first (following section around xs) fresh.0
    ∙ ap (λ (fs : List Forest). levels_text 0 0 fs ++ units_text zs first (following section around xs).units) fresh.1

-- how many units pieces mean
units-append : (zs : List UnitSection) (n : ℕ) (us vs : List UnitMeaning) → units_text zs n (us ++ vs) ≡ units_text zs n us ++ units_text zs (n + length us) vs
units-append zs n [] vs =
    let same : n ≡ n + 0 = omega arith in
    ap (λ (k : ℕ). units_text zs k vs) same
units-append zs n (u ∷ us) vs =
    let count : n + 1 + length us ≡ n + suc (length us) = omega arith in
    ap (λ (t : List ℕ). unit_text zs n u ++ t) (units-append zs (n + 1) us vs ∙ ap (λ (k : ℕ). units_text zs (n + 1) us ++ units_text zs k vs) count)
    ∙ sym (append_assoc (unit_text zs n u) (units_text zs (n + 1) us) (units_text zs (n + suc (length us)) vs))

mark-count : (m : Mode) (base : UnitBase) (section : ℕ) (around : Around) (s : UnitState) (p : List Cell) (r : Following) → around.lasting.base ≡ base → FitsMode m base s p
    → length (with_mark section (mark_by m around s p) r).units ≡ begins_by m + length r.units
mark-count at_header base section around s p r e fits =
    begun (piece_header around.lasting.base s p) (ap (λ (b : UnitBase). piece_header b s p) e ∙ fits.is)
  where
    begun : (o : Option UnitHeader) → o ≡ Some fits.header → length (with_mark section (head_mark around.lasting o) r).units ≡ 1 + length r.units
    begun None e = absurd cc
    begun (Some h) e = omega arith
mark-count at_code base section around s p r e fits = by_null (code_value p == 0)
  where
    by_entry : (o : Option Abbreviation) → length (with_mark section (entry_mark o) r).units ≡ 0 + length r.units
    by_entry None = omega arith
    by_entry (Some a) = omega arith

    by_null : (b : Bool) → length (with_mark section (if b then null else entry_mark (abbreviation_of s.table (code_value p))) r).units ≡ 0 + length r.units
    by_null true = omega arith
    by_null false = by_entry (abbreviation_of s.table (code_value p))
mark-count (at_values n tag []) base section around s p r e fits = absurd fits
mark-count (at_values n tag (x ∷ xs)) base section around s p r e fits = of_kind (kind_in s.header.params x.form)
  where
    of_kind : (k : ValueKind) → length (with_mark section (value_mark k around s n tag x p) r).units ≡ 0 + length r.units
    of_kind form_in_front = omega arith
    of_kind k = omega arith
mark-count (at_chosen n tag start x xs) base section around s p r e fits = of_kind (kind_in s.header.params x.form)
  where
    of_kind : (k : ValueKind) → length (with_mark section (value_mark k around s n tag x p) r).units ≡ 0 + length r.units
    of_kind form_in_front = omega arith
    of_kind k = omega arith
mark-count stuck base section around s p r e fits = absurd fits

chain-count : (base : UnitBase) (section : ℕ) (around : Around) (s : UnitState) (xs : List (Piece UnitState)) → around.lasting.base ≡ base → Chain (unit_grammar base) s xs
    → length (unit_meanings section around xs) ≡ units_in xs
chain-count base section around s [] e c = refl
chain-count base section around s (x ∷ xs) e c =
    mark-count x.state.mode base section around x.state x.cells (following section around xs) e c.1
    ∙ ap (λ (n : ℕ). begins_by x.state.mode + n) (chain-count base section around (past x.state.mode base x.state x.cells) xs e c.2)

-- the text of all units is what the pieces of all sections say
pub all-said : (base : UnitBase) (around : Around) (zs ws : List UnitSection) (first : ℕ) (rs : Readings) → around.lasting.base ≡ base → ReadsAll base first ws rs
    → units_text zs first (units_read around rs) ≡ all_said zs around rs
all-said base around zs [] first [] e reads = refl
all-said base around zs [] first (r ∷ rs) e reads = absurd reads
all-said base around zs (w ∷ ws) first [] e reads = absurd reads
all-said base around zs (w ∷ ws) first (r ∷ rs) e reads =
    units-append zs first (unit_meanings r.number around r.pieces) (units_read around rs)
    ∙ ap (λ (n : ℕ). units_text zs first (unit_meanings r.number around r.pieces) ++ units_text zs (first + n) (units_read around rs))
    (chain-count base r.number around (before_unit w.number w.kind (length w.contents) 0 first) r.pieces e reads.1.chain)
    ∙ ap (λ (t : List ℕ). t ++ units_text zs (first + units_in r.pieces) (units_read around rs)) (sym (section-said base r.number first around zs w r.pieces e reads.1))
    ∙ ap (λ (t : List ℕ). pieces_said zs r.number around r.pieces ++ t) (all-said base around zs ws (first + units_in r.pieces) rs e reads.2)
