-- Where the addends of relocations make all new offsets, the row of one that doesn't holds of none.
use Rattle.std.proofs.Common.{Bool, false, ◌≡◌, ℕ, ℤ, List, [], ◌∷◌, ◌++◌, ◌==◌, length, Option, Some, subst}
use Rattle.dw_base.specs.Cells.{Cell, Relocation, first_relocation}
use Rattle.dw_base.specs.DebugData.{Around, DataReadings, DebugData, line_source, path_slots}
use Rattle.dw_base.specs.Forms.{width_size}
use Rattle.dw_base.specs.LineReadings.{LineReading, table_read}
use Rattle.dw_base.specs.LineSources.{LineSource}
use Rattle.dw_base.specs.MacroPieces.{MacroState}
use Rattle.dw_base.specs.MacroReadings.{EachMacro, MacroReading}
use Rattle.dw_base.specs.Pieces.{EachPiece, Piece}
use Rattle.dw_base.specs.Readings.{EachReading, Reading}
use Rattle.dw_base.specs.RelocationFields.{relocation_at}
use Rattle.dw_base.specs.Roles.{Role, role_of}
use Rattle.dw_base.specs.SectionTexts.{macro_role, name_role, slot_role}
use Rattle.dw_base.specs.TextChanges.{TableChanges}
use Rattle.dw_base.specs.UnitStates.{UnitState}
use Rattle.dw_base.specs.declared.fault.Refusal.{Refusal}
use Rattle.dw_base.specs.declared.line_tables.LineText.{LineText}
use Rattle.dw_base.specs.declared.shared.Width.{Width}
use Rattle.dw_meaning.specs.NewAddends.{AddendMakes, AddendsFail, AddendsFit, EachTextMakes, EachTextsMake, Makes, MakesNew, MakesPath, MakesRole, Misses, PieceMisses, TextMisses, in_lines, in_macros, in_names, in_slots, in_unit, new_offset, place_of, places_by}

makes-misses : (o : Option Relocation) (size n : ℕ) → Makes o size n → Misses o size n → ⊥
makes-misses o size n makes m =
    let here : Makes (Some m.relocation) size n = subst (λ (x : Option Relocation). Makes x size n) m.begins makes in
    m.other (subst (λ (a : Option ℤ). AddendMakes a m.relocation size n) m.own here)

new-misses : (o : Option ℕ) (p : List Cell) (n : ℕ) → MakesNew o p → o ≡ Some n → Misses (first_relocation p) (length p) n → ⊥
new-misses o p n makes put m = makes-misses (first_relocation p) (length p) n (subst (λ (x : Option ℕ). MakesNew x p) put makes) m

-- one of a list of pieces, of readings, and of tables
piece-among : {S : Type 0} (P : Piece S → Type 0) (before behind : List (Piece S)) (x : Piece S) → EachPiece P (before ++ x ∷ behind) → P x
piece-among P [] behind x h = h.0
piece-among P (y ∷ ys) behind x h = piece-among P ys behind x h.1

reading-among : (P : Piece UnitState → Type 0) (before behind : List Reading) (q : Reading) → EachReading P (before ++ q ∷ behind) → EachPiece P q.pieces
reading-among P [] behind q h = h.0
reading-among P (y ∷ ys) behind q h = reading-among P ys behind q h.1

macro-among : (P : Piece MacroState → Type 0) (before behind : List MacroReading) (q : MacroReading) → EachMacro P (before ++ q ∷ behind) → EachPiece P q.pieces
macro-among P [] behind q h = h.0
macro-among P (y ∷ ys) behind q h = macro-among P ys behind q h.1

table-among : (g : LineSource) (places : LineText → Option ℕ) (before behind : List LineReading) (t : LineReading) → EachTextsMake g places (before ++ t ∷ behind)
    → EachTextMakes g places (table_read g t).width (table_read g t).texts
table-among g places [] behind t h = h.0
table-among g places (y ∷ ys) behind t h = table-among g places ys behind t h.1

text-among : (g : LineSource) (places : LineText → Option ℕ) (w : Width) (before behind : List LineText) (x : LineText) → EachTextMakes g places w (before ++ x ∷ behind)
    → MakesPath g w x.place (place_of places x) (x.place.section == g.number)
text-among g places w [] behind x h = h.0
text-among g places w (y ∷ ys) behind x h = text-among g places w ys behind x h.1

piece-misses : {S : Type 0} (role : Piece S → Role) (c : TableChanges) (around : Around) (xs : List (Piece S)) (x : Piece S)
    → EachPiece (λ y. MakesRole (role y) c around y.cells) xs → PieceMisses role c around xs x → ⊥
piece-misses {S} role c around xs x each m =
    new-misses (new_offset (role x) c around x.cells) x.cells m.place
    (piece-among (λ y. MakesRole (role y) c around y.cells) m.before m.behind x
    (subst (λ (ys : List (Piece S)). EachPiece (λ y. MakesRole (role y) c around y.cells) ys) m.among each))
    m.put m.misses

text-misses : (g : LineSource) (places : LineText → Option ℕ) (t : LineReading) (x : LineText) → EachTextMakes g places (table_read g t).width (table_read g t).texts
    → TextMisses g places t x → ⊥
text-misses g places t x each m =
    let here : MakesPath g (table_read g t).width x.place (place_of places x) (x.place.section == g.number) =
    text-among g places (table_read g t).width m.before m.behind x
    (subst (λ (ys : List LineText). EachTextMakes g places (table_read g t).width ys) m.among each) in
    makes-misses (relocation_at g.cells x.place.field) (width_size (table_read g t).width) m.place
    (subst (λ (o : Option ℕ). MakesPath g (table_read g t).width x.place o false) m.put
    (subst (λ (b : Bool). MakesPath g (table_read g t).width x.place (place_of places x) b) m.named here))
    m.misses

pub addends-exclude : (c : TableChanges) (d : DebugData) (around : Around) (q : DataReadings) (r : Refusal) → AddendsFit c d around q → AddendsFail c d around q r → ⊥
addends-exclude c d around q r h (in_unit before behind u x split m) =
    piece-misses role_of c around u.pieces x
    (reading-among (λ y. MakesRole (role_of y) c around y.cells) before behind u
    (subst (λ (us : List Reading). EachReading (λ y. MakesRole (role_of y) c around y.cells) us) split h.units)) m
addends-exclude c d around q r h (in_slots x m) = piece-misses (λ y. slot_role (path_slots around) y.state) c around q.offsets x h.slots m
addends-exclude c d around q r h (in_macros before behind u x split m) =
    piece-misses (λ y. macro_role y.state) c around u.pieces x
    (macro-among (λ y. MakesRole (macro_role y.state) c around y.cells) before behind u
    (subst (λ (us : List MacroReading). EachMacro (λ y. MakesRole (macro_role y.state) c around y.cells) us) split h.macros)) m
addends-exclude c d around q r h (in_names x m) = piece-misses (λ y. name_role y.state) c around q.names x h.names m
addends-exclude c d around q r h (in_lines before behind t x split m) =
    text-misses (line_source d) (places_by c d) t x
    (table-among (line_source d) (places_by c d) before behind t
    (subst (λ (ts : List LineReading). EachTextsMake (line_source d) (places_by c d) ts) split h.lines)) m
