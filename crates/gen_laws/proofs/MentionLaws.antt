-- The texts that a generated file names, and how long a new table of them is at most.
use Rattle.std.proofs.Common.{◌≡◌, ℕ, zero, suc, ◌+◌, ◌*◌, ◌<◌, ◌≤◌, Bool, true, false, if◌then◌else◌, List, [], ◌∷◌, ◌++◌, length, slice_index, refl, sym, ap, ◌∙◌, arith}
use Rattle.std.proofs.lemmas.Bool.{eq-eqb}
use Rattle.std.proofs.lemmas.List.{append_assoc, length-append}
use Rattle.dw_base.specs.DebugData.{Around}
use Rattle.dw_base.specs.Forms.{form_rows, kind_in}
use Rattle.dw_base.specs.LineReadings.{LineReading, table_read}
use Rattle.dw_base.specs.LineSources.{LineSource}
use Rattle.dw_base.specs.Paths.{IsPathMap, PathMap, mapped_path}
use Rattle.dw_base.specs.Pieces.{EachPiece, Piece}
use Rattle.dw_base.specs.Roles.{role_of}
use Rattle.dw_base.specs.StringTables.{Mention, new_text, new_texts, texts_after, with_mention}
use Rattle.dw_base.specs.TableTexts.{as_path}
use Rattle.dw_base.specs.TextChanges.{mentions_by, mentions_of}
use Rattle.dw_base.specs.TextLineChanges.{all_texts_mentions, mention_of, texts_mentions}
use Rattle.dw_base.specs.Texts.{is_in, laid_texts}
use Rattle.dw_base.specs.UnitStates.{UnitState}
use Rattle.dw_base.specs.declared.line_tables.TextPlace.{TextPlace}
use Rattle.dw_base.proofs.PathLaws.{length-mapped_path}
use Rattle.dbg_gen.specs.Asked.{AreFew}
use Rattle.dbg_gen.specs.GeneratedLines.{lines_of}
use Rattle.dbg_gen.specs.GeneratedTexts.{chained, directory, unit_name, variable_name}
use Rattle.dbg_gen.proofs.OnceLaws.{unit_name-bare, variable_name-bare}
use Rattle.dbg_gen.proofs.SizeLaws.{length-unit_name, length-variable_name, once-cases}
use Rattle.dw_base.specs.declared.texts.TextSection.{TextSection}
use Rattle.dw_base.specs.declared.texts.TextSection.TheVariants.{InLineStr, InStr}
use Rattle.gen_laws.proofs.LineListReadLaws.{file_name, place_of}
use Rattle.gen_laws.proofs.LineSectionReadLaws.{lists_place, reading_at, readings_of}
use Rattle.gen_laws.proofs.UnitChainLaws.{end_piece, front_pieces, size_of, variable_pieces}
use Rattle.gen_laws.proofs.UnitEachLaws.{each-piece}
use Rattle.gen_laws.proofs.UnitReadLaws.{all_pieces, pieces_of, unit_start}
use Rattle.gen_laws.proofs.UnitTextLaws.{StandsAround, mention-text}

-- how much room mentions take in a new table at most: each its text, mapped, and a NUL
abbrev pub mentions_room : List Mention → ℕ
mentions_room [] = 0
mentions_room (x ∷ xs) = 4097 + length x.text + mentions_room xs

room-append : (xs ys : List Mention) → mentions_room (xs ++ ys) ≡ mentions_room xs + mentions_room ys
room-append [] ys = omega arith
room-append (x ∷ xs) ys = omega (arith, room-append xs ys)

new-text-cases : (m : PathMap) (t : List ℕ) (path : Bool) → IsPathMap m → length (if path then mapped_path m t else t) ≤ 4096 + length t
new-text-cases m t true fit = omega (arith, length-mapped_path m t fit)
new-text-cases m t false fit = omega arith

length-mentioned : (m : PathMap) (ts : List (List ℕ)) (x : Mention) → IsPathMap m
    → length (laid_texts (with_mention m ts x)) ≤ length (laid_texts ts) + (4097 + length x.text)
length-mentioned m ts x fit =
    let text = new-text-cases m x.text x.path fit in
    let one = once-cases ts (new_text m x) (is_in ts (new_text m x)) in
    omega (arith, text, one)

length-texts : (m : PathMap) (ts : List (List ℕ)) (xs : List Mention) → IsPathMap m
    → length (laid_texts (texts_after m ts xs)) ≤ length (laid_texts ts) + mentions_room xs
length-texts m ts [] fit = omega arith
length-texts m ts (x ∷ xs) fit =
    let rest = length-texts m (with_mention m ts x) xs fit in
    let one = length-mentioned m ts x fit in
    omega (arith, rest, one)

-- a new table
pub length-new_texts : (m : PathMap) (xs : List Mention) → IsPathMap m → length (laid_texts (new_texts m xs)) ≤ mentions_room xs
length-new_texts m xs fit = omega (arith, length-texts m [] xs fit)

-- each piece of a unit takes so much at most
abbrev TakesLittle : Around → Piece UnitState → Type 0
TakesLittle around x = mentions_room (mentions_by (role_of x) InStr around x.cells) ≤ 4120

small-text : (t u : List ℕ) → t ≡ u → length u ≤ 23 → 4097 + length t + 0 ≤ 4120
small-text t u e small = omega (arith, ap length e)

pieces-little : (around : Around) (texts : List (List ℕ)) (counts : List ℕ) (units whole : ℕ) → StandsAround around texts counts units → units ≤ 10000 → AreFew counts
    → EachPiece (TakesLittle around) (all_pieces whole texts counts units)
unfolding role_of kind_in form_rows
pieces-little around texts counts units whole w small few =
    each-piece (TakesLittle around) whole texts counts units units
    (record {
      header = λ unit start n. omega arith;
      code = λ unit start n place entry depth code. omega arith;
      name = λ unit start n place lt.
          small-text _ (unit_name unit) (mention-text around texts counts units (unit_name unit) w (w.has.each unit lt).name (unit_name-bare unit (omega arith)))
          (let size = length-unit_name unit (omega arith) in omega arith);
      directory_value = λ unit start n place lt.
          small-text _ directory (mention-text around texts counts units directory w (w.has.each unit lt).directory_there refl) (omega arith);
      lines = λ unit start n place lt. omega arith;
      variable = λ unit start n place i lt below.
          let few_there = few.each unit in
          small-text _ (variable_name i) (mention-text around texts counts units (variable_name i) w ((w.has.each unit lt).variables i below) (variable_name-bare i (omega arith)))
          (let size = length-variable_name i (omega arith) in omega arith);
    }) (omega arith)

room-each : (around : Around) (xs : List (Piece UnitState)) → EachPiece (TakesLittle around) xs → mentions_room (mentions_of InStr around xs) ≤ 4120 * length xs
room-each around [] all = omega arith
room-each around (x ∷ xs) all =
    let rest = room-each around xs all.1 in
    let one = all.0 in
    omega (arith, one, rest, room-append (mentions_by (role_of x) InStr around x.cells) (mentions_of InStr around xs))

-- how many pieces there are
length-pieces : {S : Type 0} (f : ℕ → List (Piece S)) (k n : ℕ) → ((u : ℕ) → u < n → length (f u) ≤ k) → length (chained f n) ≤ n * k
length-pieces f k zero each = omega arith
length-pieces f k (suc n) each =
    let front = length-pieces f k n (λ u lt. each u (omega arith)) in
    let last = each n (omega arith) in
    let both = length-append (chained f n) (f n) in
    grind arith

length-unit : (whole : ℕ) (texts : List (List ℕ)) (counts : List ℕ) (unit : ℕ) → AreFew counts → length (pieces_of whole texts counts unit) ≤ 38
length-unit whole texts counts unit few =
    let start = unit_start texts counts unit in
    let count = slice_index counts unit in
    let n = size_of (slice_index counts unit) in
    let lines = length (lines_of counts unit) in
    let variables = length-pieces (variable_pieces whole unit start n texts) 2 count (λ u lt. omega arith) in
    let little = few.each unit in
    let behind = length-append (chained (variable_pieces whole unit start n texts) count) (end_piece whole unit start n count ∷ []) in
    omega (arith, variables, little, behind, length-append (front_pieces whole unit start n texts lines) (chained (variable_pieces whole unit start n texts) count ++ end_piece whole unit start n count ∷ []))

pub length-all_pieces : (whole : ℕ) (texts : List (List ℕ)) (counts : List ℕ) (units : ℕ) → AreFew counts → length (all_pieces whole texts counts units) ≤ units * 38
length-all_pieces whole texts counts units few = length-pieces (pieces_of whole texts counts) 38 units (λ u lt. length-unit whole texts counts u few)

pub units-room : (around : Around) (texts : List (List ℕ)) (counts : List ℕ) (units whole : ℕ) → StandsAround around texts counts units → units ≤ 10000 → AreFew counts
    → mentions_room (mentions_of InStr around (all_pieces whole texts counts units)) ≤ 4120 * (units * 38)
units-room around texts counts units whole w small few =
    let pieces = length-all_pieces whole texts counts units few in
    let room = room-each around (all_pieces whole texts counts units) (pieces-little around texts counts units whole w small few) in
    omega (arith, pieces, room)

-- the units name no text of the other table
abbrev NoMention : Around → Piece UnitState → Type 0
NoMention around x = mentions_by (role_of x) InLineStr around x.cells ≡ []

pieces-other : (around : Around) (whole : ℕ) (texts : List (List ℕ)) (counts : List ℕ) (units : ℕ) → EachPiece (NoMention around) (all_pieces whole texts counts units)
unfolding role_of kind_in form_rows
pieces-other around whole texts counts units =
    each-piece (NoMention around) whole texts counts units units
    (record {
      header = λ unit start n. refl;
      code = λ unit start n place entry depth code. refl;
      name = λ unit start n place lt. refl;
      directory_value = λ unit start n place lt. refl;
      lines = λ unit start n place lt. refl;
      variable = λ unit start n place i lt below. refl;
    }) (omega arith)

none-mentioned : (around : Around) (xs : List (Piece UnitState)) → EachPiece (NoMention around) xs → mentions_of InLineStr around xs ≡ []
none-mentioned around [] none = refl
none-mentioned around (x ∷ xs) none = ap (λ (ms : List Mention). ms ++ mentions_of InLineStr around xs) none.0 ∙ none-mentioned around xs none.1

pub units-other : (around : Around) (whole : ℕ) (texts : List (List ℕ)) (counts : List ℕ) (units : ℕ) → mentions_of InLineStr around (all_pieces whole texts counts units) ≡ []
units-other around whole texts counts units = none-mentioned around (all_pieces whole texts counts units) (pieces-other around whole texts counts units)

-- the paths of line tables stand in them, so they name no text of a table
own-path : (g : LineSource) (table : TextSection) (x : TextPlace) → x.section ≡ g.number → mention_of g table (as_path x) ≡ []
own-path g InStr x e = rw (eq-eqb x.section g.number e) refl
own-path g InLineStr x e = rw (eq-eqb x.section g.number e) refl

lines-append : (g : LineSource) (table : TextSection) (rs qs : List LineReading) → all_texts_mentions g table (rs ++ qs) ≡ all_texts_mentions g table rs ++ all_texts_mentions g table qs
lines-append g table [] qs = refl
lines-append g table (r ∷ rs) qs =
    ap (λ (ms : List Mention). texts_mentions g table (table_read g r).texts ++ ms) (lines-append g table rs qs)
    ∙ sym (append_assoc (texts_mentions g table (table_read g r).texts) (all_texts_mentions g table rs) (all_texts_mentions g table qs))

own-table : (g : LineSource) (table : TextSection) (start unit count : ℕ) → texts_mentions g table (table_read g (reading_at g.number start unit count)).texts ≡ []
own-table g table start unit count =
    let dir = own-path g table (place_of g.number (lists_place start) 12) refl in
    let file = own-path g table (place_of g.number (lists_place start + 12 + 1 + 1) (length (file_name unit))) refl in
    rw (dir, file) refl

pub lines-unnamed : (g : LineSource) (table : TextSection) (counts : List ℕ) (units : ℕ) → all_texts_mentions g table (readings_of g.number counts units) ≡ []
lines-unnamed g table counts zero = refl
lines-unnamed g table counts (suc unit) =
    lines-append g table (readings_of g.number counts unit) (reading_at g.number (length (lines_of counts unit)) unit (slice_index counts unit) ∷ [])
    ∙ rw (lines-unnamed g table counts unit, own-table g table (length (lines_of counts unit)) unit (slice_index counts unit)) refl
