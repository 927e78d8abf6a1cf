-- The nodes of an arena are linked as the forest that its unit means.
use Rattle.std.proofs.Common.{Bool, true, false, ◌≡◌, ◌==◌, ℕ, suc, ◌+◌, List, [], ◌∷◌, ◌++◌, length, Option, Some, None, refl, sym, ap, ◌∙◌, subst, arith, if◌then◌else◌, append_assoc, append-nil, length-append}
use Rattle.std.specs.Prelude.{⊤}
use Rattle.std.proofs.lemmas.Bool.{eq-eqb, eqb-true, ne_eqb}
use Rattle.std.proofs.lemmas.List.{length-take}
use Rattle.dw_base.specs.AbbreviationTables.{Abbreviation, abbreviation_of}
use Rattle.dw_base.specs.Cells.{Cell, bytes_of}
use Rattle.dw_base.specs.DebugData.{Around}
use Rattle.dw_base.specs.EntryScans.{IsEntry, scanned, Scans, starts, null, entry, AreEntries}
use Rattle.dw_base.specs.EntryValues.{bytes_up_to}
use Rattle.dw_base.specs.Forests.{Forest, no_entries, entry as entry_of}
use Rattle.dw_base.specs.Pieces.{Piece}
use Rattle.dw_base.specs.UnitHeaders.{UnitBase, UnitSection}
use Rattle.dw_base.specs.UnitMeanings.{UnitMeaning, unit_meanings}
use Rattle.dw_base.specs.UnitPieces.{ReadsUnits, unit_grammar}
use Rattle.dw_base.specs.UnitStates.{UnitState, code_value}
use Rattle.dw_base.specs.UnitTables.{IsUnitTable}
use Rattle.dw_base.specs.Values.{value_at}
use Rattle.dw_base.specs.declared.shared.Params.{Params}
use Rattle.dw_base.specs.declared.units.Scanned.{Scanned}
use Rattle.dw_base.specs.declared.units.UnitHeader.{UnitHeader}
use Rattle.dw_base.specs.declared.values.Spec.{Spec}
use Rattle.dw_base.specs.declared.values.Value.{Value}
use Rattle.dw_base.proofs.AbbreviationLaws.{table-one}
use Rattle.dw_meaning.specs.PieceRuns.{all_of, any_piece, coded_out, entries_out, entry_out, listed_out, value_out, values_out}
use Rattle.dw_meaning.specs.UnitScans.{AreScanned, UnitsScanned, none_scanned, more_scanned}
use Rattle.dw_meaning.proofs.DataOneLaws.{reads-one}
use Rattle.dw_meaning.proofs.EntryRowLaws.{entries-one}
use Rattle.dw_meaning.proofs.RunLaws.{PieceRun, run-more, run-none, run-whole}
use Rattle.dw_meaning.proofs.ScanSectionLaws.{before, in_headed}
use Rattle.dw_meaning.proofs.SpelledLaws.{section-spelled}
use Rattle.dw_meaning.proofs.UnitRunLaws.{UnitSays, entries_out-more}
use Rattle.dw_meaning.proofs.WholeUnitLaws.{unit-run}
use Rattle.entry_arena.specs.LinkedNodes.{tag_in}
use Rattle.entry_arena.specs.Shapes.{IsLinkedAs, depths_in}
use Rattle.entry_arena.specs.UnitArenas.{AreOf, IsArenaOf, depths_of}
use Rattle.entry_arena.specs.UnitForests.{AllForests, IsForest, shape_of, tags_in, tags_of}
use Rattle.entry_arena.specs.declared.arena.EntryNode.{EntryNode}
use Rattle.entry_arena.proofs.MarkRowLaws.{Row, chain-rows, entry_row, piece_rows, rows_in, some-append, some_rows, spelled-rows, unit_rows}
use Rattle.entry_arena.proofs.ShapeLaws.{same-shape}

-- the rows of entries
abbrev row_of : List Abbreviation → Scanned → Row
row_of table e = (e.depth, tag_in (abbreviation_of table e.code))

abbrev rows_of : List Abbreviation → List Scanned → List Row
rows_of table [] = []
rows_of table (e ∷ es) = row_of table e ∷ rows_of table es

rows-more : (table : List Abbreviation) (es : List Scanned) (e : Scanned) → rows_of table (es ++ e ∷ []) ≡ rows_of table es ++ row_of table e ∷ []
rows-more table [] e = refl
rows-more table (x ∷ xs) e = ap (λ (rs : List Row). row_of table x ∷ rs) (rows-more table xs e)

-- what an entry's code says, and a value
abbrev code_row : ℕ → ℕ → ℕ → Abbreviation → List (Option Row)
code_row number place depth a = Some (depth, a.tag) ∷ []

abbrev no_row : ℕ → ℕ → Spec → ℕ → Value → List (Option Row)
no_row number tag x place v = []

values-none : (params : Params) (bytes : List ℕ) (number tag : ℕ) (xs : List Spec) (place : ℕ) → values_out no_row params bytes number tag xs place ≡ []
values-none params bytes number tag [] place = refl
values-none params bytes number tag (x ∷ xs) place = by_value (value_at params x bytes place) (λ p. values-none params bytes number tag xs p)
  where
    by_value : (o : Option Value) → ((p : ℕ) → values_out no_row params bytes number tag xs p ≡ [])
        → value_out no_row (λ p. values_out no_row params bytes number tag xs p) number tag x place o ≡ []
    by_value None rest = refl
    by_value (Some v) rest = rest (place + v.size)

-- an abbreviation that was found has the code
code-found : (table : List Abbreviation) (code : ℕ) (a : Abbreviation) → abbreviation_of table code ≡ Some a → a.code ≡ code
code-found [] code a e = absurd cc
code-found (b ∷ bs) code a e = by_code (b.code == code) refl (λ f. code-found bs code a f) e
  where
    by_code : (t : Bool) → (b.code == code) ≡ t → (abbreviation_of bs code ≡ Some a → a.code ≡ code) → (if t then Some b else abbreviation_of bs code) ≡ Some a → a.code ≡ code
    by_code true is rest e =
        let same : b ≡ a = cc in
        ap (λ (x : Abbreviation). x.code) (sym same) ∙ eqb-true b.code code is
    by_code false is rest e = rest e

entry-row : (params : Params) (table : List Abbreviation) (bytes : List ℕ) (n place depth after : ℕ) (a : Abbreviation) → IsEntry params table bytes place a after
    → entry_out code_row no_row params table bytes n (scanned place depth a after) ≡ Some (row_of table (scanned place depth a after)) ∷ []
entry-row params table bytes n place depth after a is =
    let code : a.code ≡ is.code = code-found table is.code a is.listed in
    let tag : tag_in (abbreviation_of table a.code) ≡ a.tag = ap (λ (c : ℕ). tag_in (abbreviation_of table c)) code ∙ ap tag_in is.listed in
    ap (coded_out code_row no_row params table bytes n (scanned place depth a after)) is.spells
    ∙ ap (listed_out code_row no_row params bytes n (scanned place depth a after) (place + is.size)) is.listed
    ∙ ap (λ (rs : List (Option Row)). Some (depth, a.tag) ∷ rs) (values-none params bytes n a.tag a.specs (place + is.size))
    ∙ ap (λ (t : ℕ). Some (depth, t) ∷ []) (sym tag)

scans-rows : (h : UnitHeader) (table : List Abbreviation) (bytes : List ℕ) (es : List Scanned) (place depth : ℕ) → Scans h table bytes es place depth
    → entries_out code_row no_row h.params table bytes 0 es ≡ some_rows (rows_of table es)
scans-rows h table bytes es place depth starts = refl
scans-rows h table bytes all z d (null es place depth size s is) = scans-rows h table bytes es place depth s
scans-rows h table bytes all z d (entry es place depth after a s is root) =
    entries_out-more code_row no_row h.params table bytes 0 es (scanned place depth a after)
    ∙ ap (λ (rs : List (Option Row)). rs ++ entry_out code_row no_row h.params table bytes (0 + length es) (scanned place depth a after)) (scans-rows h table bytes es place depth s)
    ∙ ap (λ (rs : List (Option Row)). some_rows (rows_of table es) ++ rs) (entry-row h.params table bytes (0 + length es) place depth after a is)
    ∙ sym (some-append (rows_of table es) (row_of table (scanned place depth a after) ∷ []))
    ∙ ap some_rows (sym (rows-more table es (scanned place depth a after)))

-- pieces say the rows of entries
pieces-say : (base : UnitBase) (cells : List Cell) (s : UnitState) → UnitSays any_piece piece_rows cells s code_row no_row
pieces-say base cells s = record {
  holds = λ m place e d k. tt;
  nulls = λ place e d p none. ap (λ (b : Bool). if b then [] else entry_row d (abbreviation_of s.table (code_value p))) (eq-eqb (code_value p) 0 none);
  codes = λ place e d a p some listed.
      ap (λ (b : Bool). if b then [] else entry_row d (abbreviation_of s.table (code_value p))) (ne_eqb (code_value p) 0 some) ∙ ap (entry_row d) listed;
  forms = λ place e d n tag x xs p front. refl;
  owns = λ place e d n tag x xs v other is. refl;
  chosen = λ place e d n tag x xs v front c. refl;
}

-- units one after another, each with the rows of its entries
abbrev flat : List (List Row) → List (Option Row)
flat [] = []
flat (r ∷ rs) = None ∷ (some_rows r ++ flat rs)

flat-more : (rs : List (List Row)) (r : List Row) → flat (rs ++ r ∷ []) ≡ flat rs ++ None ∷ some_rows r
flat-more [] r = ap (λ (xs : List (Option Row)). None ∷ xs) (append-nil (some_rows r))
flat-more (q ∷ qs) r =
    ap (λ (xs : List (Option Row)). None ∷ (some_rows q ++ xs)) (flat-more qs r)
    ∙ ap (λ (xs : List (Option Row)). None ∷ xs) (sym (append_assoc (some_rows q) (flat qs) (None ∷ some_rows r)))

record UnitRow (base : UnitBase) (z : UnitSection) (h : UnitHeader) (r : List Row) : Type 0 where
  table : List Abbreviation
  entries : List Scanned
  declares : IsUnitTable base h table
  are : AreEntries h table (bytes_up_to z h) entries
  is : r ≡ rows_of table entries

abbrev EachRow : UnitBase → UnitSection → List UnitHeader → List (List Row) → Type 0
EachRow base z [] [] = ⊤
EachRow base z [] (r ∷ rs) = ⊥
EachRow base z (h ∷ hs) [] = ⊥
EachRow base z (h ∷ hs) (r ∷ rs) = UnitRow base z h r × EachRow base z hs rs

each-more : (base : UnitBase) (z : UnitSection) (hs : List UnitHeader) (rs : List (List Row)) (h : UnitHeader) (r : List Row) → EachRow base z hs rs → UnitRow base z h r
    → EachRow base z (hs ++ h ∷ []) (rs ++ r ∷ [])
each-more base z [] [] h r all one = (one, tt)
each-more base z [] (q ∷ qs) h r all one = absurd all
each-more base z (g ∷ gs) [] h r all one = absurd all
each-more base z (g ∷ gs) (q ∷ qs) h r all one = (all.0, each-more base z gs qs h r all.1 one)

record Run (base : UnitBase) (z : UnitSection) (first : ℕ) (list : List UnitHeader) (place : ℕ) : Type 0 where
  rows : List (List Row)
  each : EachRow base z list rows
  run : PieceRun (unit_grammar base) any_piece piece_rows z.contents (before z 0 first) (before z place (first + length list)) 0 place (flat rows)

units-run : (base : UnitBase) (z : UnitSection) (first : ℕ) (list : List UnitHeader) (place : ℕ) → UnitsScanned base z list place → Run base z first list place
units-run base z first list place none_scanned = record {
  rows = [];
  each = tt;
  run = run-none (unit_grammar base) any_piece piece_rows z.contents (before z 0 first) (before z 0 (first + 0)) 0 (ap (λ (n : ℕ). before z 0 n) (omega arith));
}
units-run base z first all z_end (more_scanned list h start table items scanned u t entries) =
    let count : first + length list + 1 ≡ first + length (list ++ h ∷ []) = omega (arith, length-append list (h ∷ [])) in
    let r : Run base z first list start = units-run base z first list start scanned in
    let rows : (None ∷ []) ++ entries_out code_row no_row h.params table (bytes_up_to z h) 0 items ≡ None ∷ some_rows (rows_of table items) =
    ap (λ (xs : List (Option Row)). None ∷ xs) (scans-rows h table (bytes_up_to z h) items h.end 0 entries) in
    let one : PieceRun (unit_grammar base) any_piece piece_rows z.contents (before z start (first + length list)) (before z h.end (first + length list + 1)) start h.end
    (None ∷ some_rows (rows_of table items)) =
    subst (λ (xs : List (Option Row)). PieceRun (unit_grammar base) any_piece piece_rows z.contents (before z start (first + length list)) (before z h.end (first + length list + 1)) start h.end xs) rows
    (unit-run any_piece piece_rows code_row no_row base z start (first + length list) h table items (None ∷ []) u t entries
    (λ p rest split found. refl) (λ k. tt) (pieces-say base z.contents (in_headed base z start (first + length list) h))) in
    record {
      rows = r.rows ++ rows_of table items ∷ [];
      each = each-more base z list r.rows h (rows_of table items) r.each (record { table = table; entries = items; declares = t; are = entries; is = refl });
      run =
          subst (λ (n : ℕ). PieceRun (unit_grammar base) any_piece piece_rows z.contents (before z 0 first) (before z h.end n) 0 h.end (flat (r.rows ++ rows_of table items ∷ []))) count
          (subst (λ (xs : List (Option Row)). PieceRun (unit_grammar base) any_piece piece_rows z.contents (before z 0 first) (before z h.end (first + length list + 1)) 0 h.end xs)
          (sym (flat-more r.rows (rows_of table items)))
          (run-more (unit_grammar base) any_piece piece_rows z.contents (before z 0 first) (before z start (first + length list)) (before z h.end (first + length list + 1))
          0 start h.end (flat r.rows) (None ∷ some_rows (rows_of table items)) r.run one));
    }

-- rows that stand between beginnings
same-rows : (rs qs : List Row) (xs : List (List Row)) (us : List UnitMeaning) → some_rows rs ++ flat xs ≡ some_rows qs ++ unit_rows us → (rs ≡ qs) × (flat xs ≡ unit_rows us)
same-rows [] [] xs us e = (refl, e)
same-rows [] (q ∷ qs) [] us e = absurd cc
same-rows [] (q ∷ qs) (x ∷ xs) us e = absurd cc
same-rows (r ∷ rs) [] xs [] e = absurd cc
same-rows (r ∷ rs) [] xs (u ∷ us) e = absurd cc
same-rows (r ∷ rs) (q ∷ qs) xs us e =
    let head : r ≡ q = cc in
    let rest : some_rows rs ++ flat xs ≡ some_rows qs ++ unit_rows us = cc in
    let p = same-rows rs qs xs us rest in
    (ap (λ (x : Row). x ∷ rs) head ∙ ap (λ (ys : List Row). q ∷ ys) p.0, p.1)

-- depths and tags of rows
abbrev firsts : List Row → List ℕ
firsts [] = []
firsts (r ∷ rs) = r.0 ∷ firsts rs

abbrev seconds : List Row → List ℕ
seconds [] = []
seconds (r ∷ rs) = r.1 ∷ seconds rs

firsts-append : (xs ys : List Row) → firsts (xs ++ ys) ≡ firsts xs ++ firsts ys
firsts-append [] ys = refl
firsts-append (x ∷ xs) ys = ap (λ (ns : List ℕ). x.0 ∷ ns) (firsts-append xs ys)

seconds-append : (xs ys : List Row) → seconds (xs ++ ys) ≡ seconds xs ++ seconds ys
seconds-append [] ys = refl
seconds-append (x ∷ xs) ys = ap (λ (ns : List ℕ). x.1 ∷ ns) (seconds-append xs ys)

forest-depths : (d : ℕ) (f : Forest) → firsts (rows_in d f) ≡ depths_in d (shape_of f)
forest-depths d no_entries = refl
forest-depths d (entry_of tag ats c t) =
    ap (λ (ns : List ℕ). d ∷ ns) (firsts-append (rows_in (suc d) c) (rows_in d t)
    ∙ ap (λ (ns : List ℕ). ns ++ firsts (rows_in d t)) (forest-depths (suc d) c) ∙ ap (λ (ns : List ℕ). depths_in (suc d) (shape_of c) ++ ns) (forest-depths d t))

forest-tags : (d : ℕ) (f : Forest) → seconds (rows_in d f) ≡ tags_in f
forest-tags d no_entries = refl
forest-tags d (entry_of tag ats c t) =
    ap (λ (ns : List ℕ). tag ∷ ns) (seconds-append (rows_in (suc d) c) (rows_in d t)
    ∙ ap (λ (ns : List ℕ). ns ++ seconds (rows_in d t)) (forest-tags (suc d) c) ∙ ap (λ (ns : List ℕ). tags_in c ++ ns) (forest-tags d t))

entry-depths : (table : List Abbreviation) (es : List Scanned) → firsts (rows_of table es) ≡ depths_of es
entry-depths table [] = refl
entry-depths table (e ∷ es) = ap (λ (ns : List ℕ). e.depth ∷ ns) (entry-depths table es)

node-tags : (table : List Abbreviation) (ns : List EntryNode) (es : List Scanned) → AreOf table ns es → tags_of ns ≡ seconds (rows_of table es)
node-tags table [] [] are = refl
node-tags table [] (e ∷ es) are = absurd are
node-tags table (n ∷ ns) [] are = absurd are
node-tags table (n ∷ ns) (e ∷ es) are =
    ap (λ (t : ℕ). t ∷ tags_of ns) are.2 ∙ ap (λ (ts : List ℕ). tag_in (abbreviation_of table e.code) ∷ ts) (node-tags table ns es are.3)

-- an arena of a unit whose rows are those of a forest
unit-forest : (base : UnitBase) (z : UnitSection) (h : UnitHeader) (r : List Row) (f : Forest) → UnitRow base z h r → r ≡ rows_in 0 f → (table : List Abbreviation)
    (nodes : List EntryNode) → IsUnitTable base h table → IsArenaOf h table (bytes_up_to z h) nodes → IsForest nodes f
unit-forest base z h r f u same table nodes t a =
    let tables : u.table ≡ table = table-one base.abbrevs.bytes h.abbrevs u.table table u.declares.is t.is in
    let own : AreEntries h table (bytes_up_to z h) u.entries = subst (λ (x : List Abbreviation). AreEntries h x (bytes_up_to z h) u.entries) tables u.are in
    let entries : u.entries ≡ a.entries =
    entries-one h table (bytes_up_to z h) u.entries a.entries (omega (arith, length-take h.end (bytes_of z.contents))) own a.are in
    let rows : rows_of table a.entries ≡ rows_in 0 f =
    ap (rows_of table) (sym entries) ∙ ap (λ (x : List Abbreviation). rows_of x u.entries) (sym tables) ∙ sym u.is ∙ same in
    let depths : depths_in 0 a.shape ≡ depths_in 0 (shape_of f) =
    a.depths ∙ sym (entry-depths table a.entries) ∙ ap firsts rows ∙ forest-depths 0 f in
    record {
      linked = subst (IsLinkedAs nodes) (same-shape a.shape (shape_of f) depths) a.linked;
      tags = node-tags table nodes a.entries a.nodes_are ∙ ap seconds rows ∙ forest-tags 0 f;
    }

all-forests : (base : UnitBase) (z : UnitSection) (list : List UnitHeader) (rows : List (List Row)) (us : List UnitMeaning) → EachRow base z list rows → flat rows ≡ unit_rows us
    → AllForests base z list us
all-forests base z [] [] [] each e = tt
all-forests base z [] [] (u ∷ us) each e = absurd cc
all-forests base z [] (r ∷ rs) us each e = absurd each
all-forests base z (h ∷ hs) [] us each e = absurd each
all-forests base z (h ∷ hs) (r ∷ rs) [] each e = absurd cc
all-forests base z (h ∷ hs) (r ∷ rs) (u ∷ us) each e =
    let tail : some_rows r ++ flat rs ≡ some_rows (rows_in 0 u.entries) ++ unit_rows us = cc in
    let p = same-rows r (rows_in 0 u.entries) rs us tail in
    ((λ table nodes t a. unit-forest base z h r u.entries each.0 p.0 table nodes t a), all-forests base z hs rs us each.1 p.1)

-- the arenas of a section's units have the forests of what these units mean
pub section-forests : (base : UnitBase) (around : Around) (z : UnitSection) (first : ℕ) (list : List UnitHeader) (pieces : List (Piece UnitState)) → around.lasting.base ≡ base
    → AreScanned base z list → ReadsUnits base z first pieces → AllForests base z list (unit_meanings z.number around pieces)
section-forests base around z first list pieces same scanned reads =
    let r : Run base z first list (length z.contents) = units-run base z first list (length z.contents) scanned in
    let whole = run-whole (unit_grammar base) any_piece piece_rows z.contents (before z 0 first) (before z (length z.contents) (first + length list)) (length z.contents) (flat r.rows)
    refl (record { mode = refl; place = refl }) r.run in
    let one : whole.pieces ≡ pieces = reads-one base z first whole.pieces pieces (record { chain = whole.chain; cells = whole.cells_are }) reads in
    let rows : flat r.rows ≡ unit_rows (unit_meanings z.number around pieces) =
    sym whole.fields ∙ ap (all_of piece_rows) one ∙ chain-rows base around (before z 0 first) pieces same reads.chain
    ∙ spelled-rows around z.number 0 pieces (unit_meanings z.number around pieces) (section-spelled base around z first pieces same reads) in
    all-forests base z list r.rows (unit_meanings z.number around pieces) r.each rows

pub ruleset forest_laws = (section-forests)
