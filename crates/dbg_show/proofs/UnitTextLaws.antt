-- The text of all units, found by places, is that of what they mean.
use Rattle.std.proofs.Common.{Bool, true, false, ◌≡◌, ℕ, ◌+◌, ◌==◌, List, [], ◌∷◌, ◌++◌, Option, Some, refl, sym, ap, ◌∙◌, subst, if◌then◌else◌}
use Rattle.dw_base.specs.Cells.{Cell}
use Rattle.dw_base.specs.DebugData.{Around, DataReadings, around_of}
use Rattle.dw_base.specs.EntryValues.{bytes_up_to}
use Rattle.dw_base.specs.FileViews.{View}
use Rattle.dw_base.specs.LineMeanings.{item_at}
use Rattle.dw_base.specs.Readings.{Readings}
use Rattle.dw_base.specs.TextIndexes.{all_bases}
use Rattle.dw_base.specs.UnitHeaders.{UnitSection}
use Rattle.dw_base.specs.UnitMeanings.{head_mark, units_of}
use Rattle.dw_base.specs.ViewData.{debug_data, unit_sections}
use Rattle.dw_base.specs.declared.debug_sections.DebugSection.TheVariants.{Info}
use Rattle.dw_base.specs.declared.units.UnitHeader.{UnitHeader}
use Rattle.dw_entries.specs.ViewUnits.{numbered, unit_section_at}
use Rattle.dw_entries.proofs.HasUnitLaws.{numbered-section}
use Rattle.dbg_show.specs.PieceTexts.{all_said, mark_said}
use Rattle.dw_attrs.specs.UnitValues.{UnitSource, said_unit, unit_bytes, unit_entries}
use Rattle.dbg_show.specs.ShownUnits.{all_shown, entries_text, header_line, one_shown, tabled_text}
use Rattle.dbg_show.specs.UnitTexts.{kind_name, section_name, unit_line, units_text}
use Rattle.dw_units.specs.declared.listed_unit.ListedUnit.{ListedUnit}
use Rattle.dw_attrs.proofs.AllRunLaws.{Among, EachOut, all_out, all_pieces, all-said-out}
use Rattle.dw_attrs.proofs.BaseOwnLaws.{HasBase, all-based, in-shown, offsets_in}
use Rattle.dbg_show.proofs.ForestTextLaws.{all-said}
use Rattle.dbg_show.proofs.TextSaysLaws.{entries-texts, entry_says, said-all, says_of, unit-says, value_says}
use Rattle.dw_attrs.proofs.UnitFactLaws.{UnitFacts, unit-facts}
use Rattle.dw_meaning.proofs.RunLaws.{PieceRun}
use Rattle.dw_meaning.proofs.ScanSectionLaws.{before, in_headed}
use Rattle.dw_meaning.proofs.WholeUnitLaws.{unit-run}
use Rattle.dw_meaning.specs.PieceRuns.{all_of, entries_out, any_piece}
use Rattle.dw_base.specs.UnitPieces.{unit_grammar}
use Rattle.dw_attrs.proofs.AroundLaws.{SourceIs, shown-around}

-- the name of a section
name-there : (zs : List UnitSection) (n : ℕ) (z : UnitSection) → numbered zs n ≡ Some z → section_name zs n ≡ kind_name z.kind
name-there [] n z e = absurd cc
name-there (y ∷ ys) n z e = by_number (y.number == n) (name-there ys n z) e
  where
    once : Some y ≡ Some z → y ≡ z
    once e = cc

    by_number : (b : Bool) → (numbered ys n ≡ Some z → section_name ys n ≡ kind_name z.kind) → (if b then Some y else numbered ys n) ≡ Some z
        → (if b then kind_name y.kind else section_name ys n) ≡ kind_name z.kind
    by_number true rest e = ap (λ (w : UnitSection). kind_name w.kind) (once e)
    by_number false rest e = rest e

own-name : (v : View) (z : UnitSection) → Among ((debug_data v).found Info) z → section_name ((debug_data v).found Info) z.number ≡ kind_name z.kind
unfolding debug_data
own-name v z a = name-there (unit_sections v) z.number z (numbered-section v a.front a.back z a.is)

-- a unit's text is what its pieces say
text-out : (g : UnitSource) (r : DataReadings) → SourceIs g r
    → EachOut (debug_data g.view) g.tables (HasBase g.view g.tables (all_bases (debug_data g.view).base.order (offsets_in g.view) r.units))
    (λ n. says_of ((debug_data g.view).found Info) n (around_of (debug_data g.view) r)) (one_shown g)
text-out g r i z among start unit h u table items q is t entries listed =
    let f : UnitFacts g.view g.tables z h u table items = unit-facts g.view g.tables z start h u table items among is t entries listed in
    let head : header_line g.view unit u.header ≡ header_line g.view unit h = ap (header_line g.view unit) f.header_is in
    let named : section_name ((debug_data g.view).found Info) z.number ≡ kind_name (unit_section_at g.view h.section).kind =
    own-name g.view z among ∙ ap (λ (y : UnitSection). kind_name y.kind) (sym f.at_is) in
    let own : tabled_text g unit u.header (item_at g.tables u.table) ≡ entries_text (said_unit g unit h table) 0 (unit_entries h table (unit_bytes g.view h)) =
    ap (tabled_text g unit u.header) f.table_is
    ∙ ap (λ (x : UnitHeader). entries_text (said_unit g unit x table) 0 (unit_entries x table (unit_bytes g.view x))) f.header_is in
    let said : entries_out entry_says (value_says (said_unit g unit h table)) h.params table (bytes_up_to z h) 0 items
    ≡ entries_text (said_unit g unit h table) 0 (unit_entries h table (unit_bytes g.view h)) =
    ap (entries_out entry_says (value_says (said_unit g unit h table)) h.params table (bytes_up_to z h) 0) (sym f.items_are)
    ∙ ap (λ (bs : List ℕ). entries_out entry_says (value_says (said_unit g unit h table)) h.params table bs 0 (unit_entries h table bs)) f.bytes_are
    ∙ entries-texts (said_unit g unit h table) 0 (unit_entries h table (unit_bytes g.view h)) in
    let whole : header_line g.view unit h ++ entries_out entry_says (value_says (said_unit g unit h table)) h.params table (bytes_up_to z h) 0 items ≡ one_shown g unit u =
    ap (λ (x : List ℕ). header_line g.view unit h ++ x) (said ∙ sym own) ∙ ap (λ (x : List ℕ). x ++ tabled_text g unit u.header (item_at g.tables u.table)) (sym head) in
    subst (λ (x : List ℕ). PieceRun (unit_grammar (debug_data g.view).base) any_piece (says_of ((debug_data g.view).found Info) z.number (around_of (debug_data g.view) r)) z.contents (before z start unit)
    (before z h.end (unit + 1)) start h.end x) whole
    (unit-run any_piece (says_of ((debug_data g.view).found Info) z.number (around_of (debug_data g.view) r)) entry_says (value_says (said_unit g unit h table)) (debug_data g.view).base z start unit h
    table items (header_line g.view unit h) is t entries
    (λ (p : List Cell) (rest : List Cell) split found.
    ap (λ (o : Option UnitHeader). mark_said ((debug_data g.view).found Info) z.number (before z start unit) (head_mark (around_of (debug_data g.view) r).lasting o)) found
    ∙ ap (λ (name : List ℕ). unit_line unit name h.params.version h.params.width h.params.address h.kind h.signature) named)
    (λ k. tt)
    (unit-says ((debug_data g.view).found Info) z.number (around_of (debug_data g.view) r) (said_unit g unit h table) z.contents (in_headed (debug_data g.view).base z start unit h)
    (shown-around g r z h u table items unit i f q) (in-shown g z start unit h u table items f)))

-- all units
shown-out : (g : UnitSource) (n : ℕ) (us : List ListedUnit) → all_shown g n us ≡ all_out (one_shown g) n us
shown-out g n [] = refl
shown-out g n (u ∷ us) = ap (λ (t : List ℕ). one_shown g n u ++ t) (shown-out g (n + 1) us)

said-pieces : (zs : List UnitSection) (around : Around) (rs : Readings) → all_said zs around rs ≡ all_pieces (λ n. says_of zs n around) rs
said-pieces zs around [] = refl
said-pieces zs around (r ∷ rs) =
    ap (λ (t : List ℕ). t ++ all_said zs around rs) (said-all zs r.number around r.pieces)
    ∙ ap (λ (t : List ℕ). all_of (says_of zs r.number around) r.pieces ++ t) (said-pieces zs around rs)

pub units-shown : (g : UnitSource) (r : DataReadings) → SourceIs g r → all_shown g 0 g.units ≡ units_text ((debug_data g.view).found Info) 0 (units_of (debug_data g.view) r)
unfolding units_of
units-shown g r i =
    shown-out g 0 g.units
    ∙ sym (all-said-out (debug_data g.view) g.tables (HasBase g.view g.tables (all_bases (debug_data g.view).base.order (offsets_in g.view) r.units))
    (λ n. says_of ((debug_data g.view).found Info) n (around_of (debug_data g.view) r)) (one_shown g) g.units r.units (text-out g r i)
    (all-based g r.units i.listed i.units) i.listed i.units)
    ∙ sym (said-pieces ((debug_data g.view).found Info) (around_of (debug_data g.view) r) r.units)
    ∙ sym (all-said (debug_data g.view).base (around_of (debug_data g.view) r) ((debug_data g.view).found Info) ((debug_data g.view).found Info) 0 r.units refl i.units)
