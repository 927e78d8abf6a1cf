-- Each offset of a text in a generated unit names one that ends in the table of texts.
use Rattle.std.proofs.Common.{◌≡◌, ℕ, ◌+◌, ◌^◌, ◌<◌, ◌≤◌, true, false, List, [], length, sym, ap, ◌∙◌, arith}
use Rattle.std.specs.Prelude.{IsTrue}
use Rattle.std.proofs.lemmas.List.{append-nil}
use Rattle.dw_base.specs.Cells.{Located, field_of, offset_of, plain_cells}
use Rattle.dw_base.specs.DebugData.{Around, line_table, table_of}
use Rattle.dw_base.specs.Forms.{form_rows, kind_in}
use Rattle.dw_base.specs.LineMeanings.{is_there}
use Rattle.dw_base.specs.Numbers.{number_bytes, spelled}
use Rattle.dw_base.specs.Pieces.{EachPiece}
use Rattle.dw_base.specs.Roles.{role_of}
use Rattle.dw_base.specs.StringTables.{place_in}
use Rattle.dw_base.specs.TextChanges.{NamesText}
use Rattle.dw_base.specs.Texts.{ends_in, has_nul, is_in, laid_texts, text_in}
use Rattle.dw_base.specs.declared.shared.Order.{Order}
use Rattle.dw_base.specs.declared.shared.Order.TheVariants.{Little}
use Rattle.dw_base.proofs.NumberLaws.{spelled-number_bytes}
use Rattle.dw_base.proofs.PlainCellLaws.{bytes_of-plain}
use Rattle.dw_base.proofs.TextLaws.{ends_in-place_in, place_in-lt, text_in-place_in}
use Rattle.dbg_gen.specs.Asked.{HasUnits}
use Rattle.dbg_gen.specs.GeneratedLines.{lines_of}
use Rattle.dbg_gen.specs.GeneratedTexts.{directory, unit_name, variable_name}
use Rattle.dbg_gen.specs.GeneratedUnits.{text_offset}
use Rattle.dw_base.specs.declared.texts.TextSection.TheVariants.{InStr}
use Rattle.gen_laws.proofs.UnitEachLaws.{each-piece}
use Rattle.gen_laws.proofs.UnitReadLaws.{all_pieces}

-- an offset of four bytes
pub offset-plain : (z : Located) (x : ℕ) → x < 2 ^ 32 → offset_of Little z (plain_cells (number_bytes Little 4 x)) ≡ x
unfolding offset_of field_of
offset-plain z x small =
    ap (λ (bs : List ℕ). spelled Little bs 0 4) (bytes_of-plain (number_bytes Little 4 x) ∙ sym (append-nil (number_bytes Little 4 x)))
    ∙ spelled-number_bytes Little 4 x [] (omega arith)

named-by : (o : Order) (z : Located) (texts : List (List ℕ)) (t : List ℕ) → o ≡ Little → z.bytes ≡ laid_texts texts → is_in texts t ≡ true → length (laid_texts texts) ≤ 2 ^ 32
    → ends_in z.bytes (offset_of o z (plain_cells (text_offset texts t))) ≡ true
named-by o z texts t order bytes there small =
    let inside = place_in-lt texts t there in
    let zero_left : 0 + place_in texts t ≡ place_in texts t = omega arith in
    ap (λ (q : Order). ends_in z.bytes (offset_of q z (plain_cells (text_offset texts t)))) order
    ∙ ap (λ (n : ℕ). ends_in z.bytes n) (offset-plain z (place_in texts t) (omega (arith, inside)) ∙ sym zero_left)
    ∙ ap (λ (bs : List ℕ). ends_in bs (0 + place_in texts t)) bytes
    ∙ ends_in-place_in [] texts t there

text-by : (o : Order) (z : Located) (texts : List (List ℕ)) (t : List ℕ) → o ≡ Little → z.bytes ≡ laid_texts texts → is_in texts t ≡ true → has_nul t ≡ false → length (laid_texts texts) ≤ 2 ^ 32
    → text_in z.bytes (offset_of o z (plain_cells (text_offset texts t))) ≡ t
text-by o z texts t order bytes there bare small =
    let inside = place_in-lt texts t there in
    let zero_left : 0 + place_in texts t ≡ place_in texts t = omega arith in
    ap (λ (q : Order). text_in z.bytes (offset_of q z (plain_cells (text_offset texts t)))) order
    ∙ ap (λ (n : ℕ). text_in z.bytes n) (offset-plain z (place_in texts t) (omega (arith, inside)) ∙ sym zero_left)
    ∙ ap (λ (bs : List ℕ). text_in bs (0 + place_in texts t)) bytes
    ∙ text_in-place_in [] texts t there bare

-- what stands around the units: these texts, and a line table at each place of one
pub record StandsAround (around : Around) (texts : List (List ℕ)) (counts : List ℕ) (units : ℕ) : Type 0 where
  pub order_is : around.lasting.base.order ≡ Little
  pub texts_are : (table_of around InStr).bytes ≡ laid_texts texts
  pub small : length (laid_texts texts) ≤ 2 ^ 32
  pub has : HasUnits texts counts units
  pub lines : (u : ℕ) → u < units → IsTrue (is_there (line_table around (plain_cells (number_bytes Little 4 (length (lines_of counts u))))))

names : (around : Around) (texts : List (List ℕ)) (counts : List ℕ) (units : ℕ) (t : List ℕ) → StandsAround around texts counts units → is_in texts t ≡ true
    → IsTrue (ends_in (table_of around InStr).bytes (offset_of around.lasting.base.order (table_of around InStr) (plain_cells (text_offset texts t))))
names around texts counts units t w there = named-by around.lasting.base.order (table_of around InStr) texts t w.order_is w.texts_are there w.small

pub units-named : (around : Around) (texts : List (List ℕ)) (counts : List ℕ) (units whole : ℕ) → StandsAround around texts counts units
    → EachPiece (NamesText around) (all_pieces whole texts counts units)
unfolding role_of kind_in form_rows
units-named around texts counts units whole w =
    each-piece (NamesText around) whole texts counts units units
    (record {
      header = λ unit start n. tt;
      code = λ unit start n place entry depth code. tt;
      name = λ unit start n place lt. names around texts counts units (unit_name unit) w (w.has.each unit lt).name;
      directory_value = λ unit start n place lt. names around texts counts units directory w (w.has.each unit lt).directory_there;
      lines = λ unit start n place lt. w.lines unit lt;
      variable = λ unit start n place i lt below. names around texts counts units (variable_name i) w ((w.has.each unit lt).variables i below);
    }) (omega arith)

-- the text of the mention that such an offset makes
pub mention-text : (around : Around) (texts : List (List ℕ)) (counts : List ℕ) (units : ℕ) (t : List ℕ) → StandsAround around texts counts units → is_in texts t ≡ true → has_nul t ≡ false
    → text_in (table_of around InStr).bytes (offset_of around.lasting.base.order (table_of around InStr) (plain_cells (text_offset texts t))) ≡ t
mention-text around texts counts units t w there bare = text-by around.lasting.base.order (table_of around InStr) texts t w.order_is w.texts_are there bare w.small
