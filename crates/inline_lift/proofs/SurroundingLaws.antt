-- What stands around lifted units: all that did, but for more abbreviations and more texts. Each offset of a text that ends names the same text, and
-- that of a path that grew its old text.
use Rattle.std.proofs.Common.{Bool, true, false, ◌≡◌, ℕ, ◌^◌, ◌<◌, ◌==◌, List, [], ◌∷◌, ◌++◌, length, Option, refl, sym, ap, ◌∙◌, arith, if◌then◌else◌, append-nil}
use Rattle.std.proofs.lemmas.List.{length-append}
use Rattle.dw_base.specs.Cells.{Cell, Located, Relocation, bytes_of, field_by, field_of, offset_into, offset_of, plain_cells}
use Rattle.dw_base.specs.DebugData.{Around, DataReadings, DebugData, Kept, LinesAround}
use Rattle.dw_base.specs.Forms.{width_size}
use Rattle.dw_base.specs.Numbers.{number_bytes, spelled}
use Rattle.dw_base.specs.Paths.{PathMap}
use Rattle.dw_base.specs.Pieces.{EachPiece, Piece}
use Rattle.dw_base.specs.Readings.{EachReading, Readings}
use Rattle.dw_base.specs.Roles.{Role, fixed, offset, inline_path, line_start}
use Rattle.dw_base.specs.TableStarts.{NamesUnitIf}
use Rattle.dw_base.specs.TextChanges.{NamesTextBy}
use Rattle.dw_base.specs.Texts.{ends_in, has_nul, is_in, laid_texts, text, text_in}
use Rattle.dw_base.specs.UnitHeaders.{UnitBase}
use Rattle.dw_base.specs.UnitStates.{UnitState}
use Rattle.dw_base.specs.declared.debug_sections.DebugSection.{DebugSection}
use Rattle.dw_base.specs.declared.shared.Order.{Order}
use Rattle.dw_base.specs.declared.texts.TextSection.TheVariants.{InStr, InLineStr}
use Rattle.dw_base.specs.declared.view_fields.Field.{Field}
use Rattle.dw_base.specs.declared.view_fields.Field.TheVariants.{Num, Into, Sym}
use Rattle.dw_base.proofs.NumberLaws.{length-number_bytes, spelled-number_bytes}
use Rattle.dw_base.proofs.PlainCellLaws.{bytes_of-plain, first-plain, plain_cells-plain}
use Rattle.dw_base.proofs.TextLaws.{ends_in-append, ends_in-inside, ends_in-place_in, is_in-append, place_in-lt, same_text-refl, text_in-append, text_in-place_in}
use Rattle.dw_base.proofs.UnitEditLaws.{length-bytes_of}
use Rattle.dw_meaning.proofs.DataParts.{stands_with}
use Rattle.dw_meaning.proofs.RebuiltLaws.{all-there}
use Rattle.dw_meaning.specs.RebuiltTables.{first_texts}
use Rattle.inline_lift.specs.GrowingPaths.{all_growing_texts, growing_texts, grows, texts_if}
use Rattle.inline_lift.specs.Lifted.{Lift, lift_of, lifted_base, lifted_place, lifted_str, offset_cells}
use Rattle.inline_lift.proofs.PieceLiftLaws.{fits-width}

-- what stands around units and no lift changes: all but the abbreviations and the bytes of .debug_str
pub record Standing : Type 0 where
  pub kept : (s : DebugSection) → Kept s
  pub number : ℕ
  pub line_str : Located
  pub slots : List (List ℕ)
  pub lines : LinesAround

abbrev pub around_by : UnitBase → List ℕ → Standing → Around
around_by base str g = record {
  lasting = record { base = base; kept = g.kept };
  stands = stands_with (record { number = g.number; bytes = str }) g.line_str g.slots g.lines.located g.lines.cells g.lines.starts;
}

abbrev pub old_around : Lift → Standing → Around
old_around l g = around_by l.base l.str g

abbrev pub new_around : Lift → Standing → Around
new_around l g = around_by (lifted_base l) (lifted_str l) g

-- an offset of a text that ends in a table is the same one in a table with more texts behind
abbrev table_by : ℕ → List ℕ → Located
table_by number bytes = record { number = number; bytes = bytes }

pub into-longer : (number : ℕ) (old more : List ℕ) (f : Field) → ends_in old (offset_into (table_by number old) f) ≡ true
    → offset_into (table_by number (old ++ more)) f ≡ offset_into (table_by number old) f
into-longer number old more (Num n) e = refl
into-longer number old more (Into s n) e = by_number (s == number) e
  where
    by_number : (b : Bool) → ends_in old (if b then n else length old) ≡ true → (if b then n else length (old ++ more)) ≡ (if b then n else length old)
    by_number true h = refl
    by_number false h = let below : length old < length old = ends_in-inside old (length old) h in absurd (omega (arith, below))
into-longer number old more (Sym s k a) e = let below : length old < length old = ends_in-inside old (length old) e in absurd (omega (arith, below))

pub offset-longer : (order : Order) (number : ℕ) (old more : List ℕ) (p : List Cell) → ends_in old (offset_of order (table_by number old) p) ≡ true
    → offset_of order (table_by number (old ++ more)) p ≡ offset_of order (table_by number old) p
unfolding offset_of
offset-longer order number old more p e = into-longer number old more (field_of order p) e

-- it ends there too, and the text is the same
pub ends-longer : (order : Order) (number : ℕ) (old more : List ℕ) (p : List Cell) → ends_in old (offset_of order (table_by number old) p) ≡ true
    → ends_in (old ++ more) (offset_of order (table_by number (old ++ more)) p) ≡ true
ends-longer order number old more p e =
    let below : offset_of order (table_by number old) p < length old = ends_in-inside old (offset_of order (table_by number old) p) e in
    ap (ends_in (old ++ more)) (offset-longer order number old more p e) ∙ ends_in-append old more (offset_of order (table_by number old) p) (omega (arith, below)) e

pub text-longer : (order : Order) (number : ℕ) (old more : List ℕ) (p : List Cell) → ends_in old (offset_of order (table_by number old) p) ≡ true
    → text_in (old ++ more) (offset_of order (table_by number (old ++ more)) p) ≡ text_in old (offset_of order (table_by number old) p)
text-longer order number old more p e =
    let below : offset_of order (table_by number old) p < length old = ends_in-inside old (offset_of order (table_by number old) p) e in
    ap (text_in (old ++ more)) (offset-longer order number old more p e) ∙ text_in-append old more (offset_of order (table_by number old) p) (omega (arith, below)) e

-- so cells that name a text, or a line table, still do
pub named-kept : (r : Role) (l : Lift) (g : Standing) (p : List Cell) → NamesTextBy r (old_around l g) p → NamesTextBy r (new_around l g) p
named-kept fixed l g p h = tt
named-kept (offset InStr path) l g p h = ends-longer l.base.order g.number l.str (laid_texts l.texts) p h
named-kept (offset InLineStr path) l g p h = h
named-kept inline_path l g p h = tt
named-kept line_start l g p h = h

-- and cells that name a macro unit
pub unit-kept : (b : Bool) (l : Lift) (g : Standing) (p : List Cell) → NamesUnitIf b (old_around l g).lasting p → NamesUnitIf b (new_around l g).lasting p
unit-kept true l g p h = h
unit-kept false l g p h = tt

-- the offset that plain cells hold
pub offset-plain : (order : Order) (z : Located) (n v : ℕ) → v < 256 ^ n → offset_of order z (plain_cells (number_bytes order n v)) ≡ v
unfolding offset_of field_of
offset-plain order z n v small =
    let long : length (plain_cells (number_bytes order n v)) ≡ n =
    sym (length-bytes_of (plain_cells (number_bytes order n v))) ∙ ap length (bytes_of-plain (number_bytes order n v)) ∙ length-number_bytes order n v in
    ap (λ (o : Option Relocation). offset_into z (field_by o (length (plain_cells (number_bytes order n v)))
    (spelled order (bytes_of (plain_cells (number_bytes order n v))) 0 (length (plain_cells (number_bytes order n v))))))
    (first-plain (plain_cells (number_bytes order n v)) (plain_cells-plain (number_bytes order n v)))
    ∙ ap (λ (bs : List ℕ). spelled order bs 0 (length (plain_cells (number_bytes order n v)))) (bytes_of-plain (number_bytes order n v) ∙ sym (append-nil (number_bytes order n v)))
    ∙ ap (spelled order (number_bytes order n v ++ []) 0) long
    ∙ spelled-number_bytes order n v [] small

-- all new texts lie within 4 GiB
abbrev pub IsSmall : Lift → Type 0
IsSmall l = length (lifted_str l) < 2 ^ 32

-- a text that grows is among the new ones
abbrev pub Holds : Lift → Piece UnitState → Type 0
Holds l x = grows l.map x ≡ true → is_in l.texts (text (bytes_of x.cells)) ≡ true

-- so its offset is where it stands
pub offset-held : (l : Lift) (z : Located) (s : UnitState) (p : List Cell) → IsSmall l → is_in l.texts (text (bytes_of p)) ≡ true
    → offset_of l.base.order z (offset_cells l s p) ≡ lifted_place l (text (bytes_of p))
offset-held l z s p small held =
    offset-plain l.base.order z (width_size s.header.params.width) (lifted_place l (text (bytes_of p)))
    (fits-width s.header.params.width (lifted_place l (text (bytes_of p)))
    (omega (arith, small, place_in-lt l.texts (text (bytes_of p)) held, length-append l.str (laid_texts l.texts))))

pub held-ends : (l : Lift) (t : List ℕ) → is_in l.texts t ≡ true → ends_in (lifted_str l) (lifted_place l t) ≡ true
held-ends l t held = ends_in-place_in l.str l.texts t held

pub held-text : (l : Lift) (t : List ℕ) → is_in l.texts t ≡ true → has_nul t ≡ false → text_in (lifted_str l) (lifted_place l t) ≡ t
held-text l t held bare = text_in-place_in l.str l.texts t held bare

-- every text that grows is held, where the lift has the texts of all of them
abbrev HeldIn : List (List ℕ) → PathMap → Piece UnitState → Type 0
HeldIn ts m x = grows m x ≡ true → is_in ts (text (bytes_of x.cells)) ≡ true

if-front : (b c : Bool) → b ≡ true → (if b then true else c) ≡ true
if-front true c e = refl
if-front false c e = absurd cc

if-behind : (b c : Bool) → c ≡ true → (if b then true else c) ≡ true
if-behind true c e = refl
if-behind false c e = e

in-front : (xs ys : List (List ℕ)) (t : List ℕ) → is_in xs t ≡ true → is_in (xs ++ ys) t ≡ true
in-front xs ys t e = is_in-append xs ys t ∙ if-front (is_in xs t) (is_in ys t) e

in-behind : (xs ys : List (List ℕ)) (t : List ℕ) → is_in ys t ≡ true → is_in (xs ++ ys) t ≡ true
in-behind xs ys t e = is_in-append xs ys t ∙ if-behind (is_in xs t) (is_in ys t) e

own-text : (b : Bool) (p : List Cell) → b ≡ true → is_in (texts_if b p) (text (bytes_of p)) ≡ true
own-text true p e = ap (λ (c : Bool). if c then true else false) (same_text-refl (text (bytes_of p)))
own-text false p e = absurd cc

pieces-held : (m : PathMap) (ts : List (List ℕ)) (xs : List (Piece UnitState)) → ((t : List ℕ) → is_in (growing_texts m xs) t ≡ true → is_in ts t ≡ true) → EachPiece (HeldIn ts m) xs
pieces-held m ts [] all = tt
pieces-held m ts (x ∷ xs) all = (
  (λ e. all (text (bytes_of x.cells)) (in-front (texts_if (grows m x) x.cells) (growing_texts m xs) (text (bytes_of x.cells)) (own-text (grows m x) x.cells e))),
  pieces-held m ts xs (λ t h. all t (in-behind (texts_if (grows m x) x.cells) (growing_texts m xs) t h)),
)

readings-held : (m : PathMap) (ts : List (List ℕ)) (rs : Readings) → ((t : List ℕ) → is_in (all_growing_texts m rs) t ≡ true → is_in ts t ≡ true) → EachReading (HeldIn ts m) rs
readings-held m ts [] all = tt
readings-held m ts (r ∷ rs) all = (
  pieces-held m ts r.pieces (λ t h. all t (in-front (growing_texts m r.pieces) (all_growing_texts m rs) t h)),
  readings-held m ts rs (λ t h. all t (in-behind (growing_texts m r.pieces) (all_growing_texts m rs) t h)),
)

pub texts-held : (m : PathMap) (d : DebugData) (r : DataReadings) → EachReading (Holds (lift_of m d r)) r.units
texts-held m d r = readings-held m (first_texts [] (all_growing_texts m r.units)) r.units (λ t h. all-there [] (all_growing_texts m r.units) t h)
