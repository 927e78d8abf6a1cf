-- The stretches of a new line table: no relocation begins in those in whose place others come, they fill the table, and the new cells are theirs.
use Rattle.std.proofs.Common.{Bool, true, false, ◌≡◌, ℕ, suc, ◌+◌, ◌-◌, ◌≤◌, ◌==◌, List, [], ◌∷◌, ◌++◌, length, Option, Some, None, refl, sym, ap, ◌∙◌, subst, arith, if◌then◌else◌, append_assoc}
use Rattle.std.specs.Bool.{⊤}
use Rattle.std.specs.Prelude.{Ok}
use Rattle.std.proofs.lemmas.Bool.{eq-eqb, ne_eqb}
use Rattle.std.proofs.lemmas.List.{append-nil}
use Rattle.dw_base.specs.Cells.{Cell, cells_at, plain_cells}
use Rattle.dw_base.specs.Forms.{width_size}
use Rattle.dw_base.specs.LineEntries.{columns, entries_at, entry_at, with_column, list_end, place_behind}
use Rattle.dw_base.specs.LineReadings.{LineReading}
use Rattle.dw_base.specs.LineSources.{LineSource}
use Rattle.dw_base.specs.LineTables.{HasLists, new_lists, old_lists, table_bytes, texts_of}
use Rattle.dw_base.specs.LineTexts.{text_of}
use Rattle.dw_base.specs.Paths.{PathMap}
use Rattle.dw_base.specs.Texts.{text_in}
use Rattle.dw_base.specs.WrittenLines.{cells_part}
use Rattle.dw_base.specs.declared.line_numbers.TheConstants.{DW_LNCT_path}
use Rattle.dw_base.specs.declared.line_tables.Column.{Column}
use Rattle.dw_base.specs.declared.line_tables.Entry.{Entry}
use Rattle.dw_base.specs.declared.line_tables.FilePlace.{FilePlace}
use Rattle.dw_base.specs.declared.line_tables.LineHeader.{LineHeader}
use Rattle.dw_base.specs.declared.line_tables.TextPlace.{TextPlace}
use Rattle.dw_base.specs.declared.shared.Order.{Order}
use Rattle.dw_base.specs.declared.shared.Width.{Width}
use Rattle.dw_base.specs.declared.values.Spec.{Spec}
use Rattle.dw_base.proofs.RelocationFieldLaws.{length-cells_at}
use Rattle.dw_base.specs.declared.texts.TextSection.{TextSection}
use Rattle.dw_base.specs.declared.texts.TextSection.TheVariants.{InStr, InLineStr}
use Rattle.dw_meaning.specs.LineCells.{CellChange, changed_cells, inline_cells, offset_cells, path_cells}
use Rattle.dw_meaning.specs.LineStretches.{PlacedStretch, Stretch, all_path_stretches, inline_stretch, kept_stretch, offset_stretch, offset_stretches, other_stretch, path_stretches, stretch_after, stretch_size, stretches_after, stretches_between, stretches_end}
use Rattle.dw_meaning.proofs.ClearLaws.{Clear, ColumnsClear, EntriesClear, ListClear, clear-part, clear_from}
use Rattle.dw_meaning.proofs.LineClearLaws.{TableClear, dirs-behind, inline-unnamed, old-behind}
use Rattle.dw_meaning.proofs.LineColumnLaws.{ColumnIs, column-is, inline_is, offset_is, texts_in, value_is}
use Rattle.dw_meaning.proofs.LineEntryLaws.{AreColumns, column-step, columns-keep, entry-same, first-taken, takes, takes-path, text_with}
use Rattle.dw_meaning.proofs.LineListLaws.{entry-is, format-place, list-is}
use Rattle.dw_meaning.proofs.LineMoveLaws.{column-place, none-place, some-place}
use Rattle.dw_meaning.proofs.LineOldLaws.{file-place}
use Rattle.dw_meaning.proofs.LineReadLaws.{inline-inside}
use Rattle.dw_meaning.proofs.LineSectionLaws.{TablesApart}
use Rattle.dw_meaning.proofs.LineWalkLaws.{NewFiles, OldDirs, OldFiles, dirs-of, files-of}

-- a stretch in whose place others come has no relocation
abbrev pub StretchIs : List Cell → ℕ → Stretch → Type 0
StretchIs cells p (kept_stretch n) = ⊤
StretchIs cells p (other_stretch n bytes) = Clear cells p (p + n)
StretchIs cells p (offset_stretch n offset) = ⊤

abbrev pub StretchesAre : List Cell → ℕ → List Stretch → Type 0
StretchesAre cells p [] = ⊤
StretchesAre cells p (x ∷ xs) = StretchIs cells p x × StretchesAre cells (p + stretch_size x) xs

-- stretches at places, in their order, up to an end
abbrev pub Placed : List Cell → ℕ → ℕ → List PlacedStretch → Type 0
Placed cells end p [] = p ≤ end
Placed cells end p (c ∷ cs) = (p ≤ c.at) × StretchIs cells c.at c.stretch × Placed cells end (c.at + stretch_size c.stretch) cs

pub placed-end : (cells : List Cell) (end p : ℕ) (cs : List PlacedStretch) → Placed cells end p cs → p ≤ end
placed-end cells end p [] h = h
placed-end cells end p (c ∷ cs) h =
    let here = h.0 in
    let more = placed-end cells end (c.at + stretch_size c.stretch) cs h.2 in
    omega (arith, here, more)

pub placed-before : (cells : List Cell) (end p q : ℕ) (cs : List PlacedStretch) → q ≤ p → Placed cells end p cs → Placed cells end q cs
placed-before cells end p q [] le h = omega (arith, le, h)
placed-before cells end p q (c ∷ cs) le h =
    let here = h.0 in
    (omega (arith, le, here), h.1, h.2)

-- what is between them is kept
pub between-are : (cells : List Cell) (end p : ℕ) (cs : List PlacedStretch) → Placed cells end p cs → StretchesAre cells p (stretches_between p end cs)
between-are cells end p [] h = (tt, tt)
between-are cells end p (c ∷ cs) h =
    let here = h.0 in
    let at : c.at ≡ p + (c.at - p) = omega (arith, here) in (
      tt,
      subst (λ (i : ℕ). StretchIs cells i c.stretch × StretchesAre cells (i + stretch_size c.stretch) (stretches_between (c.at + stretch_size c.stretch) end cs)) at
          (h.1, between-are cells end (c.at + stretch_size c.stretch) cs h.2),
    )

pub between-end : (cells : List Cell) (end p : ℕ) (cs : List PlacedStretch) → Placed cells end p cs → stretches_end p (stretches_between p end cs) ≡ end
between-end cells end p [] h = omega (arith, h)
between-end cells end p (c ∷ cs) h =
    let here = h.0 in
    let at : p + (c.at - p) ≡ c.at = omega (arith, here) in
    ap (λ (i : ℕ). stretches_end (i + stretch_size c.stretch) (stretches_between (c.at + stretch_size c.stretch) end cs)) at
    ∙ between-end cells end (c.at + stretch_size c.stretch) cs h.2

-- stretches are these changes of cells
pub record SameStretch (order : Order) (cells : List Cell) (c : CellChange) (s : PlacedStretch) : Type 0 where
  pub at : c.at ≡ s.at
  pub old : c.old ≡ length (cells_at cells s.at (stretch_size s.stretch))
  pub new : c.new ≡ stretch_after order cells s.at s.stretch

abbrev pub SameStretches : Order → List Cell → List CellChange → List PlacedStretch → Type 0
SameStretches order cells [] [] = ⊤
SameStretches order cells [] (s ∷ ss) = ⊥
SameStretches order cells (c ∷ cs) [] = ⊥
SameStretches order cells (c ∷ cs) (s ∷ ss) = SameStretch order cells c s × SameStretches order cells cs ss

pub same-both : (order : Order) (cells : List Cell) (xs us : List CellChange) (ys vs : List PlacedStretch) → SameStretches order cells xs ys → SameStretches order cells us vs
    → SameStretches order cells (xs ++ us) (ys ++ vs)
same-both order cells [] us [] vs h k = k
same-both order cells [] us (y ∷ ys) vs h k = absurd h
same-both order cells (x ∷ xs) us [] vs h k = absurd h
same-both order cells (x ∷ xs) us (y ∷ ys) vs h k = (h.0, same-both order cells xs us ys vs h.1 k)

pub same-path : (g : LineSource) (m : PathMap) (places : TextPlace → Option ℕ) (w : Width) (x : TextPlace)
    → SameStretches g.order g.cells (path_cells g m places w x) (path_stretches g m places w x)
same-path g m places w x = by_section (x.section == g.number)
  where
    by_place : (o : Option ℕ) → SameStretches g.order g.cells (offset_cells g.order w g.cells x.field o) (offset_stretches w x.field o)
    by_place None = tt
    by_place (Some place) = (record { at = refl; old = refl; new = refl }, tt)

    by_section : (b : Bool) → SameStretches g.order g.cells (if b then inline_cells m g.cells x ∷ [] else offset_cells g.order w g.cells x.field (places x))
        (if b then inline_stretch m g.cells x ∷ [] else offset_stretches w x.field (places x))
    by_section true = (record { at = refl; old = refl; new = refl }, tt)
    by_section false = by_place (places x)

pub between-cells : (order : Order) (cells : List Cell) (end p : ℕ) (cs : List CellChange) (ss : List PlacedStretch) → SameStretches order cells cs ss → Placed cells end p ss
    → end ≤ length cells → stretches_after order cells p (stretches_between p end ss) ≡ changed_cells cells p end cs
between-cells order cells end p [] [] same h inside = append-nil (cells_part cells p end)
between-cells order cells end p [] (s ∷ ss) same h inside = absurd same
between-cells order cells end p (c ∷ cs) [] same h inside = absurd same
between-cells order cells end p (c ∷ cs) (s ∷ ss) same h inside =
    let here = h.0 in
    let more = placed-end cells end (s.at + stretch_size s.stretch) ss h.2 in
    let at : p + (s.at - p) ≡ s.at = omega (arith, here) in
    let size : length (cells_at cells s.at (stretch_size s.stretch)) ≡ stretch_size s.stretch = length-cells_at cells s.at (stretch_size s.stretch) (omega (arith, more, inside)) in
    let next : s.at + stretch_size s.stretch ≡ c.at + c.old = sym (ap (λ (i : ℕ). i + c.old) same.0.at ∙ ap (λ (i : ℕ). s.at + i) (same.0.old ∙ size)) in
    ap (λ (i : ℕ). cells_part cells p s.at ++ (stretch_after order cells i s.stretch
    ++ stretches_after order cells (i + stretch_size s.stretch) (stretches_between (s.at + stretch_size s.stretch) end ss))) at
    ∙ ap (λ (i : ℕ). cells_part cells p i ++ (stretch_after order cells s.at s.stretch
    ++ stretches_after order cells (s.at + stretch_size s.stretch) (stretches_between (s.at + stretch_size s.stretch) end ss))) (sym same.0.at)
    ∙ ap (λ (xs : List Cell). cells_part cells p c.at ++ xs)
    (ap (λ (xs : List Cell). xs ++ stretches_after order cells (s.at + stretch_size s.stretch) (stretches_between (s.at + stretch_size s.stretch) end ss)) (sym same.0.new)
    ∙ ap (λ (xs : List Cell). c.new ++ xs)
    (between-cells order cells end (s.at + stretch_size s.stretch) cs ss same.1 h.2 inside ∙ ap (λ (i : ℕ). changed_cells cells i end cs) next))

-- stretches one behind another
pub after-append : (order : Order) (cells : List Cell) (p : ℕ) (xs ys : List Stretch)
    → stretches_after order cells p (xs ++ ys) ≡ stretches_after order cells p xs ++ stretches_after order cells (stretches_end p xs) ys
after-append order cells p [] ys = refl
after-append order cells p (x ∷ xs) ys =
    ap (λ (l : List Cell). stretch_after order cells p x ++ l) (after-append order cells (p + stretch_size x) xs ys)
    ∙ sym (append_assoc (stretch_after order cells p x) (stretches_after order cells (p + stretch_size x) xs) (stretches_after order cells (stretches_end (p + stretch_size x) xs) ys))

pub end-append : (p : ℕ) (xs ys : List Stretch) → stretches_end p (xs ++ ys) ≡ stretches_end (stretches_end p xs) ys
end-append p [] ys = refl
end-append p (x ∷ xs) ys = end-append (p + stretch_size x) xs ys

pub are-append : (cells : List Cell) (p : ℕ) (xs ys : List Stretch) → StretchesAre cells p xs → StretchesAre cells (stretches_end p xs) ys → StretchesAre cells p (xs ++ ys)
are-append cells p [] ys h k = k
are-append cells p (x ∷ xs) ys h k = (h.0, are-append cells (p + stretch_size x) xs ys h.1 k)

-- stretches from a place up to another, and what they become
pub record StretchedTo (order : Order) (old : List Cell) (p e : ℕ) (xs : List Stretch) (new : List Cell) : Type 0 where
  pub are : StretchesAre old p xs
  pub ends : stretches_end p xs ≡ e
  pub cells : stretches_after order old p xs ≡ new

-- the texts that offsets name stand in sections of their own
pub record TextsApart (g : LineSource) : Type 0 where
  pub other : (z : TextSection) → ((texts_in g z).number == g.number) ≡ false

-- what becomes of a path that stands in the table
inline-placed : (g : LineSource) (m : PathMap) (places : TextPlace → Option ℕ) (w : Width) (end : ℕ) (cs : List PlacedStretch) (p next : ℕ) (x : TextPlace)
    → x.section ≡ g.number → x.at ≡ p → p + x.len ≤ next → Clear g.cells p next → Placed g.cells end next cs → Placed g.cells end p (path_stretches g m places w x ++ cs)
inline-placed g m places w end cs p next x section at le clear h =
    subst (λ (b : Bool). Placed g.cells end p ((if b then inline_stretch m g.cells x ∷ [] else offset_stretches w x.field (places x)) ++ cs))
    (sym (eq-eqb x.section g.number section)) (
      omega (arith, at),
      clear-part g.cells p next x.at (x.at + x.len) clear (omega (arith, at)) (omega (arith, at, le)),
      placed-before g.cells end next (x.at + x.len) cs (omega (arith, at, le)) h,
    )

-- of an offset
pub offset-placed : (g : LineSource) (w : Width) (end : ℕ) (cs : List PlacedStretch) (p : ℕ) (o : Option ℕ) → Placed g.cells end (p + width_size w) cs
    → Placed g.cells end p (offset_stretches w p o ++ cs)
offset-placed g w end cs p None h = placed-before g.cells end (p + width_size w) p cs (omega arith) h
offset-placed g w end cs p (Some to) h = (omega arith, tt, h)

-- of a column
pub column-placed : (g : LineSource) (m : PathMap) (old : List ℕ) (h : LineHeader) (places : TextPlace → Option ℕ) (end : ℕ) (cs : List PlacedStretch) (spec : Spec)
    (p : ℕ) (c : Column) (t : TextPlace) → TextsApart g → ColumnIs g h old spec p c → c.text ≡ Some t → Clear g.cells (clear_from spec p) c.next
    → Placed g.cells end c.next cs → Placed g.cells end p (path_stretches g m places h.width t ++ cs)
column-placed g m old h places end cs spec p c t apart (inline_is form ends) is clear s =
    let same : record { section = g.number; at = p; len = length (text_in old p); field = p } ≡ t = some-place _ t is in
    subst (λ (x : TextPlace). Placed g.cells end p (path_stretches g m places h.width x ++ cs)) same
    (inline-placed g m places h.width end cs p (p + length (text_in old p) + 1)
    (record { section = g.number; at = p; len = length (text_in old p); field = p }) refl refl (omega arith)
    (subst (λ (b : Bool). Clear g.cells (if b then suc p else p) (p + length (text_in old p) + 1)) (inline-unnamed spec form) clear) s)
column-placed g m old h places end cs spec p c t apart (offset_is i n form room reads ends) is clear s =
    let same : text_of (texts_in g i) n p ≡ t = some-place _ t is in
    subst (λ (x : TextPlace). Placed g.cells end p (path_stretches g m places h.width x ++ cs)) same
    (subst (λ (b : Bool). Placed g.cells end p ((if b then inline_stretch m g.cells (text_of (texts_in g i) n p) ∷ []
    else offset_stretches h.width p (places (text_of (texts_in g i) n p))) ++ cs)) (sym (apart.other i))
    (offset-placed g h.width end cs p (places (text_of (texts_in g i) n p)) s))
column-placed g m old h places end cs spec p c t apart (value_is x y d v is_) is clear s = absurd (none-place t is)

-- the stretches that are left in an entry whose path was read, or wasn't yet
abbrev pending_stretches : LineSource → PathMap → (TextPlace → Option ℕ) → Width → Option TextPlace → Option TextPlace → List PlacedStretch
pending_stretches g m places width (Some a) o = []
pending_stretches g m places width None None = []
pending_stretches g m places width None (Some x) = path_stretches g m places width x

pending-same : (g : LineSource) (m : PathMap) (places : TextPlace → Option ℕ) (width : Width) (o : Option TextPlace) → pending_stretches g m places width o o ≡ []
pending-same g m places width None = refl
pending-same g m places width (Some x) = refl

pending-kept : (g : LineSource) (m : PathMap) (places : TextPlace → Option ℕ) (width : Width) (b : Bool) (o t last : Option TextPlace) → takes b o t ≡ false
    → pending_stretches g m places width (text_with b o t) last ≡ pending_stretches g m places width o last
pending-kept g m places width false o t last e = refl
pending-kept g m places width true None None last e = refl
pending-kept g m places width true None (Some x) last e = absurd cc
pending-kept g m places width true (Some x) t last e = refl

-- of the columns of an entry
columns-placed : (g : LineSource) (m : PathMap) (old : List ℕ) (h : LineHeader) (places : TextPlace → Option ℕ) (end : ℕ) (cs : List PlacedStretch)
    (specs : List Spec) (e last : Entry) → TextsApart g → AreColumns specs → ColumnsClear g h old specs e.next → columns g h old specs e ≡ Ok last
    → Placed g.cells end last.next cs → Placed g.cells end e.next (pending_stretches g m places h.width e.text last.text ++ cs)
columns-placed g m old h places end cs [] e last apart plain clear is s =
    let same : e ≡ last = entry-same e last is in
    let none : pending_stretches g m places h.width e.text last.text ≡ [] =
    ap (λ (x : Entry). pending_stretches g m places h.width e.text x.text) (sym same) ∙ pending-same g m places h.width e.text in
    let next : e.next ≡ last.next = ap (λ (x : Entry). x.next) same in
    subst (λ (ds : List PlacedStretch). Placed g.cells end e.next (ds ++ cs)) (sym none) (placed-before g.cells end last.next e.next cs (omega (arith, next)) s)
columns-placed g m old h places end cs (spec ∷ specs) e last apart plain clear is s =
    let step = column-step g h old spec specs e last is in
    let what = column-is g h old spec e.next step.column step.is in
    let here = clear step.column step.is in
    by_takes (takes (spec.name == DW_LNCT_path) e.text step.column.text) step.column refl what here.0 (column-place g h old spec e.next step.column plain.0 what).0 step.rest
    (columns-placed g m old h places end cs specs (with_column spec e step.column) last apart plain.1 here.1 step.rest s)
  where
    by_takes : (b : Bool) → (c : Column) → takes (spec.name == DW_LNCT_path) e.text c.text ≡ b → ColumnIs g h old spec e.next c → Clear g.cells (clear_from spec e.next) c.next
        → e.next ≤ c.next → columns g h old specs (with_column spec e c) ≡ Ok last
        → Placed g.cells end c.next (pending_stretches g m places h.width (text_with (spec.name == DW_LNCT_path) e.text c.text) last.text ++ cs)
        → Placed g.cells end e.next (pending_stretches g m places h.width e.text last.text ++ cs)
    by_takes false c none what here behind rest f =
        placed-before g.cells end c.next e.next (pending_stretches g m places h.width e.text last.text ++ cs) behind
        (subst (λ (ds : List PlacedStretch). Placed g.cells end c.next (ds ++ cs)) (pending-kept g m places h.width (spec.name == DW_LNCT_path) e.text c.text last.text none) f)
    by_takes true c some what here behind rest f =
        let t = takes-path (spec.name == DW_LNCT_path) e.text c.text some in
        let text : text_with (spec.name == DW_LNCT_path) e.text c.text ≡ Some t.text = first-taken (spec.name == DW_LNCT_path) e.text c.text t in
        let end_text : last.text ≡ Some t.text = columns-keep g h old specs (with_column spec e c) last t.text rest text in
        let bare : Placed g.cells end c.next cs =
        subst (λ (o : Option TextPlace). Placed g.cells end c.next (pending_stretches g m places h.width o last.text ++ cs)) text f in
        let whole : pending_stretches g m places h.width e.text last.text ≡ path_stretches g m places h.width t.text =
        ap (λ (o : Option TextPlace). pending_stretches g m places h.width o last.text) t.none ∙ ap (pending_stretches g m places h.width None) end_text in
        subst (λ (ds : List PlacedStretch). Placed g.cells end e.next (ds ++ cs)) (sym whole)
        (column-placed g m old h places end cs spec e.next c t.text apart what t.is here bare)

-- of an entry, and of entries
file-placed : (g : LineSource) (m : PathMap) (old : List ℕ) (h : LineHeader) (places : TextPlace → Option ℕ) (end : ℕ) (cs : List PlacedStretch)
    (specs : List Spec) (p : ℕ) (f : FilePlace) (next : ℕ) → TextsApart g → AreColumns specs → ColumnsClear g h old specs p
    → entry_at g h old specs p ≡ Ok (f, next) → Placed g.cells end next cs → Placed g.cells end p (path_stretches g m places h.width f.text ++ cs)
file-placed g m old h places end cs specs p f next apart plain clear e s =
    let x = entry-is g h old specs p f next e in
    subst (λ (o : Option TextPlace). Placed g.cells end p (pending_stretches g m places h.width None o ++ cs)) x.text
    (columns-placed g m old h places end cs specs (record { text = None; dir = None; next = p }) x.last apart plain clear x.columns_are
    (subst (λ (i : ℕ). Placed g.cells end i cs) (sym x.behind) s))

files-placed : (g : LineSource) (m : PathMap) (old : List ℕ) (h : LineHeader) (places : TextPlace → Option ℕ) (end : ℕ) (cs : List PlacedStretch)
    (specs : List Spec) (p e : ℕ) (fs : List FilePlace) → TextsApart g → AreColumns specs → EntriesClear g h old specs (length fs) p
    → NewFiles g h old specs p fs e → Placed g.cells end e cs → Placed g.cells end p (all_path_stretches g m places h.width (texts_of fs) ++ cs)
files-placed g m old h places end cs specs p e [] apart plain clear are s = subst (λ (i : ℕ). Placed g.cells end i cs) (sym are) s
files-placed g m old h places end cs specs p e (f ∷ fs) apart plain clear are s =
    subst (Placed g.cells end p) (sym (append_assoc (path_stretches g m places h.width f.text) (all_path_stretches g m places h.width (texts_of fs)) cs))
    (file-placed g m old h places end (all_path_stretches g m places h.width (texts_of fs) ++ cs) specs p f are.0.next apart plain clear.0 are.0.entry
    (files-placed g m old h places end cs specs are.0.next e fs apart plain (clear.1 f are.0.next are.0.entry) are.1 s))

list-placed : (g : LineSource) (m : PathMap) (old : List ℕ) (h : LineHeader) (places : TextPlace → Option ℕ) (end : ℕ) (cs : List PlacedStretch)
    (p e : ℕ) (fs : List FilePlace) → TextsApart g → ListClear g h old p → entries_at g h old p ≡ Ok (fs, e) → Placed g.cells end e cs
    → Placed g.cells end p (all_path_stretches g m places h.width (texts_of fs) ++ cs)
list-placed g m old h places end cs p e fs apart clear is s =
    let x = list-is g h old p fs e is in
    let f = format-place old p x.format x.format_is in
    let front = f.0 in
    placed-before g.cells end (x.format.1 + x.count.1) p (all_path_stretches g m places h.width (texts_of fs) ++ cs) (omega (arith, front))
    (files-placed g m old h places end cs x.format.0 (x.format.1 + x.count.1) e fs apart f.2
    (subst (λ (n : ℕ). EntriesClear g h old x.format.0 n (x.format.1 + x.count.1)) (sym x.number) (clear.entries x.format x.count x.format_is x.count_is)) x.are s)

-- before version 5
dirs-placed : (g : LineSource) (m : PathMap) (old : List ℕ) (places : TextPlace → Option ℕ) (w : Width) (end : ℕ) (cs : List PlacedStretch) (p e : ℕ)
    (ts : List TextPlace) → OldDirs g.number old p ts e → Clear g.cells p e → Placed g.cells end e cs → Placed g.cells end p (all_path_stretches g m places w ts ++ cs)
dirs-placed g m old places w end cs p e [] d clear s =
    let last = d.3 in
    placed-before g.cells end e p cs (omega (arith, last)) s
dirs-placed g m old places w end cs p e (t ∷ ts) d clear s =
    let both = inline-inside g.number old p t d.0 in
    let rest = dirs-placed g m old places w end cs (p + t.len + 1) e ts d.2 (clear-part g.cells p e (p + t.len + 1) e clear (omega arith) (omega arith)) s in
    let behind = dirs-behind g.number old (p + t.len + 1) e ts d.2 in
    subst (Placed g.cells end p) (sym (append_assoc (path_stretches g m places w t) (all_path_stretches g m places w ts) cs))
    (inline-placed g m places w end (all_path_stretches g m places w ts ++ cs) p (p + t.len + 1) t (ap (λ (x : TextPlace). x.section) both.1) (ap (λ (x : TextPlace). x.at) both.1)
    (omega arith) (clear-part g.cells p e p (p + t.len + 1) clear (omega arith) behind) rest)

old-placed : (g : LineSource) (m : PathMap) (old : List ℕ) (places : TextPlace → Option ℕ) (w : Width) (end : ℕ) (cs : List PlacedStretch) (p e : ℕ)
    (fs : List FilePlace) → OldFiles g.number old p fs e → Clear g.cells p e → Placed g.cells end e cs → Placed g.cells end p (all_path_stretches g m places w (texts_of fs) ++ cs)
old-placed g m old places w end cs p e [] d clear s =
    let last = d.3 in
    placed-before g.cells end e p cs (omega (arith, last)) s
old-placed g m old places w end cs p e (f ∷ fs) d clear s =
    let both = inline-inside g.number old p f.text d.0.text in
    let place = (file-place g old p f d.0).1 in
    let behind = old-behind g old d.0.next e fs d.1 in
    let rest = old-placed g m old places w end cs d.0.next e fs d.1 (clear-part g.cells p e d.0.next e clear (omega (arith, place)) (omega arith)) s in
    subst (Placed g.cells end p) (sym (append_assoc (path_stretches g m places w f.text) (all_path_stretches g m places w (texts_of fs)) cs))
    (inline-placed g m places w end (all_path_stretches g m places w (texts_of fs) ++ cs) p d.0.next f.text (ap (λ (x : TextPlace). x.section) both.1)
    (ap (λ (x : TextPlace). x.at) both.1) (omega (arith, place)) (clear-part g.cells p e p d.0.next clear (omega arith) behind) rest)

-- the lists of a table
stretches-append : (g : LineSource) (m : PathMap) (places : TextPlace → Option ℕ) (w : Width) (xs ys : List TextPlace)
    → all_path_stretches g m places w (xs ++ ys) ≡ all_path_stretches g m places w xs ++ all_path_stretches g m places w ys
stretches-append g m places w [] ys = refl
stretches-append g m places w (x ∷ xs) ys =
    ap (λ (cs : List PlacedStretch). path_stretches g m places w x ++ cs) (stretches-append g m places w xs ys)
    ∙ sym (append_assoc (path_stretches g m places w x) (all_path_stretches g m places w xs) (all_path_stretches g m places w ys))

pub lists-placed : (g : LineSource) (m : PathMap) (places : TextPlace → Option ℕ) (r : LineReading) (ds : List TextPlace) (fs : List FilePlace) (e : ℕ)
    → e ≡ r.behind → TextsApart g → TableClear g r → HasLists g r.header (table_bytes g r.header) ds fs e → e ≤ r.header.program
    → Placed g.cells r.header.program r.header.lists (all_path_stretches g m places r.header.width (ds ++ texts_of fs))
lists-placed g m places r ds fs e same apart clear (old_lists dirs files place behind other d f) le =
    let d0 = dirs-of g.number (table_bytes g r.header) r.header.lists place dirs d in
    let f0 = files-of g.number (table_bytes g r.header) place behind files f in
    let front = dirs-behind g.number (table_bytes g r.header) r.header.lists place dirs d0 in
    let back = old-behind g (table_bytes g r.header) place behind files f0 in
    let whole : Clear g.cells r.header.lists behind = subst (Clear g.cells r.header.lists) (sym same) (clear.lists.old other) in
    let second : Placed g.cells r.header.program place (all_path_stretches g m places r.header.width (texts_of files) ++ []) =
    old-placed g m (table_bytes g r.header) places r.header.width r.header.program [] place behind files f0
    (clear-part g.cells r.header.lists behind place behind whole front (omega arith)) le in
    let first = dirs-placed g m (table_bytes g r.header) places r.header.width r.header.program (all_path_stretches g m places r.header.width (texts_of files) ++ []) r.header.lists place dirs d0
    (clear-part g.cells r.header.lists behind r.header.lists place whole (omega arith) back) second in
    subst (Placed g.cells r.header.program r.header.lists)
    (ap (λ (cs : List PlacedStretch). all_path_stretches g m places r.header.width dirs ++ cs) (append-nil (all_path_stretches g m places r.header.width (texts_of files)))
    ∙ sym (stretches-append g m places r.header.width dirs (texts_of files))) first
lists-placed g m places r ds fs e same apart clear (new_lists dirs files place behind five d f) le =
    let end : list_end g r.header (table_bytes g r.header) r.header.lists ≡ place = ap (place_behind r.header.lists) d in
    let second : Placed g.cells r.header.program place (all_path_stretches g m places r.header.width (texts_of files) ++ []) =
    list-placed g m (table_bytes g r.header) r.header places r.header.program [] place behind files apart
    (subst (ListClear g r.header (table_bytes g r.header)) end (clear.lists.files five)) f le in
    let first = list-placed g m (table_bytes g r.header) r.header places r.header.program (all_path_stretches g m places r.header.width (texts_of files) ++ []) r.header.lists place dirs
    apart (clear.lists.dirs five) d second in
    subst (Placed g.cells r.header.program r.header.lists)
    (ap (λ (cs : List PlacedStretch). all_path_stretches g m places r.header.width (texts_of dirs) ++ cs) (append-nil (all_path_stretches g m places r.header.width (texts_of files)))
    ∙ sym (stretches-append g m places r.header.width (texts_of dirs) (texts_of files))) first

pub texts-apart : (g : LineSource) (r : LineReading) (rs : List LineReading) → TablesApart g (r ∷ rs) → TextsApart g
texts-apart g r rs h = record { other = by_section }
  where
    by_section : (z : TextSection) → ((texts_in g z).number == g.number) ≡ false
    by_section InStr = ne_eqb g.str.number g.number (λ e. h.0 (sym e))
    by_section InLineStr = ne_eqb g.line_str.number g.number (λ e. h.1 (sym e))

-- a length, what stands before the length of a header, that length, the header, and the rest
pub whole-stretched : (g : LineSource) (start n hl w program end : ℕ) (length_is number_is : List ℕ) (header : List Stretch) (cells : List Cell) → start + n ≤ hl → program ≤ end
    → Clear g.cells start (start + n) → Clear g.cells hl (hl + w) → StretchesAre g.cells (hl + w) header → stretches_end (hl + w) header ≡ program
    → stretches_after g.order g.cells (hl + w) header ≡ cells
    → StretchedTo g.order g.cells start end (other_stretch n length_is ∷ kept_stretch (hl - (start + n)) ∷ other_stretch w number_is ∷ (header ++ kept_stretch (end - program) ∷ []))
    (plain_cells length_is ++ ((cells_part g.cells (start + n) hl ++ (plain_cells number_is ++ cells)) ++ cells_part g.cells program end))
whole-stretched g start n hl w program end length_is number_is header cells le last a b are ends same =
    let at : hl ≡ start + n + (hl - (start + n)) = omega (arith, le) in
    let behind : program + (end - program) ≡ end = omega (arith, last) in
    record {
      are = (
        a,
        (
          tt,
          subst (λ (i : ℕ). Clear g.cells i (i + w) × StretchesAre g.cells (i + w) (header ++ kept_stretch (end - program) ∷ [])) at
              (b, are-append g.cells (hl + w) header (kept_stretch (end - program) ∷ []) are (tt, tt)),
        ),
      );
      ends = ap (λ (i : ℕ). stretches_end (i + w) (header ++ kept_stretch (end - program) ∷ [])) (sym at) ∙ end-append (hl + w) header (kept_stretch (end - program) ∷ [])
          ∙ ap (λ (i : ℕ). i + (end - program)) ends ∙ behind;
      cells = ap (λ (l : List Cell). plain_cells length_is ++ l)
          (ap (λ (i : ℕ). cells_part g.cells (start + n) hl ++ (plain_cells number_is ++ stretches_after g.order g.cells (i + w) (header ++ kept_stretch (end - program) ∷ []))) (sym at)
          ∙ ap (λ (l : List Cell). cells_part g.cells (start + n) hl ++ (plain_cells number_is ++ l))
          (after-append g.order g.cells (hl + w) header (kept_stretch (end - program) ∷ [])
          ∙ ap (λ (l : List Cell). l ++ stretches_after g.order g.cells (stretches_end (hl + w) header) (kept_stretch (end - program) ∷ [])) same
          ∙ ap (λ (i : ℕ). cells ++ stretches_after g.order g.cells i (kept_stretch (end - program) ∷ [])) ends
          ∙ ap (λ (l : List Cell). cells ++ l) (append-nil (cells_part g.cells program end)))
          ∙ ap (λ (l : List Cell). cells_part g.cells (start + n) hl ++ l) (sym (append_assoc (plain_cells number_is) cells (cells_part g.cells program end)))
          ∙ sym (append_assoc (cells_part g.cells (start + n) hl) (plain_cells number_is ++ cells) (cells_part g.cells program end)));
    }
