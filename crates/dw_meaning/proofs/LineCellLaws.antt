-- The cells of a new line table: their bytes are those that are written, and where no relocation begins in the section of line tables, none begins in them.
use Rattle.std.proofs.Common.{Bool, true, false, ◌≡◌, ℕ, ◌+◌, ◌-◌, ◌≤◌, ◌==◌, if◌then◌else◌, List, [], ◌∷◌, ◌++◌, length, take, drop, Option, None, Some, refl, sym, ap, ◌∙◌, subst, arith, take-add, append_assoc}
use Rattle.std.specs.Bool.{⊤}
use Rattle.std.proofs.lemmas.List.{drop-drop}
use Rattle.dw_base.specs.Cells.{Cell, bytes_of, cells_at, plain_cells}
use Rattle.dw_base.specs.Forms.{width_size}
use Rattle.dw_base.specs.LineSources.{LineSource}
use Rattle.dw_base.specs.LineTables.{LineTable}
use Rattle.dw_base.specs.Numbers.{number_bytes}
use Rattle.dw_base.specs.Paths.{PathMap, mapped_path}
use Rattle.dw_base.specs.WrittenLines.{Change, all_changes, bytes_at, cells_part, changed, header_length_place, length_size, offset_changes, part, path_changes}
use Rattle.dw_base.specs.declared.line_tables.TextPlace.{TextPlace}
use Rattle.dw_base.specs.declared.shared.Order.{Order}
use Rattle.dw_base.specs.declared.shared.Width.{Width}
use Rattle.dw_base.proofs.LineFieldLaws.{cells_at-plain}
use Rattle.dw_base.proofs.PlainCellLaws.{IsPlain, bytes_of-plain, plain-append, plain_cells-plain, with_offset-is}
use Rattle.dw_base.proofs.RelocationFieldLaws.{bytes_of-drop, bytes_of-take}
use Rattle.dw_base.proofs.UnitEditLaws.{length-bytes_of}
use Rattle.dw_base.proofs.UnitHeaderLaws.{bytes_of-append}
use Rattle.dw_meaning.specs.LineCells.{CellChange, all_path_cells, changed_cells, inline_cells, offset_cells, path_cells, rest_cells}

-- parts one after another
pub cells-split : (cells : List Cell) (a b c : ℕ) → a ≤ b → b ≤ c → cells_part cells a c ≡ cells_part cells a b ++ cells_part cells b c
cells-split cells a b c ab bc =
    let size : c - a ≡ (b - a) + (c - b) = omega (arith, ab, bc) in
    let at : a + (b - a) ≡ b = omega (arith, ab) in
    ap (λ (n : ℕ). take n (drop a cells)) size ∙ take-add (b - a) (c - b) (drop a cells)
    ∙ ap (λ (xs : List Cell). cells_part cells a b ++ take (c - b) xs) (drop-drop (b - a) a cells ∙ ap (λ (n : ℕ). drop n cells) at)

-- the bytes of parts
at-bytes : (cells : List Cell) (at n : ℕ) → bytes_of (cells_at cells at n) ≡ bytes_at (bytes_of cells) at n
at-bytes cells at n = bytes_of-take n (drop at cells) ∙ ap (take n) (bytes_of-drop at cells)

pub part-bytes : (cells : List Cell) (from end : ℕ) → bytes_of (cells_part cells from end) ≡ part (bytes_of cells) from end
part-bytes cells from end = bytes_of-take (end - from) (drop from cells) ∙ ap (take (end - from)) (bytes_of-drop from cells)

-- changes of cells are these changes of bytes
pub record SameChange (c : CellChange) (b : Change) : Type 0 where
  pub at : c.at ≡ b.at
  pub old : c.old ≡ length b.old
  pub new : bytes_of c.new ≡ b.new

abbrev pub SameChanges : List CellChange → List Change → Type 0
SameChanges [] [] = ⊤
SameChanges [] (b ∷ bs) = ⊥
SameChanges (c ∷ cs) [] = ⊥
SameChanges (c ∷ cs) (b ∷ bs) = SameChange c b × SameChanges cs bs

pub same-append : (xs us : List CellChange) (ys vs : List Change) → SameChanges xs ys → SameChanges us vs → SameChanges (xs ++ us) (ys ++ vs)
same-append [] us [] vs h k = k
same-append [] us (y ∷ ys) vs h k = absurd h
same-append (x ∷ xs) us [] vs h k = absurd h
same-append (x ∷ xs) us (y ∷ ys) vs h k = (h.0, same-append xs us ys vs h.1 k)

pub changed-bytes : (cells : List Cell) (from end : ℕ) (cs : List CellChange) (bs : List Change) → SameChanges cs bs
    → bytes_of (changed_cells cells from end cs) ≡ changed (bytes_of cells) from end bs
changed-bytes cells from end [] [] h = part-bytes cells from end
changed-bytes cells from end [] (b ∷ bs) h = absurd h
changed-bytes cells from end (c ∷ cs) [] h = absurd h
changed-bytes cells from end (c ∷ cs) (b ∷ bs) h =
    bytes_of-append (cells_part cells from c.at) (c.new ++ changed_cells cells (c.at + c.old) end cs)
    ∙ ap (λ (x : List ℕ). x ++ bytes_of (c.new ++ changed_cells cells (c.at + c.old) end cs))
    (part-bytes cells from c.at ∙ ap (part (bytes_of cells) from) h.0.at)
    ∙ ap (λ (x : List ℕ). part (bytes_of cells) from b.at ++ x)
    (bytes_of-append c.new (changed_cells cells (c.at + c.old) end cs)
    ∙ ap (λ (x : List ℕ). x ++ bytes_of (changed_cells cells (c.at + c.old) end cs)) h.0.new
    ∙ ap (λ (x : List ℕ). b.new ++ x)
    (changed-bytes cells (c.at + c.old) end cs bs h.1
    ∙ ap (λ (i : ℕ). changed (bytes_of cells) (i + c.old) end bs) h.0.at ∙ ap (λ (i : ℕ). changed (bytes_of cells) (b.at + i) end bs) h.0.old))

-- what becomes of an offset, and of a path
pub offset-bytes : (g : LineSource) (width : Width) (field : ℕ) (o : Option ℕ) → bytes_of g.cells ≡ g.bytes
    → SameChanges (offset_cells g.order width g.cells field o) (offset_changes g.order width g.bytes g.cells field o)
offset-bytes g width field None own = tt
offset-bytes g width field (Some place) own = (
  record {
    at = refl;
    old = sym (length-bytes_of (cells_at g.cells field (width_size width)))
        ∙ ap length (at-bytes g.cells field (width_size width) ∙ ap (λ (bs : List ℕ). bytes_at bs field (width_size width)) own);
    new = refl;
  },
  tt,
)

pub path-bytes : (g : LineSource) (m : PathMap) (places : TextPlace → Option ℕ) (width : Width) (x : TextPlace) → bytes_of g.cells ≡ g.bytes
    → SameChanges (path_cells g m places width x) (path_changes g m places width x)
path-bytes g m places width x own = by_section (x.section == g.number)
  where
    at : (place n : ℕ) → bytes_of (cells_at g.cells place n) ≡ bytes_at g.bytes place n
    at place n = at-bytes g.cells place n ∙ ap (λ (bs : List ℕ). bytes_at bs place n) own

    by_section : (b : Bool) → SameChanges (if b then inline_cells m g.cells x ∷ [] else offset_cells g.order width g.cells x.field (places x))
        (if b then record { at = x.at; old = bytes_at g.bytes x.at x.len; new = mapped_path m (bytes_at g.bytes x.at x.len) } ∷ []
        else offset_changes g.order width g.bytes g.cells x.field (places x))
    by_section true = (
      record {
        at = refl;
        old = sym (length-bytes_of (cells_at g.cells x.at x.len)) ∙ ap length (at x.at x.len);
        new = bytes_of-plain (mapped_path m (bytes_of (cells_at g.cells x.at x.len))) ∙ ap (mapped_path m) (at x.at x.len);
      },
      tt,
    )
    by_section false = offset-bytes g width x.field (places x) own

pub paths-bytes : (g : LineSource) (m : PathMap) (places : TextPlace → Option ℕ) (width : Width) (xs : List TextPlace) → bytes_of g.cells ≡ g.bytes
    → SameChanges (all_path_cells g m places width xs) (all_changes g m places width xs)
paths-bytes g m places width [] own = tt
paths-bytes g m places width (x ∷ xs) own =
    same-append (path_cells g m places width x) (all_path_cells g m places width xs) (path_changes g m places width x) (all_changes g m places width xs)
    (path-bytes g m places width x own) (paths-bytes g m places width xs own)

-- of lists one behind another
pub cells-append : (g : LineSource) (m : PathMap) (places : TextPlace → Option ℕ) (w : Width) (xs ys : List TextPlace)
    → all_path_cells g m places w (xs ++ ys) ≡ all_path_cells g m places w xs ++ all_path_cells g m places w ys
cells-append g m places w [] ys = refl
cells-append g m places w (x ∷ xs) ys =
    ap (λ (cs : List CellChange). path_cells g m places w x ++ cs) (cells-append g m places w xs ys)
    ∙ sym (append_assoc (path_cells g m places w x) (all_path_cells g m places w xs) (all_path_cells g m places w ys))

-- a number in front of cells
number-bytes : (order : Order) (size : ℕ) (cells : List Cell) (bytes : List ℕ) → bytes_of cells ≡ bytes
    → bytes_of (plain_cells (number_bytes order size (length cells)) ++ cells) ≡ number_bytes order size (length bytes) ++ bytes
number-bytes order size cells bytes is =
    bytes_of-append (plain_cells (number_bytes order size (length cells))) cells
    ∙ ap (λ (x : List ℕ). x ++ bytes_of cells) (bytes_of-plain (number_bytes order size (length cells)))
    ∙ ap (λ (n : ℕ). number_bytes order size n ++ bytes_of cells) (sym (length-bytes_of cells))
    ∙ ap (λ (x : List ℕ). number_bytes order size (length x) ++ x) is

pub rest-bytes : (g : LineSource) (t : LineTable) (header : List Cell) (bytes : List ℕ) → bytes_of g.cells ≡ g.bytes → bytes_of header ≡ bytes
    → bytes_of (rest_cells g t header)
    ≡ part g.bytes (t.start + length_size t.width) (header_length_place t.start t.width t.version)
    ++ (number_bytes g.order (width_size t.width) (length bytes) ++ bytes) ++ part g.bytes t.program t.end
rest-bytes g t header bytes own is =
    let front : List Cell = cells_part g.cells (t.start + length_size t.width) (header_length_place t.start t.width t.version) in
    let middle : List Cell = plain_cells (number_bytes g.order (width_size t.width) (length header)) ++ header in
    joined-bytes (cells_part g.cells (t.start + length_size t.width) (header_length_place t.start t.width t.version))
    (plain_cells (number_bytes g.order (width_size t.width) (length header)) ++ header) (cells_part g.cells t.program t.end)
    (part g.bytes (t.start + length_size t.width) (header_length_place t.start t.width t.version))
    (number_bytes g.order (width_size t.width) (length bytes) ++ bytes) (part g.bytes t.program t.end)
    (own-part (t.start + length_size t.width) (header_length_place t.start t.width t.version)) (number-bytes g.order (width_size t.width) header bytes is)
    (own-part t.program t.end)
  where
    own-part : (from end : ℕ) → bytes_of (cells_part g.cells from end) ≡ part g.bytes from end
    own-part from end = part-bytes g.cells from end ∙ ap (λ (bs : List ℕ). part bs from end) own

    joined-bytes : (p q r : List Cell) (a b c : List ℕ) → bytes_of p ≡ a → bytes_of q ≡ b → bytes_of r ≡ c → bytes_of (p ++ q ++ r) ≡ a ++ b ++ c
    joined-bytes p q r a b c e f k =
        bytes_of-append (p ++ q) r ∙ ap (λ (x : List ℕ). x ++ bytes_of r) (bytes_of-append p q) ∙ rw (e, f, k) refl

-- where no relocation begins in the section
part-is : (cells : List Cell) (from end : ℕ) → IsPlain cells → IsPlain (cells_part cells from end)
part-is cells from end plain = cells_at-plain cells from (end - from) plain

abbrev pub EachPlain : List CellChange → Type 0
EachPlain [] = ⊤
EachPlain (c ∷ cs) = IsPlain c.new × EachPlain cs

pub plains-append : (xs ys : List CellChange) → EachPlain xs → EachPlain ys → EachPlain (xs ++ ys)
plains-append [] ys h k = k
plains-append (x ∷ xs) ys h k = (h.0, plains-append xs ys h.1 k)

pub changed-is : (cells : List Cell) (from end : ℕ) (cs : List CellChange) → IsPlain cells → EachPlain cs → IsPlain (changed_cells cells from end cs)
changed-is cells from end [] plain h = part-is cells from end plain
changed-is cells from end (c ∷ cs) plain h =
    plain-append (cells_part cells from c.at) (c.new ++ changed_cells cells (c.at + c.old) end cs) (part-is cells from c.at plain)
    (plain-append c.new (changed_cells cells (c.at + c.old) end cs) h.0 (changed-is cells (c.at + c.old) end cs plain h.1))

pub offset-is : (g : LineSource) (width : Width) (field : ℕ) (o : Option ℕ) → IsPlain g.cells → EachPlain (offset_cells g.order width g.cells field o)
offset-is g width field None plain = tt
offset-is g width field (Some place) plain = (
  subst IsPlain (sym (with_offset-is g.order (cells_at g.cells field (width_size width)) place (cells_at-plain g.cells field (width_size width) plain)))
      (plain_cells-plain (number_bytes g.order (length (cells_at g.cells field (width_size width))) place)),
  tt,
)

pub path-is : (g : LineSource) (m : PathMap) (places : TextPlace → Option ℕ) (width : Width) (x : TextPlace) → IsPlain g.cells → EachPlain (path_cells g m places width x)
path-is g m places width x plain = by_section (x.section == g.number)
  where
    by_section : (b : Bool) → EachPlain (if b then inline_cells m g.cells x ∷ [] else offset_cells g.order width g.cells x.field (places x))
    by_section true = (plain_cells-plain (mapped_path m (bytes_of (cells_at g.cells x.at x.len))), tt)
    by_section false = offset-is g width x.field (places x) plain

pub rest-is : (g : LineSource) (t : LineTable) (header : List Cell) → IsPlain g.cells → IsPlain header → IsPlain (rest_cells g t header)
rest-is g t header plain h =
    plain-append
    (cells_part g.cells (t.start + length_size t.width) (header_length_place t.start t.width t.version)
    ++ (plain_cells (number_bytes g.order (width_size t.width) (length header)) ++ header)) (cells_part g.cells t.program t.end)
    (plain-append (cells_part g.cells (t.start + length_size t.width) (header_length_place t.start t.width t.version))
    (plain_cells (number_bytes g.order (width_size t.width) (length header)) ++ header)
    (part-is g.cells (t.start + length_size t.width) (header_length_place t.start t.width t.version) plain)
    (plain-append (plain_cells (number_bytes g.order (width_size t.width) (length header))) header
    (plain_cells-plain (number_bytes g.order (width_size t.width) (length header))) h))
    (part-is g.cells t.program t.end plain)
