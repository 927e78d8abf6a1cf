-- Laws of the runs and offsets of texts, one behind another, and of what is passed on the way.
use Rattle.std.proofs.Common.{Bool, true, false, ◌≡◌, ◌≢◌, ℕ, zero, suc, ◌+◌, ◌-◌, ◌<◌, ◌≤◌, ◌^◌, ◌==◌, if◌then◌else◌, List, [], ◌∷◌, ◌++◌, length, take, drop, get_or, Option, Some, None, refl, sym, ap, ◌∙◌, subst, arith, append_assoc}
use Rattle.std.proofs.Math.Seq.{drop-cons}
use Rattle.std.proofs.lemmas.Bool.Decides.{nat_tests}
use Rattle.std.proofs.lemmas.List.{append-nil, drop_all}
use Rattle.dw_base.specs.Cells.{Cell, bytes_of, cells_at}
use Rattle.dw_base.specs.FileViews.{View, section_bytes, view_cells}
use Rattle.dw_base.specs.Forms.{width_size}
use Rattle.dw_base.specs.LineSources.{LineSource}
use Rattle.dw_base.specs.Paths.{PathMap, mapped_path}
use Rattle.dw_base.specs.WrittenLines.{bytes_at}
use Rattle.dw_base.specs.declared.line_tables.LineText.{LineText}
use Rattle.dw_base.specs.declared.line_tables.TextPlace.{TextPlace}
use Rattle.dw_base.specs.declared.shared.Width.{Width}
use Rattle.dw_base.specs.declared.shared.Width.TheVariants.{W32, W64}
use Rattle.dw_base.proofs.ViewCellLaws.{bytes_of-view_cells}
use Rattle.dw_meaning.specs.LineStretches.{PlacedStretch, inline_stretch, offset_stretches, stretch_size}
use Rattle.dw_meaning.specs.TextLineCells.{text_stretches, texts_stretches}
use Rattle.elf_relocs.specs.declared.runs.Run.{Run}
use Rattle.dw_lines.specs.TableMoves.{InOrder, behind_placed, kept_run, passed, passed_runs, placed_offsets, placed_runs, stretch_offset}
use Rattle.dw_lines.specs.ViewSources.{view_source}
use Rattle.dw_lines.specs.declared.moves.NewFieldOffset.{NewFieldOffset}

-- runs that are appended one after another
pub runs-appended : (a b c p n : List Run) → b ≡ a ++ p → c ≡ b ++ n → c ≡ a ++ (p ++ n)
runs-appended a b c p n f s = s ∙ ap (λ (xs : List Run). xs ++ n) f ∙ append_assoc a p n

pub ruleset field_laws = (runs-appended)

-- what becomes of a text
inline-is : (v : View) (section : ℕ) (m : PathMap) (places : LineText → Option ℕ) (w : Width) (x : LineText) → x.place.section ≡ section → x.path ≡ true
    → text_stretches (view_source v section) m places w x ≡ inline_stretch m (view_cells v section) x.place ∷ []
inline-is v section m places w x own path =
    let test : (x.place.section == section) ≡ true = grind (arith, nat_tests, own) in
    rw (path, test) refl

stays-is : (v : View) (section : ℕ) (m : PathMap) (places : LineText → Option ℕ) (w : Width) (x : LineText) → x.place.section ≡ section → x.path ≡ false
    → text_stretches (view_source v section) m places w x ≡ []
stays-is v section m places w x own further =
    let test : (x.place.section == section) ≡ true = grind (arith, nat_tests, own) in
    rw (further, test) refl

offset-is : (v : View) (section : ℕ) (m : PathMap) (places : LineText → Option ℕ) (w : Width) (x : LineText) (o : Option ℕ) → x.place.section ≢ section → o ≡ places x
    → text_stretches (view_source v section) m places w x ≡ offset_stretches w x.place.field o
offset-is v section m places w x o other is = by_path x.path ∙ ap (offset_stretches w x.place.field) (sym is)
  where
    test : (x.place.section == section) ≡ false
    test = grind (arith, nat_tests, other)

    by_path : (b : Bool) → text_stretches (view_source v section) m places w (record { place = x.place; path = b })
        ≡ offset_stretches w x.place.field (places (record { place = x.place; path = b }))
    by_path true =
        ap (λ (b : Bool). if b then inline_stretch m (view_cells v section) x.place ∷ [] else offset_stretches w x.place.field (places (record { place = x.place; path = true }))) test
    by_path false =
        ap (λ (b : Bool). if b then [] else offset_stretches w x.place.field (places (record { place = x.place; path = false }))) test

-- the bytes of a path that stands in the table
at-bytes : (cells : List Cell) (at n : ℕ) → bytes_of (cells_at cells at n) ≡ bytes_at (bytes_of cells) at n
at-bytes cells zero n = front cells n
  where
    front : (cs : List Cell) (k : ℕ) → bytes_of (take k cs) ≡ take k (bytes_of cs)
    front cs zero = refl
    front [] (suc k) = refl
    front (c ∷ cs) (suc k) = ap (λ (bs : List ℕ). c.byte ∷ bs) (front cs k)
at-bytes [] (suc at) n = none n
  where
    none : (k : ℕ) → bytes_of (take k []) ≡ take k []
    none zero = refl
    none (suc k) = refl
at-bytes (c ∷ cells) (suc at) n = at-bytes cells at n

mapped-length : (v : View) (section : ℕ) (m : PathMap) (x : TextPlace) (bytes old : List ℕ) (n : ℕ) → bytes ≡ section_bytes v section → old ≡ bytes_at bytes x.at x.len
    → n ≡ length (mapped_path m old) → n ≡ length (mapped_path m (bytes_of (cells_at (view_cells v section) x.at x.len)))
mapped-length v section m x bytes old n b o is =
    is ∙ ap (λ (bs : List ℕ). length (mapped_path m bs)) (o ∙ ap (λ (bs : List ℕ). bytes_at bs x.at x.len) (b ∙ sym (bytes_of-view_cells v section))
    ∙ sym (at-bytes (view_cells v section) x.at x.len))

pub inline-order : (v : View) (section : ℕ) (m : PathMap) (places : LineText → Option ℕ) (w : Width) (x : LineText) (from end : ℕ) → x.place.section ≡ section → x.path ≡ true
    → InOrder from end (text_stretches (view_source v section) m places w x) → from ≤ x.place.at
inline-order v section m places w x from end own path h = (subst (InOrder from end) (inline-is v section m places w x own path) h).0

pub inline-near : (v : View) (section : ℕ) (m : PathMap) (places : LineText → Option ℕ) (w : Width) (x : LineText) (from end : ℕ) → x.place.section ≡ section → x.path ≡ true
    → InOrder from end (text_stretches (view_source v section) m places w x) → x.place.at + x.place.len ≤ end
inline-near v section m places w x from end own path h = (subst (InOrder from end) (inline-is v section m places w x own path) h).1

pub inline-fits : (v : View) (section : ℕ) (m : PathMap) (places : LineText → Option ℕ) (w : Width) (x : LineText) (s : Run) (bytes old : List ℕ) (n end : ℕ) → x.place.section ≡ section → x.path ≡ true
    → bytes ≡ section_bytes v section → old ≡ bytes_at bytes x.place.at x.place.len → n ≡ length (mapped_path m old)
    → (passed s (text_stretches (view_source v section) m places w x)).new < end → s.new + (x.place.at - s.old) + n < end
inline-fits v section m places w x s bytes old n end own path b o is h =
    let fits = subst (λ (cs : List PlacedStretch). (passed s cs).new < end) (inline-is v section m places w x own path) h in
    let size = mapped-length v section m x.place bytes old n b o is in
    omega (arith, fits, size)

pub inline-next : (v : View) (section : ℕ) (m : PathMap) (places : LineText → Option ℕ) (w : Width) (x : LineText) (s t : Run) (bytes old : List ℕ) (n : ℕ) → x.place.section ≡ section → x.path ≡ true
    → bytes ≡ section_bytes v section → old ≡ bytes_at bytes x.place.at x.place.len → n ≡ length (mapped_path m old)
    → t ≡ record { old = x.place.at + x.place.len; new = s.new + (x.place.at - s.old) + n } → t ≡ passed s (text_stretches (view_source v section) m places w x)
inline-next v section m places w x s t bytes old n own path b o is e =
    e ∙ ap (λ (k : ℕ). record { old = x.place.at + x.place.len; new = s.new + (x.place.at - s.old) + k }) (mapped-length v section m x.place bytes old n b o is)
    ∙ ap (passed s) (sym (inline-is v section m places w x own path))

pub inline-runs : (v : View) (section : ℕ) (m : PathMap) (places : LineText → Option ℕ) (w : Width) (x : LineText) (s : Run) (runs more : List Run) → x.place.section ≡ section → x.path ≡ true
    → more ≡ runs ++ kept_run s.old s.new (x.place.at - s.old) → more ≡ runs ++ passed_runs s (text_stretches (view_source v section) m places w x)
inline-runs v section m places w x s runs more own path e =
    e ∙ ap (λ (rs : List Run). runs ++ rs) (sym (append-nil (kept_run s.old s.new (x.place.at - s.old)))
    ∙ sym (append-nil (kept_run s.old s.new (x.place.at - s.old) ++ [])) ∙ ap (passed_runs s) (sym (inline-is v section m places w x own path)))

pub inline-offsets : (v : View) (section : ℕ) (m : PathMap) (places : LineText → Option ℕ) (w : Width) (x : LineText) (offsets : List NewFieldOffset) → x.place.section ≡ section → x.path ≡ true
    → offsets ≡ offsets ++ placed_offsets (text_stretches (view_source v section) m places w x)
inline-offsets v section m places w x offsets own path =
    sym (append-nil offsets) ∙ ap (λ (cs : List PlacedStretch). offsets ++ placed_offsets cs) (sym (inline-is v section m places w x own path))

-- one that stays, in the table or behind an offset
pub stays-next : (v : View) (section : ℕ) (m : PathMap) (places : LineText → Option ℕ) (w : Width) (x : LineText) (s : Run) → x.place.section ≡ section → x.path ≡ false
    → s ≡ passed s (text_stretches (view_source v section) m places w x)
stays-next v section m places w x s own further = ap (passed s) (sym (stays-is v section m places w x own further))

pub stays-runs : (v : View) (section : ℕ) (m : PathMap) (places : LineText → Option ℕ) (w : Width) (x : LineText) (s : Run) (runs : List Run) → x.place.section ≡ section → x.path ≡ false
    → runs ≡ runs ++ passed_runs s (text_stretches (view_source v section) m places w x)
stays-runs v section m places w x s runs own further =
    sym (append-nil runs) ∙ ap (λ (cs : List PlacedStretch). runs ++ passed_runs s cs) (sym (stays-is v section m places w x own further))

pub stays-offsets : (v : View) (section : ℕ) (m : PathMap) (places : LineText → Option ℕ) (w : Width) (x : LineText) (offsets : List NewFieldOffset) → x.place.section ≡ section → x.path ≡ false
    → offsets ≡ offsets ++ placed_offsets (text_stretches (view_source v section) m places w x)
stays-offsets v section m places w x offsets own further =
    sym (append-nil offsets) ∙ ap (λ (cs : List PlacedStretch). offsets ++ placed_offsets cs) (sym (stays-is v section m places w x own further))

pub none-next : (v : View) (section : ℕ) (m : PathMap) (places : LineText → Option ℕ) (w : Width) (x : LineText) (s : Run) → x.place.section ≢ section → None ≡ places x
    → s ≡ passed s (text_stretches (view_source v section) m places w x)
none-next v section m places w x s other is = ap (passed s) (sym (offset-is v section m places w x None other is))

pub none-runs : (v : View) (section : ℕ) (m : PathMap) (places : LineText → Option ℕ) (w : Width) (x : LineText) (s : Run) (runs : List Run) → x.place.section ≢ section → None ≡ places x
    → runs ≡ runs ++ passed_runs s (text_stretches (view_source v section) m places w x)
none-runs v section m places w x s runs other is =
    sym (append-nil runs) ∙ ap (λ (cs : List PlacedStretch). runs ++ passed_runs s cs) (sym (offset-is v section m places w x None other is))

pub none-offsets : (v : View) (section : ℕ) (m : PathMap) (places : LineText → Option ℕ) (w : Width) (x : LineText) (offsets : List NewFieldOffset) → x.place.section ≢ section → None ≡ places x
    → offsets ≡ offsets ++ placed_offsets (text_stretches (view_source v section) m places w x)
none-offsets v section m places w x offsets other is =
    sym (append-nil offsets) ∙ ap (λ (cs : List PlacedStretch). offsets ++ placed_offsets cs) (sym (offset-is v section m places w x None other is))

-- a field that gets an offset
pub offset-order : (v : View) (section : ℕ) (m : PathMap) (places : LineText → Option ℕ) (w : Width) (x : LineText) (from end to : ℕ) → x.place.section ≢ section → Some to ≡ places x
    → InOrder from end (text_stretches (view_source v section) m places w x) → from ≤ x.place.field
offset-order v section m places w x from end to other is h = (subst (InOrder from end) (offset-is v section m places w x (Some to) other is) h).0

pub offset-near : (v : View) (section : ℕ) (m : PathMap) (places : LineText → Option ℕ) (w : Width) (x : LineText) (from end to : ℕ) → x.place.section ≢ section → Some to ≡ places x
    → InOrder from end (text_stretches (view_source v section) m places w x) → x.place.field + width_size w ≤ end
offset-near v section m places w x from end to other is h = (subst (InOrder from end) (offset-is v section m places w x (Some to) other is) h).1

pub offset-fits : (v : View) (section : ℕ) (m : PathMap) (places : LineText → Option ℕ) (w : Width) (x : LineText) (s : Run) (end to : ℕ) → x.place.section ≢ section → Some to ≡ places x
    → (passed s (text_stretches (view_source v section) m places w x)).new < end → s.new + (x.place.field - s.old) + width_size w < end
offset-fits v section m places w x s end to other is h =
    subst (λ (cs : List PlacedStretch). (passed s cs).new < end) (offset-is v section m places w x (Some to) other is) h

pub offset-next : (v : View) (section : ℕ) (m : PathMap) (places : LineText → Option ℕ) (w : Width) (x : LineText) (s t : Run) (to : ℕ) → x.place.section ≢ section → Some to ≡ places x
    → t ≡ record { old = x.place.field + width_size w; new = s.new + (x.place.field - s.old) + width_size w } → t ≡ passed s (text_stretches (view_source v section) m places w x)
offset-next v section m places w x s t to other is e = e ∙ ap (passed s) (sym (offset-is v section m places w x (Some to) other is))

pub offset-runs : (v : View) (section : ℕ) (m : PathMap) (places : LineText → Option ℕ) (w : Width) (x : LineText) (s : Run) (runs more : List Run) (to : ℕ) → x.place.section ≢ section
    → Some to ≡ places x → more ≡ runs ++ (kept_run s.old s.new (x.place.field - s.old) ++ kept_run x.place.field (s.new + (x.place.field - s.old)) (width_size w))
    → more ≡ runs ++ passed_runs s (text_stretches (view_source v section) m places w x)
offset-runs v section m places w x s runs more to other is e =
    e ∙ ap (λ (rs : List Run). runs ++ rs)
    (sym (append-nil (kept_run s.old s.new (x.place.field - s.old) ++ kept_run x.place.field (s.new + (x.place.field - s.old)) (width_size w)))
    ∙ ap (passed_runs s) (sym (offset-is v section m places w x (Some to) other is)))

one-offset : (w : Width) (at to : ℕ) → placed_offsets (offset_stretches w at (Some to)) ≡ record { at = at; size = width_size w; offset = to } ∷ []
one-offset W32 at to = refl
one-offset W64 at to = refl

pub offset-offsets : (v : View) (section : ℕ) (m : PathMap) (places : LineText → Option ℕ) (w : Width) (x : LineText) (offsets more : List NewFieldOffset) (to : ℕ) → x.place.section ≢ section
    → Some to ≡ places x → more ≡ offsets ++ record { at = x.place.field; size = width_size w; offset = to } ∷ []
    → more ≡ offsets ++ placed_offsets (text_stretches (view_source v section) m places w x)
offset-offsets v section m places w x offsets more to other is e =
    e ∙ ap (λ (fs : List NewFieldOffset). offsets ++ fs) (sym (one-offset w x.place.field to) ∙ ap placed_offsets (sym (offset-is v section m places w x (Some to) other is)))

pub ruleset text_laws = (
  inline-order,
  inline-near,
  inline-fits,
  inline-next,
  inline-runs,
  inline-offsets,
  stays-next,
  stays-runs,
  stays-offsets,
  none-next,
  none-runs,
  none-offsets,
  offset-order,
  offset-near,
  offset-fits,
  offset-next,
  offset-runs,
  offset-offsets,
)

-- stretches one behind another
pub passed-append : (s : Run) (xs ys : List PlacedStretch) → passed s (xs ++ ys) ≡ passed (passed s xs) ys
passed-append s [] ys = refl
passed-append s (x ∷ xs) ys = passed-append (behind_placed s x) xs ys

pub runs-append : (s : Run) (xs ys : List PlacedStretch) → passed_runs s (xs ++ ys) ≡ passed_runs s xs ++ passed_runs (passed s xs) ys
runs-append s [] ys = refl
runs-append s (x ∷ xs) ys =
    ap (λ (rs : List Run). placed_runs s x ++ rs) (runs-append (behind_placed s x) xs ys)
    ∙ sym (append_assoc (placed_runs s x) (passed_runs (behind_placed s x) xs) (passed_runs (passed (behind_placed s x) xs) ys))

pub offsets-append : (xs ys : List PlacedStretch) → placed_offsets (xs ++ ys) ≡ placed_offsets xs ++ placed_offsets ys
offsets-append [] ys = refl
offsets-append (x ∷ xs) ys =
    ap (λ (fs : List NewFieldOffset). stretch_offset x.at x.stretch ++ fs) (offsets-append xs ys)
    ∙ sym (append_assoc (stretch_offset x.at x.stretch) (placed_offsets xs) (placed_offsets ys))

pub passed-behind : (s : Run) (xs : List PlacedStretch) → s.new ≤ (passed s xs).new
passed-behind s [] = omega arith
passed-behind s (x ∷ xs) =
    let more = passed-behind (behind_placed s x) xs in
    omega (arith, more)

pub order-end : (from end : ℕ) (s : Run) (xs : List PlacedStretch) → s.old ≡ from → InOrder from end xs → (passed s xs).old ≤ end
order-end from end s [] is h = omega (arith, is, h)
order-end from end s (x ∷ xs) is h = order-end (x.at + stretch_size x.stretch) end (behind_placed s x) xs refl h.1

order-front : (from end : ℕ) (s : Run) (xs ys : List PlacedStretch) → s.old ≡ from → InOrder from end (xs ++ ys) → InOrder from end xs
order-front from end s [] [] is h = h
order-front from end s [] (y ∷ ys) is h =
    order-start from end (y ∷ ys) h
  where
    order-start : (a b : ℕ) (cs : List PlacedStretch) → InOrder a b cs → a ≤ b
    order-start a b [] k = k
    order-start a b (c ∷ cs) k =
        let first = k.0 in
        let more = order-start (c.at + stretch_size c.stretch) b cs k.1 in
        omega (arith, first, more)
order-front from end s (x ∷ xs) ys is h = (h.0, order-front (x.at + stretch_size x.stretch) end (behind_placed s x) xs ys refl h.1)

order-rest : (from end : ℕ) (s : Run) (xs ys : List PlacedStretch) → s.old ≡ from → InOrder from end (xs ++ ys) → InOrder (passed s xs).old end ys
order-rest from end s [] ys is h = subst (λ (a : ℕ). InOrder a end ys) (sym is) h
order-rest from end s (x ∷ xs) ys is h = order-rest (x.at + stretch_size x.stretch) end (behind_placed s x) xs ys refl h.1

-- the texts that are left
left-step : (g : LineSource) (m : PathMap) (places : LineText → Option ℕ) (w : Width) (xs : List LineText) (i : ℕ) (d : LineText) → i < length xs
    → texts_stretches g m places w (drop i xs) ≡ text_stretches g m places w (get_or xs i d) ++ texts_stretches g m places w (drop (i + 1) xs)
left-step g m places w xs i d lt =
    let one : suc i ≡ i + 1 = omega arith in
    ap (texts_stretches g m places w) (drop-cons xs i d lt)
    ∙ ap (λ (k : ℕ). text_stretches g m places w (get_or xs i d) ++ texts_stretches g m places w (drop k xs)) one

-- what was passed so far, and what is left
pub record TextsPassed (g : LineSource) (m : PathMap) (places : LineText → Option ℕ) (w : Width) (xs : List LineText) (start at : Run) (before runs : List Run)
    (first offsets : List NewFieldOffset) (i : ℕ) : Type 0 where
  pub next : passed at (texts_stretches g m places w (drop i xs)) ≡ passed start (texts_stretches g m places w xs)
  pub runs_are : runs ++ passed_runs at (texts_stretches g m places w (drop i xs)) ≡ before ++ passed_runs start (texts_stretches g m places w xs)
  pub offsets_are : offsets ++ placed_offsets (texts_stretches g m places w (drop i xs)) ≡ first ++ placed_offsets (texts_stretches g m places w xs)
  pub order : InOrder at.old (2 ^ 31) (texts_stretches g m places w (drop i xs))

pub texts-start : (g : LineSource) (m : PathMap) (places : LineText → Option ℕ) (w : Width) (xs : List LineText) (start : Run) (before : List Run) (first : List NewFieldOffset)
    → InOrder start.old (2 ^ 31) (texts_stretches g m places w xs) → TextsPassed g m places w xs start start before before first first 0
texts-start g m places w xs start before first h = record { next = refl; runs_are = refl; offsets_are = refl; order = h }

pub texts-order : (g : LineSource) (m : PathMap) (places : LineText → Option ℕ) (w : Width) (xs : List LineText) (start at : Run) (before runs : List Run) (first offsets : List NewFieldOffset)
    (i : ℕ) (d : LineText) → TextsPassed g m places w xs start at before runs first offsets i → i < length xs
    → InOrder at.old (2 ^ 31) (text_stretches g m places w (get_or xs i d))
texts-order g m places w xs start at before runs first offsets i d so lt =
    order-front at.old (2 ^ 31) at (text_stretches g m places w (get_or xs i d)) (texts_stretches g m places w (drop (i + 1) xs)) refl
    (subst (InOrder at.old (2 ^ 31)) (left-step g m places w xs i d lt) so.order)

pub texts-fit : (g : LineSource) (m : PathMap) (places : LineText → Option ℕ) (w : Width) (xs : List LineText) (start at : Run) (before runs : List Run) (first offsets : List NewFieldOffset)
    (i : ℕ) (d : LineText) → TextsPassed g m places w xs start at before runs first offsets i → i < length xs → (passed start (texts_stretches g m places w xs)).new < 2 ^ 64
    → (passed at (text_stretches g m places w (get_or xs i d))).new < 2 ^ 64
texts-fit g m places w xs start at before runs first offsets i d so lt fits =
    let more = passed-behind (passed at (text_stretches g m places w (get_or xs i d))) (texts_stretches g m places w (drop (i + 1) xs)) in
    let same : passed at (text_stretches g m places w (get_or xs i d) ++ texts_stretches g m places w (drop (i + 1) xs)) ≡ passed start (texts_stretches g m places w xs) =
    ap (passed at) (sym (left-step g m places w xs i d lt)) ∙ so.next in
    let end : (passed (passed at (text_stretches g m places w (get_or xs i d))) (texts_stretches g m places w (drop (i + 1) xs))).new ≡ (passed start (texts_stretches g m places w xs)).new =
    ap (λ (r : Run). r.new) (sym (passed-append at (text_stretches g m places w (get_or xs i d)) (texts_stretches g m places w (drop (i + 1) xs))) ∙ same) in
    omega (arith, more, end, fits)

pub texts-more : (g : LineSource) (m : PathMap) (places : LineText → Option ℕ) (w : Width) (xs : List LineText) (start at next : Run) (before runs more : List Run)
    (first offsets fields : List NewFieldOffset) (i : ℕ) (d : LineText) → TextsPassed g m places w xs start at before runs first offsets i → i < length xs
    → next ≡ passed at (text_stretches g m places w (get_or xs i d)) → more ≡ runs ++ passed_runs at (text_stretches g m places w (get_or xs i d))
    → fields ≡ offsets ++ placed_offsets (text_stretches g m places w (get_or xs i d)) → TextsPassed g m places w xs start next before more first fields (i + 1)
texts-more g m places w xs start at next before runs more first offsets fields i d so lt n r f =
    let step = left-step g m places w xs i d lt in
    record {
      next = ap (λ (s : Run). passed s (texts_stretches g m places w (drop (i + 1) xs))) n
          ∙ sym (passed-append at (text_stretches g m places w (get_or xs i d)) (texts_stretches g m places w (drop (i + 1) xs))) ∙ ap (passed at) (sym step) ∙ so.next;
      runs_are = ap (λ (rs : List Run). rs ++ passed_runs next (texts_stretches g m places w (drop (i + 1) xs))) r
          ∙ ap (λ (s : Run). (runs ++ passed_runs at (text_stretches g m places w (get_or xs i d))) ++ passed_runs s (texts_stretches g m places w (drop (i + 1) xs))) n
          ∙ append_assoc runs (passed_runs at (text_stretches g m places w (get_or xs i d)))
          (passed_runs (passed at (text_stretches g m places w (get_or xs i d))) (texts_stretches g m places w (drop (i + 1) xs)))
          ∙ ap (λ (rs : List Run). runs ++ rs)
          (sym (runs-append at (text_stretches g m places w (get_or xs i d)) (texts_stretches g m places w (drop (i + 1) xs))) ∙ ap (passed_runs at) (sym step))
          ∙ so.runs_are;
      offsets_are = ap (λ (fs : List NewFieldOffset). fs ++ placed_offsets (texts_stretches g m places w (drop (i + 1) xs))) f
          ∙ append_assoc offsets (placed_offsets (text_stretches g m places w (get_or xs i d))) (placed_offsets (texts_stretches g m places w (drop (i + 1) xs)))
          ∙ ap (λ (fs : List NewFieldOffset). offsets ++ fs)
          (sym (offsets-append (text_stretches g m places w (get_or xs i d)) (texts_stretches g m places w (drop (i + 1) xs))) ∙ ap placed_offsets (sym step))
          ∙ so.offsets_are;
      order = subst (λ (s : Run). InOrder s.old (2 ^ 31) (texts_stretches g m places w (drop (i + 1) xs))) (sym n)
          (order-rest at.old (2 ^ 31) at (text_stretches g m places w (get_or xs i d)) (texts_stretches g m places w (drop (i + 1) xs)) refl
          (subst (InOrder at.old (2 ^ 31)) step so.order));
    }

none-left : (g : LineSource) (m : PathMap) (places : LineText → Option ℕ) (w : Width) (xs : List LineText) (i : ℕ) → length xs ≤ i → texts_stretches g m places w (drop i xs) ≡ []
none-left g m places w xs i le = ap (texts_stretches g m places w) (drop_all i xs le)

pub texts-next : (g : LineSource) (m : PathMap) (places : LineText → Option ℕ) (w : Width) (xs : List LineText) (start at : Run) (before runs : List Run) (first offsets : List NewFieldOffset)
    (i : ℕ) → TextsPassed g m places w xs start at before runs first offsets i → length xs ≤ i → at ≡ passed start (texts_stretches g m places w xs)
texts-next g m places w xs start at before runs first offsets i so le = ap (passed at) (sym (none-left g m places w xs i le)) ∙ so.next

pub texts-runs : (g : LineSource) (m : PathMap) (places : LineText → Option ℕ) (w : Width) (xs : List LineText) (start at : Run) (before runs : List Run) (first offsets : List NewFieldOffset)
    (i : ℕ) → TextsPassed g m places w xs start at before runs first offsets i → length xs ≤ i → runs ≡ before ++ passed_runs start (texts_stretches g m places w xs)
texts-runs g m places w xs start at before runs first offsets i so le =
    sym (append-nil runs) ∙ ap (λ (cs : List PlacedStretch). runs ++ passed_runs at cs) (sym (none-left g m places w xs i le)) ∙ so.runs_are

pub texts-offsets : (g : LineSource) (m : PathMap) (places : LineText → Option ℕ) (w : Width) (xs : List LineText) (start at : Run) (before runs : List Run)
    (first offsets : List NewFieldOffset) (i : ℕ) → TextsPassed g m places w xs start at before runs first offsets i → length xs ≤ i
    → offsets ≡ first ++ placed_offsets (texts_stretches g m places w xs)
texts-offsets g m places w xs start at before runs first offsets i so le =
    sym (append-nil offsets) ∙ ap (λ (cs : List PlacedStretch). offsets ++ placed_offsets cs) (sym (none-left g m places w xs i le)) ∙ so.offsets_are
