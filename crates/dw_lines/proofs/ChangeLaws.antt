-- Laws of the changes of a header: texts in their order, offsets that fit, and changes one after another.
use Rattle.std.proofs.Common.{Bool, true, false, ◌≡◌, ◌≢◌, ◌⊎◌, ℕ, ◌+◌, ◌<◌, ◌≤◌, ◌^◌, ◌==◌, List, [], ◌∷◌, ◌++◌, length, take, drop, get_or, Option, Some, None, Contains, refl, sym, ap, ◌∙◌, subst, inl, inr, if◌then◌else◌, arith}
use Rattle.std.proofs.lemmas.Bool.{cases_lt}
use Rattle.std.proofs.lemmas.Bool.Decides.{nat_tests}
use Rattle.std.proofs.lemmas.List.{append-nil, append_assoc, take_more, take_all, map-append, get_or_default, length-take, length-drop}
use Rattle.dw_base.specs.Cells.{bytes_of, cells_at}
use Rattle.dw_base.specs.FileViews.{View, view_cells}
use Rattle.dw_base.specs.Forms.{width_size}
use Rattle.dw_base.specs.LineSources.{LineSource}
use Rattle.dw_base.specs.NewOffsets.{with_offset}
use Rattle.dw_base.specs.Numbers.{number_bytes}
use Rattle.dw_base.specs.Paths.{PathMap, mapped_path}
use Rattle.dw_base.specs.Refusals.{at}
use Rattle.dw_base.specs.declared.fault.Kind.TheVariants.{TooWide}
use Rattle.dw_base.specs.declared.fault.Refusal.{Refusal}
use Rattle.dw_base.specs.declared.shared.Order.{Order}
use Rattle.dw_base.specs.declared.shared.Width.{Width}
use Rattle.dw_base.specs.declared.shared.Width.TheVariants.{W32, W64}
use Rattle.dw_base.specs.declared.line_tables.LineText.{LineText}
use Rattle.dw_base.specs.declared.line_tables.TextPlace.{TextPlace}
use Rattle.dw_lines.specs.OffsetRooms.{AllHaveRoom, HasRoom}
use Rattle.dw_lines.specs.ChangeSteps.{after_change, after_changes, fits_width, offset_fits}
use Rattle.dw_base.specs.LineTables.{texts_of}
use Rattle.dw_base.specs.TextLineChanges.{text_changes, texts_changes}
use Rattle.dw_base.specs.TextWriteFails.{WideText, wide_text}
use Rattle.dw_base.specs.WrittenLines.{Change, bytes_at, changed, inline_change, offset_changes, part}
use Rattle.dw_base.specs.declared.line_tables.FilePlace.{FilePlace}

-- paths of directories and files
pub paths-start : (dirs paths : List TextPlace) (files : List FilePlace) → paths ≡ dirs → paths ≡ dirs ++ texts_of (take 0 files)
paths-start dirs paths files e = e ∙ sym (append-nil dirs)

pub paths-more : (dirs : List TextPlace) (files : List FilePlace) (i : ℕ) (d : FilePlace) (paths more : List TextPlace) → paths ≡ dirs ++ texts_of (take i files)
    → i < length files → more ≡ paths ++ (get_or files i d).text ∷ [] → more ≡ dirs ++ texts_of (take (i + 1) files)
paths-more dirs files i d paths more p lt m =
    m ∙ ap (λ (ts : List TextPlace). ts ++ (get_or files i d).text ∷ []) p
    ∙ append_assoc dirs (texts_of (take i files)) ((get_or files i d).text ∷ [])
    ∙ ap (λ (ts : List TextPlace). dirs ++ ts)
    (sym (ap texts_of (take_more files i d lt) ∙ map-append (λ (f : FilePlace). f.text) (take i files) (get_or files i d ∷ [])))

pub paths-over : (dirs : List TextPlace) (files : List FilePlace) (i : ℕ) (paths : List TextPlace) → paths ≡ dirs ++ texts_of (take i files) → length files ≤ i
    → paths ≡ dirs ++ texts_of files
paths-over dirs files i paths p le = p ∙ ap (λ (fs : List FilePlace). dirs ++ texts_of fs) (take_all i files le)

-- a place that fits its field no more
wide-place : (section : ℕ) (width : Width) (places : LineText → Option ℕ) (xs : List LineText) (x : LineText) (place : Option ℕ) (same : Bool) → Contains xs x
    → (x.place.section == section) ≡ same → places x ≡ place → (if same then true else fits_width width place) ≡ false → WideText section width places xs (at TooWide section x.place.field)
wide-place section width places xs x place true c s p f = absurd (true-false f)
  where
    true-false : true ≡ false → ⊥
    true-false e = cc
wide-place section width places xs x None false c s p f = absurd (true-false f)
  where
    true-false : true ≡ false → ⊥
    true-false e = cc
wide-place section width places xs x (Some place) false c s p f = wide_text x place c (λ e. other e) p (grind (arith, nat_tests))
  where
    other : x.place.section ≡ section → ⊥
    other e = grind (arith, nat_tests)

pub offset-wide : (section : ℕ) (width : Width) (places : LineText → Option ℕ) (xs : List LineText) (i : ℕ) (d : LineText) (place : Option ℕ) (r : Refusal) → i < length xs
    → place ≡ places (get_or xs i d) → offset_fits section width place (get_or xs i d).place ≡ false → r ≡ at TooWide section (get_or xs i d).place.field
    → WideText section width places xs r
offset-wide section width places xs i d place r lt p f e =
    rw e (wide-place section width places xs (get_or xs i d) place ((get_or xs i d).place.section == section) (i, lt, get_or_default xs i (get_or xs i d) d lt) refl (sym p) f)

-- what fits so far
abbrev pub FitUpTo : ℕ → Width → (LineText → Option ℕ) → List LineText → ℕ → Type 0
FitUpTo section width places xs i = (k : ℕ) (d : LineText) → k < i → offset_fits section width (places (get_or xs k d)) (get_or xs k d).place ≡ true

pub fit-more : (section : ℕ) (width : Width) (places : LineText → Option ℕ) (xs : List LineText) (i : ℕ) (d : LineText) (place : Option ℕ) → FitUpTo section width places xs i → i < length xs
    → place ≡ places (get_or xs i d) → offset_fits section width place (get_or xs i d).place ≡ true → FitUpTo section width places xs (i + 1)
fit-more section width places xs i d place so lt p f k e le = elim (cases_lt k i) [
  | inl before ↦ so k e before
  | inr past ↦
      let same : k ≡ i = omega (arith, past, le) in
      rw same (subst (λ (x : LineText). offset_fits section width (places x) x.place ≡ true) (get_or_default xs i d e lt)
      (subst (λ (o : Option ℕ). offset_fits section width o (get_or xs i d).place ≡ true) p f))
]

-- changes one after another
pub changes-joined : (bytes : List ℕ) (s : List ℕ × ℕ) (cs ds : List Change) → after_changes bytes s (cs ++ ds) ≡ after_changes bytes (after_changes bytes s cs) ds
changes-joined bytes s [] ds = refl
changes-joined bytes s (c ∷ cs) ds = changes-joined bytes (after_change bytes s c) cs ds

pub all-joined : (g : LineSource) (m : PathMap) (places : LineText → Option ℕ) (width : Width) (xs ys : List LineText)
    → texts_changes g m places width (xs ++ ys) ≡ texts_changes g m places width xs ++ texts_changes g m places width ys
all-joined g m places width [] ys = refl
all-joined g m places width (x ∷ xs) ys =
    ap (λ (cs : List Change). text_changes g m places width x ++ cs) (all-joined g m places width xs ys)
    ∙ sym (append_assoc (text_changes g m places width x) (texts_changes g m places width xs) (texts_changes g m places width ys))

-- the changed bytes are those so far, and what is left
pub changes-done : (bytes : List ℕ) (end : ℕ) (s : List ℕ × ℕ) (cs : List Change)
    → (after_changes bytes s cs).0 ++ part bytes (after_changes bytes s cs).1 end ≡ s.0 ++ changed bytes s.1 end cs
changes-done bytes end s [] = refl
changes-done bytes end s (c ∷ cs) =
    changes-done bytes end (after_change bytes s c) cs
    ∙ append_assoc s.0 (part bytes s.1 c.at ++ c.new) (changed bytes (c.at + length c.old) end cs)
    ∙ ap (λ (xs : List ℕ). s.0 ++ xs) (append_assoc (part bytes s.1 c.at) c.new (changed bytes (c.at + length c.old) end cs))

-- bytes that are appended one after another
pub appended : (a b c p n : List ℕ) → b ≡ a ++ p → c ≡ b ++ n → c ≡ a ++ (p ++ n)
appended a b c p n f s = s ∙ ap (λ (xs : List ℕ). xs ++ n) f ∙ append_assoc a p n

pub ruleset append_laws = (appended)

-- the same, of a field with a new offset
pub offset-appended : (v : View) (section field size place number : ℕ) (width : Width) (order : Order) (a b c p : List ℕ) → size ≡ width_size width
    → number_bytes v.order size number ≡ bytes_of (with_offset v.order (cells_at (view_cells v section) field size) place) → order ≡ v.order → b ≡ a ++ p
    → c ≡ b ++ number_bytes order (width_size width) number
    → c ≡ a ++ (p ++ bytes_of (with_offset v.order (cells_at (view_cells v section) field (width_size width)) place))
offset-appended v section field size place number width order a b c p s n o f g =
    appended a b c p (bytes_of (with_offset v.order (cells_at (view_cells v section) field (width_size width)) place)) f
    (g ∙ ap (λ (bs : List ℕ). b ++ bs)
    (ap (λ (x : Order). number_bytes x (width_size width) number) o
    ∙ subst (λ (k : ℕ). number_bytes v.order k number ≡ bytes_of (with_offset v.order (cells_at (view_cells v section) field k) place)) s n))

pub offset-size : (n : ℕ) (w : Width) → n ≡ width_size w → (n ≡ 4) ⊎ (n ≡ 8)
offset-size n W32 is = inl is
offset-size n W64 is = inr is

pub ruleset offset_laws = (offset-appended, offset-size)

pub behind-small : (bytes old : List ℕ) (at n : ℕ) → old ≡ bytes_at bytes at n → length bytes ≤ 2 ^ 31 → at < 2 ^ 64 → at + length old < 2 ^ 64
behind-small bytes old at n e small fits =
    let rest = length-drop at bytes in
    let size = length-take n (drop at bytes) in
    let same : length old ≡ length (bytes_at bytes at n) = ap length e in
    omega (arith, rest, size, same, small, fits)

pub behind-is : (bytes old : List ℕ) (at n : ℕ) → old ≡ bytes_at bytes at n → at + length old ≡ at + length (bytes_at bytes at n)
behind-is bytes old at n e = ap (λ (xs : List ℕ). at + length xs) e

pub ruleset behind_laws = (behind-small, behind-is)

-- what becomes of a text
inline-changes : (g : LineSource) (m : PathMap) (places : LineText → Option ℕ) (width : Width) (x : LineText) → x.place.section ≡ g.number → x.path ≡ true
    → text_changes g m places width x ≡ inline_change m g.bytes x.place ∷ []
inline-changes g m places width x s path =
    let here : (x.place.section == g.number) ≡ true = grind (arith, nat_tests) in
    rw (path, here) refl

stays-changes : (g : LineSource) (m : PathMap) (places : LineText → Option ℕ) (width : Width) (x : LineText) → x.place.section ≡ g.number → x.path ≡ false
    → text_changes g m places width x ≡ []
stays-changes g m places width x s further =
    let here : (x.place.section == g.number) ≡ true = grind (arith, nat_tests) in
    rw (further, here) refl

offset-changes : (g : LineSource) (m : PathMap) (places : LineText → Option ℕ) (width : Width) (x : LineText) → x.place.section ≢ g.number
    → text_changes g m places width x ≡ offset_changes g.order width g.bytes g.cells x.place.field (places x)
offset-changes g m places width x s = by_path x.path
  where
    other : (x.place.section == g.number) ≡ false
    other = grind (arith, nat_tests)

    by_path : (b : Bool) → text_changes g m places width (record { place = x.place; path = b })
        ≡ offset_changes g.order width g.bytes g.cells x.place.field (places (record { place = x.place; path = b }))
    by_path true =
        ap (λ (b : Bool). if b then inline_change m g.bytes x.place ∷ [] else offset_changes g.order width g.bytes g.cells x.place.field (places (record { place = x.place; path = true }))) other
    by_path false =
        ap (λ (b : Bool). if b then [] else offset_changes g.order width g.bytes g.cells x.place.field (places (record { place = x.place; path = false }))) other

pub put-inline : (g : LineSource) (m : PathMap) (places : LineText → Option ℕ) (width : Width) (x : LineText) (bytes old new out more : List ℕ) (from next : ℕ)
    → bytes ≡ g.bytes → x.place.section ≡ g.number → x.path ≡ true → old ≡ bytes_at bytes x.place.at x.place.len → new ≡ mapped_path m old
    → more ≡ out ++ (part bytes from x.place.at ++ new) → next ≡ x.place.at + length (bytes_at bytes x.place.at x.place.len)
    → ◌≡◌ {A = List ℕ × ℕ} (more, next) (after_changes (g.bytes) (out, from) (text_changes g m places width x))
put-inline g m places width x bytes old new out more from next b s path o n e is =
    rw (inline-changes g m places width x s path, is, e, n, o, b) refl

pub put-stays : (g : LineSource) (m : PathMap) (places : LineText → Option ℕ) (width : Width) (x : LineText) (out : List ℕ) (from : ℕ)
    → x.place.section ≡ g.number → x.path ≡ false
    → ◌≡◌ {A = List ℕ × ℕ} (out, from) (after_changes (g.bytes) (out, from) (text_changes g m places width x))
put-stays g m places width x out from s further = rw (stays-changes g m places width x s further) refl

pub put-offset : (g : LineSource) (m : PathMap) (places : LineText → Option ℕ) (width : Width) (x : LineText) (bytes out more : List ℕ) (from next place : ℕ)
    → bytes ≡ g.bytes → x.place.section ≢ g.number → Some place ≡ places x
    → more ≡ out ++ (part bytes from x.place.field ++ bytes_of (with_offset g.order (cells_at g.cells x.place.field (width_size width)) place))
    → next ≡ x.place.field + length (bytes_at bytes x.place.field (width_size width))
    → ◌≡◌ {A = List ℕ × ℕ} (more, next) (after_changes (g.bytes) (out, from) (text_changes g m places width x))
put-offset g m places width x bytes out more from next place b s p e is =
    rw (offset-changes g m places width x s, ← p, is, e, b) refl

pub put-none : (g : LineSource) (m : PathMap) (places : LineText → Option ℕ) (width : Width) (x : LineText) (out : List ℕ) (from : ℕ)
    → x.place.section ≢ g.number → None ≡ places x
    → ◌≡◌ {A = List ℕ × ℕ} (out, from) (after_changes (g.bytes) (out, from) (text_changes g m places width x))
put-none g m places width x out from s p = rw (offset-changes g m places width x s, ← p) refl

pub room-inside : (section size : ℕ) (width : Width) (x : TextPlace) → HasRoom section width size x → x.section ≢ section → x.field + width_size width ≤ size
room-inside section size width x room other = room.inside other

pub ruleset put_laws = (put-inline, put-stays, put-offset, put-none, room-inside)

-- what becomes of texts, one after another
pub put-start : (g : LineSource) (m : PathMap) (places : LineText → Option ℕ) (width : Width) (xs : List LineText) (out : List ℕ) (from : ℕ)
    → ◌≡◌ {A = List ℕ × ℕ} (out, from) (after_changes (g.bytes) (out, from) (texts_changes g m places width (take 0 xs)))
put-start g m places width xs out from = refl

pub put-more : (g : LineSource) (m : PathMap) (places : LineText → Option ℕ) (width : Width) (xs : List LineText) (i : ℕ) (x d : LineText) (out so more : List ℕ)
    (from place next : ℕ) → ◌≡◌ {A = List ℕ × ℕ} (so, place) (after_changes (g.bytes) (out, from) (texts_changes g m places width (take i xs)))
    → i < length xs → x ≡ get_or xs i d
    → ◌≡◌ {A = List ℕ × ℕ} (more, next) (after_changes (g.bytes) (so, place) (text_changes g m places width x))
    → ◌≡◌ {A = List ℕ × ℕ} (more, next) (after_changes (g.bytes) (out, from) (texts_changes g m places width (take (i + 1) xs)))
put-more g m places width xs i x d out so more from place next s lt e n =
    n ∙ ap (λ (t : List ℕ × ℕ). after_changes (g.bytes) t (text_changes g m places width x)) s
    ∙ sym (changes-joined (g.bytes) (out, from) (texts_changes g m places width (take i xs)) (text_changes g m places width x))
    ∙ ap (after_changes (g.bytes) (out, from)) (sym whole)
  where
    whole : texts_changes g m places width (take (i + 1) xs) ≡ texts_changes g m places width (take i xs) ++ text_changes g m places width x
    whole =
        ap (texts_changes g m places width) (take_more xs i d lt ∙ ap (λ (y : LineText). take i xs ++ y ∷ []) (sym e))
        ∙ all-joined g m places width (take i xs) (x ∷ [])
        ∙ ap (λ (cs : List Change). texts_changes g m places width (take i xs) ++ cs) (append-nil (text_changes g m places width x))

pub put-over : (g : LineSource) (m : PathMap) (places : LineText → Option ℕ) (width : Width) (xs : List LineText) (out so : List ℕ) (from place i : ℕ)
    → ◌≡◌ {A = List ℕ × ℕ} (so, place) (after_changes (g.bytes) (out, from) (texts_changes g m places width (take i xs))) → length xs ≤ i
    → ◌≡◌ {A = List ℕ × ℕ} (so, place) (after_changes (g.bytes) (out, from) (texts_changes g m places width xs))
put-over g m places width xs out so from place i s le =
    s ∙ ap (λ (ys : List LineText). after_changes (g.bytes) (out, from) (texts_changes g m places width ys)) (take_all i xs le)

pub room-here : (section size : ℕ) (width : Width) (xs : List LineText) (i : ℕ) (d : LineText) → AllHaveRoom section width size xs → i < length xs
    → HasRoom section width size (get_or xs i d).place
room-here section size width xs i d rooms lt = rooms i d lt

pub ruleset put_all_laws = (put-start, put-more, put-over, room-here)

pub ruleset fit_laws = (offset-wide)
