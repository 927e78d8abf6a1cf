-- The unit sections of an output are those of the file, edited.
use Rattle.std.proofs.Common.{Bool, true, false, ◌≡◌, ◌≢◌, ℕ, suc, ◌+◌, List, [], ◌∷◌, ◌++◌, length, Option, Some, None, sym, ap, ◌∙◌, refl, subst, if◌then◌else◌, get_or}
use Rattle.std.proofs.lemmas.Bool.{ne_eqb}
use Rattle.dw_base.specs.Cells.{Cell, with_bytes}
use Rattle.dw_meaning.specs.DataOutput.{Body, unit_body, unit_bodies, body_in}
use Rattle.dw_base.specs.DebugData.{Around, line_table, units_in, ReadsAll}
use Rattle.dw_base.specs.Readings.{Readings}
use Rattle.dw_base.specs.DebugSections.{debug_section}
use Rattle.dw_base.specs.Elf.{section_name, contents_of}
use Rattle.dw_base.specs.FileViews.{ViewSection}
use Rattle.dw_base.specs.LineReadings.{starts_from}
use Rattle.dw_base.specs.Roles.{Role, fixed, offset, inline_path, line_start}
use Rattle.dw_base.specs.StringTables.{new_place}
use Rattle.dw_base.specs.TextChanges.{TableChanges, change_of, mention_at, moved_start, edited_by}
use Rattle.dw_base.specs.UnitHeaders.{UnitBase, SectionKind}
use Rattle.dw_base.specs.ViewData.{unit_kind, unit_section, unit_sections_from}
use Rattle.dw_meaning.proofs.FileBackLaws.{AllAt, SectionBack}
use Rattle.dw_base.proofs.PlainCellLaws.{IsPlain, plain-parts, plain-append, plain_cells-plain, with_offset-is}
use Rattle.dw_base.specs.declared.debug_sections.DebugSection.TheVariants.{Line}
use Rattle.dw_meaning.proofs.FieldPutLaws.{length-put}

-- plain cells with other bytes are plain
with_bytes-keeps : (p : List Cell) (bs : List ℕ) → IsPlain p → IsPlain (with_bytes p bs)
with_bytes-keeps [] bs h = h
with_bytes-keeps (c ∷ cs) [] h = h
with_bytes-keeps (c ∷ cs) (b ∷ bs) h =
    let parts = plain-parts (c ∷ []) cs h in
    let one : IsPlain (record c { byte = b } ∷ []) = record { plain = ap (head_with b) parts.0.plain } in
    plain-append (record c { byte = b } ∷ []) (with_bytes cs bs) one (with_bytes-keeps cs bs parts.1)
  where
    head_with : ℕ → List Cell → List Cell
    head_with x [] = []
    head_with x (d ∷ ds) = record d { byte = x } ∷ []

-- and so are edited ones
pub edited-plain : (r : Role) (c : TableChanges) (around : Around) (p : List Cell) → IsPlain p → IsPlain (edited_by r c around p)
edited-plain fixed c around p h = h
edited-plain inline_path c around p h = with_bytes-keeps p _ h
edited-plain (offset table path) c around p h =
    subst IsPlain (sym (with_offset-is around.lasting.base.order p (new_place c.map (change_of c table) (mention_at around table path p)) h)) (plain_cells-plain _)
edited-plain line_start c around p h = by_table (line_table around p)
  where
    by_table : (o : Option ℕ) → IsPlain (moved_start (starts_from 0 (c.new Line)) around.lasting.base.order o p)
    by_table None = h
    by_table (Some k) = subst IsPlain (sym (with_offset-is around.lasting.base.order p (get_or (starts_from 0 (c.new Line)) k 0) h)) (plain_cells-plain _)

-- and as long
length-with_bytes : (p : List Cell) (bs : List ℕ) → length (with_bytes p bs) ≡ length p
length-with_bytes [] bs = refl
length-with_bytes (c ∷ cs) [] = refl
length-with_bytes (c ∷ cs) (b ∷ bs) = ap suc (length-with_bytes cs bs)

pub edited-size : (r : Role) (c : TableChanges) (around : Around) (p : List Cell) → length (edited_by r c around p) ≡ length p
edited-size fixed c around p = refl
edited-size inline_path c around p = length-with_bytes p _
edited-size (offset table path) c around p =
    length-put around.lasting.base.order p (new_place c.map (change_of c table) (mention_at around table path p))
edited-size line_start c around p = by_table (line_table around p)
  where
    by_table : (o : Option ℕ) → length (moved_start (starts_from 0 (c.new Line)) around.lasting.base.order o p) ≡ length p
    by_table None = refl
    by_table (Some k) = length-put around.lasting.base.order p (get_or (starts_from 0 (c.new Line)) k 0)

pub skip-other : (x : Body) (xs : List Body) (old : ℕ → List ℕ) (i : ℕ) → i ≢ x.number → body_in (x ∷ xs) old i ≡ body_in xs old i
skip-other x xs old i other = rw (ne_eqb i x.number other) refl

pub units-skip : (b : List ℕ) (bodies : ℕ → List ℕ) (base : UnitBase) (c : TableChanges) (around : Around) (i : ℕ) → unit_kind (debug_section (section_name b i)) ≡ None
    → (first k : ℕ) (ss ts : List ViewSection) (rs : Readings) → AllAt (SectionBack b bodies) k ss ts → ReadsAll base first (unit_sections_from k ss) rs
    → body_in (unit_bodies c around rs) (contents_of b) i ≡ contents_of b i
units-skip b bodies base c around i none first k [] ts [] all reads = refl
units-skip b bodies base c around i none first k [] ts (r ∷ rs) all reads = absurd reads
units-skip b bodies base c around i none first k (s ∷ ss) [] rs all reads = absurd all
units-skip b bodies base c around i none first k (s ∷ ss) (t ∷ ts) rs all reads =
    by_section s.has_bytes (unit_kind (debug_section s.name)) refl rs reads (λ n qs f. units-skip b bodies base c around i none n (suc k) ss ts qs all.1 f)
  where
    by_section : (full : Bool) (o : Option SectionKind) → unit_kind (debug_section s.name) ≡ o → (qs : Readings)
        → ReadsAll base first ((if full then unit_section k s o else []) ++ unit_sections_from (suc k) ss) qs
        → ((n : ℕ) (ps : Readings) → ReadsAll base n (unit_sections_from (suc k) ss) ps → body_in (unit_bodies c around ps) (contents_of b) i ≡ contents_of b i)
        → body_in (unit_bodies c around qs) (contents_of b) i ≡ contents_of b i
    by_section false o is qs f rest = rest first qs f
    by_section true None is qs f rest = rest first qs f
    by_section true (Some kind) is [] f rest = absurd f
    by_section true (Some kind) is (q ∷ qs) f rest =
        let some : unit_kind (debug_section (section_name b k)) ≡ Some kind = ap (λ (n : List ℕ). unit_kind (debug_section n)) (sym all.0.named) ∙ is in
        let other : i ≢ q.number = λ (e : i ≡ q.number).
        clash kind (sym (ap (λ (j : ℕ). unit_kind (debug_section (section_name b j))) (e ∙ f.0) ∙ some) ∙ none) in
        skip-other (unit_body c around q) (unit_bodies c around qs) (contents_of b) i other ∙ rest (first + units_in q.pieces) qs f.2
      where
        clash : (kind : SectionKind) → Some kind ≡ None → ⊥
        clash kind e = cc
