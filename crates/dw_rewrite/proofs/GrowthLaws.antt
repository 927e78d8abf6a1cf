-- A table of texts grows by the paths of sections, one after another.
use Rattle.std.proofs.Common.{Bool, ◌≡◌, ◌≢◌, inl, inr, ℕ, zero, suc, ◌+◌, ◌≤◌, ◌<◌, List, [], ◌∷◌, length, get_or, drop, Option, Some, None, refl, sym, ap, ◌∙◌, subst, arith}
use Rattle.std.proofs.Math.Seq.{drop-cons}
use Rattle.std.proofs.lemmas.Bool.{cases_lt}
use Rattle.std.proofs.lemmas.List.{drop_all}
use Rattle.dw_base.specs.Cells.{Located}
use Rattle.dw_base.specs.DebugSections.{name_of}
use Rattle.dw_base.specs.FileViews.{View, section_bytes, section_named, view_cells}
use Rattle.dw_base.specs.Layout.{output_limit}
use Rattle.dw_base.specs.LayoutFails.{TooLong, long}
use Rattle.dw_base.specs.Paths.{PathMap}
use Rattle.dw_base.specs.Refusals.{Blames}
use Rattle.dw_base.specs.StringTables.{TextTable, table_bytes}
use Rattle.dw_base.specs.Texts.{laid_texts}
use Rattle.dw_base.specs.ViewData.{debug_data, located, located_at}
use Rattle.dw_base.specs.declared.debug_sections.DebugSection.{DebugSection}
use Rattle.dw_base.specs.declared.debug_sections.DebugSection.TheVariants.{Info, Types, Abbrev, Str as str_section, LineStr as line_str_section, StrOffsets, Line as line_section, Macro, Names}
use Rattle.dw_base.specs.declared.fault.Fault.{Fault}
use Rattle.dw_base.specs.declared.fault.Fault.TheVariants.{NoMemory, Refused}
use Rattle.dw_base.proofs.FileViewLaws.{section_after-within}
use Rattle.dw_base.proofs.TextLaws.{ends_in-inside}
use Rattle.dw_base.proofs.ViewCellLaws.{lines-located}
use Rattle.dw_offsets.specs.declared.fields.OffsetField.{OffsetField}
use Rattle.dw_base.specs.declared.texts.TextSection.{TextSection}
use Rattle.dw_base.specs.declared.texts.TextSection.TheVariants.{InStr, InLineStr}
use Rattle.dw_unit_fields.specs.Fields.{AreOffsetFields, IsOffsetField}
use Rattle.dw_rewrite.specs.Changes.{AreNoted, FieldSource, Knows, Remembers, texts_at}
use Rattle.dw_unit_fields.specs.ViewFields.{AllHaveOffsets, AllHavePlaces, HasOffsets, HasPlaces, fields_of}
use Rattle.dw_starts.specs.StringTables.{offsets_in, table_number}
use Rattle.dw_rewrite.specs.NewTables.{section_texts_at, source_in, source_into, table_into, texts_of, all_texts_at, IsSectionNoted, AllNoted, Growing, GrownBy, GrownByAll, TableMade, table_with, fault_at, LongTable, TablesRefuse, long_table, one_is_long}
use Rattle.dw_unit_fields.specs.SectionFields.{SectionFields}
use Rattle.dw_rewrite.proofs.ChangedLaws.{length-texts_at, remembers_on}
use Rattle.dw_rewrite.proofs.NewOffsetLaws.{remembers_all}
use Rattle.dw_unit_fields.proofs.PlaceValueLaws.{EachOf, each-get}

-- where fields hold offsets into a table of texts, and into the line tables, as the code has it
pub same-source : (v : View) (t : TextSection) (section number : ℕ) (bytes : List ℕ) → number ≡ table_number (debug_data v) t → bytes ≡ (offsets_in v t).bytes
    → record { order = v.order; cells = view_cells v section; table = record { number = number; bytes = bytes } } ≡ source_in v section t
same-source v InStr section number bytes e f =
    ap (λ (n : ℕ). record { order = v.order; cells = view_cells v section; table = record { number = n; bytes = bytes } }) e
    ∙ ap (λ (b : List ℕ). record { order = v.order; cells = view_cells v section; table = record { number = ((debug_data v).found str_section).number; bytes = b } }) f
same-source v InLineStr section number bytes e f =
    ap (λ (n : ℕ). record { order = v.order; cells = view_cells v section; table = record { number = n; bytes = bytes } }) e
    ∙ ap (λ (b : List ℕ). record { order = v.order; cells = view_cells v section; table = record { number = ((debug_data v).found line_str_section).number; bytes = b } }) f

pub ruleset source_rules = (same-source)

-- and into a section of debug data
into-located : (v : View) (s : DebugSection) → table_into v s ≡ located v s
unfolding debug_data
into-located v str_section = refl
into-located v line_str_section = refl
into-located v line_section = lines-located v
into-located v Info = refl
into-located v Types = refl
into-located v Abbrev = refl
into-located v StrOffsets = refl
into-located v Macro = refl
into-located v Names = refl

into-source : (v : View) (section : ℕ) (s : DebugSection) (o : Option ℕ) → o ≡ section_named v (name_of s)
    → record { order = v.order; cells = view_cells v section; table = located_at v o } ≡ source_into v section s
unfolding located
into-source v section s o e =
    ap (λ (p : Option ℕ). record { order = v.order; cells = view_cells v section; table = located_at v p }) e
    ∙ ap (λ (z : Located). record { order = v.order; cells = view_cells v section; table = z }) (sym (into-located v s))

pub into-some : (v : View) (section i : ℕ) (s : DebugSection) (bytes : List ℕ) → Some i ≡ section_named v (name_of s) → bytes ≡ section_bytes v i
    → record { order = v.order; cells = view_cells v section; table = record { number = i; bytes = bytes } } ≡ source_into v section s
into-some v section i s bytes e f =
    ap (λ (b : List ℕ). record { order = v.order; cells = view_cells v section; table = record { number = i; bytes = b } }) f ∙ into-source v section s (Some i) e

pub into-none : (v : View) (section : ℕ) (s : DebugSection) → None ≡ section_named v (name_of s)
    → record { order = v.order; cells = view_cells v section; table = record { number = 0; bytes = [] } } ≡ source_into v section s
into-none v section s e = into-source v section s None e

pub ruleset into_rules = (into-some, into-none)

-- what holds of a source and fields holds of those that are the same
pub moved : (P : FieldSource → List OffsetField → Type 0) (s q : FieldSource) (f g : List OffsetField) → s ≡ q → f ≡ g → P s f → P q g
moved P s q f g es ef h = subst (λ (x : FieldSource). P x g) es (subst (P s) ef h)

own-fields : (v : View) (u : SectionFields) (table : TextSection) → HasOffsets v u → AreOffsetFields v.order (texts_of v table) (view_cells v u.number) (fields_of table u)
own-fields v u InStr h = h.str
own-fields v u InLineStr h = h.line_str

-- no fields are fields of an empty table
no-fields : (s : FieldSource) (fields : List OffsetField) → s.table.bytes ≡ [] → AreOffsetFields s.order s.table s.cells fields → fields ≡ []
no-fields s [] none are = refl
no-fields s (f ∷ fs) none are =
    let one : IsOffsetField s.order s.table s.cells f = are.each 0 f (omega arith) in
    let less = ends_in-inside s.table.bytes _ one.ends in
    absurd (omega (arith, less, ap length none))

no-texts : (m : PathMap) (v : View) (table : TextSection) (ts : List (List ℕ)) (us : List SectionFields) → (texts_of v table).bytes ≡ [] → EachOf (HasOffsets v) us
    → all_texts_at m v table ts us ≡ ts
no-texts m v table ts [] none each = refl
no-texts m v table ts (u ∷ us) none each =
    let fields : fields_of table u ≡ [] = no-fields (source_in v u.number table) (fields_of table u) none (own-fields v u table each.0) in
    ap (λ (fs : List OffsetField). all_texts_at m v table (texts_at m (source_in v u.number table) ts fs) us) fields
    ∙ no-texts m v table ts us none each.1

-- a table that isn't there is empty
no-number : (v : View) (t : TextSection) → table_number (debug_data v) t ≡ 0 → (texts_of v t).bytes ≡ []
unfolding debug_data located section_named
no-number v InStr e = by_found (section_named v (name_of str_section)) refl e
  where
    by_found : (o : Option ℕ) → section_named v (name_of str_section) ≡ o → (located_at v o).number ≡ 0 → (located_at v o).bytes ≡ []
    by_found None f e = refl
    by_found (Some i) f e = let above = (section_after-within v (name_of str_section) 0 i f).0 in absurd (omega (arith, above, e))
no-number v InLineStr e = by_found (section_named v (name_of line_str_section)) refl e
  where
    by_found : (o : Option ℕ) → section_named v (name_of line_str_section) ≡ o → (located_at v o).number ≡ 0 → (located_at v o).bytes ≡ []
    by_found None f e = refl
    by_found (Some i) f e = let above = (section_after-within v (name_of line_str_section) 0 i f).0 in absurd (omega (arith, above, e))

-- each of sections that have places has them
each-has : (v : View) (us : List SectionFields) → AllHavePlaces v us → EachOf (HasPlaces v) us
each-has v [] all = tt
each-has v (u ∷ us) all = (all.0, each-has v us all.1)

pub has-at : (v : View) (us : List SectionFields) (i : ℕ) (u : SectionFields) → AllHavePlaces v us → i < length us → u ≡ get_or us i u → HasPlaces v u
has-at v us i u all lt is = subst (HasPlaces v) (sym is) (each-get (HasPlaces v) us i u lt (each-has v us all))

-- and of offsets
each-offsets : (v : View) (us : List SectionFields) → AllHaveOffsets v us → EachOf (HasOffsets v) us
each-offsets v [] all = tt
each-offsets v (u ∷ us) all = (all.0, each-offsets v us all.1)

pub offsets-at : (v : View) (us : List SectionFields) (i : ℕ) (u : SectionFields) → AllHaveOffsets v us → i < length us → u ≡ get_or us i u → HasOffsets v u
offsets-at v us i u all lt is = subst (HasOffsets v) (sym is) (each-get (HasOffsets v) us i u lt (each-offsets v us all))

pub offsets-there : (v : View) (u : SectionFields) → HasOffsets v u → u.number < length v.sections
offsets-there v u h = h.there

pub ruleset section_rules = (offsets-there)

-- what is known of a table by a section's source is known of it
pub source-knows : (m : PathMap) (v : View) (table : TextSection) (n : ℕ) (s : FieldSource) (ts : List (List ℕ)) (known : Bool → ℕ → Option ℕ) → s ≡ source_in v n table
    → Knows m (texts_of v table).bytes ts known → Knows m s.table.bytes ts known
source-knows m v table n s ts known is h = subst (λ (x : FieldSource). Knows m x.table.bytes ts known) (sym is) h

-- it has grown by the texts of the section
pub section-grown : (m : PathMap) (v : View) (table : TextSection) (u : SectionFields) (n : ℕ) (s : FieldSource) (fields : List OffsetField) (old new : TextTable) (was known : Bool → ℕ → Option ℕ)
    → n ≡ u.number → s ≡ source_in v n table → fields ≡ fields_of table u → new.kept ≡ [] → length (table_bytes new) ≤ output_limit
    → new.texts ≡ texts_at m s old.texts fields → Knows m s.table.bytes new.texts known
    → AreNoted s fields (length fields) known → Remembers was known → GrownBy m v table u old new was known
section-grown m v table u n s fields old new was known number is are kept small texts knows noted remembers =
    let own : s ≡ source_in v u.number table = is ∙ ap (λ (k : ℕ). source_in v k table) number in
    record {
      grown = record {
        kept = kept;
        small = small;
        knows = subst (λ (x : FieldSource). Knows m x.table.bytes new.texts known) own knows;
      };
      texts = texts ∙ ap (λ (x : FieldSource). texts_at m x old.texts fields) own ∙ ap (texts_at m (source_in v u.number table) old.texts) are;
      noted = moved (λ (x : FieldSource) (fs : List OffsetField). AreNoted x fs (length fs) known) s (source_in v u.number table) fields (fields_of table u) own are noted;
      remembers = remembers;
    }

long-there : (m : PathMap) (v : View) (t : TextSection) (us : List SectionFields) → AllHaveOffsets v us
    → output_limit < length (table_bytes (table_with (all_texts_at m v t [] us))) → table_number (debug_data v) t ≢ 0
long-there m v t us placed over zero_ =
    let none : (texts_of v t).bytes ≡ [] = no-number v t zero_ in
    let texts : all_texts_at m v t [] us ≡ [] = no-texts m v t [] us none (each-offsets v us placed) in
    let same : table_bytes (table_with (all_texts_at m v t [] us)) ≡ [] =
    ap laid_texts texts in
    omega (arith, over, ap length same)

-- the row of a table that is too long
pub table-row : (m : PathMap) (v : View) (t : TextSection) (us : List SectionFields) (f g : Fault) (n : ℕ) → AllHaveOffsets v us
    → Blames (TooLong (length (table_bytes (table_with (all_texts_at m v t [] us))))) f
    → n ≡ table_number (debug_data v) t → g ≡ fault_at f n → Blames (LongTable m v t us) g
table-row m v t us NoMemory g n placed b number is = subst (Blames (LongTable m v t us)) (sym is) tt
table-row m v t us (Refused r) g n placed (long over) number is =
    subst (Blames (LongTable m v t us)) (sym (is ∙ ap (fault_at (Refused r)) number)) (long_table (long-there m v t us placed over) over)

pub ruleset table_rules = (table-row)

-- one of the two tables is made with the new places that are known in it, or would be too long
pub known-made : {m : PathMap} {v : View} {table : TextSection} {us : List SectionFields} {pool : TextTable} {known new : Bool → ℕ → Option ℕ} → new ≡ known
    → TableMade m v table us pool known → TableMade m v table us pool new
known-made {m} {v} {table} {us} {pool} e made = subst (TableMade m v table us pool) (sym e) made

pub tables-row : (m : PathMap) (v : View) (t : TextSection) (us : List SectionFields) (f : Fault) → Blames (LongTable m v t us) f → Blames (TablesRefuse m v us) f
tables-row m v t us NoMemory b = tt
tables-row m v t us (Refused r) b = one_is_long t b

-- where a pass over sections stands, by the texts and the places in front of it
pub record TablePass (m : PathMap) (v : View) (table : TextSection) (us : List SectionFields) (front : List (List ℕ)) (first : Bool → ℕ → Option ℕ) (pool : TextTable)
    (known : Bool → ℕ → Option ℕ) (i : ℕ) : Type 0 where
  pub grown : Growing m v table pool known
  pub texts : all_texts_at m v table pool.texts (drop i us) ≡ all_texts_at m v table front us
  pub noted : AllNoted v table us i known
  pub remembers : Remembers first known

pub pass-starts : (m : PathMap) (v : View) (table : TextSection) (us : List SectionFields) (pool : TextTable) (known : Bool → ℕ → Option ℕ) → Growing m v table pool known
    → TablePass m v table us pool.texts known pool known 0
pass-starts m v table us pool known g = record {
  grown = g;
  texts = refl;
  noted = record { each = λ (k : ℕ) (d : SectionFields) below within. absurd (omega (arith, below)) };
  remembers = remembers_all known;
}

sections-front : (us : List SectionFields) (u : SectionFields) (i : ℕ) → i < length us → u ≡ get_or us i u → drop i us ≡ u ∷ drop (i + 1) us
sections-front us u i lt is =
    let next : suc i ≡ i + 1 = omega arith in
    drop-cons us i u lt ∙ ap (λ (n : ℕ). get_or us i u ∷ drop n us) next ∙ ap (λ (y : SectionFields). y ∷ drop (i + 1) us) (sym is)

get_or-any : (us : List SectionFields) (i : ℕ) (d u : SectionFields) → i < length us → get_or us i d ≡ get_or us i u
get_or-any [] i d u lt = absurd (omega arith)
get_or-any (x ∷ xs) zero d u lt = refl
get_or-any (x ∷ xs) (suc i) d u lt = get_or-any xs i d u (omega arith)

pub noted-later : (v : View) (table : TextSection) (u : SectionFields) (old new : Bool → ℕ → Option ℕ) → Remembers old new → IsSectionNoted v table u old
    → IsSectionNoted v table u new
noted-later v table u old new r n = record {
  each = λ (k : ℕ) (d : OffsetField) lt within. record { noted = r.each _ _ (n.each k d lt within).noted };
}

pub pass-more : (m : PathMap) (v : View) (table : TextSection) (us : List SectionFields) (front : List (List ℕ)) (first : Bool → ℕ → Option ℕ) (old new : TextTable) (was known : Bool → ℕ → Option ℕ)
    (i : ℕ) (u : SectionFields) → i < length us → u ≡ get_or us i u → TablePass m v table us front first old was i → GrownBy m v table u old new was known
    → TablePass m v table us front first new known (i + 1)
pass-more m v table us front first old new was known i u lt is p g = record {
  grown = g.grown;
  texts = ap (λ (ts : List (List ℕ)). all_texts_at m v table ts (drop (i + 1) us)) g.texts
      ∙ sym (ap (all_texts_at m v table old.texts) (sections-front us u i lt is)) ∙ p.texts;
  noted = record {
    each = λ (k : ℕ) (d : SectionFields) (below : k < i + 1) (within : k < length us). elim (cases_lt k i) [
      | inl before ↦ noted-later v table (get_or us k d) was known g.remembers (p.noted.each k d before within)
      | inr past ↦
          let same : i ≡ k = omega arith in
          let here : u ≡ get_or us k d = is ∙ get_or-any us i u d (omega arith) ∙ ap (λ (n : ℕ). get_or us n d) same in
          subst (λ (x : SectionFields). IsSectionNoted v table x known) here g.noted
    ];
  };
  remembers = remembers_on first was known p.remembers g.remembers;
}

pub pass-ends : (m : PathMap) (v : View) (table : TextSection) (us : List SectionFields) (old pool : TextTable) (first known : Bool → ℕ → Option ℕ) (i : ℕ) → length us ≤ i
    → TablePass m v table us old.texts first pool known i → GrownByAll m v table us old pool first known
pass-ends m v table us old pool first known i end p = record {
  grown = p.grown;
  texts = ap (all_texts_at m v table pool.texts) (sym (drop_all i us end)) ∙ p.texts;
  noted = record { each = λ (k : ℕ) (d : SectionFields) lt within. p.noted.each k d (omega (arith, end, within)) within };
  remembers = p.remembers;
}

pub length-all_texts : (m : PathMap) (v : View) (table : TextSection) (ts : List (List ℕ)) (us : List SectionFields) → length (laid_texts ts) ≤ length (laid_texts (all_texts_at m v table ts us))
length-all_texts m v table ts [] = omega arith
length-all_texts m v table ts (u ∷ us) =
    omega (arith, length-texts_at m (source_in v u.number table) ts (fields_of table u), length-all_texts m v table (section_texts_at m v table ts u) us)

-- a table that is too long with some of the texts is too long with all
pub longer-refused : (some all : List (List ℕ)) (f : Fault) → length (laid_texts some) ≤ length (laid_texts all)
    → Blames (TooLong (length (table_bytes (table_with some)))) f → Blames (TooLong (length (table_bytes (table_with all)))) f
longer-refused some all NoMemory longer b = tt
longer-refused some all (Refused _) longer (long over) =
    long (omega (arith, longer, over))

pub pass-refused : (m : PathMap) (v : View) (table : TextSection) (us : List SectionFields) (front : List (List ℕ)) (first : Bool → ℕ → Option ℕ) (pool : TextTable) (known : Bool → ℕ → Option ℕ) (i : ℕ)
    (u : SectionFields) (f : Fault) → i < length us → u ≡ get_or us i u → TablePass m v table us front first pool known i
    → Blames (TooLong (length (table_bytes (table_with (section_texts_at m v table pool.texts u))))) f
    → Blames (TooLong (length (table_bytes (table_with (all_texts_at m v table front us))))) f
pass-refused m v table us front first pool known i u f lt is p b =
    let whole : all_texts_at m v table (section_texts_at m v table pool.texts u) (drop (i + 1) us) ≡ all_texts_at m v table front us =
    sym (ap (all_texts_at m v table pool.texts) (sections-front us u i lt is)) ∙ p.texts in
    longer-refused (section_texts_at m v table pool.texts u) (all_texts_at m v table front us) f
    (subst (λ (ts : List (List ℕ)). length (laid_texts (section_texts_at m v table pool.texts u)) ≤ length (laid_texts ts)) whole
    (length-all_texts m v table (section_texts_at m v table pool.texts u) (drop (i + 1) us))) b
