-- Laws of the offsets of texts in a header's lists: column by column, entry by entry, and of both lists.
use Rattle.std.proofs.Common.{Bool, true, false, ◌≡◌, ◌≢◌, ℕ, zero, suc, ◌+◌, ◌-◌, ◌<◌, ◌≤◌, ◌==◌, ◌||◌, if◌then◌else◌, List, [], ◌∷◌, ◌++◌, length, take, drop, get_or, Option, Some, refl, sym, ap, ◌∙◌, subst, arith}
use Rattle.std.specs.Prelude.{Ok, Err}
use Rattle.std.proofs.Math.Seq.{drop-cons}
use Rattle.std.proofs.lemmas.Bool.Decides.{nat_tests}
use Rattle.std.proofs.lemmas.List.{append-nil, append_assoc, drop_all}
use Rattle.dw_base.specs.FileViews.{View, section_bytes}
use Rattle.dw_base.specs.Lebs.{uleb_at}
use Rattle.dw_base.specs.LineEntries.{column_at, counted_entries, entries_at, entry_at, list_end, place_behind}
use Rattle.dw_base.specs.LineFails.{ListsFail, new_dirs, new_files}
use Rattle.dw_base.specs.LineFields.{column_field, entries_fields, entry_fields, fields_behind, fields_counted, list_fields, table_fields}
use Rattle.dw_base.specs.LineFormats.{format_at}
use Rattle.dw_base.specs.LineHeaders.{line_header}
use Rattle.dw_base.specs.LineReadings.{LineReading, ReadsTable}
use Rattle.dw_base.specs.LineSources.{LineSource}
use Rattle.dw_base.specs.LineTables.{HasLists, IsLineTable, LineTable, new_lists, table_bytes, texts_of}
use Rattle.dw_base.specs.Refusals.{Blames}
use Rattle.dw_base.specs.RelocationRows.{FieldPlace}
use Rattle.dw_base.specs.declared.dwarf_numbers.TheConstants.{DW_FORM_line_strp, DW_FORM_strp}
use Rattle.dw_base.specs.declared.fault.Fault.{Fault}
use Rattle.dw_base.specs.declared.fault.Fault.TheVariants.{NoMemory, Refused}
use Rattle.dw_base.specs.declared.fault.Refusal.{Refusal}
use Rattle.dw_base.specs.declared.line_tables.Column.{Column}
use Rattle.dw_base.specs.declared.line_tables.FilePlace.{FilePlace}
use Rattle.dw_base.specs.declared.line_tables.LineHeader.{LineHeader}
use Rattle.dw_base.specs.declared.line_tables.TextPlace.{TextPlace}
use Rattle.dw_base.specs.declared.shared.Width.{Width}
use Rattle.dw_base.specs.declared.values.Spec.{Spec}
use Rattle.dw_lines.specs.HeaderFields.{AreHeaderFields, EntriesEnd, HasTable, HeaderHas, ListEnds, ListsEnd, header_fields, offset_places, offsets_at}
use Rattle.dw_lines.specs.ViewSources.{view_source}
use Rattle.dw_lines.proofs.EntryLaws.{EntriesFrom, entries-more, entries-over, entries-start}
use Rattle.dw_lines.proofs.EntryTextLaws.{read-refused}
use Rattle.dw_lines.proofs.ReadingLaws.{reading_of, reading-reads, reading-table}
use Rattle.dw_lines.proofs.TableLaws.{header-once, lists-end, lists-exclude}

-- the place of one more column
pub place-there : (spec : Spec) (place : ℕ) (old new : List ℕ) → (spec.form == DW_FORM_strp || spec.form == DW_FORM_line_strp) ≡ true → new ≡ old ++ place ∷ []
    → new ≡ old ++ offset_places spec place
place-there spec place old new e n = n ∙ rw e refl

pub place-none : (spec : Spec) (place : ℕ) (old : List ℕ) → (spec.form == DW_FORM_strp || spec.form == DW_FORM_line_strp) ≡ false → old ≡ old ++ offset_places spec place
place-none spec place old e = sym (append-nil old) ∙ rw e refl

pub ruleset place_laws = (place-there, place-none)

offsets-append : (w : Width) (ps qs : List ℕ) → offsets_at w (ps ++ qs) ≡ offsets_at w ps ++ offsets_at w qs
offsets-append w [] qs = refl
offsets-append w (p ∷ ps) qs = ap (λ (fs : List FieldPlace). offsets_at w (p ∷ []) ++ fs) (offsets-append w ps qs)

column-offset : (h : LineHeader) (spec : Spec) (place : ℕ) → offsets_at h.width (offset_places spec place) ≡ column_field h spec place
column-offset h spec place = by_form (spec.form == DW_FORM_strp || spec.form == DW_FORM_line_strp)
  where
    by_form : (b : Bool) → offsets_at h.width (if b then place ∷ [] else []) ≡ (if b then offsets_at h.width (place ∷ []) else [])
    by_form true = refl
    by_form false = refl

-- the columns one after another
columns-step : (g : LineSource) (h : LineHeader) (table : List ℕ) (specs : List Spec) (i : ℕ) (d : Spec) (place : ℕ) → i < length specs
    → entry_fields g h table (drop i specs) place
    ≡ column_field h (get_or specs i d) place
    ++ fields_behind (λ p. entry_fields g h table (drop (i + 1) specs) p) (column_at g h table (get_or specs i d) place)
columns-step g h table specs i d place lt =
    let one : suc i ≡ i + 1 = omega arith in
    ap (λ (ss : List Spec). entry_fields g h table ss place) (drop-cons specs i d lt)
    ∙ ap (λ (k : ℕ). column_field h (get_or specs i d) place
    ++ fields_behind (λ p. entry_fields g h table (drop k specs) p) (column_at g h table (get_or specs i d) place)) one

offsets-more : (h : LineHeader) (spec : Spec) (place : ℕ) (so more : List ℕ) → more ≡ so ++ offset_places spec place
    → offsets_at h.width more ≡ offsets_at h.width so ++ column_field h spec place
offsets-more h spec place so more m =
    ap (offsets_at h.width) m ∙ offsets-append h.width so (offset_places spec place) ∙ ap (λ (fs : List FieldPlace). offsets_at h.width so ++ fs) (column-offset h spec place)

pub columns-more : (whole : List FieldPlace) (g : LineSource) (h : LineHeader) (table : List ℕ) (specs : List Spec) (i : ℕ) (d : Spec) (place : ℕ) (c : Column) (so more : List ℕ)
    → offsets_at h.width so ++ entry_fields g h table (drop i specs) place ≡ whole → i < length specs → more ≡ so ++ offset_places (get_or specs i d) place
    → Ok c ≡ column_at g h table (get_or specs i d) place → offsets_at h.width more ++ entry_fields g h table (drop (i + 1) specs) c.next ≡ whole
columns-more whole g h table specs i d place c so more w lt m e =
    let rest = entry_fields g h table (drop (i + 1) specs) c.next in
    ap (λ (fs : List FieldPlace). fs ++ rest) (offsets-more h (get_or specs i d) place so more m)
    ∙ append_assoc (offsets_at h.width so) (column_field h (get_or specs i d) place) rest
    ∙ ap (λ (fs : List FieldPlace). offsets_at h.width so ++ (column_field h (get_or specs i d) place ++ fs))
    (ap (fields_behind (λ p. entry_fields g h table (drop (i + 1) specs) p)) e)
    ∙ ap (λ (fs : List FieldPlace). offsets_at h.width so ++ fs) (sym (columns-step g h table specs i d place lt))
    ∙ w

pub columns-stop : (whole : List FieldPlace) (g : LineSource) (h : LineHeader) (table : List ℕ) (specs : List Spec) (i : ℕ) (d : Spec) (place : ℕ) (r : Refusal) (so more : List ℕ)
    → offsets_at h.width so ++ entry_fields g h table (drop i specs) place ≡ whole → i < length specs → more ≡ so ++ offset_places (get_or specs i d) place
    → Err r ≡ column_at g h table (get_or specs i d) place → offsets_at h.width more ≡ whole
columns-stop whole g h table specs i d place r so more w lt m e =
    offsets-more h (get_or specs i d) place so more m
    ∙ ap (λ (fs : List FieldPlace). offsets_at h.width so ++ fs)
    (sym (append-nil (column_field h (get_or specs i d) place))
    ∙ ap (λ (fs : List FieldPlace). column_field h (get_or specs i d) place ++ fs) (ap (fields_behind (λ p. entry_fields g h table (drop (i + 1) specs) p)) e)
    ∙ sym (columns-step g h table specs i d place lt))
    ∙ w

pub columns-over : (whole : List FieldPlace) (g : LineSource) (h : LineHeader) (table : List ℕ) (specs : List Spec) (i place : ℕ) (so : List ℕ)
    → offsets_at h.width so ++ entry_fields g h table (drop i specs) place ≡ whole → length specs ≤ i → offsets_at h.width so ≡ whole
columns-over whole g h table specs i place so w le =
    sym (append-nil (offsets_at h.width so))
    ∙ ap (λ (ss : List Spec). offsets_at h.width so ++ entry_fields g h table ss place) (sym (drop_all i specs le)) ∙ w

-- the entries one after another
pub record EntriesGo (g : LineSource) (h : LineHeader) (table : List ℕ) (specs : List Spec) (place left : ℕ) (before so : List ℕ) (next : ℕ) : Type 0 where
  pub files : List FilePlace
  pub read : EntriesFrom g h table specs place left files next
  pub fields : offsets_at h.width so ++ entries_fields g h table specs left next ≡ offsets_at h.width before ++ fields_counted g h table specs place (uleb_at table place)

pub go-start : (g : LineSource) (h : LineHeader) (table : List ℕ) (specs : List Spec) (place count size next : ℕ) (before so : List ℕ) → Some (count, size) ≡ uleb_at table place
    → next ≡ place + size → so ≡ before → EntriesGo g h table specs place count before so next
go-start g h table specs place count size next before so e n b = record {
  files = [];
  read = entries-start g h table specs place count size next e n;
  fields = ap (λ (ps : List ℕ). offsets_at h.width ps ++ entries_fields g h table specs count next) b
      ∙ ap (λ (k : ℕ). offsets_at h.width before ++ entries_fields g h table specs count k) n
      ∙ ap (λ (o : Option (ℕ × ℕ)). offsets_at h.width before ++ fields_counted g h table specs place o) e;
}

entries-step : (g : LineSource) (h : LineHeader) (table : List ℕ) (specs : List Spec) (n next behind : ℕ) (f : FilePlace) → Ok (f, behind) ≡ entry_at g h table specs next
    → entries_fields g h table specs (suc n) next ≡ entry_fields g h table specs next ++ entries_fields g h table specs n behind
entries-step g h table specs n next behind f e = rw (← e) refl

pub go-more : (g : LineSource) (h : LineHeader) (table : List ℕ) (specs : List Spec) (place left next behind : ℕ) (f : FilePlace) (before so more : List ℕ)
    → EntriesGo g h table specs place left before so next → 0 < left → offsets_at h.width more ≡ offsets_at h.width so ++ entry_fields g h table specs next
    → entry_at g h table specs next ≡ Ok (f, behind) → EntriesGo g h table specs place (left - 1) before more behind
go-more g h table specs place zero next behind f before so more go lt m e = absurd (omega (arith, lt))
go-more g h table specs place (suc n) next behind f before so more go lt m e =
    let same : n ≡ suc n - 1 = omega arith in
    let rest = entries_fields g h table specs n behind in
    subst (λ (k : ℕ). EntriesGo g h table specs place k before more behind) same
    (record {
      files = go.files ++ f ∷ [];
      read = subst (λ (k : ℕ). EntriesFrom g h table specs place k (go.files ++ f ∷ []) behind) (sym same)
          (entries-more g h table specs place (suc n) next behind go.files (go.files ++ f ∷ []) f go.read lt (sym e) refl);
      fields = ap (λ (fs : List FieldPlace). fs ++ rest) m
          ∙ append_assoc (offsets_at h.width so) (entry_fields g h table specs next) rest
          ∙ ap (λ (fs : List FieldPlace). offsets_at h.width so ++ fs) (sym (entries-step g h table specs n next behind f (sym e)))
          ∙ go.fields;
    })

pub go-end : (g : LineSource) (h : LineHeader) (table : List ℕ) (specs : List Spec) (place left next : ℕ) (before so : List ℕ)
    → EntriesGo g h table specs place left before so next → left ≤ 0 → EntriesEnd g h table specs place next
go-end g h table specs place left next before so go le = record { files = go.files; read = entries-over g h table specs place left next go.files go.read le }

pub go-over : (g : LineSource) (h : LineHeader) (table : List ℕ) (specs : List Spec) (place left next : ℕ) (before so : List ℕ)
    → EntriesGo g h table specs place left before so next → left ≤ 0
    → offsets_at h.width so ≡ offsets_at h.width before ++ fields_counted g h table specs place (uleb_at table place)
go-over g h table specs place zero next before so go le = sym (append-nil (offsets_at h.width so)) ∙ go.fields
go-over g h table specs place (suc n) next before so go le = absurd (omega (arith, le))

pub go-refused : (g : LineSource) (h : LineHeader) (table : List ℕ) (specs : List Spec) (place left next : ℕ) (before so : List ℕ) (f : Fault)
    → EntriesGo g h table specs place left before so next → 0 < left → Blames (λ r. entry_at g h table specs next ≡ Err r) f
    → Blames (λ r. counted_entries g h table specs place (uleb_at table place) ≡ Err r) f
go-refused g h table specs place left next before so f go lt b = read-refused g h table specs place left next go.files f go.read lt b

pub ruleset entry_laws = (go-start, go-more, go-end, go-over, go-refused)

-- a list by its format
pub list-more : (g : LineSource) (h : LineHeader) (table : List ℕ) (place next : ℕ) (specs : List Spec) (before more : List ℕ) → format_at table place ≡ Some (specs, next)
    → offsets_at h.width more ≡ offsets_at h.width before ++ fields_counted g h table specs next (uleb_at table next)
    → offsets_at h.width more ≡ offsets_at h.width before ++ list_fields g h table place
list-more g h table place next specs before more f m = m ∙ rw f refl

pub list-end-is : (g : LineSource) (h : LineHeader) (table : List ℕ) (place next end : ℕ) (specs : List Spec) → format_at table place ≡ Some (specs, next)
    → EntriesEnd g h table specs next end → ListEnds g h table place end
unfolding entries_at
list-end-is g h table place next end specs f e = record { files = e.files; read = rw f e.read }

pub ruleset list_laws = (list-more, list-end-is)

-- both lists
pub both-end : (g : LineSource) (h : LineHeader) (table : List ℕ) (place behind : ℕ) → h.version ≡ 5 → ListEnds g h table h.lists place → ListEnds g h table place behind
    → ListsEnd g h table behind
both-end g h table place behind five a b = record { dirs = texts_of a.files; files = b.files; read = new_lists a.files b.files place behind five a.read b.read }

pub both-fields : (g : LineSource) (h : LineHeader) (table : List ℕ) (place : ℕ) (none dirs files : List ℕ) → h.version ≡ 5 → none ≡ [] → ListEnds g h table h.lists place
    → offsets_at h.width dirs ≡ offsets_at h.width none ++ list_fields g h table h.lists
    → offsets_at h.width files ≡ offsets_at h.width dirs ++ list_fields g h table place
    → offsets_at h.width files ≡ header_fields g h table
both-fields g h table place none dirs files five e ends d f =
    let five_test : (h.version == 5) ≡ true = grind (arith, nat_tests, five) in
    let end : place ≡ list_end g h table h.lists = ap (place_behind h.lists) (sym ends.read) in
    f ∙ ap (λ (fs : List FieldPlace). fs ++ list_fields g h table place) (d ∙ ap (λ (ps : List ℕ). offsets_at h.width ps ++ list_fields g h table h.lists) e)
    ∙ ap (λ (k : ℕ). list_fields g h table h.lists ++ list_fields g h table k) end
    ∙ rw five_test refl

pub none-fields : (g : LineSource) (h : LineHeader) (table : List ℕ) (places : List ℕ) → h.version ≢ 5 → places ≡ [] → offsets_at h.width places ≡ header_fields g h table
none-fields g h table places other e =
    let test : (h.version == 5) ≡ false = grind (arith, nat_tests, other) in
    ap (offsets_at h.width) e ∙ rw test refl

pub dirs-fault : (g : LineSource) (h : LineHeader) (table : List ℕ) (f : Fault) → h.version ≡ 5
    → Blames (λ r. entries_at g h table h.lists ≡ Err r) f → Blames (ListsFail g h table) f
dirs-fault g h table NoMemory five b = tt
dirs-fault g h table (Refused r) five b = new_dirs five b

pub files-fault : (g : LineSource) (h : LineHeader) (table : List ℕ) (place : ℕ) (f : Fault) → h.version ≡ 5
    → ListEnds g h table h.lists place → Blames (λ r. entries_at g h table place ≡ Err r) f → Blames (ListsFail g h table) f
files-fault g h table place NoMemory five ends b = tt
files-fault g h table place (Refused r) five ends b = new_files ends.files place five ends.read b

pub lists-here : (g : LineSource) (h : LineHeader) (table : List ℕ) (dirs : List TextPlace) (files : List FilePlace) (behind : ℕ) → HasLists g h table dirs files behind
    → ListsEnd g h table behind
lists-here g h table dirs files behind read = record { dirs = dirs; files = files; read = read }

pub ruleset both_laws = (both-end, both-fields, none-fields, dirs-fault, files-fault, lists-here)

-- of a table that can be read
pub table-header : (g : LineSource) (start : ℕ) (has : HasTable g start) (h : LineHeader) → Some h ≡ line_header g.order g.bytes start → h ≡ has.is.header
table-header g start has h e = header-once h has.is.header (line_header g.order g.bytes start) (sym e) has.is.header_is

pub table-fields : (g : LineSource) (start : ℕ) (h : LineHeader) (table places : List ℕ) (r : LineReading) → Some h ≡ line_header g.order g.bytes start
    → table ≡ take h.end g.bytes → offsets_at h.width places ≡ header_fields g h table → ReadsTable g start r → offsets_at r.header.width places ≡ table_fields g r
table-fields g start h table places r e t f reads =
    let same : h ≡ r.header = header-once h r.header (line_header g.order g.bytes start) (sym e) reads.header in
    subst (λ (x : LineHeader). offsets_at x.width places ≡ header_fields g x (table_bytes g x)) same
    (f ∙ ap (header_fields g h) t)

pub table-end : (g : LineSource) (start : ℕ) (h : LineHeader) (table : List ℕ) (behind : ℕ) (r : LineReading) → Some h ≡ line_header g.order g.bytes start
    → table ≡ take h.end g.bytes → ListsEnd g h table behind → ReadsTable g start r → behind ≡ r.behind
table-end g start h table behind r e t ends reads =
    let same : h ≡ r.header = header-once h r.header (line_header g.order g.bytes start) (sym e) reads.header in
    let here : HasLists g h (table_bytes g h) ends.dirs ends.files behind = subst (λ (x : List ℕ). HasLists g h x ends.dirs ends.files behind) t ends.read in
    lists-end g r.header (table_bytes g r.header) ends.dirs r.dirs ends.files r.files behind r.behind
    (subst (λ (x : LineHeader). HasLists g x (table_bytes g x) ends.dirs ends.files behind) same here) reads.lists

pub header-has : (v : View) (section start : ℕ) (h : LineHeader) (bytes table places : List ℕ) (behind : ℕ)
    → Some h ≡ line_header v.order (section_bytes v section) start → bytes ≡ section_bytes v section → table ≡ take h.end bytes
    → offsets_at h.width places ≡ header_fields (view_source v section) h table → ListsEnd (view_source v section) h table behind
    → HeaderHas (view_source v section) start places behind
header-has v section start h bytes table places behind e b t f ends =
    let same : table ≡ take h.end (section_bytes v section) = t ∙ ap (take h.end) b in
    record {
      fields = λ r reads. table-fields (view_source v section) start h table places r e same f reads;
      end = λ r reads. table-end (view_source v section) start h table behind r e same ends reads;
    }

pub header-only : (v : View) (section start : ℕ) (h : LineHeader) (bytes table : List ℕ) (f : Fault) → HasTable (view_source v section) start
    → Some h ≡ line_header v.order (section_bytes v section) start → bytes ≡ section_bytes v section → table ≡ take h.end bytes
    → Blames (ListsFail (view_source v section) h table) f → f ≡ NoMemory
header-only v section start h bytes table NoMemory has e b t fails = refl
header-only v section start h bytes table (Refused r) has e b t fails =
    let same : h ≡ has.is.header = table-header (view_source v section) start has h e in
    let here : table ≡ table_bytes (view_source v section) h = t ∙ ap (take h.end) b in
    absurd (lists-exclude (view_source v section) has.is.header (table_bytes (view_source v section) has.is.header) has.is.dirs has.is.files has.is.behind r has.is.lists
    (subst (λ (x : LineHeader). ListsFail (view_source v section) x (table_bytes (view_source v section) x) r) same
    (subst (λ (x : List ℕ). ListsFail (view_source v section) h x r) here fails)))

pub ruleset header_laws = (header-has, header-only)

-- of a table that was read
pub own-fields : (v : View) (section start : ℕ) (t : LineTable) (places : List ℕ) (behind : ℕ) → section ≡ t.section → start ≡ t.start
    → IsLineTable (view_source v t.section) t.start t → HeaderHas (view_source v section) start places behind → AreHeaderFields (view_source v t.section) t places behind
own-fields v section start t places behind s p is has =
    let here : HeaderHas (view_source v t.section) t.start places behind =
    subst (λ (k : ℕ). HeaderHas (view_source v t.section) k places behind) p (subst (λ (k : ℕ). HeaderHas (view_source v k) start places behind) s has) in
    let reads = reading-reads (view_source v t.section) t.start t is in
    let width : t.width ≡ is.header.width = ap (λ (x : LineTable). x.width) is.is in
    record {
      reading = reading_of is;
      reads = reads;
      is = reading-table (view_source v t.section) t.start t is;
      fields = ap (λ (w : Width). offsets_at w places) width ∙ here.fields (reading_of is) reads;
      end = here.end (reading_of is) reads;
    }
