-- Laws of a pass over line tables.
use Rattle.std.proofs.Common.{Bool, true, ◌≡◌, ℕ, ◌+◌, ◌<◌, ◌≤◌, ◌^◌, ◌==◌, if◌then◌else◌, List, [], ◌∷◌, ◌++◌, length, drop, get_or, Result, refl, sym, ap, ◌∙◌, subst, arith, append_assoc, append-nil}
use Rattle.std.proofs.lemmas.List.{drop_all}
use Rattle.dw_base.specs.Cells.{Cell}
use Rattle.dw_base.specs.FileViews.{View}
use Rattle.dw_base.specs.Forms.{width_size}
use Rattle.dw_base.specs.LineFields.{line_fields, table_fields}
use Rattle.dw_base.specs.LineHeaders.{header_with}
use Rattle.dw_base.specs.LineReadings.{LineReading, ReadsTable, TablesTo, table_read}
use Rattle.dw_base.specs.LineSources.{LineSource}
use Rattle.dw_base.specs.LineTables.{IsLineTable, LineTable}
use Rattle.dw_base.specs.Refusals.{Blames}
use Rattle.dw_base.specs.RelocationRows.{FieldPlace, HeaderFails, HeaderReads, field_place, has_offset_at, offset_field}
use Rattle.dw_base.specs.RelocationRows.HeaderFails.{other_field, reaches}
use Rattle.dw_base.specs.TextIndexes.{holds_number}
use Rattle.dw_base.specs.declared.fault.Fault.{Fault}
use Rattle.dw_base.specs.declared.fault.Fault.TheVariants.{NoMemory, Refused}
use Rattle.dw_base.specs.declared.fault.Refusal.{Refusal}
use Rattle.dw_base.specs.declared.line_tables.LineHeader.{LineHeader}
use Rattle.dw_base.specs.declared.shared.Width.{Width}
use Rattle.dw_base.specs.declared.shared.Width.TheVariants.{W32, W64}
use Rattle.dw_lines.specs.HeaderFields.{AreHeaderFields, offsets_at}
use Rattle.dw_lines.specs.ViewSources.{view_source}
use Rattle.dw_lines.specs.ViewTables.{TablesUpTo, tables_read}
use Rattle.dw_lines.proofs.ReadingLaws.{table-back}
use Rattle.dw_meaning.proofs.LineHeaderLaws.{header-is}
use Rattle.dw_meaning.proofs.LineOneLaws.{table-one}
use Rattle.dw_relocs.specs.FieldWalks.{Goes, Ground, StandsAt}
use Rattle.dw_relocs.specs.HeaderChecks.{AreOwn, Climb, IsApart, IsOther, Reaches, Rises}
use Rattle.dw_relocs.specs.HeaderChecks.IsOther.{other}
use Rattle.dw_relocs.specs.HeaderChecks.Reaches.{reaches_over}
use Rattle.dw_relocs.specs.LinePasses.{HeaderHolds, HeadersHold, LinesPassed, LinesRefuse, TablePassed, TableRefuses, TablesSo}
use Rattle.dw_relocs.specs.LinePasses.LinesRefuse.{header_refuses}
use Rattle.dw_relocs.specs.declared.marks.Marks.{Marks}
use Rattle.dw_relocs.proofs.WalkLaws.{goes-more, goes-none, goes-to, stands-on}
use Rattle.dw_relocs.proofs.ListItemLaws.{front-at}

-- the header
offset-holds : (w : Width) (ps : List ℕ) (p : ℕ) → has_offset_at (offsets_at w ps) p ≡ holds_number ps p
offset-holds w [] p = refl
offset-holds w (q ∷ qs) p = ap (λ (b : Bool). if q == p then true else b) (offset-holds w qs p)

size-some : (w : Width) → 1 ≤ width_size w
size-some W32 = omega arith
size-some W64 = omega arith

climb-rises : (ps : List ℕ) (n from to start : ℕ) → 1 ≤ n → start ≤ from → Rises from n ps to → Climb start ps to
climb-rises [] n from to start some le h = omega (arith, le, h)
climb-rises (p ∷ ps) n from to start some le h =
    let here = h.0 in
    (omega (arith, le, here), climb-rises ps n (p + n) to (p + 1) some (omega (arith, some)) h.1)

pub header-climbs : (start behind : ℕ) (w : Width) (places : List ℕ) → Rises start (width_size w) places behind → Climb start places behind
header-climbs start behind w places h = climb-rises places (width_size w) start behind start (size-some w) (omega arith) h

pub header-small : (behind n : ℕ) → behind ≤ n → n ≤ 2 ^ 31 → behind ≤ 2 ^ 31
header-small behind n a b = omega (arith, a, b)

pub header-reads : (cells : List Cell) (start behind : ℕ) (w : Width) (places : List ℕ) → IsApart cells start → AreOwn cells start behind places
    → HeaderReads start behind cells (offsets_at w places)
header-reads cells start behind w places apart own = record {
  own = λ p r begins above below. offset-holds w places p ∙ own.own p r begins above below;
  apart = apart.apart;
}

pub header-reaches : (section : ℕ) (cells : List Cell) (start behind : ℕ) (w : Width) (places : List ℕ) (x : Refusal) → Reaches section cells start x
    → HeaderFails section start behind cells (offsets_at w places) x
header-reaches section cells start behind w places x (reaches_over p r begins before behind_) = reaches p r begins before behind_

pub header-other : (section : ℕ) (cells : List Cell) (start behind : ℕ) (w : Width) (places : List ℕ) (x : Refusal) → IsOther section cells start behind places x
    → HeaderFails section start behind cells (offsets_at w places) x
header-other section cells start behind w places x (other p r begins above below none) = other_field p r begins above below (offset-holds w places p ∙ none)

pub ruleset header_rules = (header-climbs, header-small, header-reads, header-reaches, header-other)

-- offsets at places that rise
pub record PlacesSo (g : Ground) (start : ℕ) (w : Width) (places : List ℕ) (behind i : ℕ) (p q : Result Marks Refusal) : Type 0 where
  pub at_place : ℕ
  pub front : List FieldPlace
  pub is : front ++ offsets_at w (drop i places) ≡ offsets_at w places
  pub rest : Rises at_place (width_size w) (drop i places) behind
  pub goes : Goes g start at_place front p q

pub places-start : (g : Ground) (start behind : ℕ) (w : Width) (places : List ℕ) (p : Result Marks Refusal) → Rises start (width_size w) places behind
    → StandsAt g.cells start p → PlacesSo g start w places behind 0 p p
places-start g start behind w places p rise stands =
    record { at_place = start; front = []; is = refl; rest = rise; goes = goes-none g start start p (omega arith) stands }

rest-at : (places : List ℕ) (w : Width) (behind i at_place place : ℕ) → i < length places → place ≡ get_or places i place
    → Rises at_place (width_size w) (drop i places) behind → (at_place ≤ place) × Rises (place + width_size w) (width_size w) (drop (i + 1) places) behind
rest-at places w behind i at_place place lt is rest =
    subst (λ (ps : List ℕ). Rises at_place (width_size w) ps behind) (front-at places place i lt is) rest

rises-end : (ps : List ℕ) (n from to : ℕ) → Rises from n ps to → from ≤ to
rises-end [] n from to h = h
rises-end (p ∷ ps) n from to h =
    let le = h.0 in
    let rest = rises-end ps n (p + n) to h.1 in
    omega (arith, le, rest)

pub places-stand : (g : Ground) (start behind i place : ℕ) (w : Width) (places : List ℕ) (p q : Result Marks Refusal) → i < length places
    → place ≡ get_or places i place → PlacesSo g start w places behind i p q → StandsAt g.cells place q
places-stand g start behind i place w places p q lt is so =
    stands-on g.cells so.at_place place q (rest-at places w behind i so.at_place place lt is so.rest).0 so.goes.stands

pub places-inside : (g : Ground) (start behind i place size : ℕ) (w : Width) (places : List ℕ) (p q : Result Marks Refusal) → i < length places
    → place ≡ get_or places i place → size ≡ width_size w → PlacesSo g start w places behind i p q → place + size ≤ behind
places-inside g start behind i place size w places p q lt is sized so =
    let end = rises-end (drop (i + 1) places) (width_size w) (place + width_size w) behind (rest-at places w behind i so.at_place place lt is so.rest).1 in
    omega (arith, end, sized)

pub places-more : (g : Ground) (start behind i place size : ℕ) (w : Width) (places : List ℕ) (p q r : Result Marks Refusal) → i < length places
    → place ≡ get_or places i place → size ≡ width_size w → PlacesSo g start w places behind i p q
    → Goes g place (place + size) (field_place place size offset_field ∷ []) q r → PlacesSo g start w places behind (i + 1) p r
places-more g start behind i place size w places p q r lt is sized so goes =
    let next = rest-at places w behind i so.at_place place lt is so.rest in
    let own : Goes g place (place + width_size w) (field_place place (width_size w) offset_field ∷ []) q r =
    subst (λ (n : ℕ). Goes g place (place + n) (field_place place n offset_field ∷ []) q r) sized goes in
    record {
      at_place = place + width_size w;
      front = so.front ++ field_place place (width_size w) offset_field ∷ [];
      is =
          append_assoc so.front (field_place place (width_size w) offset_field ∷ []) (offsets_at w (drop (i + 1) places))
          ∙ ap (λ (ps : List ℕ). so.front ++ offsets_at w ps) (sym (front-at places place i lt is)) ∙ so.is;
      rest = next.1;
      goes = goes-more g start so.at_place place (place + width_size w) so.front (field_place place (width_size w) offset_field ∷ []) p q r next.0 so.goes own;
    }

pub places-end : (g : Ground) (start behind i : ℕ) (w : Width) (places : List ℕ) (p q : Result Marks Refusal) → length places ≤ i
    → PlacesSo g start w places behind i p q → Goes g start behind (offsets_at w places) p q
places-end g start behind i w places p q end so =
    let over : drop i places ≡ [] = drop_all i places end in
    let whole : so.front ≡ offsets_at w places =
    sym (append-nil so.front) ∙ ap (λ (ps : List ℕ). so.front ++ offsets_at w ps) (sym over) ∙ so.is in
    let last : so.at_place ≤ behind = subst (λ (ps : List ℕ). Rises so.at_place (width_size w) ps behind) over so.rest in
    goes-to g start so.at_place behind (offsets_at w places) p q last (subst (λ (fs : List FieldPlace). Goes g start so.at_place fs p q) whole so.goes)

pub ruleset place_rules = (places-start, places-end)

-- a table
pub own-source : (v : View) (i section start : ℕ) (t : LineTable) → section ≡ i → IsLineTable (view_source v i) start t → IsLineTable (view_source v section) start t
own-source v i section start t e is = subst (λ (n : ℕ). IsLineTable (view_source v n) start t) (sym e) is

pub own-fields : (v : View) (i section : ℕ) (t : LineTable) (places : List ℕ) (behind : ℕ) → section ≡ i
    → AreHeaderFields (view_source v section) t places behind → AreHeaderFields (view_source v i) t places behind
own-fields v i section t places behind e h = subst (λ (n : ℕ). AreHeaderFields (view_source v n) t places behind) e h

pub table-passed : (g : Ground) (s : LineSource) (t : LineTable) (places : List ℕ) (behind : ℕ) (p q : Result Marks Refusal) → AreHeaderFields s t places behind
    → behind ≤ t.end → HeaderReads t.start behind s.cells (offsets_at t.width places) → Goes g t.start behind (offsets_at t.width places) p q
    → TablePassed g s t p q
table-passed g s t places behind p q h within header goes = record {
  reading = h.reading;
  reads = h.reads;
  is = h.is;
  header =
      subst (λ (n : ℕ). HeaderReads n h.reading.behind s.cells (table_fields s h.reading)) (ap (λ (x : LineTable). x.start) h.is)
      (subst (λ (n : ℕ). HeaderReads t.start n s.cells (table_fields s h.reading)) h.end
      (subst (λ (fs : List FieldPlace). HeaderReads t.start behind s.cells fs) h.fields header));
  goes =
      goes-to g t.start behind t.end (table_fields s h.reading) p q within
      (subst (λ (fs : List FieldPlace). Goes g t.start behind fs p q) h.fields goes);
}

pub table-refuses : (s : LineSource) (t : LineTable) (places : List ℕ) (behind : ℕ) (x : Refusal) → AreHeaderFields s t places behind
    → HeaderFails s.number t.start behind s.cells (offsets_at t.width places) x → TableRefuses s t x
table-refuses s t places behind x h fails = record {
  reading = h.reading;
  reads = h.reads;
  fails =
      subst (λ (n : ℕ). HeaderFails s.number n h.reading.behind s.cells (table_fields s h.reading) x) (ap (λ (y : LineTable). y.start) h.is)
      (subst (λ (n : ℕ). HeaderFails s.number t.start n s.cells (table_fields s h.reading) x) h.end
      (subst (λ (fs : List FieldPlace). HeaderFails s.number t.start behind s.cells fs x) h.fields fails));
}

-- tables, one after another
pub tables-start : (g : Ground) (s : LineSource) (tables : List LineTable) (p : Result Marks Refusal) → TablesUpTo s tables (length s.bytes) → StandsAt g.cells 0 p
    → TablesSo g s tables 0 p p
tables-start g s tables p h stands = record {
  done = [];
  left = h.readings;
  place = 0;
  reads = refl;
  headers = tt;
  rest = h.reads;
  left_is = h.is;
  goes = goes-none g 0 0 p (omega arith) stands;
}

-- a header that was read stands where its table starts
header-starts : (s : LineSource) (place : ℕ) (r : LineReading) → ReadsTable s place r → r.header.start ≡ place
unfolding header_with
header-starts s place r reads = ap (λ (h : LineHeader). h.start) (header-is s.order s.bytes place r.header reads.header).is

-- the next one
pub record NextTable (g : Ground) (s : LineSource) (tables : List LineTable) (t : LineTable) (i : ℕ) (p q : Result Marks Refusal) (so : TablesSo g s tables i p q) : Type 0 where
  pub reading : LineReading
  pub rest : List LineReading
  pub reads : ReadsTable s so.place reading
  pub start_is : reading.header.start ≡ so.place
  pub table_is : t ≡ table_read s reading
  pub behind : TablesTo s reading.header.end rest (length s.bytes)
  pub left_is : drop (i + 1) tables ≡ tables_read s rest

pub next-table : (g : Ground) (s : LineSource) (tables : List LineTable) (t : LineTable) (i : ℕ) (p q : Result Marks Refusal) → i < length tables → t ≡ get_or tables i t
    → (so : TablesSo g s tables i p q) → NextTable g s tables t i p q so
next-table g s tables t i p q lt is so = by_left so.left so.rest (sym (front-at tables t i lt is) ∙ so.left_is)
  where
    head-is : (x y : LineTable) (xs ys : List LineTable) → x ∷ xs ≡ y ∷ ys → x ≡ y
    head-is x y xs ys e = cc

    tail-is : (x y : LineTable) (xs ys : List LineTable) → x ∷ xs ≡ y ∷ ys → xs ≡ ys
    tail-is x y xs ys e = cc

    none-is : (x : LineTable) (xs : List LineTable) → x ∷ xs ≡ [] → ⊥
    none-is x xs e = cc

    by_left : (left : List LineReading) → TablesTo s so.place left (length s.bytes) → t ∷ drop (i + 1) tables ≡ tables_read s left → NextTable g s tables t i p q so
    by_left [] reads e = absurd (none-is t (drop (i + 1) tables) e)
    by_left (r ∷ rs) reads e = record {
      reading = r;
      rest = rs;
      reads = reads.0;
      start_is = header-starts s so.place r reads.0;
      table_is = head-is t (table_read s r) (drop (i + 1) tables) (tables_read s rs) e;
      behind = reads.1;
      left_is = tail-is t (table_read s r) (drop (i + 1) tables) (tables_read s rs) e;
    }

-- what it needs
pub next-start : (g : Ground) (s : LineSource) (tables : List LineTable) (t : LineTable) (i : ℕ) (p q : Result Marks Refusal) → i < length tables → t ≡ get_or tables i t
    → TablesSo g s tables i p q → t.section ≡ s.number
next-start g s tables t i p q lt is so = ap (λ (x : LineTable). x.section) (next-table g s tables t i p q lt is so).table_is

start-at : (g : Ground) (s : LineSource) (tables : List LineTable) (t : LineTable) (i : ℕ) (p q : Result Marks Refusal) (so : TablesSo g s tables i p q)
    → NextTable g s tables t i p q so → t.start ≡ so.place
start-at g s tables t i p q so n = ap (λ (x : LineTable). x.start) n.table_is ∙ n.start_is

pub next-is : (g : Ground) (s : LineSource) (tables : List LineTable) (t : LineTable) (i : ℕ) (p q : Result Marks Refusal) → i < length tables → t ≡ get_or tables i t
    → TablesSo g s tables i p q → IsLineTable s t.start t
next-is g s tables t i p q lt is so =
    let n = next-table g s tables t i p q lt is so in
    subst (λ (x : ℕ). IsLineTable s x t) (sym (start-at g s tables t i p q so n)) (table-back s so.place t n.reading n.reads n.table_is)

pub next-stands : (g : Ground) (s : LineSource) (tables : List LineTable) (t : LineTable) (i : ℕ) (p q : Result Marks Refusal) → i < length tables → t ≡ get_or tables i t
    → TablesSo g s tables i p q → StandsAt g.cells t.start q
next-stands g s tables t i p q lt is so =
    let n = next-table g s tables t i p q lt is so in
    subst (λ (x : ℕ). StandsAt g.cells x q) (sym (start-at g s tables t i p q so n)) so.goes.stands

-- one more
tables-append : (s : LineSource) (p a b : ℕ) (rs : List LineReading) (r : LineReading) → TablesTo s p rs a → ReadsTable s a r → r.header.end ≡ b → TablesTo s p (rs ++ r ∷ []) b
tables-append s p a b [] r e reads end = (subst (λ (n : ℕ). ReadsTable s n r) (sym e) reads, end)
tables-append s p a b (x ∷ xs) r h reads end = (h.0, tables-append s x.header.end a b xs r h.1 reads end)

headers-append : (s : LineSource) (rs : List LineReading) (r : LineReading) → HeadersHold s rs → HeaderHolds s r → HeadersHold s (rs ++ r ∷ [])
headers-append s [] r h own = (own, tt)
headers-append s (x ∷ xs) r h own = (h.0, headers-append s xs r h.1 own)

fields-append : (s : LineSource) (rs : List LineReading) (r : LineReading) → line_fields s (rs ++ r ∷ []) ≡ line_fields s rs ++ table_fields s r
fields-append s [] r = append-nil (table_fields s r)
fields-append s (x ∷ xs) r =
    ap (λ (l : List FieldPlace). table_fields s x ++ l) (fields-append s xs r) ∙ sym (append_assoc (table_fields s x) (line_fields s xs) (table_fields s r))

pub tables-more : (g : Ground) (s : LineSource) (tables : List LineTable) (t : LineTable) (i : ℕ) (p q r : Result Marks Refusal) → i < length tables → t ≡ get_or tables i t
    → TablesSo g s tables i p q → TablePassed g s t q r → TablesSo g s tables (i + 1) p r
tables-more g s tables t i p q r lt is so passed =
    let n = next-table g s tables t i p q lt is so in
    let start = start-at g s tables t i p q so n in
    let reads : ReadsTable s so.place passed.reading = subst (λ (x : ℕ). ReadsTable s x passed.reading) start passed.reads in
    let same : n.reading ≡ passed.reading = table-one s so.place n.reading passed.reading n.reads reads in
    let end : t.end ≡ passed.reading.header.end = ap (λ (x : LineTable). x.end) passed.is in
    let goes : Goes g so.place passed.reading.header.end (table_fields s passed.reading) q r =
    subst (λ (x : ℕ). Goes g so.place x (table_fields s passed.reading) q r) end
    (subst (λ (x : ℕ). Goes g x t.end (table_fields s passed.reading) q r) start passed.goes) in
    record {
      done = so.done ++ passed.reading ∷ [];
      left = n.rest;
      place = passed.reading.header.end;
      reads = tables-append s 0 so.place passed.reading.header.end so.done passed.reading so.reads reads refl;
      headers = headers-append s so.done passed.reading so.headers passed.header;
      rest = subst (λ (x : LineReading). TablesTo s x.header.end n.rest (length s.bytes)) same n.behind;
      left_is = n.left_is;
      goes =
          subst (λ (fs : List FieldPlace). Goes g 0 passed.reading.header.end fs p r) (sym (fields-append s so.done passed.reading))
          (goes-more g 0 so.place so.place passed.reading.header.end (line_fields s so.done) (table_fields s passed.reading) p q r (omega arith) so.goes goes);
    }

pub tables-fail : (g : Ground) (s : LineSource) (tables : List LineTable) (t : LineTable) (i : ℕ) (p q : Result Marks Refusal) (f : Fault) → i < length tables
    → t ≡ get_or tables i t → TablesSo g s tables i p q → Blames (TableRefuses s t) f → Blames (LinesRefuse s) f
tables-fail g s tables t i p q NoMemory lt is so b = tt
tables-fail g s tables t i p q (Refused x) lt is so b =
    let n = next-table g s tables t i p q lt is so in
    let start = start-at g s tables t i p q so n in
    header_refuses so.done so.place b.reading so.reads (subst (λ (y : ℕ). ReadsTable s y b.reading) start b.reads) b.fails

pub tables-end : (g : Ground) (s : LineSource) (tables : List LineTable) (i : ℕ) (p q : Result Marks Refusal) → length tables ≤ i → TablesSo g s tables i p q
    → LinesPassed g s p q
tables-end g s tables i p q end so = by_left so.left so.rest (sym (drop_all i tables end) ∙ so.left_is)
  where
    none-is : (x : LineTable) (xs : List LineTable) → [] ≡ x ∷ xs → ⊥
    none-is x xs e = cc

    by_left : (left : List LineReading) → TablesTo s so.place left (length s.bytes) → [] ≡ tables_read s left → LinesPassed g s p q
    by_left [] e is = record {
      readings = so.done;
      reads = subst (TablesTo s 0 so.done) e so.reads;
      headers = so.headers;
      goes = subst (λ (n : ℕ). Goes g 0 n (line_fields s so.done) p q) e so.goes;
    }
    by_left (r ∷ rs) reads is = absurd (none-is (table_read s r) (tables_read s rs) is)

pub ruleset list_rules = (tables-start, tables-end)
