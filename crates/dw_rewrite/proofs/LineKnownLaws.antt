-- The new line tables from places that are known are those of the change of the tables of texts.
use Rattle.std.proofs.Common.{Bool, true, false, ◌≡◌, ◌≢◌, ℕ, zero, suc, ◌^◌, ◌<◌, ◌≤◌, ◌==◌, ◌&&◌, not, List, [], ◌∷◌, ◌++◌, length, get_or, if◌then◌else◌, Contains, Option, Some, None, is_some, refl, sym, ap, ◌∙◌, subst, arith}
use Rattle.std.specs.Prelude.{⊤}
use Rattle.std.proofs.lemmas.Bool.{ne_eqb, true≢false}
use Rattle.dw_base.specs.Forms.{width_size}
use Rattle.dw_base.specs.LineReadings.{LineReading, TablesTo, table_read}
use Rattle.dw_base.specs.LineSources.{LineSource}
use Rattle.dw_base.specs.LineTables.{LineTable}
use Rattle.dw_base.specs.LineWriteFails.{length_limit}
use Rattle.dw_base.specs.Paths.{PathMap}
use Rattle.dw_base.specs.StringTables.{new_place as place_in}
use Rattle.dw_base.specs.TextLineChanges.{header_by_texts, rest_by_texts, table_by_texts, tables_by_texts, text_changes, text_mention, text_place, texts_changes}
use Rattle.dw_base.specs.TextWriteFails.{CanWriteTexts, TextWriteFails, text_header, text_offset, text_program, text_table, wide_text}
use Rattle.dw_base.specs.WrittenLines.{Change, inline_change, offset_changes, with_header_length, with_program, changed, behind_lengths, length_bytes}
use Rattle.dw_base.specs.declared.fault.Refusal.{Refusal}
use Rattle.dw_base.specs.declared.line_tables.LineText.{LineText}
use Rattle.dw_base.specs.declared.shared.Width.{Width}
use Rattle.dw_offsets.specs.declared.fields.OffsetField.{OffsetField}
use Rattle.dw_base.specs.declared.texts.TextSection.TheVariants.{InStr, InLineStr}
use Rattle.dw_lines.specs.NewTexts.{text_known}
use Rattle.dw_lines.specs.ViewTables.{tables_read}
use Rattle.dw_rewrite.specs.Changes.{FieldSource, IsNoted, Knows, mention_as, offset_at}
use Rattle.dw_rewrite.specs.NewLines.{AllCanWrite, lines_known}
use Rattle.dw_read.specs.ViewLines.{is_text_of, table_fields, text_field, text_fields}
use Rattle.dw_rewrite.proofs.LineMentionLaws.{IsWhole, line_texts, text-offset}
use Rattle.dw_read.proofs.LinePlaceLaws.{EachReads, TextReads, table-texts}
use Rattle.dw_unit_fields.proofs.PlaceValueLaws.{EachOf}

-- the new places of texts that stand elsewhere are the same
abbrev pub EachAgree : LineSource → (LineText → Option ℕ) → (LineText → Option ℕ) → List LineText → Type 0
EachAgree g p q [] = ⊤
EachAgree g p q (x ∷ xs) = ((x.place.section == g.number) ≡ false → p x ≡ q x) × EachAgree g p q xs

agree-back : (g : LineSource) (p q : LineText → Option ℕ) (xs : List LineText) → EachAgree g p q xs → EachAgree g q p xs
agree-back g p q [] a = tt
agree-back g p q (x ∷ xs) a = ((λ other. sym (a.0 other)), agree-back g p q xs a.1)

agree-at : (g : LineSource) (p q : LineText → Option ℕ) (xs : List LineText) (x : LineText) → EachAgree g p q xs → Contains xs x → x.place.section ≢ g.number → p x ≡ q x
agree-at g p q [] x a here other = absurd (omega (arith, here.1))
agree-at g p q (y ∷ ys) x a here other = by (λ c. agree-at g p q ys x a.1 c other) here.0 here.1 here.2
  where
    by : (Contains ys x → p x ≡ q x) → (k : ℕ) → k < suc (length ys) → get_or (y ∷ ys) k x ≡ x → p x ≡ q x
    by rest zero lt e = subst (λ (z : LineText). (z.place.section == g.number) ≡ false → p z ≡ q z) e a.0 (ne_eqb x.place.section g.number other)
    by rest (suc k) lt e = rest (k, omega (arith, lt), e)

-- so changes are
one-change : (g : LineSource) (m : PathMap) (p q : LineText → Option ℕ) (w : Width) (x : LineText) → ((x.place.section == g.number) ≡ false → p x ≡ q x)
    → text_changes g m p w x ≡ text_changes g m q w x
one-change g m p q w x a = by_path x.path (x.place.section == g.number) refl a
  where
    by_path : (b t : Bool) → (x.place.section == g.number) ≡ t
        → ((x.place.section == g.number) ≡ false → p (record { place = x.place; path = b }) ≡ q (record { place = x.place; path = b }))
        → (if b then (if t then inline_change m g.bytes x.place ∷ [] else offset_changes g.order w g.bytes g.cells x.place.field (p (record { place = x.place; path = true })))
        else (if t then [] else offset_changes g.order w g.bytes g.cells x.place.field (p (record { place = x.place; path = b }))))
        ≡ (if b then (if t then inline_change m g.bytes x.place ∷ [] else offset_changes g.order w g.bytes g.cells x.place.field (q (record { place = x.place; path = true })))
        else (if t then [] else offset_changes g.order w g.bytes g.cells x.place.field (q (record { place = x.place; path = b }))))
    by_path true true e a = refl
    by_path true false e a = ap (offset_changes g.order w g.bytes g.cells x.place.field) (a e)
    by_path false true e a = refl
    by_path false false e a = ap (offset_changes g.order w g.bytes g.cells x.place.field) (a e)

changes-same : (g : LineSource) (m : PathMap) (p q : LineText → Option ℕ) (w : Width) (xs : List LineText) → EachAgree g p q xs → texts_changes g m p w xs ≡ texts_changes g m q w xs
changes-same g m p q w [] a = refl
changes-same g m p q w (x ∷ xs) a =
    ap (λ (cs : List Change). cs ++ texts_changes g m p w xs) (one-change g m p q w x a.0) ∙ ap (λ (cs : List Change). text_changes g m q w x ++ cs) (changes-same g m p q w xs a.1)

-- and the table
header-same : (g : LineSource) (m : PathMap) (p q : LineText → Option ℕ) (t : LineTable) → EachAgree g p q t.texts → header_by_texts g m p t ≡ header_by_texts g m q t
unfolding header_by_texts
header-same g m p q t a =
    ap (changed g.bytes (behind_lengths t.start t.width t.version) t.program) (changes-same g m p q t.width t.texts a)

rest-same : (g : LineSource) (m : PathMap) (p q : LineText → Option ℕ) (t : LineTable) → EachAgree g p q t.texts → rest_by_texts g m p t ≡ rest_by_texts g m q t
rest-same g m p q t a = ap (λ (header : List ℕ). with_program g t (with_header_length g t header)) (header-same g m p q t a)

pub table-same : (g : LineSource) (m : PathMap) (p q : LineText → Option ℕ) (t : LineTable) → EachAgree g p q t.texts → table_by_texts g m p t ≡ table_by_texts g m q t
unfolding table_by_texts
table-same g m p q t a = ap (λ (rest : List ℕ). length_bytes g.order t.width (length rest) ++ rest) (rest-same g m p q t a)

pub can-same : (g : LineSource) (m : PathMap) (p q : LineText → Option ℕ) (t : LineTable) → EachAgree g p q t.texts → CanWriteTexts g m p t → CanWriteTexts g m q t
can-same g m p q t a can = record {
  table = subst (λ (rest : List ℕ). length rest < length_limit t.width) (rest-same g m p q t a) can.table;
  header = subst (λ (header : List ℕ). length header < 256 ^ width_size t.width) (header-same g m p q t a) can.header;
  offsets = λ x place here other is. can.offsets x place here other (agree-at g p q t.texts x a here other ∙ is);
  defined = can.defined;
}

pub fails-same : (g : LineSource) (m : PathMap) (p q : LineText → Option ℕ) (t : LineTable) (r : Refusal) → EachAgree g p q t.texts → TextWriteFails g m p t r → TextWriteFails g m q t r
fails-same g m p q t r a (text_table far) = text_table (subst (λ (rest : List ℕ). length_limit t.width ≤ length rest) (rest-same g m p q t a) far)
fails-same g m p q t r a (text_header far) = text_header (subst (λ (header : List ℕ). 256 ^ width_size t.width ≤ length header) (header-same g m p q t a) far)
fails-same g m p q t r a (text_offset (wide_text x place here other is far)) =
    text_offset (wide_text x place here other (agree-at g q p t.texts x (agree-back g p q t.texts a) here other ∙ is) far)
fails-same g m p q t r a (text_program h e f) = text_program h e f

-- the place that is known of a text is its new one
pub known-asked : (m : PathMap) (table : List ℕ) (ts : List (List ℕ)) (known : Bool → ℕ → Option ℕ) (path : Bool) (o : ℕ) → Knows m table ts known
    → IsNoted known path o → known path o ≡ Some (place_in m ts (mention_as path table o))
known-asked m table ts known path o knows noted = by (known path o) refl noted.noted
  where
    by : (k : Option ℕ) → known path o ≡ k → is_some k ≡ true → k ≡ Some (place_in m ts (mention_as path table o))
    by None e some = absurd cc
    by (Some n) e some = ap Some (knows.each path o n e).place_is

-- of the texts of a table
abbrev pub NotedIn : FieldSource → (Bool → ℕ → Option ℕ) → OffsetField → Type 0
NotedIn s known f = IsNoted known f.path (offset_at s f)

one-agrees : (g : LineSource) (m : PathMap) (str line_str : List (List ℕ)) (ks kl : Bool → ℕ → Option ℕ) (w : Width) (x : LineText) → IsWhole g → TextReads g w x.place
    → Knows m g.str.bytes str ks → Knows m g.line_str.bytes line_str kl
    → EachOf (NotedIn (line_texts g InStr) ks) (text_field g.number g.str.number InStr w x)
    → EachOf (NotedIn (line_texts g InLineStr) kl) (text_field g.number g.str.number InLineStr w x)
    → (x.place.section == g.number) ≡ false
    → (if x.place.section == g.str.number then ks x.path x.place.at else kl x.path x.place.at) ≡ text_place m str line_str g x
one-agrees g m str line_str ks kl w x whole reads s l ns nl other = by (x.place.section == g.number) (x.place.section == g.str.number) refl refl other ns nl
  where
    by : (a b : Bool) → (x.place.section == g.number) ≡ a → (x.place.section == g.str.number) ≡ b → a ≡ false
        → EachOf (NotedIn (line_texts g InStr) ks) (if (not a && b) then record { at = x.place.field; size = width_size w; path = x.path } ∷ [] else [])
        → EachOf (NotedIn (line_texts g InLineStr) kl) (if (not a && not b) then record { at = x.place.field; size = width_size w; path = x.path } ∷ [] else [])
        → (if b then ks x.path x.place.at else kl x.path x.place.at)
        ≡ (if b then Some (place_in m str (text_mention g.str.bytes x)) else Some (place_in m line_str (text_mention g.line_str.bytes x)))
    by true b e f is ns nl = absurd (true≢false is)
    by false true e f is ns nl =
        let says : is_text_of g.number g.str.number InStr x.place ≡ true = rw (e, f) refl in
        known-asked m g.str.bytes str ks x.path x.place.at s
        (subst (IsNoted ks x.path) (text-offset g InStr w x.place x.path whole reads says) ns.0)
    by false false e f is ns nl =
        let says : is_text_of g.number g.str.number InLineStr x.place ≡ true = rw (e, f) refl in
        known-asked m g.line_str.bytes line_str kl x.path x.place.at l
        (subst (IsNoted kl x.path) (text-offset g InLineStr w x.place x.path whole reads says) nl.0)

pub each-parts : {X : Type 0} (P : X → Type 0) (xs ys : List X) → EachOf P (xs ++ ys) → EachOf P xs × EachOf P ys
each-parts P [] ys h = (tt, h)
each-parts P (x ∷ xs) ys h = let rest = each-parts P xs ys h.1 in ((h.0, rest.0), rest.1)

-- so are those of all
texts-agree : (g : LineSource) (m : PathMap) (str line_str : List (List ℕ)) (ks kl : Bool → ℕ → Option ℕ) (w : Width) (xs : List LineText) → IsWhole g
    → EachReads g w xs
    → Knows m g.str.bytes str ks → Knows m g.line_str.bytes line_str kl
    → EachOf (NotedIn (line_texts g InStr) ks) (text_fields g.number g.str.number InStr w xs)
    → EachOf (NotedIn (line_texts g InLineStr) kl) (text_fields g.number g.str.number InLineStr w xs)
    → EachAgree g (text_known g ks kl) (text_place m str line_str g) xs
texts-agree g m str line_str ks kl w [] whole reads s l ns nl = tt
texts-agree g m str line_str ks kl w (x ∷ xs) whole reads s l ns nl =
    let a = each-parts (NotedIn (line_texts g InStr) ks) (text_field g.number g.str.number InStr w x) (text_fields g.number g.str.number InStr w xs) ns in
    let b = each-parts (NotedIn (line_texts g InLineStr) kl) (text_field g.number g.str.number InLineStr w x) (text_fields g.number g.str.number InLineStr w xs) nl in (
      (λ other. one-agrees g m str line_str ks kl w x whole reads.0 s l a.0 b.0 other),
      texts-agree g m str line_str ks kl w xs whole reads.1 s l a.1 b.1,
    )

-- of all tables
abbrev pub TablesAgree : LineSource → (LineText → Option ℕ) → (LineText → Option ℕ) → List LineReading → Type 0
TablesAgree g p q [] = ⊤
TablesAgree g p q (r ∷ rs) = EachAgree g p q (table_read g r).texts × TablesAgree g p q rs

pub tables-agree : (g : LineSource) (m : PathMap) (str line_str : List (List ℕ)) (ks kl : Bool → ℕ → Option ℕ) (p e : ℕ) (rs : List LineReading) → IsWhole g
    → TablesTo g p rs e → Knows m g.str.bytes str ks → Knows m g.line_str.bytes line_str kl
    → EachOf (NotedIn (line_texts g InStr) ks) (table_fields g.number g.str.number InStr (tables_read g rs))
    → EachOf (NotedIn (line_texts g InLineStr) kl) (table_fields g.number g.str.number InLineStr (tables_read g rs))
    → TablesAgree g (text_known g ks kl) (text_place m str line_str g) rs
tables-agree g m str line_str ks kl p e [] whole reads s l ns nl = tt
tables-agree g m str line_str ks kl p e (r ∷ rs) whole reads s l ns nl =
    let a = each-parts (NotedIn (line_texts g InStr) ks) (text_fields g.number g.str.number InStr r.header.width (table_read g r).texts)
    (table_fields g.number g.str.number InStr (tables_read g rs)) ns in
    let b = each-parts (NotedIn (line_texts g InLineStr) kl) (text_fields g.number g.str.number InLineStr r.header.width (table_read g r).texts)
    (table_fields g.number g.str.number InLineStr (tables_read g rs)) nl in (
      texts-agree g m str line_str ks kl r.header.width (table_read g r).texts whole (table-texts g p r reads.0) s l a.0 b.0,
      tables-agree g m str line_str ks kl r.header.end e rs whole reads.1 s l a.1 b.1,
    )

-- the new tables
pub lines-same : (g : LineSource) (m : PathMap) (str line_str : List (List ℕ)) (ks kl : Bool → ℕ → Option ℕ) (rs : List LineReading)
    → TablesAgree g (text_known g ks kl) (text_place m str line_str g) rs → lines_known m g ks kl (tables_read g rs) ≡ tables_by_texts m str line_str g rs
lines-same g m str line_str ks kl [] a = refl
lines-same g m str line_str ks kl (r ∷ rs) a =
    ap (λ (t : List ℕ). t ∷ lines_known m g ks kl (tables_read g rs)) (table-same g m (text_known g ks kl) (text_place m str line_str g) (table_read g r) a.0)
    ∙ ap (λ (ts : List (List ℕ)). table_by_texts g m (text_place m str line_str g) (table_read g r) ∷ ts) (lines-same g m str line_str ks kl rs a.1)

-- each can be written
abbrev pub EachCanWrite : LineSource → PathMap → List (List ℕ) → List (List ℕ) → List LineReading → Type 0
EachCanWrite g m str line_str [] = ⊤
EachCanWrite g m str line_str (r ∷ rs) = CanWriteTexts g m (text_place m str line_str g) (table_read g r) × EachCanWrite g m str line_str rs

pub all-can : (g : LineSource) (m : PathMap) (str line_str : List (List ℕ)) (ks kl : Bool → ℕ → Option ℕ) (rs : List LineReading)
    → TablesAgree g (text_known g ks kl) (text_place m str line_str g) rs → AllCanWrite m g ks kl (tables_read g rs) → EachCanWrite g m str line_str rs
all-can g m str line_str ks kl [] a can = tt
all-can g m str line_str ks kl (r ∷ rs) a can =
    (can-same g m (text_known g ks kl) (text_place m str line_str g) (table_read g r) a.0 can.0, all-can g m str line_str ks kl rs a.1 can.1)

-- or one can't
pub record TableRefused (g : LineSource) (m : PathMap) (str line_str : List (List ℕ)) (rs : List LineReading) (r : Refusal) : Type 0 where
  pub before : List LineReading
  pub behind : List LineReading
  pub table : LineReading
  pub split : rs ≡ before ++ table ∷ behind
  pub fails : TextWriteFails g m (text_place m str line_str g) (table_read g table) r

abbrev tail-of : (d : List LineTable) → List LineTable → List LineTable
tail-of d [] = d
tail-of d (x ∷ xs) = xs

abbrev head-of : LineTable → List LineTable → LineTable
head-of d [] = d
head-of d (x ∷ xs) = x

pub table-refused : (g : LineSource) (m : PathMap) (str line_str : List (List ℕ)) (ks kl : Bool → ℕ → Option ℕ) (rs : List LineReading) (before behind : List LineTable) (t : LineTable) (r : Refusal)
    → TablesAgree g (text_known g ks kl) (text_place m str line_str g) rs → tables_read g rs ≡ before ++ t ∷ behind → TextWriteFails g m (text_known g ks kl) t r
    → TableRefused g m str line_str rs r
table-refused g m str line_str ks kl [] [] behind t r a split fails = absurd cc
table-refused g m str line_str ks kl [] (b ∷ bs) behind t r a split fails = absurd cc
table-refused g m str line_str ks kl (x ∷ xs) [] behind t r a split fails =
    let here : table_read g x ≡ t = ap (head-of t) split in
    record {
      before = [];
      behind = xs;
      table = x;
      split = refl;
      fails = fails-same g m (text_known g ks kl) (text_place m str line_str g) (table_read g x) r a.0
          (subst (λ (y : LineTable). TextWriteFails g m (text_known g ks kl) y r) (sym here) fails);
    }
table-refused g m str line_str ks kl (x ∷ xs) (b ∷ bs) behind t r a split fails =
    let rest = table-refused g m str line_str ks kl xs bs behind t r a.1 (ap (tail-of []) split) fails in
    record { before = x ∷ rest.before; behind = rest.behind; table = rest.table; split = ap (λ (ys : List LineReading). x ∷ ys) rest.split; fails = rest.fails }
