-- Laws of the fields of string offsets of name tables: one field more, one table more, and that all lie below a place.
use Rattle.std.proofs.Common.{false, ◌≡◌, ℕ, zero, suc, ◌+◌, ◌*◌, ◌^◌, ◌<◌, ◌≤◌, List, [], ◌∷◌, ◌++◌, length, drop, get_or, sym, ap, ◌∙◌, arith, append_assoc}
use Rattle.std.proofs.Math.Seq.{drop-cons}
use Rattle.std.proofs.lemmas.List.{append-nil, drop_all}
use Rattle.dw_base.specs.Forms.{width_size}
use Rattle.dw_base.specs.NameTables.{string_place}
use Rattle.dw_base.specs.declared.name_tables.NameTable.{NameTable}
use Rattle.dw_base.specs.declared.shared.Width.{Width}
use Rattle.dw_base.specs.declared.shared.Width.TheVariants.{W32, W64}
use Rattle.dw_offsets.specs.NameFields.{AllFit, fields_of_names, string_fields}
use Rattle.dw_offsets.specs.declared.fields.OffsetField.{OffsetField}

-- one field more
place-next : (w : Width) (i place : ℕ) → place + suc i * width_size w ≡ place + width_size w + i * width_size w
place-next W32 i place = omega arith
place-next W64 i place = omega arith

string-last : (w : Width) (i place : ℕ)
    → string_fields w (suc i) place ≡ string_fields w i place ++ record { at = place + i * width_size w; size = width_size w; path = false } ∷ []
string-last w zero place =
    let here : place ≡ place + 0 * width_size w = omega arith in
    ap (λ (p : ℕ). record { at = p; size = width_size w; path = false } ∷ []) here
string-last w (suc i) place =
    ap (λ (fs : List OffsetField). record { at = place; size = width_size w; path = false } ∷ fs)
    (string-last w i (place + width_size w)
    ∙ ap (λ (p : ℕ). string_fields w i (place + width_size w) ++ record { at = p; size = width_size w; path = false } ∷ []) (sym (place-next w i place)))

pub strings-first : (old : List OffsetField) (w : Width) (place : ℕ) → old ≡ old ++ string_fields w 0 place
strings-first old w place = sym (append-nil old)

pub strings-more : (old now new : List OffsetField) (t : NameTable) (i at size : ℕ) → now ≡ old ++ string_fields t.width i t.strings → at ≡ string_place t i → size ≡ width_size t.width
    → new ≡ now ++ record { at = at; size = size; path = false } ∷ [] → new ≡ old ++ string_fields t.width (i + 1) t.strings
strings-more old now new t i at size before a s more =
    let next : suc i ≡ i + 1 = omega arith in
    more ∙ ap (λ (fs : List OffsetField). fs ++ record { at = at; size = size; path = false } ∷ []) before
    ∙ append_assoc old (string_fields t.width i t.strings) (record { at = at; size = size; path = false } ∷ [])
    ∙ ap (λ (p : ℕ). old ++ (string_fields t.width i t.strings ++ record { at = p; size = size; path = false } ∷ [])) a
    ∙ ap (λ (n : ℕ). old ++ (string_fields t.width i t.strings ++ record { at = string_place t i; size = n; path = false } ∷ [])) s
    ∙ ap (λ (fs : List OffsetField). old ++ fs) (sym (string-last t.width i t.strings))
    ∙ ap (λ (k : ℕ). old ++ string_fields t.width k t.strings) next

-- one table more
pub table-more : (ts : List NameTable) (i : ℕ) (t : NameTable) (old new : List OffsetField) → i < length ts → t ≡ get_or ts i t
    → old ++ fields_of_names (drop i ts) ≡ fields_of_names ts → new ≡ old ++ string_fields t.width t.names t.strings
    → new ++ fields_of_names (drop (i + 1) ts) ≡ fields_of_names ts
table-more ts i t old new lt is before more =
    let next : suc i ≡ i + 1 = omega arith in
    let front : drop i ts ≡ t ∷ drop (i + 1) ts =
    drop-cons ts i t lt ∙ ap (λ (n : ℕ). get_or ts i t ∷ drop n ts) next ∙ ap (λ (y : NameTable). y ∷ drop (i + 1) ts) (sym is) in
    ap (λ (fs : List OffsetField). fs ++ fields_of_names (drop (i + 1) ts)) more
    ∙ append_assoc old (string_fields t.width t.names t.strings) (fields_of_names (drop (i + 1) ts))
    ∙ ap (λ (xs : List NameTable). old ++ fields_of_names xs) (sym front) ∙ before

pub tables-over : (ts : List NameTable) (i : ℕ) (new : List OffsetField) → length ts ≤ i → new ++ fields_of_names (drop i ts) ≡ fields_of_names ts → new ≡ fields_of_names ts
tables-over ts i new end is = sym (append-nil new) ∙ ap (λ (xs : List NameTable). new ++ fields_of_names xs) (sym (drop_all i ts end)) ∙ is

pub fits-at : (n : ℕ) (ts : List NameTable) (i : ℕ) (d : NameTable) → i < length ts → AllFit n ts
    → (get_or ts i d).strings + (get_or ts i d).names * width_size (get_or ts i d).width ≤ n
fits-at n [] i d lt fits = absurd (omega (arith, lt))
fits-at n (t ∷ ts) zero d lt fits = fits.0
fits-at n (t ∷ ts) (suc i) d lt fits = fits-at n ts i d (omega (arith, lt)) fits.1

pub ruleset tables_laws = (tables-over)

-- the tables of a list
pub names-slice : (xs ts : List NameTable) (fields : List OffsetField) → xs ≡ ts → fields ≡ fields_of_names xs → fields ≡ fields_of_names ts
names-slice xs ts fields is are = are ∙ ap fields_of_names is

pub ruleset slice_laws = (names-slice)

-- no table, one more, and all, lie below a place
pub none-fit : (n : ℕ) (ts : List NameTable) → ts ≡ [] → AllFit n ts
none-fit n ts none = rw none tt

fits-append : (n : ℕ) (ts : List NameTable) (t : NameTable) → AllFit n ts → t.strings + t.names * width_size t.width ≤ n → AllFit n (ts ++ t ∷ [])
fits-append n [] t fits last = (last, tt)
fits-append n (x ∷ xs) t fits last = (fits.0, fits-append n xs t fits.1 last)

pub fits-more : (n : ℕ) (ts us : List NameTable) (t : NameTable) → us ≡ ts ++ t ∷ [] → AllFit n ts → t.strings + t.names * width_size t.width ≤ n → AllFit n us
fits-more n ts us t is fits last = rw is (fits-append n ts t fits last)

fits-less : (m n : ℕ) (ts : List NameTable) → m ≤ n → AllFit m ts → AllFit n ts
fits-less m n [] le fits = tt
fits-less m n (t ∷ ts) le fits = (omega (arith, le, fits.0), fits-less m n ts le fits.1)

pub tables-fit : (bytes found : List ℕ) (ts : List NameTable) → AllFit (length bytes) ts → found ≡ bytes → length found ≤ 2 ^ 31 → AllFit (2 ^ 31) ts
tables-fit bytes found ts fits same small =
    let le : length bytes ≤ 2 ^ 31 = omega (arith, ap (λ (bs : List ℕ). length bs) same, small) in
    fits-less (length bytes) (2 ^ 31) ts le fits

-- a table more behind others has its fields behind theirs
pub names-more : (ts : List NameTable) (t : NameTable) → fields_of_names (ts ++ t ∷ []) ≡ fields_of_names ts ++ string_fields t.width t.names t.strings
names-more [] t = append-nil (string_fields t.width t.names t.strings)
names-more (x ∷ xs) t =
    ap (λ (fs : List OffsetField). string_fields x.width x.names x.strings ++ fs) (names-more xs t)
    ∙ sym (append_assoc (string_fields x.width x.names x.strings) (fields_of_names xs) (string_fields t.width t.names t.strings))
