-- A pool of lent texts stays one as a text is added.
use Rattle.std.proofs.Common.{Bool, true, false, ◌≡◌, ℕ, ◌+◌, ◌<◌, ◌==◌, Some, None, Option, if◌then◌else◌, List, [], ◌∷◌, ◌++◌, length, map, refl, sym, ap, ◌∙◌, arith, subst}
use Rattle.std.proofs.lemmas.Bool.{eq-eqb, ne_eqb}
use Rattle.std.proofs.lemmas.List.{length-append}
use Rattle.std.specs.Cow.{cow_slice_items}
use Rattle.std.specs.Map.{keys_of}
use Rattle.std.specs.Prelude.{unwrap_or}
use Rattle.std.specs.declared.alloc.Global.{Global}
use Rattle.std.specs.declared.borrow.CowSlice.{CowSlice}
use Rattle.dw_base.specs.StringTables.{TextTable, place_in, table_bytes, text_place, with_added, with_text}
use Rattle.dw_base.specs.Texts.{is_in, laid_texts}
use Rattle.dw_base.proofs.TextLaws.{laid_texts-push, place_in-lt}
use Rattle.dw_strings.specs.LentPool.{lent_texts, lent_place, lent_table, IsLentPool, IsNoted}
use Rattle.dw_strings.proofs.PlacedLaws.{place_behind, texts_by-push, placed-push, insert_entry-absent, insert_entry-present}
use Rattle.dw_strings.proofs.PoolLaws.{text_place-new}

abbrev Key : Type 0
Key = CowSlice ℕ Global

abbrev Entry : Type 0
Entry = Key × ℕ

abbrev items : Key → List ℕ
items key = cow_slice_items key

abbrev table_of : List (List ℕ) → TextTable
table_of ts = record { kept = []; texts = ts }

-- a text was added: it has this place in the new table, which is longer by so much where the place is its end
pub record IsAdded (len size place : ℕ) (old new : List Entry) (t : List ℕ) : Type 0 where
  pub pool : IsLentPool (if place == len then len + size else len) new
  pub texts : lent_texts new ≡ with_text (lent_texts old) t
  pub place_is : text_place (lent_table new) t ≡ Some place

-- one that is there changes nothing
added-there : (len size place : ℕ) (es new : List Entry) (key : Key) → IsLentPool len es → is_in (lent_texts es) (items key) ≡ true → IsNoted es new key len place
    → IsAdded len size place es new (items key)
added-there len size place es new key pool there noted =
    let t : List ℕ = items key in
    let ts : List (List ℕ) = lent_texts es in
    let found : lent_place es t ≡ Some (0 + place_in ts t) = pool.placed t ∙ ap (λ (b : Bool). if b then Some (0 + place_in ts t) else None) there in
    let at : place ≡ 0 + place_in ts t = noted.found ∙ ap (λ (o : Option ℕ). unwrap_or o len) found in
    let same : new ≡ es = noted.entries ∙ insert_entry-present items es key place (found ∙ ap Some (sym at)) in
    let below : place < len = omega (arith, at, place_in-lt ts t there, pool.ends) in
    let other : (place == len) ≡ false = ne_eqb place len (λ e. omega (arith, e, below)) in
    record {
      pool = subst (λ (xs : List Entry). IsLentPool (if place == len then len + size else len) xs) (sym same) (subst (λ (b : Bool). IsLentPool (if b then len + size else len) es) (sym other) pool);
      texts = ap lent_texts same ∙ sym (ap (λ (b : Bool). if b then ts else ts ++ t ∷ []) there);
      place_is =
          ap (λ (xs : List Entry). text_place (lent_table xs) t) same ∙ ap (λ (b : Bool). if b then Some (0 + place_in ts t) else None) there ∙ ap Some (sym at);
    }

-- one that isn't goes behind the others
added-new : (len size place : ℕ) (es new : List Entry) (key : Key) → IsLentPool len es → is_in (lent_texts es) (items key) ≡ false → size ≡ length (items key) + 1
    → IsNoted es new key len place → IsAdded len size place es new (items key)
added-new len size place es new key pool absent sized noted =
    let t : List ℕ = items key in
    let ts : List (List ℕ) = lent_texts es in
    let none : lent_place es t ≡ None = pool.placed t ∙ ap (λ (b : Bool). if b then Some (0 + place_in ts t) else None) absent in
    let at : place ≡ len = noted.found ∙ ap (λ (o : Option ℕ). unwrap_or o len) none in
    let grown : new ≡ es ++ (key, place) ∷ [] = noted.entries ∙ insert_entry-absent items es key place none in
    let texts : lent_texts new ≡ ts ++ t ∷ [] = ap lent_texts grown ∙ texts_by-push items es (key, place) in
    let behind : place ≡ 0 + length (laid_texts ts) = omega (arith, at, pool.ends) in
    let placed : (u : List ℕ) → lent_place (es ++ (key, place) ∷ []) u ≡ place_behind 0 (lent_texts (es ++ (key, place) ∷ [])) u = placed-push items 0 es (key, place) pool.placed behind in
    let longer : IsLentPool (len + size) new =
    record {
      ends = omega (arith, ap (λ (us : List (List ℕ)). length (laid_texts us)) texts, ap length (laid_texts-push ts t), length-append (laid_texts ts) (t ++ 0 ∷ []), length-append t (0 ∷ []), sized, pool.ends);
      placed = λ u. subst (λ (xs : List Entry). lent_place xs u ≡ text_place (lent_table xs) u) (sym grown) (placed u);
    } in
    record {
      pool = subst (λ (b : Bool). IsLentPool (if b then len + size else len) new) (sym (eq-eqb place len at)) longer;
      texts = texts ∙ sym (ap (λ (b : Bool). if b then ts else ts ++ t ∷ []) absent);
      place_is =
          ap (λ (us : List (List ℕ)). text_place (table_of us) t) texts ∙ text_place-new (lent_table es) t absent ∙ ap Some (sym (at ∙ pool.ends));
    }

pub is-added : (len size place : ℕ) (es new : List Entry) (key : Key) → IsLentPool len es → size ≡ length (items key) + 1 → IsNoted es new key len place
    → IsAdded len size place es new (items key)
is-added len size place es new key pool sized noted = by_in (is_in (lent_texts es) (items key)) refl
  where
    by_in : (b : Bool) → is_in (lent_texts es) (items key) ≡ b → IsAdded len size place es new (items key)
    by_in true there = added-there len size place es new key pool there noted
    by_in false absent = added-new len size place es new key pool absent sized noted

-- so what holds of a pool holds behind it
pub pool-after : (len size place after : ℕ) (es new : List Entry) (key : Key) → IsLentPool len es → size ≡ length (items key) + 1 → IsNoted es new key len place
    → after ≡ (if place == len then len + size else len) → IsLentPool after new
pool-after len size place after es new key pool sized noted is = subst (λ (n : ℕ). IsLentPool n new) (sym is) (is-added len size place es new key pool sized noted).pool

pub table-after : (len size place : ℕ) (es new : List Entry) (key : Key) → IsLentPool len es → size ≡ length (items key) + 1 → IsNoted es new key len place
    → lent_table new ≡ with_added (lent_table es) (items key)
table-after len size place es new key pool sized noted =
    ap table_of (is-added len size place es new key pool sized noted).texts

pub place-after : (len size place : ℕ) (es new : List Entry) (key : Key) → IsLentPool len es → size ≡ length (items key) + 1 → IsNoted es new key len place
    → text_place (lent_table new) (items key) ≡ Some place
place-after len size place es new key pool sized noted = (is-added len size place es new key pool sized noted).place_is

-- the bytes of the keys are the texts, so what is laid of them is the table
keys-texts : (es : List Entry) → map cow_slice_items (keys_of es) ≡ lent_texts es
keys-texts [] = refl
keys-texts (e ∷ es) = ap (λ (ts : List (List ℕ)). cow_slice_items e.0 ∷ ts) (keys-texts es)

pub laid-keys : (t : TextTable) (es : List Entry) (texts ks : List Key) → lent_table es ≡ t → ks ≡ keys_of es → texts ≡ ks
    → laid_texts (map cow_slice_items texts) ≡ table_bytes t
laid-keys t es texts ks is keys same =
    ap (λ (xs : List Key). laid_texts (map cow_slice_items xs)) (same ∙ keys) ∙ ap laid_texts (keys-texts es) ∙ ap table_bytes is
