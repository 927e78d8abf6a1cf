-- A pool stays one as a text is added.
use Rattle.dw_base.proofs.TableLaws.{text_in-text_place}
use Rattle.indexmap.specs.IndexMap.{insert_entry}
use Rattle.std.proofs.Common.{◌≡◌, ℕ, ◌+◌, Bool, true, false, Some, None, if◌then◌else◌, List, [], ◌∷◌, ◌++◌, length, take, refl, sym, ap, ◌∙◌, arith, Vec, subst, Result, Ok, Err, OnOk, IfOk}
use Rattle.std.specs.declared.alloc.Global.{Global}
use Rattle.std.specs.Str.{bytes_eq}
use Rattle.std.proofs.lemmas.List.{append_assoc, length-append, length-take-le, take-append-le}
use Rattle.dw_base.specs.Texts.{is_in, laid_texts, has_nul, text_in}
use Rattle.dw_base.specs.StringTables.{place_in, TextTable, table_bytes, text_place}
use Rattle.dw_base.proofs.TextLaws.{same_text-from, place_in-new, is_in-append, laid_texts-push}
use Rattle.dw_strings.specs.Pool.{texts_of, place_of, pool_table, IsPool, AddsEntry}
use Rattle.dw_strings.proofs.PlacedLaws.{place_behind, texts_by-push, placed-push, insert_entry-absent}

abbrev Entry : Type 0
Entry = Vec ℕ Global × ℕ

-- the bytes of a key
abbrev items : Vec ℕ Global → List ℕ
items key = key.items

-- two keys have the same bytes
abbrev same_key : Vec ℕ Global → Vec ℕ Global → Bool
same_key k l = bytes_eq k.items l.items

-- the texts with one entry more
texts_of-added : (es new : List Entry) (t : List ℕ) (p : ℕ) → AddsEntry es new t p → texts_of new ≡ texts_of es ++ t ∷ []
texts_of-added es new t p adds = ap texts_of adds.entries ∙ texts_by-push items es (adds.key, p) ∙ ap (λ (x : List ℕ). texts_of es ++ x ∷ []) adds.bytes

-- the bytes end where the texts end
pub length-pool : (kept : ℕ) (bytes : List ℕ) (es : List Entry) → IsPool kept bytes es → length bytes ≡ kept + length (laid_texts (texts_of es))
length-pool kept bytes es p =
    omega (arith, ap length p.laid, length-append (take kept bytes) (laid_texts (texts_of es)), length-take-le kept bytes p.within)

-- a pool with one text more is one
pub IsPool-added : (kept : ℕ) (bytes longer : List ℕ) (es new : List Entry) (t : List ℕ) (p : ℕ) → AddsEntry es new t p → longer ≡ bytes ++ (t ++ 0 ∷ [])
    → p ≡ length bytes → IsPool kept bytes es → IsPool kept longer new
IsPool-added kept bytes longer es new t p adds grown at pool =
    let tail : List ℕ = t ++ 0 ∷ [] in
    let front : take kept longer ≡ take kept bytes = ap (take kept) grown ∙ take-append-le kept bytes tail pool.within in
    let texts : texts_of new ≡ texts_of es ++ t ∷ [] = texts_of-added es new t p adds in
    let size : length (take kept bytes) ≡ kept = length-take-le kept bytes pool.within in
    let placed : (u : List ℕ) → place_of (es ++ (adds.key, p) ∷ []) u ≡ place_behind (length (take kept bytes)) (texts_of (es ++ (adds.key, p) ∷ [])) u =
    placed-push items (length (take kept bytes)) es (adds.key, p) pool.placed (omega (arith, length-pool kept bytes es pool)) in
    record {
      within = omega (arith, ap length grown, length-append bytes tail, pool.within);
      laid =
          grown ∙ ap (λ (x : List ℕ). x ++ tail) pool.laid ∙ append_assoc (take kept bytes) (laid_texts (texts_of es)) tail
          ∙ ap (λ (x : List ℕ). take kept bytes ++ x) (sym (laid_texts-push (texts_of es) t))
          ∙ ap (λ (x : List (List ℕ)). take kept bytes ++ laid_texts x) (sym texts)
          ∙ ap (λ (x : List ℕ). x ++ laid_texts (texts_of new)) (sym front);
      placed = λ u. rw front (subst (λ (x : List Entry). place_of x u ≡ place_behind (length (take kept bytes)) (texts_of x) u) (sym adds.entries) (placed u));
    }

-- its table has one text more
pub pool_table-added : (kept : ℕ) (bytes longer : List ℕ) (es new : List Entry) (t : List ℕ) (p : ℕ) → AddsEntry es new t p → longer ≡ bytes ++ (t ++ 0 ∷ [])
    → IsPool kept bytes es → pool_table kept longer new ≡ record { kept = take kept bytes; texts = texts_of es ++ t ∷ [] }
pool_table-added kept bytes longer es new t p adds grown pool =
    rw (ap (take kept) grown ∙ take-append-le kept bytes (t ++ 0 ∷ []) pool.within, texts_of-added es new t p adds) refl

pub AddsEntry-inserted : (es new : List Entry) (key : Vec ℕ Global) (t : List ℕ) (v : ℕ) → new ≡ insert_entry same_key es key v → key.items ≡ t → place_of es t ≡ None → AddsEntry es new t v
AddsEntry-inserted es new key t v made is none = record {
  key = key;
  bytes = is;
  entries = made ∙ insert_entry-absent items es key v (rw is none);
}

-- a pool whose entries and bytes stay
pub IsPool-kept : (kept : ℕ) (bytes same : List ℕ) (es new : List Entry) → same ≡ bytes → new ≡ es → IsPool kept bytes es → IsPool kept same new
IsPool-kept kept bytes same es new e f pool =
    subst (λ (x : List Entry). IsPool kept same x) (sym f) (subst (λ (x : List ℕ). IsPool kept x es) (sym e) pool)

-- a text that is new begins where the bytes ended
pub text_place-new : (table : TextTable) (t : List ℕ) → is_in table.texts t ≡ false
    → text_place (record { kept = table.kept; texts = table.texts ++ t ∷ [] }) t ≡ Some (length (table_bytes table))
text_place-new table t absent =
    let inside : is_in (table.texts ++ t ∷ []) t ≡ true = is_in-append table.texts (t ∷ []) t ∙ rw (absent, same_text-from t t refl) refl in
    rw (inside, place_in-new table.texts [] t absent, sym (length-append table.kept (laid_texts table.texts))) refl

pub text_place-added : {E : Type 0} (r : Result ℕ E) (old new : TextTable) (t : List ℕ) → is_in old.texts t ≡ false
    → OnOk r (new ≡ record { kept = old.kept; texts = old.texts ++ t ∷ [] }) → IfOk r (λ at. at ≡ length (table_bytes old)) → IfOk r (λ at. text_place new t ≡ Some at)
text_place-added (Ok at) old new t absent grown place = ap (λ (x : TextTable). text_place x t) grown ∙ text_place-new old t absent ∙ ap Some (sym place)
text_place-added (Err e) old new t absent grown place = tt

pub ruleset pool_rules = (IsPool-added, IsPool-kept, pool_table-added)

place_none-cases : (test : Bool) (n : ℕ) → None ≡ (if test then Some n else None) → test ≡ false
place_none-cases true n e = cc
place_none-cases false n e = refl

pub text_place-absent : (table : TextTable) (t : List ℕ) → None ≡ text_place table t → is_in table.texts t ≡ false
text_place-absent table t e = place_none-cases (is_in table.texts t) (length table.kept + place_in table.texts t) e

-- a place that was given reads back
pub text_in-added : {E : Type 0} (r : Result ℕ E) (table : TextTable) (t : List ℕ) → has_nul t ≡ false → IfOk r (λ at. text_place table t ≡ Some at) → IfOk r (λ at. text_in (table_bytes table) at ≡ t)
text_in-added (Ok at) table t bare place = text_in-text_place table t at place bare
text_in-added (Err e) table t bare place = tt
