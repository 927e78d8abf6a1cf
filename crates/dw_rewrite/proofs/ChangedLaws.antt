-- New texts one place after another, and the new offsets of fields.
use Rattle.std.proofs.Common.{Bool, true, false, ◌≡◌, ℕ, zero, suc, ◌+◌, ◌<◌, ◌≤◌, List, [], ◌∷◌, ◌++◌, length, get_or, drop, Option, Some, None, is_some, cond, sym, ap, ◌∙◌, refl, subst, arith, inl, inr}
use Rattle.std.proofs.lemmas.Bool.{cases_lt}
use Rattle.std.proofs.Math.Seq.{drop-cons}
use Rattle.std.proofs.lemmas.List.{length-append}
use Rattle.dw_base.specs.LayoutFails.{TooLong}
use Rattle.dw_base.specs.LayoutFails.TooLong.{long}
use Rattle.dw_base.specs.Paths.{PathMap}
use Rattle.dw_base.specs.Refusals.{Blames}
use Rattle.dw_base.specs.StringTables.{new_place, new_text, with_mention, with_text, table_bytes}
use Rattle.dw_base.specs.Texts.{is_in, laid_texts}
use Rattle.dw_base.specs.declared.fault.Fault.{Fault}
use Rattle.dw_base.specs.declared.fault.Fault.TheVariants.{NoMemory, Refused}
use Rattle.dw_base.proofs.TextLaws.{laid_texts-append}
use Rattle.dw_offsets.specs.declared.fields.OffsetField.{OffsetField}
use Rattle.dw_unit_fields.specs.Fields.{AreOffsetFields, IsOffsetField}
use Rattle.dw_rewrite.specs.Changes.{AreFieldsOf, AreNoted, FieldSource, IsFieldOf, IsNoted, Knows, Remembers, field_mention, offset_at, offset_bytes, patched, patched_at, put_at, texts_at, with_all_known, with_known}

-- one field more of a list
pub field_front : (fields : List OffsetField) (d : OffsetField) (i : ℕ) → i < length fields → drop i fields ≡ get_or fields i d ∷ drop (i + 1) fields
field_front fields d i lt =
    let next : suc i ≡ i + 1 = omega arith in
    drop-cons fields i d lt ∙ ap (λ (n : ℕ). get_or fields i d ∷ drop n fields) next

pub field_next : (fields : List OffsetField) (i : ℕ) (f : OffsetField) → i < length fields → f ≡ get_or fields i f → drop i fields ≡ f ∷ drop (i + 1) fields
field_next fields i f lt is = field_front fields f i lt ∙ ap (λ (g : OffsetField). g ∷ drop (i + 1) fields) (sym is)

-- one more text at the end of the list
length-with_text : (ts : List (List ℕ)) (t : List ℕ) → length (laid_texts ts) ≤ length (laid_texts (with_text ts t))
length-with_text ts t = by_in (is_in ts t)
  where
    by_in : (b : Bool) → length (laid_texts ts) ≤ length (laid_texts (cond b ts (ts ++ t ∷ [])))
    by_in true = omega arith
    by_in false = rw (laid_texts-append ts (t ∷ []), length-append (laid_texts ts) (laid_texts (t ∷ []))) (omega arith)

-- mentions take no text away
pub length-texts_at : (m : PathMap) (s : FieldSource) (ts : List (List ℕ)) (fields : List OffsetField)
    → length (laid_texts ts) ≤ length (laid_texts (texts_at m s ts fields))
length-texts_at m s ts [] = omega arith
length-texts_at m s ts (f ∷ fs) =
    omega (arith, length-with_text ts (new_text m (field_mention s f)), length-texts_at m s (with_mention m ts (field_mention s f)) fs)

-- the texts of the fields that are left, from one on
pub texts_step : (m : PathMap) (s : FieldSource) (ts : List (List ℕ)) (fields : List OffsetField) (i : ℕ) (f : OffsetField)
    → i < length fields → f ≡ get_or fields i f
    → texts_at m s (with_mention m ts (field_mention s f)) (drop (i + 1) fields) ≡ texts_at m s ts (drop i fields)
texts_step m s ts fields i f lt is =
    sym (ap (texts_at m s ts) (field_next fields i f lt is))

-- a table that is too long at a field is too long at the end
pub refused_at : (m : PathMap) (s : FieldSource) (ts first : List (List ℕ)) (fields : List OffsetField) (i : ℕ) (f : OffsetField) (fault : Fault)
    → i < length fields → f ≡ get_or fields i f
    → texts_at m s ts (drop i fields) ≡ texts_at m s first fields
    → Blames (TooLong (length (table_bytes (record { kept = []; texts = with_mention m ts (field_mention s f) })))) fault
    → Blames (TooLong (length (table_bytes (record { kept = []; texts = texts_at m s first fields })))) fault
refused_at m s ts first fields i f NoMemory lt is same b = tt
refused_at m s ts first fields i f (Refused _) lt is same (long over) =
    let next : List (List ℕ) = with_mention m ts (field_mention s f) in
    let whole : texts_at m s next (drop (i + 1) fields) ≡ texts_at m s first fields = texts_step m s ts fields i f lt is ∙ same in
    let longer : length (laid_texts next) ≤ length (laid_texts (texts_at m s first fields)) =
    subst (λ (us : List (List ℕ)). length (laid_texts next) ≤ length (laid_texts us)) whole (length-texts_at m s next (drop (i + 1) fields)) in
    long (omega (arith, longer, over))

-- the default is not asked for inside a list
get_or-any : (fields : List OffsetField) (i : ℕ) (d f : OffsetField) → i < length fields → get_or fields i d ≡ get_or fields i f
get_or-any [] i d f lt = absurd (omega arith)
get_or-any (g ∷ gs) zero d f lt = refl
get_or-any (g ∷ gs) (suc i) d f lt = get_or-any gs i d f (omega arith)

-- one more field is noted
pub noted_step : (s : FieldSource) (fields : List OffsetField) (i : ℕ) (f : OffsetField) (old new : Bool → ℕ → Option ℕ)
    → f ≡ get_or fields i f → AreNoted s fields i old
    → Remembers old new → IsNoted new f.path (offset_at s f) → AreNoted s fields (i + 1) new
noted_step s fields i f old new is noted remembers here = record {
  each = λ (k : ℕ) (d : OffsetField) (lt : k < i + 1) (within : k < length fields). elim (cases_lt k i) [
    | inl below ↦ record { noted = remembers.each (get_or fields k d).path (offset_at s (get_or fields k d)) (noted.each k d below within).noted }
    | inr past ↦
        let same : i ≡ k = omega arith in
        let field : f ≡ get_or fields k d = is ∙ get_or-any fields i f d (omega arith) ∙ ap (λ (n : ℕ). get_or fields n d) same in
        subst (λ (g : OffsetField). IsNoted new g.path (offset_at s g)) field here
  ];
}

-- none is noted
pub noted_start : (s : FieldSource) (fields : List OffsetField) (known : Bool → ℕ → Option ℕ) → AreNoted s fields 0 known
noted_start s fields known = record { each = λ (k : ℕ) (d : OffsetField) (lt : k < 0) within. absurd (omega arith) }

-- nothing was forgotten on the way
pub remembers_on : (first old new : Bool → ℕ → Option ℕ) → Remembers first old → Remembers old new → Remembers first new
remembers_on first old new a b = record { each = λ (path : Bool) (o : ℕ) is. b.each path o (a.each path o is) }

-- a field of a list of them
pub path_there : (s : FieldSource) (fields : List OffsetField) (i : ℕ) (f : OffsetField) → AreOffsetFields s.order s.table s.cells fields → i < length fields
    → f ≡ get_or fields i f → IsOffsetField s.order s.table s.cells f
path_there s fields i f all lt is = subst (IsOffsetField s.order s.table s.cells) (sym is) (all.each i f lt)

-- and of those that are fields alone
pub field_there : (s : FieldSource) (fields : List OffsetField) (i : ℕ) (f : OffsetField) → AreFieldsOf s fields → i < length fields → f ≡ get_or fields i f → IsFieldOf s f
field_there s fields i f all lt is = subst (IsFieldOf s) (sym is) (all.each i f lt)

-- what is put is the place that is known
put_is : (s : FieldSource) (out : List ℕ) (f : OffsetField) (new : ℕ) (known : Option ℕ) → ((v : ℕ) → known ≡ Some v → v ≡ new) → is_some known ≡ true
    → with_known s out f known ≡ put_at out f.at f.size (offset_bytes s f new)
put_is s out f new None right noted = absurd cc
put_is s out f new (Some v) right noted = ap (λ (n : ℕ). put_at out f.at f.size (offset_bytes s f n)) (right v refl)

-- so the known places make the patched bytes
pub put_is_patched : (m : PathMap) (s : FieldSource) (ts : List (List ℕ)) (out : List ℕ) (fields : List OffsetField) (known : Bool → ℕ → Option ℕ)
    → Knows m s.table.bytes ts known → AreNoted s fields (length fields) known
    → with_all_known s known out fields ≡ patched ts m s out fields
put_is_patched m s ts out [] known knows noted = refl
put_is_patched m s ts out (f ∷ fs) known knows noted =
    let offset : ℕ = offset_at s f in
    let first : IsNoted known f.path (offset_at s f) = noted.each 0 f (omega arith) (omega arith) in
    let here : with_known s out f (known f.path offset) ≡ patched_at ts m s out f =
    put_is s out f (new_place m ts (field_mention s f)) (known f.path offset) (λ (v : ℕ) is. (knows.each f.path offset v is).place_is) first.noted in
    let rest : AreNoted s fs (length fs) known =
    record { each = λ (k : ℕ) (d : OffsetField) (lt : k < length fs) (within : k < length fs). noted.each (suc k) d (omega arith) (omega arith) } in
    ap (λ (b : List ℕ). with_all_known s known b fs) here
    ∙ put_is_patched m s ts (patched_at ts m s out f) fs known knows rest
