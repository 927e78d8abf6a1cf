-- Reading a text field by field: each reader answers a value and what follows its fields, or how many
-- bytes are left from the first bad field on. What is said of the texts stands in `Rules` and `BadFields`.
use Rattle.std.specs.Prelude.{ℕ, ◌≡◌, zero, suc, ◌+◌, ◌==◌, ◌&&◌, ◌||◌, not, Bool, true, false, nat_eq, nat_le, if◌then◌else◌, List, [], ◌∷◌, ◌++◌, length, drop, slice_get, ◌-◌, codes, Option, Some, None, option_map, Result, Ok, Err}
use Rattle.std.specs.Char.{is_ascii_digit}
use Rattle.std.specs.Str.Parse.{digits_value}
use Rattle.std.specs.List.{starts_with, list_all}
use Rattle.hex.specs.declared.error.FromHexError.{FromHexError}
use Rattle.hex.specs.Hex.{encode_lower, decode_of, decode_sized}
use Rattle.dw_base.specs.Paths.{MapPair, PathMap, has_base, is_prefix, pair_of, path_map, without_end_slashes}
use Rattle.dw_base.specs.Texts.{has_nul, text, same_text}
use Rattle.work_texts.specs.declared.key.RunKey.{RunKey}
use Rattle.work_texts.specs.declared.plan.JobLine.{JobLine}
use Rattle.work_texts.specs.declared.plan.VersionedPlan.{VersionedPlan}
use Rattle.work_texts.specs.declared.plan.FinishedData.{FinishedData}
use Rattle.work_texts.specs.declared.stop.Stop.{Stop}
use Rattle.work_texts.specs.declared.stop.Stop.TheVariants as stop
use Rattle.work_texts.specs.Fields.{Field}
use Rattle.work_texts.specs.Rules.{may_have_id, number_limit, is_job_path, comes_after, path_of, text_limit}

-- a value and the bytes behind it, or how many bytes are left at the bad field
abbrev pub Reading : Type 0 → Type 0
Reading X = Result (X × List ℕ) ℕ

infixl 10 ◌>>=◌
abbrev pub ◌>>=◌ : {A B : Type 0} → Result A ℕ → (A → Result B ℕ) → Result B ℕ
(Ok x) >>= f = f x
(Err e) >>= f = Err e

-- what a function answers, seen by a view, is this reading, but for want of memory
abbrev pub Stops : {Y : Type 0} → Stop → Result Y ℕ → Type 0
Stops stop.NoMemory reading = Unit {0}
Stops (stop.Field left) reading = reading ≡ Err left

abbrev pub Gives : {X Y : Type 0} → (X → Y) → Result X Stop → Result Y ℕ → Type 0
Gives view (Ok x) reading = reading ≡ Ok (view x)
Gives view (Err e) reading = Stops e reading

-- ---- one field

-- the bytes before the first NUL, and those behind it
unfoldable pub field_at : List ℕ → Reading Field
field_at bytes = if has_nul bytes then Ok (text bytes, drop (length (text bytes) + 1) bytes) else Err (length bytes)

-- the value of a field, if it has one
abbrev pub valued : {X : Type 0} → ℕ → Option X → List ℕ → Reading X
valued left None behind = Err left
valued left (Some x) behind = Ok (x, behind)

unfoldable pub value_at : {X : Type 0} → (Field → Option X) → List ℕ → Reading X
value_at parse bytes = field_at bytes >>= λ f. valued (length bytes) (parse f.0) f.1

-- ---- the values of fields

abbrev pub when : {X : Type 0} → Bool → X → Option X
when test x = if test then Some x else None

-- the field is these bytes
abbrev pub word_in : Field → Field → Option Unit
word_in word f = when (same_text f word) tt

-- one of two words
abbrev pub choice_in : Field → Field → Field → Option Bool
choice_in off on f = if same_text f off then Some false else when (same_text f on) true

-- any text
abbrev pub text_in : Field → Option Field
text_in f = Some f

-- a base or a destination
abbrev pub side_in : Field → Option Field
side_in f = when (is_prefix f && same_text (without_end_slashes f) f) f

-- the base of a pair behind these pairs
abbrev pub base_in : List MapPair → Field → Option Field
base_in before f = when (is_prefix f && same_text (without_end_slashes f) f && not (has_base before f)) f

-- a decimal number with no leading zero, within two limits
abbrev pub is_numeral : Field → Bool
is_numeral f = list_all is_ascii_digit f && not (length f == 0) && (length f == 1 || not (starts_with nat_eq f (codes "0")))

unfoldable pub number_in : ℕ → ℕ → Field → Option ℕ
number_in low high f = when (is_numeral f && nat_le low (digits_value 10 f) && nat_le (digits_value 10 f) high) (digits_value 10 f)

-- bytes that these hexadecimal digits stand for, where they are in lower case
abbrev pub lower_hex : Field → Result (List ℕ) FromHexError → Option (List ℕ)
lower_hex f (Ok bytes) = when (same_text (encode_lower bytes) f) bytes
lower_hex f (Err e) = None

unfoldable pub digest_in : Field → Option (List ℕ)
digest_in f = lower_hex f (decode_sized f 20)

abbrev pub id_of : Bool → Option (List ℕ) → Option (List ℕ)
id_of split None = None
id_of split (Some id) = when (may_have_id split id) id

unfoldable pub id_in : Bool → Field → Option (List ℕ)
id_in split f = id_of split (lower_hex f (decode_of f))

abbrev pub path_in : Option (List ℕ) → Field → Option (List ℕ)
path_in last f = when (is_job_path f && comes_after last f) f

abbrev pub source_in : Option (List ℕ) → Field → Option (List ℕ)
source_in last f = when (comes_after last f) f

-- ---- items one after another

-- so many items, each read by what those before it leave
unfoldable pub each_at : {S A : Type 0} → (S → List ℕ → Reading A) → (S → A → S) → ℕ → S → List ℕ → Reading (List A)
each_at read next zero state bytes = Ok ([], bytes)
each_at read next (suc n) state bytes = do
  item ← read state bytes
  items ← each_at read next n (next state item.0) item.1
  Ok (item.0 ∷ items.0, items.1)

-- the text of the item before
abbrev pub behind_text : {A : Type 0} → (A → List ℕ) → Option (List ℕ) → A → Option (List ℕ)
behind_text item_text last item = Some (item_text item)

-- so many, each read behind the text of the one before it
abbrev pub many_at : {A : Type 0} → (Option (List ℕ) → List ℕ → Reading A) → (A → List ℕ) → ℕ → Option (List ℕ) → List ℕ → Reading (List A)
many_at read item_text n last bytes = each_at read (behind_text item_text) n last bytes

-- the text of the last item, if there is one
abbrev pub last_text : {A : Type 0} → (A → List ℕ) → List A → Option (List ℕ)
last_text item_text items = option_map item_text (slice_get items (length items - 1))

abbrev pub itself : List ℕ → List ℕ
itself t = t

-- ---- the texts

-- a pair of a map behind these
unfoldable pub pair_at : List MapPair → List ℕ → Reading MapPair
pair_at before bytes = do
  base ← value_at (base_in before) bytes
  dest ← value_at side_in base.1
  Ok (pair_of base.0 dest.0, dest.1)

abbrev pub behind_pairs : List MapPair → MapPair → List MapPair
behind_pairs before p = before ++ p ∷ []

-- a map with one pair more, and with so many
unfoldable pub added_at : PathMap → List ℕ → Reading PathMap
added_at m bytes = do
  pair ← pair_at m.pairs bytes
  Ok (record { pairs = behind_pairs m.pairs pair.0 }, pair.1)

unfoldable pub pairs_at : ℕ → PathMap → List ℕ → Reading PathMap
pairs_at n m bytes = do
  more ← each_at pair_at behind_pairs n m.pairs bytes
  Ok (record { pairs = m.pairs ++ more.0 }, more.1)

-- a map with the pairs that a text has behind the first; an old text has none
unfoldable pub maps_at : Bool → PathMap → List ℕ → Reading PathMap
maps_at true m bytes = Ok (m, bytes)
maps_at false m bytes = do
  count ← value_at (number_in 0 63) bytes
  pairs_at count.0 m count.1

unfoldable pub key_at : Bool → List ℕ → Reading RunKey
key_at old bytes = do
  base ← value_at side_in bytes
  dest ← value_at side_in base.1
  build_id ← value_at (choice_in (codes "0") (codes "1")) dest.1
  seed ← value_at text_in build_id.1
  skip ← value_at (choice_in (codes "0") (codes "1")) seed.1
  max_file ← value_at (number_in 1 text_limit) skip.1
  maps ← maps_at old (path_map base.0 dest.0) max_file.1
  Ok (record { maps = maps.0; build_id = build_id.0; seed = seed.0; skip = skip.0; max_file = max_file.0 }, maps.1)

-- a job behind one with this path
unfoldable pub job_at : Option (List ℕ) → List ℕ → Reading JobLine
job_at last bytes = do
  split ← value_at (choice_in (codes "E") (codes "S")) bytes
  path ← value_at (path_in last) split.1
  digest ← value_at digest_in path.1
  id ← value_at (id_in split.0) digest.1
  number ← value_at (number_in 0 (number_limit id.0)) id.1
  Ok (record { split = split.0; path = path.0; digest = digest.0; id = id.0; number = number.0 }, number.1)

-- the name of a source behind this one
abbrev pub source_at : Option (List ℕ) → List ℕ → Reading (List ℕ)
source_at last bytes = value_at (source_in last) bytes

unfoldable pub plan_at : List ℕ → Reading VersionedPlan
plan_at bytes = do
  old ← value_at (choice_in (codes "dbgplan 2") (codes "dbgplan 1")) bytes
  key ← key_at old.0 old.1
  report ← value_at text_in key.1
  job_count ← value_at (number_in 0 4294967295) report.1
  jobs ← many_at job_at path_of job_count.0 None job_count.1
  source_count ← value_at (number_in 0 4294967295) jobs.1
  sources ← many_at source_at itself source_count.0 None source_count.1
  end ← value_at (word_in (codes "end")) sources.1
  Ok (record { old = old.0; plan = record { key = key.0; report = report.0; jobs = jobs.0; sources = sources.0 } }, end.1)

unfoldable pub finished_at : List ℕ → Reading FinishedData
finished_at bytes = do
  old ← value_at (choice_in (codes "dbgfinished 2") (codes "dbgfinished 1")) bytes
  key ← key_at old.0 old.1
  report ← value_at text_in key.1
  Ok (record { old = old.0; key = key.0; report = report.0 }, report.1)

-- all of the bytes
abbrev pub ended : {X : Type 0} → X × List ℕ → Result X ℕ
ended r = if length r.1 == 0 then Ok r.0 else Err (length r.1)
