-- What becomes of a string table: it is built anew from the texts that fields name, a path mapped, each text once, in order of first
-- mention, and nothing of its old bytes is kept. Fields that name texts are mentions, in the order of the file; whether a mention is of a
-- path decides what its new text is.
use Rattle.std.specs.Prelude.{Bool, ℕ, ◌+◌, if◌then◌else◌, List, [], ◌∷◌, ◌++◌, length, suc, Option, Some, None}
use Rattle.dw_base.specs.Paths.{PathMap, mapped_path}
use Rattle.dw_base.specs.Texts.{is_in, same_text, laid_texts}

-- a field names a text, as a path or not
pub record Mention : Type 0 where
  pub path : Bool
  pub text : List ℕ

-- the new text of a mention: that of a path is mapped
abbrev pub new_text : PathMap → Mention → List ℕ
new_text m x = if x.path then mapped_path m x.text else x.text

-- a list of texts with one more at its end, if it isn't there yet
abbrev pub with_text : List (List ℕ) → List ℕ → List (List ℕ)
with_text ts t = if is_in ts t then ts else ts ++ t ∷ []

-- the list after a mention
abbrev pub with_mention : PathMap → List (List ℕ) → Mention → List (List ℕ)
with_mention m ts x = with_text ts (new_text m x)

-- the list of new texts after mentions: each once, in order of first mention
abbrev pub texts_after : PathMap → List (List ℕ) → List Mention → List (List ℕ)
texts_after m ts [] = ts
texts_after m ts (x ∷ xs) = texts_after m (with_mention m ts x) xs

-- the new texts of mentions: the new table is these, each with its NUL
abbrev pub new_texts : PathMap → List Mention → List (List ℕ)
new_texts m xs = texts_after m [] xs

-- where a text of the list begins, from the start of the list: the sum of the lengths before it
abbrev pub place_in : List (List ℕ) → List ℕ → ℕ
place_in [] t = 0
place_in (u ∷ us) t = if same_text u t then 0 else suc (length u) + place_in us t

-- the place of the new text of a mention
abbrev pub new_place : PathMap → List (List ℕ) → Mention → ℕ
new_place m ts x = place_in ts (new_text m x)

-- a string table that grows: the bytes that it began with, and the texts that were added, each once
pub record TextTable : Type 0 where
  pub kept : List ℕ
  pub texts : List (List ℕ)

-- its bytes: those that it began with, then each text with its NUL
abbrev pub table_bytes : TextTable → List ℕ
table_bytes table = table.kept ++ laid_texts table.texts

-- where an added text begins: none where the text was not added
abbrev pub text_place : TextTable → List ℕ → Option ℕ
text_place table t = if is_in table.texts t then Some (length table.kept + place_in table.texts t) else None

-- the table with one more text, if it wasn't added before
abbrev pub with_added : TextTable → List ℕ → TextTable
with_added table t = record { kept = table.kept; texts = with_text table.texts t }
