-- What a pool holds: the bytes of a string table that grows, and beside them the place of each added text.
use Rattle.std.specs.Prelude.{◌≡◌, ℕ, ◌≤◌, List, length, map, take, Option, Vec, ◌++◌, ◌∷◌, []}
use Rattle.std.specs.declared.alloc.Global.{Global}
use Rattle.std.specs.Map.{lookup}
use Rattle.std.specs.Str.{bytes_eq}
use Rattle.dw_base.specs.StringTables.{TextTable, table_bytes, text_place}

-- the added texts in their order, as the keys hold them
abbrev pub texts_of : List (Vec ℕ Global × ℕ) → List (List ℕ)
texts_of entries = map (λ e. e.0.items) entries

-- the place of a text, as it is looked up
abbrev pub place_of : List (Vec ℕ Global × ℕ) → List ℕ → Option ℕ
place_of entries t = lookup (λ k. bytes_eq t k.items) entries

-- the table: the first bytes are kept, the texts were added
abbrev pub pool_table : ℕ → List ℕ → List (Vec ℕ Global × ℕ) → TextTable
pool_table kept bytes entries = record { kept = take kept bytes; texts = texts_of entries }

-- the bytes are the table's, and each added text is found at its place
pub record IsPool (kept : ℕ) (bytes : List ℕ) (entries : List (Vec ℕ Global × ℕ)) : Type 0 where
  pub within : kept ≤ length bytes
  pub laid : bytes ≡ table_bytes (pool_table kept bytes entries)
  pub placed : (t : List ℕ) → place_of entries t ≡ text_place (pool_table kept bytes entries) t

-- one more entry at the end: a key of these bytes, with its place
pub record AddsEntry (old new : List (Vec ℕ Global × ℕ)) (t : List ℕ) (place : ℕ) : Type 0 where
  pub key : Vec ℕ Global
  pub bytes : key.items ≡ t
  pub entries : new ≡ old ++ (key, place) ∷ []
