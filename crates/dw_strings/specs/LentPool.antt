-- What a pool of lent texts holds: each text once, in the order in which it was added, and beside it where it begins.
use Rattle.std.specs.Prelude.{Bool, ◌≡◌, ℕ, List, [], length, map, Option, unwrap_or}
use Rattle.std.specs.Cow.{cow_slice_items}
use Rattle.std.specs.Map.{lookup}
use Rattle.std.specs.Str.{bytes_eq}
use Rattle.std.specs.declared.alloc.Global.{Global}
use Rattle.std.specs.declared.borrow.CowSlice.{CowSlice}
use Rattle.dw_base.specs.StringTables.{TextTable, text_place}
use Rattle.dw_base.specs.Texts.{laid_texts}
use Rattle.indexmap.specs.IndexMap.{insert_entry}

-- the texts in their order, as the keys hold them
abbrev pub lent_texts : List (CowSlice ℕ Global × ℕ) → List (List ℕ)
lent_texts entries = map (λ e. cow_slice_items e.0) entries

-- the place of a text, as it is looked up
abbrev pub lent_place : List (CowSlice ℕ Global × ℕ) → List ℕ → Option ℕ
lent_place entries t = lookup (λ k. bytes_eq t (cow_slice_items k)) entries

-- the table: it began with no bytes, the texts were added
abbrev pub lent_table : List (CowSlice ℕ Global × ℕ) → TextTable
lent_table entries = record { kept = []; texts = lent_texts entries }

-- the texts end with their NULs at a length, and each is found at its place
pub record IsLentPool (len : ℕ) (entries : List (CowSlice ℕ Global × ℕ)) : Type 0 where
  pub ends : len ≡ length (laid_texts (lent_texts entries))
  pub placed : (t : List ℕ) → lent_place entries t ≡ text_place (lent_table entries) t

-- two keys have the same bytes
abbrev pub same_lent : CowSlice ℕ Global → CowSlice ℕ Global → Bool
same_lent k l = bytes_eq (cow_slice_items k) (cow_slice_items l)

-- a text has this place: that which it had, or else a fresh one, which is then noted
pub record IsNoted (old new : List (CowSlice ℕ Global × ℕ)) (text : CowSlice ℕ Global) (fresh place : ℕ) : Type 0 where
  pub entries : new ≡ insert_entry same_lent old text place
  pub found : place ≡ unwrap_or (lent_place old (cow_slice_items text)) fresh
