-- Sections in which no relocation begins (gABI ch. 4 "Relocation"), as all of a linked file: a field is the number in its bytes.
use Rattle.std.specs.Prelude.{◌≡◌, true, ℕ, List, None, is_some}
use Rattle.dw_base.specs.FileViews.{View, kind_at, section_bytes, view_cells}
use Rattle.dw_base.specs.RelocationFields.{relocation_at}

-- these are the bytes of the section of a number, and no relocation begins in it
pub record IsPlain (v : View) (section : ℕ) (bytes : List ℕ) : Type 0 where
  pub bytes_are : bytes ≡ section_bytes v section
  pub none : (p : ℕ) → relocation_at (view_cells v section) p ≡ None

-- the section of a number isn't read, or a relocation begins in it
pub data IsNotPlain (v : View) (section : ℕ) : Type 0 where
  unread : kind_at v section ≡ None → IsNotPlain v section
  begins : (p : ℕ) → is_some (relocation_at (view_cells v section) p) ≡ true → IsNotPlain v section
