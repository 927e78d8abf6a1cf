-- What the calls of this crate are given, in the words of the layout.
use Rattle.std.specs.Prelude.{Bool, ℕ, ◌+◌, ◌<◌, ◌≡◌, ◌&&◌, not, true, List, [], ◌∷◌, length, slice_index_or, Option, Some, None}
use Rattle.std.specs.declared.alloc.Global.{Global}
use Rattle.std.specs.declared.vec.Vec.{Vec}
use Rattle.dw_base.specs.Elf.{contents_of, is_empty_kind, nth_section, section_count}
use Rattle.dw_base.specs.Layout.{Part, is_fixed}
use Rattle.dw_base.specs.Refusals.{at}
use Rattle.dw_base.specs.declared.fault.Fault.{Fault}
use Rattle.dw_base.specs.declared.fault.Fault.TheVariants.{Refused}
use Rattle.dw_base.specs.declared.fault.Kind.TheVariants.{TooLarge}
use Rattle.dw_base.specs.declared.records.Section.{Section}
use Rattle.dw_base.specs.declared.shared.Order.{Order}
use Rattle.dw_base.specs.declared.shared.Order.TheVariants.{Little}
use Rattle.elf_layout.specs.Patched.{with_patches}
use Rattle.elf_layout.specs.declared.new_body.Source.{Source}
use Rattle.elf_layout.specs.declared.new_body.Source.TheVariants.{Whole, Patched}
use Rattle.elf_layout.specs.declared.patch.Patch.{Patch}

-- a section to be written, of its header, whether it is laid out anew, and its body
abbrev pub part : Section → Bool → List ℕ → Part
part head moves body = record { head = head; moves = moves; body = body }

-- the file would be too long
abbrev pub refused_length : Fault
refused_length = Refused (at TooLarge 0 0)

-- the bytes of a vector, where there is one, else others
abbrev pub own_or : Option (Vec ℕ Global) → List ℕ → List ℕ
own_or None old = old
own_or (Some v) old = v.items

-- a new body of a section: bytes, and the new numbers of some of their fields
pub record NewBody : Type 0 where
  pub order : Order
  pub start : List ℕ
  pub fields : List Patch

-- a body as the code has it; where it has bytes of its own no field has a new number, and the order is any
abbrev pub body_of : Source → NewBody
body_of (Whole bytes) = record { order = Little; start = bytes.items; fields = [] }
body_of (Patched old order fields) = record { order = order; start = old.now; fields = fields.items }

-- its bytes
abbrev pub body_bytes : NewBody → List ℕ
body_bytes x = with_patches x.order x.start x.fields

-- the bytes of a new body, where one is given, else others
abbrev pub given_or : Option NewBody → List ℕ → List ℕ
given_or None own = own
given_or (Some x) own = body_bytes x

-- the item that is given for a section
abbrev pub item_of : List (Option NewBody) → ℕ → Option NewBody
item_of contents i = slice_index_or contents i None

-- the body of the section of a number: the given one, else its own contents
unfoldable pub body_given : List ℕ → List (Option NewBody) → ℕ → List ℕ
body_given b contents i = given_or (item_of contents i) (contents_of b i)

-- there is one item for each section, and none is given for sections of type NULL and NOBITS
pub record AreContents (b : List ℕ) (contents : List (Option NewBody)) : Type 0 where
  pub each : length contents ≡ section_count b
  pub none : (i : ℕ) → i < section_count b → is_empty_kind (nth_section b i) ≡ true → item_of contents i ≡ None

-- the section of a number as it is to be written, with the item that is given for it
abbrev pub part_with : List ℕ → ℕ → Option NewBody → Part
part_with b i given = part (nth_section b i) (not (is_empty_kind (nth_section b i)) && not (is_fixed b (nth_section b i))) (given_or given (contents_of b i))

-- sections from a number on, with the items that are given for them
abbrev pub parts_with : List ℕ → ℕ → List (Option NewBody) → List Part
parts_with b i [] = []
parts_with b i (x ∷ xs) = part_with b i x ∷ parts_with b (i + 1) xs
