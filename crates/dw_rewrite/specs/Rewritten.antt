-- A file written with new bytes for some of its sections.
use Rattle.std.specs.Prelude.{Bool, false, ◌≡◌, ◌≢◌, ℕ, ◌<◌, ◌==◌, ◌&&◌, not, List, [], ◌∷◌, length, if◌then◌else◌, ⊤, Option, Some, None}
use Rattle.dw_meaning.specs.DataOutput.{Body}
use Rattle.dw_base.specs.Elf.{contents_of, is_empty_kind, nth_section, section_count}
use Rattle.dw_base.specs.Layout.{is_fixed}
use Rattle.dw_base.specs.Refusals.{at}
use Rattle.dw_base.specs.declared.fault.Fault.{Fault}
use Rattle.dw_base.specs.declared.fault.Fault.TheVariants.{NoMemory, Refused}
use Rattle.dw_base.specs.declared.fault.Kind.{Kind}
use Rattle.dw_base.specs.declared.fault.Kind.TheVariants.{Fixed, TooLarge}
use Rattle.dw_base.specs.declared.fault.Refusal.{Refusal}
use Rattle.elf_layout.specs.Given.{NewBody, body_bytes, item_of}

-- the body is that of the section of a number. A body of number 0 is that of no section.
abbrev pub is_of : Body → ℕ → Bool
is_of x i = not (x.number == 0) && i == x.number

-- the bytes that are given for the section of a number: those of the first body that is its
abbrev pub bytes_given : List Body → ℕ → Option (List ℕ)
bytes_given [] i = None
bytes_given (x ∷ xs) i = if is_of x i then Some x.bytes else bytes_given xs i

abbrev pub bytes_or : Option (List ℕ) → List ℕ → List ℕ
bytes_or None own = own
bytes_or (Some bs) own = bs

-- the body of each section: the given one, else its own contents
abbrev pub body_with : List ℕ → List Body → ℕ → List ℕ
body_with b bodies i = bytes_or (bytes_given bodies i) (contents_of b i)

-- a body is that of no section, or of one that has bytes in the file
pub record Stands (b : List ℕ) (x : Body) : Type 0 where
  pub within : x.number ≢ 0 → x.number < section_count b
  pub full : x.number ≢ 0 → is_empty_kind (nth_section b x.number) ≡ false

abbrev pub AllStand : List ℕ → List Body → Type 0
AllStand b [] = ⊤
AllStand b (x ∷ xs) = Stands b x × AllStand b xs

-- the bytes of an item
abbrev pub item_bytes : Option NewBody → Option (List ℕ)
item_bytes None = None
item_bytes (Some v) = Some (body_bytes v)

-- there is one item for each section, with the bytes that are given for it
pub record AreGiven (b : List ℕ) (items : List (Option NewBody)) (bodies : List Body) : Type 0 where
  pub each : length items ≡ section_count b
  pub given : (i : ℕ) → i < section_count b → item_bytes (item_of items i) ≡ bytes_given bodies i

-- the items with one more body given
pub record IsGiven (old new : List (Option NewBody)) (x : Body) : Type 0 where
  pub size : length new ≡ length old
  pub given : (i : ℕ) → i < length old → item_bytes (item_of new i) ≡ (if is_of x i then Some x.bytes else item_bytes (item_of old i))

-- what refuses a section that is too long, of a number: it may not change where it stays, and makes the file too long where it is laid out
-- anew
abbrev pub long_refusal : List ℕ → ℕ → Refusal
long_refusal b i = if is_fixed b (nth_section b i) then at Fixed i 0 else at TooLarge 0 0

-- so where new bytes are refused as too long, and else by what refused them
abbrev pub long_or : Kind → Refusal → Refusal → Refusal
long_or TooLarge long own = long
long_or kind long own = own

abbrev pub told_refusal : List ℕ → Refusal → Refusal
told_refusal b r = long_or r.kind (long_refusal b r.section) r

abbrev pub long_fault : List ℕ → Fault → Fault
long_fault b NoMemory = NoMemory
long_fault b (Refused r) = Refused (told_refusal b r)

-- what is refused as too long is a section of the file
pub record IsInFile (b : List ℕ) (r : Refusal) : Type 0 where
  pub within : r.kind ≡ TooLarge → r.section < section_count b
