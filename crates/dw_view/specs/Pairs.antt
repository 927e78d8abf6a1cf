-- Whether a stripped file and a debug file are a pair (GNU debugging information in separate files, section `.gnu_debuglink`): the
-- link of the stripped file has the name and the sum of the debug file. And why there is no view of a pair.
use Rattle.std.specs.Prelude.{true, false, ◌≡◌, ◌≢◌, ℕ, List}
use Rattle.dw_base.specs.Elf.{order_of}
use Rattle.dw_base.specs.Refusals.{Blames}
use Rattle.dw_base.specs.SectionNames.{contents_called, debug_link}
use Rattle.dw_base.specs.Texts.{text}
use Rattle.dw_base.specs.ViewFails.{ViewFails}
use Rattle.dw_base.specs.declared.fault.Fault.{Fault}
use Rattle.dw_base.specs.declared.fault.Fault.TheVariants.{NoMemory, Refused}
use Rattle.dw_base.specs.declared.fault.Refusal.{Refusal}
use Rattle.debug_link.specs.Links.{IsLink, holds_link}
use Rattle.debug_link.specs.Sums.{crc32}
use Rattle.dw_view.specs.declared.mismatch.Mismatch.{Mismatch}
use Rattle.dw_view.specs.declared.mismatch.Mismatch.TheVariants.{NoLink, Name, Sum}
use Rattle.dw_view.specs.declared.mismatch.PairErr.{PairErr}
use Rattle.dw_view.specs.declared.mismatch.PairErr.TheVariants.{NotAPair, Stripped, Debug}

-- the link of a stripped file: the contents of the first section of that name, none where there is none
unfoldable pub link_in : List ℕ → List ℕ
link_in stripped = contents_called stripped debug_link

-- the stripped file links to the debug file by this name
pub record IsPaired (stripped debug name : List ℕ) : Type 0 where
  pub link : IsLink (order_of stripped) (link_in stripped) name (crc32 debug)

-- it has no link
pub record HasNoLink (stripped : List ℕ) : Type 0 where
  pub none : holds_link (link_in stripped) ≡ false

-- its link has another name
pub record HasOtherName (stripped name named found : List ℕ) : Type 0 where
  pub holds : holds_link (link_in stripped) ≡ true
  pub named_is : named ≡ text (link_in stripped)
  pub found_is : found ≡ name
  pub differs : named ≢ found

-- its link has the name, and another sum
pub record HasOtherSum (stripped debug name : List ℕ) (named found : ℕ) : Type 0 where
  pub link : IsLink (order_of stripped) (link_in stripped) name named
  pub found_is : found ≡ crc32 debug
  pub differs : named ≢ found

-- the two aren't a pair, for this reason
abbrev pub Mismatches : List ℕ → List ℕ → List ℕ → Mismatch → Type 0
Mismatches stripped debug name NoLink = HasNoLink stripped
Mismatches stripped debug name (Name named found) = HasOtherName stripped name named.items found.items
Mismatches stripped debug name (Sum named found) = HasOtherSum stripped debug name named found

-- the answer that a link has another name, with both, or want of memory
abbrev pub NamesOther : List ℕ → List ℕ → PairErr → Type 0
NamesOther named found (NotAPair NoLink) = ⊥
NamesOther named found (NotAPair (Name x y)) = (x.items ≡ named) × (y.items ≡ found)
NamesOther named found (NotAPair (Sum x y)) = ⊥
NamesOther named found (Stripped NoMemory) = Unit {0}
NamesOther named found (Stripped (Refused r)) = ⊥
NamesOther named found (Debug fault) = ⊥

-- they are one, and a condition on the type, the sections or their relocations holds of one of them
pub record PairedFails (stripped debug name file : List ℕ) (r : Refusal) : Type 0 where
  pub paired : IsPaired stripped debug name
  pub fails : ViewFails file r

-- a refusal of which this holds
abbrev pub Refuses : (Refusal → Type 0) → Fault → Type 0
Refuses fails NoMemory = ⊥
Refuses fails (Refused r) = fails r

-- a condition for which there is no view of the two
abbrev pub PairRefused : List ℕ → List ℕ → List ℕ → PairErr → Type 0
PairRefused stripped debug name (NotAPair m) = Mismatches stripped debug name m
PairRefused stripped debug name (Stripped fault) = Refuses (PairedFails stripped debug name stripped) fault
PairRefused stripped debug name (Debug fault) = Refuses (PairedFails stripped debug name debug) fault

-- and why there is none: one of them, or want of memory
abbrev pub PairBlames : List ℕ → List ℕ → List ℕ → PairErr → Type 0
PairBlames stripped debug name (NotAPair m) = Mismatches stripped debug name m
PairBlames stripped debug name (Stripped fault) = Blames (PairedFails stripped debug name stripped) fault
PairBlames stripped debug name (Debug fault) = Blames (PairedFails stripped debug name debug) fault
