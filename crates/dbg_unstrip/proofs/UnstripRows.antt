-- Why two files aren't joined, step by step, for the check's search.
use Rattle.std.proofs.Common.{◌≡◌, ◌≢◌, ◌≤◌, ℕ, Bool, true, false, List, [], length, refl, sym, ap, ◌∙◌, arith, subst}
use Rattle.dw_base.specs.Elf.{section_count}
use Rattle.dw_base.specs.Layout.{is_loaded_kind, output_limit}
use Rattle.dw_base.specs.LayoutFails.{TooLong}
use Rattle.dw_base.specs.LayoutFails.TooLong.{long}
use Rattle.dw_base.specs.Refusals.{Blames, at}
use Rattle.dw_base.specs.SectionNames.{contents_called, debug_link, names_of}
use Rattle.dw_base.specs.declared.fault.Fault.{Fault}
use Rattle.dw_base.specs.declared.fault.Fault.TheVariants.{NoMemory as no_memory, Refused as refused}
use Rattle.dw_base.specs.declared.fault.Kind.TheVariants.{FileType}
use Rattle.dw_base.specs.declared.fault.Refusal.{Refusal}
use Rattle.debug_link.specs.Links.{holds_link}
use Rattle.dw_view.specs.Pairs.{IsPaired, Mismatches, link_in}
use Rattle.dw_view.specs.declared.mismatch.Mismatch.TheVariants.{NoLink, Name, Sum}
use Rattle.dw_view.specs.declared.mismatch.Mismatch.{Mismatch}
use Rattle.dbg_unstrip.specs.Joined.{joined}
use Rattle.dbg_unstrip.specs.Matching.{DontMatch}
use Rattle.dbg_unstrip.specs.UnstripFails.{AreJoinable, CanMatch, PairBlames, UnstripBlames, UnstripFails, UnstripRefuses, of_fault}
use Rattle.dbg_unstrip.specs.UnstripFails.UnstripRefuses.{file_type, large}
use Rattle.dbg_unstrip.specs.declared.unstrip_err.UnstripErr.{UnstripErr}
use Rattle.dbg_unstrip.specs.declared.unstrip_err.UnstripErr.TheVariants.{NotAPair, Unmatched, Refused, NoMemory}

-- a pair has sections
link-empty : holds_link [] ≡ false
unfolding holds_link
link-empty = refl

called-empty : (s name : List ℕ) → section_count s ≡ 0 → contents_called s name ≡ []
unfolding contents_called names_of
called-empty s name none = rw none refl

pub paired-some : (s d name : List ℕ) → IsPaired s d name → section_count s ≢ 0
unfolding link_in
paired-some s d name p none =
    let no : true ≡ false = sym p.link.holds ∙ ap (λ (l : List ℕ). holds_link l) (called-empty s debug_link none) ∙ link-empty in
    cc

pub can-some : (s d name : List ℕ) → CanMatch s d name → section_count s ≢ 0
can-some s d name can = paired-some s d name can.paired

-- no pair
pub pair-blames : (s d name : List ℕ) (e : UnstripErr) → PairBlames s d name e → UnstripBlames s d name e
pair-blames s d name (NotAPair m) h = h
pair-blames s d name (Unmatched place) h = absurd h
pair-blames s d name (Refused r) h = absurd h
pair-blames s d name NoMemory h = h

pub other-type : (s d name : List ℕ) (t : Bool) → IsPaired s d name → t ≡ is_loaded_kind s → t ≡ false → UnstripBlames s d name (Refused (at FileType 0 16))
other-type s d name t p t_is none = file_type p (sym t_is ∙ none)

pub can-all : (s d name : List ℕ) (t : Bool) → IsPaired s d name → t ≡ is_loaded_kind s → t ≡ true → CanMatch s d name
can-all s d name t p t_is all = record { paired = p; loaded = sym t_is ∙ all }

pub ruleset can_rows = (pair-blames, other-type, can-all)

-- no match
pub match-blames : (s d name : List ℕ) (place : ℕ) → CanMatch s d name → DontMatch s d place → UnstripBlames s d name (Unmatched place)
match-blames s d name place can h = record { can = can; unmatched = h }

pub ruleset match_rows = (can-some, match-blames)

-- too long
pub long-blames : (s d name : List ℕ) (f : Fault) → CanMatch s d name → ((place : ℕ) → DontMatch s d place → ⊥) → Blames (TooLong (length (joined s d))) f
    → UnstripBlames s d name (of_fault f)
long-blames s d name no_memory can matched h = tt
long-blames s d name (refused r) can matched h = large can matched h

-- nothing else comes where they are joined
pub mismatch-excludes : (s d name : List ℕ) (m : Mismatch) → IsPaired s d name → Mismatches s d name m → ⊥
mismatch-excludes s d name NoLink p h = let no : true ≡ false = sym p.link.holds ∙ h.none in cc
mismatch-excludes s d name (Name x y) p h = h.differs (h.named_is ∙ sym p.link.name_is ∙ sym h.found_is)
mismatch-excludes s d name (Sum x y) p h = h.differs (h.link.sum_is ∙ sym p.link.sum_is ∙ sym h.found_is)

too-long : (n : ℕ) (r : Refusal) → n ≤ output_limit → TooLong n r → ⊥
too-long n r short (long past) = omega (arith, short, past)

refuses-excludes : (s d name : List ℕ) (r : Refusal) → AreJoinable s d name → UnstripRefuses s d name r → ⊥
refuses-excludes s d name r are (file_type p other) = let no : true ≡ false = sym are.pair.can.loaded ∙ other in cc
refuses-excludes s d name r are (large may matched passes) = too-long (length (joined s d)) r are.short passes

pub unstrip-excludes : (s d name : List ℕ) (e : UnstripErr) → AreJoinable s d name → UnstripFails s d name e → ⊥
unstrip-excludes s d name (NotAPair m) are h = mismatch-excludes s d name m are.pair.can.paired h
unstrip-excludes s d name (Unmatched place) are h = are.pair.matched place h.unmatched
unstrip-excludes s d name (Refused r) are h = refuses-excludes s d name r are h
unstrip-excludes s d name NoMemory are h = h

-- the file of two that match is one that was made
pub are-joinable : (s d name file : List ℕ) → CanMatch s d name → ((place : ℕ) → DontMatch s d place → ⊥) → file ≡ joined s d → length file ≤ output_limit
    → AreJoinable s d name
are-joinable s d name file can matched is small = record {
  pair = record { can = can; matched = matched };
  short = subst (λ (f : List ℕ). length f ≤ output_limit) is small;
}

pub ruleset unstrip_rows = (long-blames, are-joinable)
