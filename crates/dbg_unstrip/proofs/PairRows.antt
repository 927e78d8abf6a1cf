-- What is known where two files aren't a pair, for the check's search.
use Rattle.std.proofs.Common.{◌≡◌, ◌≢◌, ℕ, false, List, sym, ap, ◌∙◌, subst}
use Rattle.dw_base.specs.Elf.{order_of}
use Rattle.dw_base.specs.Texts.{text}
use Rattle.dw_base.specs.declared.shared.Order.{Order}
use Rattle.debug_link.specs.Links.{IsLink, holds_link}
use Rattle.debug_link.specs.Sums.{crc32}
use Rattle.dw_view.specs.Pairs.{link_in}
use Rattle.dw_view.specs.declared.mismatch.Mismatch.TheVariants.{NoLink, Name, Sum}
use Rattle.dw_view.proofs.PairingLaws.{link-paired}
use Rattle.dbg_unstrip.specs.UnstripFails.{NamesOther, PairBlames}
use Rattle.dbg_unstrip.specs.declared.unstrip_err.UnstripErr.{UnstripErr}
use Rattle.dbg_unstrip.specs.declared.unstrip_err.UnstripErr.TheVariants.{NotAPair, Unmatched, Refused, NoMemory}

pub link-none : (s d name link : List ℕ) → link ≡ link_in s → holds_link link ≡ false → PairBlames s d name (NotAPair NoLink)
link-none s d name link is none = record { none = ap (λ (l : List ℕ). holds_link l) (sym is) ∙ none }

pub link-other : (s d name link named : List ℕ) (sum : ℕ) (o : Order) (e : UnstripErr) → o ≡ order_of s → link ≡ link_in s → IsLink o link named sum → named ≢ name
    → NamesOther named name e → PairBlames s d name e
link-other s d name link named sum o (NotAPair NoLink) o_is is read differs other = absurd other
link-other s d name link named sum o (NotAPair (Name x y)) o_is is read differs other = record {
  holds = ap (λ (l : List ℕ). holds_link l) (sym is) ∙ read.holds;
  named_is = other.0 ∙ read.name_is ∙ ap (λ (l : List ℕ). text l) is;
  found_is = other.1;
  differs = λ same. differs (sym other.0 ∙ same ∙ other.1);
}
link-other s d name link named sum o (NotAPair (Sum x y)) o_is is read differs other = absurd other
link-other s d name link named sum o (Unmatched place) o_is is read differs other = absurd other
link-other s d name link named sum o (Refused r) o_is is read differs other = absurd other
link-other s d name link named sum o NoMemory o_is is read differs other = tt

pub link-sum : (s d name link named : List ℕ) (sum found : ℕ) (o : Order) → o ≡ order_of s → link ≡ link_in s → IsLink o link named sum → named ≡ name → found ≡ crc32 d
    → sum ≢ found → PairBlames s d name (NotAPair (Sum sum found))
link-sum s d name link named sum found o o_is is read same found_is differs = record {
  link = subst (λ (x : Order). IsLink x (link_in s) name sum) o_is
      (subst (λ (l : List ℕ). IsLink o l name sum) is (subst (λ (n : List ℕ). IsLink o link n sum) same read));
  found_is = found_is;
  differs = differs;
}

pub ruleset pair_rows = (link-none, link-other, link-sum, link-paired)
