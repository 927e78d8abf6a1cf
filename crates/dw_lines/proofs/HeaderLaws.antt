-- Laws of the numbers at the front of a line table's header.
use Rattle.std.proofs.Common.{true, ◌≡◌, ℕ, ◌+◌, ◌-◌, ◌<◌, ◌≤◌, List, length, take, sym, ap, ◌∙◌, subst}
use Rattle.std.proofs.lemmas.List.{length-take-le}
use Rattle.dw_base.specs.LineHeaders.{has_standard_operands, HeaderFits}
use Rattle.dw_base.specs.declared.line_tables.LineHeader.{LineHeader}

pub header-fits : (start end : ℕ) (h : LineHeader) → h.start ≡ start → h.end ≡ end → start < end → 0 < h.opcode_base → h.lists ≡ h.operands + (h.opcode_base - 1)
    → h.lists ≤ h.end → h.program ≤ h.end → HeaderFits start end h
header-fits start end h s e further some operands lists program = record {
  start_is = s;
  end_is = e;
  further = further;
  some = some;
  operands = operands;
  lists = lists;
  program = program;
}

pub ruleset header_laws = (header-fits)

-- the end is the header's own
pub fits-own : (start end : ℕ) (h : LineHeader) → HeaderFits start end h → HeaderFits start h.end h
fits-own start end h f = subst (λ (n : ℕ). HeaderFits start n h) (sym f.end_is) f

pub further-own : (start end : ℕ) (h : LineHeader) → HeaderFits start end h → start < h.end
further-own start end h f = subst (λ (n : ℕ). start < n) (sym f.end_is) f.further

pub standard-own : (bytes : List ℕ) (start n : ℕ) (h : LineHeader) → HeaderFits start (length (take n bytes)) h → n ≤ length bytes
    → has_standard_operands (take n bytes) h ≡ true → has_standard_operands (take h.end bytes) h ≡ true
standard-own bytes start n h f inside standard =
    let own : h.end ≡ n = f.end_is ∙ length-take-le n bytes inside in
    ap (λ (k : ℕ). has_standard_operands (take k bytes) h) own ∙ standard

pub ruleset line_laws = (fits-own, further-own, standard-own)
