-- Laws of what relocations are read from.
use Rattle.std.proofs.Common.{◌≡◌, ℕ, ◌/◌, length, sym, ap, ◌∙◌}
use Rattle.dw_base.specs.Relocs.{reloc_size}
use Rattle.dw_base.specs.SectionRelocations.{RelocationSource, records_in}
use Rattle.dw_base.proofs.RelocationTieLaws.{length-records}

pub count-is : (g : RelocationSource) (n size : ℕ) → size ≡ reloc_size g.class g.rela → n ≡ length g.table / size → n ≡ length (records_in g)
count-is g n size e is = is ∙ ap (λ (k : ℕ). length g.table / k) e ∙ sym (length-records g)

pub ruleset count_rules = (count-is)
