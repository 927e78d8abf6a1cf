-- What was lent comes back marked.
use Rattle.std.proofs.Common.{◌≡◌, ◌<◌, ◌||◌, ℕ, false, Bool, List, length, get_or, subst}
use Rattle.std.specs.List.{list_any}
use Rattle.dbg_split.specs.Droppable.{links_symbols}
use Rattle.dbg_split.proofs.MarkLaws.{all-lent}
use Rattle.dbg_split.proofs.marking.names_symbols.Goals as goal

pub returns : goal.returns
returns c =
    let marks = c.mark_all.new.marks in
    let heads = c.args.elf.now.sections.items in
    record {
      marks =
          all-lent c.args.elf.now.bytes.now c.in_ok-marks.marks.items marks heads c.section_count.result c.in_ok-marks.marks.len
          c.in_ok-marks.ensures.len c.in_ok-marks.ensures.marks c.section_count.ensures c.args.elf.now.is_elf.sections_are
          (subst (λ (start : List Bool). length marks ≡ length start) c.deref_mut.ensures.value c.mark_all.ensures.len)
          (subst (λ (hs : List _). (i : ℕ) → i < length c.in_ok-marks.marks.items → get_or marks i false ≡ (get_or c.in_ok-marks.marks.items i false || list_any (links_symbols i) hs))
          c.deref.ensures.value
          (subst (λ (start : List Bool). (i : ℕ) → i < length start → get_or marks i false ≡ (get_or start i false || list_any (links_symbols i) c.deref.result.now))
          c.deref_mut.ensures.value c.mark_all.ensures.each));
    }
