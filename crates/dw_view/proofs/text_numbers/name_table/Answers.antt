-- Where there are sections, the table is the one whose number is said.
use Rattle.std.proofs.Common.{◌∙◌, ◌<◌, ap, arith}
use Rattle.dw_base.specs.Elf.{contents_of, section_count}
use Rattle.dw_view.proofs.TextNumberLaws.{table-some}
use Rattle.dw_view.proofs.text_numbers.name_table.Goals as goal

pub returns : goal.returns
returns c =
    let file = c.args.elf.now in
    let there : 0 < section_count file.bytes.now = omega arith in
    record {
      table =
          table-some file.bytes.now c.contents.result.now 0 file.is_elf.reads there
          (c.contents.ensures.contents ∙ ap (contents_of file.bytes.now) file.is_elf.names_are);
    }
