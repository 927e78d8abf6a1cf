-- The numbers of a file header, together (gABI ch. 4 "ELF Header").
use Rattle.std.specs.Prelude.{ℕ, List}
use Rattle.dw_base.specs.Elf.{class_of, order_of, e_type, e_machine, e_phoff, e_shoff, e_phentsize, e_phnum, e_shentsize, e_shnum, e_shstrndx}
use Rattle.elf_file.specs.declared.records.FileHeader.{FileHeader}

-- what the file header says
unfoldable pub file_header : List ℕ → FileHeader
file_header b = record {
  class = class_of b;
  order = order_of b;
  kind = e_type b;
  machine = e_machine b;
  phoff = e_phoff b;
  shoff = e_shoff b;
  phentsize = e_phentsize b;
  phnum = e_phnum b;
  shentsize = e_shentsize b;
  shnum = e_shnum b;
  shstrndx = e_shstrndx b;
}
