-- The kinds of refusals as they are printed. This project's profile.
use Rattle.std.specs.Prelude.{ℕ, List, codes}
use Rattle.dw_base.specs.declared.fault.Kind.{Kind}
use Rattle.dw_base.specs.declared.fault.Kind.TheVariants as kinds

-- a kind of refusal as it is printed
unfoldable pub kind_text : Kind → List ℕ
kind_text kinds.Header = codes "header"
kind_text kinds.Range = codes "range"
kind_text kinds.Fixed = codes "fixed"
kind_text kinds.Compressed = codes "compressed"
kind_text kinds.Supplementary = codes "supplementary"
kind_text kinds.SplitDwarf = codes "split dwarf"
kind_text kinds.UnknownDebug = codes "unknown debug"
kind_text kinds.Twice = codes "twice"
kind_text kinds.Unit = codes "unit"
kind_text kinds.Abbreviation = codes "abbreviation"
kind_text kinds.Form = codes "form"
kind_text kinds.Entry = codes "entry"
kind_text kinds.StringOffset = codes "string offset"
kind_text kinds.StringTable = codes "string table"
kind_text kinds.SharedIndex = codes "shared index"
kind_text kinds.Line = codes "line"
kind_text kinds.Stray = codes "stray"
kind_text kinds.Macro = codes "macro"
kind_text kinds.InlineGrows = codes "inline grows"
kind_text kinds.Relocation = codes "relocation"
kind_text kinds.TooWide = codes "too wide"
kind_text kinds.BuildId = codes "build id"
kind_text kinds.NameTable = codes "name table"
kind_text kinds.TooLarge = codes "too large"
kind_text kinds.DefinedPath = codes "defined path"
kind_text kinds.FileType = codes "file type"
