use Rattle.std.proofs.Common.{◌≡◌, drop}
use Rattle.elf_layout.specs.Patched.{PatchedUpTo, with_patches}
use Rattle.elf_layout.proofs.patch.put_patches.Given as goal

-- the fields so far are put, and those that are left are put one after another
abbrev pub invariant-loop-patch : goal.invariant-loop-patch
invariant-loop-patch l = record {
  patched : PatchedUpTo l.order l.list l.patch-index l.fn.bytes l.bytes;
  put : with_patches l.order l.bytes (drop l.patch-index l.list) ≡ with_patches l.order l.fn.bytes l.list;
}
