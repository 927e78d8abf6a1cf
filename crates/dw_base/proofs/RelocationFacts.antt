-- The definitions give the values that the processor supplements print, and none elsewhere.
use Rattle.std.proofs.Common.{◌≡◌, Some, None, refl}
use Rattle.dw_base.specs.AbsoluteTypes.{absolute_types, absolute_size}

-- System V ABI, Intel386, "Relocation Types": R_386_32 is 1 and takes a word of 4 bytes; R_386_PC32, 2, is relative
i386_32_is_1 : absolute_size 3 1 ≡ Some 4
unfolding absolute_size absolute_types
i386_32_is_1 = refl

i386_pc32_is_not_absolute : absolute_size 3 2 ≡ None
unfolding absolute_size absolute_types
i386_pc32_is_not_absolute = refl

-- System V ABI, PowerPC, table 4-8: R_PPC_ADDR32 is 1
ppc_addr32_is_1 : absolute_size 20 1 ≡ Some 4
unfolding absolute_size absolute_types
ppc_addr32_is_1 = refl

-- 64-bit ELF ABI, PowerPC, 4.5: R_PPC64_ADDR32 is 1, R_PPC64_ADDR64 38; on 32 bits 38 isn't listed
ppc64_addr32_is_1 : absolute_size 21 1 ≡ Some 4
unfolding absolute_size absolute_types
ppc64_addr32_is_1 = refl

ppc64_addr64_is_38 : absolute_size 21 38 ≡ Some 8
unfolding absolute_size absolute_types
ppc64_addr64_is_38 = refl

ppc_has_no_38 : absolute_size 20 38 ≡ None
unfolding absolute_size absolute_types
ppc_has_no_38 = refl

-- ELF ABI supplement, zSeries, table "Relocation types": R_390_32 is 4, R_390_64 22
s390_32_is_4 : absolute_size 22 4 ≡ Some 4
unfolding absolute_size absolute_types
s390_32_is_4 = refl

s390_64_is_22 : absolute_size 22 22 ≡ Some 8
unfolding absolute_size absolute_types
s390_64_is_22 = refl

-- ELF for the ARM Architecture, 4.6.1: R_ARM_ABS32 is 2
arm_abs32_is_2 : absolute_size 40 2 ≡ Some 4
unfolding absolute_size absolute_types
arm_abs32_is_2 = refl

-- System V ABI, AMD64, table 4.9: R_X86_64_64 is 1, R_X86_64_32 10; R_X86_64_NONE is 0
x86_64_64_is_1 : absolute_size 62 1 ≡ Some 8
unfolding absolute_size absolute_types
x86_64_64_is_1 = refl

x86_64_32_is_10 : absolute_size 62 10 ≡ Some 4
unfolding absolute_size absolute_types
x86_64_32_is_10 = refl

x86_64_none_is_not_absolute : absolute_size 62 0 ≡ None
unfolding absolute_size absolute_types
x86_64_none_is_not_absolute = refl

-- ELF for the Arm 64-bit Architecture, 5.7.5: R_AARCH64_ABS64 is 257, R_AARCH64_ABS32 258
aarch64_abs64_is_257 : absolute_size 183 257 ≡ Some 8
unfolding absolute_size absolute_types
aarch64_abs64_is_257 = refl

aarch64_abs32_is_258 : absolute_size 183 258 ≡ Some 4
unfolding absolute_size absolute_types
aarch64_abs32_is_258 = refl
