-- The definitions give the values that the standards print.
use Rattle.std.proofs.Common.{◌≡◌, pos, negsuc, [], ◌∷◌, Some, None, refl}
use Rattle.dw_base.specs.declared.shared.Order.TheVariants.{Little, Big}
use Rattle.dw_base.specs.declared.shared.Width.TheVariants.{W32, W64}
use Rattle.dw_base.specs.Numbers.{number_at, spelled}
use Rattle.dw_base.specs.Lebs.{uleb_at, sleb_at, initial_length_at}

-- gABI ch. 4, figure "Data Encoding": 0x01020304 in either order
number_little : number_at Little (0x04 ∷ 0x03 ∷ 0x02 ∷ 0x01 ∷ []) 0 4 ≡ Some 0x0102_0304
unfolding number_at spelled
number_little = refl

number_big : number_at Big (0x01 ∷ 0x02 ∷ 0x03 ∷ 0x04 ∷ []) 0 4 ≡ Some 0x0102_0304
unfolding number_at spelled
number_big = refl

number_past_the_end : number_at Big (0x01 ∷ 0x02 ∷ 0x03 ∷ 0x04 ∷ []) 1 4 ≡ None
unfolding number_at spelled
number_past_the_end = refl

-- DWARF 5, 7.6, table 7.7: unsigned numbers
uleb_2 : uleb_at (0x02 ∷ []) 0 ≡ Some (2, 1)
unfolding uleb_at
uleb_2 = refl

uleb_127 : uleb_at (0x7f ∷ []) 0 ≡ Some (127, 1)
unfolding uleb_at
uleb_127 = refl

uleb_128 : uleb_at (0x80 ∷ 0x01 ∷ []) 0 ≡ Some (128, 2)
unfolding uleb_at
uleb_128 = refl

uleb_129 : uleb_at (0x81 ∷ 0x01 ∷ []) 0 ≡ Some (129, 2)
unfolding uleb_at
uleb_129 = refl

uleb_12857 : uleb_at (0xb9 ∷ 0x64 ∷ []) 0 ≡ Some (12857, 2)
unfolding uleb_at
uleb_12857 = refl

-- three bytes, a spelling that is longer than it has to be, and one that has no end
uleb_624485 : uleb_at (0xe5 ∷ 0x8e ∷ 0x26 ∷ []) 0 ≡ Some (624485, 3)
unfolding uleb_at
uleb_624485 = refl

uleb_2_long : uleb_at (0x82 ∷ 0x80 ∷ 0x00 ∷ []) 0 ≡ Some (2, 3)
unfolding uleb_at
uleb_2_long = refl

uleb_endless : uleb_at (0x80 ∷ 0x80 ∷ []) 0 ≡ None
unfolding uleb_at
uleb_endless = refl

-- DWARF 5, 7.6, table 7.8: signed numbers
sleb_2 : sleb_at (0x02 ∷ []) 0 ≡ Some (pos 2, 1)
unfolding sleb_at
sleb_2 = refl

sleb_-2 : sleb_at (0x7e ∷ []) 0 ≡ Some (negsuc 1, 1)
unfolding sleb_at
sleb_-2 = refl

sleb_127 : sleb_at (0xff ∷ 0x00 ∷ []) 0 ≡ Some (pos 127, 2)
unfolding sleb_at
sleb_127 = refl

sleb_-127 : sleb_at (0x81 ∷ 0x7f ∷ []) 0 ≡ Some (negsuc 126, 2)
unfolding sleb_at
sleb_-127 = refl

sleb_128 : sleb_at (0x80 ∷ 0x01 ∷ []) 0 ≡ Some (pos 128, 2)
unfolding sleb_at
sleb_128 = refl

sleb_-128 : sleb_at (0x80 ∷ 0x7f ∷ []) 0 ≡ Some (negsuc 127, 2)
unfolding sleb_at
sleb_-128 = refl

sleb_129 : sleb_at (0x81 ∷ 0x01 ∷ []) 0 ≡ Some (pos 129, 2)
unfolding sleb_at
sleb_129 = refl

sleb_-129 : sleb_at (0xff ∷ 0x7e ∷ []) 0 ≡ Some (negsuc 128, 2)
unfolding sleb_at
sleb_-129 = refl

-- DWARF 5, 7.4: the initial length of the 64-bit format, and a reserved word
length_64 : initial_length_at Little (0xff ∷ 0xff ∷ 0xff ∷ 0xff ∷ 0x10 ∷ 0x00 ∷ 0x00 ∷ 0x00 ∷ 0x00 ∷ 0x00 ∷ 0x00 ∷ 0x00 ∷ []) 0 ≡ Some (W64, 16, 12)
unfolding initial_length_at number_at spelled
length_64 = refl

length_32 : initial_length_at Big (0xff ∷ 0xff ∷ 0xff ∷ 0xef ∷ []) 0 ≡ Some (W32, 0xffff_ffef, 4)
unfolding initial_length_at number_at spelled
length_32 = refl

length_reserved : initial_length_at Little (0xf0 ∷ 0xff ∷ 0xff ∷ 0xff ∷ []) 0 ≡ None
unfolding initial_length_at number_at spelled
length_reserved = refl
