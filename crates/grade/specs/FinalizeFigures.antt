-- Laws: the definition of `finalize` computed: document 01's example, and a dozen answers of the published Rust.
use Rattle.std.specs.Prelude.{◌≡◌, refl, List, [], ◌∷◌, ℕ, Float}
use Rattle.std.specs.Float.{binary32, binary64}
use Rattle.std.specs.Float.Ieee.{of_bits, to_bits, round, add, sub, mul, div, lt, of_int}
use Rattle.float.specs.Narrowed.{narrowed}
use Rattle.float.specs.Clamped.{clamped}
use Rattle.sums.specs.declared.ShapeSums.{ShapeSums}
use Rattle.sums.specs.Sums.{three, no_sums, pixel_sums, plus}
use Rattle.grade.specs.Finalize.{error_before, colour_of, error_after, colour_at, before_at, after_at, wide_change, no_score, finalized}

-- a pixel by its bits: target and canvas, red, green and blue
abbrev pixel : ℕ → ℕ → ℕ → ℕ → ℕ → ℕ → ShapeSums
pixel t0 t1 t2 c0 c1 c2 =
    pixel_sums (of_bits binary32 t0) (of_bits binary32 t1) (of_bits binary32 t2) (of_bits binary32 c0) (of_bits binary32 c1) (of_bits binary32 c2)

abbrev ◌⊞◌ : ShapeSums → ShapeSums → ShapeSums
a ⊞ b = plus a b

infixl 6 ◌⊞◌
-- sums by their bits
abbrev three64 : ℕ → ℕ → ℕ → List Float
three64 x y z = three (of_bits binary64 x) (of_bits binary64 y) (of_bits binary64 z)

abbrev sums : List Float → List Float → List Float → List Float → List Float → ℕ → ShapeSums
sums t c t2 c2 tc n = record { s_t = t; s_c = c; s_t2 = t2; s_c2 = c2; s_tc = tc; count = n }

-- the count, and the bits of change, red, green and blue
abbrev answer : ShapeSums → ℕ → List ℕ
answer s opacity =
    let r = finalized s (of_bits binary32 opacity) in
    r.count ∷ to_bits binary32 r.change ∷ to_bits binary32 r.red ∷ to_bits binary32 r.green ∷ to_bits binary32 r.blue ∷ []

-- document 01's example
pub example : answer (no_sums ⊞ pixel 0x3f800000 0x3f800000 0x3f800000 0x00000000 0x00000000 0x00000000) 0x3f000000 ≡ 1 ∷ 0xc0100000 ∷ 0x3f800000 ∷ 0x3f800000 ∷ 0x3f800000 ∷ []
unfolding finalized no_score wide_change colour_at before_at after_at colour_of error_after error_before no_sums pixel_sums plus narrowed clamped of_bits to_bits round add sub mul div lt of_int
example = refl

-- opacity 0
pub opacity-none : answer (no_sums ⊞ pixel 0x3e99999a 0x3f19999a 0x3f666666 0x3dcccccd 0x3f000000 0x3f800000) 0x00000000 ≡ 1 ∷ 0x00000000 ∷ 0x00000000 ∷ 0x00000000 ∷ 0x00000000 ∷ []
unfolding finalized no_score wide_change colour_at before_at after_at colour_of error_after error_before no_sums pixel_sums plus narrowed clamped of_bits to_bits round add sub mul div lt of_int
opacity-none = refl

-- opacity 1
pub opacity_full : answer (no_sums ⊞ pixel 0x3e99999a 0x3f19999a 0x3f666666 0x3dcccccd 0x3f000000 0x3f800000 ⊞ pixel 0x3f333333 0x3e4ccccd 0x3ecccccd 0x00000000 0x3e800000 0x3e000000) 0x3f800000 ≡ 2 ∷ 0xbeafae15 ∷ 0x3f000000 ∷ 0x3ecccccd ∷ 0x3f266666 ∷ []
unfolding finalized no_score wide_change colour_at before_at after_at colour_of error_after error_before no_sums pixel_sums plus narrowed clamped of_bits to_bits round add sub mul div lt of_int
opacity_full = refl

-- clamped at 0 and at 1
pub clamped-both : answer (no_sums ⊞ pixel 0x00000000 0x3f800000 0x3f000000 0x3f800000 0x00000000 0x3f000000) 0x3e4ccccd ≡ 1 ∷ 0xbf3851eb ∷ 0x00000000 ∷ 0x3f800000 ∷ 0x3effffff ∷ []
unfolding finalized no_score wide_change colour_at before_at after_at colour_of error_after error_before no_sums pixel_sums plus narrowed clamped of_bits to_bits round add sub mul div lt of_int
clamped-both = refl

-- three pixels at 0.9
pub three_at_90 : answer (no_sums ⊞ pixel 0x3e812735 0x3f522150 0x3ef4fb22 0x3f69b4a9 0x3dfe34ca 0x3f1ee0fe ⊞ pixel 0x3e8e7a7e 0x3ed4b154 0x3e5c6161 0x3f0688d7 0x3f1b8c2c 0x3f70e181 ⊞ pixel 0x3f35f123 0x3e17b426 0x3ef707f2 0x3f331f85 0x3f6f164b 0x3f0540d5) 0x3f666666 ≡ 3 ∷ 0xbfd9c543 ∷ 0x3ec2d4a7 ∷ 0x3ee6ef31 ∷ 0x3eb78e2f ∷ []
unfolding finalized no_score wide_change colour_at before_at after_at colour_of error_after error_before no_sums pixel_sums plus narrowed clamped of_bits to_bits round add sub mul div lt of_int
three_at_90 = refl

-- three pixels at 0.2
pub three_at_20 : answer (no_sums ⊞ pixel 0x3e812735 0x3f522150 0x3ef4fb22 0x3f69b4a9 0x3dfe34ca 0x3f1ee0fe ⊞ pixel 0x3e8e7a7e 0x3ed4b154 0x3e5c6161 0x3f0688d7 0x3f1b8c2c 0x3f70e181 ⊞ pixel 0x3f35f123 0x3e17b426 0x3ef707f2 0x3f331f85 0x3f6f164b 0x3f0540d5) 0x3e4ccccd ≡ 3 ∷ 0xbf3cb695 ∷ 0x00000000 ∷ 0x3db0fcd2 ∷ 0x00000000 ∷ []
unfolding finalized no_score wide_change colour_at before_at after_at colour_of error_after error_before no_sums pixel_sums plus narrowed clamped of_bits to_bits round add sub mul div lt of_int
three_at_20 = refl

-- three pixels at 1/3
pub three-at-third : answer (no_sums ⊞ pixel 0x3e812735 0x3f522150 0x3ef4fb22 0x3f69b4a9 0x3dfe34ca 0x3f1ee0fe ⊞ pixel 0x3e8e7a7e 0x3ed4b154 0x3e5c6161 0x3f0688d7 0x3f1b8c2c 0x3f70e181 ⊞ pixel 0x3f35f123 0x3e17b426 0x3ef707f2 0x3f331f85 0x3f6f164b 0x3f0540d5) 0x3eaaaaab ≡ 3 ∷ 0xbf874144 ∷ 0x00000000 ∷ 0x3e8c41f3 ∷ 0x00000000 ∷ []
unfolding finalized no_score wide_change colour_at before_at after_at colour_of error_after error_before no_sums pixel_sums plus narrowed clamped of_bits to_bits round add sub mul div lt of_int
three-at-third = refl

-- no pixel
pub no_pixel : answer (sums (three64 0x3ff0000000000000 0x4000000000000000 0x4008000000000000) (three64 0x3fe0000000000000 0x3fe0000000000000 0x3fe0000000000000) (three64 0x3ff0000000000000 0x3ff0000000000000 0x3ff0000000000000) (three64 0x4000000000000000 0x4000000000000000 0x4000000000000000) (three64 0x3fd0000000000000 0x3fd0000000000000 0x3fd0000000000000) 0) 0x3f000000 ≡ 0 ∷ 0x00000000 ∷ 0x00000000 ∷ 0x00000000 ∷ 0x00000000 ∷ []
unfolding finalized no_score wide_change colour_at before_at after_at colour_of error_after error_before no_sums pixel_sums plus narrowed clamped of_bits to_bits round add sub mul div lt of_int
no_pixel = refl

-- a colour of -0.0
pub minus-nought : answer (sums (three64 0x8000000000000000 0x0000000000000000 0x3fd0000000000000) (three64 0x0000000000000000 0x0000000000000000 0x0000000000000000) (three64 0x0000000000000000 0x0000000000000000 0x3fb0000000000000) (three64 0x0000000000000000 0x0000000000000000 0x0000000000000000) (three64 0x0000000000000000 0x0000000000000000 0x0000000000000000) 1) 0x3f000000 ≡ 1 ∷ 0xbd800000 ∷ 0x80000000 ∷ 0x00000000 ∷ 0x3f000000 ∷ []
unfolding finalized no_score wide_change colour_at before_at after_at colour_of error_after error_before no_sums pixel_sums plus narrowed clamped of_bits to_bits round add sub mul div lt of_int
minus-nought = refl

-- a large count
pub large-count : answer (sums (three64 0x40dd4c2000000000 0x40c81cd6c8b43958 0x40f0000000000000) (three64 0x40d3881000000000 0x40dd4c0800000000 0x3ff0000000000000) (three64 0x40d3880666666666 0x40c1947333333333 0x40f0000000000000) (three64 0x40c388599999999a 0x40d86a1333333333 0x3fe0000000000000) (three64 0x40cd4c2666666666 0x40bf403333333333 0x3fe8000000000000) 65536) 0x3f333333 ≡ 65536 ∷ 0xc7854b90 ∷ 0x3f05ee52 ∷ 0x3d955be3 ∷ 0x3f800000 ∷ []
unfolding finalized no_score wide_change colour_at before_at after_at colour_of error_after error_before no_sums pixel_sums plus narrowed clamped of_bits to_bits round add sub mul div lt of_int
large-count = refl

-- sums of no pixels
pub any_sums : answer (sums (three64 0x4008000000000000 0xc000000000000000 0x7e37e43c8800759c) (three64 0x3ff0000000000000 0x4014000000000000 0xfe37e43c8800759c) (three64 0x401c000000000000 0xbff0000000000000 0x7e37e43c8800759c) (three64 0x4000000000000000 0x3fe0000000000000 0x01a56e1fc2f8f359) (three64 0xc008000000000000 0x3fb999999999999a 0x4202a05f20000000) 5) 0x3ecccccd ≡ 5 ∷ 0xff800000 ∷ 0x3f800000 ∷ 0x00000000 ∷ 0x3f800000 ∷ []
unfolding finalized no_score wide_change colour_at before_at after_at colour_of error_after error_before no_sums pixel_sums plus narrowed clamped of_bits to_bits round add sub mul div lt of_int
any_sums = refl

-- a change that overflows f32
pub past_f32 : answer (sums (three64 0x6974e718d7d7625a 0x3ff0000000000000 0x3fe0000000000000) (three64 0x0000000000000000 0x3ff0000000000000 0x3fe0000000000000) (three64 0x6974e718d7d7625a 0x3ff0000000000000 0x3fe0000000000000) (three64 0x6974e718d7d7625a 0x3ff0000000000000 0x3fe0000000000000) (three64 0xe974e718d7d7625a 0x3ff0000000000000 0x3fe0000000000000) 2) 0x3e800000 ≡ 2 ∷ 0xff800000 ∷ 0x3f800000 ∷ 0x3f000000 ∷ 0x3e800000 ∷ []
unfolding finalized no_score wide_change colour_at before_at after_at colour_of error_after error_before no_sums pixel_sums plus narrowed clamped of_bits to_bits round add sub mul div lt of_int
past_f32 = refl

-- terms added in another order would give A4800000
pub added_in_order : answer (sums (three64 0x400290f5afa57d52 0x0000000000000000 0x0000000000000000) (three64 0x40070b0559f27fd9 0x0000000000000000 0x0000000000000000) (three64 0x3fc53ac8adf561d8 0x0000000000000000 0x0000000000000000) (three64 0x3fc150199a348444 0x0000000000000000 0x0000000000000000) (three64 0x3fc54f5d04a0fe74 0x0000000000000000 0x0000000000000000) 3) 0x3e99999a ≡ 3 ∷ 0xa4a00000 ∷ 0x3ead3c19 ∷ 0x00000000 ∷ 0x00000000 ∷ []
unfolding finalized no_score wide_change colour_at before_at after_at colour_of error_after error_before no_sums pixel_sums plus narrowed clamped of_bits to_bits round add sub mul div lt of_int
added_in_order = refl

-- the square of p taken apart would give 25400000
pub squared_in_order : answer (sums (three64 0x4003490ec3966492 0x0000000000000000 0x0000000000000000) (three64 0x4003de50bd3fbcff 0x0000000000000000 0x0000000000000000) (three64 0x3fe0ca5b7900ea58 0x0000000000000000 0x0000000000000000) (three64 0x3fe83f399a5dad09 0x0000000000000000 0x0000000000000000) (three64 0x3fe8d1bd69d9f549 0x0000000000000000 0x0000000000000000) 7) 0x3f333333 ≡ 7 ∷ 0x25000000 ∷ 0x3eae09f7 ∷ 0x00000000 ∷ 0x00000000 ∷ []
unfolding finalized no_score wide_change colour_at before_at after_at colour_of error_after error_before no_sums pixel_sums plus narrowed clamped of_bits to_bits round add sub mul div lt of_int
squared_in_order = refl
