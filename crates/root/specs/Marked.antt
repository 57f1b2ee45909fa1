-- Sizes by their bits, one row each. That all hold is one statement, `marked` of proofs/Laws.
use Rattle.std.specs.Prelude.{ℕ, Bool, true, ◌&&◌, List, [], ◌∷◌, ◌==◌}
use Rattle.std.specs.Float.{binary64}
use Rattle.std.specs.Float.Ieee.{of_bits, to_bits}
use Rattle.root.specs.Norm.{norm_of}

pub record Row : Type 0 where
  pub re : ℕ
  pub im : ℕ
  pub size : ℕ

abbrev pub holds : Row → Bool
holds r = to_bits binary64 (norm_of (record { re = of_bits binary64 r.re; im = of_bits binary64 r.im })) == r.size

abbrev pub all_hold : List Row → Bool
all_hold [] = true
all_hold (r ∷ rs) = holds r && all_hold rs

unfoldable pub table : List Row
table =
    -- 3 and 4; -3 and 0
    record { re = 0x4008_0000_0000_0000; im = 0x4010_0000_0000_0000; size = 0x4014_0000_0000_0000 }
    ∷ record { re = 0xC008_0000_0000_0000; im = 0; size = 0x4008_0000_0000_0000 }
    -- two zeros
    ∷ record { re = 0x8000_0000_0000_0000; im = 0; size = 0 }
    ∷ record { re = 0x8000_0000_0000_0000; im = 0x8000_0000_0000_0000; size = 0 }
    -- an infinity beside a NaN, and a NaN beside 0
    ∷ record { re = 0xFFF0_0000_0000_0000; im = 0x7FF8_0000_0000_0000; size = 0x7FF0_0000_0000_0000 }
    ∷ record { re = 0x7FF8_0000_0000_0000; im = 0xFFF0_0000_0000_0000; size = 0x7FF0_0000_0000_0000 }
    ∷ record { re = 0x7FF8_0000_0000_0000; im = 0; size = 0x7FF8_0000_0000_0000 }
    -- ties: rounded down, rounded up, and of parts with unlike exponents
    ∷ record { re = 0x433A_7AA3_F523_0901; im = 0x4333_8B25_E651_9F28; size = 0x4340_7486_51AB_5110 }
    ∷ record { re = 0x433B_6775_6BA6_9BCF; im = 0x4333_3BEB_0384_32FC; size = 0x4340_BD7C_EC9E_7C34 }
    ∷ record { re = 0x4345_3AAD_5B00_3E1A; im = 0x426A_079E_E2CB_A000; size = 0x4345_3AAD_5BFF_91D2 }
    -- two units and two units
    ∷ record { re = 2; im = 2; size = 3 }
    -- the largest value with the largest part that leaves it, and with the next
    ∷ record { re = 0x7FEF_FFFF_FFFF_FFFF; im = 0x7E46_A09E_667F_3BCC; size = 0x7FEF_FFFF_FFFF_FFFF }
    ∷ record { re = 0x7FEF_FFFF_FFFF_FFFF; im = 0x7E46_A09E_667F_3BCD; size = 0x7FF0_0000_0000_0000 }
    ∷ []
