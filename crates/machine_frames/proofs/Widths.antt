-- Widths are told by their bits.
use Rattle.std.proofs.Common.{◌≡◌, true, refl}
use Rattle.ir_values.specs.declared.int.Width.{Width}
use Rattle.ir_values.specs.declared.int.Width.TheVariants.{W1, W8, W16, W32, W64}
use Rattle.machine_frames.specs.code.Apt.{same_width}

pub same_bits : (a b : Width) → same_width a b ≡ true → a ≡ b
same_bits W1 W1 e = refl
same_bits W8 W8 e = refl
same_bits W16 W16 e = refl
same_bits W32 W32 e = refl
same_bits W64 W64 e = refl
same_bits a b e = cc
