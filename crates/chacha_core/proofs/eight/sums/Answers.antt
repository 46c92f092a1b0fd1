use Rattle.std.proofs.Common.{refl}
use Rattle.chacha_core.proofs.eight.sums.Goals as goal

pub returns : goal.returns
returns c j h =
    rw (
      c.add-z0.ensures j h,
      c.add-z1.ensures j h,
      c.add-z2.ensures j h,
      c.add-z3.ensures j h,
      c.add-z4.ensures j h,
      c.add-z5.ensures j h,
      c.add-z6.ensures j h,
      c.add-z7.ensures j h,
      c.add-z8.ensures j h,
      c.add-z9.ensures j h,
      c.add-z10.ensures j h,
      c.add-z11.ensures j h,
      c.add-z12.ensures j h,
      c.add-z13.ensures j h,
      c.add-z14.ensures j h,
      c.add-z15.ensures j h,
    ) refl
