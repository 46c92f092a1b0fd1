use Rattle.std.proofs.Common.{refl}
use Rattle.chacha_core.specs.ChaCha20.{quarter_round, column_rounds}
use Rattle.chacha_core.proofs.four.columns.Goals as goal

pub returns : goal.returns
unfolding quarter_round column_rounds
returns c j h =
    rw (
      c.xor_roll-y4.ensures j h,
      c.xor_roll-y5.ensures j h,
      c.xor_roll-y6.ensures j h,
      c.xor_roll-y7.ensures j h,
      c.add-y8.ensures j h,
      c.add-y9.ensures j h,
      c.add-y10.ensures j h,
      c.add-y11.ensures j h,
      c.xor_roll_8-y12.ensures j h,
      c.xor_roll_8-y13.ensures j h,
      c.xor_roll_8-y14.ensures j h,
      c.xor_roll_8-y15.ensures j h,
      c.add-y0.ensures j h,
      c.add-y1.ensures j h,
      c.add-y2.ensures j h,
      c.add-y3.ensures j h,
      c.xor_roll-b0.ensures j h,
      c.xor_roll-b1.ensures j h,
      c.xor_roll-b2.ensures j h,
      c.xor_roll-b3.ensures j h,
      c.add-c0.ensures j h,
      c.add-c1.ensures j h,
      c.add-c2.ensures j h,
      c.add-c3.ensures j h,
      c.xor_roll_16-d0.ensures j h,
      c.xor_roll_16-d1.ensures j h,
      c.xor_roll_16-d2.ensures j h,
      c.xor_roll_16-d3.ensures j h,
      c.add-a0.ensures j h,
      c.add-a1.ensures j h,
      c.add-a2.ensures j h,
      c.add-a3.ensures j h,
    ) refl
