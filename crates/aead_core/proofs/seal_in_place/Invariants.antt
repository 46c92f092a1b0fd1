use Rattle.std.proofs.Common.{◌*◌}
use Rattle.aead_core.proofs.StripLemmas.{EncipheredTo, AbsorbedTo}
use Rattle.aead_core.proofs.seal_in_place.Given as goal

abbrev pub invariant-strips : goal.invariant-strips
invariant-strips l =
    EncipheredTo l.key l.nonce (65536 * l.i) l.fn.text l.text × AbsorbedTo l.mac l.key l.nonce l.aad (65536 * l.i) l.text
