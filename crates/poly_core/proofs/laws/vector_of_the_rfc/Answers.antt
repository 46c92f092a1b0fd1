use Rattle.std.proofs.Common.{refl}
use Rattle.poly_core.specs.Poly1305.{little, key_r, key_s, block_number, block_numbers, polynomial, poly1305}
use Rattle.poly_core.specs.Vectors.{key, message, tag}
use Rattle.poly_core.proofs.laws.vector_of_the_rfc.Goals as goal

pub returns : goal.returns
unfolding little key_r key_s block_number block_numbers polynomial poly1305 key message tag
returns c = refl
