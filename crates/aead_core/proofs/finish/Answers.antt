use Rattle.std.proofs.Common.{ap, ◌∙◌, ◌++◌, List, ℕ, length}
use Rattle.std.specs.Int.{w64, to_le_bytes}
use Rattle.poly_core.specs.Poly1305.{poly1305, pad16}
use Rattle.aead_core.specs.Aead.{mac_data}
use Rattle.aead_core.proofs.AeadLemmas.{pad16-padded}
use Rattle.aead_core.proofs.finish.Goals as goal

pub returns : goal.returns
unfolding mac_data
returns c = λ key held.
    let aad = c.args.aad.now in
    let text = c.args.ciphertext.now in
    let front = (aad ++ pad16 aad) ++ text in
    let with_text = c.pad.ensures key _ held in
    let with_lengths = c.absorb-2.ensures key _ (c.absorb.ensures key _ with_text) in
    c.finish.ensures key _ with_lengths
    ∙ ap (λ (zs : List ℕ). poly1305 key (((front ++ zs) ++ c.to_le_bytes.result) ++ c.to_le_bytes-2.result))
    (pad16-padded aad text)
    ∙ ap (λ (zs : List ℕ). poly1305 key (((front ++ pad16 text) ++ zs) ++ c.to_le_bytes-2.result)) c.to_le_bytes.ensures
    ∙ ap (λ (zs : List ℕ). poly1305 key (((front ++ pad16 text) ++ to_le_bytes w64 (length aad)) ++ zs))
    c.to_le_bytes-2.ensures
