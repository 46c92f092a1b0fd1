use Rattle.std.proofs.Common.{rules, ◌≡◌, ◌++◌, ◌↔◌, Bool, true, false, List, ℕ, length, Some, None, IsTrue, refl}
use Rattle.std.proofs.Common.{◌∙◌, take-append-drop}
use Rattle.std.specs.Bool.{OnTrue, OnFalse}
use Rattle.std.proofs.lemmas.Bool.{iff_false}
use Rattle.aead_core.specs.Aead.{tag_of, enciphered}
use Rattle.aead_core.proofs.AeadLemmas.{opened-tag_of, opened-wrong}
use Rattle.container_core.specs.Stream.{nonce_of, prefix_in, opened_chunk}
use Rattle.container_core.proofs.StreamLemmas.{opened_chunk-append}
use Rattle.container_core.proofs.chunk.check_chunk.Goals as goal

-- the result, whether a chunk checks, is right
record IsJudged (right : Bool) (key header : List ℕ) (number : ℕ) (last : Bool) (sealed : List ℕ) : Type 0 where
  checks : OnTrue right ((plain : List ℕ) × (opened_chunk key header number last sealed ≡ Some plain))
  refused : OnFalse right (opened_chunk key header number last sealed ≡ None)

-- a text followed by a tag is a sealed chunk exactly if the tag is the text's
judged : (right : Bool) (key header : List ℕ) (number : ℕ) (last : Bool) (text tag : List ℕ) → length tag ≡ 16
    → (IsTrue right ↔ (tag ≡ tag_of key (nonce_of (prefix_in header) number last) header text))
    → IsJudged right key header number last (text ++ tag)
judged true key header number last text tag sixteen is =
    let nonce = nonce_of (prefix_in header) number last in
    let opens = opened_chunk-append key header number last text tag sixteen
    ∙ opened-tag_of key nonce header text tag (is.0 refl) in
    record { checks = (enciphered key nonce text, opens); refused = tt }
judged false key header number last text tag sixteen is =
    let nonce = nonce_of (prefix_in header) number last in
    let wrong = opened-wrong key nonce header text tag (iff_false is refl) in
    record { checks = tt; refused = opened_chunk-append key header number last text tag sixteen ∙ wrong }

pub returns : goal.returns
returns c =
    let whole : c.split_at.result.0.now ++ c.copy_from_slice.new.self ≡ c.args.sealed.now =
    rw (c.split_at.ensures.front, c.copy_from_slice.ensures.after, c.split_at.ensures.back) (take-append-drop _ _) in
    let sixteen : length c.copy_from_slice.new.self ≡ 16 = search rules in
    let j = judged c.check.result c.args.key.now c.args.header.now c.args.number c.args.last c.split_at.result.0.now
    c.copy_from_slice.new.self sixteen (search rules) in
    rw (← whole) record { checks = j.checks; refused = j.refused }
