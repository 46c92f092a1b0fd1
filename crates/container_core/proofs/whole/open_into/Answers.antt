use Rattle.std.proofs.Common.{◌≡◌, ℕ, ◌+◌, ◌<◌, ◌≤◌, eqb, List, [], ◌++◌, length, get_or, ap, sym, ◌∙◌, subst, arith}
use Rattle.std.proofs.Common.{append_assoc, length-append}
use Rattle.std.proofs.lemmas.List.{append-nil}
use Rattle.container_core.specs.Chunks.{sealed_chunks}
use Rattle.container_core.specs.Opening.{unsealed}
use Rattle.container_core.specs.Stream.{opened_chunk}
use Rattle.container_core.proofs.PartsLemmas.{length-sealed_chunks}
use Rattle.container_core.proofs.StreamLemmas.{length-opened_chunk}
use Rattle.container_core.proofs.OpeningLemmas.{some_size, behind-nil, opened_more, forged_more, opened_all}
use Rattle.container_core.specs.Views.{CutView}
use Rattle.container_core.specs.Container.{size_in}
use Rattle.container_core.proofs.whole.open_into.Goals as goal

some_sized : (cut : CutView) (header : List ℕ) → cut.size ≡ size_in header → 0 < cut.size
some_sized cut header is = let some = some_size header in omega (arith, some, is)

pub loop-number-init : goal.loop-number-init
loop-number-init c =
    ([], sym (append-nil c.args.out.now.items), behind-nil (unsealed c.args.key.now c.args.header.now 0 (sealed_chunks c.args.cut.size c.args.body.now)), omega arith, omega arith, c.requires.room)

pub append_opened-requires-clause-room : goal.append_opened-requires-clause-room
append_opened-requires-clause-room c =
    let (plain, grown, left, few, kept, room) = c.loop-number.invariant in
    let both = length-append c.args.out.now.items plain in
    let all : length c.loop-number.out.items ≡ length (c.args.out.now.items ++ plain) = ap (λ (l : List ℕ). length l) grown in
    omega (arith, c.loop-number.out.ok.0, c.args.out.now.ok.0, both, all, few, room, c.sealed_of-sealed.ensures.bytes)

pub returns-then-not-append_opened-clause-forged : goal.returns-then-not-append_opened-clause-forged
returns-then-not-append_opened-clause-forged c =
    let key = c.args.key.now in
    let header = c.args.header.now in
    let number = c.loop-number.number in
    let cs = sealed_chunks c.args.cut.size c.args.body.now in
    let (plain, grown, left, few, kept, room) = c.loop-number.invariant in
    let count : c.count-count.result ≡ length cs = c.count-count.ensures.count ∙ sym (length-sealed_chunks c.args.cut.size c.args.body.now c.args.cut.plain (some_sized c.args.cut c.args.header.now c.requires.size) c.requires.body) in
    let below : number < length cs = subst (λ (n : ℕ). number < n) count c.loop-number-test.true in
    forged_more key header number cs plain (unsealed key header 0 cs) below left
    (ap (λ (n : ℕ). opened_chunk key header number (eqb (number + 1) n) (get_or cs number [])) (sym count)
    ∙ ap (λ (s : List ℕ). opened_chunk key header number (eqb (number + 1) c.count-count.result) s) (sym c.sealed_of-sealed.ensures.sealed)
    ∙ c.if-not-append_opened.ensures.refused)

pub loop-number-preserved : goal.loop-number-preserved
loop-number-preserved c =
    let key = c.args.key.now in
    let header = c.args.header.now in
    let number = c.loop-number.number in
    let cs = sealed_chunks c.args.cut.size c.args.body.now in
    let (plain, grown, left, few, kept, room) = c.loop-number.invariant in
    let (chunk, opens, more) = c.if-not-append_opened.ensures.opened in
    let count : c.count-count.result ≡ length cs = c.count-count.ensures.count ∙ sym (length-sealed_chunks c.args.cut.size c.args.body.now c.args.cut.plain (some_sized c.args.cut c.args.header.now c.requires.size) c.requires.body) in
    let below : number < length cs = subst (λ (n : ℕ). number < n) count c.loop-number-test.true in
    let bytes = length-opened_chunk key header number (eqb (number + 1) c.count-count.result) c.sealed_of-sealed.result.now chunk opens in
    let both = length-append plain chunk in (
      plain ++ chunk,
      more ∙ ap (λ (o : List ℕ). o ++ chunk) grown ∙ append_assoc c.args.out.now.items plain chunk,
      opened_more key header number cs plain chunk (unsealed key header 0 cs) below left
          (ap (λ (n : ℕ). opened_chunk key header number (eqb (number + 1) n) (get_or cs number [])) (sym count)
          ∙ ap (λ (s : List ℕ). opened_chunk key header number (eqb (number + 1) c.count-count.result) s) (sym c.sealed_of-sealed.ensures.sealed)
          ∙ opens),
      omega (arith, bytes, both, few, c.sealed_of-sealed.ensures.bytes),
      omega (arith, kept, c.append_opened.ensures.capacity),
      omega (arith, room, c.append_opened.ensures.capacity),
    )

pub returns-clause-plaintext : goal.returns-clause-plaintext
returns-clause-plaintext c =
    let cs = sealed_chunks c.args.cut.size c.args.body.now in
    let (plain, grown, left, few, kept, room) = c.loop-number.invariant in
    let count : c.count-count.result ≡ length cs = c.count-count.ensures.count ∙ sym (length-sealed_chunks c.args.cut.size c.args.body.now c.args.cut.plain (some_sized c.args.cut c.args.header.now c.requires.size) c.requires.body) in
    let over : length cs ≤ c.loop-number.number = subst (λ (n : ℕ). n ≤ c.loop-number.number) count c.loop-number-test.false in
    (plain, opened_all c.args.key.now c.args.header.now c.loop-number.number cs plain (unsealed c.args.key.now c.args.header.now 0 cs) over left, grown)

pub returns-then-not-append_opened-clause-capacity : goal.returns-then-not-append_opened-clause-capacity
returns-then-not-append_opened-clause-capacity c =
    let (plain, grown, left, few, kept, room) = c.loop-number.invariant in
    omega (arith, kept, c.append_opened.ensures.capacity, c.truncate.ensures.capacity)

pub returns-clause-capacity : goal.returns-clause-capacity
returns-clause-capacity c = let (plain, grown, left, few, kept, room) = c.loop-number.invariant in kept
