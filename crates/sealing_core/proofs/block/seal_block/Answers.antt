use Rattle.std.proofs.Common.{arith, ◌≡◌, ◌+◌, ◌-◌, ◌*◌, ◌<◌, ◌≤◌, ◌∙◌, ℕ, List, false, length, take, drop, ap, sym, subst}
use Rattle.std.proofs.Math.Nat.{mul-le-mul_right}
use Rattle.std.proofs.lemmas.List.{length-take-le}
use Rattle.container_core.specs.Chunks.{body_length, chunk_count}
use Rattle.container_core.specs.Stream.{sealed_chunk}
use Rattle.sealing_core.proofs.BlockLemmas.{front_more, one_less, same_chunk, sealed_last, sealed_more}
use Rattle.sealing_core.proofs.block.seal_block.Goals as goal

pub overflow_add-first : goal.overflow_add-first
overflow_add-first g c =
    let count = ap (λ (s : ℕ). chunk_count s c.args.filled) (sym c.chunk-size.ensures.value) ∙ c.before_last-before.ensures.count in
    let few = c.requires.numbers in
    omega arith

pub overflow_add-first-2 : goal.overflow_add-first-2
overflow_add-first-2 g c =
    let count = ap (λ (s : ℕ). chunk_count s c.args.filled) (sym c.chunk-size.ensures.value) ∙ c.before_last-before.ensures.count in
    let few = c.requires.numbers in
    omega arith

pub seal_at-requires-clause-text : goal.seal_at-requires-clause-text
seal_at-requires-clause-text g c =
    let bytes = ap (λ (s : ℕ). body_length s c.args.filled) (sym c.chunk-size.ensures.value) ∙ c.before_last-before.ensures.bytes in
    let room = c.requires.text in
    let begins = c.before_last-before.ensures.begins in
    omega arith

pub chunks-init : goal.chunks-init
chunks-init g c =
    let s = c.chunk-size.result in
    let least = c.chunk-size.ensures.least in
    let before = c.before_last-before.result in
    let last = c.before_last-before.ensures in
    let begins = last.begins in
    let ends = last.ends in
    let n = c.args.filled - before * s in
    let bytes = ap (λ (s : ℕ). body_length s c.args.filled) (sym c.chunk-size.ensures.value) ∙ last.bytes in
    let room = c.requires.text in
    let seal = c.seal_at.ensures in
    let end : before * (s + 16) + n + 16 - before * (s + 16) ≡ n + 16 = omega arith in
    record {
      long = seal.length;
      few = omega arith;
      within = omega arith;
      plain = front_more (before * s) (before * (s + 16)) c.seal_at.new.text c.args.text.now (omega arith) seal.before;
      sealed = ap (λ (m : ℕ). take m (drop (before * (s + 16)) c.seal_at.new.text)) end
          ∙ sealed_last c.args.key.now c.args.header.now s (c.args.first + before) before n c.args.filled c.args.last c.args.text.now
          (drop (before * (s + 16)) c.seal_at.new.text) (omega arith) (omega arith) (omega arith) (omega arith) seal.sealed;
    }

pub overflow_add-first-in-chunks : goal.overflow_add-first-in-chunks
overflow_add-first-in-chunks g c =
    let count = ap (λ (s : ℕ). chunk_count s c.args.filled) (sym c.chunk-size.ensures.value) ∙ c.before_last-before.ensures.count in
    let numbers = c.requires.numbers in
    let few = c.chunks.invariant.few in
    omega arith

pub overflow_add-first-in-chunks-2 : goal.overflow_add-first-in-chunks-2
overflow_add-first-in-chunks-2 g c =
    let count = ap (λ (s : ℕ). chunk_count s c.args.filled) (sym c.chunk-size.ensures.value) ∙ c.before_last-before.ensures.count in
    let numbers = c.requires.numbers in
    let few = c.chunks.invariant.few in
    omega arith

pub seal_at-requires-in-chunks-clause-text : goal.seal_at-requires-in-chunks-clause-text
seal_at-requires-in-chunks-clause-text g c =
    let place = c.chunk-size.result + 16 in
    let bytes = ap (λ (s : ℕ). body_length s c.args.filled) (sym c.chunk-size.ensures.value) ∙ c.before_last-before.ensures.bytes in
    let room = c.requires.text in
    let begins = c.before_last-before.ensures.begins in
    let long = c.chunks.invariant.long in
    let one : (c.chunks.left - 1) * place + place ≡ c.chunks.left * place = one_less c.chunks.left place (omega arith) in
    let fewer : c.chunks.left * place ≤ c.before_last-before.result * place = mul-le-mul_right place c.chunks.invariant.few in
    omega (arith, bytes, room, begins, long, one, fewer)

pub chunks-preserved : goal.chunks-preserved
chunks-preserved g c =
    let s = c.chunk-size.result in
    let least = c.chunk-size.ensures.least in
    let before = c.before_last-before.result in
    let left = c.chunks.left in
    let n = c.args.filled - before * s in
    let last = c.before_last-before.ensures in
    let begins = last.begins in
    let bytes = ap (λ (s : ℕ). body_length s c.args.filled) (sym c.chunk-size.ensures.value) ∙ last.bytes in
    let room = c.requires.text in
    let was = c.chunks.invariant in
    let seal = c.seal_at-in-chunks.ensures in
    let some : 0 < left = omega arith in
    let one : (left - 1) * s + s ≡ left * s = one_less left s some in
    let next : (left - 1) * (s + 16) + (s + 16) ≡ left * (s + 16) = one_less left (s + 16) some in
    let fewer : left * s ≤ before * s = mul-le-mul_right s was.few in
    let fewer' : left * (s + 16) ≤ before * (s + 16) = mul-le-mul_right (s + 16) was.few in
    let few = was.few in
    let within : left * s < c.args.filled = let some' = last.some (omega arith) in omega (arith, some', fewer) in
    let long : length (take c.args.filled c.args.text.now) ≡ c.args.filled = length-take-le c.args.filled c.args.text.now (omega (arith, room, bytes)) in
    let on : (left - 1) * (s + 16) + s + 16 ≡ left * (s + 16) = omega (arith, next) in
    record {
      long = seal.length ∙ was.long;
      few = omega (arith, few);
      within = omega (arith, one, fewer);
      plain = front_more ((left - 1) * s) ((left - 1) * (s + 16)) c.seal_at-in-chunks.new.text c.chunks.text (omega arith) seal.before
          ∙ front_more ((left - 1) * s) (left * s) c.chunks.text c.args.text.now (omega (arith, one)) was.plain;
      sealed = sealed_more c.args.key.now c.args.header.now s c.args.first (left - 1) left (before * (s + 16) + n + 16) ((left - 1) * (s + 16)) (left * (s + 16))
          c.args.last (take c.args.filled c.args.text.now) c.chunks.text c.seal_at-in-chunks.new.text (omega arith) (omega (arith, some)) one
          (omega (arith, within, long)) next (omega (arith, fewer'))
          (seal.sealed ∙ ap (λ (l : List ℕ). sealed_chunk c.args.key.now c.args.header.now (c.args.first + (left - 1)) false l)
          (same_chunk s (left - 1) left c.args.filled c.args.text.now c.chunks.text one (omega (arith, within)) was.plain))
          (subst (λ (m : ℕ). drop m c.seal_at-in-chunks.new.text ≡ drop m c.chunks.text) on seal.behind) was.sealed;
    }

pub returns-clause-bytes : goal.returns-clause-bytes
returns-clause-bytes g c =
    let bytes = ap (λ (s : ℕ). body_length s c.args.filled) (sym c.chunk-size.ensures.value) ∙ c.before_last-before.ensures.bytes in
    let begins = c.before_last-before.ensures.begins in
    omega arith
