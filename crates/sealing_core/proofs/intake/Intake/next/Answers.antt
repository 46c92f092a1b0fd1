use Rattle.std.proofs.Common.{arith, ◌≡◌, ◌++◌, ◌≤◌, ℕ, List, length, take, ap, ◌∙◌, sym, subst, inl, inr}
use Rattle.std.proofs.lemmas.Bool.{cases_Bool, cases_lt}
use Rattle.std.proofs.lemmas.List.{take-append-le, length-take-le}
use Rattle.sealing_core.specs.Pieces.{IsChunk}
use Rattle.sealing_core.proofs.IntakeLemmas.{end_chunk, end_read, full_chunk, full_read, lost_read, over_read}
use Rattle.sealing_core.proofs.intake.Intake.next.Goals as goal

pub returns-in-Err-clause-lost : goal.returns-in-Err-clause-lost
returns-in-Err-clause-lost g c = λ left had.
    let long : length c.split_at_mut-text.result.0.now ≡ c.min-upto.result = c.split_at_mut-text.ensures.front_len in
    let same = c.in-Err.ensures.length in
    let upto = c.min-upto.ensures in
    let sum = c.requires.sum in
    lost_read c.args.size c.args.limit (length c.fill_behind.new.buffer) left _ _ c.args.self.now had c.requires.going.0 c.requires.going.1
    (omega arith) c.in-Err.ensures.lost

pub returns-in-Ok-clause-read : goal.returns-in-Ok-clause-read
returns-in-Ok-clause-read g c = λ left had.
    let n = c.in-Ok.n in
    let now = c.in-Ok.ensures.read in
    let long : length c.split_at_mut-text.result.0.now ≡ c.min-upto.result = c.split_at_mut-text.ensures.front_len in
    let same = c.in-Ok.ensures.length in
    let within = c.in-Ok.ensures.within in
    let upto = c.min-upto.ensures in
    let sum = c.requires.sum in
    let size = c.requires.size in
    let take_in = c.take_in.ensures in
    elim (cases_Bool c.take_in.new.self.over) [
      | inl over ↦ let kept = take_in.kept over in let full = take_in.over.0 over in
          over_read c.args.size c.args.limit n left _ _ c.args.self.now _ now.0 had c.requires.going.0 c.requires.going.1 now.1
          (sym (length-take-le n c.fill_behind.new.buffer (omega arith)) ∙ ap (λ (l : List ℕ). length l) now.2) (omega arith) (omega arith) over kept.0 kept.2 kept.1
      | inr shut ↦ let below = take_in.over.1 shut in
          elim (cases_lt c.args.size n) [
            | inl more ↦ let full = take_in.full shut more in
                full_read c.args.size c.args.limit n left _ _ c.args.self.now _ c.fill_behind.new.buffer now.0 had c.requires.going.0 c.requires.going.1 now.1 now.2
                (omega arith) more (omega arith) full.2 full.4 full.1 shut full.3
            | inr few ↦ let last = take_in.last shut few in
                end_read c.args.size c.args.limit n left _ _ c.args.self.now _ c.fill_behind.new.buffer now.0 had c.requires.going.0 c.requires.going.1 now.1
                (c.in-Ok.ensures.end (omega arith)) now.2 (omega arith) (omega arith) last.1 shut last.3
          ]
    ]

pub returns-in-Ok-clause-chunk : goal.returns-in-Ok-clause-chunk
returns-in-Ok-clause-chunk g c = λ left had shut.
    let n = c.in-Ok.n in
    let now = c.in-Ok.ensures.read in
    let long : length c.split_at_mut-text.result.0.now ≡ c.min-upto.result = c.split_at_mut-text.ensures.front_len in
    let same = c.in-Ok.ensures.length in
    let within = c.in-Ok.ensures.within in
    let upto = c.min-upto.ensures in
    let sum = c.requires.sum in
    let size = c.requires.size in
    let take_in = c.take_in.ensures in
    let below = take_in.over.1 shut in
    let text = c.fill_behind.new.buffer in
    let rest = c.split_at_mut-text.result.1.now in
    let front : (k : ℕ) → k ≤ length text → take k text ≡ take k (text ++ rest) = λ k some. sym (take-append-le k text rest some) in
    elim (cases_lt c.args.size n) [
      | inl more ↦ let full = take_in.full shut more in
          rw (full.0, full.1) (subst (IsChunk c.args.size left c.args.self.now.blocks _) (front c.args.size (omega arith))
          (full_chunk c.args.size c.args.limit n left _ _ c.args.self.now text now.0 had c.requires.going.0 c.requires.going.1 now.1 now.2 (omega arith) more size.0))
      | inr few ↦ let last = take_in.last shut few in
          rw (last.0, last.1) (subst (IsChunk c.args.size left c.args.self.now.blocks _) (front n (omega arith))
          (end_chunk c.args.size c.args.limit n left _ _ c.args.self.now text now.0 had c.requires.going.0 c.requires.going.1 now.1 (c.in-Ok.ensures.end (omega arith)) now.2 (omega arith) few))
    ]
