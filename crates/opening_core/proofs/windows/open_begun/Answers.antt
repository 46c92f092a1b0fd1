use Rattle.std.proofs.Common.{rules, suc, ◌≡◌, ◌+◌, ◌-◌, true, false, ◌*◌, inl, refl, ◌<◌, ◌≤◌, ◌++◌, ℕ, List, [], Option, length, take, get_or, Ok, Err, sym, ap, ap₂, subst, ◌∙◌}
use Rattle.std.proofs.Common.{arith, append-nil, length-append, length-take-le}
use Rattle.std.proofs.KnownBytes.{Consumes-trans}
use Rattle.container_core.specs.Chunks.{body_length, most_of}
use Rattle.container_core.specs.Container.{size_in}
use Rattle.container_core.specs.Opening.{longest}
use Rattle.container_core.proofs.OpeningLemmas.{some_size}
use Rattle.container_core.proofs.PartsLemmas.{container_length-more, count-numbers, most_of-chunks}
use Rattle.io_core.specs.Streams.{Appends, Consumes, IsAtEnd, counted}
use Rattle.opening_core.specs.Fronts.{ReadsOn}
use Rattle.opening_core.proofs.FrontLemmas.{container-few, early-of_bytes}
use Rattle.opening_core.specs.Engine.{open_write_failed}
use Rattle.opening_core.proofs.ReadingLemmas.{not_read, not_write, not_written}
use Rattle.opening_core.proofs.TakingLemmas.{last-unread, last-writes, refuses-no_write, refuses-unwritten}
use Rattle.opening_core.proofs.TakingLemmas.{turning-not_bytes, turning-writes}
use Rattle.opening_core.proofs.AnswerLemmas.{answers-early, reads-same}
use Rattle.opening_core.proofs.OpeningRounds.{opens-begin, opens-round, ahead-of, consumed-next, answers-refused, body-rest}
use Rattle.opening_core.proofs.OpeningRounds.{answers-last, cut-under, first-few, opens-last, some-left, Refuses, Splits}
use Rattle.opening_core.proofs.SentLemmas.{admits-last, admits-waiting, bounded-opens, begun-front, begun-last, checks-more, front-more, front-sent, front-whole}
use Rattle.opening_core.proofs.SentLemmas.{sent-all, sent-last, sent-more, sent-none, sent-so_far, some-or-none}
use Rattle.opening_core.proofs.windows.open_begun.Goals.{then-rounds-test+else-held-size, else-rounds-test}
use Rattle.opening_core.proofs.windows.open_begun.Goals as goal

-- the header's bytes come first
named-front : (header image whole : List ℕ) → image ≡ header → take (length header) whole ≡ header → take (length image) whole ≡ image
named-front header image whole same front = subst (λ (l : List ℕ). take (length l) whole ≡ l) (sym same) front

pub overflow_add-limit : goal.overflow_add-limit
overflow_add-limit g c =
    let few = container-few (length c.args.context.now.header.now) (size_in c.args.context.now.header.now) c.args.context.now.max_bytes c.bytes-image.ensures.size.0 c.args.context.now.most in
    omega (arith, few, c.longest_bytes.ensures, c.requires.front.short)

pub rounds-init : goal.rounds-init
rounds-init g c = record {
  past = [];
  plain = [];
  consumed = λ left given. given;
  opens = opens-begin c.args.context.now.key.now c.args.context.now.header.now;
  kept = λ _. sent-none (g.O.Taking.bytes c.args.out.now) _ c.requires.places;
  none = λ _. refl;
  checks = λ more. absurd (omega arith);
  bound = refl;
  writes = refl;
  long = search rules;
  total = (search rules, search rules);
  held = search rules;
  end = λ below short. c.requires.end (search rules);
  some = λ more. absurd (omega arith);
  room = (search rules, λ full. search rules);
  ready = search rules;
  count = search rules;
}

pub open_full-requires-clause-numbers : goal.open_full-requires-clause-numbers
open_full-requires-clause-numbers g c =
    let before = c.rounds.invariant in
    let many : length c.rounds.rooms.current.held ≡ c.args.context.now.window * (size_in c.args.context.now.header.now + 16) + 1 = search rules in
    let few = first-few (size_in c.args.context.now.header.now) (length c.args.context.now.header.now) c.args.context.now.max_bytes c.rounds.first
    c.args.context.now.window (length c.rounds.rooms.current.held) c.bytes-image.ensures.size.0 (omega (arith, many))
    (omega (arith, before.total.0, before.total.1, c.longest_bytes.ensures)) in
    omega (arith, few, c.args.context.now.some)

pub returns-in-Err-clause-refused : goal.returns-in-Err-clause-refused
returns-in-Err-clause-refused g c = λ left given own. absurd (turning-not_bytes _ _ c.in-Err.ensures.fault own)

pub returns-in-Err-clause-no_write : goal.returns-in-Err-clause-no_write
returns-in-Err-clause-no_write g c = λ write. turning-writes _ _ c.in-Err.ensures.fault write

pub returns-in-Err-clause-writes : goal.returns-in-Err-clause-writes
returns-in-Err-clause-writes g c =
    c.in-Err.ensures.gathered.count ∙ ap (counted (open_write_failed {A = ℕ} (Err c.in-Err.fault))) c.rounds.invariant.writes

pub returns-in-Err-checked-clause-no_write : goal.returns-in-Err-checked-clause-no_write
returns-in-Err-checked-clause-no_write g c = λ write. absurd (refuses-no_write _ c.refuse.ensures.fault write)

pub returns-in-Err-checked-clause-writes : goal.returns-in-Err-checked-clause-writes
returns-in-Err-checked-clause-writes g c =
    c.in-Ok.ensures.gathered.count ∙ c.rounds.invariant.writes
    ∙ sym (ap (λ b. counted b (g.O.Taking.failures c.args.out.now)) (refuses-unwritten _ c.refuse.ensures.fault))

pub returns-in-Err-begin_within-clause-writes : goal.returns-in-Err-begin_within-clause-writes
returns-in-Err-begin_within-clause-writes g c =
    let before = c.rounds.invariant in
    let long = ap length c.bytes-image.ensures.bytes in
    let own = early-of_bytes c.args.context.now.key.now c.bytes-image.result.now c.args.context.now.max_bytes c.rounds.total c.in-Err-begin_within.fault
    (omega (arith, before.total.0, long)) c.in-Err-begin_within.ensures.fault in
    before.writes ∙ sym (ap (λ b. counted b (g.O.Taking.failures c.args.out.now)) (not_written c.in-Err-begin_within.fault own))

pub returns-in-Err-open_last-clause-no_write : goal.returns-in-Err-open_last-clause-no_write
returns-in-Err-open_last-clause-no_write g c = λ write. last-writes _ _ c.in-Err-open_last.ensures.fault write

pub returns-in-Err-open_last-clause-count : goal.returns-in-Err-open_last-clause-count
returns-in-Err-open_last-clause-count g c =
    c.rounds.invariant.count
    ∙ sym (ap (λ b. counted b (g.R.Source.failures c.args.reader.now)) (last-unread _ _ c.in-Err-open_last.ensures.fault))

pub returns-in-Err-open_last-clause-writes : goal.returns-in-Err-open_last-clause-writes
returns-in-Err-open_last-clause-writes g c =
    let is : c.open_last.result ≡ Err c.in-Err-open_last.fault = search rules in
    c.open_last.ensures.writes ∙ ap₂ (λ r n. counted (open_write_failed r) n) is c.rounds.invariant.writes

pub returns-in-Err-clause-bound : goal.returns-in-Err-clause-bound
returns-in-Err-clause-bound g c = λ left given.
    let before = c.rounds.invariant in
    let lost = c.in-Err.ensures.turned.lost in
    let read = before.past ++ c.rounds.rooms.current.held in
    let all = length-append read lost.0 in
    let done = length-append before.past c.rounds.rooms.current.held in
    let limit = c.longest_bytes.ensures ∙ sym c.requires.limit in
    (read ++ lost.0, Consumes-trans _ _ _ _ _ (before.consumed left given) lost.1, omega (arith, before.total.0, before.long, lost.2, all, done, limit))

pub checked-requires-clause-numbers : goal.checked-requires-clause-numbers
checked-requires-clause-numbers g c =
    let before = c.rounds.invariant in
    let count : length c.open_full.new.rooms.places.values ≡ c.args.context.now.window = c.in-Ok.ensures.count in
    let many : length c.rounds.rooms.current.held ≡ c.args.context.now.window * (size_in c.args.context.now.header.now + 16) + 1 = search rules in
    let few = first-few (size_in c.args.context.now.header.now) (length c.args.context.now.header.now) c.args.context.now.max_bytes c.rounds.first
    c.args.context.now.window (length c.rounds.rooms.current.held) c.bytes-image.ensures.size.0 (omega (arith, many))
    (omega (arith, before.total.0, before.total.1, c.longest_bytes.ensures)) in
    omega (arith, few, c.args.context.now.some, count)

pub returns-in-Err-checked-clause-refused : goal.returns-in-Err-checked-clause-refused
returns-in-Err-checked-clause-refused g c = λ left given own.
    let before = c.rounds.invariant in
    let key = c.args.context.now.key.now in
    let header = c.args.context.now.header.now in
    let first = c.rounds.first in
    let old = c.rounds.rooms.current.held in
    let size = c.args.context.now.window * (size_in header + 16) in
    let bytes = take size old in
    let held = c.open_full.new.rooms.current.held in
    let turned = c.in-Ok.ensures.turned.read in
    let full : length bytes ≡ size = length-take-le size old (search rules) in
    let many : length old ≡ size + 1 = search rules in
    let split = ahead-of old size many in
    let consumed = consumed-next _ _ _ before.past old bytes turned.0 held (get_or old size 0) split turned.2 (before.consumed left given) turned.1 in
    let refused = c.in-Err-checked.ensures.refused key header bytes false c.in-Ok.ensures.values in
    let refuses : Refuses key header first bytes c.in-Err-checked.fault =
    λ rest some. c.rounds_open.ensures.refused key header (size_in header) first true bytes rest c.args.context.now.window c.in-Err-checked.fault full c.args.context.now.some.0 some refused in
    let named = c.refuse.ensures.named own in
    let limit = c.longest_bytes.ensures ∙ sym c.requires.limit in
    let past = length-append before.past bytes in
    let all = length-append (before.past ++ bytes) held in
    let now : length c.held-in-rounds-2.result.now ≡ length held = search rules in
    let next : length held ≡ suc (length turned.0) = ap length turned.2 in
    answers-refused key header c.args.context.now.max_bytes first (c.rounds.total + (length c.held-in-rounds-2.result.now - 1)) _ _ _ before.past before.plain bytes held named.0
    c.in-Err-checked.fault c.refuse.result c.requires.front.whole (c.rounds_open.ensures.whole key header 0) refuses before.opens consumed
    (omega (arith, next)) (omega (arith, before.total.0, before.long, now, next, past, all, full, many))
    (reads-same _ _ _ _ _ _ (ap (λ n. n + 1) limit) named.1)
    (λ whole bytes front. named.2 whole bytes (named-front header c.bytes-image.result.now whole c.bytes-image.ensures.bytes front))

pub returns-in-Err-checked-clause-bound : goal.returns-in-Err-checked-clause-bound
returns-in-Err-checked-clause-bound g c = λ left given.
    let before = c.rounds.invariant in
    let old = c.rounds.rooms.current.held in
    let turned = c.in-Ok.ensures.turned.read in
    let lost = c.refuse.ensures.bound in
    let many : length old ≡ c.args.context.now.window * (size_in c.args.context.now.header.now + 16) + 1 = search rules in
    let within : c.rounds.total + (length c.held-in-rounds-2.result.now - 1) ≤ c.longest_bytes.result + 1 = search rules in
    let limit = c.longest_bytes.ensures ∙ sym c.requires.limit in
    let done = length-append before.past old in
    let more = length-append (before.past ++ old) turned.0 in
    let all = length-append ((before.past ++ old) ++ turned.0) lost.0 in
    let now : length c.held-in-rounds-2.result.now ≡ length c.open_full.new.rooms.current.held = search rules in
    let next : length c.open_full.new.rooms.current.held ≡ suc (length turned.0) = ap length turned.2 in (
      ((before.past ++ old) ++ turned.0) ++ lost.0,
      Consumes-trans _ _ _ _ _ (Consumes-trans _ _ _ _ _ (before.consumed left given) turned.1) lost.1,
      omega (arith, before.total.0, before.long, lost.2, now, next, done, more, all, within, limit),
    )

pub overflow_add-first : goal.overflow_add-first
overflow_add-first g c =
    let before = c.rounds.invariant in
    let many : length c.rounds.rooms.current.held ≡ c.args.context.now.window * (size_in c.args.context.now.header.now + 16) + 1 = search rules in
    let few = first-few (size_in c.args.context.now.header.now) (length c.args.context.now.header.now) c.args.context.now.max_bytes c.rounds.first
    c.args.context.now.window (length c.rounds.rooms.current.held) c.bytes-image.ensures.size.0 (omega (arith, many))
    (omega (arith, before.total.0, before.total.1, c.longest_bytes.ensures)) in
    omega (arith, few, c.args.context.now.some)

pub rounds-preserved : goal.rounds-preserved
rounds-preserved g c =
    let before = c.rounds.invariant in
    let key = c.args.context.now.key.now in
    let header = c.args.context.now.header.now in
    let first = c.rounds.first in
    let old = c.rounds.rooms.current.held in
    let size = c.args.context.now.window * (size_in header + 16) in
    let bytes = take size old in
    let held = c.open_full.new.rooms.current.held in
    let turned = c.in-Ok.ensures.turned.read in
    let full : length bytes ≡ size = length-take-le size old (search rules) in
    let many : length old ≡ size + 1 = search rules in
    let split = ahead-of old size many in
    let opened = c.in-Ok-checked.ensures.opened key header bytes false c.in-Ok.ensures.values in
    let splits : Splits key header first c.args.context.now.window bytes opened.plain =
    λ rest some. c.rounds_open.ensures.opened key header (size_in header) first true bytes rest opened.plain c.args.context.now.window full c.args.context.now.some.0 some opened.opens in
    let past = length-append before.past bytes in
    let now : length c.held-in-rounds-2.result.now ≡ length held = search rules in
    let next : length held ≡ suc (length turned.0) = ap length turned.2 in
    record {
      past = before.past ++ bytes;
      plain = before.plain ++ opened.plain;
      consumed = λ left given. consumed-next _ _ _ before.past old bytes turned.0 held (get_or old size 0) split turned.2 (before.consumed left given) turned.1;
      opens = opens-round key header first c.args.context.now.window before.past before.plain bytes opened.plain splits before.opens;
      kept = λ opening. sent-more _ _ _ before.plain _ opened.plain _ (before.kept opening) c.in-Ok.ensures.gathered.all (sym (opened.kept opening));
      none = λ zero. absurd (omega (arith, zero, c.args.context.now.some.0));
      checks = λ more. checks-more key header before.past before.plain bytes opened.plain (size_in header) first refl
          (λ front rest plain count. c.rounds_open.ensures.opened key header (size_in header) 0 false front rest plain count)
          before.long before.none before.checks (omega (arith, full, c.args.context.now.some, some_size header)) opened.opens;
      bound = c.open_full.ensures.gathered.same ∙ before.bound;
      writes = c.in-Ok.ensures.gathered.count ∙ before.writes;
      long = omega (arith, before.long, past, full);
      total = (omega (arith, before.total.0, now, next, many), search rules);
      held = search rules;
      end = λ below short. search rules;
      some = λ more. omega (arith, next);
      room = (search rules, λ full. search rules);
      ready = search rules;
      count = search rules;
    }

early_reads : (total limit before : ℕ) (a b : Option (List ℕ)) (past held : List ℕ) → Consumes a b (past ++ held)
    → total ≡ before + (length past + length held) → total ≤ limit → (total < limit → IsAtEnd b) → ReadsOn limit before a b (past ++ held)
early_reads total limit before a b past held consumed count within end =
    let all = length-append past held in
    record { consumed = consumed; within = omega (arith, all, count, within); end = λ below. end (omega (arith, all, count, below)) }

pub returns-in-Err-begin_within-clause-refused : goal.returns-in-Err-begin_within-clause-refused
returns-in-Err-begin_within-clause-refused g c = λ left given own.
    let before = c.rounds.invariant in
    let header = c.args.context.now.header.now in
    let held = c.rounds.rooms.current.held in
    let limit = c.longest_bytes.ensures ∙ sym c.requires.limit in
    let count : c.rounds.total ≡ length header + (length before.past + length held) = omega (arith, before.total.0, before.long) in
    let end : c.rounds.total < longest c.args.context.now.max_bytes header + 1 → IsAtEnd (g.R.Source.left c.rounds.reader) =
    elim c.rounds-test.branch [
      | then-rounds-test+else-held-size w ↦ λ below. before.end (omega (arith, limit, below)) (search rules)
      | else-rounds-test w ↦ λ below. absurd (omega (arith, limit, below, w.rounds-test.false))
    ] in
    let reads = early_reads c.rounds.total (longest c.args.context.now.max_bytes header + 1) (length header) _ _ before.past held (before.consumed left given) count
    (omega (arith, before.total.1, limit)) end in
    let all = length-append before.past held in
    answers-early c.args.context.now.key.now header c.args.context.now.max_bytes c.rounds.total _ _ (before.past ++ held) c.in-Err-begin_within.fault
    reads (omega (arith, count, all))
    (λ whole bytes front. c.in-Err-begin_within.ensures.fault whole bytes (named-front header c.bytes-image.result.now whole c.bytes-image.ensures.bytes front))

pub returns-in-Err-begin_within-clause-no_write : goal.returns-in-Err-begin_within-clause-no_write
returns-in-Err-begin_within-clause-no_write g c = λ write.
    let before = c.rounds.invariant in
    let long = ap length c.bytes-image.ensures.bytes in
    let own = early-of_bytes c.args.context.now.key.now c.bytes-image.result.now c.args.context.now.max_bytes c.rounds.total c.in-Err-begin_within.fault
    (omega (arith, before.total.0, long)) c.in-Err-begin_within.ensures.fault in
    absurd (not_write c.in-Err-begin_within.fault own write)

pub returns-in-Err-begin_within-clause-count : goal.returns-in-Err-begin_within-clause-count
returns-in-Err-begin_within-clause-count g c =
    let before = c.rounds.invariant in
    let long = ap length c.bytes-image.ensures.bytes in
    let own = early-of_bytes c.args.context.now.key.now c.bytes-image.result.now c.args.context.now.max_bytes c.rounds.total c.in-Err-begin_within.fault
    (omega (arith, before.total.0, long)) c.in-Err-begin_within.ensures.fault in
    let none = not_read ℕ c.in-Err-begin_within.fault own in
    search rules

pub open_last-requires-clause-cut : goal.open_last-requires-clause-cut
open_last-requires-clause-cut g c =
    let before = c.rounds.invariant in
    let header = c.args.context.now.header.now in
    let size = size_in header in
    let plain = c.in-Ok-begin_within.cut.plain in
    let held = c.rounds.rooms.current.held in
    let under = cut-under c.args.context.now.key.now header c.bytes-image.result.now c.rounds.total c.in-Ok-begin_within.cut c.requires.front
    c.bytes-image.ensures.bytes c.in-Ok-begin_within.ensures'.cut c.in-Ok-begin_within.ensures'.named in
    let body : body_length size plain ≡ c.rounds.first * (size + 16) + length held = omega (arith, before.total.0, under) in
    let some = some-left size c.rounds.total (length header) plain c.rounds.first (length held) before.total.0 under before.some in
    let rest = body-rest size plain c.rounds.first (length held) (some_size header) body some in
    let sized : c.in-Ok-begin_within.cut.size ≡ size = c.in-Ok-begin_within.ensures'.named ∙ ap size_in c.bytes-image.ensures.bytes in
    let chunks = most_of-chunks c.args.context.now.max_bytes c.in-Ok-begin_within.cut.size in
    let few : plain ≤ 4294967295 * size = omega (arith, c.in-Ok-begin_within.ensures'.few, chunks, sized) in
    let count = count-numbers size plain (some_size header) few in
    (plain - c.rounds.first * size, rest.0, omega (arith, few), omega (arith, rest.1, count))

pub open_last-requires-clause-ready : goal.open_last-requires-clause-ready
open_last-requires-clause-ready g c =
    let before = c.rounds.invariant in
    let header = c.args.context.now.header.now in
    let size = size_in header in
    let held = c.rounds.rooms.current.held in
    let under = cut-under c.args.context.now.key.now header c.bytes-image.result.now c.rounds.total c.in-Ok-begin_within.cut c.requires.front
    c.bytes-image.ensures.bytes c.in-Ok-begin_within.ensures'.cut c.in-Ok-begin_within.ensures'.named in
    let sized : c.in-Ok-begin_within.cut.size ≡ size = c.in-Ok-begin_within.ensures'.named ∙ ap size_in c.bytes-image.ensures.bytes in
    let few = subst (λ (s : ℕ). c.in-Ok-begin_within.cut.plain ≤ most_of c.args.context.now.max_bytes s) sized c.in-Ok-begin_within.ensures'.few in
    let fits = container_length-more (length header) size c.in-Ok-begin_within.cut.plain (most_of c.args.context.now.max_bytes size) (some_size header) few in
    let short : length held ≤ c.args.context.now.window * (size + 16) =
    elim c.rounds-test.branch [
      | then-rounds-test+else-held-size w ↦ search rules
      | else-rounds-test w ↦ absurd (omega (arith, under, fits, c.longest_bytes.ensures, w.rounds-test.false))
    ] in
    record {
      sizes = before.ready.sizes;
      rooms = before.ready.rooms;
      enough = omega (arith, before.ready.enough, short);
    }

pub returns-in-Ok-open_last-clause-opened : goal.returns-in-Ok-open_last-clause-opened
returns-in-Ok-open_last-clause-opened g c = λ left given.
    let before = c.rounds.invariant in
    let key = c.args.context.now.key.now in
    let header = c.args.context.now.header.now in
    let size = size_in header in
    let bytes = c.in-Ok-begin_within.cut.plain in
    let held = c.rounds.rooms.current.held in
    let limit = c.longest_bytes.ensures ∙ sym c.requires.limit in
    let count : c.rounds.total ≡ length header + (length before.past + length held) = omega (arith, before.total.0, before.long) in
    let end : c.rounds.total < longest c.args.context.now.max_bytes header + 1 → IsAtEnd (g.R.Source.left c.rounds.reader) =
    elim c.rounds-test.branch [
      | then-rounds-test+else-held-size w ↦ λ below. before.end (omega (arith, limit, below)) (search rules)
      | else-rounds-test w ↦ λ below. absurd (omega (arith, limit, below, w.rounds-test.false))
    ] in
    let reads = early_reads c.rounds.total (longest c.args.context.now.max_bytes header + 1) (length header) _ _ before.past held (before.consumed left given) count
    (omega (arith, before.total.1, limit)) end in
    let all = length-append before.past held in
    let under = cut-under key header c.bytes-image.result.now c.rounds.total c.in-Ok-begin_within.cut c.requires.front
    c.bytes-image.ensures.bytes c.in-Ok-begin_within.ensures'.cut c.in-Ok-begin_within.ensures'.named in
    let some = some-left size c.rounds.total (length header) bytes c.rounds.first (length held) before.total.0 under before.some in
    let (last, opened, taken) = c.in-Ok-open_last.ensures.opened in
    let body : length (before.past ++ held) ≡ body_length size bytes = omega (arith, under, count, all) in
    let whole = opens-last key header c.rounds.first before.past before.plain held (Ok opened.plain) some opened.opens before.opens in
    let long = c.rounds_open.ensures.length key header size 0 true (before.past ++ held) (before.plain ++ opened.plain) bytes (some_size header) body whole in (
      before.plain ++ opened.plain,
      (search rules) ∙ sym long,
      answers-last key header c.args.context.now.max_bytes c.rounds.first c.rounds.total _ _ before.past before.plain held (Ok opened.plain)
          c.requires.front (c.rounds_open.ensures.whole key header 0) before.opens reads some (omega (arith, count, all))
          (λ whole bytes front. c.in-Ok-begin_within.ensures.faultless whole bytes (named-front header c.bytes-image.result.now whole c.bytes-image.ensures.bytes front))
          opened.opens,
      λ opening. subst (λ (l : List ℕ). Appends (g.O.Taking.bytes c.args.out.now) (g.O.Taking.bytes c.open_last.new.out) (before.plain ++ l)) (opened.kept opening)
          (sent-all _ _ _ before.plain _ last (before.kept opening) taken),
    )

pub returns-in-Err-open_last-clause-refused : goal.returns-in-Err-open_last-clause-refused
returns-in-Err-open_last-clause-refused g c = λ left given own.
    let before = c.rounds.invariant in
    let key = c.args.context.now.key.now in
    let header = c.args.context.now.header.now in
    let size = size_in header in
    let held = c.rounds.rooms.current.held in
    let limit = c.longest_bytes.ensures ∙ sym c.requires.limit in
    let count : c.rounds.total ≡ length header + (length before.past + length held) = omega (arith, before.total.0, before.long) in
    let end : c.rounds.total < longest c.args.context.now.max_bytes header + 1 → IsAtEnd (g.R.Source.left c.rounds.reader) =
    elim c.rounds-test.branch [
      | then-rounds-test+else-held-size w ↦ λ below. before.end (omega (arith, limit, below)) (search rules)
      | else-rounds-test w ↦ λ below. absurd (omega (arith, limit, below, w.rounds-test.false))
    ] in
    let reads = early_reads c.rounds.total (longest c.args.context.now.max_bytes header + 1) (length header) _ _ before.past held (before.consumed left given) count
    (omega (arith, before.total.1, limit)) end in
    let all = length-append before.past held in
    let under = cut-under key header c.bytes-image.result.now c.rounds.total c.in-Ok-begin_within.cut c.requires.front
    c.bytes-image.ensures.bytes c.in-Ok-begin_within.ensures'.cut c.in-Ok-begin_within.ensures'.named in
    let some = some-left size c.rounds.total (length header) c.in-Ok-begin_within.cut.plain c.rounds.first (length held) before.total.0 under before.some in
    answers-last key header c.args.context.now.max_bytes c.rounds.first c.rounds.total _ _ before.past before.plain held (Err c.in-Err-open_last.fault)
    c.requires.front (c.rounds_open.ensures.whole key header 0) before.opens reads some (omega (arith, count, all))
    (λ whole bytes front. c.in-Ok-begin_within.ensures.faultless whole bytes (named-front header c.bytes-image.result.now whole c.bytes-image.ensures.bytes front))
    (c.in-Err-open_last.ensures.refused own)

pub returns-in-Err-clause-begun : goal.returns-in-Err-clause-begun
returns-in-Err-clause-begun g c = λ left given opening.
    let before = c.rounds.invariant in
    let some : 0 < length c.rounds.rooms.current.held = search rules in
    begun-front c.args.context.now.key.now c.args.context.now.header.now c.args.context.now.max_bytes c.rounds.first _ _ _ _ before.past c.rounds.rooms.current.held before.plain
    c.requires.front.whole (c.rounds_open.ensures.whole c.args.context.now.key.now c.args.context.now.header.now 0) before.opens (before.consumed left given) (inl some)
    (λ p front. front-more _ _ _ before.plain _ p (before.kept opening) c.in-Err.ensures.gathered.begun front)

pub returns-in-Err-checked-clause-begun : goal.returns-in-Err-checked-clause-begun
returns-in-Err-checked-clause-begun g c = λ left given opening.
    let before = c.rounds.invariant in
    let some : 0 < length c.rounds.rooms.current.held = search rules in
    begun-front c.args.context.now.key.now c.args.context.now.header.now c.args.context.now.max_bytes c.rounds.first _ _ _ _ before.past c.rounds.rooms.current.held before.plain
    c.requires.front.whole (c.rounds_open.ensures.whole c.args.context.now.key.now c.args.context.now.header.now 0) before.opens (before.consumed left given) (inl some)
    (λ p front. front-more _ _ _ before.plain _ p (before.kept opening) (front-whole _ _ _ c.in-Ok.ensures.gathered.all) front)

pub returns-in-Err-begin_within-clause-begun : goal.returns-in-Err-begin_within-clause-begun
returns-in-Err-begin_within-clause-begun g c = λ left given opening.
    let before = c.rounds.invariant in
    let held = c.rounds.rooms.current.held in
    begun-front c.args.context.now.key.now c.args.context.now.header.now c.args.context.now.max_bytes c.rounds.first _ _ _ _ before.past held before.plain
    c.requires.front.whole (c.rounds_open.ensures.whole c.args.context.now.key.now c.args.context.now.header.now 0) before.opens (before.consumed left given)
    (some-or-none c.rounds.first held before.plain before.some before.none)
    (λ p front. front-sent _ _ before.plain _ p (before.kept opening) front)

pub returns-in-Err-open_last-clause-begun : goal.returns-in-Err-open_last-clause-begun
returns-in-Err-open_last-clause-begun g c = λ left given opening.
    let before = c.rounds.invariant in
    let key = c.args.context.now.key.now in
    let header = c.args.context.now.header.now in
    let size = size_in header in
    let held = c.rounds.rooms.current.held in
    let limit = c.longest_bytes.ensures ∙ sym c.requires.limit in
    let under = cut-under key header c.bytes-image.result.now c.rounds.total c.in-Ok-begin_within.cut c.requires.front
    c.bytes-image.ensures.bytes c.in-Ok-begin_within.ensures'.cut c.in-Ok-begin_within.ensures'.named in
    let sized : c.in-Ok-begin_within.cut.size ≡ size = c.in-Ok-begin_within.ensures'.named ∙ ap size_in c.bytes-image.ensures.bytes in
    let few = subst (λ (s : ℕ). c.in-Ok-begin_within.cut.plain ≤ most_of c.args.context.now.max_bytes s) sized c.in-Ok-begin_within.ensures'.few in
    let fits = container_length-more (length header) size c.in-Ok-begin_within.cut.plain (most_of c.args.context.now.max_bytes size) (some_size header) few in
    let some = some-left size c.rounds.total (length header) c.in-Ok-begin_within.cut.plain c.rounds.first (length held) before.total.0 under before.some in
    let end : IsAtEnd (g.R.Source.left c.rounds.reader) =
    elim c.rounds-test.branch [
      | then-rounds-test+else-held-size w ↦ before.end (omega (arith, under, fits, c.longest_bytes.ensures)) (search rules)
      | else-rounds-test w ↦ absurd (omega (arith, under, fits, c.longest_bytes.ensures, w.rounds-test.false))
    ] in
    begun-last key header c.args.context.now.max_bytes c.rounds.first _ _ _ _ _ before.past held before.plain c.rounds.rooms.places.values c.requires.front.whole
    (c.rounds_open.ensures.whole key header 0) before.opens (before.consumed left given) end some (before.kept opening)
    (c.in-Err-open_last.ensures.begun opening)

pub returns-in-Err-clause-sent : goal.returns-in-Err-clause-sent
returns-in-Err-clause-sent g c = λ left given opening.
    let before = c.rounds.invariant in
    sent-so_far c.args.context.now.key.now c.args.context.now.header.now c.rounds.first _ _ _ _ before.past c.rounds.rooms.current.held before.plain (before.consumed left given) before.none before.checks
    (front-more _ _ _ before.plain _ before.plain (before.kept opening) c.in-Err.ensures.gathered.begun ([], sym (append-nil before.plain)))

pub returns-in-Err-checked-clause-sent : goal.returns-in-Err-checked-clause-sent
returns-in-Err-checked-clause-sent g c = λ left given opening.
    let before = c.rounds.invariant in
    sent-so_far c.args.context.now.key.now c.args.context.now.header.now c.rounds.first _ _ _ _ before.past c.rounds.rooms.current.held before.plain (before.consumed left given) before.none before.checks
    (front-more _ _ _ before.plain _ before.plain (before.kept opening) (front-whole _ _ _ c.in-Ok.ensures.gathered.all) ([], sym (append-nil before.plain)))

pub returns-in-Err-begin_within-clause-sent : goal.returns-in-Err-begin_within-clause-sent
returns-in-Err-begin_within-clause-sent g c = λ left given opening.
    let before = c.rounds.invariant in
    sent-so_far c.args.context.now.key.now c.args.context.now.header.now c.rounds.first _ _ _ _ before.past c.rounds.rooms.current.held before.plain (before.consumed left given) before.none before.checks
    (front-sent _ _ before.plain _ before.plain (before.kept opening) ([], sym (append-nil before.plain)))

pub returns-in-Err-open_last-clause-sent : goal.returns-in-Err-open_last-clause-sent
returns-in-Err-open_last-clause-sent g c = λ left given opening.
    let before = c.rounds.invariant in
    let key = c.args.context.now.key.now in
    let header = c.args.context.now.header.now in
    let held = c.rounds.rooms.current.held in
    let under = cut-under key header c.bytes-image.result.now c.rounds.total c.in-Ok-begin_within.cut c.requires.front
    c.bytes-image.ensures.bytes c.in-Ok-begin_within.ensures'.cut c.in-Ok-begin_within.ensures'.named in
    let some = some-left (size_in header) c.rounds.total (length header) c.in-Ok-begin_within.cut.plain c.rounds.first (length held) before.total.0 under before.some in
    sent-last key header c.rounds.first _ _ _ _ _ before.past held before.plain c.rounds.rooms.places.values (before.consumed left given) before.none before.checks
    before.opens some (before.kept opening) (c.in-Err-open_last.ensures.begun opening)

pub open_full-requires-clause-may : goal.open_full-requires-clause-may
open_full-requires-clause-may g c =
    let (left, given, may) = c.requires.may in
    let before = c.rounds.invariant in
    let some : 0 < length c.rounds.rooms.current.held = search rules in
    admits-waiting c.args.context.now.task c.args.context.now.key.now c.args.context.now.header.now c.args.context.now.max_bytes c.rounds.first _ before.past c.rounds.rooms.current.held before.plain _
    c.requires.front.whole (c.rounds_open.ensures.whole c.args.context.now.key.now c.args.context.now.header.now 0) before.opens before.none before.checks _ _ _ _ _ before.bound may
    (before.consumed left given) (inl some) before.kept

pub open_last-requires-clause-may : goal.open_last-requires-clause-may
open_last-requires-clause-may g c =
    let (left, given, may) = c.requires.may in
    let before = c.rounds.invariant in
    let key = c.args.context.now.key.now in
    let header = c.args.context.now.header.now in
    let size = size_in header in
    let held = c.rounds.rooms.current.held in
    let limit = c.longest_bytes.ensures ∙ sym c.requires.limit in
    let under = cut-under key header c.bytes-image.result.now c.rounds.total c.in-Ok-begin_within.cut c.requires.front
    c.bytes-image.ensures.bytes c.in-Ok-begin_within.ensures'.cut c.in-Ok-begin_within.ensures'.named in
    let sized : c.in-Ok-begin_within.cut.size ≡ size = c.in-Ok-begin_within.ensures'.named ∙ ap size_in c.bytes-image.ensures.bytes in
    let few = subst (λ (s : ℕ). c.in-Ok-begin_within.cut.plain ≤ most_of c.args.context.now.max_bytes s) sized c.in-Ok-begin_within.ensures'.few in
    let fits = container_length-more (length header) size c.in-Ok-begin_within.cut.plain (most_of c.args.context.now.max_bytes size) (some_size header) few in
    let some = some-left size c.rounds.total (length header) c.in-Ok-begin_within.cut.plain c.rounds.first (length held) before.total.0 under before.some in
    let end : IsAtEnd (g.R.Source.left c.rounds.reader) =
    elim c.rounds-test.branch [
      | then-rounds-test+else-held-size w ↦ before.end (omega (arith, under, fits, c.longest_bytes.ensures)) (search rules)
      | else-rounds-test w ↦ absurd (omega (arith, under, fits, c.longest_bytes.ensures, w.rounds-test.false))
    ] in
    record {
      before = admits-waiting c.args.context.now.task key header c.args.context.now.max_bytes c.rounds.first _ before.past held before.plain _
          c.requires.front.whole (c.rounds_open.ensures.whole key header 0) before.opens before.none before.checks _ _ _ _ _ before.bound may
          (before.consumed left given) (inl some) before.kept;
      other = bounded-opens c.args.context.now.task key header c.args.context.now.max_bytes _ _ _ _ before.bound may;
      behind = λ opening last opens. admits-last c.args.context.now.task key header c.args.context.now.max_bytes c.rounds.first _ before.past held before.plain _
          c.requires.front.whole (c.rounds_open.ensures.whole key header 0) before.opens before.none before.checks _ _ _ _ _ last before.bound may
          (before.consumed left given) some end before.kept opens;
    }
