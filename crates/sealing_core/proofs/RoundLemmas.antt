-- The round in hand, and what a sealing did when its caller's thread is done.
use Rattle.std.proofs.Common.{◌≡◌, ◌⊎◌, ℕ, zero, suc, ◌+◌, ◌-◌, ◌*◌, ◌<◌, ◌≤◌, Bool, true, false, cond, List, [], ◌∷◌, ◌++◌, length, take, drop, deque_capacity}
use Rattle.std.proofs.Common.{Option, Some, None, IfSome, Result, Ok, Err, refl, sym, ap, ◌∙◌, subst, arith, length-append, inl, inr}
use Rattle.std.proofs.Common.{take-append-drop, zero-mul}
use Rattle.std.proofs.KnownBytes.{Consumes-all, Keeps-refl}
use Rattle.std.proofs.Math.Nat.{mul_assoc, mul-le-mul_right}
use Rattle.std.proofs.lemmas.Bool.{cases_Bool}
use Rattle.std.proofs.lemmas.List.{length-drop, take_at, take-append-le}
use Rattle.container_core.specs.Container.{size_in}
use Rattle.container_core.specs.declared.fault.SealFault.{SealFault}
use Rattle.container_core.specs.declared.fault.SealFault.TheVariants.{OutOfMemory, Read, Write, TooLong}
use Rattle.io_core.specs.Reads.{ConsumesUpTo}
use Rattle.io_core.specs.Streams.{Appends, Consumes, counted}
use Rattle.io_core.specs.Views.{io_view}
use Rattle.sealing_core.specs.declared.early.Early.{Early}
use Rattle.sealing_core.specs.declared.intake.Intake.{Intake}
use Rattle.sealing_core.specs.declared.line.Hand.{Hand}
use Rattle.sealing_core.specs.declared.piece.Task.{Task}
use Rattle.sealing_core.specs.declared.round.Plan.{Plan}
use Rattle.sealing_core.specs.declared.round.Round.{Round}
use Rattle.sealing_core.specs.Intake.{HasRead, seen}
use Rattle.sealing_core.specs.Order.{behind, empty, AreWritten, Follows, HasBegun, IsCutOff, IsOrdered}
use Rattle.sealing_core.specs.Hands.{hand, hands_view, all_numbers}
use Rattle.sealing_core.specs.Pieces.{block, room, IsChunk, IsPart, IsTask, task_numbers}
use Rattle.sealing_core.specs.Round.{AreJobs, AreRounds, IsHanded, IsInHand, IsLast, IsRead, IsUnderWay}
use Rattle.sealing_core.specs.Pipe.{read_failed}
use Rattle.sealing_core.specs.Rounds.{HasSealedRounds}
use Rattle.sealing_core.proofs.BlockLemmas.{pos_times}
use Rattle.sealing_core.proofs.ChunkLemmas.{begun_none, begun_now}
use Rattle.sealing_core.proofs.Orders.{order_all, order_none}

pub not_both : (b : Bool) → b ≡ true → b ≡ false → ⊥
not_both b is isnt = let e : true ≡ false = sym is ∙ isnt in cc

if_some : {A : Type 0} {P Q : A → Type 0} (o : Option A) → ((x : A) → P x → Q x) → IfSome o P → IfSome o Q
if_some None f p = tt
if_some (Some x) f p = f x p

none_if : (b : Bool) → b ≡ false → cond {A = ℕ} b 1 0 ≡ 0
none_if false e = refl
none_if true e = cc

one_if : (b : Bool) → b ≡ true → cond {A = ℕ} b 1 0 ≡ 1
one_if true e = refl
one_if false e = cc

same_if : (b c : Bool) → b ≡ c → cond {A = ℕ} b 1 0 ≡ cond {A = ℕ} c 1 0
same_if b c e = ap (λ (b : Bool). cond {A = ℕ} b 1 0) e

-- ---- the round in hand

-- one job more
pub jobs_push : (each : ℕ) (header : List ℕ) (told : Option (List ℕ)) (put : ℕ) (ts : List Task) (t : Task) → AreJobs each header told put ts
    → IsTask each header told t → task_numbers t ≡ (put + length ts) ∷ [] → AreJobs each header told put (ts ++ t ∷ [])
jobs_push each header told put [] t jobs good number = (good, number ∙ ap (λ (n : ℕ). n ∷ []) (omega arith), tt)
jobs_push each header told put (x ∷ ts) t jobs good number =
    (jobs.0, jobs.1, jobs_push each header told (put + 1) ts t jobs.2 good (number ∙ ap (λ (n : ℕ). n ∷ []) (omega arith)))

pub jobs_tasks : (each : ℕ) (header : List ℕ) (told : Option (List ℕ)) (put : ℕ) (ts : List Task) → AreJobs each header told put ts
    → (t : Task) (rest : List Task) → ts ≡ t ∷ rest → IsTask each header told t × (task_numbers t ≡ put ∷ []) × AreJobs each header told (put + 1) rest
jobs_tasks each header told put ts jobs t rest e = subst (AreJobs each header told put) e jobs

-- nothing was read
pub hand_none : (each : ℕ) (key header : List ℕ) (left : Option (List ℕ)) (limit : ℕ) (round : Round) → HasRead (block each header) limit left left round.intake
    → round.intake.ended ≡ false → round.intake.blocks ≡ 0 → round.held.items ≡ [] → round.is_sealed ≡ false
    → IsInHand each key header left left limit 0 round
hand_none each key header left limit round read going none held plain = record {
  read = read;
  jobs = subst (AreJobs each header left 0) (sym held) tt;
  count = let l = ap (λ (ts : List Task). length ts) held in let e = none_if _ going in omega arith;
  few = omega arith;
  numbers = let n = ap (λ (m : ℕ). each * m) none in omega arith;
  unsealed = λ _. plain;
  last = λ ended. absurd (not_both _ ended going);
}

-- a full block was read
pub hand_full : (each : ℕ) (key header : List ℕ) (told left left' : Option (List ℕ)) (limit put : ℕ) (round round' : Round) (t : Task)
    → HasRead (block each header) limit told left' round'.intake → round'.intake.ended ≡ false
    → round'.intake.blocks ≡ round.intake.blocks + 1 → round'.intake.blocks ≤ 4294967295 → each * round'.intake.blocks ≤ 4294967295
    → round.intake.ended ≡ false
    → round'.held.items ≡ round.held.items ++ t ∷ [] → round'.is_sealed ≡ round.is_sealed
    → IsTask each header told t → task_numbers t ≡ round.intake.blocks ∷ []
    → IsInHand each key header told left limit put round → IsInHand each key header told left' limit put round'
hand_full each key header told left left' limit put round round' t read going grown few numbers before held plain good number was =
    let count = was.count in
    let none_more = none_if _ before in
    let none_now = none_if _ going in
    let chunks : round.intake.blocks ≡ put + length round.held.items = omega arith in
    let long = ap (λ (ts : List Task). length ts) held ∙ length-append round.held.items (t ∷ []) in
    record {
      read = read;
      jobs = subst (AreJobs each header told put) (sym held) (jobs_push each header told put round.held.items t was.jobs good (number ∙ ap (λ (n : ℕ). n ∷ []) chunks));
      count = omega arith;
      few = few;
      numbers = numbers;
      unsealed = λ _. plain ∙ was.unsealed before;
      last = λ ended. absurd (not_both _ ended going);
    }

-- the last block was
pub hand_last : (each : ℕ) (key header : List ℕ) (told left left' : Option (List ℕ)) (limit put : ℕ) (round round' : Round)
    → HasRead (block each header) limit told left' round'.intake → round'.intake.ended ≡ true
    → round'.intake.blocks ≡ round.intake.blocks + 1 → round'.intake.blocks ≤ 4294967295 → each * round'.intake.blocks ≤ 4294967295
    → round.intake.ended ≡ false
    → round'.held ≡ round.held → round'.is_sealed ≡ round.is_sealed
    → length round'.last.items ≡ room each header → round'.filled ≤ block each header
    → IsChunk (block each header) told round.intake.blocks true (take round'.filled round'.last.items)
    → IsInHand each key header told left limit put round → IsInHand each key header told left' limit put round'
hand_last each key header told left left' limit put round round' read ended grown few numbers before held plain long filled chunk was =
    let count = was.count in
    let none_more = none_if _ before in
    let one_more = one_if _ ended in
    let same = ap (λ v. length v.items) held in
    let chunks : round.intake.blocks ≡ put + length round'.held.items = omega arith in
    record {
      read = read;
      jobs = subst (λ v. AreJobs each header told put v.items) (sym held) was.jobs;
      count = omega arith;
      few = few;
      numbers = numbers;
      unsealed = λ going. absurd (not_both _ ended going);
      last = λ _. record {
        long = long;
        filled = λ _. filled;
        within = omega arith;
        plain = λ _. subst (λ (n : ℕ). IsChunk (block each header) told n true (take round'.filled round'.last.items)) chunks chunk;
        sealed = λ is. absurd (not_both _ is (plain ∙ was.unsealed before));
      };
    }

-- at an end no byte is too many
pub not_long : (size limit : ℕ) (left left' : Option (List ℕ)) (intake : Intake) → HasRead size limit left left' intake → intake.ended ≡ true
    → intake.over ≡ false
not_long size limit left left' intake had ended = elim (cases_Bool intake.over) [
  | inl over ↦ let e = (had.end ended).2 in let f = (had.over over).0 in absurd (omega arith)
  | inr shut ↦ shut
]

-- all of it was put
pub hand_put : (each : ℕ) (key header : List ℕ) (told left : Option (List ℕ)) (limit put : ℕ) (round round' : Round) → round'.intake ≡ round.intake
    → round'.held.items ≡ [] → round'.last ≡ round.last → round'.filled ≡ round.filled → round'.is_sealed ≡ round.is_sealed
    → IsInHand each key header told left limit put round → IsInHand each key header told left limit (put + length round.held.items) round'
hand_put each key header told left limit put round round' same held last filled sealed was =
    let none_held = ap (λ (ts : List Task). length ts) held in
    let now : round.intake.ended ≡ round'.intake.ended = ap (λ (i : Intake). i.ended) (sym same) in
    let one = same_if _ _ now in
    let chunks = ap (λ (i : Intake). i.blocks) same in
    let count = was.count in
    let few = was.few in
    record {
      read = subst (HasRead (block each header) limit told left) (sym same) was.read;
      jobs = subst (AreJobs each header told (put + length round.held.items)) (sym held) tt;
      count = omega arith;
      few = omega arith;
      numbers = subst (λ (i : Intake). each * i.blocks ≤ 4294967295) (sym same) was.numbers;
      unsealed = λ going. sealed ∙ was.unsealed (now ∙ going);
      last = λ ended. let is = was.last (now ∙ ended) in
          let number : put + length round.held.items ≡ put + length round.held.items + length round'.held.items = omega arith in
          subst (λ (n : ℕ). IsLast each key header told n round') number
          (record {
            long = ap (λ v. length v.items) last ∙ is.long;
            filled = λ p. let f = is.filled (sym sealed ∙ p) in omega arith;
            within = let f = is.within in omega arith;
            plain = λ p. rw (filled, last) (is.plain (sym sealed ∙ p));
            sealed = λ p. rw (filled, last) (is.sealed (sym sealed ∙ p));
          });
    }

-- the last block was sealed
pub hand_sealed : (each : ℕ) (key header : List ℕ) (told left : Option (List ℕ)) (limit put : ℕ) (round round' : Round) → round'.intake ≡ round.intake
    → round'.held ≡ round.held → (round.intake.ended ≡ false → round' ≡ round)
    → ((number : ℕ) → round.intake.blocks ≡ number + 1 → IsLast each key header told number round → IsLast each key header told number round')
    → IsInHand each key header told left limit put round → IsInHand each key header told left limit put round'
hand_sealed each key header told left limit put round round' same held kept step was =
    let now : round.intake.ended ≡ round'.intake.ended = ap (λ (i : Intake). i.ended) (sym same) in
    let one = same_if _ _ now in
    let chunks = ap (λ (i : Intake). i.blocks) same in
    let count = was.count in
    let few = was.few in
    let long = ap (λ v. length v.items) held in
    record {
      read = subst (HasRead (block each header) limit told left) (sym same) was.read;
      jobs = subst (λ v. AreJobs each header told put v.items) (sym held) was.jobs;
      count = omega arith;
      few = omega arith;
      numbers = subst (λ (i : Intake). each * i.blocks ≤ 4294967295) (sym same) was.numbers;
      unsealed = λ going. ap (λ (r : Round). r.is_sealed) (kept (now ∙ going)) ∙ was.unsealed (now ∙ going);
      last = λ ended. let is = now ∙ ended in let two = one_if _ is in
          subst (λ (n : ℕ). IsLast each key header told (put + n) round') (sym long) (step (put + length round.held.items) (omega arith) (was.last is));
    }

-- a full round was put
rounds_more : (each : ℕ) (key header : List ℕ) (told left : Option (List ℕ)) (limit group put : ℕ) (round : Round) → IsInHand each key header told left limit put round
    → 0 < group → round.intake.ended ≡ false → round.intake.over ≡ false → length round.held.items ≡ group
    → AreRounds (block each header) limit group put → AreRounds (block each header) limit group (put + length round.held.items)
rounds_more each key header told left limit group put round was some going unmet full rounds =
    let s = block each header in
    let read = was.read in
    let g = (read.going going unmet).0 in
    let within = (read.going going unmet).1 in
    let none_more = none_if _ going in
    let count = was.count in
    let chunks : round.intake.blocks ≡ put + length round.held.items = omega arith in
    let one_behind = g.behind (omega arith) in
    let long : length read.bytes ≡ round.intake.blocks * s + 1 =
    ap (λ (l : List ℕ). length l) g.read ∙ length-append g.past (seen round.intake.ahead) ∙ (let w = g.whole in omega arith) in
    let product : round.intake.blocks * s ≡ (put + length round.held.items) * s = ap (λ (n : ℕ). n * s) chunks in
    let multiple : suc rounds.0 * group ≡ rounds.0 * group + group = omega arith in
    let r = rounds.1 in
    (suc rounds.0, omega arith, λ _. omega arith)

-- what is in hand was put
pub way_put : (each : ℕ) (key header : List ℕ) (told left : Option (List ℕ)) (plan : Plan) (early early' : Early) (jobs jobs' pieces : Hand) (round round' : Round)
    → 0 < plan.group → round'.intake ≡ round.intake → round'.held.items ≡ [] → round'.last ≡ round.last → round'.filled ≡ round.filled
    → round'.is_sealed ≡ round.is_sealed
    → early'.places.items ≡ early.places.items ++ empty (length round.held.items) → early'.written ≡ early.written
    → jobs' ≡ hand jobs.parts (jobs.put ++ all_numbers task_numbers round.held.items) jobs.taken
    → length round.held.items ≤ plan.group → (round.intake.over ≡ true → length round.held.items < plan.group)
    → (round.intake.ended ≡ false → plan.group ≤ length round.held.items)
    → IsUnderWay each key header told left plan early (hands_view jobs pieces) round → IsUnderWay each key header told left plan early' (hands_view jobs' pieces) round'
way_put each key header told left plan early early' jobs jobs' pieces round round' some same held last filled sealed places written view few over full was = record {
  put = was.put + length round.held.items;
  order = order_all each key header told was.put early early' jobs jobs' pieces round.held.items was.hand.jobs places written view was.order;
  hand = hand_put each key header told left plan.limit was.put round round' same held last filled sealed was.hand;
  rounds = λ going.
      let g : round.intake.ended ≡ false = ap (λ (i : Intake). i.ended) (sym same) ∙ going in
      let long = full g in
      elim (cases_Bool round.intake.over) [
        | inl is ↦ let less = over is in absurd (omega arith)
        | inr isnt ↦ rounds_more each key header told left plan.limit plan.group was.put round was.hand some g isnt (omega arith) (was.rounds g)
      ];
}

-- nothing was put
pub way_none : (each : ℕ) (key header : List ℕ) (told left : Option (List ℕ)) (plan : Plan) (early : Early) (jobs pieces : Hand) (round : Round)
    → early.places.items ≡ [] → early.written ≡ 0 → jobs.put ≡ [] → pieces.put ≡ []
    → IsInHand each key header told left plan.limit 0 round → IsUnderWay each key header told left plan early (hands_view jobs pieces) round
way_none each key header told left plan early jobs pieces round places written put silent was = record {
  put = 0;
  order = order_none each key header told 0 early jobs pieces refl places written put silent;
  hand = was;
  rounds = λ _. (0, sym (zero-mul plan.group), λ some. absurd (omega arith));
}

-- a piece was written, or taken back, or made
pub way_step : (each : ℕ) (key header : List ℕ) (told left : Option (List ℕ)) (plan : Plan) (early early' : Early) (jobs jobs' pieces pieces' : Hand) (round : Round)
    → ((put : ℕ) → IsOrdered each key header told put early jobs pieces → IsOrdered each key header told put early' jobs' pieces')
    → IsUnderWay each key header told left plan early (hands_view jobs pieces) round → IsUnderWay each key header told left plan early' (hands_view jobs' pieces') round
way_step each key header told left plan early early' jobs jobs' pieces pieces' round step was =
    record { put = was.put; order = step was.put was.order; hand = was.hand; rounds = was.rounds }

-- a block was read
pub way_read : (each : ℕ) (key header : List ℕ) (told left left' : Option (List ℕ)) (plan : Plan) (early : Early) (jobs pieces : Hand) (round round' : Round)
    → round.intake.ended ≡ false
    → ((put : ℕ) → IsInHand each key header told left plan.limit put round → IsInHand each key header told left' plan.limit put round')
    → IsUnderWay each key header told left plan early (hands_view jobs pieces) round → IsUnderWay each key header told left' plan early (hands_view jobs pieces) round'
way_read each key header told left left' plan early jobs pieces round round' going step was =
    record { put = was.put; order = was.order; hand = step was.put was.hand; rounds = λ _. was.rounds going }

pub handed_as : (group : ℕ) (round round' : Round) → round'.intake ≡ round.intake → round'.held ≡ round.held → IsHanded group round → IsHanded group round'
handed_as group round round' same held was = (
  λ going. subst (λ v. length v.items < group) (sym held) (was.0 (ap (λ (i : Intake). i.ended) (sym same) ∙ going)),
  λ ended. ap (λ v. v.items) held ∙ was.1 (ap (λ (i : Intake). i.ended) (sym same) ∙ ended),
)

-- the last block was sealed
pub way_sealed : (each : ℕ) (key header : List ℕ) (told left : Option (List ℕ)) (plan : Plan) (early : Early) (jobs pieces : Hand) (round round' : Round)
    → round'.intake ≡ round.intake → round'.held ≡ round.held → (round.intake.ended ≡ false → round' ≡ round)
    → ((number : ℕ) → round.intake.blocks ≡ number + 1 → IsLast each key header told number round → IsLast each key header told number round')
    → IsUnderWay each key header told left plan early (hands_view jobs pieces) round → IsUnderWay each key header told left plan early (hands_view jobs pieces) round'
way_sealed each key header told left plan early jobs pieces round round' same held kept step was = record {
  put = was.put;
  order = was.order;
  hand = hand_sealed each key header told left plan.limit was.put round round' same held kept step was.hand;
  rounds = λ going. was.rounds (ap (λ (i : Intake). i.ended) (sym same) ∙ going);
}

-- ---- what was done

-- the end was met, and all is written
pub rounds_end : (each : ℕ) (front key header : List ℕ) (told left taken now : Option (List ℕ)) (limit group : ℕ) (failures failures' refusals refusals' : Option ℕ)
    (intake : Intake) → HasRead (block each header) limit told left intake → intake.ended ≡ true
    → IfSome told (λ input. Appends taken now (behind front key header input)) → failures' ≡ failures → refusals' ≡ refusals
    → HasSealedRounds front key header (limit - 1) group (io_view told failures taken refusals) (io_view left failures' now refusals') (Ok intake.total)
rounds_end each front key header told left taken now limit group failures failures' refusals refusals' intake had ended was reads writes =
    let end = had.end ended in
    let all = Consumes-all told left had.bytes [] had.bytes had.consumed end.0 refl in
    record {
      end = end.0;
      written = was;
      answer = if_some told (λ input is. end.1 ∙ ap (λ (l : List ℕ). length l) is) all;
      within = if_some told (λ input is. let l = ap (λ (l : List ℕ). length l) is in let e = end.2 in omega arith) all;
      more = λ e. cc;
      one = λ e. cc;
      bound = (had.bytes, had.consumed, let e = end.2 in omega arith);
      dropped = λ e. cc;
      begun = tt;
      short = λ e. cc;
      unwritten = λ e. cc;
      by_bytes = λ e. cc;
      read = reads;
      write = writes;
    }

-- a front of what was read
front_of_read : (told left : Option (List ℕ)) (past bytes : List ℕ) → length past ≤ length bytes → IfSome told (Follows past) → Consumes told left bytes
    → Consumes told left (past ++ drop (length past) bytes)
front_of_read None left past bytes few follows consumed = tt
front_of_read (Some input) None past bytes few follows consumed = absurd consumed
front_of_read (Some input) (Some rest) past bytes few follows consumed =
    let same : take (length past) bytes ≡ past =
    sym (take-append-le (length past) bytes rest few) ∙ ap (take (length past)) (sym consumed ∙ follows.1) ∙ take_at past follows.0 (length past) refl in
    consumed ∙ ap (λ (l : List ℕ). l ++ rest) (sym (take-append-drop (length past) bytes) ∙ ap (λ (l : List ℕ). l ++ drop (length past) bytes) same)

longer : (told left : Option (List ℕ)) (bytes : List ℕ) (n : ℕ) → n < length bytes → Consumes told left bytes → IfSome told (λ input. n < length input)
longer None left bytes n long consumed = tt
longer (Some input) None bytes n long consumed = absurd consumed
longer (Some input) (Some rest) bytes n long consumed =
    let e : length input ≡ length bytes + length rest = ap (λ (l : List ℕ). length l) consumed ∙ length-append bytes rest in omega arith

some_times : (n s m : ℕ) → m ≡ n * s → 0 < m → 0 < n
some_times zero s m is some = absurd (omega (arith, is, some))
some_times (suc n) s m is some = omega arith

-- a byte too many was met, and all that was put is written
pub rounds_long : (each : ℕ) (front key header : List ℕ) (told left taken now : Option (List ℕ)) (limit group put : ℕ) (failures failures' refusals refusals' : Option ℕ)
    (round : Round) → 0 < limit → 0 < size_in header → 0 < each → IsInHand each key header told left limit put round → round.intake.ended ≡ false → round.intake.over ≡ true
    → length round.held.items < group → AreRounds (block each header) limit group put → AreWritten each front key header told taken now put
    → failures' ≡ failures → refusals' ≡ refusals
    → HasSealedRounds front key header (limit - 1) (group * each) (io_view told failures taken refusals) (io_view left failures' now refusals') (Err TooLong)
rounds_long each front key header told left taken now limit group put failures failures' refusals refusals' round some size one held_now going over few rounds was reads writes =
    let had = held_now.read in
    let met = (had.over over).0 in
    let near = (had.over over).1 in
    let sum = had.sum going in
    let none_more = none_if _ going in
    let count = held_now.count in
    let s = block each header in
    let full = pos_times each (size_in header) one size in
    let chunks : round.intake.blocks ≡ put + length round.held.items = omega arith in
    let product : round.intake.blocks * s ≡ (put + length round.held.items) * s = ap (λ (n : ℕ). n * s) chunks in
    let parted : (put + length round.held.items) * s + s ≡ put * s + (length round.held.items + 1) * s = omega arith in
    let most : (length round.held.items + 1) * s ≤ group * s = mul-le-mul_right s (omega arith) in
    let long = was.long in
    let after_put = rounds.2 in
    let fits : put * s < limit = within_limit put s limit some after_put in
    let cut : length (drop (length was.past) had.bytes) ≡ length had.bytes - length was.past = length-drop (length was.past) had.bytes in
    record {
      end = tt;
      written = tt;
      answer = tt;
      within = tt;
      more = λ _. longer told left had.bytes (limit - 1) (omega arith) had.consumed;
      one = λ _. (had.bytes, had.consumed, omega arith);
      bound = (had.bytes, had.consumed, omega arith);
      dropped = λ _. (
        was.past,
        drop (length was.past) had.bytes,
        rounds.0,
        front_of_read told left was.past had.bytes (omega arith) was.of had.consumed,
        long ∙ ap (λ (n : ℕ). n * s) rounds.1 ∙ mul_assoc rounds.0 group s ∙ ap (λ (n : ℕ). rounds.0 * n) (sym (mul_assoc group each (size_in header))),
        λ more. let b = after_put (some_times put s (length was.past) long more) in omega arith,
        omega arith,
        omega arith,
        was.grown,
      );
      begun = begun_now each front key header told taken now put size one was;
      short = λ e. cc;
      unwritten = λ e. cc;
      by_bytes = λ e. cc;
      read = reads;
      write = writes;
    }
  where
    within_limit : (put s limit : ℕ) → 0 < limit → (0 < put → put * s + 1 < limit) → put * s < limit
    within_limit zero s limit some after_put = omega (arith, some)
    within_limit (suc n) s limit some after_put = let b = after_put (omega arith) in omega arith

-- memory was refused, and nothing is written
pub rounds_memory : (front key header : List ℕ) (told left taken : Option (List ℕ)) (limit group : ℕ) (failures failures' refusals refusals' : Option ℕ)
    → 0 < limit → ConsumesUpTo told left limit → failures' ≡ failures → refusals' ≡ refusals
    → HasSealedRounds front key header (limit - 1) group (io_view told failures taken refusals) (io_view left failures' taken refusals') (Err OutOfMemory)
rounds_memory front key header told left taken limit group failures failures' refusals refusals' some bound reads writes = record {
  end = tt;
  written = tt;
  answer = tt;
  within = tt;
  more = λ e. cc;
  one = λ e. cc;
  bound = (bound.0, bound.1, let b = bound.2 in omega arith);
  dropped = λ e. cc;
  begun = begun_none front key header told taken;
  short = λ e. cc;
  unwritten = λ _. Keeps-refl taken;
  by_bytes = λ e. cc;
  read = reads;
  write = writes;
}

pub rounds_read : (front key header : List ℕ) (told left taken now : Option (List ℕ)) (limit group : ℕ) (failures failures' refusals refusals' : Option ℕ)
    → 0 < limit → ConsumesUpTo told left limit → HasBegun front key header told taken now → failures' ≡ counted true failures → refusals' ≡ refusals
    → HasSealedRounds front key header (limit - 1) group (io_view told failures taken refusals) (io_view left failures' now refusals') (Err Read)
rounds_read front key header told left taken now limit group failures failures' refusals refusals' some bound begun reads writes = record {
  end = tt;
  written = tt;
  answer = tt;
  within = tt;
  more = λ e. cc;
  one = λ e. cc;
  bound = (bound.0, bound.1, let b = bound.2 in omega arith);
  dropped = λ e. cc;
  begun = begun;
  short = λ e. cc;
  unwritten = λ e. cc;
  by_bytes = λ e. cc;
  read = reads;
  write = writes;
}

pub rounds_write : (front key header : List ℕ) (told left taken now : Option (List ℕ)) (limit group : ℕ) (failures failures' refusals refusals' : Option ℕ)
    → 0 < limit → ConsumesUpTo told left limit → IsCutOff front key header told taken now → failures' ≡ failures → refusals' ≡ counted true refusals
    → HasSealedRounds front key header (limit - 1) group (io_view told failures taken refusals) (io_view left failures' now refusals') (Err Write)
rounds_write front key header told left taken now limit group failures failures' refusals refusals' some bound cut reads writes = record {
  end = tt;
  written = tt;
  answer = tt;
  within = tt;
  more = λ e. cc;
  one = λ e. cc;
  bound = (bound.0, bound.1, let b = bound.2 in omega arith);
  dropped = λ e. cc;
  begun = (cut.0, cut.1, cut.2);
  short = λ _. cut;
  unwritten = λ e. cc;
  by_bytes = λ e. cc;
  read = reads;
  write = writes;
}

-- the last block, sealed, after all that was put
pub last_part : (each : ℕ) (key header : List ℕ) (told left : Option (List ℕ)) (limit group put : ℕ) (round round' : Round)
    → IsInHand each key header told left limit put round → IsHanded group round → round.intake.ended ≡ true
    → round'.intake ≡ round.intake → (round'.intake.ended ≡ true → round'.is_sealed ≡ true)
    → ((number : ℕ) → round.intake.blocks ≡ number + 1 → IsLast each key header told number round → IsLast each key header told number round')
    → IsPart each key header told put true (take round'.filled round'.last.items) × (round'.intake.blocks ≡ put + 1)
last_part each key header told left limit group put round round' was handed ended same sealed step =
    let none_held = ap (λ (ts : List Task). length ts) (handed.1 ended) in
    let one = one_if _ ended in
    let count = was.count in
    let chunks = ap (λ (i : Intake). i.blocks) same in
    let number : put + length round.held.items ≡ put = omega arith in
    let last = step put (omega arith) (subst (λ (n : ℕ). IsLast each key header told n round) number (was.last ended)) in
    (last.sealed (sealed (ap (λ (i : Intake). i.ended) same ∙ ended)), omega arith)

-- the same by its own number
pub last_at : (each : ℕ) (key header : List ℕ) (told left : Option (List ℕ)) (limit put : ℕ) (round round' : Round)
    → IsInHand each key header told left limit put round → round.intake.ended ≡ true
    → round'.intake ≡ round.intake → (round'.intake.ended ≡ true → round'.is_sealed ≡ true)
    → ((number : ℕ) → round.intake.blocks ≡ number + 1 → IsLast each key header told number round → IsLast each key header told number round')
    → IsPart each key header told (round'.intake.blocks - 1) true (take round'.filled round'.last.items)
last_at each key header told left limit put round round' was ended same sealed step =
    let one = one_if _ ended in
    let count = was.count in
    let chunks = ap (λ (i : Intake). i.blocks) same in
    let number : put + length round.held.items ≡ round'.intake.blocks - 1 = omega arith in
    let last = step (round'.intake.blocks - 1) (omega arith) (subst (λ (n : ℕ). IsLast each key header told n round) number (was.last ended)) in
    last.sealed (sealed (ap (λ (i : Intake). i.ended) same ∙ ended))

-- all blocks but the last were put
pub put_all_but : (each : ℕ) (key header : List ℕ) (told left : Option (List ℕ)) (limit put : ℕ) (round : Round)
    → IsInHand each key header told left limit put round → round.intake.ended ≡ true → length round.held.items ≡ 0 → round.intake.blocks - 1 ≡ put
put_all_but each key header told left limit put round was ended none_held =
    let one = one_if _ ended in
    let count = was.count in
    omega arith

pub not_ended : (size limit : ℕ) (left left' : Option (List ℕ)) (intake : Intake) → HasRead size limit left left' intake → intake.over ≡ true
    → intake.ended ≡ false
not_ended size limit left left' intake had over = elim (cases_Bool intake.ended) [
  | inl ended ↦ absurd (not_both _ over (not_long size limit left left' intake had ended))
  | inr going ↦ going
]

-- the first round couldn't be read, or memory for it was refused
pub rounds_first : (front key header : List ℕ) (told left taken : Option (List ℕ)) (limit group : ℕ) (failures failures' refusals refusals' : Option ℕ)
    (fault : SealFault) → (fault ≡ OutOfMemory) ⊎ (fault ≡ Read) → 0 < limit → ConsumesUpTo told left limit
    → failures' ≡ counted (read_failed {A = Unit {0}} (Err fault)) failures → refusals' ≡ refusals
    → HasSealedRounds front key header (limit - 1) group (io_view told failures taken refusals) (io_view left failures' taken refusals') (Err fault)
rounds_first front key header told left taken limit group failures failures' refusals refusals' OutOfMemory how some bound reads writes =
    rounds_memory front key header told left taken limit group failures failures' refusals refusals' some bound reads writes
rounds_first front key header told left taken limit group failures failures' refusals refusals' Read how some bound reads writes =
    rounds_read front key header told left taken taken limit group failures failures' refusals refusals' some bound (begun_none front key header told taken) reads writes
rounds_first front key header told left taken limit group failures failures' refusals refusals' fault how some bound reads writes =
    absurd (elim how [ inl e ↦ cc | inr e ↦ cc ])

-- the same with equal counts of failures
pub rounds_counts : (front front' key header : List ℕ) (most window : ℕ) (told left taken now : Option (List ℕ)) (failures failures' reads refusals refusals' writes : Option ℕ)
    (result : Result ℕ SealFault) → front' ≡ front → failures' ≡ failures → refusals' ≡ refusals
    → HasSealedRounds front' key header most window (io_view told failures' taken refusals') (io_view left reads now writes) result
    → HasSealedRounds front key header most window (io_view told failures taken refusals) (io_view left reads now writes) result
rounds_counts front front' key header most window told left taken now failures failures' reads refusals refusals' writes result e f g did =
    subst (λ (l : List ℕ). HasSealedRounds l key header most window (io_view told failures taken refusals) (io_view left reads now writes) result) e
    (subst (λ (n : Option ℕ). HasSealedRounds front' key header most window (io_view told n taken refusals) (io_view left reads now writes) result) f
    (subst (λ (n : Option ℕ). HasSealedRounds front' key header most window (io_view told failures' taken n) (io_view left reads now writes) result) g did))

-- some jobs of the only round are done
pub hand_alone : (each : ℕ) (key header : List ℕ) (told left : Option (List ℕ)) (limit number : ℕ) (first round : Round) → round.intake ≡ first.intake
    → first.intake.ended ≡ true → number + length round.held.items ≡ length first.held.items → AreJobs each header told number round.held.items
    → IsLast each key header told (length first.held.items) round → IsInHand each key header told left limit 0 first
    → IsInHand each key header told left limit number round
hand_alone each key header told left limit number first round same ended counts jobs last was =
    let one = one_if _ ended in
    let one' = same_if _ _ (ap (λ (i : Intake). i.ended) same) in
    let chunks = ap (λ (i : Intake). i.blocks) same in
    let count = was.count in
    let few = was.few in
    record {
      read = subst (HasRead (block each header) limit told left) (sym same) was.read;
      jobs = jobs;
      count = omega arith;
      few = omega arith;
      numbers = subst (λ (i : Intake). each * i.blocks ≤ 4294967295) (sym same) was.numbers;
      unsealed = λ going. absurd (not_both _ (ap (λ (i : Intake). i.ended) same ∙ ended) going);
      last = λ _. subst (λ (n : ℕ). IsLast each key header told n round) (sym counts) last;
    }

-- nothing was read
pub read_none : (each : ℕ) (key header : List ℕ) (told left : Option (List ℕ)) (plan : Plan) (round : Round) → IsInHand each key header told left plan.limit 0 round
    → round.held.items ≡ [] → plan.group ≤ deque_capacity round.held → round.intake.over ≡ false → IsRead each key header told left plan round
read_none each key header told left plan round was none_held room within = record {
  hand = was;
  few = let e = ap (λ (ts : List Task). length ts) none_held in omega arith;
  room = room;
  within = within;
}
