use Rattle.std.proofs.Common.{rules, ◌∷◌, [], ◌<◌, ◌+◌, ℕ, List, map, refl, subst, sym, ap, ◌∙◌, arith, length, length-append}
use Rattle.worker_core.specs.Pieces.{number_of, piece_of}
use Rattle.worker_core.specs.Views.{MadeView}
use Rattle.claim_core.specs.Claims.{times}
use Rattle.worker_core.proofs.Making.{all_below_more, worked_more, worked_none}
use Rattle.worker_core.proofs.workers.work_alone.Goals as goal

pub making-init : goal.making-init
making-init g c = record {
  all = λ n below. absurd (omega arith);
  count = ap length c.requires.ready.made;
  worked = worked_none _ _ c.requires.ready;
}

pub making-preserved : goal.making-preserved
making-preserved g c =
    let before = c.making.invariant in
    let round = c.args.round.now in
    let n = c.making.number in
    let more = all_below_more c.making.bench.made (piece_of round n) n refl before.all in
    record {
      all = subst (λ (made : List MadeView). (x : ℕ) → x < n + 1 → 0 < times x (map number_of made)) (sym c.make.ensures.made) more;
      count = let long = ap length c.make.ensures.made ∙ length-append c.making.bench.made (piece_of round n ∷ []) in let was = before.count in omega arith;
      worked = worked_more round c.args.bench.now c.making.bench c.make.new.self n (search rules) c.make.ensures.made c.make.ensures.spare c.make.ensures.size before.worked;
    }
