use Rattle.std.proofs.Common.{rules, ◌++◌, ◌∷◌, [], ℕ, List, map, sym, ap, ◌∙◌}
use Rattle.claim_core.specs.Claims.{ClaimantView}
use Rattle.worker_core.specs.Pieces.{number_of, piece_of}
use Rattle.worker_core.proofs.Making.{worked_more, worked_none, numbers_append}
use Rattle.worker_core.proofs.workers.work.Goals as goal

pub drawing-init : goal.drawing-init
drawing-init g c = record {
  ours = search rules;
  workers = search rules;
  ends = search rules;
  drawn = ap (λ (v : ClaimantView). v.drawn) c.requires.new ∙ ap (map number_of) (sym c.requires.ready.made);
  worked = worked_none _ _ c.requires.ready;
}

pub drawing-preserved : goal.drawing-preserved
drawing-preserved g c =
    let before = c.drawing.invariant in
    let round = c.args.round.now in
    let n = c.in-Some.number in
    let drew = c.in-Some.ensures.some in
    record {
      ours = search rules;
      workers = ap (λ (v : ClaimantView). v.workers) drew ∙ before.workers;
      ends = ap (λ (v : ClaimantView). v.ends) drew ∙ before.ends;
      drawn = ap (λ (v : ClaimantView). v.drawn) drew ∙ ap (λ (l : List ℕ). l ++ n ∷ []) before.drawn
          ∙ sym (numbers_append c.drawing.bench.made (piece_of round n ∷ [])) ∙ ap (map number_of) (sym c.make.ensures.made);
      worked = worked_more round c.args.bench.now c.drawing.bench c.make.new.self n (search rules) c.make.ensures.made c.make.ensures.spare c.make.ensures.size before.worked;
    }
