use Rattle.std.proofs.Common.{rules, ◌≡◌, ◌<◌, ◌++◌, ◌∷◌, [], length, map, take, get_or, None, ap, sym, ◌∙◌, arith}
use Rattle.std.proofs.Common.{get_or-set_other}
use Rattle.std.proofs.lemmas.List.{get_or-map, length-map}
use Rattle.std.proofs.lemmas.List.Elements.{All-set}
use Rattle.worker_core.specs.Answer.{joined}
use Rattle.worker_core.specs.Rooms.{shown, HasRoom}
use Rattle.worker_core.proofs.AppendLemmas.{appended-more, appended-some, at-error}
use Rattle.worker_core.proofs.append.move_pieces.Goals as goal

pub moving-preserved : goal.moving-preserved
moving-preserved c =
    let before = c.moving.invariant in
    let old = c.args.pieces.now.items in
    let now = c.moving.pieces.items in
    let n = c.moving.number in
    let piece = c.index_mut.result.now in
    let at : n < length old = search rules in
    let found : piece ≡ get_or now n piece = search rules in
    let is = ap shown (found ∙ before.rest n piece (omega arith)) ∙ sym (get_or-map shown old n piece None at) in
    let more : c.move_piece.new.out ≡ c.moving.out ++ joined (shown piece ∷ []) = search rules in
    record {
      count = before.count;
      room = All-set (HasRoom c.args.size) now n c.move_piece.new.piece c.move_piece.ensures.room before.room;
      bytes = appended-more (map shown old) n (shown piece) c.args.out.now c.moving.out c.move_piece.new.out
          (omega (arith, at, length-map old shown)) is before.bytes more;
      rest = λ k d past. get_or-set_other now n k c.move_piece.new.piece d (λ same. omega (arith, past, same)) ∙ before.rest k d (omega (arith, past));
    }

pub returns-in_err-move_piece-clause-kept : goal.returns-in_err-move_piece-clause-kept
returns-in_err-move_piece-clause-kept c =
    let moved : c.move_piece.new.out ≡ c.args.out.now ++ joined (take c.moving.number (map shown c.args.pieces.now.items)) =
    c.in_err-move_piece.ensures.kept ∙ c.moving.invariant.bytes in
    at-error c.from_residual.result _
    (appended-some (map shown c.args.pieces.now.items) c.moving.number c.args.count c.args.out.now c.move_piece.new.out
    (search rules) moved)
