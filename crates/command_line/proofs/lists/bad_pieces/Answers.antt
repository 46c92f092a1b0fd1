use Rattle.std.proofs.Common.{rules, arith, ◌≢◌, ◌+◌, ◌≤◌, length, refl, map}
use Rattle.std.specs.List.{All}
use Rattle.command_line.proofs.Bad.{seen, one-more, last-piece}
use Rattle.command_line.proofs.lists.bad_pieces.Goals as goal

pub pieces-preserved : goal.pieces-preserved
pieces-preserved c =
    let within : c.pieces.number + 1 + length c.in-Some.more.now ≤ 1 + length c.args.list.now =
    omega (arith, c.pieces.invariant.1, c.in-Some.ensures.shorter) in (
      one-more c.args.separator c.args.list.now c.pieces.rest.now c.in-Some.more.now c.pieces.number (c.pieces.number + 1) (map seen c.pieces.bad.items)
          (map seen c.push_bad.new.bad.items) c.in-Some.piece.now c.pieces.invariant.0 c.in-Some.ensures.whole c.in-Some.ensures.apart refl c.in_ok-push_bad.ensures.bad,
      within,
    )

pub returns-clause-bad : goal.returns-clause-bad
returns-clause-bad c =
    let lacks : All (λ byte. byte ≢ c.args.separator) c.pieces.rest.now = c.in_default.ensures.none (search rules) in
    last-piece c.args.separator c.args.list.now c.pieces.rest.now c.pieces.number (map seen c.pieces.bad.items) (map seen c.push_bad-2.new.bad.items)
    c.pieces.invariant.0 (search rules) lacks c.in_ok-push_bad-2.ensures.bad
