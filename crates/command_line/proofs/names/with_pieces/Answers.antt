use Rattle.std.proofs.Common.{rules, ◌≢◌, arith, map, string_bytes}
use Rattle.std.specs.List.{All}
use Rattle.command_line.proofs.Pieces.{one-more, all-cut, last-piece}
use Rattle.command_line.proofs.names.with_pieces.Goals as goal

pub pieces-preserved : goal.pieces-preserved
pieces-preserved c =
    one-more c.args.separator c.args.list.now c.pieces.rest.now c.in-Some.more.now (map string_bytes c.args.shown.items) (map string_bytes c.pieces.shown.items)
    (map string_bytes c.push_quoted.new.shown.items) c.in-Some.piece.now c.pieces.invariant c.in-Some.ensures.whole c.in-Some.ensures.apart c.in_ok-push_quoted.ensures.name

pub returns-then-is_empty-clause-files : goal.returns-then-is_empty-clause-files
returns-then-is_empty-clause-files c =
    all-cut c.args.separator c.args.list.now c.pieces.rest.now (map string_bytes c.args.shown.items) (map string_bytes c.pieces.shown.items) c.pieces.invariant (search (rules, arith))

pub returns-clause-files : goal.returns-clause-files
returns-clause-files c =
    let lacks : All (λ byte. byte ≢ c.args.separator) c.pieces.rest.now = c.in_default.ensures.none (search rules) in
    last-piece c.args.separator c.args.list.now c.pieces.rest.now (map string_bytes c.args.shown.items) (map string_bytes c.pieces.shown.items)
    (map string_bytes c.push_quoted-2.new.shown.items) c.pieces.invariant (search rules) lacks c.in_ok-push_quoted-2.ensures.name
