use Rattle.std.proofs.Common.{rules, ◌≢◌, ◌∙◌, ◌++◌, ap}
use Rattle.std.specs.List.{All}
use Rattle.command_line.proofs.Ended.{texts, one-more, last-name}
use Rattle.command_line.specs.Names.{each_ended, IsName}
use Rattle.command_line.proofs.names.names_in.Goals as goal

pub names-preserved : goal.names-preserved
names-preserved c =
    let named : IsName c.args.separator c.in-Some.name.now = (search rules, c.in-Some.ensures.apart) in
    let so_far = c.names.invariant in
    let more = one-more c.args.separator c.args.text.now c.in-Some.more.now c.names.names.items c.in-Some.name so_far.1
    (so_far.2 ∙ ap (λ l. each_ended c.args.separator (texts c.names.names.items) ++ l) c.in-Some.ensures.whole) named in
    rw c.in-Ok.ensures.items (search rules, more.0, more.1)

pub returns-in-Ok-push : goal.returns-in-Ok-push
returns-in-Ok-push c =
    let lacks : All (λ byte. byte ≢ c.args.separator) c.names.rest.now = c.in_default.ensures.none (search rules) in
    let named : IsName c.args.separator c.names.rest.now = (search rules, lacks) in
    let so_far = c.names.invariant in
    rw c.in-Ok-push.ensures.items record {
      names = last-name c.args.separator c.args.text.now c.names.names.items c.names.rest so_far.1 so_far.2 named;
    }
