use Rattle.std.proofs.Common.{◌≡◌, ◌-◌, rules, drop, length, sym, arith}
use Rattle.std.proofs.lemmas.List.{drop_all, length-drop, take_all}
use Rattle.system_files.proofs.seen.label_of.Goals as goal

pub returns-then-header-gt25-clause-value : goal.returns-then-header-gt25-clause-value
returns-then-header-gt25-clause-value c =
    let left = length-drop 25 c.args.header.now in
    take_all (length c.args.header.now - 25) (drop 25 c.args.header.now) (omega (arith, left))

pub returns-else-header-gt25-clause-value : goal.returns-else-header-gt25-clause-value
returns-else-header-gt25-clause-value c = sym (drop_all 25 c.args.header.now (search rules))
