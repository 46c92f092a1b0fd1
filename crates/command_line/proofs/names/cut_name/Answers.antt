use Rattle.std.proofs.Common.{Some, None, ◌≢◌, ◌∷◌, length, rules, arith, ap, length-append}
use Rattle.std.proofs.lemmas.List.Elements.{All-from_get_or}
use Rattle.std.proofs.lemmas.Str.Pattern.{split_parts}
use Rattle.command_line.proofs.names.cut_name.Goals as goal

pub returns-in-Some : goal.returns-in-Some
returns-in-Some c =
    let parts = split_parts c.args.separator c.args.text.now (Some (c.in-Some.before, c.in-Some.after)) c.in-Some.ensures.cases c.requires in
    record {
      whole = parts.0;
      apart = All-from_get_or (λ byte. byte ≢ c.args.separator) c.in-Some.before.now 0 parts.1;
      shorter = omega (arith, ap length parts.0, length-append c.in-Some.before.now (c.args.separator ∷ c.in-Some.after.now));
      none = search rules;
    }

pub returns-in-None : goal.returns-in-None
returns-in-None c =
    let lacks = split_parts c.args.separator c.args.text.now None c.in-None.ensures.cases c.requires in
    record { whole = tt; apart = tt; shorter = tt; none = λ _. All-from_get_or (λ byte. byte ≢ c.args.separator) c.args.text.now 0 lacks }
