use Rattle.std.proofs.Common.{Some, None, ◌≢◌, ◌∷◌, length, rules, arith, ap, length-append}
use Rattle.std.proofs.lemmas.List.Elements.{All-from_get_or}
use Rattle.std.proofs.lemmas.Str.Pattern.{split_parts}
use Rattle.folder_core.proofs.trees.first_part.Goals as goal

pub returns-in-Some : goal.returns-in-Some
returns-in-Some c =
    let parts = split_parts 47 c.args.path.now (Some (c.in-Some.part, c.in-Some.rest)) c.in-Some.ensures.cases (omega arith) in
    record {
      whole = parts.0;
      apart = All-from_get_or (λ byte. byte ≢ 47) c.in-Some.part.now 0 parts.1;
      shorter = omega (arith, ap length parts.0, length-append c.in-Some.part.now (47 ∷ c.in-Some.rest.now));
      none = search rules;
    }

pub returns-in-None : goal.returns-in-None
returns-in-None c =
    let lacks = split_parts 47 c.args.path.now None c.in-None.ensures.cases (omega arith) in
    record { whole = tt; apart = tt; shorter = tt; none = λ _. All-from_get_or (λ byte. byte ≢ 47) c.args.path.now 0 lacks }
