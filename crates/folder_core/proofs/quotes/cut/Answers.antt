use Rattle.std.proofs.Common.{rules, ◌∙◌, ap, drop}
use Rattle.std.proofs.lemmas.Str.{utf8_valid_len-IsUtf8}
use Rattle.std.proofs.lemmas.List.{take_all}
use Rattle.std.specs.Str.Lossy.{utf8_valid_len}
use Rattle.folder_core.proofs.Shown.{cut_at}
use Rattle.folder_core.proofs.quotes.cut.Goals as goal

pub returns-in-Ok-clause-front : goal.returns-in-Ok-clause-front
returns-in-Ok-clause-front c = search (rules, utf8_valid_len-IsUtf8, take_all)

pub returns-in-Ok-clause-back : goal.returns-in-Ok-clause-back
returns-in-Ok-clause-back c = search (rules, utf8_valid_len-IsUtf8)

pub returns-in-Some-clause-back : goal.returns-in-Some-clause-back
returns-in-Some-clause-back c =
    let bytes = c.args.bytes.now in
    cut_at bytes _ c.in-Some.more.now c.in-Some.byte.now (utf8_valid_len bytes)
    (c.split_at.ensures.back ∙ ap (λ n. drop n bytes) (c.valid_up_to.ensures ∙ c.in-Err.ensures.valid_len)) c.in-Some.ensures.cases
