use Rattle.std.proofs.Common.{◌∷◌, ◌++◌, ap, sym, ◌∙◌, decimal}
use Rattle.command_line.proofs.Written.{read_inline, read_value, read_as_it_is}
use Rattle.command_line.proofs.words.word_read.Goals as goal

pub returns-in-Some : goal.returns-in-Some
returns-in-Some c =
    c.in_ok-text.ensures.ok ∙ ap (λ name. name ++ 61 ∷ decimal c.in-Some.number) c.in-Some.ensures.name
    ∙ sym (read_inline c.args.processors c.args.most c.in-Some.number c.args.before c.args.word.now (sym c.in-Some.ensures.number))

pub returns-in_ok-text-in-Some-stands_for : goal.returns-in_ok-text-in-Some-stands_for
returns-in_ok-text-in-Some-stands_for c =
    c.in_ok-text-in-Some-stands_for.ensures.ok
    ∙ sym (read_value c.args.processors c.args.most c.in-Some-stands_for.number c.args.before c.args.word.now (sym c.in_default.ensures.number) (sym c.in-Some-stands_for.ensures))

pub returns-in-None : goal.returns-in-None
returns-in-None c =
    sym (read_as_it_is c.args.processors c.args.most c.args.before c.args.word.now (sym c.in_default.ensures.number) (sym c.in-None.ensures))
