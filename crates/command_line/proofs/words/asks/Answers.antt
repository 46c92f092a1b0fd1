use Rattle.std.proofs.Common.{◌||◌, ap, sym, ◌∙◌, codes, nat_eq}
use Rattle.std.specs.List.{ends_with}
use Rattle.std.proofs.lemmas.Str.Pattern.{ends_text}
use Rattle.command_line.proofs.words.asks.Goals as goal

pub returns-else-eq : goal.returns-else-eq
returns-else-eq c =
    ends_text c.ends_with.result (codes "=auto") c.args.word.now c.ends_with.ensures.cases
    ∙ ap (λ b. b || ends_with nat_eq c.args.word.now (codes "=auto")) (sym c.if-eq.false ∙ c.eq.ensures)
