use Rattle.std.proofs.Common.{◌≡◌, ◌<◌, ◌≢◌, length, get_or, subst, sym, ap, ◌∙◌, arith, IfSome}
use Rattle.std.specs.Fmt.{decimal}
use Rattle.std.proofs.lemmas.Grind.{common_steps}
use Rattle.journal_core.proofs.Numbers.{number_sound, number_complete, not_empty, not_signed, not_padded}
use Rattle.journal_core.proofs.line.number.Goals as goal

pub returns-clause-sound : goal.returns-clause-sound
returns-clause-sound c =
    let bytes = c.as_bytes-bytes.ensures.value in
    let some : 0 < length c.args.text.now = grind (arith, common_steps) in
    let plus : get_or c.args.text.now 0 0 ≢ 43 = λ is. c.if-first-eq43.false (ap (λ l. get_or l 0 0) bytes ∙ is) in
    let zero : get_or c.args.text.now 0 0 ≡ 48 → length c.args.text.now ≡ 1 = grind (arith, common_steps) in
    subst (λ r. IfSome r (λ n. c.args.text.now ≡ decimal n)) (sym c.ok.ensures.value) (number_sound c.args.text.now c.parse.result some plus zero c.parse.ensures.value.0)

pub returns-then-is_empty-clause-complete : goal.returns-then-is_empty-clause-complete
returns-then-is_empty-clause-complete c = λ n small is. absurd (not_empty c.args.text.now n small is (grind (arith, common_steps)))

pub returns-then-first-eq43-clause-complete : goal.returns-then-first-eq43-clause-complete
returns-then-first-eq43-clause-complete c = λ n small is. absurd (not_signed c.args.text.now n small is (ap (λ l. get_or l 0 0) (sym c.as_bytes-bytes.ensures.value) ∙ c.if-first-eq43.true))

pub returns-then-bytes-gt1-clause-complete : goal.returns-then-bytes-gt1-clause-complete
returns-then-bytes-gt1-clause-complete c = λ n small is.
    absurd (not_padded c.args.text.now n small is (ap (λ l. get_or l 0 0) (sym c.as_bytes-bytes.ensures.value) ∙ c.if-first-eq48.true) (grind (arith, common_steps)))

pub returns-clause-complete : goal.returns-clause-complete
returns-clause-complete c = λ n small is. c.ok.ensures.value ∙ number_complete c.args.text.now c.parse.result n small is c.parse.ensures.value.0
