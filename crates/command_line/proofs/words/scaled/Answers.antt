use Rattle.std.proofs.Common.{arith, ◌≡◌, Some, Ok, Err, ℕ, ◌-◌, ◌*◌, length, get_or, ap, ap₂, sym, ◌∙◌, take}
use Rattle.command_line.specs.Given.{numeral_value}
use Rattle.command_line.specs.Words.{is_numeral, unit_of}
use Rattle.command_line.proofs.Written.{parsed, scaled_empty, scaled_no_unit, scaled_no_number, scaled_is}
use Rattle.command_line.proofs.words.scaled.Goals as goal

pub returns-in_default : goal.returns-in_default
returns-in_default c = sym (scaled_empty c.args.text.now (omega (arith, c.in_default.ensures)))

pub returns-in_default-unit_of : goal.returns-in_default-unit_of
returns-in_default-unit_of c =
    let last : length c.args.text.now - 1 ≡ c.in-Some.last = omega (arith, c.in-Some.ensures) in
    let at : get_or c.args.text.now (length c.args.text.now - 1) 0 ≡ get_or c.as_bytes.result.now c.in-Some.last 0 =
    ap₂ (λ l i. get_or l i 0) (sym c.as_bytes.ensures.value) last in
    sym (scaled_no_unit c.args.text.now (ap unit_of at ∙ sym c.in_default-unit_of.ensures.unit))

pub returns-in-Ok : goal.returns-in-Ok
returns-in-Ok c =
    let text = c.args.text.now in
    let digits = c.in-Some-split_at_checked.digits.now in
    let last : length text - 1 ≡ c.in-Some.last = omega (arith, c.in-Some.ensures) in
    let at : get_or text (length text - 1) 0 ≡ get_or c.as_bytes.result.now c.in-Some.last 0 =
    ap₂ (λ l i. get_or l i 0) (sym c.as_bytes.ensures.value) last in
    let front : digits ≡ take (length text - 1) text = c.in-Some-split_at_checked.ensures.front ∙ ap (λ n. take n text) (sym last) in
    let read = parsed {E = ℕ} digits (Ok c.in-Ok.number) c.in-Ok.ensures.value.0 in
    ap Some (ap₂ (λ n unit. n * unit) c.from.ensures c.from-in-Ok.ensures)
    ∙ sym (scaled_is text c.in-Ok.number c.in-Some-unit_of.unit (ap is_numeral (sym front) ∙ read.0) (read.1 ∙ ap numeral_value front)
    (ap unit_of at ∙ sym c.in-Some-unit_of.ensures.unit))

pub returns-in-Err : goal.returns-in-Err
returns-in-Err c =
    let text = c.args.text.now in
    let digits = c.in-Some-split_at_checked.digits.now in
    let last : length text - 1 ≡ c.in-Some.last = omega (arith, c.in-Some.ensures) in
    let front : digits ≡ take (length text - 1) text = c.in-Some-split_at_checked.ensures.front ∙ ap (λ n. take n text) (sym last) in
    sym (scaled_no_number text (ap is_numeral (sym front) ∙ parsed digits (Err c.in-Err.field-0) c.in-Err.ensures.value.0))
