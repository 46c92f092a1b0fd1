-- The words of the line are the words of the range line that it is assumed to be.
use Rattle.std.proofs.Common.{◌≡◌, sym, ap, ◌∙◌, subst, arith, codes, Some}
use Rattle.journal_core.specs.Range.{IsLawfulRange}
use Rattle.journal_core.proofs.Lines.{range_no_space, terms_split, four_small, refused_range, made_range, same_range, same_terms}
use Rattle.journal_core.proofs.Books.{is_false}
use Rattle.journal_core.proofs.line.terms_in.Goals as goal
use Rattle.journal_core.proofs.line.terms_in.Goals.{then-seats-eq0-via-then-seats-eq0, then-seats-eq0-via-else-seats-eq0+then-seats-gt-MAX_SEATS}

pub returns-in_err-word-clause-complete : goal.returns-in_err-word-clause-complete
returns-in_err-word-clause-complete c = λ terms lawful is. absurd (c.in_err-word.ensures.complete (codes "range") _ range_no_space (is ∙ terms_split terms))

pub returns-then-not-is_word-clause-complete : goal.returns-then-not-is_word-clause-complete
returns-then-not-is_word-clause-complete c = λ terms lawful is.
    let word = c.in_ok-word.ensures.complete (codes "range") _ range_no_space (is ∙ terms_split terms) in
    absurd (is_false _ c.if-not-is_word.true (c.is_word.ensures.1 word.0))

pub returns-in_err-device-clause-complete : goal.returns-in_err-device-clause-complete
returns-in_err-device-clause-complete c = λ terms lawful is.
    let few = four_small terms lawful in
    let word = c.in_ok-word.ensures.complete (codes "range") _ range_no_space (is ∙ terms_split terms) in
    absurd (c.in_err-device.ensures.complete terms.range.device _ few.device word.1)

pub returns-in_err-lo-clause-complete : goal.returns-in_err-lo-clause-complete
returns-in_err-lo-clause-complete c = λ terms lawful is.
    let few = four_small terms lawful in
    let word = c.in_ok-word.ensures.complete (codes "range") _ range_no_space (is ∙ terms_split terms) in
    let device = c.in_ok-device.ensures.complete terms.range.device _ few.device word.1 in
    absurd (c.in_err-lo.ensures.complete terms.range.lo _ few.lo device.1)

pub returns-in_err-size-clause-complete : goal.returns-in_err-size-clause-complete
returns-in_err-size-clause-complete c = λ terms lawful is.
    let few = four_small terms lawful in
    let word = c.in_ok-word.ensures.complete (codes "range") _ range_no_space (is ∙ terms_split terms) in
    let device = c.in_ok-device.ensures.complete terms.range.device _ few.device word.1 in
    let lo = c.in_ok-lo.ensures.complete terms.range.lo _ few.lo device.1 in
    absurd (c.in_err-size.ensures.complete terms.range.size _ few.size lo.1)

pub returns-in_err-seats-clause-complete : goal.returns-in_err-seats-clause-complete
returns-in_err-seats-clause-complete c = λ terms lawful is.
    let few = four_small terms lawful in
    let word = c.in_ok-word.ensures.complete (codes "range") _ range_no_space (is ∙ terms_split terms) in
    let device = c.in_ok-device.ensures.complete terms.range.device _ few.device word.1 in
    let lo = c.in_ok-lo.ensures.complete terms.range.lo _ few.lo device.1 in
    let size = c.in_ok-size.ensures.complete terms.range.size _ few.size lo.1 in
    let none = c.in_err-seats.ensures.complete terms.seats few.seats size.1 in absurd (cc)

pub returns-in_err-device-2-clause-complete : goal.returns-in_err-device-2-clause-complete
returns-in_err-device-2-clause-complete c = λ terms lawful is.
    let few = four_small terms lawful in
    let word = c.in_ok-word.ensures.complete (codes "range") _ range_no_space (is ∙ terms_split terms) in
    let device = c.in_ok-device.ensures.complete terms.range.device _ few.device word.1 in
    let lo = c.in_ok-lo.ensures.complete terms.range.lo _ few.lo device.1 in
    let size = c.in_ok-size.ensures.complete terms.range.size _ few.size lo.1 in
    let range = lawful.range in absurd (c.in_err-device-2.ensures (omega arith))

pub returns-in_err-range-clause-complete : goal.returns-in_err-range-clause-complete
returns-in_err-range-clause-complete c = λ terms lawful is.
    let few = four_small terms lawful in
    let word = c.in_ok-word.ensures.complete (codes "range") _ range_no_space (is ∙ terms_split terms) in
    let device = c.in_ok-device.ensures.complete terms.range.device _ few.device word.1 in
    let lo = c.in_ok-lo.ensures.complete terms.range.lo _ few.lo device.1 in
    let size = c.in_ok-size.ensures.complete terms.range.size _ few.size lo.1 in
    let asked = same_range terms.range c.in_ok-device-2.device c.in_ok-lo.lo c.in_ok-size.size (c.in_ok-device-2.ensures.1 ∙ device.0) lo.0 size.0 in
    absurd (refused_range c.new-2.result _ c.new-2.ensures c.in_err-range.ensures.value (subst IsLawfulRange (sym asked) lawful.range))

pub returns-then-seats-eq0-clause-complete : goal.returns-then-seats-eq0-clause-complete
returns-then-seats-eq0-clause-complete c = λ terms lawful is.
    let few = four_small terms lawful in
    let word = c.in_ok-word.ensures.complete (codes "range") _ range_no_space (is ∙ terms_split terms) in
    let device = c.in_ok-device.ensures.complete terms.range.device _ few.device word.1 in
    let lo = c.in_ok-lo.ensures.complete terms.range.lo _ few.lo device.1 in
    let size = c.in_ok-size.ensures.complete terms.range.size _ few.size lo.1 in
    let seats = c.in_ok-seats.ensures.complete terms.seats few.seats size.1 in
    let seats_are : c.in_ok-seats.seats ≡ terms.seats = cc in
    let some_seats = lawful.some_seats in
    let few_seats = lawful.few_seats in
    elim c.then-seats-eq0.branch [ then-seats-eq0-via-then-seats-eq0 w ↦ absurd (omega arith) | then-seats-eq0-via-else-seats-eq0+then-seats-gt-MAX_SEATS w ↦ absurd (omega arith) ]

pub returns-clause-complete : goal.returns-clause-complete
returns-clause-complete c = λ terms lawful is.
    let few = four_small terms lawful in
    let word = c.in_ok-word.ensures.complete (codes "range") _ range_no_space (is ∙ terms_split terms) in
    let device = c.in_ok-device.ensures.complete terms.range.device _ few.device word.1 in
    let lo = c.in_ok-lo.ensures.complete terms.range.lo _ few.lo device.1 in
    let size = c.in_ok-size.ensures.complete terms.range.size _ few.size lo.1 in
    let seats = c.in_ok-seats.ensures.complete terms.seats few.seats size.1 in
    let seats_are : c.in_ok-seats.seats ≡ terms.seats = cc in
    let asked = same_range terms.range c.in_ok-device-2.device c.in_ok-lo.lo c.in_ok-size.size (c.in_ok-device-2.ensures.1 ∙ device.0) lo.0 size.0 in
    ap (λ t. Some t) (same_terms terms _ _ (made_range c.new-2.result _ _ c.new-2.ensures c.in_ok-range.ensures.value ∙ asked) seats_are)
