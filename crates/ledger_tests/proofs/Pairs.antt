-- After two seats of a ledger change, they are still its seats, if each is still the same seat.
use Rattle.std.proofs.Common.{◌≡◌, ℕ, ◌-◌, ◌<◌, List, ◌++◌, length, get_or, set, refl, sym, ap, ◌∙◌, subst, arith, length-append}
use Rattle.std.proofs.lemmas.List.{set-append_left, set-append_right, get_or_append_left, get_or-append_right}
use Rattle.ledger_core.specs.Shared.{LedgerView, SeatView, IsSameSeat}
use Rattle.ledger_core.specs.Closing.{AreAllSeats}
use Rattle.ledger_core.proofs.Callers.{all_after}

pub all_after_two : (ledger : LedgerView) (seats front back : List SeatView) (i : ℕ) (a b x y : SeatView) → AreAllSeats ledger seats → seats ≡ front ++ back → i < length front → 0 < length back
    → a ≡ get_or front i a → b ≡ get_or back 0 b → IsSameSeat (get_or front i a) x → IsSameSeat (get_or back 0 b) y → AreAllSeats ledger (set front i x ++ set back 0 y)
all_after_two ledger seats front back i a b x y all is inside some at_a at_b same_a same_b =
    let whole : AreAllSeats ledger (front ++ back) = subst (AreAllSeats ledger) is all in
    let sizes = length-append front back in
    let one : AreAllSeats ledger (set (front ++ back) i x) = all_after ledger (front ++ back) i a x whole (omega arith) (at_a ∙ sym (get_or_append_left front back a i inside)) (subst (λ (v : SeatView). IsSameSeat v x) (sym at_a) same_a) in
    let first : AreAllSeats ledger (set front i x ++ back) = subst (AreAllSeats ledger) (set-append_left front back i x inside) one in
    let xs : List SeatView = set front i x in
    let n : ℕ = length xs in
    let more = length-append xs back in
    let there : get_or (xs ++ back) n b ≡ get_or back (n - n) b = get_or-append_right xs back n n b refl (omega arith) in
    let none : n - n ≡ 0 = omega arith in
    let two : AreAllSeats ledger (set (xs ++ back) n y) = all_after ledger (xs ++ back) n b y first (omega arith) (at_b ∙ sym (there ∙ ap (λ j. get_or back j b) none)) (subst (λ (v : SeatView). IsSameSeat v y) (sym at_b) same_b) in
    subst (AreAllSeats ledger) (set-append_right xs back n n y refl (omega arith) ∙ ap (λ j. xs ++ set back j y) none) two
