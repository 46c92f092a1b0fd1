-- An output that waited is in hand, and is closed at its place.
use Rattle.std.proofs.Common.{◌≡◌, ◌≢◌, ◌∙◌, ℕ, Bool, true, false, List, [], Option, None, Some, sym, ap, subst}
use Rattle.std.specs.Prelude.{IfSome, Result, Ok, Err}
use Rattle.container_core.specs.declared.fault.SealFault.{SealFault}
use Rattle.container_core.specs.declared.fault.SealFault.TheVariants as sealing_fault
use Rattle.io_core.specs.Streams.{Appends, AppendsFront, IsFront, Keeps, counted}
use Rattle.folder_core.specs.Record.{Content, Finished, GivenUp, RunRecord, State}
use Rattle.folder_core.specs.Changes.{Becomes, Closes, IsFresh, allowed, closed}
use Rattle.command_core.specs.declared.line.FileFault.TheVariants.{Unsealed}
use Rattle.command_core.specs.declared.line.FileOutcome.{FileOutcome}
use Rattle.command_core.specs.declared.line.FileOutcome.TheVariants.{Failed, Sealed}
use Rattle.command_core.specs.Putting.{once_if}
use Rattle.command_core.proofs.Puts.{all_front, count_is}
use Rattle.sealer_core.specs.Group.{ClosesBy, IsPut, OutputEndsBy, filled}
use Rattle.sealer_core.specs.Sealing.{IsOfSealing}

-- an outcome of sealing
pub of_sealing : (sealed : Result ℕ SealFault) (number : ℕ) (outcome : FileOutcome) → sealed ≢ Err sealing_fault.TooManyChunks → OutputEndsBy sealed number outcome
    → IsOfSealing outcome
of_sealing (Ok bytes) number (Sealed n m) few ends = tt
of_sealing (Ok bytes) number outcome few ends = subst IsOfSealing (sym ends) (λ is. cc)
of_sealing (Err fault) number (Sealed n m) few ends = absurd (cc)
of_sealing (Err fault) number outcome few ends = subst IsOfSealing (sym ends) (λ is. few (ap Err is))

-- of one whose sealing failed
pub spoil_outcome : (fault : SealFault) (number : ℕ) (outcome : FileOutcome) → OutputEndsBy (Err fault) number outcome → outcome ≡ Failed (Unsealed fault)
spoil_outcome fault number (Sealed n m) ends = ends
spoil_outcome fault number outcome ends = ends

-- what was taken by one that was empty
pub held_is : (start taken : Option (List ℕ)) (held bytes : List ℕ) → start ≡ Some [] → taken ≡ Some held → Appends start taken bytes → held ≡ bytes
held_is start taken held bytes empty some grew =
    subst (λ o. Appends (Some []) o bytes) some (subst (λ o. Appends o taken bytes) empty grew)

module _ (place : ℕ) (content : Content) (start taken : Option (List ℕ)) (zero failures : Option ℕ)
    (before ready written after : Option RunRecord) (may : Becomes (allowed place content) before ready) (fresh : IsFresh ready start zero)
    (same : written ≡ ready)
  where
    -- it was closed so
    abbrev IsFilled : State → Option ℕ → Option RunRecord → Type 0
    IsFilled state failures after = IfSome after (λ _. (held : List ℕ) × (n : ℕ) × (start ≡ Some []) × (zero ≡ Some 0) × (taken ≡ Some held) × (failures ≡ Some n)
        × Becomes (filled place content state held n) before after)

    fills : (state : State) (failures : Option ℕ) (after : Option RunRecord) → Closes state written taken failures after → IsFilled state failures after
    fills state failures None closes = tt
    fills state failures (Some r) (was, held, n, known, took, count, is) =
        let now : ready ≡ Some was = sym same ∙ known in
        let both : (start ≡ Some []) × (zero ≡ Some 0) = subst (λ o. IsFresh o start zero) now fresh in
        let (first, first_is, begun) = subst (Becomes (allowed place content) before) now may in
        (held, n, both.0, both.1, took, count, (first, first_is, is ∙ ap (closed state held n) begun))

    -- with all of these bytes
    filled_with : (state : State) (failed : Bool) (bytes : List ℕ) (failures : Option ℕ) → Appends start taken bytes
        → failures ≡ counted failed zero → Closes state written taken failures after
        → Becomes (filled place content state bytes (once_if failed)) before after
    filled_with state failed bytes failures grew count closes = by after (fills state failures after closes)
      where
        by : (after : Option RunRecord) → IsFilled state failures after → Becomes (filled place content state bytes (once_if failed)) before after
        by None known = tt
        by (Some r) (held, n, empty, nil, some, many, came) =
            subst (λ b. Becomes (filled place content state b (once_if failed)) before (Some r))
            (held_is start taken held bytes empty some grew)
            (subst (λ m. Becomes (filled place content state held m) before (Some r)) (count_is failed zero failures n nil many count) came)

    -- with a prefix of them, after a failed write
    filled_front : (bytes : List ℕ) (failures : Option ℕ) → AppendsFront start taken bytes → failures ≡ counted true zero → Closes GivenUp written taken failures after
        → IfSome after (λ _. (held : List ℕ) × IsFront held bytes × Becomes (filled place content GivenUp held 1) before after)
    filled_front bytes failures (front, is, grew) count closes = by after (fills GivenUp failures after closes)
      where
        by : (after : Option RunRecord) → IsFilled GivenUp failures after
            → IfSome after (λ _. (held : List ℕ) × IsFront held bytes × Becomes (filled place content GivenUp held 1) before after)
        by None known = tt
        by (Some r) (held, n, empty, nil, some, many, came) = (
          held,
          subst (λ b. IsFront b bytes) (sym (held_is start taken held front empty some grew)) is,
          subst (λ m. Becomes (filled place content GivenUp held m) before (Some r)) (count_is true zero failures n nil many count) came,
        )

    -- all was written
    pub put_ends : (bytes : List ℕ) (number long : ℕ) (outcome : FileOutcome) → Appends start taken bytes → failures ≡ counted false zero
        → OutputEndsBy (Ok long) number outcome → ClosesBy (Ok long) outcome written taken failures after
        → IsPut place content bytes number long outcome before after
    put_ends bytes number long (Sealed n m) grew count (same_number, same_long) closes =
        (same_number, same_long, filled_with Finished false bytes failures grew count closes)
    put_ends bytes number long outcome grew count end closes =
        (end, filled_front bytes (counted true failures) (all_front start taken bytes grew) (ap (counted true) count) closes)

    -- a write failed
    pub put_fails : (bytes : List ℕ) (number long : ℕ) (outcome : FileOutcome) → AppendsFront start taken bytes → failures ≡ counted true zero
        → OutputEndsBy (Err sealing_fault.Write) number outcome → ClosesBy (Err sealing_fault.Write) outcome written taken failures after
        → IsPut place content bytes number long outcome before after
    put_fails bytes number long (Sealed n m) grew count end closes = absurd (cc)
    put_fails bytes number long outcome grew count end closes = (end, filled_front bytes failures grew count closes)

    -- nothing was
    pub spoil_ends : (fault : SealFault) (number : ℕ) (outcome : FileOutcome) → Keeps start taken → failures ≡ counted false zero → OutputEndsBy (Err fault) number outcome
        → ClosesBy (Err fault) outcome written taken failures after → Becomes (filled place content GivenUp [] 0) before after
    spoil_ends fault number (Sealed n m) kept count end closes = absurd (cc)
    spoil_ends fault number outcome kept count end closes = by after (fills GivenUp failures after closes)
      where
        by : (after : Option RunRecord) → IsFilled GivenUp failures after → Becomes (filled place content GivenUp [] 0) before after
        by None known = tt
        by (Some r) (held, n, empty, nil, some, many, came) =
            subst (λ b. Becomes (filled place content GivenUp b 0) before (Some r)) (nothing held empty some)
            (subst (λ m. Becomes (filled place content GivenUp held m) before (Some r)) (count_is false zero failures n nil many count) came)
          where
            nothing : (held : List ℕ) → start ≡ Some [] → taken ≡ Some held → held ≡ []
            nothing held empty some = subst (λ o. Keeps (Some []) o) some (subst (λ o. Keeps o taken) empty kept)

    -- what is known however it ends
    pub however : (P : RunRecord → Type 0) (sealed : Result ℕ SealFault) (outcome : FileOutcome)
        → ((state : State) (held : List ℕ) (n : ℕ) (r : RunRecord) → Becomes (filled place content state held n) before (Some r) → P r)
        → ClosesBy sealed outcome written taken failures after → IfSome after P
    however P sealed outcome keeps closes = by sealed outcome closes
      where
        still : (state : State) (failures : Option ℕ) (after : Option RunRecord) → IsFilled state failures after → IfSome after P
        still state failures None known = tt
        still state failures (Some r) (held, n, empty, nil, some, many, came) = keeps state held n r came

        by : (sealed : Result ℕ SealFault) (outcome : FileOutcome) → ClosesBy sealed outcome written taken failures after → IfSome after P
        by (Ok long) (Sealed n m) closes = still Finished failures after (fills Finished failures after closes)
        by (Ok long) outcome closes = still GivenUp (counted true failures) after (fills GivenUp (counted true failures) after closes)
        by (Err fault) (Sealed n m) closes = still Finished failures after (fills Finished failures after closes)
        by (Err fault) outcome closes = still GivenUp failures after (fills GivenUp failures after closes)
