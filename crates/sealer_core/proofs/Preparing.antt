-- Files of a group before the sealing: what came in the record for each.
use Rattle.std.proofs.Common.{◌≡◌, ◌∙◌, ℕ, suc, ◌+◌, false, List, [], ◌∷◌, ◌++◌, Option, None, Some, refl, sym, ap, ap₂, subst, length, length-append, append-nil, append_assoc, arith, Bor}
use Rattle.std.specs.Prelude.{IfSome}
use Rattle.io_core.specs.Streams.{counted}
use Rattle.folder_core.specs.declared.fault.FolderFault.{FolderFault}
use Rattle.folder_core.specs.declared.fault.FolderFault.TheVariants as folder_fault
use Rattle.folder_core.specs.Record.{Closed, Created, Entry, Happened, RunRecord}
use Rattle.folder_core.specs.Record as record_of
use Rattle.folder_core.specs.Changes.{Becomes, Tells, TellsBytes, new_output, with_entry}
use Rattle.folder_core.specs.Growth.{with_entries}
use Rattle.command_core.specs.declared.line.FileFault.{FileFault}
use Rattle.command_core.specs.declared.line.FileOutcome.TheVariants.{Failed}
use Rattle.command_core.specs.Putting.{once_if}
use Rattle.command_core.proofs.Puts.{count_is}
use Rattle.sealer_core.specs.declared.prepare.Prepared.{Prepared}
use Rattle.sealer_core.specs.declared.prepare.Prepared.TheVariants.{Read, Refused, Unread}
use Rattle.sealer_core.specs.Group.{AreWaiting, HasPrepared, HavePrepared, IsOfInput, IsWaiting, name_of, read_failed_of, uncreated_as, waiting_entries}
use Rattle.sealer_core.specs.Sealing.{AddsSealed, SealedUnder, sealed_name}

module _ {H : Type 0} (at : H → ℕ) (under : SealedUnder) where
  -- ---- files in turn

  pub none_prepared : (files : List (Prepared H)) (inputs : List (List ℕ)) (rest : Option RunRecord) → files ≡ [] → inputs ≡ []
      → HavePrepared at under files inputs rest rest
  none_prepared files inputs None none empty = tt
  none_prepared files inputs (Some r) none empty = (
    r,
    [],
    refl,
    subst (λ l. AreWaiting at under l inputs (length r.entries) []) (sym none) (empty, refl),
    ap (λ l. record r { entries = l }) (sym (append-nil r.entries)),
  )

  waiting_more : (files : List (Prepared H)) (inputs : List (List ℕ)) (place : ℕ) (new : List Entry) (file : Prepared H) (own : List (List ℕ)) (more : List Entry)
      → AreWaiting at under files inputs place new → IsWaiting at under file own (place + length new) more
      → AreWaiting at under (files ++ file ∷ []) (inputs ++ own) place (new ++ more)
  waiting_more [] inputs place new file own more (none, empty) waits =
      let here : place + length new ≡ place = (let long = ap length empty in omega arith) in (
        own,
        [],
        more,
        [],
        subst (λ n. IsWaiting at under file own n more) here waits,
        (refl, refl),
        ap (λ l. l ++ own) none ∙ sym (append-nil own),
        ap (λ l. l ++ more) empty ∙ sym (append-nil more),
      )
  waiting_more (f ∷ files) inputs place new file own more (its, others, first, rest, one, next, all, split) waits =
      let both = length-append first rest in
      let long = ap length split in
      let here : place + length new ≡ (place + length first) + length rest = omega arith in (
        its,
        others ++ own,
        first,
        rest ++ more,
        one,
        waiting_more files others (place + length first) rest file own more next (subst (λ n. IsWaiting at under file own n more) here waits),
        ap (λ l. l ++ own) all ∙ append_assoc its others own,
        ap (λ l. l ++ more) split ∙ append_assoc first rest more,
      )

  pub one_more_prepared : (files files' : List (Prepared H)) (jobs jobs' : List (List ℕ)) (file : Prepared H) (before between after : Option RunRecord)
      → files' ≡ files ++ file ∷ [] → HavePrepared at under files jobs before between → HasPrepared at under jobs jobs' file between after
      → HavePrepared at under files' jobs' before after
  one_more_prepared files files' jobs jobs' file before between None longer have has = tt
  one_more_prepared files files' jobs jobs' file before between (Some r) longer have (second, more, own, now, one, grew, is) =
      let (first, new, known, waits, was) = subst (λ o. HavePrepared at under files jobs before o) now have in
      let long = ap (λ (x : RunRecord). length x.entries) was ∙ length-append first.entries new in (
        first,
        new ++ more,
        known,
        subst (λ l. AreWaiting at under l jobs' (length first.entries) (new ++ more)) (sym longer)
            (subst (λ l. AreWaiting at under (files ++ file ∷ []) l (length first.entries) (new ++ more)) (sym grew)
            (waiting_more files jobs (length first.entries) new file own more waits (subst (λ n. IsWaiting at under file own n more) long one))),
        is ∙ ap (with_entries more) was ∙ ap (λ l. record first { entries = l }) (append_assoc first.entries new more),
      )

  -- ---- one file

  refusal : (name input : List ℕ) (cause : FolderFault) → AddsSealed under name (Failed (uncreated_as cause))
      (Happened (record_of.Read name input) ∷ Happened (record_of.Refused (sealed_name name) cause) ∷ Happened (Closed name 0) ∷ [])
  refusal name input folder_fault.Exists = (input, Happened (record_of.Refused (sealed_name name) folder_fault.Exists), refl, refl)
  refusal name input folder_fault.Failed = (input, Happened (record_of.Refused (sealed_name name) folder_fault.Failed), refl, refl)

  -- it was opened
  module _ (name : Bor (List ℕ)) (output : List ℕ) (left : Option (List ℕ)) (failures failures' : Option ℕ) (jobs jobs' : List (List ℕ))
      (before opened created after : Option RunRecord) (named : output ≡ sealed_name name.now) (reads : TellsBytes (record_of.Read name.now) left before opened)
      (fresh : IfSome opened (λ _. failures ≡ Some 0)) (closes : Tells (Closed name.now) failures' created after) where
    pub not_created : (fault : FileFault) (cause : FolderFault) → fault ≡ uncreated_as cause → Becomes (with_entry (Happened (record_of.Refused output cause))) opened created
        → failures' ≡ failures → jobs' ≡ jobs → HasPrepared at under jobs jobs' (Refused name fault) before after
    not_created fault cause why refused kept same = by after closes
      where
        by : (after : Option RunRecord) → Tells (Closed name.now) failures' created after → HasPrepared at under jobs jobs' (Refused name fault) before after
        by None closes = tt
        by (Some r) (n, count, (third, third_is, last)) =
            let (second, second_is, middle) = subst (Becomes (with_entry (Happened (record_of.Refused output cause))) opened) third_is refused in
            let (input, here, (first, first_is, begun)) = subst (TellsBytes (record_of.Read name.now) left before) second_is reads in
            let start : failures ≡ Some 0 = subst (λ o. IfSome o (λ _. failures ≡ Some 0)) second_is fresh in
            let none : n ≡ 0 = count_is false failures failures' n start count kept in
            let new : List Entry = Happened (record_of.Read name.now input) ∷ Happened (record_of.Refused (sealed_name name.now) cause) ∷ Happened (Closed name.now 0) ∷ [] in (
              first,
              new,
              [],
              first_is,
              (refl, subst (λ f. AddsSealed under name.now (Failed f) new) (sym why) (refusal name.now input cause), tt),
              same ∙ sym (append-nil jobs),
              last ∙ ap (with_entry (Happened (Closed name.now n))) (middle ∙ ap (with_entry (Happened (record_of.Refused output cause))) begun)
                  ∙ ap (λ l. record first { entries = l })
                  (append_assoc (first.entries ++ Happened (record_of.Read name.now input) ∷ []) (Happened (record_of.Refused output cause) ∷ []) (Happened (Closed name.now n) ∷ [])
                  ∙ append_assoc first.entries (Happened (record_of.Read name.now input) ∷ []) (Happened (record_of.Refused output cause) ∷ Happened (Closed name.now n) ∷ []))
                  ∙ ap₂ (λ o m. with_entries (Happened (record_of.Read name.now input) ∷ Happened (record_of.Refused o cause) ∷ Happened (Closed name.now m) ∷ []) first) named none,
            )

    waits : (file : Prepared H) (place : ℕ) (input : List ℕ) (own : List (List ℕ)) (first : ℕ) → name_of file ≡ name.now → place ≡ suc first
        → IsOfInput at under.most place input file own
        → IsWaiting at under file own first (waiting_entries name.now input (read_failed_of file))
    waits (Refused n fault) place input own first its at_place of = absurd of
    waits (Unread n handle fault) place input own first its at_place (there, none, why) =
        (input, (there ∙ at_place, none, why), ap (λ x. waiting_entries x input (read_failed_of (Unread n handle fault))) (sym its))
    waits (Read n handle bytes) place input own first its at_place (there, one, count, within) =
        (input, (there ∙ at_place, one, count, within), ap (λ x. waiting_entries x input false) (sym its))

    pub was_created : (file : Prepared H) (handle : H) → name_of file ≡ name.now → Becomes (with_entry (Created (new_output output))) opened created
        → IfSome opened (λ was. at handle ≡ length was.entries)
        → IfSome created (λ _. IfSome left (λ input. (own : List (List ℕ)) × (jobs' ≡ jobs ++ own) × IsOfInput at under.most (at handle) input file own))
        → failures' ≡ counted (read_failed_of file) failures → HasPrepared at under jobs jobs' file before after
    was_created file handle its new there of kept = by after closes
      where
        by : (after : Option RunRecord) → Tells (Closed name.now) failures' created after → HasPrepared at under jobs jobs' file before after
        by None closes = tt
        by (Some r) (n, count, (third, third_is, last)) =
            let (second, second_is, middle) = subst (Becomes (with_entry (Created (new_output output))) opened) third_is new in
            let (input, here, (first, first_is, begun)) = subst (TellsBytes (record_of.Read name.now) left before) second_is reads in
            let start : failures ≡ Some 0 = subst (λ o. IfSome o (λ _. failures ≡ Some 0)) second_is fresh in
            let once : n ≡ once_if (read_failed_of file) = count_is (read_failed_of file) failures failures' n start count kept in
            let at_end : at handle ≡ length second.entries = subst (λ o. IfSome o (λ was. at handle ≡ length was.entries)) second_is there in
            let long = ap (λ (x : RunRecord). length x.entries) begun ∙ length-append first.entries (Happened (record_of.Read name.now input) ∷ []) in
            let place : at handle ≡ suc (length first.entries) = omega arith in
            let (own, grew, is) = subst (λ o. IfSome o (λ i. (own : List (List ℕ)) × (jobs' ≡ jobs ++ own) × IsOfInput at under.most (at handle) i file own)) here
            (subst (λ o. IfSome o (λ _. IfSome left (λ i. (own : List (List ℕ)) × (jobs' ≡ jobs ++ own) × IsOfInput at under.most (at handle) i file own))) third_is of) in (
              first,
              waiting_entries name.now input (read_failed_of file),
              own,
              first_is,
              waits file (at handle) input own (length first.entries) its place is,
              grew,
              last ∙ ap (with_entry (Happened (Closed name.now n))) (middle ∙ ap (with_entry (Created (new_output output))) begun)
                  ∙ ap (λ l. record first { entries = l })
                  (append_assoc (first.entries ++ Happened (record_of.Read name.now input) ∷ []) (Created (new_output output) ∷ []) (Happened (Closed name.now n) ∷ [])
                  ∙ append_assoc first.entries (Happened (record_of.Read name.now input) ∷ []) (Created (new_output output) ∷ Happened (Closed name.now n) ∷ []))
                  ∙ ap₂ (λ o m. with_entries (Happened (record_of.Read name.now input) ∷ Created (new_output o) ∷ Happened (Closed name.now m) ∷ []) first) named once,
            )
