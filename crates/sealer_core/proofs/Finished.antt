-- An output that a run of `seal_all` finished has the container of an input that was read of its file, right before.
use Rattle.std.proofs.Common.{◌≡◌, ℕ, refl, sym, subst, List}
use Rattle.folder_core.specs.Record.{Entry, Happened, Output, Read}
use Rattle.command_core.specs.declared.line.FileFault.TheVariants.{CannotOpen, OutputExists, CannotCreate, OutOfMemory}
use Rattle.command_core.specs.declared.line.FileOutcome.{FileOutcome}
use Rattle.command_core.specs.declared.line.FileOutcome.TheVariants.{Sealed, Failed}
use Rattle.sealer_core.specs.Sealing.{AddsRead, AddsSealed, PutsSealed, SealedUnder, container_by, sealed_name}
use Rattle.sealer_core.proofs.Opened.{EndWell, AreNext, IsNext, unfinished}

module _ (under : SealedUnder) where
  -- the output has the container of what was read
  abbrev pub Seals : Entry → Output → Type 0
  Seals previous output = (file : List ℕ) × (input : List ℕ) × (number : ℕ) × (previous ≡ Happened (Read file input))
      × (output.name ≡ sealed_name file) × (output.failures ≡ 0) × (output.bytes ≡ container_by under number input)

  put_sealed : (name input : List ℕ) (outcome : FileOutcome) (put : Entry) → PutsSealed under (sealed_name name) input outcome put
      → IsNext Seals (Happened (Read name input)) put
  put_sealed name input (Sealed number count) put (long, within, is) =
      subst (IsNext Seals (Happened (Read name input))) (sym is) (λ same. (name, input, number, refl, refl, refl, refl))
  put_sealed name input (Failed OutputExists) put is = subst (IsNext Seals (Happened (Read name input))) (sym is) tt
  put_sealed name input (Failed CannotCreate) put is = subst (IsNext Seals (Happened (Read name input))) (sym is) tt
  put_sealed name input (Failed fault) put (content, held, has, why, is) =
      subst (IsNext Seals (Happened (Read name input))) (sym is) (λ same. absurd (unfinished same))
  put_sealed name input outcome put never = absurd never

  read_sealed : (name : List ℕ) (outcome : FileOutcome) (new : List Entry) → AddsRead under name outcome new → EndWell Seals new
  read_sealed name outcome new (input, put, puts, is) = λ previous.
      subst (AreNext Seals previous) (sym is) (tt, (put_sealed name input outcome put puts, (tt, tt)))

  pub file_sealed : (name : List ℕ) (outcome : FileOutcome) (new : List Entry) → AddsSealed under name outcome new → EndWell Seals new
  file_sealed name (Failed OutOfMemory) new is = λ previous. subst (AreNext Seals previous) (sym is) tt
  file_sealed name (Failed CannotOpen) new is = λ previous. subst (AreNext Seals previous) (sym is) (tt, tt)
  file_sealed name outcome new read = read_sealed name outcome new read
