-- A stream is an input whose chunks are put one by one, after its header.
use Rattle.std.proofs.Common.{◌≡◌, ℕ, ◌+◌, ◌*◌, ◌<◌, ◌≤◌, ◌∙◌, true, List, [], length, Option, Some, None, IfSome, Result, Ok, Err, refl, sym, subst, arith, append-nil}
use Rattle.std.proofs.KnownBytes.{Appends-nil, Appends-trans, Consumes-nil}
use Rattle.container_core.specs.Chunks.{chunks}
use Rattle.container_core.specs.Container.{size_in}
use Rattle.container_core.specs.Stream.{stream}
use Rattle.container_core.specs.declared.fault.SealFault.{SealFault}
use Rattle.container_core.specs.declared.fault.SealFault.TheVariants.{OutOfMemory, Read, Write, TooLong, TooManyChunks}
use Rattle.io_core.specs.Reads.{ConsumesExactly, ConsumesUpTo}
use Rattle.io_core.specs.Streams.{Appends, AppendsFront, Keeps, LacksSome, counted}
use Rattle.io_core.specs.Views.{io_view}
use Rattle.sealing_core.specs.Order.{HasBegun, IsCutOff}
use Rattle.sealing_core.specs.Pipe.{HasPiped, answer_of_stream, whole}
use Rattle.sealing_core.specs.Rounds.{HasSealedRounds}
use Rattle.sealing_core.proofs.ChunkLemmas.{begun_before, begun_behind, lacks_before, lacks_behind}

if_some : {A : Type 0} {P Q : A → Type 0} (o : Option A) → ((x : A) → P x → Q x) → IfSome o P → IfSome o Q
if_some None f p = tt
if_some (Some x) f p = f x p

-- the header was written, and a front of what follows it
begun_told : (key header : List ℕ) (told taken mid now : Option (List ℕ)) → Appends taken mid header → HasBegun [] key header told mid now
    → IfSome told (λ input. AppendsFront taken now (whole key header input))
begun_told key header None taken mid now grown begun = tt
begun_told key header (Some input) taken mid now grown begun =
    subst (λ (l : List ℕ). AppendsFront taken now (whole key header l)) (sym begun.1)
    (begun_behind taken mid now header (stream key header 0 (chunks (size_in header) begun.0)) grown begun.2)

-- the header was written, but not all of what follows it
short_told : (key header : List ℕ) (told taken mid now : Option (List ℕ)) → Appends taken mid header → IsCutOff [] key header told mid now
    → IfSome told (λ input. LacksSome taken now (whole key header input))
short_told key header None taken mid now grown cut = tt
short_told key header (Some input) taken mid now grown cut =
    subst (λ (l : List ℕ). LacksSome taken now (whole key header l)) (sym cut.1)
    (lacks_behind taken mid now header (stream key header 0 (chunks (size_in header) cut.0)) grown cut.2 cut.3)

-- the header was written, and nothing after it
header_alone : (header : List ℕ) (taken mid now : Option (List ℕ)) → Appends taken mid header → Keeps mid now → AppendsFront taken now header
header_alone header None mid now grown kept = (header, ([], sym (append-nil header)), tt)
header_alone header (Some xs) None now grown kept = absurd grown
header_alone header (Some xs) (Some ys) None grown kept = absurd kept
header_alone header (Some xs) (Some ys) (Some zs) grown kept = (header, ([], sym (append-nil header)), kept ∙ grown)

within_bound : (told left : Option (List ℕ)) (bytes most : ℕ) → bytes ≡ most → ConsumesUpTo told left (bytes + 1) → ConsumesUpTo told left (most + 1)
within_bound told left bytes most sized bound = subst (λ (n : ℕ). ConsumesUpTo told left (n + 1)) sized bound

pub piped_of : (key header : List ℕ) (most bytes window : ℕ) (told left taken mid now : Option (List ℕ)) (failures failures' refusals refusals' : Option ℕ)
    (result : Result ℕ SealFault) → bytes ≡ most * size_in header → Appends taken mid header
    → HasSealedRounds [] key header bytes window (io_view told failures mid refusals) (io_view left failures' now refusals') result
    → HasPiped key header most (io_view told failures taken refusals) (io_view left failures' now refusals') (answer_of_stream result)
piped_of key header most bytes window told left taken mid now failures failures' refusals refusals' (Ok n) sized grown did = record {
  end = did.end;
  written = if_some told (λ input was. Appends-trans taken mid now header (stream key header 0 (chunks (size_in header) input)) grown was) did.written;
  answer = did.answer;
  within = if_some told (λ input was. subst (λ (n : ℕ). length input ≤ n) sized was) did.within;
  more = λ e. cc;
  one = λ e. cc;
  bound = within_bound told left bytes (most * size_in header) sized did.bound;
  begun = tt;
  short = λ e. cc;
  few = λ e. cc;
  endless = λ e. cc;
  read = did.read;
  write = did.write;
}
piped_of key header most bytes window told left taken mid now failures failures' refusals refusals' (Err TooLong) sized grown did = record {
  end = tt;
  written = tt;
  answer = tt;
  within = tt;
  more = λ _. if_some told (λ input was. subst (λ (n : ℕ). n < length input) sized was) (did.more refl);
  one = λ _. subst (λ (n : ℕ). ConsumesExactly told left (n + 1)) sized (did.one refl);
  bound = within_bound told left bytes (most * size_in header) sized did.bound;
  begun = begun_told key header told taken mid now grown did.begun;
  short = λ e. cc;
  few = λ e. cc;
  endless = λ e. cc;
  read = did.read;
  write = did.write;
}
piped_of key header most bytes window told left taken mid now failures failures' refusals refusals' (Err OutOfMemory) sized grown did = record {
  end = tt;
  written = tt;
  answer = tt;
  within = tt;
  more = λ e. cc;
  one = λ e. cc;
  bound = within_bound told left bytes (most * size_in header) sized did.bound;
  begun = begun_told key header told taken mid now grown did.begun;
  short = λ e. cc;
  few = λ _. header_alone header taken mid now grown (did.unwritten refl);
  endless = λ e. cc;
  read = did.read;
  write = did.write;
}
piped_of key header most bytes window told left taken mid now failures failures' refusals refusals' (Err Read) sized grown did = record {
  end = tt;
  written = tt;
  answer = tt;
  within = tt;
  more = λ e. cc;
  one = λ e. cc;
  bound = within_bound told left bytes (most * size_in header) sized did.bound;
  begun = begun_told key header told taken mid now grown did.begun;
  short = λ e. cc;
  few = λ e. cc;
  endless = λ e. cc;
  read = did.read;
  write = did.write;
}
piped_of key header most bytes window told left taken mid now failures failures' refusals refusals' (Err Write) sized grown did = record {
  end = tt;
  written = tt;
  answer = tt;
  within = tt;
  more = λ e. cc;
  one = λ e. cc;
  bound = within_bound told left bytes (most * size_in header) sized did.bound;
  begun = begun_told key header told taken mid now grown did.begun;
  short = λ _. short_told key header told taken mid now grown (did.short refl);
  few = λ e. cc;
  endless = λ e. cc;
  read = did.read;
  write = did.write;
}
piped_of key header most bytes window told left taken mid now failures failures' refusals refusals' (Err TooManyChunks) sized grown did = absurd (did.by_bytes refl)

-- nothing was read, and the header couldn't be written
pub piped_header : (key header : List ℕ) (most : ℕ) (told taken now : Option (List ℕ)) (failures refusals refusals' : Option ℕ) → AppendsFront taken now header
    → LacksSome taken now header → refusals' ≡ counted true refusals
    → HasPiped key header most (io_view told failures taken refusals) (io_view told failures now refusals') (Err Write)
piped_header key header most told taken now failures refusals refusals' begun lacks writes = record {
  end = tt;
  written = tt;
  answer = tt;
  within = tt;
  more = λ e. cc;
  one = λ e. cc;
  bound = ([], Consumes-nil told, omega arith);
  begun = front told;
  short = λ _. cut told;
  few = λ e. cc;
  endless = λ e. cc;
  read = refl;
  write = writes;
}
  where
    front : (told : Option (List ℕ)) → IfSome told (λ input. AppendsFront taken now (whole key header input))
    front None = tt
    front (Some input) = begun_before taken now header (stream key header 0 (chunks (size_in header) input)) begun

    cut : (told : Option (List ℕ)) → IfSome told (λ input. LacksSome taken now (whole key header input))
    cut None = tt
    cut (Some input) = lacks_before taken now header (stream key header 0 (chunks (size_in header) input)) begun lacks

-- nothing was read, and nothing was written
pub piped_none : (key header : List ℕ) (most : ℕ) (told taken : Option (List ℕ)) (failures refusals : Option ℕ)
    → HasPiped key header most (io_view told failures taken refusals) (io_view told failures taken refusals) (Err OutOfMemory)
piped_none key header most told taken failures refusals = record {
  end = tt;
  written = tt;
  answer = tt;
  within = tt;
  more = λ e. cc;
  one = λ e. cc;
  bound = ([], Consumes-nil told, omega arith);
  begun = front told;
  short = λ e. cc;
  few = λ _. ([], (header, refl), Appends-nil taken);
  endless = λ e. cc;
  read = refl;
  write = refl;
}
  where
    front : (told : Option (List ℕ)) → IfSome told (λ input. AppendsFront taken taken (whole key header input))
    front None = tt
    front (Some input) = ([], (whole key header input, refl), Appends-nil taken)

-- in the caller's own words
pub piped_as : (key header k h : List ℕ) (most : ℕ) (left told left' taken taken' : Option (List ℕ)) (failures failures' refusals refusals' : Option ℕ)
    (result : Result ℕ SealFault) → key ≡ k → header ≡ h → left ≡ told
    → HasPiped k h most (io_view told failures taken refusals) (io_view left' failures' taken' refusals') result
    → HasPiped key header most (io_view left failures taken refusals) (io_view left' failures' taken' refusals') result
piped_as key header k h most left told left' taken taken' failures failures' refusals refusals' result a b c p = rw (a, b, c) p

-- the same in other words
pub rounds_as : (key header k h : List ℕ) (most bytes window window' : ℕ) (left told left' taken taken' : Option (List ℕ)) (failures failures' refusals refusals' : Option ℕ)
    (result : Result ℕ SealFault) → key ≡ k → header ≡ h → left ≡ told → most ≡ bytes → window ≡ window'
    → HasSealedRounds h k h bytes window' (io_view told failures taken refusals) (io_view left' failures' taken' refusals') result
    → HasSealedRounds header key header most window (io_view left failures taken refusals) (io_view left' failures' taken' refusals') result
rounds_as key header k h most bytes window window' left told left' taken taken' failures failures' refusals refusals' result a b c d e p = rw (a, b, c, d, e) p
