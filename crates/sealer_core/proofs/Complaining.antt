-- The texts of the faults are complaints, and what is printed of one is a prefix of it.
use Rattle.std.proofs.Common.{List, [], Option, ℕ, refl, sym, inl, inr, append-nil}
use Rattle.std.proofs.KnownBytes.{Appends-nil}
use Rattle.io_core.specs.Streams.{Appends, AppendsFront}
use Rattle.command_core.specs.Printing.{IsComplaint}
use Rattle.ranges_core.specs.declared.fault.ReserveFault.TheVariants.{ZeroCount, TooMany, FieldSpent, Store, BadStore, BelowFloor, OutOfMemory}
use Rattle.sealer_core.specs.Complaints.{complaint}
use Rattle.sealer_core.specs.declared.trouble.RunFault.{RunFault}
use Rattle.sealer_core.specs.declared.trouble.RunFault.TheVariants.{Unreserved, NoLedger, NoJournal, JournalCut, Unrecorded}

pub is_complaint : (fault : RunFault) → IsComplaint (complaint fault)
is_complaint (Unreserved ZeroCount) = inl refl
is_complaint (Unreserved TooMany) = inr (inl refl)
is_complaint (Unreserved (FieldSpent left)) = inr (inr (inl (left, refl)))
is_complaint (Unreserved Store) = inr (inr (inr (inl refl)))
is_complaint (Unreserved BadStore) = inr (inr (inr (inr (inl refl))))
is_complaint (Unreserved BelowFloor) = inr (inr (inr (inr (inr (inr (inr (inr (inl refl))))))))
is_complaint (Unreserved OutOfMemory) = inr (inr (inr (inr (inr (inl refl)))))
is_complaint NoLedger = inr (inr (inr (inr (inr (inl refl)))))
is_complaint NoJournal = inr (inr (inr (inr (inr (inr (inl refl))))))
is_complaint JournalCut = inr (inr (inr (inr (inr (inr (inr (inl refl)))))))
is_complaint Unrecorded = inr (inr (inr (inr (inr (inr (inr (inr (inr refl))))))))

pub nothing_of : (old : Option (List ℕ)) (text : List ℕ) → AppendsFront old old text
nothing_of old text = ([], (text, refl), Appends-nil old)

pub all_of : (old new : Option (List ℕ)) (text : List ℕ) → Appends old new text → AppendsFront old new text
all_of old new text whole = (text, ([], sym (append-nil text)), whole)
