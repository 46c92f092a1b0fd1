use Rattle.std.proofs.Common.{sym, ap, subst, rules, slice_set}
use Rattle.sqlite_wal.specs.Format.{IsSigned}
use Rattle.system_ledger.proofs.begun.has_header.Goals as goal

pub returns : goal.returns
returns c =
    let same = ap (λ header. slice_set header 0 0x37) c.copy_from_slice.ensures.after in (
      λ yes. (search rules, subst IsSigned same (c.is_signed.ensures.0 yes)),
      λ has. c.is_signed.ensures.1 (subst IsSigned (sym same) has.1),
    )
