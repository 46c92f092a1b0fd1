use Rattle.std.proofs.Common.{sym, ◌∙◌, ap, rules}
use Rattle.sqlite_wal.specs.Format.{checksum, is_big}
use Rattle.sqlite_wal.proofs.FormatLemmas.{same_sums, part_front}
use Rattle.system_ledger.proofs.begun.is_signed.Goals as goal

pub returns : goal.returns
returns c =
    let decides = same_sums _ _ _ c.eq.ensures in
    let ours = ap (checksum (is_big c.args.header.now) (0, 0)) (part_front c.args.header.now 24) ∙ sym c.checksum_of-sum.ensures in (
      λ same. record {
        first = c.if-header-ne-FIRST.false;
        second = c.if-header-ne127.false;
        third = c.if-header-ne6.false;
        fourth = search rules;
        sum = ours ∙ decides.0 same ∙ c.sum_at.ensures;
      },
      λ signed. decides.1 (sym ours ∙ signed.sum ∙ sym c.sum_at.ensures),
    )
