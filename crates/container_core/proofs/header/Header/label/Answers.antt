use Rattle.std.proofs.Common.{◌≡◌, ℕ, List, length, ap, sym, arith}
use Rattle.std.proofs.lemmas.List.{drop_all}
use Rattle.container_core.proofs.header.Header.label.Goals as goal

pub returns-else-bytes-gt25 : goal.returns-else-bytes-gt25
returns-else-bytes-gt25 c =
    let long : length c.bytes-bytes.result.now ≡ length c.args.self.now = ap (λ (l : List ℕ). length l) c.bytes-bytes.ensures.bytes in
    sym (drop_all 25 c.args.self.now (omega (arith, long)))
