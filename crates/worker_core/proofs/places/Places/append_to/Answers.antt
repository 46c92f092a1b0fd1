use Rattle.std.proofs.Common.{rules, ◌≡◌, ◌<◌, ◌++◌, length, take, get_or, Some, None, List, ℕ, ap, sym, ◌∙◌, append-nil, length-append}
use Rattle.worker_core.specs.Answer.{joined}
use Rattle.worker_core.proofs.AppendLemmas.{appended-front, appended-more, at-error, piece-within}
use Rattle.worker_core.proofs.places.Places.append_to.Goals.{in-Some+in_ok-extend_from_slice, in_default}
use Rattle.worker_core.proofs.places.Places.append_to.Goals as goal

pub returns-in_err-extend_from_slice-clause-full : goal.returns-in_err-extend_from_slice-clause-full
returns-in_err-extend_from_slice-clause-full c =
    let values = c.args.self.now.values in
    let n = c.appending.number in
    let bytes = c.in-Some.bytes.now in
    let is : Some bytes ≡ get_or values n None = search rules in
    let within = piece-within values n bytes (search rules) is in
    let before = c.appending.invariant in
    let both = length-append c.args.out.now.items (joined (take n values)) in
    let long : length c.appending.out.items ≡ length (c.args.out.now.items ++ joined (take n values)) =
    ap (λ (l : List ℕ). length l) before.items in
    search rules

pub returns-in_err-extend_from_slice-clause-kept : goal.returns-in_err-extend_from_slice-clause-kept
returns-in_err-extend_from_slice-clause-kept c =
    at-error c.from_residual.result _
    (appended-front c.args.self.now.values c.appending.number c.args.out.now.items c.extend_from_slice.new.self.items (search rules))

pub appending-preserved : goal.appending-preserved
appending-preserved c =
    let values = c.args.self.now.values in
    let n = c.appending.number in
    let below : n < length values = search rules in
    let before = c.appending.invariant in
    elim c.match-piece.branch [
      | in-Some+in_ok-extend_from_slice w ↦
          let bytes = w.in-Some.bytes.now in
          let is : Some bytes ≡ get_or values n None = search rules in
          let more : c.match-piece.out.items ≡ c.appending.out.items ++ bytes = search rules in
          record {
            items = appended-more values n (Some bytes) c.args.out.now.items c.appending.out.items c.match-piece.out.items below is
                before.items (more ∙ ap (λ (l : List ℕ). c.appending.out.items ++ l) (sym (append-nil bytes)));
            room = search rules;
          }
      | in_default w ↦
          let is : None ≡ get_or values n None = search rules in
          let more : c.match-piece.out.items ≡ c.appending.out.items = search rules in
          record {
            items = appended-more values n None c.args.out.now.items c.appending.out.items c.match-piece.out.items below is
                before.items (more ∙ sym (append-nil c.appending.out.items));
            room = search rules;
          }
    ]
