use Rattle.std.proofs.Common.{ℕ, ◌+◌, [], ◌∷◌, ◌++◌, length, take, drop, sym, ap, ◌∙◌, subst, arith, append_assoc, length-drop}
use Rattle.std.proofs.lemmas.List.{take_rest}
use Rattle.journal_core.specs.Audit.{HasRead}
use Rattle.journal_core.proofs.Reading.{read_piece, read_line}
use Rattle.journal_core.proofs.progress.Progress.take.Goals as goal

pub loop-at-preserved : goal.loop-at-preserved
loop-at-preserved c =
    let rest = c.loop-at.rest.now in
    let at : ℕ = c.in-Some.at in
    let found = c.in-Some.ensures in
    let line = take at rest ++ 10 ∷ [] in
    let count = c.in_ok-end.ensures.count in
    let behind = take_rest rest (at + 1) in (
      (let l = length-drop (at + 1) rest in let m = ap (length {A = ℕ}) behind in let f = found.0 in let i = c.loop-at.invariant.0 in omega arith),
      (λ before read.
          let so_far = c.loop-at.invariant.1 before read in
          let front = so_far.0 in (
            front ++ line,
            so_far.1 ∙ ap (λ l. front ++ l) (found.1 ∙ sym (append_assoc (take at rest) (10 ∷ []) (drop (at + 1) rest))) ∙ sym (append_assoc front line (drop (at + 1) rest)) ∙ ap (λ l. (front ++ line) ++ l) (sym behind),
            subst (HasRead c.end.new.self) (append_assoc before front line) (read_line _ c.end.new.self (before ++ front) (take at rest) so_far.2 found.2 c.in_ok-end.ensures.read),
          )),
    )

pub returns-clause-read : goal.returns-clause-read
returns-clause-read c = λ before read.
    let so_far = c.loop-at.invariant.1 before read in
    let rest = c.loop-at.rest.now in
    subst (HasRead c.keep.new.self) (append_assoc before so_far.0 rest ∙ ap (λ l. before ++ l) (sym so_far.1))
    (read_piece _ c.keep.new.self (before ++ so_far.0) rest so_far.2 c.in_default.ensures c.keep.ensures.read)
