use Rattle.std.proofs.Common.{◌≡◌, ℕ, List, [], Option, Some, ap, refl, sym, inl}
use Rattle.io_memory.specs.Memory.{Reading}
use Rattle.opening_core.specs.Twice.{MayWrite}
use Rattle.output_core.specs.Bounds.{Checked}
use Rattle.engine_tests.proofs.twice.checked.Goals as goal

-- an output that has taken nothing may hold what is checked of its input under its key and header
may_hold : (key key' header header' input input' held : List ℕ) (most : ℕ) (left : Option (List ℕ)) → held ≡ [] → key' ≡ key
    → header' ≡ header → input' ≡ input → left ≡ Some input
    → MayWrite key header most left (Some held) (Checked [] key' header' input')
may_hold key key' header header' input input' held most left none k h is had =
    (held, input, refl, had, inl (λ i. Checked (sym none i) (k i) (h i) (is i)))

pub write_again-done-requires-clause-may : goal.write_again-done-requires-clause-may
write_again-done-requires-clause-may g c κs within =
    may_hold _ _ _ _ c.args.second.now _ _ _ _ c.new-output.ensures.bytes c.new-output.ensures.key c.new-output.ensures.header
    c.new-output.ensures.input (ap (λ (r : Reading). Some r.left) c.new-again.ensures)
