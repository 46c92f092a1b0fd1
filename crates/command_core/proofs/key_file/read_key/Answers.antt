use Rattle.std.proofs.Common.{rules, arith, ◌≡◌, ◌≤◌, length, take}
use Rattle.command_core.specs.KeyFile.{IsKeyText}
use Rattle.command_core.proofs.KeyFiles.{key_of_input, no_key_of_input}
use Rattle.command_core.proofs.key_file.read_key.Goals as goal

pub returns-in-Some-clause-key : goal.returns-in-Some-clause-key
returns-in-Some-clause-key g c =
    let long : length c.fill.new.buffer ≡ 67 = search rules in
    let within : c.in-Ok.n ≤ 67 = omega (arith, c.in-Ok.ensures.bound) in
    let text : IsKeyText (take c.in-Ok.n c.fill.new.buffer) c.in-Some.key = search rules in
    rw c.new.ensures (key_of_input (g.R.Source.left c.args.reader.now) (g.R.Source.left c.fill.new.source)
    c.fill.new.buffer c.in-Some.key c.in-Ok.n long within (search rules) (search rules) text)

pub returns-in-None-clause-refused : goal.returns-in-None-clause-refused
returns-in-None-clause-refused g c = λ is.
    let long : length c.fill.new.buffer ≡ 67 = search rules in
    let within : c.in-Ok.n ≤ 67 = omega (arith, c.in-Ok.ensures.bound) in
    let none = c.in-None.ensures.none in
    no_key_of_input (g.R.Source.left c.args.reader.now) (g.R.Source.left c.fill.new.source) c.fill.new.buffer c.in-Ok.n
    long within (search rules) (search rules) (λ key text. none key (rw c.split_at.ensures.front text))
