use Rattle.std.proofs.Common.{◌≡◌, None, Some, ap, sym, ◌∙◌}
use Rattle.std.specs.Map.{lookup}
use Rattle.std.specs.Option.{option_map}
use Rattle.line_core.proofs.Listings.{is_name, line_of, listed_at-listings, with_met-none, with_met-some}
use Rattle.line_core.proofs.listed.meet_in.Goals as goal

pub returns-in-Some-clause-listed : goal.returns-in-Some-clause-listed
returns-in-Some-clause-listed c =
    let found : lookup (is_name c.args.name.now) c.args.outputs.now.entries ≡ Some c.in-Some.output.now = sym (rw c.in-Some.is at c.get_mut.ensures.value) in
    sym (listed_at-listings c.args.name.now c.args.outputs.now.entries ∙ ap (option_map line_of) found)

pub returns-in-Some-clause-met : goal.returns-in-Some-clause-met
returns-in-Some-clause-met c =
    let found : lookup (is_name c.args.name.now) c.args.outputs.now.entries ≡ Some c.in-Some.output.now = sym (rw c.in-Some.is at c.get_mut.ensures.value) in
    rw (c.get_mut.follows.holds _).0 (with_met-some c.args.name.now c.args.outputs.now.entries c.in-Some.output.now found)

pub returns-in-None-clause-listed : goal.returns-in-None-clause-listed
returns-in-None-clause-listed c =
    let absent : lookup (is_name c.args.name.now) c.args.outputs.now.entries ≡ None = sym (rw c.in-None.is at c.get_mut.ensures.value) in
    sym (listed_at-listings c.args.name.now c.args.outputs.now.entries ∙ ap (option_map line_of) absent)

pub returns-in-None-clause-met : goal.returns-in-None-clause-met
returns-in-None-clause-met c =
    let absent : lookup (is_name c.args.name.now) c.args.outputs.now.entries ≡ None = sym (rw c.in-None.is at c.get_mut.ensures.value) in
    rw c.get_mut.follows.holds-at-none (sym (with_met-none c.args.name.now c.args.outputs.now.entries absent))
