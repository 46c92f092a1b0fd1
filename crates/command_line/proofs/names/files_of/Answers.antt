use Rattle.std.proofs.Common.{ℕ, List, Option, Bor, rules, ◌≡◌, ◌∙◌, ◌++◌, ap, sym, subst, option_map}
use Rattle.std.proofs.lemmas.List.{map-append}
use Rattle.command_line.specs.Names.{IsListOf, IsListed}
use Rattle.command_line.proofs.Ended.{texts}
use Rattle.command_line.proofs.names.files_of.Goals as goal

pub returns-in-Ok-extend_from_slice : goal.returns-in-Ok-extend_from_slice
returns-in-Ok-extend_from_slice c =
    let listed = c.in-Ok-names_in.listed.items in
    let text : c.in-Ok.text.now ≡ c.in-Some.list.now = c.in-Ok.ensures.cases.0 in
    let is : IsListOf c.args.separator c.in-Some.list.now (texts listed) =
    subst (λ t. IsListOf c.args.separator t (texts listed)) text c.in-Ok-names_in.ensures.names in
    let first : c.extend_from_slice.new.self.items ≡ c.args.given.now = search rules in
    let second : c.extend_from_slice-2.new.self.items ≡ c.args.given.now ++ listed = search (rules, first) in
    let given : IsListed c.args.separator (option_map (λ (b : Bor (List ℕ)). b.now) c.args.list) (texts listed) =
    subst (λ (l : Option (Bor (List ℕ))). IsListed c.args.separator (option_map (λ (b : Bor (List ℕ)). b.now) l) (texts listed)) (sym c.in-Some.is) is in
    record { files = (texts listed, given, ap texts second ∙ map-append (λ n. n.now) c.args.given.now listed) }
