use Rattle.std.proofs.Common.{rules, ◌≡◌, ◌+◌, ◌<◌, ◌++◌, ℕ, List, length, take, drop, get_or, flat_map, Vec, Global, sym, ap, ◌∙◌, subst}
use Rattle.std.proofs.KnownBytes.{Appends-trans}
use Rattle.io_core.specs.Streams.{Appends, AppendsFront, LacksSome}
use Rattle.io_core.proofs.WriteLemmas.{on_err}
use Rattle.output_core.specs.Bounds.{Admits}
use Rattle.output_core.proofs.BoundLemmas.{admits_front, admits_rest, admits_same}
use Rattle.output_core.proofs.PartLemmas.{rest_split, front_more, all_split, begun_within, lacks_within}
use Rattle.output_core.proofs.parts.put_each.Goals as goal

abbrev bytes : Vec ℕ Global → List ℕ
bytes b = b.items

pub put_all-requires : goal.put_all-requires
put_all-requires g c =
    let buffers = c.args.buffers.now in
    let n = c.putting.n in
    let buffer = c.index-buffers-n.result in
    let at : n < length buffers = search rules in
    let part : c.as_slice.result.now ≡ bytes (get_or buffers n buffer) = search rules in
    record {
      may = admits_front _ _ _ _ c.putting.invariant.may
          (flat_map bytes (drop (n + 1) buffers), rest_split bytes buffers n buffer at ∙ ap (λ (l : List ℕ). l ++ flat_map bytes (drop (n + 1) buffers)) (sym part));
    }

pub returns-in_err-put_all-clause-err : goal.returns-in_err-put_all-clause-err
returns-in_err-put_all-clause-err g c =
    let buffers = c.args.buffers.now in
    let n = c.putting.n in
    let buffer = c.index-buffers-n.result in
    let at : n < length buffers = search rules in
    let part : c.as_slice.result.now ≡ bytes (get_or buffers n buffer) = search rules in
    let whole = all_split bytes buffers n buffer at in
    on_err _ _ (subst (AppendsFront (g.W.Output.taken c.args.output.now) (g.W.Output.taken c.put_all.new.output)) (sym whole)
    (begun_within _ _ _ (flat_map bytes (take n buffers)) (bytes (get_or buffers n buffer)) _ c.putting.invariant.appended
    (subst (AppendsFront (g.W.Output.taken c.putting.output) (g.W.Output.taken c.put_all.new.output)) part c.in_err-put_all.ensures.err)))

pub returns-in_err-put_all-clause-short : goal.returns-in_err-put_all-clause-short
returns-in_err-put_all-clause-short g c =
    let buffers = c.args.buffers.now in
    let n = c.putting.n in
    let buffer = c.index-buffers-n.result in
    let at : n < length buffers = search rules in
    let part : c.as_slice.result.now ≡ bytes (get_or buffers n buffer) = search rules in
    let whole = all_split bytes buffers n buffer at in
    on_err _ _ (subst (LacksSome (g.W.Output.taken c.args.output.now) (g.W.Output.taken c.put_all.new.output)) (sym whole)
    (lacks_within _ _ _ (flat_map bytes (take n buffers)) (bytes (get_or buffers n buffer)) _ c.putting.invariant.appended
    (subst (AppendsFront (g.W.Output.taken c.putting.output) (g.W.Output.taken c.put_all.new.output)) part c.in_err-put_all.ensures.err)
    (subst (LacksSome (g.W.Output.taken c.putting.output) (g.W.Output.taken c.put_all.new.output)) part c.in_err-put_all.ensures.short)))

pub putting-preserved : goal.putting-preserved
putting-preserved g c =
    let buffers = c.args.buffers.now in
    let n = c.putting.n in
    let buffer = c.index-buffers-n.result in
    let at : n < length buffers = search rules in
    let part : c.as_slice.result.now ≡ bytes (get_or buffers n buffer) = search rules in
    let before = c.putting.invariant in
    let put = subst (Appends (g.W.Output.taken c.putting.output) (g.W.Output.taken c.put_all.new.output)) part c.in_ok-put_all.ensures.ok in
    record {
      appended = subst (Appends (g.W.Output.taken c.args.output.now) (g.W.Output.taken c.put_all.new.output)) (sym (front_more bytes buffers n buffer at))
          (Appends-trans _ _ _ _ _ before.appended put);
      failures = search rules;
      bound = search rules;
      may = admits_same _ _ _ _ c.in_ok-put_all.ensures.same (admits_rest _ _ _ (bytes (get_or buffers n buffer)) _
          (subst (Admits (g.W.Output.bound c.putting.output) (g.W.Output.taken c.putting.output)) (rest_split bytes buffers n buffer at) before.may) put);
    }
