use Rattle.std.proofs.Common.{arith, refl, sym, ◌≡◌, ◌*◌, ◌≤◌, false, true, ℕ, List, ap, length, subst, take}
use Rattle.std.proofs.lemmas.List.{length-take-le, with_items_is}
use Rattle.container_core.specs.Container.{size_in}
use Rattle.sealing_core.specs.Intake.{HasRead}
use Rattle.sealing_core.specs.Pieces.{block, IsChunk}
use Rattle.sealing_core.proofs.IntakeLemmas.{few_blocks}
use Rattle.sealing_core.proofs.RoundLemmas.{hand_full, hand_last, not_long}
use Rattle.sealing_core.proofs.round.Round.read.Goals as goal

pub returns-then-self-clause-hand : goal.returns-then-self-clause-hand
returns-then-self-clause-hand g c = λ put was.
    let e = c.requires.size.0 in
    let told = g.N.Naming.told in
    let old = subst (λ (s : ℕ). HasRead s c.args.limit told (g.R.Source.left c.args.reader.now) c.args.self.now.intake) (sym e) was.read in
    let few = few_blocks g.N.Naming.each (size_in g.N.Naming.header) c.args.size c.args.limit _ _ c.args.self.now.intake c.requires.each e c.requires.size.1 c.requires.size.2 c.requires.limit.1 old c.requires.going.0 c.requires.going.1 in
    let fewer = few.0 in
    let new = c.in-Ok.ensures.read _ old in
    let ended = c.if-self.true in
    let shut = not_long _ _ _ _ _ new ended in
    let grown = c.in-Ok.ensures.blocks.0 shut in
    let numbers : g.N.Naming.each * c.next.new.self.blocks ≤ 4294967295 = subst (λ (n : ℕ). g.N.Naming.each * n ≤ 4294967295) (sym grown) few.1 in
    let long = c.in-Ok.ensures.length in
    let same = c.as_mut_slice.ensures.len in
    let buffer = c.requires.buffer in
    let within = c.in-Ok.ensures.within in
    let is = with_items_is c.args.buffer c.next.new.buffer (omega arith) in
    let count = ap (λ (l : List ℕ). length l) is in
    hand_last _ _ _ _ _ _ _ put c.args.self.now _ (subst (λ (s : ℕ). HasRead s c.args.limit told (g.R.Source.left c.next.new.reader) c.next.new.self) e new)
    ended grown (omega arith) numbers c.requires.going.0 refl refl (omega arith) (omega arith)
    (subst (λ (b : List ℕ). IsChunk (block g.N.Naming.each g.N.Naming.header) told c.args.self.now.intake.blocks true (take c.in-Ok.filled b)) (sym is)
    (subst (λ b. IsChunk (block g.N.Naming.each g.N.Naming.header) told c.args.self.now.intake.blocks b (take c.in-Ok.filled c.next.new.buffer)) ended
    (subst (λ (s : ℕ). IsChunk s told c.args.self.now.intake.blocks c.next.new.self.ended (take c.in-Ok.filled c.next.new.buffer)) e (c.in-Ok.ensures.chunk _ old shut)))) was

pub returns-clause-hand : goal.returns-clause-hand
returns-clause-hand g c = λ put was.
    let e = c.requires.size.0 in
    let told = g.N.Naming.told in
    let old = subst (λ (s : ℕ). HasRead s c.args.limit told (g.R.Source.left c.args.reader.now) c.args.self.now.intake) (sym e) was.read in
    let few = few_blocks g.N.Naming.each (size_in g.N.Naming.header) c.args.size c.args.limit _ _ c.args.self.now.intake c.requires.each e c.requires.size.1 c.requires.size.2 c.requires.limit.1 old c.requires.going.0 c.requires.going.1 in
    let fewer = few.0 in
    let new = c.in-Ok.ensures.read _ old in
    let going = c.if-self.false in
    let shut = c.if-self-2.false in
    let grown = c.in-Ok.ensures.blocks.0 shut in
    let numbers : g.N.Naming.each * c.next.new.self.blocks ≤ 4294967295 = subst (λ (n : ℕ). g.N.Naming.each * n ≤ 4294967295) (sym grown) few.1 in
    let long = c.in-Ok.ensures.length in
    let same = c.as_mut_slice.ensures.len in
    let buffer = c.requires.buffer in
    let within = c.in-Ok.ensures.within in
    let is = with_items_is c.args.buffer c.next.new.buffer (omega arith) in
    let count = ap (λ (l : List ℕ). length l) is in
    let chunk = subst (λ b. IsChunk c.args.size told c.args.self.now.intake.blocks b (take c.in-Ok.filled c.next.new.buffer)) going (c.in-Ok.ensures.chunk _ old shut) in
    let cut = length-take-le c.in-Ok.filled c.next.new.buffer (omega arith) in
    let whole : c.in-Ok.filled ≡ block g.N.Naming.each g.N.Naming.header = let f = chunk.full refl in omega arith in
    hand_full _ _ _ _ _ _ _ put c.args.self.now _ _ (subst (λ (s : ℕ). HasRead s c.args.limit told (g.R.Source.left c.next.new.reader) c.next.new.self) e new)
    going grown (omega arith) numbers c.requires.going.0 c.push_back_reserved.ensures.items refl (
      omega arith,
      subst (λ (b : List ℕ). IsChunk (block g.N.Naming.each g.N.Naming.header) told c.args.self.now.intake.blocks false (take (block g.N.Naming.each g.N.Naming.header) b)) (sym is)
          (subst (λ (n : ℕ). IsChunk (block g.N.Naming.each g.N.Naming.header) told c.args.self.now.intake.blocks false (take n c.next.new.buffer)) whole
          (subst (λ (s : ℕ). IsChunk s told c.args.self.now.intake.blocks false (take c.in-Ok.filled c.next.new.buffer)) e chunk)),
      few.1,
    )
    refl was
