use Rattle.std.proofs.Common.{◌∙◌}
use Rattle.folder_core.proofs.Taken.{hand_within}
use Rattle.folder_core.proofs.hand.InHandOutput.put.Goals as goal

pub invariant_of-self : goal.invariant_of-self
invariant_of-self g c =
    let same = c.write.ensures.same ∙ c.args.self.now.same in record {
      same = same;
      reference = c.args.self.now.reference;
      within = hand_within _ _ _ same (g.met.F.Outputs.sound c.write.new.self);
    }
