-- The marks of a profile are seen, and all take as many bytes.
use Rattle.marks.proofs.Ends.{lawful_in}
use Rattle.size_laws.proofs.Profiles.{level_of}
use Rattle.layout.proofs.view.View.new.Goals as goal

pub invariant_of-result : goal.invariant_of-result
invariant_of-result c =
    record {
      laid = c.requires;
      lawful = rw c.marks_of.ensures (lawful_in c.args.measure c.args.profile);
      level = level_of c.args.profile c.marks_of.ensures;
    }
