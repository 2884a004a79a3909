-- What is left of what was left.
use Rattle.std.proofs.Common.{rules}
use Rattle.std.proofs.lemmas.Bool.Decides.{Decides-eqb}
use Rattle.std.proofs.lemmas.Slice.Eq.{strip_prefix_is}
use Rattle.graph_same.proofs.Rests.{stripped}
use Rattle.graph_same.proofs.meet.after.Goals as goal

pub returns : goal.returns
returns c =
    let rest = c.in_ok-rest.field-0.now in
    let text = c.args.text.now in
    let e = stripped rest text c.strip_prefix.result (strip_prefix_is Decides-eqb rest text c.strip_prefix.result c.strip_prefix.ensures.cases) in
    search rules
