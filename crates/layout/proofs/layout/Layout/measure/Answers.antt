-- Each turn fills one entry of both arrays; an accepted title is there and short enough.
use Rattle.std.proofs.Common.{sym, ap, ◌∙◌, length, arith}
use Rattle.text.specs.Counted.{counted}
use Rattle.levels.specs.Filled.{filled}
use Rattle.levels.proofs.Handed.{showable}
use Rattle.tree_view.specs.Measured.{lines_of_cell, longest_of_cell}
use Rattle.tree_view.proofs.Sizes.{fill_more}
use Rattle.tree_view.proofs.Table.{lines_title, longest_title, shown_short}
use Rattle.layout.proofs.layout.Layout.measure.Goals as goal

pub loop-k-init : goal.loop-k-init
unfolding filled
loop-k-init c =
    let e = c.columns-self.ensures.1 in
    record {
      nodes = c.nodes-nodes.ensures;
      columns = c.columns-self.ensures.0;
      column = rw (c.nodes-nodes.ensures, c.requires.column) at e;
      lines = c.requires.lines;
      longest = c.requires.longest;
    }

pub measured-title-requires : goal.measured-title-requires
measured-title-requires c = omega (arith, ap length c.title.ensures, shown_short (showable c.args.shown.now) c.loop-k.k (omega arith))

pub loop-k-preserved : goal.loop-k-preserved
loop-k-preserved c =
    let l = c.loop-k in
    let a = showable c.args.shown.now in
    record {
      nodes = l.invariant.nodes;
      columns = l.invariant.columns;
      column = l.invariant.column;
      lines = fill_more _ l.k _ l.self.lines _ l.invariant.lines (c.measured-title.ensures.0 ∙ ap lines_of_cell c.title.ensures ∙ sym (lines_title a l.k (omega arith)));
      longest = fill_more _ l.k _ l.self.longest _ l.invariant.longest (c.measured-title.ensures.1 ∙ ap (longest_of_cell (counted c.args.measure)) c.title.ensures ∙ sym (longest_title a c.args.measure l.k (omega arith)));
    }
