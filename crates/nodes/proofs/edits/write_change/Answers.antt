use Rattle.std.proofs.Common.{◌∙◌, sym, leb-true, arith}
use Rattle.nodes.specs.Changing.{change_at}
use Rattle.nodes.proofs.Arms.{walk_nothing}
use Rattle.nodes.proofs.Edges.{unseen, walk_past, no_room, change_made}
use Rattle.nodes.proofs.edits.write_change.Goals as goal
use Rattle.nodes.proofs.edits.write_change.Goals.{then-upto-eq0-via-then-upto-eq0, then-upto-eq0-via-else-upto-eq0+then-blocks_in-upto}

pub returns-then-is_full-clause-changed : goal.returns-then-is_full-clause-changed
returns-then-is_full-clause-changed g c some c' n k = no_room g.Q.Summary.means c' (change_at n) (change_made n) c.args.upto (leb-true _ _ (sym c.is_full.ensures ∙ c.if-is_full.true))

pub returns-then-is_none-clause-changed : goal.returns-then-is_none-clause-changed
returns-then-is_none-clause-changed g c some c' n k = walk_nothing g.Q.Summary.means c' (change_at n) c.args.upto (unseen _ _ c.is_none.ensures c.if-is_none.true ∙ c.view.ensures)

pub returns-then-upto-eq0-clause-changed : goal.returns-then-upto-eq0-clause-changed
returns-then-upto-eq0-clause-changed g c some =
    elim c.then-upto-eq0.branch [
      | then-upto-eq0-via-then-upto-eq0 w ↦ absurd (let none = w.if-upto-eq0.true in omega arith)
      | then-upto-eq0-via-else-upto-eq0+then-blocks_in-upto w ↦ (λ c' n k. walk_past g.Q.Summary.means c' (change_at n) c.args.upto w.blocks_in.ensures w.if-blocks_in-upto.true)
    ]
